use Rattle.std.proofs.Common.{rules, ◌≡◌, ◌<◌, length, sym, subst, Err}
use Rattle.wasm_decode.specs.Found.{parts_of}
use Rattle.wasm_decode.specs.Reading.{ReadsSections}
use Rattle.wasm_decode.proofs.Filing.{unfiled, all_filed, some_missing, same_number, other_number}
use Rattle.wasm_decode.proofs.file.sections.Goals as goal

pub returns-in_err-last : goal.returns-in_err-last
returns-in_err-last c =
    let q : c.from_residual.result ≡ Err c.in_err-last.field-0.0 = search rules in
    let s : 0 < length c.loop-alloc.c.rest.now = search rules in
    record { reads = subst (λ r. ReadsSections r c.args.c.now (parts_of c.args.m.now) (parts_of c.next_section.new.m)) (sym q) (unfiled _ _ _ _ _ _ _ _ _ s c.loop-alloc.invariant c.in_err-last.ensures.reads) }

pub returns-then-len : goal.returns-then-len
returns-then-len c =
    let s : length c.loop-alloc.c.rest.now ≡ 0 = search rules in
    let e : length c.loop-alloc.m.funcs.items ≡ length c.loop-alloc.m.bodies.items = search rules in
    record { reads = all_filed _ _ _ _ _ s (same_number c.loop-alloc.m e) c.loop-alloc.invariant }

pub returns-else-len : goal.returns-else-len
returns-else-len c =
    let s : length c.loop-alloc.c.rest.now ≡ 0 = search rules in
    let e : length c.loop-alloc.m.funcs.items ≡ length c.loop-alloc.m.bodies.items → ⊥ = search rules in
    record { reads = some_missing _ _ _ _ _ _ s (other_number c.loop-alloc.m e) c.loop-alloc.invariant }
