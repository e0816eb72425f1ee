use Rattle.std.proofs.Common.{rules, ◌<◌, ◌≡◌, ◌∙◌, length, Err, subst, sym}
use Rattle.wasm_core.specs.ShortestBytes as shortest
use Rattle.wasm_encode.specs.Puts.{PutsUnless}
use Rattle.wasm_encode.proofs.Putting.{list_from, section_puts, section_fails}
use Rattle.wasm_encode.proofs.file.put_code_section.Goals as goal

pub returns : goal.returns
returns c =
    let some : 0 < length c.args.bs.now = search rules in
    record { puts = section_puts 10 shortest.put_body c.args.bs.now _ _ _ _ some (c.deref.ensures.value ∙ list_from shortest.put_body c.args.bs.now _ _ _ c.new-part.ensures.items c.in_ok-put_u32.ensures.puts c.in_ok-put_bodies.ensures.puts) c.put_section.ensures.puts }

pub returns-in_err-put_bodies : goal.returns-in_err-put_bodies
returns-in_err-put_bodies c =
    let some : 0 < length c.args.bs.now = search rules in
    let q : c.from_residual-in_err-put_bodies.result ≡ Err c.in_err-put_bodies.field-0.0 = search rules in
    record { puts = subst (λ r. PutsUnless r c.args.out.now.items c.args.out.now.items (shortest.put_section 10 shortest.put_body c.args.bs.now)) (sym q) (section_fails 10 shortest.put_body c.args.bs.now _ _ _ _ _ some c.in_err-put_bodies.ensures.puts) }
