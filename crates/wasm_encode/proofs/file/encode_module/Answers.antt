use Rattle.std.proofs.Common.{rules, ◌≡◌, ◌≤◌, length, subst, sym, ap, arith}
use Rattle.wasm_core.specs.ModuleGrammar.{SpellsModule}
use Rattle.wasm_core.specs.ShortestBytes as shortest
use Rattle.wasm_encode.proofs.Putting.{module_put}
use Rattle.wasm_core.proofs.Whole.{printed}
use Rattle.wasm_encode.proofs.file.encode_module.Goals as goal

pub returns : goal.returns
returns c =
    let e : c.put_sections.new.out.items ≡ shortest.module_bytes c.args.m.now = module_put c.args.m.now _ _ _ c.new-out.ensures.items c.in_ok-put_header.ensures.puts c.in_ok-put_sections.ensures.puts in
    let l : length c.put_sections.new.out.items ≤ shortest.most_bytes = search rules in
    let s : SpellsModule (shortest.module_bytes c.args.m.now) c.args.m.now = printed c.args.m.now c.spelled.ensures.holds (let n = ap length e in omega (arith, n, l)) in
    record { writes = (e, l, subst (λ w. SpellsModule w c.args.m.now) (sym e) s) }
