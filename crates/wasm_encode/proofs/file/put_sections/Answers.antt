-- The section that is put is the next of them; the first that fails is the answer.
use Rattle.std.proofs.Common.{rules, ◌≡◌, Err, refl, subst, sym}
use Rattle.wasm_core.specs.ShortestBytes as shortest
use Rattle.wasm_encode.specs.Puts.{PutsUnless}
use Rattle.wasm_encode.specs.Sections.{sections}
use Rattle.wasm_encode.proofs.Putting.{puts_next, fails_next}
use Rattle.wasm_encode.proofs.file.put_sections.Goals as goal

pub loop-at-preserved : goal.loop-at-preserved
loop-at-preserved c = puts_next (λ put. put) (sections c.args.m.now) _ (λ w. w) _ _ _ _ _ c.loop-at-test.true refl c.loop-at.invariant c.in_ok-put_section_at.ensures.puts

pub returns-in_err-put_section_at : goal.returns-in_err-put_section_at
returns-in_err-put_section_at c =
    let q : c.from_residual.result ≡ Err c.in_err-put_section_at.field-0.0 = search rules in
    let out = c.put_section_at.new.out.items in
    let fails = fails_next (λ put. put) (sections c.args.m.now) _ (λ w. w) _ _ _ _ out _ _ c.loop-at-test.true refl c.loop-at.invariant c.in_err-put_section_at.ensures.puts in
    record { puts = subst (λ r. PutsUnless r c.args.out.now.items out (shortest.put_sections c.args.m.now)) (sym q) fails }
