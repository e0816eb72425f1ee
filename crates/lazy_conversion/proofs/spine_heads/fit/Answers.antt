use Rattle.std.proofs.Common.{◌∙◌, sym}
use Rattle.pc_rules.specs.DirectedComparison.{alike}
use Rattle.reduce_machine.specs.Reads.{read}
use Rattle.lazy_conversion.proofs.ValueHeads.{code_shown}
use Rattle.lazy_conversion.proofs.ValueKinds.{heads_alike, fits}
use Rattle.lazy_conversion.proofs.spine_heads.fit.Goals as goal

pub alike_codes-requires-clause-left : goal.alike_codes-requires-clause-left
alike_codes-requires-clause-left c = rw c.code.ensures.is (code_shown c.args.x c.requires.left)

pub alike_codes-requires-clause-right : goal.alike_codes-requires-clause-right
alike_codes-requires-clause-right c = rw c.code-then-count.ensures.is (code_shown c.args.y c.requires.right)

pub returns-then-count : goal.returns-then-count
returns-then-count c =
    let e = heads_alike c.args.x c.args.y c.requires.left c.requires.right in
    let k = (λ j. alike (read (c.code.ensures.is j)) (read (c.code-then-count.ensures.is j))) ∙ sym e in
    record { is = fits _ _ c.alike_codes.result _ (sym c.count.ensures.is ∙ c.if-count.true ∙ c.count-2.ensures.is) (c.alike_codes.ensures.is ∙ k) }
