use Rattle.std.proofs.Common.{refl, ap, sym, ◌∙◌, false, subst as along}
use Rattle.reduce_machine.specs.Layers.{IsMatchNode}
use Rattle.reduce_machine.specs.Reads.{read}
use Rattle.lazy_conversion.proofs.ValueHeads.{code_head}
use Rattle.lazy_conversion.proofs.SameSpines.{no_answer, answer_along, fault_where, beyond_along}
use Rattle.lazy_conversion.proofs.same_values.same_plain.Goals as goal

pub returns-in-Some-clause-ok : goal.returns-in-Some-clause-ok
returns-in-Some-clause-ok c =
    let e = rw c.in-Some.is at c.stuck_match.ensures.is in
    no_answer false refl (λ p. c.requires.other (along (λ t. IsMatchNode t) (sym (p ∙ e)) tt))

pub returns-in-None-clause-ok : goal.returns-in-None-clause-ok
returns-in-None-clause-ok c =
    let n = rw c.in-None.is at c.stuck_match.ensures.is in
    let x = ap read c.code.ensures.is ∙ sym (code_head c.args.x c.requires.left c.requires.other) in
    let y = ap read c.code-in-None.ensures.is ∙ sym (code_head c.args.y c.requires.right n) in
    answer_along _ _ _ _ c.same_lazies.result x y c.same_lazies.ensures.ok

pub returns-in-None-clause-too_deep : goal.returns-in-None-clause-too_deep
returns-in-None-clause-too_deep c =
    let n = rw c.in-None.is at c.stuck_match.ensures.is in
    let x = ap read c.code.ensures.is ∙ sym (code_head c.args.x c.requires.left c.requires.other) in
    let y = ap read c.code-in-None.ensures.is ∙ sym (code_head c.args.y c.requires.right n) in
    fault_where _ _ c.same_lazies.result (beyond_along _ _ _ _ x y) c.same_lazies.ensures.too_deep
