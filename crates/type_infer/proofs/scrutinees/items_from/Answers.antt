use Rattle.std.proofs.Common.{◌≡◌, ◌∙◌, ◌+◌, sym, ap, [], ◌∷◌, ◌++◌, drop, append-nil}
use Rattle.type_infer.proofs.MatchLists.{one_more_item}
use Rattle.type_infer.proofs.scrutinees.items_from.Goals as goal
use Rattle.pc_rules.proofs.ListSteps.{none_left}

pub loop-i-preserved : goal.loop-i-preserved
loop-i-preserved c =
    let e = c.in_ok-push.ensures.ok ∙ ap (λ t. c.loop-i.out ++ (t ∷ [])) c.in_ok-item.ensures.ok in
    ap (λ ts. ts ++ drop (c.loop-i.i + 1) c.as_slice-items.result.now) e
    ∙ one_more_item c.loop-i.out c.as_slice-items.result.now c.loop-i.i c.index-items-i.result c.loop-i-test.true c.index-items-i.is ∙ c.loop-i.invariant

pub returns-clause-ok : goal.returns-clause-ok
returns-clause-ok c =
    let none : drop c.loop-i.i c.as_slice-items.result.now ≡ [] = none_left c.as_slice-items.result.now c.loop-i.i c.loop-i-test.false in
    let whole = sym (append-nil c.loop-i.out) ∙ ap (λ ts. c.loop-i.out ++ ts) (sym none) ∙ c.loop-i.invariant in
    rw c.as_slice-items.ensures.is at whole
