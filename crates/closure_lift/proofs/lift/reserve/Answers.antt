use Rattle.std.proofs.Common.{arith, ◌≡◌, ◌∷◌, ◌++◌, [], sym, ap, ◌∙◌, append_assoc}
use Rattle.std.proofs.lemmas.Grind.{common_steps}
use Rattle.closure_lift.specs.Lifted.{Fn}
use Rattle.closure_lift.specs.LiftedView.{functions_of}
use Rattle.closure_lift.specs.Lifting.{blanks}
use Rattle.closure_lift.specs.declared.program.Function.{Function}
use Rattle.closure_lift.proofs.Counted.{functions_append}
use Rattle.closure_lift.proofs.Making.{blanks_more}
use Rattle.closure_lift.proofs.lift.reserve.Goals as goal

pub loop-i-preserved : goal.loop-i-preserved
loop-i-preserved c =
    let old = c.loop-i.functions.items in
    let all = functions_of c.args.functions.now.items in
    let n = c.loop-i._i in
    let x : Function = record { captured = 0; body = c.boxed.result } in
    let p : c.push.new.self.items ≡ old ++ x ∷ [] = grind (arith, common_steps) in
    ap functions_of p ∙ functions_append old (x ∷ []) ∙ ap (λ z. z ++ functions_of (x ∷ [])) c.loop-i.invariant ∙ append_assoc all (blanks n) (functions_of (x ∷ []))
    ∙ ap (λ z. all ++ z) (ap (λ t. let y : Fn = record { captured = 0; body = t } in blanks n ++ y ∷ []) c.boxed.ensures.is ∙ sym (blanks_more n))
