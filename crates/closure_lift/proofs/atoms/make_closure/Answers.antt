use Rattle.std.proofs.Common.{arith, ◌≡◌, ◌∷◌, ◌++◌, [], sym, ap, ◌∙◌}
use Rattle.std.proofs.lemmas.Grind.{common_steps}
use Rattle.closure_lift.specs.LiftedView.{bounds_of}
use Rattle.closure_lift.specs.Lifting.{closure_code}
use Rattle.closure_lift.specs.declared.program.LiftedOp.TheVariants as op
use Rattle.closure_lift.proofs.Counted.{bounds_append}
use Rattle.closure_lift.proofs.Making.{closure_made}
use Rattle.closure_lift.proofs.atoms.make_closure.Goals as goal

pub returns-clause-code : goal.returns-clause-code
returns-clause-code c =
    let s = c.args.variables.now.0 in
    let gs = c.args.variables.now.1 in
    let fr = c.args.frame.now in
    let old = c.args.code.now.items in
    let n = c.in_ok-number_of.field-0 in
    let as' = c.in_ok-atoms.atoms in
    let p : c.push.new.self.items ≡ old ++ op.Closure n as' ∷ [] = grind (arith, common_steps) in
    ap bounds_of p ∙ bounds_append old (op.Closure n as' ∷ []) ∙ ap (λ z. bounds_of old ++ z)
    (closure_made s gs fr c.in-Var.i c.in-Fix.number n c.in-Fix.words.now as' c.in-Fix.ensures.entry c.in-Fix.ensures.number c.in_ok-number_of.ensures.is c.in_ok-atoms.ensures.is ∙ ap (closure_code s gs fr) (sym c.in-Var.is))
