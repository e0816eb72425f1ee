use Rattle.std.proofs.Common.{◌≡◌}
use Rattle.box_terms.specs.BoxSyntax.{BConstruct}
use Rattle.lambda_box.specs.BoxProgram.{box_apply}
use Rattle.box_passes.specs.Saturate.{innermost, lambdas, constructor_function}
use Rattle.box_passes.proofs.saturation.function.Given as goal

abbrev pub invariant-variables : goal.invariant-variables
invariant-variables l = box_apply l.t (innermost l.i) ≡ box_apply (BConstruct l.fn.f l.fn.c) (innermost l.fn.k.args)

abbrev pub decreases-variables : goal.decreases-variables
decreases-variables l = l.i

abbrev pub invariant-binders : goal.invariant-binders
invariant-binders l = lambdas l.binders l.t ≡ constructor_function l.fn.k.params l.fn.k.args l.fn.f l.fn.c

abbrev pub decreases-binders : goal.decreases-binders
decreases-binders l = l.binders
