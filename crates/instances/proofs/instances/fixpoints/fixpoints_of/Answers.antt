use Rattle.std.proofs.Common.{◌∷◌, [], ◌++◌, length, ap, sym, ◌∙◌, arith}
use Rattle.pc_terms.specs.Lists.{rargs_of, types_of, bodies_of}
use Rattle.pc_terms.proofs.Parts.{rargs_length}
use Rattle.calculus_rules.specs.Instances.{fixpoints}
use Rattle.instances.specs.Unfolding.{fixpoint_at}
use Rattle.instances.proofs.Definitions.{fixpoints-next}
use Rattle.instances.proofs.instances.fixpoints.fixpoints_of.Goals as goal

pub make-requires : goal.make-requires
make-requires c =
    let same = ap length c.in_ok-all.ensures.ok in
    omega (arith, rargs_length c.in_ok-all.all, same)

pub loop-i-preserved : goal.loop-i-preserved
loop-i-preserved c =
    c.in_ok-push.ensures.ok ∙ ap (λ ts. ts ++ (c.in_ok-fixpoint.fixpoint ∷ [])) c.loop-i.invariant
    ∙ ap (λ t. fixpoints 0 c.loop-i.i (rargs_of c.args.defs.now) (types_of c.args.defs.now) (bodies_of (length c.args.defs.now) c.args.defs.now) ++ (t ∷ []))
    (c.in_ok-fixpoint.ensures.ok ∙ ap (λ ds. fixpoint_at ds c.loop-i.i) c.in_ok-all.ensures.ok)
    ∙ sym (fixpoints-next c.loop-i.i (rargs_of c.args.defs.now) (types_of c.args.defs.now) (bodies_of (length c.args.defs.now) c.args.defs.now))
