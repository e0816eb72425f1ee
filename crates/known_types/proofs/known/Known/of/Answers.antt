use Rattle.std.proofs.Common.{rules, ap}
use Rattle.known_types.specs.declared.known.Took.{Took}
use Rattle.known_types.proofs.Numbers.{known_from}
use Rattle.known_types.proofs.known.Known.of.Goals as goal

pub invariant_of-result : goal.invariant_of-result
invariant_of-result c =
    known_from c.args.world.now.value c.in_ok-world.world.value c.args.room c.args.t.now c.in-Ok-Ok.term c.args.ty.now c.in-Ok-Ok.ty c.args.before.now c.args.after.now c.in-Ok.took.value.before
    c.in-Ok.took.value.after c.in_ok-world.ensures.is c.in-Ok-Ok.ensures.ok c.in-Ok-Ok.ensures'.ok (ap (λ (k : Took). k.before) c.in-Ok.ensures.ok) (ap (λ (k : Took). k.after) c.in-Ok.ensures.ok)
    c.requires.run (search rules)
