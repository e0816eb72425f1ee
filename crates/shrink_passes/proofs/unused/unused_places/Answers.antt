use Rattle.std.proofs.Common.{arith, ◌≡◌, length, ap, ◌∙◌}
use Rattle.shrink_passes.specs.DropParams.{leading}
use Rattle.shrink_passes.specs.DeadPlaces.{flag_at}
use Rattle.shrink_passes.proofs.UnusedPlaces.{spare_reversed}
use Rattle.shrink_passes.proofs.unused.unused_places.Goals as goal

pub returns-clause-is : goal.returns-clause-is
returns-clause-is c = λ p.
    let len : length c.in_ok-spare.spare ≡ leading c.args.body.now = omega (arith, c.in_ok-spare.ensures.len) in
    ap (flag_at p) c.reversed.ensures.is ∙ spare_reversed c.args.body.now c.in_ok-spare.spare c.in_ok-spare.ensures.is len p
