use Rattle.std.proofs.Common.{rules}
use Rattle.known_types.proofs.Worlds.{some_like, longer_again}
use Rattle.known_types.proofs.below.Below.again.Goals as goal

pub returns : goal.returns
returns c =
    let b = c.self.inside in
    record {
      of = some_like c.shared.result _ _
          (λ a p. longer_again b.from.value c.args.from.now.value b.world.value a.value b.count c.args.count b.ctx c.args.ctx.now c.self.invariant p (search rules) (search rules) (search rules) (search rules))
          c.shared.ensures.is;
    }
