use Rattle.std.proofs.Common.{rules, ◌≡◌, ◌<◌, arith}
use Rattle.type_infer.proofs.Sorts.{below_spent, below_nested, below_entered}
use Rattle.type_infer.proofs.universes.sorts_below.Goals as goal

pub returns-then-not-tick : goal.returns-then-not-tick
returns-then-not-tick c = record { follows = λ d n p. below_spent _ _ d _ _ n c.args.m.now c.tick.new.self (search rules) c.tick.ensures.account c.tick.ensures.nest }

pub returns-then-room-eq0 : goal.returns-then-room-eq0
returns-then-room-eq0 c =
    record {
      follows = λ d n p. let z : n ≡ 0 = grind (arith, p, c.room.ensures.is, c.if-room-eq0.true, c.tick.ensures.nest) in
          below_nested _ _ d _ _ n c.args.m.now c.tick.new.self z (search rules) c.tick.ensures.account c.tick.ensures.nest;
    }

pub returns : goal.returns
returns c =
    record {
      follows = λ d n p. let z : 0 < n = grind (arith, p, c.room.ensures.is, c.if-room-eq0.false, c.tick.ensures.nest) in
          below_entered _ _ d _ _ n _ c.args.m.now c.tick.new.self z (search rules) c.tick.ensures.account c.tick.ensures.nest (λ k. c.stand_below.ensures.answers d k c.tick.new.self.account);
    }
