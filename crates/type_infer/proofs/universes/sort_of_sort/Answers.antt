use Rattle.std.proofs.Common.{rules}
use Rattle.type_infer.proofs.Beginning.{infer_spent, infer_nested}
use Rattle.type_infer.proofs.Sorts.{infer_sort}
use Rattle.type_infer.proofs.universes.sort_of_sort.Goals as goal

pub returns-then-not-tick : goal.returns-then-not-tick
returns-then-not-tick c = record { follows = λ d n p. infer_spent _ _ d _ n c.args.m.now c.tick.new.self (search rules) c.tick.ensures.account c.tick.ensures.nest }

pub returns-then-not-enter : goal.returns-then-not-enter
returns-then-not-enter c =
    record { follows = λ d n p. infer_nested _ _ d _ n c.args.m.now c.tick.new.self c.enter.new.self (search rules) (search rules) c.tick.ensures.account c.tick.ensures.nest c.enter.ensures.account (search rules) }

pub returns : goal.returns
returns c =
    record {
      follows = λ d n p. infer_sort c.args.env.now c.args.s.now d n c.sort_stands-answer.result c.args.m.now c.tick.new.self c.enter.new.self c.note.new.self c.leave.new.self (search rules) (search rules) c.tick.ensures.account c.tick.ensures.nest
          c.enter.ensures.account (search rules) c.note.ensures.account c.note.ensures.nest c.sort_stands-answer.ensures.answers c.leave.ensures.account c.leave.ensures.nest;
    }
