use Rattle.std.proofs.Common.{rules, ◌≡◌, ◌<◌, ◌+◌}
use Rattle.conversion.proofs.Comparing.{compare_spent, compare_nested}
use Rattle.lazy_conversion.proofs.Beginning.{compare_at_once}
use Rattle.lazy_conversion.proofs.units.compare_same.Goals as goal

pub returns-then-not-tick : goal.returns-then-not-tick
returns-then-not-tick c =
    let z : c.args.m.now.account.left ≡ 0 = search rules in
    record { follows = λ E q d equal a b s. compare_spent E q d equal a b c.args.room _ _ z c.tick.ensures.account c.tick.ensures.nest }

pub returns-then-not-enter : goal.returns-then-not-enter
returns-then-not-enter c =
    let h : 0 < c.args.m.now.account.left = search rules in
    let z : c.args.room ≡ 0 = search rules in
    let k : c.enter.new.self.nest ≡ c.tick.new.self.nest = search rules in
    record { follows = λ E q d equal a b s. compare_nested E q d equal a b c.args.room c.args.m.now c.tick.new.self c.enter.new.self z h c.tick.ensures.account c.tick.ensures.nest c.enter.ensures.account k }

pub returns : goal.returns
returns c =
    let h : 0 < c.args.m.now.account.left = search rules in
    let z : 0 < c.args.room = search rules in
    let k : c.enter.new.self.nest ≡ c.tick.new.self.nest + 1 = search rules in
    record {
      follows = λ E q d equal a b s. compare_at_once E q equal a b c.args.room d c.args.m.now c.tick.new.self c.enter.new.self c.leave.new.self z h c.tick.ensures.account c.tick.ensures.nest c.enter.ensures.account k
          c.leave.ensures.account c.leave.ensures.nest s;
    }
