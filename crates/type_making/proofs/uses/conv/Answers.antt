use Rattle.std.proofs.Common.{rules, ◌≡◌, ◌<◌}
use Rattle.pc_rules.specs.DirectedRun.{done, noted}
use Rattle.pc_rules.specs.DirectedTyping.{conv}
use Rattle.pc_rules.proofs.Following.{follows_spent, follows_tick, follows_noted, follows_done}
use Rattle.type_making.proofs.uses.conv.Goals as goal

pub returns-then-not-tick : goal.returns-then-not-tick
unfolding conv
returns-then-not-tick c =
    let z : c.args.m.now.account.left ≡ 0 = search rules in
    record { follows = follows_spent _ _ _ z c.tick.ensures.account c.tick.ensures.nest }

pub returns : goal.returns
unfolding conv
returns c =
    let h : 0 < c.args.m.now.account.left = search rules in
    let f = follows_noted (λ v. done tt v) _ 12 c.tick.new.self c.note.new.self c.note.new.self c.note.ensures.account c.note.ensures.nest (follows_done tt c.note.new.self) in
    record { follows = follows_tick (λ v. done tt (noted 12 v)) _ c.args.m.now c.tick.new.self c.note.new.self h c.tick.ensures.account c.tick.ensures.nest f }
