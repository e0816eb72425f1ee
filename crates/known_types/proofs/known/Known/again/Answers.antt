use Rattle.std.proofs.Common.{rules, ap, arith}
use Rattle.known_types.specs.declared.known.Took.{Took}
use Rattle.known_types.proofs.Giving.{given_again}
use Rattle.known_types.proofs.known.Known.again.Goals as goal

pub returns-then-spend : goal.returns-then-spend
returns-then-spend c =
    let k = c.self.inside in
    let s = c.if-spend.ensures in
    record {
      gives = given_again c.directed_rules_take_alike.ensures.measured k.world.value c.args.world.now.value k.room c.args.room (search rules) k.term c.args.t.now k.ty c.in-Ok.ty k.took.value.before
          k.took.value.after c.deref.result.now.before c.deref-2.result.now.after c.self.invariant (search rules) (search rules) (search rules) c.in-Ok.ensures.ok
          (ap (λ (x : Took). x.before) c.deref.ensures) (ap (λ (x : Took). x.after) c.deref-2.ensures) c.args.m.now c.spend.new.m (search rules) (search rules) (search rules) (search rules)
          c.spend.ensures.nest;
    }
