use Rattle.std.proofs.Common.{◌≡◌, ◌+◌, ◌<◌, ◌∙◌, zero, suc, ap, sym, refl, arith}
use Rattle.reduce_machine.specs.Reducts.{ticks}
use Rattle.reduce_machine.proofs.Keeping.{ticks_next, ticks_on, one_more}
use Rattle.reduce_machine.proofs.weak.take_units.Goals as goal
use Rattle.pc_rules.proofs.Meters.{no_more}

pub units-init : goal.units-init
units-init c = record { most = omega arith; taken = omega arith; account = refl; empty = refl; nest = refl }

pub returns-then-not-taken-clause-none : goal.returns-then-not-taken-clause-none
returns-then-not-taken-clause-none c =
    let z : c.units.m.account.left ≡ 0 = no_more c.tick-taken.result c.units.m.account.left c.tick-taken.ensures.was c.if-not-taken.true in
    let o : suc zero ≡ c.units.m.account.left + 1 = omega (arith, z) in
    (refl, omega (arith, z, c.units.invariant.taken, c.units.invariant.most), c.tick-taken.ensures.account ∙ ap (λ n. ticks n c.units.m.account) o ∙ c.units.invariant.empty)

pub units-preserved : goal.units-preserved
units-preserved c =
    let h : 0 < c.units.m.account.left = one_more c.tick-taken.result c.units.m.account.left c.tick-taken.ensures.was c.if-not-taken.false in
    let l : c.tick-taken.new.self.account.left + 1 ≡ c.units.m.account.left = omega (arith, h, ap (λ a. a.left) c.tick-taken.ensures.account) in
    record {
      most = omega (arith, c.units.invariant.most);
      taken = omega (arith, l, h, c.units.invariant.taken, c.units.invariant.most);
      account = ticks_next c.units.left c.units.m.account c.tick-taken.new.self.account (omega arith) c.tick-taken.ensures.account ∙ c.units.invariant.account;
      empty = ticks_on c.units.m.account c.tick-taken.new.self.account h c.tick-taken.ensures.account ∙ c.units.invariant.empty;
      nest = c.tick-taken.ensures.nest ∙ c.units.invariant.nest;
    }

pub returns-clause-ok : goal.returns-clause-ok
returns-clause-ok c =
    let z : c.units.left ≡ 0 = omega arith in
    (omega (arith, z, c.units.invariant.taken), sym (ap (λ n. ticks n c.units.m.account) z) ∙ c.units.invariant.account)
