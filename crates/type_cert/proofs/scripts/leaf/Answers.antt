use Rattle.std.proofs.Common.{◌≡◌, refl, true, false}
use Rattle.calculus_rules.specs.Same.{same}
use Rattle.pc_rules.proofs.SameTrees.{same_yes, same_no}
use Rattle.type_cert.proofs.scripts.leaf.Goals as goal

pub returns-then-same : goal.returns-then-same
returns-then-same c =
    let e : same c.args.a.now c.args.b.now ≡ true = same_yes _ _ c.same.result c.same.ensures.is c.if-same.true in
    record { is = rw e refl }

pub returns : goal.returns
returns c =
    let e : same c.args.a.now c.args.b.now ≡ false = same_no _ _ c.same.result c.same.ensures.is c.if-same.false in
    record { is = rw e refl }
