use Rattle.std.proofs.Common.{◌≡◌, ◌-◌, take}
use Rattle.calculus_rules.specs.Instances.{products}
use Rattle.instances.proofs.instances.products.product_over.Given as goal

abbrev pub invariant-loop-i : goal.invariant-loop-i
invariant-loop-i l = products (take (l.count - l.i) l.types) l.product ≡ products l.types l.fn.body
