use Rattle.std.proofs.Common.{◌≡◌, ◌∙◌, sym, ap}
use Rattle.reduce_machine.specs.Cells.{bound_of}
use Rattle.reduce_machine.proofs.Memos.{cells_same}
use Rattle.reduce_machine.proofs.bindings.Bindings.same.Goals as goal

pub returns-in-Some-Some : goal.returns-in-Some-Some
returns-in-Some-Some c = record {
  is = λ h. let e = sym (ap (λ x. x.stamp) c.deref.ensures) ∙ c.same.ensures.is h ∙ ap (λ x. x.stamp) c.deref-in-Some-Some.ensures in
      let k = cells_same c.self.inside.first c.other.inside.first c.in-Some-Some.cell c.in-Some-Some.other c.in-Some-Some.is-0 c.in-Some-Some.is-1 c.self.invariant c.other.invariant e in
      cc;
}
