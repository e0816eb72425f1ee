use Rattle.std.proofs.Common.{◌≡◌, ◌∙◌, ◌↔◌, IsTrue, ap, subst}
use Rattle.universe_graph.specs.declared.graph.Table.{Table}
use Rattle.universe_levels.specs.Consistency.{Entails, IsOver}
use Rattle.universe_graph.specs.Constrained.{Constrained}
use Rattle.universe_graph.specs.Spans.{span, IsCovered}
use Rattle.universe_graph.proofs.Refuting.{covered-entails, entails-covered}
use Rattle.universe_graph.proofs.graph.Graph.entails.Goals as goal

pub returns : goal.returns
returns c =
    let table = c.self.invariant in
    let low : c.parts.result.now ≡ c.args.low.now = c.parts.ensures.parts in
    let high : c.parts-2.result.now ≡ c.args.high.now = c.parts-2.ensures.parts in
    let rows = c.as_slice.ensures.value ∙ ap (λ (t : Table). t.rows.items) c.deref.ensures in
    let Test : Type 0 = IsTrue c.covers.result in
    let first : Test ↔ IsCovered (span c.self.inside.table.value.rows.items) c.parts.result.now c.parts-2.result.now =
    subst (λ r. Test ↔ IsCovered (span r) c.parts.result.now c.parts-2.result.now) rows c.covers.ensures.covered in
    let second : Test ↔ IsCovered (span c.self.inside.table.value.rows.items) c.args.low.now c.parts-2.result.now =
    subst (λ l. Test ↔ IsCovered (span c.self.inside.table.value.rows.items) l c.parts-2.result.now) low first in
    let third : Test ↔ IsCovered (span c.self.inside.table.value.rows.items) c.args.low.now c.args.high.now =
    subst (λ h. Test ↔ IsCovered (span c.self.inside.table.value.rows.items) c.args.low.now h) high second in
    let Fact : Constrained → Type 0 = λ g. IsOver g.levels c.args.low.now → IsOver g.levels c.args.high.now → Test ↔ Entails g.levels g.constraints c.args.low.now c.args.high.now in
    let inside : Fact (record { levels = c.self.inside.table.value.levels; constraints = c.self.inside.table.value.constraints.items }) = λ low_over high_over. (
      λ t. covered-entails c.self.inside.table.value.levels c.self.inside.table.value.constraints.items (span c.self.inside.table.value.rows.items) c.args.low.now c.args.high.now table.closed.sound (third.0 t),
      λ e. third.1 (entails-covered c.self.inside.table.value.levels c.self.inside.table.value.constraints.items (span c.self.inside.table.value.rows.items) table.over table.closed c.args.low.now c.args.high.now
          c.parts-2.ensures.normal.0 low_over high_over e),
    ) in
    record { entailed = subst Fact c.self.view_is inside c.requires.low_over c.requires.high_over }
