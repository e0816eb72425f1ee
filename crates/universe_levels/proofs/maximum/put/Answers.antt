use Rattle.std.proofs.Common.{◌≡◌, ◌≢◌, ◌<◌, ◌≤◌, length, max, get_or, ap, arith}
use Rattle.std.proofs.lemmas.Grind.{common_steps}
use Rattle.std.proofs.lemmas.Bool.Decides.{nat_tests}
use Rattle.universe_levels.specs.declared.level.LevelExpr.{LevelExpr}
use Rattle.universe_levels.specs.Places.{level_at}
use Rattle.universe_levels.proofs.Placing.{with_part-insert, with_part-set}
use Rattle.universe_levels.proofs.maximum.put.Goals as goal
use Rattle.universe_levels.proofs.maximum.put.Goals.{else-i-len-via-then-i-len+else-eq, else-i-len-via-else-i-len}

pub returns-then-eq-clause-value : goal.returns-then-eq-clause-value
returns-then-eq-clause-value c =
    let here : c.index-then-eq.result.now ≡ c.index_mut.result.now = grind (arith, common_steps) in
    let tested : c.index.result.now ≡ c.index_mut.result.now = grind (arith, common_steps) in
    let most : c.max.result ≡ max c.index_mut.result.now.add c.args.part.add = rw (← here) c.max.ensures in
    let level : c.args.part.level.0 ≡ c.index_mut.result.now.level.0 = rw (← tested) (grind (arith, nat_tests, c.if-eq.ensures)) in
    let found = rw c.as_slice.ensures.value at c.place-i.ensures in
    with_part-set c.args.part c.args.kept.now.items c.place-i.result c.index_mut.result.now c.max.result (omega arith)
    c.index_mut.ensures.value found.lesser level most

pub returns-clause-value : goal.returns-clause-value
returns-clause-value c =
    let found = rw c.as_slice.ensures.value at c.place-i.ensures in
    let above : c.place-i.result < length c.args.kept.now.items → c.args.part.level.0 < level_at c.args.kept.now.items c.place-i.result =
    elim c.else-i-len.branch [
      | else-i-len-via-then-i-len+else-eq w ↦ λ h.
          let none : LevelExpr = record { level = record { 0 = 0 }; add = 0 } in
          let here : get_or c.args.kept.now.items c.place-i.result none ≡ w.index.result.now = grind (arith, common_steps) in
          let least : c.args.part.level.0 ≤ level_at c.args.kept.now.items c.place-i.result = found.others c.place-i.result (omega arith) h in
          let level : level_at c.args.kept.now.items c.place-i.result ≡ w.index.result.now.level.0 = ap (λ p. p.level.0) here in
          let other : w.index.result.now.level.0 ≢ c.args.part.level.0 = grind (arith, nat_tests, w.if-eq.ensures) in
          omega arith
      | else-i-len-via-else-i-len w ↦ λ h. absurd (omega arith)
    ] in
    grind (arith, common_steps, with_part-insert c.args.part c.args.kept.now.items c.place-i.result found.bound found.lesser above)
