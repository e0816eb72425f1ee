use Rattle.std.proofs.Common.{◌≡◌, ◌+◌, ◌<◌, true, false, [], ◌∷◌, ◌++◌, get_or, inl, inr, subst, sym, ap, arith}
use Rattle.std.specs.List.{All, Contains}
use Rattle.std.specs.List.Sorted.{IsStrictlyIncreasing}
use Rattle.std.proofs.lemmas.Bool.{cases_lt}
use Rattle.std.proofs.lemmas.Grind.{common_steps}
use Rattle.std.proofs.lemmas.List.Elements.{All-weaker}
use Rattle.universe_graph.proofs.PlacesLemmas.{rising-push, within-push, contains-push, contains-last}
use Rattle.universe_graph.proofs.clash.places_of.Goals as goal
use Rattle.universe_graph.proofs.clash.places_of.Goals.{then-marks-i+in_ok-push, else-marks-i}

pub loop-i-preserved : goal.loop-i-preserved
loop-i-preserved c =
    let old = c.loop-i.invariant in
    elim c.if-marks-i.branch [
      | then-marks-i+in_ok-push w ↦
          let items : c.if-marks-i.places.items ≡ c.loop-i.places.items ++ c.loop-i.i ∷ [] = grind (arith, common_steps, w.places-is, w.in_ok-push.ensures) in
          record {
            rising = subst IsStrictlyIncreasing (sym items) (rising-push c.loop-i.places.items c.loop-i.i old.rising old.within);
            within = subst (All (λ k. k < c.loop-i.i + 1)) (sym items) (within-push c.loop-i.places.items c.loop-i.i old.within);
            all = λ k h t.
                subst (λ xs. Contains xs k) (sym items) (elim (cases_lt k c.loop-i.i) [
                  | inl l ↦ contains-push c.loop-i.places.items c.loop-i.i k (old.all k l t)
                  | inr l ↦ let same : c.loop-i.i ≡ k = omega arith in subst (Contains (c.loop-i.places.items ++ c.loop-i.i ∷ [])) same (contains-last c.loop-i.places.items c.loop-i.i)
                ]);
          }
      | else-marks-i w ↦
          let items : c.if-marks-i.places.items ≡ c.loop-i.places.items = ap (λ p. p.items) w.places-is in
          record {
            rising = subst IsStrictlyIncreasing (sym items) old.rising;
            within = subst (All (λ k. k < c.loop-i.i + 1)) (sym items) (All-weaker (λ k. k < c.loop-i.i) (λ k. k < c.loop-i.i + 1) (λ k h. omega arith) c.loop-i.places.items old.within);
            all = λ k h t.
                subst (λ xs. Contains xs k) (sym items) (elim (cases_lt k c.loop-i.i) [
                  | inl l ↦ old.all k l t
                  | inr l ↦ absurd (
                      let same : k ≡ c.loop-i.i = omega arith in
                      let marked : get_or c.args.marks.now c.loop-i.i false ≡ true = subst (λ n. get_or c.args.marks.now n false ≡ true) same t in
                      cc)
                ]);
          }
    ]
