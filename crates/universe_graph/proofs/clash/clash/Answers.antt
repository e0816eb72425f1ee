use Rattle.std.proofs.Common.{◌≡◌, ◌<◌, length, ap, subst, ◌∙◌}
use Rattle.std.specs.List.{All}
use Rattle.std.proofs.lemmas.List.Elements.{All-contains}
use Rattle.universe_graph.specs.Listed.{MeetsAt}
use Rattle.universe_graph.proofs.clash.clash.Goals as goal

pub returns : goal.returns
returns c =
    let marks = c.as_slice.ensures.value in
    let long : length c.as_slice.result.now ≡ length c.args.constraints.now = ap length marks ∙ c.in_ok-marks.ensures.length in
    record {
      value = record {
        rising = c.in_ok-places.ensures.rising;
        within = subst (λ n. All (λ i. i < n) c.in_ok-places.places.items) long c.in_ok-places.ensures.within;
        alone = λ v valuation met.
            c.in_ok-marks.ensures.clashing v valuation (λ k h t.
            All-contains (MeetsAt v c.args.constraints.now) c.in_ok-places.places.items k met
            (let all = rw marks at c.in_ok-places.ensures.all in all k h t));
      };
    }
