use Rattle.std.proofs.Common.{◌≡◌, ◌<◌, true, false, length, get_or, replicate, ap, ◌∙◌, arith}
use Rattle.std.proofs.lemmas.Grind.{common_steps}
use Rattle.universe_levels.specs.Valuation.{Meets}
use Rattle.universe_graph.proofs.PlacesLemmas.{at-place}
use Rattle.universe_graph.proofs.clash.clashing.Goals as goal

pub returns-clause-clashing : goal.returns-clause-clashing
returns-clause-clashing c v valuation met =
    c.requires.inconsistent v (record {
      valuation = valuation;
      meets = λ k d h.
          let items : c.in_ok-all.all.items ≡ replicate (length c.args.constraints.now) true = c.in_ok-all.ensures.items_if_clones_equal (λ y h. h) in
          let inside : k < length c.in_ok-all.all.items = let long : length c.in_ok-all.all.items ≡ length c.args.constraints.now = ap length items ∙ grind (arith, common_steps) in omega arith in
          let marked : get_or c.in_ok-all.all.items k false ≡ true = ap (λ xs. get_or xs k false) items ∙ grind (arith, common_steps) in
          at-place (Meets v) c.args.constraints.now k d h (met k inside marked);
    })
