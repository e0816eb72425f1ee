use Rattle.std.proofs.Common.{◌≡◌, get_or, ◌∙◌, max, subst as along, arith}
use Rattle.std.proofs.lemmas.List.Elements.{All-more}
use Rattle.trees.specs.Measures.{depth, above}
use Rattle.pc_terms.specs.declared.term.Branch.{Branch}
use Rattle.pc_terms.specs.Formed.{IsFormed}
use Rattle.pc_terms.proofs.Most.{ord_max-numbers, most-more}
use Rattle.pc_terms.proofs.term.Branches.depth.Goals as goal

pub loop-x-preserved : goal.loop-x-preserved
loop-x-preserved c =
    let P : Branch → Type 0 = λ b. IsFormed b.body in
    let is : c.x-item.result ≡ get_or c.deref-x-items.result.now c.loop-x.x-index c.x-item.result = cc in
    let depths = most-more (λ x. depth x.body) c.deref-x-items.result.now c.loop-x.x-index c.x-item.result is c.loop-x-test.true in
    let numbers = most-more (λ x. above x.body) c.deref-x-items.result.now c.loop-x.x-index c.x-item.result is c.loop-x-test.true in
    let largest : c.max-most.result ≡ max c.loop-x.most c.depth.result = c.max-most.ensures ∙ ord_max-numbers c.loop-x.most c.depth.result in
    record {
      most_is = omega (arith, depths, largest, c.loop-x.invariant.most_is, c.depth.ensures.is);
      depths = omega (arith, largest, c.loop-x.invariant.depths, c.depth.ensures.is, c.depth.ensures.within.0);
      numbers = omega (arith, numbers, c.loop-x.invariant.numbers, c.depth.ensures.within.1);
      formed = All-more P c.deref-x-items.result.now c.loop-x.x-index c.x-item.result c.loop-x-test.true c.loop-x.invariant.formed (along P is c.depth.ensures.formed);
    }
