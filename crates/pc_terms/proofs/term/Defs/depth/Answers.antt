use Rattle.std.proofs.Common.{◌≡◌, get_or, ◌∙◌, max, subst as along, arith}
use Rattle.std.proofs.lemmas.List.Elements.{All-more}
use Rattle.trees.specs.Measures.{depth, above}
use Rattle.pc_terms.specs.declared.term.Def.{Def}
use Rattle.pc_terms.specs.Formed.{IsFormed}
use Rattle.pc_terms.proofs.Most.{ord_max-numbers, most-more}
use Rattle.pc_terms.proofs.term.Defs.depth.Goals as goal

pub loop-x-preserved : goal.loop-x-preserved
loop-x-preserved c =
    let P : Def → Type 0 = λ d. IsFormed d.ty × IsFormed d.body in
    let is : c.x-item.result ≡ get_or c.deref-x-items.result.now c.loop-x.x-index c.x-item.result = cc in
    let depths = most-more (λ x. max (depth x.ty) (depth x.body)) c.deref-x-items.result.now c.loop-x.x-index c.x-item.result is c.loop-x-test.true in
    let numbers = most-more (λ x. max (above x.ty) (above x.body)) c.deref-x-items.result.now c.loop-x.x-index c.x-item.result is c.loop-x-test.true in
    let largest : c.max-most.result ≡ max c.max.result c.depth-in-loop-x.result = c.max-most.ensures in
    let larger : c.max.result ≡ max c.loop-x.most c.depth.result = c.max.ensures ∙ ord_max-numbers c.loop-x.most c.depth.result in
    record {
      most_is = omega (arith, depths, largest, c.loop-x.invariant.most_is, c.depth.ensures.is, c.depth-in-loop-x.ensures.is, larger);
      depths = omega (arith, largest, c.loop-x.invariant.depths, c.depth.ensures.is, c.depth-in-loop-x.ensures.is, larger, c.depth.ensures.within.0, c.depth-in-loop-x.ensures.within.0);
      numbers = omega (arith, numbers, c.loop-x.invariant.numbers, c.depth.ensures.within.1, c.depth-in-loop-x.ensures.within.1);
      formed = All-more P c.deref-x-items.result.now c.loop-x.x-index c.x-item.result c.loop-x-test.true c.loop-x.invariant.formed (along P is (c.depth.ensures.formed, c.depth-in-loop-x.ensures.formed));
    }
