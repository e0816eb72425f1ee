use Rattle.std.proofs.Common.{rules, arith, ◌≡◌, ◌-◌, ◌<◌, [], ◌∷◌, ◌++◌, length, reverse, get_or, sym, ap, ◌∙◌, subst}
use Rattle.std.specs.Option.{option_to_list}
use Rattle.std.proofs.lemmas.Grind.{common_steps}
use Rattle.std.proofs.lemmas.List.{reverse-append}
use Rattle.closure_lift.specs.Frames.{ArePlaced}
use Rattle.closure_lift.proofs.Placing.{forgotten}
use Rattle.closure_lift.proofs.frame.Frame.pop.Goals as goal

pub invariant_of-self-2 : goal.invariant_of-self-2
invariant_of-self-2 c =
    let was = c.self.inside.held in
    let items = was.items in
    let left = c.pop.new.self.items in
    let h = c.index.result.now in
    let n : c.len-count.result ≡ length items = search rules in
    let m : was.len ≡ length items = grind (arith, common_steps) in
    let lt : 0 < length items = grind (arith, common_steps) in
    let some : 0 < was.len = omega arith in
    let e : h ≡ get_or items (length items - 1) h = grind (arith, common_steps) in
    let x = get_or items (was.len - 1) h in
    let q : items ≡ left ++ x ∷ [] = c.pop.ensures.items ∙ ap (λ o. left ++ option_to_list o) (c.pop.ensures.value h some) in
    let f : x ≡ h = ap (λ k. get_or items (k - 1) h) m ∙ sym e in
    let all : reverse items ≡ h ∷ reverse left = ap reverse q ∙ reverse-append left (x ∷ []) ∙ ap (λ z. z ∷ reverse left) f in
    forgotten c.self.inside.places c.uncover.new.places h (reverse left) (subst (ArePlaced c.self.inside.places) all c.self.invariant) c.in_ok-uncover.ensures.at
