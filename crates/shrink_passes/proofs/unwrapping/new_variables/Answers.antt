use Rattle.std.proofs.Common.{rules, ◌≡◌, ◌+◌, ◌-◌, ◌<◌, ℕ, Bool, List, [], ◌∷◌, ◌++◌, append_assoc, sym, ap, ◌∙◌, arith}
use Rattle.std.specs.Prelude.{if◌then◌else◌}
use Rattle.trees.specs.Tree.{Rel}
use Rattle.box_terms.specs.BoxSyntax.{BoxTerm, Box}
use Rattle.shrink_passes.specs.DeadPlaces.{flag_at}
use Rattle.shrink_passes.specs.Pruned.{kept, variables}
use Rattle.shrink_passes.proofs.Unwrapped.{kept_next, variables_next}
use Rattle.shrink_passes.proofs.unwrapping.new_variables.Goals as goal

pub loop-p-preserved : goal.loop-p-preserved
loop-p-preserved c =
    let D : ℕ → Bool = λ p. flag_at p c.args.dead.now in
    let p = c.loop-p.p in
    let n = c.args.n in
    let l : p < n = grind arith in
    let old : List BoxTerm = c.loop-p.terms in
    let more : List BoxTerm = variables D (p + 1) (n - (p + 1)) in
    let e = c.rest_of-left.ensures.is ∙ ap (λ (z : Bool). c.loop-p.left - (if z then 0 else 1)) c.at-dropped.ensures.is in
    let left : c.rest_of-left.result ≡ kept D (p + 1) (n - (p + 1)) = omega (arith, e, kept_next D p n l, c.loop-p.invariant.left) in
    let x : c.in_ok-term.term ≡ (if D p then Box else Rel (kept D (p + 1) (n - (p + 1)))) = c.in_ok-term.ensures.is ∙ (λ i. if c.at-dropped.ensures.is i then Box else Rel (left i)) in
    let pushed : c.push.new.self ≡ old ++ c.in_ok-term.term ∷ [] = search rules in
    record {
      left = left;
      terms = ap (λ xs. xs ++ more) pushed ∙ append_assoc old (c.in_ok-term.term ∷ []) more ∙ ap (λ y. old ++ y ∷ more) x ∙ ap (λ vs. old ++ vs) (sym (variables_next D p n l)) ∙ c.loop-p.invariant.terms;
    }
