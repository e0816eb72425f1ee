-- The arguments of a constructor, from one on.
use Rattle.std.proofs.Common.{◌≡◌, ◌∙◌, sym, ap, refl, ℕ, ◌+◌, ◌<◌, ◌≤◌, List, [], ◌∷◌, length, drop, get_or, Result, Ok, Err, subst}
use Rattle.universe_levels.specs.declared.sort.Sort.{Sort}
use Rattle.pc_terms.specs.Syntax.{Term}
use Rattle.calculus_rules.specs.declared.entry.Entry.TheVariants.{Assumed}
use Rattle.calculus_rules.specs.Context.{Context}
use Rattle.pc_rules.specs.Entailment.{test_of}
use Rattle.pc_rules.specs.DirectedDeclarations.{fits_sort}
use Rattle.pc_rules.proofs.ListSteps.{next_is, none_left}
use Rattle.cert_rules.specs.Walk.{WalkState, Walk, pass, walk_on, by_rules}
use Rattle.cert_rules.specs.WalkDeclarations.{walk_arguments}
use Rattle.cert_rules.proofs.Collecting.{collected_before}
use Rattle.type_cert.specs.declared.halt.WalkHalt.{WalkHalt}
use Rattle.type_cert.specs.declared.trail.Trail.{Trail}
use Rattle.type_cert.specs.declared.verifier.Verifier.{Verifier}
use Rattle.type_cert.specs.Retraces.{stand, Retraces}
use Rattle.type_cert.specs.Going.{sorting}
use Rattle.type_cert.proofs.Retracing.{retraces_pass, walk_assoc, pass_on}
use Rattle.block_cert.specs.BlockWalks.{argument_walk, arguments_walk}
use Rattle.block_cert.proofs.InTurn.{collected, collect_next, collect_stop}

module _ (v : Verifier) (r : Sort) where
  -- the first argument, and the others under it
  arguments_split : (c : Context) (A : Term) (As : List Term) (u : WalkState) →
      arguments_walk v r c (A ∷ As) u ≡ collected (argument_walk v r c A u) (arguments_walk v r (Assumed A ∷ c) As) (λ x. x)
  unfolding walk_arguments
  arguments_split c A As u =
      let rest : Sort → WalkState → Walk (List Sort) = λ x w. walk_on (arguments_walk v r (Assumed A ∷ c) As w) (λ xs y. pass (x ∷ xs) y) in
      let fits : Sort → WalkState → Walk (Unit {0}) = λ x w. by_rules (fits_sort (test_of v.env.now) r x) w in
      let inner : (x : Sort) (w : WalkState) → walk_on (walk_on (fits x w) (λ _ y. pass x y)) rest ≡ walk_on (fits x w) (λ _ y. rest x y) =
      λ x w. walk_assoc (λ _ y. pass x y) rest (fits x w) ∙ (λ i. walk_on (fits x w) (λ _ y. pass_on x y rest i)) in
      sym (walk_assoc (λ x w. walk_on (fits x w) (λ _ y. pass x y)) rest (sorting v c A u) ∙ (λ i. walk_on (sorting v c A u) (λ x w. inner x w i)))

  no_arguments : (c : Context) (u : WalkState) → arguments_walk v r c [] u ≡ pass [] u
  unfolding walk_arguments
  no_arguments c u = refl

  module _ (c : Context) (As : List Term) (i : ℕ) where
    pub arguments_end : (t : Trail) → length As ≤ i → Retraces (arguments_walk v r c (drop i As) (stand t)) (Ok []) t t
    arguments_end t l =
        subst (λ d. Retraces d (Ok []) t t) (sym (ap (λ xs. arguments_walk v r c xs (stand t)) (none_left As i l) ∙ no_arguments c (stand t))) (retraces_pass [] t)

    module _ (A : Term) (l : i < length As) (is : A ≡ get_or As i A) where
      from_argument : (u : WalkState) → arguments_walk v r c (drop i As) u ≡ collected (argument_walk v r c A u) (arguments_walk v r (Assumed A ∷ c) (drop (i + 1) As)) (λ x. x)
      from_argument u = ap (λ xs. arguments_walk v r c xs u) (next_is As i A l is) ∙ arguments_split c A (drop (i + 1) As) u

      pub argument_next : (x : Sort) (t0 t1 : Trail) → Retraces (argument_walk v r c A (stand t0)) (Ok x) t0 t1 → (a : Result (List Sort) WalkHalt) (t : Trail) →
          Retraces (arguments_walk v r (Assumed A ∷ c) (drop (i + 1) As) (stand t1)) a t1 t → Retraces (arguments_walk v r c (drop i As) (stand t0)) (collected_before (x ∷ []) a) t0 t
      argument_next x t0 t1 p a t q =
          subst (λ d. Retraces d (collected_before (x ∷ []) a) t0 t) (sym (from_argument (stand t0)))
          (collect_next (argument_walk v r c A (stand t0)) (arguments_walk v r (Assumed A ∷ c) (drop (i + 1) As)) (λ x. x) x a t0 t1 t p q)

      pub argument_halts : (h : WalkHalt) (t0 t1 : Trail) → Retraces (argument_walk v r c A (stand t0)) (Err h) t0 t1 →
          Retraces (arguments_walk v r c (drop i As) (stand t0)) (Err h) t0 t1
      argument_halts h t0 t1 p =
          subst (λ d. Retraces d (Err h) t0 t1) (sym (from_argument (stand t0)))
          (collect_stop (argument_walk v r c A (stand t0)) (arguments_walk v r (Assumed A ∷ c) (drop (i + 1) As)) (λ x. x) h t0 t1 p)
