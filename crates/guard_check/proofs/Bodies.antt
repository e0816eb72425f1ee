-- The bodies of branches, as they are put into a list from the last to the first.
use Rattle.std.proofs.Common.{◌≡◌, ℕ, zero, suc, ◌+◌, ◌-◌, ◌<◌, List, [], ◌∷◌, ◌++◌, length, map, drop, get_or, slice_get, append_assoc, refl, sym, ap, ◌∙◌, arith}
use Rattle.pc_terms.specs.declared.term.Branch.{Branch}
use Rattle.pc_terms.specs.Lists.{arms_of}
use Rattle.calculus_rules.specs.declared.declaration.Constructor.{Constructor}
use Rattle.calculus_rules.specs.Context.{Values, under}
use Rattle.calculus_rules.specs.Guardedness.{Marks, Ending}
use Rattle.pc_rules.specs.DirectedGuard.{first_marks, later}
use Rattle.guard_check.specs.declared.tasks.Task.{Task}
use Rattle.guard_check.specs.Marks.{values_in, marks_in}
use Rattle.guard_check.specs.Tasks.{ToFind, to_find, opened_marks, bodies_to_find}

pub later_drop : (Cs : List Constructor) (j : ℕ) → later (drop j Cs) ≡ drop (suc j) Cs
later_drop [] zero = refl
later_drop [] (suc j) = refl
later_drop (C ∷ Cs) zero = refl
later_drop (C ∷ Cs) (suc j) = later_drop Cs j

pub first_opened : (k : Ending) (Cs : List Constructor) (j n : ℕ) (M : Marks) → first_marks k (drop j Cs) n M ≡ opened_marks k (slice_get Cs j) n M
first_opened k [] zero n M = refl
first_opened k [] (suc j) n M = refl
first_opened k (C ∷ Cs) zero n M = refl
first_opened k (C ∷ Cs) (suc j) n M = first_opened k Cs j n M

pub map-push : (xs : List Task) (a : Task) → map to_find (xs ++ (a ∷ [])) ≡ map to_find xs ++ (to_find a ∷ [])
map-push [] a = refl
map-push (x ∷ xs) a = ap (λ ys. to_find x ∷ ys) (map-push xs a)

module _ (V : Values) (M : Marks) (k : Ending) (Cs : List Constructor) where
  -- the branch at a place
  abbrev pub at_place : ℕ → Branch → ToFind
  at_place j b = record { values = under b.binders V; marks = opened_marks k (slice_get Cs j) b.binders M; term = b.body }

  abbrev pub bodies_from : List Branch → ℕ → List ToFind
  bodies_from bs j = bodies_to_find V M k (drop j Cs) (arms_of (drop j bs))

  next_body : (Ds : List Constructor) (bs : List Branch) (j : ℕ) (b : Branch) → j < length bs → b ≡ get_or bs j b → bodies_to_find V M k Ds (arms_of (drop j bs)) ≡
      bodies_to_find V M k (later Ds) (arms_of (drop (suc j) bs)) ++ (record { values = under b.binders V; marks = first_marks k Ds b.binders M; term = b.body } ∷ [])
  next_body Ds [] j b l is = absurd (omega arith)
  next_body Ds (x ∷ bs) zero b l is =
      ap (λ (y : Branch). bodies_to_find V M k (later Ds) (arms_of bs) ++ (record { values = under y.binders V; marks = first_marks k Ds y.binders M; term = y.body } ∷ [])) (sym is)
  next_body Ds (x ∷ bs) (suc j) b l is = next_body Ds bs j b (omega arith) is

  -- the bodies from a place on are those from the next place on, and then that at the place
  pub bodies_next : (bs : List Branch) (j : ℕ) (b : Branch) → j < length bs → b ≡ get_or bs j b → bodies_from bs j ≡ bodies_from bs (suc j) ++ (at_place j b ∷ [])
  bodies_next bs j b l is =
      next_body (drop j Cs) bs j b l is ∙ (λ x. bodies_to_find V M k (later_drop Cs j x) (arms_of (drop (suc j) bs))
      ++ (record { values = under b.binders V; marks = first_opened k Cs j b.binders M x; term = b.body } ∷ []))

  pub body_pushed : (bs : List Branch) (before old new : List Task) (n i : ℕ) (b : Branch) (a : Task) → n ≡ length bs → i < n → b ≡ get_or bs (n - 1 - i) b →
      values_in a.scope ≡ under b.binders V → marks_in a.scope ≡ opened_marks k (slice_get Cs (n - 1 - i)) b.binders M → a.body ≡ b.body → new ≡ old ++ (a ∷ []) →
      map to_find old ≡ map to_find before ++ bodies_from bs (n - i) → map to_find new ≡ map to_find before ++ bodies_from bs (n - (i + 1))
  body_pushed bs before old new n i b a e l is v q t p h =
      let j : ℕ = n - 1 - i in
      let f : suc j ≡ n - i = omega arith in
      let g : j ≡ n - (i + 1) = omega arith in
      let s : to_find a ≡ at_place j b = λ x. record { values = v x; marks = q x; term = t x } in
      ap (λ xs. map to_find xs) p ∙ map-push old a ∙ (λ x. h x ++ (s x ∷ [])) ∙ append_assoc (map to_find before) (bodies_from bs (n - i)) (at_place j b ∷ [])
      ∙ ap (λ xs. map to_find before ++ xs) (ap (λ x. bodies_from bs x ++ (at_place j b ∷ [])) (sym f) ∙ sym (bodies_next bs j b (omega arith) is) ∙ ap (λ x. bodies_from bs x) g)
