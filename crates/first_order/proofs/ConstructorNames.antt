-- The first constructor of a name, one constructor after another.
use Rattle.std.proofs.Common.{◌≡◌, ◌∙◌, ℕ, suc, ◌+◌, ◌<◌, ◌≤◌, List, length, drop, get_or, Some, None, true, false, sym, ap, add-one}
use Rattle.std.specs.Prelude.{slice_get, if◌then◌else◌}
use Rattle.pc_rules.proofs.ListSteps.{next_is, none_left}
use Rattle.first_order.specs.declared.shapes.ShapeCtor.{ShapeCtor}
use Rattle.first_order.specs.ArgumentTexts.{is_text, ctor_from}

module _ (names : List (List ℕ)) (a : List ℕ) (ks : List ShapeCtor) (i : ℕ) where
  here : (k : ShapeCtor) → i < length ks → k ≡ get_or ks i k → ctor_from names a i (drop i ks) ≡ (if is_text a (slice_get names k.name.0) then Some (i, k.args) else ctor_from names a (suc i) (drop (i + 1) ks))
  unfolding ctor_from
  here k lt e = ap (ctor_from names a i) (next_is ks i k lt e)

  pub has_it : (k : ShapeCtor) → i < length ks → k ≡ get_or ks i k → is_text a (slice_get names k.name.0) ≡ true → ctor_from names a i (drop i ks) ≡ Some (i, k.args)
  has_it k lt e h = here k lt e ∙ ap (λ b. if b then Some (i, k.args) else ctor_from names a (suc i) (drop (i + 1) ks)) h

  pub has_another : (k : ShapeCtor) → i < length ks → k ≡ get_or ks i k → is_text a (slice_get names k.name.0) ≡ false → ctor_from names a i (drop i ks) ≡ ctor_from names a (i + 1) (drop (i + 1) ks)
  has_another k lt e h = here k lt e ∙ ap (λ b. if b then Some (i, k.args) else ctor_from names a (suc i) (drop (i + 1) ks)) h ∙ ap (λ n. ctor_from names a n (drop (i + 1) ks)) (sym (add-one i))

  pub has_none : length ks ≤ i → ctor_from names a i (drop i ks) ≡ None
  unfolding ctor_from
  has_none le = ap (ctor_from names a i) (none_left ks i le)
