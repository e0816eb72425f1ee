-- What stands from a place of a list on.
use Rattle.std.proofs.Common.{◌≡◌, ℕ, ◌+◌, List, ◌∷◌, drop, Some, ap, ◌∙◌}
use Rattle.std.specs.Prelude.{slice_get}
use Rattle.std.proofs.lemmas.List.{drop_more}
use Rattle.std.proofs.lemmas.Option.{slice_get_within, get_or_from_slice_get}

-- the item at a place, and those after it
pub drop_here : {A : Type 0} (xs : List A) (at : ℕ) (x : A) → slice_get xs at ≡ Some x → drop at xs ≡ x ∷ drop (at + 1) xs
drop_here xs at x h =
    drop_more xs at x (slice_get_within xs at x h) ∙ ap (λ y. y ∷ drop (at + 1) xs) (get_or_from_slice_get xs at x x h)
