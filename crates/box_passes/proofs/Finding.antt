-- The search for a family in a list.
use Rattle.std.proofs.Common.{◌≡◌, ◌≤◌, ◌<◌, ◌+◌, ℕ, Bool, true, false, List, ◌∷◌, length, drop, get_or, Some, None, refl, sym, ap, ◌∙◌}
use Rattle.std.specs.Prelude.{if◌then◌else◌}
use Rattle.std.proofs.lemmas.List.{drop_all, at_drop_more}
use Rattle.pc_terms.specs.declared.leaf.FamilyId.{FamilyId}
use Rattle.lambda_box.specs.BoxProgram.{BoxFamily}
use Rattle.lambda_box.specs.OrdinaryForm.{same_family, family_of}
use Rattle.lambda_box.proofs.Families.{same_family_is, one_family}

one : (f g : FamilyId) → g ≡ f → same_family g f ≡ true
one f g e = ap (λ h. same_family h f) e ∙ one_family f

next_family : (Fs : List BoxFamily) (i : ℕ) (g : BoxFamily) (f : FamilyId) → i < length Fs → g ≡ get_or Fs i g → family_of (drop i Fs) f ≡ family_of (g ∷ drop (i + 1) Fs) f
next_family Fs i g f l e = at_drop_more (λ xs. family_of xs f) Fs i g l ∙ ap (λ h. family_of (h ∷ drop (i + 1) Fs) f) (sym e)

pub found : (Fs : List BoxFamily) (i : ℕ) (g : BoxFamily) (f : FamilyId) → i < length Fs → g ≡ get_or Fs i g → g.id ≡ f → family_of (drop i Fs) f ≡ Some g
found Fs i g f l e is = next_family Fs i g f l e ∙ ap (λ b. if b then Some g else family_of (drop (i + 1) Fs) f) (one f g.id is)

other : (f g : FamilyId) (b : Bool) → b ≡ same_family g f → (g ≡ f → ⊥) → b ≡ false
other f g false e n = refl
other f g true e n = absurd (n (same_family_is g f (sym e)))

pub passed : (Fs : List BoxFamily) (i : ℕ) (g : BoxFamily) (f : FamilyId) → i < length Fs → g ≡ get_or Fs i g → (g.id ≡ f → ⊥) → family_of (drop (i + 1) Fs) f ≡ family_of (drop i Fs) f
passed Fs i g f l e n =
    sym (next_family Fs i g f l e ∙ ap (λ b. if b then Some g else family_of (drop (i + 1) Fs) f) (other f g.id (same_family g.id f) refl n))

pub none_found : (Fs : List BoxFamily) (i : ℕ) (f : FamilyId) → length Fs ≤ i → family_of (drop i Fs) f ≡ None
none_found Fs i f l = ap (λ xs. family_of xs f) (drop_all i Fs l)
