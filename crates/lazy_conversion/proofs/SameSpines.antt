-- Two terms are one tree exactly where their heads and their arguments are.
use Rattle.std.proofs.Common.{◌≡◌, ◌≢◌, ◌∙◌, sym, ap, ℕ, ◌+◌, ◌<◌, ◌≤◌, ◌&&◌, ◌↔◌, Bool, true, false, IsTrue, List, ◌∷◌, length, drop, get_or, Some, slice_get, Result, Ok, Err, IfOk, IfErr, inl, inr, subst as along}
use Rattle.std.proofs.lemmas.Option.{get_or_from_slice_get}
use Rattle.trees.specs.Measures.{IsBeyond}
use Rattle.trees.specs.Substitution.{walk}
use Rattle.pc_terms.specs.declared.term.MakeFault.{MakeFault}
use Rattle.pc_terms.specs.declared.term.MakeFault.TheVariants.{TooDeep}
use Rattle.pc_terms.specs.Syntax.{Term, head, args, apply, substitute}
use Rattle.calculus_rules.specs.Same.{same}
use Rattle.calculus_rules.proofs.Spines.{spine_is, one_item}
use Rattle.pc_rules.proofs.ListSteps.{next_is, none_left}
use Rattle.pc_rules.proofs.SameTrees.{same_is, same_itself, false_true}
use Rattle.reduce_machine.specs.Reads.{stands, stands_under}
use Rattle.reduce_machine.proofs.Standing.{walk_read}
use Rattle.lazy_conversion.specs.Tracks.{EitherBeyond}

-- answers that are known
pub no_answer : {A : Type 0} (r : Bool) → r ≡ false → (A → ⊥) → IsTrue r ↔ A
no_answer r e h = (λ t. false_true (sym e ∙ t), λ a. absurd (h a))

pub yes_answer : {A : Type 0} (r : Bool) → r ≡ true → A → IsTrue r ↔ A
yes_answer r e a = (λ t. a, λ x. e)

pub denied : {A : Type 0} (r : Bool) → r ≡ false → (IsTrue r ↔ A) → A → ⊥
denied r e h a = false_true (sym e ∙ h.1 a)

-- a test that is that of sameness
pub same_decides : (a b : Term) (r : Bool) → r ≡ same a b → IsTrue r ↔ (a ≡ b)
same_decides a b r e = (λ t. same_is a b (sym e ∙ t), λ p. e ∙ ap (λ x. same x b) p ∙ same_itself b)

-- two terms under bindings, as they are read
pub lazies_same : (xs ys : List Term) (t u : Term) (r : Bool) → r ≡ same (walk (stands_under xs) 0 t) (walk (stands_under ys) 0 u) →
    IsTrue r ↔ (substitute (stands xs) t ≡ substitute (stands ys) u)
lazies_same xs ys t u r e = same_decides (substitute (stands xs) t) (substitute (stands ys) u) r (e ∙ (λ j. same (walk_read xs t j) (walk_read ys u j)))

-- answers of two terms as those of the same two

pub answer_along : (a b x y : Term) (r : Result Bool MakeFault) → a ≡ x → b ≡ y → IfOk r (λ q. IsTrue q ↔ (a ≡ b)) → IfOk r (λ q. IsTrue q ↔ (x ≡ y))
answer_along a b x y (Ok q) e d h = (λ t. sym e ∙ h.0 t ∙ d, λ p. h.1 (e ∙ p ∙ sym d))
answer_along a b x y (Err f) e d h = h

pub fault_where : (P Q : Type 0) (r : Result Bool MakeFault) → (P → Q) → IfErr r (λ e. e ≡ TooDeep → P) → IfErr r (λ e. e ≡ TooDeep → Q)
fault_where P Q (Ok q) f h = h
fault_where P Q (Err x) f h = λ e. f (h e)

pub beyond_along : (a b x y : Term) → a ≡ x → b ≡ y → EitherBeyond a b → EitherBeyond x y
beyond_along a b x y e d (inl h) = inl (along (λ (t : Term). IsBeyond t) e h)
beyond_along a b x y e d (inr h) = inr (along (λ (t : Term). IsBeyond t) d h)

-- faults where both are beyond the limits

pub first_beyond : (a b : Term) (r : Result Bool MakeFault) → IfErr r (λ e. (e ≡ TooDeep) × (IsBeyond a × IsBeyond b)) → IfErr r (λ e. IsBeyond a)
first_beyond a b (Ok q) h = h
first_beyond a b (Err x) h = h.1.0

pub both_beyond : (a b x y : Term) (r : Result Bool MakeFault) → a ≡ x → b ≡ y → IfErr r (λ e. (e ≡ TooDeep) × (IsBeyond a × IsBeyond b)) →
    IfErr r (λ e. e ≡ TooDeep → EitherBeyond x y)
both_beyond a b x y (Ok q) e d h = h
both_beyond a b x y (Err z) e d h = λ _. beyond_along a b x y e d (inl h.1.0)

-- terms with as many arguments, and the same head

pub same_spine : (a b : Term) → head a ≡ head b → args a ≡ args b → a ≡ b
same_spine a b h e = spine_is a ∙ (λ j. apply (h j) (e j)) ∙ sym (spine_is b)

pub other_count : (a b : Term) → length (args b) ≢ length (args a) → a ≡ b → ⊥
other_count a b h e = h (sym (ap (λ t. length (args t)) e))

pub other_head : (a b : Term) → (head a ≡ head b → ⊥) → a ≡ b → ⊥
other_head a b h e = h (ap head e)

pub other_argument : (a b x y : Term) (i : ℕ) → slice_get (args a) i ≡ Some x → slice_get (args b) i ≡ Some y → (x ≡ y → ⊥) → a ≡ b → ⊥
other_argument a b x y i p q h e = h (one_item (sym p ∙ ap (λ t. slice_get (args t) i) e ∙ q))

-- lists, from their next items on
pub item_at : (xs : List Term) (i : ℕ) (x : Term) → slice_get xs i ≡ Some x → x ≡ get_or xs i x
item_at xs i x e = sym (get_or_from_slice_get xs i x x e)

pub same_next : (xs ys : List Term) (i : ℕ) (x y : Term) → i < length xs → i < length ys → slice_get xs i ≡ Some x → slice_get ys i ≡ Some y → x ≡ y →
    drop (i + 1) xs ≡ drop (i + 1) ys → drop i xs ≡ drop i ys
same_next xs ys i x y h k p q e f =
    next_is xs i x h (item_at xs i x p) ∙ (λ j. e j ∷ f j) ∙ sym (next_is ys i y k (item_at ys i y q))

pub same_end : (xs ys : List Term) (i : ℕ) → length xs ≤ i → length ys ≤ i → drop i xs ≡ drop i ys
same_end xs ys i h k = none_left xs i h ∙ sym (none_left ys i k)

-- matches that are the same around their scrutinees
pub other_around : (a b : Term) (s t : Term) (r : Bool) → r ≡ false → same a b ≡ (r && same s t) → a ≡ b → ⊥
other_around a b s t r e f p =
    let no : same a b ≡ false = f ∙ ap (λ x. x && same s t) e in
    false_true (sym no ∙ ap (λ x. same x b) p ∙ same_itself b)

pub same_scrutinees : (a b : Term) (s t : Term) (r q : Bool) → r ≡ true → same a b ≡ (r && same s t) → (IsTrue q ↔ (s ≡ t)) → IsTrue q ↔ (a ≡ b)
same_scrutinees a b s t r q e f h =
    let g : same a b ≡ same s t = f ∙ ap (λ x. x && same s t) e in
    (λ k. same_is a b (g ∙ ap (λ x. same x t) (h.0 k) ∙ same_itself t), λ p. h.1 (same_is s t (sym g ∙ ap (λ x. same x b) p ∙ same_itself b)))
