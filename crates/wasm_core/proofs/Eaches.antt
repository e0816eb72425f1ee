-- Lists of which each element has a property.
use Rattle.std.proofs.Common.{◌≡◌, ℕ, zero, suc, List, [], ◌∷◌, ◌++◌, take, drop, map, reverse, replicate, get_or, set, Some, sym, subst}
use Rattle.std.specs.Prelude.{slice_get}
use Rattle.std.proofs.lemmas.List.{reverse-append}
use Rattle.std.proofs.lemmas.Option.{same_Some}
use Rattle.wasm_core.specs.ModuleCondition.{All as Each}
use Rattle.wasm_core.proofs.Small.{no}

module _ {X : Type 0} (P : X → Type 0) where
  pub each_append : (xs ys : List X) → Each P xs → Each P ys → Each P (xs ++ ys)
  each_append [] ys h k = k
  each_append (x ∷ xs) ys (p, h) k = (p, each_append xs ys h k)

  pub each_reverse : (xs : List X) → Each P xs → Each P (reverse xs)
  each_reverse [] h = tt
  each_reverse (x ∷ xs) (p, h) = subst (Each P) (sym (reverse-append (x ∷ []) xs)) (each_append (reverse xs) (x ∷ []) (each_reverse xs h) (p, tt))

  pub each_take : (n : ℕ) (xs : List X) → Each P xs → Each P (take n xs)
  each_take zero xs h = tt
  each_take (suc n) [] h = tt
  each_take (suc n) (x ∷ xs) (p, h) = (p, each_take n xs h)

  pub each_drop : (n : ℕ) (xs : List X) → Each P xs → Each P (drop n xs)
  each_drop zero xs h = h
  each_drop (suc n) [] h = tt
  each_drop (suc n) (x ∷ xs) (p, h) = each_drop n xs h

  pub each_get : (xs : List X) (i : ℕ) (x : X) → Each P xs → slice_get xs i ≡ Some x → P x
  each_get [] i x h e = no e
  each_get (y ∷ xs) zero x (p, h) e = subst P (same_Some _ _ e) p
  each_get (y ∷ xs) (suc i) x (p, h) e = each_get xs i x h e

  pub each_set : (xs : List X) (i : ℕ) (x : X) → Each P xs → P x → Each P (set xs i x)
  each_set [] i x h q = tt
  each_set (y ∷ xs) zero x (p, h) q = (q, h)
  each_set (y ∷ xs) (suc i) x (p, h) q = (p, each_set xs i x h q)

  pub each_get_or : (xs : List X) (i : ℕ) (d : X) → Each P xs → P d → P (get_or xs i d)
  each_get_or [] i d h q = q
  each_get_or (y ∷ xs) zero d (p, h) q = p
  each_get_or (y ∷ xs) (suc i) d (p, h) q = each_get_or xs i d h q

  pub each_replicate : (n : ℕ) (x : X) → P x → Each P (replicate n x)
  each_replicate zero x p = tt
  each_replicate (suc n) x p = (p, each_replicate n x p)

pub each_map : {X Y : Type 0} (P : Y → Type 0) (f : X → Y) (xs : List X) → Each (λ x. P (f x)) xs → Each P (map f xs)
each_map P f [] h = tt
each_map P f (x ∷ xs) (p, h) = (p, each_map P f xs h)

pub each_all : {X : Type 0} (P : X → Type 0) → ((x : X) → P x) → (xs : List X) → Each P xs
each_all P f [] = tt
each_all P f (x ∷ xs) = (f x, each_all P f xs)
