-- What a call over the rest of a list answers, with what was collected before.
use Rattle.std.proofs.Common.{◌≡◌, sym, ap, refl, List, [], ◌∷◌, ◌++◌, append_assoc, append-nil, Result, Ok, Err}

abbrev pub collected_before : {A H : Type 0} → List A → Result (List A) H → Result (List A) H
collected_before out (Ok xs) = Ok (out ++ xs)
collected_before out (Err h) = Err h

module _ {A H : Type 0} where
  abbrev answered : List A → Result (List A) H
  answered xs = Ok xs

  pub collected_none : (r : Result (List A) H) → collected_before [] r ≡ r
  collected_none (Ok xs) = refl
  collected_none (Err h) = refl

  pub collected_more : (out : List A) (x : A) (r : Result (List A) H) → collected_before out (collected_before (x ∷ []) r) ≡ collected_before (out ++ (x ∷ [])) r
  collected_more out x (Ok xs) = ap answered (sym (append_assoc out (x ∷ []) xs))
  collected_more out x (Err h) = refl

  pub collected_all : (out : List A) → collected_before out (answered []) ≡ answered out
  collected_all out = ap answered (append-nil out)
