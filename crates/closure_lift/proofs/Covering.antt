-- What the variables of a lifted block hold, and the words that they cover.
use Rattle.std.proofs.Common.{◌≡◌, ℕ, zero, suc, ◌<◌, List, [], ◌∷◌, map, Bool, true, false, refl, sym, subst as transport, ⊎_elim, arith}
use Rattle.std.proofs.lemmas.Bool.{lt-ltb, eq-eqb, cases_lt}
use Rattle.std.specs.Prelude.{nat_eq, nat_lt, if◌then◌else◌}
use Rattle.anf_convert.specs.Anf.{AnfBlock, AnfDefs, def_count}
use Rattle.anf_convert.specs.AnfEvaluation.{LamAt}
use Rattle.anf_convert.specs.Captured.{Scope, Plain, depth, plains, shares, block_words, defs_words, is_in, add_word, captured, lam_captured, fix_captured}
use Rattle.closure_lift.specs.Lift.{LiftSlot, Holds, same_slot, holding}
use Rattle.anf_convert.proofs.Scopes.{Each, each_map, depth_shares, more_plain, more_fix, more_block, lam_words}

pub data In (k : LiftSlot) : List LiftSlot → Type 0 where
  in_here : {j : LiftSlot} {fr : List LiftSlot} → same_slot k j ≡ true → In k (j ∷ fr)
  in_after : {j : LiftSlot} {fr : List LiftSlot} → In k fr → In k (j ∷ fr)

-- the words that are bound outside d words are among what a block holds
abbrev pub Covers : List LiftSlot → ℕ → List ℕ → Type 0
Covers fr d xs = Each (λ x. x < d → In (Holds x) fr) xs

abbrev pub holds_all : List ℕ → List LiftSlot
holds_all ws = map (λ x. Holds x) ws

is_in_slots : (x : ℕ) (ws : List ℕ) → is_in x ws ≡ true → In (Holds x) (holds_all ws)
is_in_slots x [] e = cc
is_in_slots x (y ∷ ys) e = go (nat_eq x y) refl e (is_in_slots x ys)
  where
    go : (b : Bool) → nat_eq x y ≡ b → (if b then true else is_in x ys) ≡ true → (is_in x ys ≡ true → In (Holds x) (holds_all ys)) → In (Holds x) (holds_all (y ∷ ys))
    go true h e rest = in_here h
    go false h e rest = in_after (rest e)

in_add : (k : LiftSlot) (b : Bool) (x : ℕ) (ws : List ℕ) → In k (holds_all ws) → In k (holds_all (add_word b x ws))
in_add k false x ws h = h
in_add k true x ws h = go (is_in x ws)
  where
    go : (b : Bool) → In k (holds_all (if b then ws else x ∷ ws))
    go true = h
    go false = in_after h

added : (d x : ℕ) (ws : List ℕ) → x < d → In (Holds x) (holds_all (add_word (nat_lt x d) x ws))
added d x ws lt = rw (lt-ltb x d lt) (go (is_in x ws) refl)
  where
    go : (b : Bool) → is_in x ws ≡ b → In (Holds x) (holds_all (if b then ws else x ∷ ws))
    go true e = is_in_slots x ws e
    go false e = in_here (eq-eqb x x refl)

pub captured_has : (d : ℕ) (xs : List ℕ) → Covers (holds_all (captured d xs)) d xs
captured_has d [] = tt
captured_has d (x ∷ xs) =
    (λ lt. added d x (captured d xs) lt, each_map (λ y. y < d → In (Holds y) (holds_all (captured d xs))) (λ y. y < d → In (Holds y) (holds_all (captured d (x ∷ xs)))) (λ y h lt. in_add (Holds y) (nat_lt x d) x (captured d xs) (h lt)) xs (captured_has d xs))

pub each_holds : (ws : List ℕ) → Each (λ x. In (Holds x) (holds_all ws)) ws
each_holds [] = tt
each_holds (x ∷ xs) = (in_here (eq-eqb x x refl), each_map (λ y. In (Holds y) (holds_all xs)) (λ y. In (Holds y) (holds_all (x ∷ xs))) (λ y h. in_after h) xs (each_holds xs))

-- one more word
pub grow : (d : ℕ) (fr : List LiftSlot) (x : ℕ) → (x < d → In (Holds x) fr) → x < suc d → In (Holds x) (Holds d ∷ fr)
grow d fr x h lt = ⊎_elim (λ below. in_after (h below)) (λ above. in_here (eq-eqb x d (omega arith))) (cases_lt x d)

pub covers_bind : (s : Scope) (fr : List LiftSlot) (xs : List ℕ) → Covers fr (depth s) xs → Covers (Holds (depth s) ∷ fr) (suc (depth s)) xs
covers_bind s fr xs h = each_map (λ x. x < depth s → In (Holds x) fr) (λ x. x < suc (depth s) → In (Holds x) (Holds (depth s) ∷ fr)) (grow (depth s) fr) xs h

pub covers_plains : (n : ℕ) (s : Scope) (fr : List LiftSlot) (xs : List ℕ) → Covers fr (depth s) xs → Covers (holding n s fr) (depth (plains n s)) xs
covers_plains zero s fr xs h = h
covers_plains (suc n) s fr xs h = covers_bind (plains n s) (holding n s fr) xs (covers_plains n s fr xs h)

-- the function of a lambda holds what its body names
pub lam_covers : (s : Scope) (b : AnfBlock) → Covers (Holds (depth s) ∷ holds_all (lam_captured s b)) (suc (depth s)) (block_words (Plain s) b)
lam_covers s b = covers_bind s (holds_all (lam_captured s b)) (block_words (Plain s) b) (captured_has (depth s) (block_words (Plain s) b))

module _ (s : Scope) (ds : AnfDefs) where
  abbrev cs : List ℕ
  cs = fix_captured s ds

  abbrev inside : Scope
  inside = shares cs (def_count ds) s

  abbrev IsHeld : ℕ → Type 0
  IsHeld x = x < suc (depth s) → In (Holds x) (Holds (depth s) ∷ holds_all cs)

  own : Each IsHeld cs
  own = each_map (λ x. In (Holds x) (holds_all cs)) IsHeld (λ x h lt. in_after h) cs (each_holds cs)

  outer : Each IsHeld (defs_words (shares [] (def_count ds) s) ds)
  outer = each_map (λ x. x < depth s → In (Holds x) (holds_all cs)) IsHeld (grow (depth s) (holds_all cs)) (defs_words (shares [] (def_count ds) s) ds) (captured_has (depth s) (defs_words (shares [] (def_count ds) s) ds))

  -- so does that of a fixpoint's definition, where the fixpoint's variables name its captured words
  pub fix_covers : {i : ℕ} {b : AnfBlock} → LamAt ds i b → Covers (Holds (depth inside) ∷ holds_all cs) (suc (depth inside)) (block_words (Plain inside) b)
  fix_covers {b = b} at =
      transport (λ d. Covers (Holds d ∷ holds_all cs) (suc d) (block_words (Plain inside) b)) (sym (depth_shares cs (def_count ds) s))
      (more_block IsHeld cs own (more_plain (more_fix cs (def_count ds) s)) b (lam_words IsHeld (shares [] (def_count ds) s) at outer))
