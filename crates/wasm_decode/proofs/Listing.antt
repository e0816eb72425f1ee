-- Lists that are read one after another.
use Rattle.std.proofs.Common.{◌≡◌, ℕ, suc, ◌+◌, ◌-◌, ◌<◌, ◌≤◌, List, [], ◌∷◌, ◌++◌, length, true, false, refl, sym, ap, ◌∙◌, arith, append_assoc, append-nil, length-append}
use Rattle.std.proofs.lemmas.List.{length-replicate, replicate_more}
use Rattle.std.proofs.lemmas.Bool.{le-leb}
use Rattle.wasm_core.specs.Format.{Number}
use Rattle.wasm_core.specs.ModuleGrammar.{Spelling, times, groups, locals, val_type}
use Rattle.wasm_core.specs.declared.types.ValType.{ValType}
use Rattle.std.specs.Prelude.{nat_le, replicate}
use Rattle.wasm_decode.specs.Reads.{judged}
use Rattle.wasm_decode.specs.declared.cursor.Cursor.{Cursor}

-- Some of the list is there, and so many more come.
pub record Listing {A B : Type 0} (old now : Cursor) (f : (B → Spelling) → Spelling) (left : ℕ) (one : (A → Spelling) → Spelling) (done : List A) (made : List A → B) : Type 0 where
  pub same : now.at + length now.rest.now ≡ old.at + length old.rest.now
  pub shorter : length now.rest.now < length old.rest.now
  pub goes : (k : B → Spelling) (ws : List (List ℕ)) → judged old (f k) ws ≡ judged now (times left one done (λ xs. k (made xs))) ws

times_next : {A : Type 0} (n m : ℕ) → n ≡ m + 1 → (one : (A → Spelling) → Spelling) (done : List A) (k : List A → Spelling) → times n one done k ≡ one (λ x. times m one (done ++ x ∷ []) k)
unfolding times
times_next n m e one done k = let e' : n ≡ suc m = omega arith in rw e' refl

pub judged_next : {A : Type 0} (c : Cursor) (n : ℕ) → 0 < n → (one : (A → Spelling) → Spelling) (done : List A) (k : List A → Spelling) (ws : List (List ℕ)) → judged c (times n one done k) ws ≡ judged c (one (λ x. times (n - 1) one (done ++ x ∷ []) k)) ws
judged_next c n e one done k ws = ap (λ s. judged c s ws) (times_next n (n - 1) (omega (arith, e)) one done k)

pub judged_over : {A : Type 0} (c : Cursor) (n : ℕ) → n ≡ 0 → (one : (A → Spelling) → Spelling) (done : List A) (k : List A → Spelling) (ws : List (List ℕ)) → judged c (times n one done k) ws ≡ judged c (k done) ws
unfolding times
judged_over c n e one done k ws = rw e refl

-- ---- locals

group_step : (n m : ℕ) → n ≡ suc m → (done : List ValType) (k : List ValType → Spelling) → groups n done k ≡ Number false 32 (λ c. nat_le (length done + c) 50000) (λ c. val_type (λ t. groups m (done ++ replicate c t) k))
unfolding groups
group_step n m e done k = rw e refl

pub group_next : (c : Cursor) (n : ℕ) → 0 < n → (done : List ValType) (k : List ValType → Spelling) (ws : List (List ℕ)) → judged c (groups n done k) ws ≡ judged c (Number false 32 (λ c. nat_le (length done + c) 50000) (λ c. val_type (λ t. groups (n - 1) (done ++ replicate c t) k))) ws
group_next c n e done k ws = ap (λ s. judged c s ws) (group_step n (n - 1) (omega (arith, e)) done k)

pub group_over : (c : Cursor) (n : ℕ) → n ≡ 0 → (done : List ValType) (k : List ValType → Spelling) (ws : List (List ℕ)) → judged c (groups n done k) ws ≡ judged c (k done) ws
unfolding groups
group_over c n e done k ws = rw e refl

pub record Grouping (old now : Cursor) (left : ℕ) (done : List ValType) : Type 0 where
  pub few : length done ≤ 50000
  pub same : now.at + length now.rest.now ≡ old.at + length old.rest.now
  pub shorter : length now.rest.now < length old.rest.now
  pub goes : (k : List ValType → Spelling) (ws : List (List ℕ)) → judged old (locals k) ws ≡ judged now (groups left done k) ws

pub replicate_push : {X : Type 0} (xs : List X) (n : ℕ) (x : X) → (xs ++ replicate n x) ++ x ∷ [] ≡ xs ++ replicate (n + 1) x
replicate_push xs n x = append_assoc xs (replicate n x) (x ∷ []) ∙ ap (λ ys. xs ++ ys) (replicate_more n x)

pub replicate_none : {X : Type 0} (xs : List X) (x : X) → xs ≡ xs ++ replicate 0 x
replicate_none xs x = sym (append-nil xs)

pub fits_few : (d c : ℕ) → d ≤ 50000 → c ≤ 50000 - d → nat_le (d + c) 50000 ≡ true
fits_few d c h g = le-leb (d + c) 50000 (omega (arith, h, g))

pub few_more : (now done : List ValType) (c : ℕ) (t : ValType) → now ≡ done ++ replicate c t → length done ≤ 50000 → c ≤ 50000 - length done → length now ≤ 50000
few_more now done c t e h g = rw (e, length-append, length-replicate) (omega (arith, h, g))
