-- What reading an item means for the outcome.
use Rattle.std.proofs.Common.{◌≡◌, ℕ, ◌+◌, ◌<◌, ◌≤◌, List, [], ◌∷◌, length, take, drop, Some, None, Bool, true, false, refl, sym, ap, subst, ◌∙◌, arith, drop-drop}
use Rattle.std.specs.Prelude.{IsUtf8, nat_le, if◌then◌else◌}
use Rattle.std.specs.Str.{is_utf8}
use Rattle.std.proofs.lemmas.Str.{is_utf8-from_IsUtf8, IsUtf8-from_is_utf8}
use Rattle.std.proofs.Math.ListN.{drop_of_length-le}
use Rattle.std.proofs.lemmas.Bool.{le-leb, lt-leb}
use Rattle.wasm_core.specs.Leb.{number_at}
use Rattle.wasm_core.specs.Format.{Byte, Number, Name, Size, Skip, Refused, judge, name_at}
use Rattle.wasm_core.specs.ModuleGrammar.{Spelling, finish}

pub byte_taken : (w : List ℕ) (b : ℕ) (rest : List ℕ) → w ≡ b ∷ rest → (at : ℕ) (fits : ℕ → Bool) (next : ℕ → Spelling) (ws : List (List ℕ)) → judge (Byte fits next) at w ws ≡ (if fits b then judge (next b) (at + 1) rest ws else Refused at)
unfolding judge
byte_taken w b rest e at fits next ws = rw e refl

pub byte_missing : (w : List ℕ) → length w ≡ 0 → (at : ℕ) (fits : ℕ → Bool) (next : ℕ → Spelling) (ws : List (List ℕ)) → judge (Byte fits next) at w ws ≡ Refused at
unfolding judge
byte_missing [] e at fits next ws = refl
byte_missing (b ∷ w) e at fits next ws = absurd (omega (arith, e))

pub number_taken : (s : Bool) (bits : ℕ) (w : List ℕ) (n k : ℕ) → Some (n, k) ≡ number_at s bits w → (at : ℕ) (fits : ℕ → Bool) (next : ℕ → Spelling) (ws : List (List ℕ)) → judge (Number s bits fits next) at w ws ≡ (if fits n then judge (next n) (at + k) (drop k w) ws else Refused at)
unfolding judge
number_taken s bits w n k e at fits next ws = rw (← e) refl

pub number_missing : (s : Bool) (bits : ℕ) (w : List ℕ) → None ≡ number_at s bits w → (at : ℕ) (fits : ℕ → Bool) (next : ℕ → Spelling) (ws : List (List ℕ)) → judge (Number s bits fits next) at w ws ≡ Refused at
unfolding judge
number_missing s bits w e at fits next ws = rw (← e) refl

-- ---- parts

pub size_taken : (w : List ℕ) (n k : ℕ) → Some (n, k) ≡ number_at false 32 w → (at : ℕ) → (rest inside after : List ℕ) → rest ≡ drop k w → n ≤ length rest → inside ≡ take n rest → after ≡ drop n rest →
    length inside ≡ n → (next : ℕ → Spelling) (ws : List (List ℕ)) → judge (Size next) at w ws ≡ judge (next (length inside)) (at + k) inside (after ∷ ws)
unfolding judge
size_taken w n k e at rest inside after r h i a l next ws =
    let fits : nat_le n (length (drop k w)) ≡ true = le-leb n _ (subst (λ r. n ≤ length r) r h) in
    rw (l, i, a, r, ← e, fits) refl

pub size_past : (w : List ℕ) (n k : ℕ) → Some (n, k) ≡ number_at false 32 w → (at : ℕ) → (rest : List ℕ) → rest ≡ drop k w → length rest < n → (next : ℕ → Spelling) (ws : List (List ℕ)) → judge (Size next) at w ws ≡ Refused at
unfolding judge
size_past w n k e at rest r h next ws =
    let fits : nat_le n (length (drop k w)) ≡ false = lt-leb _ _ (subst (λ r. length r < n) r h) in
    rw (← e, fits) refl

pub size_missing : (w : List ℕ) → None ≡ number_at false 32 w → (at : ℕ) (next : ℕ → Spelling) (ws : List (List ℕ)) → judge (Size next) at w ws ≡ Refused at
unfolding judge
size_missing w e at next ws = rw (← e) refl

pub part_over : (w : List ℕ) → length w ≡ 0 → (at : ℕ) (k : Spelling) (around : List ℕ) (ws : List (List ℕ)) → judge (finish k) at w (around ∷ ws) ≡ judge k at around ws
unfolding judge finish
part_over [] e at k around ws = refl
part_over (b ∷ w) e at k around ws = absurd (omega (arith, e))

pub part_open : (w : List ℕ) → 0 < length w → (at : ℕ) (k : Spelling) (ws : List (List ℕ)) → judge (finish k) at w ws ≡ Refused at
unfolding judge finish
part_open [] e at k ws = absurd (omega (arith, e))
part_open (b ∷ w) e at k ws = refl

-- ---- names

pub name_taken : (w : List ℕ) (n k : ℕ) → Some (n, k) ≡ number_at false 32 w → (at : ℕ) → (rest text after : List ℕ) → rest ≡ drop k w → n ≤ length rest → text ≡ take n rest → after ≡ drop n rest →
    IsUtf8 text → (next : List ℕ → Spelling) (ws : List (List ℕ)) → judge (Name next) at w ws ≡ judge (next text) (at + k + n) after ws
unfolding judge name_at
name_taken w n k e at rest text after r h t a u next ws =
    let fits : nat_le n (length (drop k w)) ≡ true = le-leb n _ (subst (λ r. n ≤ length r) r h) in
    let good : is_utf8 (take n (drop k w)) ≡ true = is_utf8-from_IsUtf8 _ (subst IsUtf8 (t ∙ ap (take n) r) u) in
    let sum : at + (k + n) ≡ at + k + n = omega arith in
    rw (t, a, r, ← e, fits, good, sum, ← drop-drop) refl

pub name_past : (w : List ℕ) (n k : ℕ) → Some (n, k) ≡ number_at false 32 w → (at : ℕ) → (rest : List ℕ) → rest ≡ drop k w → length rest < n → (next : List ℕ → Spelling) (ws : List (List ℕ)) → judge (Name next) at w ws ≡ Refused at
unfolding judge name_at
name_past w n k e at rest r h next ws =
    let fits : nat_le n (length (drop k w)) ≡ false = lt-leb _ _ (subst (λ r. length r < n) r h) in
    rw (← e, fits) refl

pub name_wrong : (w : List ℕ) (n k : ℕ) → Some (n, k) ≡ number_at false 32 w → (at : ℕ) → (rest text : List ℕ) → rest ≡ drop k w → n ≤ length rest → text ≡ take n rest → (IsUtf8 text → ⊥) → (next : List ℕ → Spelling) (ws : List (List ℕ)) → judge (Name next) at w ws ≡ Refused at
unfolding judge name_at
name_wrong w n k e at rest text r h t u next ws =
    let fits : nat_le n (length (drop k w)) ≡ true = le-leb n _ (subst (λ r. n ≤ length r) r h) in
    let goal : (b : Bool) → is_utf8 (take n (drop k w)) ≡ b → judge (Name next) at w ws ≡ Refused at =
    λ b. elim b as (λ b. is_utf8 (take n (drop k w)) ≡ b → judge (Name next) at w ws ≡ Refused at) [
      | true ↦ λ good. absurd (u (subst IsUtf8 (sym (t ∙ ap (take n) r)) (IsUtf8-from_is_utf8 _ good)))
      | false ↦ λ bad. rw (← e, fits, bad) refl
    ] in
    goal _ refl

pub name_missing : (w : List ℕ) → None ≡ number_at false 32 w → (at : ℕ) (next : List ℕ → Spelling) (ws : List (List ℕ)) → judge (Name next) at w ws ≡ Refused at
unfolding judge name_at
name_missing w e at next ws = rw (← e) refl

-- ---- what is left of a part

pub skipped : (at : ℕ) (w rest : List ℕ) → rest ≡ drop (length w) w → (k : Spelling) (ws : List (List ℕ)) → judge (Skip k) at w ws ≡ judge k (at + length w) rest ws
unfolding judge
skipped at w rest e k ws = rw (e, drop_of_length-le w {i = length w} (omega arith)) refl
