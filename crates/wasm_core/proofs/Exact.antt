-- Reading from left to right is exact.
use Rattle.std.proofs.Common.{◌≡◌, ◌⊎◌, inl, inr, ℕ, zero, suc, ◌+◌, ◌-◌, ◌*◌, ◌^◌, ◌<◌, ◌≤◌, List, [], ◌∷◌, length, take, drop, Option, Some, None, Bool, true, false, refl, sym, ap, subst, ◌∙◌, arith}
use Rattle.std.specs.Prelude.{nat_lt, nat_le, ◌&&◌, if◌then◌else◌, IsUtf8}
use Rattle.std.specs.Str.{is_utf8}
use Rattle.std.proofs.lemmas.Str.{is_utf8-from_IsUtf8, IsUtf8-from_is_utf8}
use Rattle.std.proofs.lemmas.Bool.{le-leb, lt-ltb, le-ltb, ltb-true, ltb-false, leb-true, leb-false}
use Rattle.wasm_core.specs.Leb.{number_at, last, higher}
use Rattle.wasm_core.specs.Format.{Format, Give, Nothing, Byte, Number, Name, Size, Skip, End, DecodeOutcome, Accepted, Refused, judge, outer, others, name_at, at_length}
use Rattle.wasm_core.specs.Spelling.{Lasts, SpellsByte, IsNumber, IsName, IsSize, SpellsPart, Stops, MeetsFormat}
use Rattle.std.proofs.Common.{Result, Ok, Err}
use Rattle.wasm_core.specs.Parts.{Parts}
use Rattle.wasm_core.specs.ModuleGrammar.{file, GrammarIsExact, SpellsModule, StopsModule, Explains, DecodesTo, RefusesAt}
use Rattle.wasm_core.specs.declared.binary_faults.DecodeFault.{DecodeFault}
use Rattle.wasm_core.specs.declared.binary_faults.DecodeFault.TheVariants as faults

-- ---- numbers

abbrev took : ℕ → ℕ → Option (ℕ × ℕ)
took n k = Some (n, k)

abbrev none : Option (ℕ × ℕ)
none = None

abbrev value_of : Option (ℕ × ℕ) → ℕ
value_of None = 0
value_of (Some p) = p.0

abbrev used_of : Option (ℕ × ℕ) → ℕ
used_of None = 0
used_of (Some p) = p.1

taken_is : (a b n k : ℕ) → took a b ≡ took n k → (a ≡ n) × (b ≡ k)
taken_is a b n k e = (ap value_of e, ap used_of e)

last_sound : (s : Bool) (bits b n k : ℕ) → b < 128 → last s bits b ≡ took n k → Lasts s bits b n × (k ≡ 1)
last_sound false bits b n k h =
    let goal : (c : Bool) → nat_lt b (2 ^ bits) ≡ c → (if c then took b 1 else none) ≡ took n k → Lasts false bits b n × (k ≡ 1) =
    λ c. elim c as (λ c. nat_lt b (2 ^ bits) ≡ c → (if c then took b 1 else none) ≡ took n k → Lasts false bits b n × (k ≡ 1)) [
      | true ↦ λ t e. let (p, q) = taken_is b 1 n k e in ((h, ltb-true _ _ t, sym p), sym q)
      | false ↦ λ t e. absurd cc
    ] in goal _ refl
last_sound true bits b n k h =
    let small : (c : Bool) → nat_lt b (2 ^ (bits - 1)) ≡ c → b < 64 → (if c then took b 1 else none) ≡ took n k → Lasts true bits b n × (k ≡ 1) =
    λ c. elim c as (λ c. nat_lt b (2 ^ (bits - 1)) ≡ c → b < 64 → (if c then took b 1 else none) ≡ took n k → Lasts true bits b n × (k ≡ 1)) [
      | true ↦ λ t l e. let (p, q) = taken_is b 1 n k e in (inl (l, ltb-true _ _ t, sym p), sym q)
      | false ↦ λ t l e. absurd cc
    ] in
    let great : (c : Bool) → nat_le (128 - b) (2 ^ (bits - 1)) ≡ c → 64 ≤ b → (if c then took (2 ^ bits - (128 - b)) 1 else none) ≡ took n k → Lasts true bits b n × (k ≡ 1) =
    λ c. elim c as (λ c. nat_le (128 - b) (2 ^ (bits - 1)) ≡ c → 64 ≤ b → (if c then took (2 ^ bits - (128 - b)) 1 else none) ≡ took n k → Lasts true bits b n × (k ≡ 1)) [
      | true ↦ λ t l e. let (p, q) = taken_is _ 1 n k e in (inr (l, h, leb-true _ _ t, sym p), sym q)
      | false ↦ λ t l e. absurd cc
    ] in
    let goal : (c : Bool) → nat_lt b 64 ≡ c → (if c then (if nat_lt b (2 ^ (bits - 1)) then took b 1 else none) else if nat_le (128 - b) (2 ^ (bits - 1)) then took (2 ^ bits - (128 - b)) 1 else none) ≡ took n k → Lasts true bits b n × (k ≡ 1) =
    λ c. elim c as (λ c. nat_lt b 64 ≡ c → (if c then (if nat_lt b (2 ^ (bits - 1)) then took b 1 else none) else if nat_le (128 - b) (2 ^ (bits - 1)) then took (2 ^ bits - (128 - b)) 1 else none) ≡ took n k → Lasts true bits b n × (k ≡ 1)) [
      | true ↦ λ t. small _ refl (ltb-true _ _ t)
      | false ↦ λ t. great _ refl (ltb-false _ _ t)
    ] in goal _ refl

last_only : (s : Bool) (bits b n : ℕ) → Lasts s bits b n → (b < 128) × (last s bits b ≡ took n 1)
last_only false bits b n (h, l, e) = let t = lt-ltb _ _ l in (h, rw (e, t) refl)
last_only true bits b n (inl (h, l, e)) = let t = lt-ltb _ _ l in let u = lt-ltb b 64 h in (omega (arith, h), rw (e, u, t) refl)
last_only true bits b n (inr (h, g, l, e)) = let t = le-leb _ _ l in let u = le-ltb b 64 h in (g, rw (e, u, t) refl)

pub number_only : (s : Bool) (bits : ℕ) (w : List ℕ) (n k : ℕ) → IsNumber s bits w n k → number_at s bits w ≡ took n k
unfolding number_at
number_only s bits [] n zero (h, p) = absurd p
number_only s bits [] n (suc k) (h, p) = absurd p
number_only s bits (b ∷ w) n zero (h, p) = absurd p
number_only s bits (b ∷ w) n (suc zero) (h, p) = let (l, e) = last_only s bits b n p in let t = lt-ltb b 128 l in rw t e
number_only s bits (b ∷ []) n (suc (suc j)) (h, p) = absurd (omega (arith, h))
number_only s bits (b ∷ c ∷ w) n (suc (suc j)) (h, (g, x, m, (high, e, p))) =
    let ih = number_only s (bits - 7) (c ∷ w) high (suc j) (omega (arith, h), p) in
    let t = le-ltb b 128 g in
    let y = lt-ltb b 256 x in
    let u = lt-ltb 7 bits m in
    let k : suc j + 1 ≡ suc (suc j) = omega arith in
    rw (t, y, u, ih, e, k) refl

more_spells : (s : Bool) (bits b high j : ℕ) (w : List ℕ) → 128 ≤ b → b < 256 → 7 < bits → IsNumber s (bits - 7) w high j → IsNumber s bits (b ∷ w) (b - 128 + 128 * high) (j + 1)
more_spells s bits b high zero w g x m (h, p) = absurd p
more_spells s bits b high (suc j) [] g x m (h, p) = absurd p
more_spells s bits b high (suc j) (c ∷ w) g x m (h, p) =
    let k : suc j + 1 ≡ suc (suc j) = omega arith in
    rw k (omega (arith, h), (g, x, m, (high, refl, p)))

pub number_sound : (s : Bool) (bits : ℕ) (w : List ℕ) (n k : ℕ) → number_at s bits w ≡ took n k → IsNumber s bits w n k
unfolding number_at
number_sound s bits [] n k = λ e. absurd cc
number_sound s bits (b ∷ w) n k =
    let deep : (o : Option (ℕ × ℕ)) → number_at s (bits - 7) w ≡ o → 128 ≤ b → b < 256 → 7 < bits → higher b o ≡ took n k → IsNumber s bits (b ∷ w) n k =
    λ o. elim o as (λ o. number_at s (bits - 7) w ≡ o → 128 ≤ b → b < 256 → 7 < bits → higher b o ≡ took n k → IsNumber s bits (b ∷ w) n k) [
      | None ↦ λ q g x m e. absurd cc
      | Some p ↦ λ q g x m e.
          let (en, ek) = taken_is (b - 128 + 128 * p.0) (p.1 + 1) n k e in
          subst (λ n. IsNumber s bits (b ∷ w) n k) en (subst (λ k. IsNumber s bits (b ∷ w) (b - 128 + 128 * p.0) k) ek (more_spells s bits b p.0 p.1 w g x m (number_sound s (bits - 7) w p.0 p.1 q)))
    ] in
    let longer : (c : Bool) → nat_lt 7 bits ≡ c → 128 ≤ b → b < 256 → (if c then higher b (number_at s (bits - 7) w) else none) ≡ took n k → IsNumber s bits (b ∷ w) n k =
    λ c. elim c as (λ c. nat_lt 7 bits ≡ c → 128 ≤ b → b < 256 → (if c then higher b (number_at s (bits - 7) w) else none) ≡ took n k → IsNumber s bits (b ∷ w) n k) [
      | true ↦ λ t g x. deep _ refl g x (ltb-true _ _ t)
      | false ↦ λ t g x e. absurd cc
    ] in
    let small : (c : Bool) → nat_lt b 256 ≡ c → 128 ≤ b → (if c && nat_lt 7 bits then higher b (number_at s (bits - 7) w) else none) ≡ took n k → IsNumber s bits (b ∷ w) n k =
    λ c. elim c as (λ c. nat_lt b 256 ≡ c → 128 ≤ b → (if c && nat_lt 7 bits then higher b (number_at s (bits - 7) w) else none) ≡ took n k → IsNumber s bits (b ∷ w) n k) [
      | true ↦ λ t g. longer _ refl g (ltb-true _ _ t)
      | false ↦ λ t g e. absurd cc
    ] in
    let goal : (c : Bool) → nat_lt b 128 ≡ c → (if c then last s bits b else if nat_lt b 256 && nat_lt 7 bits then higher b (number_at s (bits - 7) w) else none) ≡ took n k → IsNumber s bits (b ∷ w) n k =
    λ c. elim c as (λ c. nat_lt b 128 ≡ c → (if c then last s bits b else if nat_lt b 256 && nat_lt 7 bits then higher b (number_at s (bits - 7) w) else none) ≡ took n k → IsNumber s bits (b ∷ w) n k) [
      | true ↦ λ t e. let (l, ek) = last_sound s bits b n k (ltb-true _ _ t) e in rw ek (omega arith, l)
      | false ↦ λ t. small _ refl (ltb-false _ _ t)
    ] in goal _ refl

-- ---- items: whether one is there, and what reading makes of it

abbrev Dec : {A : Type 0} → (A → ℕ → Type 0) → Type 0
Dec {A = A} R = ((a : A) × (k : ℕ) × R a k) ⊎ ((a : A) (k : ℕ) → R a k → ⊥)

byte_is : {M : Type 0} (fits : ℕ → Bool) (next : ℕ → Format M) (at b k : ℕ) (w : List ℕ) (ws : List (List ℕ)) → SpellsByte fits w b k → judge (Byte fits next) at w ws ≡ judge (next b) (at + k) (drop k w) ws
unfolding judge
byte_is fits next at b k w ws (one, (rest, e), f) = rw (e, one, f) refl

byte_dec : (fits : ℕ → Bool) (w : List ℕ) → Dec (SpellsByte fits w)
byte_dec fits [] = inr (λ b k i. let (one, (rest, e), f) = i in absurd cc)
byte_dec fits (b ∷ w) =
    let goal : (c : Bool) → fits b ≡ c → Dec (SpellsByte fits (b ∷ w)) =
    λ c. elim c as (λ c. fits b ≡ c → Dec (SpellsByte fits (b ∷ w))) [
      | true ↦ λ t. inl (b, 1, (refl, (w, refl), t))
      | false ↦ λ t. inr (λ a k i. let (one, (rest, e), f) = i in absurd cc)
    ] in goal _ refl

byte_none : {M : Type 0} (fits : ℕ → Bool) (next : ℕ → Format M) (at : ℕ) (w : List ℕ) (ws : List (List ℕ)) → ((b k : ℕ) → SpellsByte fits w b k → ⊥) → judge (Byte fits next) at w ws ≡ Refused at
unfolding judge
byte_none fits next at [] ws n = refl
byte_none fits next at (b ∷ w) ws n =
    let goal : (c : Bool) → fits b ≡ c → (if c then judge (next b) (at + 1) w ws else Refused at) ≡ Refused at =
    λ c. elim c as (λ c. fits b ≡ c → (if c then judge (next b) (at + 1) w ws else Refused at) ≡ Refused at) [
      | true ↦ λ t. absurd (n b 1 (refl, (w, refl), t))
      | false ↦ λ t. refl
    ] in goal _ refl

abbrev Fitting : (signed : Bool) → (bits : ℕ) → (ℕ → Bool) → List ℕ → ℕ → ℕ → Type 0
Fitting s bits fits w n k = IsNumber s bits w n k × (fits n ≡ true)

number_is : {M : Type 0} (s : Bool) (bits : ℕ) (fits : ℕ → Bool) (next : ℕ → Format M) (at n k : ℕ) (w : List ℕ) (ws : List (List ℕ)) → Fitting s bits fits w n k → judge (Number s bits fits next) at w ws ≡ judge (next n) (at + k) (drop k w) ws
unfolding judge
number_is s bits fits next at n k w ws (i, f) = let e = number_only s bits w n k i in rw (e, f) refl

number_none : {M : Type 0} (s : Bool) (bits : ℕ) (fits : ℕ → Bool) (next : ℕ → Format M) (at : ℕ) (w : List ℕ) (ws : List (List ℕ)) (o : Option (ℕ × ℕ)) → number_at s bits w ≡ o → ((n k : ℕ) → Fitting s bits fits w n k → ⊥) → judge (Number s bits fits next) at w ws ≡ Refused at
unfolding judge
number_none s bits fits next at w ws None e no' = rw e refl
number_none s bits fits next at w ws (Some p) e no' =
    let goal : (c : Bool) → fits p.0 ≡ c → (if c then judge (next p.0) (at + p.1) (drop p.1 w) ws else Refused at) ≡ Refused at =
    λ c. elim c as (λ c. fits p.0 ≡ c → (if c then judge (next p.0) (at + p.1) (drop p.1 w) ws else Refused at) ≡ Refused at) [
      | true ↦ λ t. absurd (no' p.0 p.1 (number_sound s bits w p.0 p.1 e, t))
      | false ↦ λ t. refl
    ] in rw e (goal _ refl)

number_dec : (s : Bool) (bits : ℕ) (fits : ℕ → Bool) (w : List ℕ) (o : Option (ℕ × ℕ)) → number_at s bits w ≡ o → Dec (Fitting s bits fits w)
number_dec s bits fits w None e = inr (λ n k i. let q = number_only s bits w n k i.0 in absurd cc)
number_dec s bits fits w (Some p) e =
    let goal : (c : Bool) → fits p.0 ≡ c → Dec (Fitting s bits fits w) =
    λ c. elim c as (λ c. fits p.0 ≡ c → Dec (Fitting s bits fits w)) [
      | true ↦ λ t. inl (p.0, p.1, (number_sound s bits w p.0 p.1 e, t))
      | false ↦ λ t. inr (λ n k i. let q = taken_is p.0 p.1 n k (sym e ∙ number_only s bits w n k i.0) in let f : fits n ≡ true = i.1 in let g : fits p.0 ≡ true = ap fits q.0 ∙ f in absurd cc)
    ] in goal _ refl

size_is : {M : Type 0} (next : ℕ → Format M) (at n k : ℕ) (w : List ℕ) (ws : List (List ℕ)) → IsSize w n k → judge (Size next) at w ws ≡ judge (next n) (at + k) (take n (drop k w)) (drop n (drop k w) ∷ ws)
unfolding judge
size_is next at n k w ws (i, l) = let e = number_only false 32 w n k i in let f = le-leb _ _ l in rw (e, f) refl

size_dec : (w : List ℕ) (o : Option (ℕ × ℕ)) → number_at false 32 w ≡ o → Dec (IsSize w)
size_dec w None e = inr (λ n k i. let q = number_only false 32 w n k i.0 in absurd cc)
size_dec w (Some p) e =
    let goal : (c : Bool) → nat_le p.0 (length (drop p.1 w)) ≡ c → Dec (IsSize w) =
    λ c. elim c as (λ c. nat_le p.0 (length (drop p.1 w)) ≡ c → Dec (IsSize w)) [
      | true ↦ λ t. inl (p.0, p.1, (number_sound false 32 w p.0 p.1 e, leb-true _ _ t))
      | false ↦ λ t. inr (λ n k i. let q = taken_is p.0 p.1 n k (sym e ∙ number_only false 32 w n k i.0) in let l = leb-false _ _ t in let g : n ≤ length (drop k w) = i.1 in let g' : p.0 ≤ length (drop p.1 w) = rw (q.0, q.1) g in omega (arith, l, g'))
    ] in goal _ refl

size_none : {M : Type 0} (next : ℕ → Format M) (at : ℕ) (w : List ℕ) (ws : List (List ℕ)) (o : Option (ℕ × ℕ)) → number_at false 32 w ≡ o → ((n k : ℕ) → IsSize w n k → ⊥) → judge (Size next) at w ws ≡ Refused at
unfolding judge
size_none next at w ws None e no' = rw e refl
size_none next at w ws (Some p) e no' =
    let go = judge (next p.0) (at + p.1) (take p.0 (drop p.1 w)) (drop p.0 (drop p.1 w) ∷ ws) in
    let goal : (c : Bool) → nat_le p.0 (length (drop p.1 w)) ≡ c → (if c then go else Refused at) ≡ Refused at =
    λ c. elim c as (λ c. nat_le p.0 (length (drop p.1 w)) ≡ c → (if c then go else Refused at) ≡ Refused at) [
      | true ↦ λ t. absurd (no' p.0 p.1 (number_sound false 32 w p.0 p.1 e, leb-true _ _ t))
      | false ↦ λ t. refl
    ] in rw e (goal _ refl)

name_only : (w s : List ℕ) (k : ℕ) → IsName w s k → name_at w ≡ Some (s, k)
unfolding name_at
name_only w s k (n, j, i, l, t, u, e) =
    let f = number_only false 32 w n j i in
    let g = le-leb _ _ l in
    let v = is_utf8-from_IsUtf8 _ (subst IsUtf8 t u) in
    rw (f, g, v, t, e) refl

name_is : {M : Type 0} (next : List ℕ → Format M) (at : ℕ) (s : List ℕ) (k : ℕ) (w : List ℕ) (ws : List (List ℕ)) → IsName w s k → judge (Name next) at w ws ≡ judge (next s) (at + k) (drop k w) ws
unfolding judge
name_is next at s k w ws i = let e = name_only w s k i in rw e refl

abbrev Named : List ℕ → Option (List ℕ × ℕ) → Type 0
Named w None = (s : List ℕ) (k : ℕ) → IsName w s k → ⊥
Named w (Some p) = IsName w p.0 p.1

name_sound : (w : List ℕ) (o : Option (ℕ × ℕ)) → number_at false 32 w ≡ o → Named w (at_length w o)
name_sound w None e = λ s k (n, j, i, l, t, u, x). let q = number_only false 32 w n j i in absurd cc
name_sound w (Some p) e =
    let only : (s : List ℕ) (k : ℕ) → IsName w s k → (p.0 ≤ length (drop p.1 w)) × IsUtf8 (take p.0 (drop p.1 w)) =
    λ s k (n, j, i, l, t, u, x). let q = taken_is p.0 p.1 n j (sym e ∙ number_only false 32 w n j i) in (rw (q.0, q.1) l, rw (q.0, q.1) (subst IsUtf8 t u)) in
    let good : (c : Bool) → is_utf8 (take p.0 (drop p.1 w)) ≡ c → p.0 ≤ length (drop p.1 w) → Named w (if c then Some (take p.0 (drop p.1 w), p.1 + p.0) else None) =
    λ c. elim c as (λ c. is_utf8 (take p.0 (drop p.1 w)) ≡ c → p.0 ≤ length (drop p.1 w) → Named w (if c then Some (take p.0 (drop p.1 w), p.1 + p.0) else None)) [
      | true ↦ λ t l. (p.0, p.1, number_sound false 32 w p.0 p.1 e, l, refl, IsUtf8-from_is_utf8 _ t, refl)
      | false ↦ λ t l. λ s k i. let u = is_utf8-from_IsUtf8 _ (only s k i).1 in absurd cc
    ] in
    let goal : (c : Bool) → nat_le p.0 (length (drop p.1 w)) ≡ c → Named w (if c && is_utf8 (take p.0 (drop p.1 w)) then Some (take p.0 (drop p.1 w), p.1 + p.0) else None) =
    λ c. elim c as (λ c. nat_le p.0 (length (drop p.1 w)) ≡ c → Named w (if c && is_utf8 (take p.0 (drop p.1 w)) then Some (take p.0 (drop p.1 w), p.1 + p.0) else None)) [
      | true ↦ λ t. good _ refl (leb-true _ _ t)
      | false ↦ λ t. λ s k i. let g = (only s k i).0 in let l = leb-false _ _ t in omega (arith, l, g)
    ] in goal _ refl

named : (w : List ℕ) → Named w (name_at w)
unfolding name_at
named w = name_sound w (number_at false 32 w) refl

name_dec : (w : List ℕ) (o : Option (List ℕ × ℕ)) → Named w o → Dec (IsName w)
name_dec w None h = inr h
name_dec w (Some p) h = inl (p.0, p.1, h)

name_none : {M : Type 0} (next : List ℕ → Format M) (at : ℕ) (w : List ℕ) (ws : List (List ℕ)) (o : Option (List ℕ × ℕ)) → name_at w ≡ o → Named w o → ((s : List ℕ) (k : ℕ) → IsName w s k → ⊥) → judge (Name next) at w ws ≡ Refused at
unfolding judge
name_none next at w ws None e h no' = rw e refl
name_none next at w ws (Some p) e h no' = absurd (no' p.0 p.1 h)

-- ---- the whole

byte_on : {M : Type 0} (fits : ℕ → Bool) (next : ℕ → Format M) (at b k : ℕ) (w : List ℕ) (ws : List (List ℕ)) → SpellsByte fits w b k → (o : DecodeOutcome M) → MeetsFormat (next b) (at + k) (drop k w) ws o → MeetsFormat (Byte fits next) at w ws o
byte_on fits next at b k w ws i (Accepted x) h = (b, k, i, h)
byte_on fits next at b k w ws i (Refused o) h = inr (b, k, i, h)

number_on : {M : Type 0} (s : Bool) (bits : ℕ) (fits : ℕ → Bool) (next : ℕ → Format M) (at n k : ℕ) (w : List ℕ) (ws : List (List ℕ)) → Fitting s bits fits w n k → (o : DecodeOutcome M) → MeetsFormat (next n) (at + k) (drop k w) ws o → MeetsFormat (Number s bits fits next) at w ws o
number_on s bits fits next at n k w ws i (Accepted x) h = (n, k, i, h)
number_on s bits fits next at n k w ws i (Refused o) h = inr (n, k, i, h)

name_on : {M : Type 0} (next : List ℕ → Format M) (at : ℕ) (s : List ℕ) (k : ℕ) (w : List ℕ) (ws : List (List ℕ)) → IsName w s k → (o : DecodeOutcome M) → MeetsFormat (next s) (at + k) (drop k w) ws o → MeetsFormat (Name next) at w ws o
name_on next at s k w ws i (Accepted x) h = (s, k, i, h)
name_on next at s k w ws i (Refused o) h = inr (s, k, i, h)

size_on : {M : Type 0} (next : ℕ → Format M) (at n k : ℕ) (w : List ℕ) (ws : List (List ℕ)) → IsSize w n k → (o : DecodeOutcome M) → MeetsFormat (next n) (at + k) (take n (drop k w)) (drop n (drop k w) ∷ ws) o → MeetsFormat (Size next) at w ws o
size_on next at n k w ws i (Accepted x) h = (n, k, i, h)
size_on next at n k w ws i (Refused o) h = inr (n, k, i, h)

end_on : {M : Type 0} (may : Bool) (over more : Format M) (at : ℕ) (ws : List (List ℕ)) → may ≡ true → (o : DecodeOutcome M) → MeetsFormat over at (outer ws) (others ws) o → MeetsFormat (End may over more) at [] ws o
end_on may over more at ws m (Accepted x) h = (m, h)
end_on may over more at ws m (Refused o) h = inr (m, h)

skip_on : {M : Type 0} (next : Format M) (at : ℕ) (w : List ℕ) (ws : List (List ℕ)) (o : DecodeOutcome M) → MeetsFormat next (at + length w) [] ws o → MeetsFormat (Skip next) at w ws o
skip_on next at w ws (Accepted x) h = h
skip_on next at w ws (Refused o) h = h

end_meets : {M : Type 0} (may : Bool) (over more : Format M) (at : ℕ) (ws : List (List ℕ)) → MeetsFormat over at (outer ws) (others ws) (judge over at (outer ws) (others ws)) → MeetsFormat (End may over more) at [] ws (if may then judge over at (outer ws) (others ws) else Refused at)
end_meets true over more at ws h = end_on true over more at ws refl _ h
end_meets false over more at ws h = inl (refl, refl)

more_on : {M : Type 0} (may : Bool) (over more : Format M) (at b : ℕ) (w : List ℕ) (ws : List (List ℕ)) (o : DecodeOutcome M) → MeetsFormat more at (b ∷ w) ws o → MeetsFormat (End may over more) at (b ∷ w) ws o
more_on may over more at b w ws (Accepted x) h = h
more_on may over more at b w ws (Refused o) h = h

pub meets : {M : Type 0} (f : Format M) (at : ℕ) (w : List ℕ) (ws : List (List ℕ)) → MeetsFormat f at w ws (judge f at w ws)
unfolding judge
meets (Give m) at w ws = refl
meets Nothing at w ws = refl
meets (Byte fits next) at w ws = elim (byte_dec fits w) [
  | inl (b, k, i) ↦ subst (MeetsFormat (Byte fits next) at w ws) (sym (byte_is fits next at b k w ws i)) (byte_on fits next at b k w ws i _ (meets (next b) (at + k) (drop k w) ws))
  | inr n ↦ subst (MeetsFormat (Byte fits next) at w ws) (sym (byte_none fits next at w ws n)) (inl (refl, n))
]
meets (Number s bits fits next) at w ws = elim (number_dec s bits fits w _ refl) [
  | inl (n, k, i) ↦ subst (MeetsFormat (Number s bits fits next) at w ws) (sym (number_is s bits fits next at n k w ws i)) (number_on s bits fits next at n k w ws i _ (meets (next n) (at + k) (drop k w) ws))
  | inr n ↦ subst (MeetsFormat (Number s bits fits next) at w ws) (sym (number_none s bits fits next at w ws _ refl n)) (inl (refl, n))
]
meets (Name next) at w ws = elim (name_dec w _ (named w)) [
  | inl (s, k, i) ↦ subst (MeetsFormat (Name next) at w ws) (sym (name_is next at s k w ws i)) (name_on next at s k w ws i _ (meets (next s) (at + k) (drop k w) ws))
  | inr n ↦ subst (MeetsFormat (Name next) at w ws) (sym (name_none next at w ws _ refl (named w) n)) (inl (refl, n))
]
meets (Size next) at w ws = elim (size_dec w _ refl) [
  | inl (n, k, i) ↦ subst (MeetsFormat (Size next) at w ws) (sym (size_is next at n k w ws i)) (size_on next at n k w ws i _ (meets (next n) (at + k) (take n (drop k w)) (drop n (drop k w) ∷ ws)))
  | inr n ↦ subst (MeetsFormat (Size next) at w ws) (sym (size_none next at w ws _ refl n)) (inl (refl, n))
]
meets (Skip next) at w ws = skip_on next at w ws _ (meets next (at + length w) [] ws)
meets (End may over more) at [] ws = end_meets may over more at ws (meets over at (outer ws) (others ws))
meets (End may over more) at (b ∷ w) ws = more_on may over more at b w ws _ (meets more at (b ∷ w) ws)

pub spelled : {M : Type 0} (f : Format M) (at : ℕ) (w : List ℕ) (ws : List (List ℕ)) (x : M) → SpellsPart f w ws x → judge f at w ws ≡ Accepted x
unfolding judge
spelled (Give m) at w ws x e = ap Accepted e
spelled Nothing at w ws x h = absurd h
spelled (Byte fits next) at w ws x (b, k, i, h) = byte_is fits next at b k w ws i ∙ spelled (next b) (at + k) (drop k w) ws x h
spelled (Number s bits fits next) at w ws x (n, k, i, h) = number_is s bits fits next at n k w ws i ∙ spelled (next n) (at + k) (drop k w) ws x h
spelled (Name next) at w ws x (s, k, i, h) = name_is next at s k w ws i ∙ spelled (next s) (at + k) (drop k w) ws x h
spelled (Size next) at w ws x (n, k, i, h) = size_is next at n k w ws i ∙ spelled (next n) (at + k) (take n (drop k w)) (drop n (drop k w) ∷ ws) x h
spelled (Skip next) at w ws x h = spelled next (at + length w) [] ws x h
spelled (End may over more) at [] ws x (m, h) = rw m (spelled over at (outer ws) (others ws) x h)
spelled (End may over more) at (b ∷ w) ws x h = spelled more at (b ∷ w) ws x h

pub stopped : {M : Type 0} (f : Format M) (at : ℕ) (w : List ℕ) (ws : List (List ℕ)) (o : ℕ) → Stops f at w ws o → judge f at w ws ≡ Refused o
unfolding judge
stopped (Give m) at w ws o h = absurd h
stopped Nothing at w ws o e = ap Refused (sym e)
stopped (Byte fits next) at w ws o (inl (e, n)) = byte_none fits next at w ws n ∙ ap Refused (sym e)
stopped (Byte fits next) at w ws o (inr (b, k, i, h)) = byte_is fits next at b k w ws i ∙ stopped (next b) (at + k) (drop k w) ws o h
stopped (Number s bits fits next) at w ws o (inl (e, n)) = number_none s bits fits next at w ws _ refl n ∙ ap Refused (sym e)
stopped (Number s bits fits next) at w ws o (inr (n, k, i, h)) = number_is s bits fits next at n k w ws i ∙ stopped (next n) (at + k) (drop k w) ws o h
stopped (Name next) at w ws o (inl (e, n)) = name_none next at w ws _ refl (named w) n ∙ ap Refused (sym e)
stopped (Name next) at w ws o (inr (s, k, i, h)) = name_is next at s k w ws i ∙ stopped (next s) (at + k) (drop k w) ws o h
stopped (Size next) at w ws o (inl (e, n)) = size_none next at w ws _ refl n ∙ ap Refused (sym e)
stopped (Size next) at w ws o (inr (n, k, i, h)) = size_is next at n k w ws i ∙ stopped (next n) (at + k) (take n (drop k w)) (drop n (drop k w) ∷ ws) o h
stopped (Skip next) at w ws o h = stopped next (at + length w) [] ws o h
stopped (End may over more) at [] ws o (inl (e, m)) = rw m (ap Refused (sym e))
stopped (End may over more) at [] ws o (inr (m, h)) = rw m (stopped over at (outer ws) (others ws) o h)
stopped (End may over more) at (b ∷ w) ws o h = stopped more at (b ∷ w) ws o h

abbrev made_of : Parts → DecodeOutcome Parts → Parts
made_of d (Accepted m) = m
made_of d (Refused o) = d

made_is : (a b : Parts) → Accepted a ≡ Accepted b → a ≡ b
made_is a b e = ap (made_of a) e

abbrev refused : ℕ → DecodeOutcome Parts
refused o = Refused o

offset_is : (a b : ℕ) → refused a ≡ refused b → a ≡ b
offset_is a b e = cc

never : (a : Parts) (o : ℕ) → Accepted a ≡ Refused o → ⊥
never a o e = cc

either : (bytes : List ℕ) (o : DecodeOutcome Parts) → MeetsFormat (file (length bytes)) 0 bytes [] o → ((m : Parts) × SpellsModule bytes m) ⊎ ((o : ℕ) × StopsModule bytes o)
either bytes (Accepted m) h = inl (m, h)
either bytes (Refused o) h = inr (o, h)

pub exact : GrammarIsExact
exact = record {
  one_module = λ bytes a b h g. made_is a b (sym (spelled (file (length bytes)) 0 bytes [] a h) ∙ spelled (file (length bytes)) 0 bytes [] b g);
  one_offset = λ bytes a b h g. offset_is a b (sym (stopped (file (length bytes)) 0 bytes [] a h) ∙ stopped (file (length bytes)) 0 bytes [] b g);
  not_both = λ bytes m o h g. never m o (sym (spelled (file (length bytes)) 0 bytes [] m h) ∙ stopped (file (length bytes)) 0 bytes [] o g);
  one_of_both = λ bytes. either bytes _ (meets (file (length bytes)) 0 bytes []);
}

pub answers : (r : Result Parts DecodeFault) (bytes : List ℕ) → Explains r bytes → (m : Parts) → SpellsModule bytes m → DecodesTo m r
answers (Ok x) bytes e m h = exact.one_module bytes x m e h
answers (Err faults.Memory) bytes e m h = tt
answers (Err (faults.Bad o)) bytes e m h = exact.not_both bytes m o h e

pub refuses : (r : Result Parts DecodeFault) (bytes : List ℕ) → Explains r bytes → (n : ℕ) → StopsModule bytes n → RefusesAt n r
refuses (Ok x) bytes e n h = exact.not_both bytes x n e h
refuses (Err faults.Memory) bytes e n h = tt
refuses (Err (faults.Bad o)) bytes e n h = exact.one_offset bytes o n e h
