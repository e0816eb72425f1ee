-- Bytes that are put after others.
use Rattle.std.proofs.Common.{◌≡◌, ℕ, zero, suc, ◌+◌, ◌-◌, ◌/◌, ◌%◌, ◌<◌, ◌≤◌, List, [], ◌∷◌, ◌++◌, length, Bool, true, false, ◌^◌, ◌⊎◌, inl, inr, ⊎_elim, refl, arith, subst, Result, Ok, Err, append_assoc, append-nil, length-append, drop, add-one, drop-cons, get_or, sym, ap, ◌∙◌}
use Rattle.std.specs.Prelude.{◌&&◌, nat_lt, nat_le}
use Rattle.std.proofs.lemmas.Bool.{lt-ltb, le-ltb, ltb-false, leb-false, leb-true, lt-leb, le-leb, cases_lt}
use Rattle.std.proofs.Math.Pow.{pow_mono}
use Rattle.std.proofs.Math.ListN.{drop_of_length-le}
use Rattle.wasm_core.proofs.Printed.{seven_signed, seventh}
use Rattle.wasm_core.specs.ShortestBytes.{is_low, is_high, unsigned, signed, put_u32, put_all, put_list, put_sized, put_section, put_header, put_sections, module_bytes, most_bytes}
use Rattle.wasm_encode.specs.Puts.{Puts, PutsUnless}
use Rattle.wasm_core.proofs.Longer.{u32_longer, sized_longer}
use Rattle.wasm_core.specs.declared.binary_faults.EncodeFault.{EncodeFault}
use Rattle.wasm_core.specs.declared.binary_faults.EncodeFault.TheVariants as faults
use Rattle.wasm_core.specs.ModuleCondition.{All}
use Rattle.wasm_core.specs.Parts.{Parts}

pub drop_at : {A : Type 0} (xs : List A) (i : ℕ) (d : A) → i < length xs → drop i xs ≡ get_or xs i d ∷ drop (i + 1) xs
drop_at xs i d h = rw add-one (drop-cons xs i d h)

pub pushed : (old new : List ℕ) (b : ℕ) → new ≡ old ++ b ∷ [] → Puts old new (λ w. b ∷ w)
pushed old new b e = record { grows = (let l = length-append old (b ∷ []) in rw e (omega (arith, l))); after = λ w. rw e (append_assoc old (b ∷ []) w) }

pub extended : (old new more : List ℕ) → new ≡ old ++ more → Puts old new (λ w. more ++ w)
extended old new more e = record { grows = (let l = length-append old more in rw e (omega (arith, l))); after = λ w. rw e (append_assoc old more w) }

-- so far, and what is still to be put after that
pub record PutsFrom (old now : List ℕ) (more all : List ℕ → List ℕ) : Type 0 where
  pub grows : length old ≤ length now
  pub after : (w : List ℕ) → now ++ more w ≡ old ++ all w

-- what is put after nothing
pub from_nothing : (old new : List ℕ) (put : List ℕ → List ℕ) → old ≡ [] → Puts old new put → new ≡ put []
from_nothing old new put e p = sym (append-nil new) ∙ p.after [] ∙ ap (λ o. o ++ put []) e

pub unsigned_last : (g n : ℕ) (w : List ℕ) → 0 < g → n < 128 → unsigned g n w ≡ n ∷ w
unfolding unsigned
unsigned_last zero n w p h = absurd (omega (arith, p))
unsigned_last (suc g) n w p h = let t = lt-ltb n 128 h in rw t refl

pub unsigned_more : (g n : ℕ) (w : List ℕ) → 0 < g → 128 ≤ n → unsigned g n w ≡ (n % 128 + 128) ∷ unsigned (g - 1) (n / 128) w
unfolding unsigned
unsigned_more zero n w p h = absurd (omega (arith, p))
unsigned_more (suc g) n w p h = let t = le-ltb n 128 h in let e : suc g - 1 ≡ g = omega arith in rw (t, e) refl

pub unsigned_none : (g n : ℕ) (w : List ℕ) → g ≡ 0 → unsigned g n w ≡ w
unfolding unsigned
unsigned_none g n w e = rw e refl

pub all_next : {A : Type 0} (one : A → List ℕ → List ℕ) (xs : List A) (i : ℕ) (d : A) (w : List ℕ) → i < length xs → put_all one (drop i xs) w ≡ one (get_or xs i d) (put_all one (drop (i + 1) xs) w)
unfolding put_all
all_next one xs i d w h = rw (drop_at xs i d h) refl

pub all_over : {A : Type 0} (one : A → List ℕ → List ℕ) (xs : List A) (i : ℕ) (w : List ℕ) → length xs ≤ i → put_all one (drop i xs) w ≡ w
unfolding put_all
all_over one xs i w h = rw (drop_of_length-le xs {i = i} h) refl

-- ---- signed numbers

pub signed_none : (g bits n : ℕ) (w : List ℕ) → g ≡ 0 → signed g bits n w ≡ w
unfolding signed
signed_none g bits n w e = rw e refl

pub signed_low : (g bits n : ℕ) (w : List ℕ) → 0 < g → is_low bits n ≡ true → signed g bits n w ≡ n ∷ w
unfolding signed
signed_low zero bits n w p h = absurd (omega (arith, p))
signed_low (suc g) bits n w p h = rw h refl

pub signed_high : (g bits n : ℕ) (w : List ℕ) → 0 < g → is_low bits n ≡ false → is_high bits n ≡ true → signed g bits n w ≡ (128 - (2 ^ bits - n)) ∷ w
unfolding signed
signed_high zero bits n w p h k = absurd (omega (arith, p))
signed_high (suc g) bits n w p h k = rw (h, k) refl

pub signed_more : (g bits n : ℕ) (w : List ℕ) → 0 < g → is_low bits n ≡ false → is_high bits n ≡ false → signed g bits n w ≡ (n % 128 + 128) ∷ signed (g - 1) (bits - 7) (n / 128) w
unfolding signed
signed_more zero bits n w p h k = absurd (omega (arith, p))
signed_more (suc g) bits n w p h k = let e : suc g - 1 ≡ g = omega arith in rw (h, k, e) refl

not_low : (bits n : ℕ) (a b : Bool) → nat_lt n 64 ≡ a → nat_lt n (2 ^ (bits - 1)) ≡ b → (a && b) ≡ false → (2 ^ (bits - 1) ≤ n) ⊎ (64 ≤ n)
not_low bits n true true p q e = absurd cc
not_low bits n true false p q e = inl (ltb-false _ _ q)
not_low bits n false b p q e = inr (ltb-false _ _ p)

pub more_bits : (bits n : ℕ) → 0 < bits → is_low bits n ≡ false → is_high bits n ≡ false → 7 < bits
more_bits bits n p h k = seven_signed bits n (not_low bits n _ _ refl refl h) (leb-false _ _ k) p

pub fewer_bits : (bits n : ℕ) → 0 < bits → n < 2 ^ bits → is_low bits n ≡ false → is_high bits n ≡ false → n / 128 < 2 ^ (bits - 7)
fewer_bits bits n p l h k = seventh bits n (more_bits bits n p h k) l

pub not_zero : (bits n : ℕ) → 0 < bits → is_low bits n ≡ false → 0 < n
not_zero bits zero p h = let q : 2 ^ 0 ≤ 2 ^ (bits - 1) = pow_mono {i = 0} {j = bits - 1} (omega arith) in let t = lt-ltb 0 (2 ^ (bits - 1)) (omega (arith, q)) in absurd (let e : true ≡ false = sym t ∙ h in cc)
not_zero bits (suc n) p h = omega arith

-- how far the bits of a number are below two to the power of its width
pub high_is : (p n a : ℕ) → n < p → a ≡ p - n → nat_le a 64 ≡ nat_le p (n + 64)
high_is p n a l e = ⊎_elim (λ h. lt-leb a 64 h ∙ sym (lt-leb p (n + 64) (omega (arith, h, l, e)))) (λ h. le-leb a 64 h ∙ sym (le-leb p (n + 64) (omega (arith, h, l, e)))) (cases_lt 64 a)

pub high_near : (bits n a : ℕ) → is_high bits n ≡ true → a ≡ 2 ^ bits - n → a ≤ 64
high_near bits n a h e = let l = leb-true _ _ h in omega (arith, l, e)

-- ---- lists

pub all_at : {A : Type 0} (P : A → Type 0) (xs : List A) (i : ℕ) (d : A) → All P xs → i < length xs → P (get_or xs i d)
all_at P [] i d a h = absurd (omega (arith, h))
all_at P (x ∷ xs) zero d (p, a) h = p
all_at P (x ∷ xs) (suc i) d (p, a) h = all_at P xs i d a (omega (arith, h))

-- ---- more bytes than a module may have

pub sized_passes : (part w : List ℕ) → most_bytes < length part → most_bytes < length (put_sized part w)
sized_passes part w h = let a = sized_longer part w in omega (arith, h, a)

-- ---- sections

pub section_none : {A : Type 0} (id : ℕ) (one : A → List ℕ → List ℕ) (xs : List A) (w : List ℕ) → length xs ≡ 0 → put_section id one xs w ≡ w
unfolding put_section
section_none id one [] w e = refl
section_none id one (x ∷ xs) w e = absurd (omega (arith, e))

pub section_some : {A : Type 0} (id : ℕ) (one : A → List ℕ → List ℕ) (xs : List A) (part w : List ℕ) → 0 < length xs → part ≡ put_list one xs [] → put_section id one xs w ≡ id ∷ put_sized part w
unfolding put_section
section_some id one [] part w h e = absurd (omega (arith, h))
section_some id one (x ∷ xs) part w h e = rw e refl

pub section_passes : {A : Type 0} (id : ℕ) (one : A → List ℕ → List ℕ) (xs : List A) (w : List ℕ) → 0 < length xs → ((w : List ℕ) → most_bytes < length (put_all one xs w)) → most_bytes < length (put_section id one xs w)
section_passes id one xs w h f =
    let a = u32_longer (length xs) (put_all one xs []) in
    let b = sized_longer (put_list one xs []) w in
    let c = f [] in
    let e = section_some id one xs (put_list one xs []) w h refl in
    rw e (omega (arith, a, b, c))

-- ---- what the functions of sections and lists promise, from what they call

pub list_from : {A : Type 0} (one : A → List ℕ → List ℕ) (xs : List A) (old mid new : List ℕ) → old ≡ [] → Puts old mid (put_u32 (length xs)) → Puts mid new (put_all one xs) → new ≡ put_list one xs []
list_from one xs old mid new e p q = sym (append-nil new) ∙ q.after [] ∙ p.after (put_all one xs []) ∙ ap (λ o. o ++ put_list one xs []) e

pub one_put : {A : Type 0} (one : A → List ℕ → List ℕ) (x : A) (old new : List ℕ) → Puts old new (one x) → Puts old new (put_all one (x ∷ []))
unfolding put_all
one_put one x old new p = record { grows = p.grows; after = p.after }

pub section_puts : {A : Type 0} (id : ℕ) (one : A → List ℕ → List ℕ) (xs : List A) (part : List ℕ) (r : Result (Unit {0}) EncodeFault) (old new : List ℕ) → 0 < length xs → part ≡ put_list one xs [] → PutsUnless r old new (λ w. id ∷ put_sized part w) → PutsUnless r old new (put_section id one xs)
section_puts id one xs part (Ok x) old new h e p = record { grows = p.grows; after = λ w. p.after w ∙ ap (λ o. old ++ o) (sym (section_some id one xs part w h e)) }
section_puts id one xs part (Err faults.ModuleBytes) old new h e p = λ w. subst (λ o. most_bytes < length o) (sym (section_some id one xs part w h e)) (p w)
section_puts id one xs part (Err faults.Memory) old new h e p = tt

pub puts_next : {A : Type 0} (one : A → List ℕ → List ℕ) (xs : List A) (i : ℕ) (d x : A) (old now new : List ℕ) (all : List ℕ → List ℕ) → i < length xs → x ≡ get_or xs i d → PutsFrom old now (put_all one (drop i xs)) all → Puts now new (one x) → PutsFrom old new (put_all one (drop (i + 1) xs)) all
puts_next one xs i d x old now new all h e f p = record {
  grows = (let a = f.grows in let b = p.grows in omega (arith, a, b));
  after = λ w. p.after (put_all one (drop (i + 1) xs) w) ∙ ap (λ x. now ++ one x (put_all one (drop (i + 1) xs) w)) e ∙ ap (λ o. now ++ o) (sym (all_next one xs i d w h)) ∙ f.after w;
}

-- what is put next passes the limit, and so does the whole
pub next_passes : {A : Type 0} (one : A → List ℕ → List ℕ) (xs : List A) (i : ℕ) (d x : A) (old now : List ℕ) (all : List ℕ → List ℕ) → i < length xs → x ≡ get_or xs i d →
    PutsFrom old now (put_all one (drop i xs)) all → ((w : List ℕ) → most_bytes < length (one x w)) → (w : List ℕ) → most_bytes < length (all w)
next_passes one xs i d x old now all h e f p w =
    let more = put_all one (drop i xs) w in
    let rest = put_all one (drop (i + 1) xs) w in
    let a : length more ≡ length (one x rest) = ap length (all_next one xs i d w h) ∙ ap (λ x. length (one x rest)) (sym e) in
    let b = ap length (f.after w) in
    let c = length-append now more in
    let g = length-append old (all w) in
    let q = f.grows in
    let l = p rest in
    omega (arith, a, b, c, g, q, l)

pub fails_next : {A : Type 0} (one : A → List ℕ → List ℕ) (xs : List A) (i : ℕ) (d x : A) (old now new out : List ℕ) (all : List ℕ → List ℕ) (e : EncodeFault) → i < length xs → x ≡ get_or xs i d →
    PutsFrom old now (put_all one (drop i xs)) all → PutsUnless (Err e) now new (one x) → PutsUnless (Err e) old out all
fails_next one xs i d x old now new out all faults.ModuleBytes h q f p = next_passes one xs i d x old now all h q f p
fails_next one xs i d x old now new out all faults.Memory h q f p = tt

pub section_fails : {A : Type 0} (id : ℕ) (one : A → List ℕ → List ℕ) (xs : List A) (e : EncodeFault) (old new before after : List ℕ) → 0 < length xs → PutsUnless (Err e) old new (put_all one xs) → PutsUnless (Err e) before after (put_section id one xs)
section_fails id one xs faults.ModuleBytes old new before after h p = λ w. section_passes id one xs w h p
section_fails id one xs faults.Memory old new before after h p = tt

-- one after the other
pub then_puts : (old mid new : List ℕ) (f g : List ℕ → List ℕ) → Puts old mid f → Puts mid new g → Puts old new (λ w. f (g w))
then_puts old mid new f g p q = record { grows = (let a = p.grows in let b = q.grows in omega (arith, a, b)); after = λ w. q.after w ∙ p.after (g w) }

pub module_put : (m : Parts) (old mid new : List ℕ) → old ≡ [] → Puts old mid put_header → Puts mid new (put_sections m) → new ≡ module_bytes m
unfolding module_bytes
module_put m old mid new e p q = from_nothing old new (λ w. put_header (put_sections m w)) e (then_puts old mid new put_header (put_sections m) p q)
