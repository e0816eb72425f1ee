-- The runs of equal local types that the encoder builds, with the first run last.
use Rattle.std.proofs.Common.{◌≡◌, ℕ, zero, suc, ◌+◌, ◌<◌, ◌≤◌, List, [], ◌∷◌, ◌++◌, length, reverse, drop, Bool, true, false, refl, sym, ap, subst, ◌∙◌, arith, get_or}
use Rattle.std.specs.Prelude.{if◌then◌else◌}
use Rattle.std.proofs.lemmas.List.{reverse-append, length-reverse}
use Rattle.std.proofs.Math.ListN.{drop_of_length-le}
use Rattle.wasm_encode.proofs.Fewer.{same_self}
use Rattle.wasm_core.specs.ShortestBytes.{same_type, add_local, runs, put_run, put_all}
use Rattle.wasm_core.specs.ModuleCondition.{All, IsInstr, IsClosed, opens_after}
use Rattle.wasm_core.specs.declared.types.ValType.{ValType}
use Rattle.wasm_core.specs.declared.types.ValType.TheVariants.{I32, I64}
use Rattle.wasm_core.specs.declared.instrs.Instr.{Instr}
use Rattle.wasm_encode.specs.Puts.{FirstBelow}
use Rattle.wasm_encode.proofs.Putting.{drop_at}

abbrev Run : Type 0
Run = ℕ × ValType

reverse_last : (now old : List Run) (r : Run) → now ≡ old ++ r ∷ [] → reverse now ≡ r ∷ reverse old
reverse_last now old r e = rw e (reverse-append old (r ∷ []))

not_same : (t u : ValType) → (u ≡ t → ⊥) → same_type t u ≡ false
not_same I32 I32 n = absurd (n refl)
not_same I64 I64 n = absurd (n refl)
not_same I32 I64 n = refl
not_same I64 I32 n = refl

pub first_run : (old now : List Run) (t : ValType) → length old ≡ 0 → now ≡ old ++ (1, t) ∷ [] → reverse now ≡ add_local t (reverse old)
first_run [] now t e d = rw d refl
first_run (r ∷ rs) now t e d = absurd (omega (arith, e))

pub same_run : (old mid now : List Run) (n : ℕ) (u t : ValType) → old ≡ mid ++ (n, u) ∷ [] → u ≡ t → now ≡ mid ++ (n + 1, t) ∷ [] → reverse now ≡ add_local t (reverse old)
same_run old mid now n u t e q d =
    let a = reverse_last old mid (n, u) e in
    let b = reverse_last now mid (n + 1, t) d in
    let s = same_self t in
    rw (a, b, q, s) refl

pub other_run : (old mid back now : List Run) (n : ℕ) (u t : ValType) → old ≡ mid ++ (n, u) ∷ [] → (u ≡ t → ⊥) → back ≡ mid ++ (n, u) ∷ [] → now ≡ back ++ (1, t) ∷ [] → reverse now ≡ add_local t (reverse old)
other_run old mid back now n u t e q c d =
    let a = reverse_last old mid (n, u) e in
    let b = reverse_last back mid (n, u) c in
    let f = reverse_last now back (1, t) d in
    let s = not_same t u q in
    rw (f, b, a, s) refl

pub first_below : (k : ℕ) (old mid : List Run) (n : ℕ) (u : ValType) → FirstBelow k (reverse old) → old ≡ mid ++ (n, u) ∷ [] → n < k
first_below k old mid n u f e = subst (FirstBelow k) (reverse_last old mid (n, u) e) f

below_more : (j k : ℕ) (rs : List Run) → j ≤ k → FirstBelow j rs → FirstBelow k rs
below_more j k [] l f = tt
below_more j k (r ∷ rs) l f = omega (arith, l, f)

add_below : (k : ℕ) (t : ValType) (rs : List Run) → 0 < k → FirstBelow k rs → FirstBelow (suc k) (add_local t rs)
add_below k t [] h f = omega (arith, h)
add_below k t (r ∷ rs) h f =
    let goal : (c : Bool) → FirstBelow (suc k) (if c then (r.0 + 1, t) ∷ rs else (1, t) ∷ r ∷ rs) =
    λ c. elim c as (λ c. FirstBelow (suc k) (if c then (r.0 + 1, t) ∷ rs else (1, t) ∷ r ∷ rs)) [ true ↦ omega (arith, f) | false ↦ omega (arith, h) ] in
    goal (same_type t r.1)

count_below : (ts : List ValType) → FirstBelow (suc (length ts)) (runs ts)
unfolding runs
count_below [] = tt
count_below (t ∷ ts) = add_below (suc (length ts)) t (runs ts) (omega arith) (count_below ts)

drop_short : {A : Type 0} (n : ℕ) (xs : List A) → n ≤ length xs → length (drop n xs) + n ≡ length xs
drop_short zero xs h = omega arith
drop_short (suc n) [] h = absurd (omega (arith, h))
drop_short (suc n) (x ∷ xs) h = let i = drop_short n xs (omega (arith, h)) in omega (arith, i)

pub runs_below : (ts : List ValType) (left : ℕ) (rs : List Run) → rs ≡ runs (drop left ts) → 0 < left → left ≤ length ts → length ts ≤ 50000 → FirstBelow 50000 rs
runs_below ts left rs e p h l =
    let s = drop_short left ts h in
    rw e (below_more (suc (length (drop left ts))) 50000 (runs (drop left ts)) (omega (arith, s, p, l)) (count_below (drop left ts)))

pub runs_before : (ts : List ValType) (i j : ℕ) (d : ValType) → j ≡ i + 1 → i < length ts → runs (drop i ts) ≡ add_local (get_or ts i d) (runs (drop j ts))
unfolding runs
runs_before ts i j d e h = rw (e, drop_at ts i d h) refl

pub runs_none : (ts : List ValType) (left : ℕ) → left ≡ length ts → runs (drop left ts) ≡ []
unfolding runs
runs_none ts left e = rw (drop_of_length-le ts {i = left} (omega (arith, e))) refl

pub runs_length : (rs : List Run) (ts : List ValType) → reverse rs ≡ runs ts → length rs ≡ length (runs ts)
runs_length rs ts e = sym (length-reverse rs) ∙ ap length e

pub run_next : (now old : List Run) (n : ℕ) (t : ValType) (w : List ℕ) → now ≡ old ++ (n, t) ∷ [] → put_all put_run (reverse now) w ≡ put_run (n, t) (put_all put_run (reverse old) w)
unfolding put_all
run_next now old n t w e = let a = reverse_last now old (n, t) e in rw a refl

pub run_over : (now : List Run) (w : List ℕ) → length now ≡ 0 → put_all put_run (reverse now) w ≡ w
unfolding put_all
run_over [] w e = refl
run_over (r ∷ rs) w e = absurd (omega (arith, e))

-- ---- the instructions of a body

-- the immediates of a closed body's instructions have their bits
pub all_instrs : (os : List Bool) (is : List Instr) → IsClosed os is → All IsInstr is
all_instrs [] [] c = tt
all_instrs [] (i ∷ is) c = absurd c
all_instrs (o ∷ os) [] c = tt
all_instrs (o ∷ os) (i ∷ is) (q, p, c) = (p, all_instrs (opens_after i (o ∷ os)) is c)
