-- The invariant of a running function: the places of its variables hold words that stand for their values.
use Rattle.std.proofs.Common.{◌≡◌, ℕ, zero, suc, ◌+◌, ◌*◌, ◌<◌, ◌≤◌, List, [], ◌∷◌, length, Some, refl, ap, sym, ◌∙◌, subst, arith}
use Rattle.std.specs.Prelude.{slice_get, slice_set}
use Rattle.wasm_emit.proofs.Source.{Val, Vals, size}
use Rattle.wasm_core.specs.Memory.{byte, word}
use Rattle.wasm_emit.proofs.Bytes.{Mem}
use Rattle.wasm_core.specs.declared.types.ConstValue.{ConstValue}
use Rattle.wasm_core.specs.WordData.{IsBelow}
use Rattle.wasm_emit.proofs.Values.{ArgsAt, args_none, args_more, Stands, s_box, s_empty, s_con, s_clos, Fields, no_field, field}
use Rattle.wasm_emit.proofs.Bytes.{word_same}

-- below a limit the memory is the same
abbrev pub Same : ℕ → Mem → Mem → Type 0
Same limit m m' = (a : ℕ) → a < limit → byte m' a ≡ byte m a

-- the locals below d are the same
pub record Keeps (d : ℕ) (ls ls' : List ConstValue) : Type 0 where
  pub size : length ls' ≡ length ls
  pub at : (x : ℕ) → x < d → slice_get ls' x ≡ slice_get ls x

pub keeps_trans : {d d' : ℕ} {a b c : List ConstValue} → d ≤ d' → Keeps d a b → Keeps d' b c → Keeps d a c
keeps_trans le x y = record { size = y.size ∙ x.size; at = λ i h. y.at i (omega arith) ∙ x.at i h }

pub keeps_same : (d : ℕ) (a : List ConstValue) → Keeps d a a
keeps_same d a = record { size = refl; at = λ i h. refl }

pub set_other : {A : Type 0} (ls : List A) (d x : ℕ) (w : A) → x < d → slice_get (slice_set ls d w) x ≡ slice_get ls x
set_other [] d x w h = refl
set_other (y ∷ ys) zero x w h = absurd (omega arith)
set_other (y ∷ ys) (suc d) zero w h = refl
set_other (y ∷ ys) (suc d) (suc x) w h = set_other ys d x w (omega arith)

pub set_this : {A : Type 0} (ls : List A) (d : ℕ) (w : A) → d < length ls → slice_get (slice_set ls d w) d ≡ Some w
set_this [] d w h = absurd (omega arith)
set_this (y ∷ ys) zero w h = refl
set_this (y ∷ ys) (suc d) w h = set_this ys d w (omega arith)

pub set_length : {A : Type 0} (ls : List A) (d : ℕ) (w : A) → length (slice_set ls d w) ≡ length ls
set_length [] d w = refl
set_length (y ∷ ys) zero w = refl
set_length (y ∷ ys) (suc d) w = ap suc (set_length ys d w)

pub keeps_set : (ls : List ConstValue) (d : ℕ) (w : ConstValue) → Keeps d ls (slice_set ls d w)
keeps_set ls d w = record { size = set_length ls d w; at = λ x h. set_other ls d x w h }

module _ (m m' : Mem) where
  mutual
    pub stands_on : {l : ℕ} (l' : ℕ) {w : ℕ} {v : Val} → l ≤ l' → Same l m m' → Stands m l w v → Stands m' l' w v
    stands_on l' le same (s_box e) = s_box e
    stands_on l' le same (s_empty c e) = s_empty c e
    stands_on l' le same (s_con {w = w} q c e pos some within head fs) =
        s_con q c e pos some (omega arith) (word_same m m' w (λ x a b. same x (omega arith)) ∙ head) (fields_on l' w le same within fs)
    stands_on l' le same (s_clos {w = w} q c e pos within head fs) =
        s_clos q c e pos (omega arith) (word_same m m' w (λ x a b. same x (omega arith)) ∙ head) (fields_on l' w le same within fs)

    pub fields_on : {l : ℕ} (l' w : ℕ) {vs : Vals} → l ≤ l' → Same l m m' → w + 4 * suc (size vs) ≤ l → Fields m l w vs → Fields m' l' w vs
    fields_on l' w le same within no_field = no_field
    fields_on l' w le same within (field {v = v} {vs = vs} h low fs) =
        let at : word m' (w + 4 * suc (size vs)) ≡ word m (w + 4 * suc (size vs)) = word_same m m' _ (λ x a b. same x (omega arith)) in
        field (subst (λ x. Stands m' l' x v) (sym at) (stands_on l' le same h)) (subst (IsBelow w) (sym at) low) (fields_on l' w le same (omega arith) fs)

pub stands_small : {m : Mem} {l w : ℕ} {v : Val} → l ≤ 1073741824 → Stands m l w v → w < 4294967296
stands_small h (s_box e) = omega arith
stands_small h (s_empty c e) = omega arith
stands_small h (s_con q c e pos some within head fs) = omega arith
stands_small h (s_clos q c e pos within head fs) = omega arith

-- a greater limit
pub fields_up : {m : Mem} {l w : ℕ} (l' : ℕ) {vs : Vals} → l ≤ l' → Fields m l w vs → Fields m l' w vs
fields_up l' le no_field = no_field
fields_up {m} l' le (field h low fs) = field (stands_on m m l' le (λ x y. refl) h) low (fields_up l' le fs)

pub args_on : (m m' : Mem) {l a : ℕ} (l' : ℕ) {vs : Vals} → l ≤ l' → Same l m m' → ArgsAt m l a vs → ArgsAt m' l' a vs
args_on m m' l' le same args_none = args_none
args_on m m' {a = a} l' le same (args_more {v = v} {vs = vs} h within args) =
    args_more (subst (λ (x : ℕ). Stands m' l' x v) (sym (word_same m m' (a + 4 * size vs) (λ x p q. same x (omega arith)))) (stands_on m m' l' le same h)) (omega arith) (args_on m m' l' le same args)

-- an address is below the limit
pub address_below : {m : Mem} {l w : ℕ} {v : Val} → 0 < l → Stands m l w v → IsBelow l w
address_below pos (s_box e) q eq = omega arith
address_below pos (s_empty lt e) q eq = absurd (omega arith)
address_below pos (s_con p lt e h some within head fs) q eq = omega arith
address_below pos (s_clos p lt e h within head fs) q eq = omega arith
