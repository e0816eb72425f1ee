-- A worker's call, and its tail call of itself: the words of a known closure and the argument become its parameters.
use Rattle.std.proofs.Common.{◌≡◌, ℕ, zero, suc, ◌+◌, ◌*◌, ◌<◌, ◌≤◌, List, [], ◌∷◌, ◌++◌, length, replicate, Some, Bool, true, refl, ap, sym, ◌∙◌, subst, arith}
use Rattle.std.proofs.lemmas.List.{length-replicate, reverse-append, length-reverse, append_assoc}
use Rattle.std.proofs.lemmas.Option.{slice_get-get_or}
use Rattle.std.specs.Prelude.{slice_get, slice_set, reverse, take, drop}
use Rattle.wasm_core.specs.declared.types.ValType.{ValType}
use Rattle.wasm_core.specs.declared.types.ValType.TheVariants as type
use Rattle.wasm_core.specs.declared.types.ConstValue.{ConstValue}
use Rattle.wasm_core.specs.declared.types.ConstValue.TheVariants.{I32}
use Rattle.wasm_core.specs.declared.instrs.Instr.{Instr}
use Rattle.wasm_core.specs.declared.instrs.Instr.TheVariants.{Call}
use Rattle.wasm_core.specs.Memory.{word}
use Rattle.wasm_core.specs.Parts.{Parts}
use Rattle.wasm_core.specs.Instance.{func_of}
use Rattle.wasm_core.specs.MachineStep.{BlockLabel, Frame, State}
use Rattle.wasm_core.proofs.Rules.{Around}
use Rattle.wasm_core.proofs.Rules as rule
use Rattle.closure_lift.specs.Lifted.{Program, Fn, Vals, VCons, size}
use Rattle.wasm_emit.specs.EmitLaws.{Spent}
use Rattle.wasm_emit.specs.EmittedLocals.{top}
use Rattle.wasm_emit.proofs.Bytes.{Mem}
use Rattle.wasm_emit.proofs.Values.{Fields, no_field, field}
use Rattle.wasm_emit.proofs.Holds.{set_this, set_length}
use Rattle.wasm_emit.proofs.Rules.{Limits, Within, here, callee, zeros, func, store, looser, r_get, r_set, r_load}
use Rattle.known_calls.specs.KnownPlaces.{Word, At, Known, InLocal}
use Rattle.known_calls.specs.KnownCode.{InTail, into_params}
use Rattle.known_calls.specs.KnownModule.{words_type, params, captured_words}
use Rattle.known_calls.proofs.KnownHolds.{in_local, Env, env_nil, env_at, Stood, stood_in_tail, loop_of}
use Rattle.known_calls.proofs.KnownMaking.{WordsStand, stand_none, stand_more, words, stand_size}

pub take_words : (xs ys : List ConstValue) → take (length xs) (xs ++ ys) ≡ xs
take_words [] ys = refl
take_words (x ∷ xs) ys = ap (λ (zs : List ConstValue). x ∷ zs) (take_words xs ys)

drop_words : (xs ys : List ConstValue) → drop (length xs) (xs ++ ys) ≡ ys
drop_words [] ys = refl
drop_words (x ∷ xs) ys = drop_words xs ys

at_length : (as' bs : List ConstValue) (x : ConstValue) → slice_get (as' ++ x ∷ bs) (length as') ≡ Some x
at_length [] bs x = refl
at_length (a ∷ as') bs x = at_length as' bs x

-- the locals that a worker begins with are the places of its variables
pub params_env : {m : Mem} {limit D : ℕ} {ws : List ℕ} {cs : Vals} (more : List ConstValue) → size cs ≤ D → WordsStand m limit ws cs → Env m limit (reverse (words ws) ++ more) D (params (size cs)) cs
params_env more le stand_none = env_nil
params_env {m} {limit} {D} more le (stand_more {w = w} {ws = ws} {v = v} {vs = vs} s h) =
    let same : reverse (words (w ∷ ws)) ++ more ≡ reverse (words ws) ++ I32 w ∷ more = ap (λ (x : List ConstValue). x ++ more) (reverse-append (I32 w ∷ []) (words ws)) ∙ append_assoc (reverse (words ws)) (I32 w ∷ []) more in
    let count : length (reverse (words ws)) ≡ size vs = length-reverse (words ws) ∙ stand_size h in
    let at : slice_get (reverse (words ws) ++ I32 w ∷ more) (size vs) ≡ Some (I32 w) = subst (λ (n : ℕ). slice_get (reverse (words ws) ++ I32 w ∷ more) n ≡ Some (I32 w)) count (at_length (reverse (words ws)) more (I32 w)) in
    subst (λ (L : List ConstValue). Env m limit L D (At (InLocal (size vs)) ∷ params (size vs)) (VCons v vs)) (sym same) (env_at w (in_local (omega arith) at) s (params_env (I32 w ∷ more) (omega arith) h))

-- none of them is a known closure
pub params_made : (n i g : ℕ) (ws : List Word) → slice_get (params n) i ≡ Some (Known g ws) → ⊥
params_made zero i g ws e = cc
params_made (suc n) zero g ws e = cc
params_made (suc n) (suc i) g ws e = params_made n i g ws e

-- the parameters are set, the last one first
abbrev pub set_all : List ConstValue → List ConstValue → List ConstValue
set_all [] ls = ls
set_all (x ∷ xs) ls = set_all xs (slice_set ls (length xs) x)

set_above : (ls : List ConstValue) (d x : ℕ) (w : ConstValue) → d < x → slice_get (slice_set ls d w) x ≡ slice_get ls x
set_above [] d x w h = refl
set_above (y ∷ ys) d zero w h = absurd (omega arith)
set_above (y ∷ ys) zero (suc x) w h = refl
set_above (y ∷ ys) (suc d) (suc x) w h = set_above ys d x w (omega arith)

set_kept : (xs ls : List ConstValue) (i : ℕ) → length xs ≤ i → slice_get (set_all xs ls) i ≡ slice_get ls i
set_kept [] ls i h = refl
set_kept (x ∷ xs) ls i h = set_kept xs (slice_set ls (length xs) x) i (omega arith) ∙ set_above ls (length xs) i x (omega arith)

pub set_all_length : (xs ls : List ConstValue) → length (set_all xs ls) ≡ length ls
set_all_length [] ls = refl
set_all_length (x ∷ xs) ls = set_all_length xs (slice_set ls (length xs) x) ∙ set_length ls (length xs) x

-- and then they are the places of a worker's variables
pub set_params_env : {m : Mem} {limit D : ℕ} {ws : List ℕ} {cs : Vals} (ls : List ConstValue) → length (words ws) ≤ length ls → size cs ≤ D → WordsStand m limit ws cs → Env m limit (set_all (words ws) ls) D (params (size cs)) cs
set_params_env ls few le stand_none = env_nil
set_params_env {m} {limit} {D} ls few le (stand_more {w = w} {ws = ws} {v = v} {vs = vs} s h) =
    let ls1 = slice_set ls (length (words ws)) (I32 w) in
    let at : slice_get (set_all (words ws) ls1) (length (words ws)) ≡ Some (I32 w) = set_kept (words ws) ls1 (length (words ws)) (omega arith) ∙ set_this ls (length (words ws)) (I32 w) (omega arith) in
    let there : slice_get (set_all (words ws) ls1) (size vs) ≡ Some (I32 w) = subst (λ (n : ℕ). slice_get (set_all (words ws) ls1) n ≡ Some (I32 w)) (stand_size h) at in
    env_at w (in_local (omega arith) there) s (set_params_env ls1 (omega (arith, set_length ls (length (words ws)) (I32 w))) (omega arith) h)

-- the labels of a worker's tail
pub record InLoop (P : Program) (g depth d n : ℕ) (tail keeps : Bool) (ls : List BlockLabel) : Type 0 where
  pub inner : List BlockLabel
  pub count : length inner ≡ depth
  pub fn : Fn
  pub at : slice_get P.functions g ≡ Some fn
  pub below : suc fn.captured ≤ d
  pub enough : top (suc fn.captured) fn.body ≤ n
  pub in_tail : tail ≡ true
  pub keep : keeps ≡ true
  pub is : ls ≡ inner ++ loop_of P g fn ∷ []

pub in_loop : (P : Program) (g depth : ℕ) {d n : ℕ} {tail keeps : Bool} {ls : List BlockLabel} → Stood P (InTail g depth) tail d n keeps ls → InLoop P g depth d n tail keeps ls
in_loop P g depth (stood_in_tail {fn = fn} inner count at few enough) = record { inner = inner; count = count; fn = fn; at = at; below = few; enough = enough; in_tail = refl; keep = refl; is = refl }

pub same_around : (F : Around) (b : Bool) (ls : List BlockLabel) → F.keeps ≡ b → F.labels ≡ ls → F ≡ record { keeps = b; labels = ls; callers = F.callers }
same_around F b ls x y = ap (λ (k : Bool). around k F.labels F.callers) x ∙ ap (λ (k : List BlockLabel). around b k F.callers) y
  where
    around : Bool → List BlockLabel → List Frame → Around
    around k ls cs = record { keeps = k; labels = ls; callers = cs }

module _ (M : Parts) (cap : Limits) (Q : State → Type 0) where
  -- a function is called with these operands as parameters
  pub r_call_words : {f : Around} {m : Mem} {p h : ℕ} {ls vals : List ConstValue} {rest : List Instr} {l u : ℕ} (k : ℕ) {x n : ℕ} {is : List Instr} (xs : List ConstValue) → length f.callers ≤ cap.frames → func_of M x ≡ Some (func (words_type n) k is) → length xs ≡ suc n →
      Within M cap Q l u (here cap (callee f ls vals rest) m p h (reverse xs ++ zeros k) [] is) → Within M cap Q (suc l) (suc u) (here cap f m p h ls (xs ++ vals) (Call x ∷ rest))
  r_call_words {f} {m} {p} {h} {ls} {vals} {rest} {l} {u} k {x} {n} {is} xs deep e count w =
      let g = func (words_type n) k is in
      let many : length (replicate (suc n) type.I32) ≡ length xs = length-replicate {A = ValType} (suc n) type.I32 ∙ sym count in
      let long : length (xs ++ vals) ≡ length xs + length vals = lengths xs in
      rule.r_call M cap.frames Q (Spent M cap.bytes) {x = x} {h = g} deep e (omega (arith, many, long))
      (subst (λ (i : ℕ). Within M cap Q l u (rule.called f (store cap m p h) ls (drop i (xs ++ vals)) rest g (xs ++ vals))) (sym many)
      (subst (λ (ys : List ConstValue). Within M cap Q l u (rule.called f (store cap m p h) ls ys rest g (xs ++ vals))) (sym (drop_words xs vals))
      (subst (λ (ys : List ConstValue). Within M cap Q l u (here cap (callee f ls vals rest) m p h (reverse ys ++ zeros k) [] is)) (sym (ap (λ (i : ℕ). take i (xs ++ vals)) many ∙ take_words xs vals)) w)))
    where
      lengths : (ys : List ConstValue) → length (ys ++ vals) ≡ length ys + length vals
      lengths [] = omega arith
      lengths (y ∷ ys) = omega (arith, lengths ys)

  -- operands become parameters
  pub r_params : (xs : List ConstValue) (x : ConstValue) {f : Around} {m : Mem} {p h : ℕ} (ls : List ConstValue) {vals : List ConstValue} (rest : List Instr) {l u : ℕ} → length f.callers ≤ cap.frames → suc (length xs) ≤ length ls →
      Within M cap Q l u (here cap f m p h (set_all (x ∷ xs) ls) vals rest) → Within M cap Q l (suc (length xs) + u) (here cap f m p h ls (x ∷ (xs ++ vals)) (into_params (length xs) rest))
  r_params [] x ls rest deep few k = looser M cap Q (r_set M cap Q (omega arith) (slice_get-get_or ls 0 (I32 0) (omega arith)) k) (omega arith) (omega arith)
  r_params (y ∷ ys) x ls rest deep few k =
      looser M cap Q (r_set M cap Q (omega arith) (slice_get-get_or ls (length (y ∷ ys)) (I32 0) (omega arith)) (r_params ys y (slice_set ls (length (y ∷ ys)) x) rest deep (omega (arith, set_length ls (length (y ∷ ys)) x)) k)) (omega arith) (omega arith)

  -- the captured words of the closure in local 0 come onto the operands
  pub loaded : {f : Around} {m : Mem} {p h : ℕ} {ls vals : List ConstValue} {l limit w : ℕ} {vs : Vals} {rest : List Instr} {u : ℕ} → length f.callers ≤ cap.frames → limit ≤ length m → slice_get ls 0 ≡ Some (I32 w) → w + 4 * suc (size vs) ≤ limit → Fields m limit w vs →
      ((ws : List ℕ) → WordsStand m limit ws vs → Within M cap Q l u (here cap f m p h ls (words ws ++ vals) rest)) → Within M cap Q l (2 * size vs + u) (here cap f m p h ls vals (captured_words (size vs) rest))
  loaded deep fits at inside no_field k = looser M cap Q (k [] stand_none) (omega arith) (omega arith)
  loaded {m = m} {l = l} {w = w} {u = u} deep fits at inside (field {vs = vs} st low fs) k =
      looser M cap Q (loaded {l = l} {u = 2 + u} deep fits at (omega arith) fs (λ ws all. looser M cap Q {l = suc (suc l)} {u = suc (suc u)} (r_get M cap Q (omega arith) at (r_load M cap Q (omega arith) (omega arith) (k (word m (w + 4 * suc (size vs)) ∷ ws) (stand_more st all))))
      (omega arith) (omega arith))) (omega arith) (omega arith)
