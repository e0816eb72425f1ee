-- The invariant of a running function: the places of its variables hold words that stand for their values, or are closures that are made nowhere, whose captured words stand for the captured values.
use Rattle.std.proofs.Common.{◌≡◌, ℕ, suc, ◌+◌, ◌<◌, ◌≤◌, List, [], ◌∷◌, ◌++◌, length, Some, Bool, true, false, refl, ap, ◌∙◌, arith}
use Rattle.std.specs.Prelude.{slice_get}
use Rattle.closure_lift.specs.Lifted.{Op, Block, Program, Fn, Val, VClos, Vals, VNil, VCons, size}
use Rattle.wasm_core.specs.declared.types.ValType.TheVariants as type
use Rattle.wasm_core.specs.declared.types.ConstValue.{ConstValue}
use Rattle.wasm_core.specs.declared.types.ConstValue.TheVariants.{I32}
use Rattle.wasm_core.specs.declared.instrs.BlockType.TheVariants.{Value}
use Rattle.wasm_core.specs.declared.instrs.Instr.TheVariants.{Loop}
use Rattle.wasm_core.specs.Memory.{word}
use Rattle.wasm_core.specs.MachineStep.{BlockLabel}
use Rattle.wasm_emit.specs.EmittedLocals.{top}
use Rattle.wasm_emit.proofs.Bytes.{Mem, word_same}
use Rattle.wasm_emit.proofs.Values.{Stands}
use Rattle.wasm_emit.proofs.Holds.{Same, Keeps, stands_on}
use Rattle.known_calls.specs.KnownPlaces.{Word, InLocal, InField, IsConst, Place, At, Known, Never, op_reads, block_reads}
use Rattle.known_calls.specs.KnownCode.{Position, Inside, InTail, deeper, Final}
use Rattle.known_calls.specs.KnownModule.{worker_code}

-- the word at a place, of locals below d
pub data Reads (m : Mem) (limit : ℕ) (ls : List ConstValue) (d : ℕ) : Word → ℕ → Type 0 where
  in_local : {x w : ℕ} → x < d → slice_get ls x ≡ Some (I32 w) → Reads m limit ls d (InLocal x) w
  in_field : {x o w : ℕ} (a : ℕ) → x < d → slice_get ls x ≡ Some (I32 a) → a + o + 4 ≤ limit → word m (a + o) ≡ w → Reads m limit ls d (InField x o) w
  is_const : {n : ℕ} → Reads m limit ls d (IsConst n) n

-- the words at these places stand for these values, the last one first
pub data Words (m : Mem) (limit : ℕ) (ls : List ConstValue) (d : ℕ) : List Word → Vals → Type 0 where
  no_word : Words m limit ls d [] VNil
  more_words : {p : Word} {ps : List Word} {v : Val} {vs : Vals} (w : ℕ) → Reads m limit ls d p w → Stands m limit w v → Words m limit ls d ps vs → Words m limit ls d (p ∷ ps) (VCons v vs)

-- a variable has a place where its word is, or it is a closure of few captured words, which have places
pub data Env (m : Mem) (limit : ℕ) (ls : List ConstValue) (d : ℕ) : List Place → Vals → Type 0 where
  env_nil : Env m limit ls d [] VNil
  env_at : {p : Word} {ps : List Place} {v : Val} {vs : Vals} (w : ℕ) → Reads m limit ls d p w → Stands m limit w v → Env m limit ls d ps vs → Env m limit ls d (At p ∷ ps) (VCons v vs)
  env_known : {g : ℕ} {ws : List Word} {ps : List Place} {cs vs : Vals} → length ws ≤ 7 → Words m limit ls d ws cs → Env m limit ls d ps vs → Env m limit ls d (Known g ws ∷ ps) (VCons (VClos g cs) vs)

-- no closure that is made nowhere is read as a word
abbrev pub Unread : List Place → Block → Type 0
Unread ps t = (i g : ℕ) (ws : List Word) → slice_get ps i ≡ Some (Known g ws) → block_reads i t ≡ Never

abbrev pub OpUnread : List Place → Op → Type 0
OpUnread ps x = (i g : ℕ) (ws : List Word) → slice_get ps i ≡ Some (Known g ws) → op_reads i x ≡ Never

-- the label of a worker's loop
abbrev pub loop_of : Program → ℕ → Fn → BlockLabel
loop_of P g fn = record { keeps = false; goes_on = Loop (Value type.I32) ∷ worker_code P g fn; below = [] }

-- where a block stands that uses locals from d on, in a function of n locals: inside, where nothing is in tail position; in the tail of a function without a loop; or in a worker's tail, where the function gives a word, the labels around are those of the block's own branches, so many, and
-- that of the loop, the parameters are among the locals below d, and the locals are enough for the worker's body
pub data Stood (P : Program) : Position → Bool → ℕ → ℕ → Bool → List BlockLabel → Type 0 where
  stood_inside : {keeps : Bool} {d n : ℕ} {ls : List BlockLabel} → Stood P Inside false d n keeps ls
  stood_final : {keeps : Bool} {d n : ℕ} {ls : List BlockLabel} → Stood P Final true d n keeps ls
  stood_in_tail : {g depth d n : ℕ} {fn : Fn} (inner : List BlockLabel) → length inner ≡ depth → slice_get P.functions g ≡ Some fn → suc fn.captured ≤ d → top (suc fn.captured) fn.body ≤ n → Stood P (InTail g depth) true d n true (inner ++ loop_of P g fn ∷ [])

module _ (P : Program) where
  pub stood_up : {at : Position} {tail keeps : Bool} {d n : ℕ} {ls : List BlockLabel} (d' n' : ℕ) → d ≤ d' → n ≤ n' → Stood P at tail d n keeps ls → Stood P at tail d' n' keeps ls
  stood_up d' n' le more stood_inside = stood_inside
  stood_up d' n' le more stood_final = stood_final
  stood_up d' n' le more (stood_in_tail inner count at few enough) = stood_in_tail inner count at (omega arith) (omega arith)

  pub stood_deeper : {at : Position} {tail keeps : Bool} {d n : ℕ} {ls : List BlockLabel} (k : BlockLabel) → Stood P at tail d n keeps ls → Stood P (deeper at) tail d n keeps (k ∷ ls)
  stood_deeper k stood_inside = stood_inside
  stood_deeper k stood_final = stood_final
  stood_deeper k (stood_in_tail inner count at few enough) = stood_in_tail (k ∷ inner) (ap suc count) at few enough

module _ {m m' : Mem} {l l' : ℕ} {ls ls' : List ConstValue} {d d' : ℕ} (le : l ≤ l') (same : Same l m m') (up : d ≤ d') (keeps : Keeps d ls ls') where
  reads_on : {p : Word} {w : ℕ} → Reads m l ls d p w → Reads m' l' ls' d' p w
  reads_on (in_local {x = x} lt e) = in_local (omega arith) (keeps.at x lt ∙ e)
  reads_on (in_field {x = x} {o = o} a lt e within is) = in_field a (omega arith) (keeps.at x lt ∙ e) (omega arith) (word_same m m' (a + o) (λ y b c. same y (omega arith)) ∙ is)
  reads_on is_const = is_const

  words_on : {ps : List Word} {e : Vals} → Words m l ls d ps e → Words m' l' ls' d' ps e
  words_on no_word = no_word
  words_on (more_words w r s h) = more_words w (reads_on r) (stands_on m m' l' le same s) (words_on h)

  -- a later memory, limit and locals
  pub env_on : {ps : List Place} {e : Vals} → Env m l ls d ps e → Env m' l' ls' d' ps e
  env_on env_nil = env_nil
  env_on (env_at w r s h) = env_at w (reads_on r) (stands_on m m' l' le same s) (env_on h)
  env_on (env_known few ws h) = env_known few (words_on ws) (env_on h)

pub words_length : {m : Mem} {limit d : ℕ} {ls : List ConstValue} {ps : List Word} {cs : Vals} → Words m limit ls d ps cs → length ps ≡ size cs
words_length no_word = refl
words_length (more_words w r s h) = ap suc (words_length h)
