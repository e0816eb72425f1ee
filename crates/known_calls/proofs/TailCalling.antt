-- Calls by where they stand: in the tail of a function its frame goes, and the callee returns to those that wait for it; elsewhere it waits itself.
use Rattle.std.proofs.Common.{◌≡◌, ℕ, suc, ◌+◌, ◌≤◌, List, [], ◌∷◌, ◌++◌, length, length-append, replicate, Option, Some, None, Bool, true, refl, ap, sym, ◌∙◌, subst, arith, le-leb}
use Rattle.std.proofs.lemmas.List.{length-replicate}
use Rattle.std.specs.Prelude.{slice_get, reverse, take, if◌then◌else◌}
use Rattle.wasm_core.specs.declared.types.ValType.{ValType}
use Rattle.wasm_core.specs.declared.types.ValType.TheVariants as type
use Rattle.wasm_core.specs.declared.types.FuncType.{FuncType}
use Rattle.wasm_core.specs.declared.types.ConstValue.{ConstValue}
use Rattle.wasm_core.specs.declared.types.ConstValue.TheVariants.{I32}
use Rattle.wasm_core.specs.declared.ended.TrapKind.TheVariants as kind
use Rattle.wasm_core.specs.declared.instrs.Instr.{Instr}
use Rattle.wasm_core.specs.declared.instrs.Instr.TheVariants.{ReturnCall, ReturnCallIndirect}
use Rattle.wasm_core.specs.Parts.{Parts}
use Rattle.wasm_core.specs.Instance.{Func, func_of, table_of}
use Rattle.wasm_core.specs.MachineStep.{BlockLabel, Frame, Store, Conf, State, At, on_some, on_entry, tail_call, same_func_type, frame_of, trap}
use Rattle.wasm_core.specs.RunTree.{Within as Tree}
use Rattle.wasm_core.proofs.Rules.{Around, conf, one}
use Rattle.wasm_core.proofs.Rules as rule
use Rattle.closure_lift.specs.Lifted.{Program, Val}
use Rattle.wasm_emit.specs.EmitLaws.{Spent}
use Rattle.wasm_emit.specs.EmittedModule.{type_constant, type_function}
use Rattle.wasm_emit.specs.CallDepth.{with_call}
use Rattle.wasm_emit.proofs.Bytes.{Mem}
use Rattle.wasm_emit.proofs.Holds.{keeps_same}
use Rattle.wasm_emit.proofs.Rules.{Limits, Within, here, zeros, func, r_call_0, r_indirect}
use Rattle.known_calls.specs.KnownCode.{Position, Inside, Final, InTail, call_of, closure_call}
use Rattle.known_calls.specs.KnownModule.{words_type}
use Rattle.known_calls.proofs.KnownHolds.{Stood, stood_inside, stood_final, stood_in_tail}
use Rattle.known_calls.proofs.KnownCases.{Out, Go}
use Rattle.known_calls.proofs.Working.{take_words, r_call_words}

-- around a function that begins, for which these wait
abbrev pub entering : List Frame → Around
entering callers = record { keeps = true; labels = []; callers = callers }

-- those that wait for a function that is called there
abbrev pub waiting : Position → Around → List ConstValue → List ConstValue → List Instr → List Frame
waiting Inside f ls vals rest = record { keeps = f.keeps; locals = ls; labels = f.labels; operands = vals; rest = rest } ∷ f.callers
waiting Final f ls vals rest = f.callers
waiting (InTail h depth) f ls vals rest = f.callers

-- a function runs in place of the one that called it
abbrev replacing : Around → Store → Func → List ConstValue → State
replacing f s g args = At (record { store = s; current = frame_of g args; callers = f.callers })

module _ (M : Parts) (frames : ℕ) (Q E : State → Type 0) where
  module _ {f : Around} {s : Store} {ls vals : List ConstValue} {rest : List Instr} {l u : ℕ} where
    r_return_call : {x : ℕ} {h : Func} → length f.callers ≤ frames → func_of M x ≡ Some h → length h.type.params ≤ length vals → Tree M frames Q E l u (replacing f s h vals) → Tree M frames Q E (suc l) (suc u) (rule.here f s ls vals (ReturnCall x ∷ rest))
    r_return_call {x} {h} deep e few k =
        let c : Conf = conf f s ls vals (ReturnCall x ∷ rest) in
        one M frames Q E {c = c} deep
        (λ g. ap (λ (o : Option Func). on_some o (λ h. tail_call c h vals)) e
        ∙ ap (λ (b : Bool). if b then Some (replacing f s h vals) else None) (le-leb _ _ few)) k

    r_return_indirect : {x y index : ℕ} {t : FuncType} {h : Func} → length f.callers ≤ frames → slice_get M.types index ≡ Some t → slice_get (table_of M) x ≡ Some (Some y) → func_of M y ≡ Some h → same_func_type t h.type ≡ true → length h.type.params ≤ length vals →
        Tree M frames Q E l u (replacing f s h vals) → Tree M frames Q E (suc l) (suc u) (rule.here f s ls (I32 x ∷ vals) (ReturnCallIndirect index 0 ∷ rest))
    r_return_indirect {x} {y} {index} {t} {h} deep et d e is few k =
        let c : Conf = conf f s ls (I32 x ∷ vals) (ReturnCallIndirect index 0 ∷ rest) in
        one M frames Q E {c = c} deep
        (λ g. ap (λ (o : Option FuncType). on_some o (λ t. on_entry M t (slice_get (table_of M) x) c (λ h. tail_call c h vals))) et
        ∙ ap (λ (o : Option (Option ℕ)). on_entry M t o c (λ h. tail_call c h vals)) d
        ∙ ap (λ (o : Option Func). on_some o (λ h. if same_func_type t h.type then tail_call c h vals else trap kind.IndirectType c)) e
        ∙ ap (λ (b : Bool). if b then tail_call c h vals else trap kind.IndirectType c) is
        ∙ ap (λ (b : Bool). if b then Some (replacing f s h vals) else None) (le-leb _ _ few)) k

module _ (M : Parts) (cap : Limits) (Q : State → Type 0) where
  module _ {f : Around} {m : Mem} {p h : ℕ} {ls vals : List ConstValue} {rest : List Instr} {l u : ℕ} where
    tail_0 : (n : ℕ) {x : ℕ} {code : List Instr} → length f.callers ≤ cap.frames → func_of M x ≡ Some (func type_constant n code) → Within M cap Q l u (here cap (entering f.callers) m p h (zeros n) [] code) → Within M cap Q (suc l) (suc u) (here cap f m p h ls vals (ReturnCall x ∷ rest))
    tail_0 n {x} {code} deep e k = r_return_call M cap.frames Q (Spent M cap.bytes) {x = x} {h = func type_constant n code} deep e (omega arith) k

    tail_indirect : (n : ℕ) {x y : ℕ} {a b : ConstValue} {code : List Instr} → length f.callers ≤ cap.frames → slice_get M.types 2 ≡ Some type_function → slice_get (table_of M) x ≡ Some (Some y) → func_of M y ≡ Some (func type_function n code) →
        Within M cap Q l u (here cap (entering f.callers) m p h (a ∷ b ∷ zeros n) [] code) → Within M cap Q (suc l) (suc u) (here cap f m p h ls (I32 x ∷ b ∷ a ∷ vals) (ReturnCallIndirect 2 0 ∷ rest))
    tail_indirect n {x} {y} {a} {b} {code} deep et d e k = r_return_indirect M cap.frames Q (Spent M cap.bytes) {x = x} {y = y} {index = 2} {t = type_function} {h = func type_function n code} deep et d e refl (omega arith) k

    -- a function without parameters, and a closure's function by its entry of the table
    pub call_0 : (at : Position) (n x : ℕ) {code : List Instr} → length f.callers ≤ cap.frames → func_of M x ≡ Some (func type_constant n code) → Within M cap Q l u (here cap (entering (waiting at f ls vals rest)) m p h (zeros n) [] code) →
        Within M cap Q (suc l) (suc u) (here cap f m p h ls vals (call_of at x ∷ rest))
    call_0 Inside n x deep e k = r_call_0 M cap Q n deep e k
    call_0 Final n x deep e k = tail_0 n deep e k
    call_0 (InTail g depth) n x deep e k = tail_0 n deep e k

    pub call_closure : (at : Position) (n : ℕ) {x y : ℕ} {a b : ConstValue} {code : List Instr} → length f.callers ≤ cap.frames → slice_get M.types 2 ≡ Some type_function → slice_get (table_of M) x ≡ Some (Some y) → func_of M y ≡ Some (func type_function n code) →
        Within M cap Q l u (here cap (entering (waiting at f ls vals rest)) m p h (a ∷ b ∷ zeros n) [] code) → Within M cap Q (suc l) (suc u) (here cap f m p h ls (I32 x ∷ b ∷ a ∷ vals) (closure_call at ∷ rest))
    call_closure Inside n deep et d e k = r_indirect M cap Q n deep et d e k
    call_closure Final n deep et d e k = tail_indirect n deep et d e k
    call_closure (InTail g depth) n deep et d e k = tail_indirect n deep et d e k

  -- a function of these words
  tail_words : {f : Around} {m : Mem} {p h : ℕ} {ls : List ConstValue} {rest : List Instr} {l u : ℕ} (k : ℕ) {x n : ℕ} {is : List Instr} (xs vals : List ConstValue) → length f.callers ≤ cap.frames → func_of M x ≡ Some (func (words_type n) k is) → length xs ≡ suc n →
      Within M cap Q l u (here cap (entering f.callers) m p h (reverse xs ++ zeros k) [] is) → Within M cap Q (suc l) (suc u) (here cap f m p h ls (xs ++ vals) (ReturnCall x ∷ rest))
  tail_words {f} {m} {p} {h} {l = l} {u = u} k {x} {n} {is} xs vals deep e count w =
      let many : length (replicate (suc n) type.I32) ≡ length xs = length-replicate {A = ValType} (suc n) type.I32 ∙ sym count in
      r_return_call M cap.frames Q (Spent M cap.bytes) {x = x} {h = func (words_type n) k is} deep e (omega (arith, many, length-append xs vals))
      (subst (λ (ys : List ConstValue). Within M cap Q l u (here cap (entering f.callers) m p h (reverse ys ++ zeros k) [] is)) (sym (ap (λ (i : ℕ). take i (xs ++ vals)) many ∙ take_words xs vals)) w)

  pub call_words : {f : Around} {m : Mem} {p h : ℕ} {ls : List ConstValue} {rest : List Instr} {l u : ℕ} (at : Position) (k x : ℕ) {n : ℕ} {is : List Instr} (xs vals : List ConstValue) → length f.callers ≤ cap.frames → func_of M x ≡ Some (func (words_type n) k is) → length xs ≡ suc n →
      Within M cap Q l u (here cap (entering (waiting at f ls vals rest)) m p h (reverse xs ++ zeros k) [] is) → Within M cap Q (suc l) (suc u) (here cap f m p h ls (xs ++ vals) (call_of at x ∷ rest))
  call_words Inside k x xs vals deep e count w = r_call_words M cap Q k xs deep e count w
  call_words Final k x xs vals deep e count w = tail_words k xs vals deep e count w
  call_words (InTail g depth) k x xs vals deep e count w = tail_words k xs vals deep e count w

-- how many wait: one more than before, where the call isn't in the tail
pub one_waits : (at : Position) (f : Around) (ls vals : List ConstValue) (rest : List Instr) → length (waiting at f ls vals rest) ≤ suc (length f.callers)
one_waits Inside f ls vals rest = omega arith
one_waits Final f ls vals rest = omega arith
one_waits (InTail g depth) f ls vals rest = omega arith

-- so the callee has room for the calls in it
pub has_room : {P : Program} {at : Position} {tail keeps : Bool} {d n frames : ℕ} {labels : List BlockLabel} (D : ℕ) (f : Around) (ls vals : List ConstValue) (rest : List Instr) → Stood P at tail d n keeps labels →
    length f.callers + with_call tail D + 1 ≤ frames → length (waiting at f ls vals rest) + D + 1 ≤ frames
has_room D f ls vals rest stood_inside h = omega (arith, h)
has_room D f ls vals rest stood_final h = h
has_room D f ls vals rest (stood_in_tail inner count at few enough) h = h

-- where the caller goes on well from a word of the result, those that wait for the callee do
pub goes_back : (P : Program) (M : Parts) (bounds : Limits) (Q : State → Type 0) {at : Position} {tail keeps : Bool} {d n : ℕ} {labels : List BlockLabel} {h : ℕ} {ls : List ConstValue} {v : Val} (m : Mem) (s : ℕ) (f : Around) {vals : List ConstValue} {rest : List Instr} {l u : ℕ} →
    Stood P at tail d n keeps labels → Go P M bounds Q m h ls d v s f vals rest l u → (tail ≡ true → Out P M bounds Q m h v s f l u) → Out P M bounds Q m h v s (entering (waiting at f ls vals rest)) l u
goes_back P M bounds Q {d = d} {ls = ls} m s f stood_inside go out = λ m' p' h' w x y room same st. go m' p' h' ls w x y room same (keeps_same d ls) st
goes_back P M bounds Q m s f stood_final go out = out refl
goes_back P M bounds Q m s f (stood_in_tail inner count at few enough) go out = out refl
