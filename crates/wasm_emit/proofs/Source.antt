-- Lifted programs, and their evaluation with the limits and the call depth that emission asks for.
use Rattle.std.proofs.Common.{◌≡◌, ℕ, suc, ◌+◌, ◌<◌, ◌≤◌, List, [], ◌∷◌, length, Some, Bool, true, false, refl, ap}
use Rattle.std.specs.Prelude.{slice_get}
use Rattle.anf_convert.specs.AnfForm.{fields}
pub use Rattle.anf_convert.specs.declared.program.Atom.{Atom}
pub use Rattle.anf_convert.specs.declared.program.Atom.TheVariants.{Var as AVar, Box as ABox, Empty as AEmpty}
pub use Rattle.closure_lift.specs.Lifted.{Op, ConstOp, AppOp, ConOp, ClosOp, CaseOp, Block, TailAtom, BindAtom, Tail, Bind, BranchBlocks, NoBranch, Branch, Fn, Program, Val, VBox, VCon, VClos, Vals, VNil, VCons, lookup, size, ◌+v◌, branch_count, BranchAt, branch_here, branch_after}
use Rattle.wasm_emit.specs.CallDepth.{with_call}

pub data Is (e : Vals) : Atom → Val → Type 0 where
  is_var : {i : ℕ} {v : Val} → lookup e i ≡ Some v → Is e (AVar i) v
  is_box : Is e ABox VBox
  is_empty : {c : ℕ} → c < 65536 → Is e (AEmpty c) (VCon c VNil)

pub data AllAre (e : Vals) : List Atom → Vals → Type 0 where
  are_none : AllAre e [] VNil
  are_more : {a : Atom} {v : Val} {as' : List Atom} {vs : Vals} → Is e a v → AllAre e as' vs → AllAre e (a ∷ as') (VCons v vs)

pub all_size : {e : Vals} {as' : List Atom} {vs : Vals} → AllAre e as' vs → size vs ≡ length as'
all_size are_none = refl
all_size (are_more h hs) = ap suc (all_size hs)

-- `Does P w m e op v c k b s`: the operation gives the value, with c contractions, of which k are matches, and b blocks
-- of s words in all, where no block has over w words and no match over m branches
-- and, within the depth D, calls that stand in one another

mutual
  pub data Does (P : Program) (w m : ℕ) : Bool → ℕ → Vals → Op → Val → ℕ → ℕ → ℕ → ℕ → Type 0 where
    do_const : {tail : Bool} {D : ℕ} {e : Vals} {x : ℕ} {t : Block} {v : Val} {c k b s : ℕ} → slice_get P.constants x ≡ Some t → Gets P w m true D VNil t v c k b s → Does P w m tail (with_call tail D) e (ConstOp x) v (suc c) k b s
    do_app : {tail : Bool} {D : ℕ} {e e' : Vals} {f a : Atom} {g : ℕ} {fn : Fn} {v r : Val} {c k b s : ℕ} → Is e f (VClos g e') → Is e a v → slice_get P.functions g ≡ Some fn → size e' ≡ fn.captured → Gets P w m true D (VCons v e') fn.body r c k b s →
        Does P w m tail (with_call tail D) e (AppOp f a) r (suc c) k b s
    do_box_app : {tail : Bool} {D : ℕ} {e : Vals} {f a : Atom} {v : Val} → Is e f VBox → Is e a v → Does P w m tail D e (AppOp f a) VBox 1 0 0 0
    do_con : {tail : Bool} {D : ℕ} {e : Vals} {c : ℕ} {as' : List Atom} {vs : Vals} → c < 65536 → 0 < length as' → length as' < fields → length as' < w → AllAre e as' vs → Does P w m tail D e (ConOp c as') (VCon c vs) 0 0 1 (suc (length as'))
    do_clos : {tail : Bool} {D : ℕ} {e : Vals} {g : ℕ} {as' : List Atom} {vs : Vals} → g < 32768 → length as' < fields → length as' < w → AllAre e as' vs → Does P w m tail D e (ClosOp g as') (VClos g vs) 0 0 1 (suc (length as'))
    do_case : {tail : Bool} {D : ℕ} {e : Vals} {a : Atom} {bs : BranchBlocks} {i : ℕ} {vs : Vals} {t : Block} {r : Val} {c k b s : ℕ} → Is e a (VCon i vs) → branch_count bs ≤ m → BranchAt bs i (size vs) t → Gets P w m tail D (vs +v e) t r c k b s → Does P w m tail D e (CaseOp a bs) r (suc c) (suc k) b s

  pub data Gets (P : Program) (w m : ℕ) : Bool → ℕ → Vals → Block → Val → ℕ → ℕ → ℕ → ℕ → Type 0 where
    gets_atom : {tail : Bool} {D : ℕ} {e : Vals} {a : Atom} {v : Val} → Is e a v → Gets P w m tail D e (TailAtom a) v 0 0 0 0
    gets_let_atom : {tail : Bool} {D : ℕ} {e : Vals} {a : Atom} {t : Block} {v r : Val} {c k b s : ℕ} → Is e a v → Gets P w m tail D (VCons v e) t r c k b s → Gets P w m tail D e (BindAtom a t) r (suc c) k b s
    gets_ret : {tail : Bool} {D : ℕ} {e : Vals} {op : Op} {v : Val} {c k b s : ℕ} → Does P w m tail D e op v c k b s → Gets P w m tail D e (Tail op) v c k b s
    gets_let : {tail : Bool} {D : ℕ} {e : Vals} {op : Op} {t : Block} {v r : Val} {c c' k k' b b' s s' : ℕ} → Does P w m false D e op v c k b s → Gets P w m tail D (VCons v e) t r c' k' b' s' → Gets P w m tail D e (Bind op t) r (c + c') (k + k') (b + b') (s + s')

-- main, applied to these values, the last one first
pub data Applies (P : Program) (w m D : ℕ) : Vals → Val → ℕ → ℕ → ℕ → ℕ → Type 0 where
  applies_alone : {v : Val} {c k b s : ℕ} → Gets P w m false D VNil P.main v c k b s → Applies P w m D VNil v c k b s
  applies_more : {args : Vals} {a v r : Val} {c c1 k k1 b b1 s s1 : ℕ} → Applies P w m D args v c1 k1 b1 s1 → Does P w m false D (VCons a (VCons v VNil)) (AppOp (AVar 1) (AVar 0)) r c k b s → Applies P w m D (VCons a args) r (c1 + c) (k1 + k) (b1 + b) (s1 + s)
