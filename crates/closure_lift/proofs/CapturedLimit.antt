-- The functions of a lifted program take the captured words.
use Rattle.std.proofs.Common.{◌≡◌, ℕ, zero, suc, ◌+◌, ◌<◌, List, [], ◌∷◌, ◌++◌, length, Some, refl, subst as transport, arith}
use Rattle.std.proofs.lemmas.Option.{none-some, same_Some}
use Rattle.std.specs.Prelude.{slice_get}
use Rattle.anf_convert.specs.Anf.{AnfOp, ConstOp, AppOp, ConOp, LamOp, FixOp, CaseOp, AnfBlock, TailAtom, Tail, BindAtom, Bind, AnfBranches, NoBranch, Branch, AnfDefs, NoDef, LamDef, BoxDef, AnfProgram, def_count}
use Rattle.anf_convert.specs.Captured.{Scope, Outside, Plain, plains, shares, fix_captured}
use Rattle.closure_lift.specs.Lifted.{Fn}
use Rattle.closure_lift.specs.Lift.{op_functions, block_functions, unnumbered, numbered, def_functions, functions_op, functions_block, functions_branches, functions_defs, constants_functions, functions_constants, lift}
use Rattle.anf_convert.specs.AnfForm.{AnfOpFits, AnfFits, AnfBranchesFit, DefsFit}
use Rattle.closure_lift.specs.CapturedLimit.{OpCaptures, BlockCaptures, BranchesCapture, DefsCapture, BlocksCapture, ProgramCaptures, CapturedExactly}

module _ (most : ℕ) where
  abbrev Few : List Fn → Type 0
  Few [] = Unit {0}
  Few (f ∷ fs) = (f.captured < most) × Few fs

  few_join : (xs ys : List Fn) → Few xs → Few ys → Few (xs ++ ys)
  few_join [] ys h g = g
  few_join (x ∷ xs) ys h g = (h.0, few_join xs ys h.1 g)

  few_split : (xs ys : List Fn) → Few (xs ++ ys) → Few xs × Few ys
  few_split [] ys h = (tt, h)
  few_split (x ∷ xs) ys h = let r = few_split xs ys h.1 in ((h.0, r.0), r.1)

  few_at : (fs : List Fn) (g : ℕ) (fn : Fn) → Few fs → slice_get fs g ≡ Some fn → fn.captured < most
  few_at [] g fn h e = absurd (none-some fn e)
  few_at (f ∷ fs) zero fn h e = transport (λ (z : Fn). z.captured < most) (same_Some _ _ e) h.0
  few_at (f ∷ fs) (suc g) fn h e = few_at fs g fn h.1 e

  few_all : (fs : List Fn) → ((g : ℕ) (fn : Fn) → slice_get fs g ≡ Some fn → fn.captured < most) → Few fs
  few_all [] h = tt
  few_all (f ∷ fs) h = (h 0 f refl, few_all fs (λ g fn e. h (suc g) fn e))

  defs_few : (s : Scope) (gs ws : List ℕ) (g : ℕ) (ds : AnfDefs) → length ws < most → Few (def_functions s gs ws g ds)
  defs_few s gs ws g NoDef lt = tt
  defs_few s gs ws g (LamDef b rest) lt = (lt, defs_few s gs ws (g + block_functions b) rest lt)
  defs_few s gs ws g (BoxDef rest) lt = (lt, defs_few s gs ws g rest lt)

  -- a fixpoint has a definition
  some_def : (s : Scope) (gs ws : List ℕ) (g : ℕ) (ds : AnfDefs) → 0 < def_count ds → Few (def_functions s gs ws g ds) → length ws < most
  some_def s gs ws g NoDef pos h = absurd (omega arith)
  some_def s gs ws g (LamDef b rest) pos h = h.0
  some_def s gs ws g (BoxDef rest) pos h = h.0

  mutual
    op_few : (s : Scope) (gs : List ℕ) (g : ℕ) (op : AnfOp) → OpCaptures most s op → Few (functions_op s gs g op)
    op_few s gs g (ConstOp x) h = tt
    op_few s gs g (AppOp f a) h = tt
    op_few s gs g (ConOp c as') h = tt
    op_few s gs g (LamOp b) h = (h.0, block_few (Plain s) (0 ∷ gs) (suc g) b h.1)
    op_few s gs g (FixOp ds i) h = few_join (def_functions _ _ (fix_captured s ds) _ ds) _ (defs_few _ _ (fix_captured s ds) _ ds h.0) (inner_few _ _ _ ds h.1)
    op_few s gs g (CaseOp a bs) h = branches_few s gs g bs h

    block_few : (s : Scope) (gs : List ℕ) (g : ℕ) (t : AnfBlock) → BlockCaptures most s t → Few (functions_block s gs g t)
    block_few s gs g (TailAtom a) h = tt
    block_few s gs g (Tail op) h = op_few s gs g op h
    block_few s gs g (BindAtom a t) h = block_few (Plain s) (0 ∷ gs) g t h
    block_few s gs g (Bind op t) h = few_join (functions_op s gs g op) _ (op_few s gs g op h.0) (block_few (Plain s) (0 ∷ gs) (g + op_functions op) t h.1)

    branches_few : (s : Scope) (gs : List ℕ) (g : ℕ) (bs : AnfBranches) → BranchesCapture most s bs → Few (functions_branches s gs g bs)
    branches_few s gs g NoBranch h = tt
    branches_few s gs g (Branch n t rest) h = few_join (functions_block (plains n s) (unnumbered n gs) g t) _ (block_few (plains n s) (unnumbered n gs) g t h.0) (branches_few s gs (g + block_functions t) rest h.1)

    inner_few : (s : Scope) (gs : List ℕ) (g : ℕ) (ds : AnfDefs) → DefsCapture most s ds → Few (functions_defs s gs g ds)
    inner_few s gs g NoDef h = tt
    inner_few s gs g (LamDef b rest) h = few_join (functions_block (Plain s) (0 ∷ gs) g b) _ (block_few (Plain s) (0 ∷ gs) g b h.0) (inner_few s gs (g + block_functions b) rest h.1)
    inner_few s gs g (BoxDef rest) h = inner_few s gs g rest h

  module _ (k m : ℕ) where
    mutual
      op_back : (n : ℕ) (s : Scope) (gs : List ℕ) (g : ℕ) (op : AnfOp) → AnfOpFits k m n op → Few (functions_op s gs g op) → OpCaptures most s op
      op_back n s gs g (ConstOp x) fit h = tt
      op_back n s gs g (AppOp f a) fit h = tt
      op_back n s gs g (ConOp c as') fit h = tt
      op_back n s gs g (LamOp b) fit h = (h.0, block_back (suc n) (Plain s) (0 ∷ gs) (suc g) b fit h.1)
      op_back n s gs g (FixOp ds i) fit h =
          let d = def_count ds in
          let ws = fix_captured s ds in
          let s2 = shares ws d s in
          let gs2 = numbered g d gs in
          let r = few_split (def_functions s2 gs2 ws (g + d) ds) (functions_defs s2 gs2 (g + d) ds) h in
          let first = fit.0 in
          (some_def s2 gs2 ws (g + d) ds (omega arith) r.0, inner_back (n + d) s2 gs2 (g + d) ds fit.1 r.1)
      op_back n s gs g (CaseOp a bs) fit h = branches_back n s gs g bs fit.2 h

      block_back : (n : ℕ) (s : Scope) (gs : List ℕ) (g : ℕ) (t : AnfBlock) → AnfFits k m n t → Few (functions_block s gs g t) → BlockCaptures most s t
      block_back n s gs g (TailAtom a) fit h = tt
      block_back n s gs g (Tail op) fit h = op_back n s gs g op fit h
      block_back n s gs g (BindAtom a t) fit h = block_back (suc n) (Plain s) (0 ∷ gs) g t fit.1 h
      block_back n s gs g (Bind op t) fit h = let r = few_split (functions_op s gs g op) _ h in (op_back n s gs g op fit.0 r.0, block_back (suc n) (Plain s) (0 ∷ gs) (g + op_functions op) t fit.1 r.1)

      branches_back : (n : ℕ) (s : Scope) (gs : List ℕ) (g : ℕ) (bs : AnfBranches) → AnfBranchesFit k m n bs → Few (functions_branches s gs g bs) → BranchesCapture most s bs
      branches_back n s gs g NoBranch fit h = tt
      branches_back n s gs g (Branch j t rest) fit h = let r = few_split (functions_block (plains j s) (unnumbered j gs) g t) _ h in (block_back (n + j) (plains j s) (unnumbered j gs) g t fit.1 r.0, branches_back n s gs (g + block_functions t) rest fit.2 r.1)

      inner_back : (n : ℕ) (s : Scope) (gs : List ℕ) (g : ℕ) (ds : AnfDefs) → DefsFit k m n ds → Few (functions_defs s gs g ds) → DefsCapture most s ds
      inner_back n s gs g NoDef fit h = tt
      inner_back n s gs g (LamDef b rest) fit h = let r = few_split (functions_block (Plain s) (0 ∷ gs) g b) _ h in (block_back (suc n) (Plain s) (0 ∷ gs) g b fit.0 r.0, inner_back n s gs (g + block_functions b) rest fit.1 r.1)
      inner_back n s gs g (BoxDef rest) fit h = inner_back n s gs g rest fit h

  constants_few : (g : ℕ) (ts : List AnfBlock) → BlocksCapture most ts → Few (functions_constants g ts)
  constants_few g [] h = tt
  constants_few g (t ∷ ts) h = few_join (functions_block Outside [] g t) _ (block_few Outside [] g t h.0) (constants_few (g + block_functions t) ts h.1)

  constants_back : (k m g : ℕ) (ts : List AnfBlock) → ((x : ℕ) (t : AnfBlock) → slice_get ts x ≡ Some t → AnfFits k m 0 t) → Few (functions_constants g ts) → BlocksCapture most ts
  constants_back k m g [] fit h = tt
  constants_back k m g (t ∷ ts) fit h =
      let r = few_split (functions_block Outside [] g t) _ h in
      (block_back k m 0 Outside [] g t (fit 0 t refl) r.0, constants_back k m (g + block_functions t) ts (λ x u e. fit (suc x) u e) r.1)

-- where lambdas and fixpoints have few captured words, functions take few
pub functions_few : (P : AnfProgram) (most : ℕ) → ProgramCaptures most P → (g : ℕ) (fn : Fn) → slice_get (lift P).functions g ≡ Some fn → fn.captured < most
functions_few P most h g fn e =
    let from = constants_functions P.constants in
    few_at most (lift P).functions g fn (few_join most (functions_constants 0 P.constants) (functions_block Outside [] from P.main) (constants_few most 0 P.constants h.constants) (block_few most Outside [] from P.main h.main)) e

pub captured_exactly : CapturedExactly
captured_exactly P most m ok =
    let from = constants_functions P.constants in
    let k = length P.constants in (
      functions_few P most,
      λ h. let r = few_split most (functions_constants 0 P.constants) (functions_block Outside [] from P.main) (few_all most (lift P).functions h) in
          record { constants = constants_back most k m 0 P.constants ok.constants r.0; main = block_back most k m 0 Outside [] from P.main ok.main r.1 },
    )
