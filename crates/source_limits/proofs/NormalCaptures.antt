-- Of a program in A-normal form: no lambda and no fixpoint has more captured words than a lambda has binders outside it.
use Rattle.std.proofs.Common.{◌≡◌, ◌⊎◌, ℕ, suc, ◌+◌, ◌≤◌, List, [], ◌∷◌, length, refl, ap, sym, subst, inl, inr, arith}
use Rattle.anf_convert.specs.Anf.{AnfOp, ConstOp, AppOp, ConOp, LamOp, FixOp, CaseOp, AnfBlock, TailAtom, Tail, BindAtom, Bind, AnfBranches, NoBranch, Branch, AnfDefs, NoDef, LamDef, BoxDef, def_count}
use Rattle.anf_convert.specs.Captured.{Scope, Outside, Plain, Shared, depth, plains, shares, block_words, defs_words, captured, fix_captured}
use Rattle.closure_lift.specs.CapturedLimit.{OpCaptures, BlockCaptures, BranchesCapture, DefsCapture, BlocksCapture}
use Rattle.closure_lift.specs.FreeVariables.{size}
use Rattle.closure_lift.proofs.FreeWords.{size_plains, size_shares}
use Rattle.source_limits.specs.NormalBinders.{op_binders, block_binders, branches_binders, defs_binders, blocks_binders}
use Rattle.source_limits.proofs.DistinctWords.{captured_few}
use Rattle.source_limits.specs.Laws.{NormalCapturesAreFew}

depth_size : (s : Scope) → depth s ≤ size s
depth_size Outside = omega arith
depth_size (Plain s) = omega (arith, depth_size s)
depth_size (Shared ws s) = omega (arith, depth_size s)

-- definitions that aren't all box have a lambda
some_lambda : (s : Scope) (d : ℕ) (ds : AnfDefs) → (defs_words s ds ≡ []) ⊎ (d ≤ defs_binders d ds)
some_lambda s d NoDef = inl refl
some_lambda s d (LamDef b rest) = inr (omega arith)
some_lambda s d (BoxDef rest) = some_lambda s d rest

fix_few : (s : Scope) (ds : AnfDefs) (most : ℕ) → defs_binders (def_count ds + size s) ds ≤ most → length (fix_captured s ds) ≤ most
fix_few s ds most le =
    let d = def_count ds + size s in
    let s' = shares [] (def_count ds) s in
    elim (some_lambda s' d ds) [
      | inl e ↦ (let none = ap (λ xs. length (captured (depth s) xs)) e in omega (arith, none))
      | inr h ↦ omega (arith, captured_few (depth s) (defs_words s' ds), depth_size s, h, le)
    ]

module _ (most : ℕ) where
  mutual
    op_few : (s : Scope) (op : AnfOp) → op_binders (size s) op ≤ most → OpCaptures (suc most) s op
    op_few s (ConstOp x) le = tt
    op_few s (AppOp f a) le = tt
    op_few s (ConOp c as') le = tt
    op_few s (LamOp b) le = (omega (arith, captured_few (depth s) (block_words (Plain s) b), depth_size s, le), block_few (Plain s) b (omega (arith, le)))
    op_few s (FixOp ds i) le =
        let ws = fix_captured s ds in
        (omega (arith, fix_few s ds most le), defs_few (shares ws (def_count ds) s) ds (subst (λ n. defs_binders n ds ≤ most) (sym (size_shares ws (def_count ds) s)) le))
    op_few s (CaseOp a bs) le = branches_few s bs le

    block_few : (s : Scope) (t : AnfBlock) → block_binders (size s) t ≤ most → BlockCaptures (suc most) s t
    block_few s (TailAtom a) le = tt
    block_few s (Tail op) le = op_few s op le
    block_few s (BindAtom a t) le = block_few (Plain s) t le
    block_few s (Bind op t) le = (op_few s op (omega (arith, le)), block_few (Plain s) t (omega (arith, le)))

    branches_few : (s : Scope) (bs : AnfBranches) → branches_binders (size s) bs ≤ most → BranchesCapture (suc most) s bs
    branches_few s NoBranch le = tt
    branches_few s (Branch n t rest) le = (block_few (plains n s) t (subst (λ k. block_binders k t ≤ most) (sym (size_plains n s)) (omega (arith, le))), branches_few s rest (omega (arith, le)))

    defs_few : (s : Scope) (ds : AnfDefs) → defs_binders (size s) ds ≤ most → DefsCapture (suc most) s ds
    defs_few s NoDef le = tt
    defs_few s (LamDef b rest) le = (block_few (Plain s) b (omega (arith, le)), defs_few s rest (omega (arith, le)))
    defs_few s (BoxDef rest) le = defs_few s rest le

  blocks_few : (ts : List AnfBlock) → blocks_binders ts ≤ most → BlocksCapture (suc most) ts
  blocks_few [] le = tt
  blocks_few (t ∷ ts) le = (block_few Outside t (omega (arith, le)), blocks_few ts (omega (arith, le)))

pub normal_captures : NormalCapturesAreFew
normal_captures P most le = record { constants = blocks_few most P.constants (omega (arith, le)); main = block_few most Outside P.main (omega (arith, le)) }
