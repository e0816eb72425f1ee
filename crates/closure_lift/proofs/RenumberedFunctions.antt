-- With other numbers for the constants, the functions of a lifted program have the other numbers, and captured words are as many.
use Rattle.std.proofs.Common.{◌≡◌, ℕ, suc, ◌+◌, ◌<◌, List, [], ◌∷◌, ◌++◌, map, length, refl, sym, ap, ap₂, ◌∙◌}
use Rattle.anf_convert.specs.Anf.{AnfOp, ConstOp, AppOp, ConOp, LamOp, FixOp, CaseOp, AnfBlock, TailAtom, Tail, BindAtom, Bind, AnfBranches, NoBranch, Branch, AnfDefs, NoDef, LamDef, BoxDef, def_count}
use Rattle.anf_convert.specs.Renumbering as anf
use Rattle.anf_convert.specs.Captured.{Scope, Plain, depth, plains, shares, lam_captured, fix_captured}
use Rattle.anf_convert.specs.declared.program.Atom.TheVariants.{Box as ABox}
use Rattle.closure_lift.specs.Lifted.{Block, Fn}
use Rattle.closure_lift.specs.Lifted as lifted
use Rattle.closure_lift.specs.Lift.{Holds, op_functions, block_functions, unnumbered, numbered, lambda_function, def_functions, functions_op, functions_block, functions_branches, functions_defs}
use Rattle.closure_lift.specs.LiftedProgram.{renumber, renumber_functions}
use Rattle.closure_lift.specs.CapturedLimit.{OpCaptures, BlockCaptures, BranchesCapture, DefsCapture}
use Rattle.closure_lift.proofs.Renumbered.{count_same, lam_same, fix_same, block_functions_same, op_functions_same, lift_block_renumbered}

module _ (f : ℕ → ℕ) where
  pub append_renumbered : (xs ys : List Fn) → renumber_functions f (xs ++ ys) ≡ renumber_functions f xs ++ renumber_functions f ys
  append_renumbered [] ys = refl
  append_renumbered (x ∷ xs) ys = ap (λ zs. record { captured = x.captured; body = renumber f x.body } ∷ zs) (append_renumbered xs ys)

  abbrev fn_renumbered : Fn → Fn
  fn_renumbered x = record { captured = x.captured; body = renumber f x.body }

  lambda_renumbered : (s : Scope) (gs ws : List ℕ) (g : ℕ) (b : AnfBlock) → lambda_function s gs ws g (anf.renumber f b) ≡ fn_renumbered (lambda_function s gs ws g b)
  lambda_renumbered s gs ws g b = ap (λ (t : Block). let x : Fn = record { captured = length ws; body = t } in x) (lift_block_renumbered f (Plain s) (0 ∷ gs) (Holds (depth s) ∷ map (λ x. Holds x) ws) g b)

  def_functions_renumbered : (s : Scope) (gs ws : List ℕ) (g : ℕ) (ds : AnfDefs) → def_functions s gs ws g (anf.renumber_defs f ds) ≡ renumber_functions f (def_functions s gs ws g ds)
  def_functions_renumbered s gs ws g NoDef = refl
  def_functions_renumbered s gs ws g (LamDef b rest) =
      ap (λ k. lambda_function s gs ws g (anf.renumber f b) ∷ def_functions s gs ws (g + k) (anf.renumber_defs f rest)) (block_functions_same f b)
      ∙ ap (λ x. x ∷ def_functions s gs ws (g + block_functions b) (anf.renumber_defs f rest)) (lambda_renumbered s gs ws g b)
      ∙ ap (λ xs. fn_renumbered (lambda_function s gs ws g b) ∷ xs) (def_functions_renumbered s gs ws (g + block_functions b) rest)
  def_functions_renumbered s gs ws g (BoxDef rest) = ap (λ (xs : List Fn). let y : Fn = record { captured = length ws; body = lifted.TailAtom ABox } in y ∷ xs) (def_functions_renumbered s gs ws g rest)

  -- the functions of a fixpoint with n definitions and these captured words
  abbrev fix_functions : Scope → List ℕ → ℕ → ℕ → List ℕ → AnfDefs → List Fn
  fix_functions s gs g n ws ds = def_functions (shares ws n s) (numbered g n gs) ws (g + n) ds ++ functions_defs (shares ws n s) (numbered g n gs) (g + n) ds

  mutual
    pub functions_op_renumbered : (s : Scope) (gs : List ℕ) (g : ℕ) (op : AnfOp) → functions_op s gs g (anf.renumber_op f op) ≡ renumber_functions f (functions_op s gs g op)
    functions_op_renumbered s gs g (ConstOp x) = refl
    functions_op_renumbered s gs g (AppOp h a) = refl
    functions_op_renumbered s gs g (ConOp c as') = refl
    functions_op_renumbered s gs g (LamOp b) =
        ap (λ ws. lambda_function s gs ws (suc g) (anf.renumber f b) ∷ functions_block (Plain s) (0 ∷ gs) (suc g) (anf.renumber f b)) (lam_same f s b)
        ∙ ap (λ x. x ∷ functions_block (Plain s) (0 ∷ gs) (suc g) (anf.renumber f b)) (lambda_renumbered s gs (lam_captured s b) (suc g) b)
        ∙ ap (λ xs. fn_renumbered (lambda_function s gs (lam_captured s b) (suc g) b) ∷ xs) (functions_block_renumbered (Plain s) (0 ∷ gs) (suc g) b)
    functions_op_renumbered s gs g (FixOp ds i) =
        ap (λ n. fix_functions s gs g n (fix_captured s (anf.renumber_defs f ds)) (anf.renumber_defs f ds)) (count_same f ds)
        ∙ ap (λ ws. fix_functions s gs g (def_count ds) ws (anf.renumber_defs f ds)) (fix_same f s ds)
        ∙ ap₂ ◌++◌ (def_functions_renumbered (shares (fix_captured s ds) (def_count ds) s) (numbered g (def_count ds) gs) (fix_captured s ds) (g + def_count ds) ds)
        (functions_defs_renumbered (shares (fix_captured s ds) (def_count ds) s) (numbered g (def_count ds) gs) (g + def_count ds) ds)
        ∙ sym (append_renumbered (def_functions (shares (fix_captured s ds) (def_count ds) s) (numbered g (def_count ds) gs) (fix_captured s ds) (g + def_count ds) ds) (functions_defs (shares (fix_captured s ds) (def_count ds) s) (numbered g (def_count ds) gs) (g + def_count ds) ds))
    functions_op_renumbered s gs g (CaseOp a bs) = functions_branches_renumbered s gs g bs

    pub functions_block_renumbered : (s : Scope) (gs : List ℕ) (g : ℕ) (t : AnfBlock) → functions_block s gs g (anf.renumber f t) ≡ renumber_functions f (functions_block s gs g t)
    functions_block_renumbered s gs g (TailAtom a) = refl
    functions_block_renumbered s gs g (Tail op) = functions_op_renumbered s gs g op
    functions_block_renumbered s gs g (BindAtom a t) = functions_block_renumbered (Plain s) (0 ∷ gs) g t
    functions_block_renumbered s gs g (Bind op t) =
        ap (λ k. functions_op s gs g (anf.renumber_op f op) ++ functions_block (Plain s) (0 ∷ gs) (g + k) (anf.renumber f t)) (op_functions_same f op)
        ∙ ap₂ ◌++◌ (functions_op_renumbered s gs g op) (functions_block_renumbered (Plain s) (0 ∷ gs) (g + op_functions op) t)
        ∙ sym (append_renumbered (functions_op s gs g op) (functions_block (Plain s) (0 ∷ gs) (g + op_functions op) t))

    pub functions_branches_renumbered : (s : Scope) (gs : List ℕ) (g : ℕ) (bs : AnfBranches) → functions_branches s gs g (anf.renumber_branches f bs) ≡ renumber_functions f (functions_branches s gs g bs)
    functions_branches_renumbered s gs g NoBranch = refl
    functions_branches_renumbered s gs g (Branch n t rest) =
        ap (λ k. functions_block (plains n s) (unnumbered n gs) g (anf.renumber f t) ++ functions_branches s gs (g + k) (anf.renumber_branches f rest)) (block_functions_same f t)
        ∙ ap₂ ◌++◌ (functions_block_renumbered (plains n s) (unnumbered n gs) g t) (functions_branches_renumbered s gs (g + block_functions t) rest)
        ∙ sym (append_renumbered (functions_block (plains n s) (unnumbered n gs) g t) (functions_branches s gs (g + block_functions t) rest))

    pub functions_defs_renumbered : (s : Scope) (gs : List ℕ) (g : ℕ) (ds : AnfDefs) → functions_defs s gs g (anf.renumber_defs f ds) ≡ renumber_functions f (functions_defs s gs g ds)
    functions_defs_renumbered s gs g NoDef = refl
    functions_defs_renumbered s gs g (LamDef b rest) =
        ap (λ k. functions_block (Plain s) (0 ∷ gs) g (anf.renumber f b) ++ functions_defs s gs (g + k) (anf.renumber_defs f rest)) (block_functions_same f b)
        ∙ ap₂ ◌++◌ (functions_block_renumbered (Plain s) (0 ∷ gs) g b) (functions_defs_renumbered s gs (g + block_functions b) rest)
        ∙ sym (append_renumbered (functions_block (Plain s) (0 ∷ gs) g b) (functions_defs s gs (g + block_functions b) rest))
    functions_defs_renumbered s gs g (BoxDef rest) = functions_defs_renumbered s gs g rest

  -- captured words are as many
  module _ (most : ℕ) where
    mutual
      op_captures_same : (s : Scope) (op : AnfOp) → OpCaptures most s (anf.renumber_op f op) ≡ OpCaptures most s op
      op_captures_same s (ConstOp x) = refl
      op_captures_same s (AppOp h a) = refl
      op_captures_same s (ConOp c as') = refl
      op_captures_same s (LamOp b) = ap (λ ws. (length ws < most) × BlockCaptures most (Plain s) (anf.renumber f b)) (lam_same f s b) ∙ ap (λ Q. (length (lam_captured s b) < most) × Q) (block_captures_same (Plain s) b)
      op_captures_same s (FixOp ds i) =
          ap (λ n. (length (fix_captured s (anf.renumber_defs f ds)) < most) × DefsCapture most (shares (fix_captured s (anf.renumber_defs f ds)) n s) (anf.renumber_defs f ds)) (count_same f ds)
          ∙ ap (λ ws. (length ws < most) × DefsCapture most (shares ws (def_count ds) s) (anf.renumber_defs f ds)) (fix_same f s ds)
          ∙ ap (λ Q. (length (fix_captured s ds) < most) × Q) (defs_capture_same (shares (fix_captured s ds) (def_count ds) s) ds)
      op_captures_same s (CaseOp a bs) = branches_capture_same s bs

      pub block_captures_same : (s : Scope) (t : AnfBlock) → BlockCaptures most s (anf.renumber f t) ≡ BlockCaptures most s t
      block_captures_same s (TailAtom a) = refl
      block_captures_same s (Tail op) = op_captures_same s op
      block_captures_same s (BindAtom a t) = block_captures_same (Plain s) t
      block_captures_same s (Bind op t) = ap (λ Q. Q × BlockCaptures most (Plain s) (anf.renumber f t)) (op_captures_same s op) ∙ ap (λ Q. OpCaptures most s op × Q) (block_captures_same (Plain s) t)

      branches_capture_same : (s : Scope) (bs : AnfBranches) → BranchesCapture most s (anf.renumber_branches f bs) ≡ BranchesCapture most s bs
      branches_capture_same s NoBranch = refl
      branches_capture_same s (Branch n t rest) = ap (λ Q. Q × BranchesCapture most s (anf.renumber_branches f rest)) (block_captures_same (plains n s) t) ∙ ap (λ Q. BlockCaptures most (plains n s) t × Q) (branches_capture_same s rest)

      defs_capture_same : (s : Scope) (ds : AnfDefs) → DefsCapture most s (anf.renumber_defs f ds) ≡ DefsCapture most s ds
      defs_capture_same s NoDef = refl
      defs_capture_same s (LamDef b rest) = ap (λ Q. Q × DefsCapture most s (anf.renumber_defs f rest)) (block_captures_same (Plain s) b) ∙ ap (λ Q. BlockCaptures most (Plain s) b × Q) (defs_capture_same s rest)
      defs_capture_same s (BoxDef rest) = defs_capture_same s rest
