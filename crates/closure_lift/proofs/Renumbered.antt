-- Lifting looks at no constant: with other numbers for them, the lifted block has the other numbers.
use Rattle.std.proofs.Common.{◌≡◌, ℕ, suc, ◌+◌, List, [], ◌∷◌, ◌++◌, map, get_or, refl, ap, ◌∙◌}
use Rattle.anf_convert.specs.Anf.{AnfOp, ConstOp, AppOp, ConOp, LamOp, FixOp, CaseOp, AnfBlock, TailAtom, Tail, BindAtom, Bind, AnfBranches, NoBranch, Branch, AnfDefs, NoDef, LamDef, BoxDef, def_count}
use Rattle.anf_convert.specs.declared.program.Atom.{Atom}
use Rattle.anf_convert.specs.declared.program.Atom.TheVariants.{Var as AVar, Box as ABox, Empty as AEmpty}
use Rattle.anf_convert.specs.Renumbering as anf
use Rattle.anf_convert.specs.Captured.{Scope, Plain, depth, Entry, Unbound, Word, Words, entry, plains, shares, atom_words, op_words, block_words, branches_words, defs_words, captured, lam_captured, fix_captured}
use Rattle.closure_lift.specs.Lifted.{ClosOp, Block}
use Rattle.closure_lift.specs.Lifted as lifted
use Rattle.closure_lift.specs.Lift.{LiftSlot, Holds, held, atom, closure_for, closure, closures, atoms_of, op_functions, block_functions, branches_functions, defs_functions, unnumbered, holding, lift_op, lift_block, lift_branches}
use Rattle.closure_lift.specs.LiftedProgram.{renumber_op, renumber, renumber_branches}

module _ (f : ℕ → ℕ) where
  pub count_same : (ds : AnfDefs) → def_count (anf.renumber_defs f ds) ≡ def_count ds
  count_same NoDef = refl
  count_same (LamDef b rest) = ap suc (count_same rest)
  count_same (BoxDef rest) = ap suc (count_same rest)

  both : {xs xs' ys ys' : List ℕ} → xs ≡ xs' → ys ≡ ys' → xs ++ ys ≡ xs' ++ ys'
  both e g = cc

  sum : {a a' b b' : ℕ} → a ≡ a' → b ≡ b' → a + b ≡ a' + b'
  sum e g = cc

  mutual
    pub op_words_same : (s : Scope) (op : AnfOp) → op_words s (anf.renumber_op f op) ≡ op_words s op
    op_words_same s (ConstOp x) = refl
    op_words_same s (AppOp g a) = refl
    op_words_same s (ConOp c as') = refl
    op_words_same s (LamOp b) = block_words_same (Plain s) b
    op_words_same s (FixOp ds i) = ap (λ n. defs_words (shares [] n s) (anf.renumber_defs f ds)) (count_same ds) ∙ defs_words_same (shares [] (def_count ds) s) ds
    op_words_same s (CaseOp a bs) = ap (λ xs. atom_words s a ++ xs) (branches_words_same s bs)

    pub block_words_same : (s : Scope) (t : AnfBlock) → block_words s (anf.renumber f t) ≡ block_words s t
    block_words_same s (TailAtom a) = refl
    block_words_same s (Tail op) = op_words_same s op
    block_words_same s (BindAtom a t) = ap (λ xs. atom_words s a ++ xs) (block_words_same (Plain s) t)
    block_words_same s (Bind op t) = both (op_words_same s op) (block_words_same (Plain s) t)

    pub branches_words_same : (s : Scope) (bs : AnfBranches) → branches_words s (anf.renumber_branches f bs) ≡ branches_words s bs
    branches_words_same s NoBranch = refl
    branches_words_same s (Branch n t rest) = both (block_words_same (plains n s) t) (branches_words_same s rest)

    pub defs_words_same : (s : Scope) (ds : AnfDefs) → defs_words s (anf.renumber_defs f ds) ≡ defs_words s ds
    defs_words_same s NoDef = refl
    defs_words_same s (LamDef b rest) = both (block_words_same (Plain s) b) (defs_words_same s rest)
    defs_words_same s (BoxDef rest) = defs_words_same s rest

  mutual
    pub op_functions_same : (op : AnfOp) → op_functions (anf.renumber_op f op) ≡ op_functions op
    op_functions_same (ConstOp x) = refl
    op_functions_same (AppOp g a) = refl
    op_functions_same (ConOp c as') = refl
    op_functions_same (LamOp b) = ap suc (block_functions_same b)
    op_functions_same (FixOp ds i) = sum (count_same ds) (defs_functions_same ds)
    op_functions_same (CaseOp a bs) = branches_functions_same bs

    pub block_functions_same : (t : AnfBlock) → block_functions (anf.renumber f t) ≡ block_functions t
    block_functions_same (TailAtom a) = refl
    block_functions_same (Tail op) = op_functions_same op
    block_functions_same (BindAtom a t) = block_functions_same t
    block_functions_same (Bind op t) = sum (op_functions_same op) (block_functions_same t)

    pub branches_functions_same : (bs : AnfBranches) → branches_functions (anf.renumber_branches f bs) ≡ branches_functions bs
    branches_functions_same NoBranch = refl
    branches_functions_same (Branch n t rest) = sum (block_functions_same t) (branches_functions_same rest)

    pub defs_functions_same : (ds : AnfDefs) → defs_functions (anf.renumber_defs f ds) ≡ defs_functions ds
    defs_functions_same NoDef = refl
    defs_functions_same (LamDef b rest) = sum (block_functions_same b) (defs_functions_same rest)
    defs_functions_same (BoxDef rest) = defs_functions_same rest

  atoms_same : (op : AnfOp) → atoms_of (anf.renumber_op f op) ≡ atoms_of op
  atoms_same (ConstOp x) = refl
  atoms_same (AppOp g a) = refl
  atoms_same (ConOp c as') = refl
  atoms_same (LamOp b) = refl
  atoms_same (FixOp ds i) = refl
  atoms_same (CaseOp a bs) = refl

  pub lam_same : (s : Scope) (b : AnfBlock) → lam_captured s (anf.renumber f b) ≡ lam_captured s b
  lam_same s b = ap (captured (depth s)) (block_words_same (Plain s) b)

  pub fix_same : (s : Scope) (ds : AnfDefs) → fix_captured s (anf.renumber_defs f ds) ≡ fix_captured s ds
  fix_same s ds = ap (captured (depth s)) (op_words_same s (FixOp ds 0))

  entry_goes : (fr : List LiftSlot) (i g : ℕ) (e : Entry) (next next' : List LiftSlot → Block) → ((fr : List LiftSlot) → next' fr ≡ renumber f (next fr)) → closure_for fr i g e next' ≡ renumber f (closure_for fr i g e next)
  entry_goes fr i g Unbound next next' h = h fr
  entry_goes fr i g (Word x) next next' h = h fr
  entry_goes fr i g (Words ws) next next' h = ap (lifted.Bind (ClosOp g (map (held fr) ws))) (h _)

  atom_goes : (s : Scope) (gs : List ℕ) (fr : List LiftSlot) (a : Atom) (next next' : List LiftSlot → Block) → ((fr : List LiftSlot) → next' fr ≡ renumber f (next fr)) → closure s gs fr a next' ≡ renumber f (closure s gs fr a next)
  atom_goes s gs fr (AVar i) next next' h = entry_goes fr i (get_or gs i 0) (entry s i) next next' h
  atom_goes s gs fr ABox next next' h = h fr
  atom_goes s gs fr (AEmpty c) next next' h = h fr

  goes : (s : Scope) (gs : List ℕ) (fr : List LiftSlot) (as' : List Atom) (next next' : List LiftSlot → Block) → ((fr : List LiftSlot) → next' fr ≡ renumber f (next fr)) → closures s gs fr as' next' ≡ renumber f (closures s gs fr as' next)
  goes s gs fr [] next next' h = h fr
  goes s gs fr (a ∷ as') next next' h = atom_goes s gs fr a (λ fr'. closures s gs fr' as' next) (λ fr'. closures s gs fr' as' next') (λ fr'. goes s gs fr' as' next next' h)

  mutual
    pub lift_op_renumbered : (s : Scope) (gs : List ℕ) (fr : List LiftSlot) (g : ℕ) (op : AnfOp) → lift_op s gs fr g (anf.renumber_op f op) ≡ renumber_op f (lift_op s gs fr g op)
    lift_op_renumbered s gs fr g (ConstOp x) = refl
    lift_op_renumbered s gs fr g (AppOp h a) = refl
    lift_op_renumbered s gs fr g (ConOp c as') = refl
    lift_op_renumbered s gs fr g (LamOp b) = ap (λ ws. ClosOp g (map (held fr) ws)) (lam_same s b)
    lift_op_renumbered s gs fr g (FixOp ds i) = ap (λ ws. ClosOp (g + i) (map (held fr) ws)) (fix_same s ds)
    lift_op_renumbered s gs fr g (CaseOp a bs) = ap (lifted.CaseOp (atom s fr a)) (lift_branches_renumbered s gs fr g bs)

    pub lift_block_renumbered : (s : Scope) (gs : List ℕ) (fr : List LiftSlot) (g : ℕ) (t : AnfBlock) → lift_block s gs fr g (anf.renumber f t) ≡ renumber f (lift_block s gs fr g t)
    lift_block_renumbered s gs fr g (TailAtom a) = goes s gs fr (a ∷ []) (λ fr'. lifted.TailAtom (atom s fr' a)) (λ fr'. lifted.TailAtom (atom s fr' a)) (λ fr'. refl)
    lift_block_renumbered s gs fr g (Tail op) =
        ap (λ as'. closures s gs fr as' (λ fr'. lifted.Tail (lift_op s gs fr' g (anf.renumber_op f op)))) (atoms_same op)
        ∙ goes s gs fr (atoms_of op) (λ fr'. lifted.Tail (lift_op s gs fr' g op)) (λ fr'. lifted.Tail (lift_op s gs fr' g (anf.renumber_op f op))) (λ fr'. ap lifted.Tail (lift_op_renumbered s gs fr' g op))
    lift_block_renumbered s gs fr g (BindAtom a t) =
        goes s gs fr (a ∷ []) (λ fr'. lifted.BindAtom (atom s fr' a) (lift_block (Plain s) (0 ∷ gs) (Holds (depth s) ∷ fr') g t)) (λ fr'. lifted.BindAtom (atom s fr' a) (lift_block (Plain s) (0 ∷ gs) (Holds (depth s) ∷ fr') g (anf.renumber f t)))
        (λ fr'. ap (lifted.BindAtom (atom s fr' a)) (lift_block_renumbered (Plain s) (0 ∷ gs) (Holds (depth s) ∷ fr') g t))
    lift_block_renumbered s gs fr g (Bind op t) =
        ap (λ as'. closures s gs fr as' (λ fr'. lifted.Bind (lift_op s gs fr' g (anf.renumber_op f op)) (lift_block (Plain s) (0 ∷ gs) (Holds (depth s) ∷ fr') (g + op_functions (anf.renumber_op f op)) (anf.renumber f t)))) (atoms_same op)
        ∙ goes s gs fr (atoms_of op) (λ fr'. lifted.Bind (lift_op s gs fr' g op) (lift_block (Plain s) (0 ∷ gs) (Holds (depth s) ∷ fr') (g + op_functions op) t))
        (λ fr'. lifted.Bind (lift_op s gs fr' g (anf.renumber_op f op)) (lift_block (Plain s) (0 ∷ gs) (Holds (depth s) ∷ fr') (g + op_functions (anf.renumber_op f op)) (anf.renumber f t)))
        (λ fr'. ap (λ k. lifted.Bind (lift_op s gs fr' g (anf.renumber_op f op)) (lift_block (Plain s) (0 ∷ gs) (Holds (depth s) ∷ fr') (g + k) (anf.renumber f t))) (op_functions_same op)
        ∙ ap (λ o. lifted.Bind o (lift_block (Plain s) (0 ∷ gs) (Holds (depth s) ∷ fr') (g + op_functions op) (anf.renumber f t))) (lift_op_renumbered s gs fr' g op)
        ∙ ap (lifted.Bind (renumber_op f (lift_op s gs fr' g op))) (lift_block_renumbered (Plain s) (0 ∷ gs) (Holds (depth s) ∷ fr') (g + op_functions op) t))

    pub lift_branches_renumbered : (s : Scope) (gs : List ℕ) (fr : List LiftSlot) (g : ℕ) (bs : AnfBranches) → lift_branches s gs fr g (anf.renumber_branches f bs) ≡ renumber_branches f (lift_branches s gs fr g bs)
    lift_branches_renumbered s gs fr g NoBranch = refl
    lift_branches_renumbered s gs fr g (Branch n t rest) =
        ap (λ k. lifted.Branch n (lift_block (plains n s) (unnumbered n gs) (holding n s fr) g (anf.renumber f t)) (lift_branches s gs fr (g + k) (anf.renumber_branches f rest))) (block_functions_same t)
        ∙ ap (λ b. lifted.Branch n b (lift_branches s gs fr (g + block_functions t) (anf.renumber_branches f rest))) (lift_block_renumbered (plains n s) (unnumbered n gs) (holding n s fr) g t)
        ∙ ap (lifted.Branch n (renumber f (lift_block (plains n s) (unnumbered n gs) (holding n s fr) g t))) (lift_branches_renumbered s gs fr (g + block_functions t) rest)
