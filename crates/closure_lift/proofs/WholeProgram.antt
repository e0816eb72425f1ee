-- The lifted program with constants by their names is that of the program with constants by their places.
use Rattle.std.proofs.Common.{◌≡◌, ℕ, suc, ◌+◌, List, [], ◌∷◌, ◌++◌, map, refl, sym, ap, ap₂, ◌∙◌}
use Rattle.std.specs.Prelude.{nat_eq, if◌then◌else◌}
use Rattle.anf_convert.specs.Anf.{AnfBlock}
use Rattle.anf_convert.specs.Renumbering as anf
use Rattle.anf_convert.specs.Captured.{Outside}
use Rattle.anf_convert.specs.declared.program.AnfConstant.{AnfConstant}
use Rattle.anf_convert.specs.declared.program.AnfProgram.{AnfProgram}
use Rattle.closure_lift.specs.Lifted.{Op, ConstOp, AppOp, ConOp, ClosOp, CaseOp, Block, TailAtom, BindAtom, Tail, Bind, BranchBlocks, NoBranch, Branch, Fn}
use Rattle.closure_lift.specs.Lift.{block_functions, constants_functions, lift_block, lift_constants, functions_block, functions_constants, lift}
use Rattle.closure_lift.specs.LiftedProgram.{renumber_op, renumber, renumber_branches, renumber_functions, place_in, lifted_of}
use Rattle.closure_lift.specs.NamedLift.{bodies, named_constants, named_lift}
use Rattle.closure_lift.specs.declared.program.LiftedConstant.{LiftedConstant}
use Rattle.closure_lift.proofs.Renumbered.{block_functions_same, lift_block_renumbered}
use Rattle.closure_lift.proofs.RenumberedFunctions.{append_renumbered, functions_block_renumbered}

-- the numbers are the same
module _ (f h : ℕ → ℕ) (e : (x : ℕ) → f x ≡ h x) where
  mutual
    same_op : (o : Op) → renumber_op f o ≡ renumber_op h o
    same_op (ConstOp x) = ap ConstOp (e x)
    same_op (AppOp g a) = refl
    same_op (ConOp c as') = refl
    same_op (ClosOp g as') = refl
    same_op (CaseOp a bs) = ap (CaseOp a) (same_branches bs)

    same_block : (t : Block) → renumber f t ≡ renumber h t
    same_block (TailAtom a) = refl
    same_block (BindAtom a t) = ap (BindAtom a) (same_block t)
    same_block (Tail o) = ap Tail (same_op o)
    same_block (Bind o t) = ap (λ o. Bind o (renumber f t)) (same_op o) ∙ ap (Bind (renumber_op h o)) (same_block t)

    same_branches : (bs : BranchBlocks) → renumber_branches f bs ≡ renumber_branches h bs
    same_branches NoBranch = refl
    same_branches (Branch n t rest) = ap (λ t. Branch n t (renumber_branches f rest)) (same_block t) ∙ ap (Branch n (renumber h t)) (same_branches rest)

  same_functions : (fs : List Fn) → renumber_functions f fs ≡ renumber_functions h fs
  same_functions [] = refl
  same_functions (x ∷ fs) =
      ap (λ (t : Block). let y : Fn = record { captured = x.captured; body = t } in y ∷ renumber_functions f fs) (same_block x.body)
      ∙ ap (λ ys. let y : Fn = record { captured = x.captured; body = renumber h x.body } in y ∷ ys) (same_functions fs)

-- places are those of the program
places_same : (g : ℕ) (cs : List AnfConstant) (x : ℕ) → place_in (named_constants g cs) x ≡ anf.place_in cs x
places_same g [] x = refl
places_same g (c ∷ cs) x = ap (λ k. if nat_eq x c.name.0 then 0 else suc k) (places_same (g + block_functions c.body) cs x)

module _ (h : ℕ → ℕ) where
  abbrev renamed : List AnfConstant → List AnfBlock
  renamed cs = map (λ (c : AnfConstant). anf.renumber h c.body) cs

  count_same : (cs : List AnfConstant) → constants_functions (renamed cs) ≡ constants_functions (bodies cs)
  count_same [] = refl
  count_same (c ∷ cs) = ap (λ k. k + constants_functions (renamed cs)) (block_functions_same h c.body) ∙ ap (λ k. block_functions c.body + k) (count_same cs)

  functions_same : (g : ℕ) (cs : List AnfConstant) → functions_constants g (renamed cs) ≡ renumber_functions h (functions_constants g (bodies cs))
  functions_same g [] = refl
  functions_same g (c ∷ cs) =
      ap (λ k. functions_block Outside [] g (anf.renumber h c.body) ++ functions_constants (g + k) (renamed cs)) (block_functions_same h c.body)
      ∙ ap₂ ◌++◌ (functions_block_renumbered h Outside [] g c.body) (functions_same (g + block_functions c.body) cs)
      ∙ sym (append_renumbered h (functions_block Outside [] g c.body) (functions_constants (g + block_functions c.body) (bodies cs)))

  constants_same : (f : ℕ → ℕ) → ((x : ℕ) → f x ≡ h x) → (g : ℕ) (cs : List AnfConstant) → map (λ (c : LiftedConstant). renumber f c.body) (named_constants g cs) ≡ lift_constants g (renamed cs)
  constants_same f e g [] = refl
  constants_same f e g (c ∷ cs) =
      ap (λ ts. renumber f (lift_block Outside [] [] g c.body) ∷ ts) (constants_same f e (g + block_functions c.body) cs)
      ∙ ap (λ t. t ∷ lift_constants (g + block_functions c.body) (renamed cs)) (same_block f h e (lift_block Outside [] [] g c.body) ∙ sym (lift_block_renumbered h Outside [] [] g c.body))
      ∙ ap (λ k. lift_block Outside [] [] g (anf.renumber h c.body) ∷ lift_constants (g + k) (renamed cs)) (sym (block_functions_same h c.body))

pub lifted_is : (P : AnfProgram) → lifted_of (named_lift P) ≡ lift (anf.anf_of P)
lifted_is P =
    let cs = P.constants in
    let f = place_in (named_constants 0 cs) in
    let h = anf.place_in cs in
    let e : (x : ℕ) → f x ≡ h x = places_same 0 cs in
    let n = constants_functions (bodies cs) in
    let k = count_same h cs in
    let ef : renumber_functions f (functions_constants 0 (bodies cs) ++ functions_block Outside [] n P.main) ≡ functions_constants 0 (renamed h cs) ++ functions_block Outside [] (constants_functions (renamed h cs)) (anf.renumber h P.main) =
    same_functions f h e (functions_constants 0 (bodies cs) ++ functions_block Outside [] n P.main)
    ∙ append_renumbered h (functions_constants 0 (bodies cs)) (functions_block Outside [] n P.main)
    ∙ ap₂ ◌++◌ (sym (functions_same h 0 cs)) (sym (functions_block_renumbered h Outside [] n P.main))
    ∙ ap (λ k. functions_constants 0 (renamed h cs) ++ functions_block Outside [] k (anf.renumber h P.main)) (sym k) in
    let et : renumber f (lift_block Outside [] [] n P.main) ≡ lift_block Outside [] [] (constants_functions (renamed h cs)) (anf.renumber h P.main) =
    same_block f h e (lift_block Outside [] [] n P.main) ∙ sym (lift_block_renumbered h Outside [] [] n P.main) ∙ ap (λ k. lift_block Outside [] [] k (anf.renumber h P.main)) (sym k) in
    let ec : map (λ (c : LiftedConstant). renumber f c.body) (named_constants 0 cs) ≡ lift_constants 0 (renamed h cs) = constants_same h f e 0 cs in
    cc
