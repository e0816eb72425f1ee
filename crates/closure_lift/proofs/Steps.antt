-- Blocks, branches and definitions are lifted one after another.
use Rattle.std.proofs.Common.{◌≡◌, ℕ, zero, suc, ◌+◌, List, [], ◌∷◌, ◌++◌, length, drop, get_or, refl, sym, ap, ◌∙◌, arith, append_assoc, length-append}
use Rattle.anf_convert.specs.Anf.{AnfOp, ConstOp, AppOp, ConOp, LamOp, FixOp, CaseOp, AnfBlock, TailAtom, Tail, BindAtom, Bind, AnfBranches, NoBranch, Branch, AnfDefs, NoDef, LamDef, BoxDef, AnfBinding, AtomIs, OpIs, tail_of, block_of, def_count}
use Rattle.anf_convert.specs.declared.program.Atom.{Atom}
use Rattle.anf_convert.specs.declared.program.Atom.TheVariants.{Var as AVar, Box as ABox, Empty as AEmpty}
use Rattle.anf_convert.specs.Captured.{Scope, Plain, depth, Entry, Unbound, Word, Words, entry, plains, shares}
use Rattle.closure_lift.specs.Lifted.{Block, Bound}
use Rattle.closure_lift.specs.Lifted as lifted
use Rattle.closure_lift.specs.Lift.{LiftSlot, Holds, atom, closure_for, closure, closures, atoms_of, op_functions, block_functions, branches_functions, defs_functions, unnumbered, numbered, lift_op, lift_block, functions_block}
use Rattle.closure_lift.specs.Lifting.{frame_for, code_for, closure_frame, closure_code, closures_frame, closures_code, atoms_in, lifted_bound, bound_functions, functions_bound, BoundCaptures, Stand, most_words}
use Rattle.closure_lift.specs.FreeVariables.{free_op, notes_op, notes_block, notes_branches, notes_defs, at_first}
use Rattle.closure_lift.specs.Noting.{notes_bound}
use Rattle.closure_lift.specs.Variables.{outer}
use Rattle.closure_lift.specs.CapturedLimit.{BlockCaptures}
use Rattle.closure_lift.proofs.Noting.{nothing_length}
use Rattle.closure_lift.proofs.Placed.{op_length}
use Rattle.closure_lift.proofs.Placing.{drop_twice}

pub lets_join : (xs ys : List Bound) (t : Block) → lifted.block_of (xs ++ ys) t ≡ lifted.block_of xs (lifted.block_of ys t)
lets_join [] ys t = refl
lets_join (lifted.AtomIs a ∷ xs) ys t = ap (lifted.BindAtom a) (lets_join xs ys t)
lets_join (lifted.OpIs op ∷ xs) ys t = ap (lifted.Bind op) (lets_join xs ys t)

entry_closes : (fr : List LiftSlot) (i g : ℕ) (e : Entry) (next : List LiftSlot → Block) → closure_for fr i g e next ≡ lifted.block_of (code_for fr g e) (next (frame_for fr i e))
entry_closes fr i g Unbound next = refl
entry_closes fr i g (Word x) next = refl
entry_closes fr i g (Words ws) next = refl

atom_closes : (s : Scope) (gs : List ℕ) (fr : List LiftSlot) (a : Atom) (next : List LiftSlot → Block) → closure s gs fr a next ≡ lifted.block_of (closure_code s gs fr a) (next (closure_frame s fr a))
atom_closes s gs fr (AVar i) next = entry_closes fr i (get_or gs i 0) (entry s i) next
atom_closes s gs fr ABox next = refl
atom_closes s gs fr (AEmpty c) next = refl

pub closes : (s : Scope) (gs : List ℕ) (fr : List LiftSlot) (as' : List Atom) (next : List LiftSlot → Block) → closures s gs fr as' next ≡ lifted.block_of (closures_code s gs fr as') (next (closures_frame s fr as'))
closes s gs fr [] next = refl
closes s gs fr (a ∷ as') next =
    atom_closes s gs fr a (λ fr'. closures s gs fr' as' next) ∙ ap (lifted.block_of (closure_code s gs fr a)) (closes s gs (closure_frame s fr a) as' next)
    ∙ sym (lets_join (closure_code s gs fr a) (closures_code s gs (closure_frame s fr a) as') (next (closures_frame s (closure_frame s fr a) as')))

-- one more binding of a block
pub block_step : (s : Scope) (gs : List ℕ) (fr : List LiftSlot) (g : ℕ) (p : AnfBinding) (ps : List AnfBinding) (t : AnfBlock) →
    lift_block s gs fr g (block_of (p ∷ ps) t) ≡
    lifted.block_of (closures_code s gs fr (atoms_in p) ++ lifted_bound s gs (closures_frame s fr (atoms_in p)) g p ∷ []) (lift_block (Plain s) (0 ∷ gs) (Holds (depth s) ∷ closures_frame s fr (atoms_in p)) (g + bound_functions p) (block_of ps t))
block_step s gs fr g (AtomIs a) ps t =
    closes s gs fr (a ∷ []) (λ fr'. lifted.BindAtom (atom s fr' a) (lift_block (Plain s) (0 ∷ gs) (Holds (depth s) ∷ fr') g (block_of ps t)))
    ∙ ap (λ n. lifted.block_of (closures_code s gs fr (a ∷ [])) (lifted.BindAtom (atom s (closures_frame s fr (a ∷ [])) a) (lift_block (Plain s) (0 ∷ gs) (Holds (depth s) ∷ closures_frame s fr (a ∷ [])) n (block_of ps t)))) (let e : g ≡ g + 0 = omega arith in e)
    ∙ sym (lets_join (closures_code s gs fr (a ∷ [])) (lifted.AtomIs (atom s (closures_frame s fr (a ∷ [])) a) ∷ []) (lift_block (Plain s) (0 ∷ gs) (Holds (depth s) ∷ closures_frame s fr (a ∷ [])) (g + 0) (block_of ps t)))
block_step s gs fr g (OpIs op) ps t =
    closes s gs fr (atoms_of op) (λ fr'. lifted.Bind (lift_op s gs fr' g op) (lift_block (Plain s) (0 ∷ gs) (Holds (depth s) ∷ fr') (g + op_functions op) (block_of ps t)))
    ∙ sym (lets_join (closures_code s gs fr (atoms_of op)) (lifted.OpIs (lift_op s gs (closures_frame s fr (atoms_of op)) g op) ∷ []) (lift_block (Plain s) (0 ∷ gs) (Holds (depth s) ∷ closures_frame s fr (atoms_of op)) (g + op_functions op) (block_of ps t)))

-- the end of a block
pub block_end : (s : Scope) (gs : List ℕ) (fr : List LiftSlot) (g : ℕ) (p : AnfBinding) → lift_block s gs fr g (tail_of p) ≡ lifted.block_of (closures_code s gs fr (atoms_in p)) (lifted.tail_of (lifted_bound s gs (closures_frame s fr (atoms_in p)) g p))
block_end s gs fr g (AtomIs a) = closes s gs fr (a ∷ []) (λ fr'. lifted.TailAtom (atom s fr' a))
block_end s gs fr g (OpIs op) = closes s gs fr (atoms_of op) (λ fr'. lifted.Tail (lift_op s gs fr' g op))

pub functions_step : (s : Scope) (gs : List ℕ) (g : ℕ) (p : AnfBinding) (ps : List AnfBinding) (t : AnfBlock) → functions_block s gs g (block_of (p ∷ ps) t) ≡ functions_bound s gs g p ++ functions_block (Plain s) (0 ∷ gs) (g + bound_functions p) (block_of ps t)
functions_step s gs g (AtomIs a) ps t = ap (λ n. functions_block (Plain s) (0 ∷ gs) n (block_of ps t)) (let e : g ≡ g + 0 = omega arith in e)
functions_step s gs g (OpIs op) ps t = refl

pub functions_end : (s : Scope) (gs : List ℕ) (g : ℕ) (p : AnfBinding) → functions_block s gs g (tail_of p) ≡ functions_bound s gs g p
functions_end s gs g (AtomIs a) = refl
functions_end s gs g (OpIs op) = refl

pub bound_length : (s : Scope) (gs : List ℕ) (g : ℕ) (p : AnfBinding) → length (functions_bound s gs g p) ≡ bound_functions p
bound_length s gs g (AtomIs a) = refl
bound_length s gs g (OpIs op) = op_length s gs g op

-- captured words of a block, binding after binding
pub captures_step : (s : Scope) (p : AnfBinding) (ps : List AnfBinding) (t : AnfBlock) → BoundCaptures s p → BlockCaptures most_words (Plain s) (block_of ps t) → BlockCaptures most_words s (block_of (p ∷ ps) t)
captures_step s (AtomIs a) ps t h r = r
captures_step s (OpIs op) ps t h r = (h, r)

pub captures_first : (s : Scope) (p : AnfBinding) (ps : List AnfBinding) (t : AnfBlock) → BlockCaptures most_words s (block_of (p ∷ ps) t) → BoundCaptures s p
captures_first s (AtomIs a) ps t h = tt
captures_first s (OpIs op) ps t h = h.0

pub captures_rest : (s : Scope) (p : AnfBinding) (ps : List AnfBinding) (t : AnfBlock) → BlockCaptures most_words s (block_of (p ∷ ps) t) → BlockCaptures most_words (Plain s) (block_of ps t)
captures_rest s (AtomIs a) ps t h = h
captures_rest s (OpIs op) ps t h = h.1

pub captures_end : (s : Scope) (p : AnfBinding) → BoundCaptures s p → BlockCaptures most_words s (tail_of p)
captures_end s (AtomIs a) h = tt
captures_end s (OpIs op) h = h

pub captures_back : (s : Scope) (p : AnfBinding) → BlockCaptures most_words s (tail_of p) → BoundCaptures s p
captures_back s (AtomIs a) h = tt
captures_back s (OpIs op) h = h

-- ---- where notes stand
pub stand_first : (notes : List (List ℕ)) (g : ℕ) (xs ys : List (List ℕ)) → Stand notes g (xs ++ ys) → Stand notes g xs
stand_first notes g xs ys h = record { rest = ys ++ h.rest; is = h.is ∙ append_assoc xs ys h.rest }

drop_over : {A : Type 0} (xs ys : List A) (n : ℕ) → n ≡ length xs → drop n (xs ++ ys) ≡ ys
drop_over {A} xs ys n e = ap (λ k. drop k (xs ++ ys)) e ∙ seam xs
  where
    seam : (xs : List A) → drop (length xs) (xs ++ ys) ≡ ys
    seam [] = refl
    seam (x ∷ xs) = seam xs

pub stand_after : (notes : List (List ℕ)) (g h : ℕ) (xs ys : List (List ℕ)) → h ≡ g + length xs → Stand notes g (xs ++ ys) → Stand notes h ys
stand_after notes g h xs ys e st = record {
  rest = st.rest;
  is = ap (λ k. drop k notes) e ∙ drop_twice notes g (length xs) ∙ ap (drop (length xs)) (st.is ∙ append_assoc xs ys st.rest) ∙ drop_over xs (ys ++ st.rest) (length xs) refl;
}

pub first_length : (n : ℕ) (xs : List ℕ) → length (at_first n xs) ≡ n
first_length zero xs = refl
first_length (suc n) xs = ap suc (nothing_length n)

-- there is a note for each function
mutual
  pub op_noted : (n : ℕ) (op : AnfOp) → length (notes_op n op) ≡ op_functions op
  op_noted n (ConstOp x) = refl
  op_noted n (AppOp f a) = refl
  op_noted n (ConOp c as') = refl
  op_noted n (LamOp b) = ap suc (block_noted (suc n) b)
  op_noted n (FixOp ds i) = length-append (at_first (def_count ds) (free_op n (FixOp ds i))) (notes_defs (def_count ds + n) ds) ∙ omega (arith, first_length (def_count ds) (free_op n (FixOp ds i)), defs_noted (def_count ds + n) ds)
  op_noted n (CaseOp a bs) = branches_noted n bs

  pub block_noted : (n : ℕ) (t : AnfBlock) → length (notes_block n t) ≡ block_functions t
  block_noted n (TailAtom a) = refl
  block_noted n (Tail op) = op_noted n op
  block_noted n (BindAtom a t) = block_noted (suc n) t
  block_noted n (Bind op t) = length-append (notes_op n op) (notes_block (suc n) t) ∙ omega (arith, op_noted n op, block_noted (suc n) t)

  pub branches_noted : (n : ℕ) (bs : AnfBranches) → length (notes_branches n bs) ≡ branches_functions bs
  branches_noted n NoBranch = refl
  branches_noted n (Branch k t rest) = length-append (notes_block (k + n) t) (notes_branches n rest) ∙ omega (arith, block_noted (k + n) t, branches_noted n rest)

  pub defs_noted : (n : ℕ) (ds : AnfDefs) → length (notes_defs n ds) ≡ defs_functions ds
  defs_noted n NoDef = refl
  defs_noted n (LamDef b rest) = length-append (notes_block (suc n) b) (notes_defs n rest) ∙ omega (arith, block_noted (suc n) b, defs_noted n rest)
  defs_noted n (BoxDef rest) = defs_noted n rest

pub bound_noted : (n : ℕ) (p : AnfBinding) → length (notes_bound n p) ≡ bound_functions p
bound_noted n (AtomIs a) = refl
bound_noted n (OpIs op) = op_noted n op

-- ---- variables that are forgotten
pub outer_plains : (n : ℕ) (s : Scope) → outer n (plains n s) ≡ s
outer_plains zero s = refl
outer_plains (suc n) s = outer_plains n s

pub outer_shares : (ws : List ℕ) (n : ℕ) (s : Scope) → outer n (shares ws n s) ≡ s
outer_shares ws zero s = refl
outer_shares ws (suc n) s = outer_shares ws n s

pub drop_unnumbered : (n : ℕ) (gs : List ℕ) → drop n (unnumbered n gs) ≡ gs
drop_unnumbered zero gs = refl
drop_unnumbered (suc n) gs = drop_unnumbered n gs

pub drop_numbered : (g n : ℕ) (gs : List ℕ) → drop n (numbered g n gs) ≡ gs
drop_numbered g zero gs = refl
drop_numbered g (suc n) gs = drop_numbered g n gs
