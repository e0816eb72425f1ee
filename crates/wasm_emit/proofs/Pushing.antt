-- Steps of the functions that push instructions.
use Rattle.std.proofs.Common.{◌≡◌, ℕ, zero, suc, ◌+◌, ◌-◌, ◌<◌, ◌≤◌, List, [], ◌∷◌, ◌++◌, length, append-nil, reverse, drop, get_or, max, refl, ap, sym, ◌∙◌, arith}
use Rattle.std.proofs.Math.ListN.{drop_of_length-le}
use Rattle.std.proofs.lemmas.List.{get_or-reverse, length-reverse}
use Rattle.std.specs.Prelude.{Result, Ok, Err, IfOk}
use Rattle.anf_convert.specs.declared.program.Atom.{Atom}
use Rattle.closure_lift.specs.Lifted.{Op, ConstOp, AppOp, ConOp, ClosOp, CaseOp, Block, TailAtom, BindAtom, Tail, Bind, BranchBlocks, NoBranch, Branch, BranchAt, branch_here, branch_after, Bound, AtomIs, OpIs, tail_of, block_of}
use Rattle.closure_lift.specs.LiftedProgram.{renumber_op, renumber, renumber_branches}
use Rattle.closure_lift.specs.LiftedView.{seen, bounds_of, branches_of}
use Rattle.closure_lift.specs.declared.program.LiftedBranch.{LiftedBranch}
use Rattle.closure_lift.specs.declared.program.LiftedConstant.{LiftedConstant}
use Rattle.closure_lift.specs.declared.program.LiftedOp.{LiftedOp}
use Rattle.closure_lift.specs.declared.program.LiftedOp.TheVariants as lifted
use Rattle.wasm_core.specs.declared.instrs.Instr.{Instr}
use Rattle.wasm_core.specs.declared.instrs.Instr.TheVariants.{End}
use Rattle.wasm_emit.specs.EmittedLocals.{top, top_op, top_branches}
use Rattle.wasm_emit.specs.Pushed.{Pushed, ends, bound_locals}
use Rattle.wasm_emit.specs.declared.fault.EmitFault.{EmitFault}
use Rattle.closure_lift.proofs.Noting.{next_is}

pub ends_step : (n k : ℕ) (rest : List Instr) → k < n → ends (n - k) rest ≡ End ∷ ends (n - (k + 1)) rest
ends_step n k rest h = let e : n - k ≡ suc (n - (k + 1)) = omega arith in ap (λ (j : ℕ). ends j rest) e

mutual
  op_least : (d : ℕ) (x : Op) → d ≤ top_op d x
  op_least d (ConstOp x) = omega arith
  op_least d (AppOp f a) = omega arith
  op_least d (ConOp c as') = omega arith
  op_least d (ClosOp g as') = omega arith
  op_least d (CaseOp a bs) = omega arith

  -- a block needs no fewer locals than there are before it
  pub top_least : (d : ℕ) (t : Block) → d ≤ top d t
  top_least d (TailAtom a) = omega arith
  top_least d (BindAtom a t) = omega arith
  top_least d (Tail x) = op_least d x
  top_least d (Bind x t) = omega arith

pub branches_least : (d : ℕ) (bs : BranchBlocks) → d ≤ top_branches d bs
branches_least d NoBranch = omega arith
branches_least d (Branch n t bs) = omega (arith, branches_least d bs)

pub top_end : (d : ℕ) (x : Bound) → top d (tail_of x) ≡ bound_locals d x
top_end d (AtomIs a) = refl
top_end d (OpIs x) = refl

-- the locals at the end of a block
pub end_locals : (items : List LiftedOp) (i at : ℕ) (t : LiftedOp) → length items ≤ i → top at (block_of (bounds_of (drop i items)) (tail_of (seen t))) ≡ bound_locals at (seen t)
end_locals items i at t le = ap (λ (os : List LiftedOp). top at (block_of (bounds_of os) (tail_of (seen t)))) (drop_of_length-le items le) ∙ top_end at (seen t)

-- the locals of a match
pub case_locals : (r : Result ℕ EmitFault) (inner d most : ℕ) (items : List LiftedBranch) (o : LiftedOp) (a : Atom) (bs : BranchBlocks) → inner ≡ d + 1 → branches_of items ≡ bs → o ≡ lifted.Case a bs →
    IfOk r (λ n. (n ≡ top_branches inner (branches_of items)) × (n ≤ most)) → IfOk r (λ n. (n ≡ bound_locals d (seen o)) × (n ≤ most))
case_locals (Err f) inner d most items o a bs e g is h = h
case_locals (Ok n) inner d most items o a bs e g is h =
    let s : inner ≡ suc d = omega arith in
    let first : top_branches inner (branches_of items) ≡ top_branches (suc d) bs = ap (λ (k : ℕ). top_branches k (branches_of items)) s ∙ ap (top_branches (suc d)) g in
    let second : bound_locals d (seen o) ≡ max (suc d) (top_branches (suc d) bs) = ap (λ (x : LiftedOp). bound_locals d (seen x)) is in
    let least = branches_least (suc d) bs in
    let known = h.0 in
    (omega arith, h.1)

-- the next constant
module _ (slice cs : List LiftedConstant) (k : ℕ) (c : LiftedConstant) (same : reverse slice ≡ cs) (lt : k < length slice) (is : c ≡ get_or slice (length slice - 1 - k) c) where
  pub constant_next : drop k cs ≡ c ∷ drop (k + 1) cs
  constant_next =
      let size : length cs ≡ length slice = sym (ap length same) ∙ length-reverse slice in
      next_is cs k c (omega arith) (is ∙ sym (get_or-reverse slice k c lt) ∙ ap (λ (xs : List LiftedConstant). get_or xs k c) same)

-- ends one after another
pub ends_sum : (n k : ℕ) (rest : List Instr) → ends n (ends k rest) ≡ ends (k + n) rest
ends_sum zero k rest = ap (λ (j : ℕ). ends j rest) (add_zero k)
  where
    add_zero : (k : ℕ) → k ≡ k + 0
    add_zero k = omega arith
ends_sum (suc n) k rest =
    let e : suc (k + n) ≡ k + suc n = omega arith in
    ap (λ (z : List Instr). End ∷ z) (ends_sum n k rest) ∙ ap (λ (j : ℕ). ends j rest) e

-- numbers of constants take no locals
mutual
  op_renumbered : (f : ℕ → ℕ) (d : ℕ) (x : Op) → top_op d (renumber_op f x) ≡ top_op d x
  op_renumbered f d (ConstOp x) = refl
  op_renumbered f d (AppOp g a) = refl
  op_renumbered f d (ConOp c as') = refl
  op_renumbered f d (ClosOp g as') = refl
  op_renumbered f d (CaseOp a bs) = ap (λ (n : ℕ). max (suc d) n) (branches_renumbered f (suc d) bs)

  pub top_renumbered : (f : ℕ → ℕ) (d : ℕ) (t : Block) → top d (renumber f t) ≡ top d t
  top_renumbered f d (TailAtom a) = refl
  top_renumbered f d (BindAtom a t) = ap (λ (n : ℕ). max (suc d) n) (top_renumbered f (suc d) t)
  top_renumbered f d (Tail x) = op_renumbered f d x
  top_renumbered f d (Bind x t) = let a = op_renumbered f d x in let b = top_renumbered f (suc d) t in omega arith

  branches_renumbered : (f : ℕ → ℕ) (d : ℕ) (bs : BranchBlocks) → top_branches d (renumber_branches f bs) ≡ top_branches d bs
  branches_renumbered f d NoBranch = refl
  branches_renumbered f d (Branch n t bs) = let a = top_renumbered f d t in let b = branches_renumbered f d bs in omega arith

-- nothing else was pushed
pub only_pushed : {g : List Instr → List Instr} (old new : List Instr) → old ≡ [] → Pushed old new g → new ≡ g []
only_pushed {g} old new e x = sym (append-nil new) ∙ x.is [] ∙ ap (λ (zs : List Instr). zs ++ g []) e

pub then_pushed : {g h : List Instr → List Instr} (old mid new : List Instr) → Pushed old mid g → Pushed mid new h → Pushed old new (λ rest. g (h rest))
then_pushed {g} {h} old mid new x y = record { is = λ rest. y.is rest ∙ x.is (h rest) }

-- a branch needs no more locals than the match
pub branch_top : (d : ℕ) {bs : BranchBlocks} {i n : ℕ} {t : Block} → BranchAt bs i n t → top d t ≤ top_branches d bs
branch_top d branch_here = omega arith
branch_top d (branch_after at) = omega (arith, branch_top d at)
