-- How the logic stores lifted programs.
use Rattle.std.specs.Prelude.{◌≡◌, ℕ}
use Rattle.std.proofs.Common.{refl}
use Rattle.std.specs.Coded.{Coded, coded×, coded_ℕ, code_by}
use base.Stored.{Gv, gnil, gnum, gcons}
use Rattle.trees.specs.Code.{t0, t1, t2, t3, t4}
use Rattle.anf_convert.specs.AnfCode.{code_atom, code_atoms, code_atom-inj, code_atoms-inj}
use Rattle.closure_lift.specs.Lifted.{Op, ConstOp, AppOp, ConOp, ClosOp, CaseOp, Block, TailAtom, BindAtom, Tail, Bind, BranchBlocks, NoBranch, Branch, Fn, Bound, AtomIs, OpIs}

abbrev mutual
  pub code_op : Op → Gv
  code_op (ConstOp x) = gcons t0 (gnum x)
  code_op (AppOp f a) = gcons t1 (gcons (code_atom f) (code_atom a))
  code_op (ConOp c as') = gcons t2 (gcons (gnum c) (code_atoms as'))
  code_op (ClosOp g as') = gcons t3 (gcons (gnum g) (code_atoms as'))
  code_op (CaseOp a bs) = gcons t4 (gcons (code_atom a) (code_branches bs))

  pub code_block : Block → Gv
  code_block (TailAtom a) = gcons t0 (code_atom a)
  code_block (Tail op) = gcons t1 (code_op op)
  code_block (BindAtom a t) = gcons t2 (gcons (code_atom a) (code_block t))
  code_block (Bind op t) = gcons t3 (gcons (code_op op) (code_block t))

  pub code_branches : BranchBlocks → Gv
  code_branches NoBranch = gnil
  code_branches (Branch n t rest) = gcons (gnum n) (gcons (code_block t) (code_branches rest))

mutual
  pub code_op-inj : (x y : Op) → code_op x ≡ code_op y → x ≡ y
  code_op-inj (ConstOp x) (ConstOp y) p = cc
  code_op-inj (AppOp f a) (AppOp g b) p = cc (code_atom-inj f g (cc), code_atom-inj a b (cc))
  code_op-inj (ConOp c xs) (ConOp d ys) p = cc (code_atoms-inj xs ys (cc))
  code_op-inj (ClosOp c xs) (ClosOp d ys) p = cc (code_atoms-inj xs ys (cc))
  code_op-inj (CaseOp a bs) (CaseOp b cs) p = cc (code_atom-inj a b (cc), code_branches-inj bs cs (cc))
  code_op-inj _ _ p = cc

  pub code_block-inj : (x y : Block) → code_block x ≡ code_block y → x ≡ y
  code_block-inj (TailAtom a) (TailAtom b) p = cc (code_atom-inj a b (cc))
  code_block-inj (Tail o) (Tail q) p = cc (code_op-inj o q (cc))
  code_block-inj (BindAtom a t) (BindAtom b u) p = cc (code_atom-inj a b (cc), code_block-inj t u (cc))
  code_block-inj (Bind o t) (Bind q u) p = cc (code_op-inj o q (cc), code_block-inj t u (cc))
  code_block-inj _ _ p = cc

  pub code_branches-inj : (x y : BranchBlocks) → code_branches x ≡ code_branches y → x ≡ y
  code_branches-inj NoBranch NoBranch p = refl
  code_branches-inj (Branch n t rest) (Branch m u more) p = cc (code_block-inj t u (cc), code_branches-inj rest more (cc))
  code_branches-inj _ _ p = cc

abbrev pub code_bound : Bound → Gv
code_bound (AtomIs a) = gcons t0 (code_atom a)
code_bound (OpIs op) = gcons t1 (code_op op)

pub code_bound-inj : (x y : Bound) → code_bound x ≡ code_bound y → x ≡ y
code_bound-inj (AtomIs a) (AtomIs b) p = cc (code_atom-inj a b (cc))
code_bound-inj (OpIs o) (OpIs q) p = cc (code_op-inj o q (cc))
code_bound-inj _ _ p = cc

abbrev pub coded_block : Coded Block
coded_block = record { code = code_block; inj = code_block-inj }

abbrev pub coded_branches : Coded BranchBlocks
coded_branches = record { code = code_branches; inj = code_branches-inj }

abbrev pub coded_bound : Coded Bound
coded_bound = record { code = code_bound; inj = code_bound-inj }

abbrev pub coded_fn : Coded Fn
coded_fn = code_by (ℕ × Block) (coded× coded_ℕ coded_block) (λ f. (f.captured, f.body)) (λ p. record { captured = p.0; body = p.1 }) (λ _. refl)
