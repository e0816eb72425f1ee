-- How the logic stores programs in A-normal form.
use Rattle.std.specs.Prelude.{◌≡◌, List, [], ◌∷◌}
use Rattle.std.proofs.Common.{refl}
use Rattle.std.specs.Coded.{Coded}
use base.Stored.{Gv, gnil, gnum, gcons}
use Rattle.trees.specs.Code.{t0, t1, t2, t3, t4, t5}
use Rattle.anf_convert.specs.Anf.{Atom, AVar, ABox, AEmpty, AnfOp, ConstOp, AppOp, ConOp, LamOp, FixOp, CaseOp, AnfBlock, TailAtom, Tail, BindAtom, Bind, AnfBranches, NoBranch, Branch, AnfDefs, NoDef, LamDef, BoxDef, AnfBinding, AtomIs, OpIs}

abbrev pub code_atom : Atom → Gv
code_atom (AVar i) = gcons t0 (gnum i)
code_atom ABox = gcons t1 gnil
code_atom (AEmpty c) = gcons t2 (gnum c)

abbrev pub code_atoms : List Atom → Gv
code_atoms [] = gnil
code_atoms (a ∷ as') = gcons (code_atom a) (code_atoms as')

abbrev mutual
  pub code_op : AnfOp → Gv
  code_op (ConstOp x) = gcons t0 (gnum x)
  code_op (AppOp f a) = gcons t1 (gcons (code_atom f) (code_atom a))
  code_op (ConOp c as') = gcons t2 (gcons (gnum c) (code_atoms as'))
  code_op (LamOp b) = gcons t3 (code_block b)
  code_op (FixOp ds i) = gcons t4 (gcons (gnum i) (code_defs ds))
  code_op (CaseOp a bs) = gcons t5 (gcons (code_atom a) (code_branches bs))

  pub code_block : AnfBlock → Gv
  code_block (TailAtom a) = gcons t0 (code_atom a)
  code_block (Tail op) = gcons t1 (code_op op)
  code_block (BindAtom a t) = gcons t2 (gcons (code_atom a) (code_block t))
  code_block (Bind op t) = gcons t3 (gcons (code_op op) (code_block t))

  pub code_branches : AnfBranches → Gv
  code_branches NoBranch = gnil
  code_branches (Branch n t rest) = gcons (gnum n) (gcons (code_block t) (code_branches rest))

  pub code_defs : AnfDefs → Gv
  code_defs NoDef = gcons t0 gnil
  code_defs (LamDef b rest) = gcons t1 (gcons (code_block b) (code_defs rest))
  code_defs (BoxDef rest) = gcons t2 (code_defs rest)

pub code_atom-inj : (a b : Atom) → code_atom a ≡ code_atom b → a ≡ b
code_atom-inj (AVar i) (AVar j) p = cc
code_atom-inj ABox ABox p = refl
code_atom-inj (AEmpty c) (AEmpty d) p = cc
code_atom-inj _ _ p = cc

pub code_atoms-inj : (xs ys : List Atom) → code_atoms xs ≡ code_atoms ys → xs ≡ ys
code_atoms-inj [] [] p = refl
code_atoms-inj (a ∷ xs) (b ∷ ys) p = cc (code_atom-inj a b (cc), code_atoms-inj xs ys (cc))
code_atoms-inj _ _ p = cc

mutual
  pub code_op-inj : (x y : AnfOp) → code_op x ≡ code_op y → x ≡ y
  code_op-inj (ConstOp x) (ConstOp y) p = cc
  code_op-inj (AppOp f a) (AppOp g b) p = cc (code_atom-inj f g (cc), code_atom-inj a b (cc))
  code_op-inj (ConOp c xs) (ConOp d ys) p = cc (code_atoms-inj xs ys (cc))
  code_op-inj (LamOp b) (LamOp d) p = cc (code_block-inj b d (cc))
  code_op-inj (FixOp ds i) (FixOp es j) p = cc (code_defs-inj ds es (cc))
  code_op-inj (CaseOp a bs) (CaseOp b cs) p = cc (code_atom-inj a b (cc), code_branches-inj bs cs (cc))
  code_op-inj _ _ p = cc

  pub code_block-inj : (x y : AnfBlock) → code_block x ≡ code_block y → x ≡ y
  code_block-inj (TailAtom a) (TailAtom b) p = cc (code_atom-inj a b (cc))
  code_block-inj (Tail o) (Tail q) p = cc (code_op-inj o q (cc))
  code_block-inj (BindAtom a t) (BindAtom b u) p = cc (code_atom-inj a b (cc), code_block-inj t u (cc))
  code_block-inj (Bind o t) (Bind q u) p = cc (code_op-inj o q (cc), code_block-inj t u (cc))
  code_block-inj _ _ p = cc

  pub code_branches-inj : (x y : AnfBranches) → code_branches x ≡ code_branches y → x ≡ y
  code_branches-inj NoBranch NoBranch p = refl
  code_branches-inj (Branch n t rest) (Branch m u more) p = cc (code_block-inj t u (cc), code_branches-inj rest more (cc))
  code_branches-inj _ _ p = cc

  pub code_defs-inj : (x y : AnfDefs) → code_defs x ≡ code_defs y → x ≡ y
  code_defs-inj NoDef NoDef p = refl
  code_defs-inj (LamDef b rest) (LamDef d more) p = cc (code_block-inj b d (cc), code_defs-inj rest more (cc))
  code_defs-inj (BoxDef rest) (BoxDef more) p = cc (code_defs-inj rest more (cc))
  code_defs-inj _ _ p = cc

abbrev pub code_binding : AnfBinding → Gv
code_binding (AtomIs a) = gcons t0 (code_atom a)
code_binding (OpIs op) = gcons t1 (code_op op)

pub code_binding-inj : (x y : AnfBinding) → code_binding x ≡ code_binding y → x ≡ y
code_binding-inj (AtomIs a) (AtomIs b) p = cc (code_atom-inj a b (cc))
code_binding-inj (OpIs o) (OpIs q) p = cc (code_op-inj o q (cc))
code_binding-inj _ _ p = cc

abbrev pub coded_block : Coded AnfBlock
coded_block = record { code = code_block; inj = code_block-inj }

abbrev pub coded_branches : Coded AnfBranches
coded_branches = record { code = code_branches; inj = code_branches-inj }

abbrev pub coded_defs : Coded AnfDefs
coded_defs = record { code = code_defs; inj = code_defs-inj }

abbrev pub coded_binding : Coded AnfBinding
coded_binding = record { code = code_binding; inj = code_binding-inj }

abbrev pub coded_op : Coded AnfOp
coded_op = record { code = code_op; inj = code_op-inj }
