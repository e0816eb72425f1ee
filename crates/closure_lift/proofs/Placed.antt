-- Where the functions of a lifted program are.
use Rattle.std.proofs.Common.{◌≡◌, ℕ, zero, suc, ◌+◌, List, [], ◌∷◌, ◌++◌, length, Some, refl, ap, ◌∙◌, subst, length-append, arith}
use Rattle.std.specs.Prelude.{slice_get}
use Rattle.std.proofs.lemmas.Option.{none-some, same_Some}
use Rattle.anf_convert.specs.Anf.{AnfOp, ConstOp, AppOp, ConOp, LamOp, FixOp, CaseOp, AnfBlock, TailAtom, Tail, BindAtom, Bind, AnfBranches, NoBranch, Branch, AnfDefs, NoDef, LamDef, BoxDef, AnfProgram, def_count}
use Rattle.anf_convert.specs.AnfEvaluation.{LamAt, lam_here, lam_after_lam, lam_after_box, BoxAt, box_here, box_after_lam, box_after_box, AnfBranchAt, at_branch, after_branch}
use Rattle.anf_convert.specs.Captured.{Scope, Outside, Plain, plains, shares, fix_captured}
use Rattle.closure_lift.specs.Lifted.{Block, Fn, Program, BranchAt, branch_here, branch_after}
use Rattle.closure_lift.specs.Lifted as lifted
use Rattle.anf_convert.specs.declared.program.Atom.TheVariants.{Box as ABox}
use Rattle.closure_lift.specs.Lift.{LiftSlot, op_functions, block_functions, branches_functions, defs_functions, unnumbered, numbered, holding, lift_block, lift_branches, lambda_function, def_functions, functions_op, functions_block, functions_branches, functions_defs, constants_functions, lift_constants, functions_constants, lift}

-- these functions stand from number g on
pub record Placed (fs : List Fn) (g : ℕ) (all : List Fn) : Type 0 where
  pub at : (j : ℕ) (fn : Fn) → slice_get fs j ≡ Some fn → slice_get all (g + j) ≡ Some fn

at_front : (xs ys : List Fn) (i : ℕ) (fn : Fn) → slice_get xs i ≡ Some fn → slice_get (xs ++ ys) i ≡ Some fn
at_front [] ys i fn e = cc
at_front (x ∷ xs) ys zero fn e = e
at_front (x ∷ xs) ys (suc i) fn e = at_front xs ys i fn e

at_back : (xs ys : List Fn) (i k : ℕ) → i ≡ length xs + k → slice_get (xs ++ ys) i ≡ slice_get ys k
at_back [] ys i k e = ap (slice_get ys) (omega arith)
at_back (x ∷ xs) ys zero k e = absurd (omega arith)
at_back (x ∷ xs) ys (suc i) k e = at_back xs ys i k (omega arith)

pub front : (xs ys : List Fn) {g : ℕ} {all : List Fn} → Placed (xs ++ ys) g all → Placed xs g all
front xs ys p = record { at = λ j fn e. p.at j fn (at_front xs ys j fn e) }

pub back : (xs ys : List Fn) {g h : ℕ} {all : List Fn} → h ≡ g + length xs → Placed (xs ++ ys) g all → Placed ys h all
back xs ys {g} {h} {all} e p = record { at = λ j fn is. let z : h + j ≡ g + (length xs + j) = omega arith in ap (slice_get all) z ∙ p.at (length xs + j) fn (at_back xs ys (length xs + j) j refl ∙ is) }

pub rest : {x : Fn} {ys : List Fn} {g : ℕ} {all : List Fn} → Placed (x ∷ ys) g all → Placed ys (suc g) all
rest {g = g} {all} p = record { at = λ j fn is. let z : suc g + j ≡ g + suc j = omega arith in ap (slice_get all) z ∙ p.at (suc j) fn is }

pub first : {x : Fn} {ys : List Fn} {g : ℕ} {all : List Fn} → Placed (x ∷ ys) g all → slice_get all g ≡ Some x
first {x} {g = g} {all} p = let z : g ≡ g + 0 = omega arith in ap (slice_get all) z ∙ p.at 0 x refl

pub def_length : (s : Scope) (gs ws : List ℕ) (g : ℕ) (ds : AnfDefs) → length (def_functions s gs ws g ds) ≡ def_count ds
def_length s gs ws g NoDef = refl
def_length s gs ws g (LamDef b rest) = ap suc (def_length s gs ws (g + block_functions b) rest)
def_length s gs ws g (BoxDef rest) = ap suc (def_length s gs ws g rest)

mutual
  pub op_length : (s : Scope) (gs : List ℕ) (g : ℕ) (op : AnfOp) → length (functions_op s gs g op) ≡ op_functions op
  op_length s gs g (ConstOp x) = refl
  op_length s gs g (AppOp f a) = refl
  op_length s gs g (ConOp c as') = refl
  op_length s gs g (LamOp b) = ap suc (block_length (Plain s) (0 ∷ gs) (suc g) b)
  op_length s gs g (FixOp ds i) =
      let n = def_count ds in
      let ws = fix_captured s ds in
      let s2 = shares ws n s in
      let gs2 = numbered g n gs in
      length-append (def_functions s2 gs2 ws (g + n) ds) (functions_defs s2 gs2 (g + n) ds) ∙ omega (arith, def_length s2 gs2 ws (g + n) ds, defs_length s2 gs2 (g + n) ds)
  op_length s gs g (CaseOp a bs) = branches_length s gs g bs

  pub block_length : (s : Scope) (gs : List ℕ) (g : ℕ) (t : AnfBlock) → length (functions_block s gs g t) ≡ block_functions t
  block_length s gs g (TailAtom a) = refl
  block_length s gs g (Tail op) = op_length s gs g op
  block_length s gs g (BindAtom a t) = block_length (Plain s) (0 ∷ gs) g t
  block_length s gs g (Bind op t) =
      length-append (functions_op s gs g op) (functions_block (Plain s) (0 ∷ gs) (g + op_functions op) t) ∙ omega (arith, op_length s gs g op, block_length (Plain s) (0 ∷ gs) (g + op_functions op) t)

  pub branches_length : (s : Scope) (gs : List ℕ) (g : ℕ) (bs : AnfBranches) → length (functions_branches s gs g bs) ≡ branches_functions bs
  branches_length s gs g NoBranch = refl
  branches_length s gs g (Branch n t rest) =
      length-append (functions_block (plains n s) (unnumbered n gs) g t) (functions_branches s gs (g + block_functions t) rest) ∙ omega (arith, block_length (plains n s) (unnumbered n gs) g t, branches_length s gs (g + block_functions t) rest)

  pub defs_length : (s : Scope) (gs : List ℕ) (g : ℕ) (ds : AnfDefs) → length (functions_defs s gs g ds) ≡ defs_functions ds
  defs_length s gs g NoDef = refl
  defs_length s gs g (LamDef b rest) =
      length-append (functions_block (Plain s) (0 ∷ gs) g b) (functions_defs s gs (g + block_functions b) rest) ∙ omega (arith, block_length (Plain s) (0 ∷ gs) g b, defs_length s gs (g + block_functions b) rest)
  defs_length s gs g (BoxDef rest) = defs_length s gs g rest

pub then_block : (s : Scope) (gs : List ℕ) (g : ℕ) (op : AnfOp) (t : AnfBlock) {all : List Fn} → Placed (functions_block s gs g (Bind op t)) g all → Placed (functions_block (Plain s) (0 ∷ gs) (g + op_functions op) t) (g + op_functions op) all
then_block s gs g op t p = back _ _ (omega (arith, op_length s gs g op)) p

-- the block of a branch
pub record BranchPlaced (s : Scope) (gs : List ℕ) (fr : List LiftSlot) (g : ℕ) (bs : AnfBranches) (i n : ℕ) (t : AnfBlock) (all : List Fn) : Type 0 where
  pub from : ℕ
  pub at : BranchAt (lift_branches s gs fr g bs) i n (lift_block (plains n s) (unnumbered n gs) (holding n s fr) from t)
  pub placed : Placed (functions_block (plains n s) (unnumbered n gs) from t) from all

pub branch_placed : {s : Scope} {gs : List ℕ} {bs : AnfBranches} {i n : ℕ} {t : AnfBlock} {all : List Fn} (fr : List LiftSlot) (g : ℕ) → AnfBranchAt bs i n t → Placed (functions_branches s gs g bs) g all → BranchPlaced s gs fr g bs i n t all
branch_placed fr g at_branch p = record { from = g; at = branch_here; placed = front _ _ p }
branch_placed {s} {gs} fr g (after_branch {m = m} {d = d} at) p =
    let r = branch_placed fr (g + block_functions d) at (back _ _ (omega (arith, block_length (plains m s) (unnumbered m gs) g d)) p) in
    record { from = r.from; at = branch_after r.at; placed = r.placed }

-- the function of a fixpoint's definition
pub record DefPlaced (s : Scope) (gs ws : List ℕ) (i : ℕ) (b : AnfBlock) (all : List Fn) : Type 0 where
  pub from : ℕ
  pub at : slice_get all i ≡ Some (lambda_function s gs ws from b)
  pub placed : Placed (functions_block (Plain s) (0 ∷ gs) from b) from all

pub def_placed : {s : Scope} {gs ws : List ℕ} {ds : AnfDefs} {i : ℕ} {b : AnfBlock} {all : List Fn} (f g k : ℕ) → k ≡ f + i → LamAt ds i b → Placed (def_functions s gs ws g ds) f all → Placed (functions_defs s gs g ds) g all → DefPlaced s gs ws k b all
def_placed {all = all} f g k e lam_here p q = record { from = g; at = ap (slice_get all) (omega arith) ∙ first p; placed = front _ _ q }
def_placed {s} {gs} f g k e (lam_after_lam {d = d} at) p q = def_placed (suc f) (g + block_functions d) k (omega arith) at (rest p) (back _ _ (omega (arith, block_length (Plain s) (0 ∷ gs) g d)) q)
def_placed f g k e (lam_after_box at) p q = def_placed (suc f) g k (omega arith) at (rest p) q

pub box_placed : (s : Scope) (gs ws : List ℕ) {ds : AnfDefs} {i : ℕ} {all : List Fn} (f g k : ℕ) → k ≡ f + i → BoxAt ds i → Placed (def_functions s gs ws g ds) f all → slice_get all k ≡ Some (record { captured = length ws; body = lifted.TailAtom ABox })
box_placed s gs ws {all = all} f g k e box_here p = ap (slice_get all) (omega arith) ∙ first p
box_placed s gs ws f g k e (box_after_lam {d = d} at) p = box_placed s gs ws (suc f) (g + block_functions d) k (omega arith) at (rest p)
box_placed s gs ws f g k e (box_after_box at) p = box_placed s gs ws (suc f) g k (omega arith) at (rest p)

-- the block of a constant
pub record ConstantPlaced (P : Program) (x : ℕ) (t : AnfBlock) : Type 0 where
  pub from : ℕ
  pub at : slice_get P.constants x ≡ Some (lift_block Outside [] [] from t)
  pub placed : Placed (functions_block Outside [] from t) from P.functions

pub constants_length : (g : ℕ) (ts : List AnfBlock) → length (functions_constants g ts) ≡ constants_functions ts
constants_length g [] = refl
constants_length g (t ∷ ts) = length-append (functions_block Outside [] g t) (functions_constants (g + block_functions t) ts) ∙ omega (arith, block_length Outside [] g t, constants_length (g + block_functions t) ts)

record ConstantFound (cs : List Block) (all : List Fn) (x : ℕ) (t : AnfBlock) : Type 0 where
  from : ℕ
  at : slice_get cs x ≡ Some (lift_block Outside [] [] from t)
  placed : Placed (functions_block Outside [] from t) from all

constant_found : {all : List Fn} (g : ℕ) (ts : List AnfBlock) (x : ℕ) (t : AnfBlock) → slice_get ts x ≡ Some t → Placed (functions_constants g ts) g all → ConstantFound (lift_constants g ts) all x t
constant_found g [] x t e p = absurd (none-some t e)
constant_found {all} g (u ∷ ts) zero t e p =
    let same : u ≡ t = same_Some _ _ e in
    record { from = g; at = ap (λ z. Some (lift_block Outside [] [] g z)) same; placed = subst (λ z. Placed (functions_block Outside [] g z) g all) same (front _ _ p) }
constant_found g (u ∷ ts) (suc x) t e p =
    let r = constant_found (g + block_functions u) ts x t e (back _ _ (omega (arith, block_length Outside [] g u)) p) in
    record { from = r.from; at = r.at; placed = r.placed }

pub own : (fs : List Fn) → Placed fs 0 fs
own fs = record { at = λ j fn e. ap (slice_get fs) (omega arith) ∙ e }

pub constant_placed : (P : AnfProgram) (x : ℕ) (t : AnfBlock) → slice_get P.constants x ≡ Some t → ConstantPlaced (lift P) x t
constant_placed P x t e = let r = constant_found 0 P.constants x t e (front _ _ (own (lift P).functions)) in record { from = r.from; at = r.at; placed = r.placed }

pub main_placed : (P : AnfProgram) → Placed (functions_block Outside [] (constants_functions P.constants) P.main) (constants_functions P.constants) (lift P).functions
main_placed P = back _ _ (omega (arith, constants_length 0 P.constants)) (own (lift P).functions)
