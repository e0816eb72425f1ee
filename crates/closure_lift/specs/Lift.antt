-- Lifting: the functions of a program in A-normal form are numbered and take their captured words in closures.
use Rattle.std.specs.Prelude.{ℕ, zero, suc, ◌+◌, List, [], ◌∷◌, ◌++◌, length, map, get_or, Bool, false, nat_eq, if◌then◌else◌}
use Rattle.anf_convert.specs.Anf.{AnfOp, ConstOp, AppOp, ConOp, LamOp, FixOp, CaseOp, AnfBlock, TailAtom, Tail, BindAtom, Bind, AnfBranches, NoBranch, Branch, AnfDefs, NoDef, LamDef, BoxDef, AnfProgram, def_count}
use Rattle.anf_convert.specs.declared.program.Atom.{Atom}
use Rattle.anf_convert.specs.declared.program.Atom.TheVariants.{Var as AVar, Box as ABox, Empty as AEmpty}
use Rattle.anf_convert.specs.Captured.{Scope, Outside, Plain, depth, Entry, Unbound, Word, Words, entry, plains, shares, lam_captured, fix_captured}
use Rattle.closure_lift.specs.Lifted.{Op, ClosOp, Block, BranchBlocks, Fn, Program}
use Rattle.closure_lift.specs.Lifted as lifted

-- what a variable of a lifted block holds: a word, or the closure that was made for a fixpoint's variable i
pub data LiftSlot : Type 0 where
  Holds : (x : ℕ) → LiftSlot
  Made : (i : ℕ) → LiftSlot

abbrev pub same_slot : LiftSlot → LiftSlot → Bool
same_slot (Holds x) (Holds y) = nat_eq x y
same_slot (Made i) (Made j) = nat_eq i j
same_slot (Holds x) (Made j) = false
same_slot (Made i) (Holds y) = false

-- the variable that holds it, among the variables of a block, the innermost first
abbrev pub position : LiftSlot → List LiftSlot → ℕ
position k [] = 0
position k (j ∷ fr) = if same_slot k j then 0 else suc (position k fr)

abbrev pub held : List LiftSlot → ℕ → Atom
held fr x = AVar (position (Holds x) fr)

abbrev pub variable : List LiftSlot → ℕ → Entry → Atom
variable fr i Unbound = ABox
variable fr i (Word x) = held fr x
variable fr i (Words ws) = AVar (position (Made i) fr)

abbrev pub atom : Scope → List LiftSlot → Atom → Atom
atom s fr (AVar i) = variable fr i (entry s i)
atom s fr ABox = ABox
atom s fr (AEmpty c) = AEmpty c

-- a closure is made for variable i where it is a fixpoint's, whose function has number g
abbrev pub closure_for : List LiftSlot → ℕ → ℕ → Entry → (List LiftSlot → Block) → Block
closure_for fr i g Unbound next = next fr
closure_for fr i g (Word x) next = next fr
closure_for fr i g (Words ws) next = lifted.Bind (ClosOp g (map (held fr) ws)) (next (Made i ∷ fr))

abbrev pub closure : Scope → List ℕ → List LiftSlot → Atom → (List LiftSlot → Block) → Block
closure s gs fr (AVar i) next = closure_for fr i (get_or gs i 0) (entry s i) next
closure s gs fr ABox next = next fr
closure s gs fr (AEmpty c) next = next fr

-- the closures for fixpoints' variables among the atoms, and then the rest. `gs` has the number of the function of each variable that is a
-- fixpoint's
abbrev pub closures : Scope → List ℕ → List LiftSlot → List Atom → (List LiftSlot → Block) → Block
closures s gs fr [] next = next fr
closures s gs fr (a ∷ as') next = closure s gs fr a (λ fr'. closures s gs fr' as' next)

-- the atoms that an operation evaluates
abbrev pub atoms_of : AnfOp → List Atom
atoms_of (ConstOp x) = []
atoms_of (AppOp f a) = f ∷ a ∷ []
atoms_of (ConOp c as') = as'
atoms_of (LamOp b) = []
atoms_of (FixOp ds i) = []
atoms_of (CaseOp a bs) = a ∷ []

-- the number of functions: of lambdas and of definitions of fixpoints
abbrev mutual
  pub op_functions : AnfOp → ℕ
  op_functions (ConstOp x) = 0
  op_functions (AppOp f a) = 0
  op_functions (ConOp c as') = 0
  op_functions (LamOp b) = suc (block_functions b)
  op_functions (FixOp ds i) = def_count ds + defs_functions ds
  op_functions (CaseOp a bs) = branches_functions bs

  pub block_functions : AnfBlock → ℕ
  block_functions (TailAtom a) = 0
  block_functions (Tail op) = op_functions op
  block_functions (BindAtom a t) = block_functions t
  block_functions (Bind op t) = op_functions op + block_functions t

  pub branches_functions : AnfBranches → ℕ
  branches_functions NoBranch = 0
  branches_functions (Branch n t rest) = block_functions t + branches_functions rest

  pub defs_functions : AnfDefs → ℕ
  defs_functions NoDef = 0
  defs_functions (LamDef b rest) = block_functions b + defs_functions rest
  defs_functions (BoxDef rest) = defs_functions rest

-- n more variables that aren't a fixpoint's
abbrev pub unnumbered : ℕ → List ℕ → List ℕ
unnumbered zero gs = gs
unnumbered (suc n) gs = 0 ∷ unnumbered n gs

-- the n variables of a fixpoint, whose functions are numbered from g on
abbrev pub numbered : ℕ → ℕ → List ℕ → List ℕ
numbered g zero gs = gs
numbered g (suc n) gs = (g + n) ∷ numbered g n gs

-- n more variables that hold words
abbrev pub holding : ℕ → Scope → List LiftSlot → List LiftSlot
holding zero s fr = fr
holding (suc n) s fr = Holds (depth (plains n s)) ∷ holding n s fr

-- The code of an operation, and of a block. `fr` tells what the variables of the lifted block hold; the functions inside are numbered from g on
abbrev mutual
  pub lift_op : Scope → List ℕ → List LiftSlot → ℕ → AnfOp → Op
  lift_op s gs fr g (ConstOp x) = lifted.ConstOp x
  lift_op s gs fr g (AppOp f a) = lifted.AppOp (atom s fr f) (atom s fr a)
  lift_op s gs fr g (ConOp c as') = lifted.ConOp c (map (atom s fr) as')
  lift_op s gs fr g (LamOp b) = ClosOp g (map (held fr) (lam_captured s b))
  lift_op s gs fr g (FixOp ds i) = ClosOp (g + i) (map (held fr) (fix_captured s ds))
  lift_op s gs fr g (CaseOp a bs) = lifted.CaseOp (atom s fr a) (lift_branches s gs fr g bs)

  pub lift_block : Scope → List ℕ → List LiftSlot → ℕ → AnfBlock → Block
  lift_block s gs fr g (TailAtom a) = closures s gs fr (a ∷ []) (λ fr'. lifted.TailAtom (atom s fr' a))
  lift_block s gs fr g (Tail op) = closures s gs fr (atoms_of op) (λ fr'. lifted.Tail (lift_op s gs fr' g op))
  lift_block s gs fr g (BindAtom a t) = closures s gs fr (a ∷ []) (λ fr'. lifted.BindAtom (atom s fr' a) (lift_block (Plain s) (0 ∷ gs) (Holds (depth s) ∷ fr') g t))
  lift_block s gs fr g (Bind op t) = closures s gs fr (atoms_of op) (λ fr'. lifted.Bind (lift_op s gs fr' g op) (lift_block (Plain s) (0 ∷ gs) (Holds (depth s) ∷ fr') (g + op_functions op) t))

  pub lift_branches : Scope → List ℕ → List LiftSlot → ℕ → AnfBranches → BranchBlocks
  lift_branches s gs fr g NoBranch = lifted.NoBranch
  lift_branches s gs fr g (Branch n t rest) = lifted.Branch n (lift_block (plains n s) (unnumbered n gs) (holding n s fr) g t) (lift_branches s gs fr (g + block_functions t) rest)

-- the function of a lambda's body with these captured words
abbrev pub lambda_function : Scope → List ℕ → List ℕ → ℕ → AnfBlock → Fn
lambda_function s gs ws g b = record { captured = length ws; body = lift_block (Plain s) (0 ∷ gs) (Holds (depth s) ∷ map (λ x. Holds x) ws) g b }

-- the functions of a fixpoint's definitions, which stand in its scope
abbrev pub def_functions : Scope → List ℕ → List ℕ → ℕ → AnfDefs → List Fn
def_functions s gs ws g NoDef = []
def_functions s gs ws g (LamDef b rest) = lambda_function s gs ws g b ∷ def_functions s gs ws (g + block_functions b) rest
def_functions s gs ws g (BoxDef rest) = record { captured = length ws; body = lifted.TailAtom ABox } ∷ def_functions s gs ws g rest

-- the functions, numbered from g on
abbrev mutual
  pub functions_op : Scope → List ℕ → ℕ → AnfOp → List Fn
  functions_op s gs g (ConstOp x) = []
  functions_op s gs g (AppOp f a) = []
  functions_op s gs g (ConOp c as') = []
  functions_op s gs g (LamOp b) = lambda_function s gs (lam_captured s b) (suc g) b ∷ functions_block (Plain s) (0 ∷ gs) (suc g) b
  functions_op s gs g (FixOp ds i) =
      def_functions (shares (fix_captured s ds) (def_count ds) s) (numbered g (def_count ds) gs) (fix_captured s ds) (g + def_count ds) ds ++
      functions_defs (shares (fix_captured s ds) (def_count ds) s) (numbered g (def_count ds) gs) (g + def_count ds) ds
  functions_op s gs g (CaseOp a bs) = functions_branches s gs g bs

  pub functions_block : Scope → List ℕ → ℕ → AnfBlock → List Fn
  functions_block s gs g (TailAtom a) = []
  functions_block s gs g (Tail op) = functions_op s gs g op
  functions_block s gs g (BindAtom a t) = functions_block (Plain s) (0 ∷ gs) g t
  functions_block s gs g (Bind op t) = functions_op s gs g op ++ functions_block (Plain s) (0 ∷ gs) (g + op_functions op) t

  pub functions_branches : Scope → List ℕ → ℕ → AnfBranches → List Fn
  functions_branches s gs g NoBranch = []
  functions_branches s gs g (Branch n t rest) = functions_block (plains n s) (unnumbered n gs) g t ++ functions_branches s gs (g + block_functions t) rest

  pub functions_defs : Scope → List ℕ → ℕ → AnfDefs → List Fn
  functions_defs s gs g NoDef = []
  functions_defs s gs g (LamDef b rest) = functions_block (Plain s) (0 ∷ gs) g b ++ functions_defs s gs (g + block_functions b) rest
  functions_defs s gs g (BoxDef rest) = functions_defs s gs g rest

-- the constants' functions come first, main's last
abbrev pub constants_functions : List AnfBlock → ℕ
constants_functions [] = 0
constants_functions (t ∷ ts) = block_functions t + constants_functions ts

abbrev pub lift_constants : ℕ → List AnfBlock → List Block
lift_constants g [] = []
lift_constants g (t ∷ ts) = lift_block Outside [] [] g t ∷ lift_constants (g + block_functions t) ts

abbrev pub functions_constants : ℕ → List AnfBlock → List Fn
functions_constants g [] = []
functions_constants g (t ∷ ts) = functions_block Outside [] g t ++ functions_constants (g + block_functions t) ts

abbrev pub lift : AnfProgram → Program
lift P = record {
  functions = functions_constants 0 P.constants ++ functions_block Outside [] (constants_functions P.constants) P.main;
  constants = lift_constants 0 P.constants;
  main = lift_block Outside [] [] (constants_functions P.constants) P.main;
}
