-- The size of the bytes of modules with workers, by the size of the lifted program, and so of the program in A-normal form.
use Rattle.std.specs.Prelude.{ℕ, suc, ◌+◌, ◌*◌, ◌≤◌, List, [], ◌∷◌, length}
use Rattle.lambda_box.specs.BoxProgram.{BoxProgram}
use Rattle.lambda_box.specs.SaturatedForm.{program_nodes}
use Rattle.anf_convert.specs.ToAnf.{to_anf}
use Rattle.anf_convert.specs.declared.program.Atom.{Atom}
use Rattle.anf_convert.specs.Anf.{AnfOp, ConstOp, AppOp, ConOp, LamOp, FixOp, CaseOp, AnfBlock, TailAtom, Tail, BindAtom, Bind, AnfBranches, NoBranch, Branch, AnfDefs, NoDef, LamDef, BoxDef, AnfProgram}
use Rattle.closure_lift.specs.CapturedLimit.{ProgramCaptures}
use Rattle.closure_lift.specs.Lift.{lift}
use Rattle.closure_lift.specs.Lifted.{Op, ClosOp, Block, BranchBlocks, Fn, Program}
use Rattle.closure_lift.specs.Lifted as lifted
use Rattle.closure_lift.specs.LiftedForm.{Formed, Limits as IsWithin}
use Rattle.wasm_core.specs.ShortestBytes.{module_bytes}
use Rattle.wasm_emit.specs.EmittedLocals.{top}
use Rattle.wasm_emit.specs.EmitLaws.{CountsFit}
use Rattle.known_calls.specs.KnownModule.{module_of}

-- bytes that are enough for each operation, block and match: those of an application are enough for seven captured words, the argument, and a branch or a call
abbrev mutual
  pub op_weight : Op → ℕ
  op_weight (lifted.ConstOp x) = 4
  op_weight (lifted.AppOp f a) = 102
  op_weight (lifted.ConOp c as') = 45 + 16 * length as'
  op_weight (ClosOp g as') = 45 + 16 * length as'
  op_weight (lifted.CaseOp a bs) = 13 + branches_weight bs

  pub weight : Block → ℕ
  weight (lifted.TailAtom a) = 8
  weight (lifted.BindAtom a t) = 12 + weight t
  weight (lifted.Tail x) = op_weight x
  weight (lifted.Bind x t) = 4 + op_weight x + weight t

  pub branches_weight : BranchBlocks → ℕ
  branches_weight lifted.NoBranch = 0
  branches_weight (lifted.Branch n t bs) = 31 + weight t + branches_weight bs

-- for each function, with two types, its place in the table, the sizes and locals of its entry and its worker, and the entry's loads
abbrev pub functions_weight : List Fn → ℕ
functions_weight [] = 0
functions_weight (f ∷ fs) = 118 + weight f.body + functions_weight fs

abbrev pub constants_weight : List Block → ℕ
constants_weight [] = 0
constants_weight (t ∷ ts) = 28 + weight t + constants_weight ts

abbrev pub program_weight : Program → ℕ
program_weight P = functions_weight P.functions + constants_weight P.constants + weight P.main

-- the shortest bytes of such a module
abbrev pub KnownSized : Type 0
KnownSized = (P : Program) (pages m : ℕ) → Formed P m → IsWithin P → CountsFit P m → length (module_bytes (module_of P pages)) ≤ program_weight P + 640

-- a function has no more locals than this
abbrev pub LocalsBound : Type 0
LocalsBound = (d : ℕ) (t : Block) → 4 * top d t ≤ 4 * d + weight t

-- programs in A-normal form, where no lambda and no fixpoint has over c captured words; the functions inside are weighed with the code
module _ (c : ℕ) where
  -- a variable, for which a closure is made where it is a fixpoint's
  abbrev pub atom_weight : ℕ
  atom_weight = 49 + 16 * c

  abbrev pub atoms_weight : List Atom → ℕ
  atoms_weight [] = 0
  atoms_weight (a ∷ as') = atom_weight + atoms_weight as'

  abbrev mutual
    pub normal_op_weight : AnfOp → ℕ
    normal_op_weight (ConstOp x) = 4
    normal_op_weight (AppOp f a) = 102 + atoms_weight (f ∷ a ∷ [])
    normal_op_weight (ConOp k as') = 45 + 16 * length as' + atoms_weight as'
    normal_op_weight (LamOp b) = 163 + 16 * c + normal_weight b
    normal_op_weight (FixOp ds i) = 45 + 16 * c + normal_defs_weight ds
    normal_op_weight (CaseOp a bs) = 13 + atom_weight + normal_branches_weight bs

    pub normal_weight : AnfBlock → ℕ
    normal_weight (TailAtom a) = 8 + atom_weight
    normal_weight (Tail op) = normal_op_weight op
    normal_weight (BindAtom a t) = 12 + atom_weight + normal_weight t
    normal_weight (Bind op t) = 4 + normal_op_weight op + normal_weight t

    pub normal_branches_weight : AnfBranches → ℕ
    normal_branches_weight NoBranch = 0
    normal_branches_weight (Branch n t rest) = 31 + normal_weight t + normal_branches_weight rest

    pub normal_defs_weight : AnfDefs → ℕ
    normal_defs_weight NoDef = 0
    normal_defs_weight (LamDef b rest) = 118 + normal_weight b + normal_defs_weight rest
    normal_defs_weight (BoxDef rest) = 126 + normal_defs_weight rest

  abbrev pub normal_constants_weight : List AnfBlock → ℕ
  normal_constants_weight [] = 0
  normal_constants_weight (t ∷ ts) = 28 + normal_weight t + normal_constants_weight ts

  abbrev pub normal_program_weight : AnfProgram → ℕ
  normal_program_weight P = normal_constants_weight P.constants + normal_weight P.main

-- the lifted program is no heavier
abbrev pub LiftedIsLight : Type 0
LiftedIsLight = (P : AnfProgram) (c : ℕ) → ProgramCaptures (suc c) P → program_weight (lift P) ≤ normal_program_weight c P

-- made from a program of s nodes by the passes it weighs at most `63 * s * (4 + c)`: so the module has at most 640 bytes more than that
abbrev pub KnownIsSmall : Type 0
KnownIsSmall = (P : BoxProgram) (c : ℕ) → normal_program_weight c (to_anf P) ≤ 63 * program_nodes P * (4 + c)
