-- The locals that the functions of a lifted program need are no more than the program in A-normal form has operations and variables of fixpoints.
use Rattle.std.proofs.Common.{◌≡◌, ℕ, suc, ◌+◌, ◌-◌, ◌≤◌, List, [], ◌∷◌, ◌++◌, map, arith}
use Rattle.std.specs.Prelude.{get_or}
use Rattle.anf_convert.specs.declared.program.Atom.{Atom}
use Rattle.anf_convert.specs.declared.program.Atom.TheVariants.{Var as AVar, Box as ABox, Empty as AEmpty}
use Rattle.anf_convert.specs.Anf.{AnfOp, ConstOp, AppOp, ConOp, LamOp, FixOp, CaseOp, AnfBlock, TailAtom, Tail, BindAtom, Bind, AnfBranches, NoBranch, Branch, AnfDefs, NoDef, LamDef, BoxDef, AnfProgram, def_count}
use Rattle.anf_convert.specs.Captured.{Scope, Outside, Plain, depth, Entry, Unbound, Word, Words, entry, plains, shares, lam_captured, fix_captured}
use Rattle.closure_lift.specs.Lifted.{Op, ClosOp, Block, BranchBlocks, Fn}
use Rattle.closure_lift.specs.Lifted as lifted
use Rattle.closure_lift.specs.Lift.{LiftSlot, Holds, Made, atom, closure_for, closure, closures, atoms_of, block_functions, op_functions, numbered, unnumbered, holding, lift_op, lift_block, lift_branches, def_functions, functions_op, functions_block, functions_branches, functions_defs, lift_constants, functions_constants, constants_functions, lift}
use Rattle.wasm_core.specs.ModuleCondition.{All}
use Rattle.wasm_emit.specs.EmittedLocals.{top, top_op, top_branches}
use Rattle.wasm_emit.specs.EmittedBodies.{FewInFunction, FewInBlock, FewLocals}

-- one local for each operation that is bound, block that is made, and match
abbrev mutual
  op_locals : Op → ℕ
  op_locals (lifted.ConstOp x) = 1
  op_locals (lifted.AppOp f a) = 1
  op_locals (lifted.ConOp c as') = 1
  op_locals (ClosOp g as') = 1
  op_locals (lifted.CaseOp a bs) = 1 + branches_locals bs

  block_locals : Block → ℕ
  block_locals (lifted.TailAtom a) = 0
  block_locals (lifted.BindAtom a t) = 1 + block_locals t
  block_locals (lifted.Tail x) = op_locals x
  block_locals (lifted.Bind x t) = op_locals x + block_locals t

  branches_locals : BranchBlocks → ℕ
  branches_locals lifted.NoBranch = 0
  branches_locals (lifted.Branch n t bs) = block_locals t + branches_locals bs

op_some : (x : Op) → 1 ≤ op_locals x
op_some (lifted.ConstOp x) = omega arith
op_some (lifted.AppOp f a) = omega arith
op_some (lifted.ConOp c as') = omega arith
op_some (ClosOp g as') = omega arith
op_some (lifted.CaseOp a bs) = omega arith

mutual
  op_top : (d : ℕ) (x : Op) → top_op d x ≤ d + op_locals x
  op_top d (lifted.ConstOp x) = omega arith
  op_top d (lifted.AppOp f a) = omega arith
  op_top d (lifted.ConOp c as') = omega arith
  op_top d (ClosOp g as') = omega arith
  op_top d (lifted.CaseOp a bs) = omega (arith, branches_top (suc d) bs)

  block_top : (d : ℕ) (t : Block) → top d t ≤ d + block_locals t
  block_top d (lifted.TailAtom a) = omega arith
  block_top d (lifted.BindAtom a t) = omega (arith, block_top (suc d) t)
  block_top d (lifted.Tail x) = op_top d x
  block_top d (lifted.Bind x t) = omega (arith, op_top d x, block_top (suc d) t, op_some x)

  branches_top : (d : ℕ) (bs : BranchBlocks) → top_branches d bs ≤ d + branches_locals bs
  branches_top d lifted.NoBranch = omega arith
  branches_top d (lifted.Branch n t bs) = omega (arith, block_top d t, branches_top d bs)

abbrev functions_locals : List Fn → ℕ
functions_locals [] = 0
functions_locals (f ∷ fs) = block_locals f.body + functions_locals fs

abbrev constants_locals : List Block → ℕ
constants_locals [] = 0
constants_locals (t ∷ ts) = block_locals t + constants_locals ts

functions_few : (fs : List Fn) → functions_locals fs ≤ 50000 → All FewInFunction fs
functions_few [] le = tt
functions_few (f ∷ fs) le = (omega (arith, block_top 2 f.body), functions_few fs (omega arith))

constants_few : (ts : List Block) → constants_locals ts ≤ 50000 → All FewInBlock ts
constants_few [] le = tt
constants_few (t ∷ ts) le = (omega (arith, block_top 0 t), constants_few ts (omega arith))

functions_join : (fs gs : List Fn) → functions_locals (fs ++ gs) ≡ functions_locals fs + functions_locals gs
functions_join [] gs = omega arith
functions_join (f ∷ fs) gs = omega (arith, functions_join fs gs)

-- a closure is made for a fixpoint's variable
abbrev pub entry_locals : Entry → ℕ
entry_locals Unbound = 0
entry_locals (Word x) = 0
entry_locals (Words ws) = 1

abbrev pub atom_locals : Scope → Atom → ℕ
atom_locals s (AVar i) = entry_locals (entry s i)
atom_locals s ABox = 0
atom_locals s (AEmpty k) = 0

abbrev pub atoms_locals : Scope → List Atom → ℕ
atoms_locals s [] = 0
atoms_locals s (a ∷ as') = atom_locals s a + atoms_locals s as'

-- the same of programs in A-normal form, the functions inside counted with the code
abbrev mutual
  pub normal_op_locals : Scope → AnfOp → ℕ
  normal_op_locals s (ConstOp x) = 1
  normal_op_locals s (AppOp f a) = 1 + atoms_locals s (f ∷ a ∷ [])
  normal_op_locals s (ConOp k as') = 1 + atoms_locals s as'
  normal_op_locals s (LamOp b) = 1 + normal_locals (Plain s) b
  normal_op_locals s (FixOp ds i) = 1 + normal_defs_locals (shares (fix_captured s ds) (def_count ds) s) ds
  normal_op_locals s (CaseOp a bs) = 1 + atoms_locals s (a ∷ []) + normal_branches_locals s bs

  pub normal_locals : Scope → AnfBlock → ℕ
  normal_locals s (TailAtom a) = atoms_locals s (a ∷ [])
  normal_locals s (Tail op) = normal_op_locals s op
  normal_locals s (BindAtom a t) = 1 + atoms_locals s (a ∷ []) + normal_locals (Plain s) t
  normal_locals s (Bind op t) = normal_op_locals s op + normal_locals (Plain s) t

  pub normal_branches_locals : Scope → AnfBranches → ℕ
  normal_branches_locals s NoBranch = 0
  normal_branches_locals s (Branch n t rest) = normal_locals (plains n s) t + normal_branches_locals s rest

  pub normal_defs_locals : Scope → AnfDefs → ℕ
  normal_defs_locals s NoDef = 0
  normal_defs_locals s (LamDef b rest) = normal_locals (Plain s) b + normal_defs_locals s rest
  normal_defs_locals s (BoxDef rest) = normal_defs_locals s rest

abbrev pub normal_constants_locals : List AnfBlock → ℕ
normal_constants_locals [] = 0
normal_constants_locals (t ∷ ts) = normal_locals Outside t + normal_constants_locals ts

for_few : (fr : List LiftSlot) (i g n : ℕ) (k : Entry) (next : List LiftSlot → Block) → ((fr' : List LiftSlot) → block_locals (next fr') ≤ n) → block_locals (closure_for fr i g k next) ≤ entry_locals k + n
for_few fr i g n Unbound next h = omega (arith, h fr)
for_few fr i g n (Word x) next h = omega (arith, h fr)
for_few fr i g n (Words ws) next h = omega (arith, h (Made i ∷ fr))

closure_few : (s : Scope) (gs : List ℕ) (fr : List LiftSlot) (n : ℕ) (a : Atom) (next : List LiftSlot → Block) → ((fr' : List LiftSlot) → block_locals (next fr') ≤ n) → block_locals (closure s gs fr a next) ≤ atom_locals s a + n
closure_few s gs fr n (AVar i) next h = for_few fr i (get_or gs i 0) n (entry s i) next h
closure_few s gs fr n ABox next h = omega (arith, h fr)
closure_few s gs fr n (AEmpty k) next h = omega (arith, h fr)

closures_few : (s : Scope) (gs : List ℕ) (fr : List LiftSlot) (n : ℕ) (as' : List Atom) (next : List LiftSlot → Block) → ((fr' : List LiftSlot) → block_locals (next fr') ≤ n) → block_locals (closures s gs fr as' next) ≤ atoms_locals s as' + n
closures_few s gs fr n [] next h = omega (arith, h fr)
closures_few s gs fr n (a ∷ as') next h =
    let r = closure_few s gs fr (atoms_locals s as' + n) a (λ fr'. closures s gs fr' as' next) (λ fr'. closures_few s gs fr' n as' next h) in
    omega (arith, r)

mutual
  op_few : (s : Scope) (gs : List ℕ) (fr : List LiftSlot) (g : ℕ) (op : AnfOp) → op_locals (lift_op s gs fr g op) + functions_locals (functions_op s gs g op) + atoms_locals s (atoms_of op) ≤ normal_op_locals s op
  op_few s gs fr g (ConstOp x) = omega arith
  op_few s gs fr g (AppOp f a) = omega arith
  op_few s gs fr g (ConOp k as') = omega arith
  op_few s gs fr g (LamOp b) = omega (arith, block_few (Plain s) (0 ∷ gs) (Holds (depth s) ∷ map (λ x. Holds x) (lam_captured s b)) (suc g) b)
  op_few s gs fr g (FixOp ds i) =
      let ws = fix_captured s ds in
      let n = def_count ds in
      let h = defs_few (shares ws n s) (numbered g n gs) ws (g + n) ds in
      omega (arith, h, functions_join (def_functions (shares ws n s) (numbered g n gs) ws (g + n) ds) (functions_defs (shares ws n s) (numbered g n gs) (g + n) ds))
  op_few s gs fr g (CaseOp a bs) = omega (arith, branches_few s gs fr g bs)

  block_few : (s : Scope) (gs : List ℕ) (fr : List LiftSlot) (g : ℕ) (t : AnfBlock) → block_locals (lift_block s gs fr g t) + functions_locals (functions_block s gs g t) ≤ normal_locals s t
  block_few s gs fr g (TailAtom a) = omega (arith, closures_few s gs fr 0 (a ∷ []) (λ fr'. lifted.TailAtom (atom s fr' a)) (λ fr'. omega arith))
  block_few s gs fr g (Tail op) =
      let n = normal_op_locals s op - functions_locals (functions_op s gs g op) - atoms_locals s (atoms_of op) in
      let r = closures_few s gs fr n (atoms_of op) (λ fr'. lifted.Tail (lift_op s gs fr' g op)) (λ fr'. omega (arith, op_few s gs fr' g op)) in
      omega (arith, r, op_few s gs fr g op)
  block_few s gs fr g (BindAtom a t) =
      let next = λ (fr' : List LiftSlot). lift_block (Plain s) (0 ∷ gs) (Holds (depth s) ∷ fr') g t in
      let n = 1 + normal_locals (Plain s) t - functions_locals (functions_block (Plain s) (0 ∷ gs) g t) in
      let r = closures_few s gs fr n (a ∷ []) (λ fr'. lifted.BindAtom (atom s fr' a) (next fr')) (λ fr'. omega (arith, block_few (Plain s) (0 ∷ gs) (Holds (depth s) ∷ fr') g t)) in
      omega (arith, r, block_few (Plain s) (0 ∷ gs) (Holds (depth s) ∷ fr) g t)
  block_few s gs fr g (Bind op t) =
      let g' = g + op_functions op in
      let next = λ (fr' : List LiftSlot). lift_block (Plain s) (0 ∷ gs) (Holds (depth s) ∷ fr') g' t in
      let first = functions_locals (functions_op s gs g op) in
      let second = functions_locals (functions_block (Plain s) (0 ∷ gs) g' t) in
      let n = normal_op_locals s op + normal_locals (Plain s) t - first - second - atoms_locals s (atoms_of op) in
      let r = closures_few s gs fr n (atoms_of op) (λ fr'. lifted.Bind (lift_op s gs fr' g op) (next fr')) (λ fr'. omega (arith, op_few s gs fr' g op, block_few (Plain s) (0 ∷ gs) (Holds (depth s) ∷ fr') g' t)) in
      omega (arith, r, op_few s gs fr g op, block_few (Plain s) (0 ∷ gs) (Holds (depth s) ∷ fr) g' t, functions_join (functions_op s gs g op) (functions_block (Plain s) (0 ∷ gs) g' t))

  branches_few : (s : Scope) (gs : List ℕ) (fr : List LiftSlot) (g : ℕ) (bs : AnfBranches) → branches_locals (lift_branches s gs fr g bs) + functions_locals (functions_branches s gs g bs) ≤ normal_branches_locals s bs
  branches_few s gs fr g NoBranch = omega arith
  branches_few s gs fr g (Branch n t rest) =
      omega (arith, block_few (plains n s) (unnumbered n gs) (holding n s fr) g t, branches_few s gs fr (g + block_functions t) rest, functions_join (functions_block (plains n s) (unnumbered n gs) g t) (functions_branches s gs (g + block_functions t) rest))

  defs_few : (s : Scope) (gs ws : List ℕ) (g : ℕ) (ds : AnfDefs) → functions_locals (def_functions s gs ws g ds) + functions_locals (functions_defs s gs g ds) ≤ normal_defs_locals s ds
  defs_few s gs ws g NoDef = omega arith
  defs_few s gs ws g (LamDef b rest) =
      omega (arith, block_few (Plain s) (0 ∷ gs) (Holds (depth s) ∷ map (λ x. Holds x) ws) g b, defs_few s gs ws (g + block_functions b) rest, functions_join (functions_block (Plain s) (0 ∷ gs) g b) (functions_defs s gs (g + block_functions b) rest))
  defs_few s gs ws g (BoxDef rest) = omega (arith, defs_few s gs ws g rest)

code_few : (g : ℕ) (ts : List AnfBlock) → constants_locals (lift_constants g ts) + functions_locals (functions_constants g ts) ≤ normal_constants_locals ts
code_few g [] = omega arith
code_few g (t ∷ ts) =
    omega (arith, block_few Outside [] [] g t, code_few (g + block_functions t) ts, functions_join (functions_block Outside [] g t) (functions_constants (g + block_functions t) ts))

pub few_locals : (P : AnfProgram) → normal_constants_locals P.constants + normal_locals Outside P.main ≤ 50000 → FewLocals (lift P)
few_locals P le =
    let g = constants_functions P.constants in
    let fs = functions_constants 0 P.constants in
    let gs = functions_block Outside [] g P.main in
    let main = block_few Outside [] [] g P.main in
    let all = code_few 0 P.constants in
    record {
      functions = functions_few (fs ++ gs) (omega (arith, main, all, functions_join fs gs));
      constants = constants_few (lift_constants 0 P.constants) (omega (arith, main, all));
      main = omega (arith, main, block_top 0 (lift_block Outside [] [] g P.main));
    }
