-- A lifted program is no heavier than the program in A-normal form, by the weights of modules with workers.
use Rattle.std.proofs.Common.{◌≡◌, ℕ, zero, suc, ◌+◌, ◌-◌, ◌≤◌, List, [], ◌∷◌, ◌++◌, length, map, arith}
use Rattle.std.proofs.lemmas.List.{length-map}
use Rattle.std.specs.Prelude.{get_or}
use Rattle.anf_convert.specs.declared.program.Atom.{Atom}
use Rattle.anf_convert.specs.declared.program.Atom.TheVariants.{Var as AVar, Box as ABox, Empty as AEmpty}
use Rattle.anf_convert.specs.Anf.{AnfOp, ConstOp, AppOp, ConOp, LamOp, FixOp, CaseOp, AnfBlock, TailAtom, Tail, BindAtom, Bind, AnfBranches, NoBranch, Branch, AnfDefs, NoDef, LamDef, BoxDef, def_count}
use Rattle.anf_convert.specs.Captured.{Scope, Outside, Plain, Shared, depth, Entry, Unbound, Word, Words, entry, plains, shares, lam_captured, fix_captured}
use Rattle.closure_lift.specs.Lifted.{Block, Fn}
use Rattle.closure_lift.specs.Lifted as lifted
use Rattle.closure_lift.specs.Lift.{LiftSlot, Holds, Made, held, atom, closure_for, closure, closures, atoms_of, block_functions, op_functions, numbered, unnumbered, holding, lift_op, lift_block, lift_branches, def_functions, functions_op, functions_block, functions_branches, functions_defs, lift_constants, functions_constants, constants_functions}
use Rattle.closure_lift.specs.CapturedLimit.{OpCaptures, BlockCaptures, BranchesCapture, DefsCapture, BlocksCapture}
use Rattle.known_calls.specs.KnownWeight.{atom_weight, atoms_weight, op_weight, weight, branches_weight, functions_weight, constants_weight, normal_op_weight, normal_weight, normal_branches_weight, normal_defs_weight, normal_constants_weight, LiftedIsLight}

functions_join : (fs gs : List Fn) → functions_weight (fs ++ gs) ≡ functions_weight fs + functions_weight gs
functions_join [] gs = omega arith
functions_join (f ∷ fs) gs = omega (arith, functions_join fs gs)

module _ (c : ℕ) where
  abbrev EntryFew : Entry → Type 0
  EntryFew Unbound = Unit {0}
  EntryFew (Word x) = Unit {0}
  EntryFew (Words ws) = length ws ≤ c

  -- each fixpoint around has few captured words
  abbrev ScopeFew : Scope → Type 0
  ScopeFew Outside = Unit {0}
  ScopeFew (Plain s) = ScopeFew s
  ScopeFew (Shared ws s) = (length ws ≤ c) × ScopeFew s

  entry_few : (s : Scope) (i : ℕ) → ScopeFew s → EntryFew (entry s i)
  entry_few Outside i h = tt
  entry_few (Plain s) zero h = tt
  entry_few (Plain s) (suc i) h = entry_few s i h
  entry_few (Shared ws s) zero h = h.0
  entry_few (Shared ws s) (suc i) h = entry_few s i h.1

  plains_few : (n : ℕ) (s : Scope) → ScopeFew s → ScopeFew (plains n s)
  plains_few zero s h = h
  plains_few (suc n) s h = plains_few n s h

  shares_few : (ws : List ℕ) (n : ℕ) (s : Scope) → length ws ≤ c → ScopeFew s → ScopeFew (shares ws n s)
  shares_few ws zero s l h = h
  shares_few ws (suc n) s l h = (l, shares_few ws n s l h)

  -- the closures in front of an operation
  for_light : (fr : List LiftSlot) (i g n : ℕ) (k : Entry) (next : List LiftSlot → Block) → EntryFew k → ((fr' : List LiftSlot) → weight (next fr') ≤ n) → weight (closure_for fr i g k next) ≤ atom_weight c + n
  for_light fr i g n Unbound next few h = omega (arith, h fr)
  for_light fr i g n (Word x) next few h = omega (arith, h fr)
  for_light fr i g n (Words ws) next few h = omega (arith, few, h (Made i ∷ fr), length-map ws (held fr))

  closure_light : (s : Scope) (gs : List ℕ) (fr : List LiftSlot) (n : ℕ) (a : Atom) (next : List LiftSlot → Block) → ScopeFew s → ((fr' : List LiftSlot) → weight (next fr') ≤ n) → weight (closure s gs fr a next) ≤ atom_weight c + n
  closure_light s gs fr n (AVar i) next few h = for_light fr i (get_or gs i 0) n (entry s i) next (entry_few s i few) h
  closure_light s gs fr n ABox next few h = omega (arith, h fr)
  closure_light s gs fr n (AEmpty k) next few h = omega (arith, h fr)

  closures_light : (s : Scope) (gs : List ℕ) (fr : List LiftSlot) (n : ℕ) (as' : List Atom) (next : List LiftSlot → Block) → ScopeFew s → ((fr' : List LiftSlot) → weight (next fr') ≤ n) → weight (closures s gs fr as' next) ≤ atoms_weight c as' + n
  closures_light s gs fr n [] next few h = omega (arith, h fr)
  closures_light s gs fr n (a ∷ as') next few h =
      let r = closure_light s gs fr (atoms_weight c as' + n) a (λ fr'. closures s gs fr' as' next) few (λ fr'. closures_light s gs fr' n as' next few h) in
      omega (arith, r)

  mutual
    op_light : (s : Scope) (gs : List ℕ) (fr : List LiftSlot) (g : ℕ) (op : AnfOp) → ScopeFew s → OpCaptures (suc c) s op →
        op_weight (lift_op s gs fr g op) + functions_weight (functions_op s gs g op) + atoms_weight c (atoms_of op) ≤ normal_op_weight c op
    op_light s gs fr g (ConstOp x) few ok = omega arith
    op_light s gs fr g (AppOp f a) few ok = omega arith
    op_light s gs fr g (ConOp k as') few ok = omega (arith, length-map as' (atom s fr))
    op_light s gs fr g (LamOp b) few ok =
        let ws = lam_captured s b in
        let h = block_light (Plain s) (0 ∷ gs) (Holds (depth s) ∷ map (λ x. Holds x) ws) (suc g) b few ok.1 in
        let l = ok.0 in
        omega (arith, h, l, length-map ws (held fr))
    op_light s gs fr g (FixOp ds i) few ok =
        let ws = fix_captured s ds in
        let n = def_count ds in
        let l = ok.0 in
        let h = defs_light (shares ws n s) (numbered g n gs) ws (g + n) ds (shares_few ws n s (omega (arith, l)) few) ok.1 in
        let j = functions_join (def_functions (shares ws n s) (numbered g n gs) ws (g + n) ds) (functions_defs (shares ws n s) (numbered g n gs) (g + n) ds) in
        omega (arith, h, j, l, length-map ws (held fr))
    op_light s gs fr g (CaseOp a bs) few ok = omega (arith, branches_light s gs fr g bs few ok)

    block_light : (s : Scope) (gs : List ℕ) (fr : List LiftSlot) (g : ℕ) (t : AnfBlock) → ScopeFew s → BlockCaptures (suc c) s t →
        weight (lift_block s gs fr g t) + functions_weight (functions_block s gs g t) ≤ normal_weight c t
    block_light s gs fr g (TailAtom a) few ok = omega (arith, closures_light s gs fr 8 (a ∷ []) (λ fr'. lifted.TailAtom (atom s fr' a)) few (λ fr'. omega arith))
    block_light s gs fr g (Tail op) few ok =
        let inner = functions_weight (functions_op s gs g op) in
        let n = normal_op_weight c op - inner - atoms_weight c (atoms_of op) in
        let r = closures_light s gs fr n (atoms_of op) (λ fr'. lifted.Tail (lift_op s gs fr' g op)) few (λ fr'. omega (arith, op_light s gs fr' g op few ok)) in
        omega (arith, r, op_light s gs fr g op few ok)
    block_light s gs fr g (BindAtom a t) few ok =
        let next = λ (fr' : List LiftSlot). lift_block (Plain s) (0 ∷ gs) (Holds (depth s) ∷ fr') g t in
        let n = 12 + normal_weight c t - functions_weight (functions_block (Plain s) (0 ∷ gs) g t) in
        let r = closures_light s gs fr n (a ∷ []) (λ fr'. lifted.BindAtom (atom s fr' a) (next fr')) few (λ fr'. omega (arith, block_light (Plain s) (0 ∷ gs) (Holds (depth s) ∷ fr') g t few ok)) in
        omega (arith, r, block_light (Plain s) (0 ∷ gs) (Holds (depth s) ∷ fr) g t few ok)
    block_light s gs fr g (Bind op t) few ok =
        let g' = g + op_functions op in
        let next = λ (fr' : List LiftSlot). lift_block (Plain s) (0 ∷ gs) (Holds (depth s) ∷ fr') g' t in
        let first = functions_weight (functions_op s gs g op) in
        let second = functions_weight (functions_block (Plain s) (0 ∷ gs) g' t) in
        let n = 4 + normal_op_weight c op + normal_weight c t - first - second - atoms_weight c (atoms_of op) in
        let r = closures_light s gs fr n (atoms_of op) (λ fr'. lifted.Bind (lift_op s gs fr' g op) (next fr')) few
        (λ fr'. omega (arith, op_light s gs fr' g op few ok.0, block_light (Plain s) (0 ∷ gs) (Holds (depth s) ∷ fr') g' t few ok.1)) in
        omega (arith, r, op_light s gs fr g op few ok.0, block_light (Plain s) (0 ∷ gs) (Holds (depth s) ∷ fr) g' t few ok.1, functions_join (functions_op s gs g op) (functions_block (Plain s) (0 ∷ gs) g' t))

    branches_light : (s : Scope) (gs : List ℕ) (fr : List LiftSlot) (g : ℕ) (bs : AnfBranches) → ScopeFew s → BranchesCapture (suc c) s bs →
        branches_weight (lift_branches s gs fr g bs) + functions_weight (functions_branches s gs g bs) ≤ normal_branches_weight c bs
    branches_light s gs fr g NoBranch few ok = omega arith
    branches_light s gs fr g (Branch n t rest) few ok =
        let h = block_light (plains n s) (unnumbered n gs) (holding n s fr) g t (plains_few n s few) ok.0 in
        let hs = branches_light s gs fr (g + block_functions t) rest few ok.1 in
        omega (arith, h, hs, functions_join (functions_block (plains n s) (unnumbered n gs) g t) (functions_branches s gs (g + block_functions t) rest))

    defs_light : (s : Scope) (gs ws : List ℕ) (g : ℕ) (ds : AnfDefs) → ScopeFew s → DefsCapture (suc c) s ds →
        functions_weight (def_functions s gs ws g ds) + functions_weight (functions_defs s gs g ds) ≤ normal_defs_weight c ds
    defs_light s gs ws g NoDef few ok = omega arith
    defs_light s gs ws g (LamDef b rest) few ok =
        let h = block_light (Plain s) (0 ∷ gs) (Holds (depth s) ∷ map (λ x. Holds x) ws) g b few ok.0 in
        let hs = defs_light s gs ws (g + block_functions b) rest few ok.1 in
        omega (arith, h, hs, functions_join (functions_block (Plain s) (0 ∷ gs) g b) (functions_defs s gs (g + block_functions b) rest))
    defs_light s gs ws g (BoxDef rest) few ok = omega (arith, defs_light s gs ws g rest few ok)

  constants_light : (g : ℕ) (ts : List AnfBlock) → BlocksCapture (suc c) ts → constants_weight (lift_constants g ts) + functions_weight (functions_constants g ts) ≤ normal_constants_weight c ts
  constants_light g [] ok = omega arith
  constants_light g (t ∷ ts) ok =
      let h = block_light Outside [] [] g t tt ok.0 in
      let hs = constants_light (g + block_functions t) ts ok.1 in
      omega (arith, h, hs, functions_join (functions_block Outside [] g t) (functions_constants (g + block_functions t) ts))

pub lifted_is_light : LiftedIsLight
lifted_is_light P c ok =
    let g = constants_functions P.constants in
    omega (arith, constants_light c 0 P.constants ok.constants, block_light c Outside [] [] g P.main tt ok.main, functions_join (functions_constants 0 P.constants) (functions_block Outside [] g P.main))
