-- Steps of the functions that push the instructions of modules with workers.
use Rattle.std.proofs.Common.{◌≡◌, ℕ, zero, suc, ◌+◌, ◌-◌, ◌*◌, ◌<◌, List, [], ◌∷◌, ◌++◌, length, reverse, drop, get_or, Option, Some, None, Bool, true, false, refl, ap, sym, ◌∙◌, arith}
use Rattle.std.proofs.lemmas.List.{length-drop, get_or-reverse, length-reverse, reverse-append}
use Rattle.std.specs.Prelude.{if◌then◌else◌}
use Rattle.anf_convert.specs.declared.program.Atom.{Atom}
use Rattle.closure_lift.specs.Lifted.{Op, Block, Program, Bound, AtomIs, OpIs, tail_of, block_of}
use Rattle.closure_lift.specs.LiftedProgram.{renumber_op, renumber, place_in, lifted_of}
use Rattle.closure_lift.specs.LiftedView.{seen, bounds_of}
use Rattle.closure_lift.specs.declared.program.Lifted.{Lifted}
use Rattle.closure_lift.specs.declared.program.LiftedBranch.{LiftedBranch}
use Rattle.closure_lift.specs.declared.program.LiftedOp.{LiftedOp}
use Rattle.wasm_core.specs.declared.instrs.I32Op.TheVariants as op32
use Rattle.wasm_core.specs.declared.instrs.Instr.{Instr}
use Rattle.wasm_core.specs.declared.instrs.Instr.TheVariants.{LocalGet, LocalSet, LocalTee, GlobalGet, GlobalSet, I32 as Operation}
use Rattle.wasm_emit.specs.EmittedCode.{ConstWord, StoreWord, ensure_room}
use Rattle.wasm_emit.specs.Pushed.{Pushed, renumber_bound}
use Rattle.known_calls.specs.KnownPlaces.{Place, At, InLocal, Times, is_read, is_twice, block_reads}
use Rattle.known_calls.specs.KnownCode.{Position, Inside, InTail, deeper, choose, known, into_params, atom, fill, new_block, into_local, moves, move_field, branch_places, op, code, Final}
use Rattle.known_calls.specs.KnownPushed.{under_position, bound_code, bound_unmade, place_bound, local_behind, bind_code, op_unmade, binding_code, block_code, branch_code}
use Rattle.known_calls.proofs.KnownMarking.{reads_renumbered}
use Rattle.trees.proofs.Lists.{next_is}

-- Positions.

pub under_one : (at : Position) → under_position 1 at ≡ deeper at
under_one Inside = refl
under_one Final = refl
under_one (InTail g n) = let e : n + 1 ≡ suc n = omega arith in ap (λ (k : ℕ). InTail g k) e

pub under_none : (at : Position) → under_position 0 at ≡ at
under_none Inside = refl
under_none Final = refl
under_none (InTail g n) = let e : n + 0 ≡ n = omega arith in ap (λ (k : ℕ). InTail g k) e

pub under_sum : (n k : ℕ) (at : Position) → under_position n (under_position k at) ≡ under_position (k + n) at
under_sum n k Inside = refl
under_sum n k Final = refl
under_sum n k (InTail g d) = let e : d + k + n ≡ d + (k + n) = omega arith in ap (λ (j : ℕ). InTail g j) e

-- A binding of a block, and its end.
module _ (P : Program) (f : ℕ → ℕ) (env : List Place) (d : ℕ) (at : Position) where
  chosen : (x : Op) (t : Block) (rest : List Instr) (o : Option Place) →
      choose o (λ q. code P (q ∷ env) d at t rest) (into_local env d x (op P env d Inside x) (code P (At (InLocal d) ∷ env) (suc d) at t rest)) ≡ bind_code P env d (OpIs x) o (code P (place_bound d o ∷ env) (local_behind d o) at t rest)
  chosen x t rest None = refl
  chosen x t rest (Some q) = refl

  made_atom : (a : Atom) (t : Block) (rest : List Instr) (b : Bool) →
      atom env a (LocalSet d ∷ code P (At (InLocal d) ∷ env) (suc d) at t rest) ≡ bind_code P env d (AtomIs a) (bound_unmade P env b (AtomIs a)) (code P (place_bound d (bound_unmade P env b (AtomIs a)) ∷ env) (local_behind d (bound_unmade P env b (AtomIs a))) at t rest)
  made_atom a t rest true = refl
  made_atom a t rest false = refl

  -- the rest of the block, behind the binding
  abbrev pub behind : Bool → Bound → List Bound → Block → List Instr → List Instr
  behind b x xs t rest = code P (place_bound d (bound_unmade P env b (renumber_bound f x)) ∷ env) (local_behind d (bound_unmade P env b (renumber_bound f x))) at (renumber f (block_of xs t)) rest

  pub code_step : (x : Bound) (xs : List Bound) (t : Block) (rest : List Instr) →
      code P env d at (renumber f (block_of (x ∷ xs) t)) rest ≡ bind_code P env d (renumber_bound f x) (bound_unmade P env (is_read (block_reads 0 (block_of xs t))) (renumber_bound f x)) (behind (is_read (block_reads 0 (block_of xs t))) x xs t rest)
  code_step (AtomIs a) xs t rest = made_atom a (renumber f (block_of xs t)) rest (is_read (block_reads 0 (block_of xs t)))
  code_step (OpIs x) xs t rest =
      ap (λ (r : Times). choose (if is_read r then None else known P env (renumber_op f x)) (λ q. code P (q ∷ env) d at (renumber f (block_of xs t)) rest)
      (into_local env d (renumber_op f x) (op P env d Inside (renumber_op f x)) (code P (At (InLocal d) ∷ env) (suc d) at (renumber f (block_of xs t)) rest))) (reads_renumbered f 0 (block_of xs t))
      ∙ chosen (renumber_op f x) (renumber f (block_of xs t)) rest (if is_read (block_reads 0 (block_of xs t)) then None else known P env (renumber_op f x))

  pub code_end : (x : Bound) (rest : List Instr) → code P env d at (renumber f (tail_of x)) rest ≡ bound_code P env d at (renumber_bound f x) rest
  code_end (AtomIs a) rest = refl
  code_end (OpIs x) rest = refl

-- a binding of a block was pushed
pub block_more : (Q : Lifted) (items : List LiftedOp) (i : ℕ) (o : LiftedOp) (t : Block) (ps ps2 : List Place) (d next : ℕ) (at : Position) (b : Bool) (old new out : List Instr) (g : List Instr → List Instr) → i < length items → o ≡ get_or items i o →
    b ≡ is_read (block_reads 0 (block_of (bounds_of (drop (i + 1) items)) t)) → ps2 ≡ ps ++ place_bound d (op_unmade Q (reverse ps) b (seen o)) ∷ [] → next ≡ local_behind d (op_unmade Q (reverse ps) b (seen o)) → Pushed old new (binding_code Q (reverse ps) d b (seen o)) →
    ((rest : List Instr) → old ++ block_code Q (reverse ps) d at (block_of (bounds_of (drop i items)) t) rest ≡ out ++ g rest) → (rest : List Instr) → new ++ block_code Q (reverse ps2) next at (block_of (bounds_of (drop (i + 1) items)) t) rest ≡ out ++ g rest
block_more Q items i o t ps ps2 d next at b old new out g lt is mark more after x inv rest =
    let xs = bounds_of (drop (i + 1) items) in
    let f = place_in Q.constants in
    let env : reverse ps2 ≡ place_bound d (op_unmade Q (reverse ps) b (seen o)) ∷ reverse ps = ap reverse more ∙ reverse-append ps (place_bound d (op_unmade Q (reverse ps) b (seen o)) ∷ []) in
    ap (λ (zs : List Place). new ++ block_code Q zs next at (block_of xs t) rest) env
    ∙ ap (λ (n : ℕ). new ++ block_code Q (place_bound d (op_unmade Q (reverse ps) b (seen o)) ∷ reverse ps) n at (block_of xs t) rest) after
    ∙ x.is (behind (lifted_of Q) f (reverse ps) d at b (seen o) xs t rest)
    ∙ ap (λ (c : Bool). old ++ bind_code (lifted_of Q) (reverse ps) d (renumber_bound f (seen o)) (bound_unmade (lifted_of Q) (reverse ps) c (renumber_bound f (seen o))) (behind (lifted_of Q) f (reverse ps) d at c (seen o) xs t rest)) mark
    ∙ ap (λ (zs : List Instr). old ++ zs) (sym (code_step (lifted_of Q) f (reverse ps) d at (seen o) xs t rest))
    ∙ ap (λ (os : List LiftedOp). old ++ block_code Q (reverse ps) d at (block_of (bounds_of os) t) rest) (sym (next_is items i o lt is))
    ∙ inv rest

-- A branch's code, where its field was moved or not.

moves_renumbered : (f : ℕ → ℕ) (n : ℕ) (t : Block) → moves n (renumber f t) ≡ moves n t
moves_renumbered f zero t = refl
moves_renumbered f (suc zero) t = ap is_twice (reads_renumbered f 0 t)
moves_renumbered f (suc (suc n)) t = refl

pub branch_pushed : (Q : Lifted) (env inner : List Place) (d first : ℕ) (at : Position) (b : LiftedBranch) (moved : Bool) (o0 o1 o2 : List Instr) → moved ≡ moves b.binders b.body → inner ≡ branch_places moved d b.binders env → first ≡ d + 1 →
    Pushed o0 o1 (move_field moved d) → Pushed o1 o2 (block_code Q inner first at b.body) → Pushed o0 o2 (branch_code Q env d at b)
branch_pushed Q env inner d first at b moved o0 o1 o2 em ep ef x y = record { is = is }
  where
    is : (rest : List Instr) → o2 ++ rest ≡ o0 ++ branch_code Q env d at b rest
    is rest =
        let t = renumber (place_in Q.constants) b.body in
        let g : first ≡ suc d = omega arith in
        y.is rest ∙ ap (λ (ps : List Place). o1 ++ code (lifted_of Q) ps first at t rest) ep ∙ ap (λ (k : ℕ). o1 ++ code (lifted_of Q) (branch_places moved d b.binders env) k at t rest) g
        ∙ x.is (code (lifted_of Q) (branch_places moved d b.binders env) (suc d) at t rest)
        ∙ ap (λ (z : Bool). o0 ++ move_field z d (code (lifted_of Q) (branch_places z d b.binders env) (suc d) at t rest)) (em ∙ sym (moves_renumbered (place_in Q.constants) b.binders b.body))

-- the next field of a block of memory
pub fill_step : (env : List Place) (d : ℕ) (slice atoms : List Atom) (k : ℕ) (a : Atom) (rest : List Instr) → reverse slice ≡ atoms → k < length slice → a ≡ get_or slice (length slice - 1 - k) a →
    fill env d (drop k atoms) rest ≡ LocalGet d ∷ atom env a (StoreWord (4 * (length slice - k)) ∷ fill env d (drop (k + 1) atoms) rest)
fill_step env d slice atoms k a rest same lt is =
    let size : length atoms ≡ length slice = sym (ap length same) ∙ length-reverse slice in
    let here : a ≡ get_or atoms k a = is ∙ sym (get_or-reverse slice k a lt) ∙ ap (λ (xs : List Atom). get_or xs k a) same in
    let more = next_is atoms k a (omega arith) here in
    let count = length-drop (k + 1) atoms in
    let bytes : 4 * suc (length (drop (k + 1) atoms)) ≡ 4 * (length slice - k) = omega arith in
    ap (λ (xs : List Atom). fill env d xs rest) more ∙ ap (λ (o : ℕ). LocalGet d ∷ atom env a (StoreWord o ∷ fill env d (drop (k + 1) atoms) rest)) bytes

-- a block of memory was made
pub block_pushed : (env : List Place) (d header bytes words : ℕ) (as' : List Atom) (o0 o1 o2 o3 o4 o5 : List Instr) → bytes ≡ 4 * words → words ≡ length as' + 1 →
    Pushed o0 o1 (λ rest. GlobalGet 2 ∷ LocalTee d ∷ ConstWord bytes ∷ Operation op32.Add ∷ GlobalSet 2 ∷ ensure_room rest) → Pushed o1 o2 (λ rest. LocalGet d ∷ rest) → Pushed o2 o3 (λ rest. ConstWord header ∷ rest) →
    Pushed o3 o4 (λ rest. StoreWord 0 ∷ rest) → Pushed o4 o5 (fill env d as') → Pushed o0 o5 (new_block env d header as')
block_pushed env d header bytes words as' o0 o1 o2 o3 o4 o5 eb ew x0 x1 x2 x3 x4 = record { is = is }
  where
    is : (rest : List Instr) → o5 ++ rest ≡ o0 ++ new_block env d header as' rest
    is rest =
        let e : bytes ≡ 4 * suc (length as') = omega arith in
        let i3 : List Instr = fill env d as' rest in
        let i2 : List Instr = StoreWord 0 ∷ i3 in
        let i1 : List Instr = ConstWord header ∷ i2 in
        let i0 : List Instr = LocalGet d ∷ i1 in
        x4.is rest ∙ x3.is i3 ∙ x2.is i2 ∙ x1.is i1 ∙ x0.is i0 ∙ ap (λ (k : ℕ). o0 ++ (GlobalGet 2 ∷ LocalTee d ∷ ConstWord k ∷ Operation op32.Add ∷ GlobalSet 2 ∷ ensure_room i0)) e

-- a field of a block of memory was stored
pub field_pushed : {a : Atom} (env : List Place) (d : ℕ) (slice atoms : List Atom) (k offset : ℕ) (o0 o1 o2 o3 out : List Instr) (g : List Instr → List Instr) → reverse slice ≡ atoms → k < length slice → offset ≡ 4 * (length slice - k) →
    Pushed o0 o1 (λ rest. LocalGet d ∷ rest) → Pushed o1 o2 (atom env a) → Pushed o2 o3 (λ rest. StoreWord offset ∷ rest) → a ≡ get_or slice (length slice - 1 - k) a →
    ((rest : List Instr) → o0 ++ fill env d (drop k atoms) rest ≡ out ++ g rest) → (rest : List Instr) → o3 ++ fill env d (drop (k + 1) atoms) rest ≡ out ++ g rest
field_pushed {a} env d slice atoms k offset o0 o1 o2 o3 out g same lt e x0 x1 x2 is inv rest =
    let more : List Instr = fill env d (drop (k + 1) atoms) rest in
    x2.is more ∙ x1.is (StoreWord offset ∷ more) ∙ x0.is (atom env a (StoreWord offset ∷ more))
    ∙ ap (λ (o : ℕ). o0 ++ (LocalGet d ∷ atom env a (StoreWord o ∷ more))) e
    ∙ ap (λ (zs : List Instr). o0 ++ zs) (sym (fill_step env d slice atoms k a rest same lt is))
    ∙ inv rest

-- the next parameter
pub params_step : (n k : ℕ) (rest : List Instr) → k < n → into_params (n - k) rest ≡ LocalSet (n - k) ∷ into_params (n - (k + 1)) rest
params_step n k rest lt =
    let e : n - k ≡ suc (n - (k + 1)) = omega arith in
    ap (λ (j : ℕ). into_params j rest) e ∙ ap (λ (j : ℕ). LocalSet j ∷ into_params (n - (k + 1)) rest) (sym e)
