-- An evaluation of a lifted program of the form has the limits that emission asks for, within its call depth.
use Rattle.std.proofs.Common.{ℕ, zero, suc, ◌+◌, ◌≤◌, List, length, Bool, true, false, arith}
use Rattle.std.proofs.lemmas.Option.{slice_get_within}
use Rattle.std.specs.Prelude.{max}
use Rattle.anf_convert.specs.declared.program.Atom.{Atom}
use Rattle.closure_lift.specs.Lifted.{Op, Block, BranchBlocks, Program, Val, Vals, BranchAt, branch_here, branch_after}
use Rattle.closure_lift.specs.Lifted as lifted
use Rattle.anf_convert.specs.AnfForm.{AtomFits, AtomsFit}
use Rattle.closure_lift.specs.LiftedForm.{OpFits, LiftedBlockFits, BranchesFit, Formed, Limits}
use Rattle.wasm_emit.specs.CallDepth.{op_depth, block_depth, call_depth}
use Rattle.wasm_emit.proofs.Source.{Applies, applies_alone, applies_more, Is, is_var, is_box, is_empty, AllAre, are_none, are_more, Does, do_const, do_app, do_box_app, do_con, do_clos, do_case, Gets, gets_atom, gets_let_atom, gets_ret, gets_let}

pub atom_is : (n : ℕ) {e : Vals} {a : Atom} {v : Val} → AtomFits n a → lifted.Is e a v → Is e a v
atom_is n fit (lifted.is_var at) = is_var at
atom_is n fit lifted.is_box = is_box
atom_is n fit lifted.is_empty = is_empty fit

atoms_are : (n : ℕ) {e : Vals} {as' : List Atom} {vs : Vals} → AtomsFit n as' → lifted.AllAre e as' vs → AllAre e as' vs
atoms_are n fit lifted.are_none = are_none
atoms_are n fit (lifted.are_more h hs) = are_more (atom_is n fit.0 h) (atoms_are n fit.1 hs)

module _ (P : Program) (w m : ℕ) where
  -- a greater depth
  mutual
    pub raise_op : {tail : Bool} {D : ℕ} {e : Vals} {op : Op} {v : Val} {c k b s : ℕ} → Does P w m tail D e op v c k b s → (D' : ℕ) → D ≤ D' → Does P w m tail D' e op v c k b s
    raise_op (do_const {tail = true} at g) D' le = do_const {tail = true} at (raise g D' le)
    raise_op (do_app {tail = true} isf isa at sz g) D' le = do_app {tail = true} isf isa at sz (raise g D' le)
    raise_op (do_const {tail = false} at g) zero le = absurd (omega arith)
    raise_op (do_const {tail = false} at g) (suc D') le = do_const {tail = false} at (raise g D' (omega arith))
    raise_op (do_app {tail = false} isf isa at sz g) zero le = absurd (omega arith)
    raise_op (do_app {tail = false} isf isa at sz g) (suc D') le = do_app {tail = false} isf isa at sz (raise g D' (omega arith))
    raise_op (do_box_app isf isa) D' le = do_box_app isf isa
    raise_op (do_con lt pos few narrow all) D' le = do_con lt pos few narrow all
    raise_op (do_clos lt few narrow all) D' le = do_clos lt few narrow all
    raise_op (do_case isa few at g) D' le = do_case isa few at (raise g D' le)

    pub raise : {tail : Bool} {D : ℕ} {e : Vals} {t : Block} {v : Val} {c k b s : ℕ} → Gets P w m tail D e t v c k b s → (D' : ℕ) → D ≤ D' → Gets P w m tail D' e t v c k b s
    raise (gets_atom is) D' le = gets_atom is
    raise (gets_let_atom is g) D' le = gets_let_atom is (raise g D' le)
    raise (gets_ret d) D' le = gets_ret (raise_op d D' le)
    raise (gets_let d g) D' le = gets_let (raise_op d D' le) (raise g D' le)

  branch_fits : (n : ℕ) {i j : ℕ} {bs : BranchBlocks} {t : Block} → BranchesFit P.functions (length P.constants) m n bs → BranchAt bs i j t → LiftedBlockFits P.functions (length P.constants) m (j + n) t
  branch_fits n fit branch_here = fit.1
  branch_fits n fit (branch_after at) = branch_fits n fit.2 at

  module _ (ok : Formed P m) (limits : Limits P) where
    mutual
      pub staged_op : {e : Vals} {op : Op} {v : Val} {c k b s : ℕ} (n : ℕ) (tail : Bool) → OpFits P.functions (length P.constants) m n op → (h : lifted.Does P w e op v c k b s) → Does P w m tail (op_depth tail h) e op v c k b s
      staged_op n tail fit (lifted.do_const {x = x} {t = t} at g) = do_const at (staged 0 true (ok.constants x t at) g)
      staged_op n tail fit (lifted.do_app {g = g} {fn = fn} isf isa at sz d) = do_app (atom_is n fit.0 isf) (atom_is n fit.1 isa) at sz (staged (suc fn.captured) true (ok.functions g fn at) d)
      staged_op n tail fit (lifted.do_box_app isf isa) = do_box_app (atom_is n fit.0 isf) (atom_is n fit.1 isa)
      staged_op n tail fit (lifted.do_con narrow all) = do_con fit.0 fit.1 fit.2 narrow (atoms_are n fit.3 all)
      staged_op n tail fit (lifted.do_clos {g = g} narrow all) =
          let takes = fit.0 in
          let small = limits.captured g takes.fn takes.at in
          let within = slice_get_within P.functions g takes.fn takes.at in
          let few = limits.few in
          let words = takes.words in
          do_clos (omega arith) (omega arith) narrow (atoms_are n fit.1 all)
      staged_op n tail fit (lifted.do_case isa at d) = do_case (atom_is n fit.0 isa) fit.1 at (staged (_ + n) tail (branch_fits n fit.2 at) d)

      pub staged : {e : Vals} {t : Block} {v : Val} {c k b s : ℕ} (n : ℕ) (tail : Bool) → LiftedBlockFits P.functions (length P.constants) m n t → (h : lifted.Gets P w e t v c k b s) → Gets P w m tail (block_depth tail h) e t v c k b s
      staged n tail fit (lifted.gets_atom is) = gets_atom (atom_is n fit is)
      staged n tail fit (lifted.gets_let_atom is g) = gets_let_atom (atom_is n fit.0 is) (staged (suc n) tail fit.1 g)
      staged n tail fit (lifted.gets_ret d) = gets_ret (staged_op n tail fit d)
      staged n tail fit (lifted.gets_let d g) =
          let D = max (op_depth false d) (block_depth tail g) in
          gets_let (raise_op (staged_op n false fit.0 d) D (omega arith)) (raise (staged (suc n) tail fit.1 g) D (omega arith))

module _ (P : Program) (w m : ℕ) (ok : Formed P m) (limits : Limits P) where
  raise_all : {D : ℕ} {args : Vals} {v : Val} {c k b s : ℕ} → Applies P w m D args v c k b s → (D' : ℕ) → D ≤ D' → Applies P w m D' args v c k b s
  raise_all (applies_alone g) D' le = applies_alone (raise P w m g D' le)
  raise_all (applies_more h d) D' le = applies_more (raise_all h D' le) (raise_op P w m d D' le)

  pub staged_all : {args : Vals} {v : Val} {c k b s : ℕ} → (h : lifted.LiftedAnswers P w args v c k b s) → Applies P w m (call_depth h) args v c k b s
  staged_all (lifted.answers_alone g) = applies_alone (staged P w m ok limits 0 false ok.main g)
  staged_all (lifted.answers_applied h d) =
      let D = max (call_depth h) (op_depth false d) in
      applies_more (raise_all (staged_all h) D (omega arith)) (raise_op P w m (staged_op P w m ok limits 2 false (omega arith, omega arith) d) D (omega arith))
