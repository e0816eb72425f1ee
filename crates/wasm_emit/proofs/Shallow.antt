-- Each call is a contraction: so no more calls stand in one another than an evaluation has contractions.
use Rattle.std.proofs.Common.{ℕ, ◌≤◌, Bool, true, false, arith}
use Rattle.closure_lift.specs.Lifted.{Op, Block, Program, Val, Vals, Does, do_const, do_app, do_box_app, do_con, do_clos, do_case, Gets, gets_atom, gets_let_atom, gets_ret, gets_let, LiftedAnswers, answers_alone, answers_applied}
use Rattle.wasm_emit.specs.CallDepth.{op_depth, block_depth, call_depth, CallsAreContractions}

module _ {P : Program} {w : ℕ} where
  mutual
    op_few : {e : Vals} {op : Op} {v : Val} {c k b l : ℕ} (tail : Bool) (h : Does P w e op v c k b l) → op_depth tail h ≤ c
    op_few true (do_const at g) = omega (arith, block_few true g)
    op_few false (do_const at g) = omega (arith, block_few true g)
    op_few true (do_app isf isa at sz g) = omega (arith, block_few true g)
    op_few false (do_app isf isa at sz g) = omega (arith, block_few true g)
    op_few tail (do_box_app isf isa) = omega arith
    op_few tail (do_con narrow all) = omega arith
    op_few tail (do_clos narrow all) = omega arith
    op_few tail (do_case isa at g) = omega (arith, block_few tail g)

    block_few : {e : Vals} {t : Block} {v : Val} {c k b l : ℕ} (tail : Bool) (h : Gets P w e t v c k b l) → block_depth tail h ≤ c
    block_few tail (gets_atom is) = omega arith
    block_few tail (gets_let_atom is g) = omega (arith, block_few tail g)
    block_few tail (gets_ret d) = op_few tail d
    block_few tail (gets_let d g) = omega (arith, op_few false d, block_few tail g)

  pub few_calls : {args : Vals} {v : Val} {c k b l : ℕ} (h : LiftedAnswers P w args v c k b l) → call_depth h ≤ c
  few_calls (answers_alone g) = block_few false g
  few_calls (answers_applied h d) = omega (arith, few_calls h, op_few false d)

pub calls_are_contractions : CallsAreContractions
calls_are_contractions P args x = few_calls x.evaluates
