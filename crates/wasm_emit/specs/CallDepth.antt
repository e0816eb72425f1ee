-- The call depth of an evaluation of a lifted program: the greatest number of calls, none of them in tail position, that stand in one another. A use of a constant is a call.
-- What ends the block of a function or of a constant is in tail position, also as the end of a match's branch; main's value goes into a global, so nothing of main is.
use Rattle.std.specs.Prelude.{◌≡◌, ℕ, suc, ◌≤◌, max, Bool, true, false}
use Rattle.closure_lift.specs.Lifted.{Op, Block, Program, Val, Vals, Does, do_const, do_app, do_box_app, do_con, do_clos, do_case, Gets, gets_atom, gets_let_atom, gets_ret, gets_let, LiftedAnswers, answers_alone, answers_applied}

-- a call in whose callee so many stand in one another; one in tail position waits for nothing
abbrev pub with_call : Bool → ℕ → ℕ
with_call false d = suc d
with_call true d = d

module _ {P : Program} {w : ℕ} where
  abbrev mutual
    -- of an operation, which is in tail position or not
    pub op_depth : {e : Vals} {op : Op} {v : Val} {c k b l : ℕ} → Bool → Does P w e op v c k b l → ℕ
    op_depth tail (do_const at g) = with_call tail (block_depth true g)
    op_depth tail (do_app isf isa at sz g) = with_call tail (block_depth true g)
    op_depth tail (do_box_app isf isa) = 0
    op_depth tail (do_con narrow all) = 0
    op_depth tail (do_clos narrow all) = 0
    op_depth tail (do_case isa at g) = block_depth tail g

    -- of a block, whose end is in tail position or not
    pub block_depth : {e : Vals} {t : Block} {v : Val} {c k b l : ℕ} → Bool → Gets P w e t v c k b l → ℕ
    block_depth tail (gets_atom is) = 0
    block_depth tail (gets_let_atom is g) = block_depth tail g
    block_depth tail (gets_ret d) = op_depth tail d
    block_depth tail (gets_let d g) = max (op_depth false d) (block_depth tail g)

  -- of main, applied to values
  abbrev pub call_depth : {args : Vals} {v : Val} {c k b l : ℕ} → LiftedAnswers P w args v c k b l → ℕ
  call_depth (answers_alone g) = block_depth false g
  call_depth (answers_applied h d) = max (call_depth h) (op_depth false d)

-- an evaluation of main, applied to these values, the last one first, with its counts
pub record MainEvaluates (P : Program) (args : Vals) : Type 0 where
  pub w : ℕ
  pub v : Val
  pub c : ℕ
  pub k : ℕ
  pub b : ℕ
  pub l : ℕ
  pub evaluates : LiftedAnswers P w args v c k b l

-- main has one call depth
abbrev pub CallDepthsAreOne : Type 0
CallDepthsAreOne = (P : Program) (args : Vals) (x y : MainEvaluates P args) → call_depth x.evaluates ≡ call_depth y.evaluates

-- each call is a contraction, so no more stand in one another than there are contractions
abbrev pub CallsAreContractions : Type 0
CallsAreContractions = (P : Program) (args : Vals) (x : MainEvaluates P args) → call_depth x.evaluates ≤ x.c
