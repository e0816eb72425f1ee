-- Lifting keeps data and counts.
use Rattle.std.specs.Prelude.{ℕ, ◌≤◌}
use Rattle.anf_convert.specs.Anf.{AnfProgram}
use Rattle.anf_convert.specs.AnfEvaluation.{AnfVal, AnfVals, AnfAnswers}
use Rattle.anf_convert.specs.AnfData.{DataTree, Made, DataTrees, DNil, DCons, AnfIsData, AnfAreData}
use Rattle.closure_lift.specs.Lifted.{Program, Val, VCon, Vals, VNil, VCons, LiftedAnswers}
use Rattle.closure_lift.specs.Lift.{lift}
use Rattle.anf_convert.specs.AnfForm.{AnfFormed}
use Rattle.closure_lift.specs.LiftedForm.{Formed}

mutual
  pub data IsData : Val → DataTree → Type 0 where
    is_data : {c : ℕ} {vs : Vals} {ds : DataTrees} → AreData vs ds → IsData (VCon c vs) (Made c ds)

  pub data AreData : Vals → DataTrees → Type 0 where
    are_data_none : AreData VNil DNil
    are_data_more : {v : Val} {d : DataTree} {vs : Vals} {ds : DataTrees} → IsData v d → AreData vs ds → AreData (VCons v vs) (DCons d ds)

-- main of a lifted program, applied to these values, gives the data with at most c contractions, k matches, and b blocks of l words in all, each
-- of at most w words
pub record LiftedGivesData (P : Program) (w : ℕ) (args : Vals) (d : DataTree) (c k b l : ℕ) : Type 0 where
  pub v : Val
  pub contractions : ℕ
  pub answers : LiftedAnswers P w args v contractions k b l
  pub is : IsData v d
  pub no_more : contractions ≤ c

-- where main of the program in A-normal form, applied to values that are data, gives data, so does the lifted program's, applied to values that are
-- the same data: with as many matches and blocks, no more contractions and no wider block
abbrev pub KeepsLifted : AnfProgram → Program → Type 0
KeepsLifted P Q =
    (w : ℕ) (args : AnfVals) (args' : Vals) (ds : DataTrees) (v : AnfVal) (d : DataTree) (c k b l : ℕ) →
    AnfAreData args ds → AreData args' ds → AnfAnswers P w args v c k b l → AnfIsData v d → LiftedGivesData Q w args' d c k b l

-- where the names of the one are in scope, so are those of the other
abbrev pub HasLiftedForm : AnfProgram → Program → Type 0
HasLiftedForm P Q = (m : ℕ) → AnfFormed P m → Formed Q m

abbrev pub LiftKeeps : Type 0
LiftKeeps = (P : AnfProgram) → KeepsLifted P (lift P)

abbrev pub LiftForms : Type 0
LiftForms = (P : AnfProgram) → HasLiftedForm P (lift P)
