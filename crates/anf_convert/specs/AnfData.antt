-- Data as a tree, and the values of programs in A-normal form that are data.
use Rattle.std.specs.Prelude.{ℕ}
use Rattle.anf_convert.specs.AnfEvaluation.{AnfVal, WCon, AnfVals, WNil, WCons}

mutual
  -- a constructor's number and its fields, the last one first
  pub data DataTree : Type 0 where
    Made : (c : ℕ) → (fields : DataTrees) → DataTree

  pub data DataTrees : Type 0 where
    DNil : DataTrees
    DCons : (d : DataTree) → (rest : DataTrees) → DataTrees

mutual
  -- the value is data
  pub data AnfIsData : AnfVal → DataTree → Type 0 where
    anf_data : {c : ℕ} {vs : AnfVals} {ds : DataTrees} → AnfAreData vs ds → AnfIsData (WCon c vs) (Made c ds)

  pub data AnfAreData : AnfVals → DataTrees → Type 0 where
    anf_data_none : AnfAreData WNil DNil
    anf_data_more : {v : AnfVal} {d : DataTree} {vs : AnfVals} {ds : DataTrees} → AnfIsData v d → AnfAreData vs ds → AnfAreData (WCons v vs) (DCons d ds)
