-- Data as a tree, and as the list of its nodes in preorder.
use Rattle.std.specs.Prelude.{◌≡◌, ℕ, suc, List, [], ◌∷◌, ◌++◌}
use Rattle.lambda_box.specs.ClosureEvaluation.{ClosureValue, ValueReads}
use Rattle.anf_convert.specs.AnfData.{DataTree, Made, DataTrees, DNil, DCons}
use Rattle.anf_convert.specs.ToAnfKeeps.{ValueIs}

abbrev pub fields_of : DataTrees → ℕ
fields_of DNil = 0
fields_of (DCons d ds) = suc (fields_of ds)

-- each node with its constructor's number and its number of fields
abbrev mutual
  pub preorder : DataTree → List (ℕ × ℕ)
  preorder (Made c ds) = (c, fields_of ds) ∷ preorders ds

  pub preorders : DataTrees → List (ℕ × ℕ)
  preorders DNil = []
  preorders (DCons d ds) = preorders ds ++ preorder d

-- a value that is read as a list of nodes is that data
abbrev pub ReadsTree : Type 0
ReadsTree = (v : ClosureValue) (ns : List (ℕ × ℕ)) → ValueReads v ns → (d : DataTree) × ValueIs v d × (preorder d ≡ ns)
