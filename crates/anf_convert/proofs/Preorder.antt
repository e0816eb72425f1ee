-- Values as data.
use Rattle.std.proofs.Common.{◌≡◌, ℕ, suc, List, ◌∷◌, ◌++◌, refl, ap, ◌∙◌}
use Rattle.lambda_box.specs.ClosureEvaluation.{ClosureValue, ClosureValues, size, ValueReads, value_reads, ValuesRead, no_values, and_then}
use Rattle.anf_convert.specs.AnfData.{DataTree, Made, DataTrees, DNil, DCons}
use Rattle.anf_convert.specs.ToAnfKeeps.{ValueIs, value_is, ValuesAre, and_value}
use Rattle.anf_convert.specs.ToAnfKeeps as keeps
use Rattle.anf_convert.specs.Preorder.{fields_of, preorder, preorders, ReadsTree}

record Tree (v : ClosureValue) (ns : List (ℕ × ℕ)) : Type 0 where
  d : DataTree
  is : ValueIs v d
  same : preorder d ≡ ns

record Trees (vs : ClosureValues) (ns : List (ℕ × ℕ)) : Type 0 where
  ds : DataTrees
  are : ValuesAre vs ds
  size : fields_of ds ≡ size vs
  same : preorders ds ≡ ns

mutual
  tree : {v : ClosureValue} {ns : List (ℕ × ℕ)} → ValueReads v ns → Tree v ns
  tree (value_reads {c = c} {vs = vs} hs) = let r = trees hs in record { d = Made c r.ds; is = value_is r.are; same = ap (λ n. (c, n) ∷ preorders r.ds) r.size ∙ ap (λ (xs : List (ℕ × ℕ)). (c, size vs) ∷ xs) r.same }

  trees : {vs : ClosureValues} {ns : List (ℕ × ℕ)} → ValuesRead vs ns → Trees vs ns
  trees no_values = record { ds = DNil; are = keeps.no_values; size = refl; same = refl }
  trees (and_then {d = d} {ds = ds} hs h) = let r = trees hs in let x = tree h in record { ds = DCons x.d r.ds; are = and_value x.is r.are; size = ap suc r.size; same = ap (λ xs. xs ++ preorder x.d) r.same ∙ ap (λ xs. ds ++ xs) x.same }

pub reads_tree : ReadsTree
reads_tree v ns h = let x = tree h in (x.d, x.is, x.same)
