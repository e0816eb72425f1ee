-- Main after erasure, applied to arguments that are data: what it evaluates to, and that the data fits main's signature.
use Rattle.std.specs.Prelude.{ℕ, ◌≤◌, List, [], ◌∷◌}
use Rattle.box_terms.specs.BoxSyntax.{BoxTerm}
use Rattle.calculus_rules.specs.FirstOrder.{Shape as Member, FitsShapes}
use Rattle.lambda_box.specs.BoxProgram.{BoxProgram, box_apply}
use Rattle.lambda_box.specs.BoxEvaluation.{BoxEvaluates}
use Rattle.lambda_box.specs.BoxData.{Data, BoxReads}
use Rattle.lambda_box.specs.DataTerms.{DataTerms}

-- main, applied to terms that are the arguments' data, evaluates to the data, in at most n nodes
pub record CallEvaluatesTo (P : BoxProgram) (arguments : List Data) (tree : Data) (n : ℕ) : Type 0 where
  pub terms : List BoxTerm
  pub are : DataTerms P terms arguments
  pub value : BoxTerm
  pub nodes : ℕ
  pub matches : ℕ
  pub few : nodes ≤ n
  pub evaluates : BoxEvaluates P (box_apply P.main terms) value nodes matches
  pub reads : BoxReads P value tree

-- as many data as sets, each of the first type of its set
pub data ArgumentsFitSets : List (List Member) → List Data → Type 0 where
  no_argument_fits : ArgumentsFitSets [] []
  argument_fits : {S : List Member} {Ss : List (List Member)} {d : Data} {ds : List Data} → FitsShapes S 0 d → ArgumentsFitSets Ss ds → ArgumentsFitSets (S ∷ Ss) (d ∷ ds)
