-- What a program that is erased from an environment keeps of it.
use Rattle.std.specs.Prelude.{ℕ, ◌≤◌, List, Some}
use Rattle.pc_terms.specs.declared.leaf.Name.{Name}
use Rattle.pc_terms.specs.Syntax.{Term}
use Rattle.box_terms.specs.BoxSyntax.{BoxTerm}
use Rattle.calculus_rules.specs.Environment.{Env, KeepsConstant}
use Rattle.calculus_rules.specs.Evaluation.{Evaluates}
use Rattle.calculus_rules.specs.FirstOrder.{Shape, Data, IsFirstOrder, Reads, FitsShapes}
use Rattle.lambda_box.specs.BoxProgram.{BoxProgram, KeepsBoxConstant}
use Rattle.lambda_box.specs.BoxEvaluation.{BoxEvaluates}
use Rattle.lambda_box.specs.BoxData.{BoxReads}
use Rattle.erase_rules.specs.Laws.{IsNoGreater}

-- main and each constant are no greater than their sources, by nodes, depth and greatest variable
pub record AreNoGreater (E : Env) (main : Term) (P : BoxProgram) : Type 0 where
  pub main_no_greater : IsNoGreater main P.main
  pub bodies : (k : Name) (b' : BoxTerm) → KeepsBoxConstant P k b' → (T : Term) × (b : Term) × KeepsConstant E k T (Some b) × IsNoGreater b b'

-- where main, of a first-order type, evaluates, its value is data, and the program evaluates to that data, in no more nodes
abbrev pub KeepsValue : Env → Term → Term → BoxProgram → Type 0
KeepsValue E main T P = (v : Term) (k : ℕ) → Evaluates E main v k → (S : List Shape) → IsFirstOrder E T S →
    (d : Data) × (w : BoxTerm) × (i : ℕ) × (j : ℕ) × (i ≤ k) × BoxEvaluates P P.main w i j × Reads E S 0 v d × BoxReads P w d × FitsShapes S 0 d
