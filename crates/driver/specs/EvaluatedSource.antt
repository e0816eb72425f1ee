-- The answer of `eval`: the text of main's value, by the source's own evaluation.
use Rattle.std.specs.Prelude.{◌≡◌, ℕ, List, [], ◌∷◌, ◌++◌}
use Rattle.pc_terms.specs.Syntax.{Term}
use Rattle.pc_rules.specs.declared.meter.Account.{Account}
use Rattle.calculus_rules.specs.Environment.{Env}
use Rattle.calculus_rules.specs.Evaluation.{Evaluates}
use Rattle.pc_rules.specs.DirectedRun.{Run}
use Rattle.calculus_rules.specs.FirstOrder.{IsFirstOrder, Data, Reads}
use Rattle.rule_laws.specs.Declarations.{IsCheckedEnvironment}
use Rattle.env_check.specs.Rules.{givens}
use Rattle.first_order.specs.declared.shapes.Shape.{Shape}
use Rattle.first_order.specs.Searching.{members, AreNamed}
use Rattle.first_order.specs.Texts.{IsText, by_shapes}
use Rattle.dump_reader.specs.declared.environment.RawEnv.{RawEnv}
use Rattle.driver.specs.Texts.{SpellsWithin}
use Rattle.driver.specs.SourceEnds.{Ended, IsAcceptedWith, IsSourceRun, source_status}

-- The text is the answer of `eval` on the input.
pub record IsEvaluated (turns : ℕ) (bytes text : List ℕ) : Type 0 where
  pub environment : RawEnv
  pub spelled : SpellsWithin bytes environment
  -- the environment is well formed, by a derivation for every declaration and for main, of which this is the type
  pub kept : Env
  pub type : Term
  pub checked : IsCheckedEnvironment environment.levels environment.constraints (givens environment) environment.main kept type
  pub left : Account
  pub accepted : IsAcceptedWith turns environment kept type left
  -- the rules of the search, the evaluation and the reading end with it
  pub run : Run Ended
  pub ran : IsSourceRun turns environment run
  pub ends : source_status run.end ≡ 0
  -- a first-order set of main's type, with the names of its constructors
  pub shapes : List Shape
  pub set : IsFirstOrder kept type (members shapes)
  pub named : AreNamed kept shapes
  -- main's value, in so many nodes
  pub value : Term
  pub nodes : ℕ
  pub evaluates : Evaluates kept environment.main value nodes
  -- the data that it is, the text of that, and LF
  pub tree : Data
  pub reads : Reads kept (members shapes) 0 value tree
  pub line : List ℕ
  pub line_is : IsText (by_shapes shapes environment.names) 0 tree line
  pub text_is : text ≡ line ++ 10 ∷ []
