-- The program of an accepted environment: how it comes from the environment, and that it is within the limits of the passes.
use Rattle.std.specs.Prelude.{◌≡◌, ℕ, ◌≤◌, List, Option}
use Rattle.trees.specs.Measures.{depth, depth_limit}
use Rattle.pc_terms.specs.Syntax.{Term}
use Rattle.pc_rules.specs.declared.meter.Account.{Account}
use Rattle.calculus_rules.specs.Environment.{Env}
use Rattle.pc_rules.specs.Entailment.{test_of}
use Rattle.pc_rules.specs.DirectedPlaces.{Gives}
use Rattle.pc_rules.specs.DirectedDeclarations.{Accepts}
use Rattle.rule_laws.specs.Declarations.{IsCheckedEnvironment}
use Rattle.dump_reader.specs.declared.environment.RawEnv.{RawEnv}
use Rattle.dump_reader.specs.Spelled.{IsSpelled}
use Rattle.env_check.specs.Rules.{givens, rules_of, IsFound}
use Rattle.lambda_box.specs.BoxProgram.{BoxConstant, BoxProgram, Has}
use Rattle.lambda_box.specs.DataTerms.{greatest_words}
use Rattle.erase_rules.specs.DirectedProgram.{Program, erased_program}
use Rattle.box_passes.specs.PassLaws.{saturated_program}
use Rattle.closure_lift.specs.LiftedForm.{Limits}
use Rattle.back_end.specs.BackEnd.{passed, IsWithinPasses}
use Rattle.headline.specs.SourceWords.{source_words, source_branches}

-- some text spells e within the limits, and the directed rules accept it, with some units and some room for nested rules: E keeps its declarations, T is main's type
pub record IsAcceptedAs (e : RawEnv) (E : Env) (T : Term) : Type 0 where
  pub spelled : IsSpelled e
  pub cycle : Option (List ℕ)
  pub found : IsFound e cycle
  pub room : ℕ
  pub before : Account
  pub after : Account
  pub accepts : (rules_of e cycle room before).outcome ≡ Accepts E T after

-- the environment is well formed: each declaration and main have a derivation by the typing rules
abbrev pub IsDerived : RawEnv → Env → Term → Type 0
IsDerived e E T = IsCheckedEnvironment e.levels e.constraints (givens e) e.main E T

abbrev pub AcceptedAreDerived : Type 0
AcceptedAreDerived = (e : RawEnv) (E : Env) (T : Term) → IsAcceptedAs e E T → IsDerived e E T

-- P is the program to which directed erasure brings E and main, with some units and some room for nested rules
pub record IsErasedTo (E : Env) (main : Term) (P : BoxProgram) : Type 0 where
  pub room : ℕ
  pub before : Account
  pub after : Account
  pub gives : (erased_program E (test_of E) room main before).outcome ≡ Gives (Program P) after

-- the program is within what the laws of the passes ask: after saturation no term is too deep, and the lifted program is within the limits of emission. Lifting refuses some of these programs besides; none
-- that has a module (`Fits` of `compile`) is outside
pub record FitsPasses (P : BoxProgram) : Type 0 where
  pub constants : (d : BoxConstant) → Has (saturated_program P).constants d → depth d.body ≤ depth_limit
  pub main : depth (saturated_program P).main ≤ depth_limit
  pub limits : Limits (passed P)

-- it has the form of programs, at most as many constructors in a family as its source, and at most the source's words
pub record IsWithinSource (E : Env) (main : Term) (P : BoxProgram) : Type 0 where
  pub within : IsWithinPasses P (source_branches E)
  pub words : greatest_words P ≤ source_words E main

abbrev pub ErasedProgramsAreWithin : Type 0
ErasedProgramsAreWithin = (e : RawEnv) (E : Env) (T : Term) (P : BoxProgram) → IsAcceptedAs e E T → IsErasedTo E e.main P → FitsPasses P → IsWithinSource E e.main P
