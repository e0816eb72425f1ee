-- All passes on programs after erasure, in their order, as statements: matches on proofs dropped, constructors saturated, constants with one use put in its
-- place, parameters that are always box dropped.
use Rattle.std.specs.Prelude.{ℕ, ◌+◌, ◌*◌, ◌≤◌, ◌≡◌}
use Rattle.box_terms.specs.BoxSyntax.{BoxTerm}
use Rattle.lambda_box.specs.BoxProgram.{BoxProgram}
use Rattle.lambda_box.specs.BoxForm.{IsBoxProgram}
use Rattle.lambda_box.specs.BoxEvaluation.{BoxEvaluates}
use Rattle.lambda_box.specs.BoxData.{Data, BoxReads}
use Rattle.lambda_box.specs.ClosureEvaluation.{ClosureValue, Counts, Empty, ClosureRun, ValueReads}
use Rattle.lambda_box.specs.DataTerms.{greatest_words}
use Rattle.lambda_box.specs.OrdinaryForm.{IsOrdinaryProgram}
use Rattle.lambda_box.specs.SaturatedForm.{IsSaturated, program_nodes, greatest_counts}
use Rattle.box_passes.specs.SaturateLaws.{GivesData}
use Rattle.box_passes.specs.PassLaws.{saturated_program}
use Rattle.shrink_passes.specs.Uses.{deepest}
use Rattle.shrink_passes.specs.Inline.{inline_program}
use Rattle.shrink_passes.specs.DropParams.{drop_program}
use Rattle.shrink_passes.specs.ShrinkLaws.{KeepsRuns}

abbrev pub shrunk_program : BoxProgram → BoxProgram
shrunk_program P = drop_program (inline_program (saturated_program P))

-- its form and size: it is no larger and no deeper than the saturated program
pub record ShrunkForm (P : BoxProgram) : Type 0 where
  pub form : IsBoxProgram (shrunk_program P)
  pub saturated : IsSaturated (shrunk_program P)
  pub ordinary : IsOrdinaryProgram (shrunk_program P)
  pub nodes : program_nodes (shrunk_program P) ≤ program_nodes (saturated_program P)
  pub size : program_nodes (shrunk_program P) ≤ program_nodes P * (3 * greatest_counts P.families + 1)
  pub no_deeper : deepest (shrunk_program P) ≤ deepest (saturated_program P)
  pub families : (shrunk_program P).families ≡ (saturated_program P).families

-- the evaluation of its main, where main evaluates by substitution to data with n nodes; the saturated main's evaluation by substitution has as many matches
pub record ShrunkRun (P : BoxProgram) (d : Data) (n : ℕ) : Type 0 where
  pub substituted : GivesData (saturated_program P) (saturated_program P).main d
  pub v : ClosureValue
  pub counts : Counts
  pub run : ClosureRun (shrunk_program P) Empty (shrunk_program P).main v counts
  pub reads : ValueReads v d
  pub contractions : counts.contractions ≤ n
  pub blocks : counts.blocks ≤ 2 * n
  pub greatest : counts.greatest ≤ greatest_words P
  pub matches : counts.matches ≡ substituted.matches

abbrev pub ShrunkForms : Type 0
ShrunkForms = (P : BoxProgram) → IsBoxProgram P → ShrunkForm P

-- where the saturated main gives data by evaluation with environments, so does its main, with no more counts
abbrev pub ShrunkKeeps : Type 0
ShrunkKeeps = (P : BoxProgram) → IsBoxProgram P → KeepsRuns (saturated_program P) (shrunk_program P)

abbrev pub ShrunkRuns : Type 0
ShrunkRuns = (P : BoxProgram) → IsBoxProgram P → (w : BoxTerm) (d : Data) (n m : ℕ) → BoxEvaluates P P.main w n m → BoxReads P w d → ShrunkRun P d n
