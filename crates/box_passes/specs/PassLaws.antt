-- Both passes, one after the other, as statements.
use Rattle.std.specs.Prelude.{ℕ, ◌+◌, ◌*◌, ◌≤◌, ◌≡◌}
use Rattle.box_terms.specs.BoxSyntax.{BoxTerm}
use Rattle.lambda_box.specs.BoxProgram.{BoxProgram}
use Rattle.lambda_box.specs.BoxForm.{IsBoxProgram}
use Rattle.lambda_box.specs.BoxEvaluation.{BoxEvaluates}
use Rattle.lambda_box.specs.BoxData.{Data, BoxReads}
use Rattle.lambda_box.specs.ClosureEvaluation.{ClosureValue, Counts, Empty, ClosureRun, ValueReads}
use Rattle.lambda_box.specs.DataTerms.{greatest_words}
use Rattle.lambda_box.specs.OrdinaryForm.{IsOrdinaryProgram}
use Rattle.box_passes.specs.PropMatch.{prop_match_program}
use Rattle.box_passes.specs.Saturate.{saturate_program}
use Rattle.lambda_box.specs.SaturatedForm.{IsSaturated, program_nodes, greatest_counts}
use Rattle.box_passes.specs.SaturateLaws.{GivesData}

abbrev pub saturated_program : BoxProgram → BoxProgram
saturated_program P = saturate_program (prop_match_program P)

-- the form and the size of the program after both
pub record SaturatedProgram (P : BoxProgram) : Type 0 where
  pub form : IsBoxProgram (saturated_program P)
  pub saturated : IsSaturated (saturated_program P)
  pub ordinary : IsOrdinaryProgram (saturated_program P)
  pub size : program_nodes (saturated_program P) ≤ program_nodes P * (3 * greatest_counts P.families + 1)

abbrev pub PassesForm : Type 0
PassesForm = (P : BoxProgram) → IsBoxProgram P → SaturatedProgram P

-- the evaluation of its main, where main evaluates to data with n nodes
pub record PassedRun (P : BoxProgram) (d : Data) (n : ℕ) : Type 0 where
  pub substituted : GivesData (saturated_program P) (saturated_program P).main d
  pub v : ClosureValue
  pub counts : Counts
  pub run : ClosureRun (saturated_program P) Empty (saturated_program P).main v counts
  pub reads : ValueReads v d
  pub contractions : counts.contractions ≤ n
  pub blocks : counts.blocks ≤ 2 * n
  pub greatest : counts.greatest ≤ greatest_words P
  pub matches : counts.matches ≡ substituted.matches

abbrev pub PassesCount : Type 0
PassesCount = (P : BoxProgram) → IsBoxProgram P → (w : BoxTerm) (d : Data) (n m : ℕ) → BoxEvaluates P P.main w n m → BoxReads P w d → PassedRun P d n
