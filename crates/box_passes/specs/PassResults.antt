-- What the passes promise of their programs.
use Rattle.std.specs.Prelude.{ℕ, ◌+◌, ◌*◌, ◌<◌, ◌≤◌, ◌≡◌, List, map, length}
use Rattle.trees.specs.Measures.{depth, depth_limit}
use Rattle.box_terms.specs.BoxSyntax.{BoxTerm}
use Rattle.lambda_box.specs.BoxProgram.{BoxConstant, BoxProgram, Has, box_apply}
use Rattle.lambda_box.specs.BoxForm.{IsBoxProgram}
use Rattle.lambda_box.specs.BoxEvaluation.{BoxEvaluates}
use Rattle.lambda_box.specs.BoxData.{Data, BoxReads}
use Rattle.lambda_box.specs.ClosureEvaluation.{ClosureValues, Empty, bind_all}
use Rattle.lambda_box.specs.DataTerms.{DataTerms, ValuesHold, greatest_words}
use Rattle.box_passes.specs.PropMatch.{EvaluatesWithin, drop_matches, prop_match_program}
use Rattle.lambda_box.specs.OrdinaryForm.{IsOrdinaryProgram}
use Rattle.box_passes.specs.Saturate.{innermost, saturate_term, saturate_program}
use Rattle.lambda_box.specs.SaturatedForm.{IsSaturated, program_nodes, greatest_counts}
use Rattle.box_passes.specs.SaturateLaws.{RunsTo, GivesData, CountedRun}

-- where main, applied to data terms, evaluates to data, so does the other main, applied to the same terms, with no more nodes
abbrev pub KeepsData : BoxProgram → BoxProgram → Type 0
KeepsData P Q =
    (us : List BoxTerm) (args : List Data) → DataTerms P us args → (w : BoxTerm) (d : Data) (n m : ℕ) → BoxEvaluates P (box_apply P.main us) w n m → BoxReads P w d →
    DataTerms Q us args × EvaluatesWithin Q (box_apply Q.main us) d n

-- dropping the matches on its propositional families makes no term deeper
abbrev pub NoDeeper : BoxProgram → Type 0
NoDeeper P = (t : BoxTerm) → depth (drop_matches P.families t) ≤ depth t

pub record PropMatched (P Q : BoxProgram) : Type 0 where
  pub is : Q ≡ prop_match_program P
  pub form : IsBoxProgram P → IsBoxProgram Q × IsOrdinaryProgram Q
  pub data_kept : IsBoxProgram P → KeepsData P Q
  pub nodes_kept : program_nodes Q ≤ program_nodes P
  pub words_kept : greatest_words Q ≤ greatest_words P
  pub no_deeper : NoDeeper P

-- where main, applied to data terms, evaluates to data, so does the other main, applied to the same terms without their parameters
abbrev pub KeepsBareData : BoxProgram → BoxProgram → Type 0
KeepsBareData P Q =
    (us : List BoxTerm) (args : List Data) → DataTerms P us args → (w : BoxTerm) (d : Data) (n m : ℕ) → BoxEvaluates P (box_apply P.main us) w n m → BoxReads P w d →
    DataTerms Q (map (saturate_term P.families) us) args × GivesData Q (box_apply Q.main (map (saturate_term P.families) us)) d

-- and, applied to values for the same data, it gives the data by evaluation with environments, with counts that the number of nodes bounds
abbrev pub RunsForData : BoxProgram → BoxProgram → Type 0
RunsForData P Q =
    (us : List BoxTerm) (args : List Data) → DataTerms P us args → (w : BoxTerm) (d : Data) (n m : ℕ) → BoxEvaluates P (box_apply P.main us) w n m → BoxReads P w d →
    (vs : ClosureValues) × ValuesHold vs args × RunsTo Q (bind_all vs Empty) (box_apply Q.main (innermost (length us))) d n

-- at most 3 * K + 1 nodes for each of the program's, K being the greatest number of parameters and arguments, together, of a constructor
abbrev pub IsAtMostSaturated : BoxProgram → BoxProgram → Type 0
IsAtMostSaturated P Q = program_nodes Q ≤ program_nodes P * (3 * greatest_counts P.families + 1)

-- where main evaluates to data with n nodes, the saturated main gives it in both evaluations, with counts that n bounds
abbrev pub HasCountedRuns : BoxProgram → Type 0
HasCountedRuns P = (w : BoxTerm) (d : Data) (n m : ℕ) → BoxEvaluates P P.main w n m → BoxReads P w d → CountedRun P d n

-- the saturated program: it is determined, has the form of programs and is saturated; and where main evaluates to data with n nodes, so does its
-- main, in both evaluations, with counts that n bounds
pub record Saturated (P Q : BoxProgram) : Type 0 where
  pub is : Q ≡ saturate_program P
  pub form : IsBoxProgram P → IsBoxProgram Q × IsSaturated Q
  pub size : IsBoxProgram P → IsAtMostSaturated P Q
  pub data_kept : IsBoxProgram P → KeepsBareData P Q
  pub runs : IsBoxProgram P → RunsForData P Q
  pub counted : IsBoxProgram P → HasCountedRuns P

-- a term of the program is over the depth limit
pub data IsDeep (P : BoxProgram) : Type 0 where
  deep_main : depth_limit < depth P.main → IsDeep P
  deep_constant : (d : BoxConstant) → Has P.constants d → depth_limit < depth d.body → IsDeep P
