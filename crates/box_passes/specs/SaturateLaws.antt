-- Laws of saturation, as statements.
use Rattle.std.specs.Prelude.{ℕ, ◌+◌, ◌*◌, ◌≤◌, ◌≡◌, List, map, length}
use Rattle.box_terms.specs.BoxSyntax.{BoxTerm}
use Rattle.lambda_box.specs.BoxProgram.{BoxProgram, box_apply}
use Rattle.lambda_box.specs.BoxForm.{IsBoxProgram}
use Rattle.lambda_box.specs.BoxEvaluation.{BoxEvaluates}
use Rattle.lambda_box.specs.BoxData.{Data, BoxReads}
use Rattle.lambda_box.specs.ClosureEvaluation.{ClosureValue, ClosureValues, ClosureEnv, Empty, bind_all, Counts, ClosureRun, ValueReads}
use Rattle.box_passes.specs.Saturate.{innermost, saturate_term, saturate_program}
use Rattle.lambda_box.specs.SaturatedForm.{IsSaturated, program_nodes, greatest_counts}
use Rattle.lambda_box.specs.DataTerms.{DataTerms, ValuesHold, greatest_words}

-- an evaluation with environments that gives data with at most n contractions and 2 * n blocks
pub record RunsTo (P : BoxProgram) (e : ClosureEnv) (t : BoxTerm) (d : Data) (n : ℕ) : Type 0 where
  pub v : ClosureValue
  pub counts : Counts
  pub run : ClosureRun P e t v counts
  pub reads : ValueReads v d
  pub contractions : counts.contractions ≤ n
  pub blocks : counts.blocks ≤ 2 * n

-- Where main, applied to data terms, evaluates by substitution to data with n nodes, the saturated main, applied to values for the same data,
-- gives that data by evaluation with environments, with at most n contractions and 2 * n blocks
abbrev pub SaturatedRuns : Type 0
SaturatedRuns =
    (P : BoxProgram) → IsBoxProgram P → (us : List BoxTerm) (args : List Data) → DataTerms P us args → (w : BoxTerm) (d : Data) (n m : ℕ) → BoxEvaluates P (box_apply P.main us) w n m → BoxReads P w d →
    (vs : ClosureValues) × ValuesHold vs args × RunsTo (saturate_program P) (bind_all vs Empty) (box_apply (saturate_program P).main (innermost (length us))) d n

-- an evaluation by substitution that gives data
pub record GivesData (P : BoxProgram) (t : BoxTerm) (d : Data) : Type 0 where
  pub w : BoxTerm
  pub nodes : ℕ
  pub matches : ℕ
  pub evaluates : BoxEvaluates P t w nodes matches
  pub reads : BoxReads P w d

-- Where main, applied to data terms, evaluates by substitution to data, the saturated main, applied to the same terms without their parameters,
-- evaluates to the same data
abbrev pub SaturateKeeps : Type 0
SaturateKeeps =
    (P : BoxProgram) → IsBoxProgram P → (us : List BoxTerm) (args : List Data) → DataTerms P us args → (w : BoxTerm) (d : Data) (n m : ℕ) → BoxEvaluates P (box_apply P.main us) w n m → BoxReads P w d →
    DataTerms (saturate_program P) (map (saturate_term P.families) us) args × GivesData (saturate_program P) (box_apply (saturate_program P).main (map (saturate_term P.families) us)) d

-- the saturated program has the form of programs, and is saturated
abbrev pub SaturatedForm : Type 0
SaturatedForm = (P : BoxProgram) → IsBoxProgram P → IsBoxProgram (saturate_program P) × IsSaturated (saturate_program P)

-- the number of nodes of the saturated program
abbrev pub SaturatedSize : Type 0
SaturatedSize = (P : BoxProgram) → IsBoxProgram P → program_nodes (saturate_program P) ≤ program_nodes P * (3 * greatest_counts P.families + 1)

-- no evaluation of the saturated main makes a wider block than the program's words
abbrev pub SaturatedWidths : Type 0
SaturatedWidths = (P : BoxProgram) → IsBoxProgram P → (v : ClosureValue) (c : Counts) → ClosureRun (saturate_program P) Empty (saturate_program P).main v c → c.greatest ≤ greatest_words P

-- an evaluation with environments that gives data with m matches
pub record RunsWith (P : BoxProgram) (e : ClosureEnv) (t : BoxTerm) (d : Data) (m : ℕ) : Type 0 where
  pub v : ClosureValue
  pub counts : Counts
  pub run : ClosureRun P e t v counts
  pub reads : ValueReads v d
  pub matches : counts.matches ≡ m

-- where a saturated program evaluates by substitution to data with m matches, its evaluation with environments has m matches
abbrev pub SameMatches : Type 0
SameMatches =
    (P : BoxProgram) → IsBoxProgram P → IsSaturated P → (us : List BoxTerm) (args : List Data) → DataTerms P us args → (w : BoxTerm) (d : Data) (n m : ℕ) → BoxEvaluates P (box_apply P.main us) w n m → BoxReads P w d →
    (vs : ClosureValues) × ValuesHold vs args × RunsWith P (bind_all vs Empty) (box_apply P.main (innermost (length us))) d m

-- Where main evaluates by substitution to data with n nodes, so does the saturated main, with some number of matches; and the evaluation of the
-- saturated main with environments, of which there is one, gives that data with as many matches, at most n contractions, and at most 2 * n blocks,
-- none of more words than the program has
pub record CountedRun (P : BoxProgram) (d : Data) (n : ℕ) : Type 0 where
  pub substituted : GivesData (saturate_program P) (saturate_program P).main d
  pub v : ClosureValue
  pub counts : Counts
  pub run : ClosureRun (saturate_program P) Empty (saturate_program P).main v counts
  pub one : (w : ClosureValue) (c : Counts) → ClosureRun (saturate_program P) Empty (saturate_program P).main w c → (v ≡ w) × (counts ≡ c)
  pub reads : ValueReads v d
  pub contractions : counts.contractions ≤ n
  pub blocks : counts.blocks ≤ 2 * n
  pub greatest : counts.greatest ≤ greatest_words P
  pub matches : counts.matches ≡ substituted.matches

abbrev pub SaturatedCounts : Type 0
SaturatedCounts = (P : BoxProgram) → IsBoxProgram P → (w : BoxTerm) (d : Data) (n m : ℕ) → BoxEvaluates P P.main w n m → BoxReads P w d → CountedRun P d n
