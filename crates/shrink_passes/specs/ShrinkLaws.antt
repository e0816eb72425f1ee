-- What the passes that shrink programs promise.
use Rattle.std.specs.Prelude.{◌≤◌, ◌≡◌, List, length}
use Rattle.box_terms.specs.BoxSyntax.{BoxTerm}
use Rattle.lambda_box.specs.BoxProgram.{BoxProgram, box_apply}
use Rattle.lambda_box.specs.BoxForm.{IsBoxProgram}
use Rattle.lambda_box.specs.BoxData.{Data}
use Rattle.lambda_box.specs.ClosureEvaluation.{ClosureValue, ClosureValues, ClosureEnv, Empty, bind_all, Counts, ClosureRun, ValueReads}
use Rattle.lambda_box.specs.DataTerms.{ValuesHold}
use Rattle.lambda_box.specs.OrdinaryForm.{IsOrdinaryProgram}
use Rattle.lambda_box.specs.SaturatedForm.{IsSaturated, program_nodes}
use Rattle.box_passes.specs.Saturate.{innermost}
use Rattle.shrink_passes.specs.Uses.{deepest}
use Rattle.shrink_passes.specs.Inline.{inline_program}
use Rattle.shrink_passes.specs.DropParams.{drop_program}

-- no more than these: as many matches, and no more contractions, no more blocks, and none wider
pub record AreNoMore (c d : Counts) : Type 0 where
  pub contractions : c.contractions ≤ d.contractions
  pub matches : c.matches ≡ d.matches
  pub blocks : c.blocks ≤ d.blocks
  pub greatest : c.greatest ≤ d.greatest

-- an evaluation with environments that gives this data, with no more than these counts
pub record RunsWithin (P : BoxProgram) (e : ClosureEnv) (t : BoxTerm) (d : Data) (c : Counts) : Type 0 where
  pub v : ClosureValue
  pub counts : Counts
  pub run : ClosureRun P e t v counts
  pub reads : ValueReads v d
  pub no_more : AreNoMore counts c

-- where main, applied to values for data, gives data, the other main, applied to the same values, gives the same data, with no more counts
abbrev pub KeepsRuns : BoxProgram → BoxProgram → Type 0
KeepsRuns P Q =
    (vs : ClosureValues) (args : List Data) → ValuesHold vs args → (v : ClosureValue) (d : Data) (c : Counts) → ClosureRun P (bind_all vs Empty) (box_apply P.main (innermost (length args))) v c → ValueReads v d →
    RunsWithin Q (bind_all vs Empty) (box_apply Q.main (innermost (length args))) d c

-- the program that putting constants with one use in its place gives: it is determined, has the form of programs, stays saturated and ordinary, gives the same data, and is neither larger nor deeper
pub record Inlined (P Q : BoxProgram) : Type 0 where
  pub is : Q ≡ inline_program P
  pub form : IsBoxProgram Q
  pub saturated : IsSaturated P → IsSaturated Q
  pub ordinary : IsOrdinaryProgram P → IsOrdinaryProgram Q
  pub runs : KeepsRuns P Q
  pub nodes : program_nodes Q ≤ program_nodes P
  pub no_deeper : deepest Q ≤ deepest P

abbrev pub InlineIsRight : Type 0
InlineIsRight = (P : BoxProgram) → IsBoxProgram P → Inlined P (inline_program P)

-- a program that is no larger and does no more: it has the form of programs, stays saturated and ordinary, gives the same data, and is neither larger nor deeper
pub record Shrinks (P Q : BoxProgram) : Type 0 where
  pub form : IsBoxProgram Q
  pub saturated : IsSaturated P → IsSaturated Q
  pub ordinary : IsOrdinaryProgram P → IsOrdinaryProgram Q
  pub runs : KeepsRuns P Q
  pub nodes : program_nodes Q ≤ program_nodes P
  pub no_deeper : deepest Q ≤ deepest P

abbrev pub DropIsRight : Type 0
DropIsRight = (P : BoxProgram) → IsBoxProgram P → Shrinks P (drop_program P)
