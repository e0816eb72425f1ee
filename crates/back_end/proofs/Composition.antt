-- From programs after saturation to runs of modules: the laws of the passes together.
use Rattle.std.proofs.Common.{ℕ, ◌*◌, ◌≤◌, ◌<◌}
use Rattle.lambda_box.specs.ClosureEvaluation.{NoValue, ClosureValue, Empty, Counts, ClosureRun}
use Rattle.anf_convert.specs.AnfEvaluation.{WNil}
use Rattle.anf_convert.specs.AnfData.{DNil, anf_data_none, DataTree}
use Rattle.anf_convert.proofs.Words.{words_bound}
use Rattle.anf_convert.specs.ToAnf.{to_anf}
use Rattle.anf_convert.specs.ToAnfKeeps.{box_alone, no_values, CanBeConverted, ValueIs}
use Rattle.anf_convert.proofs.Follows.{to_anf_keeps}
use Rattle.anf_convert.proofs.Forms.{to_anf_forms}
use Rattle.known_calls.proofs.KnownComposition.{anf_answers_known, anf_known_valid, looser_normal}
use Rattle.lambda_box.specs.BoxProgram.{BoxProgram}
use Rattle.closure_lift.specs.Lift.{lift}
use Rattle.closure_lift.specs.LiftedForm.{Limits}
use Rattle.anf_convert.specs.TermForm.{ProgramFits}
use Rattle.wasm_core.specs.ModuleTyping.{IsValid}
use Rattle.known_calls.specs.KnownModule.{module_of}
use Rattle.known_calls.specs.KnownLaws.{AnfEmitted}

-- what every run of the module does, by the counts of the evaluation; the blocks take no more words than their number times the words of the greatest
pub record Runs (P : BoxProgram) (pages m : ℕ) (d : DataTree) (c : Counts) : Type 0 where
  pub words : ℕ
  pub few : words ≤ c.blocks * c.greatest
  pub runs : AnfEmitted (lift (to_anf P)) pages c.greatest m d c.contractions c.matches c.blocks words

abbrev pub BackEnd : Type 0
BackEnd = (P : BoxProgram) (pages m : ℕ) (v : ClosureValue) (d : DataTree) (c : Counts) → 0 < pages → pages ≤ 16384 → 0 < m → CanBeConverted P → ProgramFits P m → Limits (lift (to_anf P)) → ClosureRun P Empty P.main v c → ValueIs v d → Runs P pages m d c

abbrev pub BackEndValid : Type 0
BackEndValid = (P : BoxProgram) (pages m : ℕ) → 0 < pages → pages ≤ 16384 → ProgramFits P m → IsValid (module_of (lift (to_anf P)) pages)

pub back_end : BackEnd
back_end P pages m v d c pos small some ready fits limits run is =
    let x = to_anf_keeps P NoValue WNil DNil v d c ready no_values anf_data_none (box_alone run) is in
    let y = anf_answers_known (to_anf P) pages c.greatest m x.v d x.contractions c.matches c.blocks x.words pos small some (to_anf_forms P m fits) limits x.answers x.is in
    record {
      words = x.words;
      few = words_bound (to_anf P) c.greatest WNil x.v x.contractions c.matches c.blocks x.words x.answers;
      runs = looser_normal x.no_more y;
    }

pub back_end_valid : BackEndValid
back_end_valid P pages m pos small fits = anf_known_valid (to_anf P) pages m pos small (to_anf_forms P m fits)
