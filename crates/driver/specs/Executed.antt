-- The answer of `exec`: the text of the data that main's module answers; and what `exec` and `compile` owe the data of the erased program.
use Rattle.std.specs.Prelude.{◌≡◌, ◌≢◌, ℕ, List, Option}
use Rattle.std.specs.Io.KnownBytes.{Appends}
use Rattle.box_terms.specs.BoxSyntax.{BoxTerm}
use Rattle.calculus_rules.specs.FirstOrder.{Data, FitsShapes}
use Rattle.first_order.specs.Searching.{members}
use Rattle.lambda_box.specs.BoxEvaluation.{BoxEvaluates}
use Rattle.lambda_box.specs.BoxData.{BoxReads}
use Rattle.wasm_core.specs.ModuleGrammar.{SpellsModule}
use Rattle.wasm_core.specs.ModuleTyping.{IsValid}
use Rattle.wasm_core.specs.Answer.{AnswersWithin}
use Rattle.wasm_core.specs.ShortestBytes.{module_bytes}
use Rattle.dump_reader.specs.declared.environment.RawEnv.{RawEnv}
use Rattle.command_line.specs.declared.job.Job.TheVariants.{Bench, Compile, Exec}
use Rattle.command_line.specs.declared.line.Request.{Request}
use Rattle.driver.specs.Texts.{SpellsWithin}
use Rattle.driver.specs.SourceSays.{IsLine}
use Rattle.driver.specs.ExecEnds.{Erasing, Compiling, Answering, its_module, its_shapes}
use Rattle.driver.specs.MadeModule.{TakesModule}
use Rattle.driver.specs.Bench.{TakesFigures}

-- The text is the answer of `exec` on the input.
pub record IsExecuted (turns pages steps : ℕ) (bytes text : List ℕ) : Type 0 where
  pub environment : RawEnv
  pub spelled : SpellsWithin bytes environment
  -- what the stages hand on, one to the next: the environment, well formed, and main's type; its first-order set; the erased program; its module; the run's answer
  pub stages : Answering turns environment pages steps
  -- the module has a typing, and its shortest bytes spell it
  pub valid : IsValid (its_module pages stages.before)
  pub module_is : SpellsModule (module_bytes (its_module pages stages.before)) (its_module pages stages.before)
  -- the text of the data that its run answers, and LF
  pub text_is : IsLine (its_shapes stages.before.before) environment.names stages.answer.tree text

-- main's erased program evaluates by substitution, with n nodes and k matches, to data of main's type
pub record HasErasedData (turns : ℕ) (e : RawEnv) (ds : Data) (n k : ℕ) : Type 0 where
  pub stages : Erasing turns e
  pub value : BoxTerm
  pub evaluates : BoxEvaluates stages.program stages.program.main value n k
  pub reads : BoxReads stages.program value ds
  pub fits : FitsShapes (members (its_shapes stages)) 0 ds

-- the text of data of main's type, and LF
pub record IsTextOf (turns : ℕ) (e : RawEnv) (ds : Data) (text : List ℕ) : Type 0 where
  pub stages : Erasing turns e
  pub line : IsLine (its_shapes stages) e.names ds text

-- each module that main has is valid, no run of it is longer than some number of steps, whichever grows of memory are refused, and each run that can go no further
-- answers this data or is exhausted; on status 0 out takes by `exec` the data's text and LF, by `bench` that behind the figures, and by `compile` that module; and the status isn't 15
pub record AnswersData (q : Request) (e : RawEnv) (ds : Data) (status : ℕ) (taken taken' : Option (List ℕ)) : Type 0 where
  pub runs : (x : Compiling q.turns e) → IsValid (its_module q.pages x) × ((most : ℕ) × AnswersWithin (its_module q.pages x) most ds)
  pub text : q.job ≡ Exec → status ≡ 0 → (text : List ℕ) × IsTextOf q.turns e ds text × Appends taken taken' text
  pub figures : q.job ≡ Bench → status ≡ 0 → (text : List ℕ) × IsTextOf q.turns e ds text × TakesFigures q e text taken taken'
  pub object : q.job ≡ Compile → status ≡ 0 → TakesModule q e taken taken'
  pub answers : status ≢ 15
