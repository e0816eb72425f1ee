-- Where main's erased program evaluates to data of main's type, the answer of `exec` is that data, and no run traps but for want of memory or gives another value.
use Rattle.std.proofs.Common.{◌≡◌, ℕ, List, Ok, Err, inl, inr, sym, subst, arith, lit<, ◌⊎◌}
use Rattle.calculus_rules.specs.FirstOrder.{Data, FitsShapes}
use Rattle.first_order.specs.Searching.{members}
use Rattle.lambda_box.specs.BoxProgram.{BoxProgram}
use Rattle.lambda_box.specs.BoxEvaluation.{BoxEvaluates}
use Rattle.lambda_box.specs.BoxData.{BoxReads}
use Rattle.wasm_core.specs.declared.ended.TrapKind.{TrapKind}
use Rattle.wasm_core.specs.ModuleTyping.{IsValid}
use Rattle.wasm_core.specs.Answer.{AnswersWithin}
use Rattle.back_end.specs.BackEnd.{Answered as Answers}
use Rattle.compile.proofs.Within.{fits_answer, fits_valid}
use Rattle.module_run.specs.declared.refusal.RunRefusal.TheVariants as running
use Rattle.module_run.proofs.OneEnd.{ends_answer}
use Rattle.dump_reader.specs.declared.environment.RawEnv.{RawEnv}
use Rattle.driver.specs.declared.refusal.Refusal.{Refusal}
use Rattle.driver.specs.declared.refusal.Refusal.TheVariants as refusals
use Rattle.driver.specs.declared.refusal.RunEnd.TheVariants as ends
use Rattle.driver.specs.Lines.{status_of}
use Rattle.driver.specs.SourceSays.{IsLine}
use Rattle.command_line.specs.declared.line.Request.{Request}
use Rattle.command_line.specs.Line.{IsInRange}
use Rattle.driver.specs.Serve.{IsCheckCause}
use Rattle.driver.specs.ExecEnds.{Compiling, its_module, its_shapes, Answering, StageRefuses, in_search, in_erasure, in_passes, in_run, in_text, IsExecCause, ExecEnds}
use Rattle.driver.specs.Executed.{HasErasedData, IsTextOf}
use Rattle.driver.proofs.ExecCauses.{one_set, one_program}
use Rattle.driver.proofs.ExecSaying.{no_argument, no_certificate, no_module, no_stuck}

module _ (request : Request) (range : IsInRange request) (e : RawEnv) (ds : Data) (n k : ℕ) (h : HasErasedData request.turns e ds n k) where
  -- what the runs of the module of a program that main is erased to answer
  pub answers : (x : Compiling request.turns e) → Answers x.before.program request.pages 1024 ds n
  answers x =
      let same : h.stages.program ≡ x.before.program = one_program request.turns e h.stages x.before in
      let form = x.before.form in
      let evaluates = subst (λ (P : BoxProgram). BoxEvaluates P P.main h.value n k) same h.evaluates in
      let reads = subst (λ P. BoxReads P h.value ds) same h.reads in
      (fits_answer x.before.program request.pages 1024 h.value ds n k (omega (arith, range.pages.0)) (omega (arith, range.pages.1)) (lit< tt) form x.fits (λ F has. (form.counts F has).constructors) evaluates reads).0

  -- the answer is the data
  pub answer_is : (x : Answering request.turns e request.pages request.steps) → x.answer.tree ≡ ds
  answer_is x = ends_answer (its_module request.pages x.before) request.pages _ request.steps ds (Ok x.answer) (answers x.before).always x.ends

  -- every run of the module of a program that main is erased to
  pub runs : (x : Compiling request.turns e) → IsValid (its_module request.pages x) × ((most : ℕ) × AnswersWithin (its_module request.pages x) most ds)
  runs x = (fits_valid x.before.program request.pages (omega (arith, range.pages.0)) (omega (arith, range.pages.1)) x.before.form x.fits, (_, (answers x).always))

  pub text_is : (text : List ℕ) → ExecEnds request.turns e request.pages request.steps (Ok text) → IsTextOf request.turns e ds text
  text_is text (x, line) = record { stages = x.before.before; line = subst (λ d. IsLine (its_shapes x.before.before) e.names d text) (answer_is x) line }

  -- no run traps but for want of memory, and none gives another value

  trapped : (kind : TrapKind) → StageRefuses request.turns e request.pages request.steps (refusals.Run (ends.Trapped kind)) → ⊥
  trapped kind (in_search x w y) = y
  trapped kind (in_erasure x w y) = y
  trapped kind (in_passes x y) = y
  trapped kind (in_run x a y) = ends_answer (its_module request.pages x) request.pages _ request.steps ds (Err (running.Trapped kind)) (answers x).always y
  trapped kind (in_text x a y) = y

  no_value : (word : ℕ) → StageRefuses request.turns e request.pages request.steps (refusals.Run (ends.NoValue word)) → ⊥
  no_value word (in_search x w y) = y
  no_value word (in_erasure x w y) = y
  no_value word (in_passes x y) = y
  no_value word (in_run x a y) = ends_answer (its_module request.pages x) request.pages _ request.steps ds (Err (running.NoValue word)) (answers x).always y
  no_value word (in_text x a y) =
      y.1 (subst (λ S. FitsShapes S 0 x.answer.tree) (one_set request.turns e h.stages.before x.before.before.before) (subst (λ d. FitsShapes (members (its_shapes h.stages)) 0 d) (sym (answer_is x)) h.fits))

  -- so no refusal of `exec` has status 15
  pub no_other : (r : Refusal) → IsCheckCause request.turns r e ⊎ IsExecCause request.turns request.pages request.steps r e → status_of r ≡ 15 → ⊥
  no_other refusals.Stuck (inl c) q = c
  no_other refusals.Stuck (inr c) q = no_stuck request.turns e request.pages request.steps c.1
  no_other (refusals.Run (ends.Trapped kind)) (inl c) q = c
  no_other (refusals.Run (ends.Trapped kind)) (inr c) q = trapped kind c.1
  no_other (refusals.Run (ends.NoValue word)) (inl c) q = c
  no_other (refusals.Run (ends.NoValue word)) (inr c) q = no_value word c.1
  no_other (refusals.Module w) (inl c) q = c
  no_other (refusals.Module w) (inr c) q = no_module request.turns e request.pages request.steps w c.1
  no_other (refusals.Argument w) (inl c) q = c
  no_other (refusals.Argument w) (inr c) q = no_argument request.turns e request.pages request.steps w c.1
  no_other (refusals.Certificate w) (inl c) q = c
  no_other (refusals.Certificate w) (inr c) q = no_certificate request.turns e request.pages request.steps w c.1
  no_other _ c q = omega (arith, q)
