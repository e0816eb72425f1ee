-- The causes of the refusals of `run`: its answer ends in one way.
use Rattle.std.proofs.Common.{◌≡◌, ◌≢◌, ℕ, ◌≤◌, List, [], ◌∷◌, ◌++◌, length, Result, Ok, Err, refl, sym, ap, subst, ◌∙◌}
use Rattle.std.specs.Prelude.{IfOk, IfErr}
use Rattle.first_order.specs.Texts.{IsText, by_tags}
use Rattle.wasm_core.specs.ShortestBytes.{most_bytes}
use Rattle.wasm_core.specs.WordData.{DataNodes}
use Rattle.module_run.specs.declared.file_refusal.FileRefusal.{FileRefusal}
use Rattle.module_run.specs.declared.file_refusal.FileRefusal.TheVariants as files
use Rattle.module_run.specs.FileEnds.{FileEnds}
use Rattle.module_run.proofs.OneFileEnd.{file_end_is_one}
use Rattle.driver.specs.declared.refusal.Refusal.{Refusal}
use Rattle.driver.specs.declared.refusal.Refusal.TheVariants as refusals
use Rattle.driver.specs.Lines.{status_of}
use Rattle.driver.specs.RunFile.{IsFileCause, IsRunAnswer, IsRunCause, RunEndsWith, refusal_of_file, status_of_run_end}
use Rattle.command_line.specs.declared.job.Job.TheVariants.{Run}
use Rattle.command_line.specs.declared.line.Request.{Request}
use Rattle.driver.specs.Serve.{IsSure, JobSays, RefusalSays}

not_sure : (why : FileRefusal) (r : Refusal) → r ≡ refusal_of_file why → why ≢ files.Memory → IsSure r → ⊥
not_sure files.Memory r e n sure = n refl
not_sure _ r e n sure = subst IsSure e sure

-- a cause of `run` is that of the file's end
of_run : (pages steps : ℕ) (r : Refusal) (bytes : List ℕ) → IsRunCause pages steps r bytes → IsFileCause pages steps r bytes
of_run pages steps refusals.Memory bytes h = absurd h
of_run pages steps refusals.Usage bytes h = absurd h
of_run pages steps refusals.ReadFault bytes h = absurd h
of_run pages steps refusals.WriteFault bytes h = absurd h
of_run pages steps refusals.InputBytes bytes h = absurd h
of_run pages steps _ bytes h = h

pub run_not_sure : (pages steps : ℕ) (r : Refusal) (bytes : List ℕ) → IsRunCause pages steps r bytes → IsSure r → ⊥
run_not_sure pages steps r bytes h sure = (let c = of_run pages steps r bytes h in not_sure c.why r c.is c.other sure)

abbrev file_stops : FileRefusal → Result DataNodes FileRefusal
file_stops why = Err why

other_end : (why : FileRefusal) → why ≢ files.Memory → file_stops why ≢ file_stops files.Memory
other_end why n e = n cc

pub run_judged_cause : (pages steps : ℕ) (bytes : List ℕ) (status : ℕ) (r : Refusal) → length bytes ≤ most_bytes → RunEndsWith pages steps bytes status → IsRunCause pages steps r bytes → status ≡ status_of r
run_judged_cause pages steps bytes status r short h k =
    let c = of_run pages steps r bytes k in
    let one = file_end_is_one bytes pages steps h.end (Err c.why) short h.ends c.ends h.other (other_end c.why c.other) in
    h.status_is ∙ ap status_of_run_end one ∙ ap status_of (sym c.is)

answered : (tree : DataNodes) → Ok tree ≢ Err files.Memory
answered tree e = cc

pub run_judged_answer : (pages steps : ℕ) (bytes text : List ℕ) (status : ℕ) → length bytes ≤ most_bytes → RunEndsWith pages steps bytes status → IsRunAnswer pages steps bytes text → status ≡ 0
run_judged_answer pages steps bytes text status short h a =
    h.status_is ∙ ap status_of_run_end (file_end_is_one bytes pages steps h.end (Ok a.tree) short h.ends a.ends h.other (answered a.tree))

-- ---- what the job says

-- the refusal of a file's end is a cause, or want of memory
pub run_says : (q : Request) (why : FileRefusal) (bytes : List ℕ) → FileEnds bytes q.pages q.steps (Err why) → RefusalSays Run q (refusal_of_file why) bytes
run_says q files.Memory bytes h = tt
run_says q why bytes h = record { why = why; ends = h; other = λ e. cc; is = refl }

-- a text that is made of the answer, or want of memory
pub tags_says : {V : Type 0} (view : V → List ℕ) (q : Request) (r : Result V Refusal) (bytes : List ℕ) (tree : DataNodes) → FileEnds bytes q.pages q.steps (Ok tree) →
    IfOk r (λ v. (line : List ℕ) × IsText by_tags 0 tree line × (view v ≡ line ++ 10 ∷ [])) → IfErr r (λ e. e ≡ refusals.Memory) → JobSays Run q view r bytes
tags_says view q (Ok v) bytes tree ends line memory = record { tree = tree; ends = ends; line = line.0; line_is = line.1; text_is = line.2 }
tags_says {V = V} view q (Err e) bytes tree ends line memory = subst (λ x. JobSays {V = V} Run q view (Err x) bytes) (sym memory) tt
