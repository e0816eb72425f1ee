-- How `call` ends after the check is determined, but for want of memory and limits of depth; so the statuses of its refusals are.
use Rattle.std.proofs.Common.{◌≡◌, ◌≢◌, ℕ, List, Result, Ok, Err, ◌⊎◌, inl, inr, refl, sym, ap, subst, ◌∙◌}
use Rattle.pc_rules.specs.declared.meter.Account.{Account}
use Rattle.calculus_rules.specs.FirstOrder.{FitsShapes}
use Rattle.calculus_rules.proofs.OneEach.{one_of_each}
use Rattle.first_order.specs.Awaited.{ArgumentReading, ArgumentsAre, ArgumentsFail, argument_sets, arguments_from, joined}
use Rattle.first_order.specs.declared.faults.ArgsFault.TheVariants as texts
use Rattle.first_order.specs.declared.shapes.Shape.{Shape}
use Rattle.first_order.specs.declared.shapes.Signature.{Signature}
use Rattle.first_order.specs.DirectedSignature.{AreAllNamed}
use Rattle.first_order.specs.Searching.{members}
use Rattle.dump_reader.specs.Front.{front_length}
use Rattle.wasm_core.specs.Parts.{Parts}
use Rattle.wasm_core.specs.WordData.{DataNodes}
use Rattle.module_run.specs.declared.answer.Answer.{Answer as Answered}
use Rattle.module_run.specs.declared.refusal.RunRefusal.{RunRefusal}
use Rattle.module_run.specs.declared.refusal.RunRefusal.TheVariants as running
use Rattle.module_run.specs.CallEnds.{CallEnds}
use Rattle.module_run.proofs.CallEnding.{call_end_is_one}
use Rattle.dump_reader.specs.declared.environment.RawEnv.{RawEnv}
use Rattle.driver.specs.declared.refusal.Refusal.{Refusal}
use Rattle.driver.specs.declared.refusal.Refusal.TheVariants as refusals
use Rattle.driver.specs.declared.refusal.ProgramLimit.TheVariants as limits
use Rattle.driver.specs.declared.refusal.RunEnd.TheVariants as ends
use Rattle.driver.specs.declared.refusal.ArgumentFault.TheVariants as arguments
use Rattle.driver.specs.Lines.{status_of}
use Rattle.driver.specs.Judged.{EndsWith}
use Rattle.driver.specs.Serve.{IsCheckCause, IsSure}
use Rattle.driver.specs.SourceSays.{IsLine}
use Rattle.driver.specs.Called.{CallRestEndsWith}
use Rattle.driver.specs.ExecEnds.{Accepting, ErasureSays, PassesSay, TextRefuses, status_of_end}
use Rattle.driver.specs.CallStages.{CallCompiling, CallErasing, SignatureSays, Signing, its_call_module}
use Rattle.driver.specs.Exported.{CallRulesAreWithin}
use Rattle.driver.specs.CallEnds.{ArgumentsRefuse, CallAnswering, CallJobEnds, CallSays, CallStops, IsCallStop, in_signature, in_arguments, in_call_erasure, in_call_passes, in_call_run, in_call_text, ReadingArguments, answer_shapes, arguments_read}
use Rattle.driver.proofs.CheckCauses.{accepted_status, cause_status, not_zero}
use Rattle.driver.proofs.SourceCauses.{accepted_by}
use Rattle.driver.proofs.TextFits.{line_fits}
use Rattle.driver.proofs.CallCauses.{one_answer_set, one_argument_sets, one_call_module, signature_stops, call_erasure_stops, no_signature, no_call_erasure, no_call_passes}
use Rattle.driver.proofs.ExecCauses.{no_text_of, not_passed, one_acceptance, refused}
use Rattle.driver.proofs.OneNames.{sets_alike}
use Rattle.driver.proofs.StoredAlike.{ends_alike}

-- ---- the text of the arguments

abbrev reading_status : ArgumentReading → ℕ
reading_status (ArgumentsAre ds) = 0
reading_status (ArgumentsFail (texts.Syntax o)) = 5
reading_status (ArgumentsFail texts.Nesting) = 7
reading_status (ArgumentsFail texts.NameBytes) = 7
reading_status (ArgumentsFail (texts.Wrong o)) = 16
reading_status (ArgumentsFail texts.Memory) = 1

pub arguments_status : (bytes : List ℕ) (s : Signature) (names : List (List ℕ)) (r : Refusal) → ArgumentsRefuse bytes s names r → r ≢ refusals.Memory → status_of r ≡ reading_status (arguments_read bytes s names)
arguments_status bytes s names (refusals.Argument (arguments.Syntax o)) h n = ap reading_status (sym h)
arguments_status bytes s names (refusals.Argument arguments.Nesting) h n = ap reading_status (sym h)
arguments_status bytes s names (refusals.Argument arguments.NameBytes) h n = ap reading_status (sym h)
arguments_status bytes s names (refusals.Argument (arguments.Wrong o)) h n = ap reading_status (sym h)
arguments_status bytes s names refusals.Memory h n = absurd (n refl)
arguments_status bytes s names _ h n = absurd h

-- ---- the call

abbrev pub call_run_status : Result Answered RunRefusal → ℕ
call_run_status (Ok a) = 0
call_run_status (Err running.ModuleBytes) = 7
call_run_status (Err running.Exhausted) = 11
call_run_status (Err running.StepsSpent) = 12
call_run_status (Err (running.Trapped k)) = 15
call_run_status (Err (running.NoValue w)) = 15
call_run_status (Err running.AnswerNodes) = 7
call_run_status (Err running.Memory) = 1

-- the end of the call that a refusal is of
pub record IsOfCallRun (m : Parts) (pages steps : ℕ) (args : List DataNodes) (r : Refusal) : Type 0 where
  pub why : RunRefusal
  pub ends : CallEnds m pages steps args (Err why)
  pub other : refused why ≢ refused running.Memory
  pub status : status_of r ≡ call_run_status (Err why)

pub of_call_run : (m : Parts) (pages steps : ℕ) (args : List DataNodes) (r : Refusal) → CallSays m pages steps args (Err r) → r ≢ refusals.Memory → IsOfCallRun m pages steps args r
of_call_run m pages steps args (refusals.Program limits.ModuleBytes) h n = record { why = running.ModuleBytes; ends = h; other = λ e. cc; status = refl }
of_call_run m pages steps args (refusals.Run ends.Exhausted) (small, inl lacks) n = record { why = running.Exhausted; ends = (small, inl lacks); other = λ e. cc; status = refl }
of_call_run m pages steps args (refusals.Run ends.Exhausted) (small, inr h) n = record { why = running.Exhausted; ends = (small, inr (h.0, h.1)); other = λ e. cc; status = refl }
of_call_run m pages steps args (refusals.Run ends.StepsSpent) h n = record { why = running.StepsSpent; ends = h; other = λ e. cc; status = refl }
of_call_run m pages steps args (refusals.Run (ends.Trapped kind)) h n = record { why = running.Trapped kind; ends = h; other = λ e. cc; status = refl }
of_call_run m pages steps args (refusals.Run (ends.NoValue word)) h n = record { why = running.NoValue word; ends = h; other = λ e. cc; status = refl }
of_call_run m pages steps args refusals.AnswerNodes h n = record { why = running.AnswerNodes; ends = h; other = λ e. cc; status = refl }
of_call_run m pages steps args refusals.Memory h n = absurd (n refl)
of_call_run m pages steps args _ h n = absurd h

abbrev answers : Answered → Result Answered RunRefusal
answers a = Ok a

not_memory : (a : Answered) → answers a ≢ refused running.Memory
not_memory a h = cc

-- ---- each stage hands on one thing

module _ (turns : ℕ) (e : RawEnv) (bytes : List ℕ) where
  -- the sets along which the arguments are read
  one_reading_sets : (x y : Signing turns e) → argument_sets x.signature.args ≡ argument_sets y.signature.args
  one_reading_sets x y =
      let kept = (one_acceptance turns e x.before y.before).0 in
      sets_alike y.before.kept (one_of_each y.before.kept y.before.checked.formed.accepted) x.signature.args y.signature.args (subst (λ E. AreAllNamed E x.signature.args) kept x.named.0) y.named.0
      (one_argument_sets turns e x y)

  abbrev reading_by : Signing turns e → ArgumentReading
  reading_by x = arguments_read bytes x.signature e.names

  pub one_reading : (x y : Signing turns e) → reading_by x ≡ reading_by y
  one_reading x y = ap (λ Ss. arguments_from e.names Ss bytes (front_length bytes)) (one_reading_sets x y)

  pub one_joined : (x y : ReadingArguments turns e bytes) → joined x.arguments ≡ joined y.arguments
  one_joined x y =
      let same : ArgumentsAre (joined x.arguments) ≡ ArgumentsAre (joined y.arguments) = sym x.read.0 ∙ one_reading x.before y.before ∙ y.read.0 in
      cc

  reading_stops : (r : Refusal) (x : Signing turns e) → ArgumentsRefuse bytes x.signature e.names r → r ≢ refusals.Memory → (y : Signing turns e) → status_of r ≡ reading_status (reading_by y)
  reading_stops r x h n y = arguments_status bytes x.signature e.names r h n ∙ ap reading_status (one_reading x y)

  no_reading : (r : Refusal) (x : Signing turns e) → ArgumentsRefuse bytes x.signature e.names r → r ≢ refusals.Memory → ReadingArguments turns e bytes → ⊥
  no_reading r x h n y = not_zero r (reading_stops r x h n y.before ∙ ap reading_status y.read.0)

  module _ (pages steps : ℕ) where
    -- the module for calls, and a call of it with the arguments
    abbrev module_by : CallCompiling turns e → Parts
    module_by x = its_call_module pages x

    call_as : (x y : CallCompiling turns e) (a b : ReadingArguments turns e bytes) (r : Result Answered RunRefusal) → CallEnds (module_by x) pages steps a.arguments r → CallEnds (module_by y) pages steps b.arguments r
    call_as x y a b r h =
        ends_alike (module_by y) pages steps a.arguments b.arguments (one_joined a b) r (subst (λ m. CallEnds m pages steps a.arguments r) (one_call_module turns e pages x y) h)

    abbrev Refuses : ReadingArguments turns e bytes → CallCompiling turns e → Refusal → Type 0
    Refuses a x r = CallSays (module_by x) pages steps a.arguments (Err r)

    call_stops : (r : Refusal) (a b : ReadingArguments turns e bytes) (x y : CallCompiling turns e) → Refuses a x r → r ≢ refusals.Memory → IsOfCallRun (module_by y) pages steps b.arguments r
    call_stops r a b x y h n =
        let o = of_call_run (module_by x) pages steps a.arguments r h n in
        record { why = o.why; ends = call_as x y a b (Err o.why) o.ends; other = o.other; status = o.status }

    abbrev CallAnswers : Type 0
    CallAnswers = CallAnswering turns e bytes pages steps

    pub one_call_answer : (x y : CallAnswers) → x.answer ≡ y.answer
    one_call_answer x y =
        let same : answers x.answer ≡ answers y.answer =
        call_end_is_one (module_by y.before) pages steps y.reading.arguments (Ok x.answer) (Ok y.answer) (call_as x.before y.before x.reading y.reading (Ok x.answer) x.ends) y.ends (not_memory x.answer) (not_memory y.answer) in
        cc

    no_call : (r : Refusal) (a : ReadingArguments turns e bytes) (x : CallCompiling turns e) → Refuses a x r → r ≢ refusals.Memory → CallAnswers → ⊥
    no_call r a x h n y =
        let o = call_stops r a y.reading x y.before h n in
        let same : refused o.why ≡ answers y.answer = call_end_is_one (module_by y.before) pages steps y.reading.arguments (Err o.why) (Ok y.answer) o.ends y.ends o.other (not_memory y.answer) in
        cc

    call_same : (r q : Refusal) (a b : ReadingArguments turns e bytes) (x y : CallCompiling turns e) → Refuses a x r → Refuses b y q → r ≢ refusals.Memory → q ≢ refusals.Memory → status_of r ≡ status_of q
    call_same r q a b x y h k n m =
        let o = call_stops r a b x y h n in
        let p = of_call_run (module_by y) pages steps b.arguments q k m in
        o.status ∙ ap call_run_status (call_end_is_one (module_by y) pages steps b.arguments (Err o.why) (Err p.why) o.ends p.ends o.other p.other) ∙ sym p.status

    abbrev shapes_by : CallAnswers → List Shape
    shapes_by x = answer_shapes x.before.before.before

    no_line : (r : Refusal) (x y : CallAnswers) (text : List ℕ) → TextRefuses (shapes_by x) x.answer r → r ≢ refusals.Memory → IsLine (shapes_by y) e.names y.answer.tree text → ⊥
    no_line r x y text h n line =
        let fits = line_fits (shapes_by y) e.names y.answer.tree text line in
        (no_text_of (shapes_by x) x.answer r h n).1
        (subst (λ (a : Answered). FitsShapes (members (shapes_by x)) 0 a.tree) (one_call_answer y x) (subst (λ S. FitsShapes S 0 y.answer.tree) (one_answer_set turns e y.before.before.before x.before.before.before) fits))

    text_same : (r q : Refusal) (x y : CallAnswers) → TextRefuses (shapes_by x) x.answer r → TextRefuses (shapes_by y) y.answer q → r ≢ refusals.Memory → q ≢ refusals.Memory → status_of r ≡ status_of q
    text_same r q x y h k n m = (no_text_of (shapes_by x) x.answer r h n).0 ∙ sym (no_text_of (shapes_by y) y.answer q k m).0

    abbrev Stops : Refusal → Type 0
    Stops r = CallStops turns e bytes pages steps r

    pub call_accepts : (r : Refusal) → Stops r → Accepting turns e
    call_accepts r (in_signature x w h) = x
    call_accepts r (in_arguments x h) = x.before
    call_accepts r (in_call_erasure a x w h) = x.before
    call_accepts r (in_call_passes a x h) = x.before.before
    call_accepts r (in_call_run a x v h) = x.before.before.before
    call_accepts r (in_call_text x v h) = x.before.before.before.before

    -- ---- two refusals have one status, where the rules pass no limit of depth

    module _ (within : CallRulesAreWithin turns e) where
      unsigned : (r : Refusal) (x : Accepting turns e) (w : Account) → SignatureSays x.kept x.type x.left (Err r) w → r ≢ refusals.Memory → Signing turns e → ⊥
      unsigned = no_signature turns e within

      unerased : (r : Refusal) (x : Signing turns e) (w : Account) → ErasureSays e x.before.kept e.main x.left (Err r) w → r ≢ refusals.Memory → CallErasing turns e → ⊥
      unerased = no_call_erasure turns e within

      unpassed : (r : Refusal) (x : CallErasing turns e) → PassesSay pages x.program (Err r) → r ≢ refusals.Memory → CallCompiling turns e → ⊥
      unpassed = no_call_passes turns e pages

      pub call_alike : (r q : Refusal) → Stops r → Stops q → r ≢ refusals.Memory → q ≢ refusals.Memory → status_of r ≡ status_of q
      call_alike r q (in_signature x w h) (in_signature y z k) n m = signature_stops turns e within r x w h n y ∙ sym (signature_stops turns e within q y z k m y)
      call_alike r q (in_signature x w h) (in_arguments y k) n m = absurd (unsigned r x w h n y)
      call_alike r q (in_signature x w h) (in_call_erasure b y z k) n m = absurd (unsigned r x w h n y)
      call_alike r q (in_signature x w h) (in_call_passes b y k) n m = absurd (unsigned r x w h n y.before)
      call_alike r q (in_signature x w h) (in_call_run b y d k) n m = absurd (unsigned r x w h n y.before.before)
      call_alike r q (in_signature x w h) (in_call_text y d k) n m = absurd (unsigned r x w h n y.before.before.before)
      call_alike r q (in_arguments x h) (in_signature y z k) n m = absurd (unsigned q y z k m x)
      call_alike r q (in_arguments x h) (in_arguments y k) n m = reading_stops r x h n y ∙ sym (reading_stops q y k m y)
      call_alike r q (in_arguments x h) (in_call_erasure b y z k) n m = absurd (no_reading r x h n b)
      call_alike r q (in_arguments x h) (in_call_passes b y k) n m = absurd (no_reading r x h n b)
      call_alike r q (in_arguments x h) (in_call_run b y d k) n m = absurd (no_reading r x h n b)
      call_alike r q (in_arguments x h) (in_call_text y d k) n m = absurd (no_reading r x h n y.reading)
      call_alike r q (in_call_erasure a x w h) (in_signature y z k) n m = absurd (unsigned q y z k m x)
      call_alike r q (in_call_erasure a x w h) (in_arguments y k) n m = absurd (no_reading q y k m a)
      call_alike r q (in_call_erasure a x w h) (in_call_erasure b y z k) n m = call_erasure_stops turns e within r x w h n y ∙ sym (call_erasure_stops turns e within q y z k m y)
      call_alike r q (in_call_erasure a x w h) (in_call_passes b y k) n m = absurd (unerased r x w h n y)
      call_alike r q (in_call_erasure a x w h) (in_call_run b y d k) n m = absurd (unerased r x w h n y.before)
      call_alike r q (in_call_erasure a x w h) (in_call_text y d k) n m = absurd (unerased r x w h n y.before.before)
      call_alike r q (in_call_passes a x h) (in_signature y z k) n m = absurd (unsigned q y z k m x.before)
      call_alike r q (in_call_passes a x h) (in_arguments y k) n m = absurd (no_reading q y k m a)
      call_alike r q (in_call_passes a x h) (in_call_erasure b y z k) n m = absurd (unerased q y z k m x)
      call_alike r q (in_call_passes a x h) (in_call_passes b y k) n m = (not_passed pages x.program r h n).0 ∙ sym (not_passed pages y.program q k m).0
      call_alike r q (in_call_passes a x h) (in_call_run b y d k) n m = absurd (unpassed r x h n y)
      call_alike r q (in_call_passes a x h) (in_call_text y d k) n m = absurd (unpassed r x h n y.before)
      call_alike r q (in_call_run a x c h) (in_signature y z k) n m = absurd (unsigned q y z k m x.before.before)
      call_alike r q (in_call_run a x c h) (in_arguments y k) n m = absurd (no_reading q y k m a)
      call_alike r q (in_call_run a x c h) (in_call_erasure b y z k) n m = absurd (unerased q y z k m x.before)
      call_alike r q (in_call_run a x c h) (in_call_passes b y k) n m = absurd (unpassed q y k m x)
      call_alike r q (in_call_run a x c h) (in_call_run b y d k) n m = call_same r q a b x y h k n m
      call_alike r q (in_call_run a x c h) (in_call_text y d k) n m = absurd (no_call r a x h n y)
      call_alike r q (in_call_text x c h) (in_signature y z k) n m = absurd (unsigned q y z k m x.before.before.before)
      call_alike r q (in_call_text x c h) (in_arguments y k) n m = absurd (no_reading q y k m x.reading)
      call_alike r q (in_call_text x c h) (in_call_erasure b y z k) n m = absurd (unerased q y z k m x.before.before)
      call_alike r q (in_call_text x c h) (in_call_passes b y k) n m = absurd (unpassed q y k m x.before)
      call_alike r q (in_call_text x c h) (in_call_run b y d k) n m = absurd (no_call q b y k m x)
      call_alike r q (in_call_text x c h) (in_call_text y d k) n m = text_same r q x y h k n m

      -- the text of an answer stands beside none
      never_both : (text : List ℕ) (r : Refusal) → CallJobEnds turns e bytes pages steps (Ok text) → Stops r → r ≢ refusals.Memory → ⊥
      never_both text r (y, line) (in_signature x w h) n = unsigned r x w h n y.before.before.before
      never_both text r (y, line) (in_arguments x h) n = no_reading r x h n y.reading
      never_both text r (y, line) (in_call_erasure a x w h) n = unerased r x w h n y.before.before
      never_both text r (y, line) (in_call_passes a x h) n = unpassed r x h n y.before
      never_both text r (y, line) (in_call_run a x c h) n = no_call r a x h n y
      never_both text r (y, line) (in_call_text x c h) n = no_line r x y text h n line

      call_end_alike : (a b : Result (List ℕ) Refusal) → CallJobEnds turns e bytes pages steps a → CallJobEnds turns e bytes pages steps b → status_of_end a ≡ status_of_end b
      call_end_alike (Ok s) (Ok t) h k = refl
      call_end_alike (Ok s) (Err r) h (n, k) = absurd (never_both s r h k n)
      call_end_alike (Err r) (Ok t) (n, h) k = absurd (never_both t r k h n)
      call_end_alike (Err r) (Err q) (n, h) (m, k) = call_alike r q h k n m

    -- ---- the status of a call

    -- the check doesn't accept, or the rest ends with this status
    abbrev pub CallStatusIs : ℕ → Type 0
    CallStatusIs status = (EndsWith turns e status × (status ≢ 0)) ⊎ CallRestEndsWith turns e bytes pages steps status

    accepted_end : (status : ℕ) → Accepting turns e → EndsWith turns e status → status ≡ 0
    accepted_end status x h = accepted_status turns e status (accepted_by turns e x.kept x.type x.left x.accepted) h

    call_ended : (a : Result (List ℕ) Refusal) (status : ℕ) → CallJobEnds turns e bytes pages steps a → Accepting turns e → CallStatusIs status → status ≡ status_of_end a
    call_ended a status h x (inl k) = absurd (k.1 (accepted_end status x k.0))
    call_ended a status h x (inr k) = k.status_is ∙ call_end_alike k.within k.end a k.ends h

    pub call_status : (r : Refusal) (status : ℕ) → IsCheckCause turns r e ⊎ IsCallStop turns pages steps bytes r e → (IsSure r → ⊥) → CallStatusIs status → status ≡ status_of r
    call_status r status (inl c) n (inl h) = cause_status turns r e status c n h.0
    call_status r status (inl c) n (inr h) = absurd (not_zero r (sym (cause_status turns r e 0 c n h.check)))
    call_status r status (inr c) n h = call_ended (Err r) status c (call_accepts r c.1) h

    pub called_status : (text : List ℕ) (status : ℕ) → CallJobEnds turns e bytes pages steps (Ok text) → CallStatusIs status → status ≡ 0
    called_status text status c h = call_ended (Ok text) status c c.0.before.before.before.before h
