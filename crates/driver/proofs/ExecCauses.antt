-- How `exec` ends after the check is determined, but for want of memory and limits of depth; so the statuses of its refusals are.
use Rattle.std.proofs.Common.{◌≡◌, ◌≢◌, ℕ, ◌≤◌, arith, lit<, lit≤, List, false, Result, Ok, Err, ◌⊎◌, inl, inr, refl, sym, ap, subst, ◌∙◌}
use Rattle.pc_terms.specs.Syntax.{Term}
use Rattle.pc_rules.specs.declared.meter.Account.{Account}
use Rattle.calculus_rules.specs.Environment.{Env}
use Rattle.calculus_rules.specs.FirstOrder.{Shape as Member, FitsShapes}
use Rattle.pc_rules.specs.DirectedRun.{Run, End, Done, Refused, NoUnit, Nested}
use Rattle.pc_rules.specs.DirectedPlaces.{Placed, Outcome, Gives, Breaks, Spends, Nests}
use Rattle.pc_rules.specs.DirectedFirstOrder.{Searched, Found, NotFirstOrder, TooManyTypes, first_order_search}
use Rattle.first_order.specs.declared.shapes.Shape.{Shape}
use Rattle.first_order.specs.Searching.{members}
use Rattle.lambda_box.specs.BoxProgram.{BoxProgram}
use Rattle.erase_rules.specs.DirectedProgram.{Answer, Program, ReachesAxiom}
use Rattle.wasm_core.specs.Parts.{Parts}
use Rattle.known_calls.specs.KnownModule.{module_of}
use Rattle.back_end.specs.BackEnd.{passed}
use Rattle.compile.specs.Passes.{Fits}
use Rattle.compile.specs.declared.fault.CompileFault.TheVariants as compiling
use Rattle.compile.proofs.Within.{causes_are_one}
use Rattle.module_run.specs.declared.answer.Answer.{Answer as Answered}
use Rattle.module_run.specs.declared.refusal.RunRefusal.{RunRefusal}
use Rattle.module_run.specs.declared.refusal.RunRefusal.TheVariants as running
use Rattle.module_run.specs.Ends.{Ends}
use Rattle.module_run.proofs.OneEnd.{end_is_one}
use Rattle.dump_reader.specs.declared.environment.RawEnv.{RawEnv}
use Rattle.driver.specs.declared.refusal.Refusal.{Refusal}
use Rattle.driver.specs.declared.refusal.Refusal.TheVariants as refusals
use Rattle.driver.specs.declared.refusal.ProgramLimit.TheVariants as limits
use Rattle.driver.specs.declared.refusal.RunEnd.TheVariants as ends
use Rattle.dump_grammar.specs.declared.refusal.ReadRefusal.{ReadRefusal}
use Rattle.dump_grammar.specs.declared.refusal.ReadRefusal.TheVariants as reads
use Rattle.driver.specs.Lines.{refusal_of, status_of}
use Rattle.driver.specs.Judged.{EndsWith}
use Rattle.driver.specs.SourceSays.{ShapesSay, IsLine}
use Rattle.driver.specs.Serve.{IsCheckCause, IsLate, IsSure, IsWell}
use Rattle.driver.specs.ExecEnds.{
  erasure_of,
  ErasureSays,
  PassesSay,
  ExecRunSays,
  TextRefuses,
  Accepting,
  Searching,
  Erasing,
  Compiling,
  its_module,
  its_shapes,
  Answering,
  StageRefuses,
  in_search,
  in_erasure,
  in_passes,
  in_run,
  in_text,
  IsExecCause,
  ExecEnds,
  status_of_end,
  ExecEndsWith,
  IsCompilable,
  Finishes,
}
use Rattle.driver.proofs.CheckCauses.{deep_or_not, cause_status, not_zero, accepted_status}
use Rattle.driver.proofs.SourceCauses.{plainly, accepts_inj, accepted_by}
use Rattle.driver.proofs.TextFits.{line_fits}

-- ---- the search

abbrev pub search_status : End (Searched (List Member)) → ℕ
search_status (Done (Found S) u) = 0
search_status (Done (NotFirstOrder T) u) = 10
search_status (Done TooManyTypes u) = 7
search_status (Refused b u) = 9
search_status NoUnit = 8
search_status Nested = 7

pub shapes_status : (E : Env) (T : Term) (u : Account) (r : Refusal) (w : Account) → ShapesSay E T u (Err r) w → r ≢ refusals.Memory → (first_order_search E T u).deep ≡ false →
    status_of r ≡ search_status (first_order_search E T u).end
shapes_status E T u refusals.NotFirstOrder w h n d = ap search_status (sym h.1)
shapes_status E T u refusals.Types w h n d = ap search_status (sym h)
shapes_status E T u refusals.TurnsSpent w h n d = ap search_status (sym h)
shapes_status E T u refusals.Depth w h n d = absurd (deep_or_not (first_order_search E T u).deep h d)
shapes_status E T u refusals.Memory w h n d = absurd (n refl)
shapes_status E T u _ w h n d = absurd h

-- ---- erasure

abbrev pub erasure_status : Outcome Answer → ℕ
erasure_status (Gives (Program P) u) = 0
erasure_status (Gives (ReachesAxiom k) u) = 10
erasure_status (Breaks p b u) = 9
erasure_status Spends = 8
erasure_status Nests = 7

pub erased_status : (e : RawEnv) (E : Env) (t : Term) (u : Account) (r : Refusal) (w : Account) → ErasureSays e E t u (Err r) w → r ≢ refusals.Memory → (erasure_of E t u).deep ≡ false →
    status_of r ≡ erasure_status (erasure_of E t u).outcome
erased_status e E t u (refusals.Axiom name) w h n d = ap erasure_status (sym h.1)
erased_status e E t u refusals.TurnsSpent w h n d = ap erasure_status (sym h)
erased_status e E t u refusals.Depth w h n d = absurd (deep_or_not (erasure_of E t u).deep h d)
erased_status e E t u (refusals.Broken k p) w h n d = ap erasure_status (sym h.2)
erased_status e E t u refusals.Memory w h n d = absurd (n refl)
erased_status e E t u _ w h n d = absurd h

-- ---- the passes: all their limits have one status

pub not_passed : (pages : ℕ) (P : BoxProgram) (r : Refusal) → PassesSay pages P (Err r) → r ≢ refusals.Memory → (status_of r ≡ 7) × (Fits P → ⊥)
not_passed pages P refusals.Depth h n = (refl, causes_are_one.fits P compiling.Depth h (λ e. cc))
not_passed pages P (refusals.Program limits.Captured) h n = (refl, causes_are_one.fits P compiling.Captured h (λ e. cc))
not_passed pages P (refusals.Program limits.Functions) h n = (refl, causes_are_one.fits P compiling.Functions h (λ e. cc))
not_passed pages P (refusals.Program limits.Locals) h n = (refl, causes_are_one.fits P compiling.Locals h (λ e. cc))
not_passed pages P refusals.Memory h n = absurd (n refl)
not_passed pages P _ h n = absurd h

-- ---- the run

abbrev run_status : Result Answered RunRefusal → ℕ
run_status (Ok a) = 0
run_status (Err running.ModuleBytes) = 7
run_status (Err running.Exhausted) = 11
run_status (Err running.StepsSpent) = 12
run_status (Err (running.Trapped k)) = 15
run_status (Err (running.NoValue w)) = 15
run_status (Err running.AnswerNodes) = 7
run_status (Err running.Memory) = 1

abbrev pub refused : RunRefusal → Result Answered RunRefusal
refused q = Err q

-- the end of the run that a refusal is of
pub record IsOfRun (m : Parts) (pages steps : ℕ) (r : Refusal) : Type 0 where
  pub why : RunRefusal
  pub ends : Ends m pages steps (Err why)
  pub other : refused why ≢ refused running.Memory
  pub status : status_of r ≡ run_status (Err why)

pub of_run : (m : Parts) (pages steps : ℕ) (r : Refusal) → ExecRunSays m pages steps (Err r) → r ≢ refusals.Memory → IsOfRun m pages steps r
of_run m pages steps (refusals.Program limits.ModuleBytes) h n = record { why = running.ModuleBytes; ends = h; other = λ e. cc; status = refl }
of_run m pages steps (refusals.Run ends.Exhausted) h n = record { why = running.Exhausted; ends = (h.0, (h.1.0, h.1.1)); other = λ e. cc; status = refl }
of_run m pages steps (refusals.Run ends.StepsSpent) h n = record { why = running.StepsSpent; ends = h; other = λ e. cc; status = refl }
of_run m pages steps (refusals.Run (ends.Trapped kind)) h n = record { why = running.Trapped kind; ends = h; other = λ e. cc; status = refl }
of_run m pages steps (refusals.Run (ends.NoValue word)) h n = record { why = running.NoValue word; ends = h; other = λ e. cc; status = refl }
of_run m pages steps refusals.AnswerNodes h n = record { why = running.AnswerNodes; ends = h; other = λ e. cc; status = refl }
of_run m pages steps refusals.Memory h n = absurd (n refl)
of_run m pages steps _ h n = absurd h

-- ---- the text

pub no_text_of : (hs : List Shape) (a : Answered) (r : Refusal) → TextRefuses hs a r → r ≢ refusals.Memory →
    (status_of r ≡ 15) × (FitsShapes (members hs) 0 a.tree → ⊥)
no_text_of hs a (refusals.Run (ends.NoValue word)) h n = (refl, h.1)
no_text_of hs a refusals.Memory h n = absurd (n refl)
no_text_of hs a _ h n = absurd h

-- ---- each stage hands on one thing

abbrev pub set_in : End (Searched (List Member)) → List Member → List Member
set_in (Done (Found S) u) R = S
set_in x R = R

abbrev pub account_in : End (Searched (List Member)) → Account → Account
account_in (Done s u) v = u
account_in x v = v

abbrev pub program_in : Outcome Answer → BoxProgram → BoxProgram
program_in (Gives (Program P) u) Q = P
program_in x Q = Q

module _ (turns : ℕ) (e : RawEnv) where
  abbrev search_of : Accepting turns e → Run (Searched (List Member))
  search_of x = first_order_search x.kept x.type x.left

  abbrev erasing_of : Searching turns e → Placed Answer
  erasing_of x = erasure_of x.before.kept e.main x.left

  pub one_acceptance : (x y : Accepting turns e) → (x.kept ≡ y.kept) × (x.type ≡ y.type) × (x.left ≡ y.left)
  one_acceptance x y = accepts_inj x.kept y.kept x.type y.type x.left y.left (sym (plainly turns e x.kept x.type x.left x.accepted) ∙ plainly turns e y.kept y.type y.left y.accepted)

  one_search : (x y : Accepting turns e) → search_of x ≡ search_of y
  one_search x y = (let q = one_acceptance x y in λ i. first_order_search (q.0 i) (q.1 i) (q.2 i))

  both_found : (x y : Searching turns e) → Done (Found (members x.shapes)) x.left ≡ Done (Found (members y.shapes)) y.left
  both_found x y = sym x.found ∙ ap (λ r. r.end) (one_search x.before y.before) ∙ y.found

  pub one_set : (x y : Searching turns e) → members x.shapes ≡ members y.shapes
  one_set x y = ap (λ z. set_in z (members x.shapes)) (both_found x y)

  one_account : (x y : Searching turns e) → x.left ≡ y.left
  one_account x y = ap (λ z. account_in z x.left) (both_found x y)

  one_erasure : (x y : Searching turns e) → erasing_of x ≡ erasing_of y
  one_erasure x y = (let q = one_acceptance x.before y.before in let w = one_account x y in λ i. erasure_of (q.0 i) e.main (w i))

  pub one_program : (x y : Erasing turns e) → x.program ≡ y.program
  one_program x y = ap (λ z. program_in z x.program) (sym x.erased ∙ ap (λ r. r.outcome) (one_erasure x.before y.before) ∙ y.erased)

  pub one_module : (pages : ℕ) (x y : Compiling turns e) → its_module pages x ≡ its_module pages y
  one_module pages x y = ap (λ P. module_of (passed P) pages) (one_program x.before y.before)

  module _ (pages steps : ℕ) where
    not_memory : (a : Answered) → Ok a ≢ Err running.Memory
    not_memory a h = cc

    pub one_answer : (x y : Answering turns e pages steps) → x.answer ≡ y.answer
    one_answer x y =
        let same : Ok x.answer ≡ Ok y.answer = end_is_one (its_module pages y.before) pages steps (Ok x.answer) (Ok y.answer) (subst (λ m. Ends m pages steps (Ok x.answer)) (one_module pages x.before y.before) x.ends) y.ends (not_memory x.answer) (not_memory y.answer) in
        cc

    -- the search and erasure pass no limit
    abbrev SearchWithin : Type 0
    SearchWithin = (x : Accepting turns e) → (search_of x).deep ≡ false

    abbrev ErasureWithin : Type 0
    ErasureWithin = (x : Searching turns e) → (erasing_of x).deep ≡ false

    module _ (within : SearchWithin) (erases : ErasureWithin) where
      search_stops : (r : Refusal) (x : Accepting turns e) (w : Account) → ShapesSay x.kept x.type x.left (Err r) w → r ≢ refusals.Memory → (y : Accepting turns e) → status_of r ≡ search_status (search_of y).end
      search_stops r x w h n y = shapes_status x.kept x.type x.left r w h n (within x) ∙ ap (λ z. search_status z.end) (one_search x y)

      pub no_search : (r : Refusal) (x : Accepting turns e) (w : Account) → ShapesSay x.kept x.type x.left (Err r) w → r ≢ refusals.Memory → Searching turns e → ⊥
      no_search r x w h n y = not_zero r (search_stops r x w h n y.before ∙ ap search_status y.found)

      erasure_stops : (r : Refusal) (x : Searching turns e) (w : Account) → ErasureSays e x.before.kept e.main x.left (Err r) w → r ≢ refusals.Memory → (y : Searching turns e) → status_of r ≡ erasure_status (erasing_of y).outcome
      erasure_stops r x w h n y = erased_status e x.before.kept e.main x.left r w h n (erases x) ∙ ap (λ z. erasure_status z.outcome) (one_erasure x y)

      pub no_erasure : (r : Refusal) (x : Searching turns e) (w : Account) → ErasureSays e x.before.kept e.main x.left (Err r) w → r ≢ refusals.Memory → Erasing turns e → ⊥
      no_erasure r x w h n y = not_zero r (erasure_stops r x w h n y.before ∙ ap erasure_status y.erased)

      pub no_passes : (r : Refusal) (x : Erasing turns e) → PassesSay pages x.program (Err r) → r ≢ refusals.Memory → Compiling turns e → ⊥
      no_passes r x h n y = (not_passed pages x.program r h n).1 (subst Fits (one_program y.before x) y.fits)

      run_stops : (r : Refusal) (x : Compiling turns e) → ExecRunSays (its_module pages x) pages steps (Err r) → r ≢ refusals.Memory → (y : Compiling turns e) → IsOfRun (its_module pages y) pages steps r
      run_stops r x h n y = subst (λ m. IsOfRun m pages steps r) (one_module pages x y) (of_run (its_module pages x) pages steps r h n)

      no_run : (r : Refusal) (x : Compiling turns e) → ExecRunSays (its_module pages x) pages steps (Err r) → r ≢ refusals.Memory → Answering turns e pages steps → ⊥
      no_run r x h n y =
          let o = run_stops r x h n y.before in
          let same : Err o.why ≡ Ok y.answer = end_is_one (its_module pages y.before) pages steps (Err o.why) (Ok y.answer) o.ends y.ends o.other (not_memory y.answer) in
          cc

      run_same : (r q : Refusal) (x y : Compiling turns e) → ExecRunSays (its_module pages x) pages steps (Err r) → ExecRunSays (its_module pages y) pages steps (Err q) → r ≢ refusals.Memory → q ≢ refusals.Memory → status_of r ≡ status_of q
      run_same r q x y h k n m =
          let o = run_stops r x h n y in
          let p = of_run (its_module pages y) pages steps q k m in
          o.status ∙ ap run_status (end_is_one (its_module pages y) pages steps (Err o.why) (Err p.why) o.ends p.ends o.other p.other) ∙ sym p.status

      no_text : (r : Refusal) (x y : Answering turns e pages steps) (text : List ℕ) → TextRefuses (its_shapes x.before.before) x.answer r → r ≢ refusals.Memory →
          IsLine (its_shapes y.before.before) e.names y.answer.tree text → ⊥
      no_text r x y text h n line =
          let fits = line_fits (its_shapes y.before.before) e.names y.answer.tree text line in
          (no_text_of (its_shapes x.before.before) x.answer r h n).1
          (subst (λ (a : Answered). FitsShapes (members (its_shapes x.before.before)) 0 a.tree) (one_answer y x) (subst (λ S. FitsShapes S 0 y.answer.tree) (one_set y.before.before.before x.before.before.before) fits))

      refuse_alike : (r q : Refusal) → StageRefuses turns e pages steps r → StageRefuses turns e pages steps q → r ≢ refusals.Memory → q ≢ refusals.Memory → status_of r ≡ status_of q
      refuse_alike r q (in_search x w h) (in_search y v k) n m = search_stops r x w h n y ∙ sym (search_stops q y v k m y)
      refuse_alike r q (in_search x w h) (in_erasure y v k) n m = absurd (no_search r x w h n y)
      refuse_alike r q (in_search x w h) (in_passes y k) n m = absurd (no_search r x w h n y.before)
      refuse_alike r q (in_search x w h) (in_run y b k) n m = absurd (no_search r x w h n y.before.before)
      refuse_alike r q (in_search x w h) (in_text y b k) n m = absurd (no_search r x w h n y.before.before.before)
      refuse_alike r q (in_erasure x w h) (in_search y v k) n m = absurd (no_search q y v k m x)
      refuse_alike r q (in_erasure x w h) (in_erasure y v k) n m = erasure_stops r x w h n y ∙ sym (erasure_stops q y v k m y)
      refuse_alike r q (in_erasure x w h) (in_passes y k) n m = absurd (no_erasure r x w h n y)
      refuse_alike r q (in_erasure x w h) (in_run y b k) n m = absurd (no_erasure r x w h n y.before)
      refuse_alike r q (in_erasure x w h) (in_text y b k) n m = absurd (no_erasure r x w h n y.before.before)
      refuse_alike r q (in_passes x h) (in_search y v k) n m = absurd (no_search q y v k m x.before)
      refuse_alike r q (in_passes x h) (in_erasure y v k) n m = absurd (no_erasure q y v k m x)
      refuse_alike r q (in_passes x h) (in_passes y k) n m = (not_passed pages x.program r h n).0 ∙ sym (not_passed pages y.program q k m).0
      refuse_alike r q (in_passes x h) (in_run y b k) n m = absurd (no_passes r x h n y)
      refuse_alike r q (in_passes x h) (in_text y b k) n m = absurd (no_passes r x h n y.before)
      refuse_alike r q (in_run x a h) (in_search y v k) n m = absurd (no_search q y v k m x.before.before)
      refuse_alike r q (in_run x a h) (in_erasure y v k) n m = absurd (no_erasure q y v k m x.before)
      refuse_alike r q (in_run x a h) (in_passes y k) n m = absurd (no_passes q y k m x)
      refuse_alike r q (in_run x a h) (in_run y b k) n m = run_same r q x y h k n m
      refuse_alike r q (in_run x a h) (in_text y b k) n m = absurd (no_run r x h n y)
      refuse_alike r q (in_text x a h) (in_search y v k) n m = absurd (no_search q y v k m x.before.before.before)
      refuse_alike r q (in_text x a h) (in_erasure y v k) n m = absurd (no_erasure q y v k m x.before.before)
      refuse_alike r q (in_text x a h) (in_passes y k) n m = absurd (no_passes q y k m x.before)
      refuse_alike r q (in_text x a h) (in_run y b k) n m = absurd (no_run q y k m x)
      refuse_alike r q (in_text x a h) (in_text y b k) n m = (no_text_of (its_shapes x.before.before) x.answer r h n).0 ∙ sym (no_text_of (its_shapes y.before.before) y.answer q k m).0

      never_both : (text : List ℕ) (r : Refusal) → ExecEnds turns e pages steps (Ok text) → StageRefuses turns e pages steps r → r ≢ refusals.Memory → ⊥
      never_both text r (y, line) (in_search x w h) n = no_search r x w h n y.before.before.before
      never_both text r (y, line) (in_erasure x w h) n = no_erasure r x w h n y.before.before
      never_both text r (y, line) (in_passes x h) n = no_passes r x h n y.before
      never_both text r (y, line) (in_run x a h) n = no_run r x h n y
      never_both text r (y, line) (in_text x a h) n = no_text r x y text h n line

      end_alike : (a b : Result (List ℕ) Refusal) → ExecEnds turns e pages steps a → ExecEnds turns e pages steps b → status_of_end a ≡ status_of_end b
      end_alike (Ok s) (Ok t) h k = refl
      end_alike (Ok s) (Err r) h (n, k) = absurd (never_both s r h k n)
      end_alike (Err r) (Ok t) (n, h) k = absurd (never_both t r k h n)
      end_alike (Err r) (Err q) (n, h) (m, k) = refuse_alike r q h k n m

    pub accepting_of : (r : Refusal) → StageRefuses turns e pages steps r → Accepting turns e
    accepting_of r (in_search x w h) = x
    accepting_of r (in_erasure x w h) = x.before
    accepting_of r (in_passes x h) = x.before.before
    accepting_of r (in_run x a h) = x.before.before.before
    accepting_of r (in_text x a h) = x.before.before.before.before

    accepted_end : (status : ℕ) → Accepting turns e → EndsWith turns e status → status ≡ 0
    accepted_end status x h = accepted_status turns e status (accepted_by turns e x.kept x.type x.left x.accepted) h

    ended : (a : Result (List ℕ) Refusal) (status : ℕ) → ExecEnds turns e pages steps a → Accepting turns e → ExecEndsWith turns e pages steps status → status ≡ status_of_end a
    ended a status h x (inl k) = absurd (k.1 (accepted_end status x k.0))
    ended a status h x (inr k) = k.status_is ∙ end_alike k.search_within k.erasure_within k.end a k.ends h

-- ---- where main has a module

module _ (turns : ℕ) (e : RawEnv) (pages steps : ℕ) (c : IsCompilable turns e pages) where
  -- what the run's refusals say of a status
  late_of : (q : RunRefusal) → Ends (its_module pages c.stages) pages steps (Err q) → refused q ≢ refused running.Memory → (status : ℕ) → status ≡ run_status (Err q) → Finishes turns e pages steps status
  late_of running.ModuleBytes h n status q = absurd (let small = c.small in omega (arith, h, small))
  late_of running.Exhausted h n status q = record { among = (3, lit< tt, sym q); many = λ z. absurd (omega (arith, q, z)) }
  late_of running.StepsSpent h n status q = record { among = (4, lit< tt, sym q); many = λ z. absurd (omega (arith, q, z)) }
  late_of (running.Trapped k) h n status q = record { among = (5, lit< tt, sym q); many = λ z. absurd (omega (arith, q, z)) }
  late_of (running.NoValue w) h n status q = record { among = (5, lit< tt, sym q); many = λ z. absurd (omega (arith, q, z)) }
  late_of running.AnswerNodes h n status q = record { among = (2, lit< tt, sym q); many = λ z. (c.stages, h.1) }
  late_of running.Memory h n status q = absurd (n refl)

  refuses_late : (r : Refusal) → StageRefuses turns e pages steps r → r ≢ refusals.Memory → Finishes turns e pages steps (status_of r)
  refuses_late r (in_search x w h) n = absurd (no_search turns e pages steps c.search_within c.erasure_within r x w h n c.stages.before.before)
  refuses_late r (in_erasure x w h) n = absurd (no_erasure turns e pages steps c.search_within c.erasure_within r x w h n c.stages.before)
  refuses_late r (in_passes x h) n = absurd (no_passes turns e pages steps c.search_within c.erasure_within r x h n c.stages)
  refuses_late r (in_run x a h) n = (let o = run_stops turns e pages steps c.search_within c.erasure_within r x h n c.stages in late_of o.why o.ends o.other (status_of r) o.status)
  refuses_late r (in_text x a h) n =
      (let q = (no_text_of (its_shapes x.before.before) x.answer r h n).0 in record { among = (5, lit< tt, sym q); many = λ z. absurd (omega (arith, q, z)) })

  pub finishes : (r : Refusal) → IsCheckCause turns r e ⊎ IsExecCause turns pages steps r e → (IsSure r → ⊥) → Finishes turns e pages steps (status_of r)
  finishes r (inl k) n = absurd (not_zero r (sym (cause_status turns r e 0 k n c.check)))
  finishes r (inr k) n = refuses_late r k.1 k.0

-- ---- statuses that come after the check

early : (status : ℕ) → IsLate status → 1 ≤ status → status ≤ 9 → (status ≡ 4 → ⊥) → ⊥
early status (inl z) low high n = omega (arith, z, low)
early status (inr (inl z)) low high n = n z
early status (inr (inr z)) low high n = omega (arith, z, high)

-- no refusal of the check is one
pub check_early : (turns : ℕ) (r : Refusal) (e : RawEnv) → IsCheckCause turns r e → IsLate (status_of r) → ⊥
check_early turns refusals.TurnsSpent e c h = early 8 h (lit≤ tt) (lit≤ tt) (λ q. omega (arith, q))
check_early turns refusals.Depth e c h = early 7 h (lit≤ tt) (lit≤ tt) (λ q. omega (arith, q))
check_early turns (refusals.Broken k p) e c h = early 9 h (lit≤ tt) (lit≤ tt) (λ q. omega (arith, q))
check_early turns _ e c h = c

-- nor is one of the text
pub text_early : (q : ReadRefusal) → IsLate (status_of (refusal_of q)) → ⊥
text_early (reads.Limit l o) h = early 7 h (lit≤ tt) (lit≤ tt) (λ z. omega (arith, z))
text_early q h = early (status_of (refusal_of q)) h (lit≤ tt) (lit≤ tt) (λ z. omega (arith, z))

pub fault_early : IsLate 3 → ⊥
fault_early h = early 3 h (lit≤ tt) (lit≤ tt) (λ q. omega (arith, q))

pub memory_early : IsLate 1 → ⊥
memory_early h = early 1 h (lit≤ tt) (lit≤ tt) (λ q. omega (arith, q))

pub length_early : IsLate 7 → ⊥
length_early h = early 7 h (lit≤ tt) (lit≤ tt) (λ q. omega (arith, q))

-- what stops after the check stands in an environment that is well formed
pub well_of : (turns : ℕ) (e : RawEnv) (pages steps : ℕ) (r : Refusal) → StageRefuses turns e pages steps r → IsWell e
well_of turns e pages steps r h = (let x = accepting_of turns e pages steps r h in record { kept = x.kept; type = x.type; checked = x.checked })

pub exec_status : (turns : ℕ) → (r : Refusal) (e : RawEnv) (pages steps status : ℕ) → IsCheckCause turns r e ⊎ IsExecCause turns pages steps r e → (IsSure r → ⊥) → ExecEndsWith turns e pages steps status → status ≡ status_of r
exec_status turns r e pages steps status (inl c) n (inl h) = cause_status turns r e status c n h.0
exec_status turns r e pages steps status (inl c) n (inr h) = absurd (not_zero r (sym (cause_status turns r e 0 c n h.check)))
exec_status turns r e pages steps status (inr c) n h = ended turns e pages steps (Err r) status c (accepting_of turns e pages steps r c.1) h

pub executed_status : (turns : ℕ) → (e : RawEnv) (pages steps : ℕ) (text : List ℕ) (status : ℕ) → ExecEnds turns e pages steps (Ok text) → ExecEndsWith turns e pages steps status → status ≡ 0
executed_status turns e pages steps text status c h = ended turns e pages steps (Ok text) status c c.0.before.before.before.before h
