-- A job's answers on the same bytes are one text.
use Rattle.std.proofs.Common.{◌≡◌, ◌≢◌, ℕ, ◌<◌, ◌≤◌, List, [], ◌∷◌, ◌++◌, length, Ok, inl, inr, refl, sym, ap, subst, ◌∙◌, arith}
use Rattle.std.proofs.lemmas.Bool.{cases_lt}
use Rattle.std.proofs.lemmas.Option.{same_Some}
use Rattle.calculus_rules.proofs.OneEach.{one_of_each}
use Rattle.calculus_rules.specs.FirstOrder.{Data}
use Rattle.dump_reader.specs.declared.environment.RawEnv.{RawEnv}
use Rattle.first_order.specs.Searching.{AreNamed}
use Rattle.first_order.specs.Texts.{Naming, IsText, by_shapes, by_tags}
use Rattle.wasm_core.specs.declared.ended.Ended.TheVariants.{Returned}
use Rattle.wasm_core.specs.Parts.{Parts}
use Rattle.wasm_core.specs.MachineStep.{Store, Over}
use Rattle.wasm_core.specs.Runs.{Moves, store_of}
use Rattle.wasm_core.specs.ShortestBytes.{module_bytes}
use Rattle.module_run.specs.declared.answer.Answer.{Answer}
use Rattle.module_run.specs.Ends.{IsReturned, IsRun}
use Rattle.module_run.specs.FileEnds.{FileEnds}
use Rattle.module_run.proofs.OneFileEnd.{file_end_is_one}
use Rattle.module_run.proofs.OneRun.{one_run, went_on}
use Rattle.command_line.specs.declared.job.Job.{Job}
use Rattle.command_line.specs.declared.job.Job.TheVariants.{Exec, Check, Eval, Run, Compile, Bench, Explain, Export, Call, Verify, Cert}
use Rattle.command_line.specs.declared.line.Request.{Request}
use Rattle.driver.specs.Bench.{five_lines, lines_of}
use Rattle.driver.specs.ExecEnds.{Answering, Compiling, its_module, its_shapes}
use Rattle.driver.specs.Serve.{IsAnswerOf, input_limit}
use Rattle.driver.specs.SourceSays.{IsLine}
use Rattle.driver.specs.CallEnds.{CallAnswering, answer_shapes}
use Rattle.driver.specs.CallStages.{CallCompiling, its_call_module}
use Rattle.driver.proofs.CallCauses.{one_answer_set, one_call_module}
use Rattle.driver.proofs.CallJobCauses.{one_call_answer}
use Rattle.driver.proofs.ExecCauses.{one_acceptance, one_answer, one_module, one_set}
use Rattle.driver.proofs.TextCauses.{benched_on, called_on, executed_on, one_environment}
use Rattle.job_laws.proofs.OneCertificate.{certified_text_is_one}
use Rattle.job_laws.proofs.OneText.{names_alike, text_is_one}

line_is_one : (N : Naming) (ds es : Data) (line other text text' : List ℕ) → ds ≡ es → IsText N 0 ds line → IsText N 0 es other → text ≡ line ++ 10 ∷ [] → text' ≡ other ++ 10 ∷ [] → text ≡ text'
line_is_one N ds es line other text text' same h k e f = e ∙ ap (λ l. l ++ 10 ∷ []) (text_is_one N es line other (subst (λ d. IsText N 0 d line) same h) k) ∙ sym f

-- ---- main's module

module _ (turns : ℕ) (e : RawEnv) (pages steps : ℕ) where
  -- the two sets name alike
  naming_is_one : (x y : Answering turns e pages steps) → by_shapes (its_shapes x.before.before) e.names ≡ by_shapes (its_shapes y.before.before) e.names
  naming_is_one x y =
      let s = x.before.before.before in
      let r = y.before.before.before in
      let kept = (one_acceptance turns e s.before r.before).0 in
      names_alike r.before.kept (one_of_each r.before.kept r.before.checked.formed.accepted) s.shapes r.shapes e.names (subst (λ E. AreNamed E s.shapes) kept s.named) r.named (one_set turns e s r)

  pub answer_text_is_one : (x y : Answering turns e pages steps) (text text' : List ℕ) → IsLine (its_shapes x.before.before) e.names x.answer.tree text → IsLine (its_shapes y.before.before) e.names y.answer.tree text' → text ≡ text'
  answer_text_is_one x y text text' (line, is, e') (line', is', e'') =
      line_is_one (by_shapes (its_shapes y.before.before) e.names) x.answer.tree y.answer.tree line line' text text' (ap (λ (a : Answer). a.tree) (one_answer turns e pages steps x y))
      (subst (λ N. IsText N 0 x.answer.tree line) (naming_is_one x y) is) is' e' e''

-- ---- the figures of its run

module _ (m : Parts) (cap n : ℕ) where
  one_start : (a b : Store) (r : IsRun m cap n (Over Returned a)) (q : IsRun m cap n (Over Returned b)) → r.first ≡ q.first
  one_start a b r q = same_Some _ _ (sym r.starts ∙ q.starts)

  not_fewer : (a b : Store) (r : IsRun m cap n (Over Returned a)) (q : IsRun m cap n (Over Returned b)) → r.steps < q.steps → ⊥
  not_fewer a b r q lt = went_on m cap r.steps q.steps r.first (Over Returned a) (Over Returned b) lt r.moves (subst (λ s. Moves m cap q.steps s (Over Returned b)) (sym (one_start a b r q)) q.moves)

  steps_are_one : (v w : ℕ) (x : IsReturned m cap n v) (y : IsReturned m cap n w) → x.run.steps ≡ y.run.steps
  steps_are_one v w x y =
      elim (cases_lt x.run.steps y.run.steps) [
        | inl less ↦ absurd (not_fewer x.store y.store x.run y.run less)
        | inr le ↦ elim (cases_lt y.run.steps x.run.steps) [
          | inl more ↦ absurd (not_fewer y.store x.store y.run x.run more)
          | inr ge ↦ omega (arith, le, ge)
        ]
      ]

  pages_are_one : (v w : ℕ) (x : IsReturned m cap n v) (y : IsReturned m cap n w) → x.store.pages ≡ y.store.pages
  pages_are_one v w x y = ap (λ s. (store_of s).pages) (one_run m cap n Returned Returned x.store y.store x.run y.run)

-- of one module, said twice
figures_are_one : (m p : Parts) (cap n v w : ℕ) → m ≡ p → (x : IsReturned m cap n v) (y : IsReturned p cap n w) → (x.run.steps ≡ y.run.steps) × (x.store.pages ≡ y.store.pages)
figures_are_one m p cap n v w same x =
    subst (λ z. (y : IsReturned z cap n w) → (x.run.steps ≡ y.run.steps) × (x.store.pages ≡ y.store.pages)) same (λ y. (steps_are_one m cap n v w x y, pages_are_one m cap n v w x y))

bench_text_is_one : (turns : ℕ) (e : RawEnv) (pages steps : ℕ) (x y : Answering turns e pages steps) (text text' : List ℕ) → text ≡ text' → lines_of x text ≡ lines_of y text'
bench_text_is_one turns e pages steps x y text text' same =
    let module_is = one_module turns e pages x.before y.before in
    let f = figures_are_one (its_module pages x.before) (its_module pages y.before) pages steps x.answer.word y.answer.word module_is x.ends.1.returned y.ends.1.returned in
    λ i. five_lines (length e.decls) (length (module_bytes (module_is i))) (f.0 i) (f.1 i) (same i)

-- ---- the module of `compile`

made_is_one : (turns : ℕ) (e f : RawEnv) (pages : ℕ) → e ≡ f → (x : Compiling turns e) (y : Compiling turns f) → module_bytes (its_module pages x) ≡ module_bytes (its_module pages y)
made_is_one turns e f pages same x = subst (λ z. (y : Compiling turns z) → module_bytes (its_module pages x) ≡ module_bytes (its_module pages y)) same (λ y. ap module_bytes (one_module turns e pages x y))

-- and of `export`
exported_is_one : (turns : ℕ) (e f : RawEnv) (pages : ℕ) → e ≡ f → (x : CallCompiling turns e) (y : CallCompiling turns f) → module_bytes (its_call_module pages x) ≡ module_bytes (its_call_module pages y)
exported_is_one turns e f pages same x =
    subst (λ z. (y : CallCompiling turns z) → module_bytes (its_call_module pages x) ≡ module_bytes (its_call_module pages y)) same (λ y. ap module_bytes (one_call_module turns e pages x y))

-- ---- the answer of `call`

module _ (turns : ℕ) (e : RawEnv) (bytes : List ℕ) (pages steps : ℕ) where
  answer_naming_is_one : (x y : CallAnswering turns e bytes pages steps) → by_shapes (answer_shapes x.before.before.before) e.names ≡ by_shapes (answer_shapes y.before.before.before) e.names
  answer_naming_is_one x y =
      let s = x.before.before.before in
      let r = y.before.before.before in
      let kept = (one_acceptance turns e s.before r.before).0 in
      names_alike r.before.kept (one_of_each r.before.kept r.before.checked.formed.accepted) s.signature.answer.types r.signature.answer.types e.names
      (subst (λ E. AreNamed E s.signature.answer.types) kept s.named.1) r.named.1 (one_answer_set turns e s r)

  called_text_is_one : (x y : CallAnswering turns e bytes pages steps) (text text' : List ℕ) → IsLine (answer_shapes x.before.before.before) e.names x.answer.tree text →
      IsLine (answer_shapes y.before.before.before) e.names y.answer.tree text' → text ≡ text'
  called_text_is_one x y text text' (line, is, e') (line', is', e'') =
      line_is_one (by_shapes (answer_shapes y.before.before.before) e.names) x.answer.tree y.answer.tree line line' text text'
      (ap (λ (a : Answer). a.tree) (one_call_answer turns e bytes pages steps x y)) (subst (λ N. IsText N 0 x.answer.tree line) (answer_naming_is_one x y) is) is' e' e''

-- ---- any job but `eval` and `explain`

tree_is_one : (bytes : List ℕ) (cap n : ℕ) (d e : Data) → length bytes ≤ input_limit → FileEnds bytes cap n (Ok d) → FileEnds bytes cap n (Ok e) → d ≡ e
tree_is_one bytes cap n d e short h k = (let same : Ok d ≡ Ok e = file_end_is_one bytes cap n (Ok d) (Ok e) short h k (λ z. cc) (λ z. cc) in cc)

pub answer_is_one : (job : Job) (q : Request) (bytes text text' : List ℕ) → length bytes ≤ input_limit → job ≢ Eval → job ≢ Explain → IsAnswerOf job q bytes text → IsAnswerOf job q bytes text' → text ≡ text'
answer_is_one Exec q bytes text text' short n m a b =
    let (x, line) = executed_on q bytes text b.environment b.spelled a in
    answer_text_is_one q.turns b.environment q.pages q.steps x b.stages text text' line b.text_is
answer_is_one Check q bytes text text' short n m a b = a.text_is ∙ sym b.text_is
answer_is_one Eval q bytes text text' short n m a b = absurd (n refl)
answer_is_one Explain q bytes text text' short n m a b = absurd (m refl)
answer_is_one Run q bytes text text' short n m a b = line_is_one by_tags a.tree b.tree a.line b.line text text' (tree_is_one bytes q.pages q.steps a.tree b.tree short a.ends b.ends) a.line_is b.line_is a.text_is b.text_is
answer_is_one Compile q bytes text text' short n m a b = a.text_is ∙ made_is_one q.turns a.environment b.environment q.pages (one_environment bytes a.environment b.environment a.spelled b.spelled) a.stages b.stages ∙ sym b.text_is
answer_is_one Export q bytes text text' short n m a b = a.text_is ∙ exported_is_one q.turns a.environment b.environment q.pages (one_environment bytes a.environment b.environment a.spelled b.spelled) a.stages b.stages ∙ sym b.text_is
answer_is_one Call q bytes text text' short n m a b =
    let (x, line) = called_on q bytes text b.environment b.spelled a in
    called_text_is_one q.turns b.environment bytes q.pages q.steps x b.stages text text' line b.text_is
answer_is_one Verify q bytes text text' short n m a b = a.text_is ∙ sym b.text_is
answer_is_one Cert q bytes text text' short n m a b =
    a.text_is ∙ certified_text_is_one q.turns a.environment b.environment a.items b.items (one_environment bytes a.environment b.environment a.spelled b.spelled) a.certified b.certified ∙ sym b.text_is
answer_is_one Bench q bytes text text' short n m a b =
    let e = b.executed.environment in
    let (answer, x, line, is) = benched_on q bytes text e b.executed.spelled a in
    is
    ∙ bench_text_is_one q.turns e q.pages q.steps x b.executed.stages answer b.answer (answer_text_is_one q.turns e q.pages q.steps x b.executed.stages answer b.answer line b.executed.text_is)
    ∙ sym b.text_is
