-- The end of the answer of a module that is given as bytes is one.
use Rattle.std.proofs.Common.{◌≡◌, ◌≢◌, ℕ, ◌≤◌, List, length, Some, None, Result, Ok, Err, refl, sym, ap, subst, ◌∙◌, arith}
use Rattle.std.proofs.lemmas.Option.{same_Some}
use Rattle.wasm_core.specs.declared.ended.NewFault.{NewFault}
use Rattle.wasm_core.specs.declared.ended.NewFault.TheVariants as new
use Rattle.wasm_core.specs.Parts.{Parts}
use Rattle.wasm_core.specs.WordData.{DataNodes}
use Rattle.wasm_core.specs.ModuleGrammar.{SpellsModule, StopsModule}
use Rattle.wasm_core.specs.ModuleTyping.{IsValid}
use Rattle.wasm_core.specs.FirstFault.{FirstFault}
use Rattle.wasm_core.specs.ShortestBytes.{most_bytes}
use Rattle.wasm_core.specs.MachineRun.{refusal}
use Rattle.wasm_core.proofs.Exact.{exact}
use Rattle.wasm_core.proofs.FaultUnique.{first_fault_is_fault, first_fault_unique}
use Rattle.wasm_encode.proofs.Fewest.{none_is_shorter}
use Rattle.module_run.specs.declared.answer.Answer.{Answer}
use Rattle.module_run.specs.declared.refusal.RunRefusal.{RunRefusal}
use Rattle.module_run.specs.declared.refusal.RunRefusal.TheVariants as runs
use Rattle.module_run.specs.Ends.{Ends, IsSmall}
use Rattle.module_run.proofs.OneEnd.{end_is_one}
use Rattle.module_run.specs.declared.file_refusal.FileRefusal.{FileRefusal}
use Rattle.module_run.specs.declared.file_refusal.FileRefusal.TheVariants as refusals
use Rattle.module_run.specs.FileEnds.{FileEnds, of_run}
use Rattle.module_run.specs.FileLaws.{FileEndIsOne}

-- the end of a run, as one of a file
abbrev of_end : Result Answer RunRefusal → Result DataNodes FileRefusal
of_end (Ok a) = Ok a.tree
of_end (Err why) = Err (of_run why)

-- the refusal of a start, as one of a file
abbrev of_start : NewFault → Result DataNodes FileRefusal
of_start (new.NoEntry n) = Err (refusals.NoEntry n)
of_start new.Pages = Err refusals.Pages
of_start new.Table = Err refusals.Table
of_start (new.ElementPastTable s) = Err refusals.ElementPastTable
of_start new.Memory = Err refusals.Memory

-- the stage at which an end comes
data Stage (bytes : List ℕ) (cap n : ℕ) (r : Result DataNodes FileRefusal) : Type 0 where
  unread : (o : ℕ) → StopsModule bytes o → r ≡ Err (refusals.Bad o) → Stage bytes cap n r
  untyped : (m : Parts) → SpellsModule bytes m → (f p : ℕ) → FirstFault m f p → r ≡ Err (refusals.Invalid f p) → Stage bytes cap n r
  unstarted : (m : Parts) → SpellsModule bytes m → IsValid m → (x : NewFault) → refusal m cap ≡ Some x → r ≡ of_start x → Stage bytes cap n r
  ran : (m : Parts) → SpellsModule bytes m → IsValid m → refusal m cap ≡ None → (x : Result Answer RunRefusal) → Ends m cap n x → x ≢ Err runs.Memory → r ≡ of_end x → Stage bytes cap n r

module _ (bytes : List ℕ) (cap n : ℕ) (short : length bytes ≤ most_bytes) where
  small : (m : Parts) → SpellsModule bytes m → IsSmall m
  small m s = (let few = (none_is_shorter bytes m s).0 in omega (arith, few, short))

  stage_of : (r : Result DataNodes FileRefusal) → FileEnds bytes cap n r → r ≢ Err refusals.Memory → Stage bytes cap n r
  stage_of (Ok d) (m, s, v, (none, (word, h))) k = ran m s v none (Ok (record { word = word; tree = d })) (small m s, h) (λ e. cc) refl
  stage_of (Err (refusals.Bad o)) h k = unread o h refl
  stage_of (Err (refusals.Invalid f p)) (m, s, h) k = untyped m s f p h refl
  stage_of (Err (refusals.NoEntry x)) (m, s, v, h) k = unstarted m s v (new.NoEntry x) h refl
  stage_of (Err refusals.Pages) (m, s, v, h) k = unstarted m s v new.Pages h refl
  stage_of (Err refusals.Table) (m, s, v, h) k = unstarted m s v new.Table h refl
  stage_of (Err refusals.ElementPastTable) (m, s, v, (x, h)) k = unstarted m s v (new.ElementPastTable x) h refl
  stage_of (Err refusals.Exhausted) (m, s, v, (none, h)) k = ran m s v none (Err runs.Exhausted) (small m s, h) (λ e. cc) refl
  stage_of (Err refusals.StepsSpent) (m, s, v, (none, h)) k = ran m s v none (Err runs.StepsSpent) (small m s, h) (λ e. cc) refl
  stage_of (Err (refusals.Trapped x)) (m, s, v, (none, h)) k = ran m s v none (Err (runs.Trapped x)) (small m s, h) (λ e. cc) refl
  stage_of (Err (refusals.NoValue w)) (m, s, v, (none, h)) k = ran m s v none (Err (runs.NoValue w)) (small m s, h) (λ e. cc) refl
  stage_of (Err refusals.AnswerNodes) (m, s, v, (none, h)) k = ran m s v none (Err runs.AnswerNodes) (small m s, h) (λ e. cc) refl
  stage_of (Err refusals.Memory) h k = absurd (k refl)

  -- two stages of one file
  one_stage : (a b : Result DataNodes FileRefusal) → Stage bytes cap n a → Stage bytes cap n b → a ≡ b
  one_stage a b (unread o h e) (unread q k f) = e ∙ ap (λ x. Err (refusals.Bad x)) (exact.one_offset bytes o q h k) ∙ sym f
  one_stage a b (unread o h e) (untyped m s g p k f) = absurd (exact.not_both bytes m o s h)
  one_stage a b (unread o h e) (unstarted m s v x k f) = absurd (exact.not_both bytes m o s h)
  one_stage a b (unread o h e) (ran m s v none x k y f) = absurd (exact.not_both bytes m o s h)
  one_stage a b (untyped m s g p h e) (unread o k f) = absurd (exact.not_both bytes m o s k)
  one_stage a b (untyped m s g p h e) (untyped l t i q k f) =
      let same = first_fault_unique l g p i q (subst (λ z. FirstFault z g p) (exact.one_module bytes m l s t) h) k in
      e ∙ (λ x. Err (refusals.Invalid (same.0 x) (same.1 x))) ∙ sym f
  one_stage a b (untyped m s g p h e) (unstarted l t v x k f) = absurd (first_fault_is_fault m g p h (subst IsValid (exact.one_module bytes l m t s) v))
  one_stage a b (untyped m s g p h e) (ran l t v none x k y f) = absurd (first_fault_is_fault m g p h (subst IsValid (exact.one_module bytes l m t s) v))
  one_stage a b (unstarted m s v x h e) (unread o k f) = absurd (exact.not_both bytes m o s k)
  one_stage a b (unstarted m s v x h e) (untyped l t g p k f) = absurd (first_fault_is_fault l g p k (subst IsValid (exact.one_module bytes m l s t) v))
  one_stage a b (unstarted m s v x h e) (unstarted l t w y k f) =
      let same : Some x ≡ Some y = sym h ∙ ap (λ z. refusal z cap) (exact.one_module bytes m l s t) ∙ k in
      let one : x ≡ y = same_Some _ _ same in
      e ∙ ap of_start one ∙ sym f
  one_stage a b (unstarted m s v x h e) (ran l t w none y k z f) =
      let same : Some x ≡ None = sym h ∙ ap (λ z. refusal z cap) (exact.one_module bytes m l s t) ∙ none in
      cc
  one_stage a b (ran m s v none x h y e) (unread o k f) = absurd (exact.not_both bytes m o s k)
  one_stage a b (ran m s v none x h y e) (untyped l t g p k f) = absurd (first_fault_is_fault l g p k (subst IsValid (exact.one_module bytes m l s t) v))
  one_stage a b (ran m s v none x h y e) (unstarted l t w z k f) =
      let same : Some z ≡ None = sym k ∙ ap (λ z. refusal z cap) (exact.one_module bytes l m t s) ∙ none in
      cc
  one_stage a b (ran m s v none x h y e) (ran l t w free z k u f) =
      let one = end_is_one l cap n x z (subst (λ w. Ends w cap n x) (exact.one_module bytes m l s t) h) k y u in
      e ∙ ap of_end one ∙ sym f

pub file_end_is_one : FileEndIsOne
file_end_is_one bytes cap n a b short h k x y = one_stage bytes cap n short a b (stage_of bytes cap n short a h x) (stage_of bytes cap n short b k y)
