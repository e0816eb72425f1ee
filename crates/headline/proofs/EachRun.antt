-- What every run of a program's module does, from the laws of the passes together.
use Rattle.std.proofs.Common.{◌≡◌, ◌∙◌, ℕ, ◌+◌, ◌*◌, ◌≤◌, ◌⊎◌, length, inl, inr, true, false, refl, sym, subst, arith}
use Rattle.std.proofs.lemmas.Option.{same_Some}
use Rattle.lambda_box.specs.DataTerms.{greatest_words}
use Rattle.lambda_box.proofs.Determined.{evaluation_is_determined}
use Rattle.box_passes.specs.PassLaws.{saturated_program}
use Rattle.box_passes.proofs.Passes.{passes_form}
use Rattle.wasm_core.specs.Parts.{Parts}
use Rattle.wasm_core.specs.declared.ended.Ended.TheVariants.{Returned, Trapped}
use Rattle.wasm_core.specs.declared.ended.TrapKind.{TrapKind}
use Rattle.wasm_core.specs.MachineStep.{State, Store, Conf, At, Over, Reach}
use Rattle.wasm_core.specs.Runs.{store_of}
use Rattle.wasm_core.specs.RunTree.{Fate, goes_on, ended, ran_out}
use Rattle.wasm_core.specs.Answer.{Answers, Exhausted, exhausted}
use Rattle.wasm_core.specs.WordData.{DataNodes as Nodes}
use Rattle.wasm_emit.specs.EmitLaws.{Spent}
use Rattle.known_calls.specs.KnownLaws.{FinishedWithin}
use Rattle.back_end.proofs.Bounds.{bounds}
use Rattle.back_end.proofs.Total.{total_back_end}
use Rattle.back_end.proofs.Whole.{product_le}
use Rattle.back_end.proofs.Lower.{returned}
use Rattle.headline.specs.EveryRun.{module_for, EvaluatedProgramsAnswer}

chosen : {M : Parts} {t : State} → Exhausted M t → ((trap : TrapKind) (s : Store) → t ≡ Over (Trapped trap) s → s.by_choice ≡ true) → (store_of t).by_choice ≡ true
chosen (exhausted {k = k} {store = s} x) h = h k s refl

unless_exhausted : (M : Parts) (tree : Nodes) (t : State) → Answers M tree t ⊎ Exhausted M t → ((trap : TrapKind) (s : Store) → t ≡ Over (Trapped trap) s → s.by_choice ≡ true) →
    (store_of t).by_choice ≡ false → Answers M tree t
unless_exhausted M tree t (inl a) h e = a
unless_exhausted M tree t (inr x) h e = let f : true ≡ false = sym (chosen x h) ∙ e in absurd cc

-- where the run goes on, so many frames wait at most
pub few_wait : {M : Parts} {frames bytes least n : ℕ} {tree : Nodes} {c : Conf} → Fate M frames (FinishedWithin M tree bytes) (Spent M bytes) least n (At c) → length c.callers ≤ frames
few_wait (goes_on s t few x y) = few
few_wait (ended q le) = elim q [ ]
few_wait (ran_out x) = elim x [ ]

pub each_run : EvaluatedProgramsAnswer
each_run P pages w b n tree pos small some words within e =
    let M = module_for P pages in
    let own = greatest_words P in
    let x = total_back_end P pages b e.value tree e.nodes e.matches pos small some within e.evaluates e.reads in
    let y = bounds P pages b e.value tree e.nodes e.matches pos small some within e.evaluates e.reads in
    let a = x.always in
    let few = e.few in
    let steps : 1024 * e.nodes * (own + b) ≤ 1024 * n * (w + b) = product_le (1024 * e.nodes) (1024 * n) (own + b) (w + b) (omega (arith, few)) (omega (arith, words)) in
    let bytes : 32 * e.nodes * own ≤ 32 * n * w = product_le (32 * e.nodes) (32 * n) own w (omega (arith, few)) words in
    record {
      answers = record { first = a.first; starts = a.starts; bounded = λ k t r. let s = y.steps a.first k t a.starts r in omega (arith, s, steps); answers = a.answers };
      enough = λ big k t r end. unless_exhausted M tree t (a.answers k t r end) (λ trap s q. y.memory (omega (arith, big, bytes)) a.first k trap s a.starts (subst (λ (u : State). Reach M k a.first u) q r));
      lifted = x.lifted;
      shallow = omega (arith, x.shallow, few);
      waiting = λ k c r. few_wait (x.run k (At c) (subst (λ (f : State). Reach M k f (At c)) (same_Some _ _ (sym a.starts ∙ x.starts)) r)).1;
      least = λ value nodes matches k s evaluates r.
          let same : x.matches ≡ matches = (evaluation_is_determined (saturated_program P) (passes_form P within.form).form (saturated_program P).main x.w value x.nodes nodes x.matches matches x.saturated evaluates).2 in
          let late = returned (x.run k (Over Returned s) (subst (λ (f : State). Reach M k f (Over Returned s)) (same_Some _ _ (sym a.starts ∙ x.starts)) r)).1 in
          omega (arith, same, late);
    }
