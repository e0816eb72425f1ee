-- What the stages of `exec` say, as what its end shows.
use Rattle.std.proofs.Common.{◌≡◌, ◌∙◌, ℕ, List, length, Err, inl, inr, sym, subst, arith}
use Rattle.std.specs.Prelude.{Vec}
use Rattle.std.specs.declared.alloc.Global.{Global}
use Rattle.compile.proofs.Within.{fits_valid}
use Rattle.dump_reader.specs.declared.environment.RawEnv.{RawEnv}
use Rattle.wasm_core.specs.ModuleGrammar.{SpellsModule}
use Rattle.wasm_core.specs.ModuleTyping.{IsValid}
use Rattle.wasm_core.specs.ShortestBytes.{module_bytes}
use Rattle.module_run.specs.declared.answer.Measured.{Measured}
use Rattle.module_run.specs.Figures.{IsMeasured}
use Rattle.driver.specs.declared.main_module.MainModule.{MainModule}
use Rattle.driver.specs.declared.refusal.ArgumentFault.{ArgumentFault}
use Rattle.driver.specs.declared.refusal.CertificateFault.{CertificateFault}
use Rattle.driver.specs.declared.refusal.ModuleFault.{ModuleFault}
use Rattle.driver.specs.declared.refusal.Refusal.{Refusal}
use Rattle.driver.specs.declared.refusal.Refusal.TheVariants as refusals
use Rattle.command_line.specs.declared.job.Job.TheVariants.{Compile, Exec}
use Rattle.command_line.specs.declared.line.Request.{Request}
use Rattle.command_line.specs.Line.{IsInRange}
use Rattle.driver.specs.Texts.{SpellsWithin}
use Rattle.driver.specs.ExecEnds.{ExecRunSays, TextRefuses, Compiling, Answering, StageRefuses, in_search, in_erasure, in_passes, in_run, in_text, its_module}
use Rattle.driver.specs.SourceSays.{IsLine}
use Rattle.driver.specs.Figures.{HasFigures}
use Rattle.driver.specs.MainModule.{IsMainModule}
use Rattle.driver.specs.Serve.{IsOfCheck, RefusalSays}
use Rattle.driver.proofs.MadeCauses.{as_exec}
use Rattle.driver.proofs.Sizes.{shows_large}

module _ (turns : ℕ) (e : RawEnv) (pages steps : ℕ) where
  abbrev Stops : Refusal → Type 0
  Stops r = StageRefuses turns e pages steps r

  -- no stage refuses so

  pub no_stuck : Stops refusals.Stuck → ⊥
  no_stuck (in_search x w h) = h
  no_stuck (in_erasure x w h) = h
  no_stuck (in_passes x h) = h
  no_stuck (in_run x a h) = h
  no_stuck (in_text x a h) = h

  pub no_module : (w : ModuleFault) → Stops (refusals.Module w) → ⊥
  no_module w (in_search x v h) = h
  no_module w (in_erasure x v h) = h
  no_module w (in_passes x h) = h
  no_module w (in_run x a h) = h
  no_module w (in_text x a h) = h

  pub no_argument : (w : ArgumentFault) → Stops (refusals.Argument w) → ⊥
  no_argument w (in_search x v h) = h
  no_argument w (in_erasure x v h) = h
  no_argument w (in_passes x h) = h
  no_argument w (in_run x a h) = h
  no_argument w (in_text x a h) = h

  pub no_certificate : (w : CertificateFault) → Stops (refusals.Certificate w) → ⊥
  no_certificate w (in_search x v h) = h
  no_certificate w (in_erasure x v h) = h
  no_certificate w (in_passes x h) = h
  no_certificate w (in_run x a h) = h
  no_certificate w (in_text x a h) = h

-- a refusal of some stage, or want of memory, is a cause
exec_says : (q : Request) (r : Refusal) (bytes : List ℕ) (e : RawEnv) → SpellsWithin bytes e → StageRefuses q.turns e q.pages q.steps r → RefusalSays Exec q r bytes
exec_says q refusals.Memory bytes e s h = tt
exec_says q refusals.Depth bytes e s h = (e, s, inr (((λ x. cc), h), λ x. tt))
exec_says q refusals.TurnsSpent bytes e s h = (e, s, inr (((λ x. cc), h), λ x. tt))
exec_says q (refusals.Broken n p) bytes e s h = (e, s, inr (((λ x. cc), h), λ x. tt))
exec_says q refusals.Types bytes e s h = (e, s, inr (((λ x. cc), h), λ x. tt))
exec_says q refusals.AnswerNodes bytes e s h = (e, s, inr (((λ x. cc), h), λ x. tt))
exec_says q refusals.NotFirstOrder bytes e s h = (e, s, inr (((λ x. cc), h), λ x. tt))
exec_says q (refusals.Axiom name) bytes e s h = (e, s, inr (((λ x. cc), h), λ x. tt))
exec_says q (refusals.Run w) bytes e s h = (e, s, inr (((λ x. cc), h), λ x. tt))
exec_says q (refusals.Program l) bytes e s h = (e, s, inr (((λ x. cc), h), shows_large q.turns e q.pages q.steps l h))
exec_says q _ bytes e s h = absurd (elim h [ in_search x w k ↦ k | in_erasure x w k ↦ k | in_passes x k ↦ k | in_run x a k ↦ k | in_text x a k ↦ k ])

-- a refusal of `compile` is one of `exec`

shared_cause : (q : Request) (r : Refusal) (bytes : List ℕ) → IsOfCheck Compile q r bytes → IsOfCheck Exec q r bytes
shared_cause q r bytes (e, s, inl c) = (e, s, inl c)
shared_cause q r bytes (e, s, inr (c, large)) = (e, s, inr ((c.0, as_exec q.turns e q.pages q.steps r c.1), large))

pub shared_says : (q : Request) (r : Refusal) (bytes : List ℕ) → RefusalSays Compile q r bytes → RefusalSays Exec q r bytes
shared_says q refusals.Memory bytes h = h
shared_says q refusals.Usage bytes h = h
shared_says q refusals.ReadFault bytes h = h
shared_says q refusals.WriteFault bytes h = h
shared_says q (refusals.Syntax o) bytes h = h
shared_says q (refusals.Unsupported w o) bytes h = h
shared_says q (refusals.Limit l) bytes h = h
shared_says q refusals.InputBytes bytes h = h
shared_says q r bytes h = shared_cause q r bytes h

-- ---- after main's module

module _ (q : Request) (range : IsInRange q) (bytes : List ℕ) (M : MainModule) (made : IsMainModule q bytes M) where
  abbrev x : Compiling q.turns M.environment
  x = made.stages

  valid : IsValid (its_module q.pages x)
  valid = fits_valid x.before.program q.pages (omega (arith, range.pages.0)) (omega (arith, range.pages.1)) x.before.form x.fits

  -- its run
  pub run_refused : (r : Refusal) → ExecRunSays M.module q.pages q.steps (Err r) → RefusalSays Exec q r bytes
  run_refused r h = exec_says q r bytes M.environment made.spelled (in_run x valid (subst (λ m. ExecRunSays m q.pages q.steps (Err r)) made.module_is h))

  module _ (run : Measured) (h : IsMeasured M.module q.pages q.steps run) where
    there : IsMeasured (its_module q.pages x) q.pages q.steps run
    there = subst (λ m. IsMeasured m q.pages q.steps run) made.module_is h

    abbrev answering : Answering q.turns M.environment q.pages q.steps
    answering = record { before = x; answer = run.answer; ends = (there.small, there.answered) }

    -- the text of its answer
    pub line_refused : (r : Refusal) → TextRefuses M.shapes.types run.answer r → RefusalSays Exec q r bytes
    line_refused r t = exec_says q r bytes M.environment made.spelled (in_text answering valid (subst (λ hs. TextRefuses hs run.answer r) (sym made.shapes_are) t))

    pub figures_say : SpellsModule (module_bytes M.module) M.module → (line : Vec ℕ Global) → IsLine M.shapes.types M.environment.names run.answer.tree line.items →
        (declarations length_of steps pages : ℕ) → declarations ≡ length M.environment.decls → length_of ≡ run.bytes → steps ≡ run.steps → pages ≡ run.pages →
        HasFigures q bytes (record { declarations = declarations; bytes = length_of; steps = steps; pages = pages; line = line })
    figures_say spelled line t declarations length_of steps pages d b s p = record {
      executed = record {
        environment = M.environment;
        spelled = made.spelled;
        stages = answering;
        valid = valid;
        module_is = subst (λ m. SpellsModule (module_bytes m) m) made.module_is spelled;
        text_is = subst (λ hs. IsLine hs M.environment.names run.answer.tree line.items) (sym made.shapes_are) t;
      };
      declarations_are = d;
      bytes_are = b ∙ there.bytes_are;
      steps_are = s ∙ there.steps_are;
      pages_are = p ∙ there.pages_are;
    }
