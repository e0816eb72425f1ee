-- What the stages to main's module say, as what the end of `compile` shows; and the writing of the module.
use Rattle.std.proofs.Common.{◌≡◌, inr, ℕ, List, Result, Ok, Err, subst, arith}
use Rattle.pc_terms.specs.Syntax.{Term}
use Rattle.pc_rules.specs.declared.meter.Account.{Account}
use Rattle.calculus_rules.specs.Environment.{Env}
use Rattle.calculus_rules.specs.FirstOrder.{IsFirstOrder}
use Rattle.pc_rules.specs.DirectedRun.{Done}
use Rattle.pc_rules.specs.DirectedFirstOrder.{Found, first_order_search}
use Rattle.rule_laws.specs.Declarations.{IsCheckedEnvironment}
use Rattle.env_check.specs.Rules.{givens}
use Rattle.first_order.specs.Searching.{members, AreNamed}
use Rattle.first_order.specs.declared.shapes.Shape.{Shape}
use Rattle.lambda_box.specs.BoxForm.{IsBoxProgram}
use Rattle.lambda_box.specs.BoxProgram.{BoxProgram}
use Rattle.erase_laws.specs.ErasedProgram.{HasErased, IsErased}
use Rattle.wasm_core.specs.ModuleTyping.{IsValid}
use Rattle.compile.proofs.Within.{fits_valid}
use Rattle.dump_reader.specs.declared.environment.RawEnv.{RawEnv}
use Rattle.command_line.specs.declared.job.Job.TheVariants.{Compile}
use Rattle.command_line.specs.declared.line.Request.{Request}
use Rattle.command_line.specs.Line.{IsInRange}
use Rattle.driver.specs.declared.main_module.MainModule.{MainModule}
use Rattle.driver.specs.declared.refusal.Refusal.{Refusal}
use Rattle.driver.specs.declared.refusal.Refusal.TheVariants as refusals
use Rattle.driver.specs.Texts.{SpellsWithin}
use Rattle.driver.specs.SourceEnds.{IsAcceptedWith}
use Rattle.driver.specs.ExecEnds.{ErasureSays, Accepting, Searching, Erasing, its_module}
use Rattle.driver.specs.MadeModule.{BytesSay, BytesRefuse, MakesNone, by_search, by_erasure, by_passes, by_bytes}
use Rattle.driver.specs.MainModule.{IsMainModule}
use Rattle.driver.specs.Serve.{JobSays, RefusalSays}
use Rattle.driver.proofs.MadeCauses.{as_exec}
use Rattle.driver.proofs.Sizes.{shows_large}

-- ---- what is known after each stage

module _ (q : Request) (e : RawEnv) (E : Env) (main T : Term) (u : Account) (accepted : IsAcceptedWith q.turns e E T u) (m : main ≡ e.main)
    (checked : IsCheckedEnvironment e.levels e.constraints (givens e) e.main E T) where
  abbrev pub accepting : Accepting q.turns e
  accepting = record { kept = E; type = T; left = u; accepted = accepted; checked = checked }

  module _ (hs : List Shape) (set : IsFirstOrder E T (members hs)) (named : AreNamed E hs) (v : Account) (found : (first_order_search E T u).end ≡ Done (Found (members hs)) v) where
    abbrev pub searching : Searching q.turns e
    searching = record { before = accepting; shapes = hs; set = set; named = named; left = v; found = found }

    abbrev pub erasing : (P : BoxProgram) → IsBoxProgram P → HasErased E P → IsErased E main P → (w : Account) → ErasureSays e E main v (Ok P) w → Erasing q.turns e
    erasing P form sources is w h = record {
      before = searching;
      program = P;
      form = form;
      sources = sources;
      is = subst (λ t. IsErased E t P) m is;
      left = w;
      erased = subst (λ t. ErasureSays e E t v (Ok P) w) m h;
    }

-- a refusal of some stage, or want of memory, is a cause
pub make_says : (q : Request) (r : Refusal) (bytes : List ℕ) (e : RawEnv) → SpellsWithin bytes e → MakesNone q.turns e q.pages r → RefusalSays Compile q r bytes
make_says q refusals.Memory bytes e s h = tt
make_says q refusals.Depth bytes e s h = (e, s, inr (((λ x. cc), h), λ x. tt))
make_says q refusals.TurnsSpent bytes e s h = (e, s, inr (((λ x. cc), h), λ x. tt))
make_says q (refusals.Broken n p) bytes e s h = (e, s, inr (((λ x. cc), h), λ x. tt))
make_says q refusals.Types bytes e s h = (e, s, inr (((λ x. cc), h), λ x. tt))
make_says q refusals.NotFirstOrder bytes e s h = (e, s, inr (((λ x. cc), h), λ x. tt))
make_says q (refusals.Axiom name) bytes e s h = (e, s, inr (((λ x. cc), h), λ x. tt))
make_says q (refusals.Program l) bytes e s h = (e, s, inr (((λ x. cc), h), shows_large q.turns e q.pages q.steps l (as_exec q.turns e q.pages q.steps (refusals.Program l) h)))
make_says q _ bytes e s h = absurd (elim h [ by_search x w k ↦ k | by_erasure x w k ↦ k | by_passes x k ↦ k | by_bytes x v k ↦ k ])

-- ---- the writing of the module

module _ (q : Request) (range : IsInRange q) (bytes : List ℕ) (M : MainModule) (made : IsMainModule q bytes M) where
  valid : IsValid (its_module q.pages made.stages)
  valid = let x = made.stages in fits_valid x.before.program q.pages (omega (arith, range.pages.0)) (omega (arith, range.pages.1)) x.before.form x.fits

  pub bytes_say : {V : Type 0} (view : V → List ℕ) (r : Result V Refusal) → BytesSay view M.module r → JobSays Compile q view r bytes
  bytes_say view (Ok v) h =
      let there = subst (λ m. BytesSay view m (Ok v)) made.module_is h in
      record { environment = M.environment; spelled = made.spelled; stages = made.stages; valid = valid; text_is = there.0; small = there.1; module_is = there.2 }
  bytes_say view (Err r) h = make_says q r bytes M.environment made.spelled (by_bytes made.stages valid (subst (λ m. BytesRefuse m r) made.module_is h))
