-- Small programs have modules; and programs that are refused for themselves or for their modules are large.
use Rattle.std.proofs.Common.{ℕ, ◌<◌, length, inl, inr, subst}
use Rattle.source_limits.proofs.Sizes.{refusals_show_sizes, large_modules_show_sizes, large_call_modules_show_sizes}
use Rattle.source_limits.proofs.Sources.{small_sources_fit}
use Rattle.compile.specs.declared.fault.CompileFault.TheVariants as compiling
use Rattle.wasm_core.specs.ShortestBytes.{module_bytes, most_bytes}
use Rattle.dump_reader.specs.declared.environment.RawEnv.{RawEnv}
use Rattle.dump_reader.specs.Spelled.{IsSpelled}
use Rattle.driver.specs.declared.refusal.Refusal.TheVariants as refusals
use Rattle.driver.specs.declared.refusal.ProgramLimit.{ProgramLimit}
use Rattle.driver.specs.declared.refusal.ProgramLimit.TheVariants as limits
use Rattle.driver.specs.ExecEnds.{Erasing, HasModule, IsCompilable, IsLargeFor, ShowsLarge, StageRefuses, in_search, in_erasure, in_passes, in_run, in_text}
use Rattle.driver.specs.CallStages.{CallCompiling, argument_count, its_call_module}
use Rattle.driver.specs.Exported.{HasCallModule, IsExportable}
use Rattle.driver.proofs.AcceptedAs.{accepted_as, call_erased_to, erased_to}
use Rattle.driver.proofs.ExecCauses.{one_program}

pub has_module : (turns : ℕ) (e : RawEnv) (pages : ℕ) → IsSpelled e → HasModule turns e pages → IsCompilable turns e pages
has_module turns e pages spelled (inl c) = c
has_module turns e pages spelled (inr h) =
    let x = h.stages in
    let a = x.before.before in
    let f = small_sources_fit e a.kept a.type x.program (accepted_as turns e spelled a.kept a.type a.left a.accepted) (erased_to turns e x) h.sizes in
    record { check = h.check; stages = record { before = x; fits = f.0 }; small = f.1 pages; search_within = h.search_within; erasure_within = h.erasure_within }

-- so of its module for calls
pub has_call_module : (turns : ℕ) (e : RawEnv) (pages : ℕ) → IsSpelled e → HasCallModule turns e pages → IsExportable turns e pages
has_call_module turns e pages spelled (inl c) = c
has_call_module turns e pages spelled (inr h) =
    let x = h.stages in
    let a = x.before.before in
    let f = small_sources_fit e a.kept a.type x.program (accepted_as turns e spelled a.kept a.type a.left a.accepted) (call_erased_to turns e x) h.sizes in
    record { check = h.check; stages = record { before = x; fits = f.0 }; small = f.2 (argument_count x.before) pages x.before.few; within = h.within }

-- a module for calls that isn't written shows the size of its program
pub large_for_calls : (turns : ℕ) (e : RawEnv) (pages : ℕ) (x : CallCompiling turns e) → most_bytes < length (module_bytes (its_call_module pages x)) → ShowsLarge x.before.program (refusals.Program limits.ModuleBytes)
large_for_calls turns e pages x h = let y = x.before in large_call_modules_show_sizes y.program (argument_count y.before) pages y.before.few y.form x.fits h

module _ (turns : ℕ) (e : RawEnv) (pages steps : ℕ) where
  -- the stage that refuses shows it of its program
  its_size : (l : ProgramLimit) → StageRefuses turns e pages steps (refusals.Program l) → (x : Erasing turns e) × ShowsLarge x.program (refusals.Program l)
  its_size l (in_search x w h) = absurd h
  its_size l (in_erasure x w h) = absurd h
  its_size limits.Captured (in_passes x h) = (x, refusals_show_sizes x.program compiling.Captured x.form h)
  its_size limits.Functions (in_passes x h) = (x, refusals_show_sizes x.program compiling.Functions x.form h)
  its_size limits.Locals (in_passes x h) = (x, refusals_show_sizes x.program compiling.Locals x.form h)
  its_size limits.ModuleBytes (in_passes x h) = absurd h
  its_size limits.ModuleBytes (in_run x valid h) = (x.before, large_modules_show_sizes x.before.program pages x.before.form x.fits h)
  its_size l (in_text x valid h) = absurd h
  its_size _ (in_run x valid h) = absurd h

  -- and there is one program
  pub shows_large : (l : ProgramLimit) → StageRefuses turns e pages steps (refusals.Program l) → IsLargeFor turns (refusals.Program l) e
  shows_large l h x = let s = its_size l h in subst (λ P. ShowsLarge P (refusals.Program l)) (one_program turns e s.0 x) s.1
