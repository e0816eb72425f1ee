-- What the passes refuse is large, and what is small they don't refuse.
use Rattle.std.proofs.Common.{ℕ, ◌+◌, ◌*◌, ◌<◌, ◌≤◌, length, arith, inl, inr, lit≤}
use Rattle.std.proofs.lemmas.Bool.{cases_lt}
use Rattle.lambda_box.specs.BoxProgram.{BoxProgram}
use Rattle.lambda_box.specs.BoxForm.{IsBoxProgram}
use Rattle.lambda_box.specs.DataTerms.{greatest_words}
use Rattle.box_passes.specs.PassLaws.{saturated_program}
use Rattle.shrink_passes.specs.ShrunkProgram.{shrunk_program}
use Rattle.shrink_passes.proofs.ShrunkPrograms.{shrunk_forms}
use Rattle.anf_convert.specs.BoxForms.{ConstructorsWithin}
use Rattle.anf_convert.specs.ToAnf.{to_anf}
use Rattle.closure_lift.specs.LiftedForm.{most_functions}
use Rattle.closure_lift.specs.Lifting.{most_words}
use Rattle.wasm_core.specs.ShortestBytes.{module_bytes}
use Rattle.known_calls.specs.KnownModule.{module_of}
use Rattle.known_calls.specs.KnownCalls.{module_of_call}
use Rattle.wasm_emit.specs.EmittedBodies.{FewLocals}
use Rattle.wasm_emit.specs.EmitLaws.{CountsFit}
use Rattle.wasm_emit.proofs.Emitting.{lifted_can_be_emitted, counts_fit}
use Rattle.back_end.specs.BackEnd.{passed, IsWithinPasses}
use Rattle.back_end.proofs.Sizes.{call_modules_are_small, locals_are_few, modules_are_small}
use Rattle.back_end.proofs.Whole.{product_le}
use Rattle.compile.specs.declared.fault.CompileFault.{CompileFault}
use Rattle.compile.specs.declared.fault.CompileFault.TheVariants as refusals
use Rattle.compile.specs.Passes.{IsShallow, CapturesFew, function_count, Fits, CompileIsRefused}
use Rattle.compile.proofs.Within.{main_shallow, constant_shallow, lifted_formed, normal_formed, program_limits}
use Rattle.source_limits.specs.PassedSizes.{saturated_nodes, saturated_binders, most_arguments, most_binders, most_locals, bytes_bound, IsSmallProgram, HasSmallModule, HasSmallCallModule, ShowsSize}
use Rattle.source_limits.specs.Laws.{RefusalsShowSizes, LargeModulesShowSizes, LargeCallModulesShowSizes, SmallProgramsFit}
use Rattle.source_limits.proofs.Functions.{functions_fewer}
use Rattle.source_limits.proofs.SaturatedCaptures.{saturated_captures, words_captures}

more_than : (n d : ℕ) → (d ≤ n → ⊥) → n < d
more_than n d h = elim (cases_lt n d) [ inl lt ↦ lt | inr le ↦ absurd (h le) ]

module _ (P : BoxProgram) (form : IsBoxProgram P) where
  few_constructors : ConstructorsWithin P 1024
  few_constructors F has = (form.counts F has).constructors

  -- what the laws of the back end ask for
  within : IsShallow P → CapturesFew P → function_count P ≤ most_functions → IsWithinPasses P 1024
  within shallow captures few = record {
    form = form;
    constructors = few_constructors;
    constants = constant_shallow (saturated_program P) shallow;
    main = main_shallow (saturated_program P) shallow;
    limits = program_limits P 1024 form shallow few_constructors captures (omega (arith, few));
  }

  counts : Fits P → CountsFit (passed P) 1024
  counts fits =
      let S = shrunk_program P in
      let anf = normal_formed P 1024 form fits.shallow few_constructors in
      let x = lifted_can_be_emitted (to_anf S) most_words 1024 anf (lit≤ tt) fits.captures (lit≤ tt) fits.few in
      counts_fit (passed P) (record { most = 1024; formed = lifted_formed P 1024 form fits.shallow few_constructors; within = x.within; constants = x.constants; branches = lit≤ tt }) fits.locals

  module_bounded : Fits P → (pages : ℕ) → length (module_bytes (module_of (passed P) pages)) ≤ bytes_bound (saturated_nodes P) (greatest_words P)
  module_bounded fits pages = modules_are_small P pages 1024 (within fits.shallow fits.captures fits.few) (counts fits)

  call_bounded : Fits P → (k pages : ℕ) → k ≤ most_arguments → length (module_bytes (module_of_call (passed P) k pages)) ≤ 63 * saturated_nodes P * greatest_words P + 128 * k + 4096
  call_bounded fits k pages few = call_modules_are_small P k pages 1024 few (within fits.shallow fits.captures fits.few) (counts fits)

  -- no pass refuses a small program

  few_functions : saturated_nodes P ≤ most_functions → function_count P ≤ most_functions
  few_functions le = omega (arith, le, functions_fewer (shrunk_program P), (shrunk_forms P form).nodes)

  small_fits : (w : ℕ) → IsSmallProgram P w → Fits P
  small_fits w small =
      let captures = saturated_captures P most_binders form small.shallow small.binders in
      let few = few_functions small.nodes in
      record { shallow = small.shallow; captures = captures; few = few; locals = locals_are_few P 1024 (within small.shallow captures few) (let s = small.nodes in omega (arith, s)) }

  small_module : (w : ℕ) → greatest_words P ≤ w → IsSmallProgram P w → HasSmallModule P
  small_module w words small pages =
      let s = saturated_nodes P in
      omega (arith, module_bounded (small_fits w small) pages, product_le (64 * s) (64 * s) (greatest_words P) w (omega arith) words, small.bytes)

  small_call_module : (w : ℕ) → greatest_words P ≤ w → IsSmallProgram P w → HasSmallCallModule P
  small_call_module w words small k pages few =
      let s = saturated_nodes P in
      omega (arith, call_bounded (small_fits w small) k pages few, few, product_le s s (greatest_words P) w (omega arith) words, small.bytes)

  -- what a refusal shows

  captured_shows : IsShallow P → (CapturesFew P → ⊥) → (most_binders < saturated_binders P) × (4 + most_binders < greatest_words P)
  captured_shows shallow h = (
    more_than most_binders (saturated_binders P) (λ le. h (saturated_captures P most_binders form shallow le)),
    more_than (4 + most_binders) (greatest_words P) (λ le. h (words_captures P most_binders form shallow le)),
  )

  functions_show : most_functions < function_count P → most_functions < saturated_nodes P
  functions_show lt = omega (arith, lt, functions_fewer (shrunk_program P), (shrunk_forms P form).nodes)

  locals_show : IsShallow P → CapturesFew P → function_count P ≤ most_functions → (FewLocals (passed P) → ⊥) → most_locals < saturated_nodes P
  locals_show shallow captures few h = more_than most_locals (saturated_nodes P) (λ le. h (locals_are_few P 1024 (within shallow captures few) le))

  refused_shows : (a : CompileFault) → CompileIsRefused P a → ShowsSize P a
  refused_shows refusals.Depth h = h
  refused_shows refusals.Captured h = captured_shows h.0 h.1
  refused_shows refusals.Functions h = functions_show h.2
  refused_shows refusals.Locals h = locals_show h.0 h.1 h.2 h.3
  refused_shows refusals.Memory h = tt

pub refusals_show_sizes : RefusalsShowSizes
refusals_show_sizes P a form h = refused_shows P form a h

pub large_modules_show_sizes : LargeModulesShowSizes
large_modules_show_sizes P pages form fits large = omega (arith, large, module_bounded P form fits pages)

pub large_call_modules_show_sizes : LargeCallModulesShowSizes
large_call_modules_show_sizes P k pages few form fits large = omega (arith, large, few, call_bounded P form fits k pages few)

pub small_programs_fit : SmallProgramsFit
small_programs_fit P w form words small = (small_fits P form w small, small_module P form w words small, small_call_module P form w words small)
