-- The size of the module of a program, from the nodes of the saturated program and its words.
use Rattle.std.proofs.Common.{ℕ, suc, ◌+◌, ◌*◌, ◌≤◌, List, [], ◌∷◌, map, arith}
use Rattle.pc_terms.specs.declared.leaf.Name.{Name}
use Rattle.lambda_box.specs.BoxProgram.{BoxConstant, BoxProgram, Has, here, there}
use Rattle.lambda_box.specs.ClosureEvaluation.{Empty}
use Rattle.lambda_box.specs.DataTerms.{greatest_words}
use Rattle.lambda_box.specs.SaturatedForm.{nodes_of_constants, program_nodes}
use Rattle.box_passes.specs.PropMatch.{prop_match_program}
use Rattle.box_passes.specs.PassLaws.{saturated_program}
use Rattle.box_passes.proofs.Passes.{passes_form}
use Rattle.box_passes.proofs.Narrow.{Narrow, most_words, main_narrow, constant_narrow}
use Rattle.box_passes.proofs.PropMatchForm.{prop_match_program_sizes}
use Rattle.shrink_passes.specs.ShrunkProgram.{shrunk_program}
use Rattle.shrink_passes.proofs.ShrunkNarrow.{AreFine, shrunk_narrow}
use Rattle.shrink_passes.proofs.ShrunkPrograms.{shrunk_forms}
use Rattle.anf_convert.specs.ToAnf.{code_of, number_in, to_anf}
use Rattle.anf_convert.specs.ToAnfKeeps.{Ready}
use Rattle.anf_convert.proofs.Forms.{to_anf_forms}
use Rattle.closure_lift.specs.CapturedLimit.{BlocksCapture, ProgramCaptures}
use Rattle.closure_lift.specs.LiftedForm.{Formed}
use Rattle.closure_lift.proofs.Forms.{lift_forms}
use Rattle.known_calls.proofs.KnownLight.{lifted_is_light}
use Rattle.known_calls.specs.KnownWeight.{program_weight}
use Rattle.known_calls.proofs.CallSizes.{calls_sized}
use Rattle.known_calls.proofs.KnownSizes.{known_sized}
use Rattle.back_end.specs.BackEnd.{passed, IsWithinPasses}
use Rattle.back_end.specs.ModuleSizes.{CallModulesAreSmall, LocalsAreFew, ModulesAreSmall}
use Rattle.back_end.proofs.CapturedWords.{code_few}
use Rattle.back_end.proofs.LiftedLocals.{normal_constants_locals, few_locals}
use Rattle.back_end.proofs.NormalLocals.{code_few as locals_few}
use Rattle.known_calls.proofs.KnownShare.{known_is_small}
use Rattle.back_end.proofs.Total.{suffices}
use Rattle.back_end.proofs.Whole.{product_le}

pub constants_capture : (P : BoxProgram) (C : ℕ) (K : Name → ℕ) (cs : List BoxConstant) → ((d : BoxConstant) → Has cs d → Ready P d.body) → ((d : BoxConstant) → Has cs d → Narrow C Empty d.body) → BlocksCapture (suc C) (map (λ (d : BoxConstant). code_of K d.body) cs)
constants_capture P C K [] ready narrow = tt
constants_capture P C K (d ∷ ds) ready narrow = (code_few C P K d.body (ready d here) (narrow d here), constants_capture P C K ds (λ e at. ready e (there at)) (λ e at. narrow e (there at)))

-- the lambdas and fixpoints have no more captured words than the program has words
program_captures : (P : BoxProgram) (m : ℕ) → IsWithinPasses P m → ProgramCaptures (suc (most_words (prop_match_program P))) (to_anf (shrunk_program P))
program_captures P m ok =
    let S = shrunk_program P in
    let Q = prop_match_program P in
    let fine : AreFine (most_words Q) S = shrunk_narrow (most_words Q) (saturated_program P) (passes_form P ok.form).form (constant_narrow Q) (main_narrow Q) in
    let ready = (suffices P m ok).0 in
    let K = number_in S.constants in
    record {
      constants = constants_capture S (most_words Q) K S.constants (λ d at. ready.constants d.name d.body at) (λ d at. (fine.constants d at).narrow);
      main = code_few (most_words Q) S K S.main ready.main fine.main.narrow;
    }

-- the lifted program's weight
module _ (P : BoxProgram) (m : ℕ) (ok : IsWithinPasses P m) where
  lifted_form : Formed (passed P) m
  lifted_form = let S = shrunk_program P in lift_forms (to_anf S) m (to_anf_forms S m (suffices P m ok).1)

  passed_is_light : program_weight (passed P) ≤ 63 * program_nodes (saturated_program P) * greatest_words P
  passed_is_light =
      let S = shrunk_program P in
      let C = most_words (prop_match_program P) in
      let fewer = (shrunk_forms P ok.form).nodes in
      let lifted = lifted_is_light (to_anf S) C (program_captures P m ok) in
      let weight = known_is_small S C in
      let words : 4 + C ≤ greatest_words P = omega (arith, (prop_match_program_sizes P).1) in
      omega (arith, lifted, weight, product_le (63 * program_nodes S) (63 * program_nodes (saturated_program P)) (4 + C) (greatest_words P) (omega (arith, fewer)) words)

pub modules_are_small : ModulesAreSmall
modules_are_small P pages m ok counts = omega (arith, known_sized (passed P) pages m (lifted_form P m ok) ok.limits counts, passed_is_light P m ok)

pub call_modules_are_small : CallModulesAreSmall
call_modules_are_small P k pages m few ok counts = omega (arith, calls_sized (passed P) k pages m few (lifted_form P m ok) ok.limits counts, passed_is_light P m ok)

constants_locals : (P : BoxProgram) (K : Name → ℕ) (cs : List BoxConstant) → ((d : BoxConstant) → Has cs d → Ready P d.body) → normal_constants_locals (map (λ (d : BoxConstant). code_of K d.body) cs) ≤ nodes_of_constants cs
constants_locals P K [] ready = omega arith
constants_locals P K (d ∷ ds) ready = omega (arith, locals_few P K d.body (ready d here), constants_locals P K ds (λ e at. ready e (there at)))

pub locals_are_few : LocalsAreFew
locals_are_few P m ok le =
    let S = shrunk_program P in
    let fewer = (shrunk_forms P ok.form).nodes in
    let ready = (suffices P m ok).0 in
    let K = number_in S.constants in
    few_locals (to_anf S) (omega (arith, le, fewer, constants_locals S K S.constants (λ d at. ready.constants d.name d.body at), locals_few S K S.main ready.main))
