-- The laws of the passes' programs, from their parts.
use Rattle.std.proofs.Common.{◌≡◌, ◌≤◌, List, map, sym, subst}
use Rattle.box_terms.specs.BoxSyntax.{BoxTerm}
use Rattle.lambda_box.specs.BoxProgram.{BoxConstant, BoxFamily, BoxProgram}
use Rattle.lambda_box.specs.BoxForm.{IsBoxProgram}
use Rattle.lambda_box.specs.DataTerms.{greatest_words}
use Rattle.lambda_box.specs.OrdinaryForm.{IsOrdinaryProgram}
use Rattle.lambda_box.specs.SaturatedForm.{IsSaturated, program_nodes}
use Rattle.box_passes.specs.PropMatch.{drop_matches, drop_matches_constant, prop_match_program}
use Rattle.box_passes.specs.Saturate.{saturate_term, saturate_constant, without_parameters, saturate_program}
use Rattle.box_passes.specs.PassResults.{KeepsData, KeepsBareData, RunsForData, IsAtMostSaturated, PropMatched, Saturated}
use Rattle.box_passes.proofs.PropMatch.{prop_match_keeps}
use Rattle.box_passes.proofs.PropMatchForm.{prop_match_form, prop_match_sizes, prop_match_program_sizes}
use Rattle.box_passes.proofs.SaturatedSize.{saturated_size}
use Rattle.box_passes.proofs.SaturateKeeps.{saturate_keeps, saturated_has_form}
use Rattle.box_passes.proofs.Keeping.{saturated_runs}
use Rattle.box_passes.proofs.SaturatedCounts.{saturated_counts}

pub prop_matched : (P : BoxProgram) (cs : List BoxConstant) (Fs : List BoxFamily) (t : BoxTerm) → cs ≡ map (drop_matches_constant P.families) P.constants → Fs ≡ P.families →
    t ≡ drop_matches P.families P.main → PropMatched P (record { constants = cs; families = Fs; main = t })
prop_matched P cs Fs t a b d =
    let Q : BoxProgram = record { constants = cs; families = Fs; main = t } in
    let e : Q ≡ prop_match_program P = λ i. record { constants = a i; families = b i; main = d i } in
    record {
      is = e;
      form = λ h. subst (λ Q. IsBoxProgram Q × IsOrdinaryProgram Q) (sym e) (prop_match_form P h);
      data_kept = λ h. subst (λ Q. KeepsData P Q) (sym e) (prop_match_keeps P h);
      nodes_kept = subst (λ Q. program_nodes Q ≤ program_nodes P) (sym e) (prop_match_program_sizes P).0;
      words_kept = subst (λ Q. greatest_words Q ≤ greatest_words P) (sym e) (prop_match_program_sizes P).1;
      no_deeper = λ t. (prop_match_sizes P.families t).1;
    }

pub saturated : (P : BoxProgram) (cs : List BoxConstant) (Fs : List BoxFamily) (t : BoxTerm) → cs ≡ map (saturate_constant P.families) P.constants → Fs ≡ map without_parameters P.families →
    t ≡ saturate_term P.families P.main → Saturated P (record { constants = cs; families = Fs; main = t })
saturated P cs Fs t a b d =
    let Q : BoxProgram = record { constants = cs; families = Fs; main = t } in
    let e : Q ≡ saturate_program P = λ i. record { constants = a i; families = b i; main = d i } in
    record {
      is = e;
      form = λ h. subst (λ Q. IsBoxProgram Q × IsSaturated Q) (sym e) (saturated_has_form P h);
      size = λ h. subst (λ Q. IsAtMostSaturated P Q) (sym e) (saturated_size P h);
      data_kept = λ h. subst (λ Q. KeepsBareData P Q) (sym e) (saturate_keeps P h);
      runs = λ h. subst (λ Q. RunsForData P Q) (sym e) (saturated_runs P h);
      counted = λ h. saturated_counts P h;
    }
