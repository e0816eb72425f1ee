-- The counts of the saturated main, together.
use Rattle.std.proofs.Common.{[], ap, ◌∙◌, arith}
use Rattle.lambda_box.specs.DataTerms.{no_data}
use Rattle.box_passes.specs.Saturate.{saturate_program}
use Rattle.box_passes.specs.SaturateLaws.{SaturatedCounts}
use Rattle.lambda_box.specs.ClosureEvaluation.{Empty}
use Rattle.box_passes.proofs.Follows.{follows}
use Rattle.lambda_box.proofs.Families.{unique_family}
use Rattle.box_passes.proofs.Saturating.{no_terms, stands_applied, saturated_constant, saturated_family}
use Rattle.box_passes.proofs.Keeping.{reads_value}
use Rattle.box_passes.proofs.SaturateKeeps.{saturate_keeps}
use Rattle.box_passes.proofs.SaturatedForm.{saturated_form, saturated_whole}
use Rattle.box_passes.proofs.SaturatedWidths.{saturated_widths}
use Rattle.box_passes.proofs.Matches.{same_constants, same_families, same_main}
use Rattle.lambda_box.proofs.OneRun.{runs_are_one}

pub saturated_counts : SaturatedCounts
saturated_counts P ok w d n m ev r =
    let Q = saturate_program P in
    let ok' = saturated_form P ok in
    let full = saturated_whole P ok in
    let unique = unique_family P ok in
    let g = follows P Q (saturated_constant P ok) (saturated_family P) unique ev (stands_applied P unique {e = Empty} P.main ok.main.closed ok.main.form no_terms) in
    let s = (saturate_keeps P ok [] [] no_data w d n m ev r).1 in
    let h = follows Q Q (same_constants Q ok' full) (same_families Q) (unique_family Q ok') s.evaluates (same_main Q ok' full Empty) in
    let one = runs_are_one Q ok' Empty Q.main g.v h.v g.c h.c g.run h.run in
    record {
      substituted = record { w = s.w; nodes = s.nodes; matches = s.matches; evaluates = s.evaluates; reads = s.reads };
      v = g.v;
      counts = g.c;
      run = g.run;
      one = λ w c run. runs_are_one Q ok' Empty Q.main g.v w g.c c g.run run;
      reads = reads_value P Q (saturated_constant P ok) (saturated_family P) unique g.is r;
      contractions = omega (arith, g.contractions);
      blocks = g.made;
      greatest = saturated_widths P ok g.v g.c g.run;
      matches = ap (λ c. c.matches) one.1 ∙ h.matches full.params;
    }
