-- The refusals of `explain`, from what the top call promises.
use Rattle.std.proofs.Common.{◌≢◌, arith}
use Rattle.driver.proofs.BesideCheck.{explain_beside_check, explain_not_eight, explain_not_nine}
use Rattle.job_laws.specs.ExplainLaws.{ExplainHasNoSuchStatus, ExplainRefusesBesideCheck}

pub explain_refuses_beside_check : {S K E : Type 0} → ExplainRefusesBesideCheck S K E
explain_refuses_beside_check status words reports src src' out out' err err' s q e job n = explain_beside_check words q e job status src.told src.faults src'.faults out.faults out'.faults err.told err'.told err.faults err'.faults (s.refused n)

pub explain_has_no_such_status : {S K E : Type 0} → ExplainHasNoSuchStatus S K E
explain_has_no_such_status status words reports src src' out out' err err' s q e job = (
  (λ z.
      let n : status ≢ 0 = λ y. omega (arith, y, z) in
      explain_not_eight words q e job status src.told src.faults src'.faults out.faults out'.faults err.told err'.told err.faults err'.faults (s.refused n) z),
  (λ z.
      let n : status ≢ 0 = λ y. omega (arith, y, z) in
      explain_not_nine words q e job status src.told src.faults src'.faults out.faults out'.faults err.told err'.told err.faults err'.faults (s.refused n) z),
)
