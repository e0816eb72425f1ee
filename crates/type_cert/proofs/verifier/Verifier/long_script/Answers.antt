use Rattle.std.proofs.Common.{refl}
use Rattle.calculus_rules.specs.Context.{values}
use Rattle.conversion.specs.Modes.{is_equal}
use Rattle.type_cert.specs.Going.{going}
use Rattle.type_cert.proofs.Passing.{passed_retraces}
use Rattle.type_cert.proofs.verifier.Verifier.long_script.Goals as goal

pub returns-in-Some : goal.returns-in-Some
returns-in-Some c = record {
  retraces = passed_retraces (going c.args.self.now (values c.args.ctx.now) (is_equal c.args.mode) c.args.a.now c.args.b.now) c.in-Some.pace c.args.trail.now _ c.in-Some.ensures.passes refl refl refl;
}
