use Rattle.std.proofs.Common.{◌≡◌, ◌∙◌, ◌||◌, true, false, sym}
use Rattle.calculus_rules.specs.Same.{same}
use Rattle.pc_rules.specs.Entailment.{test_of}
use Rattle.cert_rules.specs.Scripts.{sorts_at}
use Rattle.pc_rules.proofs.SameTrees.{same_yes, same_no}
use Rattle.type_cert.proofs.Retracing.{retraces_then, retraces_else, retraces_pass, retraces_bar}
use Rattle.type_cert.proofs.Scripting.{from_past}
use Rattle.type_cert.proofs.verifier.Verifier.same_item.Goals as goal
use Rattle.type_cert.proofs.verifier.Verifier.same_item.Goals.{then-same-via-then-same, then-same-via-else-same+then-sorts_stand}
use Rattle.std.proofs.lemmas.Bool.{or_left, or_right, or_from}
use Rattle.conversion.specs.Modes.{is_equal}

pub returns-then-same : goal.returns-then-same
returns-then-same c =
    let e : (same c.args.a.now c.args.b.now || sorts_at (test_of c.args.self.now.env.now) (is_equal c.args.mode) c.args.a.now c.args.b.now) ≡ true =
    elim c.then-same.branch [
      | then-same-via-then-same w ↦ or_left _ _ (same_yes _ _ c.same.result c.same.ensures.is w.if-same.true)
      | then-same-via-else-same+then-sorts_stand w ↦ or_right _ _ (sym w.sorts_stand.ensures.is ∙ w.if-sorts_stand.true)
    ] in
    record { retraces = λ V. retraces_then _ _ _ _ c.args.trail.now _ e (from_past (retraces_pass tt _)) }

pub returns : goal.returns
returns c =
    let e : (same c.args.a.now c.args.b.now || sorts_at (test_of c.args.self.now.env.now) (is_equal c.args.mode) c.args.a.now c.args.b.now) ≡ false =
    or_from _ _ (same_no _ _ c.same.result c.same.ensures.is c.if-same.false) (sym c.sorts_stand.ensures.is ∙ c.if-sorts_stand.false) in
    record { retraces = λ V. retraces_else _ _ _ _ c.args.trail.now _ e (retraces_bar _ c.args.trail.now) }
