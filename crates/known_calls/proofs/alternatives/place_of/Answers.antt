use Rattle.std.proofs.Common.{◌∙◌, Bool, true, false, sym, arith}
use Rattle.known_calls.proofs.KnownArms.{count_taken}
use Rattle.known_calls.proofs.alternatives.place_of.Goals as goal
use Rattle.known_calls.proofs.alternatives.place_of.Goals.{then-is_of+else-seen-before, else-is_of}

pub loop-c-preserved : goal.loop-c-preserved
loop-c-preserved c =
    let taken = λ (x : Bool). count_taken c.args.kind c.args.bs.now c.loop-c.c c.index-bs-c.result x c.loop-c-test.true c.index-bs-c.is in
    elim c.if-is_of.branch [
      | then-is_of+else-seen-before w ↦ record {
        seen = omega (arith, w.seen-is, c.loop-c.invariant.seen, taken true (sym c.is_of.ensures.is ∙ w.if-is_of.true));
        few = omega (arith, w.seen-is, w.if-seen-before.false, c.loop-c.invariant.few);
      }
      | else-is_of w ↦ record {
        seen = omega (arith, w.seen-is, c.loop-c.invariant.seen, taken false (sym c.is_of.ensures.is ∙ w.if-is_of.false));
        few = omega (arith, w.seen-is, c.loop-c.invariant.few);
      }
    ]
