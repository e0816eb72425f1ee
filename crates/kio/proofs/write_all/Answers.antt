use Rattle.std.proofs.Common.{arith, length-drop, List, ℕ, ◌++◌, Some, ap, ◌∙◌}
use Rattle.std.proofs.Math.Seq.{take_all}
use Rattle.kio.proofs.Bytes.{tells-again, appends-more, rest-is}
use Rattle.kio.proofs.write_all.Goals as goal

pub loop-done-preserved : goal.loop-done-preserved
loop-done-preserved g c =
    let whole = rest-is c.args.bytes.now c.loop-done.done in
    record {
      within = omega (arith, rw whole at c.in-Ok.ensures.bound, length-drop c.loop-done.done c.args.bytes.now);
      gone = appends-more _ _ _ c.args.bytes.now c.loop-done.done c.in-Ok.n c.loop-done.invariant.gone (rw whole at c.in-Ok.ensures.bytes);
      received = appends-more (Some (g.K.Sink.received c.args.out.now)) (Some (g.K.Sink.received c.loop-done.out)) (Some (g.K.Sink.received c.write.new.self)) c.args.bytes.now c.loop-done.done c.in-Ok.n
          c.loop-done.invariant.received (rw whole at c.in-Ok.ensures.history);
      tells = tells-again _ _ _
          c.loop-done.invariant.tells c.in-Ok.ensures.tells;
      later = omega (arith, c.loop-done.invariant.later, c.in-Ok.ensures.cause.later);
    }

pub returns-in-Err-clause-received_part : goal.returns-in-Err-clause-received_part
returns-in-Err-clause-received_part g c = c.in-Err.ensures.history ∙ c.loop-done.invariant.received

pub returns-clause-received : goal.returns-clause-received
returns-clause-received g c = c.loop-done.invariant.received ∙ ap (λ (w : List ℕ). g.K.Sink.received c.args.out.now ++ w) (take_all c.loop-done.done c.args.bytes.now (omega arith))
