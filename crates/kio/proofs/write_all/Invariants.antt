use Rattle.std.proofs.Common.{◌≡◌, ◌≤◌, ◌-◌, ◌++◌, length, take}
use Rattle.std.specs.Io.KnownBytes.{Appends}
use Rattle.kio.specs.Known.{StillTells}
use Rattle.kio.proofs.write_all.Given as goal

abbrev pub invariant-loop-done : goal.invariant-loop-done
invariant-loop-done g l = record {
  within : l.done ≤ length l.bytes;
  gone : Appends (g.K.Sink.taken l.fn.out) (g.K.Sink.taken l.out) (take l.done l.bytes);
  received : g.K.Sink.received l.out ≡ g.K.Sink.received l.fn.out ++ take l.done l.bytes;
  tells : StillTells (g.K.Sink.taken l.fn.out) (g.K.Sink.taken l.out);
  later : g.K.Sink.faults l.fn.out ≤ g.K.Sink.faults l.out;
}

abbrev pub decreases-loop-done : goal.decreases-loop-done
decreases-loop-done g l = length l.bytes - l.done
