use Rattle.std.proofs.Common.{◌≡◌, ◌≤◌, ◌-◌, ◌+◌, length}
use Rattle.std.specs.Io.KnownBytes.{Consumes}
use Rattle.kio.specs.Known.{StillTells}
use Rattle.kio.specs.Histories.{IsLater, given_since}
use Rattle.kio.proofs.read_all_counted.Given as goal

abbrev pub invariant-loop-out : goal.invariant-loop-out
invariant-loop-out g l = record {
  within : length l.out.items ≤ l.limit;
  room : length l.chunk ≡ 4096;
  come : Consumes (g.S.Source.left l.fn.src) (g.S.Source.left l.src) l.out.items;
  tells : StillTells (g.S.Source.left l.fn.src) (g.S.Source.left l.src);
  grows : IsLater (g.S.Source.given l.fn.src) (g.S.Source.given l.src);
  given : l.out.items ≡ given_since (g.S.Source.given l.fn.src) (g.S.Source.given l.src);
  later : g.S.Source.faults l.fn.src ≤ g.S.Source.faults l.src;
  cost : l.steps ≤ l.fn.steps + length l.out.items;
}

abbrev pub decreases-loop-out : goal.decreases-loop-out
decreases-loop-out g l = l.limit - length l.out.items
