use Rattle.std.proofs.Common.{◌≡◌, [], ◌∷◌, ◌++◌, None, drop}
use Rattle.reduce_machine.specs.Spines.{nested, below_term}
use Rattle.reduce_machine.proofs.Nesting.{IsRest}
use Rattle.reduce_machine.proofs.seen.Seen.read.Given as goal

abbrev pub invariant-loop-spine : goal.invariant-loop-spine
invariant-loop-spine l = record {
  rest : IsRest l.inner (drop l.spine-index l.spine-items ++ l.self.spine.now ∷ []);
  term : nested (drop l.spine-index l.spine-items) (below_term l.inner) ≡ nested l.self.below.now (below_term None);
}
