use Rattle.std.proofs.Common.{◌≡◌, ◌-◌, ◌≤◌, ◌++◌}
use Rattle.known_calls.specs.KnownModule.{words_types}
use Rattle.known_calls.proofs.emission.push_words_types.Given as goal

abbrev pub invariant-loop-k : goal.invariant-loop-k
invariant-loop-k l = (l.types.items ++ words_types l.k (l.n - l.k) ≡ l.initial.types.items ++ words_types 0 l.n) × (l.k ≤ l.n)
