use Rattle.std.proofs.Common.{◌≡◌, ℕ, ◌-◌, length, drop, reverse, nat_eq}
use Rattle.std.specs.HashSet.{contains}
use Rattle.anf_convert.specs.Captured.{is_in, captured}
use Rattle.closure_lift.proofs.words.captured_words.Given as goal

abbrev pub invariant-loop-past : goal.invariant-loop-past
invariant-loop-past l = record {
  found : reverse l.found.items ≡ captured l.outside (drop (length l.names - l.past) l.names);
  kept : (q : ℕ) → contains nat_eq l.kept q ≡ is_in q (reverse l.found.items);
}
