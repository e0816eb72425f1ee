use Rattle.std.proofs.Common.{◌≡◌, ℕ, List, [], drop, nat_eq}
use Rattle.std.specs.HashSet.{contains}
use Rattle.universe_levels.specs.declared.level.Level.{Level}
use Rattle.pc_rules.specs.DirectedDeclarations.{first_repeated}
use Rattle.env_check.proofs.Listed.{is_listed}
use Rattle.env_check.proofs.levels.check_levels.Given as goal

abbrev pub invariant-loop-i : goal.invariant-loop-i
invariant-loop-i l = record {
  seen : List Level;
  rest : first_repeated 0 [] l.levels ≡ first_repeated l.i seen (drop l.i l.levels);
  has : (q : ℕ) → contains nat_eq l.before q ≡ is_listed q seen;
}
