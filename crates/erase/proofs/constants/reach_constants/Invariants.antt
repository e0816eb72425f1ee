use Rattle.std.proofs.Common.{◌≡◌, ℕ, nat_eq, [], ◌∷◌, length, Result}
use Rattle.std.specs.HashSet.{contains}
use Rattle.calculus_rules.specs.declared.declaration.Kept.{Kept}
use Rattle.pc_rules.specs.declared.broken.Place.{Place}
use Rattle.pc_rules.specs.declared.meter.Meter.{Meter}
use Rattle.pc_rules.specs.Entailment.{test_of}
use Rattle.calculus_rules.specs.Environment.{Has}
use Rattle.pc_rules.specs.DirectedRun.{Run}
use Rattle.pc_rules.specs.DirectedTyping.{infer}
use Rattle.box_terms.specs.BoxSyntax.{BoxTerm}
use Rattle.erase_rules.specs.DirectedProgram.{Reached, is_reached, erased_constants}
use Rattle.erase.specs.declared.refusal.HaltAt.{HaltAt}
use Rattle.erase.specs.AtPlaces.{FollowsAt}
use Rattle.erase.specs.HaltPlaces.{IsAtBody}
use Rattle.erase.proofs.ConstantRuns.{onto, after_met}
use Rattle.erase.proofs.constants.reach_constants.Given as goal

-- what answers for the declarations that are left answers for all; the set has the names that are named so far
abbrev pub invariant-loop-kept : goal.invariant-loop-kept
invariant-loop-kept g l = record {
  rest : (r : Result Reached HaltAt) (n : Meter)
      → FollowsAt (erased_constants l.env (infer l.env (test_of l.env) l.room) (onto l.constants.items (l.main ∷ [])) l.walk l.m.account) r l.m n
      → FollowsAt (erased_constants l.env (infer l.env (test_of l.env) l.room) (l.main ∷ []) l.env.declarations l.fn.m.account) (after_met l.constants.items l.without_body r) l.fn.m n;
  comes : (p : Place) (d : Run BoxTerm) → IsAtBody l.env (infer l.env (test_of l.env) l.room) (onto l.constants.items (l.main ∷ [])) l.walk l.m.account p d
      → IsAtBody l.env (infer l.env (test_of l.env) l.room) (l.main ∷ []) l.env.declarations l.fn.m.account p d;
  has : (k : ℕ) → contains nat_eq l.names k ≡ is_reached (record { 0 = k }) (onto l.constants.items (l.main ∷ []));
  declared : (d : Kept) → Has l.walk d → Has l.env.declarations d;
  place : l.place ≡ length l.walk;
  nest : l.m.nest ≡ l.fn.m.nest;
}

abbrev pub decreases-loop-kept : goal.decreases-loop-kept
decreases-loop-kept g l = length l.walk
