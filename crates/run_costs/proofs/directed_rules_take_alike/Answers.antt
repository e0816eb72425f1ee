use Rattle.run_costs.proofs.QuietReduction.{quiet_whnf, quiet_compare}
use Rattle.run_costs.proofs.QuietRules.{quiet_guard}
use Rattle.run_costs.proofs.Takes.{takes_alike, takes_quiet}
use Rattle.run_costs.proofs.Measured.{measured}
use Rattle.run_costs.proofs.TakesTyping.{takes_infer, takes_sort_of, takes_check, takes_comparison}
use Rattle.std.proofs.Common.{ℕ, ◌≤◌}
use Rattle.pc_terms.specs.Syntax.{Term}
use Rattle.calculus_rules.specs.Environment.{Env}
use Rattle.calculus_rules.specs.Context.{Context}
use Rattle.run_costs.specs.Costs.{TakesAlike}
use Rattle.pc_rules.specs.DirectedTyping.{infer, sort_of}
use Rattle.pc_rules.specs.DirectedComparison.{Test, compare}
use Rattle.run_costs.proofs.directed_rules_take_alike.Goals as goal

sorts_alike : (E : Env) (q : Test) (m n : ℕ) → m ≤ n → (c : Context) (A : Term) → TakesAlike (sort_of E (infer E q m) c A) (sort_of E (infer E q n) c A)
sorts_alike E q m n l c A = takes_alike _ _ (takes_sort_of E (infer E q m) (infer E q n) (record { at = takes_infer E q m n l }) c A)

pub returns : goal.returns
returns c = record {
  weak_head = λ E V t. takes_alike _ _ (takes_quiet _ _ (λ most. quiet_whnf E V t));
  comparison = λ E q m n l c equal a b. takes_alike _ _ (takes_quiet _ _ (λ most. quiet_compare E q m n l c equal a b));
  guard = λ E V rargs bodies. takes_alike _ _ (takes_quiet _ _ (λ most. quiet_guard E V rargs bodies));
  inference = λ E q m n l c t. takes_alike _ _ (takes_infer E q m n l c t);
  sorts = sorts_alike;
  checks = λ E q m n l c t T. takes_alike _ _
      (takes_check E (infer E q m) (infer E q n) (compare E q m) (compare E q n) (record { at = takes_infer E q m n l }) (takes_comparison E q m n l) c t T);
  measured = λ E q m n l c t. measured (infer E q m c t) (infer E q n c t) (takes_alike _ _ (takes_infer E q m n l c t));
  sorts_measured = λ E q m n l c A. measured (sort_of E (infer E q m) c A) (sort_of E (infer E q n) c A) (sorts_alike E q m n l c A);
}
