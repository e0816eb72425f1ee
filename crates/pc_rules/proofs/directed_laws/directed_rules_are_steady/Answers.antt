use Rattle.pc_rules.specs.DirectedWeakHead.{whnf}
use Rattle.pc_rules.specs.DirectedComparison.{compare}
use Rattle.pc_rules.specs.DirectedGuard.{fix_guard}
use Rattle.pc_rules.specs.DirectedTyping.{infer}
use Rattle.pc_rules.specs.DirectedDeclarations.{block_rule}
use Rattle.pc_rules.proofs.Fair.{steady}
use Rattle.pc_rules.proofs.FairReduction.{fair_whnf, fair_compare}
use Rattle.pc_rules.proofs.FairRules.{fair_guard}
use Rattle.pc_rules.proofs.FairTyping.{fair_infer, fair_block}
use Rattle.pc_rules.proofs.FairSearch.{steady_evaluation, steady_search}
use Rattle.pc_rules.proofs.directed_laws.directed_rules_are_steady.Goals as goal

pub returns : goal.returns
returns c = record {
  weak_head = λ E V t. steady (whnf E V t) (λ n k. fair_whnf E V t);
  comparison = λ E q m c equal a b. steady (compare E q m c equal a b) (λ n k. fair_compare E q m c equal a b);
  guard = λ E V rargs bodies. steady (fix_guard E V rargs bodies) (λ n k. fair_guard E V rargs bodies);
  inference = λ E q m c t. steady (infer E q m c t) (λ n k. fair_infer E q m c t);
  blocks = λ E q m B. steady (block_rule E q m B) (λ n k. fair_block E q m B);
  evaluation = steady_evaluation;
  search = steady_search;
}
