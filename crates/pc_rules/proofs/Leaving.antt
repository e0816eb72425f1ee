-- That directed rules never go back on units, from one account: one set of rules, by which `search` finds it for what follows in a rule.
-- Of an inference or a comparison that isn't named, `search` is given besides that it is fair, and `typing_leaves` or `comparison_leaves` of it;
-- where more than four parts follow one another, it is given a depth too: `search leaving depth 8`.
use Rattle.std.proofs.Common.{Bool}
use Rattle.pc_terms.specs.Syntax.{Term}
use Rattle.pc_rules.specs.declared.meter.Account.{Account}
use Rattle.calculus_rules.specs.Context.{Context}
use Rattle.pc_rules.specs.DirectedRun.{Leaves}
use Rattle.pc_rules.specs.DirectedComparison.{Comparison}
use Rattle.pc_rules.specs.DirectedTyping.{Typing}
use Rattle.pc_rules.proofs.Fair.{leaving_runs}
use Rattle.pc_rules.proofs.FairReduction.{FairComparison, leaving_reduction}
use Rattle.pc_rules.proofs.FairRules.{leaving_guard}
use Rattle.pc_rules.proofs.FairPositivity.{leaving_positivity}
use Rattle.pc_rules.proofs.FairTyping.{FairTyping, leaving_typing}
use Rattle.pc_rules.proofs.FairErasable.{leaving_erasable}
use Rattle.pc_rules.proofs.FairSearch.{leaving_search}

pub typing_leaves : (inf : Typing) → FairTyping 0 0 inf → (c : Context) (t : Term) (u : Account) → Leaves (inf c t u).end u.left
typing_leaves inf h c t u = (h.at c t).falls u

pub comparison_leaves : (cmp : Comparison) → FairComparison 0 0 cmp → (c : Context) (equal : Bool) (a b : Term) (u : Account) → Leaves (cmp c equal a b u).end u.left
comparison_leaves cmp h c equal a b u = (h.at c equal a b).falls u

pub ruleset leaving = (leaving_runs, leaving_reduction, leaving_guard, leaving_positivity, leaving_typing, leaving_erasable, leaving_search)
