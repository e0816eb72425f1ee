use Rattle.std.proofs.Common.{◌<◌, ◌≤◌, ◌+◌, length, take, replicate, get_or, subst, arith}
use Rattle.std.proofs.Math.Seq.{take_all}
use Rattle.reports.specs.Counting.{numbered}
use Rattle.reports.specs.declared.fact.Fact.TheVariants.{RuleUsed}
use Rattle.reports.proofs.FactByFact.{all_told_none, all_told_then, numbered_more}
use Rattle.module_run.specs.RunFacts.{AreTold}
use Rattle.driver.proofs.reporting.telling.tell_uses.Goals as goal

pub loop-rule-init : goal.loop-rule-init
loop-rule-init g c = all_told_none g.R.Report.shown c.args.reports.now.items

pub loop-rule-preserved : goal.loop-rule-preserved
loop-rule-preserved g c =
    let i = c.loop-rule.rule in
    let uses = c.args.uses.now in
    let lt : i < length uses = grind arith in
    subst (λ fs. AreTold g.R.Report.shown fs c.args.reports.now.items c.tell.new.reports.items)
    (numbered_more RuleUsed 1 i (i + 1) uses 0 (i + 1) lt (omega arith) (omega arith))
    (all_told_then g.R.Report.shown (numbered RuleUsed 1 (take i uses)) (replicate (get_or uses i 0) (RuleUsed (i + 1))) c.args.reports.now.items c.loop-rule.reports.items c.tell.new.reports.items c.loop-rule.invariant c.tell.ensures.told)

pub returns : goal.returns
returns g c =
    let uses = c.args.uses.now in
    let le : length uses ≤ c.loop-rule.rule = grind arith in
    record {
      told = subst (λ ns. AreTold g.R.Report.shown (numbered RuleUsed 1 ns) c.args.reports.now.items c.loop-rule.reports.items) (take_all c.loop-rule.rule uses le) c.loop-rule.invariant;
    }
