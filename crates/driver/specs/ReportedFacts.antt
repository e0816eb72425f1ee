-- The facts of a check, in the order in which they are told.
use Rattle.std.specs.Prelude.{List, ◌++◌, replicate}
use Rattle.reports.specs.Counting.{numbered}
use Rattle.reports.specs.declared.fact.Fact.{Fact}
use Rattle.reports.specs.declared.fact.Fact.TheVariants.{DeclKept, AxiomKept, RuleUsed}
use Rattle.driver.specs.declared.reporting.facts.Facts.{Facts}

-- one for each declaration, one for each constant without a body, and one for each use of a rule, by rising number
abbrev pub facts_of : Facts → List Fact
facts_of f = replicate f.declarations DeclKept ++ (replicate f.axioms AxiomKept ++ numbered RuleUsed 1 f.uses)
