-- Which facts a report of a row wants.
use Rattle.std.specs.Prelude.{Bool, true, false, nat_eq}
use Rattle.reports.specs.declared.fact.Fact.{Fact}
use Rattle.reports.specs.declared.fact.Fact.TheVariants.{DeclKept, AxiomKept, RuleUsed, StepDone, Grew}
use Rattle.job_rows.specs.declared.wanting.Wanted.{Wanted}
use Rattle.job_rows.specs.declared.wanting.Wanted.TheVariants.{Everything, Nothing, Rule}

abbrev pub is_wanted : Wanted → Fact → Bool
is_wanted Everything f = true
is_wanted Nothing f = false
is_wanted (Rule n) DeclKept = false
is_wanted (Rule n) AxiomKept = false
is_wanted (Rule n) (RuleUsed k) = nat_eq k n
is_wanted (Rule n) (StepDone k) = false
is_wanted (Rule n) Grew = false
