use Rattle.lazy_conversion.proofs.places.+is_variable.Given as goal

abbrev pub decreases-is_variable : goal.decreases-is_variable
decreases-is_variable l = l.q.now.env.now.rank
