-- No two terms have the same number.
use Rattle.std.specs.Prelude.{◌≡◌}
use Rattle.stamps.proofs.Numbers.{number-inj}
use Rattle.pc_terms.specs.Syntax.{Term}
use Rattle.pc_terms.specs.Code.{coded_term}
use Rattle.pc_terms.specs.Counted.{number_of}

pub number_of-inj : (s t : Term) → number_of s ≡ number_of t → s ≡ t
unfolding number_of
number_of-inj s t p = coded_term.inj s t (number-inj (coded_term.code s) (coded_term.code t) p)
