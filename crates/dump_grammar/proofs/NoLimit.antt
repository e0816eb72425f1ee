-- Where no limit is passed, none of two is, and each test holds.
use Rattle.std.proofs.Common.{◌≡◌, ℕ, ◌<◌, Option, None, Some, Bool, true, false, refl}
use Rattle.std.specs.Prelude.{nat_lt}
use Rattle.std.proofs.lemmas.Bool.{ltb-true}
use Rattle.dump_grammar.specs.declared.refusal.Limit.{Limit}
use Rattle.dump_grammar.specs.Limits.{first, unless, one_more_over}

pub none_both : (a b : Option Limit) → first a b ≡ None → (a ≡ None) × (b ≡ None)
none_both None b e = (refl, e)
none_both (Some l) b e = absurd (cc)

pub test_holds : (b : Bool) (l : Limit) → unless b l ≡ None → b ≡ true
test_holds true l e = refl
test_holds false l e = absurd (cc)

pub one_more_fits : (most : ℕ) (l : Limit) (n : ℕ) → one_more_over most l n ≡ None → n < most
one_more_fits most l n e = ltb-true n most (test_holds (nat_lt n most) l e)
