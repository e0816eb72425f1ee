use Rattle.calculus_rules.proofs.OneEach.{one_of_each, one_with_heads}
use Rattle.calculus_rules.proofs.laws.accepted_names_have_one_declaration.Goals as goal

pub returns : goal.returns
returns c = record { one_each = one_of_each; heads = one_with_heads }
