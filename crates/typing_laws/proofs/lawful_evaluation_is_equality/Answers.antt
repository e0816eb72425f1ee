use Rattle.typing_laws.proofs.MiddleEntries.{lawful_is_equal}
use Rattle.typing_laws.proofs.lawful_evaluation_is_equality.Goals as goal

pub returns : goal.returns
returns c = record { equal = lawful_is_equal }
