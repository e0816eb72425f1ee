use Rattle.metatheory.proofs.Untypable.{disjunctions_give_no_data, existentials_give_no_data}
use Rattle.metatheory.proofs.proofs_give_no_data.Goals as goal

pub returns : goal.returns
returns c = record { disjunction = disjunctions_give_no_data; existential = existentials_give_no_data }
