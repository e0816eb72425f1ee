use Rattle.first_order.proofs.WrittenArguments.{written-spelled}
use Rattle.first_order.proofs.laws.written_arguments_are_spelled.Goals as goal

pub returns : goal.returns
returns c = record { spelled = λ names Ss ds ts atoms own some w. written-spelled names Ss ds ts atoms own some w }
