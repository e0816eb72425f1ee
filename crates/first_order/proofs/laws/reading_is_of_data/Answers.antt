use Rattle.first_order.proofs.DataRead.{read_is_data}
use Rattle.first_order.proofs.AllRead.{data_is_read}
use Rattle.first_order.proofs.laws.reading_is_of_data.Goals as goal

pub returns : goal.returns
returns c = record {
  sound = λ E T hs v ds f e. read_is_data E T hs v ds f e;
  complete = λ E a T S v ds f r l. data_is_read E a T S v ds f r l;
}
