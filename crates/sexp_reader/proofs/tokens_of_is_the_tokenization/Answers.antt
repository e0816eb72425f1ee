use Rattle.sexp_reader.proofs.Layouts.{tokenization}
use Rattle.sexp_reader.proofs.tokens_of_is_the_tokenization.Goals as goal

pub returns : goal.returns
returns c = record { law = tokenization }
