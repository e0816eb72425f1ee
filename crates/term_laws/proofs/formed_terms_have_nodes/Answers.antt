use Rattle.term_laws.proofs.Made.{formed-made}
use Rattle.term_laws.proofs.formed_terms_have_nodes.Goals as goal

pub returns : goal.returns
returns c = record { node = λ t h. formed-made t h }
