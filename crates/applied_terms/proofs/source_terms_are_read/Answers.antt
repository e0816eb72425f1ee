use Rattle.applied_terms.proofs.SourceTerms.{fitting_data_has_a_term, applied_terms_are_there, source_terms_are_read}
use Rattle.applied_terms.proofs.source_terms_are_read.Goals as goal

pub returns : goal.returns
returns c = record { term = fitting_data_has_a_term; applied = applied_terms_are_there; read = source_terms_are_read }
