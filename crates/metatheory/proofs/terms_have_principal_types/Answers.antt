use Rattle.metatheory.proofs.Principal.{terms_have_principal_types}
use Rattle.metatheory.proofs.terms_have_principal_types.Goals as goal

pub returns : goal.returns
returns c = record { principal = terms_have_principal_types }
