use Rattle.lazy_conversion.proofs.Reading.{types_read}
use Rattle.lazy_conversion.proofs.fixpoints.type_parts.Goals as goal

pub returns : goal.returns
returns c = record { is = types_read c.args.f _ c.requires.types }
