use Rattle.lazy_conversion.proofs.Reading.{bodies_read}
use Rattle.lazy_conversion.proofs.fixpoints.body_parts.Goals as goal

pub returns : goal.returns
returns c = record { is = bodies_read c.args.f _ _ c.len.ensures.is c.requires.bodies }
