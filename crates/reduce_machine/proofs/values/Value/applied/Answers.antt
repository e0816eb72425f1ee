use Rattle.std.proofs.Common.{◌≡◌, refl, length, arith}
use Rattle.reduce_machine.proofs.ValueParts.{applied_value}
use Rattle.reduce_machine.proofs.values.Value.applied.Goals as goal

pub returns-clause-value : goal.returns-clause-value
returns-clause-value c =
    let n : c.len.result ≡ length c.args.args.items = grind arith in
    applied_value _ c.args.head c.recursive_place.result c.len.result refl c.new.ensures.items c.lessened-missing.ensures.is n c.recursive_place.ensures.lacks c.requires
