use Rattle.std.proofs.Common.{Some, sym, ap, ◌∙◌}
use Rattle.driver.proofs.Checking.{no_name}
use Rattle.driver.proofs.erasing.axiom.Goals as goal

pub unreachable-requires : goal.unreachable-requires
unreachable-requires c = no_name c.args.raw.now.names c.args.name.0 c.requires.there.0 c.in-None.ensures.bytes c.requires.there.1

pub returns-in-Ok : goal.returns-in-Ok
returns-in-Ok c = record { says = sym c.in-Some.ensures.bytes ∙ ap Some (sym (c.in-Ok.ensures.items ∙ c.as_bytes.ensures.value)) }
