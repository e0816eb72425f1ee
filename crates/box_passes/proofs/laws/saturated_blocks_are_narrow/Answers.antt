use Rattle.box_passes.proofs.SaturatedWidths.{saturated_widths}
use Rattle.box_passes.proofs.laws.saturated_blocks_are_narrow.Goals as goal

pub returns : goal.returns
returns c = record { widths = saturated_widths }
