use Rattle.box_passes.proofs.Passes.{passes_form}
use Rattle.box_passes.proofs.laws.passes_keep_form.Goals as goal

pub returns : goal.returns
returns c = record { form = passes_form }
