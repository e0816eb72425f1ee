use Rattle.box_passes.proofs.PropMatchForm.{prop_match_sizes}
use Rattle.box_passes.proofs.laws.prop_match_is_no_larger.Goals as goal

pub returns : goal.returns
returns c = record { sizes = prop_match_sizes }
