use Rattle.std.proofs.Common.{◌≡◌}
use Rattle.lambda_box.specs.BoxProgram.{boxes}
use Rattle.box_passes.proofs.prop_matches.box_list.Given as goal

abbrev pub invariant-loop-i : goal.invariant-loop-i
invariant-loop-i l = l.items.items ≡ boxes l._i
