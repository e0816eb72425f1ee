use Rattle.std.proofs.Common.{length, sym, subst}
use Rattle.closure_lift.specs.FreeVariables.{size, notes_block}
use Rattle.closure_lift.specs.Lifting.{Stand}
use Rattle.closure_lift.proofs.convert.lift_code.Goals as goal

pub lift_block_in-requires : goal.lift_block_in-requires
lift_block_in-requires c = record { notes = subst (λ v. Stand c.args.notes.now (length c.args.functions.now.items) (notes_block (size v.0) c.args.block.now)) (sym c.new-variables.ensures.none) c.requires.notes }
