use Rattle.std.proofs.Common.{refl}
use Rattle.driver.proofs.TextFits.{unwritten_at}
use Rattle.driver.proofs.exec.line_of.Goals as goal

pub returns-in-Err-NotOfShape : goal.returns-in-Err-NotOfShape
returns-in-Err-NotOfShape c = record { says = (refl, unwritten_at c.args.shapes.now.types c.args.names.now c.requires.named c.args.answer.now.tree c.in-Err-NotOfShape.field-0 c.in-Err-NotOfShape.field-0-is c.in-Err-NotOfShape.ensures.exact) }
