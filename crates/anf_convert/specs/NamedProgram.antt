-- The program in A-normal form in which constants stand by their names, as the code makes it.
use Rattle.std.specs.Prelude.{map}
use Rattle.lambda_box.specs.BoxProgram.{BoxConstant, BoxProgram}
use Rattle.anf_convert.specs.ToAnf.{code_of}
use Rattle.anf_convert.specs.Writing.{number_of}
use Rattle.anf_convert.specs.declared.program.AnfConstant.{AnfConstant}
use Rattle.anf_convert.specs.declared.program.AnfProgram.{AnfProgram}

abbrev pub named_constant : BoxConstant → AnfConstant
named_constant c = record { name = c.name; body = code_of number_of c.body }

abbrev pub named_anf : BoxProgram → AnfProgram
named_anf P = record { constants = map named_constant P.constants; families = P.families; main = code_of number_of P.main }
