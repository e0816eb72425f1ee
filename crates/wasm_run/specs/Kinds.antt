-- How an instruction stands to the blocks around it, as the code says it.
use Rattle.wasm_core.specs.MachineStep.{Bracket}
use Rattle.wasm_core.specs.MachineStep as machine
use Rattle.wasm_run.specs.declared.targets.Kind.{Kind}
use Rattle.wasm_run.specs.declared.targets.Kind.TheVariants.{Opens, Divides, Closes, Plain}

abbrev pub bracket_of : Kind → Bracket
bracket_of Opens = machine.Opens
bracket_of Divides = machine.Divides
bracket_of Closes = machine.Closes
bracket_of Plain = machine.Plain
