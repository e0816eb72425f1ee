-- Reached constants in memory as those of the directed rules.
use Rattle.std.specs.Prelude.{Result, Ok, Err}
use Rattle.erase.specs.declared.constants.Reached.{Reached as InMemory}
use Rattle.erase.specs.declared.refusal.HaltAt.{HaltAt}
use Rattle.erase_rules.specs.DirectedProgram.{Reached}

abbrev pub reached_in : Result InMemory HaltAt → Result Reached HaltAt
reached_in (Ok r) = Ok (record { constants = r.constants.items; without_body = r.without_body })
reached_in (Err x) = Err x
