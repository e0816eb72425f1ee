use Rattle.wasm_validate.proofs.Naming.{Listed}
use Rattle.wasm_validate.proofs.names.names_are_distinct.Given as goal

abbrev pub invariant-loop-at : goal.invariant-loop-at
invariant-loop-at l = Listed l.exports l.at l.before
