use Rattle.std.proofs.Common.{◌≡◌, drop}
use Rattle.wasm_core.specs.Entries.{named, name_of}
use Rattle.wasm_run.proofs.entries.index_of.Given as goal

abbrev pub invariant-loop-at : goal.invariant-loop-at
invariant-loop-at l = named (name_of l.entry) l.m.exports ≡ named (name_of l.entry) (drop l.at l.m.exports)
