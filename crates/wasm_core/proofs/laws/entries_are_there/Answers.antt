use Rattle.wasm_core.proofs.EntryGlobals.{entries_are_there as law}
use Rattle.wasm_core.proofs.laws.entries_are_there.Goals as goal

pub returns : goal.returns
returns c = record { holds = law }
