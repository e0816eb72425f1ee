use Rattle.wasm_core.proofs.EntryGlobals.{hosted_entries_are_there as law}
use Rattle.wasm_core.proofs.laws.hosted_entries_are_there.Goals as goal

pub returns : goal.returns
returns c = record { holds = law }
