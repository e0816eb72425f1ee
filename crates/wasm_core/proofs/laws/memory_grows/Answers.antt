use Rattle.wasm_core.proofs.MemoryGrows.{memory_grows as law}
use Rattle.wasm_core.proofs.laws.memory_grows.Goals as goal

pub returns : goal.returns
returns c = record { holds = law }
