use Rattle.wasm_core.proofs.Whole.{printed as law}
use Rattle.wasm_core.proofs.laws.shortest_bytes_spell.Goals as goal

pub returns : goal.returns
returns c = record { holds = law }
