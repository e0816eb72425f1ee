use Rattle.wasm_emit.proofs.Emitting.{lifted_can_be_emitted}
use Rattle.wasm_emit.proofs.laws.lifted_programs_can_be_emitted.Goals as goal

pub returns : goal.returns
returns c = record { emits = lifted_can_be_emitted }
