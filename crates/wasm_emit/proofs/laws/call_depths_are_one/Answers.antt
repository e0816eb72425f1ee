use Rattle.wasm_emit.proofs.OneDepth.{call_depths_are_one}
use Rattle.wasm_emit.proofs.Shallow.{calls_are_contractions}
use Rattle.wasm_emit.proofs.laws.call_depths_are_one.Goals as goal

pub returns : goal.returns
returns c = record { one = call_depths_are_one; few = calls_are_contractions }
