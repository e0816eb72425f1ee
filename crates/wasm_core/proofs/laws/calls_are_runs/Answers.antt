use Rattle.wasm_core.proofs.Refusals.{calls_are_runs as law}
use Rattle.wasm_core.proofs.laws.calls_are_runs.Goals as goal

pub returns : goal.returns
returns c = record { holds = law }
