use Rattle.wasm_core.proofs.Inversion.{is_module as law}
use Rattle.wasm_core.proofs.laws.spelled_is_module.Goals as goal

pub returns : goal.returns
returns c = record { holds = law }
