use Rattle.wasm_encode.proofs.Fewest.{none_is_shorter}
use Rattle.wasm_encode.proofs.file.none_is_shorter.Goals as goal

pub returns : goal.returns
returns c = record { holds = none_is_shorter }
