use Rattle.wasm_run.proofs.Peaks.{peaks_are_one as law}
use Rattle.wasm_run.proofs.laws.peaks_are_one.Goals as goal

pub returns : goal.returns
returns c = record { one = law }
