-- The end of the answer of a module that is given as bytes is one, for files of at most 16 MiB.
use Rattle.std.specs.Prelude.{ℕ, ◌≡◌, ◌≢◌, ◌≤◌, List, length, Result, Err}
use Rattle.wasm_core.specs.WordData.{DataNodes}
use Rattle.wasm_core.specs.ShortestBytes.{most_bytes}
use Rattle.module_run.specs.declared.file_refusal.FileRefusal.{FileRefusal}
use Rattle.module_run.specs.declared.file_refusal.FileRefusal.TheVariants as refusals
use Rattle.module_run.specs.FileEnds.{FileEnds}

abbrev pub FileEndIsOne : Type 0
FileEndIsOne = (bytes : List ℕ) (cap n : ℕ) (a b : Result DataNodes FileRefusal) → length bytes ≤ most_bytes → FileEnds bytes cap n a → FileEnds bytes cap n b → a ≢ Err refusals.Memory → b ≢ Err refusals.Memory → a ≡ b
