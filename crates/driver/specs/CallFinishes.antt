-- Where `call` has an end that storing or the run shows: main has a module for calls, and the text behind the environment spells arguments of its signature.
use Rattle.std.specs.Prelude.{ℕ, ◌≡◌, List, [], ◌∷◌, Contains}
use Rattle.module_run.specs.CallEnds.{start_with}
use Rattle.module_run.specs.Ends.{IsLargeFrom}
use Rattle.dump_reader.specs.declared.environment.RawEnv.{RawEnv}
use Rattle.driver.specs.CallStages.{CallCompiling, its_call_module}
use Rattle.driver.specs.CallEnds.{ReadingArguments}
use Rattle.driver.specs.Exported.{HasCallModule}

-- main has a module for calls within 16 MiB, as the passes or the sizes show, and arguments of its signature stand behind the environment
pub record CanBeCalled (turns : ℕ) (e : RawEnv) (bytes : List ℕ) (pages : ℕ) : Type 0 where
  pub compiled : HasCallModule turns e pages
  pub reading : ReadingArguments turns e bytes

-- then there is an answer, or want of memory; or the run's answer has too many nodes, there is no room for the arguments or the run is exhausted, it is longer, or its answer is no data of the answer's types
pub record CallFinishes (turns : ℕ) (e : RawEnv) (bytes : List ℕ) (pages steps status : ℕ) : Type 0 where
  pub among : Contains (0 ∷ 1 ∷ 7 ∷ 11 ∷ 12 ∷ 15 ∷ []) status
  pub many : status ≡ 7 → (y : ReadingArguments turns e bytes) × (x : CallCompiling turns e) × IsLargeFrom (start_with (its_call_module pages x) pages y.arguments) (its_call_module pages x) pages steps
