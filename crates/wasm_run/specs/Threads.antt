-- A run's parts as a state of the definitions.
use Rattle.std.specs.Prelude.{◌+◌, List, map, drop, reverse, Bool, Option, Some, None}
use Rattle.wasm_core.specs.declared.ended.Ended.{Ended}
use Rattle.wasm_core.specs.declared.instrs.Instr.{Instr}
use Rattle.wasm_core.specs.Parts.{Parts}
use Rattle.wasm_core.specs.MachineStep.{Frame, Store, Conf, State, At, Over, act}
use Rattle.wasm_run.specs.Shape.{Shape}
use Rattle.wasm_run.specs.View.{frame_at}
use Rattle.wasm_run.specs.Programs.{code_of}
use Rattle.wasm_run.specs.declared.thread.Thread.{Thread}

abbrev pub frame_in : Parts → Shape → Frame
frame_in m s = frame_at (code_of m s.func) s

abbrev pub store_in : Thread → Store
store_in t = record { pages = t.pages; memory = t.memory.items; globals = t.globals.items; refused = t.refused; by_choice = t.by_choice }

abbrev pub conf_of : Parts → Thread → Conf
conf_of m t = record { store = store_in t; current = frame_in m t.current; callers = map (frame_in m) (reverse t.callers.items) }

-- the state of a run that has ended so, or hasn't
abbrev pub state_of : Parts → Option Ended → Thread → State
state_of m None t = At (conf_of m t)
state_of m (Some e) t = Over e (store_in t)

-- the instructions after the one at the place of the function that runs
abbrev pub rest_of : Parts → Thread → List Instr
rest_of m t = drop (t.current.at + 1) (code_of m t.current.func)

-- what one instruction does, where a grow is granted or refused
abbrev pub acting : Parts → Bool → Instr → Thread → Option State
acting m granted i t = act m granted i (rest_of m t) (conf_of m t)
