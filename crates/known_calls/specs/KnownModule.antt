-- The module of a lifted program with workers: two functions of the run time, an entry for each function of the program, which calls of closures come to, its constants, main, and a worker for each function.
use Rattle.std.specs.Prelude.{ℕ, zero, suc, ◌-◌, ◌*◌, if◌then◌else◌, List, [], ◌∷◌, ◌++◌, length, map, max, replicate, Some, codes}
use Rattle.closure_lift.specs.Lifted.{Block, Fn, Program}
use Rattle.wasm_core.specs.declared.types.ValType.TheVariants as type
use Rattle.wasm_core.specs.declared.types.FuncType.{FuncType}
use Rattle.wasm_core.specs.declared.types.GlobalDef.{GlobalDef}
use Rattle.wasm_core.specs.declared.exports.Export.{Export}
use Rattle.wasm_core.specs.declared.exports.ExportKind.TheVariants as kind
use Rattle.wasm_core.specs.declared.instrs.BlockType.TheVariants.{Value}
use Rattle.wasm_core.specs.declared.instrs.Instr.{Instr}
use Rattle.wasm_core.specs.declared.instrs.Instr.TheVariants.{Unreachable, Loop, End, ReturnCall, LocalGet, GlobalSet}
use Rattle.wasm_core.specs.declared.instrs.Body.{Body}
use Rattle.wasm_core.specs.Parts.{Parts}
use Rattle.wasm_emit.specs.EmittedCode.{Load}
use Rattle.wasm_emit.specs.EmittedLocals.{top}
use Rattle.wasm_emit.specs.EmittedModule.{type_main, type_constant, type_function, body, room_function, box_function, main_index, entries, word_global}
use Rattle.known_calls.specs.KnownPlaces.{Place, At, InLocal, fields_of}
use Rattle.known_calls.specs.KnownCode.{is_wide, worker_index, Inside, Final, InTail, code}

-- the type of a worker of n captured words
abbrev pub words_type : ℕ → FuncType
words_type n = record { params = replicate (suc n) type.I32; result = Some type.I32 }

-- the types of n workers, from k captured words on
abbrev pub words_types : ℕ → ℕ → List FuncType
words_types k zero = []
words_types k (suc n) = words_type k ∷ words_types (suc k) n

-- how many there are: up to that of the worker with the most captured words
abbrev pub widest_worker : List Fn → ℕ
widest_worker [] = 0
widest_worker (f ∷ fs) = if is_wide f then widest_worker fs else max (suc f.captured) (widest_worker fs)

-- a worker's variables: the argument, which is its last parameter, and the captured words, the last one first
abbrev pub params : ℕ → List Place
params zero = []
params (suc n) = At (InLocal n) ∷ params n

-- the n captured words of the closure in local 0, in order
abbrev pub captured_words : ℕ → List Instr → List Instr
captured_words zero rest = rest
captured_words (suc n) rest = captured_words n (LocalGet 0 ∷ Load (4 * suc n) ∷ rest)

-- the body of a function that has no worker
abbrev pub wide_body : Program → Fn → Body
wide_body P f = body (top 2 f.body - 2) (code P (At (InLocal 1) ∷ fields_of 0 f.captured []) 2 Final f.body (End ∷ []))

-- what a call of a closure enters: it calls the worker with the captured words and the argument, and leaves no frame of its own
abbrev pub stub_code : Program → ℕ → ℕ → List Instr
stub_code P g captured = captured_words captured (LocalGet 1 ∷ ReturnCall (worker_index P g) ∷ End ∷ [])

abbrev pub entry : Program → ℕ → Fn → Body
entry P g f = if is_wide f then wide_body P f else body 0 (stub_code P g f.captured)

-- a loop whose round is the function's body
abbrev pub worker_code : Program → ℕ → Fn → List Instr
worker_code P g f = code P (params (suc f.captured)) (suc f.captured) (InTail g 0) f.body (End ∷ End ∷ [])

abbrev pub worker : Program → ℕ → Fn → Body
worker P g f = if is_wide f then body 0 (Unreachable ∷ End ∷ []) else body (top 2 f.body - 2) (Loop (Value type.I32) ∷ worker_code P g f)

-- the number of a worker's type
abbrev pub worker_type : Fn → ℕ
worker_type f = if is_wide f then 0 else suc (suc (suc f.captured))

-- what is made of each function, with its number
abbrev pub numbered : {A : Type 0} → (ℕ → Fn → A) → ℕ → List Fn → List A
numbered make g [] = []
numbered make g (f ∷ fs) = make g f ∷ numbered make (suc g) fs

abbrev pub constant : Program → Block → Body
constant P t = body (top 0 t) (code P [] 0 Final t (End ∷ []))

abbrev pub main_function : Program → Body
main_function P = body (top 0 P.main) (code P [] 0 Inside P.main (GlobalSet 0 ∷ End ∷ []))

-- what belongs to each function, in the order of their indices: that of the entries, of the constants, of main, and of the workers
abbrev pub in_order : {A : Type 0} → Program → (ℕ → Fn → A) → (Block → A) → A → (ℕ → Fn → A) → List A
in_order P of_entry of_constant of_main of_worker = numbered of_entry 0 P.functions ++ (map of_constant P.constants ++ of_main ∷ numbered of_worker 0 P.functions)

-- the module with this main, with further globals and exports, whose memory may have at most so many pages
abbrev pub module_with : Program → Body → List GlobalDef → List Export → ℕ → Parts
module_with P main gs es pages = record {
  types = type_main ∷ type_constant ∷ type_function ∷ words_types 0 (widest_worker P.functions);
  funcs = 0 ∷ 2 ∷ in_order P (λ g f. 2) (λ t. 1) 0 (λ g f. worker_type f);
  table = Some (record { min = suc (length P.functions); max = Some (suc (length P.functions)) });
  memory = Some (record { min = 1; max = Some pages });
  globals = word_global 0 ∷ word_global 0 ∷ word_global 8 ∷ gs;
  exports =
      record { name = codes "main"; kind = kind.Func; index = main_index P } ∷ record { name = codes "memory"; kind = kind.Memory; index = 0 } ∷
      record { name = codes "result"; kind = kind.Global; index = 0 } ∷ record { name = codes "status"; kind = kind.Global; index = 1 } ∷ es;
  elements = record { offset = 0; funcs = entries 1 (suc (length P.functions)) } ∷ [];
  bodies = room_function ∷ box_function ∷ in_order P (entry P) (constant P) main (worker P);
}

abbrev pub module_of : Program → ℕ → Parts
module_of P pages = module_with P (main_function P) [] [] pages
