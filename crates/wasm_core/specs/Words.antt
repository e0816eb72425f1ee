-- Numbers stay within the bits of their types, and memory is whole pages of bytes.
use Rattle.std.specs.Prelude.{ℕ, ◌≡◌, ◌*◌, ◌^◌, ◌<◌, ◌≤◌, length, IfSome, Some, slice_get}
use Rattle.wasm_core.specs.declared.types.ConstValue.{ConstValue}
use Rattle.wasm_core.specs.declared.types.ConstValue.TheVariants.{I32, I64}
use Rattle.wasm_core.specs.declared.instrs.Instr.{Instr}
use Rattle.wasm_core.specs.declared.instrs.Instr.TheVariants.{I32Const, I64Const}
use Rattle.wasm_core.specs.declared.instrs.Body.{Body}
use Rattle.wasm_core.specs.ModuleCondition.{All as Each}
use Rattle.wasm_core.specs.Parts.{Parts}
use Rattle.wasm_core.specs.MachineStep.{BlockLabel, Frame, Store, Conf, State, At, Over}
use Rattle.wasm_core.specs.ModuleTyping.{AreLimits}

abbrev pub IsWord : ConstValue → Type 0
IsWord (I32 n) = n < 2 ^ 32
IsWord (I64 n) = n < 2 ^ 64

-- a constant is within its type
abbrev pub HasWord : Instr → Type 0
HasWord (I32Const n) = n < 2 ^ 32
HasWord (I64Const n) = n < 2 ^ 64
HasWord _ = Unit {0}

abbrev pub IsByte : ℕ → Type 0
IsByte b = b < 256

-- the module's numbers are within their types, and its memory, if it has one, is valid
pub record HasWords (m : Parts) : Type 0 where
  pub bodies : (f : ℕ) (b : Body) → slice_get m.bodies f ≡ Some b → Each HasWord b.code
  pub globals : Each (λ g. IsWord g.init) m.globals
  pub memory : IfSome m.memory AreLimits

pub record IsLabel (k : BlockLabel) : Type 0 where
  pub goes_on : Each HasWord k.goes_on
  pub below : Each IsWord k.below

pub record IsFrame (f : Frame) : Type 0 where
  pub locals : Each IsWord f.locals
  pub labels : Each IsLabel f.labels
  pub operands : Each IsWord f.operands
  pub rest : Each HasWord f.rest

-- memory has 65,536 bytes for each of its pages, of which there are at most 65,536
pub record IsStore (s : Store) : Type 0 where
  pub pages : s.pages ≤ 65536
  pub size : length s.memory ≡ 65536 * s.pages
  pub bytes : Each IsByte s.memory
  pub globals : Each IsWord s.globals

pub record IsConf (c : Conf) : Type 0 where
  pub store : IsStore c.store
  pub current : IsFrame c.current
  pub callers : Each IsFrame c.callers

abbrev pub IsWordy : State → Type 0
IsWordy (At c) = IsConf c
IsWordy (Over e store) = IsStore store
