-- What emission asks of a program, and the exports of its module.
use Rattle.std.specs.Prelude.{◌+◌, ◌≤◌, ℕ, List, [], ◌∷◌, length, codes}
use Rattle.anf_convert.specs.Anf.{AnfProgram}
use Rattle.anf_convert.specs.AnfForm.{fields, AnfFormed}
use Rattle.closure_lift.specs.CapturedLimit.{ProgramCaptures}
use Rattle.closure_lift.specs.Lift.{lift}
use Rattle.closure_lift.specs.Lifted.{Program}
use Rattle.closure_lift.specs.LiftedForm.{most_functions, Formed, Limits as IsWithin}
use Rattle.wasm_core.specs.declared.exports.Export.{Export}
use Rattle.wasm_core.specs.declared.exports.ExportKind.TheVariants as kind

-- names are in scope, and counts are within the limits
pub record Emits (P : Program) : Type 0 where
  pub most : ℕ
  pub formed : Formed P most
  pub within : IsWithin P
  pub constants : length P.constants ≤ 65536
  pub branches : most ≤ 65536

-- the lifted program of a program of the form meets that, where lifting doesn't refuse it
abbrev pub LiftedCanBeEmitted : Type 0
LiftedCanBeEmitted = (P : AnfProgram) (most m : ℕ) → AnfFormed P m → m ≤ 65536 → ProgramCaptures most P → most ≤ fields → length P.constants + length (lift P).functions ≤ most_functions → Emits (lift P)

-- the exports, with the index of main
abbrev pub exports_with : ℕ → List Export
exports_with i =
    record { name = codes "main"; kind = kind.Func; index = i } ∷ record { name = codes "memory"; kind = kind.Memory; index = 0 } ∷
    record { name = codes "result"; kind = kind.Global; index = 0 } ∷ record { name = codes "status"; kind = kind.Global; index = 1 } ∷ []
