-- Lifting looks at no constant.
use Rattle.std.specs.Prelude.{◌≡◌, ℕ, List}
use Rattle.anf_convert.specs.Anf.{AnfBlock}
use Rattle.anf_convert.specs.Renumbering as anf
use Rattle.anf_convert.specs.Captured.{Scope}
use Rattle.closure_lift.specs.Lift.{LiftSlot, lift_block, functions_block}
use Rattle.closure_lift.specs.LiftedProgram.{renumber, renumber_functions}

-- a block whose constants have other numbers is lifted to the block that has those
abbrev pub Renumbers : Type 0
Renumbers = (f : ℕ → ℕ) (s : Scope) (gs : List ℕ) (fr : List LiftSlot) (g : ℕ) (t : AnfBlock) → lift_block s gs fr g (anf.renumber f t) ≡ renumber f (lift_block s gs fr g t)

-- and has the functions that have those
abbrev pub RenumbersFunctions : Type 0
RenumbersFunctions = (f : ℕ → ℕ) (s : Scope) (gs : List ℕ) (g : ℕ) (t : AnfBlock) → functions_block s gs g (anf.renumber f t) ≡ renumber_functions f (functions_block s gs g t)
