-- How a frame keeps what it holds: one vector of operands, and for each open block how many lie below it.
use Rattle.wasm_core.specs.declared.types.ConstValue.{ConstValue}
use Rattle.std.specs.Prelude.{ℕ, ◌-◌, ◌≤◌, List, [], ◌∷◌, length, Bool, true, false, take, drop, reverse}
use Rattle.wasm_run.specs.Shape.{Shape, Open}
use Rattle.wasm_run.specs.declared.frame.Control.{Control}
use Rattle.wasm_run.specs.declared.frame.Frame.TheInside.{Inside}

-- the topmost operand, or nothing
abbrev pub kept : Bool → List ConstValue → List ConstValue
kept false s = []
kept true [] = []
kept true (x ∷ s) = x ∷ []

-- how many operands lie below the innermost open block
abbrev pub height_of : List Control → ℕ
height_of [] = 0
height_of (c ∷ cs) = c.height

-- of the operands, the topmost first, those above a height, and those below it
abbrev pub above : ℕ → List ConstValue → List ConstValue
above h s = take (length s - h) s

abbrev pub below : ℕ → List ConstValue → List ConstValue
below h s = drop (length s - h) s

-- the open blocks, the innermost first, each with the operands below it
abbrev pub opens : List Control → List ConstValue → List Open
opens [] s = []
opens (c ∷ cs) s =
    record { keeps = c.keeps; target = c.target; below = above (height_of cs) (below c.height s) } ∷ opens cs (below c.height s)

-- heights only fall from the innermost block outwards
abbrev pub Fall : List Control → ℕ → Type 0
Fall [] n = Unit {0}
Fall (c ∷ cs) n = (c.height ≤ n) × Fall cs c.height

-- what a frame with these operands and open blocks holds
abbrev pub shape : ℕ → Bool → ℕ → List ConstValue → List Control → List ConstValue → Shape
shape func keeps at locals cs s = record {
  func = func;
  keeps = keeps;
  at = at;
  locals = locals;
  vals = above (height_of cs) s;
  labels = opens cs s;
}

abbrev pub shape_of : Inside → Shape
shape_of f = shape f.func f.keeps f.at f.locals.items (reverse f.controls.items) (reverse f.stack.items)

abbrev pub IsFrame : Inside → Type 0
IsFrame f = Fall (reverse f.controls.items) (length f.stack.items)
