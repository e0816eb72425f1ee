-- What a frame holds, as its users see it.
use Rattle.wasm_core.specs.declared.types.ConstValue.{ConstValue}
use Rattle.wasm_core.specs.declared.types.FuncType.{FuncType}
use Rattle.wasm_core.specs.declared.types.ValType.{ValType}
use Rattle.wasm_core.specs.Instance.{zero_of}
use Rattle.std.specs.Prelude.{ℕ, ◌+◌, List, [], ◌∷◌, ◌++◌, Bool, true, false, Option, Some, None, drop, is_some, length, map, reverse, slice_get, take}

-- an open block: whether a branch to it keeps a value, the place where the branch goes on, and the operands below the block
pub record Open : Type 0 where
  pub keeps : Bool
  pub target : ℕ
  pub below : List ConstValue

abbrev pub open_at : Bool → ℕ → List ConstValue → Open
open_at keeps target below = record { keeps = keeps; target = target; below = below }

-- the function, whether it has a result, the place in its body, its locals, the operands of the innermost open block, the topmost first,
-- and the open blocks, the innermost first
pub record Shape : Type 0 where
  pub func : ℕ
  pub keeps : Bool
  pub at : ℕ
  pub locals : List ConstValue
  pub vals : List ConstValue
  pub labels : List Open

-- a function of this type and with these further locals as it begins, where its arguments are the topmost of these operands
abbrev pub begun : ℕ → FuncType → List ValType → List ConstValue → Shape
begun f t others operands =
    record { func = f; keeps = is_some t.result; at = 0; locals = reverse (take (length t.params) operands) ++ map zero_of others; vals = []; labels = [] }

-- goes on with what a branch keeps of the operands: the topmost, or nothing
abbrev pub keeping : {A : Type 0} → Bool → List ConstValue → (List ConstValue → Option A) → Option A
keeping false vals go = go []
keeping true [] go = None
keeping true (x ∷ vals) go = go (x ∷ [])

-- the i-th open block is left with these operands
abbrev pub leave_with : ℕ → Shape → Open → List ConstValue → Option Shape
leave_with i s k top = Some (record s { at = k.target; vals = top ++ k.below; labels = drop (i + 1) s.labels })

abbrev pub leave_to : ℕ → Shape → Option Open → Option Shape
leave_to i s None = None
leave_to i s (Some k) = keeping k.keeps s.vals (leave_with i s k)

-- a branch to the i-th open block from the inside
abbrev pub branched : ℕ → Shape → Option Shape
branched i s = leave_to i s (slice_get s.labels i)

abbrev pub close_first : Shape → List Open → Option (Shape × ℕ)
close_first s [] = None
close_first s (k ∷ ks) = Some (record s { vals = s.vals ++ k.below; labels = ks }, k.target)

-- the innermost open block is left with all its operands; where a branch to it would have gone
abbrev pub closed : Shape → Option (Shape × ℕ)
closed s = close_first s s.labels
