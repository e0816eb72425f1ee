-- The rules of typing where no operand has a bottom type, as an emitter uses them.
use Rattle.std.proofs.Common.{◌≡◌, List, [], ◌∷◌, ◌++◌, Some, refl}
use Rattle.wasm_core.specs.declared.types.ValType.TheVariants.{I32}
use Rattle.wasm_core.specs.declared.instrs.BlockType.{BlockType}
use Rattle.wasm_core.specs.declared.instrs.BlockType.TheVariants.{Empty}
use Rattle.wasm_core.specs.declared.instrs.Instr.{Instr}
use Rattle.wasm_core.specs.declared.instrs.Instr.TheVariants.{If, Else, End}
use Rattle.wasm_core.specs.Parts.{Parts}
use Rattle.wasm_core.specs.ModuleTyping.{OperandTypes, Operands, Of, known, Match, match_none, match_same, Typed, plain, one_arm, two_arms, effect, left_by, TypedBody}

pub match_known : (ts : OperandTypes) → Match (known ts) ts
match_known [] = match_none
match_known (t ∷ ts) = match_same (match_known ts)

module _ {m : Parts} {ls rs : OperandTypes} {labels : List OperandTypes} {us : Operands} where
  pub t_plain : {pops pushes : OperandTypes} (ts : Operands) {i : Instr} {rest : List Instr} → effect m ls i ≡ Some (pops, pushes) → Typed m ls rs labels (known pushes ++ ts) rest us → Typed m ls rs labels (known pops ++ ts) (i ∷ rest) us
  t_plain {pops} ts e t = plain (known pops) ts e (match_known pops) t

  pub t_one_arm : {ts : Operands} {body rest : List Instr} → Typed m ls rs ([] ∷ labels) [] body [] → Typed m ls rs labels ts rest us → Typed m ls rs labels (Of I32 ∷ ts) (If Empty ∷ (body ++ End ∷ rest)) us
  t_one_arm b t = one_arm (match_same match_none) b t

  pub t_two_arms : {ts : Operands} {b : BlockType} {first second rest : List Instr} → Typed m ls rs (left_by b ∷ labels) [] first (known (left_by b)) → Typed m ls rs (left_by b ∷ labels) [] second (known (left_by b)) → Typed m ls rs labels (known (left_by b) ++
      ts) rest us → Typed m ls rs labels (Of I32 ∷ ts) (If b ∷ (first ++ Else ∷ (second ++ End ∷ rest))) us
  t_two_arms {b = b} f s t = two_arms (match_same match_none) f (match_known (left_by b)) s (match_known (left_by b)) t

-- a body that leaves the results
pub t_body : (m : Parts) (ls rs : OperandTypes) (body : List Instr) → Typed m ls rs (rs ∷ []) [] body (known rs) → TypedBody m ls rs (body ++ End ∷ [])
t_body m ls rs body t = record { body = body; ends = refl; left = known rs; typed = t; matched = match_known rs }
