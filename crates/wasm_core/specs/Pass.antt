-- One pass over a body: what is known of the operands at each place.
use Rattle.std.specs.Prelude.{ℕ, length, ◌&&◌, nat_eq, is_some, List, [], ◌∷◌, ◌++◌, Bool, true, false, Option, Some, None, ◌≡◌, slice_get}
use Rattle.wasm_core.specs.declared.types.ValType.{ValType}
use Rattle.wasm_core.specs.declared.types.ValType.TheVariants.{I32, I64}
use Rattle.wasm_core.specs.declared.instrs.Instr.{Instr}
use Rattle.wasm_core.specs.declared.instrs.Instr.TheVariants.{Unreachable, Block, Loop, If, Else, End, Br, BrIf, BrTable, Return, ReturnCall, ReturnCallIndirect, Drop}
use Rattle.wasm_core.specs.Parts.{Parts}
use Rattle.wasm_core.specs.MachineStep.{on_some, same_types}
use Rattle.wasm_core.specs.ModuleTyping.{OperandTypes, Effect, effect, tail_effect, left_by}

-- the operands of the innermost block, the topmost first; where it is loose, any others may lie below them
pub record Known : Type 0 where
  pub vals : OperandTypes
  pub loose : Bool

-- an open block
pub record Ctl : Type 0 where
  pub label : OperandTypes
  pub ends : OperandTypes
  pub one_arm : Bool
  pub below : Known

pub record Place : Type 0 where
  pub now : Known
  pub ctls : List Ctl

pub data Check : Type 0 where
  More : Place → Check
  Finished : Check

abbrev pub knowing : OperandTypes → Bool → Known
knowing vals loose = record { vals = vals; loose = loose }

abbrev pub same : ValType → ValType → Bool
same I32 I32 = true
same I32 I64 = false
same I64 I32 = false
same I64 I64 = true

abbrev pub only : {A : Type 0} → Bool → Option A → Option A
only true o = o
only false o = None

-- these types are taken off
abbrev pub take_off : OperandTypes → OperandTypes → Bool → Option Known
take_off [] vals loose = Some (knowing vals loose)
take_off (p ∷ ps) [] false = None
take_off (p ∷ ps) [] true = Some (knowing [] true)
take_off (p ∷ ps) (v ∷ vals) loose = only (same p v) (take_off ps vals loose)

abbrev pub off : OperandTypes → Known → Option Known
off ps k = take_off ps k.vals k.loose

abbrev pub put_on : OperandTypes → Known → Known
put_on ps k = record k { vals = ps ++ k.vals }

-- these are all the operands
abbrev pub if_none : OperandTypes → Known → Option Known
if_none [] k = Some k
if_none (v ∷ vals) k = None

abbrev pub closes : OperandTypes → Known → Option Known
closes ps k = on_some (off ps k) (λ j. if_none j.vals j)

abbrev pub drop_one : OperandTypes → Bool → Option Known
drop_one [] false = None
drop_one [] true = Some (knowing [] true)
drop_one (v ∷ vals) loose = Some (knowing vals loose)

abbrev pub dead : Place → Check
dead a = More (record a { now = knowing [] true })

abbrev pub labels_of : OperandTypes → List Ctl → List OperandTypes
labels_of rs [] = rs ∷ []
labels_of rs (c ∷ cs) = c.label ∷ labels_of rs cs

abbrev pub opened : OperandTypes → OperandTypes → Bool → Known → List Ctl → Check
opened label ends one_arm below cs = More (record {
  now = knowing [] false;
  ctls = record { label = label; ends = ends; one_arm = one_arm; below = below } ∷ cs;
})

-- an `if` that leaves a value has two arms
abbrev pub may_end : Bool → OperandTypes → Bool
may_end true (t ∷ ts) = false
may_end true [] = true
may_end false ts = true

abbrev pub check_end : OperandTypes → Known → List Ctl → Option Check
check_end rs now [] = on_some (closes rs now) (λ k. Some Finished)
check_end rs now (c ∷ cs) =
    on_some (closes c.ends now) (λ k. only (may_end c.one_arm c.ends) (Some (More (record { now = put_on c.ends c.below; ctls = cs }))))

abbrev pub check_else : Known → List Ctl → Option Check
check_else now [] = None
check_else now (c ∷ cs) =
    only c.one_arm (on_some (closes c.ends now) (λ k. Some (opened c.label c.ends false c.below cs)))

-- these operands are there for a label of an arity
abbrev pub fits_label : Option OperandTypes → ℕ → Known → Bool
fits_label None n k = false
fits_label (Some lt) n k = nat_eq (length lt) n && is_some (off lt k)

abbrev pub fit_labels : List OperandTypes → ℕ → Known → List ℕ → Bool
fit_labels labels n k [] = true
fit_labels labels n k (l ∷ ls) = fits_label (slice_get labels l) n k && fit_labels labels n k ls

-- a tail call with this effect, in a function with these results
abbrev pub check_tail : OperandTypes → Option Effect → Place → Option Check
check_tail rs o a = on_some o (λ e. only (same_types e.1 rs) (on_some (off e.0 a.now) (λ k. Some (dead a))))

-- one instruction
abbrev pub check : Parts → OperandTypes → OperandTypes → Instr → Place → Option Check
check m ls rs Unreachable a = Some (dead a)
check m ls rs Drop a = on_some (drop_one a.now.vals a.now.loose) (λ k. Some (More (record a { now = k })))
check m ls rs (Block b) a = Some (opened (left_by b) (left_by b) false a.now a.ctls)
check m ls rs (Loop b) a = Some (opened [] (left_by b) false a.now a.ctls)
check m ls rs (If b) a = on_some (off (I32 ∷ []) a.now) (λ k. Some (opened (left_by b) (left_by b) true k a.ctls))
check m ls rs Else a = check_else a.now a.ctls
check m ls rs End a = check_end rs a.now a.ctls
check m ls rs (Br l) a = on_some (slice_get (labels_of rs a.ctls) l) (λ lt. on_some (off lt a.now) (λ k. Some (dead a)))
check m ls rs (BrIf l) a =
    on_some (slice_get (labels_of rs a.ctls) l) (λ lt. on_some (off (I32 ∷ []) a.now) (λ k. on_some (off lt k) (λ j. Some (More (record a { now = put_on lt j })))))
check m ls rs (BrTable l js) a =
    on_some (slice_get (labels_of rs a.ctls) l) (λ lt. on_some (off (I32 ∷ []) a.now) (λ k. on_some (off lt k) (λ j. only (fit_labels (labels_of rs a.ctls) (length lt) k js) (Some (dead a)))))
check m ls rs Return a = on_some (off rs a.now) (λ k. Some (dead a))
check m ls rs (ReturnCall f) a = check_tail rs (tail_effect m (ReturnCall f)) a
check m ls rs (ReturnCallIndirect index table) a = check_tail rs (tail_effect m (ReturnCallIndirect index table)) a
check m ls rs i a = on_some (effect m ls i) (λ e. on_some (off e.0 a.now) (λ k. Some (More (record a { now = put_on e.1 k }))))

abbrev pub passes : Option Check → (Place → Type 0) → Type 0 → Type 0
passes None go fin = ⊥
passes (Some Finished) go fin = fin
passes (Some (More a)) go fin = go a

-- the code is passed from this place, up to the function's own end
abbrev pub Accepts : Parts → OperandTypes → OperandTypes → Place → List Instr → Type 0
Accepts m ls rs a [] = ⊥
Accepts m ls rs a (i ∷ rest) = passes (check m ls rs i a) (λ b. Accepts m ls rs b rest) (rest ≡ [])

-- the start of a body
abbrev pub outset : Place
outset = record { now = knowing [] false; ctls = [] }

abbrev pub one : Parts → OperandTypes → OperandTypes → Option Check → Instr → Option Check
one m ls rs None i = None
one m ls rs (Some Finished) i = None
one m ls rs (Some (More a)) i = check m ls rs i a

-- the whole pass
abbrev pub run : Parts → OperandTypes → OperandTypes → Option Check → List Instr → Option Check
run m ls rs o [] = o
run m ls rs o (i ∷ rest) = run m ls rs (one m ls rs o i) rest
