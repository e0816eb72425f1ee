-- A module whose functions set the status only from a test of a grow, and what its status says.
use Rattle.std.proofs.Common.{◌≡◌, ℕ, zero, suc, List, [], ◌∷◌, ◌++◌, map, Option, Some, ap, subst}
use Rattle.std.specs.Prelude.{slice_get}
use Rattle.std.specs.Option.{option_and_then}
use Rattle.std.proofs.lemmas.Option.{same_Some}
use Rattle.wasm_core.specs.declared.types.FuncType.{FuncType}
use Rattle.wasm_core.specs.declared.types.ConstValue.{ConstValue}
use Rattle.wasm_core.specs.declared.types.ConstValue.TheVariants.{I32, I64}
use Rattle.wasm_core.specs.declared.instrs.Body.{Body}
use Rattle.wasm_core.specs.Parts.{Parts}
use Rattle.wasm_core.specs.Instance.{Func, func_of, func_with}
use Rattle.wasm_core.specs.MachineStep.{State, At, Over}
use Rattle.wasm_core.specs.Runs.{store_of}
use Rattle.wasm_core.specs.Answer.{i32_of}
use Rattle.wasm_core.proofs.Small.{no, some_of}
use Rattle.wasm_emit.proofs.Honest.{Wary, HonestState, Tells}

-- bodies that set the status only so
abbrev pub AllWary : List Body → Type 0
AllWary bs = (f : ℕ) (b : Body) → slice_get bs f ≡ Some b → Wary b.code

pub wary_body : {a b : Body} → ◌≡◌ {A = Option Body} (Some a) (Some b) → Wary a.code → Wary b.code
wary_body e w = subst (λ (g : Body). Wary g.code) (same_Some _ _ e) w

pub mapped_then : {A : Type 0} (h : A → Body) (xs : List A) (bs : List Body) → ((x : A) → Wary (h x).code) → AllWary bs → AllWary (map h xs ++ bs)
mapped_then h [] bs a r f g e = r f g e
mapped_then h (x ∷ xs) bs a r zero g e = wary_body e (a x)
mapped_then h (x ∷ xs) bs a r (suc f) g e = mapped_then h xs bs a r f g e

abbrev pub made : FuncType → Body → Option Func
made t b = Some (record { type = t; body = b })

-- a function's body is one of the bodies
pub of_bodies : (m : Parts) → AllWary m.bodies → (f : ℕ) (g : Func) → func_of m f ≡ Some g → Wary g.body.code
of_bodies m all f g e =
    let (index, h1, e1) = some_of (λ index. func_with m f index) (slice_get m.funcs f) g e in
    let (t, h2, e2) = some_of (λ (t : FuncType). option_and_then (λ (b : Body). Some (record { type = t; body = b })) (slice_get m.bodies f)) (slice_get m.types index) g e1 in
    let (b, h3, e3) = some_of (λ (b : Body). made t b) (slice_get m.bodies f) g e2 in
    subst (λ (g : Func). Wary g.body.code) (same_Some _ _ e3) (all f b h3)

pub tells_of : (t : State) → HonestState t → Tells (store_of t)
tells_of (At c) h = h.status
tells_of (Over e s) h = h

pub word_is : (v : ConstValue) → i32_of v ≡ Some 1 → v ≡ I32 1
word_is (I32 n) e = ap I32 (same_Some _ _ e)
word_is (I64 n) e = no e
