-- Where a module first fails, against its typing.
use Rattle.std.proofs.Common.{◌≡◌, ℕ, zero, suc, ◌+◌, ◌<◌, ◌≤◌, ◌++◌, List, [], ◌∷◌, Some, None, Option, false, ap, sym, ◌∙◌, subst, length, get_or, arith}
use Rattle.std.specs.Prelude.{slice_get, IfOk, Result, Ok, Err}
use Rattle.std.proofs.lemmas.Option.{slice_get-get_or, slice_get_within, same_Some}
use Rattle.wasm_core.specs.declared.types.FuncType.{FuncType}
use Rattle.wasm_core.specs.declared.instrs.Body.{Body}
use Rattle.wasm_core.specs.Parts.{Parts}
use Rattle.wasm_core.specs.ModuleTyping.{TypedBody, TypedFunc, Functions, Codes, AllSound, IsValid, results_of}
use Rattle.wasm_core.specs.ModuleCondition.{All, IsBody, IsClosed, IsModule}
use Rattle.wasm_core.specs.FirstFault.{FirstFault, outside, inside, TypedBelow, counted}
use Rattle.wasm_core.proofs.Small.{no}
use Rattle.wasm_validate.specs.Verdicts.{SaysOfBody, SaysOfFunc, SaysOutside}
use Rattle.wasm_validate.proofs.Reading.{here, before_next}

pub if_ok : {A E : Type 0} (P Q : A → Type 0) (r : Result A E) → ((v : A) → P v → Q v) → IfOk r P → IfOk r Q
if_ok P Q (Ok v) f h = f v h
if_ok P Q (Err e) f h = h

-- a function's type and body are there
pub type_there : (m : Parts) (fs : List ℕ) (ts : List FuncType) (func : ℕ) → AllSound m → fs ≡ m.funcs → ts ≡ m.types → func < length m.funcs → get_or fs func 0 < length ts
type_there m fs ts func sound ef et lt =
    let e = ap (λ xs. slice_get xs func) (sym ef) ∙ slice_get-get_or fs func 0 (omega (arith, ap length ef)) in
    let h = sound Functions func (get_or fs func 0) e in omega (arith, ap length et)

pub body_there : (m : Parts) (bs : List Body) (func : ℕ) → AllSound m → bs ≡ m.bodies → func < length m.funcs → func < length bs
body_there m bs func sound eb lt = let e : length m.funcs ≡ length m.bodies = sound Codes in omega (arith, ap length eb)

-- each body is closed
closed_at : (bs : List Body) (f : ℕ) (b : Body) → All IsBody bs → slice_get bs f ≡ Some b → IsClosed (false ∷ []) b.code
closed_at [] f b a e = no e
closed_at (c ∷ bs) zero b (p, a) e = subst (λ (x : Body). IsClosed (false ∷ []) x.code) (same_Some _ _ e) p.1
closed_at (c ∷ bs) (suc f) b (p, a) e = closed_at bs f b a e

pub body_closed : (m : Parts) (bs : List Body) (func : ℕ) (b : Body) → IsModule m → bs ≡ m.bodies → func < length bs → b ≡ get_or bs func b → IsClosed (false ∷ []) b.code
body_closed m bs func b i eb lt e = closed_at m.bodies func b i.bodies.1 (ap (λ xs. slice_get xs func) (sym eb) ∙ here bs func b e lt)

pub says : (m : Parts) (fs : List ℕ) (ts : List FuncType) (bs : List Body) (func : ℕ) (type : FuncType) (b : Body) (o : Option ℕ) → AllSound m → fs ≡ m.funcs → ts ≡ m.types → bs ≡ m.bodies → func < length m.funcs → type ≡ get_or ts (get_or fs func
    0) type → b ≡ get_or bs func b → SaysOfBody m type b o → SaysOfFunc m func o
says m fs ts bs func type b o sound ef et eb lt ht hb s = (
  get_or fs func 0,
  type,
  b,
  ap (λ xs. slice_get xs func) (sym ef) ∙ slice_get-get_or fs func 0 (omega (arith, ap length ef)),
  ap (λ xs. slice_get xs (get_or fs func 0)) (sym et) ∙ here ts (get_or fs func 0) type ht (type_there m fs ts func sound ef et lt),
  ap (λ xs. slice_get xs func) (sym eb) ∙ here bs func b hb (body_there m bs func sound eb lt),
  s,
)

-- a fault outside the bodies
pub fault_outside : (m : Parts) (id : ℕ) → SaysOutside m (Some id) → FirstFault m 4294967295 id
fault_outside m id (p, e, bad, before) = subst (λ k. FirstFault m 4294967295 k) (sym e) (outside p bad before)

-- a fault of a function
pub fault_inside : (m : Parts) (func p : ℕ) → AllSound m → TypedBelow m func → SaysOfFunc m func (Some p) → FirstFault m (counted func) (counted p)
fault_inside m func p sound below (index, type, b, hf, ht, hb, s) = inside func p index type b sound below hf ht hb s

pub typed_next : (m : Parts) (func : ℕ) → TypedBelow m func → SaysOfFunc m func None → TypedBelow m (func + 1)
typed_next m func below (index, type, b, hf, ht, hb, s) f i d lt ef ed =
    before_next (λ k (j : ℕ). (x : Body) → slice_get m.bodies k ≡ Some x → TypedFunc m j x) m.funcs func index (λ k j l ej x ex. below k j x l ej ex) hf (λ x ex. record {
      type = type;
      found = ht;
      typed = subst (λ (y : Body). TypedBody m (type.params ++ y.locals) (results_of type) y.code) (same_Some _ _ (sym hb ∙ ex)) s;
    }) f i lt ef d ed

pub all_typed : (m : Parts) (func : ℕ) → AllSound m → TypedBelow m func → length m.funcs ≤ func → IsValid m
all_typed m func sound below le =
    record { outside = sound; bodies = λ f i d ef ed. below f i d (let lt : f < length m.funcs = slice_get_within m.funcs f i ef in omega arith) ef ed }
