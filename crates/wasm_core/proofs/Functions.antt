-- The functions of a valid module, by their indices and by the table's entries.
use Rattle.std.proofs.Common.{◌≡◌, ℕ, zero, suc, ◌<◌, List, [], ◌∷◌, ◌++◌, length, Option, Some, None, true, refl, ap, sym, ◌∙◌, arith, get_or, replicate}
use Rattle.std.specs.Prelude.{slice_get, slice_set, ◌&&◌}
use Rattle.std.specs.Option.{option_and_then}
use Rattle.std.proofs.lemmas.Bool.{and_parts}
use Rattle.std.proofs.lemmas.Option.{slice_get_within, slice_get-get_or, same_Some}
use Rattle.wasm_core.specs.declared.types.ValType.{ValType}
use Rattle.wasm_core.specs.declared.types.ValType.TheVariants as type
use Rattle.wasm_core.specs.declared.types.FuncType.{FuncType}
use Rattle.wasm_core.specs.declared.elements.Segment.{Segment}
use Rattle.wasm_core.specs.declared.instrs.Body.{Body}
use Rattle.wasm_core.specs.Parts.{Parts}
use Rattle.wasm_core.specs.Instance.{Func, func_with, func_of, TableEntries, put_funcs, put_segments, table_of, least}
use Rattle.wasm_core.specs.MachineStep.{same_type, same_types, same_result, same_func_type}
use Rattle.wasm_core.specs.ModuleTyping.{OperandTypes, TypedBody, IsValid, Elements, Codes, results_of, func_type}
use Rattle.wasm_core.proofs.Small.{no, some_of}

-- a function that is there, with its typing
pub record Found (m : Parts) (f : ℕ) : Type 0 where
  pub func : Func
  pub is : func_of m f ≡ Some func
  pub typed : TypedBody m (func.type.params ++ func.body.locals) (results_of func.type) func.body.code

pub found_at : (m : Parts) → IsValid m → (f index : ℕ) → slice_get m.funcs f ≡ Some index → (h : Found m f) × (slice_get m.types index ≡ Some h.func.type)
found_at m valid f index e = with_body (slice_get m.bodies f) refl
  where
    with_body : (o : Option Body) → slice_get m.bodies f ≡ o → (h : Found m f) × (slice_get m.types index ≡ Some h.func.type)
    with_body None hb =
        let lf : f < length m.funcs = slice_get_within m.funcs f index e in
        let same : length m.funcs ≡ length m.bodies = valid.outside Codes in
        no (sym hb ∙ slice_get-get_or m.bodies f (record { locals = []; code = [] }) (omega arith))
    with_body (Some b) hb =
        let t = valid.bodies f index b e hb in (
          record {
            func = record { type = t.type; body = b };
            is =
                ap (option_and_then (λ index. func_with m f index)) e
                ∙ ap (option_and_then (λ (u : FuncType). option_and_then (λ (c : Body). Some (record { type = u; body = c })) (slice_get m.bodies f))) t.found
                ∙ ap (option_and_then (λ (c : Body). Some (record { type = t.type; body = c }))) hb;
            typed = t.typed;
          },
          t.found,
        )

pub found_in : (m : Parts) → IsValid m → (f : ℕ) → f < length m.funcs → Found m f
found_in m valid f h = let (x, s) = found_at m valid f (get_or m.funcs f 0) (slice_get-get_or m.funcs f 0 h) in x

pub found_typed : (m : Parts) → IsValid m → (f : ℕ) (t : FuncType) → func_type m f ≡ Some t → (h : Found m f) × (h.func.type ≡ t)
found_typed m valid f t e =
    let (index, hf, ht) = some_of (λ index. slice_get m.types index) (slice_get m.funcs f) t e in
    let (x, s) = found_at m valid f index hf in
    (x, same_Some _ _ (sym s ∙ ht))

-- each entry that isn't empty is a function's
Sound : ℕ → TableEntries → Type 0
Sound n entries = (x f : ℕ) → slice_get entries x ≡ Some (Some f) → f < n

set_sound : (n : ℕ) (entries : TableEntries) (i f : ℕ) → f < n → ((x g : ℕ) → slice_get entries x ≡ Some (Some g) → g < n) → (x g : ℕ) → slice_get (slice_set entries i (Some f)) x ≡ Some (Some g) → g < n
set_sound n [] i f h s x g e = no e
set_sound n (y ∷ ys) zero f h s zero g e = let q : f ≡ g = cc in omega arith
set_sound n (y ∷ ys) zero f h s (suc x) g e = s (suc x) g e
set_sound n (y ∷ ys) (suc i) f h s zero g e = s zero g e
set_sound n (y ∷ ys) (suc i) f h s (suc x) g e = set_sound n ys i f h (λ x g e. s (suc x) g e) x g e

funcs_sound : (n : ℕ) (fs : List ℕ) (entries : TableEntries) (i : ℕ) → ((j f : ℕ) → slice_get fs j ≡ Some f → f < n) → ((x g : ℕ) → slice_get entries x ≡ Some (Some g) → g < n) → (x g : ℕ) → slice_get (put_funcs entries i fs) x ≡ Some (Some g) → g < n
funcs_sound n [] entries i h s x g e = s x g e
funcs_sound n (f ∷ fs) entries i h s x g e =
    funcs_sound n fs (slice_set entries i (Some f)) (suc i) (λ j f e. h (suc j) f e) (λ x g e. set_sound n entries i f (h 0 f refl) s x g e) x g e

segments_sound : (n : ℕ) (segments : List Segment) (entries : TableEntries) → ((k : ℕ) (s : Segment) → slice_get segments k ≡ Some s → (j f : ℕ) → slice_get s.funcs j ≡ Some f → f < n) → ((x g : ℕ) → slice_get entries x ≡ Some (Some g) → g < n) → (x g : ℕ) → slice_get (put_segments
    entries segments) x ≡ Some (Some g) → g < n
segments_sound n [] entries h s x g e = s x g e
segments_sound n (y ∷ segments) entries h s x g e =
    segments_sound n segments (put_funcs entries y.offset y.funcs) (λ k z e. h (suc k) z e) (λ x g e. funcs_sound n y.funcs entries y.offset (h 0 y refl) s x g e) x g e

empty_sound : (k x : ℕ) (g : ℕ) → slice_get (replicate {A = Option ℕ} k None) x ≡ Some (Some g) → ⊥
empty_sound zero x g e = no e
empty_sound (suc k) zero g e = cc
empty_sound (suc k) (suc x) g e = empty_sound k x g e

pub entry_there : (m : Parts) → IsValid m → (x f : ℕ) → slice_get (table_of m) x ≡ Some (Some f) → f < length m.funcs
unfolding table_of
entry_there m valid x f e =
    segments_sound (length m.funcs) m.elements (replicate (least m.table) None) (λ k s h. (valid.outside Elements k s h).funcs) (λ x g h. absurd (empty_sound (least m.table) x g h)) x f e

-- the tests of types find equal ones
type_eq : (s t : ValType) → same_type s t ≡ true → s ≡ t
type_eq type.I32 type.I32 e = refl
type_eq type.I32 type.I64 e = cc
type_eq type.I64 type.I32 e = cc
type_eq type.I64 type.I64 e = refl

pub types_eq : (ss ts : OperandTypes) → same_types ss ts ≡ true → ss ≡ ts
types_eq [] [] e = refl
types_eq [] (t ∷ ts) e = cc
types_eq (s ∷ ss) [] e = cc
types_eq (s ∷ ss) (t ∷ ts) e = let (a, b) = and_parts (same_type s t) (same_types ss ts) e in let p = type_eq s t a in let q = types_eq ss ts b in cc

-- and equal ones pass them
type_same : (t : ValType) → same_type t t ≡ true
type_same type.I32 = refl
type_same type.I64 = refl

pub types_same : (ts : OperandTypes) → same_types ts ts ≡ true
types_same [] = refl
types_same (t ∷ ts) = ap (λ b. b && same_types ts ts) (type_same t) ∙ types_same ts

result_eq : (s t : Option ValType) → same_result s t ≡ true → s ≡ t
result_eq None None e = refl
result_eq None (Some t) e = cc
result_eq (Some s) None e = cc
result_eq (Some s) (Some t) e = ap Some (type_eq s t e)

pub func_type_eq : (s t : FuncType) → same_func_type s t ≡ true → (s.params ≡ t.params) × (s.result ≡ t.result)
func_type_eq s t e =
    let (a, b) = and_parts (same_types s.params t.params) (same_result s.result t.result) e in (types_eq s.params t.params a, result_eq s.result t.result b)
