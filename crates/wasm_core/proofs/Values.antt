-- Lists of values with their types.
use Rattle.std.proofs.Common.{◌≡◌, ℕ, zero, suc, List, [], ◌∷◌, ◌++◌, length, take, drop, map, reverse, Some, refl, ap, sym, ◌∙◌, subst}
use Rattle.std.specs.Prelude.{slice_get, slice_set}
use Rattle.std.specs.Option.{option_map}
use Rattle.std.proofs.lemmas.Option.{slice_get-map, same_Some}
use Rattle.std.proofs.lemmas.List.{reverse-append, map-append}
use Rattle.wasm_core.specs.declared.types.ValType.{ValType}
use Rattle.wasm_core.specs.declared.types.ValType.TheVariants as type
use Rattle.wasm_core.specs.declared.types.ConstValue.{ConstValue}
use Rattle.wasm_core.specs.declared.types.ConstValue.TheVariants.{I32}
use Rattle.wasm_core.specs.Instance.{zero_of}
use Rattle.wasm_core.specs.ModuleTyping.{OperandTypes, Operands, OperandType, Of, Bottom, known, Match, match_none, match_same, match_bottom}
use Rattle.wasm_core.specs.Safe.{HasType, is_i32, is_i64, HaveTypes, no_values, values}
use Rattle.wasm_core.proofs.Small.{no}

pub have_append : {xs ys : List ConstValue} {as' bs : Operands} → HaveTypes xs as' → HaveTypes ys bs → HaveTypes (xs ++ ys) (as' ++ bs)
have_append no_values h = h
have_append (values v g) h = values v (have_append g h)

pub have_length : {xs : List ConstValue} {os : Operands} → HaveTypes xs os → length xs ≡ length os
have_length no_values = refl
have_length (values v h) = ap suc (have_length h)

not_bottom : {v : ConstValue} → HasType v Bottom → ⊥
not_bottom h = elim h [ ]

pub have_matched : {os : Operands} {ps : OperandTypes} (ts : Operands) {xs : List ConstValue} → Match os ps → HaveTypes xs (os ++ ts) → HaveTypes xs (known ps ++ ts)
have_matched ts match_none h = h
have_matched ts (match_same k) (values v h) = values v (have_matched ts k h)
have_matched ts (match_bottom k) (values v h) = absurd (not_bottom v)

pub have_all : {os : Operands} {ps : OperandTypes} {xs : List ConstValue} → Match os ps → HaveTypes xs os → HaveTypes xs (known ps)
have_all match_none h = h
have_all (match_same k) (values v h) = values v (have_all k h)
have_all (match_bottom k) (values v h) = absurd (not_bottom v)

pub have_front : (os ts : Operands) {xs : List ConstValue} → HaveTypes xs (os ++ ts) → HaveTypes (take (length os) xs) os
have_front [] ts h = no_values
have_front (o ∷ os) ts (values v h) = values v (have_front os ts h)

pub have_rest : (os ts : Operands) {xs : List ConstValue} → HaveTypes xs (os ++ ts) → HaveTypes (drop (length os) xs) ts
have_rest [] ts h = h
have_rest (o ∷ os) ts (values v h) = have_rest os ts h

pub have_reverse : {xs : List ConstValue} {os : Operands} → HaveTypes xs os → HaveTypes (reverse xs) (reverse os)
have_reverse no_values = no_values
have_reverse (values {v = v} {o = o} {vs = vs} {os = os} t h) =
    subst (λ l. HaveTypes l (reverse (o ∷ os))) (sym (reverse-append (v ∷ []) vs))
    (subst (HaveTypes (reverse vs ++ v ∷ [])) (sym (reverse-append (o ∷ []) os)) (have_append (have_reverse h) (values t no_values)))

pub known_reverse : (ts : OperandTypes) → known (reverse ts) ≡ reverse (known ts)
known_reverse [] = refl
known_reverse (t ∷ ts) =
    ap known (reverse-append (t ∷ []) ts) ∙ map-append Of (reverse ts) (t ∷ []) ∙ ap (λ l. l ++ Of t ∷ []) (known_reverse ts) ∙ sym (reverse-append (Of t ∷ []) (known ts))

pub have_get : {xs : List ConstValue} {os : Operands} (i : ℕ) (o : OperandType) → HaveTypes xs os → slice_get os i ≡ Some o → (v : ConstValue) × (slice_get xs i ≡ Some v) × HasType v o
have_get i o no_values e = no e
have_get zero o (values {v = v} t h) e = (v, refl, subst (HasType v) (same_Some _ _ e) t)
have_get (suc i) o (values t h) e = have_get i o h e

pub have_set : {xs : List ConstValue} {os : Operands} (i : ℕ) (o : OperandType) (v : ConstValue) → HaveTypes xs os → slice_get os i ≡ Some o → HasType v o → HaveTypes (slice_set xs i v) os
have_set i o v no_values e t = no e
have_set zero o v (values s h) e t = values (subst (HasType v) (sym (same_Some _ _ e)) t) h
have_set (suc i) o v (values s h) e t = values s (have_set i o v h e t)

pub known_at : (ls : OperandTypes) (i : ℕ) (t : ValType) → slice_get ls i ≡ Some t → slice_get (known ls) i ≡ Some (Of t)
known_at ls i t e = slice_get-map Of ls i ∙ ap (option_map Of) e

pub zeros_have : (ts : OperandTypes) → HaveTypes (map zero_of ts) (known ts)
zeros_have [] = no_values
zeros_have (type.I32 ∷ ts) = values is_i32 (zeros_have ts)
zeros_have (type.I64 ∷ ts) = values is_i64 (zeros_have ts)

-- the topmost operand is an i32
pub popped : (P : List ConstValue → Type 0) {ts : Operands} {xs : List ConstValue} → HaveTypes xs (Of type.I32 ∷ ts) → ((n : ℕ) (r : List ConstValue) → HaveTypes r ts → P (I32 n ∷ r)) → P xs
popped P (values is_i32 h) f = f _ _ h

-- it is any value
pub popped_any : (P : List ConstValue → Type 0) {o : OperandType} {ts : Operands} {xs : List ConstValue} → HaveTypes xs (o ∷ ts) → ((v : ConstValue) (r : List ConstValue) → HasType v o → HaveTypes r ts → P (v ∷ r)) → P xs
popped_any P (values v h) f = f _ _ v h

-- a condition, which matches i32
pub popped_test : (P : List ConstValue → Type 0) {o : OperandType} {ts : Operands} {xs : List ConstValue} → Match (o ∷ []) (type.I32 ∷ []) → HaveTypes xs (o ∷ ts) → ((n : ℕ) (r : List ConstValue) → HaveTypes r ts → P (I32 n ∷ r)) → P xs
popped_test P {ts = ts} k h f = popped P (have_matched ts k h) f
