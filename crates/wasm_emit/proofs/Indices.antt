-- Where a module has its functions, and the entries of its table.
use Rattle.std.proofs.Common.{◌≡◌, ℕ, zero, suc, ◌+◌, ◌<◌, ◌≤◌, List, [], ◌∷◌, ◌++◌, length, replicate, Option, Some, None, refl, ap, ◌∙◌, arith}
use Rattle.std.proofs.lemmas.List.{length-replicate}
use Rattle.std.specs.Option.{option_and_then}
use Rattle.std.specs.Prelude.{slice_get, slice_set}
use Rattle.wasm_core.specs.declared.types.FuncType.{FuncType}
use Rattle.wasm_core.specs.declared.instrs.Body.{Body}
use Rattle.wasm_core.specs.Parts.{Parts}
use Rattle.wasm_core.specs.Instance.{func_with, func_of, TableEntries, put_funcs}
use Rattle.wasm_emit.specs.EmittedModule.{entries}
use Rattle.wasm_emit.proofs.Holds.{set_other, set_this, set_length}

pub at_append : {A : Type 0} (xs ys : List A) (i x : ℕ) → i ≡ length xs + x → slice_get (xs ++ ys) i ≡ slice_get ys x
at_append [] ys i x e = ap (slice_get ys) (omega arith)
at_append (a ∷ xs) ys zero x e = absurd (omega arith)
at_append (a ∷ xs) ys (suc i) x e = at_append xs ys i x (omega arith)

pub at_front : {A : Type 0} (xs ys : List A) (i : ℕ) {a : A} → slice_get xs i ≡ Some a → slice_get (xs ++ ys) i ≡ Some a
at_front [] ys i e = cc
at_front (a ∷ xs) ys zero e = e
at_front (a ∷ xs) ys (suc i) e = at_front xs ys i e

pub func_is : (m : Parts) (f index : ℕ) (t : FuncType) (b : Body) → slice_get m.funcs f ≡ Some index → slice_get m.types index ≡ Some t → slice_get m.bodies f ≡ Some b → func_of m f ≡ Some (record { type = t; body = b })
func_is m f index t b e et eb =
    ap (option_and_then (λ index. func_with m f index)) e
    ∙ ap (option_and_then (λ (u : FuncType). option_and_then (λ (c : Body). Some (record { type = u; body = c })) (slice_get m.bodies f))) et
    ∙ ap (option_and_then (λ (c : Body). Some (record { type = t; body = c }))) eb

-- the table
entry : (i n g : ℕ) → g < n → slice_get (entries i n) g ≡ Some (i + g)
entry i zero g h = absurd (omega arith)
entry i (suc n) zero h = ap (λ (x : ℕ). Some x) (omega arith)
entry i (suc n) (suc g) h = entry (suc i) n g (omega arith) ∙ ap (λ (x : ℕ). Some x) (omega arith)

pub entries_length : (i n : ℕ) → length (entries i n) ≡ n
entries_length i zero = refl
entries_length i (suc n) = ap suc (entries_length (suc i) n)

put_below : (es : TableEntries) (i : ℕ) (fs : List ℕ) (x : ℕ) → x < i → slice_get (put_funcs es i fs) x ≡ slice_get es x
put_below es i [] x h = refl
put_below es i (f ∷ fs) x h = put_below (slice_set es i (Some f)) (suc i) fs x (omega arith) ∙ set_other es i x (Some f) h

put_at : (es : TableEntries) (i : ℕ) (fs : List ℕ) (x g f : ℕ) → x ≡ i + g → i + length fs ≤ length es → slice_get fs g ≡ Some f → slice_get (put_funcs es i fs) x ≡ Some (Some f)
put_at es i [] x g f is fits e = cc
put_at es i (f ∷ fs) x zero h is fits e =
    put_below (slice_set es i (Some f)) (suc i) fs x (omega arith) ∙ ap (slice_get (slice_set es i (Some f))) (omega arith) ∙ set_this es i (Some f) (omega arith) ∙ ap (λ (o : Option ℕ). Some o) e
put_at es i (f ∷ fs) x (suc g) h is fits e = put_at (slice_set es i (Some f)) (suc i) fs x g h (omega arith) (omega (arith, set_length es i (Some f))) e

pub table_at : (n g : ℕ) → g < n → slice_get (put_funcs (replicate n None) 0 (entries 1 n)) g ≡ Some (Some (suc g))
table_at n g h =
    put_at (replicate n None) 0 (entries 1 n) g g (suc g) (omega arith) (omega (arith, entries_length 1 n, length-replicate {A = Option ℕ} n None)) (entry 1 n g h ∙ ap (λ (x : ℕ). Some x) (omega arith))
