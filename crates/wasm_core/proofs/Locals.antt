-- Runs of equal local types.
use Rattle.std.proofs.Common.{◌≡◌, ℕ, suc, ◌+◌, ◌≤◌, List, [], ◌∷◌, ◌++◌, length, Bool, true, false, refl, ap, ◌∙◌, arith}
use Rattle.std.specs.Prelude.{if◌then◌else◌, replicate}
use Rattle.wasm_core.specs.ShortestBytes.{same_type, add_local, runs}
use Rattle.wasm_core.specs.declared.types.ValType.{ValType}
use Rattle.wasm_core.specs.declared.types.ValType.TheVariants.{I32, I64}

unfoldable pub expand : List (ℕ × ValType) → List ValType
expand [] = []
expand (r ∷ rs) = replicate r.0 r.1 ++ expand rs

same_is : (t u : ValType) → same_type t u ≡ true → t ≡ u
same_is I32 I32 e = refl
same_is I64 I64 e = refl
same_is I32 I64 e = absurd cc
same_is I64 I32 e = absurd cc

add_expands : (t : ValType) (rs : List (ℕ × ValType)) → expand (add_local t rs) ≡ t ∷ expand rs
unfolding expand
add_expands t [] = refl
add_expands t (r ∷ rs) =
    let goal : (c : Bool) → same_type t r.1 ≡ c → expand (if c then (r.0 + 1, t) ∷ rs else (1, t) ∷ r ∷ rs) ≡ t ∷ (replicate r.0 r.1 ++ expand rs) =
    λ c. elim c as (λ c. same_type t r.1 ≡ c → expand (if c then (r.0 + 1, t) ∷ rs else (1, t) ∷ r ∷ rs) ≡ t ∷ (replicate r.0 r.1 ++ expand rs)) [
      | true ↦ λ e. let q = same_is t r.1 e in let n : r.0 + 1 ≡ suc r.0 = omega arith in rw (n, q) refl
      | false ↦ λ e. refl
    ] in goal _ refl

pub runs_expand : (ts : List ValType) → expand (runs ts) ≡ ts
unfolding runs expand
runs_expand [] = refl
runs_expand (t ∷ ts) = add_expands t (runs ts) ∙ ap (λ xs. t ∷ xs) (runs_expand ts)

add_few : (t : ValType) (rs : List (ℕ × ValType)) → length (add_local t rs) ≤ length rs + 1
add_few t [] = omega arith
add_few t (r ∷ rs) =
    let goal : (c : Bool) → length (if c then (r.0 + 1, t) ∷ rs else (1, t) ∷ r ∷ rs) ≤ length rs + 1 + 1 =
    λ c. elim c as (λ c. length (if c then (r.0 + 1, t) ∷ rs else (1, t) ∷ r ∷ rs) ≤ length rs + 1 + 1) [ true ↦ omega arith | false ↦ omega arith ] in
    let h = goal (same_type t r.1) in omega (arith, h)

pub runs_few : (ts : List ValType) → length (runs ts) ≤ length ts
unfolding runs
runs_few [] = omega arith
runs_few (t ∷ ts) = let a = add_few t (runs ts) in let b = runs_few ts in omega (arith, a, b)
