-- A word of a memory stands for at most one tree of data, and a store answers at most one.
use Rattle.std.proofs.Common.{◌≡◌, ℕ, ◌+◌, ◌*◌, ◌<◌, List, [], ◌∷◌, ◌++◌, refl, ap, sym, ◌∙◌, subst, arith}
use Rattle.std.proofs.lemmas.Option.{same_Some}
use Rattle.wasm_core.specs.WordData.{DataNodes, StandsFor, odd, block, FieldsStand, no_field, field}
use Rattle.wasm_core.specs.Laws.{DataIsUnique, AnswerIsUnique}

headers : (a b c d : ℕ) → c < 65536 → d < 65536 → a * 65536 + c ≡ b * 65536 + d → (a ≡ b) × (c ≡ d)
headers a b c d hc hd e = (omega arith, omega arith)

mutual
  same_data : {memory : List ℕ} {w : ℕ} {d e : DataNodes} → StandsFor memory w d → StandsFor memory w e → d ≡ e
  same_data (odd {c = c} p) (odd {c = c'} q) = let h : c ≡ c' = omega arith in ap (λ x. (x, 0) ∷ []) h
  same_data (odd p) (block b f) = absurd (omega (arith, p, b.aligned))
  same_data (block b f) (odd p) = absurd (omega (arith, p, b.aligned))
  same_data {memory} {w} (block {c = c} {arity = a} {fields = xs} b f) (block {c = c'} {arity = a'} {fields = ys} b' f') =
      let (p, q) = headers a a' c c' b.small b'.small (sym b.header ∙ b'.header) in
      let r : xs ≡ ys = same_fields f (subst (λ n. FieldsStand memory w (w + 4) n ys) (sym p) f') in
      cc

  same_fields : {memory : List ℕ} {start at left : ℕ} {d e : DataNodes} → FieldsStand memory start at left d → FieldsStand memory start at left e → d ≡ e
  same_fields no_field no_field = refl
  same_fields (field {first = x} {others = xs} s l f) (field {first = y} {others = ys} s' l' f') =
      let p : x ≡ y = same_data s s' in
      let q : xs ≡ ys = same_fields f f' in ap (λ (z : DataNodes). z ++ xs) p ∙ ap (λ (z : DataNodes). y ++ z) q

pub data_unique : DataIsUnique
data_unique memory w d e a b = same_data a b

pub answer_unique : AnswerIsUnique
answer_unique m store d e a b = same_data a.stands (subst (λ w. StandsFor store.memory w e) (same_Some _ _ (sym b.result ∙ a.result)) b.stands)
