-- Words that wait, and the data that they stand for.
use Rattle.std.proofs.Common.{◌≡◌, ℕ, zero, suc, ◌+◌, ◌*◌, ◌/◌, ◌%◌, ◌<◌, ◌≤◌, List, [], ◌∷◌, ◌++◌, length, append_assoc, length-append, refl, sym, ap, subst, ◌∙◌, arith}
use Rattle.wasm_core.specs.Memory.{word}
use Rattle.wasm_core.specs.WordData.{DataNodes, StandsFor, odd, block, FieldsStand, no_field, field}
use Rattle.std.proofs.lemmas.List.{append-nil}
use Rattle.data_trees.specs.Preorder.{IsForest, IsTree}
use Rattle.mem_value.specs.Tells.{most_nodes, HasData, HasMany}
use Rattle.mem_value.specs.Waiting.{words, Stand, IsNode, IsReading}

pub length-words : (memory : List ℕ) (at n : ℕ) → length (words memory at n) ≡ n
length-words memory at zero = refl
length-words memory at (suc n) = ap suc (length-words memory (at + 4) n)

pub fields_words : (memory : List ℕ) (b at left : ℕ) (ds : DataNodes) → FieldsStand memory b at left ds → Stand memory (words memory at left) ds
fields_words memory b at zero _ no_field = refl
fields_words memory b at (suc left) _ (field {first = d} {others = ds} s below f) = (d, ds, refl, s, fields_words memory b (at + 4) left ds f)

pub stand-append : (memory : List ℕ) (ws vs : List ℕ) (d e : DataNodes) → Stand memory ws d → Stand memory vs e → Stand memory (ws ++ vs) (d ++ e)
stand-append memory [] vs d e h k = subst (λ (x : DataNodes). Stand memory vs (x ++ e)) (sym h) k
stand-append memory (w ∷ ws) vs d e (first, others, is, s, r) k =
    (first, others ++ e, ap (λ (x : DataNodes). x ++ e) is ∙ append_assoc (first) (others) (e), s, stand-append memory ws vs others e r k)

pub some_node : (memory : List ℕ) (w : ℕ) (d : DataNodes) → StandsFor memory w d → 0 < length d
some_node memory w _ (odd e) = omega arith
some_node memory w _ (block b f) = omega arith

pub stand-length : (memory : List ℕ) (ws : List ℕ) (d : DataNodes) → Stand memory ws d → length ws ≤ length d
stand-length memory [] d h = omega arith
stand-length memory (w ∷ ws) d (first, others, is, s, r) =
    let n = stand-length memory ws others r in
    let k = some_node memory w first s in
    let e : length d ≡ length first + length others = ap length is ∙ length-append first others in omega arith

-- ---- trees

mutual
  pub forest_of : (memory : List ℕ) (w n : ℕ) (d rest : DataNodes) → StandsFor memory w d → IsForest n rest → IsForest (suc n) (d ++ rest)
  forest_of memory w n _ rest (odd e) h = let k : n ≡ 0 + n = omega arith in subst (λ x. IsForest x rest) k h
  forest_of memory w n _ rest (block {arity = a} {fields = ds} b f) h = fields_forest memory w (w + 4) a n ds rest f h

  fields_forest : (memory : List ℕ) (b at left n : ℕ) (ds rest : DataNodes) → FieldsStand memory b at left ds → IsForest n rest → IsForest (left + n) (ds ++ rest)
  fields_forest memory b at _ n _ rest no_field h = let k : n ≡ 0 + n = omega arith in subst (λ x. IsForest x rest) k h
  fields_forest memory b at (suc left) n _ rest (field {first = d} {others = ds} s below f) h =
      let k : suc (left + n) ≡ suc left + n = omega arith in
      subst (λ x. IsForest x ((d ++ ds) ++ rest)) k (subst (λ (x : DataNodes). IsForest (suc (left + n)) x) (sym (append_assoc (d) (ds) (rest))) (forest_of memory (word memory at) (left + n) d (ds ++ rest) s (fields_forest memory b (at + 4) left n ds rest f h)))

pub is_tree : (memory : List ℕ) (w : ℕ) (d : DataNodes) → StandsFor memory w d → IsTree d
is_tree memory w d s = let h : IsForest 1 (d ++ []) = forest_of memory w 0 d [] s tt in let e : d ++ [] ≡ d = simp append-nil in subst (IsForest 1) e h

-- ---- one node

pub node_odd : (memory : List ℕ) (w : ℕ) → w % 2 ≡ 1 → (d : DataNodes) → StandsFor memory w d → IsNode memory w d (w / 2) 0
node_odd memory w o _ (odd {c = c} e) = let q : c ≡ w / 2 = omega arith in record { fields = []; is = ap (λ x. (x, 0) ∷ []) q; stand = no_field }
node_odd memory w o _ (block b f) = absurd (let e = b.aligned in omega arith)

pub node_block : (memory : List ℕ) (w h : ℕ) → (w % 2 ≡ 1 → ⊥) → h ≡ word memory w → (d : DataNodes) → StandsFor memory w d → IsNode memory w d (h % 65536) (h / 65536)
node_block memory w h even is _ (odd {c = c} e) = absurd (even (omega arith))
node_block memory w h even is _ (block {c = c} {arity = a} {fields = ds} b f) =
    let e : h ≡ a * 65536 + c = is ∙ b.header in
    let small = b.small in
    let ea : a ≡ h / 65536 = omega arith in
    let ec : c ≡ h % 65536 = omega arith in
    record { fields = ds; is = ap (λ x. (x, a) ∷ ds) ec ∙ ap (λ x. (h % 65536, x) ∷ ds) ea; stand = subst (λ n. FieldsStand memory w (w + 4) n ds) ea f }

pub block_inside : (memory : List ℕ) (w h : ℕ) → (w % 2 ≡ 1 → ⊥) → h ≡ word memory w → HasData memory w → w + 4 + 4 * (h / 65536) ≤ length memory
block_inside memory w h even is (d, odd {c = c} e) = absurd (even (omega arith))
block_inside memory w h even is (d, block {c = c} {arity = a} b f) =
    let e : h ≡ a * 65536 + c = is ∙ b.header in
    let small = b.small in
    let inside = b.inside in
    let ea : a ≡ h / 65536 = omega arith in omega arith

-- ---- the reading

pub reading_starts : (memory : List ℕ) (w : ℕ) → HasData memory w → IsReading memory w [] (w ∷ [])
reading_starts memory w (d, s) = record { room = omega arith; rest = d; stand = (d, [], sym (append-nil d), s, refl); whole = s }

pub next_stands : (memory : List ℕ) (w x : ℕ) (nodes : DataNodes) (ws : List ℕ) → IsReading memory w nodes (x ∷ ws) → HasData memory x
next_stands memory w x nodes ws r = (r.stand.0, r.stand.3)

pub reading_goes : (memory : List ℕ) (w x number arity : ℕ) (nodes : DataNodes) (ws : List ℕ) → IsReading memory w nodes (x ∷ ws) → ((d : DataNodes) → StandsFor memory x d → IsNode memory x d number arity) →
    length nodes + 1 + length ws + arity ≤ most_nodes → IsReading memory w (nodes ++ (number, arity) ∷ []) (words memory (x + 4) arity ++ ws)
reading_goes memory w x number arity nodes ws r node few =
    let (first, others, is, s, rest) = r.stand in
    let n = node first s in
    let e : r.rest ≡ ((number, arity) ∷ n.fields) ++ others = is ∙ ap (λ (z : DataNodes). z ++ others) n.is in
    let whole : nodes ++ r.rest ≡ (nodes ++ (number, arity) ∷ []) ++ (n.fields ++ others) = ap (λ (z : DataNodes). nodes ++ z) e ∙ sym (append_assoc (nodes) ((number, arity) ∷ []) (n.fields ++ others)) in
    let a = length-append nodes ((number, arity) ∷ []) in
    let b = length-append (words memory (x + 4) arity) ws in
    let c = length-words memory (x + 4) arity in
    record {
      room = omega (arith, a, b, c, few);
      rest = n.fields ++ others;
      stand = stand-append memory (words memory (x + 4) arity) ws n.fields others (fields_words memory x (x + 4) arity n.fields n.stand) rest;
      whole = subst (StandsFor memory w) whole r.whole;
    }

pub too_many : (memory : List ℕ) (w x number arity : ℕ) (nodes : DataNodes) (ws : List ℕ) → IsReading memory w nodes (x ∷ ws) → ((d : DataNodes) → StandsFor memory x d → IsNode memory x d number arity) → most_nodes < length nodes + 1 + length ws + arity → HasMany memory w
too_many memory w x number arity nodes ws r node many =
    let (first, others, is, s, rest) = r.stand in
    let n = node first s in
    let a = length-append nodes r.rest in
    let b : length r.rest ≡ length first + length others = ap length is ∙ length-append first others in
    let c : length first ≡ suc (length n.fields) = ap length n.is in
    let f = stand-length memory (words memory (x + 4) arity) n.fields (fields_words memory x (x + 4) arity n.fields n.stand) in
    let g = length-words memory (x + 4) arity in
    let h = stand-length memory ws others rest in
    (nodes ++ r.rest, r.whole, omega (arith, many, a, b, c, f, g, h))

pub reading_ends : (memory : List ℕ) (w : ℕ) (nodes : DataNodes) → IsReading memory w nodes [] → StandsFor memory w nodes × (length nodes ≤ most_nodes)
reading_ends memory w nodes r =
    let e : nodes ++ r.rest ≡ nodes = ap (λ (z : DataNodes). nodes ++ z) r.stand ∙ append-nil nodes in
    let room = r.room in (subst (StandsFor memory w) e r.whole, omega arith)
