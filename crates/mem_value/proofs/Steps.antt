-- The vector of waiting words, step by step: its last word is the next.
use Rattle.std.proofs.Common.{◌≡◌, ℕ, suc, ◌+◌, ◌-◌, ◌*◌, ◌<◌, ◌≤◌, List, [], ◌∷◌, ◌++◌, length, reverse, sym, ap, subst, ◌∙◌, arith}
use Rattle.std.proofs.lemmas.List.{reverse-append}
use Rattle.wasm_core.specs.Memory.{word}
use Rattle.wasm_core.specs.WordData.{DataNodes, StandsFor}
use Rattle.mem_value.specs.Tells.{most_nodes, HasData}
use Rattle.mem_value.specs.Waiting.{words, IsReading}
use Rattle.mem_value.proofs.Preorder.{reading_starts, reading_ends}

-- ---- words are put on those that wait

pub words_put : (memory : List ℕ) (address count i x : ℕ) (old now new : List ℕ) → i < count → reverse now ≡ words memory (address + 4 * (count - i)) i ++ old →
    x ≡ word memory (address + 4 * (count - 1 - i)) → new ≡ now ++ x ∷ [] → reverse new ≡ words memory (address + 4 * (count - (i + 1))) (i + 1) ++ old
words_put memory address count i x old now new lt h is e =
    let here : address + 4 * (count - 1 - i) ≡ address + 4 * (count - (i + 1)) = omega arith in
    let after : address + 4 * (count - i) ≡ address + 4 * (count - (i + 1)) + 4 = omega arith in
    let r : reverse new ≡ x ∷ reverse now = ap reverse e ∙ reverse-append now (x ∷ []) in
    let first : x ≡ word memory (address + 4 * (count - (i + 1))) = is ∙ ap (word memory) here in
    let others : words memory (address + 4 * (count - i)) i ≡ words memory (address + 4 * (count - (i + 1)) + 4) i = ap (λ a. words memory a i) after in
    let all : x ∷ words memory (address + 4 * (count - i)) i ≡ words memory (address + 4 * (count - (i + 1))) (suc i) =
    ap (λ ys. x ∷ ys) others ∙ ap (λ y. y ∷ words memory (address + 4 * (count - (i + 1)) + 4) i) first in
    let n : suc i ≡ i + 1 = omega arith in
    r ∙ ap (λ ys. x ∷ ys) h ∙ ap (λ ys. ys ++ old) (all ∙ ap (words memory (address + 4 * (count - (i + 1)))) n)

pub words_are : (memory : List ℕ) (address count i : ℕ) (old now : List ℕ) → i ≡ count → reverse now ≡ words memory (address + 4 * (count - i)) i ++ old → reverse now ≡ words memory address count ++ old
words_are memory address count i old now e h =
    let at : address + 4 * (count - i) ≡ address = omega arith in
    h ∙ ap (λ ys. ys ++ old) (ap (λ a. words memory a i) at ∙ ap (words memory address) e)

-- ---- the reading

pub starts : (memory : List ℕ) (w : ℕ) (nodes : DataNodes) (now new : List ℕ) → HasData memory w → nodes ≡ [] → now ≡ [] → new ≡ now ++ w ∷ [] → IsReading memory w nodes (reverse new)
starts memory w nodes now new has none empty e =
    let r : reverse new ≡ w ∷ [] = ap reverse (e ∙ ap (λ ys. ys ++ w ∷ []) empty) in
    subst (λ (ws : List ℕ). IsReading memory w nodes ws) (sym r) (subst (λ (d : DataNodes). IsReading memory w d (w ∷ [])) (sym none) (reading_starts memory w has))

pub popped : (memory : List ℕ) (w x : ℕ) (nodes : DataNodes) (now rest : List ℕ) → now ≡ rest ++ x ∷ [] → IsReading memory w nodes (reverse now) → IsReading memory w nodes (x ∷ reverse rest)
popped memory w x nodes now rest e r = subst (λ (ws : List ℕ). IsReading memory w nodes ws) (ap reverse e ∙ reverse-append rest (x ∷ [])) r

pub ended : (memory : List ℕ) (w : ℕ) (nodes : DataNodes) (now : List ℕ) → length now ≡ 0 → IsReading memory w nodes (reverse now) → StandsFor memory w nodes × (length nodes ≤ most_nodes)
ended memory w nodes [] n r = reading_ends memory w nodes r
ended memory w nodes (x ∷ ws) n r = absurd (omega arith)

-- the nodes and the words after a step
pub went : (memory : List ℕ) (w : ℕ) (nodes more : DataNodes) (ws others : List ℕ) → more ≡ nodes → others ≡ ws → IsReading memory w nodes ws → IsReading memory w more others
went memory w nodes more ws others e o r = subst (λ (ys : List ℕ). IsReading memory w more ys) (sym o) (subst (λ (d : DataNodes). IsReading memory w d ws) (sym e) r)
