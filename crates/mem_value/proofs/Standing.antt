-- Blocks and their fields: that a word stands for data, from the marks of a search and back.
use Rattle.std.proofs.Common.{◌≡◌, ◌≢◌, ℕ, zero, suc, ◌+◌, ◌*◌, ◌/◌, ◌%◌, ◌<◌, ◌≤◌, List, [], ◌∷◌, ◌++◌, Bool, ◌⊎◌, inl, inr, refl, sym, ap, subst, ◌∙◌, arith}
use Rattle.wasm_core.specs.Memory.{word}
use Rattle.wasm_core.specs.WordData.{DataNodes, StandsFor, odd, block, FieldsStand, no_field, field, IsBlock, IsBelow}
use Rattle.mem_value.specs.Tells.{HasData}
use Rattle.mem_value.specs.Marks.{Is, IsKept, address, IsBad, IsSound, Grows, MarksFields, MarksNeeded, IsSearched, field_at}
use Rattle.mem_value.specs.Marks as marks

-- ---- one field

pub odd_is_below : (b c w : ℕ) → w ≡ 2 * c + 1 → IsBelow b w
odd_is_below b c w e = λ q is. absurd (omega arith)

-- a kept field stands for data where the marked addresses below do, and is below the block
kept_stands : (memory : List ℕ) (ms : List Bool) (place w : ℕ) → IsKept ms place w → ((p : ℕ) → 0 < p → p < place → Is ms p → HasData memory (4 * p)) → HasData memory w × IsBelow (4 * place) w
kept_stands memory ms place w (marks.odd c e) below = (((c, 0) ∷ [], odd e), odd_is_below (4 * place) c w e)
kept_stands memory ms place w (address p e pos lt is) below =
    (subst (HasData memory) (sym e) (below p pos lt is), λ q is_q. omega arith)

-- a field that is even and no address below the block
pub field_is_bad : (memory : List ℕ) (place w : ℕ) → (w % 2 ≡ 1 → ⊥) → (w % 4 ≢ 0) ⊎ ((w ≡ 0) ⊎ (place ≤ w / 4)) → IsBad memory place w
field_is_bad memory place w even bad (d, odd {c = c} e) below = absurd (even (omega arith))
field_is_bad memory place w even (inl skew) (d, block b f) below = absurd (skew (let e = b.aligned in omega arith))
field_is_bad memory place w even (inr (inl none)) (d, block b f) below = absurd (let pos = b.there in omega arith)
field_is_bad memory place w even (inr (inr high)) (d, block b f) below =
    let e = b.aligned in let lt : w < 4 * place = below b.quarter e in absurd (omega arith)

-- ---- all fields of a block

fields_stand : (memory : List ℕ) (place arity : ℕ) → ((i : ℕ) → i < arity → HasData memory (field_at memory place i) × IsBelow (4 * place) (field_at memory place i)) → (left i : ℕ) → i + left ≡ arity → (ds : DataNodes) × FieldsStand memory (4 * place) (4 * place + 4 + 4 * i) left ds
fields_stand memory place arity all zero i e = ([], no_field)
fields_stand memory place arity all (suc left) i e =
    let (h, b) = all i (omega arith) in
    let (d, s) = h in
    let (ds, r) = fields_stand memory place arity all left (i + 1) (omega arith) in
    let at : 4 * place + 4 + 4 * (i + 1) ≡ 4 * place + 4 + 4 * i + 4 = omega arith in
    (d ++ ds, field s b (subst (λ a. FieldsStand memory (4 * place) a left ds) at r))

field_has : (memory : List ℕ) (b at left : ℕ) (ds : DataNodes) → FieldsStand memory b at left ds → (i : ℕ) → i < left → HasData memory (word memory (at + 4 * i)) × IsBelow b (word memory (at + 4 * i))
field_has memory b at zero ds f i lt = absurd (omega arith)
field_has memory b at (suc left) _ (field {first = d} s below f) zero lt =
    let e : at ≡ at + 4 * 0 = omega arith in subst (λ a. HasData memory (word memory a) × IsBelow b (word memory a)) e ((d, s), below)
field_has memory b at (suc left) _ (field {others = ds} s below f) (suc i) lt =
    let e : at + 4 + 4 * i ≡ at + 4 * suc i = omega arith in
    subst (λ a. HasData memory (word memory a) × IsBelow b (word memory a)) e (field_has memory b (at + 4) left ds f i (omega arith))

-- where a block lies, the data of its address is its own
pub record IsOwn (memory : List ℕ) (w arity number : ℕ) (d : DataNodes) : Type 0 where
  pub fields : DataNodes
  pub is : d ≡ (number, arity) ∷ fields
  pub stand : FieldsStand memory w (w + 4) arity fields

pub block_data : (memory : List ℕ) (w arity number : ℕ) (d : DataNodes) → IsBlock memory w arity number → StandsFor memory w d → IsOwn memory w arity number d
block_data memory w arity number d b (odd {c = c} e) = absurd (let q = b.aligned in omega arith)
block_data memory w arity number _ b (block {c = c} {arity = a} {fields = ds} b' f) =
    let e : a * 65536 + c ≡ arity * 65536 + number = sym b'.header ∙ b.header in
    let s = b.small in let s' = b'.small in
    let ea : a ≡ arity = omega arith in
    let ec : c ≡ number = omega arith in
    record { fields = ds; is = ap (λ x. (x, a) ∷ ds) ec ∙ ap (λ x. (number, x) ∷ ds) ea; stand = subst (λ n. FieldsStand memory w (w + 4) n ds) ea f }

pub block_field : (memory : List ℕ) (place arity number i : ℕ) → IsBlock memory (4 * place) arity number → HasData memory (4 * place) → i < arity → HasData memory (field_at memory place i) × IsBelow (4 * place) (field_at memory place i)
block_field memory place arity number i b (d, s) lt =
    let own = block_data memory (4 * place) arity number d b s in
    field_has memory (4 * place) (4 * place + 4) arity own.fields own.stand i lt

-- ---- marks

pub grows-same : (ms : List Bool) → Grows ms ms
grows-same ms = record { len = refl; kept = λ p is. is }

pub grows-on : (a b c : List Bool) → Grows a b → Grows b c → Grows a c
grows-on a b c g h = record { len = h.len ∙ g.len; kept = λ p is. h.kept p (g.kept p is) }

pub kept-grows : (a b : List Bool) (place w : ℕ) → Grows a b → IsKept a place w → IsKept b place w
kept-grows a b place w g (marks.odd c e) = marks.odd c e
kept-grows a b place w g (address p e pos lt is) = address p e pos lt (g.kept p is)

pub sound-grows : (memory : List ℕ) (a b : List Bool) (place : ℕ) → Grows a b → IsSound memory a place → IsSound memory b place
sound-grows memory a b place g s = record { arity = s.arity; number = s.number; block = s.block; fields = λ i lt. kept-grows a b place (field_at memory place i) g (s.fields i lt) }

-- ---- the whole search

module _ (memory : List ℕ) (ms : List Bool) (sound : (p : ℕ) → 0 < p → Is ms p → IsSound memory ms p) where
  sound_stands : (n p : ℕ) → p < n → 0 < p → Is ms p → HasData memory (4 * p)
  sound_stands zero p lt pos is = absurd (omega arith)
  sound_stands (suc n) p lt pos is =
      let s = sound p pos is in
      let below = λ (q : ℕ) (pos' : 0 < q) (lt' : q < p) (is' : Is ms q). sound_stands n q (omega arith) pos' is' in
      let (ds, f) = fields_stand memory p s.arity (λ i lt'. kept_stands memory ms p (field_at memory p i) (s.fields i lt') below) s.arity 0 (omega arith) in
      let at : 4 * p + 4 + 4 * 0 ≡ 4 * p + 4 = omega arith in
      ((s.number, s.arity) ∷ ds, block s.block (subst (λ a. FieldsStand memory (4 * p) a s.arity ds) at f))

pub searched_stands : (memory : List ℕ) (top : ℕ) (ms : List Bool) → 0 < top → IsSearched memory top 0 ms → HasData memory (4 * top)
searched_stands memory top ms pos s = sound_stands memory ms s.sound (suc top) top (omega arith) pos s.root
