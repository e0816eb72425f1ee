-- The marks of a search, step by step.
use Rattle.std.proofs.Common.{◌≡◌, ◌≢◌, ℕ, ◌+◌, ◌*◌, ◌/◌, ◌%◌, ◌<◌, ◌≤◌, List, [], ◌∷◌, Bool, true, false, ◌⊎◌, inl, inr, length, set, replicate, sym, subst, ◌∙◌, arith}
use Rattle.std.proofs.lemmas.Bool.{cases_lt, false≢true}
use Rattle.std.proofs.lemmas.List.{length-set, length-replicate, get_or-set_same, get_or-set_other, get_or-replicate, get_or_past}
use Rattle.wasm_core.specs.WordData.{odd, block, IsBlock}
use Rattle.mem_value.specs.Tells.{HasData}
use Rattle.mem_value.specs.Marks.{Is, IsKept, IsBad, IsSound, Grows, MarksFields, MarksNeeded, IsSearched, field_at}
use Rattle.mem_value.specs.Marks as marks
use Rattle.mem_value.proofs.Standing.{kept-grows, sound-grows, block_field}

is_within : (ms : List Bool) (p : ℕ) → Is ms p → p < length ms
is_within ms p is = within (cases_lt p (length ms))
  where
    within : (p < length ms) ⊎ (length ms ≤ p) → p < length ms
    within (inl lt) = lt
    within (inr ge) = absurd (false≢true (sym (get_or_past ms p false ge) ∙ is))

-- ---- one mark

-- a place is marked
pub mark_kept : (ms : List Bool) (q p : ℕ) → q < length ms → Is ms p → Is (set ms q true) p
mark_kept ms q p lt is = kept (cases_lt p q) (cases_lt q p)
  where
    other : (p ≢ q) → Is (set ms q true) p
    other ne = get_or-set_other ms q p true false ne ∙ is

    kept : (p < q) ⊎ (q ≤ p) → (q < p) ⊎ (p ≤ q) → Is (set ms q true) p
    kept (inl below) y = other (λ e. omega arith)
    kept (inr ge) (inl above) = other (λ e. omega arith)
    kept (inr ge) (inr le) = let e : q ≡ p = omega arith in subst (λ x. Is (set ms q true) x) e (get_or-set_same ms q true false lt)

pub mark_new : (ms : List Bool) (q p : ℕ) → Is (set ms q true) p → Is ms p ⊎ (p ≡ q)
mark_new ms q p is = new (cases_lt p q) (cases_lt q p)
  where
    other : (p ≢ q) → Is ms p
    other ne = sym (get_or-set_other ms q p true false ne) ∙ is

    new : (p < q) ⊎ (q ≤ p) → (q < p) ⊎ (p ≤ q) → Is ms p ⊎ (p ≡ q)
    new (inl below) y = inl (other (λ e. omega arith))
    new (inr ge) (inl above) = inl (other (λ e. omega arith))
    new (inr ge) (inr le) = inr (omega arith)

-- what the marking of an even field below the block does
pub record MarksOne (old new : List Bool) (place field : ℕ) : Type 0 where
  pub kept : IsKept new place field
  pub grows : Grows old new
  pub marked : (p : ℕ) → Is new p → Is old p ⊎ ((field ≡ 4 * p) × (p < place))

pub marks_one : (ms new : List Bool) (place field : ℕ) → new ≡ set ms (field / 4) true → place < length ms → field % 4 ≡ 0 → 0 < field → field / 4 < place → MarksOne ms new place field
marks_one ms new place field is here even pos below =
    let q : ℕ = field / 4 in
    let e : field ≡ 4 * (field / 4) = omega arith in
    subst (λ (n : List Bool). MarksOne ms n place field) (sym is) (record {
      kept = marks.address (field / 4) e (omega arith) below (get_or-set_same ms (field / 4) true false (omega arith));
      grows = record { len = length-set ms (field / 4) true; kept = λ p old. mark_kept ms (field / 4) p (omega arith) old };
      marked = λ p new. one p (mark_new ms (field / 4) p new);
    })
  where
    one : (p : ℕ) → Is ms p ⊎ (p ≡ field / 4) → Is ms p ⊎ ((field ≡ 4 * p) × (p < place))
    one p (inl old) = inl old
    one p (inr q) = inr (omega arith, omega arith)

-- ---- the fields of a block

pub kept_more : (memory : List ℕ) (place i field : ℕ) (a b : List Bool) → ((k : ℕ) → k < i → IsKept a place (field_at memory place k)) → Grows a b → IsKept b place field → field ≡ field_at memory place i → (k : ℕ) → k < i + 1 → IsKept b place (field_at memory place k)
kept_more memory place i field a b all g here e k lt = more (cases_lt k i)
  where
    more : (k < i) ⊎ (i ≤ k) → IsKept b place (field_at memory place k)
    more (inl below) = kept-grows a b place (field_at memory place k) g (all k below)
    more (inr ge) = let q : i ≡ k = omega arith in subst (λ x. IsKept b place (field_at memory place x)) q (subst (IsKept b place) e here)

pub marks_more : (memory : List ℕ) (place i field : ℕ) (a b c : List Bool) → MarksFields memory place i a b → ((p : ℕ) → Is c p → Is b p ⊎ ((field ≡ 4 * p) × (p < place))) → field ≡ field_at memory place i → MarksFields memory place (i + 1) a c
marks_more memory place i field a b c m n e p is = more (n p is)
  where
    first : Is a p ⊎ ((k : ℕ) × (k < i) × (field_at memory place k ≡ 4 * p) × (p < place)) → Is a p ⊎ ((k : ℕ) × (k < i + 1) × (field_at memory place k ≡ 4 * p) × (p < place))
    first (inl old) = inl old
    first (inr (k, lt, q, below)) = inr (k, omega arith, q, below)

    more : Is b p ⊎ ((field ≡ 4 * p) × (p < place)) → Is a p ⊎ ((k : ℕ) × (k < i + 1) × (field_at memory place k ≡ 4 * p) × (p < place))
    more (inl old) = first (m p old)
    more (inr (q, below)) = inr (i, omega arith, sym e ∙ q, below)

pub marks_widen : (memory : List ℕ) (place n k : ℕ) (a b : List Bool) → MarksFields memory place n a b → n ≤ k → MarksFields memory place k a b
marks_widen memory place n k a b m le p is = widen (m p is)
  where
    widen : Is a p ⊎ ((i : ℕ) × (i < n) × (field_at memory place i ≡ 4 * p) × (p < place)) → Is a p ⊎ ((i : ℕ) × (i < k) × (field_at memory place i ≡ 4 * p) × (p < place))
    widen (inl old) = inl old
    widen (inr (i, lt, q, below)) = inr (i, omega arith, q, below)

-- ---- one block

pub marks_needed : (memory : List ℕ) (place arity number : ℕ) (a b : List Bool) → IsBlock memory (4 * place) arity number → MarksFields memory place arity a b → MarksNeeded memory place a b
marks_needed memory place arity number a b lies m p is = needed (m p is)
  where
    needed : Is a p ⊎ ((i : ℕ) × (i < arity) × (field_at memory place i ≡ 4 * p) × (p < place)) → Is a p ⊎ ((p < place) × (HasData memory (4 * place) → HasData memory (4 * p)))
    needed (inl old) = inl old
    needed (inr (i, lt, e, below)) = inr (below, λ has. subst (HasData memory) e (block_field memory place arity number i lies has lt).0)

pub block_is_bad : (memory : List ℕ) (place arity number i : ℕ) → IsBlock memory (4 * place) arity number → i < arity → IsBad memory place (field_at memory place i) → HasData memory (4 * place) → ⊥
block_is_bad memory place arity number i lies lt bad has = let f = block_field memory place arity number i lies has lt in bad f.0 f.1

pub no_block : (memory : List ℕ) (place : ℕ) → ((arity c : ℕ) → IsBlock memory (4 * place) arity c → ⊥) → HasData memory (4 * place) → ⊥
no_block memory place none (d, odd {c = c} e) = absurd (omega arith)
no_block memory place none (d, block {c = c} {arity = a} b f) = none a c b

-- ---- all blocks

pub search_starts : (memory : List ℕ) (top at : ℕ) (ms : List Bool) → ms ≡ set (replicate (top + 1) false) top true → at ≡ top → IsSearched memory top at ms
search_starts memory top at ms is here =
    let len : length (set (replicate (top + 1) false) top true) ≡ top + 1 = length-set (replicate (top + 1) false) top true ∙ length-replicate (top + 1) false in
    let long : top < length (replicate (top + 1) false) = (let e = length-replicate (top + 1) false in omega arith) in
    subst (λ (m : List Bool). IsSearched memory top at m) (sym is) (record {
      len = len;
      root = get_or-set_same (replicate (top + 1) false) top true false long;
      sound = λ p lt q. absurd (let w = is_within (set (replicate (top + 1) false) top true) p q in omega (arith, w, len));
      needed = λ p q has. root p has (mark_new (replicate (top + 1) false) top p q);
    })
  where
    none : (p : ℕ) → Is (replicate (top + 1) false) p → ⊥
    none p q =
        let lt = is_within (replicate (top + 1) false) p q in
        let n = length-replicate (top + 1) false in
        false≢true (sym (get_or-replicate (top + 1) p false false (omega arith)) ∙ q)

    root : (p : ℕ) → HasData memory (4 * top) → Is (replicate (top + 1) false) p ⊎ (p ≡ top) → HasData memory (4 * p)
    root p has (inl old) = absurd (none p old)
    root p has (inr e) = subst (λ x. HasData memory (4 * x)) (sym e) has

-- a place that isn't marked is passed
pub search_skips : (memory : List ℕ) (top at below : ℕ) (ms : List Bool) → IsSearched memory top at ms → at ≡ below + 1 → (Is ms at → ⊥) → IsSearched memory top below ms
search_skips memory top at below ms s e not = record { len = s.len; root = s.root; sound = λ p lt is. sound p is (cases_lt at p) lt; needed = s.needed }
  where
    sound : (p : ℕ) → Is ms p → (at < p) ⊎ (p ≤ at) → below < p → IsSound memory ms p
    sound p is (inl lt) low = s.sound p lt is
    sound p is (inr le) low = let q : p ≡ at = omega arith in absurd (not (subst (Is ms) q is))

-- the block at a marked place is sound
pub search_goes : (memory : List ℕ) (top at below : ℕ) (a b : List Bool) → IsSearched memory top at a → at ≡ below + 1 → Is a at → IsSound memory b at → Grows a b → MarksNeeded memory at a b → IsSearched memory top below b
search_goes memory top at below a b s e here found g m = record {
  len = g.len ∙ s.len;
  root = g.kept top s.root;
  sound = λ p lt is. sound p (cases_lt at p) lt (m p is);
  needed = λ p is has. needed p has (m p is);
}
  where
    sound : (p : ℕ) → (at < p) ⊎ (p ≤ at) → below < p → Is a p ⊎ ((p < at) × (HasData memory (4 * at) → HasData memory (4 * p))) → IsSound memory b p
    sound p (inl lt) low (inl old) = sound-grows memory a b p g (s.sound p lt old)
    sound p (inl lt) low (inr (under, f)) = absurd (omega arith)
    sound p (inr le) low x = let q : at ≡ p = omega arith in subst (IsSound memory b) q found

    needed : (p : ℕ) → HasData memory (4 * top) → Is a p ⊎ ((p < at) × (HasData memory (4 * at) → HasData memory (4 * p))) → HasData memory (4 * p)
    needed p has (inl old) = s.needed p old has
    needed p has (inr (under, f)) = f (s.needed at here has)

-- ---- words

pub odd_has : (memory : List ℕ) (w : ℕ) → w % 2 ≡ 1 → HasData memory w
odd_has memory w e = (((w / 2, 0) ∷ []), odd (omega arith))

pub word_is_bad : (memory : List ℕ) (w : ℕ) → (w % 2 ≡ 1 → ⊥) → (w % 4 ≢ 0) ⊎ ((w ≡ 0) ⊎ (length memory ≤ w)) → HasData memory w → ⊥
word_is_bad memory w even bad (d, odd {c = c} e) = even (omega arith)
word_is_bad memory w even (inl skew) (d, block b f) = skew (let e = b.aligned in omega arith)
word_is_bad memory w even (inr (inl none)) (d, block b f) = let pos = b.there in omega arith
word_is_bad memory w even (inr (inr past)) (d, block b f) = let i = b.inside in omega arith
