-- A set of the names of exports.
use Rattle.std.proofs.Common.{◌≡◌, ℕ, ◌+◌, ◌<◌, ◌≤◌, List, Bool, true, false, cond, Some, refl, ap, sym, ◌∙◌, length, arith, Ordering}
use Rattle.std.specs.Prelude.{slice_get, ◌≢◌}
use Rattle.std.specs.Borrow.{Bor}
use Rattle.std.specs.Ordering.{nat_cmp, is_eq}
use Rattle.std.specs.Cmp.Lexicographic.{slice_cmp}
use Rattle.std.specs.Str.{bytes_eq}
use Rattle.std.specs.BTreeSet.{BTreeSet, contains}
use Rattle.std.proofs.lemmas.Bool.{false≢true}
use Rattle.std.proofs.lemmas.Map.Text.{is_eq-slice_cmp}
use Rattle.std.proofs.lemmas.Slice.Eq.{bytes_eq-Decides}
use Rattle.std.proofs.lemmas.Option.{slice_get_within}
use Rattle.wasm_core.specs.declared.exports.Export.{Export}
use Rattle.wasm_core.specs.ModuleTyping.{DistinctNames}
use Rattle.wasm_validate.proofs.Reading.{before_next}

-- texts by their bytes
abbrev pub text_order : Bor (List ℕ) → Bor (List ℕ) → Ordering
text_order x y = slice_cmp nat_cmp x.now y.now

-- an export before a place has the name
abbrev pub NamedBefore : List Export → ℕ → List ℕ → Type 0
NamedBefore es n name = (i : ℕ) × (e : Export) × (i < n) × (slice_get es i ≡ Some e) × (e.name ≡ name)

-- the set has the names of the exports before a place, which are distinct
pub record Listed (es : List Export) (n : ℕ) (s : BTreeSet (Bor (List ℕ))) : Type 0 where
  pub only : (q : Bor (List ℕ)) → contains text_order s q ≡ true → NamedBefore es n q.now
  pub every : (q : Bor (List ℕ)) (i : ℕ) (e : Export) → i < n → slice_get es i ≡ Some e → e.name ≡ q.now → contains text_order s q ≡ true
  pub distinct : (i j : ℕ) (e f : Export) → i < j → j < n → slice_get es i ≡ Some e → slice_get es j ≡ Some f → e.name ≢ f.name

-- by whether two texts are the same
by_text : {A : Type 0} (xs ys : List ℕ) → ((xs ≡ ys) → is_eq (slice_cmp nat_cmp xs ys) ≡ true → A) → (((xs ≡ ys) → ⊥) → is_eq (slice_cmp nat_cmp xs ys) ≡ false → A) → A
by_text {A = A} xs ys if_same if_other = on (bytes_eq xs ys) refl
  where
    on : (b : Bool) → bytes_eq xs ys ≡ b → A
    on true e = if_same ((bytes_eq-Decides xs ys).0 e) (is_eq-slice_cmp xs ys ∙ e)
    on false e = if_other (λ s. false≢true (sym e ∙ (bytes_eq-Decides xs ys).1 s)) (is_eq-slice_cmp xs ys ∙ e)

pub listed_more : (es : List Export) (n : ℕ) (s t : BTreeSet (Bor (List ℕ))) (e : Export) (k : Bor (List ℕ)) → Listed es n s → slice_get es n ≡ Some e → k.now ≡ e.name → contains text_order s k ≡ false → ((q : Bor (List ℕ)) → contains text_order t q ≡ cond
    (is_eq (text_order k q)) true (contains text_order s q)) → Listed es (n + 1) t
listed_more es n s t e k l he hk new put = record { only = only_next; every = every_next; distinct = distinct_next }
  where
    only_next : (q : Bor (List ℕ)) → contains text_order t q ≡ true → NamedBefore es (n + 1) q.now
    only_next q h =
        by_text k.now q.now (λ same is. (n, e, omega arith, he, sym hk ∙ same))
        (λ other isnt.
        let old : contains text_order s q ≡ true = sym (ap (λ b. cond b true (contains text_order s q)) isnt) ∙ sym (put q) ∙ h in
        let (i, f, lt, hf, hn) = l.only q old in (i, f, omega arith, hf, hn))

    every_next : (q : Bor (List ℕ)) (i : ℕ) (f : Export) → i < n + 1 → slice_get es i ≡ Some f → f.name ≡ q.now → contains text_order t q ≡ true
    every_next q i f lt hf hn =
        by_text k.now q.now (λ same is. put q ∙ ap (λ b. cond b true (contains text_order s q)) is)
        (λ other isnt.
        put q ∙ ap (λ b. cond b true (contains text_order s q)) isnt
        ∙ before_next (λ j (g : Export). g.name ≡ q.now → contains text_order s q ≡ true) es n e (λ j g lt hg hn. l.every q j g lt hg hn) he (λ m. absurd (other (hk ∙ m))) i f lt hf hn)

    distinct_next : (i j : ℕ) (f g : Export) → i < j → j < n + 1 → slice_get es i ≡ Some f → slice_get es j ≡ Some g → f.name ≢ g.name
    distinct_next i j f g ij jl hf hg same =
        before_next (λ h (x : Export). (d : ℕ) (y : Export) → d < h → slice_get es d ≡ Some y → y.name ≢ x.name) es n e (λ h x lt hx d y dh hy. l.distinct d h y x dh lt hy hx) he
        (λ d y lt hy m. false≢true (sym new ∙ l.every k d y lt hy (m ∙ sym hk))) j g jl hg i f ij hf same

-- a name that is there already
pub listed_twice : (es : List Export) (n : ℕ) (s : BTreeSet (Bor (List ℕ))) (e : Export) (k : Bor (List ℕ)) → Listed es n s → slice_get es n ≡ Some e → k.now ≡ e.name → contains text_order s k ≡ true → DistinctNames es → ⊥
listed_twice es n s e k l he hk old d = let (i, f, lt, hf, hn) = l.only k old in d i n f e lt hf he (hn ∙ hk)

pub listed_all : (es : List Export) (n : ℕ) (s : BTreeSet (Bor (List ℕ))) → Listed es n s → length es ≤ n → DistinctNames es
listed_all es n s l le i j e f ij he hf = l.distinct i j e f ij (let lt = slice_get_within es j f hf in omega arith) he hf
