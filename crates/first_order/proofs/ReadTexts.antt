-- Data that is read at types has a text at them.
use Rattle.std.proofs.Common.{◌≡◌, ◌∙◌, ℕ, zero, suc, ◌<◌, ◌==◌, List, [], ◌∷◌, ◌++◌, map, length, drop, Some, None, slice_get, if◌then◌else◌, refl, sym, ap}
use Rattle.std.proofs.lemmas.Bool.{eq-eqb, eqb-true}
use Rattle.std.proofs.lemmas.List.{map-append, length-replicate}
use Rattle.std.proofs.lemmas.Option.{slice_get-get_or}
use Rattle.pc_terms.specs.Syntax.{Term, args}
use Rattle.calculus_rules.specs.FirstOrder.{Data}
use Rattle.calculus_rules.specs.Lookups.{if_some}
use Rattle.pc_rules.proofs.WeakNext.{if_some_is, if_is, drop_long}
use Rattle.calculus_rules.proofs.Spines.{one_item}
use Rattle.first_order.specs.declared.shapes.Shape.{Shape}
use Rattle.first_order.specs.declared.shapes.ShapeCtor.{ShapeCtor}
use Rattle.first_order.specs.declared.reading.Field.{Field}
use Rattle.first_order.specs.declared.texts.Slot.{Slot}
use Rattle.first_order.specs.Reading.{field, Taken, node_of, Read, read_on, read}
use Rattle.first_order.specs.Texts.{counted_ctor, constructor_in, named_ctor, by_shapes, by_tags, HasNames, slot, slots, piece, Writing, Written, NotOf, NoTree, before, on_name, write_on, write}
use Rattle.first_order.proofs.NodeByNode.{fields_length, read_none, read_past, read_next, many_read}
use Rattle.first_order.proofs.DataRead.{IsNode, node_is, node_of_some, places_of_fields}
use Rattle.first_order.proofs.Written.{written_node, nothing_written, too_many, IsCounted}

abbrev at_slot : Slot → ℕ
at_slot s = s.place

abbrev at_field : Field → ℕ
at_field x = x.place

slot_places : (js : List ℕ) (c : ℕ) → map at_slot (slots js c) ≡ js
slot_places [] c = refl
slot_places (j ∷ []) c = refl
slot_places (j ∷ k ∷ js) c = ap (◌∷◌ j) (slot_places (k ∷ js) c)

not_of : (t : List ℕ) (w : Writing) (m : ℕ) → before t w ≡ NotOf m → w ≡ NotOf m
not_of t (Written u) m e = absurd (cc)
not_of t (NotOf k) m e = e
not_of t NoTree m e = absurd (cc)

named : (names : List (List ℕ)) (k : ShapeCtor) → k.name.0 < length names → (name : List ℕ) × (named_ctor names k ≡ Some (name, k.args))
named names k lt =
    let at = slice_get-get_or names k.name.0 [] lt in
    (_, ap (λ o. if_some o (λ name. Some (name, k.args))) at)

-- a node that is read has a name
node_named : (S : List Shape) (names : List (List ℕ)) → HasNames S names → (x : Field) (b : Taken) → IsNode S x b → (n : ℕ) → n ≡ length b.1 →
    (e : List ℕ × List ℕ) × (by_shapes S names x.place (b.0, n) ≡ Some e) × (map at_field b.1 ≡ e.1)
node_named S names h x b i n l =
    let ys = drop (length (args i.shape.ty)) (args x.value) in
    let long : length ys ≡ length i.ctor.args = drop_long (length (args i.shape.ty)) (length i.ctor.args) (args x.value) i.counted in
    let count : length i.ctor.args ≡ n = sym long ∙ long ∙ sym (fields_length i.ctor.args ys long) ∙ sym (ap length i.fields_are) ∙ sym l in
    let there : constructor_in S x.place b.0 n ≡ Some i.ctor =
    ap (λ o. if_some o (λ h. if_some (slice_get h.ctors b.0) (λ k. counted_ctor n k))) i.at
    ∙ ap (λ o. if_some o (λ k. counted_ctor n k)) i.ctor_at
    ∙ ap (λ b. if b then Some i.ctor else None) (eq-eqb (length i.ctor.args) n count) in
    let name = named names i.ctor (h x.place b.0 i.shape i.ctor i.at i.ctor_at) in
    ((name.0, i.ctor.args), ap (λ o. if_some o (λ k. named_ctor names k)) there ∙ name.1, ap (map at_field) i.fields_are ∙ places_of_fields i.ctor.args ys long)

all_named : (S : List Shape) (names : List (List ℕ)) → HasNames S names → (n k : ℕ) (xs : List Field) (ds : Data) → read_on S n xs k ≡ Read ds →
    (ss : List Slot) → map at_slot ss ≡ map at_field xs → (i m : ℕ) → write_on (by_shapes S names) ss ds i ≡ NotOf m → ⊥
all_named S names h n k [] [] e [] p i m w = let f : Written [] ≡ NotOf m = sym (nothing_written (by_shapes S names) i) ∙ w in absurd cc
all_named S names h n k [] (d ∷ ds) e ss p i m w = let f : Read [] ≡ Read (d ∷ ds) = sym (read_none S n k) ∙ e in absurd cc
all_named S names h n k [] [] e (s ∷ ss) p i m w = absurd (cc)
all_named S names h zero k (x ∷ xs) ds e ss p i m w = absurd (let f = sym (read_past S zero k x xs refl) ∙ e in many_read ds f)
all_named S names h (suc n) k (x ∷ xs) ds e [] p i m w = absurd (cc)
all_named S names h (suc n) k (x ∷ xs) [] e (s ∷ ss) p i m w = let f : NoTree ≡ NotOf m = sym (too_many (by_shapes S names) s ss i) ∙ w in absurd cc
all_named S names h (suc n) k (x ∷ xs) (d ∷ ds) e (s ∷ ss) p i m w =
    let b = node_of_some (node_of S x) k (λ b. read_on S n (b.1 ++ xs) (suc k)) (d ∷ ds) (sym (read_next S (suc n) n k x xs refl) ∙ e) in
    let node : d ≡ ((b.0).0, length (b.0).1) = cc in
    let rest : ds ≡ b.1 = cc in
    let place : s.place ≡ x.place = cc in
    let places : map at_slot ss ≡ map at_field xs = cc in
    let a = node_named S names h x b.0 (node_is S x b.0 b.2) (length (b.0).1) refl in
    let name : by_shapes S names s.place d ≡ Some a.0 = (λ j. by_shapes S names (place j) (node j)) ∙ a.1 in
    let go = sym (written_node (by_shapes S names) s ss d ds i ∙ ap (λ o. on_name o i (λ e. before (piece i e.0 d.1 s.closes) (write_on (by_shapes S names) (slots e.1 s.closes ++ ss) ds (suc i)))) name) ∙ w in
    let inner = not_of (piece i (a.0).0 d.1 s.closes) (write_on (by_shapes S names) (slots (a.0).1 s.closes ++ ss) ds (suc i)) m go in
    let wait : map at_slot (slots (a.0).1 s.closes ++ ss) ≡ map at_field ((b.0).1 ++ xs) =
    map-append at_slot (slots (a.0).1 s.closes) ss ∙ (λ j. (slot_places (a.0).1 s.closes ∙ sym a.2) j ++ places j) ∙ sym (map-append at_field (b.0).1 xs) in
    all_named S names h n (suc k) ((b.0).1 ++ xs) ds (b.4 ∙ ap Read (sym rest)) (slots (a.0).1 s.closes ++ ss) wait (suc i) m inner

-- data that is read has a text
pub read_has_text : (S : List Shape) (names : List (List ℕ)) → HasNames S names → (v : Term) (ds : Data) → read S v ≡ Read ds → (m : ℕ) → write (by_shapes S names) ds ≡ NotOf m → ⊥
read_has_text S names h v ds e m w = all_named S names h 4000000 0 (field 0 v ∷ []) ds e (slot 0 0 ∷ []) refl 0 m w

-- ---- the namings give a node as many places as it has arguments

pub counted_is : (k l : ShapeCtor) (n : ℕ) → counted_ctor n k ≡ Some l → (k ≡ l) × (length l.args ≡ n)
counted_is k l n e =
    let q = if_is (length k.args == n) (Some k) e in
    let same : k ≡ l = one_item q.1 in
    (same, ap (λ x. length x.args) (sym same) ∙ eqb-true (length k.args) n q.0)

named_is : (names : List (List ℕ)) (k : ShapeCtor) (e : List ℕ × List ℕ) → named_ctor names k ≡ Some e → e.1 ≡ k.args
named_is names k e h =
    let r = if_some_is (slice_get names k.name.0) (λ name. Some (name, k.args)) h in ap (λ x. x.1) (sym (one_item r.2))

pub shapes_count : (S : List Shape) (names : List (List ℕ)) → IsCounted (by_shapes S names)
shapes_count S names i d e h =
    let r = if_some_is (constructor_in S i d.0 d.1) (λ k. named_ctor names k) h in
    let s = if_some_is (slice_get S i) (λ h. if_some (slice_get h.ctors d.0) (λ k. counted_ctor d.1 k)) r.1 in
    let t = if_some_is (slice_get (s.0).ctors d.0) (λ k. counted_ctor d.1 k) s.2 in
    ap length (named_is names r.0 e r.2) ∙ (counted_is t.0 r.0 d.1 t.2).1

pub tags_count : IsCounted by_tags
tags_count i d e h = ap (λ x. length x.1) (sym (one_item h)) ∙ length-replicate d.1 0

-- a node's constructor, and its name
pub named_at : (S : List Shape) (names : List (List ℕ)) (i : ℕ) (d : ℕ × ℕ) (k : ShapeCtor) (name : List ℕ) → constructor_in S i d.0 d.1 ≡ Some k → Some name ≡ slice_get names k.name.0 →
    by_shapes S names i d ≡ Some (name, k.args)
named_at S names i d k name e f =
    ap (λ o. if_some o (λ k. named_ctor names k)) e ∙ ap (λ o. if_some o (λ name. Some (name, k.args))) (sym f)
