-- Data that fits the types of a first-order set is written, node by node.
use Rattle.std.proofs.Common.{◌≡◌, ◌∙◌, ℕ, zero, suc, List, [], ◌∷◌, ◌++◌, length, Some, None, slice_get, if◌then◌else◌, refl, sym, ap, append_assoc, append-nil}
use Rattle.std.specs.Prelude.{get_or}
use Rattle.std.proofs.lemmas.Bool.{eq-eqb}
use Rattle.std.proofs.lemmas.Option.{slice_get-get_or, slice_get-map}
use Rattle.calculus_rules.specs.FirstOrder.{Shape as Member, Data, FitsShapes, fits, FieldsFit, no_field_fits, field_fits}
use Rattle.calculus_rules.specs.Lookups.{if_some}
use Rattle.first_order.specs.declared.shapes.Shape.{Shape}
use Rattle.first_order.specs.declared.shapes.ShapeCtor.{ShapeCtor}
use Rattle.first_order.specs.Searching.{member, members, places}
use Rattle.first_order.specs.Texts.{Naming, counted_ctor, constructor_in, by_shapes, HasNames, slot, slot_behind, slots, piece, Writing, Written, NotOf, NoTree, before, on_name, write_on, write}
use Rattle.first_order.proofs.Written.{written_node, nothing_written, is_text, before_both}
use Rattle.first_order.proofs.ReadTexts.{shapes_count, named_at}
use Rattle.headline.specs.WrittenData.{FittingDataIsWritten}
use Rattle.calculus_rules.proofs.Listing.{from_map}

before_none : (w : Writing) → w ≡ before [] w
before_none (Written v) = refl
before_none (NotOf k) = refl
before_none NoTree = refl

behind_at : (j n c : ℕ) → (slot_behind j n c).place ≡ j
behind_at j zero c = refl
behind_at j (suc n) c = refl

-- a constructor of the types has a name
has_name : (S : List Shape) (names : List (List ℕ)) → HasNames S names → (i c : ℕ) (m : Member) (js : List ℕ) → slice_get (members S) i ≡ Some m → slice_get m.constructors c ≡ Some js →
    (name : List ℕ) × (by_shapes S names i (c, length js) ≡ Some (name, js))
has_name S names all i c m js at ctor =
    let a = from_map member (slice_get S i) m (sym (slice_get-map member S i) ∙ at) in
    let h : Shape = a.0 in
    let b = from_map places (slice_get h.ctors c) js (sym (slice_get-map places h.ctors c) ∙ ap (λ (x : Member). slice_get x.constructors c) (sym a.2) ∙ ctor) in
    let k : ShapeCtor = b.0 in
    let there : constructor_in S i c (length js) ≡ Some k =
    ap (λ o. if_some o (λ (h : Shape). if_some (slice_get h.ctors c) (λ k. counted_ctor (length js) k))) a.1
    ∙ ap (λ o. if_some o (λ k. counted_ctor (length js) k)) b.1
    ∙ ap (λ b. if b then Some k else None) (eq-eqb (length k.args) (length js) (ap length (sym b.2))) in
    let name = get_or names k.name.0 [] in
    (name, named_at S names i (c, length js) k name there (sym (slice_get-get_or names k.name.0 [] (all i c h k a.1 b.1))) ∙ ap (λ js. Some (name, js)) (sym b.2))

-- a writer of trees that wait: each has a place and brackets that are closed behind it. The type of what waits is private to `first_order`
record IsWriter {X : Type 0} (N : Naming) (w : List X → Data → ℕ → Writing) (place closes : X → ℕ) (behind : ℕ → ℕ → ℕ → X) (waits : List ℕ → ℕ → List X) : Type 0 where
  node : (s : X) (ss : List X) (d : ℕ × ℕ) (ds : Data) (k : ℕ) →
      w (s ∷ ss) (d ∷ ds) k ≡ on_name (N (place s) d) k (λ e. before (piece k e.0 d.1 (closes s)) (w (waits e.1 (closes s) ++ ss) ds (suc k)))
  none : (c : ℕ) → waits [] c ≡ []
  more : (j : ℕ) (js : List ℕ) (c : ℕ) → waits (j ∷ js) c ≡ behind j (length js) (suc c) ∷ waits js c
  placed : (j n c : ℕ) → place (behind j n c) ≡ j

module _ (S : List Shape) (names : List (List ℕ)) (all : HasNames S names) {X : Type 0} (w : List X → Data → ℕ → Writing) (place closes : X → ℕ) (behind : ℕ → ℕ → ℕ → X)
    (waits : List ℕ → ℕ → List X) (is : IsWriter (by_shapes S names) w place closes behind waits) where
  -- writing comes from some trees that wait to others
  record Comes (ws ss : List X) (ds es : Data) (k : ℕ) : Type 0 where
    text : List ℕ
    after : ℕ
    comes : w ws ds k ≡ before text (w ss es after)

  mutual
    tree_comes : {i : ℕ} {ds : Data} → FitsShapes (members S) i ds → (s : X) → place s ≡ i → (ss : List X) (es : Data) (k : ℕ) → Comes (s ∷ ss) ss (ds ++ es) es k
    tree_comes (fits {i = i} {c = c} {h = h} {js = js} {ds = ds} at ctor fs) s e ss es k =
        let n = has_name S names all i c h js at ctor in
        let r = fields_come fs (closes s) ss es (suc k) in
        let p = piece k n.0 (length js) (closes s) in
        record {
          text = p ++ r.text;
          after = r.after;
          comes = is.node s ss (c, length js) (ds ++ es) k
              ∙ ap (λ o. on_name o k (λ e. before (piece k e.0 (length js) (closes s)) (w (waits e.1 (closes s) ++ ss) (ds ++ es) (suc k)))) (ap (λ j. by_shapes S names j (c, length js)) e ∙ n.1)
              ∙ ap (before p) r.comes
              ∙ before_both p r.text (w ss es r.after);
        }

    fields_come : {js : List ℕ} {ds : Data} → FieldsFit (members S) js ds → (c : ℕ) (ss : List X) (es : Data) (k : ℕ) → Comes (waits js c ++ ss) ss (ds ++ es) es k
    fields_come no_field_fits c ss es k = record { text = []; after = k; comes = ap (λ l. w (l ++ ss) es k) (is.none c) ∙ before_none (w ss es k) }
    fields_come (field_fits {j = j} {js = js} {d = d} {ds = ds} f fs) c ss es k =
        let s = behind j (length js) (suc c) in
        let t = tree_comes f s (is.placed j (length js) (suc c)) (waits js c ++ ss) (ds ++ es) k in
        let r = fields_come fs c ss es t.after in
        record {
          text = t.text ++ r.text;
          after = r.after;
          comes = ap (λ l. w (l ++ ss) ((d ++ ds) ++ es) k) (is.more j js c)
              ∙ ap (λ x. w (s ∷ (waits js c ++ ss)) x k) (append_assoc d ds es)
              ∙ t.comes
              ∙ ap (before t.text) r.comes
              ∙ before_both t.text r.text (w ss es r.after);
        }

pub fitting_is_written : FittingDataIsWritten
fitting_is_written S names all tree h =
    let N = by_shapes S names in
    let r = tree_comes S names all (write_on N) (λ s. s.place) (λ s. s.closes) slot_behind slots (record { node = written_node N; none = λ c. refl; more = λ j js c. refl; placed = behind_at }) h (slot 0 0) refl [] [] 0 in
    let e : write N tree ≡ Written (r.text ++ []) =
    ap (λ x. write_on N (slot 0 0 ∷ []) x 0) (sym (append-nil tree)) ∙ r.comes ∙ ap (before r.text) (nothing_written N r.after) in
    record { line = r.text ++ []; written = e; is = is_text N (shapes_count S names) tree (r.text ++ []) e }
