-- Data has a text at types exactly where it fits them.
use Rattle.std.proofs.Common.{Err, ◌≡◌, ◌∙◌, ℕ, suc, ◌==◌, List, [], ◌∷◌, map, length, Some, slice_get, sym, ap, subst}
use Rattle.std.specs.Prelude.{option_map}
use Rattle.std.proofs.lemmas.Bool.{eqb-true}
use Rattle.std.proofs.lemmas.Option.{slice_get-map}
use Rattle.calculus_rules.specs.FirstOrder.{Data, FitsShapes, fits, FieldsFit, no_field_fits, field_fits}
use Rattle.calculus_rules.specs.Lookups.{if_some}
use Rattle.pc_rules.proofs.WeakNext.{if_some_is, if_is}
use Rattle.calculus_rules.proofs.Spines.{one_item}
use Rattle.first_order.specs.declared.shapes.Shape.{Shape}
use Rattle.first_order.specs.declared.shapes.ShapeCtor.{ShapeCtor}
use Rattle.first_order.specs.Searching.{member, members, places}
use Rattle.first_order.specs.declared.faults.TextFault.{TextFault}
use Rattle.first_order.specs.declared.faults.TextFault.TheVariants.{NotOfShape}
use Rattle.first_order.specs.Texts.{WritesAs, IsText, alone, with_arguments, AreTexts, no_text, one_text, by_shapes, HasNames, constructor_in, counted_ctor, named_ctor, Written, NotOf, write}
use Rattle.headline.proofs.Writing.{fitting_is_written}
use Rattle.driver.specs.SourceSays.{IsLine}

-- a node that has a name is a constructor of the type at its place, with that many arguments at these places
record IsNode (S : List Shape) (i c n : ℕ) (js : List ℕ) : Type 0 where
  shape : Shape
  at : slice_get S i ≡ Some shape
  ctor : ShapeCtor
  ctor_at : slice_get shape.ctors c ≡ Some ctor
  places_are : ctor.args ≡ js
  count : length ctor.args ≡ n

node_is : (S : List Shape) (names : List (List ℕ)) (i c n : ℕ) (name : List ℕ) (js : List ℕ) → by_shapes S names i (c, n) ≡ Some (name, js) → IsNode S i c n js
node_is S names i c n name js h =
    let r = if_some_is (constructor_in S i c n) (λ k. named_ctor names k) h in
    let s = if_some_is (slice_get S i) (λ h. if_some (slice_get h.ctors c) (λ k. counted_ctor n k)) r.1 in
    let t = if_some_is (slice_get (s.0).ctors c) (λ k. counted_ctor n k) s.2 in
    let q = if_is (length (t.0).args == n) (Some t.0) t.2 in
    let name = if_some_is (slice_get names (r.0).name.0) (λ name. Some (name, (r.0).args)) r.2 in
    let same : t.0 ≡ r.0 = one_item q.1 in
    record {
      shape = s.0;
      at = s.1;
      ctor = t.0;
      ctor_at = t.1;
      places_are = ap (λ (k : ShapeCtor). k.args) same ∙ ap (λ x. x.1) (one_item name.2);
      count = eqb-true (length (t.0).args) n q.0;
    }

module _ (S : List Shape) (names : List (List ℕ)) where
  -- a node before the fields that fit its places
  fits_node : (i c n : ℕ) (js : List ℕ) (ds : Data) → IsNode S i c n js → FieldsFit (members S) js ds → FitsShapes (members S) i ((c, n) ∷ ds)
  fits_node i c n js ds x h =
      let at : slice_get (members S) i ≡ Some (member x.shape) = slice_get-map member S i ∙ ap (option_map member) x.at in
      let ctor : slice_get (map places x.shape.ctors) c ≡ Some x.ctor.args = slice_get-map places x.shape.ctors c ∙ ap (option_map places) x.ctor_at in
      subst (λ k. FitsShapes (members S) i ((c, k) ∷ ds)) x.count (fits at ctor (subst (λ ks. FieldsFit (members S) ks ds) (sym x.places_are) h))

  mutual
    text_fits : {i : ℕ} {ds : Data} {t : List ℕ} → IsText (by_shapes S names) i ds t → FitsShapes (members S) i ds
    text_fits (alone {i} {c} {name} h) = fits_node i c 0 [] [] (node_is S names i c 0 name [] h) no_field_fits
    text_fits (with_arguments {i} {c} {n} {name} {ts} {js} {ds} h k) = fits_node i c (suc n) js ds (node_is S names i c (suc n) name js h) (texts_fit k)

    texts_fit : {js : List ℕ} {ds : Data} {t : List ℕ} → AreTexts (by_shapes S names) js ds t → FieldsFit (members S) js ds
    texts_fit no_text = no_field_fits
    texts_fit (one_text h k) = field_fits (text_fits h) (texts_fit k)

pub line_fits : (S : List Shape) (names : List (List ℕ)) (ds : Data) (text : List ℕ) → IsLine S names ds text → FitsShapes (members S) 0 ds
line_fits S names ds text (line, is, same) = text_fits S names is

-- what isn't written doesn't fit
pub unwritten : (S : List Shape) (names : List (List ℕ)) → HasNames S names → (ds : Data) (m : ℕ) → write (by_shapes S names) ds ≡ NotOf m → FitsShapes (members S) 0 ds → ⊥
unwritten S names all ds m stops h =
    let x = fitting_is_written S names all ds h in
    let e : Written x.line ≡ NotOf m = sym x.written ∙ stops in
    cc

-- so says the fault of a writer
pub unwritten_at : (S : List Shape) (names : List (List ℕ)) → HasNames S names → (ds : Data) (f : TextFault) {m : ℕ} → f ≡ NotOfShape m → WritesAs (write (by_shapes S names) ds) (Err f) → FitsShapes (members S) 0 ds → ⊥
unwritten_at S names all ds f {m} is h k = unwritten S names all ds m (subst (λ x. WritesAs (write (by_shapes S names) ds) (Err x)) is h) k
