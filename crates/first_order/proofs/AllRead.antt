-- The data of a value along a first-order set is what is read of it, within the nodes that are looked at.
use Rattle.std.proofs.Common.{◌≡◌, ◌∙◌, ℕ, zero, suc, ◌+◌, ◌≤◌, if◌then◌else◌, List, [], ◌∷◌, ◌++◌, length, map, drop, Some, None, option_map, slice_get, refl, sym, ap, subst as along, arith, append_assoc, append-nil, length-append}
use Rattle.std.proofs.lemmas.Bool.{eq-eqb}
use Rattle.std.proofs.lemmas.List.{map-append}
use Rattle.std.proofs.lemmas.Option.{slice_get-map}
use Rattle.pc_terms.specs.Syntax.{Term, Ind, Construct, apply, head, args}
use Rattle.calculus_rules.specs.Environment.{Env}
use Rattle.calculus_rules.specs.Accepted.{IsAccepted}
use Rattle.calculus_rules.specs.Step.{IsConstructor, is_constructor}
use Rattle.calculus_rules.specs.FirstOrder.{Shape as Member, shape_type, IsMember, IsFirstOrder, Data, Reads, reads, ReadsAll, no_field, field as field_read}
use Rattle.calculus_rules.specs.Lookups.{if_some}
use Rattle.pc_rules.proofs.EvaluationReached.{family_there}
use Rattle.pc_rules.proofs.SameTrees.{one_family}
use Rattle.calculus_rules.proofs.Spines.{head-apply, args-apply, drop_past, one_item}
use Rattle.first_order.specs.declared.shapes.Shape.{Shape}
use Rattle.first_order.specs.declared.reading.Field.{Field}
use Rattle.first_order.specs.Reading.{field, fields, is_family, arguments_of, node_in, node_of, Read, put_first, on_node, read_on, plain_ctor, plain_type, reading}
use Rattle.first_order.proofs.NodeByNode.{fields_length, read_none, read_next}
use Rattle.first_order.proofs.DataRead.{place_of, value_of, places_of_fields, values_of_fields}

module _ (E : Env) (S : List Member) where
  pub all_long : {js : List ℕ} {xs : List Term} {ds : Data} → ReadsAll E S js xs ds → length xs ≡ length js
  all_long no_field = refl
  all_long (field_read r rs) = ap suc (all_long rs)

  joined : {js ks : List ℕ} {xs ys : List Term} {ds es : Data} → ReadsAll E S js xs ds → ReadsAll E S ks ys es → ReadsAll E S (js ++ ks) (xs ++ ys) (ds ++ es)
  joined no_field q = q
  joined {js} {ks} {xs} {ys} {ds} {es} (field_read {d = d} {ds = ds'} r rs) q =
      along (ReadsAll E S (js ++ ks) (xs ++ ys)) (sym (append_assoc d ds' es)) (field_read r (joined rs q))

  nothing_left : {ds : Data} → ReadsAll E S [] [] ds → Read [] ≡ Read ds
  nothing_left no_field = refl

  some_node : {i : ℕ} {v : Term} {d : Data} → Reads E S i v d → 1 ≤ length d
  some_node (reads s t b rs) = omega arith

  some_nodes : {j : ℕ} {js : List ℕ} {x : Term} {xs : List Term} {ds : Data} → ReadsAll E S (j ∷ js) (x ∷ xs) ds → 1 ≤ length ds
  some_nodes (field_read {d = d} {ds = es} r rs) = omega (arith, some_node r, length-append d es)

  module _ (a : IsAccepted E) (all : (j : ℕ) (h : Member) → slice_get S j ≡ Some h → IsMember E S h) where
    abbrev types : List Shape
    types = map plain_type S

    -- the parameters of a constructor are as many as its type's
    parameters_long : (h : Member) (c : ℕ) (v : Term) (qs xs : List Term) → IsMember E S h → IsConstructor E h.family c v qs xs → length (args (shape_type h)) ≡ length qs
    parameters_long h c v qs xs m (is_constructor {F = F} k i p l e) =
        let one = one_item (sym (family_there E a h.family m.declared m.kept) ∙ family_there E a h.family F k) in
        ap length (args-apply (Ind h.family) h.parameters) ∙ m.parameters ∙ ap (λ F. length F.parameters) one ∙ sym p

    constructor_is : (h : Member) (c : ℕ) (v : Term) (qs xs : List Term) → IsConstructor E h.family c v qs xs → v ≡ apply (Construct h.family c) (qs ++ xs)
    constructor_is h c v qs xs (is_constructor k i p l e) = e

    arguments_there : (n c : ℕ) (js : List ℕ) (qs xs : List Term) → n ≡ length qs → length xs ≡ length js → arguments_of c n (qs ++ xs) (plain_ctor js) ≡ Some (c, fields js xs)
    arguments_there n c js qs xs e l =
        let count : length (qs ++ xs) ≡ n + length js = length-append qs xs ∙ (λ i. sym e i + l i) in
        ap (λ b. if b then Some (c, fields js (drop n (qs ++ xs))) else None) (eq-eqb (length (qs ++ xs)) (n + length js) count)
        ∙ ap (λ k. Some (c, fields js (drop k (qs ++ xs)))) e ∙ ap (λ ys. Some (c, fields js ys)) (drop_past qs xs)

    in_type : (h : Member) (c : ℕ) (js : List ℕ) (v : Term) (qs xs : List Term) → IsMember E S h → slice_get h.constructors c ≡ Some js → IsConstructor E h.family c v qs xs → length xs ≡ length js →
        node_in (plain_type h) (Construct h.family c) (qs ++ xs) ≡ Some (c, fields js xs)
    in_type h c js v qs xs m t b l =
        let ctor : slice_get (map plain_ctor h.constructors) c ≡ Some (plain_ctor js) = slice_get-map plain_ctor h.constructors c ∙ ap (option_map plain_ctor) t in
        ap (λ g. if is_family h.family g then if_some (slice_get (map plain_ctor h.constructors) c) (λ k. arguments_of c (length (args (shape_type h))) (qs ++ xs) k) else None)
        (head-apply (Ind h.family) h.parameters)
        ∙ ap (λ b. if b then if_some (slice_get (map plain_ctor h.constructors) c) (λ k. arguments_of c (length (args (shape_type h))) (qs ++ xs) k) else None) (one_family h.family)
        ∙ ap (λ o. if_some o (λ k. arguments_of c (length (args (shape_type h))) (qs ++ xs) k)) ctor
        ∙ arguments_there (length (args (shape_type h))) c js qs xs (parameters_long h c v qs xs m b) l

    node_there : (x : Field) (h : Member) (c : ℕ) (js : List ℕ) (qs xs : List Term) → slice_get S x.place ≡ Some h → slice_get h.constructors c ≡ Some js →
        IsConstructor E h.family c x.value qs xs → length xs ≡ length js → node_of types x ≡ Some (c, fields js xs)
    node_there x h c js qs xs s t b l =
        let e = constructor_is h c x.value qs xs b in
        ap (λ o. if_some o (λ h. node_in h (head x.value) (args x.value))) (slice_get-map plain_type S x.place ∙ ap (option_map plain_type) s)
        ∙ ap (λ v. node_in (plain_type h) (head v) (args v)) e
        ∙ (λ i. node_in (plain_type h) (head-apply (Construct h.family c) (qs ++ xs) i) (args-apply (Construct h.family c) (qs ++ xs) i))
        ∙ in_type h c js x.value qs xs (all x.place h s) t b l

    abbrev AreReadFrom : List Field → Data → Type 0
    AreReadFrom xs ds = ReadsAll E S (map place_of xs) (map value_of xs) ds

    next_there : (n k : ℕ) (x : Field) (xs : List Field) (d es : Data) → Reads E S x.place x.value d → AreReadFrom xs es → length (d ++ es) ≤ suc n →
        ((ys : List Field) (zs : Data) → AreReadFrom ys zs → length zs ≤ n → read_on types n ys (suc k) ≡ Read zs) → read_on types (suc n) (x ∷ xs) k ≡ Read (d ++ es)
    next_there n k x xs d es (reads {c = c} {h = h} {js = js} {qs = qs} {xs = ys} {ds = zs} s t b rs) q l go =
        let long = all_long rs in
        let places : map place_of (fields js ys ++ xs) ≡ js ++ map place_of xs = map-append place_of (fields js ys) xs ∙ ap (λ l. l ++ map place_of xs) (places_of_fields js ys long) in
        let values : map value_of (fields js ys ++ xs) ≡ ys ++ map value_of xs = map-append value_of (fields js ys) xs ∙ ap (λ l. l ++ map value_of xs) (values_of_fields js ys long) in
        let rest : AreReadFrom (fields js ys ++ xs) (zs ++ es) =
        along (λ vs. ReadsAll E S (map place_of (fields js ys ++ xs)) vs (zs ++ es)) (sym values) (along (λ ps. ReadsAll E S ps (ys ++ map value_of xs) (zs ++ es)) (sym places) (joined rs q)) in
        read_next types (suc n) n k x xs refl
        ∙ ap (λ o. on_node o k (λ b. read_on types n (b.1 ++ xs) (suc k))) (node_there x h c js qs ys s t b long)
        ∙ ap (put_first (c, length (fields js ys))) (go (fields js ys ++ xs) (zs ++ es) rest (omega (arith, l)))
        ∙ ap (λ m. Read ((c, m) ∷ (zs ++ es))) (fields_length js ys long ∙ sym long)

    all_there : (n k : ℕ) (xs : List Field) (ds : Data) → AreReadFrom xs ds → length ds ≤ n → read_on types n xs k ≡ Read ds
    all_there n k [] ds r l = read_none types n k ∙ nothing_left r
    all_there zero k (x ∷ xs) ds r l = absurd (omega (arith, l, some_nodes r))
    all_there (suc n) k (x ∷ xs) ds (field_read {d = d} {ds = es} r rs) l = next_there n k x xs d es r rs l (all_there n (suc k))

pub data_is_read : (E : Env) → IsAccepted E → (T : Term) (S : List Member) (v : Term) (ds : Data) → IsFirstOrder E T S → Reads E S 0 v ds → length ds ≤ 4000000 → reading S v ≡ Read ds
data_is_read E a T S v ds f r l =
    all_there E S a f.members 4000000 0 (field 0 v ∷ []) ds (along (ReadsAll E S (0 ∷ []) (v ∷ [])) (append-nil ds) (field_read r no_field)) l
