-- What is read of a value is its data, by the meaning of first-order sets; and names of constructors don't matter.
use Rattle.std.proofs.Common.{◌≡◌, ◌∙◌, ℕ, zero, suc, ◌+◌, ◌≤◌, ◌==◌, true, if◌then◌else◌, List, [], ◌∷◌, ◌++◌, length, map, take, drop, Option, Some, None, option_map, slice_get, refl, sym, ap, subst as along, arith, append_assoc, append-nil}
use Rattle.std.specs.Prelude.{All}
use Rattle.std.proofs.lemmas.Bool.{eqb-true}
use Rattle.std.proofs.lemmas.List.{map-append, take-append-drop, length-take-le}
use Rattle.std.proofs.lemmas.List.Elements.{All-head, All-tail}
use Rattle.std.proofs.lemmas.Option.{slice_get-map}
use Rattle.pc_terms.specs.declared.leaf.FamilyId.{FamilyId}
use Rattle.pc_terms.specs.Syntax.{Term, Rel, Ind, Construct, apply, head, args, put_all}
use Rattle.calculus_rules.specs.declared.declaration.Constructor.{Constructor}
use Rattle.calculus_rules.specs.Environment.{Env}
use Rattle.calculus_rules.specs.Instances.{branch_entries}
use Rattle.calculus_rules.specs.Step.{IsConstructor, is_constructor}
use Rattle.calculus_rules.specs.FirstOrder.{Shape as Member, shape_type, ArgumentsAt, no_argument, an_argument, ConstructorsAt, no_constructor, a_constructor, IsMember, IsFirstOrder, Data, Reads, reads, ReadsAll, no_field, field as field_read}
use Rattle.calculus_rules.specs.Lookups.{if_some}
use Rattle.calculus_rules.proofs.Telescopes.{entries_at_length}
use Rattle.calculus_rules.proofs.Spines.{head-apply, args-apply, one_item}
use Rattle.pc_rules.proofs.WeakNext.{none_some, if_some_is, if_is, same_families_is, drop_long}
use Rattle.calculus_rules.proofs.Spines.{spine_is}
use Rattle.first_order.specs.declared.shapes.Shape.{Shape}
use Rattle.first_order.specs.declared.shapes.ShapeCtor.{ShapeCtor}
use Rattle.first_order.specs.declared.reading.Field.{Field}
use Rattle.first_order.specs.Searching.{family_in, places, member, members, IsNamed}
use Rattle.first_order.specs.Reading.{field, fields, is_family, Taken, arguments_of, node_in, node_of, Reading, Read, on_node, read_on, read, plain_ctor, plain_type, reading}
use Rattle.first_order.proofs.NodeByNode.{fields_length, put_read, read_none, read_past, read_next, many_read}

abbrev pub place_of : Field → ℕ
place_of x = x.place

abbrev pub value_of : Field → Term
value_of x = x.value

-- a node that is taken, taken apart

pub record IsNode (S : List Shape) (x : Field) (b : Taken) : Type 0 where
  pub shape : Shape
  pub at : slice_get S x.place ≡ Some shape
  pub family : FamilyId
  pub head_is : head x.value ≡ Construct family b.0
  pub of_family : is_family family (head shape.ty) ≡ true
  pub ctor : ShapeCtor
  pub ctor_at : slice_get shape.ctors b.0 ≡ Some ctor
  pub counted : length (args x.value) ≡ length (args shape.ty) + length ctor.args
  pub fields_are : b.1 ≡ fields ctor.args (drop (length (args shape.ty)) (args x.value))

counted_is : (c n : ℕ) (xs : List Term) (k : ShapeCtor) (b : Taken) → arguments_of c n xs k ≡ Some b →
    (length xs ≡ n + length k.args) × (b.0 ≡ c) × (b.1 ≡ fields k.args (drop n xs))
counted_is c n xs k b e =
    let q = if_is (length xs == n + length k.args) (Some (c, fields k.args (drop n xs))) e in
    let p = one_item q.1 in
    (eqb-true (length xs) (n + length k.args) q.0, ap (λ z. z.0) (sym p), ap (λ z. z.1) (sym p))

node_at : (S : List Shape) (x : Field) (b : Taken) (h : Shape) (t : Term) → slice_get S x.place ≡ Some h → head x.value ≡ t → node_in h t (args x.value) ≡ Some b → IsNode S x b
node_at S x b h (Construct f c) e p n =
    let q = if_is (is_family f (head h.ty)) (if_some (slice_get h.ctors c) (λ k. arguments_of c (length (args h.ty)) (args x.value) k)) n in
    let r = if_some_is (slice_get h.ctors c) (λ k. arguments_of c (length (args h.ty)) (args x.value) k) q.1 in
    let s = counted_is c (length (args h.ty)) (args x.value) r.0 b r.2 in
    record {
      shape = h;
      at = e;
      family = f;
      head_is = p ∙ ap (Construct f) (sym s.1);
      of_family = q.0;
      ctor = r.0;
      ctor_at = ap (slice_get h.ctors) s.1 ∙ r.1;
      counted = s.0;
      fields_are = s.2;
    }
node_at S x b h t e p n = absurd (none_some n)

pub node_is : (S : List Shape) (x : Field) (b : Taken) → node_of S x ≡ Some b → IsNode S x b
node_is S x b e =
    let r = if_some_is (slice_get S x.place) (λ h. node_in h (head x.value) (args x.value)) e in
    node_at S x b r.0 (head x.value) r.1 refl r.2

-- places and values of the fields

pub places_of_fields : (js : List ℕ) (xs : List Term) → length xs ≡ length js → map place_of (fields js xs) ≡ js
places_of_fields [] xs e = refl
places_of_fields (j ∷ js) [] e = absurd (omega (arith, e))
places_of_fields (j ∷ js) (x ∷ xs) e = ap (◌∷◌ j) (places_of_fields js xs (omega (arith, e)))

pub values_of_fields : (js : List ℕ) (xs : List Term) → length xs ≡ length js → map value_of (fields js xs) ≡ xs
values_of_fields [] [] e = refl
values_of_fields [] (x ∷ xs) e = absurd (omega (arith, e))
values_of_fields (j ∷ js) [] e = absurd (omega (arith, e))
values_of_fields (j ∷ js) (x ∷ xs) e = ap (◌∷◌ x) (values_of_fields js xs (omega (arith, e)))

-- ---- what is read is data of the set

module _ (E : Env) (S : List Member) where
  -- data of lists of values, one behind the other
  apart : (js ks : List ℕ) (xs ys : List Term) (ds : Data) → length xs ≡ length js → ReadsAll E S (js ++ ks) (xs ++ ys) ds →
      (d : Data) × (e : Data) × (ds ≡ d ++ e) × ReadsAll E S js xs d × ReadsAll E S ks ys e
  apart [] ks [] ys ds l r = ([], ds, refl, no_field, r)
  apart [] ks (x ∷ xs) ys ds l r = absurd (omega (arith, l))
  apart (j ∷ js) ks [] ys ds l r = absurd (omega (arith, l))
  apart (j ∷ js) ks (x ∷ xs) ys ds l (field_read {d = d} {ds = es} r rs) =
      let a = apart js ks xs ys es (omega (arith, l)) rs in
      (d ++ a.0, a.1, ap (λ z. d ++ z) a.2 ∙ sym (append_assoc d a.0 a.1), field_read r a.3, a.4)

  constructors_there : {ps : List Term} {Cs : List Constructor} {jss : List (List ℕ)} → ConstructorsAt E S ps Cs jss → (c : ℕ) (js : List ℕ) → slice_get jss c ≡ Some js →
      (C : Constructor) × (slice_get Cs c ≡ Some C) × ArgumentsAt E S 0 (branch_entries C ps) js
  constructors_there no_constructor c js e = absurd (none_some e)
  constructors_there {ps = ps} (a_constructor {C = C} a bs) zero js e = (C, refl, along (ArgumentsAt E S 0 (branch_entries C ps)) (one_item e) a)
  constructors_there (a_constructor a bs) (suc c) js e = constructors_there bs c js e

  arguments_long : {n : ℕ} {As : List Term} {js : List ℕ} → ArgumentsAt E S n As js → length As ≡ length js
  arguments_long no_argument = refl
  arguments_long (an_argument e a bs) = ap suc (arguments_long bs)

member_at : (hs : List Shape) (j : ℕ) (h : Shape) → slice_get hs j ≡ Some h → slice_get (members hs) j ≡ Some (member h)
member_at hs j h e = slice_get-map member hs j ∙ ap (option_map member) e

family_is : (f : FamilyId) (t : Term) → is_family f t ≡ true → f ≡ family_in t
family_is f (Ind g) e = sym (same_families_is g f e)
family_is f t e = absurd (cc)

-- the value of a node is a constructor of its type
node_built : (E : Env) (hs : List Shape) (x : Field) (b : Taken) (n : IsNode hs x b) → IsMember E (members hs) (member n.shape) →
    IsConstructor E (member n.shape).family b.0 x.value (take (length (args n.shape.ty)) (args x.value)) (drop (length (args n.shape.ty)) (args x.value))
node_built E hs x b n m =
    let xs = args x.value in
    let p = length (args n.shape.ty) in
    let js : slice_get (map places n.shape.ctors) b.0 ≡ Some n.ctor.args = slice_get-map places n.shape.ctors b.0 ∙ ap (option_map places) n.ctor_at in
    let c = constructors_there E (members hs) m.constructors b.0 n.ctor.args js in
    let long = arguments_long E (members hs) c.2 in
    let entries = entries_at_length (put_all (args n.shape.ty) Rel) (c.0).args in
    let few : p ≤ length xs = omega (arith, n.counted) in
    let first = length-take-le p xs few in
    let rest = drop_long p (length n.ctor.args) xs n.counted in
    let params = m.parameters in
    is_constructor m.kept c.1 (first ∙ params) (rest ∙ sym long ∙ entries)
    (spine_is x.value ∙ ap (λ t. apply t xs) (n.head_is ∙ ap (λ f. Construct f b.0) (family_is n.family (head n.shape.ty) n.of_family))
    ∙ ap (apply (Construct (family_in (head n.shape.ty)) b.0)) (sym (take-append-drop p xs)))

record ReadsFields (E : Env) (hs : List Shape) (xs : List Field) (ds : Data) : Type 0 where
  pub all : ReadsAll E (members hs) (map place_of xs) (map value_of xs) ds

one_node : (E : Env) (hs : List Shape) (x : Field) (xs : List Field) (b : Taken) (es : Data) → IsNode hs x b → ((j : ℕ) (h : Member) → slice_get (members hs) j ≡ Some h → IsMember E (members hs) h) →
    ReadsFields E hs (b.1 ++ xs) es → ReadsFields E hs (x ∷ xs) ((b.0, length b.1) ∷ es)
one_node E hs x xs b es n m r =
    let ys = drop (length (args n.shape.ty)) (args x.value) in
    let long : length ys ≡ length n.ctor.args = drop_long (length (args n.shape.ty)) (length n.ctor.args) (args x.value) n.counted in
    let js : map place_of b.1 ≡ n.ctor.args = ap (map place_of) n.fields_are ∙ places_of_fields n.ctor.args ys long in
    let vs : map value_of b.1 ≡ ys = ap (map value_of) n.fields_are ∙ values_of_fields n.ctor.args ys long in
    let count : length ys ≡ length b.1 = long ∙ sym (ap length n.fields_are ∙ fields_length n.ctor.args ys long) in
    let all : ReadsAll E (members hs) (n.ctor.args ++ map place_of xs) (ys ++ map value_of xs) es =
    along (λ k. ReadsAll E (members hs) k (ys ++ map value_of xs) es) (map-append place_of b.1 xs ∙ ap (λ l. l ++ map place_of xs) js)
    (along (λ v. ReadsAll E (members hs) (map place_of (b.1 ++ xs)) v es) (map-append value_of b.1 xs ∙ ap (λ l. l ++ map value_of xs) vs) r.all) in
    let a = apart E (members hs) n.ctor.args (map place_of xs) ys (map value_of xs) es long all in
    let here = member_at hs x.place n.shape n.at in
    let ks : slice_get (member n.shape).constructors b.0 ≡ Some n.ctor.args = slice_get-map places n.shape.ctors b.0 ∙ ap (option_map places) n.ctor_at in
    let one : Reads E (members hs) x.place x.value ((b.0, length ys) ∷ a.0) =
    reads here ks (node_built E hs x b n (m x.place (member n.shape) here)) a.3 in
    record {
      all = along (λ z. ReadsAll E (members hs) (x.place ∷ map place_of xs) (x.value ∷ map value_of xs) ((b.0, length b.1) ∷ z)) (sym a.2)
          (along (λ k. ReadsAll E (members hs) (x.place ∷ map place_of xs) (x.value ∷ map value_of xs) ((b.0, k) ∷ (a.0 ++ a.1))) count (field_read one a.4));
    }

nothing_read : (E : Env) (hs : List Shape) (ds : Data) → Read [] ≡ Read ds → ReadsFields E hs [] ds
nothing_read E hs [] e = record { all = no_field }
nothing_read E hs (d ∷ ds) e = absurd (cc)

pub node_of_some : (o : Option Taken) (k : ℕ) (go : Taken → Reading) (ds : Data) → on_node o k go ≡ Read ds →
    (b : Taken) × (es : Data) × (o ≡ Some b) × (ds ≡ (b.0, length b.1) ∷ es) × (go b ≡ Read es)
node_of_some None k go ds e = absurd (cc)
node_of_some (Some b) k go ds e = let p = put_read (b.0, length b.1) (go b) ds e in (b, p.0, refl, p.1, p.2)

reads_fields : (E : Env) (hs : List Shape) → ((j : ℕ) (h : Member) → slice_get (members hs) j ≡ Some h → IsMember E (members hs) h) →
    (n k : ℕ) (xs : List Field) (ds : Data) → read_on hs n xs k ≡ Read ds → ReadsFields E hs xs ds
reads_fields E hs m n k [] ds e = nothing_read E hs ds (sym (read_none hs n k) ∙ e)
reads_fields E hs m zero k (x ∷ xs) ds e = absurd (let f = sym (read_past hs zero k x xs refl) ∙ e in many_read ds f)
reads_fields E hs m (suc n) k (x ∷ xs) ds e =
    let b = node_of_some (node_of hs x) k (λ b. read_on hs n (b.1 ++ xs) (suc k)) ds (sym (read_next hs (suc n) n k x xs refl) ∙ e) in
    along (ReadsFields E hs (x ∷ xs)) (sym b.3)
    (one_node E hs x xs b.0 b.1 (node_is hs x b.0 b.2) m (reads_fields E hs m n (suc k) ((b.0).1 ++ xs) b.1 b.4))

only_field : (E : Env) (S : List Member) (v : Term) (ds : Data) → ReadsAll E S (0 ∷ []) (v ∷ []) ds → Reads E S 0 v ds
only_field E S v ds (field_read {d = d} r no_field) = along (Reads E S 0 v) (sym (append-nil d)) r

-- the data that is read at a first-order set is the value's data
pub read_is_data : (E : Env) (T : Term) (hs : List Shape) (v : Term) (ds : Data) → IsFirstOrder E T (members hs) → read hs v ≡ Read ds → Reads E (members hs) 0 v ds
read_is_data E T hs v ds f e = only_field E (members hs) v ds (reads_fields E hs f.members 4000000 0 (field 0 v ∷ []) ds e).all

-- ---- reading doesn't depend on names

plain_ctors : (ks : List ShapeCtor) (c d n : ℕ) (xs : List Term) →
    if_some (slice_get ks c) (λ k. arguments_of d n xs k) ≡ if_some (slice_get (map plain_ctor (map places ks)) c) (λ k. arguments_of d n xs k)
plain_ctors [] c d n xs = refl
plain_ctors (k ∷ ks) zero d n xs = refl
plain_ctors (k ∷ ks) (suc c) d n xs = plain_ctors ks c d n xs

node_plain : (f : FamilyId) (h : Shape) (t : Term) (xs : List Term) → head h.ty ≡ Ind f → node_in h t xs ≡ node_in (plain_type (member h)) t xs
node_plain f h (Construct g c) xs e =
    let top : head h.ty ≡ head (shape_type (member h)) = e ∙ ap Ind (ap family_in (sym e)) ∙ sym (head-apply (Ind (family_in (head h.ty))) (args h.ty)) in
    let below : args h.ty ≡ args (shape_type (member h)) = sym (args-apply (Ind (family_in (head h.ty))) (args h.ty)) in
    let inside = plain_ctors h.ctors c c (length (args h.ty)) xs in
    (λ i. if is_family g (top i) then inside i else None)
    ∙ ap (λ l. if is_family g (head (shape_type (member h))) then if_some (slice_get (map plain_ctor (map places h.ctors)) c) (λ k. arguments_of c (length l) xs k) else None) below
node_plain f h t xs e = refl

node_of_plain : (hs : List Shape) → ((j : ℕ) (h : Shape) → slice_get hs j ≡ Some h → (f : FamilyId) × (head h.ty ≡ Ind f)) → (x : Field) (o : Option Shape) →
    slice_get hs x.place ≡ o → node_of hs x ≡ node_of (map plain_type (members hs)) x
node_of_plain hs h x None e =
    ap (λ o. if_some o (λ h. node_in h (head x.value) (args x.value))) e
    ∙ sym (ap (λ o. if_some o (λ h. node_in h (head x.value) (args x.value)))
    (slice_get-map plain_type (members hs) x.place ∙ ap (option_map plain_type) (slice_get-map member hs x.place ∙ ap (option_map member) e)))
node_of_plain hs h x (Some g) e =
    ap (λ o. if_some o (λ h. node_in h (head x.value) (args x.value))) e
    ∙ node_plain (h x.place g e).0 g (head x.value) (args x.value) (h x.place g e).1
    ∙ sym (ap (λ o. if_some o (λ h. node_in h (head x.value) (args x.value)))
    (slice_get-map plain_type (members hs) x.place ∙ ap (option_map plain_type) (member_at hs x.place g e)))

read_plain : (hs gs : List Shape) → ((x : Field) → node_of hs x ≡ node_of gs x) → (n k : ℕ) (xs : List Field) → read_on hs n xs k ≡ read_on gs n xs k
read_plain hs gs h n k [] = read_none hs n k ∙ sym (read_none gs n k)
read_plain hs gs h zero k (x ∷ xs) = read_past hs zero k x xs refl ∙ sym (read_past gs zero k x xs refl)
read_plain hs gs h (suc n) k (x ∷ xs) =
    read_next hs (suc n) n k x xs refl
    ∙ ap (λ o. on_node o k (λ b. read_on hs n (b.1 ++ xs) (suc k))) (h x)
    ∙ ap (on_node (node_of gs x) k) (λ i b. read_plain hs gs h n (suc k) (b.1 ++ xs) i)
    ∙ sym (read_next gs (suc n) n k x xs refl)

named_at : (E : Env) (hs : List Shape) → All (IsNamed E) hs → (j : ℕ) (h : Shape) → slice_get hs j ≡ Some h → IsNamed E h
named_at E [] all j h e = absurd (none_some e)
named_at E (g ∷ hs) all zero h e = along (IsNamed E) (one_item e) (All-head (IsNamed E) g hs all)
named_at E (g ∷ hs) all (suc j) h e = named_at E hs (All-tail (IsNamed E) g hs all) j h e

pub reading_is : (E : Env) (hs : List Shape) (v : Term) → All (IsNamed E) hs → read hs v ≡ reading (members hs) v
reading_is E hs v all =
    read_plain hs (map plain_type (members hs))
    (λ x. node_of_plain hs (λ j h e. let n = named_at E hs all j h e in (n.family, n.head_is)) x (slice_get hs x.place) refl) 4000000 0 (field 0 v ∷ [])
