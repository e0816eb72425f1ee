-- Values read as data, node by node.
use Rattle.std.proofs.Common.{◌≡◌, ℕ, zero, suc, ◌+◌, ◌-◌, ◌<◌, ◌≤◌, ◌==◌, Bool, true, false, if◌then◌else◌, List, [], ◌∷◌, ◌++◌, length, drop, reverse, Option, Some, None, slice_get, refl, sym, ap, ◌∙◌, subst as along, arith, length-append}
use Rattle.std.proofs.lemmas.Bool.{eqb-true, eq-eqb}
use Rattle.std.proofs.lemmas.List.{reverse-append, append-nil}
use Rattle.pc_terms.specs.declared.leaf.FamilyId.{FamilyId}
use Rattle.pc_terms.specs.Syntax.{Term, Construct, head, args}
use Rattle.calculus_rules.specs.Lookups.{if_some}
use Rattle.pc_rules.proofs.SameTrees.{not_true}
use Rattle.pc_rules.proofs.WeakNext.{drop_long}
use Rattle.first_order.specs.declared.shapes.Shape.{Shape}
use Rattle.first_order.specs.declared.shapes.ShapeCtor.{ShapeCtor}
use Rattle.first_order.specs.declared.reading.Field.{Field}
use Rattle.data_trees.specs.Preorder.{IsForest, IsTree}
use Rattle.first_order.specs.Reading.{field, fields, is_family, Taken, arguments_of, node_in, node_of, Reading, Read, NotAt, TooMany, put_first, on_node, read_on, read, IsTaken}

-- lists

pub fields_length : (js : List ℕ) (xs : List Term) → length xs ≡ length js → length (fields js xs) ≡ length js
fields_length [] xs e = refl
fields_length (j ∷ js) [] e = absurd (omega (arith, e))
fields_length (j ∷ js) (x ∷ xs) e = ap suc (fields_length js xs (omega (arith, e)))

-- the node of a value

in_shape : (S : List Shape) (x : Field) (o : Option Shape) → slice_get S x.place ≡ o → node_of S x ≡ if_some o (λ h. node_in h (head x.value) (args x.value))
in_shape S x o e = ap (λ z. if_some z (λ h. node_in h (head x.value) (args x.value))) e

pub no_shape : (S : List Shape) (x : Field) → slice_get S x.place ≡ None → node_of S x ≡ None
no_shape S x e = in_shape S x None e

in_family : (S : List Shape) (x : Field) (h : Shape) (f : FamilyId) (c : ℕ) (b : Bool) → slice_get S x.place ≡ Some h → Construct f c ≡ head x.value →
    is_family f (head h.ty) ≡ b →
    node_of S x ≡ (if b then if_some (slice_get h.ctors c) (λ k. arguments_of c (length (args h.ty)) (args x.value) k) else None)
in_family S x h f c b e p q =
    in_shape S x (Some h) e ∙ ap (λ t. node_in h t (args x.value)) (sym p)
    ∙ ap (λ b. if b then if_some (slice_get h.ctors c) (λ k. arguments_of c (length (args h.ty)) (args x.value) k) else None) q

pub other_family : (S : List Shape) (x : Field) (h : Shape) (f : FamilyId) (c : ℕ) (t g : Term) (b : Bool) → slice_get S x.place ≡ Some h → Construct f c ≡ t →
    t ≡ head x.value → g ≡ head h.ty → b ≡ is_family f g → b ≡ false → node_of S x ≡ None
other_family S x h f c t g b e p p' r q z = in_family S x h f c false e (p ∙ p') (ap (is_family f) (sym r) ∙ sym q ∙ z)

in_constructor : (S : List Shape) (x : Field) (h : Shape) (f : FamilyId) (c : ℕ) (t g : Term) (b : Bool) (o : Option ShapeCtor) → slice_get S x.place ≡ Some h →
    Construct f c ≡ t → t ≡ head x.value → g ≡ head h.ty → b ≡ is_family f g → b ≡ true → slice_get h.ctors c ≡ o →
    node_of S x ≡ if_some o (λ k. arguments_of c (length (args h.ty)) (args x.value) k)
in_constructor S x h f c t g b o e p p' r q z s =
    in_family S x h f c true e (p ∙ p') (ap (is_family f) (sym r) ∙ sym q ∙ z)
    ∙ ap (λ y. if_some y (λ k. arguments_of c (length (args h.ty)) (args x.value) k)) s

pub no_constructor : (S : List Shape) (x : Field) (h : Shape) (f : FamilyId) (c : ℕ) (t g : Term) (b : Bool) → slice_get S x.place ≡ Some h →
    Construct f c ≡ t → t ≡ head x.value → g ≡ head h.ty → b ≡ is_family f g → b ≡ true → slice_get h.ctors c ≡ None → node_of S x ≡ None
no_constructor S x h f c t g b e p p' r q z s = in_constructor S x h f c t g b None e p p' r q z s

pub miscounted : (S : List Shape) (x : Field) (h : Shape) (f : FamilyId) (c : ℕ) (t g : Term) (b : Bool) (k : ShapeCtor) (xs ps : List Term) → slice_get S x.place ≡ Some h →
    Construct f c ≡ t → t ≡ head x.value → g ≡ head h.ty → b ≡ is_family f g → b ≡ true → slice_get h.ctors c ≡ Some k → xs ≡ args x.value → ps ≡ args h.ty →
    (length xs ≡ length ps + length k.args → ⊥) → node_of S x ≡ None
miscounted S x h f c t g b k xs ps e p p' r q z s u v n =
    in_constructor S x h f c t g b (Some k) e p p' r q z s
    ∙ ap (λ b. if b then Some (c, fields k.args (drop (length (args h.ty)) (args x.value))) else None)
    (not_true (length (args x.value) == length (args h.ty) + length k.args)
    (λ y. n (ap length u ∙ eqb-true (length (args x.value)) (length (args h.ty) + length k.args) y ∙ ap (λ a. length a + length k.args) (sym v))))

pub is_taken : (S : List Shape) (x : Field) (h : Shape) (f : FamilyId) (c : ℕ) (t g : Term) (b : Bool) (k : ShapeCtor) (xs ps : List Term) (n before : ℕ) (old new : List Field) →
    slice_get S x.place ≡ Some h → Construct f c ≡ t → t ≡ head x.value → g ≡ head h.ty → b ≡ is_family f g → b ≡ true → slice_get h.ctors c ≡ Some k →
    xs ≡ args x.value → ps ≡ args h.ty → length xs ≡ length ps + length k.args → n ≡ length k.args → before ≡ length ps → reverse new ≡ fields k.args (drop before xs) ++ reverse old →
    IsTaken (node_of S x) (c, n) old new
is_taken S x h f c t g b k xs ps n before old new e p p' r q z s u v l m y w =
    let here = in_constructor S x h f c t g b (Some k) e p p' r q z s in
    let test : length (args x.value) ≡ length (args h.ty) + length k.args = sym (ap length u) ∙ l ∙ ap (λ a. length a + length k.args) v in
    let found = ap (λ b. if b then Some (c, fields k.args (drop (length (args h.ty)) (args x.value))) else None)
    (eq-eqb (length (args x.value)) (length (args h.ty) + length k.args) test) in
    let same : fields k.args (drop (length (args h.ty)) (args x.value)) ≡ fields k.args (drop (length ps) xs) =
    λ i. fields k.args (drop (length (sym v i)) (sym u i)) in (
      fields k.args (drop (length ps) xs),
      here ∙ found ∙ ap (λ o. Some (c, o)) same,
      m ∙ sym (fields_length k.args (drop (length ps) xs) (drop_long (length ps) (length k.args) xs l)),
      w ∙ ap (λ i. fields k.args (drop i xs) ++ reverse old) y,
    )

-- the data read so far, before the rest
abbrev pub before : List (ℕ × ℕ) → Reading → Reading
before [] r = r
before (p ∷ ps) r = put_first p (before ps r)

before_last : (ps : List (ℕ × ℕ)) (p : ℕ × ℕ) (r : Reading) → before (ps ++ (p ∷ [])) r ≡ before ps (put_first p r)
before_last [] p r = refl
before_last (q ∷ ps) p r = ap (put_first q) (before_last ps p r)

before_read : (ps ds : List (ℕ × ℕ)) → before ps (Read ds) ≡ Read (ps ++ ds)
before_read [] ds = refl
before_read (p ∷ ps) ds = ap (put_first p) (before_read ps ds)

before_not : (ps : List (ℕ × ℕ)) (k : ℕ) → before ps (NotAt k) ≡ NotAt k
before_not [] k = refl
before_not (p ∷ ps) k = ap (put_first p) (before_not ps k)

before_many : (ps : List (ℕ × ℕ)) → before ps TooMany ≡ TooMany
before_many [] = refl
before_many (p ∷ ps) = ap (put_first p) (before_many ps)

-- the whole reading is what has been read before what waits
abbrev pub Reads : List Shape → Reading → List (ℕ × ℕ) → List Field → Type 0
Reads S whole ps waiting = whole ≡ before ps (read_on S (4000000 - length ps) (reverse waiting) (length ps))

pub read_none : (S : List Shape) (n k : ℕ) → read_on S n [] k ≡ Read []
unfolding read_on
read_none S zero k = refl
read_none S (suc n) k = refl

pub read_past : (S : List Shape) (n k : ℕ) (x : Field) (xs : List Field) → n ≡ 0 → read_on S n (x ∷ xs) k ≡ TooMany
unfolding read_on
read_past S zero k x xs e = refl
read_past S (suc n) k x xs e = absurd (omega (arith, e))

pub read_next : (S : List Shape) (n m k : ℕ) (x : Field) (xs : List Field) → n ≡ suc m → read_on S n (x ∷ xs) k ≡ on_node (node_of S x) k (λ b. read_on S m (b.1 ++ xs) (suc k))
unfolding read_on
read_next S zero m k x xs e = absurd (omega (arith, e))
read_next S (suc n) m k x xs e =
    let p : n ≡ m = omega (arith, e) in ap (λ z. on_node (node_of S x) k (λ b. read_on S z (b.1 ++ xs) (suc k))) p

popped : (ws vs : List Field) (x : Field) → ws ≡ vs ++ (x ∷ []) → reverse ws ≡ x ∷ reverse vs
popped ws vs x e = ap reverse e ∙ reverse-append vs (x ∷ [])

pub reads_end : (S : List Shape) (whole : Reading) (ps : List (ℕ × ℕ)) (ws : List Field) → Reads S whole ps ws → ws ≡ [] → whole ≡ Read ps
reads_end S whole ps ws h e =
    h ∙ ap (λ z. before ps (read_on S (4000000 - length ps) (reverse z) (length ps))) e ∙ ap (before ps) (read_none S (4000000 - length ps) (length ps))
    ∙ before_read ps [] ∙ ap Read (append-nil ps)

pub reads_many : (S : List Shape) (whole : Reading) (ps : List (ℕ × ℕ)) (ws vs : List Field) (x : Field) → Reads S whole ps ws → ws ≡ vs ++ (x ∷ []) →
    length ps ≡ 4000000 → whole ≡ TooMany
reads_many S whole ps ws vs x h e l =
    let z : 4000000 - length ps ≡ 0 = omega (arith, l) in
    h ∙ ap (λ y. before ps (read_on S (4000000 - length ps) y (length ps))) (popped ws vs x e)
    ∙ ap (before ps) (read_past S (4000000 - length ps) (length ps) x (reverse vs) z) ∙ before_many ps

pub reads_not : (S : List Shape) (whole : Reading) (ps : List (ℕ × ℕ)) (ws vs : List Field) (x : Field) → Reads S whole ps ws → ws ≡ vs ++ (x ∷ []) →
    length ps < 4000000 → node_of S x ≡ None → whole ≡ NotAt (length ps)
reads_not S whole ps ws vs x h e l n =
    let z : 4000000 - length ps ≡ suc (4000000 - length ps - 1) = omega (arith, l) in
    h ∙ ap (λ y. before ps (read_on S (4000000 - length ps) y (length ps))) (popped ws vs x e)
    ∙ ap (before ps) (read_next S (4000000 - length ps) (4000000 - length ps - 1) (length ps) x (reverse vs) z
    ∙ ap (λ o. on_node o (length ps) (λ b. read_on S (4000000 - length ps - 1) (b.1 ++ reverse vs) (suc (length ps)))) n)
    ∙ before_not ps (length ps)

pub reads_next : (S : List Shape) (whole : Reading) (ps qs : List (ℕ × ℕ)) (ws vs us : List Field) (x : Field) (p : ℕ × ℕ) → Reads S whole ps ws → ws ≡ vs ++ (x ∷ []) →
    length ps < 4000000 → IsTaken (node_of S x) p vs us → qs ≡ ps ++ (p ∷ []) → Reads S whole qs us
reads_next S whole ps qs ws vs us x p h e l t q =
    let z : 4000000 - length ps ≡ suc (4000000 - length ps - 1) = omega (arith, l) in
    let m : length qs ≡ suc (length ps) = ap length q ∙ length-append ps (p ∷ []) ∙ (let o : length ps + 1 ≡ suc (length ps) = omega arith in o) in
    let k : 4000000 - length ps - 1 ≡ 4000000 - length qs = omega (arith, m) in
    let w : put_first (p.0, length t.0) (read_on S (4000000 - length ps - 1) (t.0 ++ reverse vs) (suc (length ps)))
    ≡ put_first p (read_on S (4000000 - length qs) (reverse us) (length qs)) =
    λ i. put_first (p.0, sym t.2 i) (read_on S (k i) (sym t.3 i) (sym m i)) in
    h ∙ ap (λ y. before ps (read_on S (4000000 - length ps) y (length ps))) (popped ws vs x e)
    ∙ ap (before ps) (read_next S (4000000 - length ps) (4000000 - length ps - 1) (length ps) x (reverse vs) z
    ∙ ap (λ o. on_node o (length ps) (λ b. read_on S (4000000 - length ps - 1) (b.1 ++ reverse vs) (suc (length ps)))) t.1 ∙ w)
    ∙ sym (before_last ps p (read_on S (4000000 - length qs) (reverse us) (length qs)))
    ∙ ap (λ y. before y (read_on S (4000000 - length qs) (reverse us) (length qs))) (sym q)

pub reads_start : (S : List Shape) (v w : Term) (x : Field) (ws : List Field) (ps : List (ℕ × ℕ)) (none : List Field) → none ≡ [] → ws ≡ none ++ (x ∷ []) → x ≡ field 0 w →
    w ≡ v → ps ≡ [] → Reads S (read S v) ps ws
reads_start S v w x ws ps none z e f g p =
    let q : ws ≡ field 0 v ∷ [] = e ∙ ap (λ l. l ++ (x ∷ [])) z ∙ ap (λ y. y ∷ []) (f ∙ ap (field 0) g) in
    sym (λ i. before (p i) (read_on S (4000000 - length (p i)) (reverse (q i)) (length (p i))))

-- what is read is one tree

pub put_read : (p : ℕ × ℕ) (r : Reading) (ds : List (ℕ × ℕ)) → put_first p r ≡ Read ds → (es : List (ℕ × ℕ)) × (ds ≡ p ∷ es) × (r ≡ Read es)
put_read p (Read es) ds e = let q : p ∷ es ≡ ds = cc in (es, sym q, refl)
put_read p (NotAt k) ds e = absurd (cc)
put_read p TooMany ds e = absurd (cc)

read_nothing : (ds : List (ℕ × ℕ)) → Read [] ≡ Read ds → IsForest 0 ds
read_nothing [] e = tt
read_nothing (d ∷ ds) e = absurd (cc)

forest_node : (k : ℕ) (xs : List Field) (go : Taken → Reading) → ((b : Taken) (es : List (ℕ × ℕ)) → go b ≡ Read es → IsForest (length (b.1 ++ xs)) es) →
    (o : Option Taken) (ds : List (ℕ × ℕ)) → on_node o k go ≡ Read ds → IsForest (suc (length xs)) ds
forest_node k xs go h None ds e = absurd (cc)
forest_node k xs go h (Some b) ds e =
    let p = put_read (b.0, length b.1) (go b) ds e in
    let f = h b p.0 p.2 in
    along (λ y. IsForest (suc (length xs)) y) (sym p.1) (along (λ n. IsForest n p.0) (length-append b.1 xs) f)

forest_none : (S : List Shape) (n k : ℕ) (ds : List (ℕ × ℕ)) → read_on S n [] k ≡ Read ds → IsForest 0 ds
forest_none S n k ds e = read_nothing ds (sym (read_none S n k) ∙ e)

pub many_read : (ds : List (ℕ × ℕ)) → TooMany ≡ Read ds → ⊥
many_read ds e = absurd (cc)

forest : (S : List Shape) (n k : ℕ) (xs : List Field) (ds : List (ℕ × ℕ)) → read_on S n xs k ≡ Read ds → IsForest (length xs) ds
forest S zero k [] ds e = forest_none S zero k ds e
forest S zero k (x ∷ xs) ds e = absurd (let f = sym (read_past S zero k x xs refl) ∙ e in many_read ds f)
forest S (suc n) k [] ds e = forest_none S (suc n) k ds e
forest S (suc n) k (x ∷ xs) ds e =
    forest_node k xs (λ b. read_on S n (b.1 ++ xs) (suc k)) (λ b es h. forest S n (suc k) (b.1 ++ xs) es h) (node_of S x) ds
    (sym (read_next S (suc n) n k x xs refl) ∙ e)

pub is_tree : (S : List Shape) (v : Term) (ps : List (ℕ × ℕ)) → read S v ≡ Read ps → IsTree ps
is_tree S v ps e = forest S 4000000 0 (field 0 v ∷ []) ps e

pub few_next : (ps qs : List (ℕ × ℕ)) (p : ℕ × ℕ) → qs ≡ ps ++ (p ∷ []) → length ps < 4000000 → length qs ≤ 4000000
few_next ps qs p q l = let m = ap length q ∙ length-append ps (p ∷ []) in omega (arith, m, l)
