-- In the reading of a value that is data of its type no node is met that doesn't fit, however many there are.
use Rattle.std.proofs.Common.{◌≡◌, ◌∙◌, ℕ, zero, suc, ◌+◌, if◌then◌else◌, List, [], ◌∷◌, ◌++◌, length, map, drop, Some, None, option_map, slice_get, refl, sym, ap, arith, length-append}
use Rattle.std.proofs.lemmas.Bool.{eq-eqb}
use Rattle.std.proofs.lemmas.Option.{slice_get-map}
use Rattle.pc_terms.specs.Syntax.{Term, Ind, Construct, head, args}
use Rattle.calculus_rules.specs.Environment.{Env}
use Rattle.calculus_rules.specs.Accepted.{IsAccepted}
use Rattle.calculus_rules.specs.Step.{IsConstructor, is_constructor}
use Rattle.calculus_rules.specs.FirstOrder.{Shape as Member, shape_type, IsMember, IsFirstOrder, Data, Reads, reads, ReadsAll, no_field, field as field_read}
use Rattle.calculus_rules.specs.Lookups.{if_some}
use Rattle.calculus_rules.proofs.OneEach.{one_of_each}
use Rattle.pc_rules.proofs.SameTrees.{one_family}
use Rattle.calculus_rules.proofs.Spines.{head-apply, args-apply, drop_past}
use Rattle.first_order.specs.declared.shapes.Shape.{Shape}
use Rattle.first_order.specs.Reading.{Reading, Read, NotAt, TooMany, field, fields, is_family, arguments_of, node_in, node_of, put_first, on_node, read_on, plain_ctor, plain_type, reading}
use Rattle.first_order.proofs.NodeByNode.{read_none, read_past, read_next}
use Rattle.first_order.proofs.AllRead.{all_long}

read_not : {ds : List (ℕ × ℕ)} {k : ℕ} → Read ds ≡ NotAt k → ⊥
read_not e = absurd (cc)

many_not : {k : ℕ} → TooMany ≡ NotAt k → ⊥
many_not e = absurd (cc)

behind_first : (p : ℕ × ℕ) (r : Reading) {j : ℕ} → put_first p r ≡ NotAt j → r ≡ NotAt j
behind_first p (Read ds) e = absurd (cc)
behind_first p (NotAt k) e = e
behind_first p TooMany e = absurd (cc)

joined_fields : (js is : List ℕ) (ys xs : List Term) → length ys ≡ length js → fields (js ++ is) (ys ++ xs) ≡ fields js ys ++ fields is xs
joined_fields [] is [] xs l = refl
joined_fields [] is (y ∷ ys) xs l = absurd (omega arith)
joined_fields (j ∷ js) is [] xs l = absurd (omega arith)
joined_fields (j ∷ js) is (y ∷ ys) xs l = ap (λ fs. field j y ∷ fs) (joined_fields js is ys xs (omega arith))

module _ (E : Env) (S : List Member) where
  both : {js ks : List ℕ} {xs ys : List Term} {ds es : Data} → ReadsAll E S js xs ds → ReadsAll E S ks ys es → (fs : Data) × ReadsAll E S (js ++ ks) (xs ++ ys) fs
  both {es = es} no_field q = (es, q)
  both (field_read {d = d} r rs) q = let (fs, t) = both rs q in (d ++ fs, field_read r t)

  module _ (a : IsAccepted E) (all : (j : ℕ) (h : Member) → slice_get S j ≡ Some h → IsMember E S h) where
    abbrev types : List Shape
    types = map plain_type S

    -- the arguments of a constructor of the type, behind as many parameters as the type has
    taken : (h : Member) (c : ℕ) (js : List ℕ) (qs xs : List Term) → slice_get h.constructors c ≡ Some js → length (args (shape_type h)) ≡ length qs → length xs ≡ length js →
        node_in (plain_type h) (Construct h.family c) (qs ++ xs) ≡ Some (c, fields js xs)
    taken h c js qs xs t e l =
        let n = length (args (shape_type h)) in
        ap (λ g. if is_family h.family g then if_some (slice_get (map plain_ctor h.constructors) c) (λ k. arguments_of c n (qs ++ xs) k) else None) (head-apply (Ind h.family) h.parameters)
        ∙ ap (λ b. if b then if_some (slice_get (map plain_ctor h.constructors) c) (λ k. arguments_of c n (qs ++ xs) k) else None) (one_family h.family)
        ∙ ap (λ o. if_some o (λ k. arguments_of c n (qs ++ xs) k)) (slice_get-map plain_ctor h.constructors c ∙ ap (option_map plain_ctor) t)
        ∙ ap (λ b. if b then Some (c, fields js (drop n (qs ++ xs))) else None) (eq-eqb (length (qs ++ xs)) (n + length js) (length-append qs xs ∙ (λ i. sym e i + l i)))
        ∙ ap (λ k. Some (c, fields js (drop k (qs ++ xs)))) e ∙ ap (λ ys. Some (c, fields js ys)) (drop_past qs xs)

    node_known : (i : ℕ) (v : Term) (h : Member) (c : ℕ) (js : List ℕ) (qs xs : List Term) → slice_get S i ≡ Some h → slice_get h.constructors c ≡ Some js →
        IsConstructor E h.family c v qs xs → length xs ≡ length js → node_of types (field i v) ≡ Some (c, fields js xs)
    node_known i v h c js qs xs s t (is_constructor {F = F} k at p q e) l =
        let m = all i h s in
        let one = (one_of_each E a).families h.family m.declared F m.kept k in
        ap (λ o. if_some o (λ h. node_in h (head v) (args v))) (slice_get-map plain_type S i ∙ ap (option_map plain_type) s)
        ∙ ap (λ v. node_in (plain_type h) (head v) (args v)) e
        ∙ (λ i. node_in (plain_type h) (head-apply (Construct h.family c) (qs ++ xs) i) (args-apply (Construct h.family c) (qs ++ xs) i))
        ∙ taken h c js qs xs t (ap length (args-apply (Ind h.family) h.parameters) ∙ m.parameters ∙ ap (λ F. length F.parameters) one ∙ sym p) l

    fits_on : (n k j : ℕ) {js : List ℕ} {xs : List Term} {ds : Data} → ReadsAll E S js xs ds → read_on types n (fields js xs) k ≡ NotAt j → ⊥
    fits_on n k j no_field e = read_not (sym (read_none types n k) ∙ e)
    fits_on zero k j (field_read {j = i} {js = is} {x = x} {xs = xs} r q) e = many_not (sym (read_past types zero k (field i x) (fields is xs) refl) ∙ e)
    fits_on (suc n) k j (field_read {j = i} {js = is} {x = x} {xs = xs} (reads {c = c} {h = h} {js = js} {qs = qs} {xs = ys} s t b rs) q) e =
        let long = all_long E S rs in
        let next = behind_first (c, length (fields js ys)) _
        (sym (ap (λ o. on_node o k (λ b. read_on types n (b.1 ++ fields is xs) (suc k))) (node_known i x h c js qs ys s t b long))
        ∙ sym (read_next types (suc n) n k (field i x) (fields is xs) refl) ∙ e) in
        fits_on n (suc k) j (both rs q).1 (ap (λ fs. read_on types n fs (suc k)) (joined_fields js is ys xs long) ∙ next)

pub data_fits : (E : Env) → IsAccepted E → (T : Term) (S : List Member) (v : Term) (ds : Data) (k : ℕ) → IsFirstOrder E T S → Reads E S 0 v ds → reading S v ≡ NotAt k → ⊥
data_fits E a T S v ds k f r e = fits_on E S a f.members 4000000 0 k (field_read r no_field) e
