-- Data has one text, by one naming; and first-order sets with the same members, whose constructors have the names of one environment, name alike.
use Rattle.std.proofs.Common.{◌≡◌, ℕ, zero, suc, List, [], ◌∷◌, ◌++◌, append_assoc, Option, Some, refl, sym, ap, subst, ◌∙◌}
use Rattle.calculus_rules.specs.Environment.{Env}
use Rattle.calculus_rules.specs.FirstOrder.{Data}
use Rattle.calculus_rules.specs.Laws.{OneEach}
use Rattle.calculus_rules.proofs.Spines.{one_item}
use Rattle.calculus_rules.proofs.Listing.{first_same}
use Rattle.first_order.specs.declared.shapes.Shape.{Shape}
use Rattle.first_order.specs.Searching.{AreNamed, members}
use Rattle.first_order.specs.Texts.{Naming, IsText, alone, with_arguments, AreTexts, no_text, one_text, by_shapes}
use Rattle.driver.proofs.OneNames.{shapes_alike}

-- a node's name and the places of its arguments
abbrev called : (name js : List ℕ) → Option (List ℕ × List ℕ)
called name js = Some (name, js)

name_is : (a b js ks : List ℕ) → called a js ≡ called b ks → a ≡ b
name_is a b js ks e = ap (λ p. p.0) (one_item e)

places_are : (a b js ks : List ℕ) → called a js ≡ called b ks → js ≡ ks
places_are a b js ks e = ap (λ p. p.1) (one_item e)

-- a node before data
abbrev node : (c n : ℕ) → Data → Data
node c n ds = (c, n) ∷ ds

ctor_same : (c n d m : ℕ) (ds es : Data) → node c n ds ≡ node d m es → c ≡ d
ctor_same c n d m ds es e = ap (λ p. p.0) (first_same {A = ℕ × ℕ} {x = (c, n)} {y = (d, m)} e)

count_same : (c n d m : ℕ) (ds es : Data) → node c n ds ≡ node d m es → n ≡ m
count_same c n d m ds es e = ap (λ p. p.1) (first_same {A = ℕ × ℕ} {x = (c, n)} {y = (d, m)} e)

rest_same : (c n d m : ℕ) (ds es : Data) → node c n ds ≡ node d m es → ds ≡ es
rest_same c n d m ds es e = cc

-- ---- data

-- the text of a node with its arguments' texts
abbrev node_text : ℕ → (name ts : List ℕ) → List ℕ
node_text zero name ts = name
node_text (suc n) name ts = 40 ∷ (name ++ (ts ++ (41 ∷ [])))

module _ (N : Naming) where
  record IsNode (i : ℕ) (d : Data) (t : List ℕ) : Type 0 where
    c : ℕ
    n : ℕ
    name : List ℕ
    js : List ℕ
    ds : Data
    ts : List ℕ
    named : N i (c, n) ≡ called name js
    data_is : d ≡ node c n ds
    are : AreTexts N js ds ts
    text_is : t ≡ node_text n name ts

  node_of : {i : ℕ} {d : Data} {t : List ℕ} → IsText N i d t → IsNode i d t
  node_of (alone {i} {c} {name} h) = record { c = c; n = 0; name = name; js = []; ds = []; ts = []; named = h; data_is = refl; are = no_text; text_is = refl }
  node_of (with_arguments {i} {c} {n} {name} {ts} {js} {ds} h k) = record { c = c; n = suc n; name = name; js = js; ds = ds; ts = ts; named = h; data_is = refl; are = k; text_is = refl }

  record AreMore (j : ℕ) (js : List ℕ) (ds : Data) (ts : List ℕ) : Type 0 where
    d : Data
    more : Data
    t : List ℕ
    us : List ℕ
    first : IsText N j d t
    others : AreTexts N js more us
    data_is : ds ≡ d ++ more
    text_is : ts ≡ 32 ∷ (t ++ us)

  more_of : {j : ℕ} {js : List ℕ} {ds : Data} {ts : List ℕ} → AreTexts N (j ∷ js) ds ts → AreMore j js ds ts
  more_of (one_text {j} {js} {d} {ds} {t} {ts} h k) = record { d = d; more = ds; t = t; us = ts; first = h; others = k; data_is = refl; text_is = refl }

  none_of : {ds : Data} {ts : List ℕ} → AreTexts N [] ds ts → (ds ≡ []) × (ts ≡ [])
  none_of no_text = (refl, refl)

  -- two beginnings of one list are the same, with their texts and what is left
  abbrev Alike : (d e rest others : Data) (t u : List ℕ) → Type 0
  Alike d e rest others t u = (d ≡ e) × (t ≡ u) × (rest ≡ others)

  -- where the arguments of a node are
  node_alike : (i c n : ℕ) (name js : List ℕ) (ds e rest others : Data) (ts u : List ℕ) → N i (c, n) ≡ called name js → IsNode i e u → node c n ds ++ rest ≡ e ++ others →
      ((fs : Data) (us : List ℕ) → AreTexts N js fs us → ds ++ rest ≡ fs ++ others → Alike ds fs rest others ts us) → Alike (node c n ds) e rest others (node_text n name ts) u
  node_alike i c n name js ds e rest others ts u named x same arguments =
      let whole : node c n (ds ++ rest) ≡ node x.c x.n (x.ds ++ others) = same ∙ ap (λ z. z ++ others) x.data_is in
      let ctor = ctor_same c n x.c x.n (ds ++ rest) (x.ds ++ others) whole in
      let count = count_same c n x.c x.n (ds ++ rest) (x.ds ++ others) whole in
      let both : called name js ≡ called x.name x.js = sym named ∙ (λ k. N i (ctor k, count k)) ∙ x.named in
      let name_same = name_is name x.name js x.js both in
      let r = arguments x.ds x.ts (subst (λ z. AreTexts N z x.ds x.ts) (sym (places_are name x.name js x.js both)) x.are) (rest_same c n x.c x.n (ds ++ rest) (x.ds ++ others) whole) in (
        (λ k. node (ctor k) (count k) (r.0 k)) ∙ sym x.data_is,
        (λ k. node_text (count k) (name_same k) (r.1 k)) ∙ sym x.text_is,
        r.2,
      )

  mutual
    text_alike : {i : ℕ} {d : Data} {t : List ℕ} → IsText N i d t → (e rest others : Data) (u : List ℕ) → IsText N i e u → d ++ rest ≡ e ++ others → Alike d e rest others t u
    text_alike (alone {i} {c} {name} h) e rest others u k same =
        node_alike i c 0 name [] [] e rest others [] u h (node_of k) same (λ fs us a tail. let z = none_of a in (sym z.0, sym z.1, tail ∙ ap (λ y. y ++ others) z.0))
    text_alike (with_arguments {i} {c} {n} {name} {ts} {js} {ds} h k) e rest others u l same =
        node_alike i c (suc n) name js ds e rest others ts u h (node_of l) same (λ fs us a tail. texts_alike k fs rest others us a tail)

    texts_alike : {js : List ℕ} {ds : Data} {ts : List ℕ} → AreTexts N js ds ts → (fs rest others : Data) (us : List ℕ) → AreTexts N js fs us → ds ++ rest ≡ fs ++ others → Alike ds fs rest others ts us
    texts_alike no_text fs rest others us a same = (let z = none_of a in (sym z.0, sym z.1, same ∙ ap (λ y. y ++ others) z.0))
    texts_alike (one_text {j} {js} {d} {ds} {t} {ts} h k) fs rest others us a same =
        let m = more_of a in
        let whole : d ++ (ds ++ rest) ≡ m.d ++ (m.more ++ others) = sym (append_assoc d ds rest) ∙ same ∙ ap (λ z. z ++ others) m.data_is ∙ append_assoc m.d m.more others in
        let p = text_alike h m.d (ds ++ rest) (m.more ++ others) m.t m.first whole in
        let q = texts_alike k m.more rest others m.us m.others p.2 in
        ((λ i. p.0 i ++ q.0 i) ∙ sym m.data_is, (λ i. 32 ∷ (p.1 i ++ q.1 i)) ∙ sym m.text_is, q.2)

  pub text_is_one : (ds : Data) (t u : List ℕ) → IsText N 0 ds t → IsText N 0 ds u → t ≡ u
  text_is_one ds t u h k = (text_alike h ds [] [] u k refl).1

-- ---- names

module _ (E : Env) (one : OneEach E) where
  pub names_alike : (S R : List Shape) (names : List (List ℕ)) → AreNamed E S → AreNamed E R → members S ≡ members R → by_shapes S names ≡ by_shapes R names
  names_alike S R names s r e = ap (λ T. by_shapes T names) (shapes_alike E one S R s r e)
