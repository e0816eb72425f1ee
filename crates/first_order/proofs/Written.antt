-- What is written of data, node by node, is its text.
use Rattle.std.proofs.Common.{◌≡◌, ◌∙◌, ℕ, zero, suc, ◌+◌, List, [], ◌∷◌, ◌++◌, length, reverse, Option, Some, None, refl, sym, ap, subst as along, arith, length-append, append_assoc, append-nil}
use Rattle.std.specs.Prelude.{replicate}
use Rattle.std.proofs.lemmas.List.{reverse-append, length-reverse}
use Rattle.calculus_rules.specs.FirstOrder.{Data}
use Rattle.data_trees.specs.Preorder.{IsForest}
use Rattle.first_order.specs.declared.texts.Slot.{Slot}
use Rattle.first_order.specs.Texts.{Naming, IsText, alone, with_arguments, AreTexts, no_text, one_text, slot, slots, blank, piece, Writing, Written, NotOf, NoTree, before, on_name, write_on, write}

-- ---- one node at a time

pub written_node : (N : Naming) (s : Slot) (ss : List Slot) (d : ℕ × ℕ) (ds : Data) (k : ℕ) →
    write_on N (s ∷ ss) (d ∷ ds) k ≡ on_name (N s.place d) k (λ e. before (piece k e.0 d.1 s.closes) (write_on N (slots e.1 s.closes ++ ss) ds (suc k)))
unfolding write_on
written_node N s ss d ds k = refl

pub nothing_written : (N : Naming) (k : ℕ) → write_on N [] [] k ≡ Written []
unfolding write_on
nothing_written N k = refl

too_few : (N : Naming) (d : ℕ × ℕ) (ds : Data) (k : ℕ) → write_on N [] (d ∷ ds) k ≡ NoTree
unfolding write_on
too_few N d ds k = refl

pub too_many : (N : Naming) (s : Slot) (ss : List Slot) (k : ℕ) → write_on N (s ∷ ss) [] k ≡ NoTree
unfolding write_on
too_many N s ss k = refl

pub before_both : (t u : List ℕ) (w : Writing) → before t (before u w) ≡ before (t ++ u) w
before_both t u (Written v) = ap Written (sym (append_assoc t u v))
before_both t u (NotOf k) = refl
before_both t u NoTree = refl

before_nothing : (w : Writing) → w ≡ before [] w
before_nothing (Written v) = refl
before_nothing (NotOf k) = refl
before_nothing NoTree = refl

-- the whole is what has been written before what waits
abbrev pub Writes : Naming → Writing → List ℕ → List Slot → Data → ℕ → Type 0
Writes N whole t ws ds k = whole ≡ before t (write_on N (reverse ws) ds k)

pub writes_start : (N : Naming) (ds : Data) (ws none : List Slot) (t : List ℕ) → none ≡ [] → t ≡ [] → ws ≡ none ++ (slot 0 0 ∷ []) → Writes N (write N ds) t ws ds 0
writes_start N ds ws none t z p e =
    let q : ws ≡ slot 0 0 ∷ [] = e ∙ ap (λ l. l ++ (slot 0 0 ∷ [])) z in
    before_nothing (write N ds) ∙ sym (λ i. before (p i) (write_on N (reverse (q i)) ds 0))

popped : (ws vs : List Slot) (s : Slot) → ws ≡ vs ++ (s ∷ []) → reverse ws ≡ s ∷ reverse vs
popped ws vs s e = ap reverse e ∙ reverse-append vs (s ∷ [])

module _ (N : Naming) (whole : Writing) (t : List ℕ) (ws vs : List Slot) (s : Slot) (d : ℕ × ℕ) (ds es : Data) (k : ℕ)
    (h : Writes N whole t ws ds k) (p : ws ≡ vs ++ (s ∷ [])) (q : ds ≡ d ∷ es) where
  here : whole ≡ before t (on_name (N s.place d) k (λ e. before (piece k e.0 d.1 s.closes) (write_on N (slots e.1 s.closes ++ reverse vs) es (suc k))))
  here = h ∙ (λ i. before t (write_on N (popped ws vs s p i) (q i) k)) ∙ ap (before t) (written_node N s (reverse vs) d es k)

  pub writes_not : N s.place d ≡ None → whole ≡ NotOf k
  writes_not n = here ∙ ap (λ o. before t (on_name o k (λ e. before (piece k e.0 d.1 s.closes) (write_on N (slots e.1 s.closes ++ reverse vs) es (suc k))))) n

  pub writes_next : (e : List ℕ × List ℕ) (u : List ℕ) (us : List Slot) → N s.place d ≡ Some e → u ≡ t ++ piece k e.0 d.1 s.closes →
      reverse us ≡ slots e.1 s.closes ++ reverse vs → (j : ℕ) → j ≡ suc k → Writes N whole u us es j
  writes_next e u us n x y j l =
      here ∙ ap (λ o. before t (on_name o k (λ e. before (piece k e.0 d.1 s.closes) (write_on N (slots e.1 s.closes ++ reverse vs) es (suc k))))) n
      ∙ before_both t (piece k e.0 d.1 s.closes) (write_on N (slots e.1 s.closes ++ reverse vs) es (suc k))
      ∙ sym (λ i. before (x i) (write_on N (y i) es (l i)))

none_wait : (ws : List Slot) → IsForest (length ws) [] → ws ≡ []
none_wait [] f = refl
none_wait (w ∷ ws) f = absurd f

pub writes_end : (N : Naming) (whole : Writing) (t : List ℕ) (ws : List Slot) (ds : Data) (k : ℕ) → Writes N whole t ws ds k → ds ≡ [] → IsForest (length ws) ds → whole ≡ Written t
writes_end N whole t ws ds k h e f =
    let z = none_wait ws (along (IsForest (length ws)) e f) in
    h ∙ (λ i. before t (write_on N (reverse (z i)) (e i) k)) ∙ ap (before t) (nothing_written N k) ∙ ap Written (append-nil t)

-- ---- trees wait for the nodes

slots_long : (js : List ℕ) (c : ℕ) → length (slots js c) ≡ length js
slots_long [] c = refl
slots_long (j ∷ js) c = ap suc (slots_long js c)

pub forest_next : (ws vs us : List Slot) (s : Slot) (d : ℕ × ℕ) (ds es : Data) (js : List ℕ) → ws ≡ vs ++ (s ∷ []) → ds ≡ d ∷ es → IsForest (length ws) ds → length js ≡ d.1 →
    reverse us ≡ slots js s.closes ++ reverse vs → IsForest (length us) es
forest_next ws vs us s d ds es js p q f l y =
    let many : length ws ≡ suc (length vs) = ap length p ∙ length-append vs (s ∷ []) ∙ (let o : length vs + 1 ≡ suc (length vs) = omega arith in o) in
    let next : IsForest (d.1 + length vs) es = along (λ n. IsForest n (d ∷ es)) many (along (λ x. IsForest (length ws) x) q f) in
    let count : d.1 + length vs ≡ length us =
    (let a = length-reverse us in let b = length-reverse vs in let c = slots_long js s.closes in let e = ap length y ∙ length-append (slots js s.closes) (reverse vs) in omega (arith, a, b, c, e, l)) in
    along (λ n. IsForest n es) count next

pub some_waits : (ws : List Slot) (d : ℕ × ℕ) (ds es : Data) → ds ≡ d ∷ es → IsForest (length ws) ds → ws ≡ [] → ⊥
some_waits ws d ds es q f e = along (λ x. IsForest (length x) (d ∷ es)) e (along (IsForest (length ws)) q f)

-- ---- what is written is the text

-- the naming gives a node as many places as it has arguments
abbrev pub IsCounted : Naming → Type 0
IsCounted N = (i : ℕ) (d : ℕ × ℕ) (e : List ℕ × List ℕ) → N i d ≡ Some e → length e.1 ≡ d.1

-- the texts of trees that wait, with the brackets that are closed behind each
abbrev AreRest : Naming → List Slot → Data → List ℕ → Type 0
AreRest N [] ds t = (ds ≡ []) × (t ≡ [])
AreRest N (s ∷ ss) ds t =
    (d : Data) × (es : Data) × (u : List ℕ) × (v : List ℕ) × (ds ≡ d ++ es) × (t ≡ 32 ∷ (u ++ (replicate s.closes 41 ++ v))) × IsText N s.place d u × AreRest N ss es v

written_inj : (t u : List ℕ) → Written t ≡ Written u → t ≡ u
written_inj t u e = cc

before_written : (t v : List ℕ) (w : Writing) → before t w ≡ Written v → (u : List ℕ) × (w ≡ Written u) × (v ≡ t ++ u)
before_written t v (Written u) e = (u, refl, sym (written_inj (t ++ u) v e))
before_written t v (NotOf k) e = absurd (cc)
before_written t v NoTree e = absurd (cc)

name_written : (o : Option (List ℕ × List ℕ)) (k : ℕ) (go : List ℕ × List ℕ → Writing) (t : List ℕ) → on_name o k go ≡ Written t → (e : List ℕ × List ℕ) × (o ≡ Some e) × (go e ≡ Written t)
name_written None k go t e = absurd (cc)
name_written (Some e) k go t h = (e, refl, h)

-- the texts of a node's arguments, the bracket that is closed behind them, those behind the node, and the rest
record AreApart (N : Naming) (js : List ℕ) (c : ℕ) (ss : List Slot) (ds : Data) (t : List ℕ) : Type 0 where
  own : Data
  others : Data
  texts : List ℕ
  rest : List ℕ
  data_is : ds ≡ own ++ others
  text_is : t ≡ texts ++ (41 ∷ (replicate c 41 ++ rest))
  are : AreTexts N js own texts
  left : AreRest N ss others rest

apart : (N : Naming) (j : ℕ) (js : List ℕ) (c : ℕ) (ss : List Slot) (ds : Data) (t : List ℕ) → AreRest N (slots (j ∷ js) c ++ ss) ds t → AreApart N (j ∷ js) c ss ds t
apart N j [] c ss ds t (d, es, u, v, p, q, is, r) = record {
  own = d ++ [];
  others = es;
  texts = 32 ∷ (u ++ []);
  rest = v;
  data_is = p ∙ ap (λ x. x ++ es) (sym (append-nil d));
  text_is = q ∙ ap (λ x. 32 ∷ (x ++ (41 ∷ (replicate c 41 ++ v)))) (sym (append-nil u));
  are = one_text is no_text;
  left = r;
}
apart N j (k ∷ js) c ss ds t (d, es, u, v, p, q, is, r) =
    let a = apart N k js c ss es v r in
    record {
      own = d ++ a.own;
      others = a.others;
      texts = 32 ∷ (u ++ a.texts);
      rest = a.rest;
      data_is = p ∙ ap (λ x. d ++ x) a.data_is ∙ sym (append_assoc d a.own a.others);
      text_is = q ∙ ap (λ x. 32 ∷ (u ++ x)) a.text_is ∙ ap (λ x. 32 ∷ x) (sym (append_assoc u a.texts (41 ∷ (replicate c 41 ++ a.rest))));
      are = one_text is a.are;
      left = a.left;
    }

-- a node's text, and the rest
record IsHead (N : Naming) (i c : ℕ) (ss : List Slot) (k : ℕ) (name : List ℕ) (d : ℕ × ℕ) (ds : Data) (t : List ℕ) : Type 0 where
  own : Data
  others : Data
  text : List ℕ
  rest : List ℕ
  data_is : d ∷ ds ≡ own ++ others
  text_is : piece k name d.1 c ++ t ≡ blank k ++ (text ++ (replicate c 41 ++ rest))
  is : IsText N i own text
  left : AreRest N ss others rest

headed : (N : Naming) (i c : ℕ) (ss : List Slot) (k : ℕ) (name js : List ℕ) (x n : ℕ) (ds : Data) (t : List ℕ) → N i (x, n) ≡ Some (name, js) → length js ≡ n →
    AreRest N (slots js c ++ ss) ds t → IsHead N i c ss k name (x, n) ds t
headed N i c ss k name [] x zero ds t e l r = record {
  own = (x, 0) ∷ [];
  others = ds;
  text = name;
  rest = t;
  data_is = refl;
  text_is = append_assoc (blank k) (name ++ replicate c 41) t ∙ ap (λ y. blank k ++ y) (append_assoc name (replicate c 41) t);
  is = alone e;
  left = r;
}
headed N i c ss k name [] x (suc n) ds t e l r = absurd (omega (arith, l))
headed N i c ss k name (j ∷ js) x zero ds t e l r = absurd (omega (arith, l))
headed N i c ss k name (j ∷ js) x (suc n) ds t e l r =
    let a = apart N j js c ss ds t r in
    record {
      own = (x, suc n) ∷ a.own;
      others = a.others;
      text = 40 ∷ (name ++ (a.texts ++ (41 ∷ [])));
      rest = a.rest;
      data_is = ap (λ y. (x, suc n) ∷ y) a.data_is;
      text_is = append_assoc (blank k) (40 ∷ name) t
          ∙ ap (λ y. blank k ++ (40 ∷ y))
          (ap (λ y. name ++ y) (a.text_is ∙ sym (append_assoc a.texts (41 ∷ []) (replicate c 41 ++ a.rest))) ∙ sym (append_assoc name (a.texts ++ (41 ∷ [])) (replicate c 41 ++ a.rest)));
      is = with_arguments e a.are;
      left = a.left;
    }

rest_written : (N : Naming) → IsCounted N → (ss : List Slot) (ds : Data) (k : ℕ) (t : List ℕ) → write_on N ss ds (suc k) ≡ Written t → AreRest N ss ds t
rest_written N h [] [] k t e = (refl, sym (written_inj [] t (sym (nothing_written N (suc k)) ∙ e)))
rest_written N h [] (d ∷ ds) k t e = absurd (let f : NoTree ≡ Written t = sym (too_few N d ds (suc k)) ∙ e in cc)
rest_written N h (s ∷ ss) [] k t e = absurd (let f : NoTree ≡ Written t = sym (too_many N s ss (suc k)) ∙ e in cc)
rest_written N h (s ∷ ss) (d ∷ ds) k t e =
    let n = name_written (N s.place d) (suc k) (λ e. before (piece (suc k) e.0 d.1 s.closes) (write_on N (slots e.1 s.closes ++ ss) ds (suc (suc k)))) t (sym (written_node N s ss d ds (suc k)) ∙ e) in
    let b = before_written (piece (suc k) (n.0).0 d.1 s.closes) t (write_on N (slots (n.0).1 s.closes ++ ss) ds (suc (suc k))) n.2 in
    let r = rest_written N h (slots (n.0).1 s.closes ++ ss) ds (suc k) b.0 b.1 in
    let a = headed N s.place s.closes ss (suc k) (n.0).0 (n.0).1 d.0 d.1 ds b.0 n.1 (h s.place d n.0 n.1) r in
    (a.own, a.others, a.text, a.rest, a.data_is, b.2 ∙ a.text_is, a.is, a.left)

first_written : (N : Naming) (ds : Data) (t : List ℕ) (name : List ℕ) (d : ℕ × ℕ) (es : Data) (u : List ℕ) → IsHead N 0 0 [] 0 name d es u → ds ≡ d ∷ es → t ≡ piece 0 name d.1 0 ++ u → IsText N 0 ds t
first_written N ds t name d es u a p q =
    let own : a.own ≡ ds = sym (append-nil a.own) ∙ ap (λ x. a.own ++ x) (sym a.left.0) ∙ sym a.data_is ∙ sym p in
    let text : a.text ≡ t = sym (append-nil a.text) ∙ ap (λ x. a.text ++ x) (sym a.left.1) ∙ sym a.text_is ∙ sym q in
    along (λ x. IsText N 0 x t) own (along (λ x. IsText N 0 a.own x) text a.is)

pub is_text : (N : Naming) → IsCounted N → (ds : Data) (t : List ℕ) → write N ds ≡ Written t → IsText N 0 ds t
is_text N h [] t e = absurd (let f : NoTree ≡ Written t = sym (too_many N (slot 0 0) [] 0) ∙ e in cc)
is_text N h (d ∷ ds) t e =
    let n = name_written (N 0 d) 0 (λ e. before (piece 0 e.0 d.1 0) (write_on N (slots e.1 0 ++ []) ds 1)) t (sym (written_node N (slot 0 0) [] d ds 0) ∙ e) in
    let b = before_written (piece 0 (n.0).0 d.1 0) t (write_on N (slots (n.0).1 0 ++ []) ds 1) n.2 in
    let r = rest_written N h (slots (n.0).1 0 ++ []) ds 0 b.0 b.1 in
    let a = headed N 0 0 [] 0 (n.0).0 (n.0).1 d.0 d.1 ds b.0 n.1 (h 0 d n.0 n.1) r in
    first_written N (d ∷ ds) t (n.0).0 d ds b.0 a refl b.2
