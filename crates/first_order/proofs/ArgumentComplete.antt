-- What is spelled is read, where no token passes a limit of tokens; and data is cut into trees in one way.
use Rattle.std.proofs.Common.{◌≡◌, ◌∙◌, ℕ, zero, suc, ◌+◌, List, [], ◌∷◌, ◌++◌, length, refl, sym, ap, subst as along, append_assoc, append-nil, arith}
use Rattle.std.specs.Prelude.{if◌then◌else◌}
use Rattle.sexp_reader.specs.Text.{Text, Open, Close, Atom}
use Rattle.sexp_reader.specs.Lex.{Spanned, nesting_after_text}
use Rattle.dump_grammar.specs.declared.keyword.Keyword.TheVariants as words
use Rattle.dump_grammar.specs.Numbers.{word}
use Rattle.dump_grammar.specs.Judge.{texts}
use Rattle.dump_grammar.proofs.Words.{word-is}
use Rattle.calculus_rules.specs.FirstOrder.{Data}
use Rattle.data_trees.specs.Preorder.{IsForest, IsTree}
use Rattle.first_order.specs.declared.shapes.Shape.{Shape}
use Rattle.first_order.specs.declared.given.Turn.{Turn}
use Rattle.first_order.specs.declared.given.Turn.TheVariants.{First, Later}
use Rattle.first_order.specs.ArgumentTexts.{SpellsItem, name_alone, in_brackets, SpellsItems, no_item, one_item, SpellsEach, no_argument, one_argument, SpellsArguments}
use Rattle.first_order.specs.Awaited.{Awaited, AwaitsOpen, AwaitsWord, AwaitsItem, AwaitsName, AwaitsClose, items_in, arguments_in, whole_call}
use Rattle.first_order.specs.Awaited.{TakesToken, BreaksForm, alone, opened, taking, ArgumentReading, ArgumentsAre, with_nodes, answered, taken, at_token, reading_of, joined, AreTrees, HasNoFault}
use Rattle.first_order.proofs.ArgumentSpelling.{SpellsNext, SpellsAll, join, only, come_inside}

-- what a token begins
record Begins (names : List (List ℕ)) (x : Awaited) (ts : List Text) (ds : Data) : Type 0 where
  text : Text
  more : List Text
  texts_are : ts ≡ text ∷ more
  then_awaited : List Awaited
  node : Data
  later : Data
  nodes_are : ds ≡ node ++ later
  is : taking names x text ≡ TakesToken then_awaited node
  spelled : SpellsAll names then_awaited more later

item-begins : (names : List (List ℕ)) (turn : Turn) (S : List Shape) (i : ℕ) (ts : List Text) (ds : Data) → SpellsItem names S i ts ds → Begins names (AwaitsItem turn S i) ts ds
item-begins names turn S i _ _ (name_alone {c = c} {a = a} e) = record {
  text = Atom a;
  more = [];
  texts_are = refl;
  then_awaited = [];
  node = (c, 0) ∷ [];
  later = [];
  nodes_are = refl;
  is = ap alone e;
  spelled = (refl, refl);
}
item-begins names turn S i _ _ (in_brackets {c = c} {j = j} {a = a} {js = js} {ts = ts} {ds = ds} e h) = record {
  text = Open;
  more = Atom a ∷ (ts ++ (Close ∷ []));
  texts_are = refl;
  then_awaited = AwaitsName S i ∷ [];
  node = [];
  later = (c, suc (length js)) ∷ ds;
  nodes_are = refl;
  is = refl;
  spelled = only names (AwaitsName S i) (Atom a ∷ (ts ++ (Close ∷ []))) ((c, suc (length js)) ∷ ds) (in_brackets e h);
}

abbrev tail_of : List Text → List Text
tail_of [] = []
tail_of (t ∷ ts) = ts

open_not_atom : (a : List ℕ) (ts us : List Text) → Open ∷ ts ≡ Atom a ∷ us → ⊥
open_not_atom a ts us e = cc

name-begins : (names : List (List ℕ)) (S : List Shape) (i : ℕ) (us : List Text) (ds : Data) (ts : List Text) → ts ≡ Open ∷ us → SpellsItem names S i ts ds → Begins names (AwaitsName S i) us ds
name-begins names S i us _ _ p (name_alone {a = a} e) = absurd (open_not_atom a us [] (sym p))
name-begins names S i us _ _ p (in_brackets {c = c} {j = j} {a = a} {js = js} {ts = ts} {ds = ds} e h) = record {
  text = Atom a;
  more = ts ++ (Close ∷ []);
  texts_are = sym (ap tail_of p);
  then_awaited = items_in First S (j ∷ js);
  node = (c, suc (length js)) ∷ [];
  later = ds;
  nodes_are = refl;
  is = ap (opened S) e;
  spelled = come_inside names S j js ts ds h;
}

bracket : (names : List (List ℕ)) (x : Awaited) (t : Text) (ts : List Text) (ds : Data) → taking names x t ≡ TakesToken [] [] → (ts ≡ t ∷ []) × (ds ≡ []) → Begins names x ts ds
bracket names x t ts ds e (p, q) = record { text = t; more = []; texts_are = p; then_awaited = []; node = []; later = []; nodes_are = q; is = e; spelled = (refl, refl) }

begins : (names : List (List ℕ)) (x : Awaited) (ts : List Text) (ds : Data) → SpellsNext names x ts ds → Begins names x ts ds
begins names AwaitsOpen ts ds h = bracket names AwaitsOpen Open ts ds refl h
begins names AwaitsWord ts ds h = bracket names AwaitsWord (word words.Args) ts ds (ap (λ b. if b then TakesToken [] [] else BreaksForm) (word-is words.Args)) h
begins names (AwaitsItem t S i) ts ds h = item-begins names t S i ts ds h
begins names (AwaitsName S i) ts ds h = name-begins names S i ts ds (Open ∷ ts) refl h
begins names (AwaitsClose First) ts ds h = absurd h
begins names (AwaitsClose Later) ts ds h = bracket names (AwaitsClose Later) Close ts ds refl h

-- ---- what is spelled is read

spelled-read : (names : List (List ℕ)) (len : ℕ) (ss : List Spanned) (d : ℕ) (xs : List Awaited) (ts : List Text) (ds : Data) → texts ss ≡ ts → HasNoFault d ss → SpellsAll names xs ts ds → reading_of names len ss d xs ≡ ArgumentsAre ds
unfolding reading_of
spelled-read names len [] d [] ts ds e f (p, q) = ap ArgumentsAre (sym q)
spelled-read names len [] d (x ∷ xs) ts ds e f (us, vs, ms, ns, p, q, h, k) = let b = begins names x us ms h in absurd (let z : [] ≡ b.text ∷ (b.more ++ vs) = e ∙ p ∙ ap (λ ws. ws ++ vs) b.texts_are in cc)
spelled-read names len (s ∷ ss) d [] ts ds e f (p, q) = absurd (let z : s.text ∷ texts ss ≡ [] = e ∙ p in cc)
spelled-read names len (s ∷ ss) d (x ∷ xs) ts ds e f (us, vs, ms, ns, p, q, h, k) =
    let b = begins names x us ms h in
    let whole : s.text ∷ texts ss ≡ b.text ∷ (b.more ++ vs) = e ∙ p ∙ ap (λ ws. ws ++ vs) b.texts_are in
    let text : s.text ≡ b.text = cc in
    let rest : texts ss ≡ b.more ++ vs = cc in
    let go : List Awaited → ArgumentReading = λ ys. reading_of names len ss (nesting_after_text d s.text) ys in
    let inner : go (b.then_awaited ++ xs) ≡ ArgumentsAre (b.later ++ ns) = spelled-read names len ss (nesting_after_text d s.text) (b.then_awaited ++ xs) (b.more ++ vs) (b.later ++ ns) rest f.1 (join names b.then_awaited xs b.more vs b.later ns b.spelled k) in
    let nodes : b.node ++ (b.later ++ ns) ≡ ds = sym (append_assoc b.node b.later ns) ∙ ap (λ ws. ws ++ ns) (sym b.nodes_are) ∙ sym q in
    ap (λ r. answered r (at_token names (x ∷ xs) s.start s.text go)) (f.0).1
    ∙ ap (λ t. taken t s.start (λ ys. go (ys ++ xs))) (ap (taking names x) text ∙ b.is)
    ∙ ap (with_nodes b.node) inner
    ∙ ap ArgumentsAre nodes

each-come : (names : List (List ℕ)) (turn : Turn) (S : List Shape) (Ss : List (List Shape)) (ts : List Text) (ds : List Data) → SpellsEach names (S ∷ Ss) ts ds → SpellsAll names (arguments_in turn (S ∷ Ss)) (ts ++ (Close ∷ [])) (joined ds)
each-come names turn S [] _ _ (one_argument {ts = ts} {d = d} h no_argument) =
    (ts, Close ∷ [], d, [], append_assoc ts [] (Close ∷ []), refl, h, only names (AwaitsClose Later) (Close ∷ []) [] (refl, refl))
each-come names turn S (R ∷ Ss) _ _ (one_argument {ts = ts} {us = us} {d = d} {ds = ds} h k) =
    (ts, us ++ (Close ∷ []), d, joined ds, append_assoc ts us (Close ∷ []), refl, h, each-come names Later R Ss us ds k)

pub arguments-read : (names : List (List ℕ)) (Ss : List (List Shape)) (len : ℕ) (ss : List Spanned) (ds : List Data) → SpellsArguments names Ss (texts ss) ds → HasNoFault 0 ss → reading_of names len ss 0 (whole_call Ss) ≡ ArgumentsAre (joined ds)
arguments-read names [] len ss ds (some, us, p, h) f = absurd (some refl)
arguments-read names (S ∷ Ss) len ss ds (some, us, p, h) f =
    spelled-read names len ss 0 (whole_call (S ∷ Ss)) (Open ∷ word words.Args ∷ (us ++ (Close ∷ []))) (joined ds) p f
    (Open ∷ [], word words.Args ∷ (us ++ (Close ∷ [])), [], joined ds, refl, refl, (refl, refl), (word words.Args ∷ [], us ++ (Close ∷ []), [], joined ds, refl, refl, (refl, refl), each-come names First S Ss us ds h))

-- ---- trees

-- a forest is cut off in one way
cut : (n : ℕ) (d e r s : Data) → IsForest n d → IsForest n e → d ++ r ≡ e ++ s → (d ≡ e) × (r ≡ s)
cut zero [] [] r s f g p = (refl, p)
cut zero [] (y ∷ e) r s f g p = absurd g
cut zero (x ∷ d) e r s f g p = absurd f
cut (suc n) [] e r s f g p = absurd f
cut (suc n) (x ∷ d) [] r s f g p = absurd g
cut (suc n) (x ∷ d) (y ∷ e) r s f g p =
    let same : x ≡ y = cc in
    let rest : d ++ r ≡ e ++ s = cc in
    let h = cut (x.1 + n) d e r s f (along (λ z. IsForest (z.1 + n) e) (sym same) g) rest in
    ((λ i. same i ∷ h.0 i), h.1)

pub one_cut : (ds es : List Data) → AreTrees ds → AreTrees es → length ds ≡ length es → joined ds ≡ joined es → ds ≡ es
one_cut [] [] f g l p = refl
one_cut [] (e ∷ es) f g l p = absurd cc
one_cut (d ∷ ds) [] f g l p = absurd cc
one_cut (d ∷ ds) (e ∷ es) f g l p =
    let h = cut 1 d e (joined ds) (joined es) f.0 g.0 p in
    let more = one_cut ds es f.1 g.1 (cc) h.1 in
    (λ i. h.0 i ∷ more i)

nothing_more : (n : ℕ) → n ≡ 0 + n
nothing_more n = omega arith

one_more : (m n : ℕ) → suc (m + n) ≡ suc m + n
one_more m n = omega arith

mutual
  item-tree : (names : List (List ℕ)) (S : List Shape) (i : ℕ) (ts : List Text) (ds : Data) → SpellsItem names S i ts ds → (n : ℕ) (rest : Data) → IsForest n rest → IsForest (suc n) (ds ++ rest)
  item-tree names S i _ _ (name_alone e) n rest f = along (λ m. IsForest m rest) (nothing_more n) f
  item-tree names S i _ _ (in_brackets {j = j} {js = js} {ts = ts} {ds = ds} e h) n rest f = items-forest names S (j ∷ js) ts ds h n rest f

  items-forest : (names : List (List ℕ)) (S : List Shape) (js : List ℕ) (ts : List Text) (ds : Data) → SpellsItems names S js ts ds → (n : ℕ) (rest : Data) → IsForest n rest → IsForest (length js + n) (ds ++ rest)
  items-forest names S _ _ _ no_item n rest f = along (λ m. IsForest m rest) (nothing_more n) f
  items-forest names S _ _ _ (one_item {j = j} {js = js} {ts = ts} {us = us} {d = d} {ds = ds} h k) n rest f =
      along (λ m. IsForest m ((d ++ ds) ++ rest)) (one_more (length js) n) (along (IsForest (suc (length js + n))) (sym (append_assoc d ds rest)) (item-tree names S j ts d h (length js + n) (ds ++ rest) (items-forest names S js us ds k n rest f)))

each-trees : (names : List (List ℕ)) (Ss : List (List Shape)) (ts : List Text) (ds : List Data) → SpellsEach names Ss ts ds → AreTrees ds × (length ds ≡ length Ss)
each-trees names _ _ _ no_argument = (tt, refl)
each-trees names _ _ _ (one_argument {S = S} {Ss = Ss} {ts = ts} {us = us} {d = d} {ds = ds} h k) =
    let r = each-trees names Ss us ds k in
    let tree : IsTree d = along (IsForest 1) (append-nil d) (item-tree names S 0 ts d h 0 [] tt) in
    ((tree, r.0), ap suc r.1)

pub arguments_trees : (names : List (List ℕ)) (Ss : List (List Shape)) (ts : List Text) (ds : List Data) → SpellsArguments names Ss ts ds → AreTrees ds × (length ds ≡ length Ss)
arguments_trees names Ss ts ds (some, us, p, h) = each-trees names Ss us ds h
