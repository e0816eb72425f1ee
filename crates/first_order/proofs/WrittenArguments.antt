-- What is written of arguments is read as the same data.
use Rattle.std.proofs.Common.{◌≡◌, ◌≢◌, ◌∙◌, ℕ, zero, suc, ◌+◌, ◌<◌, List, [], ◌∷◌, ◌++◌, length, Option, Some, None, true, slice_get, refl, sym, ap, subst as along, inl, inr, append_assoc, arith}
use Rattle.std.specs.Prelude.{if◌then◌else◌}
use Rattle.std.specs.Cmp.Lexicographic.{nat_list_eq_equiv}
use Rattle.std.proofs.lemmas.Bool.{cases_Bool}
use Rattle.sexp_reader.specs.Text.{Text, Open, Close, Atom, Stray}
use Rattle.sexp_reader.specs.Lex.{is_atom_byte, tokens_of}
use Rattle.sexp_reader.specs.Tokenization.{Layout, End, LastComment, CommentThen, BlankThen, OpenThen, CloseThen, AtomThen, StrayThen, bytes_of, spans_of, Each, BeginsNoAtom, IsLayout}
use Rattle.sexp_reader.proofs.Layouts.{tokenization}
use Rattle.dump_grammar.specs.Keywords.{spelling}
use Rattle.dump_grammar.specs.declared.keyword.Keyword.TheVariants as words
use Rattle.dump_grammar.specs.Numbers.{word}
use Rattle.dump_grammar.specs.Judge.{texts}
use Rattle.dump_grammar.proofs.Words.{same_bytes}
use Rattle.calculus_rules.specs.FirstOrder.{Data}
use Rattle.calculus_rules.specs.Lookups.{if_some}
use Rattle.pc_rules.proofs.WeakNext.{if_some_is}
use Rattle.calculus_rules.proofs.Spines.{one_item as one_is}
use Rattle.first_order.specs.declared.shapes.Shape.{Shape}
use Rattle.first_order.specs.declared.shapes.ShapeCtor.{ShapeCtor}
use Rattle.first_order.specs.Texts.{IsText, alone, with_arguments, AreTexts, no_text, one_text, counted_ctor, constructor_in, named_ctor, by_shapes}
use Rattle.first_order.specs.ArgumentTexts.{is_text, ctor_from, ctor_at, SpellsItem, name_alone, in_brackets, SpellsItems, no_item, one_item, SpellsEach, no_argument, one_argument, SpellsArguments}
use Rattle.first_order.specs.WrittenArguments.{behind_blanks, arguments_text, AreWritten, none_written, one_written, AreAtoms, TypesHaveOwnNames, AllHaveOwnNames, WhatIsWrittenIsSpelled}
use Rattle.first_order.proofs.ReadTexts.{counted_is, shapes_count}

-- ---- the constructor that a written name is

has_name : (names : List (List ℕ)) (name : List ℕ) (o : Option (List ℕ)) → is_text name o ≡ true → o ≡ Some name
has_name names name None e = absurd cc
has_name names name (Some t) e = ap Some (same_bytes t name e)

found : (names : List (List ℕ)) (name : List ℕ) (ks : List ShapeCtor) (c e : ℕ) (k : ShapeCtor) → slice_get ks c ≡ Some k → slice_get names k.name.0 ≡ Some name →
    ((d : ℕ) (l : ShapeCtor) → slice_get ks d ≡ Some l → slice_get names l.name.0 ≡ Some name → d ≡ c) → ctor_from names name e ks ≡ Some (e + c, k.args)
unfolding ctor_from
found names name [] c e k at is own = absurd cc
found names name (x ∷ ks) zero e k at is own =
    let same : x ≡ k = one_is at in
    let here : is_text name (slice_get names x.name.0) ≡ true = ap (is_text name) (ap (λ z. slice_get names z.name.0) same ∙ is) ∙ nat_list_eq_equiv.refl name in
    let num : e ≡ e + 0 = omega arith in
    ap (λ b. if b then Some (e, x.args) else ctor_from names name (suc e) ks) here ∙ (λ i. Some (num i, (same i).args))
found names name (x ∷ ks) (suc c) e k at is own =
    elim (cases_Bool (is_text name (slice_get names x.name.0))) [
      | inl h ↦ absurd (let f : 0 ≡ suc c = own 0 x refl (has_name names name (slice_get names x.name.0) h) in omega (arith, f))
      | inr h ↦
          (let less : (d : ℕ) (l : ShapeCtor) → slice_get ks d ≡ Some l → slice_get names l.name.0 ≡ Some name → d ≡ c = λ d l p q. (let f : suc d ≡ suc c = own (suc d) l p q in omega (arith, f)) in
          let num : suc e + c ≡ e + suc c = omega arith in
          ap (λ b. if b then Some (e, x.args) else ctor_from names name (suc e) ks) h ∙ found names name ks c (suc e) k at is less ∙ ap (λ n. Some (n, k.args)) num)
    ]

-- a node that is written is the constructor of its name
named_node : (names : List (List ℕ)) (S : List Shape) → TypesHaveOwnNames names S → (i : ℕ) (d : ℕ × ℕ) (name js : List ℕ) → by_shapes S names i d ≡ Some (name, js) →
    (n : ℕ) × (slice_get names n ≡ Some name) × (ctor_at names S i name ≡ Some (d.0, js))
named_node names S own i d name js e =
    let r = if_some_is (constructor_in S i d.0 d.1) (λ k. named_ctor names k) e in
    let k = r.0 in
    let s = if_some_is (slice_get S i) (λ h. if_some (slice_get h.ctors d.0) (λ k. counted_ctor d.1 k)) r.1 in
    let h = s.0 in
    let t = if_some_is (slice_get h.ctors d.0) (λ k. counted_ctor d.1 k) s.2 in
    let same : t.0 ≡ k = (counted_is t.0 k d.1 t.2).0 in
    let at : slice_get h.ctors d.0 ≡ Some k = t.1 ∙ ap Some same in
    let u = if_some_is (slice_get names k.name.0) (λ name. Some (name, k.args)) r.2 in
    let pair : (u.0, k.args) ≡ (name, js) = one_is u.2 in
    let text : slice_get names k.name.0 ≡ Some name = u.1 ∙ ap (λ p. Some p.0) pair in
    let first : ctor_from names name 0 h.ctors ≡ Some (0 + d.0, k.args) = found names name h.ctors d.0 0 k at text (λ c l p q. own i h s.1 c d.0 l k name p at q text) in
    let num : 0 + d.0 ≡ d.0 = omega arith in
    (k.name.0, text, ap (λ o. if_some o (λ h. ctor_from names name 0 h.ctors)) s.1 ∙ first ∙ (λ j. Some (num j, (pair j).1)))

-- ---- the layout of a text

abbrev layout_texts : Layout → List Text
layout_texts End = []
layout_texts (LastComment comment) = []
layout_texts (CommentThen comment more) = layout_texts more
layout_texts (BlankThen b more) = layout_texts more
layout_texts (OpenThen more) = Open ∷ layout_texts more
layout_texts (CloseThen more) = Close ∷ layout_texts more
layout_texts (AtomThen atom more) = Atom atom ∷ layout_texts more
layout_texts (StrayThen b more) = Stray ∷ layout_texts more

spans_texts : (n : ℕ) (l : Layout) → texts (spans_of n l) ≡ layout_texts l
spans_texts n End = refl
spans_texts n (LastComment comment) = refl
spans_texts n (CommentThen comment more) = spans_texts (n + 1 + length comment + 1) more
spans_texts n (BlankThen b more) = spans_texts (n + 1) more
spans_texts n (OpenThen more) = ap (λ ts. Open ∷ ts) (spans_texts (n + 1) more)
spans_texts n (CloseThen more) = ap (λ ts. Close ∷ ts) (spans_texts (n + 1) more)
spans_texts n (AtomThen atom more) = ap (λ ts. Atom atom ∷ ts) (spans_texts (n + length atom) more)
spans_texts n (StrayThen b more) = ap (λ ts. Stray ∷ ts) (spans_texts (n + 1) more)

tokens-are : (bytes : List ℕ) (l : Layout) → IsLayout l → bytes_of l ≡ bytes → texts (tokens_of bytes) ≡ layout_texts l
tokens-are bytes l is e = ap texts (sym (tokenization.only bytes (spans_of 0 l) (l, is, e, refl))) ∙ spans_texts 0 l

-- a text before what follows, as tokens
record Laid (text : List ℕ) (ts : List Text) (more : Layout) : Type 0 where
  layout : Layout
  bytes_are : bytes_of layout ≡ text ++ bytes_of more
  texts_are : layout_texts layout ≡ ts ++ layout_texts more
  is : IsLayout layout

record ItemLaid (names : List (List ℕ)) (S : List Shape) (i : ℕ) (d : Data) (text : List ℕ) (more : Layout) : Type 0 where
  tokens : List Text
  laid : Laid text tokens more
  spells : SpellsItem names S i tokens d

record ItemsLaid (names : List (List ℕ)) (S : List Shape) (js : List ℕ) (ds : Data) (text : List ℕ) (more : Layout) : Type 0 where
  tokens : List Text
  laid : Laid text tokens more
  apart : BeginsNoAtom laid.layout
  spells : SpellsItems names S js tokens ds

module _ (names : List (List ℕ)) (S : List Shape) (own : TypesHaveOwnNames names S) (atoms : AreAtoms names) where
  alone-laid : (i c : ℕ) (name : List ℕ) → by_shapes S names i (c, 0) ≡ Some (name, []) → (more : Layout) → IsLayout more → BeginsNoAtom more → ItemLaid names S i ((c, 0) ∷ []) name more
  alone-laid i c name e more m b =
      let n = named_node names S own i (c, 0) name [] e in
      let a = atoms n.0 name n.1 in
      record {
        tokens = Atom name ∷ [];
        laid = record { layout = AtomThen name more; bytes_are = refl; texts_are = refl; is = (a.0, a.1, b, m) };
        spells = name_alone n.2;
      }

  bracket-laid : (i c j : ℕ) (name js ts : List ℕ) (ds : Data) (more : Layout) → by_shapes S names i (c, suc (length js)) ≡ Some (name, j ∷ js) → ItemsLaid names S (j ∷ js) ds ts (CloseThen more) →
      ItemLaid names S i ((c, suc (length js)) ∷ ds) (40 ∷ (name ++ (ts ++ (41 ∷ [])))) more
  bracket-laid i c j name js ts ds more e h =
      let n = named_node names S own i (c, suc (length js)) name (j ∷ js) e in
      let a = atoms n.0 name n.1 in
      let inner = h.laid in
      record {
        tokens = Open ∷ Atom name ∷ (h.tokens ++ (Close ∷ []));
        laid = record {
          layout = OpenThen (AtomThen name inner.layout);
          bytes_are = ap (λ bs. 40 ∷ bs) (ap (λ bs. name ++ bs) (inner.bytes_are ∙ sym (append_assoc ts (41 ∷ []) (bytes_of more))) ∙ sym (append_assoc name (ts ++ (41 ∷ [])) (bytes_of more)));
          texts_are = ap (λ us. Open ∷ Atom name ∷ us) (inner.texts_are ∙ sym (append_assoc h.tokens (Close ∷ []) (layout_texts more)));
          is = (a.0, a.1, h.apart, inner.is);
        };
        spells = in_brackets n.2 h.spells;
      }

  no-laid : (more : Layout) → IsLayout more → BeginsNoAtom more → ItemsLaid names S [] [] [] more
  no-laid more m b = record { tokens = []; laid = record { layout = more; bytes_are = refl; texts_are = refl; is = m }; apart = b; spells = no_item }

  one-laid : (j : ℕ) (js t ts : List ℕ) (d ds : Data) (more : Layout) → (rest : ItemsLaid names S js ds ts more) → ItemLaid names S j d t rest.laid.layout → ItemsLaid names S (j ∷ js) (d ++ ds) (32 ∷ (t ++ ts)) more
  one-laid j js t ts d ds more rest h =
      let inner = h.laid in
      let outer = rest.laid in
      record {
        tokens = h.tokens ++ rest.tokens;
        laid = record {
          layout = BlankThen 32 inner.layout;
          bytes_are = ap (λ bs. 32 ∷ bs) (inner.bytes_are ∙ ap (λ bs. t ++ bs) outer.bytes_are ∙ sym (append_assoc t ts (bytes_of more)));
          texts_are = inner.texts_are ∙ ap (λ us. h.tokens ++ us) outer.texts_are ∙ sym (append_assoc h.tokens rest.tokens (layout_texts more));
          is = (refl, inner.is);
        };
        apart = tt;
        spells = one_item h.spells rest.spells;
      }

  bracketed : (i c n : ℕ) (name js ts : List ℕ) (ds : Data) (more : Layout) → by_shapes S names i (c, suc n) ≡ Some (name, js) → ItemsLaid names S js ds ts (CloseThen more) → ItemLaid names S i ((c, suc n) ∷ ds) (40 ∷ (name ++ (ts ++ (41 ∷ [])))) more
  bracketed i c n name [] ts ds more e h = absurd (omega (arith, shapes_count S names i (c, suc n) (name, []) e))
  bracketed i c n name (j ∷ js) ts ds more e h =
      let count : length js ≡ n = omega (arith, shapes_count S names i (c, suc n) (name, j ∷ js) e) in
      along (λ m. ItemLaid names S i ((c, suc m) ∷ ds) (40 ∷ (name ++ (ts ++ (41 ∷ [])))) more) count
      (bracket-laid i c j name js ts ds more (along (λ m. by_shapes S names i (c, suc m) ≡ Some (name, j ∷ js)) (sym count) e) h)

  mutual
    item-laid : (i : ℕ) (d : Data) (t : List ℕ) → IsText (by_shapes S names) i d t → (more : Layout) → IsLayout more → BeginsNoAtom more → ItemLaid names S i d t more
    item-laid i _ _ (alone {c = c} {name = name} e) more m b = alone-laid i c name e more m b
    item-laid i _ _ (with_arguments {c = c} {n = n} {name = name} {ts = ts} {js = js} {ds = ds} e h) more m b = bracketed i c n name js ts ds more e (items-laid js ds ts h (CloseThen more) m tt)

    items-laid : (js : List ℕ) (ds : Data) (ts : List ℕ) → AreTexts (by_shapes S names) js ds ts → (more : Layout) → IsLayout more → BeginsNoAtom more → ItemsLaid names S js ds ts more
    items-laid _ _ _ no_text more m b = no-laid more m b
    items-laid _ _ _ (one_text {j = j} {js = js} {d = d} {ds = ds} {t = t} {ts = ts} h k) more m b =
        let rest = items-laid js ds ts k more m b in one-laid j js t ts d ds more rest (item-laid j d t h rest.laid.layout rest.laid.is rest.apart)

-- ---- the arguments

record EachLaid (names : List (List ℕ)) (Ss : List (List Shape)) (ds : List Data) (text : List ℕ) (more : Layout) : Type 0 where
  tokens : List Text
  laid : Laid text tokens more
  apart : BeginsNoAtom laid.layout
  spells : SpellsEach names Ss tokens ds

one-argument-laid : (names : List (List ℕ)) (S : List Shape) (Ss : List (List Shape)) (d : Data) (ds : List Data) (t bs : List ℕ) (more : Layout) → (rest : EachLaid names Ss ds bs more) → ItemLaid names S 0 d t rest.laid.layout →
    EachLaid names (S ∷ Ss) (d ∷ ds) (32 ∷ (t ++ bs)) more
one-argument-laid names S Ss d ds t bs more rest item =
    let outer = rest.laid in
    let inner = item.laid in
    record {
      tokens = item.tokens ++ rest.tokens;
      laid = record {
        layout = BlankThen 32 inner.layout;
        bytes_are = ap (λ cs. 32 ∷ cs) (inner.bytes_are ∙ ap (λ cs. t ++ cs) outer.bytes_are ∙ sym (append_assoc t bs (bytes_of more)));
        texts_are = inner.texts_are ∙ ap (λ us. item.tokens ++ us) outer.texts_are ∙ sym (append_assoc item.tokens rest.tokens (layout_texts more));
        is = (refl, inner.is);
      };
      apart = tt;
      spells = one_argument item.spells rest.spells;
    }

each-laid : (names : List (List ℕ)) → AreAtoms names → (Ss : List (List Shape)) (ds : List Data) (ts : List (List ℕ)) → AllHaveOwnNames names Ss → AreWritten names Ss ds ts → (more : Layout) → IsLayout more → BeginsNoAtom more →
    EachLaid names Ss ds (behind_blanks ts) more
each-laid names atoms _ _ _ own none_written more m b = record { tokens = []; laid = record { layout = more; bytes_are = refl; texts_are = refl; is = m }; apart = b; spells = no_argument }
each-laid names atoms _ _ _ own (one_written {S = S} {Ss = Ss} {d = d} {ds = ds} {t = t} {ts = ts} h k) more m b =
    let rest = each-laid names atoms Ss ds ts own.1 k more m b in
    one-argument-laid names S Ss d ds t (behind_blanks ts) more rest (item-laid names S own.0 atoms 0 d t h rest.laid.layout rest.laid.is rest.apart)

args-atom : (0 < length (spelling words.Args)) × Each (λ b. is_atom_byte b ≡ true) (spelling words.Args)
unfolding spelling
args-atom = (omega arith, (refl, (refl, (refl, (refl, tt)))))

whole-written : (names : List (List ℕ)) (Ss : List (List Shape)) (ds : List Data) (ts : List (List ℕ)) → Ss ≢ [] → EachLaid names Ss ds (behind_blanks ts) (CloseThen End) → SpellsArguments names Ss (texts (tokens_of (arguments_text ts))) ds
whole-written names Ss ds ts some each =
    let inner = each.laid in
    let layout = OpenThen (AtomThen (spelling words.Args) inner.layout) in
    let bytes : bytes_of layout ≡ arguments_text ts = ap (λ bs. 40 ∷ (spelling words.Args ++ bs)) inner.bytes_are in
    let text : texts (tokens_of (arguments_text ts)) ≡ Open ∷ word words.Args ∷ (each.tokens ++ (Close ∷ [])) =
    tokens-are (arguments_text ts) layout (args-atom.0, args-atom.1, each.apart, inner.is) bytes ∙ ap (λ us. Open ∷ word words.Args ∷ us) inner.texts_are in
    (some, each.tokens, text, each.spells)

pub written-spelled : WhatIsWrittenIsSpelled
written-spelled names Ss ds ts atoms own some w = whole-written names Ss ds ts some (each-laid names atoms Ss ds ts own w (CloseThen End) tt tt)
