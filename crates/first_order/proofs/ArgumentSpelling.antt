-- What is to come is spelled by the tokens that are taken, and by no others.
use Rattle.std.proofs.Common.{◌≡◌, ◌∙◌, ℕ, List, [], ◌∷◌, ◌++◌, length, Option, Some, None, Result, Ok, Err, refl, sym, ap, subst as along, inl, inr, append_assoc, append-nil}
use Rattle.std.proofs.lemmas.Bool.{cases_Bool}
use Rattle.std.specs.Prelude.{bytes_eq, if◌then◌else◌}
use Rattle.sexp_reader.specs.Text.{Text, Open, Close, Atom, Stray}
use Rattle.sexp_reader.specs.Lex.{Spanned, answer_at, nesting_after_text}
use Rattle.sexp_reader.specs.declared.Token.{Token}
use Rattle.sexp_reader.specs.declared.TokenFault.{TokenFault}
use Rattle.dump_grammar.specs.Keywords.{spelling}
use Rattle.dump_grammar.specs.declared.keyword.Keyword.TheVariants as words
use Rattle.dump_grammar.specs.Numbers.{word}
use Rattle.dump_grammar.specs.Judge.{texts}
use Rattle.dump_grammar.proofs.Words.{same_bytes}
use Rattle.calculus_rules.specs.FirstOrder.{Data}
use Rattle.first_order.specs.declared.shapes.Shape.{Shape}
use Rattle.first_order.specs.declared.given.Turn.{Turn}
use Rattle.first_order.specs.declared.given.Turn.TheVariants.{First, Later}
use Rattle.first_order.specs.ArgumentTexts.{ctor_at, SpellsItem, name_alone, in_brackets, SpellsItems, no_item, one_item, SpellsEach, no_argument, one_argument, SpellsArguments}
use Rattle.first_order.specs.Awaited.{Awaited, AwaitsOpen, AwaitsWord, AwaitsItem, AwaitsName, AwaitsClose, items_in, arguments_in, whole_call}
use Rattle.first_order.specs.Awaited.{Taking, BreaksForm, Misplaced, TakesToken, alone, opened, taking, ArgumentReading, ArgumentsAre, ArgumentsFail, with_nodes, answered, taken, at_token, reading_of, joined}

-- ---- what is spelled by what is to come

abbrev pub SpellsNext : (names : List (List ℕ)) → Awaited → List Text → Data → Type 0
SpellsNext names AwaitsOpen ts ds = (ts ≡ Open ∷ []) × (ds ≡ [])
SpellsNext names AwaitsWord ts ds = (ts ≡ word words.Args ∷ []) × (ds ≡ [])
SpellsNext names (AwaitsItem t S i) ts ds = SpellsItem names S i ts ds
SpellsNext names (AwaitsName S i) ts ds = SpellsItem names S i (Open ∷ ts) ds
SpellsNext names (AwaitsClose First) ts ds = ⊥
SpellsNext names (AwaitsClose Later) ts ds = (ts ≡ Close ∷ []) × (ds ≡ [])

abbrev pub SpellsAll : (names : List (List ℕ)) → List Awaited → List Text → Data → Type 0
SpellsAll names [] ts ds = (ts ≡ []) × (ds ≡ [])
SpellsAll names (x ∷ xs) ts ds =
    (us : List Text) × (vs : List Text) × (ms : Data) × (ns : Data) × (ts ≡ us ++ vs) × (ds ≡ ms ++ ns) × SpellsNext names x us ms × SpellsAll names xs vs ns

record Parted (names : List (List ℕ)) (a b : List Awaited) (ts : List Text) (ds : Data) : Type 0 where
  front : List Text
  back : List Text
  first_nodes : Data
  last_nodes : Data
  texts_are : ts ≡ front ++ back
  nodes_are : ds ≡ first_nodes ++ last_nodes
  first : SpellsAll names a front first_nodes
  last : SpellsAll names b back last_nodes

part : (names : List (List ℕ)) (a b : List Awaited) (ts : List Text) (ds : Data) → SpellsAll names (a ++ b) ts ds → Parted names a b ts ds
part names [] b ts ds h = record { front = []; back = ts; first_nodes = []; last_nodes = ds; texts_are = refl; nodes_are = refl; first = (refl, refl); last = h }
part names (x ∷ a) b ts ds (us, vs, ms, ns, p, q, h, k) =
    let r = part names a b vs ns k in
    record {
      front = us ++ r.front;
      back = r.back;
      first_nodes = ms ++ r.first_nodes;
      last_nodes = r.last_nodes;
      texts_are = p ∙ ap (λ ws. us ++ ws) r.texts_are ∙ sym (append_assoc us r.front r.back);
      nodes_are = q ∙ ap (λ ws. ms ++ ws) r.nodes_are ∙ sym (append_assoc ms r.first_nodes r.last_nodes);
      first = (us, r.front, ms, r.first_nodes, refl, refl, h, r.first);
      last = r.last;
    }

pub join : (names : List (List ℕ)) (a b : List Awaited) (ts us : List Text) (ds es : Data) → SpellsAll names a ts ds → SpellsAll names b us es → SpellsAll names (a ++ b) (ts ++ us) (ds ++ es)
join names [] b ts us ds es (p, q) k = along (λ ws. SpellsAll names b (ws ++ us) (ds ++ es)) (sym p) (along (λ ws. SpellsAll names b us (ws ++ es)) (sym q) k)
join names (x ∷ a) b ts us ds es (vs, ws, ms, ns, p, q, h, r) k =
    (vs, ws ++ us, ms, ns ++ es, ap (λ y. y ++ us) p ∙ append_assoc vs ws us, ap (λ y. y ++ es) q ∙ append_assoc ms ns es, h, join names a b ws us ns es r k)

-- one thing alone
pub only : (names : List (List ℕ)) (x : Awaited) (ts : List Text) (ds : Data) → SpellsNext names x ts ds → SpellsAll names (x ∷ []) ts ds
only names x ts ds h = (ts, [], ds, [], sym (append-nil ts), sym (append-nil ds), h, (refl, refl))

alone_is : (names : List (List ℕ)) (x : Awaited) (ts : List Text) (ds : Data) → SpellsAll names (x ∷ []) ts ds → SpellsNext names x ts ds
alone_is names x ts ds (us, vs, ms, ns, p, q, h, (e, f)) =
    let text : us ≡ ts = sym (append-nil us) ∙ ap (λ ws. us ++ ws) (sym e) ∙ sym p in
    let nodes : ms ≡ ds = sym (append-nil ms) ∙ ap (λ ws. ms ++ ws) (sym f) ∙ sym q in
    along (λ ws. SpellsNext names x ws ds) text (along (λ ws. SpellsNext names x us ws) nodes h)

-- ---- items between brackets

items_behind : (names : List (List ℕ)) (S : List Shape) (js : List ℕ) (ts : List Text) (ds : Data) → SpellsAll names (items_in Later S js) ts ds →
    (us : List Text) × (ts ≡ us ++ (Close ∷ [])) × SpellsItems names S js us ds
items_behind names S [] ts ds h = let k = alone_is names (AwaitsClose Later) ts ds h in ([], k.0, along (λ ws. SpellsItems names S [] [] ws) (sym k.1) no_item)
items_behind names S (j ∷ js) ts ds (us, vs, ms, ns, p, q, h, k) =
    let r = items_behind names S js vs ns k in
    (us ++ r.0, p ∙ ap (λ ws. us ++ ws) r.1 ∙ sym (append_assoc us r.0 (Close ∷ [])), along (λ ws. SpellsItems names S (j ∷ js) (us ++ r.0) ws) (sym q) (one_item h r.2))

items_inside : (names : List (List ℕ)) (S : List Shape) (js : List ℕ) (ts : List Text) (ds : Data) → SpellsAll names (items_in First S js) ts ds →
    (j : ℕ) × (ks : List ℕ) × (us : List Text) × (js ≡ j ∷ ks) × (ts ≡ us ++ (Close ∷ [])) × SpellsItems names S (j ∷ ks) us ds
items_inside names S [] ts ds (us, vs, ms, ns, p, q, h, k) = absurd h
items_inside names S (j ∷ js) ts ds (us, vs, ms, ns, p, q, h, k) =
    let r = items_behind names S js vs ns k in
    (j, js, us ++ r.0, refl, p ∙ ap (λ ws. us ++ ws) r.1 ∙ sym (append_assoc us r.0 (Close ∷ [])), along (λ ws. SpellsItems names S (j ∷ js) (us ++ r.0) ws) (sym q) (one_item h r.2))

pub come_behind : (names : List (List ℕ)) (S : List Shape) (js : List ℕ) (ts : List Text) (ds : Data) → SpellsItems names S js ts ds → SpellsAll names (items_in Later S js) (ts ++ (Close ∷ [])) ds
come_behind names S _ _ _ no_item = only names (AwaitsClose Later) (Close ∷ []) [] (refl, refl)
come_behind names S _ _ _ (one_item {j = j} {js = js} {ts = ts} {us = us} {d = d} {ds = ds} h k) =
    (ts, us ++ (Close ∷ []), d, ds, append_assoc ts us (Close ∷ []), refl, h, come_behind names S js us ds k)

pub come_inside : (names : List (List ℕ)) (S : List Shape) (j : ℕ) (js : List ℕ) (ts : List Text) (ds : Data) → SpellsItems names S (j ∷ js) ts ds → SpellsAll names (items_in First S (j ∷ js)) (ts ++ (Close ∷ [])) ds
come_inside names S _ _ _ _ (one_item {j = j} {js = js} {ts = ts} {us = us} {d = d} {ds = ds} h k) =
    (ts, us ++ (Close ∷ []), d, ds, append_assoc ts us (Close ∷ []), refl, h, come_behind names S js us ds k)

-- ---- a token that is taken

-- the token begins what is spelled
abbrev Begun : (names : List (List ℕ)) → Awaited → Text → List Awaited → Data → Type 0
Begun names x t ys ms = (us : List Text) (ns : Data) → SpellsAll names ys us ns → SpellsNext names x (t ∷ us) (ms ++ ns)

same_taking : (ys zs : List Awaited) (ms ns : Data) → TakesToken ys ms ≡ TakesToken zs ns → (ys ≡ zs) × (ms ≡ ns)
same_taking ys zs ms ns e = (cc, cc)

begun_so : (names : List (List ℕ)) (x : Awaited) (t : Text) (ys zs : List Awaited) (ms ns : Data) → TakesToken ys ms ≡ TakesToken zs ns → Begun names x t ys ms → Begun names x t zs ns
begun_so names x t ys zs ms ns e h = let s = same_taking ys zs ms ns e in along (λ y. Begun names x t y ns) s.0 (along (λ m. Begun names x t ys m) s.1 h)

bracket_alone : (names : List (List ℕ)) (t u : Text) → u ≡ t → (us : List Text) (ns : Data) → SpellsAll names [] us ns → (u ∷ us ≡ t ∷ []) × (ns ≡ [])
bracket_alone names t u e us ns (p, q) = ((λ i. e i ∷ p i), q)

word-begins : (names : List (List ℕ)) (a : List ℕ) (zs : List Awaited) (ns : Data) → taking names AwaitsWord (Atom a) ≡ TakesToken zs ns → Begun names AwaitsWord (Atom a) zs ns
word-begins names a zs ns e =
    elim (cases_Bool (bytes_eq a (spelling words.Args))) [
      | inl h ↦ begun_so names AwaitsWord (Atom a) [] zs [] ns (sym (ap (λ b. if b then TakesToken [] [] else BreaksForm) h) ∙ e) (bracket_alone names (word words.Args) (Atom a) (ap Atom (same_bytes a (spelling words.Args) h)))
      | inr h ↦ absurd (let f : BreaksForm ≡ TakesToken zs ns = sym (ap (λ b. if b then TakesToken [] [] else BreaksForm) h) ∙ e in cc)
    ]

alone-begins : (names : List (List ℕ)) (turn : Turn) (S : List Shape) (i : ℕ) (a : List ℕ) (o : Option (ℕ × List ℕ)) → ctor_at names S i a ≡ o → (zs : List Awaited) (ns : Data) → alone o ≡ TakesToken zs ns → Begun names (AwaitsItem turn S i) (Atom a) zs ns
alone-begins names turn S i a None at zs ns e = absurd cc
alone-begins names turn S i a (Some (c, [])) at zs ns e =
    begun_so names (AwaitsItem turn S i) (Atom a) [] zs ((c, 0) ∷ []) ns e
    (λ us ms h. along (λ ws. SpellsItem names S i (Atom a ∷ ws) ((c, 0) ∷ ms)) (sym h.0) (along (λ ws. SpellsItem names S i (Atom a ∷ []) ((c, 0) ∷ ws)) (sym h.1) (name_alone at)))
alone-begins names turn S i a (Some (c, j ∷ js)) at zs ns e = absurd cc

item-inside : (names : List (List ℕ)) (S : List Shape) (i : ℕ) (a : List ℕ) (c : ℕ) (js : List ℕ) → ctor_at names S i a ≡ Some (c, js) → (us : List Text) (ms : Data) →
    SpellsAll names (items_in First S js) us ms → SpellsItem names S i (Open ∷ Atom a ∷ us) ((c, length js) ∷ ms)
item-inside names S i a c js at us ms h =
    let (j, ks, ts, e, p, k) = items_inside names S js us ms h in
    let is : ctor_at names S i a ≡ Some (c, j ∷ ks) = at ∙ ap (λ l. Some (c, l)) e in
    along (λ ws. SpellsItem names S i (Open ∷ Atom a ∷ ws) ((c, length js) ∷ ms)) (sym p) (along (λ n. SpellsItem names S i (Open ∷ Atom a ∷ (ts ++ (Close ∷ []))) ((c, n) ∷ ms)) (sym (ap length e)) (in_brackets is k))

name-begins : (names : List (List ℕ)) (S : List Shape) (i : ℕ) (a : List ℕ) (o : Option (ℕ × List ℕ)) → ctor_at names S i a ≡ o → (zs : List Awaited) (ns : Data) → opened S o ≡ TakesToken zs ns → Begun names (AwaitsName S i) (Atom a) zs ns
name-begins names S i a None at zs ns e = absurd cc
name-begins names S i a (Some (c, js)) at zs ns e = begun_so names (AwaitsName S i) (Atom a) (items_in First S js) zs ((c, length js) ∷ []) ns e (item-inside names S i a c js at)

begun : (names : List (List ℕ)) (x : Awaited) (t : Text) (zs : List Awaited) (ns : Data) → taking names x t ≡ TakesToken zs ns → Begun names x t zs ns
begun names AwaitsOpen Open zs ns e = begun_so names AwaitsOpen Open [] zs [] ns e (bracket_alone names Open Open refl)
begun names AwaitsOpen Close zs ns e = absurd cc
begun names AwaitsOpen (Atom a) zs ns e = absurd cc
begun names AwaitsOpen Stray zs ns e = absurd cc
begun names AwaitsWord Open zs ns e = absurd cc
begun names AwaitsWord Close zs ns e = absurd cc
begun names AwaitsWord (Atom a) zs ns e = word-begins names a zs ns e
begun names AwaitsWord Stray zs ns e = absurd cc
begun names (AwaitsItem t S i) Open zs ns e = begun_so names (AwaitsItem t S i) Open (AwaitsName S i ∷ []) zs [] ns e (λ us ms h. alone_is names (AwaitsName S i) us ms h)
begun names (AwaitsItem First S i) Close zs ns e = absurd cc
begun names (AwaitsItem Later S i) Close zs ns e = absurd cc
begun names (AwaitsItem t S i) (Atom a) zs ns e = alone-begins names t S i a (ctor_at names S i a) refl zs ns e
begun names (AwaitsItem t S i) Stray zs ns e = absurd cc
begun names (AwaitsName S i) Open zs ns e = absurd cc
begun names (AwaitsName S i) Close zs ns e = absurd cc
begun names (AwaitsName S i) (Atom a) zs ns e = name-begins names S i a (ctor_at names S i a) refl zs ns e
begun names (AwaitsName S i) Stray zs ns e = absurd cc
begun names (AwaitsClose t) Open zs ns e = absurd cc
begun names (AwaitsClose First) Close zs ns e = absurd cc
begun names (AwaitsClose Later) Close zs ns e = begun_so names (AwaitsClose Later) Close [] zs [] ns e (bracket_alone names Close Close refl)
begun names (AwaitsClose t) (Atom a) zs ns e = absurd cc
begun names (AwaitsClose t) Stray zs ns e = absurd cc

-- ---- what is read is spelled

pub are_is : (ds es : Data) → ArgumentsAre ds ≡ ArgumentsAre es → ds ≡ es
are_is ds es e = cc

read_behind : (ms ds : Data) (r : ArgumentReading) → with_nodes ms r ≡ ArgumentsAre ds → (ns : Data) × (r ≡ ArgumentsAre ns) × (ds ≡ ms ++ ns)
read_behind ms ds (ArgumentsAre ns) e = (ns, refl, sym (are_is (ms ++ ns) ds e))
read_behind ms ds (ArgumentsFail f) e = absurd cc

pub read-spelled : (names : List (List ℕ)) (len : ℕ) (ss : List Spanned) (d : ℕ) (xs : List Awaited) (ds : Data) → reading_of names len ss d xs ≡ ArgumentsAre ds → SpellsAll names xs (texts ss) ds
unfolding reading_of
read-spelled names len [] d [] ds e = (refl, sym (are_is [] ds e))
read-spelled names len [] d (x ∷ xs) ds e = absurd cc
read-spelled names len (s ∷ ss) d xs ds e =
    let go : List Awaited → ArgumentReading = λ ys. reading_of names len ss (nesting_after_text d s.text) ys in
    let after : (xs : List Awaited) → at_token names xs s.start s.text go ≡ ArgumentsAre ds → SpellsAll names xs (s.text ∷ texts ss) ds =
    λ xs. elim xs as (λ xs. at_token names xs s.start s.text go ≡ ArgumentsAre ds → SpellsAll names xs (s.text ∷ texts ss) ds) [
      | [] ↦ λ e. absurd cc
      | x ∷ xs ↦ λ e.
          (let on : (t : Taking) → taking names x s.text ≡ t → taken t s.start (λ ys. go (ys ++ xs)) ≡ ArgumentsAre ds → SpellsAll names (x ∷ xs) (s.text ∷ texts ss) ds =
          λ t. elim t as (λ t. taking names x s.text ≡ t → taken t s.start (λ ys. go (ys ++ xs)) ≡ ArgumentsAre ds → SpellsAll names (x ∷ xs) (s.text ∷ texts ss) ds) [
            | BreaksForm ↦ λ q e. absurd cc
            | Misplaced ↦ λ q e. absurd cc
            | TakesToken ys ms ↦ λ q e.
                let b = read_behind ms ds (go (ys ++ xs)) e in
                let r = part names ys xs (texts ss) b.0 (read-spelled names len ss (nesting_after_text d s.text) (ys ++ xs) b.0 b.1) in (
                  s.text ∷ r.front,
                  r.back,
                  ms ++ r.first_nodes,
                  r.last_nodes,
                  ap (λ ws. s.text ∷ ws) r.texts_are,
                  b.2 ∙ ap (λ ws. ms ++ ws) r.nodes_are ∙ sym (append_assoc ms r.first_nodes r.last_nodes),
                  begun names x s.text ys ms q r.front r.first_nodes r.first,
                  r.last,
                )
          ] in
          on (taking names x s.text) refl e)
    ] in
    let on : (r : Result (Option Token) TokenFault) → answered r (at_token names xs s.start s.text go) ≡ ArgumentsAre ds → SpellsAll names xs (s.text ∷ texts ss) ds =
    λ r. elim r as (λ r. answered r (at_token names xs s.start s.text go) ≡ ArgumentsAre ds → SpellsAll names xs (s.text ∷ texts ss) ds) [
      | Ok o ↦ λ e. after xs e
      | Err g ↦ λ e. absurd cc
    ] in
    on (answer_at d s.start s.text) e

-- ---- the arguments

arguments_behind : (names : List (List ℕ)) (Ss : List (List Shape)) (ts : List Text) (es : Data) → SpellsAll names (arguments_in Later Ss) ts es →
    (us : List Text) × (ds : List Data) × (ts ≡ us ++ (Close ∷ [])) × (es ≡ joined ds) × SpellsEach names Ss us ds
arguments_behind names [] ts es h = let k = alone_is names (AwaitsClose Later) ts es h in ([], [], k.0, k.1, no_argument)
arguments_behind names (S ∷ Ss) ts es (us, vs, ms, ns, p, q, h, k) =
    let r = arguments_behind names Ss vs ns k in
    (us ++ r.0, ms ∷ r.1, p ∙ ap (λ ws. us ++ ws) r.2 ∙ sym (append_assoc us r.0 (Close ∷ [])), q ∙ ap (λ ws. ms ++ ws) r.3, one_argument h r.4)

-- the whole
pub whole-spelled : (names : List (List ℕ)) (Ss : List (List Shape)) (ts : List Text) (es : Data) → SpellsAll names (whole_call Ss) ts es → (ds : List Data) × (es ≡ joined ds) × SpellsArguments names Ss ts ds
whole-spelled names [] ts es (u1, v1, m1, n1, p1, q1, h1, (u2, v2, m2, n2, p2, q2, h2, (u3, v3, m3, n3, p3, q3, h3, k))) = absurd h3
whole-spelled names (S ∷ Ss) ts es (u1, v1, m1, n1, p1, q1, h1, (u2, v2, m2, n2, p2, q2, h2, (u3, v3, m3, n3, p3, q3, h3, k))) =
    let r = arguments_behind names Ss v3 n3 k in
    let text : ts ≡ Open ∷ word words.Args ∷ ((u3 ++ r.0) ++ (Close ∷ [])) =
    p1 ∙ (λ i. h1.0 i ++ p2 i) ∙ ap (λ ws. Open ∷ ws) (λ i. h2.0 i ++ p3 i) ∙ ap (λ ws. Open ∷ word words.Args ∷ (u3 ++ ws)) r.2 ∙ ap (λ ws. Open ∷ word words.Args ∷ ws) (sym (append_assoc u3 r.0 (Close ∷ []))) in
    let nodes : es ≡ m3 ++ joined r.1 = q1 ∙ (λ i. h1.1 i ++ q2 i) ∙ (λ i. h2.1 i ++ q3 i) ∙ ap (λ ws. m3 ++ ws) r.3 in
    (m3 ∷ r.1, nodes, ((λ e. cc), u3 ++ r.0, text, one_argument h3 r.4))
