-- An argument is read node by node: its nodes so far, before the reading of what is still to come, are the reading of the whole; and they ask for as many trees as are to come.
use Rattle.std.proofs.Common.{◌≡◌, ◌∙◌, ℕ, suc, ◌+◌, List, [], ◌∷◌, ◌++◌, map, reverse, length, Option, Some, None, Result, Err, refl, sym, ap, subst as along, append_assoc, append-nil, length-append, arith}
use Rattle.std.proofs.lemmas.List.{reverse-append}
use Rattle.std.specs.Prelude.{Vec}
use Rattle.std.specs.declared.alloc.Global.{Global}
use Rattle.sexp_reader.specs.Lex.{tokens_of}
use Rattle.sexp_reader.specs.Stream.{source, stream, depth}
use Rattle.sexp_reader.specs.declared.Tokens.{Tokens}
use Rattle.calculus_rules.specs.FirstOrder.{Data}
use Rattle.data_trees.specs.Preorder.{IsForest, IsTree}
use Rattle.first_order.specs.declared.shapes.Shape.{Shape}
use Rattle.first_order.specs.declared.faults.ArgsFault.{ArgsFault}
use Rattle.first_order.specs.declared.faults.ArgsFault.TheVariants as faults
use Rattle.first_order.specs.declared.given.Next.{Next}
use Rattle.first_order.specs.declared.given.Turn.{Turn}
use Rattle.first_order.specs.declared.given.Turn.TheVariants.{First, Later}
use Rattle.first_order.specs.declared.shapes.Shapes.{Shapes}
use Rattle.first_order.specs.Awaited.{Awaited, AwaitsItem, AwaitsClose, items_in, arguments_in, whole_call, TakesToken, opened, ArgumentReading, ArgumentsAre, ArgumentsFail, with_nodes, reading_of, call_arguments, joined, argument_sets, AreTrees, AnswersReading}
use Rattle.first_order.specs.Nexts.{awaited, nexts_in, trees_in, trees, nodes_in, KeepsTrees, all_awaited, reading_on, GivesReading, PassesFirst}

pub with_nothing : (r : ArgumentReading) → r ≡ with_nodes [] r
with_nothing (ArgumentsAre ds) = refl
with_nothing (ArgumentsFail f) = refl

pub with_both : (ds es : Data) (r : ArgumentReading) → with_nodes ds (with_nodes es r) ≡ with_nodes (ds ++ es) r
with_both ds es (ArgumentsAre fs) = ap ArgumentsAre (sym (append_assoc ds es fs))
with_both ds es (ArgumentsFail f) = refl

pub popped : (ws vs : List Next) (x : Next) → ws ≡ vs ++ (x ∷ []) → reverse ws ≡ x ∷ reverse vs
popped ws vs x e = ap reverse e ∙ reverse-append vs (x ∷ [])

pub first_awaited : (S : List Shape) (ws vs : List Next) (x : Next) → ws ≡ vs ++ (x ∷ []) → all_awaited S ws ≡ awaited S x ∷ all_awaited S vs
first_awaited S ws vs x e = ap (map (awaited S)) (popped ws vs x e)

-- a refusal of what is to come is one of the whole
pub refused : {X Y : Type 0} (whole r : ArgumentReading) (ds : Data) (f : ArgsFault) (g : X → ArgumentReading) (h : Y → ArgumentReading) → whole ≡ with_nodes ds r →
    GivesReading {X = X} (Err f) g r → GivesReading {X = Y} (Err f) h whole
refused whole r ds faults.Memory g h e q = tt
refused whole r ds (faults.Syntax o) g h e q = e ∙ ap (with_nodes ds) q
refused whole r ds (faults.Wrong o) g h e q = e ∙ ap (with_nodes ds) q
refused whole r ds faults.NameBytes g h e q = e ∙ ap (with_nodes ds) q
refused whole r ds faults.Nesting g h e q = e ∙ ap (with_nodes ds) q

module _ (names : List (List ℕ)) (S : List Shape) (old : Tokens) (ws vs : List Next) (x : Next) (popping : ws ≡ vs ++ (x ∷ [])) where
  pub here : (whole : ArgumentReading) (ns : Data) (xs : List Awaited) → whole ≡ with_nodes ns (reading_on names old (all_awaited S ws ++ xs)) →
      whole ≡ with_nodes ns (reading_on names old (awaited S x ∷ (all_awaited S vs ++ xs)))
  here whole ns xs h = h ∙ ap (λ ys. with_nodes ns (reading_on names old (ys ++ xs))) (first_awaited S ws vs x popping)

  pub node_read : (new : Tokens) (us : List Next) (o : Option (ℕ × ℕ)) (whole : ArgumentReading) (ns ms : Data) (xs : List Awaited) → whole ≡ with_nodes ns (reading_on names old (all_awaited S ws ++ xs)) →
      reading_on names old (awaited S x ∷ (all_awaited S vs ++ xs)) ≡ with_nodes (nodes_in o) (reading_on names new (all_awaited S us ++ xs)) → ms ≡ ns ++ nodes_in o →
      whole ≡ with_nodes ms (reading_on names new (all_awaited S us ++ xs))
  node_read new us o whole ns ms xs h g e =
      here whole ns xs h ∙ ap (with_nodes ns) g ∙ with_both ns (nodes_in o) (reading_on names new (all_awaited S us ++ xs)) ∙ ap (λ ds. with_nodes ds (reading_on names new (all_awaited S us ++ xs))) (sym e)

  pub trees_kept : (us : List Next) (o : Option (ℕ × ℕ)) (ns ms : Data) → ((rest : Data) → IsForest (trees (reverse ws)) rest → IsTree (ns ++ rest)) → KeepsTrees x o vs us → ms ≡ ns ++ nodes_in o →
      (rest : Data) → IsForest (trees (reverse us)) rest → IsTree (ms ++ rest)
  trees_kept us None ns ms h k e rest f =
      let count : trees (reverse us) ≡ trees (reverse ws) = k ∙ sym (ap trees (popped ws vs x popping)) in
      along (λ ds. IsTree (ds ++ rest)) (sym (e ∙ append-nil ns)) (h rest (along (λ n. IsForest n rest) count f))
  trees_kept us (Some d) ns ms h k e rest f =
      let whole_count : trees (reverse ws) ≡ trees_in x + trees (reverse vs) = ap trees (popped ws vs x popping) in
      let count : suc (trees (reverse vs)) ≡ trees (reverse ws) = omega (arith, whole_count, k.0) in
      let node : IsForest (suc (trees (reverse vs))) (d ∷ rest) = along (λ n. IsForest n rest) k.1 f in
      let whole : IsTree (ns ++ (d ∷ rest)) = h (d ∷ rest) (along (λ n. IsForest n (d ∷ rest)) count node) in
      along IsTree (sym (append_assoc ns (d ∷ []) rest) ∙ ap (λ ds. ds ++ rest) (sym e)) whole

-- ---- a name behind a bracket

nexts_are : (S : List Shape) (t : Turn) (js : List ℕ) → map (awaited S) (nexts_in t js) ≡ items_in t S js
nexts_are S t [] = refl
nexts_are S t (j ∷ js) = ap (λ xs. AwaitsItem t S j ∷ xs) (nexts_are S Later js)

pub opens : (S : List Shape) (o : Option (ℕ × List ℕ)) (c : ℕ) (js : List ℕ) (d : ℕ × ℕ) → o ≡ Some (c, js) → d ≡ (c, length js) → opened S o ≡ TakesToken (map (awaited S) (nexts_in First js)) (d ∷ [])
opens S o c js d e q = ap (opened S) e ∙ (λ i. TakesToken (sym (nexts_are S First js) i) (sym q i ∷ []))

nexts_trees : (t : Turn) (js : List ℕ) (ws : List Next) → trees (nexts_in t js ++ ws) ≡ length js + trees ws
nexts_trees t [] ws = refl
nexts_trees t (j ∷ js) ws = omega (arith, nexts_trees Later js ws)

pub inside_trees : (t : Turn) (js : List ℕ) (us ws : List Next) (c : ℕ) (d : ℕ × ℕ) → us ≡ nexts_in t js ++ ws → d ≡ (c, length js) → trees us ≡ d.1 + trees ws
inside_trees t js us ws c d e q = ap trees e ∙ nexts_trees t js ws ∙ ap (λ n. n + trees ws) (sym (ap (λ p. p.1) q))

-- ---- a whole argument

first_only : (S : List Shape) (ws none : List Next) (x : Next) → none ≡ [] → ws ≡ none ++ (x ∷ []) → all_awaited S ws ≡ awaited S x ∷ []
first_only S ws none x z e = ap (all_awaited S) (e ∙ ap (λ l. l ++ (x ∷ [])) z)

pub argument_starts : (names : List (List ℕ)) (S : List Shape) (old : Tokens) (ws none : List Next) (ns : Data) (x : Next) → none ≡ [] → ns ≡ [] → ws ≡ none ++ (x ∷ []) → (xs : List Awaited) →
    reading_on names old (awaited S x ∷ xs) ≡ with_nodes ns (reading_on names old (all_awaited S ws ++ xs))
argument_starts names S old ws none ns x z n e xs =
    with_nothing (reading_on names old (awaited S x ∷ xs)) ∙ (λ i. with_nodes (sym n i) (reading_on names old (sym (first_only S ws none x z e) i ++ xs)))

pub tree_starts : (ws none : List Next) (ns : Data) (x : Next) → trees_in x ≡ 1 → none ≡ [] → ns ≡ [] → ws ≡ none ++ (x ∷ []) → (rest : Data) → IsForest (trees (reverse ws)) rest → IsTree (ns ++ rest)
tree_starts ws none ns x one z n e rest f =
    let waits : reverse ws ≡ x ∷ [] = ap reverse (e ∙ ap (λ l. l ++ (x ∷ [])) z) in
    let has : trees (reverse ws) ≡ trees_in x + 0 = ap trees waits in
    let count : trees (reverse ws) ≡ 1 = omega (arith, has, one) in
    along (λ ds. IsTree (ds ++ rest)) (sym n) (along (λ k. IsForest k rest) count f)

pub argument_ends : (names : List (List ℕ)) (S : List Shape) (new : Tokens) (ws : List Next) (ns ms : Data) (whole : ArgumentReading) (xs : List Awaited) → ws ≡ [] → ms ≡ ns →
    whole ≡ with_nodes ns (reading_on names new (all_awaited S ws ++ xs)) → whole ≡ with_nodes ms (reading_on names new xs)
argument_ends names S new ws ns ms whole xs z e h = h ∙ (λ i. with_nodes (sym e i) (reading_on names new (all_awaited S (z i) ++ xs)))

pub tree_ends : (ws : List Next) (ns : Data) → ws ≡ [] → ((rest : Data) → IsForest (trees (reverse ws)) rest → IsTree (ns ++ rest)) → IsTree ns
tree_ends ws ns z h = along IsTree (append-nil ns) (h [] (along (λ l. IsForest (trees (reverse l)) []) (sym z) tt))

pub argument_refused : {X Y : Type 0} (names : List (List ℕ)) (x : Result X ArgsFault) (f : ArgsFault) → x ≡ Err f → (old new : Tokens) (y : Awaited) (g : X → ArgumentReading → ArgumentReading) →
    (h : Y → List Awaited → ArgumentReading) (r : List Awaited → ArgumentReading) (ns : Data) →
    source new ≡ source old → ((xs : List Awaited) → reading_on names old (y ∷ xs) ≡ with_nodes ns (r xs)) → ((xs : List Awaited) → GivesReading {X = Y} (Err f) (λ z. h z xs) (r xs)) → PassesFirst {X = X} names x old new y g
argument_refused {X} names x f q old new y g h r ns same e k =
    along (λ z. PassesFirst {X = X} names z old new y g) (sym q) (record { same = same; goes = λ xs. refused (reading_on names old (y ∷ xs)) (r xs) ns f (λ z. h z xs) (λ z. g z (reading_on names new xs)) (e xs) (k xs) })

pub lacks_memory : {X : Type 0} (names : List (List ℕ)) (x : Result X ArgsFault) (f : ArgsFault) → x ≡ Err f → f ≡ faults.Memory → (old new : Tokens) (y : Awaited) (g : X → ArgumentReading → ArgumentReading) → source new ≡ source old → PassesFirst {X = X} names x old new y g
lacks_memory {X} names x f q m old new y g same = along (λ z. PassesFirst {X = X} names z old new y g) (sym (q ∙ ap Err m)) (record { same = same; goes = λ xs. tt })

-- ---- the arguments, one behind the other

joined_more : (vs : List Data) (d : Data) → joined (vs ++ (d ∷ [])) ≡ joined vs ++ d
joined_more [] d = append-nil d
joined_more (v ∷ vs) d = ap (λ ds. v ++ ds) (joined_more vs d) ∙ sym (append_assoc v (joined vs) d)

pub set_read : (names : List (List ℕ)) (mid new : Tokens) (whole : ArgumentReading) (turn : Turn) (sets more : List Shapes) (set : Shapes) (vs us : List Data) (d : Data) →
    whole ≡ with_nodes (joined vs) (reading_on names mid (arguments_in turn (argument_sets sets))) → sets ≡ set ∷ more →
    ((xs : List Awaited) → reading_on names mid (AwaitsItem turn set.types 0 ∷ xs) ≡ with_nodes d (reading_on names new xs)) → us ≡ vs ++ (d ∷ []) →
    whole ≡ with_nodes (joined us) (reading_on names new (arguments_in Later (argument_sets more)))
set_read names mid new whole turn sets more set vs us d h e g q =
    let rest = reading_on names new (arguments_in Later (argument_sets more)) in
    h ∙ ap (λ ss. with_nodes (joined vs) (reading_on names mid (arguments_in turn (argument_sets ss)))) e
    ∙ ap (with_nodes (joined vs)) (g (arguments_in Later (argument_sets more)))
    ∙ with_both (joined vs) d rest
    ∙ ap (λ ds. with_nodes ds rest) (sym (ap joined q ∙ joined_more vs d))

pub one_more : (vs us : List Data) (d : Data) (n : ℕ) → us ≡ vs ++ (d ∷ []) → length vs ≡ n → length us ≡ n + 1
one_more vs us d n e l = omega (arith, ap length e, length-append vs (d ∷ []), l)

pub sets_read : (names : List (List ℕ)) (mid : Tokens) (whole : ArgumentReading) (turn : Turn) (sets : List Shapes) (vs : List Data) → whole ≡ with_nodes (joined vs) (reading_on names mid (arguments_in turn (argument_sets sets))) → sets ≡ [] →
    whole ≡ with_nodes (joined vs) (reading_on names mid (AwaitsClose turn ∷ []))
sets_read names mid whole turn sets vs h e = h ∙ ap (λ ss. with_nodes (joined vs) (reading_on names mid (arguments_in turn (argument_sets ss)))) e

pub refused_as : {X Y : Type 0} (x : Result X ArgsFault) (f : ArgsFault) → x ≡ Err f → (whole r : ArgumentReading) (ds : Data) (g : Y → ArgumentReading) (h : X → ArgumentReading) → whole ≡ with_nodes ds r →
    GivesReading {X = Y} (Err f) g r → GivesReading {X = X} x h whole
refused_as {X} {Y} x f q whole r ds g h e k = along (λ z. GivesReading {X = X} z h whole) (sym q) (refused {X = Y} {Y = X} whole r ds f g h e k)

-- ---- the whole text

pub at_start : (names : List (List ℕ)) (bytes : List ℕ) (t : Tokens) (Ss : List (List Shape)) → stream t ≡ tokens_of bytes → depth t ≡ 0 → source t ≡ bytes → call_arguments names Ss bytes ≡ reading_on names t (whole_call Ss)
at_start names bytes t Ss s d b = sym (λ i. reading_of names (length (b i)) (s i) (d i) (whole_call Ss))

pub answers_refusal : {Y : Type 0} (x : Result (Vec Data Global) ArgsFault) (f : ArgsFault) (n : ℕ) → x ≡ Err f → (whole r : ArgumentReading) (ds : Data) (g : Y → ArgumentReading) → whole ≡ with_nodes ds r → GivesReading {X = Y} (Err f) g r → AnswersReading whole n x
answers_refusal x faults.Memory n q whole r ds g e k = along (AnswersReading whole n) (sym q) tt
answers_refusal x (faults.Syntax o) n q whole r ds g e k = along (AnswersReading whole n) (sym q) (e ∙ ap (with_nodes ds) k)
answers_refusal x (faults.Wrong o) n q whole r ds g e k = along (AnswersReading whole n) (sym q) (e ∙ ap (with_nodes ds) k)
answers_refusal x faults.NameBytes n q whole r ds g e k = along (AnswersReading whole n) (sym q) (e ∙ ap (with_nodes ds) k)
answers_refusal x faults.Nesting n q whole r ds g e k = along (AnswersReading whole n) (sym q) (e ∙ ap (with_nodes ds) k)

pub answers_all : (whole r : ArgumentReading) (ds : Data) → whole ≡ with_nodes ds r → r ≡ ArgumentsAre [] → whole ≡ ArgumentsAre ds
answers_all whole r ds e k = e ∙ ap (with_nodes ds) k ∙ ap ArgumentsAre (append-nil ds)

pub trees_more : (vs us : List Data) (d : Data) → AreTrees vs → IsTree d → us ≡ vs ++ (d ∷ []) → AreTrees us
trees_more [] us d f t e = along AreTrees (sym e) (t, tt)
trees_more (v ∷ vs) us d f t e = along AreTrees (sym e) (f.0, trees_more vs (vs ++ (d ∷ [])) d f.1 t refl)
