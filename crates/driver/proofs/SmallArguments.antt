-- Arguments that a text spells along main's signature fit a block's header: a constructor's number is below 1,024, and it has at most 255 arguments.
use Rattle.std.proofs.Common.{◌≡◌, ℕ, zero, suc, ◌+◌, ◌<◌, ◌≤◌, List, [], ◌∷◌, map, length, Bool, true, false, Option, Some, None, refl, ap, ◌∙◌, subst, arith}
use Rattle.std.specs.Prelude.{if◌then◌else◌, option_map, slice_get}
use Rattle.std.proofs.lemmas.List.{length-map}
use Rattle.std.proofs.lemmas.Option.{slice_get-map, same_Some}
use Rattle.sexp_reader.specs.Text.{Text}
use Rattle.pc_terms.specs.Syntax.{Term, Rel, put_all}
use Rattle.calculus_rules.specs.declared.declaration.Constructor.{Constructor}
use Rattle.calculus_rules.specs.Environment.{Env}
use Rattle.calculus_rules.specs.Instances.{branch_entries}
use Rattle.calculus_rules.specs.Lookups.{if_some}
use Rattle.calculus_rules.specs.FirstOrder.{Data, Shape as Member, IsFirstOrder, IsMember, ConstructorsAt, no_constructor, a_constructor, ArgumentsAt, no_argument, an_argument}
use Rattle.typing_laws.proofs.Telescopes.{entries_at_length}
use Rattle.lambda_box.specs.BoxForm.{AreFew}
use Rattle.erase_laws.specs.ErasedProgram.{arguments_of}
use Rattle.erase_rules.specs.Laws.{AreFewCounts}
use Rattle.first_order.specs.declared.shapes.Shape.{Shape}
use Rattle.first_order.specs.declared.shapes.Shapes.{Shapes}
use Rattle.first_order.specs.declared.shapes.ShapeCtor.{ShapeCtor}
use Rattle.first_order.specs.ArgumentTexts.{is_text, ctor_from, ctor_at, SpellsItem, name_alone, in_brackets, SpellsItems, no_item, one_item, SpellsEach, no_argument as none_spelled, one_argument, SpellsArguments}
use Rattle.first_order.specs.Awaited.{argument_sets, AreTrees}
use Rattle.first_order.specs.Searching.{member, members, places}
use Rattle.first_order.specs.Signature.{IsSignature, takes}
use Rattle.first_order.specs.DirectedSignature.{sets_of}
use Rattle.data_trees.specs.Preorder.{IsTree}
use Rattle.wasm_core.specs.ModuleCondition.{All as Each}
use Rattle.wasm_core.specs.WordData.{DataNodes}
use Rattle.wasm_core.proofs.Eaches.{each_append}
use Rattle.mem_value.specs.Storing.{IsSmallData, IsSmallNode}

-- ---- the counts of a type that is found

arguments_count : {E : Env} {S : List Member} (n : ℕ) (Bs : List Term) (js : List ℕ) → ArgumentsAt E S n Bs js → length Bs ≡ length js
arguments_count n _ _ no_argument = refl
arguments_count n _ _ (an_argument {Bs = Bs} {js = js} is at r) = ap suc (arguments_count (suc n) Bs js r)

constructors_count : {E : Env} {S : List Member} (ps : List Term) (Cs : List Constructor) (jss : List (List ℕ)) → ConstructorsAt E S ps Cs jss → length Cs ≡ length jss
constructors_count ps _ _ no_constructor = refl
constructors_count ps _ _ (a_constructor {Cs = Cs} {jss = jss} a r) = ap suc (constructors_count ps Cs jss r)

arguments_few : {E : Env} {S : List Member} (ps : List Term) (Cs : List Constructor) (jss : List (List ℕ)) → ConstructorsAt E S ps Cs jss → AreFew (map arguments_of Cs) → (c : ℕ) (js : List ℕ) → slice_get jss c ≡ Some js →
    length js ≤ 255
arguments_few ps _ _ no_constructor few c js at = absurd cc
arguments_few ps _ _ (a_constructor {C = C} {js = ks} a r) few zero js at =
    let same : ks ≡ js = cc in
    let count : length (branch_entries C ps) ≡ length ks = arguments_count 0 (branch_entries C ps) ks a in
    let long : length (branch_entries C ps) ≡ length C.args = entries_at_length (put_all ps Rel) C.args in
    let le : length C.args ≤ 255 = few.0 in
    subst (λ ls. length ls ≤ 255) same (omega (arith, count, long, le))
arguments_few ps _ _ (a_constructor {Cs = Cs} {jss = jss} a r) few (suc c) js at = arguments_few ps Cs jss r few.1 c js at

pub record IsFewShape (h : Shape) : Type 0 where
  pub constructors : length h.ctors ≤ 1024
  pub arguments : (c : ℕ) (k : ShapeCtor) → slice_get h.ctors c ≡ Some k → length k.args ≤ 255

-- each type of a set is so
abbrev pub AreFewShapes : List Shape → Type 0
AreFewShapes S = (i : ℕ) (h : Shape) → slice_get S i ≡ Some h → IsFewShape h

abbrev pub AllAreFew : List Shapes → Type 0
AllAreFew ss = Each (λ (s : Shapes). AreFewShapes s.types) ss

module _ (E : Env) (few : AreFewCounts E) where
  set_few : (T : Term) (S : List Shape) → IsFirstOrder E T (members S) → AreFewShapes S
  set_few T S first i h at =
      let m : IsMember E (members S) (member h) = first.members i (member h) (slice_get-map member S i ∙ ap (option_map member) at) in
      let counts = few (member h).family m.declared m.kept in
      let same : length m.declared.constructors ≡ length (map places h.ctors) = constructors_count (member h).parameters m.declared.constructors (map places h.ctors) m.constructors in
      let count : length (map places h.ctors) ≡ length h.ctors = length-map h.ctors places in
      let most : length m.declared.constructors ≤ 1024 = subst (λ n. n ≤ 1024) (length-map m.declared.constructors arguments_of) counts.constructors in
      record {
        constructors = omega (arith, same, count, most);
        arguments = λ c k is. arguments_few (member h).parameters m.declared.constructors (map places h.ctors) m.constructors counts.args c k.args (slice_get-map places h.ctors c ∙ ap (option_map places) is);
      }

  pub signature_few : (T : Term) (ss : List Shapes) (R : List Member) → IsSignature E T (sets_of ss) R → AllAreFew ss
  signature_few T [] R h = tt
  signature_few T (s ∷ ss) R (takes {A = A} {C = C} w first is rest) = (set_few A s.types first, signature_few C ss R rest)

-- ---- what a text spells at such types

record IsCtorIn (ks : List ShapeCtor) (n c : ℕ) (js : List ℕ) : Type 0 where
  below : c < n + length ks
  place : ℕ
  ctor : ShapeCtor
  at : slice_get ks place ≡ Some ctor
  is : ctor.args ≡ js

found_in : (names : List (List ℕ)) (a : List ℕ) (n : ℕ) (ks : List ShapeCtor) (c : ℕ) (js : List ℕ) → ctor_from names a n ks ≡ Some (c, js) → IsCtorIn ks n c js
unfolding ctor_from
found_in names a n [] c js e = absurd cc
found_in names a n (k ∷ ks) c js e = split (is_text a (slice_get names k.name.0)) e (λ more. found_in names a (suc n) ks c js more)
  where
    split : (b : Bool) → (if b then Some (n, k.args) else ctor_from names a (suc n) ks) ≡ Some (c, js) → (ctor_from names a (suc n) ks ≡ Some (c, js) → IsCtorIn ks (suc n) c js) → IsCtorIn (k ∷ ks) n c js
    split true e later =
        let same : (n, k.args) ≡ (c, js) = same_Some _ _ e in
        let number : n ≡ c = ap (λ (p : ℕ × List ℕ). p.0) same in
        record { below = subst (λ x. x < n + suc (length ks)) number (omega arith); place = 0; ctor = k; at = refl; is = ap (λ (p : ℕ × List ℕ). p.1) same }
    split false e later = (let r = later e in let lt = r.below in record { below = omega (arith, lt); place = suc r.place; ctor = r.ctor; at = r.at; is = r.is })

ctor_small : (names : List (List ℕ)) (S : List Shape) → AreFewShapes S → (i : ℕ) (a : List ℕ) (c : ℕ) (js : List ℕ) → ctor_at names S i a ≡ Some (c, js) → (c < 1024) × (length js ≤ 255)
ctor_small names S few i a c js e = at (slice_get S i) refl e
  where
    at : (o : Option Shape) → slice_get S i ≡ o → if_some o (λ h. ctor_from names a 0 h.ctors) ≡ Some (c, js) → (c < 1024) × (length js ≤ 255)
    at None is e = absurd cc
    at (Some h) is e =
        let f = few i h is in
        let r = found_in names a 0 h.ctors c js e in
        let most = f.constructors in
        let lt = r.below in
        (omega (arith, most, lt), subst (λ ls. length ls ≤ 255) r.is (f.arguments r.place r.ctor r.at))

small_node : (c arity : ℕ) → c < 1024 → arity ≤ 255 → IsSmallNode (c, arity)
small_node c arity lt le = (omega (arith, lt), omega (arith, le))

mutual
  item_small : (names : List (List ℕ)) (S : List Shape) → AreFewShapes S → (i : ℕ) (ts : List Text) (d : Data) → SpellsItem names S i ts d → IsSmallData d
  item_small names S few i _ _ (name_alone {c = c} {a = a} e) = (let s = ctor_small names S few i a c [] e in (small_node c 0 s.0 s.1, tt))
  item_small names S few i _ _ (in_brackets {c = c} {j = j} {a = a} {js = js} {ts = ts} {ds = ds} e h) =
      let s = ctor_small names S few i a c (j ∷ js) e in
      (small_node c (suc (length js)) s.0 s.1, items_small names S few (j ∷ js) ts ds h)

  items_small : (names : List (List ℕ)) (S : List Shape) → AreFewShapes S → (js : List ℕ) (ts : List Text) (d : Data) → SpellsItems names S js ts d → IsSmallData d
  items_small names S few _ _ _ no_item = tt
  items_small names S few _ _ _ (one_item {j = j} {js = js} {ts = ts} {us = us} {d = d} {ds = ds} h k) =
      each_append IsSmallNode d ds (item_small names S few j ts d h) (items_small names S few js us ds k)

each_small : (names : List (List ℕ)) (ss : List Shapes) → AllAreFew ss → (ts : List Text) (ds : List Data) → SpellsEach names (argument_sets ss) ts ds → Each IsSmallData ds
each_small names [] few _ _ none_spelled = tt
each_small names (s ∷ ss) few _ _ (one_argument {ts = ts} {us = us} {d = d} {ds = ds} h k) = (item_small names s.types few.0 0 ts d h, each_small names ss few.1 us ds k)

pub arguments_small : (names : List (List ℕ)) (ss : List Shapes) → AllAreFew ss → (ts : List Text) (ds : List Data) → SpellsArguments names (argument_sets ss) ts ds → Each IsSmallData ds
arguments_small names ss few ts ds (some, us, is, h) = each_small names ss few us ds h

pub each_tree : (ds : List DataNodes) → AreTrees ds → Each IsTree ds
each_tree [] h = tt
each_tree (d ∷ ds) h = (h.0, each_tree ds h.1)
