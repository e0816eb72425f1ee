-- What is made of each former of a tree, from what is made of its parts.
use Rattle.std.proofs.Common.{◌≡◌, ℕ, ◌<◌, ◌≤◌, ◌^◌, List, [], ◌∷◌, map, length, Result, IfOk, refl, sym, ap, subst, ◌∙◌, arith}
use Rattle.std.proofs.lemmas.List.{length-map}
use Rattle.std.proofs.lemmas.Result.{IfOk-weaker}
use Rattle.dump_grammar.specs.Limits.{depth_limit}
use Rattle.trees.specs.Tree as trees
use Rattle.trees.specs.Measures.{above, above_trees, IsWithin}
use Rattle.trees.specs.Measures as m
use Rattle.universe_levels.specs.declared.sort.Sort.{Sort as Sorts}
use Rattle.pc_terms.specs.declared.leaf.Name.{Name}
use Rattle.pc_terms.specs.Syntax as terms
use Rattle.pc_terms.specs.Lists.{arms_of, types_of, bodies_of, rargs_of}
use Rattle.pc_terms.specs.declared.term.Branch.{Branch as Arm}
use Rattle.pc_terms.specs.declared.term.Def.{Def as Definition}
use Rattle.pc_terms.proofs.Parts.{rargs_length}
use Rattle.dump_grammar.specs.declared.refusal.ReadRefusal.{ReadRefusal}
use Rattle.dump_grammar.specs.Terms.{cast}
use Rattle.dump_grammar.specs.Named.{NamedSort, Named, Rel, Sort, Prod, Lambda, LetIn, App, Const, Ind, Construct, Case, Fix, terms_of, branches_of, defs_of, depth}
use Rattle.dump_grammar.specs.Uses.{names, levels, levels_of_sort, names_of_branches, levels_of_branches, each}
use Rattle.dump_parser.specs.declared.tree.Branch.{Branch}
use Rattle.dump_parser.specs.declared.tree.Def.{Def}
use Rattle.dump_parser.specs.Tree.{named_branch, named_def}
use Rattle.dump_reader.specs.declared.numbering.Tables.{Tables}
use Rattle.dump_reader.specs.Numbered.{name_number, numbered_sort, recursive_arguments, numbered_term, numbered_bodies}
use Rattle.dump_reader.specs.Growth.{unused, Numbers}
use Rattle.dump_reader.specs.Made.{IsTerm, AreTerms, AreBranches, AreDefs, numbered_def}
use Rattle.dump_reader.proofs.Growth.{plain, on, both, kept, restated}
use Rattle.dump_reader.proofs.Depths.{depth-numbered}
use Rattle.dump_reader.proofs.Items.{term-names, term-levels, branch-names, branch-levels, def-names, def-levels, term-values, branch-values, rarg-values, type-values, body-values}

-- ---- results

pub as-term : {t : Named} {old new : Tables} {x y : terms.Term} → x ≡ y → IsTerm t old new y → IsTerm t old new x
as-term {t} {old} {new} e p = subst (λ (z : terms.Term). IsTerm t old new z) (sym e) p

pub of-tree : {t u : Named} {old new : Tables} {x : terms.Term} → t ≡ u → IsTerm u old new x → IsTerm t old new x
of-tree {t} {u} {old} {new} {x} e p = subst (λ (z : Named). IsTerm z old new x) (sym e) p

pub term-result : {t : Named} {old new : Tables} {x : terms.Term} → IsTerm t old new x → (r : Result terms.Term ReadRefusal) → IfOk r (λ y. y ≡ x) → IfOk r (IsTerm t old new)
term-result {t} {old} {new} {x} p r h = IfOk-weaker r (λ y. y ≡ x) (IsTerm t old new) (λ y e. as-term e p) h

-- a term has the depth of its tree, so it is within the limits where the tree is
pub term-within : {t : Named} {old new : Tables} {x : terms.Term} → IsTerm t old new x → depth t ≤ depth_limit → IsWithin x
term-within {t} {old} {new} {x} p h =
    let same : m.depth x ≡ depth t = ap (λ (z : terms.Term). m.depth z) (p.numbers.is_value [] []) ∙ depth-numbered _ _ t in
    (omega arith, p.small)

-- tables with the same texts
pub kept-term : {t : Named} {old mid new : Tables} {x : terms.Term} → IsTerm t old mid x → new.names ≡ mid.names → new.levels ≡ mid.levels → IsTerm t old new x
kept-term p ns-same ls-same = record { numbers = kept p.numbers ns-same ls-same; small = p.small }

-- lists in other words
pub terms-along : {ts us : List Named} {xs ys : List terms.Term} {old new : Tables} → ts ≡ us → ys ≡ xs → AreTerms ts old new xs → AreTerms us old new ys
terms-along {us = us} {xs = xs} {old = old} {new = new} e f p = subst (λ (z : List terms.Term). AreTerms us old new z) (sym f) (subst (λ (z : List Named). AreTerms z old new xs) e p)

pub branches-along : {ts us : List Branch} {xs ys : List Arm} {old new : Tables} → ts ≡ us → ys ≡ xs → AreBranches ts old new xs → AreBranches us old new ys
branches-along {us = us} {xs = xs} {old = old} {new = new} e f p = subst (λ (z : List Arm). AreBranches us old new z) (sym f) (subst (λ (z : List Branch). AreBranches z old new xs) e p)

pub defs-along : {ts us : List Def} {xs ys : List Definition} {old new : Tables} → ts ≡ us → ys ≡ xs → AreDefs ts old new xs → AreDefs us old new ys
defs-along {us = us} {xs = xs} {old = old} {new = new} e f p = subst (λ (z : List Definition). AreDefs us old new z) (sym f) (subst (λ (z : List Def). AreDefs z old new xs) e p)

-- ---- leaves

pub rel-term : (n : ℕ) (t : Tables) → n < 2 ^ 32 → IsTerm (Rel n) t t (terms.Rel n)
unfolding names levels numbered_term
rel-term n t h = record { numbers = restated (plain (terms.Rel n) t) (λ after. refl) (λ after. refl) (λ ns ls. refl) refl; small = omega arith }

module _ {old new : Tables} where
  pub sort-term : (s : NamedSort) (x : Sorts) → Numbers unused (levels_of_sort s) (λ ns ls. numbered_sort ls s) old new x → IsTerm (Sort s) old new (terms.SortT x)
  unfolding names levels numbered_term
  sort-term s x p = record { numbers = restated (on p (λ y. terms.SortT y)) (λ after. refl) (λ after. refl) (λ ns ls. refl) refl; small = omega arith }

  module _ (k : List ℕ) (x : Name) (p : Numbers (λ after. k ∷ after) unused (λ ns ls. name_number ns k) old new x) where
    pub const-term : IsTerm (Const k) old new (terms.Const x)
    unfolding names levels numbered_term
    const-term = record { numbers = restated (on p (λ y. terms.Const y)) (λ after. refl) (λ after. refl) (λ ns ls. refl) refl; small = omega arith }

    pub ind-term : (n : ℕ) → IsTerm (Ind k n) old new (terms.Ind (record { block = x; family = n }))
    unfolding names levels numbered_term
    ind-term n = record { numbers = restated (on p (λ y. terms.Ind (record { block = y; family = n }))) (λ after. refl) (λ after. refl) (λ ns ls. refl) refl; small = omega arith }

    pub construct-term : (n c : ℕ) → IsTerm (Construct k n c) old new (terms.Construct (record { block = x; family = n }) c)
    unfolding names levels numbered_term
    construct-term n c = record { numbers = restated (on p (λ y. terms.Construct (record { block = y; family = n }) c)) (λ after. refl) (λ after. refl) (λ ns ls. refl) refl; small = omega arith }

-- ---- nodes

module _ {old mid new : Tables} {A B : Named} {x y : terms.Term} (p : IsTerm A old mid x) (q : IsTerm B mid new y) where
  pub prod-term : IsTerm (Prod A B) old new (terms.Prod x y)
  unfolding names levels numbered_term
  prod-term = record { numbers = restated (both p.numbers (λ a b. terms.Prod a b) q.numbers) (λ after. refl) (λ after. refl) (λ ns ls. refl) refl; small = omega (arith, p.small, q.small) }

  pub lambda-term : IsTerm (Lambda A B) old new (terms.Lambda x y)
  unfolding names levels numbered_term
  lambda-term = record { numbers = restated (both p.numbers (λ a b. terms.Lambda a b) q.numbers) (λ after. refl) (λ after. refl) (λ ns ls. refl) refl; small = omega (arith, p.small, q.small) }

  pub app-term : IsTerm (App A B) old new (terms.App x y)
  unfolding names levels numbered_term
  app-term = record { numbers = restated (both p.numbers (λ a b. terms.App a b) q.numbers) (λ after. refl) (λ after. refl) (λ ns ls. refl) refl; small = omega (arith, p.small, q.small) }

  pub let-term : {after : Tables} {C : Named} {z : terms.Term} → IsTerm C new after z → IsTerm (LetIn A B C) old after (terms.LetIn x y z)
  unfolding names levels numbered_term
  let-term r = record {
    numbers = restated (both {X = terms.Term → terms.Term} (both p.numbers (λ a b c. terms.LetIn a b c) q.numbers) (λ f c. f c) r.numbers) (λ after. refl) (λ after. refl) (λ ns ls. refl) refl;
    small = omega (arith, p.small, q.small, r.small);
  }

pub cast-term : {old mid new : Tables} {t T : Named} {x y : terms.Term} → IsTerm T old mid y → IsTerm t mid new x → IsTerm (cast t T) old new (terms.App (terms.Lambda y (terms.Rel 0)) x)
cast-term {mid = mid} p q = app-term (lambda-term p (rel-term 0 mid (omega arith))) q

pub case-term : {t0 t1 t2 t3 t4 t5 : Tables} (k : List ℕ) (n : ℕ) (ps : List Named) (b : ℕ) (r s : Named) (bs : List Branch) {kx : Name} {xs : List terms.Term} {rx sx : terms.Term} {ys : List Arm}
    → Numbers (λ after. k ∷ after) unused (λ ns ls. name_number ns k) t0 t1 kx → AreTerms ps t1 t2 xs → IsTerm r t2 t3 rx → IsTerm s t3 t4 sx → AreBranches bs t4 t5 ys
    → IsTerm (Case k n (terms_of ps) b r s (branches_of (map named_branch bs))) t0 t5 (terms.Case (record { block = kx; family = n }) (trees.terms_of xs) b rx sx (arms_of ys))
unfolding names levels numbered_term
case-term k n ps b r s bs p q u v w = record {
  numbers =
      restated (both {X = List Arm → terms.Term} (both {X = terms.Term → List Arm → terms.Term} (both {X = terms.Term → terms.Term → List Arm → terms.Term} (both p (λ a c d e f. terms.Case (record { block = a; family = n }) (trees.terms_of c) b d e (arms_of f)) q.numbers)
      (λ g d. g d) u.numbers) (λ g e. g e) v.numbers) (λ g f. g f) w.numbers)
      (λ after. ap (λ more. k ∷ more) (term-names ps (names r (names s (names_of_branches (branches_of (map named_branch bs)) after))) ∙ ap (λ more. each names ps (names r (names s more))) (branch-names bs after)))
      (λ after. term-levels ps (levels r (levels s (levels_of_branches (branches_of (map named_branch bs)) after))) ∙ ap (λ more. each levels ps (levels r (levels s more))) (branch-levels bs after))
      (λ ns ls. λ i. terms.Case (record { block = name_number ns k; family = n }) (term-values ns ls ps i) b (numbered_term ns ls r) (numbered_term ns ls s) (branch-values ns ls bs i)) refl;
  small = omega (arith, q.small, u.small, v.small, w.small);
}

abbrev fix_of : ℕ → List Definition → terms.Term
fix_of i ds = terms.Fix i (rargs_of ds) (types_of ds) (bodies_of (length ds) ds)

module _ (ns ls : List (List ℕ)) (ds : List Def) where
  def-count : length (map (numbered_def ns ls) ds) ≡ length (recursive_arguments (defs_of (map named_def ds)))
  def-count = sym (rargs_length (map (numbered_def ns ls) ds)) ∙ ap (λ (xs : List ℕ). length xs) (rarg-values ns ls ds)

  fix-value : (i : ℕ) → fix_of i (map (numbered_def ns ls) ds) ≡ numbered_term ns ls (Fix (defs_of (map named_def ds)) i)
  unfolding numbered_term
  fix-value i =
      let bodies : bodies_of (length (map (numbered_def ns ls) ds)) (map (numbered_def ns ls) ds) ≡ numbered_bodies ns ls (length (recursive_arguments (defs_of (map named_def ds)))) (defs_of (map named_def ds)) =
      ap (λ n. bodies_of n (map (numbered_def ns ls) ds)) def-count ∙ body-values ns ls (length (recursive_arguments (defs_of (map named_def ds)))) ds in
      λ j. terms.Fix i (rarg-values ns ls ds j) (type-values ns ls ds j) (bodies j)

-- There are as many definitions as in the tree.
pub defs-count : {ds : List Def} {old new : Tables} {xs : List Definition} → AreDefs ds old new xs → length xs ≡ length ds
defs-count {ds = ds} p = ap (λ (z : List Definition). length z) (p.numbers.is_value [] []) ∙ length-map ds (numbered_def _ _)

pub fix-term : {old new : Tables} (ds : List Def) (i : ℕ) (xs : List Definition) → AreDefs ds old new xs → IsTerm (Fix (defs_of (map named_def ds)) i) old new (terms.Fix i (rargs_of xs) (types_of xs) (bodies_of (length xs) xs))
unfolding names levels
fix-term ds i xs p = record {
  numbers = restated (on p.numbers (fix_of i)) (def-names ds) (def-levels ds) (λ ns ls. fix-value ns ls ds i) refl;
  small = omega (arith, p.small_types, p.small_bodies (length xs));
}
