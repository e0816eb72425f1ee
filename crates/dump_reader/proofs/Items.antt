-- The lists within a tree: their uses and their values, item by item.
use Rattle.std.proofs.Common.{◌≡◌, ℕ, ◌+◌, ◌<◌, ◌≤◌, ◌^◌, List, [], ◌∷◌, ◌++◌, map, length, take, get_or, refl, sym, ap, subst, arith}
use Rattle.trees.specs.Tree as trees
use Rattle.trees.specs.Measures.{above, above_trees}
use Rattle.pc_terms.specs.Syntax as terms
use Rattle.pc_terms.specs.Lists.{arms_of, types_of, bodies_of, rargs_of}
use Rattle.pc_terms.specs.declared.term.Branch.{Branch as Arm}
use Rattle.pc_terms.specs.declared.term.Def.{Def as Definition}
use Rattle.dump_grammar.specs.Named.{Named, terms_of, branches_of, defs_of}
use Rattle.dump_grammar.specs.Uses.{names, levels, names_of_terms, levels_of_terms, names_of_branches, levels_of_branches, names_of_defs, levels_of_defs, each}
use Rattle.dump_parser.specs.declared.tree.Branch.{Branch}
use Rattle.dump_parser.specs.declared.tree.Def.{Def}
use Rattle.dump_parser.specs.Tree.{named_branch, named_def}
use Rattle.dump_reader.specs.declared.numbering.Tables.{Tables}
use Rattle.dump_reader.specs.Numbered.{recursive_arguments, numbered_term, numbered_terms, numbered_branches, numbered_types, numbered_bodies}
use Rattle.dump_reader.specs.Made.{IsTerm, AreTerms, branch_names, branch_levels, numbered_branch, AreBranches, def_names, def_levels, numbered_def, AreDefs}
use Rattle.dump_reader.proofs.Growth.{both, restated, none-yet, one-more-at}

-- ---- uses

pub term-names : (ts : List Named) (after : List (List ℕ)) → names_of_terms (terms_of ts) after ≡ each names ts after
unfolding names each
term-names [] after = refl
term-names (t ∷ ts) after = ap (names t) (term-names ts after)

pub term-levels : (ts : List Named) (after : List (List ℕ)) → levels_of_terms (terms_of ts) after ≡ each levels ts after
unfolding levels each
term-levels [] after = refl
term-levels (t ∷ ts) after = ap (levels t) (term-levels ts after)

pub branch-names : (bs : List Branch) (after : List (List ℕ)) → names_of_branches (branches_of (map named_branch bs)) after ≡ each branch_names bs after
unfolding names each
branch-names [] after = refl
branch-names (b ∷ bs) after = ap (names b.body) (branch-names bs after)

pub branch-levels : (bs : List Branch) (after : List (List ℕ)) → levels_of_branches (branches_of (map named_branch bs)) after ≡ each branch_levels bs after
unfolding levels each
branch-levels [] after = refl
branch-levels (b ∷ bs) after = ap (levels b.body) (branch-levels bs after)

pub def-names : (ds : List Def) (after : List (List ℕ)) → names_of_defs (defs_of (map named_def ds)) after ≡ each def_names ds after
unfolding names each
def-names [] after = refl
def-names (d ∷ ds) after = ap (λ more. names d.ty (names d.body more)) (def-names ds after)

pub def-levels : (ds : List Def) (after : List (List ℕ)) → levels_of_defs (defs_of (map named_def ds)) after ≡ each def_levels ds after
unfolding levels each
def-levels [] after = refl
def-levels (d ∷ ds) after = ap (λ more. levels d.ty (levels d.body more)) (def-levels ds after)

-- ---- values

module _ (ns ls : List (List ℕ)) where
  pub term-values : (ts : List Named) → trees.terms_of (map (numbered_term ns ls) ts) ≡ numbered_terms ns ls (terms_of ts)
  unfolding numbered_term
  term-values [] = refl
  term-values (t ∷ ts) = ap (trees.Next 0 (numbered_term ns ls t)) (term-values ts)

  pub branch-values : (bs : List Branch) → arms_of (map (numbered_branch ns ls) bs) ≡ numbered_branches ns ls (branches_of (map named_branch bs))
  unfolding numbered_term
  branch-values [] = refl
  branch-values (b ∷ bs) = ap (trees.Next b.binders (numbered_term ns ls b.body)) (branch-values bs)

  pub rarg-values : (ds : List Def) → rargs_of (map (numbered_def ns ls) ds) ≡ recursive_arguments (defs_of (map named_def ds))
  unfolding recursive_arguments
  rarg-values [] = refl
  rarg-values (d ∷ ds) = ap (λ (xs : List ℕ). d.rarg ∷ xs) (rarg-values ds)

  pub type-values : (ds : List Def) → types_of (map (numbered_def ns ls) ds) ≡ numbered_types ns ls (defs_of (map named_def ds))
  unfolding numbered_term
  type-values [] = refl
  type-values (d ∷ ds) = ap (trees.Next 0 (numbered_term ns ls d.ty)) (type-values ds)

  pub body-values : (m : ℕ) (ds : List Def) → bodies_of m (map (numbered_def ns ls) ds) ≡ numbered_bodies ns ls m (defs_of (map named_def ds))
  unfolding numbered_term
  body-values m [] = refl
  body-values m (d ∷ ds) = ap (trees.Next m (numbered_term ns ls d.body)) (body-values m ds)

-- ---- variables are numbers of 32 bits

small-terms : (xs : List terms.Term) (y : terms.Term) (n : ℕ) → above_trees (trees.terms_of xs) ≤ n → above y ≤ n → above_trees (trees.terms_of (xs ++ y ∷ [])) ≤ n
small-terms [] y n h k = omega arith
small-terms (x ∷ xs) y n h k = (let l : above_trees (trees.terms_of (xs ++ y ∷ [])) ≤ n = small-terms xs y n (omega arith) k in omega arith)

small-arms : (xs : List Arm) (y : Arm) (n : ℕ) → above_trees (arms_of xs) ≤ n → above y.body ≤ n → above_trees (arms_of (xs ++ y ∷ [])) ≤ n
small-arms [] y n h k = omega arith
small-arms (x ∷ xs) y n h k = (let l : above_trees (arms_of (xs ++ y ∷ [])) ≤ n = small-arms xs y n (omega arith) k in omega arith)

small-types : (xs : List Definition) (y : Definition) (n : ℕ) → above_trees (types_of xs) ≤ n → above y.ty ≤ n → above_trees (types_of (xs ++ y ∷ [])) ≤ n
small-types [] y n h k = omega arith
small-types (x ∷ xs) y n h k = (let l : above_trees (types_of (xs ++ y ∷ [])) ≤ n = small-types xs y n (omega arith) k in omega arith)

small-bodies : (m : ℕ) (xs : List Definition) (y : Definition) (n : ℕ) → above_trees (bodies_of m xs) ≤ n → above y.body ≤ n → above_trees (bodies_of m (xs ++ y ∷ [])) ≤ n
small-bodies m [] y n h k = omega arith
small-bodies m (x ∷ xs) y n h k = (let l : above_trees (bodies_of m (xs ++ y ∷ [])) ≤ n = small-bodies m xs y n (omega arith) k in omega arith)

-- ---- lists as loops make them

module _ (t : Tables) where
  pub no-terms : (xs : List terms.Term) → xs ≡ [] → AreTerms [] t t xs
  no-terms xs e = subst (λ (ys : List terms.Term). AreTerms [] t t ys) (sym e) (record { numbers = none-yet names levels numbered_term t; small = omega arith })

  pub no-branches : (xs : List Arm) → xs ≡ [] → AreBranches [] t t xs
  no-branches xs e = subst (λ (ys : List Arm). AreBranches [] t t ys) (sym e) (record { numbers = none-yet branch_names branch_levels numbered_branch t; small = omega arith })

  pub no-defs : (xs : List Definition) → xs ≡ [] → AreDefs [] t t xs
  no-defs xs e =
      subst (λ (ys : List Definition). AreDefs [] t t ys) (sym e) (record { numbers = none-yet def_names def_levels numbered_def t; small_types = omega arith; small_bodies = λ m. omega arith })

pub one-term : (ts : List Named) (i : ℕ) (t : Named) (ys zs : List terms.Term) (y : terms.Term) {old mid new : Tables} → t ≡ get_or ts i t → i < length ts → zs ≡ ys ++ y ∷ []
    → AreTerms (take i ts) old mid ys → IsTerm t mid new y → AreTerms (take (i + 1) ts) old new zs
one-term ts i t ys zs y at within put p q = record {
  numbers = one-more-at names levels numbered_term ts i t ys zs y at within put p.numbers q.numbers;
  small = subst (λ (xs : List terms.Term). above_trees (trees.terms_of xs) ≤ 2 ^ 32) (sym put) (small-terms ys y (2 ^ 32) p.small q.small);
}

pub one-branch : (bs : List Branch) (i : ℕ) (b : Branch) (ys zs : List Arm) (y : terms.Term) {old mid new : Tables} → b ≡ get_or bs i b → i < length bs
    → zs ≡ ys ++ record { binders = b.binders; body = y } ∷ [] → AreBranches (take i bs) old mid ys → IsTerm b.body mid new y → AreBranches (take (i + 1) bs) old new zs
one-branch bs i b ys zs y at within put p q =
    let arm : Arm = record { binders = b.binders; body = y } in
    record {
      numbers = one-more-at branch_names branch_levels numbered_branch bs i b ys zs arm at within put p.numbers
          (record { names_grow = q.numbers.names_grow; levels_grow = q.numbers.levels_grow; is_value = λ ns ls j. record { binders = b.binders; body = q.numbers.is_value ns ls j } });
      small = subst (λ (xs : List Arm). above_trees (arms_of xs) ≤ 2 ^ 32) (sym put) (small-arms ys arm (2 ^ 32) p.small q.small);
    }

pub one-def : (ds : List Def) (i : ℕ) (d : Def) (ys zs : List Definition) (y z : terms.Term) {old mid after new : Tables} → d ≡ get_or ds i d → i < length ds
    → zs ≡ ys ++ record { ty = y; body = z; rarg = d.rarg } ∷ [] → AreDefs (take i ds) old mid ys → IsTerm d.ty mid after y → IsTerm d.body after new z → AreDefs (take (i + 1) ds) old new zs
one-def ds i d ys zs y z at within put p q r =
    let def : Definition = record { ty = y; body = z; rarg = d.rarg } in
    record {
      numbers = one-more-at def_names def_levels numbered_def ds i d ys zs def at within put p.numbers
          (restated (both q.numbers (λ a b. record { ty = a; body = b; rarg = d.rarg }) r.numbers) (λ after. refl) (λ after. refl) (λ ns ls. refl) refl);
      small_types = subst (λ (xs : List Definition). above_trees (types_of xs) ≤ 2 ^ 32) (sym put) (small-types ys def (2 ^ 32) p.small_types q.small);
      small_bodies = λ m. subst (λ (xs : List Definition). above_trees (bodies_of m xs) ≤ 2 ^ 32) (sym put) (small-bodies m ys def (2 ^ 32) (p.small_bodies m) r.small);
    }
