-- The tokens of terms, former by former, and of their lists item by item.
use Rattle.std.proofs.Common.{◌≡◌, ℕ, zero, suc, ◌<◌, ◌≤◌, ◌-◌, max, List, [], ◌∷◌, length, get_or, Bool, true, false, refl, sym, ap, subst, ◌∙◌, arith}
use Rattle.sexp_reader.specs.Text.{Text, Open, Close}
use Rattle.dump_grammar.specs.Numbers.{word}
use Rattle.dump_grammar.specs.declared.keyword.Keyword.TheVariants as words
use Rattle.trees.specs.Tree.{terms_of}
use Rattle.trees.specs.Measures.{depth, depth_trees}
use Rattle.pc_terms.specs.Syntax as s
use Rattle.pc_terms.specs.View.{tree_of}
use Rattle.pc_terms.specs.Lists.{arms_of, types_of, bodies_of, rargs_of, depth_defs}
use Rattle.pc_terms.specs.declared.leaf.FamilyId.{FamilyId}
use Rattle.pc_terms.specs.declared.term.Branch.{Branch}
use Rattle.pc_terms.specs.declared.term.Def.{Def}
use Rattle.pc_terms.specs.declared.term.Node.{Node}
use Rattle.pc_terms.specs.declared.term.Node.TheVariants.{Rel, Sort, Prod, Lambda, LetIn, App, Const, Ind, Construct, Case, Fix}
use Rattle.dump_printer.specs.CanonicalTerms.{numeral, anonymous_names, each}
use Rattle.dump_printer.specs.Cut.{cut, each_term, each_branch, each_definition, dots}
use Rattle.dump_printer.specs.TermLists.{family_id, arm, definition}
use Rattle.pc_terms.proofs.Depths.{body_within, term_within}

-- ---- lists of terms

module _ (d : ℕ) (ns ls : List (List ℕ)) where
  terms-each : (xs : List s.Term) (more : List Text) → each_term (cut d false ns ls) (terms_of xs) more ≡ each (cut d false ns ls) xs more
  unfolding each_term each
  terms-each [] more = refl
  terms-each (x ∷ xs) more = ap (λ (ts : List Text). cut d false ns ls x ts) (terms-each xs more)

  branches-each : (bs : List Branch) (more : List Text) → each_branch (cut d false ns ls) (arms_of bs) more ≡ each (arm d ns ls) bs more
  unfolding each_branch each
  branches-each [] more = refl
  branches-each (b ∷ bs) more = ap (λ (ts : List Text). arm d ns ls b ts) (branches-each bs more)

  definitions-each : (m : ℕ) (ds : List Def) (more : List Text) → each_definition (cut d false ns ls) (rargs_of ds) (types_of ds) (bodies_of m ds) more ≡ each (definition d ns ls) ds more
  unfolding each_definition each
  definitions-each m [] more = refl
  definitions-each m (x ∷ ds) more = ap (λ (ts : List Text). definition d ns ls x ts) (definitions-each m ds more)

  pub match-tokens : (f : FamilyId) (ps : List s.Term) (n : ℕ) (ret scrut : s.Term) (bs : List Branch) (more : List Text) →
      cut (suc d) false ns ls (s.Case f (terms_of ps) n ret scrut (arms_of bs)) more
      ≡ Open ∷ word words.Case ∷ Open ∷ family_id ns f (Close ∷ Open ∷ word words.Params ∷ each (cut d false ns ls) ps (Close
      ∷ Open ∷ word words.Pred ∷ Open ∷ anonymous_names n (Close ∷ cut d false ns ls ret (Close ∷ cut d false ns ls scrut (each (arm d ns ls) bs (Close ∷ more))))))
  unfolding cut
  match-tokens f ps n ret scrut bs more =
      ap (λ (ts : List Text). Open ∷ word words.Case ∷ Open ∷ family_id ns f (Close ∷ Open ∷ word words.Params ∷ each_term (cut d false ns ls) (terms_of ps) (Close ∷ Open ∷ word words.Pred ∷ Open ∷ anonymous_names n (Close ∷ cut d false ns ls ret (Close ∷ cut d false ns ls scrut ts)))))
      (branches-each bs (Close ∷ more))
      ∙ ap (λ (ts : List Text). Open ∷ word words.Case ∷ Open ∷ family_id ns f (Close ∷ Open ∷ word words.Params ∷ ts)) (terms-each ps _)

  pub fix-tokens : (i : ℕ) (ds : List Def) (more : List Text) →
      cut (suc d) false ns ls (s.Fix i (rargs_of ds) (types_of ds) (bodies_of (length ds) ds)) more
      ≡ Open ∷ word words.Fix ∷ Open ∷ each (definition d ns ls) ds (Close ∷ numeral i ∷ Close ∷ more)
  unfolding cut
  fix-tokens i ds more = ap (λ (ts : List Text). Open ∷ word words.Fix ∷ Open ∷ ts) (definitions-each (length ds) ds (Close ∷ numeral i ∷ Close ∷ more))

  pub run-tokens : (f a : s.Term) (more : List Text) → cut (suc d) true ns ls (s.App f a) more ≡ cut d true ns ls f (cut d false ns ls a more)
  unfolding cut
  run-tokens f a more = refl

module _ (ns ls : List (List ℕ)) where
  pub cut-both : (t : s.Term) (more : List Text) → cut 0 true ns ls t more ≡ cut 0 false ns ls t more
  unfolding cut
  cut-both t more = refl

  pub cut-off : (in_run : Bool) (t : s.Term) (more : List Text) → cut 0 in_run ns ls t more ≡ dots ∷ more
  unfolding cut
  cut-off in_run t more = refl

  -- What is no application begins no run.
  pub head-tokens : (d : ℕ) (n : Node) (more : List Text) → ((f a : s.Term) → n ≡ App f a → ⊥) → cut d true ns ls (tree_of n) more ≡ cut d false ns ls (tree_of n) more
  unfolding cut
  head-tokens zero n more h = refl
  head-tokens (suc d) (Rel i) more h = refl
  head-tokens (suc d) (Sort t) more h = refl
  head-tokens (suc d) (Prod a b) more h = refl
  head-tokens (suc d) (Lambda a b) more h = refl
  head-tokens (suc d) (LetIn v a b) more h = refl
  head-tokens (suc d) (App f a) more h = absurd (h f a refl)
  head-tokens (suc d) (Const c) more h = refl
  head-tokens (suc d) (Ind f) more h = refl
  head-tokens (suc d) (Construct f c) more h = refl
  head-tokens (suc d) (Case m) more h = refl
  head-tokens (suc d) (Fix ds i) more h = refl

  pub run-at : (k d : ℕ) (t : s.Term) (n : Node) (f a : s.Term) (more : List Text) → k ≡ suc d → tree_of n ≡ t → n ≡ App f a →
      cut k true ns ls t more ≡ cut d true ns ls f (cut d false ns ls a more)
  run-at k d t n f a more l e i =
      ap (λ j. cut j true ns ls t more) l ∙ sym (ap (λ u. cut (suc d) true ns ls u more) e) ∙ ap (λ m. cut (suc d) true ns ls (tree_of m) more) i ∙ run-tokens d ns ls f a more

  pub head-at : (d : ℕ) (t : s.Term) (n : Node) (more : List Text) → tree_of n ≡ t → ((f a : s.Term) → n ≡ App f a → ⊥) → cut d true ns ls t more ≡ cut d false ns ls t more
  head-at d t n more e h = sym (ap (λ u. cut d true ns ls u more) e) ∙ head-tokens d n more h ∙ ap (λ u. cut d false ns ls u more) e

-- ---- the members of a list are no deeper than the list

deep-definition : (m : ℕ) (ds : List Def) (i : ℕ) (d : Def) → i < length ds → max (depth (get_or ds i d).ty) (depth (get_or ds i d).body) ≤ max (depth_trees (types_of ds)) (depth_trees (bodies_of m ds))
deep-definition m [] i d h = absurd (omega arith)
deep-definition m (e ∷ ds) zero d h = omega arith
deep-definition m (e ∷ ds) (suc i) d h = omega (arith, deep-definition m ds i d (omega arith))

pub deep-def : (ds : List Def) (i : ℕ) (d : Def) → i < length ds → max (depth (get_or ds i d).ty) (depth (get_or ds i d).body) ≤ depth_defs ds
deep-def ds i d h = deep-definition (length ds) ds i d h

pub deep-term-at : (xs ys : List s.Term) (i : ℕ) (x : s.Term) → xs ≡ ys → x ≡ get_or xs i x → i < length xs → depth x ≤ depth_trees (terms_of ys)
deep-term-at xs ys i x e is h = subst (λ zs. depth x ≤ depth_trees (terms_of zs)) e (subst (λ y. depth y ≤ depth_trees (terms_of xs)) (sym is) (term_within xs i x h))

pub deep-arm-at : (xs ys : List Branch) (i : ℕ) (x : Branch) → xs ≡ ys → x ≡ get_or xs i x → i < length xs → depth x.body ≤ depth_trees (arms_of ys)
deep-arm-at xs ys i x e is h = subst (λ zs. depth x.body ≤ depth_trees (arms_of zs)) e (subst (λ (y : Branch). depth y.body ≤ depth_trees (arms_of xs)) (sym is) (body_within xs i x h))

pub deep-def-at : (xs ys : List Def) (i : ℕ) (x : Def) → xs ≡ ys → x ≡ get_or xs i x → i < length xs → max (depth x.ty) (depth x.body) ≤ depth_defs ys
deep-def-at xs ys i x e is h = subst (λ zs. max (depth x.ty) (depth x.body) ≤ depth_defs zs) e (subst (λ (y : Def). max (depth y.ty) (depth y.body) ≤ depth_defs xs) (sym is) (deep-def xs i x h))
