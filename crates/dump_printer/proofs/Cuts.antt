-- A term that is cut no higher than its own depth is the whole term.
use Rattle.std.proofs.Common.{◌≡◌, ℕ, zero, suc, ◌≤◌, List, [], ◌∷◌, Bool, true, false, refl, ap, ◌∙◌, arith}
use Rattle.sexp_reader.specs.Text.{Text, Open, Close, Atom}
use Rattle.dump_grammar.specs.Numbers.{word}
use Rattle.dump_grammar.specs.declared.keyword.Keyword.TheVariants as words
use Rattle.trees.specs.Measures.{depth, depth_trees}
use Rattle.pc_terms.specs.Syntax.{Term, Terms, Done, Next, Rel, SortT, Prod, Lambda, LetIn, App, Const, Ind, Construct, Case, Fix}
use Rattle.dump_printer.specs.CanonicalTerms.{text_of, numeral, anonymous, anonymous_names, term, terms, branches, pieces, definitions}
use Rattle.dump_printer.specs.Cut.{cut, each_term, each_branch, each_definition}

module _ (ns ls : List (List ℕ)) where
  whole_terms : (d : ℕ) → ((t : Term) (more : List Text) → depth t ≤ d → cut d false ns ls t more ≡ term false ns ls t more) → (ts : Terms) (more : List Text) → depth_trees ts ≤ d → each_term (cut d false ns ls) ts more ≡ terms ns ls ts more
  unfolding each_term term
  whole_terms d ih Done more h = refl
  whole_terms d ih (Next n t ts) more h =
      ap (λ (us : List Text). cut d false ns ls t us) (whole_terms d ih ts more (omega (arith, h))) ∙ ih t _ (omega (arith, h))

  whole_branches : (d : ℕ) → ((t : Term) (more : List Text) → depth t ≤ d → cut d false ns ls t more ≡ term false ns ls t more) → (ts : Terms) (more : List Text) → depth_trees ts ≤ d → each_branch (cut d false ns ls) ts more ≡ branches ns ls ts more
  unfolding each_branch term
  whole_branches d ih Done more h = refl
  whole_branches d ih (Next n t ts) more h =
      ap (λ (us : List Text). Open ∷ word words.Branch ∷ Open ∷ anonymous_names n (Close ∷ cut d false ns ls t (Close ∷ us))) (whole_branches d ih ts more (omega (arith, h)))
      ∙ ap (λ (us : List Text). Open ∷ word words.Branch ∷ Open ∷ anonymous_names n (Close ∷ us)) (ih t _ (omega (arith, h)))

  whole_definitions : (d : ℕ) → ((t : Term) (more : List Text) → depth t ≤ d → cut d false ns ls t more ≡ term false ns ls t more) → (rargs : List ℕ) (types bodies : Terms) (more : List Text) → depth_trees types ≤ d → depth_trees bodies ≤ d →
      each_definition (cut d false ns ls) rargs types bodies more ≡ definitions rargs (pieces ns ls types) (pieces ns ls bodies) more
  unfolding each_definition term
  whole_definitions d ih [] types bodies more h k = refl
  whole_definitions d ih (n ∷ rargs) Done bodies more h k = refl
  whole_definitions d ih (n ∷ rargs) (Next m A types) Done more h k = refl
  whole_definitions d ih (n ∷ rargs) (Next m A types) (Next j b bodies) more h k =
      let front : List Text → List Text = λ ts. Open ∷ word words.Def ∷ anonymous ∷ ts in
      ap (λ (ts : List Text). front (cut d false ns ls A (cut d false ns ls b (numeral n ∷ Close ∷ ts)))) (whole_definitions d ih rargs types bodies more (omega (arith, h)) (omega (arith, k)))
      ∙ ap (λ (ts : List Text). front (cut d false ns ls A ts)) (ih b _ (omega (arith, k)))
      ∙ ap front (ih A _ (omega (arith, h)))

  whole_at : (d : ℕ) (r : Bool) (t : Term) (more : List Text) → depth t ≤ d → cut d r ns ls t more ≡ term r ns ls t more
  unfolding cut term
  whole_at zero r (Rel i) more h = absurd (omega (arith, h))
  whole_at zero r (SortT s) more h = absurd (omega (arith, h))
  whole_at zero r (Prod A B) more h = absurd (omega (arith, h))
  whole_at zero r (Lambda A b) more h = absurd (omega (arith, h))
  whole_at zero r (LetIn b B t) more h = absurd (omega (arith, h))
  whole_at zero r (App f a) more h = absurd (omega (arith, h))
  whole_at zero r (Const c) more h = absurd (omega (arith, h))
  whole_at zero r (Ind f) more h = absurd (omega (arith, h))
  whole_at zero r (Construct f c) more h = absurd (omega (arith, h))
  whole_at zero r (Case f ps n ret s bs) more h = absurd (omega (arith, h))
  whole_at zero r (Fix i rargs types bodies) more h = absurd (omega (arith, h))
  whole_at (suc d) true (App f a) more h =
      ap (λ (ts : List Text). cut d true ns ls f ts) (whole_at d false a more (omega (arith, h))) ∙ whole_at d true f _ (omega (arith, h))
  whole_at (suc d) false (App f a) more h =
      ap (λ (ts : List Text). Open ∷ word words.App ∷ cut d true ns ls f ts) (whole_at d false a (Close ∷ more) (omega (arith, h)))
      ∙ ap (λ (ts : List Text). Open ∷ word words.App ∷ ts) (whole_at d true f _ (omega (arith, h)))
  whole_at (suc d) r (Rel i) more h = refl
  whole_at (suc d) r (SortT s) more h = refl
  whole_at (suc d) r (Prod A B) more h =
      ap (λ (ts : List Text). Open ∷ word words.Prod ∷ anonymous ∷ cut d false ns ls A ts) (whole_at d false B (Close ∷ more) (omega (arith, h)))
      ∙ ap (λ (ts : List Text). Open ∷ word words.Prod ∷ anonymous ∷ ts) (whole_at d false A _ (omega (arith, h)))
  whole_at (suc d) r (Lambda A b) more h =
      ap (λ (ts : List Text). Open ∷ word words.Lambda ∷ anonymous ∷ cut d false ns ls A ts) (whole_at d false b (Close ∷ more) (omega (arith, h)))
      ∙ ap (λ (ts : List Text). Open ∷ word words.Lambda ∷ anonymous ∷ ts) (whole_at d false A _ (omega (arith, h)))
  whole_at (suc d) r (LetIn b B t) more h =
      ap (λ (ts : List Text). Open ∷ word words.LetIn ∷ anonymous ∷ cut d false ns ls b (cut d false ns ls B ts)) (whole_at d false t (Close ∷ more) (omega (arith, h)))
      ∙ ap (λ (ts : List Text). Open ∷ word words.LetIn ∷ anonymous ∷ cut d false ns ls b ts) (whole_at d false B _ (omega (arith, h)))
      ∙ ap (λ (ts : List Text). Open ∷ word words.LetIn ∷ anonymous ∷ ts) (whole_at d false b _ (omega (arith, h)))
  whole_at (suc d) r (Const c) more h = refl
  whole_at (suc d) r (Ind f) more h = refl
  whole_at (suc d) r (Construct f c) more h = refl
  whole_at (suc d) r (Case f ps n ret s bs) more h =
      let front : List Text → List Text = λ ts. Open ∷ word words.Case ∷ Open ∷ Atom (text_of ns f.block.0) ∷ numeral f.family ∷ Close ∷ Open ∷ word words.Params ∷ ts in
      let pred : List Text → List Text = λ ts. Close ∷ Open ∷ word words.Pred ∷ Open ∷ anonymous_names n (Close ∷ ts) in
      ap (λ (ts : List Text). front (each_term (cut d false ns ls) ps (pred (cut d false ns ls ret (Close ∷ cut d false ns ls s ts))))) (whole_branches d (λ t more h. whole_at d false t more h) bs (Close ∷ more) (omega (arith, h)))
      ∙ ap (λ (ts : List Text). front (each_term (cut d false ns ls) ps (pred (cut d false ns ls ret (Close ∷ ts))))) (whole_at d false s _ (omega (arith, h)))
      ∙ ap (λ (ts : List Text). front (each_term (cut d false ns ls) ps (pred ts))) (whole_at d false ret _ (omega (arith, h)))
      ∙ ap front (whole_terms d (λ t more h. whole_at d false t more h) ps _ (omega (arith, h)))
  whole_at (suc d) r (Fix i rargs types bodies) more h =
      ap (λ (ts : List Text). Open ∷ word words.Fix ∷ Open ∷ ts) (whole_definitions d (λ t more h. whole_at d false t more h) rargs types bodies _ (omega (arith, h)) (omega (arith, h)))

-- so at its own depth
pub whole : (ns ls : List (List ℕ)) (t : Term) (more : List Text) → cut (depth t) false ns ls t more ≡ term false ns ls t more
whole ns ls t more = whole_at ns ls (depth t) false t more (omega arith)
