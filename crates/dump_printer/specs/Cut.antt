-- The tokens of a term that is cut at a depth, each before the tokens that follow: its nodes that stand that deep or deeper, of which the root stands at
-- 0, aren't written, and three dots stand in the place of each of them that no other one is above.
use Rattle.std.specs.Prelude.{ℕ, zero, suc, ◌+◌, List, [], ◌∷◌, Bool, true, false, nat_le, if◌then◌else◌}
use Rattle.sexp_reader.specs.Text.{Text, Open, Close, Atom}
use Rattle.dump_grammar.specs.Numbers.{word}
use Rattle.dump_grammar.specs.declared.keyword.Keyword.TheVariants as words
use Rattle.trees.specs.Measures.{depth}
use Rattle.pc_terms.specs.Syntax.{Slot, Term, Terms, Children, End, Child, Group, Done, Next, Rel, Node, SortT, Prod, Lambda, LetIn, App, Const, Ind, Construct, Case, Fix}
use Rattle.dump_printer.specs.CanonicalTerms.{text_of, numeral, anonymous, anonymous_names, sort}

-- what stands in the place of a term that is cut off
abbrev pub dots : Text
dots = Atom (46 ∷ 46 ∷ 46 ∷ [])

-- the terms of a list, from the first to the last, each written by f
unfoldable pub each_term : (f : Term → List Text → List Text) → Terms → List Text → List Text
each_term f Done after = after
each_term f (Next n t more) after = f t (each_term f more after)

unfoldable pub each_branch : (f : Term → List Text → List Text) → Terms → List Text → List Text
each_branch f Done after = after
each_branch f (Next n t more) after = Open ∷ word words.Branch ∷ Open ∷ anonymous_names n (Close ∷ f t (Close ∷ each_branch f more after))

-- definitions, by their recursive arguments, their types and their bodies
unfoldable pub each_definition : (f : Term → List Text → List Text) → List ℕ → (types bodies : Terms) → List Text → List Text
each_definition f (n ∷ rargs) (Next k A types) (Next m b bodies) after =
    Open ∷ word words.Def ∷ anonymous ∷ f A (f b (numeral n ∷ Close ∷ each_definition f rargs types bodies after))
each_definition f _ _ _ after = after

-- a term, with so much depth; within a run of applications, whose arguments follow, an application goes on with the run
unfoldable pub cut : (room : ℕ) (in_run : Bool) (names levels : List (List ℕ)) → Term → List Text → List Text
cut zero r ns ls t after = dots ∷ after
cut (suc d) true ns ls (App f a) after = cut d true ns ls f (cut d false ns ls a after)
cut (suc d) false ns ls (App f a) after = Open ∷ word words.App ∷ cut d true ns ls f (cut d false ns ls a (Close ∷ after))
cut (suc d) r ns ls (Rel i) after = Open ∷ word words.Rel ∷ numeral i ∷ Close ∷ after
cut (suc d) r ns ls (SortT s) after = Open ∷ word words.TermSort ∷ sort ls s (Close ∷ after)
cut (suc d) r ns ls (Prod A B) after = Open ∷ word words.Prod ∷ anonymous ∷ cut d false ns ls A (cut d false ns ls B (Close ∷ after))
cut (suc d) r ns ls (Lambda A b) after = Open ∷ word words.Lambda ∷ anonymous ∷ cut d false ns ls A (cut d false ns ls b (Close ∷ after))
cut (suc d) r ns ls (LetIn b B t) after =
    Open ∷ word words.LetIn ∷ anonymous ∷ cut d false ns ls b (cut d false ns ls B (cut d false ns ls t (Close ∷ after)))
cut (suc d) r ns ls (Const c) after = Open ∷ word words.Const ∷ Atom (text_of ns c.0) ∷ Close ∷ after
cut (suc d) r ns ls (Ind f) after = Open ∷ word words.Ind ∷ Atom (text_of ns f.block.0) ∷ numeral f.family ∷ Close ∷ after
cut (suc d) r ns ls (Construct f c) after =
    Open ∷ word words.Construct ∷ Atom (text_of ns f.block.0) ∷ numeral f.family ∷ numeral c ∷ Close ∷ after
cut (suc d) r ns ls (Case f ps n ret s bs) after =
    Open ∷ word words.Case ∷ Open ∷ Atom (text_of ns f.block.0) ∷ numeral f.family ∷ Close
    ∷ Open ∷ word words.Params ∷ each_term (cut d false ns ls) ps (Close
    ∷ Open ∷ word words.Pred ∷ Open ∷ anonymous_names n (Close ∷ cut d false ns ls ret (Close
    ∷ cut d false ns ls s (each_branch (cut d false ns ls) bs (Close ∷ after)))))
cut (suc d) r ns ls (Fix i rargs types bodies) after =
    Open ∷ word words.Fix ∷ Open ∷ each_definition (cut d false ns ls) rargs types bodies (Close ∷ numeral i ∷ Close ∷ after)

-- the sum of a number of each term of a list, and of each term right below a node
unfoldable pub sum_of_terms : (f : Term → ℕ) → Terms → ℕ
sum_of_terms f Done = 0
sum_of_terms f (Next n t ts) = f t + sum_of_terms f ts

unfoldable pub sum_of_places : (f : Term → ℕ) {ss : List Slot} → Children ss → ℕ
sum_of_places f End = 0
sum_of_places f (Child t ts) = f t + sum_of_places f ts
sum_of_places f (Group us ts) = sum_of_terms f us + sum_of_places f ts

abbrev pub sum_below : (f : Term → ℕ) → Term → ℕ
sum_below f (Rel i) = 0
sum_below f (Node l ts) = sum_of_places f ts

-- the number of nodes that stand less deep
unfoldable pub nodes_within : (room : ℕ) → Term → ℕ
nodes_within zero t = 0
nodes_within (suc d) t = sum_below (nodes_within d) t + 1

-- the most nodes of a term that are shown
abbrev pub most_shown : ℕ
most_shown = 200

-- from depth d on, by at most n more, the greatest depth at which no more nodes are left
unfoldable pub deepest_from : (n d : ℕ) → Term → ℕ
deepest_from zero d t = d
deepest_from (suc n) d t = if nat_le (nodes_within (d + 1) t) most_shown then deepest_from n (d + 1) t else d

-- the depth at which a term is cut so that no more than 200 nodes are left; at its own depth nothing is cut off
abbrev pub cut_depth : Term → ℕ
cut_depth t = deepest_from (depth t) 0 t

-- the tokens of a term of which no more than 200 nodes are written
abbrev pub shown_tokens : (names levels : List (List ℕ)) → Term → List Text
shown_tokens ns ls t = cut (cut_depth t) false ns ls t []
