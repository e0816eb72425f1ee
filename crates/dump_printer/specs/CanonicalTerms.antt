-- The canonical tokens of sorts and terms, each before the tokens that follow. Names and levels are looked up in their tables; a number past a table's
-- end, which no text spells, stands for the empty name. Variables are de Bruijn indices, the innermost binder's is 0.
use Rattle.std.specs.Prelude.{ℕ, zero, suc, List, [], ◌∷◌, Option, Some, None, Bool, true, false, ◌&&◌, nat_eq, decimal, slice_get, if◌then◌else◌}
use Rattle.sexp_reader.specs.Text.{Text, Open, Close, Atom}
use Rattle.dump_grammar.specs.Numbers.{word}
use Rattle.dump_grammar.specs.declared.keyword.Keyword.TheVariants as words
use Rattle.universe_levels.specs.declared.level.LevelExpr.{LevelExpr}
use Rattle.universe_levels.specs.declared.sort.Sort.{Sort as Sorts}
use Rattle.universe_levels.specs.declared.sort.Sort.TheVariants as sorts
use Rattle.pc_terms.specs.Syntax.{Term, Terms, Done, Next, Rel, SortT, Prod, Lambda, LetIn, App, Const, Ind, Construct, Case, Fix}

abbrev pub or_empty : Option (List ℕ) → List ℕ
or_empty None = []
or_empty (Some a) = a

-- the text of a number
abbrev pub text_of : (table : List (List ℕ)) → ℕ → List ℕ
text_of table n = or_empty (slice_get table n)

-- a number in decimal
abbrev pub numeral : ℕ → Text
numeral n = Atom (decimal n)

-- `_`, the name of each binder and each definition
abbrev pub anonymous : Text
anonymous = Atom (95 ∷ [])

unfoldable pub anonymous_names : ℕ → List Text → List Text
anonymous_names zero after = after
anonymous_names (suc n) after = anonymous ∷ anonymous_names n after

-- the members of a list, from the first to the last
unfoldable pub each : {X : Type 0} → (X → List Text → List Text) → List X → List Text → List Text
each piece [] after = after
each piece (x ∷ xs) after = piece x (each piece xs after)

-- ---- sorts

-- the universe Set plus 0
abbrev pub is_set : List LevelExpr → Bool
is_set (e ∷ []) = nat_eq e.level.0 0 && nat_eq e.add 0
is_set _ = false

abbrev pub part : (levels : List (List ℕ)) → LevelExpr → List Text → List Text
part ls e after = Open ∷ Atom (text_of ls e.level.0) ∷ numeral e.add ∷ Close ∷ after

-- a universe: `Set`, or its parts in rising order of the levels' numbers, each level once
abbrev pub universe : (levels : List (List ℕ)) → List LevelExpr → List Text → List Text
universe ls u after = if is_set u then word words.Set ∷ after else Open ∷ word words.Type ∷ each (part ls) u (Close ∷ after)

abbrev pub sort : (levels : List (List ℕ)) → Sorts → List Text → List Text
sort ls sorts.Prop after = word words.Prop ∷ after
sort ls (sorts.Of u) after = universe ls u after

-- ---- terms

-- definitions, by their recursive arguments, their types and their bodies
abbrev pub definitions : List ℕ → (types bodies : List (List Text → List Text)) → List Text → List Text
definitions (n ∷ ns) (A ∷ As) (b ∷ bs) after = Open ∷ word words.Def ∷ anonymous ∷ A (b (numeral n ∷ Close ∷ definitions ns As bs after))
definitions _ _ _ after = after

unfoldable mutual
  -- A term; within a run of applications, whose arguments follow, an application goes on with the run.
  pub term : (in_run : Bool) (names levels : List (List ℕ)) → Term → List Text → List Text
  term true ns ls (App f a) after = term true ns ls f (term false ns ls a after)
  term false ns ls (App f a) after = Open ∷ word words.App ∷ term true ns ls f (term false ns ls a (Close ∷ after))
  term r ns ls (Rel i) after = Open ∷ word words.Rel ∷ numeral i ∷ Close ∷ after
  term r ns ls (SortT s) after = Open ∷ word words.TermSort ∷ sort ls s (Close ∷ after)
  term r ns ls (Prod A B) after = Open ∷ word words.Prod ∷ anonymous ∷ term false ns ls A (term false ns ls B (Close ∷ after))
  term r ns ls (Lambda A b) after = Open ∷ word words.Lambda ∷ anonymous ∷ term false ns ls A (term false ns ls b (Close ∷ after))
  term r ns ls (LetIn b B t) after = Open ∷ word words.LetIn ∷ anonymous ∷ term false ns ls b (term false ns ls B (term false ns ls t (Close ∷ after)))
  term r ns ls (Const c) after = Open ∷ word words.Const ∷ Atom (text_of ns c.0) ∷ Close ∷ after
  term r ns ls (Ind f) after = Open ∷ word words.Ind ∷ Atom (text_of ns f.block.0) ∷ numeral f.family ∷ Close ∷ after
  term r ns ls (Construct f c) after = Open ∷ word words.Construct ∷ Atom (text_of ns f.block.0) ∷ numeral f.family ∷ numeral c ∷ Close ∷ after
  term r ns ls (Case f ps n ret s bs) after =
      Open ∷ word words.Case ∷ Open ∷ Atom (text_of ns f.block.0) ∷ numeral f.family ∷ Close
      ∷ Open ∷ word words.Params ∷ terms ns ls ps (Close
      ∷ Open ∷ word words.Pred ∷ Open ∷ anonymous_names n (Close ∷ term false ns ls ret (Close
      ∷ term false ns ls s (branches ns ls bs (Close ∷ after)))))
  term r ns ls (Fix i rargs types bodies) after =
      Open ∷ word words.Fix ∷ Open ∷ definitions rargs (pieces ns ls types) (pieces ns ls bodies) (Close ∷ numeral i ∷ Close ∷ after)

  pub terms : (names levels : List (List ℕ)) → Terms → List Text → List Text
  terms ns ls Done after = after
  terms ns ls (Next n t more) after = term false ns ls t (terms ns ls more after)

  pub branches : (names levels : List (List ℕ)) → Terms → List Text → List Text
  branches ns ls Done after = after
  branches ns ls (Next n t more) after = Open ∷ word words.Branch ∷ Open ∷ anonymous_names n (Close ∷ term false ns ls t (Close ∷ branches ns ls more after))

  -- the terms of a list, each apart
  pub pieces : (names levels : List (List ℕ)) → Terms → List (List Text → List Text)
  pieces ns ls Done = []
  pieces ns ls (Next n t more) = (λ after. term false ns ls t after) ∷ pieces ns ls more
