-- The members of the lists in a term, and a family's number, before the tokens that follow.
use Rattle.std.specs.Prelude.{ℕ, List, ◌∷◌, false}
use Rattle.sexp_reader.specs.Text.{Text, Open, Close, Atom}
use Rattle.dump_grammar.specs.Numbers.{word}
use Rattle.dump_grammar.specs.declared.keyword.Keyword.TheVariants as words
use Rattle.pc_terms.specs.declared.leaf.FamilyId.{FamilyId}
use Rattle.pc_terms.specs.declared.term.Branch.{Branch}
use Rattle.pc_terms.specs.declared.term.Def.{Def}
use Rattle.dump_printer.specs.CanonicalTerms.{text_of, numeral, anonymous, anonymous_names}
use Rattle.dump_printer.specs.Cut.{cut}

abbrev pub family_id : (names : List (List ℕ)) → FamilyId → List Text → List Text
family_id ns f after = Atom (text_of ns f.block.0) ∷ numeral f.family ∷ after

abbrev pub arm : (room : ℕ) (names levels : List (List ℕ)) → Branch → List Text → List Text
arm d ns ls b after = Open ∷ word words.Branch ∷ Open ∷ anonymous_names b.binders (Close ∷ cut d false ns ls b.body (Close ∷ after))

abbrev pub definition : (room : ℕ) (names levels : List (List ℕ)) → Def → List Text → List Text
definition d ns ls x after = Open ∷ word words.Def ∷ anonymous ∷ cut d false ns ls x.ty (cut d false ns ls x.body (numeral x.rarg ∷ Close ∷ after))
