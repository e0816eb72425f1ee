-- What begins after the declarations so far: the bracket, and the word after it, which tells whether a declaration begins.
use Rattle.std.specs.Prelude.{◌≡◌, ℕ, ◌<◌, List, ◌∷◌, length, Option, Some, None, Result, Ok, Err, OnOk}
use Rattle.sexp_reader.specs.Text.{Atom}
use Rattle.sexp_reader.specs.Stream.{source, stream}
use Rattle.sexp_reader.specs.declared.Tokens.{Tokens}
use Rattle.dump_grammar.specs.declared.keyword.Opening.{Opening}
use Rattle.dump_grammar.specs.declared.refusal.Limit.{Limit}
use Rattle.dump_grammar.specs.declared.refusal.Limit.TheVariants as limits
use Rattle.dump_grammar.specs.declared.refusal.ReadRefusal.{ReadRefusal}
use Rattle.dump_grammar.specs.declared.refusal.ReadRefusal.TheVariants as refusals
use Rattle.dump_grammar.specs.Named.{NamedDecl}
use Rattle.dump_grammar.specs.Words.{opening_of}
use Rattle.dump_grammar.specs.Table.{Value, VDecls, Item, IDecls, IDecl}
use Rattle.dump_grammar.specs.Foreign.{foreign}
use Rattle.dump_grammar.specs.Limits.{is_declaration, begins_declaration, if_declaration, one_more_over}
use Rattle.dump_grammar.specs.Judge.{texts, unread}
use Rattle.dump_parser.specs.Reading.{judged, limited, Goes}

-- what is passed by the bracket before a word, after so many declarations
abbrev pub passed : List ℕ → ℕ → Option Limit
passed a n = if_declaration (is_declaration a) (one_more_over 65536 limits.Declarations n)

abbrev pub IsOpening : Result Opening ReadRefusal → List ℕ → (count bracket offset : ℕ) → Type 0
IsOpening (Ok o) a n b p = (opening_of a ≡ Some o) × (passed a n ≡ None)
IsOpening (Err refusals.Memory) a n b p = ⊥
IsOpening (Err (refusals.Limit l q)) a n b p = (q ≡ b) × (passed a n ≡ Some l)
IsOpening (Err r) a n b p = (opening_of a ≡ None) × (passed a n ≡ None) × (r ≡ unread (foreign IDecl (Atom a)) p)

-- The bracket is read; whether it passes the limit is told by the tokens after it.
pub record ReadsOpening (result : Result ℕ ReadRefusal) (old new : Tokens) : Type 0 where
  pub same : source new ≡ source old
  pub shorter : OnOk result (length (stream new) < length (stream old))
  pub goes : (k : List Item) (vs : List Value) (ds : List NamedDecl) →
      Goes result (λ o. limited (if_declaration (begins_declaration (texts (stream new))) (one_more_over 65536 limits.Declarations (length ds))) o (judged new (IDecl ∷ k) (VDecls ds ∷ vs))) (judged old (IDecls ∷ k) (VDecls ds ∷ vs))
