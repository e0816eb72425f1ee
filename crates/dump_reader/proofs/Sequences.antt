-- The declarations of a text, one after the other.
use Rattle.std.proofs.Common.{◌≡◌, ℕ, List, [], ◌∷◌, ◌++◌, map, length, Option, Some, None, Result, Ok, Err, refl, sym, ap, subst, ◌∙◌}
use Rattle.std.specs.Prelude.{Vec}
use Rattle.std.specs.declared.alloc.Global.{Global}
use Rattle.std.proofs.lemmas.List.{length-map, map-append}
use Rattle.dump_grammar.specs.declared.refusal.ReadRefusal.{ReadRefusal}
use Rattle.dump_grammar.specs.declared.refusal.ReadRefusal.TheVariants as refusals
use Rattle.dump_grammar.specs.Named.{NamedConstraint, NamedDecl}
use Rattle.dump_grammar.specs.Judge.{Verdict}
use Rattle.dump_parser.specs.declared.environment.DeclTree.{DeclTree}
use Rattle.dump_parser.specs.declared.parser.Parser.{Parser}
use Rattle.dump_parser.specs.Environment.{named_decl}
use Rattle.dump_parser.specs.Reading.{Goes}
use Rattle.dump_parser.specs.Stages.{at_declaration, at_next, ReadsNext}
use Rattle.dump_reader.specs.declared.declaration.RawDecl.{RawDecl}
use Rattle.dump_reader.specs.declared.numbering.Tables.{Tables}
use Rattle.dump_reader.specs.Declarations.{ReadsDeclarations, StandBetween}
use Rattle.dump_reader.specs.Growth.{Numbers}
use Rattle.dump_reader.specs.Made.{NumbersEach, decl_names, decl_levels, decl_value}
use Rattle.dump_reader.proofs.Growth.{nothing-yet, one-more}
use Rattle.dump_reader.proofs.Members.{each-along}

-- The declarations that were read so far, and what was made of them.
abbrev pub HasRead : Parser → Parser → Tables → Tables → List RawDecl → Type 0
HasRead old new before after made =
    (ds : List DeclTree) × ((ls : List (List ℕ)) (cs : List NamedConstraint) → at_declaration old ls cs [] ≡ at_declaration new ls cs (map named_decl ds)) × NumbersEach decl_names decl_levels decl_value ds before after made

pub none_read : (p : Parser) (t : Tables) (made : List RawDecl) → made ≡ [] → HasRead p p t t made
none_read p t made e = ([], λ ls cs. refl, nothing-yet decl_names decl_levels decl_value t made e)

module _ (old mid new : Parser) {before now : Tables} {made : List RawDecl} (so_far : HasRead old mid before now made) (n : ℕ) (many : n ≡ length made) where
  -- as many were made as were read
  count : length (map named_decl so_far.0) ≡ n
  count = length-map so_far.0 named_decl ∙ sym (length-map so_far.0 _) ∙ ap (λ (xs : List RawDecl). length xs) (sym (so_far.2.is_value [] [])) ∙ sym many

  module _ (o : Option DeclTree) (reads : ReadsNext (Ok o) mid new n) where
    pub one_read : {after : Tables} (d : DeclTree) (x : RawDecl) (more : List RawDecl) → o ≡ Some d → Numbers (decl_names d) (decl_levels d) (λ ns ls. decl_value ns ls d) now after x → more ≡ made ++ x ∷ []
        → HasRead old new before after more
    one_read d x more is numbers put = (
      so_far.0 ++ d ∷ [],
      λ ls cs. so_far.1 ls cs ∙ reads ls cs (map named_decl so_far.0) count ∙ ap (at_next new ls cs (map named_decl so_far.0)) is
          ∙ ap (λ (ds : List NamedDecl). at_declaration new ls cs ds) (sym (map-append named_decl so_far.0 (d ∷ []))),
      each-along decl_names decl_levels decl_value refl put (one-more decl_names decl_levels decl_value so_far.0 d made x so_far.2 numbers),
    )

    pub all_read : o ≡ None → (ds : List DeclTree) × StandBetween ds old new × NumbersEach decl_names decl_levels decl_value ds before now made
    all_read is = (so_far.0, λ ls cs. so_far.1 ls cs ∙ reads ls cs (map named_decl so_far.0) count ∙ ap (at_next new ls cs (map named_decl so_far.0)) is, so_far.2)

  refusal : (after : Tables) (e : ReadRefusal) → ReadsNext (Err e) mid new n → ReadsDeclarations (Err e) old new before after
  refusal after refusals.Memory reads = tt
  refusal after (refusals.Syntax o) reads = λ ls cs. so_far.1 ls cs ∙ reads ls cs (map named_decl so_far.0) count
  refusal after (refusals.Unsupported w o) reads = λ ls cs. so_far.1 ls cs ∙ reads ls cs (map named_decl so_far.0) count
  refusal after (refusals.Limit l o) reads = λ ls cs. so_far.1 ls cs ∙ reads ls cs (map named_decl so_far.0) count

  -- the refusal of the next one
  pub next_refused : (after : Tables) (e : ReadRefusal) (r : Result (Vec RawDecl Global) ReadRefusal) → r ≡ Err e → ReadsNext (Err e) mid new n → ReadsDeclarations r old new before after
  next_refused after e r is reads = subst (λ (r : Result (Vec RawDecl Global) ReadRefusal). ReadsDeclarations r old new before after) (sym is) (refusal after e reads)

-- a refusal of the declarations, whatever stands before
pub declarations_goes : {X : Type 0} (e : ReadRefusal) (old new : Parser) (before after : Tables) (h : X → Verdict) → ReadsDeclarations (Err e) old new before after
    → (ls : List (List ℕ)) (cs : List NamedConstraint) → Goes (Err e) h (at_declaration old ls cs [])
declarations_goes refusals.Memory old new before after h reads ls cs = tt
declarations_goes (refusals.Syntax o) old new before after h reads ls cs = reads ls cs
declarations_goes (refusals.Unsupported w o) old new before after h reads ls cs = reads ls cs
declarations_goes (refusals.Limit l o) old new before after h reads ls cs = reads ls cs
