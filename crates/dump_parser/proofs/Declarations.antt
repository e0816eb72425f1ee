-- Declarations: the limit, and what one more adds.
use Rattle.std.proofs.Common.{◌≡◌, ℕ, zero, suc, ◌<◌, ◌≤◌, List, [], ◌∷◌, ◌++◌, length, Option, Some, None, Bool, true, false, refl, ap}
use Rattle.std.proofs.lemmas.Bool.{lt-ltb, le-ltb}
use Rattle.dump_grammar.specs.declared.refusal.Limit.TheVariants as limits
use Rattle.dump_grammar.specs.Named.{NamedConstraint, NamedDecl, Block}
use Rattle.dump_grammar.specs.Table.{Value, IClose, Do, MakeEnv, VNames, VConstraints, VDecls}
use Rattle.dump_grammar.specs.Limits.{is_declaration, if_declaration}
use Rattle.dump_parser.specs.declared.environment.DeclTree.{DeclTree}
use Rattle.dump_parser.specs.declared.environment.DeclTree.TheVariants as decls
use Rattle.dump_parser.specs.Environment.{behind, declared, named_decl, with_next}
use Rattle.dump_parser.specs.declared.parser.Parser.{Parser}
use Rattle.dump_parser.specs.Opening.{passed}
use Rattle.dump_parser.specs.Reading.{judged}
use Rattle.dump_parser.specs.Stages.{at_next}

none-passed : (b : Bool) → if_declaration b None ≡ None
none-passed true = refl
none-passed false = refl

pub passed-few : (a : List ℕ) (n : ℕ) → n < 65536 → passed a n ≡ None
passed-few a n h = rw (lt-ltb n 65536 h) (none-passed (is_declaration a))

pub passed-other : (a : List ℕ) (n : ℕ) → is_declaration a ≡ false → passed a n ≡ None
passed-other a n e = rw e refl

pub passed-one : (a : List ℕ) (n : ℕ) → is_declaration a ≡ true → 65536 ≤ n → passed a n ≡ Some limits.Declarations
passed-one a n e h = rw (e, le-ltb n 65536 h) refl

pub ruleset declaration_limits = (passed-few, passed-other, passed-one)

pub declared_more : (d : DeclTree) (ds : List NamedDecl) (vs : List Value) → declared d (VDecls ds ∷ vs) ≡ VDecls (ds ++ named_decl d ∷ []) ∷ vs
declared_more (decls.Constant k ty None) ds vs = refl
declared_more (decls.Constant k ty (Some b)) ds vs = refl
declared_more (decls.Block k ps fs) ds vs = refl

-- so many declarations
pub some_declarations : (n : ℕ) → (ds : List NamedDecl) × (length ds ≡ n)
some_declarations zero = ([], refl)
some_declarations (suc n) = (let more = some_declarations n in (Block [] [] [] ∷ more.0, ap (λ m. suc m) more.1))

-- what follows, with what was read
pub next_same : (p : Parser) (ls : List (List ℕ)) (cs : List NamedConstraint) (ds : List NamedDecl) (o : Option DeclTree)
    → judged p.tokens (behind o ++ Do MakeEnv IClose ∷ []) (VDecls (with_next ds o) ∷ VConstraints cs ∷ VNames ls ∷ []) ≡ at_next p ls cs ds o
next_same p ls cs ds None = refl
next_same p ls cs ds (Some d) = refl
