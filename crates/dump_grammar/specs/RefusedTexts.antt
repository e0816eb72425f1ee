-- Texts with their refusals. The offsets are counted by hand.
use Rattle.std.specs.Prelude.{◌≡◌, ℕ, List, [], ◌∷◌, length, codes}
use Rattle.sexp_reader.specs.Lex.{tokens_of}
use Rattle.dump_grammar.specs.declared.refusal.Foreign.TheVariants as foreigns
use Rattle.dump_grammar.specs.declared.refusal.Limit.TheVariants as limits
use Rattle.dump_grammar.specs.declared.refusal.ReadRefusal.{ReadRefusal}
use Rattle.dump_grammar.specs.declared.refusal.ReadRefusal.TheVariants as refusals
use Rattle.dump_grammar.specs.Judge.{Verdict, Refuse, verdict}

abbrev pub verdict_of : List ℕ → Verdict
verdict_of bytes = verdict (length bytes) (tokens_of bytes)

abbrev pub Refused : List (List ℕ × ReadRefusal) → Type 0
Refused [] = Unit {0}
Refused (row ∷ rows) = (verdict_of row.0 ≡ Refuse row.1) × Refused rows

abbrev pub syntax_texts : List (List ℕ × ReadRefusal)
syntax_texts =
    (codes "", refusals.Syntax 0) ∷
    (codes "(env 1 (levels) (constraints) (InductiveDecl bool (params) (family bool (sort Set) (indices) (ctor true (args) (result)) (ctor false (args) (result)))) (main (tConstruct bool 0 1))", refusals.Syntax 180) ∷
    (codes "(env 1 (levels) (constraints) (main (tRel 00)))", refusals.Syntax 42) ∷
    (codes "(env 1 (levels Set) (constraints) (main (tRel 0)))", refusals.Syntax 15) ∷
    (codes "(env 1 (levels) (constraints) (main (tRel 0))) x", refusals.Syntax 47) ∷
    (codes "(env 1 & (levels))", refusals.Syntax 7) ∷
    (codes "(env 1 (levels) (constraints) (main (tFix ((def f (tRel 0) (tRel 0) 0)) 1)))", refusals.Syntax 72) ∷
    (codes "(env 1 (levels) (constraints) (main (tFix ((def f (tRel 0) (tRel 0) 0) (def g (tRel 0) (tRel 0) 0)) 5000000000)))", refusals.Syntax 100) ∷
    (codes "(env 1 (levels) (constraints) (main (tFix () 0)))", refusals.Syntax 43) ∷
    (codes "(env 1 (levels) (constraints) (main (tApp (tRel 0))))", refusals.Syntax 50) ∷
    (codes "(env 01 (levels) (constraints) (main (tRel 0)))", refusals.Syntax 5) ∷
    (codes "(env one (levels) (constraints) (main (tRel 0)))", refusals.Syntax 5) ∷
    (codes "(env 1 (levels) (constraints) (main (tSort (Type))))", refusals.Syntax 48) ∷
    (codes "(env 1 (levels) (constraints) (main (tWord)))", refusals.Syntax 37) ∷
    (codes "(env 1 (levels) (constraints) (main x))", refusals.Syntax 36) ∷
    (codes "(env 1 (levels) (constraints) (InductiveDecl b (params)) (main (tRel 0)))", refusals.Syntax 55) ∷
    (codes "(env 1 (levels) (constraints) (ConstantDecl k (tRel 0)) (main (tRel 0)))", refusals.Syntax 54) ∷
    (codes "(env 1 (levels) (constraints) (Decl) (main (tRel 0)))", refusals.Syntax 31) ∷
    (codes "(env 1 (levels) (constraints (ne u v)) (main (tRel 0)))", refusals.Syntax 30) ∷
    (codes "(env 1 (levels) (constraints) (main (tCase (k 0) (universes) (pred (x) (tRel 0)) (tRel 0))))", refusals.Syntax 50) ∷
    (codes "(env 1 (levels) (constraints) (main (tLambda (tRel 0) (tRel 0) (tRel 0))))", refusals.Syntax 45) ∷
    (codes "(env 1 (levels) (constraints) (main (tRel 0 0)))", refusals.Syntax 44) ∷
    (codes ")", refusals.Syntax 0) ∷
    (codes "(env 1 (levels) (constraints) (main (tSort Sprop)))", refusals.Syntax 43) ∷
    []

abbrev pub unsupported_texts : List (List ℕ × ReadRefusal)
unsupported_texts =
    (codes "(env 1 (levels) (constraints) (main (tVar () 0)))", refusals.Unsupported foreigns.Var 37) ∷
    (codes "(env 1 (levels) (constraints) (main (tEvar () 0)))", refusals.Unsupported foreigns.Evar 37) ∷
    (codes "(env 1 (levels) (constraints) (main (tProj () 0)))", refusals.Unsupported foreigns.Proj 37) ∷
    (codes "(env 1 (levels) (constraints) (main (tCoFix () 0)))", refusals.Unsupported foreigns.CoFix 37) ∷
    (codes "(env 1 (levels) (constraints) (main (tInt () 0)))", refusals.Unsupported foreigns.Int 37) ∷
    (codes "(env 1 (levels) (constraints) (main (tFloat () 0)))", refusals.Unsupported foreigns.Float 37) ∷
    (codes "(env 1 (levels) (constraints) (main (tString () 0)))", refusals.Unsupported foreigns.String 37) ∷
    (codes "(env 1 (levels) (constraints) (main (tArray () 0)))", refusals.Unsupported foreigns.Array 37) ∷
    (codes "(env 1 (levels) (constraints) (main (tSort SProp)))", refusals.Unsupported foreigns.SProp 43) ∷
    (codes "(env 1 (levels) (constraints) (InductiveDecl b (params) (family b (sort SProp (main (tRel 0)))", refusals.Unsupported foreigns.SProp 72) ∷
    (codes "(env 1 (levels) (constraints) (CoInductiveDecl b) (main (tRel 0)))", refusals.Unsupported foreigns.CoInductive 31) ∷
    (codes "(env 1 (levels) (constraints) (ConstantDecl k (universes u) (tRel 0) None) (main (tRel 0)))", refusals.Unsupported foreigns.Polymorphic 47) ∷
    (codes "(env 1 (levels) (constraints) (InductiveDecl b (universes u) (params)) (main (tRel 0)))", refusals.Unsupported foreigns.Polymorphic 48) ∷
    (codes "(env 1 (levels) (constraints) (InductiveDecl b (params (x (tRel 0) (tRel 0)))) (main (tRel 0)))", refusals.Unsupported foreigns.TelescopeLet 67) ∷
    (codes "(env 1 (levels) (constraints) (InductiveDecl b (params (x (tRel 0) y))) (main (tRel 0)))", refusals.Unsupported foreigns.TelescopeLet 67) ∷
    (codes "(env 1 (levels (x)) (constraints) (main (tRel 0)))", refusals.Unsupported foreigns.LevelVariable 15) ∷
    (codes "(env 1 (levels) (constraints) (main (tSort (Type ((Var 0) 0)))))", refusals.Unsupported foreigns.LevelVariable 50) ∷
    (codes "(env 1 (levels) (constraints (lt u (v))) (main (tRel 0)))", refusals.Unsupported foreigns.LevelVariable 35) ∷
    (codes "(env 2 (levels) (constraints) (main (tRel 0)))", refusals.Unsupported foreigns.Version 5) ∷
    (codes "(env 5000000000 (levels) (constraints) (main (tRel 0)))", refusals.Unsupported foreigns.Version 5) ∷
    (codes "(env 1 (levels) (constraints) (ConstantDecl k (tVar x) None) (main (tRel 0)))", refusals.Unsupported foreigns.Var 47) ∷
    []

abbrev pub limit_texts : List (List ℕ × ReadRefusal)
limit_texts =
    (codes "(env 1 (levels) (constraints) (main (tRel 4294967296)))", refusals.Limit limits.Number 42) ∷
    (codes "(env 1 (levels) (constraints) (main (tSort (Type (u 1001)))))", refusals.Limit limits.LevelAdd 52) ∷
    (codes "(env 1 (levels) (constraints) (main (tSort (Type (u 5000000000)))))", refusals.Limit limits.Number 52) ∷
    (codes "(env 1 (levels) (constraints) (main (tFix ((def f (tRel 0) (tRel 0) 4294967296)) 0)))", refusals.Limit limits.Number 68) ∷
    (codes "(env 1 (levels) (constraints) (main (tConst aaaaaaaaaaaaaaaaaaaaaaaaaaaaaaaaaaaaaaaaaaaaaaaaaaaaaaaaaaaaaaaaaaaaaaaaaaaaaaaaaaaaaaaaaaaaaaaaaaaaaaaaaaaaaaaaaaaaaaaaaaaaaaaaaaaaaaaaaaaaaaaaaaaaaaaaaaaaaaaaaaaaaaaaaaaaaaaaaaaaaaaaaaaaaaaaaaaaaaaaaaaaaaaaaaaaaaaaaaaaaaaaaaaaaaaaaaaaaaaaaaaaaaaaaaaaaaaa)))", refusals.Limit limits.NameBytes 44) ∷
    (codes "1111111111111111111111111111111111111111111111111111111111111111111111111111111111111111111111111111111111111111111111111111111111111111111111111111111111111111111111111111111111111111111111111111111111111111111111111111111111111111111111111111111111111111", refusals.Limit limits.NameBytes 0) ∷
    []

-- Each text is refused so.
pub record AreRefused : Type 0 where
  pub syntax : Refused syntax_texts
  pub unsupported : Refused unsupported_texts
  pub limit : Refused limit_texts
