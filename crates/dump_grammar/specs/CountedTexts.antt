-- Texts that pass a counted limit, and texts that just don't. The offsets are counted by hand.
use Rattle.std.specs.Prelude.{◌≡◌, ℕ, List, ◌++◌, codes}
use Rattle.dump_grammar.specs.declared.refusal.Limit.TheVariants as limits
use Rattle.dump_grammar.specs.declared.refusal.ReadRefusal.TheVariants as refusals
use Rattle.dump_grammar.specs.Judge.{Refuse}
use Rattle.dump_grammar.specs.RefusedTexts.{verdict_of}
use Rattle.dump_grammar.specs.AcceptedTexts.{times}

-- a text, then so many times a piece of text, then an end
abbrev pub repeated : List ℕ → List ℕ → ℕ → List ℕ → List ℕ
repeated front piece n end = front ++ times n piece end

pub record AreCounted : Type 0 where
  pub telescope : verdict_of (repeated (codes "(env 1 (levels) (constraints) (InductiveDecl b (params") (codes "(x (tRel 0))") 256 (codes "")) ≡ Refuse (refusals.Limit limits.Telescope 3114)
  pub telescope-end : verdict_of (repeated (codes "(env 1 (levels) (constraints) (InductiveDecl b (params") (codes "(x (tRel 0))") 255 (codes "")) ≡ Refuse (refusals.Syntax 3114)
  pub indices : verdict_of (repeated (codes "(env 1 (levels) (constraints) (InductiveDecl b (params) (family f (sort Set) (indices") (codes "(x (tRel 0))") 256 (codes "")) ≡ Refuse (refusals.Limit limits.Telescope 3145)
  pub indices-end : verdict_of (repeated (codes "(env 1 (levels) (constraints) (InductiveDecl b (params) (family f (sort Set) (indices") (codes "(x (tRel 0))") 255 (codes "")) ≡ Refuse (refusals.Syntax 3145)
  pub args : verdict_of (repeated (codes "(env 1 (levels) (constraints) (InductiveDecl b (params) (family f (sort Set) (indices) (ctor c (args") (codes "(x (tRel 0))") 256 (codes "")) ≡ Refuse (refusals.Limit limits.Telescope 3160)
  pub args-end : verdict_of (repeated (codes "(env 1 (levels) (constraints) (InductiveDecl b (params) (family f (sort Set) (indices) (ctor c (args") (codes "(x (tRel 0))") 255 (codes "")) ≡ Refuse (refusals.Syntax 3160)
  pub families : verdict_of (repeated (codes "(env 1 (levels) (constraints) (InductiveDecl b (params)") (codes "(family f (sort Set) (indices))") 256 (codes "")) ≡ Refuse (refusals.Limit limits.Families 7960)
  pub families-end : verdict_of (repeated (codes "(env 1 (levels) (constraints) (InductiveDecl b (params)") (codes "(family f (sort Set) (indices))") 255 (codes "")) ≡ Refuse (refusals.Syntax 7960)
  pub constructors : verdict_of (repeated (codes "(env 1 (levels) (constraints) (InductiveDecl b (params) (family f (sort Set) (indices)") (codes "(ctor c (args) (result))") 1025 (codes "")) ≡ Refuse (refusals.Limit limits.Constructors 24662)
  pub constructors-end : verdict_of (repeated (codes "(env 1 (levels) (constraints) (InductiveDecl b (params) (family f (sort Set) (indices)") (codes "(ctor c (args) (result))") 1024 (codes "")) ≡ Refuse (refusals.Syntax 24662)
  pub definitions : verdict_of (repeated (codes "(env 1 (levels) (constraints) (main (tFix (") (codes "(def f (tRel 0) (tRel 0) 0)") 256 (codes "")) ≡ Refuse (refusals.Limit limits.Definitions 6928)
  pub definitions-end : verdict_of (repeated (codes "(env 1 (levels) (constraints) (main (tFix (") (codes "(def f (tRel 0) (tRel 0) 0)") 255 (codes "")) ≡ Refuse (refusals.Syntax 6928)
  pub levels : verdict_of (repeated (codes "(env 1 (levels") (codes " u") 1025 (codes "")) ≡ Refuse (refusals.Limit limits.Levels 2063)
  pub levels-end : verdict_of (repeated (codes "(env 1 (levels") (codes " u") 1024 (codes "")) ≡ Refuse (refusals.Syntax 2062)
  pub depth : verdict_of (repeated (codes "(env 1 (levels) (constraints) (main (tApp (tRel 0)") (codes "(tRel 0)") 2048 (codes ")")) ≡ Refuse (refusals.Limit limits.Depth 16434)
  pub depth-end : verdict_of (repeated (codes "(env 1 (levels) (constraints) (main (tApp (tRel 0)") (codes "(tRel 0)") 2047 (codes ")")) ≡ Refuse (refusals.Syntax 16427)
