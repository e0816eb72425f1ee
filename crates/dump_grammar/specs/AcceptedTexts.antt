-- Texts with what they mean, and with the numbers of their names and levels.
use Rattle.std.specs.Prelude.{◌≡◌, ℕ, zero, suc, List, [], ◌∷◌, ◌++◌, codes, Some, None}
use Rattle.dump_grammar.specs.Keywords.{spelling}
use Rattle.dump_grammar.specs.declared.keyword.Keyword.TheVariants as words
use Rattle.dump_grammar.specs.declared.refusal.Limit.TheVariants as limits
use Rattle.dump_grammar.specs.declared.refusal.ReadRefusal.TheVariants as refusals
use Rattle.dump_grammar.specs.Named.{NamedSort, AProp, AType, Named, Rel, Sort, Prod, Lambda, LetIn, App, Const, Ind, Construct, Case, Fix, NoTerm, OneTerm, NoBranch, OneBranch, NoDef, OneDef, Less, AtMost, Equal, Constant, Block, NamedEnv}
use Rattle.dump_grammar.specs.Numbering.{name_table, level_table}
use Rattle.dump_grammar.specs.Table.{VEnv}
use Rattle.dump_grammar.specs.Judge.{Fine, Refuse}
use Rattle.dump_grammar.specs.RefusedTexts.{verdict_of}

abbrev pub Means : List ℕ → NamedEnv → Type 0
Means bytes env = verdict_of bytes ≡ Fine (VEnv env ∷ [])

abbrev pub only_main : Named → NamedEnv
only_main t = record { levels = []; constraints = []; decls = []; main = t }

abbrev pub set : NamedSort
set = AType ((spelling words.Set, 0) ∷ [])

-- so many times these bytes, and then others
abbrev pub times : ℕ → List ℕ → List ℕ → List ℕ
times zero piece after = after
times (suc n) piece after = piece ++ times n piece after

abbrev pub nested : ℕ → List ℕ
nested n = codes "(env 1 (levels) (constraints) (main " ++ times n (codes "(tApp ") []

pub record AreRead : Type 0 where
  pub bool : Means (codes "(env 1 (levels) (constraints) (InductiveDecl bool (params) (family bool (sort Set) (indices) (ctor true (args) (result)) (ctor false (args) (result)))) (main (tConstruct bool 0 1)))")
      (record {
        levels = [];
        constraints = [];
        decls = Block (codes "bool") [] (record { name = codes "bool"; sort = set; indices = []; ctors = record { name = codes "true"; args = []; result = [] } ∷ record { name = codes "false"; args = []; result = [] } ∷ [] } ∷ []) ∷ [];
        main = Construct (codes "bool") 0 1;
      })
  pub application : Means (codes "(env 1 (levels)(constraints)(main(tApp (tRel 0) (tRel 1) (tRel 2)))) ; the end") (only_main (App (App (Rel 0) (Rel 1)) (Rel 2)))
  pub cast : Means (codes "(env 1 (levels) (constraints) (main (tCast (tRel 1) Cast (tRel 2))))") (only_main (App (Lambda (Rel 2) (Rel 0)) (Rel 1)))
  pub let_in : Means (codes "(env 1 (levels) (constraints) (main (tLetIn x (tRel 1) (tRel 2) (tProd y (tRel 3) (tRel 4)))))") (only_main (LetIn (Rel 1) (Rel 2) (Prod (Rel 3) (Rel 4))))
  pub match : Means (codes "(env 1 (levels) (constraints) (main (tCase (nat 0) (params (tRel 1) (tRel 2)) (pred (x y) (tRel 3)) (tRel 4) (br () (tRel 5)) (br (p) (tRel 6)))))")
      (only_main (Case (codes "nat") 0 (OneTerm (Rel 1) (OneTerm (Rel 2) NoTerm)) 2 (Rel 3) (Rel 4) (OneBranch 0 (Rel 5) (OneBranch 1 (Rel 6) NoBranch))))
  pub fixpoint : Means (codes "(env 1 (levels) (constraints) (main (tFix ((def f (tRel 1) (tRel 2) 3) (def g (tRel 4) (tRel 5) 6)) 1)))")
      (only_main (Fix (OneDef (Rel 1) (Rel 2) 3 (OneDef (Rel 4) (Rel 5) 6 NoDef)) 1))
  pub levels : Means (codes "(env 1 (levels u v) (constraints (lt u v) (le Set w) (eq v u)) (ConstantDecl k (tSort (Type (u 0) (v 1000))) None) (ConstantDecl l (tSort Prop) (tConst k)) (main (tInd k 7)))")
      (record {
        levels = codes "u" ∷ codes "v" ∷ [];
        constraints = record { left = codes "u"; relation = Less; right = codes "v" } ∷ record { left = codes "Set"; relation = AtMost; right = codes "w" } ∷ record { left = codes "v"; relation = Equal; right = codes "u" } ∷ [];
        decls = Constant (codes "k") (Sort (AType ((codes "u", 0) ∷ (codes "v", 1000) ∷ []))) None ∷ Constant (codes "l") (Sort AProp) (Some (Const (codes "k"))) ∷ [];
        main = Ind (codes "k") 7;
      })
  pub families : Means (codes "(env 1 (levels) (constraints) (InductiveDecl t (params (A (tSort Set))) (family t (sort Prop) (indices (i (tRel 0))) (ctor c (args (a (tRel 1)) (b (tRel 2))) (result (tRel 3)))) (family u (sort Set) (indices))) (main (tRel 0)))")
      (record {
        levels = [];
        constraints = [];
        decls = Block (codes "t") (Sort set ∷ []) (
            record { name = codes "t"; sort = AProp; indices = Rel 0 ∷ []; ctors = record { name = codes "c"; args = Rel 1 ∷ Rel 2 ∷ []; result = Rel 3 ∷ [] } ∷ [] }
            ∷ record { name = codes "u"; sort = set; indices = []; ctors = [] } ∷ []) ∷ [];
        main = Rel 0;
      })
  -- at most 1,000 brackets stand open
  pub nesting : verdict_of (nested 999) ≡ Refuse (refusals.Limit limits.Nesting 6024)
  pub end : verdict_of (nested 998) ≡ Refuse (refusals.Syntax 6024)

abbrev pub two_uses : NamedEnv
two_uses = record {
  levels = codes "v" ∷ codes "u" ∷ codes "v" ∷ [];
  constraints = [];
  decls = Constant (codes "k") (App (Lambda (Ind (codes "b") 0) (Sort (AType ((codes "y", 0) ∷ [])))) (Construct (codes "a") 0 0)) (Some (Sort (AType ((codes "x", 0) ∷ (codes "Set", 1) ∷ (codes "u", 1) ∷ [])))) ∷ [];
  main = Const (codes "a");
}

pub record AreNumbered : Type 0 where
  pub names : name_table two_uses ≡ codes "k" ∷ codes "b" ∷ codes "a" ∷ []
  pub levels : level_table two_uses ≡ codes "Set" ∷ codes "v" ∷ codes "u" ∷ codes "y" ∷ codes "x" ∷ []
