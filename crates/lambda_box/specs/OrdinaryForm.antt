-- The family of an id; and programs in which no match on a propositional family is left that has a branch.
use Rattle.std.specs.Prelude.{◌≡◌, Bool, true, false, ◌&&◌, ◌==◌, if◌then◌else◌, List, [], ◌∷◌, Option, Some, None}
use Rattle.trees.specs.Tree.{Rel, Done, Next}
use Rattle.pc_terms.specs.declared.leaf.FamilyId.{FamilyId}
use Rattle.box_terms.specs.BoxSyntax.{BoxTerm, BoxTerms, Box, BLambda, BLetIn, BApp, BConst, BConstruct, BCase, BFix}
use Rattle.lambda_box.specs.BoxProgram.{BoxConstant, BoxFamily, BoxProgram, Has}

-- whether two ids are the same
abbrev pub same_family : FamilyId → FamilyId → Bool
same_family f g = (f.block.0 == g.block.0) && (f.family == g.family)

-- the first family of that id
abbrev pub family_of : List BoxFamily → FamilyId → Option BoxFamily
family_of [] f = None
family_of (F ∷ Fs) f = if same_family F.id f then Some F else family_of Fs f

-- whether it is in Prop; not where there is none
abbrev pub propositional_of : Option BoxFamily → Bool
propositional_of None = false
propositional_of (Some F) = F.propositional

-- no match is left on a propositional family, but where it has no branches
abbrev mutual
  pub IsOrdinary : List BoxFamily → BoxTerm → Type 0
  IsOrdinary Fs (Rel i) = Unit {0}
  IsOrdinary Fs Box = Unit {0}
  IsOrdinary Fs (BLambda b) = IsOrdinary Fs b
  IsOrdinary Fs (BLetIn b t) = IsOrdinary Fs b × IsOrdinary Fs t
  IsOrdinary Fs (BApp f a) = IsOrdinary Fs f × IsOrdinary Fs a
  IsOrdinary Fs (BConst k) = Unit {0}
  IsOrdinary Fs (BConstruct f c) = Unit {0}
  IsOrdinary Fs (BCase f s bs) = (propositional_of (family_of Fs f) ≡ true → bs ≡ Done) × IsOrdinary Fs s × AreOrdinary Fs bs
  IsOrdinary Fs (BFix i rargs bodies) = AreOrdinary Fs bodies

  pub AreOrdinary : List BoxFamily → BoxTerms → Type 0
  AreOrdinary Fs Done = Unit {0}
  AreOrdinary Fs (Next n t ts) = IsOrdinary Fs t × AreOrdinary Fs ts

pub record IsOrdinaryProgram (P : BoxProgram) : Type 0 where
  pub constants : (d : BoxConstant) → Has P.constants d → IsOrdinary P.families d.body
  pub main : IsOrdinary P.families P.main
