-- Programs after erasure without constants whose main is a constructor, and whose families have neither parameters nor arguments.
use Rattle.std.specs.Prelude.{◌≡◌, ℕ, List, [], ◌∷◌, Some, false, slice_get}
use Rattle.pc_terms.specs.declared.leaf.FamilyId.{FamilyId}
use Rattle.box_terms.specs.BoxSyntax.{BConstruct}
use Rattle.lambda_box.specs.BoxProgram.{BoxFamily, BoxProgram, Has}

abbrev pub AreZero : List ℕ → Type 0
AreZero [] = Unit {0}
AreZero (n ∷ ns) = (n ≡ 0) × AreZero ns

abbrev pub HaveNoCounts : List BoxFamily → Type 0
HaveNoCounts [] = Unit {0}
HaveNoCounts (F ∷ Fs) = (F.params ≡ 0) × AreZero F.args × HaveNoCounts Fs

abbrev pub plain_program : List BoxFamily → FamilyId → ℕ → BoxProgram
plain_program Fs f c = record { constants = []; families = Fs; main = BConstruct f c }

-- the program is one, and main's family isn't propositional and has the constructor
pub record IsPlainProgram (P : BoxProgram) (f : FamilyId) (c : ℕ) : Type 0 where
  pub is : P ≡ plain_program P.families f c
  pub no_counts : HaveNoCounts P.families
  pub family : BoxFamily
  pub there : Has P.families family
  pub named : family.id ≡ f
  pub not_prop : family.propositional ≡ false
  pub params : family.params ≡ 0
  pub count : slice_get family.args c ≡ Some 0
