-- The form of programs after erasure, and what `to_anf` takes.
use Rattle.std.specs.Prelude.{◌≡◌, ℕ, ◌≤◌, true, List, [], ◌∷◌, length}
use Rattle.trees.specs.Tree.{Slot, Rel, Node, Places, End, Child, Group, Done, Next}
use Rattle.box_terms.specs.BoxSyntax.{BoxLabel, box_slots, BoxTerm, BoxTerms, BApp, BCase}
use Rattle.lambda_box.specs.BoxProgram.{BoxConstant, BoxFamily, BoxProgram, Has, KeepsBoxFamily}
use Rattle.trees.specs.Measures.{depth, depth_limit}
use Rattle.lambda_box.specs.BoxForm.{IsBoxProgram}
use Rattle.lambda_box.specs.OrdinaryForm.{IsOrdinaryProgram}
use Rattle.anf_convert.specs.Anf.{AnfProgram}
use Rattle.anf_convert.specs.AnfForm.{fields, AnfFormed}
use Rattle.anf_convert.specs.ToAnfKeeps.{CanBeConverted, KeepsAnswers}
use Rattle.anf_convert.specs.TermForm.{constructor_args, ProgramFits}

-- what the passes before leave: no constructor has more arguments than a block has fields, and no match is on a propositional family that has a constructor
abbrev pub PreparedAt : BoxProgram → BoxTerm → Type 0
PreparedAt P (BApp f a) = constructor_args (BApp f a) ≤ fields
PreparedAt P (BCase f s (Next n b bs)) = (F : BoxFamily) → KeepsBoxFamily P f F → F.propositional ≡ true → ⊥
PreparedAt P t = Unit {0}

abbrev mutual
  pub Prepared : BoxProgram → BoxTerm → Type 0
  Prepared P (Rel i) = Unit {0}
  Prepared P (Node l ts) = PreparedAt P (Node l ts) × PreparedChildren P ts

  pub PreparedChildren : BoxProgram → {ss : List Slot} → Places BoxLabel box_slots ss → Type 0
  PreparedChildren P End = Unit {0}
  PreparedChildren P (Child t ts) = Prepared P t × PreparedChildren P ts
  PreparedChildren P (Group us ts) = PreparedTerms P us × PreparedChildren P ts

  pub PreparedTerms : BoxProgram → BoxTerms → Type 0
  PreparedTerms P Done = Unit {0}
  PreparedTerms P (Next n t ts) = Prepared P t × PreparedTerms P ts

-- a program of the form, from the passes before, is one that `to_anf` takes. m bounds the numbers of constructors
abbrev pub FormSuffices : Type 0
FormSuffices =
    (P : BoxProgram) (m : ℕ) → IsBoxProgram P → ((d : BoxConstant) → Has P.constants d → Prepared P d.body) → Prepared P P.main → ((F : BoxFamily) → Has P.families F → length F.args ≤ m) →
    CanBeConverted P × ProgramFits P m

-- no term is deeper than terms are
abbrev pub AreShallow : List BoxConstant → Type 0
AreShallow [] = Unit {0}
AreShallow (c ∷ cs) = (depth c.body ≤ depth_limit) × AreShallow cs

-- no family has over m constructors
abbrev pub ConstructorsWithin : BoxProgram → ℕ → Type 0
ConstructorsWithin P m = (F : BoxFamily) → Has P.families F → length F.args ≤ m

-- what `to_anf` promises of its program
abbrev pub ToAnfKeepsData : BoxProgram → AnfProgram → Type 0
ToAnfKeepsData P Q = IsBoxProgram P → IsOrdinaryProgram P → CanBeConverted P × KeepsAnswers P Q

abbrev pub HasAnfForm : BoxProgram → AnfProgram → Type 0
HasAnfForm P Q = IsBoxProgram P → IsOrdinaryProgram P → (m : ℕ) → ConstructorsWithin P m → AnfFormed Q m
