-- The translation to A-normal form keeps data and counts.
use Rattle.std.specs.Prelude.{◌≡◌, ℕ, ◌≤◌, true, List, [], ◌∷◌, length, AllPairs, ◌≢◌}
use Rattle.trees.specs.Tree.{Slot, Rel, Node, Places, End, Child, Group, Done, Next}
use Rattle.pc_terms.specs.declared.leaf.Name.{Name}
use Rattle.pc_terms.specs.declared.leaf.FamilyId.{FamilyId}
use Rattle.box_terms.specs.BoxSyntax.{BoxLabel, box_slots, BoxTerm, BoxTerms, BApp, BCase, BFix}
use Rattle.lambda_box.specs.BoxProgram.{BoxFamily, BoxProgram, KeepsBoxConstant, KeepsBoxFamily}
use Rattle.lambda_box.specs.ClosureEvaluation.{ClosureValue, VConstruct, ClosureValues, NoValue, Then, Empty, Bind, Counts, ◌⊕◌, ClosureRun}
use Rattle.anf_convert.specs.Anf.{AnfProgram}
use Rattle.anf_convert.specs.AnfEvaluation.{AnfVal, AnfVals, AnfAnswers}
use Rattle.anf_convert.specs.AnfData.{DataTree, Made, DataTrees, DNil, DCons, AnfIsData, AnfAreData}
use Rattle.anf_convert.specs.ToAnf.{to_anf}

-- one definition for each recursive argument, each under all n of them
abbrev pub AreUnder : ℕ → List ℕ → BoxTerms → Type 0
AreUnder n [] Done = Unit {0}
AreUnder n (r ∷ rs) (Next m b bs) = (m ≡ n) × AreUnder n rs bs
AreUnder n rs bs = ⊥

-- no match is left on a propositional family that has a constructor
abbrev pub ReadyAt : BoxProgram → BoxTerm → Type 0
ReadyAt P (BCase f s (Next n b bs)) = (F : BoxFamily) → KeepsBoxFamily P f F → F.propositional ≡ true → ⊥
ReadyAt P (BFix i rargs bodies) = AreUnder (length rargs) rargs bodies
ReadyAt P t = Unit {0}

abbrev mutual
  pub Ready : BoxProgram → BoxTerm → Type 0
  Ready P (Rel i) = Unit {0}
  Ready P (Node l ts) = ReadyAt P (Node l ts) × ReadyChildren P ts

  pub ReadyChildren : BoxProgram → {ss : List Slot} → Places BoxLabel box_slots ss → Type 0
  ReadyChildren P End = Unit {0}
  ReadyChildren P (Child t ts) = Ready P t × ReadyChildren P ts
  ReadyChildren P (Group us ts) = ReadyTerms P us × ReadyChildren P ts

  pub ReadyTerms : BoxProgram → BoxTerms → Type 0
  ReadyTerms P Done = Unit {0}
  ReadyTerms P (Next n t ts) = Ready P t × ReadyTerms P ts

mutual
  pub data ValueIs : ClosureValue → DataTree → Type 0 where
    value_is : {f : FamilyId} {c : ℕ} {vs : ClosureValues} {ds : DataTrees} → ValuesAre vs ds → ValueIs (VConstruct f c vs) (Made c ds)

  pub data ValuesAre : ClosureValues → DataTrees → Type 0 where
    no_values : ValuesAre NoValue DNil
    and_value : {v : ClosureValue} {vs : ClosureValues} {d : DataTree} {ds : DataTrees} → ValueIs v d → ValuesAre vs ds → ValuesAre (Then v vs) (DCons d ds)

-- main, applied to these values, the last one first
pub data BoxAnswers (P : BoxProgram) : ClosureValues → ClosureValue → Counts → Type 0 where
  box_alone : {v : ClosureValue} {c : Counts} → ClosureRun P Empty P.main v c → BoxAnswers P NoValue v c
  box_applied : {args : ClosureValues} {a v r : ClosureValue} {c d : Counts} → BoxAnswers P args v c → ClosureRun P (Bind a (Bind v Empty)) (BApp (Rel 1) (Rel 0)) r d → BoxAnswers P (Then a args) r (c ⊕ d)

-- main of the program in A-normal form, applied to these values, gives the data, with as many matches and blocks as these counts, no more contractions and no
-- wider block
pub record AnfGivesData (Q : AnfProgram) (args : AnfVals) (d : DataTree) (c : Counts) : Type 0 where
  pub v : AnfVal
  pub contractions : ℕ
  pub words : ℕ
  pub answers : AnfAnswers Q c.greatest args v contractions c.matches c.blocks words
  pub is : AnfIsData v d
  pub no_more : contractions ≤ c.contractions

-- what the translation asks of a program
pub record CanBeConverted (P : BoxProgram) : Type 0 where
  pub distinct : AllPairs (λ c d. c.name ≢ d.name) P.constants
  pub constants : (k : Name) (b : BoxTerm) → KeepsBoxConstant P k b → Ready P b
  pub main : Ready P P.main

-- where main of the one, applied to values that are data, gives data, so does main of the other, applied to the same data
abbrev pub KeepsAnswers : BoxProgram → AnfProgram → Type 0
KeepsAnswers P Q = (args : ClosureValues) (args' : AnfVals) (ds : DataTrees) (v : ClosureValue) (d : DataTree) (c : Counts) → CanBeConverted P → ValuesAre args ds → AnfAreData args' ds → BoxAnswers P args v c → ValueIs v d → AnfGivesData Q args' d c

-- so it is with the translation of a program of which constructors stand with all their arguments, and matches on propositional families are gone
abbrev pub ToAnfKeeps : Type 0
ToAnfKeeps = (P : BoxProgram) → KeepsAnswers P (to_anf P)
