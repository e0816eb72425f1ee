-- The laws of directed erasure, as statements.
use Rattle.std.specs.Prelude.{◌≡◌, ◌≢◌, ◌≤◌, ℕ, ◌+◌, true, List, [], ◌∷◌, length, Option, None}
use Rattle.universe_levels.specs.declared.level.Level.{Level}
use Rattle.universe_levels.specs.declared.constraint.Constraint.{Constraint}
use Rattle.universe_levels.specs.declared.sort.Sort.TheVariants.{Prop}
use Rattle.universe_levels.specs.Consistency.{IsConsistent}
use Rattle.trees.specs.Measures.{depth, nodes, above}
use Rattle.trees.specs.Closed.{Closed}
use Rattle.pc_terms.specs.declared.leaf.Name.{Name}
use Rattle.pc_terms.specs.declared.leaf.FamilyId.{FamilyId}
use Rattle.pc_terms.specs.Syntax.{Term, SortT, Prod, Ind, Construct, Case}
use Rattle.pc_terms.specs.Formed.{IsFormed}
use Rattle.box_terms.specs.BoxSyntax.{BoxTerm}
use Rattle.pc_rules.specs.declared.meter.Account.{Account}
use Rattle.calculus_rules.specs.Environment.{Env, FamilyDecl, KeepsConstant, KeepsFamily}
use Rattle.calculus_rules.specs.Context.{Context}
use Rattle.calculus_rules.specs.Typing.{guarded, Types}
use Rattle.calculus_rules.specs.Accepted.{IsAccepted}
use Rattle.pc_rules.specs.WellCounted.{IsCounted, HasCountedDeclarations, IsCountedContext}
use Rattle.pc_rules.specs.DirectedRun.{Done}
use Rattle.pc_rules.specs.DirectedComparison.{Test, IsTest}
use Rattle.pc_rules.specs.DirectedTyping.{Typing, infer}
use Rattle.pc_rules.specs.DirectedErasable.{erasable_test}
use Rattle.pc_rules.specs.DirectedPlaces.{Outcome, Gives, Breaks, Spends, Nests, Placed}
use Rattle.pc_rules.specs.DirectedDeclarations.{Given, Accepts, environment_rule}
use Rattle.calculus_rules.specs.Elimination.{MayErase}
use Rattle.calculus_rules.specs.Evaluation.{Evaluates}
use Rattle.calculus_rules.specs.FirstOrder.{Shape, Data, IsFirstOrder, Reads, FitsShapes}
use Rattle.rule_laws.specs.Declarations.{AllGivenFormed}
use Rattle.lambda_box.specs.BoxEvaluation.{BoxEvaluates}
use Rattle.lambda_box.specs.BoxData.{BoxReads}
use Rattle.pc_rules.specs.DirectedLaws.{more, IsSteady}
use Rattle.lambda_box.specs.BoxProgram.{BoxConstant, BoxProgram}
use Rattle.lambda_box.specs.BoxForm.{HasFewCounts, IsBoxProgram}
use Rattle.erase_laws.specs.Erases.{Erases}
use Rattle.erase_laws.specs.ErasedProgram.{counts_of, HasErased, IsErased}
use Rattle.agreeing.specs.Agreement.{Agree, AgreeAtPlaces}
use Rattle.erase_rules.specs.DirectedErasure.{erased}
use Rattle.erase_rules.specs.DirectedProgram.{is_reached, Program, ReachesAxiom, erased_program}
use Rattle.erase_rules.specs.ProgramNodes.{program_nodes, body_nodes}

-- in a well-counted environment and context, what directed erasure makes of a well-counted term is an erasure of it
abbrev pub ErasureIsSound : Type 0
ErasureIsSound = (E : Env) (q : Test) → IsTest E.levels E.constraints q → HasCountedDeclarations E → (n : ℕ) (c : Context) (t : Term) (t' : BoxTerm) (u v : Account) →
    IsCountedContext E c → IsCounted E t → (erased E (infer E q n) c t u).end ≡ Done t' v → Erases E c t t'

-- what a term without evidence is: no sort, no product and no family; a constructor only of a family that isn't in Prop; and a match only on a
-- family that may be erased former by former
abbrev pub HasFormer : Env → Term → Type 0
HasFormer E (SortT s) = ⊥
HasFormer E (Prod A B) = ⊥
HasFormer E (Ind f) = ⊥
HasFormer E (Construct f k) = (F : FamilyDecl) × KeepsFamily E f F × (F.sort ≢ Prop)
HasFormer E (Case f ps n ret s bs) = (F : FamilyDecl) × KeepsFamily E f F × MayErase E f F
HasFormer E t = Unit {0}

abbrev pub NoEvidenceNoType : Type 0
NoEvidenceNoType = (E : Env) (q : Test) (n : ℕ) (c : Context) (t : Term) (u v : Account) → IsCounted E t → (erasable_test E (infer E q n) c t u).end ≡ Done None v → HasFormer E t

-- what erasure gives is no greater than its source, by any of the measures, and closed where that is
pub record IsNoGreater (t : Term) (t' : BoxTerm) : Type 0 where
  pub nodes : nodes t' ≤ nodes t
  pub depth : depth t' ≤ depth t
  pub above : above t' ≤ above t
  pub closed : (k : ℕ) → Closed k t → Closed k t'

abbrev pub ErasedIsNoGreater : Type 0
ErasedIsNoGreater = (E : Env) (inf : Typing) (c : Context) (t : Term) (t' : BoxTerm) (u v : Account) → (erased E inf c t u).end ≡ Done t' v → IsNoGreater t t'

-- the families' counts are within the limits of programs
abbrev pub AreFewCounts : Env → Type 0
AreFewCounts E = (f : FamilyId) (F : FamilyDecl) → KeepsFamily E f F → HasFewCounts (counts_of f F)

-- a program that directed erasure makes of an accepted environment with a typed main is erased from them
abbrev pub ProgramsAreErased : Type 0
ProgramsAreErased = (E : Env) → IsAccepted E → AreFewCounts E → (q : Test) → IsTest E.levels E.constraints q → (n : ℕ) (main T : Term) → Types guarded E [] main T →
    (P : BoxProgram) (u v : Account) → (erased_program E q n main u).outcome ≡ Gives (Program P) v → IsErased E main P

-- so it has the form of box programs, and its constants are erasures of the source's
abbrev pub ProgramsHaveForm : Type 0
ProgramsHaveForm = (E : Env) → IsAccepted E → AreFewCounts E → (q : Test) → IsTest E.levels E.constraints q → (n : ℕ) (main T : Term) → Types guarded E [] main T →
    (P : BoxProgram) (u v : Account) → (erased_program E q n main u).outcome ≡ Gives (Program P) v → IsBoxProgram P × HasErased E P

-- the same of an environment that the directed rules have checked
abbrev pub CheckedProgramsHaveForm : Type 0
CheckedProgramsHaveForm = (levels : List Level) (cs : List Constraint) (cycle : Option (List ℕ)) (q : Test) → IsTest (length levels) cs q → (cycle ≡ None → IsConsistent (length levels) cs) →
    (m n : ℕ) (ds : List Given) (main T : Term) (E : Env) (u v : Account) → AllGivenFormed ds → IsFormed main → (environment_rule levels cs cycle q m ds main u).outcome ≡ Accepts E T v →
    AreFewCounts E → (P : BoxProgram) (x y : Account) → (erased_program E q n main x).outcome ≡ Gives (Program P) y → IsErased E main P × IsBoxProgram P × HasErased E P

-- and where main, of a first-order type, evaluates, its value is data, and the program evaluates to that data, in no more nodes
abbrev pub ProgramsKeepValues : Type 0
ProgramsKeepValues = (E : Env) → IsAccepted E → AreFewCounts E → (q : Test) → IsTest E.levels E.constraints q → (n : ℕ) (main T : Term) → Types guarded E [] main T →
    (P : BoxProgram) (x y : Account) → (erased_program E q n main x).outcome ≡ Gives (Program P) y → (v : Term) (k : ℕ) → Evaluates E main v k →
    (S : List Shape) → IsFirstOrder E T S →
    (d : Data) × (w : BoxTerm) × (i : ℕ) × (j : ℕ) × (i ≤ k) × BoxEvaluates P P.main w i j × Reads E S 0 v d × BoxReads P w d × FitsShapes S 0 d

-- a program has at most as many nodes as main and the bodies of constants
abbrev pub ProgramsAreNoGreater : Type 0
ProgramsAreNoGreater = (E : Env) (q : Test) (n : ℕ) (main : Term) (P : BoxProgram) (u v : Account) → (erased_program E q n main u).outcome ≡ Gives (Program P) v →
    program_nodes P ≤ nodes main + body_nodes E.declarations

-- each constant, the newest first, is named by one of the terms or by the body of a newer constant
abbrev pub AreReached : List BoxTerm → List BoxConstant → Type 0
AreReached ts [] = Unit {0}
AreReached ts (d ∷ cs) = (is_reached d.name ts ≡ true) × AreReached (d.body ∷ ts) cs

-- a program has no constants but those that main reaches
abbrev pub ConstantsAreReached : Type 0
ConstantsAreReached = (E : Env) (q : Test) (n : ℕ) (main : Term) (P : BoxProgram) (u v : Account) → (erased_program E q n main u).outcome ≡ Gives (Program P) v →
    AreReached (P.main ∷ []) P.constants

-- a constant that is named for having no body is kept without one
abbrev pub AxiomsHaveNoBody : Type 0
AxiomsHaveNoBody = (E : Env) (q : Test) (n : ℕ) (main : Term) (k : Name) (u v : Account) → (erased_program E q n main u).outcome ≡ Gives (ReachesAxiom k) v →
    (T : Term) × KeepsConstant E k T None

-- what erasure ends with depends neither on the units and the uses nor on the room for nested rules

abbrev pub ErasureAgrees : Type 0
ErasureAgrees =
    (E : Env) (q : Test) (m n : ℕ) (c : Context) (t : Term) (u v : Account) → Agree (erased E (infer E q m) c t u).end (erased E (infer E q n) c t v).end

abbrev pub ProgramsAgree : Type 0
ProgramsAgree = (E : Env) (q : Test) (m n : ℕ) (main : Term) (u v : Account) → AgreeAtPlaces (erased_program E q m main u).outcome (erased_program E q n main v).outcome

-- the test and erasure never go back on units, and more units change no result but that no unit was left

abbrev pub ErasabilityIsSteady : Type 0
ErasabilityIsSteady = (E : Env) (q : Test) (n : ℕ) (c : Context) (t : Term) → IsSteady (erasable_test E (infer E q n) c t)

abbrev pub ErasureIsSteady : Type 0
ErasureIsSteady = (E : Env) (q : Test) (n : ℕ) (c : Context) (t : Term) → IsSteady (erased E (infer E q n) c t)

-- the same of whole environments

abbrev pub LeavesAt : {A : Type 0} → Outcome A → ℕ → Type 0
LeavesAt (Gives a v) n = v.left ≤ n
LeavesAt (Breaks p b v) n = v.left ≤ n
LeavesAt Spends n = Unit {0}
LeavesAt Nests n = Unit {0}

abbrev pub StaysAt : {A : Type 0} → ℕ → Outcome A → Outcome A → Type 0
StaysAt k (Gives a v) o = o ≡ Gives a (more k v)
StaysAt k (Breaks p b v) o = o ≡ Breaks p b (more k v)
StaysAt k Spends o = Unit {0}
StaysAt k Nests o = o ≡ Nests

pub record IsSteadyAtPlaces {A : Type 0} (f : Account → Placed A) : Type 0 where
  pub falls : (u : Account) → LeavesAt (f u).outcome u.left
  pub stays : (k : ℕ) (u : Account) → StaysAt k (f u).outcome (f (more k u)).outcome

abbrev pub ProgramsAreSteady : Type 0
ProgramsAreSteady = (E : Env) (q : Test) (n : ℕ) (main : Term) → IsSteadyAtPlaces (erased_program E q n main)
