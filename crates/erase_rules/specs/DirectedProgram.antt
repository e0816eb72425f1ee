-- Directed erasure of a whole environment, with units: main first, then the constants that are reached, from the latest declared to the
-- earliest. A constant is reached where the erased main, or the erased body of a reached constant, names it. A reached constant without a body
-- is remembered, and is only spoken of once all is erased: the first declared. A refusal stands at what is being erased.
use Rattle.std.specs.Prelude.{ℕ, suc, Bool, false, ◌||◌, if◌then◌else◌, List, [], ◌∷◌, ◌++◌, length, Option, Some, None}
use Rattle.trees.specs.Tree.{Slot, Rel, Node, Places, End, Child, Group, Done, Next}
use Rattle.pc_terms.specs.declared.leaf.Name.{Name}
use Rattle.pc_terms.specs.Syntax.{Term}
use Rattle.box_terms.specs.BoxSyntax.{BoxLabel, BConstOf, box_slots, BoxTerm, BoxTerms}
use Rattle.calculus_rules.specs.declared.declaration.Family.{Family}
use Rattle.calculus_rules.specs.declared.declaration.Block.{Block}
use Rattle.calculus_rules.specs.declared.declaration.Kept.{Kept}
use Rattle.calculus_rules.specs.declared.declaration.Kept.TheVariants.{Constant, Block as Whole}
use Rattle.pc_rules.specs.declared.broken.Place.TheVariants.{Declaration as AtDeclaration, Main as AtMain}
use Rattle.pc_rules.specs.declared.meter.Account.{Account}
use Rattle.calculus_rules.specs.Environment.{Env, with_parameters}
use Rattle.calculus_rules.specs.Same.{same_names}
use Rattle.pc_rules.specs.DirectedPlaces.{Placed, gives, at_place, and_then}
use Rattle.pc_rules.specs.DirectedComparison.{Test}
use Rattle.pc_rules.specs.DirectedTyping.{Typing, infer}
use Rattle.lambda_box.specs.BoxProgram.{BoxConstant, BoxFamily, BoxProgram}
use Rattle.erase_laws.specs.ErasedProgram.{counts_of}
use Rattle.erase_rules.specs.DirectedErasure.{erased}

-- a term after erasure names a constant

abbrev pub is_constant : Name → BoxLabel → Bool
is_constant k (BConstOf l) = same_names l k
is_constant k l = false

abbrev mutual
  pub names_constant : Name → BoxTerm → Bool
  names_constant k (Rel i) = false
  names_constant k (Node l ts) = is_constant k l || names_constant_places k ts

  pub names_constant_places : Name → {ss : List Slot} → Places BoxLabel box_slots ss → Bool
  names_constant_places k End = false
  names_constant_places k (Child t ts) = names_constant k t || names_constant_places k ts
  names_constant_places k (Group us ts) = names_constant_terms k us || names_constant_places k ts

  pub names_constant_terms : Name → BoxTerms → Bool
  names_constant_terms k Done = false
  names_constant_terms k (Next n t ts) = names_constant k t || names_constant_terms k ts

abbrev pub is_reached : Name → List BoxTerm → Bool
is_reached k [] = false
is_reached k (t ∷ ts) = names_constant k t || is_reached k ts

-- the constants that are reached among declarations, the newest first, and the first declared of those without a body
pub record Reached : Type 0 where
  pub constants : List BoxConstant
  pub without_body : Option Name

abbrev pub with_constant : Name → BoxTerm → Reached → Reached
with_constant k b r = record { constants = record { name = k; body = b } ∷ r.constants; without_body = r.without_body }

abbrev pub first_declared : Name → Option Name → Option Name
first_declared k None = Some k
first_declared k (Some l) = Some l

abbrev pub with_axiom : Name → Reached → Reached
with_axiom k r = record { constants = r.constants; without_body = first_declared k r.without_body }

-- ts is what is erased so far. Declaration d stands after as many as come behind it
unfoldable pub erased_constants : Env → Typing → List BoxTerm → List Kept → Account → Placed Reached
erased_constants E inf ts [] u = gives (record { constants = []; without_body = None }) u
erased_constants E inf ts (Constant k T (Some b) ∷ ds) u =
    if is_reached k ts
    then and_then (at_place (AtDeclaration (length ds)) (erased E inf [] b u)) (λ b' v. and_then (erased_constants E inf (b' ∷ ts) ds v) (λ r w. gives (with_constant k b' r) w))
    else erased_constants E inf ts ds u
erased_constants E inf ts (Constant k T None ∷ ds) u =
    if is_reached k ts then and_then (erased_constants E inf ts ds u) (λ r v. gives (with_axiom k r) v) else erased_constants E inf ts ds u
erased_constants E inf ts (d ∷ ds) u = erased_constants E inf ts ds u

-- the families of a block, from number n on, with their counts
abbrev pub families_from : Block → ℕ → List Family → List BoxFamily
families_from B n [] = []
families_from B n (G ∷ Gs) = counts_of (record { block = B.name; family = n }) (with_parameters B.params G) ∷ families_from B (suc n) Gs

-- the families of all whole blocks, in the order in which they are declared
abbrev pub box_families : List Kept → List BoxFamily
box_families [] = []
box_families (Whole B ∷ ds) = box_families ds ++ families_from B 0 B.families
box_families (d ∷ ds) = box_families ds

-- a program, or the first declared constant without a body that is reached
pub data Answer : Type 0 where
  Program : BoxProgram → Answer
  ReachesAxiom : Name → Answer

abbrev pub answer : Env → BoxTerm → Reached → Option Name → Answer
answer E main r None = Program (record { constants = r.constants; families = box_families E.declarations; main = main })
answer E main r (Some k) = ReachesAxiom k

-- the whole: n rules may stand in one another
abbrev pub erased_program : Env → Test → ℕ → Term → Account → Placed Answer
erased_program E q n main u =
    and_then (at_place AtMain (erased E (infer E q n) [] main u)) (λ main' v.
    and_then (erased_constants E (infer E q n) (main' ∷ []) E.declarations v) (λ r w. gives (answer E main' r r.without_body) w))
