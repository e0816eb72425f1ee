-- Directed erasure of small environments, by computation.
use Rattle.std.proofs.Common.{◌≡◌, ℕ, true, false, List, [], ◌∷◌, Some, None, refl}
use Rattle.universe_levels.specs.declared.sort.Sort.{Sort}
use Rattle.universe_levels.specs.declared.sort.Sort.TheVariants.{Prop, Of}
use Rattle.pc_terms.specs.declared.leaf.Name.{Name}
use Rattle.pc_terms.specs.declared.leaf.FamilyId.{FamilyId}
use Rattle.pc_terms.specs.Syntax.{Term, Done, Next, Rel, SortT, Prod, Lambda, App, Const, Ind, Construct, Case, Fix}
use Rattle.box_terms.specs.BoxSyntax.{Box, BLambda, BApp, BConst, BConstruct, BCase, BFix}
use Rattle.calculus_rules.specs.declared.declaration.Block.{Block}
use Rattle.calculus_rules.specs.declared.declaration.Kept.{Kept}
use Rattle.calculus_rules.specs.declared.declaration.Kept.TheVariants.{Constant, Block as Whole}
use Rattle.pc_rules.specs.declared.broken.Broken.TheVariants.{NotAProduct}
use Rattle.pc_rules.specs.declared.broken.Place.TheVariants.{Declaration as AtDeclaration}
use Rattle.pc_rules.specs.declared.meter.Account.{Account}
use Rattle.calculus_rules.specs.Environment.{Env}
use Rattle.pc_rules.specs.DirectedRun.{ticking, bind, run_all}
use Rattle.pc_rules.specs.DirectedWeakHead.{steps}
use Rattle.pc_rules.specs.DirectedComparison.{compare, Test}
use Rattle.pc_rules.specs.DirectedTyping.{infer, sort_of, check, retype, conv, check_all, sorts_of, branches_rule, types_rule, definitions_rule}
use Rattle.pc_rules.specs.DirectedGuard.{find, body_guard}
use Rattle.pc_rules.specs.DirectedErasable.{ends_in_sort}
use Rattle.calculus_rules.specs.Same.{same}
use Rattle.lambda_box.specs.BoxProgram.{BoxFamily}
use Rattle.erase_rules.specs.DirectedErasure.{tested}
use Rattle.pc_rules.specs.DirectedPlaces.{Outcome, Gives, Breaks, and_then}
use Rattle.erase_rules.specs.DirectedProgram.{erased_constants, Answer, Program, ReachesAxiom, erased_program}

abbrev n_nat : Name
n_nat = record { 0 = 0 }

abbrev n_list : Name
n_list = record { 0 = 1 }

abbrev n_add : Name
n_add = record { 0 = 2 }

abbrev n_true : Name
n_true = record { 0 = 3 }

abbrev n_proof : Name
n_proof = record { 0 = 4 }

abbrev fnat : FamilyId
fnat = record { block = n_nat; family = 0 }

abbrev flist : FamilyId
flist = record { block = n_list; family = 0 }

abbrev ftrue : FamilyId
ftrue = record { block = n_true; family = 0 }

abbrev set : Sort
set = Of (record { level = record { 0 = 0 }; add = 0 } ∷ [])

abbrev NatT : Term
NatT = Ind fnat

abbrev TrueT : Term
TrueT = Ind ftrue

abbrev block_nat : Block
block_nat = record {
  name = n_nat;
  params = [];
  families = record {
    name = n_nat;
    sort = set;
    indices = [];
    ctors = record { name = record { 0 = 10 }; args = []; arg_sorts = []; result = [] } ∷ record { name = record { 0 = 11 }; args = NatT ∷ []; arg_sorts = set ∷ []; result = [] } ∷ [];
  } ∷ [];
}

-- lists, with a parameter
abbrev block_list : Block
block_list = record {
  name = n_list;
  params = SortT set ∷ [];
  families = record {
    name = n_list;
    sort = set;
    indices = [];
    ctors =
        record { name = record { 0 = 12 }; args = []; arg_sorts = []; result = [] }
        ∷ record { name = record { 0 = 13 }; args = Rel 0 ∷ App (Ind flist) (Rel 1) ∷ []; arg_sorts = set ∷ set ∷ []; result = [] } ∷ [];
  } ∷ [];
}

-- a proposition with one proof
abbrev block_true : Block
block_true = record {
  name = n_true;
  params = [];
  families = record { name = n_true; sort = Prop; indices = []; ctors = record { name = record { 0 = 14 }; args = []; arg_sorts = []; result = [] } ∷ [] } ∷ [];
}

abbrev NN : Term
NN = Prod NatT (Prod NatT NatT)

abbrev S : Term → Term
S t = App (Construct fnat 1) t

abbrev add_fix : Term
add_fix = Fix 0 (0 ∷ []) (Next 0 NN Done) (Next 1 (Lambda NatT (Lambda NatT (Case fnat Done 1 NatT (Rel 1) (Next 0 (Rel 0) (Next 1 (S (App (App (Rel 3) (Rel 0)) (Rel 1))) Done))))) Done)

abbrev units : ℕ → Account
units n = record { left = n; uses = 0 ∷ 0 ∷ 0 ∷ 0 ∷ 0 ∷ 0 ∷ 0 ∷ 0 ∷ 0 ∷ 0 ∷ 0 ∷ 0 ∷ [] }

abbrev all : Test
all u w = true

abbrev env_of : List Kept → Env
env_of ds = record { levels = 0; constraints = []; declarations = ds }

abbrev box_nat : BoxFamily
box_nat = record { id = fnat; propositional = false; params = 0; args = 0 ∷ 1 ∷ [] }

abbrev box_list : BoxFamily
box_list = record { id = flist; propositional = false; params = 1; args = 0 ∷ 2 ∷ [] }

abbrev box_true : BoxFamily
box_true = record { id = ftrue; propositional = true; params = 0; args = 0 ∷ [] }

-- what a run gives, whatever is left
abbrev given : Outcome Answer → Outcome Answer
given (Gives a u) = Gives a (units 0)
given (Breaks p b u) = Breaks p b (units 0)
given o = o

-- the empty list of numbers: the parameter is a type, so box
lists_erase : given (erased_program (env_of (Whole block_list ∷ Whole block_nat ∷ [])) all 20 (App (Construct flist 0) NatT) (units 40)).outcome
    ≡ Gives (Program (record { constants = []; families = box_nat ∷ box_list ∷ []; main = BApp (BConstruct flist 0) Box })) (units 0)
unfolding infer ticking bind sort_of check retype conv check_all steps same ends_in_sort tested and_then erased_constants
lists_erase = refl

-- a constant without a body is reached
axioms_reached : given (erased_program (env_of (Constant n_add NatT None ∷ Whole block_nat ∷ [])) all 20 (Const n_add) (units 40)).outcome ≡ Gives (ReachesAxiom n_add) (units 0)
unfolding infer ticking bind sort_of check retype conv check_all steps same ends_in_sort tested and_then erased_constants
axioms_reached = refl

-- one that is a proof is never reached, and is box
proofs_erase : given (erased_program (env_of (Constant n_proof TrueT None ∷ Whole block_true ∷ [])) all 20 (Const n_proof) (units 40)).outcome
    ≡ Gives (Program (record { constants = []; families = box_true ∷ []; main = Box })) (units 0)
unfolding infer ticking bind sort_of check retype conv check_all steps same ends_in_sort tested and_then erased_constants
proofs_erase = refl

-- a match on a proof has a former, and its scrutinee is box
matches_erase : given (erased_program (env_of (Constant n_proof TrueT None ∷ Whole block_true ∷ Whole block_nat ∷ [])) all 20
    (Case ftrue Done 1 NatT (Const n_proof) (Next 0 (Construct fnat 0) Done)) (units 60)).outcome
    ≡ Gives (Program (record { constants = []; families = box_nat ∷ box_true ∷ []; main = BCase ftrue Box (Next 0 (BConstruct fnat 0) Done) })) (units 0)
unfolding infer ticking bind sort_of check retype conv check_all sorts_of branches_rule steps compare same run_all ends_in_sort tested and_then erased_constants
matches_erase = refl

-- addition: only the reached constant stands in the program
additions_erase : given (erased_program (env_of (Constant n_proof NatT (Some (Construct fnat 0)) ∷ Constant n_add NN (Some add_fix) ∷ Whole block_nat ∷ [])) all 20
    (App (App (Const n_add) (Construct fnat 0)) (Construct fnat 0)) (units 400)).outcome
    ≡ Gives (Program (record {
      constants = record {
        name = n_add;
        body = BFix 0 (0 ∷ []) (Next 1 (BLambda (BLambda (BCase fnat (Rel 1) (Next 0 (Rel 0) (Next 1 (BApp (BConstruct fnat 1) (BApp (BApp (Rel 3) (Rel 0)) (Rel 1))) Done))))) Done);
      } ∷ [];
      families = box_nat ∷ [];
      main = BApp (BApp (BConst n_add) (BConstruct fnat 0)) (BConstruct fnat 0);
    })) (units 0)
unfolding infer ticking bind sort_of check retype conv check_all sorts_of branches_rule types_rule definitions_rule steps compare same run_all find body_guard ends_in_sort tested and_then erased_constants
additions_erase = refl

-- a refusal stands where it is met: in the body of the reached constant, which is declaration 1
places : given (erased_program (env_of (Constant n_add NatT (Some (App (Construct fnat 0) (Construct fnat 0))) ∷ Whole block_nat ∷ [])) all 20 (Const n_add) (units 40)).outcome
    ≡ Breaks (AtDeclaration 1) (NotAProduct NatT) (units 0)
unfolding infer ticking bind sort_of check retype conv check_all steps same ends_in_sort tested and_then erased_constants
places = refl
