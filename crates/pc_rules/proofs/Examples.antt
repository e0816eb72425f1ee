-- The directed rules on small environments, by computation.
use Rattle.std.proofs.Common.{◌≡◌, ℕ, ◌==◌, ◌&&◌, nat_le, Bool, true, false, List, [], ◌∷◌, Some, None, refl}
use Rattle.universe_levels.specs.declared.sort.Sort.{Sort}
use Rattle.universe_levels.specs.declared.sort.Sort.TheVariants.{Prop, Of}
use Rattle.pc_terms.specs.declared.leaf.Name.{Name}
use Rattle.pc_terms.specs.declared.leaf.FamilyId.{FamilyId}
use Rattle.pc_terms.specs.Syntax.{Term, Done, Next, Rel, SortT, Prod, Lambda, App, Const, Ind, Construct, Case, Fix}
use Rattle.calculus_rules.specs.declared.declaration.Block.{Block}
use Rattle.calculus_rules.specs.declared.declaration.Kept.TheVariants.{Constant, Block as Whole}
use Rattle.pc_rules.specs.declared.meter.Account.{Account}
use Rattle.pc_rules.specs.declared.broken.Broken.{Broken}
use Rattle.pc_rules.specs.declared.broken.Place.{Place}
use Rattle.pc_rules.specs.declared.broken.Place.TheVariants.{Main, Declaration}
use Rattle.pc_rules.specs.declared.broken.Broken.TheVariants.{NotAProduct, NotBelow, CountWrong, NotTheFamily, SortTooSmall, NotGuarded, NotPositive, DuplicateName, NotASort, RecArgNotInductive}
use Rattle.pc_rules.specs.declared.broken.Clash.TheVariants.{Sorts as ClashOfSorts}
use Rattle.calculus_rules.specs.Environment.{Env}
use Rattle.pc_rules.specs.DirectedRun as run
use Rattle.pc_rules.specs.DirectedRun.{ticking, bind, run_all, most_nested}
use Rattle.pc_rules.specs.DirectedWeakHead.{whnf, steps}
use Rattle.pc_rules.specs.DirectedComparison.{compare, Test}
use Rattle.pc_rules.specs.DirectedTyping.{infer, sort_of, check, retype, conv, check_all, sorts_of, branches_rule, types_rule, definitions_rule}
use Rattle.pc_rules.specs.DirectedGuard.{find, body_guard}
use Rattle.pc_rules.specs.DirectedPlaces.{and_then}
use Rattle.pc_rules.specs.DirectedDeclarations.{Given, GivenConstant, GivenBlock, environment_rule, Outcome, Gives, Breaks, Spends, Nests, Accepts, declarations_rule, arguments_rule, constructors_rule, families_rule}
use Rattle.pc_rules.specs.DirectedEvaluation.{Value, Stuck, evaluate, evaluation}
use Rattle.pc_rules.specs.DirectedFirstOrder.{Found, NotFirstOrder, TooManyTypes, shape, put_arguments, put_constructors, argument_types, work_on, search_within}
use Rattle.calculus_rules.specs.Same.{same}

abbrev n_nat : Name
n_nat = record { 0 = 0 }

abbrev n_bool : Name
n_bool = record { 0 = 1 }

abbrev n_add : Name
n_add = record { 0 = 2 }

abbrev fnat : FamilyId
fnat = record { block = n_nat; family = 0 }

abbrev fbool : FamilyId
fbool = record { block = n_bool; family = 0 }

abbrev set : Sort
set = Of (record { level = record { 0 = 0 }; add = 0 } ∷ [])

abbrev NatT : Term
NatT = Ind fnat

abbrev BoolT : Term
BoolT = Ind fbool

abbrev block_nat : Block
block_nat = record {
  name = n_nat;
  params = [];
  families = record {
    name = n_nat;
    sort = set;
    indices = [];
    ctors = record { name = record { 0 = 10 }; args = []; arg_sorts = []; result = [] } ∷ record { name = record { 0 = 11 }; args = NatT ∷ []; arg_sorts = set ∷ []; result = [] } ∷ [];
  } ∷ [];
}

abbrev block_bool : Block
block_bool = record {
  name = n_bool;
  params = [];
  families = record {
    name = n_bool;
    sort = set;
    indices = [];
    ctors = record { name = record { 0 = 12 }; args = []; arg_sorts = []; result = [] } ∷ record { name = record { 0 = 13 }; args = []; arg_sorts = []; result = [] } ∷ [];
  } ∷ [];
}

abbrev O : Term
O = Construct fnat 0

abbrev S : Term → Term
S t = App (Construct fnat 1) t

abbrev tt' : Term
tt' = Construct fbool 0

abbrev ff' : Term
ff' = Construct fbool 1

abbrev NN : Term
NN = Prod NatT (Prod NatT NatT)

abbrev add_fix : Term
add_fix = Fix 0 (0 ∷ []) (Next 0 NN Done) (Next 1 (Lambda NatT (Lambda NatT (Case fnat Done 1 NatT (Rel 1) (Next 0 (Rel 0) (Next 1 (S (App (App (Rel 3) (Rel 0)) (Rel 1))) Done))))) Done)

abbrev units : ℕ → Account
units n = record { left = n; uses = 0 ∷ 0 ∷ 0 ∷ 0 ∷ 0 ∷ 0 ∷ 0 ∷ 0 ∷ 0 ∷ 0 ∷ 0 ∷ 0 ∷ [] }

abbrev all : Test
all u w = true

abbrev E2 : Env
E2 = record { levels = 0; constraints = []; declarations = Constant n_add NN (Some add_fix) ∷ Whole block_nat ∷ [] }

abbrev EB : Env
EB = record { levels = 0; constraints = []; declarations = Whole block_bool ∷ [] }

-- two and three are added in five steps to a successor
adds : (whnf E2 [] (App (App (Const n_add) (S (S O))) (S (S (S O)))) (units 5)).end
    ≡ run.Done (S (App (App add_fix (S O)) (S (S (S O))))) (units 0)
unfolding steps
adds = refl

adds_short : (whnf E2 [] (App (App (Const n_add) (S (S O))) (S (S (S O)))) (units 4)).end ≡ run.NoUnit
unfolding steps
adds_short = refl

-- a match on bool, in six units
matches : (infer EB all 20 [] (Case fbool Done 1 BoolT ff' (Next 0 tt' (Next 0 ff' Done))) (units 6)).end
    ≡ run.Done BoolT (record { left = 0; uses = 0 ∷ 0 ∷ 0 ∷ 0 ∷ 0 ∷ 0 ∷ 0 ∷ 2 ∷ 3 ∷ 1 ∷ 0 ∷ 0 ∷ [] })
unfolding infer ticking bind sort_of check retype conv check_all sorts_of branches_rule steps compare same run_all
matches = refl

-- a branch is left out
one_branch : (infer EB all 20 [] (Case fbool Done 1 BoolT ff' (Next 0 tt' Done)) (units 6)).end
    ≡ run.Refused (CountWrong 2 1) (record { left = 5; uses = 0 ∷ 0 ∷ 0 ∷ 0 ∷ 0 ∷ 0 ∷ 0 ∷ 0 ∷ 0 ∷ 1 ∷ 0 ∷ 0 ∷ [] })
unfolding infer ticking bind sort_of check retype conv check_all sorts_of branches_rule steps compare same run_all
one_branch = refl

-- two units for a comparison
set_below : (compare EB all 20 [] false (App (Lambda (SortT (Of (record { level = record { 0 = 0 }; add = 1 } ∷ []))) (Rel 0)) (SortT set)) (SortT set) (units 2)).end
    ≡ run.Done tt (units 0)
unfolding infer ticking bind steps compare same run_all
set_below = refl

set_prop : (compare EB all 20 [] false (SortT set) (SortT Prop) (units 1)).end ≡ run.Refused (NotBelow (ClashOfSorts set Prop)) (units 0)
unfolding infer ticking bind steps compare same run_all
set_prop = refl

-- what an environment's check ends with, without its uses
data Verdict : Type 0 where
  Fine : Term → ℕ → Verdict
  Bad : Place → Broken → Verdict
  Short : Verdict

verdict : Outcome (Env × Term) → Verdict
verdict (Gives p u) = Fine p.1 u.left
verdict (Breaks p b u) = Bad p b
verdict Spends = Short
verdict Nests = Short

-- entailment between the universes of these examples
abbrev below_test : Test
below_test (a ∷ []) (b ∷ []) = (a.level.0 == b.level.0) && nat_le a.add b.add
below_test u w = false

abbrev checked : List Given → Term → ℕ → Verdict
checked ds main n = verdict (environment_rule [] [] None below_test most_nested ds main (units n)).outcome

constant_false : (environment_rule [] [] None below_test most_nested (GivenBlock block_bool ∷ GivenConstant n_add BoolT (Some ff') ∷ []) (Const n_add) (units 3)).outcome
    ≡ Accepts (record { levels = 0; constraints = []; declarations = Constant n_add BoolT (Some ff') ∷ Whole block_bool ∷ [] }) BoolT
    (record { left = 0; uses = 0 ∷ 0 ∷ 0 ∷ 0 ∷ 0 ∷ 0 ∷ 1 ∷ 1 ∷ 1 ∷ 0 ∷ 0 ∷ 0 ∷ [] })
unfolding verdict infer ticking bind sort_of check retype conv check_all sorts_of branches_rule steps compare same run_all declarations_rule and_then arguments_rule constructors_rule families_rule types_rule definitions_rule find body_guard
constant_false = refl

constant_short : checked (GivenBlock block_bool ∷ GivenConstant n_add BoolT (Some ff') ∷ []) (Const n_add) 2 ≡ Short
unfolding verdict infer ticking bind sort_of check retype conv check_all sorts_of branches_rule steps compare same run_all declarations_rule and_then arguments_rule constructors_rule families_rule types_rule definitions_rule find body_guard
constant_short = refl

lambda_over_false : checked (GivenBlock block_bool ∷ []) (Lambda ff' (Rel 0)) 50 ≡ Bad Main (NotASort BoolT)
unfolding verdict infer ticking bind sort_of check retype conv check_all sorts_of branches_rule steps compare same run_all declarations_rule and_then arguments_rule constructors_rule families_rule types_rule definitions_rule find body_guard
lambda_over_false = refl

false_applied : checked (GivenBlock block_bool ∷ []) (App ff' ff') 50 ≡ Bad Main (NotAProduct BoolT)
unfolding verdict infer ticking bind sort_of check retype conv check_all sorts_of branches_rule steps compare same run_all declarations_rule and_then arguments_rule constructors_rule families_rule types_rule definitions_rule find body_guard
false_applied = refl

bool_twice : checked (GivenBlock block_bool ∷ GivenBlock block_bool ∷ []) ff' 50 ≡ Bad (Declaration 1) (DuplicateName 1)
unfolding verdict infer ticking bind sort_of check retype conv check_all sorts_of branches_rule steps compare same run_all declarations_rule and_then arguments_rule constructors_rule families_rule types_rule definitions_rule find body_guard
bool_twice = refl

match_of_nat : checked (GivenBlock block_nat ∷ GivenBlock block_bool ∷ []) (Case fbool Done 1 BoolT O (Next 0 tt' (Next 0 ff' Done))) 50 ≡ Bad Main (NotTheFamily NatT)
unfolding verdict infer ticking bind sort_of check retype conv check_all sorts_of branches_rule steps compare same run_all declarations_rule and_then arguments_rule constructors_rule families_rule types_rule definitions_rule find body_guard
match_of_nat = refl

-- a constructor that holds a set
abbrev block_box : Block
block_box = record {
  name = n_add;
  params = [];
  families = record {
    name = n_add;
    sort = set;
    indices = [];
    ctors = record { name = record { 0 = 14 }; args = SortT set ∷ []; arg_sorts = []; result = [] } ∷ [];
  } ∷ [];
}

too_small : checked (GivenBlock block_box ∷ []) ff' 50 ≡ Bad (Declaration 0) (SortTooSmall (Of (record { level = record { 0 = 0 }; add = 1 } ∷ [])) set)
unfolding verdict infer ticking bind sort_of check retype conv check_all sorts_of branches_rule steps compare same run_all declarations_rule and_then arguments_rule constructors_rule families_rule types_rule definitions_rule find body_guard
too_small = refl

-- a constructor of functions from the family
abbrev fadd : FamilyId
fadd = record { block = n_add; family = 0 }

abbrev block_negative : Block
block_negative = record {
  name = n_add;
  params = [];
  families = record {
    name = n_add;
    sort = set;
    indices = [];
    ctors = record { name = record { 0 = 14 }; args = Prod (Ind fadd) (Ind fadd) ∷ []; arg_sorts = []; result = [] } ∷ [];
  } ∷ [];
}

not_positive : checked (GivenBlock block_negative ∷ []) ff' 50 ≡ Bad (Declaration 0) (NotPositive 0 0)
unfolding verdict infer ticking bind sort_of check retype conv check_all sorts_of branches_rule steps compare same run_all declarations_rule and_then arguments_rule constructors_rule families_rule types_rule definitions_rule find body_guard
not_positive = refl

-- a fixpoint over sets
over_sets : checked (GivenBlock block_nat ∷ []) (Fix 0 (0 ∷ []) (Next 0 (Prod (SortT set) NatT) Done) (Next 1 (Lambda (SortT set) O) Done)) 50
    ≡ Bad Main (RecArgNotInductive (SortT set))
unfolding verdict infer ticking bind sort_of check retype conv check_all sorts_of branches_rule steps compare same run_all declarations_rule and_then arguments_rule constructors_rule families_rule types_rule definitions_rule find body_guard
over_sets = refl

-- a fixpoint that calls itself on its own argument
loops : checked (GivenBlock block_nat ∷ []) (Fix 0 (0 ∷ []) (Next 0 (Prod NatT NatT) Done) (Next 1 (Lambda NatT (App (Rel 1) (Rel 0))) Done)) 50
    ≡ Bad Main (NotGuarded (Rel 0))
unfolding verdict infer ticking bind sort_of check retype conv check_all sorts_of branches_rule steps compare same run_all declarations_rule and_then arguments_rule constructors_rule families_rule types_rule definitions_rule find body_guard
loops = refl

-- addition is accepted
abbrev is_fine : Verdict → Bool
is_fine (Fine T n) = true
is_fine v = false

adding : is_fine (checked (GivenBlock block_nat ∷ GivenConstant n_add NN (Some add_fix) ∷ []) (App (App (Const n_add) (S (S O))) (S (S (S O)))) 200) ≡ true
unfolding verdict infer ticking bind sort_of check retype conv check_all sorts_of branches_rule steps compare same run_all declarations_rule and_then arguments_rule constructors_rule families_rule types_rule definitions_rule find body_guard
adding = refl

-- a function is applied to a value, in four nodes
abbrev id_false : Term
id_false = App (Lambda BoolT (Rel 0)) ff'

applies : (evaluation EB id_false (units 4)).end ≡ run.Done (Value ff') (units 0)
unfolding evaluate ticking bind
applies = refl

applies_short : (evaluation EB id_false (units 3)).end ≡ run.NoUnit
unfolding evaluate ticking bind
applies_short = refl

-- a constant without a body: no unit is left before it is looked at
abbrev EA : Env
EA = record { levels = 0; constraints = []; declarations = Constant n_add BoolT None ∷ [] }

no_body : (evaluation EA (Const n_add) (units 1)).end ≡ run.Done (Stuck (Const n_add)) (units 0)
unfolding evaluate ticking bind
no_body = refl

no_body_short : (evaluation EA (Const n_add) (units 0)).end ≡ run.NoUnit
unfolding evaluate ticking bind
no_body_short = refl

-- first-order searches: lists, and a family whose types grow
abbrev flist : FamilyId
flist = record { block = n_bool; family = 0 }

abbrev fnest : FamilyId
fnest = record { block = n_add; family = 0 }

abbrev ListOf : Term → Term
ListOf A = App (Ind flist) A

abbrev NestOf : Term → Term
NestOf A = App (Ind fnest) A

abbrev block_list : Block
block_list = record {
  name = n_bool;
  params = SortT set ∷ [];
  families = record {
    name = n_bool;
    sort = set;
    indices = [];
    ctors = record { name = record { 0 = 12 }; args = []; arg_sorts = []; result = [] }
        ∷ record { name = record { 0 = 13 }; args = Rel 0 ∷ ListOf (Rel 1) ∷ []; arg_sorts = set ∷ set ∷ []; result = [] } ∷ [];
  } ∷ [];
}

abbrev block_nest : Block
block_nest = record {
  name = n_add;
  params = SortT set ∷ [];
  families = record {
    name = n_add;
    sort = set;
    indices = [];
    ctors = record { name = record { 0 = 14 }; args = []; arg_sorts = []; result = [] }
        ∷ record { name = record { 0 = 15 }; args = NestOf (ListOf (Rel 0)) ∷ []; arg_sorts = set ∷ []; result = [] } ∷ [];
  } ∷ [];
}

abbrev EL : Env
EL = record { levels = 0; constraints = []; declarations = Whole block_nest ∷ Whole block_list ∷ Whole block_nat ∷ [] }

finds_nat : (search_within EL 3 NatT (units 1)).end ≡ run.Done (Found (shape fnat [] ([] ∷ (0 ∷ []) ∷ []) ∷ [])) (units 0)
unfolding ticking bind steps same put_arguments put_constructors argument_types work_on
finds_nat = refl

finds_lists : (search_within EL 3 (ListOf NatT) (units 2)).end
    ≡ run.Done (Found (shape flist (NatT ∷ []) ([] ∷ (1 ∷ 0 ∷ []) ∷ []) ∷ shape fnat [] ([] ∷ (1 ∷ []) ∷ []) ∷ [])) (units 0)
unfolding ticking bind steps same put_arguments put_constructors argument_types work_on
finds_lists = refl

functions_are_refused : (search_within EL 3 NN (units 1)).end ≡ run.Done (NotFirstOrder NN) (units 0)
unfolding ticking bind steps same put_arguments put_constructors argument_types work_on
functions_are_refused = refl

-- within three types the fourth is too many, before its unit
nests_grow : (search_within EL 3 (NestOf NatT) (units 3)).end ≡ run.Done TooManyTypes (units 0)
unfolding ticking bind steps same put_arguments put_constructors argument_types work_on
nests_grow = refl

nests_short : (search_within EL 3 (NestOf NatT) (units 2)).end ≡ run.NoUnit
unfolding ticking bind steps same put_arguments put_constructors argument_types work_on
nests_short = refl
