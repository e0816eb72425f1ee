-- What directed inference writes of small environments, by computation; and that the certified walk accepts it.
use Rattle.std.proofs.Common.{◌≡◌, ℕ, List, [], ◌∷◌, Option, Some, None, refl}
use Rattle.universe_levels.specs.declared.sort.Sort.{Sort}
use Rattle.universe_levels.specs.declared.sort.Sort.TheVariants.{Of}
use Rattle.pc_terms.specs.declared.leaf.Name.{Name}
use Rattle.pc_terms.specs.declared.leaf.FamilyId.{FamilyId}
use Rattle.pc_terms.specs.Syntax.{Term, Done, Next, Rel, SortT, Const, Case, Prod, Lambda, App, Ind, Construct, Fix}
use Rattle.calculus_rules.specs.declared.declaration.Block.{Block}
use Rattle.calculus_rules.specs.declared.declaration.Kept.TheVariants.{Block as Whole}
use Rattle.pc_rules.specs.declared.meter.Account.{Account}
use Rattle.calculus_rules.specs.Environment.{Env}
use Rattle.calculus_rules.specs.Same.{same}
use Rattle.pc_rules.specs.DirectedRun.{bind, ticking, run_all}
use Rattle.pc_rules.specs.DirectedWeakHead.{steps}
use Rattle.pc_rules.specs.DirectedTyping.{conv}
use Rattle.pc_rules.specs.DirectedGuard.{find, body_guard}
use Rattle.pc_rules.specs.DirectedPositivity.{nestable}
use Rattle.pc_rules.specs.DirectedPlaces.{Outcome, Gives}
use Rattle.pc_rules.specs.DirectedDeclarations.{Given, GivenConstant, GivenBlock}
use Rattle.cert_rules.specs.declared.item.CertItem.TheVariants.{Number, Same, Conv, Right}
use Rattle.cert_rules.specs.Walk.{Items, WalkEnd, Passed, walk_on, walk_ticking, walk_all, by_rules}
use Rattle.cert_rules.specs.WalkSteps.{walk_steps, reduced}
use Rattle.cert_rules.specs.Scripts.{script}
use Rattle.cert_rules.specs.WalkTyping.{walk_infer, walk_sort_of, walk_retype, walk_fits, walk_check, walk_check_all, walk_sorts_of, walk_branches, walk_types, walk_definitions}
use Rattle.cert_rules.specs.WalkDeclarations.{walk_arguments, walk_constructors, walk_families, walk_declarations, walk_environment, start}
use Rattle.cert_rules.specs.Writing.{Wrote, wrote, writing_steps, write_on, write_all}
use Rattle.cert_rules.specs.MakingTyping.{make_compare, make_infer, make_sort_of, make_check, make_retype, make_check_all, make_sorts_of, make_branches, make_types, make_definitions}
use Rattle.cert_rules.specs.MakingDeclarations.{make_arguments, make_constructors, make_families, make_declarations, make_environment, write_placed}
use Rattle.cert_rules.proofs.Examples.{BoolT, block_bool, n_c, fbool, units, all, constant_false, kept}

used : ℕ → List ℕ → Account
used n uses = record { left = n; uses = uses }

-- nothing to choose: main is a constructor
nothing_made : (make_environment [] [] None all 20 (GivenBlock block_bool ∷ []) (Construct fbool 1) (units 5)).outcome
    ≡ Gives (wrote [] (record { levels = 0; constraints = []; declarations = Whole block_bool ∷ [] }, BoolT)) (record { left = 4; uses = 0 ∷ 0 ∷ 0 ∷ 0 ∷ 0 ∷ 0 ∷ 0 ∷ 0 ∷ 1 ∷ 0 ∷ 0 ∷ 0 ∷ [] })
unfolding bind ticking write_placed write_on writing_steps steps make_infer make_sorts_of make_arguments make_constructors make_families make_declarations make_check_all
nothing_made = refl

-- a constant's type is in a sort, and its body has that type
two_made : (make_environment [] [] None all 20 constant_false (Const n_c) (units 3)).outcome
    ≡ Gives (wrote (Number 0 ∷ Same ∷ []) (kept, BoolT)) (record { left = 0; uses = 0 ∷ 0 ∷ 0 ∷ 0 ∷ 0 ∷ 0 ∷ 1 ∷ 1 ∷ 1 ∷ 0 ∷ 0 ∷ 0 ∷ [] })
unfolding bind ticking write_placed write_on writing_steps steps make_infer make_sorts_of make_arguments make_constructors make_families make_declarations make_check_all make_sort_of make_check same
two_made = refl

-- addition by a fixpoint

abbrev fnat : FamilyId
fnat = record { block = record { 0 = 5 }; family = 0 }

abbrev set : Sort
set = Of (record { level = record { 0 = 0 }; add = 0 } ∷ [])

abbrev NatT : Term
NatT = Ind fnat

abbrev block_nat : Block
block_nat = record {
  name = record { 0 = 5 };
  params = [];
  families = record {
    name = record { 0 = 5 };
    sort = set;
    indices = [];
    ctors = record { name = record { 0 = 10 }; args = []; arg_sorts = []; result = [] } ∷ record { name = record { 0 = 11 }; args = NatT ∷ []; arg_sorts = set ∷ []; result = [] } ∷ [];
  } ∷ [];
}

abbrev zero_term : Term
zero_term = Construct fnat 0

abbrev next_of : Term → Term
next_of t = App (Construct fnat 1) t

abbrev NN : Term
NN = Prod NatT (Prod NatT NatT)

abbrev n_add : Name
n_add = record { 0 = 2 }

abbrev add_fix : Term
add_fix = Fix 0 (0 ∷ []) (Next 0 NN Done) (Next 1 (Lambda NatT (Lambda NatT (Case fnat Done 1 NatT (Rel 1) (Next 0 (Rel 0) (Next 1 (next_of (App (App (Rel 3) (Rel 0)) (Rel 1))) Done))))) Done)

abbrev addition : List Given
addition = GivenBlock block_nat ∷ GivenConstant n_add NN (Some add_fix) ∷ []

abbrev sum : Term
sum = App (App (Const n_add) (next_of (next_of zero_term))) (next_of (next_of (next_of zero_term)))

abbrev items_of : Outcome (Wrote (Env × Term)) → Items
items_of (Gives w u) = w.items
items_of _ = []

abbrev made_of : List Given → Term → Outcome (Wrote (Env × Term))
made_of ds main = (make_environment [] [] None all 60 ds main (units 300)).outcome

abbrev units_of : Outcome (Wrote (Env × Term)) → ℕ
units_of (Gives w u) = u.left
units_of _ = 0

-- how many units the walk leaves of n, with the items that are made
abbrev left_of : WalkEnd (Env × Term) → Option ℕ
left_of (Passed r s) = Some s.account.left
left_of _ = None

abbrev walk_left : List Given → Term → ℕ → Option ℕ
walk_left ds main n = left_of (walk_environment (items_of (made_of ds main)) [] [] None all 60 ds main (start (units n))).end

-- two and three: 45 units of 300 in making, and as many in walking, since no two types are compared; with one less the walk isn't paid for
sum_made : units_of (made_of addition sum) ≡ 255
unfolding bind ticking run_all write_placed write_on write_all writing_steps steps conv find body_guard make_infer make_sorts_of make_arguments make_constructors make_families make_declarations make_check_all make_sort_of make_check make_retype make_branches make_types make_definitions make_compare same
sum_made = refl

sum_walked : walk_left addition sum 45 ≡ Some 0
unfolding bind ticking run_all write_placed write_on write_all writing_steps steps conv find body_guard make_infer make_sorts_of make_arguments make_constructors make_families make_declarations make_check_all make_sort_of make_check make_retype make_branches make_types make_definitions make_compare same walk_infer walk_ticking walk_on walk_all by_rules walk_sorts_of walk_arguments walk_constructors walk_families walk_declarations walk_check_all walk_sort_of walk_retype walk_check walk_fits walk_branches walk_types walk_definitions reduced walk_steps script
sum_walked = refl

sum_unpaid : walk_left addition sum 44 ≡ None
unfolding bind ticking run_all write_placed write_on write_all writing_steps steps conv find body_guard make_infer make_sorts_of make_arguments make_constructors make_families make_declarations make_check_all make_sort_of make_check make_retype make_branches make_types make_definitions make_compare same walk_infer walk_ticking walk_on walk_all by_rules walk_sorts_of walk_arguments walk_constructors walk_families walk_declarations walk_check_all walk_sort_of walk_retype walk_check walk_fits walk_branches walk_types walk_definitions reduced walk_steps script
sum_unpaid = refl

-- another name of a type: a comparison, with a step of its right side
abbrev alias : List Given
alias = GivenBlock block_nat ∷ GivenConstant n_add (SortT set) (Some NatT) ∷ GivenConstant n_c (Const n_add) (Some zero_term) ∷ []

alias_made : items_of (made_of alias (Const n_c)) ≡ Number 0 ∷ Number 0 ∷ Same ∷ Number 0 ∷ Conv ∷ Number 0 ∷ Right 1 ∷ Same ∷ []
unfolding bind ticking run_all write_placed write_on write_all writing_steps steps conv find body_guard make_infer make_sorts_of make_arguments make_constructors make_families make_declarations make_check_all make_sort_of make_check make_retype make_branches make_types make_definitions make_compare same
alias_made = refl

-- ten units in making, eight in walking: a conversion and a comparison take none there
alias_taken : units_of (made_of alias (Const n_c)) ≡ 290
unfolding bind ticking run_all write_placed write_on write_all writing_steps steps conv find body_guard make_infer make_sorts_of make_arguments make_constructors make_families make_declarations make_check_all make_sort_of make_check make_retype make_branches make_types make_definitions make_compare same
alias_taken = refl

alias_walked : walk_left alias (Const n_c) 8 ≡ Some 0
unfolding bind ticking run_all write_placed write_on write_all writing_steps steps conv find body_guard make_infer make_sorts_of make_arguments make_constructors make_families make_declarations make_check_all make_sort_of make_check make_retype make_branches make_types make_definitions make_compare same walk_infer walk_ticking walk_on walk_all by_rules walk_sorts_of walk_arguments walk_constructors walk_families walk_declarations walk_check_all walk_sort_of walk_retype walk_check walk_fits walk_branches walk_types walk_definitions reduced walk_steps script
alias_walked = refl

-- lists, and trees with a list of branches: the walk tests the trees' positivity after their last constructor, where making tested it at the
-- argument, and takes the unit for the place of the trees under the lists then

abbrev flist : FamilyId
flist = record { block = record { 0 = 6 }; family = 0 }

abbrev frose : FamilyId
frose = record { block = record { 0 = 7 }; family = 0 }

abbrev block_list : Block
block_list = record {
  name = record { 0 = 6 };
  params = SortT set ∷ [];
  families = record {
    name = record { 0 = 6 };
    sort = set;
    indices = [];
    ctors = record { name = record { 0 = 14 }; args = []; arg_sorts = []; result = [] } ∷ record { name = record { 0 = 15 }; args = Rel 0 ∷ App (Ind flist) (Rel 1) ∷ []; arg_sorts = []; result = [] } ∷ [];
  } ∷ [];
}

abbrev block_rose : Block
block_rose = record {
  name = record { 0 = 7 };
  params = [];
  families = record {
    name = record { 0 = 7 };
    sort = set;
    indices = [];
    ctors = record { name = record { 0 = 16 }; args = App (Ind flist) (Ind frose) ∷ []; arg_sorts = []; result = [] } ∷ [];
  } ∷ [];
}

abbrev trees : List Given
trees = GivenBlock block_list ∷ GivenBlock block_rose ∷ []

trees_made : items_of (made_of trees (Construct frose 0)) ≡ Number 0 ∷ Number 0 ∷ Number 0 ∷ Same ∷ Number 0 ∷ Number 0 ∷ Same ∷ Number 0 ∷ []
unfolding bind ticking run_all write_placed write_on write_all writing_steps steps conv find nestable make_infer make_sorts_of make_arguments make_constructors make_families make_declarations make_check_all make_sort_of make_check make_retype make_compare same
trees_made = refl

-- ten units, one of them for positivity, in making as in walking
trees_taken : units_of (made_of trees (Construct frose 0)) ≡ 290
unfolding bind ticking run_all write_placed write_on write_all writing_steps steps conv find nestable make_infer make_sorts_of make_arguments make_constructors make_families make_declarations make_check_all make_sort_of make_check make_retype make_compare same
trees_taken = refl

trees_walked : walk_left trees (Construct frose 0) 10 ≡ Some 0
unfolding bind ticking run_all write_placed write_on write_all writing_steps steps conv find nestable make_infer make_sorts_of make_arguments make_constructors make_families make_declarations make_check_all make_sort_of make_check make_retype make_compare same walk_infer walk_ticking walk_on walk_all by_rules walk_sorts_of walk_arguments walk_constructors walk_families walk_declarations walk_check_all walk_sort_of walk_retype walk_check walk_fits reduced walk_steps script
trees_walked = refl

trees_unpaid : walk_left trees (Construct frose 0) 9 ≡ None
unfolding bind ticking run_all write_placed write_on write_all writing_steps steps conv find nestable make_infer make_sorts_of make_arguments make_constructors make_families make_declarations make_check_all make_sort_of make_check make_retype make_compare same walk_infer walk_ticking walk_on walk_all by_rules walk_sorts_of walk_arguments walk_constructors walk_families walk_declarations walk_check_all walk_sort_of walk_retype walk_check walk_fits reduced walk_steps script
trees_unpaid = refl
