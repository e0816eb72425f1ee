-- The certified walk on small environments, by computation.
use Rattle.std.proofs.Common.{◌≡◌, ℕ, true, List, [], ◌∷◌, Some, None, refl}
use Rattle.universe_levels.specs.declared.sort.Sort.{Sort}
use Rattle.universe_levels.specs.declared.sort.Sort.TheVariants.{Of}
use Rattle.pc_terms.specs.declared.leaf.Name.{Name}
use Rattle.pc_terms.specs.declared.leaf.FamilyId.{FamilyId}
use Rattle.pc_terms.specs.Syntax.{Term, Const, Ind, Construct}
use Rattle.calculus_rules.specs.declared.declaration.Block.{Block}
use Rattle.calculus_rules.specs.declared.declaration.Kept.TheVariants.{Constant, Block as Whole}
use Rattle.pc_rules.specs.declared.meter.Account.{Account}
use Rattle.calculus_rules.specs.Environment.{Env}
use Rattle.calculus_rules.specs.Same.{same}
use Rattle.pc_rules.specs.DirectedRun.{bind}
use Rattle.pc_rules.specs.DirectedComparison.{Test}
use Rattle.pc_rules.specs.DirectedDeclarations.{Given, GivenConstant, GivenBlock}
use Rattle.cert_rules.specs.declared.item.CertItem.TheVariants.{Number, Same}
use Rattle.cert_rules.specs.Walk.{Items, WalkEnd, Passed, Barred, Unpaid, walk_on, walk_ticking, by_rules}
use Rattle.cert_rules.specs.WalkSteps.{walk_steps, reduced}
use Rattle.cert_rules.specs.WalkTyping.{walk_infer, walk_sort_of, walk_fits, walk_check, walk_check_all, walk_sorts_of}
use Rattle.cert_rules.specs.WalkDeclarations.{walk_arguments, walk_constructors, walk_families, walk_declarations, walk_environment, start}

abbrev pub n_bool : Name
n_bool = record { 0 = 0 }

abbrev pub n_c : Name
n_c = record { 0 = 1 }

abbrev pub fbool : FamilyId
fbool = record { block = n_bool; family = 0 }

abbrev pub set : Sort
set = Of (record { level = record { 0 = 0 }; add = 0 } ∷ [])

abbrev pub BoolT : Term
BoolT = Ind fbool

abbrev pub block_bool : Block
block_bool = record {
  name = n_bool;
  params = [];
  families = record {
    name = n_bool;
    sort = set;
    indices = [];
    ctors = record { name = record { 0 = 12 }; args = []; arg_sorts = []; result = [] } ∷ record { name = record { 0 = 13 }; args = []; arg_sorts = []; result = [] } ∷ [];
  } ∷ [];
}

abbrev pub units : ℕ → Account
units n = record { left = n; uses = 0 ∷ 0 ∷ 0 ∷ 0 ∷ 0 ∷ 0 ∷ 0 ∷ 0 ∷ 0 ∷ 0 ∷ 0 ∷ 0 ∷ [] }

abbrev pub all : Test
all u w = true

abbrev pub constant_false : List Given
constant_false = GivenBlock block_bool ∷ GivenConstant n_c BoolT (Some (Construct fbool 1)) ∷ []

-- the block of bool, and main false: no item; one unit
abbrev only_false : Items → ℕ → WalkEnd (Env × Term)
only_false cert n = (walk_environment cert [] [] None all 20 (GivenBlock block_bool ∷ []) (Construct fbool 1) (start (units n))).end

-- besides, a constant of type bool that is false, and main that constant: three units
abbrev walked : Items → ℕ → WalkEnd (Env × Term)
walked cert n = (walk_environment cert [] [] None all 20 constant_false (Const n_c) (start (units n))).end

abbrev pub kept : Env
kept = record { levels = 0; constraints = []; declarations = Constant n_c BoolT (Some (Construct fbool 1)) ∷ Whole block_bool ∷ [] }

no_items : only_false [] 1 ≡ Passed (record { levels = 0; constraints = []; declarations = Whole block_bool ∷ [] }, BoolT) (record { account = units 0; at = 0 })
unfolding bind walk_infer walk_ticking walk_on by_rules walk_sorts_of walk_arguments walk_constructors walk_families walk_declarations walk_check_all
no_items = refl

two_items : walked (Number 0 ∷ Same ∷ []) 3 ≡ Passed (kept, BoolT) (record { account = units 0; at = 2 })
unfolding bind walk_infer walk_ticking walk_on by_rules walk_sorts_of walk_arguments walk_constructors walk_families walk_declarations walk_check_all walk_sort_of walk_check walk_fits reduced walk_steps same
two_items = refl

two_units : walked (Number 0 ∷ Same ∷ []) 2 ≡ Unpaid
unfolding bind walk_infer walk_ticking walk_on by_rules walk_sorts_of walk_arguments walk_constructors walk_families walk_declarations walk_check_all walk_sort_of walk_check walk_fits reduced walk_steps same
two_units = refl

-- an item that is missing is refused at its number
one_item : walked (Number 0 ∷ []) 3 ≡ Barred 1 (units 1)
unfolding bind walk_infer walk_ticking walk_on by_rules walk_sorts_of walk_arguments walk_constructors walk_families walk_declarations walk_check_all walk_sort_of walk_check walk_fits reduced walk_steps same
one_item = refl

-- an item that is left is refused
three_items : walked (Number 0 ∷ Same ∷ Same ∷ []) 3 ≡ Barred 2 (units 0)
unfolding bind walk_infer walk_ticking walk_on by_rules walk_sorts_of walk_arguments walk_constructors walk_families walk_declarations walk_check_all walk_sort_of walk_check walk_fits reduced walk_steps same
three_items = refl

-- a number that asks for more steps than there are is refused, after the unit of the step
one_step : walked (Number 1 ∷ Same ∷ []) 3 ≡ Barred 0 (units 1)
unfolding bind walk_infer walk_ticking walk_on by_rules walk_sorts_of walk_arguments walk_constructors walk_families walk_declarations walk_check_all walk_sort_of walk_check walk_fits reduced walk_steps same
one_step = refl

-- met with no unit left it isn't paid for
one_step_unpaid : walked (Number 1 ∷ Same ∷ []) 1 ≡ Unpaid
unfolding bind walk_infer walk_ticking walk_on by_rules walk_sorts_of walk_arguments walk_constructors walk_families walk_declarations walk_check_all walk_sort_of walk_check walk_fits reduced walk_steps same
one_step_unpaid = refl
