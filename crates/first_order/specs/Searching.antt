-- What the search answers, as what directed rules answer: a type that is no member, and too many types, are results of theirs. And the types
-- that are found, as a first-order set.
use Rattle.std.specs.Prelude.{ℕ, ◌≡◌, ◌==◌, ◌&&◌, Bool, false, if◌then◌else◌, List, map, length, All, Some, Result, Ok, Err, Vec}
use Rattle.std.specs.declared.alloc.Global.{Global}
use Rattle.pc_terms.specs.declared.leaf.Name.{Name}
use Rattle.pc_terms.specs.declared.leaf.FamilyId.{FamilyId}
use Rattle.pc_terms.specs.Syntax.{Term, Ind, head, args}
use Rattle.pc_rules.specs.declared.stop.Stop.{Stop as StopKind}
use Rattle.pc_rules.specs.declared.stop.Stop.TheVariants.{Spent, TooDeep, Memory}
use Rattle.pc_rules.specs.declared.stop.Halt.{Halt}
use Rattle.pc_rules.specs.declared.stop.Halt.TheVariants.{Stop}
use Rattle.calculus_rules.specs.declared.declaration.Constructor.{Constructor}
use Rattle.calculus_rules.specs.declared.declaration.Family.{Family}
use Rattle.pc_rules.specs.declared.meter.Account.{Account}
use Rattle.calculus_rules.specs.Environment.{Env, FamilyDecl, KeepsFamily, with_parameters}
use Rattle.calculus_rules.specs.Instances.{branch_entries}
use Rattle.calculus_rules.specs.FirstOrder.{Shape as Member}
use Rattle.calculus_rules.specs.PropSorts.{is_prop}
use Rattle.pc_rules.specs.DirectedRun.{Run, passing, any_beyond, bind}
use Rattle.pc_rules.specs.DirectedFirstOrder.{Searched, Found, NotFirstOrder, TooManyTypes, independent, member_of, or_not_first_order}
use Rattle.first_order.specs.declared.arguments.Arguments.{Arguments}
use Rattle.first_order.specs.declared.shapes.Shape.{Shape}
use Rattle.first_order.specs.declared.shapes.ShapeCtor.{ShapeCtor}
use Rattle.first_order.specs.declared.faults.ShapeRefusal.{ShapeRefusal}
use Rattle.first_order.specs.declared.faults.ShapeRefusal.TheVariants.{NotFirstOrder as Without, Types as ManyTypes, Spent as NoUnits, TooDeep as Deep, Memory as NoMemory}

abbrev pub refusal_of : StopKind → ShapeRefusal
refusal_of Spent = NoUnits
refusal_of TooDeep = Deep
refusal_of Memory = NoMemory

-- `view` is how the result is seen
abbrev pub searched : {A B : Type 0} → (A → B) → Result A ShapeRefusal → Result (Searched B) Halt
searched view (Ok a) = Ok (Found (view a))
searched view (Err (Without T)) = Ok (NotFirstOrder T)
searched view (Err ManyTypes) = Ok TooManyTypes
searched view (Err NoUnits) = Err (Stop Spent)
searched view (Err Deep) = Err (Stop TooDeep)
searched view (Err NoMemory) = Err (Stop Memory)

-- the family of a type's head (every type that is found has one)
abbrev pub family_in : Term → FamilyId
family_in (Ind f) = f
family_in t = record { block = record { 0 = 0 }; family = 0 }

abbrev pub places : ShapeCtor → List ℕ
places k = k.args

-- a type that is found, as a member of a first-order set
abbrev pub member : Shape → Member
member h = record { family = family_in (head h.ty); parameters = args h.ty; constructors = map places h.ctors }

abbrev pub members : List Shape → List Member
members hs = map member hs

abbrev pub ctor_name : ShapeCtor → Name
ctor_name k = k.name

-- the type is a family that the environment keeps, at its parameters, and the constructors have the names that are kept, in their order
pub record IsNamed (E : Env) (h : Shape) : Type 0 where
  pub family : FamilyId
  pub declared : FamilyDecl
  pub keeps : KeepsFamily E family declared
  pub head_is : head h.ty ≡ Ind family
  pub names : map ctor_name h.ctors ≡ map (λ C. C.name) declared.constructors

abbrev pub AreNamed : Env → List Shape → Type 0
AreNamed E hs = All (IsNamed E) hs

-- ---- what the parts of the search give, as the rules give it

abbrev pub as_is : {A : Type 0} → A → A
as_is a = a

-- a result, beside the list of types
abbrev pub found_at : {A : Type 0} → List Term → A → List Term × A
found_at Ts a = (Ts, a)

abbrev pub found_places : List Term → Vec ShapeCtor Global → List Term × List (List ℕ)
found_places Ts v = (Ts, map places v.items)

abbrev pub found_shape : List Term → Shape → List Term × Member
found_shape Ts h = (Ts, member h)

abbrev pub types_in : Arguments → List Term
types_in a = a.types

abbrev pub name_in : Arguments → Name
name_in a = a.name

abbrev pub constructor_name : Constructor → Name
constructor_name C = C.name

abbrev pub listed : Vec Arguments Global → List (List Term)
listed v = map types_in v.items

-- the argument types of one constructor of the type W at its parameters
abbrev pub one_constructor : Term → List Term → Constructor → Account → Run (Searched (List Term))
one_constructor W ps C u =
    bind (passing (any_beyond (branch_entries C ps)) u) (λ _ v. or_not_first_order W (independent 0 (branch_entries C ps)) v)

-- a family that isn't in Prop, has no indices, and takes n parameters
abbrev pub is_whole : FamilyDecl → ℕ → Bool
is_whole F n = if is_prop F.sort then false else ((length F.indices == 0) && (n == length F.parameters))

abbrev pub IsMemberFamily : Env → Term → ℕ → FamilyId → Family → Type 0
IsMemberFamily E h n f G = (ps : List Term) × (member_of E h n ≡ Some (f, with_parameters ps G))
