-- A value at the first of a list of types, read as data: node by node in preorder, by a list of the values that are to be read, each with the
-- place of its type.
use Rattle.std.specs.Prelude.{ℕ, zero, suc, ◌+◌, ◌==◌, ◌≡◌, Bool, false, if◌then◌else◌, List, [], ◌∷◌, ◌++◌, length, drop, map, reverse, Option, Some, None, slice_get, Result, Ok, Err}
use Rattle.pc_terms.specs.declared.leaf.FamilyId.{FamilyId}
use Rattle.pc_terms.specs.Syntax.{Term, Ind, Construct, head, args}
use Rattle.calculus_rules.specs.FirstOrder.{Shape as Member, shape_type}
use Rattle.calculus_rules.specs.Same.{same_families}
use Rattle.calculus_rules.specs.Lookups.{if_some}
use Rattle.first_order.specs.declared.shapes.Shape.{Shape}
use Rattle.first_order.specs.declared.shapes.ShapeCtor.{ShapeCtor}
use Rattle.first_order.specs.declared.reading.Field.{Field}
use Rattle.first_order.specs.declared.faults.TextFault.{TextFault}
use Rattle.first_order.specs.declared.faults.TextFault.TheVariants.{NotOfShape, AnswerNodes, Memory}

abbrev pub field : ℕ → Term → Field
field j x = record { place = j; value = x }

-- the arguments of a constructor, each with the place of its type
abbrev pub fields : List ℕ → List Term → List Field
fields [] xs = []
fields (j ∷ js) [] = []
fields (j ∷ js) (x ∷ xs) = field j x ∷ fields js xs

abbrev pub is_family : FamilyId → Term → Bool
is_family f (Ind g) = same_families g f
is_family f t = false

-- a constructor's number, and its arguments with the places of their types
abbrev pub Taken : Type 0
Taken = ℕ × List Field

abbrev pub arguments_of : ℕ → ℕ → List Term → ShapeCtor → Option Taken
arguments_of c n xs k = if length xs == n + length k.args then Some (c, fields k.args (drop n xs)) else None

abbrev pub node_in : Shape → Term → List Term → Option Taken
node_in h (Construct f c) xs =
    if is_family f (head h.ty) then if_some (slice_get h.ctors c) (λ k. arguments_of c (length (args h.ty)) xs k) else None
node_in h t xs = None

-- the node that a value is at its type
abbrev pub node_of : List Shape → Field → Option Taken
node_of S x = if_some (slice_get S x.place) (λ h. node_in h (head x.value) (args x.value))

-- data; the number of the first node that is none; or more nodes than are looked at
pub data Reading : Type 0 where
  Read : List (ℕ × ℕ) → Reading
  NotAt : ℕ → Reading
  TooMany : Reading

abbrev pub put_first : ℕ × ℕ → Reading → Reading
put_first p (Read ds) = Read (p ∷ ds)
put_first p (NotAt k) = NotAt k
put_first p TooMany = TooMany

abbrev pub on_node : Option Taken → ℕ → (Taken → Reading) → Reading
on_node None k go = NotAt k
on_node (Some b) k go = put_first (b.0, length b.1) (go b)

-- n nodes may yet be looked at, k have been
unfoldable pub read_on : List Shape → ℕ → List Field → ℕ → Reading
read_on S zero [] k = Read []
read_on S zero (x ∷ xs) k = TooMany
read_on S (suc n) [] k = Read []
read_on S (suc n) (x ∷ xs) k = on_node (node_of S x) k (λ b. read_on S n (b.1 ++ xs) (suc k))

abbrev pub read : List Shape → Term → Reading
read S v = read_on S 4000000 (field 0 v ∷ []) 0

-- the types of a first-order set, as they are read: the names of their constructors are left out

abbrev pub plain_ctor : List ℕ → ShapeCtor
plain_ctor js = record { name = record { 0 = 0 }; args = js }

abbrev pub plain_type : Member → Shape
plain_type h = record { ty = shape_type h; ctors = map plain_ctor h.constructors }

abbrev pub reading : List Member → Term → Reading
reading S v = read (map plain_type S) v

-- what comes of a node, whose fields then wait before the others
abbrev pub IsTaken : Option Taken → ℕ × ℕ → List Field → List Field → Type 0
IsTaken o p old new = (xs : List Field) × (o ≡ Some (p.0, xs)) × (p.1 ≡ length xs) × (reverse new ≡ xs ++ reverse old)

abbrev pub ReadsAs : Reading → Result (List (ℕ × ℕ)) TextFault → Type 0
ReadsAs r (Ok ds) = r ≡ Read ds
ReadsAs r (Err (NotOfShape k)) = r ≡ NotAt k
ReadsAs r (Err AnswerNodes) = r ≡ TooMany
ReadsAs r (Err Memory) = Unit {0}
