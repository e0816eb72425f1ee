-- Texts of data: a node's name alone, or in brackets before the texts of its arguments, with one blank between two items. A naming says how a node is
-- called at a place, and at which places its arguments stand; none where no such node stands there.
use Rattle.std.specs.Prelude.{ℕ, zero, suc, ◌==◌, ◌<◌, ◌≡◌, if◌then◌else◌, List, [], ◌∷◌, ◌++◌, length, replicate, decimal, Option, Some, None, slice_get, Result, Ok, Err, Vec}
use Rattle.std.specs.declared.alloc.Global.{Global}
use Rattle.calculus_rules.specs.FirstOrder.{Data}
use Rattle.calculus_rules.specs.Lookups.{if_some}
use Rattle.first_order.specs.declared.shapes.Shape.{Shape}
use Rattle.first_order.specs.declared.shapes.ShapeCtor.{ShapeCtor}
use Rattle.first_order.specs.declared.texts.Slot.{Slot}
use Rattle.first_order.specs.declared.faults.TextFault.{TextFault}
use Rattle.first_order.specs.declared.faults.TextFault.TheVariants.{NotOfShape, AnswerNodes, Memory}

-- a node is a constructor's number and its number of arguments
abbrev pub Naming : Type 0
Naming = ℕ → ℕ × ℕ → Option (List ℕ × List ℕ)

-- ---- the meaning

mutual
  -- data at a place, and its text
  pub data IsText (N : Naming) : ℕ → Data → List ℕ → Type 0 where
    alone : {i c : ℕ} {name : List ℕ} → N i (c, 0) ≡ Some (name, []) → IsText N i ((c, 0) ∷ []) name
    with_arguments : {i c n : ℕ} {name ts : List ℕ} {js : List ℕ} {ds : Data} → N i (c, suc n) ≡ Some (name, js) → AreTexts N js ds ts →
        IsText N i ((c, suc n) ∷ ds) (40 ∷ (name ++ (ts ++ (41 ∷ []))))

  -- data at several places, one behind the other; a blank is before each text
  pub data AreTexts (N : Naming) : List ℕ → Data → List ℕ → Type 0 where
    no_text : AreTexts N [] [] []
    one_text : {j : ℕ} {js : List ℕ} {d ds : Data} {t ts : List ℕ} → IsText N j d t → AreTexts N js ds ts →
        AreTexts N (j ∷ js) (d ++ ds) (32 ∷ (t ++ ts))

-- ---- the two namings

-- constructor c of the type at a place, with its number of arguments
abbrev pub counted_ctor : ℕ → ShapeCtor → Option ShapeCtor
counted_ctor n k = if length k.args == n then Some k else None

abbrev pub constructor_in : List Shape → ℕ → ℕ → ℕ → Option ShapeCtor
constructor_in S i c n = if_some (slice_get S i) (λ h. if_some (slice_get h.ctors c) (λ k. counted_ctor n k))

abbrev pub named_ctor : List (List ℕ) → ShapeCtor → Option (List ℕ × List ℕ)
named_ctor names k = if_some (slice_get names k.name.0) (λ name. Some (name, k.args))

-- by the names of constructors
abbrev pub by_shapes : List Shape → List (List ℕ) → Naming
by_shapes S names i d = if_some (constructor_in S i d.0 d.1) (λ k. named_ctor names k)

-- by their numbers; all arguments stand at one place
abbrev pub by_tags : Naming
by_tags i d = Some (decimal d.0, replicate d.1 0)

-- the names of all constructors are there
abbrev pub HasNames : List Shape → List (List ℕ) → Type 0
HasNames S names = (i c : ℕ) (h : Shape) (k : ShapeCtor) → slice_get S i ≡ Some h → slice_get h.ctors c ≡ Some k → k.name.0 < length names

-- ---- as it is written, node by node in preorder

-- a tree that is to be written: its place, and how many brackets are closed behind it
abbrev pub slot : ℕ → ℕ → Slot
slot j c = record { place = j; closes = c }

-- one with so many behind it
abbrev pub slot_behind : ℕ → ℕ → ℕ → Slot
slot_behind j zero c = slot j c
slot_behind j (suc n) c = slot j 0

-- the arguments of a node behind which so many are closed
abbrev pub slots : List ℕ → ℕ → List Slot
slots [] c = []
slots (j ∷ js) c = slot_behind j (length js) (suc c) ∷ slots js c

abbrev pub blank : ℕ → List ℕ
blank zero = []
blank (suc k) = 32 ∷ []

-- what is written of node k
abbrev pub piece : ℕ → List ℕ → ℕ → ℕ → List ℕ
piece k name zero c = blank k ++ (name ++ replicate c 41)
piece k name (suc n) c = blank k ++ (40 ∷ name)

-- a text; the number of the first node that has no name; or data that is no tree
pub data Writing : Type 0 where
  Written : List ℕ → Writing
  NotOf : ℕ → Writing
  NoTree : Writing

abbrev pub before : List ℕ → Writing → Writing
before t (Written u) = Written (t ++ u)
before t (NotOf k) = NotOf k
before t NoTree = NoTree

abbrev pub on_name : Option (List ℕ × List ℕ) → ℕ → (List ℕ × List ℕ → Writing) → Writing
on_name None k go = NotOf k
on_name (Some e) k go = go e

-- k nodes have been written
unfoldable pub write_on : Naming → List Slot → Data → ℕ → Writing
write_on N [] [] k = Written []
write_on N [] (d ∷ ds) k = NoTree
write_on N (s ∷ ss) [] k = NoTree
write_on N (s ∷ ss) (d ∷ ds) k =
    on_name (N s.place d) k (λ e. before (piece k e.0 d.1 s.closes) (write_on N (slots e.1 s.closes ++ ss) ds (suc k)))

abbrev pub write : Naming → Data → Writing
write N ds = write_on N (slot 0 0 ∷ []) ds 0

abbrev pub WritesAs : Writing → Result (Vec ℕ Global) TextFault → Type 0
WritesAs w (Ok v) = w ≡ Written v.items
WritesAs w (Err (NotOfShape k)) = w ≡ NotOf k
WritesAs w (Err AnswerNodes) = ⊥
WritesAs w (Err Memory) = Unit {0}
