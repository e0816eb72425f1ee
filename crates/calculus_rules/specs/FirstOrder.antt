-- First-order types, and data: what a value is read as. They are this project's own.
use Rattle.std.specs.Prelude.{ℕ, suc, ◌≡◌, ◌≢◌, List, [], ◌∷◌, ◌++◌, Some, length, slice_get}
use Rattle.universe_levels.specs.declared.sort.Sort.TheVariants.{Prop}
pub use Rattle.trees.specs.Data.{Data}
use Rattle.pc_terms.specs.declared.leaf.FamilyId.{FamilyId}
use Rattle.pc_terms.specs.Syntax.{Term, Ind, apply, shift}
use Rattle.calculus_rules.specs.declared.declaration.Constructor.{Constructor}
use Rattle.calculus_rules.specs.Environment.{FamilyDecl, Env, KeepsFamily}
use Rattle.calculus_rules.specs.Instances.{branch_entries}
use Rattle.calculus_rules.specs.Step.{IsConstructor}
use Rattle.calculus_rules.specs.WeakHead.{WeakSteps}
use Rattle.calculus_rules.specs.Erasable.{Erasable}

-- one type of a set: a family at its parameters, and for each constructor the places of its argument types in the set
pub record Shape : Type 0 where
  pub family : FamilyId
  pub parameters : List Term
  pub constructors : List (List ℕ)

abbrev pub shape_type : Shape → Term
shape_type h = apply (Ind h.family) h.parameters

-- a closed type's weak-head normal form is type j of the set (a family applied to terms has no weak-head step)
abbrev pub IsAt : Env → List Shape → Term → ℕ → Type 0
IsAt E S T j = (h : Shape) × (slice_get S j ≡ Some h) × WeakSteps E [] T (shape_type h)

-- each argument type mentions none of the n arguments before it, and has its weak-head normal form in the set
pub data ArgumentsAt (E : Env) (S : List Shape) : ℕ → List Term → List ℕ → Type 0 where
  no_argument : {n : ℕ} → ArgumentsAt E S n [] []
  an_argument : {n j : ℕ} {A B : Term} {Bs : List Term} {js : List ℕ} → B ≡ shift n 0 A → IsAt E S A j → ArgumentsAt E S (suc n) Bs js →
      ArgumentsAt E S n (B ∷ Bs) (j ∷ js)

pub data ConstructorsAt (E : Env) (S : List Shape) (ps : List Term) : List Constructor → List (List ℕ) → Type 0 where
  no_constructor : ConstructorsAt E S ps [] []
  a_constructor : {C : Constructor} {Cs : List Constructor} {js : List ℕ} {jss : List (List ℕ)} → ArgumentsAt E S 0 (branch_entries C ps) js →
      ConstructorsAt E S ps Cs jss → ConstructorsAt E S ps (C ∷ Cs) (js ∷ jss)

-- a family not in Prop, without indices, applied to all its parameters, whose constructors' argument types at those are in the set
pub record IsMember (E : Env) (S : List Shape) (h : Shape) : Type 0 where
  pub declared : FamilyDecl
  pub kept : KeepsFamily E h.family declared
  pub not_prop : declared.sort ≢ Prop
  pub no_indices : declared.indices ≡ []
  pub parameters : length h.parameters ≡ length declared.parameters
  pub constructors : ConstructorsAt E S h.parameters declared.constructors h.constructors

-- a first-order set of a type, the type's own weak-head normal form first. That T is closed is a premise of who uses it
pub record IsFirstOrder (E : Env) (T : Term) (S : List Shape) : Type 0 where
  pub first : IsAt E S T 0
  pub members : (j : ℕ) (h : Shape) → slice_get S j ≡ Some h → IsMember E S h

-- at type i of the set the value is a constructor of that family with all its arguments, and so all the way down
mutual
  pub data Reads (E : Env) (S : List Shape) : ℕ → Term → Data → Type 0 where
    reads : {i c : ℕ} {v : Term} {h : Shape} {js : List ℕ} {qs xs : List Term} {ds : Data} → slice_get S i ≡ Some h →
        slice_get h.constructors c ≡ Some js → IsConstructor E h.family c v qs xs → ReadsAll E S js xs ds → Reads E S i v ((c, length xs) ∷ ds)

  pub data ReadsAll (E : Env) (S : List Shape) : List ℕ → List Term → Data → Type 0 where
    no_field : ReadsAll E S [] [] []
    field : {j : ℕ} {js : List ℕ} {x : Term} {xs : List Term} {d ds : Data} → Reads E S j x d → ReadsAll E S js xs ds →
        ReadsAll E S (j ∷ js) (x ∷ xs) (d ++ ds)

-- no constructor term that is a node of the data is erasable
abbrev mutual
  pub NothingErasable : {E : Env} {S : List Shape} {i : ℕ} {v : Term} {d : Data} → Reads E S i v d → Type 0
  NothingErasable {E} {v = v} (reads s e c rs) = (Erasable E [] v → ⊥) × NothingErasableInside rs

  pub NothingErasableInside : {E : Env} {S : List Shape} {js : List ℕ} {xs : List Term} {ds : Data} → ReadsAll E S js xs ds → Type 0
  NothingErasableInside no_field = Unit {0}
  NothingErasableInside (field r rs) = NothingErasable r × NothingErasableInside rs

-- the data alone has the constructors and the counts of the set
mutual
  pub data FitsShapes (S : List Shape) : ℕ → Data → Type 0 where
    fits : {i c : ℕ} {h : Shape} {js : List ℕ} {ds : Data} → slice_get S i ≡ Some h → slice_get h.constructors c ≡ Some js →
        FieldsFit S js ds → FitsShapes S i ((c, length js) ∷ ds)

  pub data FieldsFit (S : List Shape) : List ℕ → Data → Type 0 where
    no_field_fits : FieldsFit S [] []
    field_fits : {j : ℕ} {js : List ℕ} {d ds : Data} → FitsShapes S j d → FieldsFit S js ds → FieldsFit S (j ∷ js) (d ++ ds)
