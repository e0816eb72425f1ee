-- The source terms of data at first-order types, and a term applied to those of its arguments. They are this project's own.
use Rattle.std.specs.Prelude.{ℕ, ◌≡◌, List, [], ◌∷◌, ◌++◌, Some, length, slice_get}
use Rattle.pc_terms.specs.Syntax.{Term, Construct, apply}
use Rattle.calculus_rules.specs.FirstOrder.{Shape as Member, Data}

-- data at type i of a first-order set is the constructor of its number, applied to the type's parameters and to the source terms of its fields
mutual
  pub data IsSourceOf (S : List Member) : ℕ → Data → Term → Type 0 where
    source_of : {i c : ℕ} {t : Term} {h : Member} {js : List ℕ} {xs : List Term} {ds : Data} → slice_get S i ≡ Some h →
        slice_get h.constructors c ≡ Some js → AreSourcesOf S js ds xs → t ≡ apply (Construct h.family c) (h.parameters ++ xs) →
        IsSourceOf S i ((c, length xs) ∷ ds) t

  pub data AreSourcesOf (S : List Member) : List ℕ → Data → List Term → Type 0 where
    no_field_source : AreSourcesOf S [] [] []
    field_source : {j : ℕ} {js : List ℕ} {x : Term} {xs : List Term} {d ds : Data} → IsSourceOf S j d x → AreSourcesOf S js ds xs →
        AreSourcesOf S (j ∷ js) (d ++ ds) (x ∷ xs)

-- the source terms of the arguments' data, the first first, each at the first type of its own set
pub data AreArguments : List (List Member) → List Data → List Term → Type 0 where
  no_argument : AreArguments [] [] []
  an_argument : {S : List Member} {Ss : List (List Member)} {d : Data} {ds : List Data} {x : Term} {xs : List Term} → IsSourceOf S 0 d x →
      AreArguments Ss ds xs → AreArguments (S ∷ Ss) (d ∷ ds) (x ∷ xs)

-- main applied to the source terms of the arguments' data
pub record IsApplied (Ss : List (List Member)) (main : Term) (ds : List Data) (applied : Term) : Type 0 where
  pub terms : List Term
  pub sources : AreArguments Ss ds terms
  pub is : applied ≡ apply main terms
