-- What equality and cumulativity tell of products, sorts, applied families and constructors, as statements.
use Rattle.std.specs.Prelude.{ℕ, ◌≡◌, List, [], ◌∷◌, None}
use Rattle.universe_levels.specs.declared.sort.Sort.{Sort}
use Rattle.pc_terms.specs.declared.leaf.FamilyId.{FamilyId}
use Rattle.pc_terms.specs.Syntax.{Term, SortT, Prod, Ind, Construct, apply}
use Rattle.calculus_rules.specs.Environment.{Env, SortEntails}
use Rattle.calculus_rules.specs.Context.{Values}
use Rattle.calculus_rules.specs.Conversion.{Equal, Below}
use Rattle.calculus_rules.specs.Accepted.{IsAccepted}

-- two lists of terms, as many and each equal to the one at its place
pub data EqualEach (E : Env) (V : Values) : List Term → List Term → Type 0 where
  no_terms : EqualEach E V [] []
  a_term : {t u : Term} {ts us : List Term} → Equal E V t u → EqualEach E V ts us → EqualEach E V (t ∷ ts) (u ∷ us)

-- products: equal ones have equal domains and equal codomains

abbrev pub ProductsAreEqual : Type 0
ProductsAreEqual = (E : Env) → IsAccepted E → (V : Values) (A A' B B' : Term) → Equal E V (Prod A B) (Prod A' B') → Equal E V A A' × Equal E (None ∷ V) B B'

-- where one is below the other the domains are equal, and the codomain is below the other's
abbrev pub ProductsAreBelow : Type 0
ProductsAreBelow = (E : Env) → IsAccepted E → (V : Values) (A A' B B' : Term) → Below E V (Prod A B) (Prod A' B') → Equal E V A A' × Below E (None ∷ V) B B'

-- sorts: one is below the other only if it is at most that

abbrev pub SortsAreBelow : Type 0
SortsAreBelow = (E : Env) → IsAccepted E → (V : Values) (s s' : Sort) → Below E V (SortT s) (SortT s') → SortEntails E s s'

-- families: an applied family is below another only if the families are the same and the arguments are equal

abbrev pub FamiliesAreBelow : Type 0
FamiliesAreBelow = (E : Env) → IsAccepted E → (V : Values) (f g : FamilyId) (xs ys : List Term) → Below E V (apply (Ind f) xs) (apply (Ind g) ys) →
    (f ≡ g) × EqualEach E V xs ys

-- constructors: an applied constructor is equal to another only if the constructors are the same and the arguments are equal

abbrev pub ConstructorsAreEqual : Type 0
ConstructorsAreEqual = (E : Env) → IsAccepted E → (V : Values) (f g : FamilyId) (c k : ℕ) (xs ys : List Term) → Equal E V (apply (Construct f c) xs) (apply (Construct g k) ys) →
    (f ≡ g) × (c ≡ k) × EqualEach E V xs ys

-- no product, sort or applied family is below another of these kinds

abbrev pub ProductNotSort : Type 0
ProductNotSort = (E : Env) → IsAccepted E → (V : Values) (A B : Term) (s : Sort) → Below E V (Prod A B) (SortT s) → ⊥

abbrev pub SortNotProduct : Type 0
SortNotProduct = (E : Env) → IsAccepted E → (V : Values) (A B : Term) (s : Sort) → Below E V (SortT s) (Prod A B) → ⊥

abbrev pub ProductNotFamily : Type 0
ProductNotFamily = (E : Env) → IsAccepted E → (V : Values) (A B : Term) (f : FamilyId) (xs : List Term) → Below E V (Prod A B) (apply (Ind f) xs) → ⊥

abbrev pub FamilyNotProduct : Type 0
FamilyNotProduct = (E : Env) → IsAccepted E → (V : Values) (A B : Term) (f : FamilyId) (xs : List Term) → Below E V (apply (Ind f) xs) (Prod A B) → ⊥

abbrev pub SortNotFamily : Type 0
SortNotFamily = (E : Env) → IsAccepted E → (V : Values) (s : Sort) (f : FamilyId) (xs : List Term) → Below E V (SortT s) (apply (Ind f) xs) → ⊥

abbrev pub FamilyNotSort : Type 0
FamilyNotSort = (E : Env) → IsAccepted E → (V : Values) (s : Sort) (f : FamilyId) (xs : List Term) → Below E V (apply (Ind f) xs) (SortT s) → ⊥
