-- What a former's type says of its parts, for each former: its parts have types that fit, and what its rule gives is below the type.
use Rattle.std.specs.Prelude.{ℕ, suc, ◌≡◌, List, ◌∷◌, ◌++◌, Option, Some, length, slice_get}
use Rattle.universe_levels.specs.declared.sort.Sort.{Sort}
use Rattle.universe_levels.specs.Sorts.{super_sort, product_sort}
use Rattle.pc_terms.specs.declared.leaf.Name.{Name}
use Rattle.pc_terms.specs.declared.leaf.FamilyId.{FamilyId}
use Rattle.pc_terms.specs.Syntax.{Term, Terms, Rel, SortT, Prod, LetIn, Ind, put, substitute, terms_of, apply, number, term_at}
use Rattle.calculus_rules.specs.declared.declaration.Constructor.{Constructor}
use Rattle.calculus_rules.specs.declared.entry.Entry.TheVariants.{Assumed, Defined}
use Rattle.calculus_rules.specs.Environment.{FamilyDecl, Env, KeepsConstant, KeepsFamily, KnowsFamily, IsDeclared}
use Rattle.calculus_rules.specs.Context.{Context, values, type_at, extend}
use Rattle.calculus_rules.specs.Instances.{definitions, family_type, constructor_type, predicate_entries, predicate_at}
use Rattle.calculus_rules.specs.Conversion.{Below}
use Rattle.calculus_rules.specs.Elimination.{MayEliminate}
use Rattle.calculus_rules.specs.Guardedness.{IsGuarded}
use Rattle.calculus_rules.specs.Typing.{Mode, Types, TypesAll, Entries, Branches, Sorts, Bodies, Asks}

pub record OfRel (m : Mode) (E : Env) (c : Context) (i : ℕ) (T : Term) : Type 0 where
  pub entry_type : Term
  pub entry : type_at c i ≡ Some entry_type
  pub below : Below E (values c) entry_type T

pub record OfSort (m : Mode) (E : Env) (c : Context) (s : Sort) (T : Term) : Type 0 where
  pub declared : IsDeclared E s
  pub below : Below E (values c) (SortT (super_sort s)) T

pub record OfProd (m : Mode) (E : Env) (c : Context) (A B T : Term) : Type 0 where
  pub domain_sort : Sort
  pub codomain_sort : Sort
  pub domain : Types m E c A (SortT domain_sort)
  pub codomain : Types m E (Assumed A ∷ c) B (SortT codomain_sort)
  pub below : Below E (values c) (SortT (product_sort domain_sort codomain_sort)) T

pub record OfLambda (m : Mode) (E : Env) (c : Context) (A b T : Term) : Type 0 where
  pub codomain : Term
  pub sort : Sort
  pub domain : Types m E c A (SortT sort)
  pub body : Types m E (Assumed A ∷ c) b codomain
  pub below : Below E (values c) (Prod A codomain) T

pub record OfLetIn (m : Mode) (E : Env) (c : Context) (b B t T : Term) : Type 0 where
  pub codomain : Term
  pub sort : Sort
  pub domain : Types m E c B (SortT sort)
  pub value : Types m E c b B
  pub body : Types m E (Defined b B ∷ c) t codomain
  pub below : Below E (values c) (LetIn b B codomain) T

pub record OfApp (m : Mode) (E : Env) (c : Context) (f a T : Term) : Type 0 where
  pub domain : Term
  pub codomain : Term
  pub function : Types m E c f (Prod domain codomain)
  pub argument : Types m E c a domain
  pub below : Below E (values c) (substitute (put a) codomain) T

pub record OfConst (m : Mode) (E : Env) (c : Context) (k : Name) (T : Term) : Type 0 where
  pub kept_type : Term
  pub body : Option Term
  pub kept : KeepsConstant E k kept_type body
  pub below : Below E (values c) kept_type T

pub record OfInd (m : Mode) (E : Env) (c : Context) (f : FamilyId) (T : Term) : Type 0 where
  pub family : FamilyDecl
  pub known : KnowsFamily E f family
  pub below : Below E (values c) (family_type family) T

pub record OfConstruct (m : Mode) (E : Env) (c : Context) (f : FamilyId) (n : ℕ) (T : Term) : Type 0 where
  pub family : FamilyDecl
  pub constructor : Constructor
  pub kept : KeepsFamily E f family
  pub at : slice_get family.constructors n ≡ Some constructor
  pub below : Below E (values c) (constructor_type f family constructor) T

pub record OfCase (m : Mode) (E : Env) (c : Context) (f : FamilyId) (xs : Terms) (n : ℕ) (ret t : Term) (bs : Terms) (T : Term) : Type 0 where
  pub family : FamilyDecl
  pub kept : KeepsFamily E f family
  pub parameters : List Term
  pub are : xs ≡ terms_of parameters
  pub indices : List Term
  pub names : n ≡ suc (length family.indices)
  pub count : length indices ≡ length family.indices
  pub fit : TypesAll m E c Rel parameters family.parameters
  pub entries : Entries m E c (predicate_entries f family parameters)
  pub sort : Sort
  pub predicate : Types m E (extend c (predicate_entries f family parameters)) ret (SortT sort)
  pub may : MayEliminate E f family sort
  pub scrutinee : Types m E c t (apply (Ind f) (parameters ++ indices))
  pub branches : Branches m E c f parameters ret 0 family.constructors bs
  pub below : Below E (values c) (predicate_at ret indices t) T

pub record OfFix (m : Mode) (E : Env) (c : Context) (i : ℕ) (rargs : List ℕ) (types bodies : Terms) (T : Term) : Type 0 where
  pub written : Term
  pub count : number types ≡ length rargs
  pub at : term_at types i ≡ Some (0, written)
  pub sorts : Sorts m E c 0 types
  pub bodies_fit : Bodies m E (definitions c 0 types) (length rargs) rargs types bodies
  pub asked : Asks m (IsGuarded E (values c) rargs bodies)
  pub below : Below E (values c) written T
