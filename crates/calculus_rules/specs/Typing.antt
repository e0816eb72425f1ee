-- The rules of typing (PCUIC, POPL 2020, section 2.3: typing). Rules are numbered as in docs/TYPING.md:
-- 1 variable, 2 sort, 3 product, 4 lambda, 5 let, 6 application, 7 constant, 8 family, 9 constructor, 10 match, 11 fixpoint, 12 conversion.
-- There are two instances: guarded types, and bare types, for which rule 11 doesn't ask that the fixpoint is guarded.
use Rattle.std.specs.Prelude.{ℕ, zero, suc, ◌≡◌, List, [], ◌∷◌, ◌++◌, Option, Some, None, length, slice_get}
use Rattle.universe_levels.specs.declared.sort.Sort.{Sort}
use Rattle.universe_levels.specs.Sorts.{super_sort, product_sort}
use Rattle.pc_terms.specs.declared.leaf.Name.{Name}
use Rattle.pc_terms.specs.declared.leaf.FamilyId.{FamilyId}
use Rattle.pc_terms.specs.Syntax.{Term, Terms, Done, Next, Rel, SortT, Prod, Lambda, LetIn, App, Const, Ind, Construct, Case, Fix, first, put, substitute, apply, term_at, terms_of, number, shift}
use Rattle.calculus_rules.specs.declared.declaration.Constructor.{Constructor}
use Rattle.calculus_rules.specs.declared.entry.Entry.TheVariants.{Assumed, Defined}
use Rattle.calculus_rules.specs.Environment.{FamilyDecl, Env, KeepsConstant, KeepsFamily, KnowsFamily, IsDeclared}
use Rattle.calculus_rules.specs.Context.{Context, Values, values, type_at, extend}
use Rattle.calculus_rules.specs.Instances.{family_type, constructor_type, predicate_entries, branch_entries, predicate_at, branch_type, definitions}
use Rattle.calculus_rules.specs.Conversion.{Equal, Below}
use Rattle.calculus_rules.specs.Elimination.{MayEliminate}
use Rattle.calculus_rules.specs.Guardedness.{IsGuarded}

pub data Mode : Type 0 where
  bare guarded : Mode

-- what is asked of guarded types alone
abbrev pub Asks : Mode → Type 0 → Type 0
Asks bare P = Unit {0}
Asks guarded P = P

-- a definition's body begins with rarg + 1 lambdas, and the domain of the last of them is equal to a family applied to arguments
pub data Recurses (E : Env) : Values → ℕ → Term → Type 0 where
  recurses_here : {V : Values} {A b : Term} (f : FamilyId) (xs : List Term) → Equal E V A (apply (Ind f) xs) → Recurses E V zero (Lambda A b)
  recurses_later : {V : Values} {r : ℕ} {A b : Term} → Recurses E (None ∷ V) r b → Recurses E V (suc r) (Lambda A b)

mutual
  pub data Types (m : Mode) (E : Env) : Context → Term → Term → Type 0 where
    -- 1. a variable has its entry's type, lifted
    rel : {c : Context} {i : ℕ} {T : Term} → type_at c i ≡ Some T → Types m E c (Rel i) T
    -- 2. a sort has its super sort, where its levels are declared
    sort : {c : Context} {s : Sort} → IsDeclared E s → Types m E c (SortT s) (SortT (super_sort s))
    -- 3. a product has the product sort of its domain's sort and of its codomain's, which is under the domain
    prod : {c : Context} {A B : Term} {s s' : Sort} →
        Types m E c A (SortT s) → Types m E (Assumed A ∷ c) B (SortT s') →
        Types m E c (Prod A B) (SortT (product_sort s s'))
    -- 4. a lambda has the product of its domain and of its body's type, where the domain has a sort
    lambda : {c : Context} {A b B : Term} {s : Sort} →
        Types m E c A (SortT s) → Types m E (Assumed A ∷ c) b B →
        Types m E c (Lambda A b) (Prod A B)
    -- 5. a let has the let of its value and of its body's type, where the value has the written type, and that has a sort
    let_in : {c : Context} {b B t T : Term} {s : Sort} →
        Types m E c B (SortT s) → Types m E c b B → Types m E (Defined b B ∷ c) t T →
        Types m E c (LetIn b B t) (LetIn b B T)
    -- 6. an application has the codomain with the argument put in
    app : {c : Context} {f a A B : Term} →
        Types m E c f (Prod A B) → Types m E c a A →
        Types m E c (App f a) (substitute (put a) B)
    -- 7. a constant has its kept type
    const : {c : Context} {k : Name} {T : Term} {b : Option Term} →
        KeepsConstant E k T b → Types m E c (Const k) T
    -- 8. a family has the product over parameters and indices that ends in its sort
    ind : {c : Context} {f : FamilyId} {F : FamilyDecl} →
        KnowsFamily E f F → Types m E c (Ind f) (family_type F)
    -- 9. a constructor has the product over parameters and arguments that ends in the family at the parameters and the result
    construct : {c : Context} {f : FamilyId} {n : ℕ} {F : FamilyDecl} {C : Constructor} →
        KeepsFamily E f F → slice_get F.constructors n ≡ Some C →
        Types m E c (Construct f n) (constructor_type f F C)
    -- 10. a match has its predicate at the indices and the scrutinee, where: the family is kept and all counts are right; the parameters
    -- have the types of their telescope; the entries of the predicate have sorts, and so does the predicate under them; the family may
    -- be eliminated into that sort; the scrutinee has the family at the parameters and the indices; and the branches fit
    case : {c : Context} {f : FamilyId} {F : FamilyDecl} {bs : Terms} {n : ℕ} {ret t : Term} {s : Sort} (ps is : List Term) →
        KeepsFamily E f F →
        n ≡ suc (length F.indices) →
        length is ≡ length F.indices →
        TypesAll m E c Rel ps F.parameters →
        Entries m E c (predicate_entries f F ps) →
        Types m E (extend c (predicate_entries f F ps)) ret (SortT s) →
        MayEliminate E f F s →
        Types m E c t (apply (Ind f) (ps ++ is)) →
        Branches m E c f ps ret 0 F.constructors bs →
        Types m E c (Case f (terms_of ps) n ret t bs) (predicate_at ret is t)
    -- 11. fixpoint i has the type of definition i, where: each definition's type has a sort under the definitions before; each body has
    -- its definition's type under all of them, and recurses on an argument of a family; and the fixpoint is guarded
    fix : {c : Context} {i : ℕ} {rargs : List ℕ} {types bodies : Terms} {T : Term} →
        number types ≡ length rargs →
        term_at types i ≡ Some (0, T) →
        Sorts m E c 0 types →
        Bodies m E (definitions c 0 types) (length rargs) rargs types bodies →
        Asks m (IsGuarded E (values c) rargs bodies) →
        Types m E c (Fix i rargs types bodies) T
    -- 12. a term of a type has each type above it that has a sort
    conv : {c : Context} {t T U : Term} {s : Sort} →
        Types m E c t T → Below E (values c) T U → Types m E c U (SortT s) → Types m E c t U

  -- each term has its telescope type at the ones before
  pub data TypesAll (m : Mode) (E : Env) : Context → (ℕ → Term) → List Term → List Term → Type 0 where
    no_terms : {c : Context} {s : ℕ → Term} → TypesAll m E c s [] []
    term : {c : Context} {s : ℕ → Term} {t A : Term} {ts As : List Term} →
        Types m E c t (substitute s A) → TypesAll m E c (first t s) ts As →
        TypesAll m E c s (t ∷ ts) (A ∷ As)

  -- each entry of a telescope has a sort
  pub data Entries (m : Mode) (E : Env) : Context → List Term → Type 0 where
    no_entries : {c : Context} → Entries m E c []
    entry : {c : Context} {A : Term} {As : List Term} {s : Sort} →
        Types m E c A (SortT s) → Entries m E (Assumed A ∷ c) As → Entries m E c (A ∷ As)

  -- the branches, from constructor n on: each has a name for each argument, its entries have sorts, and its body has there the type of
  -- the predicate at the constructor's result and the constructor
  pub data Branches (m : Mode) (E : Env) : Context → FamilyId → List Term → Term → ℕ → List Constructor → Terms → Type 0 where
    no_branches : {c : Context} {f : FamilyId} {ps : List Term} {ret : Term} {n : ℕ} → Branches m E c f ps ret n [] Done
    branch : {c : Context} {f : FamilyId} {ps : List Term} {ret : Term} {n k : ℕ} {C : Constructor} {Cs : List Constructor} {body : Term} {bs : Terms} →
        k ≡ length C.args →
        Entries m E c (branch_entries C ps) →
        Types m E (extend c (branch_entries C ps)) body (branch_type f n C ps ret) →
        Branches m E c f ps ret (suc n) Cs bs →
        Branches m E c f ps ret n (C ∷ Cs) (Next k body bs)

  -- each definition's type has a sort under the n definitions before
  pub data Sorts (m : Mode) (E : Env) : Context → ℕ → Terms → Type 0 where
    no_types : {c : Context} {n : ℕ} → Sorts m E c n Done
    a_type : {c : Context} {n : ℕ} {T : Term} {ts : Terms} {s : Sort} →
        Types m E c (shift n 0 T) (SortT s) → Sorts m E (Assumed (shift n 0 T) ∷ c) (suc n) ts →
        Sorts m E c n (Next 0 T ts)

  -- each body has its definition's type under all n definitions
  pub data Bodies (m : Mode) (E : Env) : Context → ℕ → List ℕ → Terms → Terms → Type 0 where
    no_bodies : {c : Context} {n : ℕ} → Bodies m E c n [] Done Done
    a_body : {c : Context} {n rarg : ℕ} {rargs : List ℕ} {T body : Term} {types bodies : Terms} →
        Recurses E (values c) rarg body → Types m E c body (shift n 0 T) → Bodies m E c n rargs types bodies →
        Bodies m E c n (rarg ∷ rargs) (Next 0 T types) (Next n body bodies)

-- each entry of a telescope has the sort that stands for it
pub data EntrySorts (m : Mode) (E : Env) : Context → List Term → List Sort → Type 0 where
  no_sorts : {c : Context} → EntrySorts m E c [] []
  a_sort : {c : Context} {A : Term} {As : List Term} {s : Sort} {ss : List Sort} →
      Types m E c A (SortT s) → EntrySorts m E (Assumed A ∷ c) As ss → EntrySorts m E c (A ∷ As) (s ∷ ss)
