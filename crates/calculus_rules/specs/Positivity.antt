-- Strict positivity of the constructors of a block: its families may stand as parameters of earlier families in which these parameters are
-- strictly positive. It is this project's own profile of PCUIC's condition.
use Rattle.std.specs.Prelude.{ℕ, zero, suc, ◌+◌, ◌-◌, ◌≡◌, ◌≢◌, ◌||◌, Bool, false, List, [], ◌∷◌, ◌++◌, length, drop}
use Rattle.pc_terms.specs.declared.leaf.Name.{Name}
use Rattle.pc_terms.specs.declared.leaf.FamilyId.{FamilyId}
use Rattle.pc_terms.specs.Syntax.{Term, Rel, Prod, Ind, apply}
use Rattle.calculus_rules.specs.declared.declaration.Constructor.{Constructor}
use Rattle.calculus_rules.specs.declared.declaration.Family.{Family}
use Rattle.calculus_rules.specs.declared.declaration.Block.{Block}
use Rattle.calculus_rules.specs.declared.declaration.Kept.TheVariants.{Block as Whole}
use Rattle.calculus_rules.specs.declared.target.Target.{Target}
use Rattle.calculus_rules.specs.declared.target.Target.TheVariants.{Families, Parameter}
use Rattle.calculus_rules.specs.Environment.{Env, Has}
use Rattle.calculus_rules.specs.Naming.{names, some_names, entries_name}

-- parameter p of a block, as a target
abbrev pub parameter_target : Block → ℕ → Target
parameter_target B p = Parameter B.name (length B.params) (length B.params - suc p)

-- the block that a target is of
abbrev pub block_of : Target → Name
block_of (Families k) = k
block_of (Parameter k n v) = k

-- n parameters, the first first, as they are seen under j variables more
abbrev pub parameters_under : ℕ → ℕ → List Term
parameters_under zero j = []
parameters_under (suc n) j = Rel (n + j) ∷ parameters_under n j

-- a result term of a constructor, or an index type or a result term of a family, names the target
abbrev pub results_name : Target → List Constructor → Bool
results_name g [] = false
results_name g (C ∷ Cs) = some_names g (length C.args) C.result || results_name g Cs

abbrev pub families_name : Target → List Family → Bool
families_name g [] = false
families_name g (F ∷ Fs) = (entries_name g 0 F.indices || results_name g F.ctors) || families_name g Fs

-- a later parameter's type, an index type or a result term of the block names parameter p
abbrev pub types_name : Block → ℕ → Bool
types_name B p = entries_name (Parameter B.name (length B.params) 0) 0 (drop (suc p) B.params) || families_name (parameter_target B p) B.families

-- a type under j variables more than the target's parameters is good for the target
mutual
  pub data IsGood (E : Env) : Target → ℕ → Term → Type 0 where
    -- 1. it does not name the target
    names_none : {g : Target} {j : ℕ} {A : Term} → names g j A ≡ false → IsGood E g j A
    -- 2. it is a product whose domain does not name the target and whose codomain is good for it
    product : {g : Target} {j : ℕ} {A B : Term} → names g j A ≡ false → IsGood E g (suc j) B → IsGood E g j (Prod A B)
    -- 3. the target is the block's families, and it is one of them applied to terms that do not name the target
    recursive : {k : Name} {j : ℕ} {A : Term} (f : FamilyId) (xs : List Term) → A ≡ apply (Ind f) xs → f.block ≡ k → some_names (Families k) j xs ≡ false →
        IsGood E (Families k) j A
    -- 4. the target is a parameter variable, and it is that variable
    parameter : {k : Name} {n v j : ℕ} {A : Term} → A ≡ Rel (v + j) → IsGood E (Parameter k n v) j A
    -- 5. the target is a parameter variable of a block, and it is a family of that block whose parameters are the block's own in order and
    -- whose further arguments do not name the target
    uniform : {k : Name} {n v j : ℕ} {A : Term} (f : FamilyId) (xs : List Term) → A ≡ apply (Ind f) (parameters_under n j ++ xs) → f.block ≡ k →
        some_names (Parameter k n v) j xs ≡ false → IsGood E (Parameter k n v) j A
    -- 6. it is a family of an earlier block with at least all its parameters, each parameter that names the target stands at a nestable place
    -- and is itself good for the target, and no further argument names the target
    nested : {g : Target} {j : ℕ} {A : Term} (f : FamilyId) (B : Block) (ps xs : List Term) → A ≡ apply (Ind f) (ps ++ xs) → f.block ≢ block_of g →
        Has E.declarations (Whole B) → B.name ≡ f.block → length ps ≡ length B.params → AreNested E g j B 0 ps → some_names g j xs ≡ false →
        IsGood E g j A

  -- parameters of a block, from place p on
  pub data AreNested (E : Env) : Target → ℕ → Block → ℕ → List Term → Type 0 where
    no_parameter : {g : Target} {j : ℕ} {B : Block} {p : ℕ} → AreNested E g j B p []
    other : {g : Target} {j : ℕ} {B : Block} {p : ℕ} {t : Term} {ts : List Term} → names g j t ≡ false → AreNested E g j B (suc p) ts →
        AreNested E g j B p (t ∷ ts)
    naming : {g : Target} {j : ℕ} {B : Block} {p : ℕ} {t : Term} {ts : List Term} → IsNestable E B p → IsGood E g j t → AreNested E g j B (suc p) ts →
        AreNested E g j B p (t ∷ ts)

  -- a place among the parameters of a block is nestable: no later parameter's type, no index type and no result term names it, and every
  -- argument type of every constructor is good for it
  pub data IsNestable (E : Env) : Block → ℕ → Type 0 where
    nestable : {B : Block} {p : ℕ} → types_name B p ≡ false → AreGoodFamilies E (parameter_target B p) B.families → IsNestable E B p

  pub data AreGoodFamilies (E : Env) : Target → List Family → Type 0 where
    no_family : {g : Target} → AreGoodFamilies E g []
    a_family : {g : Target} {F : Family} {Fs : List Family} → AreGoodConstructors E g F.ctors → AreGoodFamilies E g Fs → AreGoodFamilies E g (F ∷ Fs)

  pub data AreGoodConstructors (E : Env) : Target → List Constructor → Type 0 where
    no_constructor : {g : Target} → AreGoodConstructors E g []
    a_constructor : {g : Target} {C : Constructor} {Cs : List Constructor} → AreGood E g 0 C.args → AreGoodConstructors E g Cs →
        AreGoodConstructors E g (C ∷ Cs)

  -- the types of a telescope, which begins under j variables more than the target's parameters
  pub data AreGood (E : Env) : Target → ℕ → List Term → Type 0 where
    no_type : {g : Target} {j : ℕ} → AreGood E g j []
    a_type : {g : Target} {j : ℕ} {A : Term} {As : List Term} → IsGood E g j A → AreGood E g (suc j) As → AreGood E g j (A ∷ As)

-- the argument types of a constructor of a block are good for the block's families (for which it makes no difference under how many
-- variables a type stands)
abbrev pub ArePositive : Env → Name → List Term → Type 0
ArePositive E k [] = Unit {0}
ArePositive E k (A ∷ As) = IsGood E (Families k) 0 A × ArePositive E k As

-- a block is positive: each constructor's argument types are good for the block's families, and its result terms name none of them
abbrev pub ArePositiveConstructors : Env → Name → List Constructor → Type 0
ArePositiveConstructors E k [] = Unit {0}
ArePositiveConstructors E k (C ∷ Cs) = (ArePositive E k C.args × (some_names (Families k) 0 C.result ≡ false)) × ArePositiveConstructors E k Cs

abbrev pub ArePositiveFamilies : Env → Name → List Family → Type 0
ArePositiveFamilies E k [] = Unit {0}
ArePositiveFamilies E k (F ∷ Fs) = ArePositiveConstructors E k F.ctors × ArePositiveFamilies E k Fs

abbrev pub IsPositive : Env → Block → Type 0
IsPositive E B = ArePositiveFamilies E B.name B.families
