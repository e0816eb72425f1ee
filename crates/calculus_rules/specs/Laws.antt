-- Sanity laws of the definitions, as statements.
use Rattle.std.specs.Prelude.{ℕ, ◌≡◌, List, ◌∷◌, Some, None}
use Rattle.universe_levels.specs.declared.sort.Sort.{Sort}
use Rattle.universe_levels.specs.declared.sort.Sort.TheVariants.{Prop}
use Rattle.pc_terms.specs.declared.leaf.Name.{Name}
use Rattle.pc_terms.specs.declared.leaf.FamilyId.{FamilyId}
use Rattle.pc_terms.specs.Syntax.{Term, Terms, SortT, Prod, Lambda, LetIn, App, Case, Fix}
use Rattle.calculus_rules.specs.declared.declaration.Block.{Block}
use Rattle.calculus_rules.specs.declared.declaration.Kept.TheVariants.{Heads}
use Rattle.calculus_rules.specs.Environment.{Env, FamilyDecl, KeepsConstant, KeepsFamily}
use Rattle.calculus_rules.specs.Context.{Context, Values, under}
use Rattle.calculus_rules.specs.Step.{Step}
use Rattle.calculus_rules.specs.Conversion.{Equal, EqualTerms, Below}
use Rattle.calculus_rules.specs.Typing.{Types, guarded, bare}
use Rattle.calculus_rules.specs.WeakHead.{WeakStep, IsWhnf}
use Rattle.calculus_rules.specs.Accepted.{IsAccepted, env}
use Rattle.calculus_rules.specs.Evaluation.{Evaluates}

-- each name is declared once: no constant has two bodies, and no family of a whole block two declarations
pub record OneEach (E : Env) : Type 0 where
  pub bodies : (k : Name) (T T' b b' : Term) → KeepsConstant E k T (Some b) → KeepsConstant E k T' (Some b') → b ≡ b'
  pub families : (f : FamilyId) (F G : FamilyDecl) → KeepsFamily E f F → KeepsFamily E f G → F ≡ G

-- equality is an equivalence
abbrev pub EqualityIsReflexive : Type 0
EqualityIsReflexive = (E : Env) (V : Values) (t : Term) → Equal E V t t

abbrev pub EqualityIsSymmetric : Type 0
EqualityIsSymmetric = (E : Env) (V : Values) (t u : Term) → Equal E V t u → Equal E V u t

abbrev pub EqualityIsTransitive : Type 0
EqualityIsTransitive = (E : Env) (V : Values) (t u w : Term) → Equal E V t u → Equal E V u w → Equal E V t w

-- a step, anywhere in a term, is an equality
abbrev pub EqualityHasSteps : Type 0
EqualityHasSteps = (E : Env) (V : Values) (t u : Term) → Step E V t u → Equal E V t u

-- equality is a congruence, former by former
abbrev pub EqualProducts : Type 0
EqualProducts = (E : Env) (V : Values) (A A' B B' : Term) → Equal E V A A' → Equal E (None ∷ V) B B' → Equal E V (Prod A B) (Prod A' B')

abbrev pub EqualLambdas : Type 0
EqualLambdas = (E : Env) (V : Values) (A A' b b' : Term) → Equal E V A A' → Equal E (None ∷ V) b b' → Equal E V (Lambda A b) (Lambda A' b')

abbrev pub EqualLets : Type 0
EqualLets = (E : Env) (V : Values) (b b' B B' t t' : Term) → Equal E V b b' → Equal E V B B' → Equal E (Some b ∷ V) t t' →
    Equal E V (LetIn b B t) (LetIn b' B' t')

abbrev pub EqualApplications : Type 0
EqualApplications = (E : Env) (V : Values) (f f' a a' : Term) → Equal E V f f' → Equal E V a a' → Equal E V (App f a) (App f' a')

abbrev pub EqualMatches : Type 0
EqualMatches = (E : Env) (V : Values) (f : FamilyId) (n : ℕ) (ps ps' bs bs' : Terms) (ret ret' s s' : Term) → EqualTerms E V ps ps' →
    Equal E (under n V) ret ret' → Equal E V s s' → EqualTerms E V bs bs' → Equal E V (Case f ps n ret s bs) (Case f ps' n ret' s' bs')

abbrev pub EqualFixpoints : Type 0
EqualFixpoints = (E : Env) (V : Values) (i : ℕ) (rargs : List ℕ) (types types' bodies bodies' : Terms) → EqualTerms E V types types' →
    EqualTerms E V bodies bodies' → Equal E V (Fix i rargs types bodies) (Fix i rargs types' bodies')

-- below is a preorder that contains equality, and Prop is below every sort
abbrev pub BelowIsReflexive : Type 0
BelowIsReflexive = (E : Env) (V : Values) (t : Term) → Below E V t t

abbrev pub BelowIsTransitive : Type 0
BelowIsTransitive = (E : Env) (V : Values) (t u w : Term) → Below E V t u → Below E V u w → Below E V t w

abbrev pub BelowHasEquality : Type 0
BelowHasEquality = (E : Env) (V : Values) (t u : Term) → Equal E V t u → Below E V t u

abbrev pub BelowHasProp : Type 0
BelowHasProp = (E : Env) (V : Values) (s : Sort) → Below E V (SortT Prop) (SortT s)

-- each name of an accepted environment has one declaration
abbrev pub AcceptedHasOneEach : Type 0
AcceptedHasOneEach = (E : Env) → IsAccepted E → OneEach E

-- and that stays so where a block's heads are kept besides
abbrev pub HeadsKeepOneEach : Type 0
HeadsKeepOneEach = (E : Env) (B : Block) → OneEach E → OneEach (env E.levels E.constraints (Heads B ∷ E.declarations))

-- where each name is declared once, an evaluation has one value and one number of nodes
abbrev pub EvaluationIsDetermined : Type 0
EvaluationIsDetermined = (E : Env) → OneEach E → (t v w : Term) (n m : ℕ) → Evaluates E t v n → Evaluates E t w m → (v ≡ w) × (n ≡ m)

-- a weak-head step is a step
abbrev pub WeakStepsAreSteps : Type 0
WeakStepsAreSteps = (E : Env) (V : Values) (t u : Term) → WeakStep E V t u → Step E V t u

-- so the weak-head normal form is equal to the term
abbrev pub WhnfIsEqual : Type 0
WhnfIsEqual = (E : Env) (V : Values) (t u : Term) → IsWhnf E V t u → Equal E V t u

-- where each name is declared once, a term has one weak-head step at most
abbrev pub WeakStepIsDetermined : Type 0
WeakStepIsDetermined = (E : Env) → OneEach E → (V : Values) (t u w : Term) → WeakStep E V t u → WeakStep E V t w → u ≡ w

-- and one weak-head normal form at most
abbrev pub WhnfIsDetermined : Type 0
WhnfIsDetermined = (E : Env) → OneEach E → (V : Values) (t u w : Term) → IsWhnf E V t u → IsWhnf E V t w → u ≡ w

-- a type is a bare type
abbrev pub TypesAreBare : Type 0
TypesAreBare = (E : Env) (c : Context) (t T : Term) → Types guarded E c t T → Types bare E c t T
