-- A step at the root keeps types: beta, zeta, constants and variables.
use Rattle.std.proofs.Common.{ℕ, zero, suc, ◌≡◌, [], Option, Some, None, refl, sym, ap, subst}
use Rattle.pc_terms.specs.declared.leaf.Name.{Name}
use Rattle.pc_terms.specs.Syntax.{Term, Rel, Lambda, LetIn, App, Const, put, substitute}
use Rattle.calculus_rules.specs.declared.declaration.Kept.{Kept}
use Rattle.calculus_rules.specs.declared.declaration.Kept.TheVariants.{Constant}
use Rattle.calculus_rules.specs.declared.entry.Entry.TheVariants.{Assumed, Defined}
use Rattle.calculus_rules.specs.Environment.{Env, KeepsConstant}
use Rattle.calculus_rules.specs.Context.{Context, values, value_at, type_at}
use Rattle.calculus_rules.specs.Conversion.{Equal, step, same, back, Below, equal}
use Rattle.calculus_rules.specs.Step.{zeta}
use Rattle.calculus_rules.specs.Typing.{bare, Types, conv}
use Rattle.calculus_rules.specs.Accepted.{IsAccepted}
use Rattle.calculus_rules.proofs.OneEach.{one_declaration}
use Rattle.calculus_rules.proofs.Spines.{one_item}
use Rattle.typing_laws.specs.Substituting.{Fits}
use Rattle.typing_laws.proofs.ClosedEnv.{ClosedEnv}
use Rattle.typing_laws.proofs.AcceptedClosed.{accepted_closed}
use Rattle.typing_laws.proofs.Generating.{of_rel, of_lambda, of_let_in, of_app, of_const}
use Rattle.typing_laws.proofs.RenamingAndPutting.{lifted_some, weaken_types}
use Rattle.typing_laws.proofs.MiddleEntries.{substitution, substitution_of_below}
use Rattle.typing_laws.proofs.Traversal.{types_at}
use Rattle.type_laws.specs.Contexts.{IsContext}
use Rattle.type_laws.proofs.Apart.{products_below}
use Rattle.type_laws.proofs.EnvironmentSorts.{constant_typed}
use Rattle.type_laws.proofs.Validity.{types_have_sorts}

-- a term of a type has each type above it that is some term's
pub carried : (E : Env) → IsAccepted E → (c : Context) (t u A T : Term) → IsContext E c → Types bare E c t T → Types bare E c u A → Below E (values c) A T → Types bare E c u T
carried E h c t u A T k d p b = let (s, q) = types_have_sorts E h c t T k d in conv p b q

-- what fits an assumed entry, and what fits a defined one
pub fits_assumed : {E : Env} {c : Context} {A a : Term} → Types bare E c a A → Fits E c (Assumed A) a
fits_assumed p = record { has_type = p; equals = λ b e. absurd (cc) }

pub fits_defined : {E : Env} {c : Context} {B b : Term} → Types bare E c b B → Fits E c (Defined b B) b
fits_defined {E} {c} {B} {b} p = record { has_type = p; equals = λ v e. subst (λ v. Equal E (values c) b v) (one_item e) same }

-- a lambda of a product type, and an argument of the product's domain: the argument has the lambda's domain, the body with it put in has the codomain
record OfBeta (E : Env) (c : Context) (A b a T : Term) : Type 0 where
  codomain : Term
  argument : Types bare E c a A
  contractum : Types bare E c (substitute (put a) b) codomain
  below : Below E (values c) codomain T

of_beta : (E : Env) → IsAccepted E → (c : Context) (A b a T : Term) → Types bare E c (App (Lambda A b) a) T → OfBeta E c A b a T
of_beta E h c A b a T d =
    let r = of_app d in
    let l = of_lambda r.function in
    let p = products_below E h (values c) A l.codomain r.domain r.codomain l.below in
    let argument = conv r.argument (equal (back p.domains)) l.domain in
    record {
      codomain = substitute (put a) l.codomain;
      argument = argument;
      contractum = substitution E h [] c (Assumed A) a b l.codomain (fits_assumed argument) l.body;
      below = Below.chain (substitution_of_below E h [] c (Assumed A) a l.codomain r.codomain (fits_assumed argument) p.codomains) r.below;
    }

pub beta_keeps : (E : Env) → IsAccepted E → (c : Context) (A b a T : Term) → IsContext E c → Types bare E c (App (Lambda A b) a) T → Types bare E c (substitute (put a) b) T
beta_keeps E h c A b a T k d =
    let r = of_beta E h c A b a T d in
    carried E h c (App (Lambda A b) a) (substitute (put a) b) r.codomain T k d r.contractum r.below

-- and the argument has the domain as its type
pub beta_argument : (E : Env) → IsAccepted E → (c : Context) (A b a T : Term) → IsContext E c → Types bare E c (App (Lambda A b) a) T → Types bare E c a A
beta_argument E h c A b a T k d = let r = of_beta E h c A b a T d in r.argument

pub zeta_keeps : (E : Env) → IsAccepted E → (c : Context) (b B t T : Term) → IsContext E c → Types bare E c (LetIn b B t) T → Types bare E c (substitute (put b) t) T
zeta_keeps E h c b B t T k d =
    let r = of_let_in d in
    carried E h c (LetIn b B t) (substitute (put b) t) (substitute (put b) r.codomain) T k d
    (substitution E h [] c (Defined b B) b t r.codomain (fits_defined r.value) r.body)
    (Below.chain (equal (back (step zeta))) r.below)

-- a name is kept with one type
type_in : Kept → Option Term
type_in (Constant k T b) = Some T
type_in _ = None

pub one_type : (E : Env) → IsAccepted E → (k : Name) (T U : Term) (b b' : Option Term) → KeepsConstant E k T b → KeepsConstant E k U b' → T ≡ U
unfolding type_in
one_type E h k T U b b' p q = one_item (ap type_in (one_declaration h.declarations p q refl))

pub constant_keeps : (E : Env) → IsAccepted E → (c : Context) (k : Name) (U b T : Term) → IsContext E c → KeepsConstant E k U (Some b) → Types bare E c (Const k) T → Types bare E c b T
constant_keeps E h c k U b T w q d =
    let r = of_const d in
    carried E h c (Const k) b U T w d (constant_typed E h c k U b q)
    (subst (λ X. Below E (values c) X T) (one_type E h k r.kept_type U r.body (Some b) r.kept q) r.below)

-- an entry's value has the entry's type, both lifted
value_typed : {E : Env} → ClosedEnv E → {c : Context} → IsContext E c → (i : ℕ) (v T : Term) → value_at (values c) i ≡ Some v → type_at c i ≡ Some T → Types bare E c v T
value_typed closed IsContext.empty i v T e e' = absurd (cc)
value_typed closed (IsContext.assume k s) zero v T e e' = absurd (cc)
value_typed closed (IsContext.assume {c = c} {A = A} k s) (suc i) v T e e' =
    let (u, eu, ev) = lifted_some (value_at (values c) i) v e in
    let (U, eU, eV) = lifted_some (type_at c i) T e' in
    types_at (sym ev) (sym eV) (weaken_types closed (value_typed closed k i u U eu eU) (Assumed A))
value_typed closed (IsContext.define {b = b} {B = B} k s p) zero v T e e' = types_at (one_item e) (one_item e') (weaken_types closed p (Defined b B))
value_typed closed (IsContext.define {c = c} {b = b} {B = B} k s p) (suc i) v T e e' =
    let (u, eu, ev) = lifted_some (value_at (values c) i) v e in
    let (U, eU, eV) = lifted_some (type_at c i) T e' in
    types_at (sym ev) (sym eV) (weaken_types closed (value_typed closed k i u U eu eU) (Defined b B))

pub variable_keeps : (E : Env) → IsAccepted E → (c : Context) (i : ℕ) (v T : Term) → IsContext E c → value_at (values c) i ≡ Some v → Types bare E c (Rel i) T → Types bare E c v T
variable_keeps E h c i v T k e d =
    let r = of_rel d in
    carried E h c (Rel i) v r.entry_type T k d (value_typed (accepted_closed E h) k i v r.entry_type e r.entry) r.below
