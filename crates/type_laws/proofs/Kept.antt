-- A step of a part keeps the types of the whole: products, lambdas, lets and applications.
use Rattle.std.specs.Prelude.{ℕ, zero, suc, ◌≡◌, List, [], ◌∷◌, Option, Some, None, length}
use Rattle.std.proofs.Common.{sym, ap, ◌∙◌, subst}
use Rattle.pc_terms.specs.Syntax.{Slot, Children, Term, Terms, Next, Prod, Lambda, LetIn, App}
use Rattle.calculus_rules.specs.declared.entry.Entry.TheVariants.{Assumed, Defined}
use Rattle.calculus_rules.specs.Environment.{Env}
use Rattle.calculus_rules.specs.Context.{Context, Values, values, value_at, lifted, under, extend}
use Rattle.calculus_rules.specs.Conversion.{Equal, Below, same, back, inside, let_body, end, and, equal}
use Rattle.calculus_rules.specs.Conversion as conversion
use Rattle.calculus_rules.specs.Step.{Root, Step, StepIn, StepTerms}
use Rattle.calculus_rules.specs.Step as steps
use Rattle.calculus_rules.specs.Typing.{bare, Types, prod, lambda, let_in, app, conv}
use Rattle.calculus_rules.specs.Accepted.{IsAccepted}
use Rattle.calculus_rules.proofs.Congruence.{step_equal}
use Rattle.typing_laws.proofs.RenamingAndPutting.{lifted_some}
use Rattle.typing_laws.proofs.Generating.{of_prod, of_lambda, of_let_in, of_app}
use Rattle.type_laws.specs.Contexts.{HasSort, IsContext, assume, define}
use Rattle.equality_laws.specs.Laws.{no_terms, a_term}
use Rattle.type_laws.proofs.ContextConversion.{ContextBelow, context_same, types_in}
use Rattle.type_laws.proofs.ContextConversion as below
use Rattle.type_laws.proofs.Spines.{put_equal}
use Rattle.type_laws.proofs.Validity.{types_have_sorts}
use Rattle.calculus_rules.proofs.Telescopes.{under_none}

-- each type of the first term is one of the second
abbrev pub Kept : Env → Context → Term → Term → Type 0
Kept E c t u = (T : Term) → Types bare E c t T → Types bare E c u T

-- the first have each value of the second
pub data Covers : Values → Values → Type 0 where
  covers_none : Covers [] []
  covers_same : {o : Option Term} {W V : Values} → Covers W V → Covers (o ∷ W) (o ∷ V)
  covers_given : {b : Term} {W V : Values} → Covers W V → Covers (Some b ∷ W) (None ∷ V)

pub covers_all : (V : Values) → Covers V V
covers_all [] = covers_none
covers_all (o ∷ V) = covers_same (covers_all V)

pub covers_under : {W V : Values} → Covers W V → (n : ℕ) → Covers (under n W) (under n V)
covers_under w zero = w
covers_under w (suc n) = covers_same (covers_under w n)

-- also with a telescope's entries before them
pub covers_extend : (As : List Term) (c : Context) {V : Values} → Covers (values c) V → Covers (values (extend c As)) (under (length As) V)
covers_extend [] c w = w
covers_extend (A ∷ As) c {V} w = subst (Covers (values (extend (Assumed A ∷ c) As))) (under_none (length As) V) (covers_extend As (Assumed A ∷ c) (covers_same w))

lifted_more : {o o' : Option Term} {v : Term} → ((u : Term) → o ≡ Some u → o' ≡ Some u) → lifted o ≡ Some v → lifted o' ≡ Some v
lifted_more {o} {o'} {v} g e = let (u, q, l) = lifted_some o v e in ap lifted (g u q) ∙ ap Some (sym l)

value_covered : {W V : Values} → Covers W V → (i : ℕ) (v : Term) → value_at V i ≡ Some v → value_at W i ≡ Some v
value_covered covers_none i v e = e
value_covered (covers_same w) zero v e = e
value_covered (covers_same w) (suc i) v e = lifted_more (value_covered w i) e
value_covered (covers_given w) zero v e = absurd (cc)
value_covered (covers_given w) (suc i) v e = lifted_more (value_covered w i) e

pub root_covered : {E : Env} {W V : Values} {t u : Term} → Covers W V → Root E V t u → Root E W t u
root_covered w steps.beta = steps.beta
root_covered w steps.zeta = steps.zeta
root_covered w (steps.constant k) = steps.constant k
root_covered w (steps.variable {i = i} {v = v} e) = steps.variable (value_covered w i v e)
root_covered w (steps.matched q e l) = steps.matched q e l
root_covered w (steps.fixpoint i rargs types bodies before r l q e g) = steps.fixpoint i rargs types bodies before r l q e g

mutual
  pub step_covered : {E : Env} {W V : Values} {t u : Term} → Covers W V → Step E V t u → Step E W t u
  step_covered w (steps.root r) = steps.root (root_covered w r)
  step_covered w (steps.inside p) = steps.inside (step_in_covered w p)
  step_covered w (steps.let_body p) = steps.let_body (step_covered (covers_same w) p)

  step_in_covered : {E : Env} {W V : Values} {ss : List Slot} {ts us : Children ss} → Covers W V → StepIn E V ss ts us → StepIn E W ss ts us
  step_in_covered w (steps.in_child {n = n} p) = steps.in_child (step_covered (covers_under w n) p)
  step_in_covered w (steps.in_group p) = steps.in_group (step_terms_covered w p)
  step_in_covered w (steps.past_child p) = steps.past_child (step_in_covered w p)
  step_in_covered w (steps.past_group p) = steps.past_group (step_in_covered w p)

  step_terms_covered : {E : Env} {W V : Values} {ts us : Terms} → Covers W V → StepTerms E V ts us → StepTerms E W ts us
  step_terms_covered w (steps.in_first {n = n} p) = steps.in_first (step_covered (covers_under w n) p)
  step_terms_covered w (steps.in_rest p) = steps.in_rest (step_terms_covered w p)

pub equal_covered : {E : Env} {W V : Values} {t u : Term} → Covers W V → Step E V t u → Equal E W t u
equal_covered w p = step_equal (step_covered w p)

-- a step keeps types, in each context whose values cover its own
abbrev pub Keeps : Env → Values → Term → Term → Type 0
Keeps E V t u = (c : Context) → Covers (values c) V → IsContext E c → Kept E c t u

-- a step in a list of terms, that keeps types
pub data KeptTerms (E : Env) (V : Values) : Terms → Terms → Type 0 where
  kept_first : {n : ℕ} {t u : Term} {ts : Terms} → Step E (under n V) t u → Keeps E (under n V) t u → KeptTerms E V (Next n t ts) (Next n u ts)
  kept_rest : {n : ℕ} {t : Term} {ts us : Terms} → KeptTerms E V ts us → KeptTerms E V (Next n t ts) (Next n t us)

-- a term whose type is below a type of another term has that type too, since it has a sort
pub retyped : {E : Env} → IsAccepted E → {c : Context} {t u T W : Term} → IsContext E c → Types bare E c t T → Types bare E c u W → Below E (values c) W T → Types bare E c u T
retyped {E} h {c} {t} {u} {T} k d p b = conv p b (types_have_sorts E h c t T k d).1

pub equal_below : {E : Env} {V : Values} {T U W : Term} → Equal E V T U → Below E V T W → Below E V U W
equal_below e b = conversion.chain (equal (back e)) b

-- a context whose innermost entry is replaced by an equal one

assumed_in : {E : Env} → IsAccepted E → {c : Context} {A A' : Term} → IsContext E c → Equal E (values c) A A' → HasSort E c A → ContextBelow E (Assumed A' ∷ c) (Assumed A ∷ c)
assumed_in {E} h {c} k e s = below.assume (context_same E h c k) (equal (back e)) s

defined_in : {E : Env} → IsAccepted E → {c : Context} {b b' B B' : Term} → IsContext E c → Equal E (values c) b b' → Equal E (values c) B B' → HasSort E c B →
    ContextBelow E (Defined b' B' ∷ c) (Defined b B ∷ c)
defined_in {E} h {c} k e f s = below.define (context_same E h c k) (back e) (equal (back f)) s

-- products

pub product_domain : {E : Env} → IsAccepted E → {c : Context} {A A' B : Term} → IsContext E c → Equal E (values c) A A' → Kept E c A A' → Kept E c (Prod A B) (Prod A' B)
product_domain {E} h {B = B} k e keep T d =
    let g = of_prod d in
    retyped h k d (prod (keep _ g.domain) (types_in E h _ _ B _ (assumed_in h k e (g.domain_sort, g.domain)) g.codomain)) g.below

pub product_codomain : {E : Env} → IsAccepted E → {c : Context} {A B B' : Term} → IsContext E c → (IsContext E (Assumed A ∷ c) → Kept E (Assumed A ∷ c) B B') →
    Kept E c (Prod A B) (Prod A B')
product_codomain h k keep T d =
    let g = of_prod d in
    retyped h k d (prod g.domain (keep (assume k (g.domain_sort, g.domain)) _ g.codomain)) g.below

-- lambdas

pub lambda_domain : {E : Env} → IsAccepted E → {c : Context} {A A' b : Term} → IsContext E c → Equal E (values c) A A' → Kept E c A A' → Kept E c (Lambda A b) (Lambda A' b)
lambda_domain {E} h {b = b} k e keep T d =
    let g = of_lambda d in
    retyped h k d (lambda (keep _ g.domain) (types_in E h _ _ b _ (assumed_in h k e (g.sort, g.domain)) g.body)) (equal_below (inside (and e (and same end))) g.below)

pub lambda_body : {E : Env} → IsAccepted E → {c : Context} {A b b' : Term} → IsContext E c → (IsContext E (Assumed A ∷ c) → Kept E (Assumed A ∷ c) b b') →
    Kept E c (Lambda A b) (Lambda A b')
lambda_body h k keep T d =
    let g = of_lambda d in
    retyped h k d (lambda g.domain (keep (assume k (g.sort, g.domain)) _ g.body)) g.below

-- lets

pub let_value : {E : Env} → IsAccepted E → {c : Context} {b b' B t : Term} → IsContext E c → Equal E (values c) b b' → Kept E c b b' → Kept E c (LetIn b B t) (LetIn b' B t)
let_value {E} h {b = b} {b' = b'} {B = B} {t = t} k e keep T d =
    let g = of_let_in d in
    retyped h k d (let_in g.domain (keep _ g.value) (types_in E h _ _ t _ (defined_in h k e same (g.sort, g.domain)) g.body))
    (equal_below (inside (and e (and same (and same end)))) g.below)

pub let_type : {E : Env} → IsAccepted E → {c : Context} {b B B' t : Term} → IsContext E c → Equal E (values c) B B' → Kept E c B B' → Kept E c (LetIn b B t) (LetIn b B' t)
let_type {E} h {t = t} k e keep T d =
    let g = of_let_in d in
    let B'_sorted = keep _ g.domain in
    retyped h k d (let_in B'_sorted (conv g.value (equal e) B'_sorted) (types_in E h _ _ t _ (defined_in h k same e (g.sort, g.domain)) g.body))
    (equal_below (inside (and same (and e (and same end)))) g.below)

pub let_inner : {E : Env} → IsAccepted E → {c : Context} {b B t t' : Term} → IsContext E c → (IsContext E (Defined b B ∷ c) → Kept E (Defined b B ∷ c) t t') →
    Kept E c (LetIn b B t) (LetIn b B t')
let_inner h k keep T d =
    let g = of_let_in d in
    retyped h k d (let_in g.domain g.value (keep (define k (g.sort, g.domain) g.value) _ g.body)) g.below

-- applications

pub app_function : {E : Env} → IsAccepted E → {c : Context} {f f' a : Term} → IsContext E c → Kept E c f f' → Kept E c (App f a) (App f' a)
app_function h k keep T d =
    let g = of_app d in
    retyped h k d (app (keep _ g.function) g.argument) g.below

pub app_argument : {E : Env} → IsAccepted E → {c : Context} {f a a' : Term} → IsContext E c → Equal E (values c) a a' → Kept E c a a' → Kept E c (App f a) (App f a')
app_argument {E} h {c} {a = a} {a' = a'} k e keep T d =
    let g = of_app d in
    retyped h k d (app g.function (keep _ g.argument)) (equal_below (put_equal E h c (a ∷ []) (a' ∷ []) g.codomain (a_term e no_terms)) g.below)
