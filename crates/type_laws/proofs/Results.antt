-- What evaluation leaves: values, and values extended by values; and what a type of a closed application to several arguments tells of its function's type.
use Rattle.std.proofs.Common.{◌≡◌, ℕ, zero, suc, ◌+◌, ◌≤◌, List, [], ◌∷◌, ◌++◌, length, Some, refl, sym, ap, arith, slice_get}
use Rattle.universe_levels.specs.declared.sort.Sort.{Sort}
use Rattle.pc_terms.specs.declared.leaf.FamilyId.{FamilyId}
use Rattle.pc_terms.specs.Syntax.{Term, Terms, Rel, SortT, Prod, Lambda, App, Ind, Fix, overs, put, substitute, apply, term_at}
use Rattle.calculus_rules.specs.declared.entry.Entry.TheVariants.{Assumed}
use Rattle.calculus_rules.specs.Environment.{Env, FamilyDecl, KeepsFamily}
use Rattle.calculus_rules.specs.Context.{Context}
use Rattle.calculus_rules.specs.Conversion.{Below}
use Rattle.calculus_rules.specs.Instances.{products, entries_at, unfolded}
use Rattle.calculus_rules.specs.Evaluation.{IsValue, TakesMore, Evaluates, value, let_in, beta, extend, unfold_fix, enter}
use Rattle.calculus_rules.specs.Typing.{bare, Types, Recurses, recurses_here, recurses_later, Bodies, no_bodies, a_body}
use Rattle.calculus_rules.specs.Accepted.{IsAccepted}
use Rattle.trees.proofs.Put.{substitute_same}
use Rattle.trees.proofs.Fusion.{substitute-substitute}
use Rattle.typing_laws.proofs.AcceptedClosed.{accepted_closed}
use Rattle.typing_laws.proofs.Generating.{of_app, of_ind, of_fix, of_apply}
use Rattle.typing_laws.proofs.MiddleEntries.{substitution_of_below}
use Rattle.typing_laws.proofs.RenamingAndPutting.{putting_values, puts_one}
use Rattle.typing_laws.proofs.Telescopes.{entries_at_length}
use Rattle.typing_laws.proofs.Traversal.{below_at, substitute_recurses}
use Rattle.type_laws.specs.Contexts.{IsContext}
use Rattle.type_laws.proofs.Apart.{products_below, sort_not_product}
use Rattle.type_laws.proofs.EnvironmentSorts.{known_is_kept}
use Rattle.type_laws.proofs.Validity.{known_below}
use Rattle.type_laws.proofs.MatchTelescopes.{substitute-products}
use Rattle.type_laws.proofs.RootsKeep.{fits_assumed, beta_keeps, beta_argument}
use Rattle.type_laws.proofs.FixpointsKeep.{unfolded_typed, unfolded_recurses, head_replaced}

pub data IsResult (E : Env) : Term → Type 0 where
  plain : {v : Term} → IsValue v → IsResult E v
  extended : {g w : Term} → IsResult E g → IsResult E w → TakesMore E g → IsResult E (App g w)

pub result : {E : Env} {t v : Term} {n : ℕ} → Evaluates E t v n → IsResult E v
result (value i) = plain i
result (Evaluates.constant k e) = result e
result (let_in e e') = result e'
result (beta e e' e'') = result e''
result (extend e e' m) = extended (result e) (result e') m
result (unfold_fix e e' u e'') = result e''
result (enter e k b e') = result e'

-- the types of the closed term are above this one
abbrev pub AllAbove : Env → Term → Term → Type 0
AllAbove E t T = (U : Term) → Types bare E [] t U → Below E [] T U

applied : (E : Env) → IsAccepted E → (f a A B : Term) → AllAbove E f (Prod A B) → AllAbove E (App f a) (substitute (put a) B)
applied E h f a A B g U d =
    let r = of_app d in
    let p = products_below E h [] A B r.domain r.codomain (g (Prod r.domain r.codomain) r.function) in
    Below.chain (substitution_of_below E h [] [] (Assumed r.domain) a B r.codomain (fits_assumed r.argument) p.codomains) r.below

-- what is left of the products of an application's function: the entries that have no argument yet, and the end
pub record Rest (E : Env) (n m : ℕ) (R T : Term) : Type 0 where
  pub entries : List Term
  pub puts : ℕ → Term
  pub count : length entries + n ≡ m
  pub below : Below E [] (products entries (substitute puts R)) T

pub rest : (E : Env) → IsAccepted E → (xs As : List Term) (f R T : Term) → AllAbove E f (products As R) → length xs ≤ length As → Types bare E [] (apply f xs) T →
    Rest E (length xs) (length As) R T
rest E h [] As f R T g l d = record { entries = As; puts = Rel; count = omega arith; below = below_at (ap (products As) (sym (substitute_same R))) refl (g T d) }
rest E h (x ∷ xs) [] f R T g l d = absurd (omega arith)
rest E h (x ∷ xs) (A ∷ As) f R T g l d =
    let e = entries_at_length (put x) As in
    let r = rest E h xs (entries_at (put x) As) (App f x) (substitute (overs (length As) (put x)) R) T
    (λ U k. below_at (substitute-products As (put x) R) refl (applied E h f x A (products As R) g U k)) (omega arith) d in
    let q = r.count in
    record {
      entries = r.entries;
      puts = λ j. substitute r.puts (overs (length As) (put x) j);
      count = omega arith;
      below = below_at (ap (products r.entries) (substitute-substitute R (overs (length As) (put x)) r.puts)) refl r.below;
    }

-- a function whose products end in a sort has no more arguments than these, and what is left ends in the sort
pub arity_rest : (E : Env) → IsAccepted E → (xs As : List Term) (f : Term) (s : Sort) (T : Term) → AllAbove E f (products As (SortT s)) → Types bare E [] (apply f xs) T →
    (Bs : List Term) × Below E [] (products Bs (SortT s)) T
arity_rest E h [] As f s T g d = (As, g T d)
arity_rest E h (x ∷ xs) [] f s T g d =
    let r = of_app (of_apply xs (App f x) d).1 in
    absurd (sort_not_product E h [] r.domain r.codomain s (g (Prod r.domain r.codomain) r.function))
arity_rest E h (x ∷ xs) (A ∷ As) f s T g d =
    arity_rest E h xs (entries_at (put x) As) (App f x) s T
    (λ U k. below_at (substitute-products As (put x) (SortT s)) refl (applied E h f x A (products As (SortT s)) g U k)) d

-- what is left of a family's products
pub family_rest : (E : Env) → IsAccepted E → (f : FamilyId) (xs : List Term) (T : Term) → Types bare E [] (apply (Ind f) xs) T →
    (F : FamilyDecl) × (Bs : List Term) × KeepsFamily E f F × Below E [] (products Bs (SortT F.sort)) T
family_rest E h f xs T d =
    let r = of_ind (of_apply xs (Ind f) d).1 in
    let k = known_is_kept E h f r.family r.known in
    let (Bs, b) = arity_rest E h xs (r.family.parameters ++ r.family.indices) (Ind f) r.family.sort T (λ U. known_below E h [] f r.family U k) d in
    (r.family, Bs, k, b)

-- fixpoints

-- a typed fixpoint has a body
bodies_at : {E : Env} {c : Context} {n : ℕ} {rargs : List ℕ} {types bodies : Terms} → Bodies bare E c n rargs types bodies → (i : ℕ) {k : ℕ} {T : Term} → term_at types i ≡ Some (k, T) →
    (rarg : ℕ) × (body : Term) × (slice_get rargs i ≡ Some rarg) × (term_at bodies i ≡ Some (n, body))
bodies_at no_bodies i e = absurd (cc)
bodies_at (a_body {rarg = r} {body = b} p d ds) zero e = (r, b, refl, refl)
bodies_at (a_body p d ds) (suc i) e = bodies_at ds i e

pub fixpoint_body : {E : Env} {i : ℕ} {rargs : List ℕ} {types bodies : Terms} {T : Term} → Types bare E [] (Fix i rargs types bodies) T →
    (rarg : ℕ) × (body : Term) × (slice_get rargs i ≡ Some rarg) × (term_at bodies i ≡ Some (length rargs, body))
fixpoint_body {i = i} d = let r = of_fix d in bodies_at r.bodies_fit i r.at

-- a term that begins with the lambdas of a recursive argument, after arguments that are put in: as many lambdas are left
pub record Reduced (E : Env) (n r : ℕ) (ys : List Term) (T : Term) : Type 0 where
  pub reduct : Term
  pub left : ℕ
  pub count : left + n ≡ r
  pub recurses : Recurses E [] left reduct
  pub typed : Types bare E [] (apply reduct ys) T

pub reduced : (E : Env) → IsAccepted E → (xs ys : List Term) {r : ℕ} {t : Term} (T : Term) → Recurses E [] r t → length xs ≤ r → Types bare E [] (apply t (xs ++ ys)) T →
    Reduced E (length xs) r ys T
reduced E h [] ys {r} {t} T p l d = record { reduct = t; left = r; count = omega arith; recurses = p; typed = d }
reduced E h (x ∷ xs) ys T (recurses_here f zs e) l d = absurd (omega arith)
reduced E h (x ∷ xs) ys T (recurses_later {r = r} {A = A} {b = b} p) l d =
    let a = beta_argument E h [] A b x _ IsContext.empty (of_apply (xs ++ ys) (App (Lambda A b) x) d).1 in
    let k = reduced E h xs ys T (substitute_recurses (putting_values E (accepted_closed E h)) (accepted_closed E h) p (put x) [] (puts_one (fits_assumed a)).at_values) (omega arith)
    (head_replaced E h [] (App (Lambda A b) x) (substitute (put x) b) (xs ++ ys) T (λ U q. beta_keeps E h [] A b x U IsContext.empty q) d) in
    let e = k.count in
    record { reduct = k.reduct; left = k.left; count = omega arith; recurses = k.recurses; typed = k.typed }

-- so of a fixpoint with its first arguments
pub fixpoint_reduced : (E : Env) → IsAccepted E → (i rarg : ℕ) (rargs : List ℕ) (types bodies : Terms) (xs ys : List Term) (T : Term) → slice_get rargs i ≡ Some rarg →
    length xs ≤ rarg → Types bare E [] (apply (Fix i rargs types bodies) (xs ++ ys)) T → Reduced E (length xs) rarg ys T
fixpoint_reduced E h i rarg rargs types bodies xs ys T e l d =
    let (U, q) = of_apply (xs ++ ys) (Fix i rargs types bodies) d in
    let (_, body, _, b) = fixpoint_body q in
    reduced E h xs ys T (unfolded_recurses E h [] i rarg rargs types bodies body U IsContext.empty e b q) l
    (head_replaced E h [] (Fix i rargs types bodies) (unfolded rargs types bodies body) (xs ++ ys) T (λ W w. unfolded_typed E h [] i rargs types bodies body W IsContext.empty b w) d)
