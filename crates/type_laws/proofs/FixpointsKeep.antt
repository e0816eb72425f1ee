-- A fixpoint unfolds to a body of its types.
use Rattle.std.proofs.Common.{ℕ, zero, suc, ◌+◌, ◌≡◌, List, [], ◌∷◌, Some, length, slice_get, refl, sym, ap, ◌∙◌, subst, arith}
use mathlib.Core.Path.{fun_ext}
use Rattle.pc_terms.specs.Syntax.{Term, Terms, Rel, App, Fix, substitute, shift, first, put_all, apply, number, term_at}
use Rattle.calculus_rules.specs.Environment.{Env}
use Rattle.calculus_rules.specs.Context.{Context, values}
use Rattle.calculus_rules.specs.Instances.{definitions, fixpoints, unfolded}
use Rattle.calculus_rules.specs.Typing.{bare, Types, app, fix, conv, Recurses, Sorts, no_types, a_type, Bodies, no_bodies, a_body}
use Rattle.calculus_rules.specs.Accepted.{IsAccepted}
use Rattle.calculus_rules.proofs.Spines.{one_item}
use Rattle.trees.proofs.Fusion.{substitute-rename}
use Rattle.trees.proofs.Cutoffs.{put_all-past}
use Rattle.trees.proofs.Put.{substitute_same}
use Rattle.typing_laws.specs.TypedParts.{OfFix}
use Rattle.typing_laws.proofs.AcceptedClosed.{accepted_closed}
use Rattle.typing_laws.proofs.ClosedTypes.{fixpoints_length}
use Rattle.typing_laws.proofs.Generating.{of_fix}
use Rattle.typing_laws.proofs.Traversal.{types_at, substitute_types, substitute_recurses}
use Rattle.typing_laws.proofs.RenamingAndPutting.{PutsEntries, putting, putting_values}
use Rattle.typing_laws.proofs.PuttingAll.{puts_first, puts_none}
use Rattle.type_laws.specs.Contexts.{IsContext}
use Rattle.type_laws.proofs.RootsKeep.{carried}

-- the body at a place has the type there, and recurses
body_at : {E : Env} {c : Context} {n : ℕ} {rargs : List ℕ} {types bodies : Terms} → Bodies bare E c n rargs types bodies → (i m : ℕ) (T body : Term) →
    term_at types i ≡ Some (0, T) → term_at bodies i ≡ Some (m, body) → Types bare E c body (shift n 0 T)
body_at no_bodies i m T body e e' = absurd (cc)
body_at (a_body {n = n} {T = U} {body = b} r p ps) zero m T body e e' =
    let q : b ≡ body = grind arith in
    let q' : U ≡ T = grind arith in
    types_at q (ap (shift n 0) q') p
body_at (a_body r p ps) (suc i) m T body e e' = body_at ps i m T body e e'

recursing_at : {E : Env} {c : Context} {n : ℕ} {rargs : List ℕ} {types bodies : Terms} → Bodies bare E c n rargs types bodies → (i m rarg : ℕ) (body : Term) →
    slice_get rargs i ≡ Some rarg → term_at bodies i ≡ Some (m, body) → Recurses E (values c) rarg body
recursing_at no_bodies i m rarg body e e' = absurd (cc)
recursing_at {E} {c} (a_body {rarg = k} {body = b} r p ps) zero m rarg body e e' =
    let q : b ≡ body = grind arith in
    subst (λ k. Recurses E (values c) k body) (one_item e) (subst (λ b. Recurses E (values c) k b) q r)
recursing_at (a_body r p ps) (suc i) m rarg body e e' = recursing_at ps i m rarg body e e'

-- s undoes a lift by n
abbrev pub Undoes : ℕ → (ℕ → Term) → Type 0
Undoes n s = (i : ℕ) → s (n + i) ≡ Rel i

-- so it does on each term
pub undoes_shift : (n : ℕ) (s : ℕ → Term) (T : Term) → Undoes n s → substitute s (shift n 0 T) ≡ T
undoes_shift n s T u = substitute-rename T (λ i. n + i) s ∙ ap (λ s. substitute s T) (fun_ext u) ∙ substitute_same T

-- and with one more term put in it undoes one more
pub undoes_first : (n : ℕ) (s : ℕ → Term) (a : Term) → Undoes n s → Undoes (suc n) (first a s)
undoes_first n s a u i = let e : suc n + i ≡ suc (n + i) = omega arith in ap (first a s) e ∙ u i

-- the fixpoints from number n on have the types of their definitions, and are put in for them
definitions_put : {E : Env} (rargs : List ℕ) (types bodies : Terms) {c d : Context} {n : ℕ} {ts : Terms} → Sorts bare E c n ts → {s : ℕ → Term} → PutsEntries E s c d → Undoes n s →
    ((j : ℕ) (T : Term) → term_at ts j ≡ Some (0, T) → Types bare E d (Fix (n + j) rargs types bodies) T) →
    PutsEntries E (put_all (fixpoints n (number ts) rargs types bodies) s) (definitions c n ts) d
definitions_put rargs types bodies no_types g u h = g
definitions_put {E} rargs types bodies {d = d} (a_type {n = n} {T = T} {ts = ts} p ps) {s} g u h =
    definitions_put rargs types bodies ps
    (puts_first g (types_at (ap (λ i. Fix i rargs types bodies) zero_right) (sym (undoes_shift n s T u)) (h zero T refl))) (undoes_first n s (Fix n rargs types bodies) u) later
  where
    zero_right : n + 0 ≡ n
    zero_right = omega arith

    later : (j : ℕ) (T : Term) → term_at ts j ≡ Some (0, T) → Types bare E d (Fix (suc n + j) rargs types bodies) T
    later j T e =
        let q : n + suc j ≡ suc n + j = omega arith in
        types_at (ap (λ i. Fix i rargs types bodies) q) refl (h (suc j) T e)

-- all fixpoints of typed definitions
fixpoints_put : {E : Env} {c : Context} {i : ℕ} {rargs : List ℕ} {types bodies : Terms} {T : Term} → OfFix bare E c i rargs types bodies T →
    PutsEntries E (put_all (fixpoints 0 (length rargs) rargs types bodies) Rel) (definitions c 0 types) c
fixpoints_put {E} {c} {rargs = rargs} {types = types} {bodies = bodies} r =
    subst (λ n. PutsEntries E (put_all (fixpoints 0 n rargs types bodies) Rel) (definitions c 0 types) c) r.count
    (definitions_put rargs types bodies r.sorts (puts_none c) none each)
  where
    zero_left : (n : ℕ) → 0 + n ≡ n
    zero_left n = omega arith

    none : Undoes 0 Rel
    none i = ap Rel (zero_left i)

    each : (j : ℕ) (T : Term) → term_at types j ≡ Some (0, T) → Types bare E c (Fix (0 + j) rargs types bodies) T
    each j T e = types_at (ap (λ j. Fix j rargs types bodies) (sym (zero_left j))) refl (fix r.count e r.sorts r.bodies_fit tt)

pub unfolded_typed : (E : Env) → IsAccepted E → (c : Context) (i : ℕ) (rargs : List ℕ) (types bodies : Terms) (body T : Term) → IsContext E c →
    term_at bodies i ≡ Some (length rargs, body) → Types bare E c (Fix i rargs types bodies) T → Types bare E c (unfolded rargs types bodies body) T
unfolded_typed E h c i rargs types bodies body T k e d =
    let r = of_fix d in
    carried E h c (Fix i rargs types bodies) (unfolded rargs types bodies body) r.written T k d
    (types_at refl (undoes_shift (length rargs) s r.written undone)
    (substitute_types (putting E (accepted_closed E h)) (accepted_closed E h) (body_at r.bodies_fit i (length rargs) r.written body r.at e) s c (fixpoints_put r)))
    r.below
  where
    s : ℕ → Term
    s = put_all (fixpoints 0 (length rargs) rargs types bodies) Rel

    undone : Undoes (length rargs) s
    undone = subst (λ n. Undoes n s) (fixpoints_length 0 (length rargs) rargs types bodies) (put_all-past (fixpoints 0 (length rargs) rargs types bodies) Rel)

-- and still begins with the lambdas of its recursive argument
pub unfolded_recurses : (E : Env) → IsAccepted E → (c : Context) (i rarg : ℕ) (rargs : List ℕ) (types bodies : Terms) (body T : Term) → IsContext E c →
    slice_get rargs i ≡ Some rarg → term_at bodies i ≡ Some (length rargs, body) → Types bare E c (Fix i rargs types bodies) T → Recurses E (values c) rarg (unfolded rargs types bodies body)
unfolded_recurses E h c i rarg rargs types bodies body T k l e d =
    let r = of_fix d in
    let g = fixpoints_put r in
    substitute_recurses (putting_values E (accepted_closed E h)) (accepted_closed E h) (recursing_at r.bodies_fit i (length rargs) rarg body l e)
    (put_all (fixpoints 0 (length rargs) rargs types bodies) Rel) (values c) g.at_values

-- an application whose function is replaced by one that has all its types has all its own
app_replaced : {E : Env} {c : Context} {f g a : Term} → ((U : Term) → Types bare E c f U → Types bare E c g U) → {T : Term} → Types bare E c (App f a) T → Types bare E c (App g a) T
app_replaced k (app {A = A} {B = B} p q) = app (k _ p) q
app_replaced k (conv p b q) = conv (app_replaced k p) b q

-- a head replaced by one that has all its types
pub head_replaced : (E : Env) → IsAccepted E → (c : Context) (f g : Term) (xs : List Term) (T : Term) → ((U : Term) → Types bare E c f U → Types bare E c g U) →
    Types bare E c (apply f xs) T → Types bare E c (apply g xs) T
head_replaced E h c f g [] T k d = k T d
head_replaced E h c f g (a ∷ xs) T k d = head_replaced E h c (App f a) (App g a) xs T (λ U p. app_replaced k p) d
