-- A step in a type or a body of a fixpoint keeps its types.
use Rattle.std.specs.Prelude.{ℕ, zero, suc, ◌+◌, ◌≡◌, List, ◌∷◌, Some, None, length}
use Rattle.std.proofs.Common.{refl, ap, ◌∙◌, subst, arith}
use Rattle.pc_terms.specs.Syntax.{Term, Terms, Done, Next, SortT, Fix, number, term_at, shift}
use Rattle.calculus_rules.specs.declared.entry.Entry.TheVariants.{Assumed}
use Rattle.calculus_rules.specs.Environment.{Env}
use Rattle.calculus_rules.specs.Context.{Context, Values, values, under}
use Rattle.calculus_rules.specs.Instances.{definitions}
use Rattle.calculus_rules.specs.Conversion.{Equal, same, back, chain, equal}
use Rattle.calculus_rules.specs.Step.{Step, root, inside, in_child, past_child}
use Rattle.calculus_rules.specs.Typing.{bare, fix, conv, Sorts, no_types, a_type, Bodies, no_bodies, a_body, Recurses, recurses_here, recurses_later}
use Rattle.calculus_rules.specs.Accepted.{IsAccepted}
use Rattle.calculus_rules.proofs.Congruence.{step_equal}
use Rattle.typing_laws.specs.TypedParts.{OfFix}
use Rattle.typing_laws.proofs.Generating.{of_fix}
use Rattle.type_laws.specs.Contexts.{HasSort, IsContext, assume}
use Rattle.type_laws.proofs.ContextConversion.{ContextBelow, context_same, types_in}
use Rattle.type_laws.proofs.ContextConversion as below
use Rattle.type_laws.proofs.Validity.{types_have_sorts}
use Rattle.type_laws.proofs.Over.{Over, over_none, over_one, over_sorted, over_equal}
use Rattle.type_laws.proofs.Kept.{Kept, KeptTerms, kept_first, kept_rest, Covers, covers_same, step_covered, equal_covered, retyped, equal_below}
use Rattle.calculus_rules.proofs.Telescopes.{under_none}

over_definitions : {c : Context} (ts : Terms) {d : Context} {n : ℕ} → Over c n d → (m : ℕ) → number ts + n ≡ m → Over c m (definitions d n ts)
over_definitions {c} Done {d} o m e = subst (λ n. Over c n d) (let z : 0 + _ ≡ m = e in omega arith) o
over_definitions (Next j T ts) {n = n} o m e = over_definitions ts (over_one o (Assumed (shift n 0 T))) m (omega arith)

definitions_context : {E : Env} {c : Context} {n : ℕ} {ts : Terms} → IsContext E c → Sorts bare E c n ts → IsContext E (definitions c n ts)
definitions_context k no_types = k
definitions_context k (a_type {s = s} p ps) = definitions_context (assume k (s, p)) ps

-- types and equal ones, all of which have sorts

data TypesAlong (E : Env) (c : Context) : Terms → Terms → Type 0 where
  none_along : TypesAlong E c Done Done
  one_along : {T T' : Term} {ts ts' : Terms} → HasSort E c T → HasSort E c T' → Equal E (values c) T T' → TypesAlong E c ts ts' → TypesAlong E c (Next 0 T ts) (Next 0 T' ts')

EachSorted : Env → Context → Terms → Type 0
EachSorted E c ts = (i : ℕ) (T : Term) → term_at ts i ≡ Some (0, T) → HasSort E c T

same_along : {E : Env} {c d : Context} {n : ℕ} {ts : Terms} → Sorts bare E d n ts → EachSorted E c ts → TypesAlong E c ts ts
unfolding EachSorted
same_along no_types g = none_along
same_along (a_type {T = T} p ps) g = one_along (g 0 T refl) (g 0 T refl) same (same_along ps (λ i. g (suc i)))

types_along : {E : Env} {V : Values} {c d : Context} {n : ℕ} {ts ts' : Terms} → IsContext E c → Covers (values c) V → Sorts bare E d n ts → EachSorted E c ts → KeptTerms E V ts ts' →
    TypesAlong E c ts ts'
unfolding EachSorted
types_along k w no_types g q = elim q [ ]
types_along {c = c} k w (a_type {T = T} p ps) g (kept_first q keep) =
    let s = g 0 T refl in
    one_along s (s.0, keep c w k (SortT s.0) s.1) (equal_covered w q) (same_along ps (λ i. g (suc i)))
types_along k w (a_type {T = T} p ps) g (kept_rest q) = one_along (g 0 T refl) (g 0 T refl) same (types_along k w ps (λ i. g (suc i)) q)

sorts_along : {E : Env} → IsAccepted E → {c : Context} {ts ts' : Terms} → TypesAlong E c ts ts' → {d : Context} {n : ℕ} → Over c n d → Sorts bare E d n ts'
sorts_along h none_along o = no_types
sorts_along h (one_along s s' e es) o = a_type (over_sorted h o s').1 (sorts_along h es (over_one o _))

context_along : {E : Env} → IsAccepted E → {c : Context} {ts ts' : Terms} → TypesAlong E c ts ts' → {d d' : Context} {n : ℕ} → Over c n d' → ContextBelow E d' d →
    ContextBelow E (definitions d' n ts') (definitions d n ts)
context_along h none_along o b = b
context_along h (one_along s s' e es) o b = context_along h es (over_one o _) (below.assume b (equal (over_equal h o (back e))) (over_sorted h o s))

values_along : {E : Env} {c : Context} {ts ts' : Terms} → TypesAlong E c ts ts' → (d d' : Context) (n : ℕ) → values d ≡ values d' → values (definitions d n ts) ≡ values (definitions d' n ts')
values_along none_along d d' n e = e
values_along (one_along s s' p es) d d' n e = values_along es (_ ∷ d) (_ ∷ d') (suc n) (ap (◌∷◌ None) e)

bodies_along : {E : Env} → IsAccepted E → {c d d' : Context} {n : ℕ} {rargs : List ℕ} {ts ts' bodies : Terms} → TypesAlong E c ts ts' → Over c n d' → ContextBelow E d' d → values d ≡ values d' →
    Bodies bare E d n rargs ts bodies → Bodies bare E d' n rargs ts' bodies
bodies_along h none_along o b v no_bodies = no_bodies
bodies_along {E} h {d = d} {d' = d'} (one_along s s' e es) o b v (a_body {rarg = r} {body = body} q p ps) =
    a_body (subst (λ V. Recurses E V r body) v q) (conv (types_in E h d d' body _ b p) (equal (over_equal h o e)) (over_sorted h o s').1) (bodies_along h es o b v ps)

number_along : {E : Env} {c : Context} {ts ts' : Terms} → TypesAlong E c ts ts' → number ts' ≡ number ts
number_along none_along = refl
number_along (one_along s s' e es) = ap suc (number_along es)

record TypeAlong (E : Env) (c : Context) (ts' : Terms) (i : ℕ) (T : Term) : Type 0 where
  written : Term
  at : term_at ts' i ≡ Some (0, written)
  equals : Equal E (values c) T written

at_along : {E : Env} {c : Context} {ts ts' : Terms} → TypesAlong E c ts ts' → (i : ℕ) (T : Term) → term_at ts i ≡ Some (0, T) → TypeAlong E c ts' i T
at_along none_along i T e = absurd (cc)
at_along {E} {c} (one_along {T = U} {T' = U'} s s' p es) zero T e =
    let q : U ≡ T = grind arith in
    record { written = U'; at = refl; equals = subst (λ T. Equal E (values c) T U') q p }
at_along (one_along s s' p es) (suc i) T e = let r = at_along es i T e in record { written = r.written; at = r.at; equals = r.equals }

-- each type of a fixpoint has a sort outside: it's the type of one of its definitions
fix_sorted : {E : Env} → IsAccepted E → {c : Context} {i : ℕ} {rargs : List ℕ} {types bodies : Terms} {T : Term} → IsContext E c → OfFix bare E c i rargs types bodies T → EachSorted E c types
unfolding EachSorted
fix_sorted {E} h {c} {rargs = rargs} {types = types} {bodies = bodies} k g = λ j U e. types_have_sorts E h c (Fix j rargs types bodies) U k (fix g.count e g.sorts g.bodies_fit tt)

pub fix_types : {E : Env} → IsAccepted E → {c : Context} {i : ℕ} {rargs : List ℕ} {types types' bodies : Terms} {V : Values} → IsContext E c → Covers (values c) V →
    KeptTerms E V types types' → Kept E c (Fix i rargs types bodies) (Fix i rargs types' bodies)
fix_types {E} h {c} {i = i} {rargs = rargs} {types' = types'} {bodies = bodies} k w ts T d =
    let g = of_fix d in
    let al = types_along k w g.sorts (fix_sorted h k g) ts in
    let a = at_along al i g.written g.at in
    let o = over_none c in
    let n : number types' ≡ length rargs = number_along al ∙ g.count in
    let in_all = over_definitions types' o (length rargs) (omega (arith, n)) in
    let bs = bodies_along h al in_all (context_along h al o (context_same E h c k)) (values_along al c c 0 refl) g.bodies_fit in
    retyped h k d (fix n a.at (sorts_along h al o) bs tt) (equal_below a.equals g.below)

-- a body's step keeps its lambdas
recurses_kept : {E : Env} {V : Values} {r : ℕ} {b b' : Term} → Recurses E V r b → Step E V b b' → Recurses E V r b'
recurses_kept (recurses_here f xs e) (inside (in_child p)) = recurses_here f xs (chain (back (step_equal p)) e)
recurses_kept (recurses_here f xs e) (inside (past_child (in_child p))) = recurses_here f xs e
recurses_kept (recurses_here f xs e) (root p) = elim p [ ]
recurses_kept (recurses_here f xs e) (inside (past_child (past_child p))) = elim p [ ]
recurses_kept (recurses_later r) (root p) = elim p [ ]
recurses_kept (recurses_later r) (inside (past_child (past_child p))) = elim p [ ]
recurses_kept (recurses_later r) (inside (in_child p)) = recurses_later r
recurses_kept (recurses_later r) (inside (past_child (in_child p))) = recurses_later (recurses_kept r p)

covers_definitions : (ts : Terms) (c : Context) (n : ℕ) {V : Values} → Covers (values c) V → Covers (values (definitions c n ts)) (under (number ts) V)
covers_definitions Done c n w = w
covers_definitions (Next m T ts) c n {V} w =
    let d : Context = Assumed (shift n 0 T) ∷ c in
    subst (Covers (values (definitions d (suc n) ts))) (under_none (number ts) V) (covers_definitions ts d (suc n) (covers_same w))

bodies_kept : {E : Env} {V : Values} {c : Context} {n : ℕ} {rargs : List ℕ} {types bodies bodies' : Terms} → IsContext E c → Covers (values c) (under n V) → KeptTerms E V bodies bodies' →
    Bodies bare E c n rargs types bodies → Bodies bare E c n rargs types bodies'
bodies_kept {c = c} k w (kept_first q keep) (a_body r p ps) = a_body (recurses_kept r (step_covered w q)) (keep c w k _ p) ps
bodies_kept k w (kept_rest q) (a_body r p ps) = a_body r p (bodies_kept k w q ps)

pub fix_bodies : {E : Env} → IsAccepted E → {c : Context} {i : ℕ} {rargs : List ℕ} {types bodies bodies' : Terms} {V : Values} → IsContext E c → Covers (values c) V →
    KeptTerms E V bodies bodies' → Kept E c (Fix i rargs types bodies) (Fix i rargs types bodies')
fix_bodies h {c} {types = types} {V = V} k w bs T d =
    let g = of_fix d in
    let cover = subst (λ n. Covers (values (definitions c 0 types)) (under n V)) g.count (covers_definitions types c 0 w) in
    retyped h k d (fix g.count g.at g.sorts (bodies_kept (definitions_context k g.sorts) cover bs g.bodies_fit) tt) g.below
