-- Types of which arguments are still to be put in: what they stand for, and how calls that answer them follow the rules.
use Rattle.std.proofs.Common.{◌≡◌, ◌∙◌, ap, sym, refl, subst as transport, inl, inr, length, List, [], ◌∷◌, ◌++◌, Result, Ok, Err, IsErrAnd, arith}
use Rattle.std.proofs.lemmas.Result.{err_from_is_err_and}
use Rattle.trees.specs.Measures.{IsWithin, IsBeyond}
use Rattle.trees.proofs.Cutoffs.{subst-substitute}
use Rattle.trees.proofs.Operations.{list-none, list-one, list-last, list-into_subst, list-lifted}
use Rattle.pc_terms.specs.Syntax.{Term, Prod, lift, subst, subst_list, put, substitute}
use Rattle.pc_terms.specs.declared.term.MakeFault.{MakeFault}
use Rattle.pc_terms.specs.declared.term.MakeFault.TheVariants.{TooDeep as DeepTerm, Memory as NoTerm}
use Rattle.calculus_rules.specs.Environment.{Env}
use Rattle.calculus_rules.specs.Context.{Context, values}
use Rattle.calculus_rules.specs.Same.{same}
use Rattle.pc_rules.specs.declared.meter.Meter.{Meter}
use Rattle.pc_rules.specs.declared.stop.Stop.TheVariants.{Memory}
use Rattle.pc_rules.specs.declared.stop.Halt.{Halt}
use Rattle.pc_rules.specs.declared.stop.Halt.TheVariants.{Stop}
use Rattle.pc_rules.specs.Stops.{stop_of}
use Rattle.pc_rules.specs.DirectedRun.{Run, bind, make, Leaves}
use Rattle.pc_rules.specs.DirectedComparison.{Comparison}
use Rattle.pc_rules.specs.DirectedTyping.{Typing, check, retype, app_found}
use Rattle.pc_rules.specs.DirectedWeakHead.{whnf}
use Rattle.pc_rules.specs.Follows.{Follows}
use Rattle.pc_rules.proofs.Following.{follows_made, follows_fault, follows_done, follows_then, follows_whnf_stays}
use Rattle.pc_rules.proofs.SameTrees.{same_itself}
use Rattle.type_infer.specs.declared.pending.PendingType.{PendingType}
use Rattle.type_infer.specs.Pending.{standing, IsMaking, ended, Pends, halt_of, FollowsPending}
use Rattle.type_infer.proofs.Steps.{and_then}

-- one argument more is one more substitution

pub pending_none : (t : Term) → subst_list 0 [] t ≡ t
pending_none t = list-none 0 t

pub pending_one : (a t : Term) → subst_list 0 (a ∷ []) t ≡ substitute (put a) t
pending_one a t = list-one 0 a t ∙ subst-substitute a 0 t

pub pending_more : (xs : List Term) (a t : Term) → subst_list 0 (xs ++ a ∷ []) t ≡ substitute (put a) (subst_list 1 xs t)
pending_more xs a t =
    list-last 0 xs a t ∙ list-into_subst 0 0 xs (lift (length xs) 0 a) t ∙ ap (λ b. subst 0 b (subst_list 1 xs t)) (list-lifted 0 xs a)
    ∙ subst-substitute a 0 (subst_list 1 xs t)

pub ruleset pending_laws = (pending_none, pending_one, pending_more)

-- a list put in for a product is put in for its parts
pub pending_product : (xs : List Term) {A B T : Term} → Prod A B ≡ T → Prod (subst_list 0 xs A) (subst_list 1 xs B) ≡ subst_list 0 xs T
pending_product xs e = ap (λ t. subst_list 0 xs t) e

-- a domain that passes a limit is one of a product that does
wider : (A B : Term) → IsBeyond A → IsBeyond (Prod A B)
wider A B (inl h) = inl (grind arith)
wider A B (inr h) = inr (grind arith)

pub pending_beyond : (xs : List Term) {A B T : Term} → Prod A B ≡ T → (f : MakeFault) → IsMaking (subst_list 0 xs A) (Err f) → IsMaking (subst_list 0 xs T) (Err f)
pending_beyond xs {A = A} {B = B} e f h =
    (tt, λ z. transport (λ t. IsBeyond t) (pending_product xs e) (wider (subst_list 0 xs A) (subst_list 1 xs B) (h.1 z)))

-- a making is the end of what makes the term
pub ends_made : {t T : Term} (r : Result Term MakeFault) {m : Meter} → t ≡ T → IsMaking t r → Follows (make T m.account) (ended halt_of r) m m
ends_made {T = T} (Ok u) {m = m} e h = follows_made T u m (h.0 ∙ e)
ends_made {T = T} (Err f) {m = m} e h = follows_fault T f m (λ z. transport (λ t. IsBeyond t) e (h.1 z))

-- what is in memory passes no limit, so its making ends in it or for want of memory
not_both : (t : Term) → IsWithin t → IsBeyond t → ⊥
not_both t w (inl h) = omega (arith, w.0, h)
not_both t w (inr h) = omega (arith, w.1, h)

pub ends_there : {H : Type 0} (halt : MakeFault → H) (P : Result Term H → Type 0) {t T : Term} → IsWithin T → t ≡ T → P (Ok T) → P (Err (halt NoTerm)) →
    (r : Result Term MakeFault) → IsMaking t r → P (ended halt r)
ends_there halt P w e f g (Ok u) h = transport (λ x. P (Ok x)) (sym (h.0 ∙ e)) f
ends_there halt P {T = T} w e f g (Err DeepTerm) h = absurd (not_both T w (transport (λ t. IsBeyond t) e (h.1 refl)))
ends_there halt P w e f g (Err NoTerm) h = g

pub pends_there : {d : Run Term} {p : PendingType} {T : Term} {m0 m1 : Meter} → IsWithin T → standing p ≡ T → Follows d (Ok T) m0 m1 → FollowsPending d (Ok p) m0 m1
pends_there {d = d} {m0 = m0} {m1 = m1} w e f =
    record { pends = ends_there halt_of (λ q. Follows d q m0 m1) w e f (record { answer = tt; after = f.after; leaves = f.leaves }); after = f.after }

-- an answer where nothing fails
pub pends_whole : {d : Run Term} {p : PendingType} {m0 m1 : Meter} → FollowsPending d (Ok p) m0 m1 → Follows d (Ok (standing p)) m0 m1
pends_whole {p = p} f = f.pends (Ok (standing p)) (refl, tt)

pub pends_fault : {d : Run Term} {p : PendingType} {m0 m1 : Meter} (f : MakeFault) → IsMaking (standing p) (Err f) → FollowsPending d (Ok p) m0 m1 → Follows d (Err (Stop (stop_of f))) m0 m1
pends_fault f h g = g.pends (Err f) h

-- a call halts, or follows whatever the making of its type answers
pub pends_halts : {d : Run Term} {h : Halt} {m0 m1 : Meter} → Follows d (Err h) m0 m1 → FollowsPending d (Err h) m0 m1
pends_halts f = record { pends = f; after = f.after }

pub pends_each : {d : Run Term} {p : PendingType} {m0 m1 : Meter} → ((r : Result Term MakeFault) → IsMaking (standing p) r → Follows d (ended halt_of r) m0 m1) → FollowsPending d (Ok p) m0 m1
pends_each f = record { pends = f; after = (f (Err NoTerm) (tt, λ z. absurd (cc))).after }

-- at least as many units are left as at the end of the run, whatever the making answers
pends_leaves : {d : Run Term} (r : Result PendingType Halt) {m0 m1 : Meter} → FollowsPending d r m0 m1 → Leaves d.end m1.account.left
pends_leaves (Ok p) f = (f.pends (Err NoTerm) (tt, λ z. absurd (cc))).leaves
pends_leaves (Err h) f = f.pends.leaves

-- what follows from each answer follows from one of which arguments are to be put in
pub map_pends : {H : Type 0} (halt : MakeFault → H) (P Q : Result Term H → Type 0) → ((q : Result Term H) → P q → Q q) → (r : Result PendingType H) → Pends halt P r → Pends halt Q r
map_pends halt P Q f (Ok p) h = λ r k. f _ (h r k)
map_pends halt P Q f (Err x) h = f (Err x) h

pub pends_from : {d e : Run Term} {r : Result PendingType Halt} {m0 m1 m2 m3 : Meter} → ((q : Result Term Halt) → Follows d q m0 m1 → Follows e q m2 m3) →
    FollowsPending d r m0 m1 → FollowsPending e r m2 m3
pends_from {d = d} {e = e} {r = r} {m0 = m0} {m1 = m1} {m2 = m2} {m3 = m3} f g =
    record { pends = map_pends halt_of (λ q. Follows d q m0 m1) (λ q. Follows e q m2 m3) f r g.pends; after = (f (Err (Stop Memory)) (record { answer = tt; after = g.after; leaves = pends_leaves r g })).after }

-- what a `?` gives on is the halt of its call
pub pends_passed : {d : Run Term} {r : Result PendingType Halt} {h : Halt} {m0 m1 : Meter} → IsErrAnd r (λ e. e ≡ h) → Follows d (Err h) m0 m1 → FollowsPending d r m0 m1
pends_passed {r = r} e f =
    let p = err_from_is_err_and r e in
    rw (p.1, p.2) (pends_halts f)

-- a product is its own weak-head normal form
pub product_stays : (E : Env) (inf : Typing) (cmp : Comparison) (c : Context) (a : Term) {T A B : Term} {r : Result Term Halt} {m0 m1 : Meter} → Prod A B ≡ T →
    Follows (bind (check E inf cmp c a A m0.account) (λ _ w. make (substitute (put a) B) w)) r m0 m1 →
    Follows (bind (whnf E (values c) T m0.account) (λ W w. app_found E inf cmp c a T W w)) r m0 m1
unfolding retype
product_stays E inf cmp c a {A = A} {B = B} {r = r} {m0 = m0} {m1 = m1} e f =
    let T = Prod A B in
    transport (λ T. Follows (bind (whnf E (values c) T m0.account) (λ W w. app_found E inf cmp c a T W w)) r m0 m1) e
    (and_then _ (follows_whnf_stays E (values c) T T m0 refl refl) (and_then _ (follows_then (same T T) _ _ (Ok tt) m0 m0 (same_itself T) (follows_done tt m0)) f))
