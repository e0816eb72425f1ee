-- How calls that answer types of which arguments are still to be put in make what directed rules that write make.
use Rattle.std.proofs.Common.{◌≡◌, ◌∙◌, ap, refl, subst as transport, ℕ, ◌-◌, List, [], ◌∷◌, ◌++◌, Result, Ok, Err, IsErrAnd, arith}
use Rattle.std.proofs.lemmas.Result.{err_from_is_err_and}
use Rattle.trees.specs.Measures.{IsWithin, IsBeyond}
use Rattle.pc_terms.specs.Syntax.{Term, Prod, put, substitute}
use Rattle.pc_terms.specs.declared.term.MakeFault.{MakeFault}
use Rattle.pc_terms.specs.declared.term.MakeFault.TheVariants.{Memory as NoTerm}
use Rattle.calculus_rules.specs.Context.{Context, values}
use Rattle.calculus_rules.specs.Environment.{Env}
use Rattle.calculus_rules.specs.Same.{same}
use Rattle.pc_rules.specs.declared.stop.Stop.TheVariants.{Memory}
use Rattle.pc_rules.specs.declared.stop.Halt.{Halt}
use Rattle.pc_rules.specs.declared.stop.Halt.TheVariants.{Stop}
use Rattle.pc_rules.specs.Stops.{stop_of}
use Rattle.pc_rules.specs.DirectedRun.{Run, make}
use Rattle.pc_rules.specs.DirectedWeakHead.{whnf}
use Rattle.pc_rules.proofs.Following.{follows_whnf_stays}
use Rattle.pc_rules.proofs.SameTrees.{same_itself}
use Rattle.cert_rules.specs.declared.item.CertItem.{CertItem}
use Rattle.cert_rules.specs.declared.item.CertItem.TheVariants.{Number}
use Rattle.cert_rules.specs.Writing.{Wrote, silent, write_on}
use Rattle.cert_rules.specs.MakingTyping.{MakeTyping, MakeComparison, make_whnf, make_retype, make_check, make_app_found}
use Rattle.type_infer.specs.declared.pending.PendingType.{PendingType}
use Rattle.type_infer.specs.Pending.{standing, IsMaking, ended, halt_of}
use Rattle.type_infer.proofs.Pendings.{ends_there, map_pends}
use Rattle.script_making.specs.declared.draft.Draft.{Draft}
use Rattle.script_making.specs.Makes.{Makes}
use Rattle.script_making.proofs.Making.{makes_on, makes_then, makes_done, makes_made, makes_fault, makes_steps}
use Rattle.type_making.specs.PendingMaking.{MakesPending}

-- a making is the end of what makes the term
pub ends_made : {t T : Term} (r : Result Term MakeFault) {d : Draft} → t ≡ T → IsMaking t r → Makes (silent (make T) d.meter.account) (ended halt_of r) d d
ends_made {T = T} (Ok u) {d = d} e h = makes_made T u d (h.0 ∙ e)
ends_made {T = T} (Err f) {d = d} e h = makes_fault T f d (λ z. transport (λ t. IsBeyond t) e (h.1 z))

pub pends_there : {d : Run (Wrote Term)} {p : PendingType} {T : Term} {t0 t1 : Draft} → IsWithin T → standing p ≡ T → Makes d (Ok T) t0 t1 → MakesPending d (Ok p) t0 t1
pends_there {d = d} {t0 = t0} {t1 = t1} w e f =
    record { pends = ends_there halt_of (λ q. Makes d q t0 t1) w e f (record { answer = tt; after = f.after }); after = f.after }

-- an answer where nothing fails
pub pends_whole : {d : Run (Wrote Term)} {p : PendingType} {t0 t1 : Draft} → MakesPending d (Ok p) t0 t1 → Makes d (Ok (standing p)) t0 t1
pends_whole {p = p} f = f.pends (Ok (standing p)) (refl, tt)

pub pends_fault : {d : Run (Wrote Term)} {p : PendingType} {t0 t1 : Draft} (f : MakeFault) → IsMaking (standing p) (Err f) → MakesPending d (Ok p) t0 t1 → Makes d (Err (Stop (stop_of f))) t0 t1
pends_fault f h g = g.pends (Err f) h

-- a call halts, or follows whatever the making of its type answers
pub pends_halts : {d : Run (Wrote Term)} {h : Halt} {t0 t1 : Draft} → Makes d (Err h) t0 t1 → MakesPending d (Err h) t0 t1
pends_halts f = record { pends = f; after = f.after }

pub pends_each : {d : Run (Wrote Term)} {p : PendingType} {t0 t1 : Draft} → ((r : Result Term MakeFault) → IsMaking (standing p) r → Makes d (ended halt_of r) t0 t1) → MakesPending d (Ok p) t0 t1
pends_each f = record { pends = f; after = (f (Err NoTerm) (tt, λ z. absurd (cc))).after }

-- what follows from each answer follows from one of which arguments are to be put in
pub pends_from : {d e : Run (Wrote Term)} {r : Result PendingType Halt} {t0 t1 t2 t3 : Draft} → ((q : Result Term Halt) → Makes d q t0 t1 → Makes e q t2 t3) →
    MakesPending d r t0 t1 → MakesPending e r t2 t3
pends_from {d = d} {e = e} {r = r} {t0 = t0} {t1 = t1} {t2 = t2} {t3 = t3} f g =
    record { pends = map_pends halt_of (λ q. Makes d q t0 t1) (λ q. Makes e q t2 t3) f r g.pends; after = (f (Err (Stop Memory)) (record { answer = tt; after = g.after })).after }

-- what a `?` gives on is the halt of its call
pub pends_passed : {d : Run (Wrote Term)} {r : Result PendingType Halt} {h : Halt} {t0 t1 : Draft} → IsErrAnd r (λ e. e ≡ h) → Makes d (Err h) t0 t1 → MakesPending d r t0 t1
pends_passed {r = r} e f =
    let p = err_from_is_err_and r e in
    rw (p.1, p.2) (pends_halts f)

-- a product is its own weak-head normal form, after no step
pub product_stays : (E : Env) (inf : MakeTyping) (cmp : MakeComparison) (c : Context) (a : Term) {T A B : Term} {r : Result Term Halt} {t0 t1 t2 : Draft} → Prod A B ≡ T →
    t1.meter ≡ t0.meter → t1.written.items ≡ t0.written.items ++ Number 0 ∷ [] →
    Makes (write_on (make_check E inf cmp c a A t1.meter.account) (λ _ w. silent (make (substitute (put a) B)) w)) r t1 t2 →
    Makes (write_on (make_whnf E (values c) T t0.meter.account) (λ W w. make_app_found E inf cmp c a T W w)) r t0 t2
unfolding make_retype
product_stays E inf cmp c a {A = A} {B = B} {r = r} {t0 = t0} {t1 = t1} {t2 = t2} e m w f =
    let T = Prod A B in
    let none : t0.meter.account.left - t0.meter.account.left ≡ 0 = omega arith in
    let stays = makes_steps (λ n. Number n ∷ []) (whnf E (values c) T t0.meter.account) T t0 t0 t1 (follows_whnf_stays E (values c) T T t0.meter refl refl) m (rw none w) in
    transport (λ T. Makes (write_on (make_whnf E (values c) T t0.meter.account) (λ W w. make_app_found E inf cmp c a T W w)) r t0 t2) e
    (makes_on _ stays (makes_on _ (makes_then (same T T) _ _ (Ok tt) t1 t1 (same_itself T) (makes_done tt t1)) f))
