-- How calls that answer types of which arguments are still to be put in go along walks.
use Rattle.std.proofs.Common.{◌≡◌, ◌∙◌, ◌+◌, ◌⊎◌, inl, inr, ap, sym, refl, subst as transport, Some, Result, Ok, Err, IfOk, IfErr, IsErrAnd, slice_get}
use Rattle.std.proofs.lemmas.Result.{err_from_is_err_and}
use Rattle.trees.specs.Measures.{IsWithin, IsBeyond}
use Rattle.pc_terms.specs.Syntax.{Term, Prod, put, substitute}
use Rattle.pc_terms.specs.declared.term.MakeFault.{MakeFault}
use Rattle.pc_terms.specs.declared.term.MakeFault.TheVariants.{TooDeep as DeepTerm, Memory as NoTerm}
use Rattle.calculus_rules.specs.Context.{Context, values}
use Rattle.calculus_rules.specs.Environment.{Env}
use Rattle.pc_rules.specs.declared.stop.Stop.TheVariants.{Memory}
use Rattle.pc_rules.specs.Stops.{stop_of}
use Rattle.pc_rules.specs.DirectedRun.{make}
use Rattle.pc_rules.specs.Follows.{IsAfter}
use Rattle.pc_rules.proofs.Meters.{after-trans}
use Rattle.cert_rules.specs.declared.item.CertItem.TheVariants.{Number}
use Rattle.cert_rules.specs.Walk.{Items, WalkState, Walk, walk_on, by_rules}
use Rattle.cert_rules.specs.WalkSteps.{number_at, walk_steps, reduced}
use Rattle.cert_rules.specs.Scripts.{Script}
use Rattle.cert_rules.specs.WalkTyping.{Walking, walk_check, walk_app_found}
use Rattle.type_infer.specs.declared.pending.PendingType.{PendingType}
use Rattle.type_infer.specs.Pending.{standing, IsMaking, ended}
use Rattle.type_infer.proofs.Pendings.{ends_there, map_pends}
use Rattle.type_cert.specs.declared.halt.WalkHalt.{WalkHalt}
use Rattle.type_cert.specs.declared.halt.WalkHalt.TheVariants as walks
use Rattle.type_cert.specs.declared.trail.Trail.{Trail}
use Rattle.type_cert.specs.Retraces.{stand, WalkHalts, Retraces}
use Rattle.type_cert.specs.PendingWalk.{walk_halt_of, RetracesPending, HaltsMaking}
use Rattle.type_cert.proofs.Retracing.{retraces_on, retraces_err, retraces_pass, retraces_made, retraces_fault}
use Rattle.type_cert.proofs.Scripting.{from_past, further, retraces_is}
use Rattle.type_cert.proofs.Inferring.{no_retype}

-- a making is the end of what makes the term
pub ends_made : {t T : Term} (r : Result Term MakeFault) {x : Trail} → t ≡ T → IsMaking t r → Retraces (by_rules (make T) (stand x)) (ended walk_halt_of r) x x
ends_made {T = T} (Ok u) {x = x} e h = retraces_made T u x (h.0 ∙ e)
ends_made {T = T} (Err f) {x = x} e h = retraces_fault T f x (λ z. transport (λ t. IsBeyond t) e (h.1 z))

pub pends_there : {d : Walk Term} {p : PendingType} {T : Term} {t0 t1 : Trail} → IsWithin T → standing p ≡ T → Retraces d (Ok T) t0 t1 → RetracesPending d (Ok p) t0 t1
pends_there {d = d} {t0 = t0} {t1 = t1} w e f =
    record { pends = ends_there walk_halt_of (λ q. Retraces d q t0 t1) w e f (record { answer = tt; after = f.after }); after = f.after }

-- an answer where nothing fails
pub pends_whole : {d : Walk Term} {p : PendingType} {t0 t1 : Trail} → RetracesPending d (Ok p) t0 t1 → Retraces d (Ok (standing p)) t0 t1
pends_whole {p = p} f = f.pends (Ok (standing p)) (refl, tt)

pub pends_fault : {d : Walk Term} {p : PendingType} {t0 t1 : Trail} (f : MakeFault) → IsMaking (standing p) (Err f) → RetracesPending d (Ok p) t0 t1 → Retraces d (Err (walks.Stop (stop_of f))) t0 t1
pends_fault f h g = g.pends (Err f) h

-- a call halts, or follows whatever the making of its type answers
pub pends_halts : {d : Walk Term} {h : WalkHalt} {t0 t1 : Trail} → Retraces d (Err h) t0 t1 → RetracesPending d (Err h) t0 t1
pends_halts f = record { pends = f; after = f.after }

pub pends_each : {d : Walk Term} {p : PendingType} {t0 t1 : Trail} → ((r : Result Term MakeFault) → IsMaking (standing p) r → Retraces d (ended walk_halt_of r) t0 t1) → RetracesPending d (Ok p) t0 t1
pends_each f = record { pends = f; after = (f (Err NoTerm) (tt, λ z. absurd (cc))).after }

-- what follows from each answer follows from one of which arguments are to be put in
pub pends_from : {d e : Walk Term} {r : Result PendingType WalkHalt} {t0 t1 t2 t3 : Trail} → ((q : Result Term WalkHalt) → Retraces d q t0 t1 → Retraces e q t2 t3) →
    RetracesPending d r t0 t1 → RetracesPending e r t2 t3
pends_from {d = d} {e = e} {r = r} {t0 = t0} {t1 = t1} {t2 = t2} {t3 = t3} f g =
    record { pends = map_pends walk_halt_of (λ q. Retraces d q t0 t1) (λ q. Retraces e q t2 t3) f r g.pends; after = (f (Err (walks.Stop Memory)) (record { answer = tt; after = g.after })).after }

-- what a `?` gives on is the halt of its call
pub pends_passed : {d : Walk Term} {r : Result PendingType WalkHalt} {h : WalkHalt} {t0 t1 : Trail} → IsErrAnd r (λ e. e ≡ h) → Retraces d (Err h) t0 t1 → RetracesPending d r t0 t1
pends_passed {r = r} e f =
    let p = err_from_is_err_and r e in
    rw (p.1, p.2) (pends_halts f)

-- a number that asks for no step leaves a product as it is
pub no_steps : (cert : Items) (E : Env) (c : Context) (T : Term) (t : Trail) → slice_get cert t.at ≡ Some (Number 0) →
    Retraces (reduced cert E (values c) T (stand t)) (Ok (record { item = t.at; count = 0; term = T })) t (further t)
unfolding reduced walk_steps
no_steps cert E c T t e =
    let number = retraces_is (ap (λ o. number_at o (stand t)) e) (from_past (retraces_pass 0 (further t))) in
    retraces_on _ number (retraces_on _ (retraces_pass T (further t)) (retraces_pass _ (further t)))

pub product_stays : (cert : Items) (E : Env) (inf : Walking) (cmp : Script) (c : Context) (a : Term) {T A B : Term} {r : Result Term WalkHalt} {t0 t1 t2 : Trail} → Prod A B ≡ T →
    slice_get cert t0.at ≡ Some (Number 0) → t1.meter ≡ t0.meter → t1.at ≡ t0.at + 1 →
    Retraces (walk_on (walk_check cert E inf cmp c a A (stand t1)) (λ _ w. by_rules (make (substitute (put a) B)) w)) r t1 t2 →
    Retraces (walk_on (reduced cert E (values c) T (stand t0)) (λ q w. walk_app_found cert E inf cmp c a q.item q.count q.term w)) r t0 t2
product_stays cert E inf cmp c a {A = A} {B = B} {r = r} {t0 = t0} {t1 = t1} {t2 = t2} e z m n f =
    let T = Prod A B in
    let one : t1 ≡ further t0 = λ i. record { meter = m i; at = n i } in
    let g = transport (λ t. Retraces (walk_on (walk_check cert E inf cmp c a A (stand t)) (λ _ w. by_rules (make (substitute (put a) B)) w)) r t t2) one f in
    transport (λ T. Retraces (walk_on (reduced cert E (values c) T (stand t0)) (λ q w. walk_app_found cert E inf cmp c a q.item q.count q.term w)) r t0 t2) e
    (retraces_on _ (no_steps cert E c T t0 z) (retraces_on _ (no_retype cert E inf c T 0 (further t0) refl) g))

-- a fault of a making is that of the walk before all that was done since
fault_after : {d : Walk Term} (f : MakeFault) {t0 t1 t2 : Trail} → IsAfter t1.meter t2.meter → Retraces d (Err (walk_halt_of f)) t0 t1 → Retraces d (Err (walk_halt_of f)) t0 t2
fault_after DeepTerm {t0 = t0} {t1 = t1} {t2 = t2} a p = record { answer = p.answer; after = after-trans t0.meter t1.meter t2.meter p.after a }
fault_after NoTerm {t0 = t0} {t1 = t1} {t2 = t2} a p = record { answer = tt; after = after-trans t0.meter t1.meter t2.meter p.after a }

-- an argument halts along the walk of its application, or the type of the function can't be made, of which the domain is a part
pub argument_halts : {A : Type 0} {d : Walk Term} {e : Walk A} (W : Term) (k : Term → WalkState → Walk Term) {h : WalkHalt} {t0 t1 t2 t3 : Trail} → t2.meter ≡ t1.meter → HaltsMaking W e h t2 t3 →
    (Retraces e (Err h) t2 t3 → Retraces (walk_on d k) (Err h) t0 t3) → ((f : MakeFault) → IsMaking W (Err f) → Retraces d (Err (walk_halt_of f)) t0 t1) → Retraces (walk_on d k) (Err h) t0 t3
argument_halts W k m (inl x) go made = go x
argument_halts {d = d} W k {t0 = t0} {t1 = t1} {t3 = t3} m (inr (f, e, j, a)) go made =
    let b : IsAfter t1.meter t3.meter = transport (λ x. IsAfter x t3.meter) m a in
    transport (λ h. Retraces (walk_on d k) (Err h) t0 t3) (sym e) (retraces_err k (fault_after f b (made f j)))

-- what a `?` gives on is the halt of its call
pub halts_passed : {A B : Type 0} {d : Walk A} (W : Term) (r : Result B WalkHalt) {h : WalkHalt} {t0 t1 : Trail} → IsErrAnd r (λ e. e ≡ h) → HaltsMaking W d h t0 t1 → IfErr r (λ x. HaltsMaking W d x t0 t1)
halts_passed W (Ok b) e p = tt
halts_passed {d = d} W (Err x) {t0 = t0} {t1 = t1} e p = transport (λ y. HaltsMaking W d y t0 t1) (sym e) p

-- an answer that goes along the walk, with its result or without
pub passes_ok : {d : Walk (Unit {0})} (r : Result (Unit {0}) WalkHalt) {t0 t1 : Trail} → Retraces d r t0 t1 → IfOk r (λ _. Retraces d (Ok tt) t0 t1)
passes_ok (Ok a) p = p
passes_ok (Err x) p = tt

pub passes_err : {d : Walk (Unit {0})} (W : Term) (r : Result (Unit {0}) WalkHalt) {t0 t1 : Trail} → Retraces d r t0 t1 → IfErr r (λ h. HaltsMaking W d h t0 t1)
passes_err W (Ok a) p = tt
passes_err W (Err x) p = inl p
