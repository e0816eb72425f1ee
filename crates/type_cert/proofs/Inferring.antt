-- What inference answers at its start, and what the walks of typing tell of their terms.
use Rattle.std.proofs.Common.{◌≡◌, ◌∙◌, ap, subst, ℕ, zero, suc, ◌<◌, ◌-◌, ◌+◌, Result, Ok, Err, IfOk, true, false, Option, Some, arith, slice_get}
use Rattle.universe_levels.specs.declared.sort.Sort.{Sort}
use Rattle.pc_terms.specs.Syntax.{Term, SortT, Prod, put, substitute}
use Rattle.pc_terms.specs.Formed.{IsFormed}
use Rattle.pc_rules.specs.declared.stop.Stop.TheVariants.{Spent, TooDeep}
use Rattle.pc_rules.specs.DirectedRun.{make, ticked}
use Rattle.pc_rules.specs.DirectedComparison.{Test}
use Rattle.pc_rules.specs.Entailment.{test_of}
use Rattle.calculus_rules.specs.Environment.{Env}
use Rattle.calculus_rules.specs.Context.{Context, values}
use Rattle.calculus_rules.specs.Same.{same}
use Rattle.rule_laws.specs.Inference.{IsInferred}
use Rattle.type_infer.specs.Ready.{IsReady}
use Rattle.type_infer.proofs.Beginning.{decides}
use Rattle.cert_rules.specs.declared.item.CertItem.{CertItem}
use Rattle.cert_rules.specs.declared.item.CertItem.TheVariants.{Same, Conv}
use Rattle.cert_rules.specs.Walk.{Items, pass, bar, past, crowded, walk_on, by_rules}
use Rattle.cert_rules.specs.Scripts.{Script, script}
use Rattle.cert_rules.specs.WalkTyping.{Walking, walk_infer, walk_rule, walk_sort_of, walk_sort_found, walk_fits, fits_by, walk_check, walk_retype, walk_app_found}
use Rattle.cert_rules.proofs.SoundTyping.{infer_sound}
use Rattle.type_cert.specs.declared.halt.WalkHalt.{WalkHalt}
use Rattle.type_cert.specs.declared.halt.WalkHalt.TheVariants as walks
use Rattle.type_cert.specs.declared.trail.Trail.{Trail}
use Rattle.type_cert.specs.Retraces.{stand, Retraces}
use Rattle.type_cert.proofs.Retracing.{retraces_on, retraces_err, retraces_pass, retraces_bar, retraces_then, retraces_else, retraces_spent, retraces_nested, retraces_entered, retraces_value}
use Rattle.type_cert.proofs.Scripting.{from_past, further, retraces_is}

module _ (cert : Items) (E : Env) (q : Test) (c : Context) (t : Term) where
  pub infer_spent : (n : ℕ) (t0 t1 : Trail) → t0.meter.account.left ≡ 0 → t1.meter.account ≡ ticked t0.meter.account → t1.meter.nest ≡ t0.meter.nest →
      Retraces (walk_infer cert E q n c t (stand t0)) (Err (walks.Stop Spent)) t0 t1
  unfolding walk_infer
  infer_spent zero t0 t1 z e n = retraces_spent (λ v. crowded) t0 t1 z e n
  infer_spent (suc k) t0 t1 z e n = retraces_spent (λ v. walk_rule cert E (walk_infer cert E q k) (script cert E q k) c t v) t0 t1 z e n

  pub infer_nested : (n : ℕ) (t0 t1 t2 : Trail) → n ≡ 0 → 0 < t0.meter.account.left → t1.meter.account ≡ ticked t0.meter.account → t1.meter.nest ≡ t0.meter.nest →
      t2.meter.account ≡ t1.meter.account → t2.meter.nest ≡ t1.meter.nest → Retraces (walk_infer cert E q n c t (stand t0)) (Err (walks.Stop TooDeep)) t0 t2
  unfolding walk_infer
  infer_nested zero t0 t1 t2 z h e n e' n' = retraces_nested t0 t2 h (e' ∙ e) (n' ∙ n)
  infer_nested (suc k) t0 t1 t2 z h e n e' n' = absurd (omega arith)

  pub infer_entered : (n k : ℕ) (r : Result Term WalkHalt) (t0 t1 t2 t3 t4 : Trail) → n ≡ suc k → 0 < t0.meter.account.left →
      t1.meter.account ≡ ticked t0.meter.account → t1.meter.nest ≡ t0.meter.nest → t2.meter.account ≡ t1.meter.account → t2.meter.nest ≡ t1.meter.nest + 1 → t2.at ≡ t0.at →
      Retraces (walk_rule cert E (walk_infer cert E q k) (script cert E q k) c t (stand t2)) r t2 t3 → t4.meter.account ≡ t3.meter.account → t4.meter.nest ≡ t3.meter.nest - 1 →
      t4.at ≡ t3.at → Retraces (walk_infer cert E q n c t (stand t0)) r t0 t4
  unfolding walk_infer
  infer_entered zero k r t0 t1 t2 t3 t4 z h e n e2 n2 g p e4 n4 g4 = absurd (omega arith)
  infer_entered (suc j) k r t0 t1 t2 t3 t4 z h e n e2 n2 g p e4 n4 g4 =
      let y : k ≡ j = omega arith in
      let p' = subst (λ m. Retraces (walk_rule cert E (walk_infer cert E q m) (script cert E q m) c t (stand t2)) r t2 t3) y p in
      retraces_entered (λ v. walk_rule cert E (walk_infer cert E q j) (script cert E q j) c t v) r t0 t1 t2 t3 t4 h e n e2 n2 g p' e4 n4 g4

-- what has been inferred is a type
pub inferred_from : (cert : Items) (E : Env) (c : Context) (t : Term) → IsReady E c → IsFormed t → (n : ℕ) (r : Result Term WalkHalt) (t0 t1 : Trail) →
    Retraces (walk_infer cert E (test_of E) n c t (stand t0)) r t0 t1 → IfOk r (λ T. IsInferred E c t T)
inferred_from cert E c t h f n (Ok T) t0 t1 p = infer_sound cert E h.env.declarations (test_of E) (decides E c h) n c t T (stand t0) (stand t1) h.context f p.answer
inferred_from cert E c t h f n (Err x) t0 t1 p = tt

-- what a number comes to is a sort

module _ (inf : Walking) (c : Context) (i n : ℕ) {x : Sort} {W : Term} (e : SortT x ≡ W) where
  sort_none : (t : Trail) (y : Sort) → n ≡ 0 → y ≡ x → Retraces (walk_sort_found inf c i n (SortT x) (stand t)) (Ok y) t t
  sort_none t y z p = rw z (retraces_value y x t p)

  pub sort_there : (t : Trail) (y : Sort) → n ≡ 0 → y ≡ x → Retraces (walk_sort_found inf c i n W (stand t)) (Ok y) t t
  sort_there t y z p = subst (λ W. Retraces (walk_sort_found inf c i n W (stand t)) (Ok y) t t) e (sort_none t y z p)

pub sort_goes : (inf : Walking) (c : Context) (i n : ℕ) {x : Sort} {W : Term} → SortT x ≡ W → {r : Result Sort WalkHalt} {t0 t1 : Trail} → 0 < n →
    Retraces (walk_on (inf c W (stand t0)) (λ _ w. pass x w)) r t0 t1 → Retraces (walk_sort_found inf c i n W (stand t0)) r t0 t1
sort_goes inf c i zero e h p = absurd (omega arith)
sort_goes inf c i (suc n) {x = x} {W = W} e {r = r} {t0 = t0} {t1 = t1} h p =
    subst (λ W. Retraces (walk_on (inf c W (stand t0)) (λ _ w. pass x w)) r t0 t1 → Retraces (walk_sort_found inf c i (suc n) W (stand t0)) r t0 t1) e (λ p. p) p

-- or a product
pub product_found : (cert : Items) (E : Env) (inf : Walking) (cmp : Script) (c : Context) (a : Term) (i n : ℕ) {W A B : Term} {r : Result Term WalkHalt} {t0 t1 : Trail} → Prod A B ≡ W →
    Retraces (walk_on (walk_retype cert E inf c n W (stand t0)) (λ _ v. walk_on (walk_check cert E inf cmp c a A v) (λ _ w. by_rules (make (substitute (put a) B)) w))) r t0 t1 →
    Retraces (walk_app_found cert E inf cmp c a i n W (stand t0)) r t0 t1
product_found cert E inf cmp c a i n {A = A} {B = B} {r = r} {t0 = t0} {t1 = t1} e f =
    subst (λ W. Retraces (walk_on (walk_retype cert E inf c n W (stand t0)) (λ _ v. walk_on (walk_check cert E inf cmp c a A v) (λ _ w. by_rules (make (substitute (put a) B)) w))) r t0 t1 →
    Retraces (walk_app_found cert E inf cmp c a i n W (stand t0)) r t0 t1) e (λ f. f) f

-- a type in place of another

module _ (cert : Items) (E : Env) (inf : Walking) (c : Context) (W : Term) where
  pub no_retype : (n : ℕ) (t : Trail) → n ≡ 0 → Retraces (walk_retype cert E inf c n W (stand t)) (Ok tt) t t
  unfolding walk_retype
  no_retype zero t z = retraces_pass tt t
  no_retype (suc n) t z = absurd (omega arith)

  pub retype_stops : (n : ℕ) (t0 t1 : Trail) (h : WalkHalt) → 0 < n → Retraces (walk_sort_of cert E inf c W (stand t0)) (Err h) t0 t1 →
      Retraces (walk_retype cert E inf c n W (stand t0)) (Err h) t0 t1
  unfolding walk_retype
  retype_stops zero t0 t1 h z p = absurd (omega arith)
  retype_stops (suc n) t0 t1 h z p = retraces_err (λ _ w. pass tt w) p

  pub retype_goes : (n : ℕ) (t0 t1 : Trail) (s : Sort) → 0 < n → Retraces (walk_sort_of cert E inf c W (stand t0)) (Ok s) t0 t1 →
      Retraces (walk_retype cert E inf c n W (stand t0)) (Ok tt) t0 t1
  unfolding walk_retype
  retype_goes zero t0 t1 s z p = absurd (omega arith)
  retype_goes (suc n) t0 t1 s z p = retraces_on (λ _ w. pass tt w) p (retraces_pass tt t1)

-- a type that is found in place of one that is asked for

module _ (cert : Items) (E : Env) (inf : Walking) (cmp : Script) (c : Context) (S T : Term) where
  fits_here : (t : Trail) (o : Option CertItem) → slice_get cert t.at ≡ o → walk_fits cert E inf cmp c S T (stand t) ≡ fits_by cert E inf cmp c S T o (stand t)
  unfolding walk_fits
  fits_here t o e = ap (λ o. fits_by cert E inf cmp c S T o (stand t)) e

  pub fits_same : (t : Trail) → slice_get cert t.at ≡ Some Same → same S T ≡ true → Retraces (walk_fits cert E inf cmp c S T (stand t)) (Ok tt) t (further t)
  fits_same t e p =
      retraces_is (fits_here t (Some Same) e) (retraces_then (same S T) (pass tt (past (stand t))) (bar t.at (stand t)) (Ok tt) t (further t) p (from_past (retraces_pass tt (further t))))

  pub fits_differ : (t : Trail) → slice_get cert t.at ≡ Some Same → same S T ≡ false → Retraces (walk_fits cert E inf cmp c S T (stand t)) (Err (walks.Barred t.at)) t t
  fits_differ t e p =
      retraces_is (fits_here t (Some Same) e) (retraces_else (same S T) (pass tt (past (stand t))) (bar t.at (stand t)) (Err (walks.Barred t.at)) t t p (retraces_bar t.at t))

  pub fits_conv : (r : Result (Unit {0}) WalkHalt) (t0 t1 : Trail) → slice_get cert t0.at ≡ Some Conv →
      Retraces (walk_on (walk_sort_of cert E inf c T (stand (further t0))) (λ _ w. cmp (values c) false S T w)) r (further t0) t1 → Retraces (walk_fits cert E inf cmp c S T (stand t0)) r t0 t1
  fits_conv r t0 t1 e p = retraces_is (fits_here t0 (Some Conv) e) (from_past p)
