-- How the parts of rule 10 are put together.
use Rattle.std.proofs.Common.{◌≡◌, sym, refl, subst, ℕ, ◌+◌, ◌==◌, ◌&&◌, Bool, true, false, if◌then◌else◌, Result, Ok, Err, IfErr, List, length, Option, Some, IsTrue, arith}
use Rattle.trees.specs.Tree.{terms_of}
use Rattle.pc_terms.specs.declared.leaf.FamilyId.{FamilyId}
use Rattle.pc_terms.specs.declared.term.Match.{Match}
use Rattle.pc_terms.specs.declared.term.MakeFault.{MakeFault}
use Rattle.pc_terms.specs.declared.term.MakeFault.TheVariants.{TooDeep as DeepTerm, Memory as NoTerm}
use Rattle.pc_terms.specs.Lists.{arms_of}
use Rattle.pc_terms.specs.Syntax.{Term, Rel, head, args, list_of}
use Rattle.calculus_rules.specs.declared.declaration.Block.{Block}
use Rattle.calculus_rules.specs.Environment.{Env, FamilyDecl}
use Rattle.calculus_rules.specs.Context.{Context}
use Rattle.calculus_rules.specs.Instances.{predicate_at}
use Rattle.calculus_rules.specs.Lookups.{kept_at, whole_block}
use Rattle.calculus_rules.proofs.Listing.{listed}
use Rattle.pc_rules.specs.declared.broken.Broken.{Broken}
use Rattle.pc_rules.specs.declared.broken.Broken.TheVariants.{NotTheFamily}
use Rattle.pc_rules.specs.declared.meter.Account.{Account}
use Rattle.pc_rules.specs.declared.stop.Stop.TheVariants.{Spent, TooDeep, Memory}
use Rattle.pc_rules.specs.declared.stop.Halt.{Halt}
use Rattle.pc_rules.specs.declared.stop.Halt.TheVariants as halts
use Rattle.pc_rules.specs.Stops.{stop_of}
use Rattle.pc_rules.specs.Follows.{Answers, Halts}
use Rattle.pc_rules.specs.DirectedRun.{make, done, refused, is_beyond}
use Rattle.pc_rules.specs.DirectedTyping.{find_family, match_counted, is_the_family, found_family}
use Rattle.cert_rules.specs.Walk.{Items, WalkState, Walk, pass, bar, walk_on, by_rules}
use Rattle.cert_rules.specs.Scripts.{Script}
use Rattle.cert_rules.specs.WalkTyping.{Walking, walk_check_all, walk_found_family, walk_predicate, walk_scrutinee, walk_branches, walk_case}
use Rattle.type_cert.specs.declared.halt.WalkHalt.{WalkHalt}
use Rattle.type_cert.specs.declared.halt.WalkHalt.TheVariants as walks
use Rattle.type_cert.specs.declared.trail.Trail.{Trail}
use Rattle.type_cert.specs.Retraces.{stand, Retraces, halt_at, barred_at}
use Rattle.type_cert.proofs.Retracing.{retraces_on, retraces_err, retraces_pass, retraces_bar, retraces_memory, retraces_answers, retraces_halts, retraces_still}

-- the rule, from the family on

module _ (x : Match) (cert : Items) (E : Env) (inf : Walking) (cmp : Script) (c : Context) where
  abbrev whole : WalkState → Walk Term
  whole s = walk_case cert E inf cmp c x.family (terms_of x.params) x.binders x.ret x.scrut (arms_of x.branches) s

  abbrev after_family : Option Block → List Term → FamilyDecl → WalkState → Walk Term
  after_family o ps F v =
      walk_on (by_rules (match_counted F (terms_of x.params) x.binders (arms_of x.branches)) v) (λ _ w.
      walk_on (walk_check_all cert E inf cmp c Rel ps F.parameters w) (λ _ x'.
      walk_on (walk_predicate cert E inf c o x.family F ps x.ret x') (λ _ y.
      walk_on (walk_scrutinee cert E inf cmp c x.family F ps x.scrut y) (λ is z.
      walk_on (walk_branches cert E inf cmp c x.family 0 F.constructors ps x.ret (list_of (arms_of x.branches)) z) (λ _ o. by_rules (make (predicate_at x.ret is x.scrut)) o)))))

  abbrev kept_block : Option Block
  kept_block = whole_block (kept_at E.declarations x.family.block)

  pub case_goes : {B : Block} {F : FamilyDecl} {r : Result Term WalkHalt} {t0 t1 : Trail} → kept_block ≡ Some B →
      ((u : Account) → Answers (find_family x.family kept_block u) (Ok F) u) → Retraces (after_family (Some B) x.params F (stand t0)) r t0 t1 → Retraces (whole (stand t0)) r t0 t1
  case_goes {F = F} {r = r} {t0 = t0} {t1 = t1} e k h =
      let h1 = subst (λ o. Retraces (after_family o x.params F (stand t0)) r t0 t1) (sym e) h in
      let h2 = subst (λ qs. Retraces (after_family kept_block qs F (stand t0)) r t0 t1) (sym (listed x.params)) h1 in
      retraces_on (after_family kept_block (list_of (terms_of x.params))) (retraces_answers _ (Ok F) refl (k t0.meter.account)) h2

  pub case_unknown : (h : Halt) {g : WalkHalt} {t : Trail} → g ≡ halt_at t.at h → ((u : Account) → Halts (find_family x.family kept_block u) h u) →
      Retraces (whole (stand t)) (Err g) t t
  case_unknown h {t = t} e k = retraces_err (after_family kept_block (list_of (terms_of x.params))) (retraces_halts _ h e (k t.meter.account))

-- terms against a telescope, whose variables are raised by none
zero_raised : (i : ℕ) → 0 + i ≡ i
zero_raised i = omega arith

pub raised_by_none : (cert : Items) (E : Env) (inf : Walking) (cmp : Script) (c : Context) (ts As : List Term) {r : Result (Unit {0}) WalkHalt} {t0 t1 : Trail} →
    Retraces (walk_check_all cert E inf cmp c (λ i. Rel (0 + i)) ts As (stand t0)) r t0 t1 → Retraces (walk_check_all cert E inf cmp c Rel ts As (stand t0)) r t0 t1
raised_by_none cert E inf cmp c ts As {r = r} {t0 = t0} {t1 = t1} p =
    subst (λ s. Retraces (walk_check_all cert E inf cmp c s ts As (stand t0)) r t0 t1) (λ j i. Rel (zero_raised i j)) p

-- the predicate at indices and a scrutinee is beyond the limits, or there is no memory for it
pub pred_fault : (ret : Term) (is : List Term) (t : Term) (f : MakeFault) (u : Trail) → (f ≡ DeepTerm → IsTrue (is_beyond (predicate_at ret is t))) →
    Retraces (by_rules (make (predicate_at ret is t)) (stand u)) (Err (walks.Stop (stop_of f))) u u
pred_fault ret is t DeepTerm u h =
    retraces_still (make (predicate_at ret is t)) (Err (halts.Stop TooDeep)) u (h refl)
pred_fault ret is t NoTerm u h = retraces_memory (by_rules (make (predicate_at ret is t)) (stand u)) u

-- what a scrutinee's type comes to is the family, or not

abbrev nothing : Unit {0}
nothing = tt

no_halt : (h : Halt) (u : Account) (i : ℕ) (g : WalkHalt) (t : Trail) → g ≡ halt_at i h → Halts (done nothing u) h u → Retraces (pass nothing (stand t)) (Err g) t t
no_halt (halts.Stop Spent) u i g t e h = absurd (cc)
no_halt (halts.Stop TooDeep) u i g t e h = absurd (cc)
no_halt (halts.Stop Memory) u i g t e h = rw e (retraces_memory (pass nothing (stand t)) t)
no_halt (halts.Broken b) u i g t e h = absurd (cc)

one_halt : (X : Broken) (h : Halt) (u : Account) (i : ℕ) (g : WalkHalt) (t : Trail) → g ≡ halt_at i h → Halts {A = Unit {0}} (refused X u) h u → Retraces {A = Unit {0}} (bar i (stand t)) (Err g) t t
one_halt X (halts.Stop Spent) u i g t e h = absurd (cc)
one_halt X (halts.Stop TooDeep) u i g t e h = absurd (cc)
one_halt X (halts.Stop Memory) u i g t e h = rw e (retraces_memory (bar i (stand t)) t)
one_halt X (halts.Broken b) u i g t e h = rw e (retraces_bar i t)

test_halts : (b : Bool) (X : Broken) (h : Halt) (u : Account) (i : ℕ) (g : WalkHalt) (t : Trail) → g ≡ halt_at i h → Halts (if b then done nothing u else refused X u) h u →
    Retraces (if b then pass nothing (stand t) else bar i (stand t)) (Err g) t t
test_halts true X h u i g t e k = no_halt h u i g t e k
test_halts false X h u i g t e k = one_halt X h u i g t e k

test_passes : (b : Bool) (X : Broken) (u : Account) (i : ℕ) (t : Trail) → Answers (if b then done nothing u else refused X u) (Ok nothing) u → Retraces (if b then pass nothing (stand t) else bar i (stand t)) (Ok nothing) t t
test_passes true X u i t h = retraces_pass nothing t
test_passes false X u i t h = absurd (cc)

abbrev halted : (A : Type 0) → WalkHalt → Result A WalkHalt
halted A h = Err h

err_is : (A : Type 0) {g h : WalkHalt} → halted A g ≡ halted A h → g ≡ h
err_is A e = cc

ok_no_err : {A : Type 0} {a : A} {g : WalkHalt} → Err g ≡ Ok a → ⊥
ok_no_err e = cc

module _ (f : FamilyId) (F : FamilyDecl) (i : ℕ) (W : Term) (t : Trail) where
  abbrev fits_family : Bool
  fits_family = is_the_family f (head W) && (length (args W) == length F.parameters + length F.indices)

  pub family_there : ((u : Account) → Answers (found_family f F W u) (Ok tt) u) → Retraces (walk_found_family f F i W (stand t)) (Ok tt) t t
  family_there h = test_passes fits_family (NotTheFamily W) t.meter.account i t (h t.meter.account)

  pub family_halts : (A : Type 0) (r : Result A Halt) (g : WalkHalt) → Err g ≡ barred_at i r → IfErr r (λ h. (u : Account) → Halts (found_family f F W u) h u) →
      Retraces (walk_found_family f F i W (stand t)) (Err g) t t
  family_halts A (Ok a) g e h = absurd (ok_no_err e)
  family_halts A (Err x) g e h = test_halts fits_family (NotTheFamily W) x t.meter.account i g t (err_is A e) (h t.meter.account)
