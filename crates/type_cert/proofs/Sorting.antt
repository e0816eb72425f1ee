-- How calls go along walks that leave their results out, and the sorts of sorts, of which no term is made.
use Rattle.std.proofs.Common.{◌≡◌, ◌∙◌, ◌+◌, ◌<◌, ℕ, zero, suc, sym, subst as transport, refl, [], Result, Ok, Err, Some, None, IsErrAnd, slice_get, arith}
use Rattle.std.proofs.lemmas.Result.{err_from_is_err_and}
use Rattle.universe_levels.specs.declared.sort.Sort.{Sort}
use Rattle.universe_levels.specs.Sorts.{super_sort}
use Rattle.pc_terms.specs.Formed.{IsFormed}
use Rattle.pc_terms.specs.declared.leaf.FamilyId.{FamilyId}
use Rattle.pc_terms.specs.Syntax.{Term, SortT, Ind}
use Rattle.calculus_rules.specs.declared.declaration.Block.{Block}
use Rattle.calculus_rules.specs.Environment.{Env, FamilyDecl, family_at}
use Rattle.calculus_rules.specs.Instances.{products, family_type}
use Rattle.calculus_rules.specs.Lookups.{kept_at, known_block}
use Rattle.calculus_rules.specs.Context.{Context, values}
use Rattle.pc_rules.specs.declared.meter.Account.{Account}
use Rattle.pc_rules.specs.DirectedRun.{Run, ticked}
use Rattle.pc_rules.specs.DirectedTyping.{undeclared_in, sort_rule, ind_rule}
use Rattle.pc_rules.specs.Entailment.{test_of}
use Rattle.pc_rules.specs.Follows.{Answers}
use Rattle.pc_rules.specs.WellCounted.{IsCounted}
use Rattle.pc_rules.proofs.Meters.{after-tick}
use Rattle.type_infer.specs.Ready.{IsReady}
use Rattle.type_infer.proofs.Entries.{sort_made}
use Rattle.type_infer.proofs.Declaring.{family_made}
use Rattle.cert_rules.specs.declared.item.CertItem.TheVariants.{Number}
use Rattle.cert_rules.specs.Walk.{Items, WalkState, Walk, tick, walk_on, by_rules}
use Rattle.cert_rules.specs.WalkSteps.{reduced}
use Rattle.cert_rules.specs.Scripts.{script}
use Rattle.cert_rules.specs.WalkTyping.{Walking, walk_infer, walk_rule, walk_sort_of, walk_sort_found}
use Rattle.type_cert.specs.declared.halt.WalkHalt.{WalkHalt}
use Rattle.type_cert.specs.declared.trail.Trail.{Trail}
use Rattle.type_cert.specs.Retraces.{stand, WalkAnswers, Retraces}
use Rattle.type_cert.specs.Unread.{RetracesSort, RetracesUnread}
use Rattle.type_cert.proofs.Retracing.{retraces_on, retraces_answers, ticking_more}
use Rattle.type_cert.proofs.Scripting.{further}
use Rattle.type_cert.proofs.Inferring.{inferred_from, sort_there}
use Rattle.type_cert.proofs.WalkedPendings.{no_steps}

-- a call that leaves its result out
pub unread_done : {A : Type 0} {d : Walk A} {a : A} {t0 t1 : Trail} → Retraces d (Ok a) t0 t1 → RetracesUnread d (Ok tt) t0 t1
unread_done {a = a} f = record { unread = (a, f); after = f.after }

pub unread_halts : {A : Type 0} {d : Walk A} {h : WalkHalt} {t0 t1 : Trail} → Retraces d (Err h) t0 t1 → RetracesUnread d (Err h) t0 t1
unread_halts f = record { unread = f; after = f.after }

pub unread_passed : {A : Type 0} {d : Walk A} {r : Result (Unit {0}) WalkHalt} {h : WalkHalt} {t0 t1 : Trail} → IsErrAnd r (λ e. e ≡ h) → Retraces d (Err h) t0 t1 → RetracesUnread d r t0 t1
unread_passed {r = r} e f =
    let p = err_from_is_err_and r e in
    rw (p.1, p.2) (unread_halts f)

-- a sort that is given as a term
pub sort_given : {d : Walk Sort} {s : Sort} {t : Term} {t0 t1 : Trail} → SortT s ≡ t → Retraces d (Ok s) t0 t1 → RetracesSort d (Ok t) t0 t1
sort_given {s = s} e f = record { sorts = (s, (e, f)); after = f.after }

pub given_halts : {d : Walk Sort} {h : WalkHalt} {t0 t1 : Trail} → Retraces d (Err h) t0 t1 → RetracesSort d (Err h) t0 t1
given_halts f = record { sorts = f; after = f.after }

pub given_passed : {d : Walk Sort} {r : Result Term WalkHalt} {h : WalkHalt} {t0 t1 : Trail} → IsErrAnd r (λ e. e ≡ h) → Retraces d (Err h) t0 t1 → RetracesSort d r t0 t1
given_passed {r = r} e f =
    let p = err_from_is_err_and r e in
    rw (p.1, p.2) (given_halts f)

pub given_on : {A : Type 0} {d : Walk A} {a : A} (r : Result Term WalkHalt) {t0 t1 t2 : Trail} (k : A → WalkState → Walk Sort) → Retraces d (Ok a) t0 t1 → RetracesSort (k a (stand t1)) r t1 t2 →
    RetracesSort (walk_on d k) r t0 t2
given_on (Ok t) k p q = sort_given q.sorts.1.0 (retraces_on k p q.sorts.1.1)
given_on (Err h) k p q = given_halts (retraces_on k p q.sorts)

sort_is : {s r : Sort} → SortT s ≡ SortT r → s ≡ r
sort_is e = cc

-- and the sort that it is
pub sort_taken : {d : Walk Sort} {s r : Sort} {t : Term} {t0 t1 : Trail} → RetracesSort d (Ok t) t0 t1 → SortT s ≡ t → r ≡ s → Retraces d (Ok r) t0 t1
sort_taken {d = d} {s = s} {r = r} {t0 = t0} {t1 = t1} f e p = transport (λ x. Retraces d (Ok x) t0 t1) (sort_is (f.sorts.1.0 ∙ sym e) ∙ sym p) f.sorts.1.1

-- a type that is a sort stays as it is where a number asks for no step
pub sort_stays : (cert : Items) (E : Env) (inf : Walking) (c : Context) {T : Term} {s : Sort} {t0 t1 : Trail} → SortT s ≡ T → slice_get cert t0.at ≡ Some (Number 0) → t1.meter ≡ t0.meter → t1.at ≡ t0.at + 1 →
    Retraces (walk_on (reduced cert E (values c) T (stand t0)) (λ r w. walk_sort_found inf c r.item r.count r.term w)) (Ok s) t0 t1
sort_stays cert E inf c {T = T} {s = s} {t0 = t0} {t1 = t1} e z m n =
    let one : further t0 ≡ t1 = λ i. record { meter = sym m i; at = sym n i } in
    transport (λ t. Retraces (walk_on (reduced cert E (values c) T (stand t0)) (λ r w. walk_sort_found inf c r.item r.count r.term w)) (Ok s) t0 t) one
    (retraces_on _ (no_steps cert E c T t0 z) (sort_there inf c t0.at 0 e (further t0) s refl refl))

-- what is inferred of a term of which no part is

pub infer_leaf : (cert : Items) (E : Env) (c : Context) (x T : Term) (f : Account → Run Term) →
    ((k : ℕ) (s : WalkState) → walk_rule cert E (walk_infer cert E (test_of E) k) (script cert E (test_of E) k) c x s ≡ by_rules f s) → (n : ℕ) (t0 t1 : Trail) → 0 < n → 0 < t0.meter.account.left →
    t1.meter.account ≡ ticked t0.meter.account → t1.meter.nest ≡ t0.meter.nest → t1.at ≡ t0.at → Answers (f t1.meter.account) (Ok T) t1.meter.account →
    Retraces (walk_infer cert E (test_of E) n c x (stand t0)) (Ok T) t0 t1
unfolding walk_infer
infer_leaf cert E c x T f leaf zero t0 t1 z h e n g a = absurd (omega arith)
infer_leaf cert E c x T f leaf (suc k) t0 t1 z h e n g a =
    let go : WalkState → Walk Term = λ v. walk_rule cert E (walk_infer cert E (test_of E) k) (script cert E (test_of E) k) c x v in
    let p : Retraces (by_rules f (stand t1)) (Ok T) t1 t1 = retraces_answers f (Ok T) refl a in
    let s1 : stand t1 ≡ tick (stand t0) = λ i. record { account = e i; at = g i } in
    let w : WalkAnswers (by_rules f (tick (stand t0))) (Ok T) (stand t1) = transport (λ y. WalkAnswers (by_rules f y) (Ok T) (stand t1)) s1 p.answer in
    let w' : WalkAnswers (go (tick (stand t0))) (Ok T) (stand t1) = transport (λ d. WalkAnswers d (Ok T) (stand t1)) (sym (leaf k (tick (stand t0)))) w in
    rw (ticking_more (stand t0) go h) (record { answer = w'; after = after-tick t0.meter t1.meter e n })

module _ (cert : Items) (E : Env) (c : Context) (n : ℕ) (t0 t1 : Trail) (z : 0 < n) (h : 0 < t0.meter.account.left) (e : t1.meter.account ≡ ticked t0.meter.account)
    (k : t1.meter.nest ≡ t0.meter.nest) (g : t1.at ≡ t0.at) where
  -- the sort of a sort
  pub infer_sort : (s : Sort) → undeclared_in E.levels s ≡ None → Retraces (walk_infer cert E (test_of E) n c (SortT s) (stand t0)) (Ok (SortT (super_sort s))) t0 t1
  infer_sort s d = infer_leaf cert E c (SortT s) (SortT (super_sort s)) (sort_rule E s) (λ j v. refl) n t0 t1 z h e k g (sort_made E s t1.meter.account (super_sort s) (SortT (super_sort s)) d refl refl)

  -- a family whose type is a sort
  pub infer_family : (f : FamilyId) (s : Sort) → ((u : Account) → Answers (ind_rule E f u) (Ok (SortT s)) u) → Retraces (walk_infer cert E (test_of E) n c (Ind f) (stand t0)) (Ok (SortT s)) t0 t1
  infer_family f s a = infer_leaf cert E c (Ind f) (SortT s) (ind_rule E f) (λ j v. refl) n t0 t1 z h e k g (a t1.meter.account)

-- a family without parameters and indices has its sort as its type
pub plain_family : (E : Env) (f : FamilyId) (B : Block) (F : FamilyDecl) → known_block (kept_at E.declarations f.block) ≡ Some B → family_at B f.family ≡ Some F → F.parameters ≡ [] → F.indices ≡ [] →
    (u : Account) → Answers (ind_rule E f u) (Ok (SortT F.sort)) u
plain_family E f B F e d p q u =
    let y : SortT F.sort ≡ family_type F = λ i. products (sym p i) (products (sym q i) (SortT F.sort)) in
    family_made E f u B F e d (SortT F.sort) y

-- a term that has a sort so

module _ (cert : Items) (E : Env) (c : Context) (n : ℕ) {x t : Term} {s : Sort} (e : x ≡ t) (t0 t1 : Trail)
    (f : Retraces (walk_infer cert E (test_of E) n c x (stand t0)) (Ok (SortT s)) t0 (record { meter = t1.meter; at = t0.at })) where
  sort_done : slice_get cert t0.at ≡ Some (Number 0) → t1.at ≡ t0.at + 1 → RetracesUnread (walk_sort_of cert E (walk_infer cert E (test_of E) n) c x (stand t0)) (Ok tt) t0 t1
  unfolding walk_sort_of
  sort_done z p = unread_done (retraces_on _ f (sort_stays cert E (walk_infer cert E (test_of E) n) c refl z refl p))

  pub sort_passes : slice_get cert t0.at ≡ Some (Number 0) → t1.at ≡ t0.at + 1 → RetracesUnread (walk_sort_of cert E (walk_infer cert E (test_of E) n) c t (stand t0)) (Ok tt) t0 t1
  sort_passes z p = transport (λ t. RetracesUnread (walk_sort_of cert E (walk_infer cert E (test_of E) n) c t (stand t0)) (Ok tt) t0 t1) e (sort_done z p)

  pub sort_counted : IsReady E c → IsFormed t → IsCounted E t
  sort_counted h k =
      let m : IsFormed x = transport (λ t. IsFormed t) (sym e) k in
      transport (λ t. IsCounted E t) e (inferred_from cert E c x h m n (Ok (SortT s)) t0 (record { meter = t1.meter; at = t0.at }) f).subject
