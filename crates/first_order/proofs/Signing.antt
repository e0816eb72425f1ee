-- The search for a signature, one argument at a time, and that what it finds is one.
use Rattle.std.proofs.Common.{◌≡◌, ◌≢◌, ◌∙◌, sym, ap, refl, subst as along, ℕ, zero, suc, ◌-◌, ◌<◌, Bool, true, false, if◌then◌else◌, List, [], ◌∷◌, ◌++◌, Some, None, Result, Ok, Err, IsErrAnd, IfOk, append_assoc, append-nil, arith}
use Rattle.std.proofs.lemmas.Result.{err_from_is_err_and}
use Rattle.pc_terms.specs.declared.term.MakeFault.{MakeFault}
use Rattle.pc_terms.specs.declared.term.MakeFault.TheVariants.{Memory as NoTerm}
use Rattle.pc_terms.specs.Syntax.{Term, Prod, shift}
use Rattle.calculus_rules.specs.Environment.{Env}
use Rattle.calculus_rules.specs.WeakHead.{WeakSteps, no_step, then_step}
use Rattle.calculus_rules.specs.FirstOrder.{Shape as Member, IsFirstOrder}
use Rattle.pc_rules.specs.declared.meter.Account.{Account}
use Rattle.pc_rules.specs.declared.meter.Meter.{Meter}
use Rattle.pc_rules.specs.declared.stop.Stop.{Stop as StopKind}
use Rattle.pc_rules.specs.declared.stop.Stop.TheVariants.{Spent, TooDeep, Memory}
use Rattle.pc_rules.specs.declared.stop.Halt.{Halt}
use Rattle.pc_rules.specs.declared.stop.Halt.TheVariants.{Stop}
use Rattle.pc_rules.specs.DirectedRun.{Run, Done, done, bind, Leaves}
use Rattle.pc_rules.specs.DirectedWeakHead.{whnf}
use Rattle.pc_rules.specs.DirectedFirstOrder.{Searched, Found, NotFirstOrder, with_found, without, or_not_first_order, first_order_search}
use Rattle.pc_rules.specs.Stops.{stop_of}
use Rattle.pc_rules.specs.Follows.{Follows, IsAfter}
use Rattle.pc_rules.specs.Leads.{Leads}
use Rattle.pc_rules.proofs.EvaluationRuns.{bind_came}
use Rattle.pc_rules.proofs.Fair.{leaves_bind, leaves_if, same_left}
use Rattle.pc_rules.proofs.FairReduction.{steps_lead, steps_leaves}
use Rattle.pc_rules.proofs.FairSearch.{steady_search, or_not_leaves}
use Rattle.pc_rules.proofs.Following.{leads_leave, follows_bind, follows_err, follows_done, bind_done}
use Rattle.pc_rules.proofs.SearchRuns.{search_is, with_found_came, done_found, or_not_is, without_is}
use Rattle.first_order.specs.declared.faults.ShapeRefusal.{ShapeRefusal}
use Rattle.first_order.specs.declared.faults.ShapeRefusal.TheVariants as of_types
use Rattle.first_order.specs.declared.faults.SignatureRefusal.{SignatureRefusal}
use Rattle.first_order.specs.declared.shapes.Signature.{Signature}
use Rattle.first_order.specs.Searching.{searched, refusal_of, as_is}
use Rattle.first_order.specs.Signature.{IsSignature, answers, takes}
use Rattle.first_order.specs.DirectedSignature.{Signed, Takes, TooManyArguments, before_arguments, one_argument, is_product, next_type, argument, answer_type, signature_within, signature_of, signature_search, signed, refusal_in, set_of, sets_of}
use Rattle.first_order.proofs.Searches.{then_done, with_leaves, then_leaves, collect_start, collect_next, collect_lost, collect_end, follows_found, follows_lost}
use Rattle.pc_rules.proofs.Leading.{leads_along, follows_leads}

-- ---- what follows an argument

module _ (E : Env) (W B : Term) where
  abbrev pub then_whnf : Term → Account → Run (Searched Term)
  then_whnf C v = bind (whnf E [] C v) (λ V w. done (Found V) w)

  pub names_variable : (T : Term) (m : Meter) → None ≡ without 1 B → T ≡ W → Follows (next_type E W B m.account) (Ok (NotFirstOrder T)) m m
  names_variable T m e t =
      along (λ o. Follows (with_found (or_not_first_order W o m.account) then_whnf) (Ok (NotFirstOrder T)) m m) e
      (along (λ T. Follows (with_found (done (NotFirstOrder W) m.account) then_whnf) (Ok (NotFirstOrder T)) m m) (sym t)
      (along (λ r. Follows r (Ok (NotFirstOrder W)) m m) (sym (bind_done (NotFirstOrder W) m.account _)) (follows_done (NotFirstOrder W) m)))

  pub codomain_reduced : (C : Term) (r : Result (Searched Term) Halt) (m0 m1 : Meter) → Some C ≡ without 1 B → Follows (then_whnf C m0.account) r m0 m1 → Follows (next_type E W B m0.account) r m0 m1
  codomain_reduced C r m0 m1 e f =
      along (λ o. Follows (with_found (or_not_first_order W o m0.account) then_whnf) r m0 m1) e
      (along (λ d. Follows d r m0 m1) (sym (bind_done (Found C) m0.account _)) f)

  pub whnf_found : (C V : Term) (m0 m1 : Meter) → Follows (whnf E [] C m0.account) (Ok V) m0 m1 → Follows (then_whnf C m0.account) (Ok (Found V)) m0 m1
  whnf_found C V m0 m1 f = follows_bind (whnf E [] C m0.account) (λ V w. done (Found V) w) V (Ok (Found V)) m0 m1 m1 f (follows_done (Found V) m1)

  pub whnf_stops : (C : Term) (s : StopKind) (m0 m1 : Meter) → Follows (whnf E [] C m0.account) (Err (Stop s)) m0 m1 → Follows (then_whnf C m0.account) (searched {A = Term} as_is (Err (refusal_of s))) m0 m1
  whnf_stops C Spent m0 m1 f = follows_err (whnf E [] C m0.account) (λ V w. done (Found V) w) (Stop Spent) m0 m1 f (λ V w. same_left w)
  whnf_stops C TooDeep m0 m1 f = follows_err (whnf E [] C m0.account) (λ V w. done (Found V) w) (Stop TooDeep) m0 m1 f (λ V w. same_left w)
  whnf_stops C Memory m0 m1 f = follows_err (whnf E [] C m0.account) (λ V w. done (Found V) w) (Stop Memory) m0 m1 f (λ V w. same_left w)

  -- no units are won on the way
  pub next_leaves : (u : Account) → Leaves (next_type E W B u).end u.left
  next_leaves u =
      with_leaves (or_not_first_order W (without 1 B) u) then_whnf u.left (or_not_leaves W (without 1 B) u)
      (λ C v. leaves_bind (whnf E [] C v) (λ V w. done (Found V) w) v.left (steps_leaves E [] v.left C v) (λ V w. same_left w))

-- ---- one argument

module _ (E : Env) (A B W : Term) (is : Prod A B ≡ W) where
  abbrev then_next : List Member → Account → Run (Searched (List Member × Term))
  then_next S v = with_found (next_type E W B v) (λ V w. done (Found (S, V)) w)

  then_next_leaves : (S : List Member) (v : Account) → Leaves (then_next S v).end v.left
  then_next_leaves S v = then_leaves (next_type E W B v) (λ V. (S, V)) v.left (next_leaves E W B v)

  of_product : (r : Result (Searched (List Member × Term)) Halt) (m0 m1 : Meter) → Follows (with_found (first_order_search E A m0.account) then_next) r m0 m1 → Follows (argument E W m0.account) r m0 m1
  of_product r m0 m1 f =
      along (λ T. Follows (with_found (first_order_search E A m0.account) (λ S v. with_found (next_type E T B v) (λ V w. done (Found (S, V)) w))) r m0 m1 → Follows (argument E T m0.account) r m0 m1) is (λ h. h) f

  pub argument_no_set : {X Y : Type 0} (f : X → List Member) (h : Y → List Member × Term) (e : ShapeRefusal) (m0 m1 : Meter) → Follows (first_order_search E A m0.account) (searched f (Err e)) m0 m1 →
      Follows (argument E W m0.account) (searched h (Err e)) m0 m1
  argument_no_set f h e m0 m1 p = of_product (searched h (Err e)) m0 m1 (follows_lost (first_order_search E A m0.account) then_next f h e m0 m1 p then_next_leaves)

  module _ (S : List Member) (m0 m1 m2 : Meter) (set : Follows (first_order_search E A m0.account) (Ok (Found S)) m0 m1) where
    pub argument_no_type : {X Y : Type 0} (f : X → Term) (h : Y → List Member × Term) (e : ShapeRefusal) → Follows (next_type E W B m1.account) (searched f (Err e)) m1 m2 →
        Follows (argument E W m0.account) (searched h (Err e)) m0 m2
    argument_no_type f h e p =
        of_product (searched h (Err e)) m0 m2 (follows_found (first_order_search E A m0.account) then_next S (searched h (Err e)) m0 m1 m2 set
        (follows_lost (next_type E W B m1.account) (λ V w. done (Found (S, V)) w) f h e m1 m2 p (λ V w. same_left w)))

    pub argument_found : (V : Term) → Follows (next_type E W B m1.account) (Ok (Found V)) m1 m2 → Follows (argument E W m0.account) (Ok (Found (S, V))) m0 m2
    argument_found V p =
        of_product (Ok (Found (S, V))) m0 m2 (follows_found (first_order_search E A m0.account) then_next S _ m0 m1 m2 set
        (follows_found (next_type E W B m1.account) (λ V w. done (Found (S, V)) w) V _ m1 m2 m2 p (follows_done (Found (S, V)) m2)))

-- ---- the search never goes back on units

argument_leaves : (E : Env) (W : Term) (u : Account) → Leaves (argument E W u).end u.left
argument_leaves E (Prod A B) u =
    with_leaves (first_order_search E A u) (then_next E A B (Prod A B) refl) u.left ((steady_search E 1024 A).falls u) (then_next_leaves E A B (Prod A B) refl)
argument_leaves E W u = same_left u

answer_leaves : (E : Env) (W : Term) (u : Account) → Leaves (answer_type E W u).end u.left
answer_leaves E W u = then_leaves (first_order_search E W u) (λ R. Takes [] R) u.left ((steady_search E 1024 W).falls u)

pub signature_leaves : (E : Env) (n : ℕ) (W : Term) (u : Account) → Leaves (signature_within E n W u).end u.left
unfolding signature_within
signature_leaves E zero W u = leaves_if (is_product W) (done (Found TooManyArguments) u) (answer_type E W u) u.left (same_left u) (answer_leaves E W u)
signature_leaves E (suc n) W u =
    leaves_if (is_product W) (with_found (argument E W u) (λ p v. then_done (signature_within E n p.1 v) (one_argument p.0))) (answer_type E W u) u.left
    (with_leaves (argument E W u) (λ p v. then_done (signature_within E n p.1 v) (one_argument p.0)) u.left (argument_leaves E W u)
    (λ p v. then_leaves (signature_within E n p.1 v) (one_argument p.0) v.left (signature_leaves E n p.1 v)))
    (answer_leaves E W u)

signature_of_leaves : (E : Env) (W : Term) (v : Account) → Leaves (signature_of E W v).end v.left
signature_of_leaves E W v = leaves_if (is_product W) (signature_within E 255 W v) (done (NotFirstOrder W) v) v.left (signature_leaves E 255 W v) (same_left v)

-- ---- arguments, one after another

-- how a search for a type ends is how one for a signature does
pub seen_alike : {A : Type 0} (r : Run (Searched Signed)) (f : A → Signed) (e : ShapeRefusal) (m0 m1 : Meter) → Follows r (searched f (Err e)) m0 m1 → Follows r (signed (Err (refusal_in e))) m0 m1
seen_alike r f (of_types.NotFirstOrder T) m0 m1 h = h
seen_alike r f of_types.Types m0 m1 h = h
seen_alike r f of_types.Spent m0 m1 h = h
seen_alike r f of_types.TooDeep m0 m1 h = h
seen_alike r f of_types.Memory m0 m1 h = h

-- there is no memory for what is found
pub signing_memory : {A : Type 0} (whole : Run (Searched Signed)) (rest : Run (Searched A)) (pre : A → Signed) (r : Result Signature SignatureRefusal) (x : MakeFault) (m0 m1 : Meter) → x ≡ NoTerm →
    IsErrAnd r (λ e. e ≡ refusal_in (refusal_of (stop_of x))) → Leads whole (then_done rest pre) → IsAfter m0 m1 → Leaves rest.end m1.account.left → Follows whole (signed r) m0 m1
signing_memory whole rest pre r x m0 m1 e h l after n =
    let p = err_from_is_err_and r h in
    let f : Follows whole (Err (Stop Memory)) m0 m1 = record { answer = tt; after = after; leaves = leads_leave whole (then_done rest pre) m1.account.left l (then_leaves rest pre m1.account.left n) } in
    rw (p.1, p.2, e) f

before_more : (Ss : List (List Member)) (S : List Member) (s : Signed) → before_arguments Ss (one_argument S s) ≡ before_arguments (Ss ++ (S ∷ [])) s
before_more Ss S (Takes Ts R) = ap (λ xs. Takes xs R) (sym (append_assoc Ss (S ∷ []) Ts))
before_more Ss S TooManyArguments = refl

before_none : (s : Signed) → s ≡ before_arguments [] s
before_none (Takes Ts R) = refl
before_none TooManyArguments = refl

module _ (E : Env) where
  -- the rest of the search, where so many arguments have been taken
  abbrev pub signing : ℕ → Term → Account → Run (Searched Signed)
  signing i W u = signature_within E (255 - i) W u

  takes_one : (n : ℕ) (W : Term) (u : Account) → is_product W ≡ true →
      signature_within E (suc n) W u ≡ with_found (argument E W u) (λ p v. then_done (signature_within E n p.1 v) (one_argument p.0))
  unfolding signature_within
  takes_one n W u e = ap (λ b. if b then with_found (argument E W u) (λ p v. then_done (signature_within E n p.1 v) (one_argument p.0)) else answer_type E W u) e

  takes_none : (W : Term) (u : Account) → is_product W ≡ true → signature_within E zero W u ≡ done (Found TooManyArguments) u
  unfolding signature_within
  takes_none W u e = ap (λ b. if b then done (Found TooManyArguments) u else answer_type E W u) e

  takes_last : (n : ℕ) (W : Term) (u : Account) → is_product W ≡ false → signature_within E n W u ≡ answer_type E W u
  unfolding signature_within
  takes_last zero W u e = ap (λ b. if b then done (Found TooManyArguments) u else answer_type E W u) e
  takes_last (suc n) W u e = ap (λ b. if b then with_found (argument E W u) (λ p v. then_done (signature_within E n p.1 v) (one_argument p.0)) else answer_type E W u) e

  pub signing_starts : (W : Term) (u : Account) → Leads (signature_within E 255 W u) (then_done (signing 0 W u) (before_arguments []))
  signing_starts W u =
      leads_along (signature_within E 255 W u) _ _ (λ i. then_done (signing 0 W u) (λ s. before_none s i)) (collect_start (signature_within E 255 W u))

  module _ (whole : Run (Searched Signed)) (W : Term) (Ss : List (List Member)) (i : ℕ) (u : Account) (leads : Leads whole (then_done (signing i W u) (before_arguments Ss))) where
    at_argument : is_product W ≡ true → i < 255 →
        Leads whole (then_done (with_found (argument E W u) (λ p v. then_done (signing (suc i) p.1 v) (one_argument p.0))) (before_arguments Ss))
    at_argument is lt =
        let fuel : 255 - i ≡ suc (255 - suc i) = omega (arith, lt) in
        leads_along whole _ _ ((λ k. then_done (signature_within E (fuel k) W u) (before_arguments Ss)) ∙ ap (λ r. then_done r (before_arguments Ss)) (takes_one (255 - suc i) W u is)) leads

    pub argument_next : is_product W ≡ true → i < 255 → (S : List Member) (V : Term) (v : Account) → (argument E W u).end ≡ Done (Found (S, V)) v → (Ts : List (List Member)) (j : ℕ) → Ts ≡ Ss ++ (S ∷ []) →
        j ≡ suc i → Leads whole (then_done (signing j V v) (before_arguments Ts))
    argument_next is lt S V v e Ts j t k =
        leads_along whole _ _ ((λ x. then_done (signing (suc i) V v) (λ s. before_more Ss S s x)) ∙ (λ x. then_done (signing (sym k x) V v) (before_arguments (sym t x))))
        (collect_next whole (argument E W u) (λ p v. signing (suc i) p.1 v) (λ p s. one_argument p.0 s) (before_arguments Ss) (S, V) v (at_argument is lt) e)

    pub argument_lost : is_product W ≡ true → i < 255 → {X : Type 0} (f : X → List Member × Term) (e : ShapeRefusal) (m0 m1 m2 : Meter) → IsAfter m0 m1 →
        Follows (argument E W u) (searched f (Err e)) m1 m2 → Follows whole (signed (Err (refusal_in e))) m0 m2
    argument_lost is lt f e m0 m1 m2 after p =
        seen_alike {A = Signed} whole (λ s. s) e m0 m2
        (collect_lost whole (argument E W u) (λ p v. signing (suc i) p.1 v) (λ p s. one_argument p.0 s) (before_arguments Ss) f (λ (s : Signed). s) e m0 m1 m2 (at_argument is lt) after p
        (λ p v. signature_leaves E (255 - suc i) p.1 v))

    pub too_many : is_product W ≡ true → i ≡ 255 → (m0 m1 : Meter) → u ≡ m1.account → IsAfter m0 m1 → Follows whole (Ok (Found TooManyArguments)) m0 m1
    too_many is full m0 m1 same after =
        let fuel : 255 - i ≡ 0 = omega (arith, full) in
        collect_end whole (signing i W u) (before_arguments Ss) TooManyArguments m0 m1
        ((λ k. signature_within E (fuel k) W u) ∙ takes_none W u is ∙ ap (done (Found TooManyArguments)) same) leads after

    at_answer : is_product W ≡ false → Leads whole (then_done (answer_type E W u) (before_arguments Ss))
    at_answer is = leads_along whole _ _ (ap (λ r. then_done r (before_arguments Ss)) (takes_last (255 - i) W u is)) leads

    pub answer_found : is_product W ≡ false → (R : List Member) (m0 m1 m2 : Meter) → u ≡ m1.account → IsAfter m0 m1 → Follows (first_order_search E W u) (Ok (Found R)) m1 m2 →
        Follows whole (Ok (Found (Takes Ss R))) m0 m2
    answer_found is R m0 m1 m2 same after p =
        along (λ xs. Follows whole (Ok (Found (Takes xs R))) m0 m2) (append-nil Ss)
        (follows_leads whole (then_done (answer_type E W u) (before_arguments Ss)) (Ok (Found (before_arguments Ss (Takes [] R)))) m0 m1 m2 (at_answer is) after
        (follows_found (answer_type E W u) (λ s w. done (Found (before_arguments Ss s)) w) (Takes [] R) _ m1 m2 m2
        (follows_found (first_order_search E W u) (λ R v. done (Found (Takes [] R)) v) R _ m1 m2 m2 p (follows_done (Found (Takes [] R)) m2))
        (follows_done (Found (before_arguments Ss (Takes [] R))) m2)))

    pub answer_lost : is_product W ≡ false → {X : Type 0} (f : X → List Member) (e : ShapeRefusal) (m0 m1 m2 : Meter) → IsAfter m0 m1 → Follows (first_order_search E W u) (searched f (Err e)) m1 m2 →
        Follows whole (signed (Err (refusal_in e))) m0 m2
    answer_lost is f e m0 m1 m2 after p =
        seen_alike {A = Signed} whole (λ s. s) e m0 m2
        (follows_leads whole (then_done (answer_type E W u) (before_arguments Ss)) (searched (λ (s : Signed). s) (Err e)) m0 m1 m2 (at_answer is) after
        (follows_lost (answer_type E W u) (λ s w. done (Found (before_arguments Ss s)) w) (λ (s : Signed). s) (λ (s : Signed). s) e m1 m2
        (follows_lost (first_order_search E W u) (λ R v. done (Found (Takes [] R)) v) f (λ (s : Signed). s) e m1 m2 p (λ R v. same_left v)) (λ s w. same_left w)))

-- ---- the whole search

module _ (E : Env) (T : Term) where
  pub type_stops : (s : StopKind) (m0 m1 : Meter) → Follows (whnf E [] T m0.account) (Err (Stop s)) m0 m1 → Follows (signature_search E T m0.account) (signed (Err (refusal_in (refusal_of s)))) m0 m1
  type_stops Spent m0 m1 f = follows_err (whnf E [] T m0.account) (λ W v. signature_of E W v) (Stop Spent) m0 m1 f (signature_of_leaves E)
  type_stops TooDeep m0 m1 f = follows_err (whnf E [] T m0.account) (λ W v. signature_of E W v) (Stop TooDeep) m0 m1 f (signature_of_leaves E)
  type_stops Memory m0 m1 f = follows_err (whnf E [] T m0.account) (λ W v. signature_of E W v) (Stop Memory) m0 m1 f (signature_of_leaves E)

  pub no_product : (W : Term) (m0 m1 : Meter) → Follows (whnf E [] T m0.account) (Ok W) m0 m1 → is_product W ≡ false → Follows (signature_search E T m0.account) (Ok (NotFirstOrder W)) m0 m1
  no_product W m0 m1 f e =
      follows_bind (whnf E [] T m0.account) (λ W v. signature_of E W v) W (Ok (NotFirstOrder W)) m0 m1 m1 f
      (along (λ b. Follows (if b then signature_within E 255 W m1.account else done (NotFirstOrder W) m1.account) (Ok (NotFirstOrder W)) m1 m1) (sym e) (follows_done (NotFirstOrder W) m1))

  pub a_product : (W : Term) (r : Result (Searched Signed) Halt) (m0 m1 m2 : Meter) → Follows (whnf E [] T m0.account) (Ok W) m0 m1 → is_product W ≡ true → Follows (signature_within E 255 W m1.account) r m1 m2 →
      Follows (signature_search E T m0.account) r m0 m2
  a_product W r m0 m1 m2 f e g =
      follows_bind (whnf E [] T m0.account) (λ W v. signature_of E W v) W r m0 m1 m2 f
      (along (λ b. Follows (if b then signature_within E 255 W m1.account else done (NotFirstOrder W) m1.account) r m1 m2) (sym e) g)

-- ---- what is found is a signature

reduced : {E : Env} (T W U : Term) → WeakSteps E [] T W → WeakSteps E [] W U → WeakSteps E [] T U
reduced T W U no_step q = q
reduced T W U (then_step {u = x} p ps) q = then_step p (reduced x W U ps q)

before_steps : {E : Env} (T W : Term) (Ss : List (List Member)) (R : List Member) → WeakSteps E [] T W → IsSignature E W Ss R → IsSignature E T Ss R
before_steps T W Ss R p (answers f) = answers (record { first = (f.first.0, f.first.1, reduced T W _ p f.first.2); members = f.members })
before_steps T W Ss R p (takes {A = A} {B = B} q f e s) = takes (reduced T W (Prod A B) p q) f e s

abbrev IsSigned : Env → Term → Signed → Type 0
IsSigned E W (Takes Ss R) = IsSignature E W Ss R
IsSigned E W TooManyArguments = Unit {0}

answer_is : (E : Env) (W : Term) (u w : Account) (s : Signed) → (answer_type E W u).end ≡ Done (Found s) w → IsSigned E W s
answer_is E W u w s h =
    let a = with_found_came (first_order_search E W u) (λ R v. done (Found (Takes [] R)) v) h in
    along (IsSigned E W) (done_found a.3) (answers (search_is E 1024 W a.0 u a.1 a.2))

one_more : (E : Env) (A B C V : Term) (S : List Member) (s : Signed) → IsFirstOrder E A S → B ≡ shift 1 0 C → WeakSteps E [] C V → IsSigned E V s → IsSigned E (Prod A B) (one_argument S s)
one_more E A B C V S (Takes Ss R) f e p h = takes no_step f e (before_steps C V Ss R p h)
one_more E A B C V S TooManyArguments f e p h = h

argument_is : (E : Env) (W : Term) (u v : Account) (q : List Member × Term) → (argument E W u).end ≡ Done (Found q) v → (s : Signed) → IsSigned E q.1 s → IsSigned E W (one_argument q.0 s)
argument_is E (Prod A B) u v q h s i =
    let a = with_found_came (first_order_search E A u) (λ S v. with_found (next_type E (Prod A B) B v) (λ V w. done (Found (S, V)) w)) h in
    let b = with_found_came (next_type E (Prod A B) B a.1) (λ V w. done (Found (a.0, V)) w) a.3 in
    let c = with_found_came (or_not_first_order (Prod A B) (without 1 B) a.1) (λ C v. bind (whnf E [] C v) (λ V w. done (Found V) w)) b.2 in
    let d = bind_came (whnf E [] c.0 c.1) (λ V w. done (Found V) w) c.3 in
    let e = done_found b.3 in
    let x = done_found d.3 in
    along (λ S. IsSigned E (Prod A B) (one_argument S s)) (ap (λ p. p.0) e)
    (one_more E A B c.0 b.0 a.0 s (search_is E 1024 A a.0 u a.1 a.2) (without_is 1 B c.0 (or_not_is (Prod A B) (without 1 B) a.1 c.1 c.0 c.2))
    (along (λ V. WeakSteps E [] c.0 V) x (steps_lead E [] (c.1).left c.0 d.0 c.1 d.1 d.2)) (along (λ V. IsSigned E V s) (sym (ap (λ p. p.1) e)) i))
argument_is E W u v q h s i = absurd (cc)

within_is : (E : Env) (n : ℕ) (W : Term) (u w : Account) (s : Signed) → (b : Bool) → is_product W ≡ b → (signature_within E n W u).end ≡ Done (Found s) w → IsSigned E W s
within_is E n W u w s false e h = answer_is E W u w s (sym (ap (λ r. r.end) (takes_last E n W u e)) ∙ h)
within_is E zero W u w s true e h = along (IsSigned E W) (done_found (sym (ap (λ r. r.end) (takes_none E W u e)) ∙ h)) tt
within_is E (suc n) W u w s true e h =
    let a = with_found_came (argument E W u) (λ p v. then_done (signature_within E n p.1 v) (one_argument p.0)) (sym (ap (λ r. r.end) (takes_one E n W u e)) ∙ h) in
    let b = with_found_came (signature_within E n (a.0).1 a.1) (λ s w. done (Found (one_argument (a.0).0 s)) w) a.3 in
    along (IsSigned E W) (done_found b.3) (argument_is E W u a.1 a.0 a.2 b.0 (within_is E n (a.0).1 a.1 b.1 b.0 (is_product (a.0).1) refl b.2))

of_is : (E : Env) (W : Term) (u w : Account) (s : Signed) → (b : Bool) → is_product W ≡ b → (if b then signature_within E 255 W u else done (NotFirstOrder W) u).end ≡ Done (Found s) w → IsSigned E W s
of_is E W u w s true e h = within_is E 255 W u w s true e h
of_is E W u w s false e h = absurd (cc)

pub signature_is : (E : Env) (T : Term) (Ss : List (List Member)) (R : List Member) (u w : Account) → (signature_search E T u).end ≡ Done (Found (Takes Ss R)) w → IsSignature E T Ss R
signature_is E T Ss R u w h =
    let a = bind_came (whnf E [] T u) (λ W v. signature_of E W v) h in
    before_steps T a.0 Ss R (steps_lead E [] u.left T a.0 u a.1 a.2) (of_is E a.0 a.1 w (Takes Ss R) (is_product a.0) refl a.3)

pub found_is : (E : Env) (T : Term) (r : Result Signature SignatureRefusal) (m0 m1 : Meter) → Follows (signature_search E T m0.account) (signed r) m0 m1 →
    IfOk r (λ s. IsSignature E T (sets_of s.args) (set_of s.answer))
found_is E T (Ok s) m0 m1 f = signature_is E T (sets_of s.args) (set_of s.answer) m0.account m1.account f.answer
found_is E T (Err e) m0 m1 f = tt

-- and it takes an argument
some_sets : (S : List Member) (s : Signed) (Ss : List (List Member)) (R : List Member) → one_argument S s ≡ Takes Ss R → Ss ≢ []
some_sets S (Takes Ts Q) Ss R e none = let x : Takes (S ∷ Ts) Q ≡ Takes [] R = e ∙ ap (λ xs. Takes xs R) none in absurd (cc)
some_sets S TooManyArguments Ss R e none = absurd (cc)

takes_some : (E : Env) (n : ℕ) (W : Term) (u w : Account) (Ss : List (List Member)) (R : List Member) → is_product W ≡ true → (signature_within E n W u).end ≡ Done (Found (Takes Ss R)) w → Ss ≢ []
takes_some E zero W u w Ss R e h = let x = done_found (sym (ap (λ r. r.end) (takes_none E W u e)) ∙ h) in absurd (cc)
takes_some E (suc n) W u w Ss R e h =
    let a = with_found_came (argument E W u) (λ p v. then_done (signature_within E n p.1 v) (one_argument p.0)) (sym (ap (λ r. r.end) (takes_one E n W u e)) ∙ h) in
    let b = with_found_came (signature_within E n (a.0).1 a.1) (λ s w. done (Found (one_argument (a.0).0 s)) w) a.3 in
    some_sets (a.0).0 b.0 Ss R (done_found b.3)

pub found_takes : (E : Env) (W : Term) (r : Result Signature SignatureRefusal) (m0 m1 : Meter) → is_product W ≡ true → Follows (signature_within E 255 W m0.account) (signed r) m0 m1 → IfOk r (λ s. s.args ≢ [])
found_takes E W (Ok s) m0 m1 e f = λ none. takes_some E 255 W m0.account m1.account (sets_of s.args) (set_of s.answer) e f.answer (ap sets_of none)
found_takes E W (Err x) m0 m1 e f = tt
