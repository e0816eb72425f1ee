-- Sorts as types: a type that is a sort, the sort of a sort, and two sorts compared.
use Rattle.std.proofs.Common.{◌≡◌, refl, sym, subst as transport, ℕ, zero, suc, ◌<◌, ◌+◌, ◌-◌, true, false, if◌then◌else◌, Result, Ok, Err, IfOk, arith, inl, inr}
use Rattle.universe_levels.specs.declared.sort.Sort.{Sort}
use Rattle.universe_levels.specs.Sorts.{super_sort}
use Rattle.universe_levels.specs.Consistency.{IsSortOver}
use Rattle.trees.specs.Measures.{IsBeyond}
use Rattle.pc_terms.specs.declared.term.MakeFault.{MakeFault}
use Rattle.pc_terms.specs.declared.term.MakeFault.TheVariants.{TooDeep as DeepTerm, Memory as NoTerm}
use Rattle.pc_terms.specs.Formed.{IsFormed}
use Rattle.pc_terms.specs.Syntax.{Term, SortT}
use Rattle.calculus_rules.specs.Environment.{Env}
use Rattle.calculus_rules.specs.Context.{Context, values}
use Rattle.calculus_rules.specs.Same.{same}
use Rattle.pc_rules.specs.declared.broken.Broken.TheVariants.{NotBelow}
use Rattle.pc_rules.specs.declared.broken.Clash.TheVariants.{Sorts as ClashOfSorts}
use Rattle.pc_rules.specs.declared.meter.Account.{Account}
use Rattle.pc_rules.specs.declared.meter.Meter.{Meter}
use Rattle.pc_rules.specs.declared.stop.Stop.TheVariants.{Spent, TooDeep}
use Rattle.pc_rules.specs.declared.stop.Halt.{Halt}
use Rattle.pc_rules.specs.declared.stop.Halt.TheVariants.{Stop, Broken as Refusal}
use Rattle.pc_rules.specs.DirectedRun.{ticked, noted, too_nested, done, refused}
use Rattle.pc_rules.specs.DirectedComparison.{Test, Comparison, compare, entered, sort_below}
use Rattle.pc_rules.specs.DirectedTyping.{infer, sort_of, sort_rule}
use Rattle.pc_rules.specs.Follows.{Answers, Follows}
use Rattle.pc_rules.specs.WellCounted.{IsCounted}
use Rattle.pc_rules.specs.Entailment.{test_of}
use Rattle.pc_rules.proofs.Following.{follows_spent, follows_nested, follows_tick, follows_whnf_stays}
use Rattle.pc_rules.proofs.Leaving.{leaving}
use Rattle.pc_rules.proofs.SameTrees.{same_itself}
use Rattle.type_infer.specs.Ready.{IsReady}
use Rattle.type_infer.specs.Unread.{FollowsUnread, sort_of_type, with_result}
use Rattle.type_infer.proofs.Answering.{answers_bind, answers_stays}
use Rattle.type_infer.proofs.Beginning.{infer_entered, inferred_from}
use Rattle.type_infer.proofs.Finding.{sort_found_same}
use Rattle.type_infer.proofs.Steps.{and_then, halts, still, unread_done, unread_halts}

-- the levels of a sort that is well counted are declared
pub over_from : (E : Env) (s : Sort) (a : Term) → SortT s ≡ a → IsCounted E a → IsSortOver E.levels s
over_from E s a e h = (transport (λ t. IsCounted E t) (sym e) h).0.1

-- a sort passes no limit, so it is made or there is no memory for it
not_beyond : (s : Sort) → IsBeyond (SortT s) → ⊥
not_beyond s (inl h) = omega (arith, h)
not_beyond s (inr h) = omega (arith, h)

pub sort_memory : (s : Sort) (f : MakeFault) → (f ≡ DeepTerm → IsBeyond (SortT s)) → f ≡ NoTerm
sort_memory s DeepTerm h = absurd (not_beyond s (h refl))
sort_memory s NoTerm h = refl

-- a type that is a sort stays as it is
pub sort_stays : (E : Env) (n : ℕ) (c : Context) (T : Term) (s r : Sort) {m : Meter} → SortT s ≡ T → r ≡ s → Follows (sort_of_type E (infer E (test_of E) n) c T m.account) (Ok r) m m
sort_stays E n c T s r {m = m} e p =
    transport (λ T. Follows (sort_of_type E (infer E (test_of E) n) c T m.account) (Ok r) m m) e
    (and_then _ (follows_whnf_stays E (values c) (SortT s) (SortT s) m refl refl) (sort_found_same E n c (SortT s) (SortT s) s refl (same_itself (SortT s)) p))

-- the sort of a sort, of which no term is made

pub infer_sort : (E : Env) (s : Sort) (c : Context) (n : ℕ) (r : Result (Unit {0}) Halt) (m0 m1 m2 m3 m4 : Meter) → 0 < n → 0 < m0.account.left → m1.account ≡ ticked m0.account → m1.nest ≡ m0.nest →
    m2.account ≡ m1.account → m2.nest ≡ m1.nest + 1 → m3.account ≡ noted 2 m2.account → m3.nest ≡ m2.nest →
    ((u : Account) → Answers (sort_rule E s u) (with_result (SortT (super_sort s)) r) u) → m4.account ≡ m3.account → m4.nest ≡ m3.nest - 1 →
    Follows (infer E (test_of E) n c (SortT s) m0.account) (with_result (SortT (super_sort s)) r) m0 m4
infer_sort E s c n r m0 m1 m2 m3 m4 p h e k e2 k2 e3 k3 f e4 k4 =
    infer_entered E (test_of E) c (SortT s) n (n - 1) (with_result (SortT (super_sort s)) r) m0 m1 m2 m3 m3 m4 (omega (arith, p)) h e k e2 k2 e3 k3 (still (f m3.account) (search leaving)) e4 k4

unread : (E : Env) (n : ℕ) (c : Context) (s : Sort) (r : Result (Unit {0}) Halt) {m0 m1 : Meter} → Follows (infer E (test_of E) n c (SortT s) m0.account) (with_result (SortT (super_sort s)) r) m0 m1 →
    FollowsUnread (sort_of E (infer E (test_of E) n) c (SortT s) m0.account) r m0 m1
unfolding sort_of
unread E n c s (Ok x) f = unread_done (and_then _ f (sort_stays E n c (SortT (super_sort s)) (super_sort s) (super_sort s) refl refl))
unread E n c s (Err h) f = unread_halts (halts _ f (search leaving))

counted : (E : Env) (n : ℕ) (c : Context) (s : Sort) (r : Result (Unit {0}) Halt) {m0 m1 : Meter} → IsReady E c → IsFormed (SortT s) →
    Follows (infer E (test_of E) n c (SortT s) m0.account) (with_result (SortT (super_sort s)) r) m0 m1 → IfOk r (λ _. IsCounted E (SortT s))
counted E n c s (Ok x) {m0 = m0} {m1 = m1} h k f = (inferred_from E c (SortT s) h k n (Ok (SortT (super_sort s))) m0 m1 f).subject
counted E n c s (Err x) h k f = tt

pub sort_unread : (E : Env) (n : ℕ) (c : Context) (s : Sort) (t : Term) (r : Result (Unit {0}) Halt) {m0 m1 : Meter} → SortT s ≡ t →
    Follows (infer E (test_of E) n c (SortT s) m0.account) (with_result (SortT (super_sort s)) r) m0 m1 → FollowsUnread (sort_of E (infer E (test_of E) n) c t m0.account) r m0 m1
sort_unread E n c s t r {m0 = m0} {m1 = m1} e f = transport (λ t. FollowsUnread (sort_of E (infer E (test_of E) n) c t m0.account) r m0 m1) e (unread E n c s r f)

pub sort_counted : (E : Env) (n : ℕ) (c : Context) (s : Sort) (t : Term) (r : Result (Unit {0}) Halt) {m0 m1 : Meter} → SortT s ≡ t → IsReady E c → IsFormed t →
    Follows (infer E (test_of E) n c (SortT s) m0.account) (with_result (SortT (super_sort s)) r) m0 m1 → IfOk r (λ _. IsCounted E t)
sort_counted E n c s t r e h k f = transport (λ t. IsFormed t → IfOk r (λ _. IsCounted E t)) e (λ k. counted E n c s r h k f) k

-- a comparison at its start

module _ (E : Env) (q : Test) (c : Context) (a b : Term) where
  pub below_spent : (n : ℕ) (m0 m1 : Meter) → m0.account.left ≡ 0 → m1.account ≡ ticked m0.account → m1.nest ≡ m0.nest → Follows (compare E q n c false a b m0.account) (Err (Stop Spent)) m0 m1
  unfolding compare
  below_spent zero m0 m1 z e k = follows_spent (λ v. too_nested) m0 m1 z e k
  below_spent (suc n) m0 m1 z e k = follows_spent (λ v. entered E q (compare E q n) c false a b v) m0 m1 z e k

  pub below_nested : (n : ℕ) (m0 m1 : Meter) → n ≡ 0 → 0 < m0.account.left → m1.account ≡ ticked m0.account → m1.nest ≡ m0.nest → Follows (compare E q n c false a b m0.account) (Err (Stop TooDeep)) m0 m1
  unfolding compare
  below_nested zero m0 m1 z h e k = follows_nested m0 m1 m1 h e k refl refl
  below_nested (suc n) m0 m1 z h e k = absurd (omega arith)

  pub below_entered : (n : ℕ) (r : Result (Unit {0}) Halt) (m0 m1 : Meter) → 0 < n → 0 < m0.account.left → m1.account ≡ ticked m0.account → m1.nest ≡ m0.nest →
      ((k : ℕ) → Answers (entered E q (compare E q k) c false a b m1.account) r m1.account) → Follows (compare E q n c false a b m0.account) r m0 m1
  unfolding compare
  below_entered zero r m0 m1 p h e k f = absurd (omega arith)
  below_entered (suc n) r m0 m1 p h e k f = follows_tick (λ v. entered E q (compare E q n) c false a b v) r m0 m1 m1 h e k (still (f n) (search leaving))

-- two sorts
pub entered_same : (E : Env) (q : Test) (cmp : Comparison) (c : Context) (a b : Term) (u : Account) → same a b ≡ true → Answers (entered E q cmp c false a b u) (Ok tt) u
entered_same E q cmp c a b u e = rw e refl

entered_sorts : (E : Env) (q : Test) (cmp : Comparison) (c : Context) (s t : Sort) (u : Account) (r : Result (Unit {0}) Halt) → same (SortT s) (SortT t) ≡ false →
    Answers (if sort_below q s t then done tt u else refused (NotBelow (ClashOfSorts s t)) u) r u → Answers (entered E q cmp c false (SortT s) (SortT t) u) r u
entered_sorts E q cmp c s t u r e h =
    rw e (answers_bind _ _ (SortT s) u r (answers_stays E (values c) (SortT s) u refl) (answers_bind _ _ (SortT t) u r (answers_stays E (values c) (SortT t) u refl) h))

module _ (E : Env) (q : Test) (cmp : Comparison) (c : Context) {a b : Term} (s t : Sort) (u : Account) where
  pub entered_below : SortT s ≡ a → SortT t ≡ b → same a b ≡ false → sort_below q s t ≡ true → Answers (entered E q cmp c false a b u) (Ok tt) u
  entered_below x y e h =
      let p : same (SortT s) (SortT t) ≡ false = rw (x, y) e in
      rw (← x, ← y) (entered_sorts E q cmp c s t u (Ok tt) p (rw h refl))

  pub entered_not_below : SortT s ≡ a → SortT t ≡ b → same a b ≡ false → sort_below q s t ≡ false → Answers (entered E q cmp c false a b u) (Err (Refusal (NotBelow (ClashOfSorts s t)))) u
  entered_not_below x y e h =
      let p : same (SortT s) (SortT t) ≡ false = rw (x, y) e in
      rw (← x, ← y) (entered_sorts E q cmp c s t u (Err (Refusal (NotBelow (ClashOfSorts s t)))) p (rw h refl))
