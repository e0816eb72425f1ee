-- Whether a type ends in a sort is found by weak-head normal forms, and does not depend on more steps than there are units.
use Rattle.std.proofs.Common.{◌≡◌, ℕ, zero, suc, ◌≤◌, Bool, true, false, Option, Some, None, ◌∷◌, refl, sym, ap, ◌∙◌, arith}
use Rattle.universe_levels.specs.declared.sort.Sort.{Sort}
use Rattle.pc_terms.specs.Syntax.{Term, SortT, Prod}
use Rattle.calculus_rules.specs.declared.entry.Entry.TheVariants.{Assumed}
use Rattle.pc_rules.specs.declared.meter.Account.{Account}
use Rattle.calculus_rules.specs.Environment.{Env}
use Rattle.calculus_rules.specs.Context.{Context, values}
use Rattle.pc_rules.specs.DirectedRun.{Run, done, no_unit, passing, is_beyond, bind, ticked}
use Rattle.pc_rules.specs.DirectedWeakHead.{weak_next, steps, whnf}
use Rattle.pc_rules.specs.DirectedErasable.{TypeEnding, ending_on, end_of, ends_in_sort}
use Rattle.pc_rules.proofs.Following.{ticking-more, ticking-none, bind_done}
use Rattle.pc_rules.proofs.SameWithin.{Agrees, agrees_none, agrees_done, agrees_at, agrees_from, agrees_bind, agrees_ticking, agrees_passing, passed_first, pass_same}
use Rattle.pc_rules.proofs.WholeSteps.{stays_same, stuck_same, step_same}

agrees_step : (n : ℕ) (o : Option Term) (stay stay' : Account → Run Bool) (go go' : Term → Account → Run Bool) → Agrees (suc n) stay stay' →
    ((t : Term) → Agrees n (go t) (go' t)) → Agrees (suc n) (λ u. ending_on o (stay u) go u) (λ u. ending_on o (stay' u) go' u)
agrees_step n None stay stay' go go' p q = p
agrees_step n (Some t) stay stay' go go' p q =
    agrees_ticking n (λ v. bind (passing (is_beyond t) v) (λ _ w. go t w)) (λ v. bind (passing (is_beyond t) v) (λ _ w. go' t w))
    (agrees_bind n (λ v. passing (is_beyond t) v) (λ v. passing (is_beyond t) v) (λ _ w. go t w) (λ _ w. go' t w) (agrees_passing n (is_beyond t)) (λ _. q t))

module _ (E : Env) where
  module _ (n : ℕ) (go go' : TypeEnding) (h : (c : Context) (t : Term) → Agrees n (go c t) (go' c t)) where
    agrees_end : (c : Context) (t : Term) → Agrees (suc n) (λ u. end_of E go c t u) (λ u. end_of E go' c t u)
    agrees_end c (SortT s) = agrees_done (suc n) true
    agrees_end c (Prod A B) =
        agrees_step n (weak_next E (values (Assumed A ∷ c)) B) (λ u. end_of E go (Assumed A ∷ c) B u) (λ u. end_of E go' (Assumed A ∷ c) B u)
        (go (Assumed A ∷ c)) (go' (Assumed A ∷ c)) (agrees_end (Assumed A ∷ c) B) (h (Assumed A ∷ c))
    agrees_end c t = agrees_done (suc n) false

  -- what is found after a step
  abbrev after : ℕ → TypeEnding
  after zero = λ c t u. no_unit
  after (suc n) = ends_in_sort E n

  -- by one step
  abbrev found : ℕ → TypeEnding
  found n c t u = ending_on (weak_next E (values c) t) (end_of E (after n) c t u) (after n c) u

  ends_is : (n : ℕ) (c : Context) (t : Term) (u : Account) → ends_in_sort E n c t u ≡ found n c t u
  unfolding ends_in_sort
  ends_is zero c t u = refl
  ends_is (suc n) c t u = refl

  agrees_after : (j m n : ℕ) → ((c : Context) (t : Term) → Agrees j (after m c t) (after n c t)) → (c : Context) (t : Term) →
      Agrees (suc j) (λ u. ends_in_sort E m c t u) (λ u. ends_in_sort E n c t u)
  agrees_after j m n h c t =
      agrees_at (λ u. ends_in_sort E m c t u) (λ u. found n c t u) (λ u. ends_in_sort E n c t u)
      (agrees_from (λ u. ends_in_sort E m c t u) (λ u. found m c t u) (λ u. found n c t u) (λ u. ends_is m c t u)
      (agrees_step j (weak_next E (values c) t) (λ u. end_of E (after m) c t u) (λ u. end_of E (after n) c t u) (after m c) (after n c) (agrees_end j (after m) (after n) h c t) (h c)))
      (λ u. sym (ends_is n c t u))

  agrees_ends : (j m n : ℕ) → j ≤ m → j ≤ n → (c : Context) (t : Term) → Agrees (suc j) (λ u. ends_in_sort E m c t u) (λ u. ends_in_sort E n c t u)
  agrees_ends zero m n p q c t = agrees_after zero m n (λ c t. agrees_none (after m c t) (after n c t)) c t
  agrees_ends (suc j) zero n p q c t = absurd (omega arith)
  agrees_ends (suc j) (suc m) zero p q c t = absurd (omega arith)
  agrees_ends (suc j) (suc m) (suc n) p q c t = agrees_after (suc j) (suc m) (suc n) (λ c t. agrees_ends j m n (omega arith) (omega arith) c t) c t

  ends_fuel : (n : ℕ) (c : Context) (t : Term) (u : Account) → u.left ≤ n → ends_in_sort E n c t u ≡ ends_in_sort E u.left c t u
  ends_fuel n c t u l = (agrees_ends u.left n u.left l (omega arith) c t).same u (omega arith)

  -- with the units that are left
  abbrev pub ends : Context → Term → Account → Run Bool
  ends c t u = ends_in_sort E u.left c t u

  no_unit_then : (k : Term → Account → Run Bool) → bind no_unit k ≡ no_unit
  unfolding bind
  no_unit_then k = refl

  by_steps : (c : Context) (k n : ℕ) (t : Term) (u : Account) (o : Option Term) → weak_next E (values c) t ≡ o → u.left ≡ k → k ≤ n →
      ends_in_sort E n c t u ≡ bind (steps E (values c) k t u) (λ W v. ends c W v)
  by_steps c k n t u None e p l =
      ends_fuel n c t u (omega arith) ∙ sym (ap (λ d. bind d (λ W v. ends c W v)) (stays_same E (values c) k t u e) ∙ bind_done t u (λ W v. ends c W v))
  by_steps c zero n t u (Some x) e p l =
      ends_is n c t u ∙ ap (λ o. ending_on o (end_of E (after n) c t u) (after n c) u) e
      ∙ ticking-none u (λ v. bind (passing (is_beyond x) v) (λ _ w. after n c x w)) p
      ∙ sym (ap (λ d. bind d (λ W v. ends c W v)) (stuck_same E (values c) t x u e) ∙ no_unit_then (λ W v. ends c W v))
  by_steps c (suc k) zero t u (Some x) e p l = absurd (omega arith)
  by_steps c (suc k) (suc n) t u (Some x) e p l =
      ends_is (suc n) c t u ∙ ap (λ o. ending_on o (end_of E (after (suc n)) c t u) (after (suc n) c) u) e
      ∙ ticking-more u (λ v. bind (passing (is_beyond x) v) (λ _ w. ends_in_sort E n c x w)) (omega arith)
      ∙ pass_same (is_beyond x) (ticked u) (λ _ w. ends_in_sort E n c x w) (λ _ v. bind (steps E (values c) k x (ticked u)) (λ W v. ends c W v))
      (by_steps c k n x (ticked u) (weak_next E (values c) x) refl (omega arith) (omega arith))
      ∙ sym (ap (λ d. bind d (λ W v. ends c W v)) (step_same E (values c) k t x u e) ∙ passed_first (is_beyond x) (steps E (values c) k x (ticked u)) (λ W v. ends c W v) (ticked u))

  -- a type is reduced, and then its weak-head normal form is looked at
  pub ends_by_whnf : (c : Context) (t : Term) (u : Account) → ends c t u ≡ bind (whnf E (values c) t u) (λ W v. ends c W v)
  ends_by_whnf c t u = by_steps c u.left u.left t u (weak_next E (values c) t) refl refl (omega arith)

  -- a product ends in a sort where its codomain does
  under_at : (n : ℕ) (c : Context) (A B : Term) (u : Account) → u.left ≤ n → ends_in_sort E n c (Prod A B) u ≡ ends (Assumed A ∷ c) B u
  under_at n c A B u l = ends_is n c (Prod A B) u ∙ sym (ends_is n (Assumed A ∷ c) B u) ∙ ends_fuel n (Assumed A ∷ c) B u l

  pub ends_under : (c : Context) (A B : Term) (u : Account) → ends c (Prod A B) u ≡ ends (Assumed A ∷ c) B u
  ends_under c A B u = under_at u.left c A B u (omega arith)

  pub ends_at_sort : (c : Context) (s : Sort) (u : Account) → ends c (SortT s) u ≡ done true u
  ends_at_sort c s u = ends_is u.left c (SortT s) u

  -- a term without a step that is no sort and no product doesn't end in a sort
  pub ends_elsewhere : (c : Context) (T : Term) (u : Account) → weak_next E (values c) T ≡ None → ((n : ℕ) → end_of E (after n) c T u ≡ done false u) → ends c T u ≡ done false u
  ends_elsewhere c T u e h = ends_is u.left c T u ∙ ap (λ o. ending_on o (end_of E (after u.left) c T u) (after u.left c) u) e ∙ h u.left
