-- What terms are found to be does not depend on more steps than there are units.
use Rattle.std.proofs.Common.{◌≡◌, ℕ, zero, suc, ◌≤◌, Option, Some, None, List, refl, sym, ap, ◌∙◌, slice_get, arith}
use Rattle.pc_terms.specs.declared.leaf.Name.{Name}
use Rattle.pc_terms.specs.Syntax.{Term, Terms, Done, Next, Rel, SortT, Prod, Lambda, LetIn, App, Const, Ind, Construct, Case, Fix}
use Rattle.calculus_rules.specs.declared.declaration.Constructor.{Constructor}
use Rattle.pc_rules.specs.declared.meter.Account.{Account}
use Rattle.calculus_rules.specs.Environment.{Env}
use Rattle.calculus_rules.specs.Context.{Values, under}
use Rattle.calculus_rules.specs.Guardedness.{Mark, Recursive, Argument, Smaller, Other, Marks, Ending, ending}
use Rattle.pc_rules.specs.DirectedRun.{Run, done, no_unit, passing, is_beyond, bind, ticked}
use Rattle.calculus_rules.specs.Lookups.{family_of}
use Rattle.pc_rules.specs.DirectedWeakHead.{weak_next, steps, whnf}
use Rattle.pc_rules.specs.DirectedGuard.{Finding, found_at, applied, constructors_of, step_on, if_smaller, if_opened, first_marks, later, look, look_branches, find}
use Rattle.pc_rules.proofs.Following.{ticking-more, ticking-none, bind_done}
use Rattle.pc_rules.proofs.WholeSteps.{stays_same, stuck_same, step_same}
use Rattle.pc_rules.proofs.SameWithin.{Agrees, agrees_none, agrees_done, agrees_at, agrees_from, agrees_bind, agrees_ticking, agrees_passing, passed_first, pass_same}

pub agrees_step : (n : ℕ) (o : Option Term) (stay stay' : Account → Run Mark) (go go' : Term → Account → Run Mark) → Agrees (suc n) stay stay' →
    ((t : Term) → Agrees n (go t) (go' t)) → Agrees (suc n) (λ u. step_on o (stay u) go u) (λ u. step_on o (stay' u) go' u)
agrees_step n None stay stay' go go' p q = p
agrees_step n (Some t) stay stay' go go' p q =
    agrees_ticking n (λ v. bind (passing (is_beyond t) v) (λ _ w. go t w)) (λ v. bind (passing (is_beyond t) v) (λ _ w. go' t w))
    (agrees_bind n (λ v. passing (is_beyond t) v) (λ v. passing (is_beyond t) v) (λ _ w. go t w) (λ _ w. go' t w) (agrees_passing n (is_beyond t)) (λ _. q t))

pub agrees_opened : (n : ℕ) (m : Mark) (f g : Account → Run Mark) → Agrees n f g → Agrees n (λ u. if_opened m (f u) u) (λ u. if_opened m (g u) u)
agrees_opened n Argument f g p = p
agrees_opened n Smaller f g p = p
agrees_opened n (Recursive r) f g p = agrees_done n Other
agrees_opened n Other f g p = agrees_done n Other

pub agrees_smaller : (n : ℕ) (m : Mark) (f g : Account → Run Mark) → Agrees n f g → Agrees n (λ u. if_smaller m (f u) u) (λ u. if_smaller m (g u) u)
agrees_smaller n Smaller f g p = p
agrees_smaller n Argument f g p = agrees_done n Other
agrees_smaller n (Recursive r) f g p = agrees_done n Other
agrees_smaller n Other f g p = agrees_done n Other

module _ (E : Env) (r : Option Name) where
  module _ (n : ℕ) (go go' : Finding) (h : (V : Values) (M : Marks) (t : Term) → Agrees n (go V M t) (go' V M t)) where
    mutual
      agrees_look : (V : Values) (M : Marks) (t : Term) → Agrees (suc n) (λ u. look E r go V M t u) (λ u. look E r go' V M t u)
      agrees_look V M (Rel i) = agrees_done (suc n) (found_at (slice_get M i))
      agrees_look V M (App f a) =
          agrees_bind (suc n) (λ u. look E r go V M f u) (λ u. look E r go' V M f u) (λ m v. done (applied m) v) (λ m v. done (applied m) v)
          (agrees_look V M f) (λ m. agrees_done (suc n) (applied m))
      agrees_look V M (Case f ps k ret s bs) =
          agrees_bind (suc n) (λ u. step_on (weak_next E V s) (look E r go V M s u) (go V M) u) (λ u. step_on (weak_next E V s) (look E r go' V M s u) (go' V M) u)
          (λ m v. if_opened m (look_branches E r go V M (ending E r f ps) (constructors_of (family_of E f)) bs v) v)
          (λ m v. if_opened m (look_branches E r go' V M (ending E r f ps) (constructors_of (family_of E f)) bs v) v)
          (agrees_step n (weak_next E V s) (λ u. look E r go V M s u) (λ u. look E r go' V M s u) (go V M) (go' V M) (agrees_look V M s) (h V M))
          (λ m. agrees_opened (suc n) m (λ v. look_branches E r go V M (ending E r f ps) (constructors_of (family_of E f)) bs v)
          (λ v. look_branches E r go' V M (ending E r f ps) (constructors_of (family_of E f)) bs v) (agrees_branches V M (ending E r f ps) (constructors_of (family_of E f)) bs))
      agrees_look V M (SortT s) = agrees_done (suc n) Other
      agrees_look V M (Prod A B) = agrees_done (suc n) Other
      agrees_look V M (Lambda A b) = agrees_done (suc n) Other
      agrees_look V M (LetIn b B t) = agrees_done (suc n) Other
      agrees_look V M (Const c) = agrees_done (suc n) Other
      agrees_look V M (Ind f) = agrees_done (suc n) Other
      agrees_look V M (Construct f c) = agrees_done (suc n) Other
      agrees_look V M (Fix i rargs types bodies) = agrees_done (suc n) Other

      agrees_branches : (V : Values) (M : Marks) (q : Ending) (Cs : List Constructor) (bs : Terms) →
          Agrees (suc n) (λ u. look_branches E r go V M q Cs bs u) (λ u. look_branches E r go' V M q Cs bs u)
      agrees_branches V M q Cs Done = agrees_done (suc n) Smaller
      agrees_branches V M q Cs (Next b body bs) =
          agrees_bind (suc n) (λ u. step_on (weak_next E (under b V) body) (look E r go (under b V) (first_marks q Cs b M) body u) (go (under b V) (first_marks q Cs b M)) u)
          (λ u. step_on (weak_next E (under b V) body) (look E r go' (under b V) (first_marks q Cs b M) body u) (go' (under b V) (first_marks q Cs b M)) u)
          (λ m v. if_smaller m (look_branches E r go V M q (later Cs) bs v) v) (λ m v. if_smaller m (look_branches E r go' V M q (later Cs) bs v) v)
          (agrees_step n (weak_next E (under b V) body) (λ u. look E r go (under b V) (first_marks q Cs b M) body u) (λ u. look E r go' (under b V) (first_marks q Cs b M) body u)
          (go (under b V) (first_marks q Cs b M)) (go' (under b V) (first_marks q Cs b M)) (agrees_look (under b V) (first_marks q Cs b M) body) (h (under b V) (first_marks q Cs b M)))
          (λ m. agrees_smaller (suc n) m (λ v. look_branches E r go V M q (later Cs) bs v) (λ v. look_branches E r go' V M q (later Cs) bs v) (agrees_branches V M q (later Cs) bs))

  -- what is found after a step
  abbrev pub after : ℕ → Finding
  after zero = λ V M t u. no_unit
  after (suc n) = find E r n

  -- finding, by one step
  abbrev pub found : ℕ → Finding
  found n V M t u = step_on (weak_next E V t) (look E r (after n) V M t u) (after n V M) u

  pub find_is : (n : ℕ) (V : Values) (M : Marks) (t : Term) (u : Account) → find E r n V M t u ≡ found n V M t u
  unfolding find
  find_is zero V M t u = refl
  find_is (suc n) V M t u = refl

  agrees_after : (j m n : ℕ) → ((V : Values) (M : Marks) (t : Term) → Agrees j (after m V M t) (after n V M t)) → (V : Values) (M : Marks) (t : Term) →
      Agrees (suc j) (λ u. find E r m V M t u) (λ u. find E r n V M t u)
  agrees_after j m n h V M t =
      agrees_at (λ u. find E r m V M t u) (λ u. found n V M t u) (λ u. find E r n V M t u)
      (agrees_from (λ u. find E r m V M t u) (λ u. found m V M t u) (λ u. found n V M t u) (λ u. find_is m V M t u)
      (agrees_step j (weak_next E V t) (λ u. look E r (after m) V M t u) (λ u. look E r (after n) V M t u) (after m V M) (after n V M) (agrees_look j (after m) (after n) h V M t) (h V M)))
      (λ u. sym (find_is n V M t u))

  pub agrees_find : (j m n : ℕ) → j ≤ m → j ≤ n → (V : Values) (M : Marks) (t : Term) → Agrees (suc j) (λ u. find E r m V M t u) (λ u. find E r n V M t u)
  agrees_find zero m n p q V M t = agrees_after zero m n (λ V M t. agrees_none (after m V M t) (after n V M t)) V M t
  agrees_find (suc j) zero n p q V M t = absurd (omega arith)
  agrees_find (suc j) (suc m) zero p q V M t = absurd (omega arith)
  agrees_find (suc j) (suc m) (suc n) p q V M t = agrees_after (suc j) (suc m) (suc n) (λ V M t. agrees_find j m n (omega arith) (omega arith) V M t) V M t

  pub find_fuel : (n : ℕ) (V : Values) (M : Marks) (t : Term) (u : Account) → u.left ≤ n → find E r n V M t u ≡ find E r u.left V M t u
  find_fuel n V M t u l = (agrees_find u.left n u.left l (omega arith) V M t).same u (omega arith)

  -- with the units that are left
  abbrev pub found_in : Values → Marks → Term → Account → Run Mark
  found_in V M t u = find E r u.left V M t u

  pub agrees_found : (n : ℕ) (V : Values) (M : Marks) (t : Term) → Agrees (suc n) (λ u. find E r n V M t u) (found_in V M t)
  agrees_found n V M t = record {
    same = λ u l. find_fuel n V M t u (omega arith);
    falls = λ u l. (agrees_find n n n (omega arith) (omega arith) V M t).falls u l;
  }

  -- a term is reduced, and then its weak-head normal form is looked at
  module _ (V : Values) (M : Marks) where
    no_unit_then : (k : Term → Account → Run Mark) → bind no_unit k ≡ no_unit
    unfolding bind
    no_unit_then k = refl

    by_steps : (k n : ℕ) (t : Term) (u : Account) (o : Option Term) → weak_next E V t ≡ o → u.left ≡ k → k ≤ n →
        find E r n V M t u ≡ bind (steps E V k t u) (λ W v. found_in V M W v)
    by_steps k n t u None e p l =
        find_fuel n V M t u (omega arith) ∙ sym (ap (λ d. bind d (λ W v. found_in V M W v)) (stays_same E V k t u e) ∙ bind_done t u (λ W v. found_in V M W v))
    by_steps zero n t u (Some x) e p l =
        find_is n V M t u ∙ ap (λ o. step_on o (look E r (after n) V M t u) (after n V M) u) e
        ∙ ticking-none u (λ v. bind (passing (is_beyond x) v) (λ _ w. after n V M x w)) p
        ∙ sym (ap (λ d. bind d (λ W v. found_in V M W v)) (stuck_same E V t x u e) ∙ no_unit_then (λ W v. found_in V M W v))
    by_steps (suc k) zero t u (Some x) e p l = absurd (omega arith)
    by_steps (suc k) (suc n) t u (Some x) e p l =
        find_is (suc n) V M t u ∙ ap (λ o. step_on o (look E r (after (suc n)) V M t u) (after (suc n) V M) u) e
        ∙ ticking-more u (λ v. bind (passing (is_beyond x) v) (λ _ w. find E r n V M x w)) (omega arith)
        ∙ pass_same (is_beyond x) (ticked u) (λ _ w. find E r n V M x w) (λ _ v. bind (steps E V k x (ticked u)) (λ W v. found_in V M W v))
        (by_steps k n x (ticked u) (weak_next E V x) refl (omega arith) (omega arith))
        ∙ sym (ap (λ d. bind d (λ W v. found_in V M W v)) (step_same E V k t x u e) ∙ passed_first (is_beyond x) (steps E V k x (ticked u)) (λ W v. found_in V M W v) (ticked u))

    pub find_by_whnf : (t : Term) (u : Account) → found_in V M t u ≡ bind (whnf E V t u) (λ W v. found_in V M W v)
    find_by_whnf t u = by_steps u.left u.left t u (weak_next E V t) refl refl (omega arith)
