-- Weak-head reduction and the guard take the same units whatever they start with.
use Rattle.std.proofs.Common.{◌≡◌, ◌∙◌, ℕ, zero, suc, ◌+◌, ◌-◌, ◌≤◌, ◌<◌, Bool, true, false, List, [], ◌∷◌, ◌++◌, length, Option, Some, None, refl, sym, ap, subst, arith, slice_get}
use Rattle.pc_terms.specs.declared.leaf.Name.{Name}
use Rattle.pc_terms.specs.Syntax.{Slot, Term, Terms, Children, End, Child, Group, Done, Next, Rel, Node, Case, Lambda, LetIn, App, Fix, head}
use Rattle.calculus_rules.specs.declared.declaration.Constructor.{Constructor}
use Rattle.pc_rules.specs.declared.broken.Broken.TheVariants.{NotGuarded}
use Rattle.pc_rules.specs.declared.meter.Account.{Account}
use Rattle.calculus_rules.specs.Environment.{Env}
use Rattle.calculus_rules.specs.Context.{Values, under}
use Rattle.calculus_rules.specs.Guardedness.{Mark, Recursive, Marks, others, definition_marks, Argument, Smaller, Other, Ending, ending, head_block}
use Rattle.pc_rules.specs.DirectedRun as run
use Rattle.pc_rules.specs.DirectedRun.{Run, Act, no_unit, is_beyond, ticked, ticking, bind}
use Rattle.pc_rules.specs.DirectedWeakHead.{weak_next, steps, whnf}
use Rattle.calculus_rules.specs.Lookups.{family_of}
use Rattle.pc_rules.specs.DirectedGuard.{Finding, found_at, applied, opens, constructors_of, step_on, if_smaller, if_opened, first_marks, later, look, look_branches, find, normal_found, smaller_argument, call_argument, call_rule, interleaved, walk, walk_children, walk_terms, walk_branches, body_guard, bodies_guard, fix_guard, passed_argument, argument_found, if_passed, walk_passed, walk_under, recursive_block}
use Rattle.pc_rules.proofs.WholeSteps.{stays_same, stuck_same, step_same}
use Rattle.rule_laws.proofs.Runs.{ticking_done, unit_done, done_value, pass_then}
use Rattle.cert_rules.proofs.Exact.{done_account, EndsAlike, IsExact, exact_done, exact_refused, exact_passing, exact_spent, exact_if, exact_bind, exact_ticking, exact_ticking_less, ticking_positive, AreExact, no_act, an_act, exact_all}

-- weak-head reduction: a number of steps

pub data Reach (E : Env) (V : Values) : ℕ → Term → Term → Type 0 where
  arrived : {t : Term} → weak_next E V t ≡ None → Reach E V zero t t
  onward : {n : ℕ} {t x w : Term} → weak_next E V t ≡ Some x → Reach E V n x w → Reach E V (suc n) t w

module _ (E : Env) (V : Values) where
  abbrev Reached : Term → Term → ℕ → ℕ → Type 0
  Reached t W u v = (n : ℕ) × Reach E V n t W × (u ≡ n + v)

  steps_reach : (k : ℕ) (t W : Term) (u v : Account) (o : Option Term) → weak_next E V t ≡ o → u.left ≡ k → (steps E V k t u).end ≡ run.Done W v →
      Reached t W u.left v.left
  steps_reach k t W u v None e l h =
      let d = sym (ap (λ d. d.end) (stays_same E V k t u e)) ∙ h in
      let m : u.left ≡ v.left = ap (λ x. x.left) (done_account d) in
      let z : u.left ≡ 0 + v.left = omega arith in
      (0, subst (λ x. Reach E V 0 t x) (done_value d) (arrived e), z)
  steps_reach zero t W u v (Some x) e l h = absurd (unit_done (sym (ap (λ d. d.end) (stuck_same E V t x u e)) ∙ h))
  steps_reach (suc k) t W u v (Some x) e l h =
      let r = steps_reach k x W (ticked u) v (weak_next E V x) refl (omega arith) (sym (ap (λ d. d.end) (step_same E V k t x u e)) ∙ h) in
      let m : u.left - 1 ≡ r.0 + v.left = r.2 in
      (suc r.0, onward e r.1, omega arith)

  pub whnf_reach : (t W : Term) (u v : Account) → (whnf E V t u).end ≡ run.Done W v → (n : ℕ) × Reach E V n t W × (u.left ≡ n + v.left)
  whnf_reach t W u v h = steps_reach u.left t W u v (weak_next E V t) refl refl h

  reach_steps : (n : ℕ) (t W : Term) (k : ℕ) (w : Account) → Reach E V n t W → w.left ≡ k → n ≤ k → (x : Account) × ((steps E V k t w).end ≡ run.Done W x) × (w.left ≡ n + x.left)
  reach_steps _ t _ k w (arrived e) l m = let z : w.left ≡ 0 + w.left = omega arith in (w, ap (λ d. d.end) (stays_same E V k t w e), z)
  reach_steps _ t W zero w (onward {n = n} {x = x} e p) l m = absurd (omega arith)
  reach_steps _ t W (suc k) w (onward {n = n} {x = x} e p) l m =
      let r = reach_steps n x W k (ticked w) p (omega arith) (omega arith) in
      let d : w.left - 1 ≡ n + r.0.left = r.2 in
      (r.0, ap (λ d. d.end) (step_same E V k t x w e) ∙ r.1, omega arith)

  whnf_falls : (t : Term) (u : Account) (W : Term) (v : Account) → (whnf E V t u).end ≡ run.Done W v → v.left ≤ u.left
  whnf_falls t u W v h = let r = whnf_reach t W u v h in let m : u.left ≡ r.0 + v.left = r.2 in omega arith

  whnf_alike : (t : Term) (u : Account) (W : Term) (v : Account) → (whnf E V t u).end ≡ run.Done W v → (w : Account) → u.left ≤ w.left + v.left →
      EndsAlike (λ u. whnf E V t u) u W v w
  whnf_alike t u W v h w l =
      let r = whnf_reach t W u v h in
      let m : u.left ≡ r.0 + v.left = r.2 in
      let s = reach_steps r.0 t W w.left w r.1 refl (omega arith) in
      let d : w.left ≡ r.0 + s.0.left = s.2 in
      (s.0, s.1, omega arith)

  pub exact_whnf : {j : ℕ} (t : Term) → IsExact j (λ u. whnf E V t u) (λ u. whnf E V t u)
  exact_whnf t = record { falls = whnf_falls t; alike = λ u W v h w l r. whnf_alike t u W v h w l }

-- the guard

-- after one more unit
abbrev pub Falls : {A : Type 0} → (Account → Run A) → Type 0
Falls {A} f = (u : Account) (a : A) (v : Account) → (f u).end ≡ run.Done a v → v.left ≤ u.left

abbrev pub Before : {A : Type 0} → ℕ → (Account → Run A) → (Account → Run A) → Type 0
Before zero f g = Falls f
Before (suc i) f g = IsExact i f g

ticking_first : {A : Type 0} (f g : Account → Run A) → Falls f → (u : Account) (a : A) (v : Account) → (ticking u f).end ≡ run.Done a v → v.left < u.left
ticking_first f g p u a v h =
    let z : 0 < u.left = ticking_positive u f a v h in
    let d : v.left ≤ u.left - 1 = p (ticked u) a v (ticking_done u f a v h) in
    omega arith

pub exact_after : {A : Type 0} (j : ℕ) (f g : Account → Run A) → Before j f g → IsExact j (λ u. ticking u f) (λ u. ticking u g)
exact_after zero f g p = record {
  falls = λ u a v h. (let l = ticking_first f g p u a v h in omega arith);
  alike = λ u a v h w l r. (let m = ticking_first f g p u a v h in absurd (omega arith));
}
exact_after (suc i) f g p = exact_ticking_less f g p

before_passing : {A : Type 0} (j : ℕ) (b : Bool) (f g : Account → Run A) → Before j f g →
    Before j (λ v. bind (run.passing b v) (λ _ w. f w)) (λ v. bind (run.passing b v) (λ _ w. g w))
before_passing zero b f g p = λ u a v h. p u a v (pass_then b u (λ _ w. f w) h)
before_passing (suc i) b f g p = exact_bind _ _ _ _ (exact_passing b) (λ x. p)

exact_step_on : {j : ℕ} (o : Option Term) (stay stay' : Account → Run Mark) (go go' : Term → Account → Run Mark) → IsExact j stay stay' →
    ((t : Term) → Before j (go t) (go' t)) → IsExact j (λ u. step_on o (stay u) go u) (λ u. step_on o (stay' u) go' u)
exact_step_on None stay stay' go go' p q = p
exact_step_on {j} (Some t) stay stay' go go' p q = exact_after j _ _ (before_passing j (is_beyond t) (go t) (go' t) (q t))

exact_if_opened : {j : ℕ} (m : Mark) (f g : Account → Run Mark) → IsExact j f g → IsExact j (λ u. if_opened m (f u) u) (λ u. if_opened m (g u) u)
exact_if_opened m f g p = exact_if (opens m) _ _ _ _ p (exact_done Other)

exact_if_smaller : {j : ℕ} (m : Mark) (f g : Account → Run Mark) → IsExact j f g → IsExact j (λ u. if_smaller m (f u) u) (λ u. if_smaller m (g u) u)
exact_if_smaller Smaller f g p = p
exact_if_smaller m f g p = exact_done Other

mutual
  exact_look : {j : ℕ} (E : Env) (r : Option Name) (go go' : Finding) → ((V : Values) (M : Marks) (t : Term) → Before j (go V M t) (go' V M t)) →
      (V : Values) (M : Marks) (t : Term) → IsExact j (λ u. look E r go V M t u) (λ u. look E r go' V M t u)
  exact_look E r go go' h V M (Rel i) = exact_done (found_at (slice_get M i))
  exact_look E r go go' h V M (App f a) = exact_bind _ _ _ _ (exact_look E r go go' h V M f) (λ m. exact_done (applied m))
  exact_look E r go go' h V M (Case f ps n ret s bs) =
      exact_bind _ _ _ _ (exact_step_on (weak_next E V s) _ _ _ _ (exact_look E r go go' h V M s) (h V M))
      (λ m. exact_if_opened m _ _ (exact_look_branches E r go go' h V M (ending E r f ps) (constructors_of (family_of E f)) bs))
  exact_look E r go go' h V M t = exact_done Other

  exact_look_branches : {j : ℕ} (E : Env) (r : Option Name) (go go' : Finding) → ((V : Values) (M : Marks) (t : Term) → Before j (go V M t) (go' V M t)) →
      (V : Values) (M : Marks) (q : Ending) (Cs : List Constructor) (bs : Terms) →
      IsExact j (λ u. look_branches E r go V M q Cs bs u) (λ u. look_branches E r go' V M q Cs bs u)
  exact_look_branches E r go go' h V M q Cs Done = exact_done Smaller
  exact_look_branches E r go go' h V M q Cs (Next n body bs) =
      exact_bind _ _ _ _ (exact_step_on (weak_next E (under n V) body) _ _ _ _ (exact_look E r go go' h (under n V) (first_marks q Cs n M) body) (h (under n V) (first_marks q Cs n M)))
      (λ m. exact_if_smaller m _ _ (exact_look_branches E r go go' h V M q (later Cs) bs))

-- j steps are enough where no more are taken
exact_find : (E : Env) (r : Option Name) (m j : ℕ) (V : Values) (M : Marks) (t : Term) → IsExact j (λ u. find E r m V M t u) (λ u. find E r j V M t u)
unfolding find
exact_find E r zero zero V M t =
    exact_step_on (weak_next E V t) _ _ _ _ (exact_look E r (λ W N x v. no_unit) (λ W N x v. no_unit) (λ W N x u a v e. absurd (unit_done e)) V M t)
    (λ x u a v e. absurd (unit_done e))
exact_find E r zero (suc j) V M t =
    exact_step_on (weak_next E V t) _ _ _ _ (exact_look E r (λ W N x v. no_unit) (find E r j) (λ W N x. exact_spent _) V M t) (λ x. exact_spent _)
exact_find E r (suc m) zero V M t =
    exact_step_on (weak_next E V t) _ _ _ _ (exact_look E r (find E r m) (λ W N x v. no_unit) (λ W N x. (exact_find E r m zero W N x).falls) V M t)
    (λ x. (exact_find E r m zero V M x).falls)
exact_find E r (suc m) (suc j) V M t =
    exact_step_on (weak_next E V t) _ _ _ _ (exact_look E r (find E r m) (find E r j) (λ W N x. exact_find E r m j W N x) V M t) (λ x. exact_find E r m j V M x)

exact_found : {j : ℕ} (E : Env) (r : Option Name) (V : Values) (M : Marks) (t : Term) → IsExact j (λ u. find E r u.left V M t u) (λ u. find E r u.left V M t u)
exact_found E r V M t = record {
  falls = λ u a v h. (exact_find E r u.left 0 V M t).falls u a v h;
  alike = λ u a v h w l k. (exact_find E r u.left w.left V M t).alike u a v h w l l;
}

exact_normal : {j : ℕ} (E : Env) (r : Option Name) (V : Values) (M : Marks) (t : Term) → IsExact j (λ u. normal_found E r V M t u) (λ u. normal_found E r V M t u)
exact_normal E r V M t = exact_bind _ _ _ _ (exact_whnf E V t) (λ W. exact_bind _ _ _ _ (exact_found E r V M W) (λ m. exact_done (W, m)))

exact_smaller : {j : ℕ} (W : Term) (m : Mark) → IsExact j (λ u. smaller_argument W m u) (λ u. smaller_argument W m u)
exact_smaller W Smaller = exact_done tt
exact_smaller W m = exact_refused (NotGuarded W)

exact_argument : {j : ℕ} (E : Env) (r : Option Name) (V : Values) (M : Marks) (i : ℕ) (o : Option Term) → IsExact j (λ u. call_argument E r V M i o u) (λ u. call_argument E r V M i o u)
exact_argument E r V M i None = exact_refused (NotGuarded (Rel i))
exact_argument E r V M i (Some a) = exact_ticking _ _ (exact_bind _ _ _ _ (exact_normal E r V M a) (λ p. exact_smaller p.0 p.1))

exact_call : {j : ℕ} (E : Env) (r : Option Name) (V : Values) (M : Marks) (i : ℕ) (xs : List Term) (o : Option Mark) → IsExact j (λ u. call_rule E r V M i xs o u) (λ u. call_rule E r V M i xs o u)
exact_call E r V M i xs (Some (Recursive rarg)) = exact_argument E r V M i (slice_get xs rarg)
exact_call E r V M i xs m = exact_done tt

exact_interleaved : {j : ℕ} {fs fs' gs gs' : List Act} → AreExact j fs fs' → AreExact j gs gs' → AreExact j (interleaved fs gs) (interleaved fs' gs')
exact_interleaved no_act q = q
exact_interleaved (an_act p ps) no_act = an_act p ps
exact_interleaved (an_act p ps) (an_act q qs) = an_act p (an_act q (exact_interleaved ps qs))

exact_append : {j : ℕ} {fs fs' gs gs' : List Act} → AreExact j fs fs' → AreExact j gs gs' → AreExact j (fs ++ gs) (fs' ++ gs')
exact_append no_act q = q
exact_append (an_act p ps) q = an_act p (exact_append ps q)

exact_argument_found : {j : ℕ} (E : Env) (r : Option Name) (V : Values) (M : Marks) (o : Option Term) → IsExact j (λ u. argument_found E r V M o u) (λ u. argument_found E r V M o u)
exact_argument_found E r V M None = exact_done Other
exact_argument_found E r V M (Some a) = exact_bind _ _ _ _ (exact_normal E r V M a) (λ p. exact_done p.1)

exact_if_passed : {j : ℕ} {fs fs' gs gs' : List Act} (m : Mark) → AreExact j fs fs' → AreExact j gs gs' → AreExact j (if_passed m fs gs) (if_passed m fs' gs')
exact_if_passed Smaller p q = p
exact_if_passed m p q = q

mutual
  exact_walk : {j : ℕ} (E : Env) (r : Option Name) (V : Values) (M : Marks) (xs : List Term) (t : Term) → IsExact j (λ u. walk E r V M xs t u) (λ u. walk E r V M xs t u)
  exact_walk E r V M xs (Rel i) = exact_call E r V M i xs (slice_get M i)
  exact_walk E r V M xs (App f a) = exact_bind _ _ _ _ (exact_walk E r V M (a ∷ xs) f) (λ x. exact_walk E r V M [] a)
  exact_walk E r V M xs (LetIn b B t) =
      exact_bind _ _ _ _ (exact_walk E r V M [] b) (λ x. exact_bind _ _ _ _ (exact_walk E r V M [] B) (λ y. exact_walk E r (Some b ∷ V) (Other ∷ M) [] t))
  exact_walk E r V M xs (Case f ps m ret s bs) =
      exact_bind _ _ _ _ (exact_normal E r V M s) (λ p.
      exact_bind _ _ _ _ (exact_walk E r V M [] s) (λ x.
      exact_bind _ _ _ _ (exact_all (exact_walk_terms E r V M ps)) (λ y.
      exact_bind _ _ _ _ (exact_walk E r (under m V) (others m M) [] ret) (λ z.
      exact_all (exact_walk_branches E r V M (ending E r f ps) (opens p.1) (constructors_of (family_of E f)) bs)))))
  exact_walk E r V M xs (Fix i rargs types bodies) =
      exact_bind _ _ _ _ (exact_argument_found E r V M (passed_argument rargs xs)) (λ m.
      exact_all (exact_interleaved (exact_walk_terms E r V M types) (exact_if_passed m (exact_walk_passed E r V M rargs bodies) (exact_walk_terms E r V M bodies))))
  exact_walk E r V M xs (Node l ts) = exact_all (exact_walk_children E r V M ts)

  exact_walk_children : {j : ℕ} (E : Env) (r : Option Name) (V : Values) (M : Marks) {ss : List Slot} (ts : Children ss) → AreExact j (walk_children E r V M ts) (walk_children E r V M ts)
  exact_walk_children E r V M End = no_act
  exact_walk_children E r V M (Child {n} t ts) = an_act (exact_walk E r (under n V) (others n M) [] t) (exact_walk_children E r V M ts)
  exact_walk_children E r V M (Group us ts) = exact_append (exact_walk_terms E r V M us) (exact_walk_children E r V M ts)

  exact_walk_terms : {j : ℕ} (E : Env) (r : Option Name) (V : Values) (M : Marks) (ts : Terms) → AreExact j (walk_terms E r V M ts) (walk_terms E r V M ts)
  exact_walk_terms E r V M Done = no_act
  exact_walk_terms E r V M (Next n t ts) = an_act (exact_walk E r (under n V) (others n M) [] t) (exact_walk_terms E r V M ts)

  exact_walk_branches : {j : ℕ} (E : Env) (r : Option Name) (V : Values) (M : Marks) (q : Ending) (opened : Bool) (Cs : List Constructor) (bs : Terms) →
      AreExact j (walk_branches E r V M q opened Cs bs) (walk_branches E r V M q opened Cs bs)
  exact_walk_branches E r V M q opened Cs Done = no_act
  exact_walk_branches E r V M q true Cs (Next n t ts) = an_act (exact_walk E r (under n V) (first_marks q Cs n M) [] t) (exact_walk_branches E r V M q true (later Cs) ts)
  exact_walk_branches E r V M q false Cs (Next n t ts) = an_act (exact_walk E r (under n V) (others n M) [] t) (exact_walk_branches E r V M q false (later Cs) ts)

  exact_walk_passed : {j : ℕ} (E : Env) (r : Option Name) (V : Values) (M : Marks) (rargs : List ℕ) (bs : Terms) → AreExact j (walk_passed E r V M rargs bs) (walk_passed E r V M rargs bs)
  exact_walk_passed E r V M [] bs = no_act
  exact_walk_passed E r V M (rarg ∷ rargs) Done = no_act
  exact_walk_passed E r V M (rarg ∷ rargs) (Next n b bs) = an_act (exact_walk_under E r (under n V) (others n M) Smaller rarg b) (exact_walk_passed E r V M rargs bs)

  exact_walk_under : {j : ℕ} (E : Env) (r : Option Name) (V : Values) (M : Marks) (m : Mark) (rarg : ℕ) (t : Term) → IsExact j (λ u. walk_under E r V M m rarg t u) (λ u. walk_under E r V M m rarg t u)
  exact_walk_under E r V M m zero (Lambda A b) = exact_bind _ _ _ _ (exact_walk E r V M [] A) (λ x. exact_walk E r (None ∷ V) (m ∷ M) [] b)
  exact_walk_under E r V M m (suc rarg) (Lambda A b) = exact_bind _ _ _ _ (exact_walk E r V M [] A) (λ x. exact_walk_under E r (None ∷ V) (Other ∷ M) m rarg b)
  exact_walk_under E r V M m rarg t = exact_refused (NotGuarded t)

exact_block : {j : ℕ} (E : Env) (V : Values) (rarg : ℕ) (t : Term) → IsExact j (λ u. recursive_block E V rarg t u) (λ u. recursive_block E V rarg t u)
exact_block E V zero (Lambda A b) = exact_bind _ _ _ _ (exact_whnf E V A) (λ W. exact_done (head_block (head W)))
exact_block E V (suc rarg) (Lambda A b) = exact_block E (None ∷ V) rarg b
exact_block E V rarg t = exact_done None

exact_body : {j : ℕ} (E : Env) (V : Values) (M : Marks) (rarg : ℕ) (t : Term) → IsExact j (λ u. body_guard E V M rarg t u) (λ u. body_guard E V M rarg t u)
unfolding body_guard
exact_body E V M rarg t = exact_bind _ _ _ _ (exact_block E V rarg t) (λ r. exact_walk_under E r V M Argument rarg t)

exact_bodies : {j : ℕ} (E : Env) (V : Values) (M : Marks) (rargs : List ℕ) (bs : Terms) → AreExact j (bodies_guard E V M rargs bs) (bodies_guard E V M rargs bs)
exact_bodies E V M [] bs = no_act
exact_bodies E V M (r ∷ rargs) Done = no_act
exact_bodies E V M (r ∷ rargs) (Next m b bs) = an_act (exact_body E V M r b) (exact_bodies E V M rargs bs)

pub exact_guard : {j : ℕ} (E : Env) (V : Values) (rargs : List ℕ) (bodies : Terms) → IsExact j (λ u. fix_guard E V rargs bodies u) (λ u. fix_guard E V rargs bodies u)
exact_guard E V rargs bodies = exact_all (exact_bodies E (under (length rargs) V) (definition_marks rargs []) rargs bodies)
