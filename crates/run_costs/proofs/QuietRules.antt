-- What the guard takes depends on no account.
use Rattle.std.proofs.Common.{ℕ, zero, suc, Bool, true, false, List, [], ◌∷◌, ◌++◌, length, Option, Some, None, arith, slice_get}
use Rattle.pc_terms.specs.declared.leaf.Name.{Name}
use Rattle.pc_terms.specs.Syntax.{Slot, Term, Terms, Children, End, Child, Group, Done, Next, Rel, Node, Lambda, LetIn, App, Case, Fix, head}
use Rattle.calculus_rules.specs.declared.declaration.Constructor.{Constructor}
use Rattle.pc_rules.specs.declared.broken.Broken.TheVariants.{NotGuarded}
use Rattle.pc_rules.specs.declared.meter.Account.{Account}
use Rattle.calculus_rules.specs.Environment.{Env}
use Rattle.calculus_rules.specs.Context.{Values, under}
use Rattle.calculus_rules.specs.Guardedness.{Mark, Recursive, Argument, Smaller, Other, Marks, Ending, ending, others, head_block, definition_marks}
use Rattle.pc_rules.specs.DirectedRun.{Run, Act, no_unit, is_beyond}
use Rattle.calculus_rules.specs.Lookups.{family_of}
use Rattle.pc_rules.specs.DirectedWeakHead.{weak_next}
use Rattle.pc_rules.specs.DirectedGuard.{Finding, found_at, applied, opens, constructors_of, step_on, if_smaller, if_opened, first_marks, later, look, look_branches, find, normal_found, smaller_argument, call_argument, call_rule, interleaved, passed_argument, argument_found, if_passed, walk, walk_children, walk_terms, walk_branches, walk_passed, walk_under, recursive_block, body_guard, bodies_guard, fix_guard}
use Rattle.run_costs.proofs.Quiet.{IsQuiet, AreQuiet, no_act, an_act, quiet_done, quiet_refused, quiet_passing, quiet_spent, quiet_alone, quiet_if, quiet_bind, quiet_ticking, quiet_ticking_less, quiet_all}
use Rattle.run_costs.proofs.QuietReduction.{quiet_whnf}

-- the guard

quiet_step_on : {m : ℕ} (o : Option Term) (stay stay' : Account → Run Mark) (go go' : Term → Account → Run Mark) → IsQuiet (suc m) stay stay' →
    ((t : Term) → IsQuiet m (go t) (go' t)) → IsQuiet (suc m) (λ u. step_on o (stay u) go u) (λ u. step_on o (stay' u) go' u)
quiet_step_on None stay stay' go go' p q = p
quiet_step_on (Some t) stay stay' go go' p q = quiet_ticking_less _ _ (quiet_bind _ _ _ _ (quiet_passing (is_beyond t)) (λ x. q t))

quiet_if_opened : {n : ℕ} (m : Mark) (f g : Account → Run Mark) → IsQuiet n f g → IsQuiet n (λ u. if_opened m (f u) u) (λ u. if_opened m (g u) u)
quiet_if_opened m f g p = quiet_if (opens m) _ _ _ _ p (quiet_done Other)

quiet_if_smaller : {n : ℕ} (m : Mark) (f g : Account → Run Mark) → IsQuiet n f g → IsQuiet n (λ u. if_smaller m (f u) u) (λ u. if_smaller m (g u) u)
quiet_if_smaller Smaller f g p = p
quiet_if_smaller m f g p = quiet_done Other

mutual
  quiet_look : {m : ℕ} (E : Env) (r : Option Name) (go go' : Finding) → ((V : Values) (M : Marks) (t : Term) → IsQuiet m (go V M t) (go' V M t)) →
      (V : Values) (M : Marks) (t : Term) → IsQuiet (suc m) (λ u. look E r go V M t u) (λ u. look E r go' V M t u)
  quiet_look E r go go' h V M (Rel i) = quiet_done (found_at (slice_get M i))
  quiet_look E r go go' h V M (App f a) = quiet_bind _ _ _ _ (quiet_look E r go go' h V M f) (λ m. quiet_done (applied m))
  quiet_look E r go go' h V M (Case f ps n ret s bs) =
      quiet_bind _ _ _ _ (quiet_step_on (weak_next E V s) _ _ _ _ (quiet_look E r go go' h V M s) (h V M))
      (λ m. quiet_if_opened m _ _ (quiet_look_branches E r go go' h V M (ending E r f ps) (constructors_of (family_of E f)) bs))
  quiet_look E r go go' h V M t = quiet_done Other

  quiet_look_branches : {m : ℕ} (E : Env) (r : Option Name) (go go' : Finding) → ((V : Values) (M : Marks) (t : Term) → IsQuiet m (go V M t) (go' V M t)) →
      (V : Values) (M : Marks) (q : Ending) (Cs : List Constructor) (bs : Terms) →
      IsQuiet (suc m) (λ u. look_branches E r go V M q Cs bs u) (λ u. look_branches E r go' V M q Cs bs u)
  quiet_look_branches E r go go' h V M q Cs Done = quiet_done Smaller
  quiet_look_branches E r go go' h V M q Cs (Next n body bs) =
      quiet_bind _ _ _ _ (quiet_step_on (weak_next E (under n V) body) _ _ _ _ (quiet_look E r go go' h (under n V) (first_marks q Cs n M) body) (h (under n V) (first_marks q Cs n M)))
      (λ m. quiet_if_smaller m _ _ (quiet_look_branches E r go go' h V M q (later Cs) bs))

-- with fuel for the units that there are
quiet_find : (E : Env) (r : Option Name) (m j : ℕ) (V : Values) (M : Marks) (t : Term) → IsQuiet (suc j) (λ u. find E r m V M t u) (λ u. find E r j V M t u)
unfolding find
quiet_find E r zero zero V M t =
    quiet_step_on (weak_next E V t) _ _ _ _ (quiet_look E r (λ W N r v. no_unit) (λ W N r v. no_unit) (λ W N r. quiet_spent _) V M t) (λ r. quiet_spent _)
quiet_find E r zero (suc j) V M t =
    quiet_step_on (weak_next E V t) _ _ _ _ (quiet_look E r (λ W N r v. no_unit) (find E r j) (λ W N r. quiet_spent _) V M t) (λ r. quiet_spent _)
quiet_find E r (suc m) zero V M t =
    quiet_step_on (weak_next E V t) _ _ _ _ (quiet_look E r (find E r m) (λ W N r v. no_unit) (λ W N x. quiet_alone _ _ _ (quiet_find E r m zero W N x)) V M t)
    (λ x. quiet_alone _ _ _ (quiet_find E r m zero V M x))
quiet_find E r (suc m) (suc j) V M t =
    quiet_step_on (weak_next E V t) _ _ _ _ (quiet_look E r (find E r m) (find E r j) (quiet_find E r m j) V M t) (quiet_find E r m j V M)

quiet_found : {n : ℕ} (E : Env) (r : Option Name) (V : Values) (M : Marks) (t : Term) → IsQuiet n (λ u. find E r u.left V M t u) (λ u. find E r u.left V M t u)
quiet_found E r V M t = record {
  falls = λ u. (quiet_find E r u.left zero V M t).falls u;
  again = λ u w l. (quiet_find E r u.left w.left V M t).again u w (omega arith);
}

quiet_normal : {n : ℕ} (E : Env) (r : Option Name) (V : Values) (M : Marks) (t : Term) → IsQuiet n (λ u. normal_found E r V M t u) (λ u. normal_found E r V M t u)
quiet_normal E r V M t = quiet_bind _ _ _ _ (quiet_whnf E V t) (λ W. quiet_bind _ _ _ _ (quiet_found E r V M W) (λ m. quiet_done (W, m)))

quiet_smaller : {n : ℕ} (W : Term) (m : Mark) → IsQuiet n (λ u. smaller_argument W m u) (λ u. smaller_argument W m u)
quiet_smaller W Smaller = quiet_done tt
quiet_smaller W m = quiet_refused (NotGuarded W)

quiet_argument : {n : ℕ} (E : Env) (r : Option Name) (V : Values) (M : Marks) (i : ℕ) (o : Option Term) → IsQuiet n (λ u. call_argument E r V M i o u) (λ u. call_argument E r V M i o u)
quiet_argument E r V M i None = quiet_refused (NotGuarded (Rel i))
quiet_argument E r V M i (Some a) = quiet_ticking _ _ (quiet_bind _ _ _ _ (quiet_normal E r V M a) (λ p. quiet_smaller p.0 p.1))

quiet_call : {n : ℕ} (E : Env) (r : Option Name) (V : Values) (M : Marks) (i : ℕ) (xs : List Term) (o : Option Mark) → IsQuiet n (λ u. call_rule E r V M i xs o u) (λ u. call_rule E r V M i xs o u)
quiet_call E r V M i xs (Some (Recursive rarg)) = quiet_argument E r V M i (slice_get xs rarg)
quiet_call E r V M i xs m = quiet_done tt

quiet_interleaved : {n : ℕ} {fs fs' gs gs' : List Act} → AreQuiet n fs fs' → AreQuiet n gs gs' → AreQuiet n (interleaved fs gs) (interleaved fs' gs')
quiet_interleaved no_act q = q
quiet_interleaved (an_act p ps) no_act = an_act p ps
quiet_interleaved (an_act p ps) (an_act q qs) = an_act p (an_act q (quiet_interleaved ps qs))

quiet_append : {n : ℕ} {fs fs' gs gs' : List Act} → AreQuiet n fs fs' → AreQuiet n gs gs' → AreQuiet n (fs ++ gs) (fs' ++ gs')
quiet_append no_act q = q
quiet_append (an_act p ps) q = an_act p (quiet_append ps q)

quiet_argument_found : {n : ℕ} (E : Env) (r : Option Name) (V : Values) (M : Marks) (o : Option Term) → IsQuiet n (λ u. argument_found E r V M o u) (λ u. argument_found E r V M o u)
quiet_argument_found E r V M None = quiet_done Other
quiet_argument_found E r V M (Some a) = quiet_bind _ _ _ _ (quiet_normal E r V M a) (λ p. quiet_done p.1)

quiet_if_passed : {n : ℕ} {fs fs' gs gs' : List Act} (m : Mark) → AreQuiet n fs fs' → AreQuiet n gs gs' → AreQuiet n (if_passed m fs gs) (if_passed m fs' gs')
quiet_if_passed Smaller p q = p
quiet_if_passed m p q = q

mutual
  quiet_walk : {n : ℕ} (E : Env) (r : Option Name) (V : Values) (M : Marks) (xs : List Term) (t : Term) → IsQuiet n (λ u. walk E r V M xs t u) (λ u. walk E r V M xs t u)
  quiet_walk E r V M xs (Rel i) = quiet_call E r V M i xs (slice_get M i)
  quiet_walk E r V M xs (App f a) = quiet_bind _ _ _ _ (quiet_walk E r V M (a ∷ xs) f) (λ x. quiet_walk E r V M [] a)
  quiet_walk E r V M xs (LetIn b B t) =
      quiet_bind _ _ _ _ (quiet_walk E r V M [] b) (λ x. quiet_bind _ _ _ _ (quiet_walk E r V M [] B) (λ y. quiet_walk E r (Some b ∷ V) (Other ∷ M) [] t))
  quiet_walk E r V M xs (Case f ps m ret s bs) =
      quiet_bind _ _ _ _ (quiet_normal E r V M s) (λ p.
      quiet_bind _ _ _ _ (quiet_walk E r V M [] s) (λ x.
      quiet_bind _ _ _ _ (quiet_all (quiet_walk_terms E r V M ps)) (λ y.
      quiet_bind _ _ _ _ (quiet_walk E r (under m V) (others m M) [] ret) (λ z.
      quiet_all (quiet_walk_branches E r V M (ending E r f ps) (opens p.1) (constructors_of (family_of E f)) bs)))))
  quiet_walk E r V M xs (Fix i rargs types bodies) =
      quiet_bind _ _ _ _ (quiet_argument_found E r V M (passed_argument rargs xs)) (λ m.
      quiet_all (quiet_interleaved (quiet_walk_terms E r V M types) (quiet_if_passed m (quiet_walk_passed E r V M rargs bodies) (quiet_walk_terms E r V M bodies))))
  quiet_walk E r V M xs (Node l ts) = quiet_all (quiet_walk_children E r V M ts)

  quiet_walk_children : {n : ℕ} (E : Env) (r : Option Name) (V : Values) (M : Marks) {ss : List Slot} (ts : Children ss) → AreQuiet n (walk_children E r V M ts) (walk_children E r V M ts)
  quiet_walk_children E r V M End = no_act
  quiet_walk_children E r V M (Child {n} t ts) = an_act (quiet_walk E r (under n V) (others n M) [] t) (quiet_walk_children E r V M ts)
  quiet_walk_children E r V M (Group us ts) = quiet_append (quiet_walk_terms E r V M us) (quiet_walk_children E r V M ts)

  quiet_walk_terms : {n : ℕ} (E : Env) (r : Option Name) (V : Values) (M : Marks) (ts : Terms) → AreQuiet n (walk_terms E r V M ts) (walk_terms E r V M ts)
  quiet_walk_terms E r V M Done = no_act
  quiet_walk_terms E r V M (Next n t ts) = an_act (quiet_walk E r (under n V) (others n M) [] t) (quiet_walk_terms E r V M ts)

  quiet_walk_branches : {n : ℕ} (E : Env) (r : Option Name) (V : Values) (M : Marks) (q : Ending) (opened : Bool) (Cs : List Constructor) (bs : Terms) →
      AreQuiet n (walk_branches E r V M q opened Cs bs) (walk_branches E r V M q opened Cs bs)
  quiet_walk_branches E r V M q opened Cs Done = no_act
  quiet_walk_branches E r V M q true Cs (Next n t ts) = an_act (quiet_walk E r (under n V) (first_marks q Cs n M) [] t) (quiet_walk_branches E r V M q true (later Cs) ts)
  quiet_walk_branches E r V M q false Cs (Next n t ts) = an_act (quiet_walk E r (under n V) (others n M) [] t) (quiet_walk_branches E r V M q false (later Cs) ts)

  quiet_walk_passed : {n : ℕ} (E : Env) (r : Option Name) (V : Values) (M : Marks) (rargs : List ℕ) (bs : Terms) → AreQuiet n (walk_passed E r V M rargs bs) (walk_passed E r V M rargs bs)
  quiet_walk_passed E r V M [] bs = no_act
  quiet_walk_passed E r V M (rarg ∷ rargs) Done = no_act
  quiet_walk_passed E r V M (rarg ∷ rargs) (Next n b bs) = an_act (quiet_walk_under E r (under n V) (others n M) Smaller rarg b) (quiet_walk_passed E r V M rargs bs)

  quiet_walk_under : {n : ℕ} (E : Env) (r : Option Name) (V : Values) (M : Marks) (m : Mark) (rarg : ℕ) (t : Term) → IsQuiet n (λ u. walk_under E r V M m rarg t u) (λ u. walk_under E r V M m rarg t u)
  quiet_walk_under E r V M m zero (Lambda A b) = quiet_bind _ _ _ _ (quiet_walk E r V M [] A) (λ x. quiet_walk E r (None ∷ V) (m ∷ M) [] b)
  quiet_walk_under E r V M m (suc rarg) (Lambda A b) = quiet_bind _ _ _ _ (quiet_walk E r V M [] A) (λ x. quiet_walk_under E r (None ∷ V) (Other ∷ M) m rarg b)
  quiet_walk_under E r V M m rarg t = quiet_refused (NotGuarded t)

quiet_block : {n : ℕ} (E : Env) (V : Values) (rarg : ℕ) (t : Term) → IsQuiet n (λ u. recursive_block E V rarg t u) (λ u. recursive_block E V rarg t u)
quiet_block E V zero (Lambda A b) = quiet_bind _ _ _ _ (quiet_whnf E V A) (λ W. quiet_done (head_block (head W)))
quiet_block E V (suc rarg) (Lambda A b) = quiet_block E (None ∷ V) rarg b
quiet_block E V rarg t = quiet_done None

quiet_body : {n : ℕ} (E : Env) (V : Values) (M : Marks) (rarg : ℕ) (t : Term) → IsQuiet n (λ u. body_guard E V M rarg t u) (λ u. body_guard E V M rarg t u)
unfolding body_guard
quiet_body E V M rarg t = quiet_bind _ _ _ _ (quiet_block E V rarg t) (λ r. quiet_walk_under E r V M Argument rarg t)

quiet_bodies : {n : ℕ} (E : Env) (V : Values) (M : Marks) (rargs : List ℕ) (bs : Terms) → AreQuiet n (bodies_guard E V M rargs bs) (bodies_guard E V M rargs bs)
quiet_bodies E V M [] bs = no_act
quiet_bodies E V M (r ∷ rargs) Done = no_act
quiet_bodies E V M (r ∷ rargs) (Next m b bs) = an_act (quiet_body E V M r b) (quiet_bodies E V M rargs bs)

pub quiet_guard : {n : ℕ} (E : Env) (V : Values) (rargs : List ℕ) (bodies : Terms) → IsQuiet n (λ u. fix_guard E V rargs bodies u) (λ u. fix_guard E V rargs bodies u)
quiet_guard E V rargs bodies = quiet_all (quiet_bodies E (under (length rargs) V) (definition_marks rargs []) rargs bodies)
