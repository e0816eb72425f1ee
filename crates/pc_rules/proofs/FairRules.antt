-- The guard, inference and blocks never go back on units, and more units change no result.
use Rattle.std.proofs.Common.{ℕ, zero, suc, ◌+◌, ◌≤◌, Bool, true, false, List, [], ◌∷◌, ◌++◌, length, Option, Some, None, arith, slice_get}
use Rattle.pc_terms.specs.declared.leaf.Name.{Name}
use Rattle.pc_terms.specs.Syntax.{Slot, Term, Terms, Children, End, Child, Group, Done, Next, Rel, Node, Lambda, LetIn, App, Case, Fix, head}
use Rattle.calculus_rules.specs.declared.declaration.Constructor.{Constructor}
use Rattle.pc_rules.specs.declared.broken.Broken.TheVariants.{NotGuarded}
use Rattle.pc_rules.specs.declared.meter.Account.{Account}
use Rattle.calculus_rules.specs.Environment.{Env}
use Rattle.calculus_rules.specs.Context.{Values, under}
use Rattle.calculus_rules.specs.Guardedness.{Mark, Recursive, Argument, Smaller, Other, Marks, Ending, ending, others, head_block, definition_marks}
use Rattle.pc_rules.specs.DirectedRun.{Run, Act, no_unit, is_beyond, bind, passing, Leaves}
use Rattle.calculus_rules.specs.Lookups.{family_of}
use Rattle.pc_rules.specs.DirectedWeakHead.{weak_next}
use Rattle.pc_rules.specs.DirectedGuard.{Finding, found_at, applied, opens, constructors_of, step_on, if_smaller, if_opened, first_marks, later, look, look_branches, find, normal_found, smaller_argument, call_argument, call_rule, interleaved, passed_argument, argument_found, if_passed, walk, walk_children, walk_terms, walk_branches, walk_passed, walk_under, recursive_block, body_guard, bodies_guard, fix_guard}
use Rattle.pc_rules.proofs.Fair.{IsFair, AreFair, no_act, an_act, fair_done, fair_refused, fair_passing, fair_spent, fair_if, fair_bind, fair_ticking, fair_ticking_less, fair_less, fair_all, leaves_bind, leaves_ticking, same_left}
use Rattle.pc_rules.proofs.FairReduction.{fair_whnf}

-- the guard

fair_step_on : {m k : ℕ} (o : Option Term) (stay stay' : Account → Run Mark) (go go' : Term → Account → Run Mark) → IsFair (suc m) k stay stay' →
    ((t : Term) → IsFair m k (go t) (go' t)) → IsFair (suc m) k (λ u. step_on o (stay u) go u) (λ u. step_on o (stay' u) go' u)
fair_step_on None stay stay' go go' p q = p
fair_step_on (Some t) stay stay' go go' p q = fair_ticking_less _ _ (fair_bind _ _ _ _ (fair_passing (is_beyond t)) (λ x. q t))

fair_if_opened : {n k : ℕ} (m : Mark) (f g : Account → Run Mark) → IsFair n k f g → IsFair n k (λ u. if_opened m (f u) u) (λ u. if_opened m (g u) u)
fair_if_opened m f g p = fair_if (opens m) _ _ _ _ p (fair_done Other)

fair_if_smaller : {n k : ℕ} (m : Mark) (f g : Account → Run Mark) → IsFair n k f g → IsFair n k (λ u. if_smaller m (f u) u) (λ u. if_smaller m (g u) u)
fair_if_smaller Smaller f g p = p
fair_if_smaller m f g p = fair_done Other

mutual
  fair_look : {m k : ℕ} (E : Env) (r : Option Name) (go go' : Finding) → ((V : Values) (M : Marks) (t : Term) → IsFair m k (go V M t) (go' V M t)) →
      (V : Values) (M : Marks) (t : Term) → IsFair (suc m) k (λ u. look E r go V M t u) (λ u. look E r go' V M t u)
  fair_look E r go go' h V M (Rel i) = fair_done (found_at (slice_get M i))
  fair_look E r go go' h V M (App f a) = fair_bind _ _ _ _ (fair_look E r go go' h V M f) (λ m. fair_done (applied m))
  fair_look E r go go' h V M (Case f ps n ret s bs) =
      fair_bind _ _ _ _ (fair_step_on (weak_next E V s) _ _ _ _ (fair_look E r go go' h V M s) (h V M))
      (λ m. fair_if_opened m _ _ (fair_look_branches E r go go' h V M (ending E r f ps) (constructors_of (family_of E f)) bs))
  fair_look E r go go' h V M t = fair_done Other

  fair_look_branches : {m k : ℕ} (E : Env) (r : Option Name) (go go' : Finding) → ((V : Values) (M : Marks) (t : Term) → IsFair m k (go V M t) (go' V M t)) →
      (V : Values) (M : Marks) (q : Ending) (Cs : List Constructor) (bs : Terms) →
      IsFair (suc m) k (λ u. look_branches E r go V M q Cs bs u) (λ u. look_branches E r go' V M q Cs bs u)
  fair_look_branches E r go go' h V M q Cs Done = fair_done Smaller
  fair_look_branches E r go go' h V M q Cs (Next n body bs) =
      fair_bind _ _ _ _ (fair_step_on (weak_next E (under n V) body) _ _ _ _ (fair_look E r go go' h (under n V) (first_marks q Cs n M) body) (h (under n V) (first_marks q Cs n M)))
      (λ m. fair_if_smaller m _ _ (fair_look_branches E r go go' h V M q (later Cs) bs))

spent : Finding
spent W N r v = no_unit

-- with more fuel than units, fuel changes nothing
fair_find : {k : ℕ} (E : Env) (r : Option Name) (m j : ℕ) → m ≤ j → (V : Values) (M : Marks) (t : Term) → IsFair m k (λ u. find E r m V M t u) (λ u. find E r j V M t u)
unfolding find
fair_find E r zero zero l V M t =
    fair_less 1 _ _ (omega arith) (fair_step_on (weak_next E V t) _ _ _ _ (fair_look E r (λ W N r v. no_unit) (λ W N r v. no_unit) (λ W N r. fair_spent _) V M t) (λ r. fair_spent _))
fair_find E r zero (suc j) l V M t =
    fair_less 1 _ _ (omega arith) (fair_step_on (weak_next E V t) _ _ _ _ (fair_look E r (λ W N r v. no_unit) (find E r j) (λ W N r. fair_spent _) V M t) (λ r. fair_spent _))
fair_find E r (suc m) zero l V M t = absurd (omega arith)
fair_find E r (suc m) (suc j) l V M t =
    fair_step_on (weak_next E V t) _ _ _ _ (fair_look E r (find E r m) (find E r j) (fair_find E r m j (omega arith)) V M t) (fair_find E r m j (omega arith) V M)

fair_found : {n k : ℕ} (E : Env) (r : Option Name) (V : Values) (M : Marks) (t : Term) → IsFair n k (λ u. find E r u.left V M t u) (λ u. find E r u.left V M t u)
fair_found {k = k} E r V M t = record {
  falls = λ u. (fair_find {k = k} E r u.left u.left (omega arith) V M t).falls u;
  stays = λ u l. (fair_find {k = k} E r u.left (u.left + k) (omega arith) V M t).stays u (omega arith);
}

fair_normal : {n k : ℕ} (E : Env) (r : Option Name) (V : Values) (M : Marks) (t : Term) → IsFair n k (λ u. normal_found E r V M t u) (λ u. normal_found E r V M t u)
fair_normal E r V M t = fair_bind _ _ _ _ (fair_whnf E V t) (λ W. fair_bind _ _ _ _ (fair_found E r V M W) (λ m. fair_done (W, m)))

fair_smaller : {n k : ℕ} (W : Term) (m : Mark) → IsFair n k (λ u. smaller_argument W m u) (λ u. smaller_argument W m u)
fair_smaller W Smaller = fair_done tt
fair_smaller W m = fair_refused (NotGuarded W)

fair_argument : {n k : ℕ} (E : Env) (r : Option Name) (V : Values) (M : Marks) (i : ℕ) (o : Option Term) → IsFair n k (λ u. call_argument E r V M i o u) (λ u. call_argument E r V M i o u)
fair_argument E r V M i None = fair_refused (NotGuarded (Rel i))
fair_argument E r V M i (Some a) = fair_ticking _ _ (fair_bind _ _ _ _ (fair_normal E r V M a) (λ p. fair_smaller p.0 p.1))

fair_call : {n k : ℕ} (E : Env) (r : Option Name) (V : Values) (M : Marks) (i : ℕ) (xs : List Term) (o : Option Mark) → IsFair n k (λ u. call_rule E r V M i xs o u) (λ u. call_rule E r V M i xs o u)
fair_call E r V M i xs (Some (Recursive rarg)) = fair_argument E r V M i (slice_get xs rarg)
fair_call E r V M i xs m = fair_done tt

pub fair_interleaved : {n k : ℕ} {fs fs' gs gs' : List Act} → AreFair n k fs fs' → AreFair n k gs gs' → AreFair n k (interleaved fs gs) (interleaved fs' gs')
fair_interleaved no_act q = q
fair_interleaved (an_act p ps) no_act = an_act p ps
fair_interleaved (an_act p ps) (an_act q qs) = an_act p (an_act q (fair_interleaved ps qs))

pub fair_append : {n k : ℕ} {fs fs' gs gs' : List Act} → AreFair n k fs fs' → AreFair n k gs gs' → AreFair n k (fs ++ gs) (fs' ++ gs')
fair_append no_act q = q
fair_append (an_act p ps) q = an_act p (fair_append ps q)

fair_argument_found : {n k : ℕ} (E : Env) (r : Option Name) (V : Values) (M : Marks) (o : Option Term) → IsFair n k (λ u. argument_found E r V M o u) (λ u. argument_found E r V M o u)
fair_argument_found E r V M None = fair_done Other
fair_argument_found E r V M (Some a) = fair_bind _ _ _ _ (fair_normal E r V M a) (λ p. fair_done p.1)

pub fair_if_passed : {n k : ℕ} {fs fs' gs gs' : List Act} (m : Mark) → AreFair n k fs fs' → AreFair n k gs gs' → AreFair n k (if_passed m fs gs) (if_passed m fs' gs')
fair_if_passed Smaller p q = p
fair_if_passed m p q = q

mutual
  pub fair_walk : {n k : ℕ} (E : Env) (r : Option Name) (V : Values) (M : Marks) (xs : List Term) (t : Term) → IsFair n k (λ u. walk E r V M xs t u) (λ u. walk E r V M xs t u)
  fair_walk E r V M xs (Rel i) = fair_call E r V M i xs (slice_get M i)
  fair_walk E r V M xs (App f a) = fair_bind _ _ _ _ (fair_walk E r V M (a ∷ xs) f) (λ x. fair_walk E r V M [] a)
  fair_walk E r V M xs (LetIn b B t) =
      fair_bind _ _ _ _ (fair_walk E r V M [] b) (λ x. fair_bind _ _ _ _ (fair_walk E r V M [] B) (λ y. fair_walk E r (Some b ∷ V) (Other ∷ M) [] t))
  fair_walk E r V M xs (Case f ps m ret s bs) =
      fair_bind _ _ _ _ (fair_normal E r V M s) (λ p.
      fair_bind _ _ _ _ (fair_walk E r V M [] s) (λ x.
      fair_bind _ _ _ _ (fair_all (fair_walk_terms E r V M ps)) (λ y.
      fair_bind _ _ _ _ (fair_walk E r (under m V) (others m M) [] ret) (λ z.
      fair_all (fair_walk_branches E r V M (ending E r f ps) (opens p.1) (constructors_of (family_of E f)) bs)))))
  fair_walk E r V M xs (Fix i rargs types bodies) =
      fair_bind _ _ _ _ (fair_argument_found E r V M (passed_argument rargs xs)) (λ m.
      fair_all (fair_interleaved (fair_walk_terms E r V M types) (fair_if_passed m (fair_walk_passed E r V M rargs bodies) (fair_walk_terms E r V M bodies))))
  fair_walk E r V M xs (Node l ts) = fair_all (fair_walk_children E r V M ts)

  fair_walk_children : {n k : ℕ} (E : Env) (r : Option Name) (V : Values) (M : Marks) {ss : List Slot} (ts : Children ss) → AreFair n k (walk_children E r V M ts) (walk_children E r V M ts)
  fair_walk_children E r V M End = no_act
  fair_walk_children E r V M (Child {n} t ts) = an_act (fair_walk E r (under n V) (others n M) [] t) (fair_walk_children E r V M ts)
  fair_walk_children E r V M (Group us ts) = fair_append (fair_walk_terms E r V M us) (fair_walk_children E r V M ts)

  fair_walk_terms : {n k : ℕ} (E : Env) (r : Option Name) (V : Values) (M : Marks) (ts : Terms) → AreFair n k (walk_terms E r V M ts) (walk_terms E r V M ts)
  fair_walk_terms E r V M Done = no_act
  fair_walk_terms E r V M (Next n t ts) = an_act (fair_walk E r (under n V) (others n M) [] t) (fair_walk_terms E r V M ts)

  fair_walk_branches : {n k : ℕ} (E : Env) (r : Option Name) (V : Values) (M : Marks) (q : Ending) (opened : Bool) (Cs : List Constructor) (bs : Terms) →
      AreFair n k (walk_branches E r V M q opened Cs bs) (walk_branches E r V M q opened Cs bs)
  fair_walk_branches E r V M q opened Cs Done = no_act
  fair_walk_branches E r V M q true Cs (Next n t ts) = an_act (fair_walk E r (under n V) (first_marks q Cs n M) [] t) (fair_walk_branches E r V M q true (later Cs) ts)
  fair_walk_branches E r V M q false Cs (Next n t ts) = an_act (fair_walk E r (under n V) (others n M) [] t) (fair_walk_branches E r V M q false (later Cs) ts)

  fair_walk_passed : {n k : ℕ} (E : Env) (r : Option Name) (V : Values) (M : Marks) (rargs : List ℕ) (bs : Terms) → AreFair n k (walk_passed E r V M rargs bs) (walk_passed E r V M rargs bs)
  fair_walk_passed E r V M [] bs = no_act
  fair_walk_passed E r V M (rarg ∷ rargs) Done = no_act
  fair_walk_passed E r V M (rarg ∷ rargs) (Next n b bs) = an_act (fair_walk_under E r (under n V) (others n M) Smaller rarg b) (fair_walk_passed E r V M rargs bs)

  pub fair_walk_under : {n k : ℕ} (E : Env) (r : Option Name) (V : Values) (M : Marks) (m : Mark) (rarg : ℕ) (t : Term) → IsFair n k (λ u. walk_under E r V M m rarg t u) (λ u. walk_under E r V M m rarg t u)
  fair_walk_under E r V M m zero (Lambda A b) = fair_bind _ _ _ _ (fair_walk E r V M [] A) (λ x. fair_walk E r (None ∷ V) (m ∷ M) [] b)
  fair_walk_under E r V M m (suc rarg) (Lambda A b) = fair_bind _ _ _ _ (fair_walk E r V M [] A) (λ x. fair_walk_under E r (None ∷ V) (Other ∷ M) m rarg b)
  fair_walk_under E r V M m rarg t = fair_refused (NotGuarded t)

fair_block : {n k : ℕ} (E : Env) (V : Values) (rarg : ℕ) (t : Term) → IsFair n k (λ u. recursive_block E V rarg t u) (λ u. recursive_block E V rarg t u)
fair_block E V zero (Lambda A b) = fair_bind _ _ _ _ (fair_whnf E V A) (λ W. fair_done (head_block (head W)))
fair_block E V (suc rarg) (Lambda A b) = fair_block E (None ∷ V) rarg b
fair_block E V rarg t = fair_done None

pub fair_body : {n k : ℕ} (E : Env) (V : Values) (M : Marks) (rarg : ℕ) (t : Term) → IsFair n k (λ u. body_guard E V M rarg t u) (λ u. body_guard E V M rarg t u)
unfolding body_guard
fair_body E V M rarg t = fair_bind _ _ _ _ (fair_block E V rarg t) (λ r. fair_walk_under E r V M Argument rarg t)

fair_bodies : {n k : ℕ} (E : Env) (V : Values) (M : Marks) (rargs : List ℕ) (bs : Terms) → AreFair n k (bodies_guard E V M rargs bs) (bodies_guard E V M rargs bs)
fair_bodies E V M [] bs = no_act
fair_bodies E V M (r ∷ rargs) Done = no_act
fair_bodies E V M (r ∷ rargs) (Next m b bs) = an_act (fair_body E V M r b) (fair_bodies E V M rargs bs)

pub fair_guard : {n k : ℕ} (E : Env) (V : Values) (rargs : List ℕ) (bodies : Terms) → IsFair n k (λ u. fix_guard E V rargs bodies u) (λ u. fix_guard E V rargs bodies u)
fair_guard E V rargs bodies = fair_all (fair_bodies E (under (length rargs) V) (definition_marks rargs []) rargs bodies)

-- what runs leave, from one account

pub smaller_leaves : (W : Term) (m : Mark) (u : Account) → Leaves (smaller_argument W m u).end u.left
smaller_leaves W m u = (fair_smaller {n = 0} {k = 0} W m).falls u

pub call_argument_leaves : (E : Env) (r : Option Name) (V : Values) (M : Marks) (i : ℕ) (o : Option Term) (u : Account) → Leaves (call_argument E r V M i o u).end u.left
call_argument_leaves E r V M i o u = (fair_argument {n = 0} {k = 0} E r V M i o).falls u

pub call_leaves : (E : Env) (r : Option Name) (V : Values) (M : Marks) (i : ℕ) (xs : List Term) (o : Option Mark) (u : Account) → Leaves (call_rule E r V M i xs o u).end u.left
call_leaves E r V M i xs o u = (fair_call {n = 0} {k = 0} E r V M i xs o).falls u

pub argument_found_leaves : (E : Env) (r : Option Name) (V : Values) (M : Marks) (o : Option Term) (u : Account) → Leaves (argument_found E r V M o u).end u.left
argument_found_leaves E r V M o u = (fair_argument_found {n = 0} {k = 0} E r V M o).falls u

pub walk_leaves : (E : Env) (r : Option Name) (V : Values) (M : Marks) (xs : List Term) (t : Term) (u : Account) → Leaves (walk E r V M xs t u).end u.left
walk_leaves E r V M xs t u = (fair_walk {n = 0} {k = 0} E r V M xs t).falls u

pub walk_children_fair : (E : Env) (r : Option Name) (V : Values) (M : Marks) {ss : List Slot} (ts : Children ss) → AreFair 0 0 (walk_children E r V M ts) (walk_children E r V M ts)
walk_children_fair E r V M ts = fair_walk_children E r V M ts

pub walk_terms_fair : (E : Env) (r : Option Name) (V : Values) (M : Marks) (ts : Terms) → AreFair 0 0 (walk_terms E r V M ts) (walk_terms E r V M ts)
walk_terms_fair E r V M ts = fair_walk_terms E r V M ts

pub walk_branches_fair : (E : Env) (r : Option Name) (V : Values) (M : Marks) (q : Ending) (opened : Bool) (Cs : List Constructor) (bs : Terms) → AreFair 0 0 (walk_branches E r V M q opened Cs bs) (walk_branches E r V M q opened Cs bs)
walk_branches_fair E r V M q opened Cs bs = fair_walk_branches E r V M q opened Cs bs

pub walk_passed_fair : (E : Env) (r : Option Name) (V : Values) (M : Marks) (rargs : List ℕ) (bs : Terms) → AreFair 0 0 (walk_passed E r V M rargs bs) (walk_passed E r V M rargs bs)
walk_passed_fair E r V M rargs bs = fair_walk_passed E r V M rargs bs

pub walk_under_leaves : (E : Env) (r : Option Name) (V : Values) (M : Marks) (m : Mark) (rarg : ℕ) (t : Term) (u : Account) → Leaves (walk_under E r V M m rarg t u).end u.left
walk_under_leaves E r V M m rarg t u = (fair_walk_under {n = 0} {k = 0} E r V M m rarg t).falls u

pub recursive_block_leaves : (E : Env) (V : Values) (rarg : ℕ) (t : Term) (u : Account) → Leaves (recursive_block E V rarg t u).end u.left
recursive_block_leaves E V rarg t u = (fair_block {n = 0} {k = 0} E V rarg t).falls u

pub body_leaves : (E : Env) (V : Values) (M : Marks) (rarg : ℕ) (t : Term) (u : Account) → Leaves (body_guard E V M rarg t u).end u.left
body_leaves E V M rarg t u = (fair_body {n = 0} {k = 0} E V M rarg t).falls u

pub bodies_fair : (E : Env) (V : Values) (M : Marks) (rargs : List ℕ) (bs : Terms) → AreFair 0 0 (bodies_guard E V M rargs bs) (bodies_guard E V M rargs bs)
bodies_fair E V M rargs bs = fair_bodies E V M rargs bs

pub guard_leaves : (E : Env) (V : Values) (rargs : List ℕ) (bodies : Terms) (u : Account) → Leaves (fix_guard E V rargs bodies u).end u.left
guard_leaves E V rargs bodies u = (fair_guard {n = 0} {k = 0} E V rargs bodies).falls u

pub find_leaves : (E : Env) (r : Option Name) (m : ℕ) (V : Values) (M : Marks) (t : Term) (u : Account) → Leaves (find E r m V M t u).end u.left
find_leaves E r m V M t u = (fair_find {k = 0} E r m m (omega arith) V M t).falls u

-- of one that goes on with a number of steps at most
pub look_leaves : (E : Env) (r : Option Name) (m : ℕ) (V : Values) (M : Marks) (t : Term) (u : Account) → Leaves (look E r (find E r m) V M t u).end u.left
look_leaves E r m V M t u = (fair_look {k = 0} E r (find E r m) (find E r m) (fair_find E r m m (omega arith)) V M t).falls u

pub look_branches_leaves : (E : Env) (r : Option Name) (m : ℕ) (V : Values) (M : Marks) (q : Ending) (Cs : List Constructor) (bs : Terms) (u : Account) →
    Leaves (look_branches E r (find E r m) V M q Cs bs u).end u.left
look_branches_leaves E r m V M q Cs bs u = (fair_look_branches {k = 0} E r (find E r m) (find E r m) (fair_find E r m m (omega arith)) V M q Cs bs).falls u

pub step_on_leaves : (o : Option Term) (stay : Run Mark) (go : Term → Account → Run Mark) (u : Account) → Leaves stay.end u.left →
    ((t : Term) (v : Account) → Leaves (go t v).end v.left) → Leaves (step_on o stay go u).end u.left
step_on_leaves None stay go u h q = h
step_on_leaves (Some t) stay go u h q =
    leaves_ticking u (λ v. bind (passing (is_beyond t) v) (λ x w. go t w)) (λ v. leaves_bind (passing (is_beyond t) v) (λ x w. go t w) v.left (same_left v) (λ x w. q t w))

pub if_smaller_leaves : (m : Mark) (d : Run Mark) (u : Account) → Leaves d.end u.left → Leaves (if_smaller m d u).end u.left
if_smaller_leaves Smaller d u h = h
if_smaller_leaves m d u h = same_left u

pub ruleset leaving_finding = (find_leaves, look_leaves, look_branches_leaves, step_on_leaves, if_smaller_leaves, argument_found_leaves)

pub ruleset leaving_walks = (
  smaller_leaves,
  call_argument_leaves,
  call_leaves,
  walk_leaves,
  walk_under_leaves,
  walk_children_fair,
  walk_terms_fair,
  walk_branches_fair,
  walk_passed_fair,
  fair_walk,
  fair_walk_under,
  fair_interleaved,
  fair_append,
  fair_if_passed,
)

pub ruleset leaving_guard = (leaving_finding, leaving_walks, recursive_block_leaves, body_leaves, bodies_fair, guard_leaves, fair_body)
