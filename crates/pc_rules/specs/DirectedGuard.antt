-- The guard's walk, with units: one for each call of a fixpoint's variable, and one for each weak-head step of a normal form it asks for.
use Rattle.std.specs.Prelude.{ℕ, zero, suc, ◌++◌, Bool, true, false, List, [], ◌∷◌, length, Option, Some, None, slice_get, if◌then◌else◌}
use Rattle.pc_terms.specs.declared.leaf.Name.{Name}
use Rattle.pc_terms.specs.Syntax.{Slot, Term, Terms, Children, End, Child, Group, Next, Rel, Node, Prod, Lambda, LetIn, App, Ind, Case, Fix, head}
use Rattle.pc_terms.specs.Syntax as syntax
use Rattle.calculus_rules.specs.declared.declaration.Constructor.{Constructor}
use Rattle.pc_rules.specs.declared.broken.Broken.TheVariants.{NotGuarded}
use Rattle.pc_rules.specs.declared.meter.Account.{Account}
use Rattle.calculus_rules.specs.Environment.{Env, FamilyDecl}
use Rattle.calculus_rules.specs.Context.{Values, under}
use Rattle.calculus_rules.specs.Guardedness.{Mark, Recursive, Argument, Smaller, Other, Marks, Ending, ending, others, branch_marks, head_block, definition_marks}
use Rattle.pc_rules.specs.DirectedRun.{Run, Act, done, refused, no_unit, passing, is_beyond, bind, ticking, run_all}
use Rattle.calculus_rules.specs.Lookups.{family_of}
use Rattle.pc_rules.specs.DirectedWeakHead.{whnf, weak_next}

-- what a term is found to be: the argument, smaller, or neither
abbrev pub Finding : Type 0
Finding = Values → Marks → Term → Account → Run Mark

abbrev pub found_at : Option Mark → Mark
found_at (Some Argument) = Argument
found_at (Some Smaller) = Smaller
found_at _ = Other

-- what a term with one more argument is, by what its function is
abbrev pub applied : Mark → Mark
applied Smaller = Smaller
applied _ = Other

abbrev pub opens : Mark → Bool
opens Argument = true
opens Smaller = true
opens _ = false

abbrev pub constructors_of : Option FamilyDecl → List Constructor
constructors_of None = []
constructors_of (Some F) = F.constructors

-- a step of a term, paid for, and then what the term is that it leads to; or what the term is that has no step
abbrev pub step_on : Option Term → Run Mark → (Term → Account → Run Mark) → Account → Run Mark
step_on None stay go u = stay
step_on (Some t) stay go u = ticking u (λ v. bind (passing (is_beyond t) v) (λ _ w. go t w))

abbrev pub if_smaller : Mark → Run Mark → Account → Run Mark
if_smaller Smaller go u = go
if_smaller m go u = done Other u

abbrev pub if_opened : Mark → Run Mark → Account → Run Mark
if_opened m go u = if opens m then go else done Other u

-- the marks and the constructors left for the branches of a match
abbrev pub first_marks : Ending → List Constructor → ℕ → Marks → Marks
first_marks q [] n M = others n M
first_marks q (C ∷ Cs) n M = branch_marks q 0 C.args M

abbrev pub later : List Constructor → List Constructor
later [] = []
later (C ∷ Cs) = Cs

-- what a weak-head normal form is; `go` finds what a term is that a paid step has led to
abbrev mutual
  pub look : Env → Option Name → Finding → Values → Marks → Term → Account → Run Mark
  look E r go V M (Rel i) u = done (found_at (slice_get M i)) u
  look E r go V M (App f a) u = bind (look E r go V M f u) (λ m v. done (applied m) v)
  look E r go V M (Case f ps n ret s bs) u =
      bind (step_on (weak_next E V s) (look E r go V M s u) (go V M) u) (λ m v.
      if_opened m (look_branches E r go V M (ending E r f ps) (constructors_of (family_of E f)) bs v) v)
  look E r go V M t u = done Other u

  -- whether all branch bodies are smaller; it stops at the first that isn't
  pub look_branches : Env → Option Name → Finding → Values → Marks → Ending → List Constructor → Terms → Account → Run Mark
  look_branches E r go V M q Cs syntax.Done u = done Smaller u
  look_branches E r go V M q Cs (Next n body bs) u =
      bind (step_on (weak_next E (under n V) body) (look E r go (under n V) (first_marks q Cs n M) body u) (go (under n V) (first_marks q Cs n M)) u) (λ m v.
      if_smaller m (look_branches E r go V M q (later Cs) bs v) v)

-- what a term is, with a number of steps at most
unfoldable pub find : Env → Option Name → ℕ → Finding
find E r zero V M t u = step_on (weak_next E V t) (look E r (λ W N x v. no_unit) V M t u) (λ x v. no_unit) u
find E r (suc n) V M t u = step_on (weak_next E V t) (look E r (find E r n) V M t u) (find E r n V M) u

-- a weak-head normal form, and what it is
abbrev pub normal_found : Env → Option Name → Values → Marks → Term → Account → Run (Term × Mark)
normal_found E r V M t u = bind (whnf E V t u) (λ W v. bind (find E r v.left V M W v) (λ m w. done (W, m) w))

-- a call: the recursive argument is smaller
abbrev pub smaller_argument : Term → Mark → Act
smaller_argument W Smaller u = done tt u
smaller_argument W m u = refused (NotGuarded W) u

abbrev pub call_argument : Env → Option Name → Values → Marks → ℕ → Option Term → Act
call_argument E r V M i None u = refused (NotGuarded (Rel i)) u
call_argument E r V M i (Some a) u = ticking u (λ v. bind (normal_found E r V M a v) (λ p w. smaller_argument p.0 p.1 w))

-- variable i as the head of the arguments xs
abbrev pub call_rule : Env → Option Name → Values → Marks → ℕ → List Term → Option Mark → Act
call_rule E r V M i xs (Some (Recursive rarg)) u = call_argument E r V M i (slice_get xs rarg) u
call_rule E r V M i xs m u = done tt u

abbrev pub interleaved : List Act → List Act → List Act
interleaved [] bs = bs
interleaved (a ∷ as') [] = a ∷ as'
interleaved (a ∷ as') (b ∷ bs) = a ∷ b ∷ interleaved as' bs

-- the recursive argument of a fixpoint of one definition that has it
abbrev pub passed_argument : List ℕ → List Term → Option Term
passed_argument (rarg ∷ []) xs = slice_get xs rarg
passed_argument _ xs = None

-- what that argument is found to be
abbrev pub argument_found : Env → Option Name → Values → Marks → Option Term → Account → Run Mark
argument_found E r V M None u = done Other u
argument_found E r V M (Some a) u = bind (normal_found E r V M a u) (λ p v. done p.1 v)

abbrev pub if_passed : Mark → List Act → List Act → List Act
if_passed Smaller as' bs = as'
if_passed m as' bs = bs

-- the walk over a term that has the arguments xs: a call is tested before its arguments are walked; a match's scrutinee is tested before
-- any part of it is walked, then come scrutinee, parameters, predicate and branches; the recursive argument of a fixpoint of one definition
-- is tested before any part of it is walked; then a fixpoint is walked definition by definition, type and then body; other parts from left
-- to right
abbrev mutual
  pub walk : Env → Option Name → Values → Marks → List Term → Term → Act
  walk E r V M xs (Rel i) u = call_rule E r V M i xs (slice_get M i) u
  walk E r V M xs (App f a) u = bind (walk E r V M (a ∷ xs) f u) (λ _ v. walk E r V M [] a v)
  walk E r V M xs (LetIn b B t) u =
      bind (walk E r V M [] b u) (λ _ v. bind (walk E r V M [] B v) (λ _ w. walk E r (Some b ∷ V) (Other ∷ M) [] t w))
  walk E r V M xs (Case f ps n ret s bs) u =
      bind (normal_found E r V M s u) (λ p v.
      bind (walk E r V M [] s v) (λ _ w.
      bind (run_all (walk_terms E r V M ps) w) (λ _ x.
      bind (walk E r (under n V) (others n M) [] ret x) (λ _ y.
      run_all (walk_branches E r V M (ending E r f ps) (opens p.1) (constructors_of (family_of E f)) bs) y))))
  walk E r V M xs (Fix i rargs types bodies) u =
      bind (argument_found E r V M (passed_argument rargs xs) u) (λ m v.
      run_all (interleaved (walk_terms E r V M types) (if_passed m (walk_passed E r V M rargs bodies) (walk_terms E r V M bodies))) v)
  walk E r V M xs (Node l ts) u = run_all (walk_children E r V M ts) u

  pub walk_children : Env → Option Name → Values → Marks → {ss : List Slot} → Children ss → List Act
  walk_children E r V M End = []
  walk_children E r V M (Child {n} t ts) = walk E r (under n V) (others n M) [] t ∷ walk_children E r V M ts
  walk_children E r V M (Group us ts) = walk_terms E r V M us ++ walk_children E r V M ts

  pub walk_terms : Env → Option Name → Values → Marks → Terms → List Act
  walk_terms E r V M syntax.Done = []
  walk_terms E r V M (Next n t ts) = walk E r (under n V) (others n M) [] t ∷ walk_terms E r V M ts

  -- in a match that is opened the variables of branches are marked
  pub walk_branches : Env → Option Name → Values → Marks → Ending → Bool → List Constructor → Terms → List Act
  walk_branches E r V M q opened Cs syntax.Done = []
  walk_branches E r V M q opened Cs (Next n t ts) =
      walk E r (under n V) (if opened then first_marks q Cs n M else others n M) [] t ∷ walk_branches E r V M q opened (later Cs) ts

  -- the bodies of a fixpoint whose recursive argument is smaller
  pub walk_passed : Env → Option Name → Values → Marks → List ℕ → Terms → List Act
  walk_passed E r V M (rarg ∷ rargs) (Next n b bs) = walk_under E r (under n V) (others n M) Smaller rarg b ∷ walk_passed E r V M rargs bs
  walk_passed E r V M _ _ = []

  -- a body, under its rarg + 1 lambdas, where the last of their variables has a mark; one that has fewer lambdas, which no typed term has
  -- in it, is refused
  pub walk_under : Env → Option Name → Values → Marks → Mark → ℕ → Term → Act
  walk_under E r V M m zero (Lambda A b) u = bind (walk E r V M [] A u) (λ _ v. walk E r (None ∷ V) (m ∷ M) [] b v)
  walk_under E r V M m (suc rarg) (Lambda A b) u = bind (walk E r V M [] A u) (λ _ v. walk_under E r (None ∷ V) (Other ∷ M) m rarg b v)
  walk_under E r V M m rarg t u = refused (NotGuarded t) u

-- the recursive block: that of the family at the head of the weak-head normal form of the domain of lambda number rarg
abbrev pub recursive_block : Env → Values → ℕ → Term → Account → Run (Option Name)
recursive_block E V zero (Lambda A b) u = bind (whnf E V A u) (λ W v. done (head_block (head W)) v)
recursive_block E V (suc rarg) (Lambda A b) u = recursive_block E (None ∷ V) rarg b u
recursive_block E V rarg t u = done None u

-- a definition's body: the recursive block, and then the walk
unfoldable pub body_guard : Env → Values → Marks → ℕ → Term → Act
body_guard E V M rarg t u = bind (recursive_block E V rarg t u) (λ r v. walk_under E r V M Argument rarg t v)

abbrev pub bodies_guard : Env → Values → Marks → List ℕ → Terms → List Act
bodies_guard E V M (rarg ∷ rargs) (Next n b bs) = body_guard E V M rarg b ∷ bodies_guard E V M rargs bs
bodies_guard E V M _ _ = []

-- the guard of a fixpoint: each definition's body, under all definitions
abbrev pub fix_guard : Env → Values → List ℕ → Terms → Act
fix_guard E V rargs bodies u = run_all (bodies_guard E (under (length rargs) V) (definition_marks rargs []) rargs bodies) u
