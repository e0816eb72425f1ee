-- Weak-head steps as a function, and with units: one for each step.
use Rattle.std.specs.Prelude.{ℕ, zero, suc, ◌+◌, ◌==◌, ◌||◌, if◌then◌else◌, List, length, drop, Option, Some, None, slice_get, option_map}
use Rattle.pc_terms.specs.declared.leaf.FamilyId.{FamilyId}
use Rattle.pc_terms.specs.Syntax.{Term, Terms, Rel, Lambda, LetIn, App, Const, Construct, Case, Fix, put, put_all, substitute, apply, head, args, term_at}
use Rattle.pc_rules.specs.declared.meter.Account.{Account}
use Rattle.calculus_rules.specs.Environment.{Env, FamilyDecl}
use Rattle.calculus_rules.specs.Context.{Values, value_at}
use Rattle.calculus_rules.specs.Instances.{unfolded}
use Rattle.calculus_rules.specs.Same.{same_families}
use Rattle.pc_rules.specs.DirectedRun.{Run, done, no_unit, is_beyond, ticked}
use Rattle.calculus_rules.specs.Lookups.{if_some, kept_at, body_of, family_of}

-- the arguments of constructor c of the family, where there are n terms in all, parameters first, and that is the right number
abbrev pub arguments_at : FamilyDecl → ℕ → List Term → Option (List Term)
arguments_at F c xs =
    if_some (slice_get F.constructors c)
    (λ C. if length xs == length F.parameters + length C.args then Some (drop (length F.parameters) xs) else None)

abbrev pub built_arguments : Env → Term → List Term → Option (FamilyId × ℕ × List Term)
built_arguments E (Construct f c) xs = if_some (family_of E f) (λ F. option_map (λ ys. (f, c, ys)) (arguments_at F c xs))
built_arguments E h xs = None

-- the family, the number and the arguments of a constructor with all its parameters and arguments
abbrev pub built : Env → Term → Option (FamilyId × ℕ × List Term)
built E t = built_arguments E (head t) (args t)

abbrev pub branch_of : Terms → FamilyId → Option (FamilyId × ℕ × List Term) → Option Term
branch_of bs f None = None
branch_of bs f (Some p) =
    if same_families f p.0
    then if_some (term_at bs p.1) (λ b. if b.0 == length p.2 then Some (substitute (put_all p.2 Rel) b.1) else None)
    else None

abbrev pub case_step : Env → FamilyId → Terms → ℕ → Term → Term → Terms → Option Term → Option Term
case_step E f ps n ret s bs (Some u) = Some (Case f ps n ret u bs)
case_step E f ps n ret s bs None = branch_of bs f (built E s)

abbrev pub unfold_at : ℕ → List ℕ → Terms → Terms → List Term → Term → Option Term
unfold_at i rargs types bodies before a =
    if_some (term_at bodies i) (λ b. if b.0 == length rargs then Some (App (apply (unfolded rargs types bodies b.1) before) a) else None)

-- a fixpoint that has its recursive argument a: a steps, or the fixpoint unfolds where a is a constructor with all its arguments
abbrev pub recursive_step : Env → ℕ → List ℕ → Terms → Terms → List Term → Term → Term → Option Term → Option Term
recursive_step E i rargs types bodies before g a (Some b) = Some (App g b)
recursive_step E i rargs types bodies before g a None = if_some (built E a) (λ p. unfold_at i rargs types bodies before a)

-- g, which has no step, with argument a
abbrev pub fix_step : Env → Term → List Term → Term → Term → Option Term → Option Term
fix_step E (Fix i rargs types bodies) before g a next =
    if_some (slice_get rargs i) (λ rarg. if length before == rarg then recursive_step E i rargs types bodies before g a next else None)
fix_step E h before g a next = None

abbrev pub app_step : Env → Term → Term → Option Term → Option Term → Option Term
app_step E (Lambda A b) a next arg = Some (substitute (put a) b)
app_step E g a (Some f) arg = Some (App f a)
app_step E g a None arg = fix_step E (head g) (args g) g a arg

-- the next term, where there is a weak-head step
abbrev pub weak_next : Env → Values → Term → Option Term
weak_next E V (Rel i) = value_at V i
weak_next E V (Const k) = body_of (kept_at E.declarations k)
weak_next E V (LetIn b B t) = Some (substitute (put b) t)
weak_next E V (Case f ps n ret s bs) = case_step E f ps n ret s bs (weak_next E V s)
weak_next E V (App g a) = app_step E g a (weak_next E V g) (weak_next E V a)
weak_next E V t = None

-- goes on from a step, which a unit pays for
abbrev pub after_step : Option Term → Run Term → (Term → Run Term) → Run Term
after_step None stay go = stay
after_step (Some t) stay go = record { end = (go t).end; deep = is_beyond t || (go t).deep }

abbrev pub stuck_step : Option Term → Run Term → Run Term
stuck_step None stay = stay
stuck_step (Some t) stay = no_unit

-- as many steps as there are, with a number of units
unfoldable pub steps : Env → Values → ℕ → Term → Account → Run Term
steps E V zero t u = stuck_step (weak_next E V t) (done t u)
steps E V (suc n) t u = after_step (weak_next E V t) (done t u) (λ next. steps E V n next (ticked u))

-- the weak-head normal form, within the units left
abbrev pub whnf : Env → Values → Term → Account → Run Term
whnf E V t u = steps E V u.left t u
