-- Evaluation as a function, and with units: one for each node, taken when its term is entered, before the term is looked at. It ends
-- with the value, or is stuck with the first term entered for which there is no rule.
use Rattle.std.specs.Prelude.{ℕ, zero, suc, ◌+◌, ◌==◌, Bool, true, false, nat_lt, if◌then◌else◌, List, Option, Some, None, length, slice_get}
use Rattle.pc_terms.specs.Syntax.{Term, Rel, Lambda, LetIn, App, Const, Ind, Construct, Case, Fix, put, substitute, head, args}
use Rattle.calculus_rules.specs.declared.declaration.Constructor.{Constructor}
use Rattle.pc_rules.specs.declared.meter.Account.{Account}
use Rattle.calculus_rules.specs.Environment.{Env, FamilyDecl}
use Rattle.pc_rules.specs.DirectedRun.{Run, done, no_unit, make, bind, ticking}
use Rattle.calculus_rules.specs.Lookups.{if_some, kept_at, body_of, family_of}
use Rattle.pc_rules.specs.DirectedWeakHead.{built, branch_of, unfold_at}

pub data Evaluated : Type 0 where
  Value Stuck : Term → Evaluated

abbrev pub Evaluating : Type 0
Evaluating = Term → Account → Run Evaluated

-- goes on with the value, where there is one
abbrev pub on_value : Evaluated → Account → (Term → Account → Run Evaluated) → Run Evaluated
on_value (Value v) u k = k v u
on_value (Stuck t) u k = done (Stuck t) u

abbrev pub with_value : Run Evaluated → (Term → Account → Run Evaluated) → Run Evaluated
with_value r k = bind r (λ e u. on_value e u k)

-- a contractum is made, and evaluated
abbrev pub contracted : Evaluating → Term → Account → Run Evaluated
contracted go t u = bind (make t u) go

-- the contractum of t, where it has one
abbrev pub contracts : Evaluating → Term → Option Term → Account → Run Evaluated
contracts go t None u = done (Stuck t) u
contracts go t (Some c) u = contracted go c u

-- a constructor of a kept family, of whose parameters and arguments some are missing
abbrev pub is_missing : ℕ → FamilyDecl → Option Constructor → Bool
is_missing n F None = false
is_missing n F (Some C) = nat_lt n (length F.parameters + length C.args)

abbrev pub lacks_arguments : ℕ → ℕ → Option FamilyDecl → Bool
lacks_arguments n c None = false
lacks_arguments n c (Some F) = is_missing n F (slice_get F.constructors c)

abbrev pub is_below : ℕ → Option ℕ → Bool
is_below n None = false
is_below n (Some rarg) = nat_lt n rarg

-- the values with such a head and n arguments that one more argument extends: a family; a constructor with arguments missing; a fixpoint
-- that then still has fewer than rarg + 1 arguments
abbrev pub takes_more : Env → Term → ℕ → Bool
takes_more E (Ind f) n = true
takes_more E (Construct f c) n = lacks_arguments n c (family_of E f)
takes_more E (Fix i rargs types bodies) n = is_below n (slice_get rargs i)
takes_more E h n = false

-- the contractum of a fixpoint that now has rarg + 1 arguments, the last of which is v
abbrev pub unfolding_at : Term → List Term → Term → Option Term
unfolding_at (Fix i rargs types bodies) xs v =
    if_some (slice_get rargs i) (λ rarg. if length xs == rarg then unfold_at i rargs types bodies xs v else None)
unfolding_at h xs v = None

abbrev pub extended : Term → Term → Account → Run Evaluated
extended g v u = bind (make (App g v) u) (λ t w. done (Value t) w)

-- the application t, whose function has the value g and whose argument has the value v
abbrev pub applied : Env → Evaluating → Term → Term → Term → Account → Run Evaluated
applied E go t (Lambda A b) v u = contracted go (substitute (put v) b) u
applied E go t g v u =
    if takes_more E (head g) (length (args g)) then extended g v u else contracts go t (unfolding_at (head g) (args g) v) u

-- a node with term t
abbrev pub node : Env → Evaluating → Term → Account → Run Evaluated
node E go (Rel i) u = done (Stuck (Rel i)) u
node E go (Const k) u = contracts go (Const k) (body_of (kept_at E.declarations k)) u
node E go (LetIn b B t) u = with_value (go b u) (λ v w. contracted go (substitute (put v) t) w)
node E go (App f a) u = with_value (go f u) (λ g w. with_value (go a w) (λ v x. applied E go (App f a) g v x))
node E go (Case f ps n ret s bs) u =
    with_value (go s u) (λ v w. contracts go (Case f ps n ret s bs) (branch_of bs f (built E v)) w)
node E go t u = done (Value t) u

-- with a number of nodes, one inside the other, at most
unfoldable pub evaluate : Env → ℕ → Evaluating
evaluate E zero t u = no_unit
evaluate E (suc n) t u = ticking u (λ v. node E (evaluate E n) t v)

-- the value, within the units left
abbrev pub evaluation : Env → Term → Account → Run Evaluated
evaluation E t u = evaluate E u.left t u
