-- What evaluations leave, with all that waits around them: at most the units that they begin with.
use Rattle.std.proofs.Common.{◌≡◌, ℕ, suc, ◌<◌, ◌-◌, List, [], ◌∷◌, length, Option, Some, None, sym, ap, ◌∙◌, subst as along, arith}
use Rattle.pc_terms.specs.Syntax.{Term, Lambda, App, put, substitute, head, args}
use Rattle.pc_rules.specs.declared.meter.Account.{Account}
use Rattle.calculus_rules.specs.Environment.{Env}
use Rattle.pc_rules.specs.Leads.{Leads}
use Rattle.pc_rules.specs.DirectedRun.{Run, Leaves, done, make, ticked}
use Rattle.pc_rules.specs.DirectedEvaluation.{Evaluated, Value, on_value, with_value, contracted, contracts, takes_more, unfolding_at, extended, applied, node, evaluate, evaluation}
use Rattle.pc_rules.proofs.Fair.{same_left, leaves_bind, leaves_if}
use Rattle.pc_rules.proofs.FairSearch.{on_value_leaves, evaluate_leaves, node_leaves}
use Rattle.pc_rules.proofs.Following.{leads_leave, ticking-more}
use Rattle.source_eval.specs.declared.frames.Frame.{Frame}
use Rattle.source_eval.specs.declared.frames.Frame.TheVariants.{Body, Argument, Function, Scrutinee}
use Rattle.source_eval.specs.Waiting.{branch_in, meeting, within}

with_value_left : (r : Run Evaluated) (k : Term → Account → Run Evaluated) (n : ℕ) → Leaves r.end n → ((v : Term) (w : Account) → Leaves (k v w).end w.left) →
    Leaves (with_value r k).end n
with_value_left r k n h q = leaves_bind r (λ e u. on_value e u k) n h (λ e u. on_value_leaves e u k q)

evaluation_left : (E : Env) (t : Term) (u : Account) → Leaves (evaluation E t u).end u.left
evaluation_left E t u = evaluate_leaves E u.left t u

contracted_left : (E : Env) (t : Term) (u : Account) → Leaves (contracted (evaluation E) t u).end u.left
contracted_left E t u = leaves_bind (make t u) (evaluation E) u.left (same_left u) (evaluation_left E)

contracts_left : (E : Env) (t : Term) (o : Option Term) (u : Account) → Leaves (contracts (evaluation E) t o u).end u.left
contracts_left E t None u = same_left u
contracts_left E t (Some c) u = contracted_left E c u

applied_left : (E : Env) (t g v : Term) (u : Account) → Leaves (applied E (evaluation E) t g v u).end u.left
applied_left E t (Lambda A b) v u = contracted_left E (substitute (put v) b) u
applied_left E t g v u =
    leaves_if (takes_more E (head g) (length (args g))) (extended g v u) (contracts (evaluation E) t (unfolding_at (head g) (args g) v) u) u.left
    (leaves_bind (make (App g v) u) (λ x w. done (Value x) w) u.left (same_left u) (λ x w. same_left w))
    (contracts_left E t (unfolding_at (head g) (args g) v) u)

-- the value v comes to what waits for it
meeting_left : (E : Env) (f : Frame) (v : Term) (u : Account) → Leaves (meeting E f v u).end u.left
meeting_left E (Body b) v u = contracted_left E (substitute (put v) b) u
meeting_left E (Argument t a n) g u =
    with_value_left (evaluation E a u) (λ v w. applied E (evaluation E) t g v w) u.left (evaluation_left E a u) (applied_left E t g)
meeting_left E (Function t g n) v u = applied_left E t g v u
meeting_left E (Scrutinee c) v u = contracts_left E c (branch_in E c v) u

within_left : (E : Env) (fs : List Frame) (r : Run Evaluated) (n : ℕ) → Leaves r.end n → Leaves (within E fs r).end n
within_left E [] r n h = h
within_left E (f ∷ fs) r n h = with_value_left (within E fs r) (λ v u. meeting E f v u) n (within_left E fs r n h) (meeting_left E f)

-- a term that is entered takes a unit
entered_by : (E : Env) (t : Term) (u : Account) (n : ℕ) → u.left ≡ suc n → Leaves (evaluation E t u).end (ticked u).left
unfolding evaluate
entered_by E t u n e =
    let s : evaluation E t u ≡ node E (evaluate E n) t (ticked u) =
    ap (λ k. evaluate E k t u) e ∙ ticking-more u (λ v. node E (evaluate E n) t v) (omega (arith, e)) in
    along (λ (r : Run Evaluated). Leaves r.end (ticked u).left) (sym s) (node_leaves E n t (ticked u))

pub node_left : (d : Run Evaluated) (E : Env) (fs : List Frame) (t : Term) (u w : Account) → Leads d (within E fs (evaluation E t u)) → 0 < u.left → w ≡ ticked u →
    Leaves d.end w.left
node_left d E fs t u w l h k =
    let e : u.left ≡ suc (u.left - 1) = omega (arith, h) in
    let n = within_left E fs (evaluation E t u) (ticked u).left (entered_by E t u (u.left - 1) e) in
    rw k (leads_leave d (within E fs (evaluation E t u)) (ticked u).left l n)
