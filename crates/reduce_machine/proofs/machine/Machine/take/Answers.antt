use Rattle.std.proofs.Common.{◌∙◌, sym, ap, inr, map, subst as along}
use Rattle.std.proofs.lemmas.Result.{err_from_is_err_and}
use Rattle.trees.specs.Measures.{IsBeyond}
use Rattle.trees.proofs.Cutoffs.{lift-shift}
use Rattle.pc_terms.specs.Syntax.{Term, substitute}
use Rattle.reduce_machine.specs.Reducts.{AreWaiting}
use Rattle.reduce_machine.specs.Layered.{plug}
use Rattle.reduce_machine.specs.Layers.{layers}
use Rattle.reduce_machine.specs.Reads.{stands, read}
use Rattle.redexes.specs.Redexes.{fix_body}
use Rattle.reduce_machine.proofs.Binding.{step_deep}
use Rattle.reduce_machine.proofs.Bodies.{plain_read}
use Rattle.reduce_machine.proofs.machine.Machine.take.Goals as goal

pub apply-requires : goal.apply-requires
apply-requires c = record { sound = c.requires.sound; node = rw c.in-Fixpoint.is at c.requires.node }

pub returns-in_ok-term-in-Variable-clause-ok : goal.returns-in_ok-term-in-Variable-clause-ok
returns-in_ok-term-in-Variable-clause-ok c =
    rw c.in-Variable.is (ap (plug (layers c.args.self.now.frames.items))
    (plain_read c.plain.result c.in_ok-term-in-Variable.term c.plain.ensures.term c.plain.ensures.items ∙ c.in_ok-term-in-Variable.ensures.parallel))

pub returns-in_err-term-in-Variable-clause-too_deep : goal.returns-in_err-term-in-Variable-clause-too_deep
returns-in_err-term-in-Variable-clause-too_deep c =
    let p = err_from_is_err_and c.from_residual.result c.from_residual.ensures.1 in
    rw (c.in-Variable.is, p.1, p.2) (λ e. inr (along (λ (t : Term). IsBeyond t) (lift-shift c.in-Variable.by 0 c.in-Variable.value)
    (c.in_err-term-in-Variable.ensures.too_deep e)))

pub returns-in-Constant-clause-ok : goal.returns-in-Constant-clause-ok
returns-in-Constant-clause-ok c =
    rw c.in-Constant.is (ap (plug (layers c.args.self.now.frames.items))
    (plain_read c.plain-in-Constant.result c.in-Constant.body c.plain-in-Constant.ensures.term c.plain-in-Constant.ensures.items))

pub returns-in_ok-env-in-Bound-clause-ok : goal.returns-in_ok-env-in-Bound-clause-ok
returns-in_ok-env-in-Bound-clause-ok c =
    rw c.in-Bound.is (ap (λ xs. plug (layers c.args.self.now.frames.items) (substitute (stands xs) c.in-Bound.body)) c.in_ok-env-in-Bound.ensures.items)

pub returns-in_ok-bound-in-Branch-clause-ok : goal.returns-in_ok-bound-in-Branch-clause-ok
returns-in_ok-bound-in-Branch-clause-ok c =
    rw c.in-Branch.is (ap (plug (layers c.args.self.now.frames.items)) c.in_ok-bound-in-Branch.ensures.ok)

pub returns-in-Fixpoint-clause-ok : goal.returns-in-Fixpoint-clause-ok
returns-in-Fixpoint-clause-ok c = rw c.in-Fixpoint.is c.apply.ensures.ok

pub returns-in-Fixpoint-clause-too_deep : goal.returns-in-Fixpoint-clause-too_deep
returns-in-Fixpoint-clause-too_deep c = rw c.in-Fixpoint.is (step_deep (read c.in-Fixpoint.fix) (fix_body (read c.in-Fixpoint.fix)) (map read c.in-Fixpoint.before.items) (read c.in-Fixpoint.argument) c.apply.result c.apply.ensures.too_deep)

-- the frames are the same, and the focus is the result of the step
pub returns-in_ok-term-in-Variable-clause-waiting : goal.returns-in_ok-term-in-Variable-clause-waiting
returns-in_ok-term-in-Variable-clause-waiting c =
    rw c.in-Variable.is (λ E V u h. along (λ x. AreWaiting E V u c.args.self.now.frames.items x) (sym (plain_read c.plain.result c.in_ok-term-in-Variable.term c.plain.ensures.term c.plain.ensures.items
    ∙ c.in_ok-term-in-Variable.ensures.parallel)) h)

pub returns-in-Constant-clause-waiting : goal.returns-in-Constant-clause-waiting
returns-in-Constant-clause-waiting c =
    rw c.in-Constant.is (λ E V u h. along (λ x. AreWaiting E V u c.args.self.now.frames.items x) (sym (plain_read c.plain-in-Constant.result c.in-Constant.body c.plain-in-Constant.ensures.term
    c.plain-in-Constant.ensures.items)) h)

pub returns-in_ok-env-in-Bound-clause-waiting : goal.returns-in_ok-env-in-Bound-clause-waiting
returns-in_ok-env-in-Bound-clause-waiting c =
    rw c.in-Bound.is (λ E V u h. along (λ x. AreWaiting E V u c.args.self.now.frames.items x) (sym (ap (λ xs. substitute (stands xs) c.in-Bound.body) c.in_ok-env-in-Bound.ensures.items)) h)

pub returns-in_ok-bound-in-Branch-clause-waiting : goal.returns-in_ok-bound-in-Branch-clause-waiting
returns-in_ok-bound-in-Branch-clause-waiting c = rw c.in-Branch.is (λ E V u h. along (λ x. AreWaiting E V u c.args.self.now.frames.items x) (sym c.in_ok-bound-in-Branch.ensures.ok) h)

pub returns-in-Fixpoint-clause-waiting : goal.returns-in-Fixpoint-clause-waiting
returns-in-Fixpoint-clause-waiting c = rw c.in-Fixpoint.is c.apply.ensures.waiting
