use Rattle.std.proofs.Common.{◌≡◌, ◌∙◌, suc, ◌-◌, sym, ap, refl, arith}
use Rattle.pc_terms.specs.Syntax.{apply, variables}
use Rattle.reduce_machine.proofs.reducts.applied_to_variables.Goals as goal

pub next-init : goal.next-init
next-init c = record { applied = refl }

pub next-preserved : goal.next-preserved
next-preserved c =
    let n : c.next.left ≡ suc (c.next.left - 1) = omega arith in
    let m : c.in-Ok.number ≡ c.next.left - 1 = omega arith in
    record {
      applied = rw (c.in_ok-term.ensures.ok, c.in_ok-variable.ensures.ok, m) (sym (ap (λ k. apply c.next.term (variables k)) n) ∙ c.next.invariant.applied);
    }

pub returns : goal.returns
returns c =
    let z : c.next.left ≡ 0 = omega arith in
    record { ok = sym (ap (λ k. apply c.next.term (variables k)) z) ∙ c.next.invariant.applied }
