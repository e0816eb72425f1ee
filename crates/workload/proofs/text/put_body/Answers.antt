use Rattle.std.proofs.Common.{rules, ◌≡◌, ◌++◌, decimal, ℕ, zero, suc, refl, codes}
use Rattle.workload.specs.WorkloadText.{body_text}
use Rattle.workload.proofs.text.put_body.Goals as goal

-- the body where the number is neither 0 nor 1
other : (w p : ℕ) → (w ≡ zero → ⊥) → (w ≡ suc zero → ⊥) → body_text w p ≡ codes "(tApp (tConst xorb) (tConst c" ++ (decimal p ++ codes ") (tConstruct bool 0 0))")
other zero p n o = absurd (n refl)
other (suc zero) p n o = absurd (o refl)
other (suc (suc k)) p n o = refl

pub returns-in-0 : goal.returns-in-0
returns-in-0 c = record { ok = rw c.in-0.is c.put_around.ensures.ok }

pub returns-in-1 : goal.returns-in-1
returns-in-1 c = record { ok = rw c.in-1.is c.put_around-in-1.ensures.ok }

pub returns-in_default : goal.returns-in_default
returns-in_default c =
    let n : (c.args.which ≡ 0 → ⊥) = search rules in
    let o : (c.args.which ≡ 1 → ⊥) = search rules in
    record { ok = rw (other c.args.which c.args.before n o) c.put_around-in_default.ensures.ok }
