-- A lawful evaluation lies in equality.
use Rattle.std.proofs.Common.{ℕ, [], refl}
use Rattle.pc_terms.specs.Syntax.{Term, App}
use Rattle.calculus_rules.specs.Environment.{Env}
use Rattle.calculus_rules.specs.Context.{Values}
use Rattle.calculus_rules.specs.Step.{Root, zeta, matched, Root.beta, Root.constant}
use Rattle.calculus_rules.specs.Conversion.{Equal, step, same, chain, inside, end, and, group}
use Rattle.calculus_rules.specs.Evaluation.{Unfolds, unfolds, Evaluates, value, constant, let_in, beta, extend, unfold_fix, enter, IsBuilt}
use Rattle.calculus_rules.specs.Lawful.{IsLawful}
use Rattle.calculus_rules.proofs.Congruence.{same_terms}

-- equal functions at equal arguments
app_equal : {E : Env} {V : Values} {f g a b : Term} → Equal E V f g → Equal E V a b → Equal E V (App f a) (App g b)
app_equal p q = inside (and p (and q end))

unfolding_step : {E : Env} {V : Values} {g v u : Term} → Unfolds g v u → IsBuilt E v → Equal E V (App g v) u
unfolding_step (unfolds i rargs types bodies xs r l b e) (f, c, qs, ys, k) = step (Root.fixpoint i rargs types bodies xs r l k b e)

pub in_equality : {E : Env} {t v : Term} {n : ℕ} (e : Evaluates E t v n) → IsLawful e → Equal E [] t v
in_equality (value i) h = same
in_equality (constant c e) h = chain (step (Root.constant c)) (in_equality e h.1)
in_equality (let_in e e') h = chain (inside (and (in_equality e h.1) (and same (and same end)))) (chain (step zeta) (in_equality e' h.2))
in_equality (beta e e' e'') h = chain (app_equal (in_equality e h.3) (in_equality e' h.4)) (chain (step Root.beta) (in_equality e'' h.5))
in_equality (extend e e' m) h = app_equal (in_equality e h.2) (in_equality e' h.3)
in_equality (unfold_fix e e' u e'') h = chain (app_equal (in_equality e h.3) (in_equality e' h.4)) (chain (unfolding_step u h.2) (in_equality e'' h.5))
in_equality (enter {ps = ps} {bs = bs} e c b e') h =
    chain (inside (group (same_terms ps) (and same (and (in_equality e h.3) (group (same_terms bs) end))))) (chain (step (matched c b refl)) (in_equality e' h.4))
