-- What one evaluation makes, within the limits of terms in memory.
use Rattle.std.specs.Prelude.{ℕ}
use Rattle.trees.specs.Measures.{IsWithin}
use Rattle.pc_terms.specs.Syntax.{Term, Rel, put, put_all, substitute}
use Rattle.calculus_rules.specs.Environment.{Env}
use Rattle.calculus_rules.specs.Evaluation.{Evaluates, value, constant, let_in, beta, extend, unfold_fix, enter}

-- at each node, by recursion on the evaluation: its contractum, or the value that is extended by one more argument. Other terms of an
-- evaluation are parts of these or of the term that it starts from
abbrev pub StaysWithin : {E : Env} {t v : Term} {n : ℕ} → Evaluates E t v n → Type 0
StaysWithin (value i) = Unit {0}
StaysWithin (constant {b = b} k e) = IsWithin b × StaysWithin e
StaysWithin (let_in {t = body} {v = u} e e') = IsWithin (substitute (put u) body) × StaysWithin e × StaysWithin e'
StaysWithin (beta {b = b} {v = u} e e' e'') = IsWithin (substitute (put u) b) × StaysWithin e × StaysWithin e' × StaysWithin e''
StaysWithin {v = v} (extend e e' m) = IsWithin v × StaysWithin e × StaysWithin e'
StaysWithin (unfold_fix {u = u} e e' h e'') = IsWithin u × StaysWithin e × StaysWithin e' × StaysWithin e''
StaysWithin (enter {body = body} {xs = xs} e h b e') = IsWithin (substitute (put_all xs Rel) body) × StaysWithin e × StaysWithin e'
