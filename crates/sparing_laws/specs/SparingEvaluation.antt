-- Sparing evaluation of closed terms: weak, call by value and big step as evaluation is (`calculus_rules`, `Evaluation`; PCUIC, POPL 2020, section 4), but what is erasable may be left as it stands. A type or
-- a proof that is handed on, as a let's value or a lambda's argument, or stored, as one more argument of a family, a constructor or a fixpoint, needs no evaluation. What a match or an unfolded fixpoint looks at
-- is evaluated, a proof too. It is this project's own.
use Rattle.std.specs.Prelude.{ℕ, suc, ◌+◌, ◌≡◌, List, [], Some, length}
use Rattle.pc_terms.specs.declared.leaf.Name.{Name}
use Rattle.pc_terms.specs.declared.leaf.FamilyId.{FamilyId}
use Rattle.pc_terms.specs.Syntax.{Term, Terms, Rel, Lambda, LetIn, App, Const, Case, put, put_all, substitute, term_at}
use Rattle.calculus_rules.specs.Environment.{Env, KeepsConstant}
use Rattle.calculus_rules.specs.Erasable.{Erasable}
use Rattle.calculus_rules.specs.Evaluation.{IsValue, TakesMore, Unfolds}
use Rattle.calculus_rules.specs.Step.{IsConstructor}

mutual
  -- t evaluates to v in n nodes, one node for each rule of evaluation; what is left as it stands has none
  pub data EvaluatesSparingly (E : Env) : Term → Term → ℕ → Type 0 where
    -- a value evaluates to itself
    value : {v : Term} → IsValue v → EvaluatesSparingly E v v 1
    -- a constant evaluates as its body
    constant : {k : Name} {n : ℕ} {T b v : Term} → KeepsConstant E k T (Some b) → EvaluatesSparingly E b v n → EvaluatesSparingly E (Const k) v (suc n)
    -- a let hands its value on, and evaluates the body with it
    let_in : {b B t v w : Term} {n m : ℕ} → HandsOn E b v n → EvaluatesSparingly E (substitute (put v) t) w m → EvaluatesSparingly E (LetIn b B t) w (suc (n + m))
    -- an application evaluates the function: to a lambda its argument is handed on;
    beta : {f a A b v w : Term} {n m k : ℕ} → EvaluatesSparingly E f (Lambda A b) n → HandsOn E a v m → EvaluatesSparingly E (substitute (put v) b) w k →
        EvaluatesSparingly E (App f a) w (suc (n + m + k))
    -- a value that takes more stores it;
    extend : {f a g v : Term} {n m : ℕ} → EvaluatesSparingly E f g n → HandsOn E a v m → TakesMore E g → EvaluatesSparingly E (App f a) (App g v) (suc (n + m))
    -- and a fixpoint that now has rarg + 1 arguments looks at the last, and unfolds
    unfold_fix : {f a g v u w : Term} {n m k : ℕ} → EvaluatesSparingly E f g n → EvaluatesSparingly E a v m → Unfolds g v u → EvaluatesSparingly E u w k →
        EvaluatesSparingly E (App f a) w (suc (n + m + k))
    -- a match looks at its scrutinee, which evaluates to a constructor of its family with all arguments, and runs the branch
    enter : {f : FamilyId} {ps bs : Terms} {p c n m : ℕ} {ret s v body w : Term} {qs xs : List Term} → EvaluatesSparingly E s v n → IsConstructor E f c v qs xs →
        term_at bs c ≡ Some (length xs, body) → EvaluatesSparingly E (substitute (put_all xs Rel) body) w m → EvaluatesSparingly E (Case f ps p ret s bs) w (suc (n + m))

  -- a term that is handed on or stored becomes v: it may be left where it is erasable, and evaluated whatever it is
  pub data HandsOn (E : Env) : Term → Term → ℕ → Type 0 where
    left : {t : Term} → Erasable E [] t → HandsOn E t t 0
    evaluated : {t v : Term} {n : ℕ} → EvaluatesSparingly E t v n → HandsOn E t v n
