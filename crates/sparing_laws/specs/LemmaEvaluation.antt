-- Evaluation over lemmas, of closed terms: evaluation (`calculus_rules`, `Evaluation`; PCUIC, POPL 2020, section 4), but a lemma is a value, which takes any number of arguments. A lemma is a constant
-- without a body that is erasable, as a dump has it of a theorem whose proof it leaves out and of an axiom; and a match on a family of proofs that erasure never keeps, since only proofs may look at it, is taken as one.
-- Nothing looks at a lemma: a match evaluates its scrutinee to a constructor, and a fixpoint unfolds at one. It is this project's own.
use Rattle.std.specs.Prelude.{ℕ, suc, ◌+◌, ◌≡◌, List, [], Some, None, length}
use Rattle.pc_terms.specs.declared.leaf.Name.{Name}
use Rattle.pc_terms.specs.declared.leaf.FamilyId.{FamilyId}
use Rattle.pc_terms.specs.Syntax.{Term, Terms, Rel, Lambda, LetIn, App, Const, Case, put, put_all, substitute, term_at}
use Rattle.calculus_rules.specs.Environment.{Env, FamilyDecl, KeepsConstant, KeepsFamily}
use Rattle.calculus_rules.specs.Elimination.{MayErase}
use Rattle.calculus_rules.specs.Erasable.{Erasable}
use Rattle.calculus_rules.specs.Evaluation.{IsValue, TakesMore, Unfolds, IsBuilt}
use Rattle.calculus_rules.specs.Step.{IsConstructor}

pub data IsLemma (E : Env) : Term → Type 0 where
  -- a constant without a body that is erasable
  without_body : {k : Name} {T : Term} → KeepsConstant E k T None → Erasable E [] (Const k) → IsLemma E (Const k)
  -- an erasable match on a family in Prop that isn't single
  among_proofs : {f : FamilyId} {F : FamilyDecl} {ps bs : Terms} {n : ℕ} {ret s : Term} → KeepsFamily E f F → ¬ MayErase E f F → Erasable E [] (Case f ps n ret s bs) → IsLemma E (Case f ps n ret s bs)

-- a lemma with its arguments
pub data IsAppliedLemma (E : Env) : Term → Type 0 where
  alone : {v : Term} → IsLemma E v → IsAppliedLemma E v
  applied : {g v : Term} → IsAppliedLemma E g → IsAppliedLemma E (App g v)

-- t evaluates to v in n nodes, one node for each rule
pub data EvaluatesOverLemmas (E : Env) : Term → Term → ℕ → Type 0 where
  -- a value evaluates to itself, and so does a lemma
  value : {v : Term} → IsValue v → EvaluatesOverLemmas E v v 1
  lemma_is : {v : Term} → IsLemma E v → EvaluatesOverLemmas E v v 1
  -- a constant evaluates as its body
  constant : {k : Name} {n : ℕ} {T b v : Term} → KeepsConstant E k T (Some b) → EvaluatesOverLemmas E b v n → EvaluatesOverLemmas E (Const k) v (suc n)
  -- a let evaluates its value, and then the body with it
  let_in : {b B t v w : Term} {n m : ℕ} → EvaluatesOverLemmas E b v n → EvaluatesOverLemmas E (substitute (put v) t) w m → EvaluatesOverLemmas E (LetIn b B t) w (suc (n + m))
  -- an application evaluates the function, then the argument: a lambda's body then runs with the value put in;
  beta : {f a A b v w : Term} {n m k : ℕ} → EvaluatesOverLemmas E f (Lambda A b) n → EvaluatesOverLemmas E a v m → EvaluatesOverLemmas E (substitute (put v) b) w k →
      EvaluatesOverLemmas E (App f a) w (suc (n + m + k))
  -- a value that takes more is extended;
  extend : {f a g v : Term} {n m : ℕ} → EvaluatesOverLemmas E f g n → EvaluatesOverLemmas E a v m → TakesMore E g → EvaluatesOverLemmas E (App f a) (App g v) (suc (n + m))
  -- a lemma with its arguments takes one more;
  lemma_takes : {f a g v : Term} {n m : ℕ} → EvaluatesOverLemmas E f g n → EvaluatesOverLemmas E a v m → IsAppliedLemma E g → EvaluatesOverLemmas E (App f a) (App g v) (suc (n + m))
  -- and a fixpoint that now has rarg + 1 arguments unfolds at a constructor
  unfold_fix : {f a g v u w : Term} {n m k : ℕ} → EvaluatesOverLemmas E f g n → EvaluatesOverLemmas E a v m → Unfolds g v u → IsBuilt E v → EvaluatesOverLemmas E u w k →
      EvaluatesOverLemmas E (App f a) w (suc (n + m + k))
  -- a match evaluates its scrutinee to a constructor of its family with all arguments, and runs the branch
  enter : {f : FamilyId} {ps bs : Terms} {p c n m : ℕ} {ret s v body w : Term} {qs xs : List Term} → EvaluatesOverLemmas E s v n → IsConstructor E f c v qs xs →
      term_at bs c ≡ Some (length xs, body) → EvaluatesOverLemmas E (substitute (put_all xs Rel) body) w m → EvaluatesOverLemmas E (Case f ps p ret s bs) w (suc (n + m))
