-- How an application and a match went on that evaluation after erasure has evaluated.
use Rattle.std.proofs.Common.{◌≡◌, ℕ, true, List, length, Some, refl}
use Rattle.trees.specs.Tree.{Rel, Done, Next, term_at}
use Rattle.trees.specs.Parallel.{put, put_all, substitute}
use Rattle.pc_terms.specs.declared.leaf.FamilyId.{FamilyId}
use Rattle.box_terms.specs.BoxSyntax.{BoxTerm, BoxTerms, Box, BLambda, BApp, BCase}
use Rattle.lambda_box.specs.BoxProgram.{BoxFamily, BoxProgram, KeepsBoxFamily, boxes}
use Rattle.lambda_box.specs.BoxEvaluation.{IsBoxConstructor, BoxTakesMore, BoxUnfolds, BoxEvaluates, value, beta, box_app, extend, unfold_fix, enter, enter_only}

-- from a function's value and an argument's to the application's
pub data Goes (P : BoxProgram) : BoxTerm → BoxTerm → BoxTerm → Type 0 where
  runs : {b u w : BoxTerm} {n m : ℕ} → BoxEvaluates P (substitute (put u) b) w n m → Goes P (BLambda b) u w
  boxed : {u : BoxTerm} → Goes P Box u Box
  takes : {g u : BoxTerm} → BoxTakesMore P g → Goes P g u (BApp g u)
  turns : {g u x w : BoxTerm} {n m : ℕ} → BoxUnfolds g u x → BoxEvaluates P x w n m → Goes P g u w

pub record Applied (P : BoxProgram) (f a w : BoxTerm) : Type 0 where
  pub function : BoxTerm
  pub argument : BoxTerm
  pub nodes : ℕ
  pub matches : ℕ
  pub more_nodes : ℕ
  pub more_matches : ℕ
  pub function_runs : BoxEvaluates P f function nodes matches
  pub argument_runs : BoxEvaluates P a argument more_nodes more_matches
  pub goes : Goes P function argument w

applied : {P : BoxProgram} {f a g u w : BoxTerm} {n n' m m' : ℕ} → BoxEvaluates P f g n m → BoxEvaluates P a u n' m' → Goes P g u w → Applied P f a w
applied {g = g} {u = u} {n = n} {n' = n'} {m = m} {m' = m'} e e' h =
    record { function = g; argument = u; nodes = n; matches = m; more_nodes = n'; more_matches = m'; function_runs = e; argument_runs = e'; goes = h }

pub of_application : {P : BoxProgram} {f a w : BoxTerm} {n m : ℕ} → BoxEvaluates P (BApp f a) w n m → Applied P f a w
of_application (value i) = elim i [ ]
of_application (beta e e' e'') = applied e e' (runs e'')
of_application (box_app e e') = applied e e' boxed
of_application (extend e e' m) = applied e e' (takes m)
of_application (unfold_fix e e' u e'') = applied e e' (turns u e'')

-- from a scrutinee's value to the match's
pub data Enters (P : BoxProgram) (f : FamilyId) (v : BoxTerm) (bs : BoxTerms) (w : BoxTerm) : Type 0 where
  enters : {c : ℕ} {x : BoxTerm} {n j : ℕ} {qs ys : List BoxTerm} → IsBoxConstructor P f c v qs ys → term_at bs c ≡ Some (length ys, x) →
      BoxEvaluates P (substitute (put_all ys Rel) x) w n j → Enters P f v bs w
  enters_only : {F : BoxFamily} {k : ℕ} {x : BoxTerm} {n j : ℕ} → KeepsBoxFamily P f F → F.propositional ≡ true → bs ≡ Next k x Done →
      BoxEvaluates P (substitute (put_all (boxes k) Rel) x) w n j → Enters P f v bs w

pub record Scrutinised (P : BoxProgram) (f : FamilyId) (s : BoxTerm) (bs : BoxTerms) (w : BoxTerm) : Type 0 where
  pub scrutinee : BoxTerm
  pub nodes : ℕ
  pub matches : ℕ
  pub scrutinee_runs : BoxEvaluates P s scrutinee nodes matches
  pub goes : Enters P f scrutinee bs w

pub of_match : {P : BoxProgram} {f : FamilyId} {s w : BoxTerm} {bs : BoxTerms} {n m : ℕ} → BoxEvaluates P (BCase f s bs) w n m → Scrutinised P f s bs w
of_match (value i) = elim i [ ]
of_match (enter {n = n} {m = m} {v = v} e c b e') = record { scrutinee = v; nodes = n; matches = m; scrutinee_runs = e; goes = enters c b e' }
of_match (enter_only {n = n} {m = m} k p e e') = record { scrutinee = Box; nodes = n; matches = m; scrutinee_runs = e; goes = enters_only k p refl e' }
