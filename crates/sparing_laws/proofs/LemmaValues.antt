-- What evaluation over lemmas leaves: an applied lemma, which is erasable, or what a sparing evaluation may leave too, where what is erasable may stand in a value whatever it is. So a value of a first-order type is data.
use Rattle.std.proofs.Common.{◌≡◌, ℕ, List, [], refl, ap, ◌∙◌}
use Rattle.pc_terms.specs.declared.leaf.FamilyId.{FamilyId}
use Rattle.pc_terms.specs.Syntax.{Term, Terms, App, Ind, Construct, Fix, head}
use Rattle.calculus_rules.specs.Environment.{Env}
use Rattle.calculus_rules.specs.Conversion.{back, chain, equal}
use Rattle.calculus_rules.specs.Erasable.{Erasable}
use Rattle.calculus_rules.specs.Evaluation.{IsValue, TakesMore, family, constructor, fixpoint}
use Rattle.calculus_rules.specs.Typing.{bare, Types}
use Rattle.calculus_rules.specs.Accepted.{IsAccepted}
use Rattle.calculus_rules.proofs.Spines.{head-apply}
use Rattle.calculus_rules.proofs.WeakHead.{weak_equal}
use Rattle.typing_laws.proofs.Generating.{of_app}
use Rattle.sparing_laws.specs.LemmaEvaluation.{IsLemma, without_body, among_proofs, IsAppliedLemma, alone, applied, EvaluatesOverLemmas, value, lemma_is, let_in, beta, extend, lemma_takes, unfold_fix, enter}
use Rattle.sparing_laws.specs.LemmaLaws.{ValuesOverLemmasAreData, DataOverLemmasIsOne, SparingGivesTheSameAsOverLemmas}
use Rattle.sparing_laws.proofs.Evidence.{application_erasable}
use Rattle.sparing_laws.proofs.Keeping.{sparing_keeps}
use Rattle.sparing_laws.proofs.LemmaKeeping.{lemmas_keep}
use Rattle.sparing_laws.proofs.OneData.{one_data}
use Rattle.sparing_laws.proofs.Reading.{handed_read}
use Rattle.sparing_laws.proofs.Results.{IsSparingResult, plain, extended, IsHanded, spared, kept}

pub lemma_erasable : {E : Env} {v : Term} → IsLemma E v → Erasable E [] v
lemma_erasable (without_body k e) = e
lemma_erasable (among_proofs k n e) = e

applied_erasable : (E : Env) → IsAccepted E → {v : Term} → IsAppliedLemma E v → (T : Term) → Types bare E [] v T → Erasable E [] v
applied_erasable E h (alone l) T d = lemma_erasable l
applied_erasable E h (applied {g = g} {v = v} a) T d = application_erasable E h g v (App g v) T d (λ U p. p) (applied_erasable E h a _ (of_app d).function)

-- an applied lemma is no family, constructor or fixpoint with arguments

not_family : {E : Env} {v : Term} → IsAppliedLemma E v → (f : FamilyId) → head v ≡ Ind f → ⊥
not_family (alone (without_body k e)) f p = cc
not_family (alone (among_proofs k n e)) f p = cc
not_family (applied a) f p = not_family a f p

not_constructor : {E : Env} {v : Term} → IsAppliedLemma E v → (f : FamilyId) (c : ℕ) → head v ≡ Construct f c → ⊥
not_constructor (alone (without_body k e)) f c p = cc
not_constructor (alone (among_proofs k n e)) f c p = cc
not_constructor (applied a) f c p = not_constructor a f c p

not_fixpoint : {E : Env} {v : Term} → IsAppliedLemma E v → (i : ℕ) (rargs : List ℕ) (types bodies : Terms) → head v ≡ Fix i rargs types bodies → ⊥
not_fixpoint (alone (without_body k e)) i rargs types bodies p = cc
not_fixpoint (alone (among_proofs k n e)) i rargs types bodies p = cc
not_fixpoint (applied a) i rargs types bodies p = not_fixpoint a i rargs types bodies p

takes_by_no_rule : {E : Env} {v : Term} → IsAppliedLemma E v → TakesMore E v → ⊥
takes_by_no_rule a (family f xs e) = not_family a f (ap head e ∙ head-apply (Ind f) xs)
takes_by_no_rule a (constructor f c xs k i l e) = not_constructor a f c (ap head e ∙ head-apply (Construct f c) xs)
takes_by_no_rule a (fixpoint i rargs types bodies xs r l e) = not_fixpoint a i rargs types bodies (ap head e ∙ head-apply (Fix i rargs types bodies) xs)

-- results

data IsLemmaResult (E : Env) : Term → Type 0 where
  plainly : {v : Term} → IsValue v → IsLemmaResult E v
  grown : {g w : Term} → IsLemmaResult E g → IsLemmaResult E w → TakesMore E g → IsLemmaResult E (App g w)
  opaque : {v : Term} → IsAppliedLemma E v → IsLemmaResult E v

lemma_result : {E : Env} {t v : Term} {n : ℕ} → EvaluatesOverLemmas E t v n → IsLemmaResult E v
lemma_result (value i) = plainly i
lemma_result (lemma_is i) = opaque (alone i)
lemma_result (EvaluatesOverLemmas.constant k e) = lemma_result e
lemma_result (let_in e e') = lemma_result e'
lemma_result (beta e e' e'') = lemma_result e''
lemma_result (extend e e' m) = grown (lemma_result e) (lemma_result e') m
lemma_result (lemma_takes e e' a) = opaque (applied a)
lemma_result (unfold_fix e e' u b e'') = lemma_result e''
lemma_result (enter e c b e') = lemma_result e'

-- as sparing evaluation leaves them
mutual
  result_taking : (E : Env) → IsAccepted E → {g : Term} → IsLemmaResult E g → TakesMore E g → (T : Term) → Types bare E [] g T → IsSparingResult E g
  result_taking E h (plainly i) m T d = plain i
  result_taking E h (grown r r' m') m T d = extended (result_taking E h r m' _ (of_app d).function) (result_handed E h r' _ (of_app d).argument) m'
  result_taking E h (opaque a) m T d = absurd (takes_by_no_rule a m)

  result_handed : (E : Env) → IsAccepted E → {w : Term} → IsLemmaResult E w → (T : Term) → Types bare E [] w T → IsHanded E w
  result_handed E h (plainly i) T d = kept (plain i)
  result_handed E h (grown r r' m) T d = kept (extended (result_taking E h r m _ (of_app d).function) (result_handed E h r' _ (of_app d).argument) m)
  result_handed E h (opaque a) T d = spared (applied_erasable E h a T d)

pub values_over_lemmas_are_data : ValuesOverLemmasAreData
values_over_lemmas_are_data E h t v T n S e d f =
    let (k, at, steps) = f.first in
    let typed = (lemmas_keep E h e T d).typed in
    let r = handed_read E h S f.members (result_handed E h (lemma_result e) T typed) 0 k T at typed (equal (weak_equal steps)) in
    (r.answer, r.reading, r.solid)

pub data_over_lemmas_is_one : DataOverLemmasIsOne
data_over_lemmas_is_one E h t v w T n m S d e typed x y r r' = one_data h refl (chain (back (lemmas_keep E h x T typed).equals) (lemmas_keep E h y T typed).equals) r r'

pub sparing_gives_the_same_as_over_lemmas : SparingGivesTheSameAsOverLemmas
sparing_gives_the_same_as_over_lemmas E h t v w T n m S d e typed x y r r' =
    one_data h refl (chain (back (lemmas_keep E h x T typed).equals) (sparing_keeps E h y T typed).equals) r r'
