-- Erasure where entries are put in, or put away, in the middle of a context.
use Rattle.std.proofs.Common.{◌≡◌, ℕ, ◌+◌, [], ◌∷◌, ◌++◌, length, refl, ap, ◌∙◌, subst}
use mathlib.Core.Path.{fun_ext}
use Rattle.pc_terms.specs.Syntax.{Term, Rel, ups, overs, substitute, put, shift}
use Rattle.calculus_rules.specs.Environment.{Env}
use Rattle.calculus_rules.specs.Context.{Context}
use Rattle.erase_laws.specs.Laws.{ErasureOfSubstitution, WeakeningOfErasure}
use Rattle.trees.proofs.Fusion.{substitute_rel, overs_rel}
use Rattle.typing_laws.proofs.RenamingAndPutting.{puts_one}
use Rattle.box_terms.specs.BoxSyntax.{BoxTerm}
use Rattle.erase_laws.specs.Erases.{Erases}
use Rattle.erase_laws.proofs.ErasingSubstituted.{CarriesErasure, substitute_erases, erases_at, renaming_pair, putting_pair, pairs_one}
use Rattle.typing_laws.proofs.AcceptedClosed.{accepted_closed}
use Rattle.typing_laws.proofs.MiddleEntries.{substituted_context, past, past_is, lift_is, context_is, renames_past, put_is}

-- the same for pairs of substitutions
pair_context : {E : Env} (K : CarriesErasure E) (ds : Context) {s : ℕ → Term} {s' : ℕ → BoxTerm} {c d : Context} → K.Good s s' c d →
    K.Good (overs (length ds) s) (overs (length ds) s') (ds ++ c) (substituted_context s ds ++ d)
pair_context K [] g = g
pair_context K (e ∷ ds) g = K.good_over (pair_context K ds g) e

pub erasure_of_substitution : ErasureOfSubstitution
erasure_of_substitution E accepted ds c e a t a' t' f p h =
    subst (λ d. Erases E (d ++ c) (substitute (overs (length ds) (put a)) t) (substitute (overs (length ds) (put a')) t')) (put_is a ds)
    (substitute_erases (putting_pair E (accepted_closed E accepted)) (accepted_closed E accepted) h (overs (length ds) (put a)) (overs (length ds) (put a')) (substituted_context (put a) ds ++ c)
    (pair_context (putting_pair E (accepted_closed E accepted)) ds (puts_one f, pairs_one p)))

box_past : ℕ → ℕ → BoxTerm
box_past n i = Rel (n + i)

box_lift_is : (n k : ℕ) (t : BoxTerm) → substitute (overs k (box_past n)) t ≡ shift n k t
unfolding box_past
box_lift_is n k t = ap (λ s. substitute s t) (fun_ext (overs_rel _ _ k (λ i. n + i))) ∙ substitute_rel t (ups k (λ i. n + i))

pairs_past : (n : ℕ) (i : ℕ) → (j : ℕ) × (past n i ≡ Rel j) × (box_past n i ≡ Rel j)
unfolding box_past
pairs_past n i = (n + i, past_is n i, refl)

pub weakening_of_erasure : WeakeningOfErasure
weakening_of_erasure E accepted ds es c t t' h =
    erases_at (lift_is (length es) (length ds) t) (box_lift_is (length es) (length ds) t')
    (subst (λ d. Erases E (d ++ (es ++ c)) (substitute (overs (length ds) (past (length es))) t) (substitute (overs (length ds) (box_past (length es))) t')) (context_is (length es) ds)
    (substitute_erases (renaming_pair E) (accepted_closed E accepted) h (overs (length ds) (past (length es))) (overs (length ds) (box_past (length es)))
    (substituted_context (past (length es)) ds ++ (es ++ c)) (pair_context (renaming_pair E) ds (renames_past es c, pairs_past (length es)))))
