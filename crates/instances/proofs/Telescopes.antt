-- The entries of a telescope at terms, one by one.
use Rattle.std.proofs.Common.{◌≡◌, ℕ, zero, suc, ◌+◌, ◌<◌, ◌≤◌, ◌^◌, List, [], ◌∷◌, ◌++◌, length, take, get_or, refl, sym, ap, ◌∙◌, subst as along, arith}
use Rattle.std.specs.Bool.{IsTrue}
use Rattle.std.proofs.lemmas.List.{take_more, length-take-le}
use Rattle.trees.specs.Measures.{IsWithin, IsBeyond}
use Rattle.trees.specs.Substitution.{subst_list}
use Rattle.trees.proofs.Closed.{subst_list-closed, loose_le_above}
use Rattle.trees.proofs.Cutoffs.{subst_list-substitute}
use Rattle.trees.proofs.Put.{overs_over}
use Rattle.pc_terms.specs.Syntax.{Term, Rel, over, overs, substitute, put_all}
use Rattle.calculus_rules.specs.Instances.{entries_at}
use Rattle.pc_rules.specs.DirectedRun.{is_beyond, any_beyond}
use Rattle.pc_rules.proofs.Following.{beyond_is, or_left, or_right}

-- under more variables than there are numbers, nothing is put in
pub subst_list-deep : (k : ℕ) (xs : List Term) (t : Term) → 2 ^ 32 ≤ k → IsWithin t → subst_list k xs t ≡ t
subst_list-deep k xs t h w = subst_list-closed k xs t (omega (arith, loose_le_above t, w.1))

pub ruleset entry_laws = (subst_list-deep)

pub entries_at-append : (s : ℕ → Term) (As : List Term) (B : Term) → entries_at s (As ++ (B ∷ [])) ≡ entries_at s As ++ (substitute (overs (length As) s) B ∷ [])
entries_at-append s [] B = refl
entries_at-append s (A ∷ As) B =
    ap (λ Bs. substitute s A ∷ Bs) (entries_at-append (over s) As B ∙ ap (λ q. entries_at (over s) As ++ (substitute q B ∷ [])) (overs_over (length As) s))

-- where an entry is beyond the limits, one of all is
entries_at-beyond : (s : ℕ → Term) (As : List Term) (i : ℕ) (o : Term) → i < length As → IsBeyond (substitute (overs i s) (get_or As i o)) → IsTrue (any_beyond (entries_at s As))
entries_at-beyond s [] i o l h = absurd (omega arith)
entries_at-beyond s (A ∷ As) zero o l h = or_left (is_beyond (substitute s A)) (any_beyond (entries_at (over s) As)) (beyond_is (substitute s A) h)
entries_at-beyond s (A ∷ As) (suc i) o l h =
    or_right (is_beyond (substitute s A)) (any_beyond (entries_at (over s) As))
    (entries_at-beyond (over s) As i o (omega arith) (along (λ (q : ℕ → Term). IsBeyond (substitute q (get_or As i o))) (sym (overs_over i s)) h))

pub entries_at-one : (ps As : List Term) (i : ℕ) (A : Term) → A ≡ get_or As i A → i < length As → IsBeyond (subst_list i ps A) → IsTrue (any_beyond (entries_at (put_all ps Rel) As))
entries_at-one ps As i A is l h =
    entries_at-beyond (put_all ps Rel) As i A l
    (along (λ (B : Term). IsBeyond (substitute (overs i (put_all ps Rel)) B)) is (along (λ (t : Term). IsBeyond t) (subst_list-substitute ps i A) h))

-- the entries with the next one
pub entries_at-next : (ps As : List Term) (i : ℕ) (A : Term) → A ≡ get_or As i A → i < length As →
    entries_at (put_all ps Rel) (take (i + 1) As) ≡ entries_at (put_all ps Rel) (take i As) ++ (subst_list i ps A ∷ [])
entries_at-next ps As i A is l =
    let n : length (take i As) ≡ i = length-take-le i As (omega arith) in
    ap (entries_at (put_all ps Rel)) (take_more As i A l ∙ ap (λ B. take i As ++ (B ∷ [])) (sym is))
    ∙ entries_at-append (put_all ps Rel) (take i As) A
    ∙ ap (λ m. entries_at (put_all ps Rel) (take i As) ++ (substitute (overs m (put_all ps Rel)) A ∷ [])) n
    ∙ ap (λ t. entries_at (put_all ps Rel) (take i As) ++ (t ∷ [])) (sym (subst_list-substitute ps i A))
