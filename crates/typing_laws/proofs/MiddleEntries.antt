-- The laws for entries put in, or put away, in the middle of a context.
use Rattle.std.proofs.Common.{◌≡◌, ℕ, suc, ◌+◌, [], ◌∷◌, ◌++◌, length, Some, refl, sym, ap, ◌∙◌, subst, arith}
use mathlib.Core.Path.{fun_ext}
use Rattle.pc_terms.specs.Syntax.{Term, Rel, ups, rename, overs, substitute, put, shift}
use Rattle.calculus_rules.specs.Environment.{Env}
use Rattle.calculus_rules.specs.declared.entry.Entry.TheVariants.{Assumed, Defined}
use Rattle.calculus_rules.specs.Context.{Context, values, value_at, type_at, lifted}
use Rattle.calculus_rules.specs.Conversion.{Equal, Below}
use Rattle.calculus_rules.specs.Typing.{Types, bare}
use Rattle.typing_laws.specs.Substituting.{lifted_context, put_context}
use Rattle.typing_laws.specs.Laws.{WeakeningOfTypes, WeakeningOfEquality, WeakeningOfBelow, SubstitutionOfTypes, SubstitutionOfEquality, SubstitutionOfBelow, DeclarationsKeepTypes, DeclarationsKeepEquality, DeclarationsKeepBelow, LawfulIsEqual, TypedIsClosed}
use Rattle.trees.proofs.Fusion.{rename-rename, rename_same, substitute_rel, overs_rel}
use Rattle.typing_laws.proofs.Traversal.{CarriesTypes, substituted_entry, equal_at, types_at, below_at, substitute_types, substitute_equal, substitute_below}
use Rattle.typing_laws.proofs.RenamingAndPutting.{RenamesEntries, renaming, putting, puts_one}
use Rattle.typing_laws.proofs.AcceptedClosed.{accepted_closed}
use Rattle.typing_laws.proofs.TypedClosed.{types_closed}
use Rattle.typing_laws.proofs.Declarations.{one_more, extends_types, extends_equal, extends_below}
use Rattle.typing_laws.proofs.LawfulEquality.{in_equality}

-- the inner entries, under a substitution
abbrev pub substituted_context : (ℕ → Term) → Context → Context
substituted_context s [] = []
substituted_context s (e ∷ ds) = substituted_entry (overs (length ds) s) e ∷ substituted_context s ds

pub good_context : {E : Env} (K : CarriesTypes E) (ds : Context) {s : ℕ → Term} {c d : Context} → K.Good s c d →
    K.Good (overs (length ds) s) (ds ++ c) (substituted_context s ds ++ d)
good_context K [] g = g
good_context K (e ∷ ds) g = K.good_over (good_context K ds g) e

-- past n entries
pub past : ℕ → ℕ → Term
past n i = Rel (n + i)

pub past_is : (n i : ℕ) → past n i ≡ Rel (n + i)
unfolding past
past_is n i = refl

lift_next : (n : ℕ) (t : Term) → rename suc (rename (λ i. n + i) t) ≡ rename (λ i. suc n + i) t
lift_next n t = rename-rename t (λ i. n + i) suc ∙ ap (λ r. rename r t) (fun_ext next)
  where
    next : (i : ℕ) → suc (n + i) ≡ suc n + i
    next i = omega arith

pub lift_none : (t : Term) → t ≡ rename (λ i. 0 + i) t
lift_none t = sym (rename_same t) ∙ ap (λ r. rename r t) (fun_ext none_more)
  where
    none_more : (i : ℕ) → i ≡ 0 + i
    none_more i = omega arith

at_past : {A : Type 0} (f : ℕ → A) (n i : ℕ) → f (suc (n + i)) ≡ f (suc n + i)
at_past f n i = let e : suc (n + i) ≡ suc n + i = omega arith in ap f e

values_past : (es c : Context) (i : ℕ) (v : Term) → value_at (values c) i ≡ Some v → value_at (values (es ++ c)) (length es + i) ≡ Some (rename (λ j. length es + j) v)
values_past [] c i v e = let z : 0 + i ≡ i = omega arith in ap (value_at (values c)) z ∙ e ∙ ap Some (lift_none v)
values_past (x ∷ es) c i v e =
    sym (at_past (value_at (values (x ∷ (es ++ c)))) (length es) i) ∙ ap lifted (values_past es c i v e) ∙ ap Some (lift_next (length es) v)

types_past : (es c : Context) (i : ℕ) (T : Term) → type_at c i ≡ Some T → type_at (es ++ c) (length es + i) ≡ Some (rename (λ j. length es + j) T)
types_past [] c i T e = let z : 0 + i ≡ i = omega arith in ap (type_at c) z ∙ e ∙ ap Some (lift_none T)
types_past (x ∷ es) c i T e =
    sym (at_past (type_at (x ∷ (es ++ c))) (length es) i) ∙ ap lifted (types_past es c i T e) ∙ ap Some (lift_next (length es) T)

pub renames_past : (es c : Context) → RenamesEntries (past (length es)) c (es ++ c)
unfolding past
renames_past es c = record {
  at_values = λ i. (length es + i, refl, λ v e. values_past es c i v e ∙ ap Some (sym (substitute_rel v (λ j. length es + j))));
  at_types = λ i. (length es + i, refl, λ T e. types_past es c i T e ∙ ap Some (sym (substitute_rel T (λ j. length es + j))));
}

pub lift_is : (n k : ℕ) (t : Term) → substitute (overs k (past n)) t ≡ shift n k t
unfolding past
lift_is n k t = ap (λ s. substitute s t) (fun_ext (overs_rel _ _ k (λ i. n + i))) ∙ substitute_rel t (ups k (λ i. n + i))

pub context_is : (n : ℕ) (ds : Context) → substituted_context (past n) ds ≡ lifted_context n ds
context_is n [] = refl
context_is n (Assumed A ∷ ds) = λ i. Assumed (lift_is n (length ds) A i) ∷ context_is n ds i
context_is n (Defined b B ∷ ds) = λ i. Defined (lift_is n (length ds) b i) (lift_is n (length ds) B i) ∷ context_is n ds i

pub weakening : WeakeningOfTypes
weakening E accepted ds es c t T h =
    types_at (lift_is (length es) (length ds) t) (lift_is (length es) (length ds) T)
    (subst (λ d. Types bare E (d ++ (es ++ c)) (substitute (overs (length ds) (past (length es))) t) (substitute (overs (length ds) (past (length es))) T)) (context_is (length es) ds)
    (substitute_types (renaming E) (accepted_closed E accepted) h (overs (length ds) (past (length es))) (substituted_context (past (length es)) ds ++ (es ++ c))
    (good_context (renaming E) ds (renames_past es c))))

pub weakening_of_equality : WeakeningOfEquality
weakening_of_equality E accepted ds es c t u h =
    equal_at (lift_is (length es) (length ds) t) (lift_is (length es) (length ds) u)
    (subst (λ d. Equal E (values (d ++ (es ++ c))) (substitute (overs (length ds) (past (length es))) t) (substitute (overs (length ds) (past (length es))) u)) (context_is (length es) ds)
    (substitute_equal (renaming E).carries (accepted_closed E accepted) h (overs (length ds) (past (length es))) (values (substituted_context (past (length es)) ds ++ (es ++ c)))
    (good_context (renaming E) ds (renames_past es c)).at_values))

pub put_is : (a : Term) (ds : Context) → substituted_context (put a) ds ≡ put_context a ds
put_is a [] = refl
put_is a (Assumed A ∷ ds) = ap (◌∷◌ (Assumed (substitute (overs (length ds) (put a)) A))) (put_is a ds)
put_is a (Defined b B ∷ ds) = ap (◌∷◌ (Defined (substitute (overs (length ds) (put a)) b) (substitute (overs (length ds) (put a)) B))) (put_is a ds)

pub substitution : SubstitutionOfTypes
substitution E accepted ds c e a t T f h =
    subst (λ d. Types bare E (d ++ c) (substitute (overs (length ds) (put a)) t) (substitute (overs (length ds) (put a)) T)) (put_is a ds)
    (substitute_types (putting E (accepted_closed E accepted)) (accepted_closed E accepted) h (overs (length ds) (put a)) (substituted_context (put a) ds ++ c)
    (good_context (putting E (accepted_closed E accepted)) ds (puts_one f)))

pub substitution_of_equality : SubstitutionOfEquality
substitution_of_equality E accepted ds c e a t u f h =
    subst (λ d. Equal E (values (d ++ c)) (substitute (overs (length ds) (put a)) t) (substitute (overs (length ds) (put a)) u)) (put_is a ds)
    (substitute_equal (putting E (accepted_closed E accepted)).carries (accepted_closed E accepted) h (overs (length ds) (put a)) (values (substituted_context (put a) ds ++ c))
    (good_context (putting E (accepted_closed E accepted)) ds (puts_one f)).at_values)

pub lawful_is_equal : LawfulIsEqual
lawful_is_equal E t v n e h = in_equality e h

pub typed_is_closed : TypedIsClosed
typed_is_closed E c t T h = types_closed h

pub declarations_keep_types : DeclarationsKeepTypes
declarations_keep_types levels cs ds d c t T h = extends_types (one_more levels cs ds d) h

pub declarations_keep_equality : DeclarationsKeepEquality
declarations_keep_equality levels cs ds d V t u h = extends_equal (one_more levels cs ds d) h

pub declarations_keep_below : DeclarationsKeepBelow
declarations_keep_below levels cs ds d V t u h = extends_below (one_more levels cs ds d) h

pub weakening_of_below : WeakeningOfBelow
weakening_of_below E accepted ds es c t u h =
    below_at (lift_is (length es) (length ds) t) (lift_is (length es) (length ds) u)
    (subst (λ d. Below E (values (d ++ (es ++ c))) (substitute (overs (length ds) (past (length es))) t) (substitute (overs (length ds) (past (length es))) u)) (context_is (length es) ds)
    (substitute_below (renaming E).carries (accepted_closed E accepted) h (overs (length ds) (past (length es))) (values (substituted_context (past (length es)) ds ++ (es ++ c)))
    (good_context (renaming E) ds (renames_past es c)).at_values))

pub substitution_of_below : SubstitutionOfBelow
substitution_of_below E accepted ds c e a t u f h =
    subst (λ d. Below E (values (d ++ c)) (substitute (overs (length ds) (put a)) t) (substitute (overs (length ds) (put a)) u)) (put_is a ds)
    (substitute_below (putting E (accepted_closed E accepted)).carries (accepted_closed E accepted) h (overs (length ds) (put a)) (values (substituted_context (put a) ds ++ c))
    (good_context (putting E (accepted_closed E accepted)) ds (puts_one f)).at_values)
