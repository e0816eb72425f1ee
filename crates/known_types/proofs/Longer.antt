-- Contexts with more entries, and that one is known again by those.
use Rattle.std.proofs.Common.{◌≡◌, ◌∙◌, ℕ, suc, ◌+◌, Some, slice_get, sym, ap, List, [], ◌∷◌, ◌++◌, length, take, refl, subst}
use Rattle.std.proofs.Math.Seq.{take-append_seam}
use Rattle.std.proofs.lemmas.Option.{slice_get_within, get_or_from_slice_get}
use Rattle.pc_rules.proofs.ListSteps.{take_next}
use Rattle.pc_terms.specs.Syntax.{Term, Terms, Done, Next, shift}
use Rattle.calculus_rules.specs.declared.entry.Entry.{Entry}
use Rattle.calculus_rules.specs.declared.entry.Entry.TheVariants.{Assumed}
use Rattle.calculus_rules.specs.Context.{Context, extend}
use Rattle.calculus_rules.specs.Instances.{definitions}
use Rattle.known_types.specs.Sites.{Longer}

entry_between : (es : List Entry) (e : Entry) (c : Context) → es ++ (e ∷ c) ≡ (es ++ (e ∷ [])) ++ c
entry_between [] e c = refl
entry_between (x ∷ es) e c = ap (λ xs. x ∷ xs) (entry_between es e c)

longer_by : (e : Entry) (c d : Context) → Longer (e ∷ c) d → Longer c d
longer_by e c d h = (h.0 ++ (e ∷ []), h.1 ∙ entry_between h.0 e c)

pub one_longer : (e : Entry) (c d : Context) → d ≡ e ∷ c → Longer c d
one_longer e c d p = (e ∷ [], p)

pub more_longer : (e : Entry) (c d : Context) → Longer c d → Longer c (e ∷ d)
more_longer e c d h = (e ∷ h.0, ap (λ xs. e ∷ xs) h.1)

extended_longer : (c : Context) (As : List Term) → Longer c (extend c As)
extended_longer c [] = ([], refl)
extended_longer c (A ∷ As) = longer_by (Assumed A) c (extend c (A ∷ As)) (extended_longer (Assumed A ∷ c) As)

definitions_longer : (c : Context) (n : ℕ) (ts : Terms) → Longer c (definitions c n ts)
definitions_longer c n Done = ([], refl)
definitions_longer c n (Next b T ts) = longer_by (Assumed (shift n 0 T)) c (definitions c n (Next b T ts)) (definitions_longer (Assumed (shift n 0 T) ∷ c) (suc n) ts)

pub extends_longer : (c d : Context) (As : List Term) → d ≡ extend c As → Longer c d
extends_longer c d As e = let h = extended_longer c As in (h.0, e ∙ h.1)

pub defines_longer : (c d : Context) (n : ℕ) (ts : Terms) → d ≡ definitions c n ts → Longer c d
defines_longer c d n ts e = let h = definitions_longer c n ts in (h.0, e ∙ h.1)

-- two contexts that are one context with so many entries more, the same
pub same_longer : (c d e : Context) (xs ys : List Entry) (n : ℕ) → d ≡ xs ++ c → e ≡ ys ++ c → length xs ≡ n → length ys ≡ n → take n d ≡ take n e → d ≡ e
same_longer c d e xs ys n p q k l h =
    let x : take n d ≡ xs = ap (λ z. take n z) p ∙ ap (λ i. take i (xs ++ c)) (sym k) ∙ take-append_seam xs c in
    let y : take n e ≡ ys = ap (λ z. take n z) q ∙ ap (λ i. take i (ys ++ c)) (sym l) ∙ take-append_seam ys c in
    p ∙ ap (λ zs. zs ++ c) (sym x ∙ h ∙ y) ∙ sym q

-- one item more of two lists is the same
pub same_next : {A : Type 0} (xs ys : List A) (i : ℕ) (x y : A) → slice_get xs i ≡ Some x → slice_get ys i ≡ Some y → x ≡ y → take i xs ≡ take i ys → take (i + 1) xs ≡ take (i + 1) ys
same_next xs ys i x y p q e h =
    take_next xs i x (slice_get_within xs i x p) (sym (get_or_from_slice_get xs i x x p)) ∙ ap (λ zs. zs ++ (x ∷ [])) h ∙ ap (λ z. take i ys ++ (z ∷ [])) e ∙
    sym (take_next ys i y (slice_get_within ys i y q) (sym (get_or_from_slice_get ys i y y q)))
