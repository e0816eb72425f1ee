-- The relation between terms before and after saturation, by substitution on both sides.
use Rattle.std.proofs.Common.{◌≡◌, ℕ, zero, suc, ◌+◌, ◌-◌, ◌<◌, ◌≤◌, List, [], ◌∷◌, ◌++◌, length, Some, refl, sym, ap, ◌∙◌, subst, arith, length-append}
use Rattle.std.proofs.lemmas.Option.{same_Some}
use Rattle.std.specs.Prelude.{slice_get}
use Rattle.trees.specs.Tree.{Rel, Done, Next, term_at}
use Rattle.trees.specs.Parallel.{ups, rename, over, overs, first, put_all, substitute, substitute_terms, rename_terms}
use Rattle.trees.specs.Closed.{Closed}
use Rattle.trees.proofs.Put.{substitute_whole}
use Rattle.pc_terms.specs.declared.leaf.Name.{Name}
use Rattle.pc_terms.specs.declared.leaf.FamilyId.{FamilyId}
use Rattle.box_terms.specs.BoxSyntax.{BoxTerm, BoxTerms, Box, BLambda, BLetIn, BApp, BConst, BConstruct, BCase, BFix}
use Rattle.lambda_box.specs.BoxProgram.{BoxFamily, BoxProgram, KeepsBoxFamily, box_apply, boxes, box_fixpoints}
use Rattle.box_passes.specs.Saturate.{innermost, lambdas}
use Rattle.lambda_box.proofs.Spines.{head_of, arguments}
use Rattle.box_passes.proofs.Standing.{rename_whole}
use Rattle.box_passes.proofs.Selves.{one_more}
use Rattle.box_passes.proofs.Results.{IsResult}

-- the function that a constructor is when it waits for suc m more, with the arguments that it has
abbrev pub waiting : ℕ → ℕ → FamilyId → ℕ → List BoxTerm → BoxTerm
waiting m n f c vs = lambdas m (box_apply (BConstruct f c) (vs ++ innermost (n - length vs)))

mutual
  pub data Sat (P Q : BoxProgram) : BoxTerm → BoxTerm → Type 0 where
    sat_rel : {i : ℕ} → Sat P Q (Rel i) (Rel i)
    sat_box : Sat P Q Box Box
    sat_lambda : {b b' : BoxTerm} → Sat P Q b b' → Sat P Q (BLambda b) (BLambda b')
    sat_let : {b t b' t' : BoxTerm} → Sat P Q b b' → Sat P Q t t' → Sat P Q (BLetIn b t) (BLetIn b' t')
    sat_app : {f a f' a' : BoxTerm} → Sat P Q f f' → Sat P Q a a' → Sat P Q (BApp f a) (BApp f' a')
    sat_constant : {k : Name} → Sat P Q (BConst k) (BConst k)
    sat_case : {f : FamilyId} {s s' : BoxTerm} {bs bs' : BoxTerms} → Sat P Q s s' → SatTerms P Q bs bs' → Sat P Q (BCase f s bs) (BCase f s' bs')
    sat_fix : {i : ℕ} {rargs : List ℕ} {bs bs' : BoxTerms} → SatTerms P Q bs bs' → Sat P Q (BFix i rargs bs) (BFix i rargs bs')
    sat_full : {f : FamilyId} {c n j : ℕ} {F : BoxFamily} {t t' : BoxTerm} → KeepsBoxFamily P f F → slice_get F.args c ≡ Some n → j ≡ F.params + n → SatArgs P Q f c F.params j t t' → Sat P Q t t'
    sat_waits : {f : FamilyId} {c n j : ℕ} {F : BoxFamily} {t t' : BoxTerm} {vs : List BoxTerm} (m : ℕ) → KeepsBoxFamily P f F → slice_get F.args c ≡ Some n → j + suc m ≡ F.params + n → Closed 0 t → Closed 0 t' →
        SatWaits P Q f c F.params j t vs → t' ≡ BLambda (waiting m n f c vs) → Sat P Q t t'

  pub data SatTerms (P Q : BoxProgram) : BoxTerms → BoxTerms → Type 0 where
    sat_done : SatTerms P Q Done Done
    sat_next : {n : ℕ} {t t' : BoxTerm} {ts ts' : BoxTerms} → Sat P Q t t' → SatTerms P Q ts ts' → SatTerms P Q (Next n t ts) (Next n t' ts')

  -- a constructor with p parameters, which has j of its parameters and arguments; the parameters are dropped
  pub data SatArgs (P Q : BoxProgram) : FamilyId → ℕ → ℕ → ℕ → BoxTerm → BoxTerm → Type 0 where
    args_none : {f : FamilyId} {c p : ℕ} → SatArgs P Q f c p 0 (BConstruct f c) (BConstruct f c)
    args_dropped : {f : FamilyId} {c p j : ℕ} {t u t' : BoxTerm} → j < p → SatArgs P Q f c p j t t' → SatArgs P Q f c p (suc j) (BApp t u) t'
    args_kept : {f : FamilyId} {c p j : ℕ} {t u t' u' : BoxTerm} → p ≤ j → SatArgs P Q f c p j t t' → Sat P Q u u' → SatArgs P Q f c p (suc j) (BApp t u) (BApp t' u')

  -- the same of closed results
  pub data SatWaits (P Q : BoxProgram) : FamilyId → ℕ → ℕ → ℕ → BoxTerm → List BoxTerm → Type 0 where
    waits_none : {f : FamilyId} {c p : ℕ} → SatWaits P Q f c p 0 (BConstruct f c) []
    waits_dropped : {f : FamilyId} {c p j : ℕ} {t u : BoxTerm} {vs : List BoxTerm} → j < p → IsResult P u → SatWaits P Q f c p j t vs → SatWaits P Q f c p (suc j) (BApp t u) vs
    waits_kept : {f : FamilyId} {c p j : ℕ} {t u u' : BoxTerm} {vs ws : List BoxTerm} → p ≤ j → IsResult P u → IsResult Q u' → Closed 0 u' → Sat P Q u u' → SatWaits P Q f c p j t vs → ws ≡ vs ++ u' ∷ [] → SatWaits P Q f c p (suc j) (BApp t u) ws

module _ (P Q : BoxProgram) where
  mutual
    sat_renamed : {t t' : BoxTerm} (r : ℕ → ℕ) → Sat P Q t t' → Sat P Q (rename r t) (rename r t')
    sat_renamed r sat_rel = sat_rel
    sat_renamed r sat_box = sat_box
    sat_renamed r (sat_lambda h) = sat_lambda (sat_renamed (ups 1 r) h)
    sat_renamed r (sat_let h g) = sat_let (sat_renamed r h) (sat_renamed (ups 1 r) g)
    sat_renamed r (sat_app h g) = sat_app (sat_renamed r h) (sat_renamed r g)
    sat_renamed r sat_constant = sat_constant
    sat_renamed r (sat_case h hs) = sat_case (sat_renamed r h) (sat_renamed_terms r hs)
    sat_renamed r (sat_fix hs) = sat_fix (sat_renamed_terms r hs)
    sat_renamed r (sat_full F at z h) = sat_full F at z (sat_renamed_args r h)
    sat_renamed r (sat_waits {t = t} {t' = t'} m F at z cl cl' h e) = subst (λ u. Sat P Q u (rename r t')) (sym (rename_whole t r cl)) (subst (λ u. Sat P Q t u) (sym (rename_whole t' r cl')) (sat_waits m F at z cl cl' h e))

    sat_renamed_terms : {ts ts' : BoxTerms} (r : ℕ → ℕ) → SatTerms P Q ts ts' → SatTerms P Q (rename_terms r ts) (rename_terms r ts')
    sat_renamed_terms r sat_done = sat_done
    sat_renamed_terms r (sat_next {n = n} h hs) = sat_next (sat_renamed (ups n r) h) (sat_renamed_terms r hs)

    sat_renamed_args : {f : FamilyId} {c p j : ℕ} {t t' : BoxTerm} (r : ℕ → ℕ) → SatArgs P Q f c p j t t' → SatArgs P Q f c p j (rename r t) (rename r t')
    sat_renamed_args r args_none = args_none
    sat_renamed_args r (args_dropped l h) = args_dropped l (sat_renamed_args r h)
    sat_renamed_args r (args_kept l h g) = args_kept l (sat_renamed_args r h) (sat_renamed r g)

  abbrev pub SatEach : (ℕ → BoxTerm) → (ℕ → BoxTerm) → Type 0
  SatEach s s' = (i : ℕ) → Sat P Q (s i) (s' i)

  sat_over : {s s' : ℕ → BoxTerm} → SatEach s s' → SatEach (over s) (over s')
  sat_over h zero = sat_rel
  sat_over h (suc i) = sat_renamed suc (h i)

  sat_overs : (n : ℕ) {s s' : ℕ → BoxTerm} → SatEach s s' → SatEach (overs n s) (overs n s')
  sat_overs zero h = h
  sat_overs (suc n) h = sat_over (sat_overs n h)

  mutual
    pub sat_put : {t t' : BoxTerm} {s s' : ℕ → BoxTerm} → SatEach s s' → Sat P Q t t' → Sat P Q (substitute s t) (substitute s' t')
    sat_put g (sat_rel {i}) = g i
    sat_put g sat_box = sat_box
    sat_put g (sat_lambda h) = sat_lambda (sat_put (sat_overs 1 g) h)
    sat_put g (sat_let h k) = sat_let (sat_put g h) (sat_put (sat_overs 1 g) k)
    sat_put g (sat_app h k) = sat_app (sat_put g h) (sat_put g k)
    sat_put g sat_constant = sat_constant
    sat_put g (sat_case h hs) = sat_case (sat_put g h) (sat_put_terms g hs)
    sat_put g (sat_fix hs) = sat_fix (sat_put_terms g hs)
    sat_put g (sat_full F at z h) = sat_full F at z (sat_put_args g h)
    sat_put {s = s} {s' = s'} g (sat_waits {t = t} {t' = t'} m F at z cl cl' h e) =
        subst (λ u. Sat P Q u (substitute s' t')) (sym (substitute_whole t s cl)) (subst (λ u. Sat P Q t u) (sym (substitute_whole t' s' cl')) (sat_waits m F at z cl cl' h e))

    pub sat_put_terms : {ts ts' : BoxTerms} {s s' : ℕ → BoxTerm} → SatEach s s' → SatTerms P Q ts ts' → SatTerms P Q (substitute_terms s ts) (substitute_terms s' ts')
    sat_put_terms g sat_done = sat_done
    sat_put_terms g (sat_next {n = n} h hs) = sat_next (sat_put (sat_overs n g) h) (sat_put_terms g hs)

    sat_put_args : {f : FamilyId} {c p j : ℕ} {t t' : BoxTerm} {s s' : ℕ → BoxTerm} → SatEach s s' → SatArgs P Q f c p j t t' → SatArgs P Q f c p j (substitute s t) (substitute s' t')
    sat_put_args g args_none = args_none
    sat_put_args g (args_dropped l h) = args_dropped l (sat_put_args g h)
    sat_put_args g (args_kept l h k) = args_kept l (sat_put_args g h) (sat_put g k)

  pub data SatList : List BoxTerm → List BoxTerm → Type 0 where
    sat_none : SatList [] []
    sat_one : {x x' : BoxTerm} {xs xs' : List BoxTerm} → Sat P Q x x' → SatList xs xs' → SatList (x ∷ xs) (x' ∷ xs')

  pub sat_first : {a a' : BoxTerm} {s s' : ℕ → BoxTerm} → Sat P Q a a' → SatEach s s' → SatEach (first a s) (first a' s')
  sat_first h g zero = h
  sat_first h g (suc i) = g i

  pub sat_all : {xs xs' : List BoxTerm} {s s' : ℕ → BoxTerm} → SatList xs xs' → SatEach s s' → SatEach (put_all xs s) (put_all xs' s')
  sat_all sat_none g = g
  sat_all (sat_one h hs) g = sat_all hs (sat_first h g)

  pub sat_variables : SatEach Rel Rel
  sat_variables i = sat_rel

  pub sat_apply : {xs xs' : List BoxTerm} {f f' : BoxTerm} → SatList xs xs' → Sat P Q f f' → Sat P Q (box_apply f xs) (box_apply f' xs')
  sat_apply sat_none h = h
  sat_apply (sat_one g gs) h = sat_apply gs (sat_app h g)

  pub sat_length : {xs xs' : List BoxTerm} → SatList xs xs' → length xs' ≡ length xs
  sat_length sat_none = refl
  sat_length (sat_one h hs) = ap suc (sat_length hs)

  pub record SatAt (ts : BoxTerms) (i n : ℕ) (t : BoxTerm) : Type 0 where
    pub t' : BoxTerm
    pub at : term_at ts i ≡ Some (n, t')
    pub is : Sat P Q t t'

  pub sat_at : {ts ts' : BoxTerms} {n : ℕ} {t : BoxTerm} (i : ℕ) → SatTerms P Q ts ts' → term_at ts i ≡ Some (n, t) → SatAt ts' i n t
  sat_at i sat_done e = absurd (cc)
  sat_at {n = n} {t = t} zero (sat_next {n = m} {t = u} {t' = u'} h hs) e = let p = same_Some _ _ e in record { t' = u'; at = ap (λ q. Some (q.0, u')) p; is = subst (λ q. Sat P Q q.1 u') p h }
  sat_at (suc i) (sat_next h hs) e = let r = sat_at i hs e in record { t' = r.t'; at = r.at; is = r.is }

  pub sat_fixpoints : (i n : ℕ) (rargs : List ℕ) {bs bs' : BoxTerms} → SatTerms P Q bs bs' → SatList (box_fixpoints i n rargs bs) (box_fixpoints i n rargs bs')
  sat_fixpoints i zero rargs h = sat_none
  sat_fixpoints i (suc n) rargs h = sat_one (sat_fix h) (sat_fixpoints (suc i) n rargs h)

  pub sat_boxes : (k : ℕ) → SatList (boxes k) (boxes k)
  sat_boxes zero = sat_none
  sat_boxes (suc k) = sat_one sat_box (sat_boxes k)

  -- heads and counts
  pub args_is : {f : FamilyId} {c p j : ℕ} {t t' : BoxTerm} → SatArgs P Q f c p j t t' → head_of t ≡ BConstruct f c
  args_is args_none = refl
  args_is (args_dropped l h) = args_is h
  args_is (args_kept l h g) = args_is h

  pub args_is' : {f : FamilyId} {c p j : ℕ} {t t' : BoxTerm} → SatArgs P Q f c p j t t' → head_of t' ≡ BConstruct f c
  args_is' args_none = refl
  args_is' (args_dropped l h) = args_is' h
  args_is' (args_kept l h g) = args_is' h

  pub args_count : {f : FamilyId} {c p j : ℕ} {t t' : BoxTerm} → SatArgs P Q f c p j t t' → length (arguments t []) ≡ j
  args_count args_none = refl
  args_count (args_dropped {t = t} {u = u} l h) = one_more t u ∙ ap suc (args_count h)
  args_count (args_kept {t = t} {u = u} l h g) = one_more t u ∙ ap suc (args_count h)

  pub args_count' : {f : FamilyId} {c p j : ℕ} {t t' : BoxTerm} → SatArgs P Q f c p j t t' → length (arguments t' []) ≡ j - p
  args_count' args_none = omega arith
  args_count' (args_dropped l h) = omega (arith, args_count' h)
  args_count' (args_kept {t' = t'} {u' = u'} l h g) = omega (arith, one_more t' u', args_count' h)

  pub waits_is : {f : FamilyId} {c p j : ℕ} {t : BoxTerm} {vs : List BoxTerm} → SatWaits P Q f c p j t vs → head_of t ≡ BConstruct f c
  waits_is waits_none = refl
  waits_is (waits_dropped l r h) = waits_is h
  waits_is (waits_kept l r r' cl g h e) = waits_is h

  pub waits_count : {f : FamilyId} {c p j : ℕ} {t : BoxTerm} {vs : List BoxTerm} → SatWaits P Q f c p j t vs → length (arguments t []) ≡ j
  waits_count waits_none = refl
  waits_count (waits_dropped {t = t} {u = u} l r h) = one_more t u ∙ ap suc (waits_count h)
  waits_count (waits_kept {t = t} {u = u} l r r' cl g h e) = one_more t u ∙ ap suc (waits_count h)

  pub waits_values : {f : FamilyId} {c p j : ℕ} {t : BoxTerm} {vs : List BoxTerm} → SatWaits P Q f c p j t vs → length vs ≡ j - p
  waits_values waits_none = omega arith
  waits_values (waits_dropped l r h) = omega (arith, waits_values h)
  waits_values (waits_kept {u' = u'} {vs = vs} l r r' cl g h e) = omega (arith, ap length e, length-append vs (u' ∷ []), waits_values h)
