-- Terms in which box stands for parameters of constructors: a relation that renaming and substitution keep.
use Rattle.std.proofs.Common.{◌≡◌, ℕ, zero, suc, ◌+◌, ◌≤◌, List, [], ◌∷◌, length, Some, refl, ap, subst, arith}
use Rattle.std.proofs.lemmas.Option.{same_Some}
use Rattle.trees.specs.Tree.{Rel, Done, Next, term_at}
use Rattle.trees.specs.Parallel.{ups, rename, rename_terms, over, overs, first, put, put_all, substitute, substitute_terms}
use Rattle.pc_terms.specs.declared.leaf.Name.{Name}
use Rattle.pc_terms.specs.declared.leaf.FamilyId.{FamilyId}
use Rattle.box_terms.specs.BoxSyntax.{BoxTerm, BoxTerms, Box, BLambda, BLetIn, BApp, BConst, BConstruct, BCase, BFix}
use Rattle.lambda_box.specs.BoxProgram.{BoxFamily, BoxProgram, KeepsBoxFamily, box_apply, boxes, box_fixpoints}
use Rattle.applied_terms.proofs.Built.{Built, built_more, WantsParameter, wants_renamed, wants_put}

mutual
  -- the second is the first, with box for some parameters of constructors
  pub data Pared (P : BoxProgram) : BoxTerm → BoxTerm → Type 0 where
    pared_rel : {i : ℕ} → Pared P (Rel i) (Rel i)
    pared_box : Pared P Box Box
    pared_lambda : {b b' : BoxTerm} → Pared P b b' → Pared P (BLambda b) (BLambda b')
    pared_let : {b t b' t' : BoxTerm} → Pared P b b' → Pared P t t' → Pared P (BLetIn b t) (BLetIn b' t')
    pared_app : {f a f' a' : BoxTerm} → Pared P f f' → Pared P a a' → Pared P (BApp f a) (BApp f' a')
    pared_parameter : {f a f' : BoxTerm} → Pared P f f' → WantsParameter P f → Pared P (BApp f a) (BApp f' Box)
    pared_const : {k : Name} → Pared P (BConst k) (BConst k)
    pared_construct : {f : FamilyId} {c : ℕ} → Pared P (BConstruct f c) (BConstruct f c)
    pared_case : {f : FamilyId} {s s' : BoxTerm} {bs bs' : BoxTerms} → Pared P s s' → ParedTerms P bs bs' → Pared P (BCase f s bs) (BCase f s' bs')
    pared_fix : {i : ℕ} {rargs : List ℕ} {bs bs' : BoxTerms} → ParedTerms P bs bs' → Pared P (BFix i rargs bs) (BFix i rargs bs')

  pub data ParedTerms (P : BoxProgram) : BoxTerms → BoxTerms → Type 0 where
    pared_done : ParedTerms P Done Done
    pared_next : {n : ℕ} {t t' : BoxTerm} {ts ts' : BoxTerms} → Pared P t t' → ParedTerms P ts ts' → ParedTerms P (Next n t ts) (Next n t' ts')

pub data ParedList (P : BoxProgram) : List BoxTerm → List BoxTerm → Type 0 where
  pared_none : ParedList P [] []
  pared_one : {x x' : BoxTerm} {xs xs' : List BoxTerm} → Pared P x x' → ParedList P xs xs' → ParedList P (x ∷ xs) (x' ∷ xs')

-- terms for all variables
abbrev pub ParedEach : BoxProgram → (ℕ → BoxTerm) → (ℕ → BoxTerm) → Type 0
ParedEach P s s' = (i : ℕ) → Pared P (s i) (s' i)

-- the term at a place
pub record ParedAt (P : BoxProgram) (ts' : BoxTerms) (i n : ℕ) (t : BoxTerm) : Type 0 where
  pub term : BoxTerm
  pub at : term_at ts' i ≡ Some (n, term)
  pub is : Pared P t term

module _ {P : BoxProgram} where
  -- a term is itself so

  mutual
    pub pared_same : (t : BoxTerm) → Pared P t t
    pared_same (Rel i) = pared_rel
    pared_same Box = pared_box
    pared_same (BLambda b) = pared_lambda (pared_same b)
    pared_same (BLetIn b t) = pared_let (pared_same b) (pared_same t)
    pared_same (BApp f a) = pared_app (pared_same f) (pared_same a)
    pared_same (BConst k) = pared_const
    pared_same (BConstruct f c) = pared_construct
    pared_same (BCase f s bs) = pared_case (pared_same s) (pared_same_terms bs)
    pared_same (BFix i rargs bs) = pared_fix (pared_same_terms bs)

    pared_same_terms : (ts : BoxTerms) → ParedTerms P ts ts
    pared_same_terms Done = pared_done
    pared_same_terms (Next n t ts) = pared_next (pared_same t) (pared_same_terms ts)

  mutual
    pared_renamed : {t t' : BoxTerm} (r : ℕ → ℕ) → Pared P t t' → Pared P (rename r t) (rename r t')
    pared_renamed r pared_rel = pared_rel
    pared_renamed r pared_box = pared_box
    pared_renamed r (pared_lambda h) = pared_lambda (pared_renamed (ups 1 r) h)
    pared_renamed r (pared_let h g) = pared_let (pared_renamed r h) (pared_renamed (ups 1 r) g)
    pared_renamed r (pared_app h g) = pared_app (pared_renamed r h) (pared_renamed r g)
    pared_renamed r (pared_parameter h w) = pared_parameter (pared_renamed r h) (wants_renamed r w)
    pared_renamed r pared_const = pared_const
    pared_renamed r pared_construct = pared_construct
    pared_renamed r (pared_case h hs) = pared_case (pared_renamed r h) (pared_renamed_terms r hs)
    pared_renamed r (pared_fix hs) = pared_fix (pared_renamed_terms r hs)

    pared_renamed_terms : {ts ts' : BoxTerms} (r : ℕ → ℕ) → ParedTerms P ts ts' → ParedTerms P (rename_terms r ts) (rename_terms r ts')
    pared_renamed_terms r pared_done = pared_done
    pared_renamed_terms r (pared_next {n = n} h hs) = pared_next (pared_renamed (ups n r) h) (pared_renamed_terms r hs)

  pared_over : {s s' : ℕ → BoxTerm} → ParedEach P s s' → ParedEach P (over s) (over s')
  pared_over h zero = pared_rel
  pared_over h (suc i) = pared_renamed suc (h i)

  pared_overs : (n : ℕ) {s s' : ℕ → BoxTerm} → ParedEach P s s' → ParedEach P (overs n s) (overs n s')
  pared_overs zero h = h
  pared_overs (suc n) h = pared_over (pared_overs n h)

  mutual
    pub pared_put : {t t' : BoxTerm} {s s' : ℕ → BoxTerm} → ParedEach P s s' → Pared P t t' → Pared P (substitute s t) (substitute s' t')
    pared_put g (pared_rel {i = i}) = g i
    pared_put g pared_box = pared_box
    pared_put g (pared_lambda h) = pared_lambda (pared_put (pared_overs 1 g) h)
    pared_put g (pared_let h k) = pared_let (pared_put g h) (pared_put (pared_overs 1 g) k)
    pared_put g (pared_app h k) = pared_app (pared_put g h) (pared_put g k)
    pared_put {s = s} g (pared_parameter h w) = pared_parameter (pared_put g h) (wants_put s w)
    pared_put g pared_const = pared_const
    pared_put g pared_construct = pared_construct
    pared_put g (pared_case h hs) = pared_case (pared_put g h) (pared_put_terms g hs)
    pared_put g (pared_fix hs) = pared_fix (pared_put_terms g hs)

    pared_put_terms : {ts ts' : BoxTerms} {s s' : ℕ → BoxTerm} → ParedEach P s s' → ParedTerms P ts ts' → ParedTerms P (substitute_terms s ts) (substitute_terms s' ts')
    pared_put_terms g pared_done = pared_done
    pared_put_terms g (pared_next {n = n} h hs) = pared_next (pared_put (pared_overs n g) h) (pared_put_terms g hs)

  pared_first : {a a' : BoxTerm} {s s' : ℕ → BoxTerm} → Pared P a a' → ParedEach P s s' → ParedEach P (first a s) (first a' s')
  pared_first h g zero = h
  pared_first h g (suc i) = g i

  pared_all : {xs xs' : List BoxTerm} {s s' : ℕ → BoxTerm} → ParedList P xs xs' → ParedEach P s s' → ParedEach P (put_all xs s) (put_all xs' s')
  pared_all pared_none g = g
  pared_all (pared_one h hs) g = pared_all hs (pared_first h g)

  -- one term put in, and a list of terms
  pub pared_put_one : {a a' t t' : BoxTerm} → Pared P a a' → Pared P t t' → Pared P (substitute (put a) t) (substitute (put a') t')
  pared_put_one h g = pared_put (pared_first h (λ i. pared_rel)) g

  pub pared_put_list : {xs xs' : List BoxTerm} {t t' : BoxTerm} → ParedList P xs xs' → Pared P t t' → Pared P (substitute (put_all xs Rel) t) (substitute (put_all xs' Rel) t')
  pared_put_list hs g = pared_put (pared_all hs (λ i. pared_rel)) g

  pub pared_apply : {xs xs' : List BoxTerm} {f f' : BoxTerm} → ParedList P xs xs' → Pared P f f' → Pared P (box_apply f xs) (box_apply f' xs')
  pared_apply pared_none h = h
  pared_apply (pared_one g gs) h = pared_apply gs (pared_app h g)

  pub pared_count : {xs xs' : List BoxTerm} → ParedList P xs xs' → length xs' ≡ length xs
  pared_count pared_none = refl
  pared_count (pared_one h hs) = ap suc (pared_count hs)

  pub pared_boxes : (k : ℕ) → ParedList P (boxes k) (boxes k)
  pared_boxes zero = pared_none
  pared_boxes (suc k) = pared_one pared_box (pared_boxes k)

  pub pared_fixpoints : (i n : ℕ) (rargs : List ℕ) {bs bs' : BoxTerms} → ParedTerms P bs bs' → ParedList P (box_fixpoints i n rargs bs) (box_fixpoints i n rargs bs')
  pared_fixpoints i zero rargs h = pared_none
  pared_fixpoints i (suc n) rargs h = pared_one (pared_fix h) (pared_fixpoints (suc i) n rargs h)

  -- box for all parameters of a constructor
  pub pared_parameters : {f : FamilyId} {c j : ℕ} {F : BoxFamily} {h h' : BoxTerm} (qs : List BoxTerm) → KeepsBoxFamily P f F → j + length qs ≤ F.params → Built f c j h → Pared P h h' →
      Pared P (box_apply h qs) (box_apply h' (boxes (length qs)))
  pared_parameters [] kept le b p = p
  pared_parameters {f} {c} {j} {F} (q ∷ qs) kept le b p =
      pared_parameters qs kept (omega arith) (built_more b) (pared_parameter p (record { family = f; ctor = c; number = j; built = b; declared = F; kept = kept; below = omega arith }))

  pub pared_at : {ts ts' : BoxTerms} {n : ℕ} {t : BoxTerm} (i : ℕ) → ParedTerms P ts ts' → term_at ts i ≡ Some (n, t) → ParedAt P ts' i n t
  pared_at i pared_done e = absurd (cc)
  pared_at zero (pared_next {t' = u'} h hs) e = let p = same_Some _ _ e in record { term = u'; at = ap (λ q. Some (q.0, u')) p; is = subst (λ q. Pared P q.1 u') p h }
  pared_at (suc i) (pared_next h hs) e = let r = pared_at i hs e in record { term = r.term; at = r.at; is = r.is }

  -- where the first is box, so is the second
  pub pared_is_box : {t t' : BoxTerm} → Pared P t t' → t ≡ Box → t' ≡ Box
  pared_is_box {t' = t'} p e = go (subst (λ t. Pared P t t') e p)
    where
      go : {u : BoxTerm} → Pared P Box u → u ≡ Box
      go pared_box = refl

  -- both are the same constructor, applied to as many terms

  pub built_pared : {f : FamilyId} {c n : ℕ} {t t' : BoxTerm} → Pared P t t' → Built f c n t → Built f c n t'
  built_pared pared_construct Built.built_head = Built.built_head
  built_pared (pared_app h g) (built_more b) = built_more (built_pared h b)
  built_pared (pared_parameter h w) (built_more b) = built_more (built_pared h b)
  built_pared pared_rel b = elim b [ ]
  built_pared pared_box b = elim b [ ]
  built_pared (pared_lambda h) b = elim b [ ]
  built_pared (pared_let h g) b = elim b [ ]
  built_pared pared_const b = elim b [ ]
  built_pared (pared_case h hs) b = elim b [ ]
  built_pared (pared_fix hs) b = elim b [ ]

  pub built_before : {f : FamilyId} {c n : ℕ} {t t' : BoxTerm} → Pared P t t' → Built f c n t' → Built f c n t
  built_before pared_construct Built.built_head = Built.built_head
  built_before (pared_app h g) (built_more b) = built_more (built_before h b)
  built_before (pared_parameter h w) (built_more b) = built_more (built_before h b)
  built_before pared_rel b = elim b [ ]
  built_before pared_box b = elim b [ ]
  built_before (pared_lambda h) b = elim b [ ]
  built_before (pared_let h g) b = elim b [ ]
  built_before pared_const b = elim b [ ]
  built_before (pared_case h hs) b = elim b [ ]
  built_before (pared_fix hs) b = elim b [ ]
