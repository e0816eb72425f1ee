-- Leading lambdas dropped one by one, and all at once.
use Rattle.std.proofs.Common.{◌≡◌, ℕ, zero, suc, ◌+◌, ◌-◌, ◌<◌, ◌≤◌, Bool, true, false, List, ◌∷◌, length, refl, sym, ap, ◌∙◌, subst, arith, ⊎_elim}
use Rattle.std.specs.Prelude.{if◌then◌else◌}
use Rattle.std.proofs.lemmas.Bool.{cases_lt, eqb-true, eq-eqb, or_cases, or_left, or_right}
use mathlib.Core.Path.{fun_ext}
use Rattle.trees.specs.Tree.{Slot, Rel, Node, Places, End, Child, Group, Done, Next}
use Rattle.trees.specs.Parallel.{rename, first, over, overs, put, put_all, substitute, substitute_children, substitute_terms}
use Rattle.trees.specs.Measures.{depth, above, above_trees, IsWithin, IsBeyond}
use Rattle.trees.specs.Closed.{Closed}
use Rattle.trees.proofs.Fusion.{rename-rename, rename_same, substitute-rename, substitute-substitute}
use Rattle.trees.proofs.Put.{Agree, substitute_closed, substitute_same, put_all_agree, agree_none}
use Rattle.box_terms.specs.BoxSyntax.{BoxLabel, box_slots, BoxTerm, BoxTerms, Box, BLambda, BLetIn, BApp, BConst, BConstruct, BCase, BFix}
use Rattle.lambda_box.specs.ClosureEvaluation.{names, names_places, names_terms}
use Rattle.box_passes.specs.Saturate.{lambdas}
use Rattle.shrink_passes.specs.DropParams.{leading, is_unused, without_lambda}
use Rattle.shrink_passes.specs.DeadPlaces.{is_unnamed}
use Rattle.shrink_passes.specs.Pruned.{kept, variables, wrapped, unwrapped}
use Rattle.shrink_passes.proofs.Thinning.{Thins, IsThin, thins_rel, thins_over, thins_overs, thins_first, before_thin, same_variable, box_no_variable, overs_past, named_before}
use Rattle.shrink_passes.proofs.ThinForms.{thinned_depth}

-- all at once, with the terms for all variables given before

rename_by : (r q : ℕ → ℕ) → ((j : ℕ) → r j ≡ q j) → (t : BoxTerm) → rename r t ≡ rename q t
rename_by r q e t = ap (λ r. rename r t) (fun_ext e)

pub unwrapped_rest : (E : ℕ → Bool) (p : ℕ) (s : ℕ → BoxTerm) (t : BoxTerm) → ((r : ℕ) → p ≤ r → E r ≡ false) → unwrapped E p s t ≡ substitute s t
unwrapped_rest E p s (BLambda b) h =
    ap (λ z. if z then unwrapped E (suc p) (first Box s) b else BLambda (unwrapped E (suc p) (over s) b)) (h p (omega arith))
    ∙ ap BLambda (unwrapped_rest E (suc p) (over s) b (λ r l. h r (omega arith)))
unwrapped_rest E p s t h = refl

module _ (E : ℕ → Bool) where
  -- what becomes of the variables where s is what became of them so far, and the first n lambdas from place p on are left
  abbrev pub final : ℕ → ℕ → (ℕ → BoxTerm) → ℕ → BoxTerm
  final p n s = put_all (variables E p n) (λ i. rename (λ j. kept E p n + j) (s i))

  none_more : (p : ℕ) (s : ℕ → BoxTerm) → final p 0 s ≡ s
  none_more p s = fun_ext (λ i. rename_by (λ j. 0 + j) (λ j. j) (λ j. omega arith) (s i) ∙ rename_same (s i))

  final_next : (p n : ℕ) (s : ℕ → BoxTerm) (z : Bool) → put_all ((if z then Box else Rel (kept E (suc p) n)) ∷ variables E (suc p) n) (λ i. rename (λ j. ((if z then 0 else 1) + kept E (suc p) n) + j) (s i)) ≡
      final (suc p) n (if z then first Box s else over s)
  final_next p n s true = ap (put_all (variables E (suc p) n)) (fun_ext each)
    where
      each : (i : ℕ) → first Box (λ i. rename (λ j. (0 + kept E (suc p) n) + j) (s i)) i ≡ rename (λ j. kept E (suc p) n + j) (first Box s i)
      each zero = refl
      each (suc i) = rename_by (λ j. (0 + kept E (suc p) n) + j) (λ j. kept E (suc p) n + j) (λ j. omega arith) (s i)
  final_next p n s false = ap (put_all (variables E (suc p) n)) (fun_ext each)
    where
      each : (i : ℕ) → first (Rel (kept E (suc p) n)) (λ i. rename (λ j. (1 + kept E (suc p) n) + j) (s i)) i ≡ rename (λ j. kept E (suc p) n + j) (over s i)
      each zero = let q : kept E (suc p) n ≡ kept E (suc p) n + 0 = omega arith in ap Rel q
      each (suc i) =
          rename_by (λ j. (1 + kept E (suc p) n) + j) (λ j. kept E (suc p) n + suc j) (λ j. omega arith) (s i)
          ∙ sym (rename-rename (s i) suc (λ j. kept E (suc p) n + j))

  wrapped_is : (n p : ℕ) (s : ℕ → BoxTerm) (t : BoxTerm) → n ≤ leading t → ((r : ℕ) → p + n ≤ r → E r ≡ false) → wrapped E p n (final p n s) t ≡ unwrapped E p s t
  wrapped_is zero p s t l h = ap (λ s. substitute s t) (none_more p s) ∙ sym (unwrapped_rest E p s t (λ r le. h r (omega arith)))
  wrapped_is (suc n) p s (BLambda b) l h =
      either (E p) (final_next p n s (E p)) (wrapped_is n (suc p) (first Box s) b (omega arith) (λ r le. h r (omega arith))) (wrapped_is n (suc p) (over s) b (omega arith) (λ r le. h r (omega arith)))
    where
      either : (z : Bool) → final p (suc n) s ≡ final (suc p) n (if z then first Box s else over s) → wrapped E (suc p) n (final (suc p) n (first Box s)) b ≡ unwrapped E (suc p) (first Box s) b →
          wrapped E (suc p) n (final (suc p) n (over s)) b ≡ unwrapped E (suc p) (over s) b →
          (if z then wrapped E (suc p) n (final p (suc n) s) b else BLambda (wrapped E (suc p) n (final p (suc n) s) b)) ≡ (if z then unwrapped E (suc p) (first Box s) b else BLambda (unwrapped E (suc p) (over s) b))
      either true e x y = ap (λ s. wrapped E (suc p) n s b) e ∙ x
      either false e x y = ap BLambda (ap (λ s. wrapped E (suc p) n s b) e ∙ y)
  wrapped_is (suc n) p s t l h = absurd (omega arith)

  wrapped_agree : (n p m : ℕ) (s s' : ℕ → BoxTerm) (t : BoxTerm) → n ≤ leading t → Agree (n + m) s s' → Closed m t → wrapped E p n s t ≡ wrapped E p n s' t
  wrapped_agree zero p m s s' t l a c = substitute_closed t m s s' (λ i lt. a i (omega arith)) c
  wrapped_agree (suc n) p m s s' (BLambda b) l a c =
      ap (λ u. if E p then u else BLambda u) (wrapped_agree n (suc p) (1 + m) s s' b (omega arith) (λ i lt. a i (omega arith)) c.0)
  wrapped_agree (suc n) p m s s' t l a c = absurd (omega arith)

  length_variables : (p n : ℕ) → length (variables E p n) ≡ n
  length_variables p zero = refl
  length_variables p (suc n) = ap suc (length_variables (suc p) n)

  pub wrapped_whole : (n : ℕ) (t : BoxTerm) → n ≤ leading t → ((r : ℕ) → n ≤ r → E r ≡ false) → Closed 0 t → wrapped E 0 n (put_all (variables E 0 n) Rel) t ≡ unwrapped E 0 Rel t
  wrapped_whole n t l h c =
      let rest : ℕ → BoxTerm = λ i. rename (λ j. kept E 0 n + j) (Rel i) in
      let all = put_all_agree (variables E 0 n) Rel rest 0 (agree_none Rel rest) in
      let few : Agree (n + 0) (put_all (variables E 0 n) Rel) (final 0 n Rel) = λ i lt. all i (omega (arith, length_variables 0 n, lt)) in
      wrapped_agree n 0 0 (put_all (variables E 0 n) Rel) (final 0 n Rel) t l few c ∙ wrapped_is n 0 Rel t l (λ r le. h r (omega arith))

-- the places up to the last one that is dropped
pub end_leads : (E : ℕ → Bool) (n : ℕ) (t : BoxTerm) → (0 < n → E (n - 1) ≡ true) → ((p : ℕ) → E p ≡ true → p < leading t) → n ≤ leading t
end_leads E n t last leads = ⊎_elim (λ l. omega (arith, l, leads (n - 1) (last l))) (λ l. omega (arith, l)) (cases_lt 0 n)

pub leading_depth : (t : BoxTerm) → leading t ≤ depth t
leading_depth (BLambda b) = omega (arith, leading_depth b)
leading_depth t = omega arith

pub list_wrapped : (E : ℕ → Bool) (n : ℕ) (t : BoxTerm) → n ≤ leading t → ((r : ℕ) → n ≤ r → E r ≡ false) → Closed 0 t → (xs : List BoxTerm) → xs ≡ variables E 0 n → wrapped E 0 n (put_all xs Rel) t ≡ unwrapped E 0 Rel t
list_wrapped E n t l h c xs e = ap (λ (ys : List BoxTerm). wrapped E 0 n (put_all ys Rel) t) e ∙ wrapped_whole E n t l h c

-- one lambda

pub wrapped_lambda : (E : ℕ → Bool) (p n : ℕ) (s : ℕ → BoxTerm) (t b : BoxTerm) → 0 < n → BLambda b ≡ t → E p ≡ false → wrapped E p n s t ≡ BLambda (wrapped E (p + 1) (n - 1) s b)
wrapped_lambda E p zero s t b l q e = absurd (omega arith)
wrapped_lambda E p (suc n) s t b l q e =
    let a : suc p ≡ p + 1 = omega arith in
    let m : n ≡ suc n - 1 = omega arith in
    ap (wrapped E p (suc n) s) (sym q) ∙ ap (λ z. if z then wrapped E (suc p) n s b else BLambda (wrapped E (suc p) n s b)) e ∙ (λ i. BLambda (wrapped E (a i) (m i) s b))

wrapped_dropped : (E : ℕ → Bool) (p n : ℕ) (s : ℕ → BoxTerm) (t b : BoxTerm) → 0 < n → BLambda b ≡ t → E p ≡ true → wrapped E p n s t ≡ wrapped E (p + 1) (n - 1) s b
wrapped_dropped E p zero s t b l q e = absurd (omega arith)
wrapped_dropped E p (suc n) s t b l q e =
    let a : suc p ≡ p + 1 = omega arith in
    let m : n ≡ suc n - 1 = omega arith in
    ap (wrapped E p (suc n) s) (sym q) ∙ ap (λ z. if z then wrapped E (suc p) n s b else BLambda (wrapped E (suc p) n s b)) e ∙ (λ i. wrapped E (a i) (m i) s b)

pub wrapped_inside : (E : ℕ → Bool) (p n : ℕ) (s : ℕ → BoxTerm) (t b : BoxTerm) → 0 < n → BLambda b ≡ t → IsWithin (wrapped E p n s t) → IsWithin (wrapped E (p + 1) (n - 1) s b)
wrapped_inside E p n s t b l q w = either (E p) refl
  where
    either : (z : Bool) → E p ≡ z → IsWithin (wrapped E (p + 1) (n - 1) s b)
    either true e = subst IsWithin (wrapped_dropped E p n s t b l q e) w
    either false e =
        let x = subst IsWithin (wrapped_lambda E p n s t b l q e) w in
        let d = x.0 in
        let a = x.1 in
        (omega arith, omega arith)

pub not_beyond : (t : BoxTerm) → IsWithin t → IsBeyond t → ⊥
not_beyond t w b = ⊎_elim (λ l. omega (arith, l, w.0)) (λ l. omega (arith, l, w.1)) b

-- places gone through

pub one_kept : (z : Bool) → (if◌then◌else◌ {A = ℕ} z 0 1) ≤ 1
one_kept true = omega arith
one_kept false = omega arith

pub kept_next : (E : ℕ → Bool) (p n : ℕ) → p < n → kept E p (n - p) ≡ (if E p then 0 else 1) + kept E (p + 1) (n - (p + 1))
kept_next E p n l =
    let m : n - p ≡ suc (n - (p + 1)) = omega arith in
    let a : suc p ≡ p + 1 = omega arith in
    ap (kept E p) m ∙ ap (λ q. (if E p then 0 else 1) + kept E q (n - (p + 1))) a

pub kept_whole : (E : ℕ → Bool) (n : ℕ) → 0 + kept E 0 (n - 0) ≡ kept E 0 n
kept_whole E n = let m : n - 0 ≡ n = omega arith in let q = ap (kept E 0) m in omega (arith, q)

pub kept_done : (E : ℕ → Bool) (p n : ℕ) → n ≤ p → kept E p (n - p) ≡ 0
kept_done E p n l = let m : n - p ≡ 0 = omega arith in ap (kept E p) m

pub variables_next : (E : ℕ → Bool) (p n : ℕ) → p < n → variables E p (n - p) ≡ (if E p then Box else Rel (kept E (p + 1) (n - (p + 1)))) ∷ variables E (p + 1) (n - (p + 1))
variables_next E p n l =
    let m : n - p ≡ suc (n - (p + 1)) = omega arith in
    let a : suc p ≡ p + 1 = omega arith in
    ap (variables E p) m ∙ ap (λ q. (if E p then Box else Rel (kept E q (n - (p + 1)))) ∷ variables E q (n - (p + 1))) a

-- within the limits of terms

-- no variable is put for a lower one
abbrev Lowers : (ℕ → BoxTerm) → Type 0
Lowers s = (i j : ℕ) → s i ≡ Rel j → j ≤ i

lowers_rel : Lowers Rel
lowers_rel i j e = omega (arith, same_variable e)

lowers_first : {s : ℕ → BoxTerm} → Lowers s → Lowers (first Box s)
lowers_first h zero j e = absurd (box_no_variable e)
lowers_first h (suc i) j e = let l = h i j e in omega arith

lowers_over : {s : ℕ → BoxTerm} → Thins s → Lowers s → Lowers (over s)
lowers_over h l zero j e = omega (arith, same_variable e)
lowers_over {s} h l (suc i) j e = let b = before_thin (s i) j (h.thin i) e in omega (arith, b.2, l i b.0 b.1)

lowers_overs : (n : ℕ) {s : ℕ → BoxTerm} → Thins s → Lowers s → Lowers (overs n s)
lowers_overs zero h l = l
lowers_overs (suc n) h l = lowers_over (thins_overs n h) (lowers_overs n h l)

above_variable : (i : ℕ) (t : BoxTerm) → IsThin t → ((j : ℕ) → t ≡ Rel j → j ≤ i) → above t ≤ suc i
above_variable i t h l = ⊎_elim (λ e. let q : above t ≡ 0 = ap above e in omega (arith, q)) (λ v. let q : above t ≡ v.0 + 1 = ap above v.1 in omega (arith, q, l v.0 v.1)) h

mutual
  above_thinned : (s : ℕ → BoxTerm) → Thins s → Lowers s → (t : BoxTerm) → above (substitute s t) ≤ above t
  above_thinned s h l (Rel i) = let a = above_variable i (s i) (h.thin i) (l i) in omega (arith, a)
  above_thinned s h l Box = omega arith
  above_thinned s h l (BLambda b) = omega (arith, above_thinned (overs 1 s) (thins_overs 1 h) (lowers_overs 1 h l) b)
  above_thinned s h l (BLetIn a t) = omega (arith, above_thinned s h l a, above_thinned (overs 1 s) (thins_overs 1 h) (lowers_overs 1 h l) t)
  above_thinned s h l (BApp f a) = omega (arith, above_thinned s h l f, above_thinned s h l a)
  above_thinned s h l (BConst c) = omega arith
  above_thinned s h l (BConstruct f c) = omega arith
  above_thinned s h l (BCase f t bs) = omega (arith, above_thinned s h l t, above_thinned_terms s h l bs)
  above_thinned s h l (BFix i rargs bodies) = omega (arith, above_thinned_terms s h l bodies)

  above_thinned_terms : (s : ℕ → BoxTerm) → Thins s → Lowers s → (ts : BoxTerms) → above_trees (substitute_terms s ts) ≤ above_trees ts
  above_thinned_terms s h l Done = omega arith
  above_thinned_terms s h l (Next n t ts) = omega (arith, above_thinned (overs n s) (thins_overs n h) (lowers_overs n h l) t, above_thinned_terms s h l ts)

unwrapped_depth : (E : ℕ → Bool) (p : ℕ) (s : ℕ → BoxTerm) → Thins s → (t : BoxTerm) → depth (unwrapped E p s t) ≤ depth t
unwrapped_depth E p s h (BLambda b) = either (E p) (unwrapped_depth E (suc p) (first Box s) (thins_first h) b) (unwrapped_depth E (suc p) (over s) (thins_over h) b)
  where
    either : (z : Bool) → depth (unwrapped E (suc p) (first Box s) b) ≤ depth b → depth (unwrapped E (suc p) (over s) b) ≤ depth b →
        depth (if z then unwrapped E (suc p) (first Box s) b else BLambda (unwrapped E (suc p) (over s) b)) ≤ depth (BLambda b)
    either true x y = omega arith
    either false x y = omega arith
unwrapped_depth E p s h t = let e = thinned_depth s h t in omega (arith, e)

unwrapped_above : (E : ℕ → Bool) (p : ℕ) (s : ℕ → BoxTerm) → Thins s → Lowers s → (t : BoxTerm) → above (unwrapped E p s t) ≤ above t
unwrapped_above E p s h l (BLambda b) = either (E p) (unwrapped_above E (suc p) (first Box s) (thins_first h) (lowers_first l) b) (unwrapped_above E (suc p) (over s) (thins_over h) (lowers_over h l) b)
  where
    either : (z : Bool) → above (unwrapped E (suc p) (first Box s) b) ≤ above b → above (unwrapped E (suc p) (over s) b) ≤ above b →
        above (if z then unwrapped E (suc p) (first Box s) b else BLambda (unwrapped E (suc p) (over s) b)) ≤ above (BLambda b)
    either true x y = omega arith
    either false x y = omega arith
unwrapped_above E p s h l t = let e = above_thinned s h l t in omega (arith, e)

pub unwrapped_within : (E : ℕ → Bool) (t : BoxTerm) → IsWithin t → IsWithin (unwrapped E 0 Rel t)
unwrapped_within E t w =
    let d = unwrapped_depth E 0 Rel thins_rel t in
    let a = unwrapped_above E 0 Rel thins_rel lowers_rel t in
    (omega (arith, d, w.0), omega (arith, a, w.1))

-- one by one

pub lambdas_more : (n : ℕ) (t : BoxTerm) → lambdas n (BLambda t) ≡ lambdas (suc n) t
lambdas_more zero t = refl
lambdas_more (suc n) t = ap BLambda (lambdas_more n t)

pub unused_under : (p : ℕ) (t : BoxTerm) → is_unused p (lambdas p (BLambda t)) ≡ is_unnamed 0 t
unused_under zero t = refl
unused_under (suc p) t = unused_under p t

pub without_under : (p : ℕ) (t : BoxTerm) → without_lambda p (lambdas p (BLambda t)) ≡ lambdas p (substitute (put Box) t)
without_under zero t = refl
without_under (suc p) t = ap BLambda (without_under p t)

pub put_over : (s : ℕ → BoxTerm) (t : BoxTerm) → substitute (put Box) (substitute (over s) t) ≡ substitute (first Box s) t
put_over s t = substitute-substitute t (over s) (put Box) ∙ ap (λ q. substitute q t) (fun_ext each)
  where
    each : (i : ℕ) → substitute (put Box) (over s i) ≡ first Box s i
    each zero = refl
    each (suc i) = substitute-rename (s i) suc (put Box) ∙ substitute_same (s i)

-- a variable for which one is put that the term then names was named before

mutual
  named_after : (s : ℕ → BoxTerm) (t : BoxTerm) (i j : ℕ) → s i ≡ Rel j → names t i ≡ true → names (substitute s t) j ≡ true
  named_after s (Rel m) i j e n = let q : m ≡ i = eqb-true m i n in ap (λ u. names u j) (ap s q ∙ e) ∙ eq-eqb j j refl
  named_after s (Node l ts) i j e n = named_after_places s ts i j e n

  named_after_places : (s : ℕ → BoxTerm) {ss : List Slot} (ts : Places BoxLabel box_slots ss) (i j : ℕ) → s i ≡ Rel j → names_places ts i ≡ true → names_places (substitute_children s ts) j ≡ true
  named_after_places s End i j e n = absurd (cc)
  named_after_places s (Child {n = m} t ts) i j e n =
      ⊎_elim (λ a. or_left (names (substitute (overs m s) t) (m + j)) (names_places (substitute_children s ts) j) (named_after (overs m s) t (m + i) (m + j) (overs_past m s i j e) a))
      (λ b. or_right (names (substitute (overs m s) t) (m + j)) (names_places (substitute_children s ts) j) (named_after_places s ts i j e b)) (or_cases (names t (m + i)) (names_places ts i) n)
  named_after_places s (Group us ts) i j e n =
      ⊎_elim (λ a. or_left (names_terms (substitute_terms s us) j) (names_places (substitute_children s ts) j) (named_after_terms s us i j e a))
      (λ b. or_right (names_terms (substitute_terms s us) j) (names_places (substitute_children s ts) j) (named_after_places s ts i j e b)) (or_cases (names_terms us i) (names_places ts i) n)

  named_after_terms : (s : ℕ → BoxTerm) (ts : BoxTerms) (i j : ℕ) → s i ≡ Rel j → names_terms ts i ≡ true → names_terms (substitute_terms s ts) j ≡ true
  named_after_terms s Done i j e n = absurd (cc)
  named_after_terms s (Next m t ts) i j e n =
      ⊎_elim (λ a. or_left (names (substitute (overs m s) t) (m + j)) (names_terms (substitute_terms s ts) j) (named_after (overs m s) t (m + i) (m + j) (overs_past m s i j e) a))
      (λ b. or_right (names (substitute (overs m s) t) (m + j)) (names_terms (substitute_terms s ts) j) (named_after_terms s ts i j e b)) (or_cases (names t (m + i)) (names_terms ts i) n)

same_truth : (x y : Bool) → (x ≡ true → y ≡ true) → (y ≡ true → x ≡ true) → x ≡ y
same_truth true y f g = sym (f refl)
same_truth false true f g = g refl
same_truth false false f g = refl

pub over_unnamed : (s : ℕ → BoxTerm) → Thins s → (t : BoxTerm) → is_unnamed 0 (substitute (over s) t) ≡ is_unnamed 0 t
over_unnamed s h t = ap (λ z. if z then false else true) (same_truth (names (substitute (over s) t) 0) (names t 0) (named_before (over s) (thins_over h) t 0 0 refl) (named_after (over s) t 0 0 refl))
