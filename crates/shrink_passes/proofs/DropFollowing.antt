-- Evaluation with environments follows the drop of one lambda with its argument: the use of the constant gives, once it has its box, what the body without
-- the lambda gives before.
use Rattle.std.proofs.Common.{◌≡◌, ℕ, zero, suc, ◌+◌, ◌-◌, ◌<◌, ◌≤◌, Bool, true, false, ◌&&◌, ◌||◌, List, [], ◌∷◌, ◌++◌, length, Some, refl, sym, ap, ◌∙◌, subst, arith, ◌⊎◌, inl, inr, ⊎_elim}
use Rattle.std.specs.Prelude.{nat_eq, if◌then◌else◌}
use Rattle.std.proofs.lemmas.Bool.{eqb-true, eq-eqb, and_parts, and_from, or_cases, or_left, or_right, false≢true}
use Rattle.trees.proofs.Fusion.{substitute_rel, rename_same}
use Rattle.trees.specs.Tree.{Rel, Done, Next, term_at}
use Rattle.trees.specs.Parallel.{rename, over, overs, put, substitute, substitute_terms, first}
use Rattle.pc_terms.specs.declared.leaf.Name.{Name}
use Rattle.pc_terms.specs.declared.leaf.FamilyId.{FamilyId}
use Rattle.box_terms.specs.BoxSyntax.{BoxTerm, BoxTerms, Box, BLambda, BLetIn, BApp, BConst, BConstruct, BCase, BFix}
use Rattle.lambda_box.specs.BoxProgram.{BoxFamily, BoxProgram, Has, KeepsBoxConstant, KeepsBoxFamily, box_apply}
use Rattle.lambda_box.specs.BoxData.{Data}
use Rattle.lambda_box.specs.DataTerms.{ValuesHold, hold_none, hold_last}
use Rattle.lambda_box.specs.ClosureEvaluation.{names, names_terms, ClosureValue, VBox, VConstruct, VClosure, VFix, ClosureValues, NoValue, Then, ClosureEnv, Empty, Bind, BindFix, size, bind_all, box_values, Held, Holds, Defines, Finds, found, later, found_fix, past_fix, one_if, any_below, words, closure_words, fix_words, Counts, nothing, contraction, entered_match, block, ◌⊕◌, ClosureRun, run_box, run_value, run_definition, run_lambda, run_fix, run_constant, run_let, run_app, run_box_app, run_fix_app, run_fix_box, run_construct, run_match, run_only, RunArgs, run_head, run_arg, ValueReads, value_reads, ValuesRead, no_values, and_then}
use Rattle.box_passes.specs.Saturate.{innermost, lambdas}
use Rattle.box_passes.proofs.Filling.{box_values_size}
use Rattle.shrink_passes.specs.Uses.{uses}
use Rattle.shrink_passes.specs.DropParams.{is_spine, box_at, fits, fits_terms, cut, cut_terms}
use Rattle.shrink_passes.specs.ShrinkLaws.{AreNoMore, RunsWithin}
use Rattle.shrink_passes.proofs.RunShapes.{closure_not_box, closure_not_fix, not_true, overs_rel_same, box_further, block_less, RunsBox, box_runs, lambda_runs, over_rel, box_is_box, names_lambdas, closure_env, closure_body}
use Rattle.shrink_passes.proofs.Cutting.{cut_at, fits_at, one_spine, cut_unused, fits_unused, spine_box}
use Rattle.shrink_passes.proofs.Thinning.{Thins, thins_rel, thins_over, thins_overs, thins_first, overs_past, overs_below, named_before, named_before_terms, named_cut, named_cut_terms, same_variable}
use Rattle.shrink_passes.proofs.Following.{no_more_self, no_more_sum}

module _ (k p : ℕ) (t0 : BoxTerm) (none : uses k t0 ≡ 0) where
  -- the body without its lambda
  abbrev low : BoxTerm
  low = substitute (put Box) t0

  mutual
    pub data Like : ClosureValue → ClosureValue → Type 0 where
      like_box : Like VBox VBox
      like_construct : {f : FamilyId} {c : ℕ} {vs ws : ClosureValues} → LikeAll vs ws → Like (VConstruct f c vs) (VConstruct f c ws)
      like_closure : {e e' : ClosureEnv} {s : ℕ → BoxTerm} {t : BoxTerm} → LikeEnv e e' s → fits k p [] t ≡ true → Like (VClosure e t) (VClosure e' (substitute (over s) (cut k p t)))
      like_fix : {e e' : ClosureEnv} {s : ℕ → BoxTerm} {i : ℕ} {rargs : List ℕ} {bodies : BoxTerms} → LikeEnv e e' s → fits_terms k p bodies ≡ true → Like (VFix e i rargs bodies) (VFix e' i rargs (substitute_terms s (cut_terms k p bodies)))

    pub data LikeAll : ClosureValues → ClosureValues → Type 0 where
      like_none : LikeAll NoValue NoValue
      like_more : {v w : ClosureValue} {vs ws : ClosureValues} → Like v w → LikeAll vs ws → LikeAll (Then v vs) (Then w ws)

    -- a variable that holds box may be gone; box stands for it then
    pub data LikeEnv : ClosureEnv → ClosureEnv → (ℕ → BoxTerm) → Type 0 where
      like_empty : LikeEnv Empty Empty Rel
      like_bind : {v w : ClosureValue} {e e' : ClosureEnv} {s : ℕ → BoxTerm} → Like v w → LikeEnv e e' s → LikeEnv (Bind v e) (Bind w e') (over s)
      like_skip : {e e' : ClosureEnv} {s : ℕ → BoxTerm} → LikeEnv e e' s → LikeEnv (Bind VBox e) e' (first Box s)
      like_bind_fix : {rargs : List ℕ} {bodies : BoxTerms} {e e' : ClosureEnv} {s : ℕ → BoxTerm} → LikeEnv e e' s → fits_terms k p bodies ≡ true →
          LikeEnv (BindFix rargs bodies e) (BindFix rargs (substitute_terms s (cut_terms k p bodies)) e') (overs (length rargs) s)

  env_thins : {e e' : ClosureEnv} {s : ℕ → BoxTerm} → LikeEnv e e' s → Thins s
  env_thins like_empty = thins_rel
  env_thins (like_bind l h) = thins_over (env_thins h)
  env_thins (like_skip h) = thins_first (env_thins h)
  env_thins (like_bind_fix {rargs = rargs} h f) = thins_overs (length rargs) (env_thins h)

  -- each variable of the second set stands for one of the first
  abbrev Covers : (ℕ → BoxTerm) → (ℕ → Bool) → (ℕ → Bool) → Type 0
  Covers s N M = (i j : ℕ) → s i ≡ Rel j → M j ≡ true → N i ≡ true

  one_less : (x y : Bool) → (y ≡ true → x ≡ true) → one_if y ≤ one_if x
  one_less true true f = omega arith
  one_less true false f = omega arith
  one_less false true f = absurd (let q = f refl in cc)
  one_less false false f = omega arith

  any_less : (n : ℕ) (s : ℕ → BoxTerm) (N M : ℕ → Bool) → ((i : ℕ) → i < n → M i ≡ true → N i ≡ true) → any_below n M ≡ true → any_below n N ≡ true
  any_less zero s N M f e = e
  any_less (suc n) s N M f e =
      ⊎_elim (λ a. or_left (N n) (any_below n N) (f n (omega arith) a)) (λ b. or_right (N n) (any_below n N) (any_less n s N M (λ i l. f i (omega arith)) b)) (or_cases (M n) (any_below n M) e)

  words_like : {e e' : ClosureEnv} {s : ℕ → BoxTerm} → LikeEnv e e' s → (N M : ℕ → Bool) → Covers s N M → words e' M ≤ words e N
  words_like like_empty N M c = omega arith
  words_like (like_bind {s = s} l h) N M c =
      omega (arith, one_less (N zero) (M zero) (c zero zero refl), words_like h (λ i. N (suc i)) (λ i. M (suc i)) (λ i j e m. c (suc i) (suc j) (ap (rename suc) e) m))
  words_like (like_skip {s = s} h) N M c = omega (arith, words_like h (λ i. N (suc i)) M (λ i j e m. c (suc i) j e m))
  words_like (like_bind_fix {rargs = rargs} {bodies = bs} {s = s} h f) N M c =
      words_like h (λ i. N (length rargs + i) || (any_below (length rargs) N && names_terms bs i)) (λ i. M (length rargs + i) || (any_below (length rargs) M && names_terms (substitute_terms s (cut_terms k p bs)) i))
      (λ i j e m. ⊎_elim
      (λ a. or_left (N (length rargs + i)) (any_below (length rargs) N && names_terms bs i) (c (length rargs + i) (length rargs + j) (overs_past (length rargs) s i j e) a))
      (λ b.
      let both = and_parts (any_below (length rargs) M) (names_terms (substitute_terms s (cut_terms k p bs)) j) b in
      or_right (N (length rargs + i)) (any_below (length rargs) N && names_terms bs i)
      (and_from (any_below (length rargs) N) (names_terms bs i) (any_less (length rargs) s N M (λ x l. c x x (overs_below (length rargs) s x l)) both.0)
      (named_cut_terms k p bs i (named_before_terms s (env_thins h) (cut_terms k p bs) i j e both.1))))
      (or_cases (M (length rargs + j)) (any_below (length rargs) M && names_terms (substitute_terms s (cut_terms k p bs)) j) m))

  closure_less : {e e' : ClosureEnv} {s : ℕ → BoxTerm} (t : BoxTerm) → LikeEnv e e' s → closure_words e' (substitute (over s) (cut k p t)) ≤ closure_words e t
  closure_less {s = s} t h =
      omega (
        arith,
        words_like h (λ i. names t (suc i)) (λ i. names (substitute (over s) (cut k p t)) (suc i))
            (λ i j e m. named_cut k p t (suc i) (named_before (over s) (thins_over (env_thins h)) (cut k p t) (suc i) (suc j) (ap (rename suc) e) m)),
      )

  fix_less : {e e' : ClosureEnv} {s : ℕ → BoxTerm} (bs : BoxTerms) → LikeEnv e e' s → fix_words e' (substitute_terms s (cut_terms k p bs)) ≤ fix_words e bs
  fix_less {s = s} bs h =
      omega (
        arith,
        words_like h (λ i. names_terms bs i) (λ i. names_terms (substitute_terms s (cut_terms k p bs)) i)
            (λ i j e m. named_cut_terms k p bs i (named_before_terms s (env_thins h) (cut_terms k p bs) i j e m)),
      )

  -- the lambdas above the one that is dropped
  lambdas_less : {e e' : ClosureEnv} (m : ℕ) → LikeEnv e e' Rel → closure_words e' (lambdas m low) ≤ closure_words e (lambdas (suc m) t0)
  lambdas_less m h =
      omega (
        arith,
        words_like h (λ i. names (lambdas (suc m) t0) (suc i)) (λ i. names (lambdas m low) (suc i))
            (λ i j e n.
            let same = same_variable e in
            let at_low : names low (m + suc j) ≡ true = sym (names_lambdas m low (suc j)) ∙ n in
            let q : Rel (m + suc j) ≡ Rel (m + suc i) = let r : m + suc j ≡ m + suc i = omega arith in ap Rel r in
            let before = named_before (put Box) (thins_first thins_rel) t0 (suc (m + suc i)) (m + suc j) (sym q) at_low in
            let r : suc (m + suc i) ≡ suc m + suc i = omega arith in
            names_lambdas (suc m) t0 (suc i) ∙ ap (names t0) (sym r) ∙ before),
      )

  -- what a variable holds
  data VariableHolds (e' : ClosureEnv) (t : BoxTerm) (v : ClosureValue) : Type 0 where
    still_holds : (j : ℕ) (w : ClosureValue) → t ≡ Rel j → Finds e' j (Holds w) → Like v w → VariableHolds e' t v
    was_box : t ≡ Box → v ≡ VBox → VariableHolds e' t v

  held_value_is : {x y : ClosureValue} → Holds x ≡ Holds y → x ≡ y
  held_value_is q = grind arith

  later_holds : {e' : ClosureEnv} {t : BoxTerm} {v w : ClosureValue} → VariableHolds e' t v → VariableHolds (Bind w e') (rename suc t) v
  later_holds (still_holds j x q f l) = still_holds (suc j) x (ap (rename suc) q) (later f) l
  later_holds (was_box q r) = was_box (ap (rename suc) q) r

  past_holds : {e' : ClosureEnv} {v : ClosureValue} {rargs : List ℕ} {bodies : BoxTerms} (s : ℕ → BoxTerm) (i j : ℕ) → i ≡ length rargs + j → VariableHolds e' (s j) v → VariableHolds (BindFix rargs bodies e') (overs (length rargs) s i) v
  past_holds {rargs = rargs} s i j q (still_holds x w r f l) = still_holds (length rargs + x) w (ap (overs (length rargs) s) q ∙ overs_past (length rargs) s j x r) (past_fix x refl f) l
  past_holds {rargs = rargs} s i j q (was_box r v) = was_box (ap (overs (length rargs) s) q ∙ overs_box (length rargs) s j r) v
    where
      overs_box : (n : ℕ) (s : ℕ → BoxTerm) (j : ℕ) → s j ≡ Box → overs n s (n + j) ≡ Box
      overs_box zero s j r = let q : 0 + j ≡ j = omega arith in ap s q ∙ r
      overs_box (suc n) s j r = let q : suc n + j ≡ suc (n + j) = omega arith in ap (overs (suc n) s) q ∙ ap (rename suc) (overs_box n s j r)

  variable_holds : {e e' : ClosureEnv} {s : ℕ → BoxTerm} {i : ℕ} {h : Held} {v : ClosureValue} → Finds e i h → h ≡ Holds v → LikeEnv e e' s → VariableHolds e' (s i) v
  variable_holds found q (like_bind {w = w} l h) = still_holds 0 w refl found (subst (λ (x : ClosureValue). Like x w) (held_value_is q) l)
  variable_holds found q (like_skip h) = was_box refl (sym (held_value_is q))
  variable_holds (later g) q (like_bind l h) = later_holds (variable_holds g q h)
  variable_holds (later g) q (like_skip h) = variable_holds g q h
  variable_holds (found_fix j e) q (like_bind_fix h f) = absurd (cc)
  variable_holds {i = i} (past_fix j e g) q (like_bind_fix {s = s} h f) = past_holds s i j e (variable_holds g q h)

  record VariableDefines (e' : ClosureEnv) (t : BoxTerm) (d : ClosureEnv) (i : ℕ) (rargs : List ℕ) (bodies : BoxTerms) : Type 0 where
    j : ℕ
    d' : ClosureEnv
    r : ℕ → BoxTerm
    is : t ≡ Rel j
    finds : Finds e' j (Defines d' i rargs (substitute_terms r (cut_terms k p bodies)))
    like : LikeEnv d d' r
    fit : fits_terms k p bodies ≡ true

  variable_defines : {e e' d : ClosureEnv} {s : ℕ → BoxTerm} {i n : ℕ} {rargs : List ℕ} {bodies : BoxTerms} → Finds e i (Defines d n rargs bodies) → LikeEnv e e' s → VariableDefines e' (s i) d n rargs bodies
  variable_defines (later g) (like_bind l h) = let x = variable_defines g h in record { j = suc x.j; d' = x.d'; r = x.r; is = ap (rename suc) x.is; finds = later x.finds; like = x.like; fit = x.fit }
  variable_defines (later g) (like_skip h) = variable_defines g h
  variable_defines {i = i} (found_fix n e) (like_bind_fix {rargs = rargs} {s = s} h f) = record { j = i; d' = _; r = s; is = overs_below (length rargs) s i (omega (arith, e)); finds = found_fix n e; like = h; fit = f }
  variable_defines {i = i} (past_fix j e g) (like_bind_fix {rargs = rargs} {s = s} h f) =
      let x = variable_defines g h in
      record { j = length rargs + x.j; d' = x.d'; r = x.r; is = ap (overs (length rargs) s) e ∙ overs_past (length rargs) s j x.j x.is; finds = past_fix x.j refl x.finds; like = x.like; fit = x.fit }

  size_like : {vs ws : ClosureValues} → LikeAll vs ws → size ws ≡ size vs
  size_like like_none = refl
  size_like (like_more l ls) = ap suc (size_like ls)

  bind_like : {vs ws : ClosureValues} {e e' : ClosureEnv} {s : ℕ → BoxTerm} → LikeAll vs ws → LikeEnv e e' s → LikeEnv (bind_all vs e) (bind_all ws e') (overs (size vs) s)
  bind_like like_none h = h
  bind_like (like_more l ls) h = like_bind l (bind_like ls h)

  boxes_like : (n : ℕ) → LikeAll (box_values n) (box_values n)
  boxes_like zero = like_none
  boxes_like (suc n) = like_more like_box (boxes_like n)

  -- what a like value is

  record LikeClosure (e : ClosureEnv) (t : BoxTerm) (w : ClosureValue) : Type 0 where
    d : ClosureEnv
    s : ℕ → BoxTerm
    is : w ≡ VClosure d (substitute (over s) (cut k p t))
    like : LikeEnv e d s
    fit : fits k p [] t ≡ true

  closure_like : {e : ClosureEnv} {t : BoxTerm} {w : ClosureValue} → Like (VClosure e t) w → LikeClosure e t w
  closure_like (like_closure {e' = d} {s = s} h f) = record { d = d; s = s; is = refl; like = h; fit = f }

  record LikeFix (e : ClosureEnv) (i : ℕ) (rargs : List ℕ) (bodies : BoxTerms) (w : ClosureValue) : Type 0 where
    d : ClosureEnv
    s : ℕ → BoxTerm
    is : w ≡ VFix d i rargs (substitute_terms s (cut_terms k p bodies))
    like : LikeEnv e d s
    fit : fits_terms k p bodies ≡ true

  fix_like : {e : ClosureEnv} {i : ℕ} {rargs : List ℕ} {bodies : BoxTerms} {w : ClosureValue} → Like (VFix e i rargs bodies) w → LikeFix e i rargs bodies w
  fix_like (like_fix {e' = d} {s = s} h f) = record { d = d; s = s; is = refl; like = h; fit = f }

  record LikeConstruct (f : FamilyId) (i : ℕ) (vs : ClosureValues) (w : ClosureValue) : Type 0 where
    ws : ClosureValues
    is : w ≡ VConstruct f i ws
    like : LikeAll vs ws

  construct_like : {f : FamilyId} {i : ℕ} {vs : ClosureValues} {w : ClosureValue} → Like (VConstruct f i vs) w → LikeConstruct f i vs w
  construct_like (like_construct {ws = ws} h) = record { ws = ws; is = refl; like = h }

  box_like : {w : ClosureValue} → Like VBox w → w ≡ VBox
  box_like like_box = refl

  -- not a use of the constant with p arguments or fewer
  abbrev Plain : BoxTerm → Type 0
  Plain t = (q : ℕ) → q ≤ p → is_spine k t q ≡ false

  -- a term that fits with no arguments is plain
  plain_alone : (t : BoxTerm) → fits k p [] t ≡ true → Plain t
  plain_alone t f q l = either (is_spine k t q) refl
    where
      either : (z : Bool) → is_spine k t q ≡ z → z ≡ false
      either true e = let b = spine_box k p q (p - q) [] t (omega arith) e f in absurd (cc)
      either false e = refl

  module _ (P Q : BoxProgram) (families : Q.families ≡ P.families) (whole : BoxTerm) (whole_is : whole ≡ lambdas (suc p) t0)
      (bodies : (c : Name) (t : BoxTerm) → KeepsBoxConstant P c t → ((c.0 ≡ k) × (t ≡ whole) × KeepsBoxConstant Q c (lambdas p low)) ⊎ ((c.0 ≡ k → ⊥) × (fits k p [] t ≡ true) × KeepsBoxConstant Q c (cut k p t))) where
    pub record Ran (e' : ClosureEnv) (t : BoxTerm) (v : ClosureValue) (c : Counts) : Type 0 where
      pub w : ClosureValue
      pub counts : Counts
      pub run : ClosureRun Q e' t w counts
      pub like : Like v w
      pub no_more : AreNoMore counts c

    pub record RanArgs (e' : ClosureEnv) (f : FamilyId) (i : ℕ) (t : BoxTerm) (vs : ClosureValues) (c : Counts) : Type 0 where
      pub ws : ClosureValues
      pub counts : Counts
      pub run : RunArgs Q e' f i t ws counts
      pub like : LikeAll vs ws
      pub no_more : AreNoMore counts c

    -- where the body goes on, so does the use
    pub record Entered (e' : ClosureEnv) (t : BoxTerm) (w : ClosureValue) (n : ℕ) (c d : Counts) : Type 0 where
      pub counts : Counts
      pub run : ClosureRun Q e' t w counts
      pub no_more : AreNoMore (counts ⊕ block n) (c ⊕ d)

    -- a use of the constant that waits for m arguments and the box
    pub record Reached (e' : ClosureEnv) (t : BoxTerm) (v : ClosureValue) (c : Counts) (m : ℕ) : Type 0 where
      pub d : ClosureEnv
      pub d' : ClosureEnv
      pub like : LikeEnv d d' Rel
      pub is : v ≡ VClosure d (lambdas m t0)
      pub made : closure_words d (lambdas m t0) ≤ c.greatest
      pub enters : (w : ClosureValue) (x : Counts) → ClosureRun Q d' (lambdas m low) w x → Entered e' t w (closure_words d (lambdas m t0)) c x

    pub record Followed (e' : ClosureEnv) (s : ℕ → BoxTerm) (t : BoxTerm) (v : ClosureValue) (c : Counts) : Type 0 where
      pub ran : Plain t → Ran e' (substitute s (cut k p t)) v c
      pub reached : (q m : ℕ) → p ≡ q + m → is_spine k t q ≡ true → Reached e' (substitute s (cut k p t)) v c m

    family : {f : FamilyId} {F : BoxFamily} → KeepsBoxFamily P f F → KeepsBoxFamily Q f F
    family {f} {F} h = (subst (λ (Fs : List BoxFamily). Has Fs F) (sym families) h.0, h.1)

    alone : {e' : ClosureEnv} {s : ℕ → BoxTerm} {t : BoxTerm} {v : ClosureValue} {c : Counts} → ((q : ℕ) → is_spine k t q ≡ false) → Ran e' (substitute s (cut k p t)) v c → Followed e' s t v c
    alone never x = record { ran = λ h. x; reached = λ q m e y. absurd (false≢true (sym (never q) ∙ y)) }

    -- the constant itself
    constant_reached : {e' : ClosureEnv} {name : Name} {t : BoxTerm} {v : ClosureValue} {c : Counts} → name.0 ≡ k → t ≡ whole → KeepsBoxConstant Q name (lambdas p low) → ClosureRun P Empty t v c → (m : ℕ) → p ≡ 0 + m → Reached e' (BConst name) v (contraction ⊕ c) m
    constant_reached {e'} {name} {t} {v} {c} q is kept r m e =
        let x = lambda_runs r (is ∙ whole_is) in
        let same : p ≡ m = omega (arith, e) in
        record {
          d = Empty;
          d' = Empty;
          like = like_empty;
          is = x.is ∙ ap (λ n. VClosure Empty (lambdas n t0)) same;
          made = subst (λ (c : Counts). closure_words Empty (lambdas m t0) ≤ (contraction ⊕ c).greatest) (ap (λ n. block (closure_words Empty (lambdas n t0))) (sym same) ∙ sym x.made) (omega arith);
          enters = λ w y run. record {
            counts = contraction ⊕ y;
            run = run_constant kept (subst (λ n. ClosureRun Q Empty (lambdas n low) w y) (sym same) run);
            no_more = subst (λ (c : Counts). AreNoMore ((contraction ⊕ y) ⊕ block (closure_words Empty (lambdas m t0))) ((contraction ⊕ c) ⊕ y)) (ap (λ n. block (closure_words Empty (lambdas n t0))) (sym same) ∙ sym x.made)
                (record { contractions = omega arith; matches = omega arith; blocks = omega arith; greatest = omega arith });
          };
        }

    -- one argument more
    argument_reached : {e' : ClosureEnv} (f a : BoxTerm) (s : ℕ → BoxTerm) {d1 : ClosureEnv} {b : BoxTerm} {v w : ClosureValue} {c c' x : Counts} (m : ℕ) → Reached e' (substitute s (cut k p f)) (VClosure d1 b) c (suc m) → Ran e' (substitute s (cut k p a)) v c' →
        ClosureRun P (Bind v d1) b w x → Reached e' (BApp (substitute s (cut k p f)) (substitute s (cut k p a))) w (contraction ⊕ c ⊕ c' ⊕ x) m
    argument_reached {e' = e'} f a s {d1 = d1} {b = b} {v = v} {w = w} {c = c} {c' = c'} {x = x} m r g run =
        let env : d1 ≡ r.d = ap closure_env r.is in
        let body : b ≡ BLambda (lambdas m t0) = ap closure_body r.is in
        let made = lambda_runs run body in
        let n = closure_words (Bind v d1) (lambdas m t0) in
        let here : closure_words r.d' (lambdas m low) ≤ closure_words r.d (lambdas (suc m) t0) = lambdas_less m r.like in
        let old = r.made in
        record {
          d = Bind v d1;
          d' = Bind g.w r.d';
          like = subst (λ (s : ℕ → BoxTerm). LikeEnv (Bind v d1) (Bind g.w r.d') s) over_rel (like_bind g.like (subst (λ (d : ClosureEnv). LikeEnv d r.d' Rel) (sym env) r.like));
          is = made.is;
          made = subst (λ (x : Counts). n ≤ (contraction ⊕ c ⊕ c' ⊕ x).greatest) (sym made.made) (omega arith);
          enters = λ u y after.
              let z = r.enters (VClosure r.d' (lambdas m low)) (block (closure_words r.d' (lambdas m low))) run_lambda in
              record {
                counts = contraction ⊕ z.counts ⊕ g.counts ⊕ y;
                run = run_app z.run g.run after;
                no_more = subst (λ (x : Counts). AreNoMore ((contraction ⊕ z.counts ⊕ g.counts ⊕ y) ⊕ block n) ((contraction ⊕ c ⊕ c' ⊕ x) ⊕ y)) (sym made.made)
                    (record {
                      contractions = omega (arith, z.no_more.contractions, g.no_more.contractions);
                      matches = omega (arith, z.no_more.matches, g.no_more.matches);
                      blocks = omega (arith, z.no_more.blocks, g.no_more.blocks);
                      greatest = omega (arith, z.no_more.greatest, g.no_more.greatest, here, old);
                    });
              };
        }

    -- the box
    box_reached : {e' : ClosureEnv} (f : BoxTerm) (s : ℕ → BoxTerm) {d1 : ClosureEnv} {b : BoxTerm} {v w : ClosureValue} {c c' x : Counts} → (r : Reached e' (substitute s (cut k p f)) (VClosure d1 b) c 0) → RunsBox v c' →
        (Ran r.d' (substitute (put Box) (cut k p b)) w x) → Ran e' (substitute s (cut k p f)) w (contraction ⊕ c ⊕ c' ⊕ x)
    box_reached {e' = e'} f s {b = b} {w = w} {c = c} {c' = c'} {x = x} r box g =
        let body : b ≡ t0 = ap closure_body r.is in
        let term : substitute (put Box) (cut k p b) ≡ low = ap (λ t. substitute (put Box) (cut k p t)) body ∙ ap (substitute (put Box)) (cut_unused k p t0 none) in
        let z = r.enters g.w g.counts (subst (λ (t : BoxTerm). ClosureRun Q r.d' t g.w g.counts) term g.run) in
        record {
          w = g.w;
          counts = z.counts;
          run = z.run;
          like = g.like;
          no_more = subst (λ (c' : Counts). AreNoMore z.counts (contraction ⊕ c ⊕ c' ⊕ x)) (sym box.free)
              (record {
                contractions = omega (arith, z.no_more.contractions, g.no_more.contractions);
                matches = omega (arith, z.no_more.matches, g.no_more.matches);
                blocks = omega (arith, z.no_more.blocks, g.no_more.blocks);
                greatest = omega (arith, z.no_more.greatest, g.no_more.greatest);
              });
        }

    args_no_spine : {e : ClosureEnv} {f : FamilyId} {i : ℕ} {t : BoxTerm} {vs : ClosureValues} {c : Counts} → RunArgs P e f i t vs c → (q : ℕ) → is_spine k t q ≡ false
    args_no_spine run_head q = refl
    args_no_spine (run_arg r s) zero = refl
    args_no_spine (run_arg r s) (suc q) = args_no_spine r q

    -- an application whose function isn't the use with p arguments
    kept_app : {e' : ClosureEnv} (s : ℕ → BoxTerm) (f a : BoxTerm) {v : ClosureValue} {c : Counts} → is_spine k f p ≡ false → Ran e' (BApp (substitute s (cut k p f)) (substitute s (cut k p a))) v c → Ran e' (substitute s (cut k p (BApp f a))) v c
    kept_app {e' = e'} s f a {v = v} {c = c} e x = subst (λ z. Ran e' (substitute s (if z then cut k p f else BApp (cut k p f) (cut k p a))) v c) (sym e) x

    kept_reached : {e' : ClosureEnv} (s : ℕ → BoxTerm) (f a : BoxTerm) {v : ClosureValue} {c : Counts} {m : ℕ} → is_spine k f p ≡ false → Reached e' (BApp (substitute s (cut k p f)) (substitute s (cut k p a))) v c m → Reached e' (substitute s (cut k p (BApp f a))) v c m
    kept_reached {e' = e'} s f a {v = v} {c = c} {m = m} e x = subst (λ z. Reached e' (substitute s (if z then cut k p f else BApp (cut k p f) (cut k p a))) v c m) (sym e) x

    cut_app : {e' : ClosureEnv} (s : ℕ → BoxTerm) (f a : BoxTerm) {v : ClosureValue} {c : Counts} → is_spine k f p ≡ true → Ran e' (substitute s (cut k p f)) v c → Ran e' (substitute s (cut k p (BApp f a))) v c
    cut_app {e' = e'} s f a {v = v} {c = c} e x = subst (λ z. Ran e' (substitute s (if z then cut k p f else BApp (cut k p f) (cut k p a))) v c) (sym e) x

    -- the parts of an application: what it gives where its function waits for the box, and where it is no use of the constant
    application : {e' : ClosureEnv} {s : ℕ → BoxTerm} {f a : BoxTerm} {v u : ClosureValue} {c cf : Counts} → Followed e' s f u cf → (is_spine k f p ≡ true → Reached e' (substitute s (cut k p f)) u cf 0 → Ran e' (substitute s (cut k p f)) v c) →
        (Ran e' (substitute s (cut k p f)) u cf → Ran e' (BApp (substitute s (cut k p f)) (substitute s (cut k p a))) v c) →
        ((m : ℕ) → Reached e' (substitute s (cut k p f)) u cf (suc m) → Reached e' (BApp (substitute s (cut k p f)) (substitute s (cut k p a))) v c m) → Followed e' s (BApp f a) v c
    application {e' = e'} {s = s} {f = f} {a = a} {v = v} {c = c} x boxed plain more = record { ran = ran; reached = reached }
      where
        below : (q : ℕ) → q ≤ p → Plain (BApp f a) → is_spine k f p ≡ false → is_spine k f q ≡ false
        below q l h e = ⊎_elim (λ same. subst (λ n. is_spine k f n ≡ false) (sym same) e) (λ less. h (suc q) less) (cases q p l)
          where
            cases : (q p : ℕ) → q ≤ p → (q ≡ p) ⊎ (suc q ≤ p)
            cases zero zero l = inl refl
            cases zero (suc p) l = inr (omega arith)
            cases (suc q) zero l = absurd (omega arith)
            cases (suc q) (suc p) l = ⊎_elim (λ e. inl (ap suc e)) (λ m. inr (omega arith)) (cases q p (omega arith))

        ran : Plain (BApp f a) → Ran e' (substitute s (cut k p (BApp f a))) v c
        ran h = either (is_spine k f p) refl
          where
            either : (z : Bool) → is_spine k f p ≡ z → Ran e' (substitute s (cut k p (BApp f a))) v c
            either true e = cut_app s f a e (boxed e (x.reached p 0 (omega arith) e))
            either false e = kept_app s f a e (plain (x.ran (λ q l. below q l h e)))

        reached : (q m : ℕ) → p ≡ q + m → is_spine k (BApp f a) q ≡ true → Reached e' (substitute s (cut k p (BApp f a))) v c m
        reached zero m e y = absurd (cc)
        reached (suc q) m e y = kept_reached s f a (short (is_spine k f p) refl) (more m (x.reached q (suc m) (omega arith) y))
          where
            short : (z : Bool) → is_spine k f p ≡ z → z ≡ false
            short true g = absurd (omega (arith, one_spine k p f q p y g, e))
            short false g = refl

    mutual
      pub follows : {e e' : ClosureEnv} {s : ℕ → BoxTerm} {t : BoxTerm} {v : ClosureValue} {c : Counts} → ClosureRun P e t v c → LikeEnv e e' s → (xs : List BoxTerm) → fits k p xs t ≡ true → Followed e' s t v c
      follows run_box h xs f = alone (λ q. refl) (record { w = VBox; counts = nothing; run = run_box; like = like_box; no_more = no_more_self nothing })
      follows {e' = e'} {s = s} {v = v} (run_value {i = i} g) h xs f = alone (λ q. refl) (holds (variable_holds g refl h))
        where
          holds : VariableHolds e' (s i) v → Ran e' (s i) v nothing
          holds (still_holds j w q g l) = record { w = w; counts = nothing; run = subst (λ (t : BoxTerm). ClosureRun Q e' t w nothing) (sym q) (run_value g); like = l; no_more = no_more_self nothing }
          holds (was_box q r) = record { w = VBox; counts = nothing; run = subst (λ (t : BoxTerm). ClosureRun Q e' t VBox nothing) (sym q) run_box; like = subst (λ (x : ClosureValue). Like x VBox) (sym r) like_box; no_more = no_more_self nothing }
      follows {e' = e'} {s = s} (run_definition {i = i} {j = j} {rargs = rargs} {bodies = bs} g) h xs f =
          let x = variable_defines g h in
          let held = VFix x.d' j rargs (substitute_terms x.r (cut_terms k p bs)) in
          let cost = block (fix_words x.d' (substitute_terms x.r (cut_terms k p bs))) in
          alone (λ q. refl) (record { w = held; counts = cost; run = subst (λ (t : BoxTerm). ClosureRun Q e' t held cost) (sym x.is) (run_definition x.finds); like = like_fix x.like x.fit; no_more = block_less _ _ (fix_less bs x.like) })
      follows {e' = e'} {s = s} (run_lambda {b = b}) h xs f =
          alone (λ q. refl) (record { w = _; counts = _; run = run_lambda; like = like_closure h f; no_more = block_less (closure_words e' (substitute (over s) (cut k p b))) _ (closure_less b h) })
      follows {e' = e'} {s = s} (run_fix {bodies = bs}) h xs f =
          alone (λ q. refl) (record { w = _; counts = _; run = run_fix; like = like_fix h f; no_more = block_less (fix_words e' (substitute_terms s (cut_terms k p bs))) _ (fix_less bs h) })
      follows {e' = e'} {s = s} {v = v} (run_constant {k = name} {b = t} {c = c} kept r) h xs f =
          ⊎_elim
          (λ y. record {
            ran = λ h. absurd (not_true (h 0 (omega arith)) (eq-eqb name.0 k y.0));
            reached = λ q m e z. first_reached q m e z y.0 (constant_reached y.0 y.1 y.2 r);
          })
          (λ y.
          let x = (follows r like_empty [] y.1).ran (plain_alone t y.1) in
          record {
            ran = λ h. record { w = x.w; counts = contraction ⊕ x.counts; run = run_constant y.2 (subst (λ (u : BoxTerm). ClosureRun Q Empty u x.w x.counts) (unchanged (cut k p t)) x.run); like = x.like; no_more = no_more_sum (no_more_self contraction) x.no_more };
            reached = λ q m e z. absurd (y.0 (named q z));
          })
          (bodies name t kept)
        where
          unchanged : (u : BoxTerm) → substitute Rel u ≡ u
          unchanged u = substitute_rel u (λ j. j) ∙ rename_same u

          named : (q : ℕ) → is_spine k (BConst name) q ≡ true → name.0 ≡ k
          named zero z = eqb-true name.0 k z
          named (suc q) z = absurd (cc)

          first_reached : (q m : ℕ) → p ≡ q + m → is_spine k (BConst name) q ≡ true → name.0 ≡ k → ((m : ℕ) → p ≡ 0 + m → Reached e' (BConst name) v (contraction ⊕ c) m) → Reached e' (BConst name) v (contraction ⊕ c) m
          first_reached zero m e z y g = g m e
          first_reached (suc q) m e z y g = absurd (cc)
      follows (run_let {b = a} {t = t} r s) h xs f =
          let both = and_parts (fits k p [] a) (fits k p [] t) f in
          let x = (follows r h [] both.0).ran (plain_alone a both.0) in
          let y = (follows s (like_bind x.like h) [] both.1).ran (plain_alone t both.1) in
          alone (λ q. refl) (record { w = y.w; counts = contraction ⊕ x.counts ⊕ y.counts; run = run_let x.run y.run; like = y.like; no_more = no_more_sum (no_more_self contraction) (no_more_sum x.no_more y.no_more) })
      follows {e' = e'} {s = s} (run_app {e' = d1} {f = g} {a = a} {b = b} {v = u} r q z) h xs f =
          let both = and_parts (fits k p (a ∷ xs) g) (fits k p [] a) f in
          let x = follows r h (a ∷ xs) both.0 in
          let y = (follows q h [] both.1).ran (plain_alone a both.1) in
          application x
          (λ e w.
          let box = box_runs q (box_is_box a (spine_box k p p 0 (a ∷ xs) g (omega arith) e both.0)) in
          let env = subst (λ (x : ClosureValue). LikeEnv (Bind x d1) w.d' (put Box)) (sym box.is) (subst (λ (d : ClosureEnv). LikeEnv (Bind VBox d) w.d' (put Box)) (sym (ap closure_env w.is)) (like_skip w.like)) in
          let fit : fits k p [] b ≡ true = ap (fits k p []) (ap closure_body w.is) ∙ fits_unused k p [] t0 none in
          box_reached g s w box ((follows z env [] fit).ran (plain_alone b fit)))
          (λ w.
          let c = closure_like w.like in
          let n = (follows z (like_bind y.like c.like) [] c.fit).ran (plain_alone b c.fit) in
          record {
            w = n.w;
            counts = contraction ⊕ w.counts ⊕ y.counts ⊕ n.counts;
            run = run_app (subst (λ (u : ClosureValue). ClosureRun Q e' (substitute s (cut k p g)) u w.counts) c.is w.run) y.run n.run;
            like = n.like;
            no_more = no_more_sum (no_more_self contraction) (no_more_sum w.no_more (no_more_sum y.no_more n.no_more));
          })
          (λ m w. argument_reached g a s m w y z)
      follows {e' = e'} {s = s} (run_box_app {f = g} {a = a} r q) h xs f =
          let both = and_parts (fits k p (a ∷ xs) g) (fits k p [] a) f in
          let x = follows r h (a ∷ xs) both.0 in
          let y = (follows q h [] both.1).ran (plain_alone a both.1) in
          application x (λ e w. absurd (closure_not_box w.is))
          (λ w. record {
            w = VBox;
            counts = contraction ⊕ w.counts ⊕ y.counts;
            run = run_box_app (subst (λ (u : ClosureValue). ClosureRun Q e' (substitute s (cut k p g)) u w.counts) (box_like w.like) w.run) y.run;
            like = like_box;
            no_more = no_more_sum (no_more_self contraction) (no_more_sum w.no_more y.no_more);
          })
          (λ m w. absurd (closure_not_box w.is))
      follows {e' = e'} {s = s} (run_fix_app {e' = d} {f = g} {a = a} {b = t} {i = i} {rargs = rargs} {bodies = bs} r q at z) h xs f =
          let both = and_parts (fits k p (a ∷ xs) g) (fits k p [] a) f in
          let x = follows r h (a ∷ xs) both.0 in
          let y = (follows q h [] both.1).ran (plain_alone a both.1) in
          application x (λ e w. absurd (closure_not_fix w.is))
          (λ w.
          let c = fix_like w.like in
          let fit = fits_at k p bs i (length rargs) (BLambda t) c.fit at in
          let n = (follows z (like_bind y.like (like_bind_fix c.like c.fit)) [] fit).ran (plain_alone t fit) in
          record {
            w = n.w;
            counts = contraction ⊕ contraction ⊕ w.counts ⊕ y.counts ⊕ n.counts;
            run = run_fix_app (subst (λ (u : ClosureValue). ClosureRun Q e' (substitute s (cut k p g)) u w.counts) c.is w.run) y.run (cut_at k p c.s bs i (length rargs) (BLambda t) at) n.run;
            like = n.like;
            no_more = no_more_sum (no_more_self contraction) (no_more_sum (no_more_self contraction) (no_more_sum w.no_more (no_more_sum y.no_more n.no_more)));
          })
          (λ m w. absurd (closure_not_fix w.is))
      follows {e' = e'} {s = s} (run_fix_box {e' = d} {f = g} {a = a} {i = i} {rargs = rargs} {bodies = bs} r q at) h xs f =
          let both = and_parts (fits k p (a ∷ xs) g) (fits k p [] a) f in
          let x = follows r h (a ∷ xs) both.0 in
          let y = (follows q h [] both.1).ran (plain_alone a both.1) in
          application x (λ e w. absurd (closure_not_fix w.is))
          (λ w.
          let c = fix_like w.like in
          record {
            w = VBox;
            counts = contraction ⊕ contraction ⊕ w.counts ⊕ y.counts;
            run = run_fix_box (subst (λ (u : ClosureValue). ClosureRun Q e' (substitute s (cut k p g)) u w.counts) c.is w.run) y.run (cut_at k p c.s bs i (length rargs) Box at);
            like = like_box;
            no_more = no_more_sum (no_more_self contraction) (no_more_sum (no_more_self contraction) (no_more_sum w.no_more y.no_more));
          })
          (λ m w. absurd (closure_not_fix w.is))
      follows {s = s} (run_construct {t = t} kept at l r) h xs f =
          let x = follows_args r h xs f in
          alone (args_no_spine r) (record { w = _; counts = _; run = run_construct (family kept) at (size_like x.like ∙ l) x.run; like = like_construct x.like; no_more = no_more_sum x.no_more (no_more_self _) })
      follows {e' = e'} {s = s} (run_match {f = name} {i = i} {s = m} {t = t} {bs = bs} {vs = vs} kept prop r at q) h xs f =
          let both = and_parts (fits k p [] m) (fits_terms k p bs) f in
          let x = (follows r h [] both.0).ran (plain_alone m both.0) in
          let g = construct_like x.like in
          let fit = fits_at k p bs i (size vs) t both.1 at in
          let y = (follows q (bind_like g.like h) [] fit).ran (plain_alone t fit) in
          let here : term_at (substitute_terms s (cut_terms k p bs)) i ≡ Some (size g.ws, substitute (overs (size vs) s) (cut k p t)) = cut_at k p s bs i (size vs) t at ∙ ap (λ (n : ℕ). Some (n, substitute (overs (size vs) s) (cut k p t))) (sym (size_like g.like)) in
          alone (λ q. refl) (record {
            w = y.w;
            counts = entered_match ⊕ x.counts ⊕ y.counts;
            run = run_match (family kept) prop (subst (λ (u : ClosureValue). ClosureRun Q e' (substitute s (cut k p m)) u x.counts) g.is x.run) here y.run;
            like = y.like;
            no_more = no_more_sum (no_more_self entered_match) (no_more_sum x.no_more y.no_more);
          })
      follows {e' = e'} {s = s} (run_only {k = n} {s = m} {t = t} kept prop r q) h xs f =
          let both = and_parts (fits k p [] m) (fits_terms k p (Next n t Done)) f in
          let x = (follows r h [] both.0).ran (plain_alone m both.0) in
          let fit = (and_parts (fits k p [] t) true both.1).0 in
          let y = (follows q (bind_like (boxes_like n) h) [] fit).ran (plain_alone t fit) in
          let run = subst (λ (i : ℕ). ClosureRun Q (bind_all (box_values n) e') (substitute (overs i s) (cut k p t)) y.w y.counts) (box_values_size n) y.run in
          alone (λ q. refl) (record {
            w = y.w;
            counts = entered_match ⊕ x.counts ⊕ y.counts;
            run = run_only (family kept) prop (subst (λ (u : ClosureValue). ClosureRun Q e' (substitute s (cut k p m)) u x.counts) (box_like x.like) x.run) run;
            like = y.like;
            no_more = no_more_sum (no_more_self entered_match) (no_more_sum x.no_more y.no_more);
          })

      pub follows_args : {e e' : ClosureEnv} {s : ℕ → BoxTerm} {f : FamilyId} {i : ℕ} {t : BoxTerm} {vs : ClosureValues} {c : Counts} → RunArgs P e f i t vs c → LikeEnv e e' s → (xs : List BoxTerm) → fits k p xs t ≡ true → RanArgs e' f i (substitute s (cut k p t)) vs c
      follows_args run_head h xs f = record { ws = NoValue; counts = nothing; run = run_head; like = like_none; no_more = no_more_self nothing }
      follows_args {e' = e'} {s = s} {f = name} {i = i} {vs = vs} {c = c} (run_arg {t = g} {a = a} r q) h xs f =
          let both = and_parts (fits k p (a ∷ xs) g) (fits k p [] a) f in
          let x = follows_args r h (a ∷ xs) both.0 in
          let y = (follows q h [] both.1).ran (plain_alone a both.1) in
          subst (λ z. RanArgs e' name i (substitute s (if z then cut k p g else BApp (cut k p g) (cut k p a))) vs c) (sym (args_no_spine r p))
          (record { ws = _; counts = _; run = run_arg x.run y.run; like = like_more y.like x.like; no_more = no_more_sum x.no_more y.no_more })

    -- data stands for itself, and what is like data is the same data

    mutual
      reads_like : {v w : ClosureValue} {d : Data} → ValueReads v d → Like v w → ValueReads w d
      reads_like (value_reads {f = f} {c = c} {ds = ds} r) (like_construct {ws = ws} l) = subst (λ (n : ℕ). ValueReads (VConstruct f c ws) ((c, n) ∷ ds)) (size_like l) (value_reads (read_like r l))

      read_like : {vs ws : ClosureValues} {ds : Data} → ValuesRead vs ds → LikeAll vs ws → ValuesRead ws ds
      read_like no_values like_none = no_values
      read_like (and_then r s) (like_more l ls) = and_then (read_like r ls) (reads_like s l)

    mutual
      data_like : {v : ClosureValue} {d : Data} → ValueReads v d → Like v v
      data_like (value_reads r) = like_construct (all_data_like r)

      all_data_like : {vs : ClosureValues} {ds : Data} → ValuesRead vs ds → LikeAll vs vs
      all_data_like no_values = like_none
      all_data_like (and_then r s) = like_more (data_like s) (all_data_like r)

    held_like : {vs : ClosureValues} {args : List Data} → ValuesHold vs args → LikeAll vs vs
    held_like hold_none = like_none
    held_like (hold_last hs h) = like_more (data_like h) (held_like hs)

    -- more arguments do no harm
    fits_further : (t : BoxTerm) (xs ys : List BoxTerm) → fits k p xs t ≡ true → fits k p (xs ++ ys) t ≡ true
    fits_further (Rel i) xs ys e = refl
    fits_further Box xs ys e = refl
    fits_further (BLambda b) xs ys e = e
    fits_further (BLetIn a t) xs ys e = e
    fits_further (BApp f a) xs ys e =
        let both = and_parts (fits k p (a ∷ xs) f) (fits k p [] a) e in and_from (fits k p (a ∷ xs ++ ys) f) (fits k p [] a) (fits_further f (a ∷ xs) ys both.0) both.1
    fits_further (BConst c) xs ys e = either (nat_eq c.0 k) e
      where
        either : (z : Bool) → (if z then box_at p xs else true) ≡ true → (if z then box_at p (xs ++ ys) else true) ≡ true
        either true e = box_further p xs ys e
        either false e = refl
    fits_further (BConstruct f c) xs ys e = refl
    fits_further (BCase f s bs) xs ys e = e
    fits_further (BFix i rargs bodies) xs ys e = e

    one_more_fits : (n : ℕ) (t : BoxTerm) → fits k p [] t ≡ true → fits k p [] (BApp t (Rel n)) ≡ true
    one_more_fits n t e = and_from (fits k p (Rel n ∷ []) t) true (fits_further t [] (Rel n ∷ []) e) refl

    spine_fits : (n : ℕ) (t : BoxTerm) → fits k p [] t ≡ true → fits k p [] (box_apply t (innermost n)) ≡ true
    spine_fits zero t e = e
    spine_fits (suc n) t e = spine_fits n (BApp t (Rel n)) (one_more_fits n t e)

    spine_cut : (n : ℕ) (t : BoxTerm) → fits k p [] t ≡ true → cut k p (box_apply t (innermost n)) ≡ box_apply (cut k p t) (innermost n)
    spine_cut zero t e = refl
    spine_cut (suc n) t e =
        spine_cut n (BApp t (Rel n)) (one_more_fits n t e)
        ∙ ap (λ z. box_apply (if z then cut k p t else BApp (cut k p t) (Rel n)) (innermost n)) (plain_alone t e p (omega arith))

    pub keeps_runs : (main : BoxTerm) → fits k p [] main ≡ true → (vs : ClosureValues) (args : List Data) → ValuesHold vs args → (v : ClosureValue) (d : Data) (c : Counts) →
        ClosureRun P (bind_all vs Empty) (box_apply main (innermost (length args))) v c → ValueReads v d → RunsWithin Q (bind_all vs Empty) (box_apply (cut k p main) (innermost (length args))) d c
    keeps_runs main fit vs args held v d c run reads =
        let n = length args in
        let all = spine_fits n main fit in
        let env = subst (λ (s : ℕ → BoxTerm). LikeEnv (bind_all vs Empty) (bind_all vs Empty) s) (overs_rel_same (size vs)) (bind_like (held_like held) like_empty) in
        let x = (follows run env [] all).ran (plain_alone (box_apply main (innermost n)) all) in
        let whole : substitute Rel (cut k p (box_apply main (innermost n))) ≡ box_apply (cut k p main) (innermost n) = substitute_rel (cut k p (box_apply main (innermost n))) (λ j. j) ∙ rename_same (cut k p (box_apply main (innermost n))) ∙ spine_cut n main fit in
        record { v = x.w; counts = x.counts; run = subst (λ (t : BoxTerm). ClosureRun Q (bind_all vs Empty) t x.w x.counts) whole x.run; reads = reads_like reads x.like; no_more = x.no_more }
