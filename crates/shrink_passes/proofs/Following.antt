-- Evaluation with environments follows a step of inlining: a closed body gives the same in its use's environment as in the empty one.
use Rattle.std.proofs.Common.{◌≡◌, ℕ, zero, suc, ◌+◌, ◌<◌, ◌≤◌, Bool, true, false, ◌&&◌, ◌||◌, List, ◌∷◌, length, Some, refl, sym, ap, ◌∙◌, subst, arith, ◌⊎◌, ⊎_elim}
use Rattle.std.specs.Prelude.{nat_eq, if◌then◌else◌}
use Rattle.std.proofs.lemmas.Bool.{eq-eqb, or_from, and_right}
use Rattle.std.proofs.lemmas.Option.{same_Some}
use Rattle.trees.specs.Tree.{Slot, Rel, Node, Places, End, Child, Group, Done, Next, term_at}
use Rattle.trees.specs.Closed.{Closed, ClosedChildren, ClosedTerms}
use Rattle.trees.proofs.Bounds.{closed_at}
use Rattle.pc_terms.specs.declared.leaf.Name.{Name}
use Rattle.pc_terms.specs.declared.leaf.FamilyId.{FamilyId}
use Rattle.box_terms.specs.BoxSyntax.{BoxLabel, box_slots, BoxTerm, BoxTerms, Box, BLambda, BLetIn, BApp, BConst, BConstruct, BCase, BFix}
use Rattle.lambda_box.specs.BoxProgram.{BoxFamily, BoxProgram, Has, KeepsBoxConstant, KeepsBoxFamily, box_apply}
use Rattle.lambda_box.specs.ClosureEvaluation.{names, names_places, names_terms, ClosureValue, VBox, VConstruct, VClosure, VFix, ClosureValues, NoValue, Then, ClosureEnv, Empty, Bind, BindFix, size, bind_all, box_values, Held, Holds, Defines, Finds, found, later, found_fix, past_fix, one_if, any_below, words, Counts, nothing, contraction, entered_match, block, ◌⊕◌, ClosureRun, run_box, run_value, run_definition, run_lambda, run_fix, run_constant, run_let, run_app, run_box_app, run_fix_app, run_fix_box, run_construct, run_match, run_only, RunArgs, run_head, run_arg, ValueReads, value_reads, ValuesRead, no_values, and_then}
use Rattle.lambda_box.specs.BoxData.{Data}
use Rattle.lambda_box.specs.DataTerms.{ValuesHold, hold_none, hold_last}
use Rattle.lambda_box.proofs.Spines.{closed_term_at}
use Rattle.box_passes.specs.Saturate.{innermost}
use Rattle.box_passes.proofs.Widths.{words_none}
use Rattle.box_passes.proofs.Filling.{box_values_size}
use Rattle.box_passes.proofs.SaturatedWidths.{held_count}
use Rattle.shrink_passes.specs.Uses.{uses}
use Rattle.shrink_passes.specs.Inline.{put_in, put_in_terms}
use Rattle.shrink_passes.specs.ShrinkLaws.{AreNoMore, RunsWithin}
use Rattle.shrink_passes.proofs.Putting.{unused}
use Rattle.shrink_passes.proofs.Forming.{closed_more}

-- a closed term names no variable past its bound

other_number : (j i : ℕ) → j < i → nat_eq j i ≡ false
other_number j i l = grind (arith, l)

mutual
  pub names_past : (n : ℕ) (t : BoxTerm) (i : ℕ) → Closed n t → n ≤ i → names t i ≡ false
  names_past n (Rel j) i c l = other_number j i (omega (arith, c))
  names_past n (Node lab ts) i c l = names_past_places n ts i c l

  pub names_past_places : (n : ℕ) {ss : List Slot} (ts : Places BoxLabel box_slots ss) (i : ℕ) → ClosedChildren n ts → n ≤ i → names_places ts i ≡ false
  names_past_places n End i c l = refl
  names_past_places n (Child {n = m} t ts) i c l = or_from (names t (m + i)) (names_places ts i) (names_past (m + n) t (m + i) c.0 (omega arith)) (names_past_places n ts i c.1 l)
  names_past_places n (Group us ts) i c l = or_from (names_terms us i) (names_places ts i) (names_past_terms n us i c.0 l) (names_past_places n ts i c.1 l)

  pub names_past_terms : (n : ℕ) (ts : BoxTerms) (i : ℕ) → ClosedTerms n ts → n ≤ i → names_terms ts i ≡ false
  names_past_terms n Done i c l = refl
  names_past_terms n (Next m t ts) i c l = or_from (names t (m + i)) (names_terms ts i) (names_past (m + n) t (m + i) c.0 (omega arith)) (names_past_terms n ts i c.1 l)

-- how many variables an environment has
abbrev pub span : ClosureEnv → ℕ
span Empty = 0
span (Bind v e) = 1 + span e
span (BindFix rargs bodies e) = length rargs + span e

pub span_bind : (vs : ClosureValues) (e : ClosureEnv) → span (bind_all vs e) ≡ size vs + span e
span_bind NoValue e = omega arith
span_bind (Then v vs) e = omega (arith, span_bind vs e)

-- counts

pub no_more_self : (c : Counts) → AreNoMore c c
no_more_self c = record { contractions = omega arith; matches = refl; blocks = omega arith; greatest = omega arith }

pub no_more_trans : {a b c : Counts} → AreNoMore a b → AreNoMore b c → AreNoMore a c
no_more_trans h g = record {
  contractions = omega (arith, h.contractions, g.contractions);
  matches = h.matches ∙ g.matches;
  blocks = omega (arith, h.blocks, g.blocks);
  greatest = omega (arith, h.greatest, g.greatest);
}

pub no_more_sum : {a b c d : Counts} → AreNoMore a b → AreNoMore c d → AreNoMore (a ⊕ c) (b ⊕ d)
no_more_sum h g = record {
  contractions = omega (arith, h.contractions, g.contractions);
  matches = omega (arith, h.matches, g.matches);
  blocks = omega (arith, h.blocks, g.blocks);
  greatest = omega (arith, h.greatest, g.greatest);
}

pub no_more_after : {a b : Counts} → AreNoMore a b → AreNoMore a (contraction ⊕ b)
no_more_after h = record {
  contractions = omega (arith, h.contractions);
  matches = omega (arith, h.matches);
  blocks = omega (arith, h.blocks);
  greatest = omega (arith, h.greatest);
}

block_same : (n m : ℕ) → n ≡ m → AreNoMore (block n) (block m)
block_same n m e = subst (λ x. AreNoMore (block n) (block x)) e (no_more_self (block n))

module _ (k : ℕ) (b : BoxTerm) (closed : Closed 0 b) (none : uses k b ≡ 0) where
  -- the variables that a term names stay

  mutual
    pub names_put : (t : BoxTerm) (i : ℕ) → names (put_in k b t) i ≡ names t i
    names_put (Rel j) i = refl
    names_put Box i = refl
    names_put (BLambda t) i = ap (λ x. x || false) (names_put t (1 + i))
    names_put (BLetIn a t) i = λ j. names_put a (0 + i) j || (names_put t (1 + i) j || false)
    names_put (BApp f a) i = λ j. names_put f (0 + i) j || (names_put a (0 + i) j || false)
    names_put (BConst c) i = either (nat_eq c.0 k)
      where
        either : (z : Bool) → names (if z then b else BConst c) i ≡ false
        either true = names_past 0 b i closed (omega arith)
        either false = refl
    names_put (BConstruct f c) i = refl
    names_put (BCase f s bs) i = λ j. names_put s (0 + i) j || (names_put_terms bs i j || false)
    names_put (BFix m rargs bodies) i = ap (λ x. x || false) (names_put_terms bodies i)

    pub names_put_terms : (ts : BoxTerms) (i : ℕ) → names_terms (put_in_terms k b ts) i ≡ names_terms ts i
    names_put_terms Done i = refl
    names_put_terms (Next n t ts) i = λ j. names_put t (n + i) j || names_put_terms ts i j

  pub put_at : (ts : BoxTerms) (i n : ℕ) (t : BoxTerm) → term_at ts i ≡ Some (n, t) → term_at (put_in_terms k b ts) i ≡ Some (n, put_in k b t)
  put_at Done i n t e = absurd (cc)
  put_at (Next m u ts) zero n t e = ap (λ p. Some (p.0, put_in k b p.1)) (same_Some _ _ e)
  put_at (Next m u ts) (suc i) n t e = put_at ts i n t e

  -- values and environments that differ by the step; past an empty environment anything may stand
  mutual
    pub data Like : ClosureValue → ClosureValue → Type 0 where
      like_box : Like VBox VBox
      like_construct : {f : FamilyId} {c : ℕ} {vs ws : ClosureValues} → LikeAll vs ws → Like (VConstruct f c vs) (VConstruct f c ws)
      like_closure : {e e' : ClosureEnv} {t : BoxTerm} → LikeEnv e e' → Closed (1 + span e) t → Like (VClosure e t) (VClosure e' (put_in k b t))
      like_fix : {e e' : ClosureEnv} {i : ℕ} {rargs : List ℕ} {bodies : BoxTerms} → LikeEnv e e' → ClosedTerms (span e) bodies → Like (VFix e i rargs bodies) (VFix e' i rargs (put_in_terms k b bodies))

    pub data LikeAll : ClosureValues → ClosureValues → Type 0 where
      like_none : LikeAll NoValue NoValue
      like_more : {v w : ClosureValue} {vs ws : ClosureValues} → Like v w → LikeAll vs ws → LikeAll (Then v vs) (Then w ws)

    pub data LikeEnv : ClosureEnv → ClosureEnv → Type 0 where
      like_empty : {e' : ClosureEnv} → LikeEnv Empty e'
      like_bind : {v w : ClosureValue} {e e' : ClosureEnv} → Like v w → LikeEnv e e' → LikeEnv (Bind v e) (Bind w e')
      like_bind_fix : {rargs : List ℕ} {bodies : BoxTerms} {e e' : ClosureEnv} → ClosedTerms (span e) bodies → LikeEnv e e' → LikeEnv (BindFix rargs bodies e) (BindFix rargs (put_in_terms k b bodies) e')

  words_like : {e e' : ClosureEnv} → LikeEnv e e' → (N M : ℕ → Bool) → ((i : ℕ) → N i ≡ M i) → ((i : ℕ) → span e ≤ i → N i ≡ false) → words e' N ≡ words e M
  words_like (like_empty {e'}) N M same past = words_none e' N (λ i. past i (omega arith))
  words_like (like_bind v h) N M same past = let a : one_if (N zero) ≡ one_if (M zero) = ap one_if (same zero) in omega (arith, a, words_like h (λ i. N (suc i)) (λ i. M (suc i)) (λ i. same (suc i)) (λ i l. past (suc i) (omega arith)))
  words_like (like_bind_fix {rargs} {bodies} {e} c h) N M same past =
      words_like h (λ i. N (length rargs + i) || (any_below (length rargs) N && names_terms (put_in_terms k b bodies) i)) (λ i. M (length rargs + i) || (any_below (length rargs) M && names_terms bodies i))
      (λ i j. same (length rargs + i) j || (below (length rargs) j && names_put_terms bodies i j))
      (λ i l. or_from (N (length rargs + i)) (any_below (length rargs) N && names_terms (put_in_terms k b bodies) i) (past (length rargs + i) (omega arith))
      (and_right (any_below (length rargs) N) (names_terms (put_in_terms k b bodies) i) (names_put_terms bodies i ∙ names_past_terms (span e) bodies i c l)))
    where
      below : (n : ℕ) → any_below n N ≡ any_below n M
      below zero = refl
      below (suc n) = λ j. same n j || below n j

  -- what a variable holds
  record FindsHolds (e' : ClosureEnv) (i : ℕ) (v : ClosureValue) : Type 0 where
    w : ClosureValue
    finds : Finds e' i (Holds w)
    like : Like v w

  finds_holds : {e e' : ClosureEnv} {i : ℕ} {h : Held} {v : ClosureValue} → Finds e i h → h ≡ Holds v → LikeEnv e e' → FindsHolds e' i v
  finds_holds found q (like_bind {w = w} l h) = record { w = w; finds = found; like = subst (λ (x : ClosureValue). Like x w) (held q) l }
    where
      held : {x y : ClosureValue} → Holds x ≡ Holds y → x ≡ y
      held q = grind arith
  finds_holds (later g) q (like_bind l h) = let r = finds_holds g q h in record { w = r.w; finds = later r.finds; like = r.like }
  finds_holds (found_fix j p) q (like_bind_fix c h) = absurd (cc)
  finds_holds (past_fix j p g) q (like_bind_fix c h) = let r = finds_holds g q h in record { w = r.w; finds = past_fix j p r.finds; like = r.like }

  record FindsDefines (e' e : ClosureEnv) (i j : ℕ) (rargs : List ℕ) (bodies : BoxTerms) : Type 0 where
    d : ClosureEnv
    finds : Finds e' i (Defines d j rargs (put_in_terms k b bodies))
    like : LikeEnv e d
    under : ClosedTerms (span e) bodies

  finds_defines : {e e' d : ClosureEnv} {i j : ℕ} {rargs : List ℕ} {bodies : BoxTerms} → Finds e i (Defines d j rargs bodies) → LikeEnv e e' → FindsDefines e' d i j rargs bodies
  finds_defines (later g) (like_bind l h) = let r = finds_defines g h in record { d = r.d; finds = later r.finds; like = r.like; under = r.under }
  finds_defines (found_fix j p) (like_bind_fix c h) = record { d = _; finds = found_fix j p; like = h; under = c }
  finds_defines (past_fix j p g) (like_bind_fix c h) = let r = finds_defines g h in record { d = r.d; finds = past_fix j p r.finds; like = r.like; under = r.under }

  size_like : {vs ws : ClosureValues} → LikeAll vs ws → size ws ≡ size vs
  size_like like_none = refl
  size_like (like_more l ls) = ap suc (size_like ls)

  bind_like : {vs ws : ClosureValues} {e e' : ClosureEnv} → LikeAll vs ws → LikeEnv e e' → LikeEnv (bind_all vs e) (bind_all ws e')
  bind_like like_none h = h
  bind_like (like_more l ls) h = like_bind l (bind_like ls h)

  boxes_like : (n : ℕ) → LikeAll (box_values n) (box_values n)
  boxes_like zero = like_none
  boxes_like (suc n) = like_more like_box (boxes_like n)

  -- what a like value is

  record LikeClosure (e : ClosureEnv) (t : BoxTerm) (w : ClosureValue) : Type 0 where
    d : ClosureEnv
    is : w ≡ VClosure d (put_in k b t)
    like : LikeEnv e d
    under : Closed (1 + span e) t

  closure_like : {e : ClosureEnv} {t : BoxTerm} {w : ClosureValue} → Like (VClosure e t) w → LikeClosure e t w
  closure_like (like_closure h c) = record { d = _; is = refl; like = h; under = c }

  record LikeFix (e : ClosureEnv) (i : ℕ) (rargs : List ℕ) (bodies : BoxTerms) (w : ClosureValue) : Type 0 where
    d : ClosureEnv
    is : w ≡ VFix d i rargs (put_in_terms k b bodies)
    like : LikeEnv e d
    under : ClosedTerms (span e) bodies

  fix_like : {e : ClosureEnv} {i : ℕ} {rargs : List ℕ} {bodies : BoxTerms} {w : ClosureValue} → Like (VFix e i rargs bodies) w → LikeFix e i rargs bodies w
  fix_like (like_fix h c) = record { d = _; is = refl; like = h; under = c }

  record LikeConstruct (f : FamilyId) (i : ℕ) (vs : ClosureValues) (w : ClosureValue) : Type 0 where
    ws : ClosureValues
    is : w ≡ VConstruct f i ws
    like : LikeAll vs ws

  construct_like : {f : FamilyId} {i : ℕ} {vs : ClosureValues} {w : ClosureValue} → Like (VConstruct f i vs) w → LikeConstruct f i vs w
  construct_like (like_construct h) = record { ws = _; is = refl; like = h }

  box_of_like : {w : ClosureValue} → Like VBox w → w ≡ VBox
  box_of_like like_box = refl

  module _ (P Q : BoxProgram) (families : Q.families ≡ P.families) (bodies : (c : Name) (t : BoxTerm) → KeepsBoxConstant P c t → Closed 0 t × (((c.0 ≡ k) × (t ≡ b)) ⊎ ((c.0 ≡ k → ⊥) × KeepsBoxConstant Q c (put_in k b t)))) where
    pub record Ran (e' : ClosureEnv) (t : BoxTerm) (v : ClosureValue) (c : Counts) : Type 0 where
      pub w : ClosureValue
      pub counts : Counts
      pub run : ClosureRun Q e' t w counts
      pub like : Like v w
      pub no_more : AreNoMore counts c

    pub record RanArgs (e' : ClosureEnv) (f : FamilyId) (i : ℕ) (t : BoxTerm) (vs : ClosureValues) (c : Counts) : Type 0 where
      pub ws : ClosureValues
      pub counts : Counts
      pub run : RunArgs Q e' f i t ws counts
      like : LikeAll vs ws
      pub no_more : AreNoMore counts c

    family : {f : FamilyId} {F : BoxFamily} → KeepsBoxFamily P f F → KeepsBoxFamily Q f F
    family {f} {F} h = (subst (λ (Fs : List BoxFamily). Has Fs F) (sym families) h.0, h.1)

    under_none : (m : ℕ) (t : BoxTerm) → Closed (0 + m) t → Closed m t
    under_none m t c = closed_at t (omega arith) c

    mutual
      pub follows : {e e' : ClosureEnv} {t : BoxTerm} {v : ClosureValue} {c : Counts} → ClosureRun P e t v c → LikeEnv e e' → Closed (span e) t → Ran e' (put_in k b t) v c
      follows run_box h c = record { w = VBox; counts = nothing; run = run_box; like = like_box; no_more = no_more_self nothing }
      follows (run_value f) h c = let r = finds_holds f refl h in record { w = r.w; counts = nothing; run = run_value r.finds; like = r.like; no_more = no_more_self nothing }
      follows (run_definition {e' = d} {bodies = bs} f) h c =
          let r = finds_defines f h in
          let same : words r.d (λ i. names_terms (put_in_terms k b bs) i) ≡ words d (λ i. names_terms bs i) =
          words_like r.like (λ i. names_terms (put_in_terms k b bs) i) (λ i. names_terms bs i) (names_put_terms bs) (λ i l. names_put_terms bs i ∙ names_past_terms (span d) bs i r.under l) in
          record { w = _; counts = _; run = run_definition r.finds; like = like_fix r.like r.under; no_more = block_same _ _ (ap suc same) }
      follows (run_lambda {e} {b = t}) h c =
          let same = words_like h (λ i. names (put_in k b t) (suc i)) (λ i. names t (suc i)) (λ i. names_put t (suc i)) (λ i l. names_put t (suc i) ∙ names_past (1 + span e) t (suc i) c.0 (omega arith)) in
          record { w = _; counts = _; run = run_lambda; like = like_closure h c.0; no_more = block_same _ _ (ap suc same) }
      follows (run_fix {e} {bodies = bs}) h c =
          let same = words_like h (λ i. names_terms (put_in_terms k b bs) i) (λ i. names_terms bs i) (names_put_terms bs) (λ i l. names_put_terms bs i ∙ names_past_terms (span e) bs i c.0 l) in
          record { w = _; counts = _; run = run_fix; like = like_fix h c.0; no_more = block_same _ _ (ap suc same) }
      follows {e' = e'} {v = v} (run_constant {k = name} {b = t} {c = c'} kept r) h c =
          let known = bodies name t kept in
          ⊎_elim
          (λ p. let x = follows r (like_empty {e' = e'}) known.0 in
          let here : put_in k b (BConst name) ≡ put_in k b t = ap (λ z. if z then b else BConst name) (eq-eqb name.0 k p.0) ∙ sym (ap (put_in k b) p.1 ∙ unused k b b none) in
          record { w = x.w; counts = x.counts; run = subst (λ u. ClosureRun Q e' u x.w x.counts) (sym here) x.run; like = x.like; no_more = no_more_after x.no_more })
          (λ p. let x = follows r (like_empty {e' = Empty}) known.0 in
          let here : put_in k b (BConst name) ≡ BConst name = ap (λ z. if z then b else BConst name) (differs name.0 p.0) in
          record { w = x.w; counts = contraction ⊕ x.counts; run = subst (λ u. ClosureRun Q e' u x.w (contraction ⊕ x.counts)) (sym here) (run_constant p.1 x.run); like = x.like; no_more = no_more_sum (no_more_self contraction) x.no_more })
          known.1
        where
          differs : (x : ℕ) → (x ≡ k → ⊥) → nat_eq x k ≡ false
          differs x h = grind (arith, h)
      follows {e = e} (run_let {b = a} {t = t} r s) h c =
          let x = follows r h (under_none (span e) a c.0) in
          let y = follows s (like_bind x.like h) c.1.0 in
          record { w = y.w; counts = contraction ⊕ x.counts ⊕ y.counts; run = run_let x.run y.run; like = y.like; no_more = no_more_sum (no_more_self contraction) (no_more_sum x.no_more y.no_more) }
      follows {e = e} {e' = e'} (run_app {f = f} {a = a} r s q) h c =
          let x = follows r h (under_none (span e) f c.0) in
          let y = follows s h (under_none (span e) a c.1.0) in
          let g = closure_like x.like in
          let z = follows q (like_bind y.like g.like) g.under in
          record {
            w = z.w;
            counts = contraction ⊕ x.counts ⊕ y.counts ⊕ z.counts;
            run = run_app (subst (λ (u : ClosureValue). ClosureRun Q e' (put_in k b f) u x.counts) g.is x.run) y.run z.run;
            like = z.like;
            no_more = no_more_sum (no_more_self contraction) (no_more_sum x.no_more (no_more_sum y.no_more z.no_more));
          }
      follows {e = e} {e' = e'} (run_box_app {f = f} {a = a} r s) h c =
          let x = follows r h (under_none (span e) f c.0) in
          let y = follows s h (under_none (span e) a c.1.0) in
          record {
            w = VBox;
            counts = contraction ⊕ x.counts ⊕ y.counts;
            run = run_box_app (subst (λ (u : ClosureValue). ClosureRun Q e' (put_in k b f) u x.counts) (box_of_like x.like) x.run) y.run;
            like = like_box;
            no_more = no_more_sum (no_more_self contraction) (no_more_sum x.no_more y.no_more);
          }
      follows {e = e} {e' = e'} (run_fix_app {e' = d} {f = f} {a = a} {b = t} {i = i} {rargs = rargs} {bodies = bs} r s at q) h c =
          let x = follows r h (under_none (span e) f c.0) in
          let y = follows s h (under_none (span e) a c.1.0) in
          let g = fix_like x.like in
          let body = closed_term_at (span d) bs i (length rargs) (BLambda t) g.under at in
          let z = follows q (like_bind y.like (like_bind_fix g.under g.like)) body.0 in
          record {
            w = z.w;
            counts = contraction ⊕ contraction ⊕ x.counts ⊕ y.counts ⊕ z.counts;
            run = run_fix_app (subst (λ (u : ClosureValue). ClosureRun Q e' (put_in k b f) u x.counts) g.is x.run) y.run (put_at bs i (length rargs) (BLambda t) at) z.run;
            like = z.like;
            no_more = no_more_sum (no_more_self contraction) (no_more_sum (no_more_self contraction) (no_more_sum x.no_more (no_more_sum y.no_more z.no_more)));
          }
      follows {e = e} {e' = e'} (run_fix_box {e' = d} {f = f} {a = a} {i = i} {rargs = rargs} {bodies = bs} r s at) h c =
          let x = follows r h (under_none (span e) f c.0) in
          let y = follows s h (under_none (span e) a c.1.0) in
          let g = fix_like x.like in
          record {
            w = VBox;
            counts = contraction ⊕ contraction ⊕ x.counts ⊕ y.counts;
            run = run_fix_box (subst (λ (u : ClosureValue). ClosureRun Q e' (put_in k b f) u x.counts) g.is x.run) y.run (put_at bs i (length rargs) Box at);
            like = like_box;
            no_more = no_more_sum (no_more_self contraction) (no_more_sum (no_more_self contraction) (no_more_sum x.no_more y.no_more));
          }
      follows (run_construct kept at l r) h c =
          let x = follows_args r h c in
          record { w = _; counts = _; run = run_construct (family kept) at (size_like x.like ∙ l) x.run; like = like_construct x.like; no_more = no_more_sum x.no_more (no_more_self _) }
      follows {e = e} {e' = e'} (run_match {i = i} {s = s} {t = t} {bs = bs} {vs = vs} kept p r at q) h c =
          let x = follows r h (under_none (span e) s c.0) in
          let g = construct_like x.like in
          let body = closed_term_at (span e) bs i (size vs) t c.1.0 at in
          let y = follows q (bind_like g.like h) (closed_more t body (omega (arith, span_bind vs e))) in
          let here : term_at (put_in_terms k b bs) i ≡ Some (size g.ws, put_in k b t) = put_at bs i (size vs) t at ∙ ap (λ (n : ℕ). Some (n, put_in k b t)) (sym (size_like g.like)) in
          record {
            w = y.w;
            counts = entered_match ⊕ x.counts ⊕ y.counts;
            run = run_match (family kept) p (subst (λ (u : ClosureValue). ClosureRun Q e' (put_in k b s) u x.counts) g.is x.run) here y.run;
            like = y.like;
            no_more = no_more_sum (no_more_self entered_match) (no_more_sum x.no_more y.no_more);
          }
      follows {e = e} {e' = e'} (run_only {k = n} {s = s} {t = t} kept p r q) h c =
          let x = follows r h (under_none (span e) s c.0) in
          let y = follows q (bind_like (boxes_like n) h) (closed_more t c.1.0.0 (omega (arith, span_bind (box_values n) e, box_values_size n))) in
          record {
            w = y.w;
            counts = entered_match ⊕ x.counts ⊕ y.counts;
            run = run_only (family kept) p (subst (λ (u : ClosureValue). ClosureRun Q e' (put_in k b s) u x.counts) (box_of_like x.like) x.run) y.run;
            like = y.like;
            no_more = no_more_sum (no_more_self entered_match) (no_more_sum x.no_more y.no_more);
          }

      pub follows_args : {e e' : ClosureEnv} {f : FamilyId} {i : ℕ} {t : BoxTerm} {vs : ClosureValues} {c : Counts} → RunArgs P e f i t vs c → LikeEnv e e' → Closed (span e) t → RanArgs e' f i (put_in k b t) vs c
      follows_args run_head h c = record { ws = NoValue; counts = nothing; run = run_head; like = like_none; no_more = no_more_self nothing }
      follows_args {e = e} (run_arg {t = f} {a = a} r s) h c =
          let x = follows_args r h (under_none (span e) f c.0) in
          let y = follows s h (under_none (span e) a c.1.0) in
          record { ws = _; counts = _; run = run_arg x.run y.run; like = like_more y.like x.like; no_more = no_more_sum x.no_more y.no_more }

    -- data stands for itself, and what is like data is the same data

    mutual
      pub reads_like : {v w : ClosureValue} {d : Data} → ValueReads v d → Like v w → ValueReads w d
      reads_like (value_reads {f = f} {c = c} {ds = ds} r) (like_construct {ws = ws} l) = subst (λ (n : ℕ). ValueReads (VConstruct f c ws) ((c, n) ∷ ds)) (size_like l) (value_reads (read_like r l))

      read_like : {vs ws : ClosureValues} {ds : Data} → ValuesRead vs ds → LikeAll vs ws → ValuesRead ws ds
      read_like no_values like_none = no_values
      read_like (and_then r s) (like_more l ls) = and_then (read_like r ls) (reads_like s l)

    mutual
      pub data_like : {v : ClosureValue} {d : Data} → ValueReads v d → Like v v
      data_like (value_reads r) = like_construct (all_data_like r)

      all_data_like : {vs : ClosureValues} {ds : Data} → ValuesRead vs ds → LikeAll vs vs
      all_data_like no_values = like_none
      all_data_like (and_then r s) = like_more (data_like s) (all_data_like r)

    pub held_like : {vs : ClosureValues} {args : List Data} → ValuesHold vs args → LikeAll vs vs
    held_like hold_none = like_none
    held_like (hold_last hs h) = like_more (data_like h) (held_like hs)

    spine_put : (n : ℕ) (f : BoxTerm) → put_in k b (box_apply f (innermost n)) ≡ box_apply (put_in k b f) (innermost n)
    spine_put zero f = refl
    spine_put (suc n) f = spine_put n (BApp f (Rel n))

    spine_closed : (n m : ℕ) (f : BoxTerm) → n ≤ m → Closed m f → Closed m (box_apply f (innermost n))
    spine_closed zero m f l c = c
    spine_closed (suc n) m f l c = spine_closed n m (BApp f (Rel n)) (omega arith) (closed_at f (omega arith) c, (omega arith, tt))

    pub keeps_runs : (main : BoxTerm) → Closed 0 main → (vs : ClosureValues) (args : List Data) → ValuesHold vs args → (v : ClosureValue) (d : Data) (c : Counts) →
        ClosureRun P (bind_all vs Empty) (box_apply main (innermost (length args))) v c → ValueReads v d → RunsWithin Q (bind_all vs Empty) (box_apply (put_in k b main) (innermost (length args))) d c
    keeps_runs main closed_main vs args held v d c run reads =
        let n = length args in
        let whole : Closed (span (bind_all vs Empty)) (box_apply main (innermost n)) = closed_more (box_apply main (innermost n)) (spine_closed n n main (omega arith) (closed_more main closed_main (omega arith))) (omega (arith, span_bind vs Empty, held_count held)) in
        let x = follows run (bind_like (held_like held) (like_empty {e' = Empty})) whole in
        record { v = x.w; counts = x.counts; run = subst (λ (t : BoxTerm). ClosureRun Q (bind_all vs Empty) t x.w x.counts) (spine_put n main) x.run; reads = reads_like reads x.like; no_more = x.no_more }
