-- The places that the walk at the start notes are those that the steps drop, one by one.
use Rattle.std.proofs.Common.{◌≡◌, ℕ, zero, suc, ◌+◌, ◌-◌, ◌<◌, ◌≤◌, Bool, true, false, ◌&&◌, List, [], ◌∷◌, Option, Some, None, refl, sym, ap, ◌∙◌, subst, arith, ⊎_elim}
use Rattle.std.specs.Prelude.{nat_eq, if◌then◌else◌, reverse}
use Rattle.std.proofs.lemmas.Bool.{cases_lt, eqb-true, eq-eqb, and_parts, false≢true}
use Rattle.std.proofs.Math.Bool.{and_assoc, and-true}
use mathlib.Core.Path.{fun_ext}
use Rattle.trees.specs.Tree.{Rel, Done, Next}
use Rattle.trees.specs.Parallel.{first, over, substitute}
use Rattle.trees.specs.Closed.{Closed}
use Rattle.trees.proofs.Put.{substitute_same}
use Rattle.box_terms.specs.BoxSyntax.{BoxTerm, BoxTerms, Box, BLambda, BLetIn, BApp, BConst, BConstruct, BCase, BFix}
use Rattle.lambda_box.specs.BoxProgram.{BoxConstant, BoxFamily, BoxProgram, Has, here, there}
use Rattle.lambda_box.specs.BoxForm.{AreOrdered, IsBoxProgram}
use Rattle.box_passes.specs.Saturate.{lambdas}
use Rattle.shrink_passes.specs.declared.noting.Use.{Use}
use Rattle.shrink_passes.specs.Uses.{uses, total}
use Rattle.shrink_passes.specs.Inline.{changed, standing, stands}
use Rattle.shrink_passes.specs.DropParams.{fits, fits_constants, cut, leading, is_unused, without_lambda, with_constant, is_dead, without_params, drop_from, drop_program}
use Rattle.shrink_passes.specs.DeadPlaces.{is_below, is_unnamed, is_candidate, is_dead_place, spine}
use Rattle.shrink_passes.specs.Pruned.{is_dropped, pruned, pruned_terms, pruned_constant, unwrapped}
use Rattle.shrink_passes.proofs.Forming.{Fresh, Apart, apart_from, done_ordered, done_apart, named_unused, ordered_unused, body_form, body_unused, Later, later}
use Rattle.shrink_passes.proofs.Deciding.{start_program}
use Rattle.shrink_passes.proofs.Cutting.{fits_unused}
use Rattle.shrink_passes.specs.ShrinkLaws.{Shrinks}
use Rattle.shrink_passes.proofs.DropSteps.{params_steps, step, drop_is_right}
use Rattle.shrink_passes.proofs.Thinning.{Thins, thins_rel, thins_over, thins_first}
use Rattle.shrink_passes.proofs.Flagging.{nat_eq_no, below_true, below_false}
use Rattle.shrink_passes.proofs.UnusedPlaces.{unused_past, unused_leads}
use Rattle.shrink_passes.proofs.Spines.{kept_below, kept_more, kept_same, kept_agree}
use Rattle.shrink_passes.proofs.Cuts.{Boxes, boxes_of_fits, pruned_closed, pruned_leading, pruned_unused, pruned_uses, pruned_same, fits_pruned, cut_pruned}
use Rattle.shrink_passes.proofs.Unwrapped.{lambdas_more, unused_under, without_under, put_over, over_unnamed}

-- what a body of no leading lambdas becomes
unwrapped_none : (E : ℕ → Bool) (p : ℕ) (s : ℕ → BoxTerm) (t : BoxTerm) → leading t ≡ 0 → substitute s t ≡ unwrapped E p s t
unwrapped_none E p s (BLambda b) e = absurd (omega (arith, e))
unwrapped_none E p s t e = refl

candidate_fresh : (k q : ℕ) (ds : List BoxConstant) (z : Bool) → Fresh k ds → is_candidate k q ds z ≡ z
candidate_fresh k q [] z f = refl
candidate_fresh k q (d ∷ ds) z f = candidate_fresh k q ds (if nat_eq d.name.0 k then is_unused q d.body else z) f.1 ∙ ap (λ y. if y then is_unused q d.body else z) (nat_eq_no d.name.0 k f.0)

-- bodies that change one by one
abbrev fits_mapped : ℕ → ℕ → (BoxTerm → BoxTerm) → List BoxConstant → Bool
fits_mapped k p f [] = true
fits_mapped k p f (d ∷ ds) = fits k p [] (f d.body) && fits_mapped k p f ds

fits_standing : (k p : ℕ) (f : BoxTerm → BoxTerm) (rest done : List BoxConstant) → fits_constants k p done ≡ true → fits_constants k p (standing f rest done) ≡ fits_mapped k p f rest
fits_standing k p f rest done all = whole rest done ∙ ap (λ z. fits_mapped k p f rest && z) all ∙ and-true (fits_mapped k p f rest)
  where
    turn : (x y z : Bool) → (x && (y && z)) ≡ ((y && x) && z)
    turn true true z = refl
    turn true false z = refl
    turn false true z = refl
    turn false false z = refl

    whole : (rest done : List BoxConstant) → fits_constants k p (standing f rest done) ≡ (fits_mapped k p f rest && fits_constants k p done)
    whole [] done = refl
    whole (d ∷ rest) done = whole rest (changed f d ∷ done) ∙ turn (fits_mapped k p f rest) (fits k p [] (f d.body)) (fits_constants k p done)

all_fit_unused : (k p : ℕ) (cs : List BoxConstant) → total (uses k) cs ≡ 0 → fits_constants k p cs ≡ true
all_fit_unused k p [] e = refl
all_fit_unused k p (c ∷ cs) e = λ i. fits_unused k p [] c.body (omega (arith, e)) i && all_fit_unused k p cs (omega (arith, e)) i

-- the constants of a list as they become, put before those that are done, the newest first
abbrev pub through : (ℕ → ℕ → Bool) → List BoxConstant → List BoxConstant → List BoxConstant
through T [] done = done
through T (d ∷ rest) done = through T rest (pruned_constant T d ∷ done)

-- of each constant of a list, what the noted places are, the constants after it being those that use it
abbrev pub Known : (ℕ → ℕ → Bool) → BoxTerm → List BoxConstant → Type 0
Known T main [] = Unit {0}
Known T main (d ∷ rest) = ((q : ℕ) → T d.name.0 q ≡ ((is_unused q d.body && fits_constants d.name.0 q rest) && fits d.name.0 q [] main)) × Known T main rest

module _ (T : ℕ → ℕ → Bool) (Fs : List BoxFamily) (main : BoxTerm) where
  later_unused : (done : List BoxConstant) (f : BoxTerm → BoxTerm) (d : BoxConstant) (rest : List BoxConstant) (ok : IsBoxProgram (stands Fs done f (d ∷ rest) main)) (es : List BoxConstant) → Later Fs done f d rest main ok es →
      {e : BoxConstant} → Has es e → uses e.name.0 (f d.body) ≡ 0
  later_unused done f d rest ok [] l h = elim h [ ]
  later_unused done f d rest ok (x ∷ es) l here = l.1
  later_unused done f d rest ok (x ∷ es) l (there h) = later_unused done f d rest ok es l.2 h

  later_other : (done : List BoxConstant) (f : BoxTerm → BoxTerm) (d : BoxConstant) (rest : List BoxConstant) (ok : IsBoxProgram (stands Fs done f (d ∷ rest) main)) (es : List BoxConstant) → Later Fs done f d rest main ok es →
      {e : BoxConstant} → Has es e → e.name.0 ≡ d.name.0 → ⊥
  later_other done f d rest ok [] l h = elim h [ ]
  later_other done f d rest ok (x ∷ es) l here = l.0
  later_other done f d rest ok (x ∷ es) l (there h) = later_other done f d rest ok es l.2 h

  later_fresh : (done : List BoxConstant) (f : BoxTerm → BoxTerm) (d : BoxConstant) (rest : List BoxConstant) (ok : IsBoxProgram (stands Fs done f (d ∷ rest) main)) (es : List BoxConstant) → Later Fs done f d rest main ok es → Fresh d.name.0 es
  later_fresh done f d rest ok [] l = tt
  later_fresh done f d rest ok (x ∷ es) l = (l.0, later_fresh done f d rest ok es l.2)

  used_fresh : (done : List BoxConstant) (f : BoxTerm → BoxTerm) (d : BoxConstant) (rest : List BoxConstant) (ok : IsBoxProgram (stands Fs done f (d ∷ rest) main)) (es : List BoxConstant) → Later Fs done f d rest main ok es →
      (j : ℕ) → 1 ≤ uses j (f d.body) → Fresh j es
  used_fresh done f d rest ok [] l j u = tt
  used_fresh done f d rest ok (x ∷ es) l j u = ((λ e. let q : uses j (f d.body) ≡ 0 = ap (λ n. uses n (f d.body)) (sym e) ∙ l.1 in omega (arith, q, u)), used_fresh done f d rest ok es l.2 j u)

  known_from : (done es : List BoxConstant) → IsBoxProgram (stands Fs done (λ t. t) es main) → (z : ℕ → ℕ → Bool) →
      ((e : BoxConstant) → Has es e → (q : ℕ) → T e.name.0 q ≡ ((is_candidate e.name.0 q es (z e.name.0 q) && fits_constants e.name.0 q es) && fits e.name.0 q [] main)) → Known T main es
  known_from done [] ok z h = tt
  known_from done (d ∷ es) ok z h =
      (own, known_from (changed (λ t. t) d ∷ done) es ok (λ k q. if nat_eq d.name.0 k then is_unused q d.body else z k q) next)
    where
      after : Later Fs done (λ t. t) d es main ok es
      after = later Fs done (λ t. t) d es main ok

      own : (q : ℕ) → T d.name.0 q ≡ ((is_unused q d.body && fits_constants d.name.0 q es) && fits d.name.0 q [] main)
      own q =
          let k = d.name.0 in
          let c : is_candidate k q (d ∷ es) (z k q) ≡ is_unused q d.body = candidate_fresh k q es (if nat_eq k k then is_unused q d.body else z k q) (later_fresh done (λ t. t) d es ok es after) ∙ ap (λ y. if y then is_unused q d.body else z k q) (eq-eqb k k refl) in
          let b = fits_unused k q [] d.body (body_unused Fs done (λ t. t) d es main ok) in
          h d here q ∙ (λ i. (c i && (b i && fits_constants k q es)) && fits k q [] main)

      next : (e : BoxConstant) → Has es e → (q : ℕ) → T e.name.0 q ≡ ((is_candidate e.name.0 q es (if nat_eq d.name.0 e.name.0 then is_unused q d.body else z e.name.0 q) && fits_constants e.name.0 q es) && fits e.name.0 q [] main)
      next e g q =
          let k = e.name.0 in
          let b = fits_unused k q [] d.body (later_unused done (λ t. t) d es ok es after g) in
          h e (there g) q ∙ (λ i. (is_candidate k q es (if nat_eq d.name.0 k then is_unused q d.body else z k q) && (b i && fits_constants k q es)) && fits k q [] main)

  -- the program as it stands, where D has the places that were dropped
  pub record Stage (D : ℕ → ℕ → Bool) (done rest : List BoxConstant) : Type 0 where
    pub form : IsBoxProgram (stands Fs done (pruned D) rest main)
    pub inside : (j r : ℕ) → D j r ≡ true → T j r ≡ true
    pub agree : (j : ℕ) → Fresh j rest → (r : ℕ) → D j r ≡ T j r
    pub out : {e : BoxConstant} → Has rest e → (r : ℕ) → D e.name.0 r ≡ false
    pub known : Known T main rest
    pub fitting : (j r : ℕ) → T j r ≡ true → fits_constants j r rest ≡ true

  module _ (main_fits : (j r : ℕ) → T j r ≡ true → fits j r [] main ≡ true) where
    module _ (D : ℕ → ℕ → Bool) (done : List BoxConstant) (d : BoxConstant) (rest : List BoxConstant) (S : Stage D done (d ∷ rest)) where
      abbrev k : ℕ
      k = d.name.0

      -- with those places of d that are below q
      abbrev upto : ℕ → ℕ → ℕ → Bool
      upto q j r = if nat_eq j k then (if is_below r q then T k r else false) else D j r

      -- and with all of them
      abbrev after : ℕ → ℕ → Bool
      after j r = if nat_eq j k then T k r else D j r

      abbrev P : ℕ → ℕ
      P q = kept_below (T k) q

      here_upto : (q r : ℕ) → upto q k r ≡ (if is_below r q then T k r else false)
      here_upto q r = ap (λ z. if z then (if is_below r q then T k r else false) else D k r) (eq-eqb k k refl)

      upto_out : (q : ℕ) → upto q k q ≡ false
      upto_out q = here_upto q q ∙ ap (λ z. if z then T k q else false) (below_false q q (omega arith))

      upto_kept : (q : ℕ) → kept_below (upto q k) q ≡ P q
      upto_kept q = kept_agree (upto q k) (T k) q (λ p l. here_upto q p ∙ ap (λ z. if z then T k p else false) (below_true p q l))

      upto_inside : (q j r : ℕ) → upto q j r ≡ true → T j r ≡ true
      upto_inside q j r = either (nat_eq j k) refl
        where
          below : (z : Bool) → (if z then T k r else false) ≡ true → T k r ≡ true
          below true e = e
          below false e = absurd (false≢true e)

          either : (z : Bool) → nat_eq j k ≡ z → (if z then (if is_below r q then T k r else false) else D j r) ≡ true → T j r ≡ true
          either true e g = ap (λ n. T n r) (eqb-true j k e) ∙ below (is_below r q) g
          either false e g = S.inside j r g

      upto_boxes : (q : ℕ) (t : BoxTerm) → ((j r : ℕ) → T j r ≡ true → fits j r [] t ≡ true) → Boxes (upto q) t
      upto_boxes q t h = boxes_of_fits (upto q) t (λ j r e. h j r (upto_inside q j r e))

      next_below : (r q : ℕ) → (r ≡ q → ⊥) → is_below r (suc q) ≡ is_below r q
      next_below r q h = ⊎_elim
          (λ l. below_true r (suc q) (omega (arith, l)) ∙ sym (below_true r q l))
          (λ l. ⊎_elim (λ g. absurd (h (omega (arith, g, l)))) (λ g. below_false r (suc q) g ∙ sym (below_false r q l)) (cases_lt r (suc q))) (cases_lt r q)

      upto_more : (q : ℕ) → T k q ≡ true → (j r : ℕ) → upto (suc q) j r ≡ (if nat_eq j k then (if nat_eq r q then true else upto q j r) else upto q j r)
      upto_more q t j r = either (nat_eq j k)
        where
          own : (z : Bool) → nat_eq r q ≡ z → (if is_below r (suc q) then T k r else false) ≡ (if z then true else (if is_below r q then T k r else false))
          own true e = let g = eqb-true r q e in ap (λ z. if z then T k r else false) (below_true r (suc q) (omega (arith, g))) ∙ ap (T k) g ∙ t
          own false e = ap (λ z. if z then T k r else false) (next_below r q (λ g. false≢true (sym e ∙ eq-eqb r q g)))

          either : (z : Bool) → (if z then (if is_below r (suc q) then T k r else false) else D j r) ≡
              (if z then (if nat_eq r q then true else (if z then (if is_below r q then T k r else false) else D j r)) else (if z then (if is_below r q then T k r else false) else D j r))
          either true = own (nat_eq r q) refl
          either false = refl

      upto_same : (q : ℕ) → T k q ≡ false → (j r : ℕ) → upto q j r ≡ upto (suc q) j r
      upto_same q t j r = ap (λ x. if nat_eq j k then x else D j r) (own (nat_eq r q) refl)
        where
          own : (z : Bool) → nat_eq r q ≡ z → (if is_below r q then T k r else false) ≡ (if is_below r (suc q) then T k r else false)
          own true e =
              let g = eqb-true r q e in
              ap (λ z. if z then T k r else false) (below_false r q (omega (arith, g))) ∙ sym (ap (λ z. if z then T k r else false) (below_true r (suc q) (omega (arith, g))) ∙ ap (T k) g ∙ t)
          own false e = sym (ap (λ z. if z then T k r else false) (next_below r q (λ g. false≢true (sym e ∙ eq-eqb r q g))))

      same_table : (x y : ℕ → ℕ → Bool) → ((j r : ℕ) → x j r ≡ y j r) → x ≡ y
      same_table x y e = fun_ext (λ j. fun_ext (e j))

      abbrev now : ℕ → BoxTerm → BoxProgram
      now q b = with_constant Fs done d b (pruned (upto q)) rest main

      fits_rest : (q : ℕ) (es : List BoxConstant) → ((j r : ℕ) → T j r ≡ true → fits_constants j r es ≡ true) → fits_mapped k (kept_below (upto q k) q) (pruned (upto q)) es ≡ fits_constants k q es
      fits_rest q [] h = refl
      fits_rest q (e ∷ es) h =
          let fit = fits_pruned (upto q) k q (upto_out q) e.body (upto_boxes q e.body (λ j r t. (and_parts (fits j r [] e.body) (fits_constants j r es) (h j r t)).0)) in
          λ i. fit i && fits_rest q es (λ j r t. (and_parts (fits j r [] e.body) (fits_constants j r es) (h j r t)).1) i

      rest_fit : (j r : ℕ) → T j r ≡ true → fits_constants j r rest ≡ true
      rest_fit j r t = (and_parts (fits j r [] d.body) (fits_constants j r rest) (S.fitting j r t)).1

      own_fits : (q : ℕ) (b : BoxTerm) → IsBoxProgram (now q b) → fits_constants k (P q) (record { name = d.name; body = b } ∷ done) ≡ true
      own_fits q b ok =
          let f = pruned (upto q) in
          let old : BoxConstant = record { name = d.name; body = b } in
          let ordered : AreOrdered Fs (old ∷ done) = done_ordered f Fs rest (old ∷ done) ok.constants in
          let own : Apart (old ∷ done) = done_apart f rest (old ∷ done) (apart_from (standing f rest (old ∷ done)) ok.distinct_constants) in
          let one = fits_unused k (P q) [] b (named_unused k done own.0 b ordered.0.named) in
          λ i. one i && all_fit_unused k (P q) done (ordered_unused k Fs done ordered.1 own.0) i

      decision : (q : ℕ) (s : ℕ → BoxTerm) → Thins s → (r : BoxTerm) → is_unused q d.body ≡ is_unnamed 0 r → IsBoxProgram (now q (lambdas (P q) (substitute s (BLambda r)))) →
          is_dead Fs done d (P q) (lambdas (P q) (substitute s (BLambda r))) (pruned (upto q)) rest main ≡ T k q
      decision q s th r u ok =
          let b = lambdas (P q) (substitute s (BLambda r)) in
          let f = pruned (upto q) in
          let unused : is_unused (P q) b ≡ is_unused q d.body = unused_under (P q) (substitute (over s) r) ∙ over_unnamed s th r ∙ sym u in
          let others : fits_constants k (P q) (standing f rest (record { name = d.name; body = b } ∷ done)) ≡ fits_constants k q rest =
          fits_standing k (P q) f rest (record { name = d.name; body = b } ∷ done) (own_fits q b ok) ∙ ap (λ n. fits_mapped k n f rest) (sym (upto_kept q)) ∙ fits_rest q rest rest_fit in
          let whole : fits k (P q) [] (f main) ≡ fits k q [] main = ap (λ n. fits k n [] (f main)) (sym (upto_kept q)) ∙ fits_pruned (upto q) k q (upto_out q) main (upto_boxes q main main_fits) in
          (λ i. unused i && (others i && whole i)) ∙ sym (and_assoc (is_unused q d.body) (fits_constants k q rest) (fits k q [] main)) ∙ sym (S.known.0 q)

      -- the term inside leading lambdas is that of the body
      abbrev Inside : ℕ → BoxTerm → Type 0
      Inside q r = (p : ℕ) → is_unused (q + p) d.body ≡ is_unused p r

      next_inside : (q : ℕ) (r : BoxTerm) → Inside q (BLambda r) → Inside (suc q) r
      next_inside q r u p = let e : suc q + p ≡ q + suc p = omega arith in ap (λ n. is_unused n d.body) e ∙ u (suc p)

      first_inside : (q : ℕ) (r : BoxTerm) → Inside q (BLambda r) → is_unused q d.body ≡ is_unnamed 0 r
      first_inside q r u = let e : q ≡ q + 0 = omega arith in ap (λ n. is_unused n d.body) e ∙ u 0

      all_upto : (q : ℕ) (r : BoxTerm) → leading r ≡ 0 → Inside q r → (j p : ℕ) → upto q j p ≡ after j p
      all_upto q r l u j p = ap (λ x. if nat_eq j k then x else D j p) (⊎_elim
          (λ lt. ap (λ z. if z then T k p else false) (below_true p q lt))
          (λ le. ap (λ z. if z then T k p else false) (below_false p q le) ∙ sym (none le)) (cases_lt p q))
        where
          none : q ≤ p → T k p ≡ false
          none le =
              let e : p ≡ q + (p - q) = omega (arith, le) in
              let no : is_unused p d.body ≡ false = ap (λ n. is_unused n d.body) e ∙ u (p - q) ∙ unused_past (p - q) r (omega (arith, l)) in
              S.known.0 p ∙ ap (λ z. (z && fits_constants k p rest) && fits k p [] main) no

      abbrev Going : Type 0
      Going = ℕ × BoxTerm × (BoxTerm → BoxTerm)

      abbrev steps : ℕ → Going → BoxTerm × (BoxTerm → BoxTerm)
      steps n g = without_params Fs done d rest main n g.0 g.1 g.2

      abbrev GoingForm : Going → Type 0
      GoingForm g = IsBoxProgram (with_constant Fs done d g.1 g.2 rest main)

      abbrev at : ℕ → (ℕ → BoxTerm) → BoxTerm → Going
      at q s r = (P q, lambdas (P q) (substitute s r), pruned (upto q))

      abbrev end : ℕ → BoxTerm → BoxTerm × (BoxTerm → BoxTerm)
      end n t = (lambdas n t, pruned after)

      abbrev losing : ℕ → (ℕ → BoxTerm) → BoxTerm → Going
      losing q s r = (P q, without_lambda (P q) (lambdas (P q) (substitute s (BLambda r))), (λ t. cut k (P q) (pruned (upto q) t)))

      abbrev keeping : ℕ → (ℕ → BoxTerm) → BoxTerm → Going
      keeping q s r = (suc (P q), lambdas (P q) (substitute s (BLambda r)), pruned (upto q))

      gone : (q : ℕ) (s : ℕ → BoxTerm) (r : BoxTerm) → T k q ≡ true →
          ◌≡◌ {A = Going} (losing q s r) (at (suc q) (first Box s) r)
      gone q s r dead =
          let n : P q ≡ P (suc q) = sym (kept_same (T k) q dead) in
          let b : without_lambda (P q) (lambdas (P q) (substitute s (BLambda r))) ≡ lambdas (P (suc q)) (substitute (first Box s) r) =
          without_under (P q) (substitute (over s) r) ∙ ap (lambdas (P q)) (put_over s r) ∙ ap (λ n. lambdas n (substitute (first Box s) r)) n in
          let f : ◌≡◌ {A = BoxTerm → BoxTerm} (λ t. cut k (P q) (pruned (upto q) t)) (pruned (upto (suc q))) =
          fun_ext (λ t. ap (λ n. cut k n (pruned (upto q) t)) (sym (upto_kept q)) ∙ cut_pruned (upto q) k q (upto_out q) (upto (suc q)) (upto_more q dead) t) in
          λ i. (n i, b i, f i)

      passed : (q : ℕ) (s : ℕ → BoxTerm) (r : BoxTerm) → T k q ≡ false → ◌≡◌ {A = Going} (keeping q s r) (at (suc q) (over s) r)
      passed q s r t =
          let n : suc (P q) ≡ P (suc q) = sym (kept_more (T k) q t) in
          let b : lambdas (P q) (substitute s (BLambda r)) ≡ lambdas (P (suc q)) (substitute (over s) r) = lambdas_more (P q) (substitute (over s) r) ∙ ap (λ n. lambdas n (substitute (over s) r)) n in
          let f = ap pruned (same_table (upto q) (upto (suc q)) (upto_same q t)) in
          λ i. (n i, b i, f i)

      abbrev Ends : ℕ → ℕ → (ℕ → BoxTerm) → BoxTerm → Bool → Type 0
      Ends n q s r z = (if is_dead Fs done d (P q) (lambdas (P q) (substitute s (BLambda r))) (pruned (upto q)) rest main then steps n (losing q s r) else steps n (keeping q s r)) ≡
          end (P q) (if z then unwrapped (T k) (suc q) (first Box s) r else BLambda (unwrapped (T k) (suc q) (over s) r))

      params : (n q : ℕ) (s : ℕ → BoxTerm) (r : BoxTerm) → leading r ≡ n → Thins s → Inside q r → GoingForm (at q s r) → steps n (at q s r) ≡ end (P q) (unwrapped (T k) q s r)
      params zero q s r l th u ok =
          let f = ap pruned (same_table (upto q) after (all_upto q r l u)) in
          λ i. (lambdas (P q) (unwrapped_none (T k) q s r l i), f i)
      params (suc n) q s (BLambda r) l th u ok =
          let dead = decision q s th r (first_inside q r u) ok in
          either (T k q) refl
          (λ t.
          let g = gone q s r t in
          let form : GoingForm (losing q s r) = (step Fs done d rest main (P q) (lambdas (P q) (substitute s (BLambda r))) (pruned (upto q)) ok (dead ∙ t)).form in
          ap (λ z. if z then steps n (losing q s r) else steps n (keeping q s r)) (dead ∙ t) ∙ ap (steps n) g
          ∙ params n (suc q) (first Box s) r (omega (arith, l)) (thins_first th) (next_inside q r u) (subst GoingForm g form)
          ∙ ap (λ m. end m (unwrapped (T k) (suc q) (first Box s) r)) (kept_same (T k) q t))
          (λ t.
          let g = passed q s r t in
          let y = unwrapped (T k) (suc q) (over s) r in
          let m : lambdas (P (suc q)) y ≡ lambdas (P q) (BLambda y) = ap (λ m. lambdas m y) (kept_more (T k) q t) ∙ sym (lambdas_more (P q) y) in
          ap (λ z. if z then steps n (losing q s r) else steps n (keeping q s r)) (dead ∙ t) ∙ ap (steps n) g
          ∙ params n (suc q) (over s) r (omega (arith, l)) (thins_over th) (next_inside q r u) (subst GoingForm g ok)
          ∙ (λ i. (m i, pruned after)))
        where
          either : (z : Bool) → T k q ≡ z → (T k q ≡ true → Ends n q s r true) → (T k q ≡ false → Ends n q s r false) → Ends n q s r z
          either true t f g = f t
          either false t f g = g t
      params (suc n) q s r l th u ok = absurd (omega (arith, l))

      -- the constant

      body_boxes : Boxes D d.body
      body_boxes = boxes_of_fits D d.body (λ j r e. (and_parts (fits j r [] d.body) (fits_constants j r rest) (S.fitting j r (S.inside j r e))).0)

      body_same : pruned D d.body ≡ pruned T d.body
      body_same = pruned_same D T d.body (λ j l r. S.agree j (fresh j (omega (arith, l, pruned_uses D j d.body body_boxes))) r)
        where
          fresh : (j : ℕ) → 1 ≤ uses j (pruned D d.body) → Fresh j (d ∷ rest)
          fresh j l = (
            (λ e. let q : uses j (pruned D d.body) ≡ 0 = ap (λ n. uses n (pruned D d.body)) (sym e) ∙ body_unused Fs done (pruned D) d rest main S.form in omega (arith, q, l)),
            used_fresh done (pruned D) d rest S.form rest (later Fs done (pruned D) d rest main S.form) j l,
          )

      starts : ◌≡◌ {A = Going} (0, pruned D d.body, pruned D) (at 0 Rel (pruned D d.body))
      starts =
          let f = ap pruned (same_table D (upto 0) each) in
          λ i. (0, sym (substitute_same (pruned D d.body)) i, f i)
        where
          each : (j r : ℕ) → D j r ≡ upto 0 j r
          each j r = either (nat_eq j k) refl
            where
              either : (z : Bool) → nat_eq j k ≡ z → D j r ≡ (if z then (if is_below r 0 then T k r else false) else D j r)
              either true e = ap (λ n. D n r) (eqb-true j k e) ∙ S.out here r
              either false e = refl

      pub constant_steps : without_params Fs done d rest main (leading (pruned D d.body)) 0 (pruned D d.body) (pruned D) ≡ ((pruned_constant T d).body, pruned after)
      constant_steps =
          let inside : Inside 0 (pruned D d.body) = λ p. let e : 0 + p ≡ p = omega arith in ap (λ n. is_unused n d.body) e ∙ sym (pruned_unused D d.body body_boxes p) in
          ap (steps (leading (pruned D d.body))) starts
          ∙ params (leading (pruned D d.body)) 0 Rel (pruned D d.body) refl thins_rel inside (subst GoingForm starts S.form)
          ∙ (λ i. (unwrapped (T k) 0 Rel (body_same i), pruned after))

      pub next_stage : Stage after (pruned_constant T d ∷ done) rest
      next_stage = record {
        form = subst (λ (r : BoxTerm × (BoxTerm → BoxTerm)). IsBoxProgram (with_constant Fs done d r.0 r.1 rest main)) constant_steps
            (params_steps Fs done d rest main (leading (pruned D d.body)) 0 (pruned D d.body) (pruned D) S.form).form;
        inside = inside;
        agree = agree;
        out = out;
        known = S.known.1;
        fitting = rest_fit;
      }
        where
          inside : (j r : ℕ) → after j r ≡ true → T j r ≡ true
          inside j r = either (nat_eq j k) refl
            where
              either : (z : Bool) → nat_eq j k ≡ z → (if z then T k r else D j r) ≡ true → T j r ≡ true
              either true e g = ap (λ n. T n r) (eqb-true j k e) ∙ g
              either false e g = S.inside j r g

          agree : (j : ℕ) → Fresh j rest → (r : ℕ) → after j r ≡ T j r
          agree j f r = either (nat_eq j k) refl
            where
              either : (z : Bool) → nat_eq j k ≡ z → (if z then T k r else D j r) ≡ T j r
              either true e = ap (λ n. T n r) (sym (eqb-true j k e))
              either false e = S.agree j ((λ q. false≢true (sym e ∙ eq-eqb j k (sym q))), f) r

          out : {e : BoxConstant} → Has rest e → (r : ℕ) → after e.name.0 r ≡ false
          out {e} h r = ap (λ z. if z then T k r else D e.name.0 r) (nat_eq_no e.name.0 k (later_other done (pruned D) d rest S.form rest (later Fs done (pruned D) d rest main S.form) h)) ∙ S.out (there h) r

    -- the constants gone through
    all_steps : (rest : List BoxConstant) (D : ℕ → ℕ → Bool) (done : List BoxConstant) → Stage D done rest → drop_from Fs done (pruned D) rest main ≡ record { constants = through T rest done; families = Fs; main = pruned T main }
    all_steps [] D done S = let f = ap pruned (fun_ext (λ j. fun_ext (S.agree j tt))) in λ i. record { constants = done; families = Fs; main = f i main }
    all_steps (d ∷ rest) D done S =
        ap (λ (r : BoxTerm × (BoxTerm → BoxTerm)). drop_from Fs (record { name = d.name; body = r.0 } ∷ done) r.1 rest main) (constant_steps D done d rest S)
        ∙ all_steps rest (after D done d rest S) (pruned_constant T d ∷ done) (next_stage D done d rest S)

-- a table without places changes nothing

nothing_dropped : (h : Option Use) → is_dropped (λ j r. false) h ≡ false
nothing_dropped None = refl
nothing_dropped (Some u) = refl

mutual
  pruned_nothing : (t : BoxTerm) → pruned (λ j r. false) t ≡ t
  pruned_nothing (Rel i) = refl
  pruned_nothing Box = refl
  pruned_nothing (BLambda b) = ap BLambda (pruned_nothing b)
  pruned_nothing (BLetIn a t) = λ x. BLetIn (pruned_nothing a x) (pruned_nothing t x)
  pruned_nothing (BApp f a) = λ x. if nothing_dropped (spine f) x then pruned_nothing f x else BApp (pruned_nothing f x) (pruned_nothing a x)
  pruned_nothing (BConst c) = refl
  pruned_nothing (BConstruct f c) = refl
  pruned_nothing (BCase f s bs) = λ x. BCase f (pruned_nothing s x) (pruned_nothing_terms bs x)
  pruned_nothing (BFix i rargs bodies) = ap (BFix i rargs) (pruned_nothing_terms bodies)

  pruned_nothing_terms : (ts : BoxTerms) → pruned_terms (λ j r. false) ts ≡ ts
  pruned_nothing_terms Done = refl
  pruned_nothing_terms (Next n t ts) = λ x. Next n (pruned_nothing t x) (pruned_nothing_terms ts x)

-- what the code asks of a constant: its body is closed, and has a leading lambda for each place
abbrev pub IsReady : (ℕ → ℕ → Bool) → BoxConstant → Type 0
IsReady T d = Closed 0 (pruned T d.body) × ((p : ℕ) → T d.name.0 p ≡ true → p < leading (pruned T d.body))

abbrev pub AreReady : (ℕ → ℕ → Bool) → List BoxConstant → Type 0
AreReady T [] = Unit {0}
AreReady T (d ∷ ds) = IsReady T d × AreReady T ds

module _ (P : BoxProgram) (ok : IsBoxProgram P) where
  abbrev T : ℕ → ℕ → Bool
  T = is_dead_place P

  start : IsBoxProgram (stands P.families [] (λ t. t) (reverse P.constants) P.main)
  start = subst IsBoxProgram (sym (start_program P)) ok

  known : Known T P.main (reverse P.constants)
  known = known_from T P.families P.main [] (reverse P.constants) start (λ k q. false) (λ e h q. refl)

  main_fits : (j r : ℕ) → T j r ≡ true → fits j r [] P.main ≡ true
  main_fits j r t = (and_parts (is_candidate j r (reverse P.constants) false && fits_constants j r (reverse P.constants)) (fits j r [] P.main) t).1

  none_of_none : (j : ℕ) → Fresh j (reverse P.constants) → (r : ℕ) → false ≡ T j r
  none_of_none j f r = sym (ap (λ z. (z && fits_constants j r (reverse P.constants)) && fits j r [] P.main) (candidate_fresh j r (reverse P.constants) false f))

  first_stage : Stage T P.families P.main (λ j r. false) [] (reverse P.constants)
  first_stage = record {
    form = subst (λ (f : BoxTerm → BoxTerm). IsBoxProgram (stands P.families [] f (reverse P.constants) P.main)) (λ i t. sym (pruned_nothing t) i) start;
    inside = λ j r e. absurd (false≢true e);
    agree = none_of_none;
    out = λ h r. refl;
    known = known;
    fitting = λ j r t. (and_parts (is_candidate j r (reverse P.constants) false) (fits_constants j r (reverse P.constants)) (and_parts (is_candidate j r (reverse P.constants) false && fits_constants j r (reverse P.constants)) (fits j r [] P.main) t).0).1;
  }

  pub dropped_at_once : drop_program P ≡ record { constants = through T (reverse P.constants) []; families = P.families; main = pruned T P.main }
  dropped_at_once = (λ i. drop_from P.families [] (λ t. sym (pruned_nothing t) i) (reverse P.constants) P.main) ∙ all_steps T P.families P.main main_fits (reverse P.constants) (λ j r. false) [] first_stage

  ready_from : (done es : List BoxConstant) → IsBoxProgram (stands P.families done (λ t. t) es P.main) → Known T P.main es → AreReady T es
  ready_from done [] ok k = tt
  ready_from done (d ∷ es) ok k = (
    (
      pruned_closed T 0 d.body (body_form P.families done (λ t. t) d es P.main ok).closed,
      (λ p t.
          let u = (and_parts (is_unused p d.body) (fits_constants d.name.0 p es) (and_parts (is_unused p d.body && fits_constants d.name.0 p es) (fits d.name.0 p [] P.main) (sym (k.0 p) ∙ t)).0).0 in
          omega (arith, pruned_leading T d.body, unused_leads p d.body u)),
    ),
    ready_from (changed (λ t. t) d ∷ done) es ok k.1,
  )

  pub all_ready : AreReady T (reverse P.constants)
  all_ready = ready_from [] (reverse P.constants) start known

-- the code's loop: D is the table, as the walk at the start left it

pub same_places : (P : BoxProgram) (D : ℕ → ℕ → Bool) → ((k q : ℕ) → D k q ≡ is_dead_place P k q) → D ≡ is_dead_place P
same_places P D e = fun_ext (λ k. fun_ext (e k))

pub loop_ready : (P : BoxProgram) → IsBoxProgram P → (D : ℕ → ℕ → Bool) → ((k q : ℕ) → D k q ≡ is_dead_place P k q) → (items : List BoxConstant) → items ≡ reverse P.constants → AreReady D items
loop_ready P ok D e items order =
    subst (λ (E : ℕ → ℕ → Bool). AreReady E items) (sym (same_places P D e)) (subst (AreReady (is_dead_place P)) (sym order) (all_ready P ok))

pub record IsDropped (P Q : BoxProgram) : Type 0 where
  pub is : Q ≡ drop_program P
  pub shrinks : Shrinks P Q

pub loop_dropped : (P : BoxProgram) → IsBoxProgram P → (D : ℕ → ℕ → Bool) → ((k q : ℕ) → D k q ≡ is_dead_place P k q) → (items : List BoxConstant) → items ≡ reverse P.constants →
    (done rest : List BoxConstant) (Fs : List BoxFamily) (main : BoxTerm) → through D rest done ≡ through D items [] → rest ≡ [] → Fs ≡ P.families → main ≡ pruned D P.main → IsDropped P (record { constants = done; families = Fs; main = main })
loop_dropped P ok D e items order done rest Fs main same none f m =
    let t = same_places P D e in
    let cs : done ≡ through (is_dead_place P) (reverse P.constants) [] = sym (ap (λ ds. through D ds done) none) ∙ same ∙ (λ i. through (t i) (order i) []) in
    let is : ◌≡◌ {A = BoxProgram} (record { constants = done; families = Fs; main = main }) (drop_program P) =
    (λ i. record { constants = cs i; families = f i; main = (m ∙ ap (λ E. pruned E P.main) t) i }) ∙ sym (dropped_at_once P ok) in
    record { is = is; shrinks = subst (λ Q. Shrinks P Q) (sym is) (drop_is_right P ok) }
