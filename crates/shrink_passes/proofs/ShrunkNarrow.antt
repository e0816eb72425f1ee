-- The passes that shrink programs make no lambda and no fixpoint capture more words.
use Rattle.std.proofs.Common.{◌≡◌, ℕ, zero, suc, ◌+◌, ◌≤◌, Bool, true, false, ◌&&◌, ◌||◌, List, [], ◌∷◌, length, reverse, refl, sym, ap, ◌∙◌, subst, arith, ⊎_elim}
use Rattle.std.specs.Prelude.{nat_eq, if◌then◌else◌}
use Rattle.std.proofs.lemmas.Bool.{or_left, or_from, and_right, false≢true}
use Rattle.trees.specs.Tree.{Rel, Done, Next}
use Rattle.trees.specs.Parallel.{rename, up, ups, over, overs, put, substitute, substitute_terms}
use Rattle.trees.specs.Closed.{Closed, ClosedTerms}
use Rattle.trees.proofs.Bounds.{closed_at}
use Rattle.trees.proofs.Put.{ups_past, ups_below, substitute_same}
use Rattle.box_terms.specs.BoxSyntax.{BoxTerm, BoxTerms, Box, BLambda, BLetIn, BApp, BConst, BConstruct, BCase, BFix}
use Rattle.lambda_box.specs.BoxProgram.{BoxConstant, BoxFamily, BoxProgram, Has, here}
use Rattle.lambda_box.specs.BoxForm.{IsFixBody, boxed, last, more, AreFixBodies, HasBoxForm, HasBoxFormTerms, IsBoxProgram}
use Rattle.lambda_box.proofs.Naming.{ordered_body}
use Rattle.lambda_box.specs.ClosureEvaluation.{names, names_terms, ClosureValue, ClosureEnv, Empty, Bind, BindFix, box_values, bind_all, one_if, any_below, words}
use Rattle.box_passes.proofs.Narrow.{Narrow, NarrowBranches, NarrowDefs}
use Rattle.box_passes.proofs.Widths.{words_none}
use Rattle.shrink_passes.specs.Uses.{uses}
use Rattle.shrink_passes.specs.DropParams.{is_spine, cut, cut_terms, leading, without_lambda, with_constant, is_dead, without_params, drop_from, drop_program}
use Rattle.shrink_passes.specs.Inline.{put_in, put_in_terms, changed, stands, with_body, is_put_in, inline_from, inline_program}
use Rattle.shrink_passes.proofs.Following.{names_past, names_past_terms, names_put, names_put_terms}
use Rattle.shrink_passes.proofs.Forming.{put_closed, put_form, body_unused, step_form as put_step_form}
use Rattle.shrink_passes.proofs.Deciding.{start_program}
use Rattle.shrink_passes.proofs.InlineSteps.{to_rest, each_body as put_each_body, inline_is_right}
use Rattle.shrink_passes.proofs.DropSteps.{step, each_body as drop_each_body}
use Rattle.shrink_passes.proofs.Cutting.{cut_closed, cut_form}
use Rattle.shrink_passes.proofs.ThinForms.{without_closed, without_form}
use Rattle.shrink_passes.proofs.Thinning.{IsThin, Thins, thins_rel, thins_over, thins_overs, thins_first, named_before, named_before_terms, named_cut, named_cut_terms, either_map}

-- e' has the variables of e, in their order, but for some; variable i of e' is variable r i of e
data Fewer : (ℕ → ℕ) → ClosureEnv → ClosureEnv → Type 0 where
  fewer_none : Fewer (λ i. i) Empty Empty
  fewer_skip : {r : ℕ → ℕ} {e' e : ClosureEnv} {v : ClosureValue} → Fewer r e' e → Fewer (λ i. suc (r i)) e' (Bind v e)
  fewer_bind : {r : ℕ → ℕ} {e' e : ClosureEnv} {v w : ClosureValue} → Fewer r e' e → Fewer (up r) (Bind v e') (Bind w e)
  fewer_fix : {r : ℕ → ℕ} {e' e : ClosureEnv} {rargs : List ℕ} {cs bs : BoxTerms} → Fewer r e' e → ((i : ℕ) → names_terms cs i ≡ true → names_terms bs (r i) ≡ true) →
      Fewer (ups (length rargs) r) (BindFix rargs cs e') (BindFix rargs bs e)

one_less : (x y : Bool) → (x ≡ true → y ≡ true) → one_if x ≤ one_if y
one_less true true h = omega arith
one_less true false h = absurd (false≢true (h refl))
one_less false y h = omega arith

both_true : (x y x' y' : Bool) → (x ≡ true → x' ≡ true) → (y ≡ true → y' ≡ true) → (x && y) ≡ true → (x' && y') ≡ true
both_true true y x' y' f g e = λ i. f refl i && g e i
both_true false y x' y' f g e = absurd (cc)

any_less : (n m : ℕ) (r : ℕ → ℕ) (M N : ℕ → Bool) → n ≤ m → ((i : ℕ) → M i ≡ true → N (ups m r i) ≡ true) → any_below n M ≡ true → any_below n N ≡ true
any_less zero m r M N l h e = absurd (cc)
any_less (suc n) m r M N l h e =
    either_map (M n) (any_below n M) (N n) (any_below n N) (λ a. let q : n ≡ ups m r n = sym (ups_below m r n (omega arith)) in ap N q ∙ h n a) (any_less n m r M N (omega arith) h) e

words_fewer : {r : ℕ → ℕ} {e' e : ClosureEnv} → Fewer r e' e → (M N : ℕ → Bool) → ((i : ℕ) → M i ≡ true → N (r i) ≡ true) → words e' M ≤ words e N
words_fewer fewer_none M N h = omega arith
words_fewer (fewer_skip f) M N h = let a = words_fewer f M (λ i. N (suc i)) h in omega arith
words_fewer (fewer_bind f) M N h = let a = words_fewer f (λ i. M (suc i)) (λ i. N (suc i)) (λ i. h (suc i)) in let b = one_less (M zero) (N zero) (h zero) in omega arith
words_fewer (fewer_fix {r = r} {rargs = rargs} {cs = cs} {bs = bs} f g) M N h =
    let n = length rargs in
    words_fewer f (λ i. M (n + i) || (any_below n M && names_terms cs i)) (λ i. N (n + i) || (any_below n N && names_terms bs i))
    (λ i. either_map (M (n + i)) (any_below n M && names_terms cs i) (N (n + r i)) (any_below n N && names_terms bs (r i)) (λ a. ap N (sym (ups_past n r i)) ∙ h (n + i) a)
    (both_true (any_below n M) (names_terms cs i) (any_below n N) (names_terms bs (r i)) (any_less n n r M N (omega arith) h) (g i)))

fewer_boxes : (n : ℕ) {r : ℕ → ℕ} {e' e : ClosureEnv} → Fewer r e' e → Fewer (ups n r) (bind_all (box_values n) e') (bind_all (box_values n) e)
fewer_boxes zero f = f
fewer_boxes (suc n) f = fewer_bind (fewer_boxes n f)

-- terms whose variables stay, as their number in the environment does

abbrev Same : (ℕ → ℕ) → Type 0
Same r = (i : ℕ) → r i ≡ i

same_up : {r : ℕ → ℕ} → Same r → Same (up r)
same_up h zero = refl
same_up h (suc i) = ap suc (h i)

same_ups : (n : ℕ) {r : ℕ → ℕ} → Same r → Same (ups n r)
same_ups zero h = h
same_ups (suc n) h = same_up (same_ups n h)

-- variables for which others are put

abbrev Follows : (ℕ → BoxTerm) → (ℕ → ℕ) → Type 0
Follows s r = (j : ℕ) → s (r j) ≡ Rel j

follows_over : (s : ℕ → BoxTerm) (r : ℕ → ℕ) → Follows s r → Follows (over s) (up r)
follows_over s r f zero = refl
follows_over s r f (suc j) = ap (rename suc) (f j)

follows_overs : (n : ℕ) (s : ℕ → BoxTerm) (r : ℕ → ℕ) → Follows s r → Follows (overs n s) (ups n r)
follows_overs zero s r f = f
follows_overs (suc n) s r f = follows_over (overs n s) (ups n r) (follows_overs n s r f)

-- a definition of a fixpoint is box or a lambda
abbrev is_definition : BoxTerm → Bool
is_definition Box = true
is_definition (BLambda b) = true
is_definition t = false

fix_body : {r : ℕ} {t : BoxTerm} → IsFixBody r t → is_definition t ≡ true
fix_body boxed = refl
fix_body last = refl
fix_body (more h) = refl

module _ (Fs : List BoxFamily) (C : ℕ) where
  -- box or another variable put for each variable

  thin_variable : (e : ClosureEnv) (t : BoxTerm) → IsThin t → Narrow C e t
  thin_variable e t h = ⊎_elim (λ q. subst (Narrow C e) (sym q) tt) (λ v. subst (Narrow C e) (sym v.1) tt) h

  mutual
    thin_narrow : (s : ℕ → BoxTerm) → Thins s → {r : ℕ → ℕ} → Follows s r → {e' e : ClosureEnv} → Fewer r e' e → (t : BoxTerm) → HasBoxForm Fs t → Narrow C e t → Narrow C e' (substitute s t)
    thin_narrow s th f {e'} w (Rel i) form h = thin_variable e' (s i) (th.thin i)
    thin_narrow s th f w Box form h = tt
    thin_narrow s th {r} f w (BLambda b) form h = (
      (let few = words_fewer w (λ i. names (substitute (over s) b) (suc i)) (λ i. names b (suc i)) (λ i n. named_before (over s) (thins_over th) b (suc (r i)) (suc i) (ap (rename suc) (f i)) n) in omega (arith, few, h.0)),
      thin_narrow (over s) (thins_over th) (follows_over s r f) (fewer_bind w) b form.1.0 h.1,
    )
    thin_narrow s th {r} f w (BLetIn a t) form h = (thin_narrow s th f w a form.1.0 h.0, thin_narrow (over s) (thins_over th) (follows_over s r f) (fewer_bind w) t form.1.1.0 h.1)
    thin_narrow s th f w (BApp g a) form h = (thin_narrow s th f w g form.1.0 h.0, thin_narrow s th f w a form.1.1.0 h.1)
    thin_narrow s th f w (BConst k) form h = tt
    thin_narrow s th f w (BConstruct g c) form h = tt
    thin_narrow s th f w (BCase g t bs) form h = (thin_narrow s th f w t form.1.0 h.0, thin_branches s th f w bs form.1.1.0 h.1)
    thin_narrow s th {r} f w (BFix j rargs bodies) form h = (
      (let few = words_fewer w (λ i. names_terms (substitute_terms s bodies) i) (λ i. names_terms bodies i) (λ i n. named_before_terms s th bodies (r i) i (f i) n) in omega (arith, few, h.0)),
      thin_defs (length rargs) rargs s th f (fewer_fix w (λ i n. named_before_terms s th bodies (r i) i (f i) n)) bodies form.0.1 form.1.0 h.1,
    )

    thin_branches : (s : ℕ → BoxTerm) → Thins s → {r : ℕ → ℕ} → Follows s r → {e' e : ClosureEnv} → Fewer r e' e → (ts : BoxTerms) → HasBoxFormTerms Fs ts → NarrowBranches C e ts → NarrowBranches C e' (substitute_terms s ts)
    thin_branches s th f w Done form h = tt
    thin_branches s th {r} f w (Next n t ts) form h = (thin_narrow (overs n s) (thins_overs n th) (follows_overs n s r f) (fewer_boxes n w) t form.0 h.0, thin_branches s th f w ts form.1 h.1)

    thin_defs : (n : ℕ) (rs : List ℕ) (s : ℕ → BoxTerm) → Thins s → {r : ℕ → ℕ} → Follows s r → {e' e : ClosureEnv} → Fewer (ups n r) e' e → (ts : BoxTerms) → AreFixBodies n rs ts → HasBoxFormTerms Fs ts → NarrowDefs C e ts → NarrowDefs C e' (substitute_terms s ts)
    thin_defs n [] s th f w Done are form h = tt
    thin_defs n [] s th f w (Next m t ts) are form h = absurd are
    thin_defs n (r ∷ rs) s th f w Done are form h = absurd are
    thin_defs n (r ∷ rs) s th f w (Next m Box ts) are form h = thin_defs n rs s th f w ts are.2 form.1 h
    thin_defs n (x ∷ rs) s th {r} f {e'} {e} w (Next m (BLambda b) ts) are form h = (
      thin_narrow (over (overs m s)) (thins_over (thins_overs m th)) (follows_over (overs m s) (ups m r) (follows_overs m s r f)) (fewer_bind (subst (λ k. Fewer (ups k r) e' e) (sym are.0) w)) b form.0.1.0 h.0,
      thin_defs n rs s th f w ts are.2 form.1 h.1,
    )
    thin_defs n (r ∷ rs) s th f w (Next m t ts) are form h = absurd (false≢true (fix_body are.1))

  -- an argument cut from uses

  module _ (k p : ℕ) where
    mutual
      cut_narrow : {r : ℕ → ℕ} → Same r → {e' e : ClosureEnv} → Fewer r e' e → (t : BoxTerm) → HasBoxForm Fs t → Narrow C e t → Narrow C e' (cut k p t)
      cut_narrow f w (Rel i) form h = tt
      cut_narrow f w Box form h = tt
      cut_narrow {r} f w (BLambda b) form h = (
        (let few = words_fewer w (λ i. names (cut k p b) (suc i)) (λ i. names b (suc i)) (λ i n. ap (λ j. names b (suc j)) (f i) ∙ named_cut k p b (suc i) n) in omega (arith, few, h.0)),
        cut_narrow (same_up f) (fewer_bind w) b form.1.0 h.1,
      )
      cut_narrow f w (BLetIn a t) form h = (cut_narrow f w a form.1.0 h.0, cut_narrow (same_up f) (fewer_bind w) t form.1.1.0 h.1)
      cut_narrow f {e'} w (BApp g a) form h = either (is_spine k g p) (cut_narrow f w g form.1.0 h.0) (cut_narrow f w a form.1.1.0 h.1)
        where
          either : (z : Bool) → Narrow C e' (cut k p g) → Narrow C e' (cut k p a) → Narrow C e' (if z then cut k p g else BApp (cut k p g) (cut k p a))
          either true x y = x
          either false x y = (x, y)
      cut_narrow f w (BConst c) form h = tt
      cut_narrow f w (BConstruct g c) form h = tt
      cut_narrow f w (BCase g t bs) form h = (cut_narrow f w t form.1.0 h.0, cut_branches f w bs form.1.1.0 h.1)
      cut_narrow {r} f w (BFix j rargs bodies) form h = (
        (let few = words_fewer w (λ i. names_terms (cut_terms k p bodies) i) (λ i. names_terms bodies i) (λ i n. ap (names_terms bodies) (f i) ∙ named_cut_terms k p bodies i n) in omega (arith, few, h.0)),
        cut_defs (length rargs) rargs (same_ups (length rargs) f) (fewer_fix w (λ i n. ap (names_terms bodies) (f i) ∙ named_cut_terms k p bodies i n)) bodies form.0.1 form.1.0 h.1,
      )

      cut_branches : {r : ℕ → ℕ} → Same r → {e' e : ClosureEnv} → Fewer r e' e → (ts : BoxTerms) → HasBoxFormTerms Fs ts → NarrowBranches C e ts → NarrowBranches C e' (cut_terms k p ts)
      cut_branches f w Done form h = tt
      cut_branches f w (Next n t ts) form h = (cut_narrow (same_ups n f) (fewer_boxes n w) t form.0 h.0, cut_branches f w ts form.1 h.1)

      cut_defs : (n : ℕ) (rs : List ℕ) {r : ℕ → ℕ} → Same r → {e' e : ClosureEnv} → Fewer r e' e → (ts : BoxTerms) → AreFixBodies n rs ts → HasBoxFormTerms Fs ts → NarrowDefs C e ts → NarrowDefs C e' (cut_terms k p ts)
      cut_defs n [] f w Done are form h = tt
      cut_defs n [] f w (Next m t ts) are form h = absurd are
      cut_defs n (r ∷ rs) f w Done are form h = absurd are
      cut_defs n (r ∷ rs) f w (Next m Box ts) are form h = cut_defs n rs f w ts are.2 form.1 h
      cut_defs n (r ∷ rs) f w (Next m (BLambda b) ts) are form h = (cut_narrow (same_up f) (fewer_bind w) b form.0.1.0 h.0, cut_defs n rs f w ts are.2 form.1 h.1)
      cut_defs n (r ∷ rs) f w (Next m t ts) are form h = absurd (false≢true (fix_body are.1))

  -- a leading lambda less

  without_named : (p : ℕ) (t : BoxTerm) (i : ℕ) → names (without_lambda p t) i ≡ true → names t i ≡ true
  without_named zero (BLambda b) i n = or_left (names b (1 + i)) false (let q : suc i ≡ 1 + i = omega arith in ap (names b) (sym q) ∙ named_before (put Box) (thins_first thins_rel) b (suc i) i refl n)
  without_named (suc p) (BLambda b) i n = either_map (names (without_lambda p b) (1 + i)) false (names b (1 + i)) false (without_named p b (1 + i)) (λ e. e) n
  without_named zero t i n = n
  without_named (suc p) t i n = n

  without_narrow : (p : ℕ) {r : ℕ → ℕ} → Same r → {e' e : ClosureEnv} → Fewer r e' e → (t : BoxTerm) → HasBoxForm Fs t → Narrow C e t → Narrow C e' (without_lambda p t)
  without_narrow zero f w (BLambda b) form h = thin_narrow (put Box) (thins_first thins_rel) (λ j. ap Rel (f j)) (fewer_skip w) b form.1.0 h.1
  without_narrow (suc p) {r} f w (BLambda b) form h = (
    (let few = words_fewer w (λ i. names (without_lambda p b) (suc i)) (λ i. names b (suc i)) (λ i n. ap (λ j. names b (suc j)) (f i) ∙ without_named p b (suc i) n) in omega (arith, few, h.0)),
    without_narrow p (same_up f) (fewer_bind w) b form.1.0 h.1,
  )
  without_narrow zero f {e'} w t form h = subst (Narrow C e') (substitute_same t) (thin_narrow Rel thins_rel (λ j. ap Rel (f j)) w t form h)
  without_narrow (suc p) f {e'} w t form h = subst (Narrow C e') (substitute_same t) (thin_narrow Rel thins_rel (λ j. ap Rel (f j)) w t form h)

  -- a term that is closed below n, in an environment that goes on after n variables

  data Longer : ℕ → ClosureEnv → ClosureEnv → Type 0 where
    longer_none : {e' : ClosureEnv} → Longer 0 e' Empty
    longer_bind : {n : ℕ} {e' e : ClosureEnv} {v : ClosureValue} → Longer n e' e → Longer (suc n) (Bind v e') (Bind v e)
    longer_fix : {n : ℕ} {e' e : ClosureEnv} {rargs : List ℕ} {bs : BoxTerms} → Longer n e' e → ClosedTerms n bs → Longer (length rargs + n) (BindFix rargs bs e') (BindFix rargs bs e)

  words_longer : {n : ℕ} {e' e : ClosureEnv} → Longer n e' e → (N : ℕ → Bool) → ((i : ℕ) → n ≤ i → N i ≡ false) → words e' N ≤ words e N
  words_longer {e' = e'} longer_none N h = let z = words_none e' N (λ i. h i (omega arith)) in omega (arith, z)
  words_longer (longer_bind w) N h = let a = words_longer w (λ i. N (suc i)) (λ i l. h (suc i) (omega arith)) in omega arith
  words_longer (longer_fix {n = n} {rargs = rargs} {bs = bs} w c) N h =
      words_longer w (λ i. N (length rargs + i) || (any_below (length rargs) N && names_terms bs i))
      (λ i l. or_from (N (length rargs + i)) (any_below (length rargs) N && names_terms bs i) (h (length rargs + i) (omega arith)) (and_right (any_below (length rargs) N) (names_terms bs i) (names_past_terms n bs i c l)))

  longer_boxes : (m : ℕ) {n : ℕ} {e' e : ClosureEnv} → Longer n e' e → Longer (m + n) (bind_all (box_values m) e') (bind_all (box_values m) e)
  longer_boxes zero {n} {e'} {e} w = let q : n ≡ 0 + n = omega arith in subst (λ k. Longer k e' e) q w
  longer_boxes (suc m) {n} {e'} {e} w = let q : suc (m + n) ≡ suc m + n = omega arith in subst (λ k. Longer k (bind_all (box_values (suc m)) e') (bind_all (box_values (suc m)) e)) q (longer_bind (longer_boxes m w))

  mutual
    longer_narrow : (n : ℕ) {e' e : ClosureEnv} → Longer n e' e → (t : BoxTerm) → Closed n t → HasBoxForm Fs t → Narrow C e t → Narrow C e' t
    longer_narrow n w (Rel i) c form h = tt
    longer_narrow n w Box c form h = tt
    longer_narrow n w (BLambda b) c form h = (
      (let few = words_longer w (λ i. names b (suc i)) (λ i l. names_past (1 + n) b (suc i) c.0 (omega arith)) in omega (arith, few, h.0)),
      longer_narrow (suc n) (longer_bind w) b (closed_at b (omega arith) c.0) form.1.0 h.1,
    )
    longer_narrow n w (BLetIn a t) c form h = (longer_narrow n w a (closed_at a (omega arith) c.0) form.1.0 h.0, longer_narrow (suc n) (longer_bind w) t (closed_at t (omega arith) c.1.0) form.1.1.0 h.1)
    longer_narrow n w (BApp g a) c form h = (longer_narrow n w g (closed_at g (omega arith) c.0) form.1.0 h.0, longer_narrow n w a (closed_at a (omega arith) c.1.0) form.1.1.0 h.1)
    longer_narrow n w (BConst k) c form h = tt
    longer_narrow n w (BConstruct g i) c form h = tt
    longer_narrow n w (BCase g t bs) c form h = (longer_narrow n w t (closed_at t (omega arith) c.0) form.1.0 h.0, longer_branches n w bs c.1.0 form.1.1.0 h.1)
    longer_narrow n w (BFix j rargs bodies) c form h = (
      (let few = words_longer w (λ i. names_terms bodies i) (λ i l. names_past_terms n bodies i c.0 l) in omega (arith, few, h.0)),
      longer_defs (length rargs) rargs n (longer_fix w c.0) bodies c.0 form.0.1 form.1.0 h.1,
    )

    longer_branches : (n : ℕ) {e' e : ClosureEnv} → Longer n e' e → (ts : BoxTerms) → ClosedTerms n ts → HasBoxFormTerms Fs ts → NarrowBranches C e ts → NarrowBranches C e' ts
    longer_branches n w Done c form h = tt
    longer_branches n w (Next m t ts) c form h = (longer_narrow (m + n) (longer_boxes m w) t c.0 form.0 h.0, longer_branches n w ts c.1 form.1 h.1)

    longer_defs : (m : ℕ) (rs : List ℕ) (n : ℕ) {e' e : ClosureEnv} → Longer (m + n) e' e → (ts : BoxTerms) → ClosedTerms n ts → AreFixBodies m rs ts → HasBoxFormTerms Fs ts → NarrowDefs C e ts → NarrowDefs C e' ts
    longer_defs m [] n w Done c are form h = tt
    longer_defs m [] n w (Next k t ts) c are form h = absurd are
    longer_defs m (r ∷ rs) n w Done c are form h = absurd are
    longer_defs m (r ∷ rs) n w (Next k Box ts) c are form h = longer_defs m rs n w ts c.1 are.2 form.1 h
    longer_defs m (r ∷ rs) n w (Next k (BLambda b) ts) c are form h = (
      longer_narrow (suc (m + n)) (longer_bind w) b (let q : 1 + (k + n) ≡ suc (m + n) = omega (arith, are.0) in closed_at b q c.0.0) form.0.1.0 h.0,
      longer_defs m rs n w ts c.1 are.2 form.1 h.1,
    )
    longer_defs m (r ∷ rs) n w (Next k t ts) c are form h = absurd (false≢true (fix_body are.1))

  -- a body put in place of uses

  module _ (k : ℕ) (b : BoxTerm) (closed : Closed 0 b) (none : uses k b ≡ 0) (formed : HasBoxForm Fs b) (narrow : Narrow C Empty b) where
    mutual
      put_narrow : {r : ℕ → ℕ} → Same r → {e' e : ClosureEnv} → Fewer r e' e → (t : BoxTerm) → HasBoxForm Fs t → Narrow C e t → Narrow C e' (put_in k b t)
      put_narrow f w (Rel i) form h = tt
      put_narrow f w Box form h = tt
      put_narrow {r} f w (BLambda t) form h = (
        (let few = words_fewer w (λ i. names (put_in k b t) (suc i)) (λ i. names t (suc i)) (λ i n. ap (λ j. names t (suc j)) (f i) ∙ sym (names_put k b closed none t (suc i)) ∙ n) in omega (arith, few, h.0)),
        put_narrow (same_up f) (fewer_bind w) t form.1.0 h.1,
      )
      put_narrow f w (BLetIn a t) form h = (put_narrow f w a form.1.0 h.0, put_narrow (same_up f) (fewer_bind w) t form.1.1.0 h.1)
      put_narrow f w (BApp g a) form h = (put_narrow f w g form.1.0 h.0, put_narrow f w a form.1.1.0 h.1)
      put_narrow f {e'} w (BConst c) form h = either (nat_eq c.0 k)
        where
          either : (z : Bool) → Narrow C e' (if z then b else BConst c)
          either true = longer_narrow 0 longer_none b closed formed narrow
          either false = tt
      put_narrow f w (BConstruct g c) form h = tt
      put_narrow f w (BCase g t bs) form h = (put_narrow f w t form.1.0 h.0, put_branches f w bs form.1.1.0 h.1)
      put_narrow {r} f w (BFix j rargs bodies) form h =
          let same : (i : ℕ) → names_terms (put_in_terms k b bodies) i ≡ true → names_terms bodies (r i) ≡ true = λ i n. ap (names_terms bodies) (f i) ∙ sym (names_put_terms k b closed none bodies i) ∙ n in (
            (let few = words_fewer w (λ i. names_terms (put_in_terms k b bodies) i) (λ i. names_terms bodies i) same in omega (arith, few, h.0)),
            put_defs (length rargs) rargs (same_ups (length rargs) f) (fewer_fix w same) bodies form.0.1 form.1.0 h.1,
          )

      put_branches : {r : ℕ → ℕ} → Same r → {e' e : ClosureEnv} → Fewer r e' e → (ts : BoxTerms) → HasBoxFormTerms Fs ts → NarrowBranches C e ts → NarrowBranches C e' (put_in_terms k b ts)
      put_branches f w Done form h = tt
      put_branches f w (Next n t ts) form h = (put_narrow (same_ups n f) (fewer_boxes n w) t form.0 h.0, put_branches f w ts form.1 h.1)

      put_defs : (n : ℕ) (rs : List ℕ) {r : ℕ → ℕ} → Same r → {e' e : ClosureEnv} → Fewer r e' e → (ts : BoxTerms) → AreFixBodies n rs ts → HasBoxFormTerms Fs ts → NarrowDefs C e ts → NarrowDefs C e' (put_in_terms k b ts)
      put_defs n [] f w Done are form h = tt
      put_defs n [] f w (Next m t ts) are form h = absurd are
      put_defs n (r ∷ rs) f w Done are form h = absurd are
      put_defs n (r ∷ rs) f w (Next m Box ts) are form h = put_defs n rs f w ts are.2 form.1 h
      put_defs n (r ∷ rs) f w (Next m (BLambda t) ts) are form h = (put_narrow (same_up f) (fewer_bind w) t form.0.1.0 h.0, put_defs n rs f w ts are.2 form.1 h.1)
      put_defs n (r ∷ rs) f w (Next m t ts) are form h = absurd (false≢true (fix_body are.1))

  -- a closed body of the form, and narrow
  pub record Fine (t : BoxTerm) : Type 0 where
    pub closed : Closed 0 t
    pub form : HasBoxForm Fs t
    pub narrow : Narrow C Empty t

  pub put_fine : (k : ℕ) (b t : BoxTerm) → uses k b ≡ 0 → Fine b → Fine t → Fine (put_in k b t)
  put_fine k b t none g h = record {
    closed = put_closed k b 0 t g.closed h.closed;
    form = put_form k b Fs g.form t h.form;
    narrow = put_narrow k b g.closed none g.form g.narrow (λ i. refl) fewer_none t h.form h.narrow;
  }

  pub cut_fine : (k p : ℕ) (t : BoxTerm) → Fine t → Fine (cut k p t)
  cut_fine k p t h = record { closed = cut_closed k p 0 t h.closed; form = cut_form k p Fs t h.form; narrow = cut_narrow k p (λ i. refl) fewer_none t h.form h.narrow }

  pub without_fine : (p : ℕ) (t : BoxTerm) → Fine t → Fine (without_lambda p t)
  without_fine p t h = record { closed = without_closed 0 p t h.closed; form = without_form Fs p t h.form; narrow = without_narrow p (λ i. refl) fewer_none t h.form h.narrow }

-- all bodies of a program

pub record AreFine (C : ℕ) (P : BoxProgram) : Type 0 where
  pub constants : (d : BoxConstant) → Has P.constants d → Fine P.families C d.body
  pub main : Fine P.families C P.main

choose : {A : Type 0} (G : A → Type 0) {x y : A} (z : Bool) → (z ≡ true → G x) → (z ≡ false → G y) → G (if z then x else y)
choose G true f g = f refl
choose G false f g = g refl

module _ (Fs : List BoxFamily) (C : ℕ) where
  inlined_fine : (done : List BoxConstant) (f : BoxTerm → BoxTerm) (rest : List BoxConstant) (main : BoxTerm) → IsBoxProgram (stands Fs done f rest main) → AreFine C (stands Fs done f rest main) → AreFine C (inline_from Fs done f rest main)
  inlined_fine done f [] main ok h = h
  inlined_fine done f (d ∷ rest) main ok h = choose (AreFine C) (is_put_in Fs done f d rest main)
      (λ e. inlined_fine done (with_body f d) rest main (put_step_form Fs done f d rest main ok) (record {
        constants = put_each_body Fs done f d rest main ok (Fine Fs C) (λ t g s. put_fine Fs C d.name.0 (f d.body) t (body_unused Fs done f d rest main ok) g s) h.constants;
        main = put_fine Fs C d.name.0 (f d.body) (f main) (body_unused Fs done f d rest main ok) (h.constants (changed f d) (to_rest f (d ∷ rest) done here)) h.main;
      }))
      (λ e. inlined_fine (changed f d ∷ done) f rest main ok h)

  module _ (done : List BoxConstant) (d : BoxConstant) (rest : List BoxConstant) (main : BoxTerm) where
    abbrev GoneFine : BoxTerm × (BoxTerm → BoxTerm) → Type 0
    GoneFine r = IsBoxProgram (with_constant Fs done d r.0 r.1 rest main) × AreFine C (with_constant Fs done d r.0 r.1 rest main)

    params_fine : (n p : ℕ) (b : BoxTerm) (f : BoxTerm → BoxTerm) → IsBoxProgram (with_constant Fs done d b f rest main) → AreFine C (with_constant Fs done d b f rest main) → GoneFine (without_params Fs done d rest main n p b f)
    params_fine zero p b f ok h = (ok, h)
    params_fine (suc n) p b f ok h = choose GoneFine (is_dead Fs done d p b f rest main)
        (λ e. params_fine n p (without_lambda p b) (λ t. cut d.name.0 p (f t)) (step Fs done d rest main p b f ok e).form (record {
          constants = drop_each_body Fs done d rest main p b f ok e (Fine Fs C) (λ t s. cut_fine Fs C d.name.0 p t s) (without_fine Fs C p b) h.constants;
          main = cut_fine Fs C d.name.0 p (f main) h.main;
        }))
        (λ e. params_fine n (suc p) b f ok h)

  dropped_fine : (done : List BoxConstant) (f : BoxTerm → BoxTerm) (rest : List BoxConstant) (main : BoxTerm) → IsBoxProgram (stands Fs done f rest main) → AreFine C (stands Fs done f rest main) → AreFine C (drop_from Fs done f rest main)
  dropped_fine done f [] main ok h = h
  dropped_fine done f (d ∷ rest) main ok h =
      let r = without_params Fs done d rest main (leading (f d.body)) 0 (f d.body) f in
      let g = params_fine done d rest main (leading (f d.body)) 0 (f d.body) f ok h in
      dropped_fine (record { name = d.name; body = r.0 } ∷ done) r.1 rest main g.0 g.1

pub inline_fine : (C : ℕ) (P : BoxProgram) → IsBoxProgram P → AreFine C P → AreFine C (inline_program P)
inline_fine C P ok h =
    let start = sym (start_program P) in inlined_fine P.families C [] (λ t. t) (reverse P.constants) P.main (subst IsBoxProgram start ok) (subst (AreFine C) start h)

pub drop_fine : (C : ℕ) (P : BoxProgram) → IsBoxProgram P → AreFine C P → AreFine C (drop_program P)
drop_fine C P ok h =
    let start = sym (start_program P) in dropped_fine P.families C [] (λ t. t) (reverse P.constants) P.main (subst IsBoxProgram start ok) (subst (AreFine C) start h)

-- a program of the form whose bodies are narrow stays so
pub shrunk_narrow : (C : ℕ) (P : BoxProgram) → IsBoxProgram P → ((d : BoxConstant) → Has P.constants d → Narrow C Empty d.body) → Narrow C Empty P.main → AreFine C (drop_program (inline_program P))
shrunk_narrow C P ok constants main =
    let bodies = ordered_body P.families P.constants ok.constants in
    let fine : AreFine C P = record {
      constants = λ d at. record { closed = (bodies d at).closed; form = (bodies d at).form; narrow = constants d at };
      main = record { closed = ok.main.closed; form = ok.main.form; narrow = main };
    } in
    let x = inline_is_right P ok in
    drop_fine C (inline_program P) x.form (inline_fine C P ok fine)
