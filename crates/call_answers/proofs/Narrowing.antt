-- A closed term gives the same in the empty environment as in any other, with the same counts: what stands past its variables isn't looked at.
use Rattle.std.proofs.Common.{◌≡◌, ℕ, zero, suc, ◌+◌, ◌≤◌, Bool, false, ◌&&◌, ◌||◌, List, ◌∷◌, length, Some, refl, sym, ap, ◌∙◌, subst, arith}
use Rattle.std.proofs.lemmas.Bool.{or_from, and_right}
use Rattle.trees.specs.Tree.{Rel}
use Rattle.trees.specs.Closed.{Closed, ClosedTerms}
use Rattle.trees.proofs.Bounds.{closed_at}
use Rattle.pc_terms.specs.declared.leaf.Name.{Name}
use Rattle.pc_terms.specs.declared.leaf.FamilyId.{FamilyId}
use Rattle.box_terms.specs.BoxSyntax.{BoxTerm, BoxTerms, BLambda}
use Rattle.lambda_box.specs.BoxProgram.{BoxProgram, KeepsBoxConstant}
use Rattle.lambda_box.specs.BoxData.{Data}
use Rattle.lambda_box.specs.ClosureEvaluation.{names, names_terms, ClosureValue, VBox, VConstruct, VClosure, VFix, ClosureValues, NoValue, Then, ClosureEnv, Empty, Bind, BindFix, size, bind_all, box_values, Held, Holds, Defines, Finds, found, later, found_fix, past_fix, any_below, words, Counts, block}
use Rattle.lambda_box.specs.ClosureEvaluation.{ClosureRun, run_box, run_value, run_definition, run_lambda, run_fix, run_constant, run_let, run_app, run_box_app, run_fix_app, run_fix_box, run_construct, run_match, run_only, RunArgs, run_head, run_arg, ValueReads, value_reads, ValuesRead, no_values, and_then}
use Rattle.lambda_box.proofs.Spines.{closed_term_at}
use Rattle.box_passes.proofs.Filling.{box_values_size}
use Rattle.box_passes.proofs.Widths.{words_none}
use Rattle.shrink_passes.proofs.Following.{names_past, names_past_terms, span, span_bind}

-- the second is the first without what stands past some variable; the terms in it are closed by what is left
mutual
  pub data Narrows : ClosureValue → ClosureValue → Type 0 where
    narrow_box : Narrows VBox VBox
    narrow_construct : {f : FamilyId} {c : ℕ} {vs ws : ClosureValues} → NarrowsAll vs ws → Narrows (VConstruct f c vs) (VConstruct f c ws)
    narrow_closure : {e e' : ClosureEnv} {t : BoxTerm} → NarrowsEnv e e' → Closed (1 + span e') t → Narrows (VClosure e t) (VClosure e' t)
    narrow_fix : {e e' : ClosureEnv} {i : ℕ} {rargs : List ℕ} {bodies : BoxTerms} → NarrowsEnv e e' → ClosedTerms (span e') bodies → Narrows (VFix e i rargs bodies) (VFix e' i rargs bodies)

  pub data NarrowsAll : ClosureValues → ClosureValues → Type 0 where
    narrow_none : NarrowsAll NoValue NoValue
    narrow_more : {v w : ClosureValue} {vs ws : ClosureValues} → Narrows v w → NarrowsAll vs ws → NarrowsAll (Then v vs) (Then w ws)

  pub data NarrowsEnv : ClosureEnv → ClosureEnv → Type 0 where
    narrow_past : {e : ClosureEnv} → NarrowsEnv e Empty
    narrow_bind : {v w : ClosureValue} {e e' : ClosureEnv} → Narrows v w → NarrowsEnv e e' → NarrowsEnv (Bind v e) (Bind w e')
    narrow_bind_fix : {rargs : List ℕ} {bodies : BoxTerms} {e e' : ClosureEnv} → ClosedTerms (span e') bodies → NarrowsEnv e e' → NarrowsEnv (BindFix rargs bodies e) (BindFix rargs bodies e')

words_narrow : {e e' : ClosureEnv} → NarrowsEnv e e' → (N : ℕ → Bool) → ((i : ℕ) → span e' ≤ i → N i ≡ false) → words e N ≡ words e' N
words_narrow (narrow_past {e = e}) N past = words_none e N (λ i. past i (omega arith))
words_narrow (narrow_bind v h) N past = let a = words_narrow h (λ i. N (suc i)) (λ i l. past (suc i) (omega arith)) in omega (arith, a)
words_narrow (narrow_bind_fix {rargs = rargs} {bodies = bodies} {e' = e'} c h) N past =
    words_narrow h (λ i. N (length rargs + i) || (any_below (length rargs) N && names_terms bodies i))
    (λ i l. or_from (N (length rargs + i)) (any_below (length rargs) N && names_terms bodies i) (past (length rargs + i) (omega arith))
    (and_right (any_below (length rargs) N) (names_terms bodies i) (names_past_terms (span e') bodies i c l)))

-- what a variable holds

record FindsHolds (e' : ClosureEnv) (i : ℕ) (v : ClosureValue) : Type 0 where
  value : ClosureValue
  finds : Finds e' i (Holds value)
  narrows : Narrows v value

finds_holds : {e e' : ClosureEnv} {i : ℕ} {h : Held} {v : ClosureValue} → Finds e i h → h ≡ Holds v → NarrowsEnv e e' → i + 1 ≤ span e' → FindsHolds e' i v
finds_holds f q narrow_past l = absurd (omega arith)
finds_holds found q (narrow_bind {w = w} n h) l = record { value = w; finds = found; narrows = subst (λ (x : ClosureValue). Narrows x w) (held q) n }
  where
    held : {x y : ClosureValue} → Holds x ≡ Holds y → x ≡ y
    held q = grind arith
finds_holds (later g) q (narrow_bind n h) l = let r = finds_holds g q h (omega arith) in record { value = r.value; finds = later r.finds; narrows = r.narrows }
finds_holds (found_fix j p) q (narrow_bind_fix c h) l = absurd (cc)
finds_holds (past_fix j p g) q (narrow_bind_fix c h) l = let r = finds_holds g q h (omega (arith, p)) in record { value = r.value; finds = past_fix j p r.finds; narrows = r.narrows }

record FindsDefines (e' e : ClosureEnv) (i j : ℕ) (rargs : List ℕ) (bodies : BoxTerms) : Type 0 where
  inner : ClosureEnv
  finds : Finds e' i (Defines inner j rargs bodies)
  narrows : NarrowsEnv e inner
  under : ClosedTerms (span inner) bodies

finds_defines : {e e' d : ClosureEnv} {i j : ℕ} {rargs : List ℕ} {bodies : BoxTerms} → Finds e i (Defines d j rargs bodies) → NarrowsEnv e e' → i + 1 ≤ span e' → FindsDefines e' d i j rargs bodies
finds_defines f narrow_past l = absurd (omega arith)
finds_defines (later g) (narrow_bind n h) l = let r = finds_defines g h (omega arith) in record { inner = r.inner; finds = later r.finds; narrows = r.narrows; under = r.under }
finds_defines (found_fix j p) (narrow_bind_fix {e' = e'} c h) l = record { inner = e'; finds = found_fix j p; narrows = h; under = c }
finds_defines (past_fix j p g) (narrow_bind_fix c h) l = let r = finds_defines g h (omega (arith, p)) in record { inner = r.inner; finds = past_fix j p r.finds; narrows = r.narrows; under = r.under }

size_narrow : {vs ws : ClosureValues} → NarrowsAll vs ws → size ws ≡ size vs
size_narrow narrow_none = refl
size_narrow (narrow_more n ns) = ap suc (size_narrow ns)

bind_narrow : {vs ws : ClosureValues} {e e' : ClosureEnv} → NarrowsAll vs ws → NarrowsEnv e e' → NarrowsEnv (bind_all vs e) (bind_all ws e')
bind_narrow narrow_none h = h
bind_narrow (narrow_more n ns) h = narrow_bind n (bind_narrow ns h)

boxes_narrow : (n : ℕ) → NarrowsAll (box_values n) (box_values n)
boxes_narrow zero = narrow_none
boxes_narrow (suc n) = narrow_more narrow_box (boxes_narrow n)

-- what a narrower value is

pub record NarrowClosure (e : ClosureEnv) (t : BoxTerm) (w : ClosureValue) : Type 0 where
  pub inner : ClosureEnv
  pub is : w ≡ VClosure inner t
  pub narrows : NarrowsEnv e inner
  pub under : Closed (1 + span inner) t

pub closure_narrow : {e : ClosureEnv} {t : BoxTerm} {w : ClosureValue} → Narrows (VClosure e t) w → NarrowClosure e t w
closure_narrow (narrow_closure {e' = e'} h c) = record { inner = e'; is = refl; narrows = h; under = c }

pub record NarrowFix (e : ClosureEnv) (i : ℕ) (rargs : List ℕ) (bodies : BoxTerms) (w : ClosureValue) : Type 0 where
  pub inner : ClosureEnv
  pub is : w ≡ VFix inner i rargs bodies
  pub narrows : NarrowsEnv e inner
  pub under : ClosedTerms (span inner) bodies

pub fix_narrow : {e : ClosureEnv} {i : ℕ} {rargs : List ℕ} {bodies : BoxTerms} {w : ClosureValue} → Narrows (VFix e i rargs bodies) w → NarrowFix e i rargs bodies w
fix_narrow (narrow_fix {e' = e'} h c) = record { inner = e'; is = refl; narrows = h; under = c }

record NarrowConstruct (f : FamilyId) (i : ℕ) (vs : ClosureValues) (w : ClosureValue) : Type 0 where
  values : ClosureValues
  is : w ≡ VConstruct f i values
  narrows : NarrowsAll vs values

construct_narrow : {f : FamilyId} {i : ℕ} {vs : ClosureValues} {w : ClosureValue} → Narrows (VConstruct f i vs) w → NarrowConstruct f i vs w
construct_narrow (narrow_construct {ws = ws} h) = record { values = ws; is = refl; narrows = h }

pub box_narrow : {w : ClosureValue} → Narrows VBox w → w ≡ VBox
box_narrow narrow_box = refl

-- where a body is under as many variables as an environment has
bound : (m n : ℕ) (t : BoxTerm) → m ≡ n → Closed m t → Closed n t
bound m n t e c = closed_at t (omega (arith, e)) c

module _ (P : BoxProgram) (bodies : (c : Name) (t : BoxTerm) → KeepsBoxConstant P c t → Closed 0 t) where
  pub record Narrowed (e' : ClosureEnv) (t : BoxTerm) (v : ClosureValue) (c : Counts) : Type 0 where
    pub value : ClosureValue
    pub run : ClosureRun P e' t value c
    pub narrows : Narrows v value

  record NarrowedArgs (e' : ClosureEnv) (f : FamilyId) (i : ℕ) (t : BoxTerm) (vs : ClosureValues) (c : Counts) : Type 0 where
    values : ClosureValues
    run : RunArgs P e' f i t values c
    narrows : NarrowsAll vs values

  mutual
    pub narrowed : {e e' : ClosureEnv} {t : BoxTerm} {v : ClosureValue} {c : Counts} → ClosureRun P e t v c → NarrowsEnv e e' → Closed (span e') t → Narrowed e' t v c
    narrowed run_box h c = record { value = VBox; run = run_box; narrows = narrow_box }
    narrowed (run_value f) h c = let r = finds_holds f refl h (omega (arith, c)) in record { value = r.value; run = run_value r.finds; narrows = r.narrows }
    narrowed {e' = e'} (run_definition {e' = d} {i = i} {j = j} {rargs = rargs} {bodies = bs} f) h c =
        let r = finds_defines f h (omega (arith, c)) in
        let same = ap suc (words_narrow r.narrows (λ i. names_terms bs i) (λ i l. names_past_terms (span r.inner) bs i r.under l)) in
        record { value = VFix r.inner j rargs bs; run = subst (λ n. ClosureRun P e' (Rel i) (VFix r.inner j rargs bs) (block n)) (sym same) (run_definition r.finds); narrows = narrow_fix r.narrows r.under }
    narrowed {e' = e'} (run_lambda {b = t}) h c =
        let same = ap suc (words_narrow h (λ i. names t (suc i)) (λ i l. names_past (1 + span e') t (suc i) c.0 (omega arith))) in
        record { value = VClosure e' t; run = subst (λ n. ClosureRun P e' (BLambda t) (VClosure e' t) (block n)) (sym same) run_lambda; narrows = narrow_closure h c.0 }
    narrowed {e' = e'} {t = t} (run_fix {i = i} {rargs = rargs} {bodies = bs}) h c =
        let same = ap suc (words_narrow h (λ i. names_terms bs i) (λ i l. names_past_terms (span e') bs i c.0 l)) in
        record { value = VFix e' i rargs bs; run = subst (λ n. ClosureRun P e' t (VFix e' i rargs bs) (block n)) (sym same) run_fix; narrows = narrow_fix h c.0 }
    narrowed (run_constant {k = name} {b = t} kept r) h c =
        let x = narrowed r (narrow_past {e = Empty}) (bodies name t kept) in record { value = x.value; run = run_constant kept x.run; narrows = x.narrows }
    narrowed {e' = e'} (run_let {b = a} {t = t} r s) h c =
        let x = narrowed r h (bound (0 + span e') (span e') a (omega arith) c.0) in
        let y = narrowed s (narrow_bind x.narrows h) c.1.0 in
        record { value = y.value; run = run_let x.run y.run; narrows = y.narrows }
    narrowed {e' = e'} (run_app {f = f} {a = a} {c = k} r s q) h c =
        let x = narrowed r h (bound (0 + span e') (span e') f (omega arith) c.0) in
        let y = narrowed s h (bound (0 + span e') (span e') a (omega arith) c.1.0) in
        let g = closure_narrow x.narrows in
        let z = narrowed q (narrow_bind y.narrows g.narrows) g.under in
        record { value = z.value; run = run_app (subst (λ (u : ClosureValue). ClosureRun P e' f u k) g.is x.run) y.run z.run; narrows = z.narrows }
    narrowed {e' = e'} (run_box_app {f = f} {a = a} {c = k} r s) h c =
        let x = narrowed r h (bound (0 + span e') (span e') f (omega arith) c.0) in
        let y = narrowed s h (bound (0 + span e') (span e') a (omega arith) c.1.0) in
        record { value = VBox; run = run_box_app (subst (λ (u : ClosureValue). ClosureRun P e' f u k) (box_narrow x.narrows) x.run) y.run; narrows = narrow_box }
    narrowed {e' = e'} (run_fix_app {f = f} {a = a} {b = t} {i = i} {rargs = rargs} {bodies = bs} {c = k} r s at q) h c =
        let x = narrowed r h (bound (0 + span e') (span e') f (omega arith) c.0) in
        let y = narrowed s h (bound (0 + span e') (span e') a (omega arith) c.1.0) in
        let g = fix_narrow x.narrows in
        let body = closed_term_at (span g.inner) bs i (length rargs) (BLambda t) g.under at in
        let z = narrowed q (narrow_bind y.narrows (narrow_bind_fix g.under g.narrows)) body.0 in
        record { value = z.value; run = run_fix_app (subst (λ (u : ClosureValue). ClosureRun P e' f u k) g.is x.run) y.run at z.run; narrows = z.narrows }
    narrowed {e' = e'} (run_fix_box {f = f} {a = a} {c = k} r s at) h c =
        let x = narrowed r h (bound (0 + span e') (span e') f (omega arith) c.0) in
        let y = narrowed s h (bound (0 + span e') (span e') a (omega arith) c.1.0) in
        let g = fix_narrow x.narrows in
        record { value = VBox; run = run_fix_box (subst (λ (u : ClosureValue). ClosureRun P e' f u k) g.is x.run) y.run at; narrows = narrow_box }
    narrowed (run_construct {f = f} {i = i} kept at l r) h c =
        let x = narrowed_args r h c in
        record { value = VConstruct f i x.values; run = run_construct kept at (size_narrow x.narrows ∙ l) x.run; narrows = narrow_construct x.narrows }
    narrowed {e' = e'} (run_match {i = i} {s = s} {t = t} {bs = bs} {vs = vs} {c = k} kept p r at q) h c =
        let x = narrowed r h (bound (0 + span e') (span e') s (omega arith) c.0) in
        let g = construct_narrow x.narrows in
        let body = closed_term_at (span e') bs i (size vs) t c.1.0 at in
        let y = narrowed q (bind_narrow g.narrows h) (bound (size vs + span e') (span (bind_all g.values e')) t (omega (arith, span_bind g.values e', size_narrow g.narrows)) body) in
        record { value = y.value; run = run_match {w = y.value} kept p (subst (λ (u : ClosureValue). ClosureRun P e' s u k) g.is x.run) (at ∙ ap (λ (n : ℕ). Some (n, t)) (sym (size_narrow g.narrows))) y.run; narrows = y.narrows }
    narrowed {e' = e'} (run_only {k = n} {s = s} {t = t} {c = k} kept p r q) h c =
        let x = narrowed r h (bound (0 + span e') (span e') s (omega arith) c.0) in
        let y = narrowed q (bind_narrow (boxes_narrow n) h) (bound (n + span e') (span (bind_all (box_values n) e')) t (omega (arith, span_bind (box_values n) e', box_values_size n)) c.1.0.0) in
        record { value = y.value; run = run_only kept p (subst (λ (u : ClosureValue). ClosureRun P e' s u k) (box_narrow x.narrows) x.run) y.run; narrows = y.narrows }

    narrowed_args : {e e' : ClosureEnv} {f : FamilyId} {i : ℕ} {t : BoxTerm} {vs : ClosureValues} {c : Counts} → RunArgs P e f i t vs c → NarrowsEnv e e' → Closed (span e') t → NarrowedArgs e' f i t vs c
    narrowed_args run_head h c = record { values = NoValue; run = run_head; narrows = narrow_none }
    narrowed_args {e' = e'} (run_arg {t = f} {a = a} r s) h c =
        let x = narrowed_args r h (bound (0 + span e') (span e') f (omega arith) c.0) in
        let y = narrowed s h (bound (0 + span e') (span e') a (omega arith) c.1.0) in
        record { values = Then y.value x.values; run = run_arg x.run y.run; narrows = narrow_more y.narrows x.narrows }

-- data is itself so, and what is narrower is the same data

mutual
  pub reads_narrow : {v w : ClosureValue} {d : Data} → ValueReads v d → Narrows v w → ValueReads w d
  reads_narrow (value_reads {f = f} {c = c} {ds = ds} r) (narrow_construct {ws = ws} n) = subst (λ (k : ℕ). ValueReads (VConstruct f c ws) ((c, k) ∷ ds)) (size_narrow n) (value_reads (read_narrow r n))

  read_narrow : {vs ws : ClosureValues} {ds : Data} → ValuesRead vs ds → NarrowsAll vs ws → ValuesRead ws ds
  read_narrow no_values narrow_none = no_values
  read_narrow (and_then r s) (narrow_more n ns) = and_then (read_narrow r ns) (reads_narrow s n)

mutual
  pub data_narrow : {v : ClosureValue} {d : Data} → ValueReads v d → Narrows v v
  data_narrow (value_reads r) = narrow_construct (all_data_narrow r)

  all_data_narrow : {vs : ClosureValues} {ds : Data} → ValuesRead vs ds → NarrowsAll vs vs
  all_data_narrow no_values = narrow_none
  all_data_narrow (and_then r s) = narrow_more (data_narrow s) (all_data_narrow r)
