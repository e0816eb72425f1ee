-- Environments that extend others, and the terms that their values are put in for.
use Rattle.std.proofs.Common.{◌≡◌, ℕ, zero, suc, ◌+◌, ◌-◌, ◌<◌, ◌≤◌, List, [], ◌∷◌, ◌++◌, length, drop, Some, refl, sym, ap, ◌∙◌, subst, arith}
use Rattle.std.proofs.lemmas.Option.{same_Some}
use Rattle.std.specs.Prelude.{slice_get}
use Rattle.trees.specs.Tree.{Rel, term_at}
use Rattle.trees.specs.Parallel.{first, put, put_all, substitute}
use Rattle.trees.proofs.Cutoffs.{Order, order, below, past, put_all-past}
use Rattle.pc_terms.specs.declared.leaf.FamilyId.{FamilyId}
use Rattle.box_terms.specs.BoxSyntax.{BoxTerm, BoxTerms, Box, BFix}
use Rattle.lambda_box.specs.BoxProgram.{BoxProgram, boxes, box_fixpoints}
use Rattle.lambda_box.specs.BoxEvaluation.{box_unfolded}
use Rattle.lambda_box.specs.ClosureEvaluation.{ClosureValue, VBox, VFix, ClosureValues, NoValue, Then, ClosureEnv, Bind, BindFix, bind_all, box_values, size, Holds, Defines, Finds, found, later, found_fix, past_fix}
use Rattle.lambda_box.proofs.Spines.{same_body, arguments, arguments_before, boxes_number, fixpoints_number}
use Rattle.box_passes.proofs.Selves.{made_count}
use Rattle.box_passes.proofs.Standing.{IsValue, is_box, is_fix, Stands, StandBody, StandDefs, no_defs, one_def, Made, made_head, made_dropped, made_kept, Extends, Filled, Fills, stands_put, stands_put_body}

extends_one : (v : ClosureValue) (e : ClosureEnv) → Extends e (Bind v e) 1
extends_one v e i h at = let eq : suc i ≡ 1 + i = omega arith in subst (λ n. Finds (Bind v e) n h) eq (later at)

extends_all : (vs : ClosureValues) (e : ClosureEnv) → Extends e (bind_all vs e) (size vs)
extends_all NoValue e i h at = let eq : i ≡ 0 + i = omega arith in subst (λ n. Finds e n h) eq at
extends_all (Then v vs) e i h at = let eq : suc (size vs + i) ≡ suc (size vs) + i = omega arith in subst (λ n. Finds (Bind v (bind_all vs e)) n h) eq (later (extends_all vs e i h at))

extends_fix : (rargs : List ℕ) (bs : BoxTerms) (e : ClosureEnv) → Extends e (BindFix rargs bs e) (length rargs)
extends_fix rargs bs e i h at = past_fix i refl at

fills_one : {P : BoxProgram} {a : BoxTerm} {v : ClosureValue} (e : ClosureEnv) → IsValue P a v → Fills P (Bind v e) 0 1 (put a)
fills_one {P} {a} {v} e h = record { keeps = λ i l. absurd (omega arith); fills = λ i l. one i (0 + i) (omega arith) l }
  where
    one : (i j : ℕ) → j ≡ i → i < 1 → Filled P (Bind v e) i (put a j)
    one zero zero eq l = record { h = Holds v; at = found; is = h }
    one zero (suc j) eq l = absurd (omega arith)
    one (suc i) j eq l = absurd (omega arith)

-- a value put in for the innermost variable
pub stands_one : {P : BoxProgram} {e : ClosureEnv} {t b a : BoxTerm} {v : ClosureValue} → IsValue P a v → Stands P 1 e t b → Stands P 0 (Bind v e) (substitute (put a) t) b
stands_one {P} {e} {a = a} {v = v} g h = stands_put P e (Bind v e) 1 (extends_one v e) 1 0 (put a) refl (fills_one e g) h

pub body_one : {P : BoxProgram} {r : ℕ} {e : ClosureEnv} {t b a : BoxTerm} {v : ClosureValue} → IsValue P a v → StandBody P r 1 e t b → StandBody P r 0 (Bind v e) (substitute (put a) t) b
body_one {P} {e = e} {a = a} {v = v} g h = stands_put_body P e (Bind v e) 1 (extends_one v e) 1 0 (put a) refl (fills_one e g) h

-- boxes
put_boxes : (k : ℕ) (s : ℕ → BoxTerm) (i : ℕ) → i < k → put_all (boxes k) s i ≡ Box
put_boxes zero s i l = absurd (omega arith)
put_boxes (suc k) s i l = go (order k i) (λ b. put_boxes k (first Box s) i b)
  where
    go : Order k i → (i < k → put_all (boxes k) (first Box s) i ≡ Box) → put_all (boxes k) (first Box s) i ≡ Box
    go (below b) rec = rec b
    go (past j e) rec =
        let same : i ≡ length (boxes k) + 0 = omega (arith, boxes_number k) in
        ap (put_all (boxes k) (first Box s)) same ∙ put_all-past (boxes k) (first Box s) 0

finds_boxes : (k : ℕ) (e : ClosureEnv) (i : ℕ) → i < k → Finds (bind_all (box_values k) e) i (Holds VBox)
finds_boxes zero e i l = absurd (omega arith)
finds_boxes (suc k) e zero l = found
finds_boxes (suc k) e (suc i) l = later (finds_boxes k e i (omega arith))

pub box_values_size : (k : ℕ) → size (box_values k) ≡ k
box_values_size zero = refl
box_values_size (suc k) = ap suc (box_values_size k)

pub stands_boxes : {P : BoxProgram} {e : ClosureEnv} {t b : BoxTerm} (k : ℕ) → Stands P (k + 0) e t b → Stands P 0 (bind_all (box_values k) e) (substitute (put_all (boxes k) Rel) t) b
stands_boxes {P} {e} k h =
    stands_put P e (bind_all (box_values k) e) (size (box_values k)) (extends_all (box_values k) e) (k + 0) 0 (put_all (boxes k) Rel) (omega (arith, box_values_size k))
    (record { keeps = λ i l. absurd (omega arith); fills = λ i l. one i (omega (arith, box_values_size k)) }) h
  where
    one : (i : ℕ) → i < k → Filled P (bind_all (box_values k) e) i (put_all (boxes k) Rel (0 + i))
    one i l =
        let same : 0 + i ≡ i = omega arith in
        record { h = Holds VBox; at = finds_boxes k e i l; is = subst (λ t. IsValue P t VBox) (sym (ap (put_all (boxes k) Rel) same ∙ put_boxes k Rel i l)) is_box }

-- the arguments of a constructor
pub made_size : {P : BoxProgram} {f : FamilyId} {c p j : ℕ} {t : BoxTerm} {vs : ClosureValues} → Made P f c p j t vs → size vs ≡ j - p
made_size made_head = omega arith
made_size (made_dropped l c h) = omega (arith, made_size h)
made_size (made_kept l h g) = omega (arith, made_size h)

pub drop_before : (p : ℕ) (xs : List BoxTerm) (u : BoxTerm) → p ≤ length xs → drop p (xs ++ u ∷ []) ≡ drop p xs ++ (u ∷ [])
drop_before zero xs u l = refl
drop_before (suc p) [] u l = absurd (omega arith)
drop_before (suc p) (x ∷ xs) u l = drop_before p xs u (omega arith)

pub drop_first : (p : ℕ) (qs xs : List BoxTerm) → length qs ≡ p → drop p (qs ++ xs) ≡ xs
drop_first zero [] xs l = refl
drop_first zero (q ∷ qs) xs l = absurd (omega arith)
drop_first (suc p) [] xs l = absurd (omega arith)
drop_first (suc p) (q ∷ qs) xs l = drop_first p qs xs (omega arith)

put_last : (xs : List BoxTerm) (u : BoxTerm) (s : ℕ → BoxTerm) → put_all (xs ++ u ∷ []) s ≡ first u (put_all xs s)
put_last [] u s = refl
put_last (x ∷ xs) u s = put_last xs u (first x s)

made_filled : {P : BoxProgram} {f : FamilyId} {c p j : ℕ} {t : BoxTerm} {vs : ClosureValues} (e : ClosureEnv) → Made P f c p j t vs → (i : ℕ) → i < size vs → Filled P (bind_all vs e) i (put_all (drop p (arguments t [])) Rel i)
made_filled e made_head i l = absurd (omega arith)
made_filled e (made_dropped d c h) i l = absurd (omega (arith, made_size h))
made_filled {P} {p = p} {vs = vs} e (made_kept {t = t} {u = u} {vs = ws} {v = v} le h g) i l =
    let same = ap (λ xs. put_all (drop p xs) Rel) (arguments_before t (u ∷ [])) ∙ ap (λ xs. put_all xs Rel) (drop_before p (arguments t []) u (omega (arith, made_count h))) ∙ put_last (drop p (arguments t [])) u Rel in
    subst (λ s. Filled P (Bind v (bind_all ws e)) i (s i)) (sym same) (one i l (λ i l. made_filled e h i l))
  where
    one : (i : ℕ) → i < suc (size ws) → ((i : ℕ) → i < size ws → Filled P (bind_all ws e) i (put_all (drop p (arguments t [])) Rel i)) →
        Filled P (Bind v (bind_all ws e)) i (first u (put_all (drop p (arguments t [])) Rel) i)
    one zero l rec = record { h = Holds v; at = found; is = g }
    one (suc i) l rec = let r = rec i (omega arith) in record { h = r.h; at = later r.at; is = r.is }

pub stands_made : {P : BoxProgram} {f : FamilyId} {c p j : ℕ} {e : ClosureEnv} {t u b : BoxTerm} {vs : ClosureValues} (qs xs : List BoxTerm) → Made P f c p j t vs → arguments t [] ≡ qs ++ xs → length qs ≡ p →
    Stands P (size vs + 0) e u b → Stands P 0 (bind_all vs e) (substitute (put_all xs Rel) u) b
stands_made {P} {p = p} {e = e} {t = t} {vs = vs} qs xs made eq l h =
    stands_put P e (bind_all vs e) (size vs) (extends_all vs e) (size vs + 0) 0 (put_all xs Rel) (omega arith)
    (record { keeps = λ i l. absurd (omega arith); fills = one }) h
  where
    one : (i : ℕ) → i < size vs → Filled P (bind_all vs e) i (put_all xs Rel (0 + i))
    one i lt =
        let same : i ≡ 0 + i = omega arith in
        subst (λ n. Filled P (bind_all vs e) i (put_all xs Rel n)) same
        (subst (λ ys. Filled P (bind_all vs e) i (put_all ys Rel i)) (ap (drop p) eq ∙ drop_first p qs xs l) (made_filled e made i lt))

-- fixpoints
put_fixpoints : (a n : ℕ) (rargs : List ℕ) (ts : BoxTerms) (s : ℕ → BoxTerm) (i j : ℕ) → i + suc j ≡ n → put_all (box_fixpoints a n rargs ts) s i ≡ BFix (a + j) rargs ts
put_fixpoints a zero rargs ts s i j eq = absurd (omega arith)
put_fixpoints a (suc n) rargs ts s i zero eq =
    let same : i ≡ length (box_fixpoints (suc a) n rargs ts) + 0 = omega (arith, fixpoints_number (suc a) n rargs ts) in
    let z : a ≡ a + 0 = omega arith in
    ap (put_all (box_fixpoints (suc a) n rargs ts) (first (BFix a rargs ts) s)) same ∙ put_all-past (box_fixpoints (suc a) n rargs ts) (first (BFix a rargs ts) s) 0 ∙ ap (λ m. BFix m rargs ts) z
put_fixpoints a (suc n) rargs ts s i (suc j) eq =
    let same : suc a + j ≡ a + suc j = omega arith in
    put_fixpoints (suc a) n rargs ts (first (BFix a rargs ts) s) i j (omega arith) ∙ ap (λ m. BFix m rargs ts) same

-- a definition, on both sides
pub record DefAt (P : BoxProgram) (n r k : ℕ) (e : ClosureEnv) (ts bs : BoxTerms) (i : ℕ) : Type 0 where
  pub t : BoxTerm
  pub b : BoxTerm
  pub left : term_at ts i ≡ Some (n, t)
  pub right : term_at bs i ≡ Some (n, b)
  pub stands : StandBody P r (n + k) e t b

pub def_at : {P : BoxProgram} {n r k : ℕ} {rs : List ℕ} {e : ClosureEnv} {ts bs : BoxTerms} (i : ℕ) → StandDefs P n rs k e ts bs → slice_get rs i ≡ Some r → DefAt P n r k e ts bs i
def_at i no_defs eq = absurd (cc)
def_at {P} {n} {r} {k} {e = e} zero (one_def {t = t} {b = b} h hs) eq = record { t = t; b = b; left = refl; right = refl; stands = subst (λ r. StandBody P r (n + k) e t b) (same_Some _ _ eq) h }
def_at (suc i) (one_def h hs) eq = let d = def_at i hs eq in record { t = d.t; b = d.b; left = d.left; right = d.right; stands = d.stands }

pub slice_found : (rs : List ℕ) (i : ℕ) → i < length rs → (r : ℕ) × (slice_get rs i ≡ Some r)
slice_found [] i l = absurd (omega arith)
slice_found (r ∷ rs) zero l = (r, refl)
slice_found (r ∷ rs) (suc i) l = slice_found rs i (omega arith)

-- the body of a fixpoint with the fixpoints put in
pub body_unfolded : {P : BoxProgram} {r : ℕ} {rargs : List ℕ} {e : ClosureEnv} {ts bs : BoxTerms} {x b : BoxTerm} (i : ℕ) → StandDefs P (length rargs) rargs 0 e ts bs → slice_get rargs i ≡ Some r →
    term_at ts i ≡ Some (length rargs, x) → term_at bs i ≡ Some (length rargs, b) → StandBody P r 0 (BindFix rargs bs e) (box_unfolded rargs ts x) b
body_unfolded {P} {r} {rargs} {e} {ts} {bs} {x} {b} i defs at l g =
    let d = def_at i defs at in
    let s = put_all (box_fixpoints 0 (length rargs) rargs ts) Rel in
    let h = subst (λ y. StandBody P r (length rargs + 0) e y d.b) (same_body ts i d.left l) d.stands in
    let h' = subst (λ y. StandBody P r (length rargs + 0) e x y) (same_body bs i d.right g) h in
    stands_put_body P e (BindFix rargs bs e) (length rargs) (extends_fix rargs bs e) (length rargs + 0) 0 s (omega arith) (record { keeps = λ i l. absurd (omega arith); fills = one }) h'
  where
    one : (i : ℕ) → i < length rargs → Filled P (BindFix rargs bs e) i (put_all (box_fixpoints 0 (length rargs) rargs ts) Rel (0 + i))
    one i lt =
        let j = length rargs - suc i in
        let z : 0 + i ≡ i = omega arith in
        let zj : 0 + j ≡ j = omega arith in
        let same = ap (put_all (box_fixpoints 0 (length rargs) rargs ts) Rel) z ∙ put_fixpoints 0 (length rargs) rargs ts Rel i j (omega arith) ∙ ap (λ m. BFix m rargs ts) zj in
        record { h = Defines e j rargs bs; at = found_fix j (omega arith); is = subst (λ t. IsValue P t (VFix e j rargs bs)) (sym same) (is_fix defs (omega arith)) }
