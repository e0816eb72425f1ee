-- How values are entered, and fixpoints opened, on both sides of saturation.
use Rattle.std.proofs.Common.{◌≡◌, ℕ, suc, ◌+◌, ◌*◌, ◌<◌, ◌≤◌, List, [], ◌∷◌, length, Some, refl, sym, ap, ◌∙◌, subst, arith}
use Rattle.std.proofs.lemmas.Option.{same_Some}
use Rattle.std.specs.Prelude.{slice_get}
use Rattle.trees.specs.Tree.{term_at}
use Rattle.trees.specs.Parallel.{put, substitute}
use Rattle.trees.specs.Closed.{Closed}
use Rattle.pc_terms.specs.declared.leaf.Name.{Name}
use Rattle.pc_terms.specs.declared.leaf.FamilyId.{FamilyId}
use Rattle.box_terms.specs.BoxSyntax.{BoxTerm, BoxTerms, Box, BLambda, BApp, BFix}
use Rattle.lambda_box.specs.BoxProgram.{BoxFamily, BoxProgram, Has, KeepsBoxConstant, box_apply}
use Rattle.lambda_box.specs.BoxForm.{IsFixBody, boxed, last, more}
use Rattle.lambda_box.specs.BoxEvaluation.{box_is, BoxTakesMore, box_unfolded, BoxUnfolds, BoxEvaluates, value, beta, box_app, extend, unfold_fix}
use Rattle.lambda_box.specs.ClosureEvaluation.{ClosureValue, VBox, VClosure, VFix, ClosureValues, ClosureEnv, Bind, BindFix, Counts, ◌⊕◌, ClosureRun}
use Rattle.lambda_box.specs.ClosureEvaluation.{run_app, run_box_app, run_fix_app, run_fix_box, RunArgs}
use Rattle.lambda_box.proofs.Spines.{head_of, arguments, arguments_before, fix_head, fix_arguments, construct_not_fix, apply_last}
use Rattle.box_passes.proofs.Standing.{IsValue, is_box, is_lambda, is_fix, is_part, is_part_box, is_construct, is_waiting, Stands, StandBody, body_boxed, body_last, body_more, Made}
use Rattle.box_passes.proofs.Standing.{Part, part_fix, part_app, part_box}
use Rattle.box_passes.proofs.Selves.{made_is, waits_is, part_is, index_of, rargs_of, bodies_of, self, quiet}
use Rattle.box_passes.proofs.Filling.{body_one, def_at, slice_found, body_unfolded}
use Rattle.lambda_box.proofs.Spines.{same_body}
use Rattle.lambda_box.proofs.Determined.{lambda_takes_no_more, box_takes_no_more, lambda_stays, box_stays}

abbrev pub Bare : BoxProgram → Type 0
Bare P = (F : BoxFamily) → Has P.families F → F.params ≡ 0

-- the body, run in the environment, gives a value that is w
pub record Gives (P P' : BoxProgram) (e : ClosureEnv) (b w : BoxTerm) (n m : ℕ) : Type 0 where
  pub v : ClosureValue
  pub c : Counts
  pub run : ClosureRun P' e b v c
  pub is : IsValue P w v
  pub contractions : c.contractions < n
  pub made : c.blocks ≤ 2 * n
  pub matches : Bare P → c.matches ≡ m

pub record GivesArgs (P P' : BoxProgram) (e : ClosureEnv) (f : FamilyId) (i p j : ℕ) (b w : BoxTerm) (n m : ℕ) : Type 0 where
  pub vs : ClosureValues
  pub c : Counts
  pub run : RunArgs P' e f i b vs c
  pub is : Made P f i p j w vs
  pub contractions : c.contractions < n
  pub made : c.blocks < 2 * n
  pub matches : Bare P → c.matches ≡ m

-- how a fixpoint's value is entered
pub data Enter : ClosureValue → ClosureEnv → BoxTerm → Type 0 where
  en_closure : {e : ClosureEnv} {b : BoxTerm} → Enter (VClosure e b) e (BLambda b)
  en_box : {e : ClosureEnv} → Enter VBox e Box
  en_fix : {e : ClosureEnv} {i : ℕ} {rargs : List ℕ} {bs : BoxTerms} {b : BoxTerm} → term_at bs i ≡ Some (length rargs, b) → Enter (VFix e i rargs bs) (BindFix rargs bs e) b

pub record Entry (P : BoxProgram) (t : BoxTerm) (v : ClosureValue) : Type 0 where
  pub n : ℕ
  pub e : ClosureEnv
  pub b : BoxTerm
  pub part : Part P n t e b
  pub enters : Enter v e b

pub fix_entry : {P : BoxProgram} {i : ℕ} {rargs : List ℕ} {ts : BoxTerms} {t : BoxTerm} {v : ClosureValue} → head_of t ≡ BFix i rargs ts → IsValue P t v → Entry P t v
fix_entry e (is_part p) = record { n = _; e = _; b = _; part = p; enters = en_closure }
fix_entry e (is_part_box p) = record { n = _; e = _; b = _; part = p; enters = en_box }
fix_entry e (is_fix {i = i} {rargs = rargs} h l) =
    let at = slice_found rargs i l in
    let d = def_at i h at.1 in
    record { n = _; e = _; b = _; part = part_fix h at.1 d.right; enters = en_fix d.right }
fix_entry e is_box = absurd (cc)
fix_entry e (is_lambda h) = absurd (cc)
fix_entry e (is_construct F at h) = absurd (construct_not_fix (sym (made_is h) ∙ e))
fix_entry e (is_waiting F at h) = absurd (construct_not_fix (sym (waits_is h) ∙ e))

pub part_waits : {P : BoxProgram} {n i k : ℕ} {rargs : List ℕ} {ts : BoxTerms} {t b : BoxTerm} {e : ClosureEnv} → Part P n t e b → head_of t ≡ BFix i rargs ts → slice_get rargs i ≡ Some k → k ≡ n + length (arguments t [])
part_waits p h at =
    let q = part_is p in
    same_Some _ _ (sym at ∙ sym (ap (λ t. slice_get (rargs_of t) (index_of t)) (sym q.head ∙ h)) ∙ q.waits)

body_shape : {P : BoxProgram} {r k : ℕ} {e : ClosureEnv} {t b : BoxTerm} → StandBody P r k e t b → IsFixBody r b
body_shape body_boxed = boxed
body_shape (body_last h) = last
body_shape (body_more h) = more (body_shape h)

pub part_shape : {P : BoxProgram} {n : ℕ} {t b : BoxTerm} {e : ClosureEnv} → Part P n t e b → IsFixBody n b
part_shape (part_fix {i = i} {k = k} {bs = bs} h at g) = let d = def_at i h at in subst (λ b. IsFixBody k b) (same_body bs i d.right g) (body_shape d.stands)
part_shape (part_app p g) = less (part_shape p)
  where
    less : {m : ℕ} {c : BoxTerm} → IsFixBody (suc m) (BLambda c) → IsFixBody m c
    less (more h) = h
part_shape (part_box p g) = boxed

-- what a fixpoint's body evaluates to
pub data LambdaBody (P : BoxProgram) (n : ℕ) (e : ClosureEnv) (b : BoxTerm) : BoxTerm → ℕ → Type 0 where
  lambda_body : {c : BoxTerm} → StandBody P n 1 e c b → LambdaBody P n e b (BLambda c) 0

pub data LastBody (P : BoxProgram) (e : ClosureEnv) (b : BoxTerm) : BoxTerm → ℕ → Type 0 where
  last_body : {c : BoxTerm} → Stands P 1 e c b → LastBody P e b (BLambda c) 0

pub data BoxBody : BoxTerm → ℕ → Type 0 where
  box_body : BoxBody Box 0

lambda_body_of : {P : BoxProgram} {n k m : ℕ} {e : ClosureEnv} {t b w : BoxTerm} → StandBody P (suc n) 0 e t (BLambda b) → BoxEvaluates P t w k m → LambdaBody P n e b w m
lambda_body_of (body_more h) (value i) = lambda_body h

pub last_body_of : {P : BoxProgram} {k m : ℕ} {e : ClosureEnv} {t b w : BoxTerm} → StandBody P 0 0 e t (BLambda b) → BoxEvaluates P t w k m → LastBody P e b w m
last_body_of (body_last h) (value i) = last_body h

pub box_body_of : {P : BoxProgram} {n k m : ℕ} {e : ClosureEnv} {t w : BoxTerm} → StandBody P n 0 e t Box → BoxEvaluates P t w k m → BoxBody w m
box_body_of body_boxed (value i) = box_body

-- some term is the body and evaluates to the value in no more nodes
pub record Opened (P : BoxProgram) (n : ℕ) (e : ClosureEnv) (b w : BoxTerm) (k m : ℕ) : Type 0 where
  pub t : BoxTerm
  pub k' : ℕ
  pub m' : ℕ
  pub stands : StandBody P n 0 e t b
  pub gives : BoxEvaluates P t w k' m'
  pub within : k' ≤ k
  pub matches : Bare P → m' ≡ m

module _ (P : BoxProgram) (closed : (k : Name) (b : BoxTerm) → KeepsBoxConstant P k b → Closed 0 b) where
  opened_beta : (k1 : ℕ) {n k' m' k2 k3 m1 m2 m3 : ℕ} {e : ClosureEnv} {b u v w c t : BoxTerm} {val : ClosureValue} → IsValue P u val → StandBody P (suc n) 0 e t (BLambda b) → BoxEvaluates P t (BLambda c) k' m' → (Bare P → m' ≡ m1) →
      BoxEvaluates P u v k2 m2 → BoxEvaluates P (substitute (put v) c) w k3 m3 → Opened P n (Bind val e) b w (suc (k1 + k2 + k3)) (m1 + m2 + m3)
  opened_beta k1 {n} {m' = m'} {k2} {k3} {m1} {m2} {m3} {e} {b} {u} {v} {w} {c} {val = val} g st ev eq d2 d3 = go (lambda_body_of st ev) eq
    where
      go : {j : ℕ} → LambdaBody P n e b (BLambda c) j → (Bare P → j ≡ m1) → Opened P n (Bind val e) b w (suc (k1 + k2 + k3)) (m1 + m2 + m3)
      go (lambda_body h) q =
          record { t = _; k' = _; m' = _; stands = body_one (self P closed g d2) h; gives = d3; within = omega arith; matches = λ bare. omega (arith, q bare, quiet P closed bare g d2) }

  opened_app : {n k m : ℕ} {e : ClosureEnv} {b s u w : BoxTerm} {val : ClosureValue} → IsValue P u val → ((w' : BoxTerm) (k' m' : ℕ) → BoxEvaluates P s w' k' m' → Opened P (suc n) e (BLambda b) w' k' m') →
      BoxEvaluates P (BApp s u) w k m → Opened P n (Bind val e) b w k m
  opened_app g rec (value i) = elim i [ ]
  opened_app g rec (beta d1 d2 d3) = let o = rec _ _ _ d1 in opened_beta _ g o.stands o.gives o.matches d2 d3
  opened_app g rec (box_app d1 d2) = let o = rec _ _ _ d1 in elim (lambda_body_of o.stands o.gives) [ ]
  opened_app g rec (extend d1 d2 m) = let o = rec _ _ _ d1 in absurd (no (lambda_body_of o.stands o.gives) m)
    where
      no : {n j : ℕ} {e : ClosureEnv} {b w : BoxTerm} → LambdaBody P n e b w j → BoxTakesMore P w → ⊥
      no (lambda_body h) m = lambda_takes_no_more m
  opened_app g rec (unfold_fix d1 d2 x d3) = let o = rec _ _ _ d1 in absurd (no (lambda_body_of o.stands o.gives) x)
    where
      no : {n j : ℕ} {e : ClosureEnv} {b w v u : BoxTerm} → LambdaBody P n e b w j → BoxUnfolds w v u → ⊥
      no (lambda_body h) x = lambda_stays x

  opened_box : {n k m : ℕ} {e : ClosureEnv} {s u w : BoxTerm} {val : ClosureValue} → IsValue P u val → ((w' : BoxTerm) (k' m' : ℕ) → BoxEvaluates P s w' k' m' → Opened P (suc n) e Box w' k' m') →
      BoxEvaluates P (BApp s u) w k m → Opened P n e Box w k m
  opened_box g rec (value i) = elim i [ ]
  opened_box g rec (beta d1 d2 d3) = let o = rec _ _ _ d1 in elim (box_body_of o.stands o.gives) [ ]
  opened_box g rec (box_app d1 d2) = let o = rec _ _ _ d1 in
      record { t = Box; k' = 1; m' = 0; stands = body_boxed; gives = value box_is; within = omega arith; matches = λ bare. omega (arith, zero_of (box_body_of o.stands o.gives), o.matches bare, quiet P closed bare g d2) }
    where
      zero_of : {w : BoxTerm} {j : ℕ} → BoxBody w j → j ≡ 0
      zero_of box_body = refl
  opened_box g rec (extend d1 d2 m) = let o = rec _ _ _ d1 in absurd (no (box_body_of o.stands o.gives) m)
    where
      no : {w : BoxTerm} {j : ℕ} → BoxBody w j → BoxTakesMore P w → ⊥
      no box_body m = box_takes_no_more m
  opened_box g rec (unfold_fix d1 d2 x d3) = let o = rec _ _ _ d1 in absurd (no (box_body_of o.stands o.gives) x)
    where
      no : {w v u : BoxTerm} {j : ℕ} → BoxBody w j → BoxUnfolds w v u → ⊥
      no box_body x = box_stays x

  -- an unfolded fixpoint with its values
  opened : {n k m : ℕ} {t b x w : BoxTerm} {e : ClosureEnv} → Part P n t e b → term_at (bodies_of (head_of t)) (index_of (head_of t)) ≡ Some (length (rargs_of (head_of t)), x) →
      BoxEvaluates P (box_apply (box_unfolded (rargs_of (head_of t)) (bodies_of (head_of t)) x) (arguments t [])) w k m → Opened P n e b w k m
  opened (part_fix {i = i} h at g) at' d = record { t = _; k' = _; m' = _; stands = body_unfolded i h at at' g; gives = d; within = omega arith; matches = λ bare. refl }
  opened {k = k} {m = m} {x = x} {w = w} (part_app {t = t} {u = u} p g) at d =
      let U = box_unfolded (rargs_of (head_of t)) (bodies_of (head_of t)) x in
      let same = ap (box_apply U) (arguments_before t (u ∷ [])) ∙ apply_last U (arguments t []) u in
      opened_app g (λ w' k' m' d. opened p at d) (subst (λ s. BoxEvaluates P s w k m) same d)
  opened {k = k} {m = m} {x = x} {w = w} (part_box {t = t} {u = u} p g) at d =
      let U = box_unfolded (rargs_of (head_of t)) (bodies_of (head_of t)) x in
      let same = ap (box_apply U) (arguments_before t (u ∷ [])) ∙ apply_last U (arguments t []) u in
      opened_box g (λ w' k' m' d. opened p at d) (subst (λ s. BoxEvaluates P s w k m) same d)

  pub opened_at : {n k m : ℕ} {s b x w : BoxTerm} {e : ClosureEnv} (i : ℕ) (rargs : List ℕ) (bodies : BoxTerms) (xs : List BoxTerm) → Part P n s e b → s ≡ box_apply (BFix i rargs bodies) xs → term_at bodies i ≡ Some (length rargs, x) →
      BoxEvaluates P (box_apply (box_unfolded rargs bodies x) xs) w k m → Opened P n e b w k m
  opened_at {k = k} {m} {s} {x = x} {w = w} i rargs bodies xs p eq at d =
      let head = fix_head xs eq in
      let args = fix_arguments i rargs bodies xs eq in
      opened p (subst (λ t. term_at (bodies_of t) (index_of t) ≡ Some (length (rargs_of t), x)) (sym head) at)
      (subst (λ t. BoxEvaluates P (box_apply (box_unfolded (rargs_of t) (bodies_of t) x) (arguments s [])) w k m) (sym head) (subst (λ ys. BoxEvaluates P (box_apply (box_unfolded rargs bodies x) ys) w k m) (sym args) d))

-- one step into a closure or a fixpoint
pub record Entered (P' : BoxProgram) (e : ClosureEnv) (bf ba : BoxTerm) (w : ClosureValue) (c : Counts) : Type 0 where
  pub c' : Counts
  pub run : ClosureRun P' e (BApp bf ba) w c'
  pub contractions : c'.contractions ≤ 2 + c.contractions
  pub blocks : c'.blocks ≡ c.blocks
  pub matches : c'.matches ≡ c.matches

pub enter_run : {P' : BoxProgram} {e e' : ClosureEnv} {bf ba b : BoxTerm} {vf va w : ClosureValue} {c1 c2 c3 : Counts} → Enter vf e' (BLambda b) → ClosureRun P' e bf vf c1 → ClosureRun P' e ba va c2 → ClosureRun P' (Bind va e') b w c3 → Entered P' e bf ba w (c1 ⊕ c2 ⊕ c3)
enter_run en_closure rf ra rb = record { c' = _; run = run_app rf ra rb; contractions = omega arith; blocks = omega arith; matches = omega arith }
enter_run (en_fix at) rf ra rb = record { c' = _; run = run_fix_app rf ra at rb; contractions = omega arith; blocks = omega arith; matches = omega arith }

pub enter_box : {P' : BoxProgram} {e e' : ClosureEnv} {bf ba : BoxTerm} {vf va : ClosureValue} {c1 c2 : Counts} → Enter vf e' Box → ClosureRun P' e bf vf c1 → ClosureRun P' e ba va c2 → Entered P' e bf ba VBox (c1 ⊕ c2)
enter_box en_box rf ra = record { c' = _; run = run_box_app rf ra; contractions = omega arith; blocks = omega arith; matches = omega arith }
enter_box (en_fix at) rf ra = record { c' = _; run = run_fix_box rf ra at; contractions = omega arith; blocks = omega arith; matches = omega arith }
