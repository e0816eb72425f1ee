-- A value evaluates to itself, up to what it stands for.
use Rattle.std.proofs.Common.{◌≡◌, ℕ, suc, ◌+◌, List, [], ◌∷◌, length, Some, refl, sym, ap, ◌∙◌, arith, length-append}
use Rattle.std.proofs.lemmas.Option.{same_Some}
use Rattle.std.specs.Prelude.{slice_get}
use Rattle.trees.specs.Tree.{Done}
use Rattle.trees.specs.Closed.{Closed}
use Rattle.pc_terms.specs.declared.leaf.Name.{Name}
use Rattle.pc_terms.specs.declared.leaf.FamilyId.{FamilyId}
use Rattle.box_terms.specs.BoxSyntax.{BoxTerm, BoxTerms, Box, BLambda, BApp, BConstruct, BFix}
use Rattle.lambda_box.specs.BoxProgram.{BoxFamily, BoxProgram, Has, KeepsBoxConstant}
use Rattle.lambda_box.specs.BoxEvaluation.{BoxEvaluates, value, beta, box_app, extend, unfold_fix, BoxUnfolds, unfolds}
use Rattle.lambda_box.specs.ClosureEvaluation.{ClosureValue, ClosureValues, ClosureEnv}
use Rattle.lambda_box.proofs.Spines.{head_of, arguments, arguments_before, fix_head, fix_arguments, closed_evaluates, construct_not_fix}
use Rattle.box_passes.proofs.Standing.{IsValue, is_box, is_lambda, is_fix, is_part, is_part_box, is_construct, is_waiting, Made, made_head, made_dropped, made_kept, Waits, waits_head, waits_more, Part, part_fix, part_app, part_box}

pub one_more : (t u : BoxTerm) → length (arguments (BApp t u) []) ≡ suc (length (arguments t []))
one_more t u =
    let e : length (arguments t []) + 1 ≡ suc (length (arguments t [])) = omega arith in
    ap length (arguments_before t (u ∷ [])) ∙ length-append (arguments t []) (u ∷ []) ∙ e

pub made_is : {P : BoxProgram} {f : FamilyId} {c p j : ℕ} {t : BoxTerm} {vs : ClosureValues} → Made P f c p j t vs → head_of t ≡ BConstruct f c
made_is made_head = refl
made_is (made_dropped l c h) = made_is h
made_is (made_kept l h g) = made_is h

pub made_count : {P : BoxProgram} {f : FamilyId} {c p j : ℕ} {t : BoxTerm} {vs : ClosureValues} → Made P f c p j t vs → length (arguments t []) ≡ j
made_count made_head = refl
made_count (made_dropped {t = t} {u = u} l c h) = one_more t u ∙ ap suc (made_count h)
made_count (made_kept {t = t} {u = u} l h g) = one_more t u ∙ ap suc (made_count h)

pub waits_is : {P : BoxProgram} {f : FamilyId} {c all m : ℕ} {t : BoxTerm} {e : ClosureEnv} → Waits P f c all m t e → head_of t ≡ BConstruct f c
waits_is (waits_head eq) = refl
waits_is (waits_more h g) = waits_is h

pub waits_count : {P : BoxProgram} {f : FamilyId} {c all m : ℕ} {t : BoxTerm} {e : ClosureEnv} → Waits P f c all m t e → length (arguments t []) + m ≡ all
waits_count (waits_head eq) = omega (arith, eq)
waits_count (waits_more {t = t} {u = u} h g) = omega (arith, one_more t u, waits_count h)

abbrev pub index_of : BoxTerm → ℕ
index_of (BFix i rargs bodies) = i
index_of t = 0

abbrev pub rargs_of : BoxTerm → List ℕ
rargs_of (BFix i rargs bodies) = rargs
rargs_of t = []

abbrev pub bodies_of : BoxTerm → BoxTerms
bodies_of (BFix i rargs bodies) = bodies
bodies_of t = Done

-- a fixpoint's number, recursive arguments and definitions, and how many values it waits for before the last
pub record PartOf (n : ℕ) (t : BoxTerm) : Type 0 where
  pub i : ℕ
  pub rargs : List ℕ
  pub bodies : BoxTerms
  pub head : head_of t ≡ BFix i rargs bodies
  pub waits : slice_get rargs i ≡ Some (n + length (arguments t []))

pub part_is : {P : BoxProgram} {n : ℕ} {t b : BoxTerm} {e : ClosureEnv} → Part P n t e b → PartOf n t
part_is (part_fix {i = i} {rargs = rargs} {ts = ts} h eq at) = record { i = i; rargs = rargs; bodies = ts; head = refl; waits = eq ∙ ap Some (omega arith) }
part_is {n = n} (part_app {t = t} {u = u} h g) =
    let r = part_is h in
    record { i = r.i; rargs = r.rargs; bodies = r.bodies; head = r.head; waits = r.waits ∙ ap Some (omega (arith, one_more t u)) }
part_is {n = n} (part_box {t = t} {u = u} h g) =
    let r = part_is h in
    record { i = r.i; rargs = r.rargs; bodies = r.bodies; head = r.head; waits = r.waits ∙ ap Some (omega (arith, one_more t u)) }

pub no_lambda : {f : FamilyId} {c : ℕ} {b : BoxTerm} → BLambda b ≡ BConstruct f c → ⊥
no_lambda e = cc

pub no_box : {f : FamilyId} {c : ℕ} → Box ≡ BConstruct f c → ⊥
no_box e = cc

pub fix_no_construct : {f : FamilyId} {c i : ℕ} {rargs : List ℕ} {bodies : BoxTerms} → BFix i rargs bodies ≡ BConstruct f c → ⊥
fix_no_construct e = cc

-- a fixpoint with some values is no constructor
pub part_no_construct : {P : BoxProgram} {n : ℕ} {t b : BoxTerm} {e : ClosureEnv} {f : FamilyId} {c : ℕ} → Part P n t e b → head_of t ≡ BConstruct f c → ⊥
part_no_construct p e = let q = part_is p in construct_not_fix (sym e ∙ q.head)

-- what unfolds is no constructor, and waits for no value before the last
pub construct_not_unfolded : {g v u : BoxTerm} {f : FamilyId} {c : ℕ} → head_of g ≡ BConstruct f c → BoxUnfolds g v u → ⊥
construct_not_unfolded h (unfolds i rargs bodies xs r l b e) = construct_not_fix (sym h ∙ fix_head xs e)

pub unfolded_now : {P : BoxProgram} {n : ℕ} {g v u b : BoxTerm} {e : ClosureEnv} → Part P n g e b → BoxUnfolds g v u → n ≡ 0
unfolded_now {n = n} {g = g} p (unfolds i rargs bodies xs {rarg = rarg} r l b e) =
    let q = part_is p in
    let same = sym q.head ∙ fix_head xs e in
    let both : Some (n + length (arguments g [])) ≡ Some rarg = sym q.waits ∙ ap (λ t. slice_get (rargs_of t) (index_of t)) same ∙ r in
    let count : length (arguments g []) ≡ length xs = ap length (fix_arguments i rargs bodies xs e) in
    omega (arith, same_Some _ _ both, count, l)

module _ (P : BoxProgram) (constants : (k : Name) (b : BoxTerm) → KeepsBoxConstant P k b → Closed 0 b) where
  mutual
    pub self : {t w : BoxTerm} {v : ClosureValue} {n m : ℕ} → IsValue P t v → BoxEvaluates P t w n m → IsValue P w v
    self is_box (value i) = is_box
    self (is_lambda h) (value i) = is_lambda h
    self (is_fix h l) (value i) = is_fix h l
    self (is_part p) d = is_part (self_part p d)
    self (is_part_box p) d = is_part_box (self_part p d)
    self (is_construct F at h) d = is_construct F at (self_made h d)
    self (is_waiting F at h) d = is_waiting F at (self_waits h d)

    pub self_part : {k : ℕ} {t w b : BoxTerm} {e : ClosureEnv} {n m : ℕ} → Part P k t e b → BoxEvaluates P t w n m → Part P k w e b
    self_part (part_fix h eq at) (value i) = part_fix h eq at
    self_part (part_app p g) (value i) = elim i [ ]
    self_part (part_app p g) (beta d1 d2 d3) = elim (self_part p d1) [ ]
    self_part (part_app p g) (box_app d1 d2) = elim (self_part p d1) [ ]
    self_part (part_app p g) (extend d1 d2 m) = part_app (self_part p d1) (self g d2)
    self_part (part_app p g) (unfold_fix d1 d2 u d3) = let q = unfolded_now (self_part p d1) u in absurd (omega (arith, q))
    self_part (part_box p g) (value i) = elim i [ ]
    self_part (part_box p g) (beta d1 d2 d3) = elim (self_part p d1) [ ]
    self_part (part_box p g) (box_app d1 d2) = elim (self_part p d1) [ ]
    self_part (part_box p g) (extend d1 d2 m) = part_box (self_part p d1) (self g d2)
    self_part (part_box p g) (unfold_fix d1 d2 u d3) = let q = unfolded_now (self_part p d1) u in absurd (omega (arith, q))

    pub self_made : {f : FamilyId} {c p j : ℕ} {t w : BoxTerm} {vs : ClosureValues} {n m : ℕ} → Made P f c p j t vs → BoxEvaluates P t w n m → Made P f c p j w vs
    self_made made_head (value i) = made_head
    self_made (made_dropped l c h) (value i) = elim i [ ]
    self_made (made_dropped l c h) (beta d1 d2 d3) = absurd (no_lambda (made_is (self_made h d1)))
    self_made (made_dropped l c h) (box_app d1 d2) = absurd (no_box (made_is (self_made h d1)))
    self_made (made_dropped l c h) (extend d1 d2 m) = made_dropped l (closed_evaluates constants d2 c) (self_made h d1)
    self_made (made_dropped l c h) (unfold_fix d1 d2 u d3) = absurd (construct_not_unfolded (made_is (self_made h d1)) u)
    self_made (made_kept l h g) (value i) = elim i [ ]
    self_made (made_kept l h g) (beta d1 d2 d3) = absurd (no_lambda (made_is (self_made h d1)))
    self_made (made_kept l h g) (box_app d1 d2) = absurd (no_box (made_is (self_made h d1)))
    self_made (made_kept l h g) (extend d1 d2 m) = made_kept l (self_made h d1) (self g d2)
    self_made (made_kept l h g) (unfold_fix d1 d2 u d3) = absurd (construct_not_unfolded (made_is (self_made h d1)) u)

    pub self_waits : {f : FamilyId} {c all j : ℕ} {t w : BoxTerm} {e : ClosureEnv} {n m : ℕ} → Waits P f c all j t e → BoxEvaluates P t w n m → Waits P f c all j w e
    self_waits (waits_head eq) (value i) = waits_head eq
    self_waits (waits_more h g) (value i) = elim i [ ]
    self_waits (waits_more h g) (beta d1 d2 d3) = absurd (no_lambda (waits_is (self_waits h d1)))
    self_waits (waits_more h g) (box_app d1 d2) = absurd (no_box (waits_is (self_waits h d1)))
    self_waits (waits_more h g) (extend d1 d2 m) = waits_more (self_waits h d1) (self g d2)
    self_waits (waits_more h g) (unfold_fix d1 d2 u d3) = absurd (construct_not_unfolded (waits_is (self_waits h d1)) u)

  -- and that takes no match, where there are no parameters
  module _ (bare : (F : BoxFamily) → Has P.families F → F.params ≡ 0) where
    mutual
      pub quiet : {t w : BoxTerm} {v : ClosureValue} {n m : ℕ} → IsValue P t v → BoxEvaluates P t w n m → m ≡ 0
      quiet is_box (value i) = refl
      quiet (is_lambda h) (value i) = refl
      quiet (is_fix h l) (value i) = refl
      quiet (is_part p) d = quiet_part p d
      quiet (is_part_box p) d = quiet_part p d
      quiet (is_construct F at h) d = quiet_made (bare _ F.0) h d
      quiet (is_waiting F at h) d = quiet_waits h d

      pub quiet_part : {k : ℕ} {t w b : BoxTerm} {e : ClosureEnv} {n m : ℕ} → Part P k t e b → BoxEvaluates P t w n m → m ≡ 0
      quiet_part (part_fix h eq at) (value i) = refl
      quiet_part (part_app p g) (value i) = elim i [ ]
      quiet_part (part_app p g) (beta d1 d2 d3) = elim (self_part p d1) [ ]
      quiet_part (part_app p g) (box_app d1 d2) = elim (self_part p d1) [ ]
      quiet_part (part_app p g) (extend d1 d2 m) = omega (arith, quiet_part p d1, quiet g d2)
      quiet_part (part_app p g) (unfold_fix d1 d2 u d3) = let q = unfolded_now (self_part p d1) u in absurd (omega (arith, q))
      quiet_part (part_box p g) (value i) = elim i [ ]
      quiet_part (part_box p g) (beta d1 d2 d3) = elim (self_part p d1) [ ]
      quiet_part (part_box p g) (box_app d1 d2) = elim (self_part p d1) [ ]
      quiet_part (part_box p g) (extend d1 d2 m) = omega (arith, quiet_part p d1, quiet g d2)
      quiet_part (part_box p g) (unfold_fix d1 d2 u d3) = let q = unfolded_now (self_part p d1) u in absurd (omega (arith, q))

      pub quiet_made : {f : FamilyId} {c p j : ℕ} {t w : BoxTerm} {vs : ClosureValues} {n m : ℕ} → p ≡ 0 → Made P f c p j t vs → BoxEvaluates P t w n m → m ≡ 0
      quiet_made z made_head (value i) = refl
      quiet_made z (made_dropped l c h) d = absurd (omega arith)
      quiet_made z (made_kept l h g) (value i) = elim i [ ]
      quiet_made z (made_kept l h g) (beta d1 d2 d3) = absurd (no_lambda (made_is (self_made h d1)))
      quiet_made z (made_kept l h g) (box_app d1 d2) = absurd (no_box (made_is (self_made h d1)))
      quiet_made z (made_kept l h g) (extend d1 d2 m) = omega (arith, quiet_made z h d1, quiet g d2)
      quiet_made z (made_kept l h g) (unfold_fix d1 d2 u d3) = absurd (construct_not_unfolded (made_is (self_made h d1)) u)

      pub quiet_waits : {f : FamilyId} {c all j : ℕ} {t w : BoxTerm} {e : ClosureEnv} {n m : ℕ} → Waits P f c all j t e → BoxEvaluates P t w n m → m ≡ 0
      quiet_waits (waits_head eq) (value i) = refl
      quiet_waits (waits_more h g) (value i) = elim i [ ]
      quiet_waits (waits_more h g) (beta d1 d2 d3) = absurd (no_lambda (waits_is (self_waits h d1)))
      quiet_waits (waits_more h g) (box_app d1 d2) = absurd (no_box (waits_is (self_waits h d1)))
      quiet_waits (waits_more h g) (extend d1 d2 m) = omega (arith, quiet_waits h d1, quiet g d2)
      quiet_waits (waits_more h g) (unfold_fix d1 d2 u d3) = absurd (construct_not_unfolded (waits_is (self_waits h d1)) u)
