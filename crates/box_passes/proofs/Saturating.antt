-- The saturated term is what its term stands for.
use Rattle.std.proofs.Common.{◌≡◌, ℕ, suc, ◌+◌, ◌-◌, ◌<◌, ◌≤◌, if◌then◌else◌, List, [], ◌∷◌, length, drop, Some, refl, sym, ap, subst, ⊎_elim, arith}
use Rattle.std.proofs.lemmas.Bool.{cases_lt, le-leb, lt-leb}
use Rattle.std.specs.Prelude.{slice_get}
use Rattle.trees.specs.Tree.{Rel, Done, Next}
use Rattle.trees.specs.Closed.{Closed, ClosedTerms}
use Rattle.trees.proofs.Bounds.{closed_at}
use Rattle.pc_terms.specs.declared.leaf.Name.{Name}
use Rattle.pc_terms.specs.declared.leaf.FamilyId.{FamilyId}
use Rattle.box_terms.specs.BoxSyntax.{BoxTerm, BoxTerms, Box, BLambda, BLetIn, BApp, BConst, BConstruct, BCase, BFix}
use Rattle.lambda_box.specs.BoxProgram.{BoxFamily, BoxProgram, Has, KeepsBoxConstant, KeepsBoxFamily, box_apply}
use Rattle.lambda_box.specs.BoxForm.{IsFixBody, boxed, last, more, AreFixBodies, HasBoxForm, HasBoxFormTerms, IsBoxProgram}
use Rattle.lambda_box.specs.OrdinaryForm.{family_of}
use Rattle.box_passes.specs.Saturate.{constructor_function, saturate_counted, saturate_arguments, saturate_family, saturate_applied, saturate_terms, saturate_term, saturate_constant, without_parameters, saturate_program}
use Rattle.lambda_box.specs.ClosureEvaluation.{ClosureEnv}
use Rattle.lambda_box.proofs.Families.{unique_family, family_found}
use Rattle.lambda_box.proofs.Naming.{ordered_body}
use Rattle.box_passes.proofs.Standing as standing
use Rattle.box_passes.proofs.Standing.{Stands, StandTerms, none, next, StandBody, body_boxed, body_last, body_more, StandDefs, no_defs, one_def, StandArgs, args_head, args_dropped, args_kept, closed_stands}
use Rattle.box_passes.proofs.Follows.{FamilyAt, ConstantAt}
use Rattle.box_passes.proofs.Filling.{slice_found}
use Rattle.trees.proofs.Lists.{has_map}

-- lists of terms

pub data StandList (P : BoxProgram) (k : ℕ) (e : ClosureEnv) : List BoxTerm → List BoxTerm → Type 0 where
  no_terms : StandList P k e [] []
  one_term : {x y : BoxTerm} {xs ys : List BoxTerm} → Stands P k e x y → StandList P k e xs ys → StandList P k e (x ∷ xs) (y ∷ ys)

pub under_none : {P : BoxProgram} {k : ℕ} {e : ClosureEnv} {t b : BoxTerm} → Stands P k e t b → Stands P (0 + k) e t b
under_none {P} {k} {e} {t} {b} h = let z : k ≡ 0 + k = omega arith in subst (λ n. Stands P n e t b) z h

args_under_none : {P : BoxProgram} {k c p j : ℕ} {f : FamilyId} {e : ClosureEnv} {t b : BoxTerm} → StandArgs P k e f c p j t b → StandArgs P (0 + k) e f c p j t b
args_under_none {P} {k} {c} {p} {j} {f} {e} {t} {b} h = let z : k ≡ 0 + k = omega arith in subst (λ n. StandArgs P n e f c p j t b) z h

pub stands_apply : {P : BoxProgram} {k : ℕ} {e : ClosureEnv} {t b : BoxTerm} {xs ys : List BoxTerm} → StandList P k e xs ys → Stands P k e t b → Stands P k e (box_apply t xs) (box_apply b ys)
stands_apply no_terms h = h
stands_apply (one_term g gs) h = stands_apply gs (standing.app (under_none h) (under_none g))

list_length : {P : BoxProgram} {k : ℕ} {e : ClosureEnv} {xs ys : List BoxTerm} → StandList P k e xs ys → length xs ≡ length ys
list_length no_terms = refl
list_length (one_term g gs) = ap suc (list_length gs)

-- a constructor with all its parameters and arguments, and perhaps more
module _ (P : BoxProgram) (f : FamilyId) (c n : ℕ) (F : BoxFamily) (keeps : KeepsBoxFamily P f F) (at : slice_get F.args c ≡ Some n) where
  pub all_args : {k : ℕ} {e : ClosureEnv} {xs ys : List BoxTerm} (j : ℕ) {t b : BoxTerm} → j ≤ F.params + n → StandArgs P k e f c F.params j t b → StandList P k e xs ys → F.params + n ≤ j + length ys →
      Stands P k e (box_apply t xs) (box_apply b (drop (F.params - j) ys))
  all_args {k} {e} j {t} {b} le h no_terms m =
      let none_left : F.params - j ≡ 0 = omega arith in
      subst (λ d. Stands P k e t (box_apply b (drop d []))) (sym none_left) (standing.full keeps at (omega arith) h)
  all_args {k} {e} j {t} {b} le h (one_term {x = x} {y = y} {xs = xs} {ys = ys} g gs) m =
      ⊎_elim (λ lt. dropped lt (λ l a m. all_args (suc j) l a gs m)) (λ le2. ⊎_elim (λ lt. kept le2 lt (λ l a m. all_args (suc j) l a gs m)) (λ le3. over le2 le3) (cases_lt j (F.params + n))) (cases_lt j F.params)
    where
      dropped : j < F.params → (suc j ≤ F.params + n → StandArgs P k e f c F.params (suc j) (BApp t x) b → F.params + n ≤ suc j + length ys → Stands P k e (box_apply (BApp t x) xs) (box_apply b (drop (F.params - suc j) ys))) →
          Stands P k e (box_apply (BApp t x) xs) (box_apply b (drop (F.params - j) (y ∷ ys)))
      dropped lt rec =
          let s : F.params - j ≡ suc (F.params - suc j) = omega arith in
          subst (λ d. Stands P k e (box_apply (BApp t x) xs) (box_apply b (drop d (y ∷ ys)))) (sym s)
          (rec (omega arith) (args_dropped lt (closed_stands (under_none g)) (args_under_none h)) (omega arith))

      kept : F.params ≤ j → j < F.params + n → (suc j ≤ F.params + n → StandArgs P k e f c F.params (suc j) (BApp t x) (BApp b y) → F.params + n ≤ suc j + length ys →
          Stands P k e (box_apply (BApp t x) xs) (box_apply (BApp b y) (drop (F.params - suc j) ys))) → Stands P k e (box_apply (BApp t x) xs) (box_apply b (drop (F.params - j) (y ∷ ys)))
      kept le lt rec =
          let z : F.params - j ≡ 0 = omega arith in
          let z' : F.params - suc j ≡ 0 = omega arith in
          let r = rec (omega arith) (args_kept le (args_under_none h) (under_none g)) (omega arith) in
          subst (λ d. Stands P k e (box_apply (BApp t x) xs) (box_apply b (drop d (y ∷ ys)))) (sym z) (subst (λ d. Stands P k e (box_apply (BApp t x) xs) (box_apply (BApp b y) (drop d ys))) z' r)

      over : F.params ≤ j → F.params + n ≤ j → Stands P k e (box_apply (BApp t x) xs) (box_apply b (drop (F.params - j) (y ∷ ys)))
      over le1 le2 =
          let z : F.params - j ≡ 0 = omega arith in
          subst (λ d. Stands P k e (box_apply (BApp t x) xs) (box_apply b (drop d (y ∷ ys)))) (sym z) (stands_apply (one_term g gs) (standing.full keeps at (omega arith) h))

  counted : {k : ℕ} {e : ClosureEnv} {xs ys : List BoxTerm} → StandList P k e xs ys → Stands P k e (box_apply (BConstruct f c) xs) (saturate_counted F.params n f c ys)
  counted {k} {e} {xs} {ys} gs =
      ⊎_elim
      (λ lt. subst (λ q. Stands P k e (box_apply (BConstruct f c) xs) (if q then box_apply (BConstruct f c) (drop F.params ys) else box_apply (constructor_function F.params n f c) ys)) (sym (lt-leb (F.params + n) (length ys) lt))
      (stands_apply gs (standing.alone keeps at (omega arith) refl)))
      (λ le. subst (λ q. Stands P k e (box_apply (BConstruct f c) xs) (if q then box_apply (BConstruct f c) (drop F.params ys) else box_apply (constructor_function F.params n f c) ys)) (sym (le-leb (F.params + n) (length ys) le))
      (let z : F.params - 0 ≡ F.params = omega arith in subst (λ d. Stands P k e (box_apply (BConstruct f c) xs) (box_apply (BConstruct f c) (drop d ys))) z (all_args 0 (omega arith) args_head gs (omega arith))))
      (cases_lt (length ys) (F.params + n))

module _ (P : BoxProgram) (unique : (f : FamilyId) (F G : BoxFamily) → KeepsBoxFamily P f F → KeepsBoxFamily P f G → F ≡ G) where
  construct_stands : {k : ℕ} {e : ClosureEnv} {xs ys : List BoxTerm} (f : FamilyId) (c : ℕ) (F : BoxFamily) → Has P.families F → F.id ≡ f → c < length F.args → StandList P k e xs ys →
      Stands P k e (box_apply (BConstruct f c) xs) (saturate_family (family_of P.families f) f c ys)
  construct_stands {k} {e} {xs} {ys} f c F h id lt gs =
      let r = family_found P.families f F h id in
      let same = unique f F r.family (h, id) (r.has, r.id) in
      let at = slice_found r.family.args c (subst (λ G. c < length G.args) same lt) in
      subst (λ o. Stands P k e (box_apply (BConstruct f c) xs) (saturate_family o f c ys)) (sym r.finds)
      (subst (λ o. Stands P k e (box_apply (BConstruct f c) xs) (saturate_arguments r.family.params o f c ys)) (sym at.1) (counted P f c at.0 r.family (r.has, r.id) at.1 gs))

  mutual
    pub stands_applied : {k : ℕ} {e : ClosureEnv} (t : BoxTerm) {xs ys : List BoxTerm} → Closed k t → HasBoxForm P.families t → StandList P k e xs ys → Stands P k e (box_apply t xs) (saturate_applied P.families t ys)
    stands_applied (Rel i) c h gs = stands_apply gs (standing.bound c)
    stands_applied Box c h gs = stands_apply gs standing.box
    stands_applied (BLambda b) c h gs = stands_apply gs (standing.lambda (stands_applied b c.0 h.1.0 no_terms))
    stands_applied (BLetIn b t) c h gs = stands_apply gs (standing.let_in (stands_applied b c.0 h.1.0 no_terms) (stands_applied t c.1.0 h.1.1.0 no_terms))
    stands_applied {k} (BApp f a) c h gs = stands_applied f (closed_at f (omega arith) c.0) h.1.0 (one_term (stands_applied a (closed_at a (omega arith) c.1.0) h.1.1.0 no_terms) gs)
    stands_applied (BConst x) c h gs = stands_apply gs standing.constant
    stands_applied (BConstruct f i) c h gs = let q = h.0 in construct_stands f i q.0 q.1 q.2 q.3 gs
    stands_applied (BCase f s bs) c h gs = stands_apply gs (standing.case (stands_applied s c.0 h.1.0 no_terms) (stands_saturated bs c.1.0 h.1.1.0))
    stands_applied (BFix i rargs bodies) c h gs = stands_apply gs (standing.fix (stands_defs (length rargs) rargs bodies c.0 h.1.0 h.0.1) h.0.0)

    stands_saturated : {k : ℕ} {e : ClosureEnv} (ts : BoxTerms) → ClosedTerms k ts → HasBoxFormTerms P.families ts → StandTerms P k e ts (saturate_terms P.families ts)
    stands_saturated Done c h = none
    stands_saturated (Next n t ts) c h = next (stands_applied t c.0 h.0 no_terms) (stands_saturated ts c.1 h.1)

    stands_defs : {k : ℕ} {e : ClosureEnv} (n : ℕ) (rs : List ℕ) (ts : BoxTerms) → ClosedTerms k ts → HasBoxFormTerms P.families ts → AreFixBodies n rs ts → StandDefs P n rs k e ts (saturate_terms P.families ts)
    stands_defs n [] Done c h f = no_defs
    stands_defs n [] (Next m t ts) c h f = elim f [ ]
    stands_defs n (r ∷ rs) Done c h f = elim f [ ]
    stands_defs {k} {e} n (r ∷ rs) (Next m t ts) c h f =
        subst (λ m. StandDefs P n (r ∷ rs) k e (Next m t ts) (Next m (saturate_term P.families t) (saturate_terms P.families ts))) (sym f.0)
        (one_def (stands_body t (closed_at t (ap (λ m. m + k) f.0) c.0) h.0 f.1) (stands_defs n rs ts c.1 h.1 f.2))

    stands_body : {k r : ℕ} {e : ClosureEnv} (t : BoxTerm) → Closed k t → HasBoxForm P.families t → IsFixBody r t → StandBody P r k e t (saturate_term P.families t)
    stands_body Box c h boxed = body_boxed
    stands_body (Rel i) c h g = elim g [ ]
    stands_body (BLetIn b t) c h g = elim g [ ]
    stands_body (BApp f a) c h g = elim g [ ]
    stands_body (BConst x) c h g = elim g [ ]
    stands_body (BConstruct f i) c h g = elim g [ ]
    stands_body (BCase f s bs) c h g = elim g [ ]
    stands_body (BFix i rargs bodies) c h g = elim g [ ]
    stands_body (BLambda b) c h last = body_last (stands_applied b c.0 h.1.0 no_terms)
    stands_body (BLambda b) c h (more g) = body_more (stands_body b c.0 h.1.0 g)

-- the program's parts
pub saturated_constant : (P : BoxProgram) → IsBoxProgram P → (k : Name) (b : BoxTerm) → KeepsBoxConstant P k b → ConstantAt P (saturate_program P) k b
saturated_constant P ok k b at =
    let body = ordered_body P.families P.constants ok.constants (record { name = k; body = b }) at in
    record { body = saturate_term P.families b; keeps = has_map (saturate_constant P.families) at; stands = stands_applied P (unique_family P ok) b body.closed body.form no_terms }

pub saturated_family : (P : BoxProgram) (f : FamilyId) (F : BoxFamily) → KeepsBoxFamily P f F → FamilyAt (saturate_program P) f F
saturated_family P f F h = record { family = without_parameters F; keeps = (has_map without_parameters h.0, h.1); args = refl; propositional = refl }
