-- A saturated program stands for itself, so both evaluations have the same number of matches.
use Rattle.std.proofs.Common.{◌≡◌, ℕ, ◌+◌, ◌-◌, List, [], ◌∷◌, length, drop, refl, sym, ap, subst, arith}
use Rattle.trees.specs.Tree.{Rel, Done, Next}
use Rattle.trees.specs.Closed.{Closed, ClosedTerms}
use Rattle.trees.proofs.Bounds.{closed_at}
use Rattle.pc_terms.specs.declared.leaf.Name.{Name}
use Rattle.pc_terms.specs.declared.leaf.FamilyId.{FamilyId}
use Rattle.box_terms.specs.BoxSyntax.{BoxTerm, BoxTerms, Box, BLambda, BLetIn, BApp, BConst, BConstruct, BCase, BFix}
use Rattle.lambda_box.specs.BoxProgram.{BoxFamily, BoxProgram, Has, KeepsBoxConstant, KeepsBoxFamily, box_apply}
use Rattle.lambda_box.specs.BoxForm.{IsFixBody, boxed, last, more, AreFixBodies, HasBoxForm, HasBoxFormTerms, IsBoxProgram}
use Rattle.lambda_box.specs.SaturatedForm.{AreEnough, IsSaturatedAt, AreSaturated, IsSaturated}
use Rattle.box_passes.specs.SaturateLaws.{SameMatches}
use Rattle.lambda_box.specs.ClosureEvaluation.{ClosureEnv, Empty, NoValue, bind_all}
use Rattle.lambda_box.specs.DataTerms.{hold_none}
use Rattle.lambda_box.proofs.Naming.{ordered_body}
use Rattle.box_passes.proofs.Standing as standing
use Rattle.box_passes.proofs.Standing.{Stands, StandTerms, none, next, StandBody, body_boxed, body_last, body_more, StandDefs, no_defs, one_def, args_head}
use Rattle.box_passes.proofs.Follows.{FamilyAt, ConstantAt, follows}
use Rattle.lambda_box.proofs.Families.{unique_family}
use Rattle.box_passes.proofs.Saturating.{StandList, no_terms, one_term, stands_apply, all_args}
use Rattle.box_passes.proofs.Keeping.{arguments_held, reads_value}

module _ (P : BoxProgram) (params : (F : BoxFamily) → Has P.families F → F.params ≡ 0) where
  construct_whole : {k : ℕ} {e : ClosureEnv} (f : FamilyId) (c : ℕ) (xs : List BoxTerm) → AreEnough P.families (length xs) f c → StandList P k e xs xs → Stands P k e (box_apply (BConstruct f c) xs) (box_apply (BConstruct f c) xs)
  construct_whole {k} {e} f c xs a gs =
      let z = params a.family a.has in
      let none_dropped : a.family.params - 0 ≡ 0 = omega (arith, z) in
      let r = all_args P f c a.args a.family (a.has, a.id) a.counts {k = k} {e = e} 0 (omega arith) args_head gs (omega (arith, z, a.enough)) in
      subst (λ d. Stands P k e (box_apply (BConstruct f c) xs) (box_apply (BConstruct f c) (drop d xs))) none_dropped r

  mutual
    whole : {k : ℕ} {e : ClosureEnv} (t : BoxTerm) (xs : List BoxTerm) → Closed k t → HasBoxForm P.families t → IsSaturatedAt P.families (length xs) t → StandList P k e xs xs → Stands P k e (box_apply t xs) (box_apply t xs)
    whole (Rel i) xs c h s gs = stands_apply gs (standing.bound c)
    whole Box xs c h s gs = stands_apply gs standing.box
    whole (BLambda b) xs c h s gs = stands_apply gs (standing.lambda (whole b [] c.0 h.1.0 s no_terms))
    whole (BLetIn b t) xs c h s gs = stands_apply gs (standing.let_in (whole b [] c.0 h.1.0 s.0 no_terms) (whole t [] c.1.0 h.1.1.0 s.1 no_terms))
    whole (BApp f a) xs c h s gs = whole f (a ∷ xs) (closed_at f (omega arith) c.0) h.1.0 s.0 (one_term (whole a [] (closed_at a (omega arith) c.1.0) h.1.1.0 s.1 no_terms) gs)
    whole (BConst x) xs c h s gs = stands_apply gs standing.constant
    whole (BConstruct f i) xs c h s gs = construct_whole f i xs s gs
    whole (BCase f s bs) xs c h g gs = stands_apply gs (standing.case (whole s [] c.0 h.1.0 g.0 no_terms) (whole_terms bs c.1.0 h.1.1.0 g.1))
    whole (BFix i rargs bodies) xs c h g gs = stands_apply gs (standing.fix (whole_defs (length rargs) rargs bodies c.0 h.1.0 g h.0.1) h.0.0)

    whole_terms : {k : ℕ} {e : ClosureEnv} (ts : BoxTerms) → ClosedTerms k ts → HasBoxFormTerms P.families ts → AreSaturated P.families ts → StandTerms P k e ts ts
    whole_terms Done c h s = none
    whole_terms (Next n t ts) c h s = next (whole t [] c.0 h.0 s.0 no_terms) (whole_terms ts c.1 h.1 s.1)

    whole_defs : {k : ℕ} {e : ClosureEnv} (n : ℕ) (rs : List ℕ) (ts : BoxTerms) → ClosedTerms k ts → HasBoxFormTerms P.families ts → AreSaturated P.families ts → AreFixBodies n rs ts → StandDefs P n rs k e ts ts
    whole_defs n [] Done c h s f = no_defs
    whole_defs n [] (Next m t ts) c h s f = elim f [ ]
    whole_defs n (r ∷ rs) Done c h s f = elim f [ ]
    whole_defs {k} {e} n (r ∷ rs) (Next m t ts) c h s f =
        subst (λ m. StandDefs P n (r ∷ rs) k e (Next m t ts) (Next m t ts)) (sym f.0) (one_def (whole_body t (closed_at t (ap (λ m. m + k) f.0) c.0) h.0 s.0 f.1) (whole_defs n rs ts c.1 h.1 s.1 f.2))

    whole_body : {k r : ℕ} {e : ClosureEnv} (t : BoxTerm) → Closed k t → HasBoxForm P.families t → IsSaturatedAt P.families 0 t → IsFixBody r t → StandBody P r k e t t
    whole_body Box c h s boxed = body_boxed
    whole_body (Rel i) c h s g = elim g [ ]
    whole_body (BLetIn b t) c h s g = elim g [ ]
    whole_body (BApp f a) c h s g = elim g [ ]
    whole_body (BConst x) c h s g = elim g [ ]
    whole_body (BConstruct f i) c h s g = elim g [ ]
    whole_body (BCase f s bs) c h s' g = elim g [ ]
    whole_body (BFix i rargs bodies) c h s g = elim g [ ]
    whole_body (BLambda b) c h s last = body_last (whole b [] c.0 h.1.0 s no_terms)
    whole_body (BLambda b) c h s (more g) = body_more (whole_body b c.0 h.1.0 s g)

-- a saturated program, over itself
pub same_constants : (P : BoxProgram) → IsBoxProgram P → IsSaturated P → (k : Name) (b : BoxTerm) → KeepsBoxConstant P k b → ConstantAt P P k b
same_constants P ok full k b at =
    let body = ordered_body P.families P.constants ok.constants (record { name = k; body = b }) at in
    record { body = b; keeps = at; stands = whole P full.params b [] body.closed body.form (full.constants (record { name = k; body = b }) at) no_terms }

pub same_families : (P : BoxProgram) (f : FamilyId) (F : BoxFamily) → KeepsBoxFamily P f F → FamilyAt P f F
same_families P f F h = record { family = F; keeps = h; args = refl; propositional = refl }

pub same_main : (P : BoxProgram) → IsBoxProgram P → IsSaturated P → (e : ClosureEnv) → Stands P 0 e P.main P.main
same_main P ok full e = whole P full.params P.main [] ok.main.closed ok.main.form full.main no_terms

pub same_matches : SameMatches
same_matches P ok full us args terms w d n m ev r =
    let a = arguments_held NoValue [] hold_none terms in
    let unique = unique_family P ok in
    let g = follows P P (same_constants P ok full) (same_families P) unique ev (stands_apply a.stands (same_main P ok full (bind_all a.vs Empty))) in
    (a.vs, a.holds, record { v = g.v; counts = g.c; run = g.run; reads = reads_value P P (same_constants P ok full) (same_families P) unique g.is r; matches = g.matches full.params })
