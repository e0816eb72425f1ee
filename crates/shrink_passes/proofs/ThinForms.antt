-- Variables and box put for variables: nodes, depth and form stay.
use Rattle.std.proofs.Common.{◌≡◌, ℕ, zero, suc, ◌+◌, ◌≤◌, List, refl, sym, ap, subst, arith, ⊎_elim}
use Rattle.trees.specs.Tree.{Rel, Done, Next}
use Rattle.trees.specs.Measures.{nodes, nodes_trees, depth, depth_trees}
use Rattle.trees.specs.Parallel.{overs, put, substitute, substitute_terms}
use Rattle.trees.specs.Closed.{Closed}
use Rattle.trees.proofs.Bounds.{closed_at, put_fits, substitute-closed}
use Rattle.trees.proofs.Every.{every_substitute}
use Rattle.box_terms.specs.BoxSyntax.{BoxTerm, BoxTerms, Box, BLambda, BLetIn, BApp, BConst, BConstruct, BCase, BFix}
use Rattle.lambda_box.specs.BoxProgram.{BoxConstant, BoxFamily, NamesKept, NamesOnly}
use Rattle.lambda_box.specs.BoxForm.{HasBoxForm, IsBoxBody}
use Rattle.lambda_box.specs.SaturatedForm.{IsSaturatedAt, AreSaturated}
use Rattle.lambda_box.specs.OrdinaryForm.{IsOrdinary, AreOrdinary}
use Rattle.lambda_box.proofs.FormKept.{form_substituted}
use Rattle.shrink_passes.specs.DropParams.{without_lambda}
use Rattle.shrink_passes.proofs.Thinning.{IsThin, Thins, thins_rel, thins_overs, thins_first}

thin_nodes : (t : BoxTerm) → IsThin t → nodes t ≡ 1
thin_nodes t h = ⊎_elim (λ e. ap nodes e) (λ v. ap nodes v.1) h

thin_depth : (t : BoxTerm) → IsThin t → depth t ≡ 1
thin_depth t h = ⊎_elim (λ e. ap depth e) (λ v. ap depth v.1) h

thin_saturated : (Fs : List BoxFamily) (n : ℕ) (t : BoxTerm) → IsThin t → IsSaturatedAt Fs n t
thin_saturated Fs n t h = ⊎_elim (λ e. subst (IsSaturatedAt Fs n) (sym e) tt) (λ v. subst (IsSaturatedAt Fs n) (sym v.1) tt) h

thin_ordinary : (Fs : List BoxFamily) (t : BoxTerm) → IsThin t → IsOrdinary Fs t
thin_ordinary Fs t h = ⊎_elim (λ e. subst (IsOrdinary Fs) (sym e) tt) (λ v. subst (IsOrdinary Fs) (sym v.1) tt) h

mutual
  thinned_nodes : (s : ℕ → BoxTerm) → Thins s → (t : BoxTerm) → nodes (substitute s t) ≡ nodes t
  thinned_nodes s h (Rel i) = thin_nodes (s i) (h.thin i)
  thinned_nodes s h Box = refl
  thinned_nodes s h (BLambda b) = omega (arith, thinned_nodes (overs 1 s) (thins_overs 1 h) b)
  thinned_nodes s h (BLetIn a t) = omega (arith, thinned_nodes s h a, thinned_nodes (overs 1 s) (thins_overs 1 h) t)
  thinned_nodes s h (BApp f a) = omega (arith, thinned_nodes s h f, thinned_nodes s h a)
  thinned_nodes s h (BConst c) = refl
  thinned_nodes s h (BConstruct f c) = refl
  thinned_nodes s h (BCase f t bs) = omega (arith, thinned_nodes s h t, thinned_nodes_terms s h bs)
  thinned_nodes s h (BFix i rargs bodies) = omega (arith, thinned_nodes_terms s h bodies)

  thinned_nodes_terms : (s : ℕ → BoxTerm) → Thins s → (ts : BoxTerms) → nodes_trees (substitute_terms s ts) ≡ nodes_trees ts
  thinned_nodes_terms s h Done = refl
  thinned_nodes_terms s h (Next n t ts) = omega (arith, thinned_nodes (overs n s) (thins_overs n h) t, thinned_nodes_terms s h ts)

mutual
  pub thinned_depth : (s : ℕ → BoxTerm) → Thins s → (t : BoxTerm) → depth (substitute s t) ≡ depth t
  thinned_depth s h (Rel i) = thin_depth (s i) (h.thin i)
  thinned_depth s h Box = refl
  thinned_depth s h (BLambda b) = omega (arith, thinned_depth (overs 1 s) (thins_overs 1 h) b)
  thinned_depth s h (BLetIn a t) = omega (arith, thinned_depth s h a, thinned_depth (overs 1 s) (thins_overs 1 h) t)
  thinned_depth s h (BApp f a) = omega (arith, thinned_depth s h f, thinned_depth s h a)
  thinned_depth s h (BConst c) = refl
  thinned_depth s h (BConstruct f c) = refl
  thinned_depth s h (BCase f t bs) = omega (arith, thinned_depth s h t, thinned_depth_terms s h bs)
  thinned_depth s h (BFix i rargs bodies) = omega (arith, thinned_depth_terms s h bodies)

  thinned_depth_terms : (s : ℕ → BoxTerm) → Thins s → (ts : BoxTerms) → depth_trees (substitute_terms s ts) ≡ depth_trees ts
  thinned_depth_terms s h Done = refl
  thinned_depth_terms s h (Next n t ts) = omega (arith, thinned_depth (overs n s) (thins_overs n h) t, thinned_depth_terms s h ts)

module _ (Fs : List BoxFamily) where
  mutual
    thinned_saturated : (s : ℕ → BoxTerm) → Thins s → (n : ℕ) (t : BoxTerm) → IsSaturatedAt Fs n t → IsSaturatedAt Fs n (substitute s t)
    thinned_saturated s h n (Rel i) g = thin_saturated Fs n (s i) (h.thin i)
    thinned_saturated s h n Box g = tt
    thinned_saturated s h n (BLambda b) g = thinned_saturated (overs 1 s) (thins_overs 1 h) 0 b g
    thinned_saturated s h n (BLetIn a t) g = (thinned_saturated s h 0 a g.0, thinned_saturated (overs 1 s) (thins_overs 1 h) 0 t g.1)
    thinned_saturated s h n (BApp f a) g = (thinned_saturated s h (suc n) f g.0, thinned_saturated s h 0 a g.1)
    thinned_saturated s h n (BConst c) g = tt
    thinned_saturated s h n (BConstruct f c) g = g
    thinned_saturated s h n (BCase f t bs) g = (thinned_saturated s h 0 t g.0, thinned_saturated_terms s h bs g.1)
    thinned_saturated s h n (BFix i rargs bodies) g = thinned_saturated_terms s h bodies g

    thinned_saturated_terms : (s : ℕ → BoxTerm) → Thins s → (ts : BoxTerms) → AreSaturated Fs ts → AreSaturated Fs (substitute_terms s ts)
    thinned_saturated_terms s h Done g = tt
    thinned_saturated_terms s h (Next n t ts) g = (thinned_saturated (overs n s) (thins_overs n h) 0 t g.0, thinned_saturated_terms s h ts g.1)

  mutual
    thinned_ordinary : (s : ℕ → BoxTerm) → Thins s → (t : BoxTerm) → IsOrdinary Fs t → IsOrdinary Fs (substitute s t)
    thinned_ordinary s h (Rel i) g = thin_ordinary Fs (s i) (h.thin i)
    thinned_ordinary s h Box g = tt
    thinned_ordinary s h (BLambda b) g = thinned_ordinary (overs 1 s) (thins_overs 1 h) b g
    thinned_ordinary s h (BLetIn a t) g = (thinned_ordinary s h a g.0, thinned_ordinary (overs 1 s) (thins_overs 1 h) t g.1)
    thinned_ordinary s h (BApp f a) g = (thinned_ordinary s h f g.0, thinned_ordinary s h a g.1)
    thinned_ordinary s h (BConst c) g = tt
    thinned_ordinary s h (BConstruct f c) g = tt
    thinned_ordinary s h (BCase f t bs) g = ((λ q. ap (substitute_terms s) (g.0 q)), thinned_ordinary s h t g.1, thinned_ordinary_terms s h bs g.2)
    thinned_ordinary s h (BFix i rargs bodies) g = thinned_ordinary_terms s h bodies g

    thinned_ordinary_terms : (s : ℕ → BoxTerm) → Thins s → (ts : BoxTerms) → AreOrdinary Fs ts → AreOrdinary Fs (substitute_terms s ts)
    thinned_ordinary_terms s h Done g = tt
    thinned_ordinary_terms s h (Next n t ts) g = (thinned_ordinary (overs n s) (thins_overs n h) t g.0, thinned_ordinary_terms s h ts g.1)

-- one leading lambda less

box_put : Thins (put Box)
box_put = thins_first thins_rel

pub without_nodes : (p : ℕ) (t : BoxTerm) → nodes (without_lambda p t) ≤ nodes t
without_nodes zero (BLambda b) = omega (arith, thinned_nodes (put Box) box_put b)
without_nodes (suc p) (BLambda b) = omega (arith, without_nodes p b)
without_nodes p t = omega arith

pub without_depth : (p : ℕ) (t : BoxTerm) → depth (without_lambda p t) ≤ depth t
without_depth zero (BLambda b) = omega (arith, thinned_depth (put Box) box_put b)
without_depth (suc p) (BLambda b) = omega (arith, without_depth p b)
without_depth p t = omega arith

pub without_saturated : (Fs : List BoxFamily) (p : ℕ) (t : BoxTerm) → IsSaturatedAt Fs 0 t → IsSaturatedAt Fs 0 (without_lambda p t)
without_saturated Fs zero (BLambda b) h = thinned_saturated Fs (put Box) box_put 0 b h
without_saturated Fs (suc p) (BLambda b) h = without_saturated Fs p b h
without_saturated Fs p t h = h

pub without_ordinary : (Fs : List BoxFamily) (p : ℕ) (t : BoxTerm) → IsOrdinary Fs t → IsOrdinary Fs (without_lambda p t)
without_ordinary Fs zero (BLambda b) h = thinned_ordinary Fs (put Box) box_put b h
without_ordinary Fs (suc p) (BLambda b) h = without_ordinary Fs p b h
without_ordinary Fs p t h = h

pub without_closed : (m p : ℕ) (t : BoxTerm) → Closed m t → Closed m (without_lambda p t)
without_closed m zero (BLambda b) h = substitute-closed b (put Box) (suc m) m (put_fits Box m tt) (closed_at b (omega arith) h.0)
without_closed m (suc p) (BLambda b) h = (without_closed (1 + m) p b h.0, tt)
without_closed m p t h = h

box_form : (Fs : List BoxFamily) (i : ℕ) → HasBoxForm Fs (put Box i)
box_form Fs zero = (tt, tt)
box_form Fs (suc i) = tt

pub without_form : (Fs : List BoxFamily) (p : ℕ) (t : BoxTerm) → HasBoxForm Fs t → HasBoxForm Fs (without_lambda p t)
without_form Fs zero (BLambda b) h = form_substituted Fs b (put Box) (box_form Fs) h.1.0
without_form Fs (suc p) (BLambda b) h = (tt, (without_form Fs p b h.1.0, tt))
without_form Fs p t h = h

box_named : (cs : List BoxConstant) (i : ℕ) → NamesOnly cs (put Box i)
box_named cs zero = (tt, tt)
box_named cs (suc i) = tt

without_named : (cs : List BoxConstant) (p : ℕ) (t : BoxTerm) → NamesOnly cs t → NamesOnly cs (without_lambda p t)
without_named cs zero (BLambda b) h = every_substitute (NamesKept cs) b (put Box) h.1.0 (box_named cs)
without_named cs (suc p) (BLambda b) h = (tt, (without_named cs p b h.1.0, tt))
without_named cs p t h = h

pub without_body : (Fs : List BoxFamily) (cs : List BoxConstant) (p : ℕ) (t : BoxTerm) → IsBoxBody Fs cs t → IsBoxBody Fs cs (without_lambda p t)
without_body Fs cs p t h = record { closed = without_closed 0 p t h.closed; form = without_form Fs p t h.form; named = without_named cs p t h.named }
