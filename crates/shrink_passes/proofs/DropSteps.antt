-- The laws of dropping parameters.
use Rattle.std.proofs.Common.{◌≡◌, ℕ, zero, suc, ◌≤◌, Bool, true, false, List, [], ◌∷◌, refl, sym, ap, ◌∙◌, subst, arith, ◌⊎◌, inl, inr, ⊎_elim}
use Rattle.std.proofs.lemmas.Bool.{and_parts}
use Rattle.std.specs.Prelude.{if◌then◌else◌, reverse}
use Rattle.trees.specs.Measures.{nodes, depth}
use Rattle.trees.specs.Parallel.{put, substitute}
use Rattle.trees.proofs.Every.{every_more}
use Rattle.pc_terms.specs.declared.leaf.Name.{Name}
use Rattle.box_terms.specs.BoxSyntax.{BoxLabel, BoxOf, BLambdaOf, BLetInOf, BAppOf, BConstOf, BConstructOf, BCaseOf, BFixOf, BoxTerm, Box, BLambda}
use Rattle.lambda_box.specs.BoxProgram.{BoxConstant, BoxFamily, BoxProgram, Has, here, there, NamesKept, NamesOnly, KeepsBoxConstant}
use Rattle.lambda_box.specs.BoxForm.{IsBoxBody, AreOrdered, IsBoxProgram}
use Rattle.lambda_box.specs.SaturatedForm.{IsSaturatedAt}
use Rattle.lambda_box.specs.OrdinaryForm.{IsOrdinary}
use Rattle.box_passes.specs.Saturate.{lambdas}
use Rattle.shrink_passes.specs.Uses.{uses, total}
use Rattle.shrink_passes.specs.Inline.{changed, standing, stands}
use Rattle.shrink_passes.specs.DropParams.{fits, fits_constants, fits_program, cut, is_unused, without_lambda, with_constant, is_dead, without_params, leading, drop_from, drop_program}
use Rattle.shrink_passes.specs.ShrinkLaws.{KeepsRuns, Shrinks, DropIsRight}
use Rattle.shrink_passes.proofs.Standing.{total_standing, greatest_standing, nodes_total, greatest_le}
use Rattle.shrink_passes.proofs.Forming.{Apart, apart_from, apart_pairs, done_ordered, done_apart, Coming, coming, has_other, has_split, named_unused, ordered_unused, standing_apart}
use Rattle.shrink_passes.proofs.InlineSteps.{of_standing, to_done, to_rest, no_step, more_steps}
use Rattle.shrink_passes.proofs.Deciding.{start_program}
use Rattle.shrink_passes.proofs.Cutting.{cut_nodes, cut_depth, cut_body, cut_saturated, cut_ordinary, cut_unused, fits_unused}
use Rattle.shrink_passes.proofs.ThinForms.{without_nodes, without_depth, without_saturated, without_ordinary, without_body}
use Rattle.shrink_passes.proofs.DropFollowing.{keeps_runs}

total_le : (h g : BoxTerm → ℕ) → ((t : BoxTerm) → h t ≤ g t) → (ds : List BoxConstant) → total h ds ≤ total g ds
total_le h g e [] = omega arith
total_le h g e (d ∷ ds) = omega (arith, e d.body, total_le h g e ds)

-- the same names

abbrev Same : List BoxConstant → List BoxConstant → Type 0
Same cs ds = (c : Name) → NamesKept cs (BConstOf c) → NamesKept ds (BConstOf c)

same_named : (cs ds : List BoxConstant) → Same cs ds → (t : BoxTerm) → NamesOnly cs t → NamesOnly ds t
same_named cs ds same t h = every_more (NamesKept cs) (NamesKept ds) each t h
  where
    each : (l : BoxLabel) → NamesKept cs l → NamesKept ds l
    each BoxOf h = tt
    each BLambdaOf h = tt
    each BLetInOf h = tt
    each BAppOf h = tt
    each (BConstOf k) h = same k h
    each (BConstructOf f c) h = tt
    each (BCaseOf f) h = tt
    each (BFixOf i rargs) h = tt

same_body : (Fs : List BoxFamily) (cs ds : List BoxConstant) → Same cs ds → (t : BoxTerm) → IsBoxBody Fs cs t → IsBoxBody Fs ds t
same_body Fs cs ds same t h = record { closed = h.closed; form = h.form; named = same_named cs ds same t h.named }

same_more : (x y : BoxConstant) → x.name ≡ y.name → (cs ds : List BoxConstant) → Same cs ds → Same (x ∷ cs) (y ∷ ds)
same_more x y e cs ds same c (t, h) =
    ⊎_elim (λ q. (y.body, subst (λ (n : Name). Has (y ∷ ds) (record { name = n; body = y.body })) (sym (ap (λ (z : BoxConstant). z.name) q ∙ e)) here))
    (λ h. let r = same c (t, h) in (r.0, there r.1)) (has_split h)

module _ (k p : ℕ) (f : BoxTerm → BoxTerm) where
  abbrev g : BoxTerm → BoxTerm
  g t = cut k p (f t)

  standing_same : (rest cs ds : List BoxConstant) → Same cs ds → Same (standing f rest cs) (standing g rest ds)
  standing_same [] cs ds same = same
  standing_same (d ∷ rest) cs ds same = standing_same rest (changed f d ∷ cs) (changed g d ∷ ds) (same_more (changed f d) (changed g d) refl cs ds same)

  standing_ordered : (Fs : List BoxFamily) (rest cs ds : List BoxConstant) → Same cs ds → AreOrdered Fs (standing f rest cs) → AreOrdered Fs ds → AreOrdered Fs (standing g rest ds)
  standing_ordered Fs [] cs ds same o q = q
  standing_ordered Fs (d ∷ rest) cs ds same o q =
      let body = (done_ordered f Fs rest (changed f d ∷ cs) o).0 in
      standing_ordered Fs rest (changed f d ∷ cs) (changed g d ∷ ds) (same_more (changed f d) (changed g d) refl cs ds same) o (same_body Fs cs ds same (g d.body) (cut_body k p Fs cs (f d.body) body), q)

-- the lambda that is dropped, and what it is round
record Lambda (p : ℕ) (b : BoxTerm) : Type 0 where
  inside : BoxTerm
  is : b ≡ lambdas (suc p) inside
  without : without_lambda p b ≡ lambdas p (substitute (put Box) inside)

lambda_at : (p : ℕ) (b : BoxTerm) → is_unused p b ≡ true → Lambda p b
lambda_at zero (BLambda b) e = record { inside = b; is = refl; without = refl }
lambda_at (suc p) (BLambda b) e = let x = lambda_at p b e in record { inside = x.inside; is = ap BLambda x.is; without = ap BLambda x.without }
lambda_at p b e = absurd (cc)

uses_lambdas : (k n : ℕ) (t : BoxTerm) → uses k (lambdas n t) ≡ uses k t
uses_lambdas k zero t = refl
uses_lambdas k (suc n) t = uses_lambdas k n t

pub fits_member : (k p : ℕ) (cs : List BoxConstant) {x : BoxConstant} → fits_constants k p cs ≡ true → Has cs x → fits k p [] x.body ≡ true
fits_member k p [] e h = elim h [ ]
fits_member k p (d ∷ cs) e here = (and_parts (fits k p [] d.body) (fits_constants k p cs) e).0
fits_member k p (d ∷ cs) e (there h) = fits_member k p cs (and_parts (fits k p [] d.body) (fits_constants k p cs) e).1 h

module _ (Fs : List BoxFamily) (done : List BoxConstant) (d : BoxConstant) (rest : List BoxConstant) (main : BoxTerm) (p : ℕ) (b : BoxTerm) (f : BoxTerm → BoxTerm)
    (ok : IsBoxProgram (with_constant Fs done d b f rest main)) (dead : is_dead Fs done d p b f rest main ≡ true) where
  abbrev k : ℕ
  k = d.name.0

  abbrev now : BoxProgram
  now = with_constant Fs done d b f rest main

  abbrev next : BoxProgram
  next = with_constant Fs done d (without_lambda p b) (λ t. cut k p (f t)) rest main

  abbrev old : BoxConstant
  old = record { name = d.name; body = b }

  abbrev new : BoxConstant
  new = record { name = d.name; body = without_lambda p b }

  parts : (is_unused p b ≡ true) × (fits_program k p now ≡ true)
  parts = and_parts (is_unused p b) (fits_program k p now) dead

  fitting : (fits_constants k p now.constants ≡ true) × (fits k p [] now.main ≡ true)
  fitting = and_parts (fits_constants k p now.constants) (fits k p [] now.main) parts.1

  lambda : Lambda p b
  lambda = lambda_at p b parts.0

  ordered : AreOrdered Fs (old ∷ done)
  ordered = done_ordered f Fs rest (old ∷ done) ok.constants

  apart : Apart (standing f rest (old ∷ done))
  apart = apart_from (standing f rest (old ∷ done)) ok.distinct_constants

  own_apart : Apart (old ∷ done)
  own_apart = done_apart f rest (old ∷ done) apart

  body_unused : uses k b ≡ 0
  body_unused = named_unused k done own_apart.0 b ordered.0.named

  inside_unused : uses k lambda.inside ≡ 0
  inside_unused = sym (uses_lambdas k (suc p) lambda.inside) ∙ sym (ap (uses k) lambda.is) ∙ body_unused

  done_member : (cs : List BoxConstant) → total (uses k) cs ≡ 0 → {x : BoxConstant} → Has cs x → uses k x.body ≡ 0
  done_member [] e h = elim h [ ]
  done_member (c ∷ cs) e here = omega arith
  done_member (c ∷ cs) e (there h) = done_member cs (omega arith) h

  done_unused : {x : BoxConstant} → Has done x → uses k x.body ≡ 0
  done_unused h = done_member done (ordered_unused k Fs done ordered.1 own_apart.0) h

  rest_other : (es : List BoxConstant) → Coming f es (old ∷ done) → {e : BoxConstant} → Has es e → e.name.0 ≡ k → ⊥
  rest_other [] c h = elim h [ ]
  rest_other (x ∷ es) c here = λ q. c.0.0 (sym q)
  rest_other (x ∷ es) c (there h) = rest_other es c.1 h

  step_form : IsBoxProgram next
  step_form =
      let same = same_more old new refl done done (λ c h. h) in
      record {
        constants = standing_ordered k p f Fs rest (old ∷ done) (new ∷ done) same ok.constants (without_body Fs done p b ordered.0, ordered.1);
        distinct_constants = apart_pairs next.constants (standing_apart f (λ t. cut k p (f t)) rest (old ∷ done) (new ∷ done) (λ x h. h) apart own_apart);
        distinct_families = ok.distinct_families;
        counts = ok.counts;
        main = same_body Fs now.constants next.constants (standing_same k p f rest (old ∷ done) (new ∷ done) same) next.main (cut_body k p Fs now.constants now.main ok.main);
      }

  abbrev Known : Name → BoxTerm → Type 0
  Known c t = ((c.0 ≡ k) × (t ≡ b) × KeepsBoxConstant next c (lambdas p (substitute (put Box) lambda.inside))) ⊎ ((c.0 ≡ k → ⊥) × (fits k p [] t ≡ true) × KeepsBoxConstant next c (cut k p t))

  itself : KeepsBoxConstant next d.name (lambdas p (substitute (put Box) lambda.inside))
  itself = subst (λ (t : BoxTerm). KeepsBoxConstant next d.name t) lambda.without (to_done (λ t. cut k p (f t)) rest (new ∷ done) here)

  known_of : (x : BoxConstant) → Has (standing f rest (old ∷ done)) x → Known x.name x.body
  known_of x h = ⊎_elim (λ g. of_done g)
      (λ g. inr (
        (λ q. rest_other rest (coming f rest (old ∷ done) apart) g.1 (sym (ap (λ (y : BoxConstant). y.name.0) g.2) ∙ q)),
        fits_member k p (standing f rest (old ∷ done)) fitting.0 h,
        subst (λ (y : BoxConstant). Has next.constants (record { name = y.name; body = cut k p y.body })) (sym g.2) (to_rest (λ t. cut k p (f t)) rest (new ∷ done) g.1),
      )) (of_standing f rest (old ∷ done) h)
    where
      of_done : {x : BoxConstant} → Has (old ∷ done) x → Known x.name x.body
      of_done here = inl (refl, refl, itself)
      of_done {x} (there g) = inr (
        has_other k g own_apart.0,
        fits_unused k p [] x.body (done_unused g),
        to_done (λ t. cut k p (f t)) rest (new ∷ done) (there (subst (λ (t : BoxTerm). Has done (record { name = x.name; body = t })) (sym (cut_unused k p x.body (done_unused g))) g)),
      )

  step_runs : KeepsRuns now next
  step_runs vs args held v data' c run reads =
      keeps_runs k p lambda.inside inside_unused now next refl b lambda.is (λ c t kept. known_of (record { name = c; body = t }) kept) (f main) fitting.1 vs args held v data' c run reads

  pub each_body : (Q : BoxTerm → Type 0) → ((t : BoxTerm) → Q t → Q (cut k p t)) → (Q b → Q (without_lambda p b)) → ((x : BoxConstant) → Has now.constants x → Q x.body) → (x : BoxConstant) → Has next.constants x → Q x.body
  each_body Q cuts drops all x h = ⊎_elim (λ g. of_done g)
      (λ g. subst (λ (y : BoxConstant). Q y.body) (sym g.2) (cuts (f g.0.body) (all (changed f g.0) (to_rest f rest (old ∷ done) g.1))))
      (of_standing (λ t. cut k p (f t)) rest (new ∷ done) h)
    where
      of_done : {x : BoxConstant} → Has (new ∷ done) x → Q x.body
      of_done here = drops (all old (to_done f rest (old ∷ done) here))
      of_done {x} (there g) = all x (to_done f rest (old ∷ done) (there g))

  pub step : Shrinks now next
  step = record {
    form = step_form;
    saturated = λ h. record {
      params = h.params;
      constants = each_body (IsSaturatedAt Fs 0) (λ t s. cut_saturated k p Fs 0 t s) (without_saturated Fs p b) h.constants;
      main = cut_saturated k p Fs 0 (f main) h.main;
    };
    ordinary = λ h. record {
      constants = each_body (IsOrdinary Fs) (λ t s. cut_ordinary k p Fs t s) (without_ordinary Fs p b) h.constants;
      main = cut_ordinary k p Fs (f main) h.main;
    };
    runs = step_runs;
    nodes = omega (
      arith,
      nodes_total now.constants,
      nodes_total next.constants,
      total_standing nodes f rest (old ∷ done),
      total_standing nodes (λ t. cut k p (f t)) rest (new ∷ done),
      total_le (λ t. nodes (cut k p (f t))) (λ t. nodes (f t)) (λ t. cut_nodes k p (f t)) rest,
      cut_nodes k p (f main),
      without_nodes p b,
    );
    no_deeper = omega (
      arith,
      greatest_standing depth f rest (old ∷ done),
      greatest_standing depth (λ t. cut k p (f t)) rest (new ∷ done),
      greatest_le (λ t. depth (cut k p (f t))) (λ t. depth (f t)) (λ t. cut_depth k p (f t)) rest,
      cut_depth k p (f main),
      without_depth p b,
    );
  }

-- all steps

choose : {A : Type 0} (G : A → BoxProgram) {P : BoxProgram} {x y : A} (z : Bool) → (z ≡ true → Shrinks P (G x)) → (z ≡ false → Shrinks P (G y)) → Shrinks P (G (if z then x else y))
choose G true f g = f refl
choose G false f g = g refl

module _ (Fs : List BoxFamily) where
  module _ (done : List BoxConstant) (d : BoxConstant) (rest : List BoxConstant) (main : BoxTerm) where
    abbrev pub whole : BoxTerm × (BoxTerm → BoxTerm) → BoxProgram
    whole r = with_constant Fs done d r.0 r.1 rest main

    pub params_steps : (n p : ℕ) (b : BoxTerm) (f : BoxTerm → BoxTerm) → IsBoxProgram (with_constant Fs done d b f rest main) → Shrinks (with_constant Fs done d b f rest main) (whole (without_params Fs done d rest main n p b f))
    params_steps zero p b f ok = no_step (with_constant Fs done d b f rest main) ok
    params_steps (suc n) p b f ok = choose whole (is_dead Fs done d p b f rest main)
        (λ e. let s = step Fs done d rest main p b f ok e in more_steps s (params_steps n p (without_lambda p b) (λ t. cut d.name.0 p (f t)) s.form))
        (λ e. params_steps n (suc p) b f ok)

  drop_steps : (done : List BoxConstant) (f : BoxTerm → BoxTerm) (rest : List BoxConstant) (main : BoxTerm) → IsBoxProgram (stands Fs done f rest main) → Shrinks (stands Fs done f rest main) (drop_from Fs done f rest main)
  drop_steps done f [] main ok = no_step (stands Fs done f [] main) ok
  drop_steps done f (d ∷ rest) main ok =
      let r = without_params Fs done d rest main (leading (f d.body)) 0 (f d.body) f in
      let s = params_steps done d rest main (leading (f d.body)) 0 (f d.body) f ok in
      more_steps s (drop_steps (record { name = d.name; body = r.0 } ∷ done) r.1 rest main s.form)

pub drop_is_right : DropIsRight
drop_is_right P ok =
    let start = start_program P in
    subst (λ (Q : BoxProgram). Shrinks Q (drop_program P)) start (drop_steps P.families [] (λ t. t) (reverse P.constants) P.main (subst IsBoxProgram (sym start) ok))
