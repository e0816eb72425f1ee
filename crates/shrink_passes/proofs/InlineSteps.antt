-- The laws of inlining.
use Rattle.std.proofs.Common.{◌≡◌, ℕ, zero, suc, ◌+◌, ◌*◌, ◌≤◌, Bool, true, false, List, [], ◌∷◌, refl, sym, ap, ◌∙◌, subst, arith, ◌⊎◌, inl, inr, ⊎_elim}
use Rattle.std.specs.Prelude.{nat_eq, nat_le, if◌then◌else◌, reverse}
use Rattle.trees.specs.Tree.{Rel, Done, Next}
use Rattle.std.proofs.lemmas.Bool.{eqb-true, eq-eqb, leb-true, and_parts, false≢true}
use Rattle.trees.specs.Closed.{Closed}
use Rattle.trees.specs.Measures.{nodes}
use Rattle.pc_terms.specs.declared.leaf.Name.{Name}
use Rattle.pc_terms.specs.declared.leaf.FamilyId.{FamilyId}
use Rattle.box_terms.specs.BoxSyntax.{BoxTerm, BoxTerms, Box, BLambda, BLetIn, BApp, BConst, BConstruct, BCase, BFix}
use Rattle.lambda_box.specs.BoxProgram.{BoxConstant, BoxFamily, BoxProgram, Has, here, there, KeepsBoxConstant}
use Rattle.lambda_box.specs.BoxForm.{IsBoxProgram}
use Rattle.lambda_box.specs.SaturatedForm.{AreEnough, IsSaturatedAt, AreSaturated, IsSaturated, program_nodes}
use Rattle.lambda_box.specs.OrdinaryForm.{IsOrdinary, AreOrdinary, IsOrdinaryProgram}
use Rattle.lambda_box.proofs.Naming.{ordered_body}
use Rattle.lambda_box.proofs.Families.{one_of_name}
use Rattle.shrink_passes.specs.Uses.{uses, total, uses_program, deepest}
use Rattle.shrink_passes.specs.Inline.{put_in, put_in_terms, changed, standing, stands, with_body, is_put_in, inline_from, inline_program}
use Rattle.shrink_passes.specs.ShrinkLaws.{KeepsRuns, InlineIsRight, Shrinks}
use Rattle.shrink_passes.proofs.Putting.{put_nodes, unused}
use Rattle.shrink_passes.proofs.Standing.{total_standing, nodes_total, total_balance}
use Rattle.shrink_passes.proofs.Forming.{same_name, body_form, body_unused, done_unused, step_form}
use Rattle.shrink_passes.proofs.Deciding.{start_program}
use Rattle.shrink_passes.proofs.Following.{keeps_runs, no_more_self, no_more_trans}

-- saturated and ordinary terms stay so

more_enough : {Fs : List BoxFamily} {n m : ℕ} {f : FamilyId} {c : ℕ} → n ≤ m → AreEnough Fs n f c → AreEnough Fs m f c
more_enough l h = record { family = h.family; has = h.has; id = h.id; args = h.args; counts = h.counts; enough = omega (arith, l, h.enough) }

more_saturated : (Fs : List BoxFamily) (n m : ℕ) (t : BoxTerm) → n ≤ m → IsSaturatedAt Fs n t → IsSaturatedAt Fs m t
more_saturated Fs n m (Rel i) l h = tt
more_saturated Fs n m Box l h = tt
more_saturated Fs n m (BLambda b) l h = h
more_saturated Fs n m (BLetIn b t) l h = h
more_saturated Fs n m (BApp f a) l h = (more_saturated Fs (suc n) (suc m) f (omega arith) h.0, h.1)
more_saturated Fs n m (BConst k) l h = tt
more_saturated Fs n m (BConstruct f c) l h = more_enough l h
more_saturated Fs n m (BCase f s bs) l h = h
more_saturated Fs n m (BFix i rargs bodies) l h = h

module _ (Fs : List BoxFamily) (k : ℕ) (b : BoxTerm) where
  module _ (g : IsSaturatedAt Fs 0 b) where
    mutual
      put_saturated : (n : ℕ) (t : BoxTerm) → IsSaturatedAt Fs n t → IsSaturatedAt Fs n (put_in k b t)
      put_saturated n (Rel i) h = tt
      put_saturated n Box h = tt
      put_saturated n (BLambda t) h = put_saturated 0 t h
      put_saturated n (BLetIn a t) h = (put_saturated 0 a h.0, put_saturated 0 t h.1)
      put_saturated n (BApp f a) h = (put_saturated (suc n) f h.0, put_saturated 0 a h.1)
      put_saturated n (BConst c) h = either (nat_eq c.0 k)
        where
          either : (z : Bool) → IsSaturatedAt Fs n (if z then b else BConst c)
          either true = more_saturated Fs 0 n b (omega arith) g
          either false = tt
      put_saturated n (BConstruct f c) h = h
      put_saturated n (BCase f s bs) h = (put_saturated 0 s h.0, put_saturated_terms bs h.1)
      put_saturated n (BFix i rargs bodies) h = put_saturated_terms bodies h

      put_saturated_terms : (ts : BoxTerms) → AreSaturated Fs ts → AreSaturated Fs (put_in_terms k b ts)
      put_saturated_terms Done h = tt
      put_saturated_terms (Next n t ts) h = (put_saturated 0 t h.0, put_saturated_terms ts h.1)

  no_branches : (bs : BoxTerms) → bs ≡ Done → put_in_terms k b bs ≡ Done
  no_branches bs e = ap (put_in_terms k b) e

  module _ (g : IsOrdinary Fs b) where
    mutual
      put_ordinary : (t : BoxTerm) → IsOrdinary Fs t → IsOrdinary Fs (put_in k b t)
      put_ordinary (Rel i) h = tt
      put_ordinary Box h = tt
      put_ordinary (BLambda t) h = put_ordinary t h
      put_ordinary (BLetIn a t) h = (put_ordinary a h.0, put_ordinary t h.1)
      put_ordinary (BApp f a) h = (put_ordinary f h.0, put_ordinary a h.1)
      put_ordinary (BConst c) h = either (nat_eq c.0 k)
        where
          either : (z : Bool) → IsOrdinary Fs (if z then b else BConst c)
          either true = g
          either false = tt
      put_ordinary (BConstruct f c) h = tt
      put_ordinary (BCase f s bs) h = ((λ p. no_branches bs (h.0 p)), put_ordinary s h.1, put_ordinary_terms bs h.2)
      put_ordinary (BFix i rargs bodies) h = put_ordinary_terms bodies h

      put_ordinary_terms : (ts : BoxTerms) → AreOrdinary Fs ts → AreOrdinary Fs (put_in_terms k b ts)
      put_ordinary_terms Done h = tt
      put_ordinary_terms (Next n t ts) h = (put_ordinary t h.0, put_ordinary_terms ts h.1)

-- constants of a program as it stands

module _ (f : BoxTerm → BoxTerm) where
  pub of_standing : (rest done : List BoxConstant) {x : BoxConstant} → Has (standing f rest done) x → Has done x ⊎ ((d : BoxConstant) × Has rest d × (x ≡ changed f d))
  of_standing [] done h = inl h
  of_standing (d ∷ rest) done h =
      ⊎_elim (λ g. first g) (λ g. inr (g.0, there g.1, g.2)) (of_standing rest (changed f d ∷ done) h)
    where
      first : {x : BoxConstant} → Has (changed f d ∷ done) x → Has done x ⊎ ((e : BoxConstant) × Has (d ∷ rest) e × (x ≡ changed f e))
      first here = inr (d, here, refl)
      first (there g) = inl g

  pub to_done : (rest done : List BoxConstant) {x : BoxConstant} → Has done x → Has (standing f rest done) x
  to_done [] done h = h
  to_done (d ∷ rest) done h = to_done rest (changed f d ∷ done) (there h)

  pub to_rest : (rest done : List BoxConstant) {d : BoxConstant} → Has rest d → Has (standing f rest done) (changed f d)
  to_rest [] done h = elim h [ ]
  to_rest (d ∷ rest) done here = to_done rest (changed f d ∷ done) here
  to_rest (e ∷ rest) done (there h) = to_rest rest (changed f e ∷ done) h

-- one step

module _ (Fs : List BoxFamily) (done : List BoxConstant) (f : BoxTerm → BoxTerm) (d : BoxConstant) (rest : List BoxConstant) (main : BoxTerm) (ok : IsBoxProgram (stands Fs done f (d ∷ rest) main)) where
  abbrev k : ℕ
  k = d.name.0

  abbrev b : BoxTerm
  b = f d.body

  abbrev now : BoxProgram
  now = stands Fs done f (d ∷ rest) main

  abbrev next : BoxProgram
  next = stands Fs done (with_body f d) rest main

  itself : Has now.constants (changed f d)
  itself = to_rest f (d ∷ rest) done here

  -- a body that is done stays
  same_done : {x : BoxConstant} → Has done x → put_in k b x.body ≡ x.body
  same_done h = unused k b _ (none done (done_unused Fs done f d rest main ok) h)
    where
      none : (cs : List BoxConstant) → total (uses k) cs ≡ 0 → {x : BoxConstant} → Has cs x → uses k x.body ≡ 0
      none [] e h = elim h [ ]
      none (c ∷ cs) e here = omega arith
      none (c ∷ cs) e (there h) = none cs (omega arith) h

  stays : (x : BoxConstant) → Has now.constants x → (x.name.0 ≡ k → ⊥) → Has next.constants (record { name = x.name; body = put_in k b x.body })
  stays x h other = ⊎_elim
      (λ g. split g other)
      (λ g. subst (λ (y : BoxConstant). Has next.constants (record { name = y.name; body = put_in k b y.body })) (sym g.2) (to_rest (with_body f d) rest done g.1))
      (of_standing f rest (changed f d ∷ done) h)
    where
      split : {y : BoxConstant} → Has (changed f d ∷ done) y → (y.name.0 ≡ k → ⊥) → Has next.constants (record { name = y.name; body = put_in k b y.body })
      split here other = absurd (other refl)
      split {y} (there g) other = to_done (with_body f d) rest done (subst (λ (t : BoxTerm). Has done (record { name = y.name; body = t })) (sym (same_done g)) g)

  abbrev Known : Name → BoxTerm → Type 0
  Known c t = ((c.0 ≡ k) × (t ≡ b)) ⊎ ((c.0 ≡ k → ⊥) × KeepsBoxConstant next c (put_in k b t))

  known : (c : Name) (t : BoxTerm) → KeepsBoxConstant now c t → Closed 0 t × Known c t
  known c t kept = ((ordered_body Fs now.constants ok.constants (record { name = c; body = t }) kept).closed, either (nat_eq c.0 k) refl)
    where
      either : (z : Bool) → nat_eq c.0 k ≡ z → Known c t
      either true e =
          let q : c.0 ≡ k = eqb-true c.0 k e in
          let same = one_of_name (λ (x : BoxConstant). x.name) now.constants ok.distinct_constants kept itself (same_name c d.name q) in
          inl (q, ap (λ (x : BoxConstant). x.body) same)
      either false e = let other : c.0 ≡ k → ⊥ = λ q. false≢true (sym e ∙ eq-eqb c.0 k q) in inr (other, stays (record { name = c; body = t }) kept other)

  step_runs : KeepsRuns now next
  step_runs vs args held v data' c run reads = keeps_runs k b (body_form Fs done f d rest main ok).closed (body_unused Fs done f d rest main ok) now next refl known (f main) ok.main.closed vs args held v data' c run reads

  one_times : (n m x : ℕ) → n + m ≡ 1 → n * x + m * x ≡ x
  one_times zero m x e = let q : m ≡ 1 = omega arith in ap (λ z. zero * x + z * x) q ∙ omega arith
  one_times (suc n) m x e = let q : m ≡ 0 = omega arith in let p : n ≡ 0 = omega arith in ap (λ z. suc n * x + z * x) q ∙ ap (λ z. suc z * x + 0 * x) p ∙ omega arith

  step_nodes : uses_program k now ≡ 1 → program_nodes next ≤ program_nodes now
  step_nodes one =
      let here : total (λ t. uses k (f t)) rest + uses k (f main) ≡ 1 = omega (arith, one, total_standing (uses k) f rest (changed f d ∷ done), body_unused Fs done f d rest main ok, done_unused Fs done f d rest main ok) in
      omega (
        arith,
        here,
        nodes_total now.constants,
        nodes_total next.constants,
        total_standing nodes f rest (changed f d ∷ done),
        total_standing nodes (with_body f d) rest done,
        total_balance (λ t. nodes (put_in k b (f t))) (λ t. uses k (f t)) (λ t. nodes (f t)) (nodes b) (λ t. put_nodes k b (f t)) rest,
        put_nodes k b (f main),
        one_times (total (λ t. uses k (f t)) rest) (uses k (f main)) (nodes b) here,
      )

  -- what each body of the next program has, where each body of this one has it, and putting in keeps it
  pub each_body : (Q : BoxTerm → Type 0) → ((t : BoxTerm) → Q b → Q t → Q (put_in k b t)) → ((x : BoxConstant) → Has now.constants x → Q x.body) → (x : BoxConstant) → Has next.constants x → Q x.body
  each_body Q put all x h = ⊎_elim
      (λ g. all x (to_done f rest (changed f d ∷ done) (there g)))
      (λ g. subst (λ (y : BoxConstant). Q y.body) (sym g.2) (put (f g.0.body) (all (changed f d) itself) (all (changed f g.0) (to_rest f (d ∷ rest) done (there g.1)))))
      (of_standing (with_body f d) rest done h)

  step_saturated : IsSaturated now → IsSaturated next
  step_saturated h = record {
    params = h.params;
    constants = each_body (IsSaturatedAt Fs 0) (λ t g s. put_saturated Fs k b g 0 t s) h.constants;
    main = put_saturated Fs k b (h.constants (changed f d) itself) 0 (f main) h.main;
  }

  step_ordinary : IsOrdinaryProgram now → IsOrdinaryProgram next
  step_ordinary h = record {
    constants = each_body (IsOrdinary Fs) (λ t g s. put_ordinary Fs k b g t s) h.constants;
    main = put_ordinary Fs k b (h.constants (changed f d) itself) (f main) h.main;
  }

-- all steps

pub no_step : (P : BoxProgram) → IsBoxProgram P → Shrinks P P
no_step P ok = record {
  form = ok;
  saturated = λ h. h;
  ordinary = λ h. h;
  runs = λ vs args held v d c run reads. record { v = v; counts = c; run = run; reads = reads; no_more = no_more_self c };
  nodes = omega arith;
  no_deeper = omega arith;
}

pub more_steps : {P Q R : BoxProgram} → Shrinks P Q → Shrinks Q R → Shrinks P R
more_steps h g = record {
  form = g.form;
  saturated = λ s. g.saturated (h.saturated s);
  ordinary = λ s. g.ordinary (h.ordinary s);
  runs = λ vs args held v d c run reads.
      let x = h.runs vs args held v d c run reads in
      let y = g.runs vs args held x.v d x.counts x.run x.reads in
      record { v = y.v; counts = y.counts; run = y.run; reads = y.reads; no_more = no_more_trans y.no_more x.no_more };
  nodes = omega (arith, h.nodes, g.nodes);
  no_deeper = omega (arith, h.no_deeper, g.no_deeper);
}

choose : {P A B : BoxProgram} (z : Bool) → (z ≡ true → Shrinks P A) → (z ≡ false → Shrinks P B) → Shrinks P (if z then A else B)
choose true f g = f refl
choose false f g = g refl

module _ (Fs : List BoxFamily) where
  all_steps : (done : List BoxConstant) (f : BoxTerm → BoxTerm) (rest : List BoxConstant) (main : BoxTerm) → IsBoxProgram (stands Fs done f rest main) → Shrinks (stands Fs done f rest main) (inline_from Fs done f rest main)
  all_steps done f [] main ok = no_step (stands Fs done f [] main) ok
  all_steps done f (d ∷ rest) main ok = choose (is_put_in Fs done f d rest main)
      (λ e.
      let now = stands Fs done f (d ∷ rest) main in
      let next = stands Fs done (with_body f d) rest main in
      let both = and_parts (nat_eq (uses_program d.name.0 now) 1) (nat_le (deepest next) (deepest now)) e in
      more_steps
      (record {
        form = step_form Fs done f d rest main ok;
        saturated = step_saturated Fs done f d rest main ok;
        ordinary = step_ordinary Fs done f d rest main ok;
        runs = step_runs Fs done f d rest main ok;
        nodes = step_nodes Fs done f d rest main ok (eqb-true (uses_program d.name.0 now) 1 both.0);
        no_deeper = leb-true (deepest next) (deepest now) both.1;
      })
      (all_steps done (with_body f d) rest main (step_form Fs done f d rest main ok)))
      (λ e. all_steps (changed f d ∷ done) f rest main ok)

pub inline_is_right : InlineIsRight
inline_is_right P ok =
    let start = start_program P in
    let x = subst (λ (Q : BoxProgram). Shrinks Q (inline_program P)) start (all_steps P.families [] (λ t. t) (reverse P.constants) P.main (subst IsBoxProgram (sym start) ok)) in
    record { is = refl; form = x.form; saturated = x.saturated; ordinary = x.ordinary; runs = x.runs; nodes = x.nodes; no_deeper = x.no_deeper }
