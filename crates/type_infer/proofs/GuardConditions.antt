-- What the guard of a fixpoint is asked for, once its types and its definitions have been judged.
use Rattle.std.proofs.Common.{◌≡◌, ◌∙◌, sym, ap, refl, ℕ, zero, suc, ◌<◌, List, [], ◌∷◌, length, Some, Ok, arith, subst as transport}
use Rattle.pc_terms.specs.declared.leaf.FamilyId.{FamilyId}
use Rattle.pc_terms.specs.Formed.{binders_of, AreAll, IsFormed}
use Rattle.pc_terms.specs.Syntax.{Term, Terms, Done, Next, Lambda, Ind, Fix, apply, head, args, number, term_at, shift, list_of}
use Rattle.pc_rules.specs.declared.broken.Broken.TheVariants.{RecArgNotInductive}
use Rattle.calculus_rules.specs.declared.entry.Entry.TheVariants.{Assumed}
use Rattle.pc_rules.specs.declared.meter.Account.{Account}
use Rattle.pc_rules.specs.declared.meter.Meter.{Meter}
use Rattle.calculus_rules.specs.Environment.{Env}
use Rattle.calculus_rules.specs.Context.{Context, Values, values, under}
use Rattle.calculus_rules.specs.Instances.{definitions}
use Rattle.calculus_rules.specs.Step.{Root, beta, zeta, constant, variable, matched, fixpoint}
use Rattle.calculus_rules.specs.WeakHead.{WeakStep, at_root, in_function, in_scrutinee, in_argument, IsWhnf}
use Rattle.calculus_rules.specs.Typing.{Types, bare, fix}
use Rattle.pc_rules.specs.FixConditions.{HasLambdas, DomainIsFamily, DomainsAreFamilies, RecursesOnFamilies}
use Rattle.pc_rules.specs.WellCounted.{IsCounted}
use Rattle.pc_rules.specs.Entailment.{test_of}
use Rattle.pc_rules.specs.Follows.{Follows}
use Rattle.pc_rules.specs.DirectedRun as run
use Rattle.pc_rules.specs.DirectedRun.{Run, done, make, bind}
use Rattle.pc_rules.specs.DirectedWeakHead.{whnf}
use Rattle.pc_rules.specs.DirectedComparison.{Comparison, compare}
use Rattle.pc_rules.specs.DirectedTyping.{Typing, infer, check, types_rule, recursive_domain, enough_abstractions, is_a_family, family_found, definition_rule, definitions_rule}
use Rattle.calculus_rules.proofs.Bare.{bare_sorts, bare_bodies}
use Rattle.pc_rules.proofs.FairReduction.{steps_lead}
use Rattle.calculus_rules.proofs.Spines.{head-apply, one_item}
use Rattle.pc_rules.proofs.WeakNext.{none_some}
use Rattle.calculus_rules.proofs.Spines.{spine_is}
use Rattle.rule_laws.proofs.Runs.{bind_both, make_then, tested}
use Rattle.rule_laws.proofs.Comparing.{names_long, compare_sound}
use Rattle.rule_laws.proofs.FixRule.{types_sound, bodies_sound, enough, a_family}
use Rattle.rule_laws.proofs.Inferring.{infer_sound}
use Rattle.rule_laws.proofs.TypedLambdas.{typed_lambdas}
use Rattle.type_infer.specs.Ready.{IsReady}
use Rattle.type_infer.proofs.Beginning.{decides}
use Rattle.calculus_rules.proofs.Telescopes.{under_none}

-- a family applied to arguments has no weak-head step

no_root : {E : Env} {V : Values} (f : FamilyId) {t u : Term} → head t ≡ Ind f → Root E V t u → ⊥
no_root f e beta = cc
no_root f e zeta = cc
no_root f e (constant k) = cc
no_root f e (variable p) = cc
no_root f e (matched k p q) = cc
no_root f e (fixpoint i rargs types bodies before r l k b p) =
    let q : head (apply (Fix i rargs types bodies) before) ≡ Ind f = sym (ap head p) ∙ e in
    let r : Fix i rargs types bodies ≡ Ind f = sym (head-apply (Fix i rargs types bodies) before) ∙ q in
    cc

pub no_step_at : {E : Env} {V : Values} (f : FamilyId) {t u : Term} → head t ≡ Ind f → WeakStep E V t u → ⊥
no_step_at f e (at_root r) = no_root f e r
no_step_at f e (in_function p) = no_step_at f e p
no_step_at f e (in_scrutinee p) = cc
no_step_at f e (in_argument i rarg rargs types bodies before p r l q) =
    let q : head (apply (Fix i rargs types bodies) before) ≡ Ind f = sym (ap head p) ∙ e in
    let r : Fix i rargs types bodies ≡ Ind f = sym (head-apply (Fix i rargs types bodies) before) ∙ q in
    cc

-- the domain of the recursive argument

pub domain_is : (E : Env) (c : Context) (r : ℕ) (t : Term) (p : Context × Term) (f : FamilyId) (xs : List Term) → recursive_domain c r t ≡ Some p →
    IsWhnf E (values p.0) p.1 (apply (Ind f) xs) → DomainIsFamily E (values c) r t
domain_is E c zero (Lambda A b) p f xs e h = (f, (xs, transport (λ p. IsWhnf E (values p.0) p.1 (apply (Ind f) xs)) (sym (one_item e)) h))
domain_is E c (suc r) (Lambda A b) p f xs e h = domain_is E (Assumed A ∷ c) r b p f xs e h
domain_is E c r t p f xs e h = absurd (none_some e)

module _ (E : Env) (inf : Typing) (cmp : Comparison) (c : Context) (n : ℕ) where
  definition_domain : (d r : ℕ) (T body : Term) (u v : Account) → (definition_rule E inf cmp c n d r T body u).end ≡ run.Done tt v → DomainIsFamily E (values c) r body
  definition_domain d r T body u v h =
      let S : Term = shift n 0 T in
      let k3 : Context × Term → Unit {0} → Account → Run (Unit {0}) = λ p _ x. bind (whnf E (values p.0) p.1 x) (λ W y. family_found W y) in
      let k2 : Context × Term → Term → Account → Run (Unit {0}) = λ p S w. bind (check E inf cmp c body S w) (k3 p) in
      let k1 : Context × Term → Account → Run (Unit {0}) = λ p v. bind (make S v) (k2 p) in
      let p1 = bind_both (enough_abstractions d (recursive_domain c r body) u) k1 tt v h in
      let q : Context × Term = p1.0 in
      let h2 = make_then S p1.1 (k2 q) p1.3 in
      let p2 = bind_both (check E inf cmp c body S p1.1) (k3 q) tt v h2 in
      let p3 = bind_both (whnf E (values q.0) q.1 p2.1) (λ W y. family_found W y) tt v p2.3 in
      let W : Term = p3.0 in
      let g = a_family (head W) (tested (is_a_family (head W)) (done tt p3.1) (RecArgNotInductive W) p3.1 tt v p3.3).0 in
      let e : recursive_domain c r body ≡ Some q = enough d (recursive_domain c r body) q u p1.1 p1.2 in
      let spine : W ≡ apply (Ind g.0) (args W) = spine_is W ∙ ap (λ x. apply x (args W)) g.1 in
      let end : IsWhnf E (values q.0) q.1 W = (steps_lead E (values q.0) p2.1.left q.1 W p2.1 p3.1 p3.2, λ u s. no_step_at g.0 g.1 s) in
      domain_is E c r body q g.0 (args W) e (transport (λ x. IsWhnf E (values q.0) q.1 x) spine end)

  definitions_domains : (d : ℕ) (rargs : List ℕ) (types bodies : Terms) (u v : Account) → length (binders_of types) ≡ length rargs → length (binders_of bodies) ≡ length rargs →
      (definitions_rule E inf cmp c n d rargs (list_of types) (list_of bodies) u).end ≡ run.Done tt v → DomainsAreFamilies E (values c) rargs bodies
  unfolding definitions_rule
  definitions_domains d [] Done Done u v l l' h = tt
  definitions_domains d [] (Next m T ts) bs u v l l' h = absurd (omega arith)
  definitions_domains d [] Done (Next m t ts) u v l l' h = absurd (omega arith)
  definitions_domains d (r ∷ rargs) Done bs u v l l' h = absurd (omega arith)
  definitions_domains d (r ∷ rargs) (Next m T ts) Done u v l l' h = absurd (omega arith)
  definitions_domains d (r ∷ rargs) (Next m T ts) (Next m' body bs) u v l l' h =
      let p = bind_both (definition_rule E inf cmp c n d r T body u) (λ _ v. definitions_rule E inf cmp c n (suc d) rargs (list_of ts) (list_of bs) v) tt v h in (
        definition_domain d r T body u p.1 p.2,
        definitions_domains (suc d) rargs ts bs p.1 v (omega arith) (omega arith) p.3,
      )

-- the definitions have no values
pub definitions_values : (E : Env) (c : Context) (n : ℕ) (types : Terms) → values (definitions c n types) ≡ under (number types) (values c)
definitions_values E c n Done = refl
definitions_values E c n (Next b T ts) = definitions_values E (Assumed (shift n 0 T) ∷ c) (suc n) ts ∙ under_none (number ts) (values c)

-- there is a type for each definition
pub type_of_each : (ts : Terms) (i : ℕ) → AreAll 0 (binders_of ts) → i < length (binders_of ts) → (T : Term) × (term_at ts i ≡ Some (0, T))
type_of_each Done i a h = absurd (omega arith)
type_of_each (Next k t ts) zero a h = (t, ap (λ k. Some (k, t)) a.0)
type_of_each (Next k t ts) (suc i) a h = type_of_each ts i a.1 (omega arith)

pub record IsGuardable (E : Env) (c : Context) (t : Term) : Type 0 where
  pub counted : IsCounted E t
  pub lambdas : HasLambdas t
  pub families : RecursesOnFamilies E (values c) t

pub guardable : (E : Env) (c : Context) (i : ℕ) (rargs : List ℕ) (types bodies : Terms) (n : ℕ) (m0 m1 m2 : Meter) → IsReady E c → IsFormed (Fix i rargs types bodies) →
    Follows (types_rule E (infer E (test_of E) n) c 0 (list_of types) m0.account) (Ok tt) m0 m1 →
    Follows (definitions_rule E (infer E (test_of E) n) (compare E (test_of E) n) (definitions c 0 types) (length rargs) 0 rargs (list_of types) (list_of bodies) m1.account) (Ok tt) m1 m2 →
    IsGuardable E c (Fix i rargs types bodies)
guardable E c i rargs types bodies n m0 m1 m2 h ff p q =
    let D : Context = definitions c 0 types in
    let w = h.env.declarations in
    let inf : Typing = infer E (test_of E) n in
    let cmp : Comparison = compare E (test_of E) n in
    let si = infer_sound E w (test_of E) (decides E c h) n in
    let sc = compare_sound E (test_of E) (decides E c h) w n in
    let shape = ff.0.0 in
    let ts = types_sound E w inf si c 0 types m0.account m1.account h.context shape.1 ff.1.0 p.answer in
    let bs = bodies_sound E w inf si cmp sc D (length rargs) 0 rargs types bodies m1.account m2.account ts.context shape.1 shape.3 shape.0 shape.2 ts.all ff.1.1.0 q.answer in
    let long : number types ≡ length rargs = sym (names_long types) ∙ shape.0 in
    let one = type_of_each types i shape.1 (omega (arith, shape.0, ff.0.1)) in
    let typed : Types bare E c (Fix i rargs types bodies) one.0 = fix long one.1 (bare_sorts ts.sorts) (bare_bodies bs.typed) tt in
    let domains = definitions_domains E inf cmp D (length rargs) 0 rargs types bodies m1.account m2.account shape.0 shape.2 q.answer in
    record {
      counted = ((ff.0, tt), (ts.all, (bs.all, tt)));
      lambdas = typed_lambdas E typed;
      families = transport (λ V. DomainsAreFamilies E V rargs bodies) (definitions_values E c 0 types ∙ ap (λ k. under k (values c)) long) domains;
    }
