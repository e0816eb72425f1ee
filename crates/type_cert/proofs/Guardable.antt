-- What the guard of a fixpoint is asked for, once its types and its definitions have been walked.
use Rattle.std.proofs.Common.{◌≡◌, ◌∙◌, sym, ap, subst, ℕ, suc, List, [], ◌∷◌, length, Some, Ok, arith}
use Rattle.pc_terms.specs.Formed.{binders_of, IsFormed}
use Rattle.pc_terms.specs.Syntax.{Term, Terms, Done, Next, Ind, Fix, apply, head, args, number, shift, list_of}
use Rattle.calculus_rules.specs.Environment.{Env}
use Rattle.calculus_rules.specs.Context.{Context, values, under}
use Rattle.calculus_rules.specs.Instances.{definitions}
use Rattle.calculus_rules.specs.Typing.{Types, bare, fix}
use Rattle.calculus_rules.specs.WeakHead.{IsWhnf}
use Rattle.calculus_rules.proofs.Bare.{bare_sorts, bare_bodies}
use Rattle.calculus_rules.proofs.Spines.{spine_is}
use Rattle.pc_rules.specs.DirectedRun.{make}
use Rattle.pc_rules.specs.DirectedTyping.{recursive_domain, enough_abstractions, is_a_family}
use Rattle.pc_rules.specs.Entailment.{test_of}
use Rattle.pc_rules.specs.FixConditions.{DomainIsFamily, DomainsAreFamilies}
use Rattle.rule_laws.proofs.Comparing.{names_long}
use Rattle.rule_laws.proofs.FixRule.{enough, a_family}
use Rattle.rule_laws.proofs.TypedLambdas.{typed_lambdas}
use Rattle.cert_rules.specs.Walk.{Items, WalkState, Walk, Passed, pass, walk_on, by_rules}
use Rattle.cert_rules.specs.WalkSteps.{Reduced, reduced}
use Rattle.cert_rules.specs.Scripts.{Script, script}
use Rattle.cert_rules.specs.WalkTyping.{Walking, walk_infer, walk_check, walk_types, walk_family_found, walk_definition, walk_definitions}
use Rattle.cert_rules.proofs.PassedWalks.{on_both, tested, rules_passed, make_then, reduced_passed}
use Rattle.cert_rules.proofs.SoundScripts.{script_sound}
use Rattle.cert_rules.proofs.SoundTyping.{infer_sound}
use Rattle.cert_rules.proofs.SoundFix.{types_sound, bodies_sound}
use Rattle.type_infer.specs.Ready.{IsReady}
use Rattle.type_infer.proofs.Beginning.{decides}
use Rattle.type_infer.proofs.GuardConditions.{no_step_at, domain_is, definitions_values, type_of_each, IsGuardable}
use Rattle.type_cert.specs.declared.trail.Trail.{Trail}
use Rattle.type_cert.specs.Retraces.{stand, Retraces}

module _ (cert : Items) (E : Env) (inf : Walking) (cmp : Script) (c : Context) (n : ℕ) where
  definition_domain : (d r : ℕ) (T body : Term) (u v : WalkState) → (walk_definition cert E inf cmp c n d r T body u).end ≡ Passed tt v → DomainIsFamily E (values c) r body
  definition_domain d r T body u v h =
      let S : Term = shift n 0 T in
      let k4 : Reduced → WalkState → Walk (Unit {0}) = λ r y. walk_family_found r.item r.term y in
      let k3 : Context × Term → Unit {0} → WalkState → Walk (Unit {0}) = λ p _ x. walk_on (reduced cert E (values p.0) p.1 x) k4 in
      let k2 : Context × Term → Term → WalkState → Walk (Unit {0}) = λ p S w. walk_on (walk_check cert E inf cmp c body S w) (k3 p) in
      let k1 : Context × Term → WalkState → Walk (Unit {0}) = λ p v. walk_on (by_rules (make S) v) (k2 p) in
      let p1 = on_both (by_rules (enough_abstractions d (recursive_domain c r body)) u) k1 tt v h in
      let q : Context × Term = p1.0 in
      let h2 = make_then S p1.1 (k2 q) p1.3 in
      let p2 = on_both (walk_check cert E inf cmp c body S p1.1) (k3 q) tt v h2 in
      let p3 = on_both (reduced cert E (values q.0) q.1 p2.1) k4 tt v p2.3 in
      let W : Term = p3.0.term in
      let g = a_family (head W) (tested (is_a_family (head W)) (pass tt p3.1) p3.0.item p3.1 tt v p3.3).0 in
      let r1 = rules_passed (enough_abstractions d (recursive_domain c r body)) u q p1.1 p1.2 in
      let e : recursive_domain c r body ≡ Some q = enough d (recursive_domain c r body) q u.account r1.0 r1.1 in
      let spine : W ≡ apply (Ind g.0) (args W) = spine_is W ∙ ap (λ x. apply x (args W)) g.1 in
      let lead = reduced_passed E (values q.0) cert q.1 p3.0 p2.1 p3.1 p3.2 in
      let end : IsWhnf E (values q.0) q.1 W = (lead.steps, λ u s. no_step_at g.0 g.1 s) in
      domain_is E c r body q g.0 (args W) e (subst (λ x. IsWhnf E (values q.0) q.1 x) spine end)

  definitions_domains : (d : ℕ) (rargs : List ℕ) (types bodies : Terms) (u v : WalkState) → length (binders_of types) ≡ length rargs → length (binders_of bodies) ≡ length rargs →
      (walk_definitions cert E inf cmp c n d rargs (list_of types) (list_of bodies) u).end ≡ Passed tt v → DomainsAreFamilies E (values c) rargs bodies
  unfolding walk_definitions
  definitions_domains d [] Done Done u v l l' h = tt
  definitions_domains d [] (Next m T ts) bs u v l l' h = absurd (omega arith)
  definitions_domains d [] Done (Next m t ts) u v l l' h = absurd (omega arith)
  definitions_domains d (r ∷ rargs) Done bs u v l l' h = absurd (omega arith)
  definitions_domains d (r ∷ rargs) (Next m T ts) Done u v l l' h = absurd (omega arith)
  definitions_domains d (r ∷ rargs) (Next m T ts) (Next m' body bs) u v l l' h =
      let p = on_both (walk_definition cert E inf cmp c n d r T body u) (λ _ v. walk_definitions cert E inf cmp c n (suc d) rargs (list_of ts) (list_of bs) v) tt v h in (
        definition_domain d r T body u p.1 p.2,
        definitions_domains (suc d) rargs ts bs p.1 v (omega arith) (omega arith) p.3,
      )

pub guardable : (cert : Items) (E : Env) (c : Context) (i : ℕ) (rargs : List ℕ) (types bodies : Terms) (n : ℕ) (t0 t1 t2 : Trail) → IsReady E c → IsFormed (Fix i rargs types bodies) →
    Retraces (walk_types cert E (walk_infer cert E (test_of E) n) c 0 (list_of types) (stand t0)) (Ok tt) t0 t1 →
    Retraces (walk_definitions cert E (walk_infer cert E (test_of E) n) (script cert E (test_of E) n) (definitions c 0 types) (length rargs) 0 rargs (list_of types) (list_of bodies) (stand t1)) (Ok tt) t1 t2 →
    IsGuardable E c (Fix i rargs types bodies)
guardable cert E c i rargs types bodies n t0 t1 t2 h ff p q =
    let D : Context = definitions c 0 types in
    let w = h.env.declarations in
    let test = decides E c h in
    let inf : Walking = walk_infer cert E (test_of E) n in
    let cmp : Script = script cert E (test_of E) n in
    let si = infer_sound cert E w (test_of E) test n in
    let sc = script_sound E (test_of E) test cert n in
    let shape = ff.0.0 in
    let ts = types_sound cert E w inf si c 0 types (stand t0) (stand t1) h.context shape.1 ff.1.0 p.answer in
    let bs = bodies_sound cert E w inf si cmp sc D (length rargs) 0 rargs types bodies (stand t1) (stand t2) ts.context shape.1 shape.3 shape.0 shape.2 ts.all ff.1.1.0 q.answer in
    let long : number types ≡ length rargs = sym (names_long types) ∙ shape.0 in
    let one = type_of_each types i shape.1 (omega (arith, shape.0, ff.0.1)) in
    let typed : Types bare E c (Fix i rargs types bodies) one.0 = fix long one.1 (bare_sorts ts.sorts) (bare_bodies bs.typed) tt in
    let domains = definitions_domains cert E inf cmp D (length rargs) 0 rargs types bodies (stand t1) (stand t2) shape.0 shape.2 q.answer in
    record {
      counted = ((ff.0, tt), (ts.all, (bs.all, tt)));
      lambdas = typed_lambdas E typed;
      families = subst (λ V. DomainsAreFamilies E V rargs bodies) (definitions_values E c 0 types ∙ ap (λ k. under k (values c)) long) domains;
    }
