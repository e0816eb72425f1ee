-- But for the items, the types and the definitions of a fixpoint are made as the directed rules go through them; so its guard may be asked.
use Rattle.std.proofs.Common.{subst, ℕ, suc, Ok, List, [], ◌∷◌, length}
use Rattle.pc_terms.specs.Formed.{EachTerm, HasForm, IsFormed}
use Rattle.pc_terms.specs.Syntax.{Term, Terms, Done, Next, Fix, shift, head, list_of}
use Rattle.calculus_rules.specs.Environment.{Env}
use Rattle.calculus_rules.specs.Context.{Context, values}
use Rattle.calculus_rules.specs.Instances.{definitions}
use Rattle.pc_rules.specs.declared.broken.Broken.TheVariants.{RecArgNotInductive}
use Rattle.pc_rules.specs.DirectedComparison.{Comparison, compare}
use Rattle.pc_rules.specs.DirectedTyping.{Typing, infer, recursive_domain, enough_abstractions, is_a_family, family_found, definition_rule, definitions_rule}
use Rattle.pc_rules.specs.Entailment.{test_of}
use Rattle.pc_rules.specs.WellCounted.{IsCountedNode, IsCounted, HasCountedDeclarations, IsCountedContext}
use Rattle.rule_laws.proofs.Counted.{shifted_counted}
use Rattle.rule_laws.proofs.SimpleRules.{formed}
use Rattle.cert_rules.specs.Walk.{Items}
use Rattle.cert_rules.specs.Scripts.{Script, script}
use Rattle.cert_rules.specs.WalkTyping.{Walking, walk_infer, walk_family_found, walk_definition, walk_definitions}
use Rattle.cert_rules.specs.Writing.{wrote, silent}
use Rattle.cert_rules.specs.MakingTyping.{MakeTyping, MakeComparison, make_compare, make_infer, make_types, make_definition, make_definitions}
use Rattle.cert_rules.proofs.ExactRules.{exact_enough}
use Rattle.cert_rules.proofs.Traces.{Traces, trace_on, trace_rules, trace_done}
use Rattle.cert_rules.proofs.ReachedSteps.{trace_reduced}
use Rattle.cert_rules.proofs.TraceComparison.{compare_trace}
use Rattle.cert_rules.proofs.TraceSorts.{trace_make, trace_tested, Inferred, Compared, check_trace}
use Rattle.cert_rules.proofs.TraceRules.{infer_trace, types_trace}
use Rattle.type_infer.specs.Ready.{IsReady}
use Rattle.type_infer.proofs.Beginning.{decides}
use Rattle.type_infer.proofs.GuardConditions.{guardable, IsGuardable}
use Rattle.script_making.specs.declared.draft.Draft.{Draft}
use Rattle.script_making.specs.Makes.{Makes}
use Rattle.script_making.proofs.Making.{made_follows}

module _ (cert : Items) (E : Env) (w : HasCountedDeclarations E) (infd : Typing) (infg : MakeTyping) (infh : Walking) (ti : Inferred cert E w infd infg infh) where
  module _ (cmp : Comparison) (mk : MakeComparison) (sc : Script) (tc : Compared cert E w cmp mk sc) where
    definition_traced : (c : Context) (n d rarg : ℕ) (T body : Term) → IsCountedContext E c → IsCounted E T → IsFormed body →
        Traces cert (λ _. Unit {0}) (λ u. definition_rule E infd cmp c n d rarg T body u) (λ u. make_definition E infg mk c n d rarg T body u)
        (λ s. walk_definition cert E infh sc c n d rarg T body s)
    definition_traced c n d rarg T body k wT f =
        let S : Term = shift n 0 T in
        trace_on cert _ _ _ _ _ _
        (trace_rules cert {P = λ _. Unit {0}} (enough_abstractions d (recursive_domain c rarg body)) (λ j. exact_enough d (recursive_domain c rarg body)) (λ u a v e. tt))
        (λ p t. trace_on cert _ _ _ _ _ _ (trace_make cert S)
        (λ X e. trace_on cert _ _ _ _ _ _
        (check_trace cert E w infd infg infh ti cmp mk sc tc c body X k f (subst (λ X. IsFormed X) e (formed E S (shifted_counted E n 0 T wT))))
        (λ o kb. trace_reduced E (values p.0) cert p.1 (λ W y. family_found W y) (λ W y. silent (family_found W) y) (λ j m W y. walk_family_found j W y)
        (λ m W r j. trace_tested cert (is_a_family (head W)) (RecArgNotInductive W) j))))

    definitions_traced : (c : Context) (n d : ℕ) (rargs : List ℕ) (types bodies : Terms) → IsCountedContext E c → EachTerm (IsCountedNode E) types → EachTerm HasForm bodies →
        Traces cert (λ _. Unit {0}) (λ u. definitions_rule E infd cmp c n d rargs (list_of types) (list_of bodies) u)
        (λ u. make_definitions E infg mk c n d rargs (list_of types) (list_of bodies) u) (λ s. walk_definitions cert E infh sc c n d rargs (list_of types) (list_of bodies) s)
    unfolding definitions_rule make_definitions walk_definitions
    definitions_traced c n d [] types bodies k wt fb = trace_done cert tt tt
    definitions_traced c n d (r ∷ rargs) Done bodies k wt fb = trace_done cert tt tt
    definitions_traced c n d (r ∷ rargs) (Next m T ts) Done k wt fb = trace_done cert tt tt
    definitions_traced c n d (r ∷ rargs) (Next m T ts) (Next m' body bs) k wt fb =
        trace_on cert _ _ _ _ _ _ (definition_traced c n d r T body k wt.0 fb.0) (λ o t. definitions_traced c n (suc d) rargs ts bs k wt.1 fb.1)

-- what the guard of a fixpoint is asked for
pub made_guardable : (E : Env) (c : Context) (i : ℕ) (rargs : List ℕ) (types bodies : Terms) (n : ℕ) (t0 t1 t2 : Draft) → IsReady E c → IsFormed (Fix i rargs types bodies) →
    Makes (make_types E (make_infer E (test_of E) n) c 0 (list_of types) t0.meter.account) (Ok tt) t0 t1 →
    Makes (make_definitions E (make_infer E (test_of E) n) (make_compare E (test_of E) n) (definitions c 0 types) (length rargs) 0 rargs (list_of types) (list_of bodies) t1.meter.account) (Ok tt) t1 t2 →
    IsGuardable E c (Fix i rargs types bodies)
made_guardable E c i rargs types bodies n t0 t1 t2 h ff p q =
    let w = h.env.declarations in
    let infd : Typing = infer E (test_of E) n in
    let infg : MakeTyping = make_infer E (test_of E) n in
    let infh : Walking = walk_infer [] E (test_of E) 0 in
    let ti : Inferred [] E w infd infg infh = infer_trace [] E w (test_of E) (decides E c h) n 0 in
    let tc : Compared [] E w (compare E (test_of E) n) (make_compare E (test_of E) n) (script [] E (test_of E) 0) = λ c equal a b vs ka kb. compare_trace [] E (test_of E) w n c equal a b vs ka kb 0 in
    let ts = types_trace [] E w infd infg infh ti c 0 types h.context ff.0.0.1 ff.1.0 in
    let k = (ts.leads t0.meter.account (wrote p.answer.0 tt) t1.meter.account p.answer.1).0 in
    let ds = definitions_traced [] E w infd infg infh ti (compare E (test_of E) n) (make_compare E (test_of E) n) (script [] E (test_of E) 0) tc (definitions c 0 types) (length rargs) 0 rargs types bodies k.1 k.0 ff.1.1.0 in
    guardable E c i rargs types bodies n t0.meter t1.meter t2.meter h ff
    (made_follows _ _ tt (ts.forgets t0.meter.account) p) (made_follows _ _ tt (ds.forgets t1.meter.account) q)
