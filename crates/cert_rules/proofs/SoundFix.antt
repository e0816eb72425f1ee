-- Rule 11 of the certified walk, of fixpoints, gives types.
use Rattle.std.proofs.Common.{◌≡◌, ℕ, suc, List, [], ◌∷◌, length, Some, sym, ap, ◌∙◌, subst, arith}
use Rattle.pc_terms.specs.Syntax.{Term, Terms, Done, Next, shift, apply, head, args, term_at, Ind, Fix, list_of}
use Rattle.pc_terms.specs.Formed.{binders_of, EachTerm, AreAll, HasForm, IsFormed}
use Rattle.calculus_rules.specs.declared.entry.Entry.TheVariants.{Assumed}
use Rattle.calculus_rules.specs.Environment.{Env}
use Rattle.calculus_rules.specs.Context.{Context, values}
use Rattle.calculus_rules.specs.Instances.{definitions}
use Rattle.calculus_rules.specs.Conversion.{Equal}
use Rattle.calculus_rules.specs.Guardedness.{IsGuarded}
use Rattle.calculus_rules.specs.Typing.{fix, no_types, a_type, no_bodies, a_body}
use Rattle.pc_rules.specs.DirectedRun.{make}
use Rattle.pc_rules.specs.DirectedGuard.{fix_guard}
use Rattle.pc_rules.specs.DirectedTyping.{recursive_domain, enough_abstractions, is_a_family, definition_type}
use Rattle.calculus_rules.proofs.Spines.{spine_is}
use Rattle.calculus_rules.proofs.WeakHead.{weak_equal}
use Rattle.pc_rules.specs.WellCounted.{IsCountedNode, IsCounted, HasCountedDeclarations, IsCountedContext}
use Rattle.rule_laws.specs.Inference.{IsInferred}
use Rattle.rule_laws.proofs.Counted.{shifted_counted, before_shift, term_counted}
use Rattle.rule_laws.proofs.KeepCounts.{values_counted}
use Rattle.rule_laws.proofs.Comparing.{names_long}
use Rattle.rule_laws.proofs.SimpleRules.{formed}
use Rattle.rule_laws.proofs.FixRule.{enough, a_family, begins, recurses, named_type, name_at, AreTypes, next_types, IsDefinition, AreBodies, next_bodies}
use Rattle.rule_laws.proofs.Guarding.{guard_sound}
pub use Rattle.rule_laws.proofs.FixRule.{shifted_formed}
use Rattle.cert_rules.specs.Walk.{Items, WalkState, Walk, Passed, pass, walk_on, by_rules}
use Rattle.cert_rules.specs.WalkSteps.{Reduced, reduced}
use Rattle.cert_rules.specs.Scripts.{Script}
use Rattle.cert_rules.specs.WalkTyping.{Walking, walk_sort_of, walk_check, walk_types, walk_family_found, walk_definition, walk_definitions, walk_fix}
use Rattle.cert_rules.proofs.PassedWalks.{on_both, tested, rules_passed, make_then, reduced_passed}
use Rattle.cert_rules.proofs.SoundScripts.{Shows}
use Rattle.cert_rules.proofs.SoundSimple.{Infers, sort_sound, check_sound}

module _ (cert : Items) (E : Env) (w : HasCountedDeclarations E) (inf : Walking) (si : Infers E inf) where
  pub types_sound : (c : Context) (n : ℕ) (types : Terms) (u v : WalkState) → IsCountedContext E c → AreAll 0 (binders_of types) → EachTerm HasForm types →
      (walk_types cert E inf c n (list_of types) u).end ≡ Passed tt v → AreTypes E c n types
  unfolding walk_types
  types_sound c n Done u v k a f h = record { sorts = no_types; all = tt; context = k }
  types_sound c n (Next m T ts) u v k a f h =
      let S : Term = shift n 0 T in
      let h1 = make_then S u (λ S v. walk_on (walk_sort_of cert E inf c S v) (λ _ w. walk_types cert E inf (Assumed S ∷ c) (suc n) (list_of ts) w)) h in
      let p = on_both (walk_sort_of cert E inf c S u) (λ _ w. walk_types cert E inf (Assumed S ∷ c) (suc n) (list_of ts) w) tt v h1 in
      let s = sort_sound cert E w inf si c S p.0 u p.1 k (shifted_formed n T f.0) p.2 in
      let r = types_sound (Assumed S ∷ c) (suc n) ts p.1 v (s.1, k) a.1 f.1 p.3 in
      next_types E c n m T ts a.0 (record { sorts = a_type s.0 r.sorts; all = (before_shift E n 0 T s.1, r.all); context = r.context })

  module _ (cmp : Script) (sc : Shows E cmp) where
    definition_sound : (c : Context) (n d rarg : ℕ) (T body : Term) (u v : WalkState) → IsCountedContext E c → IsCounted E T → IsFormed body →
        (walk_definition cert E inf cmp c n d rarg T body u).end ≡ Passed tt v → IsDefinition E c n rarg T body
    definition_sound c n d rarg T body u v k wT f h =
        let S : Term = shift n 0 T in
        let k4 : Reduced → WalkState → Walk (Unit {0}) = λ r y. walk_family_found r.item r.term y in
        let k3 : Context × Term → Unit {0} → WalkState → Walk (Unit {0}) = λ p _ x. walk_on (reduced cert E (values p.0) p.1 x) k4 in
        let k2 : Context × Term → Term → WalkState → Walk (Unit {0}) = λ p S w. walk_on (walk_check cert E inf cmp c body S w) (k3 p) in
        let k1 : Context × Term → WalkState → Walk (Unit {0}) = λ p v. walk_on (by_rules (make S) v) (k2 p) in
        let p1 = on_both (by_rules (enough_abstractions d (recursive_domain c rarg body)) u) k1 tt v h in
        let q : Context × Term = p1.0 in
        let h2 = make_then S p1.1 (k2 q) p1.3 in
        let p2 = on_both (walk_check cert E inf cmp c body S p1.1) (k3 q) tt v h2 in
        let p3 = on_both (reduced cert E (values q.0) q.1 p2.1) k4 tt v p2.3 in
        let r : Reduced = p3.0 in
        let W : Term = r.term in
        let g = a_family (head W) (tested (is_a_family (head W)) (pass tt p3.1) r.item p3.1 tt v p3.3).0 in
        let r1 = rules_passed (enough_abstractions d (recursive_domain c rarg body)) u q p1.1 p1.2 in
        let e : recursive_domain c rarg body ≡ Some q = enough d (recursive_domain c rarg body) q u.account r1.0 r1.1 in
        let checked = check_sound cert E w inf si cmp sc c body S p1.1 p2.1 k f (formed E S (shifted_counted E n 0 T wT)) p2.2 in
        let spine : W ≡ apply (Ind g.0) (args W) = spine_is W ∙ ap (λ x. apply x (args W)) g.1 in
        let d' = reduced_passed E (values q.0) cert q.1 r p2.1 p3.1 p3.2 in
        record {
          recursive = recurses E c rarg body q g.0 (args W) e (subst (λ x. Equal E (values q.0) q.1 x) spine (weak_equal d'.steps));
          typed = checked.0;
          subject = checked.1;
          begin = begins c rarg body q e;
        }

    pub bodies_sound : (c : Context) (n d : ℕ) (rargs : List ℕ) (types bodies : Terms) (u v : WalkState) → IsCountedContext E c → AreAll 0 (binders_of types) → AreAll n (binders_of bodies) →
        length (binders_of types) ≡ length rargs → length (binders_of bodies) ≡ length rargs → EachTerm (IsCountedNode E) types → EachTerm HasForm bodies →
        (walk_definitions cert E inf cmp c n d rargs (list_of types) (list_of bodies) u).end ≡ Passed tt v → AreBodies E c n rargs types bodies
    unfolding walk_definitions
    bodies_sound c n d [] Done Done u v k a b l l' wt fb h = record { typed = no_bodies; all = tt; begin = tt }
    bodies_sound c n d [] (Next m T ts) bs u v k a b l l' wt fb h = absurd (omega arith)
    bodies_sound c n d [] Done (Next m t ts) u v k a b l l' wt fb h = absurd (omega arith)
    bodies_sound c n d (r ∷ rargs) Done bs u v k a b l l' wt fb h = absurd (omega arith)
    bodies_sound c n d (r ∷ rargs) (Next m T ts) Done u v k a b l l' wt fb h = absurd (omega arith)
    bodies_sound c n d (r ∷ rargs) (Next m T ts) (Next m' body bs) u v k a b l l' wt fb h =
        let p = on_both (walk_definition cert E inf cmp c n d r T body u) (λ _ v. walk_definitions cert E inf cmp c n (suc d) rargs (list_of ts) (list_of bs) v) tt v h in
        let one = definition_sound c n d r T body u p.1 k wt.0 fb.0 p.2 in
        let rest = bodies_sound c n (suc d) rargs ts bs p.1 v k a.1 b.1 (omega arith) (omega arith) wt.1 fb.1 p.3 in
        next_bodies E c n m m' r rargs T body ts bs a.0 b.0
        (record { typed = a_body one.recursive one.typed rest.typed; all = (one.subject, rest.all); begin = (one.begin, rest.begin) })

    pub fix_rule_sound : (c : Context) (i : ℕ) (rargs : List ℕ) (types bodies : Terms) (T : Term) (u v : WalkState) → IsCountedContext E c →
        IsFormed (Fix i rargs types bodies) → (walk_fix cert E inf cmp c i rargs types bodies u).end ≡ Passed T v → IsInferred E c (Fix i rargs types bodies) T
    fix_rule_sound c i rargs types bodies T u v k ff h =
        let D : Context = definitions c 0 types in
        let n : ℕ = length rargs in
        let k3 : Unit {0} → WalkState → Walk Term = λ _ x. by_rules (definition_type i n (term_at types i)) x in
        let k2 : Unit {0} → WalkState → Walk Term = λ _ w. walk_on (by_rules (fix_guard E (values c) rargs bodies) w) k3 in
        let k1 : Unit {0} → WalkState → Walk Term = λ _ v. walk_on (walk_definitions cert E inf cmp D n 0 rargs (list_of types) (list_of bodies) v) k2 in
        let p1 = on_both (walk_types cert E inf c 0 (list_of types) u) k1 T v h in
        let p2 = on_both (walk_definitions cert E inf cmp D n 0 rargs (list_of types) (list_of bodies) p1.1) k2 T v p1.3 in
        let p3 = on_both (by_rules (fix_guard E (values c) rargs bodies) p2.1) k3 T v p2.3 in
        let r3 = rules_passed (fix_guard E (values c) rargs bodies) p2.1 tt p3.1 p3.2 in
        let r4 = rules_passed (definition_type i n (term_at types i)) p3.1 T v p3.3 in
        let shape = ff.0.0 in
        let ts = types_sound c 0 types u p1.1 k shape.1 ff.1.0 p1.2 in
        let bs = bodies_sound D n 0 rargs types bodies p1.1 p2.1 ts.context shape.1 shape.3 shape.0 shape.2 ts.all ff.1.1.0 p2.2 in
        let guards : IsGuarded E (values c) rargs bodies =
        guard_sound E w (values c) (values_counted E c k) rargs bodies p2.1.account r3.0 bs.all bs.begin r3.1 in
        let at = named_type i n (term_at types i) T p3.1.account r4.0 r4.1 in
        let name : at.0 ≡ 0 = name_at types i 0 at.0 T shape.1 at.1 in
        record {
          typed = fix (sym (names_long types) ∙ shape.0) (at.1 ∙ ap (λ m. Some (m, T)) name) ts.sorts bs.typed guards;
          subject = ((ff.0, tt), (ts.all, (bs.all, tt)));
          classifier = term_counted E types i at.0 T ts.all at.1;
        }
