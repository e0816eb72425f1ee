-- Rule 11 of inference, of fixpoints, gives types.
use Rattle.std.proofs.Common.{◌≡◌, ℕ, zero, suc, ◌+◌, true, List, [], ◌∷◌, length, Option, Some, None, refl, sym, ap, ◌∙◌, subst, arith}
use Rattle.trees.proofs.Shape.{each_renamed}
use Rattle.pc_terms.specs.declared.leaf.FamilyId.{FamilyId}
use Rattle.pc_terms.specs.Syntax.{Term, Terms, Done, Next, Lambda, Ind, Fix, shift, apply, head, args, term_at, list_of}
use Rattle.pc_terms.specs.Formed.{binders_of, EachTerm, AreAll, HasForm, IsFormed}
use Rattle.calculus_rules.specs.declared.entry.Entry.TheVariants.{Assumed}
use Rattle.pc_rules.specs.declared.broken.Broken.TheVariants.{RecArgNotInductive}
use Rattle.pc_rules.specs.declared.meter.Account.{Account}
use Rattle.calculus_rules.specs.Environment.{Env}
use Rattle.calculus_rules.specs.Context.{Context, values}
use Rattle.calculus_rules.specs.Instances.{definitions}
use Rattle.calculus_rules.specs.Conversion.{Equal}
use Rattle.calculus_rules.specs.Guardedness.{IsGuarded}
use Rattle.calculus_rules.specs.Typing.{guarded, Types, fix, Recurses, recurses_here, recurses_later, Sorts, no_types, a_type, Bodies, no_bodies, a_body}
use Rattle.pc_rules.specs.DirectedRun as run
use Rattle.pc_rules.specs.DirectedRun.{Run, done, make, bind}
use Rattle.pc_rules.specs.DirectedWeakHead.{whnf}
use Rattle.pc_rules.specs.DirectedComparison.{Comparison}
use Rattle.pc_rules.specs.DirectedGuard.{fix_guard}
use Rattle.pc_rules.specs.DirectedTyping.{Typing, sort_of, check, types_rule, recursive_domain, enough_abstractions, is_a_family, family_found, definition_rule, definitions_rule, definition_type, fix_rule}
use Rattle.calculus_rules.proofs.Spines.{one_item}
use Rattle.pc_rules.proofs.WeakNext.{none_some}
use Rattle.calculus_rules.proofs.Spines.{spine_is}
use Rattle.pc_rules.specs.FixConditions.{BeginsWith, HaveLambdas}
use Rattle.pc_rules.specs.WellCounted.{IsCountedNode, IsCounted, HasCountedDeclarations, IsCountedContext}
use Rattle.rule_laws.specs.Inference.{IsInferred}
use Rattle.rule_laws.proofs.Runs.{bind_both, tested, refused_done, done_value, make_then}
use Rattle.rule_laws.proofs.Counted.{shifted_counted, before_shift, term_counted}
use Rattle.rule_laws.proofs.KeepCounts.{values_counted}
use Rattle.rule_laws.proofs.Comparing.{IsSound, names_long, whnf_equal}
use Rattle.rule_laws.proofs.SimpleRules.{Infers, formed, sort_sound, check_sound}
use Rattle.rule_laws.proofs.Guarding.{guard_sound}
use Rattle.pc_rules.proofs.SameTrees.{false_true}

-- the recursive argument's domain

pub begins : (c : Context) (r : ℕ) (t : Term) (p : Context × Term) → recursive_domain c r t ≡ Some p → BeginsWith (suc r) t
begins c zero (Lambda A b) p e = tt
begins c (suc r) (Lambda A b) p e = begins (Assumed A ∷ c) r b p e
begins c r t p e = absurd (none_some e)

pub recurses : (E : Env) (c : Context) (r : ℕ) (t : Term) (p : Context × Term) (f : FamilyId) (xs : List Term) → recursive_domain c r t ≡ Some p →
    Equal E (values p.0) p.1 (apply (Ind f) xs) → Recurses E (values c) r t
recurses E c zero (Lambda A b) p f xs e h =
    recurses_here f xs (subst (λ p. Equal E (values p.0) p.1 (apply (Ind f) xs)) (sym (one_item e)) h)
recurses E c (suc r) (Lambda A b) p f xs e h = recurses_later (recurses E (Assumed A ∷ c) r b p f xs e h)
recurses E c r t p f xs e h = absurd (none_some e)

pub enough : (d : ℕ) (o : Option (Context × Term)) (p : Context × Term) (u v : Account) → (enough_abstractions d o u).end ≡ run.Done p v → o ≡ Some p
enough d None p u v h = absurd (refused_done h)
enough d (Some q) p u v h = ap Some (done_value h)

pub a_family : (t : Term) → is_a_family t ≡ true → (f : FamilyId) × (t ≡ Ind f)
a_family (Ind f) h = (f, refl)
a_family t h = false_true h

pub named_type : (i n : ℕ) (o : Option (ℕ × Term)) (T : Term) (u v : Account) → (definition_type i n o u).end ≡ run.Done T v → (m : ℕ) × (o ≡ Some (m, T))
named_type i n None T u v h = absurd (refused_done h)
named_type i n (Some p) T u v h = (p.0, ap (λ X. Some (p.0, X)) (done_value h))

pub name_at : (ts : Terms) (i m n : ℕ) (T : Term) → AreAll m (binders_of ts) → term_at ts i ≡ Some (n, T) → n ≡ m
name_at Done i m n T h e = absurd (none_some e)
name_at (Next k t ts) zero m n T h e = let q : (k, t) ≡ (n, T) = one_item e in (λ j. (sym q j).0) ∙ h.0
name_at (Next k t ts) (suc i) m n T h e = name_at ts i m n T h.1 e

pub shifted_formed : (n : ℕ) (T : Term) → IsFormed T → IsFormed (shift n 0 T)
shifted_formed n T h = each_renamed HasForm T (λ i. n + i) h

module _ (E : Env) where
  -- the types of the definitions
  pub record AreTypes (c : Context) (n : ℕ) (types : Terms) : Type 0 where
    pub sorts : Sorts guarded E c n types
    pub all : EachTerm (IsCountedNode E) types
    pub context : IsCountedContext E (definitions c n types)

  pub next_types : (c : Context) (n m : ℕ) (T : Term) (ts : Terms) → m ≡ 0 → AreTypes c n (Next 0 T ts) → AreTypes c n (Next m T ts)
  next_types c n m T ts e h = subst (λ m. AreTypes c n (Next m T ts)) (sym e) h

  -- a definition's body, and those of all
  pub record IsDefinition (c : Context) (n rarg : ℕ) (T body : Term) : Type 0 where
    pub recursive : Recurses E (values c) rarg body
    pub typed : Types guarded E c body (shift n 0 T)
    pub subject : IsCounted E body
    pub begin : BeginsWith (suc rarg) body

  pub record AreBodies (c : Context) (n : ℕ) (rargs : List ℕ) (types bodies : Terms) : Type 0 where
    pub typed : Bodies guarded E c n rargs types bodies
    pub all : EachTerm (IsCountedNode E) bodies
    pub begin : HaveLambdas rargs bodies

  pub next_bodies : (c : Context) (n m m' r : ℕ) (rargs : List ℕ) (T body : Term) (ts bs : Terms) → m ≡ 0 → m' ≡ n →
      AreBodies c n (r ∷ rargs) (Next 0 T ts) (Next n body bs) → AreBodies c n (r ∷ rargs) (Next m T ts) (Next m' body bs)
  next_bodies c n m m' r rargs T body ts bs e e' h =
      subst (λ m. AreBodies c n (r ∷ rargs) (Next m T ts) (Next m' body bs)) (sym e)
      (subst (λ m. AreBodies c n (r ∷ rargs) (Next 0 T ts) (Next m body bs)) (sym e') h)

module _ (E : Env) (w : HasCountedDeclarations E) (inf : Typing) (si : Infers E inf) where
  pub types_sound : (c : Context) (n : ℕ) (types : Terms) (u v : Account) → IsCountedContext E c → AreAll 0 (binders_of types) → EachTerm HasForm types →
      (types_rule E inf c n (list_of types) u).end ≡ run.Done tt v → AreTypes E c n types
  unfolding types_rule
  types_sound c n Done u v k a f h = record { sorts = no_types; all = tt; context = k }
  types_sound c n (Next m T ts) u v k a f h =
      let S : Term = shift n 0 T in
      let h1 = make_then S u (λ S v. bind (sort_of E inf c S v) (λ _ w. types_rule E inf (Assumed S ∷ c) (suc n) (list_of ts) w)) h in
      let p = bind_both (sort_of E inf c S u) (λ _ w. types_rule E inf (Assumed S ∷ c) (suc n) (list_of ts) w) tt v h1 in
      let s = sort_sound E w inf si c S p.0 u p.1 k (shifted_formed n T f.0) p.2 in
      let r = types_sound (Assumed S ∷ c) (suc n) ts p.1 v (s.1, k) a.1 f.1 p.3 in
      next_types E c n m T ts a.0 (record { sorts = a_type s.0 r.sorts; all = (before_shift E n 0 T s.1, r.all); context = r.context })

  module _ (cmp : Comparison) (sc : IsSound E cmp) where
    definition_sound : (c : Context) (n d rarg : ℕ) (T body : Term) (u v : Account) → IsCountedContext E c → IsCounted E T → IsFormed body →
        (definition_rule E inf cmp c n d rarg T body u).end ≡ run.Done tt v → IsDefinition E c n rarg T body
    definition_sound c n d rarg T body u v k wT f h =
        let S : Term = shift n 0 T in
        let k3 : Context × Term → Unit {0} → Account → Run (Unit {0}) = λ p _ x. bind (whnf E (values p.0) p.1 x) (λ W y. family_found W y) in
        let k2 : Context × Term → Term → Account → Run (Unit {0}) = λ p S w. bind (check E inf cmp c body S w) (k3 p) in
        let k1 : Context × Term → Account → Run (Unit {0}) = λ p v. bind (make S v) (k2 p) in
        let p1 = bind_both (enough_abstractions d (recursive_domain c rarg body) u) k1 tt v h in
        let q : Context × Term = p1.0 in
        let h2 = make_then S p1.1 (k2 q) p1.3 in
        let p2 = bind_both (check E inf cmp c body S p1.1) (k3 q) tt v h2 in
        let p3 = bind_both (whnf E (values q.0) q.1 p2.1) (λ W y. family_found W y) tt v p2.3 in
        let W : Term = p3.0 in
        let g = a_family (head W) (tested (is_a_family (head W)) (done tt p3.1) (RecArgNotInductive W) p3.1 tt v p3.3).0 in
        let e : recursive_domain c rarg body ≡ Some q = enough d (recursive_domain c rarg body) q u p1.1 p1.2 in
        let checked = check_sound E w inf si cmp sc c body S p1.1 p2.1 k f (formed E S (shifted_counted E n 0 T wT)) p2.2 in
        let spine : W ≡ apply (Ind g.0) (args W) = spine_is W ∙ ap (λ x. apply x (args W)) g.1 in
        record {
          recursive = recurses E c rarg body q g.0 (args W) e
              (subst (λ x. Equal E (values q.0) q.1 x) spine (whnf_equal E (values q.0) q.1 W p2.1 p3.1 p3.2));
          typed = checked.0;
          subject = checked.1;
          begin = begins c rarg body q e;
        }

    pub bodies_sound : (c : Context) (n d : ℕ) (rargs : List ℕ) (types bodies : Terms) (u v : Account) → IsCountedContext E c → AreAll 0 (binders_of types) → AreAll n (binders_of bodies) →
        length (binders_of types) ≡ length rargs → length (binders_of bodies) ≡ length rargs → EachTerm (IsCountedNode E) types → EachTerm HasForm bodies →
        (definitions_rule E inf cmp c n d rargs (list_of types) (list_of bodies) u).end ≡ run.Done tt v → AreBodies E c n rargs types bodies
    unfolding definitions_rule
    bodies_sound c n d [] Done Done u v k a b l l' wt fb h = record { typed = no_bodies; all = tt; begin = tt }
    bodies_sound c n d [] (Next m T ts) bs u v k a b l l' wt fb h = absurd (omega arith)
    bodies_sound c n d [] Done (Next m t ts) u v k a b l l' wt fb h = absurd (omega arith)
    bodies_sound c n d (r ∷ rargs) Done bs u v k a b l l' wt fb h = absurd (omega arith)
    bodies_sound c n d (r ∷ rargs) (Next m T ts) Done u v k a b l l' wt fb h = absurd (omega arith)
    bodies_sound c n d (r ∷ rargs) (Next m T ts) (Next m' body bs) u v k a b l l' wt fb h =
        let p = bind_both (definition_rule E inf cmp c n d r T body u) (λ _ v. definitions_rule E inf cmp c n (suc d) rargs (list_of ts) (list_of bs) v) tt v h in
        let one = definition_sound c n d r T body u p.1 k wt.0 fb.0 p.2 in
        let rest = bodies_sound c n (suc d) rargs ts bs p.1 v k a.1 b.1 (omega arith) (omega arith) wt.1 fb.1 p.3 in
        next_bodies E c n m m' r rargs T body ts bs a.0 b.0
        (record { typed = a_body one.recursive one.typed rest.typed; all = (one.subject, rest.all); begin = (one.begin, rest.begin) })

    pub fix_rule_sound : (c : Context) (i : ℕ) (rargs : List ℕ) (types bodies : Terms) (T : Term) (u v : Account) → IsCountedContext E c →
        IsFormed (Fix i rargs types bodies) → (fix_rule E inf cmp c i rargs types bodies u).end ≡ run.Done T v → IsInferred E c (Fix i rargs types bodies) T
    fix_rule_sound c i rargs types bodies T u v k ff h =
        let D : Context = definitions c 0 types in
        let n : ℕ = length rargs in
        let k3 : Unit {0} → Account → Run Term = λ _ x. definition_type i n (term_at types i) x in
        let k2 : Unit {0} → Account → Run Term = λ _ w. bind (fix_guard E (values c) rargs bodies w) k3 in
        let k1 : Unit {0} → Account → Run Term = λ _ v. bind (definitions_rule E inf cmp D n 0 rargs (list_of types) (list_of bodies) v) k2 in
        let p1 = bind_both (types_rule E inf c 0 (list_of types) u) k1 T v h in
        let p2 = bind_both (definitions_rule E inf cmp D n 0 rargs (list_of types) (list_of bodies) p1.1) k2 T v p1.3 in
        let p3 = bind_both (fix_guard E (values c) rargs bodies p2.1) k3 T v p2.3 in
        let shape = ff.0.0 in
        let ts = types_sound c 0 types u p1.1 k shape.1 ff.1.0 p1.2 in
        let bs = bodies_sound D n 0 rargs types bodies p1.1 p2.1 ts.context shape.1 shape.3 shape.0 shape.2 ts.all ff.1.1.0 p2.2 in
        let guards : IsGuarded E (values c) rargs bodies =
        guard_sound E w (values c) (values_counted E c k) rargs bodies p2.1 p3.1 bs.all bs.begin p3.2 in
        let at = named_type i n (term_at types i) T p3.1 v p3.3 in
        let name : at.0 ≡ 0 = name_at types i 0 at.0 T shape.1 at.1 in
        record {
          typed = fix (sym (names_long types) ∙ shape.0) (at.1 ∙ ap (λ m. Some (m, T)) name) ts.sorts bs.typed guards;
          subject = ((ff.0, tt), (ts.all, (bs.all, tt)));
          classifier = term_counted E types i at.0 T ts.all at.1;
        }
