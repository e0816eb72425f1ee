-- Weak-head steps lead from well-counted terms to well-counted terms.
use Rattle.std.proofs.Common.{◌≡◌, ℕ, zero, suc, ◌+◌, ◌<◌, List, [], ◌∷◌, ◌++◌, inl, inr, length, Option, Some, None, refl, ◌∙◌, subst, slice_get, option_map, arith}
use Rattle.universe_levels.specs.Consistency.{IsSortOver}
use Rattle.pc_terms.specs.declared.leaf.FamilyId.{FamilyId}
use Rattle.pc_terms.specs.Syntax.{Term, Terms, Rel, Construct, Fix, put, put_all, apply}
use Rattle.calculus_rules.specs.declared.declaration.Family.{Family}
use Rattle.calculus_rules.specs.declared.declaration.Block.{Block}
use Rattle.calculus_rules.specs.declared.declaration.Kept.TheVariants.{Constant, Heads, Block as Whole}
use Rattle.calculus_rules.specs.declared.entry.Entry.TheVariants.{Assumed, Defined}
use Rattle.calculus_rules.specs.Environment.{Env, FamilyDecl, with_parameters, family_at, KnowsFamily, KeepsFamily}
use Rattle.calculus_rules.specs.Context.{Context, Values, values, value_at, lifted, under, extend}
use Rattle.calculus_rules.specs.Instances.{fixpoints, unfolded}
use Rattle.calculus_rules.specs.Step.{IsConstructor, is_constructor, Root, beta, zeta, constant, variable, matched, fixpoint}
use Rattle.calculus_rules.specs.WeakHead.{WeakStep, at_root, in_function, in_scrutinee, in_argument, WeakSteps, no_step, then_step}
use Rattle.pc_rules.specs.WellCounted.{IsCounted, AreCounted, AreCountedConstructors, AreCountedFamilies, HasCountedDeclarations, IsCountedContext, AreCountedValues}
use Rattle.calculus_rules.proofs.Spines.{one_item}
use Rattle.rule_laws.proofs.Counted.{rel_counted, put_counted, put_all_counted, substituted_counted, renamed_counted, app_counted, apply_counted, function_counted, parts_counted, term_counted}
use Rattle.pc_rules.proofs.WeakNext.{none_some}
use Rattle.calculus_rules.proofs.Telescopes.{under_none}

-- contexts and their values

module _ (E : Env) where
  pub values_counted : (c : Context) → IsCountedContext E c → AreCountedValues E (values c)
  values_counted [] h = tt
  values_counted (Assumed A ∷ c) h = values_counted c h.1
  values_counted (Defined b B ∷ c) h = (h.0.0, values_counted c h.1)

  pub under_counted : (n : ℕ) (V : Values) → AreCountedValues E V → AreCountedValues E (under n V)
  under_counted zero V h = h
  under_counted (suc n) V h = under_counted n V h

  -- the values under a telescope's entries
  pub values_extended : (c : Context) (As : List Term) → values (extend c As) ≡ under (length As) (values c)
  values_extended c [] = refl
  values_extended c (A ∷ As) = values_extended (Assumed A ∷ c) As ∙ under_none (length As) (values c)

  pub lifted_counted : (o : Option Term) {v : Term} → ((x : Term) → o ≡ Some x → IsCounted E x) → lifted o ≡ Some v → IsCounted E v
  lifted_counted None f e = absurd (none_some e)
  lifted_counted (Some x) f e = subst (λ y. IsCounted E y) (one_item e) (renamed_counted E suc x (f x refl))

  value_counted : (V : Values) (i : ℕ) {v : Term} → AreCountedValues E V → value_at V i ≡ Some v → IsCounted E v
  value_counted [] i h e = absurd (none_some e)
  value_counted (None ∷ V) zero h e = absurd (none_some e)
  value_counted (Some x ∷ V) zero h e = lifted_counted (Some x) (λ y q. subst (λ z. IsCounted E z) (one_item q) h.0) e
  value_counted (None ∷ V) (suc i) h e = lifted_counted (value_at V i) (λ x q. value_counted V i h q) e
  value_counted (Some x ∷ V) (suc i) h e = lifted_counted (value_at V i) (λ x q. value_counted V i h.1 q) e

  -- steps

  -- a fixpoint, and the same at another of its definitions
  at_definition : (m j : ℕ) (rargs : List ℕ) (types bodies : Terms) → j < length rargs → IsCounted E (Fix m rargs types bodies) →
      IsCounted E (Fix j rargs types bodies)
  at_definition m j rargs types bodies l h = (((h.0.0.0, l), tt), h.1)

  fixpoints_counted : (i n m : ℕ) (rargs : List ℕ) (types bodies : Terms) → i + n ≡ length rargs → IsCounted E (Fix m rargs types bodies) →
      AreCounted E (fixpoints i n rargs types bodies)
  fixpoints_counted i zero m rargs types bodies l h = tt
  fixpoints_counted i (suc n) m rargs types bodies l h =
      (at_definition m i rargs types bodies (omega (arith, l)) h, fixpoints_counted (suc i) n m rargs types bodies (omega (arith, l)) h)

  unfolded_counted : (m : ℕ) (rargs : List ℕ) (types bodies : Terms) (body : Term) → IsCounted E (Fix m rargs types bodies) →
      IsCounted E body → IsCounted E (unfolded rargs types bodies body)
  unfolded_counted m rargs types bodies body h k =
      substituted_counted E (put_all (fixpoints 0 (length rargs) rargs types bodies) Rel) body
      (put_all_counted E (fixpoints 0 (length rargs) rargs types bodies) Rel (fixpoints_counted 0 (length rargs) m rargs types bodies (omega arith) h) (rel_counted E)) k

  arguments_counted : {f : FamilyId} {c : ℕ} {t : Term} {qs xs : List Term} → IsConstructor E f c t qs xs → IsCounted E t → AreCounted E xs
  arguments_counted {f} {c} {t} {qs} {xs} (is_constructor k i p q e) h =
      (parts_counted E qs xs (function_counted E (Construct f c) (qs ++ xs) (subst (λ t. IsCounted E t) e h)).1).1

  root_counted : {V : Values} {t u : Term} → HasCountedDeclarations E → AreCountedValues E V → Root E V t u → IsCounted E t → IsCounted E u
  root_counted w v (beta {A} {b} {a}) h = substituted_counted E (put a) b (put_counted E a h.1.1.0) h.1.0.1.1.0
  root_counted w v (zeta {b} {B} {t}) h = substituted_counted E (put b) t (put_counted E b h.1.0) h.1.1.1.0
  root_counted w v (constant {k} {T} {b} p) h = (w (Constant k T (Some b)) p).1
  root_counted {V = V} w v (variable {i} e) h = value_counted V i v e
  root_counted w v (matched {bs = bs} {c = c} {m = m} {body = body} {xs = xs} k e l) h =
      substituted_counted E (put_all xs Rel) body (put_all_counted E xs Rel (arguments_counted k h.1.1.1.0) (rel_counted E)) (term_counted E bs c m body h.1.1.1.1.0 e)
  root_counted w v (fixpoint i rargs types bodies {body = body} {a = a} before r l k b e) h =
      let g = function_counted E (Fix i rargs types bodies) before (subst (λ g. IsCounted E g) e h.1.0) in
      app_counted E (apply (unfolded rargs types bodies body) before) a (apply_counted E (unfolded rargs types bodies body) before (unfolded_counted i rargs types bodies body g.0 (term_counted E bodies i (length rargs) body g.0.1.1.0 b)) g.1) h.1.1.0

  step_counted : {V : Values} {t u : Term} → HasCountedDeclarations E → AreCountedValues E V → WeakStep E V t u → IsCounted E t → IsCounted E u
  step_counted w v (at_root r) h = root_counted w v r h
  step_counted w v (in_function {g = g} {a = a} p) h = app_counted E g a (step_counted w v p h.1.0) h.1.1.0
  step_counted w v (in_scrutinee p) h = (h.0, (h.1.0, (h.1.1.0, (step_counted w v p h.1.1.1.0, h.1.1.1.1))))
  step_counted w v (in_argument {g = g} {b = b} i rarg rargs types bodies before e r l p) h = app_counted E g b h.1.0 (step_counted w v p h.1.1.0)

  pub steps_counted : {V : Values} {t u : Term} → HasCountedDeclarations E → AreCountedValues E V → WeakSteps E V t u → IsCounted E t → IsCounted E u
  steps_counted w v no_step h = h
  steps_counted w v (then_step p q) h = steps_counted w v q (step_counted w v p h)

  -- families

  slice_family : (Fs : List Family) (n : ℕ) (G : Family) → AreCountedFamilies E Fs → slice_get Fs n ≡ Some G →
      AreCounted E G.indices × AreCountedConstructors E G.ctors × IsSortOver E.levels G.sort
  slice_family [] n G h e = absurd (none_some e)
  slice_family (F ∷ Fs) zero G h e = subst (λ F. AreCounted E F.indices × AreCountedConstructors E F.ctors × IsSortOver E.levels F.sort) (one_item e) h.0
  slice_family (F ∷ Fs) (suc n) G h e = slice_family Fs n G h.1 e

  -- what is well counted of a family of a block
  abbrev pub IsCountedFamilyDecl : FamilyDecl → Type 0
  IsCountedFamilyDecl F = AreCounted E F.parameters × AreCounted E F.indices × AreCountedConstructors E F.constructors × IsSortOver E.levels F.sort

  with_parameters_counted : (Ps : List Term) (o : Option Family) (F : FamilyDecl) → AreCounted E Ps →
      ((G : Family) → o ≡ Some G → AreCounted E G.indices × AreCountedConstructors E G.ctors × IsSortOver E.levels G.sort) → option_map (with_parameters Ps) o ≡ Some F →
      IsCountedFamilyDecl F
  with_parameters_counted Ps None F h f e = absurd (none_some e)
  with_parameters_counted Ps (Some G) F h f e = let r = f G refl in subst (λ F. IsCountedFamilyDecl F) (one_item e) (h, r.0, r.1, r.2)

  block_family : (B : Block) (n : ℕ) (F : FamilyDecl) → AreCounted E B.params → AreCountedFamilies E B.families → family_at B n ≡ Some F →
      IsCountedFamilyDecl F
  block_family B n F p h e = with_parameters_counted B.params (slice_get B.families n) F p (λ G q. slice_family B.families n G h q) e

  pub known_counted : (f : FamilyId) (F : FamilyDecl) → HasCountedDeclarations E → KnowsFamily E f F → IsCountedFamilyDecl F
  known_counted f F w (B, inl h, e, i) = let k = w (Whole B) h in block_family B f.family F k.0 k.1 i
  known_counted f F w (B, inr h, e, i) = let k = w (Heads B) h in block_family B f.family F k.0 k.1 i

  pub kept_counted : (f : FamilyId) (F : FamilyDecl) → HasCountedDeclarations E → KeepsFamily E f F → IsCountedFamilyDecl F
  kept_counted f F w h = known_counted f F w (h.0, inl h.1, h.2, h.3)
