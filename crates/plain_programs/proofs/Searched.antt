-- The search for the type of a constructor without arguments, by its rules.
use Rattle.std.proofs.Common.{◌≡◌, ℕ, zero, suc, List, [], ◌∷◌, Some, refl, ap, ◌∙◌}
use Rattle.std.specs.Prelude.{slice_get, option_map}
use Rattle.std.proofs.lemmas.Option.{slice_get-map}
use Rattle.pc_terms.specs.declared.leaf.FamilyId.{FamilyId}
use Rattle.pc_terms.specs.Syntax.{Term, Rel, Ind, put_all}
use Rattle.calculus_rules.specs.declared.declaration.Constructor.{Constructor}
use Rattle.pc_rules.specs.declared.meter.Account.{Account}
use Rattle.calculus_rules.specs.Environment.{Env, FamilyDecl, family_at}
use Rattle.calculus_rules.specs.Instances.{entries_at}
use Rattle.calculus_rules.specs.FirstOrder.{Shape, FitsShapes, fits, no_field_fits}
use Rattle.pc_rules.specs.DirectedRun.{Run, done, ticked, paid, ticking, passing, any_beyond, bind}
use Rattle.calculus_rules.specs.Lookups.{if_some, family_of, whole_block}
use Rattle.pc_rules.specs.DirectedWeakHead.{steps}
use Rattle.pc_rules.specs.DirectedFirstOrder.{Searched, Found, with_found, place_in, put_in_at, put_in, put_arguments, put_constructors, independent, member_family, member_of, or_not_first_order, argument_types, shape, work_type, work_on, first_order_search}
use Rattle.plain_programs.specs.PlainEnvironment.{AreConstants, enumeration_of, KeepsPlain, empties, plain_set}
use Rattle.plain_programs.specs.Laws.{PlainTypesAreFound}

-- the family of a kept block
pub kept_family : (E : Env) (f : FamilyId) (c : ℕ) (h : KeepsPlain E f c) → family_of E f ≡ Some (enumeration_of h.ctors)
kept_family E f c h = ap (λ o. if_some (whole_block o) (λ B. family_at B f.family)) h.kept ∙ h.at

-- a family has no weak-head step
steps_family : (E : Env) (f : FamilyId) (n : ℕ) (u : Account) → steps E [] n (Ind f) u ≡ done (Ind f) u
unfolding steps
steps_family E f zero u = refl
steps_family E f (suc n) u = refl

abbrev then_types : Term → List Term → List (List Term) → Account → Run (Searched (List (List Term)))
then_types W As Ass x = done (Found (As ∷ Ass)) x

no_types : (W : Term) (Cs : List Constructor) (u : Account) → AreConstants Cs → argument_types W [] Cs u ≡ done (Found (empties Cs)) u
unfolding argument_types bind
no_types W [] u h = refl
no_types W (C ∷ Cs) u h =
    ap (λ As. bind (passing (any_beyond (entries_at (put_all [] Rel) As)) u) (λ _ v.
    with_found (or_not_first_order W (independent 0 (entries_at (put_all [] Rel) As)) v) (λ Bs w. with_found (argument_types W [] Cs w) (then_types W Bs)))) h.0
    ∙ ap (λ r. with_found r (then_types W [])) (no_types W Cs u h.2)

no_places : (E : Env) (limit : ℕ) (Ts : List Term) (Cs : List Constructor) (u : Account) → put_constructors E limit Ts (empties Cs) u ≡ done (Found (Ts, empties Cs)) u
unfolding put_constructors put_arguments bind
no_places E limit Ts [] u = refl
no_places E limit Ts (C ∷ Cs) u = ap (λ r. with_found r (λ q w. done (Found (q.0, [] ∷ q.1)) w)) (no_places E limit Ts Cs u)

module _ (E : Env) (f : FamilyId) (c : ℕ) (h : KeepsPlain E f c) where
  abbrev alone : List Term
  alone = Ind f ∷ []

  abbrev F : FamilyDecl
  F = enumeration_of h.ctors

  is_member : member_of E (Ind f) 0 ≡ Some (f, F)
  is_member = ap (λ o. if_some o (λ F. option_map (λ G. (f, G)) (member_family F 0))) (kept_family E f c h)

  abbrev with_types : FamilyId × FamilyDecl → List (List Term) → Account → Run (Searched (List Term × Shape))
  with_types m Ass w = with_found (put_constructors E 1024 alone Ass w) (λ q x. done (Found (q.0, shape m.0 [] q.1)) x)

  worked : (u : Account) → work_type E 1024 alone (Ind f) u ≡ done (Found (alone, shape f [] (empties h.ctors))) u
  unfolding bind
  worked u =
      ap (λ o. with_found (or_not_first_order (Ind f) o u) (λ m v. with_found (argument_types (Ind f) [] (m.1).constructors v) (with_types m))) is_member
      ∙ ap (λ r. with_found r (with_types (f, F))) (no_types (Ind f) h.ctors u h.constants)
      ∙ ap (λ r. with_found r (λ q x. done (Found (q.0, shape f [] q.1)) x)) (no_places E 1024 alone h.ctors u)

  all_worked : (u : Account) → work_on E 1024 1024 0 alone (Some (Ind f)) u ≡ done (Found (plain_set f h.ctors)) u
  unfolding work_on bind
  all_worked u = ap (λ r. with_found r (λ p v. with_found (work_on E 1024 1023 1 p.0 (slice_get p.0 1) v) (λ hs w. done (Found (p.1 ∷ hs)) w))) (worked u)

  put_first : (left : ℕ) (u : Account) → u.left ≡ suc left → put_in E 1024 [] (Ind f) u ≡ done (Found (alone, 0)) (ticked u)
  unfolding bind ticking
  put_first left u is =
      ap (λ r. bind r (λ W v. put_in_at 1024 [] W (place_in W []) v)) (steps_family E f u.left u)
      ∙ ap (λ n. paid n (done (Found (alone, 0)) (ticked u))) is

  found : (left : ℕ) (u : Account) → u.left ≡ suc left → first_order_search E (Ind f) u ≡ done (Found (plain_set f h.ctors)) (ticked u)
  unfolding bind
  found left u is = ap (λ r. with_found r (λ p v. work_on E 1024 1024 0 p.0 (slice_get p.0 0) v)) (put_first left u is) ∙ all_worked (ticked u)

  fitting : FitsShapes (plain_set f h.ctors) 0 ((c, 0) ∷ [])
  fitting = fits refl (slice_get-map (λ (C : Constructor). []) h.ctors c ∙ ap (option_map (λ (C : Constructor). [])) h.is_ctor) no_field_fits

pub types_are_found : PlainTypesAreFound
types_are_found E f c left u h is = (found E f c h left u is, fitting E f c h)
