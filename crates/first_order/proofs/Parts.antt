-- The parts of the search that do one thing after the other.
use Rattle.std.proofs.Common.{◌≡◌, ◌∙◌, sym, ap, refl, subst as along, ◌==◌, ◌&&◌, Bool, true, false, if◌then◌else◌, IsTrue, ℕ, List, [], map, length, Option, Some, None, option_map, Result, Ok, Err}
use Rattle.pc_terms.specs.declared.leaf.FamilyId.{FamilyId}
use Rattle.pc_terms.specs.declared.term.MakeFault.{MakeFault}
use Rattle.pc_terms.specs.declared.term.MakeFault.TheVariants.{TooDeep as DeepTerm, Memory as NoTerm}
use Rattle.pc_terms.specs.Syntax.{Term, Ind, head, args}
use Rattle.calculus_rules.specs.declared.declaration.Constructor.{Constructor}
use Rattle.calculus_rules.specs.declared.declaration.Family.{Family}
use Rattle.pc_rules.specs.declared.meter.Account.{Account}
use Rattle.pc_rules.specs.declared.meter.Meter.{Meter}
use Rattle.pc_rules.specs.declared.stop.Stop.{Stop as StopKind}
use Rattle.pc_rules.specs.declared.stop.Stop.TheVariants.{Spent, TooDeep, Memory}
use Rattle.pc_rules.specs.declared.stop.Halt.{Halt}
use Rattle.pc_rules.specs.declared.stop.Halt.TheVariants.{Stop}
use Rattle.pc_rules.specs.Stops.{stop_of}
use Rattle.calculus_rules.specs.Environment.{Env, FamilyDecl, KeepsFamily, with_parameters}
use Rattle.calculus_rules.specs.Instances.{branch_entries}
use Rattle.calculus_rules.specs.FirstOrder.{Shape as Member, IsFirstOrder}
use Rattle.pc_rules.specs.DirectedRun.{Run, Done, done, passing, any_beyond, bind, Leaves}
use Rattle.calculus_rules.specs.PropSorts.{is_prop}
use Rattle.calculus_rules.specs.Lookups.{family_of}
use Rattle.pc_rules.specs.DirectedWeakHead.{whnf}
use Rattle.pc_rules.specs.DirectedFirstOrder.{Searched, Found, NotFirstOrder, on_found, with_found, place_in, put_behind, put_in_at, put_in, put_constructors, member_family, member_of, independent, or_not_first_order, argument_types, shape, work_type, first_order_search}
use Rattle.pc_rules.specs.Follows.{Follows, Answers}
use Rattle.pc_rules.proofs.Fair.{same_left}
use Rattle.pc_rules.proofs.FairSearch.{put_at_leaves, put_constructors_leave}
use Rattle.pc_rules.proofs.Following.{bind_end, or_left, follows_bind, follows_err, follows_done}
use Rattle.pc_rules.proofs.SearchRuns.{search_is}
use Rattle.calculus_rules.proofs.Spines.{one_item}
use Rattle.pc_rules.proofs.WeakNext.{if_some_is, if_is, family_found, none_some}
use Rattle.first_order.specs.declared.shapes.Shape.{Shape}
use Rattle.first_order.specs.declared.shapes.ShapeCtor.{ShapeCtor}
use Rattle.first_order.specs.declared.faults.ShapeRefusal.{ShapeRefusal}
use Rattle.first_order.specs.Searching.{refusal_of, searched, as_is, one_constructor, family_in, places, member, ctor_name, constructor_name, IsNamed}
use Rattle.first_order.proofs.Searches.{follows_found, follows_lost, then_leaves}

-- ---- the argument types of a constructor

module _ (W : Term) (ps : List Term) (C : Constructor) where
  pub entries_fault : (f : MakeFault) (u : Account) → (f ≡ DeepTerm → IsTrue (any_beyond (branch_entries C ps))) →
      Answers (one_constructor W ps C u) (searched {A = List Term} as_is (Err (refusal_of (stop_of f)))) u
  unfolding bind
  entries_fault DeepTerm u h = or_left (any_beyond (branch_entries C ps)) _ (h refl)
  entries_fault NoTerm u h = tt

  one_end : (u : Account) → (one_constructor W ps C u).end ≡ (or_not_first_order W (independent 0 (branch_entries C ps)) u).end
  one_end u = bind_end (passing (any_beyond (branch_entries C ps)) u) (λ _ v. or_not_first_order W (independent 0 (branch_entries C ps)) v) tt u refl

  pub types_mention : (Bs : List Term) (T : Term) (u : Account) → Bs ≡ branch_entries C ps → None ≡ independent 0 Bs → T ≡ W → (one_constructor W ps C u).end ≡ Done (NotFirstOrder T) u
  types_mention Bs T u b o t = one_end u ∙ ap (λ o. (or_not_first_order W o u).end) (sym (o ∙ ap (independent 0) b)) ∙ ap (λ T. Done (NotFirstOrder T) u) (sym t)

  pub types_found : (Bs As : List Term) (u : Account) → Bs ≡ branch_entries C ps → Some As ≡ independent 0 Bs → (one_constructor W ps C u).end ≡ Done (Found As) u
  types_found Bs As u b o = one_end u ∙ ap (λ o. (or_not_first_order W o u).end) (sym (o ∙ ap (independent 0) b))

-- ---- a type is put in

module _ (E : Env) (Ts : List Term) (T : Term) where
  abbrev at_place : Term → Account → Run (Searched (List Term × ℕ))
  at_place W v = put_in_at 1024 Ts W (place_in W Ts) v

  place_leaves : (W : Term) (v : Account) → Leaves (at_place W v).end v.left
  place_leaves W v = put_at_leaves 1024 Ts W (place_in W Ts) v

  pub put_in_stops : {X : Type 0} (f : X → List Term × ℕ) (s : StopKind) (m0 m1 : Meter) → Follows (whnf E [] T m0.account) (Err (Stop s)) m0 m1 →
      Follows (put_in E 1024 Ts T m0.account) (searched f (Err (refusal_of s))) m0 m1
  put_in_stops f Spent m0 m1 h = follows_err (whnf E [] T m0.account) at_place (Stop Spent) m0 m1 h place_leaves
  put_in_stops f TooDeep m0 m1 h = follows_err (whnf E [] T m0.account) at_place (Stop TooDeep) m0 m1 h place_leaves
  put_in_stops f Memory m0 m1 h = follows_err (whnf E [] T m0.account) at_place (Stop Memory) m0 m1 h place_leaves

  pub put_in_there : (W : Term) (j : ℕ) (m0 m1 : Meter) → Follows (whnf E [] T m0.account) (Ok W) m0 m1 → Some j ≡ place_in W Ts → Follows (put_in E 1024 Ts T m0.account) (Ok (Found (Ts, j))) m0 m1
  put_in_there W j m0 m1 h e =
      follows_bind (whnf E [] T m0.account) at_place W (Ok (Found (Ts, j))) m0 m1 m1 h
      (along (λ o. Follows (put_in_at 1024 Ts W o m1.account) (Ok (Found (Ts, j))) m1 m1) e (follows_done (Found (Ts, j)) m1))

  pub put_in_new : (W : Term) (r : Result (Searched (List Term × ℕ)) Halt) (m0 m1 m2 : Meter) → Follows (whnf E [] T m0.account) (Ok W) m0 m1 → None ≡ place_in W Ts →
      Follows (put_behind 1024 Ts W m1.account) r m1 m2 → Follows (put_in E 1024 Ts T m0.account) r m0 m2
  put_in_new W r m0 m1 m2 h e p =
      follows_bind (whnf E [] T m0.account) at_place W r m0 m1 m2 h (along (λ o. Follows (put_in_at 1024 Ts W o m1.account) r m1 m2) e p)

-- ---- a type is worked

module _ (E : Env) (Ts : List Term) (W : Term) where
  abbrev then_put : FamilyId → List (List Term) → Account → Run (Searched (List Term × Member))
  then_put f Ass w = with_found (put_constructors E 1024 Ts Ass w) (λ q x. done (Found (q.0, shape f (args W) q.1)) x)

  put_leaves : (f : FamilyId) (Ass : List (List Term)) (w : Account) → Leaves (then_put f Ass w).end w.left
  put_leaves f Ass w = then_leaves (put_constructors E 1024 Ts Ass w) (λ q. (q.0, shape f (args W) q.1)) w.left (put_constructors_leave E 1024 Ts Ass w)

  abbrev then_types : FamilyId × FamilyDecl → Account → Run (Searched (List Term × Member))
  then_types m v = with_found (argument_types W (args W) (m.1).constructors v) (λ Ass w. then_put m.0 Ass w)

  pub not_a_member : (m : Meter) → member_of E (head W) (length (args W)) ≡ None → Follows (work_type E 1024 Ts W m.account) (Ok (NotFirstOrder W)) m m
  not_a_member m e =
      along (λ o. Follows (with_found (or_not_first_order W o m.account) then_types) (Ok (NotFirstOrder W)) m m) (sym e)
      (follows_bind (done (NotFirstOrder W) m.account) (λ s u. on_found s u then_types) (NotFirstOrder W) (Ok (NotFirstOrder W)) m m m (follows_done (NotFirstOrder W) m) (follows_done (NotFirstOrder W) m))

  module _ (f : FamilyId) (ps : List Term) (G : Family) (m : Meter) (is : member_of E (head W) (length (args W)) ≡ Some (f, with_parameters ps G)) where
    from_types : (r : Result (Searched (List Term × Member)) Halt) (n : Meter) → Follows (then_types (f, with_parameters ps G) m.account) r m n → Follows (work_type E 1024 Ts W m.account) r m n
    from_types r n h =
        along (λ o. Follows (with_found (or_not_first_order W o m.account) then_types) r m n) (sym is)
        (follows_found (done (Found (f, with_parameters ps G)) m.account) then_types (f, with_parameters ps G) r m m n (follows_done (Found (f, with_parameters ps G)) m) h)

    pub types_lost_in : {X Y : Type 0} (v : X → List (List Term)) (w : Y → List Term × Member) (e : ShapeRefusal) → Follows (argument_types W (args W) G.ctors m.account) (searched v (Err e)) m m →
        Follows (work_type E 1024 Ts W m.account) (searched w (Err e)) m m
    types_lost_in v w e h = from_types (searched w (Err e)) m (follows_lost (argument_types W (args W) G.ctors m.account) (λ Ass w. then_put f Ass w) v w e m m h (put_leaves f))

    module _ (Ass : List (List Term)) (h : Follows (argument_types W (args W) G.ctors m.account) (Ok (Found Ass)) m m) where
      pub lists_lost_in : {X Y : Type 0} (v : X → List Term × List (List ℕ)) (w : Y → List Term × Member) (e : ShapeRefusal) (n : Meter) →
          Follows (put_constructors E 1024 Ts Ass m.account) (searched v (Err e)) m n → Follows (work_type E 1024 Ts W m.account) (searched w (Err e)) m n
      lists_lost_in v w e n k =
          from_types (searched w (Err e)) n (follows_found (argument_types W (args W) G.ctors m.account) (λ Ass w. then_put f Ass w) Ass (searched w (Err e)) m m n h
          (follows_lost (put_constructors E 1024 Ts Ass m.account) (λ q x. done (Found (q.0, shape f (args W) q.1)) x) v w e m n k (λ q x. same_left x)))

      pub worked : (Us : List Term) (jss : List (List ℕ)) (n : Meter) → Follows (put_constructors E 1024 Ts Ass m.account) (Ok (Found (Us, jss))) m n →
          Follows (work_type E 1024 Ts W m.account) (Ok (Found (Us, shape f (args W) jss))) m n
      worked Us jss n k =
          from_types (Ok (Found (Us, shape f (args W) jss))) n (follows_found (argument_types W (args W) G.ctors m.account) (λ Ass w. then_put f Ass w) Ass _ m m n h
          (follows_found (put_constructors E 1024 Ts Ass m.account) (λ q x. done (Found (q.0, shape f (args W) q.1)) x) (Us, jss) _ m n n k (follows_done (Found (Us, shape f (args W) jss)) n)))

-- the family of a member is kept

family_mapped : (f g : FamilyId) (o : Option FamilyDecl) (F : FamilyDecl) → option_map {U = FamilyId × FamilyDecl} (λ G. (f, G)) o ≡ Some (g, F) → (f ≡ g) × (o ≡ Some F)
family_mapped f g None F e = absurd (none_some e)
family_mapped f g (Some G) F e = let p = one_item e in (ap (λ x. x.0) p, ap (λ x. Some x.1) p)

member_kept : (F G : FamilyDecl) (n : ℕ) → member_family F n ≡ Some G → F ≡ G
member_kept F G n e =
    let p = if_not_is (is_prop F.sort) (if (length F.indices == 0) && (n == length F.parameters) then Some F else None) G e in
    one_item (if_is ((length F.indices == 0) && (n == length F.parameters)) (Some F) p).1
  where
    if_not_is : (b : Bool) (o : Option FamilyDecl) (G : FamilyDecl) → (if b then None else o) ≡ Some G → o ≡ Some G
    if_not_is true o G e = absurd (none_some e)
    if_not_is false o G e = e

-- the head is that family, which is kept
pub member_is_kept : (E : Env) (h : Term) (n : ℕ) (f : FamilyId) (F : FamilyDecl) → member_of E h n ≡ Some (f, F) → (h ≡ Ind f) × KeepsFamily E f F
member_is_kept E (Ind g) n f F e =
    let r = if_some_is (family_of E g) (λ F. option_map (λ G. (g, G)) (member_family F n)) e in
    let m = family_mapped g f (member_family r.0 n) F r.2 in
    let same = member_kept r.0 F n m.1 in
    (ap Ind m.0, along (λ x. KeepsFamily E x F) m.0 (along (KeepsFamily E g) same (family_found E g r.0 r.1)))
member_is_kept E h n f F e = absurd (none_some e)

pub shape_is : (T : Term) (f : FamilyId) (ks : List ShapeCtor) (h : Shape) → h ≡ record { ty = T; ctors = ks } → head T ≡ Ind f → shape f (args T) (map places ks) ≡ member h
shape_is T f ks h e p = (λ i. record { family = family_in (sym p i); parameters = args T; constructors = map places ks }) ∙ ap member (sym e)

pub is_named : (E : Env) (T : Term) (f : FamilyId) (ps : List Term) (G : Family) (ks : List ShapeCtor) → member_of E (head T) (length (args T)) ≡ Some (f, with_parameters ps G) →
    map ctor_name ks ≡ map constructor_name G.ctors → IsNamed E (record { ty = T; ctors = ks })
is_named E T f ps G ks e names =
    let k = member_is_kept E (head T) (length (args T)) f (with_parameters ps G) e in
    record { family = f; declared = with_parameters ps G; keeps = k.1; head_is = k.0; names = names }

-- what is found is a first-order set
pub set_found : (E : Env) (T : Term) (S : List Member) (u w : Account) → (first_order_search E T u).end ≡ Done (Found S) w → IsFirstOrder E T S
set_found E T S u w h = search_is E 1024 T S u w h
