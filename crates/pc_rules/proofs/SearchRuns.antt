-- The types that a first-order search finds are a first-order set of the type that it starts from.
use Rattle.std.proofs.Common.{◌≡◌, ◌≢◌, ◌↔◌, ℕ, zero, suc, ◌+◌, ◌==◌, ◌&&◌, Bool, true, false, if◌then◌else◌, List, [], ◌∷◌, ◌++◌, length, Option, Some, None, slice_get, option_map, refl, sym, ap, ◌∙◌, subst, arith}
use Rattle.std.proofs.lemmas.Bool.{eqb-true}
use Rattle.universe_levels.specs.declared.sort.Sort.{Sort}
use Rattle.universe_levels.specs.declared.sort.Sort.TheVariants.{Prop}
use Rattle.pc_terms.specs.declared.leaf.FamilyId.{FamilyId}
use Rattle.pc_terms.specs.Syntax.{Term, Rel, Ind, head, args, apply, put_all, substitute, shift, variables}
use Rattle.trees.proofs.Exchange.{put_all-shifted_by}
use Rattle.calculus_rules.specs.declared.declaration.Constructor.{Constructor}
use Rattle.pc_rules.specs.declared.meter.Account.{Account}
use Rattle.calculus_rules.specs.Environment.{Env, FamilyDecl, KeepsFamily}
use Rattle.calculus_rules.specs.Instances.{branch_entries}
use Rattle.calculus_rules.specs.Same.{same}
use Rattle.calculus_rules.specs.WeakHead.{WeakSteps}
use Rattle.calculus_rules.specs.FirstOrder.{Shape, shape_type, IsAt, ArgumentsAt, no_argument, an_argument, ConstructorsAt, no_constructor, a_constructor, IsMember, IsFirstOrder}
use Rattle.pc_rules.specs.DirectedRun.{Run, End, Done, done, passing, any_beyond, ticking}
use Rattle.calculus_rules.specs.Lookups.{family_of}
use Rattle.pc_rules.specs.DirectedWeakHead.{whnf}
use Rattle.calculus_rules.specs.PropSorts.{is_prop}
use Rattle.pc_rules.specs.DirectedFirstOrder.{Searched, Found, NotFirstOrder, TooManyTypes, on_found, with_found, next_place, place_in, put_in_at, put_in, put_arguments, put_constructors, lowered, without, independent, member_family, member_of, or_not_first_order, argument_types, shape, work_type, work_on, search_within}
use Rattle.calculus_rules.proofs.Spines.{one_item}
use Rattle.pc_rules.proofs.SameTrees.{same_is, same_itself}
use Rattle.pc_rules.proofs.WeakNext.{none_some, if_some_is, if_is, family_found, both_true}
use Rattle.calculus_rules.proofs.Spines.{spine_is}
use Rattle.pc_rules.proofs.FairReduction.{steps_lead}
use Rattle.pc_rules.proofs.EvaluationRuns.{bind_came, ticking_came}

-- where runs come from

found_in : {A : Type 0} → Searched A → A → A
found_in (Found a) o = a
found_in s o = o

found_came : {A B : Type 0} (s : Searched A) (u : Account) (k : A → Account → Run (Searched B)) {b : B} {w : Account} → (on_found s u k).end ≡ Done (Found b) w →
    (a : A) × (s ≡ Found a) × ((k a u).end ≡ Done (Found b) w)
found_came (Found a) u k h = (a, refl, h)
found_came (NotFirstOrder T) u k h = absurd (cc)
found_came TooManyTypes u k h = absurd (cc)

pub with_found_came : {A B : Type 0} (r : Run (Searched A)) (k : A → Account → Run (Searched B)) {b : B} {w : Account} → (with_found r k).end ≡ Done (Found b) w →
    (a : A) × (v : Account) × (r.end ≡ Done (Found a) v) × ((k a v).end ≡ Done (Found b) w)
with_found_came r k h =
    let b = bind_came r (λ s u. on_found s u k) h in
    let c = found_came b.0 b.1 k b.3 in
    (c.0, b.1, b.2 ∙ ap (λ s. Done s b.1) c.1, c.2)

pub done_found : {A : Type 0} {a b : A} {u w : Account} → Done (Found a) u ≡ Done (Found b) w → a ≡ b
unfolding found_in
done_found {A} {a} e = ap (λ r. found_in (result_in r) a) e
  where
    result_in : End (Searched A) → Searched A
    result_in (Done s v) = s
    result_in r = Found a

-- lists that go on

abbrev Extends : List Term → List Term → Type 0
Extends Ts Us = (j : ℕ) (T : Term) → slice_get Ts j ≡ Some T → slice_get Us j ≡ Some T

first_stays : (Ts : List Term) (W : Term) → Extends Ts (Ts ++ (W ∷ []))
first_stays [] W j T e = absurd (none_some e)
first_stays (U ∷ Ts) W zero T e = e
first_stays (U ∷ Ts) W (suc j) T e = first_stays Ts W j T e

last_there : (Ts : List Term) (W : Term) → slice_get (Ts ++ (W ∷ [])) (length Ts) ≡ Some W
last_there [] W = refl
last_there (U ∷ Ts) W = last_there Ts W

none_past : (Ts : List Term) (i j : ℕ) → slice_get Ts i ≡ None → slice_get Ts (i + j) ≡ None
none_past [] i j e = refl
none_past (T ∷ Ts) zero j e = absurd (none_some (sym e))
none_past (T ∷ Ts) (suc i) j e = let same : suc i + j ≡ suc (i + j) = omega arith in ap (slice_get (T ∷ Ts)) same ∙ none_past Ts i j e

-- a place that is found

next_is : (o : Option ℕ) (j : ℕ) → next_place o ≡ Some j → (i : ℕ) × (o ≡ Some i) × (j ≡ suc i)
next_is None j e = absurd (none_some e)
next_is (Some i) j e = (i, refl, sym (one_item e))

place_at : (W T : Term) (Ts : List Term) (j : ℕ) → ((i : ℕ) → place_in W Ts ≡ Some i → slice_get Ts i ≡ Some W) → (b : Bool) → same T W ≡ b →
    (if b then Some zero else next_place (place_in W Ts)) ≡ Some j → slice_get (T ∷ Ts) j ≡ Some W
place_at W T Ts j rec true p e = ap (slice_get (T ∷ Ts)) (sym (one_item e)) ∙ ap Some (same_is T W p)
place_at W T Ts j rec false p e =
    let n = next_is (place_in W Ts) j e in ap (slice_get (T ∷ Ts)) n.2 ∙ rec n.0 n.1

place_is : (W : Term) (Ts : List Term) (j : ℕ) → place_in W Ts ≡ Some j → slice_get Ts j ≡ Some W
place_is W [] j e = absurd (none_some e)
place_is W (T ∷ Ts) j e = place_at W T Ts j (place_is W Ts) (same T W) refl e

-- a type is put in

abbrev IsPlace : Env → List Term → Term → ℕ → Type 0
IsPlace E Us A j = (W : Term) × (slice_get Us j ≡ Some W) × WeakSteps E [] A W

behind_is : (limit : ℕ) (Ts : List Term) (W : Term) (u w : Account) (p : List Term × ℕ) → (b : Bool) →
    (if b then done TooManyTypes u else ticking u (λ v. done (Found (Ts ++ (W ∷ []), length Ts)) v)).end ≡ Done (Found p) w →
    (Ts ++ (W ∷ []), length Ts) ≡ p
behind_is limit Ts W u w p true h = absurd (cc)
behind_is limit Ts W u w p false h = done_found (ticking_came u _ h).1

put_at_is : (limit : ℕ) (Ts : List Term) (W : Term) (u w : Account) (p : List Term × ℕ) → (o : Option ℕ) → place_in W Ts ≡ o →
    (put_in_at limit Ts W o u).end ≡ Done (Found p) w → Extends Ts p.0 × (slice_get p.0 p.1 ≡ Some W)
put_at_is limit Ts W u w p (Some j) e h =
    subst (λ q. Extends Ts q.0 × (slice_get q.0 q.1 ≡ Some W)) (done_found h) ((λ i T g. g), place_is W Ts j e)
put_at_is limit Ts W u w p None e h =
    subst (λ q. Extends Ts q.0 × (slice_get q.0 q.1 ≡ Some W)) (behind_is limit Ts W u w p (length Ts == limit) h) (first_stays Ts W, last_there Ts W)

put_in_is : (E : Env) (limit : ℕ) (Ts : List Term) (T : Term) (u w : Account) (p : List Term × ℕ) → (put_in E limit Ts T u).end ≡ Done (Found p) w →
    Extends Ts p.0 × IsPlace E p.0 T p.1
put_in_is E limit Ts T u w p h =
    let b = bind_came (whnf E [] T u) (λ W v. put_in_at limit Ts W (place_in W Ts) v) h in
    let r = put_at_is limit Ts b.0 b.1 w p (place_in b.0 Ts) refl b.3 in
    (r.0, (b.0, r.1, steps_lead E [] u.left T b.0 u b.1 b.2))

first_place : (E : Env) (limit : ℕ) (T : Term) (u w : Account) (p : List Term × ℕ) → (put_in E limit [] T u).end ≡ Done (Found p) w → p.1 ≡ 0
first_place E limit T u w p h =
    let b = bind_came (whnf E [] T u) (λ W v. put_in_at limit [] W (place_in W []) v) h in
    sym (ap (λ q. q.1) (behind_is limit [] b.0 b.1 w p (zero == limit) b.3))

data Places (E : Env) (Us : List Term) : List Term → List ℕ → Type 0 where
  no_place : Places E Us [] []
  a_place : {A : Term} {As : List Term} {j : ℕ} {js : List ℕ} → IsPlace E Us A j → Places E Us As js → Places E Us (A ∷ As) (j ∷ js)

data AllPlaces (E : Env) (Us : List Term) : List (List Term) → List (List ℕ) → Type 0 where
  no_list : AllPlaces E Us [] []
  a_list : {As : List Term} {Ass : List (List Term)} {js : List ℕ} {jss : List (List ℕ)} → Places E Us As js → AllPlaces E Us Ass jss →
      AllPlaces E Us (As ∷ Ass) (js ∷ jss)

place_goes : (E : Env) (Ts Us : List Term) (A : Term) (j : ℕ) → Extends Ts Us → IsPlace E Ts A j → IsPlace E Us A j
place_goes E Ts Us A j x p = (p.0, x j p.0 p.1, p.2)

places_go : {E : Env} {Ts Us As : List Term} {js : List ℕ} → Extends Ts Us → Places E Ts As js → Places E Us As js
places_go x no_place = no_place
places_go {E} {Ts} {Us} x (a_place {A = A} {j = j} p ps) = a_place (place_goes E Ts Us A j x p) (places_go x ps)

all_go : {E : Env} {Ts Us : List Term} {Ass : List (List Term)} {jss : List (List ℕ)} → Extends Ts Us → AllPlaces E Ts Ass jss → AllPlaces E Us Ass jss
all_go x no_list = no_list
all_go x (a_list p ps) = a_list (places_go x p) (all_go x ps)

one_argument : (E : Env) (Ts : List Term) (A : Term) (As : List Term) (p : List Term × ℕ) (r q : List Term × List ℕ) (u w : Account) →
    Extends Ts p.0 × IsPlace E p.0 A p.1 → Extends p.0 r.0 × Places E r.0 As r.1 → Done (Found (r.0, p.1 ∷ r.1)) u ≡ Done (Found q) w →
    Extends Ts q.0 × Places E q.0 (A ∷ As) q.1
one_argument E Ts A As p r q u w x y e =
    subst (λ q. Extends Ts q.0 × Places E q.0 (A ∷ As) q.1) (done_found e)
    ((λ j T g. y.0 j T (x.0 j T g)), a_place (place_goes E p.0 r.0 A p.1 y.0 x.1) y.1)

arguments_are : (E : Env) (limit : ℕ) (Ts As : List Term) (u w : Account) (q : List Term × List ℕ) → (put_arguments E limit Ts As u).end ≡ Done (Found q) w →
    Extends Ts q.0 × Places E q.0 As q.1
unfolding put_arguments
arguments_are E limit Ts [] u w q h = subst (λ q. Extends Ts q.0 × Places E q.0 [] q.1) (done_found h) ((λ i T g. g), no_place)
arguments_are E limit Ts (A ∷ As) u w q h =
    let a = with_found_came (put_in E limit Ts A u) (λ p v.
    with_found (put_arguments E limit p.0 As v) (λ q w. done (Found (q.0, p.1 ∷ q.1)) w)) h in
    let b = with_found_came (put_arguments E limit (a.0).0 As a.1) (λ q w. done (Found (q.0, (a.0).1 ∷ q.1)) w) a.3 in
    one_argument E Ts A As a.0 b.0 q b.1 w (put_in_is E limit Ts A u a.1 a.0 a.2) (arguments_are E limit (a.0).0 As a.1 b.1 b.0 b.2) b.3

one_list : (E : Env) (Ts As : List Term) (Ass : List (List Term)) (p : List Term × List ℕ) (r q : List Term × List (List ℕ)) (u w : Account) →
    Extends Ts p.0 × Places E p.0 As p.1 → Extends p.0 r.0 × AllPlaces E r.0 Ass r.1 → Done (Found (r.0, p.1 ∷ r.1)) u ≡ Done (Found q) w →
    Extends Ts q.0 × AllPlaces E q.0 (As ∷ Ass) q.1
one_list E Ts As Ass p r q u w x y e =
    subst (λ q. Extends Ts q.0 × AllPlaces E q.0 (As ∷ Ass) q.1) (done_found e) ((λ j T g. y.0 j T (x.0 j T g)), a_list (places_go y.0 x.1) y.1)

lists_are : (E : Env) (limit : ℕ) (Ts : List Term) (Ass : List (List Term)) (u w : Account) (q : List Term × List (List ℕ)) →
    (put_constructors E limit Ts Ass u).end ≡ Done (Found q) w → Extends Ts q.0 × AllPlaces E q.0 Ass q.1
unfolding put_constructors
lists_are E limit Ts [] u w q h = subst (λ q. Extends Ts q.0 × AllPlaces E q.0 [] q.1) (done_found h) ((λ i T g. g), no_list)
lists_are E limit Ts (As ∷ Ass) u w q h =
    let a = with_found_came (put_arguments E limit Ts As u) (λ p v.
    with_found (put_constructors E limit p.0 Ass v) (λ q w. done (Found (q.0, p.1 ∷ q.1)) w)) h in
    let b = with_found_came (put_constructors E limit (a.0).0 Ass a.1) (λ q w. done (Found (q.0, (a.0).1 ∷ q.1)) w) a.3 in
    one_list E Ts As Ass a.0 b.0 q b.1 w (arguments_are E limit Ts As u a.1 a.0 a.2) (lists_are E limit (a.0).0 Ass a.1 b.1 b.0 b.2) b.3

-- what is asked of a type

pub or_not_is : {A : Type 0} (W : Term) (o : Option A) (u w : Account) (a : A) → (or_not_first_order W o u).end ≡ Done (Found a) w → o ≡ Some a
or_not_is W None u w a h = absurd (cc)
or_not_is W (Some b) u w a h = ap Some (done_found h)

data Independent (ps : List Term) : List Constructor → List (List Term) → Type 0 where
  none_left : Independent ps [] []
  one_more : {C : Constructor} {Cs : List Constructor} {As : List Term} {Ass : List (List Term)} → independent 0 (branch_entries C ps) ≡ Some As →
      Independent ps Cs Ass → Independent ps (C ∷ Cs) (As ∷ Ass)

more_types : (ps : List Term) (C : Constructor) (Cs : List Constructor) (As : List Term) (Bss Ass : List (List Term)) (u w : Account) →
    independent 0 (branch_entries C ps) ≡ Some As → Independent ps Cs Bss → Done (Found (As ∷ Bss)) u ≡ Done (Found Ass) w → Independent ps (C ∷ Cs) Ass
more_types ps C Cs As Bss Ass u w i is e = subst (λ Ass. Independent ps (C ∷ Cs) Ass) (done_found e) (one_more i is)

types_are : (W : Term) (ps : List Term) (Cs : List Constructor) (u w : Account) (Ass : List (List Term)) → (argument_types W ps Cs u).end ≡ Done (Found Ass) w →
    Independent ps Cs Ass
unfolding argument_types
types_are W ps [] u w Ass h = subst (λ Ass. Independent ps [] Ass) (done_found h) none_left
types_are W ps (C ∷ Cs) u w Ass h =
    let z = bind_came (passing (any_beyond (branch_entries C ps)) u) (λ _ v.
    with_found (or_not_first_order W (independent 0 (branch_entries C ps)) v) (λ As w.
    with_found (argument_types W ps Cs w) (λ Ass x. done (Found (As ∷ Ass)) x))) h in
    let a = with_found_came (or_not_first_order W (independent 0 (branch_entries C ps)) z.1) (λ As w.
    with_found (argument_types W ps Cs w) (λ Ass x. done (Found (As ∷ Ass)) x)) z.3 in
    let b = with_found_came (argument_types W ps Cs a.1) (λ Ass x. done (Found (a.0 ∷ Ass)) x) a.3 in
    more_types ps C Cs a.0 b.0 Ass b.1 w (or_not_is W (independent 0 (branch_entries C ps)) z.1 a.1 a.0 a.2) (types_are W ps Cs a.1 b.1 b.0 b.2) b.3

no_prop : (s : Sort) → is_prop s ≡ false → s ≢ Prop
no_prop s p e = let q = sym p ∙ ap is_prop e in cc

nothing_in : {A : Type 0} (xs : List A) → length xs ≡ 0 → xs ≡ []
nothing_in [] e = refl
nothing_in (x ∷ xs) e = absurd (omega arith)

-- the family of a member of the set
record IsFamily (E : Env) (f : FamilyId) (F : FamilyDecl) (n : ℕ) : Type 0 where
  pub kept : KeepsFamily E f F
  pub not_prop : F.sort ≢ Prop
  pub no_indices : F.indices ≡ []
  pub parameters : n ≡ length F.parameters

either_prop : (F G : FamilyDecl) (n : ℕ) → (b : Bool) → is_prop F.sort ≡ b →
    (if b then None else (if (length F.indices == 0) && (n == length F.parameters) then Some F else None)) ≡ Some G →
    (F ≡ G) × (F.sort ≢ Prop) × (F.indices ≡ []) × (n ≡ length F.parameters)
either_prop F G n true p h = absurd (none_some h)
either_prop F G n false p h =
    let q = if_is ((length F.indices == 0) && (n == length F.parameters)) (Some F) h in
    let c = both_true (length F.indices == 0) (n == length F.parameters) q.0 in
    (one_item q.1, no_prop F.sort p, nothing_in F.indices (eqb-true (length F.indices) 0 c.0), eqb-true n (length F.parameters) c.1)

mapped_is : (f : FamilyId) (o : Option FamilyDecl) (m : FamilyId × FamilyDecl) → option_map (λ G. (f, G)) o ≡ Some m → (G : FamilyDecl) × (o ≡ Some G) × ((f, G) ≡ m)
mapped_is f None m e = absurd (none_some e)
mapped_is f (Some G) m e = (G, refl, one_item e)

member_is : (E : Env) (h : Term) (n : ℕ) (m : FamilyId × FamilyDecl) → member_of E h n ≡ Some m → (h ≡ Ind m.0) × IsFamily E m.0 m.1 n
member_is E (Ind f) n m e =
    let r = if_some_is (family_of E f) (λ F. option_map (λ G. (f, G)) (member_family F n)) e in
    let F : FamilyDecl = r.0 in
    let g = mapped_is f (member_family F n) m r.2 in
    let p = either_prop F g.0 n (is_prop F.sort) refl g.1 in
    subst (λ m. (Ind f ≡ Ind m.0) × IsFamily E m.0 m.1 n) g.2
    (subst (λ G. (Ind f ≡ Ind f) × IsFamily E f G n) p.0
    (refl, record { kept = family_found E f F r.1; not_prop = p.1; no_indices = p.2; parameters = p.3 }))
member_is E h n m e = absurd (none_some e)

-- types that are worked

record Member (E : Env) (Us : List Term) (h : Shape) : Type 0 where
  pub declared : FamilyDecl
  pub family : IsFamily E h.family declared (length h.parameters)
  pub types : List (List Term)
  pub independent : Independent h.parameters declared.constructors types
  pub places : AllPlaces E Us types h.constructors

member_goes : {E : Env} {Ts Us : List Term} {h : Shape} → Extends Ts Us → Member E Ts h → Member E Us h
member_goes x m = record { declared = m.declared; family = m.family; types = m.types; independent = m.independent; places = all_go x m.places }

data Worked (E : Env) (Us : List Term) : ℕ → List Shape → Type 0 where
  at_end : {i : ℕ} → slice_get Us i ≡ None → Worked E Us i []
  a_member : {i : ℕ} {h : Shape} {hs : List Shape} → slice_get Us i ≡ Some (shape_type h) → Member E Us h → Worked E Us (suc i) hs →
      Worked E Us i (h ∷ hs)

new_member : (E : Env) (Ts : List Term) (W : Term) (m : FamilyId × FamilyDecl) (Ass : List (List Term)) (q : List Term × List (List ℕ)) (p : List Term × Shape) (u w : Account) →
    (head W ≡ Ind m.0) × IsFamily E m.0 m.1 (length (args W)) → Independent (args W) (m.1).constructors Ass → Extends Ts q.0 × AllPlaces E q.0 Ass q.1 →
    Done (Found (q.0, shape m.0 (args W) q.1)) u ≡ Done (Found p) w → Extends Ts p.0 × (W ≡ shape_type p.1) × Member E p.0 p.1
new_member E Ts W m Ass q p u w f i y e =
    subst (λ p. Extends Ts p.0 × (W ≡ shape_type p.1) × Member E p.0 p.1) (done_found e)
    (y.0, spine_is W ∙ ap (λ h. apply h (args W)) f.0, record { declared = m.1; family = f.1; types = Ass; independent = i; places = y.1 })

work_is : (E : Env) (limit : ℕ) (Ts : List Term) (W : Term) (u w : Account) (p : List Term × Shape) → (work_type E limit Ts W u).end ≡ Done (Found p) w →
    Extends Ts p.0 × (W ≡ shape_type p.1) × Member E p.0 p.1
work_is E limit Ts W u w p h =
    let a = with_found_came (or_not_first_order W (member_of E (head W) (length (args W))) u) (λ m v.
    with_found (argument_types W (args W) (m.1).constructors v) (λ Ass w.
    with_found (put_constructors E limit Ts Ass w) (λ q x. done (Found (q.0, shape m.0 (args W) q.1)) x))) h in
    let b = with_found_came (argument_types W (args W) ((a.0).1).constructors a.1) (λ Ass w.
    with_found (put_constructors E limit Ts Ass w) (λ q x. done (Found (q.0, shape (a.0).0 (args W) q.1)) x)) a.3 in
    let c = with_found_came (put_constructors E limit Ts b.0 b.1) (λ q x. done (Found (q.0, shape (a.0).0 (args W) q.1)) x) b.3 in
    new_member E Ts W a.0 b.0 c.0 p c.1 w
    (member_is E (head W) (length (args W)) a.0 (or_not_is W (member_of E (head W) (length (args W))) u a.1 a.0 a.2))
    (types_are W (args W) ((a.0).1).constructors a.1 b.1 b.0 b.2) (lists_are E limit Ts b.0 b.1 c.1 c.0 c.2) c.3

one_worked : (E : Env) (i : ℕ) (Ts : List Term) (W : Term) (p : List Term × Shape) (gs hs : List Shape) (u w : Account) → slice_get Ts i ≡ Some W →
    Extends Ts p.0 × (W ≡ shape_type p.1) × Member E p.0 p.1 → (Us : List Term) × Extends p.0 Us × Worked E Us (suc i) gs → Done (Found (p.1 ∷ gs)) u ≡ Done (Found hs) w →
    (Us : List Term) × Extends Ts Us × Worked E Us i hs
one_worked E i Ts W p gs hs u w e x y h = (
  y.0,
  (λ j T g. y.1 j T (x.0 j T g)),
  subst (λ hs. Worked E y.0 i hs) (done_found h)
      (a_member (y.1 i (shape_type p.1) (x.0 i (shape_type p.1) (e ∙ ap Some x.1))) (member_goes y.1 x.2) y.2),
)

worked_is : (E : Env) (limit n i : ℕ) (Ts : List Term) (o : Option Term) → slice_get Ts i ≡ o → (u w : Account) (hs : List Shape) →
    (work_on E limit n i Ts o u).end ≡ Done (Found hs) w → (Us : List Term) × Extends Ts Us × Worked E Us i hs
unfolding work_on
worked_is E limit n i Ts None e u w hs h = (Ts, (λ j T g. g), subst (λ hs. Worked E Ts i hs) (done_found h) (at_end e))
worked_is E limit zero i Ts (Some W) e u w hs h = absurd (cc)
worked_is E limit (suc n) i Ts (Some W) e u w hs h =
    let a = with_found_came (work_type E limit Ts W u) (λ p v.
    with_found (work_on E limit n (suc i) p.0 (slice_get p.0 (suc i)) v) (λ hs w. done (Found (p.1 ∷ hs)) w)) h in
    let b = with_found_came (work_on E limit n (suc i) (a.0).0 (slice_get (a.0).0 (suc i)) a.1) (λ hs w. done (Found ((a.0).1 ∷ hs)) w) a.3 in
    one_worked E i Ts W a.0 b.0 hs b.1 w e (work_is E limit Ts W u a.1 a.0 a.2)
    (worked_is E limit n (suc i) (a.0).0 (slice_get (a.0).0 (suc i)) refl a.1 b.1 b.0 b.2) b.3

-- the members of the set

shape_there : {E : Env} {Us : List Term} {i : ℕ} {hs : List Shape} → Worked E Us i hs → (j : ℕ) (W : Term) → slice_get Us (i + j) ≡ Some W →
    (h : Shape) × (slice_get hs j ≡ Some h) × (W ≡ shape_type h)
shape_there {Us = Us} {i} (at_end e) j W g = absurd (none_some (sym (none_past Us i j e) ∙ g))
shape_there {Us = Us} {i} (a_member {h = h} e m w) zero W g =
    let same : i + 0 ≡ i = omega arith in
    (h, refl, one_item (sym g ∙ ap (slice_get Us) same ∙ e))
shape_there {Us = Us} {i} (a_member e m w) (suc j) W g =
    let same : suc i + j ≡ i + suc j = omega arith in shape_there w j W (ap (slice_get Us) same ∙ g)

member_there : {E : Env} {Us : List Term} {i : ℕ} {hs : List Shape} → Worked E Us i hs → (j : ℕ) (h : Shape) → slice_get hs j ≡ Some h → Member E Us h
member_there (at_end e) j h g = absurd (none_some g)
member_there {E} {Us} (a_member e m w) zero h g = subst (λ h. Member E Us h) (one_item g) m
member_there (a_member e m w) (suc j) h g = member_there w j h g

at_is : {E : Env} {Us : List Term} {hs : List Shape} → Worked E Us 0 hs → (A : Term) (j : ℕ) → IsPlace E Us A j → IsAt E hs A j
at_is {E} {Us} w A j p =
    let same : 0 + j ≡ j = omega arith in
    let s = shape_there w j p.0 (ap (slice_get Us) same ∙ p.1) in (s.0, s.1, subst (λ W. WeakSteps E [] A W) s.2 p.2)

pub without_is : (n : ℕ) (B A : Term) → without n B ≡ Some A → B ≡ shift n 0 A
without_is n B A e =
    let q = if_is (same (shift n 0 (lowered n B)) B) (Some (lowered n B)) e in
    sym (same_is (shift n 0 (lowered n B)) B q.0) ∙ ap (shift n 0) (one_item q.1)

pub variables_long : (n : ℕ) → length (variables n) ≡ n
variables_long zero = refl
variables_long (suc n) = let long = variables_long n in omega arith

lowered_shifted : (n : ℕ) (A : Term) → lowered n (shift n 0 A) ≡ A
lowered_shifted n A = ap (λ m. substitute (put_all (variables n) Rel) (shift m 0 A)) (sym (variables_long n)) ∙ put_all-shifted_by (variables n) A

without_shifted : (n : ℕ) (A : Term) → without n (shift n 0 A) ≡ Some A
without_shifted n A =
    ap (λ B. if same (shift n 0 B) (shift n 0 A) then Some B else None) (lowered_shifted n A)
    ∙ ap (λ b. if b then Some A else None) (same_itself (shift n 0 A))

pub without_earlier : (n : ℕ) (A B : Term) → (without n B ≡ Some A) ↔ (B ≡ shift n 0 A)
without_earlier n A B = (without_is n B A, λ e. ap (without n) e ∙ without_shifted n A)

consed : (A : Term) (o : Option (List Term)) (As : List Term) → option_map (◌∷◌ A) o ≡ Some As → (Bs : List Term) × (o ≡ Some Bs) × (A ∷ Bs ≡ As)
consed A None As e = absurd (none_some e)
consed A (Some Bs) As e = (Bs, refl, one_item e)

no_places : (E : Env) (Us : List Term) (hs : List Shape) (n : ℕ) {As : List Term} {js : List ℕ} → [] ≡ As → Places E Us As js → ArgumentsAt E hs n [] js
no_places E Us hs n e no_place = no_argument
no_places E Us hs n e (a_place p ps) = absurd (cc)

places_of : (E : Env) (Us : List Term) (A : Term) (As : List Term) {ks : List ℕ} → Places E Us (A ∷ As) ks →
    (j : ℕ) × (js : List ℕ) × (j ∷ js ≡ ks) × IsPlace E Us A j × Places E Us As js
places_of E Us A As (a_place {j = j} {js = js} p ps) = (j, js, refl, p, ps)

arguments_at_places : {E : Env} {Us : List Term} {hs : List Shape} → Worked E Us 0 hs → (n : ℕ) (Bs As : List Term) → independent n Bs ≡ Some As →
    (js : List ℕ) → Places E Us As js → ArgumentsAt E hs n Bs js
arguments_at_places {E} {Us} {hs} w n [] As e js ps = no_places E Us hs n (one_item e) ps
arguments_at_places {E} {Us} {hs} w n (B ∷ Bs) As e js ps =
    let r = if_some_is (without n B) (λ A. option_map (◌∷◌ A) (independent (suc n) Bs)) e in
    let c = consed r.0 (independent (suc n) Bs) As r.2 in
    let q = places_of E Us r.0 c.0 (subst (λ As. Places E Us As js) (sym c.2) ps) in
    subst (λ js. ArgumentsAt E hs n (B ∷ Bs) js) q.2
    (an_argument (without_is n B r.0 r.1) (at_is w r.0 q.0 q.3) (arguments_at_places w (suc n) Bs c.0 c.1 q.1 q.4))

constructors_at_places : {E : Env} {Us : List Term} {hs : List Shape} → Worked E Us 0 hs → (qs : List Term) {Cs : List Constructor} {Ass : List (List Term)} →
    Independent qs Cs Ass → {jss : List (List ℕ)} → AllPlaces E Us Ass jss → ConstructorsAt E hs qs Cs jss
constructors_at_places w qs none_left no_list = no_constructor
constructors_at_places w qs (one_more {C = C} {As = As} i is) (a_list {js = js} p ps) =
    a_constructor (arguments_at_places w 0 (branch_entries C qs) As i js p) (constructors_at_places w qs is ps)

is_member : {E : Env} {Us : List Term} {hs : List Shape} → Worked E Us 0 hs → (h : Shape) → Member E Us h → IsMember E hs h
is_member w h m = record {
  declared = m.declared;
  kept = m.family.kept;
  not_prop = m.family.not_prop;
  no_indices = m.family.no_indices;
  parameters = m.family.parameters;
  constructors = constructors_at_places w h.parameters m.independent m.places;
}

pub search_is : (E : Env) (limit : ℕ) (T : Term) (S : List Shape) (u w : Account) → (search_within E limit T u).end ≡ Done (Found S) w → IsFirstOrder E T S
search_is E limit T S u w h =
    let a = with_found_came (put_in E limit [] T u) (λ p v. work_on E limit limit 0 p.0 (slice_get p.0 0) v) h in
    let p : List Term × ℕ = a.0 in
    let x = put_in_is E limit [] T u a.1 p a.2 in
    let z = worked_is E limit limit 0 p.0 (slice_get p.0 0) refl a.1 w S a.3 in
    record {
      first = at_is z.2 T 0 (subst (λ j. IsPlace E z.0 T j) (first_place E limit T u a.1 p a.2) (place_goes E p.0 z.0 T p.1 z.1 x.1));
      members = λ j h g. is_member z.2 h (member_there z.2 j h g);
    }
