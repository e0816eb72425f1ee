-- The parts of the search, one item of a list at a time.
use Rattle.std.proofs.Common.{◌≡◌, ◌∙◌, sym, ap, refl, subst as along, ℕ, zero, suc, ◌+◌, ◌-◌, ◌<◌, ◌≤◌, ◌==◌, ◌&&◌, ◌⊎◌, inl, inr, Bool, true}
use Rattle.std.proofs.Common.{false, if◌then◌else◌, List, [], ◌∷◌, ◌++◌, length, map, take, drop, get_or, Option, Some, None, slice_get, Ok, Err, append_assoc, append-nil, length-append, arith}
use Rattle.std.specs.Prelude.{option_map}
use Rattle.std.proofs.lemmas.Bool.{eq-eqb, eqb-true}
use Rattle.std.proofs.lemmas.List.{map-append, take_all}
use Rattle.trees.specs.Substitution.{lift}
use Rattle.trees.specs.Measures.{IsWithin, IsBeyond}
use Rattle.trees.proofs.Cutoffs.{lift-shift}
use Rattle.pc_terms.specs.Syntax.{Term, Rel, Ind, variables, shift}
use Rattle.pc_terms.specs.declared.leaf.FamilyId.{FamilyId}
use Rattle.calculus_rules.specs.declared.declaration.Constructor.{Constructor}
use Rattle.calculus_rules.specs.declared.declaration.Family.{Family}
use Rattle.calculus_rules.specs.declared.declaration.Block.{Block}
use Rattle.pc_rules.specs.declared.stop.Stop.TheVariants.{Spent}
use Rattle.pc_rules.specs.declared.stop.Halt.TheVariants.{Stop}
use Rattle.pc_rules.specs.declared.meter.Account.{Account}
use Rattle.pc_rules.specs.declared.meter.Meter.{Meter}
use Rattle.calculus_rules.specs.Environment.{Env, FamilyDecl, with_parameters, family_at}
use Rattle.calculus_rules.specs.Instances.{branch_entries}
use Rattle.calculus_rules.specs.Same.{same}
use Rattle.calculus_rules.specs.FirstOrder.{Shape as Member}
use Rattle.pc_rules.specs.DirectedRun.{Run, Done, done, passing, any_beyond, ticking, ticked, Leaves}
use Rattle.calculus_rules.specs.PropSorts.{is_prop}
use Rattle.calculus_rules.specs.Lookups.{if_some, kept_at, whole_block, family_of}
use Rattle.pc_rules.specs.DirectedFirstOrder.{Searched, Found, TooManyTypes, on_found, with_found, next_place, place_in, put_behind, put_in, put_arguments}
use Rattle.pc_rules.specs.DirectedFirstOrder.{put_constructors, member_family, member_of, lowered, without, independent, or_not_first_order, argument_types, work_type, work_on, first_order_search}
use Rattle.pc_rules.specs.Follows.{Follows, IsAfter}
use Rattle.pc_rules.specs.Leads.{Leads}
use Rattle.pc_rules.proofs.ListSteps.{next_is, none_left, take_next}
use Rattle.pc_rules.proofs.SameTrees.{same_is, same_itself, not_true}
use Rattle.pc_rules.proofs.Fair.{leaves_bind, same_left}
use Rattle.pc_rules.proofs.FairSearch.{put_arguments_leave, put_constructors_leave, argument_types_leave, work_on_leaves, or_not_leaves}
use Rattle.pc_rules.proofs.Following.{follows_then, follows_else, follows_tick, follows_spent, follows_done}
use Rattle.first_order.specs.declared.faults.ShapeRefusal.{ShapeRefusal}
use Rattle.first_order.specs.Searching.{searched, one_constructor, is_whole}
use Rattle.first_order.proofs.Lowered.{not_both}
use Rattle.first_order.proofs.Searches.{then_done, collect_next, collect_lost, collect_end, leads_found, found_unit}
use Rattle.pc_rules.proofs.Leading.{bind_assoc, leads_start, leads_along}

-- ---- the place of a type in a list

-- so many items further on
abbrev pub further : ℕ → Option ℕ → Option ℕ
further zero o = o
further (suc i) o = next_place (further i o)

further_next : (i : ℕ) (o : Option ℕ) → further i (next_place o) ≡ next_place (further i o)
further_next zero o = refl
further_next (suc i) o = ap next_place (further_next i o)

further_none : (i : ℕ) → further i None ≡ None
further_none zero = refl
further_none (suc i) = ap next_place (further_none i)

further_first : (i : ℕ) → further i (Some zero) ≡ Some i
further_first zero = refl
further_first (suc i) = ap next_place (further_first i)

other_tree : (T W : Term) → (T ≡ W → ⊥) → (b : Bool) → same T W ≡ b → b ≡ false
other_tree T W n true e = absurd (n (same_is T W e))
other_tree T W n false e = refl

place_passed : (W T : Term) (Ts : List Term) → (T ≡ W → ⊥) → place_in W (T ∷ Ts) ≡ next_place (place_in W Ts)
place_passed W T Ts n = ap (λ b. if b then Some zero else next_place (place_in W Ts)) (other_tree T W n (same T W) refl)

place_met : (W T : Term) (Ts : List Term) → T ≡ W → place_in W (T ∷ Ts) ≡ Some zero
place_met W T Ts e = ap (λ b. if b then Some zero else next_place (place_in W Ts)) (along (λ X. same T X ≡ true) e (same_itself T))

module _ (W : Term) (Ts : List Term) (i : ℕ) (before : place_in W Ts ≡ further i (place_in W (drop i Ts))) where
  next_place_is : (T : Term) → i < length Ts → T ≡ get_or Ts i T → (T ≡ W → ⊥) → place_in W Ts ≡ further (suc i) (place_in W (drop (i + 1) Ts))
  next_place_is T lt is n = before ∙ ap (λ xs. further i (place_in W xs)) (next_is Ts i T lt is) ∙ ap (further i) (place_passed W T (drop (i + 1) Ts) n) ∙ further_next i (place_in W (drop (i + 1) Ts))

  pub place_next : (T : Term) → i < length Ts → T ≡ get_or Ts i T → (T ≡ W → ⊥) → place_in W Ts ≡ further (i + 1) (place_in W (drop (i + 1) Ts))
  place_next T lt is n =
      let one : suc i ≡ i + 1 = omega arith in
      along (λ k. place_in W Ts ≡ further k (place_in W (drop (i + 1) Ts))) one (next_place_is T lt is n)

  pub place_here : (T : Term) → i < length Ts → T ≡ get_or Ts i T → T ≡ W → place_in W Ts ≡ Some i
  place_here T lt is e = before ∙ ap (λ xs. further i (place_in W xs)) (next_is Ts i T lt is) ∙ ap (further i) (place_met W T (drop (i + 1) Ts) e) ∙ further_first i

  pub place_nowhere : length Ts ≤ i → place_in W Ts ≡ None
  place_nowhere ge = before ∙ ap (λ xs. further i (place_in W xs)) (none_left Ts i ge) ∙ further_none i

-- ---- a type is put behind the others

room_left : (Ts : List Term) → (length Ts ≡ 1024 → ⊥) → (length Ts == 1024) ≡ false
room_left Ts n = not_true (length Ts == 1024) (λ e. n (eqb-true (length Ts) 1024 e))

module _ (Ts : List Term) (W : Term) (m0 m1 : Meter) (room : length Ts ≡ 1024 → ⊥) (taken : m1.account ≡ ticked m0.account) (nest : m1.nest ≡ m0.nest) where
  abbrev go : Account → Run (Searched (List Term × ℕ))
  go v = done (Found (Ts ++ (W ∷ []), length Ts)) v

  pub behind_spent : m0.account.left ≡ 0 → Follows (put_behind 1024 Ts W m0.account) (Err (Stop Spent)) m0 m1
  behind_spent z = follows_else (length Ts == 1024) (done TooManyTypes m0.account) (ticking m0.account go) _ m0 m1 (room_left Ts room) (follows_spent go m0 m1 z taken nest)

  pub behind_done : 0 < m0.account.left → (Us : List Term) (j : ℕ) → Us ≡ Ts ++ (W ∷ []) → j ≡ length Ts → Follows (put_behind 1024 Ts W m0.account) (Ok (Found (Us, j))) m0 m1
  behind_done some Us j e f =
      along (λ q. Follows (put_behind 1024 Ts W m0.account) (Ok (Found q)) m0 m1) (sym (λ i. (e i, f i)))
      (follows_else (length Ts == 1024) (done TooManyTypes m0.account) (ticking m0.account go) _ m0 m1 (room_left Ts room)
      (follows_tick go _ m0 m1 m1 some taken nest (follows_done (Found (Ts ++ (W ∷ []), length Ts)) m1)))

pub behind_full : (Ts : List Term) (W : Term) (m : Meter) → length Ts ≡ 1024 → Follows (put_behind 1024 Ts W m.account) (Ok TooManyTypes) m m
behind_full Ts W m e = follows_then (length Ts == 1024) (done TooManyTypes m.account) _ _ m m (eq-eqb (length Ts) 1024 e) (follows_done TooManyTypes m)

le_split : (a b : ℕ) → a ≤ b → (a < b) ⊎ (a ≡ b)
le_split zero zero h = inr refl
le_split zero (suc b) h = inl (omega arith)
le_split (suc a) zero h = absurd (omega (arith, h))
le_split (suc a) (suc b) h = elim (le_split a b (omega (arith, h))) [ inl lt ↦ inl (omega (arith, lt)) | inr e ↦ inr (ap suc e) ]

pub one_longer : (Ts Us : List Term) (W : Term) → Us ≡ Ts ++ (W ∷ []) → length Ts ≤ 1024 → (length Ts ≡ 1024 → ⊥) → length Us ≤ 1024
one_longer Ts Us W e few room =
    let more = ap length e ∙ length-append Ts (W ∷ []) in
    elim (le_split (length Ts) 1024 few) [ inl lt ↦ omega (arith, more, lt) | inr q ↦ absurd (room q) ]

-- ---- the family that a type is

whole_member : (F : FamilyDecl) (n : ℕ) (b : Bool) → is_prop F.sort ≡ b → is_whole F n ≡ true → member_family F n ≡ Some F
whole_member F n true e h = let f : false ≡ true = sym (ap (λ b. if b then false else ((length F.indices == 0) && (n == length F.parameters))) e) ∙ h in absurd cc
whole_member F n false e h =
    let whole = sym (ap (λ b. if b then false else ((length F.indices == 0) && (n == length F.parameters))) e) ∙ h in
    ap (λ b. if b then None else (if (length F.indices == 0) && (n == length F.parameters) then Some F else None)) e
    ∙ ap (λ b. if b then Some F else None) whole

pub member_found : (E : Env) (h : Term) (n : ℕ) (f : FamilyId) (B : Block) (G : Family) → Ind f ≡ h → whole_block (kept_at E.declarations f.block) ≡ Some B →
    slice_get B.families f.family ≡ Some G → is_whole (with_parameters B.params G) n ≡ true → member_of E h n ≡ Some (f, with_parameters B.params G)
member_found E h n f B G e whole at is =
    let F : FamilyDecl = with_parameters B.params G in
    let kept : family_of E f ≡ Some F = ap (λ o. if_some o (λ B. family_at B f.family)) whole ∙ ap (option_map (with_parameters B.params)) at in
    ap (λ t. member_of E t n) (sym e) ∙ ap (λ o. if_some o (λ F. option_map (λ G. (f, G)) (member_family F n))) kept
    ∙ ap (option_map (λ G. (f, G))) (whole_member F n (is_prop F.sort) refl is)

-- ---- types without the arguments before them

pub variables_next : (n i : ℕ) → i < n → variables (n - i) ≡ Rel (n - 1 - i) ∷ variables (n - (i + 1))
variables_next n i lt =
    let more : n - i ≡ suc (n - 1 - i) = omega (arith, lt) in
    let same : n - 1 - i ≡ n - (i + 1) = omega (arith, lt) in
    ap variables more ∙ ap (λ k. Rel (n - 1 - i) ∷ variables k) same

pub variable_pushed : (out more : List Term) (v : Term) (n i : ℕ) → more ≡ out ++ (v ∷ []) → v ≡ Rel (n - 1 - i) → i < n → out ++ variables (n - i) ≡ variables n →
    more ++ variables (n - (i + 1)) ≡ variables n
variable_pushed out more v n i e is lt h =
    ap (λ xs. xs ++ variables (n - (i + 1))) e ∙ append_assoc out (v ∷ []) (variables (n - (i + 1)))
    ∙ ap (λ w. out ++ (w ∷ variables (n - (i + 1)))) is ∙ ap (λ xs. out ++ xs) (sym (variables_next n i lt)) ∙ h

pub without_it : (n : ℕ) (B L S : Term) → L ≡ lowered n B → S ≡ shift n 0 L → S ≡ B → Some L ≡ without n B
without_it n B L S l s e =
    let there : same (shift n 0 (lowered n B)) B ≡ true = along (λ X. same (shift n 0 (lowered n B)) X ≡ true) (sym (ap (shift n 0) l) ∙ sym s ∙ e) (same_itself (shift n 0 (lowered n B))) in
    ap Some l ∙ sym (ap (λ b. if b then Some (lowered n B) else None) there)

pub mentions_it : (n : ℕ) (B L S : Term) → L ≡ lowered n B → S ≡ shift n 0 L → (S ≡ B → ⊥) → None ≡ without n B
mentions_it n B L S l s differs =
    let other : same (shift n 0 (lowered n B)) B ≡ false = other_tree (shift n 0 (lowered n B)) B (λ e. differs (s ∙ ap (shift n 0) l ∙ e)) (same (shift n 0 (lowered n B)) B) refl in
    sym (ap (λ b. if b then Some (lowered n B) else None) other)

-- where the type without the arguments, lifted over them, is beyond the limits, it is another one than the type
pub beyond_mentions : (n : ℕ) (B L : Term) → L ≡ lowered n B → IsWithin B → IsBeyond (lift n 0 L) → None ≡ without n B
beyond_mentions n B L l h b =
    mentions_it n B L (shift n 0 L) l refl (λ e. not_both (lift n 0 L) (along IsWithin (sym (lift-shift n 0 L ∙ e)) h) b)

-- those found so far, before the rest
abbrev pub behind : List Term → Option (List Term) → Option (List Term)
behind As o = option_map (λ Bs. As ++ Bs) o

behind_start : (o : Option (List Term)) → o ≡ behind [] o
behind_start None = refl
behind_start (Some As) = refl

behind_more : (As : List Term) (A : Term) (o : Option (List Term)) → behind As (option_map (◌∷◌ A) o) ≡ behind (As ++ (A ∷ [])) o
behind_more As A None = refl
behind_more As A (Some Bs) = ap Some (sym (append_assoc As (A ∷ []) Bs))

pub independent_start : (Bs : List Term) → independent 0 Bs ≡ behind [] (independent 0 Bs)
independent_start Bs = behind_start (independent 0 Bs)

module _ (Bs As : List Term) (i : ℕ) (before : independent 0 Bs ≡ behind As (independent i (drop i Bs))) where
  pub independent_next : (B A : Term) (Cs : List Term) → i < length Bs → B ≡ get_or Bs i B → without i B ≡ Some A → Cs ≡ As ++ (A ∷ []) → independent 0 Bs ≡ behind Cs (independent (i + 1) (drop (i + 1) Bs))
  independent_next B A Cs lt is w e =
      let one : suc i ≡ i + 1 = omega arith in
      before ∙ ap (λ xs. behind As (independent i xs)) (next_is Bs i B lt is)
      ∙ ap (λ o. behind As (if_some o (λ A. option_map (◌∷◌ A) (independent (suc i) (drop (i + 1) Bs))))) w
      ∙ behind_more As A (independent (suc i) (drop (i + 1) Bs))
      ∙ (λ j. behind (sym e j) (independent (one j) (drop (i + 1) Bs)))

  pub independent_not : (B : Term) → i < length Bs → B ≡ get_or Bs i B → without i B ≡ None → independent 0 Bs ≡ None
  independent_not B lt is w =
      before ∙ ap (λ xs. behind As (independent i xs)) (next_is Bs i B lt is)
      ∙ ap (λ o. behind As (if_some o (λ A. option_map (◌∷◌ A) (independent (suc i) (drop (i + 1) Bs))))) w

  pub independent_end : length Bs ≤ i → independent 0 Bs ≡ Some As
  independent_end ge = before ∙ ap (λ xs. behind As (independent i xs)) (none_left Bs i ge) ∙ ap Some (append-nil As)

-- ---- lists of results

-- beside the types
abbrev pub results : {X : Type 0} → List X → List Term × List X → List Term × List X
results xs q = (q.0, xs ++ q.1)

abbrev pub one_result : {X : Type 0} → List Term × X → List Term × List X → List Term × List X
one_result p q = (q.0, p.1 ∷ q.1)

pub results_more : {X : Type 0} (xs : List X) (p : List Term × X) → (λ (q : List Term × List X). results xs (one_result p q)) ≡ results (xs ++ (p.1 ∷ []))
results_more xs p = λ i q. (q.0, sym (append_assoc xs (p.1 ∷ []) q.1) i)

module _ (E : Env) where
  arguments_are : (Ts : List Term) (A : Term) (As : List Term) (u : Account) →
      put_arguments E 1024 Ts (A ∷ As) u ≡ with_found (put_in E 1024 Ts A u) (λ p v. then_done (put_arguments E 1024 p.0 As v) (one_result p))
  unfolding put_arguments
  arguments_are Ts A As u = refl

  no_arguments : (Ts : List Term) (u : Account) → put_arguments E 1024 Ts [] u ≡ done (Found (Ts, [])) u
  unfolding put_arguments
  no_arguments Ts u = refl

  lists_are : (Ts As : List Term) (Ass : List (List Term)) (u : Account) →
      put_constructors E 1024 Ts (As ∷ Ass) u ≡ with_found (put_arguments E 1024 Ts As u) (λ p v. then_done (put_constructors E 1024 p.0 Ass v) (one_result p))
  unfolding put_constructors
  lists_are Ts As Ass u = refl

  no_lists : (Ts : List Term) (u : Account) → put_constructors E 1024 Ts [] u ≡ done (Found (Ts, [])) u
  unfolding put_constructors
  no_lists Ts u = refl

  module _ (whole : Run (Searched (List Term × List ℕ))) (As : List Term) (i : ℕ) (Ts : List Term) (js : List ℕ) (u : Account)
      (leads : Leads whole (then_done (put_arguments E 1024 Ts (drop i As) u) (results js))) where
    at_argument : (A : Term) → i < length As → A ≡ get_or As i A →
        Leads whole (then_done (with_found (put_in E 1024 Ts A u) (λ p v. then_done (put_arguments E 1024 p.0 (drop (i + 1) As) v) (one_result p))) (results js))
    at_argument A lt is =
        leads_along whole _ _ (ap (λ xs. then_done (put_arguments E 1024 Ts xs u) (results js)) (next_is As i A lt is) ∙ ap (λ r. then_done r (results js)) (arguments_are Ts A (drop (i + 1) As) u)) leads

    pub arguments_next : (A : Term) → i < length As → A ≡ get_or As i A → (Us : List Term) (j : ℕ) (v : Account) → (put_in E 1024 Ts A u).end ≡ Done (Found (Us, j)) v →
        (ks : List ℕ) → ks ≡ js ++ (j ∷ []) → Leads whole (then_done (put_arguments E 1024 Us (drop (i + 1) As) v) (results ks))
    arguments_next A lt is Us j v e ks k =
        leads_along whole _ _ (ap (then_done (put_arguments E 1024 Us (drop (i + 1) As) v)) (results_more js (Us, j)) ∙ ap (λ xs. then_done (put_arguments E 1024 Us (drop (i + 1) As) v) (results xs)) (sym k))
        (collect_next whole (put_in E 1024 Ts A u) (λ p v. put_arguments E 1024 p.0 (drop (i + 1) As) v) one_result (results js) (Us, j) v (at_argument A lt is) e)

    pub arguments_lost : (A : Term) → i < length As → A ≡ get_or As i A → {X Y : Type 0} (f : X → List Term × ℕ) (h : Y → List Term × List ℕ) (e : ShapeRefusal) (m0 m1 m2 : Meter) →
        IsAfter m0 m1 → Follows (put_in E 1024 Ts A u) (searched f (Err e)) m1 m2 → Follows whole (searched h (Err e)) m0 m2
    arguments_lost A lt is f h e m0 m1 m2 after p =
        collect_lost whole (put_in E 1024 Ts A u) (λ p v. put_arguments E 1024 p.0 (drop (i + 1) As) v) one_result (results js) f h e m0 m1 m2 (at_argument A lt is) after p
        (λ p v. put_arguments_leave E 1024 p.0 (drop (i + 1) As) v)

    pub arguments_end : length As ≤ i → (m0 m1 : Meter) → u ≡ m1.account → IsAfter m0 m1 → Follows whole (Ok (Found (Ts, js))) m0 m1
    arguments_end ge m0 m1 same after =
        along (λ xs. Follows whole (Ok (Found (Ts, xs))) m0 m1) (append-nil js)
        (collect_end whole (put_arguments E 1024 Ts (drop i As) u) (results js) (Ts, []) m0 m1
        (ap (λ xs. put_arguments E 1024 Ts xs u) (none_left As i ge) ∙ no_arguments Ts u ∙ ap (done (Found (Ts, []))) same) leads after)

  module _ (whole : Run (Searched (List Term × List (List ℕ)))) (rest : List (List Term)) (Ts : List Term) (jss : List (List ℕ)) (u : Account)
      (leads : Leads whole (then_done (put_constructors E 1024 Ts rest u) (results jss))) where
    at_list : (As : List Term) (Ass : List (List Term)) → rest ≡ As ∷ Ass →
        Leads whole (then_done (with_found (put_arguments E 1024 Ts As u) (λ p v. then_done (put_constructors E 1024 p.0 Ass v) (one_result p))) (results jss))
    at_list As Ass is =
        leads_along whole _ _ (ap (λ xs. then_done (put_constructors E 1024 Ts xs u) (results jss)) is ∙ ap (λ r. then_done r (results jss)) (lists_are Ts As Ass u)) leads

    pub lists_next : (As : List Term) (Ass : List (List Term)) → rest ≡ As ∷ Ass → (Us : List Term) (js : List ℕ) (v : Account) → (put_arguments E 1024 Ts As u).end ≡ Done (Found (Us, js)) v →
        (kss : List (List ℕ)) → kss ≡ jss ++ (js ∷ []) → Leads whole (then_done (put_constructors E 1024 Us Ass v) (results kss))
    lists_next As Ass is Us js v e kss k =
        leads_along whole _ _ (ap (then_done (put_constructors E 1024 Us Ass v)) (results_more jss (Us, js)) ∙ ap (λ xs. then_done (put_constructors E 1024 Us Ass v) (results xs)) (sym k))
        (collect_next whole (put_arguments E 1024 Ts As u) (λ p v. put_constructors E 1024 p.0 Ass v) one_result (results jss) (Us, js) v (at_list As Ass is) e)

    pub lists_lost : (As : List Term) (Ass : List (List Term)) → rest ≡ As ∷ Ass → {X Y : Type 0} (f : X → List Term × List ℕ) (h : Y → List Term × List (List ℕ)) (e : ShapeRefusal) (m0 m1 m2 : Meter) →
        IsAfter m0 m1 → Follows (put_arguments E 1024 Ts As u) (searched f (Err e)) m1 m2 → Follows whole (searched h (Err e)) m0 m2
    lists_lost As Ass is f h e m0 m1 m2 after p =
        collect_lost whole (put_arguments E 1024 Ts As u) (λ p v. put_constructors E 1024 p.0 Ass v) one_result (results jss) f h e m0 m1 m2 (at_list As Ass is) after p
        (λ p v. put_constructors_leave E 1024 p.0 Ass v)

    pub lists_end : rest ≡ [] → (m0 m1 : Meter) → u ≡ m1.account → IsAfter m0 m1 → Follows whole (Ok (Found (Ts, jss))) m0 m1
    lists_end none m0 m1 same after =
        along (λ xs. Follows whole (Ok (Found (Ts, xs))) m0 m1) (append-nil jss)
        (collect_end whole (put_constructors E 1024 Ts rest u) (results jss) (Ts, []) m0 m1
        (ap (λ xs. put_constructors E 1024 Ts xs u) none ∙ no_lists Ts u ∙ ap (done (Found (Ts, []))) same) leads after)

-- ---- the argument types of constructors

abbrev pub appended : {X : Type 0} → List X → List X → List X
appended xs ys = xs ++ ys

pub appended_more : {X : Type 0} (xs : List X) (x : X) → (λ (ys : List X). appended xs (x ∷ ys)) ≡ appended (xs ++ (x ∷ []))
appended_more xs x = λ i ys. sym (append_assoc xs (x ∷ []) ys) i

module _ (W : Term) (ps : List Term) where
  types_are : (C : Constructor) (Cs : List Constructor) (u : Account) →
      argument_types W ps (C ∷ Cs) u ≡ with_found (one_constructor W ps C u) (λ As v. then_done (argument_types W ps Cs v) (◌∷◌ As))
  unfolding argument_types
  types_are C Cs u =
      sym (bind_assoc (passing (any_beyond (branch_entries C ps)) u) (λ _ v. or_not_first_order W (independent 0 (branch_entries C ps)) v)
      (λ s v. on_found s v (λ As w. then_done (argument_types W ps Cs w) (◌∷◌ As))))

  -- no units are won by a look at the argument types
  pub one_leaves : (C : Constructor) (u : Account) → Leaves (one_constructor W ps C u).end u.left
  one_leaves C u =
      leaves_bind (passing (any_beyond (branch_entries C ps)) u) (λ _ v. or_not_first_order W (independent 0 (branch_entries C ps)) v) u.left (same_left u)
      (λ _ v. or_not_leaves W (independent 0 (branch_entries C ps)) v)

  no_types : (u : Account) → argument_types W ps [] u ≡ done (Found []) u
  unfolding argument_types
  no_types u = refl

  module _ (whole : Run (Searched (List (List Term)))) (Cs : List Constructor) (i : ℕ) (Ass : List (List Term)) (u : Account)
      (leads : Leads whole (then_done (argument_types W ps (drop i Cs) u) (appended Ass))) where
    at_constructor : (C : Constructor) → i < length Cs → C ≡ get_or Cs i C →
        Leads whole (then_done (with_found (one_constructor W ps C u) (λ As v. then_done (argument_types W ps (drop (i + 1) Cs) v) (◌∷◌ As))) (appended Ass))
    at_constructor C lt is =
        leads_along whole _ _ (ap (λ xs. then_done (argument_types W ps xs u) (appended Ass)) (next_is Cs i C lt is) ∙ ap (λ r. then_done r (appended Ass)) (types_are C (drop (i + 1) Cs) u)) leads

    pub types_next : (C : Constructor) → i < length Cs → C ≡ get_or Cs i C → (As : List Term) (v : Account) → (one_constructor W ps C u).end ≡ Done (Found As) v →
        (Bss : List (List Term)) → Bss ≡ Ass ++ (As ∷ []) → Leads whole (then_done (argument_types W ps (drop (i + 1) Cs) v) (appended Bss))
    types_next C lt is As v e Bss b =
        leads_along whole _ _ (ap (then_done (argument_types W ps (drop (i + 1) Cs) v)) (appended_more Ass As) ∙ ap (λ xs. then_done (argument_types W ps (drop (i + 1) Cs) v) (appended xs)) (sym b))
        (collect_next whole (one_constructor W ps C u) (λ _ v. argument_types W ps (drop (i + 1) Cs) v) ◌∷◌ (appended Ass) As v (at_constructor C lt is) e)

    pub types_lost : (C : Constructor) → i < length Cs → C ≡ get_or Cs i C → {X Y : Type 0} (f : X → List Term) (h : Y → List (List Term)) (e : ShapeRefusal) (m0 m1 m2 : Meter) →
        IsAfter m0 m1 → Follows (one_constructor W ps C u) (searched f (Err e)) m1 m2 → Follows whole (searched h (Err e)) m0 m2
    types_lost C lt is f h e m0 m1 m2 after p =
        collect_lost whole (one_constructor W ps C u) (λ _ v. argument_types W ps (drop (i + 1) Cs) v) ◌∷◌ (appended Ass) f h e m0 m1 m2 (at_constructor C lt is) after p
        (λ _ v. argument_types_leave W ps (drop (i + 1) Cs) v)

    pub types_end : length Cs ≤ i → (m0 m1 : Meter) → u ≡ m1.account → IsAfter m0 m1 → Follows whole (Ok (Found Ass)) m0 m1
    types_end ge m0 m1 same after =
        along (λ xs. Follows whole (Ok (Found xs)) m0 m1) (append-nil Ass)
        (collect_end whole (argument_types W ps (drop i Cs) u) (appended Ass) [] m0 m1
        (ap (λ xs. argument_types W ps xs u) (none_left Cs i ge) ∙ no_types u ∙ ap (done (Found [])) same) leads after)

-- ---- the types of the list

module _ (E : Env) where
  types_worked : (n i : ℕ) (Ts : List Term) (W : Term) (u : Account) →
      work_on E 1024 (suc n) i Ts (Some W) u ≡ with_found (work_type E 1024 Ts W u) (λ p v. then_done (work_on E 1024 n (suc i) p.0 (slice_get p.0 (suc i)) v) (◌∷◌ p.1))
  unfolding work_on
  types_worked n i Ts W u = refl

  none_worked : (n i : ℕ) (Ts : List Term) (u : Account) → work_on E 1024 n i Ts None u ≡ done (Found []) u
  unfolding work_on
  none_worked zero i Ts u = refl
  none_worked (suc n) i Ts u = refl

  -- the rest of the search, where so many types have been worked
  abbrev pub working : List Term → ℕ → Account → Run (Searched (List Member))
  working Ts i u = work_on E 1024 (1024 - i) i Ts (slice_get Ts i) u

  pub working_leaves : (Ts : List Term) (i : ℕ) (u : Account) → Leaves (working Ts i u).end u.left
  working_leaves Ts i u = work_on_leaves E 1024 (1024 - i) i Ts (slice_get Ts i) u

  module _ (whole : Run (Searched (List Member))) (Ts : List Term) (hs : List Member) (i : ℕ) (u : Account) (leads : Leads whole (then_done (working Ts i u) (appended hs))) where
    at_type : (W : Term) → slice_get Ts i ≡ Some W → i < 1024 →
        Leads whole (then_done (with_found (work_type E 1024 Ts W u) (λ p v. then_done (working p.0 (suc i) v) (◌∷◌ p.1))) (appended hs))
    at_type W at lt =
        let fuel : 1024 - i ≡ suc (1024 - suc i) = omega (arith, lt) in
        leads_along whole _ _ ((λ k. then_done (work_on E 1024 (fuel k) i Ts (at k) u) (appended hs)) ∙ ap (λ r. then_done r (appended hs)) (types_worked (1024 - suc i) i Ts W u)) leads

    pub work_next : (W : Term) → slice_get Ts i ≡ Some W → i < 1024 → (Us : List Term) (h : Member) (v : Account) → (work_type E 1024 Ts W u).end ≡ Done (Found (Us, h)) v →
        (gs : List Member) (j : ℕ) → gs ≡ hs ++ (h ∷ []) → j ≡ suc i → Leads whole (then_done (working Us j v) (appended gs))
    work_next W at lt Us h v e gs j g k =
        leads_along whole _ _ (ap (then_done (working Us (suc i) v)) (appended_more hs h) ∙ (λ x. then_done (working Us (sym k x) v) (appended (sym g x))))
        (collect_next whole (work_type E 1024 Ts W u) (λ p v. working p.0 (suc i) v) (λ p gs. p.1 ∷ gs) (appended hs) (Us, h) v (at_type W at lt) e)

    pub work_lost : (W : Term) → slice_get Ts i ≡ Some W → i < 1024 → {X Y : Type 0} (f : X → List Term × Member) (h : Y → List Member) (e : ShapeRefusal) (m0 m1 m2 : Meter) →
        IsAfter m0 m1 → Follows (work_type E 1024 Ts W u) (searched f (Err e)) m1 m2 → Follows whole (searched h (Err e)) m0 m2
    work_lost W at lt f h e m0 m1 m2 after p =
        collect_lost whole (work_type E 1024 Ts W u) (λ p v. working p.0 (suc i) v) (λ p gs. p.1 ∷ gs) (appended hs) f h e m0 m1 m2 (at_type W at lt) after p
        (λ p v. working_leaves p.0 (suc i) v)

    pub work_end : slice_get Ts i ≡ None → (m0 m1 : Meter) → u ≡ m1.account → IsAfter m0 m1 → Follows whole (Ok (Found hs)) m0 m1
    work_end at m0 m1 same after =
        along (λ xs. Follows whole (Ok (Found xs)) m0 m1) (append-nil hs)
        (collect_end whole (working Ts i u) (appended hs) [] m0 m1
        (ap (λ o. work_on E 1024 (1024 - i) i Ts o u) at ∙ none_worked (1024 - i) i Ts u ∙ ap (done (Found [])) same) leads after)

  -- the search begins with its type
  pub search_starts : (T : Term) (u v : Account) (Us : List Term) (j : ℕ) → (put_in E 1024 [] T u).end ≡ Done (Found (Us, j)) v →
      Leads (first_order_search E T u) (then_done (working Us 0 v) (appended []))
  search_starts T u v Us j e =
      leads_along (first_order_search E T u) _ _ (found_unit (working Us 0 v))
      (leads_found (first_order_search E T u) (put_in E 1024 [] T u) (λ p v. working p.0 0 v) (Us, j) v (leads_start _ _ refl) e)

-- ---- one item more of two lists whose items are seen alike

pub mapped_next : {X Y Z : Type 0} (f : X → Z) (g : Y → Z) (out more : List X) (ys : List Y) (i : ℕ) (x : X) (y : Y) → map f out ≡ map g (take i ys) → more ≡ out ++ (x ∷ []) →
    i < length ys → y ≡ get_or ys i y → f x ≡ g y → map f more ≡ map g (take (i + 1) ys)
mapped_next f g out more ys i x y h e lt is same =
    ap (map f) e ∙ map-append f out (x ∷ []) ∙ (λ j. h j ++ (same j ∷ [])) ∙ sym (map-append g (take i ys) (y ∷ [])) ∙ ap (map g) (sym (take_next ys i y lt is))

pub mapped_end : {X Y Z : Type 0} (f : X → Z) (g : Y → Z) (out : List X) (ys : List Y) (i : ℕ) → map f out ≡ map g (take i ys) → length ys ≤ i → map f out ≡ map g ys
mapped_end f g out ys i h ge = h ∙ ap (map g) (take_all i ys ge)

-- a meter with these units, where no rule stands
abbrev pub meter_at : Account → Meter
meter_at u = record { account = u; nest = 0; nested = omega arith }
