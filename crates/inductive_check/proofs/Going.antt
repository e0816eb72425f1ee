-- What a test comes to: it holds, it fails, or others wait in its place.
use Rattle.std.proofs.Common.{◌≡◌, ℕ, zero, suc, ◌+◌, ◌-◌, ◌<◌, ◌≤◌, Bool, true, false, if◌then◌else◌, nat_lt, nat_le, List, [], ◌∷◌, ◌++◌, length, Option, Some, None, Result, Ok, Err, add-one, refl, sym, ap, ◌∙◌, subst, arith}
use Rattle.std.specs.Prelude.{IfOk}
use Rattle.std.proofs.lemmas.Bool.{eq-eqb, eqb-true, le-leb, lt-leb}
use Rattle.pc_terms.specs.declared.leaf.Name.{Name}
use Rattle.pc_terms.specs.declared.term.Node.{Node}
use Rattle.pc_terms.specs.declared.term.Node.TheVariants as node
use Rattle.pc_terms.specs.View.{tree_of}
use Rattle.pc_terms.specs.declared.leaf.FamilyId.{FamilyId}
use Rattle.pc_terms.specs.Syntax.{Term, Rel, SortT, Prod, Lambda, LetIn, App, Const, Ind, Construct, Case, Fix, head, args}
use Rattle.calculus_rules.specs.declared.declaration.Block.{Block}
use Rattle.calculus_rules.specs.declared.target.Target.{Target}
use Rattle.pc_rules.specs.declared.meter.Account.{Account}
use Rattle.pc_rules.specs.declared.meter.Meter.{Meter}
use Rattle.pc_rules.specs.declared.stop.Halt.{Halt}
use Rattle.pc_rules.specs.declared.stop.Halt.TheVariants.{Stop}
use Rattle.pc_rules.specs.declared.stop.Stop.TheVariants.{Spent, Memory}
use Rattle.calculus_rules.specs.Environment.{Env}
use Rattle.calculus_rules.specs.Same.{same_names}
use Rattle.calculus_rules.specs.Naming.{names}
use Rattle.calculus_rules.specs.Positivity.{parameter_target, block_of, types_name}
use Rattle.pc_rules.specs.DirectedRun.{Run, done, bind, paid, ticking, ticked}
use Rattle.calculus_rules.specs.Lookups.{kept_at, whole_block}
use Rattle.pc_rules.specs.DirectedPositivity.{Nesting, both, own_arguments, given_parameters, family_good, argument_good, good, arguments_good, families_good, nestable}
use Rattle.pc_rules.specs.Follows.{Follows}
use Rattle.pc_rules.proofs.SameWithin.{Agrees}
use Rattle.pc_rules.proofs.Following.{follows_tick, follows_spent, follows_memory}
use Rattle.pc_rules.proofs.FairPositivity.{good_leaves, nestable_leaves}
use Rattle.inductive_check.specs.Waiting.{Waiting, type_waits, argument_waits, arguments_waiting, families_waiting, one_test, each_then, each_test, Goes}
use Rattle.inductive_check.proofs.Nesting.{agrees_less, agrees_both, good_fuel}
use Rattle.inductive_check.proofs.InTurn.{both_assoc, yes_both, no_both, both_leaves, each_append, last_test, families_wait, arguments_wait, each_agrees, each_leaves}

-- a run by an equation
pub goes_by : (E : Env) (before : List Waiting) (x : Waiting) (after : List Waiting) (b : Bool) (m : Meter) →
    each_test E (before ++ (x ∷ [])) m.account ≡ (if b then each_test E after m.account else done false m.account) → Goes E before x after m m b
goes_by E before x after b m e r n f = subst (λ d. Follows d r m n) (sym e) f

module _ (E : Env) (before : List Waiting) (g : Target) (j : ℕ) where
  abbrev Comes : Term → Account → Run Bool → Type 0
  Comes t u d = each_test E (before ++ (type_waits g j t ∷ [])) u ≡ d

  by_test : (t : Term) (u : Account) (d : Run Bool) → good E (nestable E u.left) g j t u ≡ d → Comes t u (both d (each_test E before))
  by_test t u d e = last_test E before (type_waits g j t) u ∙ ap (λ r. both r (each_test E before)) e

  pub holds : (t : Term) (u : Account) → good E (nestable E u.left) g j t u ≡ done true u → Comes t u (each_test E before u)
  holds t u e = by_test t u (done true u) e ∙ yes_both u (each_test E before)

  pub fails : (t : Term) (u : Account) → good E (nestable E u.left) g j t u ≡ done false u → Comes t u (done false u)
  fails t u e = by_test t u (done false u) e ∙ no_both u (each_test E before)

  pub variable_holds : (i : ℕ) (u : Account) → Comes (Rel i) u (each_test E before u)
  variable_holds i u = holds (Rel i) u refl

  pub domain_fails : (A B : Term) (u : Account) → true ≡ names g j A → Comes (Prod A B) u (done false u)
  domain_fails A B u e = fails (Prod A B) u (ap (λ b. if b then done false u else good E (nestable E u.left) g (suc j) B u) (sym e))

  pub product_goes : (A B : Term) (u : Account) → false ≡ names g j A → Comes (Prod A B) u (each_test E (before ++ (type_waits g (suc j) B ∷ [])) u)
  product_goes A B u e =
      by_test (Prod A B) u (good E (nestable E u.left) g (suc j) B u) (ap (λ b. if b then done false u else good E (nestable E u.left) g (suc j) B u) (sym e))
      ∙ sym (last_test E before (type_waits g (suc j) B) u)

  pub product_then : {X : Type 0} (A C : Term) (after : List Waiting) (res : Result Bool X) (i : ℕ) → i ≡ j + 1 → false ≡ names g j A →
      IfOk res (λ b. (m : Meter) → Goes E before (type_waits g i C) after m m b) → IfOk res (λ b. (m : Meter) → Goes E before (type_waits g j (Prod A C)) after m m b)
  product_then A C after (Ok b) i q n h = λ m r k f.
      subst (λ d. Follows d r m k) (sym (product_goes A C m.account n))
      (subst (λ i. Follows (each_test E (before ++ (type_waits g i C ∷ [])) m.account) r m k) (q ∙ add-one j) (h m r k f))
  product_then A C after (Err x) i q n h = tt

  module _ (nest : Nesting) (u : Account) where
    good_none : (t : Term) → ((i : ℕ) → t ≡ Rel i → ⊥) → ((A B : Term) → t ≡ Prod A B → ⊥) → false ≡ names g j t → good E nest g j t u ≡ done true u
    good_none (Rel i) v p e = absurd (v i refl)
    good_none (Prod A B) v p e = absurd (p A B refl)
    good_none (App f a) v p e =
        ap (λ b. if b then family_good E g j (head f) (args (App f a)) (λ B v. both (arguments_good E nest g j B f v) (argument_good nest g j B (length (args f)) a (good E nest g j a))) u else done true u) (sym e)
    good_none (SortT s) v p e = ap (λ b. if b then family_good E g j (SortT s) [] (λ B v. done true v) u else done true u) (sym e)
    good_none (Lambda A t) v p e = ap (λ b. if b then family_good E g j (Lambda A t) [] (λ B v. done true v) u else done true u) (sym e)
    good_none (LetIn t A s) v p e = ap (λ b. if b then family_good E g j (LetIn t A s) [] (λ B v. done true v) u else done true u) (sym e)
    good_none (Const c) v p e = ap (λ b. if b then family_good E g j (Const c) [] (λ B v. done true v) u else done true u) (sym e)
    good_none (Ind f) v p e = ap (λ b. if b then family_good E g j (Ind f) [] (λ B v. done true v) u else done true u) (sym e)
    good_none (Construct f c) v p e = ap (λ b. if b then family_good E g j (Construct f c) [] (λ B v. done true v) u else done true u) (sym e)
    good_none (Case f ps n ret s bs) v p e = ap (λ b. if b then family_good E g j (Case f ps n ret s bs) [] (λ B v. done true v) u else done true u) (sym e)
    good_none (Fix i rargs types bodies) v p e = ap (λ b. if b then family_good E g j (Fix i rargs types bodies) [] (λ B v. done true v) u else done true u) (sym e)

    good_family : (t : Term) → ((i : ℕ) → t ≡ Rel i → ⊥) → ((A B : Term) → t ≡ Prod A B → ⊥) → names g j t ≡ true →
        good E nest g j t u ≡ family_good E g j (head t) (args t) (λ B. arguments_good E nest g j B t) u
    good_family (Rel i) v p e = absurd (v i refl)
    good_family (Prod A B) v p e = absurd (p A B refl)
    good_family (App f a) v p e =
        ap (λ b. if b then family_good E g j (head f) (args (App f a)) (λ B v. both (arguments_good E nest g j B f v) (argument_good nest g j B (length (args f)) a (good E nest g j a))) u else done true u) e
    good_family (SortT s) v p e = ap (λ b. if b then family_good E g j (SortT s) [] (λ B v. done true v) u else done true u) e
    good_family (Lambda A t) v p e = ap (λ b. if b then family_good E g j (Lambda A t) [] (λ B v. done true v) u else done true u) e
    good_family (LetIn t A s) v p e = ap (λ b. if b then family_good E g j (LetIn t A s) [] (λ B v. done true v) u else done true u) e
    good_family (Const c) v p e = ap (λ b. if b then family_good E g j (Const c) [] (λ B v. done true v) u else done true u) e
    good_family (Ind f) v p e = ap (λ b. if b then family_good E g j (Ind f) [] (λ B v. done true v) u else done true u) e
    good_family (Construct f c) v p e = ap (λ b. if b then family_good E g j (Construct f c) [] (λ B v. done true v) u else done true u) e
    good_family (Case f ps n ret s bs) v p e = ap (λ b. if b then family_good E g j (Case f ps n ret s bs) [] (λ B v. done true v) u else done true u) e
    good_family (Fix i rargs types bodies) v p e = ap (λ b. if b then family_good E g j (Fix i rargs types bodies) [] (λ B v. done true v) u else done true u) e

  pub none_named : (t : Term) (u : Account) → ((i : ℕ) → t ≡ Rel i → ⊥) → ((A B : Term) → t ≡ Prod A B → ⊥) → false ≡ names g j t → Comes t u (each_test E before u)
  none_named t u v p e = holds t u (good_none (nestable E u.left) u t v p e)

  -- a term that names the target, by its head
  module _ (xs : List Term) (k : Block → Account → Run Bool) (u : Account) where
    no_family : (h : Term) → ((f : FamilyId) → h ≡ Ind f → ⊥) → family_good E g j h xs k u ≡ done false u
    no_family (Ind f) e = absurd (e f refl)
    no_family (Rel i) e = refl
    no_family (SortT s) e = refl
    no_family (Prod A B) e = refl
    no_family (Lambda A b) e = refl
    no_family (LetIn b B t) e = refl
    no_family (App f a) e = refl
    no_family (Const c) e = refl
    no_family (Construct f c) e = refl
    no_family (Case f ps n ret s bs) e = refl
    no_family (Fix i rargs types bodies) e = refl

    own_family : (h : Term) (f : FamilyId) → h ≡ Ind f → same_names f.block (block_of g) ≡ true → family_good E g j h xs k u ≡ done (own_arguments g j xs) u
    own_family h f e b =
        ap (λ h. family_good E g j h xs k u) (e)
        ∙ ap (λ b. if b then done (own_arguments g j xs) u else given_parameters (length xs) (whole_block (kept_at E.declarations f.block)) k u) b

    other_family : (h : Term) (f : FamilyId) (o : Option Block) → h ≡ Ind f → same_names f.block (block_of g) ≡ false → whole_block (kept_at E.declarations f.block) ≡ o →
        family_good E g j h xs k u ≡ given_parameters (length xs) o k u
    other_family h f o e b q =
        ap (λ h. family_good E g j h xs k u) (e)
        ∙ ap (λ b. if b then done (own_arguments g j xs) u else given_parameters (length xs) (whole_block (kept_at E.declarations f.block)) k u) b
        ∙ ap (λ o. given_parameters (length xs) o k u) q

    pub enough_parameters : (B : Block) (b : Bool) → nat_le (length B.params) (length xs) ≡ b → given_parameters (length xs) (Some B) k u ≡ (if b then k B u else done false u)
    enough_parameters B b e = ap (λ b. if b then k B u else done false u) e

  module _ (t : Term) (u : Account) (v : (i : ℕ) → t ≡ Rel i → ⊥) (p : (A B : Term) → t ≡ Prod A B → ⊥) (n : names g j t ≡ true) where
    by_family : (d : Run Bool) → family_good E g j (head t) (args t) (λ B. arguments_good E (nestable E u.left) g j B t) u ≡ d → good E (nestable E u.left) g j t u ≡ d
    by_family d e = good_family (nestable E u.left) u t v p n ∙ e

    pub no_family_fails : ((f : FamilyId) → head t ≡ Ind f → ⊥) → Comes t u (done false u)
    no_family_fails e = fails t u (by_family (done false u) (no_family (args t) (λ B. arguments_good E (nestable E u.left) g j B t) u (head t) e))

    pub own_family_is : (f : FamilyId) (b : Bool) → head t ≡ Ind f → same_names f.block (block_of g) ≡ true → b ≡ own_arguments g j (args t) →
        Comes t u (if b then each_test E before u else done false u)
    own_family_is f true e s q = holds t u (by_family (done true u) (own_family (args t) (λ B. arguments_good E (nestable E u.left) g j B t) u (head t) f e s ∙ ap (λ b. done b u) (sym q)))
    own_family_is f false e s q = fails t u (by_family (done false u) (own_family (args t) (λ B. arguments_good E (nestable E u.left) g j B t) u (head t) f e s ∙ ap (λ b. done b u) (sym q)))

    pub unknown_fails : (f : FamilyId) → head t ≡ Ind f → same_names f.block (block_of g) ≡ false → whole_block (kept_at E.declarations f.block) ≡ None → Comes t u (done false u)
    unknown_fails f e s w = fails t u (by_family (done false u) (other_family (args t) (λ B. arguments_good E (nestable E u.left) g j B t) u (head t) f None e s w))

    pub short_fails : (f : FamilyId) (B : Block) → head t ≡ Ind f → same_names f.block (block_of g) ≡ false → whole_block (kept_at E.declarations f.block) ≡ Some B →
        nat_le (length B.params) (length (args t)) ≡ false → Comes t u (done false u)
    short_fails f B e s w l =
        let K : Block → Account → Run Bool = λ B. arguments_good E (nestable E u.left) g j B t in
        fails t u (by_family (done false u) (other_family (args t) K u (head t) f (Some B) e s w ∙ enough_parameters (args t) K u B false l))

    pub arguments_go : (f : FamilyId) (B : Block) → head t ≡ Ind f → same_names f.block (block_of g) ≡ false → whole_block (kept_at E.declarations f.block) ≡ Some B →
        nat_le (length B.params) (length (args t)) ≡ true → Comes t u (each_test E (before ++ arguments_waiting g j B t) u)
    arguments_go f B e s w l =
        let K : Block → Account → Run Bool = λ B. arguments_good E (nestable E u.left) g j B t in
        let rest : Account → Run Bool = each_test E before in
        let same : Agrees (suc u.left) rest rest = each_agrees E (suc u.left) (λ u. done true u) (yes_agrees (suc u.left)) before in
        by_test t u (K B u) (by_family (K B u) (other_family (args t) K u (head t) f (Some B) e s w ∙ enough_parameters (args t) K u B true l))
        ∙ (arguments_wait E u.left rest rest same g j B t).same u (omega arith)
        ∙ sym (ap (λ f. f u) (each_append E before (arguments_waiting g j B t) (λ u. done true u))) where
          yes_agrees : (n : ℕ) → Agrees n (λ u. done true u) (λ u. done true u)
          yes_agrees n = record { same = λ u l. refl; falls = λ u l. omega arith }

-- an argument of a family of an earlier block

paid_bind : {A B : Type 0} (n : ℕ) (r : Run A) (k : A → Account → Run B) → bind (paid n r) k ≡ paid n (bind r k)
unfolding bind
paid_bind zero r k = refl
paid_bind (suc n) r k = refl

ticking_bind : {A B : Type 0} (u : Account) (f : Account → Run A) (k : A → Account → Run B) → bind (ticking u f) k ≡ ticking u (λ v. bind (f v) k)
unfolding ticking
ticking_bind u f k = paid_bind u.left (f (ticked u)) k

nestable_is : (E : Env) (n : ℕ) (B : Block) (p : ℕ) (u : Account) (b : Bool) → types_name B p ≡ b →
    nestable E (suc n) B p u ≡ (if b then done false u else families_good E (nestable E n) (parameter_target B p) B.families u)
unfolding nestable
nestable_is E n B p u b e = ap (λ b. if b then done false u else families_good E (nestable E n) (parameter_target B p) B.families u) e

module _ (E : Env) (before : List Waiting) (g : Target) (j : ℕ) (B : Block) (i : ℕ) (a : Term) where
  abbrev all : List Waiting
  all = before ++ (argument_waits g j B i a ∷ [])

  pub argument_named_none : (m : Meter) → false ≡ names g j a → Goes E before (argument_waits g j B i a) before m m true
  argument_named_none m e =
      let u : Account = m.account in
      goes_by E before (argument_waits g j B i a) before true m
      (last_test E before (argument_waits g j B i a) u
      ∙ ap (λ b. both (if b then (if nat_lt i (length B.params) then ticking u (λ v. both (nestable E u.left B i v) (good E (nestable E u.left) g j a)) else done false u) else done true u) (each_test E before)) (sym e)
      ∙ yes_both u (each_test E before))

  pub further_named : (m : Meter) (after : List Waiting) → true ≡ names g j a → nat_lt i (length B.params) ≡ false → Goes E before (argument_waits g j B i a) after m m false
  further_named m after e l =
      let u : Account = m.account in
      goes_by E before (argument_waits g j B i a) after false m
      (last_test E before (argument_waits g j B i a) u
      ∙ ap (λ b. both (if b then (if nat_lt i (length B.params) then ticking u (λ v. both (nestable E u.left B i v) (good E (nestable E u.left) g j a)) else done false u) else done true u) (each_test E before)) (sym e)
      ∙ ap (λ b. both (if b then ticking u (λ v. both (nestable E u.left B i v) (good E (nestable E u.left) g j a)) else done false u) (each_test E before)) l
      ∙ no_both u (each_test E before))

  -- a parameter that names the target: a unit, and then its place and itself
  module _ (e : true ≡ names g j a) (l : nat_lt i (length B.params) ≡ true) where
    abbrev rest : ℕ → Account → Run Bool
    rest n v = both (both (nestable E n B i v) (good E (nestable E n) g j a)) (each_test E before)

    takes_unit : (u : Account) → each_test E all u ≡ ticking u (rest u.left)
    takes_unit u =
        last_test E before (argument_waits g j B i a) u
        ∙ ap (λ b. both (if b then (if nat_lt i (length B.params) then ticking u (λ v. both (nestable E u.left B i v) (good E (nestable E u.left) g j a)) else done false u) else done true u) (each_test E before)) (sym e)
        ∙ ap (λ b. both (if b then ticking u (λ v. both (nestable E u.left B i v) (good E (nestable E u.left) g j a)) else done false u) (each_test E before)) l
        ∙ ticking_bind u (λ v. both (nestable E u.left B i v) (good E (nestable E u.left) g j a)) (λ b v. if b then each_test E before v else done false v)

    pub no_unit_left : (m0 m1 : Meter) → m0.account.left ≡ 0 → m1.account ≡ ticked m0.account → m1.nest ≡ m0.nest → Follows (each_test E all m0.account) (Err (Stop Spent)) m0 m1
    no_unit_left m0 m1 z q n =
        subst (λ d. Follows d (Err (Stop Spent)) m0 m1) (sym (takes_unit m0.account)) (follows_spent (rest m0.account.left) m0 m1 z q n)

    after_unit : (m0 m1 : Meter) (d : Run Bool) (r : Result Bool Halt) (n : Meter) → 0 < m0.account.left → m1.account ≡ ticked m0.account → m1.nest ≡ m0.nest →
        rest m0.account.left m1.account ≡ d → Follows d r m1 n → Follows (each_test E all m0.account) r m0 n
    after_unit m0 m1 d r n p q s t f =
        subst (λ d. Follows d r m0 n) (sym (takes_unit m0.account))
        (follows_tick (rest m0.account.left) r m0 m1 n p q s (subst (λ d. Follows d r m1 n) (sym t) f))

    -- there is no memory behind the unit
    pub no_memory_left : (m0 m1 : Meter) → 0 < m0.account.left → m1.account ≡ ticked m0.account → m1.nest ≡ m0.nest → Follows (each_test E all m0.account) (Err (Stop Memory)) m0 m1
    no_memory_left m0 m1 p q s =
        let n : ℕ = m0.account.left in
        let v : Account = m1.account in
        after_unit m0 m1 (rest n v) (Err (Stop Memory)) m1 p q s refl
        (follows_memory (rest n v) m1
        (both_leaves (both (nestable E n B i v) (good E (nestable E n) g j a)) (each_test E before) v.left
        (both_leaves (nestable E n B i v) (good E (nestable E n) g j a) v.left (nestable_leaves E n B i v) (good_leaves E n g j a)) (each_leaves E before)))

    more_fuel : (m0 m1 : Meter) → 0 < m0.account.left → m1.account ≡ ticked m0.account → m0.account.left ≡ suc m1.account.left
    more_fuel m0 m1 p q = let e : m1.account.left ≡ m0.account.left - 1 = ap (λ u. u.left) q in omega arith

    pub place_fails : (m0 m1 : Meter) (after : List Waiting) → 0 < m0.account.left → m1.account ≡ ticked m0.account → m1.nest ≡ m0.nest → true ≡ types_name B i →
        Goes E before (argument_waits g j B i a) after m0 m1 false
    place_fails m0 m1 after p q s y r n f =
        let v : Account = m1.account in
        after_unit m0 m1 (done false v) r n p q s
        (ap (λ k. rest k v) (more_fuel m0 m1 p q)
        ∙ ap (λ d. both (both d (good E (nestable E (suc v.left)) g j a)) (each_test E before)) (nestable_is E v.left B i v true (sym y))
        ∙ ap (λ d. both d (each_test E before)) (no_both v (good E (nestable E (suc v.left)) g j a))
        ∙ no_both v (each_test E before)) f

    pub place_goes : (m0 m1 : Meter) (after : List Waiting) → 0 < m0.account.left → m1.account ≡ ticked m0.account → m1.nest ≡ m0.nest → false ≡ types_name B i →
        after ≡ (before ++ (type_waits g j a ∷ [])) ++ families_waiting (parameter_target B i) B.families → Goes E before (argument_waits g j B i a) after m0 m1 true
    place_goes m0 m1 after p q s y w r n f =
        let v : Account = m1.account in
        let k : ℕ = v.left in
        let before' : List Waiting = before ++ (type_waits g j a ∷ []) in
        let own : Account → Run Bool = good E (nestable E (suc k)) g j a in
        let own' : Account → Run Bool = one_test E (type_waits g j a) in
        let last : Account → Run Bool = each_test E before in
        let same : Agrees (suc k) last last = each_agrees E (suc k) (λ u. done true u) (record { same = λ u l. refl; falls = λ u l. omega arith }) before in
        let fuel : Agrees (suc k) own own' = agrees_less (suc k) (suc (suc k)) own own' (omega arith) (good_fuel E (suc k) g j a) in
        let both' : Agrees (suc k) (λ x. both (own x) last) (λ x. both (own' x) last) = agrees_both (suc k) own own' last last fuel same in
        let wait = families_wait E k (λ x. both (own x) last) (λ x. both (own' x) last) both' (parameter_target B i) B.families in
        after_unit m0 m1 (each_test E after v) r n p q s
        (ap (λ k. rest k v) (more_fuel m0 m1 p q)
        ∙ ap (λ d. both (both d own) last) (nestable_is E k B i v false (sym y))
        ∙ both_assoc (families_good E (nestable E k) (parameter_target B i) B.families v) own last
        ∙ wait.same v (omega arith)
        ∙ sym (λ z. each_then E (families_waiting (parameter_target B i) B.families) (λ x. last_test E before (type_waits g j a) x z) v)
        ∙ sym (ap (λ f. f v) (each_append E before' (families_waiting (parameter_target B i) B.families) (λ u. done true u)))
        ∙ ap (λ xs. each_test E xs v) (sym w)) f

-- what code finds out, as the lemmas above ask for it

pub not_variable : (n : Node) (t : Term) → tree_of n ≡ t → ((i : ℕ) → n ≡ node.Rel i → ⊥) → (i : ℕ) → t ≡ Rel i → ⊥
not_variable n t e h i q = go n (e ∙ q) h where
  go : (n : Node) → tree_of n ≡ Rel i → ((i : ℕ) → n ≡ node.Rel i → ⊥) → ⊥
  go (node.Rel x) e h = h x refl
  go (node.Sort s) e h = cc
  go (node.Prod A B) e h = cc
  go (node.Lambda A b) e h = cc
  go (node.LetIn b B t) e h = cc
  go (node.App f a) e h = cc
  go (node.Const c) e h = cc
  go (node.Ind f) e h = cc
  go (node.Construct f c) e h = cc
  go (node.Case m) e h = cc
  go (node.Fix ds x) e h = cc

pub not_product : (n : Node) (t : Term) → tree_of n ≡ t → ((A B : Term) → n ≡ node.Prod A B → ⊥) → (A B : Term) → t ≡ Prod A B → ⊥
not_product n t e h A B q = go n (e ∙ q) h where
  go : (n : Node) → tree_of n ≡ Prod A B → ((A B : Term) → n ≡ node.Prod A B → ⊥) → ⊥
  go (node.Prod C D) e h = h C D refl
  go (node.Rel x) e h = cc
  go (node.Sort s) e h = cc
  go (node.Lambda C b) e h = cc
  go (node.LetIn b C t) e h = cc
  go (node.App f a) e h = cc
  go (node.Const c) e h = cc
  go (node.Ind f) e h = cc
  go (node.Construct f c) e h = cc
  go (node.Case m) e h = cc
  go (node.Fix ds x) e h = cc

pub not_family : (n : Node) (t : Term) → tree_of n ≡ t → ((f : FamilyId) → n ≡ node.Ind f → ⊥) → (f : FamilyId) → t ≡ Ind f → ⊥
not_family n t e h f q = go n (e ∙ q) h where
  go : (n : Node) → tree_of n ≡ Ind f → ((f : FamilyId) → n ≡ node.Ind f → ⊥) → ⊥
  go (node.Ind i) e h = h i refl
  go (node.Rel x) e h = cc
  go (node.Sort s) e h = cc
  go (node.Prod C D) e h = cc
  go (node.Lambda C b) e h = cc
  go (node.LetIn b C t) e h = cc
  go (node.App i a) e h = cc
  go (node.Const c) e h = cc
  go (node.Construct i c) e h = cc
  go (node.Case m) e h = cc
  go (node.Fix ds x) e h = cc

pub same_yes : (k l : Name) → k.0 ≡ l.0 → same_names k l ≡ true
same_yes k l e = eq-eqb k.0 l.0 e

pub same_no : (k l : Name) → (k.0 ≡ l.0 → ⊥) → same_names k l ≡ false
same_no k l n = go (same_names k l) refl where
  go : (b : Bool) → same_names k l ≡ b → same_names k l ≡ false
  go false e = e
  go true e = absurd (n (eqb-true k.0 l.0 e))

pub too_few : (xs ys : List Term) (n : ℕ) → xs ≡ ys → length xs < n → nat_le n (length ys) ≡ false
too_few xs ys n e l = let q : length xs ≡ length ys = ap length e in lt-leb n (length ys) (omega arith)

pub enough : (xs ys : List Term) (n : ℕ) → xs ≡ ys → n ≤ length xs → nat_le n (length ys) ≡ true
enough xs ys n e l = let q : length xs ≡ length ys = ap length e in le-leb n (length ys) (omega arith)
