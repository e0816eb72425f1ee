-- What the test of erasable terms says where it finds no evidence.
use Rattle.std.proofs.Common.{◌≡◌, ◌≢◌, ℕ, zero, suc, inl, inr, Bool, true, false, if◌then◌else◌, List, [], ◌∷◌, Option, Some, None, slice_get, refl, sym, ap, ◌∙◌, subst}
use Rattle.std.proofs.lemmas.Bool.{true≢false}
use Rattle.universe_levels.specs.declared.level.LevelExpr.{LevelExpr}
use Rattle.universe_levels.specs.declared.sort.Sort.{Sort}
use Rattle.universe_levels.specs.declared.sort.Sort.TheVariants.{Prop, Of}
use Rattle.universe_levels.specs.Sorts.{super_sort, product_sort}
use Rattle.pc_terms.specs.declared.leaf.FamilyId.{FamilyId}
use Rattle.pc_terms.specs.Syntax.{Term, Terms, Rel, SortT, Prod, Ind, Construct, Case, list_of}
use Rattle.calculus_rules.specs.declared.declaration.Constructor.{Constructor}
use Rattle.calculus_rules.specs.declared.declaration.Block.{Block}
use Rattle.calculus_rules.specs.declared.evidence.Evidence.{Evidence}
use Rattle.calculus_rules.specs.declared.evidence.Evidence.TheVariants.{PropConstructor}
use Rattle.calculus_rules.specs.declared.entry.Entry.TheVariants.{Assumed}
use Rattle.pc_rules.specs.declared.meter.Account.{Account}
use Rattle.calculus_rules.specs.Environment.{Env, FamilyDecl}
use Rattle.calculus_rules.specs.Context.{Context, values, extend}
use Rattle.calculus_rules.specs.Instances.{products, family_type, constructor_type, predicate_entries, predicate_at}
use Rattle.calculus_rules.specs.Elimination.{MayEliminate, MayErase}
use Rattle.pc_rules.specs.DirectedRun as run
use Rattle.pc_rules.specs.DirectedRun.{Run, done, make, made, no_unit, any_beyond, bind, noted, ticked, too_nested}
use Rattle.calculus_rules.specs.Lookups.{kept_at, known_block, whole_block, family_of}
use Rattle.pc_rules.specs.DirectedWeakHead.{weak_next}
use Rattle.pc_rules.specs.DirectedComparison.{Test, Comparison, compare}
use Rattle.pc_rules.specs.DirectedTyping.{Typing, rule, rule_number, infer, sort_of, sorts_of, levels_declared, undeclared_in, raises_past, find_family, constructor_number, match_counted, check_all, eliminated, predicate_rule, scrutinee_rule, branches_rule}
use Rattle.pc_rules.specs.DirectedErasable.{TypeEnding, ending_on, end_of, ends_in_sort, arity_found, type_test, numbered_test, constructor_test, match_sort, match_test}
use Rattle.calculus_rules.specs.PropSorts.{is_prop}
use Rattle.pc_rules.proofs.WeakNext.{none_some}
use Rattle.calculus_rules.proofs.Spines.{one_item}
use Rattle.rule_laws.proofs.Runs.{bind_both, ticking_done, nested_done, done_value, pass_then}
use Rattle.rule_laws.proofs.SimpleRules.{whole_family, constructor_is as constructor_there}
use Rattle.rule_laws.proofs.MatchRule.{eliminated_is}
use Rattle.agreeing.proofs.Unique.{one_result}
use Rattle.agreeing.proofs.AgreeTyping.{agree_sort_of, agree_infer}

pub of_not_prop : {r : Sort} {u : List LevelExpr} → r ≡ Of u → r ≢ Prop
of_not_prop e p = absurd (cc)

may_erase : (E : Env) (f : FamilyId) (F : FamilyDecl) (s : Sort) → s ≢ Prop → MayEliminate E f F s → MayErase E f F
may_erase E f F s far (inl p) = inl p
may_erase E f F s far (inr (inl p)) = absurd (far p)
may_erase E f F s far (inr (inr p)) = inr p

-- products that end in a sort

some_is_none : {A : Type 0} {k : Evidence} {v w : Account} → run.Done (Some k) v ≡ run.Done None w → A
some_is_none h = absurd (none_some (sym (done_value h)))

module _ (E : Env) where
  -- a type whose end is found to be a sort, at once
  abbrev EndsAtOnce : Term → Type 0
  EndsAtOnce T = (go : TypeEnding) (c : Context) (g : Term → Account → Run Bool) (u : Account) → ending_on (weak_next E (values c) T) (end_of E go c T u) g u ≡ done true u

  sort_ends : (s : Sort) → EndsAtOnce (SortT s)
  sort_ends s go c g u = refl

  products_end : (As : List Term) (T : Term) → EndsAtOnce T → EndsAtOnce (products As T)
  products_end [] T h = h
  products_end (A ∷ As) T h = λ go c g u. products_end As T h go (Assumed A ∷ c) (go (Assumed A ∷ c)) u

  ends_true : (m : ℕ) (c : Context) (T : Term) (u : Account) → EndsAtOnce T → (ends_in_sort E m c T u).end ≡ run.Done true u
  unfolding ends_in_sort
  ends_true zero c T u h = ap (λ r. r.end) (h (λ d T v. no_unit) c (λ T v. no_unit) u)
  ends_true (suc m) c T u h = ap (λ r. r.end) (h (ends_in_sort E m) c (ends_in_sort E m c) u)

  -- the term has an inferred type that ends in no sort
  pub record IsPlain (inf : Typing) (c : Context) (t : Term) : Type 0 where
    pub type : Term
    pub before : Account
    pub after : Account
    pub last : Account
    pub inferred : (inf c t before).end ≡ run.Done type after
    pub ends : (ends_in_sort E after.left c type after).end ≡ run.Done false last

  no_arity : (inf : Typing) (c : Context) (t T : Term) (b : Bool) (u v w x y : Account) → (inf c t u).end ≡ run.Done T v → (ends_in_sort E v.left c T v).end ≡ run.Done b w →
      (arity_found E inf c T b x).end ≡ run.Done None y → IsPlain inf c t
  no_arity inf c t T true u v w x y h e g = some_is_none g
  no_arity inf c t T false u v w x y h e g = record { type = T; before = u; after = v; last = w; inferred = h; ends = e }

  pub type_none : (inf : Typing) (c : Context) (t : Term) (u v : Account) → (type_test E inf c t u).end ≡ run.Done None v → IsPlain inf c t
  type_none inf c t u v h =
      let k1 : Term → Account → Run (Option Evidence) = λ T v. bind (ends_in_sort E v.left c T v) (λ b w. arity_found E inf c T b w) in
      let p1 = bind_both (inf c t u) k1 None v h in
      let p2 = bind_both (ends_in_sort E p1.1.left c p1.0 p1.1) (λ b w. arity_found E inf c p1.0 b w) None v p1.3 in
      no_arity inf c t p1.0 p2.0 u p1.1 p2.1 p2.1 v p1.2 p2.2 p2.3

  ends_both : (m : ℕ) (c : Context) (T S : Term) (u v : Account) → S ≡ T → EndsAtOnce S → (ends_in_sort E m c T u).end ≡ run.Done false v → ⊥
  ends_both m c T S u v e a h = true≢false (done_value (sym (ends_true m c T u (subst EndsAtOnce e a)) ∙ h))

  module _ (q : Test) where
    ruled : (n : ℕ) (c : Context) (t T : Term) (u v : Account) → (infer E q n c t u).end ≡ run.Done T v →
        (m : ℕ) × (w : Account) × (n ≡ suc m) × ((rule E (infer E q m) (compare E q m) c t w).end ≡ run.Done T v)
    unfolding infer
    ruled zero c t T u v h = absurd (nested_done (ticking_done u (λ v. too_nested) T v h))
    ruled (suc n) c t T u v h =
        (n, noted (rule_number t) (ticked u), refl, ticking_done u (λ v. rule E (infer E q n) (compare E q n) c t (noted (rule_number t) v)) T v h)

    module _ (n : ℕ) (c : Context) where
      pub sort_not_plain : (s : Sort) → IsPlain (infer E q n) c (SortT s) → ⊥
      sort_not_plain s h =
          let r = ruled n c (SortT s) h.type h.before h.after h.inferred in
          let p = bind_both (levels_declared (undeclared_in E.levels s) r.1) (λ _ v. made (raises_past s) (SortT (super_sort s)) v) h.type h.after r.3 in
          ends_both h.after.left c h.type (SortT (super_sort s)) h.after h.last (done_value p.3) (sort_ends (super_sort s)) h.ends

      pub prod_not_plain : (A B : Term) → IsPlain (infer E q n) c (Prod A B) → ⊥
      prod_not_plain A B h =
          let r = ruled n c (Prod A B) h.type h.before h.after h.inferred in
          let inf : Typing = infer E q r.0 in
          let k1 : Sort → Account → Run Term = λ s v. bind (sort_of E inf (Assumed A ∷ c) B v) (λ r w. done (SortT (product_sort s r)) w) in
          let p1 = bind_both (sort_of E inf c A r.1) k1 h.type h.after r.3 in
          let p2 = bind_both (sort_of E inf (Assumed A ∷ c) B p1.1) (λ r w. done (SortT (product_sort p1.0 r)) w) h.type h.after p1.3 in
          ends_both h.after.left c h.type (SortT (product_sort p1.0 p2.0)) h.after h.last (done_value p2.3) (sort_ends (product_sort p1.0 p2.0)) h.ends

      pub ind_not_plain : (f : FamilyId) → IsPlain (infer E q n) c (Ind f) → ⊥
      ind_not_plain f h =
          let r = ruled n c (Ind f) h.type h.before h.after h.inferred in
          let p = bind_both (find_family f (known_block (kept_at E.declarations f.block)) r.1) (λ F v. make (family_type F) v) h.type h.after r.3 in
          ends_both h.after.left c h.type (family_type p.0) h.after h.last (done_value p.3)
          (products_end p.0.parameters _ (products_end p.0.indices _ (sort_ends p.0.sort))) h.ends

      -- a constructor that has an inferred type is there
      pub constructor_known : (f : FamilyId) (k : ℕ) → IsPlain (infer E q n) c (Construct f k) →
          (F : FamilyDecl) × (C : Constructor) × (family_of E f ≡ Some F) × (slice_get F.constructors k ≡ Some C)
      constructor_known f k h =
          let r = ruled n c (Construct f k) h.type h.before h.after h.inferred in
          let k2 : FamilyDecl → Constructor → Account → Run Term = λ F C w. make (constructor_type f F C) w in
          let k1 : FamilyDecl → Account → Run Term = λ F v. bind (constructor_number F k (slice_get F.constructors k) v) (k2 F) in
          let p1 = bind_both (find_family f (whole_block (kept_at E.declarations f.block)) r.1) k1 h.type h.after r.3 in
          let p2 = bind_both (constructor_number p1.0 k (slice_get p1.0.constructors k) p1.1) (k2 p1.0) h.type h.after p1.3 in
          (p1.0, p2.0, whole_family E f p1.0 r.1 p1.1 p1.2, constructor_there p1.0 k (slice_get p1.0.constructors k) p2.0 p1.1 p2.1 p2.2)

      -- a constructor without evidence is there, and its family isn't in Prop
      pub record IsRelevant (f : FamilyId) (k : ℕ) : Type 0 where
        pub family : FamilyDecl
        pub constructor : Constructor
        pub at : family_of E f ≡ Some family
        pub number : slice_get family.constructors k ≡ Some constructor
        pub relevant : family.sort ≢ Prop

      relevant_sort : (f : FamilyId) (k : ℕ) (F : FamilyDecl) (C : Constructor) (s : Sort) (u v : Account) → family_of E f ≡ Some F → slice_get F.constructors k ≡ Some C → F.sort ≡ s →
          (if is_prop s then done (Some PropConstructor) u else type_test E (infer E q n) c (Construct f k) u).end ≡ run.Done None v → IsRelevant f k
      relevant_sort f k F C Prop u v e is p h = some_is_none h
      relevant_sort f k F C (Of x) u v e is p h = record { family = F; constructor = C; at = e; number = is; relevant = of_not_prop p }

      relevant_number : (f : FamilyId) (k : ℕ) (F : FamilyDecl) (o : Option Constructor) (u v : Account) → family_of E f ≡ Some F → slice_get F.constructors k ≡ o →
          (numbered_test E (infer E q n) c (Construct f k) F.sort o u).end ≡ run.Done None v → IsRelevant f k
      relevant_number f k F None u v e is h =
          let r = constructor_known f k (type_none (infer E q n) c (Construct f k) u v h) in
          let same : r.0 ≡ F = one_item (sym r.2 ∙ e) in
          absurd (none_some (sym is ∙ ap (λ F. slice_get F.constructors k) (sym same) ∙ r.3))
      relevant_number f k F (Some C) u v e is h = relevant_sort f k F C F.sort u v e is refl h

      pub constructor_none : (f : FamilyId) (k : ℕ) (o : Option FamilyDecl) (u v : Account) → family_of E f ≡ o →
          (constructor_test E (infer E q n) c (Construct f k) k o u).end ≡ run.Done None v → IsRelevant f k
      constructor_none f k None u v e h =
          let r = constructor_known f k (type_none (infer E q n) c (Construct f k) u v h) in
          absurd (none_some (sym e ∙ r.2))
      constructor_none f k (Some F) u v e h = relevant_number f k F (slice_get F.constructors k) u v e refl h

      -- the family of a match may be eliminated into the sort that any run finds for its predicate
      ap_predicate : (m : ℕ) (f : FamilyId) (G F : FamilyDecl) (ps : List Term) (ret : Term) (u v : Account) → G ≡ F →
          (predicate_rule E (infer E q m) c (whole_block (kept_at E.declarations f.block)) f G ps ret u).end ≡ run.Done tt v →
          (predicate_rule E (infer E q m) c (whole_block (kept_at E.declarations f.block)) f F ps ret u).end ≡ run.Done tt v
      ap_predicate m f G F ps ret u v e h =
          subst (λ F. (predicate_rule E (infer E q m) c (whole_block (kept_at E.declarations f.block)) f F ps ret u).end ≡ run.Done tt v) e h

      predicate_eliminates : (m : ℕ) (f : FamilyId) (F : FamilyDecl) (ps : List Term) (ret : Term) (r : Sort) (u v x y : Account) → family_of E f ≡ Some F →
          (predicate_rule E (infer E q m) c (whole_block (kept_at E.declarations f.block)) f F ps ret u).end ≡ run.Done tt v →
          (sort_of E (infer E q n) (extend c (predicate_entries f F ps)) ret x).end ≡ run.Done r y → MayEliminate E f F r
      predicate_eliminates m f F ps ret r u v x y at h found =
          let inf : Typing = infer E q m in
          let B : Option Block = whole_block (kept_at E.declarations f.block) in
          let D : Context = extend c (predicate_entries f F ps) in
          let k2 : List Sort → Account → Run (Unit {0}) = λ _ w. bind (sort_of E inf D ret w) (λ s x. eliminated B f F s x) in
          let h1 = pass_then (any_beyond (predicate_entries f F ps)) u (λ _ v. bind (sorts_of E inf c (predicate_entries f F ps) v) k2) h in
          let p1 = bind_both (sorts_of E inf c (predicate_entries f F ps) u) k2 tt v h1 in
          let p2 = bind_both (sort_of E inf D ret p1.1) (λ s x. eliminated B f F s x) tt v p1.3 in
          let one : p2.0 ≡ r =
          one_result (sort_of E inf D ret p1.1).end (sort_of E (infer E q n) D ret x).end p2.0 r p2.1 y
          ((agree_sort_of E inf (infer E q n) (record { at = agree_infer E q m n }) D ret).at p1.1 x) p2.2 found in
          subst (λ s. MayEliminate E f F s) one (eliminated_is E f F p2.0 p2.1 v at p2.3)

      eliminates : (f : FamilyId) (F : FamilyDecl) (ps : Terms) (k : ℕ) (ret s : Term) (bs : Terms) (r : Sort) (x y : Account) → family_of E f ≡ Some F →
          (sort_of E (infer E q n) (extend c (predicate_entries f F (list_of ps))) ret x).end ≡ run.Done r y → IsPlain (infer E q n) c (Case f ps k ret s bs) → MayEliminate E f F r
      eliminates f F ps k ret s bs sort x y family found h =
          let r = ruled n c (Case f ps k ret s bs) h.type h.before h.after h.inferred in
          let inf : Typing = infer E q r.0 in
          let cmp : Comparison = compare E q r.0 in
          let qs : List Term = list_of ps in
          let B : Option Block = whole_block (kept_at E.declarations f.block) in
          let k6 : List Term → Unit {0} → Account → Run Term = λ is _ r. make (predicate_at ret is s) r in
          let k5 : FamilyDecl → List Term → Account → Run Term = λ F is z. bind (branches_rule E inf cmp c f 0 F.constructors qs ret (list_of bs) z) (k6 is) in
          let k4 : FamilyDecl → Unit {0} → Account → Run Term = λ F _ y. bind (scrutinee_rule E inf cmp c f F qs s y) (k5 F) in
          let k3 : FamilyDecl → Unit {0} → Account → Run Term = λ F _ x. bind (predicate_rule E inf c B f F qs ret x) (k4 F) in
          let k2 : FamilyDecl → Unit {0} → Account → Run Term = λ F _ w. bind (check_all E inf cmp c Rel qs F.parameters w) (k3 F) in
          let k1 : FamilyDecl → Account → Run Term = λ F v. bind (match_counted F ps k bs v) (k2 F) in
          let p1 = bind_both (find_family f B r.1) k1 h.type h.after r.3 in
          let p2 = bind_both (match_counted p1.0 ps k bs p1.1) (k2 p1.0) h.type h.after p1.3 in
          let p3 = bind_both (check_all E inf cmp c Rel qs p1.0.parameters p2.1) (k3 p1.0) h.type h.after p2.3 in
          let p4 = bind_both (predicate_rule E inf c B f p1.0 qs ret p3.1) (k4 p1.0) h.type h.after p3.3 in
          let same : p1.0 ≡ F = one_item (sym (whole_family E f p1.0 r.1 p1.1 p1.2) ∙ family) in
          predicate_eliminates r.0 f F qs ret sort p3.1 p4.1 x y family (ap_predicate r.0 f p1.0 F qs ret p3.1 p4.1 same p4.2) found

      match_sort_none : (f : FamilyId) (F : FamilyDecl) (ps : Terms) (k : ℕ) (ret s : Term) (bs : Terms) (r : Sort) (x y u v : Account) → family_of E f ≡ Some F →
          (sort_of E (infer E q n) (extend c (predicate_entries f F (list_of ps))) ret x).end ≡ run.Done r y →
          (match_sort E (infer E q n) c (Case f ps k ret s bs) r u).end ≡ run.Done None v → MayErase E f F
      match_sort_none f F ps k ret s bs Prop x y u v e g h = some_is_none h
      match_sort_none f F ps k ret s bs (Of l) x y u v e g h =
          may_erase E f F (Of l) (of_not_prop refl) (eliminates f F ps k ret s bs (Of l) x y e g (type_none (infer E q n) c (Case f ps k ret s bs) u v h))

      -- a match without evidence may be erased former by former
      pub match_none : (f : FamilyId) (F : FamilyDecl) (ps : Terms) (k : ℕ) (ret s : Term) (bs : Terms) (u v : Account) → family_of E f ≡ Some F →
          (match_test E (infer E q n) c (Case f ps k ret s bs) f (list_of ps) ret (family_of E f) u).end ≡ run.Done None v → MayErase E f F
      match_none f F ps k ret s bs u v e h =
          let t : Term = Case f ps k ret s bs in
          let inf : Typing = infer E q n in
          let D : Context = extend c (predicate_entries f F (list_of ps)) in
          let h0 = subst (λ o. (match_test E inf c t f (list_of ps) ret o u).end ≡ run.Done None v) e h in
          let h1 = pass_then (any_beyond (predicate_entries f F (list_of ps))) u (λ _ v. bind (sort_of E inf D ret v) (λ s w. match_sort E inf c t s w)) h0 in
          let p = bind_both (sort_of E inf D ret u) (λ s w. match_sort E inf c t s w) None v h1 in
          match_sort_none f F ps k ret s bs p.0 u p.1 p.1 v e p.2 p.3
