-- What the directed rules infer is below each type of the term: by the rule of its former, since what they infer for its parts is below each of theirs.
use Rattle.std.proofs.Common.{◌≡◌, ℕ, zero, suc, ◌+◌, ◌==◌, ◌&&◌, inl, inr, List, [], ◌∷◌, ◌++◌, Option, Some, None, length, take, drop, refl, sym, ap, ◌∙◌, subst, slice_get, arith, length-take-le}
use Rattle.std.proofs.lemmas.Bool.{eqb-true}
use Rattle.universe_levels.specs.declared.sort.Sort.{Sort}
use Rattle.universe_levels.specs.Sorts.{super_sort, product_sort}
use Rattle.pc_terms.specs.declared.leaf.Name.{Name}
use Rattle.pc_terms.specs.declared.leaf.FamilyId.{FamilyId}
use Rattle.pc_terms.specs.Syntax.{Term, Terms, Rel, SortT, Prod, Lambda, LetIn, App, Const, Ind, Construct, Case, Fix, put, substitute, apply, head, args, term_at, list_of}
use Rattle.calculus_rules.specs.declared.declaration.Constructor.{Constructor}
use Rattle.calculus_rules.specs.declared.declaration.Block.{Block}
use Rattle.calculus_rules.specs.declared.declaration.Kept.{Kept}
use Rattle.calculus_rules.specs.declared.declaration.Kept.TheVariants.{Constant, Heads, Block as Whole}
use Rattle.calculus_rules.specs.declared.entry.Entry.TheVariants.{Assumed, Defined}
use Rattle.calculus_rules.specs.Environment.{Env, SortEntails, FamilyDecl, KeepsConstant, KeepsFamily}
use Rattle.calculus_rules.specs.Context.{Context, values, type_at}
use Rattle.calculus_rules.specs.Conversion.{same, back, Below, equal, product}
use Rattle.calculus_rules.specs.Instances.{family_type, constructor_type, predicate_at, definitions}
use Rattle.calculus_rules.specs.Lookups.{kept_at, known_block, whole_block}
use Rattle.calculus_rules.specs.Same as tree
use Rattle.calculus_rules.specs.Typing.{bare, Types}
use Rattle.calculus_rules.specs.Accepted.{IsAccepted}
use Rattle.calculus_rules.proofs.OneEach.{one_of_each}
use Rattle.calculus_rules.proofs.Spines.{one_item}
use Rattle.pc_rules.specs.declared.meter.Account.{Account}
use Rattle.pc_rules.specs.DirectedRun as run
use Rattle.pc_rules.specs.DirectedRun.{Run, done, refused, make, made, bind, too_nested, noted, ticked}
use Rattle.pc_rules.specs.DirectedComparison.{Test, Comparison, compare}
use Rattle.pc_rules.specs.DirectedGuard.{fix_guard}
use Rattle.pc_rules.specs.DirectedTyping.{Typing, conv, sort_found, sort_of, check, retype, rel_rule, undeclared_in, raises_past, levels_declared, sort_rule, prod_rule, lambda_rule, let_rule, app_found, app_rule, const_rule, find_family, ind_rule, constructor_number, construct_rule, match_counted, check_all, predicate_rule, is_the_family, found_family, scrutinee_fits, scrutinee_rule, branches_rule, case_rule, types_rule, definitions_rule, definition_type, fix_rule, rule, rule_number, infer}
use Rattle.pc_rules.specs.DirectedWeakHead.{whnf}
use Rattle.pc_rules.specs.declared.broken.Broken.TheVariants.{NotTheFamily}
use Rattle.pc_rules.proofs.WeakNext.{kept_is, family_found, both_true, take_drop}
use Rattle.rule_laws.proofs.Comparing.{whnf_equal}
use Rattle.rule_laws.proofs.Runs.{bind_both, if_done, refused_done, done_value, tested, make_then, ticking_done, nested_done}
use Rattle.rule_laws.proofs.SimpleRules.{whole_family, known_family, constructor_is}
use Rattle.rule_laws.proofs.FixRule.{named_type}
use Rattle.rule_laws.proofs.MatchRule.{the_family}
use Rattle.typing_laws.proofs.Generating.{of_rel, of_sort, of_prod, of_lambda, of_let_in, of_app, of_const, of_ind, of_case, of_fix}
use Rattle.typing_laws.proofs.MiddleEntries.{substitution_of_below}
use Rattle.typing_laws.proofs.Traversal.{below_at, types_length}
use Rattle.equality_laws.specs.Laws.{EqualEach, no_terms, a_term}
use Rattle.equality_laws.proofs.Spines.{spine_is}
use Rattle.type_laws.proofs.Apart.{products_below, sorts_below, families_below}
use Rattle.type_laws.proofs.EnvironmentSorts.{known_is_kept}
use Rattle.type_laws.proofs.EqualLists.{each_equal_append, each_equal_parts}
use Rattle.type_laws.proofs.MatchesKeep.{above_declared}
use Rattle.type_laws.proofs.RootsKeep.{fits_assumed, one_type}
use Rattle.type_laws.proofs.Spines.{put_equal}
use Rattle.type_laws.proofs.Validity.{known_once}
use Rattle.type_laws.proofs.CommonTypes.{products_entail, lets_below}
use Rattle.checked_laws.specs.InferredTypes.{InferredTypesAreLeast}

-- an inference that finds types below each
abbrev Least : Env → Typing → Type 0
Least E inf = (c : Context) (t T U : Term) (u v : Account) → (inf c t u).end ≡ run.Done T v → Types bare E c t U → Below E (values c) T U

-- what the rules of the formers without parts found

entry_is : (c : Context) (i : ℕ) (o : Option Term) (T : Term) (u v : Account) → (rel_rule c i o u).end ≡ run.Done T v → o ≡ Some T
entry_is c i None T u v h = absurd (refused_done h)
entry_is c i (Some X) T u v h = ap Some (done_value h)

constant_is : (E : Env) (k : Name) (o : Option Kept) (T : Term) (u v : Account) → kept_at E.declarations k ≡ o → (const_rule k o u).end ≡ run.Done T v →
    (b : Option Term) × KeepsConstant E k T b
constant_is E k None T u v e h = absurd (refused_done h)
constant_is E k (Some (Heads B)) T u v e h = absurd (refused_done h)
constant_is E k (Some (Whole B)) T u v e h = absurd (refused_done h)
constant_is E k (Some (Constant m X b)) T u v e h =
    let (has, name) = kept_is E.declarations k (Constant m X b) e in (b, subst (λ T. KeepsConstant E k T b) (done_value h) (subst (λ x. KeepsConstant E x X b) name has))

sort_is : (E : Env) (inf : Typing) (c : Context) (T W : Term) (s : Sort) (u v : Account) → (sort_found inf c T W u).end ≡ run.Done s v → W ≡ SortT s
sort_is E inf c T (SortT r) s u v h =
    let go : Run Sort = bind (conv u) (λ _ v. bind (inf c (SortT r) v) (λ _ w. done r w)) in
    elim (if_done (tree.same T (SortT r)) (done r u) go s v h) [
      | inl p ↦ ap (λ s. SortT s) (done_value p.1)
      | inr p ↦
          let p1 = bind_both (conv u) (λ _ v. bind (inf c (SortT r) v) (λ _ w. done r w)) s v p.1 in
          let p2 = bind_both (inf c (SortT r) p1.1) (λ _ w. done r w) s v p1.3 in
          ap (λ s. SortT s) (done_value p2.3)
    ]
sort_is E inf c T W s u v h = absurd (refused_done h)

module _ (E : Env) (h : IsAccepted E) where
  variable_least : (c : Context) (i : ℕ) (T U : Term) (u v : Account) → (rel_rule c i (type_at c i) u).end ≡ run.Done T v → Types bare E c (Rel i) U → Below E (values c) T U
  variable_least c i T U u v r d = let o = of_rel d in below_at (one_item (sym o.entry ∙ entry_is c i (type_at c i) T u v r)) refl o.below

  sort_least : (c : Context) (s : Sort) (T U : Term) (u v : Account) → (sort_rule E s u).end ≡ run.Done T v → Types bare E c (SortT s) U → Below E (values c) T U
  sort_least c s T U u v r d =
      let p = bind_both (levels_declared (undeclared_in E.levels s) u) (λ _ v. made (raises_past s) (SortT (super_sort s)) v) T v r in
      below_at (done_value p.3) refl (of_sort d).below

  constant_least : (c : Context) (k : Name) (T U : Term) (u v : Account) → (const_rule k (kept_at E.declarations k) u).end ≡ run.Done T v → Types bare E c (Const k) U → Below E (values c) T U
  constant_least c k T U u v r d =
      let o = of_const d in
      let (b, kept) = constant_is E k (kept_at E.declarations k) T u v refl r in
      below_at (one_type E h k o.kept_type T o.body b o.kept kept) refl o.below

  family_least : (c : Context) (f : FamilyId) (T U : Term) (u v : Account) → (ind_rule E f u).end ≡ run.Done T v → Types bare E c (Ind f) U → Below E (values c) T U
  family_least c f T U u v r d =
      let p = bind_both (find_family f (known_block (kept_at E.declarations f.block)) u) (λ F v. make (family_type F) v) T v r in
      let known = known_family E f p.0 (kept_at E.declarations f.block) u p.1 refl p.2 in
      let o = of_ind d in
      below_at (ap family_type (known_once E h f p.0 o.family (known_is_kept E h f p.0 known) o.known) ∙ done_value p.3) refl o.below

  constructor_least : (c : Context) (f : FamilyId) (n : ℕ) (T U : Term) (u v : Account) → (construct_rule E f n u).end ≡ run.Done T v → Types bare E c (Construct f n) U → Below E (values c) T U
  constructor_least c f n T U u v r d =
      let k1 : FamilyDecl → Account → Run Term = λ F v. bind (constructor_number F n (slice_get F.constructors n) v) (λ C w. make (constructor_type f F C) w) in
      let p = bind_both (find_family f (whole_block (kept_at E.declarations f.block)) u) k1 T v r in
      let F : FamilyDecl = p.0 in
      let p2 = bind_both (constructor_number F n (slice_get F.constructors n) p.1) (λ C w. make (constructor_type f F C) w) T v p.3 in
      let C : Constructor = p2.0 in
      let keeps : KeepsFamily E f F = family_found E f F (whole_family E f F u p.1 p.2) in
      below_at (done_value p2.3) refl (above_declared E h c f F n C U keeps (constructor_is F n (slice_get F.constructors n) C p.1 p2.1 p2.2) d)

  module _ (inf : Typing) (least : Least E inf) where
    -- the sort that is found for a term is at most each of its sorts
    found_sort_least : (c : Context) (A : Term) (s r : Sort) (u v : Account) → (sort_of E inf c A u).end ≡ run.Done s v → Types bare E c A (SortT r) → SortEntails E s r
    unfolding sort_of
    found_sort_least c A s r u v q d =
        let p1 = bind_both (inf c A u) (λ T v. bind (whnf E (values c) T v) (λ W w. sort_found inf c T W w)) s v q in
        let p2 = bind_both (whnf E (values c) p1.0 p1.1) (λ W w. sort_found inf c p1.0 W w) s v p1.3 in
        let e = whnf_equal E (values c) p1.0 p2.0 p1.1 p2.1 p2.2 in
        sorts_below E h (values c) s r
        (below_at (sort_is E inf c p1.0 p2.0 s p2.1 v p2.3) refl (Below.chain (equal (back e)) (least c A p1.0 (SortT r) u p1.1 p1.2 d)))

    product_least : (c : Context) (A B T U : Term) (u v : Account) → (prod_rule E inf c A B u).end ≡ run.Done T v → Types bare E c (Prod A B) U → Below E (values c) T U
    product_least c A B T U u v q d =
        let p1 = bind_both (sort_of E inf c A u) (λ s v. bind (sort_of E inf (Assumed A ∷ c) B v) (λ r w. done (SortT (product_sort s r)) w)) T v q in
        let p2 = bind_both (sort_of E inf (Assumed A ∷ c) B p1.1) (λ r w. done (SortT (product_sort p1.0 r)) w) T v p1.3 in
        let o = of_prod d in
        let domain = found_sort_least c A p1.0 o.domain_sort u p1.1 p1.2 o.domain in
        let codomain = found_sort_least (Assumed A ∷ c) B p2.0 o.codomain_sort p1.1 p2.1 p2.2 o.codomain in
        below_at (done_value p2.3) refl (Below.chain (Below.sort (products_entail E p1.0 p2.0 o.domain_sort o.codomain_sort domain codomain)) o.below)

    lambda_least : (c : Context) (A b T U : Term) (u v : Account) → (lambda_rule E inf c A b u).end ≡ run.Done T v → Types bare E c (Lambda A b) U → Below E (values c) T U
    lambda_least c A b T U u v q d =
        let p1 = bind_both (sort_of E inf c A u) (λ _ v. bind (inf (Assumed A ∷ c) b v) (λ B w. make (Prod A B) w)) T v q in
        let p2 = bind_both (inf (Assumed A ∷ c) b p1.1) (λ B w. make (Prod A B) w) T v p1.3 in
        let o = of_lambda d in
        below_at (done_value p2.3) refl (Below.chain (product same (least (Assumed A ∷ c) b p2.0 o.codomain p1.1 p2.1 p2.2 o.body)) o.below)

    module _ (cmp : Comparison) where
      let_least : (c : Context) (b B t T U : Term) (u v : Account) → (let_rule E inf cmp c b B t u).end ≡ run.Done T v → Types bare E c (LetIn b B t) U → Below E (values c) T U
      let_least c b B t T U u v q d =
          let k2 : Unit {0} → Account → Run Term = λ _ w. bind (inf (Defined b B ∷ c) t w) (λ T x. make (LetIn b B T) x) in
          let p1 = bind_both (sort_of E inf c B u) (λ _ v. bind (check E inf cmp c b B v) k2) T v q in
          let p2 = bind_both (check E inf cmp c b B p1.1) k2 T v p1.3 in
          let p3 = bind_both (inf (Defined b B ∷ c) t p2.1) (λ T x. make (LetIn b B T) x) T v p2.3 in
          let o = of_let_in d in
          below_at (done_value p3.3) refl
          (Below.chain (lets_below E h c b B p3.0 o.codomain o.value (least (Defined b B ∷ c) t p3.0 o.codomain p2.1 p3.1 p3.2 o.body)) o.below)

      found_least : (c : Context) (f a T0 W T U : Term) (u v : Account) → ((A B : Term) → Types bare E c f (Prod A B) → Below E (values c) W (Prod A B)) →
          (app_found E inf cmp c a T0 W u).end ≡ run.Done T v → Types bare E c (App f a) U → Below E (values c) T U
      found_least c f a T0 (Prod A B) T U u v g q d =
          let k1 : Unit {0} → Account → Run Term = λ _ v. bind (check E inf cmp c a A v) (λ _ w. make (substitute (put a) B) w) in
          let p1 = bind_both (retype E inf c T0 (Prod A B) u) k1 T v q in
          let p2 = bind_both (check E inf cmp c a A p1.1) (λ _ w. make (substitute (put a) B) w) T v p1.3 in
          let o = of_app d in
          let z = products_below E h (values c) A B o.domain o.codomain (g o.domain o.codomain o.function) in
          below_at (done_value p2.3) refl
          (Below.chain (substitution_of_below E h [] c (Assumed o.domain) a B o.codomain (fits_assumed o.argument) z.codomains) o.below)
      found_least c f a T0 W T U u v g q d = absurd (refused_done q)

      application_least : (c : Context) (f a T U : Term) (u v : Account) → (app_rule E inf cmp c f a u).end ≡ run.Done T v → Types bare E c (App f a) U → Below E (values c) T U
      application_least c f a T U u v q d =
          let p1 = bind_both (inf c f u) (λ T v. bind (whnf E (values c) T v) (λ W w. app_found E inf cmp c a T W w)) T v q in
          let p2 = bind_both (whnf E (values c) p1.0 p1.1) (λ W w. app_found E inf cmp c a p1.0 W w) T v p1.3 in
          let e = whnf_equal E (values c) p1.0 p2.0 p1.1 p2.1 p2.2 in
          found_least c f a p1.0 p2.0 T U p2.1 v (λ A B p. Below.chain (equal (back e)) (least c f p1.0 (Prod A B) u p1.1 p1.2 p)) p2.3 d

      -- the indices that are found for a scrutinee are equal to those of each type of it
      indices_equal : (c : Context) (f : FamilyId) (F : FamilyDecl) (ps : List Term) (t : Term) (is qs js : List Term) (u v : Account) → length qs ≡ length F.parameters →
          (scrutinee_rule E inf cmp c f F ps t u).end ≡ run.Done is v → Types bare E c t (apply (Ind f) (qs ++ js)) → EqualEach E (values c) is js
      indices_equal c f F ps t is qs js u v long q d =
          let n : ℕ = length F.parameters in
          let k5 : Term → Term → Account → Run (List Term) = λ W S z. bind (scrutinee_fits E inf cmp c W S z) (λ _ r. done (drop n (args W)) r) in
          let k4 : Term → Unit {0} → Account → Run (List Term) = λ W _ y. bind (make (apply (Ind f) (ps ++ drop n (args W))) y) (k5 W) in
          let k3 : Term → Term → Unit {0} → Account → Run (List Term) = λ T W _ x. bind (retype E inf c T W x) (k4 W) in
          let k2 : Term → Term → Account → Run (List Term) = λ T W w. bind (found_family f F W w) (k3 T W) in
          let p1 = bind_both (inf c t u) (λ T v. bind (whnf E (values c) T v) (k2 T)) is v q in
          let T : Term = p1.0 in
          let p2 = bind_both (whnf E (values c) T p1.1) (k2 T) is v p1.3 in
          let W : Term = p2.0 in
          let p3 = bind_both (found_family f F W p2.1) (k3 T W) is v p2.3 in
          let p4 = bind_both (retype E inf c T W p3.1) (k4 W) is v p3.3 in
          let S : Term = apply (Ind f) (ps ++ drop n (args W)) in
          let p5 = bind_both (scrutinee_fits E inf cmp c W S p4.1) (λ _ r. done (drop n (args W)) r) is v (make_then S p4.1 (k5 W) p4.3) in
          let tests = both_true (is_the_family f (head W)) (length (args W) == n + length F.indices)
          (tested (is_the_family f (head W) && (length (args W) == n + length F.indices)) (done tt p2.1) (NotTheFamily W) p2.1 tt p3.1 p3.2).0 in
          let spine : W ≡ apply (Ind f) (args W) = spine_is W (Ind f) (args W) (the_family f (head W) tests.0) refl in
          let below = Below.chain (equal (back (whnf_equal E (values c) T W p1.1 p2.1 p2.2))) (least c t T (apply (Ind f) (qs ++ js)) u p1.1 p1.2 d) in
          let all = (families_below E h (values c) f f (args W) (qs ++ js) (below_at spine refl below)).arguments in
          let count = eqb-true (length (args W)) (n + length F.indices) tests.1 in
          let taken : length (take n (args W)) ≡ n = length-take-le n (args W) (omega arith) in
          let parts = each_equal_parts (take n (args W)) (drop n (args W)) qs js (taken ∙ sym long) (subst (λ xs. EqualEach E (values c) xs (qs ++ js)) (sym (take_drop n (args W))) all) in
          subst (λ is. EqualEach E (values c) is js) (done_value p5.3) parts.inner

      match_least : (c : Context) (f : FamilyId) (ps : Terms) (n : ℕ) (ret t : Term) (bs : Terms) (T U : Term) (u v : Account) →
          (case_rule E inf cmp c f ps n ret t bs u).end ≡ run.Done T v → Types bare E c (Case f ps n ret t bs) U → Below E (values c) T U
      match_least c f ps n ret t bs T U u v q d =
          let qs : List Term = list_of ps in
          let B : Option Block = whole_block (kept_at E.declarations f.block) in
          let k6 : List Term → Unit {0} → Account → Run Term = λ is _ r. make (predicate_at ret is t) r in
          let k5 : FamilyDecl → List Term → Account → Run Term = λ F is z. bind (branches_rule E inf cmp c f 0 F.constructors qs ret (list_of bs) z) (k6 is) in
          let k4 : FamilyDecl → Unit {0} → Account → Run Term = λ F _ y. bind (scrutinee_rule E inf cmp c f F qs t y) (k5 F) in
          let k3 : FamilyDecl → Unit {0} → Account → Run Term = λ F _ x. bind (predicate_rule E inf c B f F qs ret x) (k4 F) in
          let k2 : FamilyDecl → Unit {0} → Account → Run Term = λ F _ w. bind (check_all E inf cmp c Rel qs F.parameters w) (k3 F) in
          let k1 : FamilyDecl → Account → Run Term = λ F v. bind (match_counted F ps n bs v) (k2 F) in
          let p1 = bind_both (find_family f B u) k1 T v q in
          let F : FamilyDecl = p1.0 in
          let p2 = bind_both (match_counted F ps n bs p1.1) (k2 F) T v p1.3 in
          let p3 = bind_both (check_all E inf cmp c Rel qs F.parameters p2.1) (k3 F) T v p2.3 in
          let p4 = bind_both (predicate_rule E inf c B f F qs ret p3.1) (k4 F) T v p3.3 in
          let p5 = bind_both (scrutinee_rule E inf cmp c f F qs t p4.1) (k5 F) T v p4.3 in
          let is : List Term = p5.0 in
          let p6 = bind_both (branches_rule E inf cmp c f 0 F.constructors qs ret (list_of bs) p5.1) (k6 is) T v p5.3 in
          let o = of_case d in
          let one : o.family ≡ F = (one_of_each E h).families f o.family F o.kept (family_found E f F (whole_family E f F u p1.1 p1.2)) in
          let equals = indices_equal c f F qs t is o.parameters o.indices p4.1 p5.1 (types_length o.fit ∙ ap (λ F. length F.parameters) one) p5.2 o.scrutinee in
          let both = each_equal_append equals (a_term {t = t} same no_terms) in
          below_at (done_value p6.3) refl (Below.chain (equal (put_equal E h c (is ++ (t ∷ [])) (o.indices ++ (t ∷ [])) ret both)) o.below)

      fixpoint_least : (c : Context) (i : ℕ) (rargs : List ℕ) (types bodies : Terms) (T U : Term) (u v : Account) →
          (fix_rule E inf cmp c i rargs types bodies u).end ≡ run.Done T v → Types bare E c (Fix i rargs types bodies) U → Below E (values c) T U
      fixpoint_least c i rargs types bodies T U u v q d =
          let D : Context = definitions c 0 types in
          let n : ℕ = length rargs in
          let k3 : Unit {0} → Account → Run Term = λ _ x. definition_type i n (term_at types i) x in
          let k2 : Unit {0} → Account → Run Term = λ _ w. bind (fix_guard E (values c) rargs bodies w) k3 in
          let k1 : Unit {0} → Account → Run Term = λ _ v. bind (definitions_rule E inf cmp D n 0 rargs (list_of types) (list_of bodies) v) k2 in
          let p1 = bind_both (types_rule E inf c 0 (list_of types) u) k1 T v q in
          let p2 = bind_both (definitions_rule E inf cmp D n 0 rargs (list_of types) (list_of bodies) p1.1) k2 T v p1.3 in
          let p3 = bind_both (fix_guard E (values c) rargs bodies p2.1) k3 T v p2.3 in
          let (m, at) = named_type i n (term_at types i) T p3.1 v p3.3 in
          let o = of_fix d in
          below_at (ap (λ q. q.1) (one_item (sym o.at ∙ at))) refl o.below

      rule_least : Least E (rule E inf cmp)
      rule_least c (Rel i) T U u v q d = variable_least c i T U u v q d
      rule_least c (SortT s) T U u v q d = sort_least c s T U u v q d
      rule_least c (Prod A B) T U u v q d = product_least c A B T U u v q d
      rule_least c (Lambda A b) T U u v q d = lambda_least c A b T U u v q d
      rule_least c (LetIn b B t) T U u v q d = let_least c b B t T U u v q d
      rule_least c (App g a) T U u v q d = application_least c g a T U u v q d
      rule_least c (Const l) T U u v q d = constant_least c l T U u v q d
      rule_least c (Ind g) T U u v q d = family_least c g T U u v q d
      rule_least c (Construct g n) T U u v q d = constructor_least c g n T U u v q d
      rule_least c (Case g ps n ret t bs) T U u v q d = match_least c g ps n ret t bs T U u v q d
      rule_least c (Fix i rargs types bodies) T U u v q d = fixpoint_least c i rargs types bodies T U u v q d

  pub infer_least : (q : Test) (n : ℕ) → Least E (infer E q n)
  unfolding infer
  infer_least q zero c t T U u v r d = absurd (nested_done (ticking_done u (λ v. too_nested) T v r))
  infer_least q (suc n) c t T U u v r d =
      rule_least (infer E q n) (infer_least q n) (compare E q n) c t T U (noted (rule_number t) (ticked u)) v
      (ticking_done u (λ v. rule E (infer E q n) (compare E q n) c t (noted (rule_number t) v)) T v r) d

pub inferred_types_are_least : InferredTypesAreLeast
inferred_types_are_least E h q n c t T U u v r d = infer_least E h q n c t T U u v r d
