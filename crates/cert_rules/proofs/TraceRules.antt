-- What directed inference writes leads the certified walk to the same type.
use Rattle.std.proofs.Common.{◌≡◌, ◌∙◌, ℕ, zero, suc, ◌+◌, ◌==◌, ◌&&◌, Bool, List, [], ◌∷◌, ◌++◌, length, drop, Option, Some, refl, sym, ap, subst}
use Rattle.universe_levels.specs.Sorts.{product_sort}
use Rattle.pc_terms.specs.declared.leaf.FamilyId.{FamilyId}
use Rattle.pc_terms.specs.Syntax.{Term, Terms, Done, Next, Rel, SortT, Const, Case, put, substitute, shift, apply, head, args, term_at, Prod, Lambda, LetIn, App, Ind, Construct, Fix, list_of}
use Rattle.pc_terms.specs.Formed.{binders_of, EachTerm, AreAll, HasForm, IsFormed}
use Rattle.calculus_rules.specs.declared.declaration.Constructor.{Constructor}
use Rattle.calculus_rules.specs.declared.declaration.Block.{Block}
use Rattle.calculus_rules.specs.declared.entry.Entry.TheVariants.{Assumed, Defined}
use Rattle.pc_rules.specs.declared.broken.Broken.TheVariants.{NotAProduct, NotTheFamily, RecArgNotInductive}
use Rattle.pc_rules.specs.declared.meter.Account.{Account}
use Rattle.calculus_rules.specs.Environment.{Env, FamilyDecl}
use Rattle.calculus_rules.specs.Context.{Context, values, type_at, extend}
use Rattle.calculus_rules.specs.Instances.{predicate_entries, branch_entries, predicate_at, branch_type, definitions}
use Rattle.calculus_rules.specs.Same.{same}
use Rattle.pc_rules.specs.DirectedRun as run
use Rattle.pc_rules.specs.DirectedRun.{Run, bind, make, ticking, noted, too_nested, any_beyond}
use Rattle.calculus_rules.specs.Lookups.{kept_at, whole_block, family_of}
use Rattle.pc_rules.specs.DirectedComparison.{Test, IsTest, Comparison, compare}
use Rattle.pc_rules.specs.DirectedGuard.{fix_guard}
use Rattle.pc_rules.specs.DirectedTyping.{Typing, sort_of, retype, rel_rule, sort_rule, prod_rule, lambda_rule, let_rule, app_found, app_rule, const_rule, find_family, ind_rule, construct_rule, match_counted, eliminated, is_the_family, found_family, scrutinee_fits, scrutinee_rule, branch_beyond, branch_rule, branches_rule, predicate_rule, case_rule, types_rule, recursive_domain, enough_abstractions, is_a_family, family_found, definition_rule, definitions_rule, definition_type, fix_rule, rule, rule_number, infer}
use Rattle.pc_rules.specs.WellCounted.{IsCountedNode, IsCounted, AreCounted, AreCountedConstructors, HasCountedDeclarations, IsCountedContext}
use Rattle.pc_rules.proofs.WeakNext.{family_found as family_is_kept}
use Rattle.rule_laws.specs.Inference.{IsInferred, AllFormed}
use Rattle.rule_laws.proofs.Runs.{ticking_done, nested_done}
use Rattle.rule_laws.proofs.Counted.{rel_counted, shifted_counted, before_shift, apply_counted, appended_counted, args_counted}
use Rattle.rule_laws.proofs.KeepCounts.{IsCountedFamilyDecl, values_counted, steps_counted, kept_counted}
use Rattle.rule_laws.proofs.CountedParts.{ind_counted, predicate_entries_counted, branch_entries_counted, branch_type_counted, context_extended}
use Rattle.rule_laws.proofs.Comparing.{list_long}
use Rattle.rule_laws.proofs.SimpleRules.{formed, whole_family}
use Rattle.rule_laws.proofs.MatchRule.{all_formed, formed_list, Counted, dropped_counted}
use Rattle.rule_laws.proofs.Inferring.{infer_sound}
use Rattle.cert_rules.specs.Walk.{Items, WalkState, Walk, pass, crowded, walk_on, walk_ticking, by_rules}
use Rattle.cert_rules.specs.Scripts.{Script, script}
use Rattle.cert_rules.specs.WalkTyping.{Walking, walk_sort_of, walk_retype, walk_fits, walk_prod, walk_lambda, walk_let, walk_app_found, walk_app, walk_found_family, walk_scrutinee, walk_branch, walk_branches, walk_predicate, walk_case, walk_types, walk_family_found, walk_definition, walk_definitions, walk_fix, walk_rule, walk_infer}
use Rattle.cert_rules.specs.Writing.{Wrote, silent, write_on, end_forgotten, forgotten}
use Rattle.cert_rules.specs.MakingTyping.{MakeTyping, MakeComparison, make_compare, make_sort_of, make_fits, make_retype, make_prod, make_lambda, make_let, make_app_found, make_app, make_scrutinee, make_branch, make_branches, make_predicate, make_case, make_types, make_definition, make_definitions, make_fix, make_rule, make_infer}
use Rattle.cert_rules.proofs.SoundMatch.{match_is_counted}
use Rattle.cert_rules.proofs.SoundFix.{shifted_formed}
use Rattle.cert_rules.proofs.ExactGuard.{Reach, exact_guard}
use Rattle.cert_rules.proofs.ExactRules.{exact_rel, exact_sort, exact_const, exact_find_family, exact_ind, exact_construct, exact_match_counted, exact_eliminated, exact_enough, exact_definition_type}
use Rattle.cert_rules.proofs.Traces.{Traces, trace_on, trace_as, trace_less, trace_rules, trace_done, trace_refused, trace_passing, trace_tick, trace_noted, trace_crowded, trace_never}
use Rattle.cert_rules.proofs.ReachedSteps.{reach_steps, trace_reduced}
use Rattle.cert_rules.proofs.TraceComparison.{compare_trace}
use Rattle.cert_rules.proofs.TraceSorts.{same_flip, trace_make, trace_made, trace_tested, Inferred, Compared, sort_trace, retype_trace, sorts_trace, fits_trace, check_trace, all_trace}

nested_paid : (n : ℕ) → forgotten (run.paid n (too_nested {A = Wrote Term})) ≡ run.paid n too_nested
nested_paid zero = refl
nested_paid (suc n) = refl

nested_forgotten : (u : Account) → forgotten (ticking u (λ v. too_nested {A = Wrote Term})) ≡ ticking u (λ v. too_nested)
unfolding ticking
nested_forgotten u = nested_paid u.left

passing_walks : {B : Type 0} (b : Bool) (h : WalkState → Walk B) (s : WalkState) → (walk_on (by_rules (run.passing b) s) (λ _ v. h v)).end ≡ (h s).end
unfolding walk_on by_rules
passing_walks b h s = refl

passed_through : (cert : Items) {B : Type 0} {P : B → Type 0} (b : Bool) (d : Account → Run B) (g : Account → Run (Wrote B)) (h : WalkState → Walk B) → Traces cert P d g h →
    Traces cert P (λ u. bind (run.passing b u) (λ _ v. d v)) (λ u. write_on (silent (run.passing b) u) (λ _ v. g v)) (λ s. walk_on (by_rules (run.passing b) s) (λ _ v. h v))
passed_through cert b d g h p =
    trace_as cert h (λ s. walk_on (by_rules (run.passing b) s) (λ _ v. h v)) (λ s. passing_walks b h s) (trace_passing cert b d g h p)

module _ (cert : Items) (E : Env) (w : HasCountedDeclarations E) (infd : Typing) (infg : MakeTyping) (infh : Walking) (ti : Inferred cert E w infd infg infh) where
  abbrev Ends : (Account → Run Term) → (Account → Run (Wrote Term)) → (WalkState → Walk Term) → Type 0
  Ends d g h = Traces cert (λ _. Unit {0}) d g h

  prod_trace : (c : Context) (A B : Term) → IsCountedContext E c → IsFormed A → IsFormed B →
      Ends (λ u. prod_rule E infd c A B u) (λ u. make_prod E infg c A B u) (λ s. walk_prod cert E infh c A B s)
  prod_trace c A B k fA fB =
      trace_on cert _ _ _ _ _ _ (sort_trace cert E w infd infg infh ti c A k fA)
      (λ x kA. trace_on cert _ _ _ _ _ _ (sort_trace cert E w infd infg infh ti (Assumed A ∷ c) B (kA, k) fB) (λ y kB. trace_done cert (SortT (product_sort x y)) tt))

  lambda_trace : (c : Context) (A b : Term) → IsCountedContext E c → IsFormed A → IsFormed b →
      Ends (λ u. lambda_rule E infd c A b u) (λ u. make_lambda E infg c A b u) (λ s. walk_lambda cert E infh c A b s)
  lambda_trace c A b k fA fb =
      trace_on cert _ _ _ _ _ _ (sort_trace cert E w infd infg infh ti c A k fA)
      (λ x kA. trace_on cert _ _ _ _ _ _ (ti (Assumed A ∷ c) b (kA, k) fb) (λ B i. trace_made cert (Prod A B) tt))

  predicate_trace : (c : Context) (B : Option Block) (f : FamilyId) (F : FamilyDecl) (ps : List Term) (ret : Term) → IsCountedContext E c → IsCountedFamilyDecl E F → AreCounted E ps →
      IsFormed ret →
      Traces cert (λ _. IsCounted E ret) (λ u. predicate_rule E infd c B f F ps ret u) (λ u. make_predicate E infg c B f F ps ret u) (λ s. walk_predicate cert E infh c B f F ps ret s)
  predicate_trace c B f F ps ret k wF wps fr =
      let all = predicate_entries_counted E f F ps wF wps in
      passed_through cert (any_beyond (predicate_entries f F ps)) _ _ _
      (trace_on cert _ _ _ _ _ _ (sorts_trace cert E w infd infg infh ti c (predicate_entries f F ps) k (all_formed E (predicate_entries f F ps) all))
      (λ xs ks. trace_on cert _ _ _ _ _ _
      (sort_trace cert E w infd infg infh ti (extend c (predicate_entries f F ps)) ret (context_extended E c (predicate_entries f F ps) k all) fr)
      (λ x kr. trace_rules cert (eliminated B f F x) (λ j. exact_eliminated B f F x) (λ u a v e. kr))))

  pub types_trace : (c : Context) (n : ℕ) (types : Terms) → IsCountedContext E c → AreAll 0 (binders_of types) → EachTerm HasForm types →
      Traces cert (λ _. EachTerm (IsCountedNode E) types × IsCountedContext E (definitions c n types)) (λ u. types_rule E infd c n (list_of types) u)
      (λ u. make_types E infg c n (list_of types) u) (λ s. walk_types cert E infh c n (list_of types) s)
  unfolding types_rule make_types walk_types
  types_trace c n Done k a f = trace_done cert tt (tt, k)
  types_trace c n (Next m T ts) k a f =
      let S : Term = shift n 0 T in
      trace_on cert _ _ _ _ _ _ (trace_make cert S)
      (λ X e. subst (λ X. Traces cert (λ _. EachTerm (IsCountedNode E) (Next m T ts) × IsCountedContext E (definitions c n (Next m T ts)))
      (λ v. bind (sort_of E infd c X v) (λ _ w. types_rule E infd (Assumed X ∷ c) (suc n) (list_of ts) w))
      (λ v. write_on (make_sort_of E infg c X v) (λ _ w. make_types E infg (Assumed X ∷ c) (suc n) (list_of ts) w))
      (λ v. walk_on (walk_sort_of cert E infh c X v) (λ _ w. walk_types cert E infh (Assumed X ∷ c) (suc n) (list_of ts) w))) e
      (trace_on cert _ _ _ _ _ _ (sort_trace cert E w infd infg infh ti c S k (shifted_formed n T f.0))
      (λ x kS. trace_less cert (λ o r. ((before_shift E n 0 T kS, r.0), r.1)) (types_trace (Assumed S ∷ c) (suc n) ts (kS, k) a.1 f.1))))

  module _ (cmp : Comparison) (mk : MakeComparison) (sc : Script) (tc : Compared cert E w cmp mk sc) where
    let_trace : (c : Context) (b B t : Term) → IsCountedContext E c → IsFormed b → IsFormed B → IsFormed t →
        Ends (λ u. let_rule E infd cmp c b B t u) (λ u. make_let E infg mk c b B t u) (λ s. walk_let cert E infh sc c b B t s)
    let_trace c b B t k fb fB ft =
        trace_on cert _ _ _ _ _ _ (sort_trace cert E w infd infg infh ti c B k fB)
        (λ x kB. trace_on cert _ _ _ _ _ _ (check_trace cert E w infd infg infh ti cmp mk sc tc c b B k fb fB)
        (λ o kb. trace_on cert _ _ _ _ _ _ (ti (Defined b B ∷ c) t ((kb, kB), k) ft) (λ T i. trace_made cert (LetIn b B T) tt)))

    app_found_trace : (c : Context) (a T W : Term) (n i : ℕ) → IsCountedContext E c → IsFormed a → IsCounted E W → Reach E (values c) n T W →
        Ends (λ u. app_found E infd cmp c a T W u) (λ u. make_app_found E infg mk c a T W u) (λ s. walk_app_found cert E infh sc c a i n W s)
    app_found_trace c a T (Prod A B) n i k fa wW p =
        trace_on cert _ _ _ _ _ _ (retype_trace cert E w infd infg infh ti c T (Prod A B) n k (formed E (Prod A B) wW) p)
        (λ o t. trace_on cert _ _ _ _ _ _ (check_trace cert E w infd infg infh ti cmp mk sc tc c a A k fa (formed E A wW.1.0)) (λ o ka. trace_made cert (substitute (put a) B) tt))
    app_found_trace c a T W n i k fa wW p = trace_refused cert (NotAProduct W) _

    app_trace : (c : Context) (f a : Term) → IsCountedContext E c → IsFormed f → IsFormed a →
        Ends (λ u. app_rule E infd cmp c f a u) (λ u. make_app E infg mk c f a u) (λ s. walk_app cert E infh sc c f a s)
    app_trace c f a k ff fa =
        trace_on cert _ _ _ _ _ _ (ti c f k ff)
        (λ T i. trace_reduced E (values c) cert T (λ W w. app_found E infd cmp c a T W w) (λ W w. make_app_found E infg mk c a T W w) (λ j n W s. walk_app_found cert E infh sc c a j n W s)
        (λ n W p j. app_found_trace c a T W n j k fa (steps_counted E w (values_counted E c k) (reach_steps E (values c) p) i.classifier) p))

    scrutinee_trace : (c : Context) (f : FamilyId) (F : FamilyDecl) (ps : List Term) (t : Term) → IsCountedContext E c → AreCounted E ps → IsFormed t →
        Traces cert (λ _. Unit {0}) (λ u. scrutinee_rule E infd cmp c f F ps t u) (λ u. make_scrutinee E infg mk c f F ps t u) (λ s. walk_scrutinee cert E infh sc c f F ps t s)
    scrutinee_trace c f F ps t k wps ft =
        let n : ℕ = length F.parameters in
        trace_on cert _ _ _ _ _ _ (ti c t k ft)
        (λ T i. trace_reduced E (values c) cert T
        (λ W w. bind (found_family f F W w) (λ _ x. bind (retype E infd c T W x) (λ _ y. bind (make (apply (Ind f) (ps ++ drop n (args W))) y) (λ S z.
        bind (scrutinee_fits E infd cmp c W S z) (λ _ r. run.done (drop n (args W)) r)))))
        (λ W w. write_on (silent (found_family f F W) w) (λ _ x. write_on (make_retype E infg c T W x) (λ _ y. write_on (silent (make (apply (Ind f) (ps ++ drop n (args W)))) y) (λ S z.
        write_on (make_fits E infg mk c (same S W) W S z) (λ _ r. silent (run.done (drop n (args W))) r)))))
        (λ j m W w. walk_on (walk_found_family f F j W w) (λ _ x. walk_on (walk_retype cert E infh c m W x) (λ _ y. walk_on (by_rules (make (apply (Ind f) (ps ++ drop n (args W)))) y) (λ S z.
        walk_on (walk_fits cert E infh sc c W S z) (λ _ o. pass (drop n (args W)) o)))))
        (λ m W p j.
        let wW : IsCounted E W = steps_counted E w (values_counted E c k) (reach_steps E (values c) p) i.classifier in
        let is : List Term = drop n (args W) in
        let S : Term = apply (Ind f) (ps ++ is) in
        let wS : IsCounted E S = apply_counted E (Ind f) (ps ++ is) (ind_counted E f) (appended_counted E ps is wps (dropped_counted E n (args W) (args_counted E W wW))) in
        trace_on cert _ _ _ _ _ _ (trace_tested cert (is_the_family f (head W) && (length (args W) == n + length F.indices)) (NotTheFamily W) j)
        (λ o t. trace_on cert _ _ _ _ _ _ (retype_trace cert E w infd infg infh ti c T W m k (formed E W wW) p)
        (λ o t. trace_on cert _ _ _ _ _ _ (trace_make cert S)
        (λ X e. trace_on cert _ _ _ _ _ _
        (fits_trace cert E w infd infg infh ti cmp mk sc tc c W X (same X W) (same_flip X W (same X W) refl) k wW (subst (λ X. IsFormed X) e (formed E S wS)))
        (λ o t. trace_done cert is tt))))))

    branch_trace : (c : Context) (f : FamilyId) (n : ℕ) (C : Constructor) (ps : List Term) (ret body : Term) → IsCountedContext E c → AreCounted E C.args × AreCounted E C.result →
        AreCounted E ps → IsCounted E ret → IsFormed body →
        Traces cert (λ _. Unit {0}) (λ u. branch_rule E infd cmp c f n C ps ret body u) (λ u. make_branch E infg mk c f n C ps ret body u) (λ s. walk_branch cert E infh sc c f n C ps ret body s)
    branch_trace c f n C ps ret body k wC wps wr fb =
        let all = branch_entries_counted E C ps wC.0 wps in
        passed_through cert (any_beyond (branch_entries C ps)) _ _ _
        (trace_on cert _ _ _ _ _ _ (sorts_trace cert E w infd infg infh ti c (branch_entries C ps) k (all_formed E (branch_entries C ps) all))
        (λ xs ks. passed_through cert (branch_beyond f n C ps ret) _ _ _
        (trace_less cert (λ a h. tt) (check_trace cert E w infd infg infh ti cmp mk sc tc (extend c (branch_entries C ps)) body (branch_type f n C ps ret)
        (context_extended E c (branch_entries C ps) k all) fb (formed E (branch_type f n C ps ret) (branch_type_counted E f n C ps ret wC.1 wps wr))))))

    branches_trace : (c : Context) (f : FamilyId) (n : ℕ) (Cs : List Constructor) (ps : List Term) (ret : Term) (bs : List Term) → IsCountedContext E c → AreCountedConstructors E Cs →
        AreCounted E ps → IsCounted E ret → AllFormed bs →
        Traces cert (λ _. Unit {0}) (λ u. branches_rule E infd cmp c f n Cs ps ret bs u) (λ u. make_branches E infg mk c f n Cs ps ret bs u) (λ s. walk_branches cert E infh sc c f n Cs ps ret bs s)
    unfolding branches_rule make_branches walk_branches
    branches_trace c f n [] ps ret bs k wCs wps wr fb = trace_done cert tt tt
    branches_trace c f n (C ∷ Cs) ps ret [] k wCs wps wr fb = trace_done cert tt tt
    branches_trace c f n (C ∷ Cs) ps ret (b ∷ bs) k wCs wps wr fb =
        trace_on cert _ _ _ _ _ _ (branch_trace c f n C ps ret b k (wCs.0.0, wCs.0.1) wps wr fb.0) (λ o t. branches_trace c f (suc n) Cs ps ret bs k wCs.1 wps wr fb.1)

    case_trace : (c : Context) (f : FamilyId) (ps : Terms) (n : ℕ) (ret t : Term) (bs : Terms) → IsCountedContext E c → IsFormed (Case f ps n ret t bs) →
        Ends (λ u. case_rule E infd cmp c f ps n ret t bs u) (λ u. make_case E infg mk c f ps n ret t bs u) (λ s. walk_case cert E infh sc c f ps n ret t bs s)
    case_trace c f ps n ret t bs k fc =
        let qs : List Term = list_of ps in
        let B : Option Block = whole_block (kept_at E.declarations f.block) in
        trace_on cert _ _ _ _ _ _ (trace_rules cert {P = λ F. family_of E f ≡ Some F} (find_family f B) (λ j. exact_find_family f B) (λ u F v e. whole_family E f F u v e))
        (λ F family.
        let wF : IsCountedFamilyDecl E F = kept_counted E f F w (family_is_kept E f F family) in
        trace_on cert _ _ _ _ _ _
        (trace_rules cert {P = λ _. Counted F ps n bs} (match_counted F ps n bs) (λ j. exact_match_counted F ps n bs) (λ u a v e. match_is_counted F ps n bs u v e))
        (λ o counts. trace_on cert _ _ _ _ _ _
        (all_trace cert E w infd infg infh ti cmp mk sc tc c Rel qs F.parameters k (rel_counted E) (list_long ps ∙ counts.parameters) (formed_list ps fc.1.0) wF.0)
        (λ o wps. trace_on cert _ _ _ _ _ _ (predicate_trace c B f F qs ret k wF wps fc.1.1.0)
        (λ o wr. trace_on cert _ _ _ _ _ _ (scrutinee_trace c f F qs t k wps fc.1.1.1.0)
        (λ is t'. trace_on cert _ _ _ _ _ _ (branches_trace c f 0 F.constructors qs ret (list_of bs) k wF.2 wps wr (formed_list bs fc.1.1.1.1.0))
        (λ o t'. trace_made cert (predicate_at ret is t) tt))))))

    -- fixpoints

    definition_trace : (c : Context) (n d rarg : ℕ) (T body : Term) → IsCountedContext E c → IsCounted E T → IsFormed body →
        Traces cert (λ _. Unit {0}) (λ u. definition_rule E infd cmp c n d rarg T body u) (λ u. make_definition E infg mk c n d rarg T body u)
        (λ s. walk_definition cert E infh sc c n d rarg T body s)
    definition_trace c n d rarg T body k wT f =
        let S : Term = shift n 0 T in
        trace_on cert _ _ _ _ _ _
        (trace_rules cert {P = λ _. Unit {0}} (enough_abstractions d (recursive_domain c rarg body)) (λ j. exact_enough d (recursive_domain c rarg body)) (λ u a v e. tt))
        (λ p t. trace_on cert _ _ _ _ _ _ (trace_make cert S)
        (λ X e. trace_on cert _ _ _ _ _ _
        (check_trace cert E w infd infg infh ti cmp mk sc tc c body X k f (subst (λ X. IsFormed X) e (formed E S (shifted_counted E n 0 T wT))))
        (λ o kb. trace_reduced E (values p.0) cert p.1 (λ W y. family_found W y) (λ W y. silent (family_found W) y) (λ j m W y. walk_family_found j W y)
        (λ m W r j. trace_tested cert (is_a_family (head W)) (RecArgNotInductive W) j))))

    definitions_trace : (c : Context) (n d : ℕ) (rargs : List ℕ) (types bodies : Terms) → IsCountedContext E c → EachTerm (IsCountedNode E) types → EachTerm HasForm bodies →
        Traces cert (λ _. Unit {0}) (λ u. definitions_rule E infd cmp c n d rargs (list_of types) (list_of bodies) u)
        (λ u. make_definitions E infg mk c n d rargs (list_of types) (list_of bodies) u) (λ s. walk_definitions cert E infh sc c n d rargs (list_of types) (list_of bodies) s)
    unfolding definitions_rule make_definitions walk_definitions
    definitions_trace c n d [] types bodies k wt fb = trace_done cert tt tt
    definitions_trace c n d (r ∷ rargs) Done bodies k wt fb = trace_done cert tt tt
    definitions_trace c n d (r ∷ rargs) (Next m T ts) Done k wt fb = trace_done cert tt tt
    definitions_trace c n d (r ∷ rargs) (Next m T ts) (Next m' body bs) k wt fb =
        trace_on cert _ _ _ _ _ _ (definition_trace c n d r T body k wt.0 fb.0) (λ o t. definitions_trace c n (suc d) rargs ts bs k wt.1 fb.1)

    fix_trace : (c : Context) (i : ℕ) (rargs : List ℕ) (types bodies : Terms) → IsCountedContext E c → IsFormed (Fix i rargs types bodies) →
        Ends (λ u. fix_rule E infd cmp c i rargs types bodies u) (λ u. make_fix E infg mk c i rargs types bodies u) (λ s. walk_fix cert E infh sc c i rargs types bodies s)
    fix_trace c i rargs types bodies k ff =
        let n : ℕ = length rargs in
        trace_on cert _ _ _ _ _ _ (types_trace c 0 types k ff.0.0.1 ff.1.0)
        (λ o h. trace_on cert _ _ _ _ _ _ (definitions_trace (definitions c 0 types) n 0 rargs types bodies h.1 h.0 ff.1.1.0)
        (λ o t. trace_on cert _ _ _ _ _ _
        (trace_rules cert {P = λ _. Unit {0}} (fix_guard E (values c) rargs bodies) (λ j. exact_guard E (values c) rargs bodies) (λ u a v e. tt))
        (λ o t. trace_rules cert (definition_type i n (term_at types i)) (λ j. exact_definition_type i n (term_at types i)) (λ u a v e. tt))))

    pub rule_trace : (c : Context) (t : Term) → IsCountedContext E c → IsFormed t →
        Ends (λ u. rule E infd cmp c t u) (λ u. make_rule E infg mk c t u) (λ s. walk_rule cert E infh sc c t s)
    rule_trace c (Rel i) k f = trace_rules cert (rel_rule c i (type_at c i)) (λ j. exact_rel c i (type_at c i)) (λ u a v e. tt)
    rule_trace c (SortT x) k f = trace_rules cert (sort_rule E x) (λ j. exact_sort E x) (λ u a v e. tt)
    rule_trace c (Prod A B) k f = prod_trace c A B k f.1.0 f.1.1.0
    rule_trace c (Lambda A b) k f = lambda_trace c A b k f.1.0 f.1.1.0
    rule_trace c (LetIn b B t) k f = let_trace c b B t k f.1.0 f.1.1.0 f.1.1.1.0
    rule_trace c (App g a) k f = app_trace c g a k f.1.0 f.1.1.0
    rule_trace c (Const l) k f = trace_rules cert (const_rule l (kept_at E.declarations l)) (λ j. exact_const l (kept_at E.declarations l)) (λ u a v e. tt)
    rule_trace c (Ind g) k f = trace_rules cert (ind_rule E g) (λ j. exact_ind E g) (λ u a v e. tt)
    rule_trace c (Construct g n) k f = trace_rules cert (construct_rule E g n) (λ j. exact_construct E g n) (λ u a v e. tt)
    rule_trace c (Case g ps n ret t bs) k f = case_trace c g ps n ret t bs k f
    rule_trace c (Fix i rargs types bodies) k f = fix_trace c i rargs types bodies k f

-- inference

module _ (cert : Items) (E : Env) (w : HasCountedDeclarations E) (q : Test) (test : IsTest E.levels E.constraints q) where
  inferred : (n : ℕ) (c : Context) (t : Term) (h : WalkState → Walk Term) → IsCountedContext E c → IsFormed t →
      Traces cert (λ _. Unit {0}) (λ u. infer E q n c t u) (λ u. make_infer E q n c t u) h →
      Traces cert (λ T. IsInferred E c t T) (λ u. infer E q n c t u) (λ u. make_infer E q n c t u) h
  inferred n c t h k f p = record {
    forgets = p.forgets;
    leads = λ u r v e.
        (let d : (infer E q n c t u).end ≡ run.Done r.value v = sym (ap (λ x. x.end) (p.forgets u)) ∙ ap (λ x. end_forgotten x) e in
        (infer_sound E w q test n c t r.value u v k f d, (p.leads u r v e).1));
  }

  crowded_walks : (c : Context) (t : Term) (s : WalkState) → (walk_infer cert E q 0 c t s) ≡ walk_ticking s (λ v. crowded)
  unfolding walk_infer
  crowded_walks c t s = refl

  pub infer_trace : (n m : ℕ) → Inferred cert E w (infer E q n) (make_infer E q n) (walk_infer cert E q m)
  unfolding infer make_infer walk_infer
  infer_trace zero m c t k f = trace_never cert _ _ _ nested_forgotten (λ u r v e. nested_done (ticking_done u (λ v. too_nested) r v e))
  infer_trace (suc n) zero c t k f =
      let rt = rule_trace cert E w (infer E q n) (make_infer E q n) (walk_infer cert E q 0) (infer_trace n 0) (compare E q n) (make_compare E q n) (script cert E q 0)
      (λ c equal a b vs ka kb. compare_trace cert E q w n c equal a b vs ka kb 0) c t k f in
      inferred (suc n) c t (λ s. walk_infer cert E q 0 c t s) k f
      (trace_tick cert _ _ _ (trace_crowded cert (λ s. walk_rule cert E (walk_infer cert E q 0) (script cert E q 0) c t s) (λ s. crowded) (λ s. refl)
      (trace_noted cert (rule_number t) _ _ _ rt)))
  infer_trace (suc n) (suc m) c t k f =
      let rt = rule_trace cert E w (infer E q n) (make_infer E q n) (walk_infer cert E q m) (infer_trace n m) (compare E q n) (make_compare E q n) (script cert E q m)
      (λ c equal a b vs ka kb. compare_trace cert E q w n c equal a b vs ka kb m) c t k f in
      inferred (suc n) c t (λ s. walk_infer cert E q (suc m) c t s) k f (trace_tick cert _ _ _ (trace_noted cert (rule_number t) _ _ _ rt))
