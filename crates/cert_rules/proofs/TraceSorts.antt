-- What directed inference writes leads the certified walk: sorts, checks against a type, telescopes.
use Rattle.std.proofs.Common.{◌≡◌, ◌∙◌, ℕ, zero, suc, Bool, true, false, if◌then◌else◌, List, [], ◌∷◌, ◌++◌, length, Some, refl, sym, ap, subst, arith, slice_get}
use Rattle.universe_levels.specs.declared.sort.Sort.{Sort}
use Rattle.pc_terms.specs.Syntax.{Term, SortT, first, substitute}
use Rattle.pc_terms.specs.Formed.{IsFormed}
use Rattle.calculus_rules.specs.declared.entry.Entry.TheVariants.{Assumed}
use Rattle.pc_rules.specs.declared.broken.Broken.{Broken}
use Rattle.pc_rules.specs.declared.broken.Broken.TheVariants.{NotASort}
use Rattle.pc_rules.specs.declared.meter.Account.{Account}
use Rattle.calculus_rules.specs.Environment.{Env}
use Rattle.calculus_rules.specs.Context.{Context, values}
use Rattle.calculus_rules.specs.Same.{same}
use Rattle.pc_rules.specs.DirectedRun as run
use Rattle.pc_rules.specs.DirectedRun.{Run, bind, make}
use Rattle.pc_rules.specs.DirectedComparison.{Comparison}
use Rattle.pc_rules.specs.DirectedTyping.{Typing, conv, sort_found, sort_of, check, retype, check_all, sorts_of}
use Rattle.pc_rules.specs.WellCounted.{IsCounted, AreCounted, HasCountedDeclarations, AreCountedValues, IsCountedContext}
use Rattle.pc_rules.proofs.SameTrees.{same_is, same_itself, not_true, false_true}
use Rattle.rule_laws.specs.Inference.{IsInferred, AllFormed}
use Rattle.rule_laws.proofs.Runs.{done_value}
use Rattle.rule_laws.proofs.Counted.{PutsCounted, first_counted, substituted_counted}
use Rattle.rule_laws.proofs.KeepCounts.{values_counted}
use Rattle.rule_laws.proofs.Comparing.{no_suc}
use Rattle.rule_laws.proofs.SimpleRules.{formed}
use Rattle.cert_rules.specs.declared.item.CertItem.TheVariants.{Same, Conv}
use Rattle.cert_rules.specs.Walk.{Items, WalkState, WalkAct, Passed, pass, bar, bar_here, past, walk_on, by_rules}
use Rattle.cert_rules.specs.Scripts.{Script}
use Rattle.cert_rules.specs.WalkTyping.{Walking, sort_after, walk_sort_found, walk_sort_of, walk_retype, fits_by, walk_fits, walk_check, walk_check_all, walk_sorts_of}
use Rattle.cert_rules.specs.Writing.{WriteAct, writing, silent, write_on}
use Rattle.cert_rules.specs.MakingTyping.{MakeTyping, MakeComparison, make_sort_found, make_sort_of, make_fits, make_check, make_retype, make_check_all, make_sorts_of}
use Rattle.cert_rules.proofs.ExactGuard.{Reach}
use Rattle.cert_rules.proofs.Exact.{exact_make}
use Rattle.cert_rules.proofs.Traces.{write_both, writing_done, writing_forgotten, on_forgotten, conv_falls, Led, led_item, led_more, Traces, trace_on, trace_less, trace_rules, trace_done, trace_refused, trace_noting, trace_conv, trace_if}
use Rattle.cert_rules.proofs.ReachedSteps.{reach_same, reach_other, trace_reduced}

pub same_flip : (a b : Term) (x : Bool) → same a b ≡ x → same b a ≡ x
same_flip a b true e = subst (λ y. same y a ≡ true) (same_is a b e) (same_itself a)
same_flip a b false e = not_true (same b a) (λ f. false_true (sym e ∙ subst (λ y. same a y ≡ true) (sym (same_is b a f)) (same_itself a)))

pub make_is : (X T : Term) (u v : Account) → (make X u).end ≡ run.Done T v → X ≡ T
make_is X T u v e = done_value e

module _ (cert : Items) where
  -- a term that is made
  pub trace_make : (X : Term) → Traces cert (λ T. X ≡ T) (λ u. make X u) (λ u. silent (make X) u) (λ s. by_rules (make X) s)
  trace_make X = trace_rules cert (make X) (λ j. exact_make X) (λ u a v e. make_is X a u v e)

  pub trace_made : {P : Term → Type 0} (X : Term) → P X → Traces cert P (λ u. make X u) (λ u. silent (make X) u) (λ s. by_rules (make X) s)
  trace_made {P} X h = trace_less cert (λ T e. subst (λ T. P T) e h) (trace_make X)

  -- a test at an item
  pub trace_tested : (b : Bool) (x : Broken) (i : ℕ) →
      Traces cert (λ _. Unit {0}) (λ u. if b then run.done {A = Unit {0}} tt u else run.refused x u) (λ u. silent (λ u. if b then run.done {A = Unit {0}} tt u else run.refused x u) u)
      (λ s. if b then pass tt s else bar i s)
  trace_tested true x i = trace_done cert tt tt
  trace_tested false x i = trace_refused cert x (λ s. bar i s)

  -- the item of a conversion, and what follows
  pub trace_conv_item : (d : Account → Run (Unit {0})) (g : WriteAct) (h k : WalkAct) → ((s : WalkState) → slice_get cert s.at ≡ Some Conv → (k s).end ≡ (h (past s)).end) →
      Traces cert (λ _. Unit {0}) d g h →
      Traces cert (λ _. Unit {0}) (λ u. bind (conv u) (λ _ v. d v)) (λ u. write_on (writing (Conv ∷ []) u (conv u)) (λ _ v. g v)) k
  trace_conv_item d g h k f p = record {
    forgets = λ u. on_forgotten (λ _ v. g v) (λ _ v. d v) (writing (Conv ∷ []) u (conv u)) (conv u) (writing_forgotten u (λ n. Conv ∷ []) (conv u)) (λ w v e. p.forgets v);
    leads = λ u r v e.
        (let s = write_both (writing (Conv ∷ []) u (conv u)) (λ _ v. g v) r v e in
        let m = s.1 in
        let x = s.3.0 in
        let c = writing_done u (λ n. Conv ∷ []) (conv u) s.0 m s.2 in
        let l = (p.leads m x v s.3.1).1 in
        let o : Led cert u v (Conv ∷ x.items) k tt = led_item cert u v Conv x.items h k tt f (led_more cert u m v x.items h tt (conv_falls cert u m c.0) l) in
        (tt, subst (λ is. Led cert u v is k tt) (ap (λ xs. xs ++ x.items) (sym c.1) ∙ ap (λ z. z.items) s.3.2) o));
  }

module _ (cert : Items) (E : Env) (w : HasCountedDeclarations E) where
  abbrev pub Inferred : Typing → MakeTyping → Walking → Type 0
  Inferred infd infg infh = (c : Context) (t : Term) → IsCountedContext E c → IsFormed t →
      Traces cert (λ T. IsInferred E c t T) (λ u. infd c t u) (λ u. infg c t u) (λ s. infh c t s)

  abbrev pub Compared : Comparison → MakeComparison → Script → Type 0
  Compared cmp mk sc = (c : Context) (equal : Bool) (a b : Term) → AreCountedValues E (values c) → IsCounted E a → IsCounted E b →
      Traces cert (λ _. Unit {0}) (λ u. cmp c equal a b u) (λ u. mk c equal a b u) (λ s. sc (values c) equal a b s)

  module _ (infd : Typing) (infg : MakeTyping) (infh : Walking) (ti : Inferred infd infg infh) where
    after_trace : {P : Sort → Type 0} (c : Context) (T : Term) (r : Sort) (n : ℕ) → P r → IsCountedContext E c → Reach E (values c) n T (SortT r) →
        Traces cert P (λ u. sort_found infd c T (SortT r) u) (λ u. make_sort_found infg c T (SortT r) u) (λ s. sort_after infh c r n s)
    after_trace c T r zero h k p =
        trace_if cert (same T (SortT r)) _ _ _ _ _ (λ e. trace_done cert r h) (λ e. false_true (sym e ∙ reach_same E (values c) 0 T (SortT r) p refl))
    after_trace c T r (suc n) h k p =
        trace_if cert (same T (SortT r)) _ _ _ _ _ (λ e. false_true (sym (reach_other E (values c) (suc n) T (SortT r) p (omega arith)) ∙ e))
        (λ e. trace_conv cert _ _ _ (trace_on cert _ _ _ _ _ _ (ti c (SortT r) k ((tt, tt), tt)) (λ a i. trace_done cert r h)))

    found_trace : {P : Sort → Type 0} (c : Context) (T W : Term) (n i : ℕ) → ((r : Sort) → P r) → IsCountedContext E c → Reach E (values c) n T W →
        Traces cert P (λ u. sort_found infd c T W u) (λ u. make_sort_found infg c T W u) (λ s. walk_sort_found infh c i n W s)
    found_trace c T (SortT r) n i h k p = after_trace c T r n (h r) k p
    found_trace c T W n i h k p = trace_refused cert (NotASort W) _

    -- a term's sort
    pub sort_trace : (c : Context) (A : Term) → IsCountedContext E c → IsFormed A →
        Traces cert (λ _. IsCounted E A) (λ u. sort_of E infd c A u) (λ u. make_sort_of E infg c A u) (λ s. walk_sort_of cert E infh c A s)
    unfolding sort_of make_sort_of walk_sort_of
    sort_trace c A k f =
        trace_on cert _ _ _ _ _ _ (ti c A k f)
        (λ T i. trace_reduced E (values c) cert T (λ W w. sort_found infd c T W w) (λ W w. make_sort_found infg c T W w) (λ j n W s. walk_sort_found infh c j n W s)
        (λ n W p j. found_trace c T W n j (λ r. i.subject) k p))

    pub retype_trace : (c : Context) (T W : Term) (n : ℕ) → IsCountedContext E c → IsFormed W → Reach E (values c) n T W →
        Traces cert (λ _. Unit {0}) (λ u. retype E infd c T W u) (λ u. make_retype E infg c T W u) (λ s. walk_retype cert E infh c n W s)
    unfolding retype make_retype walk_retype
    retype_trace c T W zero k f p =
        trace_if cert (same T W) _ _ _ _ _ (λ e. trace_done cert tt tt) (λ e. false_true (sym e ∙ reach_same E (values c) 0 T W p refl))
    retype_trace c T W (suc n) k f p =
        trace_if cert (same T W) _ _ _ _ _ (λ e. false_true (sym (reach_other E (values c) (suc n) T W p (omega arith)) ∙ e))
        (λ e. trace_conv cert _ _ _ (trace_on cert _ _ _ _ _ _ (sort_trace c W k f) (λ a i. trace_done cert tt tt)))

    -- the sorts of a telescope's entries
    pub sorts_trace : (c : Context) (As : List Term) → IsCountedContext E c → AllFormed As →
        Traces cert (λ _. AreCounted E As) (λ u. sorts_of E infd c As u) (λ u. make_sorts_of E infg c As u) (λ s. walk_sorts_of cert E infh c As s)
    unfolding sorts_of make_sorts_of walk_sorts_of
    sorts_trace c [] k f = trace_done cert [] tt
    sorts_trace c (A ∷ As) k f =
        trace_on cert _ _ _ _ _ _ (sort_trace c A k f.0)
        (λ x h. trace_on cert _ _ _ _ _ _ (sorts_trace (Assumed A ∷ c) As (h, k) f.1) (λ xs hs. trace_done cert (x ∷ xs) (h, hs)))

    module _ (cmp : Comparison) (mk : MakeComparison) (sc : Script) (tc : Compared cmp mk sc) where
      fits_same : (c : Context) (S T : Term) (s : WalkState) → same S T ≡ true → slice_get cert s.at ≡ Some Same → (walk_fits cert E infh sc c S T s).end ≡ Passed tt (past s)
      unfolding walk_fits
      fits_same c S T s h e =
          ap (λ o. (fits_by cert E infh sc c S T o s).end) e ∙ ap (λ b. (if b then pass {A = Unit {0}} tt (past s) else bar_here s).end) h

      fits_conv : (c : Context) (S T : Term) (s : WalkState) → slice_get cert s.at ≡ Some Conv →
          (walk_fits cert E infh sc c S T s).end ≡ (walk_on (walk_sort_of cert E infh c T (past s)) (λ _ w. sc (values c) false S T w)).end
      unfolding walk_fits
      fits_conv c S T s e = ap (λ o. (fits_by cert E infh sc c S T o s).end) e

      -- from the type that is found to the one that is asked for
      pub fits_trace : (c : Context) (S T : Term) (b : Bool) → same S T ≡ b → IsCountedContext E c → IsCounted E S → IsFormed T →
          Traces cert (λ _. Unit {0}) (λ u. if b then run.done tt u else bind (conv u) (λ _ w. bind (sort_of E infd c T w) (λ _ x. cmp c false S T x)))
          (λ u. make_fits E infg mk c b S T u) (λ s. walk_fits cert E infh sc c S T s)
      fits_trace c S T b h k ks f =
          trace_if cert b _ _ _ _ _ (λ e. trace_noting cert Same (λ s. walk_fits cert E infh sc c S T s) tt (λ s i. fits_same c S T s (h ∙ e) i))
          (λ e. trace_conv_item cert _ _ (λ s. walk_on (walk_sort_of cert E infh c T s) (λ _ w. sc (values c) false S T w)) (λ s. walk_fits cert E infh sc c S T s)
          (λ s i. fits_conv c S T s i)
          (trace_on cert _ _ _ _ _ _ (sort_trace c T k f) (λ a kt. tc c false S T (values_counted E c k) ks kt)))

      -- a term against a type
      pub check_trace : (c : Context) (t T : Term) → IsCountedContext E c → IsFormed t → IsFormed T →
          Traces cert (λ _. IsCounted E t) (λ u. check E infd cmp c t T u) (λ u. make_check E infg mk c t T u) (λ s. walk_check cert E infh sc c t T s)
      unfolding check make_check walk_check
      check_trace c t T k ft fT =
          trace_on cert _ _ _ _ _ _ (ti c t k ft) (λ S i. trace_less cert (λ a o. i.subject) (fits_trace c S T (same S T) refl k i.classifier fT))

      pub all_trace : (c : Context) (s : ℕ → Term) (ts As : List Term) → IsCountedContext E c → PutsCounted E s → length ts ≡ length As → AllFormed ts → AreCounted E As →
          Traces cert (λ _. AreCounted E ts) (λ u. check_all E infd cmp c s ts As u) (λ u. make_check_all E infg mk c s ts As u) (λ z. walk_check_all cert E infh sc c s ts As z)
      unfolding check_all make_check_all walk_check_all
      all_trace c s [] [] k ps l f a = trace_done cert tt tt
      all_trace c s [] (A ∷ As) k ps l f a = no_suc (sym l)
      all_trace c s (t ∷ ts) [] k ps l f a = no_suc l
      all_trace c s (t ∷ ts) (A ∷ As) k ps l f a =
          trace_on cert _ _ _ _ _ _ (trace_make cert (substitute s A))
          (λ T e. trace_on cert _ _ _ _ _ _ (check_trace c t T k f.0 (subst (λ T. IsFormed T) e (formed E (substitute s A) (substituted_counted E s A ps a.0))))
          (λ o kt. trace_less cert (λ o ks. (kt, ks)) (all_trace c (first t s) ts As k (first_counted E t s kt ps) (omega arith) f.1 a.1)))
