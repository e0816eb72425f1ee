-- What directed comparison writes is accepted as a script: spines, weak-head normal forms, and any two terms.
use Rattle.std.proofs.Common.{◌≡◌, ◌∙◌, ℕ, zero, suc, ◌+◌, ◌==◌, ◌&&◌, ◌||◌, inl, Bool, true, List, [], ◌∷◌, ◌++◌, length, None, refl, sym, ap, subst, arith, length-append, append-nil, append_assoc}
use Rattle.std.proofs.lemmas.Bool.{eqb-true, or_right}
use Rattle.universe_levels.specs.declared.sort.Sort.{Sort}
use Rattle.pc_terms.specs.Syntax.{Term, SortT, head, args, Prod, Lambda, App}
use Rattle.calculus_rules.specs.declared.entry.Entry.TheVariants.{Assumed}
use Rattle.pc_rules.specs.declared.broken.Broken.TheVariants.{NotBelow}
use Rattle.pc_rules.specs.declared.broken.Clash.TheVariants.{Terms as ClashOfTerms, Sorts as ClashOfSorts}
use Rattle.pc_rules.specs.declared.meter.Account.{Account}
use Rattle.calculus_rules.specs.Environment.{Env}
use Rattle.calculus_rules.specs.Context.{Context, Values, values}
use Rattle.calculus_rules.specs.Same.{same}
use Rattle.pc_rules.specs.DirectedRun as run
use Rattle.pc_rules.specs.DirectedRun.{Run, bind, ticking, too_nested}
use Rattle.pc_rules.specs.DirectedComparison.{Test, sorts_stand, Comparison, alike, each_equal, heads_equal, spines_equal, pair}
use Rattle.pc_rules.specs.WellCounted.{IsCounted, AreCounted, AreCountedValues}
use Rattle.pc_rules.proofs.WeakNext.{both_true}
use Rattle.rule_laws.proofs.Runs.{done_value}
use Rattle.rule_laws.proofs.Counted.{head_counted, args_counted}
use Rattle.cert_rules.specs.declared.item.CertItem.TheVariants.{Parts}
use Rattle.cert_rules.specs.Walk.{Items, WalkAct, walk_on, walk_all}
use Rattle.cert_rules.specs.Scripts.{Script, sorts_at, script}
use Rattle.cert_rules.specs.Writing.{Wrote, wrote, WriteAct, noting_all, write_on, write_all}
use Rattle.cert_rules.specs.MakingTyping.{MakeComparison, make_each, make_heads_equal, part_items, make_spines_equal, make_pair}
use Rattle.cert_rules.proofs.Exact.{done_account}
use Rattle.cert_rules.proofs.Traces.{write_both, on_forgotten, Led, led_on, led_item, led_as, Traces, trace_refused, trace_if, AllTrace, no_trace, a_trace, trace_all}
use Rattle.cert_rules.proofs.TraceScripts.{two_acts, split_all, nothing_written, all_noted, all_noted_done, parts_last, no_args, script_crowded, trace_same, parts_take, trace_parts, trace_two, Scripted, heads_trace}

each_last : (mk : MakeComparison) (c : Context) (xs ys : List Term) (x y : Term) → length xs ≡ length ys →
    make_each mk c (xs ++ (x ∷ [])) (ys ++ (y ∷ [])) ≡ make_each mk c xs ys ++ (mk c true x y ∷ [])
each_last mk c [] [] x y l = refl
each_last mk c [] (z ∷ ys) x y l = absurd (omega arith)
each_last mk c (z ∷ xs) [] x y l = absurd (omega arith)
each_last mk c (z ∷ xs) (z' ∷ ys) x y l = ap (λ gs. mk c true z z' ∷ gs) (each_last mk c xs ys x y (omega arith))

no_each : (mk : MakeComparison) (c : Context) (xs : List Term) (u : Account) (r : Wrote (Unit {0})) (v : Account) → xs ≡ [] →
    (write_all (make_each mk c xs []) u).end ≡ run.Done r v → (u ≡ v) × ([] ≡ r.items)
no_each mk c [] u r v z e = let d = sym (nothing_written u) ∙ e in (done_account d, ap (λ x. x.items) (done_value d))
no_each mk c (x ∷ xs) u r v z e = absurd (cc)

module _ (cert : Items) (E : Env) (q : Test) (cmp : Comparison) (mk : MakeComparison) (sc : Scripted cert E q cmp mk) (c : Context) (vs : AreCountedValues E (values c)) where
  -- an application: its function, and then its argument
  app_led : (m : ℕ) (equal : Bool) (f g x y : Term) (u m1 v : Account) (is js : Items) → Led cert u m1 is (λ s. script cert E q m (values c) true f g s) tt →
      Led cert m1 v js (λ s. script cert E q m (values c) true x y s) tt →
      Led cert u v (Parts ∷ (is ++ js)) (λ s. script cert E q (suc m) (values c) equal (App f x) (App g y) s) tt
  app_led m equal f g x y u m1 v is js p r =
      let go : Script = script cert E q m in
      let V : Values = values c in
      led_item cert u v Parts (is ++ js) (λ s. walk_all (go V true f g ∷ go V true x y ∷ []) s) (λ s. script cert E q (suc m) V equal (App f x) (App g y) s) tt
      (λ s e. parts_take cert E q m V equal (App f x) (App g y) (go V true f g ∷ go V true x y ∷ []) s refl e)
      (led_as cert u v (is ++ js) (λ s. walk_on (go V true f g s) (λ _ v. go V true x y v)) (λ s. walk_all (go V true f g ∷ go V true x y ∷ []) s) tt
      (λ s. two_acts (go V true f g) (go V true x y) s)
      (led_on cert u m1 v is js (λ s. go V true f g s) (λ _ v. go V true x y v) tt tt p r))

  app_fuel : (equal : Bool) (f g x y : Term) (u m1 v : Account) (is js : Items) → ((m : ℕ) → Led cert u m1 is (λ s. script cert E q m (values c) true f g s) tt) →
      ((m : ℕ) → Led cert m1 v js (λ s. script cert E q m (values c) true x y s) tt) → (m : ℕ) →
      Led cert u v (Parts ∷ (is ++ js)) (λ s. script cert E q m (values c) equal (App f x) (App g y) s) tt
  app_fuel equal f g x y u m1 v is js p r zero = record {
    falls = (app_led 0 equal f g x y u m1 v is js (p 0) (r 0)).falls;
    walks = λ s l n. inl (script_crowded cert E q (values c) equal (App f x) (App g y) s);
  }
  app_fuel equal f g x y u m1 v is js p r (suc m) = app_led m equal f g x y u m1 v is js (p m) (r m)

  items_of_app : (ps hs as' bs : Items) → Parts ∷ ((ps ++ (hs ++ as')) ++ bs) ≡ (Parts ∷ ps) ++ (hs ++ (as' ++ bs))
  items_of_app ps hs as' bs = ap (λ is. Parts ∷ is) (append_assoc ps (hs ++ as') bs ∙ ap (λ is. ps ++ is) (append_assoc hs as' bs))

  spine_led : (a b : Term) (equal : Bool) (u u1 v : Account) (H : Items) (r : Wrote (Unit {0})) → IsCounted E a → IsCounted E b → length (args a) ≡ length (args b) →
      ((m : ℕ) (e : Bool) → Led cert u u1 H (λ s. script cert E q m (values c) e (head a) (head b) s) tt) →
      (write_all (make_each mk c (args a) (args b)) u1).end ≡ run.Done r v → (m : ℕ) →
      Led cert u v (part_items (args a) ++ (H ++ r.items)) (λ s. script cert E q m (values c) equal a b s) tt
  spine_led (App f x) (App g y) equal u u1 v H r ka kb l p e m =
      let lf : length (args f ++ (x ∷ [])) ≡ length (args f) + 1 = length-append (args f) (x ∷ []) in
      let lg : length (args g ++ (y ∷ [])) ≡ length (args g) + 1 = length-append (args g) (y ∷ []) in
      let k : length (args f) ≡ length (args g) = omega arith in
      let e1 : (write_all (make_each mk c (args f) (args g) ++ (mk c true x y ∷ [])) u1).end ≡ run.Done r v =
      sym (ap (λ gs. (write_all gs u1).end) (each_last mk c (args f) (args g) x y k)) ∙ e in
      let s = split_all (make_each mk c (args f) (args g)) (mk c true x y) u1 r v e1 in
      let fs = spine_led f g true u u1 s.1 H (wrote s.0 tt) ka.1.0 kb.1.0 k p s.2 in
      let xs : (m : ℕ) → Led cert s.1 v s.3.0.items (λ s. script cert E q m (values c) true x y s) tt =
      λ m. ((sc c true x y vs ka.1.1.0 kb.1.1.0 m).leads s.1 s.3.0 v s.3.1).1 in
      subst (λ is. Led cert u v is (λ s. script cert E q m (values c) equal (App f x) (App g y) s) tt)
      (items_of_app (part_items (args f)) H s.0 s.3.0.items ∙ (λ i. sym (parts_last (args f) x) i ++ (H ++ s.3.2 i)))
      (app_fuel equal f g x y u s.1 v (part_items (args f) ++ (H ++ s.0)) s.3.0.items fs xs m)
  spine_led (App f x) b equal u u1 v H r ka kb l p e m =
      let lf : length (args f ++ (x ∷ [])) ≡ length (args f) + 1 = length-append (args f) (x ∷ []) in absurd (omega arith)
  spine_led a b equal u u1 v H r ka kb l p e m =
      let n = no_args b (sym l) in
      let d = no_each mk c [] u1 r v refl (subst (λ ys. (write_all (make_each mk c [] ys) u1).end ≡ run.Done r v) n.1 e) in
      let h : Led cert u u1 H (λ s. script cert E q m (values c) equal a b s) tt =
      subst (λ y. Led cert u u1 H (λ s. script cert E q m (values c) equal a y s) tt) n.0 (p m equal) in
      subst (λ is. Led cert u v is (λ s. script cert E q m (values c) equal a b s) tt) (sym (append-nil H) ∙ ap (λ is. H ++ is) d.1)
      (subst (λ y. Led cert u y H (λ s. script cert E q m (values c) equal a b s) tt) d.0 h)

  -- two spines with as many arguments and alike heads
  abbrev spine_run : Term → Term → Account → Run (Unit {0})
  spine_run a b u = bind (heads_equal E cmp c (head a) (head b) u) (λ _ v. run.run_all (each_equal cmp c (args a) (args b)) v)

  abbrev spine_writes : Term → Term → WriteAct
  spine_writes a b u =
      write_on (noting_all (part_items (args a)) u) (λ _ v.
      write_on (make_heads_equal E mk c (head a) (head b) v) (λ _ w. write_all (make_each mk c (args a) (args b)) w))

  each_all : (xs ys : List Term) → AreCounted E xs → AreCounted E ys → (m : ℕ) → (hs : List WalkAct) × AllTrace cert (each_equal cmp c xs ys) (make_each mk c xs ys) hs
  each_all [] ys kx ky m = ([], no_trace)
  each_all (x ∷ xs) [] kx ky m = ([], no_trace)
  each_all (x ∷ xs) (y ∷ ys) kx ky m =
      let r = each_all xs ys kx.1 ky.1 m in
      ((λ s. script cert E q m (values c) true x y s) ∷ r.0, a_trace (sc c true x y vs kx.0 ky.0 m) r.1)

  spine_trace : (a b : Term) (equal : Bool) → IsCounted E a → IsCounted E b → length (args a) ≡ length (args b) → alike (head a) (head b) ≡ true → (m : ℕ) →
      Traces cert (λ _. Unit {0}) (λ u. spine_run a b u) (λ u. spine_writes a b u) (λ s. script cert E q m (values c) equal a b s)
  spine_trace a b equal ka kb l t m =
      let ht : (m : ℕ) (e : Bool) → Traces cert (λ _. Unit {0}) (λ u. heads_equal E cmp c (head a) (head b) u) (λ u. make_heads_equal E mk c (head a) (head b) u)
      (λ s. script cert E q m (values c) e (head a) (head b) s) =
      λ m e. heads_trace cert E q cmp mk sc c vs e (head a) (head b) (head_counted E a ka) (head_counted E b kb) t m in
      let all = trace_all cert (each_all (args a) (args b) (args_counted E a ka) (args_counted E b kb) 0).1 in
      record {
        forgets = λ u. all_noted (part_items (args a)) (λ _ v. write_on (make_heads_equal E mk c (head a) (head b) v) (λ _ w. write_all (make_each mk c (args a) (args b)) w)) u
            ∙ on_forgotten (λ _ w. write_all (make_each mk c (args a) (args b)) w) (λ _ v. run.run_all (each_equal cmp c (args a) (args b)) v)
            (make_heads_equal E mk c (head a) (head b) u) (heads_equal E cmp c (head a) (head b) u) ((ht 0 true).forgets u) (λ w v e. all.forgets v);
        leads = λ u r v e.
            (let n = all_noted_done (part_items (args a)) (λ _ v. write_on (make_heads_equal E mk c (head a) (head b) v) (λ _ w. write_all (make_each mk c (args a) (args b)) w)) u r v e in
            let s = write_both (make_heads_equal E mk c (head a) (head b) u) (λ _ w. write_all (make_each mk c (args a) (args b)) w) n.0 v n.1 in
            let is : part_items (args a) ++ (s.0.items ++ s.3.0.items) ≡ r.items =
            ap (λ xs. part_items (args a) ++ xs) (ap (λ x. x.items) s.3.2) ∙ ap (λ x. x.items) n.2 in (
              tt,
              subst (λ is. Led cert u v is (λ s. script cert E q m (values c) equal a b s) tt) is
                  (spine_led a b equal u s.1 v s.0.items s.3.0 ka kb l (λ m e. ((ht m e).leads u s.0 s.1 s.2).1) s.3.1 m),
            ));
      }

  spines_trace : (a b : Term) (equal : Bool) → IsCounted E a → IsCounted E b → (m : ℕ) →
      Traces cert (λ _. Unit {0}) (λ u. spines_equal E cmp c a b u) (λ u. make_spines_equal E mk c a b u) (λ s. script cert E q m (values c) equal a b s)
  spines_trace a b equal ka kb m =
      trace_if cert ((length (args a) == length (args b)) && alike (head a) (head b)) _ _ _ _ _
      (λ t. let p = both_true (length (args a) == length (args b)) (alike (head a) (head b)) t in
      spine_trace a b equal ka kb (eqb-true (length (args a)) (length (args b)) p.0) p.1 m)
      (λ t. trace_refused cert (NotBelow (ClashOfTerms a b)) _)

  sorts_pass : (equal : Bool) (s s' : Sort) → sorts_stand q equal s s' ≡ true → (same (SortT s) (SortT s') || sorts_at q equal (SortT s) (SortT s')) ≡ true
  sorts_pass equal s s' h = or_right (same (SortT s) (SortT s')) (sorts_stand q equal s s') h

  pub pair_trace : (equal : Bool) (a b : Term) → IsCounted E a → IsCounted E b → (m : ℕ) →
      Traces cert (λ _. Unit {0}) (λ u. pair E q cmp c equal a b u) (λ u. make_pair E q mk c equal a b u) (λ s. script cert E q m (values c) equal a b s)
  pair_trace equal (SortT s) (SortT s') ka kb m =
      trace_if cert (sorts_stand q equal s s') _ _ _ _ _ (λ t. trace_same cert E q (values c) equal (SortT s) (SortT s') (sorts_pass equal s s' t) m)
      (λ t. trace_refused cert (NotBelow (ClashOfSorts s s')) _)
  pair_trace equal (Prod A B) (Prod A' B') ka kb m =
      trace_parts cert E q (values c) equal (Prod A B) (Prod A' B') _ _
      (λ m. (
        script cert E q m (values c) true A A' ∷ script cert E q m (None ∷ values c) equal B B' ∷ [],
        refl,
        trace_two cert E q _ _ _ _ _ _ (sc c true A A' vs ka.1.0 kb.1.0 m) (sc (Assumed A ∷ c) equal B B' vs ka.1.1.0 kb.1.1.0 m),
      )) m
  pair_trace equal (Lambda A b) (Lambda A' b') ka kb m =
      trace_parts cert E q (values c) equal (Lambda A b) (Lambda A' b') _ _
      (λ m. (
        script cert E q m (values c) true A A' ∷ script cert E q m (None ∷ values c) true b b' ∷ [],
        refl,
        trace_two cert E q _ _ _ _ _ _ (sc c true A A' vs ka.1.0 kb.1.0 m) (sc (Assumed A ∷ c) true b b' vs ka.1.1.0 kb.1.1.0 m),
      )) m
  pair_trace equal a b ka kb m = spines_trace a b equal ka kb m
