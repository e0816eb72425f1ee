-- How the parts of rule 10 are put together.
use Rattle.std.proofs.Common.{◌≡◌, ◌∙◌, ◌⊎◌, inl, inr, sym, ap, refl, ℕ, suc, ◌<◌, ◌≤◌, ◌+◌, min, ◌++◌, Result, Ok, Err, IsTrue, Bool, List, [], ◌∷◌, length, drop, get_or, Option, Some, subst, arith}
use Rattle.universe_levels.specs.declared.sort.Sort.{Sort}
use Rattle.trees.specs.Tree.{terms_of}
use Rattle.trees.specs.Measures.{IsBeyond}
use Rattle.trees.proofs.Cutoffs.{subst_list-substitute}
use Rattle.pc_terms.specs.declared.leaf.FamilyId.{FamilyId}
use Rattle.pc_terms.specs.declared.term.Branch.{Branch}
use Rattle.pc_terms.specs.declared.term.Match.{Match}
use Rattle.pc_terms.specs.declared.term.MakeFault.{MakeFault}
use Rattle.pc_terms.specs.declared.term.MakeFault.TheVariants.{TooDeep as DeepTerm, Memory as NoTerm}
use Rattle.pc_terms.specs.Lists.{arms_of}
use Rattle.pc_terms.specs.Syntax.{Term, Rel, Ind, Case, apply, args, first, put_all, substitute, subst_list, list_of}
use Rattle.calculus_rules.specs.declared.declaration.Constructor.{Constructor}
use Rattle.calculus_rules.specs.declared.declaration.Block.{Block}
use Rattle.calculus_rules.specs.declared.entry.Entry.TheVariants.{Assumed}
use Rattle.pc_rules.specs.declared.meter.Account.{Account}
use Rattle.pc_rules.specs.declared.meter.Meter.{Meter}
use Rattle.pc_rules.specs.declared.stop.Stop.TheVariants.{TooDeep}
use Rattle.pc_rules.specs.declared.stop.Halt.{Halt}
use Rattle.pc_rules.specs.declared.stop.Halt.TheVariants.{Stop}
use Rattle.pc_rules.specs.Stops.{stop_of}
use Rattle.calculus_rules.specs.Environment.{Env, FamilyDecl}
use Rattle.calculus_rules.specs.Context.{Context, values, extend}
use Rattle.calculus_rules.specs.Instances.{predicate_at}
use Rattle.pc_rules.specs.DirectedRun.{Run, Act, done, make, passing, is_beyond, bind, Leaves}
use Rattle.pc_rules.specs.DirectedWeakHead.{whnf}
use Rattle.pc_rules.specs.DirectedComparison.{Comparison}
use Rattle.calculus_rules.specs.Lookups.{kept_at, whole_block}
use Rattle.pc_rules.specs.DirectedTyping.{Typing, sort_of, check, sorts_of, check_all, find_family, retype, found_family, scrutinee_fits, match_counted, predicate_rule, scrutinee_rule, branch_rule, branches_rule, case_rule}
use Rattle.calculus_rules.specs.WeakHead.{WeakSteps}
use Rattle.pc_rules.specs.Follows.{Follows, Answers, Halts}
use Rattle.pc_rules.specs.WellCounted.{IsCounted, AreCounted}
use Rattle.pc_rules.proofs.Following.{follows_bind, follows_err, follows_done, follows_memory, follows_deep, follows_passing, follows_still, follows_fault, bind_done, answers_err}
use Rattle.pc_rules.proofs.Leading.{bind_assoc}
use Rattle.pc_rules.proofs.Fair.{leaves_bind, same_left}
use Rattle.pc_rules.proofs.FairReduction.{FairComparison}
use Rattle.pc_rules.proofs.FairTyping.{FairTyping, rule_leaves, check_all_leaves, retype_leaves}
use Rattle.pc_rules.proofs.Leaving.{leaving, typing_leaves, comparison_leaves}
use Rattle.rule_laws.specs.Inference.{IsInferred}
use Rattle.rule_laws.proofs.Counted.{apply_counted, appended_counted, args_counted}
use Rattle.rule_laws.proofs.CountedParts.{ind_counted}
use Rattle.rule_laws.proofs.KeepCounts.{values_counted, steps_counted}
use Rattle.type_infer.specs.Ready.{IsReady}
use Rattle.type_infer.proofs.Steps.{and_then, halts, still}
use Rattle.type_infer.specs.Entering.{entries_entered}
use Rattle.pc_rules.proofs.ListSteps.{next_is, none_left, min_either}
use Rattle.calculus_rules.proofs.Listing.{listed}
use Rattle.rule_laws.proofs.MatchRule.{dropped_counted}
use Rattle.calculus_rules.proofs.Spines.{put_more}

-- terms are made, or there is a fault

pub pass_fault : {B : Type 0} (b : Bool) (k : Unit {0} → Account → Run B) (f : MakeFault) (m : Meter) → (f ≡ DeepTerm → IsTrue b) →
    ((x : Unit {0}) (u : Account) → Leaves (k x u).end u.left) → Follows (bind (passing b m.account) k) (Err (Stop (stop_of f))) m m
pass_fault b k DeepTerm m h q = follows_err (passing b m.account) k (Stop TooDeep) m m (follows_deep (passing b m.account) m (h refl) (same_left m.account)) q
pass_fault b k NoTerm m h q = follows_memory (bind (passing b m.account) k) m (leaves_bind (passing b m.account) k m.account.left (same_left m.account) q)

pub pass_go : {B : Type 0} (b : Bool) (k : Unit {0} → Account → Run B) (r : Result B Halt) (m0 m1 : Meter) → Follows (k tt m0.account) r m0 m1 →
    Follows (bind (passing b m0.account) k) r m0 m1
pass_go b k r m0 m1 f = follows_bind (passing b m0.account) k tt r m0 m0 m1 (follows_passing b m0) f

-- the entries of a telescope

module _ (E : Env) (inf : Typing) where
  entered_cons : (c : Context) (A : Term) (As : List Term) (u : Account) →
      entries_entered E inf c (A ∷ As) u ≡ bind (sort_of E inf c A u) (λ _ v. entries_entered E inf (Assumed A ∷ c) As v)
  unfolding sorts_of
  entered_cons c A As u =
      let X : Context = extend (Assumed A ∷ c) As in
      let more : Sort → List Sort → Account → Run (List Sort) = λ s ss w. done (s ∷ ss) w in
      let end : List Sort → Account → Run Context = λ _ v. done X v in
      let inner : (s : Sort) (v : Account) → bind (bind (sorts_of E inf (Assumed A ∷ c) As v) (more s)) end ≡ entries_entered E inf (Assumed A ∷ c) As v =
      λ s v. bind_assoc (sorts_of E inf (Assumed A ∷ c) As v) (more s) end ∙ (λ i. bind (sorts_of E inf (Assumed A ∷ c) As v) (λ ss w. bind_done (s ∷ ss) w end i)) in
      bind_assoc (sort_of E inf c A u) (λ s v. bind (sorts_of E inf (Assumed A ∷ c) As v) (more s)) end ∙ (λ i. bind (sort_of E inf c A u) (λ s v. inner s v i))

  entered_nil : (c : Context) (u : Account) → entries_entered E inf c [] u ≡ done c u
  unfolding sorts_of
  entered_nil c u = bind_done [] u (λ _ v. done c v)

  -- from entry i on
  pub entered_next : (c : Context) (As : List Term) (i : ℕ) (A : Term) (s : Sort) (r : Result Context Halt) (m0 m1 m2 : Meter) → i < length As → A ≡ get_or As i A →
      Follows (sort_of E inf c A m0.account) (Ok s) m0 m1 → Follows (entries_entered E inf (Assumed A ∷ c) (drop (i + 1) As) m1.account) r m1 m2 →
      Follows (entries_entered E inf c (drop i As) m0.account) r m0 m2
  entered_next c As i A s r m0 m1 m2 l e f g =
      rw (next_is As i A l e, entered_cons c A (drop (i + 1) As) m0.account)
      (follows_bind (sort_of E inf c A m0.account) (λ _ v. entries_entered E inf (Assumed A ∷ c) (drop (i + 1) As) v) s r m0 m1 m2 f g)

  pub entered_stop : FairTyping 0 0 inf → (c : Context) (As : List Term) (i : ℕ) (A : Term) (h : Halt) (m0 m1 : Meter) → i < length As → A ≡ get_or As i A →
      Follows (sort_of E inf c A m0.account) (Err h) m0 m1 → Follows (entries_entered E inf c (drop i As) m0.account) (Err h) m0 m1
  entered_stop g c As i A h m0 m1 l e f =
      rw (next_is As i A l e, entered_cons c A (drop (i + 1) As) m0.account)
      (follows_err (sort_of E inf c A m0.account) (λ _ v. entries_entered E inf (Assumed A ∷ c) (drop (i + 1) As) v) h m0 m1 f (search (leaving, g)))

  pub entered_end : (c : Context) (As : List Term) (i : ℕ) (m : Meter) → length As ≤ i → Follows (entries_entered E inf c (drop i As) m.account) (Ok c) m m
  entered_end c As i m l = rw (none_left As i l, entered_nil c m.account) (follows_done c m)

  -- what comes after the sorts of all entries
  module _ {B : Type 0} (c : Context) (As : List Term) (k : Account → Run B) where
    forgotten : (u : Account) → bind (entries_entered E inf c As u) (λ _ w. k w) ≡ bind (sorts_of E inf c As u) (λ _ w. k w)
    forgotten u =
        bind_assoc (sorts_of E inf c As u) (λ _ v. done (extend c As) v) (λ _ w. k w) ∙ (λ i. bind (sorts_of E inf c As u) (λ _ w. bind_done (extend c As) w (λ _ x. k x) i))

    pub entered_then : (d : Context) (r : Result B Halt) (m0 m1 m2 : Meter) → Follows (entries_entered E inf c As m0.account) (Ok d) m0 m1 → Follows (k m1.account) r m1 m2 →
        Follows (bind (sorts_of E inf c As m0.account) (λ _ w. k w)) r m0 m2
    entered_then d r m0 m1 m2 f g =
        subst (λ x. Follows x r m0 m2) (forgotten m0.account) (follows_bind (entries_entered E inf c As m0.account) (λ _ w. k w) d r m0 m1 m2 f g)

    pub entered_err : (h : Halt) (m0 m1 : Meter) → Follows (entries_entered E inf c As m0.account) (Err h) m0 m1 → ((u : Account) → Leaves (k u).end u.left) →
        Follows (bind (sorts_of E inf c As m0.account) (λ _ w. k w)) (Err h) m0 m1
    entered_err h m0 m1 f q =
        subst (λ x. Follows x (Err h) m0 m1) (forgotten m0.account) (follows_err (entries_entered E inf c As m0.account) (λ _ w. k w) h m0 m1 f (λ _ w. q w))

pub longer_next : (c : Context) (As : List Term) (i : ℕ) (A : Term) → i < length As → A ≡ get_or As i A → extend (Assumed A ∷ c) (drop (i + 1) As) ≡ extend c (drop i As)
longer_next c As i A l e = ap (extend c) (sym (next_is As i A l e))

-- terms against a telescope

module _ (E : Env) (inf : Typing) (cmp : Comparison) (c : Context) (ts As : List Term) where
  -- from term i on, where those before it are put in
  abbrev pub all_from : List Term → ℕ → Act
  all_from before i u = check_all E inf cmp c (put_all before Rel) (drop i ts) (drop i As) u

  module _ (before : List Term) (i : ℕ) (t A : Term) (l : i < length ts) (k : i < length As) (e : t ≡ get_or ts i t) (p : A ≡ get_or As i A) where
    pub all_next : (T : Term) (after : List Term) (r : Result (Unit {0}) Halt) (m0 m1 m2 : Meter) → T ≡ substitute (put_all before Rel) A → after ≡ before ++ (t ∷ []) →
        Follows (check E inf cmp c t T m0.account) (Ok tt) m0 m1 → Follows (all_from after (i + 1) m1.account) r m1 m2 → Follows (all_from before i m0.account) r m0 m2
    unfolding check_all
    all_next T after r m0 m1 m2 q a f g =
        let S : Term = substitute (put_all before Rel) A in
        let s : ℕ → Term = put_all before Rel in
        let go : Term → Account → Run (Unit {0}) = λ T v. bind (check E inf cmp c t T v) (λ _ w. check_all E inf cmp c (first t s) (drop (i + 1) ts) (drop (i + 1) As) w) in
        let g' : Follows (check_all E inf cmp c (first t s) (drop (i + 1) ts) (drop (i + 1) As) m1.account) r m1 m2 =
        subst (λ z. Follows (check_all E inf cmp c z (drop (i + 1) ts) (drop (i + 1) As) m1.account) r m1 m2) (ap (λ xs. put_all xs Rel) a ∙ put_more before t Rel) g in
        let f' : Follows (check E inf cmp c t S m0.account) (Ok tt) m0 m1 = subst (λ T. Follows (check E inf cmp c t T m0.account) (Ok tt) m0 m1) q f in
        let one : Follows (make S m0.account) (Ok S) m0 m0 = follows_still (make S m0.account) (Ok S) m0 refl (same_left m0.account) in
        rw (next_is ts i t l e, next_is As i A k p)
        (follows_bind (make S m0.account) go S r m0 m0 m2 one
        (follows_bind (check E inf cmp c t S m0.account) (λ _ w. check_all E inf cmp c (first t s) (drop (i + 1) ts) (drop (i + 1) As) w) tt r m0 m1 m2 f' g'))

    pub all_stop : FairTyping 0 0 inf → FairComparison 0 0 cmp → (T : Term) (h : Halt) (m0 m1 : Meter) → T ≡ substitute (put_all before Rel) A → Follows (check E inf cmp c t T m0.account) (Err h) m0 m1 →
        Follows (all_from before i m0.account) (Err h) m0 m1
    unfolding check_all
    all_stop x y T h m0 m1 q f =
        let S : Term = substitute (put_all before Rel) A in
        let s : ℕ → Term = put_all before Rel in
        let go : Term → Account → Run (Unit {0}) = λ T v. bind (check E inf cmp c t T v) (λ _ w. check_all E inf cmp c (first t s) (drop (i + 1) ts) (drop (i + 1) As) w) in
        let f' : Follows (check E inf cmp c t S m0.account) (Err h) m0 m1 = subst (λ T. Follows (check E inf cmp c t T m0.account) (Err h) m0 m1) q f in
        let one : Follows (make S m0.account) (Ok S) m0 m0 = follows_still (make S m0.account) (Ok S) m0 refl (same_left m0.account) in
        rw (next_is ts i t l e, next_is As i A k p)
        (follows_bind (make S m0.account) go S (Err h) m0 m0 m1 one
        (follows_err (check E inf cmp c t S m0.account) (λ _ w. check_all E inf cmp c (first t s) (drop (i + 1) ts) (drop (i + 1) As) w) h m0 m1 f' (search (leaving, x, y))))

    pub all_fault : FairTyping 0 0 inf → FairComparison 0 0 cmp → (f : MakeFault) (m : Meter) → (f ≡ DeepTerm → IsBeyond (subst_list 0 before A)) → Follows (all_from before i m.account) (Err (Stop (stop_of f))) m m
    unfolding check_all
    all_fault x y f m h =
        let S : Term = substitute (put_all before Rel) A in
        let s : ℕ → Term = put_all before Rel in
        let go : Term → Account → Run (Unit {0}) = λ T v. bind (check E inf cmp c t T v) (λ _ w. check_all E inf cmp c (first t s) (drop (i + 1) ts) (drop (i + 1) As) w) in
        let one : Follows (make S m.account) (Err (Stop (stop_of f))) m m = follows_fault S f m (λ q. subst (λ (x : Term). IsBeyond x) (subst_list-substitute before 0 A) (h q)) in
        rw (next_is ts i t l e, next_is As i A k p) (follows_err (make S m.account) go (Stop (stop_of f)) m m one (search (leaving, x, y)))

  pub all_end : (before : List Term) (i : ℕ) (m : Meter) → length ts ≤ i → Follows (all_from before i m.account) (Ok tt) m m
  unfolding check_all
  all_end before i m l = rw (none_left ts i l) (follows_done tt m)

-- the types of a scrutinee

-- the weak-head normal form of the type that a term has
pub whnf_is_counted : (E : Env) (c : Context) (t T W : Term) → IsReady E c → IsInferred E c t T → WeakSteps E (values c) T W → IsCounted E W
whnf_is_counted E c t T W h i s = steps_counted E h.env.declarations (values_counted E c h.context) s i.classifier

-- the family at parameters and the indices of a type
pub asked_counted : (E : Env) (f : FamilyId) (ps : List Term) (n : ℕ) (W : Term) → AreCounted E ps → IsCounted E W → IsCounted E (apply (Ind f) (ps ++ drop n (args W)))
asked_counted E f ps n W h k =
    apply_counted E (Ind f) (ps ++ drop n (args W)) (ind_counted E f) (appended_counted E ps (drop n (args W)) h (dropped_counted E n (args W) (args_counted E W k)))

-- the branches, from one on

module _ (E : Env) (inf : Typing) (cmp : Comparison) (c : Context) (f : FamilyId) (ps : List Term) (ret : Term) (Cs : List Constructor) (bs : List Branch) where
  abbrev pub branches_from : ℕ → Act
  branches_from i u = branches_rule E inf cmp c f i (drop i Cs) ps ret (list_of (arms_of (drop i bs))) u

  module _ (i : ℕ) (C : Constructor) (b : Branch) (l : i < length Cs) (k : i < length bs) (e : C ≡ get_or Cs i C) (p : b ≡ get_or bs i b) where
    branches_here : (u : Account) → branches_from i u ≡ bind (branch_rule E inf cmp c f i C ps ret b.body u) (λ _ v. branches_from (i + 1) v)
    unfolding branches_rule
    branches_here u =
        let at : branches_from i u ≡ branches_rule E inf cmp c f i (C ∷ drop (i + 1) Cs) ps ret (b.body ∷ list_of (arms_of (drop (i + 1) bs))) u =
        ap (λ Ds. branches_rule E inf cmp c f i Ds ps ret (list_of (arms_of (drop i bs))) u) (next_is Cs i C l e)
        ∙ ap (λ xs. branches_rule E inf cmp c f i (C ∷ drop (i + 1) Cs) ps ret (list_of (arms_of xs)) u) (next_is bs i b k p) in
        let n : suc i ≡ i + 1 = omega arith in
        at ∙ ap (λ j. bind (branch_rule E inf cmp c f i C ps ret b.body u) (λ _ v. branches_rule E inf cmp c f j (drop (i + 1) Cs) ps ret (list_of (arms_of (drop (i + 1) bs))) v)) n

    pub branches_next : (r : Result (Unit {0}) Halt) (m0 m1 m2 : Meter) → Follows (branch_rule E inf cmp c f i C ps ret b.body m0.account) (Ok tt) m0 m1 →
        Follows (branches_from (i + 1) m1.account) r m1 m2 → Follows (branches_from i m0.account) r m0 m2
    branches_next r m0 m1 m2 g h =
        subst (λ x. Follows x r m0 m2) (sym (branches_here m0.account))
        (follows_bind (branch_rule E inf cmp c f i C ps ret b.body m0.account) (λ _ v. branches_from (i + 1) v) tt r m0 m1 m2 g h)

    pub branches_stop : FairTyping 0 0 inf → FairComparison 0 0 cmp → (h : Halt) (m0 m1 : Meter) → Follows (branch_rule E inf cmp c f i C ps ret b.body m0.account) (Err h) m0 m1 →
        Follows (branches_from i m0.account) (Err h) m0 m1
    branches_stop x y h m0 m1 g =
        subst (λ x. Follows x (Err h) m0 m1) (sym (branches_here m0.account))
        (follows_err (branch_rule E inf cmp c f i C ps ret b.body m0.account) (λ _ v. branches_from (i + 1) v) h m0 m1 g (search (leaving, x, y)))

  no_branches : (i : ℕ) (Ds : List Constructor) (u : Account) → branches_rule E inf cmp c f i Ds ps ret [] u ≡ done tt u
  unfolding branches_rule
  no_branches i [] u = refl
  no_branches i (D ∷ Ds) u = refl

  branches_short : (i : ℕ) (u : Account) → (length Cs ≤ i) ⊎ (length bs ≤ i) → branches_from i u ≡ done tt u
  unfolding branches_rule
  branches_short i u (inl h) = ap (λ Ds. branches_rule E inf cmp c f i Ds ps ret (list_of (arms_of (drop i bs))) u) (none_left Cs i h)
  branches_short i u (inr h) = ap (λ xs. branches_rule E inf cmp c f i (drop i Cs) ps ret (list_of (arms_of xs)) u) (none_left bs i h) ∙ no_branches i (drop i Cs) u

  pub branches_end : (i : ℕ) (m : Meter) → min (length Cs) (length bs) ≤ i → Follows (branches_from i m.account) (Ok tt) m m
  branches_end i m h =
      subst (λ x. Follows x (Ok tt) m m) (sym (branches_short i m.account (min_either (length Cs) (length bs) i h))) (follows_done tt m)

-- what comes after a part of a scrutinee's rule never goes back on units

module _ (E : Env) (inf : Typing) (cmp : Comparison) (c : Context) (f : FamilyId) (F : FamilyDecl) (ps : List Term) where
  abbrev indices_in : Term → List Term
  indices_in W = drop (length F.parameters) (args W)

  abbrev after_asked : Term → Term → Account → Run (List Term)
  after_asked W S z = bind (scrutinee_fits E inf cmp c W S z) (λ _ r. done (indices_in W) r)

  abbrev after_retype : Term → Unit {0} → Account → Run (List Term)
  after_retype W _ y = bind (make (apply (Ind f) (ps ++ indices_in W)) y) (after_asked W)

  abbrev after_found : Term → Term → Unit {0} → Account → Run (List Term)
  after_found T W _ x = bind (retype E inf c T W x) (after_retype W)

  abbrev after_whnf : Term → Term → Account → Run (List Term)
  after_whnf T W w = bind (found_family f F W w) (after_found T W)

  abbrev after_type : Term → Account → Run (List Term)
  after_type T v = bind (whnf E (values c) T v) (after_whnf T)

  module _ (h : FairTyping 0 0 inf) (g : FairComparison 0 0 cmp) where
    pub asked_over : (W S : Term) (z : Account) → Leaves (after_asked W S z).end z.left
    asked_over W S z = leaves_bind (scrutinee_fits E inf cmp c W S z) (λ _ r. done (indices_in W) r) z.left (search (leaving, h, comparison_leaves cmp g)) (λ _ r. same_left r)

    pub retype_over : (W : Term) (x : Unit {0}) (y : Account) → Leaves (after_retype W x y).end y.left
    retype_over W x y = leaves_bind (make (apply (Ind f) (ps ++ indices_in W)) y) (after_asked W) y.left (same_left y) (asked_over W)

    pub found_over : (T W : Term) (z : Unit {0}) (x : Account) → Leaves (after_found T W z x).end x.left
    found_over T W z x = leaves_bind (retype E inf c T W x) (after_retype W) x.left (retype_leaves E inf h c T W x) (retype_over W)

    pub whnf_over : (T W : Term) (w : Account) → Leaves (after_whnf T W w).end w.left
    whnf_over T W w = leaves_bind (found_family f F W w) (after_found T W) w.left (search leaving) (found_over T W)

    pub type_over : (T : Term) (v : Account) → Leaves (after_type T v).end v.left
    type_over T v = leaves_bind (whnf E (values c) T v) (after_whnf T) v.left (search leaving) (whnf_over T)

-- the whole rule, by the block that is kept
module _ (x : Match) (E : Env) (inf : Typing) (cmp : Comparison) (c : Context) where
  abbrev whole : Account → Run Term
  whole u = case_rule E inf cmp c x.family (terms_of x.params) x.binders x.ret x.scrut (arms_of x.branches) u

  abbrev after_branches : List Term → Unit {0} → Account → Run Term
  after_branches is _ r = make (predicate_at x.ret is x.scrut) r

  abbrev after_scrutinee : FamilyDecl → List Term → List Term → Account → Run Term
  after_scrutinee F ps is z = bind (branches_rule E inf cmp c x.family 0 F.constructors ps x.ret (list_of (arms_of x.branches)) z) (after_branches is)

  abbrev after_predicate : FamilyDecl → List Term → Unit {0} → Account → Run Term
  after_predicate F ps _ y = bind (scrutinee_rule E inf cmp c x.family F ps x.scrut y) (after_scrutinee F ps)

  abbrev after_parameters : Option Block → FamilyDecl → List Term → Unit {0} → Account → Run Term
  after_parameters o F ps _ w = bind (predicate_rule E inf c o x.family F ps x.ret w) (after_predicate F ps)

  abbrev after_counts : Option Block → FamilyDecl → List Term → Unit {0} → Account → Run Term
  after_counts o F ps _ w = bind (check_all E inf cmp c Rel ps F.parameters w) (after_parameters o F ps)

  abbrev after_family : Option Block → List Term → FamilyDecl → Account → Run Term
  after_family o ps F v = bind (match_counted F (terms_of x.params) x.binders (arms_of x.branches) v) (after_counts o F ps)

  abbrev kept_block : Option Block
  kept_block = whole_block (kept_at E.declarations x.family.block)

  -- from the family on
  pub case_goes : {B : Block} {F : FamilyDecl} {r : Result Term Halt} {m0 m1 : Meter} → kept_block ≡ Some B → Answers (find_family x.family kept_block m0.account) (Ok F) m0.account →
      Follows (after_family (Some B) x.params F m0.account) r m0 m1 → Follows (whole m0.account) r m0 m1
  case_goes {F = F} {r = r} {m0 = m0} {m1 = m1} e k h =
      let h1 : Follows (after_family kept_block x.params F m0.account) r m0 m1 = subst (λ o. Follows (after_family o x.params F m0.account) r m0 m1) (sym e) h in
      let h2 : Follows (after_family kept_block (list_of (terms_of x.params)) F m0.account) r m0 m1 =
      subst (λ qs. Follows (after_family kept_block qs F m0.account) r m0 m1) (sym (listed x.params)) h1 in
      and_then (after_family kept_block (list_of (terms_of x.params))) (still k (search leaving)) h2

  module _ (f : FairTyping 0 0 inf) (g : FairComparison 0 0 cmp) where
    -- what comes after a part never goes back on units
    scrutinee_over : (F : FamilyDecl) (ps is : List Term) (u : Account) → Leaves (after_scrutinee F ps is u).end u.left
    scrutinee_over F ps is u = search (leaving, f, g)

    scrutinee_leaves : (F : FamilyDecl) (ps : List Term) (u : Account) → Leaves (scrutinee_rule E inf cmp c x.family F ps x.scrut u).end u.left
    scrutinee_leaves F ps u = leaves_bind (inf c x.scrut u) (after_type E inf cmp c x.family F ps) u.left (typing_leaves inf f c x.scrut u) (type_over E inf cmp c x.family F ps f g)

    predicate_over : (F : FamilyDecl) (ps : List Term) (y : Unit {0}) (u : Account) → Leaves (after_predicate F ps y u).end u.left
    predicate_over F ps y u = leaves_bind (scrutinee_rule E inf cmp c x.family F ps x.scrut u) (after_scrutinee F ps) u.left (scrutinee_leaves F ps u) (scrutinee_over F ps)

    predicate_leaves : (o : Option Block) (F : FamilyDecl) (ps : List Term) (u : Account) → Leaves (predicate_rule E inf c o x.family F ps x.ret u).end u.left
    predicate_leaves o F ps u = search (leaving, f)

    parameters_over : (o : Option Block) (F : FamilyDecl) (ps : List Term) (y : Unit {0}) (u : Account) → Leaves (after_parameters o F ps y u).end u.left
    parameters_over o F ps y u = leaves_bind (predicate_rule E inf c o x.family F ps x.ret u) (after_predicate F ps) u.left (predicate_leaves o F ps u) (predicate_over F ps)

    counts_over : (o : Option Block) (F : FamilyDecl) (ps : List Term) (y : Unit {0}) (u : Account) → Leaves (after_counts o F ps y u).end u.left
    counts_over o F ps y u =
        leaves_bind (check_all E inf cmp c Rel ps F.parameters u) (after_parameters o F ps) u.left (check_all_leaves E inf cmp f g c Rel ps F.parameters u) (parameters_over o F ps)

    pub case_unknown : {h : Halt} {m : Meter} → Halts (find_family x.family kept_block m.account) h m.account → Follows (whole m.account) (Err h) m m
    case_unknown {h = h} {m = m} k =
        follows_still (whole m.account) (Err h) m (answers_err (find_family x.family kept_block m.account) (after_family kept_block (list_of (terms_of x.params))) m.account h k)
        (rule_leaves E inf cmp f g c (Case x.family (terms_of x.params) x.binders x.ret x.scrut (arms_of x.branches)) m.account)

    -- from the family on, where a part halts
    pub case_counts : {B : Block} {F : FamilyDecl} {h : Halt} {m0 m1 : Meter} → kept_block ≡ Some B → Answers (find_family x.family kept_block m0.account) (Ok F) m0.account →
        Follows (match_counted F (terms_of x.params) x.binders (arms_of x.branches) m0.account) (Err h) m0 m1 → Follows (whole m0.account) (Err h) m0 m1
    case_counts {B = B} {F = F} e k p = case_goes e k (halts (after_counts (Some B) F x.params) p (counts_over (Some B) F x.params))

    pub case_parameters : {B : Block} {F : FamilyDecl} {h : Halt} {m0 m1 m2 : Meter} → kept_block ≡ Some B → Answers (find_family x.family kept_block m0.account) (Ok F) m0.account →
        Follows (match_counted F (terms_of x.params) x.binders (arms_of x.branches) m0.account) (Ok tt) m0 m1 →
        Follows (check_all E inf cmp c Rel x.params F.parameters m1.account) (Err h) m1 m2 → Follows (whole m0.account) (Err h) m0 m2
    case_parameters {B = B} {F = F} e k p q =
        case_goes e k (and_then (after_counts (Some B) F x.params) p (halts (after_parameters (Some B) F x.params) q (parameters_over (Some B) F x.params)))

    pub case_predicate : {B : Block} {F : FamilyDecl} {h : Halt} {m0 m1 m2 m3 : Meter} → kept_block ≡ Some B → Answers (find_family x.family kept_block m0.account) (Ok F) m0.account →
        Follows (match_counted F (terms_of x.params) x.binders (arms_of x.branches) m0.account) (Ok tt) m0 m1 →
        Follows (check_all E inf cmp c Rel x.params F.parameters m1.account) (Ok tt) m1 m2 → Follows (predicate_rule E inf c (Some B) x.family F x.params x.ret m2.account) (Err h) m2 m3 → Follows (whole m0.account) (Err h) m0 m3
    case_predicate {B = B} {F = F} e k p q r =
        case_goes e k (and_then (after_counts (Some B) F x.params) p (and_then (after_parameters (Some B) F x.params) q (halts (after_predicate F x.params) r (predicate_over F x.params))))

    pub case_indices : {B : Block} {F : FamilyDecl} {h : Halt} {m0 m1 m2 m3 m4 : Meter} → kept_block ≡ Some B → Answers (find_family x.family kept_block m0.account) (Ok F) m0.account →
        Follows (match_counted F (terms_of x.params) x.binders (arms_of x.branches) m0.account) (Ok tt) m0 m1 →
        Follows (check_all E inf cmp c Rel x.params F.parameters m1.account) (Ok tt) m1 m2 → Follows (predicate_rule E inf c (Some B) x.family F x.params x.ret m2.account) (Ok tt) m2 m3 →
        Follows (scrutinee_rule E inf cmp c x.family F x.params x.scrut m3.account) (Err h) m3 m4 → Follows (whole m0.account) (Err h) m0 m4
    case_indices {B = B} {F = F} e k p q r s =
        case_goes e k (and_then (after_counts (Some B) F x.params) p (and_then (after_parameters (Some B) F x.params) q (and_then (after_predicate F x.params) r (halts (after_scrutinee F x.params) s (scrutinee_over F x.params)))))

-- the predicate at indices and a scrutinee is beyond the limits, or there is no memory for it
pub pred_fault : (ret : Term) (is : List Term) (t : Term) (f : MakeFault) (m : Meter) → (f ≡ DeepTerm → IsTrue (is_beyond (predicate_at ret is t))) →
    Follows (make (predicate_at ret is t) m.account) (Err (Stop (stop_of f))) m m
pred_fault ret is t DeepTerm m h = follows_deep (make (predicate_at ret is t) m.account) m (h refl) (same_left m.account)
pred_fault ret is t NoTerm m h = follows_memory (make (predicate_at ret is t) m.account) m (same_left m.account)
