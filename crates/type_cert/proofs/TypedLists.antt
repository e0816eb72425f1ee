-- Walks of lists, from one item on: telescopes, branches, and the definitions of a fixpoint.
use Rattle.std.proofs.Common.{◌≡◌, ◌∙◌, ◌⊎◌, inl, inr, sym, ap, refl, subst, ℕ, suc, ◌<◌, ◌≤◌, ◌+◌, min, Bool, true, false, Result, Ok, Err, List, [], ◌∷◌, ◌++◌, length, drop, get_or, Option, Some, None, arith}
use Rattle.universe_levels.specs.declared.sort.Sort.{Sort}
use Rattle.trees.specs.Measures.{IsBeyond}
use Rattle.trees.specs.Substitution.{lift}
use Rattle.trees.proofs.Cutoffs.{lift-shift}
use Rattle.pc_terms.specs.Syntax.{Term, first, put_all, substitute, shift, head, list_of}
use Rattle.pc_terms.proofs.Parts.{rargs_length}
use Rattle.pc_terms.specs.Lists.{arms_of, rargs_of, types_of, bodies_of}
use Rattle.pc_terms.specs.declared.term.Branch.{Branch}
use Rattle.pc_terms.specs.declared.term.Def.{Def}
use Rattle.pc_terms.specs.declared.term.MakeFault.{MakeFault}
use Rattle.pc_terms.specs.declared.term.MakeFault.TheVariants.{TooDeep as DeepTerm}
use Rattle.calculus_rules.specs.declared.declaration.Constructor.{Constructor}
use Rattle.calculus_rules.specs.declared.entry.Entry.TheVariants.{Assumed}
use Rattle.pc_terms.specs.declared.leaf.FamilyId.{FamilyId}
use Rattle.calculus_rules.specs.Environment.{Env}
use Rattle.calculus_rules.specs.Context.{Context, values}
use Rattle.pc_rules.specs.Stops.{stop_of}
use Rattle.pc_rules.specs.DirectedRun.{make}
use Rattle.pc_rules.specs.DirectedTyping.{recursive_domain, enough_abstractions, is_a_family}
use Rattle.pc_rules.proofs.ListSteps.{next_is, none_left, min_either}
use Rattle.cert_rules.specs.Walk.{Items, WalkState, Walk, WalkAct, pass, walk_on, by_rules}
use Rattle.cert_rules.specs.WalkSteps.{reduced}
use Rattle.cert_rules.specs.Scripts.{Script}
use Rattle.cert_rules.specs.WalkTyping.{Walking, walk_sort_of, walk_sorts_of, walk_check, walk_check_all, walk_branch, walk_branches, walk_types, walk_family_found, walk_definition, walk_definitions}
use Rattle.type_cert.specs.declared.halt.WalkHalt.{WalkHalt}
use Rattle.type_cert.specs.declared.halt.WalkHalt.TheVariants as walks
use Rattle.type_cert.specs.declared.trail.Trail.{Trail}
use Rattle.type_cert.specs.Retraces.{stand, Retraces}
use Rattle.type_cert.proofs.Retracing.{retraces_on, retraces_err, retraces_pass, retraces_bar, retraces_then, retraces_else, retraces_made, retraces_fault, walk_assoc, pass_on}
use Rattle.calculus_rules.proofs.Spines.{put_more}

-- the entries of a telescope

module _ (cert : Items) (E : Env) (inf : Walking) where
  abbrev entering : Context → List Term → WalkAct
  entering c As s = walk_on (walk_sorts_of cert E inf c As s) (λ _ w. pass tt w)

  entered_cons : (c : Context) (A : Term) (As : List Term) (s : WalkState) → entering c (A ∷ As) s ≡ walk_on (walk_sort_of cert E inf c A s) (λ _ v. entering (Assumed A ∷ c) As v)
  unfolding walk_sorts_of
  entered_cons c A As s =
      let more : Sort → List Sort → WalkState → Walk (List Sort) = λ x xs w. pass (x ∷ xs) w in
      let end : List Sort → WalkState → Walk (Unit {0}) = λ _ w. pass tt w in
      let all : WalkState → Walk (List Sort) = λ v. walk_sorts_of cert E inf (Assumed A ∷ c) As v in
      let inner : (x : Sort) (v : WalkState) → walk_on (walk_on (all v) (more x)) end ≡ entering (Assumed A ∷ c) As v =
      λ x v. walk_assoc (more x) end (all v) ∙ (λ i. walk_on (all v) (λ xs w. pass_on (x ∷ xs) w end i)) in
      walk_assoc (λ x v. walk_on (all v) (more x)) end (walk_sort_of cert E inf c A s) ∙ (λ i. walk_on (walk_sort_of cert E inf c A s) (λ x v. inner x v i))

  entered_nil : (c : Context) (s : WalkState) → entering c [] s ≡ pass tt s
  unfolding walk_sorts_of
  entered_nil c s = pass_on [] s (λ _ w. pass tt w)

  module _ (c : Context) (As : List Term) (i : ℕ) where
    pub entered_end : (t : Trail) → length As ≤ i → Retraces (entering c (drop i As) (stand t)) (Ok tt) t t
    entered_end t l = rw (none_left As i l, entered_nil c (stand t)) (retraces_pass tt t)

    module _ (A : Term) (l : i < length As) (e : A ≡ get_or As i A) where
      pub entered_next : (s : Sort) (r : Result (Unit {0}) WalkHalt) (t0 t1 t2 : Trail) → Retraces (walk_sort_of cert E inf c A (stand t0)) (Ok s) t0 t1 →
          Retraces (entering (Assumed A ∷ c) (drop (i + 1) As) (stand t1)) r t1 t2 → Retraces (entering c (drop i As) (stand t0)) r t0 t2
      entered_next s r t0 t1 t2 f g =
          rw (next_is As i A l e, entered_cons c A (drop (i + 1) As) (stand t0)) (retraces_on (λ _ v. entering (Assumed A ∷ c) (drop (i + 1) As) v) f g)

      pub entered_stop : (h : WalkHalt) (t0 t1 : Trail) → Retraces (walk_sort_of cert E inf c A (stand t0)) (Err h) t0 t1 → Retraces (entering c (drop i As) (stand t0)) (Err h) t0 t1
      entered_stop h t0 t1 f =
          rw (next_is As i A l e, entered_cons c A (drop (i + 1) As) (stand t0)) (retraces_err (λ _ v. entering (Assumed A ∷ c) (drop (i + 1) As) v) f)

-- terms against a telescope, from term i on, where those before it are put in

module _ (cert : Items) (E : Env) (inf : Walking) (cmp : Script) (c : Context) (s0 : ℕ → Term) (ts As : List Term) where
  abbrev pub all_from : List Term → ℕ → WalkAct
  all_from before i u = walk_check_all cert E inf cmp c (put_all before s0) (drop i ts) (drop i As) u

  module _ (before : List Term) (i : ℕ) (t A : Term) (l : i < length ts) (k : i < length As) (e : t ≡ get_or ts i t) (p : A ≡ get_or As i A) where
    abbrev S : Term
    S = substitute (put_all before s0) A

    abbrev after_type : Term → WalkState → Walk (Unit {0})
    after_type T v = walk_on (walk_check cert E inf cmp c t T v) (λ _ w. walk_check_all cert E inf cmp c (first t (put_all before s0)) (drop (i + 1) ts) (drop (i + 1) As) w)

    all_is : (u : WalkState) → all_from before i u ≡ walk_on (by_rules (make S) u) after_type
    unfolding walk_check_all
    all_is u = rw (next_is ts i t l e, next_is As i A k p) refl

    pub all_next : (T : Term) (after : List Term) (r : Result (Unit {0}) WalkHalt) (t0 t1 t2 : Trail) → T ≡ S → after ≡ before ++ (t ∷ []) →
        Retraces (walk_check cert E inf cmp c t T (stand t0)) (Ok tt) t0 t1 → Retraces (all_from after (i + 1) (stand t1)) r t1 t2 → Retraces (all_from before i (stand t0)) r t0 t2
    all_next T after r t0 t1 t2 q a f g =
        let g' : Retraces (walk_check_all cert E inf cmp c (first t (put_all before s0)) (drop (i + 1) ts) (drop (i + 1) As) (stand t1)) r t1 t2 =
        subst (λ z. Retraces (walk_check_all cert E inf cmp c z (drop (i + 1) ts) (drop (i + 1) As) (stand t1)) r t1 t2) (ap (λ xs. put_all xs s0) a ∙ put_more before t s0) g in
        rw (all_is (stand t0)) (retraces_on after_type (retraces_made S T t0 q) (retraces_on _ f g'))

    pub all_stop : (T : Term) (h : WalkHalt) (t0 t1 : Trail) → T ≡ S → Retraces (walk_check cert E inf cmp c t T (stand t0)) (Err h) t0 t1 →
        Retraces (all_from before i (stand t0)) (Err h) t0 t1
    all_stop T h t0 t1 q f = rw (all_is (stand t0)) (retraces_on after_type (retraces_made S T t0 q) (retraces_err _ f))

    pub all_fault : (f : MakeFault) (u : Trail) → (f ≡ DeepTerm → IsBeyond S) → Retraces (all_from before i (stand u)) (Err (walks.Stop (stop_of f))) u u
    all_fault f u h = rw (all_is (stand u)) (retraces_err after_type (retraces_fault S f u h))

  pub all_end : (before : List Term) (i : ℕ) (u : Trail) → length ts ≤ i → Retraces (all_from before i (stand u)) (Ok tt) u u
  unfolding walk_check_all
  all_end before i u l = rw (none_left ts i l) (retraces_pass tt u)

-- the branches, from one on

module _ (cert : Items) (E : Env) (inf : Walking) (cmp : Script) (c : Context) (f : FamilyId) (ps : List Term) (ret : Term) (Cs : List Constructor) (bs : List Branch) where
  abbrev pub branches_from : ℕ → WalkAct
  branches_from i u = walk_branches cert E inf cmp c f i (drop i Cs) ps ret (list_of (arms_of (drop i bs))) u

  module _ (i : ℕ) (C : Constructor) (b : Branch) (l : i < length Cs) (k : i < length bs) (e : C ≡ get_or Cs i C) (p : b ≡ get_or bs i b) where
    branches_here : (u : WalkState) → branches_from i u ≡ walk_on (walk_branch cert E inf cmp c f i C ps ret b.body u) (λ _ v. branches_from (i + 1) v)
    unfolding walk_branches
    branches_here u =
        let n : suc i ≡ i + 1 = omega arith in
        rw (next_is Cs i C l e, next_is bs i b k p)
        (ap (λ j. walk_on (walk_branch cert E inf cmp c f i C ps ret b.body u) (λ _ v. walk_branches cert E inf cmp c f j (drop (i + 1) Cs) ps ret (list_of (arms_of (drop (i + 1) bs))) v)) n)

    pub branches_next : (r : Result (Unit {0}) WalkHalt) (t0 t1 t2 : Trail) → Retraces (walk_branch cert E inf cmp c f i C ps ret b.body (stand t0)) (Ok tt) t0 t1 →
        Retraces (branches_from (i + 1) (stand t1)) r t1 t2 → Retraces (branches_from i (stand t0)) r t0 t2
    branches_next r t0 t1 t2 g h = rw (branches_here (stand t0)) (retraces_on (λ _ v. branches_from (i + 1) v) g h)

    pub branches_stop : (h : WalkHalt) (t0 t1 : Trail) → Retraces (walk_branch cert E inf cmp c f i C ps ret b.body (stand t0)) (Err h) t0 t1 →
        Retraces (branches_from i (stand t0)) (Err h) t0 t1
    branches_stop h t0 t1 g = rw (branches_here (stand t0)) (retraces_err (λ _ v. branches_from (i + 1) v) g)

  no_branches : (i : ℕ) (Ds : List Constructor) (u : WalkState) → walk_branches cert E inf cmp c f i Ds ps ret [] u ≡ pass tt u
  unfolding walk_branches
  no_branches i [] u = refl
  no_branches i (D ∷ Ds) u = refl

  branches_short : (i : ℕ) (u : WalkState) → (length Cs ≤ i) ⊎ (length bs ≤ i) → branches_from i u ≡ pass tt u
  unfolding walk_branches
  branches_short i u (inl h) = rw (none_left Cs i h) refl
  branches_short i u (inr h) = ap (λ xs. walk_branches cert E inf cmp c f i (drop i Cs) ps ret (list_of (arms_of xs)) u) (none_left bs i h) ∙ no_branches i (drop i Cs) u

  pub branches_end : (i : ℕ) (t : Trail) → min (length Cs) (length bs) ≤ i → Retraces (branches_from i (stand t)) (Ok tt) t t
  branches_end i t h = rw (branches_short i (stand t) (min_either (length Cs) (length bs) i h)) (retraces_pass tt t)

-- the types of a fixpoint's definitions

module _ (cert : Items) (E : Env) (inf : Walking) (c : Context) (ds : List Def) (i : ℕ) where
  abbrev types_from : WalkAct
  types_from u = walk_types cert E inf c i (list_of (types_of (drop i ds))) u

  pub types_done : (t : Trail) → length ds ≤ i → Retraces (types_from (stand t)) (Ok tt) t t
  unfolding walk_types
  types_done t h = rw (none_left ds i h) (retraces_pass tt t)

  module _ (d : Def) (h : i < length ds) (e : d ≡ get_or ds i d) where
    abbrev after_lift : Term → WalkState → Walk (Unit {0})
    after_lift S v = walk_on (walk_sort_of cert E inf c S v) (λ _ w. walk_types cert E inf (Assumed S ∷ c) (i + 1) (list_of (types_of (drop (i + 1) ds))) w)

    types_is : (u : WalkState) → types_from u ≡ walk_on (by_rules (make (shift i 0 d.ty)) u) after_lift
    unfolding walk_types
    types_is u =
        let n : suc i ≡ i + 1 = omega arith in
        rw (next_is ds i d h e)
        (ap (λ j. walk_on (by_rules (make (shift i 0 d.ty)) u) (λ S v. walk_on (walk_sort_of cert E inf c S v) (λ _ w. walk_types cert E inf (Assumed S ∷ c) j (list_of (types_of (drop (i + 1) ds))) w))) n)

    pub types_next : (S : Term) (s : Sort) (r : Result (Unit {0}) WalkHalt) (t0 t1 t2 : Trail) → S ≡ shift i 0 d.ty → Retraces (walk_sort_of cert E inf c S (stand t0)) (Ok s) t0 t1 →
        Retraces (walk_types cert E inf (Assumed S ∷ c) (i + 1) (list_of (types_of (drop (i + 1) ds))) (stand t1)) r t1 t2 → Retraces (types_from (stand t0)) r t0 t2
    types_next S s r t0 t1 t2 p f g = rw (types_is (stand t0)) (retraces_on after_lift (retraces_made (shift i 0 d.ty) S t0 p) (retraces_on _ f g))

    pub types_stop : (S : Term) (x : WalkHalt) (t0 t1 : Trail) → S ≡ shift i 0 d.ty → Retraces (walk_sort_of cert E inf c S (stand t0)) (Err x) t0 t1 →
        Retraces (types_from (stand t0)) (Err x) t0 t1
    types_stop S x t0 t1 p f = rw (types_is (stand t0)) (retraces_on after_lift (retraces_made (shift i 0 d.ty) S t0 p) (retraces_err _ f))

    pub types_fault : (f : MakeFault) (t : Trail) → (f ≡ DeepTerm → IsBeyond (lift i 0 d.ty)) → Retraces (types_from (stand t)) (Err (walks.Stop (stop_of f))) t t
    types_fault f t p = rw (types_is (stand t)) (retraces_err after_lift (retraces_fault (shift i 0 d.ty) f t (λ q. subst (λ X. IsBeyond X) (lift-shift i 0 d.ty) (p q))))

-- the definitions

module _ (cert : Items) (E : Env) (inf : Walking) (cmp : Script) (c : Context) (n : ℕ) (ds : List Def) (i : ℕ) where
  abbrev pub definitions_from : ℕ → WalkAct
  definitions_from j u = walk_definitions cert E inf cmp c n j (rargs_of (drop j ds)) (list_of (types_of (drop j ds))) (list_of (bodies_of n (drop j ds))) u

  pub definitions_end : (t : Trail) → length ds ≤ i → Retraces (definitions_from i (stand t)) (Ok tt) t t
  unfolding walk_definitions
  definitions_end t h = rw (none_left ds i h) (retraces_pass tt t)

  module _ (d : Def) (h : i < length ds) (e : d ≡ get_or ds i d) where
    definitions_is : (u : WalkState) → definitions_from i u ≡ walk_on (walk_definition cert E inf cmp c n i d.rarg d.ty d.body u) (λ _ v. definitions_from (i + 1) v)
    unfolding walk_definitions
    definitions_is u =
        let m : suc i ≡ i + 1 = omega arith in
        rw (next_is ds i d h e)
        (ap (λ j. walk_on (walk_definition cert E inf cmp c n i d.rarg d.ty d.body u)
        (λ _ v. walk_definitions cert E inf cmp c n j (rargs_of (drop (i + 1) ds)) (list_of (types_of (drop (i + 1) ds))) (list_of (bodies_of n (drop (i + 1) ds))) v)) m)

    pub definitions_go : (r : Result (Unit {0}) WalkHalt) (t0 t1 t2 : Trail) → Retraces (walk_definition cert E inf cmp c n i d.rarg d.ty d.body (stand t0)) (Ok tt) t0 t1 →
        Retraces (definitions_from (i + 1) (stand t1)) r t1 t2 → Retraces (definitions_from i (stand t0)) r t0 t2
    definitions_go r t0 t1 t2 f g = rw (definitions_is (stand t0)) (retraces_on (λ _ v. definitions_from (i + 1) v) f g)

    pub definitions_stop : (x : WalkHalt) (t0 t1 : Trail) → Retraces (walk_definition cert E inf cmp c n i d.rarg d.ty d.body (stand t0)) (Err x) t0 t1 →
        Retraces (definitions_from i (stand t0)) (Err x) t0 t1
    definitions_stop x t0 t1 f = rw (definitions_is (stand t0)) (retraces_err (λ _ v. definitions_from (i + 1) v) f)

-- all of them, of which there are as many as recursive arguments
pub all_definitions : (cert : Items) (E : Env) (inf : Walking) (cmp : Script) (c : Context) (ds : List Def) {r : Result (Unit {0}) WalkHalt} {t0 t1 : Trail} →
    Retraces (walk_definitions cert E inf cmp c (length ds) 0 (rargs_of ds) (list_of (types_of ds)) (list_of (bodies_of (length ds) ds)) (stand t0)) r t0 t1 →
    Retraces (walk_definitions cert E inf cmp c (length (rargs_of ds)) 0 (rargs_of ds) (list_of (types_of ds)) (list_of (bodies_of (length ds) ds)) (stand t0)) r t0 t1
all_definitions cert E inf cmp c ds {r = r} {t0 = t0} {t1 = t1} p =
    subst (λ n. Retraces (walk_definitions cert E inf cmp c n 0 (rargs_of ds) (list_of (types_of ds)) (list_of (bodies_of (length ds) ds)) (stand t0)) r t0 t1) (sym (rargs_length ds)) p

-- one definition

module _ (cert : Items) (E : Env) (inf : Walking) (cmp : Script) (c : Context) (n d : ℕ) (D : Def) where
  abbrev after_domain : Context × Term → WalkState → Walk (Unit {0})
  after_domain p v =
      walk_on (by_rules (make (shift n 0 D.ty)) v) (λ S w.
      walk_on (walk_check cert E inf cmp c D.body S w) (λ _ x. walk_on (reduced cert E (values p.0) p.1 x) (λ r y. walk_family_found r.item r.term y)))

  few_at : (o : Option (Context × Term)) (t : Trail) → o ≡ None → Retraces (by_rules (enough_abstractions d o) (stand t)) (Err (walks.Barred t.at)) t t
  unfolding by_rules
  few_at o t e = rw e (retraces_bar t.at t)

  pub few_lambdas : {t : Trail} → recursive_domain c D.rarg D.body ≡ None → Retraces (walk_definition cert E inf cmp c n d D.rarg D.ty D.body (stand t)) (Err (walks.Barred t.at)) t t
  few_lambdas {t = t} e = retraces_err after_domain (few_at (recursive_domain c D.rarg D.body) t e)

  enough_at : (o : Option (Context × Term)) (q : Context × Term) (t : Trail) → o ≡ Some q → Retraces (by_rules (enough_abstractions d o) (stand t)) (Ok q) t t
  unfolding by_rules
  enough_at o q t e = rw e (retraces_pass q t)

  pub lambdas_found : {q : Context × Term} {r : Result (Unit {0}) WalkHalt} {t0 t1 : Trail} → recursive_domain c D.rarg D.body ≡ Some q → Retraces (after_domain q (stand t0)) r t0 t1 →
      Retraces (walk_definition cert E inf cmp c n d D.rarg D.ty D.body (stand t0)) r t0 t1
  lambdas_found {q = q} {t0 = t0} e f = retraces_on after_domain (enough_at (recursive_domain c D.rarg D.body) q t0 e) f

pub is_family : (i : ℕ) (W : Term) (b : Bool) (t : Trail) → b ≡ is_a_family (head W) → b ≡ true → Retraces (walk_family_found i W (stand t)) (Ok tt) t t
is_family i W b t e p = retraces_then (is_a_family (head W)) _ _ _ t t (sym e ∙ p) (retraces_pass tt t)

pub no_family_found : (i : ℕ) (W : Term) (b : Bool) (t : Trail) → b ≡ is_a_family (head W) → b ≡ false → Retraces (walk_family_found i W (stand t)) (Err (walks.Barred i)) t t
no_family_found i W b t e p = retraces_else (is_a_family (head W)) _ _ _ t t (sym e ∙ p) (retraces_bar i t)
