-- Lists, from one item on: telescopes, branches, and the definitions of a fixpoint.
use Rattle.std.proofs.Common.{◌≡◌, ◌∙◌, ◌⊎◌, inl, inr, sym, ap, refl, subst, ℕ, suc, ◌<◌, ◌≤◌, ◌+◌, min, Bool, true, false, Result, Ok, Err, List, [], ◌∷◌, ◌++◌, length, drop, get_or, Option, Some, None, arith}
use Rattle.universe_levels.specs.declared.sort.Sort.{Sort}
use Rattle.trees.specs.Measures.{IsBeyond}
use Rattle.trees.specs.Substitution.{lift}
use Rattle.trees.proofs.Cutoffs.{lift-shift}
use Rattle.pc_terms.specs.Syntax.{Term, first, put_all, substitute, shift, head, list_of}
use Rattle.pc_terms.proofs.Parts.{rargs_length}
use Rattle.pc_terms.specs.Lists.{arms_of, rargs_of, types_of, bodies_of}
use Rattle.pc_terms.specs.declared.leaf.FamilyId.{FamilyId}
use Rattle.pc_terms.specs.declared.term.Branch.{Branch}
use Rattle.pc_terms.specs.declared.term.Def.{Def}
use Rattle.pc_terms.specs.declared.term.MakeFault.{MakeFault}
use Rattle.pc_terms.specs.declared.term.MakeFault.TheVariants.{TooDeep as DeepTerm}
use Rattle.calculus_rules.specs.declared.declaration.Constructor.{Constructor}
use Rattle.calculus_rules.specs.declared.entry.Entry.TheVariants.{Assumed}
use Rattle.calculus_rules.specs.Environment.{Env}
use Rattle.calculus_rules.specs.Context.{Context, values}
use Rattle.pc_rules.specs.declared.broken.Broken.TheVariants.{NotEnoughAbstractions, RecArgNotInductive}
use Rattle.pc_rules.specs.declared.meter.Account.{Account}
use Rattle.pc_rules.specs.declared.stop.Halt.{Halt}
use Rattle.pc_rules.specs.declared.stop.Halt.TheVariants.{Stop, Broken as Refusal}
use Rattle.pc_rules.specs.Stops.{stop_of}
use Rattle.pc_rules.specs.DirectedRun.{Run, make, done}
use Rattle.pc_rules.specs.DirectedTyping.{recursive_domain, enough_abstractions, is_a_family, family_found}
use Rattle.pc_rules.proofs.ListSteps.{next_is, none_left, min_either}
use Rattle.cert_rules.specs.Writing.{Wrote, WriteAct, silent, write_on}
use Rattle.cert_rules.specs.MakingTyping.{MakeTyping, MakeComparison, make_whnf, make_sort_of, make_sorts_of, make_check, make_check_all, make_branch, make_branches, make_types, make_definition, make_definitions}
use Rattle.type_infer.proofs.Fixing.{is_family as family_is, no_family_found as no_family}
use Rattle.script_making.specs.declared.draft.Draft.{Draft}
use Rattle.script_making.specs.Makes.{Makes}
use Rattle.script_making.proofs.Making.{makes_on, makes_err, makes_done, makes_answers, makes_silent, makes_made, makes_fault}
use Rattle.type_making.proofs.Grouping.{write_assoc, done_on}
use Rattle.calculus_rules.proofs.Spines.{put_more}

-- the entries of a telescope

module _ (E : Env) (inf : MakeTyping) where
  abbrev entering : Context → List Term → WriteAct
  entering c As s = write_on (make_sorts_of E inf c As s) (λ _ w. silent (done tt) w)

  entered_cons : (c : Context) (A : Term) (As : List Term) (s : Account) → entering c (A ∷ As) s ≡ write_on (make_sort_of E inf c A s) (λ _ v. entering (Assumed A ∷ c) As v)
  unfolding make_sorts_of
  entered_cons c A As s =
      let more : Sort → List Sort → Account → Run (Wrote (List Sort)) = λ x xs w. silent (done (x ∷ xs)) w in
      let end : List Sort → Account → Run (Wrote (Unit {0})) = λ _ w. silent (done tt) w in
      let all : Account → Run (Wrote (List Sort)) = λ v. make_sorts_of E inf (Assumed A ∷ c) As v in
      let inner : (x : Sort) (v : Account) → write_on (write_on (all v) (more x)) end ≡ entering (Assumed A ∷ c) As v =
      λ x v. write_assoc (more x) end (all v) ∙ (λ i. write_on (all v) (λ xs w. done_on (x ∷ xs) w end i)) in
      write_assoc (λ x v. write_on (all v) (more x)) end (make_sort_of E inf c A s) ∙ (λ i. write_on (make_sort_of E inf c A s) (λ x v. inner x v i))

  entered_nil : (c : Context) (s : Account) → entering c [] s ≡ silent (done tt) s
  unfolding make_sorts_of
  entered_nil c s = done_on [] s (λ _ w. silent (done tt) w)

  module _ (c : Context) (As : List Term) (i : ℕ) where
    pub entered_end : (t : Draft) → length As ≤ i → Makes (entering c (drop i As) t.meter.account) (Ok tt) t t
    entered_end t l = rw (none_left As i l, entered_nil c t.meter.account) (makes_done tt t)

    module _ (A : Term) (l : i < length As) (e : A ≡ get_or As i A) where
      pub entered_next : (s : Sort) (r : Result (Unit {0}) Halt) (t0 t1 t2 : Draft) → Makes (make_sort_of E inf c A t0.meter.account) (Ok s) t0 t1 →
          Makes (entering (Assumed A ∷ c) (drop (i + 1) As) t1.meter.account) r t1 t2 → Makes (entering c (drop i As) t0.meter.account) r t0 t2
      entered_next s r t0 t1 t2 f g =
          rw (next_is As i A l e, entered_cons c A (drop (i + 1) As) t0.meter.account) (makes_on (λ _ v. entering (Assumed A ∷ c) (drop (i + 1) As) v) f g)

      pub entered_stop : (h : Halt) (t0 t1 : Draft) → Makes (make_sort_of E inf c A t0.meter.account) (Err h) t0 t1 → Makes (entering c (drop i As) t0.meter.account) (Err h) t0 t1
      entered_stop h t0 t1 f =
          rw (next_is As i A l e, entered_cons c A (drop (i + 1) As) t0.meter.account) (makes_err (λ _ v. entering (Assumed A ∷ c) (drop (i + 1) As) v) f)

-- terms against a telescope, from term i on, where those before it are put in

module _ (E : Env) (inf : MakeTyping) (cmp : MakeComparison) (c : Context) (s0 : ℕ → Term) (ts As : List Term) where
  abbrev pub all_from : List Term → ℕ → WriteAct
  all_from before i u = make_check_all E inf cmp c (put_all before s0) (drop i ts) (drop i As) u

  module _ (before : List Term) (i : ℕ) (t A : Term) (l : i < length ts) (k : i < length As) (e : t ≡ get_or ts i t) (p : A ≡ get_or As i A) where
    abbrev S : Term
    S = substitute (put_all before s0) A

    abbrev after_type : Term → Account → Run (Wrote (Unit {0}))
    after_type T v = write_on (make_check E inf cmp c t T v) (λ _ w. make_check_all E inf cmp c (first t (put_all before s0)) (drop (i + 1) ts) (drop (i + 1) As) w)

    all_is : (u : Account) → all_from before i u ≡ write_on (silent (make S) u) after_type
    unfolding make_check_all
    all_is u = rw (next_is ts i t l e, next_is As i A k p) refl

    pub all_next : (T : Term) (after : List Term) (r : Result (Unit {0}) Halt) (t0 t1 t2 : Draft) → T ≡ S → after ≡ before ++ (t ∷ []) →
        Makes (make_check E inf cmp c t T t0.meter.account) (Ok tt) t0 t1 → Makes (all_from after (i + 1) t1.meter.account) r t1 t2 → Makes (all_from before i t0.meter.account) r t0 t2
    all_next T after r t0 t1 t2 q a f g =
        let g' : Makes (make_check_all E inf cmp c (first t (put_all before s0)) (drop (i + 1) ts) (drop (i + 1) As) t1.meter.account) r t1 t2 =
        subst (λ z. Makes (make_check_all E inf cmp c z (drop (i + 1) ts) (drop (i + 1) As) t1.meter.account) r t1 t2) (ap (λ xs. put_all xs s0) a ∙ put_more before t s0) g in
        rw (all_is t0.meter.account) (makes_on after_type (makes_made S T t0 q) (makes_on _ f g'))

    pub all_stop : (T : Term) (h : Halt) (t0 t1 : Draft) → T ≡ S → Makes (make_check E inf cmp c t T t0.meter.account) (Err h) t0 t1 →
        Makes (all_from before i t0.meter.account) (Err h) t0 t1
    all_stop T h t0 t1 q f = rw (all_is t0.meter.account) (makes_on after_type (makes_made S T t0 q) (makes_err _ f))

    pub all_fault : (f : MakeFault) (u : Draft) → (f ≡ DeepTerm → IsBeyond S) → Makes (all_from before i u.meter.account) (Err (Stop (stop_of f))) u u
    all_fault f u h = rw (all_is u.meter.account) (makes_err after_type (makes_fault S f u h))

  pub all_end : (before : List Term) (i : ℕ) (u : Draft) → length ts ≤ i → Makes (all_from before i u.meter.account) (Ok tt) u u
  unfolding make_check_all
  all_end before i u l = rw (none_left ts i l) (makes_done tt u)

-- the branches, from one on

module _ (E : Env) (inf : MakeTyping) (cmp : MakeComparison) (c : Context) (f : FamilyId) (ps : List Term) (ret : Term) (Cs : List Constructor) (bs : List Branch) where
  abbrev pub branches_from : ℕ → WriteAct
  branches_from i u = make_branches E inf cmp c f i (drop i Cs) ps ret (list_of (arms_of (drop i bs))) u

  module _ (i : ℕ) (C : Constructor) (b : Branch) (l : i < length Cs) (k : i < length bs) (e : C ≡ get_or Cs i C) (p : b ≡ get_or bs i b) where
    branches_here : (u : Account) → branches_from i u ≡ write_on (make_branch E inf cmp c f i C ps ret b.body u) (λ _ v. branches_from (i + 1) v)
    unfolding make_branches
    branches_here u =
        let n : suc i ≡ i + 1 = omega arith in
        rw (next_is Cs i C l e, next_is bs i b k p)
        (ap (λ j. write_on (make_branch E inf cmp c f i C ps ret b.body u) (λ _ v. make_branches E inf cmp c f j (drop (i + 1) Cs) ps ret (list_of (arms_of (drop (i + 1) bs))) v)) n)

    pub branches_next : (r : Result (Unit {0}) Halt) (t0 t1 t2 : Draft) → Makes (make_branch E inf cmp c f i C ps ret b.body t0.meter.account) (Ok tt) t0 t1 →
        Makes (branches_from (i + 1) t1.meter.account) r t1 t2 → Makes (branches_from i t0.meter.account) r t0 t2
    branches_next r t0 t1 t2 g h = rw (branches_here t0.meter.account) (makes_on (λ _ v. branches_from (i + 1) v) g h)

    pub branches_stop : (h : Halt) (t0 t1 : Draft) → Makes (make_branch E inf cmp c f i C ps ret b.body t0.meter.account) (Err h) t0 t1 →
        Makes (branches_from i t0.meter.account) (Err h) t0 t1
    branches_stop h t0 t1 g = rw (branches_here t0.meter.account) (makes_err (λ _ v. branches_from (i + 1) v) g)

  no_branches : (i : ℕ) (Ds : List Constructor) (u : Account) → make_branches E inf cmp c f i Ds ps ret [] u ≡ silent (done tt) u
  unfolding make_branches
  no_branches i [] u = refl
  no_branches i (D ∷ Ds) u = refl

  branches_short : (i : ℕ) (u : Account) → (length Cs ≤ i) ⊎ (length bs ≤ i) → branches_from i u ≡ silent (done tt) u
  unfolding make_branches
  branches_short i u (inl h) = rw (none_left Cs i h) refl
  branches_short i u (inr h) = ap (λ xs. make_branches E inf cmp c f i (drop i Cs) ps ret (list_of (arms_of xs)) u) (none_left bs i h) ∙ no_branches i (drop i Cs) u

  pub branches_end : (i : ℕ) (t : Draft) → min (length Cs) (length bs) ≤ i → Makes (branches_from i t.meter.account) (Ok tt) t t
  branches_end i t h = rw (branches_short i t.meter.account (min_either (length Cs) (length bs) i h)) (makes_done tt t)

-- the types of a fixpoint's definitions

module _ (E : Env) (inf : MakeTyping) (c : Context) (ds : List Def) (i : ℕ) where
  abbrev types_from : WriteAct
  types_from u = make_types E inf c i (list_of (types_of (drop i ds))) u

  pub types_done : (t : Draft) → length ds ≤ i → Makes (types_from t.meter.account) (Ok tt) t t
  unfolding make_types
  types_done t h = rw (none_left ds i h) (makes_done tt t)

  module _ (d : Def) (h : i < length ds) (e : d ≡ get_or ds i d) where
    abbrev after_lift : Term → Account → Run (Wrote (Unit {0}))
    after_lift S v = write_on (make_sort_of E inf c S v) (λ _ w. make_types E inf (Assumed S ∷ c) (i + 1) (list_of (types_of (drop (i + 1) ds))) w)

    types_is : (u : Account) → types_from u ≡ write_on (silent (make (shift i 0 d.ty)) u) after_lift
    unfolding make_types
    types_is u =
        let n : suc i ≡ i + 1 = omega arith in
        rw (next_is ds i d h e)
        (ap (λ j. write_on (silent (make (shift i 0 d.ty)) u) (λ S v. write_on (make_sort_of E inf c S v) (λ _ w. make_types E inf (Assumed S ∷ c) j (list_of (types_of (drop (i + 1) ds))) w))) n)

    pub types_next : (S : Term) (s : Sort) (r : Result (Unit {0}) Halt) (t0 t1 t2 : Draft) → S ≡ shift i 0 d.ty → Makes (make_sort_of E inf c S t0.meter.account) (Ok s) t0 t1 →
        Makes (make_types E inf (Assumed S ∷ c) (i + 1) (list_of (types_of (drop (i + 1) ds))) t1.meter.account) r t1 t2 → Makes (types_from t0.meter.account) r t0 t2
    types_next S s r t0 t1 t2 p f g = rw (types_is t0.meter.account) (makes_on after_lift (makes_made (shift i 0 d.ty) S t0 p) (makes_on _ f g))

    pub types_stop : (S : Term) (x : Halt) (t0 t1 : Draft) → S ≡ shift i 0 d.ty → Makes (make_sort_of E inf c S t0.meter.account) (Err x) t0 t1 →
        Makes (types_from t0.meter.account) (Err x) t0 t1
    types_stop S x t0 t1 p f = rw (types_is t0.meter.account) (makes_on after_lift (makes_made (shift i 0 d.ty) S t0 p) (makes_err _ f))

    pub types_fault : (f : MakeFault) (t : Draft) → (f ≡ DeepTerm → IsBeyond (lift i 0 d.ty)) → Makes (types_from t.meter.account) (Err (Stop (stop_of f))) t t
    types_fault f t p = rw (types_is t.meter.account) (makes_err after_lift (makes_fault (shift i 0 d.ty) f t (λ q. subst (λ X. IsBeyond X) (lift-shift i 0 d.ty) (p q))))

-- the definitions

module _ (E : Env) (inf : MakeTyping) (cmp : MakeComparison) (c : Context) (n : ℕ) (ds : List Def) (i : ℕ) where
  abbrev pub definitions_from : ℕ → WriteAct
  definitions_from j u = make_definitions E inf cmp c n j (rargs_of (drop j ds)) (list_of (types_of (drop j ds))) (list_of (bodies_of n (drop j ds))) u

  pub definitions_end : (t : Draft) → length ds ≤ i → Makes (definitions_from i t.meter.account) (Ok tt) t t
  unfolding make_definitions
  definitions_end t h = rw (none_left ds i h) (makes_done tt t)

  module _ (d : Def) (h : i < length ds) (e : d ≡ get_or ds i d) where
    definitions_is : (u : Account) → definitions_from i u ≡ write_on (make_definition E inf cmp c n i d.rarg d.ty d.body u) (λ _ v. definitions_from (i + 1) v)
    unfolding make_definitions
    definitions_is u =
        let m : suc i ≡ i + 1 = omega arith in
        rw (next_is ds i d h e)
        (ap (λ j. write_on (make_definition E inf cmp c n i d.rarg d.ty d.body u)
        (λ _ v. make_definitions E inf cmp c n j (rargs_of (drop (i + 1) ds)) (list_of (types_of (drop (i + 1) ds))) (list_of (bodies_of n (drop (i + 1) ds))) v)) m)

    pub definitions_go : (r : Result (Unit {0}) Halt) (t0 t1 t2 : Draft) → Makes (make_definition E inf cmp c n i d.rarg d.ty d.body t0.meter.account) (Ok tt) t0 t1 →
        Makes (definitions_from (i + 1) t1.meter.account) r t1 t2 → Makes (definitions_from i t0.meter.account) r t0 t2
    definitions_go r t0 t1 t2 f g = rw (definitions_is t0.meter.account) (makes_on (λ _ v. definitions_from (i + 1) v) f g)

    pub definitions_stop : (x : Halt) (t0 t1 : Draft) → Makes (make_definition E inf cmp c n i d.rarg d.ty d.body t0.meter.account) (Err x) t0 t1 →
        Makes (definitions_from i t0.meter.account) (Err x) t0 t1
    definitions_stop x t0 t1 f = rw (definitions_is t0.meter.account) (makes_err (λ _ v. definitions_from (i + 1) v) f)

-- all of them, of which there are as many as recursive arguments
pub all_definitions : (E : Env) (inf : MakeTyping) (cmp : MakeComparison) (c : Context) (ds : List Def) {r : Result (Unit {0}) Halt} {t0 t1 : Draft} →
    Makes (make_definitions E inf cmp c (length ds) 0 (rargs_of ds) (list_of (types_of ds)) (list_of (bodies_of (length ds) ds)) t0.meter.account) r t0 t1 →
    Makes (make_definitions E inf cmp c (length (rargs_of ds)) 0 (rargs_of ds) (list_of (types_of ds)) (list_of (bodies_of (length ds) ds)) t0.meter.account) r t0 t1
all_definitions E inf cmp c ds {r = r} {t0 = t0} {t1 = t1} p =
    subst (λ n. Makes (make_definitions E inf cmp c n 0 (rargs_of ds) (list_of (types_of ds)) (list_of (bodies_of (length ds) ds)) t0.meter.account) r t0 t1) (sym (rargs_length ds)) p

-- one definition

module _ (D : Def) (E : Env) (inf : MakeTyping) (cmp : MakeComparison) (c : Context) (n d : ℕ) where
  abbrev after_domain : Context × Term → Account → Run (Wrote (Unit {0}))
  after_domain p v =
      write_on (silent (make (shift n 0 D.ty)) v) (λ S w.
      write_on (make_check E inf cmp c D.body S w) (λ _ x. write_on (make_whnf E (values p.0) p.1 x) (λ W y. silent (family_found W) y)))

  few_at : (o : Option (Context × Term)) (t : Draft) → o ≡ None → Makes (silent (enough_abstractions d o) t.meter.account) (Err (Refusal (NotEnoughAbstractions d))) t t
  few_at o t e = rw e (makes_answers (enough_abstractions d None) refl)

  pub few_lambdas : {t : Draft} → recursive_domain c D.rarg D.body ≡ None →
      Makes (make_definition E inf cmp c n d D.rarg D.ty D.body t.meter.account) (Err (Refusal (NotEnoughAbstractions d))) t t
  few_lambdas {t = t} e = makes_err after_domain (few_at (recursive_domain c D.rarg D.body) t e)

  enough_at : (o : Option (Context × Term)) (q : Context × Term) (t : Draft) → o ≡ Some q → Makes (silent (enough_abstractions d o) t.meter.account) (Ok q) t t
  enough_at o q t e = rw e (makes_answers (enough_abstractions d (Some q)) refl)

  pub lambdas_found : {q : Context × Term} {r : Result (Unit {0}) Halt} {t0 t1 : Draft} → recursive_domain c D.rarg D.body ≡ Some q → Makes (after_domain q t0.meter.account) r t0 t1 →
      Makes (make_definition E inf cmp c n d D.rarg D.ty D.body t0.meter.account) r t0 t1
  lambdas_found {q = q} {t0 = t0} e f = makes_on after_domain (enough_at (recursive_domain c D.rarg D.body) q t0 e) f

pub is_family : (W : Term) (b : Bool) (t : Draft) → b ≡ is_a_family (head W) → b ≡ true → Makes (silent (family_found W) t.meter.account) (Ok tt) t t
is_family W b t e p = makes_silent (family_found W) (family_is W b t.meter e p) refl

pub no_family_found : (W : Term) (b : Bool) (t : Draft) → b ≡ is_a_family (head W) → b ≡ false → Makes (silent (family_found W) t.meter.account) (Err (Refusal (RecArgNotInductive W))) t t
no_family_found W b t e p = makes_silent (family_found W) (no_family W b t.meter e p) refl
