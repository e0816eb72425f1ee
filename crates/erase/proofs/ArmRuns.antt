-- Matches: the loop over branches follows the directed rules.
use Rattle.std.proofs.Common.{◌≡◌, ◌≤◌, ◌<◌, ◌+◌, ◌⊎◌, inl, inr, ℕ, zero, suc, min, List, [], ◌∷◌, ◌++◌, length, drop, get_or, Option, Some, None, Result, Ok, Err, IsTrue, refl, sym, ap, ◌∙◌, subst, arith}
use Rattle.trees.specs.Tree.{Done, Next, terms_of}
use Rattle.trees.specs.Measures.{IsWithin}
use Rattle.pc_terms.specs.declared.leaf.FamilyId.{FamilyId}
use Rattle.pc_terms.specs.declared.term.Branch.{Branch}
use Rattle.pc_terms.specs.declared.term.MakeFault.{MakeFault}
use Rattle.pc_terms.specs.declared.term.MakeFault.TheVariants.{TooDeep as DeepTerm, Memory as NoTerm}
use Rattle.pc_terms.specs.Lists.{arms_of}
use Rattle.pc_terms.specs.Formed.{EachTerm}
use Rattle.pc_terms.specs.Syntax.{Term, Case, list_of}
use Rattle.box_terms.specs.BoxSyntax.{BoxTerm, BoxTerms, BCase}
use Rattle.calculus_rules.specs.declared.declaration.Constructor.{Constructor}
use Rattle.pc_rules.specs.declared.broken.Broken.TheVariants.{UnknownName}
use Rattle.pc_rules.specs.declared.meter.Account.{Account}
use Rattle.pc_rules.specs.declared.meter.Meter.{Meter}
use Rattle.pc_rules.specs.declared.stop.Stop.TheVariants.{Memory}
use Rattle.pc_rules.specs.declared.stop.Halt.{Halt}
use Rattle.pc_rules.specs.declared.stop.Halt.TheVariants.{Stop, Broken as Refusal}
use Rattle.calculus_rules.specs.Environment.{Env, FamilyDecl}
use Rattle.calculus_rules.specs.Context.{Context, extend}
use Rattle.calculus_rules.specs.Instances.{branch_entries}
use Rattle.pc_rules.specs.Stops.{stop_of}
use Rattle.pc_rules.specs.Follows.{Follows}
use Rattle.pc_rules.specs.DirectedRun.{Run, done, passing, any_beyond, bind, Leaves}
use Rattle.calculus_rules.specs.Lookups.{family_of}
use Rattle.pc_rules.specs.DirectedTyping.{Typing}
use Rattle.pc_rules.specs.WellCounted.{IsCountedNode, IsCounted, AreCounted, AreCountedConstructors, IsCountedContext, HasCountedDeclarations}
use Rattle.pc_rules.proofs.Fair.{leaves_bind, same_left}
use Rattle.pc_rules.proofs.FairTyping.{FairTyping}
use Rattle.pc_rules.proofs.Following.{follows_bind, follows_err, follows_done, follows_memory, follows_deep, follows_passing, follows_refused}
use Rattle.pc_rules.proofs.ListSteps.{next_is, none_left, min_either}
use Rattle.pc_rules.proofs.WeakNext.{family_found}
use Rattle.pc_rules.proofs.Leading.{bind_assoc}
use Rattle.rule_laws.proofs.KeepCounts.{kept_counted}
use Rattle.rule_laws.proofs.CountedParts.{branch_entries_counted, context_extended}
use Rattle.box_terms.specs.declared.term.BoxBranch.{BoxBranch}
use Rattle.box_terms.specs.BoxLists.{arms_of as box_arms}
use Rattle.calculus_rules.proofs.Listing.{listed}
use Rattle.erase_rules.specs.DirectedErasure.{in_family, kept, kept_branches, erased}
use Rattle.erase_rules.proofs.FairErasure.{erased_leaves, kept_branches_leave, family_branches_leave}
use Rattle.erase_rules.proofs.Sizes.{Strips, erased_strips, branches_strip}
use Rattle.erase.specs.Arms.{arms_before, after_arms, under_entries}
use Rattle.erase.proofs.Runs.{within_by}

-- a branch

module _ (E : Env) {inf : Typing} (fair : FairTyping 0 0 inf) (c : Context) (As : List Term) (t : Term) where
  entries_fault : (x : MakeFault) (m : Meter) → (x ≡ DeepTerm → IsTrue (any_beyond As)) → Follows (passing (any_beyond As) m.account) (Err (Stop (stop_of x))) m m
  entries_fault DeepTerm m h = follows_deep (passing (any_beyond As) m.account) m (h refl) (same_left m.account)
  entries_fault NoTerm m h = follows_memory (passing (any_beyond As) m.account) m (same_left m.account)

  pub entries_leave : (u : Account) → Leaves (under_entries E inf c As t u).end u.left
  entries_leave u = leaves_bind (passing (any_beyond As) u) (λ _ v. erased E inf (extend c As) t v) u.left (same_left u) (λ _ v. erased_leaves E inf fair (extend c As) t v)

  pub entries_err : (x : MakeFault) (m : Meter) → (x ≡ DeepTerm → IsTrue (any_beyond As)) → Follows (under_entries E inf c As t m.account) (Err (Stop (stop_of x))) m m
  entries_err x m h = follows_err (passing (any_beyond As) m.account) (λ _ v. erased E inf (extend c As) t v) (Stop (stop_of x)) m m (entries_fault x m h) (λ _ v. erased_leaves E inf fair (extend c As) t v)

  pub entries_go : (r : Result BoxTerm Halt) (m0 m1 : Meter) → Follows (erased E inf (extend c As) t m0.account) r m0 m1 → Follows (under_entries E inf c As t m0.account) r m0 m1
  entries_go r m0 m1 f =
      follows_bind (passing (any_beyond As) m0.account) (λ _ v. erased E inf (extend c As) t v) tt r m0 m0 m1 (follows_passing (any_beyond As) m0) f

pub branch_context : (E : Env) (c : Context) (C : Constructor) (ps : List Term) → IsCountedContext E c → AreCounted E C.args → AreCounted E ps → IsCountedContext E (extend c (branch_entries C ps))
branch_context E c C ps kc wC wps = context_extended E c (branch_entries C ps) kc (branch_entries_counted E C ps wC wps)

-- branches

arms_more : (out : List BoxBranch) (b : BoxBranch) (ts : BoxTerms) → arms_before (out ++ (b ∷ [])) ts ≡ arms_before out (Next b.binders b.body ts)
arms_more [] b ts = refl
arms_more (x ∷ out) b ts = ap (Next x.binders x.body) (arms_more out b ts)

pub arms_all : (out : List BoxBranch) → arms_before out Done ≡ box_arms out
arms_all [] = refl
arms_all (x ∷ out) = ap (Next x.binders x.body) (arms_all out)

-- one more branch before the others
abbrev pub with_arm : BoxBranch → Result BoxTerms Halt → Result BoxTerms Halt
with_arm b (Ok ts) = Ok (Next b.binders b.body ts)
with_arm b (Err h) = Err h

pub after_more : (out : List BoxBranch) (b : BoxBranch) (r : Result BoxTerms Halt) → after_arms out (with_arm b r) ≡ after_arms (out ++ (b ∷ [])) r
after_more out b (Ok ts) = ap Ok (sym (arms_more out b ts))
after_more out b (Err h) = refl

module _ (E : Env) {inf : Typing} (fair : FairTyping 0 0 inf) (c : Context) (ps : List Term) where
  abbrev pub arms_erased : List Constructor → List Branch → Account → Run BoxTerms
  arms_erased Cs bs u = kept_branches E inf c ps Cs (arms_of bs) u

  module _ (C : Constructor) (b : Branch) (Cs : List Constructor) (bs : List Branch) where
    then_rest : BoxTerm → Account → Run BoxTerms
    then_rest t' v = bind (kept_branches E inf c ps Cs (arms_of bs) v) (λ ts' w. done (Next b.binders t' ts') w)

    rest_leaves : (t' : BoxTerm) (v : Account) → Leaves (then_rest t' v).end v.left
    unfolding then_rest
    rest_leaves t' v =
        leaves_bind (kept_branches E inf c ps Cs (arms_of bs) v) (λ ts' w. done (Next b.binders t' ts') w) v.left (kept_branches_leave E inf fair c ps Cs (arms_of bs) v) (λ ts' w. same_left w)

    first_arm : (m : Meter) → bind (under_entries E inf c (branch_entries C ps) b.body m.account) then_rest ≡ arms_erased (C ∷ Cs) (b ∷ bs) m.account
    unfolding then_rest
    first_arm m = bind_assoc (passing (any_beyond (branch_entries C ps)) m.account) (λ _ v. erased E inf (extend c (branch_entries C ps)) b.body v) then_rest

    arm_stops : (h : Halt) (m0 m1 : Meter) → Follows (under_entries E inf c (branch_entries C ps) b.body m0.account) (Err h) m0 m1 → Follows (arms_erased (C ∷ Cs) (b ∷ bs) m0.account) (Err h) m0 m1
    arm_stops h m0 m1 f =
        subst (λ d. Follows d (Err h) m0 m1) (first_arm m0) (follows_err (under_entries E inf c (branch_entries C ps) b.body m0.account) then_rest h m0 m1 f rest_leaves)

    rest_goes : (t' : BoxTerm) (r : Result BoxTerms Halt) (m1 m2 : Meter) → Follows (arms_erased Cs bs m1.account) r m1 m2 →
        Follows (then_rest t' m1.account) (with_arm (record { binders = b.binders; body = t' }) r) m1 m2
    unfolding then_rest
    rest_goes t' (Ok ts) m1 m2 g =
        follows_bind (arms_erased Cs bs m1.account) (λ ts' w. done (Next b.binders t' ts') w) ts (Ok (Next b.binders t' ts)) m1 m2 m2 g (follows_done (Next b.binders t' ts) m2)
    rest_goes t' (Err h) m1 m2 g = follows_err (arms_erased Cs bs m1.account) (λ ts' w. done (Next b.binders t' ts') w) h m1 m2 g (λ ts' w. same_left w)

    arm_goes : (t' : BoxTerm) (r : Result BoxTerms Halt) (m0 m1 m2 : Meter) → Follows (under_entries E inf c (branch_entries C ps) b.body m0.account) (Ok t') m0 m1 →
        Follows (arms_erased Cs bs m1.account) r m1 m2 → Follows (arms_erased (C ∷ Cs) (b ∷ bs) m0.account) (with_arm (record { binders = b.binders; body = t' }) r) m0 m2
    arm_goes t' r m0 m1 m2 f g =
        subst (λ d. Follows d (with_arm (record { binders = b.binders; body = t' }) r) m0 m2) (first_arm m0)
        (follows_bind (under_entries E inf c (branch_entries C ps) b.body m0.account) then_rest t' (with_arm (record { binders = b.binders; body = t' }) r) m0 m1 m2 f (rest_goes t' r m1 m2 g))

    arm_memory : (t' : BoxTerm) (m0 m1 : Meter) → Follows (under_entries E inf c (branch_entries C ps) b.body m0.account) (Ok t') m0 m1 →
        Follows (arms_erased (C ∷ Cs) (b ∷ bs) m0.account) (Err (Stop Memory)) m0 m1
    arm_memory t' m0 m1 f =
        subst (λ d. Follows d (Err (Stop Memory)) m0 m1) (first_arm m0)
        (follows_bind (under_entries E inf c (branch_entries C ps) b.body m0.account) then_rest t' (Err (Stop Memory)) m0 m1 m1 f (follows_memory (then_rest t' m1.account) m1 (rest_leaves t' m1.account)))

  -- the branches from one on
  module _ (Cs : List Constructor) (bs : List Branch) (i : ℕ) where
    abbrev pub arms_from : ℕ → Account → Run BoxTerms
    arms_from j u = arms_erased (drop j Cs) (drop j bs) u

    module _ (C : Constructor) (b : Branch) (k : i < length Cs) (l : i < length bs) (e : C ≡ get_or Cs i C) (e' : b ≡ get_or bs i b) where
      from_is : (u : Account) → arms_erased (C ∷ drop (i + 1) Cs) (b ∷ drop (i + 1) bs) u ≡ arms_from i u
      from_is u = λ j. arms_erased (sym (next_is Cs i C k e) j) (sym (next_is bs i b l e') j) u

      pub arms_stop : (h : Halt) (m0 m1 : Meter) → Follows (under_entries E inf c (branch_entries C ps) b.body m0.account) (Err h) m0 m1 → Follows (arms_from i m0.account) (Err h) m0 m1
      arms_stop h m0 m1 f = subst (λ d. Follows d (Err h) m0 m1) (from_is m0.account) (arm_stops C b (drop (i + 1) Cs) (drop (i + 1) bs) h m0 m1 f)

      pub arms_memory : (t' : BoxTerm) (m0 m1 : Meter) → Follows (under_entries E inf c (branch_entries C ps) b.body m0.account) (Ok t') m0 m1 → Follows (arms_from i m0.account) (Err (Stop Memory)) m0 m1
      arms_memory t' m0 m1 f = subst (λ d. Follows d (Err (Stop Memory)) m0 m1) (from_is m0.account) (arm_memory C b (drop (i + 1) Cs) (drop (i + 1) bs) t' m0 m1 f)

      pub arms_next : (t' : BoxTerm) (r : Result BoxTerms Halt) (m0 m1 m2 : Meter) → Follows (under_entries E inf c (branch_entries C ps) b.body m0.account) (Ok t') m0 m1 →
          Follows (arms_from (i + 1) m1.account) r m1 m2 → Follows (arms_from i m0.account) (with_arm (record { binders = b.binders; body = t' }) r) m0 m2
      arms_next t' r m0 m1 m2 f g =
          subst (λ d. Follows d (with_arm (record { binders = b.binders; body = t' }) r) m0 m2) (from_is m0.account) (arm_goes C b (drop (i + 1) Cs) (drop (i + 1) bs) t' r m0 m1 m2 f g)

    no_arms : (Ds : List Constructor) (u : Account) → arms_erased Ds [] u ≡ done Done u
    no_arms [] u = refl
    no_arms (D ∷ Ds) u = refl

    no_constructors : (xs : List Branch) (u : Account) → arms_erased [] xs u ≡ done Done u
    no_constructors [] u = refl
    no_constructors (x ∷ xs) u = refl

    ended : (u : Account) → (length Cs ≤ i) ⊎ (length bs ≤ i) → arms_from i u ≡ done Done u
    ended u (inl h) = ap (λ Ds. arms_erased Ds (drop i bs) u) (none_left Cs i h) ∙ no_constructors (drop i bs) u
    ended u (inr h) = ap (λ xs. arms_erased (drop i Cs) xs u) (none_left bs i h) ∙ no_arms (drop i Cs) u

    pub arms_end : (m : Meter) → min (length Cs) (length bs) ≤ i → Follows (arms_from i m.account) (Ok Done) m m
    arms_end m h = subst (λ d. Follows d (Ok Done) m m) (sym (ended m.account (min_either (length Cs) (length bs) i h))) (follows_done Done m)

-- a match

module _ (E : Env) {inf : Typing} (fair : FairTyping 0 0 inf) (c : Context) (f : FamilyId) (ps : List Term) (n : ℕ) (ret s : Term) (bs : List Branch) where
  abbrev pub case_erased : Account → Run BoxTerm
  case_erased u = kept E inf c (Case f (terms_of ps) n ret s (arms_of bs)) u

  then_arms : List Term → Option FamilyDecl → BoxTerm → Account → Run BoxTerm
  then_arms qs o s' v = bind (in_family f o (λ Cs w. kept_branches E inf c qs Cs (arms_of bs) w) v) (λ bs' w. done (BCase f s' bs') w)

  arms_leave : (qs : List Term) (o : Option FamilyDecl) (s' : BoxTerm) (v : Account) → Leaves (then_arms qs o s' v).end v.left
  unfolding then_arms
  arms_leave qs o s' v =
      leaves_bind (in_family f o (λ Cs w. kept_branches E inf c qs Cs (arms_of bs) w) v) (λ bs' w. done (BCase f s' bs') w) v.left
      (family_branches_leave E inf fair c qs (arms_of bs) f o v) (λ bs' w. same_left w)

  pub scrutinee_err : (h : Halt) (m0 m1 : Meter) → Follows (erased E inf c s m0.account) (Err h) m0 m1 → Follows (case_erased m0.account) (Err h) m0 m1
  unfolding then_arms
  scrutinee_err h m0 m1 g = follows_err (erased E inf c s m0.account) (then_arms (list_of (terms_of ps)) (family_of E f)) h m0 m1 g (arms_leave (list_of (terms_of ps)) (family_of E f))

  module _ (s' : BoxTerm) (m0 m1 : Meter) (g : Follows (erased E inf c s m0.account) (Ok s') m0 m1) where
    scrutinee_goes : (r : Result BoxTerm Halt) (m2 : Meter) (o : Option FamilyDecl) → family_of E f ≡ o → Follows (then_arms ps o s' m1.account) r m1 m2 → Follows (case_erased m0.account) r m0 m2
    unfolding then_arms
    scrutinee_goes r m2 o e h =
        follows_bind (erased E inf c s m0.account) (then_arms (list_of (terms_of ps)) (family_of E f)) s' r m0 m1 m2 g
        (subst (λ qs. Follows (then_arms qs (family_of E f) s' m1.account) r m1 m2) (sym (listed ps)) (subst (λ o. Follows (then_arms ps o s' m1.account) r m1 m2) (sym e) h))

    pub case_unknown : family_of E f ≡ None → Follows (case_erased m0.account) (Err (Refusal (UnknownName f.block))) m0 m1
    unfolding then_arms
    case_unknown e =
        scrutinee_goes (Err (Refusal (UnknownName f.block))) m1 None e
        (follows_err (in_family f None (λ Cs w. kept_branches E inf c ps Cs (arms_of bs) w) m1.account) (λ bs' w. done (BCase f s' bs') w) (Refusal (UnknownName f.block)) m1 m1
        (follows_refused (UnknownName f.block) m1) (λ bs' w. same_left w))

    module _ (F : FamilyDecl) (e : family_of E f ≡ Some F) where
      pub arms_err : (h : Halt) (m2 : Meter) → Follows (kept_branches E inf c ps F.constructors (arms_of bs) m1.account) (Err h) m1 m2 → Follows (case_erased m0.account) (Err h) m0 m2
      unfolding then_arms
      arms_err h m2 x =
          scrutinee_goes (Err h) m2 (Some F) e
          (follows_err (kept_branches E inf c ps F.constructors (arms_of bs) m1.account) (λ bs' w. done (BCase f s' bs') w) h m1 m2 x (λ bs' w. same_left w))

      pub case_done : (bs' : BoxTerms) (m2 : Meter) → Follows (kept_branches E inf c ps F.constructors (arms_of bs) m1.account) (Ok bs') m1 m2 →
          Follows (case_erased m0.account) (Ok (BCase f s' bs')) m0 m2
      unfolding then_arms
      case_done bs' m2 x =
          scrutinee_goes (Ok (BCase f s' bs')) m2 (Some F) e
          (follows_bind (kept_branches E inf c ps F.constructors (arms_of bs) m1.account) (λ bs' w. done (BCase f s' bs') w) bs' (Ok (BCase f s' bs')) m1 m2 m2 x
          (follows_done (BCase f s' bs') m2))

      pub case_memory : (bs' : BoxTerms) (m2 : Meter) → Follows (kept_branches E inf c ps F.constructors (arms_of bs) m1.account) (Ok bs') m1 m2 →
          Follows (case_erased m0.account) (Err (Stop Memory)) m0 m2
      unfolding then_arms
      case_memory bs' m2 x =
          scrutinee_goes (Err (Stop Memory)) m2 (Some F) e
          (follows_bind (kept_branches E inf c ps F.constructors (arms_of bs) m1.account) (λ bs' w. done (BCase f s' bs') w) bs' (Err (Stop Memory)) m1 m2 m2 x
          (follows_memory (done (BCase f s' bs') m2.account) m2 (same_left m2.account)))

      pub case_within : (bs' : BoxTerms) (m2 : Meter) → Follows (kept_branches E inf c ps F.constructors (arms_of bs) m1.account) (Ok bs') m1 m2 →
          IsWithin (Case f (terms_of ps) n ret s (arms_of bs)) → IsWithin (BCase f s' bs')
      case_within bs' m2 x h =
          within_by (Strips.case {f = f} {n = n} (erased_strips E inf c s s' m0.account m1.account g.answer) (branches_strip E inf (arms_of bs) c ps F.constructors bs' m1.account m2.account x.answer)) h

-- what is asked of the branches

pub constructors_counted : (E : Env) → HasCountedDeclarations E → (f : FamilyId) (F : FamilyDecl) → family_of E f ≡ Some F → AreCountedConstructors E F.constructors
constructors_counted E w f F e = (kept_counted E f F w (family_found E f F e)).2

pub arm_counted : (E : Env) (bs : List Branch) (i : ℕ) (b : Branch) → EachTerm (IsCountedNode E) (arms_of bs) → i < length bs → b ≡ get_or bs i b → IsCounted E b.body
arm_counted E [] i b h l e = absurd (omega arith)
arm_counted E (x ∷ bs) zero b h l e = subst (λ y. IsCounted E y.body) (sym e) h.0
arm_counted E (x ∷ bs) (suc i) b h l e = arm_counted E bs i b h.1 (omega arith) e

pub args_counted : (E : Env) (Cs : List Constructor) (i : ℕ) (C : Constructor) → AreCountedConstructors E Cs → i < length Cs → C ≡ get_or Cs i C → AreCounted E C.args
args_counted E [] i C h l e = absurd (omega arith)
args_counted E (D ∷ Cs) zero C h l e = subst (λ D. AreCounted E D.args) (sym e) h.0.0
args_counted E (D ∷ Cs) (suc i) C h l e = args_counted E Cs i C h.1 (omega arith) e
