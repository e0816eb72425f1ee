-- Fixpoints: the loop over definitions follows the directed rules.
use Rattle.std.proofs.Common.{◌≡◌, ◌≤◌, ◌<◌, ◌+◌, ℕ, zero, suc, List, [], ◌∷◌, ◌++◌, length, drop, take, get_or, Result, Ok, Err, IsTrue, refl, sym, ap, ◌∙◌, subst, arith}
use Rattle.trees.specs.Tree.{Done, Next}
use Rattle.trees.specs.Measures.{depth, depth_trees, IsWithin}
use Rattle.pc_terms.specs.declared.term.Def.{Def}
use Rattle.pc_terms.specs.declared.term.MakeFault.{MakeFault}
use Rattle.pc_terms.specs.declared.term.MakeFault.TheVariants.{TooDeep as DeepTerm, Memory as NoTerm}
use Rattle.pc_terms.specs.Lists.{types_of, bodies_of, rargs_of}
use Rattle.pc_terms.specs.Formed.{EachTerm}
use Rattle.pc_terms.specs.Syntax.{Term, Terms, Fix, shift, list_of}
use Rattle.box_terms.specs.BoxSyntax.{BoxTerm, BoxTerms, BFix}
use Rattle.pc_terms.proofs.Parts.{rargs_length}
use Rattle.calculus_rules.specs.declared.entry.Entry.TheVariants.{Assumed}
use Rattle.pc_rules.specs.declared.meter.Account.{Account}
use Rattle.pc_rules.specs.declared.meter.Meter.{Meter}
use Rattle.pc_rules.specs.declared.stop.Stop.TheVariants.{Memory}
use Rattle.pc_rules.specs.declared.stop.Halt.{Halt}
use Rattle.pc_rules.specs.declared.stop.Halt.TheVariants.{Stop}
use Rattle.calculus_rules.specs.Environment.{Env}
use Rattle.calculus_rules.specs.Context.{Context, extend}
use Rattle.calculus_rules.specs.Instances.{definitions}
use Rattle.pc_rules.specs.Stops.{stop_of}
use Rattle.pc_rules.specs.Follows.{Follows}
use Rattle.pc_rules.specs.DirectedRun.{Run, done, passing, any_beyond, bind, Leaves}
use Rattle.pc_rules.specs.DirectedComparison.{lifted_types}
use Rattle.pc_rules.specs.DirectedTyping.{Typing}
use Rattle.pc_rules.specs.WellCounted.{IsCountedNode, IsCounted, IsCountedContext}
use Rattle.pc_rules.proofs.Fair.{leaves_bind, same_left}
use Rattle.pc_rules.proofs.FairTyping.{FairTyping}
use Rattle.pc_rules.proofs.Following.{follows_bind, follows_err, follows_done, follows_memory, follows_deep, follows_passing}
use Rattle.pc_rules.proofs.ListSteps.{next_is, none_left, take_next}
use Rattle.rule_laws.proofs.Counted.{shifted_counted}
use Rattle.box_terms.specs.declared.term.BoxDef.{BoxDef}
use Rattle.box_terms.proofs.Parts.{rargs_length as box_rargs_length}
use Rattle.box_terms.specs.BoxLists.{bodies_of as box_bodies, rargs_of as box_rargs}
use Rattle.erase_rules.specs.DirectedErasure.{kept, kept_bodies, erased}
use Rattle.erase_rules.proofs.FairErasure.{kept_bodies_leave}
use Rattle.erase_rules.proofs.Sizes.{Strips, bodies_strip}
use Rattle.erase.specs.Arms.{bodies_before, after_bodies}
use Rattle.erase.proofs.Runs.{within_by}

-- the context of all definitions
pub all_definitions : (c : Context) (n : ℕ) (ts : Terms) → extend c (lifted_types n (list_of ts)) ≡ definitions c n ts
all_definitions c n Done = refl
all_definitions c n (Next b T ts) = all_definitions (Assumed (shift n 0 T) ∷ c) (suc n) ts

definitions_counted : (E : Env) (c : Context) (m : ℕ) (types : Terms) → IsCountedContext E c → EachTerm (IsCountedNode E) types → IsCountedContext E (definitions c m types)
definitions_counted E c m Done kc h = kc
definitions_counted E c m (Next b T ts) kc h = definitions_counted E (Assumed (shift m 0 T) ∷ c) (suc m) ts (shifted_counted E m 0 T h.0, kc) h.1

pub entries_counted : (E : Env) (c : Context) (types : Terms) → IsCountedContext E c → EachTerm (IsCountedNode E) types → IsCountedContext E (extend c (lifted_types 0 (list_of types)))
entries_counted E c types kc h = subst (λ d. IsCountedContext E d) (sym (all_definitions c 0 types)) (definitions_counted E c 0 types kc h)

-- definitions

bodies_more : (m : ℕ) (out : List BoxDef) (d : BoxDef) (ts : BoxTerms) → bodies_before m (out ++ (d ∷ [])) ts ≡ bodies_before m out (Next m d.body ts)
bodies_more m [] d ts = refl
bodies_more m (x ∷ out) d ts = ap (Next m x.body) (bodies_more m out d ts)

pub bodies_all : (m : ℕ) (out : List BoxDef) → bodies_before m out Done ≡ box_bodies m out
bodies_all m [] = refl
bodies_all m (x ∷ out) = ap (Next m x.body) (bodies_all m out)

abbrev pub with_body : ℕ → BoxTerm → Result BoxTerms Halt → Result BoxTerms Halt
with_body m t (Ok ts) = Ok (Next m t ts)
with_body m t (Err h) = Err h

pub after_body : (m : ℕ) (out : List BoxDef) (d : BoxDef) (r : Result BoxTerms Halt) → after_bodies m out (with_body m d.body r) ≡ after_bodies m (out ++ (d ∷ [])) r
after_body m out d (Ok ts) = ap Ok (sym (bodies_more m out d ts))
after_body m out d (Err h) = refl

rargs_more : (out : List BoxDef) (d : BoxDef) → box_rargs (out ++ (d ∷ [])) ≡ box_rargs out ++ (d.rarg ∷ [])
rargs_more [] d = refl
rargs_more (x ∷ out) d = ap (◌∷◌ x.rarg) (rargs_more out d)

defs_more : (ds : List Def) (d : Def) → rargs_of (ds ++ (d ∷ [])) ≡ rargs_of ds ++ (d.rarg ∷ [])
defs_more [] d = refl
defs_more (x ∷ ds) d = ap (◌∷◌ x.rarg) (defs_more ds d)

pub rargs_next : (ds : List Def) (i : ℕ) (d : Def) (out : List BoxDef) (t : BoxTerm) → i < length ds → d ≡ get_or ds i d → box_rargs out ≡ rargs_of (take i ds) →
    box_rargs (out ++ (record { body = t; rarg = d.rarg } ∷ [])) ≡ rargs_of (take (i + 1) ds)
rargs_next ds i d out t l e h =
    rargs_more out (record { body = t; rarg = d.rarg }) ∙ ap (λ rs. rs ++ (d.rarg ∷ [])) h ∙ sym (ap rargs_of (take_next ds i d l e) ∙ defs_more (take i ds) d)

pub as_long : (ds : List BoxDef) (es : List Def) → box_rargs ds ≡ rargs_of es → length ds ≡ length es
as_long ds es h = sym (box_rargs_length ds) ∙ ap length h ∙ rargs_length es

module _ (E : Env) {inf : Typing} (fair : FairTyping 0 0 inf) (c : Context) (m : ℕ) where
  abbrev pub bodies_erased : List Def → Account → Run BoxTerms
  bodies_erased ds u = kept_bodies E inf c (bodies_of m ds) u

  module _ (d : Def) (ds : List Def) where
    then_rest : BoxTerm → Account → Run BoxTerms
    then_rest t' v = bind (kept_bodies E inf c (bodies_of m ds) v) (λ ts' w. done (Next m t' ts') w)

    rest_leaves : (t' : BoxTerm) (v : Account) → Leaves (then_rest t' v).end v.left
    unfolding then_rest
    rest_leaves t' v = leaves_bind (kept_bodies E inf c (bodies_of m ds) v) (λ ts' w. done (Next m t' ts') w) v.left (kept_bodies_leave E inf fair c (bodies_of m ds) v) (λ ts' w. same_left w)

    body_stops : (h : Halt) (m0 m1 : Meter) → Follows (erased E inf c d.body m0.account) (Err h) m0 m1 → Follows (bodies_erased (d ∷ ds) m0.account) (Err h) m0 m1
    unfolding then_rest
    body_stops h m0 m1 f = follows_err (erased E inf c d.body m0.account) then_rest h m0 m1 f rest_leaves

    rest_goes : (t' : BoxTerm) (r : Result BoxTerms Halt) (m1 m2 : Meter) → Follows (bodies_erased ds m1.account) r m1 m2 → Follows (then_rest t' m1.account) (with_body m t' r) m1 m2
    unfolding then_rest
    rest_goes t' (Ok ts) m1 m2 g =
        follows_bind (bodies_erased ds m1.account) (λ ts' w. done (Next m t' ts') w) ts (Ok (Next m t' ts)) m1 m2 m2 g (follows_done (Next m t' ts) m2)
    rest_goes t' (Err h) m1 m2 g = follows_err (bodies_erased ds m1.account) (λ ts' w. done (Next m t' ts') w) h m1 m2 g (λ ts' w. same_left w)

    body_goes : (t' : BoxTerm) (r : Result BoxTerms Halt) (m0 m1 m2 : Meter) → Follows (erased E inf c d.body m0.account) (Ok t') m0 m1 → Follows (bodies_erased ds m1.account) r m1 m2 →
        Follows (bodies_erased (d ∷ ds) m0.account) (with_body m t' r) m0 m2
    unfolding then_rest
    body_goes t' r m0 m1 m2 f g = follows_bind (erased E inf c d.body m0.account) then_rest t' (with_body m t' r) m0 m1 m2 f (rest_goes t' r m1 m2 g)

    body_memory : (t' : BoxTerm) (m0 m1 : Meter) → Follows (erased E inf c d.body m0.account) (Ok t') m0 m1 → Follows (bodies_erased (d ∷ ds) m0.account) (Err (Stop Memory)) m0 m1
    unfolding then_rest
    body_memory t' m0 m1 f = follows_bind (erased E inf c d.body m0.account) then_rest t' (Err (Stop Memory)) m0 m1 m1 f (follows_memory (then_rest t' m1.account) m1 (rest_leaves t' m1.account))

  module _ (ds : List Def) (i : ℕ) where
    abbrev pub bodies_from : ℕ → Account → Run BoxTerms
    bodies_from j u = bodies_erased (drop j ds) u

    module _ (d : Def) (l : i < length ds) (e : d ≡ get_or ds i d) where
      from_is : (u : Account) → bodies_erased (d ∷ drop (i + 1) ds) u ≡ bodies_from i u
      from_is u = λ j. bodies_erased (sym (next_is ds i d l e) j) u

      pub bodies_stop : (h : Halt) (m0 m1 : Meter) → Follows (erased E inf c d.body m0.account) (Err h) m0 m1 → Follows (bodies_from i m0.account) (Err h) m0 m1
      bodies_stop h m0 m1 f = subst (λ r. Follows r (Err h) m0 m1) (from_is m0.account) (body_stops d (drop (i + 1) ds) h m0 m1 f)

      pub bodies_memory : (t' : BoxTerm) (m0 m1 : Meter) → Follows (erased E inf c d.body m0.account) (Ok t') m0 m1 → Follows (bodies_from i m0.account) (Err (Stop Memory)) m0 m1
      bodies_memory t' m0 m1 f = subst (λ r. Follows r (Err (Stop Memory)) m0 m1) (from_is m0.account) (body_memory d (drop (i + 1) ds) t' m0 m1 f)

      pub bodies_next : (t' : BoxTerm) (r : Result BoxTerms Halt) (m0 m1 m2 : Meter) → Follows (erased E inf c d.body m0.account) (Ok t') m0 m1 → Follows (bodies_from (i + 1) m1.account) r m1 m2 →
          Follows (bodies_from i m0.account) (with_body m t' r) m0 m2
      bodies_next t' r m0 m1 m2 f g =
          subst (λ x. Follows x (with_body m t' r) m0 m2) (from_is m0.account) (body_goes d (drop (i + 1) ds) t' r m0 m1 m2 f g)

    pub bodies_end : (n : Meter) → length ds ≤ i → Follows (bodies_from i n.account) (Ok Done) n n
    bodies_end n h = subst (λ es. Follows (bodies_erased es n.account) (Ok Done) n n) (sym (none_left ds i h)) (follows_done Done n)

-- a fixpoint

module _ (E : Env) {inf : Typing} (fair : FairTyping 0 0 inf) (c : Context) (ds : List Def) (i : ℕ) where
  abbrev pub fix_erased : Account → Run BoxTerm
  fix_erased u = kept E inf c (Fix i (rargs_of ds) (types_of ds) (bodies_of (length ds) ds)) u

  abbrev pub fix_entries : List Term
  fix_entries = lifted_types 0 (list_of (types_of ds))

  then_bodies : Unit {0} → Account → Run BoxTerm
  then_bodies _ v = bind (kept_bodies E inf (definitions c 0 (types_of ds)) (bodies_of (length ds) ds) v) (λ bodies' w. done (BFix i (rargs_of ds) bodies') w)

  bodies_leave : (x : Unit {0}) (v : Account) → Leaves (then_bodies x v).end v.left
  unfolding then_bodies
  bodies_leave x v =
      leaves_bind (kept_bodies E inf (definitions c 0 (types_of ds)) (bodies_of (length ds) ds) v) (λ bodies' w. done (BFix i (rargs_of ds) bodies') w) v.left
      (kept_bodies_leave E inf fair (definitions c 0 (types_of ds)) (bodies_of (length ds) ds) v) (λ bodies' w. same_left w)

  fault : (x : MakeFault) (m : Meter) → (x ≡ DeepTerm → IsTrue (any_beyond fix_entries)) → Follows (passing (any_beyond fix_entries) m.account) (Err (Stop (stop_of x))) m m
  fault DeepTerm m h = follows_deep (passing (any_beyond fix_entries) m.account) m (h refl) (same_left m.account)
  fault NoTerm m h = follows_memory (passing (any_beyond fix_entries) m.account) m (same_left m.account)

  pub fix_fault : (x : MakeFault) (m : Meter) → (x ≡ DeepTerm → IsTrue (any_beyond fix_entries)) → Follows (fix_erased m.account) (Err (Stop (stop_of x))) m m
  unfolding then_bodies
  fix_fault x m h = follows_err (passing (any_beyond fix_entries) m.account) then_bodies (Stop (stop_of x)) m m (fault x m h) bodies_leave

  fix_goes : (r : Result BoxTerm Halt) (m0 m1 : Meter) → Follows (then_bodies tt m0.account) r m0 m1 → Follows (fix_erased m0.account) r m0 m1
  unfolding then_bodies
  fix_goes r m0 m1 f = follows_bind (passing (any_beyond fix_entries) m0.account) then_bodies tt r m0 m0 m1 (follows_passing (any_beyond fix_entries) m0) f

  pub fix_err : (h : Halt) (m0 m1 : Meter) → Follows (kept_bodies E inf (extend c fix_entries) (bodies_of (length ds) ds) m0.account) (Err h) m0 m1 → Follows (fix_erased m0.account) (Err h) m0 m1
  unfolding then_bodies
  fix_err h m0 m1 f =
      fix_goes (Err h) m0 m1
      (follows_err (kept_bodies E inf (definitions c 0 (types_of ds)) (bodies_of (length ds) ds) m0.account) (λ bodies' w. done (BFix i (rargs_of ds) bodies') w) h m0 m1
      (subst (λ d. Follows (kept_bodies E inf d (bodies_of (length ds) ds) m0.account) (Err h) m0 m1) (all_definitions c 0 (types_of ds)) f)
      (λ bodies' w. same_left w))

  module _ (es : List BoxDef) (m0 m1 : Meter) (same : box_rargs es ≡ rargs_of ds)
      (f : Follows (kept_bodies E inf (extend c fix_entries) (bodies_of (length ds) ds) m0.account) (Ok (box_bodies (length ds) es)) m0 m1) where
    bodies_follow : Follows (kept_bodies E inf (definitions c 0 (types_of ds)) (bodies_of (length ds) ds) m0.account) (Ok (box_bodies (length ds) es)) m0 m1
    bodies_follow = subst (λ d. Follows (kept_bodies E inf d (bodies_of (length ds) ds) m0.account) (Ok (box_bodies (length ds) es)) m0 m1) (all_definitions c 0 (types_of ds)) f

    made_same : BFix i (rargs_of ds) (box_bodies (length ds) es) ≡ BFix i (box_rargs es) (box_bodies (length es) es)
    made_same = sym (λ j. BFix i (same j) (box_bodies (as_long es ds same j) es))

    pub fix_done : Follows (fix_erased m0.account) (Ok (BFix i (box_rargs es) (box_bodies (length es) es))) m0 m1
    unfolding then_bodies
    fix_done =
        subst (λ t. Follows (fix_erased m0.account) (Ok t) m0 m1) made_same
        (fix_goes (Ok (BFix i (rargs_of ds) (box_bodies (length ds) es))) m0 m1
        (follows_bind (kept_bodies E inf (definitions c 0 (types_of ds)) (bodies_of (length ds) ds) m0.account) (λ bodies' w. done (BFix i (rargs_of ds) bodies') w) (box_bodies (length ds) es)
        (Ok (BFix i (rargs_of ds) (box_bodies (length ds) es))) m0 m1 m1 bodies_follow (follows_done (BFix i (rargs_of ds) (box_bodies (length ds) es)) m1)))

    pub fix_memory : Follows (fix_erased m0.account) (Err (Stop Memory)) m0 m1
    unfolding then_bodies
    fix_memory =
        fix_goes (Err (Stop Memory)) m0 m1
        (follows_bind (kept_bodies E inf (definitions c 0 (types_of ds)) (bodies_of (length ds) ds) m0.account) (λ bodies' w. done (BFix i (rargs_of ds) bodies') w) (box_bodies (length ds) es)
        (Err (Stop Memory)) m0 m1 m1 bodies_follow (follows_memory (done (BFix i (rargs_of ds) (box_bodies (length ds) es)) m1.account) m1 (same_left m1.account)))

    pub fix_within : IsWithin (Fix i (rargs_of ds) (types_of ds) (bodies_of (length ds) ds)) → IsWithin (BFix i (box_rargs es) (box_bodies (length es) es))
    fix_within h =
        subst (λ t. IsWithin t) made_same
        (within_by (Strips.fix {i = i} {rargs = rargs_of ds} (bodies_strip E inf (bodies_of (length ds) ds) (definitions c 0 (types_of ds)) (box_bodies (length ds) es) m0.account m1.account bodies_follow.answer)) h)

-- what is asked of the bodies

pub body_is_less : (m : ℕ) (ds : List Def) (i : ℕ) (d : Def) → i < length ds → d ≡ get_or ds i d → depth d.body ≤ depth_trees (bodies_of m ds)
body_is_less m [] i d l e = absurd (omega arith)
body_is_less m (x ∷ ds) zero d l e = subst (λ y. depth y.body ≤ depth_trees (bodies_of m (x ∷ ds))) (sym e) (omega arith)
body_is_less m (x ∷ ds) (suc i) d l e = let h = body_is_less m ds i d (omega arith) e in omega (arith, h)

pub body_counted : (E : Env) (m : ℕ) (ds : List Def) (i : ℕ) (d : Def) → EachTerm (IsCountedNode E) (bodies_of m ds) → i < length ds → d ≡ get_or ds i d → IsCounted E d.body
body_counted E m [] i d h l e = absurd (omega arith)
body_counted E m (x ∷ ds) zero d h l e = subst (λ y. IsCounted E y.body) (sym e) h.0
body_counted E m (x ∷ ds) (suc i) d h l e = body_counted E m ds i d h.1 (omega arith) e
