-- How a script passes, from what passes in it.
use Rattle.std.proofs.Common.{◌≡◌, ◌∙◌, sym, ap, refl, subst, ℕ, zero, suc, ◌+◌, ◌<◌, ◌≤◌, ◌==◌, ◌&&◌, Ok, Bool, true, if◌then◌else◌, List, [], ◌∷◌, ◌++◌, length, drop, take, get_or, Option, Some, None, slice_get, eq-eqb, arith}
use Rattle.std.proofs.lemmas.List.{take_all, take_more}
use Rattle.std.proofs.lemmas.Option.{get_or_from_slice_get}
use Rattle.trees.specs.Tree.{terms_of}
use Rattle.pc_terms.specs.Syntax.{Term, App, apply, head, args, CaseOf, FixOf}
use Rattle.pc_terms.specs.Lists.{arms_of, types_of, bodies_of, rargs_of, walk_def}
use Rattle.pc_terms.specs.View.{tree_of}
use Rattle.pc_terms.specs.declared.term.Branch.{Branch}
use Rattle.pc_terms.specs.declared.term.Def.{Def}
use Rattle.pc_terms.specs.declared.term.Match.{Match}
use Rattle.pc_terms.specs.declared.term.Node.TheVariants as nodes
use Rattle.calculus_rules.specs.Environment.{Env}
use Rattle.calculus_rules.specs.Context.{Values, under}
use Rattle.calculus_rules.specs.Same.{same, same_labels, same_families, same_numbers}
use Rattle.calculus_rules.proofs.Spines.{spine_is, apply_one_more}
use Rattle.pc_rules.specs.declared.meter.Account.{Account}
use Rattle.pc_rules.specs.DirectedComparison.{Test, alike}
use Rattle.pc_rules.proofs.ListSteps.{next_is}
use Rattle.pc_rules.proofs.SameTrees.{same_itself}
use Rattle.cert_rules.specs.declared.item.CertItem.{CertItem}
use Rattle.cert_rules.specs.declared.item.CertItem.TheVariants.{Same, Left, Right, Parts}
use Rattle.cert_rules.specs.Walk.{Items, WalkAct, Passed, walk_all}
use Rattle.cert_rules.specs.WalkSteps.{walk_steps}
use Rattle.cert_rules.specs.Scripts.{Script, with_part, term_parts, parts_of, walk_parts, script_by, script}
use Rattle.type_cert.specs.declared.pace.Pace.{Pace}
use Rattle.type_cert.specs.declared.trail.Trail.{Trail}
use Rattle.type_cert.specs.Passes.{paced, pace_of, one_on, Passes, AllPass, FirstPass, prefix_term, body_trees}
use Rattle.type_cert.specs.Retraces.{stand, Retraces}
use Rattle.std.proofs.lemmas.Bool.{and_from}
use Rattle.pc_rules.proofs.WeakNext.{both_true}
use Rattle.cert_rules.proofs.Traces.{on_passed}

-- lists of scripts

pub none_passes : (p : Pace) → Passes (walk_all []) p p
unfolding walk_all
none_passes p = record { end = λ u. refl; less = omega arith }

pub then_passes : (act : WalkAct) (acts : List WalkAct) (p r q : Pace) → Passes act p r → Passes (walk_all acts) r q → Passes (walk_all (act ∷ acts)) p q
unfolding walk_all
then_passes act acts p r q f g = record {
  end = λ u. on_passed (act (paced u p)) (λ _ v. walk_all acts v) tt (paced u r) (f.end u) ∙ g.end u;
  less = (let h = f.less in let k = g.less in omega arith);
}

pub one_passes : (act : WalkAct) (p q : Pace) → Passes act p q → Passes (walk_all (act ∷ [])) p q
one_passes act p q f = then_passes act [] p q q f (none_passes q)

pub goes_then : (act : WalkAct) (o : Option (List WalkAct)) (p r q : Pace) → Passes act p r → AllPass o r q → AllPass (with_part act o) p q
goes_then act None p r q f g = absurd g
goes_then act (Some acts) p r q f g = then_passes act acts p r q f g

pub nothing_left : (p : Pace) → AllPass (Some []) p p
nothing_left p = none_passes p

-- two lists, from their next ones on

module _ (go : Script) (V : Values) where
  abbrev pub terms_from : (ts us : List Term) → ℕ → Option (List WalkAct) → Option (List WalkAct)
  terms_from ts us i o = term_parts go V (terms_of (drop i ts)) (terms_of (drop i us)) o

  pub next_terms : (ts us : List Term) (i : ℕ) (t u : Term) (p r q : Pace) (o : Option (List WalkAct)) → i < length ts → i < length us → t ≡ get_or ts i t → u ≡ get_or us i u →
      Passes (go V true t u) p r → AllPass (terms_from ts us (i + 1) o) r q → AllPass (terms_from ts us i o) p q
  next_terms ts us i t u p r q o h k e d f g =
      rw (next_is ts i t h e, next_is us i u k d) (goes_then (go V true t u) (terms_from ts us (i + 1) o) p r q f g)

  abbrev pub arms_from : (xs ys : List Branch) → ℕ → Option (List WalkAct) → Option (List WalkAct)
  arms_from xs ys i o = term_parts go V (arms_of (drop i xs)) (arms_of (drop i ys)) o

  arm_first : (n m : ℕ) (act : WalkAct) (o : Option (List WalkAct)) (p q : Pace) → n ≡ m → AllPass (with_part act o) p q → AllPass (if n == m then with_part act o else None) p q
  arm_first n m act o p q e g = rw (eq-eqb n m e) g

  pub next_arms : (xs ys : List Branch) (i : ℕ) (x y : Branch) (W : Values) (p r q : Pace) (o : Option (List WalkAct)) → i < length xs → i < length ys → x ≡ get_or xs i x → y ≡ get_or ys i y →
      x.binders ≡ y.binders → W ≡ under x.binders V → Passes (go W true x.body y.body) p r → AllPass (arms_from xs ys (i + 1) o) r q → AllPass (arms_from xs ys i o) p q
  next_arms xs ys i x y W p r q o h k e d b w f g =
      let f' : Passes (go (under x.binders V) true x.body y.body) p r = subst (λ X. Passes (go X true x.body y.body) p r) w f in
      rw (next_is xs i x h e, next_is ys i y k d)
      (arm_first x.binders y.binders (go (under x.binders V) true x.body y.body) (arms_from xs ys (i + 1) o) p q b (goes_then (go (under x.binders V) true x.body y.body) (arms_from xs ys (i + 1) o) p r q f' g))

  abbrev pub types_from : (ds es : List Def) → ℕ → Option (List WalkAct) → Option (List WalkAct)
  types_from ds es i o = term_parts go V (types_of (drop i ds)) (types_of (drop i es)) o

  pub next_types : (ds es : List Def) (i : ℕ) (d e : Def) (p r q : Pace) (o : Option (List WalkAct)) → i < length ds → i < length es → d ≡ get_or ds i d → e ≡ get_or es i e →
      Passes (go V true d.ty e.ty) p r → AllPass (types_from ds es (i + 1) o) r q → AllPass (types_from ds es i o) p q
  next_types ds es i d e p r q o h k x y f g =
      rw (next_is ds i d h x, next_is es i e k y) (goes_then (go V true d.ty e.ty) (types_from ds es (i + 1) o) p r q f g)

  abbrev pub bodies_from : (n m : ℕ) (ds es : List Def) → ℕ → Option (List WalkAct) → Option (List WalkAct)
  bodies_from n m ds es i o = term_parts go V (bodies_of n (drop i ds)) (bodies_of m (drop i es)) o

  pub next_bodies : (n m : ℕ) (ds es : List Def) (i : ℕ) (d e : Def) (W : Values) (p r q : Pace) (o : Option (List WalkAct)) → n ≡ m → i < length ds → i < length es →
      d ≡ get_or ds i d → e ≡ get_or es i e → W ≡ under n V → Passes (go W true d.body e.body) p r → AllPass (bodies_from n m ds es (i + 1) o) r q → AllPass (bodies_from n m ds es i o) p q
  next_bodies n m ds es i d e W p r q o b h k x y w f g =
      let f' : Passes (go (under n V) true d.body e.body) p r = subst (λ X. Passes (go X true d.body e.body) p r) w f in
      rw (next_is ds i d h x, next_is es i e k y)
      (arm_first n m (go (under n V) true d.body e.body) (bodies_from n m ds es (i + 1) o) p q b (goes_then (go (under n V) true d.body e.body) (bodies_from n m ds es (i + 1) o) p r q f' g))

-- the bodies of two definitions, by the counts of both
pub bodies_along : (go : Script) (W : Values) (f g : ℕ → ℕ → Term) (d e : Def) (k n m : ℕ) (a b : Term) (p q : Pace) → a ≡ (walk_def f 0 k d).body → b ≡ (walk_def g 0 k e).body → k ≡ n → k ≡ m →
    Passes (go W true a b) p q → Passes (go W true (walk_def f 0 n d).body (walk_def g 0 m e).body) p q
bodies_along go W f g d e k n m a b p q x y u v h =
    let l : a ≡ (walk_def f 0 n d).body = x ∙ ap (λ i. (walk_def f 0 i d).body) u in
    let r : b ≡ (walk_def g 0 m e).body = y ∙ ap (λ i. (walk_def g 0 i e).body) v in
    subst (λ z. Passes (go W true z (walk_def g 0 m e).body) p q) l (subst (λ z. Passes (go W true a z) p q) r h)

-- the parts of two heads

labelled : (b : Bool) (o : Option (List WalkAct)) (p q : Pace) → b ≡ true → AllPass o p q → AllPass (if b then o else None) p q
labelled b o p q e g = rw e g

module _ (go : Script) (V : Values) (equal : Bool) where
  pub matches_pass : (x y : Match) (p1 p2 p3 p4 p5 : Pace) → same_families x.family y.family ≡ true → x.binders ≡ y.binders →
      FirstPass (term_parts go V (terms_of x.params) (terms_of y.params)) p1 p2 → Passes (go (under x.binders V) true x.ret y.ret) p2 p3 → Passes (go V true x.scrut y.scrut) p3 p4 →
      FirstPass (term_parts go V (arms_of x.branches) (arms_of y.branches)) p4 p5 → AllPass (parts_of go V equal (tree_of (nodes.Case x)) (tree_of (nodes.Case y))) p1 p5
  matches_pass x y p1 p2 p3 p4 p5 f b params ret scrut arms =
      let k = arms (Some []) p5 (nothing_left p5) in
      let s = goes_then (go V true x.scrut y.scrut) (term_parts go V (arms_of x.branches) (arms_of y.branches) (Some [])) p3 p4 p5 scrut k in
      let r = goes_then (go (under x.binders V) true x.ret y.ret) (with_part (go V true x.scrut y.scrut) (term_parts go V (arms_of x.branches) (arms_of y.branches) (Some []))) p2 p3 p5 ret s in
      labelled (same_labels (CaseOf x.family x.binders) (CaseOf y.family y.binders)) _ p1 p5 (and_from (same_families x.family y.family) (x.binders == y.binders) f (eq-eqb x.binders y.binders b)) (params _ p5 r)

  pub fixpoints_pass : (ds es : List Def) (i j : ℕ) (p1 p2 p3 : Pace) → ((i == j) && same_numbers (rargs_of ds) (rargs_of es)) ≡ true →
      FirstPass (term_parts go V (types_of ds) (types_of es)) p1 p2 → FirstPass (term_parts go V (body_trees ds) (body_trees es)) p2 p3 →
      AllPass (parts_of go V equal (tree_of (nodes.Fix ds i)) (tree_of (nodes.Fix es j))) p1 p3
  fixpoints_pass ds es i j p1 p2 p3 a types bodies =
      labelled (same_labels (FixOf i (rargs_of ds)) (FixOf j (rargs_of es))) _ p1 p3 a (types _ p3 (bodies (Some []) p3 (nothing_left p3)))

  -- applications
  pub applications_pass : (f a g b : Term) (p r q : Pace) → Passes (go V true f g) p r → Passes (go V true a b) r q → AllPass (parts_of go V equal (App f a) (App g b)) p q
  applications_pass f a g b p r q x y = then_passes (go V true f g) (go V true a b ∷ []) p r q x (one_passes (go V true a b) r q y)

-- the same two terms
pub parts_along : (go : Script) (V : Values) (equal : Bool) (a b x y : Term) (p q : Pace) → a ≡ x → b ≡ y → AllPass (parts_of go V equal x y) p q → AllPass (parts_of go V equal a b) p q
parts_along go V equal a b x y p q d e f =
    subst (λ z. AllPass (parts_of go V equal z b) p q) (sym d) (subst (λ z. AllPass (parts_of go V equal x z) p q) (sym e) f)

-- heads that are fixpoints and of one kind
pub fix_heads_pass : (go : Script) (V : Values) (equal : Bool) (a b : Term) (ds es : List Def) (i j : ℕ) (x : Bool) (p1 p2 p3 : Pace) → a ≡ tree_of (nodes.Fix ds i) → b ≡ tree_of (nodes.Fix es j) →
    true ≡ (x && alike a b) → FirstPass (term_parts go V (types_of ds) (types_of es)) p1 p2 → FirstPass (term_parts go V (body_trees ds) (body_trees es)) p2 p3 → AllPass (parts_of go V equal a b) p1 p3
fix_heads_pass go V equal a b ds es i j x p1 p2 p3 d e k types bodies =
    let one : alike a b ≡ alike (tree_of (nodes.Fix ds i)) (tree_of (nodes.Fix es j)) = λ n. alike (d n) (e n) in
    parts_along go V equal a b (tree_of (nodes.Fix ds i)) (tree_of (nodes.Fix es j)) p1 p3 d e
    (fixpoints_pass go V equal ds es i j p1 p2 p3 (sym one ∙ (both_true x (alike a b) (sym k)).1) types bodies)

-- the head of a term with its first arguments

pub prefix_whole : (n : ℕ) (t : Term) → n ≡ length (args t) → prefix_term n t ≡ t
prefix_whole n t e = ap (apply (head t)) (take_all n (args t) (omega (arith, e))) ∙ sym (spine_is t)

pub prefix_more : (n : ℕ) (t a : Term) → n < length (args t) → slice_get (args t) n ≡ Some a → prefix_term (n + 1) t ≡ App (prefix_term n t) a
prefix_more n t a h e =
    ap (apply (head t)) (take_more (args t) n a h ∙ ap (λ x. take n (args t) ++ x ∷ []) (get_or_from_slice_get (args t) n a a e)) ∙ apply_one_more (head t) a (take n (args t))

-- with all its arguments
pub wholes_pass : (go : Script) (V : Values) (equal : Bool) (n : ℕ) (t u : Term) (p q : Pace) → n ≡ length (args t) → n ≡ length (args u) →
    AllPass (parts_of go V equal (prefix_term n t) (prefix_term n u)) p q → AllPass (parts_of go V equal t u) p q
wholes_pass go V equal n t u p q d e f =
    parts_along go V equal t u (prefix_term n t) (prefix_term n u) p q (sym (prefix_whole n t d)) (sym (prefix_whole n u e)) f

-- the parts of two prefixes
pub prefixes_pass : (go : Script) (V : Values) (equal : Bool) (n m : ℕ) (t u a b : Term) (p r q : Pace) → n ≡ m + 1 → m < length (args t) → m < length (args u) →
    slice_get (args t) m ≡ Some a → slice_get (args u) m ≡ Some b → Passes (go V true (prefix_term m t) (prefix_term m u)) p r → Passes (go V true a b) r q →
    AllPass (parts_of go V equal (prefix_term n t) (prefix_term n u)) p q
prefixes_pass go V equal n m t u a b p r q z h k e d f g =
    rw (z, prefix_more m t a h e, prefix_more m u b k d) (applications_pass go V equal (prefix_term m t) a (prefix_term m u) b p r q f g)

-- items

module _ (E : Env) (t : Test) (go : Script) (V : Values) (equal : Bool) (a b : Term) where
  pub same_passes : (o : Option CertItem) (p : Pace) → o ≡ Some Same → a ≡ b → Passes (script_by E t go o V equal a b) p (one_on p)
  same_passes o p e d =
      let s : same a b ≡ true = ap (λ x. same x b) d ∙ same_itself b in
      record { end = λ u. rw (e, s) refl; less = omega arith }

  pub left_passes : (o : Option CertItem) (n : ℕ) (w : Term) (p r q : Pace) → o ≡ Some (Left n) → 0 < n →
      ((item : ℕ) (u : Account) → (walk_steps E V item n a (paced u (one_on p))).end ≡ Passed w (paced u r)) → r.left ≤ p.left → Passes (go V equal w b) r q → Passes (script_by E t go o V equal a b) p q
  left_passes o zero w p r q e h k l f = absurd (omega arith)
  left_passes o (suc n) w p r q e h k l f = record {
    end = λ u. rw e (on_passed (walk_steps E V p.at (suc n) a (paced u (one_on p))) (λ x v. go V equal x b v) w (paced u r) (k p.at u) ∙ f.end u);
    less = (let g = f.less in omega arith);
  }

  pub right_passes : (o : Option CertItem) (n : ℕ) (w : Term) (p r q : Pace) → o ≡ Some (Right n) → 0 < n →
      ((item : ℕ) (u : Account) → (walk_steps E V item n b (paced u (one_on p))).end ≡ Passed w (paced u r)) → r.left ≤ p.left → Passes (go V equal a w) r q → Passes (script_by E t go o V equal a b) p q
  right_passes o zero w p r q e h k l f = absurd (omega arith)
  right_passes o (suc n) w p r q e h k l f = record {
    end = λ u. rw e (on_passed (walk_steps E V p.at (suc n) b (paced u (one_on p))) (λ y v. go V equal a y v) w (paced u r) (k p.at u) ∙ f.end u);
    less = (let g = f.less in omega arith);
  }

  parts_end : (o : Option (List WalkAct)) (p q : Pace) (i : ℕ) (u : Account) → AllPass o p q → (walk_parts i o (paced u p)).end ≡ Passed tt (paced u q)
  parts_end None p q i u f = absurd f
  parts_end (Some acts) p q i u f = f.end u

  parts_less : (o : Option (List WalkAct)) (p q : Pace) → AllPass o p q → q.left ≤ p.left
  parts_less None p q f = absurd f
  parts_less (Some acts) p q f = f.less

  pub parts_pass : (o : Option CertItem) (p q : Pace) → o ≡ Some Parts → AllPass (parts_of go V equal a b) (one_on p) q → Passes (script_by E t go o V equal a b) p q
  parts_pass o p q e f = record {
    end = λ u. rw e (parts_end (parts_of go V equal a b) (one_on p) q p.at u f);
    less = parts_less (parts_of go V equal a b) (one_on p) q f;
  }

  -- and with the pace behind the item
  pub same_item : (o : Option CertItem) (p q : Pace) → o ≡ Some Same → q ≡ one_on p → a ≡ b → Passes (script_by E t go o V equal a b) p q
  same_item o p q e f d = subst (λ r. Passes (script_by E t go o V equal a b) p r) (sym f) (same_passes o p e d)

  pub parts_item : (o : Option CertItem) (p r q : Pace) → o ≡ Some Parts → r ≡ one_on p → AllPass (parts_of go V equal a b) r q → Passes (script_by E t go o V equal a b) p q
  parts_item o p r q e f g = parts_pass o p q e (subst (λ s. AllPass (parts_of go V equal a b) s q) f g)

  pub left_item : (o : Option CertItem) (n : ℕ) (w : Term) (p s r q : Pace) → o ≡ Some (Left n) → 0 < n → s ≡ one_on p →
      ((item : ℕ) (u : Account) → (walk_steps E V item n a (paced u s)).end ≡ Passed w (paced u r)) → r.left ≤ s.left → Passes (go V equal w b) r q → Passes (script_by E t go o V equal a b) p q
  left_item o n w p s r q e h f k l g =
      left_passes o n w p r q e h (λ item u. ap (λ x. (walk_steps E V item n a (paced u x)).end) (sym f) ∙ k item u) (let d = ap (λ x. x.left) f in omega (arith, d)) g

  pub right_item : (o : Option CertItem) (n : ℕ) (w : Term) (p s r q : Pace) → o ≡ Some (Right n) → 0 < n → s ≡ one_on p →
      ((item : ℕ) (u : Account) → (walk_steps E V item n b (paced u s)).end ≡ Passed w (paced u r)) → r.left ≤ s.left → Passes (go V equal a w) r q → Passes (script_by E t go o V equal a b) p q
  right_item o n w p s r q e h f k l g =
      right_passes o n w p r q e h (λ item u. ap (λ x. (walk_steps E V item n b (paced u x)).end) (sym f) ∙ k item u) (let d = ap (λ x. x.left) f in omega (arith, d)) g

-- one more rule that stands

module _ (cert : Items) (E : Env) (t : Test) (V : Values) (equal : Bool) (a b : Term) where
  pub script_passes : (n k : ℕ) (p q : Pace) → n ≡ suc k → Passes (script_by E t (script cert E t k) (slice_get cert p.at) V equal a b) p q → Passes (script cert E t n V equal a b) p q
  unfolding script
  script_passes zero k p q e f = absurd (omega arith)
  script_passes (suc j) k p q e f =
      let y : k ≡ j = omega arith in
      let f' = subst (λ m. Passes (script_by E t (script cert E t m) (slice_get cert p.at) V equal a b) p q) y f in
      record { end = f'.end; less = f'.less }

  pub same_script : (n k : ℕ) (p q : Pace) → n ≡ suc k → slice_get cert p.at ≡ Some Same → q ≡ one_on p → a ≡ b → Passes (script cert E t n V equal a b) p q
  same_script n k p q z e f d =
      subst (λ r. Passes (script cert E t n V equal a b) p r) (sym f)
      (script_passes n k p (one_on p) z (same_passes E t (script cert E t k) V equal a b (slice_get cert p.at) p e d))

  pub parts_script : (n k : ℕ) (p r q : Pace) → n ≡ suc k → slice_get cert p.at ≡ Some Parts → r ≡ one_on p → AllPass (parts_of (script cert E t k) V equal a b) r q →
      Passes (script cert E t n V equal a b) p q
  parts_script n k p r q z e f g =
      script_passes n k p q z (parts_pass E t (script cert E t k) V equal a b (slice_get cert p.at) p q e (subst (λ s. AllPass (parts_of (script cert E t k) V equal a b) s q) f g))

-- a script that passes is gone along
pub passed_retraces : (act : WalkAct) (q : Pace) (t0 t1 : Trail) → Passes act (pace_of t0) q → t1.meter.account ≡ record { left = q.left; uses = t0.meter.account.uses } →
    t1.meter.nest ≡ t0.meter.nest → t1.at ≡ q.at → Retraces (act (stand t0)) (Ok tt) t0 t1
passed_retraces act q t0 t1 f k m a = record {
  answer = f.end t0.meter.account ∙ (λ i. Passed tt (record { account = sym k i; at = sym a i }));
  after = record { nest = m; left = rw k f.less; uses = λ i. rw k (omega arith) };
}
