-- Scripts of a list of parts, one after the other.
use Rattle.std.proofs.Common.{◌≡◌, ◌∙◌, sym, ap, refl, subst, ℕ, zero, suc, ◌<◌, ◌≤◌, ◌+◌, ◌==◌, if◌then◌else◌, Result, Ok, Err, Bool, true, false, List, [], ◌∷◌, length, drop, get_or, Option, Some, None, arith}
use Rattle.trees.specs.Tree.{terms_of}
use Rattle.pc_terms.specs.Syntax.{Term, Terms, Done, Next, CaseOf, FixOf}
use Rattle.pc_terms.specs.View.{tree_of}
use Rattle.pc_terms.specs.Lists.{arms_of, types_of, bodies_of, rargs_of}
use Rattle.pc_terms.specs.Formed.{EachTerm}
use Rattle.pc_terms.specs.declared.term.Def.{Def}
use Rattle.pc_terms.specs.declared.term.Match.{Match}
use Rattle.pc_terms.specs.declared.term.Node.TheVariants as nodes
use Rattle.calculus_rules.specs.Environment.{Env}
use Rattle.calculus_rules.specs.Context.{Values, under}
use Rattle.calculus_rules.specs.Same.{same_labels}
use Rattle.pc_rules.specs.WellCounted.{IsCounted, IsCountedEnv, IsCountedNode, AreCountedValues}
use Rattle.pc_rules.proofs.ListSteps.{next_is, none_left}
use Rattle.cert_rules.specs.Walk.{Walk, walk_all}
use Rattle.cert_rules.specs.Scripts.{Script, parts_of, walk_parts}
use Rattle.type_cert.specs.declared.halt.WalkHalt.{WalkHalt}
use Rattle.type_cert.specs.declared.halt.WalkHalt.TheVariants as walks
use Rattle.type_cert.specs.declared.parts.Part.{Part}
use Rattle.type_cert.specs.declared.trail.Trail.{Trail}
use Rattle.type_cert.specs.Comparable.{AreScriptable}
use Rattle.type_cert.specs.Pairs.{with_pair, pair_under, term_pairs, paired_matches, paired_fixpoints, acts_of, acted, AreCountedParts}
use Rattle.type_cert.specs.Retraces.{stand, Retraces}
use Rattle.type_cert.proofs.Retracing.{retraces_on, retraces_err, retraces_pass, retraces_bar}
use Rattle.type_cert.proofs.Pairing.{matches_acted, fixpoints_acted}

-- parts from the next one on

module _ (go : Script) (V : Values) (ps : List Part) (i : ℕ) where
  abbrev acts_from : ℕ → Trail → Walk (Unit {0})
  acts_from j t = walk_all (acts_of go V (drop j ps)) (stand t)

  pub part_next : (p : Part) (W : Values) (r : Result (Unit {0}) WalkHalt) (t0 t1 t2 : Trail) → i < length ps → p ≡ get_or ps i p → W ≡ under p.under V →
      Retraces (go W true p.left p.right (stand t0)) (Ok tt) t0 t1 → Retraces (acts_from (i + 1) t1) r t1 t2 → Retraces (acts_from i t0) r t0 t2
  unfolding walk_all
  part_next p W r t0 t1 t2 h e u f g =
      rw (next_is ps i p h e)
      (retraces_on (λ _ v. walk_all (acts_of go V (drop (i + 1) ps)) v) (subst (λ X. Retraces (go X true p.left p.right (stand t0)) (Ok tt) t0 t1) u f) g)

  pub part_stops : (p : Part) (W : Values) (x : WalkHalt) (t0 t1 : Trail) → i < length ps → p ≡ get_or ps i p → W ≡ under p.under V →
      Retraces (go W true p.left p.right (stand t0)) (Err x) t0 t1 → Retraces (acts_from i t0) (Err x) t0 t1
  unfolding walk_all
  part_stops p W x t0 t1 h e u f =
      rw (next_is ps i p h e)
      (retraces_err (λ _ v. walk_all (acts_of go V (drop (i + 1) ps)) v) (subst (λ X. Retraces (go X true p.left p.right (stand t0)) (Err x) t0 t1) u f))

  pub parts_done : (t : Trail) → length ps ≤ i → Retraces (acts_from i t) (Ok tt) t t
  unfolding walk_all
  parts_done t h = rw (none_left ps i h) (retraces_pass tt t)

-- what scripts of parts are asked for

pub under_counted : (E : Env) (n : ℕ) (V : Values) → AreCountedValues E V → AreCountedValues E (under n V)
under_counted E zero V h = h
under_counted E (suc n) V h = under_counted E n V h

part_counted : (E : Env) (ps : List Part) (i : ℕ) (p : Part) → i < length ps → p ≡ get_or ps i p → AreCountedParts E ps → IsCounted E p.left × IsCounted E p.right
part_counted E [] i p h e k = absurd (omega arith)
part_counted E (q ∷ ps) zero p h e k = subst (λ (p : Part). IsCounted E p.left × IsCounted E p.right) (sym e) k.0
part_counted E (q ∷ ps) (suc i) p h e k = part_counted E ps i p (omega arith) e k.1

-- two terms stand in a script, with their values
pub part_ready : (E : Env) (V W : Values) (ps : List Part) (i : ℕ) (p : Part) → IsCountedEnv E → AreCountedValues E V → W ≡ under p.under V → i < length ps → p ≡ get_or ps i p →
    AreCountedParts E ps → AreScriptable E W p.left p.right
part_ready E V W ps i p r v u h e k =
    let q = part_counted E ps i p h e k in
    record { env = r; values = subst (λ X. AreCountedValues E X) (sym u) (under_counted E p.under V v); left = q.0; right = q.1 }

-- the parts of two well-counted terms are well counted

with_pair_some : (p : Part) (o : Option (List Part)) (ps : List Part) → with_pair p o ≡ Some ps → (qs : List Part) × (o ≡ Some qs) × (p ∷ qs ≡ ps)
with_pair_some p None ps e = absurd (cc)
with_pair_some p (Some qs) ps e = let f : p ∷ qs ≡ ps = cc in (qs, refl, f)

module _ (E : Env) where
  abbrev Countable : Option (List Part) → Type 0
  Countable o = (ps : List Part) → o ≡ Some ps → AreCountedParts E ps

  none_countable : Countable None
  none_countable ps e = absurd (cc)

  pair_countable : (p : Part) (o : Option (List Part)) → IsCounted E p.left → IsCounted E p.right → Countable o → Countable (with_pair p o)
  pair_countable p o a b h ps e =
      let s = with_pair_some p o ps e in
      subst (λ qs. AreCountedParts E qs) s.2 ((a, b), h s.0 s.1)

  if_countable : (b : Bool) (o : Option (List Part)) → Countable o → Countable (if b then o else None)
  if_countable true o h = h
  if_countable false o h = none_countable

  terms_countable : (ts us : Terms) (o : Option (List Part)) → EachTerm (IsCountedNode E) ts → EachTerm (IsCountedNode E) us → Countable o → Countable (term_pairs ts us o)
  terms_countable Done Done o h k c = c
  terms_countable Done (Next m u us) o h k c = none_countable
  terms_countable (Next n t ts) Done o h k c = none_countable
  terms_countable (Next n t ts) (Next m u us) o h k c =
      if_countable (n == m) _ (pair_countable (pair_under n t u) (term_pairs ts us o) h.0 k.0 (terms_countable ts us o h.1 k.1 c))

  end_countable : Countable (Some [])
  end_countable ps e = subst (λ qs. AreCountedParts E qs) (let f : [] ≡ ps = cc in f) tt

  pub matches_counted : (x y : Match) (ps : List Part) → IsCounted E (tree_of (nodes.Case x)) → IsCounted E (tree_of (nodes.Case y)) → paired_matches x y ≡ Some ps → AreCountedParts E ps
  matches_counted x y ps h k e =
      if_countable (same_labels (CaseOf x.family x.binders) (CaseOf y.family y.binders)) _
      (terms_countable (terms_of x.params) (terms_of y.params) _ h.1.0 k.1.0
      (pair_countable (pair_under x.binders x.ret y.ret) _ h.1.1.0 k.1.1.0
      (pair_countable (pair_under 0 x.scrut y.scrut) _ h.1.1.1.0 k.1.1.1.0
      (terms_countable (arms_of x.branches) (arms_of y.branches) (Some []) h.1.1.1.1.0 k.1.1.1.1.0 end_countable)))) ps e

  pub fixpoints_counted : (ds es : List Def) (i j : ℕ) (ps : List Part) → IsCounted E (tree_of (nodes.Fix ds i)) → IsCounted E (tree_of (nodes.Fix es j)) →
      paired_fixpoints i ds j es ≡ Some ps → AreCountedParts E ps
  fixpoints_counted ds es i j ps h k e =
      if_countable (same_labels (FixOf i (rargs_of ds)) (FixOf j (rargs_of es))) _
      (terms_countable (types_of ds) (types_of es) _ h.1.0 k.1.0
      (terms_countable (bodies_of (length ds) ds) (bodies_of (length es) es) (Some []) h.1.1.0 k.1.1.0 end_countable)) ps e

-- what the scripts of the parts answer, the two terms answer

module _ (i : ℕ) (go : Script) (V : Values) (equal : Bool) (t0 : Trail) where
  pub match_goes : (x y : Match) (b : Term) (ps : List Part) (r : Result (Unit {0}) WalkHalt) (t1 : Trail) → tree_of (nodes.Case y) ≡ b → paired_matches x y ≡ Some ps →
      Retraces (walk_all (acts_of go V ps) (stand t0)) r t0 t1 → Retraces (walk_parts i (parts_of go V equal (tree_of (nodes.Case x)) b) (stand t0)) r t0 t1
  match_goes x y b ps r t1 eb e f =
      rw (← eb) (subst (λ o. Retraces (walk_parts i o (stand t0)) r t0 t1) (sym (matches_acted go V equal x y ∙ ap (acted go V) e)) f)

  pub match_differs : (x y : Match) (b : Term) → tree_of (nodes.Case y) ≡ b → paired_matches x y ≡ None →
      Retraces (walk_parts i (parts_of go V equal (tree_of (nodes.Case x)) b) (stand t0)) (Err (walks.Barred i)) t0 t0
  match_differs x y b eb e =
      rw (← eb) (subst (λ o. Retraces (walk_parts i o (stand t0)) (Err (walks.Barred i)) t0 t0) (sym (matches_acted go V equal x y ∙ ap (acted go V) e)) (retraces_bar i t0))

  pub fix_goes : (ds es : List Def) (m n : ℕ) (b : Term) (ps : List Part) (r : Result (Unit {0}) WalkHalt) (t1 : Trail) → tree_of (nodes.Fix es n) ≡ b →
      paired_fixpoints m ds n es ≡ Some ps → Retraces (walk_all (acts_of go V ps) (stand t0)) r t0 t1 →
      Retraces (walk_parts i (parts_of go V equal (tree_of (nodes.Fix ds m)) b) (stand t0)) r t0 t1
  fix_goes ds es m n b ps r t1 eb e f =
      rw (← eb) (subst (λ o. Retraces (walk_parts i o (stand t0)) r t0 t1) (sym (fixpoints_acted go V equal ds es m n ∙ ap (acted go V) e)) f)

  pub fix_differs : (ds es : List Def) (m n : ℕ) (b : Term) → tree_of (nodes.Fix es n) ≡ b → paired_fixpoints m ds n es ≡ None →
      Retraces (walk_parts i (parts_of go V equal (tree_of (nodes.Fix ds m)) b) (stand t0)) (Err (walks.Barred i)) t0 t0
  fix_differs ds es m n b eb e =
      rw (← eb) (subst (λ o. Retraces (walk_parts i o (stand t0)) (Err (walks.Barred i)) t0 t0) (sym (fixpoints_acted go V equal ds es m n ∙ ap (acted go V) e)) (retraces_bar i t0))
