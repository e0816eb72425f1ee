-- How a script goes along its item.
use Rattle.std.proofs.Common.{◌≡◌, ◌∙◌, sym, ap, refl, subst, ℕ, zero, suc, ◌<◌, ◌-◌, ◌+◌, ◌||◌, ◌==◌, Result, Ok, Err, Bool, true, false, if◌then◌else◌, List, [], ◌∷◌, length, Some, None, arith, slice_get}
use Rattle.std.proofs.Math.Bool.{and-true}
use Rattle.pc_terms.specs.Syntax.{Label, SortOf, ProdOf, LambdaOf, LetInOf, AppOf, ConstOf, IndOf, ConstructOf, CaseOf, FixOf, slots, Children, End, Child, Group, Node, Term, Rel, SortT, Prod, Lambda, LetIn, App, Const, Ind, Construct, Case, Fix}
use Rattle.pc_rules.specs.declared.stop.Stop.TheVariants.{TooDeep}
use Rattle.calculus_rules.specs.Environment.{Env}
use Rattle.calculus_rules.specs.Context.{Values}
use Rattle.calculus_rules.specs.WeakHead.{WeakSteps}
use Rattle.pc_rules.specs.Follows.{IsAfter}
use Rattle.pc_rules.specs.DirectedComparison.{Test}
use Rattle.pc_rules.proofs.WeakNext.{none_some}
use Rattle.calculus_rules.specs.Same.{same, same_labels}
use Rattle.pc_rules.specs.DirectedTyping.{rule_number}
use Rattle.pc_rules.proofs.SameTrees.{not_true}
use Rattle.cert_rules.proofs.SoundScripts.{same_labels_is}
use Rattle.pc_rules.proofs.Meters.{after-refl}
use Rattle.calculus_rules.specs.Context.{Context, values}
use Rattle.calculus_rules.specs.declared.entry.Entry.TheVariants.{Assumed, Defined}
use Rattle.pc_rules.specs.declared.meter.Meter.{Meter}
use Rattle.rule_laws.proofs.KeepCounts.{steps_counted}
use Rattle.cert_rules.specs.declared.item.CertItem.TheVariants.{Same, Left, Right}
use Rattle.cert_rules.specs.Walk.{Items, WalkState, Walk, WalkEnd, WalkAct, Passed, Barred, Unpaid, Crowded, past, deep_on, walk_on, walk_all}
use Rattle.cert_rules.specs.WalkSteps.{walk_steps}
use Rattle.cert_rules.specs.Scripts.{Script, parts_of, walk_parts, script_by, script}
use Rattle.type_cert.specs.declared.halt.WalkHalt.{WalkHalt}
use Rattle.type_cert.specs.declared.halt.WalkHalt.TheVariants as walks
use Rattle.type_cert.specs.declared.trail.Trail.{Trail}
use Rattle.type_cert.specs.Retraces.{stand, WalkAnswers, Retraces}
use Rattle.type_cert.specs.Comparable.{AreScriptable, leaf_answer}
use Rattle.type_cert.specs.Going.{script_steps}
use Rattle.type_cert.proofs.Retracing.{retraces_on, retraces_err, retraces_pass, retraces_bar, nest_after}
use Rattle.cert_rules.proofs.TraceScripts.{one_end}

pub item_there : {A : Type 0} (xs : List A) (i : ℕ) (x : A) → slice_get xs i ≡ Some x → i < length xs
item_there [] i x e = absurd (none_some e)
item_there (y ∷ xs) zero x e = omega arith
item_there (y ∷ xs) (suc i) x e = let l : i < length xs = item_there xs i x e in omega arith

-- the trail behind one item
abbrev pub further : Trail → Trail
further t = record { meter = t.meter; at = t.at + 1 }

-- a refusal leaves the trail as it is
from_here : {A : Type 0} {d : Walk A} {i : ℕ} {t0 : Trail} → Retraces d (Err (walks.Barred i)) (record { meter = t0.meter; at = t0.at + 1 }) (record { meter = t0.meter; at = t0.at + 1 }) →
    Retraces d (Err (walks.Barred i)) t0 t0
from_here p = record { answer = p.answer; after = p.after }

-- a trail that is one item further
pub from_past : {A : Type 0} {d : Walk A} {r : Result A WalkHalt} {t0 t1 : Trail} → Retraces d r (record { meter = t0.meter; at = t0.at + 1 }) t1 → Retraces d r t0 t1
from_past p = record { answer = p.answer; after = p.after }

module _ (E : Env) (q : Test) (go : Script) (V : Values) (equal : Bool) (a b : Term) (t0 : Trail) where
  pub left_item : (n : ℕ) → script_by E q go (Some (Left n)) V equal a b (stand t0) ≡ walk_on (script_steps E V n a (stand t0)) (λ x v. go V equal x b v)
  unfolding walk_on
  left_item zero = refl
  left_item (suc n) = refl

  pub right_item : (n : ℕ) → script_by E q go (Some (Right n)) V equal a b (stand t0) ≡ walk_on (script_steps E V n b (stand t0)) (λ y v. go V equal a y v)
  unfolding walk_on
  right_item zero = refl
  right_item (suc n) = refl

-- the steps for which an item of a script asks

module _ (E : Env) (V : Values) (t : Term) where
  pub no_script_steps : (n : ℕ) (t0 : Trail) → n ≡ 0 → Retraces (script_steps E V n t (stand t0)) (Err (walks.Barred t0.at)) t0 t0
  no_script_steps zero t0 e = retraces_bar t0.at t0
  no_script_steps (suc n) t0 e = absurd (omega arith)

  pub some_script_steps : (n : ℕ) (u : Term) (r : Result Term WalkHalt) (t0 t1 : Trail) → 0 < n → u ≡ t → Retraces (walk_steps E V t0.at n u (stand (further t0))) r (further t0) t1 →
      Retraces (script_steps E V n t (stand t0)) r t0 t1
  some_script_steps zero u r t0 t1 h e p = absurd (omega arith)
  some_script_steps (suc n) u r t0 t1 h e p = from_past (subst (λ x. Retraces (walk_steps E V t0.at (suc n) x (stand (further t0))) r (further t0) t1) e p)

-- the walk is another by an equation
pub retraces_is : {A : Type 0} {d e : Walk A} {r : Result A WalkHalt} {t0 t1 : Trail} → d ≡ e → Retraces e r t0 t1 → Retraces d r t0 t1
retraces_is {r = r} {t0 = t0} {t1 = t1} p h = subst (λ d. Retraces d r t0 t1) (sym p) h

-- a nested rule

module _ (cert : Items) (E : Env) (q : Test) (V : Values) (equal : Bool) (a b : Term) where
  pub script_nested : (n : ℕ) (t0 t1 : Trail) → n ≡ 0 → IsAfter t0.meter t1.meter → Retraces (script cert E q n V equal a b (stand t0)) (Err (walks.Stop TooDeep)) t0 t1
  unfolding script
  script_nested zero t0 t1 e f = record { answer = refl; after = f }
  script_nested (suc n) t0 t1 e f = absurd (omega arith)

  pub script_entered : (n k : ℕ) (r : Result (Unit {0}) WalkHalt) (t0 t1 t2 t3 : Trail) → n ≡ suc k → t1.meter.account ≡ t0.meter.account → t1.meter.nest ≡ t0.meter.nest + 1 → t1.at ≡ t0.at →
      Retraces (script_by E q (script cert E q k) (slice_get cert t1.at) V equal a b (stand t1)) r t1 t2 → t3.meter.account ≡ t2.meter.account → t3.meter.nest ≡ t2.meter.nest - 1 →
      t3.at ≡ t2.at → Retraces (script cert E q n V equal a b (stand t0)) r t0 t3
  unfolding script
  script_entered zero k r t0 t1 t2 t3 z e n g p e' n' g' = absurd (omega arith)
  script_entered (suc j) k r t0 t1 t2 t3 z e n g p e' n' g' =
      let y : k ≡ j = omega arith in
      let s1 : stand t1 ≡ stand t0 = λ i. record { account = e i; at = g i } in
      let s3 : stand t2 ≡ stand t3 = λ i. record { account = sym e' i; at = sym g' i } in
      let w : WalkAnswers (script_by E q (script cert E q k) (slice_get cert t1.at) V equal a b (stand t1)) r (stand t3) =
      subst (λ s. WalkAnswers (script_by E q (script cert E q k) (slice_get cert t1.at) V equal a b (stand t1)) r s) s3 p.answer in
      let w' : WalkAnswers (script_by E q (script cert E q k) (slice_get cert t0.at) V equal a b (stand t0)) r (stand t3) =
      subst (λ s. WalkAnswers (script_by E q (script cert E q k) (slice_get cert s.at) V equal a b s) r (stand t3)) s1 w in
      record {
        answer = subst (λ m. WalkAnswers (script_by E q (script cert E q m) (slice_get cert t0.at) V equal a b (stand t0)) r (stand t3)) y w';
        after = nest_after t0 t1 t2 t3 n e p.after e' n';
      }

  -- a script of one item
  pub script_same : (n k : ℕ) (go : Script) {r : Result (Unit {0}) WalkHalt} {t0 t1 : Trail} → n ≡ suc k → slice_get cert t0.at ≡ Some Same →
      Retraces (script_by E q go (Some Same) V equal a b (stand t0)) r t0 t1 → Retraces (script cert E q n V equal a b (stand t0)) r t0 t1
  unfolding script
  script_same zero k go z e p = absurd (omega arith)
  script_same (suc j) k go {r = r} {t0 = t0} {t1 = t1} z e p = subst (λ o. Retraces (script_by E q (script cert E q j) o V equal a b (stand t0)) r t0 t1) (sym e) p

-- two parts

one_deep : (d : Bool) (e : WalkEnd (Unit {0})) → (d || deep_on e (λ _ v. false)) ≡ d
one_deep true e = refl
one_deep false (Passed a v) = refl
one_deep false (Barred i u) = refl
one_deep false Unpaid = refl
one_deep false Crowded = refl

one_act : (act : WalkAct) (s : WalkState) → walk_all (act ∷ []) s ≡ act s
unfolding walk_all walk_on
one_act act s = λ i. record { end = one_end (act s).end i; deep = one_deep (act s).deep (act s).end i }

parts_err : (x y : WalkAct) (t0 t1 : Trail) (h : WalkHalt) → Retraces (x (stand t0)) (Err h) t0 t1 → Retraces (walk_all (x ∷ y ∷ []) (stand t0)) (Err h) t0 t1
unfolding walk_all
parts_err x y t0 t1 h p = retraces_err (λ _ v. walk_all (y ∷ []) v) p

parts_go : (x y : WalkAct) (t0 t1 t2 : Trail) (r : Result (Unit {0}) WalkHalt) → Retraces (x (stand t0)) (Ok tt) t0 t1 → Retraces (y (stand t1)) r t1 t2 →
    Retraces (walk_all (x ∷ y ∷ []) (stand t0)) r t0 t2
unfolding walk_all
parts_go x y t0 t1 t2 r p q = retraces_on (λ _ v. walk_all (y ∷ []) v) p (retraces_is (one_act y (stand t1)) q)

-- the parts of two terms of one former, for which item i asks, from here on
abbrev pub parts_here : ℕ → Script → Values → Bool → WalkState → Term → Term → Walk (Unit {0})
parts_here i go V equal s a b = walk_parts i (parts_of go V equal a b) s

-- the item that asks for them, and they
abbrev pub parts_walk : Script → Values → Bool → Trail → Term → Term → Walk (Unit {0})
parts_walk go V equal t a b = parts_here t.at go V equal (past (stand t)) a b

module _ (i : ℕ) (go : Script) (V : Values) (equal : Bool) where
  pub product_err : (A B A' B' : Term) (t0 t1 : Trail) (h : WalkHalt) → Retraces (go V true A A' (stand t0)) (Err h) t0 t1 →
      Retraces (parts_here i go V equal (stand t0) (Prod A B) (Prod A' B')) (Err h) t0 t1
  product_err A B A' B' t0 t1 h p = parts_err (go V true A A') (go (None ∷ V) equal B B') t0 t1 h p

  pub product_go : (A B A' B' : Term) (t0 t1 t2 : Trail) (r : Result (Unit {0}) WalkHalt) → Retraces (go V true A A' (stand t0)) (Ok tt) t0 t1 →
      (W : Values) → W ≡ None ∷ V → Retraces (go W equal B B' (stand t1)) r t1 t2 → Retraces (parts_here i go V equal (stand t0) (Prod A B) (Prod A' B')) r t0 t2
  product_go A B A' B' t0 t1 t2 r p W u q =
      parts_go (go V true A A') (go (None ∷ V) equal B B') t0 t1 t2 r p (subst (λ X. Retraces (go X equal B B' (stand t1)) r t1 t2) u q)

  pub lambda_err : (A B A' B' : Term) (t0 t1 : Trail) (h : WalkHalt) → Retraces (go V true A A' (stand t0)) (Err h) t0 t1 →
      Retraces (parts_here i go V equal (stand t0) (Lambda A B) (Lambda A' B')) (Err h) t0 t1
  lambda_err A B A' B' t0 t1 h p = parts_err (go V true A A') (go (None ∷ V) true B B') t0 t1 h p

  pub lambda_go : (A B A' B' : Term) (t0 t1 t2 : Trail) (r : Result (Unit {0}) WalkHalt) → Retraces (go V true A A' (stand t0)) (Ok tt) t0 t1 →
      (W : Values) → W ≡ None ∷ V → Retraces (go W true B B' (stand t1)) r t1 t2 → Retraces (parts_here i go V equal (stand t0) (Lambda A B) (Lambda A' B')) r t0 t2
  lambda_go A B A' B' t0 t1 t2 r p W u q =
      parts_go (go V true A A') (go (None ∷ V) true B B') t0 t1 t2 r p (subst (λ X. Retraces (go X true B B' (stand t1)) r t1 t2) u q)

  pub app_err : (A B A' B' : Term) (t0 t1 : Trail) (h : WalkHalt) → Retraces (go V true A A' (stand t0)) (Err h) t0 t1 →
      Retraces (parts_here i go V equal (stand t0) (App A B) (App A' B')) (Err h) t0 t1
  app_err A B A' B' t0 t1 h p = parts_err (go V true A A') (go V true B B') t0 t1 h p

  pub app_go : (A B A' B' : Term) (t0 t1 t2 : Trail) (r : Result (Unit {0}) WalkHalt) → Retraces (go V true A A' (stand t0)) (Ok tt) t0 t1 →
      Retraces (go V true B B' (stand t1)) r t1 t2 → Retraces (parts_here i go V equal (stand t0) (App A B) (App A' B')) r t0 t2
  app_go A B A' B' t0 t1 t2 r p q = parts_go (go V true A A') (go V true B B') t0 t1 t2 r p q

  pub let_first : (b B t b' B' t' : Term) (t0 t1 : Trail) (h : WalkHalt) → Retraces (go V true b b' (stand t0)) (Err h) t0 t1 →
      Retraces (parts_here i go V equal (stand t0) (LetIn b B t) (LetIn b' B' t')) (Err h) t0 t1
  unfolding walk_all
  let_first b B t b' B' t' t0 t1 h p = retraces_err (λ _ v. walk_all (go V true B B' ∷ go (Some b ∷ V) true t t' ∷ []) v) p

  pub let_second : (b B t b' B' t' : Term) (t0 t1 t2 : Trail) (h : WalkHalt) → Retraces (go V true b b' (stand t0)) (Ok tt) t0 t1 →
      Retraces (go V true B B' (stand t1)) (Err h) t1 t2 → Retraces (parts_here i go V equal (stand t0) (LetIn b B t) (LetIn b' B' t')) (Err h) t0 t2
  unfolding walk_all
  let_second b B t b' B' t' t0 t1 t2 h p q =
      retraces_on (λ _ v. walk_all (go V true B B' ∷ go (Some b ∷ V) true t t' ∷ []) v) p (parts_err (go V true B B') (go (Some b ∷ V) true t t') t1 t2 h q)

  pub let_go : (b B t b' B' t' : Term) (t0 t1 t2 t3 : Trail) (r : Result (Unit {0}) WalkHalt) →
      Retraces (go V true b b' (stand t0)) (Ok tt) t0 t1 → Retraces (go V true B B' (stand t1)) (Ok tt) t1 t2 → (W : Values) → W ≡ Some b ∷ V →
      Retraces (go W true t t' (stand t2)) r t2 t3 → Retraces (parts_here i go V equal (stand t0) (LetIn b B t) (LetIn b' B' t')) r t0 t3
  unfolding walk_all
  let_go b B t b' B' t' t0 t1 t2 t3 r p q W u k =
      retraces_on (λ _ v. walk_all (go V true B B' ∷ go (Some b ∷ V) true t t' ∷ []) v) p
      (parts_go (go V true B B') (go (Some b ∷ V) true t t') t1 t2 t3 r q (subst (λ X. Retraces (go X true t t' (stand t2)) r t2 t3) u k))

-- terms with no parts

leaf_end : (i : ℕ) (x : Bool) (t : Trail) → Retraces (walk_parts i (if x then Some [] else None) (stand t)) (leaf_answer x i) t t
unfolding walk_all
leaf_end i true t = retraces_pass tt t
leaf_end i false t = retraces_bar i t

-- two terms of which being the same is having one label, with no parts
leaf_goes : (i : ℕ) (go : Script) (V : Values) (equal : Bool) (a b : Term) (x : Bool) (t : Trail) → same a b ≡ x → parts_of go V equal a b ≡ (if x then Some [] else None) →
    Retraces (parts_here i go V equal (stand t) a b) (leaf_answer (same a b) i) t t
leaf_goes i go V equal a b x t e f = rw (e, f) (leaf_end i x t)

-- without parts: or_from products, lambdas, lets, applications, matches nor fixpoints
abbrev pub IsLeaf : Term → Type 0
IsLeaf (Prod A B) = ⊥
IsLeaf (Lambda A B) = ⊥
IsLeaf (LetIn b B t) = ⊥
IsLeaf (App f a) = ⊥
IsLeaf (Case f ps n ret s bs) = ⊥
IsLeaf (Fix i rs ts bs) = ⊥
IsLeaf t = Unit {0}

-- terms of two formers

abbrev label_number : Label → ℕ
label_number (SortOf s) = 2
label_number ProdOf = 3
label_number LambdaOf = 4
label_number LetInOf = 5
label_number AppOf = 6
label_number (ConstOf k) = 7
label_number (IndOf f) = 8
label_number (ConstructOf f n) = 9
label_number (CaseOf f n) = 10
label_number (FixOf i rs) = 11

number_is : (l : Label) (ts : Children (slots l)) → rule_number (Node l ts) ≡ label_number l
number_is (SortOf s) End = refl
number_is ProdOf (Child A (Child B End)) = refl
number_is LambdaOf (Child A (Child B End)) = refl
number_is LetInOf (Child b (Child B (Child t End))) = refl
number_is AppOf (Child f (Child a End)) = refl
number_is (ConstOf k) End = refl
number_is (IndOf f) End = refl
number_is (ConstructOf f n) End = refl
number_is (CaseOf f n) (Group ps (Child r (Child s (Group bs End)))) = refl
number_is (FixOf i rs) (Group ts (Group bs End)) = refl

module _ (i : ℕ) (go : Script) (V : Values) (equal : Bool) (t : Trail) where
  leaf_labels : (l m : Label) (ts : Children (slots l)) (us : Children (slots m)) → IsLeaf (Node l ts) → label_number m ≡ label_number l →
      Retraces (parts_here i go V equal (stand t) (Node l ts) (Node m us)) (leaf_answer (same (Node l ts) (Node m us)) i) t t
  unfolding same
  leaf_labels (SortOf s) (SortOf r) End End h e =
      leaf_goes i go V equal (SortT s) (SortT r) (same_labels (SortOf s) (SortOf r)) t (and-true (same_labels (SortOf s) (SortOf r))) refl
  leaf_labels (ConstOf k) (ConstOf l) End End h e =
      leaf_goes i go V equal (Const k) (Const l) (same_labels (ConstOf k) (ConstOf l)) t (and-true (same_labels (ConstOf k) (ConstOf l))) refl
  leaf_labels (IndOf f) (IndOf g) End End h e =
      leaf_goes i go V equal (Ind f) (Ind g) (same_labels (IndOf f) (IndOf g)) t (and-true (same_labels (IndOf f) (IndOf g))) refl
  leaf_labels (ConstructOf f n) (ConstructOf g m) End End h e =
      leaf_goes i go V equal (Construct f n) (Construct g m) (same_labels (ConstructOf f n) (ConstructOf g m)) t (and-true (same_labels (ConstructOf f n) (ConstructOf g m))) refl
  leaf_labels ProdOf m (Child A (Child B End)) us h e = absurd h
  leaf_labels LambdaOf m (Child A (Child B End)) us h e = absurd h
  leaf_labels LetInOf m (Child b (Child B (Child c End))) us h e = absurd h
  leaf_labels AppOf m (Child f (Child a End)) us h e = absurd h
  leaf_labels (CaseOf f n) m (Group ps (Child r (Child s (Group bs End)))) us h e = absurd h
  leaf_labels (FixOf j rs) m (Group ts (Group bs End)) us h e = absurd h
  leaf_labels _ _ _ _ h e = absurd (cc)

  not_variable : (j : ℕ) (m : Label) (us : Children (slots m)) → rule_number (Node m us) ≡ 1 → ⊥
  not_variable j (SortOf s) End e = absurd (cc)
  not_variable j ProdOf (Child A (Child B End)) e = absurd (cc)
  not_variable j LambdaOf (Child A (Child B End)) e = absurd (cc)
  not_variable j LetInOf (Child b (Child B (Child c End))) e = absurd (cc)
  not_variable j AppOf (Child f (Child a End)) e = absurd (cc)
  not_variable j (ConstOf k) End e = absurd (cc)
  not_variable j (IndOf f) End e = absurd (cc)
  not_variable j (ConstructOf f n) End e = absurd (cc)
  not_variable j (CaseOf f n) (Group ps (Child r (Child s (Group bs End)))) e = absurd (cc)
  not_variable j (FixOf k rs) (Group ts (Group bs End)) e = absurd (cc)

  pub leaves : (a b : Term) → IsLeaf a → rule_number b ≡ rule_number a → Retraces (parts_here i go V equal (stand t) a b) (leaf_answer (same a b) i) t t
  unfolding same
  leaves (Rel j) (Rel k) h e = leaf_goes i go V equal (Rel j) (Rel k) (j == k) t refl refl
  leaves (Rel j) (Node m us) h e = absurd (not_variable j m us e)
  leaves (Node l ts) (Rel k) h e = absurd (not_variable k l ts (sym e))
  leaves (Node l ts) (Node m us) h e = leaf_labels l m ts us h (sym (number_is m us) ∙ e ∙ number_is l ts)

no_parts : (go : Script) (V : Values) (equal : Bool) (a b : Term) → (rule_number a ≡ rule_number b → ⊥) → parts_of go V equal a b ≡ None
no_parts go V equal (Rel i) (Rel j) n = absurd (n refl)
no_parts go V equal (Rel i) (Node m us) n = refl
no_parts go V equal (Node l ts) (Rel j) n = refl
no_parts go V equal (Node l ts) (Node m us) n =
    let e : same_labels l m ≡ false = not_true (same_labels l m) (λ x. n (number_is l ts ∙ ap label_number (same_labels_is l m x) ∙ sym (number_is m us))) in
    rw e refl

pub formers_differ : (go : Script) (V : Values) (equal : Bool) (a b : Term) (t : Trail) → (rule_number a ≡ rule_number b → ⊥) →
    Retraces (parts_walk go V equal t a b) (Err (walks.Barred t.at)) t t
formers_differ go V equal a b t n = rw (no_parts go V equal a b n) (from_here (retraces_bar t.at (further t)))

-- the values under a definition
pub values_defined : (c d : Context) (b B b' : Term) → d ≡ Defined b B ∷ c → b ≡ b' → values d ≡ Some b' ∷ values c
values_defined c d b B b' e f = ap values e ∙ ap (λ x. Some x ∷ values c) f

-- the values under one more entry
pub values_under : (c d : Context) (A B : Term) → d ≡ Assumed A ∷ c → A ≡ B → values d ≡ None ∷ values c
values_under c d A B e f = ap values e

pub after_same : (m0 m1 : Meter) → m1.account ≡ m0.account → m1.nest ≡ m0.nest → IsAfter m0 m1
after_same m0 m1 e n = let r = after-refl m0 in record { nest = n; left = rw e r.left; uses = λ i. rw e (r.uses i) }

pub left_ready : {E : Env} {V : Values} {a b x : Term} → AreScriptable E V a b → WeakSteps E V a x → AreScriptable E V x b
left_ready {E = E} r p = record { env = r.env; values = r.values; left = steps_counted E r.env.declarations r.values p r.left; right = r.right }

pub right_ready : {E : Env} {V : Values} {a b y : Term} → AreScriptable E V a b → WeakSteps E V b y → AreScriptable E V a y
right_ready {E = E} r p = record { env = r.env; values = r.values; left = r.left; right = steps_counted E r.env.declarations r.values p r.right }
