-- The certified walk accepts what the directed rules of a whole environment write.
use Rattle.std.proofs.Common.{◌≡◌, ◌∙◌, ℕ, suc, ◌+◌, ◌≤◌, ◌||◌, ◌⊎◌, inl, inr, if◌then◌else◌, List, [], ◌∷◌, ◌++◌, length, Option, Some, None, refl, sym, ap, subst, arith, slice_get, length-append}
use Rattle.std.proofs.lemmas.Bool.{eq-eqb}
use Rattle.universe_levels.specs.declared.level.Level.{Level}
use Rattle.universe_levels.specs.declared.constraint.Constraint.{Constraint}
use Rattle.pc_terms.specs.Syntax.{Term}
use Rattle.pc_terms.specs.Formed.{IsFormed}
use Rattle.calculus_rules.specs.declared.declaration.Kept.{Kept}
use Rattle.pc_rules.specs.declared.broken.Broken.{Broken}
use Rattle.pc_rules.specs.declared.broken.Place.{Place}
use Rattle.pc_rules.specs.declared.broken.Place.TheVariants.{Declaration as AtDeclaration, Main as AtMain}
use Rattle.pc_rules.specs.declared.meter.Account.{Account}
use Rattle.calculus_rules.specs.Environment.{Env}
use Rattle.calculus_rules.specs.Accepted.{Accepted, empty, env}
use Rattle.pc_rules.specs.DirectedRun as run
use Rattle.pc_rules.specs.DirectedRun.{Run}
use Rattle.pc_rules.specs.DirectedPlaces.{Outcome, Gives, Breaks, Placed, outcome_at, outcome_then, outcome_deep, and_then, placed}
use Rattle.pc_rules.specs.DirectedDeclarations.{Spends, Nests, Given, Checked, accepts, declaration_rule, declarations_rule, first_repeated, first_undeclared_end, graph_rule, constraints_rule, levels_rule, environment_rule}
use Rattle.pc_rules.specs.DirectedComparison.{Test, IsTest}
use Rattle.pc_rules.specs.DirectedTyping.{infer}
use Rattle.pc_rules.specs.WellCounted.{HasCountedDeclarations}
use Rattle.rule_laws.specs.Declarations.{AllGivenFormed}
use Rattle.rule_laws.proofs.Environments.{nothing_counted}
use Rattle.rule_laws.proofs.Outcomes.{given_value}
use Rattle.cert_rules.specs.declared.item.CertItem.{CertItem}
use Rattle.cert_rules.specs.Walk.{Items, WalkState, Walk, Passed, Crowded, pass, bar_here, walk_on}
use Rattle.cert_rules.specs.WalkTyping.{walk_infer}
use Rattle.cert_rules.specs.WalkDeclarations.{walk_declaration, walk_end, walk_main, walk_declarations, walk_unless, walk_environment, start}
use Rattle.cert_rules.specs.Writing.{Wrote, wrote, end_forgotten, forgotten}
use Rattle.cert_rules.specs.MakingTyping.{make_infer}
use Rattle.cert_rules.specs.MakingDeclarations.{make_declaration, Made, outcome_before, write_placed, gives_made, make_declarations, make_graph, make_constraints, make_levels, make_environment, outcome_forgotten, placed_forgotten}
use Rattle.cert_rules.specs.MadeLaws.{Accepts}
use Rattle.cert_rules.proofs.Traces.{on_crowded, on_passed, Lies, lies_parts, Led}
use Rattle.cert_rules.proofs.TraceRules.{infer_trace}
use Rattle.cert_rules.proofs.TraceBlocks.{declaration_trace}

-- outcomes

account_or : {A : Type 0} → Outcome A → Account → Account
account_or (Gives a u) o = u
account_or _ o = o

given_account : {A : Type 0} {a b : A} {u v : Account} → Gives a u ≡ Gives b v → u ≡ v
unfolding account_or
given_account {u = u} e = ap (λ o. account_or o u) e

breaks_gives : {A : Type 0} {p : Place} {b : Broken} {u v : Account} {a : A} → Breaks p b u ≡ Gives a v → ⊥
breaks_gives e = cc

before_gives : {A : Type 0} (is : Items) (o : Outcome (Wrote A)) (r : Wrote A) (v : Account) → outcome_before is o ≡ Gives r v →
    (x : Wrote A) × (o ≡ Gives x v) × (wrote (is ++ x.items) x.value ≡ r)
before_gives is (Gives x u) r v h = (x, ap (λ w. Gives x w) (given_account h), given_value h)
before_gives is (Breaks p b u) r v h = absurd (breaks_gives h)
before_gives is Spends r v h = absurd (cc)
before_gives is Nests r v h = absurd (cc)

module _ {A B : Type 0} (p : Place) (k : A → Account → Placed (Wrote B)) where
  abbrev Placings : run.End (Wrote A) → Wrote B → Account → Type 0
  Placings e r v =
      (w : Wrote A) × (m : Account) × (e ≡ run.Done w m) × ((x : Wrote B) × ((k w.value m).outcome ≡ Gives x v) × (wrote (w.items ++ x.items) x.value ≡ r))

  placed_end : (e : run.End (Wrote A)) (r : Wrote B) (v : Account) → outcome_then (outcome_at p e) (λ w u. outcome_before w.items (k w.value u).outcome) ≡ Gives r v → Placings e r v
  placed_end (run.Done w m) r v h = let b = before_gives w.items (k w.value m).outcome r v h in (w, m, refl, (b.0, b.1, b.2))
  placed_end (run.Refused b u) r v h = absurd (breaks_gives h)
  placed_end run.NoUnit r v h = absurd (cc)
  placed_end run.Nested r v h = absurd (cc)

  placed_both : (d : Run (Wrote A)) (r : Wrote B) (v : Account) → (write_placed p d k).outcome ≡ Gives r v → Placings d.end r v
  unfolding write_placed
  placed_both d r v h = placed_end d.end r v h

-- what is forgotten

before_forgotten : {A : Type 0} (is : Items) (o : Outcome (Wrote A)) → outcome_forgotten (outcome_before is o) ≡ outcome_forgotten o
before_forgotten is (Gives x u) = refl
before_forgotten is (Breaks p b u) = refl
before_forgotten is Spends = refl
before_forgotten is Nests = refl

module _ {A B : Type 0} (p : Place) (kg : A → Account → Placed (Wrote B)) (kd : A → Account → Placed B) where
  outcome_on : (e : run.End (Wrote A)) → ((w : Wrote A) (u : Account) → e ≡ run.Done w u → placed_forgotten (kg w.value u) ≡ kd w.value u) →
      outcome_forgotten (outcome_then (outcome_at p e) (λ w u. outcome_before w.items (kg w.value u).outcome)) ≡ outcome_then (outcome_at p (end_forgotten e)) (λ a u. (kd a u).outcome)
  outcome_on (run.Done w u) h = before_forgotten w.items (kg w.value u).outcome ∙ ap (λ r. r.outcome) (h w u refl)
  outcome_on (run.Refused b u) h = refl
  outcome_on run.NoUnit h = refl
  outcome_on run.Nested h = refl

  deep_on : (e : run.End (Wrote A)) → ((w : Wrote A) (u : Account) → e ≡ run.Done w u → placed_forgotten (kg w.value u) ≡ kd w.value u) →
      outcome_deep (outcome_at p e) (λ w u. (kg w.value u).deep) ≡ outcome_deep (outcome_at p (end_forgotten e)) (λ a u. (kd a u).deep)
  deep_on (run.Done w u) h = ap (λ r. r.deep) (h w u refl)
  deep_on (run.Refused b u) h = refl
  deep_on run.NoUnit h = refl
  deep_on run.Nested h = refl

  placed_itself : (r : Run (Wrote A)) → ((w : Wrote A) (u : Account) → r.end ≡ run.Done w u → placed_forgotten (kg w.value u) ≡ kd w.value u) →
      placed_forgotten (write_placed p r kg) ≡ placed p (forgotten r) kd
  unfolding and_then write_placed
  placed_itself r h = λ i. record { outcome = outcome_on r.end h i; deep = r.deep || deep_on r.end h i }

  placed_forgets : (r : Run (Wrote A)) (d : Run A) → forgotten r ≡ d → ((w : Wrote A) (u : Account) → r.end ≡ run.Done w u → placed_forgotten (kg w.value u) ≡ kd w.value u) →
      placed_forgotten (write_placed p r kg) ≡ placed p d kd
  placed_forgets r d e h = placed_itself r h ∙ ap (λ x. placed p x kd) e

module _ (levels : ℕ) (cs : List Constraint) (q : Test) (test : IsTest levels cs q) (n : ℕ) where
  declarations_forget : (i : ℕ) (ds : List Kept) (rest : List Given) (main : Term) (u : Account) → Accepted levels cs ds → HasCountedDeclarations (env levels cs ds) → AllGivenFormed rest → IsFormed main →
      placed_forgotten (make_declarations levels cs q n i ds rest main u) ≡ declarations_rule levels cs q n i ds rest main u
  unfolding declarations_rule make_declarations
  declarations_forget i ds [] main u a w fs fm =
      let E : Env = env levels cs ds in
      placed_forgets AtMain (λ T v. gives_made E T v) (λ T v. accepts E T v) (make_infer E q n [] main u) (infer E q n [] main u)
      ((infer_trace [] E w q test n 0 [] main tt fm).forgets u) (λ w u e. refl)
  declarations_forget i ds (d ∷ rest) main u a w fs fm =
      let E : Env = env levels cs ds in
      let t = declaration_trace [] q 0 levels cs ds test a w n d fs.0 in
      placed_forgets (AtDeclaration i) (λ k v. make_declarations levels cs q n (suc i) (k ∷ ds) rest main v) (λ k v. declarations_rule levels cs q n (suc i) (k ∷ ds) rest main v)
      (make_declaration E q n d u) (declaration_rule E q n d u) (t.forgets u)
      (λ x v e. let c = (t.leads u x v e).0 in declarations_forget (suc i) (x.value ∷ ds) rest main v c.accepted c.counted fs.1 fm)

graph_forgets : (o : Option (List ℕ)) (g : Made) (d : Checked) (u : Account) → placed_forgotten g ≡ d → placed_forgotten (make_graph o g u) ≡ graph_rule o d u
graph_forgets None g d u e = e
graph_forgets (Some is) g d u e = refl

constraints_forget : (o : Option (ℕ × Level)) (g : Made) (d : Checked) (u : Account) → placed_forgotten g ≡ d → placed_forgotten (make_constraints o g u) ≡ constraints_rule o d u
constraints_forget None g d u e = e
constraints_forget (Some p) g d u e = refl

levels_forget : (o : Option (ℕ × Level)) (g : Made) (d : Checked) (u : Account) → placed_forgotten g ≡ d → placed_forgotten (make_levels o g u) ≡ levels_rule o d u
levels_forget None g d u e = e
levels_forget (Some p) g d u e = refl

pub environment_forgets : (levels : List Level) (cs : List Constraint) (cycle : Option (List ℕ)) (q : Test) → IsTest (length levels) cs q →
    (n : ℕ) (ds : List Given) (main : Term) (u : Account) → AllGivenFormed ds → IsFormed main →
    placed_forgotten (make_environment levels cs cycle q n ds main u) ≡ environment_rule levels cs cycle q n ds main u
environment_forgets levels cs cycle q test n ds main u fs fm =
    levels_forget (first_repeated 0 [] levels) _ _ u
    (constraints_forget (first_undeclared_end (length levels) 0 cs) _ _ u
    (graph_forgets cycle _ _ u (declarations_forget (length levels) cs q test n 0 [] ds main u empty (nothing_counted (length levels) cs) fs fm)))

-- walks to the certificate's end

module _ (cert : Items) where
  abbrev EndsSo : {A : Type 0} → Walk A → A → ℕ → ℕ → Type 0
  EndsSo w a n m = (w.end ≡ Crowded) ⊎ ((s : WalkState) × (w.end ≡ Passed a s) × (n ≤ s.account.left + m))

  -- these items are all that is left of the certificate, and the walk goes along them
  record LedToEnd {A : Type 0} (u v : Account) (is : Items) (h : WalkState → Walk A) (a : A) : Type 0 where
    falls : v.left ≤ u.left
    walks : (s : WalkState) → Lies cert s.at is → s.at + length is ≡ length cert → u.left ≤ s.account.left + v.left → EndsSo (h s) a (s.account.left + v.left) u.left

  module _ {A B : Type 0} (u v w : Account) (is js : Items) (h : WalkState → Walk A) (k : A → WalkState → Walk B) (a : A) (b : B) (p : Led cert u v is h a) (q : LedToEnd v w js (k a) b) where
    end_further : (s : WalkState) → Lies cert (s.at + length is) js → s.at + length (is ++ js) ≡ length cert → u.left ≤ s.account.left + w.left → (x : WalkState) →
        (h s).end ≡ Passed a x → x.at ≡ s.at + length is → s.account.left + v.left ≤ x.account.left + u.left → EndsSo (walk_on (h s) k) b (s.account.left + w.left) u.left
    end_further s l z m x e at n =
        let f1 : v.left ≤ u.left = p.falls in
        let f2 : w.left ≤ v.left = q.falls in
        let g : length (is ++ js) ≡ length is + length js = length-append is js in
        let o : s.at + (length is + length js) ≡ length cert = sym (ap (λ i. s.at + i) g) ∙ z in
        let y : x.at + length js ≡ length cert = omega arith in
        elim (q.walks x (subst (λ i. Lies cert i js) (sym at) l) y (omega arith)) [
          | inl c ↦ inl (on_passed (h s) k a x e ∙ c)
          | inr r ↦ let t : x.account.left + w.left ≤ r.0.account.left + v.left = r.2 in inr (r.0, on_passed (h s) k a x e ∙ r.1, omega arith)
        ]

    end_walks : (s : WalkState) → Lies cert s.at (is ++ js) → s.at + length (is ++ js) ≡ length cert → u.left ≤ s.account.left + w.left →
        EndsSo (walk_on (h s) k) b (s.account.left + w.left) u.left
    end_walks s l z m =
        let f1 : v.left ≤ u.left = p.falls in
        let f2 : w.left ≤ v.left = q.falls in
        let ls = lies_parts cert is js s.at l in
        elim (p.walks s ls.0 (omega arith)) [
          | inl c ↦ inl (on_crowded (h s) k c)
          | inr r ↦ end_further s ls.1 z m r.0 r.1 r.2 r.3
        ]

    led_to_end : LedToEnd u w (is ++ js) (λ s. walk_on (h s) k) b
    led_to_end = record { falls = (let f1 : v.left ≤ u.left = p.falls in let f2 : w.left ≤ v.left = q.falls in omega arith); walks = end_walks }

  end_passes : (E : Env) (T : Term) (s : WalkState) → s.at ≡ length cert → (walk_end cert E T s).end ≡ Passed (E, T) s
  end_passes E T s e = ap (λ b. (if b then pass (E, T) s else bar_here s).end) (eq-eqb s.at (length cert) e)

  at_end : (E : Env) (T : Term) (u v : Account) (r : Wrote (Env × Term)) → Gives (wrote [] (E, T)) u ≡ Gives r v → LedToEnd u v r.items (λ s. walk_end cert E T s) r.value
  at_end E T u v r e =
      subst (λ r. LedToEnd u v r.items (λ s. walk_end cert E T s) r.value) (given_value e)
      (subst (λ v. LedToEnd u v [] (λ s. walk_end cert E T s) (E, T)) (given_account e)
      (record {
        falls = omega arith;
        walks = λ s l z m. (let y : s.at ≡ length cert = omega arith in inr (s, end_passes E T s y, omega arith));
      }))

  module _ (levels : ℕ) (cs : List Constraint) (q : Test) (test : IsTest levels cs q) (n m : ℕ) where
    declarations_led : (i : ℕ) (ds : List Kept) (rest : List Given) (main : Term) (u v : Account) (r : Wrote (Env × Term)) → Accepted levels cs ds → HasCountedDeclarations (env levels cs ds) →
        AllGivenFormed rest → IsFormed main → (make_declarations levels cs q n i ds rest main u).outcome ≡ Gives r v →
        LedToEnd u v r.items (λ s. walk_declarations cert levels cs q m ds rest main s) r.value
    unfolding make_declarations walk_declarations
    declarations_led i ds [] main u v r a w fs fm e =
        let E : Env = env levels cs ds in
        let s = placed_both AtMain (λ T v. gives_made E T v) (make_infer E q n [] main u) r v e in
        let x = s.3.0 in
        let t = ((infer_trace cert E w q test n m [] main tt fm).leads u s.0 s.1 s.2).1 in
        subst (λ r. LedToEnd u v r.items (λ z. walk_main cert E q m main z) r.value) s.3.2
        (led_to_end u s.1 v s.0.items x.items (λ z. walk_infer cert E q m [] main z) (λ T z. walk_end cert E T z) s.0.value x.value t (at_end E s.0.value s.1 v x s.3.1))
    declarations_led i ds (d ∷ rest) main u v r a w fs fm e =
        let E : Env = env levels cs ds in
        let s = placed_both (AtDeclaration i) (λ k v. make_declarations levels cs q n (suc i) (k ∷ ds) rest main v) (make_declaration E q n d u) r v e in
        let x = s.3.0 in
        let t = (declaration_trace cert q m levels cs ds test a w n d fs.0).leads u s.0 s.1 s.2 in
        let more = declarations_led (suc i) (s.0.value ∷ ds) rest main s.1 v x t.0.accepted t.0.counted fs.1 fm s.3.1 in
        subst (λ r. LedToEnd u v r.items (λ z. walk_on (walk_declaration cert E q m d z) (λ k v. walk_declarations cert levels cs q m (k ∷ ds) rest main v)) r.value) s.3.2
        (led_to_end u s.1 v s.0.items x.items (λ z. walk_declaration cert E q m d z) (λ k v. walk_declarations cert levels cs q m (k ∷ ds) rest main v) s.0.value x.value t.1 more)

-- the whole

graph_passed : (o : Option (List ℕ)) (g : Made) (u v : Account) (r : Wrote (Env × Term)) → (make_graph o g u).outcome ≡ Gives r v → (o ≡ None) × (g.outcome ≡ Gives r v)
graph_passed None g u v r h = (refl, h)
graph_passed (Some is) g u v r h = absurd (breaks_gives h)

constraints_passed : (o : Option (ℕ × Level)) (g : Made) (u v : Account) (r : Wrote (Env × Term)) → (make_constraints o g u).outcome ≡ Gives r v → (o ≡ None) × (g.outcome ≡ Gives r v)
constraints_passed None g u v r h = (refl, h)
constraints_passed (Some p) g u v r h = absurd (breaks_gives h)

levels_passed : (o : Option (ℕ × Level)) (g : Made) (u v : Account) (r : Wrote (Env × Term)) → (make_levels o g u).outcome ≡ Gives r v → (o ≡ None) × (g.outcome ≡ Gives r v)
levels_passed None g u v r h = (refl, h)
levels_passed (Some p) g u v r h = absurd (breaks_gives h)

pub unless_none : {A : Type 0} (o : Option A) (go : Walk (Env × Term)) (s : WalkState) → o ≡ None → walk_unless o go s ≡ go
unless_none o go s e = ap (λ o. walk_unless o go s) e

-- a certificate lies in itself
item_after : (xs ys : Items) (y : CertItem) → slice_get (xs ++ (y ∷ ys)) (length xs) ≡ Some y
item_after [] ys y = refl
item_after (x ∷ xs) ys y = item_after xs ys y

append_one : (xs : Items) (y : CertItem) (ys : Items) → (xs ++ (y ∷ [])) ++ ys ≡ xs ++ (y ∷ ys)
append_one [] y ys = refl
append_one (x ∷ xs) y ys = ap (λ zs. x ∷ zs) (append_one xs y ys)

lies_after : (cert xs ys : Items) → cert ≡ xs ++ ys → Lies cert (length xs) ys
lies_after cert xs [] e = tt
lies_after cert xs (y ∷ ys) e =
    let z : length (xs ++ (y ∷ [])) ≡ length xs + 1 = length-append xs (y ∷ []) in (
      ap (λ c. slice_get c (length xs)) e ∙ item_after xs ys y,
      subst (λ i. Lies cert i ys) z (lies_after cert (xs ++ (y ∷ [])) ys (e ∙ sym (append_one xs y ys))),
    )

pub environment_accepted : (levels : List Level) (cs : List Constraint) (cycle : Option (List ℕ)) (q : Test) → IsTest (length levels) cs q →
    (n : ℕ) (ds : List Given) (main : Term) (u v : Account) (r : Wrote (Env × Term)) → AllGivenFormed ds → IsFormed main →
    (make_environment levels cs cycle q n ds main u).outcome ≡ Gives r v → (m : ℕ) (w : Account) → u.left ≤ w.left + v.left →
    Accepts (walk_environment r.items levels cs cycle q m ds main (start w)) r.value (w.left + v.left) u.left
environment_accepted levels cs cycle q test n ds main u v r fs fm e m w l =
    let k : ℕ = length levels in
    let g3 : Made = make_declarations k cs q n 0 [] ds main u in
    let g2 : Made = make_graph cycle g3 u in
    let g1 : Made = make_constraints (first_undeclared_end k 0 cs) g2 u in
    let p1 = levels_passed (first_repeated 0 [] levels) g1 u v r e in
    let p2 = constraints_passed (first_undeclared_end k 0 cs) g2 u v r p1.1 in
    let p3 = graph_passed cycle g3 u v r p2.1 in
    let cert : Items = r.items in
    let s : WalkState = start w in
    let h3 : Walk (Env × Term) = walk_declarations cert k cs q m [] ds main s in
    let h2 : Walk (Env × Term) = walk_unless cycle h3 s in
    let h1 : Walk (Env × Term) = walk_unless (first_undeclared_end k 0 cs) h2 s in
    let is : walk_unless (first_repeated 0 [] levels) h1 s ≡ h3 =
    unless_none (first_repeated 0 [] levels) h1 s p1.0 ∙ unless_none (first_undeclared_end k 0 cs) h2 s p2.0 ∙ unless_none cycle h3 s p3.0 in
    let led = declarations_led cert k cs q test n m 0 [] ds main u v r empty (nothing_counted k cs) fs fm p3.1 in
    let z : 0 + length cert ≡ length cert = omega arith in
    subst (λ x. Accepts x r.value (w.left + v.left) u.left) (sym is) (led.walks s (lies_after cert [] cert refl) z l)
