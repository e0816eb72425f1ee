-- How answers follow the tests that wait, one by one.
use Rattle.std.proofs.Common.{◌≡◌, ◌∙◌, ℕ, Bool, true, false, if◌then◌else◌, List, [], ◌∷◌, ◌++◌, map, Result, Ok, Err, refl, sym, ap, subst}
use Rattle.std.proofs.lemmas.List.{map-append}
use Rattle.pc_terms.specs.declared.leaf.Name.{Name}
use Rattle.pc_terms.specs.Syntax.{Term}
use Rattle.calculus_rules.specs.declared.target.Target.{Target}
use Rattle.pc_rules.specs.declared.broken.Broken.TheVariants.{NotPositive}
use Rattle.pc_rules.specs.declared.meter.Account.{Account}
use Rattle.pc_rules.specs.declared.meter.Meter.{Meter}
use Rattle.pc_rules.specs.declared.stop.Halt.{Halt}
use Rattle.pc_rules.specs.declared.stop.Halt.TheVariants.{Broken as Refusal}
use Rattle.calculus_rules.specs.Environment.{Env}
use Rattle.pc_rules.specs.DirectedRun.{Run, done, refused, bind}
use Rattle.pc_rules.specs.DirectedPositivity.{both, good, nestable, is_positive}
use Rattle.pc_rules.specs.DirectedDeclarations.{positive_rule}
use Rattle.pc_rules.specs.Follows.{Follows}
use Rattle.pc_rules.proofs.Following.{follows_bind, follows_err, follows_done, follows_refused}
use Rattle.pc_rules.proofs.Leaving.{leaving}
use Rattle.inductive_check.specs.declared.waiting.Test.{Test}
use Rattle.inductive_check.specs.Waiting.{Waiting, waiting, type_waits, each_test, Goes}
use Rattle.pc_rules.proofs.Leading.{bind_unit}

-- a test is put behind those that wait
pub pushed : (old new : List Test) (t : Test) → new ≡ old ++ (t ∷ []) → map waiting new ≡ map waiting old ++ (waiting t ∷ [])
pushed old new t e = ap (λ xs. map waiting xs) e ∙ map-append waiting old (t ∷ [])

module _ (E : Env) (before after : List Test) where
  -- no test is left
  pub none_waits : (m : Meter) → before ≡ after ++ [] → after ≡ [] → Follows (each_test E (map waiting before) m.account) (Ok true) m m
  none_waits m p z = subst (λ xs. Follows (each_test E (map waiting xs) m.account) (Ok true) m m) (sym (p ∙ ap (λ ys. ys ++ []) z)) (follows_done true m)

  module _ (x : Test) (p : before ≡ after ++ (x ∷ [])) where
    popped : map waiting before ≡ map waiting after ++ (waiting x ∷ [])
    popped = pushed after before x p

    -- the last test stops
    pub test_stops : (r : Result Bool Halt) (m0 m1 : Meter) → Follows (each_test E (map waiting after ++ (waiting x ∷ [])) m0.account) r m0 m1 →
        Follows (each_test E (map waiting before) m0.account) r m0 m1
    test_stops r m0 m1 f = subst (λ xs. Follows (each_test E xs m0.account) r m0 m1) (sym popped) f

    -- it fails
    pub test_fails : (left : List Waiting) (m0 m1 : Meter) (b : Bool) → b ≡ false → Goes E (map waiting after) (waiting x) left m0 m1 b →
        Follows (each_test E (map waiting before) m0.account) (Ok false) m0 m1
    test_fails left m0 m1 b e g =
        test_stops (Ok false) m0 m1 (subst (λ b. Goes E (map waiting after) (waiting x) left m0 m1 b) e g (Ok false) m1 (follows_done false m1))

    -- others wait in its place
    pub test_goes : (left : List Waiting) (m0 m1 : Meter) (b : Bool) → b ≡ true → Goes E (map waiting after) (waiting x) left m0 m1 b →
        (r : Result Bool Halt) (n : Meter) → Follows (each_test E left m1.account) r m1 n → Follows (each_test E (map waiting before) m0.account) r m0 n
    test_goes left m0 m1 b e g r n f =
        test_stops r m0 n (subst (λ b. Goes E (map waiting after) (waiting x) left m0 m1 b) e g r n f)

-- one test alone
if_same : (b : Bool) (v : Account) → (if b then done true v else done false v) ≡ done b v
if_same true v = refl
if_same false v = refl

alone : (d : Run Bool) → both d (λ v. done true v) ≡ d
alone d = (λ i. bind d (λ b v. if_same b v i)) ∙ sym (bind_unit d)

pub whole_test : (E : Env) (xs : List Waiting) (g : Target) (j : ℕ) (A : Term) (r : Result Bool Halt) (m n : Meter) → xs ≡ type_waits g j A ∷ [] →
    Follows (each_test E xs m.account) r m n → Follows (good E (nestable E m.account.left) g j A m.account) r m n
whole_test E xs g j A r m n e f =
    subst (λ d. Follows d r m n) (ap (λ xs. each_test E xs m.account) e ∙ alone (good E (nestable E m.account.left) g j A m.account)) f

-- the test of an argument's type, as a rule
module _ (E : Env) (k : Name) (f n : ℕ) (A : Term) where
  abbrev rule_then : Bool → Account → Run (Unit {0})
  rule_then b v = if b then done tt v else refused (NotPositive f n) v

  pub positive_stops : (h : Halt) (m0 m1 : Meter) → Follows (is_positive E k A m0.account) (Err h) m0 m1 → Follows (positive_rule E k f n A m0.account) (Err h) m0 m1
  positive_stops h m0 m1 p = follows_err (is_positive E k A m0.account) rule_then h m0 m1 p (search leaving)

  pub positive_holds : (b : Bool) (m0 m1 : Meter) → b ≡ true → Follows (is_positive E k A m0.account) (Ok b) m0 m1 → Follows (positive_rule E k f n A m0.account) (Ok tt) m0 m1
  positive_holds true m0 m1 e p = follows_bind (is_positive E k A m0.account) rule_then true (Ok tt) m0 m1 m1 p (follows_done tt m1)
  positive_holds false m0 m1 e p = absurd (cc)

  pub positive_fails : (b : Bool) (m0 m1 : Meter) → b ≡ false → Follows (is_positive E k A m0.account) (Ok b) m0 m1 →
      Follows (positive_rule E k f n A m0.account) (Err (Refusal (NotPositive f n))) m0 m1
  positive_fails false m0 m1 e p = follows_bind (is_positive E k A m0.account) rule_then false (Err (Refusal (NotPositive f n))) m0 m1 m1 p (follows_refused (NotPositive f n) m1)
  positive_fails true m0 m1 e p = absurd (cc)
