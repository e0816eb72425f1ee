-- Constants.
use Rattle.std.proofs.Common.{ℕ, ◌-◌, refl, subst, [], Option, Some, None, Result, Ok, Err}
use Rattle.universe_levels.specs.declared.sort.Sort.{Sort}
use Rattle.pc_terms.specs.declared.leaf.Name.{Name}
use Rattle.pc_terms.specs.Syntax.{Term, SortT}
use Rattle.calculus_rules.specs.declared.declaration.Kept.{Kept}
use Rattle.calculus_rules.specs.declared.declaration.Kept.TheVariants.{Constant}
use Rattle.pc_rules.specs.declared.meter.Account.{Account}
use Rattle.pc_rules.specs.declared.meter.Meter.{Meter}
use Rattle.pc_rules.specs.declared.stop.Stop.TheVariants.{Memory}
use Rattle.pc_rules.specs.declared.stop.Halt.{Halt}
use Rattle.pc_rules.specs.declared.stop.Halt.TheVariants.{Stop}
use Rattle.calculus_rules.specs.Environment.{Env}
use Rattle.pc_rules.specs.Lookup.{IsNew}
use Rattle.calculus_rules.specs.Accepted.{BodyFits, constant, IsAccepted}
use Rattle.calculus_rules.specs.Typing.{Types, guarded}
use Rattle.pc_rules.specs.WellCounted.{IsCountedBody}
use Rattle.pc_rules.specs.Follows.{Follows}
use Rattle.pc_rules.specs.DirectedRun.{Run, done, bind, most_nested}
use Rattle.pc_rules.specs.DirectedComparison.{Test, compare}
use Rattle.pc_rules.specs.DirectedTyping.{infer, sort_of}
use Rattle.pc_rules.specs.DirectedDeclarations.{body_rule, constant_rule, GivenConstant}
use Rattle.pc_rules.proofs.Fair.{same_left}
use Rattle.pc_rules.proofs.Following.{follows_bind, follows_err, follows_memory, follows_done}
use Rattle.rule_laws.specs.Reduction.{HasNamesOnce}
use Rattle.rule_laws.specs.Declarations.{IsCheckedDeclaration}
use Rattle.rule_laws.proofs.Names.{accepted_once}
use Rattle.rule_laws.proofs.Extending.{fresh_is, env_more}
use Rattle.rule_laws.proofs.TypedCounts.{typed_counted, accepted_counted}

-- the type has a sort, and then comes the body

module _ (E : Env) (q : Test) (k : Name) (T : Term) (b : Option Term) (s : Sort) (m0 m1 m2 : Meter)
    (f : Follows (sort_of E (infer E q (most_nested - m0.nest)) [] T m0.account) (Ok s) m0 m1) where
  module _ (r : Result (Unit {0}) Halt) (h : Follows (body_rule E (infer E q (most_nested - m1.nest)) (compare E q (most_nested - m1.nest)) T b m1.account) r m1 m2) where
    body_follows : Follows (body_rule E (infer E q (most_nested - m0.nest)) (compare E q (most_nested - m0.nest)) T b m1.account) r m1 m2
    body_follows = subst (λ x. Follows (body_rule E (infer E q (most_nested - x)) (compare E q (most_nested - x)) T b m1.account) r m1 m2) f.after.nest h

  rest_of : ℕ → Sort → Account → Run Kept
  rest_of n s v = bind (body_rule E (infer E q n) (compare E q n) T b v) (λ _ w. done (Constant k T b) w)

  pub constant_halted : (h : Halt) → Follows (body_rule E (infer E q (most_nested - m1.nest)) (compare E q (most_nested - m1.nest)) T b m1.account) (Err h) m1 m2 →
      Follows (constant_rule E q (most_nested - m0.nest) k T b m0.account) (Err h) m0 m2
  unfolding rest_of
  constant_halted h p =
      let n = most_nested - m0.nest in
      follows_bind (sort_of E (infer E q n) [] T m0.account) (rest_of n) s (Err h) m0 m1 m2 f
      (follows_err (body_rule E (infer E q n) (compare E q n) T b m1.account) (λ _ w. done (Constant k T b) w) h m1 m2 (body_follows (Err h) p) (λ _ w. same_left w))

  pub constant_done : Follows (body_rule E (infer E q (most_nested - m1.nest)) (compare E q (most_nested - m1.nest)) T b m1.account) (Ok tt) m1 m2 →
      Follows (constant_rule E q (most_nested - m0.nest) k T b m0.account) (Ok (Constant k T b)) m0 m2
  unfolding rest_of
  constant_done p =
      let n = most_nested - m0.nest in
      follows_bind (sort_of E (infer E q n) [] T m0.account) (rest_of n) s (Ok (Constant k T b)) m0 m1 m2 f
      (follows_bind (body_rule E (infer E q n) (compare E q n) T b m1.account) (λ _ w. done (Constant k T b) w) tt (Ok (Constant k T b)) m1 m2 m2 (body_follows (Ok tt) p) (follows_done (Constant k T b) m2))

  -- there is no memory for what is kept
  pub constant_wanting : Follows (body_rule E (infer E q (most_nested - m1.nest)) (compare E q (most_nested - m1.nest)) T b m1.account) (Ok tt) m1 m2 →
      Follows (constant_rule E q (most_nested - m0.nest) k T b m0.account) (Err (Stop Memory)) m0 m2
  unfolding rest_of
  constant_wanting p =
      let n = most_nested - m0.nest in
      follows_bind (sort_of E (infer E q n) [] T m0.account) (rest_of n) s (Err (Stop Memory)) m0 m1 m2 f
      (follows_bind (body_rule E (infer E q n) (compare E q n) T b m1.account) (λ _ w. done (Constant k T b) w) tt (Err (Stop Memory)) m1 m2 m2 (body_follows (Ok tt) p)
      (follows_memory (done (Constant k T b) m2.account) m2 (same_left m2.account)))

-- it is kept

body_counted : (E : Env) → HasNamesOnce E → (T : Term) (b : Option Term) → BodyFits E T b → IsCountedBody E b
body_counted E once T None h = tt
body_counted E once T (Some b) h = typed_counted E once h

pub constant_checked : (E : Env) (k : Name) (T : Term) (b : Option Term) (s : Sort) → IsAccepted E → IsNew E k → Types guarded E [] T (SortT s) → BodyFits E T b →
    IsCheckedDeclaration E.levels E.constraints E.declarations (GivenConstant k T b) (Constant k T b)
constant_checked E k T b s a new typed fits =
    let fresh = fresh_is E.declarations k new in
    let once = accepted_once E a in
    record {
      accepted = constant a.declarations fresh typed fits;
      counted = env_more E.levels E.constraints E.declarations (Constant k T b) fresh (accepted_counted E a).declarations (typed_counted E once typed, body_counted E once T b fits);
      same = refl;
    }
