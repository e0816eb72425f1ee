-- What is made at the start of an inference, and of the parts of rules, by what is found.
use Rattle.std.proofs.Common.{◌≡◌, refl, subst as transport, ℕ, zero, suc, ◌<◌, ◌-◌, ◌+◌, Result, Ok, Err, IfOk, IsErrAnd, true, false, [], arith}
use Rattle.std.proofs.lemmas.Result.{err_from_is_err_and}
use Rattle.universe_levels.specs.declared.sort.Sort.{Sort as SortKind}
use Rattle.pc_terms.specs.Formed.{IsFormed}
use Rattle.pc_terms.specs.Syntax.{Term, SortT, put, substitute}
use Rattle.pc_terms.specs.Syntax as syntax
use Rattle.pc_terms.specs.View.{tree_of}
use Rattle.pc_terms.specs.declared.term.Node.{Node}
use Rattle.pc_terms.specs.declared.term.Node.TheVariants.{Sort, Prod}
use Rattle.calculus_rules.specs.Environment.{Env}
use Rattle.calculus_rules.specs.Context.{Context}
use Rattle.calculus_rules.specs.Same.{same}
use Rattle.pc_rules.specs.declared.broken.Broken.TheVariants.{NotASort, NotAProduct}
use Rattle.pc_rules.specs.declared.meter.Account.{Account}
use Rattle.pc_rules.specs.declared.stop.Stop.TheVariants.{Spent, TooDeep}
use Rattle.pc_rules.specs.declared.stop.Halt.{Halt}
use Rattle.pc_rules.specs.declared.stop.Halt.TheVariants.{Stop, Broken as Refusal}
use Rattle.pc_rules.specs.Follows.{Answers}
use Rattle.pc_rules.specs.DirectedRun.{Run, done, refused, make, ticked, noted, too_nested}
use Rattle.pc_rules.specs.DirectedComparison.{Test}
use Rattle.pc_rules.specs.DirectedTyping.{conv, infer, rule_number}
use Rattle.pc_rules.specs.Entailment.{test_of}
use Rattle.rule_laws.specs.Inference.{IsInferred}
use Rattle.cert_rules.specs.Writing.{Wrote, silent, write_on}
use Rattle.cert_rules.specs.MakingTyping.{MakeTyping, MakeComparison, make_compare, make_infer, make_rule, make_sort_found, make_check, make_retype, make_app_found}
use Rattle.cert_rules.proofs.TraceRules.{infer_trace}
use Rattle.type_infer.specs.Ready.{IsReady, done_with}
use Rattle.type_infer.proofs.Beginning.{decides, inferred_from}
use Rattle.script_making.specs.declared.draft.Draft.{Draft}
use Rattle.script_making.specs.Makes.{Makes}
use Rattle.script_making.proofs.Making.{makes_then, makes_else, makes_answers, makes_value, makes_spent, makes_nested, makes_entered, makes_used, made_follows}

module _ (E : Env) (q : Test) (c : Context) (t : Term) where
  pub infer_spent : (n : ℕ) (t0 t1 : Draft) → t0.meter.account.left ≡ 0 → t1.meter.account ≡ ticked t0.meter.account → t1.meter.nest ≡ t0.meter.nest →
      Makes (make_infer E q n c t t0.meter.account) (Err (Stop Spent)) t0 t1
  unfolding make_infer
  infer_spent zero t0 t1 z e n = makes_spent (λ v. too_nested) t0 t1 z e n
  infer_spent (suc k) t0 t1 z e n = makes_spent (λ v. make_rule E (make_infer E q k) (make_compare E q k) c t (noted (rule_number t) v)) t0 t1 z e n

  pub infer_nested : (n : ℕ) (t0 t1 t2 : Draft) → n ≡ 0 → 0 < t0.meter.account.left → t1.meter.account ≡ ticked t0.meter.account → t1.meter.nest ≡ t0.meter.nest →
      t2.meter.account ≡ t1.meter.account → t2.meter.nest ≡ t1.meter.nest → Makes (make_infer E q n c t t0.meter.account) (Err (Stop TooDeep)) t0 t2
  unfolding make_infer
  infer_nested zero t0 t1 t2 z h e n e2 n2 = makes_nested t0 t1 t2 h e n e2 n2
  infer_nested (suc k) t0 t1 t2 z h e n e2 n2 = absurd (omega arith)

  pub infer_entered : (n k : ℕ) (r : Result Term Halt) (t0 t1 t2 t3 t4 t5 : Draft) → n ≡ suc k → 0 < t0.meter.account.left →
      t1.meter.account ≡ ticked t0.meter.account → t1.meter.nest ≡ t0.meter.nest → t2.meter.account ≡ t1.meter.account → t2.meter.nest ≡ t1.meter.nest + 1 → t2.written.items ≡ t0.written.items →
      t3.meter.account ≡ noted (rule_number t) t2.meter.account → t3.meter.nest ≡ t2.meter.nest → t3.written.items ≡ t2.written.items →
      Makes (make_rule E (make_infer E q k) (make_compare E q k) c t t3.meter.account) r t3 t4 → t5.meter.account ≡ t4.meter.account → t5.meter.nest ≡ t4.meter.nest - 1 →
      t5.written.items ≡ t4.written.items → Makes (make_infer E q n c t t0.meter.account) r t0 t5
  unfolding make_infer
  infer_entered zero k r t0 t1 t2 t3 t4 t5 z h e n e2 n2 w2 e3 n3 w3 p e5 n5 w5 = absurd (omega arith)
  infer_entered (suc j) k r t0 t1 t2 t3 t4 t5 z h e n e2 n2 w2 e3 n3 w3 p e5 n5 w5 =
      let y : j ≡ k = omega arith in
      let f = makes_used (λ v. make_rule E (make_infer E q k) (make_compare E q k) c t v) r (rule_number t) t2 t3 t4 e3 n3 w3 p in
      rw y (makes_entered (λ v. make_rule E (make_infer E q k) (make_compare E q k) c t (noted (rule_number t) v)) r t0 t1 t2 t4 t5 h e n e2 n2 w2 f e5 n5 w5)

-- what has been inferred is a type
pub made_inferred : (E : Env) (c : Context) (t : Term) → IsReady E c → IsFormed t → (n : ℕ) (r : Result Term Halt) (t0 t1 : Draft) →
    Makes (make_infer E (test_of E) n c t t0.meter.account) r t0 t1 → IfOk r (λ T. IsInferred E c t T)
made_inferred E c t h f n (Ok T) t0 t1 p =
    let g = (infer_trace [] E h.env.declarations (test_of E) (decides E c h) n 0 c t h.context f).forgets t0.meter.account in
    inferred_from E c t h f n (Ok T) t0.meter t1.meter (made_follows (make_infer E (test_of E) n c t t0.meter.account) (infer E (test_of E) n c t t0.meter.account) T g p)
made_inferred E c t h f n (Err x) t0 t1 p = tt

-- a type's weak-head normal form, where it is a sort

module _ (inf : MakeTyping) (c : Context) (T W : Term) (s : SortKind) where
  pub sort_there : {s' : SortKind} {t : Draft} → SortT s ≡ W → same T W ≡ true → s' ≡ s → Makes (make_sort_found inf c T W t.meter.account) (Ok s') t t
  sort_there {s' = s'} {t = t} e q p =
      transport (λ W. same T W ≡ true → Makes (make_sort_found inf c T W t.meter.account) (Ok s') t t) e
      (λ q. makes_then (same T (SortT s)) _ _ (Ok s') t t q (makes_value s' s t p)) q

  pub sort_goes : {r : Result SortKind Halt} {t0 t1 : Draft} → SortT s ≡ W → same T W ≡ false →
      Makes (write_on (silent conv t0.meter.account) (λ _ v. write_on (inf c W v) (λ _ w. silent (done s) w))) r t0 t1 → Makes (make_sort_found inf c T W t0.meter.account) r t0 t1
  sort_goes {r = r} {t0 = t0} {t1 = t1} e q f =
      transport (λ W. same T W ≡ false → Makes (write_on (silent conv t0.meter.account) (λ _ v. write_on (inf c W v) (λ _ w. silent (done s) w))) r t0 t1 →
      Makes (make_sort_found inf c T W t0.meter.account) r t0 t1) e
      (λ q f. makes_else (same T (SortT s)) _ _ r t0 t1 q f) q f

no_sort_at : (inf : MakeTyping) (c : Context) (T : Term) (x : Node) (t : Draft) → ((s : SortKind) → x ≡ Sort s → ⊥) →
    Makes (make_sort_found inf c T (tree_of x) t.meter.account) (Err (Refusal (NotASort (tree_of x)))) t t
no_sort_at inf c T (Sort s) t h = absurd (h s refl)
no_sort_at inf c T x t h = makes_answers (refused (NotASort (tree_of x))) refl

pub no_sort : (inf : MakeTyping) (c : Context) (T : Term) (x : Node) {W : Term} {t : Draft} → tree_of x ≡ W → ((s : SortKind) → x ≡ Sort s → ⊥) →
    Makes (make_sort_found inf c T W t.meter.account) (Err (Refusal (NotASort W))) t t
no_sort inf c T x {t = t} e h = rw (← e) (no_sort_at inf c T x t h)

-- and where it is a product

module _ (E : Env) (inf : MakeTyping) (cmp : MakeComparison) (c : Context) (a T : Term) where
  pub product_found : {W A B : Term} {r : Result Term Halt} {t0 t1 : Draft} → syntax.Prod A B ≡ W →
      Makes (write_on (make_retype E inf c T W t0.meter.account) (λ _ v. write_on (make_check E inf cmp c a A v) (λ _ w. silent (make (substitute (put a) B)) w))) r t0 t1 →
      Makes (make_app_found E inf cmp c a T W t0.meter.account) r t0 t1
  product_found {A = A} {B = B} {r = r} {t0 = t0} {t1 = t1} e f =
      transport (λ W. Makes (write_on (make_retype E inf c T W t0.meter.account) (λ _ v. write_on (make_check E inf cmp c a A v) (λ _ w. silent (make (substitute (put a) B)) w))) r t0 t1 →
      Makes (make_app_found E inf cmp c a T W t0.meter.account) r t0 t1) e (λ f. f) f

  no_product_at : (x : Node) (t : Draft) → ((A B : Term) → x ≡ Prod A B → ⊥) →
      Makes (make_app_found E inf cmp c a T (tree_of x) t.meter.account) (Err (Refusal (NotAProduct (tree_of x)))) t t
  no_product_at (Prod A B) t h = absurd (h A B refl)
  no_product_at x t h = makes_answers (refused (NotAProduct (tree_of x))) refl

  pub no_product : (x : Node) {W : Term} {t : Draft} → tree_of x ≡ W → ((A B : Term) → x ≡ Prod A B → ⊥) →
      Makes (make_app_found E inf cmp c a T W t.meter.account) (Err (Refusal (NotAProduct W))) t t
  no_product x {t = t} e h = rw (← e) (no_product_at x t h)

-- what a `?` gives on is the halt of its call, where only the answer without its result is told of
pub makes_with : {A : Type 0} (r : Result A Halt) {d : Run (Wrote (Unit {0}))} {h : Halt} {t0 t1 : Draft} → IsErrAnd r (λ e. e ≡ h) → Makes d (Err h) t0 t1 → Makes d (done_with r) t0 t1
makes_with r e f =
    let p = err_from_is_err_and r e in
    rw (p.1, p.2) f

-- what takes no unit and no item, whatever the account
pub makes_still : {A : Type 0} (f : Account → Run A) {r : Result A Halt} {t : Draft} → ((u : Account) → Answers (f u) r u) → Makes (silent f t.meter.account) r t t
makes_still f {t = t} h = makes_answers f (h t.meter.account)
