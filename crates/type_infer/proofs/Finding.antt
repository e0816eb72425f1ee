-- Answers of the parts of rules, by what is found.
use Rattle.std.proofs.Common.{◌≡◌, ℕ, true, false, Result, Ok, Err, IfOk, IsTrue, refl, sym, ap, subst as transport}
use Rattle.universe_levels.specs.declared.sort.Sort.{Sort}
use Rattle.trees.specs.Measures.{IsBeyond}
use Rattle.trees.proofs.Cutoffs.{subst-substitute}
use Rattle.pc_terms.specs.Syntax.{Term, SortT, Prod, put, subst, substitute}
use Rattle.pc_terms.specs.declared.term.MakeFault.{MakeFault}
use Rattle.pc_terms.specs.declared.term.MakeFault.TheVariants.{TooDeep as DeepTerm, Memory as NoTerm}
use Rattle.pc_rules.specs.declared.broken.Broken.{Broken}
use Rattle.pc_rules.specs.declared.meter.Account.{Account}
use Rattle.pc_rules.specs.declared.meter.Meter.{Meter}
use Rattle.pc_rules.specs.declared.stop.Halt.{Halt}
use Rattle.pc_rules.specs.declared.stop.Halt.TheVariants.{Stop}
use Rattle.pc_rules.specs.Stops.{stop_of}
use Rattle.calculus_rules.specs.Environment.{Env}
use Rattle.calculus_rules.specs.Context.{Context}
use Rattle.calculus_rules.specs.Same.{same}
use Rattle.pc_rules.specs.Follows.{Follows, Answers}
use Rattle.pc_rules.specs.DirectedRun.{Run, Done, is_beyond, bind, done, refused, make}
use Rattle.pc_rules.specs.DirectedComparison.{Comparison}
use Rattle.pc_rules.specs.DirectedTyping.{Typing, infer, conv, sort_found, check, retype, app_found}
use Rattle.pc_rules.specs.Entailment.{test_of}
use Rattle.pc_rules.proofs.Following.{follows_done, follows_then, follows_else}

pub bind_refused : {A B : Type 0} (b : Broken) (u : Account) (k : A → Account → Run B) → bind (refused b u) k ≡ refused b u
unfolding bind
bind_refused b u k = refl

-- a term is made, or there is a fault
pub answers_made : (t made : Term) (u : Account) → made ≡ t → Answers (make t u) (Ok made) u
answers_made t made u e = ap (λ x. Done x u) (sym e)

pub beyond_fault : (t : Term) (f : MakeFault) (u : Account) → (f ≡ DeepTerm → IsTrue (is_beyond t)) → Answers (make t u) (Err (Stop (stop_of f))) u
beyond_fault t DeepTerm u h = h refl
beyond_fault t NoTerm u h = tt

-- a result by an equation
pub follows_is : {A : Type 0} (a b : A) (m : Meter) → a ≡ b → Follows (done b m.account) (Ok a) m m
follows_is a b m e = rw e (follows_done b m)

pub if_ok : {T E : Type 0} (P : Type 0) (r : Result T E) → P → IfOk r (λ _. P)
if_ok P (Ok x) h = h
if_ok P (Err e) h = tt

-- an argument put in
pub put_beyond : (a B : Term) (f : MakeFault) → (f ≡ DeepTerm → IsBeyond (subst 0 a B)) → f ≡ DeepTerm → IsBeyond (substitute (put a) B)
put_beyond a B f h e = transport (λ X. IsBeyond X) (subst-substitute a 0 B) (h e)

-- a type's weak-head normal form, where it is a sort

module _ (E : Env) (n : ℕ) (c : Context) (T W : Term) (s : Sort) where
  abbrev inf : Typing
  inf = infer E (test_of E) n

  pub sort_found_same : {s' : Sort} {m : Meter} → SortT s ≡ W → same T W ≡ true → s' ≡ s → Follows (sort_found inf c T W m.account) (Ok s') m m
  sort_found_same {s' = s'} {m = m} e q p =
      transport (λ W. same T W ≡ true → Follows (sort_found inf c T W m.account) (Ok s') m m) e
      (λ q. follows_then (same T (SortT s)) _ _ (Ok s') m m q (follows_is s' s m p)) q

  pub sort_found_goes : {r : Result Sort Halt} {m0 m1 : Meter} → SortT s ≡ W → same T W ≡ false →
      Follows (bind (conv m0.account) (λ _ v. bind (inf c W v) (λ _ w. done s w))) r m0 m1 → Follows (sort_found inf c T W m0.account) r m0 m1
  sort_found_goes {r = r} {m0 = m0} {m1 = m1} e q f =
      transport (λ W. same T W ≡ false → Follows (bind (conv m0.account) (λ _ v. bind (inf c W v) (λ _ w. done s w))) r m0 m1 → Follows (sort_found inf c T W m0.account) r m0 m1) e
      (λ q f. follows_else (same T (SortT s)) _ _ r m0 m1 q f) q f

-- and where it is a product
pub product_found : (E : Env) (inf : Typing) (cmp : Comparison) (c : Context) (a T : Term) {W A B : Term} {r : Result Term Halt} {m0 m1 : Meter} → Prod A B ≡ W →
    Follows (bind (retype E inf c T W m0.account) (λ _ v. bind (check E inf cmp c a A v) (λ _ w. make (substitute (put a) B) w))) r m0 m1 →
    Follows (app_found E inf cmp c a T W m0.account) r m0 m1
product_found E inf cmp c a T {A = A} {B = B} {r = r} {m0 = m0} {m1 = m1} e f =
    transport (λ W. Follows (bind (retype E inf c T W m0.account) (λ _ v. bind (check E inf cmp c a A v) (λ _ w. make (substitute (put a) B) w))) r m0 m1 →
    Follows (app_found E inf cmp c a T W m0.account) r m0 m1) e (λ f. f) f
