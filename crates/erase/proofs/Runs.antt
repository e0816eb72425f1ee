-- The parts of erasure follow the directed rules.
use Rattle.std.proofs.Common.{◌≡◌, ◌∷◌, Option, Some, None, Result, Ok, Err, IsErrAnd, arith}
use Rattle.trees.specs.Measures.{IsWithin}
use Rattle.pc_terms.specs.Syntax.{Term, Lambda, LetIn, App}
use Rattle.box_terms.specs.BoxSyntax.{BoxTerm, Box, BLambda, BLetIn, BApp}
use Rattle.calculus_rules.specs.declared.entry.Entry.TheVariants.{Assumed, Defined}
use Rattle.pc_rules.specs.declared.meter.Account.{Account}
use Rattle.pc_rules.specs.declared.meter.Meter.{Meter}
use Rattle.pc_rules.specs.declared.stop.Stop.{Stop as StopKind}
use Rattle.pc_rules.specs.declared.stop.Stop.TheVariants.{Memory}
use Rattle.pc_rules.specs.declared.stop.Halt.{Halt}
use Rattle.pc_rules.specs.declared.stop.Halt.TheVariants.{Stop}
use Rattle.calculus_rules.specs.Environment.{Env}
use Rattle.calculus_rules.specs.Context.{Context}
use Rattle.calculus_rules.specs.declared.evidence.Evidence.{Evidence}
use Rattle.pc_rules.specs.Follows.{Follows}
use Rattle.pc_rules.specs.DirectedRun.{Run, done, bind, Leaves}
use Rattle.pc_rules.specs.DirectedTyping.{Typing}
use Rattle.pc_rules.specs.DirectedErasable.{erasable_test}
use Rattle.pc_rules.proofs.Fair.{leaves_bind, same_left}
use Rattle.pc_rules.proofs.FairTyping.{FairTyping}
use Rattle.pc_rules.proofs.Following.{follows_passed, follows_bind, follows_err, follows_done, follows_memory}
use Rattle.erase_rules.specs.DirectedErasure.{box_or, tested, kept, erased}
use Rattle.erase_rules.proofs.FairErasure.{box_or_leaves, erased_leaves}
use Rattle.erase_rules.proofs.Sizes.{Strips, erased_strips, no_greater}

pub within_by : {t : Term} {t' : BoxTerm} → Strips t t' → IsWithin t → IsWithin t'
within_by p h = let g = no_greater p in let d = g.depth in let a = g.above in (omega (arith, d, h.0), omega (arith, a, h.1))

-- a `?` gives on that there is no memory
pub by_memory : {A : Type 0} (d : Run A) (s : StopKind) (r : Result A Halt) (m0 m1 : Meter) → s ≡ Memory → IsErrAnd r (λ x. x ≡ Stop s) → Follows d (Err (Stop Memory)) m0 m1 → Follows d r m0 m1
by_memory d s r m0 m1 w e f =
    let g : Follows d (Err (Stop s)) m0 m1 = rw w f in
    follows_passed d (Stop s) r m0 m1 e g

module _ (E : Env) {inf : Typing} (fair : FairTyping 0 0 inf) (c : Context) where
  -- a term
  module _ (t : Term) where
    pub test_err : (h : Halt) (m0 m1 : Meter) → Follows (erasable_test E inf c t m0.account) (Err h) m0 m1 → Follows (erased E inf c t m0.account) (Err h) m0 m1
    unfolding tested
    test_err h m0 m1 f = follows_err (erasable_test E inf c t m0.account) (λ o v. box_or o (kept E inf c t) v) h m0 m1 f (box_or_leaves E inf fair c t)

    pub test_boxes : (k : Evidence) (m0 m1 : Meter) → Follows (erasable_test E inf c t m0.account) (Ok (Some k)) m0 m1 → Follows (erased E inf c t m0.account) (Ok Box) m0 m1
    unfolding tested
    test_boxes k m0 m1 f = follows_bind (erasable_test E inf c t m0.account) (λ o v. box_or o (kept E inf c t) v) (Some k) (Ok Box) m0 m1 m1 f (follows_done Box m1)

    pub test_memory : (o : Option Evidence) (m0 m1 : Meter) → Follows (erasable_test E inf c t m0.account) (Ok o) m0 m1 → Follows (erased E inf c t m0.account) (Err (Stop Memory)) m0 m1
    unfolding tested
    test_memory o m0 m1 f =
        follows_bind (erasable_test E inf c t m0.account) (λ o v. box_or o (kept E inf c t) v) o (Err (Stop Memory)) m0 m1 m1 f (follows_memory (box_or o (kept E inf c t) m1.account) m1 (box_or_leaves E inf fair c t o m1.account))

    pub test_goes : (r : Result BoxTerm Halt) (m0 m1 m2 : Meter) → Follows (erasable_test E inf c t m0.account) (Ok None) m0 m1 → Follows (kept E inf c t m1.account) r m1 m2 →
        Follows (erased E inf c t m0.account) r m0 m2
    unfolding tested
    test_goes r m0 m1 m2 f g = follows_bind (erasable_test E inf c t m0.account) (λ o v. box_or o (kept E inf c t) v) None r m0 m1 m2 f g

  -- a lambda
  module _ (A b : Term) where
    lambda_then : BoxTerm → Account → Run BoxTerm
    lambda_then b' v = done (BLambda b') v

    pub lambda_err : (h : Halt) (m0 m1 : Meter) → Follows (erased E inf (Assumed A ∷ c) b m0.account) (Err h) m0 m1 → Follows (kept E inf c (Lambda A b) m0.account) (Err h) m0 m1
    lambda_err h m0 m1 f = follows_err (erased E inf (Assumed A ∷ c) b m0.account) (λ b' v. done (BLambda b') v) h m0 m1 f (λ b' v. same_left v)

    pub lambda_done : (b' : BoxTerm) (m0 m1 : Meter) → Follows (erased E inf (Assumed A ∷ c) b m0.account) (Ok b') m0 m1 → Follows (kept E inf c (Lambda A b) m0.account) (Ok (BLambda b')) m0 m1
    lambda_done b' m0 m1 f =
        follows_bind (erased E inf (Assumed A ∷ c) b m0.account) (λ b' v. done (BLambda b') v) b' (Ok (BLambda b')) m0 m1 m1 f (follows_done (BLambda b') m1)

    pub lambda_memory : (b' : BoxTerm) (m0 m1 : Meter) → Follows (erased E inf (Assumed A ∷ c) b m0.account) (Ok b') m0 m1 →
        Follows (kept E inf c (Lambda A b) m0.account) (Err (Stop Memory)) m0 m1
    lambda_memory b' m0 m1 f =
        follows_bind (erased E inf (Assumed A ∷ c) b m0.account) (λ b' v. done (BLambda b') v) b' (Err (Stop Memory)) m0 m1 m1 f (follows_memory (done (BLambda b') m1.account) m1 (same_left m1.account))

    pub lambda_within : (b' : BoxTerm) (m0 m1 : Meter) → Follows (erased E inf (Assumed A ∷ c) b m0.account) (Ok b') m0 m1 → IsWithin (Lambda A b) → IsWithin (BLambda b')
    lambda_within b' m0 m1 f h = within_by (Strips.lambda (erased_strips E inf (Assumed A ∷ c) b b' m0.account m1.account f.answer)) h

  -- a let
  module _ (b B t : Term) where
    let_second : BoxTerm → Account → Run BoxTerm
    let_second b' v = bind (erased E inf (Defined b B ∷ c) t v) (λ t' w. done (BLetIn b' t') w)

    let_leaves : (b' : BoxTerm) (v : Account) → Leaves (let_second b' v).end v.left
    unfolding let_second
    let_leaves b' v = leaves_bind (erased E inf (Defined b B ∷ c) t v) (λ t' w. done (BLetIn b' t') w) v.left (erased_leaves E inf fair (Defined b B ∷ c) t v) (λ t' w. same_left w)

    pub let_err : (h : Halt) (m0 m1 : Meter) → Follows (erased E inf c b m0.account) (Err h) m0 m1 → Follows (kept E inf c (LetIn b B t) m0.account) (Err h) m0 m1
    unfolding let_second
    let_err h m0 m1 f = follows_err (erased E inf c b m0.account) let_second h m0 m1 f let_leaves

    module _ (b' : BoxTerm) (m0 m1 : Meter) (f : Follows (erased E inf c b m0.account) (Ok b') m0 m1) where
      let_goes : (r : Result BoxTerm Halt) (m2 : Meter) → Follows (let_second b' m1.account) r m1 m2 → Follows (kept E inf c (LetIn b B t) m0.account) r m0 m2
      unfolding let_second
      let_goes r m2 g = follows_bind (erased E inf c b m0.account) let_second b' r m0 m1 m2 f g

      pub let_memory : Follows (kept E inf c (LetIn b B t) m0.account) (Err (Stop Memory)) m0 m1
      let_memory = let_goes (Err (Stop Memory)) m1 (follows_memory (let_second b' m1.account) m1 (let_leaves b' m1.account))

      pub let_err_second : (h : Halt) (m2 : Meter) → Follows (erased E inf (Defined b B ∷ c) t m1.account) (Err h) m1 m2 → Follows (kept E inf c (LetIn b B t) m0.account) (Err h) m0 m2
      unfolding let_second
      let_err_second h m2 g = let_goes (Err h) m2 (follows_err (erased E inf (Defined b B ∷ c) t m1.account) (λ t' w. done (BLetIn b' t') w) h m1 m2 g (λ t' w. same_left w))

      pub let_done : (t' : BoxTerm) (m2 : Meter) → Follows (erased E inf (Defined b B ∷ c) t m1.account) (Ok t') m1 m2 → Follows (kept E inf c (LetIn b B t) m0.account) (Ok (BLetIn b' t')) m0 m2
      unfolding let_second
      let_done t' m2 g =
          let_goes (Ok (BLetIn b' t')) m2
          (follows_bind (erased E inf (Defined b B ∷ c) t m1.account) (λ t' w. done (BLetIn b' t') w) t' (Ok (BLetIn b' t')) m1 m2 m2 g (follows_done (BLetIn b' t') m2))

      pub let_end_memory : (t' : BoxTerm) (m2 : Meter) → Follows (erased E inf (Defined b B ∷ c) t m1.account) (Ok t') m1 m2 → Follows (kept E inf c (LetIn b B t) m0.account) (Err (Stop Memory)) m0 m2
      unfolding let_second
      let_end_memory t' m2 g =
          let_goes (Err (Stop Memory)) m2
          (follows_bind (erased E inf (Defined b B ∷ c) t m1.account) (λ t' w. done (BLetIn b' t') w) t' (Err (Stop Memory)) m1 m2 m2 g (follows_memory (done (BLetIn b' t') m2.account) m2 (same_left m2.account)))

      pub let_within : (t' : BoxTerm) (m2 : Meter) → Follows (erased E inf (Defined b B ∷ c) t m1.account) (Ok t') m1 m2 → IsWithin (LetIn b B t) → IsWithin (BLetIn b' t')
      let_within t' m2 g h =
          within_by (Strips.let_in (erased_strips E inf c b b' m0.account m1.account f.answer) (erased_strips E inf (Defined b B ∷ c) t t' m1.account m2.account g.answer)) h

  -- an application
  module _ (f a : Term) where
    app_second : BoxTerm → Account → Run BoxTerm
    app_second f' v = bind (erased E inf c a v) (λ a' w. done (BApp f' a') w)

    app_leaves : (f' : BoxTerm) (v : Account) → Leaves (app_second f' v).end v.left
    unfolding app_second
    app_leaves f' v = leaves_bind (erased E inf c a v) (λ a' w. done (BApp f' a') w) v.left (erased_leaves E inf fair c a v) (λ a' w. same_left w)

    pub app_err : (h : Halt) (m0 m1 : Meter) → Follows (erased E inf c f m0.account) (Err h) m0 m1 → Follows (kept E inf c (App f a) m0.account) (Err h) m0 m1
    unfolding app_second
    app_err h m0 m1 x = follows_err (erased E inf c f m0.account) app_second h m0 m1 x app_leaves

    module _ (f' : BoxTerm) (m0 m1 : Meter) (x : Follows (erased E inf c f m0.account) (Ok f') m0 m1) where
      app_goes : (r : Result BoxTerm Halt) (m2 : Meter) → Follows (app_second f' m1.account) r m1 m2 → Follows (kept E inf c (App f a) m0.account) r m0 m2
      unfolding app_second
      app_goes r m2 g = follows_bind (erased E inf c f m0.account) app_second f' r m0 m1 m2 x g

      pub app_err_second : (h : Halt) (m2 : Meter) → Follows (erased E inf c a m1.account) (Err h) m1 m2 → Follows (kept E inf c (App f a) m0.account) (Err h) m0 m2
      unfolding app_second
      app_err_second h m2 g = app_goes (Err h) m2 (follows_err (erased E inf c a m1.account) (λ a' w. done (BApp f' a') w) h m1 m2 g (λ a' w. same_left w))

      pub app_done : (a' : BoxTerm) (m2 : Meter) → Follows (erased E inf c a m1.account) (Ok a') m1 m2 → Follows (kept E inf c (App f a) m0.account) (Ok (BApp f' a')) m0 m2
      unfolding app_second
      app_done a' m2 g =
          app_goes (Ok (BApp f' a')) m2
          (follows_bind (erased E inf c a m1.account) (λ a' w. done (BApp f' a') w) a' (Ok (BApp f' a')) m1 m2 m2 g (follows_done (BApp f' a') m2))

      pub app_end_memory : (a' : BoxTerm) (m2 : Meter) → Follows (erased E inf c a m1.account) (Ok a') m1 m2 → Follows (kept E inf c (App f a) m0.account) (Err (Stop Memory)) m0 m2
      unfolding app_second
      app_end_memory a' m2 g =
          app_goes (Err (Stop Memory)) m2
          (follows_bind (erased E inf c a m1.account) (λ a' w. done (BApp f' a') w) a' (Err (Stop Memory)) m1 m2 m2 g (follows_memory (done (BApp f' a') m2.account) m2 (same_left m2.account)))

      pub app_within : (a' : BoxTerm) (m2 : Meter) → Follows (erased E inf c a m1.account) (Ok a') m1 m2 → IsWithin (App f a) → IsWithin (BApp f' a')
      app_within a' m2 g h = within_by (Strips.app (erased_strips E inf c f f' m0.account m1.account x.answer) (erased_strips E inf c a a' m1.account m2.account g.answer)) h
