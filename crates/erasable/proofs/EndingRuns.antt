-- The loop over codomains follows the directed test of types that end in a sort.
use Rattle.std.proofs.Common.{◌≡◌, Bool, true, false, None, Result, Ok, Err, ◌∷◌, refl, sym, subst}
use Rattle.pc_terms.specs.declared.term.Node.{Node}
use Rattle.pc_terms.specs.declared.term.Node.TheVariants.{Sort as ASort, Prod as AProd}
use Rattle.universe_levels.specs.declared.sort.Sort.{Sort}
use Rattle.pc_terms.specs.Syntax.{Term, SortT, Prod}
use Rattle.pc_terms.specs.View.{tree_of}
use Rattle.calculus_rules.specs.declared.entry.Entry.TheVariants.{Assumed}
use Rattle.pc_rules.specs.declared.meter.Account.{Account}
use Rattle.pc_rules.specs.declared.meter.Meter.{Meter}
use Rattle.pc_rules.specs.declared.stop.Stop.TheVariants.{Memory}
use Rattle.pc_rules.specs.declared.stop.Halt.{Halt}
use Rattle.pc_rules.specs.declared.stop.Halt.TheVariants.{Stop}
use Rattle.calculus_rules.specs.Environment.{Env}
use Rattle.calculus_rules.specs.Context.{Context, values}
use Rattle.pc_rules.specs.Follows.{Follows}
use Rattle.pc_rules.specs.DirectedRun.{done}
use Rattle.pc_rules.specs.DirectedWeakHead.{weak_next, whnf}
use Rattle.pc_rules.proofs.Following.{follows_bind, follows_err, follows_done, follows_memory}
use Rattle.pc_rules.proofs.Leaving.{leaving}
use Rattle.rule_laws.proofs.Settled.{settled}
use Rattle.erasable.proofs.SortEnds.{ends, ends_by_whnf, ends_under, ends_at_sort, ends_elsewhere}

module _ (E : Env) (c : Context) where
  pub end_stops : (T : Term) (h : Halt) (m0 m1 : Meter) → Follows (whnf E (values c) T m0.account) (Err h) m0 m1 → Follows (ends E c T m0.account) (Err h) m0 m1
  end_stops T h m0 m1 f =
      subst (λ d. Follows d (Err h) m0 m1) (sym (ends_by_whnf E c T m0.account)) (follows_err (whnf E (values c) T m0.account) (λ W v. ends E c W v) h m0 m1 f (search leaving))

  end_goes : (T W : Term) (r : Result Bool Halt) (m0 m1 m2 : Meter) → Follows (whnf E (values c) T m0.account) (Ok W) m0 m1 → Follows (ends E c W m1.account) r m1 m2 →
      Follows (ends E c T m0.account) r m0 m2
  end_goes T W r m0 m1 m2 f g =
      subst (λ d. Follows d r m0 m2) (sym (ends_by_whnf E c T m0.account)) (follows_bind (whnf E (values c) T m0.account) (λ W v. ends E c W v) W r m0 m1 m2 f g)

  pub end_sort : (T W : Term) (s : Sort) (m0 m1 : Meter) → Follows (whnf E (values c) T m0.account) (Ok W) m0 m1 → SortT s ≡ W → Follows (ends E c T m0.account) (Ok true) m0 m1
  end_sort T W s m0 m1 f e =
      end_goes T W (Ok true) m0 m1 m1 f
      (subst (λ W. Follows (ends E c W m1.account) (Ok true) m1 m1) e
      (subst (λ d. Follows d (Ok true) m1 m1) (sym (ends_at_sort E c s m1.account)) (follows_done true m1)))

  pub end_prod : (T W A B : Term) (r : Result Bool Halt) (m0 m1 m2 : Meter) → Follows (whnf E (values c) T m0.account) (Ok W) m0 m1 → Prod A B ≡ W →
      Follows (ends E (Assumed A ∷ c) B m1.account) r m1 m2 → Follows (ends E c T m0.account) r m0 m2
  end_prod T W A B r m0 m1 m2 f e g =
      end_goes T W r m0 m1 m2 f
      (subst (λ W. Follows (ends E c W m1.account) r m1 m2) e (subst (λ d. Follows d r m1 m2) (sym (ends_under E c A B m1.account)) g))

  -- where it is no sort and no product
  other_at : (v : Node) (u : Account) → ((s : Sort) → v ≡ ASort s → ⊥) → ((A B : Term) → v ≡ AProd A B → ⊥) → weak_next E (values c) (tree_of v) ≡ None →
      ends E c (tree_of v) u ≡ done false u
  other_at (ASort s) u p q e = absurd (p s refl)
  other_at (AProd A B) u p q e = absurd (q A B refl)
  other_at v u p q e = ends_elsewhere E c (tree_of v) u e (λ n. refl)

  pub end_other : (T W : Term) (v : Node) (m0 m1 : Meter) → Follows (whnf E (values c) T m0.account) (Ok W) m0 m1 → tree_of v ≡ W →
      ((s : Sort) → v ≡ ASort s → ⊥) → ((A B : Term) → v ≡ AProd A B → ⊥) → Follows (ends E c T m0.account) (Ok false) m0 m1
  end_other T W v m0 m1 f e p q =
      end_goes T W (Ok false) m0 m1 m1 f
      (subst (λ W. Follows (ends E c W m1.account) (Ok false) m1 m1) e
      (subst (λ d. Follows d (Ok false) m1 m1) (sym (other_at v m1.account p q (subst (λ W. weak_next E (values c) W ≡ None) (sym e) (settled E (values c) T W m0 m1 f))))
      (follows_done false m1)))

  pub end_memory : (T W : Term) (m0 m1 : Meter) → Follows (whnf E (values c) T m0.account) (Ok W) m0 m1 → Follows (ends E c T m0.account) (Err (Stop Memory)) m0 m1
  end_memory T W m0 m1 f = end_goes T W (Err (Stop Memory)) m0 m1 m1 f (follows_memory (ends E c W m1.account) m1 (search leaving))
