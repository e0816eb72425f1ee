-- The whole follows the directed rules: main, then the walk over declarations, then the answer.
use Rattle.std.proofs.Common.{◌≡◌, ap, subst, sym, ℕ, [], ◌∷◌, Some, None, Result, Ok, Err}
use Rattle.pc_terms.specs.declared.leaf.Name.{Name}
use Rattle.pc_terms.specs.Syntax.{Term}
use Rattle.box_terms.specs.BoxSyntax.{BoxTerm}
use Rattle.pc_rules.specs.declared.broken.Place.TheVariants.{Main as AtMain}
use Rattle.pc_rules.specs.declared.meter.Account.{Account}
use Rattle.pc_rules.specs.declared.meter.Meter.{Meter}
use Rattle.calculus_rules.specs.Environment.{Env}
use Rattle.pc_rules.specs.Follows.{Follows}
use Rattle.pc_rules.specs.DirectedComparison.{Test}
use Rattle.pc_rules.specs.DirectedTyping.{infer}
use Rattle.pc_rules.specs.DirectedPlaces.{Placed, gives, at_place, and_then}
use Rattle.erase_rules.specs.DirectedErasure.{erased}
use Rattle.erase_rules.specs.DirectedProgram.{Reached, erased_constants, box_families, Answer, Program, ReachesAxiom, answer, erased_program}
use Rattle.erase.specs.declared.refusal.HaltAt.{HaltAt}
use Rattle.erase.specs.AtPlaces.{FollowsAt}
use Rattle.erase.proofs.PlacedRuns.{at_done, at_halted, given, then_goes, then_halts}

module _ (E : Env) (q : Test) (n : ℕ) (main : Term) where
  abbrev pub whole : Account → Placed Answer
  whole u = erased_program E q n main u

  abbrev pub main_run : Account → Placed BoxTerm
  main_run u = at_place AtMain (erased E (infer E q n) [] main u)

  answered_then : BoxTerm → Reached → Account → Placed Answer
  answered_then main' r w = gives (answer E main' r r.without_body) w

  walk_then : BoxTerm → Account → Placed Answer
  walk_then main' v = and_then (erased_constants E (infer E q n) (main' ∷ []) E.declarations v) (answered_then main')

  pub main_halts : (x : HaltAt) (m0 m1 : Meter) → x.place ≡ AtMain → Follows (erased E (infer E q n) [] main m0.account) (Err x.halt) m0 m1 → FollowsAt (whole m0.account) (Err x) m0 m1
  unfolding walk_then answered_then
  main_halts x m0 m1 e f =
      subst (λ p. FollowsAt (whole m0.account) (Err (record { place = p; halt = x.halt })) m0 m1) (sym e)
      (then_halts (main_run m0.account) walk_then (record { place = AtMain; halt = x.halt }) m0 m1 (at_halted AtMain (erased E (infer E q n) [] main m0.account) x.halt m0 m1 f))

  module _ (main' : BoxTerm) (m0 m1 m2 : Meter) (f : Follows (erased E (infer E q n) [] main m0.account) (Ok main') m0 m1) where
    main_goes : (r : Result Answer HaltAt) → FollowsAt (walk_then main' m1.account) r m1 m2 → FollowsAt (whole m0.account) r m0 m2
    unfolding walk_then answered_then
    main_goes r g = then_goes (main_run m0.account) walk_then main' r m0 m1 m2 (at_done AtMain (erased E (infer E q n) [] main m0.account) main' m0 m1 f) g

    pub walk_halts : (x : HaltAt) → FollowsAt (erased_constants E (infer E q n) (main' ∷ []) E.declarations m1.account) (Err x) m1 m2 → FollowsAt (whole m0.account) (Err x) m0 m2
    unfolding walk_then
    walk_halts x g = main_goes (Err x) (then_halts (erased_constants E (infer E q n) (main' ∷ []) E.declarations m1.account) (answered_then main') x m1 m2 g)

    walk_goes : (r : Reached) (a : Answer) → answer E main' r r.without_body ≡ a → FollowsAt (erased_constants E (infer E q n) (main' ∷ []) E.declarations m1.account) (Ok r) m1 m2 →
        FollowsAt (whole m0.account) (Ok a) m0 m2
    unfolding walk_then answered_then
    walk_goes r a e g =
        main_goes (Ok a)
        (then_goes (erased_constants E (infer E q n) (main' ∷ []) E.declarations m1.account) (answered_then main') r (Ok a) m1 m2 m2 g
        (subst (λ b. FollowsAt (gives b m2.account) (Ok a) m2 m2) (sym e) (given a m2)))

    pub axiom_answered : (r : Reached) (k : Name) → r.without_body ≡ Some k → FollowsAt (erased_constants E (infer E q n) (main' ∷ []) E.declarations m1.account) (Ok r) m1 m2 →
        FollowsAt (whole m0.account) (Ok (ReachesAxiom k)) m0 m2
    axiom_answered r k e g = walk_goes r (ReachesAxiom k) (ap (λ o. answer E main' r o) e) g

    pub program_answered : (r : Reached) → r.without_body ≡ None → FollowsAt (erased_constants E (infer E q n) (main' ∷ []) E.declarations m1.account) (Ok r) m1 m2 →
        FollowsAt (whole m0.account) (Ok (Program (record { constants = r.constants; families = box_families E.declarations; main = main' }))) m0 m2
    program_answered r e g = walk_goes r (Program (record { constants = r.constants; families = box_families E.declarations; main = main' })) (ap (λ o. answer E main' r o) e) g
