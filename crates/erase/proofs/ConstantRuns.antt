-- The walk over declarations follows the directed rules.
use Rattle.std.proofs.Common.{◌≡◌, ap, sym, subst, refl, true, false, if◌then◌else◌, List, [], ◌∷◌, ◌++◌, length, Option, Some, None, Result, Ok, Err}
use Rattle.pc_terms.specs.declared.leaf.Name.{Name}
use Rattle.pc_terms.specs.Syntax.{Term}
use Rattle.box_terms.specs.BoxSyntax.{BoxTerm}
use Rattle.calculus_rules.specs.declared.declaration.Kept.{Kept}
use Rattle.calculus_rules.specs.declared.declaration.Kept.TheVariants.{Constant, Heads, Block as Whole}
use Rattle.pc_rules.specs.declared.broken.Place.{Place}
use Rattle.pc_rules.specs.declared.broken.Place.TheVariants.{Declaration as AtDeclaration}
use Rattle.pc_rules.specs.declared.meter.Account.{Account}
use Rattle.pc_rules.specs.declared.meter.Meter.{Meter}
use Rattle.pc_rules.specs.declared.stop.Stop.TheVariants.{Memory}
use Rattle.pc_rules.specs.declared.stop.Halt.TheVariants.{Stop}
use Rattle.calculus_rules.specs.Environment.{Env}
use Rattle.pc_rules.specs.DirectedTyping.{Typing}
use Rattle.pc_rules.specs.DirectedPlaces.{Placed, gives, at_place, and_then}
use Rattle.lambda_box.specs.BoxProgram.{BoxConstant}
use Rattle.erase_rules.specs.DirectedErasure.{erased}
use Rattle.erase_rules.specs.DirectedProgram.{is_reached, Reached, with_constant, first_declared, with_axiom, erased_constants}
use Rattle.erase.specs.declared.refusal.HaltAt.{HaltAt}
use Rattle.erase.specs.AtPlaces.{FollowsAt}
use Rattle.erase.proofs.PlacedRuns.{given, no_room, then_goes, then_halts}

-- what has been erased, before other terms: the bodies of constants, the newest constant first

abbrev pub onto : List BoxConstant → List BoxTerm → List BoxTerm
onto [] ts = ts
onto (c ∷ cs) ts = onto cs (c.body ∷ ts)

pub onto_more : (cs : List BoxConstant) (c : BoxConstant) (ts : List BoxTerm) → onto (cs ++ (c ∷ [])) ts ≡ c.body ∷ onto cs ts
onto_more [] c ts = refl
onto_more (x ∷ cs) c ts = onto_more cs c (x.body ∷ ts)

-- what is reached, with constants and an axiom that were met before

abbrev pub first_of : Option Name → Option Name → Option Name
first_of None o = o
first_of (Some l) o = Some l

abbrev pub after_met : List BoxConstant → Option Name → Result Reached HaltAt → Result Reached HaltAt
after_met cs o (Ok r) = Ok (record { constants = cs ++ r.constants; without_body = first_of r.without_body o })
after_met cs o (Err x) = Err x

abbrev pub constant_met : Name → BoxTerm → Result Reached HaltAt → Result Reached HaltAt
constant_met k b (Ok r) = Ok (with_constant k b r)
constant_met k b (Err x) = Err x

abbrev pub axiom_met : Name → Result Reached HaltAt → Result Reached HaltAt
axiom_met k (Ok r) = Ok (with_axiom k r)
axiom_met k (Err x) = Err x

more_constants : (cs ds : List BoxConstant) (c : BoxConstant) → cs ++ (c ∷ ds) ≡ (cs ++ (c ∷ [])) ++ ds
more_constants [] ds c = refl
more_constants (x ∷ cs) ds c = ap (◌∷◌ x) (more_constants cs ds c)

pub after_constant : (cs : List BoxConstant) (o : Option Name) (k : Name) (b : BoxTerm) (r : Result Reached HaltAt) →
    after_met cs o (constant_met k b r) ≡ after_met (cs ++ (record { name = k; body = b } ∷ [])) o r
after_constant cs o k b (Ok r) =
    ap (λ xs. Ok (record { constants = xs; without_body = first_of r.without_body o })) (more_constants cs r.constants (record { name = k; body = b }))
after_constant cs o k b (Err x) = refl

first_more : (o l : Option Name) (k : Name) → first_of (first_declared k l) o ≡ first_of l (Some k)
first_more o None k = refl
first_more o (Some l) k = refl

pub after_axiom : (cs : List BoxConstant) (o : Option Name) (k : Name) (r : Result Reached HaltAt) → after_met cs o (axiom_met k r) ≡ after_met cs (Some k) r
after_axiom cs o k (Ok r) = ap (λ l. Ok (record { constants = cs ++ r.constants; without_body = l })) (first_more o r.without_body k)
after_axiom cs o k (Err x) = refl

abbrev pub nothing_met : Reached
nothing_met = record { constants = []; without_body = None }

all_constants : (cs : List BoxConstant) → cs ++ [] ≡ cs
all_constants [] = refl
all_constants (c ∷ cs) = ap (◌∷◌ c) (all_constants cs)

pub after_all : (cs : List BoxConstant) (o : Option Name) → after_met cs o (Ok nothing_met) ≡ Ok (record { constants = cs; without_body = o })
after_all cs o = ap (λ xs. Ok (record { constants = xs; without_body = o })) (all_constants cs)

module _ (E : Env) (inf : Typing) (ts : List BoxTerm) where
  abbrev pub walked : List Kept → Account → Placed Reached
  walked ds u = erased_constants E inf ts ds u

  pub walk_ends : (m : Meter) → FollowsAt (walked [] m.account) (Ok nothing_met) m m
  unfolding erased_constants
  walk_ends m = given nothing_met m

  -- a declaration that is no constant
  pub walk_passes_block : (d : Kept) (ds : List Kept) (r : Result Reached HaltAt) (m0 m1 : Meter) → ((k : Name) (T : Term) (o : Option Term) → d ≡ Constant k T o → ⊥) →
      FollowsAt (walked ds m0.account) r m0 m1 → FollowsAt (walked (d ∷ ds) m0.account) r m0 m1
  unfolding erased_constants
  walk_passes_block (Constant k T o) ds r m0 m1 h f = absurd (h k T o refl)
  walk_passes_block (Heads B) ds r m0 m1 h f = f
  walk_passes_block (Whole B) ds r m0 m1 h f = f

  -- a constant that isn't reached
  pub walk_passes : (k : Name) (T : Term) (o : Option Term) (ds : List Kept) (r : Result Reached HaltAt) (m0 m1 : Meter) → is_reached k ts ≡ false →
      FollowsAt (walked ds m0.account) r m0 m1 → FollowsAt (walked (Constant k T o ∷ ds) m0.account) r m0 m1
  unfolding erased_constants
  walk_passes k T None ds r m0 m1 e f =
      subst (λ b. FollowsAt (if b then and_then (erased_constants E inf ts ds m0.account) (λ r v. gives (with_axiom k r) v) else erased_constants E inf ts ds m0.account) r m0 m1) (sym e) f
  walk_passes k T (Some b) ds r m0 m1 e f =
      subst (λ s. FollowsAt
      (if s
      then and_then (at_place (AtDeclaration (length ds)) (erased E inf [] b m0.account)) (λ b' v. and_then (erased_constants E inf (b' ∷ ts) ds v) (λ r w. gives (with_constant k b' r) w))
      else erased_constants E inf ts ds m0.account) r m0 m1) (sym e) f

  -- one that is reached and has no body

  axiom_goes : (k : Name) (ds : List Kept) (r : Result Reached HaltAt) (m0 m1 : Meter) → FollowsAt (walked ds m0.account) r m0 m1 →
      FollowsAt (and_then (walked ds m0.account) (λ r v. gives (with_axiom k r) v)) (axiom_met k r) m0 m1
  axiom_goes k ds (Ok r) m0 m1 f = then_goes (walked ds m0.account) (λ r v. gives (with_axiom k r) v) r (Ok (with_axiom k r)) m0 m1 m1 f (given (with_axiom k r) m1)
  axiom_goes k ds (Err x) m0 m1 f = then_halts (walked ds m0.account) (λ r v. gives (with_axiom k r) v) x m0 m1 f

  pub walk_meets_axiom : (k : Name) (T : Term) (ds : List Kept) (r : Result Reached HaltAt) (m0 m1 : Meter) → is_reached k ts ≡ true →
      FollowsAt (walked ds m0.account) r m0 m1 → FollowsAt (walked (Constant k T None ∷ ds) m0.account) (axiom_met k r) m0 m1
  unfolding erased_constants
  walk_meets_axiom k T ds r m0 m1 e f =
      subst (λ b. FollowsAt (if b then and_then (erased_constants E inf ts ds m0.account) (λ r v. gives (with_axiom k r) v) else erased_constants E inf ts ds m0.account) (axiom_met k r) m0 m1) (sym e)
      (axiom_goes k ds r m0 m1 f)

  -- and one that is reached and has a body
  module _ (k : Name) (T b : Term) (ds : List Kept) (is : is_reached k ts ≡ true) where
    abbrev pub body_run : Account → Placed BoxTerm
    body_run u = at_place (AtDeclaration (length ds)) (erased E inf [] b u)

    with_body : BoxTerm → Account → Placed Reached
    with_body b' v = and_then (erased_constants E inf (b' ∷ ts) ds v) (λ r w. gives (with_constant k b' r) w)

    with_rest : (r : Result Reached HaltAt) (m0 m1 : Meter) → FollowsAt (and_then (body_run m0.account) with_body) r m0 m1 → FollowsAt (walked (Constant k T (Some b) ∷ ds) m0.account) r m0 m1
    unfolding erased_constants with_body
    with_rest r m0 m1 f =
        subst (λ s. FollowsAt
        (if s
        then and_then (at_place (AtDeclaration (length ds)) (erased E inf [] b m0.account)) (λ b' v. and_then (erased_constants E inf (b' ∷ ts) ds v) (λ r w. gives (with_constant k b' r) w))
        else erased_constants E inf ts ds m0.account) r m0 m1) (sym is) f

    pub body_halts : (x : HaltAt) (m0 m1 : Meter) → FollowsAt (body_run m0.account) (Err x) m0 m1 → FollowsAt (walked (Constant k T (Some b) ∷ ds) m0.account) (Err x) m0 m1
    body_halts x m0 m1 f = with_rest (Err x) m0 m1 (then_halts (body_run m0.account) with_body x m0 m1 f)

    pub body_no_room : (b' : BoxTerm) (p : Place) (m0 m1 : Meter) → FollowsAt (body_run m0.account) (Ok b') m0 m1 →
        FollowsAt (walked (Constant k T (Some b) ∷ ds) m0.account) (Err (record { place = p; halt = Stop Memory })) m0 m1
    body_no_room b' p m0 m1 f = no_room (walked (Constant k T (Some b) ∷ ds) m0.account) p m0 m1 f.after

    rest_goes : (b' : BoxTerm) (r : Result Reached HaltAt) (m1 m2 : Meter) → FollowsAt (erased_constants E inf (b' ∷ ts) ds m1.account) r m1 m2 → FollowsAt (with_body b' m1.account) (constant_met k b' r) m1 m2
    unfolding with_body
    rest_goes b' (Ok r) m1 m2 f =
        then_goes (erased_constants E inf (b' ∷ ts) ds m1.account) (λ r w. gives (with_constant k b' r) w) r (Ok (with_constant k b' r)) m1 m2 m2 f (given (with_constant k b' r) m2)
    rest_goes b' (Err x) m1 m2 f = then_halts (erased_constants E inf (b' ∷ ts) ds m1.account) (λ r w. gives (with_constant k b' r) w) x m1 m2 f

    pub body_goes : (b' : BoxTerm) (r : Result Reached HaltAt) (m0 m1 m2 : Meter) → FollowsAt (body_run m0.account) (Ok b') m0 m1 →
        FollowsAt (erased_constants E inf (b' ∷ ts) ds m1.account) r m1 m2 → FollowsAt (walked (Constant k T (Some b) ∷ ds) m0.account) (constant_met k b' r) m0 m2
    body_goes b' r m0 m1 m2 f g =
        with_rest (constant_met k b' r) m0 m2 (then_goes (body_run m0.account) with_body b' (constant_met k b' r) m0 m1 m2 f (rest_goes b' r m1 m2 g))
