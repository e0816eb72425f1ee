-- A program that directed erasure gives has no constant that nothing in it reaches.
use Rattle.std.proofs.Common.{◌≡◌, Bool, true, false, if◌then◌else◌, List, [], ◌∷◌, length, Some, None, refl, subst}
use Rattle.pc_terms.specs.declared.leaf.Name.{Name}
use Rattle.pc_terms.specs.Syntax.{Term}
use Rattle.box_terms.specs.BoxSyntax.{BoxTerm}
use Rattle.calculus_rules.specs.declared.declaration.Kept.{Kept}
use Rattle.calculus_rules.specs.declared.declaration.Kept.TheVariants.{Constant, Heads, Block as Whole}
use Rattle.pc_rules.specs.declared.broken.Place.TheVariants.{Declaration as AtDeclaration, Main as AtMain}
use Rattle.pc_rules.specs.declared.meter.Account.{Account}
use Rattle.calculus_rules.specs.Environment.{Env}
use Rattle.pc_rules.specs.DirectedTyping.{Typing, infer}
use Rattle.pc_rules.specs.DirectedPlaces.{Gives, Placed, gives, at_place, and_then}
use Rattle.erase_rules.specs.DirectedErasure.{erased}
use Rattle.erase_rules.specs.DirectedProgram.{is_reached, Reached, with_constant, with_axiom, erased_constants, Answer, Program, answer}
use Rattle.erase_rules.specs.Laws.{AreReached, ConstantsAreReached}
use Rattle.erase_rules.proofs.Program.{gives_both, given_value, program_is}

module _ (E : Env) (inf : Typing) where
  abbrev ReachesAll : List Kept → Type 0
  ReachesAll ds = (ts : List BoxTerm) (r : Reached) (u v : Account) → (erased_constants E inf ts ds u).outcome ≡ Gives r v → AreReached ts r.constants

  reached_axiom : (ds : List Kept) (k : Name) → ReachesAll ds → (ts : List BoxTerm) (r : Reached) (u v : Account) (s : Bool) →
      (if s then and_then (erased_constants E inf ts ds u) (λ r v. gives (with_axiom k r) v) else erased_constants E inf ts ds u).outcome ≡ Gives r v → AreReached ts r.constants
  reached_axiom ds k rec ts r u v true h =
      let p = gives_both (erased_constants E inf ts ds u) (λ r v. gives (with_axiom k r) v) r v h in
      subst (λ r. AreReached ts r.constants) (given_value p.3) (rec ts p.0 u p.1 p.2)
  reached_axiom ds k rec ts r u v false h = rec ts r u v h

  reached_body : (ds : List Kept) (k : Name) (b : Term) → ReachesAll ds → (ts : List BoxTerm) (r : Reached) (u v : Account) (s : Bool) → is_reached k ts ≡ s →
      (if s
      then and_then (at_place (AtDeclaration (length ds)) (erased E inf [] b u)) (λ b' v. and_then (erased_constants E inf (b' ∷ ts) ds v) (λ r w. gives (with_constant k b' r) w))
      else erased_constants E inf ts ds u).outcome ≡ Gives r v → AreReached ts r.constants
  reached_body ds k b rec ts r u v true e h =
      let k2 : BoxTerm → Reached → Account → Placed Reached = λ b' r w. gives (with_constant k b' r) w in
      let k1 : BoxTerm → Account → Placed Reached = λ b' v. and_then (erased_constants E inf (b' ∷ ts) ds v) (k2 b') in
      let p1 = gives_both (at_place (AtDeclaration (length ds)) (erased E inf [] b u)) k1 r v h in
      let p2 = gives_both (erased_constants E inf (p1.0 ∷ ts) ds p1.1) (k2 p1.0) r v p1.3 in
      subst (λ r. AreReached ts r.constants) (given_value p2.3) (e, rec (p1.0 ∷ ts) p2.0 p1.1 p2.1 p2.2)
  reached_body ds k b rec ts r u v false e h = rec ts r u v h

  reached : (ds : List Kept) → ReachesAll ds
  unfolding erased_constants
  reached [] ts r u v h = subst (λ r. AreReached ts r.constants) (given_value h) tt
  reached (Constant k T None ∷ ds) ts r u v h = reached_axiom ds k (reached ds) ts r u v (is_reached k ts) h
  reached (Constant k T (Some b) ∷ ds) ts r u v h = reached_body ds k b (reached ds) ts r u v (is_reached k ts) refl h
  reached (Heads B ∷ ds) ts r u v h = reached ds ts r u v h
  reached (Whole B ∷ ds) ts r u v h = reached ds ts r u v h

pub constants_are_reached : ConstantsAreReached
constants_are_reached E q n main P u v h =
    let k2 : BoxTerm → Reached → Account → Placed Answer = λ main' r w. gives (answer E main' r r.without_body) w in
    let k1 : BoxTerm → Account → Placed Answer = λ main' v. and_then (erased_constants E (infer E q n) (main' ∷ []) E.declarations v) (k2 main') in
    let p1 = gives_both (at_place AtMain (erased E (infer E q n) [] main u)) k1 (Program P) v h in
    let p2 = gives_both (erased_constants E (infer E q n) (p1.0 ∷ []) E.declarations p1.1) (k2 p1.0) (Program P) v p1.3 in
    let is = program_is E p1.0 p2.0 p2.0.without_body P (given_value p2.3) in
    subst (λ P. AreReached (P.main ∷ []) P.constants) is.1 (reached E (infer E q n) E.declarations (p1.0 ∷ []) p2.0 p1.1 p2.1 p2.2)
