-- A program has no more nodes than main and the bodies of constants.
use Rattle.std.proofs.Common.{◌≡◌, ℕ, ◌+◌, ◌≤◌, Bool, true, false, if◌then◌else◌, List, [], ◌∷◌, length, Some, None, subst, arith}
use Rattle.trees.specs.Measures.{nodes}
use Rattle.pc_terms.specs.declared.leaf.Name.{Name}
use Rattle.pc_terms.specs.Syntax.{Term}
use Rattle.box_terms.specs.BoxSyntax.{BoxTerm}
use Rattle.calculus_rules.specs.declared.declaration.Kept.{Kept}
use Rattle.calculus_rules.specs.declared.declaration.Kept.TheVariants.{Constant, Heads, Block as Whole}
use Rattle.pc_rules.specs.declared.broken.Place.TheVariants.{Declaration as AtDeclaration, Main as AtMain}
use Rattle.pc_rules.specs.declared.meter.Account.{Account}
use Rattle.calculus_rules.specs.Environment.{Env}
use Rattle.pc_rules.specs.DirectedComparison.{Test}
use Rattle.pc_rules.specs.DirectedTyping.{Typing, infer}
use Rattle.lambda_box.specs.BoxProgram.{BoxProgram}
use Rattle.erase_rules.specs.DirectedErasure.{erased}
use Rattle.pc_rules.specs.DirectedPlaces.{Gives, Placed, gives, at_place, and_then}
use Rattle.erase_rules.specs.DirectedProgram.{is_reached, Reached, with_constant, with_axiom, erased_constants, Answer, Program, answer, erased_program}
use Rattle.erase_rules.specs.ProgramNodes.{constant_nodes, program_nodes, body_nodes}
use Rattle.erase_rules.proofs.Sizes.{erased_strips, strips_nodes}
use Rattle.erase_rules.proofs.Program.{gives_both, outcome_done, given_value, program_is}

module _ (E : Env) (inf : Typing) where
  abbrev IsSmall : List Kept → Type 0
  IsSmall ds = (ts : List BoxTerm) (r : Reached) (u v : Account) → (erased_constants E inf ts ds u).outcome ≡ Gives r v → constant_nodes r.constants ≤ body_nodes ds

  small_axiom : (ds : List Kept) (k : Name) → IsSmall ds → (ts : List BoxTerm) (r : Reached) (u v : Account) (s : Bool) →
      (if s then and_then (erased_constants E inf ts ds u) (λ r v. gives (with_axiom k r) v) else erased_constants E inf ts ds u).outcome ≡ Gives r v →
      constant_nodes r.constants ≤ body_nodes ds
  small_axiom ds k rec ts r u v true h =
      let p = gives_both (erased_constants E inf ts ds u) (λ r v. gives (with_axiom k r) v) r v h in
      subst (λ r. constant_nodes r.constants ≤ body_nodes ds) (given_value p.3) (rec ts p.0 u p.1 p.2)
  small_axiom ds k rec ts r u v false h = rec ts r u v h

  small_body : (ds : List Kept) (k : Name) (b : Term) → IsSmall ds → (ts : List BoxTerm) (r : Reached) (u v : Account) (s : Bool) →
      (if s
      then and_then (at_place (AtDeclaration (length ds)) (erased E inf [] b u)) (λ b' v. and_then (erased_constants E inf (b' ∷ ts) ds v) (λ r w. gives (with_constant k b' r) w))
      else erased_constants E inf ts ds u).outcome ≡ Gives r v →
      constant_nodes r.constants ≤ nodes b + body_nodes ds
  small_body ds k b rec ts r u v true h =
      let k2 : BoxTerm → Reached → Account → Placed Reached = λ b' r w. gives (with_constant k b' r) w in
      let k1 : BoxTerm → Account → Placed Reached = λ b' v. and_then (erased_constants E inf (b' ∷ ts) ds v) (k2 b') in
      let p1 = gives_both (at_place (AtDeclaration (length ds)) (erased E inf [] b u)) k1 r v h in
      let p2 = gives_both (erased_constants E inf (p1.0 ∷ ts) ds p1.1) (k2 p1.0) r v p1.3 in
      let x : nodes p1.0 ≤ nodes b = strips_nodes (erased_strips E inf [] b p1.0 u p1.1 (outcome_done (AtDeclaration (length ds)) (erased E inf [] b u).end p1.0 p1.1 p1.2)) in
      let y : constant_nodes p2.0.constants ≤ body_nodes ds = rec (p1.0 ∷ ts) p2.0 p1.1 p2.1 p2.2 in
      let z : nodes p1.0 + constant_nodes p2.0.constants ≤ nodes b + body_nodes ds = omega arith in
      subst (λ r. constant_nodes r.constants ≤ nodes b + body_nodes ds) (given_value p2.3) z
  small_body ds k b rec ts r u v false h = let x = rec ts r u v h in omega arith

  small : (ds : List Kept) → IsSmall ds
  unfolding erased_constants
  small [] ts r u v h = subst (λ r. constant_nodes r.constants ≤ 0) (given_value h) (omega arith)
  small (Constant k T None ∷ ds) ts r u v h = small_axiom ds k (small ds) ts r u v (is_reached k ts) h
  small (Constant k T (Some b) ∷ ds) ts r u v h = small_body ds k b (small ds) ts r u v (is_reached k ts) h
  small (Heads B ∷ ds) ts r u v h = small ds ts r u v h
  small (Whole B ∷ ds) ts r u v h = small ds ts r u v h

pub program_is_small : (E : Env) (q : Test) (n : ℕ) (main : Term) (P : BoxProgram) (u v : Account) → (erased_program E q n main u).outcome ≡ Gives (Program P) v →
    program_nodes P ≤ nodes main + body_nodes E.declarations
program_is_small E q n main P u v h =
    let k2 : BoxTerm → Reached → Account → Placed Answer = λ main' r w. gives (answer E main' r r.without_body) w in
    let k1 : BoxTerm → Account → Placed Answer = λ main' v. and_then (erased_constants E (infer E q n) (main' ∷ []) E.declarations v) (k2 main') in
    let p1 = gives_both (at_place AtMain (erased E (infer E q n) [] main u)) k1 (Program P) v h in
    let p2 = gives_both (erased_constants E (infer E q n) (p1.0 ∷ []) E.declarations p1.1) (k2 p1.0) (Program P) v p1.3 in
    let is = program_is E p1.0 p2.0 p2.0.without_body P (given_value p2.3) in
    let x : nodes p1.0 ≤ nodes main =
    strips_nodes (erased_strips E (infer E q n) [] main p1.0 u p1.1 (outcome_done AtMain (erased E (infer E q n) [] main u).end p1.0 p1.1 p1.2)) in
    let y : constant_nodes p2.0.constants ≤ body_nodes E.declarations = small E (infer E q n) E.declarations (p1.0 ∷ []) p2.0 p1.1 p2.1 p2.2 in
    let z : nodes p1.0 + constant_nodes p2.0.constants ≤ nodes main + body_nodes E.declarations = omega arith in
    subst (λ P. program_nodes P ≤ nodes main + body_nodes E.declarations) is.1 z
