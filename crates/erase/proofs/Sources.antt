-- Each constant of a program that directed erasure gives is no greater than its source.
use Rattle.std.proofs.Common.{◌≡◌, subst, Bool, true, false, if◌then◌else◌, ℕ, List, [], ◌∷◌, length, Some, None}
use Rattle.pc_terms.specs.declared.leaf.Name.{Name}
use Rattle.pc_terms.specs.Syntax.{Term}
use Rattle.box_terms.specs.BoxSyntax.{BoxTerm}
use Rattle.calculus_rules.specs.declared.declaration.Kept.{Kept}
use Rattle.calculus_rules.specs.declared.declaration.Kept.TheVariants.{Constant, Heads, Block as Whole}
use Rattle.pc_rules.specs.declared.broken.Place.TheVariants.{Declaration as AtDeclaration, Main as AtMain}
use Rattle.pc_rules.specs.declared.meter.Account.{Account}
use Rattle.calculus_rules.specs.Environment as source
use Rattle.calculus_rules.specs.Environment.{Env}
use Rattle.pc_rules.specs.DirectedComparison.{Test}
use Rattle.pc_rules.specs.DirectedTyping.{Typing, infer}
use Rattle.pc_rules.specs.DirectedPlaces.{Gives, Placed, gives, at_place, and_then}
use Rattle.lambda_box.specs.BoxProgram.{BoxConstant, BoxProgram, Has, here, there}
use Rattle.erase_rules.specs.DirectedErasure.{erased}
use Rattle.erase_rules.specs.DirectedProgram.{is_reached, Reached, with_constant, with_axiom, erased_constants, Answer, Program, answer, erased_program}
use Rattle.erase_rules.specs.Laws.{IsNoGreater}
use Rattle.erase_rules.proofs.Sizes.{erased_strips, no_greater}
use Rattle.erase_rules.proofs.Program.{gives_both, outcome_done, given_value, program_is}
use Rattle.erase.specs.Kept.{AreNoGreater}

module _ (E : Env) (inf : Typing) where
  -- the constant stands for a declared body, which is no smaller
  abbrev HasSource : List Kept → BoxConstant → Type 0
  HasSource ds c = (T : Term) × (b : Term) × source.Has ds (Constant c.name T (Some b)) × IsNoGreater b c.body

  abbrev HaveSources : List Kept → List BoxConstant → Type 0
  HaveSources ds cs = (c : BoxConstant) → Has cs c → HasSource ds c

  abbrev FindsSources : List Kept → Type 0
  FindsSources ds = (ts : List BoxTerm) (r : Reached) (u v : Account) → (erased_constants E inf ts ds u).outcome ≡ Gives r v → HaveSources ds r.constants

  later : (d : Kept) (ds : List Kept) (cs : List BoxConstant) → HaveSources ds cs → HaveSources (d ∷ ds) cs
  later d ds cs h c m = let s = h c m in (s.0, s.1, source.there s.2, s.3)

  axiom_sources : (ds : List Kept) (k : Name) (T : Term) → FindsSources ds → (ts : List BoxTerm) (r : Reached) (u v : Account) (s : Bool) →
      (if s then and_then (erased_constants E inf ts ds u) (λ r v. gives (with_axiom k r) v) else erased_constants E inf ts ds u).outcome ≡ Gives r v →
      HaveSources (Constant k T None ∷ ds) r.constants
  axiom_sources ds k T rec ts r u v true h =
      let p = gives_both (erased_constants E inf ts ds u) (λ r v. gives (with_axiom k r) v) r v h in
      subst (λ r. HaveSources (Constant k T None ∷ ds) r.constants) (given_value p.3) (later (Constant k T None) ds p.0.constants (rec ts p.0 u p.1 p.2))
  axiom_sources ds k T rec ts r u v false h = later (Constant k T None) ds r.constants (rec ts r u v h)

  with_source : (ds : List Kept) (k : Name) (T b : Term) (b' : BoxTerm) (cs : List BoxConstant) → IsNoGreater b b' → HaveSources ds cs →
      HaveSources (Constant k T (Some b) ∷ ds) (record { name = k; body = b' } ∷ cs)
  with_source ds k T b b' cs n h c here = (T, b, source.here, n)
  with_source ds k T b b' cs n h c (there m) = later (Constant k T (Some b)) ds cs h c m

  body_sources : (ds : List Kept) (k : Name) (T b : Term) → FindsSources ds → (ts : List BoxTerm) (r : Reached) (u v : Account) (s : Bool) →
      (if s
      then and_then (at_place (AtDeclaration (length ds)) (erased E inf [] b u)) (λ b' v. and_then (erased_constants E inf (b' ∷ ts) ds v) (λ r w. gives (with_constant k b' r) w))
      else erased_constants E inf ts ds u).outcome ≡ Gives r v → HaveSources (Constant k T (Some b) ∷ ds) r.constants
  body_sources ds k T b rec ts r u v true h =
      let k2 : BoxTerm → Reached → Account → Placed Reached = λ b' r w. gives (with_constant k b' r) w in
      let k1 : BoxTerm → Account → Placed Reached = λ b' v. and_then (erased_constants E inf (b' ∷ ts) ds v) (k2 b') in
      let p1 = gives_both (at_place (AtDeclaration (length ds)) (erased E inf [] b u)) k1 r v h in
      let p2 = gives_both (erased_constants E inf (p1.0 ∷ ts) ds p1.1) (k2 p1.0) r v p1.3 in
      let n = no_greater (erased_strips E inf [] b p1.0 u p1.1 (outcome_done (AtDeclaration (length ds)) (erased E inf [] b u).end p1.0 p1.1 p1.2)) in
      subst (λ r. HaveSources (Constant k T (Some b) ∷ ds) r.constants) (given_value p2.3)
      (with_source ds k T b p1.0 p2.0.constants n (rec (p1.0 ∷ ts) p2.0 p1.1 p2.1 p2.2))
  body_sources ds k T b rec ts r u v false h = later (Constant k T (Some b)) ds r.constants (rec ts r u v h)

  sources : (ds : List Kept) → FindsSources ds
  unfolding erased_constants
  sources [] ts r u v h = subst (λ r. HaveSources [] r.constants) (given_value h) (λ c m. elim m [ ])
  sources (Constant k T None ∷ ds) ts r u v h = axiom_sources ds k T (sources ds) ts r u v (is_reached k ts) h
  sources (Constant k T (Some b) ∷ ds) ts r u v h = body_sources ds k T b (sources ds) ts r u v (is_reached k ts) h
  sources (Heads B ∷ ds) ts r u v h = later (Heads B) ds r.constants (sources ds ts r u v h)
  sources (Whole B ∷ ds) ts r u v h = later (Whole B) ds r.constants (sources ds ts r u v h)

pub programs_no_greater : (E : Env) (q : Test) (n : ℕ) (main : Term) (P : BoxProgram) (u v : Account) → (erased_program E q n main u).outcome ≡ Gives (Program P) v → AreNoGreater E main P
programs_no_greater E q n main P u v h =
    let k2 : BoxTerm → Reached → Account → Placed Answer = λ main' r w. gives (answer E main' r r.without_body) w in
    let k1 : BoxTerm → Account → Placed Answer = λ main' v. and_then (erased_constants E (infer E q n) (main' ∷ []) E.declarations v) (k2 main') in
    let p1 = gives_both (at_place AtMain (erased E (infer E q n) [] main u)) k1 (Program P) v h in
    let p2 = gives_both (erased_constants E (infer E q n) (p1.0 ∷ []) E.declarations p1.1) (k2 p1.0) (Program P) v p1.3 in
    let is = program_is E p1.0 p2.0 p2.0.without_body P (given_value p2.3) in
    let m = no_greater (erased_strips E (infer E q n) [] main p1.0 u p1.1 (outcome_done AtMain (erased E (infer E q n) [] main u).end p1.0 p1.1 p1.2)) in
    let s = sources E (infer E q n) E.declarations (p1.0 ∷ []) p2.0 p1.1 p2.1 p2.2 in
    subst (λ P. AreNoGreater E main P) is.1 (record { main_no_greater = m; bodies = λ k b' x. s (record { name = k; body = b' }) x })
