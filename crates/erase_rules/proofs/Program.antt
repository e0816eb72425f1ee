-- A program that directed erasure gives is erased from the source.
use Rattle.std.proofs.Common.{◌≡◌, ℕ, ◌||◌, Bool, true, false, if◌then◌else◌, List, [], ◌∷◌, length, Option, Some, None, refl, sym, ap, ◌∙◌, subst}
use Rattle.std.proofs.lemmas.Bool.{or_left, or_right}
use Rattle.universe_levels.specs.declared.constraint.Constraint.{Constraint}
use Rattle.trees.specs.Tree.{Slot, Rel, Node, Places, End, Child, Group, Done, Next}
use Rattle.trees.specs.Closed.{Every, EveryChild, EveryTerm}
use Rattle.pc_terms.specs.declared.leaf.Name.{Name}
use Rattle.pc_terms.specs.declared.leaf.FamilyId.{FamilyId}
use Rattle.pc_terms.specs.Syntax.{Term}
use Rattle.box_terms.specs.BoxSyntax.{BoxLabel, BoxOf, BLambdaOf, BLetInOf, BAppOf, BConstOf, BConstructOf, BCaseOf, BFixOf, box_slots, BoxTerm, BoxTerms}
use Rattle.calculus_rules.specs.declared.declaration.Block.{Block}
use Rattle.calculus_rules.specs.declared.declaration.Kept.{Kept}
use Rattle.calculus_rules.specs.declared.declaration.Kept.TheVariants.{Constant, Heads, Block as Whole}
use Rattle.pc_rules.specs.declared.broken.Place.{Place}
use Rattle.pc_rules.specs.declared.broken.Place.TheVariants.{Declaration as AtDeclaration, Main as AtMain}
use Rattle.pc_rules.specs.declared.meter.Account.{Account}
use Rattle.calculus_rules.specs.Environment as source
use Rattle.calculus_rules.specs.Environment.{Env, FamilyDecl, KeepsFamily}
use Rattle.calculus_rules.specs.Typing.{guarded, Types}
use Rattle.calculus_rules.specs.Accepted.{IsAccepted, Accepted, empty, constant, block}
use Rattle.pc_rules.specs.DirectedRun as run
use Rattle.pc_rules.specs.DirectedComparison.{Test, IsTest}
use Rattle.pc_rules.specs.DirectedTyping.{Typing, infer}
use Rattle.pc_rules.specs.WellCounted.{IsCounted, HasCountedDeclarations}
use Rattle.pc_rules.proofs.SameTrees.{false_true, one_number}
use Rattle.calculus_rules.proofs.Spines.{one_item}
use Rattle.pc_rules.proofs.WeakNext.{none_some}
use Rattle.rule_laws.proofs.TypedCounts.{typed_counted, accepted_counted}
use Rattle.rule_laws.proofs.Names.{accepted_once}
pub use Rattle.rule_laws.proofs.Outcomes.{given_value}
use Rattle.lambda_box.specs.BoxProgram.{BoxConstant, BoxProgram, Has, here, there, NamesKept, NamesOnly}
use Rattle.lambda_box.specs.BoxForm.{HasFewCounts}
use Rattle.lambda_box.proofs.Naming.{named_more}
use Rattle.erase_laws.specs.Erases.{Erases}
use Rattle.erase_laws.specs.ErasedProgram.{counts_of, AreErased, none_erased, not_reached, reached, IsErased}
use Rattle.erase_rules.specs.DirectedErasure.{erased}
use Rattle.pc_rules.specs.DirectedPlaces.{Outcome, Gives, Breaks, Spends, Nests, Placed, gives, outcome_at, at_place, outcome_then, and_then}
use Rattle.erase_rules.specs.DirectedProgram.{is_constant, names_constant, names_constant_places, names_constant_terms, is_reached, Reached, with_constant, first_declared, with_axiom, erased_constants, box_families, Answer, Program, ReachesAxiom, answer, erased_program}
use Rattle.erase_rules.proofs.Sound.{erased_sound}
use Rattle.erase_rules.proofs.Families.{family_there, family_back, families_distinct}
use Rattle.erase_laws.proofs.Reached.{BoxDeclared, types_declared, erased_declared}

-- what is done at places, taken apart

outcome_both : {A B : Type 0} (o : Outcome A) (k : A → Account → Outcome B) (b : B) (w : Account) → outcome_then o k ≡ Gives b w →
    (a : A) × (u : Account) × (o ≡ Gives a u) × (k a u ≡ Gives b w)
outcome_both (Gives a u) k b w h = (a, u, refl, h)
outcome_both (Breaks p x u) k b w h = absurd (cc)
outcome_both Spends k b w h = absurd (cc)
outcome_both Nests k b w h = absurd (cc)

pub gives_both : {A B : Type 0} (r : Placed A) (k : A → Account → Placed B) (b : B) (w : Account) → (and_then r k).outcome ≡ Gives b w →
    (a : A) × (u : Account) × (r.outcome ≡ Gives a u) × ((k a u).outcome ≡ Gives b w)
unfolding and_then
gives_both r k b w h = outcome_both r.outcome (λ a u. (k a u).outcome) b w h

pub outcome_done : {A : Type 0} (p : Place) (e : run.End A) (a : A) (u : Account) → outcome_at p e ≡ Gives a u → e ≡ run.Done a u
outcome_done p (run.Done b v) a u h = cc
outcome_done p (run.Refused b v) a u h = absurd (cc)
outcome_done p run.NoUnit a u h = absurd (cc)
outcome_done p run.Nested a u h = absurd (cc)

-- names

-- a term that names declared constants alone names constants of a list, where each that it names is there
module _ (ds : List Kept) (cs : List BoxConstant) where
  abbrev AreThere : (Name → Bool) → Type 0
  AreThere names = (k : Name) (T : Term) (o : Option Term) → names k ≡ true → source.Has ds (Constant k T o) → (b : BoxTerm) × Has cs (record { name = k; body = b })

  label_named : (l : BoxLabel) → BoxDeclared ds l → AreThere (λ k. is_constant k l) → NamesKept cs l
  label_named BoxOf h g = tt
  label_named BLambdaOf h g = tt
  label_named BLetInOf h g = tt
  label_named BAppOf h g = tt
  label_named (BConstOf k) (T, o, m) g = g k T o (one_number k.0) m
  label_named (BConstructOf f c) h g = tt
  label_named (BCaseOf f) h g = tt
  label_named (BFixOf i rargs) h g = tt

  left_there : (a b : Name → Bool) → AreThere (λ k. a k || b k) → AreThere a
  left_there a b g k T o e m = g k T o (or_left (a k) (b k) e) m

  right_there : (a b : Name → Bool) → AreThere (λ k. a k || b k) → AreThere b
  right_there a b g k T o e m = g k T o (or_right (a k) (b k) e) m

  mutual
    named_by : (t : BoxTerm) → Every (BoxDeclared ds) t → AreThere (λ k. names_constant k t) → NamesOnly cs t
    named_by (Rel i) h g = tt
    named_by (Node l ts) h g = (
      label_named l h.0 (left_there (λ k. is_constant k l) (λ k. names_constant_places k ts) g),
      places_named ts h.1 (right_there (λ k. is_constant k l) (λ k. names_constant_places k ts) g),
    )

    places_named : {ss : List Slot} (ts : Places BoxLabel box_slots ss) → EveryChild (BoxDeclared ds) ts → AreThere (λ k. names_constant_places k ts) → EveryChild (NamesKept cs) ts
    places_named End h g = tt
    places_named (Child t ts) h g = (
      named_by t h.0 (left_there (λ k. names_constant k t) (λ k. names_constant_places k ts) g),
      places_named ts h.1 (right_there (λ k. names_constant k t) (λ k. names_constant_places k ts) g),
    )
    places_named (Group us ts) h g = (
      terms_named us h.0 (left_there (λ k. names_constant_terms k us) (λ k. names_constant_places k ts) g),
      places_named ts h.1 (right_there (λ k. names_constant_terms k us) (λ k. names_constant_places k ts) g),
    )

    terms_named : (ts : BoxTerms) → EveryTerm (BoxDeclared ds) ts → AreThere (λ k. names_constant_terms k ts) → EveryTerm (NamesKept cs) ts
    terms_named Done h g = tt
    terms_named (Next n t ts) h g = (
      named_by t h.0 (left_there (λ k. names_constant k t) (λ k. names_constant_terms k ts) g),
      terms_named ts h.1 (right_there (λ k. names_constant k t) (λ k. names_constant_terms k ts) g),
    )

no_axiom : {A : Type 0} (k : Name) (o : Option Name) → first_declared k o ≡ None → A
no_axiom k None e = absurd (none_some (sym e))
no_axiom k (Some l) e = absurd (none_some (sym e))

module _ (E : Env) (w : HasCountedDeclarations E) (q : Test) (test : IsTest E.levels E.constraints q) (n : ℕ) where
  -- what the walk over declarations gives
  record Walked (ds : List Kept) (ts : List BoxTerm) (r : Reached) : Type 0 where
    pub erases : AreErased E ds r.constants
    pub reaches : r.without_body ≡ None → (k : Name) (T : Term) (o : Option Term) → is_reached k ts ≡ true → source.Has ds (Constant k T o) →
        (b : BoxTerm) × Has r.constants (record { name = k; body = b })
    pub bodies : r.without_body ≡ None → (d : BoxConstant) → Has r.constants d → NamesOnly r.constants d.body

  abbrev Walks : List Kept → Type 0
  Walks ds = (ts : List BoxTerm) (r : Reached) (u v : Account) → (erased_constants E (infer E q n) ts ds u).outcome ≡ Gives r v → Walked ds ts r

  -- a declaration that isn't reached
  passed : (ds : List Kept) (ts : List BoxTerm) (r : Reached) (k : Name) (T : Term) (o : Option Term) → is_reached k ts ≡ false → Walked ds ts r → Walked (Constant k T o ∷ ds) ts r
  passed ds ts r k T o e h = record {
    erases = not_reached h.erases;
    reaches = λ a j S p is m. later a j S p is m;
    bodies = h.bodies;
  }
    where
      later : r.without_body ≡ None → (j : Name) (S : Term) (p : Option Term) → is_reached j ts ≡ true → source.Has (Constant k T o ∷ ds) (Constant j S p) →
          (b : BoxTerm) × Has r.constants (record { name = j; body = b })
      later a j S p is source.here = false_true (sym e ∙ is)
      later a j S p is (source.there m) = h.reaches a j S p is m

  -- one that is reached and has no body
  axiom_walked : (ds : List Kept) (ts : List BoxTerm) (r : Reached) (k : Name) (T : Term) (o : Option Term) → Walked ds ts r → Walked (Constant k T o ∷ ds) ts (with_axiom k r)
  axiom_walked ds ts r k T o h = record {
    erases = not_reached h.erases;
    reaches = λ a j S p is m. no_axiom k r.without_body a;
    bodies = λ a d m. no_axiom k r.without_body a;
  }

  -- and one that is reached and erased
  body_walked : (ds : List Kept) (ts : List BoxTerm) (r : Reached) (k : Name) (T b : Term) (b' : BoxTerm) → Erases E [] b b' → Every (BoxDeclared ds) b' → Walked ds (b' ∷ ts) r →
      Walked (Constant k T (Some b) ∷ ds) ts (with_constant k b' r)
  body_walked ds ts r k T b b' e declared h = record {
    erases = reached e h.erases;
    reaches = there_too;
    bodies = named;
  }
    where
      there_too : r.without_body ≡ None → (j : Name) (S : Term) (p : Option Term) → is_reached j ts ≡ true → source.Has (Constant k T (Some b) ∷ ds) (Constant j S p) →
          (c : BoxTerm) × Has (record { name = k; body = b' } ∷ r.constants) (record { name = j; body = c })
      there_too a j S p is source.here = (b', here)
      there_too a j S p is (source.there m) =
          let x = h.reaches a j S p (or_right (names_constant j b') (is_reached j ts) is) m in
          (x.0, there x.1)

      named : r.without_body ≡ None → (d : BoxConstant) → Has (record { name = k; body = b' } ∷ r.constants) d → NamesOnly (record { name = k; body = b' } ∷ r.constants) d.body
      named a d here =
          named_more (record { name = k; body = b' }) r.constants b'
          (named_by ds r.constants b' declared (λ j S p is m. h.reaches a j S p (or_left (names_constant j b') (is_reached j ts) is) m))
      named a d (there m) = named_more (record { name = k; body = b' }) r.constants d.body (h.bodies a d m)

  axiom_on : (ds : List Kept) (k : Name) (T : Term) → Walks ds → (ts : List BoxTerm) (r : Reached) (u v : Account) (s : Bool) → is_reached k ts ≡ s →
      (if s then and_then (erased_constants E (infer E q n) ts ds u) (λ r v. gives (with_axiom k r) v) else erased_constants E (infer E q n) ts ds u).outcome ≡ Gives r v →
      Walked (Constant k T None ∷ ds) ts r
  axiom_on ds k T rec ts r u v true e h =
      let p = gives_both (erased_constants E (infer E q n) ts ds u) (λ r v. gives (with_axiom k r) v) r v h in
      subst (λ r. Walked (Constant k T None ∷ ds) ts r) (given_value p.3) (axiom_walked ds ts p.0 k T None (rec ts p.0 u p.1 p.2))
  axiom_on ds k T rec ts r u v false e h = passed ds ts r k T None e (rec ts r u v h)

  body_on : (ds : List Kept) (k : Name) (T b : Term) → IsCounted E b → ((b' : BoxTerm) → Erases E [] b b' → Every (BoxDeclared ds) b') → Walks ds →
      (ts : List BoxTerm) (r : Reached) (u v : Account) (s : Bool) → is_reached k ts ≡ s →
      (if s
      then and_then (at_place (AtDeclaration (length ds)) (erased E (infer E q n) [] b u))
      (λ b' v. and_then (erased_constants E (infer E q n) (b' ∷ ts) ds v) (λ r w. gives (with_constant k b' r) w))
      else erased_constants E (infer E q n) ts ds u).outcome ≡ Gives r v →
      Walked (Constant k T (Some b) ∷ ds) ts r
  body_on ds k T b wb declared rec ts r u v true e h =
      let k2 : BoxTerm → Reached → Account → Placed Reached = λ b' r w. gives (with_constant k b' r) w in
      let k1 : BoxTerm → Account → Placed Reached = λ b' v. and_then (erased_constants E (infer E q n) (b' ∷ ts) ds v) (k2 b') in
      let p1 = gives_both (at_place (AtDeclaration (length ds)) (erased E (infer E q n) [] b u)) k1 r v h in
      let p2 = gives_both (erased_constants E (infer E q n) (p1.0 ∷ ts) ds p1.1) (k2 p1.0) r v p1.3 in
      let at = outcome_done (AtDeclaration (length ds)) (erased E (infer E q n) [] b u).end p1.0 p1.1 p1.2 in
      let er : Erases E [] b p1.0 = erased_sound E w q test n [] b p1.0 u p1.1 tt wb at in
      subst (λ r. Walked (Constant k T (Some b) ∷ ds) ts r) (given_value p2.3)
      (body_walked ds ts p2.0 k T b p1.0 er (declared p1.0 er) (rec (p1.0 ∷ ts) p2.0 p1.1 p2.1 p2.2))
  body_on ds k T b wb declared rec ts r u v false e h = passed ds ts r k T (Some b) e (rec ts r u v h)

  block_walked : (ds : List Kept) (ts : List BoxTerm) (r : Reached) (B : Block) → Walked ds ts r → Walked (Whole B ∷ ds) ts r
  block_walked ds ts r B h = record { erases = not_reached h.erases; reaches = later; bodies = h.bodies }
    where
      later : r.without_body ≡ None → (j : Name) (S : Term) (p : Option Term) → is_reached j ts ≡ true → source.Has (Whole B ∷ ds) (Constant j S p) →
          (b : BoxTerm) × Has r.constants (record { name = j; body = b })
      later a j S p is (source.there m) = h.reaches a j S p is m

  module _ (levels : ℕ) (cs : List Constraint) where
    walked : {ds : List Kept} → Accepted levels cs ds → ((d : Kept) → source.Has ds d → source.Has E.declarations d) → Walks ds
    unfolding erased_constants
    walked empty sub ts r u v h =
        subst (λ r. Walked [] ts r) (given_value h) (record { erases = none_erased; reaches = λ a k T o is m. elim m [ ]; bodies = λ a d m. elim m [ ] })
    walked (constant {ds = ds} {k = k} {T = T} {b = None} a f p x) sub ts r u v h =
        axiom_on ds k T (walked a (λ d m. sub d (source.there m))) ts r u v (is_reached k ts) refl h
    walked (constant {ds = ds} {k = k} {T = T} {b = Some b} a f p x) sub ts r u v h =
        body_on ds k T b (w (Constant k T (Some b)) (sub (Constant k T (Some b)) source.here)).1 (λ b' e. erased_declared ds e (types_declared x))
        (walked a (λ d m. sub d (source.there m))) ts r u v (is_reached k ts) refl h
    walked (block {ds = ds} {B = B} a f p) sub ts r u v h = block_walked ds ts r B (walked a (λ d m. sub d (source.there m)) ts r u v h)

-- the whole

program_or : Answer → BoxProgram → BoxProgram
program_or (Program P) Q = P
program_or (ReachesAxiom k) Q = Q

pub program_is : (E : Env) (main' : BoxTerm) (r : Reached) (o : Option Name) (P : BoxProgram) → answer E main' r o ≡ Program P →
    (o ≡ None) × (record { constants = r.constants; families = box_families E.declarations; main = main' } ≡ P)
unfolding program_or
program_is E main' r None P e = (refl, ap (λ a. program_or a P) e)
program_is E main' r (Some k) P e = absurd (cc)

pub program_is_erased : (E : Env) → IsAccepted E → ((f : FamilyId) (F : FamilyDecl) → KeepsFamily E f F → HasFewCounts (counts_of f F)) → (q : Test) → IsTest E.levels E.constraints q →
    (n : ℕ) (main T : Term) → Types guarded E [] main T → (P : BoxProgram) (u v : Account) → (erased_program E q n main u).outcome ≡ Gives (Program P) v → IsErased E main P
program_is_erased E accepted few q test n main T typed P u v h =
    let w : HasCountedDeclarations E = (accepted_counted E accepted).declarations in
    let wt : IsCounted E main = typed_counted E (accepted_once E accepted) typed in
    let k2 : BoxTerm → Reached → Account → Placed Answer = λ main' r w. gives (answer E main' r r.without_body) w in
    let k1 : BoxTerm → Account → Placed Answer = λ main' v. and_then (erased_constants E (infer E q n) (main' ∷ []) E.declarations v) (k2 main') in
    let p1 = gives_both (at_place AtMain (erased E (infer E q n) [] main u)) k1 (Program P) v h in
    let main' : BoxTerm = p1.0 in
    let p2 = gives_both (erased_constants E (infer E q n) (main' ∷ []) E.declarations p1.1) (k2 main') (Program P) v p1.3 in
    let r : Reached = p2.0 in
    let is = program_is E main' r r.without_body P (given_value p2.3) in
    let er : Erases E [] main main' = erased_sound E w q test n [] main main' u p1.1 tt wt (outcome_done AtMain (erased E (infer E q n) [] main u).end main' p1.1 p1.2) in
    let walk : Walked E w q test n E.declarations (main' ∷ []) r =
    walked E w q test n E.levels E.constraints accepted.declarations (λ d m. m) (main' ∷ []) r p1.1 p2.1 p2.2 in
    let declared : Every (BoxDeclared E.declarations) main' = erased_declared E.declarations er (types_declared typed) in
    subst (λ P. IsErased E main P) is.1
    (record {
      constants = walk.erases;
      families = λ f F k. family_there E f F k;
      distinct = families_distinct E.levels E.constraints E.declarations accepted.declarations;
      counts = λ X m. let b = family_back E X m in subst HasFewCounts (sym b.3) (few b.0 b.1 b.2);
      main = er;
      bodies_named = walk.bodies is.0;
      main_named =
          named_by E.declarations r.constants main' declared
          (λ k S o e m. walk.reaches is.0 k S o (or_left (names_constant k main') false e) m);
    })

-- constants without a body

no_name : {A : Type 0} {k : Name} → None ≡ Some k → A
no_name e = absurd (none_some e)

module _ (E : Env) (inf : Typing) where
  abbrev FindsAxiom : List Kept → Type 0
  FindsAxiom ds = (ts : List BoxTerm) (r : Reached) (u v : Account) → (erased_constants E inf ts ds u).outcome ≡ Gives r v → (k : Name) → r.without_body ≡ Some k →
      (T : Term) × source.Has ds (Constant k T None)

  axiom_later : (d : Kept) (ds : List Kept) (k : Name) → ((T : Term) × source.Has ds (Constant k T None)) → (T : Term) × source.Has (d ∷ ds) (Constant k T None)
  axiom_later d ds k h = (h.0, source.there h.1)

  axiom_first : (ds : List Kept) (l k : Name) (T : Term) (o : Option Name) → ((k : Name) → o ≡ Some k → (T : Term) × source.Has ds (Constant k T None)) →
      first_declared l o ≡ Some k → (S : Term) × source.Has (Constant l T None ∷ ds) (Constant k S None)
  axiom_first ds l k T None h e = (T, subst (λ k. source.Has (Constant l T None ∷ ds) (Constant k T None)) (one_item e) source.here)
  axiom_first ds l k T (Some j) h e = axiom_later (Constant l T None) ds k (h k e)

  axiom_of : (ds : List Kept) (l : Name) (T : Term) → FindsAxiom ds → (ts : List BoxTerm) (r : Reached) (u v : Account) (s : Bool) →
      (if s then and_then (erased_constants E inf ts ds u) (λ r v. gives (with_axiom l r) v) else erased_constants E inf ts ds u).outcome ≡ Gives r v →
      (k : Name) → r.without_body ≡ Some k → (S : Term) × source.Has (Constant l T None ∷ ds) (Constant k S None)
  axiom_of ds l T rec ts r u v true h k e =
      let p = gives_both (erased_constants E inf ts ds u) (λ r v. gives (with_axiom l r) v) r v h in
      axiom_first ds l k T p.0.without_body (λ j i. rec ts p.0 u p.1 p.2 j i) (ap (λ r. r.without_body) (given_value p.3) ∙ e)
  axiom_of ds l T rec ts r u v false h k e = axiom_later (Constant l T None) ds k (rec ts r u v h k e)

  axiom_past : (ds : List Kept) (l : Name) (T b : Term) → FindsAxiom ds → (ts : List BoxTerm) (r : Reached) (u v : Account) (s : Bool) →
      (if s
      then and_then (at_place (AtDeclaration (length ds)) (erased E inf [] b u)) (λ b' v. and_then (erased_constants E inf (b' ∷ ts) ds v) (λ r w. gives (with_constant l b' r) w))
      else erased_constants E inf ts ds u).outcome ≡ Gives r v →
      (k : Name) → r.without_body ≡ Some k → (S : Term) × source.Has (Constant l T (Some b) ∷ ds) (Constant k S None)
  axiom_past ds l T b rec ts r u v true h k e =
      let k2 : BoxTerm → Reached → Account → Placed Reached = λ b' r w. gives (with_constant l b' r) w in
      let k1 : BoxTerm → Account → Placed Reached = λ b' v. and_then (erased_constants E inf (b' ∷ ts) ds v) (k2 b') in
      let p1 = gives_both (at_place (AtDeclaration (length ds)) (erased E inf [] b u)) k1 r v h in
      let p2 = gives_both (erased_constants E inf (p1.0 ∷ ts) ds p1.1) (k2 p1.0) r v p1.3 in
      axiom_later (Constant l T (Some b)) ds k (rec (p1.0 ∷ ts) p2.0 p1.1 p2.1 p2.2 k (ap (λ r. r.without_body) (given_value p2.3) ∙ e))
  axiom_past ds l T b rec ts r u v false h k e = axiom_later (Constant l T (Some b)) ds k (rec ts r u v h k e)

  axiom_found : (ds : List Kept) → FindsAxiom ds
  unfolding erased_constants
  axiom_found [] ts r u v h k e = no_name (ap (λ r. r.without_body) (given_value h) ∙ e)
  axiom_found (Constant l T None ∷ ds) ts r u v h k e = axiom_of ds l T (axiom_found ds) ts r u v (is_reached l ts) h k e
  axiom_found (Constant l T (Some b) ∷ ds) ts r u v h k e = axiom_past ds l T b (axiom_found ds) ts r u v (is_reached l ts) h k e
  axiom_found (Heads B ∷ ds) ts r u v h k e = axiom_later (Heads B) ds k (axiom_found ds ts r u v h k e)
  axiom_found (Whole B ∷ ds) ts r u v h k e = axiom_later (Whole B) ds k (axiom_found ds ts r u v h k e)

axiom_or : Answer → Name → Name
axiom_or (Program P) l = l
axiom_or (ReachesAxiom k) l = k

axiom_is : (E : Env) (main' : BoxTerm) (r : Reached) (o : Option Name) (k : Name) → answer E main' r o ≡ ReachesAxiom k → o ≡ Some k
unfolding axiom_or
axiom_is E main' r None k e = absurd (cc)
axiom_is E main' r (Some l) k e = ap (λ a. Some (axiom_or a k)) e

pub axioms_have_no_body : (E : Env) (q : Test) (n : ℕ) (main : Term) (k : Name) (u v : Account) → (erased_program E q n main u).outcome ≡ Gives (ReachesAxiom k) v →
    (T : Term) × source.KeepsConstant E k T None
axioms_have_no_body E q n main k u v h =
    let k2 : BoxTerm → Reached → Account → Placed Answer = λ main' r w. gives (answer E main' r r.without_body) w in
    let k1 : BoxTerm → Account → Placed Answer = λ main' v. and_then (erased_constants E (infer E q n) (main' ∷ []) E.declarations v) (k2 main') in
    let p1 = gives_both (at_place AtMain (erased E (infer E q n) [] main u)) k1 (ReachesAxiom k) v h in
    let p2 = gives_both (erased_constants E (infer E q n) (p1.0 ∷ []) E.declarations p1.1) (k2 p1.0) (ReachesAxiom k) v p1.3 in
    axiom_found E (infer E q n) E.declarations (p1.0 ∷ []) p2.0 p1.1 p2.1 p2.2 k (axiom_is E p1.0 p2.0 p2.0.without_body k (given_value p2.3))
