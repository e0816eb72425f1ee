-- Arguments dropped all at once: depth, form, names and uses, and one place more.
use Rattle.std.proofs.Common.{◌≡◌, ℕ, zero, suc, ◌+◌, ◌≤◌, Bool, true, false, ◌&&◌, ◌||◌, List, [], length, map, Option, Some, None, refl, sym, ap, ◌∙◌, arith}
use Rattle.std.specs.Prelude.{nat_eq, if◌then◌else◌}
use Rattle.std.proofs.lemmas.Bool.{eq-eqb, and_parts}
use Rattle.std.proofs.Math.Bool.{and-true}
use Rattle.trees.specs.Tree.{Rel, Done, Next}
use Rattle.trees.specs.Measures.{depth, depth_trees}
use Rattle.trees.specs.Closed.{Closed, ClosedTerms}
use Rattle.trees.proofs.Bounds.{closed_at}
use Rattle.pc_terms.specs.declared.leaf.FamilyId.{FamilyId}
use Rattle.box_terms.specs.BoxSyntax.{BoxTerm, BoxTerms, Box, BLambda, BLetIn, BApp, BConst, BConstruct, BCase, BFix}
use Rattle.box_terms.specs.BoxLists.{arms_of, bodies_of, rargs_of}
use Rattle.box_terms.specs.declared.term.BoxBranch.{BoxBranch}
use Rattle.box_terms.specs.declared.term.BoxDef.{BoxDef}
use Rattle.box_passes.specs.Maps.{map_branch, map_def}
use Rattle.lambda_box.specs.ClosureEvaluation.{names, names_terms}
use Rattle.shrink_passes.specs.declared.noting.Use.{Use}
use Rattle.shrink_passes.specs.Uses.{uses, uses_terms}
use Rattle.shrink_passes.specs.DropParams.{is_spine, is_box, fits, fits_terms, cut, cut_terms, leading, is_unused}
use Rattle.shrink_passes.specs.DeadPlaces.{spine, box_there, is_reached, noted}
use Rattle.shrink_passes.specs.Pruned.{is_dropped, pruned, pruned_terms}
use Rattle.shrink_passes.proofs.RunShapes.{box_is_box}
use Rattle.shrink_passes.proofs.Mapped.{fix_mapped, case_mapped}
use Rattle.shrink_passes.proofs.Noted.{fits_noted}
use Rattle.shrink_passes.proofs.UnusedPlaces.{unused_past}
use Rattle.shrink_passes.proofs.Spines.{kept_below, is_use, spine_is, spine_no_box, use_used, shorter, spine_pruned, use_shorter, box_shorter, reached_shorter}

module _ (D : ℕ → ℕ → Bool) where
  mutual
    pub pruned_depth : (t : BoxTerm) → depth (pruned D t) ≤ depth t
    pruned_depth (Rel i) = omega arith
    pruned_depth Box = omega arith
    pruned_depth (BLambda b) = omega (arith, pruned_depth b)
    pruned_depth (BLetIn a t) = omega (arith, pruned_depth a, pruned_depth t)
    pruned_depth (BApp f a) = either (is_dropped D (spine f)) (pruned_depth f) (pruned_depth a)
      where
        either : (z : Bool) → depth (pruned D f) ≤ depth f → depth (pruned D a) ≤ depth a → depth (if z then pruned D f else BApp (pruned D f) (pruned D a)) ≤ depth (BApp f a)
        either true x y = omega arith
        either false x y = omega arith
    pruned_depth (BConst c) = omega arith
    pruned_depth (BConstruct f c) = omega arith
    pruned_depth (BCase f s bs) = omega (arith, pruned_depth s, pruned_depth_terms bs)
    pruned_depth (BFix i rargs bodies) = omega (arith, pruned_depth_terms bodies)

    pruned_depth_terms : (ts : BoxTerms) → depth_trees (pruned_terms D ts) ≤ depth_trees ts
    pruned_depth_terms Done = omega arith
    pruned_depth_terms (Next n t ts) = omega (arith, pruned_depth t, pruned_depth_terms ts)

  mutual
    pub pruned_closed : (m : ℕ) (t : BoxTerm) → Closed m t → Closed m (pruned D t)
    pruned_closed m (Rel i) c = c
    pruned_closed m Box c = tt
    pruned_closed m (BLambda b) c = (pruned_closed (1 + m) b c.0, tt)
    pruned_closed m (BLetIn a t) c = (pruned_closed (0 + m) a c.0, (pruned_closed (1 + m) t c.1.0, tt))
    pruned_closed m (BApp f a) c = either (is_dropped D (spine f)) (pruned_closed (0 + m) f c.0) (pruned_closed (0 + m) a c.1.0)
      where
        either : (z : Bool) → Closed (0 + m) (pruned D f) → Closed (0 + m) (pruned D a) → Closed m (if z then pruned D f else BApp (pruned D f) (pruned D a))
        either true x y = closed_at (pruned D f) (omega arith) x
        either false x y = (x, (y, tt))
    pruned_closed m (BConst c') c = tt
    pruned_closed m (BConstruct f i) c = tt
    pruned_closed m (BCase f s bs) c = (pruned_closed (0 + m) s c.0, (pruned_closed_terms m bs c.1.0, tt))
    pruned_closed m (BFix i rargs bodies) c = (pruned_closed_terms m bodies c.0, tt)

    pruned_closed_terms : (m : ℕ) (ts : BoxTerms) → ClosedTerms m ts → ClosedTerms m (pruned_terms D ts)
    pruned_closed_terms m Done c = tt
    pruned_closed_terms m (Next n t ts) c = (pruned_closed (n + m) t c.0, pruned_closed_terms m ts c.1)

  pub fix_pruned : (ds es : List BoxDef) (i : ℕ) → es ≡ map (map_def (pruned D)) ds → BFix i (rargs_of es) (bodies_of (length es) es) ≡ pruned D (BFix i (rargs_of ds) (bodies_of (length ds) ds))
  fix_pruned = fix_mapped (pruned D) (pruned_terms D) refl (λ n t ts. refl)

  pub case_pruned : (f : FamilyId) (s s' : BoxTerm) (bs cs : List BoxBranch) → s' ≡ pruned D s → cs ≡ map (map_branch (pruned D)) bs → BCase f s' (arms_of cs) ≡ pruned D (BCase f s (arms_of bs))
  case_pruned = case_mapped (pruned D) (pruned_terms D) refl (λ n t ts. refl)

  pruned_no_box : (t : BoxTerm) (h : Option Use) → spine t ≡ h → is_dropped D h ≡ true → is_box (pruned D t) ≡ false
  pruned_no_box t None e d = absurd (cc)
  pruned_no_box t (Some u) e d = spine_no_box (pruned D t) (record { name = u.name; arguments = kept_below (D u.name.0) u.arguments }) (spine_pruned D t ∙ ap (shorter D) e)

  pub pruned_box : (t : BoxTerm) → is_box (pruned D t) ≡ is_box t
  pruned_box (BApp f a) = either (is_dropped D (spine f)) refl
    where
      either : (z : Bool) → is_dropped D (spine f) ≡ z → is_box (if z then pruned D f else BApp (pruned D f) (pruned D a)) ≡ false
      either true d = pruned_no_box f (spine f) refl d
      either false d = refl
  pruned_box (Rel i) = refl
  pruned_box Box = refl
  pruned_box (BLambda b) = refl
  pruned_box (BLetIn a t) = refl
  pruned_box (BConst c) = refl
  pruned_box (BConstruct f c) = refl
  pruned_box (BCase f s bs) = refl
  pruned_box (BFix i rargs bodies) = refl

  pub pruned_leading : (t : BoxTerm) → leading (pruned D t) ≡ leading t
  pruned_leading (BLambda b) = ap suc (pruned_leading b)
  pruned_leading (BApp f a) = either (is_dropped D (spine f)) refl
    where
      no_lambda : (t : BoxTerm) (u : Use) → spine t ≡ Some u → leading t ≡ 0
      no_lambda (BLambda b) u e = absurd (cc)
      no_lambda t u e = refl

      either : (z : Bool) → is_dropped D (spine f) ≡ z → leading (if z then pruned D f else BApp (pruned D f) (pruned D a)) ≡ 0
      either true d = go (spine f) refl d
        where
          go : (h : Option Use) → spine f ≡ h → is_dropped D h ≡ true → leading (pruned D f) ≡ 0
          go None e d = absurd (cc)
          go (Some u) e d = no_lambda (pruned D f) (record { name = u.name; arguments = kept_below (D u.name.0) u.arguments }) (spine_pruned D f ∙ ap (shorter D) e)
      either false d = refl
  pruned_leading (Rel i) = refl
  pruned_leading Box = refl
  pruned_leading (BLetIn a t) = refl
  pruned_leading (BConst c) = refl
  pruned_leading (BConstruct f c) = refl
  pruned_leading (BCase f s bs) = refl
  pruned_leading (BFix i rargs bodies) = refl

  -- every argument that is dropped is box
  abbrev mutual
    pub Boxes : BoxTerm → Type 0
    Boxes (Rel i) = Unit {0}
    Boxes Box = Unit {0}
    Boxes (BLambda b) = Boxes b
    Boxes (BLetIn a t) = Boxes a × Boxes t
    Boxes (BApp f a) = (is_dropped D (spine f) ≡ true → a ≡ Box) × Boxes f × Boxes a
    Boxes (BConst c) = Unit {0}
    Boxes (BConstruct f c) = Unit {0}
    Boxes (BCase f s bs) = Boxes s × BoxesTerms bs
    Boxes (BFix i rargs bodies) = BoxesTerms bodies

    pub BoxesTerms : BoxTerms → Type 0
    BoxesTerms Done = Unit {0}
    BoxesTerms (Next n t ts) = Boxes t × BoxesTerms ts

  abbrev AllNoted : BoxTerm → Type 0
  AllNoted t = (j r : ℕ) → D j r ≡ true → noted j r t ≡ true

  from_fits : (t : BoxTerm) → ((j r : ℕ) → D j r ≡ true → fits j r [] t ≡ true) → AllNoted t
  from_fits t h j r d = (and_parts (noted j r t) (is_reached j r (spine t)) (sym (fits_noted j r t) ∙ h j r d)).0

  there_box : (u : Use) (a : BoxTerm) → box_there u.name.0 u.arguments (Some u) a ≡ true → a ≡ Box
  there_box u a e = go (nat_eq u.name.0 u.name.0) (nat_eq u.arguments u.arguments) (eq-eqb u.name.0 u.name.0 refl) (eq-eqb u.arguments u.arguments refl) e
    where
      go : (y z : Bool) → y ≡ true → z ≡ true → (if y then (if z then is_box a else true) else true) ≡ true → a ≡ Box
      go true true p q e = box_is_box a e
      go true false p q e = absurd (cc)
      go false z p q e = absurd (cc)

  mutual
    boxes_from : (t : BoxTerm) → AllNoted t → Boxes t
    boxes_from (Rel i) h = tt
    boxes_from Box h = tt
    boxes_from (BLambda b) h = boxes_from b (from_fits b h)
    boxes_from (BLetIn a t) h = (
      boxes_from a (from_fits a (λ j r d. (and_parts (fits j r [] a) (fits j r [] t) (h j r d)).0)),
      boxes_from t (from_fits t (λ j r d. (and_parts (fits j r [] a) (fits j r [] t) (h j r d)).1)),
    )
    boxes_from (BApp f a) h = (
      there (spine f) (λ u e d. (and_parts (box_there u.name.0 u.arguments (spine f) a) (fits u.name.0 u.arguments [] a) (parts u.name.0 u.arguments d).1).0),
      boxes_from f (λ j r d. (parts j r d).0),
      boxes_from a (from_fits a (λ j r d. (and_parts (box_there j r (spine f) a) (fits j r [] a) (parts j r d).1).1)),
    )
      where
        parts : (j r : ℕ) → D j r ≡ true → (noted j r f ≡ true) × ((box_there j r (spine f) a && fits j r [] a) ≡ true)
        parts j r d = and_parts (noted j r f) (box_there j r (spine f) a && fits j r [] a) (h j r d)

        there : (h : Option Use) → ((u : Use) → h ≡ Some u → D u.name.0 u.arguments ≡ true → box_there u.name.0 u.arguments h a ≡ true) → is_dropped D h ≡ true → a ≡ Box
        there None g d = absurd (cc)
        there (Some u) g d = there_box u a (g u refl d)
    boxes_from (BConst c) h = tt
    boxes_from (BConstruct f c) h = tt
    boxes_from (BCase f s bs) h = (
      boxes_from s (from_fits s (λ j r d. (and_parts (fits j r [] s) (fits_terms j r bs) (h j r d)).0)),
      boxes_from_terms bs (λ j r d. (and_parts (fits j r [] s) (fits_terms j r bs) (h j r d)).1),
    )
    boxes_from (BFix i rargs bodies) h = boxes_from_terms bodies h

    boxes_from_terms : (ts : BoxTerms) → ((j r : ℕ) → D j r ≡ true → fits_terms j r ts ≡ true) → BoxesTerms ts
    boxes_from_terms Done h = tt
    boxes_from_terms (Next n t ts) h = (
      boxes_from t (from_fits t (λ j r d. (and_parts (fits j r [] t) (fits_terms j r ts) (h j r d)).0)),
      boxes_from_terms ts (λ j r d. (and_parts (fits j r [] t) (fits_terms j r ts) (h j r d)).1),
    )

  pub boxes_of_fits : (t : BoxTerm) → ((j r : ℕ) → D j r ≡ true → fits j r [] t ≡ true) → Boxes t
  boxes_of_fits t h = boxes_from t (from_fits t h)

  -- where every argument that is dropped is box, names and uses stay

  box_names : (x : Bool) → (x || (false || false)) ≡ x
  box_names true = refl
  box_names false = refl

  mutual
    pub pruned_names : (t : BoxTerm) → Boxes t → (i : ℕ) → names (pruned D t) i ≡ names t i
    pruned_names (Rel j) h i = refl
    pruned_names Box h i = refl
    pruned_names (BLambda b) h i = ap (λ z. z || false) (pruned_names b h (1 + i))
    pruned_names (BLetIn a t) h i = λ x. pruned_names a h.0 (0 + i) x || (pruned_names t h.1 (1 + i) x || false)
    pruned_names (BApp f a) h i = either (is_dropped D (spine f)) h.0 (pruned_names f h.1 (0 + i)) (pruned_names a h.2 (0 + i))
      where
        either : (z : Bool) → (z ≡ true → a ≡ Box) → names (pruned D f) (0 + i) ≡ names f (0 + i) → names (pruned D a) (0 + i) ≡ names a (0 + i) →
            names (if z then pruned D f else BApp (pruned D f) (pruned D a)) i ≡ names (BApp f a) i
        either true b x y =
            let q : i ≡ 0 + i = omega arith in
            ap (names (pruned D f)) q ∙ x ∙ sym (box_names (names f (0 + i))) ∙ sym (ap (λ u. names f (0 + i) || (names u (0 + i) || false)) (b refl))
        either false b x y = λ j. x j || (y j || false)
    pruned_names (BConst c) h i = refl
    pruned_names (BConstruct f c) h i = refl
    pruned_names (BCase f s bs) h i = λ x. pruned_names s h.0 (0 + i) x || (pruned_names_terms bs h.1 i x || false)
    pruned_names (BFix j rargs bodies) h i = ap (λ z. z || false) (pruned_names_terms bodies h i)

    pruned_names_terms : (ts : BoxTerms) → BoxesTerms ts → (i : ℕ) → names_terms (pruned_terms D ts) i ≡ names_terms ts i
    pruned_names_terms Done h i = refl
    pruned_names_terms (Next n t ts) h i = λ x. pruned_names t h.0 (n + i) x || pruned_names_terms ts h.1 i x

  pub pruned_unused : (t : BoxTerm) → Boxes t → (p : ℕ) → is_unused p (pruned D t) ≡ is_unused p t
  pruned_unused (BLambda b) h zero = ap (λ z. if z then false else true) (pruned_names b h 0)
  pruned_unused (BLambda b) h (suc p) = pruned_unused b h p
  pruned_unused t h p = unused_past p (pruned D t) (omega (arith, pruned_leading t)) ∙ sym (unused_past p t (omega arith))

  mutual
    pub pruned_uses : (j : ℕ) (t : BoxTerm) → Boxes t → uses j (pruned D t) ≡ uses j t
    pruned_uses j (Rel i) h = refl
    pruned_uses j Box h = refl
    pruned_uses j (BLambda b) h = pruned_uses j b h
    pruned_uses j (BLetIn a t) h = λ x. pruned_uses j a h.0 x + pruned_uses j t h.1 x
    pruned_uses j (BApp f a) h = either (is_dropped D (spine f)) h.0 (pruned_uses j f h.1) (pruned_uses j a h.2)
      where
        either : (z : Bool) → (z ≡ true → a ≡ Box) → uses j (pruned D f) ≡ uses j f → uses j (pruned D a) ≡ uses j a → uses j (if z then pruned D f else BApp (pruned D f) (pruned D a)) ≡ uses j (BApp f a)
        either true b x y = let q : uses j a ≡ 0 = ap (uses j) (b refl) in omega (arith, x, q)
        either false b x y = omega (arith, x, y)
    pruned_uses j (BConst c) h = refl
    pruned_uses j (BConstruct f c) h = refl
    pruned_uses j (BCase f s bs) h = λ x. pruned_uses j s h.0 x + pruned_uses_terms j bs h.1 x
    pruned_uses j (BFix i rargs bodies) h = pruned_uses_terms j bodies h

    pruned_uses_terms : (j : ℕ) (ts : BoxTerms) → BoxesTerms ts → uses_terms j (pruned_terms D ts) ≡ uses_terms j ts
    pruned_uses_terms j Done h = refl
    pruned_uses_terms j (Next n t ts) h = λ x. pruned_uses j t h.0 x + pruned_uses_terms j ts h.1 x

  -- the same table for the constants of a term gives the same

  module _ (E : ℕ → ℕ → Bool) where
    drop_same : (h : Option Use) → ((u : Use) → h ≡ Some u → D u.name.0 u.arguments ≡ E u.name.0 u.arguments) → is_dropped D h ≡ is_dropped E h
    drop_same None g = refl
    drop_same (Some u) g = g u refl

    mutual
      pub pruned_same : (t : BoxTerm) → ((j : ℕ) → 1 ≤ uses j t → (r : ℕ) → D j r ≡ E j r) → pruned D t ≡ pruned E t
      pruned_same (Rel i) g = refl
      pruned_same Box g = refl
      pruned_same (BLambda b) g = ap BLambda (pruned_same b g)
      pruned_same (BLetIn a t) g = λ x. BLetIn (pruned_same a (λ j l. g j (omega (arith, l))) x) (pruned_same t (λ j l. g j (omega (arith, l))) x)
      pruned_same (BApp f a) g =
          let s = drop_same (spine f) (λ u e. g u.name.0 (omega (arith, use_used f u e)) u.arguments) in
          λ x. if s x then pruned_same f (λ j l. g j (omega (arith, l))) x else BApp (pruned_same f (λ j l. g j (omega (arith, l))) x) (pruned_same a (λ j l. g j (omega (arith, l))) x)
      pruned_same (BConst c) g = refl
      pruned_same (BConstruct f c) g = refl
      pruned_same (BCase f s bs) g = λ x. BCase f (pruned_same s (λ j l. g j (omega (arith, l))) x) (pruned_same_terms bs (λ j l. g j (omega (arith, l))) x)
      pruned_same (BFix i rargs bodies) g = ap (BFix i rargs) (pruned_same_terms bodies g)

      pruned_same_terms : (ts : BoxTerms) → ((j : ℕ) → 1 ≤ uses_terms j ts → (r : ℕ) → D j r ≡ E j r) → pruned_terms D ts ≡ pruned_terms E ts
      pruned_same_terms Done g = refl
      pruned_same_terms (Next n t ts) g = λ x. Next n (pruned_same t (λ j l. g j (omega (arith, l))) x) (pruned_same_terms ts (λ j l. g j (omega (arith, l))) x)

  -- place q of constant k, which isn't dropped, and where it is then

  module _ (k q : ℕ) (out : D k q ≡ false) where
    abbrev P : ℕ
    P = kept_below (D k) q

    whole : (t : BoxTerm) → noted k P (pruned D t) ≡ noted k q t → fits k P [] (pruned D t) ≡ fits k q [] t
    whole t e =
        fits_noted k P (pruned D t) ∙ (λ x. e x && (ap (is_reached k P) (spine_pruned D t) ∙ reached_shorter D k q out (spine t)) x) ∙ sym (fits_noted k q t)

    box_there_box : (h : Option Use) → box_there k q h Box ≡ true
    box_there_box None = refl
    box_there_box (Some u) = either (nat_eq u.name.0 k) (nat_eq u.arguments q)
      where
        either : (y z : Bool) → (if y then (if z then true else true) else true) ≡ true
        either true true = refl
        either true false = refl
        either false z = refl

    mutual
      noted_pruned : (t : BoxTerm) → Boxes t → noted k P (pruned D t) ≡ noted k q t
      noted_pruned (Rel i) h = refl
      noted_pruned Box h = refl
      noted_pruned (BLambda b) h = whole b (noted_pruned b h)
      noted_pruned (BLetIn a t) h = λ x. whole a (noted_pruned a h.0) x && whole t (noted_pruned t h.1) x
      noted_pruned (BApp f a) h = either (is_dropped D (spine f)) refl h.0 (noted_pruned f h.1) (whole a (noted_pruned a h.2))
        where
          either : (z : Bool) → is_dropped D (spine f) ≡ z → (z ≡ true → a ≡ Box) → noted k P (pruned D f) ≡ noted k q f → fits k P [] (pruned D a) ≡ fits k q [] a →
              noted k P (if z then pruned D f else BApp (pruned D f) (pruned D a)) ≡ (noted k q f && (box_there k q (spine f) a && fits k q [] a))
          either true d b x y =
              let box : (box_there k q (spine f) a && fits k q [] a) ≡ true = ap (λ u. box_there k q (spine f) u && fits k q [] u) (b refl) ∙ ap (λ z. z && true) (box_there_box (spine f)) in
              x ∙ sym (ap (λ z. noted k q f && z) box ∙ and-true (noted k q f))
          either false d b x y =
              λ i. x i && ((ap (λ u. box_there k P u (pruned D a)) (spine_pruned D f) ∙ box_shorter D k q out (spine f) (pruned D a) a (pruned_box a) d) i && y i)
      noted_pruned (BConst c) h = refl
      noted_pruned (BConstruct f c) h = refl
      noted_pruned (BCase f s bs) h = λ x. whole s (noted_pruned s h.0) x && fits_pruned_terms bs h.1 x
      noted_pruned (BFix i rargs bodies) h = fits_pruned_terms bodies h

      fits_pruned_terms : (ts : BoxTerms) → BoxesTerms ts → fits_terms k P (pruned_terms D ts) ≡ fits_terms k q ts
      fits_pruned_terms Done h = refl
      fits_pruned_terms (Next n t ts) h = λ x. whole t (noted_pruned t h.0) x && fits_pruned_terms ts h.1 x

    pub fits_pruned : (t : BoxTerm) → Boxes t → fits k P [] (pruned D t) ≡ fits k q [] t
    fits_pruned t h = whole t (noted_pruned t h)

    -- one place more

    module _ (E : ℕ → ℕ → Bool) (more : (j r : ℕ) → E j r ≡ (if nat_eq j k then (if nat_eq r q then true else D j r) else D j r)) where
      still : (x y z : Bool) → z ≡ true → (if x then (if y then true else z) else z) ≡ true
      still true true z e = refl
      still true false z e = e
      still false y z e = e

      still_dropped : (h : Option Use) → is_dropped D h ≡ true → is_dropped E h ≡ true
      still_dropped None d = absurd (cc)
      still_dropped (Some u) d = more u.name.0 u.arguments ∙ still (nat_eq u.name.0 k) (nat_eq u.arguments q) (D u.name.0 u.arguments) d

      now_dropped : (h : Option Use) → is_dropped D h ≡ false → is_use k q h ≡ is_dropped E h
      now_dropped None d = refl
      now_dropped (Some u) d =
          sym (more u.name.0 u.arguments ∙ ap (λ z. if nat_eq u.name.0 k then (if nat_eq u.arguments q then true else z) else z) d ∙ plain (nat_eq u.name.0 k) (nat_eq u.arguments q))
        where
          plain : (x y : Bool) → (if x then (if y then true else false) else false) ≡ (if x then y else false)
          plain true true = refl
          plain true false = refl
          plain false y = refl

      mutual
        pub cut_pruned : (t : BoxTerm) → cut k P (pruned D t) ≡ pruned E t
        cut_pruned (Rel i) = refl
        cut_pruned Box = refl
        cut_pruned (BLambda b) = ap BLambda (cut_pruned b)
        cut_pruned (BLetIn a t) = λ x. BLetIn (cut_pruned a x) (cut_pruned t x)
        cut_pruned (BApp f a) = either (is_dropped D (spine f)) refl (cut_pruned f) (cut_pruned a)
          where
            either : (z : Bool) → is_dropped D (spine f) ≡ z → cut k P (pruned D f) ≡ pruned E f → cut k P (pruned D a) ≡ pruned E a →
                cut k P (if z then pruned D f else BApp (pruned D f) (pruned D a)) ≡ (if is_dropped E (spine f) then pruned E f else BApp (pruned E f) (pruned E a))
            either true d x y = x ∙ sym (ap (λ z. if z then pruned E f else BApp (pruned E f) (pruned E a)) (still_dropped (spine f) d))
            either false d x y =
                let s : is_spine k (pruned D f) P ≡ is_dropped E (spine f) = spine_is k (pruned D f) P ∙ ap (is_use k P) (spine_pruned D f) ∙ use_shorter D k q out (spine f) d ∙ now_dropped (spine f) d in
                λ i. if s i then x i else BApp (x i) (y i)
        cut_pruned (BConst c) = refl
        cut_pruned (BConstruct f c) = refl
        cut_pruned (BCase f s bs) = λ x. BCase f (cut_pruned s x) (cut_pruned_terms bs x)
        cut_pruned (BFix i rargs bodies) = ap (BFix i rargs) (cut_pruned_terms bodies)

        cut_pruned_terms : (ts : BoxTerms) → cut_terms k P (pruned_terms D ts) ≡ pruned_terms E ts
        cut_pruned_terms Done = refl
        cut_pruned_terms (Next n t ts) = λ x. Next n (cut_pruned t x) (cut_pruned_terms ts x)
