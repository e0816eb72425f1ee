-- A body put in place of a constant's uses: nodes, depth, and uses of constants.
use Rattle.std.proofs.Common.{◌≡◌, ℕ, zero, suc, ◌+◌, ◌*◌, ◌≤◌, max, Bool, true, false, refl, sym, ap, ◌∙◌, arith, ◌⊎◌, inl, inr, ⊎_elim}
use Rattle.std.specs.Prelude.{nat_eq, if◌then◌else◌}
use Rattle.std.proofs.lemmas.Bool.{eqb-true}
use Rattle.trees.specs.Tree.{Rel, Done, Next}
use Rattle.trees.specs.Measures.{nodes, nodes_trees, depth, depth_trees}
use Rattle.pc_terms.specs.declared.leaf.Name.{Name}
use Rattle.box_terms.specs.BoxSyntax.{BoxTerm, BoxTerms, Box, BLambda, BLetIn, BApp, BConst, BConstruct, BCase, BFix}
use Rattle.shrink_passes.specs.Uses.{uses, uses_terms}
use Rattle.shrink_passes.specs.Inline.{put_in, put_in_terms}

-- the greatest number of nodes above a use of constant k, n being above the term
abbrev mutual
  pub level : ℕ → ℕ → BoxTerm → ℕ
  level k n (Rel i) = 0
  level k n Box = 0
  level k n (BLambda t) = level k (n + 1) t
  level k n (BLetIn a t) = max (level k (n + 1) a) (level k (n + 1) t)
  level k n (BApp f a) = max (level k (n + 1) f) (level k (n + 1) a)
  level k n (BConst c) = if nat_eq c.0 k then n else 0
  level k n (BConstruct f c) = 0
  level k n (BCase f s bs) = max (level k (n + 1) s) (levels k (n + 1) bs)
  level k n (BFix i rargs bodies) = levels k (n + 1) bodies

  pub levels : ℕ → ℕ → BoxTerms → ℕ
  levels k n Done = 0
  levels k n (Next m t ts) = max (level k n t) (levels k n ts)

some_depth : (t : BoxTerm) → 1 ≤ depth t
some_depth (Rel i) = omega arith
some_depth Box = omega arith
some_depth (BLambda b) = omega arith
some_depth (BLetIn b t) = omega arith
some_depth (BApp f a) = omega arith
some_depth (BConst k) = omega arith
some_depth (BConstruct f c) = omega arith
some_depth (BCase f s bs) = omega arith
some_depth (BFix i rargs bodies) = omega arith

-- without a use

mutual
  pub unused : (k : ℕ) (b t : BoxTerm) → uses k t ≡ 0 → put_in k b t ≡ t
  unused k b (Rel i) e = refl
  unused k b Box e = refl
  unused k b (BLambda t) e = ap BLambda (unused k b t e)
  unused k b (BLetIn a t) e = λ i. BLetIn (unused k b a (omega arith) i) (unused k b t (omega arith) i)
  unused k b (BApp f a) e = λ i. BApp (unused k b f (omega arith) i) (unused k b a (omega arith) i)
  unused k b (BConst c) e = other (nat_eq c.0 k) e
    where
      other : (z : Bool) → (if◌then◌else◌ {A = ℕ} z 1 0) ≡ 0 → (if z then b else BConst c) ≡ BConst c
      other true e = absurd (omega arith)
      other false e = refl
  unused k b (BConstruct f c) e = refl
  unused k b (BCase f s bs) e = λ i. BCase f (unused k b s (omega arith) i) (unused_terms k b bs (omega arith) i)
  unused k b (BFix j rargs bodies) e = λ i. BFix j rargs (unused_terms k b bodies e i)

  pub unused_terms : (k : ℕ) (b : BoxTerm) (ts : BoxTerms) → uses_terms k ts ≡ 0 → put_in_terms k b ts ≡ ts
  unused_terms k b Done e = refl
  unused_terms k b (Next n t ts) e = λ i. Next n (unused k b t (omega arith) i) (unused_terms k b ts (omega arith) i)

mutual
  pub unused_level : (k n : ℕ) (t : BoxTerm) → uses k t ≡ 0 → level k n t ≡ 0
  unused_level k n (Rel i) e = refl
  unused_level k n Box e = refl
  unused_level k n (BLambda t) e = unused_level k (n + 1) t e
  unused_level k n (BLetIn a t) e = omega (arith, unused_level k (n + 1) a (omega arith), unused_level k (n + 1) t (omega arith))
  unused_level k n (BApp f a) e = omega (arith, unused_level k (n + 1) f (omega arith), unused_level k (n + 1) a (omega arith))
  unused_level k n (BConst c) e = other (nat_eq c.0 k) e
    where
      other : (z : Bool) → (if◌then◌else◌ {A = ℕ} z 1 0) ≡ 0 → (if◌then◌else◌ {A = ℕ} z n 0) ≡ 0
      other true e = absurd (omega arith)
      other false e = refl
  unused_level k n (BConstruct f c) e = refl
  unused_level k n (BCase f s bs) e = omega (arith, unused_level k (n + 1) s (omega arith), unused_levels k (n + 1) bs (omega arith))
  unused_level k n (BFix j rargs bodies) e = unused_levels k (n + 1) bodies e

  pub unused_levels : (k n : ℕ) (ts : BoxTerms) → uses_terms k ts ≡ 0 → levels k n ts ≡ 0
  unused_levels k n Done e = refl
  unused_levels k n (Next m t ts) e = omega (arith, unused_level k n t (omega arith), unused_levels k n ts (omega arith))

module _ (k : ℕ) (b : BoxTerm) where
  -- nodes
  mutual
    pub put_nodes : (t : BoxTerm) → nodes (put_in k b t) + uses k t ≡ nodes t + uses k t * nodes b
    put_nodes (Rel i) = omega arith
    put_nodes Box = omega arith
    put_nodes (BLambda t) = omega (arith, put_nodes t)
    put_nodes (BLetIn a t) = omega (arith, put_nodes a, put_nodes t)
    put_nodes (BApp f a) = omega (arith, put_nodes f, put_nodes a)
    put_nodes (BConst c) = either (nat_eq c.0 k)
      where
        either : (z : Bool) → nodes (if z then b else BConst c) + (if◌then◌else◌ {A = ℕ} z 1 0) ≡ nodes (BConst c) + (if◌then◌else◌ {A = ℕ} z 1 0) * nodes b
        either true = omega arith
        either false = omega arith
    put_nodes (BConstruct f c) = omega arith
    put_nodes (BCase f s bs) = omega (arith, put_nodes s, put_nodes_terms bs)
    put_nodes (BFix i rargs bodies) = omega (arith, put_nodes_terms bodies)

    pub put_nodes_terms : (ts : BoxTerms) → nodes_trees (put_in_terms k b ts) + uses_terms k ts ≡ nodes_trees ts + uses_terms k ts * nodes b
    put_nodes_terms Done = omega arith
    put_nodes_terms (Next n t ts) = omega (arith, put_nodes t, put_nodes_terms ts)

  -- depth
  mutual
    pub no_deeper : (n : ℕ) (t : BoxTerm) → n + depth (put_in k b t) ≤ max (n + depth t) (level k n t + depth b)
    no_deeper n (Rel i) = omega arith
    no_deeper n Box = omega arith
    no_deeper n (BLambda t) = omega (arith, no_deeper (n + 1) t)
    no_deeper n (BLetIn a t) = omega (arith, no_deeper (n + 1) a, no_deeper (n + 1) t)
    no_deeper n (BApp f a) = omega (arith, no_deeper (n + 1) f, no_deeper (n + 1) a)
    no_deeper n (BConst c) = either (nat_eq c.0 k)
      where
        either : (z : Bool) → n + depth (if z then b else BConst c) ≤ max (n + depth (BConst c)) ((if◌then◌else◌ {A = ℕ} z n 0) + depth b)
        either true = omega arith
        either false = omega arith
    no_deeper n (BConstruct f c) = omega arith
    no_deeper n (BCase f s bs) = omega (arith, no_deeper (n + 1) s, no_deeper_terms (n + 1) bs)
    no_deeper n (BFix i rargs bodies) = omega (arith, no_deeper_terms (n + 1) bodies)

    pub no_deeper_terms : (n : ℕ) (ts : BoxTerms) → n + depth_trees (put_in_terms k b ts) ≤ max (n + depth_trees ts) (levels k n ts + depth b)
    no_deeper_terms n Done = omega arith
    no_deeper_terms n (Next m t ts) = omega (arith, no_deeper n t, no_deeper_terms n ts)

  mutual
    pub as_deep : (n : ℕ) (t : BoxTerm) → level k n t + depth b ≤ max (n + depth (put_in k b t)) (depth b)
    as_deep n (Rel i) = omega arith
    as_deep n Box = omega arith
    as_deep n (BLambda t) = omega (arith, as_deep (n + 1) t)
    as_deep n (BLetIn a t) = omega (arith, as_deep (n + 1) a, as_deep (n + 1) t)
    as_deep n (BApp f a) = omega (arith, as_deep (n + 1) f, as_deep (n + 1) a)
    as_deep n (BConst c) = either (nat_eq c.0 k)
      where
        either : (z : Bool) → (if◌then◌else◌ {A = ℕ} z n 0) + depth b ≤ max (n + depth (if z then b else BConst c)) (depth b)
        either true = omega arith
        either false = omega arith
    as_deep n (BConstruct f c) = omega arith
    as_deep n (BCase f s bs) = omega (arith, as_deep (n + 1) s, as_deep_terms (n + 1) bs)
    as_deep n (BFix i rargs bodies) = omega (arith, as_deep_terms (n + 1) bodies)

    pub as_deep_terms : (n : ℕ) (ts : BoxTerms) → levels k n ts + depth b ≤ max (n + depth_trees (put_in_terms k b ts)) (depth b)
    as_deep_terms n Done = omega arith
    as_deep_terms n (Next m t ts) = omega (arith, as_deep n t, as_deep_terms n ts)

  mutual
    pub no_shallower : (t : BoxTerm) → depth t ≤ depth (put_in k b t)
    no_shallower (Rel i) = omega arith
    no_shallower Box = omega arith
    no_shallower (BLambda t) = omega (arith, no_shallower t)
    no_shallower (BLetIn a t) = omega (arith, no_shallower a, no_shallower t)
    no_shallower (BApp f a) = omega (arith, no_shallower f, no_shallower a)
    no_shallower (BConst c) = either (nat_eq c.0 k)
      where
        either : (z : Bool) → depth (BConst c) ≤ depth (if z then b else BConst c)
        either true = omega (arith, some_depth b)
        either false = omega arith
    no_shallower (BConstruct f c) = omega arith
    no_shallower (BCase f s bs) = omega (arith, no_shallower s, no_shallower_terms bs)
    no_shallower (BFix i rargs bodies) = omega (arith, no_shallower_terms bodies)

    pub no_shallower_terms : (ts : BoxTerms) → depth_trees ts ≤ depth_trees (put_in_terms k b ts)
    no_shallower_terms Done = omega arith
    no_shallower_terms (Next n t ts) = omega (arith, no_shallower t, no_shallower_terms ts)

  -- with a use it is as deep as what is put in
  abbrev Reaches : BoxTerm → Type 0
  Reaches t = 1 ≤ uses k t → depth b ≤ depth (put_in k b t)

  abbrev ReachesTerms : BoxTerms → Type 0
  ReachesTerms ts = 1 ≤ uses_terms k ts → depth b ≤ depth_trees (put_in_terms k b ts)

  some_or_none : (n : ℕ) → (n ≡ 0) ⊎ (1 ≤ n)
  some_or_none zero = inl refl
  some_or_none (suc n) = inr (omega arith)

  mutual
    pub reaches : (t : BoxTerm) → Reaches t
    reaches (Rel i) l = absurd (omega arith)
    reaches Box l = absurd (omega arith)
    reaches (BLambda t) l = omega (arith, reaches t l)
    reaches (BLetIn a t) l = ⊎_elim (λ z. omega (arith, reaches t (omega arith))) (λ p. omega (arith, reaches a p)) (some_or_none (uses k a))
    reaches (BApp f a) l = ⊎_elim (λ z. omega (arith, reaches a (omega arith))) (λ p. omega (arith, reaches f p)) (some_or_none (uses k f))
    reaches (BConst c) l = either (nat_eq c.0 k) l
      where
        either : (z : Bool) → 1 ≤ (if◌then◌else◌ {A = ℕ} z 1 0) → depth b ≤ depth (if z then b else BConst c)
        either true l = omega arith
        either false l = absurd (omega arith)
    reaches (BConstruct f c) l = absurd (omega arith)
    reaches (BCase f s bs) l = ⊎_elim (λ z. omega (arith, reaches_terms bs (omega arith))) (λ p. omega (arith, reaches s p)) (some_or_none (uses k s))
    reaches (BFix i rargs bodies) l = omega (arith, reaches_terms bodies l)

    pub reaches_terms : (ts : BoxTerms) → ReachesTerms ts
    reaches_terms Done l = absurd (omega arith)
    reaches_terms (Next n t ts) l = ⊎_elim (λ z. omega (arith, reaches_terms ts (omega arith))) (λ p. omega (arith, reaches t p)) (some_or_none (uses k t))

  -- uses and levels of another constant
  module _ (j : ℕ) (apart : j ≡ k → ⊥) where
    not_both : (c : Name) → nat_eq c.0 k ≡ true → nat_eq c.0 j ≡ false
    not_both c e = differs (nat_eq c.0 j) refl
      where
        differs : (z : Bool) → nat_eq c.0 j ≡ z → z ≡ false
        differs true h = absurd (apart (sym (eqb-true c.0 j h) ∙ eqb-true c.0 k e))
        differs false h = refl

    mutual
      pub put_uses : (t : BoxTerm) → uses j (put_in k b t) ≡ uses j t + uses k t * uses j b
      put_uses (Rel i) = omega arith
      put_uses Box = omega arith
      put_uses (BLambda t) = put_uses t
      put_uses (BLetIn a t) = omega (arith, put_uses a, put_uses t)
      put_uses (BApp f a) = omega (arith, put_uses f, put_uses a)
      put_uses (BConst c) = either (nat_eq c.0 k) refl
        where
          either : (z : Bool) → nat_eq c.0 k ≡ z → uses j (if z then b else BConst c) ≡ (if◌then◌else◌ {A = ℕ} (nat_eq c.0 j) 1 0) + (if◌then◌else◌ {A = ℕ} z 1 0) * uses j b
          either true e = let h : (if◌then◌else◌ {A = ℕ} (nat_eq c.0 j) 1 0) ≡ 0 = ap (λ y. if◌then◌else◌ {A = ℕ} y 1 0) (not_both c e) in omega arith
          either false e = omega arith
      put_uses (BConstruct f c) = omega arith
      put_uses (BCase f s bs) = omega (arith, put_uses s, put_uses_terms bs)
      put_uses (BFix i rargs bodies) = put_uses_terms bodies

      pub put_uses_terms : (ts : BoxTerms) → uses_terms j (put_in_terms k b ts) ≡ uses_terms j ts + uses_terms k ts * uses j b
      put_uses_terms Done = omega arith
      put_uses_terms (Next n t ts) = omega (arith, put_uses t, put_uses_terms ts)

    module _ (none : uses j b ≡ 0) where
      mutual
        pub put_level : (n : ℕ) (t : BoxTerm) → level j n (put_in k b t) ≡ level j n t
        put_level n (Rel i) = refl
        put_level n Box = refl
        put_level n (BLambda t) = put_level (n + 1) t
        put_level n (BLetIn a t) = omega (arith, put_level (n + 1) a, put_level (n + 1) t)
        put_level n (BApp f a) = omega (arith, put_level (n + 1) f, put_level (n + 1) a)
        put_level n (BConst c) = either (nat_eq c.0 k) refl
          where
            either : (z : Bool) → nat_eq c.0 k ≡ z → level j n (if z then b else BConst c) ≡ (if◌then◌else◌ {A = ℕ} (nat_eq c.0 j) n 0)
            either true e = unused_level j n b none ∙ sym (ap (λ y. if◌then◌else◌ {A = ℕ} y n 0) (not_both c e))
            either false e = refl
        put_level n (BConstruct f c) = refl
        put_level n (BCase f s bs) = omega (arith, put_level (n + 1) s, put_levels (n + 1) bs)
        put_level n (BFix i rargs bodies) = put_levels (n + 1) bodies

        pub put_levels : (n : ℕ) (ts : BoxTerms) → levels j n (put_in_terms k b ts) ≡ levels j n ts
        put_levels n Done = refl
        put_levels n (Next m t ts) = omega (arith, put_level n t, put_levels n ts)
