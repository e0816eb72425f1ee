-- The heads of families, the constructors of a family and the families of a block, from one on.
use Rattle.std.proofs.Common.{◌≡◌, refl, ℕ, ◌+◌, ◌<◌, ◌≤◌, List, [], ◌∷◌, map, length, drop, get_or, Result, Ok, Err}
use Rattle.dump_reader.specs.declared.declaration.RawCtor.{RawCtor}
use Rattle.dump_reader.specs.declared.declaration.RawFamily.{RawFamily}
use Rattle.calculus_rules.specs.declared.declaration.Constructor.{Constructor}
use Rattle.calculus_rules.specs.declared.declaration.Family.{Family}
use Rattle.calculus_rules.specs.declared.declaration.Block.{Block}
use Rattle.pc_rules.specs.DirectedDeclarations.{with_constructors}
use Rattle.inductive_check.specs.Given.{ctor_of, family_of}
use Rattle.cert_rules.specs.Walk.{WalkState, pass}
use Rattle.cert_rules.specs.WalkDeclarations.{walk_constructors, walk_families}
use Rattle.cert_rules.proofs.Collecting.{collected_before}
use Rattle.type_cert.specs.declared.halt.WalkHalt.{WalkHalt}
use Rattle.type_cert.specs.declared.trail.Trail.{Trail}
use Rattle.type_cert.specs.declared.verifier.Verifier.{Verifier}
use Rattle.type_cert.specs.Retraces.{stand, Retraces}
use Rattle.block_cert.specs.BlockWalks.{head_walk, heads_walk, ctor_walk, ctors_walk, families_walk}
use Rattle.block_cert.proofs.InTurn.{collected, none_found, item_found, item_halts, none_goes, item_goes, item_stays}

-- heads

module _ (v : Verifier) (B : Block) (fs : List RawFamily) (i : ℕ) where
  pub heads_end : (t : Trail) → length fs ≤ i → Retraces (heads_walk v B (map family_of (drop i fs)) (stand t)) (Ok tt) t t
  heads_end t l = none_goes (λ xs. heads_walk v B (map family_of xs)) (λ f. head_walk v B (family_of f)) (λ u. refl) fs i t l

  module _ (f : RawFamily) (l : i < length fs) (is : f ≡ get_or fs i f) (t0 t1 : Trail) where
    pub head_next : Retraces (head_walk v B (family_of f) (stand t0)) (Ok tt) t0 t1 → (r : Result (Unit {0}) WalkHalt) (t : Trail) →
        Retraces (heads_walk v B (map family_of (drop (i + 1) fs)) (stand t1)) r t1 t → Retraces (heads_walk v B (map family_of (drop i fs)) (stand t0)) r t0 t
    head_next p = item_goes (λ xs. heads_walk v B (map family_of xs)) (λ f. head_walk v B (family_of f)) (λ f xs u. refl) fs i f l is t0 t1 p

    pub head_halts : (h : WalkHalt) → Retraces (head_walk v B (family_of f) (stand t0)) (Err h) t0 t1 → Retraces (heads_walk v B (map family_of (drop i fs)) (stand t0)) (Err h) t0 t1
    head_halts h p = item_stays (λ xs. heads_walk v B (map family_of xs)) (λ f. head_walk v B (family_of f)) (λ f xs u. refl) fs i f l is h t0 t1 p

-- constructors

module _ (v : Verifier) (B : Block) (F : Family) where
  no_constructors : (u : WalkState) → ctors_walk v B F [] u ≡ pass [] u
  unfolding walk_constructors
  no_constructors u = refl

  constructors_split : (c : RawCtor) (cs : List RawCtor) (u : WalkState) →
      ctors_walk v B F (map ctor_of (c ∷ cs)) u ≡ collected (ctor_walk v B F (ctor_of c) u) (ctors_walk v B F (map ctor_of cs)) (λ D. D)
  unfolding walk_constructors
  constructors_split c cs u = refl

  module _ (cs : List RawCtor) (i : ℕ) where
    pub constructors_end : (t : Trail) → length cs ≤ i → Retraces (ctors_walk v B F (map ctor_of (drop i cs)) (stand t)) (Ok []) t t
    constructors_end t l = none_found (λ xs. ctors_walk v B F (map ctor_of xs)) (λ c. ctor_walk v B F (ctor_of c)) (λ c D. D) no_constructors cs i t l

    module _ (c : RawCtor) (l : i < length cs) (is : c ≡ get_or cs i c) (t0 t1 : Trail) where
      pub constructor_next : (D : Constructor) → Retraces (ctor_walk v B F (ctor_of c) (stand t0)) (Ok D) t0 t1 → (r : Result (List Constructor) WalkHalt) (t : Trail) →
          Retraces (ctors_walk v B F (map ctor_of (drop (i + 1) cs)) (stand t1)) r t1 t → Retraces (ctors_walk v B F (map ctor_of (drop i cs)) (stand t0)) (collected_before (D ∷ []) r) t0 t
      constructor_next D p =
          item_found (λ xs. ctors_walk v B F (map ctor_of xs)) (λ c. ctor_walk v B F (ctor_of c)) (λ c D. D) constructors_split cs i c l is D t0 t1 p

      pub constructor_halts : (h : WalkHalt) → Retraces (ctor_walk v B F (ctor_of c) (stand t0)) (Err h) t0 t1 →
          Retraces (ctors_walk v B F (map ctor_of (drop i cs)) (stand t0)) (Err h) t0 t1
      constructor_halts h p =
          item_halts (λ xs. ctors_walk v B F (map ctor_of xs)) (λ c. ctor_walk v B F (ctor_of c)) (λ c D. D) constructors_split cs i c l is h t0 t1 p

-- families

module _ (v : Verifier) (B : Block) where
  no_families : (u : WalkState) → families_walk v B [] u ≡ pass [] u
  unfolding walk_families
  no_families u = refl

  families_split : (f : RawFamily) (fs : List RawFamily) (u : WalkState) →
      families_walk v B (map family_of (f ∷ fs)) u ≡
      collected (ctors_walk v B (family_of f) (map ctor_of f.ctors) u) (families_walk v B (map family_of fs)) (λ Cs. with_constructors (family_of f) Cs)
  unfolding walk_families
  families_split f fs u = refl

  module _ (fs : List RawFamily) (i : ℕ) where
    pub families_end : (t : Trail) → length fs ≤ i → Retraces (families_walk v B (map family_of (drop i fs)) (stand t)) (Ok []) t t
    families_end t l =
        none_found (λ xs. families_walk v B (map family_of xs)) (λ f. ctors_walk v B (family_of f) (map ctor_of f.ctors)) (λ f Cs. with_constructors (family_of f) Cs) no_families fs i t l

    module _ (f : RawFamily) (l : i < length fs) (is : f ≡ get_or fs i f) (t0 t1 : Trail) where
      pub family_next : (Cs : List Constructor) → Retraces (ctors_walk v B (family_of f) (map ctor_of f.ctors) (stand t0)) (Ok Cs) t0 t1 →
          (r : Result (List Family) WalkHalt) (t : Trail) → Retraces (families_walk v B (map family_of (drop (i + 1) fs)) (stand t1)) r t1 t →
          Retraces (families_walk v B (map family_of (drop i fs)) (stand t0)) (collected_before (with_constructors (family_of f) Cs ∷ []) r) t0 t
      family_next Cs p =
          item_found (λ xs. families_walk v B (map family_of xs)) (λ f. ctors_walk v B (family_of f) (map ctor_of f.ctors)) (λ f Cs. with_constructors (family_of f) Cs)
          families_split fs i f l is Cs t0 t1 p

      pub family_halts : (h : WalkHalt) → Retraces (ctors_walk v B (family_of f) (map ctor_of f.ctors) (stand t0)) (Err h) t0 t1 →
          Retraces (families_walk v B (map family_of (drop i fs)) (stand t0)) (Err h) t0 t1
      family_halts h p =
          item_halts (λ xs. families_walk v B (map family_of xs)) (λ f. ctors_walk v B (family_of f) (map ctor_of f.ctors)) (λ f Cs. with_constructors (family_of f) Cs)
          families_split fs i f l is h t0 t1 p
