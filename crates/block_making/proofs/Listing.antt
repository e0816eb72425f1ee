-- The heads of families, the constructors of a family and the families of a block, from one on.
use Rattle.std.proofs.Common.{◌≡◌, refl, sym, ℕ, ◌+◌, ◌<◌, ◌≤◌, List, [], ◌∷◌, map, length, drop, get_or, add-one, Result, Ok, Err}
use Rattle.dump_reader.specs.declared.declaration.RawCtor.{RawCtor}
use Rattle.dump_reader.specs.declared.declaration.RawFamily.{RawFamily}
use Rattle.calculus_rules.specs.declared.declaration.Constructor.{Constructor}
use Rattle.calculus_rules.specs.declared.declaration.Family.{Family}
use Rattle.calculus_rules.specs.declared.declaration.Block.{Block}
use Rattle.calculus_rules.specs.Environment.{Env}
use Rattle.pc_rules.specs.declared.meter.Account.{Account}
use Rattle.pc_rules.specs.declared.stop.Halt.{Halt}
use Rattle.pc_rules.specs.DirectedRun.{done}
use Rattle.pc_rules.specs.DirectedDeclarations.{with_constructors}
use Rattle.inductive_check.specs.Given.{ctor_of, family_of}
use Rattle.cert_rules.specs.Writing.{silent, write_on}
use Rattle.cert_rules.specs.MakingDeclarations.{make_constructors, make_families}
use Rattle.cert_rules.proofs.Collecting.{collected_before}
use Rattle.script_making.specs.declared.draft.Draft.{Draft}
use Rattle.script_making.specs.Makes.{Makes}
use Rattle.block_making.specs.BlockMaking.{head_making, heads_making, ctor_making, ctors_making, families_making}
use Rattle.block_making.proofs.InTurn.{collected, none_made, item_made, item_halts, none_goes, item_goes, item_stays}

-- heads

module _ (E : Env) (n : ℕ) (B : Block) (fs : List RawFamily) (i : ℕ) where
  pub heads_end : (t : Draft) → length fs ≤ i → Makes (heads_making E n B (map family_of (drop i fs)) t.meter.account) (Ok tt) t t
  heads_end t l = none_goes (λ xs. heads_making E n B (map family_of xs)) (λ f. head_making E n B (family_of f)) (λ u. refl) fs i t l

  module _ (f : RawFamily) (l : i < length fs) (is : f ≡ get_or fs i f) (t0 t1 : Draft) where
    pub head_next : Makes (head_making E n B (family_of f) t0.meter.account) (Ok tt) t0 t1 → (r : Result (Unit {0}) Halt) (t : Draft) →
        Makes (heads_making E n B (map family_of (drop (i + 1) fs)) t1.meter.account) r t1 t → Makes (heads_making E n B (map family_of (drop i fs)) t0.meter.account) r t0 t
    head_next p = item_goes (λ xs. heads_making E n B (map family_of xs)) (λ f. head_making E n B (family_of f)) (λ f xs u. refl) fs i f l is t0 t1 p

    pub head_halts : (h : Halt) → Makes (head_making E n B (family_of f) t0.meter.account) (Err h) t0 t1 → Makes (heads_making E n B (map family_of (drop i fs)) t0.meter.account) (Err h) t0 t1
    head_halts h p = item_stays (λ xs. heads_making E n B (map family_of xs)) (λ f. head_making E n B (family_of f)) (λ f xs u. refl) fs i f l is h t0 t1 p

-- constructors

module _ (E : Env) (n : ℕ) (B : Block) (F : Family) (k : ℕ) where
  no_constructors : (i : ℕ) (u : Account) → ctors_making E n B F k i [] u ≡ silent (done []) u
  unfolding make_constructors
  no_constructors i u = refl

  constructors_split : (j : ℕ) (c : RawCtor) (cs : List RawCtor) (u : Account) →
      ctors_making E n B F k j (map ctor_of (c ∷ cs)) u ≡ collected (ctor_making E n B F k j (ctor_of c) u) (ctors_making E n B F k (j + 1) (map ctor_of cs)) (λ D. D)
  unfolding make_constructors
  constructors_split j c cs u = λ i. write_on (ctor_making E n B F k j (ctor_of c) u)
      (λ D v. write_on (ctors_making E n B F k (sym (add-one j) i) (map ctor_of cs) v) (λ Ds w. silent (done (D ∷ Ds)) w))

  module _ (cs : List RawCtor) (i : ℕ) where
    pub constructors_end : (t : Draft) → length cs ≤ i → Makes (ctors_making E n B F k i (map ctor_of (drop i cs)) t.meter.account) (Ok []) t t
    constructors_end t l = none_made (λ i xs. ctors_making E n B F k i (map ctor_of xs)) (λ i c. ctor_making E n B F k i (ctor_of c)) (λ c D. D) no_constructors cs i t l

    module _ (c : RawCtor) (l : i < length cs) (is : c ≡ get_or cs i c) (t0 t1 : Draft) where
      pub constructor_next : (D : Constructor) → Makes (ctor_making E n B F k i (ctor_of c) t0.meter.account) (Ok D) t0 t1 → (r : Result (List Constructor) Halt) (t : Draft) →
          Makes (ctors_making E n B F k (i + 1) (map ctor_of (drop (i + 1) cs)) t1.meter.account) r t1 t →
          Makes (ctors_making E n B F k i (map ctor_of (drop i cs)) t0.meter.account) (collected_before (D ∷ []) r) t0 t
      constructor_next D p =
          item_made (λ i xs. ctors_making E n B F k i (map ctor_of xs)) (λ i c. ctor_making E n B F k i (ctor_of c)) (λ c D. D) constructors_split cs i c l is D t0 t1 p

      pub constructor_halts : (h : Halt) → Makes (ctor_making E n B F k i (ctor_of c) t0.meter.account) (Err h) t0 t1 →
          Makes (ctors_making E n B F k i (map ctor_of (drop i cs)) t0.meter.account) (Err h) t0 t1
      constructor_halts h p =
          item_halts (λ i xs. ctors_making E n B F k i (map ctor_of xs)) (λ i c. ctor_making E n B F k i (ctor_of c)) (λ c D. D) constructors_split cs i c l is h t0 t1 p

-- families

module _ (E : Env) (n : ℕ) (B : Block) where
  no_families : (i : ℕ) (u : Account) → families_making E n B i [] u ≡ silent (done []) u
  unfolding make_families
  no_families i u = refl

  families_split : (k : ℕ) (f : RawFamily) (fs : List RawFamily) (u : Account) →
      families_making E n B k (map family_of (f ∷ fs)) u ≡
      collected (ctors_making E n B (family_of f) k 0 (map ctor_of f.ctors) u) (families_making E n B (k + 1) (map family_of fs)) (λ Cs. with_constructors (family_of f) Cs)
  unfolding make_families
  families_split k f fs u = λ i. write_on (ctors_making E n B (family_of f) k 0 (map ctor_of f.ctors) u)
      (λ Cs v. write_on (families_making E n B (sym (add-one k) i) (map family_of fs) v) (λ Gs w. silent (done (with_constructors (family_of f) Cs ∷ Gs)) w))

  module _ (fs : List RawFamily) (i : ℕ) where
    pub families_end : (t : Draft) → length fs ≤ i → Makes (families_making E n B i (map family_of (drop i fs)) t.meter.account) (Ok []) t t
    families_end t l =
        none_made (λ i xs. families_making E n B i (map family_of xs)) (λ i f. ctors_making E n B (family_of f) i 0 (map ctor_of f.ctors)) (λ f Cs. with_constructors (family_of f) Cs) no_families fs i t l

    module _ (f : RawFamily) (l : i < length fs) (is : f ≡ get_or fs i f) (t0 t1 : Draft) where
      pub family_next : (Cs : List Constructor) → Makes (ctors_making E n B (family_of f) i 0 (map ctor_of f.ctors) t0.meter.account) (Ok Cs) t0 t1 →
          (r : Result (List Family) Halt) (t : Draft) → Makes (families_making E n B (i + 1) (map family_of (drop (i + 1) fs)) t1.meter.account) r t1 t →
          Makes (families_making E n B i (map family_of (drop i fs)) t0.meter.account) (collected_before (with_constructors (family_of f) Cs ∷ []) r) t0 t
      family_next Cs p =
          item_made (λ i xs. families_making E n B i (map family_of xs)) (λ i f. ctors_making E n B (family_of f) i 0 (map ctor_of f.ctors)) (λ f Cs. with_constructors (family_of f) Cs)
          families_split fs i f l is Cs t0 t1 p

      pub family_halts : (h : Halt) → Makes (ctors_making E n B (family_of f) i 0 (map ctor_of f.ctors) t0.meter.account) (Err h) t0 t1 →
          Makes (families_making E n B i (map family_of (drop i fs)) t0.meter.account) (Err h) t0 t1
      family_halts h p =
          item_halts (λ i xs. families_making E n B i (map family_of xs)) (λ i f. ctors_making E n B (family_of f) i 0 (map ctor_of f.ctors)) (λ f Cs. with_constructors (family_of f) Cs)
          families_split fs i f l is h t0 t1 p
