-- Constructors and families, one by one.
use Rattle.std.proofs.Common.{◌≡◌, ◌∙◌, sym, ap, refl, subst, ℕ, ◌+◌, ◌<◌, ◌≤◌, Err, List, [], ◌∷◌, ◌++◌, map, length, get_or, drop, take, add-one}
use Rattle.dump_reader.specs.declared.declaration.RawCtor.{RawCtor}
use Rattle.dump_reader.specs.declared.declaration.RawFamily.{RawFamily}
use Rattle.calculus_rules.specs.declared.declaration.Constructor.{Constructor}
use Rattle.calculus_rules.specs.declared.declaration.Family.{Family}
use Rattle.calculus_rules.specs.declared.declaration.Block.{Block}
use Rattle.pc_rules.specs.declared.meter.Account.{Account}
use Rattle.pc_rules.specs.declared.meter.Meter.{Meter}
use Rattle.pc_rules.specs.declared.stop.Halt.{Halt}
use Rattle.calculus_rules.specs.Environment.{Env, head_of}
use Rattle.pc_rules.specs.DirectedRun.{Run, Done, bind, done}
use Rattle.pc_rules.specs.DirectedComparison.{Test, Comparison}
use Rattle.pc_rules.specs.DirectedTyping.{Typing}
use Rattle.pc_rules.specs.DirectedDeclarations.{constructor_rule, constructors_rule, families_rule, with_constructors}
use Rattle.pc_rules.specs.Follows.{Follows, IsAfter}
use Rattle.pc_rules.specs.Leads.{Leads}
use Rattle.pc_rules.specs.WellCounted.{AreCounted, AreCountedFamilies}
use Rattle.pc_rules.proofs.FairReduction.{FairComparison}
use Rattle.pc_rules.proofs.FairTyping.{FairTyping, constructors_leave, families_leave}
use Rattle.rule_laws.specs.Declarations.{ConstructorsFormed, FamiliesFormed}
use Rattle.rule_laws.proofs.MatchRule.{all_formed}
use Rattle.inductive_check.specs.Given.{ctor_of, family_of}
use Rattle.inductive_check.proofs.Leading.{collect_next, collect_first}
use Rattle.inductive_check.proofs.Distinct.{taken_more}
use Rattle.pc_rules.proofs.ListSteps.{take_next, next_is, none_left}
use Rattle.pc_rules.proofs.Leading.{leads_along}

-- constructors

constructors_formed : (Cs Ds : List Constructor) → ConstructorsFormed Cs → ConstructorsFormed Ds → ConstructorsFormed (Cs ++ Ds)
constructors_formed [] Ds h k = k
constructors_formed (C ∷ Cs) Ds h k = (h.0, constructors_formed Cs Ds h.1 k)

pub formed_next : (E : Env) (cs : List RawCtor) (n : ℕ) (c : RawCtor) → n < length cs → c ≡ get_or cs n c → ConstructorsFormed (map ctor_of (take n cs)) →
    AreCounted E c.args × AreCounted E c.result → ConstructorsFormed (map ctor_of (take (n + 1) cs))
formed_next E cs n c lt is h k =
    subst (λ Cs. ConstructorsFormed Cs) (sym (taken_more cs n c lt is))
    (constructors_formed (map ctor_of (take n cs)) (ctor_of c ∷ []) h ((all_formed E c.args k.0, all_formed E c.result k.1), tt))

module _ (H : Env) (q : Test) (inf : Typing) (cmp : Comparison) (B : Block) (F : Family) (f : ℕ) (cs : List RawCtor) (n : ℕ) (u : Account) where
  abbrev pub Constructing : Run (List Constructor) → ℕ → Account → List Constructor → Type 0
  Constructing whole j v out = Leads whole (bind (constructors_rule H q inf cmp B F f j (map ctor_of (drop j cs)) v) (λ Ds w. done (out ++ Ds) w))

  pub constructors_over : length cs ≤ n → constructors_rule H q inf cmp B F f n (map ctor_of (drop n cs)) u ≡ done [] u
  unfolding constructors_rule
  constructors_over h = ap (λ xs. constructors_rule H q inf cmp B F f n (map ctor_of xs) u) (none_left cs n h)

  module _ (c : RawCtor) (lt : n < length cs) (is : c ≡ get_or cs n c) where
    abbrev more_constructors : Constructor → Account → Run (List Constructor)
    more_constructors D v = bind (constructors_rule H q inf cmp B F f (n + 1) (map ctor_of (drop (n + 1) cs)) v) (λ Ds w. done (D ∷ Ds) w)

    split : constructors_rule H q inf cmp B F f n (ctor_of c ∷ map ctor_of (drop (n + 1) cs)) u ≡ bind (constructor_rule H q inf cmp B F f n (ctor_of c) u) more_constructors
    unfolding constructors_rule
    split = λ i. bind (constructor_rule H q inf cmp B F f n (ctor_of c) u)
        (λ D v. bind (constructors_rule H q inf cmp B F f (sym (add-one n) i) (map ctor_of (drop (n + 1) cs)) v) (λ Ds w. done (D ∷ Ds) w))

    module _ (whole : Run (List Constructor)) (out : List Constructor) where
      one_then : bind (constructors_rule H q inf cmp B F f n (map ctor_of (drop n cs)) u) (λ Ds w. done (out ++ Ds) w) ≡
          bind (bind (constructor_rule H q inf cmp B F f n (ctor_of c) u) more_constructors) (λ Ds w. done (out ++ Ds) w)
      one_then = ap (λ d. bind d (λ Ds w. done (out ++ Ds) w)) (ap (λ xs. constructors_rule H q inf cmp B F f n (map ctor_of xs) u) (next_is cs n c lt is) ∙ split)

      pub constructors_next : (D : Constructor) (v : Account) → Constructing whole n u out → (constructor_rule H q inf cmp B F f n (ctor_of c) u).end ≡ Done D v →
          Constructing whole (n + 1) v (out ++ (D ∷ []))
      constructors_next D v l e =
          collect_next whole out (constructor_rule H q inf cmp B F f n (ctor_of c) u) (λ D v. constructors_rule H q inf cmp B F f (n + 1) (map ctor_of (drop (n + 1) cs)) v)
          (λ D. D) D v (leads_along whole _ _ one_then l) e

      pub constructors_stop : (h : Halt) (m0 m1 m2 : Meter) → Constructing whole n u out → IsAfter m0 m1 →
          Follows (constructor_rule H q inf cmp B F f n (ctor_of c) u) (Err h) m1 m2 → FairTyping 0 0 inf → FairComparison 0 0 cmp → Follows whole (Err h) m0 m2
      constructors_stop h m0 m1 m2 l after stops hf hg =
          collect_first whole out (constructor_rule H q inf cmp B F f n (ctor_of c) u) (λ D v. constructors_rule H q inf cmp B F f (n + 1) (map ctor_of (drop (n + 1) cs)) v)
          (λ D. D) h m0 m1 m2 (leads_along whole _ _ one_then l) after stops
          (λ D v. constructors_leave H q inf cmp hf hg B F f (n + 1) (map ctor_of (drop (n + 1) cs)) v)

-- families

families_formed : (Fs Gs : List Family) → FamiliesFormed Fs → FamiliesFormed Gs → FamiliesFormed (Fs ++ Gs)
families_formed [] Gs h k = k
families_formed (F ∷ Fs) Gs h k = (h.0, families_formed Fs Gs h.1 k)

map_more : (fs : List RawFamily) (f : RawFamily) → map family_of (fs ++ (f ∷ [])) ≡ map family_of fs ++ (family_of f ∷ [])
map_more [] f = refl
map_more (x ∷ fs) f = ap (λ xs. family_of x ∷ xs) (map_more fs f)

module _ (E : Env) (fs : List RawFamily) (n : ℕ) (f : RawFamily) (lt : n < length fs) (is : f ≡ get_or fs n f) where
  pub family_formed : FamiliesFormed (map family_of (take n fs)) → AreCounted E f.indices → ConstructorsFormed (map ctor_of f.ctors) →
      FamiliesFormed (map family_of (take (n + 1) fs))
  family_formed h k l =
      subst (λ Fs. FamiliesFormed Fs) (sym (ap (map family_of) (take_next fs n f lt is) ∙ map_more (take n fs) f))
      (families_formed (map family_of (take n fs)) (family_of f ∷ []) h ((all_formed E f.indices k, l), tt))

  -- the heads of families that are left
  pub heads_left : AreCountedFamilies E (map head_of (map family_of (drop n fs))) →
      AreCountedFamilies E (head_of (family_of f) ∷ map head_of (map family_of (drop (n + 1) fs)))
  heads_left h = subst (λ xs. AreCountedFamilies E (map head_of (map family_of xs))) (next_is fs n f lt is) h

module _ (H : Env) (q : Test) (inf : Typing) (cmp : Comparison) (B : Block) (fs : List RawFamily) (n : ℕ) (u : Account) where
  abbrev pub Declaring : Run (List Family) → ℕ → Account → List Family → Type 0
  Declaring whole j v out = Leads whole (bind (families_rule H q inf cmp B j (map family_of (drop j fs)) v) (λ Gs w. done (out ++ Gs) w))

  pub families_over : length fs ≤ n → families_rule H q inf cmp B n (map family_of (drop n fs)) u ≡ done [] u
  unfolding families_rule
  families_over h = ap (λ xs. families_rule H q inf cmp B n (map family_of xs) u) (none_left fs n h)

  module _ (f : RawFamily) (lt : n < length fs) (is : f ≡ get_or fs n f) where
    abbrev one_family : Run (List Constructor)
    one_family = constructors_rule H q inf cmp B (family_of f) n 0 (map ctor_of f.ctors) u

    abbrev more_families : List Constructor → Account → Run (List Family)
    more_families Cs v = bind (families_rule H q inf cmp B (n + 1) (map family_of (drop (n + 1) fs)) v) (λ Gs w. done (with_constructors (family_of f) Cs ∷ Gs) w)

    split_family : families_rule H q inf cmp B n (family_of f ∷ map family_of (drop (n + 1) fs)) u ≡ bind one_family more_families
    unfolding families_rule
    split_family = λ i. bind one_family
        (λ Cs v. bind (families_rule H q inf cmp B (sym (add-one n) i) (map family_of (drop (n + 1) fs)) v) (λ Gs w. done (with_constructors (family_of f) Cs ∷ Gs) w))

    module _ (whole : Run (List Family)) (out : List Family) where
      family_then : bind (families_rule H q inf cmp B n (map family_of (drop n fs)) u) (λ Gs w. done (out ++ Gs) w) ≡
          bind (bind one_family more_families) (λ Gs w. done (out ++ Gs) w)
      family_then = ap (λ d. bind d (λ Gs w. done (out ++ Gs) w)) (ap (λ xs. families_rule H q inf cmp B n (map family_of xs) u) (next_is fs n f lt is) ∙ split_family)

      pub families_next : (Cs : List Constructor) (v : Account) → Declaring whole n u out → one_family.end ≡ Done Cs v →
          Declaring whole (n + 1) v (out ++ (with_constructors (family_of f) Cs ∷ []))
      families_next Cs v l e =
          collect_next whole out one_family (λ Cs v. families_rule H q inf cmp B (n + 1) (map family_of (drop (n + 1) fs)) v) (λ Cs. with_constructors (family_of f) Cs) Cs v
          (leads_along whole _ _ family_then l) e

      pub families_stop : (h : Halt) (m0 m1 m2 : Meter) → Declaring whole n u out → IsAfter m0 m1 → Follows one_family (Err h) m1 m2 → FairTyping 0 0 inf → FairComparison 0 0 cmp →
          Follows whole (Err h) m0 m2
      families_stop h m0 m1 m2 l after stops hf hg =
          collect_first whole out one_family (λ Cs v. families_rule H q inf cmp B (n + 1) (map family_of (drop (n + 1) fs)) v) (λ Cs. with_constructors (family_of f) Cs) h m0 m1 m2
          (leads_along whole _ _ family_then l) after stops (λ Cs v. families_leave H q inf cmp hf hg B (n + 1) (map family_of (drop (n + 1) fs)) v)
