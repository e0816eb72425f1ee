-- A block that the directed rules let pass fits.
use Rattle.std.proofs.Common.{◌≡◌, ◌≢◌, ℕ, zero, suc, ◌+◌, Bool, true, false, if◌then◌else◌, List, [], ◌∷◌, map, length, Some, refl, sym, subst, arith, slice_get}
use Rattle.std.proofs.lemmas.Bool.{or_parts}
use Rattle.std.specs.List.{All, AllPairs}
use Rattle.std.proofs.lemmas.List.Elements.{All-nil, All-cons}
use Rattle.std.proofs.lemmas.List.Kept.{AllPairs-cons}
use Rattle.universe_levels.specs.declared.sort.Sort.{Sort}
use Rattle.universe_levels.specs.declared.sort.Sort.TheVariants.{Prop, Of}
use Rattle.pc_terms.specs.declared.leaf.Name.{Name}
use Rattle.pc_terms.specs.Syntax.{Term, Rel}
use Rattle.calculus_rules.specs.declared.declaration.Constructor.{Constructor}
use Rattle.calculus_rules.specs.declared.declaration.Family.{Family}
use Rattle.calculus_rules.specs.declared.declaration.Block.{Block}
use Rattle.calculus_rules.specs.declared.declaration.Kept.TheVariants.{Heads, Block as Whole}
use Rattle.calculus_rules.specs.declared.entry.Entry.TheVariants.{Assumed}
use Rattle.pc_rules.specs.declared.broken.Broken.TheVariants.{SortTooSmall, NotPositive, DuplicateName}
use Rattle.pc_rules.specs.declared.meter.Account.{Account}
use Rattle.calculus_rules.specs.Environment.{Env, Has, here, there, head_of, heads_of, SortEntails, IsDeclared}
use Rattle.calculus_rules.specs.Context.{Context, extend}
use Rattle.calculus_rules.specs.Typing.{guarded, Entries, EntrySorts, no_sorts, a_sort}
use Rattle.calculus_rules.specs.declared.target.Target.TheVariants.{Families}
use Rattle.calculus_rules.specs.Naming.{some_names}
use Rattle.calculus_rules.specs.Positivity.{ArePositive, IsGood}
use Rattle.pc_rules.specs.DirectedPositivity.{is_positive}
use Rattle.calculus_rules.specs.Accepted.{IsFresh, AllAtMost, ConstructorFits, FamilyFits, BlockFits, env}
use Rattle.calculus_rules.specs.Same.{same_names}
use Rattle.pc_rules.specs.DirectedRun as run
use Rattle.pc_rules.specs.DirectedRun.{Run, done, bind}
use Rattle.pc_rules.specs.DirectedComparison.{Test, IsTest, Comparison, compare, sort_below}
use Rattle.pc_rules.specs.DirectedTyping.{Typing, infer, sort_of, sorts_of, check_all, counted, undeclared_in, levels_declared}
use Rattle.pc_rules.specs.DirectedDeclarations.{has_name, distinct_names, family_head, family_heads, heads_rule, fits_sort, positive_rule, arguments_rule, result_names, with_sorts, constructor_rule, constructors_rule, with_constructors, families_rule, with_families, with_heads, block_rule}
use Rattle.pc_rules.specs.WellCounted.{AreSortsOver, AreCounted, AreCountedConstructors, AreCountedFamilies, HasCountedDeclarations, IsCountedContext}
use Rattle.calculus_rules.proofs.Spines.{one_item}
use Rattle.rule_laws.specs.Inference.{AllFormed}
use Rattle.rule_laws.specs.Declarations.{plain_constructor, plain_family, ConstructorsFormed, FamiliesFormed, BlockFormed, IsCheckedBlock}
use Rattle.rule_laws.proofs.Runs.{bind_both, tested, refused_done, done_value}
use Rattle.rule_laws.proofs.CountedParts.{context_extended}
use Rattle.rule_laws.proofs.Comparing.{IsSound, entails, compare_sound}
use Rattle.rule_laws.proofs.SimpleRules.{Infers, declared_over, levels_are_declared, sort_sound}
use Rattle.rule_laws.proofs.MatchRule.{count_is, entries_sound, all_sound}
use Rattle.rule_laws.proofs.Inferring.{infer_sound}
use Rattle.rule_laws.proofs.Extending.{FindsAs, all_more, constructors_more, finds_more, finds_without, env_more}
use Rattle.rule_laws.proofs.Positive.{other_name, positive_is}
use Rattle.pc_rules.proofs.WeakNext.{none_some}

-- the names of constructors are distinct

abbrev pub names_in : List Constructor → List Name
names_in [] = []
names_in (C ∷ Cs) = C.name ∷ names_in Cs

abbrev pub Differs : Name → List Name → Type 0
Differs k [] = Unit {0}
Differs k (l ∷ ls) = (k ≢ l) × Differs k ls

abbrev pub Distinct : List Name → Type 0
Distinct [] = Unit {0}
Distinct (k ∷ ks) = Differs k ks × Distinct ks

has_none : (k : Name) (Bs : List Constructor) → has_name k Bs ≡ false → (X : Constructor) → Has Bs X → X.name ≢ k
has_none k [] h X p = elim p [ ]
has_none k (B ∷ Bs) h X here = other_name B.name k (or_parts (same_names B.name k) (has_name k Bs) h).0
has_none k (B ∷ Bs) h X (there p) = has_none k Bs (or_parts (same_names B.name k) (has_name k Bs) h).1 X p

-- distinct, and different from those before
abbrev pub AreNew : List Constructor → List Constructor → Type 0
AreNew before Cs = Distinct (names_in Cs) × ((X : Constructor) → Has before X → Differs X.name (names_in Cs))

next_new : (before : List Constructor) (C : Constructor) (Cs : List Constructor) (b : Bool) (u v : Account) → has_name C.name before ≡ b →
    ((distinct_names (C ∷ before) Cs u).end ≡ run.Done tt v → AreNew (C ∷ before) Cs) →
    (if b then run.refused (DuplicateName C.name.0) u else distinct_names (C ∷ before) Cs u).end ≡ run.Done tt v → AreNew before (C ∷ Cs)
next_new before C Cs true u v e rec h = absurd (refused_done h)
next_new before C Cs false u v e rec h =
    let r = rec h in ((r.1 C here, r.0), λ X p. (has_none C.name before e X p, r.1 X (there p)))

pub are_new : (before Cs : List Constructor) (u v : Account) → (distinct_names before Cs u).end ≡ run.Done tt v → AreNew before Cs
are_new before [] u v h = (tt, λ X p. tt)
are_new before (C ∷ Cs) u v h = next_new before C Cs (has_name C.name before) u v refl (are_new (C ∷ before) Cs u v) h

all_differ : (k : Name) (Cs : List Constructor) → Differs k (names_in Cs) → All (λ D. k ≢ D.name) Cs
all_differ k [] h = All-nil (λ D. k ≢ D.name)
all_differ k (C ∷ Cs) h = All-cons (λ D. k ≢ D.name) C Cs h.0 (all_differ k Cs h.1)

pub all_pairs : (Cs : List Constructor) → Distinct (names_in Cs) → AllPairs (λ C D. C.name ≢ D.name) Cs
all_pairs [] h = λ i j d lt within. absurd (omega arith)
all_pairs (C ∷ Cs) h = AllPairs-cons (λ C D. C.name ≢ D.name) C Cs (all_differ C.name Cs h.0) (all_pairs Cs h.1)

-- the heads of a block

pub record HeadFits (E : Env) (B : Block) (F : Family) : Type 0 where
  pub indices : Entries guarded E (extend [] B.params) F.indices
  pub sort : IsDeclared E F.sort
  pub distinct : Distinct (names_in F.ctors)
  pub all : AreCounted E F.indices

abbrev pub HeadsFit : Env → Block → List Family → Type 0
HeadsFit E B [] = Unit {0}
HeadsFit E B (F ∷ Fs) = HeadFits E B F × HeadsFit E B Fs

module _ (E : Env) (w : HasCountedDeclarations E) (inf : Typing) (si : Infers E inf) (B : Block) (params : AreCounted E B.params) where
  head_sound : (F : Family) (u v : Account) → AllFormed F.indices → (family_head E inf B F u).end ≡ run.Done tt v → HeadFits E B F
  head_sound F u v f h =
      let k2 : Unit {0} → Account → Run (Unit {0}) = λ _ w. bind (sorts_of E inf (extend [] B.params) F.indices w) (λ ss x. done tt x) in
      let k1 : Unit {0} → Account → Run (Unit {0}) = λ _ v. bind (levels_declared (undeclared_in E.levels F.sort) v) k2 in
      let p1 = bind_both (distinct_names [] F.ctors u) k1 tt v h in
      let p2 = bind_both (levels_declared (undeclared_in E.levels F.sort) p1.1) k2 tt v p1.3 in
      let p3 = bind_both (sorts_of E inf (extend [] B.params) F.indices p2.1) (λ ss x. done tt x) tt v p2.3 in
      let es = entries_sound E w inf si (extend [] B.params) F.indices p3.0 p2.1 p3.1 (context_extended E [] B.params tt params) f p3.2 in
      record {
        indices = es.entries;
        sort = levels_are_declared E F.sort p1.1 p2.1 p2.2;
        distinct = (are_new [] F.ctors u p1.1 p1.2).0;
        all = es.all;
      }

  heads_sound : (Fs : List Family) (u v : Account) → FamiliesFormed Fs → (family_heads E inf B Fs u).end ≡ run.Done tt v → HeadsFit E B Fs
  heads_sound [] u v f h = tt
  heads_sound (F ∷ Fs) u v f h =
      let p = bind_both (family_head E inf B F u) (λ _ v. family_heads E inf B Fs v) tt v h in
      (head_sound F u p.1 f.0.0 p.2, heads_sound Fs p.1 v f.1 p.3)

-- its constructors

pub sort_fits : (H : Env) → HasCountedDeclarations H → (q : Test) → IsTest H.levels H.constraints q → (r s : Sort) (u v : Account) → (fits_sort q r s u).end ≡ run.Done tt v → r ≢ Prop →
    SortEntails H s r
sort_fits H w q test Prop s u v h n = absurd (n refl)
sort_fits H w q test (Of x) s u v h n = entails H q test w s (Of x) (tested (sort_below q s (Of x)) (done tt u) (SortTooSmall s (Of x)) u tt v h).0

module _ (H : Env) (w : HasCountedDeclarations H) (inf : Typing) (si : Infers H inf) (cmp : Comparison) (sc : IsSound H cmp) (q : Test)
    (test : IsTest H.levels H.constraints q) where
  type_positive : (k : Name) (f n : ℕ) (A : Term) (u v : Account) → (positive_rule H k f n A u).end ≡ run.Done tt v → IsGood H (Families k) 0 A
  type_positive k f n A u v h =
      let p = bind_both (is_positive H k A u) (λ b v. if b then done tt v else run.refused (NotPositive f n) v) tt v h in
      let q = tested p.0 (done tt p.1) (NotPositive f n) p.1 tt v p.3 in
      positive_is H k A u p.1 (subst (λ b. (is_positive H k A u).end ≡ run.Done b p.1) q.0 p.2)

  record AreArguments (k : Name) (r : Sort) (c : Context) (As : List Term) (ss : List Sort) : Type 0 where
    sorts : EntrySorts guarded H c As ss
    small : r ≢ Prop → AllAtMost H ss r
    positive : ArePositive H k As
    all : AreCounted H As
    over : AreSortsOver H.levels ss

  arguments_sound : (k : Name) (f n : ℕ) (r : Sort) (c : Context) (As : List Term) (ss : List Sort) (u v : Account) → IsCountedContext H c → AllFormed As →
      (arguments_rule H q inf k f n r c As u).end ≡ run.Done ss v → AreArguments k r c As ss
  unfolding arguments_rule
  arguments_sound k f n r c [] ss u v kc fs h =
      subst (λ ss. AreArguments k r c [] ss) (done_value h) (record { sorts = no_sorts; small = λ p. tt; positive = tt; all = tt; over = tt })
  arguments_sound k f n r c (A ∷ As) ss u v kc fs h =
      let k4 : Sort → List Sort → Account → Run (List Sort) = λ s ss y. done (s ∷ ss) y in
      let k3 : Sort → Unit {0} → Account → Run (List Sort) = λ s _ x. bind (arguments_rule H q inf k f n r (Assumed A ∷ c) As x) (k4 s) in
      let k2 : Sort → Unit {0} → Account → Run (List Sort) = λ s _ w. bind (positive_rule H k f n A w) (k3 s) in
      let k1 : Sort → Account → Run (List Sort) = λ s v. bind (fits_sort q r s v) (k2 s) in
      let p1 = bind_both (sort_of H inf c A u) k1 ss v h in
      let s : Sort = p1.0 in
      let p2 = bind_both (fits_sort q r s p1.1) (k2 s) ss v p1.3 in
      let p3 = bind_both (positive_rule H k f n A p2.1) (k3 s) ss v p2.3 in
      let p4 = bind_both (arguments_rule H q inf k f n r (Assumed A ∷ c) As p3.1) (k4 s) ss v p3.3 in
      let a = sort_sound H w inf si c A s u p1.1 kc fs.0 p1.2 in
      let rest = arguments_sound k f n r (Assumed A ∷ c) As p4.0 p3.1 p4.1 (a.1, kc) fs.1 p4.2 in
      subst (λ ss. AreArguments k r c (A ∷ As) ss) (done_value p4.3)
      (record {
        sorts = a_sort a.0 rest.sorts;
        small = λ p. (sort_fits H w q test r s p1.1 p2.1 p2.2 p, rest.small p);
        positive = (type_positive k f n A p2.1 p3.1 p3.2, rest.positive);
        all = (a.1, rest.all);
        over = (a.2, rest.over);
      })

  names_tested : (k : Name) (f n : ℕ) (ts : List Term) (b : Bool) (u v : Account) → some_names (Families k) 0 ts ≡ b →
      (if b then run.refused {A = Unit {0}} (NotPositive f n) u else done tt u).end ≡ run.Done tt v → some_names (Families k) 0 ts ≡ false
  names_tested k f n ts true u v e h = absurd (refused_done h)
  names_tested k f n ts false u v e h = e

  module _ (B : Block) (params : AreCounted H B.params) where
    record IsConstructor (F : Family) (C D : Constructor) : Type 0 where
      fit : ConstructorFits H B F D
      name : D.name ≡ C.name
      same : plain_constructor D ≡ plain_constructor C
      all : AreCounted H D.args × AreCounted H D.result × AreSortsOver H.levels D.arg_sorts

    constructor_sound : (F : Family) (f n : ℕ) (C D : Constructor) (u v : Account) → AreCounted H F.indices → AllFormed C.args × AllFormed C.result →
        (constructor_rule H q inf cmp B F f n C u).end ≡ run.Done D v → IsConstructor F C D
    constructor_sound F f n C D u v wi fc h =
        let c : Context = extend [] B.params in
        let d : Context = extend c C.args in
        let s : ℕ → Term = λ i. Rel (length C.args + i) in
        let k4 : List Sort → Unit {0} → Account → Run Constructor = λ ss _ y. done (with_sorts C ss) y in
        let k3 : List Sort → Unit {0} → Account → Run Constructor = λ ss _ x. bind (result_names B.name f n C.result x) (k4 ss) in
        let k2 : List Sort → Unit {0} → Account → Run Constructor = λ ss _ w. bind (check_all H inf cmp d s C.result F.indices w) (k3 ss) in
        let k1 : List Sort → Account → Run Constructor = λ ss v. bind (counted (length F.indices) (length C.result) v) (k2 ss) in
        let p1 = bind_both (arguments_rule H q inf B.name f n F.sort c C.args u) k1 D v h in
        let ss : List Sort = p1.0 in
        let p2 = bind_both (counted (length F.indices) (length C.result) p1.1) (k2 ss) D v p1.3 in
        let p3 = bind_both (check_all H inf cmp d s C.result F.indices p2.1) (k3 ss) D v p2.3 in
        let p4 = bind_both (result_names B.name f n C.result p3.1) (k4 ss) D v p3.3 in
        let kc : IsCountedContext H c = context_extended H [] B.params tt params in
        let as' = arguments_sound B.name f n F.sort c C.args ss u p1.1 kc fc.0 p1.2 in
        let rs = all_sound H w inf si cmp sc d s C.result F.indices p2.1 p3.1 (context_extended H c C.args kc as'.all) (λ i. tt)
        (sym (count_is (length F.indices) (length C.result) p1.1 p2.1 p2.2)) fc.1 wi p3.2 in
        subst (λ D. IsConstructor F C D) (done_value p4.3)
        (record {
          fit = record {
            arguments = as'.sorts;
            small = as'.small;
            positive = as'.positive;
            result = rs.0;
            names_none = names_tested B.name f n C.result (some_names (Families B.name) 0 C.result) p3.1 p4.1 refl p4.2;
          };
          name = refl;
          same = refl;
          all = (as'.all, rs.1, as'.over);
        })

    abbrev AllFit : Family → List Constructor → Type 0
    AllFit F [] = Unit {0}
    AllFit F (C ∷ Cs) = ConstructorFits H B F C × AllFit F Cs

    record AreConstructors (F : Family) (Cs Ds : List Constructor) : Type 0 where
      fit : AllFit F Ds
      names : names_in Ds ≡ names_in Cs
      same : map plain_constructor Ds ≡ map plain_constructor Cs
      all : AreCountedConstructors H Ds

    constructors_sound : (F : Family) (f n : ℕ) (Cs Ds : List Constructor) (u v : Account) → AreCounted H F.indices → ConstructorsFormed Cs →
        (constructors_rule H q inf cmp B F f n Cs u).end ≡ run.Done Ds v → AreConstructors F Cs Ds
    unfolding constructors_rule
    constructors_sound F f n [] Ds u v wi fc h = subst (λ Ds. AreConstructors F [] Ds) (done_value h) (record { fit = tt; names = refl; same = refl; all = tt })
    constructors_sound F f n (C ∷ Cs) Ds u v wi fc h =
        let k1 : Constructor → Account → Run (List Constructor) = λ D v. bind (constructors_rule H q inf cmp B F f (suc n) Cs v) (λ Ds w. done (D ∷ Ds) w) in
        let p1 = bind_both (constructor_rule H q inf cmp B F f n C u) k1 Ds v h in
        let D : Constructor = p1.0 in
        let p2 = bind_both (constructors_rule H q inf cmp B F f (suc n) Cs p1.1) (λ Ds w. done (D ∷ Ds) w) Ds v p1.3 in
        let one = constructor_sound F f n C D u p1.1 wi fc.0 p1.2 in
        let rest = constructors_sound F f (suc n) Cs p2.0 p1.1 p2.1 wi fc.1 p2.2 in
        subst (λ Ds. AreConstructors F (C ∷ Cs) Ds) (done_value p2.3)
        (record { fit = (one.fit, rest.fit); names = λ i. one.name i ∷ rest.names i; same = λ i. one.same i ∷ rest.same i; all = (one.all, rest.all) })

    at_place : (F : Family) (Cs : List Constructor) (n : ℕ) (C : Constructor) → AllFit F Cs → slice_get Cs n ≡ Some C → ConstructorFits H B F C
    at_place F [] n C h e = absurd (none_some e)
    at_place F (D ∷ Cs) zero C h e = subst (λ C. ConstructorFits H B F C) (one_item e) h.0
    at_place F (D ∷ Cs) (suc n) C h e = at_place F Cs n C h.1 e

    -- a constructor fits whatever constructors its family has
    with_others : (F : Family) (Ds : List Constructor) (C : Constructor) → ConstructorFits H B F C → ConstructorFits H B (with_constructors F Ds) C
    with_others F Ds C h = record { arguments = h.arguments; small = h.small; positive = h.positive; result = h.result; names_none = h.names_none }

    module _ (E : Env) (more : FindsAs E H) (less : FindsAs H E) where
      abbrev FamiliesFit : List Family → Type 0
      FamiliesFit [] = Unit {0}
      FamiliesFit (F ∷ Fs) = FamilyFits E H B F × FamiliesFit Fs

      record AreFamilies (Fs Gs : List Family) : Type 0 where
        fit : FamiliesFit Gs
        heads : map head_of Gs ≡ map head_of Fs
        same : map plain_family Gs ≡ map plain_family Fs
        all : AreCountedFamilies E Gs

      families_sound : (f : ℕ) (Fs Gs : List Family) (u v : Account) → HeadsFit E B Fs → FamiliesFormed Fs → (families_rule H q inf cmp B f Fs u).end ≡ run.Done Gs v →
          AreFamilies Fs Gs
      unfolding families_rule
      families_sound f [] Gs u v hs fs h = subst (λ Gs. AreFamilies [] Gs) (done_value h) (record { fit = tt; heads = refl; same = refl; all = tt })
      families_sound f (F ∷ Fs) Gs u v hs fs h =
          let k2 : List Constructor → List Family → Account → Run (List Family) = λ Cs Gs w. done (with_constructors F Cs ∷ Gs) w in
          let k1 : List Constructor → Account → Run (List Family) = λ Cs v. bind (families_rule H q inf cmp B (suc f) Fs v) (k2 Cs) in
          let p1 = bind_both (constructors_rule H q inf cmp B F f 0 F.ctors u) k1 Gs v h in
          let Cs : List Constructor = p1.0 in
          let p2 = bind_both (families_rule H q inf cmp B (suc f) Fs p1.1) (k2 Cs) Gs v p1.3 in
          let G : Family = with_constructors F Cs in
          let cs = constructors_sound F f 0 F.ctors Cs u p1.1 (all_more E H more F.indices hs.0.all) fs.0.1 p1.2 in
          let rest = families_sound (suc f) Fs p2.0 p1.1 p2.1 hs.1 fs.1 p2.2 in
          let fit : FamilyFits E H B G = record {
            indices = hs.0.indices;
            sort = hs.0.sort;
            distinct = all_pairs Cs (subst (λ ks. Distinct ks) (sym cs.names) hs.0.distinct);
            constructors = λ n C e. with_others F Cs C (at_place F Cs n C cs.fit e);
          } in
          subst (λ Gs. AreFamilies (F ∷ Fs) Gs) (done_value p2.3)
          (record {
            fit = (fit, rest.fit);
            heads = λ i. head_of F ∷ rest.heads i;
            same = λ i. record { name = F.name; sort = F.sort; indices = F.indices; ctors = cs.same i } ∷ rest.same i;
            all = ((hs.0.all, constructors_more H E less Cs cs.all, declared_over E F.sort hs.0.sort), rest.all);
          })

      family_place : (Fs : List Family) (n : ℕ) (F : Family) → FamiliesFit Fs → slice_get Fs n ≡ Some F → FamilyFits E H B F
      family_place [] n F h p = absurd (none_some p)
      family_place (G ∷ Fs) zero F h p = subst (λ F. FamilyFits E H B F) (one_item p) h.0
      family_place (G ∷ Fs) (suc n) F h p = family_place Fs n F h.1 p

      -- a family fits whatever families its block has
      with_more : (Gs : List Family) (F : Family) → FamilyFits E H B F → FamilyFits E H (with_families B Gs) F
      with_more Gs F h = record {
        indices = h.indices;
        sort = h.sort;
        distinct = h.distinct;
        constructors = λ n C e. let c = h.constructors n C e in
            record { arguments = c.arguments; small = c.small; positive = c.positive; result = c.result; names_none = c.names_none };
      }

-- the whole block

pub heads_counted : (E : Env) (B : Block) (Fs : List Family) → HeadsFit E B Fs → AreCountedFamilies E (map head_of Fs)
heads_counted E B [] h = tt
heads_counted E B (F ∷ Fs) h = ((h.0.all, tt, declared_over E F.sort h.0.sort), heads_counted E B Fs h.1)

pub block_sound : (E : Env) (q : Test) → IsTest E.levels E.constraints q → HasCountedDeclarations E → (n : ℕ) (B D : Block) (u v : Account) →
    IsFresh B.name E.declarations → BlockFormed B → (block_rule E q n B u).end ≡ run.Done D v → IsCheckedBlock E B D
block_sound E q test w n B D u v fresh fb h =
    let H : Env = with_heads E B in
    let k3 : List Family → Account → Run Block = λ Fs w. done (with_families B Fs) w in
    let k2 : Unit {0} → Account → Run Block = λ _ v. bind (families_rule H q (infer H q n) (compare H q n) B 0 B.families v) k3 in
    let p1 = bind_both (heads_rule E (infer E q n) B u) k2 D v h in
    let p2 = bind_both (families_rule H q (infer H q n) (compare H q n) B 0 B.families p1.1) k3 D v p1.3 in
    let Gs : List Family = p2.0 in
    let si = infer_sound E w q test n in
    let p3 = bind_both (sorts_of E (infer E q n) [] B.params u) (λ ss v. family_heads E (infer E q n) B B.families v) tt p1.1 p1.2 in
    let es = entries_sound E w (infer E q n) si [] B.params p3.0 u p3.1 tt fb.0 p3.2 in
    let hs : HeadsFit E B B.families = heads_sound E w (infer E q n) si B es.all B.families p3.1 p1.1 fb.1 p3.3 in
    let wH : HasCountedDeclarations H =
    env_more E.levels E.constraints E.declarations (Heads (heads_of B)) fresh w (es.all, heads_counted E B B.families hs) in
    let more : FindsAs E H = finds_more E.levels E.constraints E.declarations (Heads (heads_of B)) fresh in
    let less : FindsAs H E = finds_without E.levels E.constraints E.declarations (heads_of B) in
    let params : AreCounted H B.params = all_more E H more B.params es.all in
    let sH = infer_sound H wH q test n in
    let cH = compare_sound H q test wH n in
    let fs = families_sound H wH (infer H q n) sH (compare H q n) cH q test B params E more less 0 B.families Gs p1.1 p2.1 hs fb.1 p2.2 in
    let heads : heads_of (with_families B Gs) ≡ heads_of B = λ i. record { name = B.name; params = B.params; families = fs.heads i } in
    let fit : BlockFits E H (with_families B Gs) = record {
      parameters = es.entries;
      families = λ m F e. with_more H wH (infer H q n) sH (compare H q n) cH q test B params E more less Gs F
          (family_place H wH (infer H q n) sH (compare H q n) cH q test B params E more less Gs m F fs.fit e);
    } in
    subst (λ D. IsCheckedBlock E B D) (done_value p2.3)
    (record {
      fits = subst (λ X. BlockFits E (env E.levels E.constraints (Heads X ∷ E.declarations)) (with_families B Gs)) (sym heads) fit;
      heads = heads;
      same = λ i. record { name = B.name; params = B.params; families = fs.same i };
      counted = env_more E.levels E.constraints E.declarations (Whole (with_families B Gs)) fresh w (es.all, fs.all);
    })
