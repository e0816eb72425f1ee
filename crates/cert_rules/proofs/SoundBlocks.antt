-- A block that the certified walk accepts fits.
use Rattle.std.proofs.Common.{◌≡◌, ◌≢◌, ℕ, zero, suc, ◌+◌, Bool, true, false, List, [], ◌∷◌, map, length, Some, refl, sym, subst, slice_get}
use Rattle.universe_levels.specs.declared.sort.Sort.{Sort}
use Rattle.universe_levels.specs.declared.sort.Sort.TheVariants.{Prop}
use Rattle.pc_terms.specs.declared.leaf.Name.{Name}
use Rattle.pc_terms.specs.Syntax.{Term, Rel}
use Rattle.calculus_rules.specs.declared.declaration.Constructor.{Constructor}
use Rattle.calculus_rules.specs.declared.declaration.Family.{Family}
use Rattle.calculus_rules.specs.declared.declaration.Block.{Block}
use Rattle.calculus_rules.specs.declared.declaration.Kept.TheVariants.{Heads, Block as Whole}
use Rattle.calculus_rules.specs.declared.entry.Entry.TheVariants.{Assumed}
use Rattle.calculus_rules.specs.Environment.{Env, head_of, heads_of}
use Rattle.calculus_rules.specs.Context.{Context, extend}
use Rattle.calculus_rules.specs.Typing.{guarded, EntrySorts, no_sorts, a_sort}
use Rattle.calculus_rules.specs.Positivity.{ArePositive, ArePositiveConstructors, ArePositiveFamilies}
use Rattle.calculus_rules.specs.Accepted.{IsFresh, AllAtMost, ConstructorFits, FamilyFits, BlockFits, env}
use Rattle.pc_rules.specs.DirectedRun as run
use Rattle.pc_rules.specs.DirectedComparison.{Test, IsTest}
use Rattle.pc_rules.specs.DirectedTyping.{counted, undeclared_in, levels_declared}
use Rattle.pc_rules.specs.DirectedPositivity.{block_positive}
use Rattle.calculus_rules.specs.declared.target.Target.TheVariants.{Families}
use Rattle.calculus_rules.specs.Naming.{some_names}
use Rattle.pc_rules.specs.DirectedDeclarations.{distinct_names, fits_sort, with_sorts, with_constructors, with_families, with_heads}
use Rattle.pc_rules.specs.WellCounted.{AreSortsOver, AreCounted, AreCountedConstructors, AreCountedFamilies, HasCountedDeclarations, IsCountedContext}
use Rattle.calculus_rules.proofs.Spines.{one_item}
use Rattle.pc_rules.proofs.WeakNext.{none_some}
use Rattle.rule_laws.specs.Inference.{AllFormed}
use Rattle.rule_laws.specs.Declarations.{plain_constructor, plain_family, ConstructorsFormed, FamiliesFormed, BlockFormed, IsCheckedBlock}
use Rattle.rule_laws.proofs.CountedParts.{context_extended}
use Rattle.rule_laws.proofs.SimpleRules.{declared_over, levels_are_declared}
use Rattle.rule_laws.proofs.MatchRule.{count_is}
use Rattle.rule_laws.proofs.Extending.{FindsAs, all_more, constructors_more, finds_more, finds_without, env_more}
use Rattle.rule_laws.proofs.Positive.{block_positive_is}
use Rattle.rule_laws.proofs.Blocks.{names_in, Distinct, are_new, all_pairs, HeadFits, HeadsFit, heads_counted, sort_fits}
use Rattle.cert_rules.specs.Walk.{Items, WalkState, Walk, Passed, pass, walk_on, by_rules}
use Rattle.cert_rules.specs.Scripts.{Script, script}
use Rattle.cert_rules.specs.WalkTyping.{Walking, walk_infer, walk_sort_of, walk_sorts_of, walk_check_all}
use Rattle.cert_rules.specs.WalkDeclarations.{walk_head, walk_heads, walk_block_heads, walk_arguments, walk_constructor, walk_constructors, walk_families, walk_positive, walk_block}
use Rattle.cert_rules.proofs.PassedWalks.{on_both, tested, passed_value, rules_passed}
use Rattle.cert_rules.proofs.SoundScripts.{Shows, script_sound}
use Rattle.cert_rules.proofs.SoundSimple.{Infers, sort_sound}
use Rattle.cert_rules.proofs.SoundMatch.{entries_sound, all_sound}
use Rattle.cert_rules.proofs.SoundTyping.{infer_sound}

-- the heads of a block

module _ (cert : Items) (E : Env) (w : HasCountedDeclarations E) (inf : Walking) (si : Infers E inf) (B : Block) (params : AreCounted E B.params) where
  head_sound : (F : Family) (u v : WalkState) → AllFormed F.indices → (walk_head cert E inf B F u).end ≡ Passed tt v → HeadFits E B F
  head_sound F u v f h =
      let k3 : List Sort → WalkState → Walk (Unit {0}) = λ xs x. pass tt x in
      let k2 : Unit {0} → WalkState → Walk (Unit {0}) = λ _ w. walk_on (walk_sorts_of cert E inf (extend [] B.params) F.indices w) k3 in
      let k1 : Unit {0} → WalkState → Walk (Unit {0}) = λ _ v. walk_on (by_rules (levels_declared (undeclared_in E.levels F.sort)) v) k2 in
      let p1 = on_both (by_rules (distinct_names [] F.ctors) u) k1 tt v h in
      let p2 = on_both (by_rules (levels_declared (undeclared_in E.levels F.sort)) p1.1) k2 tt v p1.3 in
      let p3 = on_both (walk_sorts_of cert E inf (extend [] B.params) F.indices p2.1) k3 tt v p2.3 in
      let r1 = rules_passed (distinct_names [] F.ctors) u tt p1.1 p1.2 in
      let r2 = rules_passed (levels_declared (undeclared_in E.levels F.sort)) p1.1 tt p2.1 p2.2 in
      let es = entries_sound cert E w inf si (extend [] B.params) F.indices p3.0 p2.1 p3.1 (context_extended E [] B.params tt params) f p3.2 in
      record {
        indices = es.entries;
        sort = levels_are_declared E F.sort p1.1.account r2.0 r2.1;
        distinct = (are_new [] F.ctors u.account r1.0 r1.1).0;
        all = es.all;
      }

  heads_sound : (Fs : List Family) (u v : WalkState) → FamiliesFormed Fs → (walk_heads cert E inf B Fs u).end ≡ Passed tt v → HeadsFit E B Fs
  heads_sound [] u v f h = tt
  heads_sound (F ∷ Fs) u v f h =
      let p = on_both (walk_head cert E inf B F u) (λ _ v. walk_heads cert E inf B Fs v) tt v h in
      (head_sound F u p.1 f.0.0 p.2, heads_sound Fs p.1 v f.1 p.3)

-- its constructors

-- a constructor's argument types are positive, and its result terms name no family of the block
abbrev ConstructorPositive : Env → Name → Constructor → Type 0
ConstructorPositive H k C = ArePositive H k C.args × (some_names (Families k) 0 C.result ≡ false)

module _ (cert : Items) (H : Env) (w : HasCountedDeclarations H) (inf : Walking) (si : Infers H inf) (cmp : Script) (sc : Shows H cmp) (q : Test)
    (test : IsTest H.levels H.constraints q) where
  record AreArguments (r : Sort) (c : Context) (As : List Term) (ss : List Sort) : Type 0 where
    sorts : EntrySorts guarded H c As ss
    small : r ≢ Prop → AllAtMost H ss r
    all : AreCounted H As
    over : AreSortsOver H.levels ss

  arguments_sound : (r : Sort) (c : Context) (As : List Term) (ss : List Sort) (u v : WalkState) → IsCountedContext H c → AllFormed As →
      (walk_arguments cert H q inf r c As u).end ≡ Passed ss v → AreArguments r c As ss
  unfolding walk_arguments
  arguments_sound r c [] ss u v kc fs h =
      subst (λ ss. AreArguments r c [] ss) (passed_value h) (record { sorts = no_sorts; small = λ p. tt; all = tt; over = tt })
  arguments_sound r c (A ∷ As) ss u v kc fs h =
      let k3 : Sort → List Sort → WalkState → Walk (List Sort) = λ x xs y. pass (x ∷ xs) y in
      let k2 : Sort → Unit {0} → WalkState → Walk (List Sort) = λ x _ w. walk_on (walk_arguments cert H q inf r (Assumed A ∷ c) As w) (k3 x) in
      let k1 : Sort → WalkState → Walk (List Sort) = λ x v. walk_on (by_rules (fits_sort q r x) v) (k2 x) in
      let p1 = on_both (walk_sort_of cert H inf c A u) k1 ss v h in
      let s : Sort = p1.0 in
      let p2 = on_both (by_rules (fits_sort q r s) p1.1) (k2 s) ss v p1.3 in
      let p3 = on_both (walk_arguments cert H q inf r (Assumed A ∷ c) As p2.1) (k3 s) ss v p2.3 in
      let r2 = rules_passed (fits_sort q r s) p1.1 tt p2.1 p2.2 in
      let a = sort_sound cert H w inf si c A s u p1.1 kc fs.0 p1.2 in
      let rest = arguments_sound r (Assumed A ∷ c) As p3.0 p2.1 p3.1 (a.1, kc) fs.1 p3.2 in
      subst (λ ss. AreArguments r c (A ∷ As) ss) (passed_value p3.3)
      (record {
        sorts = a_sort a.0 rest.sorts;
        small = λ p. (sort_fits H w q test r s p1.1.account r2.0 r2.1 p, rest.small p);
        all = (a.1, rest.all);
        over = (a.2, rest.over);
      })

  module _ (B : Block) (params : AreCounted H B.params) where
    record IsConstructor (F : Family) (C D : Constructor) : Type 0 where
      fit : ConstructorFits H B F D
      name : D.name ≡ C.name
      same : plain_constructor D ≡ plain_constructor C
      all : AreCounted H D.args × AreCounted H D.result × AreSortsOver H.levels D.arg_sorts

    constructor_sound : (F : Family) (C D : Constructor) (u v : WalkState) → AreCounted H F.indices → AllFormed C.args × AllFormed C.result → ConstructorPositive H B.name C →
        (walk_constructor cert H q inf cmp B F C u).end ≡ Passed D v → IsConstructor F C D
    constructor_sound F C D u v wi fc positive h =
        let c : Context = extend [] B.params in
        let d : Context = extend c C.args in
        let s : ℕ → Term = λ i. Rel (length C.args + i) in
        let k3 : List Sort → Unit {0} → WalkState → Walk Constructor = λ xs _ x. pass (with_sorts C xs) x in
        let k2 : List Sort → Unit {0} → WalkState → Walk Constructor = λ xs _ w. walk_on (walk_check_all cert H inf cmp d s C.result F.indices w) (k3 xs) in
        let k1 : List Sort → WalkState → Walk Constructor = λ xs v. walk_on (by_rules (counted (length F.indices) (length C.result)) v) (k2 xs) in
        let p1 = on_both (walk_arguments cert H q inf F.sort c C.args u) k1 D v h in
        let ss : List Sort = p1.0 in
        let p2 = on_both (by_rules (counted (length F.indices) (length C.result)) p1.1) (k2 ss) D v p1.3 in
        let p3 = on_both (walk_check_all cert H inf cmp d s C.result F.indices p2.1) (k3 ss) D v p2.3 in
        let r2 = rules_passed (counted (length F.indices) (length C.result)) p1.1 tt p2.1 p2.2 in
        let kc : IsCountedContext H c = context_extended H [] B.params tt params in
        let as' = arguments_sound F.sort c C.args ss u p1.1 kc fc.0 p1.2 in
        let rs = all_sound cert H w inf si cmp sc d s C.result F.indices p2.1 p3.1 (context_extended H c C.args kc as'.all) (λ i. tt)
        (sym (count_is (length F.indices) (length C.result) p1.1.account r2.0 r2.1)) fc.1 wi p3.2 in
        subst (λ D. IsConstructor F C D) (passed_value p3.3)
        (record {
          fit = record { arguments = as'.sorts; small = as'.small; positive = positive.0; result = rs.0; names_none = positive.1 };
          name = refl;
          same = refl;
          all = (as'.all, rs.1, as'.over);
        })

    abbrev AllFit : Family → List Constructor → Type 0
    AllFit F [] = Unit {0}
    AllFit F (C ∷ Cs) = ConstructorFits H B F C × AllFit F Cs

    record AreConstructors (F : Family) (Cs Ds : List Constructor) : Type 0 where
      fit : AllFit F Ds
      names : names_in Ds ≡ names_in Cs
      same : map plain_constructor Ds ≡ map plain_constructor Cs
      all : AreCountedConstructors H Ds

    constructors_sound : (F : Family) (Cs Ds : List Constructor) (u v : WalkState) → AreCounted H F.indices → ConstructorsFormed Cs → ArePositiveConstructors H B.name Cs →
        (walk_constructors cert H q inf cmp B F Cs u).end ≡ Passed Ds v → AreConstructors F Cs Ds
    unfolding walk_constructors
    constructors_sound F [] Ds u v wi fc positive h =
        subst (λ Ds. AreConstructors F [] Ds) (passed_value h) (record { fit = tt; names = refl; same = refl; all = tt })
    constructors_sound F (C ∷ Cs) Ds u v wi fc positive h =
        let k1 : Constructor → WalkState → Walk (List Constructor) = λ D v. walk_on (walk_constructors cert H q inf cmp B F Cs v) (λ Ds w. pass (D ∷ Ds) w) in
        let p1 = on_both (walk_constructor cert H q inf cmp B F C u) k1 Ds v h in
        let D : Constructor = p1.0 in
        let p2 = on_both (walk_constructors cert H q inf cmp B F Cs p1.1) (λ Ds w. pass (D ∷ Ds) w) Ds v p1.3 in
        let one = constructor_sound F C D u p1.1 wi fc.0 positive.0 p1.2 in
        let rest = constructors_sound F Cs p2.0 p1.1 p2.1 wi fc.1 positive.1 p2.2 in
        subst (λ Ds. AreConstructors F (C ∷ Cs) Ds) (passed_value p2.3)
        (record { fit = (one.fit, rest.fit); names = λ i. one.name i ∷ rest.names i; same = λ i. one.same i ∷ rest.same i; all = (one.all, rest.all) })

    at_place : (F : Family) (Cs : List Constructor) (n : ℕ) (C : Constructor) → AllFit F Cs → slice_get Cs n ≡ Some C → ConstructorFits H B F C
    at_place F [] n C h e = absurd (none_some e)
    at_place F (D ∷ Cs) zero C h e = subst (λ C. ConstructorFits H B F C) (one_item e) h.0
    at_place F (D ∷ Cs) (suc n) C h e = at_place F Cs n C h.1 e

    -- a constructor fits whatever constructors its family has
    with_others : (F : Family) (Ds : List Constructor) (C : Constructor) → ConstructorFits H B F C → ConstructorFits H B (with_constructors F Ds) C
    with_others F Ds C h = record { arguments = h.arguments; small = h.small; positive = h.positive; result = h.result; names_none = h.names_none }

    module _ (E : Env) (more : FindsAs E H) (less : FindsAs H E) where
      abbrev FamiliesFit : List Family → Type 0
      FamiliesFit [] = Unit {0}
      FamiliesFit (F ∷ Fs) = FamilyFits E H B F × FamiliesFit Fs

      record AreFamilies (Fs Gs : List Family) : Type 0 where
        fit : FamiliesFit Gs
        heads : map head_of Gs ≡ map head_of Fs
        same : map plain_family Gs ≡ map plain_family Fs
        all : AreCountedFamilies E Gs

      families_sound : (Fs Gs : List Family) (u v : WalkState) → HeadsFit E B Fs → FamiliesFormed Fs → ArePositiveFamilies H B.name Fs →
          (walk_families cert H q inf cmp B Fs u).end ≡ Passed Gs v → AreFamilies Fs Gs
      unfolding walk_families
      families_sound [] Gs u v hs fs positive h = subst (λ Gs. AreFamilies [] Gs) (passed_value h) (record { fit = tt; heads = refl; same = refl; all = tt })
      families_sound (F ∷ Fs) Gs u v hs fs positive h =
          let k2 : List Constructor → List Family → WalkState → Walk (List Family) = λ Cs Gs w. pass (with_constructors F Cs ∷ Gs) w in
          let k1 : List Constructor → WalkState → Walk (List Family) = λ Cs v. walk_on (walk_families cert H q inf cmp B Fs v) (k2 Cs) in
          let p1 = on_both (walk_constructors cert H q inf cmp B F F.ctors u) k1 Gs v h in
          let Cs : List Constructor = p1.0 in
          let p2 = on_both (walk_families cert H q inf cmp B Fs p1.1) (k2 Cs) Gs v p1.3 in
          let G : Family = with_constructors F Cs in
          let cs = constructors_sound F F.ctors Cs u p1.1 (all_more E H more F.indices hs.0.all) fs.0.1 positive.0 p1.2 in
          let rest = families_sound Fs p2.0 p1.1 p2.1 hs.1 fs.1 positive.1 p2.2 in
          let fit : FamilyFits E H B G = record {
            indices = hs.0.indices;
            sort = hs.0.sort;
            distinct = all_pairs Cs (subst (λ ks. Distinct ks) (sym cs.names) hs.0.distinct);
            constructors = λ n C e. with_others F Cs C (at_place F Cs n C cs.fit e);
          } in
          subst (λ Gs. AreFamilies (F ∷ Fs) Gs) (passed_value p2.3)
          (record {
            fit = (fit, rest.fit);
            heads = λ i. head_of F ∷ rest.heads i;
            same = λ i. record { name = F.name; sort = F.sort; indices = F.indices; ctors = cs.same i } ∷ rest.same i;
            all = ((hs.0.all, constructors_more H E less Cs cs.all, declared_over E F.sort hs.0.sort), rest.all);
          })

      family_place : (Fs : List Family) (n : ℕ) (F : Family) → FamiliesFit Fs → slice_get Fs n ≡ Some F → FamilyFits E H B F
      family_place [] n F h p = absurd (none_some p)
      family_place (G ∷ Fs) zero F h p = subst (λ F. FamilyFits E H B F) (one_item p) h.0
      family_place (G ∷ Fs) (suc n) F h p = family_place Fs n F h.1 p

      -- a family fits whatever families its block has
      with_more : (Gs : List Family) (F : Family) → FamilyFits E H B F → FamilyFits E H (with_families B Gs) F
      with_more Gs F h = record {
        indices = h.indices;
        sort = h.sort;
        distinct = h.distinct;
        constructors = λ n C e. let c = h.constructors n C e in
            record { arguments = c.arguments; small = c.small; positive = c.positive; result = c.result; names_none = c.names_none };
      }

-- the whole block

pub block_sound : (cert : Items) (E : Env) (q : Test) → IsTest E.levels E.constraints q → HasCountedDeclarations E → (n : ℕ) (B D : Block) (u v : WalkState) →
    IsFresh B.name E.declarations → BlockFormed B → (walk_block cert E q n B u).end ≡ Passed D v → IsCheckedBlock E B D
block_sound cert E q test w n B D u v fresh fb h =
    let H : Env = with_heads E B in
    let k4 : List Family → Unit {0} → WalkState → Walk Block = λ Fs _ y. pass (with_families B Fs) y in
    let k3 : List Family → Bool → WalkState → Walk Block = λ Fs positive x. walk_on (walk_positive positive x) (k4 Fs) in
    let k2 : List Family → WalkState → Walk Block = λ Fs w. walk_on (by_rules (block_positive H B) w) (k3 Fs) in
    let k1 : Unit {0} → WalkState → Walk Block = λ _ v. walk_on (walk_families cert H q (walk_infer cert H q n) (script cert H q n) B B.families v) k2 in
    let p1 = on_both (walk_block_heads cert E (walk_infer cert E q n) B u) k1 D v h in
    let p2 = on_both (walk_families cert H q (walk_infer cert H q n) (script cert H q n) B B.families p1.1) k2 D v p1.3 in
    let Gs : List Family = p2.0 in
    let p3 = on_both (by_rules (block_positive H B) p2.1) (k3 Gs) D v p2.3 in
    let p4 = on_both (walk_positive p3.0 p3.1) (k4 Gs) D v p3.3 in
    let yes : p3.0 ≡ true = (tested p3.0 (pass tt p3.1) p3.1.at p3.1 tt p4.1 p4.2).0 in
    let r3 = rules_passed (block_positive H B) p2.1 p3.0 p3.1 p3.2 in
    let positive : ArePositiveFamilies H B.name B.families =
    block_positive_is H B p2.1.account r3.0 (subst (λ b. (block_positive H B p2.1.account).end ≡ run.Done b r3.0) yes r3.1) in
    let si = infer_sound cert E w q test n in
    let k5 : List Sort → WalkState → Walk (Unit {0}) = λ xs v. walk_heads cert E (walk_infer cert E q n) B B.families v in
    let p5 = on_both (walk_sorts_of cert E (walk_infer cert E q n) [] B.params u) k5 tt p1.1 p1.2 in
    let es = entries_sound cert E w (walk_infer cert E q n) si [] B.params p5.0 u p5.1 tt fb.0 p5.2 in
    let hs : HeadsFit E B B.families = heads_sound cert E w (walk_infer cert E q n) si B es.all B.families p5.1 p1.1 fb.1 p5.3 in
    let wH : HasCountedDeclarations H =
    env_more E.levels E.constraints E.declarations (Heads (heads_of B)) fresh w (es.all, heads_counted E B B.families hs) in
    let more : FindsAs E H = finds_more E.levels E.constraints E.declarations (Heads (heads_of B)) fresh in
    let less : FindsAs H E = finds_without E.levels E.constraints E.declarations (heads_of B) in
    let params : AreCounted H B.params = all_more E H more B.params es.all in
    let sH = infer_sound cert H wH q test n in
    let cH = script_sound H q test cert n in
    let fs = families_sound cert H wH (walk_infer cert H q n) sH (script cert H q n) cH q test B params E more less B.families Gs p1.1 p2.1 hs fb.1 positive p2.2 in
    let heads : heads_of (with_families B Gs) ≡ heads_of B = λ i. record { name = B.name; params = B.params; families = fs.heads i } in
    let fit : BlockFits E H (with_families B Gs) = record {
      parameters = es.entries;
      families = λ m F e. with_more cert H wH (walk_infer cert H q n) sH (script cert H q n) cH q test B params E more less Gs F
          (family_place cert H wH (walk_infer cert H q n) sH (script cert H q n) cH q test B params E more less Gs m F fs.fit e);
    } in
    subst (λ D. IsCheckedBlock E B D) (passed_value p4.3)
    (record {
      fits = subst (λ X. BlockFits E (env E.levels E.constraints (Heads X ∷ E.declarations)) (with_families B Gs)) (sym heads) fit;
      heads = heads;
      same = λ i. record { name = B.name; params = B.params; families = fs.same i };
      counted = env_more E.levels E.constraints E.declarations (Whole (with_families B Gs)) fresh w (es.all, fs.all);
    })
