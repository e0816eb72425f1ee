-- Rule 10 of the certified walk, of matches, gives types.
use Rattle.std.proofs.Common.{◌≡◌, ◌∙◌, ℕ, suc, ◌+◌, ◌==◌, ◌&&◌, List, [], ◌∷◌, ◌++◌, length, drop, Option, Some, sym, subst, arith}
use Rattle.std.proofs.lemmas.Bool.{eqb-true}
use Rattle.universe_levels.specs.declared.sort.Sort.{Sort}
use Rattle.pc_terms.specs.declared.leaf.FamilyId.{FamilyId}
use Rattle.pc_terms.specs.Syntax.{Term, Terms, Done, Next, Rel, SortT, Case, first, substitute, apply, head, args, terms_of, list_of, Ind}
use Rattle.pc_terms.specs.Formed.{binders_of, EachTerm, HasForm, IsFormed}
use Rattle.calculus_rules.specs.declared.declaration.Constructor.{Constructor}
use Rattle.calculus_rules.specs.declared.declaration.Block.{Block}
use Rattle.calculus_rules.specs.declared.entry.Entry.TheVariants.{Assumed}
use Rattle.calculus_rules.specs.Environment.{Env, FamilyDecl, KeepsFamily}
use Rattle.calculus_rules.specs.Context.{Context, values, extend}
use Rattle.calculus_rules.specs.Instances.{predicate_entries, branch_entries, predicate_at, branch_type}
use Rattle.calculus_rules.specs.Elimination.{MayEliminate}
use Rattle.calculus_rules.specs.Typing.{guarded, Types, case, TypesAll, no_terms, term, Entries, no_entries, entry, Branches, no_branches, branch, EntrySorts, no_sorts, a_sort}
use Rattle.pc_rules.specs.DirectedRun.{make, passing, any_beyond}
use Rattle.calculus_rules.specs.Lookups.{kept_at, whole_block, family_of}
use Rattle.calculus_rules.proofs.WeakHead.{weak_equal}
use Rattle.pc_rules.specs.DirectedTyping.{find_family, match_counted, eliminated, is_the_family, branch_beyond}
use Rattle.pc_rules.specs.WellCounted.{IsCountedNode, arities, IsCounted, AreCounted, AreCountedConstructors, HasCountedDeclarations, IsCountedContext}
use Rattle.pc_rules.proofs.WeakNext.{family_found, drop_long, both_true}
use Rattle.rule_laws.specs.Inference.{IsInferred, AllFormed}
use Rattle.rule_laws.proofs.Counted.{PutsCounted, rel_counted, first_counted, substituted_counted, apply_counted, appended_counted, args_counted, terms_counted}
use Rattle.rule_laws.proofs.KeepCounts.{IsCountedFamilyDecl, values_counted, steps_counted, kept_counted}
use Rattle.rule_laws.proofs.CountedParts.{ind_counted, predicate_entries_counted, branch_entries_counted, predicate_at_counted, branch_type_counted, context_extended}
use Rattle.calculus_rules.proofs.Listing.{first_same, rest_same}
use Rattle.rule_laws.proofs.Comparing.{names_long, list_long, no_suc}
use Rattle.rule_laws.proofs.SimpleRules.{formed, whole_family}
use Rattle.rule_laws.proofs.MatchRule.{all_formed, formed_list, terms_are, Counted, eliminated_is, dropped_counted}
pub use Rattle.rule_laws.proofs.MatchRule.{match_is_counted}
use Rattle.cert_rules.specs.Walk.{Items, WalkState, Walk, Passed, pass, walk_on, by_rules}
use Rattle.cert_rules.specs.WalkSteps.{Reduced, reduced}
use Rattle.cert_rules.specs.Scripts.{Script}
use Rattle.cert_rules.specs.WalkTyping.{Walking, walk_sort_of, walk_retype, walk_fits, walk_check, walk_check_all, walk_sorts_of, walk_found_family, walk_scrutinee, walk_branch, walk_branches, walk_predicate, walk_case}
use Rattle.cert_rules.proofs.PassedWalks.{on_both, tested, passed_value, rules_passed, make_then, pass_then, reduced_passed}
use Rattle.cert_rules.proofs.SoundScripts.{Shows}
use Rattle.cert_rules.proofs.SoundSimple.{Infers, made_is, sort_sound, retype_sound, fits_sound, check_sound}

module _ (cert : Items) (E : Env) (w : HasCountedDeclarations E) (inf : Walking) (si : Infers E inf) where
  -- telescopes
  pub record AreEntries (c : Context) (As : List Term) (ss : List Sort) : Type 0 where
    pub entries : Entries guarded E c As
    pub sorts : EntrySorts guarded E c As ss
    pub all : AreCounted E As

  pub entries_sound : (c : Context) (As : List Term) (ss : List Sort) (u v : WalkState) → IsCountedContext E c → AllFormed As →
      (walk_sorts_of cert E inf c As u).end ≡ Passed ss v → AreEntries c As ss
  unfolding walk_sorts_of
  entries_sound c [] ss u v k f h =
      subst (λ ss. AreEntries c [] ss) (passed_value h) (record { entries = no_entries; sorts = no_sorts; all = tt })
  entries_sound c (A ∷ As) ss u v k f h =
      let p1 = on_both (walk_sort_of cert E inf c A u) (λ s v. walk_on (walk_sorts_of cert E inf (Assumed A ∷ c) As v) (λ ss w. pass (s ∷ ss) w)) ss v h in
      let p2 = on_both (walk_sorts_of cert E inf (Assumed A ∷ c) As p1.1) (λ ss w. pass (p1.0 ∷ ss) w) ss v p1.3 in
      let a = sort_sound cert E w inf si c A p1.0 u p1.1 k f.0 p1.2 in
      let r = entries_sound (Assumed A ∷ c) As p2.0 p1.1 p2.1 (a.1, k) f.1 p2.2 in
      subst (λ ss. AreEntries c (A ∷ As) ss) (passed_value p2.3)
      (record { entries = entry a.0 r.entries; sorts = a_sort a.0 r.sorts; all = (a.1, r.all) })

  -- a match's predicate
  record IsPredicate (c : Context) (f : FamilyId) (F : FamilyDecl) (ps : List Term) (ret : Term) : Type 0 where
    target : Sort
    entries : Entries guarded E c (predicate_entries f F ps)
    typed : Types guarded E (extend c (predicate_entries f F ps)) ret (SortT target)
    may : MayEliminate E f F target
    subject : IsCounted E ret

  predicate_sound : (c : Context) (f : FamilyId) (F : FamilyDecl) (ps : List Term) (ret : Term) (u v : WalkState) → IsCountedContext E c →
      family_of E f ≡ Some F → IsCountedFamilyDecl E F → AreCounted E ps → IsFormed ret →
      (walk_predicate cert E inf c (whole_block (kept_at E.declarations f.block)) f F ps ret u).end ≡ Passed tt v → IsPredicate c f F ps ret
  predicate_sound c f F ps ret u v k q wF wps fr h =
      let B : Option Block = whole_block (kept_at E.declarations f.block) in
      let D : Context = extend c (predicate_entries f F ps) in
      let k3 : Sort → WalkState → Walk (Unit {0}) = λ x y. by_rules (eliminated B f F x) y in
      let k2 : List Sort → WalkState → Walk (Unit {0}) = λ _ w. walk_on (walk_sort_of cert E inf D ret w) k3 in
      let h1 = pass_then (any_beyond (predicate_entries f F ps)) u (λ _ v. walk_on (walk_sorts_of cert E inf c (predicate_entries f F ps) v) k2) h in
      let p1 = on_both (walk_sorts_of cert E inf c (predicate_entries f F ps) u) k2 tt v h1 in
      let p2 = on_both (walk_sort_of cert E inf D ret p1.1) k3 tt v p1.3 in
      let all = predicate_entries_counted E f F ps wF wps in
      let es = entries_sound c (predicate_entries f F ps) p1.0 u p1.1 k (all_formed E (predicate_entries f F ps) all) p1.2 in
      let s = sort_sound cert E w inf si D ret p2.0 p1.1 p2.1 (context_extended E c (predicate_entries f F ps) k all) fr p2.2 in
      let e = rules_passed (eliminated B f F p2.0) p2.1 tt v p2.3 in
      record { target = p2.0; entries = es.entries; typed = s.0; may = eliminated_is E f F p2.0 p2.1.account e.0 q e.1; subject = s.1 }

  module _ (cmp : Script) (sc : Shows E cmp) where
    -- terms against a telescope
    pub all_sound : (c : Context) (s : ℕ → Term) (ts As : List Term) (u v : WalkState) → IsCountedContext E c → PutsCounted E s → length ts ≡ length As →
        AllFormed ts → AreCounted E As → (walk_check_all cert E inf cmp c s ts As u).end ≡ Passed tt v → TypesAll guarded E c s ts As × AreCounted E ts
    unfolding walk_check_all
    all_sound c s [] [] u v k ps l f a h = (no_terms, tt)
    all_sound c s [] (A ∷ As) u v k ps l f a h = no_suc (sym l)
    all_sound c s (t ∷ ts) [] u v k ps l f a h = no_suc l
    all_sound c s (t ∷ ts) (A ∷ As) u v k ps l f a h =
        let k2 : Unit {0} → WalkState → Walk (Unit {0}) = λ _ w. walk_check_all cert E inf cmp c (first t s) ts As w in
        let h1 = make_then (substitute s A) u (λ T v. walk_on (walk_check cert E inf cmp c t T v) k2) h in
        let p = on_both (walk_check cert E inf cmp c t (substitute s A) u) k2 tt v h1 in
        let d = check_sound cert E w inf si cmp sc c t (substitute s A) u p.1 k f.0 (formed E (substitute s A) (substituted_counted E s A ps a.0)) p.2 in
        let r = all_sound c (first t s) ts As p.1 v k (first_counted E t s d.1 ps) (omega arith) f.1 a.1 p.3 in
        (term d.0 r.0, (d.1, r.1))

    -- the scrutinee, at the indices that are found
    record IsScrutinee (c : Context) (f : FamilyId) (F : FamilyDecl) (ps : List Term) (t : Term) (is : List Term) : Type 0 where
      typed : Types guarded E c t (apply (Ind f) (ps ++ is))
      long : length is ≡ length F.indices
      all : AreCounted E is
      subject : IsCounted E t

    scrutinee_sound : (c : Context) (f : FamilyId) (F : FamilyDecl) (ps : List Term) (t : Term) (is : List Term) (u v : WalkState) → IsCountedContext E c →
        AreCounted E ps → IsFormed t → (walk_scrutinee cert E inf cmp c f F ps t u).end ≡ Passed is v → IsScrutinee c f F ps t is
    scrutinee_sound c f F ps t is u v k wps ft h =
        let n : ℕ = length F.parameters in
        let k5 : Reduced → Term → WalkState → Walk (List Term) = λ r S z. walk_on (walk_fits cert E inf cmp c r.term S z) (λ _ o. pass (drop n (args r.term)) o) in
        let k4 : Reduced → Unit {0} → WalkState → Walk (List Term) = λ r _ y. walk_on (by_rules (make (apply (Ind f) (ps ++ drop n (args r.term)))) y) (k5 r) in
        let k3 : Reduced → Unit {0} → WalkState → Walk (List Term) = λ r _ x. walk_on (walk_retype cert E inf c r.count r.term x) (k4 r) in
        let k2 : Reduced → WalkState → Walk (List Term) = λ r w. walk_on (walk_found_family f F r.item r.term w) (k3 r) in
        let p1 = on_both (inf c t u) (λ T v. walk_on (reduced cert E (values c) T v) k2) is v h in
        let T : Term = p1.0 in
        let p2 = on_both (reduced cert E (values c) T p1.1) k2 is v p1.3 in
        let r : Reduced = p2.0 in
        let W : Term = r.term in
        let p3 = on_both (walk_found_family f F r.item W p2.1) (k3 r) is v p2.3 in
        let p4 = on_both (walk_retype cert E inf c r.count W p3.1) (k4 r) is v p3.3 in
        let S : Term = apply (Ind f) (ps ++ drop n (args W)) in
        let h5 = make_then S p4.1 (k5 r) p4.3 in
        let p5 = on_both (walk_fits cert E inf cmp c W S p4.1) (λ _ o. pass (drop n (args W)) o) is v h5 in
        let i = si c t T u p1.1 k ft p1.2 in
        let d = reduced_passed E (values c) cert T r p1.1 p2.1 p2.2 in
        let wW : IsCounted E W = steps_counted E w (values_counted E c k) d.steps i.classifier in
        let wis : AreCounted E (drop n (args W)) = dropped_counted E n (args W) (args_counted E W wW) in
        let wS : IsCounted E S = apply_counted E (Ind f) (ps ++ drop n (args W)) (ind_counted E f) (appended_counted E ps (drop n (args W)) wps wis) in
        let tests = both_true (is_the_family f (head W)) (length (args W) == n + length F.indices)
        (tested (is_the_family f (head W) && (length (args W) == n + length F.indices)) (pass tt p2.1) r.item p2.1 tt p3.1 p3.2).0 in
        let at : Types guarded E c t W = retype_sound cert E w inf si c t T W r.count p3.1 p4.1 k wW i.typed (weak_equal d.steps) d.still p4.2 in
        subst (λ is. IsScrutinee c f F ps t is) (passed_value {s = p5.1} {t = v} p5.3)
        (record {
          typed = fits_sound cert E w inf si cmp sc c t W S p4.1 p5.1 k at (formed E S wS) p5.2;
          long = drop_long n (length F.indices) (args W) (eqb-true (length (args W)) (n + length F.indices) tests.1);
          all = wis;
          subject = i.subject;
        })

    -- branches
    branch_sound : (c : Context) (f : FamilyId) (n : ℕ) (C : Constructor) (ps : List Term) (ret body : Term) (u v : WalkState) → IsCountedContext E c →
        AreCounted E C.args × AreCounted E C.result → AreCounted E ps → IsCounted E ret → IsFormed body →
        (walk_branch cert E inf cmp c f n C ps ret body u).end ≡ Passed tt v →
        Entries guarded E c (branch_entries C ps) × (Types guarded E (extend c (branch_entries C ps)) body (branch_type f n C ps ret) × IsCounted E body)
    branch_sound c f n C ps ret body u v k wC wps wr fb h =
        let T : Term = branch_type f n C ps ret in
        let D : Context = extend c (branch_entries C ps) in
        let k3 : Unit {0} → WalkState → Walk (Unit {0}) = λ _ x. walk_check cert E inf cmp D body T x in
        let k2 : List Sort → WalkState → Walk (Unit {0}) = λ _ w. walk_on (by_rules (passing (branch_beyond f n C ps ret)) w) k3 in
        let h1 = pass_then (any_beyond (branch_entries C ps)) u (λ _ v. walk_on (walk_sorts_of cert E inf c (branch_entries C ps) v) k2) h in
        let p1 = on_both (walk_sorts_of cert E inf c (branch_entries C ps) u) k2 tt v h1 in
        let h2 = pass_then (branch_beyond f n C ps ret) p1.1 k3 p1.3 in
        let all = branch_entries_counted E C ps wC.0 wps in
        let es = entries_sound c (branch_entries C ps) p1.0 u p1.1 k (all_formed E (branch_entries C ps) all) p1.2 in
        let d = check_sound cert E w inf si cmp sc D body T p1.1 v (context_extended E c (branch_entries C ps) k all) fb
        (formed E T (branch_type_counted E f n C ps ret wC.1 wps wr)) h2 in
        (es.entries, (d.0, d.1))

    no_name : {A : Type 0} {n : ℕ} {ns : List ℕ} → n ∷ ns ≡ [] → A
    no_name e = absurd (cc)

    branches_sound : (c : Context) (f : FamilyId) (n : ℕ) (Cs : List Constructor) (ps : List Term) (ret : Term) (bs : Terms) (u v : WalkState) → IsCountedContext E c →
        AreCountedConstructors E Cs → AreCounted E ps → IsCounted E ret → EachTerm HasForm bs → binders_of bs ≡ arities Cs →
        (walk_branches cert E inf cmp c f n Cs ps ret (list_of bs) u).end ≡ Passed tt v →
        Branches guarded E c f ps ret n Cs bs × EachTerm (IsCountedNode E) bs
    unfolding walk_branches
    branches_sound c f n [] ps ret Done u v k wCs wps wr fb e h = (no_branches, tt)
    branches_sound c f n [] ps ret (Next m t ts) u v k wCs wps wr fb e h = no_name e
    branches_sound c f n (C ∷ Cs) ps ret Done u v k wCs wps wr fb e h = no_name (sym e)
    branches_sound c f n (C ∷ Cs) ps ret (Next m t ts) u v k wCs wps wr fb e h =
        let p = on_both (walk_branch cert E inf cmp c f n C ps ret t u) (λ _ v. walk_branches cert E inf cmp c f (suc n) Cs ps ret (list_of ts) v) tt v h in
        let b = branch_sound c f n C ps ret t u p.1 k (wCs.0.0, wCs.0.1) wps wr fb.0 p.2 in
        let r = branches_sound c f (suc n) Cs ps ret ts p.1 v k wCs.1 wps wr fb.1 (rest_same e) p.3 in
        (branch (first_same e) b.0 b.1.0 r.0, (b.1.1, r.1))

    pub case_rule_sound : (c : Context) (f : FamilyId) (ps : Terms) (n : ℕ) (ret t : Term) (bs : Terms) (T : Term) (u v : WalkState) → IsCountedContext E c →
        IsFormed (Case f ps n ret t bs) → (walk_case cert E inf cmp c f ps n ret t bs u).end ≡ Passed T v → IsInferred E c (Case f ps n ret t bs) T
    case_rule_sound c f ps n ret t bs T u v k fc h =
        let qs : List Term = list_of ps in
        let B : Option Block = whole_block (kept_at E.declarations f.block) in
        let k6 : List Term → Unit {0} → WalkState → Walk Term = λ is _ o. by_rules (make (predicate_at ret is t)) o in
        let k5 : FamilyDecl → List Term → WalkState → Walk Term = λ F is z. walk_on (walk_branches cert E inf cmp c f 0 F.constructors qs ret (list_of bs) z) (k6 is) in
        let k4 : FamilyDecl → Unit {0} → WalkState → Walk Term = λ F _ y. walk_on (walk_scrutinee cert E inf cmp c f F qs t y) (k5 F) in
        let k3 : FamilyDecl → Unit {0} → WalkState → Walk Term = λ F _ x. walk_on (walk_predicate cert E inf c B f F qs ret x) (k4 F) in
        let k2 : FamilyDecl → Unit {0} → WalkState → Walk Term = λ F _ w. walk_on (walk_check_all cert E inf cmp c Rel qs F.parameters w) (k3 F) in
        let k1 : FamilyDecl → WalkState → Walk Term = λ F v. walk_on (by_rules (match_counted F ps n bs) v) (k2 F) in
        let p1 = on_both (by_rules (find_family f B) u) k1 T v h in
        let F : FamilyDecl = p1.0 in
        let p2 = on_both (by_rules (match_counted F ps n bs) p1.1) (k2 F) T v p1.3 in
        let p3 = on_both (walk_check_all cert E inf cmp c Rel qs F.parameters p2.1) (k3 F) T v p2.3 in
        let p4 = on_both (walk_predicate cert E inf c B f F qs ret p3.1) (k4 F) T v p3.3 in
        let p5 = on_both (walk_scrutinee cert E inf cmp c f F qs t p4.1) (k5 F) T v p4.3 in
        let is : List Term = p5.0 in
        let p6 = on_both (walk_branches cert E inf cmp c f 0 F.constructors qs ret (list_of bs) p5.1) (k6 is) T v p5.3 in
        let r1 = rules_passed (find_family f B) u F p1.1 p1.2 in
        let r2 = rules_passed (match_counted F ps n bs) p1.1 tt p2.1 p2.2 in
        let family : family_of E f ≡ Some F = whole_family E f F u.account r1.0 r1.1 in
        let keeps : KeepsFamily E f F = family_found E f F family in
        let wF : IsCountedFamilyDecl E F = kept_counted E f F w keeps in
        let counts : Counted F ps n bs = match_is_counted F ps n bs p1.1.account r2.0 r2.1 in
        let as' = all_sound c Rel qs F.parameters p2.1 p3.1 k (rel_counted E) (list_long ps ∙ counts.parameters) (formed_list ps fc.1.0) wF.0 p3.2 in
        let pr = predicate_sound c f F qs ret p3.1 p4.1 k family wF as'.1 fc.1.1.0 p4.2 in
        let sr = scrutinee_sound c f F qs t is p4.1 p5.1 k as'.1 fc.1.1.1.0 p5.2 in
        let br = branches_sound c f 0 F.constructors qs ret bs p5.1 p6.1 k wF.2 as'.1 pr.subject fc.1.1.1.1.0 counts.branches p6.2 in
        let typed : Types guarded E c (Case f (terms_of qs) n ret t bs) (predicate_at ret is t) =
        case qs is keeps counts.variables sr.long as'.0 pr.entries pr.typed pr.may sr.typed br.0 in
        subst (λ T. IsInferred E c (Case f ps n ret t bs) T) (made_is (predicate_at ret is t) T p6.1 v p6.3)
        (record {
          typed = subst (λ ps. Types guarded E c (Case f ps n ret t bs) (predicate_at ret is t)) (terms_are ps fc.0.0) typed;
          subject = (
            (fc.0, (F, family, names_long ps ∙ counts.parameters, counts.variables, counts.branches)),
            (terms_counted E ps as'.1, (pr.subject, (sr.subject, (br.1, tt)))),
          );
          classifier = predicate_at_counted E ret is t pr.subject sr.all sr.subject;
        })
