-- Rule 10 of inference, of matches, gives types.
use Rattle.std.proofs.Common.{◌≡◌, ℕ, zero, suc, ◌+◌, ◌==◌, ◌&&◌, ◌⊎◌, inl, inr, true, false, List, [], ◌∷◌, ◌++◌, length, drop, Option, Some, None, refl, sym, ap, ◌∙◌, subst, arith}
use Rattle.std.proofs.lemmas.Bool.{eqb-true}
use Rattle.universe_levels.specs.declared.level.LevelExpr.{LevelExpr}
use Rattle.universe_levels.specs.declared.sort.Sort.{Sort}
use Rattle.universe_levels.specs.declared.sort.Sort.TheVariants.{Prop, Of}
use Rattle.pc_terms.specs.declared.leaf.FamilyId.{FamilyId}
use Rattle.pc_terms.specs.Syntax.{Term, Terms, Done, Next, Rel, SortT, Ind, Case, first, substitute, apply, head, args, number, terms_of, list_of}
use Rattle.pc_terms.specs.Formed.{binders_of, EachTerm, AreAll, HasForm, IsFormed}
use Rattle.calculus_rules.specs.declared.declaration.Constructor.{Constructor}
use Rattle.calculus_rules.specs.declared.declaration.Family.{Family}
use Rattle.calculus_rules.specs.declared.declaration.Block.{Block}
use Rattle.calculus_rules.specs.declared.declaration.Kept.{Kept}
use Rattle.calculus_rules.specs.declared.declaration.Kept.TheVariants.{Constant, Heads, Block as Whole}
use Rattle.calculus_rules.specs.declared.entry.Entry.TheVariants.{Assumed}
use Rattle.pc_rules.specs.declared.broken.Broken.TheVariants.{CountWrong, ElimNotAllowed, NotTheFamily}
use Rattle.pc_rules.specs.declared.meter.Account.{Account}
use Rattle.calculus_rules.specs.Environment.{Env, FamilyDecl, family_at, KeepsFamily}
use Rattle.calculus_rules.specs.Context.{Context, values, extend}
use Rattle.calculus_rules.specs.Instances.{predicate_entries, branch_entries, predicate_at, branch_type}
use Rattle.calculus_rules.specs.Elimination.{AllProp, IsSingle, MayEliminate}
use Rattle.calculus_rules.specs.Typing.{guarded, Types, case, conv as convert, TypesAll, no_terms, term, Entries, no_entries, entry, Branches, no_branches, branch, EntrySorts, no_sorts, a_sort}
use Rattle.calculus_rules.specs.Same.{same}
use Rattle.pc_rules.specs.DirectedRun as run
use Rattle.pc_rules.specs.DirectedRun.{Run, done, make, passing, any_beyond, bind}
use Rattle.calculus_rules.specs.Lookups.{if_some, kept_at, whole_block, family_of}
use Rattle.pc_rules.specs.DirectedWeakHead.{whnf}
use Rattle.pc_rules.specs.DirectedComparison.{Comparison}
use Rattle.pc_rules.specs.DirectedTyping.{Typing, conv, sort_of, check, retype, find_family, counted, names_counted, match_counted, check_all, sorts_of, all_prop, few_constructors, is_single, may_eliminate, eliminated, is_the_family, found_family, scrutinee_fits, scrutinee_rule, branch_beyond, branch_rule, branches_rule, predicate_rule, case_rule}
use Rattle.pc_rules.specs.WellCounted.{IsCountedNode, arities, IsCounted, AreCounted, AreCountedConstructors, HasCountedDeclarations, IsCountedContext}
use Rattle.pc_rules.proofs.WeakNext.{kept_is, same_families_is, family_found, drop_long, both_true}
use Rattle.pc_rules.proofs.SameTrees.{same_is, false_true}
use Rattle.rule_laws.specs.Inference.{IsInferred, AllFormed}
use Rattle.rule_laws.proofs.Runs.{bind_both, if_done, tested, done_value, make_then, pass_then}
use Rattle.rule_laws.proofs.Counted.{PutsCounted, rel_counted, first_counted, substituted_counted, apply_counted, appended_counted, args_counted, terms_counted}
use Rattle.rule_laws.proofs.KeepCounts.{IsCountedFamilyDecl, values_counted, kept_counted}
use Rattle.rule_laws.proofs.CountedParts.{ind_counted, predicate_entries_counted, branch_entries_counted, predicate_at_counted, branch_type_counted, context_extended}
use Rattle.calculus_rules.proofs.Listing.{first_same, rest_same}
use Rattle.rule_laws.proofs.Comparing.{IsSound, names_long, list_long, whnf_equal, whnf_counted, no_suc}
use Rattle.rule_laws.proofs.SimpleRules.{Infers, formed, whole_family, sort_sound, retype_sound, check_sound}

pub all_formed : (E : Env) (ts : List Term) → AreCounted E ts → AllFormed ts
all_formed E [] h = tt
all_formed E (t ∷ ts) h = (formed E t h.0, all_formed E ts h.1)

pub formed_list : (ts : Terms) → EachTerm HasForm ts → AllFormed (list_of ts)
formed_list Done h = tt
formed_list (Next n t ts) h = (h.0, formed_list ts h.1)

-- terms under no variable are a list
pub terms_are : (ts : Terms) → AreAll 0 (binders_of ts) → terms_of (list_of ts) ≡ ts
terms_are Done h = refl
terms_are (Next n t ts) h = λ i. Next (sym h.0 i) t (terms_are ts h.1 i)

-- counts

pub count_is : (want got : ℕ) (u v : Account) → (counted want got u).end ≡ run.Done tt v → want ≡ got
count_is want got u v h = eqb-true want got (tested (want == got) (done tt u) (CountWrong want got) u tt v h).0

names_are : (Cs : List Constructor) (ns : List ℕ) (u v : Account) → length Cs ≡ length ns → (names_counted Cs ns u).end ≡ run.Done tt v → ns ≡ arities Cs
names_are [] [] u v l h = refl
names_are [] (n ∷ ns) u v l h = no_suc (sym l)
names_are (C ∷ Cs) [] u v l h = no_suc l
names_are (C ∷ Cs) (n ∷ ns) u v l h =
    let p = bind_both (counted (length C.args) n u) (λ _ v. names_counted Cs ns v) tt v h in
    λ i. sym (count_is (length C.args) n u p.1 p.2) i ∷ names_are Cs ns p.1 v (omega arith) p.3 i

-- the counts of a match
pub record Counted (F : FamilyDecl) (ps : Terms) (n : ℕ) (bs : Terms) : Type 0 where
  pub parameters : number ps ≡ length F.parameters
  pub variables : n ≡ suc (length F.indices)
  pub branches : binders_of bs ≡ arities F.constructors

pub match_is_counted : (F : FamilyDecl) (ps : Terms) (n : ℕ) (bs : Terms) (u v : Account) → (match_counted F ps n bs u).end ≡ run.Done tt v → Counted F ps n bs
match_is_counted F ps n bs u v h =
    let k3 : Unit {0} → Account → Run (Unit {0}) = λ _ x. names_counted F.constructors (binders_of bs) x in
    let k2 : Unit {0} → Account → Run (Unit {0}) = λ _ w. bind (counted (length F.constructors) (number bs) w) k3 in
    let k1 : Unit {0} → Account → Run (Unit {0}) = λ _ v. bind (counted (length F.indices + 1) n v) k2 in
    let p1 = bind_both (counted (length F.parameters) (number ps) u) k1 tt v h in
    let p2 = bind_both (counted (length F.indices + 1) n p1.1) k2 tt v p1.3 in
    let p3 = bind_both (counted (length F.constructors) (number bs) p2.1) k3 tt v p2.3 in
    let indices : length F.indices + 1 ≡ n = count_is (length F.indices + 1) n p1.1 p2.1 p2.2 in
    let branches : length F.constructors ≡ number bs = count_is (length F.constructors) (number bs) p2.1 p3.1 p3.2 in
    record {
      parameters = sym (count_is (length F.parameters) (number ps) u p1.1 p1.2);
      variables = omega arith;
      branches = names_are F.constructors (binders_of bs) p3.1 v (branches ∙ sym (names_long bs)) p3.3;
    }

-- elimination

all_prop_is : (ss : List Sort) → all_prop ss ≡ true → AllProp ss
all_prop_is [] h = tt
all_prop_is (Prop ∷ ss) h = (refl, all_prop_is ss h)
all_prop_is (Of u ∷ ss) h = false_true h

few_are : (Cs : List Constructor) → few_constructors Cs ≡ true → (Cs ≡ []) ⊎ ((C : Constructor) × (Cs ≡ C ∷ []) × AllProp C.arg_sorts)
few_are [] h = inl refl
few_are (C ∷ []) h = inr (C, refl, all_prop_is C.arg_sorts h)
few_are (C ∷ D ∷ Cs) h = false_true h

one_family : (Fs : List Family) → (length Fs == 1) ≡ true → (G : Family) × (Fs ≡ G ∷ [])
one_family [] h = false_true h
one_family (G ∷ []) h = (G, refl)
one_family (G ∷ H ∷ Fs) h = let e : suc (suc (length Fs)) ≡ 1 = eqb-true (suc (suc (length Fs))) 1 h in absurd (omega arith)

single_is : (E : Env) (f : FamilyId) (F : FamilyDecl) (o : Option Kept) → kept_at E.declarations f.block ≡ o →
    if_some (whole_block o) (λ B. family_at B f.family) ≡ Some F → is_single (whole_block o) F ≡ true → IsSingle E f F
single_is E f F None e q h = false_true h
single_is E f F (Some (Constant k T b)) e q h = false_true h
single_is E f F (Some (Heads B)) e q h = false_true h
single_is E f F (Some (Whole B)) e q h =
    let k = kept_is E.declarations f.block (Whole B) e in
    let t = both_true (length B.families == 1) (few_constructors F.constructors) h in
    ((B, k.0, k.1, q, one_family B.families t.0), few_are F.constructors t.1)

of_not_prop : {A : Type 0} {r : Sort} {u : List LevelExpr} → r ≡ Of u → r ≡ Prop → A
of_not_prop e p = absurd (cc)

elimination_is : (E : Env) (f : FamilyId) (F : FamilyDecl) (r s : Sort) → F.sort ≡ r → family_of E f ≡ Some F →
    may_eliminate (whole_block (kept_at E.declarations f.block)) F r s ≡ true → MayEliminate E f F s
elimination_is E f F (Of u) s e q h = inl (λ p. of_not_prop e p)
elimination_is E f F Prop Prop e q h = inr (inl refl)
elimination_is E f F Prop (Of x) e q h = inr (inr (single_is E f F (kept_at E.declarations f.block) refl q h))

pub eliminated_is : (E : Env) (f : FamilyId) (F : FamilyDecl) (s : Sort) (u v : Account) → family_of E f ≡ Some F →
    (eliminated (whole_block (kept_at E.declarations f.block)) f F s u).end ≡ run.Done tt v → MayEliminate E f F s
eliminated_is E f F s u v q h =
    elimination_is E f F F.sort s refl q (tested (may_eliminate (whole_block (kept_at E.declarations f.block)) F F.sort s) (done tt u) (ElimNotAllowed f) u tt v h).0

-- the family of a scrutinee

pub the_family : (f : FamilyId) (t : Term) → is_the_family f t ≡ true → t ≡ Ind f
the_family f (Ind g) h = ap (λ x. Ind x) (sym (same_families_is f g h))
the_family f t h = false_true h

pub dropped_counted : (E : Env) (n : ℕ) (xs : List Term) → AreCounted E xs → AreCounted E (drop n xs)
dropped_counted E zero xs h = h
dropped_counted E (suc n) [] h = tt
dropped_counted E (suc n) (x ∷ xs) h = dropped_counted E n xs h.1

module _ (E : Env) (w : HasCountedDeclarations E) (inf : Typing) (si : Infers E inf) where
  -- telescopes
  pub record AreEntries (c : Context) (As : List Term) (ss : List Sort) : Type 0 where
    pub entries : Entries guarded E c As
    pub sorts : EntrySorts guarded E c As ss
    pub all : AreCounted E As

  pub entries_sound : (c : Context) (As : List Term) (ss : List Sort) (u v : Account) → IsCountedContext E c → AllFormed As →
      (sorts_of E inf c As u).end ≡ run.Done ss v → AreEntries c As ss
  unfolding sorts_of
  entries_sound c [] ss u v k f h =
      subst (λ ss. AreEntries c [] ss) (done_value h) (record { entries = no_entries; sorts = no_sorts; all = tt })
  entries_sound c (A ∷ As) ss u v k f h =
      let p1 = bind_both (sort_of E inf c A u) (λ s v. bind (sorts_of E inf (Assumed A ∷ c) As v) (λ ss w. done (s ∷ ss) w)) ss v h in
      let p2 = bind_both (sorts_of E inf (Assumed A ∷ c) As p1.1) (λ ss w. done (p1.0 ∷ ss) w) ss v p1.3 in
      let a = sort_sound E w inf si c A p1.0 u p1.1 k f.0 p1.2 in
      let r = entries_sound (Assumed A ∷ c) As p2.0 p1.1 p2.1 (a.1, k) f.1 p2.2 in
      subst (λ ss. AreEntries c (A ∷ As) ss) (done_value p2.3)
      (record { entries = entry a.0 r.entries; sorts = a_sort a.0 r.sorts; all = (a.1, r.all) })

  -- a match's predicate
  pub record IsPredicate (c : Context) (f : FamilyId) (F : FamilyDecl) (ps : List Term) (ret : Term) : Type 0 where
    pub target : Sort
    pub entries : Entries guarded E c (predicate_entries f F ps)
    pub typed : Types guarded E (extend c (predicate_entries f F ps)) ret (SortT target)
    pub may : MayEliminate E f F target
    pub subject : IsCounted E ret

  predicate_sound : (c : Context) (f : FamilyId) (F : FamilyDecl) (ps : List Term) (ret : Term) (u v : Account) → IsCountedContext E c →
      family_of E f ≡ Some F → IsCountedFamilyDecl E F → AreCounted E ps → IsFormed ret →
      (predicate_rule E inf c (whole_block (kept_at E.declarations f.block)) f F ps ret u).end ≡ run.Done tt v → IsPredicate c f F ps ret
  predicate_sound c f F ps ret u v k q wF wps fr h =
      let B : Option Block = whole_block (kept_at E.declarations f.block) in
      let D : Context = extend c (predicate_entries f F ps) in
      let k2 : List Sort → Account → Run (Unit {0}) = λ _ w. bind (sort_of E inf D ret w) (λ s x. eliminated B f F s x) in
      let h1 = pass_then (any_beyond (predicate_entries f F ps)) u (λ _ v. bind (sorts_of E inf c (predicate_entries f F ps) v) k2) h in
      let p1 = bind_both (sorts_of E inf c (predicate_entries f F ps) u) k2 tt v h1 in
      let p2 = bind_both (sort_of E inf D ret p1.1) (λ s x. eliminated B f F s x) tt v p1.3 in
      let all = predicate_entries_counted E f F ps wF wps in
      let es = entries_sound c (predicate_entries f F ps) p1.0 u p1.1 k (all_formed E (predicate_entries f F ps) all) p1.2 in
      let s = sort_sound E w inf si D ret p2.0 p1.1 p2.1 (context_extended E c (predicate_entries f F ps) k all) fr p2.2 in
      record { target = p2.0; entries = es.entries; typed = s.0; may = eliminated_is E f F p2.0 p2.1 v q p2.3; subject = s.1 }

  module _ (cmp : Comparison) (sc : IsSound E cmp) where
    -- terms against a telescope
    pub all_sound : (c : Context) (s : ℕ → Term) (ts As : List Term) (u v : Account) → IsCountedContext E c → PutsCounted E s → length ts ≡ length As →
        AllFormed ts → AreCounted E As → (check_all E inf cmp c s ts As u).end ≡ run.Done tt v → TypesAll guarded E c s ts As × AreCounted E ts
    unfolding check_all
    all_sound c s [] [] u v k ps l f a h = (no_terms, tt)
    all_sound c s [] (A ∷ As) u v k ps l f a h = no_suc (sym l)
    all_sound c s (t ∷ ts) [] u v k ps l f a h = no_suc l
    all_sound c s (t ∷ ts) (A ∷ As) u v k ps l f a h =
        let h1 = make_then (substitute s A) u (λ T v. bind (check E inf cmp c t T v) (λ _ w. check_all E inf cmp c (first t s) ts As w)) h in
        let p = bind_both (check E inf cmp c t (substitute s A) u) (λ _ w. check_all E inf cmp c (first t s) ts As w) tt v h1 in
        let d = check_sound E w inf si cmp sc c t (substitute s A) u p.1 k f.0 (formed E (substitute s A) (substituted_counted E s A ps a.0)) p.2 in
        let r = all_sound c (first t s) ts As p.1 v k (first_counted E t s d.1 ps) (omega arith) f.1 a.1 p.3 in
        (term d.0 r.0, (d.1, r.1))

    -- the scrutinee, at the indices that are found
    pub record IsScrutinee (c : Context) (f : FamilyId) (F : FamilyDecl) (ps : List Term) (t : Term) (is : List Term) : Type 0 where
      pub typed : Types guarded E c t (apply (Ind f) (ps ++ is))
      pub long : length is ≡ length F.indices
      pub all : AreCounted E is
      pub subject : IsCounted E t

    fits_sound : (c : Context) (t W T : Term) (u v : Account) → IsCountedContext E c → IsCounted E W → IsCounted E T → Types guarded E c t W →
        (scrutinee_fits E inf cmp c W T u).end ≡ run.Done tt v → Types guarded E c t T
    fits_sound c t W T u v k wW wT p h =
        let go : Run (Unit {0}) = bind (conv u) (λ _ v. bind (sort_of E inf c T v) (λ _ w. cmp c false W T w)) in
        elim (if_done (same T W) (done tt u) go tt v h) [
          | inl q ↦ subst (λ X. Types guarded E c t X) (sym (same_is T W q.0)) p
          | inr q ↦
              let p1 = bind_both (conv u) (λ _ v. bind (sort_of E inf c T v) (λ _ w. cmp c false W T w)) tt v q.1 in
              let p2 = bind_both (sort_of E inf c T p1.1) (λ _ w. cmp c false W T w) tt v p1.3 in
              convert p (sc c false W T p2.1 v (values_counted E c k) wW wT p2.3) (sort_sound E w inf si c T p2.0 p1.1 p2.1 k (formed E T wT) p2.2).0
        ]

    scrutinee_sound : (c : Context) (f : FamilyId) (F : FamilyDecl) (ps : List Term) (t : Term) (is : List Term) (u v : Account) → IsCountedContext E c →
        AreCounted E ps → IsFormed t → (scrutinee_rule E inf cmp c f F ps t u).end ≡ run.Done is v → IsScrutinee c f F ps t is
    scrutinee_sound c f F ps t is u v k wps ft h =
        let n : ℕ = length F.parameters in
        let k5 : Term → Term → Account → Run (List Term) = λ W S z. bind (scrutinee_fits E inf cmp c W S z) (λ _ r. done (drop n (args W)) r) in
        let k4 : Term → Unit {0} → Account → Run (List Term) = λ W _ y. bind (make (apply (Ind f) (ps ++ drop n (args W))) y) (k5 W) in
        let k3 : Term → Term → Unit {0} → Account → Run (List Term) = λ T W _ x. bind (retype E inf c T W x) (k4 W) in
        let k2 : Term → Term → Account → Run (List Term) = λ T W w. bind (found_family f F W w) (k3 T W) in
        let p1 = bind_both (inf c t u) (λ T v. bind (whnf E (values c) T v) (k2 T)) is v h in
        let T : Term = p1.0 in
        let p2 = bind_both (whnf E (values c) T p1.1) (k2 T) is v p1.3 in
        let W : Term = p2.0 in
        let p3 = bind_both (found_family f F W p2.1) (k3 T W) is v p2.3 in
        let p4 = bind_both (retype E inf c T W p3.1) (k4 W) is v p3.3 in
        let S : Term = apply (Ind f) (ps ++ drop n (args W)) in
        let h5 = make_then S p4.1 (k5 W) p4.3 in
        let p5 = bind_both (scrutinee_fits E inf cmp c W S p4.1) (λ _ r. done (drop n (args W)) r) is v h5 in
        let i = si c t T u p1.1 k ft p1.2 in
        let wW : IsCounted E W = whnf_counted E w (values c) (values_counted E c k) T W p1.1 p2.1 i.classifier p2.2 in
        let wis : AreCounted E (drop n (args W)) = dropped_counted E n (args W) (args_counted E W wW) in
        let wS : IsCounted E S = apply_counted E (Ind f) (ps ++ drop n (args W)) (ind_counted E f) (appended_counted E ps (drop n (args W)) wps wis) in
        let tests = both_true (is_the_family f (head W)) (length (args W) == n + length F.indices)
        (tested (is_the_family f (head W) && (length (args W) == n + length F.indices)) (done tt p2.1) (NotTheFamily W) p2.1 tt p3.1 p3.2).0 in
        let at : Types guarded E c t W = retype_sound E w inf si c t T W p3.1 p4.1 k wW i.typed (whnf_equal E (values c) T W p1.1 p2.1 p2.2) p4.2 in
        subst (λ is. IsScrutinee c f F ps t is) (done_value p5.3)
        (record {
          typed = fits_sound c t W S p4.1 p5.1 k wW wS at p5.2;
          long = drop_long n (length F.indices) (args W) (eqb-true (length (args W)) (n + length F.indices) tests.1);
          all = wis;
          subject = i.subject;
        })

    -- branches
    branch_sound : (c : Context) (f : FamilyId) (n : ℕ) (C : Constructor) (ps : List Term) (ret body : Term) (u v : Account) → IsCountedContext E c →
        AreCounted E C.args × AreCounted E C.result → AreCounted E ps → IsCounted E ret → IsFormed body →
        (branch_rule E inf cmp c f n C ps ret body u).end ≡ run.Done tt v →
        Entries guarded E c (branch_entries C ps) × (Types guarded E (extend c (branch_entries C ps)) body (branch_type f n C ps ret) × IsCounted E body)
    branch_sound c f n C ps ret body u v k wC wps wr fb h =
        let T : Term = branch_type f n C ps ret in
        let D : Context = extend c (branch_entries C ps) in
        let k3 : Unit {0} → Account → Run (Unit {0}) = λ _ x. check E inf cmp D body T x in
        let k2 : List Sort → Account → Run (Unit {0}) = λ _ w. bind (passing (branch_beyond f n C ps ret) w) k3 in
        let h1 = pass_then (any_beyond (branch_entries C ps)) u (λ _ v. bind (sorts_of E inf c (branch_entries C ps) v) k2) h in
        let p1 = bind_both (sorts_of E inf c (branch_entries C ps) u) k2 tt v h1 in
        let h2 = pass_then (branch_beyond f n C ps ret) p1.1 k3 p1.3 in
        let all = branch_entries_counted E C ps wC.0 wps in
        let es = entries_sound c (branch_entries C ps) p1.0 u p1.1 k (all_formed E (branch_entries C ps) all) p1.2 in
        let d = check_sound E w inf si cmp sc D body T p1.1 v (context_extended E c (branch_entries C ps) k all) fb
        (formed E T (branch_type_counted E f n C ps ret wC.1 wps wr)) h2 in
        (es.entries, (d.0, d.1))

    no_name : {A : Type 0} {n : ℕ} {ns : List ℕ} → n ∷ ns ≡ [] → A
    no_name e = absurd (cc)

    branches_sound : (c : Context) (f : FamilyId) (n : ℕ) (Cs : List Constructor) (ps : List Term) (ret : Term) (bs : Terms) (u v : Account) → IsCountedContext E c →
        AreCountedConstructors E Cs → AreCounted E ps → IsCounted E ret → EachTerm HasForm bs → binders_of bs ≡ arities Cs →
        (branches_rule E inf cmp c f n Cs ps ret (list_of bs) u).end ≡ run.Done tt v →
        Branches guarded E c f ps ret n Cs bs × EachTerm (IsCountedNode E) bs
    unfolding branches_rule
    branches_sound c f n [] ps ret Done u v k wCs wps wr fb e h = (no_branches, tt)
    branches_sound c f n [] ps ret (Next m t ts) u v k wCs wps wr fb e h = no_name e
    branches_sound c f n (C ∷ Cs) ps ret Done u v k wCs wps wr fb e h = no_name (sym e)
    branches_sound c f n (C ∷ Cs) ps ret (Next m t ts) u v k wCs wps wr fb e h =
        let p = bind_both (branch_rule E inf cmp c f n C ps ret t u) (λ _ v. branches_rule E inf cmp c f (suc n) Cs ps ret (list_of ts) v) tt v h in
        let b = branch_sound c f n C ps ret t u p.1 k (wCs.0.0, wCs.0.1) wps wr fb.0 p.2 in
        let r = branches_sound c f (suc n) Cs ps ret ts p.1 v k wCs.1 wps wr fb.1 (rest_same e) p.3 in
        (branch (first_same e) b.0 b.1.0 r.0, (b.1.1, r.1))

    pub case_rule_sound : (c : Context) (f : FamilyId) (ps : Terms) (n : ℕ) (ret t : Term) (bs : Terms) (T : Term) (u v : Account) → IsCountedContext E c →
        IsFormed (Case f ps n ret t bs) → (case_rule E inf cmp c f ps n ret t bs u).end ≡ run.Done T v → IsInferred E c (Case f ps n ret t bs) T
    case_rule_sound c f ps n ret t bs T u v k fc h =
        let qs : List Term = list_of ps in
        let B : Option Block = whole_block (kept_at E.declarations f.block) in
        let k6 : List Term → Unit {0} → Account → Run Term = λ is _ r. make (predicate_at ret is t) r in
        let k5 : FamilyDecl → List Term → Account → Run Term = λ F is z. bind (branches_rule E inf cmp c f 0 F.constructors qs ret (list_of bs) z) (k6 is) in
        let k4 : FamilyDecl → Unit {0} → Account → Run Term = λ F _ y. bind (scrutinee_rule E inf cmp c f F qs t y) (k5 F) in
        let k3 : FamilyDecl → Unit {0} → Account → Run Term = λ F _ x. bind (predicate_rule E inf c B f F qs ret x) (k4 F) in
        let k2 : FamilyDecl → Unit {0} → Account → Run Term = λ F _ w. bind (check_all E inf cmp c Rel qs F.parameters w) (k3 F) in
        let k1 : FamilyDecl → Account → Run Term = λ F v. bind (match_counted F ps n bs v) (k2 F) in
        let p1 = bind_both (find_family f B u) k1 T v h in
        let F : FamilyDecl = p1.0 in
        let p2 = bind_both (match_counted F ps n bs p1.1) (k2 F) T v p1.3 in
        let p3 = bind_both (check_all E inf cmp c Rel qs F.parameters p2.1) (k3 F) T v p2.3 in
        let p4 = bind_both (predicate_rule E inf c B f F qs ret p3.1) (k4 F) T v p3.3 in
        let p5 = bind_both (scrutinee_rule E inf cmp c f F qs t p4.1) (k5 F) T v p4.3 in
        let is : List Term = p5.0 in
        let p6 = bind_both (branches_rule E inf cmp c f 0 F.constructors qs ret (list_of bs) p5.1) (k6 is) T v p5.3 in
        let family : family_of E f ≡ Some F = whole_family E f F u p1.1 p1.2 in
        let keeps : KeepsFamily E f F = family_found E f F family in
        let wF : IsCountedFamilyDecl E F = kept_counted E f F w keeps in
        let counts : Counted F ps n bs = match_is_counted F ps n bs p1.1 p2.1 p2.2 in
        let as' = all_sound c Rel qs F.parameters p2.1 p3.1 k (rel_counted E) (list_long ps ∙ counts.parameters) (formed_list ps fc.1.0) wF.0 p3.2 in
        let pr = predicate_sound c f F qs ret p3.1 p4.1 k family wF as'.1 fc.1.1.0 p4.2 in
        let sr = scrutinee_sound c f F qs t is p4.1 p5.1 k as'.1 fc.1.1.1.0 p5.2 in
        let br = branches_sound c f 0 F.constructors qs ret bs p5.1 p6.1 k wF.2 as'.1 pr.subject fc.1.1.1.1.0 counts.branches p6.2 in
        let typed : Types guarded E c (Case f (terms_of qs) n ret t bs) (predicate_at ret is t) =
        case qs is keeps counts.variables sr.long as'.0 pr.entries pr.typed pr.may sr.typed br.0 in
        subst (λ T. IsInferred E c (Case f ps n ret t bs) T) (done_value p6.3)
        (record {
          typed = subst (λ ps. Types guarded E c (Case f ps n ret t bs) (predicate_at ret is t)) (terms_are ps fc.0.0) typed;
          subject = (
            (fc.0, (F, family, names_long ps ∙ counts.parameters, counts.variables, counts.branches)),
            (terms_counted E ps as'.1, (pr.subject, (sr.subject, (br.1, tt)))),
          );
          classifier = predicate_at_counted E ret is t pr.subject sr.all sr.subject;
        })
