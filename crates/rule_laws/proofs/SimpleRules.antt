-- Rules 1 to 9 and 12 of inference give types.
use Rattle.std.proofs.Common.{◌≡◌, ℕ, ◌≤◌, inl, inr, Bool, true, false, if◌then◌else◌, List, [], ◌∷◌, Option, Some, None, refl, sym, ap, subst, slice_get, nat_le}
use Rattle.std.proofs.lemmas.Bool.{leb-true}
use Rattle.std.proofs.lemmas.List.Elements.{All-nil, All-cons}
use Rattle.universe_levels.specs.declared.level.Level.{Level}
use Rattle.universe_levels.specs.declared.level.LevelExpr.{LevelExpr}
use Rattle.universe_levels.specs.declared.sort.Sort.{Sort}
use Rattle.universe_levels.specs.declared.sort.Sort.TheVariants.{Prop, Of}
use Rattle.universe_levels.specs.Consistency.{IsOver, IsSortOver}
use Rattle.universe_levels.proofs.OverLemmas.{over-super_sort, over-product_sort}
use Rattle.universe_levels.specs.Sorts.{super_sort, product_sort}
use Rattle.trees.proofs.Shape.{each_weaker}
use Rattle.pc_terms.specs.declared.leaf.Name.{Name}
use Rattle.pc_terms.specs.declared.leaf.FamilyId.{FamilyId}
use Rattle.pc_terms.specs.Syntax.{Term, Rel, SortT, Prod, Lambda, LetIn, App, Const, Ind, Construct, put, substitute}
use Rattle.pc_terms.specs.Formed.{HasForm, IsFormed}
use Rattle.calculus_rules.specs.declared.declaration.Constructor.{Constructor}
use Rattle.calculus_rules.specs.declared.declaration.Block.{Block}
use Rattle.calculus_rules.specs.declared.declaration.Kept.{Kept}
use Rattle.calculus_rules.specs.declared.declaration.Kept.TheVariants.{Constant, Heads, Block as Whole}
use Rattle.calculus_rules.specs.declared.entry.Entry.TheVariants.{Assumed, Defined}
use Rattle.pc_rules.specs.declared.meter.Account.{Account}
use Rattle.calculus_rules.specs.Environment.{Env, FamilyDecl, family_at, KeepsConstant, KnowsFamily, KeepsFamily, IsDeclared}
use Rattle.calculus_rules.specs.Context.{Context, values, type_at}
use Rattle.calculus_rules.specs.Instances.{family_type, constructor_type}
use Rattle.calculus_rules.specs.Conversion.{Equal, equal as of_equal}
use Rattle.calculus_rules.specs.Typing.{Mode, guarded, Types, rel, sort, prod, lambda, let_in, app, const, ind, construct, conv as convert}
use Rattle.calculus_rules.specs.Same.{same}
use Rattle.pc_rules.specs.DirectedRun as run
use Rattle.pc_rules.specs.DirectedRun.{Run, done, make, made, bind}
use Rattle.calculus_rules.specs.Lookups.{if_some, kept_at, known_block, whole_block, family_of}
use Rattle.pc_rules.specs.DirectedWeakHead.{whnf}
use Rattle.pc_rules.specs.DirectedComparison.{Comparison}
use Rattle.pc_rules.specs.DirectedTyping.{Typing, conv, sort_found, sort_of, check, retype, rel_rule, first_undeclared, undeclared_in, raises_past, levels_declared, sort_rule, prod_rule, lambda_rule, let_rule, app_found, app_rule, const_rule, family_number, find_family, ind_rule, constructor_number, construct_rule}
use Rattle.pc_rules.specs.WellCounted.{IsCountedNode, IsCounted, HasCountedDeclarations, IsCountedContext}
use Rattle.pc_rules.proofs.SameTrees.{same_is}
use Rattle.pc_rules.proofs.WeakNext.{none_some, kept_is, family_found}
use Rattle.rule_laws.specs.Inference.{IsInferred}
use Rattle.rule_laws.proofs.Runs.{bind_both, if_done, refused_done, done_value}
use Rattle.rule_laws.proofs.Counted.{put_counted, substituted_counted, app_counted}
use Rattle.rule_laws.proofs.KeepCounts.{values_counted, known_counted, kept_counted}
use Rattle.rule_laws.proofs.CountedParts.{prod_counted, sort_counted, ind_counted, construct_counted, family_type_counted, slice_counted, constructor_type_counted, type_counted}
use Rattle.rule_laws.proofs.Comparing.{IsSound, whnf_equal, whnf_counted}

pub formed : (E : Env) (t : Term) → IsCounted E t → IsFormed t
formed E t h = each_weaker (IsCountedNode E) HasForm (λ l gs h. h.0) t h

-- the levels of a sort that has a type are declared
pub sort_declared : {m : Mode} {E : Env} {c : Context} {s : Sort} {T : Term} → Types m E c (SortT s) T → IsDeclared E s
sort_declared (sort h) = h
sort_declared (convert p b k) = sort_declared p

pub declared_over : (E : Env) (s : Sort) → IsDeclared E s → IsSortOver E.levels s
declared_over E Prop h = tt
declared_over E (Of u) h = h.1

-- an inference that has been found sound
abbrev pub Infers : Env → Typing → Type 0
Infers E inf = (c : Context) (t T : Term) (u v : Account) → IsCountedContext E c → IsFormed t → (inf c t u).end ≡ run.Done T v → IsInferred E c t T

declared_from : (o : Option Level) (u v : Account) → (levels_declared o u).end ≡ run.Done tt v → o ≡ None
declared_from None u v h = refl
declared_from (Some l) u v h = absurd (refused_done h)

next_declared : (n : ℕ) (e : LevelExpr) (es : List LevelExpr) (b : Bool) → nat_le e.level.0 n ≡ b → (if b then first_undeclared n es else Some e.level) ≡ None →
    (first_undeclared n es ≡ None → IsOver n es) → IsOver n (e ∷ es)
next_declared n e es true p h rec = All-cons (λ e. e.level.0 ≤ n) e es (leb-true e.level.0 n p) (rec h)
next_declared n e es false p h rec = absurd (none_some (sym h))

first_declared : (n : ℕ) (es : List LevelExpr) → first_undeclared n es ≡ None → IsOver n es
first_declared n [] h = All-nil (λ e. e.level.0 ≤ n)
first_declared n (e ∷ es) h = next_declared n e es (nat_le e.level.0 n) refl h (first_declared n es)

no_cons : {A : Type 0} {x : A} {xs : List A} → x ∷ xs ≡ [] → ⊥
no_cons e = cc

pub levels_are_declared : (E : Env) (s : Sort) (u v : Account) → (levels_declared (undeclared_in E.levels s) u).end ≡ run.Done tt v → IsDeclared E s
levels_are_declared E Prop u v h = tt
levels_are_declared E (Of []) u v h = absurd (none_some (sym (declared_from (undeclared_in E.levels (Of [])) u v h)))
levels_are_declared E (Of (e ∷ es)) u v h = (no_cons, first_declared E.levels (e ∷ es) (declared_from (undeclared_in E.levels (Of (e ∷ es))) u v h))

-- families and constructors that are found

number_is : (B : Block) (f : FamilyId) (o : Option FamilyDecl) (F : FamilyDecl) (u v : Account) → (family_number B f o u).end ≡ run.Done F v → o ≡ Some F
number_is B f None F u v h = absurd (refused_done h)
number_is B f (Some G) F u v h = ap Some (done_value h)

pub known_family : (E : Env) (f : FamilyId) (F : FamilyDecl) (o : Option Kept) (u v : Account) → kept_at E.declarations f.block ≡ o →
    (find_family f (known_block o) u).end ≡ run.Done F v → KnowsFamily E f F
known_family E f F None u v e h = absurd (refused_done h)
known_family E f F (Some (Constant k T b)) u v e h = absurd (refused_done h)
known_family E f F (Some (Heads B)) u v e h = let k = kept_is E.declarations f.block (Heads B) e in (B, inr k.0, k.1, number_is B f (family_at B f.family) F u v h)
known_family E f F (Some (Whole B)) u v e h = let k = kept_is E.declarations f.block (Whole B) e in (B, inl k.0, k.1, number_is B f (family_at B f.family) F u v h)

found_in : (f : FamilyId) (F : FamilyDecl) (o : Option Block) (u v : Account) → (find_family f o u).end ≡ run.Done F v → if_some o (λ B. family_at B f.family) ≡ Some F
found_in f F None u v h = absurd (refused_done h)
found_in f F (Some B) u v h = number_is B f (family_at B f.family) F u v h

-- the family of a whole block
pub whole_family : (E : Env) (f : FamilyId) (F : FamilyDecl) (u v : Account) → (find_family f (whole_block (kept_at E.declarations f.block)) u).end ≡ run.Done F v →
    family_of E f ≡ Some F
whole_family E f F u v h = found_in f F (whole_block (kept_at E.declarations f.block)) u v h

pub constructor_is : (F : FamilyDecl) (n : ℕ) (o : Option Constructor) (C : Constructor) (u v : Account) → (constructor_number F n o u).end ≡ run.Done C v → o ≡ Some C
constructor_is F n None C u v h = absurd (refused_done h)
constructor_is F n (Some D) C u v h = ap Some (done_value h)

module _ (E : Env) (w : HasCountedDeclarations E) (c : Context) (k : IsCountedContext E c) where
  rel_sound : (i : ℕ) (o : Option Term) (T : Term) (u v : Account) → type_at c i ≡ o → (rel_rule c i o u).end ≡ run.Done T v → IsInferred E c (Rel i) T
  rel_sound i None T u v e h = absurd (refused_done h)
  rel_sound i (Some X) T u v e h =
      subst (λ T. IsInferred E c (Rel i) T) (done_value h) (record { typed = rel e; subject = tt; classifier = type_counted E c i X k e })

  pub variable_rule_sound : (i : ℕ) (T : Term) (u v : Account) → (rel_rule c i (type_at c i) u).end ≡ run.Done T v → IsInferred E c (Rel i) T
  variable_rule_sound i T u v h = rel_sound i (type_at c i) T u v refl h

  pub sort_rule_sound : (s : Sort) (T : Term) (u v : Account) → (sort_rule E s u).end ≡ run.Done T v → IsInferred E c (SortT s) T
  sort_rule_sound s T u v h =
      let p = bind_both (levels_declared (undeclared_in E.levels s) u) (λ _ v. made (raises_past s) (SortT (super_sort s)) v) T v h in
      let declared = levels_are_declared E s u p.1 p.2 in
      let over = declared_over E s declared in
      subst (λ T. IsInferred E c (SortT s) T) (done_value p.3)
      (record { typed = sort declared; subject = sort_counted E s over; classifier = sort_counted E (super_sort s) (over-super_sort E.levels s over) })

  const_found : (l : Name) (o : Option Kept) (T : Term) (u v : Account) → kept_at E.declarations l ≡ o → (const_rule l o u).end ≡ run.Done T v → IsInferred E c (Const l) T
  const_found l None T u v e h = absurd (refused_done h)
  const_found l (Some (Heads B)) T u v e h = absurd (refused_done h)
  const_found l (Some (Whole B)) T u v e h = absurd (refused_done h)
  const_found l (Some (Constant m X b)) T u v e h =
      let r = kept_is E.declarations l (Constant m X b) e in
      subst (λ T. IsInferred E c (Const l) T) (done_value h)
      (record { typed = const (subst (λ x. KeepsConstant E x X b) r.1 r.0); subject = (((tt, tt), tt), tt); classifier = (w (Constant m X b) r.0).0 })

  pub const_rule_sound : (l : Name) (T : Term) (u v : Account) → (const_rule l (kept_at E.declarations l) u).end ≡ run.Done T v → IsInferred E c (Const l) T
  const_rule_sound l T u v h = const_found l (kept_at E.declarations l) T u v refl h

  pub ind_rule_sound : (f : FamilyId) (T : Term) (u v : Account) → (ind_rule E f u).end ≡ run.Done T v → IsInferred E c (Ind f) T
  ind_rule_sound f T u v h =
      let p = bind_both (find_family f (known_block (kept_at E.declarations f.block)) u) (λ F v. make (family_type F) v) T v h in
      let knows : KnowsFamily E f p.0 = known_family E f p.0 (kept_at E.declarations f.block) u p.1 refl p.2 in
      subst (λ T. IsInferred E c (Ind f) T) (done_value p.3)
      (record { typed = ind knows; subject = ind_counted E f; classifier = family_type_counted E p.0 (known_counted E f p.0 w knows) })

  pub construct_rule_sound : (f : FamilyId) (n : ℕ) (T : Term) (u v : Account) → (construct_rule E f n u).end ≡ run.Done T v → IsInferred E c (Construct f n) T
  construct_rule_sound f n T u v h =
      let k1 : FamilyDecl → Account → Run Term = λ F v. bind (constructor_number F n (slice_get F.constructors n) v) (λ C w. make (constructor_type f F C) w) in
      let p = bind_both (find_family f (whole_block (kept_at E.declarations f.block)) u) k1 T v h in
      let F : FamilyDecl = p.0 in
      let p2 = bind_both (constructor_number F n (slice_get F.constructors n) p.1) (λ C w. make (constructor_type f F C) w) T v p.3 in
      let C : Constructor = p2.0 in
      let keeps : KeepsFamily E f F = family_found E f F (whole_family E f F u p.1 p.2) in
      let there : slice_get F.constructors n ≡ Some C = constructor_is F n (slice_get F.constructors n) C p.1 p2.1 p2.2 in
      let counted = kept_counted E f F w keeps in
      subst (λ T. IsInferred E c (Construct f n) T) (done_value p2.3)
      (record {
        typed = construct keeps there;
        subject = construct_counted E f n;
        classifier = constructor_type_counted E f F C counted (slice_counted E F.constructors n C counted.2 there);
      })

module _ (E : Env) (w : HasCountedDeclarations E) (inf : Typing) (si : Infers E inf) where
  found_sound : (c : Context) (a T W : Term) (s : Sort) (u v : Account) → IsCountedContext E c → Types guarded E c a T → Equal E (values c) T W →
      (sort_found inf c T W u).end ≡ run.Done s v → Types guarded E c a (SortT s)
  found_sound c a T (SortT r) s u v k t e h =
      let go : Run Sort = bind (conv u) (λ _ v. bind (inf c (SortT r) v) (λ _ w. done r w)) in
      elim (if_done (same T (SortT r)) (done r u) go s v h) [
        | inl p ↦ subst (λ s. Types guarded E c a (SortT s)) (done_value p.1) (subst (λ X. Types guarded E c a X) (same_is T (SortT r) p.0) t)
        | inr p ↦
            let p1 = bind_both (conv u) (λ _ v. bind (inf c (SortT r) v) (λ _ w. done r w)) s v p.1 in
            let p2 = bind_both (inf c (SortT r) p1.1) (λ _ w. done r w) s v p1.3 in
            let i = si c (SortT r) p2.0 p1.1 p2.1 k ((tt, tt), tt) p2.2 in
            subst (λ s. Types guarded E c a (SortT s)) (done_value p2.3) (convert t (of_equal e) (sort (sort_declared i.typed)))
      ]
  found_sound c a T W s u v k t e h = absurd (refused_done h)

  found_over : (c : Context) (T W : Term) (s : Sort) (u v : Account) → IsCounted E W → (sort_found inf c T W u).end ≡ run.Done s v → IsSortOver E.levels s
  found_over c T (SortT r) s u v wW h =
      let go : Run Sort = bind (conv u) (λ _ v. bind (inf c (SortT r) v) (λ _ w. done r w)) in
      elim (if_done (same T (SortT r)) (done r u) go s v h) [
        | inl p ↦ subst (λ s. IsSortOver E.levels s) (done_value p.1) wW.0.1
        | inr p ↦
            let p1 = bind_both (conv u) (λ _ v. bind (inf c (SortT r) v) (λ _ w. done r w)) s v p.1 in
            let p2 = bind_both (inf c (SortT r) p1.1) (λ _ w. done r w) s v p1.3 in
            subst (λ s. IsSortOver E.levels s) (done_value p2.3) wW.0.1
      ]
  found_over c T W s u v wW h = absurd (refused_done h)

  -- a term's sort
  pub sort_sound : (c : Context) (A : Term) (s : Sort) (u v : Account) → IsCountedContext E c → IsFormed A → (sort_of E inf c A u).end ≡ run.Done s v →
      Types guarded E c A (SortT s) × IsCounted E A × IsSortOver E.levels s
  unfolding sort_of
  sort_sound c A s u v k f h =
      let p1 = bind_both (inf c A u) (λ T v. bind (whnf E (values c) T v) (λ W w. sort_found inf c T W w)) s v h in
      let p2 = bind_both (whnf E (values c) p1.0 p1.1) (λ W w. sort_found inf c p1.0 W w) s v p1.3 in
      let i = si c A p1.0 u p1.1 k f p1.2 in (
        found_sound c A p1.0 p2.0 s p2.1 v k i.typed (whnf_equal E (values c) p1.0 p2.0 p1.1 p2.1 p2.2) p2.3,
        i.subject,
        found_over c p1.0 p2.0 s p2.1 v (whnf_counted E w (values c) (values_counted E c k) p1.0 p2.0 p1.1 p2.1 i.classifier p2.2) p2.3,
      )

  pub retype_sound : (c : Context) (t T W : Term) (u v : Account) → IsCountedContext E c → IsCounted E W → Types guarded E c t T → Equal E (values c) T W →
      (retype E inf c T W u).end ≡ run.Done tt v → Types guarded E c t W
  unfolding retype
  retype_sound c t T W u v k wc p e h =
      let go : Run (Unit {0}) = bind (conv u) (λ _ v. bind (sort_of E inf c W v) (λ _ w. done tt w)) in
      elim (if_done (same T W) (done tt u) go tt v h) [
        | inl q ↦ subst (λ X. Types guarded E c t X) (same_is T W q.0) p
        | inr q ↦
            let p1 = bind_both (conv u) (λ _ v. bind (sort_of E inf c W v) (λ _ w. done tt w)) tt v q.1 in
            let p2 = bind_both (sort_of E inf c W p1.1) (λ _ w. done tt w) tt v p1.3 in
            convert p (of_equal e) (sort_sound c W p2.0 p1.1 p2.1 k (formed E W wc) p2.2).0
      ]

  pub prod_rule_sound : (c : Context) (A B T : Term) (u v : Account) → IsCountedContext E c → IsFormed A → IsFormed B → (prod_rule E inf c A B u).end ≡ run.Done T v →
      IsInferred E c (Prod A B) T
  prod_rule_sound c A B T u v k fA fB h =
      let p1 = bind_both (sort_of E inf c A u) (λ s v. bind (sort_of E inf (Assumed A ∷ c) B v) (λ r w. done (SortT (product_sort s r)) w)) T v h in
      let p2 = bind_both (sort_of E inf (Assumed A ∷ c) B p1.1) (λ r w. done (SortT (product_sort p1.0 r)) w) T v p1.3 in
      let a = sort_sound c A p1.0 u p1.1 k fA p1.2 in
      let b = sort_sound (Assumed A ∷ c) B p2.0 p1.1 p2.1 (a.1, k) fB p2.2 in
      subst (λ T. IsInferred E c (Prod A B) T) (done_value p2.3)
      (record { typed = prod a.0 b.0; subject = prod_counted E A B a.1 b.1; classifier = sort_counted E (product_sort p1.0 p2.0) (over-product_sort E.levels p1.0 p2.0 a.2 b.2) })

  pub lambda_rule_sound : (c : Context) (A b T : Term) (u v : Account) → IsCountedContext E c → IsFormed A → IsFormed b → (lambda_rule E inf c A b u).end ≡ run.Done T v →
      IsInferred E c (Lambda A b) T
  lambda_rule_sound c A b T u v k fA fb h =
      let p1 = bind_both (sort_of E inf c A u) (λ _ v. bind (inf (Assumed A ∷ c) b v) (λ B w. make (Prod A B) w)) T v h in
      let p2 = bind_both (inf (Assumed A ∷ c) b p1.1) (λ B w. make (Prod A B) w) T v p1.3 in
      let a = sort_sound c A p1.0 u p1.1 k fA p1.2 in
      let i = si (Assumed A ∷ c) b p2.0 p1.1 p2.1 (a.1, k) fb p2.2 in
      subst (λ T. IsInferred E c (Lambda A b) T) (done_value p2.3)
      (record { typed = lambda a.0 i.typed; subject = (((tt, tt), tt), (a.1, (i.subject, tt))); classifier = prod_counted E A p2.0 a.1 i.classifier })

  module _ (cmp : Comparison) (sc : IsSound E cmp) where
    -- a term against a type
    pub check_sound : (c : Context) (t T : Term) (u v : Account) → IsCountedContext E c → IsFormed t → IsFormed T → (check E inf cmp c t T u).end ≡ run.Done tt v →
        Types guarded E c t T × IsCounted E t
    unfolding check
    check_sound c t T u v k ft fT h =
        let k1 : Term → Account → Run (Unit {0}) = λ S v. if same S T then done tt v else bind (conv v) (λ _ w. bind (sort_of E inf c T w) (λ _ x. cmp c false S T x)) in
        let p1 = bind_both (inf c t u) k1 tt v h in
        let S : Term = p1.0 in
        let i = si c t S u p1.1 k ft p1.2 in
        let go : Run (Unit {0}) = bind (conv p1.1) (λ _ w. bind (sort_of E inf c T w) (λ _ x. cmp c false S T x)) in
        elim (if_done (same S T) (done tt p1.1) go tt v p1.3) [
          | inl p ↦ (subst (λ X. Types guarded E c t X) (same_is S T p.0) i.typed, i.subject)
          | inr p ↦
              let p2 = bind_both (conv p1.1) (λ _ w. bind (sort_of E inf c T w) (λ _ x. cmp c false S T x)) tt v p.1 in
              let p3 = bind_both (sort_of E inf c T p2.1) (λ _ x. cmp c false S T x) tt v p2.3 in
              let s = sort_sound c T p3.0 p2.1 p3.1 k fT p3.2 in
              (convert i.typed (sc c false S T p3.1 v (values_counted E c k) i.classifier s.1 p3.3) s.0, i.subject)
        ]

    pub let_rule_sound : (c : Context) (b B t T : Term) (u v : Account) → IsCountedContext E c → IsFormed b → IsFormed B → IsFormed t →
        (let_rule E inf cmp c b B t u).end ≡ run.Done T v → IsInferred E c (LetIn b B t) T
    let_rule_sound c b B t T u v k fb fB ft h =
        let k2 : Unit {0} → Account → Run Term = λ _ w. bind (inf (Defined b B ∷ c) t w) (λ T x. make (LetIn b B T) x) in
        let p1 = bind_both (sort_of E inf c B u) (λ _ v. bind (check E inf cmp c b B v) k2) T v h in
        let p2 = bind_both (check E inf cmp c b B p1.1) k2 T v p1.3 in
        let p3 = bind_both (inf (Defined b B ∷ c) t p2.1) (λ T x. make (LetIn b B T) x) T v p2.3 in
        let s = sort_sound c B p1.0 u p1.1 k fB p1.2 in
        let d = check_sound c b B p1.1 p2.1 k fb fB p2.2 in
        let i = si (Defined b B ∷ c) t p3.0 p2.1 p3.1 ((d.1, s.1), k) ft p3.2 in
        subst (λ T. IsInferred E c (LetIn b B t) T) (done_value p3.3)
        (record {
          typed = let_in s.0 d.0 i.typed;
          subject = (((tt, tt), tt), (d.1, (s.1, (i.subject, tt))));
          classifier = (((tt, tt), tt), (d.1, (s.1, (i.classifier, tt))));
        })

    app_found_sound : (c : Context) (f a T0 W T : Term) (u v : Account) → IsCountedContext E c → IsCounted E f → IsFormed a → IsCounted E W →
        Types guarded E c f T0 → Equal E (values c) T0 W → (app_found E inf cmp c a T0 W u).end ≡ run.Done T v → IsInferred E c (App f a) T
    app_found_sound c f a T0 (Prod A B) T u v k wf fa wW p e h =
        let k1 : Unit {0} → Account → Run Term = λ _ v. bind (check E inf cmp c a A v) (λ _ w. make (substitute (put a) B) w) in
        let p1 = bind_both (retype E inf c T0 (Prod A B) u) k1 T v h in
        let p2 = bind_both (check E inf cmp c a A p1.1) (λ _ w. make (substitute (put a) B) w) T v p1.3 in
        let r = retype_sound c f T0 (Prod A B) u p1.1 k wW p e p1.2 in
        let d = check_sound c a A p1.1 p2.1 k fa (formed E A wW.1.0) p2.2 in
        subst (λ T. IsInferred E c (App f a) T) (done_value p2.3)
        (record {
          typed = app r d.0;
          subject = app_counted E f a wf d.1;
          classifier = substituted_counted E (put a) B (put_counted E a d.1) wW.1.1.0;
        })
    app_found_sound c f a T0 W T u v k wf fa wW p e h = absurd (refused_done h)

    pub app_rule_sound : (c : Context) (f a T : Term) (u v : Account) → IsCountedContext E c → IsFormed f → IsFormed a → (app_rule E inf cmp c f a u).end ≡ run.Done T v →
        IsInferred E c (App f a) T
    app_rule_sound c f a T u v k ff fa h =
        let p1 = bind_both (inf c f u) (λ T v. bind (whnf E (values c) T v) (λ W w. app_found E inf cmp c a T W w)) T v h in
        let p2 = bind_both (whnf E (values c) p1.0 p1.1) (λ W w. app_found E inf cmp c a p1.0 W w) T v p1.3 in
        let i = si c f p1.0 u p1.1 k ff p1.2 in
        app_found_sound c f a p1.0 p2.0 T p2.1 v k i.subject fa
        (whnf_counted E w (values c) (values_counted E c k) p1.0 p2.0 p1.1 p2.1 i.classifier p2.2) i.typed
        (whnf_equal E (values c) p1.0 p2.0 p1.1 p2.1 p2.2) p2.3
