-- What the test of positivity lets pass is positive.
use Rattle.std.proofs.Common.{◌≡◌, ℕ, zero, suc, ◌+◌, ◌<◌, ◌≤◌, ◌==◌, not, ◌⊎◌, inl, inr, Bool, true, false, if◌then◌else◌, nat_lt, nat_le, List, [], ◌∷◌, ◌++◌, length, take, drop, Option, Some, None, refl, sym, ap, ◌∙◌, subst, arith}
use Rattle.std.proofs.lemmas.Bool.{true≢false, eq-eqb, not-true, ltb-true, leb-true, eqb-true, or_from}
use Rattle.pc_terms.specs.declared.leaf.Name.{Name}
use Rattle.pc_terms.specs.declared.leaf.FamilyId.{FamilyId}
use Rattle.pc_terms.specs.Syntax.{Term, Rel, SortT, Prod, Lambda, LetIn, App, Const, Ind, Construct, Case, Fix, apply, head, args}
use Rattle.calculus_rules.specs.declared.declaration.Constructor.{Constructor}
use Rattle.calculus_rules.specs.declared.declaration.Family.{Family}
use Rattle.calculus_rules.specs.declared.declaration.Block.{Block}
use Rattle.calculus_rules.specs.declared.declaration.Kept.TheVariants.{Block as Whole}
use Rattle.calculus_rules.specs.declared.target.Target.{Target}
use Rattle.calculus_rules.specs.declared.target.Target.TheVariants.{Families, Parameter}
use Rattle.pc_rules.specs.declared.meter.Account.{Account}
use Rattle.calculus_rules.specs.Environment.{Env, Has}
use Rattle.calculus_rules.specs.Same.{same_names}
use Rattle.calculus_rules.specs.Naming.{names, some_names}
use Rattle.calculus_rules.specs.Positivity.{parameter_target, block_of, parameters_under, types_name, IsGood, names_none, product, recursive, parameter, uniform, nested, AreNested, no_parameter, other, naming, IsNestable, AreGoodFamilies, no_family, a_family, AreGoodConstructors, no_constructor, a_constructor, AreGood, no_type, a_type, ArePositive, ArePositiveConstructors, ArePositiveFamilies, IsPositive}
use Rattle.calculus_rules.specs.Positivity as positivity
use Rattle.pc_rules.specs.DirectedRun as run
use Rattle.pc_rules.specs.DirectedRun.{Run, done, bind, ticked, ticking}
use Rattle.calculus_rules.specs.Lookups.{kept_at, whole_block}
use Rattle.pc_rules.specs.DirectedPositivity.{Nesting, both, after_parameters, none_named, own_arguments, given_parameters, family_good, argument_good, good, arguments_good, types_good, constructors_good, families_good, nestable, is_positive, types_positive, constructor_positive, constructors_positive, families_positive, block_positive}
use Rattle.pc_rules.proofs.WeakNext.{none_some, same_names_is, block_found, take_drop}
use Rattle.calculus_rules.proofs.Spines.{spine_is}
use Rattle.pc_rules.proofs.SameTrees.{false_true}
use Rattle.rule_laws.proofs.Runs.{bind_both, ticking_done, unit_done, done_value}

pub other_name : (k l : Name) → same_names k l ≡ false → k ≡ l → ⊥
other_name k l h e = true≢false (sym (eq-eqb k.0 l.0 (ap (λ n. n.0) e)) ∙ h)

-- a test that says yes
abbrev Yes : Run Bool → Type 0
Yes r = (v : Account) × (r.end ≡ run.Done true v)

not_no : {A : Type 0} (u v : Account) → (done false u).end ≡ run.Done true v → A
not_no u v h = absurd (true≢false (sym (done_value h)))

second_yes : (b : Bool) (k : Account → Run Bool) (u v : Account) → (if b then k u else done false u).end ≡ run.Done true v → (b ≡ true) × ((k u).end ≡ run.Done true v)
second_yes true k u v h = (refl, h)
second_yes false k u v h = not_no u v h

-- both of two tests say yes
both_yes : (r : Run Bool) (k : Account → Run Bool) → Yes (both r k) → Yes r × ((u : Account) × Yes (k u))
both_yes r k (v, h) =
    let p = bind_both r (λ b v. if b then k v else done false v) true v h in
    let q = second_yes p.0 k p.1 v p.3 in
    ((p.1, subst (λ b. r.end ≡ run.Done b p.1) q.0 p.2), (p.1, (v, q.1)))

if_yes : (b : Bool) (x y : Run Bool) → Yes (if b then x else y) → ((b ≡ true) × Yes x) ⊎ ((b ≡ false) × Yes y)
if_yes true x y h = inl (refl, h)
if_yes false x y h = inr (refl, h)

done_yes : (b : Bool) (u : Account) → Yes (done b u) → b ≡ true
done_yes b u h = done_value h.1

-- the arguments that begin with a block's parameters
variable_is : (i n : ℕ) (b : Bool) (o : Option (List Term)) (ys : List Term) → (i == n) ≡ b → (if b then o else None) ≡ Some ys → (i ≡ n) × (o ≡ Some ys)
variable_is i n true o ys e h = (eqb-true i n e, h)
variable_is i n false o ys e h = absurd (none_some h)

pub after_is : (n j : ℕ) (xs ys : List Term) → after_parameters n j xs ≡ Some ys → xs ≡ parameters_under n j ++ ys
after_is zero j xs ys h = let e : xs ≡ ys = grind arith in e
after_is (suc n) j (Rel i ∷ xs) ys h =
    let p = variable_is i (n + j) (i == n + j) (after_parameters n j xs) ys refl h in
    λ x. Rel (p.0 x) ∷ after_is n j xs ys p.1 x
after_is (suc n) j [] ys h = absurd (none_some h)
after_is (suc n) j (SortT s ∷ xs) ys h = absurd (none_some h)
after_is (suc n) j (Prod A B ∷ xs) ys h = absurd (none_some h)
after_is (suc n) j (Lambda A b ∷ xs) ys h = absurd (none_some h)
after_is (suc n) j (LetIn b B t ∷ xs) ys h = absurd (none_some h)
after_is (suc n) j (App f a ∷ xs) ys h = absurd (none_some h)
after_is (suc n) j (Const c ∷ xs) ys h = absurd (none_some h)
after_is (suc n) j (Ind f ∷ xs) ys h = absurd (none_some h)
after_is (suc n) j (Construct f c ∷ xs) ys h = absurd (none_some h)
after_is (suc n) j (Case f ps m ret s bs ∷ xs) ys h = absurd (none_some h)
after_is (suc n) j (Fix i rargs types bodies ∷ xs) ys h = absurd (none_some h)

module _ (E : Env) (nest : Nesting) (sound : (B : Block) (p : ℕ) (u : Account) → Yes (nest B p u) → IsNestable E B p) where
  -- arguments of a family of the target's own block
  uniform_is : (k : Name) (n v j : ℕ) (t : Term) (f : FamilyId) (xs : List Term) (o : Option (List Term)) → t ≡ apply (Ind f) xs → f.block ≡ k → after_parameters n j xs ≡ o →
      none_named (Parameter k n v) j o ≡ true → IsGood E (Parameter k n v) j t
  uniform_is k n v j t f xs None e b a h = false_true h
  uniform_is k n v j t f xs (Some ys) e b a h =
      uniform f ys (e ∙ ap (λ zs. apply (Ind f) zs) (after_is n j xs ys a)) b (not-true (some_names (Parameter k n v) j ys) h)

  own_good : (g : Target) (j : ℕ) (t : Term) (f : FamilyId) (xs : List Term) → t ≡ apply (Ind f) xs → f.block ≡ block_of g → own_arguments g j xs ≡ true → IsGood E g j t
  own_good (Families k) j t f xs e b h = recursive f xs e b (not-true (some_names (Families k) j xs) h)
  own_good (Parameter k n v) j t f xs e b h = uniform_is k n v j t f xs (after_parameters n j xs) e b refl h

  -- an argument of a family of an earlier block
  abbrev Fits : Target → ℕ → Block → ℕ → Term → Type 0
  Fits g j B i a = (names g j a ≡ false) ⊎ ((i < length B.params) × (IsNestable E B i × IsGood E g j a))

  abbrev AllFit : Target → ℕ → Block → ℕ → List Term → Type 0
  AllFit g j B i [] = Unit {0}
  AllFit g j B i (x ∷ xs) = Fits g j B i x × AllFit g j B (suc i) xs

  all_more : (g : Target) (j : ℕ) (B : Block) (i n : ℕ) (xs : List Term) (a : Term) → n ≡ i + length xs → AllFit g j B i xs → Fits g j B n a → AllFit g j B i (xs ++ (a ∷ []))
  all_more g j B i n [] a e h f = let p : n ≡ i = omega arith in (subst (λ n. Fits g j B n a) p f, tt)
  all_more g j B i n (x ∷ xs) a e h f = (h.0, all_more g j B (suc i) n xs a (omega arith) h.1 f)

  first_nested : (g : Target) (j : ℕ) (B : Block) (i m : ℕ) (xs : List Term) → AllFit g j B i xs → AreNested E g j B i (take m xs)
  first_nested g j B i zero xs h = no_parameter
  first_nested g j B i (suc m) [] h = no_parameter
  first_nested g j B i (suc m) (x ∷ xs) (inl f, h) = other f (first_nested g j B (suc i) m xs h)
  first_nested g j B i (suc m) (x ∷ xs) (inr f, h) = naming f.1.0 f.1.1 (first_nested g j B (suc i) m xs h)

  rest_none : (g : Target) (j : ℕ) (B : Block) (i m : ℕ) (xs : List Term) → length B.params ≤ i + m → AllFit g j B i xs → some_names g j (drop m xs) ≡ false
  rest_none g j B i zero [] l h = refl
  rest_none g j B i zero (x ∷ xs) l (inl f, h) = or_from (names g j x) (some_names g j xs) f (rest_none g j B (suc i) zero xs (omega arith) h)
  rest_none g j B i zero (x ∷ xs) l (inr f, h) = let q = f.0 in absurd (omega arith)
  rest_none g j B i (suc m) [] l h = refl
  rest_none g j B i (suc m) (x ∷ xs) l h = rest_none g j B (suc i) m xs (omega arith) h.1

  take_length : (m : ℕ) (xs : List Term) → m ≤ length xs → length (take m xs) ≡ m
  take_length zero xs l = refl
  take_length (suc m) [] l = absurd (omega arith)
  take_length (suc m) (x ∷ xs) l = ap suc (take_length m xs (omega arith))

  nested_good : (g : Target) (j : ℕ) (t : Term) (f : FamilyId) (B : Block) (xs : List Term) → t ≡ apply (Ind f) xs → same_names f.block (block_of g) ≡ false →
      Has E.declarations (Whole B) → B.name ≡ f.block → length B.params ≤ length xs → AllFit g j B 0 xs → IsGood E g j t
  nested_good g j t f B xs e b h n l fits =
      let m : ℕ = length B.params in
      nested f B (take m xs) (drop m xs) (e ∙ ap (λ zs. apply (Ind f) zs) (sym (take_drop m xs))) (other_name f.block (block_of g) b) h n (take_length m xs l)
      (first_nested g j B 0 m xs fits) (rest_none g j B 0 m xs (omega arith) fits)

  -- a family with arguments that have been found to fit
  earlier_good : (g : Target) (j : ℕ) (t : Term) (f : FamilyId) (xs : List Term) (k : Block → Account → Run Bool) (o : Option Block) (u : Account) → t ≡ apply (Ind f) xs →
      same_names f.block (block_of g) ≡ false → whole_block (kept_at E.declarations f.block) ≡ o →
      ((B : Block) → Yes (k B u) → AllFit g j B 0 xs) → Yes (given_parameters (length xs) o k u) → IsGood E g j t
  earlier_good g j t f xs k None u e b s fits y = false_true (done_yes false u y)
  earlier_good g j t f xs k (Some B) u e b s fits y = elim (if_yes (nat_le (length B.params) (length xs)) (k B u) (done false u) y) [
    | inl p ↦
        let h = block_found E f.block (kept_at E.declarations f.block) B refl s in
        nested_good g j t f B xs e b h.0 h.1 (leb-true (length B.params) (length xs) p.0) (fits B p.1)
    | inr p ↦ false_true (done_yes false u p.1)
  ]

  family_sound : (g : Target) (j : ℕ) (t h : Term) (xs : List Term) (k : Block → Account → Run Bool) (u : Account) → t ≡ apply h xs →
      ((B : Block) → Yes (k B u) → AllFit g j B 0 xs) → Yes (family_good E g j h xs k u) → IsGood E g j t
  family_sound g j t (Ind f) xs k u e fits y =
      elim (if_yes (same_names f.block (block_of g)) (done (own_arguments g j xs) u) (given_parameters (length xs) (whole_block (kept_at E.declarations f.block)) k u) y) [
        | inl p ↦ own_good g j t f xs e (same_names_is f.block (block_of g) p.0) (done_yes (own_arguments g j xs) u p.1)
        | inr p ↦ earlier_good g j t f xs k (whole_block (kept_at E.declarations f.block)) u e p.0 refl fits p.1
      ]
  family_sound g j t (Rel i) xs k u e fits y = false_true (done_yes false u y)
  family_sound g j t (SortT s) xs k u e fits y = false_true (done_yes false u y)
  family_sound g j t (Prod A B) xs k u e fits y = false_true (done_yes false u y)
  family_sound g j t (Lambda A b) xs k u e fits y = false_true (done_yes false u y)
  family_sound g j t (LetIn b B s) xs k u e fits y = false_true (done_yes false u y)
  family_sound g j t (App f a) xs k u e fits y = false_true (done_yes false u y)
  family_sound g j t (Const c) xs k u e fits y = false_true (done_yes false u y)
  family_sound g j t (Construct f c) xs k u e fits y = false_true (done_yes false u y)
  family_sound g j t (Case f ps n ret s bs) xs k u e fits y = false_true (done_yes false u y)
  family_sound g j t (Fix i rargs types bodies) xs k u e fits y = false_true (done_yes false u y)

  argument_sound : (g : Target) (j : ℕ) (B : Block) (i : ℕ) (a : Term) (test : Account → Run Bool) (u : Account) → ((u : Account) → Yes (test u) → IsGood E g j a) →
      Yes (argument_good nest g j B i a test u) → Fits g j B i a
  argument_sound g j B i a test u h y =
      elim (if_yes (names g j a) (if nat_lt i (length B.params) then ticking u (λ v. both (nest B i v) test) else done false u) (done true u) y) [
        | inl p ↦ elim (if_yes (nat_lt i (length B.params)) (ticking u (λ v. both (nest B i v) test)) (done false u) p.1) [
          | inl q ↦
              let v = q.1.0 in
              let r = both_yes (nest B i (ticked u)) test (v, ticking_done u (λ v. both (nest B i v) test) true v q.1.1) in
              inr (ltb-true i (length B.params) q.0, (sound B i (ticked u) r.0, h r.1.0 r.1.1))
          | inr q ↦ false_true (done_yes false u q.1)
        ]
        | inr p ↦ inl p.0
      ]

  variable_good : (g : Target) (j i : ℕ) (b : Bool) → names g j (Rel i) ≡ b → IsGood E g j (Rel i)
  variable_good g j i false e = names_none e
  variable_good (Families k) j i true e = false_true e
  variable_good (Parameter k n v) j i true e = parameter (ap Rel (eqb-true i (v + j) e))

  leaf_sound : (g : Target) (j : ℕ) (t h : Term) (u : Account) → t ≡ h → Yes (if names g j t then family_good E g j h [] (λ B v. done true v) u else done true u) → IsGood E g j t
  leaf_sound g j t h u e y = elim (if_yes (names g j t) (family_good E g j h [] (λ B v. done true v) u) (done true u) y) [
    | inl p ↦ family_sound g j t h [] (λ B v. done true v) u e (λ B z. tt) p.1
    | inr p ↦ names_none p.0
  ]

  mutual
    good_sound : (g : Target) (j : ℕ) (t : Term) (u : Account) → Yes (good E nest g j t u) → IsGood E g j t
    good_sound g j (Rel i) u y = variable_good g j i (names g j (Rel i)) refl
    good_sound g j (Prod A B) u y = elim (if_yes (names g j A) (done false u) (good E nest g (suc j) B u) y) [
      | inl p ↦ false_true (done_yes false u p.1)
      | inr p ↦ product p.0 (good_sound g (suc j) B u p.1)
    ]
    good_sound g j (App f a) u y =
        let test : Account → Run Bool = good E nest g j a in
        let k : Block → Account → Run Bool = λ B v. both (arguments_good E nest g j B f v) (argument_good nest g j B (length (args f)) a test) in
        elim (if_yes (names g j (App f a)) (family_good E g j (head f) (args (App f a)) k u) (done true u) y) [
          | inl p ↦ family_sound g j (App f a) (head f) (args (App f a)) k u (spine_is (App f a))
              (λ B z.
              let r = both_yes (arguments_good E nest g j B f u) (argument_good nest g j B (length (args f)) a test) z in
              all_more g j B 0 (length (args f)) (args f) a (omega arith) (arguments_sound g j B f u r.0)
              (argument_sound g j B (length (args f)) a test r.1.0 (good_sound g j a) r.1.1)) p.1
          | inr p ↦ names_none p.0
        ]
    good_sound g j (SortT s) u y = leaf_sound g j (SortT s) (SortT s) u refl y
    good_sound g j (Lambda A b) u y = leaf_sound g j (Lambda A b) (Lambda A b) u refl y
    good_sound g j (LetIn b B t) u y = leaf_sound g j (LetIn b B t) (LetIn b B t) u refl y
    good_sound g j (Const c) u y = leaf_sound g j (Const c) (Const c) u refl y
    good_sound g j (Ind f) u y = leaf_sound g j (Ind f) (Ind f) u refl y
    good_sound g j (Construct f c) u y = leaf_sound g j (Construct f c) (Construct f c) u refl y
    good_sound g j (Case f ps n ret s bs) u y = leaf_sound g j (Case f ps n ret s bs) (Case f ps n ret s bs) u refl y
    good_sound g j (Fix i rargs types bodies) u y = leaf_sound g j (Fix i rargs types bodies) (Fix i rargs types bodies) u refl y

    arguments_sound : (g : Target) (j : ℕ) (B : Block) (t : Term) (u : Account) → Yes (arguments_good E nest g j B t u) → AllFit g j B 0 (args t)
    arguments_sound g j B (App f a) u y =
        let test : Account → Run Bool = good E nest g j a in
        let r = both_yes (arguments_good E nest g j B f u) (argument_good nest g j B (length (args f)) a test) y in
        all_more g j B 0 (length (args f)) (args f) a (omega arith) (arguments_sound g j B f u r.0)
        (argument_sound g j B (length (args f)) a test r.1.0 (good_sound g j a) r.1.1)
    arguments_sound g j B (Rel i) u y = tt
    arguments_sound g j B (SortT s) u y = tt
    arguments_sound g j B (Prod A C) u y = tt
    arguments_sound g j B (Lambda A b) u y = tt
    arguments_sound g j B (LetIn b C t) u y = tt
    arguments_sound g j B (Const c) u y = tt
    arguments_sound g j B (Ind f) u y = tt
    arguments_sound g j B (Construct f c) u y = tt
    arguments_sound g j B (Case f ps n ret s bs) u y = tt
    arguments_sound g j B (Fix i rargs types bodies) u y = tt

  types_sound : (g : Target) (j : ℕ) (As : List Term) (u : Account) → Yes (types_good E nest g j As u) → AreGood E g j As
  types_sound g j [] u y = no_type
  types_sound g j (A ∷ As) u y =
      let r = both_yes (good E nest g j A u) (types_good E nest g (suc j) As) y in a_type (good_sound g j A u r.0) (types_sound g (suc j) As r.1.0 r.1.1)

  constructors_sound : (g : Target) (Cs : List Constructor) (u : Account) → Yes (constructors_good E nest g Cs u) → AreGoodConstructors E g Cs
  constructors_sound g [] u y = no_constructor
  constructors_sound g (C ∷ Cs) u y =
      let r = both_yes (types_good E nest g 0 C.args u) (constructors_good E nest g Cs) y in
      a_constructor (types_sound g 0 C.args u r.0) (constructors_sound g Cs r.1.0 r.1.1)

  families_sound : (g : Target) (Fs : List Family) (u : Account) → Yes (families_good E nest g Fs u) → AreGoodFamilies E g Fs
  families_sound g [] u y = no_family
  families_sound g (F ∷ Fs) u y =
      let r = both_yes (constructors_good E nest g F.ctors u) (families_good E nest g Fs) y in
      a_family (constructors_sound g F.ctors u r.0) (families_sound g Fs r.1.0 r.1.1)

nestable_sound : (E : Env) (n : ℕ) (B : Block) (p : ℕ) (u : Account) → Yes (nestable E n B p u) → IsNestable E B p
unfolding nestable
nestable_sound E zero B p u y = absurd (unit_done y.1)
nestable_sound E (suc n) B p u y = elim (if_yes (types_name B p) (done false u) (families_good E (nestable E n) (parameter_target B p) B.families u) y) [
  | inl q ↦ false_true (done_yes false u q.1)
  | inr q ↦ positivity.nestable q.0 (families_sound E (nestable E n) (nestable_sound E n) (parameter_target B p) B.families u q.1)
]

pub positive_is : (E : Env) (k : Name) (A : Term) (u v : Account) → (is_positive E k A u).end ≡ run.Done true v → IsGood E (Families k) 0 A
positive_is E k A u v h = good_sound E (nestable E u.left) (nestable_sound E u.left) (Families k) 0 A u (v, h)

-- a block that the test lets pass is positive

types_positive_is : (E : Env) (k : Name) (As : List Term) (u : Account) → Yes (types_positive E k As u) → ArePositive E k As
types_positive_is E k [] u y = tt
types_positive_is E k (A ∷ As) u y =
    let r = both_yes (is_positive E k A u) (types_positive E k As) y in
    (positive_is E k A u r.0.0 r.0.1, types_positive_is E k As r.1.0 r.1.1)

constructors_positive_is : (E : Env) (k : Name) (Cs : List Constructor) (u : Account) → Yes (constructors_positive E k Cs u) → ArePositiveConstructors E k Cs
constructors_positive_is E k [] u y = tt
constructors_positive_is E k (C ∷ Cs) u y =
    let n : Bool = some_names (Families k) 0 C.result in
    let r = both_yes (constructor_positive E k C u) (constructors_positive E k Cs) y in
    let q = both_yes (types_positive E k C.args u) (λ v. done (not n) v) r.0 in
    ((types_positive_is E k C.args u q.0, not-true n (done_yes (not n) q.1.0 q.1.1)), constructors_positive_is E k Cs r.1.0 r.1.1)

families_positive_is : (E : Env) (k : Name) (Fs : List Family) (u : Account) → Yes (families_positive E k Fs u) → ArePositiveFamilies E k Fs
families_positive_is E k [] u y = tt
families_positive_is E k (F ∷ Fs) u y =
    let r = both_yes (constructors_positive E k F.ctors u) (families_positive E k Fs) y in
    (constructors_positive_is E k F.ctors u r.0, families_positive_is E k Fs r.1.0 r.1.1)

pub block_positive_is : (E : Env) (B : Block) (u v : Account) → (block_positive E B u).end ≡ run.Done true v → IsPositive E B
block_positive_is E B u v h = families_positive_is E B.name B.families u (v, h)
