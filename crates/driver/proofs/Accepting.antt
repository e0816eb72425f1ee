-- The directed rules accept each answerable environment, in one unit: that of main.
use Rattle.std.proofs.Common.{◌≡◌, ◌≢◌, ℕ, zero, suc, ◌<◌, Bool, true, false, if◌then◌else◌, List, [], ◌∷◌, map, length, Some, None, refl, sym, ap, subst, ◌∙◌, ◌||◌, arith, eq-eqb}
use Rattle.std.specs.Prelude.{All, AllPairs, slice_get, get_or, option_map}
use Rattle.std.proofs.Math.Dec.{leb-zero}
use Rattle.std.proofs.lemmas.Option.{slice_get-map, slice_get-get_or, slice_get_within, get_or_from_slice_get}
use Rattle.std.proofs.lemmas.List.Elements.{All-head, All-tail, All-nil, All-cons}
use Rattle.universe_levels.specs.declared.constraint.Constraint.{Constraint}
use Rattle.universe_levels.specs.Valuation.{Meets}
use Rattle.universe_levels.specs.Consistency.{IsConsistent}
use Rattle.pc_terms.specs.declared.leaf.Name.{Name}
use Rattle.pc_terms.specs.declared.leaf.FamilyId.{FamilyId}
use Rattle.pc_terms.specs.Syntax.{Term, Ind, Construct}
use Rattle.calculus_rules.specs.declared.declaration.Constructor.{Constructor}
use Rattle.calculus_rules.specs.declared.declaration.Family.{Family}
use Rattle.calculus_rules.specs.declared.declaration.Block.{Block}
use Rattle.calculus_rules.specs.declared.declaration.Kept.{Kept}
use Rattle.calculus_rules.specs.declared.declaration.Kept.TheVariants.{Block as Whole}
use Rattle.pc_rules.specs.declared.broken.Place.TheVariants.{Declaration as AtDeclaration, Main as AtMain}
use Rattle.pc_rules.specs.declared.meter.Account.{Account}
use Rattle.calculus_rules.specs.Environment.{Env, FamilyDecl, with_parameters, family_at}
use Rattle.calculus_rules.specs.Instances.{constructor_type}
use Rattle.calculus_rules.specs.Accepted.{env}
use Rattle.calculus_rules.specs.Same.{same_names}
use Rattle.pc_rules.specs.Entailment.{entailed_by}
use Rattle.pc_rules.specs.declared.broken.Broken.TheVariants.{DuplicateName}
use Rattle.pc_rules.specs.DirectedRun.{Run, done, refused, make, ticked, noted, paid, ticking, bind, most_nested}
use Rattle.calculus_rules.specs.Lookups.{kept_at, whole_block}
use Rattle.pc_rules.specs.DirectedComparison.{Test, Comparison, compare}
use Rattle.pc_rules.specs.DirectedTyping.{Typing, infer, sorts_of, check_all, undeclared_in, levels_declared, find_family, family_number, constructor_number, construct_rule}
use Rattle.pc_rules.specs.DirectedPlaces.{and_then}
use Rattle.pc_rules.specs.DirectedDeclarations.{
  accepts,
  has_name,
  distinct_names,
  heads_rule,
  arguments_rule,
  constructor_rule,
  with_constructors,
  constructors_rule,
  families_rule,
  with_families,
  with_heads,
  block_rule,
  fresh_name,
  declaration_rule,
  placed,
  declarations_rule,
  main_rule,
  environment_rule,
}
use Rattle.dump_reader.specs.declared.declaration.RawCtor.{RawCtor}
use Rattle.dump_reader.specs.declared.declaration.RawFamily.{RawFamily}
use Rattle.dump_reader.specs.declared.declaration.RawDecl.{RawDecl}
use Rattle.dump_reader.specs.declared.declaration.RawDecl.TheVariants as raw
use Rattle.dump_reader.specs.declared.environment.RawEnv.{RawEnv}
use Rattle.inductive_check.specs.Given.{ctor_of, family_of, block_of, given_of}
use Rattle.pc_rules.proofs.WeakNext.{none_some, same_names_is}
use Rattle.env_check.specs.Rules.{rules_of, givens}
use Rattle.driver.specs.Judged.{name_of, start, status_by, EndsWith}
use Rattle.driver.specs.Plain.{set_sort, IsConstant, IsEnumeration, IsEnumerationBlock}
use Rattle.plain_programs.specs.PlainEnvironment.{AreConstants, ArePlainBlocks, KeepsPlain}
use Rattle.driver.specs.Answerable.{HasDistinctConstructors, HasDistinctNames, DeclaresConstructor, IsAnswerable}

-- the first of a list against each later one

first_pairs : {X : Type 0} (R : X → X → Type 0) (x : X) (xs : List X) → AllPairs R (x ∷ xs) → All (R x) xs
first_pairs R x xs h = λ i d lt. h 0 (suc i) d (omega arith) (omega (arith, lt))

later_pairs : {X : Type 0} (R : X → X → Type 0) (x : X) (xs : List X) → AllPairs R (x ∷ xs) → AllPairs R xs
later_pairs R x xs h = λ i j d lt within. h (suc i) (suc j) d (omega (arith, lt)) (omega (arith, within))

-- names that differ

differ : (k l : Name) (b : Bool) → same_names k l ≡ b → k ≢ l → b ≡ false
differ k l true e n = absurd (n (same_names_is k l e))
differ k l false e n = refl

differs : (k l : Name) → k ≢ l → same_names k l ≡ false
differs k l n = differ k l (same_names k l) refl n

-- the names of a family's constructors: none of those before

abbrev pub IsNone : List Constructor → RawCtor → Type 0
IsNone before c = has_name c.name before ≡ false

abbrev pub IsOtherCtor : RawCtor → RawCtor → Type 0
IsOtherCtor a b = a.name ≢ b.name

none_beside : (x : RawCtor) (before : List Constructor) (cs : List RawCtor) → All (IsOtherCtor x) cs → All (IsNone before) cs → All (IsNone (ctor_of x ∷ before)) cs
none_beside x before [] n h = All-nil (IsNone (ctor_of x ∷ before))
none_beside x before (c ∷ cs) n h =
    All-cons (IsNone (ctor_of x ∷ before)) c cs
    (ap (λ b. b || has_name c.name before) (differs x.name c.name (All-head (IsOtherCtor x) c cs n)) ∙ All-head (IsNone before) c cs h)
    (none_beside x before cs (All-tail (IsOtherCtor x) c cs n) (All-tail (IsNone before) c cs h))

names_pass : (before : List Constructor) (cs : List RawCtor) (u : Account) → All (IsNone before) cs → AllPairs IsOtherCtor cs →
    distinct_names before (map ctor_of cs) u ≡ done tt u
names_pass before [] u h p = refl
names_pass before (c ∷ cs) u h p =
    ap (λ b. if b then refused (DuplicateName c.name.0) u else distinct_names (ctor_of c ∷ before) (map ctor_of cs) u) (All-head (IsNone before) c cs h)
    ∙ names_pass (ctor_of c ∷ before) cs u (none_beside c before cs (first_pairs IsOtherCtor c cs p) (All-tail (IsNone before) c cs h)) (later_pairs IsOtherCtor c cs p)

-- constructors without arguments, in a family without indices

abbrev pub constant : Name → RawCtor
constant k = record { name = k; args = []; result = [] }

is_constant : (c : RawCtor) → IsConstant c → c ≡ constant c.name
is_constant c h = λ i. record { name = c.name; args = h.0 i; result = h.1 i }

abbrev pub enumeration : Name → List RawCtor → RawFamily
enumeration k cs = record { name = k; sort = set_sort; indices = []; ctors = cs }

is_enumeration : (f : RawFamily) → IsEnumeration f → f ≡ enumeration f.name f.ctors
is_enumeration f h = λ i. record { name = f.name; sort = h.sort_is_set i; indices = h.no_index i; ctors = f.ctors }

module _ (H : Env) (q : Test) (inf : Typing) (cmp : Comparison) (B : Block) (k : Name) (all : List RawCtor) where
  abbrev F : Family
  F = family_of (enumeration k all)

  constant_passes : (n : ℕ) (l : Name) (u : Account) → constructor_rule H q inf cmp B F 0 n (ctor_of (constant l)) u ≡ done (ctor_of (constant l)) u
  unfolding arguments_rule check_all bind
  constant_passes n l u = refl

  constructor_passes : (n : ℕ) (c : RawCtor) (u : Account) → IsConstant c → constructor_rule H q inf cmp B F 0 n (ctor_of c) u ≡ done (ctor_of c) u
  constructor_passes n c u h = subst (λ x. constructor_rule H q inf cmp B F 0 n (ctor_of x) u ≡ done (ctor_of x) u) (sym (is_constant c h)) (constant_passes n c.name u)

  constructors_pass : (n : ℕ) (cs : List RawCtor) (u : Account) → All IsConstant cs → constructors_rule H q inf cmp B F 0 n (map ctor_of cs) u ≡ done (map ctor_of cs) u
  unfolding constructors_rule bind
  constructors_pass n [] u h = refl
  constructors_pass n (c ∷ cs) u h =
      ap (λ r. bind r (λ D v. bind (constructors_rule H q inf cmp B F 0 (suc n) (map ctor_of cs) v) (λ Ds w. done (D ∷ Ds) w))) (constructor_passes n c u (All-head IsConstant c cs h))
      ∙ ap (λ r. bind r (λ Ds w. done (ctor_of c ∷ Ds) w)) (constructors_pass (suc n) cs u (All-tail IsConstant c cs h))

-- a block of one family

abbrev pub enumeration_block : Name → Name → List RawCtor → RawDecl
enumeration_block k l cs = raw.Block k [] (enumeration l cs ∷ [])

-- what is kept of it: it has no sorts of arguments
abbrev pub keep : RawDecl → Kept
keep d = Whole (block_of d)

module _ (E : Env) (q : Test) (n : ℕ) (k l : Name) (cs : List RawCtor) where
  abbrev B : Block
  B = block_of (enumeration_block k l cs)

  set_declared : undeclared_in E.levels set_sort ≡ None
  set_declared = ap (λ b. if b then None else Some (record { 0 = 0 })) (leb-zero E.levels)

  heads_pass : (u : Account) → AllPairs IsOtherCtor cs → heads_rule E (infer E q n) B u ≡ done tt u
  unfolding sorts_of bind
  heads_pass u p =
      ap (λ r. bind (bind r (λ _ v. bind (levels_declared (undeclared_in E.levels set_sort) v) (λ _ w. done tt w))) (λ _ v. done tt v))
      (names_pass [] cs u (λ i d lt. refl) p)
      ∙ ap (λ o. bind (bind (levels_declared o u) (λ _ w. done tt w)) (λ _ v. done tt v)) set_declared

  block_passes : (u : Account) → All IsConstant cs → AllPairs IsOtherCtor cs → block_rule E q n B u ≡ done B u
  unfolding families_rule bind
  block_passes u h p =
      ap (λ r. bind r (λ _ v. bind (families_rule (with_heads E B) q (infer (with_heads E B) q n) (compare (with_heads E B) q n) B 0 B.families v) (λ Fs w. done (with_families B Fs) w)))
      (heads_pass u p)
      ∙ ap (λ r. bind (bind r (λ Cs v. done (with_constructors (family_of (enumeration l cs)) Cs ∷ []) v)) (λ Fs w. done (with_families B Fs) w))
      (constructors_pass (with_heads E B) q (infer (with_heads E B) q n) (compare (with_heads E B) q n) B l cs 0 cs u h)

  pub declaration_passes : (u : Account) → kept_at E.declarations k ≡ None → All IsConstant cs → AllPairs IsOtherCtor cs →
      declaration_rule E q n (given_of (enumeration_block k l cs)) u ≡ done (keep (enumeration_block k l cs)) u
  unfolding bind
  declaration_passes u new h p =
      ap (λ o. bind (fresh_name o k u) (λ _ v. bind (block_rule E q n B v) (λ D w. done (Whole D) w))) new
      ∙ ap (λ r. bind r (λ D w. done (Whole D) w)) (block_passes u h p)

-- declarations in order

-- their names are new: none is kept, and each is kept before the next
abbrev pub AreNew : List Kept → List RawDecl → Type 0
AreNew ks [] = Unit {0}
AreNew ks (d ∷ ds) = (kept_at ks (name_of d) ≡ None) × AreNew (keep d ∷ ks) ds

abbrev pub IsOther : RawDecl → RawDecl → Type 0
IsOther a b = name_of a ≢ name_of b

abbrev pub IsNewIn : List Kept → RawDecl → Type 0
IsNewIn ks d = kept_at ks (name_of d) ≡ None

pub kept_name : (d : RawDecl) → (block_of d).name ≡ name_of d
kept_name (raw.Constant k A b) = refl
kept_name (raw.Block k ps fs) = refl

new_beside : (x d : RawDecl) (ks : List Kept) → name_of x ≢ name_of d → IsNewIn ks d → IsNewIn (keep x ∷ ks) d
new_beside x d ks n h =
    ap (λ b. if b then Some (keep x) else kept_at ks (name_of d)) (differs (block_of x).name (name_of d) (λ e. n (sym (kept_name x) ∙ e))) ∙ h

all_beside : (x : RawDecl) (ks : List Kept) (ds : List RawDecl) → All (IsOther x) ds → All (IsNewIn ks) ds → All (IsNewIn (keep x ∷ ks)) ds
all_beside x ks [] n h = All-nil (IsNewIn (keep x ∷ ks))
all_beside x ks (d ∷ ds) n h =
    All-cons (IsNewIn (keep x ∷ ks)) d ds (new_beside x d ks (All-head (IsOther x) d ds n) (All-head (IsNewIn ks) d ds h))
    (all_beside x ks ds (All-tail (IsOther x) d ds n) (All-tail (IsNewIn ks) d ds h))

are_new : (ks : List Kept) (ds : List RawDecl) → All (IsNewIn ks) ds → AllPairs IsOther ds → AreNew ks ds
are_new ks [] h p = tt
are_new ks (d ∷ ds) h p = (
  All-head (IsNewIn ks) d ds h,
  are_new (keep d ∷ ks) ds (all_beside d ks ds (first_pairs IsOther d ds p) (All-tail (IsNewIn ks) d ds h))
      (later_pairs IsOther d ds p),
)

-- what is kept after all of them
abbrev pub all_kept : List RawDecl → List Kept → List Kept
all_kept [] ks = ks
all_kept (d ∷ ds) ks = all_kept ds (keep d ∷ ks)

beside : (d : RawDecl) (ks : List Kept) (k : Name) (x : Kept) (b : Bool) → same_names (block_of d).name k ≡ b → IsNewIn ks d → kept_at ks k ≡ Some x →
    (if b then Some (keep d) else kept_at ks k) ≡ Some x
beside d ks k x true e n h = absurd (none_some (sym (sym h ∙ ap (kept_at ks) (sym (sym (kept_name d) ∙ same_names_is (block_of d).name k e)) ∙ n)))
beside d ks k x false e n h = h

still_kept : (ks : List Kept) (ds : List RawDecl) (k : Name) (x : Kept) → kept_at ks k ≡ Some x → AreNew ks ds → kept_at (all_kept ds ks) k ≡ Some x
still_kept ks [] k x h n = h
still_kept ks (d ∷ ds) k x h n = still_kept (keep d ∷ ks) ds k x (beside d ks k x (same_names (block_of d).name k) refl n.0 h) n.1

kept_first : (d : RawDecl) (ks : List Kept) → kept_at (keep d ∷ ks) (name_of d) ≡ Some (keep d)
kept_first d ks = ap (λ b. if b then Some (keep d) else kept_at ks (name_of d)) (eq-eqb (block_of d).name.0 (name_of d).0 (ap (λ k. k.0) (kept_name d)))

found_kept : (ks : List Kept) (ds : List RawDecl) (i : ℕ) (d : RawDecl) → slice_get ds i ≡ Some d → AreNew ks ds → kept_at (all_kept ds ks) (name_of d) ≡ Some (keep d)
found_kept ks [] i d at n = absurd cc
found_kept ks (x ∷ xs) zero d at n =
    let same : x ≡ d = cc in
    subst (λ y. kept_at (all_kept xs (keep x ∷ ks)) (name_of y) ≡ Some (keep y)) same (still_kept (keep x ∷ ks) xs (name_of x) (keep x) (kept_first x ks) n.1)
found_kept ks (x ∷ xs) (suc i) d at n = found_kept (keep x ∷ ks) xs i d at n.1

-- a block that is one of an enumeration
pub record IsBlockOf (d : RawDecl) : Type 0 where
  pub name : Name
  pub family : Name
  pub ctors : List RawCtor
  pub is : d ≡ enumeration_block name family ctors
  pub constants : All IsConstant ctors

pub block_is : (d : RawDecl) → IsEnumerationBlock d → IsBlockOf d
block_is d h = record {
  name = h.name;
  family = h.family.name;
  ctors = h.family.ctors;
  is = h.is ∙ ap (λ f. raw.Block h.name [] (f ∷ [])) (is_enumeration h.family h.enumeration);
  constants = h.enumeration.constants;
}

pub one_passes : (E : Env) (q : Test) (n : ℕ) (d : RawDecl) (u : Account) → kept_at E.declarations (name_of d) ≡ None → IsEnumerationBlock d → HasDistinctNames d →
    declaration_rule E q n (given_of d) u ≡ done (keep d) u
one_passes E q n d u new h p =
    let b = block_is d h in
    let names : HasDistinctNames (enumeration_block b.name b.family b.ctors) = subst HasDistinctNames b.is p in
    subst (λ x. declaration_rule E q n (given_of x) u ≡ done (keep x) u) (sym b.is)
    (declaration_passes E q n b.name b.family b.ctors u (subst (λ x. kept_at E.declarations (name_of x) ≡ None) b.is new) b.constants
    (All-head HasDistinctConstructors (enumeration b.family b.ctors) [] names))

declarations_pass : (levels : ℕ) (cs : List Constraint) (q : Test) (n i : ℕ) (ks : List Kept) (ds : List RawDecl) (main : Term) (u : Account) →
    AreNew ks ds → All IsEnumerationBlock ds → All HasDistinctNames ds →
    declarations_rule levels cs q n i ks (map given_of ds) main u ≡ main_rule (env levels cs (all_kept ds ks)) q n main u
unfolding declarations_rule and_then
declarations_pass levels cs q n i ks [] main u new h p = refl
declarations_pass levels cs q n i ks (d ∷ ds) main u new h p =
    ap (λ r. placed (AtDeclaration i) r (λ k v. declarations_rule levels cs q n (suc i) (k ∷ ks) (map given_of ds) main v))
    (one_passes (env levels cs ks) q n d u new.0 (All-head IsEnumerationBlock d ds h) (All-head HasDistinctNames d ds p))
    ∙ declarations_pass levels cs q n (suc i) (keep d ∷ ks) ds main u new.1 (All-tail IsEnumerationBlock d ds h) (All-tail HasDistinctNames d ds p)

-- main

module _ (E : Env) (q : Test) (m : ℕ) (f : FamilyId) (n : ℕ) (l : Name) (cs : List RawCtor) (c : RawCtor) (kept : kept_at E.declarations f.block ≡ Some (keep (enumeration_block f.block l cs)))
    (first : f.family ≡ 0) (is_ctor : slice_get cs n ≡ Some c) (no_argument : IsConstant c) where
  abbrev Found : FamilyDecl
  Found = with_parameters [] (family_of (enumeration l cs))

  type_is : constructor_type f Found (ctor_of c) ≡ Ind f
  type_is = ap (λ x. constructor_type f Found (ctor_of x)) (is_constant c no_argument)

  abbrev and_type : FamilyDecl → Account → Run Term
  and_type G v = bind (constructor_number G n (slice_get G.constructors n) v) (λ C w. make (constructor_type f G C) w)

  family_there : family_at (block_of (enumeration_block f.block l cs)) f.family ≡ Some Found
  family_there = ap (family_at (block_of (enumeration_block f.block l cs))) first

  ctor_there : slice_get (map ctor_of cs) n ≡ Some (ctor_of c)
  ctor_there = slice_get-map ctor_of cs n ∙ ap (option_map ctor_of) is_ctor

  construct_passes : (u : Account) → construct_rule E f n u ≡ done (Ind f) u
  unfolding bind
  construct_passes u =
      ap (λ o. bind (find_family f (whole_block o) u) and_type) kept
      ∙ ap (λ o. bind (family_number (block_of (enumeration_block f.block l cs)) f o u) and_type) family_there
      ∙ ap (λ o. bind (constructor_number Found n o u) (λ C w. make (constructor_type f Found C) w)) ctor_there
      ∙ ap (λ T. make T u) type_is

  infer_passes : (u : Account) (left : ℕ) → u.left ≡ suc left → infer E q (suc m) [] (Construct f n) u ≡ done (Ind f) (noted 9 (ticked u))
  unfolding infer ticking
  infer_passes u left is = ap (λ x. paid x (construct_rule E f n (noted 9 (ticked u)))) is ∙ construct_passes (noted 9 (ticked u))

  main_passes : (u : Account) (left : ℕ) → u.left ≡ suc left →
      main_rule E q (suc m) (Construct f n) u ≡ accepts E (Ind f) (noted 9 (ticked u))
  unfolding and_then
  main_passes u left is = ap (λ r. placed AtMain r (λ T v. accepts E T v)) (infer_passes u left is)

-- the whole

pub at_place : {X : Type 0} (P : X → Type 0) (xs : List X) (i : ℕ) (x : X) → slice_get xs i ≡ Some x → All P xs → P x
at_place P xs i x e h = subst P (get_or_from_slice_get xs i x x e) (h i x (slice_get_within xs i x e))

none_new : (ds : List RawDecl) → All (IsNewIn []) ds
none_new ds = λ i d lt. refl

pub only_one : {X : Type 0} (x y : X) (i : ℕ) → slice_get (x ∷ []) i ≡ Some y → (i ≡ 0) × (x ≡ y)
only_one x y zero e = (refl, cc)
only_one x y (suc i) e = absurd cc

-- main's block, as it is kept
record IsMainOf (ds : List RawDecl) (f : FamilyId) (n : ℕ) : Type 0 where
  family : Name
  ctors : List RawCtor
  constants : All IsConstant ctors
  kept : kept_at (all_kept ds []) f.block ≡ Some (keep (enumeration_block f.block family ctors))
  first : f.family ≡ 0
  ctor : RawCtor
  is_ctor : slice_get ctors n ≡ Some ctor
  no_argument : IsConstant ctor

main_is : (ds : List RawDecl) (f : FamilyId) (n : ℕ) → All IsEnumerationBlock ds → AreNew [] ds → DeclaresConstructor ds f n → IsMainOf ds f n
main_is ds f n h new d =
    let b = block_is (raw.Block f.block d.params d.families) (at_place IsEnumerationBlock ds d.place (raw.Block f.block d.params d.families) d.is_block h) in
    let same : raw.Block f.block d.params d.families ≡ enumeration_block b.name b.family b.ctors = b.is in
    let block : b.name ≡ f.block = cc in
    let params : d.params ≡ [] = cc in
    let families : d.families ≡ enumeration b.family b.ctors ∷ [] = cc in
    let one = only_one (enumeration b.family b.ctors) d.family f.family (subst (λ fs. slice_get fs f.family ≡ Some d.family) families d.is_family) in
    let within : n < length b.ctors = subst (λ x. n < length x.ctors) (sym one.1) d.below in
    let c : RawCtor = get_or b.ctors n (constant b.name) in
    let is_ctor : slice_get b.ctors n ≡ Some c = slice_get-get_or b.ctors n (constant b.name) within in
    record {
      family = b.family;
      ctors = b.ctors;
      constants = b.constants;
      kept = found_kept [] ds d.place (raw.Block f.block d.params d.families) d.is_block new ∙ ap (λ x. Some (keep x)) (b.is ∙ ap (λ k. enumeration_block k b.family b.ctors) block);
      first = one.0;
      ctor = c;
      is_ctor = is_ctor;
      no_argument = at_place IsConstant b.ctors n c is_ctor b.constants;
    }

accepted : (turns : ℕ) → 0 < turns → (ds : List RawDecl) (f : FamilyId) (n : ℕ) (q : Test) → All IsEnumerationBlock ds → All HasDistinctNames ds → AllPairs IsOther ds →
    DeclaresConstructor ds f n →
    declarations_rule 0 [] q most_nested 0 [] (map given_of ds) (Construct f n) (start turns) ≡ accepts (env 0 [] (all_kept ds [])) (Ind f) (noted 9 (ticked (start turns)))
accepted zero some ds f n q h p distinct d = absurd (omega (arith, some))
accepted (suc t) some ds f n q h p distinct d =
    let new = are_new [] ds (none_new ds) distinct in
    let a = main_is ds f n h new d in
    declarations_pass 0 [] q most_nested 0 [] ds (Construct f n) (start (suc t)) new h p
    ∙ main_passes (env 0 [] (all_kept ds [])) q 2047 f n a.family a.ctors a.ctor a.kept a.first a.is_ctor a.no_argument (start (suc t)) t refl

-- every environment over no level and no constraint is consistent
consistent : (e : RawEnv) → e.constraints ≡ [] → IsConsistent (length e.levels) e.constraints
consistent e none = (
  (λ l. l),
  record {
    valuation = record { set = refl; declared = λ l low high. low };
    meets = subst (All (Meets (λ l. l))) (sym none) (All-nil (Meets (λ l. l)));
  },
)

-- how its check ends
pub answerable_rules : (turns : ℕ) (e : RawEnv) → 0 < turns → (a : IsAnswerable e) → rules_of e None most_nested (start turns) ≡ accepts (env 0 [] (all_kept e.decls [])) (Ind a.id) (noted 9 (ticked (start turns)))
answerable_rules turns e some a =
    ap (λ ls. environment_rule ls e.constraints None (entailed_by (length ls) e.constraints) most_nested (givens e) e.main (start turns)) a.plain.no_level
    ∙ ap (λ cs. environment_rule [] cs None (entailed_by 0 cs) most_nested (givens e) e.main (start turns)) a.plain.no_constraint
    ∙ ap (λ t. declarations_rule 0 [] (entailed_by 0 []) most_nested 0 [] (givens e) t (start turns)) a.plain.main_is
    ∙ accepted turns some e.decls a.id a.number (entailed_by 0 []) a.plain.blocks a.constructors a.distinct a.main_declared

pub answerable_ends : (turns : ℕ) (e : RawEnv) → 0 < turns → IsAnswerable e → EndsWith turns e 0
answerable_ends turns e some a =
    let is = answerable_rules turns e some a in
    record {
      rules = rules_of e None most_nested (start turns);
      judged = record { cycle = None; found = λ once declared. consistent e a.plain.no_constraint; is = refl };
      within = ap (λ d. d.deep) is;
      status_is = ap (λ d. status_by d.outcome) (sym is);
    }

-- and what is kept of it

kept_constants : (cs : List RawCtor) → All IsConstant cs → AreConstants (map ctor_of cs)
kept_constants [] h = tt
kept_constants (c ∷ cs) h = let x = All-head IsConstant c cs h in (x.0, x.1, kept_constants cs (All-tail IsConstant c cs h))

kept_plain : (d : RawDecl) (ks : List Kept) → IsEnumerationBlock d → ArePlainBlocks ks → ArePlainBlocks (keep d ∷ ks)
kept_plain d ks h k = let b = block_is d h in subst (λ x. ArePlainBlocks (keep x ∷ ks)) (sym b.is) (refl, (kept_constants b.ctors b.constants, tt), k)

all_plain : (ds : List RawDecl) (ks : List Kept) → All IsEnumerationBlock ds → ArePlainBlocks ks → ArePlainBlocks (all_kept ds ks)
all_plain [] ks h k = k
all_plain (d ∷ ds) ks h k = all_plain ds (keep d ∷ ks) (All-tail IsEnumerationBlock d ds h) (kept_plain d ks (All-head IsEnumerationBlock d ds h) k)

pub answerable_keeps : (e : RawEnv) (a : IsAnswerable e) → KeepsPlain (env 0 [] (all_kept e.decls [])) a.id a.number
answerable_keeps e a =
    let m = main_is e.decls a.id a.number a.plain.blocks (are_new [] e.decls (none_new e.decls) a.distinct) a.main_declared in
    let block = block_of (enumeration_block a.id.block m.family m.ctors) in
    record {
      blocks = all_plain e.decls [] a.plain.blocks tt;
      block = block;
      kept = m.kept;
      ctors = map ctor_of m.ctors;
      at = ap (family_at block) m.first;
      constants = kept_constants m.ctors m.constants;
      ctor = ctor_of m.ctor;
      is_ctor = slice_get-map ctor_of m.ctors a.number ∙ ap (option_map ctor_of) m.is_ctor;
    }
