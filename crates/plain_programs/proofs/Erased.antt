-- Directed erasure of a constructor without arguments, by its rules.
use Rattle.std.proofs.Common.{◌≡◌, ℕ, zero, suc, ◌-◌, List, [], ◌∷◌, ◌++◌, map, length, Some, None, false, refl, sym, ap, ◌∙◌, arith}
use Rattle.std.specs.Prelude.{slice_get, option_map}
use Rattle.std.proofs.lemmas.Option.{slice_get-map}
use Rattle.pc_terms.specs.declared.leaf.FamilyId.{FamilyId}
use Rattle.pc_terms.specs.Syntax.{Term, SortT, Ind, Construct}
use Rattle.box_terms.specs.BoxSyntax.{BoxTerm, BConstruct}
use Rattle.calculus_rules.specs.declared.declaration.Constructor.{Constructor}
use Rattle.calculus_rules.specs.declared.declaration.Family.{Family}
use Rattle.calculus_rules.specs.declared.declaration.Block.{Block}
use Rattle.calculus_rules.specs.declared.declaration.Kept.{Kept}
use Rattle.calculus_rules.specs.declared.declaration.Kept.TheVariants.{Constant, Heads, Block as Whole}
use Rattle.pc_rules.specs.declared.broken.Place.TheVariants.{Main as AtMain}
use Rattle.pc_rules.specs.declared.meter.Account.{Account}
use Rattle.calculus_rules.specs.Environment.{Env, FamilyDecl}
use Rattle.calculus_rules.specs.Context.{Values, values}
use Rattle.calculus_rules.specs.Instances.{family_type, constructor_type}
use Rattle.calculus_rules.specs.Same.{same}
use Rattle.pc_rules.specs.DirectedRun.{Run, done, make, ticked, noted, paid, ticking, bind}
use Rattle.calculus_rules.specs.Lookups.{known_block, whole_block}
use Rattle.pc_rules.specs.DirectedWeakHead.{steps, whnf}
use Rattle.pc_rules.specs.DirectedComparison.{Test}
use Rattle.pc_rules.specs.DirectedTyping.{Typing, infer, sort_of, sort_found, find_family, family_number, constructor_number, construct_rule, ind_rule}
use Rattle.pc_rules.specs.DirectedErasable.{ends_in_sort, proof_found, arity_found, type_test, numbered_test, constructor_test, erasable_test}
use Rattle.pc_rules.specs.DirectedPlaces.{gives, at_place, and_then}
use Rattle.pc_rules.proofs.WeakNext.{kept_is}
use Rattle.lambda_box.specs.BoxProgram.{BoxFamily}
use Rattle.erase_laws.specs.ErasedProgram.{arguments_of, counts_of}
use Rattle.erase_rules.specs.DirectedErasure.{box_or, tested, erased}
use Rattle.erase_rules.specs.DirectedProgram.{Reached, erased_constants, families_from, box_families, answer}
use Rattle.erase_rules.proofs.Families.{family_there}
use Rattle.plain_programs.specs.PlainEnvironment.{set_sort, AreConstants, HaveConstants, ArePlainBlocks, enumeration_of, KeepsPlain}
use Rattle.plain_programs.specs.PlainProgram.{AreZero, HaveNoCounts, plain_program, IsPlainProgram}
use Rattle.plain_programs.specs.Laws.{PlainMainsAreErased}
use Rattle.plain_programs.proofs.Searched.{kept_family}

-- constructor number c of constants is one
constant_at : (Cs : List Constructor) (c : ℕ) (C : Constructor) → slice_get Cs c ≡ Some C → AreConstants Cs → (C.args ≡ []) × (C.result ≡ [])
constant_at [] c C e h = absurd cc
constant_at (D ∷ Cs) zero C e h = let same : D ≡ C = cc in (ap (λ (x : Constructor). x.args) (sym same) ∙ h.0, ap (λ (x : Constructor). x.result) (sym same) ∙ h.1)
constant_at (D ∷ Cs) (suc c) C e h = constant_at Cs c C e h.2

-- a sort has no weak-head step, and a family neither, nor does it end in a sort

steps_sort : (E : Env) (V : Values) (n : ℕ) (u : Account) → steps E V n (SortT set_sort) u ≡ done (SortT set_sort) u
unfolding steps
steps_sort E V zero u = refl
steps_sort E V (suc n) u = refl

no_sort : (E : Env) (f : FamilyId) (n : ℕ) (u : Account) → ends_in_sort E n [] (Ind f) u ≡ done false u
unfolding ends_in_sort
no_sort E f zero u = refl
no_sort E f (suc n) u = refl

sort_is : (inf : Typing) (u : Account) → sort_found inf [] (SortT set_sort) (SortT set_sort) u ≡ done set_sort u
unfolding same
sort_is inf u = refl

module _ (E : Env) (q : Test) (m : ℕ) (f : FamilyId) (c : ℕ) (h : KeepsPlain E f c) where
  abbrev F : FamilyDecl
  F = enumeration_of h.ctors

  abbrev inf : Typing
  inf = infer E q (suc m)

  no_parts : (h.ctor.args ≡ []) × (h.ctor.result ≡ [])
  no_parts = constant_at h.ctors c h.ctor h.is_ctor h.constants

  type_is : constructor_type f F h.ctor ≡ Ind f
  type_is = let n = no_parts in λ i. constructor_type f F (record { name = h.ctor.name; args = n.0 i; arg_sorts = h.ctor.arg_sorts; result = n.1 i })

  abbrev and_type : FamilyDecl → Account → Run Term
  and_type G v = bind (constructor_number G c (slice_get G.constructors c) v) (λ C w. make (constructor_type f G C) w)

  construct_passes : (u : Account) → construct_rule E f c u ≡ done (Ind f) u
  unfolding bind
  construct_passes u =
      ap (λ o. bind (find_family f (whole_block o) u) and_type) h.kept
      ∙ ap (λ o. bind (family_number h.block f o u) and_type) h.at
      ∙ ap (λ o. bind (constructor_number F c o u) (λ C w. make (constructor_type f F C) w)) h.is_ctor
      ∙ ap (λ T. make T u) type_is

  main_type : (u : Account) (left : ℕ) → u.left ≡ suc left → inf [] (Construct f c) u ≡ done (Ind f) (noted 9 (ticked u))
  unfolding infer ticking
  main_type u left is = ap (λ x. paid x (construct_rule E f c (noted 9 (ticked u)))) is ∙ construct_passes (noted 9 (ticked u))

  ind_passes : (u : Account) → ind_rule E f u ≡ done (SortT set_sort) u
  unfolding bind
  ind_passes u =
      ap (λ o. bind (find_family f (known_block o) u) (λ G v. make (family_type G) v)) h.kept
      ∙ ap (λ o. bind (family_number h.block f o u) (λ G v. make (family_type G) v)) h.at

  type_type : (u : Account) (left : ℕ) → u.left ≡ suc left → inf [] (Ind f) u ≡ done (SortT set_sort) (noted 8 (ticked u))
  unfolding infer ticking
  type_type u left is = ap (λ x. paid x (ind_rule E f (noted 8 (ticked u)))) is ∙ ind_passes (noted 8 (ticked u))

  type_sort : (u : Account) (left : ℕ) → u.left ≡ suc left → sort_of E inf [] (Ind f) u ≡ done set_sort (noted 8 (ticked u))
  unfolding sort_of bind
  type_sort u left is =
      let v = noted 8 (ticked u) in
      ap (λ r. bind r (λ T v. bind (whnf E (values []) T v) (λ W w. sort_found inf [] T W w))) (type_type u left is)
      ∙ ap (λ r. bind r (λ W w. sort_found inf [] (SortT set_sort) W w)) (steps_sort E (values []) v.left v)
      ∙ sort_is inf v

  abbrev last : Account → Account
  last u = noted 8 (ticked (noted 9 (ticked u)))

  no_evidence : (u : Account) (left : ℕ) → u.left ≡ suc (suc left) → type_test E inf [] (Construct f c) u ≡ done None (last u)
  unfolding bind
  no_evidence u left is =
      let v = noted 9 (ticked u) in
      let more : u.left - 1 ≡ suc left = omega (arith, is) in
      ap (λ r. bind r (λ T v. bind (ends_in_sort E v.left [] T v) (λ b w. arity_found E inf [] T b w))) (main_type u (suc left) is)
      ∙ ap (λ r. bind r (λ b w. arity_found E inf [] (Ind f) b w)) (no_sort E f v.left v)
      ∙ ap (λ r. bind r (λ s w. proof_found s w)) (type_sort v left more)

  not_erasable : (u : Account) (left : ℕ) → u.left ≡ suc (suc left) → erasable_test E inf [] (Construct f c) u ≡ done None (last u)
  not_erasable u left is =
      ap (λ o. constructor_test E inf [] (Construct f c) c o u) (kept_family E f c h)
      ∙ ap (λ o. numbered_test E inf [] (Construct f c) set_sort o u) h.is_ctor
      ∙ no_evidence u left is

  main_erased : (u : Account) (left : ℕ) → u.left ≡ suc (suc left) → erased E inf [] (Construct f c) u ≡ done (BConstruct f c) (last u)
  unfolding tested bind
  main_erased u left is = ap (λ r. bind r (λ o v. box_or o (λ w. done (BConstruct f c) w) v)) (not_erasable u left is)

-- no constant is reached

abbrev nothing : Reached
nothing = record { constants = []; without_body = None }

none_reached : (E : Env) (infers : Typing) (ts : List BoxTerm) (ds : List Kept) (u : Account) → ArePlainBlocks ds → erased_constants E infers ts ds u ≡ gives nothing u
unfolding erased_constants
none_reached E infers ts [] u h = refl
none_reached E infers ts (Constant k T b ∷ ds) u h = absurd h
none_reached E infers ts (Heads B ∷ ds) u h = absurd h
none_reached E infers ts (Whole B ∷ ds) u h = none_reached E infers ts ds u h.2

-- the families' counts

are_zero : (Cs : List Constructor) → AreConstants Cs → AreZero (map arguments_of Cs)
are_zero [] h = tt
are_zero (C ∷ Cs) h = (ap length h.0, are_zero Cs h.2)

from_block : (B : Block) (n : ℕ) (Gs : List Family) → B.params ≡ [] → HaveConstants Gs → HaveNoCounts (families_from B n Gs)
from_block B n [] e h = tt
from_block B n (G ∷ Gs) e h = (ap length e, are_zero G.ctors h.0, from_block B (suc n) Gs e h.1)

both_no_counts : (Fs Gs : List BoxFamily) → HaveNoCounts Fs → HaveNoCounts Gs → HaveNoCounts (Fs ++ Gs)
both_no_counts [] Gs h k = k
both_no_counts (F ∷ Fs) Gs h k = (h.0, h.1, both_no_counts Fs Gs h.2 k)

no_counts : (ds : List Kept) → ArePlainBlocks ds → HaveNoCounts (box_families ds)
no_counts [] h = tt
no_counts (Constant k T b ∷ ds) h = absurd h
no_counts (Heads B ∷ ds) h = absurd h
no_counts (Whole B ∷ ds) h = both_no_counts (box_families ds) (families_from B 0 B.families) (no_counts ds h.2) (from_block B 0 B.families h.0 h.1)

-- the program

program_plain : (E : Env) (f : FamilyId) (c : ℕ) → KeepsPlain E f c → IsPlainProgram (plain_program (box_families E.declarations) f c) f c
program_plain E f c h =
    let k = kept_is E.declarations f.block (Whole h.block) h.kept in
    let n = constant_at h.ctors c h.ctor h.is_ctor h.constants in
    record {
      is = refl;
      no_counts = no_counts E.declarations h.blocks;
      family = counts_of f (enumeration_of h.ctors);
      there = family_there E f (enumeration_of h.ctors) (h.block, k.0, k.1, h.at);
      named = refl;
      not_prop = refl;
      params = refl;
      count = slice_get-map arguments_of h.ctors c ∙ ap (option_map arguments_of) h.is_ctor ∙ ap (λ As. Some (length As)) n.0;
    }

pub mains_are_erased : PlainMainsAreErased
unfolding and_then
mains_are_erased E q n f c left u h is =
    let ended = last E q n f c h u in
    let infers : Typing = infer E q (suc n) in (
      ap (λ r. and_then (at_place AtMain r) (λ main' v. and_then (erased_constants E infers (main' ∷ []) E.declarations v) (λ r w. gives (answer E main' r r.without_body) w))) (main_erased E q n f c h u left is)
          ∙ ap (λ r. and_then r (λ r w. gives (answer E (BConstruct f c) r r.without_body) w)) (none_reached E infers (BConstruct f c ∷ []) E.declarations ended h.blocks),
      program_plain E f c h,
    )
