-- The environment of bool with `false` as main is answerable.
use Rattle.std.proofs.Common.{◌≡◌, ◌≢◌, ℕ, List, [], ◌∷◌, refl, sym, ap, subst, arith, lit<}
use Rattle.std.specs.Prelude.{All, AllPairs, slice_get}
use Rattle.std.proofs.lemmas.List.Elements.{All-nil, All-cons}
use Rattle.std.proofs.lemmas.List.Kept.{AllPairs-cons}
use Rattle.pc_terms.specs.declared.leaf.Name.{Name}
use Rattle.pc_terms.specs.declared.leaf.FamilyId.{FamilyId}
use Rattle.pc_terms.specs.Syntax.{Construct}
use Rattle.dump_reader.specs.declared.declaration.RawCtor.{RawCtor}
use Rattle.dump_reader.specs.declared.declaration.RawFamily.{RawFamily}
use Rattle.dump_reader.specs.declared.declaration.RawDecl.{RawDecl}
use Rattle.dump_reader.specs.declared.environment.RawEnv.{RawEnv}
use Rattle.driver.specs.Judged.{name_of}
use Rattle.driver.specs.Plain.{IsConstant, IsEnumerationBlock}
use Rattle.driver.proofs.Accepting.{constant, enumeration, enumeration_block}
use Rattle.driver.specs.Answerable.{HasDistinctConstructors, HasDistinctNames, IsAnswerable}

abbrev name : ℕ → Name
name n = record { 0 = n }

abbrev ctors : List RawCtor
ctors = constant (name 1) ∷ constant (name 2) ∷ []

abbrev bool : RawFamily
bool = enumeration (name 0) ctors

abbrev block : RawDecl
block = enumeration_block (name 0) (name 0) ctors

abbrev bool_family : FamilyId
bool_family = record { block = name 0; family = 0 }

one : {X : Type 0} (P : X → Type 0) (x : X) → P x → All P (x ∷ [])
one P x h = All-cons P x [] h (All-nil P)

one_pair : {X : Type 0} (R : X → X → Type 0) (x : X) → AllPairs R (x ∷ [])
one_pair R x = AllPairs-cons R x [] (All-nil (R x)) (λ i j d lt within. absurd (omega (arith, within)))

other : name 1 ≢ name 2
other e = let q : 1 ≡ 2 = ap (λ k. k.0) e in omega (arith, q)

distinct : HasDistinctConstructors bool
distinct = AllPairs-cons (λ a b. a.name ≢ b.name) (constant (name 1)) (constant (name 2) ∷ []) (one (λ b. name 1 ≢ b.name) (constant (name 2)) other) (one_pair (λ a b. a.name ≢ b.name) (constant (name 2)))

constants : All IsConstant bool.ctors
constants = All-cons IsConstant (constant (name 1)) (constant (name 2) ∷ []) (refl, refl) (one IsConstant (constant (name 2)) (refl, refl))

bool_is_answerable : (e : RawEnv) → e.levels ≡ [] → e.constraints ≡ [] → e.decls ≡ block ∷ [] → e.main ≡ Construct bool_family 1 → IsAnswerable e
bool_is_answerable e levels constraints decls main = record {
  id = bool_family;
  number = 1;
  plain = record {
    no_level = levels;
    no_constraint = constraints;
    blocks = subst (All IsEnumerationBlock) (sym decls) (one IsEnumerationBlock block (record { name = name 0; family = bool; is = refl; enumeration = record { sort_is_set = refl; no_index = refl; constants = constants } }));
    main_is = main;
  };
  distinct = subst (AllPairs (λ a b. name_of a ≢ name_of b)) (sym decls) (one_pair (λ a b. name_of a ≢ name_of b) block);
  constructors = subst (All HasDistinctNames) (sym decls) (one HasDistinctNames block (one HasDistinctConstructors bool distinct));
  main_declared = record {
    place = 0;
    params = [];
    families = bool ∷ [];
    is_block = ap (λ ds. slice_get ds 0) decls;
    family = bool;
    is_family = refl;
    below = lit< tt;
  };
}
