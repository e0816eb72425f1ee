-- What a text within the limits says of the declarations that it spells: each family has few constructors.
use Rattle.std.proofs.Common.{◌≡◌, ℕ, zero, suc, ◌+◌, ◌<◌, ◌≤◌, List, [], ◌∷◌, map, length, Some, None, sym, ap, subst, ◌∙◌, arith}
use Rattle.std.specs.Prelude.{slice_get, nat_lt}
use Rattle.std.proofs.lemmas.Bool.{ltb-true}
use Rattle.std.proofs.lemmas.List.{length-map}
use Rattle.dump_grammar.specs.declared.refusal.Limit.TheVariants as limits
use Rattle.dump_grammar.specs.Declarations.{CtorForm, FamilyForm, DeclForm, ConstantForm, BlockForm, constructor_meaning, family_meaning, declaration_meaning}
use Rattle.dump_grammar.specs.Limits.{first, one_more_over}
use Rattle.dump_grammar.specs.Named.{Named, NamedFamily, Block}
use Rattle.dump_grammar.specs.Terms.{Form}
use Rattle.dump_grammar.specs.Within.{sort_over, bindings_over, ctor_over, ctors_over, family_over, families_over, declaration_over, declarations_over}
use Rattle.dump_grammar.proofs.NoLimit.{none_both, test_holds}

few-ctors : (n : ℕ) (cs : List CtorForm) → n ≤ 1024 → ctors_over n cs ≡ None → n + length cs ≤ 1024
unfolding ctors_over
few-ctors n [] h e = omega (arith, h)
few-ctors n (c ∷ cs) h e =
    let p = none_both (one_more_over 1024 limits.Constructors n) (first (ctor_over c) (ctors_over (n + 1) cs)) e in
    let rest = (none_both (ctor_over c) (ctors_over (n + 1) cs) p.1).1 in
    let room : n < 1024 = ltb-true n 1024 (test_holds (nat_lt n 1024) limits.Constructors p.0) in
    let more : (n + 1) + length cs ≤ 1024 = few-ctors (n + 1) cs (omega (arith, room)) rest in
    omega (arith, more)

few-in-family : (f : FamilyForm) (g : NamedFamily) → family_meaning f ≡ g → family_over f ≡ None → length g.ctors ≤ 1024
few-in-family f g same over =
    let p = none_both (sort_over f.sort) (first (bindings_over 0 f.indices) (ctors_over 0 f.ctors)) over in
    let q = none_both (bindings_over 0 f.indices) (ctors_over 0 f.ctors) p.1 in
    let few : 0 + length f.ctors ≤ 1024 = few-ctors 0 f.ctors (omega arith) q.1 in
    let many : length g.ctors ≡ length f.ctors = ap (λ x. length x.ctors) (sym same) ∙ length-map f.ctors constructor_meaning in
    omega (arith, few, many)

few-in-families : (fs : List FamilyForm) (n j : ℕ) (g : NamedFamily) → slice_get (map family_meaning fs) j ≡ Some g → families_over n fs ≡ None → length g.ctors ≤ 1024
unfolding families_over
few-in-families [] n j g e h = absurd cc
few-in-families (f ∷ fs) n zero g e h =
    let p = none_both (one_more_over 255 limits.Families n) (first (family_over f) (families_over (n + 1) fs)) h in
    let q = none_both (family_over f) (families_over (n + 1) fs) p.1 in
    let same : family_meaning f ≡ g = cc in
    few-in-family f g same q.0
few-in-families (f ∷ fs) n (suc j) g e h =
    let p = none_both (one_more_over 255 limits.Families n) (first (family_over f) (families_over (n + 1) fs)) h in
    let q = none_both (family_over f) (families_over (n + 1) fs) p.1 in
    few-in-families fs (n + 1) j g e q.1

few-in-block : (f : FamilyForm) (fs : List FamilyForm) (j : ℕ) (g : NamedFamily) → slice_get (family_meaning f ∷ map family_meaning fs) j ≡ Some g →
    family_over f ≡ None → families_over 1 fs ≡ None → length g.ctors ≤ 1024
few-in-block f fs zero g e one more = let same : family_meaning f ≡ g = cc in few-in-family f g same one
few-in-block f fs (suc j) g e one more = few-in-families fs 1 j g e more

pub few-declared : (ds : List DeclForm) (n i j : ℕ) (t : Form) (k : List ℕ) (ps : List Named) (fs : List NamedFamily) (g : NamedFamily) →
    slice_get (map declaration_meaning ds) i ≡ Some (Block k ps fs) → slice_get fs j ≡ Some g → declarations_over n ds t ≡ None → length g.ctors ≤ 1024
unfolding declaration_meaning declarations_over declaration_over
few-declared [] n i j t k ps fs g e at h = absurd cc
few-declared (ConstantForm k' A b ∷ ds) n zero j t k ps fs g e at h = absurd cc
few-declared (BlockForm k' qs f more ∷ ds) n zero j t k ps fs g e at h =
    let p = none_both (one_more_over 65536 limits.Declarations n) (first (declaration_over (BlockForm k' qs f more)) (declarations_over (n + 1) ds t)) h in
    let q = none_both (declaration_over (BlockForm k' qs f more)) (declarations_over (n + 1) ds t) p.1 in
    let r = none_both (bindings_over 0 qs) (first (family_over f) (families_over 1 more)) q.0 in
    let s = none_both (family_over f) (families_over 1 more) r.1 in
    let same : family_meaning f ∷ map family_meaning more ≡ fs = cc in
    few-in-block f more j g (subst (λ xs. slice_get xs j ≡ Some g) (sym same) at) s.0 s.1
few-declared (d ∷ ds) n (suc i) j t k ps fs g e at h =
    let p = none_both (one_more_over 65536 limits.Declarations n) (first (declaration_over d) (declarations_over (n + 1) ds t)) h in
    let q = none_both (declaration_over d) (declarations_over (n + 1) ds t) p.1 in
    few-declared ds (n + 1) i j t k ps fs g e at q.1
