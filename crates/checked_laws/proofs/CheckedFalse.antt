-- What is kept of a block that was given has the same constructors, but for the sorts of their arguments; so a family that was given without constructors is kept so.
use Rattle.std.proofs.Common.{ℕ, zero, suc, ◌≡◌, List, [], ◌∷◌, map, reverse, Some, None, option_map, slice_get, refl, sym, ap, ◌∙◌, subst}
use Rattle.std.proofs.lemmas.List.{reverse-reverse}
use Rattle.pc_terms.specs.declared.leaf.Name.{Name}
use Rattle.pc_terms.specs.declared.leaf.FamilyId.{FamilyId}
use Rattle.pc_terms.specs.Syntax.{Term}
use Rattle.calculus_rules.specs.declared.declaration.Block.{Block}
use Rattle.calculus_rules.specs.declared.declaration.Family.{Family}
use Rattle.calculus_rules.specs.declared.declaration.Kept.{Kept}
use Rattle.calculus_rules.specs.declared.declaration.Kept.TheVariants.{Constant, Heads, Block as Whole}
use Rattle.calculus_rules.specs.Environment.{Env, Has, with_parameters}
use Rattle.calculus_rules.proofs.Spines.{one_item}
use Rattle.pc_rules.specs.DirectedDeclarations.{Given, GivenConstant, GivenBlock}
use Rattle.rule_laws.specs.Declarations.{plain, plain_block, plain_family, plain_constructor, plain_given}
use Rattle.progress.specs.Ends.{HasNoAxioms}
use Rattle.metatheory.specs.EmptyFamilies.{IsEmptyFamily}
use Rattle.metatheory.proofs.EmptyFamilies.{empty_families_have_no_values}
use Rattle.checked_laws.specs.CheckedFalse.{DeclaresEmpty, DeclaresNoAxiom, CheckedFalseHasNoValue, CheckedFalseNeverEnds}
use Rattle.checked_laws.proofs.EmptyFamilies.{empty_families_never_end}
use Rattle.calculus_rules.proofs.Listing.{has_map, of_has_map, has_turned}

-- blocks that are the same without the sorts of their constructors' arguments

none_left : {X Y : Type 0} (g : X → Y) (xs : List X) → map g xs ≡ [] → xs ≡ []
none_left g [] e = refl
none_left g (x ∷ xs) e = absurd (cc)

family_there : (Fs Gs : List Family) (n : ℕ) (F : Family) → map plain_family Gs ≡ map plain_family Fs → slice_get Fs n ≡ Some F → F.ctors ≡ [] →
    (G : Family) × (slice_get Gs n ≡ Some G) × (G.ctors ≡ [])
family_there [] Gs n F e at none = absurd (cc)
family_there (F' ∷ Fs) [] n F e at none = absurd (cc)
family_there (F' ∷ Fs) (G ∷ Gs) zero F e at none =
    let families : plain_family G ≡ plain_family F' = cc in
    let is : F' ≡ F = one_item at in
    (G, refl, none_left plain_constructor G.ctors (ap (λ F. F.ctors) families ∙ ap (λ F. map plain_constructor F.ctors) is ∙ ap (map plain_constructor) none))
family_there (F' ∷ Fs) (G ∷ Gs) (suc n) F e at none =
    let rest : map plain_family Gs ≡ map plain_family Fs = cc in family_there Fs Gs n F rest at none

block_in : Kept → Block → Block
block_in (Whole B) o = B
block_in _ o = o

is_whole : (d : Kept) (B : Block) → plain d ≡ Whole B → (D : Block) × (d ≡ Whole D) × (plain_block D ≡ B)
unfolding block_in
is_whole (Whole D) B e = (D, refl, ap (λ d. block_in d B) e)
is_whole (Heads D) B e = absurd (cc)
is_whole (Constant k T b) B e = absurd (cc)

module _ (ds : List Given) (E : Env) (same : map plain E.declarations ≡ reverse (map plain_given ds)) where
  empty_kept : (f : FamilyId) → DeclaresEmpty ds f → IsEmptyFamily E f
  empty_kept f (B, has, name, (F, at, none)) =
      let there : Has (map plain E.declarations) (Whole (plain_block B)) = subst (λ xs. Has xs (Whole (plain_block B))) (sym same) (has_turned (map plain_given ds) (has_map plain_given has)) in
      let (d, kept, is) = of_has_map plain E.declarations there in
      let (D, whole, alike) = is_whole d (plain_block B) is in
      let (G, at', none') = family_there B.families D.families f.family F (ap (λ B. B.families) alike) at none in
      (with_parameters D.params G, (D, subst (Has E.declarations) whole kept, ap (λ B. B.name) alike ∙ name, ap (option_map (with_parameters D.params)) at'), none')

  given_axiom : (g : Given) (k : Name) (T : Term) → plain_given g ≡ Constant k T None → g ≡ GivenConstant k T None
  given_axiom (GivenConstant l U (Some b)) k T e = absurd (cc)
  given_axiom (GivenConstant l U None) k T e = cc
  given_axiom (GivenBlock B) k T e = absurd (cc)

  no_axioms_kept : DeclaresNoAxiom ds → HasNoAxioms E
  no_axioms_kept n k (T, has) =
      let back = subst (λ xs. Has xs (Constant k T None)) (reverse-reverse (map plain_given ds))
      (has_turned (reverse (map plain_given ds)) (subst (λ xs. Has xs (Constant k T None)) same (has_map plain has))) in
      let (g, given, is) = of_has_map plain_given ds back in
      n k T (subst (Has ds) (given_axiom g k T is) given)

pub checked_false_has_no_value : CheckedFalseHasNoValue
checked_false_has_no_value levels cs ds main E T w f empty o v n e =
    empty_families_have_no_values E w.formed.accepted f (empty_kept ds E w.declarations f empty) main o v n e

pub checked_false_never_ends : CheckedFalseNeverEnds
checked_false_never_ends levels cs ds main E T w f empty o none u =
    empty_families_never_end E w.formed.accepted (no_axioms_kept ds E w.declarations none) f (empty_kept ds E w.declarations f empty) main o u
