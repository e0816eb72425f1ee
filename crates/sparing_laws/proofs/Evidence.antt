-- No closed term of a family outside Prop is erasable, and an application of an erasable function is.
use Rattle.std.proofs.Common.{◌≢◌, List, []}
use Rattle.universe_levels.specs.declared.sort.Sort.TheVariants.{Prop}
use Rattle.pc_terms.specs.declared.leaf.FamilyId.{FamilyId}
use Rattle.pc_terms.specs.Syntax.{Term, SortT, Prod, App, Ind, apply}
use Rattle.calculus_rules.specs.Environment.{Env, FamilyDecl, KeepsFamily}
use Rattle.calculus_rules.specs.Conversion.{Below, equal, back, same}
use Rattle.calculus_rules.specs.Erasable.{Erasable}
use Rattle.calculus_rules.specs.Typing.{bare, Types}
use Rattle.calculus_rules.specs.Accepted.{IsAccepted}
use Rattle.calculus_rules.specs.Lawful.{KeepsTypes}
use Rattle.typing_laws.proofs.Generating.{of_app}
use Rattle.type_laws.specs.Contexts.{IsContext}
use Rattle.type_laws.proofs.Apart.{reduces_equal, above_family, below_family}
use Rattle.type_laws.proofs.StepsKeep.{reduces_keeps}
use Rattle.type_laws.proofs.CommonTypes.{types_have_a_common_one}
use Rattle.type_laws.proofs.Solid.{ByType, by_arity, by_proof, by_type, family_not_arity, family_in_prop, function_types, passes_arity, passes_proof}
use Rattle.sparing_laws.specs.Laws.{DataIsNeverLeft}

-- families outside Prop

-- a type U of a term that has a type below one of the family is above one
pub unerasable : (E : Env) → IsAccepted E → (f : FamilyId) (F : FamilyDecl) (xs : List Term) (t T : Term) → KeepsFamily E f F → F.sort ≢ Prop → Types bare E [] t T →
    Below E [] T (apply (Ind f) xs) → Erasable E [] t → ⊥
unerasable E h f F xs t T k n d b e = go (by_type E h T d e)
  where
    below : (U : Term) → Types bare E [] t U → (ys : List Term) × Below E [] (apply (Ind f) ys) U
    below U p =
        let (P, q, l, l') = types_have_a_common_one E h [] t T U IsContext.empty d p in
        let (ys, r) = below_family E h [] P f xs (Below.chain l b) in
        (ys, Below.chain (equal (back (reduces_equal E [] P (apply (Ind f) ys) r))) l')

    go : ByType E t → ⊥
    go (by_arity {T = U} As s p q) = let (ys, l) = below U p in family_not_arity E h f ys As s (Below.chain l (equal q))
    go (by_proof {T = U} p q) =
        let (ys, l) = below U p in
        let (zs, r) = above_family E h [] U f ys l in
        family_in_prop E h f F zs k n (reduces_keeps E h [] U (apply (Ind f) zs) (SortT Prop) IsContext.empty r q)

pub data_is_never_left : DataIsNeverLeft
data_is_never_left E h f F xs t k n d e = unerasable E h f F xs t (apply (Ind f) xs) k n d (equal same) e

-- functions

pub application_erasable : (E : Env) → IsAccepted E → (g a v T : Term) → Types bare E [] (App g a) T → KeepsTypes E (App g a) v → Erasable E [] g → Erasable E [] v
application_erasable E h g a v T d k e = let r = of_app d in go (by_type E h (Prod r.domain r.codomain) r.function e)
  where
    go : ByType E g → Erasable E [] v
    go (by_arity {T = U} As s p q) = passes_arity E h g a v U As s (function_types E h g a T U d p) q k
    go (by_proof {T = U} p q) = passes_proof E h g a v U p q (function_types E h g a T U d p) k
