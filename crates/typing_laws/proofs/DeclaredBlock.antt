-- What is known while a block is being declared is known once it is kept.
use Rattle.std.proofs.Common.{◌≡◌, ℕ, List, ◌∷◌, Option, Some, map, inl, inr, refl, sym, ap, ◌∙◌, slice_get, option_map}
use Rattle.std.proofs.lemmas.Option.{slice_get-map}
use Rattle.universe_levels.specs.declared.constraint.Constraint.{Constraint}
use Rattle.pc_terms.specs.declared.leaf.Name.{Name}
use Rattle.pc_terms.specs.declared.leaf.FamilyId.{FamilyId}
use Rattle.pc_terms.specs.Syntax.{Term}
use Rattle.calculus_rules.specs.declared.declaration.Block.{Block}
use Rattle.calculus_rules.specs.declared.declaration.Kept.{Kept}
use Rattle.calculus_rules.specs.declared.declaration.Kept.TheVariants.{Constant, Heads, Block as Whole}
use Rattle.calculus_rules.specs.Environment.{FamilyDecl, Has, here, there, with_parameters, family_at, head_of, heads_of, KnowsFamily}
use Rattle.calculus_rules.specs.Instances.{family_type}
use Rattle.calculus_rules.specs.Accepted.{block, env}
use Rattle.typing_laws.proofs.Declarations.{Extends, KnowsType}
use Rattle.calculus_rules.proofs.Listing.{from_map}

-- the block that was being declared is kept
pub declared : (levels : ℕ) (cs : List Constraint) (ds : List Kept) (B : Block) → Extends (env levels cs (Heads (heads_of B) ∷ ds)) (env levels cs (Whole B ∷ ds))
declared levels cs ds B = record {
  levels = refl;
  constraints = refl;
  constants = constants;
  blocks = blocks;
  known = known;
}
  where
    constants : (k : Name) (T : Term) (b : Option Term) → Has (Heads (heads_of B) ∷ ds) (Constant k T b) → Has (Whole B ∷ ds) (Constant k T b)
    constants k T b (there h) = there h

    blocks : (D : Block) → Has (Heads (heads_of B) ∷ ds) (Whole D) → Has (Whole B ∷ ds) (Whole D)
    blocks D (there h) = there h

    -- a family of the heads is one of the block, with the same type
    from_heads : (f : FamilyId) (D : FamilyDecl) (A : Block) → Has (Heads (heads_of B) ∷ ds) (Heads A) → A.name ≡ f.block → family_at A f.family ≡ Some D →
        KnowsType (env levels cs (Whole B ∷ ds)) f D
    from_heads f D A (there h) q i = (D, (A, inr (there h), q, i), refl)
    from_heads f D A here q i =
        let (H, at, e) = from_map (with_parameters B.params) (slice_get (map head_of B.families) f.family) D i in
        let (G, there_it, e') = from_map head_of (slice_get B.families f.family) H (sym (slice_get-map head_of B.families f.family) ∙ at) in (
          with_parameters B.params G,
          (B, inl here, q, ap (option_map (with_parameters B.params)) there_it),
          ap (λ H. family_type (with_parameters B.params H)) (sym e') ∙ ap family_type (sym e),
        )

    known : (f : FamilyId) (D : FamilyDecl) → KnowsFamily (env levels cs (Heads (heads_of B) ∷ ds)) f D → KnowsType (env levels cs (Whole B ∷ ds)) f D
    known f D (A, inl h, q, i) = (D, (A, inl (blocks A h), q, i), refl)
    known f D (A, inr h, q, i) = from_heads f D A h q i
