-- A family of a block that is looked up is one of the block's, with the block's parameters.
use Rattle.std.proofs.Common.{◌≡◌, get_or, Some, slice_get, refl, sym, ap, ◌∙◌}
use Rattle.std.proofs.lemmas.Option.{get_or_from_slice_get}
use Rattle.pc_terms.specs.declared.leaf.FamilyId.{FamilyId}
use Rattle.calculus_rules.specs.declared.declaration.Family.{Family}
use Rattle.calculus_rules.specs.declared.declaration.Block.{Block}
use Rattle.calculus_rules.specs.Environment.{Env, FamilyDecl, with_parameters, family_at}
use Rattle.calculus_rules.specs.Lookups.{if_some, kept_at, whole_block, family_of}
use Rattle.pc_rules.specs.Stops.{stop_of}
use Rattle.pc_rules.specs.declared.stop.Stop.TheVariants.{TooDeep}
use Rattle.pc_terms.specs.declared.term.MakeFault.{MakeFault}
use Rattle.pc_terms.specs.declared.term.MakeFault.TheVariants.{TooDeep as DeepTerm, Memory}
use Rattle.calculus_rules.proofs.Listing.{from_map}

-- a family of a whole block
pub family_of-block : (E : Env) (f : FamilyId) (B : Block) (F : FamilyDecl) → whole_block (kept_at E.declarations f.block) ≡ Some B →
    family_of E f ≡ Some F → (G : Family) × (slice_get B.families f.family ≡ Some G) × (F ≡ with_parameters B.params G)
family_of-block E f B F is e =
    from_map (with_parameters B.params) (slice_get B.families f.family) F (sym (ap (λ o. if_some o (λ B. family_at B f.family)) is) ∙ e)

-- and as it is read from the list
pub family_of-read : (E : Env) (f : FamilyId) (B : Block) (F : FamilyDecl) (G : Family) → whole_block (kept_at E.declarations f.block) ≡ Some B →
    G ≡ get_or B.families f.family G → family_of E f ≡ Some F → F ≡ with_parameters B.params G
family_of-read E f B F G is at e =
    let (H, kept, decl) = family_of-block E f B F is e in
    decl ∙ ap (with_parameters B.params) (sym (get_or_from_slice_get B.families f.family H G kept) ∙ sym at)

-- a stop as too deep is that of a term too deep
pub stop_of-deep : (e : MakeFault) → stop_of e ≡ TooDeep → e ≡ DeepTerm
stop_of-deep DeepTerm e = refl
stop_of-deep Memory e = cc
