-- Well-counted terms stay so in a larger environment.
use Rattle.std.proofs.Common.{◌≡◌, ℕ, Bool, true, false, if◌then◌else◌, List, [], ◌∷◌, Option, Some, None, refl, sym, ap, ◌∙◌, subst}
use Rattle.universe_levels.specs.declared.sort.Sort.{Sort}
use Rattle.universe_levels.specs.Consistency.{IsSortOver}
use Rattle.universe_levels.specs.declared.constraint.Constraint.{Constraint}
use Rattle.trees.proofs.Shape.{each_weaker}
use Rattle.pc_terms.specs.declared.leaf.Name.{Name}
use Rattle.pc_terms.specs.declared.leaf.FamilyId.{FamilyId}
use Rattle.pc_terms.specs.Syntax.{Label, SortOf, CaseOf, Term}
use Rattle.calculus_rules.specs.declared.declaration.Constructor.{Constructor}
use Rattle.calculus_rules.specs.declared.declaration.Family.{Family}
use Rattle.calculus_rules.specs.declared.declaration.Block.{Block}
use Rattle.calculus_rules.specs.declared.declaration.Kept.{Kept}
use Rattle.calculus_rules.specs.declared.declaration.Kept.TheVariants.{Constant, Heads, Block as Whole}
use Rattle.calculus_rules.specs.Environment.{Env, FamilyDecl, here, there, name_of, family_at}
use Rattle.calculus_rules.specs.Accepted.{IsFresh, env}
use Rattle.calculus_rules.specs.Same.{same_names}
use Rattle.calculus_rules.specs.Lookups.{if_some, kept_at, whole_block, family_of}
use Rattle.pc_rules.specs.WellCounted.{AreSortsOver, IsCountedNode, HasCounts, IsCounted, AreCounted, AreCountedConstructors, AreCountedFamilies, IsCountedBlock, IsCountedBody, IsCountedKept, HasCountedDeclarations}
use Rattle.pc_rules.proofs.WeakNext.{same_names_is, kept_is, none_some}
use Rattle.rule_laws.proofs.Names.{kept_there}

-- the environments have as many levels, and what the first finds of a family, the second finds too
pub record FindsAs (E H : Env) : Type 0 where
  pub levels : E.levels ≡ H.levels
  pub families : (f : FamilyId) (F : FamilyDecl) → family_of E f ≡ Some F → family_of H f ≡ Some F

module _ (E H : Env) (finds : FindsAs E H) where
  sort_more : (s : Sort) → IsSortOver E.levels s → IsSortOver H.levels s
  sort_more s h = subst (λ n. IsSortOver n s) finds.levels h

  sorts_more : (ss : List Sort) → AreSortsOver E.levels ss → AreSortsOver H.levels ss
  sorts_more ss h = subst (λ n. AreSortsOver n ss) finds.levels h

  counts_more : (l : Label) (gs : List (List ℕ)) → HasCounts E l gs → HasCounts H l gs
  counts_more (CaseOf f n) (ps ∷ bs ∷ gs) h = (h.0, finds.families f h.0 h.1, h.2, h.3, h.4)
  counts_more (SortOf s) gs h = sort_more s h
  counts_more l gs h = tt

  pub counted_more : (t : Term) → IsCounted E t → IsCounted H t
  counted_more t h = each_weaker (IsCountedNode E) (IsCountedNode H) (λ l gs h. (h.0, counts_more l gs h.1)) t h

  pub all_more : (ts : List Term) → AreCounted E ts → AreCounted H ts
  all_more [] h = tt
  all_more (t ∷ ts) h = (counted_more t h.0, all_more ts h.1)

  pub constructors_more : (Cs : List Constructor) → AreCountedConstructors E Cs → AreCountedConstructors H Cs
  constructors_more [] h = tt
  constructors_more (C ∷ Cs) h = ((all_more C.args h.0.0, all_more C.result h.0.1, sorts_more C.arg_sorts h.0.2), constructors_more Cs h.1)

  families_more : (Fs : List Family) → AreCountedFamilies E Fs → AreCountedFamilies H Fs
  families_more [] h = tt
  families_more (F ∷ Fs) h = ((all_more F.indices h.0.0, constructors_more F.ctors h.0.1, sort_more F.sort h.0.2), families_more Fs h.1)

  pub block_more : (B : Block) → IsCountedBlock E B → IsCountedBlock H B
  block_more B h = (all_more B.params h.0, families_more B.families h.1)

  pub body_more : (b : Option Term) → IsCountedBody E b → IsCountedBody H b
  body_more None h = tt
  body_more (Some b) h = counted_more b h

  pub kept_more : (d : Kept) → IsCountedKept E d → IsCountedKept H d
  kept_more (Constant k T b) h = (counted_more T h.0, body_more b h.1)
  kept_more (Heads B) h = block_more B h
  kept_more (Whole B) h = block_more B h

-- a new name

pub fresh_is : (ds : List Kept) (k : Name) → kept_at ds k ≡ None → IsFresh k ds
fresh_is ds k e d h p =
    let r = kept_there h in none_some (sym e ∙ subst (λ k. kept_at ds k ≡ Some r.0) p r.1)

pub not_found : (ds : List Kept) (k : Name) (o : Option Kept) → IsFresh k ds → kept_at ds k ≡ o → o ≡ None
not_found ds k None f e = refl
not_found ds k (Some d) f e = let r = kept_is ds k d e in absurd (f d r.0 r.1)

first_or_rest : (x : Kept) (ds : List Kept) (f : FamilyId) (F : FamilyDecl) (b : Bool) → same_names (name_of x) f.block ≡ b → IsFresh (name_of x) ds →
    if_some (whole_block (kept_at ds f.block)) (λ B. family_at B f.family) ≡ Some F →
    if_some (whole_block (if b then Some x else kept_at ds f.block)) (λ B. family_at B f.family) ≡ Some F
first_or_rest x ds f F true p fresh e =
    let k = same_names_is (name_of x) f.block p in
    let q : kept_at ds f.block ≡ None = not_found ds f.block (kept_at ds f.block) (subst (λ k. IsFresh k ds) k fresh) refl in
    absurd (none_some (sym (ap (λ o. if_some (whole_block o) (λ B. family_at B f.family)) q) ∙ e))
first_or_rest x ds f F false p fresh e = e

pub finds_more : (levels : ℕ) (cs : List Constraint) (ds : List Kept) (x : Kept) → IsFresh (name_of x) ds → FindsAs (env levels cs ds) (env levels cs (x ∷ ds))
finds_more levels cs ds x fresh = record {
  levels = refl;
  families = λ f F e. first_or_rest x ds f F (same_names (name_of x) f.block) refl fresh e;
}

-- under the heads of a block nothing more is found than without
heads_or_rest : (B : Block) (ds : List Kept) (f : FamilyId) (F : FamilyDecl) (b : Bool) →
    if_some (whole_block (if b then Some (Heads B) else kept_at ds f.block)) (λ B. family_at B f.family) ≡ Some F →
    if_some (whole_block (kept_at ds f.block)) (λ B. family_at B f.family) ≡ Some F
heads_or_rest B ds f F true e = absurd (none_some e)
heads_or_rest B ds f F false e = e

pub finds_without : (levels : ℕ) (cs : List Constraint) (ds : List Kept) (B : Block) → FindsAs (env levels cs (Heads B ∷ ds)) (env levels cs ds)
finds_without levels cs ds B = record {
  levels = refl;
  families = λ f F e. heads_or_rest B ds f F (same_names B.name f.block) e;
}

-- one more well-counted declaration
pub env_more : (levels : ℕ) (cs : List Constraint) (ds : List Kept) (x : Kept) → IsFresh (name_of x) ds → HasCountedDeclarations (env levels cs ds) →
    IsCountedKept (env levels cs ds) x → HasCountedDeclarations (env levels cs (x ∷ ds))
env_more levels cs ds x fresh w h d here = kept_more (env levels cs ds) (env levels cs (x ∷ ds)) (finds_more levels cs ds x fresh) x h
env_more levels cs ds x fresh w h d (there k) = kept_more (env levels cs ds) (env levels cs (x ∷ ds)) (finds_more levels cs ds x fresh) d (w d k)
