-- An accepted environment is closed.
use Rattle.std.proofs.Common.{◌≡◌, ℕ, suc, ◌+◌, List, [], length, Option, Some, inl, inr, refl, sym, ap, ◌∙◌, subst, arith, slice_get}
use Rattle.universe_levels.specs.declared.constraint.Constraint.{Constraint}
use Rattle.pc_terms.specs.declared.leaf.Name.{Name}
use Rattle.pc_terms.specs.declared.leaf.FamilyId.{FamilyId}
use Rattle.pc_terms.specs.Syntax.{Term, Closed, ClosedEach}
use Rattle.calculus_rules.specs.declared.declaration.Constructor.{Constructor}
use Rattle.calculus_rules.specs.declared.declaration.Family.{Family}
use Rattle.calculus_rules.specs.declared.declaration.Block.{Block}
use Rattle.calculus_rules.specs.declared.declaration.Kept.{Kept}
use Rattle.calculus_rules.specs.declared.declaration.Kept.TheVariants.{Constant, Heads, Block as Whole}
use Rattle.calculus_rules.specs.Environment.{FamilyDecl, Env, Has, here, there, with_parameters, KeepsFamily, KnowsFamily}
use Rattle.calculus_rules.specs.Context.{Context, extend}
use Rattle.calculus_rules.specs.Typing.{Mode, TypesAll, no_terms, term}
use Rattle.calculus_rules.specs.Accepted.{Accepted, empty, constant, block, BlockFits, FamilyFits, ConstructorFits, IsAccepted}
use Rattle.typing_laws.proofs.ClosedEnv.{ClosedEnv, ClosedFamily, ClosedConstructor, ClosedEntries}
use Rattle.typing_laws.proofs.TypedClosed.{types_closed, entry_sorts_closed, entries_closed, extend_length}
use Rattle.calculus_rules.proofs.Listing.{from_map}

list_closed : {m : Mode} {E : Env} {c : Context} {s : ℕ → Term} {ts As : List Term} → TypesAll m E c s ts As → ClosedEach (length c) ts
list_closed no_terms = tt
list_closed (term p ps) = (types_closed p, list_closed ps)

all_length : {m : Mode} {E : Env} {c : Context} {s : ℕ → Term} {ts As : List Term} → TypesAll m E c s ts As → length ts ≡ length As
all_length no_terms = refl
all_length (term p ps) = ap suc (all_length ps)

constructor_closed : {H : Env} {B : Block} {G : Family} {C : Constructor} → ConstructorFits H B G C → ClosedConstructor (length B.params) C
constructor_closed {H} {B} {G} {C} h =
    let one : length (extend [] B.params) ≡ length B.params = extend_length B.params [] ∙ omega arith in
    let two : length (extend (extend [] B.params) C.args) ≡ length C.args + length B.params =
    extend_length C.args (extend [] B.params) ∙ ap (λ n. length C.args + n) one in
    record {
      arguments = subst (λ k. ClosedEntries k C.args) one (entry_sorts_closed h.arguments);
      result = subst (λ k. ClosedEach k C.result) two (list_closed h.result);
    }

family_closed : {E H : Env} {B : Block} {G : Family} → BlockFits E H B → FamilyFits E H B G → ClosedFamily (with_parameters B.params G)
family_closed {E} {H} {B} {G} b h =
    let one : length (extend [] B.params) ≡ length B.params = extend_length B.params [] ∙ omega arith in
    record {
      parameters = entries_closed b.parameters;
      indices = subst (λ k. ClosedEntries k G.indices) one (entries_closed h.indices);
      counts = λ n C e. all_length (h.constructors n C e).result;
      constructors = λ n C e. constructor_closed (h.constructors n C e);
    }

type_closed : {levels : ℕ} {cs : List Constraint} {ds : List Kept} {k : Name} {T : Term} {b : Option Term} → Accepted levels cs ds → Has ds (Constant k T b) → Closed 0 T
type_closed empty h = elim h [ ]
type_closed (constant a f p q) here = types_closed p
type_closed (constant a f p q) (there h) = type_closed a h
type_closed (block a f p) (there h) = type_closed a h

body_closed : {levels : ℕ} {cs : List Constraint} {ds : List Kept} {k : Name} {T b : Term} → Accepted levels cs ds → Has ds (Constant k T (Some b)) → Closed 0 b
body_closed empty h = elim h [ ]
body_closed (constant a f p q) here = types_closed q
body_closed (constant a f p q) (there h) = body_closed a h
body_closed (block a f p) (there h) = body_closed a h

kept_closed : {levels : ℕ} {cs : List Constraint} {ds : List Kept} {B : Block} (n : ℕ) (G : Family) → Accepted levels cs ds → Has ds (Whole B) →
    slice_get B.families n ≡ Some G → ClosedFamily (with_parameters B.params G)
kept_closed n G empty h e = elim h [ ]
kept_closed n G (constant a f p q) (there h) e = kept_closed n G a h e
kept_closed n G (block a f p) here e = family_closed p (p.families n G e)
kept_closed n G (block a f p) (there h) e = kept_closed n G a h e

-- no heads of a block are kept
pub no_heads : {levels : ℕ} {cs : List Constraint} {ds : List Kept} {B : Block} → Accepted levels cs ds → Has ds (Heads B) → ⊥
no_heads empty h = elim h [ ]
no_heads (constant a f p q) (there h) = no_heads a h
no_heads (block a f p) (there h) = no_heads a h

pub accepted_closed : (E : Env) → IsAccepted E → ClosedEnv E
accepted_closed E accepted = record {
  types = λ k T b h. type_closed accepted.declarations h;
  bodies = λ k T b h. body_closed accepted.declarations h;
  families = families;
  known = known;
}
  where
    families : (f : FamilyId) (F : FamilyDecl) → KeepsFamily E f F → ClosedFamily F
    families f F (B, h, q, i) =
        let (G, at, e) = from_map (with_parameters B.params) (slice_get B.families f.family) F i in
        subst ClosedFamily (sym e) (kept_closed f.family G accepted.declarations h at)

    known : (f : FamilyId) (F : FamilyDecl) → KnowsFamily E f F → ClosedEntries 0 F.parameters × ClosedEntries (length F.parameters) F.indices
    known f F (B, inl k, q, i) = let h = families f F (B, k, q, i) in (h.parameters, h.indices)
    known f F (B, inr k, q, i) = absurd (no_heads accepted.declarations k)
