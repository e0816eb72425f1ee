-- Environments that declare each name one_declaration, and what is found in them by a name.
use Rattle.std.proofs.Common.{◌≡◌, ℕ, Bool, true, false, if◌then◌else◌, List, ◌∷◌, Some, refl, sym, ap, ◌∙◌, subst}
use Rattle.std.proofs.lemmas.Bool.{eq-eqb}
use Rattle.universe_levels.specs.declared.constraint.Constraint.{Constraint}
use Rattle.pc_terms.specs.declared.leaf.Name.{Name}
use Rattle.pc_terms.specs.declared.leaf.FamilyId.{FamilyId}
use Rattle.calculus_rules.specs.declared.declaration.Block.{Block}
use Rattle.calculus_rules.specs.declared.declaration.Kept.{Kept}
use Rattle.calculus_rules.specs.declared.declaration.Kept.TheVariants.{Heads, Block as Whole}
use Rattle.calculus_rules.specs.Environment.{Env, FamilyDecl, Has, here, there, name_of, heads_of, family_at, KeepsFamily}
use Rattle.calculus_rules.specs.Accepted.{Accepted, IsAccepted, IsFresh, env}
use Rattle.calculus_rules.specs.Same.{same_names}
use Rattle.calculus_rules.specs.Lookups.{if_some, kept_at, whole_block, family_of}
use Rattle.pc_rules.specs.DirectedDeclarations.{with_heads}
use Rattle.pc_rules.proofs.WeakNext.{kept_is}
use Rattle.rule_laws.specs.Reduction.{HasNamesOnce}
use Rattle.calculus_rules.proofs.OneEach.{one_declaration}

pub once_accepted : (levels : ℕ) (cs : List Constraint) (ds : List Kept) → Accepted levels cs ds → HasNamesOnce (env levels cs ds)
once_accepted levels cs ds a d d' h h' e = one_declaration a h h' e

pub accepted_once : (E : Env) → IsAccepted E → HasNamesOnce E
accepted_once E a d d' h h' e = one_declaration a.declarations h h' e

one_more : {ds : List Kept} {x d d' : Kept} → IsFresh (name_of x) ds → ((d d' : Kept) → Has ds d → Has ds d' → name_of d ≡ name_of d' → d ≡ d') →
    Has (x ∷ ds) d → Has (x ∷ ds) d' → name_of d ≡ name_of d' → d ≡ d'
one_more f o here here e = refl
one_more f o here (there h') e = absurd (f _ h' (sym e))
one_more f o (there h) here e = absurd (f _ h e)
one_more f o (there h) (there h') e = o _ _ h h' e

pub heads_once : (E : Env) (B : Block) → HasNamesOnce E → IsFresh B.name E.declarations → HasNamesOnce (with_heads E B)
heads_once E B o f d d' h h' e = one_more {x = Heads (heads_of B)} f o h h' e

name_itself : (k : Name) → same_names k k ≡ true
name_itself k = eq-eqb k.0 k.0 refl

-- by a name that is declared something is found
first_or_rest : (x : Kept) (ds : List Kept) (k : Name) (b : Bool) → same_names (name_of x) k ≡ b → ((e : Kept) × (kept_at ds k ≡ Some e)) →
    (e : Kept) × ((if b then Some x else kept_at ds k) ≡ Some e)
first_or_rest x ds k true p r = (x, refl)
first_or_rest x ds k false p r = r

pub kept_there : {ds : List Kept} {d : Kept} → Has ds d → (e : Kept) × (kept_at ds (name_of d) ≡ Some e)
kept_there {d = d} (here {xs = ds}) = (d, ap (λ b. if b then Some d else kept_at ds (name_of d)) (name_itself (name_of d)))
kept_there {d = d} (there {y = y} {xs = ds} h) = first_or_rest y ds (name_of d) (same_names (name_of y) (name_of d)) refl (kept_there h)

-- and what is found is that declaration
pub kept_once : (E : Env) → HasNamesOnce E → (d : Kept) → Has E.declarations d → kept_at E.declarations (name_of d) ≡ Some d
kept_once E o d h =
    let r = kept_there h in
    let k = kept_is E.declarations (name_of d) r.0 r.1 in
    r.1 ∙ ap Some (o r.0 d k.0 h k.1)

pub family_once : (E : Env) → HasNamesOnce E → (f : FamilyId) (F : FamilyDecl) → KeepsFamily E f F → family_of E f ≡ Some F
family_once E o f F h =
    let B = h.0 in
    let q : kept_at E.declarations f.block ≡ Some (Whole B) = subst (λ k. kept_at E.declarations k ≡ Some (Whole B)) h.2 (kept_once E o (Whole B) h.1) in
    ap (λ d. if_some (whole_block d) (λ B. family_at B f.family)) q ∙ h.3
