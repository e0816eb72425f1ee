-- Each name of an accepted environment has one declaration, also where a block's heads are kept besides.
use Rattle.std.proofs.Common.{◌≡◌, ℕ, List, ◌∷◌, Option, Some, None, refl, sym, ap, ◌∙◌}
use Rattle.universe_levels.specs.declared.constraint.Constraint.{Constraint}
use Rattle.pc_terms.specs.declared.leaf.Name.{Name}
use Rattle.pc_terms.specs.Syntax.{Term}
use Rattle.calculus_rules.specs.declared.declaration.Block.{Block}
use Rattle.calculus_rules.specs.declared.declaration.Kept.{Kept}
use Rattle.calculus_rules.specs.declared.declaration.Kept.TheVariants.{Constant, Heads, Block as Whole}
use Rattle.calculus_rules.specs.Environment.{Env, Has, here, there, name_of, family_at}
use Rattle.calculus_rules.specs.Accepted.{Accepted, empty, constant, block, IsAccepted, env}
use Rattle.calculus_rules.specs.Laws.{OneEach}
use Rattle.calculus_rules.proofs.Spines.{one_item}

pub one_declaration : {n : ℕ} {cs : List Constraint} {ds : List Kept} {d d' : Kept} → Accepted n cs ds → Has ds d → Has ds d' → name_of d ≡ name_of d' → d ≡ d'
one_declaration empty h h' e = elim h [ ]
one_declaration (constant a f p q) here here e = refl
one_declaration (constant a f p q) here (there h') e = absurd (f _ h' (sym e))
one_declaration (constant a f p q) (there h) here e = absurd (f _ h e)
one_declaration (constant a f p q) (there h) (there h') e = one_declaration a h h' e
one_declaration (block a f p) here here e = refl
one_declaration (block a f p) here (there h') e = absurd (f _ h' (sym e))
one_declaration (block a f p) (there h) here e = absurd (f _ h e)
one_declaration (block a f p) (there h) (there h') e = one_declaration a h h' e

body_in : Kept → Option Term
body_in (Constant k T b) = b
body_in _ = None

block_in : Kept → Option Block
block_in (Whole B) = Some B
block_in _ = None

pub one_of_each : (E : Env) → IsAccepted E → OneEach E
unfolding body_in block_in
one_of_each E a = record {
  bodies = λ k T T' b b' h h'. one_item (ap body_in (one_declaration a.declarations h h' refl));
  families = λ f F G h h'. one_item (sym h.3 ∙ ap (λ B. family_at B f.family) (one_item (ap block_in (one_declaration a.declarations h.1 h'.1 (h.2 ∙ sym h'.2)))) ∙ h'.3);
}

constant_behind : {ds : List Kept} {B : Block} {k : Name} {T : Term} {b : Option Term} → Has (Heads B ∷ ds) (Constant k T b) → Has ds (Constant k T b)
constant_behind (there h) = h

block_behind : {ds : List Kept} {B D : Block} → Has (Heads B ∷ ds) (Whole D) → Has ds (Whole D)
block_behind (there h) = h

pub one_with_heads : (E : Env) (B : Block) → OneEach E → OneEach (env E.levels E.constraints (Heads B ∷ E.declarations))
one_with_heads E B o = record {
  bodies = λ k T T' b b' h h'. o.bodies k T T' b b' (constant_behind h) (constant_behind h');
  families = λ f F G h h'. o.families f F G (h.0, block_behind h.1, h.2, h.3) (h'.0, block_behind h'.1, h'.2, h'.3);
}
