-- A block whose arguments name its families left of an arrow isn't positive, so no accepted environment keeps it.
use Rattle.std.proofs.Common.{ℕ, ◌≡◌, ◌||◌, Bool, true, false, List, ◌++◌, inl, inr, refl, ◌∙◌, ap}
use Rattle.pc_terms.specs.declared.leaf.Name.{Name}
use Rattle.pc_terms.specs.declared.leaf.FamilyId.{FamilyId}
use Rattle.pc_terms.specs.Syntax.{Term, Prod, Ind, apply, head}
use Rattle.universe_levels.specs.declared.constraint.Constraint.{Constraint}
use Rattle.calculus_rules.specs.declared.declaration.Block.{Block}
use Rattle.calculus_rules.specs.declared.declaration.Kept.{Kept}
use Rattle.calculus_rules.specs.declared.declaration.Kept.TheVariants.{Block as Whole}
use Rattle.calculus_rules.specs.declared.target.Target.TheVariants.{Families}
use Rattle.calculus_rules.specs.Environment.{Env, Has, here, there}
use Rattle.calculus_rules.specs.Naming.{names_block}
use Rattle.calculus_rules.specs.Positivity.{IsGood, names_none, product, recursive, nested, ArePositive}
use Rattle.calculus_rules.specs.Accepted.{Accepted, empty, constant, block, BlockFits}
use Rattle.calculus_rules.proofs.Spines.{head-apply}
use Rattle.metatheory.specs.Untypable.{NamesOnTheLeft, IsNegative, NegativeBlocksAreRefused}

-- what names the block on the left names it
names_it : (k : Name) (A : Term) → NamesOnTheLeft k A → names_block k A ≡ true
names_it k (Prod A B) (inl e) = rw e refl
names_it k (Prod A B) (inr l) = at_right (names_block k A) (names_it k B l)
  where
    at_right : (b : Bool) → names_block k B ≡ true → b || (names_block k B || false) ≡ true
    at_right true e = refl
    at_right false e = rw e refl
names_it k _ l = absurd l

not_family : (A B : Term) (f : FamilyId) (xs : List Term) → Prod A B ≡ apply (Ind f) xs → ⊥
not_family A B f xs e = let h = ap head e ∙ head-apply (Ind f) xs in cc

not_good : {E : Env} {k : Name} {j : ℕ} (A : Term) → NamesOnTheLeft k A → IsGood E (Families k) j A → ⊥
not_good (Prod A B) l (names_none e) = let t = names_it _ (Prod A B) l in cc
not_good (Prod A B) (inl t) (product e p) = cc
not_good (Prod A B) (inr l) (product e p) = not_good B l p
not_good (Prod A B) l (recursive f xs e b n) = not_family A B f xs e
not_good (Prod A B) l (nested f D ps xs e n h b c q m) = not_family A B f (ps ++ xs) e
not_good _ l g = l

none_good : (E : Env) (k : Name) {As : List Term} {A : Term} → Has As A → NamesOnTheLeft k A → ArePositive E k As → ⊥
none_good E k {A = A} here l (g, gs) = not_good A l g
none_good E k (there m) l (g, gs) = none_good E k m l gs

not_fitting : {E H : Env} {B : Block} → IsNegative B → BlockFits E H B → ⊥
not_fitting {H = H} {B = B} n b =
    none_good H B.name n.among n.left (((b.families n.number n.family n.family_at).constructors n.place n.constructor n.constructor_at).positive)

not_kept : {levels : ℕ} {cs : List Constraint} {ds : List Kept} {B : Block} → IsNegative B → Accepted levels cs ds → Has ds (Whole B) → ⊥
not_kept n empty m = elim m [ ]
not_kept n (constant a f t b) (there m) = not_kept n a m
not_kept n (block a f fits) here = not_fitting n fits
not_kept n (block a f fits) (there m) = not_kept n a m

pub negative_blocks_are_refused : NegativeBlocksAreRefused
negative_blocks_are_refused E h B n m = not_kept n h.declarations m
