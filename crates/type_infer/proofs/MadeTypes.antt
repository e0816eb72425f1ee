-- The parts of a type of a constructor that were found, put together.
use Rattle.std.proofs.Common.{◌≡◌, ℕ, ◌∙◌, List, ◌++◌, length, map, sym, ap}
use Rattle.pc_terms.specs.declared.leaf.FamilyId.{FamilyId}
use Rattle.pc_terms.specs.Syntax.{Term, Ind, apply, shift, variables}
use Rattle.calculus_rules.specs.Instances.{products}
use Rattle.pc_terms.proofs.Applied.{apply-append}

pub built_parts : (f : FamilyId) (vs is : List Term) (end applied head : Term) → end ≡ apply applied is → applied ≡ apply head vs → head ≡ Ind f → end ≡ apply (Ind f) (vs ++ is)
built_parts f vs is end applied head p q r = p ∙ ap (λ t. apply t is) (q ∙ ap (λ h. apply h vs) r) ∙ sym (apply-append (Ind f) vs is)

pub constructor_parts : (f : FamilyId) (Ps As is : List Term) (p a : ℕ) (ty inner end : Term) → ty ≡ products Ps inner → inner ≡ products As end → p ≡ length Ps → a ≡ length As →
    end ≡ apply (Ind f) (map (shift a 0) (variables p) ++ is) → ty ≡ products Ps (products As (apply (Ind f) (map (shift (length As) 0) (variables (length Ps)) ++ is)))
constructor_parts f Ps As is p a ty inner end q r lp la h =
    q ∙ ap (products Ps) (r ∙ ap (products As) (h ∙ ap (λ n. apply (Ind f) (map (shift n 0) (variables p) ++ is)) la ∙ ap (λ m. apply (Ind f) (map (shift (length As) 0) (variables m) ++ is)) lp))
