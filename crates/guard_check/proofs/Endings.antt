-- The marks of a branch's variables, one by one.
use Rattle.std.proofs.Common.{◌≡◌, ◌∙◌, sym, ap, ℕ, ◌+◌, ◌<◌, ◌≤◌, Bool, true, false, if◌then◌else◌, Option, List, ◌∷◌, length, drop, get_or, add-one}
use Rattle.trees.specs.Tree.{terms_of}
use Rattle.pc_terms.specs.declared.leaf.Name.{Name}
use Rattle.pc_terms.specs.declared.leaf.FamilyId.{FamilyId}
use Rattle.pc_terms.specs.Syntax.{Term}
use Rattle.calculus_rules.specs.Environment.{Env}
use Rattle.calculus_rules.specs.Guardedness.{Smaller, Other, Marks, Ending, ending, ends_smaller, branch_marks}
use Rattle.pc_rules.proofs.ListSteps.{next_is, none_left}
use Rattle.calculus_rules.proofs.Listing.{listed}

pub marks_next : (q : Ending) (i : ℕ) (As : List Term) (A : Term) (M : Marks) → i < length As → A ≡ get_or As i A →
    branch_marks q i (drop i As) M ≡ branch_marks q (i + 1) (drop (i + 1) As) ((if q i A then Smaller else Other) ∷ M)
marks_next q i As A M l e =
    ap (λ xs. branch_marks q i xs M) (next_is As i A l e) ∙ ap (λ j. branch_marks q j (drop (i + 1) As) ((if q i A then Smaller else Other) ∷ M)) (sym (add-one i))

pub marks_end : (q : Ending) (i : ℕ) (As : List Term) (M : Marks) → length As ≤ i → branch_marks q i (drop i As) M ≡ M
marks_end q i As M l = ap (λ xs. branch_marks q i xs M) (none_left As i l)

-- the parameters of a match as a list
pub ending_is : (E : Env) (r : Option Name) (f : FamilyId) (ps : List Term) (n : ℕ) (A : Term) → ending E r f (terms_of ps) n A ≡ ends_smaller E r f.block ps n A
ending_is E r f ps n A = ap (λ qs. ends_smaller E r f.block qs n A) (listed ps)

module _ (E : Env) (r : Option Name) (f : FamilyId) (ps : List Term) (n m : ℕ) (A : Term) (b : Bool) (p : m ≡ n) (e : b ≡ ends_smaller E r f.block ps m A) where
  is_test : ending E r f (terms_of ps) n A ≡ b
  is_test = ending_is E r f ps n A ∙ ap (λ k. ends_smaller E r f.block ps k A) (sym p) ∙ sym e

  pub mark_smaller : b ≡ true → Smaller ≡ (if ending E r f (terms_of ps) n A then Smaller else Other)
  mark_smaller t = sym (ap (λ b. if b then Smaller else Other) (is_test ∙ t))

  pub mark_other : b ≡ false → Other ≡ (if ending E r f (terms_of ps) n A then Smaller else Other)
  mark_other t = sym (ap (λ b. if b then Smaller else Other) (is_test ∙ t))
