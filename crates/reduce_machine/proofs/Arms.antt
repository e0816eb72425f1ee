-- Constructors and branches, as they are read from lists.
use Rattle.std.proofs.Common.{◌≡◌, ℕ, zero, suc, ◌+◌, ◌==◌, ◌<◌, ◌≤◌, get_or, if◌then◌else◌, Bool, true, false, List, [], ◌∷◌, length, drop, map, Some, None, refl, sym, ap, ◌∙◌, subst as along, arith, slice_get}
use Rattle.std.proofs.lemmas.Bool.{eq-eqb, eqb-true}
use Rattle.trees.proofs.Put.{each_length}
use Rattle.pc_terms.specs.declared.leaf.FamilyId.{FamilyId}
use Rattle.pc_terms.specs.declared.term.Branch.{Branch}
use Rattle.pc_terms.specs.declared.term.Match.{Match}
use Rattle.pc_terms.specs.declared.term.Def.{Def}
use Rattle.pc_terms.specs.declared.term.Node.{Node}
use Rattle.pc_terms.specs.declared.term.Node.TheVariants.{Case as CaseNode, Fix as FixNode}
use Rattle.pc_terms.specs.Lists.{arms_of}
use Rattle.pc_terms.specs.Syntax.{Term, Terms, App, apply, term_at}
use Rattle.pc_terms.proofs.Applied.{beyond-apply, argument_beyond}
use Rattle.trees.specs.Measures.{IsBeyond}
use Rattle.pc_terms.specs.View.{tree_of}
use Rattle.calculus_rules.specs.Lookups.{if_some}
use Rattle.calculus_rules.specs.Same.{same_families}
use Rattle.pc_rules.proofs.SameTrees.{not_true}
use Rattle.redexes.proofs.Reading.{arm_some, arm_none}
use Rattle.reduce_machine.specs.Arms.{arm_at}
use Rattle.reduce_machine.specs.Layers.{IsMatchNode, IsFixNode}
use Rattle.reduce_machine.specs.Reads.{read}
use Rattle.reduce_machine.specs.declared.bindings.Lazy.{Lazy}

drop_count : (ys : List Term) (n : ℕ) → n ≤ length ys → length (drop n ys) + n ≡ length ys
drop_count ys zero h = omega arith
drop_count [] (suc n) h = absurd (omega arith)
drop_count (y ∷ ys) (suc n) h = let e = drop_count ys n (omega arith) in omega arith

pub count_is : (xs : List Lazy) (n m : ℕ) → n + m ≡ length xs → m ≡ length (drop n (map read xs))
count_is xs n m e =
    let l = each_length read xs in
    let d = drop_count (map read xs) n (omega arith) in
    omega arith

pub arm_if : (bs : Terms) (f g : FamilyId) (c n : ℕ) (t : Bool) → same_families f g ≡ t →
    arm_at bs f g c n ≡ (if t then if_some (term_at bs c) (λ b. if b.0 == n then Some b.1 else None) else None)
arm_if bs f g c n t e = ap (λ t. if t then if_some (term_at bs c) (λ b. if b.0 == n then Some b.1 else None) else None) e

pub arm_other : (bs : Terms) (f g : FamilyId) (c n : ℕ) → same_families f g ≡ false → arm_at bs f g c n ≡ None
arm_other bs f g c n e = arm_if bs f g c n false e

pub arm_missing : (bs : List Branch) (f g : FamilyId) (c n : ℕ) → same_families f g ≡ true → slice_get bs c ≡ None → arm_at (arms_of bs) f g c n ≡ None
arm_missing bs f g c n e k = arm_if (arms_of bs) f g c n true e ∙ ap (λ o. if_some o (λ b. if b.0 == n then Some b.1 else None)) (arm_none bs c k)

pub arm_miscounted : (bs : List Branch) (f g : FamilyId) (c n : ℕ) (b : Branch) → same_families f g ≡ true → slice_get bs c ≡ Some b → (b.binders ≡ n → ⊥) →
    arm_at (arms_of bs) f g c n ≡ None
arm_miscounted bs f g c n b e k h =
    arm_if (arms_of bs) f g c n true e ∙ ap (λ o. if_some o (λ b. if b.0 == n then Some b.1 else None)) (arm_some bs c b k)
    ∙ ap (λ y. if y then Some b.body else None) (not_true (b.binders == n) (λ q. h (eqb-true b.binders n q)))

pub arm_found : (bs : List Branch) (f g : FamilyId) (c n : ℕ) (b : Branch) → same_families f g ≡ true → slice_get bs c ≡ Some b → b.binders ≡ n →
    arm_at (arms_of bs) f g c n ≡ Some b.body
arm_found bs f g c n b e k h =
    arm_if (arms_of bs) f g c n true e ∙ ap (λ o. if_some o (λ b. if b.0 == n then Some b.1 else None)) (arm_some bs c b k)
    ∙ ap (λ y. if y then Some b.body else None) (eq-eqb b.binders n h)

pub not_case : (n : Node) (t : Term) → tree_of n ≡ t → IsMatchNode t → ((m : Match) → n ≡ CaseNode m → ⊥) → ⊥
not_case n t e k h = node n (along (λ x. IsMatchNode x) (sym e) k) h
  where
    node : (n : Node) → IsMatchNode (tree_of n) → ((m : Match) → n ≡ CaseNode m → ⊥) → ⊥
    node (CaseNode m) k h = h m refl
    node n k h = k

pub not_fix : (n : Node) (t : Term) → tree_of n ≡ t → IsFixNode t → ((ds : List Def) (i : ℕ) → n ≡ FixNode ds i → ⊥) → ⊥
not_fix n t e k h = node n (along (λ x. IsFixNode x) (sym e) k) h
  where
    node : (n : Node) → IsFixNode (tree_of n) → ((ds : List Def) (i : ℕ) → n ≡ FixNode ds i → ⊥) → ⊥
    node (FixNode ds i) k h = h ds i refl
    node n k h = k

-- an item of a list
pub drop_item : {A : Type 0} (xs : List A) (i : ℕ) (x : A) → x ≡ get_or xs i x → i < length xs → drop i xs ≡ x ∷ drop (i + 1) xs
drop_item [] i x e h = absurd (omega arith)
drop_item (y ∷ xs) zero x e h = ap (λ z. z ∷ xs) (sym e)
drop_item (y ∷ xs) (suc i) x e h =
    let n : suc (i + 1) ≡ suc i + 1 = omega arith in
    drop_item xs i x e (omega arith) ∙ ap (λ z. x ∷ z) (ap (λ m. drop m (y ∷ xs)) n)

-- an argument that is beyond the limits
pub applied_deep : (t u : Term) (xs : List Lazy) (i : ℕ) (x : Lazy) (w : Term) → x ≡ get_or xs i x → i < length xs → u ≡ read x → apply t (map read (drop i xs)) ≡ w →
    IsBeyond (App t u) → IsBeyond w
applied_deep t u xs i x w e h p q b =
    along (λ (y : Term). IsBeyond y) (sym (ap (λ ys. apply t (map read ys)) (drop_item xs i x e h)) ∙ q)
    (beyond-apply (App t (read x)) (map read (drop (i + 1) xs)) (along (λ (y : Term). IsBeyond (App t y)) p b))

pub item_deep : (t : Term) (xs : List Lazy) (i : ℕ) (x : Lazy) (w : Term) → x ≡ get_or xs i x → i < length xs → apply t (map read (drop i xs)) ≡ w → IsBeyond (read x) → IsBeyond w
item_deep t xs i x w e h q b = applied_deep t (read x) xs i x w e h refl q (argument_beyond t (read x) b)
