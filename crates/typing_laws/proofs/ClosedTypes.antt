-- Closed terms and lists.
use Rattle.trees.proofs.Bounds.{closed_at}
use Rattle.std.proofs.Common.{◌≡◌, ℕ, zero, suc, ◌+◌, ◌≤◌, List, [], ◌∷◌, ◌++◌, length, Some, refl, ap, subst, arith, slice_get, map}
use Rattle.pc_terms.specs.Syntax.{Term, Terms, SortT, Prod, App, Ind, rename, over, apply, shift, variables, Closed, ClosedEach}
use Rattle.pc_terms.specs.declared.leaf.FamilyId.{FamilyId}
use Rattle.calculus_rules.specs.declared.declaration.Constructor.{Constructor}
use Rattle.calculus_rules.specs.Environment.{FamilyDecl}
use Rattle.trees.proofs.Put.{Agree, substitute_closed}
use Rattle.typing_laws.proofs.ClosedEnv.{ClosedFamily, ClosedConstructor, ClosedEntries}
use Rattle.calculus_rules.specs.Instances.{fixpoints, entries_at, products, family_type, constructor_type}

pub fixpoints_length : (i n : ℕ) (rargs : List ℕ) (types bodies : Terms) → length (fixpoints i n rargs types bodies) ≡ n
fixpoints_length i zero rargs types bodies = refl
fixpoints_length i (suc n) rargs types bodies = ap suc (fixpoints_length (suc i) n rargs types bodies)

pub entries_at_agree : (As : List Term) (k : ℕ) (s s' : ℕ → Term) → Agree k s s' → ClosedEntries k As → entries_at s As ≡ entries_at s' As
entries_at_agree [] k s s' h c = refl
entries_at_agree (A ∷ As) k s s' h c = λ i.
    substitute_closed A k s s' h c.0 i ∷ entries_at_agree As (suc k) (over s) (over s') (more h) c.1 i
  where
    more : Agree k s s' → Agree (suc k) (over s) (over s')
    more h zero l = refl
    more h (suc i) l = ap (rename suc) (h i (omega arith))

-- declared types are closed

pub closed_prod : (A B : Term) (k : ℕ) → Closed k A → Closed (suc k) B → Closed k (Prod A B)
closed_prod A B k a b = (closed_at A (omega arith) a, (closed_at B (omega arith) b, tt))

pub closed_app : (A B : Term) (k : ℕ) → Closed k A → Closed k B → Closed k (App A B)
closed_app A B k a b = (closed_at A (omega arith) a, (closed_at B (omega arith) b, tt))

pub closed_products : (As : List Term) (T : Term) (k : ℕ) → ClosedEntries k As → Closed (length As + k) T → Closed k (products As T)
closed_products [] T k c t = closed_at T (omega arith) t
closed_products (A ∷ As) T k c t = closed_prod A (products As T) k c.0 (closed_products As T (suc k) c.1 (closed_at T (omega arith) t))

pub closed_apply : (xs : List Term) (f : Term) (k : ℕ) → Closed k f → ClosedEach k xs → Closed k (apply f xs)
closed_apply [] f k c d = c
closed_apply (x ∷ xs) f k c d = closed_apply xs (App f x) k (closed_app f x k c d.0) d.1

pub closed_append : (xs ys : List Term) (k : ℕ) → ClosedEach k xs → ClosedEach k ys → ClosedEach k (xs ++ ys)
closed_append [] ys k c d = d
closed_append (x ∷ xs) ys k c d = (c.0, closed_append xs ys k c.1 d)

pub closed_variables : (n m k : ℕ) → m + n ≤ k → ClosedEach k (map (shift m 0) (variables n))
closed_variables zero m k l = tt
closed_variables (suc n) m k l = (omega arith, closed_variables n m k (omega arith))

entries_plus_zero : (As : List Term) (n : ℕ) → ClosedEntries n As → ClosedEntries (n + 0) As
entries_plus_zero As n h = let e : n ≡ n + 0 = omega arith in subst (λ k. ClosedEntries k As) e h

terms_plus_zero : (xs : List Term) (m n : ℕ) → ClosedEach (m + n) xs → ClosedEach (m + (n + 0)) xs
terms_plus_zero xs m n h = let e : m + n ≡ m + (n + 0) = omega arith in subst (λ k. ClosedEach k xs) e h

pub closed_family_type : (F : FamilyDecl) → ClosedEntries 0 F.parameters × ClosedEntries (length F.parameters) F.indices → Closed 0 (family_type F)
closed_family_type F c =
    closed_products F.parameters (products F.indices (SortT F.sort)) 0 c.0
    (closed_products F.indices (SortT F.sort) (length F.parameters + 0) (entries_plus_zero F.indices (length F.parameters) c.1) tt)

pub closed_constructor_type : (f : FamilyId) (F : FamilyDecl) (C : Constructor) → ClosedFamily F → ClosedConstructor (length F.parameters) C →
    Closed 0 (constructor_type f F C)
closed_constructor_type f F C c d =
    closed_products F.parameters (products C.args result) 0 c.parameters
    (closed_products C.args result (length F.parameters + 0) (entries_plus_zero C.args (length F.parameters) d.arguments)
    (closed_apply (map (shift (length C.args) 0) (variables (length F.parameters)) ++ C.result) (Ind f) (length C.args + (length F.parameters + 0)) tt
    (closed_append (map (shift (length C.args) 0) (variables (length F.parameters))) C.result (length C.args + (length F.parameters + 0))
    (closed_variables (length F.parameters) (length C.args) (length C.args + (length F.parameters + 0)) (omega arith)) (terms_plus_zero C.result (length C.args) (length F.parameters) d.result))))
  where
    result : Term
    result = apply (Ind f) (map (shift (length C.args) 0) (variables (length F.parameters)) ++ C.result)

-- what a match's branches ask of the constructors
pub record Declared (n k : ℕ) (Cs : List Constructor) : Type 0 where
  pub closed : (i : ℕ) (C : Constructor) → slice_get Cs i ≡ Some C → ClosedConstructor n C
  pub counts : (i : ℕ) (C : Constructor) → slice_get Cs i ≡ Some C → length C.result ≡ k
