-- Products over telescopes, made from the inside.
use Rattle.std.proofs.Common.{◌≡◌, ℕ, ◌+◌, ◌-◌, ◌<◌, ◌≤◌, inl, inr, List, [], ◌∷◌, ◌++◌, length, take, get_or, refl, sym, ap, ◌∙◌, arith}
use Rattle.std.proofs.lemmas.List.{take_more}
use Rattle.trees.specs.Measures.{depth, depth_limit, IsBeyond}
use Rattle.pc_terms.specs.Syntax.{Term, Prod}
use Rattle.calculus_rules.specs.Instances.{products}

products-last : (As : List Term) (A T : Term) → products (As ++ (A ∷ [])) T ≡ products As (Prod A T)
products-last [] A T = refl
products-last (B ∷ As) A T = ap (Prod B) (products-last As A T)

-- a product is beyond the limits where its end is
wider : (A B : Term) → IsBeyond B → IsBeyond (Prod A B)
wider A B (inl e) = inl (omega arith)
wider A B (inr e) = inr (omega arith)

pub products-beyond : (As : List Term) (T : Term) → IsBeyond T → IsBeyond (products As T)
products-beyond [] T e = e
products-beyond (A ∷ As) T e = wider A (products As T) (products-beyond As T e)

-- and where it is over too many types
products-depth : (As : List Term) (T : Term) → length As ≤ depth (products As T)
products-depth [] T = omega arith
products-depth (A ∷ As) T = omega (arith, products-depth As T)

pub products-long : (As : List Term) (T : Term) → depth_limit < length As → IsBeyond (products As T)
products-long As T h = inl (omega (arith, products-depth As T))

-- the next product of those over the types from the last to the first
pub products-next : (As : List Term) (n i : ℕ) (A T : Term) → A ≡ get_or As (n - 1 - i) A → n ≡ length As → i < n →
    products (take (n - (i + 1)) As) (Prod A T) ≡ products (take (n - i) As) T
products-next As n i A T is e l =
    let d : n - 1 - i ≡ n - (i + 1) = omega arith in
    let f : n - i ≡ (n - (i + 1)) + 1 = omega arith in
    let h : n - (i + 1) < length As = omega arith in
    sym (ap (λ m. products (take m As) T) f ∙ ap (λ Bs. products Bs T) (take_more As (n - (i + 1)) A h)
    ∙ products-last (take (n - (i + 1)) As) (get_or As (n - (i + 1)) A) T
    ∙ ap (λ B. products (take (n - (i + 1)) As) (Prod B T)) (sym (is ∙ ap (λ m. get_or As m A) d)))
