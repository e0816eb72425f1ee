-- Small facts on families, on values and on products.
use Rattle.std.proofs.Common.{◌≡◌, ℕ, ◌+◌, ◌-◌, ◌*◌, ◌≤◌, List, [], ◌∷◌, ◌++◌, length, map, refl, sym, subst, arith}
use Rattle.lambda_box.specs.BoxProgram.{BoxFamily, Has, here, there}
use Rattle.lambda_box.specs.BoxData.{Data as Nodes}
use Rattle.lambda_box.specs.ClosureEvaluation.{ClosureValues, NoValue}
use Rattle.box_passes.specs.Saturate.{without_parameters}
use Rattle.lambda_box.specs.DataTerms.{ValuesHold, hold_none, hold_last}

pub no_values : {vs : ClosureValues} {ds : List Nodes} → ValuesHold vs ds → ds ≡ [] → vs ≡ NoValue
no_values hold_none e = refl
no_values (hold_last {d = d} {ds = ds} hs h) e = absurd (not_empty ds d e)
  where
    nil : {x : Nodes} {xs : List Nodes} → x ∷ xs ≡ [] → ⊥
    nil e = cc

    not_empty : (xs : List Nodes) (x : Nodes) → xs ++ x ∷ [] ≡ [] → ⊥
    not_empty [] x e = nil e
    not_empty (y ∷ ys) x e = nil e

pub families : (Fs : List BoxFamily) (m : ℕ) → ((F : BoxFamily) → Has Fs F → length F.args ≤ m) → (G : BoxFamily) → Has (map without_parameters Fs) G → length G.args ≤ m
families [] m few G h = elim h [ ]
families (F ∷ Fs) m few G here = few F here
families (F ∷ Fs) m few G (there h) = families Fs m (λ H i. few H (there i)) G h

-- products grow with their factors
product : (a p x q : ℕ) → a * x ≤ (a + p) * (x + q)
product a p x q = omega arith

pub product_le : (a b x y : ℕ) → a ≤ b → x ≤ y → a * x ≤ b * y
product_le a b x y h g =
    let p : b ≡ a + (b - a) = omega arith in
    let q : y ≡ x + (y - x) = omega arith in
    subst (λ z. a * x ≤ z * y) (sym p) (subst (λ z. a * x ≤ (a + (b - a)) * z) (sym q) (product a (b - a) x (y - x)))
