-- The sort of a sort, and the sort of a product (PCUIC's rules for sorts and products).
use Rattle.std.specs.Prelude.{◌≡◌, ℕ, ◌+◌, ◌≤◌, ◌^◌, max, [], ◌∷◌, ◌++◌, map, Any}
use Rattle.universe_levels.specs.declared.sort.Sort.{Sort}
use Rattle.universe_levels.specs.declared.sort.Sort.TheVariants.{Prop, Of}
use Rattle.universe_levels.specs.Maximum.{maximum_of}
use Rattle.universe_levels.specs.Parts.{raised, set_plus_one}
use Rattle.universe_levels.specs.Valuation.{value_of}

-- the sort of a sort: of Prop the types of Set + 1, and of the types of u those of u + 1
abbrev pub super_sort : Sort → Sort
super_sort Prop = Of (set_plus_one ∷ [])
super_sort (Of u) = Of (map raised u)

-- an addition would pass 4294967295
abbrev pub PassesLimit : Sort → Type 0
PassesLimit Prop = ⊥
PassesLimit (Of u) = Any (λ e. 2 ^ 32 ≤ e.add + 1) u

-- the sort of a product, from its domain's sort and its codomain's: impredicative in Prop, and else the maximum
abbrev pub product_sort : Sort → Sort → Sort
product_sort _ Prop = Prop
product_sort Prop (Of v) = Of v
product_sort (Of u) (Of v) = Of (maximum_of (u ++ v))

-- under the valuation the second is the sort of the first: 1 for Prop, and else one more
abbrev pub IsSuper : (ℕ → ℕ) → Sort → Sort → Type 0
IsSuper v s Prop = ⊥
IsSuper v Prop (Of w) = v 0 ≡ 0 → value_of v w ≡ 1
IsSuper v (Of u) (Of w) = value_of v w ≡ value_of v u + 1

-- under the valuation the last is the sort of a product from the first's types to the second's
abbrev pub IsProduct : (ℕ → ℕ) → Sort → Sort → Sort → Type 0
IsProduct v s Prop r = r ≡ Prop
IsProduct v Prop (Of w) r = r ≡ Of w
IsProduct v (Of u) (Of w) Prop = ⊥
IsProduct v (Of u) (Of w) (Of x) = value_of v x ≡ max (value_of v u) (value_of v w)
