-- Terms under bindings where what they are stands below more variables: an item that is met below variables stands so.
use Rattle.std.specs.Prelude.{ℕ, ◌≡◌, ◌+◌, ◌*◌, ◌<◌, ◌≤◌, ◌^◌, List}
use Rattle.trees.specs.Substitution.{walk}
use Rattle.pc_terms.specs.Syntax.{Term, Rel, overs, shift}
use Rattle.reduce_machine.specs.Memos.{IsMemo}
use Rattle.reduce_machine.specs.Reads.{stands, read}
use Rattle.reduce_machine.specs.declared.bindings.Lazy.{Lazy}
use Rattle.lazy_conversion.specs.declared.places.Place.{Place}
use Rattle.lazy_conversion.specs.declared.places.Meaning.{Meaning}
use Rattle.lazy_conversion.specs.declared.places.Meaning.TheVariants.{Variable, Item}

-- what each variable stands for below n variables of the term's own, where each item stands below d more
unfoldable pub lifted_under : ℕ → List Term → ℕ → ℕ → Term
lifted_under d xs n i = overs n (λ j. shift d 0 (stands xs j)) i

-- what a term at a place is
abbrev pub seen : Place → Term → Term
seen p t = walk (lifted_under p.lifted p.env.now.items) p.under t

-- the same of a part that stands below n variables more
abbrev pub seen_below : Place → ℕ → Term → Term
seen_below p n t = walk (lifted_under p.lifted p.env.now.items) (p.under + n) t

-- what a lazy term is where it stands below d variables more
abbrev pub item_seen : ℕ → Lazy → Term
item_seen d l = walk (lifted_under d l.env.items) 0 l.term

-- under bindings of that depth no sum of the variables above passes 64 bits
abbrev pub IsNear : ℕ → ℕ → Type 0
IsNear d rank = d + 4294967296 * rank + 4294967296 ≤ 2 ^ 64

-- what variable i at a place is
abbrev pub IsMeaning : Place → ℕ → Meaning → Type 0
IsMeaning p i (Variable n) = lifted_under p.lifted p.env.now.items p.under i ≡ Rel n
IsMeaning p i (Item l m d) =
    (lifted_under p.lifted p.env.now.items p.under i ≡ item_seen d l.now)
    × (l.now.env.rank < p.env.now.rank) × IsNear d l.now.env.rank × IsMemo m.now (read l.now)
