-- Lists of terms as the parts of a term, and back, and what lists and optional values were that have been changed.
use Rattle.std.proofs.Common.{◌≡◌, refl, ap, List, [], ◌∷◌, Option, None, Some}
use Rattle.std.specs.Option.{option_map}
use Rattle.trees.specs.Tree.{terms_of}
use Rattle.pc_terms.specs.Syntax.{Term, list_of}
pub use Rattle.trees.proofs.Lists.{has_map, of_has_map, has_left, has_turned, first_same, rest_same}
pub use Rattle.pc_terms.proofs.NodeTrees.{terms_of-inj as same_list}

pub listed : (ts : List Term) → list_of (terms_of ts) ≡ ts
listed [] = refl
listed (t ∷ ts) = ap (◌∷◌ t) (listed ts)

-- what an optional value was that has been changed
pub from_map : {X Y : Type 0} (g : X → Y) (o : Option X) (y : Y) → option_map g o ≡ Some y → (x : X) × (o ≡ Some x) × (y ≡ g x)
from_map g None y e = absurd cc
from_map g (Some x) y e = let q : y ≡ g x = cc in (x, refl, q)
