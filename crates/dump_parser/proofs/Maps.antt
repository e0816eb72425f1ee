-- Lists that are seen member by member.
use Rattle.std.proofs.Common.{◌≡◌, List, [], ◌∷◌, ◌++◌, length, map}
use Rattle.std.proofs.lemmas.List.{length-map, map-append}

pub map_push : {X Y : Type 0} (f : X → Y) (xs : List X) (x : X) → map f (xs ++ x ∷ []) ≡ map f xs ++ f x ∷ []
map_push f xs x = map-append f xs (x ∷ [])

pub map_length : {X Y : Type 0} (xs : List X) (f : X → Y) → length (map f xs) ≡ length xs
map_length xs f = length-map xs f

pub ruleset map_laws = (map_push, map_length)
