-- How the tables of names and of levels grow by the uses of what is read, and what is made of it, by all tables that may follow.
use Rattle.std.specs.Prelude.{◌≡◌, ℕ, List}
use Rattle.dump_reader.specs.declared.numbering.Tables.{Tables}
use Rattle.dump_reader.specs.Tables.{after_uses}

-- uses, before those that follow
abbrev pub Uses : Type 0
Uses = List (List ℕ) → List (List ℕ)

-- no use
abbrev pub unused : Uses
unused after = after

-- The tables have grown by these uses of names and of levels, and what was made is the value by these tables and by each that follows.
pub record Numbers {X : Type 0} (names levels : Uses) (value : (ns ls : List (List ℕ)) → X) (old new : Tables) (made : X) : Type 0 where
  pub names_grow : (after : List (List ℕ)) → after_uses old.names (names after) ≡ after_uses new.names after
  pub levels_grow : (after : List (List ℕ)) → after_uses old.levels (levels after) ≡ after_uses new.levels after
  pub is_value : (ns ls : List (List ℕ)) → made ≡ value (after_uses new.names ns) (after_uses new.levels ls)
