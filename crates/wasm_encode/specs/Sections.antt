-- A module's sections, in their order.
use Rattle.std.specs.Prelude.{ℕ, List, [], ◌∷◌, get_or}
use Rattle.wasm_core.specs.Parts.{Parts}
use Rattle.wasm_core.specs.ShortestBytes.{put_u32, put_section, put_func_type, put_table_type, put_limits, put_global, put_export, put_segment, put_body, sizes}

-- what each of them puts, which is nothing where it has no entries
abbrev pub sections : Parts → List (List ℕ → List ℕ)
sections m =
    put_section 1 put_func_type m.types ∷ put_section 3 put_u32 m.funcs ∷ put_section 4 put_table_type (sizes m.table) ∷ put_section 5 put_limits (sizes m.memory) ∷
    put_section 6 put_global m.globals ∷ put_section 7 put_export m.exports ∷ put_section 9 put_segment m.elements ∷ put_section 10 put_body m.bodies ∷ []

-- what the one with this index puts, the first 0
abbrev pub section_at : Parts → ℕ → List ℕ → List ℕ
section_at m at = get_or (sections m) at (λ w. w)
