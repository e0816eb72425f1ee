-- What one binding of a block, or one definition of a fixpoint, names and notes, and a list put at the first of some places.
use Rattle.std.specs.Prelude.{ℕ, zero, suc, List, [], slice_set}
use Rattle.anf_convert.specs.Anf.{AnfBinding, AtomIs, OpIs}
use Rattle.anf_convert.specs.declared.program.AnfDef.{AnfDef}
use Rattle.anf_convert.specs.declared.program.AnfDef.TheVariants as def
use Rattle.closure_lift.specs.FreeVariables.{free_atom, free_op, free_block, notes_op, notes_block}

abbrev pub free_bound : ℕ → AnfBinding → List ℕ
free_bound n (AtomIs a) = free_atom n a
free_bound n (OpIs op) = free_op n op

abbrev pub notes_bound : ℕ → AnfBinding → List (List ℕ)
notes_bound n (AtomIs a) = []
notes_bound n (OpIs op) = notes_op n op

abbrev pub free_def : ℕ → AnfDef → List ℕ
free_def n (def.Lambda b) = free_block (suc n) b
free_def n def.Box = []

abbrev pub notes_def : ℕ → AnfDef → List (List ℕ)
notes_def n (def.Lambda b) = notes_block (suc n) b
notes_def n def.Box = []

-- the lists with xs at this place, the first of n
abbrev pub put_first : ℕ → ℕ → List ℕ → List (List ℕ) → List (List ℕ)
put_first place zero xs ls = ls
put_first place (suc n) xs ls = slice_set ls place xs
