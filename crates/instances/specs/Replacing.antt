-- Terms put in for the innermost variables while the variables outside them are raised: variable by variable, under a cutoff.
use Rattle.std.specs.Prelude.{ℕ, ◌+◌, ◌-◌, nat_lt, if◌then◌else◌, List, length}
use Rattle.std.proofs.Common.{get_or}
use Rattle.pc_terms.specs.Syntax.{Term, Rel, lift}

-- the items of xs, lifted by k, for the variables from k on, the last item for variable k; the variables above them lowered by as many
-- and raised by m
abbrev pub replaced_var : List Term → ℕ → ℕ → ℕ → Term
replaced_var xs m k i =
    if nat_lt i k then Rel i
    else (if nat_lt i (k + length xs) then lift k 0 (get_or xs (k + length xs - (i + 1)) (Rel 0)) else Rel (i - length xs + m))
