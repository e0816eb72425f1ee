-- The unfolding of a definition of a fixpoint (PCUIC, POPL 2020, section 2: reduction of fixpoints).
use Rattle.std.specs.Prelude.{ℕ, ◌||◌, Bool, false, List, length, Option, Some, None, option_map}
use Rattle.pc_terms.specs.declared.term.Def.{Def}
use Rattle.pc_terms.specs.Syntax.{Term, Fix, term_at}
use Rattle.pc_terms.specs.Lists.{rargs_of, types_of, bodies_of}
use Rattle.calculus_rules.specs.Instances.{unfolded}
use Rattle.pc_rules.specs.DirectedRun.{is_beyond}

-- definition i as a fixpoint
abbrev pub fixpoint_at : List Def → ℕ → Term
fixpoint_at ds i = Fix i (rargs_of ds) (types_of ds) (bodies_of (length ds) ds)

-- the body of definition i with the fixpoints put in for all definitions
abbrev pub unfolding_of : List Def → ℕ → Option Term
unfolding_of ds i =
    option_map (λ b. unfolded (rargs_of ds) (types_of ds) (bodies_of (length ds) ds) b.1) (term_at (bodies_of (length ds) ds) i)

-- terms beyond the limits are made in unfolding
abbrev pub some_beyond : Option Term → Bool
some_beyond None = false
some_beyond (Some t) = is_beyond t

abbrev pub unfolding_beyond : List Def → ℕ → Bool
unfolding_beyond ds i = is_beyond (fixpoint_at ds i) || some_beyond (unfolding_of ds i)
