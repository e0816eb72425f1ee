-- How a block is written: what a result and a block that is being written are seen as, and what is added to the block.
use Rattle.std.specs.Prelude.{ℕ, ◌+◌, List, [], ◌∷◌, ◌++◌, length, reverse}
use Rattle.pc_terms.specs.declared.leaf.Name.{Name}
use Rattle.box_terms.specs.BoxSyntax.{BoxTerm, BLambda}
use Rattle.box_terms.specs.declared.term.BoxBranch.{BoxBranch}
use Rattle.box_terms.specs.declared.term.BoxDef.{BoxDef}
use Rattle.anf_convert.specs.Anf.{AppOp}
use Rattle.anf_convert.specs.ToAnf.{Level, LVar, LEmpty, AnfBinding, OpIs, Res, RAtom, RCon, ROp, Norm, NamedResult, at_depth, binding_of, norm, sealed, levels}
use Rattle.anf_convert.specs.declared.program.AnfBranch.{AnfBranch}
use Rattle.anf_convert.specs.declared.program.AnfDef.{AnfDef}
use Rattle.anf_convert.specs.declared.program.AnfDef.TheVariants as def
use Rattle.anf_convert.specs.declared.builder.Builder.{Builder}
use Rattle.anf_convert.specs.declared.builder.Made.{Made}
use Rattle.anf_convert.specs.declared.builder.Made.TheVariants as made

-- a name by its number
abbrev pub number_of : Name → ℕ
number_of k = k.0

abbrev pub res_of : Made → Res
res_of (made.Atom l) = RAtom l
res_of (made.Construct c ls) = RCon c (reverse ls.items)
res_of (made.Other o) = ROp o

-- the block with more bindings
abbrev pub written : Builder → List AnfBinding → Builder
written b ps = record { ops = b.ops ++ ps; depth = b.depth + length ps }

-- the atom of a result under d variables, with what is bound for it
abbrev pub named_at : ℕ → Res → NamedResult
named_at d (RAtom a) = record { ops = []; atom = a }
named_at d (RCon c []) = record { ops = []; atom = LEmpty c }
named_at d (RCon c (x ∷ xs)) = record { ops = binding_of d (RCon c (x ∷ xs)) ∷ []; atom = LVar d }
named_at d (ROp op) = record { ops = OpIs op ∷ []; atom = LVar d }

-- an application of a result under d variables to an argument
abbrev pub called_at : ℕ → Level → NamedResult → Norm
called_at d f a = record { ops = a.ops; res = ROp (AppOp (at_depth (d + length a.ops) f) (at_depth (d + length a.ops) a.atom)) }

abbrev pub applied_at : ℕ → Res → (ℕ → NamedResult) → Norm
applied_at d (RCon c xs) arg = record { ops = (arg d).ops; res = RCon c ((arg d).atom ∷ xs) }
applied_at d (RAtom f) arg = called_at d f (arg d)
applied_at d (ROp op) arg = record { ops = OpIs op ∷ (arg (d + 1)).ops; res = (called_at (d + 1) (LVar d) (arg (d + 1))).res }

-- a branch, and a definition, under the variables of a place
abbrev pub branch_code : List Level → ℕ → BoxBranch → AnfBranch
branch_code env d b = record { binders = b.binders; body = sealed (d + b.binders) (norm number_of (levels d b.binders env) (d + b.binders) b.body) }

-- under a variable for each definition of the fixpoint
abbrev pub term_def : List Level → ℕ → BoxTerm → AnfDef
term_def env d (BLambda b) = def.Lambda (sealed (d + 1) (norm number_of (levels d 1 env) (d + 1) b))
term_def env d t = def.Box

abbrev pub def_code : List Level → ℕ → BoxDef → AnfDef
def_code env d b = term_def env d b.body
