-- What a step makes of its parts (PCUIC, POPL 2020, section 2.2: the reduction rules), where these stand under bindings.
use Rattle.std.specs.Prelude.{◌⊎◌, drop, map}
use Rattle.trees.specs.Measures.{IsBeyond}
use Rattle.pc_terms.specs.Syntax.{Term, Rel, App, shift, first, put_all, substitute, apply}
use Rattle.redexes.specs.Redexes.{fix_body}
use Rattle.reduce_machine.specs.Reads.{stands, read}
use Rattle.reduce_machine.specs.Layers.{IsFixNode}
use Rattle.reduce_machine.specs.declared.steps.Step.{Step}
use Rattle.reduce_machine.specs.declared.steps.Step.TheVariants.{Variable, Constant, Bound, Branch, Fixpoint}

-- an entry's value, lifted; a constant's body; a body with one more binding; a branch with the arguments behind the parameters bound; the
-- unfolded body of a fixpoint, applied to the same arguments
abbrev pub contractum : Step → Term
contractum (Variable v n) = shift n 0 v
contractum (Constant b) = b
contractum (Bound b env a) = substitute (first (read a) (stands env.items)) b
contractum (Branch b env xs n) = substitute (put_all (drop n (map read xs.items)) (stands env.items)) b
contractum (Fixpoint f xs a) = App (apply (fix_body (read f)) (map read xs.items)) (read a)

-- what is read before the result is made
abbrev pub source : Step → Term
source (Fixpoint f xs a) = read f
source s = Rel 0

abbrev pub IsStepNode : Step → Type 0
IsStepNode (Fixpoint f xs a) = IsFixNode f.term
IsStepNode s = Unit {0}

-- what the step reads is a part of t
pub record IsStepIn (t : Term) (s : Step) : Type 0 where
  pub node : IsStepNode s
  pub part : IsBeyond (source s) → IsBeyond t

-- the result is beyond the limits, or what was read
abbrev pub IsBeyondStep : Step → Type 0
IsBeyondStep s = IsBeyond (source s) ⊎ IsBeyond (contractum s)

-- a step that reads nothing
abbrev pub IsPlainStep : Step → Type 0
IsPlainStep (Fixpoint f xs a) = ⊥
IsPlainStep s = Unit {0}
