-- Spines: heads that have no step, with what they are applied to (PCUIC, POPL 2020, section 2.2: a term is stuck on a match's scrutinee, or on a fixpoint's
-- recursive argument), where the parts stand under bindings.
use Rattle.std.specs.Prelude.{◌≡◌, List, [], ◌∷◌, Option, Some, None, map}
use Rattle.pc_terms.specs.Syntax.{Term, Rel, App, apply}
use Rattle.reduction.specs.Frames.{with_scrutinee, missing}
use Rattle.reduce_machine.specs.Layers.{IsOpen, IsMatchNode, IsFixNode}
use Rattle.reduce_machine.specs.Reads.{read}
use Rattle.reduce_machine.specs.declared.bindings.Lazy.{Lazy}
use Rattle.reduce_machine.specs.declared.spines.Head.{Head}
use Rattle.reduce_machine.specs.declared.spines.Head.TheVariants.{Open, Match, Fixpoint}
use Rattle.reduce_machine.specs.declared.spines.Spine.{Spine}

-- the term of a head, which is stuck on t where it is a match or a fixpoint
abbrev pub head_on : Head → Term → Term
head_on (Open l) t = read l
head_on (Match o) t = with_scrutinee (read o) t
head_on (Fixpoint f xs) t = App (apply (read f) (map read xs.items)) t

abbrev pub spine_on : Spine → Term → Term
spine_on s t = apply (head_on s.head t) (map read s.args.items)

-- spines in one another, the innermost first, which is stuck on t where it is a match or a fixpoint
abbrev pub nested : List Spine → Term → Term
nested [] t = t
nested (s ∷ ss) t = nested ss (spine_on s t)

-- the term on which a spine is stuck; an open one is stuck on none, and any term may stand there
abbrev pub below_term : Option Term → Term
below_term None = Rel 0
below_term (Some t) = t

-- a head that stands by itself
abbrev pub IsOpenHead : Head → Type 0
IsOpenHead (Open l) = IsOpen l
IsOpenHead h = ⊥

-- a match, or a fixpoint with all arguments before its recursive one
abbrev pub IsStuckHead : Head → Type 0
IsStuckHead (Match o) = IsMatchNode o.term
IsStuckHead (Fixpoint f xs) = IsFixNode f.term × (missing (apply (read f) (map read xs.items)) ≡ Some 0)
IsStuckHead h = ⊥

-- a head with what is below it
abbrev pub IsOn : Head → Option Term → Type 0
IsOn h None = IsOpenHead h
IsOn h (Some t) = IsStuckHead h

abbrev pub AreStuck : List Spine → Type 0
AreStuck [] = Unit {0}
AreStuck (s ∷ ss) = IsStuckHead s.head × AreStuck ss

-- the innermost stands by itself, and each other on the one before
abbrev pub AreNested : List Spine → Type 0
AreNested [] = ⊥
AreNested (s ∷ ss) = IsOpenHead s.head × AreStuck ss
