-- Marks as the code keeps them.
use Rattle.std.specs.Prelude.{List, map, Result, Ok, Err}
use Rattle.pc_terms.specs.Syntax.{Term}
use Rattle.calculus_rules.specs.Guardedness as guard
use Rattle.calculus_rules.specs.Context.{Values, values}
use Rattle.pc_rules.specs.declared.stop.Halt.{Halt}
use Rattle.guard_check.specs.declared.mark.Mark.{Mark}
use Rattle.guard_check.specs.declared.mark.Mark.TheVariants.{Recursive, Argument, Smaller, Other}
use Rattle.guard_check.specs.declared.scope.Scope.{Scope}

abbrev pub mark_of : Mark → guard.Mark
mark_of (Recursive r) = guard.Recursive r
mark_of Argument = guard.Argument
mark_of Smaller = guard.Smaller
mark_of Other = guard.Other

abbrev pub marks_of : List Mark → guard.Marks
marks_of M = map mark_of M

-- the values and the marks of the variables in scope
abbrev pub values_in : Scope → Values
values_in s = values s.ctx

abbrev pub marks_in : Scope → guard.Marks
marks_in s = marks_of s.marks

-- an answer that gives a mark
abbrev pub marked : Result Mark Halt → Result guard.Mark Halt
marked (Ok m) = Ok (mark_of m)
marked (Err h) = Err h

-- an answer that gives a term and its mark
abbrev pub marked_term : Result (Term × Mark) Halt → Result (Term × guard.Mark) Halt
marked_term (Ok p) = Ok (p.0, mark_of p.1)
marked_term (Err h) = Err h
