-- Terms that are still to be found smaller, in a list of which the last comes first.
use Rattle.std.specs.Prelude.{ℕ, List, [], ◌∷◌, ◌++◌, Option, Some, None, slice_get, if◌then◌else◌}
use Rattle.pc_terms.specs.declared.leaf.Name.{Name}
use Rattle.pc_terms.specs.Syntax.{Term, Terms, Rel, App, Case}
use Rattle.pc_terms.specs.Syntax as syntax
use Rattle.calculus_rules.specs.declared.declaration.Constructor.{Constructor}
use Rattle.pc_rules.specs.declared.meter.Account.{Account}
use Rattle.calculus_rules.specs.Environment.{Env}
use Rattle.calculus_rules.specs.Context.{Values, under}
use Rattle.calculus_rules.specs.Guardedness.{Mark, Smaller, Other, Marks, Ending, ending, others, branch_marks}
use Rattle.pc_rules.specs.DirectedRun.{Run, done, bind}
use Rattle.calculus_rules.specs.Lookups.{family_of}
use Rattle.pc_rules.specs.DirectedGuard.{found_at, applied, opens, constructors_of, first_marks, later, if_smaller, find}
use Rattle.guard_check.specs.declared.tasks.Task.{Task}
use Rattle.guard_check.specs.Marks.{values_in, marks_in}

-- what a term in weak-head normal form is where the bodies of the matches at its head are smaller
abbrev pub head_mark : Marks → Term → Mark
head_mark M (Rel i) = found_at (slice_get M i)
head_mark M (App f a) = applied (head_mark M f)
head_mark M (Case f ps n ret s bs) = if opens (head_mark M s) then Smaller else Other
head_mark M t = Other

-- a term, with the values and the marks of the variables in scope
pub record ToFind : Type 0 where
  pub values : Values
  pub marks : Marks
  pub term : Term

abbrev pub to_find : Task → ToFind
to_find a = record { values = values_in a.scope; marks = marks_in a.scope; term = a.body }

-- the marks of the variables of a branch in a match that is opened
abbrev pub opened_marks : Ending → Option Constructor → ℕ → Marks → Marks
opened_marks q None n M = others n M
opened_marks q (Some C) n M = branch_marks q 0 C.args M

-- the bodies of branches, the last first
abbrev pub bodies_to_find : Values → Marks → Ending → List Constructor → Terms → List ToFind
bodies_to_find V M q Cs syntax.Done = []
bodies_to_find V M q Cs (syntax.Next n b bs) =
    bodies_to_find V M q (later Cs) bs ++ (record { values = under n V; marks = first_marks q Cs n M; term = b } ∷ [])

-- those of the matches at the head of a term in weak-head normal form, of the outermost match first
abbrev pub branches_to_find : Env → Option Name → Values → Marks → Term → List ToFind
branches_to_find E r V M (App f a) = branches_to_find E r V M f
branches_to_find E r V M (Case f ps n ret s bs) =
    bodies_to_find V M (ending E r f ps) (constructors_of (family_of E f)) bs ++ branches_to_find E r V M s
branches_to_find E r V M t = []

-- a term is found smaller, and then comes the rest; or it is not, and nothing comes
abbrev pub smaller_then : Env → Option Name → ToFind → (Account → Run Mark) → Account → Run Mark
smaller_then E r x k u = bind (find E r u.left x.values x.marks x.term u) (λ m v. if_smaller m (k v) v)

-- each term of a list, the last first
abbrev pub each_then : Env → Option Name → List ToFind → (Account → Run Mark) → Account → Run Mark
each_then E r [] k = k
each_then E r (x ∷ xs) k = each_then E r xs (smaller_then E r x k)

abbrev pub each_smaller : Env → Option Name → List ToFind → Account → Run Mark
each_smaller E r xs = each_then E r xs (λ u. done Smaller u)
