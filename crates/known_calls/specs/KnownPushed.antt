-- What the functions that push instructions of modules with workers have pushed: the instructions that the definitions put in front of any rest.
use Rattle.std.specs.Prelude.{◌≡◌, ◌≤◌, ◌+◌, ◌*◌, ℕ, zero, suc, Bool, true, false, ◌&&◌, ◌||◌, if◌then◌else◌, nat_eq, List, [], ◌∷◌, ◌++◌, Option, Some, None}
use Rattle.anf_convert.specs.declared.program.Atom.{Atom}
use Rattle.anf_convert.specs.declared.program.Atom.TheVariants.{Var as AVar}
use Rattle.closure_lift.specs.Lifted.{Block, BranchBlocks, NoBranch, Branch, Program, Bound, AtomIs, OpIs}
use Rattle.closure_lift.specs.LiftedProgram.{renumber, renumber_branches, place_in, lifted_of}
use Rattle.closure_lift.specs.declared.program.Lifted.{Lifted}
use Rattle.closure_lift.specs.declared.program.LiftedBranch.{LiftedBranch}
use Rattle.wasm_core.specs.declared.instrs.Instr.{Instr}
use Rattle.wasm_core.specs.declared.instrs.Instr.TheVariants.{LocalSet, GlobalGet}
use Rattle.wasm_emit.specs.EmittedCode.{Load}
use Rattle.wasm_emit.specs.Pushed.{ends, renumber_bound}
use Rattle.known_calls.specs.KnownPlaces.{Place, At, InLocal}
use Rattle.known_calls.specs.KnownTests.{Kind, Bare, Fielded, Alternative, is_of, keep, kept, is_some, bare_test, arm, none, chain, most_rounds, search, tests}
use Rattle.known_calls.specs.KnownCode.{Position, Inside, InTail, known, atom, into_local, op, code, alternatives, branch, Final, closure_call}

-- the position under n blocks more
abbrev pub under_position : ℕ → Position → Position
under_position n Inside = Inside
under_position n Final = Final
under_position n (InTail g depth) = InTail g (depth + n)

-- what a block binds, or ends in
abbrev pub bound_code : Program → List Place → ℕ → Position → Bound → List Instr → List Instr
bound_code P env d at (AtomIs a) rest = atom env a rest
bound_code P env d at (OpIs x) rest = op P env d at x rest

abbrev pub bound_known : Program → List Place → Bound → Option Place
bound_known P env (AtomIs a) = None
bound_known P env (OpIs x) = known P env x

-- a binding of this mark: its closure, where it is made nowhere
abbrev pub bound_unmade : Program → List Place → Bool → Bound → Option Place
bound_unmade P env read x = if read then None else bound_known P env x

-- its place, the first local that is free behind it, and its code
abbrev pub place_bound : ℕ → Option Place → Place
place_bound d None = At (InLocal d)
place_bound d (Some q) = q

abbrev pub local_behind : ℕ → Option Place → ℕ
local_behind d None = suc d
local_behind d (Some q) = d

abbrev pub made_code : Program → List Place → ℕ → Bound → List Instr → List Instr
made_code P env d (AtomIs a) rest = atom env a (LocalSet d ∷ rest)
made_code P env d (OpIs x) rest = into_local env d x (op P env d Inside x) rest

abbrev pub bind_code : Program → List Place → ℕ → Bound → Option Place → List Instr → List Instr
bind_code P env d x None rest = made_code P env d x rest
bind_code P env d x (Some q) rest = rest

-- the code of the parts of a program in memory, in which a constant stands by its name
module _ (Q : Lifted) where
  abbrev pub op_code : List Place → ℕ → Position → Bound → List Instr → List Instr
  op_code env d at x = bound_code (lifted_of Q) env d at (renumber_bound (place_in Q.constants) x)

  abbrev pub op_made : List Place → ℕ → Bound → List Instr → List Instr
  op_made env d x = made_code (lifted_of Q) env d (renumber_bound (place_in Q.constants) x)

  abbrev pub op_known : List Place → Bound → Option Place
  op_known env x = bound_known (lifted_of Q) env (renumber_bound (place_in Q.constants) x)

  abbrev pub op_unmade : List Place → Bool → Bound → Option Place
  op_unmade env read x = bound_unmade (lifted_of Q) env read (renumber_bound (place_in Q.constants) x)

  abbrev pub binding_code : List Place → ℕ → Bool → Bound → List Instr → List Instr
  binding_code env d read x = bind_code (lifted_of Q) env d (renumber_bound (place_in Q.constants) x) (op_unmade env read x)

  abbrev pub block_code : List Place → ℕ → Position → Block → List Instr → List Instr
  block_code env d at t = code (lifted_of Q) env d at (renumber (place_in Q.constants) t)

  abbrev pub branch_code : List Place → ℕ → Position → LiftedBranch → List Instr → List Instr
  branch_code env d at b = branch (lifted_of Q) env d b.binders at (renumber (place_in Q.constants) b.body)

  -- branch c of a match on the word in local d; and those of one kind, of which the first has number c
  abbrev pub alternative_of : List Place → ℕ → ℕ → LiftedBranch → Alternative
  alternative_of env d c b = record { number = c; binders = b.binders; body = renumber (place_in Q.constants) b.body; code = λ at. branch_code env d at b }

  abbrev pub kind_of : List Place → ℕ → Kind → ℕ → BranchBlocks → List Alternative
  kind_of env d k c bs = kept k (alternatives (lifted_of Q) env d c (renumber_branches (place_in Q.constants) bs))

  abbrev pub search_code : List Place → ℕ → Position → Kind → ℕ → ℕ → BranchBlocks → List Instr → List Instr
  search_code env d at k c rounds bs = search k d rounds (kind_of env d k c bs) at

  abbrev pub alone_code : List Place → ℕ → Position → Kind → ℕ → BranchBlocks → List Instr → List Instr
  alone_code env d at k c bs = chain d false (kind_of env d k c bs) none at

  -- matches of both kinds, with few bare branches, and with many
  abbrev pub few_bare_code : List Place → ℕ → Position → BranchBlocks → List Instr → List Instr
  few_bare_code env d at bs = chain d true (kind_of env d Bare 0 bs) (search Fielded d most_rounds (kind_of env d Fielded 0 bs)) at

  abbrev pub both_kinds_code : List Place → ℕ → Position → BranchBlocks → List Instr → List Instr
  both_kinds_code env d at bs = arm true (bare_test d) (search Bare d most_rounds (kind_of env d Bare 0 bs)) (search Fielded d most_rounds (kind_of env d Fielded 0 bs)) at

  abbrev pub branches_code : List Place → ℕ → Position → BranchBlocks → List Instr → List Instr
  branches_code env d at bs = tests d (alternatives (lifted_of Q) env d 0 (renumber_branches (place_in Q.constants) bs)) at

-- how many branches are of a kind
abbrev pub counted : Bool → ℕ → ℕ
counted true n = suc n
counted false n = n

abbrev pub count_of : Kind → BranchBlocks → ℕ
count_of k NoBranch = 0
count_of k (Branch n t bs) = counted (is_of k n) (count_of k bs)

-- whether the first is
abbrev pub begins_with : Kind → BranchBlocks → Bool
begins_with k NoBranch = false
begins_with k (Branch n t bs) = is_of k n

-- whether a branch with so many binders, before these, is the last one of a kind
abbrev pub is_last_of : Kind → ℕ → BranchBlocks → Bool
is_last_of k n more = is_of k n && nat_eq (count_of k more) 0

-- n arms were begun, for alternatives that all have tests; their ends, and what stands in the innermost `else`, come later
pub record TestedArms (d : ℕ) (at : Position) (as' : List Alternative) (old new : List Instr) (n : ℕ) : Type 0 where
  pub is : (others : Position → List Instr → List Instr) (rest : List Instr) → new ++ others (under_position n at) (ends n rest) ≡ old ++ chain d true as' others at rest

-- n arms were begun, for alternatives of which the last has no test; their ends come later
pub record ToldArms (d : ℕ) (at : Position) (as' : List Alternative) (old new : List Instr) (n : ℕ) : Type 0 where
  pub is : (rest : List Instr) → new ++ ends n rest ≡ old ++ chain d false as' none at rest

-- n arms were begun, at most one, for a branch, which isn't the last one of its kind
pub record OneArm (d : ℕ) (at : Position) (k : Kind) (a : Alternative) (old new : List Instr) (n : ℕ) : Type 0 where
  pub few : n ≤ 1
  pub is : (some : Bool) (more : List Alternative) (others : Position → List Instr → List Instr) (rest : List Instr) → (is_of k a.binders ≡ true → some || is_some more ≡ true) →
      new ++ chain d some more others (under_position n at) (ends n rest) ≡ old ++ chain d some (keep (is_of k a.binders) a more) others at rest

-- a closure that isn't known, applied
abbrev pub unknown_application : List Place → Position → Atom → Atom → List Instr → List Instr
unknown_application env at f a rest = atom env f (atom env a (atom env f (Load 0 ∷ closure_call at ∷ rest)))

-- the word on the operands is applied to argument n
abbrev pub argument_code : ℕ → List Instr → List Instr
argument_code n rest = LocalSet 0 ∷ GlobalGet 3 ∷ Load (4 * n) ∷ LocalSet 1 ∷ unknown_application (At (InLocal 1) ∷ At (InLocal 0) ∷ []) Inside (AVar 1) (AVar 0) rest

-- it is applied to so many arguments, the first first
abbrev pub arguments_code : ℕ → List Instr → List Instr
arguments_code zero rest = rest
arguments_code (suc n) rest = arguments_code n (argument_code n rest)
