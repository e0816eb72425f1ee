-- How many items the lists of a lifted program have.
use Rattle.std.proofs.Common.{◌≡◌, ℕ, suc, List, [], ◌∷◌, ◌++◌, length, refl, ap}
use Rattle.closure_lift.specs.Lifted.{Fn, branch_count}
use Rattle.closure_lift.specs.LiftedView.{seen, bounds_of, branches_of, fn_of, functions_of}
use Rattle.closure_lift.specs.LiftedProgram.{renumber_functions}
use Rattle.closure_lift.specs.declared.program.LiftedOp.{LiftedOp}
use Rattle.closure_lift.specs.declared.program.LiftedBranch.{LiftedBranch}
use Rattle.closure_lift.specs.declared.program.Function.{Function}

pub bounds_length : (os : List LiftedOp) → length os ≡ length (bounds_of os)
bounds_length [] = refl
bounds_length (o ∷ os) = ap suc (bounds_length os)

pub branches_many : (bs : List LiftedBranch) → length bs ≡ branch_count (branches_of bs)
branches_many [] = refl
branches_many (b ∷ bs) = ap suc (branches_many bs)

pub functions_length : (fs : List Function) → length (functions_of fs) ≡ length fs
functions_length [] = refl
functions_length (f ∷ fs) = ap suc (functions_length fs)

pub renumbered_length : (f : ℕ → ℕ) (fs : List Fn) → length (renumber_functions f fs) ≡ length fs
renumbered_length f [] = refl
renumbered_length f (x ∷ fs) = ap suc (renumbered_length f fs)

pub bounds_append : (xs ys : List LiftedOp) → bounds_of (xs ++ ys) ≡ bounds_of xs ++ bounds_of ys
bounds_append [] ys = refl
bounds_append (x ∷ xs) ys = ap (λ zs. seen x ∷ zs) (bounds_append xs ys)

pub functions_append : (xs ys : List Function) → functions_of (xs ++ ys) ≡ functions_of xs ++ functions_of ys
functions_append [] ys = refl
functions_append (x ∷ xs) ys = ap (λ zs. fn_of x ∷ zs) (functions_append xs ys)
