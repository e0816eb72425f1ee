-- Lifting step by step: the closures before an operation, the operation, and the functions in it.
use Rattle.std.specs.Prelude.{◌≡◌, ℕ, zero, suc, ◌<◌, List, [], ◌∷◌, ◌++◌, map, take, drop, get_or, length}
use Rattle.anf_convert.specs.Anf.{AnfBlock, AnfDefs, AnfBinding, AtomIs, OpIs}
use Rattle.anf_convert.specs.declared.program.Atom.{Atom}
use Rattle.anf_convert.specs.declared.program.Atom.TheVariants.{Var as AVar, Box as ABox, Empty as AEmpty}
use Rattle.anf_convert.specs.declared.program.AnfDef.{AnfDef}
use Rattle.anf_convert.specs.declared.program.AnfDef.TheVariants as def
use Rattle.anf_convert.specs.Captured.{Scope, Plain, plains, depth, Entry, Unbound, Word, Words, entry, captured}
use Rattle.closure_lift.specs.Lifted.{ClosOp, Block, TailAtom, Fn, Bound}
use Rattle.closure_lift.specs.Lifted as lifted
use Rattle.closure_lift.specs.LiftedView.{functions_of}
use Rattle.closure_lift.specs.Lift.{LiftSlot, Holds, Made, held, atom, atoms_of, unnumbered, holding, lift_op, lift_block, op_functions, functions_op, functions_block, def_functions, functions_defs}
use Rattle.closure_lift.specs.FreeVariables.{level_words, all_words}
use Rattle.closure_lift.specs.declared.program.Function.{Function}
use Rattle.closure_lift.specs.declared.program.LiftedBranch.{LiftedBranch}
use Rattle.closure_lift.specs.CapturedLimit.{OpCaptures, BlockCaptures}
use Rattle.closure_lift.specs.declared.fault.LiftFault.{LiftFault}
use Rattle.closure_lift.specs.declared.fault.LiftFault.TheVariants.{Captured, Functions, Memory}

-- captured words are fewer than this
abbrev pub most_words : ℕ
most_words = 1001

-- what the block holds after the closure for variable i, and the code that makes it
abbrev pub frame_for : List LiftSlot → ℕ → Entry → List LiftSlot
frame_for fr i Unbound = fr
frame_for fr i (Word x) = fr
frame_for fr i (Words ws) = Made i ∷ fr

abbrev pub code_for : List LiftSlot → ℕ → Entry → List Bound
code_for fr g Unbound = []
code_for fr g (Word x) = []
code_for fr g (Words ws) = lifted.OpIs (ClosOp g (map (held fr) ws)) ∷ []

abbrev pub closure_frame : Scope → List LiftSlot → Atom → List LiftSlot
closure_frame s fr (AVar i) = frame_for fr i (entry s i)
closure_frame s fr ABox = fr
closure_frame s fr (AEmpty c) = fr

abbrev pub closure_code : Scope → List ℕ → List LiftSlot → Atom → List Bound
closure_code s gs fr (AVar i) = code_for fr (get_or gs i 0) (entry s i)
closure_code s gs fr ABox = []
closure_code s gs fr (AEmpty c) = []

abbrev pub closures_frame : Scope → List LiftSlot → List Atom → List LiftSlot
closures_frame s fr [] = fr
closures_frame s fr (a ∷ as') = closures_frame s (closure_frame s fr a) as'

abbrev pub closures_code : Scope → List ℕ → List LiftSlot → List Atom → List Bound
closures_code s gs fr [] = []
closures_code s gs fr (a ∷ as') = closure_code s gs fr a ++ closures_code s gs (closure_frame s fr a) as'

-- of what a block binds: the atoms, the lifted operation, and the functions in it
abbrev pub atoms_in : AnfBinding → List Atom
atoms_in (AtomIs a) = a ∷ []
atoms_in (OpIs op) = atoms_of op

abbrev pub lifted_bound : Scope → List ℕ → List LiftSlot → ℕ → AnfBinding → Bound
lifted_bound s gs fr g (AtomIs a) = lifted.AtomIs (atom s fr a)
lifted_bound s gs fr g (OpIs op) = lifted.OpIs (lift_op s gs fr g op)

abbrev pub bound_functions : AnfBinding → ℕ
bound_functions (AtomIs a) = 0
bound_functions (OpIs op) = op_functions op

abbrev pub functions_bound : Scope → List ℕ → ℕ → AnfBinding → List Fn
functions_bound s gs g (AtomIs a) = []
functions_bound s gs g (OpIs op) = functions_op s gs g op

abbrev pub BoundCaptures : Scope → AnfBinding → Type 0
BoundCaptures s (AtomIs a) = Unit {0}
BoundCaptures s (OpIs op) = OpCaptures most_words s op

-- functions that are replaced later
abbrev pub blanks : ℕ → List Fn
blanks zero = []
blanks (suc n) = record { captured = 0; body = TailAtom ABox } ∷ blanks n

-- the lists stand from this place on
pub record Stand (notes : List (List ℕ)) (g : ℕ) (xs : List (List ℕ)) : Type 0 where
  pub rest : List (List ℕ)
  pub is : drop g notes ≡ xs ++ rest

-- the refusal, where this is asked of the program
abbrev pub LiftRefuses : Type 0 → LiftFault → Type 0
LiftRefuses Q Captured = Q → ⊥
LiftRefuses Q Functions = ⊥
LiftRefuses Q Memory = Unit {0}

-- the words that stand for these free variables in a scope
abbrev pub words_for : Scope → List ℕ → List ℕ
words_for s xs = captured (depth s) (all_words (level_words s) xs)

abbrev pub FewWords : Scope → List ℕ → Type 0
FewWords s xs = length (words_for s xs) < most_words

-- code after the closures for what is bound, with the variables and what they hold before
abbrev pub WithClosures : (Scope × List ℕ) → List LiftSlot → AnfBinding → List Bound → List Bound → Type 0
WithClosures v fr p before after = after ≡ before ++ closures_code v.0 v.1 fr (atoms_in p)

-- functions after those that are numbered from the next number on
abbrev pub WithFunctions : List Function → List Function → (ℕ → List Fn) → Type 0
WithFunctions before after more = functions_of after ≡ functions_of before ++ more (length before)

-- a function, and its body, with these captured words
abbrev pub function_with : List ℕ → Block → Fn
function_with ws t = record { captured = length ws; body = t }

abbrev pub function_body : (Scope × List ℕ) → List ℕ → ℕ → AnfBlock → Block
function_body v ws g b = lift_block (Plain v.0) (0 ∷ v.1) (Holds (depth v.0) ∷ map (λ x. Holds x) ws) g b

-- the functions of a fixpoint's definitions, and those inside them, which are numbered from g on
abbrev pub definitions : (Scope × List ℕ) → List ℕ → ℕ → AnfDefs → List Fn
definitions v ws g ds = def_functions v.0 v.1 ws g ds ++ functions_defs v.0 v.1 g ds

-- n places for functions, the last ones, begin with this number
abbrev pub PlacesFor : ℕ → ℕ → List Fn → Type 0
PlacesFor at n fs = (fs ≡ take at fs ++ blanks n) × (length (take at fs) ≡ at)

-- the body of the function of a fixpoint's definition, the functions inside it, and their captured words
abbrev pub def_body : (Scope × List ℕ) → List ℕ → ℕ → AnfDef → Block
def_body v ws g (def.Lambda b) = function_body v ws g b
def_body v ws g def.Box = TailAtom ABox

abbrev pub functions_def : (Scope × List ℕ) → ℕ → AnfDef → List Fn
functions_def v g (def.Lambda b) = functions_block (Plain v.0) (0 ∷ v.1) g b
functions_def v g def.Box = []

abbrev pub DefCaptures : Scope → AnfDef → Type 0
DefCaptures s (def.Lambda b) = BlockCaptures most_words (Plain s) b
DefCaptures s def.Box = Unit {0}

-- the lifted branch with n arguments and this block, and the functions inside it
pub record IsArm (v : Scope × List ℕ) (fr : List LiftSlot) (g n : ℕ) (t : AnfBlock) (b : LiftedBranch) : Type 0 where
  pub binders : b.binders ≡ n
  pub body : b.body ≡ lift_block (plains n v.0) (unnumbered n v.1) (holding n v.0 fr) g t

abbrev pub arm_functions : (Scope × List ℕ) → ℕ → ℕ → AnfBlock → List Fn
arm_functions v g n t = functions_block (plains n v.0) (unnumbered n v.1) g t
