-- The lifted program in which constants stand by their names, as the code makes it.
use Rattle.std.specs.Prelude.{◌≡◌, ℕ, ◌+◌, ◌<◌, ◌≤◌, length, List, [], ◌∷◌, ◌++◌, map}
use Rattle.anf_convert.specs.Anf.{AnfBlock}
use Rattle.anf_convert.specs.Captured.{Outside}
use Rattle.anf_convert.specs.Renumbering.{anf_of}
use Rattle.anf_convert.specs.declared.program.AnfConstant.{AnfConstant}
use Rattle.anf_convert.specs.declared.program.AnfProgram.{AnfProgram}
use Rattle.closure_lift.specs.LiftedForm.{most_functions}
use Rattle.closure_lift.specs.Lifted.{Block, Program}
use Rattle.closure_lift.specs.LiftedView.{functions_of}
use Rattle.closure_lift.specs.declared.program.Function.{Function}
use Rattle.box_terms.specs.declared.program.BoxFamily.{BoxFamily}
use Rattle.closure_lift.specs.Lift.{block_functions, constants_functions, lift_block, functions_block, functions_constants, lift}
use Rattle.closure_lift.specs.FreeVariables.{notes_block}
use Rattle.closure_lift.specs.CapturedLimit.{ProgramCaptures}
use Rattle.closure_lift.specs.Lifting.{most_words}
use Rattle.closure_lift.specs.declared.fault.LiftFault.{LiftFault}
use Rattle.closure_lift.specs.declared.fault.LiftFault.TheVariants.{Captured, Functions, Memory}
use Rattle.anf_convert.specs.Anf as anf
use Rattle.closure_lift.specs.declared.program.LiftedConstant.{LiftedConstant}
use Rattle.closure_lift.specs.declared.program.Lifted.{Lifted}

-- the constants' blocks
abbrev pub bodies : List AnfConstant → List AnfBlock
bodies cs = map (λ (c : AnfConstant). c.body) cs

-- the lifted constants, whose functions are numbered from g on
abbrev pub named_constants : ℕ → List AnfConstant → List LiftedConstant
named_constants g [] = []
named_constants g (c ∷ cs) = record { name = c.name; body = lift_block Outside [] [] g c.body } ∷ named_constants (g + block_functions c.body) cs

abbrev pub named_lift : AnfProgram → Lifted
named_lift P = record {
  functions = functions_constants 0 (bodies P.constants) ++ functions_block Outside [] (constants_functions (bodies P.constants)) P.main;
  constants = named_constants 0 P.constants;
  families = P.families;
  main = lift_block Outside [] [] (constants_functions (bodies P.constants)) P.main;
}

-- the program of these parts
abbrev pub put_parts : List Function → List LiftedConstant → List BoxFamily → Block → Lifted
put_parts fs cs families t = record { functions = functions_of fs; constants = cs; families = families; main = t }

-- what is noted of the constants
abbrev pub constants_notes : List AnfBlock → List (List ℕ)
constants_notes [] = []
constants_notes (t ∷ ts) = notes_block 0 t ++ constants_notes ts

-- why so many constants and functions are refused
abbrev pub IsCrowded : ℕ → LiftFault → Type 0
IsCrowded n Captured = ⊥
IsCrowded n Functions = most_functions < n
IsCrowded n Memory = Unit {0}

-- what the laws of a lifted program rest on
pub record IsLifted (P : AnfProgram) (q : Lifted) : Type 0 where
  pub exact : q ≡ named_lift P
  pub captures : ProgramCaptures most_words (anf_of P)
  pub few : length q.constants + length q.functions ≤ most_functions

-- the lifted program has as many constants
abbrev pub HasConstantsOf : anf.AnfProgram → Program → Type 0
HasConstantsOf P Q = length Q.constants ≡ length P.constants

-- constants and functions are few enough
abbrev pub HasFewFunctions : anf.AnfProgram → Program → Type 0
HasFewFunctions P Q = length P.constants + length Q.functions ≤ most_functions

-- why a program is refused
abbrev pub LiftIsRefused : anf.AnfProgram → LiftFault → Type 0
LiftIsRefused P Captured = ProgramCaptures most_words P → ⊥
LiftIsRefused P Functions = ProgramCaptures most_words P × (most_functions < length P.constants + length (lift P).functions)
LiftIsRefused P Memory = Unit {0}
