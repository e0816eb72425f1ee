-- What every run of a program's module for calls does, from a store in which a host has put the arguments, where main, applied to them, evaluates to data.
use Rattle.std.specs.Prelude.{◌≡◌, ℕ, ◌+◌, ◌*◌, ◌<◌, ◌≤◌, ◌⊎◌, List, [], ◌∷◌, ◌++◌, length, true, false, Some}
use Rattle.lambda_box.specs.BoxProgram.{BoxProgram}
use Rattle.lambda_box.specs.BoxData.{Data}
use Rattle.lambda_box.specs.DataTerms.{greatest_words}
use Rattle.anf_convert.specs.AnfData.{DataTrees, DNil, DCons}
use Rattle.anf_convert.specs.Preorder.{preorder}
use Rattle.closure_lift.specs.Lifted.{Program, Vals}
use Rattle.closure_lift.specs.LiftKeeps.{AreData}
use Rattle.wasm_core.specs.declared.entries.Entry.TheVariants.{Status}
use Rattle.wasm_core.specs.Parts.{Parts}
use Rattle.wasm_core.specs.MachineStep.{State, Store, Conf, At, Reach}
use Rattle.wasm_core.specs.ModuleTyping.{IsValid}
use Rattle.wasm_core.specs.Runs.{store_of}
use Rattle.wasm_core.specs.HostStore.{main_start_in}
use Rattle.wasm_core.specs.Answer.{global_of, Answers, Exhausted, IsAtEnd}
use Rattle.wasm_emit.specs.CallDepth.{call_depth, MainEvaluates}
use Rattle.known_calls.specs.KnownCalls.{module_of_call}
use Rattle.back_end.specs.BackEnd.{passed, IsWithinPasses}
use Rattle.applied_terms.specs.CallEvaluation.{CallEvaluatesTo}
use Rattle.call_answers.specs.HostedCall.{HoldsArguments}

-- the module that the passes and emission make of a program that is called with so many arguments; its memory may grow to so many pages
abbrev pub call_module_for : BoxProgram → ℕ → ℕ → Parts
call_module_for P k pages = module_of_call (passed P) k pages

-- a list of trees, the last one first, as lists of nodes, the first one first
abbrev pub listed : DataTrees → List Data
listed DNil = []
listed (DCons d ds) = listed ds ++ preorder d ∷ []

-- main of the lifted program whose module for calls this is evaluates, applied to values that are these data
pub record EvaluatesCall (m : Parts) (arguments : List Data) (pages : ℕ) : Type 0 where
  pub program : Program
  pub is : m ≡ module_of_call program (length arguments) pages
  pub trees : DataTrees
  pub given : listed trees ≡ arguments
  pub values : Vals
  pub are : AreData values trees
  pub main : MainEvaluates program values

-- every run of the module from this store, whichever grows of memory are refused
pub record CallRuns (m : Parts) (pages most bytes calls : ℕ) (tree : Data) (s : Store) : Type 0 where
  pub first : State
  pub starts : main_start_in m s ≡ Some first
  -- no run makes more steps than this, and each that can go no further answers the data or is exhausted: it trapped with the status 1 after a refused grow
  pub bounded : (k : ℕ) (t : State) → Reach m k first t → k ≤ most
  pub answers : (k : ℕ) (t : State) → Reach m k first t → IsAtEnd m t → Answers m tree t ⊎ Exhausted m t
  -- where so many bytes are within the maximum, it is exhausted only where a grow that the maximum allows was refused
  pub enough : bytes ≤ 65536 * pages → (k : ℕ) (t : State) → Reach m k first t → IsAtEnd m t → (store_of t).by_choice ≡ false → Answers m tree t
  -- at most one frame more than so many calls waits for the function that runs
  pub waiting : (k : ℕ) (c : Conf) → Reach m k first (At c) → length c.callers ≤ calls + 1

-- Every run of the module from a store that holds the arguments answers the data or is exhausted. The bounds go by the numbers of an evaluation with closures: its contractions, its blocks, the words of
-- the widest block, at most w and one for each argument, and the words of all blocks. They are the same for each such store: where the maximum holds its heap and these words, a run
-- is exhausted only after a refused grow that the maximum allows. The frames that wait go by the call depth, which is at most the number of contractions
pub record EveryCallAnswers (m : Parts) (arguments : List Data) (pages w b n : ℕ) (tree : Data) : Type 0 where
  pub contractions : ℕ
  pub blocks : ℕ
  pub widest : ℕ
  pub words : ℕ
  pub few_contractions : contractions ≤ n
  pub few_blocks : blocks ≤ 2 * n
  pub few_words : words ≤ blocks * widest
  pub narrow : widest ≤ w + length arguments
  pub lifted : EvaluatesCall m arguments pages
  pub shallow : call_depth lifted.main.evaluates ≤ contractions
  pub runs : (s : Store) (h : HoldsArguments pages arguments s) →
      CallRuns m pages (64 * (blocks + contractions + 1) * (widest + b)) (h.heap + 4 * words) (call_depth lifted.main.evaluates) tree s

-- of a program of the form within the limits of the passes, with at most b constructors in a family, by its words
abbrev pub CalledProgramsAnswer : Type 0
CalledProgramsAnswer =
    (P : BoxProgram) (arguments : List Data) (pages b n : ℕ) (tree : Data) → 0 < pages → pages ≤ 16384 → 0 < b → IsWithinPasses P b → CallEvaluatesTo P arguments tree n →
    EveryCallAnswers (call_module_for P (length arguments) pages) arguments pages (greatest_words P) b n tree

-- whether main evaluates or not, the module is valid, for any number of arguments
abbrev pub CallModulesAreValid : Type 0
CallModulesAreValid = (P : BoxProgram) (k pages b : ℕ) → 0 < pages → pages ≤ 16384 → IsWithinPasses P b → IsValid (call_module_for P k pages)

-- and in each run of it from a store that holds as many arguments, the status is 1 only after a refused grow
abbrev pub CallStatusTells : Type 0
CallStatusTells =
    (P : BoxProgram) (arguments : List Data) (pages : ℕ) (s : Store) → pages ≤ 16384 → HoldsArguments pages arguments s → (first : State) → main_start_in (call_module_for P (length arguments) pages) s ≡ Some first →
    (k : ℕ) (t : State) → Reach (call_module_for P (length arguments) pages) k first t → global_of Status (call_module_for P (length arguments) pages) (store_of t) ≡ Some 1 → (store_of t).refused ≡ true
