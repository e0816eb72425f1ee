-- What a user has of main's module, in the terms of the typing rules, the source's evaluation and WebAssembly alone: nothing of the directed rules, of erasure or of the passes stands in it.
use Rattle.std.specs.Prelude.{ℕ, ◌≡◌, ◌+◌, ◌*◌, ◌≤◌, false, List}
use Rattle.pc_terms.specs.Syntax.{Term}
use Rattle.calculus_rules.specs.Environment.{Env}
use Rattle.calculus_rules.specs.Evaluation.{Evaluates}
use Rattle.calculus_rules.specs.FirstOrder.{Shape, Data, IsFirstOrder, Reads}
use Rattle.wasm_core.specs.Parts.{Parts}
use Rattle.wasm_core.specs.ModuleTyping.{IsValid}
use Rattle.wasm_core.specs.MachineStep.{State, Reach}
use Rattle.wasm_core.specs.Runs.{store_of}
use Rattle.wasm_core.specs.Answer.{Answers, AnswersWithin, IsAtEnd}
use Rattle.headline.specs.SourceWords.{source_words, source_branches}

-- the value is read as this data, along the types of a first-order set, and as no other
pub record IsReadAs (E : Env) (S : List Shape) (v : Term) (tree : Data) : Type 0 where
  pub reads : Reads E S 0 v tree
  pub only : (other : Data) → Reads E S 0 v other → other ≡ tree

-- every run of the module, by an evaluation's n nodes, w words and b branches of a match: none makes more steps than this, and each that can go no further answers the data or is exhausted after a
-- refused grow of memory; and where so many bytes are within the pages, it is exhausted only where a grow that the maximum allows was refused
pub record RunsAnswer (m : Parts) (pages w b n : ℕ) (tree : Data) : Type 0 where
  pub answers : AnswersWithin m (1024 * n * (w + b)) tree
  pub enough : 32 * n * w + 8 ≤ 65536 * pages → (k : ℕ) (t : State) → Reach m k answers.first t → IsAtEnd m t → (store_of t).by_choice ≡ false → Answers m tree t

-- main's type has these first-order types; the module is valid; and where main evaluates to a value, the value is read as exactly one tree of data, which every run of the module answers
pub record IsMainsModule (pages : ℕ) (E : Env) (main type : Term) (types : List Shape) (m : Parts) : Type 0 where
  pub first_order : IsFirstOrder E type types
  pub valid : IsValid m
  pub answers : (v : Term) (n : ℕ) → Evaluates E main v n → (tree : Data) × IsReadAs E types v tree × RunsAnswer m pages (source_words E main) (source_branches E) n tree
