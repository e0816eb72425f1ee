-- What a user has of main's module for calls, in the terms of the typing rules, the source's evaluation and WebAssembly alone: nothing of the directed rules, of erasure or of the passes stands in it.
use Rattle.std.specs.Prelude.{ℕ, List, []}
use Rattle.pc_terms.specs.Syntax.{Term}
use Rattle.calculus_rules.specs.Environment.{Env}
use Rattle.calculus_rules.specs.Typing.{bare, Types}
use Rattle.calculus_rules.specs.Evaluation.{Evaluates}
use Rattle.calculus_rules.specs.FirstOrder.{Shape, Data, IsFirstOrder}
use Rattle.first_order.specs.Applied.{IsApplied}
use Rattle.first_order.specs.Signature.{IsSignature}
use Rattle.wasm_core.specs.Parts.{Parts}
use Rattle.wasm_core.specs.ModuleTyping.{IsValid}
use Rattle.headline.specs.SourceWords.{source_branches, source_words}
use Rattle.applied_terms.specs.CallEvaluation.{ArgumentsFitSets}
use Rattle.call_answers.specs.EveryCall.{EveryCallAnswers}
use Rattle.answer_laws.specs.MainsModule.{IsReadAs}

-- main's type has this signature; the module is valid; to data that fits, main can be applied, and such an applied term has a type, of the answer's first-order set; and where it evaluates to a value, the
-- value is read as exactly one tree of data, which every run of the module from a store that holds the arguments answers
pub record IsModuleForCalls (pages : ℕ) (E : Env) (main type : Term) (takes : List (List Shape)) (answer : List Shape) (m : Parts) : Type 0 where
  pub signature : IsSignature E type takes answer
  pub valid : IsValid m
  pub applied : (arguments : List Data) → ArgumentsFitSets takes arguments → (t : Term) × IsApplied takes main arguments t
  pub typed : (arguments : List Data) (t : Term) → IsApplied takes main arguments t → (U : Term) × Types bare E [] t U × IsFirstOrder E U answer
  pub answers : (arguments : List Data) (t : Term) → IsApplied takes main arguments t → (v : Term) (n : ℕ) → Evaluates E t v n →
      (tree : Data) × IsReadAs E answer v tree × EveryCallAnswers m arguments pages (source_words E main) (source_branches E) n tree
