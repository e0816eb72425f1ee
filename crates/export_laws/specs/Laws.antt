-- What status 0 of `export` means, as a law of the record that the top call promises.
use Rattle.std.specs.Prelude.{ℕ, ◌≡◌, List, Option, Some}
use Rattle.std.specs.Io.KnownBytes.{Appends}
use Rattle.calculus_rules.specs.FirstOrder.{Shape}
use Rattle.wasm_core.specs.Parts.{Parts}
use Rattle.wasm_core.specs.ModuleGrammar.{SpellsModule}
use Rattle.wasm_core.specs.ShortestBytes.{module_bytes}
use Rattle.reports.specs.Shown.{Shown}
use Rattle.command_line.specs.declared.job.Job.TheVariants.{Export}
use Rattle.command_line.specs.declared.line.Request.{Request}
use Rattle.command_line.specs.Line.{request_of}
use Rattle.driver.specs.Served.{Seen, Served}
use Rattle.answer_laws.specs.Laws.{HasInput}
use Rattle.export_laws.specs.ModuleForCalls.{IsModuleForCalls}

-- main's module for calls, of which out took the shortest bytes, which spell it
pub record HasExported (q : Request) (left taken taken' : Option (List ℕ)) : Type 0 where
  pub of : HasInput left
  pub takes : List (List Shape)
  pub answer : List Shape
  pub parts : Parts
  pub means : IsModuleForCalls q.pages of.kept of.environment.main of.type takes answer parts
  pub spells : SpellsModule (module_bytes parts) parts
  pub written : Appends taken taken' (module_bytes parts)

abbrev pub ExportMeans : (S K E : Type 0) → Type 0
ExportMeans S K E =
    (words : List (List ℕ)) (reports : List Shown) (src src' : Seen S) (out out' : Seen K) (err err' : Seen E) → Served 0 words reports src src' out out' err err' →
    (q : Request) → request_of words ≡ Some q → q.job ≡ Export → HasExported q src.told out.told out'.told
