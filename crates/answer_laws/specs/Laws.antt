-- What status 0 of `check`, of `cert`, of `compile` and of `exec` means, as laws of the record that the top call promises.
use Rattle.std.specs.Prelude.{ℕ, ◌≡◌, ◌≤◌, List, Option, Some, Ok, codes}
use Rattle.std.specs.Io.KnownBytes.{Appends}
use Rattle.pc_terms.specs.declared.leaf.FamilyId.{FamilyId}
use Rattle.pc_terms.specs.Syntax.{Term}
use Rattle.calculus_rules.specs.Environment.{Env}
use Rattle.calculus_rules.specs.Evaluation.{Evaluates}
use Rattle.cert_rules.specs.Walk.{Items}
use Rattle.dump_printer.specs.Canonical.{canonical_tokens}
use Rattle.dump_printer.specs.Nesting.{nesting}
use Rattle.dump_reader.specs.declared.environment.RawEnv.{RawEnv}
use Rattle.first_order.specs.declared.shapes.Shape.{Shape}
use Rattle.first_order.specs.Searching.{members, AreNamed}
use Rattle.wasm_core.specs.Parts.{Parts}
use Rattle.wasm_core.specs.ModuleGrammar.{SpellsModule}
use Rattle.wasm_core.specs.ShortestBytes.{module_bytes}
use Rattle.module_run.specs.declared.answer.Answer.{Answer}
use Rattle.module_run.specs.Ends.{Ends}
use Rattle.metatheory.specs.EmptyFamilies.{IsOfFamily}
use Rattle.reports.specs.Shown.{Shown}
use Rattle.command_line.specs.declared.job.Job.TheVariants.{Cert, Check, Compile, Exec}
use Rattle.command_line.specs.declared.line.Request.{Request}
use Rattle.command_line.specs.Line.{request_of}
use Rattle.certified_texts.specs.ReadBack.{IsReadAsBoth, certified_text}
use Rattle.driver.specs.CertEnds.{IsTakenWith}
use Rattle.driver.specs.Serve.{IsInput}
use Rattle.driver.specs.Served.{Seen, Served}
use Rattle.driver.specs.SourceSays.{IsLine}
use Rattle.driver.specs.Texts.{SpellsWithin}
use Rattle.answer_laws.specs.Derived.{IsDerived, DeclaresEmptyFamily}
use Rattle.answer_laws.specs.MainsModule.{IsMainsModule}

-- the input spells the environment, which is derived by the typing rules, with main's type
pub record HasInput (left : Option (List ℕ)) : Type 0 where
  pub bytes : List ℕ
  pub input : IsInput left bytes
  pub environment : RawEnv
  pub spelled : SpellsWithin bytes environment
  pub kept : Env
  pub type : Term
  pub derived : IsDerived environment kept type

-- out took `ok`; and where main has a type of a family that the text declares without constructors, as False is, main has no value
pub record HasChecked (left taken taken' : Option (List ℕ)) : Type 0 where
  pub of : HasInput left
  pub no_value : (f : FamilyId) → DeclaresEmptyFamily of.environment f → IsOfFamily of.kept of.environment.main f → (v : Term) (n : ℕ) → Evaluates of.kept of.environment.main v n → ⊥
  pub written : Appends taken taken' (codes "ok\n")

-- out took the canonical text of the environment and the text of a certificate, each with LF. Where the first nests at most 1,000 deep, its environment is read of the front of what is written, and
-- the certificate behind it; and by `verify`, with at least so many turns, the walk along that is refused at no item and doesn't run out of units
pub record HasCertified (q : Request) (left taken taken' : Option (List ℕ)) : Type 0 where
  pub of : HasInput left
  pub items : Items
  pub written : Appends taken taken' (certified_text of.environment items)
  pub read_back : nesting (canonical_tokens of.environment) ≤ 1000 → IsReadAsBoth of.environment items (certified_text of.environment items)
  pub units : ℕ
  pub few : units ≤ q.turns
  pub verified : IsTakenWith units of.environment items

-- main's module, of which out took the shortest bytes, which spell it
pub record HasCompiled (q : Request) (left taken taken' : Option (List ℕ)) : Type 0 where
  pub of : HasInput left
  pub types : List Shape
  pub parts : Parts
  pub means : IsMainsModule q.pages of.kept of.environment.main of.type (members types) parts
  pub spells : SpellsModule (module_bytes parts) parts
  pub written : Appends taken taken' (module_bytes parts)

-- main's module, and the answer of a run of it within the steps; out took the text of its data, by the names of main's types, and LF; and where main evaluates to a value, that data is the value's
pub record HasExecuted (q : Request) (left taken taken' : Option (List ℕ)) : Type 0 where
  pub of : HasInput left
  pub types : List Shape
  pub named : AreNamed of.kept types
  pub parts : Parts
  pub means : IsMainsModule q.pages of.kept of.environment.main of.type (members types) parts
  pub answer : Answer
  pub ends : Ends parts q.pages q.steps (Ok answer)
  pub text : List ℕ
  pub line : IsLine types of.environment.names answer.tree text
  pub written : Appends taken taken' text
  pub values : (v : Term) (n : ℕ) (evaluation : Evaluates of.kept of.environment.main v n) → answer.tree ≡ (means.answers v n evaluation).0

abbrev pub CheckMeans : (S K E : Type 0) → Type 0
CheckMeans S K E =
    (words : List (List ℕ)) (reports : List Shown) (src src' : Seen S) (out out' : Seen K) (err err' : Seen E) → Served 0 words reports src src' out out' err err' →
    (q : Request) → request_of words ≡ Some q → q.job ≡ Check → HasChecked src.told out.told out'.told

abbrev pub CertMeans : (S K E : Type 0) → Type 0
CertMeans S K E =
    (words : List (List ℕ)) (reports : List Shown) (src src' : Seen S) (out out' : Seen K) (err err' : Seen E) → Served 0 words reports src src' out out' err err' →
    (q : Request) → request_of words ≡ Some q → q.job ≡ Cert → HasCertified q src.told out.told out'.told

abbrev pub CompileMeans : (S K E : Type 0) → Type 0
CompileMeans S K E =
    (words : List (List ℕ)) (reports : List Shown) (src src' : Seen S) (out out' : Seen K) (err err' : Seen E) → Served 0 words reports src src' out out' err err' →
    (q : Request) → request_of words ≡ Some q → q.job ≡ Compile → HasCompiled q src.told out.told out'.told

abbrev pub ExecMeans : (S K E : Type 0) → Type 0
ExecMeans S K E =
    (words : List (List ℕ)) (reports : List Shown) (src src' : Seen S) (out out' : Seen K) (err err' : Seen E) → Served 0 words reports src src' out out' err err' →
    (q : Request) → request_of words ≡ Some q → q.job ≡ Exec → HasExecuted q src.told out.told out'.told
