-- The answer of `compile`: the bytes of main's module; and how it ends after the check.
use Rattle.std.specs.Prelude.{ℕ, ◌≡◌, ◌≢◌, ◌⊎◌, ◌<◌, List, length, false, Option, Result, Ok, Err}
use Rattle.std.specs.Io.KnownBytes.{Appends}
use Rattle.pc_rules.specs.declared.meter.Account.{Account}
use Rattle.pc_rules.specs.DirectedFirstOrder.{first_order_search}
use Rattle.wasm_core.specs.Parts.{Parts}
use Rattle.wasm_core.specs.ModuleGrammar.{SpellsModule}
use Rattle.wasm_core.specs.ModuleTyping.{IsValid}
use Rattle.wasm_core.specs.ShortestBytes.{module_bytes, most_bytes}
use Rattle.module_run.specs.Ends.{IsSmall}
use Rattle.dump_reader.specs.declared.environment.RawEnv.{RawEnv}
use Rattle.command_line.specs.declared.line.Request.{Request}
use Rattle.driver.specs.declared.refusal.Refusal.{Refusal}
use Rattle.driver.specs.declared.refusal.Refusal.TheVariants as refusals
use Rattle.driver.specs.declared.refusal.ProgramLimit.TheVariants as limits
use Rattle.driver.specs.Texts.{SpellsWithin}
use Rattle.driver.specs.Judged.{EndsWith}
use Rattle.driver.specs.Lines.{status_of}
use Rattle.driver.specs.SourceSays.{ShapesSay}
use Rattle.driver.specs.ExecEnds.{Accepting, Searching, Erasing, Compiling, IsCompilable, ErasureSays, PassesSay, erasure_of, its_module}

-- the module's shortest bytes pass 16 MiB
abbrev pub BytesRefuse : Parts → Refusal → Type 0
BytesRefuse m (refusals.Program limits.ModuleBytes) = most_bytes < length (module_bytes m)
BytesRefuse m refusals.Memory = Unit {0}
BytesRefuse m _ = ⊥

-- the bytes are the module's shortest, which spell it
abbrev pub BytesSay : {V : Type 0} → (V → List ℕ) → Parts → Result V Refusal → Type 0
BytesSay view m (Ok v) = (view v ≡ module_bytes m) × IsSmall m × SpellsModule (view v) m
BytesSay view m (Err r) = BytesRefuse m r

-- The text is the answer of `compile` on the input: the shortest bytes of main's module, which has a typing.
pub record IsMade (turns pages : ℕ) (bytes text : List ℕ) : Type 0 where
  pub environment : RawEnv
  pub spelled : SpellsWithin bytes environment
  pub stages : Compiling turns environment
  pub valid : IsValid (its_module pages stages)
  pub text_is : text ≡ module_bytes (its_module pages stages)
  pub small : IsSmall (its_module pages stages)
  pub module_is : SpellsModule text (its_module pages stages)

-- the stage that refuses, with what it says; where it is the writing, the module has a typing
pub data MakesNone (turns : ℕ) (e : RawEnv) (pages : ℕ) (r : Refusal) : Type 0 where
  by_search : (x : Accepting turns e) (w : Account) → ShapesSay x.kept x.type x.left (Err r) w → MakesNone turns e pages r
  by_erasure : (x : Searching turns e) (w : Account) → ErasureSays e x.before.kept e.main x.left (Err r) w → MakesNone turns e pages r
  by_passes : (x : Erasing turns e) → PassesSay pages x.program (Err r) → MakesNone turns e pages r
  by_bytes : (x : Compiling turns e) → IsValid (its_module pages x) → BytesRefuse (its_module pages x) r → MakesNone turns e pages r

-- what shows a refusal of `compile` after the check
abbrev pub IsMakeCause : (turns pages : ℕ) → Refusal → RawEnv → Type 0
IsMakeCause turns pages r e = (r ≢ refusals.Memory) × MakesNone turns e pages r

-- the check accepts, a stage after it refuses with this status, and the search and erasure pass no limit
pub record IsStopped (turns : ℕ) (e : RawEnv) (pages status : ℕ) : Type 0 where
  pub check : EndsWith turns e 0
  pub refusal : Refusal
  pub cause : IsMakeCause turns pages refusal e
  pub search_within : (x : Accepting turns e) → (first_order_search x.kept x.type x.left).deep ≡ false
  pub erasure_within : (x : Searching turns e) → (erasure_of x.before.kept e.main x.left).deep ≡ false
  pub status_is : status ≡ status_of refusal

-- the check doesn't accept; or it does, and main has a module within 16 MiB, or a stage refuses. No limit of depth is passed by the directed rules
abbrev pub MakeEndsWith : (turns : ℕ) → RawEnv → (pages status : ℕ) → Type 0
MakeEndsWith turns e pages status = (EndsWith turns e status × (status ≢ 0)) ⊎ ((IsCompilable turns e pages × (status ≡ 0)) ⊎ IsStopped turns e pages status)

-- out takes bytes that spell main's module
pub record TakesModule (q : Request) (e : RawEnv) (taken taken' : Option (List ℕ)) : Type 0 where
  pub stages : Compiling q.turns e
  pub text : List ℕ
  pub takes : Appends taken taken' text
  pub spells : SpellsModule text (its_module q.pages stages)
