-- The answer of `export`: the bytes of the module for calls of main; and how it ends after the check.
use Rattle.std.specs.Prelude.{ℕ, ◌≡◌, ◌≢◌, ◌⊎◌, List, false, Err}
use Rattle.pc_rules.specs.declared.meter.Account.{Account}
use Rattle.first_order.specs.DirectedSignature.{signature_search}
use Rattle.headline.specs.SourceWords.{source_words}
use Rattle.source_limits.specs.PassedSizes.{IsSmallProgram}
use Rattle.wasm_core.specs.ModuleGrammar.{SpellsModule}
use Rattle.wasm_core.specs.ModuleTyping.{IsValid}
use Rattle.wasm_core.specs.ShortestBytes.{module_bytes}
use Rattle.module_run.specs.Ends.{IsSmall}
use Rattle.dump_reader.specs.declared.environment.RawEnv.{RawEnv}
use Rattle.driver.specs.declared.refusal.Refusal.{Refusal}
use Rattle.driver.specs.declared.refusal.Refusal.TheVariants as refusals
use Rattle.driver.specs.Texts.{SpellsWithin}
use Rattle.driver.specs.Judged.{EndsWith}
use Rattle.driver.specs.Lines.{status_of}
use Rattle.driver.specs.ExecEnds.{Accepting, ErasureSays, PassesSay, ShowsLarge, erasure_of}
use Rattle.driver.specs.MadeModule.{BytesRefuse}
use Rattle.driver.specs.CallStages.{SignatureSays, Signing, CallErasing, CallCompiling, its_call_module}

-- The text is the answer of `export` on the input: the shortest bytes of the module for calls of main, which has a typing.
pub record IsExported (turns pages : ℕ) (bytes text : List ℕ) : Type 0 where
  pub environment : RawEnv
  pub spelled : SpellsWithin bytes environment
  -- what the stages hand on, one to the next: the environment, well formed, and main's type; its signature; the erased program
  pub stages : CallCompiling turns environment
  pub valid : IsValid (its_call_module pages stages)
  pub text_is : text ≡ module_bytes (its_call_module pages stages)
  pub small : IsSmall (its_call_module pages stages)
  pub module_is : SpellsModule text (its_call_module pages stages)

-- the stage that refuses, with what it says; where it is the writing, the module has a typing
pub data ExportsNone (turns : ℕ) (e : RawEnv) (pages : ℕ) (r : Refusal) : Type 0 where
  by_signature : (x : Accepting turns e) (w : Account) → SignatureSays x.kept x.type x.left (Err r) w → ExportsNone turns e pages r
  by_erasure : (x : Signing turns e) (w : Account) → ErasureSays e x.before.kept e.main x.left (Err r) w → ExportsNone turns e pages r
  by_passes : (x : CallErasing turns e) → PassesSay pages x.program (Err r) → ExportsNone turns e pages r
  by_bytes : (x : CallCompiling turns e) → IsValid (its_call_module pages x) → BytesRefuse (its_call_module pages x) r → ExportsNone turns e pages r

-- what shows a refusal of `export` after the check
abbrev pub IsExportCause : (turns pages : ℕ) → Refusal → RawEnv → Type 0
IsExportCause turns pages r e = (r ≢ refusals.Memory) × ExportsNone turns e pages r

-- a refusal for the program or for its module shows the same of the program's size as by `compile`
abbrev pub IsLargeForCall : (turns : ℕ) → Refusal → RawEnv → Type 0
IsLargeForCall turns r e = (x : CallErasing turns e) → ShowsLarge x.program r

-- ---- how it ends

-- the search for the signature and erasure pass no limit of depth
pub record CallRulesAreWithin (turns : ℕ) (e : RawEnv) : Type 0 where
  pub search : (x : Accepting turns e) → (signature_search x.kept x.type x.left).deep ≡ false
  pub erasure : (x : Signing turns e) → (erasure_of x.before.kept e.main x.left).deep ≡ false

-- the check accepts, main's type has a signature, erasure ends with a program, the directed rules pass no limit of depth, and the program has a module for calls within 16 MiB
pub record IsExportable (turns : ℕ) (e : RawEnv) (pages : ℕ) : Type 0 where
  pub check : EndsWith turns e 0
  pub stages : CallCompiling turns e
  pub small : IsSmall (its_call_module pages stages)
  pub within : CallRulesAreWithin turns e

-- the same, and the program is small, by the source's words: no term of it is too deep after saturation, no lambda under over 1,000 binders, and its nodes are few, alone and with the words
pub record IsSmallCallSource (turns : ℕ) (e : RawEnv) : Type 0 where
  pub check : EndsWith turns e 0
  pub stages : CallErasing turns e
  pub sizes : IsSmallProgram stages.program (source_words stages.before.before.kept e.main)
  pub within : CallRulesAreWithin turns e

-- main has a module for calls, as the passes or the sizes show
abbrev pub HasCallModule : (turns : ℕ) → RawEnv → (pages : ℕ) → Type 0
HasCallModule turns e pages = IsExportable turns e pages ⊎ IsSmallCallSource turns e

-- the check accepts, a stage after it refuses with this status, and the rules pass no limit
pub record IsExportStopped (turns : ℕ) (e : RawEnv) (pages status : ℕ) : Type 0 where
  pub check : EndsWith turns e 0
  pub refusal : Refusal
  pub cause : IsExportCause turns pages refusal e
  pub within : CallRulesAreWithin turns e
  pub status_is : status ≡ status_of refusal

-- the check doesn't accept; or it does, and main has a module for calls within 16 MiB, or a stage refuses. No limit of depth is passed by the directed rules
abbrev pub ExportEndsWith : (turns : ℕ) → RawEnv → (pages status : ℕ) → Type 0
ExportEndsWith turns e pages status = (EndsWith turns e status × (status ≢ 0)) ⊎ ((IsExportable turns e pages × (status ≡ 0)) ⊎ IsExportStopped turns e pages status)
