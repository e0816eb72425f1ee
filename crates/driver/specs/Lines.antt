-- The statuses of the refusals, and their lines on err.
use Rattle.std.specs.Prelude.{ℕ, List, [], ◌∷◌, ◌++◌, Option, Some, None, codes, decimal}
use Rattle.dump_grammar.specs.declared.refusal.Foreign.{Foreign}
use Rattle.dump_grammar.specs.declared.refusal.Foreign.TheVariants as foreigns
use Rattle.dump_grammar.specs.declared.refusal.Limit.{Limit}
use Rattle.dump_grammar.specs.declared.refusal.Limit.TheVariants as limits
use Rattle.dump_grammar.specs.declared.refusal.ReadRefusal.{ReadRefusal}
use Rattle.dump_grammar.specs.declared.refusal.ReadRefusal.TheVariants as reads
use Rattle.driver.specs.declared.refusal.Refusal.{Refusal}
use Rattle.driver.specs.declared.refusal.Refusal.TheVariants as refusals
use Rattle.wasm_core.specs.declared.entries.Entry.{Entry}
use Rattle.wasm_core.specs.declared.entries.Entry.TheVariants as entries
use Rattle.wasm_core.specs.declared.ended.TrapKind.{TrapKind}
use Rattle.wasm_core.specs.declared.ended.TrapKind.TheVariants as traps
use Rattle.driver.specs.declared.refusal.ProgramLimit.{ProgramLimit}
use Rattle.driver.specs.declared.refusal.ProgramLimit.TheVariants as programs
use Rattle.driver.specs.declared.refusal.RunEnd.{RunEnd}
use Rattle.driver.specs.declared.refusal.RunEnd.TheVariants as runs
use Rattle.driver.specs.declared.refusal.ModuleFault.{ModuleFault}
use Rattle.driver.specs.declared.refusal.ModuleFault.TheVariants as modules
use Rattle.driver.specs.declared.refusal.ArgumentFault.{ArgumentFault}
use Rattle.driver.specs.declared.refusal.ArgumentFault.TheVariants as arguments
use Rattle.driver.specs.declared.refusal.CertificateFault.{CertificateFault}
use Rattle.driver.specs.declared.refusal.CertificateFault.TheVariants as certificates
use Rattle.driver.specs.declared.refusal.Where.TheVariants as tells

-- a refusal of the text
abbrev pub refusal_of : ReadRefusal → Refusal
refusal_of (reads.Syntax o) = refusals.Syntax o
refusal_of (reads.Unsupported w o) = refusals.Unsupported w o
refusal_of (reads.Limit l o) = refusals.Limit l
refusal_of reads.Memory = refusals.Memory

abbrev pub status_of_run : RunEnd → ℕ
status_of_run runs.Exhausted = 11
status_of_run runs.StepsSpent = 12
status_of_run (runs.Trapped k) = 15
status_of_run (runs.NoValue w) = 15

abbrev pub status_of_module : ModuleFault → ℕ
status_of_module (modules.Bad o) = 13
status_of_module (modules.Invalid f p) = 14
status_of_module (modules.NoEntry n) = 15
status_of_module modules.Pages = 7
status_of_module modules.Table = 7
status_of_module modules.ElementPastTable = 15

abbrev pub status_of_argument : ArgumentFault → ℕ
status_of_argument (arguments.Syntax o) = 5
status_of_argument arguments.Nesting = 7
status_of_argument arguments.NameBytes = 7
status_of_argument (arguments.Wrong o) = 16

abbrev pub status_of_certificate : CertificateFault → ℕ
status_of_certificate (certificates.Syntax o) = 5
status_of_certificate certificates.Number = 7
status_of_certificate (certificates.Refused i) = 17

abbrev pub status_of : Refusal → ℕ
status_of refusals.Memory = 1
status_of refusals.Usage = 2
status_of refusals.ReadFault = 3
status_of refusals.WriteFault = 4
status_of (refusals.Syntax o) = 5
status_of (refusals.Unsupported w o) = 6
status_of (refusals.Limit l) = 7
status_of refusals.InputBytes = 7
status_of refusals.Depth = 7
status_of refusals.TurnsSpent = 8
status_of (refusals.Broken n p) = 9
status_of refusals.Types = 7
status_of refusals.Arguments = 7
status_of refusals.AnswerNodes = 7
status_of refusals.NotFirstOrder = 10
status_of refusals.Stuck = 15
status_of (refusals.Axiom name) = 10
status_of (refusals.Program l) = 7
status_of (refusals.Run w) = status_of_run w
status_of (refusals.Module w) = status_of_module w
status_of (refusals.Argument w) = status_of_argument w
status_of (refusals.Certificate w) = status_of_certificate w

unfoldable pub front_of_foreign : Foreign → List ℕ
front_of_foreign foreigns.Var = codes "unsupported Var at "
front_of_foreign foreigns.Evar = codes "unsupported Evar at "
front_of_foreign foreigns.Proj = codes "unsupported Proj at "
front_of_foreign foreigns.CoFix = codes "unsupported CoFix at "
front_of_foreign foreigns.Int = codes "unsupported Int at "
front_of_foreign foreigns.Float = codes "unsupported Float at "
front_of_foreign foreigns.String = codes "unsupported String at "
front_of_foreign foreigns.Array = codes "unsupported Array at "
front_of_foreign foreigns.SProp = codes "unsupported SProp at "
front_of_foreign foreigns.CoInductive = codes "unsupported CoInductive at "
front_of_foreign foreigns.Polymorphic = codes "unsupported Polymorphic at "
front_of_foreign foreigns.TelescopeLet = codes "unsupported TelescopeLet at "
front_of_foreign foreigns.LevelVariable = codes "unsupported LevelVariable at "
front_of_foreign foreigns.Version = codes "unsupported Version at "

unfoldable pub front_of_limit : Limit → List ℕ
front_of_limit limits.Nesting = codes "limit Nesting"
front_of_limit limits.NameBytes = codes "limit NameBytes"
front_of_limit limits.Number = codes "limit Number"
front_of_limit limits.LevelAdd = codes "limit LevelAdd"
front_of_limit limits.Depth = codes "limit Depth"
front_of_limit limits.Declarations = codes "limit Declarations"
front_of_limit limits.Families = codes "limit Families"
front_of_limit limits.Constructors = codes "limit Constructors"
front_of_limit limits.Telescope = codes "limit Telescope"
front_of_limit limits.Definitions = codes "limit Definitions"
front_of_limit limits.Levels = codes "limit Levels"
front_of_limit limits.Constraints = codes "limit Constraints"

unfoldable pub front_of_program : ProgramLimit → List ℕ
front_of_program programs.Captured = codes "limit Captured"
front_of_program programs.Functions = codes "limit Functions"
front_of_program programs.Locals = codes "limit Locals"
front_of_program programs.ModuleBytes = codes "limit ModuleBytes"

unfoldable pub front_of_trap : TrapKind → List ℕ
front_of_trap traps.Unreachable = codes "trapped Unreachable"
front_of_trap traps.OutOfBounds = codes "trapped OutOfBounds"
front_of_trap traps.UndefinedElement = codes "trapped UndefinedElement"
front_of_trap traps.UninitializedElement = codes "trapped UninitializedElement"
front_of_trap traps.IndirectType = codes "trapped IndirectType"

unfoldable pub front_of_run : RunEnd → List ℕ
front_of_run runs.Exhausted = codes "memory exhausted"
front_of_run runs.StepsSpent = codes "steps spent"
front_of_run (runs.Trapped k) = front_of_trap k
front_of_run (runs.NoValue w) = codes "no value at "

unfoldable pub front_of_entry : Entry → List ℕ
front_of_entry entries.Main = codes "no entry main"
front_of_entry entries.Memory = codes "no entry memory"
front_of_entry entries.Result = codes "no entry result"
front_of_entry entries.Status = codes "no entry status"
front_of_entry entries.Heap = codes "no entry heap"
front_of_entry entries.Args = codes "no entry args"

unfoldable pub front_of_module : ModuleFault → List ℕ
front_of_module (modules.Bad o) = codes "bad module at "
front_of_module (modules.Invalid f p) = codes "invalid module in function "
front_of_module (modules.NoEntry n) = front_of_entry n
front_of_module modules.Pages = codes "limit Pages"
front_of_module modules.Table = codes "limit Table"
front_of_module modules.ElementPastTable = codes "element past table"

unfoldable pub front_of_argument : ArgumentFault → List ℕ
front_of_argument (arguments.Syntax o) = codes "syntax at "
front_of_argument arguments.Nesting = codes "limit Nesting"
front_of_argument arguments.NameBytes = codes "limit NameBytes"
front_of_argument (arguments.Wrong o) = codes "argument at "

unfoldable pub front_of_certificate : CertificateFault → List ℕ
front_of_certificate (certificates.Syntax o) = codes "syntax at "
front_of_certificate certificates.Number = codes "limit Number"
front_of_certificate (certificates.Refused i) = codes "certificate refused at "

-- what a line begins with: all of it but for numbers, a place, a name and its LF
unfoldable pub front_of : Refusal → List ℕ
front_of refusals.Memory = codes "out of memory"
front_of refusals.Usage = codes "usage: erasec JOB [--turns N] [--pages N] [--steps N] [--size N]"
front_of refusals.ReadFault = codes "read fault"
front_of refusals.WriteFault = codes "write fault"
front_of (refusals.Syntax o) = codes "syntax at "
front_of (refusals.Unsupported w o) = front_of_foreign w
front_of (refusals.Limit l) = front_of_limit l
front_of refusals.InputBytes = codes "limit InputBytes"
front_of refusals.Depth = codes "limit Depth"
front_of refusals.TurnsSpent = codes "turns spent"
front_of (refusals.Broken n p) = codes "broken "
front_of refusals.Types = codes "limit Types"
front_of refusals.Arguments = codes "limit Arguments"
front_of refusals.AnswerNodes = codes "limit AnswerNodes"
front_of refusals.NotFirstOrder = codes "main is not first-order"
front_of refusals.Stuck = codes "stuck"
front_of (refusals.Axiom name) = codes "axiom "
front_of (refusals.Program l) = front_of_program l
front_of (refusals.Run w) = front_of_run w
front_of (refusals.Module w) = front_of_module w
front_of (refusals.Argument w) = front_of_argument w
front_of (refusals.Certificate w) = front_of_certificate w

abbrev pub certificate_number : CertificateFault → Option ℕ
certificate_number (certificates.Syntax o) = Some o
certificate_number certificates.Number = None
certificate_number (certificates.Refused i) = Some i

-- the number in a line: an offset, that of a broken rule, of a function or of an item of a certificate, or a word that stands for no data
abbrev pub number_in : Refusal → Option ℕ
number_in (refusals.Syntax o) = Some o
number_in (refusals.Unsupported w o) = Some o
number_in (refusals.Broken n p) = Some n
number_in (refusals.Run (runs.NoValue w)) = Some w
number_in (refusals.Module (modules.Bad o)) = Some o
number_in (refusals.Module (modules.Invalid f p)) = Some f
number_in (refusals.Argument (arguments.Syntax o)) = Some o
number_in (refusals.Argument (arguments.Wrong o)) = Some o
number_in (refusals.Certificate w) = certificate_number w
number_in _ = None

abbrev pub number_text : Option ℕ → List ℕ
number_text None = []
number_text (Some n) = decimal n

-- the place in a line, and the name of a declaration there
unfoldable pub place_of : Refusal → List ℕ
place_of (refusals.Broken n tells.Levels) = codes " in levels"
place_of (refusals.Broken n tells.Constraints) = codes " in constraints"
place_of (refusals.Broken n (tells.Declaration name)) = codes " in declaration "
place_of (refusals.Broken n tells.Main) = codes " in main"
place_of (refusals.Module (modules.Invalid f p)) = codes " at "
place_of _ = []

abbrev pub name_in : Refusal → List ℕ
name_in (refusals.Broken n (tells.Declaration name)) = name.items
name_in (refusals.Axiom name) = name.items
name_in _ = []

-- or a second number there: the place in a function
abbrev pub second_in : Refusal → Option ℕ
second_in (refusals.Module (modules.Invalid f p)) = Some p
second_in _ = None

abbrev pub or_number : Option ℕ → List ℕ → List ℕ
or_number None name = name
or_number (Some n) name = decimal n

-- a line ends with LF
abbrev pub line_of : Refusal → List ℕ
line_of r = front_of r ++ (number_text (number_in r) ++ (place_of r ++ (or_number (second_in r) (name_in r) ++ 10 ∷ [])))
