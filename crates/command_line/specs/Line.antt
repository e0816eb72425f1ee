-- The request that the words after the program's name make: by what clap's own definitions say of one simple command.
use Rattle.std.specs.Prelude.{◌≡◌, ◌≤◌, ◌&&◌, leb, ℕ, Bool, List, [], ◌∷◌, map, Option, Some, None, Vec, String, string_bytes, codes, true, unwrap_or, option_and_then, option_map, if◌then◌else◌}
use Rattle.std.specs.Str.Parse.{digits_value, without_leading_plus}
use Rattle.std.specs.declared.alloc.Global.{Global}
use Rattle.clap.specs.Words.{App, Row, Rule, Text, fault_of, first_of, matches_of, new_app, new_rule, one_of, with_rule}
use Rattle.clap.specs.Walk.{is_empty}
use Rattle.clap.specs.Simple.{on_top}
use Rattle.clap.specs.declared.builder.action.ArgAction.TheVariants.{Set}
use Rattle.clap.specs.declared.builder.value_parser.ValueParser.TheVariants.{Unsigned}
use Rattle.command_line.specs.Jobs.{job_named}
use Rattle.command_line.specs.declared.line.Request.{Request}

-- the words' bytes
abbrev pub words_of : Vec (String Global) Global → List Text
words_of words = map (λ w. string_bytes w) words.items

-- ---- the command

-- the required word that names the job
abbrev pub job_rule : Rule
job_rule = record (new_rule (codes "job")) { action = Some Set; required = true }

-- an option of a number from 1 to `most`, with its default
abbrev pub number_rule : (name : Text) → (most : ℕ) → (default : Text) → Rule
number_rule name most default = record (new_rule name) {
  long = Some name;
  action = Some Set;
  parser = Some (Unsigned 1 most);
  defaults = default ∷ [];
}

-- the command, whose words begin after the program's name
unfoldable pub command : App
command =
    with_rule (with_rule (with_rule (with_rule (with_rule
    (on_top (λ s. record s { no_binary_name = true }) (new_app (codes "erasec")))
    job_rule)
    (number_rule (codes "turns") 4294967295 (codes "1000000")))
    (number_rule (codes "pages") 16384 (codes "1024")))
    (number_rule (codes "steps") 4294967295 (codes "100000000")))
    (number_rule (codes "size") 4096 (codes "256"))

-- ---- what its matches ask for

-- the number of an option, in decimal digits
abbrev pub number_in : Text → List Row → ℕ
number_in name rows = digits_value 10 (without_leading_plus (unwrap_or (one_of name rows) []))

-- the request of matches whose JOB is a job
abbrev pub request_in : List Row → Option Request
request_in rows = option_map (λ job. record {
  job = job;
  turns = number_in (codes "turns") rows;
  pages = number_in (codes "pages") rows;
  steps = number_in (codes "steps") rows;
  size = number_in (codes "size") rows;
}) (option_and_then job_named (first_of (codes "job") rows))

-- whether a number lies from 1 to `most`
abbrev pub lies_within : (most n : ℕ) → Bool
lies_within most n = leb 1 n && leb n most

abbrev pub has_ranges : Request → Bool
has_ranges r = lies_within 4294967295 r.turns && (lies_within 16384 r.pages && (lies_within 4294967295 r.steps && lies_within 4096 r.size))

-- the request, whose numbers lie in their ranges: those of words that clap takes do, by the rules above
abbrev pub within_ranges : Request → Option Request
within_ranges r = if has_ranges r then Some r else None

-- the request of the words; None is usage: clap refuses them, or their JOB is no job
unfoldable pub request_of : List Text → Option Request
request_of words =
    if is_empty (fault_of command words) then option_and_then within_ranges (request_in (matches_of command words)) else None

-- each number lies in its range
pub record IsInRange (r : Request) : Type 0 where
  pub turns : (1 ≤ r.turns) × (r.turns ≤ 4294967295)
  pub pages : (1 ≤ r.pages) × (r.pages ≤ 16384)
  pub steps : (1 ≤ r.steps) × (r.steps ≤ 4294967295)
  pub size : (1 ≤ r.size) × (r.size ≤ 4096)

-- so do the numbers of each request
abbrev pub RequestsLieInRange : Type 0
RequestsLieInRange = (words : List Text) (q : Request) → request_of words ≡ Some q → IsInRange q
