-- The options of the command of the line.
use Rattle.std.proofs.Common.{◌≡◌, ◌⊎◌, ◌∙◌, ap, ap₂, sym, subst, refl, true, List, [], ◌∷◌, None, inl, inr, arith, codes}
use Rattle.std.specs.Prelude.{option_and_then}
use Rattle.clap.specs.Built.{IsParsedFrom}
use Rattle.clap.specs.Faults.{fault_of, is_simple_and_free}
use Rattle.clap.specs.Kinds.{IsAmong}
use Rattle.clap.specs.Matches.{found_of}
use Rattle.clap.specs.Simple.{HasMatchesOf, app_of, is_simple, matches_of}
use Rattle.clap.specs.Walk.{Row, Text, rows_of}
use Rattle.clap.specs.declared.builder.command.Command.{Command}
use Rattle.clap.specs.declared.builder.value_parser.ValueParser.TheVariants.{Unsigned}
use Rattle.clap.specs.declared.error.kind.ErrorKind.{ErrorKind}
use Rattle.clap.specs.declared.error.kind.ErrorKind.TheVariants.{OutOfMemory}
use Rattle.clap.specs.declared.parser.matches.ArgMatches.{ArgMatches}
use Rattle.clap.proofs.OnLiterals.{clap_on_literals}
use Rattle.command_line.specs.Line.{command, number_rule, request_in, request_of, within_ranges}
use Rattle.command_line.specs.Numbers.{HasNumbers}
use Rattle.command_line.proofs.Options.{option_value}
use Rattle.command_line.proofs.Rules.{HasRules, IsOption, not_empty}

-- the command is one of which clap gives the matches and the faults
pub is_simple_command : is_simple command ≡ true
unfolding command clap_on_literals
is_simple_command = refl

pub is_free_command : is_simple_and_free command ≡ true
unfolding command clap_on_literals
is_free_command = refl

has_rules : (c : Command) → app_of c ≡ command → HasRules c command.top.rules
unfolding command
has_rules c is = record { are = ap (λ a. a.top.rules) is; simple = refl; plain = ap (λ a. a.top.is_plain) is }

turns_option : IsOption command.top.rules 1 (number_rule (codes "turns") 4294967295 (codes "1000000")) (Unsigned 1 4294967295)
unfolding command
turns_option = record { inside = omega arith; at = λ e. refl; only = refl; set = refl; simple = refl; single = refl; parser = refl; default = omega arith; named = refl; not_help = refl; not_version = refl }

pages_option : IsOption command.top.rules 2 (number_rule (codes "pages") 16384 (codes "1024")) (Unsigned 1 16384)
unfolding command
pages_option = record { inside = omega arith; at = λ e. refl; only = refl; set = refl; simple = refl; single = refl; parser = refl; default = omega arith; named = refl; not_help = refl; not_version = refl }

steps_option : IsOption command.top.rules 3 (number_rule (codes "steps") 4294967295 (codes "100000000")) (Unsigned 1 4294967295)
unfolding command
steps_option = record { inside = omega arith; at = λ e. refl; only = refl; set = refl; simple = refl; single = refl; parser = refl; default = omega arith; named = refl; not_help = refl; not_version = refl }

size_option : IsOption command.top.rules 4 (number_rule (codes "size") 4096 (codes "256")) (Unsigned 1 4096)
unfolding command
size_option = record { inside = omega arith; at = λ e. refl; only = refl; set = refl; simple = refl; single = refl; parser = refl; default = omega arith; named = refl; not_help = refl; not_version = refl }

-- what a parse of the command that succeeds has of its options
pub numbers_given : (c : Command) (m : ArgMatches) → app_of c ≡ command → IsParsedFrom c m → HasNumbers (found_of m)
numbers_given c m is p =
    let h = has_rules c is in record {
      turns = option_value c m p command.top.rules h 1 _ _ turns_option;
      pages = option_value c m p command.top.rules h 2 _ _ pages_option;
      steps = option_value c m p command.top.rules h 3 _ _ steps_option;
      size = option_value c m p command.top.rules h 4 _ _ size_option;
    }

-- the request of words that clap takes, and of words that it refuses

taken_by : (words : List Text) (rows : List Row) → fault_of command words ≡ [] → rows ≡ matches_of command words → request_of words ≡ option_and_then within_ranges (request_in rows)
unfolding request_of
taken_by words rows none same = rw (none, same) refl

refused_by : (words : List Text) (k : ErrorKind) (kinds : List ErrorKind) → fault_of command words ≡ kinds → IsAmong k kinds → request_of words ≡ None
unfolding request_of
refused_by words k [] e among = absurd among
refused_by words k (x ∷ xs) e among = rw (e, not_empty x xs) refl

pub request_taken : (c : Command) → app_of c ≡ command → (ws words : List Text) → ws ≡ words → (m : ArgMatches)
    → (is_simple_and_free (app_of c) ≡ true → fault_of (app_of c) ws ≡ []) → HasMatchesOf (app_of c) ws m → request_of words ≡ option_and_then within_ranges (request_in (rows_of (found_of m)))
request_taken c is ws words same m none has = taken_by words (rows_of (found_of m))
    (sym (ap₂ fault_of is same) ∙ none (ap is_simple_and_free is ∙ is_free_command))
    ((has (ap is_simple is ∙ is_simple_command)).0 ∙ ap₂ matches_of is same)

pub request_refused : (c : Command) → app_of c ≡ command → (ws words : List Text) → ws ≡ words → (k : ErrorKind) → (k ≡ OutOfMemory → ⊥)
    → (is_simple_and_free (app_of c) ≡ true → (k ≡ OutOfMemory) ⊎ IsAmong k (fault_of (app_of c) ws)) → request_of words ≡ None
request_refused c is ws words same k free among = elim (among (ap is_simple_and_free is ∙ is_free_command)) [
  | inl memory ↦ absurd (free memory)
  | inr a ↦ refused_by words k (fault_of command words) refl (subst (IsAmong k) (ap₂ fault_of is same) a)
]
