use Rattle.std.proofs.Common.{◌∙◌, ap, map, sym}
use Rattle.std.specs.Prelude.{string_bytes, option_and_then}
use Rattle.clap.specs.Words.{found_of}
use Rattle.command_line.specs.Line.{within_ranges, words_of}
use Rattle.command_line.proofs.Commands.{numbers_given, request_refused, request_taken}
use Rattle.command_line.proofs.Ranges.{kept_within}
use Rattle.command_line.proofs.Numerals.{asked_in_range}
use Rattle.command_line.proofs.line.read_line.Goals as goal

pub asked-requires : goal.asked-requires
asked-requires c = record { given = numbers_given _ _ c.in-Ok.ensures.is c.in-Ok-try_get_matches_from.ensures.parsed }

pub returns-in-Some-clause-reads : goal.returns-in-Some-clause-reads
returns-in-Some-clause-reads c =
    request_taken c.in-Ok.command c.in-Ok.ensures.is _ (words_of c.args.words.now) (ap (map (λ w. string_bytes w)) c.as_slice.ensures.value) c.in-Ok-try_get_matches_from.matches
    c.in-Ok-try_get_matches_from.ensures.kinds c.in-Ok-try_get_matches_from.ensures.matches
    ∙ ap (option_and_then within_ranges) (sym c.asked.ensures.is ∙ c.in-Some.is)
    ∙ kept_within c.in-Some.request (asked_in_range (found_of c.in-Ok-try_get_matches_from.matches)
    (numbers_given _ _ c.in-Ok.ensures.is c.in-Ok-try_get_matches_from.ensures.parsed) c.in-Some.request (sym c.in-Some.is ∙ c.asked.ensures.is))

pub returns-in-Some-clause-in_range : goal.returns-in-Some-clause-in_range
returns-in-Some-clause-in_range c =
    asked_in_range (found_of c.in-Ok-try_get_matches_from.matches)
    (numbers_given _ _ c.in-Ok.ensures.is c.in-Ok-try_get_matches_from.ensures.parsed) c.in-Some.request (sym c.in-Some.is ∙ c.asked.ensures.is)

pub returns-in-Ok-try_get_matches_from-clause-refuses :
    goal.returns-in-Ok-try_get_matches_from-clause-refuses
returns-in-Ok-try_get_matches_from-clause-refuses c = λ _.
    request_taken c.in-Ok.command c.in-Ok.ensures.is _ (words_of c.args.words.now) (ap (map (λ w. string_bytes w)) c.as_slice.ensures.value) c.in-Ok-try_get_matches_from.matches
    c.in-Ok-try_get_matches_from.ensures.kinds c.in-Ok-try_get_matches_from.ensures.matches
    ∙ ap (option_and_then within_ranges) (sym c.asked.ensures.is ∙ c.in-None.is)

pub returns : goal.returns
returns c = record {
  reads = tt;
  refuses = λ _. request_refused c.in-Ok.command c.in-Ok.ensures.is _ (words_of c.args.words.now) (ap (map (λ w. string_bytes w)) c.as_slice.ensures.value) c.in-Err-try_get_matches_from.error.kind
      (λ e. c.in_default.not-OutOfMemory (c.kind.ensures ∙ e)) c.in-Err-try_get_matches_from.ensures.kinds;
  in_range = tt;
}
