use Rattle.std.specs.Str.Parse.{ExplainsUnsignedError, HasUnsignedDigitsIfOk, ParsesUnsigned}
use Rattle.clap.specs.Words.{found_of}
use Rattle.command_line.proofs.Numerals.{number_read}
use Rattle.command_line.proofs.line.number.Goals as goal

-- src/line.rt:38:1
pub returns : goal.returns
returns c =
    let given = c.requires.given in record {
      is = number_read _ (λ bs r. ParsesUnsigned 32 10 bs r × ExplainsUnsignedError 10 bs r × HasUnsignedDigitsIfOk bs r) (λ u x g. g.0) (found_of c.args.matches.now) c.args.name.now given.0 c.in-Some.number given.1 (c.in-Some.ensures.value given.0 given.1);
    }
