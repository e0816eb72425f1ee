-- What status 0 of `call` means, whatever is told of the source.
use Rattle.std.specs.Prelude.{ℕ, ◌≡◌, List, Option, Some}
use Rattle.std.specs.Io.KnownBytes.{Appends}
use Rattle.calculus_rules.specs.FirstOrder.{Data}
use Rattle.dump_reader.specs.Front.{front_bytes}
use Rattle.dump_reader.specs.declared.environment.RawEnv.{RawEnv}
use Rattle.headline.specs.Headline.{IsExactly}
use Rattle.reports.specs.Shown.{Shown}
use Rattle.command_line.specs.declared.job.Job.TheVariants.{Call}
use Rattle.command_line.specs.declared.line.Request.{Request}
use Rattle.command_line.specs.Line.{request_of}
use Rattle.driver.specs.Serve.{IsInput}
use Rattle.driver.specs.Served.{Seen, Served}
use Rattle.driver.specs.Texts.{SpellsWithin}
use Rattle.call_laws.specs.CallValues.{HasArguments, HasCallValue, IsTextOfCall, answer_types, kept_environment}

-- the front of the input spells an environment, which is well formed, and what stands behind spells arguments of main's signature; out took the text of data; and each value to which main evaluates, applied
-- to the source terms of the arguments, is exactly that data
pub record HasCalled (q : Request) (left taken taken' : Option (List ℕ)) : Type 0 where
  pub bytes : List ℕ
  pub input : IsInput left bytes
  pub environment : RawEnv
  pub spelled : SpellsWithin (front_bytes bytes) environment
  pub given : HasArguments q.turns environment bytes
  pub tree : Data
  pub text : List ℕ
  pub line : IsTextOfCall q.turns environment bytes given tree text
  pub written : Appends taken taken' text
  pub values : (n : ℕ) (v : HasCallValue q.turns environment bytes given n) → IsExactly (kept_environment given) (answer_types given) v.value tree

abbrev pub CallMeans : (S K E : Type 0) → Type 0
CallMeans S K E =
    (words : List (List ℕ)) (reports : List Shown) (src src' : Seen S) (out out' : Seen K) (err err' : Seen E) → Served 0 words reports src src' out out' err err' →
    (q : Request) → request_of words ≡ Some q → q.job ≡ Call → HasCalled q src.told out.told out'.told
