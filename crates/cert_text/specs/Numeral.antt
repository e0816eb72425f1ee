-- What a token is as a number.
use Rattle.std.specs.Prelude.{◌≡◌, ℕ, ◌<◌, ◌≤◌, Option, Some, None}
use Rattle.sexp_reader.specs.Text.{Text, Atom}
use Rattle.dump_grammar.specs.Numbers.{number_of}
use Rattle.cert_text.specs.declared.number.Numeral.{Numeral}
use Rattle.cert_text.specs.declared.number.Numeral.TheVariants as numerals

-- the number that a token spells
abbrev pub number_of_text : Text → Option ℕ
number_of_text (Atom a) = number_of a
number_of_text t = None

-- a number that can be held, one that is too great, or none
abbrev pub IsNumeral : Numeral → Option ℕ → Type 0
IsNumeral (numerals.Number n) o = (o ≡ Some n) × (n ≤ 4294967295)
IsNumeral numerals.TooGreat o = (n : ℕ) × (o ≡ Some n) × (4294967295 < n)
IsNumeral numerals.NoNumber o = o ≡ None
