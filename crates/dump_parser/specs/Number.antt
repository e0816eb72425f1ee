-- What an atom is as a number.
use Rattle.std.specs.Prelude.{◌≡◌, ℕ, ◌<◌, ◌≤◌, List, Some, None}
use Rattle.dump_grammar.specs.Numbers.{number_of}
use Rattle.dump_parser.specs.declared.number.Numeral.{Numeral}
use Rattle.dump_parser.specs.declared.number.Numeral.TheVariants as numerals

abbrev pub IsNumber : Numeral → List ℕ → Type 0
IsNumber (numerals.Number n) a = (number_of a ≡ Some n) × (n ≤ 4294967295)
IsNumber numerals.TooGreat a = (n : ℕ) × (number_of a ≡ Some n) × (4294967295 < n)
IsNumber numerals.NoNumber a = number_of a ≡ None
