-- How far the writing of a text has come.
use Rattle.std.specs.Prelude.{◌≡◌, ℕ, ◌-◌, ◌^◌, ◌≤◌, min, List, ◌++◌, length, Option, true, false}
use Rattle.std.specs.Io.KnownBytes.{Appends}
use Rattle.kio.specs.Causes.{Rose}
use Rattle.kio.specs.Known.{StillTells}
use Rattle.sexp_reader.specs.Text.{Text}
use Rattle.dump_printer.specs.Layout.{laid}
use Rattle.dump_printer.specs.declared.writing.Progress.{Progress}

-- Where the writing began: what the sink had taken, where it tells it, its count of faults, and the whole text.
pub record Start : Type 0 where
  pub taken : Option (List ℕ)
  pub faults : ℕ
  pub text : List ℕ

-- a length as a count, which stands still at the last number of its type
abbrev pub counted : List ℕ → ℕ
counted bytes = min (length bytes) (2 ^ 64 - 1)

-- A part of the text has gone out. While the sink has not failed, these bytes are still to come; once it has, nothing more goes out, and its
-- count of faults rose.
pub record IsAhead (s : Start) (taken : Option (List ℕ)) (faults : ℕ) (at : Progress) (rest : List ℕ) : Type 0 where
  pub gone : List ℕ
  pub left : List ℕ
  pub parts : s.text ≡ gone ++ left
  pub out : Appends s.taken taken gone
  pub count : at.written ≡ counted gone
  pub tells : StillTells s.taken taken
  pub later : s.faults ≤ faults
  pub going : at.failed ≡ false → left ≡ rest
  pub failed : at.failed ≡ true → Rose s.faults faults

-- The same, with tokens that are still to come.
pub record IsOn (s : Start) (taken : Option (List ℕ)) (faults : ℕ) (at : Progress) (more : List Text) : Type 0 where
  pub ahead : IsAhead s taken faults at (laid at.tight more)

-- What bytes do that are written before others.
abbrev pub Puts : (taken taken' : Option (List ℕ)) → (faults faults' : ℕ) → (at at' : Progress) → (bytes : List ℕ) → Type 0
Puts t t' f f' p p' bytes = (s : Start) (rest : List ℕ) → IsAhead s t f p (bytes ++ rest) → IsAhead s t' f' p' rest

-- What a piece of the text does, by the tokens that it puts before others.
abbrev pub Writes : (taken taken' : Option (List ℕ)) → (faults faults' : ℕ) → (at at' : Progress) → (piece : List Text → List Text) → Type 0
Writes t t' f f' p p' piece = (s : Start) (more : List Text) → IsOn s t f p (piece more) → IsOn s t' f' p' more

-- A part of the text has gone out, from its first byte on, of as many bytes as the count says.
pub record HasGone (taken taken' : Option (List ℕ)) (text : List ℕ) (written : ℕ) : Type 0 where
  pub gone : List ℕ
  pub left : List ℕ
  pub parts : text ≡ gone ++ left
  pub out : Appends taken taken' gone
  pub count : written ≡ counted gone
