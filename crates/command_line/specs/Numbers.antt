-- What a parse that succeeds has of the options: each has a value that passed its parser.
use Rattle.std.specs.Prelude.{◌≡◌, ℕ, List, Some, codes, false}
use Rattle.clap.specs.Words.{Accepts, one_text}
use Rattle.clap.specs.declared.builder.value_parser.ValueParser.TheVariants.{Unsigned}
use Rattle.clap.specs.declared.parser.matches.Found.{Found}

-- the option has a number from 1 to `most`
abbrev pub HasNumber : Found → List ℕ → (most : ℕ) → Type 0
HasNumber f name most = (t : List ℕ) × (one_text f name ≡ Some t) × Accepts false (Unsigned 1 most) t

pub record HasNumbers (f : Found) : Type 0 where
  pub turns : HasNumber f (codes "turns") 4294967295
  pub pages : HasNumber f (codes "pages") 16384
  pub steps : HasNumber f (codes "steps") 4294967295
  pub size : HasNumber f (codes "size") 4096
