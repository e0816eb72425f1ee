-- An offset behind a bracket that closes and that stands in no comment, since none begins before it.
use Rattle.std.specs.Prelude.{◌≡◌, ◌≢◌, ℕ, ◌-◌, ◌<◌, ◌≤◌, List, length, get_or}

pub record IsBehindBracket (bytes : List ℕ) (at : ℕ) : Type 0 where
  pub some : 0 < at
  pub within : at ≤ length bytes
  pub bracket : get_or bytes (at - 1) 0 ≡ 41
  pub no_comment : (k : ℕ) → k < at → get_or bytes k 0 ≢ 59
