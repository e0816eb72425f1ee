-- A run that has come to another one.
use Rattle.std.specs.Prelude.{◌≡◌, IsTrue}
use Rattle.pc_rules.specs.DirectedRun.{Run}

pub record Leads {A : Type 0} (whole rest : Run A) : Type 0 where
  pub end : whole.end ≡ rest.end
  pub deep : IsTrue rest.deep → IsTrue whole.deep
