-- A walk that has come to another one.
use Rattle.std.specs.Prelude.{◌≡◌, IsTrue}
use Rattle.cert_rules.specs.Walk.{Walk}

pub record WalkLeads {A : Type 0} (whole rest : Walk A) : Type 0 where
  pub end : whole.end ≡ rest.end
  pub deep : IsTrue rest.deep → IsTrue whole.deep
