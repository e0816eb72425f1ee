-- What reading means by the relation, as statements: data of a value along a first-order set.
use Rattle.std.specs.Prelude.{◌≡◌, ◌≤◌, List, length}
use Rattle.pc_terms.specs.Syntax.{Term}
use Rattle.calculus_rules.specs.Environment.{Env}
use Rattle.calculus_rules.specs.Accepted.{IsAccepted}
use Rattle.calculus_rules.specs.FirstOrder.{Shape as Member, IsFirstOrder, Data, Reads}
use Rattle.first_order.specs.declared.shapes.Shape.{Shape}
use Rattle.first_order.specs.Searching.{members}
use Rattle.first_order.specs.Reading.{Read, read, reading}

-- what is read is the value's data
abbrev pub WhatIsReadIsData : Type 0
WhatIsReadIsData = (E : Env) (T : Term) (hs : List Shape) (v : Term) (ds : Data) → IsFirstOrder E T (members hs) → read hs v ≡ Read ds → Reads E (members hs) 0 v ds

-- over an accepted environment the value's data is read, where it has no more nodes than are looked at
abbrev pub DataIsRead : Type 0
DataIsRead = (E : Env) → IsAccepted E → (T : Term) (S : List Member) (v : Term) (ds : Data) → IsFirstOrder E T S → Reads E S 0 v ds → length ds ≤ 4000000 → reading S v ≡ Read ds
