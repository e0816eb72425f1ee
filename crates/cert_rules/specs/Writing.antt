-- Directed rules that also write the items of a certificate: how their runs are put together. A run that writes ends with a result and with
-- the items that were written on the way; what it forgets is the run of the directed rules.
use Rattle.std.specs.Prelude.{ℕ, ◌-◌, ◌||◌, List, [], ◌∷◌, ◌++◌}
use Rattle.pc_rules.specs.declared.meter.Account.{Account}
use Rattle.pc_rules.specs.DirectedRun.{Run, End, Done, Refused, NoUnit, Nested, end_then, deep_then, done}
use Rattle.cert_rules.specs.declared.item.CertItem.{CertItem}
use Rattle.cert_rules.specs.Walk.{Items}

-- a result, with the items that were written
pub record Wrote (A : Type 0) : Type 0 where
  pub value : A
  pub items : Items

abbrev pub wrote : {A : Type 0} → Items → A → Wrote A
wrote is a = record { value = a; items = is }

-- what has no result but that it holds, and items
abbrev pub WriteAct : Type 0
WriteAct = Account → Run (Wrote (Unit {0}))

-- a run of the directed rules, and these items, which may depend on the units that it took
abbrev pub end_writing : {A : Type 0} → Account → (ℕ → Items) → End A → End (Wrote A)
end_writing u is (Done a v) = Done (wrote (is (u.left - v.left)) a) v
end_writing u is (Refused b v) = Refused b v
end_writing u is NoUnit = NoUnit
end_writing u is Nested = Nested

unfoldable pub writing_steps : {A : Type 0} → Account → (ℕ → Items) → Run A → Run (Wrote A)
writing_steps u is r = record { end = end_writing u is r.end; deep = r.deep }

abbrev pub writing : {A : Type 0} → Items → Account → Run A → Run (Wrote A)
writing is u r = writing_steps u (λ n. is) r

-- what takes no item
abbrev pub silent : {A : Type 0} → (Account → Run A) → Account → Run (Wrote A)
silent f u = writing [] u (f u)

-- an item
abbrev pub noting : CertItem → WriteAct
noting x u = writing (x ∷ []) u (done tt u)

-- items
abbrev pub noting_all : Items → WriteAct
noting_all xs u = writing xs u (done tt u)

-- what was written before
abbrev pub end_before : {A : Type 0} → Items → End (Wrote A) → End (Wrote A)
end_before is (Done w u) = Done (wrote (is ++ w.items) w.value) u
end_before is (Refused b u) = Refused b u
end_before is NoUnit = NoUnit
end_before is Nested = Nested

-- one after the other
unfoldable pub write_on : {A B : Type 0} → Run (Wrote A) → (A → Account → Run (Wrote B)) → Run (Wrote B)
write_on r k = record {
  end = end_then r.end (λ w u. end_before w.items (k w.value u).end);
  deep = r.deep || deep_then r.end (λ w u. (k w.value u).deep);
}

-- each of a list, the first first
unfoldable pub write_all : List WriteAct → WriteAct
write_all [] u = silent (done tt) u
write_all (act ∷ acts) u = write_on (act u) (λ _ v. write_all acts v)

-- the run of the directed rules
abbrev pub end_forgotten : {A : Type 0} → End (Wrote A) → End A
end_forgotten (Done w u) = Done w.value u
end_forgotten (Refused b u) = Refused b u
end_forgotten NoUnit = NoUnit
end_forgotten Nested = Nested

abbrev pub forgotten : {A : Type 0} → Run (Wrote A) → Run A
forgotten r = record { end = end_forgotten r.end; deep = r.deep }
