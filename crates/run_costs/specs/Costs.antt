-- What a run of directed rules takes: so many units, and the rules whose use it notes, in their order.
use Rattle.std.specs.Prelude.{◌≡◌, ℕ, ◌+◌, ◌-◌, ◌^◌, ◌≤◌, ◌<◌, nat_lt, if◌then◌else◌, List, [], ◌∷◌, length, slice_index, slice_set}
use Rattle.pc_rules.specs.declared.meter.Account.{Account}
use Rattle.pc_rules.specs.DirectedRun.{Run, Done, one_more}

-- the uses with those of some rules noted, one after the other
abbrev pub noted_all : List ℕ → List ℕ → List ℕ
noted_all [] us = us
noted_all (r ∷ rs) us = noted_all rs (slice_set us (r - 1) (one_more (slice_index us (r - 1))))

abbrev pub charged : ℕ → List ℕ → Account → Account
charged k rs u = record { left = u.left - k; uses = noted_all rs u.uses }

-- a run has led from the account u to v, with the result a; another run, from each account with enough units, has that result and takes the same
pub record Cost {A : Type 0} (a : A) (u v : Account) (g : Account → Run A) : Type 0 where
  pub units : ℕ
  pub notes : List ℕ
  pub left : u.left ≡ units + v.left
  pub uses : v.uses ≡ noted_all notes u.uses
  pub again : (w : Account) → units ≤ w.left → (g w).end ≡ Done a (charged units notes w)

abbrev pub TakesAlike : {A : Type 0} → (Account → Run A) → (Account → Run A) → Type 0
TakesAlike {A} f g = (u v : Account) (a : A) → (f u).end ≡ Done a v → Cost a u v g

-- one count with another, up to the last value of 64 bits
abbrev pub capped : ℕ → ℕ → ℕ
capped n k = if nat_lt (n + k) (2 ^ 64 - 1) then n + k else 2 ^ 64 - 1

-- counts and others, place by place
abbrev pub raised : List ℕ → List ℕ → List ℕ
raised [] ns = ns
raised (k ∷ ks) [] = []
raised (k ∷ ks) (n ∷ ns) = capped n k ∷ raised ks ns

abbrev pub differences : List ℕ → List ℕ → List ℕ
differences (m ∷ ms) (n ∷ ns) = (m - n) ∷ differences ms ns
differences ms ns = []

-- no count stands at the last value of 64 bits, or is beyond it
abbrev pub AreUnder : List ℕ → Type 0
AreUnder [] = Unit {0}
AreUnder (n ∷ ns) = (n < 2 ^ 64 - 1) × AreUnder ns

abbrev pub AreWithin : List ℕ → Type 0
AreWithin [] = Unit {0}
AreWithin (n ∷ ns) = (n ≤ 2 ^ 64 - 1) × AreWithin ns

abbrev pub spent : ℕ → List ℕ → Account → Account
spent k ks w = record { left = w.left - k; uses = raised ks w.uses }

-- what the first run took is seen from its accounts, where none of its counts stands still: the differences of the units and of the uses. They are taken again
abbrev pub IsMeasured : {A : Type 0} → (Account → Run A) → (Account → Run A) → Type 0
IsMeasured {A} f g =
    (u v w : Account) (a : A) → (f u).end ≡ Done a v → AreUnder v.uses → AreWithin w.uses → length u.uses ≡ length w.uses → u.left - v.left ≤ w.left →
    (g w).end ≡ Done a (spent (u.left - v.left) (differences v.uses u.uses) w)
