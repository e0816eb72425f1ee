-- What directed rules do with units: how they end, and whether they have passed a limit till then. A rule is a function of the account of
-- units and uses; all of them are put together from the runs below. They go on past a limit, and note that they have passed it.
use Rattle.std.specs.Prelude.{ℕ, zero, suc, ◌+◌, ◌-◌, ◌≤◌, ◌^◌, Bool, true, false, ◌||◌, nat_lt, if◌then◌else◌, List, [], ◌∷◌, slice_index, slice_set}
use Rattle.trees.specs.Measures.{depth, above, depth_limit}
use Rattle.pc_terms.specs.Syntax.{Term}
use Rattle.pc_rules.specs.declared.meter.Account.{Account}
use Rattle.pc_rules.specs.declared.broken.Broken.{Broken}

-- how many rules may stand in one another
abbrev pub most_nested : ℕ
most_nested = 2048

-- one unit less
abbrev pub ticked : Account → Account
ticked u = record u { left = u.left - 1 }

-- one more, up to the last value of 64 bits
abbrev pub one_more : ℕ → ℕ
one_more n = if nat_lt n (2 ^ 64 - 1) then n + 1 else n

-- one use more of a rule
abbrev pub noted : ℕ → Account → Account
noted rule u = record u { uses = slice_set u.uses (rule - 1) (one_more (slice_index u.uses (rule - 1))) }

-- a term is beyond the limits of terms in memory: its depth is over 2,048, or a variable's number over 4,294,967,295
abbrev pub is_beyond : Term → Bool
is_beyond t = nat_lt depth_limit (depth t) || nat_lt (2 ^ 32) (above t)

abbrev pub any_beyond : List Term → Bool
any_beyond [] = false
any_beyond (t ∷ ts) = is_beyond t || any_beyond ts

-- a result, a refusal, no unit left, or too many nested rules
pub data End (A : Type 0) : Type 0 where
  Done : A → Account → End A
  Refused : Broken → Account → End A
  NoUnit : End A
  Nested : End A

-- an end leaves n units at most
abbrev pub Leaves : {A : Type 0} → End A → ℕ → Type 0
Leaves (Done a v) n = v.left ≤ n
Leaves (Refused b v) n = v.left ≤ n
Leaves NoUnit n = Unit {0}
Leaves Nested n = Unit {0}

-- how a rule ends, and whether it has passed a limit
pub record Run (A : Type 0) : Type 0 where
  pub end : End A
  pub deep : Bool

-- what has no result but that it holds
abbrev pub Act : Type 0
Act = Account → Run (Unit {0})

abbrev pub done : {A : Type 0} → A → Account → Run A
done a u = record { end = Done a u; deep = false }

abbrev pub refused : {A : Type 0} → Broken → Account → Run A
refused b u = record { end = Refused b u; deep = false }

abbrev pub no_unit : {A : Type 0} → Run A
no_unit = record { end = NoUnit; deep = false }

abbrev pub too_nested : {A : Type 0} → Run A
too_nested = record { end = Nested; deep = true }

-- a result, in the making of which a limit may have been passed
abbrev pub made : {A : Type 0} → Bool → A → Account → Run A
made beyond a u = record { end = Done a u; deep = beyond }

-- that terms are made, among which some may be beyond the limits
abbrev pub passing : Bool → Act
passing beyond u = record { end = Done tt u; deep = beyond }

-- makes a term
abbrev pub make : Term → Account → Run Term
make t u = made (is_beyond t) t u

-- goes on with a unit less, or ends where none is left
abbrev pub paid : {A : Type 0} → ℕ → Run A → Run A
paid zero go = no_unit
paid (suc n) go = go

unfoldable pub ticking : {A : Type 0} → Account → (Account → Run A) → Run A
ticking u go = paid u.left (go (ticked u))

abbrev pub end_then : {A B : Type 0} → End A → (A → Account → End B) → End B
end_then (Done a u) k = k a u
end_then (Refused b u) k = Refused b u
end_then NoUnit k = NoUnit
end_then Nested k = Nested

abbrev pub deep_then : {A : Type 0} → End A → (A → Account → Bool) → Bool
deep_then (Done a u) k = k a u
deep_then (Refused b u) k = false
deep_then NoUnit k = false
deep_then Nested k = false

-- one after the other
unfoldable pub bind : {A B : Type 0} → Run A → (A → Account → Run B) → Run B
bind r k = record {
  end = end_then r.end (λ a u. (k a u).end);
  deep = r.deep || deep_then r.end (λ a u. (k a u).deep);
}

-- each of a list, the first first
unfoldable pub run_all : List Act → Act
run_all [] u = done tt u
run_all (act ∷ acts) u = bind (act u) (λ _ v. run_all acts v)
