-- A number for each value that the logic can store, of which no two have the same.
use Rattle.std.specs.Prelude.{ℕ, zero, suc, ◌+◌, ◌*◌}
use base.Stored.{Gv, gnil, gnum, gcons}

-- 2 ^ a * (2 * b + 1)
unfoldable pub pair : ℕ → ℕ → ℕ
pair zero b = 2 * b + 1
pair (suc a) b = 2 * pair a b

unfoldable pub number : Gv → ℕ
number gnil = 0
number (gnum n) = pair 0 n
number (gcons a b) = pair (suc (number a)) (number b)
