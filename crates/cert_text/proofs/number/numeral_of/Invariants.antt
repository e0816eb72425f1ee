use Rattle.std.proofs.Common.{◌≡◌, ℕ, ◌≤◌, ◌<◌, ◌^◌, drop}
use Rattle.dump_grammar.specs.Numbers.{digits_from}
use Rattle.cert_text.proofs.number.numeral_of.Given as goal

abbrev pub invariant-loop-b : goal.invariant-loop-b
invariant-loop-b l = (v : ℕ) × (digits_from 0 l.text ≡ digits_from v (drop l.b-index l.text)) × (v ≤ 4294967295 → l.n ≡ v) × (4294967295 < v → 4294967295 < l.n) × (l.n < 2 ^ 40)
