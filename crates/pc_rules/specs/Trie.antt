-- Maps from numbers as tries: a node keeps what the number 0 has, the map of the odd numbers 2 j + 1 by j, and that of 2 j + 2 by j.
use Rattle.std.specs.Prelude.{◌≡◌, ℕ, max, ◌+◌, ◌-◌, ◌/◌, ◌%◌, ◌==◌, if◌then◌else◌, Option, None}
use Rattle.std.proofs.Common.{refl}
use Rattle.std.specs.Coded.{Coded, coded_option}
use base.Stored.{Gv, gnil, gcons}

pub data Trie (A : Type 0) : Type 0 where
  Nil : Trie A
  Fork : Option A → Trie A → Trie A → Trie A

abbrev pub item_of : {A : Type 0} → Trie A → Option A
item_of Nil = None
item_of (Fork x odd even) = x

abbrev pub odd_of : {A : Type 0} → Trie A → Trie A
odd_of Nil = Nil
odd_of (Fork x odd even) = odd

abbrev pub even_of : {A : Type 0} → Trie A → Trie A
even_of Nil = Nil
even_of (Fork x odd even) = even

-- what a number has
abbrev pub at : {A : Type 0} → Trie A → ℕ → Option A
at Nil n = None
at (Fork x odd even) n = if n == 0 then x else (if n % 2 == 1 then at odd (n / 2) else at even (n / 2 - 1))

abbrev pub height : {A : Type 0} → Trie A → ℕ
height Nil = 0
height (Fork x odd even) = max (height odd) (height even) + 1

abbrev pub code_trie : {A : Type 0} → Coded A → Trie A → Gv
code_trie c Nil = gnil
code_trie c (Fork x odd even) = gcons ((coded_option c).code x) (gcons (code_trie c odd) (code_trie c even))

pub code_trie-inj : {A : Type 0} (c : Coded A) (s t : Trie A) → code_trie c s ≡ code_trie c t → s ≡ t
code_trie-inj c Nil Nil p = refl
code_trie-inj c (Fork x o e) (Fork y o' e') p = cc ((coded_option c).inj x y (cc), code_trie-inj c o o' (cc), code_trie-inj c e e' (cc))
code_trie-inj c _ _ p = cc

abbrev pub coded_trie : {A : Type 0} → Coded A → Coded (Trie A)
coded_trie c = record { code = code_trie c; inj = code_trie-inj c }
