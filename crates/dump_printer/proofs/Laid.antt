-- The bytes of laid tokens.
use Rattle.std.proofs.Common.{◌≡◌, ℕ, List, ◌∷◌, ◌++◌, Bool, true, false, refl}
use Rattle.sexp_reader.specs.Text.{Text, Open, Close, Atom}
use Rattle.dump_printer.specs.Layout.{gap, laid}

pub laid-open : (tight : Bool) (ts : List Text) → laid tight (Open ∷ ts) ≡ gap tight ++ (40 ∷ laid true ts)
unfolding laid
laid-open tight ts = refl

pub laid-close : (tight : Bool) (ts : List Text) → laid tight (Close ∷ ts) ≡ 41 ∷ laid false ts
unfolding laid
laid-close tight ts = refl

pub laid-atom : (tight : Bool) (a : List ℕ) (ts : List Text) → laid tight (Atom a ∷ ts) ≡ gap tight ++ (a ++ laid false ts)
unfolding laid
laid-atom tight a ts = refl
