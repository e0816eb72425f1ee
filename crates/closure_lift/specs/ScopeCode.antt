-- How the logic stores scopes, and what variables hold.
use Rattle.std.specs.Prelude.{◌≡◌, ℕ, List, [], ◌∷◌}
use Rattle.std.proofs.Common.{refl}
use Rattle.std.specs.Coded.{Coded}
use base.Stored.{Gv, gnil, gnum, gcons}
use Rattle.trees.specs.Code.{t0, t1, t2}
use Rattle.anf_convert.specs.Captured.{Scope, Outside, Plain, Shared}
use Rattle.closure_lift.specs.Lift.{LiftSlot, Holds, Made}

abbrev pub code_words : List ℕ → Gv
code_words [] = gnil
code_words (x ∷ xs) = gcons (gnum x) (code_words xs)

pub code_words-inj : (xs ys : List ℕ) → code_words xs ≡ code_words ys → xs ≡ ys
code_words-inj [] [] p = refl
code_words-inj (x ∷ xs) (y ∷ ys) p = cc (code_words-inj xs ys (cc))
code_words-inj _ _ p = cc

abbrev pub code_scope : Scope → Gv
code_scope Outside = gcons t0 gnil
code_scope (Plain s) = gcons t1 (code_scope s)
code_scope (Shared ws s) = gcons t2 (gcons (code_words ws) (code_scope s))

pub code_scope-inj : (x y : Scope) → code_scope x ≡ code_scope y → x ≡ y
code_scope-inj Outside Outside p = refl
code_scope-inj (Plain s) (Plain r) p = cc (code_scope-inj s r (cc))
code_scope-inj (Shared ws s) (Shared vs r) p = cc (code_words-inj ws vs (cc), code_scope-inj s r (cc))
code_scope-inj _ _ p = cc

abbrev pub coded_scope : Coded Scope
coded_scope = record { code = code_scope; inj = code_scope-inj }

abbrev pub code_slot : LiftSlot → Gv
code_slot (Holds x) = gcons t0 (gnum x)
code_slot (Made i) = gcons t1 (gnum i)

pub code_slot-inj : (x y : LiftSlot) → code_slot x ≡ code_slot y → x ≡ y
code_slot-inj (Holds x) (Holds y) p = cc
code_slot-inj (Made i) (Made j) p = cc
code_slot-inj _ _ p = cc

abbrev pub coded_slot : Coded LiftSlot
coded_slot = record { code = code_slot; inj = code_slot-inj }
