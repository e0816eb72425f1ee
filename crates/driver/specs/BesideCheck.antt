-- Refusals that aren't of the check: of the words, of reading and writing, of the text, and of what comes after the check.
use Rattle.driver.specs.declared.refusal.Refusal.{Refusal}
use Rattle.driver.specs.declared.refusal.Refusal.TheVariants as refusals

-- not one of spent units, of a limit of depth behind the text or of a broken rule
abbrev pub IsBesideCheck : Refusal → Type 0
IsBesideCheck refusals.TurnsSpent = ⊥
IsBesideCheck refusals.Depth = ⊥
IsBesideCheck (refusals.Broken n p) = ⊥
IsBesideCheck _ = Unit {0}
