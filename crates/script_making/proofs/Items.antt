-- The items for the parts of applications, and for the steps of a side.
use Rattle.std.specs.Prelude.{replicate}
use Rattle.std.proofs.Common.{◌≡◌, ap, refl, ℕ, zero, suc, ◌<◌, ◌+◌, List, [], ◌∷◌, ◌++◌, length, arith}
use Rattle.std.proofs.lemmas.List.{replicate-append-replicate}
use Rattle.pc_terms.specs.Syntax.{Term}
use Rattle.cert_rules.specs.declared.item.CertItem.{CertItem}
use Rattle.cert_rules.specs.declared.item.CertItem.TheVariants.{Parts}
use Rattle.cert_rules.specs.MakingTyping.{side, part_items}

pub as_many_parts : (xs : List Term) → part_items xs ≡ replicate (length xs) Parts
as_many_parts [] = refl
as_many_parts (x ∷ xs) = ap (λ is. Parts ∷ is) (as_many_parts xs)

pub one_more_part : (n : ℕ) → replicate n Parts ++ Parts ∷ [] ≡ replicate (n + 1) Parts
one_more_part n = replicate-append-replicate n 1 Parts

pub some_side : (item : ℕ → CertItem) (n : ℕ) → 0 < n → side item n ≡ item n ∷ []
some_side item zero h = absurd (omega arith)
some_side item (suc n) h = refl

pub no_side : (item : ℕ → CertItem) (n : ℕ) → n ≡ 0 → side item n ≡ []
no_side item zero h = refl
no_side item (suc n) h = absurd (omega arith)
