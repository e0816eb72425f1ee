-- The text of a certificate: `(cert 1 item*)`. An item is a number, `s`, `c`, `l N`, `r N` or `k`. Blanks and comments stand where they stand in
-- every text of tokens; what is printed has one space between parts. A number is decimal, without a leading zero.
use Rattle.std.specs.Prelude.{ℕ, ◌^◌, ◌<◌, List, [], ◌∷◌}
use Rattle.sexp_reader.specs.Text.{Text, Open, Close, Atom}
use Rattle.dump_printer.specs.CanonicalTerms.{numeral, each}
use Rattle.dump_printer.specs.Layout.{spaced}
use Rattle.cert_rules.specs.declared.item.CertItem.{CertItem}
use Rattle.cert_rules.specs.declared.item.CertItem.TheVariants.{Number, Same, Conv, Left, Right, Parts}
use Rattle.cert_rules.specs.Walk.{Items}

-- the words: `cert`, `1`, `s`, `c`, `l`, `r`, `k`

abbrev pub cert_word : List ℕ
cert_word = 99 ∷ 101 ∷ 114 ∷ 116 ∷ []

abbrev pub one_word : List ℕ
one_word = 49 ∷ []

abbrev pub same_word : List ℕ
same_word = 115 ∷ []

abbrev pub conv_word : List ℕ
conv_word = 99 ∷ []

abbrev pub left_word : List ℕ
left_word = 108 ∷ []

abbrev pub right_word : List ℕ
right_word = 114 ∷ []

abbrev pub parts_word : List ℕ
parts_word = 107 ∷ []

-- the tokens of an item, and of a certificate

abbrev pub item_tokens : CertItem → List Text → List Text
item_tokens (Number n) after = numeral n ∷ after
item_tokens Same after = Atom same_word ∷ after
item_tokens Conv after = Atom conv_word ∷ after
item_tokens (Left n) after = Atom left_word ∷ numeral n ∷ after
item_tokens (Right n) after = Atom right_word ∷ numeral n ∷ after
item_tokens Parts after = Atom parts_word ∷ after

abbrev pub items_tokens : Items → List Text
items_tokens is = each item_tokens is (Close ∷ [])

-- before other tokens
abbrev pub cert_before : Items → List Text → List Text
cert_before is after = Open ∷ Atom cert_word ∷ Atom one_word ∷ each item_tokens is (Close ∷ after)

abbrev pub cert_tokens : Items → List Text
cert_tokens is = cert_before is []

-- what is printed
abbrev pub cert_text : Items → List ℕ
cert_text is = spaced (cert_tokens is)

-- its numbers are at most 4,294,967,295
abbrev pub IsWithinU32 : CertItem → Type 0
IsWithinU32 (Number n) = n < 2 ^ 32
IsWithinU32 (Left n) = n < 2 ^ 32
IsWithinU32 (Right n) = n < 2 ^ 32
IsWithinU32 _ = Unit {0}

abbrev pub AreSmall : Items → Type 0
AreSmall [] = Unit {0}
AreSmall (x ∷ is) = IsWithinU32 x × AreSmall is
