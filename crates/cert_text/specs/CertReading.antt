-- Reading a certificate, as a function of a text's tokens: the certificate; or the offset of the first token that continues no text of one, or
-- the text's length; or the offset of a number that is too great. Of a wrong token and such a number, what comes first in the text is answered.
use Rattle.std.specs.Prelude.{ℕ, ◌^◌, Bool, true, false, if◌then◌else◌, nat_lt, bytes_eq, List, [], ◌∷◌, length, Option, Some, None}
use Rattle.sexp_reader.specs.Text.{Text, Open, Close, Atom}
use Rattle.sexp_reader.specs.Lex.{Spanned, left}
use Rattle.dump_grammar.specs.Numbers.{number_of}
use Rattle.cert_rules.specs.declared.item.CertItem.{CertItem}
use Rattle.cert_rules.specs.declared.item.CertItem.TheVariants.{Number, Same, Conv, Left, Right, Parts}
use Rattle.cert_rules.specs.Walk.{Items}
use Rattle.cert_text.specs.CertText.{cert_word, one_word, same_word, conv_word, left_word, right_word, parts_word}

pub data CertRead : Type 0 where
  Read : Items → CertRead
  WrongToken : ℕ → CertRead
  TooGreat : ℕ → CertRead

-- what is wanted: an item or the end, or the number of a side's steps
pub data Wants : Type 0 where
  AnItem LeftSteps RightSteps : Wants

abbrev pub with_item : CertItem → CertRead → CertRead
with_item x (Read is) = Read (x ∷ is)
with_item x (WrongToken n) = WrongToken n
with_item x (TooGreat n) = TooGreat n

-- a number at most 4,294,967,295, at an offset, and the rest
abbrev pub with_number : ℕ → (ℕ → CertItem) → ℕ → CertRead → CertRead
with_number start item n go = if nat_lt n (2 ^ 32) then with_item (item n) go else TooGreat start

abbrev pub read_number : ℕ → (ℕ → CertItem) → Option ℕ → CertRead → CertRead
read_number start item None go = WrongToken start
read_number start item (Some n) go = with_number start item n go

-- the word of a side, at an offset; go reads what follows
abbrev pub read_side : ℕ → List ℕ → (Wants → CertRead) → CertRead
read_side start a go = if bytes_eq a left_word then go LeftSteps else if bytes_eq a right_word then go RightSteps else WrongToken start

-- a word, at an offset; go reads what follows
abbrev pub read_word : ℕ → List ℕ → (Wants → CertRead) → CertRead
read_word start a go =
    if bytes_eq a same_word then with_item Same (go AnItem)
    else if bytes_eq a conv_word then with_item Conv (go AnItem)
    else if bytes_eq a parts_word then with_item Parts (go AnItem)
    else read_side start a go

abbrev pub read_item : ℕ → List ℕ → Option ℕ → (Wants → CertRead) → CertRead
read_item start a (Some n) go = with_number start Number n (go AnItem)
read_item start a None go = read_word start a go

-- behind the last bracket there is no token
abbrev pub read_end : List Spanned → CertRead
read_end [] = Read []
read_end (s ∷ ss) = WrongToken s.start

abbrev pub read_token : Wants → ℕ → Text → List Spanned → (Wants → CertRead) → CertRead
read_token AnItem start (Atom a) ss go = read_item start a (number_of a) go
read_token AnItem start Close ss go = read_end ss
read_token LeftSteps start (Atom a) ss go = read_number start Left (number_of a) (go AnItem)
read_token RightSteps start (Atom a) ss go = read_number start Right (number_of a) (go AnItem)
read_token w start t ss go = WrongToken start

-- the items of a text of so many bytes
unfoldable pub read_items : ℕ → Wants → List Spanned → CertRead
read_items len w [] = WrongToken len
read_items len w (s ∷ ss) = read_token w s.start s.text ss (λ w. read_items len w ss)

abbrev pub is_text : Text → Text → Bool
is_text Open Open = true
is_text (Atom a) (Atom b) = bytes_eq a b
is_text _ _ = false

-- a token that must come next
abbrev pub read_next : Text → ℕ → List Spanned → (List Spanned → CertRead) → CertRead
read_next t len [] go = WrongToken len
read_next t len (s ∷ ss) go = if is_text s.text t then go ss else WrongToken s.start

abbrev pub read_certificate : ℕ → List Spanned → CertRead
read_certificate len ss =
    read_next Open len ss (λ ss. read_next (Atom cert_word) len ss (λ ss. read_next (Atom one_word) len ss (λ ss. read_items len AnItem ss)))

-- from an offset on
abbrev pub read_bytes : List ℕ → ℕ → CertRead
read_bytes bytes from = read_certificate (length bytes) (left from bytes)
