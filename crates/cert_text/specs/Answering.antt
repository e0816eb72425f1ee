-- What the calls that read a certificate answer, by reading as a function.
use Rattle.std.specs.Prelude.{◌≡◌, ℕ, ◌<◌, ◌≤◌, List, [], ◌∷◌, length, Option, Some, None, Result, Ok, Err}
use Rattle.sexp_reader.specs.Text.{Text, Atom}
use Rattle.sexp_reader.specs.Lex.{Spanned, left}
use Rattle.dump_grammar.specs.Numbers.{number_of}
use Rattle.cert_rules.specs.declared.item.CertItem.{CertItem}
use Rattle.cert_rules.specs.Walk.{Items}
use Rattle.cert_text.specs.declared.refusal.CertText.{CertText}
use Rattle.cert_text.specs.declared.refusal.CertText.TheVariants.{Syntax, Number, Memory}
use Rattle.cert_text.specs.declared.scan.Token.{Token}
use Rattle.cert_text.specs.Scanned.{text_of}
use Rattle.cert_text.specs.declared.reading.Count.{Count}
use Rattle.cert_text.specs.declared.reading.Taken.{Taken}
use Rattle.cert_text.specs.CertReading.{CertRead, Read, WrongToken, TooGreat, Wants, AnItem, with_item, read_item, read_side, read_word, read_end, read_token, read_items, read_next}

-- a refusal at its offset, by a call that takes no memory
abbrev pub Refuses : CertRead → CertText → Type 0
Refuses r (Syntax o) = r ≡ WrongToken o
Refuses r (Number o) = r ≡ TooGreat o
Refuses r Memory = ⊥

-- the certificate, or a refusal at its offset; want of memory is free
abbrev pub AnswersText : CertRead → Result Items CertText → Type 0
AnswersText r (Ok is) = r ≡ Read is
AnswersText r (Err (Syntax o)) = r ≡ WrongToken o
AnswersText r (Err (Number o)) = r ≡ TooGreat o
AnswersText r (Err Memory) = Unit {0}

-- a token that must come next from an offset on: reading goes on behind it, or it is refused, whatever comes after
abbrev pub Expects : Text → List ℕ → ℕ → Result ℕ CertText → Type 0
Expects t bytes at (Ok n) = (go : List Spanned → CertRead) → read_next t (length bytes) (left at bytes) go ≡ go (left n bytes)
Expects t bytes at (Err e) = (go : List Spanned → CertRead) → Refuses (read_next t (length bytes) (left at bytes) go) e

-- the number of a side's steps, from an offset on
abbrev pub Counts : Wants → (ℕ → CertItem) → List ℕ → ℕ → Result Count CertText → Type 0
Counts w item bytes at (Ok c) = read_items (length bytes) w (left at bytes) ≡ with_item (item c.count) (read_items (length bytes) AnItem (left c.end bytes))
Counts w item bytes at (Err e) = Refuses (read_items (length bytes) w (left at bytes)) e

-- what follows behind an offset
abbrev pub behind : List ℕ → ℕ → Wants → CertRead
behind bytes at w = read_items (length bytes) w (left at bytes)

-- the item of a side, at its word, which no word of an item without a number is
abbrev pub TakesSide : (bytes word : List ℕ) → (start «end» : ℕ) → Result Taken CertText → Type 0
TakesSide bytes a start «end» (Ok x) = read_side start a (behind bytes «end») ≡ with_item x.item (behind bytes x.end AnItem)
TakesSide bytes a start «end» (Err e) = Refuses (read_side start a (behind bytes «end»)) e

-- the item at a word
abbrev pub TakesWord : (bytes word : List ℕ) → (start «end» : ℕ) → Result Taken CertText → Type 0
TakesWord bytes a start «end» (Ok x) = read_word start a (behind bytes «end») ≡ with_item x.item (behind bytes x.end AnItem)
TakesWord bytes a start «end» (Err e) = Refuses (read_word start a (behind bytes «end»)) e

-- the item at a token
abbrev pub TakesAtom : List ℕ → Token → Result Taken CertText → Type 0
TakesAtom bytes t (Ok x) = read_token AnItem t.start (text_of bytes t) (left t.end bytes) (behind bytes t.end) ≡ with_item x.item (behind bytes x.end AnItem)
TakesAtom bytes t (Err e) = Refuses (read_token AnItem t.start (text_of bytes t) (left t.end bytes) (behind bytes t.end)) e

-- the item that an atom of one byte is
abbrev pub IsOfByte : ℕ → CertItem → Type 0
IsOfByte b x = (start : ℕ) (go : Wants → CertRead) → read_item start (b ∷ []) (number_of (b ∷ [])) go ≡ with_item x (go AnItem)

-- the item of a side whose word is this one byte, with so many steps
abbrev pub IsSideOfByte : (b n : ℕ) → CertItem → Type 0
IsSideOfByte b n x =
    (w : Wants) × ((start : ℕ) (go : Wants → CertRead) → read_item start (b ∷ []) (number_of (b ∷ [])) go ≡ go w)
    × ((start : ℕ) (a : List ℕ) (ss : List Spanned) (go : Wants → CertRead) → number_of a ≡ Some n → read_token w start (Atom a) ss go ≡ with_item x (go AnItem))

-- nothing comes from an offset on
abbrev pub Ends : List ℕ → ℕ → Result (Option Taken) CertText → Type 0
Ends bytes at (Ok None) = read_end (left at bytes) ≡ Read []
Ends bytes at (Ok (Some x)) = ⊥
Ends bytes at (Err e) = Refuses (read_end (left at bytes)) e

-- an item from an offset on, or the end
abbrev pub Takes : List ℕ → ℕ → Result (Option Taken) CertText → Type 0
Takes bytes at (Ok (Some x)) = read_items (length bytes) AnItem (left at bytes) ≡ with_item x.item (read_items (length bytes) AnItem (left x.end bytes))
Takes bytes at (Ok None) = read_items (length bytes) AnItem (left at bytes) ≡ Read []
Takes bytes at (Err e) = Refuses (read_items (length bytes) AnItem (left at bytes)) e

-- what was taken has a byte at least, and stands within the text
abbrev pub TakesWithin : List ℕ → ℕ → Option Taken → Type 0
TakesWithin bytes at None = Unit {0}
TakesWithin bytes at (Some x) = (at < x.end) × (x.end ≤ length bytes)

-- items that were read, before those that are still to come
abbrev pub with_items : Items → CertRead → CertRead
with_items [] r = r
with_items (x ∷ is) r = with_item x (with_items is r)
