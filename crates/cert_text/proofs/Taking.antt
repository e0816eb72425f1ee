-- How reading goes on at the next token.
use Rattle.std.proofs.Common.{◌≡◌, ◌∙◌, sym, ap, refl, subst, ℕ, ◌^◌, ◌<◌, ◌≤◌, Result, Ok, Err, true, false, if◌then◌else◌, List, length, Option, Some, None, arith}
use Rattle.std.specs.Prelude.{bytes_eq, slice_range}
use Rattle.std.proofs.lemmas.Bool.{lt-ltb, le-ltb}
use Rattle.sexp_reader.specs.Text.{Text, Open, Close, Atom, Stray}
use Rattle.sexp_reader.specs.Lex.{Spanned, left}
use Rattle.cert_rules.specs.declared.item.CertItem.{CertItem}
use Rattle.cert_rules.specs.declared.item.CertItem.TheVariants.{Number, Same, Conv, Left, Right, Parts}
use Rattle.cert_text.specs.declared.refusal.CertText.{CertText}
use Rattle.cert_text.specs.declared.refusal.CertText.TheVariants as refusals
use Rattle.cert_text.specs.declared.number.Numeral.TheVariants as numerals
use Rattle.cert_text.specs.declared.scan.Kind.TheVariants as kinds
use Rattle.cert_text.specs.declared.scan.Token.{Token}
use Rattle.cert_text.specs.declared.reading.Taken.{Taken}
use Rattle.cert_text.specs.CertText.{same_word, conv_word, left_word, right_word, parts_word}
use Rattle.cert_text.specs.CertReading.{CertRead, WrongToken, TooGreat, Wants, AnItem, LeftSteps, RightSteps, with_item, with_number, read_number, read_side, read_word, read_item, read_end, read_token, read_items, is_text, read_next}
use Rattle.cert_text.specs.Scanned.{text_of, text_of_kind, IsNext}
use Rattle.cert_text.specs.Numeral.{number_of_text, IsNumeral}
use Rattle.cert_text.specs.Answering.{Refuses, Expects, behind, Ends, Takes}

-- another reading that is the same
pub refuses_along : {x y : CertRead} (e : CertText) → x ≡ y → Refuses y e → Refuses x e
refuses_along e p h = subst (λ r. Refuses r e) (sym p) h

pub small_number : (start : ℕ) (item : ℕ → CertItem) (n : ℕ) (go : CertRead) → n < 2 ^ 32 → with_number start item n go ≡ with_item (item n) go
small_number start item n go h = ap (λ b. if b then with_item (item n) go else TooGreat start) (lt-ltb n (2 ^ 32) h)

great_number : (start : ℕ) (item : ℕ → CertItem) (n : ℕ) (go : CertRead) → 2 ^ 32 ≤ n → with_number start item n go ≡ TooGreat start
great_number start item n go h = ap (λ b. if b then with_item (item n) go else TooGreat start) (le-ltb n (2 ^ 32) h)

-- words of an item

pub read_left : (start : ℕ) (a : List ℕ) (go : Wants → CertRead) → bytes_eq a left_word ≡ true → read_side start a go ≡ go LeftSteps
read_left start a go e = ap (λ b. if b then go LeftSteps else if bytes_eq a right_word then go RightSteps else WrongToken start) e

not_left : (start : ℕ) (a : List ℕ) (go : Wants → CertRead) → bytes_eq a left_word ≡ false → read_side start a go ≡ (if bytes_eq a right_word then go RightSteps else WrongToken start)
not_left start a go e = ap (λ b. if b then go LeftSteps else if bytes_eq a right_word then go RightSteps else WrongToken start) e

pub read_right : (start : ℕ) (a : List ℕ) (go : Wants → CertRead) → bytes_eq a left_word ≡ false → bytes_eq a right_word ≡ true → read_side start a go ≡ go RightSteps
read_right start a go e f = not_left start a go e ∙ ap (λ b. if b then go RightSteps else WrongToken start) f

pub no_side : (start : ℕ) (a : List ℕ) (go : Wants → CertRead) → bytes_eq a left_word ≡ false → bytes_eq a right_word ≡ false → read_side start a go ≡ WrongToken start
no_side start a go e f = not_left start a go e ∙ ap (λ b. if b then go RightSteps else WrongToken start) f

abbrev after_conv : ℕ → List ℕ → (Wants → CertRead) → CertRead
after_conv start a go = if bytes_eq a parts_word then with_item Parts (go AnItem) else read_side start a go

abbrev after_same : ℕ → List ℕ → (Wants → CertRead) → CertRead
after_same start a go = if bytes_eq a conv_word then with_item Conv (go AnItem) else after_conv start a go

pub word_same : (start : ℕ) (a : List ℕ) (go : Wants → CertRead) → bytes_eq a same_word ≡ true → read_word start a go ≡ with_item Same (go AnItem)
word_same start a go e = ap (λ b. if b then with_item Same (go AnItem) else after_same start a go) e

not_same : (start : ℕ) (a : List ℕ) (go : Wants → CertRead) → bytes_eq a same_word ≡ false → read_word start a go ≡ after_same start a go
not_same start a go e = ap (λ b. if b then with_item Same (go AnItem) else after_same start a go) e

pub word_conv : (start : ℕ) (a : List ℕ) (go : Wants → CertRead) → bytes_eq a same_word ≡ false → bytes_eq a conv_word ≡ true → read_word start a go ≡ with_item Conv (go AnItem)
word_conv start a go e f = not_same start a go e ∙ ap (λ b. if b then with_item Conv (go AnItem) else after_conv start a go) f

not_conv : (start : ℕ) (a : List ℕ) (go : Wants → CertRead) → bytes_eq a same_word ≡ false → bytes_eq a conv_word ≡ false → read_word start a go ≡ after_conv start a go
not_conv start a go e f = not_same start a go e ∙ ap (λ b. if b then with_item Conv (go AnItem) else after_conv start a go) f

pub word_parts : (start : ℕ) (a : List ℕ) (go : Wants → CertRead) → bytes_eq a same_word ≡ false → bytes_eq a conv_word ≡ false → bytes_eq a parts_word ≡ true →
    read_word start a go ≡ with_item Parts (go AnItem)
word_parts start a go e f g = not_conv start a go e f ∙ ap (λ b. if b then with_item Parts (go AnItem) else read_side start a go) g

pub word_side : (start : ℕ) (a : List ℕ) (go : Wants → CertRead) → bytes_eq a same_word ≡ false → bytes_eq a conv_word ≡ false → bytes_eq a parts_word ≡ false →
    read_word start a go ≡ read_side start a go
word_side start a go e f g = not_conv start a go e f ∙ ap (λ b. if b then with_item Parts (go AnItem) else read_side start a go) g

module _ (bytes : List ℕ) where
  -- a token that must come next

  pub next_expects : (t : Text) (at : ℕ) (k : Token) → IsNext bytes at (Some k) → is_text (text_of bytes k) t ≡ true → Expects t bytes at (Ok k.end)
  next_expects t at k e h go =
      ap (λ ss. read_next t (length bytes) ss go) e ∙ ap (λ b. if b then go (left k.end bytes) else WrongToken k.start) h

  pub next_wrong : (t : Text) (at : ℕ) (k : Token) → IsNext bytes at (Some k) → is_text (text_of bytes k) t ≡ false → Expects t bytes at (Err (refusals.Syntax k.start))
  next_wrong t at k e h go =
      ap (λ ss. read_next t (length bytes) ss go) e ∙ ap (λ b. if b then go (left k.end bytes) else WrongToken k.start) h

  pub next_none : (t : Text) (at : ℕ) → IsNext bytes at None → Expects t bytes at (Err (refusals.Syntax (length bytes)))
  next_none t at e go = ap (λ ss. read_next t (length bytes) ss go) e

  -- items

  pub items_at : (w : Wants) (at : ℕ) (k : Token) → IsNext bytes at (Some k) → behind bytes at w ≡ read_token w k.start (text_of bytes k) (left k.end bytes) (behind bytes k.end)
  unfolding read_items
  items_at w at k e = ap (λ ss. read_items (length bytes) w ss) e

  pub items_none : (w : Wants) (at : ℕ) → IsNext bytes at None → behind bytes at w ≡ WrongToken (length bytes)
  unfolding read_items
  items_none w at e = ap (λ ss. read_items (length bytes) w ss) e

  -- a token that is wrong wherever it comes
  pub no_item_here : (at : ℕ) (k : Token) → IsNext bytes at (Some k) → (t : Text) → text_of bytes k ≡ t → read_token AnItem k.start t (left k.end bytes) (behind bytes k.end) ≡ WrongToken k.start →
      Takes bytes at (Err (refusals.Syntax k.start))
  no_item_here at k e t f h = items_at AnItem at k e ∙ ap (λ t. read_token AnItem k.start t (left k.end bytes) (behind bytes k.end)) f ∙ h

  -- the bracket that closes, and the end behind it
  module _ (at : ℕ) (k : Token) (e : IsNext bytes at (Some k)) (close : k.kind ≡ kinds.Close) where
    whole : behind bytes at AnItem ≡ read_end (left k.end bytes)
    whole = items_at AnItem at k e ∙ ap (λ x. read_token AnItem k.start (text_of_kind x (slice_range bytes k.start k.end)) (left k.end bytes) (behind bytes k.end)) close

    pub close_takes : (r : Result (Option Taken) CertText) → Ends bytes k.end r → Takes bytes at r
    close_takes (Ok None) h = whole ∙ h
    close_takes (Ok (Some x)) h = absurd h
    close_takes (Err f) h = refuses_along f whole h

  -- the number of a side, by what the side's tokens are

  module _ (w : Wants) (item : ℕ → CertItem)
      (numbers : (start : ℕ) (t : Text) (ss : List Spanned) (go : Wants → CertRead) → read_token w start t ss go ≡ read_number start item (number_of_text t) (go AnItem))
      (at : ℕ) (k : Token) (e : IsNext bytes at (Some k)) where
    number_at : (o : Option ℕ) → number_of_text (text_of bytes k) ≡ o → behind bytes at w ≡ read_number k.start item o (behind bytes k.end AnItem)
    number_at o h =
        items_at w at k e ∙ numbers k.start (text_of bytes k) (left k.end bytes) (behind bytes k.end) ∙ ap (λ o. read_number k.start item o (behind bytes k.end AnItem)) h

    pub count_small : (n : ℕ) → number_of_text (text_of bytes k) ≡ Some n → n ≤ 4294967295 → behind bytes at w ≡ with_item (item n) (behind bytes k.end AnItem)
    count_small n h s = number_at (Some n) h ∙ small_number k.start item n (behind bytes k.end AnItem) (omega arith)

    pub count_great : IsNumeral numerals.TooGreat (number_of_text (text_of bytes k)) → behind bytes at w ≡ TooGreat k.start
    count_great h = number_at (Some h.0) h.1 ∙ great_number k.start item h.0 (behind bytes k.end AnItem) (let g = h.2 in omega arith)

    pub count_wrong : number_of_text (text_of bytes k) ≡ None → behind bytes at w ≡ WrongToken k.start
    count_wrong h = number_at None h

  pub left_numbers : (start : ℕ) (t : Text) (ss : List Spanned) (go : Wants → CertRead) → read_token LeftSteps start t ss go ≡ read_number start Left (number_of_text t) (go AnItem)
  left_numbers start Open ss go = refl
  left_numbers start Close ss go = refl
  left_numbers start (Atom a) ss go = refl
  left_numbers start Stray ss go = refl

  pub right_numbers : (start : ℕ) (t : Text) (ss : List Spanned) (go : Wants → CertRead) → read_token RightSteps start t ss go ≡ read_number start Right (number_of_text t) (go AnItem)
  right_numbers start Open ss go = refl
  right_numbers start Close ss go = refl
  right_numbers start (Atom a) ss go = refl
  right_numbers start Stray ss go = refl

  -- the item at an atom

  module _ (k : Token) (atom : k.kind ≡ kinds.Atom) where
    pub atom_text : text_of bytes k ≡ Atom (slice_range bytes k.start k.end)
    atom_text = ap (λ x. text_of_kind x (slice_range bytes k.start k.end)) atom

    abbrev word : List ℕ
    word = slice_range bytes k.start k.end

    item_of : (o : Option ℕ) → number_of_text (text_of bytes k) ≡ o →
        read_token AnItem k.start (text_of bytes k) (left k.end bytes) (behind bytes k.end) ≡ read_item k.start word o (behind bytes k.end)
    item_of o h =
        ap (λ t. read_token AnItem k.start t (left k.end bytes) (behind bytes k.end)) atom_text
        ∙ ap (λ o. read_item k.start word o (behind bytes k.end)) (sym (ap (λ t. number_of_text t) atom_text) ∙ h)

    pub atom_small : (n : ℕ) → number_of_text (text_of bytes k) ≡ Some n → n ≤ 4294967295 →
        read_token AnItem k.start (text_of bytes k) (left k.end bytes) (behind bytes k.end) ≡ with_item (Number n) (behind bytes k.end AnItem)
    atom_small n h s = item_of (Some n) h ∙ small_number k.start Number n (behind bytes k.end AnItem) (omega arith)

    pub atom_great : IsNumeral numerals.TooGreat (number_of_text (text_of bytes k)) →
        read_token AnItem k.start (text_of bytes k) (left k.end bytes) (behind bytes k.end) ≡ TooGreat k.start
    atom_great h = item_of (Some h.0) h.1 ∙ great_number k.start Number h.0 (behind bytes k.end AnItem) (let g = h.2 in omega arith)

    pub atom_word : number_of_text (text_of bytes k) ≡ None →
        read_token AnItem k.start (text_of bytes k) (left k.end bytes) (behind bytes k.end) ≡ read_word k.start word (behind bytes k.end)
    atom_word h = item_of None h
