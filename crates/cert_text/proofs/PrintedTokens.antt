-- All that the tokens of a certificate spell is read, and so is what is printed.
use Rattle.std.proofs.Common.{◌≡◌, ◌∙◌, ℕ, ◌+◌, ◌^◌, ◌<◌, true, false, if◌then◌else◌, List, [], ◌∷◌, ◌++◌, length, drop, take, get_or, refl, sym, ap, subst, arith, decimal}
use Rattle.std.proofs.lemmas.List.{take_more}
use Rattle.std.proofs.lemmas.Slice.Eq.{bytes_eq-Decides}
use Rattle.sexp_reader.specs.Text.{Text, Open, Close, Atom, Stray}
use Rattle.sexp_reader.specs.Lex.{Spanned, lex, left}
use Rattle.dump_grammar.specs.Numbers.{number_of}
use Rattle.dump_grammar.specs.Judge.{texts}
use Rattle.dump_printer.specs.CanonicalTerms.{numeral}
use Rattle.dump_printer.proofs.Decimals.{decimal-read}
use Rattle.dump_printer.proofs.Good.{AreGood, decimal-good, spaced-read}
use Rattle.cert_rules.specs.declared.item.CertItem.{CertItem}
use Rattle.cert_rules.specs.declared.item.CertItem.TheVariants.{Number, Same, Conv, Left, Right, Parts}
use Rattle.cert_rules.specs.Walk.{Items}
use Rattle.cert_text.specs.CertText.{cert_word, one_word, same_word, conv_word, left_word, right_word, parts_word, item_tokens, items_tokens, cert_tokens, cert_text, IsWithinU32, AreSmall}
use Rattle.cert_text.specs.CertReading.{CertRead, Read, WrongToken, Wants, AnItem, LeftSteps, RightSteps, with_item, read_number, read_item, read_token, read_items, is_text, read_next, read_certificate}
use Rattle.cert_text.specs.TextLaws.{IsReadBack}
use Rattle.cert_text.proofs.ReadTokens.{next_item, no_item}
use Rattle.cert_text.proofs.Taking.{small_number}
use Rattle.dump_grammar.proofs.TextsAnywhere.{texts_anywhere}

-- tokens by their texts

text_or : List Text → Text
text_or [] = Stray
text_or (t ∷ ts) = t

rest_or : List Text → List Text
rest_or [] = []
rest_or (t ∷ ts) = ts

first_text : {t u : Text} {ts us : List Text} → t ∷ ts ≡ u ∷ us → t ≡ u
unfolding text_or
first_text e = ap text_or e

rest_text : {t u : Text} {ts us : List Text} → t ∷ ts ≡ u ∷ us → ts ≡ us
unfolding rest_or
rest_text e = ap rest_or e

no_text : {A : Type 0} {t : Text} {ts : List Text} → [] ≡ t ∷ ts → A
no_text e = absurd (cc)

some_text : {A : Type 0} {t : Text} {ts : List Text} → t ∷ ts ≡ [] → A
some_text e = absurd (cc)

numeral_read : (start : ℕ) (item : ℕ → CertItem) (n : ℕ) (go : CertRead) → n < 2 ^ 32 → read_number start item (number_of (decimal n)) go ≡ with_item (item n) go
numeral_read start item n go h = ap (λ o. read_number start item o go) (decimal-read n (omega arith)) ∙ small_number start item n go h

number_read : (start n : ℕ) (go : Wants → CertRead) → n < 2 ^ 32 → read_item start (decimal n) (number_of (decimal n)) go ≡ with_item (Number n) (go AnItem)
number_read start n go h = ap (λ o. read_item start (decimal n) o go) (decimal-read n (omega arith)) ∙ small_number start Number n (go AnItem) h

-- words are no numbers
same_read : (start : ℕ) (go : Wants → CertRead) → read_item start same_word (number_of same_word) go ≡ with_item Same (go AnItem)
unfolding number_of
same_read start go = refl

conv_read : (start : ℕ) (go : Wants → CertRead) → read_item start conv_word (number_of conv_word) go ≡ with_item Conv (go AnItem)
unfolding number_of
conv_read start go = refl

parts_read : (start : ℕ) (go : Wants → CertRead) → read_item start parts_word (number_of parts_word) go ≡ with_item Parts (go AnItem)
unfolding number_of
parts_read start go = refl

left_read : (start : ℕ) (go : Wants → CertRead) → read_item start left_word (number_of left_word) go ≡ go LeftSteps
unfolding number_of
left_read start go = refl

right_read : (start : ℕ) (go : Wants → CertRead) → read_item start right_word (number_of right_word) go ≡ go RightSteps
unfolding number_of
right_read start go = refl

module _ (len : ℕ) where
  -- a token with this text
  pub token_as : (w : Wants) (s : Spanned) (ss : List Spanned) (t : Text) → s.text ≡ t → read_items len w (s ∷ ss) ≡ read_token w s.start t ss (λ w. read_items len w ss)
  unfolding read_items
  token_as w s ss t e = ap (λ t. read_token w s.start t ss (λ w. read_items len w ss)) e

  end_read : (s : Spanned) (ss : List Spanned) → s.text ≡ Close → texts ss ≡ [] → read_items len AnItem (s ∷ ss) ≡ Read []
  end_read s [] e h = token_as AnItem s [] Close e
  end_read s (t ∷ ss) e h = some_text h

  -- the number of a side, and what follows
  side_read : (w : Wants) (item : ℕ → CertItem) → ((start : ℕ) (a : List ℕ) (ss : List Spanned) (go : Wants → CertRead) → read_token w start (Atom a) ss go ≡ read_number start item (number_of a) (go AnItem)) →
      (n : ℕ) (is : Items) (ss : List Spanned) → n < 2 ^ 32 → texts ss ≡ numeral n ∷ items_tokens is → ((ss : List Spanned) → texts ss ≡ items_tokens is → read_items len AnItem ss ≡ Read is) →
      read_items len w ss ≡ Read (item n ∷ is)
  side_read w item r n is [] h e rec = no_text e
  side_read w item r n is (s ∷ ss) h e rec =
      token_as w s ss (numeral n) (first_text e) ∙ r s.start (decimal n) ss (λ w. read_items len w ss) ∙ numeral_read s.start item n (read_items len AnItem ss) h
      ∙ ap (λ g. with_item (item n) g) (rec ss (rest_text e))

  item_read : (x : CertItem) (is : Items) (ss : List Spanned) → texts ss ≡ item_tokens x (items_tokens is) → IsWithinU32 x →
      ((ss : List Spanned) → texts ss ≡ items_tokens is → read_items len AnItem ss ≡ Read is) → read_items len AnItem ss ≡ Read (x ∷ is)
  item_read (Number n) is [] e h rec = no_text e
  item_read (Number n) is (s ∷ ss) e h rec =
      token_as AnItem s ss (numeral n) (first_text e) ∙ number_read s.start n (λ w. read_items len w ss) h ∙ ap (λ g. with_item (Number n) g) (rec ss (rest_text e))
  item_read Same is [] e h rec = no_text e
  item_read Same is (s ∷ ss) e h rec =
      token_as AnItem s ss (Atom same_word) (first_text e) ∙ same_read s.start (λ w. read_items len w ss) ∙ ap (λ g. with_item Same g) (rec ss (rest_text e))
  item_read Conv is [] e h rec = no_text e
  item_read Conv is (s ∷ ss) e h rec =
      token_as AnItem s ss (Atom conv_word) (first_text e) ∙ conv_read s.start (λ w. read_items len w ss) ∙ ap (λ g. with_item Conv g) (rec ss (rest_text e))
  item_read Parts is [] e h rec = no_text e
  item_read Parts is (s ∷ ss) e h rec =
      token_as AnItem s ss (Atom parts_word) (first_text e) ∙ parts_read s.start (λ w. read_items len w ss) ∙ ap (λ g. with_item Parts g) (rec ss (rest_text e))
  item_read (Left n) is [] e h rec = no_text e
  item_read (Left n) is (s ∷ ss) e h rec =
      token_as AnItem s ss (Atom left_word) (first_text e) ∙ left_read s.start (λ w. read_items len w ss)
      ∙ side_read LeftSteps Left (λ start a ss go. refl) n is ss h (rest_text e) rec
  item_read (Right n) is [] e h rec = no_text e
  item_read (Right n) is (s ∷ ss) e h rec =
      token_as AnItem s ss (Atom right_word) (first_text e) ∙ right_read s.start (λ w. read_items len w ss)
      ∙ side_read RightSteps Right (λ start a ss go. refl) n is ss h (rest_text e) rec

  pub items_read : (is : Items) (ss : List Spanned) → texts ss ≡ items_tokens is → AreSmall is → read_items len AnItem ss ≡ Read is
  items_read [] [] e h = no_text (e ∙ no_item)
  items_read [] (s ∷ ss) e h = let f : s.text ∷ texts ss ≡ Close ∷ [] = e ∙ no_item in end_read s ss (first_text f) (rest_text f)
  items_read (x ∷ is) ss e h = item_read x is ss (e ∙ next_item x is) h.0 (λ ss e. items_read is ss e h.1)

  next_read : (t : Text) (ss : List Spanned) (go : List Spanned → CertRead) (ts : List Text) (r : CertRead) → is_text t t ≡ true → texts ss ≡ t ∷ ts →
      ((ss : List Spanned) → texts ss ≡ ts → go ss ≡ r) → read_next t len ss go ≡ r
  next_read t [] go ts r h e rec = no_text e
  next_read t (s ∷ ss) go ts r h e rec =
      ap (λ b. if b then go ss else WrongToken s.start) (ap (λ x. is_text x t) (first_text e) ∙ h) ∙ rec ss (rest_text e)

  pub certificate_read : (ss : List Spanned) (is : Items) → texts ss ≡ cert_tokens is → AreSmall is → read_certificate len ss ≡ Read is
  certificate_read ss is e h =
      next_read Open ss _ (Atom cert_word ∷ Atom one_word ∷ items_tokens is) (Read is) refl e
      (λ ss e. next_read (Atom cert_word) ss _ (Atom one_word ∷ items_tokens is) (Read is) ((bytes_eq-Decides cert_word cert_word).1 refl) e
      (λ ss e. next_read (Atom one_word) ss _ (items_tokens is) (Read is) ((bytes_eq-Decides one_word one_word).1 refl) e
      (λ ss e. items_read is ss e h)))

-- what is printed

item_good : (x : CertItem) (rest : List Text) → IsWithinU32 x → AreGood rest → AreGood (item_tokens x rest)
item_good (Number n) rest h g = (decimal-good n (omega arith), g)
item_good Same rest h g = (refl, g)
item_good Conv rest h g = (refl, g)
item_good (Left n) rest h g = (refl, (decimal-good n (omega arith), g))
item_good (Right n) rest h g = (refl, (decimal-good n (omega arith), g))
item_good Parts rest h g = (refl, g)

pub items_good : (is : Items) → AreSmall is → AreGood (items_tokens is)
items_good [] h = subst (λ ts. AreGood ts) (sym no_item) (tt, tt)
items_good (x ∷ is) h = subst (λ ts. AreGood ts) (sym (next_item x is)) (item_good x (items_tokens is) h.0 (items_good is h.1))

-- one item more of those that can be held

small_with : (xs : Items) (x : CertItem) → AreSmall xs → IsWithinU32 x → AreSmall (xs ++ (x ∷ []))
small_with [] x h w = (w, tt)
small_with (y ∷ ys) x h w = (h.0, small_with ys x h.1 w)

pub small_next : (xs : Items) (i : ℕ) (x : CertItem) → i < length xs → AreSmall (take i xs) → IsWithinU32 (get_or xs i x) → AreSmall (take (i + 1) xs)
small_next xs i x l h w = subst (λ ys. AreSmall ys) (sym (take_more xs i x l)) (small_with (take i xs) (get_or xs i x) h w)

dropped : (xs ys : List ℕ) → drop (length xs) (xs ++ ys) ≡ ys
dropped [] ys = refl
dropped (x ∷ xs) ys = dropped xs ys

pub printed_read : (is : Items) → AreSmall is → IsReadBack is
printed_read is h before =
    let t : texts (left (length before) (before ++ cert_text is)) ≡ cert_tokens is =
    ap (λ bs. texts (lex (length before) false bs)) (dropped before (cert_text is)) ∙ texts_anywhere (length before) 0 false (cert_text is)
    ∙ spaced-read (cert_tokens is) (tt, (refl, (refl, items_good is h))) in
    certificate_read (length (before ++ cert_text is)) (left (length before) (before ++ cert_text is)) is t h
