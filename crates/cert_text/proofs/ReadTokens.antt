-- What is read is what the tokens spell, and all that they spell is read.
use Rattle.std.proofs.Common.{◌≡◌, ◌∙◌, ℕ, ◌^◌, ◌<◌, Bool, true, false, if◌then◌else◌, List, [], ◌∷◌, Option, Some, None, refl, sym, ap, subst, arith}
use Rattle.std.specs.Prelude.{nat_lt, bytes_eq}
use Rattle.std.proofs.lemmas.Bool.{ltb-true}
use Rattle.sexp_reader.specs.Text.{Text, Open, Close, Atom}
use Rattle.sexp_reader.specs.Lex.{Spanned}
use Rattle.dump_grammar.specs.Numbers.{number_of}
use Rattle.dump_grammar.specs.Judge.{texts}
use Rattle.dump_printer.specs.CanonicalTerms.{numeral}
use Rattle.dump_printer.proofs.Decimals.{decimal-is}
use Rattle.dump_printer.proofs.Lists.{each-none, each-next}
use Rattle.cert_rules.specs.declared.item.CertItem.{CertItem}
use Rattle.cert_rules.specs.declared.item.CertItem.TheVariants.{Number, Same, Conv, Left, Right, Parts}
use Rattle.cert_rules.specs.Walk.{Items}
use Rattle.cert_text.specs.CertText.{cert_word, one_word, same_word, conv_word, left_word, right_word, parts_word, item_tokens, items_tokens, cert_tokens, IsWithinU32, AreSmall}
use Rattle.cert_text.specs.CertReading.{CertRead, Read, WrongToken, TooGreat, Wants, AnItem, LeftSteps, RightSteps, with_item, read_number, read_item, read_end, read_token, read_items, is_text, read_next, read_certificate}
use Rattle.dump_grammar.proofs.Words.{same_bytes}

-- what is no certificate

wrong_read : {A : Type 0} {n : ℕ} {is : Items} → WrongToken n ≡ Read is → A
wrong_read e = absurd (cc)

great_read : {A : Type 0} {n : ℕ} {is : Items} → TooGreat n ≡ Read is → A
great_read e = absurd (cc)

items_or : CertRead → Items
items_or (Read is) = is
items_or _ = []

one_read : {is js : Items} → Read is ≡ Read js → is ≡ js
unfolding items_or
one_read e = ap items_or e

with_item_read : (x : CertItem) (go : CertRead) (is : Items) → with_item x go ≡ Read is → (js : Items) × (go ≡ Read js) × (is ≡ x ∷ js)
with_item_read x (Read js) is e = (js, refl, sym (one_read e))
with_item_read x (WrongToken n) is e = wrong_read e
with_item_read x (TooGreat n) is e = great_read e

pub less_from : (a b : ℕ) → nat_lt a b ≡ true → a < b
less_from a b e = ltb-true a b e

with_number_read : (start : ℕ) (item : ℕ → CertItem) (n : ℕ) (go : CertRead) (is : Items) (b : Bool) → nat_lt n (2 ^ 32) ≡ b →
    (if b then with_item (item n) go else TooGreat start) ≡ Read is → (n < 2 ^ 32) × ((js : Items) × (go ≡ Read js) × (is ≡ item n ∷ js))
with_number_read start item n go is true h e = (less_from n (2 ^ 32) h, with_item_read (item n) go is e)
with_number_read start item n go is false h e = great_read e

-- what the tokens spell

abbrev pub Spells : Wants → List Text → Items → Type 0
Spells AnItem ts is = (ts ≡ items_tokens is) × AreSmall is
Spells LeftSteps ts is = (n : ℕ) × (js : Items) × (is ≡ Left n ∷ js) × (ts ≡ numeral n ∷ items_tokens js) × (n < 2 ^ 32) × AreSmall js
Spells RightSteps ts is = (n : ℕ) × (js : Items) × (is ≡ Right n ∷ js) × (ts ≡ numeral n ∷ items_tokens js) × (n < 2 ^ 32) × AreSmall js

pub next_item : (x : CertItem) (is : Items) → items_tokens (x ∷ is) ≡ item_tokens x (items_tokens is)
next_item x is = each-next item_tokens x is (Close ∷ [])

pub no_item : items_tokens [] ≡ Close ∷ []
no_item = each-none item_tokens (Close ∷ [])

-- one item more, by an equation for its tokens
one_more : (x : CertItem) (ts : List Text) (rest : List Text) (is js : Items) → is ≡ x ∷ js → IsWithinU32 x → (rest ≡ items_tokens js) × AreSmall js → ts ≡ item_tokens x rest → Spells AnItem ts is
one_more x ts rest is js e small h t =
    subst (λ is. Spells AnItem ts is) (sym e) (t ∙ ap (λ r. item_tokens x r) h.0 ∙ sym (next_item x js), (small, h.1))

end_read : (ss : List Spanned) (is : Items) → read_end ss ≡ Read is → (texts ss ≡ []) × ([] ≡ is)
end_read [] is e = (refl, one_read e)
end_read (s ∷ ss) is e = wrong_read e

module _ (start : ℕ) (a : List ℕ) (ss : List Spanned) (go : Wants → CertRead) (is : Items)
    (rec : (w : Wants) (js : Items) → go w ≡ Read js → Spells w (texts ss) js) where
  item_at_word : (x : CertItem) (word : List ℕ) → IsWithinU32 x → ((rest : List Text) → item_tokens x rest ≡ Atom word ∷ rest) → bytes_eq a word ≡ true → with_item x (go AnItem) ≡ Read is →
      Spells AnItem (Atom a ∷ texts ss) is
  item_at_word x word small t h e =
      let r = with_item_read x (go AnItem) is e in
      one_more x (Atom a ∷ texts ss) (texts ss) is r.0 r.2 small (rec AnItem r.0 r.1) (ap (λ a. Atom a ∷ texts ss) (same_bytes a word h) ∙ sym (t (texts ss)))

  left_at_word : bytes_eq a left_word ≡ true → go LeftSteps ≡ Read is → Spells AnItem (Atom a ∷ texts ss) is
  left_at_word h e =
      let r = rec LeftSteps is e in
      one_more (Left r.0) (Atom a ∷ texts ss) (items_tokens r.1) is r.1 r.2 r.4 (refl, r.5) (λ i. Atom (same_bytes a left_word h i) ∷ r.3 i)

  right_at_word : bytes_eq a right_word ≡ true → go RightSteps ≡ Read is → Spells AnItem (Atom a ∷ texts ss) is
  right_at_word h e =
      let r = rec RightSteps is e in
      one_more (Right r.0) (Atom a ∷ texts ss) (items_tokens r.1) is r.1 r.2 r.4 (refl, r.5) (λ i. Atom (same_bytes a right_word h i) ∷ r.3 i)

  word_read : (b1 b2 b3 b4 b5 : Bool) → bytes_eq a same_word ≡ b1 → bytes_eq a conv_word ≡ b2 → bytes_eq a parts_word ≡ b3 → bytes_eq a left_word ≡ b4 → bytes_eq a right_word ≡ b5 →
      (if b1 then with_item Same (go AnItem) else if b2 then with_item Conv (go AnItem) else if b3 then with_item Parts (go AnItem) else if b4 then go LeftSteps
      else if b5 then go RightSteps else WrongToken start) ≡ Read is → Spells AnItem (Atom a ∷ texts ss) is
  word_read true b2 b3 b4 b5 h1 h2 h3 h4 h5 e = item_at_word Same same_word tt (λ r. refl) h1 e
  word_read false true b3 b4 b5 h1 h2 h3 h4 h5 e = item_at_word Conv conv_word tt (λ r. refl) h2 e
  word_read false false true b4 b5 h1 h2 h3 h4 h5 e = item_at_word Parts parts_word tt (λ r. refl) h3 e
  word_read false false false true b5 h1 h2 h3 h4 h5 e = left_at_word h4 e
  word_read false false false false true h1 h2 h3 h4 h5 e = right_at_word h5 e
  word_read false false false false false h1 h2 h3 h4 h5 e = wrong_read e

  item_read : (o : Option ℕ) → number_of a ≡ o → read_item start a o go ≡ Read is → Spells AnItem (Atom a ∷ texts ss) is
  item_read None h e = word_read _ _ _ _ _ refl refl refl refl refl e
  item_read (Some n) h e =
      let r = with_number_read start Number n (go AnItem) is (nat_lt n (2 ^ 32)) refl e in
      let js = r.1.0 in
      one_more (Number n) (Atom a ∷ texts ss) (texts ss) is js r.1.2 r.0 (rec AnItem js r.1.1) (ap (λ a. Atom a ∷ texts ss) (sym (decimal-is a n (omega arith) h)))

  -- the number of a side
  abbrev Counted : (ℕ → CertItem) → Type 0
  Counted item = (n : ℕ) × (js : Items) × (is ≡ item n ∷ js) × (Atom a ∷ texts ss ≡ numeral n ∷ items_tokens js) × (n < 2 ^ 32) × AreSmall js

  number_read : (item : ℕ → CertItem) (o : Option ℕ) → number_of a ≡ o → read_number start item o (go AnItem) ≡ Read is → Counted item
  number_read item None h e = wrong_read e
  number_read item (Some n) h e =
      let r = with_number_read start item n (go AnItem) is (nat_lt n (2 ^ 32)) refl e in
      let js = r.1.0 in
      let k = rec AnItem js r.1.1 in
      (n, js, r.1.2, (λ i. Atom (sym (decimal-is a n (omega arith) h) i) ∷ k.0 i), r.0, k.1)

token_read : (w : Wants) (start : ℕ) (t : Text) (ss : List Spanned) (go : Wants → CertRead) (is : Items) → ((w : Wants) (js : Items) → go w ≡ Read js → Spells w (texts ss) js) →
    read_token w start t ss go ≡ Read is → Spells w (t ∷ texts ss) is
token_read AnItem start (Atom a) ss go is rec e = item_read start a ss go is rec (number_of a) refl e
token_read AnItem start Close ss go is rec e =
    let r = end_read ss is e in
    subst (λ is. Spells AnItem (Close ∷ texts ss) is) r.1 (ap (λ ts. Close ∷ ts) r.0 ∙ sym no_item, tt)
token_read LeftSteps start (Atom a) ss go is rec e = number_read start a ss go is rec Left (number_of a) refl e
token_read RightSteps start (Atom a) ss go is rec e = number_read start a ss go is rec Right (number_of a) refl e
token_read w start t ss go is rec e = wrong_read e

items_read : (len : ℕ) (w : Wants) (ss : List Spanned) (is : Items) → read_items len w ss ≡ Read is → Spells w (texts ss) is
unfolding read_items
items_read len w [] is e = wrong_read e
items_read len w (s ∷ ss) is e = token_read w s.start s.text ss (λ w. read_items len w ss) is (λ w js h. items_read len w ss js h) e

pub text_is : (t u : Text) → is_text t u ≡ true → t ≡ u
text_is Open Open e = refl
text_is (Atom a) (Atom b) e = ap Atom (same_bytes a b e)
text_is _ _ e = absurd (cc)

next_if : (t : Text) (s : Spanned) (r : CertRead) (is : Items) (b : Bool) → is_text s.text t ≡ b → (if b then r else WrongToken s.start) ≡ Read is → (s.text ≡ t) × (r ≡ Read is)
next_if t s r is true h e = (text_is s.text t h, e)
next_if t s r is false h e = wrong_read e

next_read : (t : Text) (len : ℕ) (ss : List Spanned) (go : List Spanned → CertRead) (is : Items) → read_next t len ss go ≡ Read is →
    (s : Spanned) × (more : List Spanned) × (ss ≡ s ∷ more) × (s.text ≡ t) × (go more ≡ Read is)
next_read t len [] go is e = wrong_read e
next_read t len (s ∷ ss) go is e = let r = next_if t s (go ss) is (is_text s.text t) refl e in (s, ss, refl, r.0, r.1)

pub certificate_read : (len : ℕ) (ss : List Spanned) (is : Items) → read_certificate len ss ≡ Read is → (texts ss ≡ cert_tokens is) × AreSmall is
certificate_read len ss is e =
    let k2 : List Spanned → CertRead = λ ss. read_items len AnItem ss in
    let k1 : List Spanned → CertRead = λ ss. read_next (Atom one_word) len ss k2 in
    let a = next_read Open len ss (λ ss. read_next (Atom cert_word) len ss k1) is e in
    let b = next_read (Atom cert_word) len a.1 k1 is a.4 in
    let c = next_read (Atom one_word) len b.1 k2 is b.4 in
    let d = items_read len AnItem c.1 is c.4 in
    (ap texts a.2 ∙ (λ i. a.3 i ∷ (ap texts b.2 ∙ (λ i. b.3 i ∷ (ap texts c.2 ∙ (λ i. c.3 i ∷ d.0 i)) i)) i), d.1)
