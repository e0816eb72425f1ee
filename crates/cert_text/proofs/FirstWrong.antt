-- A wrong token is the first that continues no text of a certificate: what was read before it is the beginning of one, and a text that began with
-- these tokens and it would be refused there too, whatever came behind.
use Rattle.std.proofs.Common.{◌≡◌, ◌∙◌, ℕ, ◌^◌, ◌<◌, Bool, true, false, if◌then◌else◌, List, [], ◌∷◌, ◌++◌, Option, Some, None, refl, sym, ap, subst, arith}
use Rattle.std.specs.Prelude.{nat_lt, bytes_eq}
use Rattle.sexp_reader.specs.Text.{Text, Open, Close, Atom, Stray}
use Rattle.sexp_reader.specs.Lex.{Spanned}
use Rattle.dump_grammar.specs.Numbers.{number_of}
use Rattle.dump_grammar.specs.Judge.{texts}
use Rattle.dump_printer.specs.CanonicalTerms.{numeral}
use Rattle.dump_printer.proofs.Decimals.{decimal-is}
use Rattle.cert_rules.specs.declared.item.CertItem.{CertItem}
use Rattle.cert_rules.specs.declared.item.CertItem.TheVariants.{Number, Same, Conv, Left, Right, Parts}
use Rattle.cert_rules.specs.Walk.{Items}
use Rattle.cert_text.specs.CertText.{cert_word, one_word, same_word, conv_word, left_word, right_word, parts_word, item_tokens, items_tokens, IsWithinU32, AreSmall}
use Rattle.cert_text.specs.CertReading.{CertRead, Read, WrongToken, TooGreat, Wants, AnItem, LeftSteps, RightSteps, with_item, read_number, read_word, read_item, read_token, read_items, is_text, read_next, read_certificate}
use Rattle.cert_text.specs.TextLaws.{Begins, FailsAt, WrongIsFirst}
use Rattle.cert_text.proofs.ReadTokens.{next_item, no_item, text_is, less_from}
use Rattle.cert_text.proofs.Taking.{small_number, word_same, word_conv, word_parts, word_side, read_left, read_right, no_side}
use Rattle.cert_text.proofs.PrintedTokens as printing
use Rattle.cert_text.proofs.PrintedTokens.{token_as}
use Rattle.dump_grammar.proofs.Words.{same_bytes}

with_item_wrong : (x : CertItem) (r : CertRead) (o : ℕ) → with_item x r ≡ WrongToken o → r ≡ WrongToken o
with_item_wrong x (Read is) o e = absurd (cc)
with_item_wrong x (WrongToken n) o e = e
with_item_wrong x (TooGreat n) o e = absurd (cc)

-- tokens of a text's beginning, by what is wanted from here on: these tokens, and then items
abbrev pub Opens : List Text → List Text → Type 0
Opens pre ts = (rest : List Text) × (is : Items) × AreSmall is × (ts ++ rest ≡ pre ++ items_tokens is)

abbrev pub Counts : List Text → Type 0
Counts ts = (rest : List Text) × (is : Items) × AreSmall is × (n : ℕ) × (n < 2 ^ 32) × (ts ++ rest ≡ numeral n ∷ items_tokens is)

abbrev pub GoesOn : Wants → List Text → Type 0
GoesOn AnItem ts = Opens [] ts
GoesOn LeftSteps ts = Counts ts
GoesOn RightSteps ts = Counts ts

-- nothing is read yet

nothing_opened : (pre : List Text) → Opens pre []
nothing_opened pre = (pre ++ items_tokens [], [], tt, refl)

nothing_counted : Counts []
nothing_counted = (numeral 0 ∷ items_tokens [], [], tt, 0, omega arith, refl)

nothing_read : (w : Wants) → GoesOn w []
nothing_read AnItem = nothing_opened []
nothing_read LeftSteps = nothing_counted
nothing_read RightSteps = nothing_counted

-- one token more

opened : (t : Text) (pre ts : List Text) → Opens pre ts → Opens (t ∷ pre) (t ∷ ts)
opened t pre ts g = (g.0, g.1, g.2, ap (λ r. t ∷ r) g.3)

item_read : (x : CertItem) (ts : List Text) (t : Text) → IsWithinU32 x → ((rest : List Text) → item_tokens x rest ≡ t ∷ rest) → Opens [] ts → Opens [] (t ∷ ts)
item_read x ts t small e g =
    let is = g.1 in
    (g.0, x ∷ is, (small, g.2), ap (λ r. t ∷ r) g.3 ∙ sym (e (items_tokens is)) ∙ sym (next_item x is))

side_read : (item : ℕ → CertItem) (word : List ℕ) (ts : List Text) → ((n : ℕ) → n < 2 ^ 32 → IsWithinU32 (item n)) → ((n : ℕ) (rest : List Text) → item_tokens (item n) rest ≡ Atom word ∷ numeral n ∷ rest) →
    Counts ts → Opens [] (Atom word ∷ ts)
side_read item word ts small e g =
    let is = g.1 in
    let n = g.3 in
    (g.0, item n ∷ is, (small n g.4, g.2), ap (λ r. Atom word ∷ r) g.5 ∙ sym (e n (items_tokens is)) ∙ sym (next_item (item n) is))

counted : (n : ℕ) (ts : List Text) → n < 2 ^ 32 → Opens [] ts → Counts (numeral n ∷ ts)
counted n ts h g = (g.0, g.1, g.2, n, h, ap (λ r. numeral n ∷ r) g.3)

-- where reading fails: behind tokens with which a text may go on, at the end or at the next token, whatever comes behind it
module _ (len o : ℕ) where
  abbrev pub Stops : (List Spanned → CertRead) → List Spanned → List Spanned → Type 0
  Stops read before [] = o ≡ len
  Stops read before (s ∷ ss) = (s.start ≡ o) × ((rest : List Spanned) → read (before ++ s ∷ rest) ≡ WrongToken o)

  abbrev pub Fails : (List Spanned → CertRead) → (List Text → Type 0) → List Spanned → Type 0
  Fails read P ss = (before : List Spanned) × (after : List Spanned) × (before ++ after ≡ ss) × P (texts before) × Stops read before after

  at_end : (read : List Spanned → CertRead) (P : List Text → Type 0) → P [] → WrongToken len ≡ WrongToken o → Fails read P []
  at_end read P h e = let f : o ≡ len = cc in ([], [], refl, h, f)

  -- the next token is wrong
  wrong_here : (read : List Spanned → CertRead) (P : List Text → Type 0) (s : Spanned) (ss : List Spanned) → P [] → ((rest : List Spanned) → read (s ∷ rest) ≡ WrongToken s.start) →
      read (s ∷ ss) ≡ WrongToken o → Fails read P (s ∷ ss)
  wrong_here read P s ss p h e =
      let q : WrongToken s.start ≡ WrongToken o = sym (h ss) ∙ e in
      let f : s.start ≡ o = cc in
      ([], s ∷ ss, refl, p, (f, λ rest. h rest ∙ ap WrongToken f))

  stops_later : (inner read : List Spanned → CertRead) (s : Spanned) (before after : List Spanned) → ((rest : List Spanned) → inner rest ≡ WrongToken o → read (s ∷ rest) ≡ WrongToken o) →
      Stops inner before after → Stops read (s ∷ before) after
  stops_later inner read s before [] k h = h
  stops_later inner read s before (x ∷ xs) k h = (h.0, λ rest. k (before ++ x ∷ rest) (h.1 rest))

  -- reading goes on behind the next token, and fails there
  later : (inner read : List Spanned → CertRead) (Q P : List Text → Type 0) (s : Spanned) (ss : List Spanned) → ((rest : List Spanned) → inner rest ≡ WrongToken o → read (s ∷ rest) ≡ WrongToken o) →
      ((ts : List Text) → Q ts → P (s.text ∷ ts)) → Fails inner Q ss → Fails read P (s ∷ ss)
  later inner read Q P s ss k g f =
      let before = f.0 in
      let after = f.1 in
      (s ∷ before, after, ap (λ xs. s ∷ xs) f.2, g (texts before) f.3, stops_later inner read s before after k f.4)

  -- a token that must come next

  next_if : (t : Text) (pre : List Text) (go : List Spanned → CertRead) (s : Spanned) (ss : List Spanned) (b : Bool) → is_text s.text t ≡ b →
      read_next t len (s ∷ ss) go ≡ WrongToken o → (go ss ≡ WrongToken o → Fails go (Opens pre) ss) → Fails (λ ss. read_next t len ss go) (Opens (t ∷ pre)) (s ∷ ss)
  next_if t pre go s ss true h e rec =
      let at : (rest : List Spanned) → read_next t len (s ∷ rest) go ≡ go rest = λ rest. ap (λ b. if b then go rest else WrongToken s.start) h in
      later go (λ ss. read_next t len ss go) (Opens pre) (Opens (t ∷ pre)) s ss (λ rest k. at rest ∙ k)
      (λ ts g. subst (λ u. Opens (t ∷ pre) (u ∷ ts)) (sym (text_is s.text t h)) (opened t pre ts g)) (rec (sym (at ss) ∙ e))
  next_if t pre go s ss false h e rec =
      wrong_here (λ ss. read_next t len ss go) (Opens (t ∷ pre)) s ss (nothing_opened (t ∷ pre)) (λ rest. ap (λ b. if b then go rest else WrongToken s.start) h) e

  next_fails : (t : Text) (pre : List Text) (go : List Spanned → CertRead) (ss : List Spanned) → ((more : List Spanned) → go more ≡ WrongToken o → Fails go (Opens pre) more) →
      read_next t len ss go ≡ WrongToken o → Fails (λ ss. read_next t len ss go) (Opens (t ∷ pre)) ss
  next_fails t pre go [] rec e = at_end (λ ss. read_next t len ss go) (Opens (t ∷ pre)) (nothing_opened (t ∷ pre)) e
  next_fails t pre go (s ∷ ss) rec e = next_if t pre go s ss (is_text s.text t) refl e (rec ss)

  -- items

  abbrev pub ItemsFail : Wants → List Spanned → Type 0
  ItemsFail w ss = Fails (λ ss. read_items len w ss) (GoesOn w) ss

  module _ (s : Spanned) (ss : List Spanned) (rec : (v : Wants) → read_items len v ss ≡ WrongToken o → ItemsFail v ss) where
    -- a token that is wrong whatever comes behind
    wrong_token : (w : Wants) (t : Text) → s.text ≡ t → ((rest : List Spanned) (go : Wants → CertRead) → read_token w s.start t rest go ≡ WrongToken s.start) →
        read_items len w (s ∷ ss) ≡ WrongToken o → ItemsFail w (s ∷ ss)
    wrong_token w t h k e =
        wrong_here (λ ss. read_items len w ss) (GoesOn w) s ss (nothing_read w) (λ rest. token_as len w s rest t h ∙ k rest (λ w. read_items len w rest)) e

    -- the bracket that closes
    end_fails : (xs : List Spanned) → s.text ≡ Close → read_items len AnItem (s ∷ xs) ≡ WrongToken o → ItemsFail AnItem (s ∷ xs)
    end_fails [] h e = let f : Read [] ≡ WrongToken o = sym (token_as len AnItem s [] Close h) ∙ e in absurd (cc)
    end_fails (x ∷ xs) h e =
        let q : WrongToken x.start ≡ WrongToken o = sym (token_as len AnItem s (x ∷ xs) Close h) ∙ e in
        let f : x.start ≡ o = cc in
        (s ∷ [], x ∷ xs, refl, ([], [], tt, ap (λ t. t ∷ []) h ∙ sym no_item), (f, λ rest. token_as len AnItem s (x ∷ rest) Close h ∙ ap WrongToken f))

    module _ (a : List ℕ) (h : s.text ≡ Atom a) where
      -- an item of one token
      goes_item : (x : CertItem) → IsWithinU32 x → ((rest : List Text) → item_tokens x rest ≡ Atom a ∷ rest) →
          ((rest : List Spanned) → read_items len AnItem (s ∷ rest) ≡ with_item x (read_items len AnItem rest)) → read_items len AnItem (s ∷ ss) ≡ WrongToken o → ItemsFail AnItem (s ∷ ss)
      goes_item x small t k e =
          later (λ ss. read_items len AnItem ss) (λ ss. read_items len AnItem ss) (Opens []) (Opens []) s ss (λ rest q. k rest ∙ ap (with_item x) q)
          (λ ts g. subst (λ u. Opens [] (u ∷ ts)) (sym h) (item_read x ts (Atom a) small t g)) (rec AnItem (with_item_wrong x _ o (sym (k ss) ∙ e)))

      -- the word of a side
      goes_side : (v : Wants) (item : ℕ → CertItem) (word : List ℕ) → bytes_eq a word ≡ true → ((ts : List Text) → GoesOn v ts → Opens [] (Atom word ∷ ts)) →
          ((rest : List Spanned) → read_items len AnItem (s ∷ rest) ≡ read_items len v rest) → read_items len AnItem (s ∷ ss) ≡ WrongToken o → ItemsFail AnItem (s ∷ ss)
      goes_side v item word b g k e =
          later (λ ss. read_items len v ss) (λ ss. read_items len AnItem ss) (GoesOn v) (Opens []) s ss (λ rest q. k rest ∙ q)
          (λ ts q. subst (λ u. Opens [] (u ∷ ts)) (ap Atom (sym (same_bytes a word b)) ∙ sym h) (g ts q)) (rec v (sym (k ss) ∙ e))

      -- a word
      module _ (none : number_of a ≡ None) where
        at_word : (rest : List Spanned) → read_items len AnItem (s ∷ rest) ≡ read_word s.start a (λ w. read_items len w rest)
        at_word rest = token_as len AnItem s rest (Atom a) h ∙ ap (λ n. read_item s.start a n (λ w. read_items len w rest)) none

        word_is : (word : List ℕ) → bytes_eq a word ≡ true → (rest : List Text) → Atom word ∷ rest ≡ Atom a ∷ rest
        word_is word b rest = ap (λ x. Atom x ∷ rest) (sym (same_bytes a word b))

        word_fails : (b1 b2 b3 b4 b5 : Bool) → bytes_eq a same_word ≡ b1 → bytes_eq a conv_word ≡ b2 → bytes_eq a parts_word ≡ b3 → bytes_eq a left_word ≡ b4 → bytes_eq a right_word ≡ b5 →
            read_items len AnItem (s ∷ ss) ≡ WrongToken o → ItemsFail AnItem (s ∷ ss)
        word_fails true b2 b3 b4 b5 h1 h2 h3 h4 h5 e = goes_item Same tt (word_is same_word h1) (λ rest. at_word rest ∙ word_same s.start a (λ w. read_items len w rest) h1) e
        word_fails false true b3 b4 b5 h1 h2 h3 h4 h5 e = goes_item Conv tt (word_is conv_word h2) (λ rest. at_word rest ∙ word_conv s.start a (λ w. read_items len w rest) h1 h2) e
        word_fails false false true b4 b5 h1 h2 h3 h4 h5 e = goes_item Parts tt (word_is parts_word h3) (λ rest. at_word rest ∙ word_parts s.start a (λ w. read_items len w rest) h1 h2 h3) e
        word_fails false false false true b5 h1 h2 h3 h4 h5 e =
            goes_side LeftSteps Left left_word h4 (λ ts g. side_read Left left_word ts (λ n k. k) (λ n rest. refl) g)
            (λ rest. at_word rest ∙ word_side s.start a (λ w. read_items len w rest) h1 h2 h3 ∙ read_left s.start a (λ w. read_items len w rest) h4) e
        word_fails false false false false true h1 h2 h3 h4 h5 e =
            goes_side RightSteps Right right_word h5 (λ ts g. side_read Right right_word ts (λ n k. k) (λ n rest. refl) g)
            (λ rest. at_word rest ∙ word_side s.start a (λ w. read_items len w rest) h1 h2 h3 ∙ read_right s.start a (λ w. read_items len w rest) h4 h5) e
        word_fails false false false false false h1 h2 h3 h4 h5 e =
            wrong_here (λ ss. read_items len AnItem ss) (Opens []) s ss (nothing_opened []) (λ rest. at_word rest ∙ word_side s.start a (λ w. read_items len w rest) h1 h2 h3 ∙ no_side s.start a (λ w. read_items len w rest) h4 h5) e

      -- a number
      module _ (n : ℕ) (some : number_of a ≡ Some n) where
        numeral_is : n < 2 ^ 32 → (rest : List Text) → numeral n ∷ rest ≡ Atom a ∷ rest
        numeral_is k rest = ap (λ x. Atom x ∷ rest) (decimal-is a n (omega arith) some)

        item_number : (b : Bool) → nat_lt n (2 ^ 32) ≡ b → read_items len AnItem (s ∷ ss) ≡ WrongToken o → ItemsFail AnItem (s ∷ ss)
        item_number true l e =
            let k = less_from n (2 ^ 32) l in
            goes_item (Number n) k (numeral_is k)
            (λ rest. token_as len AnItem s rest (Atom a) h ∙ ap (λ m. read_item s.start a m (λ w. read_items len w rest)) some ∙ small_number s.start Number n _ k) e
        item_number false l e =
            let f : TooGreat s.start ≡ WrongToken o =
            sym (token_as len AnItem s ss (Atom a) h ∙ ap (λ m. read_item s.start a m (λ w. read_items len w ss)) some ∙ ap (λ b. if b then with_item (Number n) (read_items len AnItem ss) else TooGreat s.start) l) ∙ e in
            absurd (cc)

      -- the number of a side
      module _ (w : Wants) (item : ℕ → CertItem) (numbers : (rest : List Spanned) (go : Wants → CertRead) → read_token w s.start (Atom a) rest go ≡ read_number s.start item (number_of a) (go AnItem))
          (none : (ts : List Text) → Counts ts → GoesOn w ts) where
        at_number : (m : Option ℕ) → number_of a ≡ m → (rest : List Spanned) → read_items len w (s ∷ rest) ≡ read_number s.start item m (read_items len AnItem rest)
        at_number m q rest = token_as len w s rest (Atom a) h ∙ numbers rest (λ w. read_items len w rest) ∙ ap (λ m. read_number s.start item m (read_items len AnItem rest)) q

        side_number : (n : ℕ) → number_of a ≡ Some n → (b : Bool) → nat_lt n (2 ^ 32) ≡ b → read_items len w (s ∷ ss) ≡ WrongToken o → ItemsFail w (s ∷ ss)
        side_number n some true l e =
            let k = less_from n (2 ^ 32) l in
            let at : (rest : List Spanned) → read_items len w (s ∷ rest) ≡ with_item (item n) (read_items len AnItem rest) =
            λ rest. at_number (Some n) some rest ∙ small_number s.start item n _ k in
            later (λ ss. read_items len AnItem ss) (λ ss. read_items len w ss) (Opens []) (GoesOn w) s ss (λ rest q. at rest ∙ ap (with_item (item n)) q)
            (λ ts g. none (s.text ∷ ts) (subst (λ u. Counts (u ∷ ts)) (ap Atom (decimal-is a n (omega arith) some) ∙ sym h) (counted n ts k g)))
            (rec AnItem (with_item_wrong (item n) _ o (sym (at ss) ∙ e)))
        side_number n some false l e =
            let f : TooGreat s.start ≡ WrongToken o =
            sym (at_number (Some n) some ss ∙ ap (λ b. if b then with_item (item n) (read_items len AnItem ss) else TooGreat s.start) l) ∙ e in
            absurd (cc)

        side_fails : (m : Option ℕ) → number_of a ≡ m → GoesOn w [] → read_items len w (s ∷ ss) ≡ WrongToken o → ItemsFail w (s ∷ ss)
        side_fails None q p e = wrong_here (λ ss. read_items len w ss) (GoesOn w) s ss p (λ rest. at_number None q rest) e
        side_fails (Some n) q p e = side_number n q (nat_lt n (2 ^ 32)) refl e

      item_fails : (m : Option ℕ) → number_of a ≡ m → read_items len AnItem (s ∷ ss) ≡ WrongToken o → ItemsFail AnItem (s ∷ ss)
      item_fails None q e = word_fails q _ _ _ _ _ refl refl refl refl refl e
      item_fails (Some n) q e = item_number n q (nat_lt n (2 ^ 32)) refl e

    token_fails : (w : Wants) (t : Text) → s.text ≡ t → read_items len w (s ∷ ss) ≡ WrongToken o → ItemsFail w (s ∷ ss)
    token_fails AnItem Open h e = wrong_token AnItem Open h (λ rest go. refl) e
    token_fails AnItem Close h e = end_fails ss h e
    token_fails AnItem (Atom a) h e = item_fails a h (number_of a) refl e
    token_fails AnItem Stray h e = wrong_token AnItem Stray h (λ rest go. refl) e
    token_fails LeftSteps Open h e = wrong_token LeftSteps Open h (λ rest go. refl) e
    token_fails LeftSteps Close h e = wrong_token LeftSteps Close h (λ rest go. refl) e
    token_fails LeftSteps (Atom a) h e = side_fails a h LeftSteps Left (λ rest go. refl) (λ ts g. g) (number_of a) refl nothing_counted e
    token_fails LeftSteps Stray h e = wrong_token LeftSteps Stray h (λ rest go. refl) e
    token_fails RightSteps Open h e = wrong_token RightSteps Open h (λ rest go. refl) e
    token_fails RightSteps Close h e = wrong_token RightSteps Close h (λ rest go. refl) e
    token_fails RightSteps (Atom a) h e = side_fails a h RightSteps Right (λ rest go. refl) (λ ts g. g) (number_of a) refl nothing_counted e
    token_fails RightSteps Stray h e = wrong_token RightSteps Stray h (λ rest go. refl) e

  items_fail : (w : Wants) (ss : List Spanned) → read_items len w ss ≡ WrongToken o → ItemsFail w ss
  unfolding read_items
  items_fail w [] e = at_end (λ ss. read_items len w ss) (GoesOn w) (nothing_read w) e
  items_fail w (s ∷ ss) e = token_fails s ss (λ v q. items_fail v ss q) w s.text refl e

  certificate_fails : (ss : List Spanned) → read_certificate len ss ≡ WrongToken o → Fails (read_certificate len) (Opens (Open ∷ Atom cert_word ∷ Atom one_word ∷ [])) ss
  certificate_fails ss e =
      let k2 : List Spanned → CertRead = λ ss. read_items len AnItem ss in
      let k1 : List Spanned → CertRead = λ ss. read_next (Atom one_word) len ss k2 in
      let k0 : List Spanned → CertRead = λ ss. read_next (Atom cert_word) len ss k1 in
      next_fails Open (Atom cert_word ∷ Atom one_word ∷ []) k0 ss
      (λ more f. next_fails (Atom cert_word) (Atom one_word ∷ []) k1 more (λ more f. next_fails (Atom one_word) [] k2 more (λ more f. items_fail AnItem more f) f) f) e

-- a text that began so would be read

abbrev pub spanned_of : List Text → List Spanned
spanned_of [] = []
spanned_of (t ∷ ts) = record { start = 0; text = t } ∷ spanned_of ts

texts_of : (ts : List Text) → texts (spanned_of ts) ≡ ts
texts_of [] = refl
texts_of (t ∷ ts) = ap (λ r. t ∷ r) (texts_of ts)

texts_split : (before : List Spanned) (s : Spanned) (ts : List Text) → texts (before ++ s ∷ spanned_of ts) ≡ (texts before ++ s.text ∷ []) ++ ts
texts_split [] s ts = ap (λ r. s.text ∷ r) (texts_of ts)
texts_split (b ∷ before) s ts = ap (λ r. b.text ∷ r) (texts_split before s ts)

never_goes_on : (len o : ℕ) (before : List Spanned) (s : Spanned) → ((rest : List Spanned) → read_certificate len (before ++ s ∷ rest) ≡ WrongToken o) → Begins (texts before ++ s.text ∷ []) → ⊥
never_goes_on len o before s h b =
    let is = b.0 in
    let read = printing.certificate_read len (before ++ s ∷ spanned_of b.1) is (texts_split before s b.1 ∙ b.3) b.2 in
    let f : WrongToken o ≡ Read is = sym (h (spanned_of b.1)) ∙ read in
    absurd (cc)

fails_at : (len o : ℕ) (before after : List Spanned) → Stops len o (read_certificate len) before after → FailsAt len o (texts before) after
fails_at len o before [] h = h
fails_at len o before (s ∷ ss) h = (h.0, never_goes_on len o before s h.1)

pub wrong_is_first : WrongIsFirst
wrong_is_first len ss o e =
    let f = certificate_fails len o ss e in
    let before = f.0 in
    let after = f.1 in
    (before, after, f.2, (f.3.1, f.3.0, f.3.2, f.3.3), fails_at len o before after f.4)
