-- Items that were read, before those that are still to come.
use Rattle.std.proofs.Common.{◌≡◌, ◌∙◌, ap, refl, ℕ, Err, List, [], ◌∷◌, ◌++◌}
use Rattle.cert_rules.specs.declared.item.CertItem.{CertItem}
use Rattle.cert_rules.specs.Walk.{Items}
use Rattle.cert_text.specs.declared.refusal.CertText.{CertText}
use Rattle.cert_text.specs.declared.refusal.CertText.TheVariants as refusals
use Rattle.sexp_reader.specs.Text.{Atom}
use Rattle.sexp_reader.specs.Lex.{Spanned}
use Rattle.cert_text.specs.CertText.{cert_word, one_word}
use Rattle.cert_text.specs.CertReading.{CertRead, Read, WrongToken, TooGreat, AnItem, with_item, read_items, read_next}
use Rattle.cert_text.specs.Answering.{Refuses, AnswersText, with_items}

pub items_last : (is : Items) (x : CertItem) (r : CertRead) → with_items (is ++ x ∷ []) r ≡ with_items is (with_item x r)
items_last [] x r = refl
items_last (y ∷ is) x r = ap (λ r. with_item y r) (items_last is x r)

pub items_end : (is : Items) → with_items is (Read []) ≡ Read is
items_end [] = refl
items_end (x ∷ is) = ap (λ r. with_item x r) (items_end is)

items_wrong : (is : Items) (o : ℕ) → with_items is (WrongToken o) ≡ WrongToken o
items_wrong [] o = refl
items_wrong (x ∷ is) o = ap (λ r. with_item x r) (items_wrong is o)

items_great : (is : Items) (o : ℕ) → with_items is (TooGreat o) ≡ TooGreat o
items_great [] o = refl
items_great (x ∷ is) o = ap (λ r. with_item x r) (items_great is o)

-- a refusal behind items that were read
pub items_refused : (is : Items) (whole rest : CertRead) (e : CertText) → whole ≡ with_items is rest → Refuses rest e → AnswersText whole (Err e)
items_refused is whole rest (refusals.Syntax o) p h = p ∙ ap (λ r. with_items is r) h ∙ items_wrong is o
items_refused is whole rest (refusals.Number o) p h = p ∙ ap (λ r. with_items is r) h ∙ items_great is o
items_refused is whole rest refusals.Memory p h = absurd h

-- a refusal before any item
pub refused : (r : CertRead) (e : CertText) → Refuses r e → AnswersText r (Err e)
refused r (refusals.Syntax o) h = h
refused r (refusals.Number o) h = h
refused r refusals.Memory h = absurd h

-- what is read behind the bracket that opens, the word and the version

abbrev pub behind_open : ℕ → List Spanned → CertRead
behind_open len ss = read_next (Atom cert_word) len ss (λ ss. read_next (Atom one_word) len ss (λ ss. read_items len AnItem ss))

abbrev pub behind_word : ℕ → List Spanned → CertRead
behind_word len ss = read_next (Atom one_word) len ss (λ ss. read_items len AnItem ss)

abbrev pub behind_version : ℕ → List Spanned → CertRead
behind_version len ss = read_items len AnItem ss
