-- Items of one byte, and those of a side with a number of one, behind one space and before one.
use Rattle.std.proofs.Common.{◌≡◌, ◌∙◌, sym, ap, refl, subst, ℕ, suc, ◌+◌, ◌-◌, ◌^◌, ◌<◌, ◌≤◌, true, false, if◌then◌else◌, List, [], ◌∷◌, length, get_or, take, drop, Some, None, arith}
use Rattle.std.proofs.lemmas.Bool.{le-leb, and_from}
use Rattle.sexp_reader.specs.Text.{Atom}
use Rattle.sexp_reader.specs.Lex.{is_blank, is_atom_byte, atom_len, left}
use Rattle.sexp_reader.proofs.Steps.{front, lex-blank, lex-atom, atom_len-more, atom_len-none}
use Rattle.dump_grammar.specs.Numbers.{digits_from, number_of}
use Rattle.cert_rules.specs.declared.item.CertItem.{CertItem}
use Rattle.cert_rules.specs.declared.item.CertItem.TheVariants.{Number, Same, Conv, Left, Right, Parts}
use Rattle.cert_text.specs.CertReading.{AnItem, LeftSteps, RightSteps, with_item, read_number, read_item, read_items}
use Rattle.cert_text.specs.Answering.{behind, IsOfByte, IsSideOfByte}
use Rattle.cert_text.proofs.Taking.{small_number}

-- what a byte is

pub digit_number : (b : ℕ) → 48 ≤ b → b ≤ 57 → number_of (b ∷ []) ≡ Some (b - 48)
unfolding number_of
digit_number b l h =
    let z : 0 + (b - 48) ≡ b - 48 = omega arith in
    ap (λ t. if t then digits_from (0 + (b - 48)) [] else None) (and_from _ _ (le-leb 48 b l) (le-leb b 57 h)) ∙ ap (λ n. Some n) z

pub number_byte : (b n : ℕ) → n < 2 ^ 32 → number_of (b ∷ []) ≡ Some n → IsOfByte b (Number n)
number_byte b n k h start go = ap (λ o. read_item start (b ∷ []) o go) h ∙ small_number start Number n (go AnItem) k

pub same_byte : IsOfByte 115 Same
unfolding number_of
same_byte start go = refl

pub conv_byte : IsOfByte 99 Conv
unfolding number_of
conv_byte start go = refl

pub parts_byte : IsOfByte 107 Parts
unfolding number_of
parts_byte start go = refl

pub left_byte : (n : ℕ) → n < 2 ^ 32 → IsSideOfByte 108 n (Left n)
unfolding number_of
left_byte n k = (LeftSteps, λ start go. refl, λ start a ss go e. ap (λ o. read_number start Left o (go AnItem)) e ∙ small_number start Left n (go AnItem) k)

pub right_byte : (n : ℕ) → n < 2 ^ 32 → IsSideOfByte 114 n (Right n)
unfolding number_of
right_byte n k = (RightSteps, λ start go. refl, λ start a ss go e. ap (λ o. read_number start Right o (go AnItem)) e ∙ small_number start Right n (go AnItem) k)

space_ends : (b : ℕ) → b ≡ 32 → is_atom_byte b ≡ false
space_ends b e = ap (λ b. is_atom_byte b) e

module _ (bytes : List ℕ) (at : ℕ) (within : at + 2 < length bytes) where
  abbrev byte : ℕ
  byte = get_or bytes (at + 1) 0

  module _ (here : is_atom_byte byte ≡ true) (space : get_or bytes (at + 2) 0 ≡ 32) where
    one_byte : atom_len (drop (at + 1) bytes) ≡ 1
    one_byte =
        let two : at + 2 ≡ at + 1 + 1 = omega arith in
        atom_len-more bytes (at + 1) (omega arith) here ∙ ap (λ n. suc (atom_len (drop n bytes))) (sym two) ∙ ap suc (atom_len-none bytes (at + 2) within (space_ends _ space))

    its_text : take (atom_len (drop (at + 1) bytes)) (drop (at + 1) bytes) ≡ byte ∷ []
    its_text = ap (λ n. take n (drop (at + 1) bytes)) one_byte ∙ ap (take 1) (front bytes (at + 1) (omega arith))

    -- the token behind a space
    behind_space : get_or bytes at 0 ≡ 32 → left at bytes ≡ record { start = at + 1; text = Atom (byte ∷ []) } ∷ left (at + 2) bytes
    behind_space e =
        let two : at + 1 + 1 ≡ at + 2 = omega arith in
        let blank : is_blank (get_or bytes at 0) ≡ true = ap (λ b. is_blank b) e in
        lex-blank bytes at false false (omega arith) refl (λ f. absurd (omega (arith, e, f))) blank refl ∙ lex-atom bytes (at + 1) (omega arith) here
        ∙ (λ i. record { start = at + 1; text = Atom (its_text i) } ∷ left (at + 1 + one_byte i) bytes)
        ∙ ap (λ n. record { start = at + 1; text = Atom (byte ∷ []) } ∷ left n bytes) two

    pub short_taken : get_or bytes at 0 ≡ 32 → (x : CertItem) → IsOfByte byte x → behind bytes at AnItem ≡ with_item x (behind bytes (at + 2) AnItem)
    unfolding read_items
    short_taken e x h = ap (λ ss. read_items (length bytes) AnItem ss) (behind_space e) ∙ h (at + 1) (behind bytes (at + 2))

-- the same, by the offsets of the byte and of the space behind it
token_at : (bytes : List ℕ) (at one two : ℕ) → at + 1 ≡ one → at + 2 ≡ two → two < length bytes → is_atom_byte (get_or bytes one 0) ≡ true → get_or bytes two 0 ≡ 32 → get_or bytes at 0 ≡ 32 →
    left at bytes ≡ record { start = one; text = Atom (get_or bytes one 0 ∷ []) } ∷ left two bytes
token_at bytes at one two e f =
    subst (λ two. two < length bytes → is_atom_byte (get_or bytes one 0) ≡ true → get_or bytes two 0 ≡ 32 → get_or bytes at 0 ≡ 32 →
    left at bytes ≡ record { start = one; text = Atom (get_or bytes one 0 ∷ []) } ∷ left two bytes) f
    (subst (λ one. at + 2 < length bytes → is_atom_byte (get_or bytes one 0) ≡ true → get_or bytes (at + 2) 0 ≡ 32 → get_or bytes at 0 ≡ 32 →
    left at bytes ≡ record { start = one; text = Atom (get_or bytes one 0 ∷ []) } ∷ left (at + 2) bytes) e (behind_space bytes at))

-- a side's word and its number, each before a space
pub side_taken : (bytes : List ℕ) (at : ℕ) → at + 4 < length bytes → get_or bytes at 0 ≡ 32 → get_or bytes (at + 2) 0 ≡ 32 → get_or bytes (at + 4) 0 ≡ 32 →
    is_atom_byte (get_or bytes (at + 1) 0) ≡ true → is_atom_byte (get_or bytes (at + 3) 0) ≡ true →
    (n : ℕ) → number_of (get_or bytes (at + 3) 0 ∷ []) ≡ Some n → (x : CertItem) → IsSideOfByte (get_or bytes (at + 1) 0) n x →
    behind bytes at AnItem ≡ with_item x (behind bytes (at + 4) AnItem)
unfolding read_items
side_taken bytes at within first second third here number n is x h =
    ap (λ ss. read_items (length bytes) AnItem ss) (token_at bytes at (at + 1) (at + 2) refl refl (omega arith) here second first)
    ∙ h.1 (at + 1) (behind bytes (at + 2))
    ∙ ap (λ ss. read_items (length bytes) h.0 ss) (token_at bytes (at + 2) (at + 3) (at + 4) (omega arith) (omega arith) within number third second)
    ∙ h.2 (at + 3) (get_or bytes (at + 3) 0 ∷ []) (left (at + 4) bytes) (behind bytes (at + 4)) is
