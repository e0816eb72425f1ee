-- Tokens that are laid out before other parts of a text: how they are read, and where the front of the text ends.
use Rattle.std.proofs.Common.{◌≡◌, ◌∙◌, ℕ, zero, suc, ◌+◌, ◌-◌, ◌<◌, ◌≤◌, List, [], ◌∷◌, ◌++◌, length, Bool, true, false, inl, inr, refl, sym, ap, arith, append_assoc}
use Rattle.std.proofs.lemmas.Bool.{le-leb}
use Rattle.std.proofs.lemmas.List.{length-append}
use Rattle.sexp_reader.specs.Text.{Text, Open, Close, Atom, Stray}
use Rattle.sexp_reader.specs.Lex.{Spanned, answer_at, nesting_after_text, token}
use Rattle.sexp_reader.specs.declared.TokenKind.{TokenKind}
use Rattle.sexp_reader.specs.declared.TokenKind.TheVariants as kinds
use Rattle.sexp_reader.specs.Tokenization.{Layout, BlankThen, OpenThen, CloseThen, AtomThen, BeginsNoAtom, IsLayout, bytes_of, spans_of}
use Rattle.dump_grammar.specs.Judge.{texts}
use Rattle.dump_reader.specs.Front.{end_behind, front_end}
use Rattle.dump_printer.specs.Layout.{laid}
use Rattle.dump_printer.specs.Nesting.{deepest}
use Rattle.dump_printer.proofs.Good.{IsGood, AreGood, good-parts, good-length}
use Rattle.dump_printer.proofs.Heights.{deepest-le}
use Rattle.certified_texts.proofs.Closing.{Ends}

-- ---- tokens with one space between two of them, and then the rest of the text

abbrev pub laid_then : (tight : Bool) → List Text → Layout → Layout
laid_then tight [] l = l
laid_then true (Open ∷ ts) l = OpenThen (laid_then true ts l)
laid_then false (Open ∷ ts) l = BlankThen 32 (OpenThen (laid_then true ts l))
laid_then tight (Close ∷ ts) l = CloseThen (laid_then false ts l)
laid_then true (Atom a ∷ ts) l = AtomThen a (laid_then false ts l)
laid_then false (Atom a ∷ ts) l = BlankThen 32 (AtomThen a (laid_then false ts l))
laid_then tight (Stray ∷ ts) l = laid_then tight ts l

pub then_bytes : (tight : Bool) (ts : List Text) (l : Layout) → bytes_of (laid_then tight ts l) ≡ laid tight ts ++ bytes_of l
unfolding laid
then_bytes true [] l = refl
then_bytes false [] l = refl
then_bytes true (Open ∷ ts) l = ap (λ (w : List ℕ). 40 ∷ w) (then_bytes true ts l)
then_bytes false (Open ∷ ts) l = ap (λ (w : List ℕ). 32 ∷ 40 ∷ w) (then_bytes true ts l)
then_bytes true (Close ∷ ts) l = ap (λ (w : List ℕ). 41 ∷ w) (then_bytes false ts l)
then_bytes false (Close ∷ ts) l = ap (λ (w : List ℕ). 41 ∷ w) (then_bytes false ts l)
then_bytes true (Atom a ∷ ts) l = ap (λ (w : List ℕ). a ++ w) (then_bytes false ts l) ∙ sym (append_assoc a (laid false ts) (bytes_of l))
then_bytes false (Atom a ∷ ts) l = ap (λ (w : List ℕ). 32 ∷ w) (ap (λ (w : List ℕ). a ++ w) (then_bytes false ts l) ∙ sym (append_assoc a (laid false ts) (bytes_of l)))
then_bytes true (Stray ∷ ts) l = then_bytes true ts l
then_bytes false (Stray ∷ ts) l = then_bytes false ts l

begins_none : (ts : List Text) (l : Layout) → AreGood ts → BeginsNoAtom l → BeginsNoAtom (laid_then false ts l)
begins_none [] l h n = n
begins_none (Open ∷ ts) l h n = tt
begins_none (Close ∷ ts) l h n = tt
begins_none (Atom a ∷ ts) l h n = tt
begins_none (Stray ∷ ts) l h n = elim h.0 [ ]

pub then_is : (tight : Bool) (ts : List Text) (l : Layout) → AreGood ts → BeginsNoAtom l → IsLayout l → IsLayout (laid_then tight ts l)
then_is true [] l h n i = i
then_is false [] l h n i = i
then_is true (Open ∷ ts) l h n i = then_is true ts l h.1 n i
then_is false (Open ∷ ts) l h n i = (refl, then_is true ts l h.1 n i)
then_is true (Close ∷ ts) l h n i = then_is false ts l h.1 n i
then_is false (Close ∷ ts) l h n i = then_is false ts l h.1 n i
then_is true (Atom a ∷ ts) l h n i = (let x = good-parts a h.0 in (x.0, x.1, begins_none ts l h.1 n, then_is false ts l h.1 n i))
then_is false (Atom a ∷ ts) l h n i = (let x = good-parts a h.0 in (refl, (x.0, x.1, begins_none ts l h.1 n, then_is false ts l h.1 n i)))
then_is tight (Stray ∷ ts) l h n i = elim h.0 [ ]

-- where the rest has no token
pub then_texts : (tight : Bool) (ts : List Text) (l : Layout) → ((m : ℕ) → texts (spans_of m l) ≡ []) → (n : ℕ) → AreGood ts → texts (spans_of n (laid_then tight ts l)) ≡ ts
then_texts true [] l none n h = none n
then_texts false [] l none n h = none n
then_texts true (Open ∷ ts) l none n h = ap (λ (us : List Text). Open ∷ us) (then_texts true ts l none (n + 1) h.1)
then_texts false (Open ∷ ts) l none n h = ap (λ (us : List Text). Open ∷ us) (then_texts true ts l none (n + 1 + 1) h.1)
then_texts true (Close ∷ ts) l none n h = ap (λ (us : List Text). Close ∷ us) (then_texts false ts l none (n + 1) h.1)
then_texts false (Close ∷ ts) l none n h = ap (λ (us : List Text). Close ∷ us) (then_texts false ts l none (n + 1) h.1)
then_texts true (Atom a ∷ ts) l none n h = ap (λ (us : List Text). Atom a ∷ us) (then_texts false ts l none (n + length a) h.1)
then_texts false (Atom a ∷ ts) l none n h = ap (λ (us : List Text). Atom a ∷ us) (then_texts false ts l none (n + 1 + length a) h.1)
then_texts tight (Stray ∷ ts) l none n h = elim h.0 [ ]

-- ---- the front

-- the bytes of a token
abbrev size : Text → ℕ
size (Atom a) = length a
size _ = 1

passes : (d m : ℕ) (t : Text) → IsGood t → nesting_after_text d t ≤ 1000 → (k : TokenKind) × (answer_at d m t ≡ token k m (m + size t))
passes d m Open g w = (kinds.Open, rw (le-leb (suc d) 1000 (omega (arith, w))) refl)
passes d m Close g w = (kinds.Close, refl)
passes d m (Atom a) g w = (kinds.Atom, rw (le-leb (length a) 255 (good-length a g)) refl)
passes d m Stray g w = elim g [ ]

behind_last : (len : ℕ) (k : TokenKind) (m e b later : ℕ) → b ≡ 0 → end_behind len (token k m e) b later ≡ e
behind_last len k m e zero later h = refl
behind_last len k m e (suc b) later h = absurd (omega (arith, h))

behind_other : (len : ℕ) (k : TokenKind) (m e b later : ℕ) → 0 < b → end_behind len (token k m e) b later ≡ later
behind_other len k m e zero later h = absurd (omega (arith, h))
behind_other len k m e (suc b) later h = refl

deep_parts : (d : ℕ) (t : Text) (ts : List Text) → deepest d (t ∷ ts) ≤ 1000 → deepest (nesting_after_text d t) ts ≤ 1000
unfolding deepest
deep_parts d t ts h = omega (arith, h)

nothing_laid : (tight : Bool) (ts : List Text) → ts ≡ [] → length (laid tight ts) ≡ 0
unfolding laid
nothing_laid tight [] e = refl
nothing_laid tight (t ∷ ts) e = absurd cc

-- one token: where it closes the last bracket the front ends behind it, and else where the tokens after it say
a_token : (len d m : ℕ) (t : Text) (tight : Bool) (ts : List Text) (R : List Spanned) → IsGood t → Ends d (t ∷ ts) → deepest d (t ∷ ts) ≤ 1000 →
    (Ends (nesting_after_text d t) ts → deepest (nesting_after_text d t) ts ≤ 1000 → front_end len (nesting_after_text d t) R ≡ m + size t + length (laid tight ts)) →
    front_end len d (record { start = m; text = t } ∷ R) ≡ m + size t + length (laid tight ts)
unfolding front_end Ends
a_token len d m t tight ts R g e w go =
    let b = nesting_after_text d t in
    let later = front_end len b R in
    let within = deep_parts d t ts w in
    let p = passes d m t g (omega (arith, within, deepest-le b ts)) in
    ap (λ x. end_behind len x b later) p.1
    ∙ elim e [
      | inl (none, last) ↦ behind_last len p.0 m (m + size t) b later none ∙ (let q = nothing_laid tight ts last in let r : m + size t ≡ m + size t + length (laid tight ts) = omega (arith, q) in r)
      | inr (some, more) ↦ behind_other len p.0 m (m + size t) b later some ∙ go more within
    ]

laid_open : (n : ℕ) (ts : List Text) → n + 1 + length (laid true ts) ≡ n + length (laid true (Open ∷ ts))
unfolding laid
laid_open n ts = omega arith

laid_open_behind : (n : ℕ) (ts : List Text) → n + 1 + 1 + length (laid true ts) ≡ n + length (laid false (Open ∷ ts))
unfolding laid
laid_open_behind n ts = omega arith

laid_close : (n : ℕ) (tight : Bool) (ts : List Text) → n + 1 + length (laid false ts) ≡ n + length (laid tight (Close ∷ ts))
unfolding laid
laid_close n true ts = omega arith
laid_close n false ts = omega arith

laid_atom : (n : ℕ) (a : List ℕ) (ts : List Text) → n + length a + length (laid false ts) ≡ n + length (laid true (Atom a ∷ ts))
unfolding laid
laid_atom n a ts = (let q = length-append a (laid false ts) in omega (arith, q))

laid_atom_behind : (n : ℕ) (a : List ℕ) (ts : List Text) → n + 1 + length a + length (laid false ts) ≡ n + length (laid false (Atom a ∷ ts))
unfolding laid
laid_atom_behind n a ts = (let q = length-append a (laid false ts) in omega (arith, q))

no_end : (d : ℕ) → Ends d [] → ⊥
unfolding Ends
no_end d e = e

-- the front of tokens that end where all brackets are closed, whatever stands behind
pub front_laid : (len n d : ℕ) (tight : Bool) (ts : List Text) (l : Layout) → AreGood ts → Ends d ts → deepest d ts ≤ 1000 →
    front_end len d (spans_of n (laid_then tight ts l)) ≡ n + length (laid tight ts)
front_laid len n d tight [] l g e w = absurd (no_end d e)
front_laid len n d true (Open ∷ ts) l g e w =
    a_token len d n Open true ts (spans_of (n + 1) (laid_then true ts l)) g.0 e w (λ f v. front_laid len (n + 1) (d + 1) true ts l g.1 f v) ∙ laid_open n ts
front_laid len n d false (Open ∷ ts) l g e w =
    a_token len d (n + 1) Open true ts (spans_of (n + 1 + 1) (laid_then true ts l)) g.0 e w (λ f v. front_laid len (n + 1 + 1) (d + 1) true ts l g.1 f v) ∙ laid_open_behind n ts
front_laid len n d true (Close ∷ ts) l g e w =
    a_token len d n Close false ts (spans_of (n + 1) (laid_then false ts l)) g.0 e w (λ f v. front_laid len (n + 1) (d - 1) false ts l g.1 f v) ∙ laid_close n true ts
front_laid len n d false (Close ∷ ts) l g e w =
    a_token len d n Close false ts (spans_of (n + 1) (laid_then false ts l)) g.0 e w (λ f v. front_laid len (n + 1) (d - 1) false ts l g.1 f v) ∙ laid_close n false ts
front_laid len n d true (Atom a ∷ ts) l g e w =
    a_token len d n (Atom a) false ts (spans_of (n + length a) (laid_then false ts l)) g.0 e w (λ f v. front_laid len (n + length a) d false ts l g.1 f v) ∙ laid_atom n a ts
front_laid len n d false (Atom a ∷ ts) l g e w =
    a_token len d (n + 1) (Atom a) false ts (spans_of (n + 1 + length a) (laid_then false ts l)) g.0 e w (λ f v. front_laid len (n + 1 + length a) d false ts l g.1 f v) ∙ laid_atom_behind n a ts
front_laid len n d tight (Stray ∷ ts) l g e w = elim g.0 [ ]
