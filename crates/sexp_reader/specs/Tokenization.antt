-- A text as tokens with blanks and comments between them, said of the bytes and not of a way to read them.
use Rattle.std.specs.Prelude.{◌≡◌, ◌≢◌, ℕ, ◌+◌, ◌<◌, List, [], ◌∷◌, ◌++◌, length, true, false}
use Rattle.sexp_reader.specs.Text.{Open, Close, Atom, Stray}
use Rattle.sexp_reader.specs.Lex.{Spanned, is_blank, is_atom_byte, tokens_of}

-- What stands in a text, from its front.
pub data Layout : Type 0 where
  End : Layout
  -- a comment up to the end of the text
  LastComment : (comment : List ℕ) → Layout
  -- a comment up to LF
  CommentThen : (comment : List ℕ) (more : Layout) → Layout
  BlankThen : (byte : ℕ) (more : Layout) → Layout
  OpenThen : (more : Layout) → Layout
  CloseThen : (more : Layout) → Layout
  AtomThen : (atom : List ℕ) (more : Layout) → Layout
  -- a byte that belongs to no token, blank or comment
  StrayThen : (byte : ℕ) (more : Layout) → Layout

-- its bytes: 40 and 41 are the brackets, 59 is `;`, 10 is LF
abbrev pub bytes_of : Layout → List ℕ
bytes_of End = []
bytes_of (LastComment comment) = 59 ∷ comment
bytes_of (CommentThen comment more) = 59 ∷ (comment ++ 10 ∷ bytes_of more)
bytes_of (BlankThen b more) = b ∷ bytes_of more
bytes_of (OpenThen more) = 40 ∷ bytes_of more
bytes_of (CloseThen more) = 41 ∷ bytes_of more
bytes_of (AtomThen atom more) = atom ++ bytes_of more
bytes_of (StrayThen b more) = b ∷ bytes_of more

-- its tokens, where its first byte has the offset n
abbrev pub spans_of : (n : ℕ) → Layout → List Spanned
spans_of n End = []
spans_of n (LastComment comment) = []
spans_of n (CommentThen comment more) = spans_of (n + 1 + length comment + 1) more
spans_of n (BlankThen b more) = spans_of (n + 1) more
spans_of n (OpenThen more) = record { start = n; text = Open } ∷ spans_of (n + 1) more
spans_of n (CloseThen more) = record { start = n; text = Close } ∷ spans_of (n + 1) more
spans_of n (AtomThen atom more) = record { start = n; text = Atom atom } ∷ spans_of (n + length atom) more
spans_of n (StrayThen b more) = record { start = n; text = Stray } ∷ spans_of (n + 1) more

abbrev pub Each : (ℕ → Type 0) → List ℕ → Type 0
Each P [] = Unit {0}
Each P (b ∷ bs) = P b × Each P bs

-- two atoms never touch
abbrev pub BeginsNoAtom : Layout → Type 0
BeginsNoAtom (AtomThen atom more) = ⊥
BeginsNoAtom _ = Unit {0}

abbrev pub IsOfNoToken : ℕ → Type 0
IsOfNoToken b = (is_atom_byte b ≡ false) × (is_blank b ≡ false) × (b ≢ 40) × (b ≢ 41) × (b ≢ 59)

-- Each part is what it is called.
abbrev pub IsLayout : Layout → Type 0
IsLayout End = Unit {0}
IsLayout (LastComment comment) = Each (λ b. b ≢ 10) comment
IsLayout (CommentThen comment more) = Each (λ b. b ≢ 10) comment × IsLayout more
IsLayout (BlankThen b more) = (is_blank b ≡ true) × IsLayout more
IsLayout (OpenThen more) = IsLayout more
IsLayout (CloseThen more) = IsLayout more
IsLayout (AtomThen atom more) = (0 < length atom) × Each (λ b. is_atom_byte b ≡ true) atom × BeginsNoAtom more × IsLayout more
IsLayout (StrayThen b more) = IsOfNoToken b × IsLayout more

-- These are the tokens of these bytes.
abbrev pub Tokenizes : List ℕ → List Spanned → Type 0
Tokenizes bytes tokens = (l : Layout) × IsLayout l × (bytes_of l ≡ bytes) × (spans_of 0 l ≡ tokens)

-- The tokens of bytes are `tokens_of` them, and no others.
pub record IsTheTokenization : Type 0 where
  pub is_one : (bytes : List ℕ) → Tokenizes bytes (tokens_of bytes)
  pub only : (bytes : List ℕ) (tokens : List Spanned) → Tokenizes bytes tokens → tokens ≡ tokens_of bytes
