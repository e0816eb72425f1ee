-- Tokens that can stand in a text: brackets, and atoms of 1 to 255 atom bytes.
use Rattle.std.proofs.Common.{◌≡◌, ℕ, suc, ◌+◌, ◌<◌, ◌≤◌, List, [], ◌∷◌, ◌++◌, length, Option, Some, None, Bool, true, false, ◌&&◌, ◌||◌, refl, sym, ap, subst, ◌∙◌, arith, decimal, inl, inr}
use Rattle.std.specs.Prelude.{nat_le, nat_lt, nat_eq}
use Rattle.std.proofs.lemmas.Bool.{and_parts, cases_Bool, le-leb, leb-true}
use Rattle.std.specs.Str.Parse.{AllDigits}
use Rattle.std.proofs.lemmas.Str.Parse.{digit_from_value}
use Rattle.std.proofs.lemmas.Fmt.{decimal_is_IsNumeral, decimal_nonempty, length-decimal-le}
use Rattle.sexp_reader.specs.Text.{Text, Open, Close, Atom, Stray}
use Rattle.sexp_reader.specs.Lex.{Spanned, is_atom_byte, tokens_of, answer_at, nesting_after_text}
use Rattle.sexp_reader.specs.Tokenization.{Layout, End, LastComment, CommentThen, BlankThen, OpenThen, CloseThen, AtomThen, StrayThen, bytes_of, spans_of, Each, IsLayout, BeginsNoAtom}
use Rattle.sexp_reader.proofs.Layouts.{tokenization, spans-read}
use Rattle.dump_grammar.specs.Keywords.{spelling}
use Rattle.dump_grammar.specs.declared.keyword.Keyword.{Keyword}
use Rattle.dump_grammar.specs.declared.keyword.Keyword.TheVariants as words
use Rattle.dump_grammar.specs.Numbers.{word}
use Rattle.sexp_reader.specs.declared.TokenFault.TheVariants as faults
use Rattle.dump_grammar.specs.declared.refusal.Limit.{Limit}
use Rattle.dump_grammar.specs.declared.refusal.ReadRefusal.{ReadRefusal}
use Rattle.dump_grammar.specs.Table.{Value, Item, Moved, step}
use Rattle.dump_grammar.specs.Judge.{texts, Verdict, Fine, Refuse, fault_refusal, lexed, moved, unread, at_token, judge}
use Rattle.dump_grammar.specs.Foreign.{foreign}
use Rattle.dump_grammar.specs.Limits.{over}
use Rattle.dump_printer.specs.Layout.{laid, spaced}
use Rattle.dump_printer.proofs.Fits.{Small}

-- ---- atoms

abbrev pub all_bytes : List ℕ → Bool
all_bytes [] = true
all_bytes (b ∷ bs) = is_atom_byte b && all_bytes bs

abbrev pub is_good : List ℕ → Bool
is_good [] = false
is_good (b ∷ bs) = (is_atom_byte b && all_bytes bs) && nat_le (length (b ∷ bs)) 255

abbrev pub IsGood : Text → Type 0
IsGood Open = Unit {0}
IsGood Close = Unit {0}
IsGood (Atom a) = is_good a ≡ true
IsGood Stray = ⊥

abbrev pub AreGood : List Text → Type 0
AreGood [] = Unit {0}
AreGood (t ∷ ts) = IsGood t × AreGood ts

all-each : (a : List ℕ) → all_bytes a ≡ true → Each (λ b. is_atom_byte b ≡ true) a
all-each [] e = tt
all-each (b ∷ bs) e = (let x = and_parts (is_atom_byte b) (all_bytes bs) e in (x.0, all-each bs x.1))

each-all : (a : List ℕ) → Each (λ b. is_atom_byte b ≡ true) a → all_bytes a ≡ true
each-all [] h = refl
each-all (b ∷ bs) h = rw (h.0, each-all bs h.1) refl

pub good-parts : (a : List ℕ) → is_good a ≡ true → (0 < length a) × Each (λ b. is_atom_byte b ≡ true) a
good-parts [] e = absurd cc
good-parts (b ∷ bs) e =
    let x = and_parts (is_atom_byte b && all_bytes bs) (nat_le (length (b ∷ bs)) 255) e in
    (omega arith, all-each (b ∷ bs) x.0)

good-from : (a : List ℕ) → 0 < length a → Each (λ b. is_atom_byte b ≡ true) a → length a ≤ 255 → is_good a ≡ true
good-from [] h k l = absurd (omega arith)
good-from (b ∷ bs) h k l = rw (k.0, each-all bs k.1, le-leb (suc (length bs)) 255 l) refl

pub good-length : (a : List ℕ) → is_good a ≡ true → length a ≤ 255
good-length [] e = absurd cc
good-length (b ∷ bs) e = leb-true (length (b ∷ bs)) 255 (and_parts (is_atom_byte b && all_bytes bs) (nat_le (length (b ∷ bs)) 255) e).1

digit-byte : (c : ℕ) → 48 ≤ c → c ≤ 57 → is_atom_byte c ≡ true
digit-byte c a b =
    let e : (nat_le 48 c && nat_le c 57) ≡ true = rw (le-leb 48 c a, le-leb c 57 b) refl in
    let P : Bool → Type 0 = λ x. (((((x || (nat_le 48 c && nat_le c 57)) || nat_eq c 95) || nat_eq c 46) || nat_eq c 39) || nat_eq c 45) ≡ true in
    let on : (x : Bool) → P x = λ x. elim x as P [ true ↦ refl | false ↦ rw e refl ] in
    on ((nat_le 97 c && nat_le c 122) || (nat_le 65 c && nat_le c 90))

digits-bytes : (ds : List ℕ) → AllDigits 10 ds → Each (λ b. is_atom_byte b ≡ true) ds
digits-bytes [] h = tt
digits-bytes (c ∷ cs) h = (let r = digit_from_value c h.0 in (digit-byte c r.0 r.1, digits-bytes cs h.1))

pub decimal-good : (n : ℕ) → Small n → is_good (decimal n) ≡ true
decimal-good n h =
    let short = length-decimal-le 20 n (omega arith) (omega arith) h in
    good-from (decimal n) (decimal_nonempty n h) (digits-bytes (decimal n) (decimal_is_IsNumeral n h).0.1) (omega arith)

pub word-good : (w : Keyword) → IsGood (word w)
unfolding spelling
word-good words.Env = refl
word-good words.One = refl
word-good words.Levels = refl
word-good words.Constraints = refl
word-good words.Lt = refl
word-good words.Le = refl
word-good words.Eq = refl
word-good words.ConstantDecl = refl
word-good words.NoBody = refl
word-good words.InductiveDecl = refl
word-good words.CoInductiveDecl = refl
word-good words.Universes = refl
word-good words.Params = refl
word-good words.Family = refl
word-good words.Sort = refl
word-good words.Indices = refl
word-good words.Ctor = refl
word-good words.Args = refl
word-good words.Result = refl
word-good words.Main = refl
word-good words.Prop = refl
word-good words.SProp = refl
word-good words.Set = refl
word-good words.Type = refl
word-good words.Rel = refl
word-good words.TermSort = refl
word-good words.Prod = refl
word-good words.Lambda = refl
word-good words.LetIn = refl
word-good words.App = refl
word-good words.Const = refl
word-good words.Ind = refl
word-good words.Construct = refl
word-good words.Case = refl
word-good words.Pred = refl
word-good words.Branch = refl
word-good words.Fix = refl
word-good words.Def = refl
word-good words.Cast = refl
word-good words.Var = refl
word-good words.Evar = refl
word-good words.Proj = refl
word-good words.CoFix = refl
word-good words.Int = refl
word-good words.Float = refl
word-good words.String = refl
word-good words.Array = refl

-- ---- laid tokens are read again

abbrev layout_of : (tight : Bool) → List Text → Layout
layout_of tight [] = End
layout_of true (Open ∷ ts) = OpenThen (layout_of true ts)
layout_of false (Open ∷ ts) = BlankThen 32 (OpenThen (layout_of true ts))
layout_of tight (Close ∷ ts) = CloseThen (layout_of false ts)
layout_of true (Atom a ∷ ts) = AtomThen a (layout_of false ts)
layout_of false (Atom a ∷ ts) = BlankThen 32 (AtomThen a (layout_of false ts))
layout_of tight (Stray ∷ ts) = layout_of tight ts

layout-bytes : (tight : Bool) (ts : List Text) → bytes_of (layout_of tight ts) ≡ laid tight ts
unfolding laid
layout-bytes true [] = refl
layout-bytes false [] = refl
layout-bytes true (Open ∷ ts) = ap (λ (w : List ℕ). 40 ∷ w) (layout-bytes true ts)
layout-bytes false (Open ∷ ts) = ap (λ (w : List ℕ). 32 ∷ 40 ∷ w) (layout-bytes true ts)
layout-bytes true (Close ∷ ts) = ap (λ (w : List ℕ). 41 ∷ w) (layout-bytes false ts)
layout-bytes false (Close ∷ ts) = ap (λ (w : List ℕ). 41 ∷ w) (layout-bytes false ts)
layout-bytes true (Atom a ∷ ts) = ap (λ (w : List ℕ). a ++ w) (layout-bytes false ts)
layout-bytes false (Atom a ∷ ts) = ap (λ (w : List ℕ). 32 ∷ (a ++ w)) (layout-bytes false ts)
layout-bytes true (Stray ∷ ts) = layout-bytes true ts
layout-bytes false (Stray ∷ ts) = layout-bytes false ts

begins-none : (ts : List Text) → AreGood ts → BeginsNoAtom (layout_of false ts)
begins-none [] h = tt
begins-none (Open ∷ ts) h = tt
begins-none (Close ∷ ts) h = tt
begins-none (Atom a ∷ ts) h = tt
begins-none (Stray ∷ ts) h = elim h.0 [ ]

layout-is : (tight : Bool) (ts : List Text) → AreGood ts → IsLayout (layout_of tight ts)
layout-is true [] h = tt
layout-is false [] h = tt
layout-is true (Open ∷ ts) h = layout-is true ts h.1
layout-is false (Open ∷ ts) h = (refl, layout-is true ts h.1)
layout-is true (Close ∷ ts) h = layout-is false ts h.1
layout-is false (Close ∷ ts) h = layout-is false ts h.1
layout-is true (Atom a ∷ ts) h = (let x = good-parts a h.0 in (x.0, x.1, begins-none ts h.1, layout-is false ts h.1))
layout-is false (Atom a ∷ ts) h = (let x = good-parts a h.0 in (refl, (x.0, x.1, begins-none ts h.1, layout-is false ts h.1)))
layout-is tight (Stray ∷ ts) h = elim h.0 [ ]

layout-texts : (tight : Bool) (n : ℕ) (ts : List Text) → AreGood ts → texts (spans_of n (layout_of tight ts)) ≡ ts
layout-texts true n [] h = refl
layout-texts false n [] h = refl
layout-texts true n (Open ∷ ts) h = ap (λ (us : List Text). Open ∷ us) (layout-texts true (n + 1) ts h.1)
layout-texts false n (Open ∷ ts) h = ap (λ (us : List Text). Open ∷ us) (layout-texts true (n + 1 + 1) ts h.1)
layout-texts true n (Close ∷ ts) h = ap (λ (us : List Text). Close ∷ us) (layout-texts false (n + 1) ts h.1)
layout-texts false n (Close ∷ ts) h = ap (λ (us : List Text). Close ∷ us) (layout-texts false (n + 1) ts h.1)
layout-texts true n (Atom a ∷ ts) h = ap (λ (us : List Text). Atom a ∷ us) (layout-texts false (n + length a) ts h.1)
layout-texts false n (Atom a ∷ ts) h = ap (λ (us : List Text). Atom a ∷ us) (layout-texts false (n + 1 + length a) ts h.1)
layout-texts tight n (Stray ∷ ts) h = elim h.0 [ ]

-- The tokens of a text's bytes are the text's.
pub spaced-read : (ts : List Text) → AreGood ts → texts (tokens_of (spaced ts)) ≡ ts
spaced-read ts h =
    ap (λ (w : List ℕ). texts (tokens_of w)) (sym (layout-bytes true ts)) ∙ ap texts (sym (spans-read (layout_of true ts) 0 (layout-is true ts h))) ∙ layout-texts true 0 ts h

-- ---- what is accepted is good

abbrev IsRead : Text → Type 0
IsRead (Atom a) = (0 < length a) × Each (λ b. is_atom_byte b ≡ true) a
IsRead _ = Unit {0}

abbrev AreRead : List Text → Type 0
AreRead [] = Unit {0}
AreRead (t ∷ ts) = IsRead t × AreRead ts

spans-are-read : (n : ℕ) (l : Layout) → IsLayout l → AreRead (texts (spans_of n l))
spans-are-read n End h = tt
spans-are-read n (LastComment comment) h = tt
spans-are-read n (CommentThen comment more) h = spans-are-read (n + 1 + length comment + 1) more h.1
spans-are-read n (BlankThen b more) h = spans-are-read (n + 1) more h.1
spans-are-read n (OpenThen more) h = (tt, spans-are-read (n + 1) more h)
spans-are-read n (CloseThen more) h = (tt, spans-are-read (n + 1) more h)
spans-are-read n (AtomThen atom more) h = ((h.0, h.1), spans-are-read (n + length atom) more h.3)
spans-are-read n (StrayThen b more) h = (tt, spans-are-read (n + 1) more h.1)

tokens-are-read : (bytes : List ℕ) → AreRead (texts (tokens_of bytes))
tokens-are-read bytes =
    let t = tokenization.is_one bytes in
    subst (λ ss. AreRead (texts ss)) t.3 (spans-are-read 0 t.0 t.1)

-- a token that is not refused
abbrev Passes : Text → Type 0
Passes (Atom a) = length a ≤ 255
Passes Stray = ⊥
Passes _ = Unit {0}

abbrev AllPass : List Text → Type 0
AllPass [] = Unit {0}
AllPass (t ∷ ts) = Passes t × AllPass ts

token-passes : (d o : ℕ) (t : Text) (v : Verdict) (vs : List Value) → lexed (answer_at d o t) v ≡ Fine vs → Passes t × (v ≡ Fine vs)
token-passes d o Open v vs e =
    elim (cases_Bool (nat_lt d 1000)) [
      | inl f ↦ (tt, let g : lexed (answer_at d o Open) v ≡ v = rw f refl in sym g ∙ e)
      | inr f ↦ absurd (let g : lexed (answer_at d o Open) v ≡ Refuse (fault_refusal (faults.Nesting o)) = rw f refl in cc)
    ]
token-passes d o Close v vs e = (tt, e)
token-passes d o (Atom a) v vs e =
    elim (cases_Bool (nat_le (length a) 255)) [
      | inl f ↦ (leb-true (length a) 255 f, let g : lexed (answer_at d o (Atom a)) v ≡ v = rw f refl in sym g ∙ e)
      | inr f ↦ absurd (let g : lexed (answer_at d o (Atom a)) v ≡ Refuse (fault_refusal (faults.NameBytes o)) = rw f refl in cc)
    ]
token-passes d o Stray v vs e = absurd cc

moved-fine : (m : Moved) (r : ReadRefusal) (l : Option Limit) (o : ℕ) (k : List Item → List Value → Verdict) (vs : List Value) → moved m r l o k ≡ Fine vs → (x : List Item × List Value) × (k x.0 x.1 ≡ Fine vs)
moved-fine None r l o k vs e = absurd cc
moved-fine (Some x) r None o k vs e = (x, e)
moved-fine (Some x) r (Some l) o k vs e = absurd cc

judge-step : (len : ℕ) (s : Spanned) (ss : List Spanned) (d : ℕ) (is : List Item) (vs : List Value) →
    judge len (s ∷ ss) d is vs ≡ lexed (answer_at d s.start s.text) (at_token is s.start s.text vs (texts ss) (λ js ws. judge len ss (nesting_after_text d s.text) js ws))
unfolding judge
judge-step len s ss d is vs = refl

all-pass : (len : ℕ) (ss : List Spanned) (d : ℕ) (is : List Item) (vs ws : List Value) → judge len ss d is vs ≡ Fine ws → AllPass (texts ss)
all-pass len [] d is vs ws e = tt
all-pass len (s ∷ ss) d [] vs ws e = (let x = token-passes d s.start s.text _ ws (sym (judge-step len s ss d [] vs) ∙ e) in absurd (let f = x.1 in cc))
all-pass len (s ∷ ss) d (i ∷ is) vs ws e =
    let x = token-passes d s.start s.text _ ws (sym (judge-step len s ss d (i ∷ is) vs) ∙ e) in
    let y = moved-fine (step i s.text vs) (unread (foreign i s.text) s.start) (over i s.text vs (texts ss)) s.start (λ js us. judge len ss (nesting_after_text d s.text) (js ++ is) us) ws x.1 in
    (x.0, all-pass len ss (nesting_after_text d s.text) (y.0.0 ++ is) y.0.1 ws y.1)

good-from-both : (ts : List Text) → AreRead ts → AllPass ts → AreGood ts
good-from-both [] h k = tt
good-from-both (Open ∷ ts) h k = (tt, good-from-both ts h.1 k.1)
good-from-both (Close ∷ ts) h k = (tt, good-from-both ts h.1 k.1)
good-from-both (Atom a ∷ ts) h k = (good-from a h.0.0 h.0.1 k.0, good-from-both ts h.1 k.1)
good-from-both (Stray ∷ ts) h k = elim k.0 [ ]

pub accepted-good : (bytes : List ℕ) (len d : ℕ) (is : List Item) (vs ws : List Value) → judge len (tokens_of bytes) d is vs ≡ Fine ws → AreGood (texts (tokens_of bytes))
accepted-good bytes len d is vs ws e = good-from-both (texts (tokens_of bytes)) (tokens-are-read bytes) (all-pass len (tokens_of bytes) d is vs ws e)
