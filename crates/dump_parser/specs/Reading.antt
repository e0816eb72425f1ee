-- What each function of the reader promises: whatever is to come, the verdict on the tokens before the call is the verdict on the tokens after
-- it, with what was read among the values; or the refusal that the function answers.
use Rattle.std.specs.Prelude.{◌≡◌, ℕ, ◌<◌, ◌≤◌, List, [], ◌∷◌, ◌++◌, length, Option, Some, None, Result, Ok, Err, OnOk, IfOk, IfSome, false, slice_range}
use Rattle.std.specs.Str.{IsAscii}
use Rattle.sexp_reader.specs.Stream.{source, stream, depth, text_at}
use Rattle.sexp_reader.specs.declared.Token.{Token}
use Rattle.sexp_reader.specs.declared.TokenKind.TheVariants as kinds
use Rattle.sexp_reader.specs.declared.Tokens.{Tokens}
use Rattle.dump_grammar.specs.declared.refusal.Limit.{Limit}
use Rattle.dump_grammar.specs.declared.refusal.ReadRefusal.{ReadRefusal}
use Rattle.dump_grammar.specs.declared.refusal.ReadRefusal.TheVariants as refusals
use Rattle.dump_grammar.specs.Table.{Value, Item, IList, Kind, next, finish, act}
use Rattle.dump_grammar.specs.Limits.{begins_declaration, member_over, end_over}
use Rattle.dump_grammar.specs.Judge.{texts, Verdict, Refuse, at_token, at_end, judge}
use Rattle.dump_parser.specs.declared.list.Member.{Member}
use Rattle.dump_parser.specs.declared.list.Member.TheVariants as members

-- the verdict on the tokens that are still to come
abbrev pub judged : Tokens → List Item → List Value → Verdict
judged t is vs = judge (length (source t)) (stream t) (depth t) is vs

-- ---- the next token

abbrev pub GoesOn : Result (Option Token) ReadRefusal → Tokens → Tokens → List Item → List Value → Verdict → Type 0
GoesOn (Ok None) old new is vs v = v ≡ at_end (length (source old)) is vs
GoesOn (Ok (Some t)) old new is vs v = v ≡ at_token is t.start (text_at (source old) t) vs (texts (stream new)) (λ js ws. judged new js ws)
GoesOn (Err e) old new is vs v = v ≡ Refuse e

pub record Gets (result : Result (Option Token) ReadRefusal) (old new : Tokens) : Type 0 where
  pub same : source new ≡ source old
  pub shorter : IfOk result (λ o. IfSome o (λ t. length (stream new) < length (stream old)))
  pub within : IfOk result (λ o. IfSome o (λ t. (t.start ≤ t.end) × (t.end ≤ length (source old))))
  pub goes : (is : List Item) (vs : List Value) → GoesOn result old new is vs (judged old is vs)

-- What the token before this one knows of it. At a fault it is no word of a declaration.
abbrev pub Ahead : Result (Option Token) ReadRefusal → Tokens → Tokens → Type 0
Ahead (Ok None) old new = texts (stream old) ≡ []
Ahead (Ok (Some t)) old new = texts (stream old) ≡ text_at (source old) t ∷ texts (stream new)
Ahead (Err e) old new = begins_declaration (texts (stream old)) ≡ false

-- The text of the next token is ASCII where it is an atom.
abbrev pub IsAsciiAtom : Result (Option Token) ReadRefusal → Tokens → Type 0
IsAsciiAtom result old = IfOk result (λ o. IfSome o (λ t. t.kind ≡ kinds.Atom → IsAscii (slice_range (source old) t.start t.end)))

-- ---- what stands between brackets

-- The verdict where a limit may be passed at a place.
abbrev pub limited : Option Limit → (offset : ℕ) → Verdict → Verdict
limited None o v = v
limited (Some l) o v = Refuse (refusals.Limit l o)

-- The verdict is this function of what was read; or the refusal. Nothing is said where there is no memory.
abbrev pub Goes : {X : Type 0} → Result X ReadRefusal → (X → Verdict) → Verdict → Type 0
Goes (Ok x) f v = v ≡ f x
Goes (Err refusals.Memory) f v = Unit {0}
Goes (Err (refusals.Syntax o)) f v = v ≡ Refuse (refusals.Syntax o)
Goes (Err (refusals.Unsupported w o)) f v = v ≡ Refuse (refusals.Unsupported w o)
Goes (Err (refusals.Limit l o)) f v = v ≡ Refuse (refusals.Limit l o)

-- These items are read, where these values stand on top; what is read takes their place.
pub record Reads {X : Type 0} (result : Result X ReadRefusal) (old new : Tokens) (items : List Item) (given : List Value) (f : X → List Value → List Value) : Type 0 where
  pub same : source new ≡ source old
  pub shorter : OnOk result (length (stream new) < length (stream old))
  pub goes : (k : List Item) (vs : List Value) → Goes result (λ x. judged new k (f x vs)) (judged old (items ++ k) (given ++ vs))

-- A word is read that says which items follow.
pub record Leads {X : Type 0} (result : Result X ReadRefusal) (old new : Tokens) (items : List Item) (given : List Value) (rest : X → List Item) (f : X → List Value → List Value) : Type 0 where
  pub same : source new ≡ source old
  pub shorter : OnOk result (length (stream new) < length (stream old))
  pub goes : (k : List Item) (vs : List Value) → Goes result (λ x. judged new (rest x ++ k) (f x vs)) (judged old (items ++ k) (given ++ vs))

-- ---- lists: a bracket opens a member, or closes the list

abbrev pub member_verdict : Member → Tokens → Kind → List Item → List Value → Verdict
member_verdict (members.Open o) new kind k vs = limited (member_over kind vs) o (judged new (next kind ++ k) vs)
member_verdict (members.Close o) new kind k vs = limited (end_over kind vs) o (judged new k (act (finish kind) vs))

pub record ReadsMember (result : Result Member ReadRefusal) (old new : Tokens) : Type 0 where
  pub same : source new ≡ source old
  pub shorter : OnOk result (length (stream new) < length (stream old))
  pub goes : (kind : Kind) (k : List Item) (vs : List Value) → Goes result (λ b. member_verdict b new kind k vs) (judged old (IList kind ∷ k) vs)
