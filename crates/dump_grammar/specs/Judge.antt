-- The verdict on a text: the first refusal from left to right. At one token the limits of tokens come first, then Syntax, then the forms that are
-- known and not read, then the other limits.
use Rattle.std.specs.Prelude.{ℕ, List, [], ◌∷◌, ◌++◌, Option, Some, None, Result, Ok, Err}
use Rattle.sexp_reader.specs.Text.{Text}
use Rattle.sexp_reader.specs.Lex.{Spanned, answer_at, nesting_after_text}
use Rattle.sexp_reader.specs.declared.Token.{Token}
use Rattle.sexp_reader.specs.declared.TokenFault.{TokenFault}
use Rattle.sexp_reader.specs.declared.TokenFault.TheVariants as faults
use Rattle.dump_grammar.specs.declared.refusal.Foreign.{Foreign}
use Rattle.dump_grammar.specs.declared.refusal.Limit.{Limit}
use Rattle.dump_grammar.specs.declared.refusal.Limit.TheVariants as limits
use Rattle.dump_grammar.specs.declared.refusal.ReadRefusal.{ReadRefusal}
use Rattle.dump_grammar.specs.declared.refusal.ReadRefusal.TheVariants as refusals
use Rattle.dump_grammar.specs.Table.{Value, Item, start, Moved, step}
use Rattle.dump_grammar.specs.Foreign.{foreign}
use Rattle.dump_grammar.specs.Limits.{over}

-- the tokens apart from where they stand
abbrev pub texts : List Spanned → List Text
texts [] = []
texts (s ∷ ss) = s.text ∷ texts ss

pub data Verdict : Type 0 where
  Fine : List Value → Verdict
  Refuse : ReadRefusal → Verdict

-- what the tokenizer refuses
abbrev pub fault_refusal : TokenFault → ReadRefusal
fault_refusal (faults.Stray o) = refusals.Syntax o
fault_refusal (faults.NameBytes o) = refusals.Limit limits.NameBytes o
fault_refusal (faults.Nesting o) = refusals.Limit limits.Nesting o

abbrev pub lexed : Result (Option Token) TokenFault → Verdict → Verdict
lexed (Ok o) v = v
lexed (Err f) v = Refuse (fault_refusal f)

abbrev pub unread : Option Foreign → ℕ → ReadRefusal
unread None o = refusals.Syntax o
unread (Some f) o = refusals.Unsupported f o

abbrev pub moved : Moved → (nothing : ReadRefusal) → Option Limit → ℕ → (List Item → List Value → Verdict) → Verdict
moved None r l o go = Refuse r
moved (Some m) r None o go = go m.0 m.1
moved (Some m) r (Some l) o go = Refuse (refusals.Limit l o)

abbrev pub at_token : List Item → (start : ℕ) → Text → List Value → (rest : List Text) → (List Item → List Value → Verdict) → Verdict
at_token [] o t vs rest go = Refuse (refusals.Syntax o)
at_token (i ∷ is) o t vs rest go = moved (step i t vs) (unread (foreign i t) o) (over i t vs rest) o (λ js ws. go (js ++ is) ws)

abbrev pub at_end : (len : ℕ) → List Item → List Value → Verdict
at_end len [] vs = Fine vs
at_end len (i ∷ is) vs = Refuse (refusals.Syntax len)

unfoldable pub judge : (len : ℕ) → List Spanned → (nesting : ℕ) → List Item → List Value → Verdict
judge len [] d is vs = at_end len is vs
judge len (s ∷ ss) d is vs = lexed (answer_at d s.start s.text) (at_token is s.start s.text vs (texts ss) (λ js ws. judge len ss (nesting_after_text d s.text) js ws))

-- the verdict on a text of so many bytes
abbrev pub verdict : (len : ℕ) → List Spanned → Verdict
verdict len tokens = judge len tokens 0 start []
