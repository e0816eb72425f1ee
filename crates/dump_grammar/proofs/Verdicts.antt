-- How the verdict goes on, for the reader whose code follows the table.
use Rattle.std.proofs.Common.{◌≡◌, ℕ, List, [], ◌∷◌, Option, Result, Ok, Err, refl, sym, ap}
use Rattle.sexp_reader.specs.Text.{Text, Open, Close, Atom, Stray}
use Rattle.sexp_reader.specs.Lex.{Spanned, answer, answer_at, nesting_after, nesting_after_text}
use Rattle.sexp_reader.specs.declared.Token.{Token}
use Rattle.sexp_reader.specs.declared.TokenFault.{TokenFault}
use Rattle.dump_grammar.specs.Table.{Value, Action, act, Item, IOpen, ITerm, IHead, IType, ITypeHead, Do}
use Rattle.dump_grammar.specs.Judge.{texts, Verdict, Refuse, fault_refusal, lexed, at_token, at_end, judge}

-- at the end of the text
pub judge-end : (len : ℕ) (ss : List Spanned) (d : ℕ) (is : List Item) (vs : List Value) → ss ≡ [] → judge len ss d is vs ≡ at_end len is vs
unfolding judge
judge-end len ss d is vs e = rw e refl

-- at a token that the tokenizer gives
pub judge-next : (len len' : ℕ) (ss new : List Spanned) (d d' start : ℕ) (t : Text) (o : Option Token) (is : List Item) (vs : List Value) →
    len' ≡ len → ss ≡ record { start = start; text = t } ∷ new → d' ≡ nesting_after d ss → Ok o ≡ answer d ss →
    judge len ss d is vs ≡ at_token is start t vs (texts new) (λ js ws. judge len' new d' js ws)
unfolding judge
judge-next len len' ss new d d' start t o is vs el es ed ok =
    let lex : answer_at d start t ≡ Ok o = sym (rw es at ok) in
    rw (ed, el, es, lex) refl

-- at a fault of the tokenizer
pub judge-fault : (len : ℕ) (ss : List Spanned) (d : ℕ) (f : TokenFault) (is : List Item) (vs : List Value) → Err f ≡ answer d ss → judge len ss d is vs ≡ Refuse (fault_refusal f)
unfolding judge
judge-fault len [] d f is vs e = absurd cc
judge-fault len (s ∷ ss) d f is vs e =
    ap (λ (r : Result (Option Token) TokenFault). lexed r (at_token is s.start s.text vs (texts ss) (λ js ws. judge len ss (nesting_after_text d s.text) js ws))) (sym e)

-- What is done before an item is done before its first token.
pub judge-do : (len : ℕ) (ss : List Spanned) (d : ℕ) (a : Action) (i : Item) (k : List Item) (vs : List Value) → judge len ss d (Do a i ∷ k) vs ≡ judge len ss d (i ∷ k) (act a vs)
unfolding judge
judge-do len [] d a i k vs = refl
judge-do len (s ∷ ss) d a i k vs = refl

-- A term is a bracket and a head.
term-token : (k : List Item) (o : ℕ) (t : Text) (vs : List Value) (rest : List Text) (go : List Item → List Value → Verdict) → at_token (ITerm ∷ k) o t vs rest go ≡ at_token (IOpen ∷ IHead ∷ k) o t vs rest go
term-token k o Open vs rest go = refl
term-token k o Close vs rest go = refl
term-token k o (Atom a) vs rest go = refl
term-token k o Stray vs rest go = refl

pub judge-term : (len : ℕ) (ss : List Spanned) (d : ℕ) (k : List Item) (vs : List Value) → judge len ss d (ITerm ∷ k) vs ≡ judge len ss d (IOpen ∷ IHead ∷ k) vs
unfolding judge
judge-term len [] d k vs = refl
judge-term len (s ∷ ss) d k vs = ap (lexed (answer_at d s.start s.text)) (term-token k s.start s.text vs (texts ss) (λ js ws. judge len ss (nesting_after_text d s.text) js ws))

type-token : (k : List Item) (o : ℕ) (t : Text) (vs : List Value) (rest : List Text) (go : List Item → List Value → Verdict) → at_token (IType ∷ k) o t vs rest go ≡ at_token (IOpen ∷ ITypeHead ∷ k) o t vs rest go
type-token k o Open vs rest go = refl
type-token k o Close vs rest go = refl
type-token k o (Atom a) vs rest go = refl
type-token k o Stray vs rest go = refl

pub judge-type : (len : ℕ) (ss : List Spanned) (d : ℕ) (k : List Item) (vs : List Value) → judge len ss d (IType ∷ k) vs ≡ judge len ss d (IOpen ∷ ITypeHead ∷ k) vs
unfolding judge
judge-type len [] d k vs = refl
judge-type len (s ∷ ss) d k vs = ap (lexed (answer_at d s.start s.text)) (type-token k s.start s.text vs (texts ss) (λ js ws. judge len ss (nesting_after_text d s.text) js ws))
