-- The verdict and the grammar.
use Rattle.std.proofs.Common.{◌≡◌, ℕ, ◌+◌, List, [], ◌∷◌, ◌++◌, length, Option, Some, None, Result, Ok, Err, Bool, true, false, cond, refl, sym, ap, subst, ◌∙◌, ◌⊎◌, inl, inr}
use Rattle.std.specs.Prelude.{nat_lt, nat_le}
use Rattle.sexp_reader.specs.Text.{Text, Open, Close, Atom, Stray}
use Rattle.sexp_reader.specs.Lex.{Spanned, answer_at, nesting_after_text, token}
use Rattle.sexp_reader.specs.declared.Token.{Token}
use Rattle.sexp_reader.specs.declared.TokenKind.TheVariants as kinds
use Rattle.sexp_reader.specs.declared.TokenFault.{TokenFault}
use Rattle.sexp_reader.specs.declared.TokenFault.TheVariants as faults
use Rattle.dump_grammar.specs.declared.refusal.Foreign.{Foreign}
use Rattle.dump_grammar.specs.declared.refusal.Limit.{Limit}
use Rattle.dump_grammar.specs.declared.refusal.Limit.TheVariants as limits
use Rattle.dump_grammar.specs.declared.refusal.ReadRefusal.{ReadRefusal}
use Rattle.dump_grammar.specs.declared.refusal.ReadRefusal.TheVariants as refusals
use Rattle.dump_grammar.specs.Named.{NamedEnv}
use Rattle.dump_grammar.specs.Environments.{SpellsEnv}
use Rattle.dump_grammar.specs.Table.{Value, VEnv, Item, IOpen, IClose, IEnd, IEntryEnd, IWord, IParams, IVersion, IBinder, IName, ILevel, INumber, IAdd, IIndex, IComparison, ISort, ITerm, IHead, IType, ITypeHead, IBody, INames, ILevels, IList, IDecls, IDecl, Do, act, start, Moved, step, after, ReadOutcome, Accepted, Refused, run}
use Rattle.dump_grammar.specs.Exactness.{IsDead, MeetsTokens}
use Rattle.dump_grammar.specs.Foreign.{foreign}
use Rattle.dump_grammar.specs.Limits.{unless, token_over, over}
use Rattle.dump_grammar.specs.Judge.{texts, Verdict, Fine, Refuse, fault_refusal, lexed, unread, moved, judge, verdict}
use Rattle.dump_grammar.specs.FirstRefusal.{nesting_of, state_from, item_refusal, items_refusal, answer_refusal, token_refusal, end_refusal, rest_refusal, on_state, NothingBefore}
use Rattle.dump_grammar.specs.Law.{place, SyntaxAt, Reached, UnsupportedAt, PassesAt, LimitAt, IsJudged}
use Rattle.dump_grammar.proofs.Exact.{exact, same_first, dead_at, dead-apart}
use Rattle.dump_grammar.proofs.FirstRefusal.{refuses, refused, run-of-state, state-further, begins}

pub no-stray : (i : Item) (vs : List Value) → step i Stray vs ≡ None
no-stray IOpen vs = refl
no-stray IClose vs = refl
no-stray IEnd vs = refl
no-stray IEntryEnd vs = refl
no-stray (IWord w) vs = refl
no-stray IParams vs = refl
no-stray IVersion vs = refl
no-stray IBinder vs = refl
no-stray IName vs = refl
no-stray ILevel vs = refl
no-stray INumber vs = refl
no-stray IAdd vs = refl
no-stray IIndex vs = refl
no-stray IComparison vs = refl
no-stray ISort vs = refl
no-stray ITerm vs = refl
no-stray IHead vs = refl
no-stray IType vs = refl
no-stray ITypeHead vs = refl
no-stray IBody vs = refl
no-stray INames vs = refl
no-stray ILevels vs = refl
no-stray (IList k) vs = refl
no-stray IDecls vs = refl
no-stray IDecl vs = refl
no-stray (Do d i) vs = no-stray i (act d vs)

-- ---- the tokenizer's answers

abbrev FaultTells : (d st : ℕ) → Text → TokenFault → Type 0
FaultTells d st t (faults.Stray o) = (t ≡ Stray) × (o ≡ st)
FaultTells d st t (faults.NameBytes o) = (token_over d t ≡ Some limits.NameBytes) × (o ≡ st)
FaultTells d st t (faults.Nesting o) = (token_over d t ≡ Some limits.Nesting) × (o ≡ st)

abbrev OnFault : Result (Option Token) TokenFault → (TokenFault → Type 0) → Type 0
OnFault (Ok o) Q = Unit {0}
OnFault (Err f) Q = Q f

fault-tells : (d st : ℕ) (t : Text) → OnFault (answer_at d st t) (FaultTells d st t)
fault-tells d st Open =
    let P : Bool → Type 0 = λ b. nat_lt d 1000 ≡ b → OnFault (cond b (token kinds.Open st (st + 1)) (Err (faults.Nesting st))) (FaultTells d st Open) in
    let on : (b : Bool) → P b = λ b. elim b as P [ true ↦ λ at. tt | false ↦ λ at. (rw at refl, refl) ] in
    on (nat_lt d 1000) refl
fault-tells d st Close = tt
fault-tells d st (Atom a) =
    let P : Bool → Type 0 = λ b. nat_le (length a) 255 ≡ b → OnFault (cond b (token kinds.Atom st (st + length a)) (Err (faults.NameBytes st))) (FaultTells d st (Atom a)) in
    let on : (b : Bool) → P b = λ b. elim b as P [ true ↦ λ at. tt | false ↦ λ at. (rw at refl, refl) ] in
    on (nat_le (length a) 255) refl
fault-tells d st Stray = (refl, refl)

fault-is : (d st : ℕ) (t : Text) (f : TokenFault) → answer_at d st t ≡ Err f → FaultTells d st t f
fault-is d st t f e = subst (λ a. OnFault a (FaultTells d st t)) e (fault-tells d st t)

-- a token that the tokenizer gives passes no limit of tokens
token-within : (d st : ℕ) (t : Text) (o : Option Token) → answer_at d st t ≡ Ok o → token_over d t ≡ None
token-within d st Open o e =
    let P : Bool → Type 0 = λ b. cond b (token kinds.Open st (st + 1)) (Err (faults.Nesting st)) ≡ Ok o → unless b limits.Nesting ≡ None in
    let on : (b : Bool) → P b = λ b. elim b as P [ true ↦ λ e. refl | false ↦ λ e. absurd cc ] in
    on (nat_lt d 1000) e
token-within d st Close o e = refl
token-within d st (Atom a) o e =
    let P : Bool → Type 0 = λ b. cond b (token kinds.Atom st (st + length a)) (Err (faults.NameBytes st)) ≡ Ok o → unless b limits.NameBytes ≡ None in
    let on : (b : Bool) → P b = λ b. elim b as P [ true ↦ λ e. refl | false ↦ λ e. absurd cc ] in
    on (nat_le (length a) 255) e
token-within d st Stray o e = refl

-- ---- the place and the cause of a refusal

-- an item's refusal at a token
abbrev Here : List Item → Spanned → List Value → List Text → ReadRefusal → Type 0
Here [] s vs rest r = r ≡ refusals.Syntax s.start
Here (i ∷ is) s vs rest r =
    ((step i s.text vs ≡ None) × (r ≡ unread (foreign i s.text) s.start))
    ⊎ ((m : List Item × List Value) × (step i s.text vs ≡ Some m) × (l : Limit) × (over i s.text vs rest ≡ Some l) × (r ≡ refusals.Limit l s.start))

abbrev Cause : (len : ℕ) → List Spanned → ℕ → List Item → List Value → ReadRefusal → Type 0
Cause len [] d is vs r = end_refusal len is ≡ Some r
Cause len (s ∷ ss) d is vs r = ((f : TokenFault) × (answer_at d s.start s.text ≡ Err f) × (r ≡ fault_refusal f)) ⊎ ((o : Option Token) × (answer_at d s.start s.text ≡ Ok o) × Here is s vs (texts ss) r)

refusal_is : (a b : ReadRefusal) → Some a ≡ Some b → b ≡ a
refusal_is a b e = cc

here-cause : (is : List Item) (s : Spanned) (vs : List Value) (rest : List Text) (r : ReadRefusal) → items_refusal is s vs rest ≡ Some r → Here is s vs rest r
here-cause [] s vs rest r e = refusal_is _ _ e
here-cause (i ∷ is) s vs rest r e =
    let none : ReadRefusal = unread (foreign i s.text) s.start in
    let P : Moved → Option Limit → Type 0 = λ m l. step i s.text vs ≡ m → over i s.text vs rest ≡ l → item_refusal m none l s.start ≡ Some r → Here (i ∷ is) s vs rest r in
    let on : (m : Moved) (l : Option Limit) → P m l = λ m l. elim m as (λ m. P m l) [
      | None ↦ λ at past e. inl (at, refusal_is _ _ e)
      | Some m ↦ elim l as (λ l. P (Some m) l) [
        | None ↦ λ at past e. absurd cc
        | Some l ↦ λ at past e. inr (m, at, l, past, refusal_is _ _ e)
      ]
    ] in
    on (step i s.text vs) (over i s.text vs rest) refl refl e

cause : (len : ℕ) (rest : List Spanned) (d : ℕ) (is : List Item) (vs : List Value) (r : ReadRefusal) → rest_refusal len d rest (is, vs) ≡ Some r → Cause len rest d is vs r
cause len [] d is vs r e = e
cause len (s ∷ ss) d is vs r e =
    let P : Result (Option Token) TokenFault → Type 0 = λ a. answer_at d s.start s.text ≡ a → answer_refusal a (items_refusal is s vs (texts ss)) ≡ Some r → Cause len (s ∷ ss) d is vs r in
    let on : (a : Result (Option Token) TokenFault) → P a = λ a. elim a as P [
      | Ok o ↦ λ at e. inr (o, at, here-cause is s vs (texts ss) r e)
      | Err f ↦ λ at e. inl (f, at, refusal_is _ _ e)
    ] in
    on (answer_at d s.start s.text) refl e

record Found (len : ℕ) (tokens : List Spanned) (r : ReadRefusal) : Type 0 where
  front : List Spanned
  rest : List Spanned
  items : List Item
  values : List Value
  parts : tokens ≡ front ++ rest
  stands : state_from start [] (texts front) ≡ Some (items, values)
  nothing_before : NothingBefore front rest
  cause : Cause len rest (nesting_of 0 front) items values r

found : (len : ℕ) (tokens : List Spanned) (r : ReadRefusal) → verdict len tokens ≡ Refuse r → Found len tokens r
found len tokens r e =
    let f = refuses len tokens r e in
    let (st, stands) = f.stands in
    let here : rest_refusal len (nesting_of 0 f.front) f.rest (st.0, st.1) ≡ Some r = subst (λ o. on_state o (rest_refusal len (nesting_of 0 f.front) f.rest) ≡ Some r) stands f.arises in
    record {
      front = f.front;
      rest = f.rest;
      items = st.0;
      values = st.1;
      parts = f.parts;
      stands = stands;
      nothing_before = f.nothing_before;
      cause = cause len f.rest (nesting_of 0 f.front) st.0 st.1 r here;
    }

module _ (len : ℕ) where
  accepts : (ss : List Spanned) (d : ℕ) (is : List Item) (vs ws : List Value) → judge len ss d is vs ≡ Fine ws → run is vs (texts ss) ≡ Accepted ws
  unfolding judge run
  accepts [] d [] vs ws e = cc
  accepts [] d (i ∷ is) vs ws e = absurd cc
  accepts (s ∷ ss) d [] vs ws e =
      let P : Result (Option Token) TokenFault → Type 0 = λ a. lexed a (Refuse (refusals.Syntax s.start)) ≡ Fine ws → Refused (s.text ∷ texts ss) ≡ Accepted ws in
      let on : (a : Result (Option Token) TokenFault) → P a = λ a. elim a as P [ Ok o ↦ λ e. absurd cc | Err f ↦ λ e. absurd cc ] in
      on (answer_at d s.start s.text) e
  accepts (s ∷ ss) d (i ∷ is) vs ws e =
      let d' : ℕ = nesting_after_text d s.text in
      let go : List Item → List Value → Verdict = λ js xs. judge len ss d' (js ++ is) xs in
      let none : ReadRefusal = unread (foreign i s.text) s.start in
      let P : Moved → Option Limit → Type 0 = λ m l. moved m none l s.start go ≡ Fine ws → after m (Refused (s.text ∷ texts ss)) (λ js xs. run (js ++ is) xs (texts ss)) ≡ Accepted ws in
      let on : (m : Moved) (l : Option Limit) → P m l = λ m l. elim m as (λ m. P m l) [
        | None ↦ λ e. absurd cc
        | Some m ↦ elim l as (λ l. P (Some m) l) [
          | None ↦ λ e. accepts ss d' (m.0 ++ is) m.1 ws e
          | Some l ↦ λ e. absurd cc
        ]
      ] in
      let A : Result (Option Token) TokenFault → Type 0 = λ a. lexed a (moved (step i s.text vs) none (over i s.text vs (texts ss)) s.start go) ≡ Fine ws → after (step i s.text vs) (Refused (s.text ∷ texts ss)) (λ js xs. run (js ++ is) xs (texts ss)) ≡ Accepted ws in
      let first : (a : Result (Option Token) TokenFault) → A a = λ a. elim a as A [ Ok o ↦ λ e. on (step i s.text vs) (over i s.text vs (texts ss)) e | Err f ↦ λ e. absurd cc ] in
      first (answer_at d s.start s.text) e

-- ---- from the cause to the law

texts-append : (a b : List Spanned) → texts (a ++ b) ≡ texts a ++ texts b
texts-append [] b = refl
texts-append (s ∷ a) b = ap (λ (us : List Text). s.text ∷ us) (texts-append a b)

-- the items refuse what is to come
abbrev Stuck : List Item → List Value → List Text → Type 0
Stuck is vs rest = (s : List Text) → run is vs (same_first rest s) ≡ Refused (same_first rest s)

stuck-end : (i : Item) (is : List Item) (vs : List Value) → Stuck (i ∷ is) vs []
unfolding run
stuck-end i is vs = λ s. refl

stuck-none : (is : List Item) (vs : List Value) (t : Text) (rest : List Text) → ((i : Item) (js : List Item) → is ≡ i ∷ js → step i t vs ≡ None) → Stuck is vs (t ∷ rest)
unfolding run
stuck-none [] vs t rest h = λ s. refl
stuck-none (i ∷ is) vs t rest h = λ s. rw (h i is refl) refl

first-of : (i j : Item) (is js : List Item) → i ∷ is ≡ j ∷ js → i ≡ j
first-of i j is js e = cc

none-first : (i : Item) (is : List Item) (vs : List Value) (t : Text) → step i t vs ≡ None → (j : Item) (js : List Item) → i ∷ is ≡ j ∷ js → step j t vs ≡ None
none-first i is vs t e j js at = subst (λ j. step j t vs ≡ None) (first-of i j is js at) e

module _ (len : ℕ) (tokens front : List Spanned) where
  -- these items and values stand behind the front
  abbrev Reaches : List Item → List Value → Type 0
  Reaches is vs = state_from start [] (texts front) ≡ Some (is, vs)

  dead-here : (rest : List Spanned) (is : List Item) (vs : List Value) → Reaches is vs → Stuck is vs (texts rest) → IsDead (texts front) (texts rest)
  dead-here rest is vs reached stuck = dead_at (texts front) (texts rest) is vs (run-of-state (texts front) start [] (is, vs) reached) stuck

  syntax-at : (rest : List Spanned) (is : List Item) (vs : List Value) (o : ℕ) → tokens ≡ front ++ rest → Reaches is vs → Stuck is vs (texts rest) → o ≡ place len rest → SyntaxAt len tokens o
  syntax-at rest is vs o parts reached stuck at =
      record { front = front; rest = rest; parts = parts; begins = begins (texts front) (is, vs) reached; dead = dead-here rest is vs reached stuck; at = at }

  stray-stuck : (is : List Item) (vs : List Value) (t : Text) (rest : List Text) → t ≡ Stray → Stuck is vs (t ∷ rest)
  stray-stuck is vs t rest e = stuck-none is vs t rest (λ i js at. subst (λ t. step i t vs ≡ None) (sym e) (no-stray i vs))

  unread-syntax : (f : Option Foreign) (st o : ℕ) → refusals.Syntax o ≡ unread f st → o ≡ st
  unread-syntax None st o e = cc
  unread-syntax (Some f) st o e = absurd cc

  fault-syntax : (s : Spanned) (ss : List Spanned) (is : List Item) (vs : List Value) (o : ℕ) → tokens ≡ front ++ s ∷ ss → Reaches is vs → (f : TokenFault) → answer_at (nesting_of 0 front) s.start s.text ≡ Err f → refusals.Syntax o ≡ fault_refusal f → SyntaxAt len tokens o
  fault-syntax s ss is vs o parts reached (faults.Stray p) at e =
      let h = fault-is (nesting_of 0 front) s.start s.text (faults.Stray p) at in
      let same : o ≡ p = cc in
      syntax-at (s ∷ ss) is vs o parts reached (stray-stuck is vs s.text (texts ss) h.0) (same ∙ h.1)
  fault-syntax s ss is vs o parts reached (faults.NameBytes p) at e = absurd cc
  fault-syntax s ss is vs o parts reached (faults.Nesting p) at e = absurd cc

  syntax-cause : (rest : List Spanned) (is : List Item) (vs : List Value) (o : ℕ) → tokens ≡ front ++ rest → Reaches is vs → Cause len rest (nesting_of 0 front) is vs (refusals.Syntax o) → SyntaxAt len tokens o
  syntax-cause [] [] vs o parts reached c = absurd cc
  syntax-cause [] (i ∷ is) vs o parts reached c = syntax-at [] (i ∷ is) vs o parts reached (stuck-end i is vs) (cc)
  syntax-cause (s ∷ ss) [] vs o parts reached c =
      elim c [
        | inl h ↦ fault-syntax s ss [] vs o parts reached h.0 h.1 h.2
        | inr h ↦ (let e : refusals.Syntax o ≡ refusals.Syntax s.start = h.2 in syntax-at (s ∷ ss) [] vs o parts reached (stuck-none [] vs s.text (texts ss) (λ i js at. absurd cc)) (cc))
      ]
  syntax-cause (s ∷ ss) (i ∷ is) vs o parts reached c =
      elim c [
        | inl h ↦ fault-syntax s ss (i ∷ is) vs o parts reached h.0 h.1 h.2
        | inr h ↦ elim h.2 [
          | inl n ↦ syntax-at (s ∷ ss) (i ∷ is) vs o parts reached (stuck-none (i ∷ is) vs s.text (texts ss) (none-first i is vs s.text n.0)) (unread-syntax (foreign i s.text) s.start o n.1)
          | inr l ↦ (let e : refusals.Syntax o ≡ refusals.Limit l.2 s.start = l.4 in absurd cc)
        ]
      ]

  reached-at : (here : Spanned) (rest : List Spanned) (is : List Item) (vs : List Value) → tokens ≡ front ++ here ∷ rest → NothingBefore front (here ∷ rest) → Reaches is vs → Reached tokens here rest is vs (nesting_of 0 front)
  reached-at here rest is vs parts before reached =
      record { front = front; parts = parts; nothing_before = before; stands = reached; nesting_is = refl; begins = begins (texts front) (is, vs) reached }

  no-unsupported-fault : (f : TokenFault) (w : Foreign) (o : ℕ) → refusals.Unsupported w o ≡ fault_refusal f → ⊥
  no-unsupported-fault (faults.Stray p) w o e = cc
  no-unsupported-fault (faults.NameBytes p) w o e = cc
  no-unsupported-fault (faults.Nesting p) w o e = cc

  unread-foreign : (f : Option Foreign) (st o : ℕ) (w : Foreign) → refusals.Unsupported w o ≡ unread f st → (f ≡ Some w) × (o ≡ st)
  unread-foreign None st o w e = absurd cc
  unread-foreign (Some f) st o w e = (cc, cc)

  unsupported-cause : (rest : List Spanned) (is : List Item) (vs : List Value) (w : Foreign) (o : ℕ) → tokens ≡ front ++ rest → NothingBefore front rest → Reaches is vs → Cause len rest (nesting_of 0 front) is vs (refusals.Unsupported w o) → UnsupportedAt tokens w o
  unfolding reached-at
  unsupported-cause [] [] vs w o parts before reached c = absurd cc
  unsupported-cause [] (i ∷ is) vs w o parts before reached c = absurd cc
  unsupported-cause (s ∷ ss) [] vs w o parts before reached c =
      elim c [
        | inl h ↦ absurd (no-unsupported-fault h.0 w o h.2)
        | inr h ↦ (let e : refusals.Unsupported w o ≡ refusals.Syntax s.start = h.2 in absurd cc)
      ]
  unsupported-cause (s ∷ ss) (i ∷ is) vs w o parts before reached c =
      elim c [
        | inl h ↦ absurd (no-unsupported-fault h.0 w o h.2)
        | inr h ↦ elim h.2 [
          | inl n ↦
              (let f = unread-foreign (foreign i s.text) s.start o w n.1 in
              record {
                here = s;
                rest = ss;
                item = i;
                items = is;
                values = vs;
                nesting = nesting_of 0 front;
                reached = reached-at s ss (i ∷ is) vs parts before reached;
                within = token-within (nesting_of 0 front) s.start s.text h.0 h.1;
                stands = f.0;
                dead = dead-here (s ∷ ss) (i ∷ is) vs reached (stuck-none (i ∷ is) vs s.text (texts ss) (none-first i is vs s.text n.0));
                at = f.1;
              })
          | inr l ↦ (let e : refusals.Unsupported w o ≡ refusals.Limit l.2 s.start = l.4 in absurd cc)
        ]
      ]

  fault-limit : (d st : ℕ) (t : Text) (f : TokenFault) (l : Limit) (o : ℕ) → answer_at d st t ≡ Err f → refusals.Limit l o ≡ fault_refusal f → (token_over d t ≡ Some l) × (o ≡ st)
  fault-limit d st t (faults.Stray p) l o at e = absurd cc
  fault-limit d st t (faults.NameBytes p) l o at e =
      let h = fault-is d st t (faults.NameBytes p) at in
      let which : limits.NameBytes ≡ l = cc in
      let same : o ≡ p = cc in
      (h.0 ∙ ap Some which, same ∙ h.1)
  fault-limit d st t (faults.Nesting p) l o at e =
      let h = fault-is d st t (faults.Nesting p) at in
      let which : limits.Nesting ≡ l = cc in
      let same : o ≡ p = cc in
      (h.0 ∙ ap Some which, same ∙ h.1)

  unread-no_limit : (f : Option Foreign) (st o : ℕ) (l : Limit) → refusals.Limit l o ≡ unread f st → ⊥
  unread-no_limit None st o l e = cc
  unread-no_limit (Some f) st o l e = cc

  limit-at : (s : Spanned) (ss : List Spanned) (is : List Item) (vs : List Value) (l : Limit) (o : ℕ) → tokens ≡ front ++ s ∷ ss → NothingBefore front (s ∷ ss) → Reaches is vs → PassesAt (nesting_of 0 front) is s vs ss l → o ≡ s.start → LimitAt tokens l o
  limit-at s ss is vs l o parts before reached passes at =
      record { here = s; rest = ss; items = is; values = vs; nesting = nesting_of 0 front; reached = reached-at s ss is vs parts before reached; passes = passes; at = at }

  limit-cause : (rest : List Spanned) (is : List Item) (vs : List Value) (l : Limit) (o : ℕ) → tokens ≡ front ++ rest → NothingBefore front rest → Reaches is vs → Cause len rest (nesting_of 0 front) is vs (refusals.Limit l o) → LimitAt tokens l o
  limit-cause [] [] vs l o parts before reached c = absurd cc
  limit-cause [] (i ∷ is) vs l o parts before reached c = absurd cc
  limit-cause (s ∷ ss) [] vs l o parts before reached c =
      elim c [
        | inl h ↦ (let f = fault-limit (nesting_of 0 front) s.start s.text h.0 l o h.1 h.2 in limit-at s ss [] vs l o parts before reached (inl f.0) f.1)
        | inr h ↦ (let e : refusals.Limit l o ≡ refusals.Syntax s.start = h.2 in absurd cc)
      ]
  limit-cause (s ∷ ss) (i ∷ is) vs l o parts before reached c =
      elim c [
        | inl h ↦ (let f = fault-limit (nesting_of 0 front) s.start s.text h.0 l o h.1 h.2 in limit-at s ss (i ∷ is) vs l o parts before reached (inl f.0) f.1)
        | inr h ↦ elim h.2 [
          | inl n ↦ absurd (unread-no_limit (foreign i s.text) s.start o l n.1)
          | inr n ↦
              (let e : refusals.Limit l o ≡ refusals.Limit n.2 s.start = n.4 in
              let which : n.2 ≡ l = cc in
              let within : token_over (nesting_of 0 front) s.text ≡ None = token-within (nesting_of 0 front) s.start s.text h.0 h.1 in
              limit-at s ss (i ∷ is) vs l o parts before reached (inr (within, (n.0, n.1, n.3 ∙ ap Some which))) (cc))
        ]
      ]

  no-memory-fault : (f : TokenFault) → refusals.Memory ≡ fault_refusal f → ⊥
  no-memory-fault (faults.Stray p) e = cc
  no-memory-fault (faults.NameBytes p) e = cc
  no-memory-fault (faults.Nesting p) e = cc

  no-memory-unread : (f : Option Foreign) (st : ℕ) → refusals.Memory ≡ unread f st → ⊥
  no-memory-unread None st e = cc
  no-memory-unread (Some f) st e = cc

  memory-cause : (rest : List Spanned) (is : List Item) (vs : List Value) → Cause len rest (nesting_of 0 front) is vs refusals.Memory → ⊥
  memory-cause [] [] vs c = cc
  memory-cause [] (i ∷ is) vs c = cc
  memory-cause (s ∷ ss) [] vs c = elim c [ inl h ↦ no-memory-fault h.0 h.2 | inr h ↦ (let e : refusals.Memory ≡ refusals.Syntax s.start = h.2 in cc) ]
  memory-cause (s ∷ ss) (i ∷ is) vs c =
      elim c [
        | inl h ↦ no-memory-fault h.0 h.2
        | inr h ↦ elim h.2 [
          | inl n ↦ no-memory-unread (foreign i s.text) s.start n.1
          | inr n ↦ (let e : refusals.Memory ≡ refusals.Limit n.2 s.start = n.4 in cc)
        ]
      ]

-- ---- from the place to the refusal

-- a token over its limit is a fault
over-fault : (d st : ℕ) (t : Text) (l : Limit) → token_over d t ≡ Some l → (f : TokenFault) × (answer_at d st t ≡ Err f) × (fault_refusal f ≡ refusals.Limit l st)
over-fault d st Open l e =
    let P : Bool → Type 0 = λ b. unless b limits.Nesting ≡ Some l → (f : TokenFault) × (cond b (token kinds.Open st (st + 1)) (Err (faults.Nesting st)) ≡ Err f) × (fault_refusal f ≡ refusals.Limit l st) in
    let on : (b : Bool) → P b = λ b. elim b as P [ true ↦ λ e. absurd cc | false ↦ λ e. (faults.Nesting st, refl, cc) ] in
    on (nat_lt d 1000) e
over-fault d st Close l e = absurd cc
over-fault d st (Atom a) l e =
    let P : Bool → Type 0 = λ b. unless b limits.NameBytes ≡ Some l → (f : TokenFault) × (cond b (token kinds.Atom st (st + length a)) (Err (faults.NameBytes st)) ≡ Err f) × (fault_refusal f ≡ refusals.Limit l st) in
    let on : (b : Bool) → P b = λ b. elim b as P [ true ↦ λ e. absurd cc | false ↦ λ e. (faults.NameBytes st, refl, cc) ] in
    on (nat_le (length a) 255) e
over-fault d st Stray l e = absurd cc

-- one within it is a token, unless it is none
within-answer : (d st : ℕ) (t : Text) → token_over d t ≡ None → (t ≡ Stray → ⊥) → (o : Option Token) × (answer_at d st t ≡ Ok o)
within-answer d st Open e real =
    let P : Bool → Type 0 = λ b. unless b limits.Nesting ≡ None → (o : Option Token) × (cond b (token kinds.Open st (st + 1)) (Err (faults.Nesting st)) ≡ Ok o) in
    let on : (b : Bool) → P b = λ b. elim b as P [ true ↦ λ e. (Some (record { kind = kinds.Open; start = st; «end» = st + 1 }), refl) | false ↦ λ e. absurd cc ] in
    on (nat_lt d 1000) e
within-answer d st Close e real = (Some (record { kind = kinds.Close; start = st; «end» = st + 1 }), refl)
within-answer d st (Atom a) e real =
    let P : Bool → Type 0 = λ b. unless b limits.NameBytes ≡ None → (o : Option Token) × (cond b (token kinds.Atom st (st + length a)) (Err (faults.NameBytes st)) ≡ Ok o) in
    let on : (b : Bool) → P b = λ b. elim b as P [ true ↦ λ e. (Some (record { kind = kinds.Atom; start = st; «end» = st + length a }), refl) | false ↦ λ e. absurd cc ] in
    on (nat_le (length a) 255) e
within-answer d st Stray e real = absurd (real refl)

no-foreign-stray : (i : Item) → foreign i Stray ≡ None
no-foreign-stray IOpen = refl
no-foreign-stray IClose = refl
no-foreign-stray IEnd = refl
no-foreign-stray IEntryEnd = refl
no-foreign-stray (IWord w) = refl
no-foreign-stray IParams = refl
no-foreign-stray IVersion = refl
no-foreign-stray IBinder = refl
no-foreign-stray IName = refl
no-foreign-stray ILevel = refl
no-foreign-stray INumber = refl
no-foreign-stray IAdd = refl
no-foreign-stray IIndex = refl
no-foreign-stray IComparison = refl
no-foreign-stray ISort = refl
no-foreign-stray ITerm = refl
no-foreign-stray IHead = refl
no-foreign-stray IType = refl
no-foreign-stray ITypeHead = refl
no-foreign-stray IBody = refl
no-foreign-stray INames = refl
no-foreign-stray ILevels = refl
no-foreign-stray (IList k) = refl
no-foreign-stray IDecls = refl
no-foreign-stray IDecl = refl
no-foreign-stray (Do d i) = no-foreign-stray i

foreign-real : (i : Item) (t : Text) (w : Foreign) → foreign i t ≡ Some w → t ≡ Stray → ⊥
foreign-real i t w e at = (let h : foreign i t ≡ None = subst (λ t. foreign i t ≡ None) (sym at) (no-foreign-stray i) in cc)

step-real : (i : Item) (t : Text) (vs : List Value) (m : List Item × List Value) → step i t vs ≡ Some m → t ≡ Stray → ⊥
step-real i t vs m e at = (let h : step i t vs ≡ None = subst (λ t. step i t vs ≡ None) (sym at) (no-stray i vs) in cc)

module _ (len : ℕ) (tokens : List Spanned) where
  -- what arises behind tokens at which nothing arises is the verdict
  refused-there : (here : Spanned) (rest : List Spanned) (is : List Item) (vs : List Value) (d : ℕ) (r : ReadRefusal) → Reached tokens here rest is vs d → token_refusal d here rest (is, vs) ≡ Some r → verdict len tokens ≡ Refuse r
  refused-there here rest is vs d r reached e =
      let at : token_refusal (nesting_of 0 reached.front) here rest (is, vs) ≡ Some r = subst (λ d. token_refusal d here rest (is, vs) ≡ Some r) reached.nesting_is e in
      refused len tokens r (record {
        front = reached.front;
        rest = here ∷ rest;
        parts = reached.parts;
        stands = ((is, vs), reached.stands);
        arises = ap (λ o. on_state o (rest_refusal len (nesting_of 0 reached.front) (here ∷ rest))) reached.stands ∙ at;
        nothing_before = reached.nothing_before;
      })

  -- no text goes on with the token, so its item doesn't take it
  stuck-there : (here : Spanned) (rest : List Spanned) (i : Item) (is : List Item) (vs : List Value) (d : ℕ) (q : Reached tokens here rest (i ∷ is) vs d) → IsDead (texts q.front) (texts (here ∷ rest)) → step i here.text vs ≡ None
  stuck-there here rest i is vs d q dead =
      let P : Moved → Type 0 = λ m. step i here.text vs ≡ m → m ≡ None in
      let on : (m : Moved) → P m = λ m. elim m as P [
        | None ↦ λ e. refl
        | Some m ↦ λ e. absurd (dead (begins (texts q.front ++ here.text ∷ []) (m.0 ++ is, m.1) (state-further (texts q.front) here.text start i is [] vs m q.stands e)))
      ] in
      on (step i here.text vs) refl

  unsupported-refused : (w : Foreign) (o : ℕ) → UnsupportedAt tokens w o → verdict len tokens ≡ Refuse (refusals.Unsupported w o)
  unsupported-refused w o h =
      let none = stuck-there h.here h.rest h.item h.items h.values h.nesting h.reached h.dead in
      let (token, lexes) = within-answer h.nesting h.here.start h.here.text h.within (foreign-real h.item h.here.text w h.stands) in
      let e : token_refusal h.nesting h.here h.rest (h.item ∷ h.items, h.values) ≡ Some (refusals.Unsupported w h.here.start) = rw (lexes, none, h.stands) refl in
      refused-there h.here h.rest (h.item ∷ h.items) h.values h.nesting (refusals.Unsupported w o) h.reached (e ∙ ap (λ o. Some (refusals.Unsupported w o)) (sym h.at))

  passes-refused : (d : ℕ) (here : Spanned) (rest : List Spanned) (is : List Item) (vs : List Value) (l : Limit) → PassesAt d is here vs rest l → token_refusal d here rest (is, vs) ≡ Some (refusals.Limit l here.start)
  passes-refused d here rest is vs l (inl past) = (let (f, fault, is-limit) = over-fault d here.start here.text l past in ap (λ a. answer_refusal a (items_refusal is here vs (texts rest))) fault ∙ ap Some is-limit)
  passes-refused d here rest [] vs l (inr (within, nothing)) = absurd nothing
  passes-refused d here rest (i ∷ is) vs l (inr (within, (m, moves, past))) =
      let (token, lexes) = within-answer d here.start here.text within (step-real i here.text vs m moves) in
      rw (lexes, moves, past) refl

  limit-refused : (l : Limit) (o : ℕ) → LimitAt tokens l o → verdict len tokens ≡ Refuse (refusals.Limit l o)
  limit-refused l o h =
      refused-there h.here h.rest h.items h.values h.nesting (refusals.Limit l o) h.reached
      (passes-refused h.nesting h.here h.rest h.items h.values l h.passes ∙ ap (λ o. Some (refusals.Limit l o)) (sym h.at))

-- ---- the law

is-syntax : (len : ℕ) (tokens : List Spanned) (o : ℕ) → verdict len tokens ≡ Refuse (refusals.Syntax o) → SyntaxAt len tokens o
is-syntax len tokens o e =
    let h = found len tokens (refusals.Syntax o) e in
    syntax-cause len tokens h.front h.rest h.items h.values o h.parts h.stands h.cause

is-unsupported : (len : ℕ) (tokens : List Spanned) (w : Foreign) (o : ℕ) → verdict len tokens ≡ Refuse (refusals.Unsupported w o) → UnsupportedAt tokens w o
is-unsupported len tokens w o e =
    let h = found len tokens (refusals.Unsupported w o) e in
    unsupported-cause len tokens h.front h.rest h.items h.values w o h.parts h.nothing_before h.stands h.cause

is-limit : (len : ℕ) (tokens : List Spanned) (l : Limit) (o : ℕ) → verdict len tokens ≡ Refuse (refusals.Limit l o) → LimitAt tokens l o
is-limit len tokens l o e =
    let h = found len tokens (refusals.Limit l o) e in
    limit-cause len tokens h.front h.rest h.items h.values l o h.parts h.nothing_before h.stands h.cause

no-memory : (len : ℕ) (tokens : List Spanned) → verdict len tokens ≡ Refuse refusals.Memory → ⊥
no-memory len tokens e =
    let h = found len tokens refusals.Memory e in
    memory-cause len tokens h.front h.rest h.items h.values h.cause

-- no environment is spelled where no text goes on
unspelled : (tokens front rest : List Spanned) (env : NamedEnv) → tokens ≡ front ++ rest → IsDead (texts front) (texts rest) → SpellsEnv (texts tokens) env → ⊥
unspelled tokens front rest env parts dead p = dead-apart (texts front) (texts rest) env dead (subst (λ ts. SpellsEnv ts env) (ap texts parts ∙ texts-append front rest) p)

is-fine : (len : ℕ) (tokens : List Spanned) (ws : List Value) → verdict len tokens ≡ Fine ws → (env : NamedEnv) × (ws ≡ VEnv env ∷ []) × SpellsEnv (texts tokens) env
is-fine len tokens ws e = subst (λ (o : ReadOutcome). MeetsTokens o (texts tokens)) (accepts len tokens 0 start [] ws e) (exact.outcome (texts tokens))

is-spelled : (len : ℕ) (tokens : List Spanned) (env : NamedEnv) → SpellsEnv (texts tokens) env → (verdict len tokens ≡ Fine (VEnv env ∷ [])) ⊎ ((l : Limit) × (o : ℕ) × (verdict len tokens ≡ Refuse (refusals.Limit l o)))
is-spelled len tokens env p =
    let Goal : Type 0 = (verdict len tokens ≡ Fine (VEnv env ∷ [])) ⊎ ((l : Limit) × (o : ℕ) × (verdict len tokens ≡ Refuse (refusals.Limit l o))) in
    let R : ReadRefusal → Type 0 = λ r. verdict len tokens ≡ Refuse r → Goal in
    let refused : (r : ReadRefusal) → R r = λ r. elim r as R [
      | refusals.Syntax o ↦ λ e. (let h = is-syntax len tokens o e in absurd (unspelled tokens h.front h.rest env h.parts h.dead p))
      | refusals.Unsupported w o ↦ λ e. (let h = is-unsupported len tokens w o e in absurd (unspelled tokens h.reached.front (h.here ∷ h.rest) env h.reached.parts h.dead p))
      | refusals.Limit l o ↦ λ e. inr (l, o, e)
      | refusals.Memory ↦ λ e. absurd (no-memory len tokens e)
    ] in
    let P : Verdict → Type 0 = λ v. verdict len tokens ≡ v → Goal in
    let on : (v : Verdict) → P v = λ v. elim v as P [
      | Fine ws ↦ λ e.
          (let (other, values, q) = is-fine len tokens ws e in
          let same = exact.one_meaning (texts tokens) other env q p in
          inl (e ∙ ap Fine (values ∙ ap (λ (x : NamedEnv). VEnv x ∷ []) same)))
      | Refuse r ↦ λ e. refused r e
    ] in
    on (verdict len tokens) refl

pub judged : IsJudged
judged =
    record {
      fine = is-fine;
      syntax = is-syntax;
      unsupported = is-unsupported;
      limit = is-limit;
      unsupported_there = unsupported-refused;
      limit_there = limit-refused;
      memory = no-memory;
      spelled = is-spelled;
    }
