-- The verdict is the first refusal.
use Rattle.std.proofs.Common.{◌≡◌, ℕ, List, [], ◌∷◌, ◌++◌, Option, Some, None, Result, Ok, Err, refl, sym, ap, subst, ◌∙◌}
use Rattle.sexp_reader.specs.Text.{Text}
use Rattle.sexp_reader.specs.Lex.{Spanned, answer_at, nesting_after_text}
use Rattle.sexp_reader.specs.declared.Token.{Token}
use Rattle.sexp_reader.specs.declared.TokenFault.{TokenFault}
use Rattle.dump_grammar.specs.declared.refusal.Limit.{Limit}
use Rattle.dump_grammar.specs.declared.refusal.ReadRefusal.{ReadRefusal}
use Rattle.dump_grammar.specs.declared.refusal.ReadRefusal.TheVariants as refusals
use Rattle.dump_grammar.specs.Table.{Value, VEnv, Item, start, Moved, step, Accepted, Refused, after, run}
use Rattle.dump_grammar.specs.Exactness.{Begins}
use Rattle.dump_grammar.proofs.Exact.{exact, alive}
use Rattle.dump_grammar.specs.Foreign.{foreign}
use Rattle.dump_grammar.specs.Limits.{over}
use Rattle.dump_grammar.specs.Judge.{texts, Verdict, Refuse, lexed, unread, moved, judge, verdict}
use Rattle.dump_grammar.specs.FirstRefusal.{nesting_of, ReadState, onward, state_from, item_refusal, items_refusal, answer_refusal, end_refusal, rest_refusal, on_state, refusal_from, IsFirstRefusal, IsFirst}

-- a verdict refuses for one cause
pub refusal_is : (a b : ReadRefusal) → Refuse a ≡ Refuse b → a ≡ b
refusal_is a b e = cc

same_first : (a b : Spanned) (xs ys : List Spanned) → a ∷ xs ≡ b ∷ ys → a ≡ b
same_first a b xs ys e = cc

same_rest : (a b : Spanned) (xs ys : List Spanned) → a ∷ xs ≡ b ∷ ys → xs ≡ ys
same_rest a b xs ys e = cc

module _ (len : ℕ) where
  -- ---- one token

  -- what an item's verdict says, where nothing arises
  abbrev Takes : (d : ℕ) (i : Item) (vs : List Value) (s : Spanned) (ss : List Spanned) → List Item × List Value → Type 0
  Takes d i vs s ss m = (step i s.text vs ≡ Some m) × (answer_refusal (answer_at d s.start s.text) (items_refusal (i ∷ []) s vs (texts ss)) ≡ None)

  -- The verdict here is what arises here, or the verdict on the rest.
  judge-refusal : (d : ℕ) (ss : List Spanned) (is : List Item) (vs : List Value) (r : ReadRefusal) → rest_refusal len d ss (is, vs) ≡ Some r → judge len ss d is vs ≡ Refuse r
  unfolding judge
  judge-refusal d [] [] vs r e = absurd cc
  judge-refusal d [] (i ∷ is) vs r e = cc
  judge-refusal d (s ∷ ss) [] vs r e =
      let P : Result (Option Token) TokenFault → Type 0 = λ a. answer_refusal a (Some (refusals.Syntax s.start)) ≡ Some r → lexed a (Refuse (refusals.Syntax s.start)) ≡ Refuse r in
      let on : (a : Result (Option Token) TokenFault) → P a = λ a. elim a as P [ Ok o ↦ λ e. cc | Err f ↦ λ e. cc ] in
      on (answer_at d s.start s.text) e
  judge-refusal d (s ∷ ss) (i ∷ is) vs r e =
      let go : List Item → List Value → Verdict = λ js xs. judge len ss (nesting_after_text d s.text) (js ++ is) xs in
      let none : ReadRefusal = unread (foreign i s.text) s.start in
      let M : Moved → Option Limit → Type 0 = λ m l. item_refusal m none l s.start ≡ Some r → moved m none l s.start go ≡ Refuse r in
      let on : (m : Moved) (l : Option Limit) → M m l = λ m l. elim m as (λ m. M m l) [
        | None ↦ λ e. cc
        | Some m ↦ elim l as (λ l. M (Some m) l) [ None ↦ λ e. absurd cc | Some l ↦ λ e. cc ]
      ] in
      let m : Moved = step i s.text vs in
      let l : Option Limit = over i s.text vs (texts ss) in
      let P : Result (Option Token) TokenFault → Type 0 = λ a. answer_refusal a (item_refusal m none l s.start) ≡ Some r → lexed a (moved m none l s.start go) ≡ Refuse r in
      let first : (a : Result (Option Token) TokenFault) → P a = λ a. elim a as P [ Ok o ↦ λ e. on m l e | Err f ↦ λ e. cc ] in
      first (answer_at d s.start s.text) e

  -- a step at which nothing arises
  record Steps (d : ℕ) (s : Spanned) (ss : List Spanned) (is : List Item) (vs : List Value) : Type 0 where
    item : Item
    items : List Item
    are : is ≡ item ∷ items
    to : List Item × List Value
    moves : step item s.text vs ≡ Some to
    goes : judge len (s ∷ ss) d is vs ≡ judge len ss (nesting_after_text d s.text) (to.0 ++ items) to.1

  quiet-steps : (d : ℕ) (s : Spanned) (ss : List Spanned) (is : List Item) (vs : List Value) → rest_refusal len d (s ∷ ss) (is, vs) ≡ None → Steps d s ss is vs
  unfolding judge
  quiet-steps d s ss [] vs e =
      let P : Result (Option Token) TokenFault → Type 0 = λ a. answer_refusal a (Some (refusals.Syntax s.start)) ≡ None → Steps d s ss [] vs in
      let on : (a : Result (Option Token) TokenFault) → P a = λ a. elim a as P [ Ok o ↦ λ e. absurd cc | Err f ↦ λ e. absurd cc ] in
      on (answer_at d s.start s.text) e
  quiet-steps d s ss (i ∷ is) vs e =
      let go : List Item → List Value → Verdict = λ js xs. judge len ss (nesting_after_text d s.text) (js ++ is) xs in
      let none : ReadRefusal = unread (foreign i s.text) s.start in
      let l : Option Limit = over i s.text vs (texts ss) in
      let P : Result (Option Token) TokenFault → Type 0 = λ a. answer_at d s.start s.text ≡ a → answer_refusal a (item_refusal (step i s.text vs) none l s.start) ≡ None → Steps d s ss (i ∷ is) vs in
      let M : Moved → Type 0 = λ m. step i s.text vs ≡ m → (o : Option Token) → answer_at d s.start s.text ≡ Ok o → item_refusal m none l s.start ≡ None → Steps d s ss (i ∷ is) vs in
      let on : (m : Moved) → M m = λ m. elim m as M [
        | None ↦ λ at o ok e. absurd cc
        | Some m ↦ λ at o ok e.
            let Q : Option Limit → Type 0 = λ l. over i s.text vs (texts ss) ≡ l → item_refusal (Some m) none l s.start ≡ None → Steps d s ss (i ∷ is) vs in
            let quiet : (l : Option Limit) → Q l = λ l. elim l as Q [
              | None ↦ λ no e. record { item = i; items = is; are = refl; to = m; moves = at; goes = rw (ok, at, no) refl }
              | Some l ↦ λ no e. absurd cc
            ] in
            quiet l refl e
      ] in
      let first : (a : Result (Option Token) TokenFault) → P a = λ a. elim a as P [
        | Ok o ↦ λ at e. on (step i s.text vs) refl o at e
        | Err f ↦ λ at e. absurd cc
      ] in
      first (answer_at d s.start s.text) refl e

  -- ---- the front

  abbrev Before : ℕ → List Item → List Value → List Spanned → List Spanned → Type 0
  Before d is vs front rest = (before : List Spanned) (s : Spanned) (after : List Spanned) → front ≡ before ++ s ∷ after → refusal_from len d is vs before (s ∷ after ++ rest) ≡ None

  state-step : (i : Item) (is : List Item) (vs : List Value) (t : Text) (ts : List Text) (m : List Item × List Value) → step i t vs ≡ Some m → state_from (i ∷ is) vs (t ∷ ts) ≡ state_from (m.0 ++ is) m.1 ts
  unfolding state_from
  state-step i is vs t ts m e = rw e refl

  state-none : (is : List Item) (vs : List Value) → state_from is vs [] ≡ Some (is, vs)
  unfolding state_from
  state-none is vs = refl

  -- A state behind a step is that of the state that the step leaves.
  further : (d : ℕ) (s : Spanned) (ss : List Spanned) (is : List Item) (vs : List Value) (q : Steps d s ss is vs) (ts : List Text) → state_from is vs (s.text ∷ ts) ≡ state_from (q.to.0 ++ q.items) q.to.1 ts
  further d s ss is vs q ts = ap (λ (is : List Item). state_from is vs (s.text ∷ ts)) q.are ∙ state-step q.item q.items vs s.text ts q.to q.moves

  -- What arises behind a step.
  refusal-further : (d : ℕ) (s : Spanned) (ss : List Spanned) (is : List Item) (vs : List Value) (q : Steps d s ss is vs) (front rest : List Spanned) →
      refusal_from len d is vs (s ∷ front) rest ≡ refusal_from len (nesting_after_text d s.text) (q.to.0 ++ q.items) q.to.1 front rest
  refusal-further d s ss is vs q front rest = ap (λ o. on_state o (rest_refusal len (nesting_of (nesting_after_text d s.text) front) rest)) (further d s ss is vs q (texts front))

  -- What arises at the first token.
  refusal-here : (d : ℕ) (is : List Item) (vs : List Value) (rest : List Spanned) → refusal_from len d is vs [] rest ≡ rest_refusal len d rest (is, vs)
  refusal-here d is vs rest = ap (λ o. on_state o (rest_refusal len d rest)) (state-none is vs)

  -- Behind a front at which nothing arises, the verdict is that of its state.
  behind : (front rest : List Spanned) (d : ℕ) (is : List Item) (vs : List Value) (st : ReadState) → state_from is vs (texts front) ≡ Some st → Before d is vs front rest → judge len (front ++ rest) d is vs ≡ judge len rest (nesting_of d front) st.0 st.1
  behind [] rest d is vs st e h =
      let pair : ReadState = (is, vs) in
      let at : Some pair ≡ Some st = sym (state-none is vs) ∙ e in
      let same : pair ≡ st = cc in
      ap (λ (st : ReadState). judge len rest d st.0 st.1) same
  behind (s ∷ front) rest d is vs st e h =
      let here : rest_refusal len d (s ∷ front ++ rest) (is, vs) ≡ None = sym (refusal-here d is vs (s ∷ front ++ rest)) ∙ h [] s front refl in
      let q = quiet-steps d s (front ++ rest) is vs here in
      q.goes ∙ behind front rest (nesting_after_text d s.text) (q.to.0 ++ q.items) q.to.1 st (sym (further d s (front ++ rest) is vs q (texts front)) ∙ e)
      (λ before s' after parts. sym (refusal-further d s (front ++ rest) is vs q before (s' ∷ after ++ rest)) ∙ h (s ∷ before) s' after (ap (λ (xs : List Spanned). s ∷ xs) parts))

  -- ---- the first place

  record First (d : ℕ) (tokens : List Spanned) (is : List Item) (vs : List Value) (r : ReadRefusal) : Type 0 where
    front : List Spanned
    rest : List Spanned
    parts : tokens ≡ front ++ rest
    stands : (st : ReadState) × (state_from is vs (texts front) ≡ Some st)
    arises : refusal_from len d is vs front rest ≡ Some r
    before : Before d is vs front rest

  nothing : (before : List Spanned) (s : Spanned) (after : List Spanned) → [] ≡ before ++ s ∷ after → ⊥
  nothing [] s after e = cc
  nothing (x ∷ before) s after e = cc

  first-here : (d : ℕ) (tokens : List Spanned) (is : List Item) (vs : List Value) (r : ReadRefusal) → rest_refusal len d tokens (is, vs) ≡ Some r → First d tokens is vs r
  first-here d tokens is vs r e =
      record {
        front = [];
        rest = tokens;
        parts = refl;
        stands = ((is, vs), state-none is vs);
        arises = refusal-here d is vs tokens ∙ e;
        before = λ before s after at. absurd (nothing before s after at);
      }

  first-further : (d : ℕ) (s : Spanned) (ss : List Spanned) (is : List Item) (vs : List Value) (r : ReadRefusal) → rest_refusal len d (s ∷ ss) (is, vs) ≡ None
      → (q : Steps d s ss is vs) → First (nesting_after_text d s.text) ss (q.to.0 ++ q.items) q.to.1 r → First d (s ∷ ss) is vs r
  first-further d s ss is vs r e q f =
      let quiet : refusal_from len d is vs [] (s ∷ f.front ++ f.rest) ≡ None = refusal-here d is vs (s ∷ f.front ++ f.rest) ∙ subst (λ xs. rest_refusal len d (s ∷ xs) (is, vs) ≡ None) f.parts e in
      let P : List Spanned → Type 0 = λ before. (s' : Spanned) (after : List Spanned) → s ∷ f.front ≡ before ++ s' ∷ after → refusal_from len d is vs before (s' ∷ after ++ f.rest) ≡ None in
      let all : (before : List Spanned) → P before = λ before. elim before as P [
        | [] ↦ λ s' after at. subst (λ xs. refusal_from len d is vs [] (xs ++ f.rest) ≡ None) at quiet
        | x ∷ before ↦ λ s' after at.
            subst (λ (x : Spanned). refusal_from len d is vs (x ∷ before) (s' ∷ after ++ f.rest) ≡ None) (same_first s x f.front (before ++ s' ∷ after) at)
            (refusal-further d s ss is vs q before (s' ∷ after ++ f.rest) ∙ f.before before s' after (same_rest s x f.front (before ++ s' ∷ after) at))
      ] in
      record {
        front = s ∷ f.front;
        rest = f.rest;
        parts = ap (λ (xs : List Spanned). s ∷ xs) f.parts;
        stands = (f.stands.0, further d s ss is vs q (texts f.front) ∙ f.stands.1);
        arises = refusal-further d s ss is vs q f.front f.rest ∙ f.arises;
        before = all;
      }

  first-end : (d : ℕ) (is : List Item) (vs : List Value) (r : ReadRefusal) → end_refusal len is ≡ None → judge len [] d is vs ≡ Refuse r → ⊥
  unfolding judge
  first-end d [] vs r e h = cc
  first-end d (i ∷ is) vs r e h = cc

  first : (ss : List Spanned) (d : ℕ) (is : List Item) (vs : List Value) (r : ReadRefusal) → judge len ss d is vs ≡ Refuse r → First d ss is vs r
  first [] d is vs r h =
      let P : Option ReadRefusal → Type 0 = λ o. rest_refusal len d [] (is, vs) ≡ o → First d [] is vs r in
      let on : (o : Option ReadRefusal) → P o = λ o. elim o as P [
        | None ↦ λ e. absurd (first-end d is vs r e h)
        | Some r' ↦ λ e. first-here d [] is vs r (e ∙ ap Some (refusal_is r' r (sym (judge-refusal d [] is vs r' e) ∙ h)))
      ] in
      on (rest_refusal len d [] (is, vs)) refl
  first (s ∷ ss) d is vs r h =
      let P : Option ReadRefusal → Type 0 = λ o. rest_refusal len d (s ∷ ss) (is, vs) ≡ o → First d (s ∷ ss) is vs r in
      let on : (o : Option ReadRefusal) → P o = λ o. elim o as P [
        | None ↦ λ e.
            let q = quiet-steps d s ss is vs e in
            first-further d s ss is vs r e q (first ss (nesting_after_text d s.text) (q.to.0 ++ q.items) q.to.1 r (sym q.goes ∙ h))
        | Some r' ↦ λ e. first-here d (s ∷ ss) is vs r (e ∙ ap Some (refusal_is r' r (sym (judge-refusal d (s ∷ ss) is vs r' e) ∙ h)))
      ] in
      on (rest_refusal len d (s ∷ ss) (is, vs)) refl

pub refuses : (len : ℕ) (tokens : List Spanned) (r : ReadRefusal) → verdict len tokens ≡ Refuse r → IsFirstRefusal len tokens r
refuses len tokens r h =
    let f = first len tokens 0 start [] r h in
    record { front = f.front; rest = f.rest; parts = f.parts; stands = f.stands; arises = f.arises; nothing_before = f.before }

pub refused : (len : ℕ) (tokens : List Spanned) (r : ReadRefusal) → IsFirstRefusal len tokens r → verdict len tokens ≡ Refuse r
refused len tokens r f =
    let (st, stands) = f.stands in
    let here : rest_refusal len (nesting_of 0 f.front) f.rest st ≡ Some r = subst (λ o. on_state o (rest_refusal len (nesting_of 0 f.front) f.rest) ≡ Some r) stands f.arises in
    ap (verdict len) f.parts ∙ behind len f.front f.rest 0 start [] st stands f.nothing_before ∙ judge-refusal len (nesting_of 0 f.front) f.rest st.0 st.1 r here

-- ---- states and texts

pub run-of-state : (ts : List Text) (is : List Item) (vs : List Value) (st : ReadState) → state_from is vs ts ≡ Some st → (more : List Text) → run is vs (ts ++ more) ≡ run st.0 st.1 more
unfolding state_from run
run-of-state [] is vs st e more =
    let pair : ReadState = (is, vs) in
    let same : pair ≡ st = cc in
    ap (λ (st : ReadState). run st.0 st.1 more) same
run-of-state (t ∷ ts) [] vs st e more = absurd cc
run-of-state (t ∷ ts) (i ∷ is) vs st e more =
    let P : Moved → Type 0 = λ m. onward m (λ js ws. state_from (js ++ is) ws ts) ≡ Some st → after m (Refused (t ∷ ts ++ more)) (λ js ws. run (js ++ is) ws (ts ++ more)) ≡ run st.0 st.1 more in
    let on : (m : Moved) → P m = λ m. elim m as P [ None ↦ λ e. absurd cc | Some m ↦ λ e. run-of-state ts (m.0 ++ is) m.1 st e more ] in
    on (step i t vs) e

-- a token more
pub state-further : (ts : List Text) (t : Text) (is : List Item) (j : Item) (js : List Item) (vs ws : List Value) (m : List Item × List Value) → state_from is vs ts ≡ Some (j ∷ js, ws) → step j t ws ≡ Some m → state_from is vs (ts ++ t ∷ []) ≡ Some (m.0 ++ js, m.1)
unfolding state_from
state-further [] t is j js vs ws m e h =
    let from : ReadState = (is, vs) in
    let to : ReadState = (j ∷ js, ws) in
    let same : from ≡ to = cc in
    subst (λ (st : ReadState). state_from st.0 st.1 (t ∷ []) ≡ Some (m.0 ++ js, m.1)) (sym same) (rw h refl)
state-further (t' ∷ ts) t [] j js vs ws m e h = absurd cc
state-further (t' ∷ ts) t (i ∷ is) j js vs ws m e h =
    let P : Moved → Type 0 = λ o. onward o (λ ks xs. state_from (ks ++ is) xs ts) ≡ Some (j ∷ js, ws) → onward o (λ ks xs. state_from (ks ++ is) xs (ts ++ t ∷ [])) ≡ Some (m.0 ++ js, m.1) in
    let on : (o : Moved) → P o = λ o. elim o as P [ None ↦ λ e. absurd cc | Some n ↦ λ e. state-further ts t (n.0 ++ is) j js n.1 ws m e h ] in
    on (step i t' vs) e

state-of-run : (ts more : List Text) (is : List Item) (vs ws : List Value) → run is vs (ts ++ more) ≡ Accepted ws → (st : ReadState) × (state_from is vs ts ≡ Some st)
unfolding state_from run
state-of-run [] more is vs ws e = ((is, vs), refl)
state-of-run (t ∷ ts) more [] vs ws e = absurd cc
state-of-run (t ∷ ts) more (i ∷ is) vs ws e =
    let P : Moved → Type 0 = λ m. after m (Refused (t ∷ ts ++ more)) (λ js ws. run (js ++ is) ws (ts ++ more)) ≡ Accepted ws → (st : ReadState) × (onward m (λ js ws. state_from (js ++ is) ws ts) ≡ Some st) in
    let on : (m : Moved) → P m = λ m. elim m as P [ None ↦ λ e. absurd cc | Some m ↦ λ e. state-of-run ts more (m.0 ++ is) m.1 ws e ] in
    on (step i t vs) e

pub begins : (front : List Text) (st : ReadState) → state_from start [] front ≡ Some st → Begins front
begins front st e = alive front st.0 st.1 (run-of-state front start [] st e)

stands : (front : List Text) → Begins front → (st : ReadState) × (state_from start [] front ≡ Some st)
stands front (more, env, p) = state-of-run front more start [] (VEnv env ∷ []) (exact.read (front ++ more) env p)

pub first_refusal : IsFirst
first_refusal = record { begins = begins; stands = stands; refuses = refuses; refused = refused }
