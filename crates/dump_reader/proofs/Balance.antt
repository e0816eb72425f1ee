-- The brackets of an accepted text are all closed for the first time at its end.
use Rattle.std.proofs.Common.{◌≡◌, ◌∙◌, ℕ, zero, suc, ◌+◌, ◌-◌, ◌<◌, List, [], ◌∷◌, ◌++◌, Option, Some, None, Bool, true, false, cond, Result, Ok, Err, refl, sym, ap, subst, arith}
use Rattle.std.specs.Prelude.{bytes_eq, nat_lt, nat_le, length}
use Rattle.sexp_reader.specs.Text.{Text, Open, Close, Atom, Stray}
use Rattle.sexp_reader.specs.Lex.{Spanned, answer_at, nesting_after_text}
use Rattle.sexp_reader.specs.declared.Token.{Token}
use Rattle.sexp_reader.specs.declared.TokenKind.TheVariants as kinds
use Rattle.sexp_reader.specs.declared.TokenFault.{TokenFault}
use Rattle.dump_grammar.specs.declared.keyword.Keyword.TheVariants as words
use Rattle.dump_grammar.specs.declared.keyword.Former.{Former}
use Rattle.dump_grammar.specs.declared.keyword.Former.TheVariants as formers
use Rattle.dump_grammar.specs.declared.keyword.Opening.{Opening}
use Rattle.dump_grammar.specs.declared.keyword.Opening.TheVariants as openings
use Rattle.dump_grammar.specs.declared.refusal.Limit.{Limit}
use Rattle.dump_grammar.specs.declared.refusal.ReadRefusal.{ReadRefusal}
use Rattle.dump_grammar.specs.Keywords.{spelling}
use Rattle.dump_grammar.specs.Named.{NamedComparison}
use Rattle.dump_grammar.specs.Numbers.{number_of}
use Rattle.dump_grammar.specs.Words.{former_of, comparison_of, opening_of}
use Rattle.dump_grammar.specs.Table.{Value, act, Kind, Arguments, Terms, Branches, Definitions, Telescope, Constructors, Families, Parts, Constraints, NoParts, NoNames, NoConstraints, NoDecls, MakeEnv}
use Rattle.dump_grammar.specs.Table.{next, row, opened, start, Moved, at_former, at_opening, at_comparison, at_number, at_index, is_index, step}
use Rattle.dump_grammar.specs.Table.{Item, IOpen, IClose, IEnd, IEntryEnd, IWord, IParams, IVersion, IBinder, IName, ILevel, INumber, IAdd, IIndex, IComparison, ISort, ITerm, IHead, IType, ITypeHead, IBody, INames, ILevels, IList, IDecls, IDecl, Do}
use Rattle.dump_grammar.specs.Judge.{Verdict, Fine, lexed, moved, at_end, judge, verdict}
use Rattle.dump_reader.specs.Front.{end_behind, front_end}

-- ---- what an item does to the brackets that are open

data Effect : Type 0 where
  -- it opens one
  Opens : Effect
  -- it goes on up to the bracket that closes the innermost
  Closes : Effect
  -- it leaves as many
  Stays : Effect
  -- it goes on up to that bracket, and further in the one around it
  Declares : Effect

abbrev effect : Item → Effect
effect IOpen = Opens
effect IClose = Closes
effect IEnd = Closes
effect IEntryEnd = Closes
effect IHead = Closes
effect ITypeHead = Closes
effect INames = Closes
effect ILevels = Closes
effect (IList k) = Closes
effect IDecl = Declares
effect (Do a i) = effect i
effect _ = Stays

-- how many brackets are open behind it
abbrev behind : Effect → ℕ → ℕ
behind Opens d = d + 1
behind Closes d = d - 1
behind Stays d = d
behind Declares d = d - 1

-- how many are open before it, at least
abbrev Room : Effect → ℕ → Type 0
Room Declares d = 1 < d
Room _ d = 0 < d

-- Behind so many open brackets the items close all of them, at their end and not before.
abbrev Nets : ℕ → List Item → Type 0
Nets d [] = d ≡ 0
Nets d (i ∷ is) = Room (effect i) d × Nets (behind (effect i) d) is

nets_is : (d e : ℕ) (is : List Item) → d ≡ e → Nets d is → Nets e is
nets_is d e is q n = subst (λ k. Nets k is) q n

some_open : (e : Effect) (d : ℕ) → Room e d → 0 < d
some_open Opens d r = r
some_open Closes d r = r
some_open Stays d r = r
some_open Declares d r = omega (arith, r)

-- ---- the items of the table, counted from some open brackets on

-- Above so many brackets an item leads to what holds of how many it leaves, and doesn't begin where none is left above them.
abbrev Leads : Effect → ℕ → (ℕ → Type 0) → Type 0
Leads Opens zero P = ⊥
Leads Opens (suc n) P = P (suc (suc n))
Leads Closes zero P = ⊥
Leads Closes (suc n) P = P n
Leads Stays zero P = ⊥
Leads Stays (suc n) P = P (suc n)
Leads Declares n P = ⊥

-- the items lead from one number to another
abbrev Goes : List Item → (from to : ℕ) → Type 0
Goes [] from to = from ≡ to
Goes (i ∷ is) from to = Leads (effect i) from (λ k. Goes is k to)

leads_on : (e : Effect) (b h : ℕ) (P : ℕ → Type 0) (is : List Item) → Leads e h P → ((k : ℕ) → P k → Nets (b + k) is) → Room e (b + h) × Nets (behind e (b + h)) is
leads_on Opens b zero P is p go = absurd p
leads_on Opens b (suc n) P is p go = ((omega arith), nets_is (b + suc (suc n)) (b + suc n + 1) is (omega arith) (go (suc (suc n)) p))
leads_on Closes b zero P is p go = absurd p
leads_on Closes b (suc n) P is p go = ((omega arith), nets_is (b + n) (b + suc n - 1) is (omega arith) (go n p))
leads_on Stays b zero P is p go = absurd p
leads_on Stays b (suc n) P is p go = ((omega arith), go (suc n) p)
leads_on Declares b h P is p go = absurd p

above : (js is : List Item) (b from to : ℕ) → Goes js from to → Nets (b + to) is → Nets (b + from) (js ++ is)
above [] is b from to p n = nets_is (b + to) (b + from) is (ap (λ k. b + k) (sym p)) n
above (j ∷ js) is b from to p n = leads_on (effect j) b from (λ k. Goes js k to) (js ++ is) p (λ k q. above js is b k to q n)

next_goes : (k : Kind) → Goes (next k) 2 0
next_goes Arguments = refl
next_goes Terms = refl
next_goes Branches = refl
next_goes Definitions = refl
next_goes Telescope = refl
next_goes Constructors = refl
next_goes Families = refl
next_goes Parts = refl
next_goes Constraints = refl

row_goes : (f : Former) → Goes (row f) 1 0
row_goes formers.Rel = refl
row_goes _ = refl

opened_goes : (o : Opening) → Goes (opened o) 2 1
opened_goes openings.Constant = refl
opened_goes _ = refl

-- ---- one token

-- what stands in place of an item closes what is open behind its token
abbrev Kept : ℕ → List Item → Moved → Type 0
Kept d is None = Unit {0}
Kept d is (Some m) = Nets d (m.0 ++ is)

kept_if : (b : Bool) (d : ℕ) (is : List Item) (x y : Moved) → Kept d is x → Kept d is y → Kept d is (cond b x y)
kept_if true d is x y k l = k
kept_if false d is x y k l = l

kept_number : (o : Option ℕ) (d : ℕ) (is : List Item) (vs : List Value) → Nets d is → Kept d is (at_number o vs)
kept_number None d is vs n = tt
kept_number (Some m) d is vs n = n

kept_index : (o : Option ℕ) (d : ℕ) (is : List Item) (vs : List Value) → Nets d is → Kept d is (at_index o vs)
kept_index None d is vs n = tt
kept_index (Some m) d is vs n = kept_if (is_index m vs) d is _ _ n tt

kept_comparison : (o : Option NamedComparison) (d : ℕ) (is : List Item) (vs : List Value) → Nets d is → Kept d is (at_comparison o vs)
kept_comparison None d is vs n = tt
kept_comparison (Some c) d is vs n = n

kept_row : (o : Option Former) (d : ℕ) (is : List Item) (vs : List Value) → 0 < d → Nets (d - 1) is → Kept d is (at_former o vs)
kept_row None d is vs r n = tt
kept_row (Some f) d is vs r n =
    nets_is (d - 1 + 1) d (row f ++ is) (omega (arith, r)) (above (row f) is (d - 1) 1 0 (row_goes f) (nets_is (d - 1) (d - 1 + 0) is (omega arith) n))

kept_opened : (o : Option Opening) (d : ℕ) (is : List Item) (vs : List Value) → 1 < d → Nets (d - 1) is → Kept d is (at_opening o vs)
kept_opened None d is vs r n = tt
kept_opened (Some o) d is vs r n =
    nets_is (d - 2 + 2) d (opened o ++ is) (omega (arith, r)) (above (opened o) is (d - 2) 2 1 (opened_goes o) (nets_is (d - 1) (d - 2 + 1) is (omega (arith, r)) n))

kept_next : (k : Kind) (d : ℕ) (is : List Item) → 0 < d → Nets (d - 1) is → Nets (d + 1) (next k ++ is)
kept_next k d is r n =
    nets_is (d - 1 + 2) (d + 1) (next k ++ is) (omega (arith, r)) (above (next k) is (d - 1) 2 0 (next_goes k) (nets_is (d - 1) (d - 1 + 0) is (omega arith) n))

kept_type : (d : ℕ) (is : List Item) → Nets d is → Nets (d + 1) ((IWord words.Type ∷ Do NoParts IOpen ∷ next Parts) ++ is)
kept_type d is n = above (IWord words.Type ∷ Do NoParts IOpen ∷ next Parts) is d 1 0 refl (nets_is d (d + 0) is (omega arith) n)

-- behind a bracket that opens, before an item that closes it
kept_head : (d : ℕ) (is : List Item) → Nets d is → (0 < d + 1) × Nets (d + 1 - 1) is
kept_head d is n = ((omega arith), nets_is d (d + 1 - 1) is (omega arith) n)

kept_declaration : (d : ℕ) (is : List Item) → 0 < d → Nets d is → (1 < d + 1) × Nets (d + 1 - 1) is
kept_declaration d is r n = ((omega (arith, r)), nets_is d (d + 1 - 1) is (omega arith) n)

keeps : (i : Item) (t : Text) (vs : List Value) (d : ℕ) (is : List Item) → Room (effect i) d → Nets (behind (effect i) d) is → Kept (nesting_after_text d t) is (step i t vs)
keeps IOpen Open vs d is r n = n
keeps IClose Close vs d is r n = n
keeps IEnd Close vs d is r n = n
keeps IEntryEnd Close vs d is r n = n
keeps (IWord w) (Atom a) vs d is r n = kept_if (bytes_eq a (spelling w)) d is _ _ n tt
keeps IParams (Atom a) vs d is r n = kept_if (bytes_eq a (spelling words.Params)) d is _ _ n tt
keeps IVersion (Atom a) vs d is r n = kept_if (bytes_eq a (spelling words.One)) d is _ _ n tt
keeps IBinder (Atom a) vs d is r n = n
keeps IName (Atom a) vs d is r n = n
keeps ILevel (Atom a) vs d is r n = n
keeps INumber (Atom a) vs d is r n = kept_number (number_of a) d is vs n
keeps IAdd (Atom a) vs d is r n = kept_number (number_of a) d is vs n
keeps IIndex (Atom a) vs d is r n = kept_index (number_of a) d is vs n
keeps IComparison (Atom a) vs d is r n = kept_comparison (comparison_of a) d is vs n
keeps ISort (Atom a) vs d is r n = kept_if (bytes_eq a (spelling words.Prop)) d is _ _ n (kept_if (bytes_eq a (spelling words.Set)) d is _ _ n tt)
keeps ISort Open vs d is r n = kept_type d is n
keeps ITerm Open vs d is r n = kept_head d is n
keeps IHead (Atom a) vs d is r n = kept_row (former_of a) d is vs r n
keeps IType Open vs d is r n = kept_head d is n
keeps ITypeHead (Atom a) vs d is r n = kept_row (former_of a) d is vs r n
keeps IBody Open vs d is r n = kept_head d is n
keeps IBody (Atom a) vs d is r n = kept_if (bytes_eq a (spelling words.NoBody)) d is _ _ n tt
keeps INames Close vs d is r n = n
keeps INames (Atom a) vs d is r n = (r, n)
keeps ILevels Close vs d is r n = n
keeps ILevels (Atom a) vs d is r n = kept_if (bytes_eq a (spelling words.Set)) d is _ _ tt (r, n)
keeps (IList k) Close vs d is r n = n
keeps (IList k) Open vs d is r n = kept_next k d is r n
keeps IDecls Open vs d is r n = kept_declaration d is r n
keeps IDecl (Atom a) vs d is r n = kept_opened (opening_of a) d is vs r n
keeps (Do a i) t vs d is r n = keeps i t (act a vs) d is r n
keeps _ _ vs d is r n = tt

-- ---- the verdict

fine_moved : (x : Moved) (r : ReadRefusal) (l : Option Limit) (o : ℕ) (is : List Item) (go : List Item → List Value → Verdict) (ws : List Value) (d : ℕ) → Kept d is x
    → moved x r l o (λ js us. go (js ++ is) us) ≡ Fine ws → (js : List Item) × (us : List Value) × Nets d js × (go js us ≡ Fine ws)
fine_moved None r l o is go ws d k e = absurd cc
fine_moved (Some m) r None o is go ws d k e = (m.0 ++ is, m.1, k, e)
fine_moved (Some m) r (Some l) o is go ws d k e = absurd cc

fine_lexed : (x : Result (Option Token) TokenFault) (v : Verdict) (ws : List Value) → lexed x v ≡ Fine ws → v ≡ Fine ws
fine_lexed (Ok o) v ws e = e
fine_lexed (Err f) v ws e = absurd cc

-- the front goes on behind a token that leaves a bracket open
given_passes : (len : ℕ) (t : Token) (n later : ℕ) → 0 < n → end_behind len (Ok (Some t)) n later ≡ later
given_passes len t zero later h = absurd (omega (arith, h))
given_passes len t (suc n) later h = refl

tested_passes : (b : Bool) (len : ℕ) (t : Token) (f : TokenFault) (n later : ℕ) (v : Verdict) (ws : List Value) → 0 < n → lexed (cond b (Ok (Some t)) (Err f)) v ≡ Fine ws → end_behind len (cond b (Ok (Some t)) (Err f)) n later ≡ later
tested_passes true len t f n later v ws h e = given_passes len t n later h
tested_passes false len t f n later v ws h e = absurd cc

passes : (len d o : ℕ) (t : Text) (n later : ℕ) (v : Verdict) (ws : List Value) → 0 < n → lexed (answer_at d o t) v ≡ Fine ws → end_behind len (answer_at d o t) n later ≡ later
passes len d o Open n later v ws h e = tested_passes (nat_lt d 1000) len _ _ n later v ws h e
passes len d o Close n later v ws h e = given_passes len (record { kind = kinds.Close; start = o; «end» = o + 1 }) n later h
passes len d o (Atom a) n later v ws h e = tested_passes (nat_le (length a) 255) len _ _ n later v ws h e
passes len d o Stray n later v ws h e = absurd cc

-- the end of the text leaves no bracket open
closed_end : (len d : ℕ) (is : List Item) (vs ws : List Value) → Nets d is → at_end len is vs ≡ Fine ws → d ≡ 0
closed_end len d [] vs ws n e = n
closed_end len d (i ∷ is) vs ws n e = absurd cc

last_ends : (len : ℕ) (t : Token) (n later : ℕ) → n ≡ 0 → end_behind len (Ok (Some t)) n later ≡ t.end
last_ends len t zero later h = refl
last_ends len t (suc n) later h = absurd (omega (arith, h))

-- a text that ends with a bracket at the offset `o`, of the length `len`, and one of the length `whole` that goes on behind it
module _ (len whole o : ℕ) (more : List Spanned) (ws : List Value) where
  abbrev last : Spanned
  last = record { start = o; text = Close }

  one_token : (s : Spanned) (ss : List Spanned) (d : ℕ) (i : Item) (is : List Item) (vs : List Value) → Kept (nesting_after_text d s.text) is (step i s.text vs)
      → ((js : List Item) (us : List Value) → Nets (nesting_after_text d s.text) js → judge len (ss ++ last ∷ []) (nesting_after_text d s.text) js us ≡ Fine ws
      → (0 < nesting_after_text d s.text) × (front_end whole (nesting_after_text d s.text) (ss ++ last ∷ more) ≡ o + 1))
      → judge len (s ∷ (ss ++ last ∷ [])) d (i ∷ is) vs ≡ Fine ws → front_end whole d (s ∷ (ss ++ last ∷ more)) ≡ o + 1
  unfolding judge front_end
  one_token s ss d i is vs k go e =
      let b = nesting_after_text d s.text in
      let after = fine_moved (step i s.text vs) _ _ _ is (λ js us. judge len (ss ++ last ∷ []) b js us) ws b k (fine_lexed (answer_at d s.start s.text) _ ws e) in
      let q = go after.0 after.1 after.2 after.3 in
      passes whole d s.start s.text b (front_end whole b (ss ++ last ∷ more)) _ ws q.0 e ∙ q.1

  no_more : (s : Spanned) (ss : List Spanned) (d : ℕ) (vs : List Value) → judge len (s ∷ ss) d [] vs ≡ Fine ws → ⊥
  unfolding judge
  no_more s ss d vs e = (let f = fine_lexed (answer_at d s.start s.text) _ ws e in cc)

  last_token : (d : ℕ) (i : Item) (is : List Item) (vs : List Value) → Room (effect i) d → Nets (behind (effect i) d) is → judge len (last ∷ []) d (i ∷ is) vs ≡ Fine ws → front_end whole d (last ∷ more) ≡ o + 1
  unfolding judge front_end
  last_token d i is vs r n e =
      let after = fine_moved (step i Close vs) _ _ _ is (λ js us. judge len [] (d - 1) js us) ws (d - 1) (keeps i Close vs d is r n) e in
      last_ends whole (record { kind = kinds.Close; start = o; «end» = o + 1 }) (d - 1) _ (closed_end len (d - 1) after.0 after.1 ws after.2 after.3)

  ends : (ss : List Spanned) (d : ℕ) (is : List Item) (vs : List Value) → Nets d is → judge len (ss ++ last ∷ []) d is vs ≡ Fine ws → (0 < d) × (front_end whole d (ss ++ last ∷ more) ≡ o + 1)
  ends [] d [] vs n e = absurd (no_more last [] d vs e)
  ends [] d (i ∷ is) vs n e = (some_open (effect i) d n.0, last_token d i is vs n.0 n.1 e)
  ends (s ∷ ss) d [] vs n e = absurd (no_more s (ss ++ last ∷ []) d vs e)
  ends (s ∷ ss) d (i ∷ is) vs n e =
      (some_open (effect i) d n.0, one_token s ss d i is vs (keeps i s.text vs d is n.0 n.1) (λ js us m f. ends ss (nesting_after_text d s.text) js us m f) e)

  abbrev behind_first : List Item
  behind_first =
      IWord words.Env ∷ IVersion ∷
      IOpen ∷ IWord words.Levels ∷ Do NoNames ILevels ∷
      IOpen ∷ IWord words.Constraints ∷ Do NoConstraints (IList Constraints) ∷
      Do NoDecls IDecls ∷ Do MakeEnv IClose ∷ []

  first_keeps : (t : Text) → Kept (nesting_after_text 0 t) behind_first (step IOpen t [])
  first_keeps Open = above behind_first [] 0 1 0 refl refl
  first_keeps Close = tt
  first_keeps (Atom a) = tt
  first_keeps Stray = tt

  no_first : judge len (last ∷ []) 0 start [] ≡ Fine ws → ⊥
  unfolding judge
  no_first e = cc

  pub accepted_ends : (ss : List Spanned) → verdict len (ss ++ last ∷ []) ≡ Fine ws → front_end whole 0 (ss ++ last ∷ more) ≡ o + 1
  accepted_ends [] e = absurd (no_first e)
  accepted_ends (s ∷ ss) e = one_token s ss 0 IOpen behind_first [] (first_keeps s.text) (λ js us m f. ends ss (nesting_after_text 0 s.text) js us m f) e
