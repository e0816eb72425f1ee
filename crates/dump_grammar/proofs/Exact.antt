-- Reading finds exactly what is spelled, and stops at the first token that nothing begins with.
use Rattle.std.proofs.Common.{◌≡◌, List, [], ◌∷◌, ◌++◌, map, Some, None, true, refl, sym, ap, subst, ◌∙◌, append_assoc, append-nil}
use Rattle.std.specs.Prelude.{bytes_eq, codes}
use Rattle.sexp_reader.specs.Text.{Text, Open, Close, Atom}
use Rattle.dump_grammar.specs.Keywords.{spelling}
use Rattle.dump_grammar.specs.declared.keyword.Keyword.TheVariants as words
use Rattle.dump_grammar.specs.Numbers.{number_of, Numeral}
use Rattle.dump_grammar.specs.Words.{former_of, comparison_of, opening_of}
use Rattle.dump_grammar.specs.Named.{Less}
use Rattle.dump_grammar.specs.Sorts.{PropForm}
use Rattle.dump_grammar.specs.Terms.{FRel, NoForm, NoBranchForm, NoDefinition, atoms, meaning}
use Rattle.dump_grammar.specs.Declarations.{NoneForm, SomeForm, body}
use Rattle.dump_grammar.specs.Environments.{level_names, declarations}
use Rattle.dump_grammar.specs.Table.{Value, VTerm, VDefs, act, Kind, Arguments, Terms, Telescope, Constructors, Families, Parts, Constraints, Item, IOpen, IClose, IEnd, IEntryEnd, IWord, IParams, IVersion, IBinder, IName, ILevel, INumber, IAdd, IIndex, IComparison, ISort, ITerm, IHead, IType, ITypeHead, IBody, INames, ILevels, IList, IDecls, IDecl, Do, finish, is_index, Moved, step}
use Rattle.dump_grammar.specs.Table.{Branches as BranchList, Definitions as DefinitionList}
use Rattle.dump_grammar.proofs.Values.{counted, with_levels, with_constraints, with_declarations}
use Rattle.dump_grammar.specs.Named.{NamedEnv}
use Rattle.dump_grammar.specs.Environments.{Dump, dump, env_of, constraint_meaning, SpellsEnv}
use Rattle.dump_grammar.specs.Table.{VNames, VConstraints, VDecls, VEnv, MakeEnv, start, ReadOutcome, Accepted, Refused, after, run}
use Rattle.dump_grammar.specs.Exactness.{Begins, IsDead, MeetsTokens, IsExact}
use Rattle.dump_grammar.proofs.Words.{word-is, comparison-is}
use Rattle.dump_grammar.proofs.Values.{levels-value, constraints-value, declarations-value}
use Rattle.dump_grammar.proofs.Language.{run-step, do-then, type-head, names-read, levels-read, sort-read, form-read, arguments-read, terms-read, branches-read, definitions-read, bindings-read, constructors-read, families-read, parts-read, constraints-read, body-read, declarations-read}
use Rattle.dump_grammar.proofs.Things.{ListThing, list_text, list_value, Thing, text, value, Left, Takes, TakesAll, OnMoved, Goes, word-goes, number-goes, add-goes, index-goes, comparison-goes, former-goes, type-former-goes, level-goes, sort-goes, type-goes, body-goes, next-goes, end-goes, opening-goes}

-- ---- what the first token of an item leaves is the rest of the item

follows : (i : Item) (P : Left) (t : Text) (vs : List Value) → Goes P i t vs (step i t vs)
unfolding atoms counted with_levels body declarations
follows IOpen P Open vs = λ ts p. (tt, ts, refl, p)
follows IClose P Close vs = λ ts p. (tt, ts, refl, p)
follows IEnd P Close vs = λ ts p. (tt, ts, refl, p)
follows IEntryEnd P Close vs = λ ts p. (tt, ts, refl, p)
follows (IWord w) P (Atom a) vs = word-goes P w a vs (IWord w) (bytes_eq a (spelling w)) refl (λ ts p. (tt, ts, refl, p))
follows IParams P (Atom a) vs = word-goes P words.Params a vs IParams (bytes_eq a (spelling words.Params)) refl (λ ts p. (tt, ts, refl, p))
follows IVersion P (Atom a) vs = word-goes P words.One a vs IVersion (bytes_eq a (spelling words.One)) refl (λ ts p. (tt, ts, refl, p))
follows IBinder P (Atom a) vs = λ ts p. (a, ts, refl, p)
follows IName P (Atom a) vs = λ ts p. (a, ts, refl, p)
follows ILevel P (Atom a) vs = λ ts p. (a, ts, refl, p)
follows INumber P (Atom a) vs = number-goes P a vs (number_of a) refl
follows IAdd P (Atom a) vs = add-goes P a vs (number_of a) refl
follows IIndex P (Atom a) vs = index-goes P a vs (number_of a) refl
follows IComparison P (Atom a) vs = comparison-goes P a vs (comparison_of a) refl
follows ISort P (Atom a) vs = sort-goes P a vs
follows ISort P Open vs = λ ts h. type-goes P vs ts h
follows ITerm P Open vs = λ ts h. let (f, us, e, p) = h in (f, us, ap (λ (xs : List Text). Open ∷ xs) e, p)
follows IHead P (Atom a) vs = former-goes P a vs (former_of a) refl
follows IType P Open vs = λ ts h. let (f, us, e, p) = h in (f, us, ap (λ (xs : List Text). Open ∷ xs) e, p)
follows ITypeHead P (Atom a) vs = type-former-goes P a vs (former_of a) refl
follows IBody P Open vs = λ ts h. let (f, us, e, p) = h in (SomeForm f, us, ap (λ (xs : List Text). Open ∷ xs) e, p)
follows IBody P (Atom a) vs = body-goes P a vs
follows INames P Close vs = λ ts p. ([], ts, refl, p)
follows INames P (Atom a) vs = λ ts h. let (ns, us, e, p) = h in (a ∷ ns, us, rw e refl, p)
follows ILevels P Close vs = λ ts p. ([], ts, refl, p)
follows ILevels P (Atom a) vs = level-goes P a vs (bytes_eq a (spelling words.Set)) refl
follows (IList k) P Close vs = λ ts p. end-goes P k vs ts p
follows (IList k) P Open vs = λ ts h. next-goes P k vs ts h
follows IDecls P Open vs = λ ts h. let (x, us, e, p) = h in (x, us, ap (λ (xs : List Text). Open ∷ xs) e, p)
follows IDecl P (Atom a) vs = opening-goes P a vs (opening_of a) refl
follows (Do d i) P t vs = follows i P t (act d vs)
follows _ P _ vs = tt

-- ---- a longer list of items

weaker : (i : Item) (vs : List Value) (ts : List Text) (P Q : Left) → ((ws : List Value) (us : List Text) → P ws us → Q ws us) → Takes i vs ts P → Takes i vs ts Q
weaker i vs ts P Q f (x, us, e, p) = (x, us, e, f _ us p)

all-append : (a b : List Item) (vs : List Value) (ts : List Text) (P : Left) → TakesAll (a ++ b) vs ts P → TakesAll a vs ts (λ ws us. TakesAll b ws us P)
all-append [] b vs ts P h = h
all-append (i ∷ a) b vs ts P h = weaker i vs ts _ _ (λ ws us. all-append a b ws us P) h

-- ---- what is spelled is read

list-read : (k : Kind) (x : ListThing k) (is : List Item) (vs : List Value) (r : List Text) → run (IList k ∷ is) vs (list_text k x (Close ∷ r)) ≡ run is (act (finish k) (list_value k x vs)) r
list-read Arguments x is vs r = arguments-read x is vs r
list-read Terms x is vs r = terms-read x is vs r
list-read BranchList x is vs r = branches-read x is vs r
list-read DefinitionList x is vs r = definitions-read x.1 is vs r
list-read Telescope x is vs r = bindings-read x is vs r
list-read Constructors x is vs r = constructors-read x is vs r
list-read Families x is vs r = families-read x is vs r
list-read Parts x is vs r = parts-read x is vs r
list-read Constraints x is vs r = constraints-read x is vs r

item-read : (i : Item) (vs : List Value) (x : Thing i vs) (k : List Item) (r : List Text) → run (i ∷ k) vs (text i vs x r) ≡ run k (value i vs x) r
item-read IOpen vs x k r = simp run-step
item-read IClose vs x k r = simp run-step
item-read IEnd vs x k r = simp run-step
item-read IEntryEnd vs x k r = simp run-step
item-read (IWord w) vs x k r = simp (run-step, word-is)
item-read IParams vs x k r = simp (run-step, word-is)
item-read IVersion vs x k r = simp (run-step, word-is)
item-read IBinder vs x k r = simp run-step
item-read IName vs x k r = simp run-step
item-read ILevel vs x k r = simp run-step
item-read INumber vs x k r = simp (run-step, x.spelled)
item-read IAdd vs x k r = simp (run-step, x.spelled)
item-read IIndex vs x k r = let n = x.0 in simp (run-step, n.spelled, x.1)
item-read IComparison vs x k r = simp (run-step, comparison-is x)
item-read ISort vs x k r = sort-read x k vs r
item-read ITerm vs x k r = simp (run-step, form-read x)
item-read IHead vs x k r = form-read x k vs r
item-read IType vs x k r = simp (run-step, type-head, form-read x)
item-read ITypeHead vs x k r = simp (type-head, form-read x)
item-read IBody vs x k r = body-read x k vs r
item-read INames vs x k r = names-read x k vs r
item-read ILevels vs x k r = levels-read x k vs r
item-read (IList j) vs x k r = list-read j x k vs r
item-read IDecls vs x k r = run-step IDecls k vs Open (declarations x.0 x.1 r) ∙ declarations-read x.0 x.1 k vs r
item-read IDecl vs x k r = declarations-read x.0 x.1 k vs r
item-read (Do d i) vs x k r = do-then d i k vs (text i (act d vs) x r) ∙ item-read i (act d vs) x k r

read-all : (is : List Item) (vs : List Value) (ts : List Text) (P : Left) → TakesAll is vs ts P → (ws : List Value) × (us : List Text) × (run is vs ts ≡ run [] ws us) × P ws us
read-all [] vs ts P h = (vs, ts, refl, h)
read-all (i ∷ is) vs ts P (x, us, e, p) =
    let (xs, ys, e2, q) = read-all is (value i vs x) us P p in
    (xs, ys, ap (run (i ∷ is) vs) e ∙ item-read i vs x is us ∙ e2, q)

-- ---- each item is spelled somehow

nought : Numeral
unfolding number_of
nought = record { atom = codes "0"; value = 0; spelled = refl }

index-0 : (vs : List Value) → is_index 0 vs ≡ true
index-0 [] = refl
index-0 (VDefs ds ∷ vs) = refl
index-0 (_ ∷ vs) = refl

some-list : (k : Kind) → ListThing k
some-list Arguments = NoForm
some-list Terms = NoForm
some-list BranchList = NoBranchForm
some-list DefinitionList = (0, NoDefinition)
some-list Telescope = []
some-list Constructors = []
some-list Families = []
some-list Parts = []
some-list Constraints = []

some : (i : Item) (vs : List Value) → Thing i vs
unfolding nought
some IOpen vs = tt
some IClose vs = tt
some IEnd vs = tt
some IEntryEnd vs = tt
some (IWord w) vs = tt
some IParams vs = tt
some IVersion vs = tt
some IBinder vs = []
some IName vs = []
some ILevel vs = []
some INumber vs = nought
some IAdd vs = nought
some IIndex vs = (nought, index-0 vs)
some IComparison vs = Less
some ISort vs = PropForm
some ITerm vs = FRel nought
some IHead vs = FRel nought
some IType vs = FRel nought
some ITypeHead vs = FRel nought
some IBody vs = NoneForm
some INames vs = []
some ILevels vs = []
some (IList k) vs = some-list k
some IDecls vs = ([], FRel nought)
some IDecl vs = ([], FRel nought)
some (Do d i) vs = some i (act d vs)

abbrev End : Left
End ws us = us ≡ []

-- After any items and values there is some text.
some-all : (is : List Item) (vs : List Value) → (ts : List Text) × TakesAll is vs ts End
some-all [] vs = ([], refl)
some-all (i ∷ is) vs = let (us, h) = some-all is (value i vs (some i vs)) in (text i vs (some i vs) us, (some i vs, us, refl, h))

-- ---- what is accepted is spelled

abbrev Leaves : List Value → Left
Leaves ws xs us = (us ≡ []) × (xs ≡ ws)

accepted : (ts : List Text) (is : List Item) (vs ws : List Value) → run is vs ts ≡ Accepted ws → TakesAll is vs ts (Leaves ws)
unfolding run
accepted [] [] vs ws e = (refl, cc)
accepted [] (i ∷ is) vs ws e = absurd cc
accepted (t ∷ ts) [] vs ws e = absurd cc
accepted (t ∷ ts) (i ∷ is) vs ws e =
    let P : Left = λ xs us. TakesAll is xs us (Leaves ws) in
    let on : (m : Moved) → OnMoved m (λ js xs. (us : List Text) → TakesAll js xs us P → Takes i vs (t ∷ us) P) → after m (Refused (t ∷ ts)) (λ js xs. run (js ++ is) xs ts) ≡ Accepted ws → Takes i vs (t ∷ ts) P =
    λ m. elim m as (λ m. OnMoved m (λ js xs. (us : List Text) → TakesAll js xs us P → Takes i vs (t ∷ us) P) → after m (Refused (t ∷ ts)) (λ js xs. run (js ++ is) xs ts) ≡ Accepted ws → Takes i vs (t ∷ ts) P) [
      | None ↦ λ f e. absurd cc
      | Some m ↦ λ f e. f ts (all-append m.0 is m.1 ts (Leaves ws) (accepted ts (m.0 ++ is) m.1 ws e))
    ] in
    on (step i t vs) (follows i P t vs) e

-- ---- where reading stops, nothing goes on

abbrev pub same_first : List Text → List Text → List Text
same_first [] s = []
same_first (t ∷ r) s = t ∷ s

record Stops (is : List Item) (vs : List Value) (ts r : List Text) : Type 0 where
  front : List Text
  parts : ts ≡ front ++ r
  more : List Text
  goes_on : TakesAll is vs (front ++ more) End
  stuck : (s : List Text) → run is vs (front ++ same_first r s) ≡ Refused (same_first r s)

refused_is : (r s : List Text) → Refused r ≡ Refused s → r ≡ s
refused_is r s e = cc

at_once : (is : List Item) (vs : List Value) (ts r : List Text) → ts ≡ r → ((s : List Text) → run is vs (same_first ts s) ≡ Refused (same_first ts s)) → Stops is vs ts r
at_once is vs ts r e f =
    let (more, h) = some-all is vs in
    record { front = []; parts = e; more = more; goes_on = h; stuck = λ s. subst (λ (r : List Text). run is vs (same_first r s) ≡ Refused (same_first r s)) e (f s) }

stops : (ts : List Text) (is : List Item) (vs : List Value) (r : List Text) → run is vs ts ≡ Refused r → Stops is vs ts r
unfolding run
stops [] [] vs r e = absurd cc
stops [] (i ∷ is) vs r e = at_once (i ∷ is) vs [] r (refused_is [] r e) (λ s. refl)
stops (t ∷ ts) [] vs r e = at_once [] vs (t ∷ ts) r (refused_is (t ∷ ts) r e) (λ s. refl)
stops (t ∷ ts) (i ∷ is) vs r e =
    let P : Left = λ xs us. TakesAll is xs us End in
    let Q : Moved → Type 0 = λ m. step i t vs ≡ m → OnMoved m (λ js xs. (us : List Text) → TakesAll js xs us P → Takes i vs (t ∷ us) P) → after m (Refused (t ∷ ts)) (λ js xs. run (js ++ is) xs ts) ≡ Refused r → Stops (i ∷ is) vs (t ∷ ts) r in
    let on : (m : Moved) → Q m =
    λ m. elim m as Q [
      | None ↦ λ at f e. at_once (i ∷ is) vs (t ∷ ts) r (refused_is (t ∷ ts) r e) (λ s. rw at refl)
      | Some m ↦ λ at f e.
          let h = stops ts (m.0 ++ is) m.1 r e in
          record {
            front = t ∷ h.front;
            parts = ap (λ (us : List Text). t ∷ us) h.parts;
            more = h.more;
            goes_on = f (h.front ++ h.more) (all-append m.0 is m.1 (h.front ++ h.more) End h.goes_on);
            stuck = λ s. rw at (h.stuck s);
          }
    ] in
    on (step i t vs) refl (follows i P t vs) e

-- ---- the whole text

-- the values of a whole text's parts
whole-values : (d : Dump) → act MakeEnv (VTerm (meaning d.main) ∷ with_declarations d.decls (VDecls [] ∷ with_constraints d.constraints (VConstraints [] ∷ with_levels d.levels (VNames [] ∷ [])))) ≡ VEnv (env_of d) ∷ []
whole-values d =
    let vs1 : List Value = VNames (level_names d.levels) ∷ [] in
    let vs2 : List Value = VConstraints (map constraint_meaning d.constraints) ∷ vs1 in
    rw (levels-value d.levels [] [], constraints-value d.constraints [] vs1, declarations-value d.decls [] vs2) refl

env-takes : (ts : List Text) (P : Left) → TakesAll start [] ts P → (d : Dump) × (us : List Text) × (ts ≡ dump d us) × P (VEnv (env_of d) ∷ []) us
env-takes ts P h =
    let (x1, u1, e1, (x2, u2, e2, (x3, u3, e3, (x4, u4, e4, (x5, u5, e5, (ls, u6, e6, (x7, u7, e7, (x8, u8, e8, (cs, u9, e9, (ds, u10, e10, (x11, u11, e11, p))))))))))) = h in
    let d : Dump = record { levels = ls; constraints = cs; decls = ds.0; main = ds.1 } in
    (d, u11, rw (e1, e2, e3, e4, e5, e6, e7, e8, e9, e10, e11) refl, subst (λ ws. P ws u11) (whole-values d) p)

takes-env : (d : Dump) → TakesAll start [] (dump d []) (Leaves (VEnv (env_of d) ∷ []))
takes-env d =
    (tt, _, refl, (tt, _, refl, (tt, _, refl, (tt, _, refl, (tt, _, refl, (d.levels, _, refl, (tt, _, refl, (tt, _, refl, (d.constraints, _, refl, ((d.decls, d.main), _, refl, (tt, _, refl, (refl, whole-values d))))))))))))

whole-read : (d : Dump) → run start [] (dump d []) ≡ Accepted (VEnv (env_of d) ∷ [])
unfolding run
whole-read d =
    let (ws, us, e, (nothing, values)) = read-all start [] (dump d []) (Leaves (VEnv (env_of d) ∷ [])) (takes-env d) in
    e ∙ ap (λ (us : List Text). run [] ws us) nothing ∙ ap Accepted values

value_is : (a b : NamedEnv) → Accepted (VEnv a ∷ []) ≡ Accepted (VEnv b ∷ []) → a ≡ b
value_is a b e = cc

spelled-read : (ts : List Text) (env : NamedEnv) → SpellsEnv ts env → run start [] ts ≡ Accepted (VEnv env ∷ [])
spelled-read ts env (d, e, m) = rw (e, m) (whole-read d)

-- one text, one meaning
one : (ts : List Text) (a b : NamedEnv) → SpellsEnv ts a → SpellsEnv ts b → a ≡ b
one ts a b p q = value_is a b (sym (spelled-read ts a p) ∙ spelled-read ts b q)

begins : (ts : List Text) → TakesAll start [] ts End → (env : NamedEnv) × SpellsEnv ts env
begins ts h =
    let (d, us, e, nothing) = env-takes ts End h in
    (env_of d, (d, e ∙ ap (dump d) nothing, refl))

never : (r : List Text) (ws : List Value) → Refused r ≡ Accepted ws → ⊥
never r ws e = cc

dead : (front rest : List Text) → ((s : List Text) → run start [] (front ++ same_first rest s) ≡ Refused (same_first rest s)) → IsDead front rest
dead front [] f = λ env p. never [] _ (sym (f []) ∙ ap (run start []) (append-nil front) ∙ spelled-read front env p)
dead front (t ∷ rest) f = λ (more, env, p). never (t ∷ more) _ (sym (f more) ∙ ap (run start []) (sym (append_assoc front (t ∷ []) more)) ∙ spelled-read ((front ++ t ∷ []) ++ more) env p)

outcome_meets : (ts : List Text) (o : ReadOutcome) → run start [] ts ≡ o → MeetsTokens o ts
outcome_meets ts (Accepted ws) e =
    let (d, us, spelled, (nothing, values)) = env-takes ts (Leaves ws) (accepted ts start [] ws e) in
    (env_of d, sym values, (d, spelled ∙ ap (dump d) nothing, refl))
outcome_meets ts (Refused r) e =
    let s = stops ts start [] r e in
    record { front = s.front; parts = s.parts; begins = (let (env, p) = begins (s.front ++ s.more) s.goes_on in (s.more, env, p)); dead = dead s.front r s.stuck }

-- ---- a state that reading reaches

-- Where reading comes to some items, whatever is to come, some text goes on.
pub alive : (front : List Text) (is : List Item) (vs : List Value) → ((more : List Text) → run start [] (front ++ more) ≡ run is vs more) → Begins front
unfolding run
alive front is vs reached =
    let (ts, h) = some-all is vs in
    let (ws, us, e, nothing) = read-all is vs ts End h in
    let accepts : run start [] (front ++ ts) ≡ Accepted ws = reached ts ∙ e ∙ ap (λ (us : List Text). run [] ws us) nothing in
    let (env, v, p) = outcome_meets (front ++ ts) (Accepted ws) accepts in
    (ts, env, p)

-- No text goes on where the items refuse what is to come.
pub dead_at : (front rest : List Text) (is : List Item) (vs : List Value) → ((more : List Text) → run start [] (front ++ more) ≡ run is vs more) → ((s : List Text) → run is vs (same_first rest s) ≡ Refused (same_first rest s)) → IsDead front rest
dead_at front rest is vs reached stuck = dead front rest (λ s. reached (same_first rest s) ∙ stuck s)

-- What begins so is not spelled.
pub dead-apart : (front rest : List Text) (env : NamedEnv) → IsDead front rest → SpellsEnv (front ++ rest) env → ⊥
dead-apart front [] env h p = h env (subst (λ us. SpellsEnv us env) (append-nil front) p)
dead-apart front (t ∷ rest) env h p = h (rest, env, subst (λ us. SpellsEnv us env) (sym (append_assoc front (t ∷ []) rest)) p)

pub exact : IsExact
exact = record { outcome = λ ts. outcome_meets ts (run start [] ts) refl; read = spelled-read; one_meaning = one }
