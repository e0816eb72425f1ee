-- The limits that reading passes are those of the form that is read.
use Rattle.std.proofs.Common.{◌≡◌, ℕ, suc, ◌+◌, List, [], ◌∷◌, ◌++◌, map, length, Option, Some, None, Err, Bool, true, false, cond, refl, sym, ap, subst, ◌∙◌, append_assoc, append-nil, length-append}
use Rattle.std.specs.Prelude.{nat_lt, nat_le}
use Rattle.sexp_reader.specs.Text.{Text, Open, Close, Atom, Stray}
use Rattle.sexp_reader.specs.Lex.{Spanned, answer_at, nesting_after_text, token}
use Rattle.sexp_reader.specs.declared.TokenKind.TheVariants as kinds
use Rattle.sexp_reader.specs.declared.TokenFault.TheVariants as faults
use Rattle.dump_grammar.specs.Keywords.{spelling}
use Rattle.dump_grammar.specs.declared.keyword.Keyword.TheVariants as words
use Rattle.dump_grammar.specs.declared.keyword.Former.TheVariants as formers
use Rattle.dump_grammar.specs.declared.keyword.Opening.TheVariants as openings
use Rattle.dump_grammar.specs.declared.refusal.Limit.{Limit}
use Rattle.dump_grammar.specs.declared.refusal.Limit.TheVariants as limits
use Rattle.dump_grammar.specs.declared.refusal.ReadRefusal.{ReadRefusal}
use Rattle.dump_grammar.specs.declared.refusal.ReadRefusal.TheVariants as refusals
use Rattle.dump_grammar.specs.Foreign.{foreign}
use Rattle.dump_grammar.specs.Judge.{texts, Verdict, Fine, Refuse, lexed, unread, moved, judge, verdict}
use Rattle.dump_grammar.proofs.Exact.{exact}
use Rattle.dump_grammar.proofs.Law.{no-stray}
use Rattle.dump_grammar.specs.Numbers.{word, LevelName}
use Rattle.dump_grammar.specs.Named.{Named, NamedDef, NamedCtor, NamedFamily, NamedConstraint, NamedDecl}
use Rattle.dump_grammar.specs.Sorts.{PartForm, SortForm, PropForm, SetForm, TypeForm, parts, sort, sort_meaning}
use Rattle.dump_grammar.specs.Terms.{Form, FRel, FSort, FProd, FLambda, FLetIn, FApp, FConst, FInd, FConstruct, FCase, FFix, FCast, Forms, NoForm, OneForm, BranchForms, NoBranchForm, BranchForm, Definitions, NoDefinition, Definition, atoms, form, forms, branches, definitions, meaning, definition_meanings}
use Rattle.dump_grammar.specs.Declarations.{Binding, CtorForm, FamilyForm, BodyForm, NoneForm, SomeForm, DeclForm, ConstantForm, BlockForm, bindings, constructors, families, body, declaration, binding_meaning, constructor_meaning, family_meaning, declaration_meaning}
use Rattle.dump_grammar.specs.Environments.{ConstraintForm, level_names, constraints, declarations, constraint_meaning, Dump, dump, env_of}
use Rattle.dump_grammar.specs.Table.{Value, VNames, VSort, VTerm, VDefs, VTypes, VCtors, VFamilies, VConstraints, VDecls, VEnv, Action, MakeCase, MakeType, AddBlock, NoNames, NoConstraints, NoDecls, MakeEnv, act, Item, IOpen, IClose, IWord, IVersion, IHead, ISort, ITypeHead, IBody, INames, ILevels, IList, IDecls, IDecl, Do, start, Moved, step, Arguments, Terms, Telescope, Constructors, Families, Parts, Constraints, Accepted, Refused, after, run}
use Rattle.dump_grammar.specs.Table.{Branches as BranchList, Definitions as DefinitionList}
use Rattle.dump_grammar.specs.Limits.{unless, first, token_over, one_more_over, top_over, is_declaration, begins_declaration, over}
use Rattle.dump_grammar.specs.Within.{parts_over, sort_over, form_over, forms_over, branches_over, definitions_over, bindings_over, ctors_over, families_over, body_over, declaration_over, declarations_over, levels_over, constraints_over, dump_over, tokens_over, DumpIsWithin, IsLimited}
use Rattle.dump_grammar.proofs.Words.{word-is, former-is, comparison-is, opening-is, set-isn't-prop}
use Rattle.dump_grammar.proofs.Values.{counted, with_arguments, with_terms, with_branches, with_parts, with_body, counted-value, arguments-value, terms-value, branches-value, definitions-number, parts-value}
use Rattle.dump_grammar.proofs.Language.{index-is}
use Rattle.dump_grammar.proofs.NoLimit.{none_both}

first-first : (a b c : Option Limit) → first (first a b) c ≡ first a (first b c)
first-first None b c = refl
first-first (Some l) b c = refl

-- A further step, after a limit that it passes.
abbrev onward : Moved → Option Limit → (List Item → List Value → Option Limit) → Option Limit
onward None l go = None
onward (Some m) l go = first l (go m.0 m.1)

-- the first limit that reading passes
unfoldable pub passed : List Item → List Value → List Text → Option Limit
passed [] vs ts = None
passed (i ∷ is) vs [] = None
passed (i ∷ is) vs (t ∷ ts) = onward (step i t vs) (over i t vs ts) (λ js ws. passed (js ++ is) ws ts)

passed-step : (i : Item) (k : List Item) (vs : List Value) (t : Text) (ts : List Text) → passed (i ∷ k) vs (t ∷ ts) ≡ onward (step i t vs) (over i t vs ts) (λ js ws. passed (js ++ k) ws ts)
unfolding passed
passed-step i k vs t ts = refl

do-passed : (d : Action) (i : Item) (k : List Item) (vs : List Value) (ts : List Text) → passed (Do d i ∷ k) vs ts ≡ passed (i ∷ k) (act d vs) ts
unfolding passed
do-passed d i k vs [] = refl
do-passed d i k vs (t ∷ ts) = refl

type-passed : (k : List Item) (vs : List Value) (ts : List Text) → passed (ITypeHead ∷ k) vs ts ≡ passed (IHead ∷ k) vs ts
unfolding passed
type-passed k vs [] = refl
type-passed k vs (Open ∷ ts) = refl
type-passed k vs (Close ∷ ts) = refl
type-passed k vs (Atom a ∷ ts) = refl
type-passed k vs (Stray ∷ ts) = refl

names-passed : (ns : List (List ℕ)) (k : List Item) (vs : List Value) (r : List Text) → passed (INames ∷ k) vs (atoms ns (Close ∷ r)) ≡ passed k (counted ns vs) r
unfolding atoms counted
names-passed [] k vs r = simp passed-step
names-passed (a ∷ more) k vs r = simp (passed-step, do-passed, names-passed more)

parts-passed : (ps : List PartForm) (k : List Item) (vs : List Value) (r : List Text) → passed (IList Parts ∷ k) vs (parts ps (Close ∷ r)) ≡ first (parts_over ps) (passed k (act MakeType (with_parts ps vs)) r)
unfolding parts with_parts parts_over
parts-passed [] k vs r = simp passed-step
parts-passed (p ∷ more) k vs r = let n = p.add in simp (passed-step, n.spelled, parts-passed more, first-first)

sort-passed : (s : SortForm) (k : List Item) (vs : List Value) (r : List Text) → passed (ISort ∷ k) vs (sort s r) ≡ first (sort_over s) (passed k (VSort (sort_meaning s) ∷ vs) r)
unfolding sort sort_meaning sort_over
sort-passed PropForm k vs r = simp (passed-step, word-is)
sort-passed SetForm k vs r = simp (passed-step, set-isn't-prop, word-is)
sort-passed (TypeForm p more) k vs r = let n = p.add in simp (passed-step, word-is, n.spelled, parts-passed more, parts-value more, first-first)

mutual
  unfolding form meaning with_arguments with_terms with_branches form_over

  form-passed : (f : Form) (k : List Item) (vs : List Value) (r : List Text) → passed (IHead ∷ k) vs (form f r) ≡ first (form_over f) (passed k (VTerm (meaning f) ∷ vs) r)
  form-passed (FRel n) k vs r = simp (passed-step, former-is formers.Rel, n.spelled, first-first)
  form-passed (FSort s) k vs r = simp (passed-step, former-is formers.Sort, sort-passed s, first-first)
  form-passed (FProd na A B) k vs r = simp (passed-step, former-is formers.Prod, form-passed A, form-passed B, first-first)
  form-passed (FLambda na A b) k vs r = simp (passed-step, former-is formers.Lambda, form-passed A, form-passed b, first-first)
  form-passed (FLetIn na b B t) k vs r = simp (passed-step, former-is formers.LetIn, form-passed b, form-passed B, form-passed t, first-first)
  form-passed (FApp f a more) k vs r = simp (passed-step, former-is formers.App, form-passed f, form-passed a, do-passed, arguments-passed more, arguments-value, first-first)
  form-passed (FConst c) k vs r = simp (passed-step, former-is formers.Const)
  form-passed (FInd c n) k vs r = simp (passed-step, former-is formers.Ind, n.spelled, first-first)
  form-passed (FConstruct c n m) k vs r = simp (passed-step, former-is formers.Construct, n.spelled, m.spelled, first-first)
  form-passed (FCase c n ps names ret scrut brs) k vs r =
      simp (passed-step, former-is formers.Case, n.spelled, word-is, do-passed, terms-passed ps, terms-value, names-passed, counted-value, form-passed ret, form-passed scrut, branches-passed brs, branches-value, first-first)
  form-passed (FFix na A b n more i below) k vs r =
      let def : NamedDef = record { type = meaning A; body = meaning b; rarg = n.value } in
      let at = index-is i.value _ (def ∷ definition_meanings more) (ap (λ m. suc m) (definitions-number more)) below in
      simp (passed-step, former-is formers.Fix, word-is, form-passed A, form-passed b, n.spelled, definitions-passed more (def ∷ []), i.spelled, at, first-first)
  form-passed (FCast t kind T) k vs r = simp (passed-step, former-is formers.Cast, form-passed t, form-passed T, first-first)

  arguments-passed : (fs : Forms) (k : List Item) (vs : List Value) (r : List Text) → passed (IList Arguments ∷ k) vs (forms fs (Close ∷ r)) ≡ first (forms_over fs) (first (top_over (with_arguments fs vs)) (passed k (with_arguments fs vs) r))
  arguments-passed NoForm k vs r = simp passed-step
  arguments-passed (OneForm f more) k vs r = simp (passed-step, form-passed f, do-passed, arguments-passed more, first-first)

  terms-passed : (fs : Forms) (k : List Item) (vs : List Value) (r : List Text) → passed (IList Terms ∷ k) vs (forms fs (Close ∷ r)) ≡ first (forms_over fs) (passed k (with_terms fs vs) r)
  terms-passed NoForm k vs r = simp passed-step
  terms-passed (OneForm f more) k vs r = simp (passed-step, form-passed f, do-passed, terms-passed more, first-first)

  branches-passed : (brs : BranchForms) (k : List Item) (vs : List Value) (r : List Text) → passed (IList BranchList ∷ k) vs (branches brs (Close ∷ r)) ≡ first (branches_over brs) (first (top_over (act MakeCase (with_branches brs vs))) (passed k (act MakeCase (with_branches brs vs)) r))
  branches-passed NoBranchForm k vs r = simp passed-step
  branches-passed (BranchForm ns b more) k vs r = simp (passed-step, word-is, do-passed, names-passed, form-passed b, branches-passed more, first-first)

  definitions-passed : {m : ℕ} (more : Definitions m) (ds : List NamedDef) (k : List Item) (vs : List Value) (r : List Text) → passed (IList DefinitionList ∷ k) (VDefs ds ∷ vs) (definitions more (Close ∷ r)) ≡ first (definitions_over (length ds) more) (passed k
      (VDefs (ds ++ definition_meanings more) ∷ vs) r)
  definitions-passed NoDefinition ds k vs r = simp (passed-step, append-nil)
  definitions-passed (Definition na A b n more) ds k vs r =
      let def : NamedDef = record { type = meaning A; body = meaning b; rarg = n.value } in
      simp (passed-step, word-is, form-passed A, form-passed b, n.spelled, definitions-passed more (ds ++ def ∷ []), length-append, append_assoc, first-first)

-- ---- declarations

bindings-passed : (bs : List Binding) (ts : List Named) (k : List Item) (vs : List Value) (r : List Text) → passed (IList Telescope ∷ k) (VTypes ts ∷ vs) (bindings bs (Close ∷ r)) ≡ first (bindings_over (length ts) bs) (passed k (VTypes (ts ++ map binding_meaning bs) ∷ vs) r)
unfolding bindings bindings_over
bindings-passed [] ts k vs r = simp (passed-step, append-nil)
bindings-passed (b ∷ more) ts k vs r = simp (passed-step, form-passed, bindings-passed more (ts ++ meaning b.type ∷ []), length-append, append_assoc, first-first)

constructors-passed : (cs : List CtorForm) (ds : List NamedCtor) (k : List Item) (vs : List Value) (r : List Text) → passed (IList Constructors ∷ k) (VCtors ds ∷ vs) (constructors cs (Close ∷ r)) ≡ first (ctors_over (length ds) cs) (passed k (VCtors (ds ++ map constructor_meaning cs) ∷ vs) r)
unfolding constructors ctors_over
constructors-passed [] ds k vs r = simp (passed-step, append-nil)
constructors-passed (c ∷ more) ds k vs r =
    simp (passed-step, word-is, do-passed, bindings-passed c.args [], terms-passed, terms-value, constructors-passed more (ds ++ constructor_meaning c ∷ []), length-append, append_assoc, first-first)

families-passed : (fs : List FamilyForm) (gs : List NamedFamily) (k : List Item) (vs : List Value) (r : List Text) → passed (IList Families ∷ k) (VFamilies gs ∷ vs) (families fs (Close ∷ r)) ≡ first (families_over (length gs) fs) (passed k
    (act AddBlock (VFamilies (gs ++ map family_meaning fs) ∷ vs)) r)
unfolding families families_over
families-passed [] gs k vs r = simp passed-step (ap (λ xs. passed k (act AddBlock (VFamilies xs ∷ vs)) r) (sym (append-nil gs)))
families-passed (f ∷ more) gs k vs r =
    simp (passed-step, word-is, sort-passed, do-passed, bindings-passed f.indices [], constructors-passed f.ctors [], families-passed more (gs ++ family_meaning f ∷ []), length-append, first-first)
    (ap (λ xs. first (one_more_over 255 limits.Families (length gs)) (first (sort_over f.sort) (first (bindings_over 0 f.indices) (first (ctors_over 0 f.ctors) (first (families_over (length gs + 1) more) (passed k (act AddBlock (VFamilies xs ∷ vs)) r))))))
    (append_assoc gs (family_meaning f ∷ []) (map family_meaning more)))

body-passed : (b : BodyForm) (k : List Item) (vs : List Value) (r : List Text) → passed (IBody ∷ k) vs (body b r) ≡ first (body_over b) (passed k (with_body b vs) r)
unfolding body
body-passed NoneForm k vs r = simp (passed-step, word-is)
body-passed (SomeForm f) k vs r = simp (passed-step, form-passed)

constraints-passed : (cs : List ConstraintForm) (ds : List NamedConstraint) (k : List Item) (vs : List Value) (r : List Text) → passed (IList Constraints ∷ k) (VConstraints ds ∷ vs) (constraints cs (Close ∷ r)) ≡ first (constraints_over (length ds) cs) (passed k
    (VConstraints (ds ++ map constraint_meaning cs) ∷ vs) r)
unfolding constraints constraints_over
constraints-passed [] ds k vs r = simp (passed-step, append-nil)
constraints-passed (c ∷ more) ds k vs r = simp (passed-step, comparison-is c.relation, constraints-passed more (ds ++ constraint_meaning c ∷ []), length-append, append_assoc, first-first)

levels-passed : (ls : List LevelName) (ns : List (List ℕ)) (k : List Item) (vs : List Value) (r : List Text) → passed (ILevels ∷ k) (VNames ns ∷ vs) (atoms (level_names ls) (Close ∷ r)) ≡ first (levels_over (length ns) ls) (passed k (VNames (ns ++ level_names ls) ∷ vs) r)
unfolding atoms levels_over
levels-passed [] ns k vs r = simp (passed-step, append-nil)
levels-passed (l ∷ more) ns k vs r = simp (passed-step, l.other, do-passed, levels-passed more (ns ++ l.name ∷ []), length-append, append_assoc, first-first)

constant-is_declaration : is_declaration (spelling words.ConstantDecl) ≡ true
unfolding spelling
constant-is_declaration = refl

block-is_declaration : is_declaration (spelling words.InductiveDecl) ≡ true
unfolding spelling
block-is_declaration = refl

main-is_declaration : is_declaration (spelling words.Main) ≡ false
unfolding spelling
main-is_declaration = refl

declaration-begins : (d : DeclForm) (r : List Text) → begins_declaration (declaration d r) ≡ true
unfolding declaration
declaration-begins (ConstantForm c A b) r = constant-is_declaration
declaration-begins (BlockForm c ps f more) r = block-is_declaration

declaration-passed : (d : DeclForm) (ds : List NamedDecl) (k : List Item) (vs : List Value) (r : List Text) → passed (IDecl ∷ k) (VDecls ds ∷ vs) (declaration d r) ≡ first (declaration_over d) (passed (IDecls ∷ k) (VDecls (ds ++ declaration_meaning d ∷ []) ∷ vs) r)
unfolding declaration declaration_meaning declaration_over
declaration-passed (ConstantForm c A NoneForm) ds k vs r = simp (passed-step, opening-is openings.Constant, type-passed, form-passed, body-passed, first-first)
declaration-passed (ConstantForm c A (SomeForm f)) ds k vs r = simp (passed-step, opening-is openings.Constant, type-passed, form-passed, body-passed, first-first)
declaration-passed (BlockForm c ps f more) ds k vs r =
    simp (passed-step, opening-is openings.Block, word-is, do-passed, bindings-passed ps [], sort-passed, bindings-passed f.indices [], constructors-passed f.ctors [], families-passed more (family_meaning f ∷ []), first-first)

declarations-passed : (fs : List DeclForm) (t : Form) (ds : List NamedDecl) (k : List Item) (vs : List Value) (r : List Text) → passed (IDecls ∷ k) (VDecls ds ∷ vs) (Open ∷ declarations fs t r) ≡ first (declarations_over (length ds) fs t) (passed k
    (VTerm (meaning t) ∷ VDecls (ds ++ map declaration_meaning fs) ∷ vs) r)
unfolding declarations declarations_over
declarations-passed [] t ds k vs r = simp (passed-step, main-is_declaration, opening-is openings.Main, form-passed, append-nil)
declarations-passed (d ∷ more) t ds k vs r =
    passed-step IDecls k (VDecls ds ∷ vs) Open (declaration d (Open ∷ declarations more t r))
    ∙ simp (declaration-begins, declaration-passed d, declarations-passed more t (ds ++ declaration_meaning d ∷ []), length-append, append_assoc, first-first)

passed-end : (vs : List Value) (ts : List Text) → passed [] vs ts ≡ None
unfolding passed
passed-end vs ts = refl

first-none : (a : Option Limit) → first a None ≡ a
first-none None = refl
first-none (Some l) = refl

header-passed : (ls : List LevelName) (cs : List ConstraintForm) (k : List Item) (r : List Text) →
    passed (IOpen ∷ IWord words.Env ∷ IVersion ∷ IOpen ∷ IWord words.Levels ∷ Do NoNames ILevels ∷ IOpen ∷ IWord words.Constraints ∷ Do NoConstraints (IList Constraints) ∷ k) []
    (Open ∷ word words.Env ∷ word words.One ∷ Open ∷ word words.Levels ∷ atoms (level_names ls) (Close ∷ Open ∷ word words.Constraints ∷ constraints cs (Close ∷ r)))
    ≡ first (levels_over 0 ls) (first (constraints_over 0 cs) (passed k (VConstraints (map constraint_meaning cs) ∷ VNames (level_names ls) ∷ []) r))
header-passed ls cs k r = simp (passed-step, word-is, do-passed, levels-passed ls [], constraints-passed cs [])

last-passed : (vs : List Value) → passed (Do MakeEnv IClose ∷ []) vs (Close ∷ []) ≡ None
last-passed vs = simp (passed-step, passed-end)

dump-passed : (d : Dump) → passed start [] (dump d []) ≡ dump_over d
dump-passed d =
    let vs : List Value = VConstraints (map constraint_meaning d.constraints) ∷ VNames (level_names d.levels) ∷ [] in
    let k : List Item = Do MakeEnv IClose ∷ [] in
    let decls = do-passed NoDecls IDecls k vs (Open ∷ declarations d.decls d.main (Close ∷ [])) ∙ declarations-passed d.decls d.main [] k vs (Close ∷ []) in
    let end = ap (first (declarations_over 0 d.decls d.main)) (last-passed (VTerm (meaning d.main) ∷ VDecls (map declaration_meaning d.decls) ∷ vs)) ∙ first-none (declarations_over 0 d.decls d.main) in
    header-passed d.levels d.constraints (Do NoDecls IDecls ∷ k) (Open ∷ declarations d.decls d.main (Close ∷ []))
    ∙ ap (λ x. first (levels_over 0 d.levels) (first (constraints_over 0 d.constraints) x)) (decls ∙ end)

-- ---- the verdict

abbrev Quiet : ℕ → List Item → List Value → List Text → Type 0
Quiet d is vs ts = (tokens_over d ts ≡ None) × (passed is vs ts ≡ None)

-- ---- what is quiet and read is fine, and the other way round

token-quiet : (d st : ℕ) (t : Text) (v : Verdict) (ws : List Value) → token_over d t ≡ None → (t ≡ Stray → ⊥) → lexed (answer_at d st t) v ≡ v
token-quiet d st Open v ws e n =
    let P : Bool → Type 0 = λ b. unless b limits.Nesting ≡ None → lexed (cond b (token kinds.Open st (st + 1)) (Err (faults.Nesting st))) v ≡ v in
    let on : (b : Bool) → P b = λ b. elim b as P [ true ↦ λ e. refl | false ↦ λ e. absurd cc ] in
    on (nat_lt d 1000) e
token-quiet d st Close v ws e n = refl
token-quiet d st (Atom a) v ws e n =
    let P : Bool → Type 0 = λ b. unless b limits.NameBytes ≡ None → lexed (cond b (token kinds.Atom st (st + length a)) (Err (faults.NameBytes st))) v ≡ v in
    let on : (b : Bool) → P b = λ b. elim b as P [ true ↦ λ e. refl | false ↦ λ e. absurd cc ] in
    on (nat_le (length a) 255) e
token-quiet d st Stray v ws e n = absurd (n refl)

token-fine : (d st : ℕ) (t : Text) (v : Verdict) (ws : List Value) → lexed (answer_at d st t) v ≡ Fine ws → (token_over d t ≡ None) × (v ≡ Fine ws)
token-fine d st Open v ws e =
    let P : Bool → Type 0 = λ b. lexed (cond b (token kinds.Open st (st + 1)) (Err (faults.Nesting st))) v ≡ Fine ws → (unless b limits.Nesting ≡ None) × (v ≡ Fine ws) in
    let on : (b : Bool) → P b = λ b. elim b as P [ true ↦ λ e. (refl, e) | false ↦ λ e. absurd cc ] in
    on (nat_lt d 1000) e
token-fine d st Close v ws e = (refl, e)
token-fine d st (Atom a) v ws e =
    let P : Bool → Type 0 = λ b. lexed (cond b (token kinds.Atom st (st + length a)) (Err (faults.NameBytes st))) v ≡ Fine ws → (unless b limits.NameBytes ≡ None) × (v ≡ Fine ws) in
    let on : (b : Bool) → P b = λ b. elim b as P [ true ↦ λ e. (refl, e) | false ↦ λ e. absurd cc ] in
    on (nat_le (length a) 255) e
token-fine d st Stray v ws e = absurd cc

module _ (len : ℕ) where
  quiet : (ss : List Spanned) (d : ℕ) (is : List Item) (vs ws : List Value) → run is vs (texts ss) ≡ Accepted ws → Quiet d is vs (texts ss) → judge len ss d is vs ≡ Fine ws
  unfolding judge run passed tokens_over
  quiet [] d [] vs ws e q = cc
  quiet [] d (i ∷ is) vs ws e q = absurd cc
  quiet (s ∷ ss) d [] vs ws e q = absurd cc
  quiet (s ∷ ss) d (i ∷ is) vs ws e (tokens, items) =
      let (token, more) = none_both (token_over d s.text) (tokens_over (nesting_after_text d s.text) (texts ss)) tokens in
      let d' : ℕ = nesting_after_text d s.text in
      let go : List Item → List Value → Verdict = λ js xs. judge len ss d' (js ++ is) xs in
      let none : ReadRefusal = unread (foreign i s.text) s.start in
      let P : Moved → Type 0 = λ m. step i s.text vs ≡ m → after m (Refused (s.text ∷ texts ss)) (λ js xs. run (js ++ is) xs (texts ss)) ≡ Accepted ws
      → onward m (over i s.text vs (texts ss)) (λ js xs. passed (js ++ is) xs (texts ss)) ≡ None → lexed (answer_at d s.start s.text) (moved m none (over i s.text vs (texts ss)) s.start go) ≡ Fine ws in
      let on : (m : Moved) → P m = λ m. elim m as P [
        | None ↦ λ at e q. absurd cc
        | Some m ↦ λ at e q.
            let (here, after') = none_both (over i s.text vs (texts ss)) (passed (m.0 ++ is) m.1 (texts ss)) q in
            let taken : s.text ≡ Stray → ⊥ = λ stray. (let no : Some m ≡ None = sym at ∙ subst (λ t. step i t vs ≡ None) (sym stray) (no-stray i vs) in cc) in
            token-quiet d s.start s.text (moved (Some m) none (over i s.text vs (texts ss)) s.start go) ws token taken
            ∙ ap (λ l. moved (Some m) none l s.start go) here
            ∙ quiet ss d' (m.0 ++ is) m.1 ws e (more, after')
      ] in
      on (step i s.text vs) refl e items

  loud : (ss : List Spanned) (d : ℕ) (is : List Item) (vs ws : List Value) → judge len ss d is vs ≡ Fine ws → Quiet d is vs (texts ss)
  unfolding judge passed tokens_over
  loud [] d [] vs ws e = (refl, refl)
  loud [] d (i ∷ is) vs ws e = absurd cc
  loud (s ∷ ss) d [] vs ws e =
      let h = token-fine d s.start s.text (Refuse (refusals.Syntax s.start)) ws e in
      let no : Refuse (refusals.Syntax s.start) ≡ Fine ws = h.1 in
      absurd cc
  loud (s ∷ ss) d (i ∷ is) vs ws e =
      let d' : ℕ = nesting_after_text d s.text in
      let go : List Item → List Value → Verdict = λ js xs. judge len ss d' (js ++ is) xs in
      let none : ReadRefusal = unread (foreign i s.text) s.start in
      let (token, h) = token-fine d s.start s.text (moved (step i s.text vs) none (over i s.text vs (texts ss)) s.start go) ws e in
      let P : Moved → Option Limit → Type 0 = λ m l. moved m none l s.start go ≡ Fine ws → (tokens_over d' (texts ss) ≡ None) × (onward m l (λ js xs. passed (js ++ is) xs (texts ss)) ≡ None) in
      let on : (m : Moved) (l : Option Limit) → P m l = λ m l. elim m as (λ m. P m l) [
        | None ↦ λ e. absurd cc
        | Some m ↦ elim l as (λ l. P (Some m) l) [
          | None ↦ λ e. loud ss d' (m.0 ++ is) m.1 ws e
          | Some l ↦ λ e. absurd cc
        ]
      ] in
      let (more, items) = on (step i s.text vs) (over i s.text vs (texts ss)) h in
      (rw token more, items)

within : (len : ℕ) (tokens : List Spanned) (d : Dump) → texts tokens ≡ dump d [] → DumpIsWithin d → verdict len tokens ≡ Fine (VEnv (env_of d) ∷ [])
within len tokens d e (short, small) =
    let read : run start [] (texts tokens) ≡ Accepted (VEnv (env_of d) ∷ []) = exact.read (texts tokens) (env_of d) (d, e, refl) in
    quiet len tokens 0 start [] (VEnv (env_of d) ∷ []) read (ap (tokens_over 0) e ∙ short, ap (passed start []) e ∙ dump-passed d ∙ small)

only : (len : ℕ) (tokens : List Spanned) (d : Dump) → texts tokens ≡ dump d [] → verdict len tokens ≡ Fine (VEnv (env_of d) ∷ []) → DumpIsWithin d
only len tokens d e f =
    let (short, small) = loud len tokens 0 start [] (VEnv (env_of d) ∷ []) f in
    (ap (tokens_over 0) (sym e) ∙ short, sym (dump-passed d) ∙ ap (passed start []) (sym e) ∙ small)

pub limited : IsLimited
limited = record { within = within; only = only }
