-- What each item stands for: a form, its tokens, and the values that it leaves.
use Rattle.std.proofs.Common.{◌≡◌, ℕ, suc, List, [], ◌∷◌, length, Option, Some, None, Bool, true, false, cond, refl, sym, ap, subst, arith}
use Rattle.std.specs.Prelude.{bytes_eq, nat_eq, nat_lt, ◌||◌}
use Rattle.std.proofs.lemmas.Bool.{eqb-true, lt-ltb}
use Rattle.sexp_reader.specs.Text.{Text, Open, Close, Atom}
use Rattle.dump_grammar.specs.Keywords.{spelling}
use Rattle.dump_grammar.specs.declared.keyword.Keyword.{Keyword}
use Rattle.dump_grammar.specs.declared.keyword.Keyword.TheVariants as words
use Rattle.dump_grammar.specs.declared.keyword.Former.{Former}
use Rattle.dump_grammar.specs.declared.keyword.Former.TheVariants as formers
use Rattle.dump_grammar.specs.declared.keyword.Opening.{Opening}
use Rattle.dump_grammar.specs.declared.keyword.Opening.TheVariants as openings
use Rattle.dump_grammar.specs.Numbers.{word, number_of, Numeral, LevelName}
use Rattle.dump_grammar.specs.Words.{former_of, comparison_of, opening_of}
use Rattle.dump_grammar.specs.Named.{NamedDef, AProp, AType, NamedComparison}
use Rattle.dump_grammar.specs.Sorts.{PartForm, SortForm, PropForm, SetForm, TypeForm, parts, sort, sort_meaning}
use Rattle.dump_grammar.specs.Terms.{Form, FRel, FSort, FProd, FLambda, FLetIn, FApp, FConst, FInd, FConstruct, FCase, FFix, FCast, Forms, NoForm, OneForm, BranchForms, NoBranchForm, BranchForm, Definitions, NoDefinition, Definition, atoms, form, forms, branches, definitions, count, meaning, meanings, definition_meanings}
use Rattle.dump_grammar.specs.Declarations.{Binding, CtorForm, FamilyForm, BodyForm, NoneForm, DeclForm, ConstantForm, BlockForm, bindings, constructors, families, body, declaration}
use Rattle.dump_grammar.specs.Environments.{ConstraintForm, level_names, constraints, declarations, word_of_comparison}
use Rattle.dump_grammar.specs.Table.{Value, VNumber, VName, VComparison, VSort, VTerm, VNone, VTerms, MakeType, MakeFix, AddName, NoParts, act, Kind, Arguments, Terms, Telescope, Constructors, Families, Parts, Constraints, Item, IOpen, IClose, IEnd, IEntryEnd, IWord, IParams, IVersion, IBinder, IName, ILevel, INumber, IAdd, IIndex, IComparison, ISort, ITerm, IHead, IType, ITypeHead, IBody, INames, ILevels, IList, IDecls, IDecl, Do, next, finish, row, opened, is_index, at_former, at_opening, at_comparison, at_number, at_index, at_sort, Moved}
use Rattle.dump_grammar.specs.Table.{Branches as BranchList, Definitions as DefinitionList}
use Rattle.dump_grammar.proofs.Words.{word_of_former, word_of_opening, same_bytes, former-found, comparison-found, opening-found}
use Rattle.dump_grammar.proofs.Values.{counted, with_levels, with_arguments, with_terms, with_branches, with_definitions, with_bindings, with_constructor, with_constructors, with_family, with_families, with_parts, with_constraints, with_body, with_declaration, with_declarations, counted-value, arguments-value, terms-value, branches-value, definitions-value, definitions-number, parts-value}

abbrev pub ListThing : Kind → Type 0
ListThing Arguments = Forms
ListThing Terms = Forms
ListThing BranchList = BranchForms
ListThing DefinitionList = (m : ℕ) × Definitions m
ListThing Telescope = List Binding
ListThing Constructors = List CtorForm
ListThing Families = List FamilyForm
ListThing Parts = List PartForm
ListThing Constraints = List ConstraintForm

abbrev pub list_text : (k : Kind) → ListThing k → List Text → List Text
list_text Arguments x r = forms x r
list_text Terms x r = forms x r
list_text BranchList x r = branches x r
list_text DefinitionList x r = definitions x.1 r
list_text Telescope x r = bindings x r
list_text Constructors x r = constructors x r
list_text Families x r = families x r
list_text Parts x r = parts x r
list_text Constraints x r = constraints x r

abbrev pub list_value : (k : Kind) → ListThing k → List Value → List Value
list_value Arguments x vs = with_arguments x vs
list_value Terms x vs = with_terms x vs
list_value BranchList x vs = with_branches x vs
list_value DefinitionList x vs = with_definitions x.1 vs
list_value Telescope x vs = with_bindings x vs
list_value Constructors x vs = with_constructors x vs
list_value Families x vs = with_families x vs
list_value Parts x vs = with_parts x vs
list_value Constraints x vs = with_constraints x vs

-- What an item stands for, where these values have been read.
abbrev pub Thing : Item → List Value → Type 0
Thing IBinder vs = List ℕ
Thing IName vs = List ℕ
Thing ILevel vs = List ℕ
Thing INumber vs = Numeral
Thing IAdd vs = Numeral
Thing IIndex vs = (n : Numeral) × (is_index n.value vs ≡ true)
Thing IComparison vs = NamedComparison
Thing ISort vs = SortForm
Thing ITerm vs = Form
Thing IHead vs = Form
Thing IType vs = Form
Thing ITypeHead vs = Form
Thing IBody vs = BodyForm
Thing INames vs = List (List ℕ)
Thing ILevels vs = List LevelName
Thing (IList k) vs = ListThing k
Thing IDecls vs = List DeclForm × Form
Thing IDecl vs = List DeclForm × Form
Thing (Do d i) vs = Thing i (act d vs)
Thing _ vs = Unit {0}

-- its tokens, before the tokens that follow
abbrev pub text : (i : Item) (vs : List Value) → Thing i vs → List Text → List Text
text IOpen vs x r = Open ∷ r
text IClose vs x r = Close ∷ r
text IEnd vs x r = Close ∷ r
text IEntryEnd vs x r = Close ∷ r
text (IWord w) vs x r = word w ∷ r
text IParams vs x r = word words.Params ∷ r
text IVersion vs x r = word words.One ∷ r
text IBinder vs x r = Atom x ∷ r
text IName vs x r = Atom x ∷ r
text ILevel vs x r = Atom x ∷ r
text INumber vs x r = Atom x.atom ∷ r
text IAdd vs x r = Atom x.atom ∷ r
text IIndex vs x r = Atom x.0.atom ∷ r
text IComparison vs x r = word (word_of_comparison x) ∷ r
text ISort vs x r = sort x r
text ITerm vs x r = Open ∷ form x r
text IHead vs x r = form x r
text IType vs x r = Open ∷ form x r
text ITypeHead vs x r = form x r
text IBody vs x r = body x r
text INames vs x r = atoms x (Close ∷ r)
text ILevels vs x r = atoms (level_names x) (Close ∷ r)
text (IList k) vs x r = list_text k x (Close ∷ r)
text IDecls vs x r = Open ∷ declarations x.0 x.1 r
text IDecl vs x r = declarations x.0 x.1 r
text (Do d i) vs x r = text i (act d vs) x r

-- the values then
abbrev pub value : (i : Item) (vs : List Value) → Thing i vs → List Value
value IName vs x = VName x ∷ vs
value ILevel vs x = VName x ∷ vs
value INumber vs x = VNumber x.value ∷ vs
value IAdd vs x = VNumber x.value ∷ vs
value IIndex vs x = VNumber x.0.value ∷ vs
value IComparison vs x = VComparison x ∷ vs
value ISort vs x = VSort (sort_meaning x) ∷ vs
value ITerm vs x = VTerm (meaning x) ∷ vs
value IHead vs x = VTerm (meaning x) ∷ vs
value IType vs x = VTerm (meaning x) ∷ vs
value ITypeHead vs x = VTerm (meaning x) ∷ vs
value IBody vs x = with_body x vs
value INames vs x = counted x vs
value ILevels vs x = with_levels x vs
value (IList k) vs x = act (finish k) (list_value k x vs)
value IDecls vs x = VTerm (meaning x.1) ∷ with_declarations x.0 vs
value IDecl vs x = VTerm (meaning x.1) ∷ with_declarations x.0 vs
value (Do d i) vs x = value i (act d vs) x
value _ vs x = vs

-- what is to hold of the values and the tokens that are left
abbrev pub Left : Type 1
Left = List Value → List Text → Type 0

-- The item is spelled at the front, and P holds of what is left.
abbrev pub Takes : Item → List Value → List Text → Left → Type 0
Takes i vs ts P = (x : Thing i vs) × (us : List Text) × (ts ≡ text i vs x us) × P (value i vs x) us

abbrev pub TakesAll : List Item → List Value → List Text → Left → Type 0
TakesAll [] vs ts P = P vs ts
TakesAll (i ∷ is) vs ts P = Takes i vs ts (λ ws us. TakesAll is ws us P)

-- An index that may come is below the number of definitions.
index-below : (i m : ℕ) (ds : List NamedDef) → length ds ≡ suc m → (nat_eq i 0 || nat_lt i (length ds)) ≡ true → nat_lt i (suc m) ≡ true
index-below i m ds e h =
    let P : Bool → Type 0 = λ b. nat_eq i 0 ≡ b → (b || nat_lt i (length ds)) ≡ true → nat_lt i (suc m) ≡ true in
    let on : (b : Bool) → P b = λ b. elim b as P [
      | true ↦ λ at h. (let zero : i ≡ 0 = eqb-true i 0 at in lt-ltb i (suc m) (omega arith))
      | false ↦ λ at h. subst (λ n. nat_lt i n ≡ true) e h
    ] in
    on (nat_eq i 0) refl h

abbrev pub OnMoved : Moved → (List Item → List Value → Type 0) → Type 0
OnMoved None Q = Unit {0}
OnMoved (Some m) Q = Q m.0 m.1

module _ (P : Left) where
  -- What the first token of an item leaves is the rest of the item.
  abbrev pub Goes : Item → Text → List Value → Moved → Type 0
  Goes i t vs m = OnMoved m (λ js ws. (ts : List Text) → TakesAll js ws ts P → Takes i vs (t ∷ ts) P)

  -- ---- terms

  abbrev IsRow : Former → Type 0
  IsRow f = (vs : List Value) (ts : List Text) → TakesAll (row f) vs ts P → Takes IHead vs (word (word_of_former f) ∷ ts) P

  rows : (f : Former) → IsRow f
  unfolding form meaning
  rows formers.Rel vs ts h = let (n, u1, e1, (x, u2, e2, p)) = h in (FRel n, u2, rw (e1, e2) refl, p)
  rows formers.Sort vs ts h = let (s, u1, e1, (x, u2, e2, p)) = h in (FSort s, u2, rw (e1, e2) refl, p)
  rows formers.Prod vs ts h = let (na, u1, e1, (A, u2, e2, (B, u3, e3, (x, u4, e4, p)))) = h in (FProd na A B, u4, rw (e1, e2, e3, e4) refl, p)
  rows formers.Lambda vs ts h = let (na, u1, e1, (A, u2, e2, (b, u3, e3, (x, u4, e4, p)))) = h in (FLambda na A b, u4, rw (e1, e2, e3, e4) refl, p)
  rows formers.LetIn vs ts h = let (na, u1, e1, (b, u2, e2, (B, u3, e3, (t, u4, e4, (x, u5, e5, p))))) = h in (FLetIn na b B t, u5, rw (e1, e2, e3, e4, e5) refl, p)
  rows formers.App vs ts h =
      let (f, u1, e1, (a, u2, e2, (more, u3, e3, p))) = h in
      (FApp f a more, u3, rw (e1, e2, e3) refl, subst (λ ws. P ws u3) (arguments-value more _ vs) p)
  rows formers.Const vs ts h = let (k, u1, e1, (x, u2, e2, p)) = h in (FConst k, u2, rw (e1, e2) refl, p)
  rows formers.Ind vs ts h = let (k, u1, e1, (n, u2, e2, (x, u3, e3, p))) = h in (FInd k n, u3, rw (e1, e2, e3) refl, p)
  rows formers.Construct vs ts h = let (k, u1, e1, (n, u2, e2, (c, u3, e3, (x, u4, e4, p)))) = h in (FConstruct k n c, u4, rw (e1, e2, e3, e4) refl, p)
  rows formers.Case vs ts h =
      let (x1, u1, e1, (k, u2, e2, (n, u3, e3, (x4, u4, e4, (x5, u5, e5, (x6, u6, e6, (ps, u7, e7, (x8, u8, e8, (x9, u9, e9, (x10, u10, e10, (ns, u11, e11, (ret, u12, e12, (x13, u13, e13, (scrut, u14, e14, (brs, u15, e15, p))))))))))))))) = h in
      let vs1 : List Value = VNumber n.value ∷ VName k ∷ vs in
      let vs2 : List Value = VTerms (meanings ps) ∷ vs1 in
      let vs3 : List Value = VTerm (meaning scrut) ∷ VTerm (meaning ret) ∷ VNumber (count ns 0) ∷ vs2 in (
        FCase k n ps ns ret scrut brs,
        u15,
        rw (e1, e2, e3, e4, e5, e6, e7, e8, e9, e10, e11, e12, e13, e14, e15) refl,
        subst (λ ws. P ws u15) (rw (terms-value ps [] vs1, counted-value ns 0 vs2, branches-value brs [] vs3) refl) p,
      )
  rows formers.Fix vs ts h =
      let (x1, u1, e1, (x2, u2, e2, (x3, u3, e3, (na, u4, e4, (A, u5, e5, (b, u6, e6, (n, u7, e7, (x8, u8, e8, (ds, u9, e9, (i, u10, e10, (x11, u11, e11, p))))))))))) = h in
      let def : NamedDef = record { type = meaning A; body = meaning b; rarg = n.value } in
      let at = definitions-value ds.1 (def ∷ []) vs in
      let below = index-below i.0.value ds.0 (def ∷ definition_meanings ds.1) (ap (λ m. suc m) (definitions-number ds.1)) (subst (λ ws. is_index i.0.value ws ≡ true) at i.1) in
      (FFix na A b n ds.1 i.0 below, u11, rw (e1, e2, e3, e4, e5, e6, e7, e8, e9, e10, e11) refl, subst (λ ws. P (act MakeFix (VNumber i.0.value ∷ ws)) u11) at p)
  rows formers.Cast vs ts h = let (t, u1, e1, (kind, u2, e2, (T, u3, e3, (x, u4, e4, p)))) = h in (FCast t kind T, u4, rw (e1, e2, e3, e4) refl, p)

  -- ---- words and numbers

  pub word-goes : (w : Keyword) (a : List ℕ) (vs : List Value) (i : Item) (b : Bool) → bytes_eq a (spelling w) ≡ b
      → ((ts : List Text) → P vs ts → Takes i vs (word w ∷ ts) P) → Goes i (Atom a) vs (cond b (Some ([], vs)) None)
  word-goes w a vs i true e f = λ ts p. subst (λ c. Takes i vs (Atom c ∷ ts) P) (sym (same_bytes a (spelling w) e)) (f ts p)
  word-goes w a vs i false e f = tt

  pub number-goes : (a : List ℕ) (vs : List Value) (o : Option ℕ) → number_of a ≡ o → Goes INumber (Atom a) vs (at_number o vs)
  number-goes a vs None e = tt
  number-goes a vs (Some n) e = λ ts p. (record { atom = a; value = n; spelled = e }, ts, refl, p)

  pub add-goes : (a : List ℕ) (vs : List Value) (o : Option ℕ) → number_of a ≡ o → Goes IAdd (Atom a) vs (at_number o vs)
  add-goes a vs None e = tt
  add-goes a vs (Some n) e = λ ts p. (record { atom = a; value = n; spelled = e }, ts, refl, p)

  pub index-goes : (a : List ℕ) (vs : List Value) (o : Option ℕ) → number_of a ≡ o → Goes IIndex (Atom a) vs (at_index o vs)
  index-goes a vs None e = tt
  index-goes a vs (Some n) e =
      let Q : Bool → Type 0 = λ b. is_index n vs ≡ b → Goes IIndex (Atom a) vs (cond b (Some ([], VNumber n ∷ vs)) None) in
      let on : (b : Bool) → Q b = λ b. elim b as Q [
        | true ↦ λ at. λ ts p. ((record { atom = a; value = n; spelled = e }, at), ts, refl, p)
        | false ↦ λ at. tt
      ] in
      on (is_index n vs) refl

  pub comparison-goes : (a : List ℕ) (vs : List Value) (o : Option NamedComparison) → comparison_of a ≡ o → Goes IComparison (Atom a) vs (at_comparison o vs)
  comparison-goes a vs None e = tt
  comparison-goes a vs (Some c) e = λ ts p. (c, ts, ap (λ x. Atom x ∷ ts) (comparison-found a c e), p)

  pub former-goes : (a : List ℕ) (vs : List Value) (o : Option Former) → former_of a ≡ o → Goes IHead (Atom a) vs (at_former o vs)
  former-goes a vs None e = tt
  former-goes a vs (Some f) e = λ ts p. subst (λ x. Takes IHead vs (Atom x ∷ ts) P) (sym (former-found a f e)) (rows f vs ts p)

  pub type-former-goes : (a : List ℕ) (vs : List Value) (o : Option Former) → former_of a ≡ o → Goes ITypeHead (Atom a) vs (at_former o vs)
  type-former-goes a vs None e = tt
  type-former-goes a vs (Some f) e = λ ts p. subst (λ x. Takes IHead vs (Atom x ∷ ts) P) (sym (former-found a f e)) (rows f vs ts p)

  pub level-goes : (a : List ℕ) (vs : List Value) (b : Bool) → bytes_eq a (spelling words.Set) ≡ b → Goes ILevels (Atom a) vs (cond b None (Some (Do AddName ILevels ∷ [], VName a ∷ vs)))
  unfolding atoms with_levels
  level-goes a vs true e = tt
  level-goes a vs false e = λ ts h. let (ls, us, e2, p) = h in (record { name = a; other = e } ∷ ls, us, rw e2 refl, p)

  -- ---- sorts

  pub sort-goes : (a : List ℕ) (vs : List Value) → Goes ISort (Atom a) vs (at_sort a vs)
  unfolding sort sort_meaning
  sort-goes a vs =
      let Q : Bool → Type 0 = λ b. bytes_eq a (spelling words.Prop) ≡ b → Goes ISort (Atom a) vs (cond b (Some ([], VSort AProp ∷ vs)) (cond (bytes_eq a (spelling words.Set)) (Some ([], VSort (AType ((spelling words.Set, 0) ∷ [])) ∷ vs)) None)) in
      let R : Bool → Type 0 = λ b. bytes_eq a (spelling words.Set) ≡ b → Goes ISort (Atom a) vs (cond b (Some ([], VSort (AType ((spelling words.Set, 0) ∷ [])) ∷ vs)) None) in
      let set : (b : Bool) → R b = λ b. elim b as R [
        | true ↦ λ at. λ ts p. (SetForm, ts, ap (λ x. Atom x ∷ ts) (same_bytes a (spelling words.Set) at), p)
        | false ↦ λ at. tt
      ] in
      let prop : (b : Bool) → Q b = λ b. elim b as Q [
        | true ↦ λ at. λ ts p. (PropForm, ts, ap (λ x. Atom x ∷ ts) (same_bytes a (spelling words.Prop) at), p)
        | false ↦ λ at. set (bytes_eq a (spelling words.Set)) refl
      ] in
      prop (bytes_eq a (spelling words.Prop)) refl

  pub type-goes : (vs : List Value) (ts : List Text) → TakesAll (IWord words.Type ∷ Do NoParts IOpen ∷ next Parts) vs ts P → Takes ISort vs (Open ∷ ts) P
  unfolding sort sort_meaning
  type-goes vs ts h =
      let (x1, u1, e1, (x2, u2, e2, (l, u3, e3, (n, u4, e4, (x5, u5, e5, (ps, u6, e6, p)))))) = h in
      (TypeForm (record { level = l; add = n }) ps, u6, rw (e1, e2, e3, e4, e5, e6) refl, subst (λ ws. P (act MakeType ws) u6) (parts-value ps ((l, n.value) ∷ []) vs) p)

  pub body-goes : (a : List ℕ) (vs : List Value) → Goes IBody (Atom a) vs (cond (bytes_eq a (spelling words.NoBody)) (Some ([], VNone ∷ vs)) None)
  unfolding body
  body-goes a vs =
      let Q : Bool → Type 0 = λ b. bytes_eq a (spelling words.NoBody) ≡ b → Goes IBody (Atom a) vs (cond b (Some ([], VNone ∷ vs)) None) in
      let on : (b : Bool) → Q b = λ b. elim b as Q [
        | true ↦ λ at. λ ts p. (NoneForm, ts, ap (λ x. Atom x ∷ ts) (same_bytes a (spelling words.NoBody) at), p)
        | false ↦ λ at. tt
      ] in
      on (bytes_eq a (spelling words.NoBody)) refl

  -- ---- lists

  pub next-goes : (k : Kind) (vs : List Value) (ts : List Text) → TakesAll (next k) vs ts P → Takes (IList k) vs (Open ∷ ts) P
  unfolding forms branches definitions bindings constructors families parts constraints with_arguments with_terms with_branches with_definitions with_bindings with_constructor with_constructors with_family with_families with_parts with_constraints
  next-goes Arguments vs ts h = let (f, u1, e1, (more, u2, e2, p)) = h in (OneForm f more, u2, rw (e1, e2) refl, p)
  next-goes Terms vs ts h = let (f, u1, e1, (more, u2, e2, p)) = h in (OneForm f more, u2, rw (e1, e2) refl, p)
  next-goes BranchList vs ts h =
      let (x1, u1, e1, (x2, u2, e2, (ns, u3, e3, (b, u4, e4, (x5, u5, e5, (more, u6, e6, p)))))) = h in
      (BranchForm ns b more, u6, rw (e1, e2, e3, e4, e5, e6) refl, p)
  next-goes DefinitionList vs ts h =
      let (x1, u1, e1, (na, u2, e2, (A, u3, e3, (b, u4, e4, (n, u5, e5, (x6, u6, e6, (ds, u7, e7, p))))))) = h in
      ((suc ds.0, Definition na A b n ds.1), u7, rw (e1, e2, e3, e4, e5, e6, e7) refl, p)
  next-goes Telescope vs ts h =
      let (na, u1, e1, (A, u2, e2, (x3, u3, e3, (more, u4, e4, p)))) = h in
      (record { name = na; type = A } ∷ more, u4, rw (e1, e2, e3, e4) refl, p)
  next-goes Constructors vs ts h =
      let (x1, u1, e1, (c, u2, e2, (x3, u3, e3, (x4, u4, e4, (args, u5, e5, (x6, u6, e6, (x7, u7, e7, (res, u8, e8, (x9, u9, e9, (more, u10, e10, p)))))))))) = h in
      (record { name = c; args = args; result = res } ∷ more, u10, rw (e1, e2, e3, e4, e5, e6, e7, e8, e9, e10) refl, p)
  next-goes Families vs ts h =
      let (x1, u1, e1, (f, u2, e2, (x3, u3, e3, (x4, u4, e4, (s, u5, e5, (x6, u6, e6, (x7, u7, e7, (x8, u8, e8, (is, u9, e9, (cs, u10, e10, (more, u11, e11, p))))))))))) = h in
      (record { name = f; sort = s; indices = is; ctors = cs } ∷ more, u11, rw (e1, e2, e3, e4, e5, e6, e7, e8, e9, e10, e11) refl, p)
  next-goes Parts vs ts h =
      let (l, u1, e1, (n, u2, e2, (x3, u3, e3, (more, u4, e4, p)))) = h in
      (record { level = l; add = n } ∷ more, u4, rw (e1, e2, e3, e4) refl, p)
  next-goes Constraints vs ts h =
      let (c, u1, e1, (l, u2, e2, (r, u3, e3, (x4, u4, e4, (more, u5, e5, p))))) = h in
      (record { relation = c; left = l; right = r } ∷ more, u5, rw (e1, e2, e3, e4, e5) refl, p)

  pub end-goes : (k : Kind) (vs : List Value) (ts : List Text) → P (act (finish k) vs) ts → Takes (IList k) vs (Close ∷ ts) P
  unfolding forms branches definitions bindings constructors families parts constraints with_arguments with_terms with_branches with_definitions with_bindings with_constructors with_families with_parts with_constraints
  end-goes Arguments vs ts p = (NoForm, ts, refl, p)
  end-goes Terms vs ts p = (NoForm, ts, refl, p)
  end-goes BranchList vs ts p = (NoBranchForm, ts, refl, p)
  end-goes DefinitionList vs ts p = ((0, NoDefinition), ts, refl, p)
  end-goes Telescope vs ts p = ([], ts, refl, p)
  end-goes Constructors vs ts p = ([], ts, refl, p)
  end-goes Families vs ts p = ([], ts, refl, p)
  end-goes Parts vs ts p = ([], ts, refl, p)
  end-goes Constraints vs ts p = ([], ts, refl, p)

  -- ---- declarations

  opened-goes : (o : Opening) (vs : List Value) (ts : List Text) → TakesAll (opened o) vs ts P → Takes IDecl vs (word (word_of_opening o) ∷ ts) P
  unfolding declarations declaration with_declarations with_declaration with_family
  opened-goes openings.Constant vs ts h =
      let (k, u1, e1, (A, u2, e2, (b, u3, e3, (x4, u4, e4, (more, u5, e5, p))))) = h in
      ((ConstantForm k A b ∷ more.0, more.1), u5, rw (e1, e2, e3, e4, e5) refl, p)
  opened-goes openings.Block vs ts h =
      let (k, u1, e1, (x2, u2, e2, (x3, u3, e3, (ps, u4, e4, (x5, u5, e5, h5))))) = h in
      let (x6, u6, e6, (f, u7, e7, (x8, u8, e8, (x9, u9, e9, (s, u10, e10, h10))))) = h5 in
      let (x11, u11, e11, (x12, u12, e12, (x13, u13, e13, (is, u14, e14, (cs, u15, e15, h15))))) = h10 in
      let (fs, u16, e16, (more, u17, e17, p)) = h15 in
      ((BlockForm k ps (record { name = f; sort = s; indices = is; ctors = cs }) fs ∷ more.0, more.1), u17, rw (e1, e2, e3, e4, e5, e6, e7, e8, e9, e10, e11, e12, e13, e14, e15, e16, e17) refl, p)
  opened-goes openings.Main vs ts h =
      let (t, u1, e1, (x2, u2, e2, p)) = h in
      (([], t), u2, rw (e1, e2) refl, p)

  pub opening-goes : (a : List ℕ) (vs : List Value) (o : Option Opening) → opening_of a ≡ o → Goes IDecl (Atom a) vs (at_opening o vs)
  opening-goes a vs None e = tt
  opening-goes a vs (Some o) e = λ ts p. subst (λ x. Takes IDecl vs (Atom x ∷ ts) P) (sym (opening-found a o e)) (opened-goes o vs ts p)
