-- Reading from left to right: what may come next, and the first token where nothing may.
use Rattle.std.specs.Prelude.{ℕ, ◌+◌, List, [], ◌∷◌, ◌++◌, length, Option, Some, None, Bool, true, ◌||◌, bytes_eq, nat_eq, nat_lt, if◌then◌else◌}
use Rattle.sexp_reader.specs.Text.{Text, Open, Close, Atom}
use Rattle.dump_grammar.specs.Keywords.{spelling}
use Rattle.dump_grammar.specs.declared.keyword.Keyword.{Keyword}
use Rattle.dump_grammar.specs.declared.keyword.Keyword.TheVariants as words
use Rattle.dump_grammar.specs.declared.keyword.Former.{Former}
use Rattle.dump_grammar.specs.declared.keyword.Former.TheVariants as formers
use Rattle.dump_grammar.specs.declared.keyword.Opening.{Opening}
use Rattle.dump_grammar.specs.declared.keyword.Opening.TheVariants as openings
use Rattle.dump_grammar.specs.Words.{former_of, comparison_of, opening_of}
use Rattle.dump_grammar.specs.Numbers.{number_of}
use Rattle.dump_grammar.specs.Named.{NamedSort, AProp, AType, Named, Rel, Sort, Prod, Lambda, LetIn, App, Const, Ind, Construct, Case, Fix, NamedBranch, NamedDef, terms_of, branches_of, defs_of, NamedComparison, NamedConstraint, NamedCtor, NamedFamily, NamedDecl, Constant, Block, NamedEnv}
use Rattle.dump_grammar.specs.Terms.{cast}

-- what has been read and not yet used, the newest first
pub data Value : Type 0 where
  VNumber : ℕ → Value
  VName : List ℕ → Value
  VNames : List (List ℕ) → Value
  VComparison : NamedComparison → Value
  VSort : NamedSort → Value
  VParts : List (List ℕ × ℕ) → Value
  VTerm : Named → Value
  -- a body that isn't there
  VNone : Value
  VTerms : List Named → Value
  VBranches : List NamedBranch → Value
  VDefs : List NamedDef → Value
  VTypes : List Named → Value
  VCtors : List NamedCtor → Value
  VFamilies : List NamedFamily → Value
  VConstraints : List NamedConstraint → Value
  VDecls : List NamedDecl → Value
  VEnv : NamedEnv → Value

pub data Action : Type 0 where
  Keep : Action
  Zero : Action
  OneMore : Action
  NoNames : Action
  AddName : Action
  NoParts : Action
  AddPart : Action
  MakeType : Action
  MakeRel : Action
  MakeSort : Action
  MakeProd : Action
  MakeLambda : Action
  MakeLetIn : Action
  MakeApp : Action
  MakeConst : Action
  MakeInd : Action
  MakeConstruct : Action
  MakeCase : Action
  MakeFix : Action
  MakeCast : Action
  NoTerms : Action
  AddTerm : Action
  NoBranches : Action
  AddBranch : Action
  NoDefs : Action
  AddDef : Action
  NoTypes : Action
  AddType : Action
  NoCtors : Action
  AddCtor : Action
  NoFamilies : Action
  AddFamily : Action
  NoConstraints : Action
  AddConstraint : Action
  NoDecls : Action
  AddConstant : Action
  AddBlock : Action
  MakeEnv : Action

-- At values of another kind, which never come, nothing happens.
abbrev pub act : Action → List Value → List Value
act Zero vs = VNumber 0 ∷ vs
act OneMore (VNumber n ∷ vs) = VNumber (n + 1) ∷ vs
act NoNames vs = VNames [] ∷ vs
act AddName (VName a ∷ VNames ns ∷ vs) = VNames (ns ++ a ∷ []) ∷ vs
act NoParts vs = VParts [] ∷ vs
act AddPart (VNumber n ∷ VName l ∷ VParts ps ∷ vs) = VParts (ps ++ (l, n) ∷ []) ∷ vs
act MakeType (VParts ps ∷ vs) = VSort (AType ps) ∷ vs
act MakeRel (VNumber n ∷ vs) = VTerm (Rel n) ∷ vs
act MakeSort (VSort s ∷ vs) = VTerm (Sort s) ∷ vs
act MakeProd (VTerm B ∷ VTerm A ∷ vs) = VTerm (Prod A B) ∷ vs
act MakeLambda (VTerm b ∷ VTerm A ∷ vs) = VTerm (Lambda A b) ∷ vs
act MakeLetIn (VTerm t ∷ VTerm B ∷ VTerm b ∷ vs) = VTerm (LetIn b B t) ∷ vs
act MakeApp (VTerm a ∷ VTerm f ∷ vs) = VTerm (App f a) ∷ vs
act MakeConst (VName k ∷ vs) = VTerm (Const k) ∷ vs
act MakeInd (VNumber n ∷ VName k ∷ vs) = VTerm (Ind k n) ∷ vs
act MakeConstruct (VNumber c ∷ VNumber n ∷ VName k ∷ vs) = VTerm (Construct k n c) ∷ vs
act MakeCase (VBranches bs ∷ VTerm scrut ∷ VTerm ret ∷ VNumber m ∷ VTerms ps ∷ VNumber n ∷ VName k ∷ vs) = VTerm (Case k n (terms_of ps) m ret scrut (branches_of bs)) ∷ vs
act MakeFix (VNumber i ∷ VDefs ds ∷ vs) = VTerm (Fix (defs_of ds) i) ∷ vs
act MakeCast (VTerm T ∷ VTerm t ∷ vs) = VTerm (cast t T) ∷ vs
act NoTerms vs = VTerms [] ∷ vs
act AddTerm (VTerm t ∷ VTerms ts ∷ vs) = VTerms (ts ++ t ∷ []) ∷ vs
act NoBranches vs = VBranches [] ∷ vs
act AddBranch (VTerm b ∷ VNumber m ∷ VBranches bs ∷ vs) = VBranches (bs ++ record { binders = m; body = b } ∷ []) ∷ vs
act NoDefs vs = VDefs [] ∷ vs
act AddDef (VNumber n ∷ VTerm b ∷ VTerm A ∷ VDefs ds ∷ vs) = VDefs (ds ++ record { type = A; body = b; rarg = n } ∷ []) ∷ vs
act NoTypes vs = VTypes [] ∷ vs
act AddType (VTerm A ∷ VTypes As ∷ vs) = VTypes (As ++ A ∷ []) ∷ vs
act NoCtors vs = VCtors [] ∷ vs
act AddCtor (VTerms ts ∷ VTypes As ∷ VName k ∷ VCtors cs ∷ vs) = VCtors (cs ++ record { name = k; args = As; result = ts } ∷ []) ∷ vs
act NoFamilies vs = VFamilies [] ∷ vs
act AddFamily (VCtors cs ∷ VTypes As ∷ VSort s ∷ VName k ∷ VFamilies fs ∷ vs) = VFamilies (fs ++ record { name = k; sort = s; indices = As; ctors = cs } ∷ []) ∷ vs
act NoConstraints vs = VConstraints [] ∷ vs
act AddConstraint (VName r ∷ VName l ∷ VComparison c ∷ VConstraints cs ∷ vs) = VConstraints (cs ++ record { left = l; relation = c; right = r } ∷ []) ∷ vs
act NoDecls vs = VDecls [] ∷ vs
act AddConstant (VNone ∷ VTerm A ∷ VName k ∷ VDecls ds ∷ vs) = VDecls (ds ++ Constant k A None ∷ []) ∷ vs
act AddConstant (VTerm b ∷ VTerm A ∷ VName k ∷ VDecls ds ∷ vs) = VDecls (ds ++ Constant k A (Some b) ∷ []) ∷ vs
act AddBlock (VFamilies fs ∷ VTypes ps ∷ VName k ∷ VDecls ds ∷ vs) = VDecls (ds ++ Block k ps fs ∷ []) ∷ vs
act MakeEnv (VTerm t ∷ VDecls ds ∷ VConstraints cs ∷ VNames ls ∷ vs) = VEnv (record { levels = ls; constraints = cs; decls = ds; main = t }) ∷ vs
act _ vs = vs

-- lists whose members begin with a bracket
pub data Kind : Type 0 where
  Arguments : Kind
  Terms : Kind
  Branches : Kind
  Definitions : Kind
  Telescope : Kind
  Constructors : Kind
  Families : Kind
  Parts : Kind
  Constraints : Kind

-- what may come next
pub data Item : Type 0 where
  IOpen : Item
  IClose : Item
  -- the bracket that closes a term
  IEnd : Item
  -- the bracket that closes an entry of a telescope
  IEntryEnd : Item
  IWord : Keyword → Item
  -- `params` after the bracket that opens right after a block's name
  IParams : Item
  IVersion : Item
  -- a binder's name or a cast's kind, of which nothing is kept
  IBinder : Item
  IName : Item
  ILevel : Item
  INumber : Item
  -- what is added to a level
  IAdd : Item
  -- the index of a fixpoint
  IIndex : Item
  IComparison : Item
  ISort : Item
  ITerm : Item
  -- a term after its bracket
  IHead : Item
  -- the type of a constant, which stands right after its name
  IType : Item
  ITypeHead : Item
  IBody : Item
  -- lists, each with the bracket that closes it
  INames : Item
  ILevels : Item
  IList : Kind → Item
  -- the declarations and main
  IDecls : Item
  -- after their bracket
  IDecl : Item
  -- an item, with something done before it
  Do : Action → Item → Item

-- a member after its bracket, and the list again
abbrev pub next : Kind → List Item
next Arguments = IHead ∷ Do MakeApp (IList Arguments) ∷ []
next Terms = IHead ∷ Do AddTerm (IList Terms) ∷ []
next Branches = IWord words.Branch ∷ IOpen ∷ Do Zero INames ∷ ITerm ∷ Do AddBranch IClose ∷ IList Branches ∷ []
next Definitions = IWord words.Def ∷ IBinder ∷ ITerm ∷ ITerm ∷ INumber ∷ Do AddDef IClose ∷ IList Definitions ∷ []
next Telescope = IBinder ∷ ITerm ∷ Do AddType IEntryEnd ∷ IList Telescope ∷ []
next Constructors = IWord words.Ctor ∷ IName ∷ IOpen ∷ IWord words.Args ∷ Do NoTypes (IList Telescope) ∷ IOpen ∷ IWord words.Result ∷ Do NoTerms (IList Terms) ∷ Do AddCtor IClose ∷ IList Constructors ∷ []
next Families = IWord words.Family ∷ IName ∷ IOpen ∷ IWord words.Sort ∷ ISort ∷ IClose ∷ IOpen ∷ IWord words.Indices ∷ Do NoTypes (IList Telescope) ∷ Do NoCtors (IList Constructors) ∷ Do AddFamily (IList Families) ∷ []
next Parts = ILevel ∷ IAdd ∷ Do AddPart IClose ∷ IList Parts ∷ []
next Constraints = IComparison ∷ ILevel ∷ ILevel ∷ Do AddConstraint IClose ∷ IList Constraints ∷ []

-- what the bracket that closes a list does
abbrev pub finish : Kind → Action
finish Branches = MakeCase
finish Families = AddBlock
finish Parts = MakeType
finish _ = Keep

-- the items after a term's head
abbrev pub row : Former → List Item
row formers.Rel = INumber ∷ Do MakeRel IEnd ∷ []
row formers.Sort = ISort ∷ Do MakeSort IEnd ∷ []
row formers.Prod = IBinder ∷ ITerm ∷ ITerm ∷ Do MakeProd IEnd ∷ []
row formers.Lambda = IBinder ∷ ITerm ∷ ITerm ∷ Do MakeLambda IEnd ∷ []
row formers.LetIn = IBinder ∷ ITerm ∷ ITerm ∷ ITerm ∷ Do MakeLetIn IEnd ∷ []
row formers.App = ITerm ∷ ITerm ∷ Do MakeApp (IList Arguments) ∷ []
row formers.Const = IName ∷ Do MakeConst IEnd ∷ []
row formers.Ind = IName ∷ INumber ∷ Do MakeInd IEnd ∷ []
row formers.Construct = IName ∷ INumber ∷ INumber ∷ Do MakeConstruct IEnd ∷ []
row formers.Case =
    IOpen ∷ IName ∷ INumber ∷ IClose ∷
    IOpen ∷ IWord words.Params ∷ Do NoTerms (IList Terms) ∷
    IOpen ∷ IWord words.Pred ∷ IOpen ∷ Do Zero INames ∷ ITerm ∷ IClose ∷
    ITerm ∷ Do NoBranches (IList Branches) ∷ []
row formers.Fix = IOpen ∷ Do NoDefs IOpen ∷ next Definitions ++ (IIndex ∷ Do MakeFix IEnd ∷ [])
row formers.Cast = ITerm ∷ IBinder ∷ ITerm ∷ Do MakeCast IEnd ∷ []

-- the items after the word that stands behind the bracket of a declaration or of main
abbrev pub opened : Opening → List Item
opened openings.Constant = IName ∷ IType ∷ IBody ∷ Do AddConstant IClose ∷ IDecls ∷ []
opened openings.Block = IName ∷ IOpen ∷ IParams ∷ Do NoTypes (IList Telescope) ∷ Do NoFamilies IOpen ∷ next Families ++ (IDecls ∷ [])
opened openings.Main = ITerm ∷ IClose ∷ []

abbrev pub start : List Item
start =
    IOpen ∷ IWord words.Env ∷ IVersion ∷
    IOpen ∷ IWord words.Levels ∷ Do NoNames ILevels ∷
    IOpen ∷ IWord words.Constraints ∷ Do NoConstraints (IList Constraints) ∷
    Do NoDecls IDecls ∷ Do MakeEnv IClose ∷ []

-- what stands in place of the item once its first token is read, and the values then
abbrev pub Moved : Type 0
Moved = Option (List Item × List Value)

abbrev pub at_former : Option Former → List Value → Moved
at_former None vs = None
at_former (Some f) vs = Some (row f, vs)

abbrev pub at_opening : Option Opening → List Value → Moved
at_opening None vs = None
at_opening (Some o) vs = Some (opened o, vs)

abbrev pub at_comparison : Option NamedComparison → List Value → Moved
at_comparison None vs = None
at_comparison (Some c) vs = Some ([], VComparison c ∷ vs)

abbrev pub at_number : Option ℕ → List Value → Moved
at_number None vs = None
at_number (Some n) vs = Some ([], VNumber n ∷ vs)

-- the index is below the number of definitions, which is never 0
abbrev pub is_index : ℕ → List Value → Bool
is_index n (VDefs ds ∷ vs) = nat_eq n 0 || nat_lt n (length ds)
is_index n _ = true

abbrev pub at_index : Option ℕ → List Value → Moved
at_index None vs = None
at_index (Some n) vs = if is_index n vs then Some ([], VNumber n ∷ vs) else None

-- `Prop` or `Set`
abbrev pub at_sort : List ℕ → List Value → Moved
at_sort a vs =
    if bytes_eq a (spelling words.Prop) then Some ([], VSort AProp ∷ vs)
    else if bytes_eq a (spelling words.Set) then Some ([], VSort (AType ((spelling words.Set, 0) ∷ [])) ∷ vs)
    else None

abbrev pub step : Item → Text → List Value → Moved
step IOpen Open vs = Some ([], vs)
step IClose Close vs = Some ([], vs)
step IEnd Close vs = Some ([], vs)
step IEntryEnd Close vs = Some ([], vs)
step (IWord w) (Atom a) vs = if bytes_eq a (spelling w) then Some ([], vs) else None
step IParams (Atom a) vs = if bytes_eq a (spelling words.Params) then Some ([], vs) else None
step IVersion (Atom a) vs = if bytes_eq a (spelling words.One) then Some ([], vs) else None
step IBinder (Atom a) vs = Some ([], vs)
step IName (Atom a) vs = Some ([], VName a ∷ vs)
step ILevel (Atom a) vs = Some ([], VName a ∷ vs)
step INumber (Atom a) vs = at_number (number_of a) vs
step IAdd (Atom a) vs = at_number (number_of a) vs
step IIndex (Atom a) vs = at_index (number_of a) vs
step IComparison (Atom a) vs = at_comparison (comparison_of a) vs
step ISort (Atom a) vs = at_sort a vs
step ISort Open vs = Some (IWord words.Type ∷ Do NoParts IOpen ∷ next Parts, vs)
step ITerm Open vs = Some (IHead ∷ [], vs)
step IHead (Atom a) vs = at_former (former_of a) vs
step IType Open vs = Some (ITypeHead ∷ [], vs)
step ITypeHead (Atom a) vs = at_former (former_of a) vs
step IBody Open vs = Some (IHead ∷ [], vs)
step IBody (Atom a) vs = if bytes_eq a (spelling words.NoBody) then Some ([], VNone ∷ vs) else None
step INames Close vs = Some ([], vs)
step INames (Atom a) vs = Some (Do OneMore INames ∷ [], vs)
step ILevels Close vs = Some ([], vs)
step ILevels (Atom a) vs = if bytes_eq a (spelling words.Set) then None else Some (Do AddName ILevels ∷ [], VName a ∷ vs)
step (IList k) Close vs = Some ([], act (finish k) vs)
step (IList k) Open vs = Some (next k, vs)
step IDecls Open vs = Some (IDecl ∷ [], vs)
step IDecl (Atom a) vs = at_opening (opening_of a) vs
step (Do d i) t vs = step i t (act d vs)
step _ _ vs = None

-- how reading ends
pub data ReadOutcome : Type 0 where
  Accepted : List Value → ReadOutcome
  -- nothing may come where the rest begins
  Refused : (rest : List Text) → ReadOutcome

abbrev pub after : Moved → (nothing : ReadOutcome) → (List Item → List Value → ReadOutcome) → ReadOutcome
after None nothing go_on = nothing
after (Some m) nothing go_on = go_on m.0 m.1

unfoldable pub run : List Item → List Value → List Text → ReadOutcome
run [] vs [] = Accepted vs
run [] vs (t ∷ ts) = Refused (t ∷ ts)
run (i ∷ is) vs [] = Refused []
run (i ∷ is) vs (t ∷ ts) = after (step i t vs) (Refused (t ∷ ts)) (λ js ws. run (js ++ is) ws ts)
