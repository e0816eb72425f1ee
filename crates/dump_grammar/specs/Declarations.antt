-- Telescopes, constants and blocks.
use Rattle.std.specs.Prelude.{ℕ, List, [], ◌∷◌, map, Option, Some, None}
use Rattle.sexp_reader.specs.Text.{Text, Open, Close, Atom}
use Rattle.dump_grammar.specs.declared.keyword.Keyword.TheVariants as words
use Rattle.dump_grammar.specs.Numbers.{word}
use Rattle.dump_grammar.specs.Sorts.{SortForm, sort, sort_meaning}
use Rattle.dump_grammar.specs.Terms.{Form, Forms, form, forms, meaning, meanings}
use Rattle.dump_grammar.specs.Named.{Named, NamedCtor, NamedFamily, NamedDecl, Constant, Block}

-- `(na type)`
pub record Binding : Type 0 where
  pub name : List ℕ
  pub type : Form

-- `(ctor name (args (na type)*) (result t*))`
pub record CtorForm : Type 0 where
  pub name : List ℕ
  pub args : List Binding
  pub result : Forms

-- `(family name (sort s) (indices (na type)*) ctor*)`
pub record FamilyForm : Type 0 where
  pub name : List ℕ
  pub sort : SortForm
  pub indices : List Binding
  pub ctors : List CtorForm

-- a term or `None`
pub data BodyForm : Type 0 where
  NoneForm : BodyForm
  SomeForm : (f : Form) → BodyForm

pub data DeclForm : Type 0 where
  -- `(ConstantDecl name type body)`
  ConstantForm : (name : List ℕ) (type : Form) (body : BodyForm) → DeclForm
  -- `(InductiveDecl name (params (na type)*) family+)`
  BlockForm : (name : List ℕ) (params : List Binding) (first : FamilyForm) (more : List FamilyForm) → DeclForm

-- ---- the tokens of each, before the tokens that follow; the bracket that opens it is left to the place where it stands

abbrev pub binding : Binding → List Text → List Text
binding b after = Atom b.name ∷ Open ∷ form b.type (Close ∷ after)

unfoldable pub bindings : List Binding → List Text → List Text
bindings [] after = after
bindings (b ∷ more) after = Open ∷ binding b (bindings more after)

abbrev pub constructor : CtorForm → List Text → List Text
constructor c after = word words.Ctor ∷ Atom c.name ∷ Open ∷ word words.Args ∷ bindings c.args (Close ∷ Open ∷ word words.Result ∷ forms c.result (Close ∷ Close ∷ after))

unfoldable pub constructors : List CtorForm → List Text → List Text
constructors [] after = after
constructors (c ∷ more) after = Open ∷ constructor c (constructors more after)

abbrev pub family : FamilyForm → List Text → List Text
family f after = word words.Family ∷ Atom f.name ∷ Open ∷ word words.Sort ∷ sort f.sort (Close ∷ Open ∷ word words.Indices ∷ bindings f.indices (Close ∷ constructors f.ctors (Close ∷ after)))

unfoldable pub families : List FamilyForm → List Text → List Text
families [] after = after
families (f ∷ more) after = Open ∷ family f (families more after)

unfoldable pub body : BodyForm → List Text → List Text
body NoneForm after = word words.NoBody ∷ after
body (SomeForm f) after = Open ∷ form f after

unfoldable pub declaration : DeclForm → List Text → List Text
declaration (ConstantForm k A b) after = word words.ConstantDecl ∷ Atom k ∷ Open ∷ form A (body b (Close ∷ after))
declaration (BlockForm k params f more) after = word words.InductiveDecl ∷ Atom k ∷ Open ∷ word words.Params ∷ bindings params (Close ∷ Open ∷ family f (families more (Close ∷ after)))

-- ---- what each means

abbrev pub binding_meaning : Binding → Named
binding_meaning b = meaning b.type

abbrev pub constructor_meaning : CtorForm → NamedCtor
constructor_meaning c = record { name = c.name; args = map binding_meaning c.args; result = meanings c.result }

abbrev pub family_meaning : FamilyForm → NamedFamily
family_meaning f = record { name = f.name; sort = sort_meaning f.sort; indices = map binding_meaning f.indices; ctors = map constructor_meaning f.ctors }

abbrev pub body_meaning : BodyForm → Option Named
body_meaning NoneForm = None
body_meaning (SomeForm f) = Some (meaning f)

unfoldable pub declaration_meaning : DeclForm → NamedDecl
declaration_meaning (ConstantForm k A b) = Constant k (meaning A) (body_meaning b)
declaration_meaning (BlockForm k params f more) = Block k (map binding_meaning params) (family_meaning f ∷ map family_meaning more)
