-- Texts without a cast.
use Rattle.std.specs.Prelude.{ℕ, List, [], ◌∷◌}
use Rattle.dump_grammar.specs.Terms.{Form, FRel, FSort, FProd, FLambda, FLetIn, FApp, FConst, FInd, FConstruct, FCase, FFix, FCast, Forms, NoForm, OneForm, BranchForms, NoBranchForm, BranchForm, Definitions, NoDefinition, Definition}
use Rattle.dump_grammar.specs.Declarations.{Binding, CtorForm, FamilyForm, BodyForm, NoneForm, SomeForm, DeclForm, ConstantForm, BlockForm}
use Rattle.dump_grammar.specs.Environments.{Dump}

unfoldable mutual
  pub HasNoCast : Form → Type 0
  HasNoCast (FRel n) = Unit {0}
  HasNoCast (FSort s) = Unit {0}
  HasNoCast (FProd na A B) = HasNoCast A × HasNoCast B
  HasNoCast (FLambda na A b) = HasNoCast A × HasNoCast b
  HasNoCast (FLetIn na b B t) = HasNoCast b × HasNoCast B × HasNoCast t
  HasNoCast (FApp f a more) = HasNoCast f × HasNoCast a × HaveNoCast more
  HasNoCast (FConst k) = Unit {0}
  HasNoCast (FInd k n) = Unit {0}
  HasNoCast (FConstruct k n c) = Unit {0}
  HasNoCast (FCase k n ps names ret scrut brs) = HaveNoCast ps × HasNoCast ret × HasNoCast scrut × BranchesHaveNoCast brs
  HasNoCast (FFix na A b n more i below) = HasNoCast A × HasNoCast b × DefinitionsHaveNoCast more
  HasNoCast (FCast t kind T) = ⊥

  pub HaveNoCast : Forms → Type 0
  HaveNoCast NoForm = Unit {0}
  HaveNoCast (OneForm f more) = HasNoCast f × HaveNoCast more

  pub BranchesHaveNoCast : BranchForms → Type 0
  BranchesHaveNoCast NoBranchForm = Unit {0}
  BranchesHaveNoCast (BranchForm names b more) = HasNoCast b × BranchesHaveNoCast more

  pub DefinitionsHaveNoCast : {m : ℕ} → Definitions m → Type 0
  DefinitionsHaveNoCast NoDefinition = Unit {0}
  DefinitionsHaveNoCast (Definition na A b n more) = HasNoCast A × HasNoCast b × DefinitionsHaveNoCast more

abbrev pub BindingsHaveNoCast : List Binding → Type 0
BindingsHaveNoCast [] = Unit {0}
BindingsHaveNoCast (b ∷ bs) = HasNoCast b.type × BindingsHaveNoCast bs

abbrev pub CtorsHaveNoCast : List CtorForm → Type 0
CtorsHaveNoCast [] = Unit {0}
CtorsHaveNoCast (c ∷ cs) = BindingsHaveNoCast c.args × HaveNoCast c.result × CtorsHaveNoCast cs

abbrev pub FamilyHasNoCast : FamilyForm → Type 0
FamilyHasNoCast f = BindingsHaveNoCast f.indices × CtorsHaveNoCast f.ctors

abbrev pub FamiliesHaveNoCast : List FamilyForm → Type 0
FamiliesHaveNoCast [] = Unit {0}
FamiliesHaveNoCast (f ∷ fs) = FamilyHasNoCast f × FamiliesHaveNoCast fs

abbrev pub BodyHasNoCast : BodyForm → Type 0
BodyHasNoCast NoneForm = Unit {0}
BodyHasNoCast (SomeForm f) = HasNoCast f

abbrev pub DeclHasNoCast : DeclForm → Type 0
DeclHasNoCast (ConstantForm k A b) = HasNoCast A × BodyHasNoCast b
DeclHasNoCast (BlockForm k ps f more) = BindingsHaveNoCast ps × FamilyHasNoCast f × FamiliesHaveNoCast more

abbrev pub DeclsHaveNoCast : List DeclForm → Type 0
DeclsHaveNoCast [] = Unit {0}
DeclsHaveNoCast (d ∷ ds) = DeclHasNoCast d × DeclsHaveNoCast ds

abbrev pub TextHasNoCast : Dump → Type 0
TextHasNoCast d = DeclsHaveNoCast d.decls × HasNoCast d.main
