-- The values that each list leaves.
use Rattle.std.proofs.Common.{◌≡◌, ℕ, suc, ◌+◌, List, [], ◌∷◌, ◌++◌, map, length, refl, sym, ap, ◌∙◌, append_assoc, append-nil}
use Rattle.dump_grammar.specs.Numbers.{LevelName}
use Rattle.dump_grammar.specs.Named.{Named, App, NamedBranch, NamedDef, NamedCtor, NamedFamily, NamedConstraint, NamedDecl}
use Rattle.dump_grammar.specs.Sorts.{PartForm, part_meaning, sort_meaning}
use Rattle.dump_grammar.specs.Terms.{Forms, NoForm, OneForm, BranchForms, NoBranchForm, BranchForm, Definitions, NoDefinition, Definition, count, meaning, applied, meanings, branch_meanings, definition_meanings}
use Rattle.dump_grammar.specs.Declarations.{Binding, CtorForm, FamilyForm, BodyForm, NoneForm, SomeForm, DeclForm, ConstantForm, BlockForm, binding_meaning, constructor_meaning, family_meaning, declaration_meaning}
use Rattle.dump_grammar.specs.Environments.{ConstraintForm, level_names, constraint_meaning}
use Rattle.dump_grammar.specs.Table.{Value, VNumber, VName, VNames, VComparison, VSort, VParts, VTerm, VNone, VTerms, VBranches, VDefs, VTypes, VCtors, VFamilies, VConstraints, VDecls, OneMore, AddName, AddPart, MakeApp, AddTerm, AddBranch, AddDef, AddType, AddCtor, AddFamily, AddConstraint, AddConstant, AddBlock, act}

unfoldable pub counted : List (List ℕ) → List Value → List Value
counted [] vs = vs
counted (a ∷ more) vs = counted more (act OneMore vs)

unfoldable pub with_levels : List LevelName → List Value → List Value
with_levels [] vs = vs
with_levels (l ∷ more) vs = with_levels more (act AddName (VName l.name ∷ vs))

unfoldable pub with_arguments : Forms → List Value → List Value
with_arguments NoForm vs = vs
with_arguments (OneForm f more) vs = with_arguments more (act MakeApp (VTerm (meaning f) ∷ vs))

unfoldable pub with_terms : Forms → List Value → List Value
with_terms NoForm vs = vs
with_terms (OneForm f more) vs = with_terms more (act AddTerm (VTerm (meaning f) ∷ vs))

unfoldable pub with_branches : BranchForms → List Value → List Value
with_branches NoBranchForm vs = vs
with_branches (BranchForm ns b more) vs = with_branches more (act AddBranch (VTerm (meaning b) ∷ counted ns (VNumber 0 ∷ vs)))

unfoldable pub with_definitions : {m : ℕ} → Definitions m → List Value → List Value
with_definitions NoDefinition vs = vs
with_definitions (Definition na A b n more) vs = with_definitions more (act AddDef (VNumber n.value ∷ VTerm (meaning b) ∷ VTerm (meaning A) ∷ vs))

unfoldable pub with_bindings : List Binding → List Value → List Value
with_bindings [] vs = vs
with_bindings (b ∷ more) vs = with_bindings more (act AddType (VTerm (meaning b.type) ∷ vs))

unfoldable pub with_constructor : CtorForm → List Value → List Value
with_constructor c vs = act AddCtor (with_terms c.result (VTerms [] ∷ with_bindings c.args (VTypes [] ∷ VName c.name ∷ vs)))

unfoldable pub with_constructors : List CtorForm → List Value → List Value
with_constructors [] vs = vs
with_constructors (c ∷ more) vs = with_constructors more (with_constructor c vs)

unfoldable pub with_family : FamilyForm → List Value → List Value
with_family f vs = act AddFamily (with_constructors f.ctors (VCtors [] ∷ with_bindings f.indices (VTypes [] ∷ VSort (sort_meaning f.sort) ∷ VName f.name ∷ vs)))

unfoldable pub with_families : List FamilyForm → List Value → List Value
with_families [] vs = vs
with_families (f ∷ more) vs = with_families more (with_family f vs)

unfoldable pub with_parts : List PartForm → List Value → List Value
with_parts [] vs = vs
with_parts (p ∷ more) vs = with_parts more (act AddPart (VNumber p.add.value ∷ VName p.level ∷ vs))

unfoldable pub with_constraints : List ConstraintForm → List Value → List Value
with_constraints [] vs = vs
with_constraints (c ∷ more) vs = with_constraints more (act AddConstraint (VName c.right ∷ VName c.left ∷ VComparison c.relation ∷ vs))

abbrev pub with_body : BodyForm → List Value → List Value
with_body NoneForm vs = VNone ∷ vs
with_body (SomeForm f) vs = VTerm (meaning f) ∷ vs

unfoldable pub with_declaration : DeclForm → List Value → List Value
with_declaration (ConstantForm k A b) vs = act AddConstant (with_body b (VTerm (meaning A) ∷ VName k ∷ vs))
with_declaration (BlockForm k ps f more) vs = act AddBlock (with_families more (with_family f (VFamilies [] ∷ with_bindings ps (VTypes [] ∷ VName k ∷ vs))))

unfoldable pub with_declarations : List DeclForm → List Value → List Value
with_declarations [] vs = vs
with_declarations (d ∷ more) vs = with_declarations more (with_declaration d vs)

-- ---- on the values that come

pub counted-value : (ns : List (List ℕ)) (n : ℕ) (vs : List Value) → counted ns (VNumber n ∷ vs) ≡ VNumber (count ns n) ∷ vs
unfolding count counted
counted-value [] n vs = refl
counted-value (a ∷ more) n vs = counted-value more (n + 1) vs

pub arguments-value : (more : Forms) (f : Named) (vs : List Value) → with_arguments more (VTerm f ∷ vs) ≡ VTerm (applied f more) ∷ vs
unfolding meaning with_arguments
arguments-value NoForm f vs = refl
arguments-value (OneForm a more) f vs = arguments-value more (App f (meaning a)) vs

-- A list one member longer, and the members that follow.
module _ {X : Type 0} (V : List X → Value) (vs : List Value) where
  pub no_more : (xs : List X) → V xs ∷ vs ≡ V (xs ++ []) ∷ vs
  no_more xs = ap (λ ys. V ys ∷ vs) (sym (append-nil xs))

  pub one_more : (xs : List X) (x : X) (more : List X) → V ((xs ++ x ∷ []) ++ more) ∷ vs ≡ V (xs ++ x ∷ more) ∷ vs
  one_more xs x more = ap (λ ys. V ys ∷ vs) (append_assoc xs (x ∷ []) more)

pub terms-value : (fs : Forms) (ts : List Named) (vs : List Value) → with_terms fs (VTerms ts ∷ vs) ≡ VTerms (ts ++ meanings fs) ∷ vs
unfolding meaning with_terms
terms-value NoForm ts vs = no_more VTerms vs ts
terms-value (OneForm f more) ts vs = terms-value more (ts ++ meaning f ∷ []) vs ∙ one_more VTerms vs ts (meaning f) (meanings more)

pub branches-value : (brs : BranchForms) (bs : List NamedBranch) (vs : List Value) → with_branches brs (VBranches bs ∷ vs) ≡ VBranches (bs ++ branch_meanings brs) ∷ vs
unfolding meaning with_branches
branches-value NoBranchForm bs vs = no_more VBranches vs bs
branches-value (BranchForm ns b more) bs vs =
    let branch : NamedBranch = record { binders = count ns 0; body = meaning b } in
    rw (counted-value ns 0 (VBranches bs ∷ vs)) (branches-value more (bs ++ branch ∷ []) vs ∙ one_more VBranches vs bs branch (branch_meanings more))

pub definitions-value : {m : ℕ} (more : Definitions m) (ds : List NamedDef) (vs : List Value) → with_definitions more (VDefs ds ∷ vs) ≡ VDefs (ds ++ definition_meanings more) ∷ vs
unfolding meaning with_definitions
definitions-value NoDefinition ds vs = no_more VDefs vs ds
definitions-value (Definition na A b n more) ds vs =
    let def : NamedDef = record { type = meaning A; body = meaning b; rarg = n.value } in
    definitions-value more (ds ++ def ∷ []) vs ∙ one_more VDefs vs ds def (definition_meanings more)

pub definitions-number : {m : ℕ} (more : Definitions m) → length (definition_meanings more) ≡ m
unfolding meaning
definitions-number NoDefinition = refl
definitions-number (Definition na A b n more) = ap (λ m. suc m) (definitions-number more)

pub bindings-value : (bs : List Binding) (ts : List Named) (vs : List Value) → with_bindings bs (VTypes ts ∷ vs) ≡ VTypes (ts ++ map binding_meaning bs) ∷ vs
unfolding with_bindings
bindings-value [] ts vs = no_more VTypes vs ts
bindings-value (b ∷ more) ts vs = bindings-value more (ts ++ meaning b.type ∷ []) vs ∙ one_more VTypes vs ts (meaning b.type) (map binding_meaning more)

pub constructors-value : (cs : List CtorForm) (ds : List NamedCtor) (vs : List Value) → with_constructors cs (VCtors ds ∷ vs) ≡ VCtors (ds ++ map constructor_meaning cs) ∷ vs
unfolding with_constructors with_constructor
constructors-value [] ds vs = no_more VCtors vs ds
constructors-value (c ∷ more) ds vs =
    rw (bindings-value c.args [] (VName c.name ∷ VCtors ds ∷ vs), terms-value c.result [] (VTypes (map binding_meaning c.args) ∷ VName c.name ∷ VCtors ds ∷ vs))
    (constructors-value more (ds ++ constructor_meaning c ∷ []) vs ∙ one_more VCtors vs ds (constructor_meaning c) (map constructor_meaning more))

pub family-value : (f : FamilyForm) (fs : List NamedFamily) (vs : List Value) → with_family f (VFamilies fs ∷ vs) ≡ VFamilies (fs ++ family_meaning f ∷ []) ∷ vs
unfolding with_family
family-value f fs vs =
    let below : List Value = VSort (sort_meaning f.sort) ∷ VName f.name ∷ VFamilies fs ∷ vs in
    rw (bindings-value f.indices [] below, constructors-value f.ctors [] (VTypes (map binding_meaning f.indices) ∷ below)) refl

pub families-value : (fs : List FamilyForm) (gs : List NamedFamily) (vs : List Value) → with_families fs (VFamilies gs ∷ vs) ≡ VFamilies (gs ++ map family_meaning fs) ∷ vs
unfolding with_families
families-value [] gs vs = no_more VFamilies vs gs
families-value (f ∷ more) gs vs =
    rw (family-value f gs vs) (families-value more (gs ++ family_meaning f ∷ []) vs ∙ one_more VFamilies vs gs (family_meaning f) (map family_meaning more))

pub parts-value : (ps : List PartForm) (qs : List (List ℕ × ℕ)) (vs : List Value) → with_parts ps (VParts qs ∷ vs) ≡ VParts (qs ++ map part_meaning ps) ∷ vs
unfolding with_parts
parts-value [] qs vs = no_more VParts vs qs
parts-value (p ∷ more) qs vs = parts-value more (qs ++ part_meaning p ∷ []) vs ∙ one_more VParts vs qs (part_meaning p) (map part_meaning more)

pub constraints-value : (cs : List ConstraintForm) (ds : List NamedConstraint) (vs : List Value) → with_constraints cs (VConstraints ds ∷ vs) ≡ VConstraints (ds ++ map constraint_meaning cs) ∷ vs
unfolding with_constraints
constraints-value [] ds vs = no_more VConstraints vs ds
constraints-value (c ∷ more) ds vs = constraints-value more (ds ++ constraint_meaning c ∷ []) vs ∙ one_more VConstraints vs ds (constraint_meaning c) (map constraint_meaning more)

pub levels-value : (ls : List LevelName) (ns : List (List ℕ)) (vs : List Value) → with_levels ls (VNames ns ∷ vs) ≡ VNames (ns ++ level_names ls) ∷ vs
unfolding with_levels
levels-value [] ns vs = no_more VNames vs ns
levels-value (l ∷ more) ns vs = levels-value more (ns ++ l.name ∷ []) vs ∙ one_more VNames vs ns l.name (level_names more)

pub declaration-value : (d : DeclForm) (ds : List NamedDecl) (vs : List Value) → with_declaration d (VDecls ds ∷ vs) ≡ VDecls (ds ++ declaration_meaning d ∷ []) ∷ vs
unfolding with_declaration declaration_meaning
declaration-value (ConstantForm k A NoneForm) ds vs = refl
declaration-value (ConstantForm k A (SomeForm f)) ds vs = refl
declaration-value (BlockForm k ps f more) ds vs =
    let below : List Value = VTypes (map binding_meaning ps) ∷ VName k ∷ VDecls ds ∷ vs in
    rw (bindings-value ps [] (VName k ∷ VDecls ds ∷ vs), family-value f [] below, families-value more (family_meaning f ∷ []) below) refl

pub declarations-value : (fs : List DeclForm) (ds : List NamedDecl) (vs : List Value) → with_declarations fs (VDecls ds ∷ vs) ≡ VDecls (ds ++ map declaration_meaning fs) ∷ vs
unfolding with_declarations
declarations-value [] ds vs = no_more VDecls vs ds
declarations-value (d ∷ more) ds vs =
    rw (declaration-value d ds vs) (declarations-value more (ds ++ declaration_meaning d ∷ []) vs ∙ one_more VDecls vs ds (declaration_meaning d) (map declaration_meaning more))
