-- The first limit that a form passes, in the order of its text; None where it passes none. The limits of single tokens are apart.
use Rattle.std.specs.Prelude.{◌≡◌, ℕ, ◌+◌, List, [], ◌∷◌, Option, None}
use Rattle.sexp_reader.specs.Text.{Text}
use Rattle.sexp_reader.specs.Lex.{Spanned, nesting_after_text}
use Rattle.dump_grammar.specs.declared.refusal.Limit.{Limit}
use Rattle.dump_grammar.specs.declared.refusal.Limit.TheVariants as limits
use Rattle.dump_grammar.specs.Numbers.{LevelName}
use Rattle.dump_grammar.specs.Sorts.{PartForm, SortForm, PropForm, SetForm, TypeForm}
use Rattle.dump_grammar.specs.Terms.{Form, FRel, FSort, FProd, FLambda, FLetIn, FApp, FConst, FInd, FConstruct, FCase, FFix, FCast, Forms, NoForm, OneForm, BranchForms, NoBranchForm, BranchForm, Definitions, NoDefinition, Definition, meaning}
use Rattle.dump_grammar.specs.Declarations.{Binding, CtorForm, FamilyForm, BodyForm, NoneForm, SomeForm, DeclForm, ConstantForm, BlockForm}
use Rattle.dump_grammar.specs.Environments.{ConstraintForm, Dump, dump, env_of}
use Rattle.dump_grammar.specs.Limits.{first, token_over, number_over, add_over, depth_over, one_more_over}
use Rattle.dump_grammar.specs.Table.{VEnv}
use Rattle.dump_grammar.specs.Judge.{texts, Fine, verdict}

unfoldable pub parts_over : List PartForm → Option Limit
parts_over [] = None
parts_over (p ∷ more) = first (add_over p.add.value) (parts_over more)

unfoldable pub sort_over : SortForm → Option Limit
sort_over PropForm = None
sort_over SetForm = None
sort_over (TypeForm p more) = first (add_over p.add.value) (parts_over more)

-- A term's own depth is looked at where it closes.
unfoldable mutual
  pub form_over : Form → Option Limit
  form_over (FRel n) = first (number_over n.value) (depth_over (meaning (FRel n)))
  form_over (FSort s) = first (sort_over s) (depth_over (meaning (FSort s)))
  form_over (FProd na A B) = first (form_over A) (first (form_over B) (depth_over (meaning (FProd na A B))))
  form_over (FLambda na A b) = first (form_over A) (first (form_over b) (depth_over (meaning (FLambda na A b))))
  form_over (FLetIn na b B t) = first (form_over b) (first (form_over B) (first (form_over t) (depth_over (meaning (FLetIn na b B t)))))
  form_over (FApp f a more) = first (form_over f) (first (form_over a) (first (forms_over more) (depth_over (meaning (FApp f a more)))))
  form_over (FConst k) = depth_over (meaning (FConst k))
  form_over (FInd k n) = first (number_over n.value) (depth_over (meaning (FInd k n)))
  form_over (FConstruct k n c) = first (number_over n.value) (first (number_over c.value) (depth_over (meaning (FConstruct k n c))))
  form_over (FCase k n ps names ret scrut brs) =
      first (number_over n.value) (first (forms_over ps) (first (form_over ret) (first (form_over scrut) (first (branches_over brs) (depth_over (meaning (FCase k n ps names ret scrut brs)))))))
  form_over (FFix na A b n more i below) =
      first (form_over A) (first (form_over b) (first (number_over n.value) (first (definitions_over 1 more) (depth_over (meaning (FFix na A b n more i below))))))
  form_over (FCast t kind T) = first (form_over t) (first (form_over T) (depth_over (meaning (FCast t kind T))))

  pub forms_over : Forms → Option Limit
  forms_over NoForm = None
  forms_over (OneForm f more) = first (form_over f) (forms_over more)

  pub branches_over : BranchForms → Option Limit
  branches_over NoBranchForm = None
  branches_over (BranchForm names b more) = first (form_over b) (branches_over more)

  -- after so many definitions
  pub definitions_over : {m : ℕ} → (before : ℕ) → Definitions m → Option Limit
  definitions_over n NoDefinition = None
  definitions_over n (Definition na A b r more) =
      first (one_more_over 255 limits.Definitions n) (first (form_over A) (first (form_over b) (first (number_over r.value) (definitions_over (n + 1) more))))

-- Lists whose members are counted, after so many of them.
unfoldable pub bindings_over : (before : ℕ) → List Binding → Option Limit
bindings_over n [] = None
bindings_over n (b ∷ more) = first (one_more_over 255 limits.Telescope n) (first (form_over b.type) (bindings_over (n + 1) more))

abbrev pub ctor_over : CtorForm → Option Limit
ctor_over c = first (bindings_over 0 c.args) (forms_over c.result)

unfoldable pub ctors_over : (before : ℕ) → List CtorForm → Option Limit
ctors_over n [] = None
ctors_over n (c ∷ more) = first (one_more_over 1024 limits.Constructors n) (first (ctor_over c) (ctors_over (n + 1) more))

abbrev pub family_over : FamilyForm → Option Limit
family_over f = first (sort_over f.sort) (first (bindings_over 0 f.indices) (ctors_over 0 f.ctors))

unfoldable pub families_over : (before : ℕ) → List FamilyForm → Option Limit
families_over n [] = None
families_over n (f ∷ more) = first (one_more_over 255 limits.Families n) (first (family_over f) (families_over (n + 1) more))

abbrev pub body_over : BodyForm → Option Limit
body_over NoneForm = None
body_over (SomeForm f) = form_over f

unfoldable pub declaration_over : DeclForm → Option Limit
declaration_over (ConstantForm k A b) = first (form_over A) (body_over b)
declaration_over (BlockForm k ps f more) = first (bindings_over 0 ps) (first (family_over f) (families_over 1 more))

unfoldable pub declarations_over : (before : ℕ) → List DeclForm → Form → Option Limit
declarations_over n [] t = form_over t
declarations_over n (d ∷ more) t = first (one_more_over 65536 limits.Declarations n) (first (declaration_over d) (declarations_over (n + 1) more t))

unfoldable pub levels_over : (before : ℕ) → List LevelName → Option Limit
levels_over n [] = None
levels_over n (l ∷ more) = first (one_more_over 1024 limits.Levels n) (levels_over (n + 1) more)

unfoldable pub constraints_over : (before : ℕ) → List ConstraintForm → Option Limit
constraints_over n [] = None
constraints_over n (c ∷ more) = first (one_more_over 16384 limits.Constraints n) (constraints_over (n + 1) more)

abbrev pub dump_over : Dump → Option Limit
dump_over d = first (levels_over 0 d.levels) (first (constraints_over 0 d.constraints) (declarations_over 0 d.decls d.main))

-- the first limit that a single token passes, where so many brackets are open
unfoldable pub tokens_over : (nesting : ℕ) → List Text → Option Limit
tokens_over d [] = None
tokens_over d (t ∷ ts) = first (token_over d t) (tokens_over (nesting_after_text d t) ts)

abbrev pub DumpIsWithin : Dump → Type 0
DumpIsWithin d = (tokens_over 0 (dump d []) ≡ None) × (dump_over d ≡ None)

-- Exactly what is within the limits is accepted.
pub record IsLimited : Type 0 where
  pub within : (len : ℕ) (tokens : List Spanned) (d : Dump) → texts tokens ≡ dump d [] → DumpIsWithin d → verdict len tokens ≡ Fine (VEnv (env_of d) ∷ [])
  pub only : (len : ℕ) (tokens : List Spanned) (d : Dump) → texts tokens ≡ dump d [] → verdict len tokens ≡ Fine (VEnv (env_of d) ∷ []) → DumpIsWithin d
