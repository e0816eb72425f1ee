-- What the check accepts is derived in the words of this crate, and a family that the text declares without constructors is one that was given so.
use Rattle.std.proofs.Common.{◌≡◌, List, [], ◌∷◌, map, reverse, option_map, refl, ap, ◌∙◌}
use Rattle.std.proofs.lemmas.Option.{slice_get-map}
use Rattle.pc_terms.specs.declared.leaf.FamilyId.{FamilyId}
use Rattle.pc_terms.specs.Syntax.{Term}
use Rattle.calculus_rules.specs.declared.declaration.Kept.TheVariants.{Block as Whole}
use Rattle.calculus_rules.specs.Environment.{Env}
use Rattle.rule_laws.specs.Declarations.{plain_family, plain_constructor, plain_given, IsCheckedEnvironment}
use Rattle.dump_reader.specs.declared.declaration.RawFamily.{RawFamily}
use Rattle.dump_reader.specs.declared.declaration.RawDecl.{RawDecl}
use Rattle.dump_reader.specs.declared.declaration.RawDecl.TheVariants as raw
use Rattle.dump_reader.specs.declared.environment.RawEnv.{RawEnv}
use Rattle.inductive_check.specs.Given.{ctor_of, family_of, block_from, given_of}
use Rattle.env_check.specs.Rules.{givens}
use Rattle.checked_laws.specs.CheckedFalse.{DeclaresEmpty}
use Rattle.answer_laws.specs.Derived.{IsDerived, DeclaresEmptyFamily, read_constructor, read_family, read_declaration}
use Rattle.calculus_rules.proofs.Listing.{has_map}

-- two maps, one after the other, that are a third on each item
each_same : {X Y Z : Type 0} (f : X → Y) (g : Y → Z) (h : X → Z) → ((x : X) → g (f x) ≡ h x) → (xs : List X) → map g (map f xs) ≡ map h xs
each_same f g h e [] = refl
each_same f g h e (x ∷ xs) = λ i. e x i ∷ each_same f g h e xs i

family_same : (F : RawFamily) → plain_family (family_of F) ≡ read_family F
family_same F = ap (λ Cs. record { name = F.name; sort = F.sort; indices = F.indices; ctors = Cs }) (each_same ctor_of plain_constructor read_constructor (λ C. refl) F.ctors)

declaration_same : (d : RawDecl) → plain_given (given_of d) ≡ read_declaration d
declaration_same (raw.Constant k T b) = refl
declaration_same (raw.Block k ps Fs) = ap (λ Gs. Whole (record { name = k; params = ps; families = Gs })) (each_same family_of plain_family read_family family_same Fs)

pub derived : (e : RawEnv) (E : Env) (T : Term) → IsCheckedEnvironment e.levels e.constraints (givens e) e.main E T → IsDerived e E T
derived e E T c = record {
  formed = c.formed;
  constraints = c.constraints;
  declarations = c.declarations ∙ ap reverse (each_same given_of plain_given read_declaration declaration_same e.decls);
}

pub given_empty : (e : RawEnv) (f : FamilyId) → DeclaresEmptyFamily e f → DeclaresEmpty (givens e) f
given_empty e f d = (
  block_from f.block d.parameters d.families,
  has_map given_of d.declared,
  refl,
  (family_of d.family, slice_get-map family_of d.families f.family ∙ ap (option_map family_of) d.at, ap (map ctor_of) d.none),
)
