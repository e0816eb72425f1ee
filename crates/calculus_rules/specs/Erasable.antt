-- Erasable terms (PCUIC, POPL 2020, section 4: erasable terms), by bare types. There are four kinds of evidence.
use Rattle.std.specs.Prelude.{ℕ, suc, ◌≡◌, List, Some, length, slice_get}
use Rattle.universe_levels.specs.declared.sort.Sort.{Sort}
use Rattle.universe_levels.specs.declared.sort.Sort.TheVariants.{Prop}
use Rattle.pc_terms.specs.declared.leaf.FamilyId.{FamilyId}
use Rattle.pc_terms.specs.Syntax.{Term, Terms, SortT, Construct, Case, terms_of}
use Rattle.calculus_rules.specs.declared.declaration.Constructor.{Constructor}
use Rattle.calculus_rules.specs.declared.evidence.Evidence.{Evidence}
use Rattle.calculus_rules.specs.declared.evidence.Evidence.TheVariants.{Arity, Proof, PropMatch, PropConstructor}
use Rattle.calculus_rules.specs.Environment.{FamilyDecl, Env, KeepsFamily}
use Rattle.calculus_rules.specs.Context.{Context, values, extend}
use Rattle.calculus_rules.specs.Instances.{products, predicate_entries}
use Rattle.calculus_rules.specs.Conversion.{Equal}
use Rattle.calculus_rules.specs.Typing.{bare, Types}

pub data Erasable (E : Env) : Context → Term → Type 0 where
  -- the term has a bare type that is equal to products ending in a sort
  arity : {c : Context} {t T : Term} (As : List Term) (s : Sort) → Types bare E c t T → Equal E (values c) T (products As (SortT s)) → Erasable E c t
  -- the term has a bare type that has sort Prop
  proof : {c : Context} {t T : Term} → Types bare E c t T → Types bare E c T (SortT Prop) → Erasable E c t
  -- the term is a match whose predicate has sort Prop in its context
  prop_match : {c : Context} {f : FamilyId} {F : FamilyDecl} {bs : Terms} {n : ℕ} {ret t : Term} (ps : List Term) → KeepsFamily E f F →
      n ≡ suc (length F.indices) → length ps ≡ length F.parameters →
      Types bare E (extend c (predicate_entries f F ps)) ret (SortT Prop) → Erasable E c (Case f (terms_of ps) n ret t bs)
  -- the term is a constructor of a family of sort Prop
  prop_constructor : {c : Context} {f : FamilyId} {F : FamilyDecl} {C : Constructor} {k : ℕ} → KeepsFamily E f F → F.sort ≡ Prop →
      slice_get F.constructors k ≡ Some C → Erasable E c (Construct f k)

-- which kind it is
abbrev pub kind_of : {E : Env} {c : Context} {t : Term} → Erasable E c t → Evidence
kind_of (arity As s p e) = Arity
kind_of (proof p q) = Proof
kind_of (prop_match ps k n l p) = PropMatch
kind_of (prop_constructor k p q) = PropConstructor
