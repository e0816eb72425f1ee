-- The facts of the check that accepts an environment.
use Rattle.std.specs.Prelude.{ℕ, ◌≡◌, List, length, Some, None, Bool, true, false, count_by}
use Rattle.pc_terms.specs.Syntax.{Term}
use Rattle.pc_rules.specs.declared.meter.Account.{Account}
use Rattle.calculus_rules.specs.Environment.{Env}
use Rattle.dump_reader.specs.declared.declaration.RawDecl.{RawDecl}
use Rattle.dump_reader.specs.declared.declaration.RawDecl.TheVariants.{Constant, Block}
use Rattle.dump_reader.specs.declared.environment.RawEnv.{RawEnv}
use Rattle.driver.specs.declared.reporting.facts.Facts.{Facts}
use Rattle.driver.specs.Texts.{SpellsWithin}
use Rattle.driver.specs.SourceEnds.{IsAcceptedWith}

-- a constant without a body
abbrev pub is_axiom : RawDecl → Bool
is_axiom (Constant k A None) = true
is_axiom (Constant k A (Some b)) = false
is_axiom (Block k ps fs) = false

-- the declarations, the constants without a body among them, and the uses of rules that were noted
abbrev pub facts_of_check : RawEnv → Account → Facts
facts_of_check e u = record { declarations = length e.decls; axioms = count_by is_axiom e.decls; uses = u.uses }

-- the directed rules accept the environment, and these are the facts
pub record HasCheckFacts (turns : ℕ) (e : RawEnv) (facts : Facts) : Type 0 where
  pub kept : Env
  pub type : Term
  pub left : Account
  pub accepted : IsAcceptedWith turns e kept type left
  pub facts_are : facts ≡ facts_of_check e left

-- so of the environment that the bytes spell
abbrev pub HasFacts : (turns : ℕ) → List ℕ → Facts → Type 0
HasFacts turns bytes facts = (e : RawEnv) × SpellsWithin bytes e × HasCheckFacts turns e facts
