-- Where the job `eval` is stuck, the evaluation of main met a constant without a body: there is no other cause.
use Rattle.std.specs.Prelude.{ℕ, ◌≡◌, Some, None, slice_get}
use Rattle.pc_terms.specs.declared.leaf.Name.{Name}
use Rattle.pc_terms.specs.Syntax.{Term, Const}
use Rattle.pc_rules.specs.declared.meter.Account.{Account}
use Rattle.pc_rules.specs.DirectedRun.{Run, Done}
use Rattle.rule_laws.specs.Declarations.{IsCheckedEnvironment}
use Rattle.env_check.specs.Rules.{givens}
use Rattle.dump_reader.specs.declared.declaration.RawDecl.TheVariants as raw
use Rattle.dump_reader.specs.declared.environment.RawEnv.{RawEnv}
use Rattle.driver.specs.SourceEnds.{Ended, NoRule, IsSourceRun, IsStuck}

-- the run of an environment that the rules accept, which is well formed then, ends with what shows the refusal `stuck`
pub record IsStuckEval (turns : ℕ) (e : RawEnv) (r : Run Ended) : Type 0 where
  pub of : IsSourceRun turns e r
  pub well : IsCheckedEnvironment e.levels e.constraints (givens e) e.main of.kept of.type
  pub left : Account
  pub shows : IsStuck r.end left

-- a declaration of the text is a constant without a body
abbrev pub DeclaresAxiom : RawEnv → Name → Type 0
DeclaresAxiom e k = (i : ℕ) × (T : Term) × (slice_get e.decls i ≡ Some (raw.Constant k T None))

abbrev pub StuckEvalsMeetAxioms : Type 0
StuckEvalsMeetAxioms =
    (turns : ℕ) (e : RawEnv) (r : Run Ended) (c : IsStuckEval turns e r) → (k : Name) × (r.end ≡ Done (NoRule (Const k)) c.left) × DeclaresAxiom e k

-- so there is none where each constant has a body
abbrev pub NoEvalIsStuck : Type 0
NoEvalIsStuck = (turns : ℕ) (e : RawEnv) (r : Run Ended) → ((k : Name) → DeclaresAxiom e k → ⊥) → IsStuckEval turns e r → ⊥
