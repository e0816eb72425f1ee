-- What is found before the declarations.
use Rattle.std.specs.Prelude.{◌≡◌, ℕ, List, [], length, Option, Some, None}
use Rattle.universe_levels.specs.declared.level.Level.{Level}
use Rattle.universe_levels.specs.declared.constraint.Constraint.{Constraint}
use Rattle.universe_levels.specs.Consistency.{AreOver, IsConsistent}
use Rattle.universe_graph.specs.Listed.{Clashes}
use Rattle.dump_reader.specs.declared.environment.RawEnv.{RawEnv}
use Rattle.pc_rules.specs.declared.broken.Broken.TheVariants.{LevelUndeclared, UniverseCycle, DuplicateName}
use Rattle.pc_rules.specs.declared.broken.Place.TheVariants.{Level as AtLevel, Constraint as AtConstraint}
use Rattle.pc_rules.specs.DirectedDeclarations.{first_repeated, first_undeclared_end, place_of}
use Rattle.env_check.specs.declared.refusal.Refusal.{Refusal}
use Rattle.env_check.specs.declared.refusal.Refusal.TheVariants as refusals
use Rattle.env_check.specs.declared.refusal.BareRefusal.{BareRefusal}
use Rattle.env_check.specs.declared.refusal.BareRefusal.TheVariants.{Broken, Memory}

-- no level is listed twice, the constraints name declared levels, and some valuation meets them all
pub record HasSoundLevels (raw : RawEnv) : Type 0 where
  pub once : first_repeated 0 [] raw.levels ≡ None
  pub declared : first_undeclared_end (length raw.levels) 0 raw.constraints ≡ None
  pub over : AreOver (length raw.levels) raw.constraints
  pub consistent : IsConsistent (length raw.levels) raw.constraints

-- want of memory, or the refusal of what is there
abbrev pub Refuses : {A : Type 0} → Option A → (A → BareRefusal) → BareRefusal → Type 0
Refuses o refusal Memory = Unit {0}
Refuses {A} o refusal e = (a : A) × (o ≡ Some a) × (e ≡ refusal a)

-- a level that was listed before, with its place
abbrev pub level_refusal : ℕ × Level → BareRefusal
level_refusal p = Broken (AtLevel p.0) (DuplicateName p.1.0)

-- an end that is not declared, with the place of its constraint
abbrev pub end_refusal : ℕ × Level → BareRefusal
end_refusal p = Broken (AtConstraint p.0) (LevelUndeclared p.1)

-- want of memory, or constraints that alone have no valuation
abbrev pub RefusesGraph : ℕ → List Constraint → BareRefusal → Type 0
RefusesGraph levels cs Memory = Unit {0}
RefusesGraph levels cs e = (places : List ℕ) × Clashes levels cs places × (e ≡ Broken (place_of places) (UniverseCycle places))

-- a refusal before the declarations: of a level that was listed before, of a constraint that names a level that isn't declared, or of constraints
-- that alone have no valuation; or want of memory
pub data IsRefusedFirst (raw : RawEnv) (e : BareRefusal) : Type 0 where
  at_levels : Refuses (first_repeated 0 [] raw.levels) level_refusal e → IsRefusedFirst raw e
  at_constraints : first_repeated 0 [] raw.levels ≡ None → Refuses (first_undeclared_end (length raw.levels) 0 raw.constraints) end_refusal e → IsRefusedFirst raw e
  at_graph : first_repeated 0 [] raw.levels ≡ None → first_undeclared_end (length raw.levels) 0 raw.constraints ≡ None → RefusesGraph (length raw.levels) raw.constraints e → IsRefusedFirst raw e

-- a refusal before the declarations is one of the whole environment
abbrev pub refused_bare : BareRefusal → Refusal
refused_bare (Broken p b) = refusals.Broken p b
refused_bare Memory = refusals.Memory
