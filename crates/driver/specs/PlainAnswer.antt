-- What `exec` and `compile` answer on a plain environment that keeps all rules: main's constructor, by its name, and its module.
use Rattle.std.specs.Prelude.{◌≡◌, ℕ, ◌⊎◌, List, [], ◌∷◌, ◌++◌, Some, slice_get, Option}
use Rattle.std.specs.Io.KnownBytes.{Appends}
use Rattle.pc_terms.specs.declared.leaf.FamilyId.{FamilyId}
use Rattle.calculus_rules.specs.declared.declaration.Constructor.{Constructor}
use Rattle.calculus_rules.specs.Environment.{FamilyDecl, KeepsFamily}
use Rattle.dump_reader.specs.declared.environment.RawEnv.{RawEnv}
use Rattle.command_line.specs.declared.job.Job.TheVariants.{Compile, Exec}
use Rattle.command_line.specs.declared.line.Request.{Request}
use Rattle.driver.specs.Answerable.{IsAnswerable}
use Rattle.driver.specs.Judged.{IsTableName}
use Rattle.driver.specs.ExecEnds.{Erasing}
use Rattle.driver.specs.Executed.{HasErasedData}
use Rattle.driver.specs.MadeModule.{TakesModule}
use Rattle.driver.specs.Serve.{IsWell}

-- the environment is well formed, and this is the name, in its table, of constructor number n of the family that it keeps
pub record NamesConstructor (e : RawEnv) (f : FamilyId) (n : ℕ) (name : List ℕ) : Type 0 where
  pub well : IsWell e
  pub family : FamilyDecl
  pub keeps : KeepsFamily well.kept f family
  pub constructor : Constructor
  pub is_main : slice_get family.constructors n ≡ Some constructor
  pub named : IsTableName e constructor.name.0 name

-- (`bench` makes no plain environment, so nothing is said of its lines) on status 0 out takes by `exec` the name of main's constructor and LF, and by `compile` main's module; where no fault is met the status is 0, or 1 for want of
-- memory; and the program that main is erased to evaluates, in one node and without a match, to that constructor
pub record AnswersConstructor (q : Request) (e : RawEnv) (a : IsAnswerable e) (status : ℕ) (no_fault : Type 0) (taken taken' : Option (List ℕ)) : Type 0 where
  pub text : q.job ≡ Exec → status ≡ 0 → (name : List ℕ) × NamesConstructor e a.id a.number name × Appends taken taken' (name ++ 10 ∷ [])
  pub object : q.job ≡ Compile → status ≡ 0 → TakesModule q e taken taken'
  pub complete : no_fault → (status ≡ 0) ⊎ (status ≡ 1)
  pub data_is : (x : Erasing q.turns e) → HasErasedData q.turns e ((a.number, 0) ∷ []) 1 0
