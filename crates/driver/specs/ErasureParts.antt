-- What the parts of erasure say of its refusals: a halt at a place, and a constant without a body.
use Rattle.std.specs.Prelude.{◌≡◌}
use Rattle.pc_terms.specs.declared.leaf.Name.{Name}
use Rattle.pc_rules.specs.declared.broken.Broken.{Broken}
use Rattle.pc_rules.specs.declared.broken.Place.{Place}
use Rattle.pc_rules.specs.declared.stop.Halt.{Halt}
use Rattle.pc_rules.specs.declared.stop.Halt.TheVariants as halts
use Rattle.pc_rules.specs.declared.stop.Stop.TheVariants as stops
use Rattle.dump_reader.specs.declared.environment.RawEnv.{RawEnv}
use Rattle.driver.specs.declared.refusal.Refusal.{Refusal}
use Rattle.driver.specs.declared.refusal.Refusal.TheVariants as refusals
use Rattle.driver.specs.Judged.{IsTableName, PlaceIsTold, number_of}

-- a halt; want of memory may come in its place
abbrev pub HaltSays : RawEnv → Place → Halt → Refusal → Type 0
HaltSays e p h refusals.Memory = Unit {0}
HaltSays e p h refusals.TurnsSpent = h ≡ halts.Stop stops.Spent
HaltSays e p h refusals.Depth = h ≡ halts.Stop stops.TooDeep
HaltSays e p h (refusals.Broken n told) = (b : Broken) × (h ≡ halts.Broken b) × (n ≡ number_of b) × PlaceIsTold e p told
HaltSays e p h _ = ⊥

-- a constant without a body, by its name
abbrev pub AxiomSays : RawEnv → Name → Refusal → Type 0
AxiomSays e k refusals.Memory = Unit {0}
AxiomSays e k (refusals.Axiom name) = IsTableName e k.0 name.items
AxiomSays e k _ = ⊥
