use Rattle.std.proofs.Common.{◌+◌, ◌*◌, Result, drop}
use Rattle.calculus_rules.specs.Context.{values}
use Rattle.pc_rules.specs.Follows.{IsAfter}
use Rattle.cert_rules.specs.Walk.{walk_all}
use Rattle.type_cert.specs.declared.halt.WalkHalt.{WalkHalt}
use Rattle.type_cert.specs.declared.trail.Trail.{Trail}
use Rattle.type_cert.specs.Retraces.{Retraces, stand}
use Rattle.type_cert.specs.Going.{going}
use Rattle.type_cert.specs.Pairs.{acts_of}
use Rattle.type_cert.proofs.verifier.Verifier.+script.Given as goal

abbrev pub decreases-terms_script : goal.decreases-terms_script
decreases-terms_script l = l.self.now.room * 8

abbrev pub decreases-product : goal.decreases-product
decreases-product l = l.self.now.room * 8 + 1

abbrev pub decreases-lambda : goal.decreases-lambda
decreases-lambda l = l.self.now.room * 8 + 1

abbrev pub decreases-definition : goal.decreases-definition
decreases-definition l = l.self.now.room * 8 + 1

abbrev pub decreases-application : goal.decreases-application
decreases-application l = l.self.now.room * 8 + 1

abbrev pub decreases-each_part : goal.decreases-each_part
decreases-each_part l = l.self.now.room * 8 + 1

abbrev pub decreases-matches : goal.decreases-matches
decreases-matches l = l.self.now.room * 8 + 2

abbrev pub decreases-fixpoints : goal.decreases-fixpoints
decreases-fixpoints l = l.self.now.room * 8 + 2

abbrev pub decreases-parts : goal.decreases-parts
decreases-parts l = l.self.now.room * 8 + 3

abbrev pub decreases-parts_item : goal.decreases-parts_item
decreases-parts_item l = l.self.now.room * 8 + 4

abbrev pub decreases-item : goal.decreases-item
decreases-item l = l.self.now.room * 8 + 5

-- what answers for the rest of the parts answers for all of them
abbrev pub invariant-each_part-loop-i : goal.invariant-each_part-loop-i
invariant-each_part-loop-i l = record {
  rest : (r : Result (Unit {0}) WalkHalt) (t : Trail)
      → Retraces (walk_all (acts_of (going l.self) (values l.ctx) (drop l.i l.parts)) (stand l.trail)) r l.trail t
      → Retraces (walk_all (acts_of (going l.self) (values l.ctx) l.parts) (stand l.fn.trail)) r l.fn.trail t;
  after : IsAfter l.fn.trail.meter l.trail.meter;
}
