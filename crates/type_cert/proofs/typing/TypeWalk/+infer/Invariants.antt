use Rattle.std.proofs.Common.{◌≡◌, ◌+◌, ◌*◌, Result, drop, length, take}
use Rattle.pc_terms.specs.Lists.{types_of}
use Rattle.pc_terms.specs.Syntax.{Rel, put_all}
use Rattle.calculus_rules.specs.Context.{extend}
use Rattle.calculus_rules.specs.Instances.{definitions}
use Rattle.pc_rules.specs.Follows.{IsAfter}
use Rattle.pc_rules.specs.WellCounted.{AreCounted}
use Rattle.type_infer.specs.Ready.{IsReady}
use Rattle.type_cert.specs.declared.halt.WalkHalt.{WalkHalt}
use Rattle.type_cert.specs.declared.trail.Trail.{Trail}
use Rattle.type_cert.specs.Retraces.{Retraces, stand}
use Rattle.type_cert.specs.Going.{entering, checking_all, branches_walk, types_walk, definitions_walk}
use Rattle.type_cert.proofs.typing.TypeWalk.+infer.Given as goal

-- a rule that stands takes the room of all that it calls

abbrev pub decreases-infer : goal.decreases-infer
decreases-infer g l = l.self.now.verifier.room * 32

abbrev pub decreases-sort_of : goal.decreases-sort_of
decreases-sort_of g l = l.self.now.verifier.room * 32 + 3

abbrev pub decreases-sort_from : goal.decreases-sort_from
decreases-sort_from g l = l.self.now.verifier.room * 32 + 1

abbrev pub decreases-sort_term : goal.decreases-sort_term
decreases-sort_term g l = l.self.now.verifier.room * 32 + 2

abbrev pub decreases-inferred_sorted : goal.decreases-inferred_sorted
decreases-inferred_sorted g l = l.self.now.verifier.room * 32 + 3

abbrev pub decreases-sorted : goal.decreases-sorted
decreases-sorted g l = l.self.now.verifier.room * 32 + 4

abbrev pub decreases-fits : goal.decreases-fits
decreases-fits g l = l.self.now.verifier.room * 32 + 5

abbrev pub decreases-check : goal.decreases-check
decreases-check g l = l.self.now.verifier.room * 32 + 6

abbrev pub decreases-retype : goal.decreases-retype
decreases-retype g l = l.self.now.verifier.room * 32 + 5

abbrev pub decreases-prod_rule : goal.decreases-prod_rule
decreases-prod_rule g l = l.self.now.verifier.room * 32 + 20

abbrev pub decreases-lambda_rule : goal.decreases-lambda_rule
decreases-lambda_rule g l = l.self.now.verifier.room * 32 + 20

abbrev pub decreases-let_rule : goal.decreases-let_rule
decreases-let_rule g l = l.self.now.verifier.room * 32 + 20

abbrev pub decreases-app_rule : goal.decreases-app_rule
decreases-app_rule g l = l.self.now.verifier.room * 32 + 21

abbrev pub decreases-application_type : goal.decreases-application_type
decreases-application_type g l = l.self.now.verifier.room * 32 + 20

abbrev pub decreases-whole_type : goal.decreases-whole_type
decreases-whole_type g l = l.self.now.verifier.room * 32 + 19

abbrev pub decreases-reduced_type : goal.decreases-reduced_type
decreases-reduced_type g l = l.self.now.verifier.room * 32 + 18

abbrev pub decreases-function_type : goal.decreases-function_type
decreases-function_type g l = l.self.now.verifier.room * 32 + 2

abbrev pub decreases-inferred_type : goal.decreases-inferred_type
decreases-inferred_type g l = l.self.now.verifier.room * 32 + 1

abbrev pub decreases-check_instance : goal.decreases-check_instance
decreases-check_instance g l = l.self.now.verifier.room * 32 + 6

abbrev pub decreases-inner_type : goal.decreases-inner_type
decreases-inner_type g l = l.self.now.verifier.room * 32

abbrev pub decreases-rule : goal.decreases-rule
decreases-rule g l = l.self.now.verifier.room * 32 + 22

-- fixpoints

abbrev pub decreases-types_rule : goal.decreases-types_rule
decreases-types_rule g l = l.self.now.verifier.room * 32 + 6

abbrev pub decreases-definition_rule : goal.decreases-definition_rule
decreases-definition_rule g l = l.self.now.verifier.room * 32 + 7

abbrev pub decreases-definitions_rule : goal.decreases-definitions_rule
decreases-definitions_rule g l = l.self.now.verifier.room * 32 + 8

abbrev pub decreases-fix_rule : goal.decreases-fix_rule
decreases-fix_rule g l = l.self.now.verifier.room * 32 + 20

-- what answers for the rest of the definitions answers for all

abbrev pub invariant-types_rule-loop-i : goal.invariant-types_rule-loop-i
invariant-types_rule-loop-i g l = record {
  rest : (r : Result (Unit {0}) WalkHalt) (t : Trail)
      → Retraces (types_walk l.self.verifier l.under l.i (drop l.i l.items) (stand l.trail)) r l.trail t
      → Retraces (types_walk l.self.verifier l.ctx 0 l.items (stand l.fn.trail)) r l.fn.trail t;
  after : IsAfter l.fn.trail.meter l.trail.meter;
  under : definitions l.ctx 0 (types_of l.items) ≡ definitions l.under l.i (types_of (drop l.i l.items));
  ready : IsReady l.self.verifier.env.now l.under;
}

abbrev pub invariant-definitions_rule-loop-i : goal.invariant-definitions_rule-loop-i
invariant-definitions_rule-loop-i g l = record {
  rest : (r : Result (Unit {0}) WalkHalt) (t : Trail)
      → Retraces (definitions_walk l.self.verifier l.under (length l.items) l.i (drop l.i l.items) (stand l.trail)) r l.trail t
      → Retraces (definitions_walk l.self.verifier l.under (length l.items) 0 l.items (stand l.fn.trail)) r l.fn.trail t;
  after : IsAfter l.fn.trail.meter l.trail.meter;
}

-- matches

abbrev pub decreases-entered : goal.decreases-entered
decreases-entered g l = l.self.now.verifier.room * 32 + 5

-- what answers for the rest of the entries answers for the whole telescope
abbrev pub invariant-entered-loop-i : goal.invariant-entered-loop-i
invariant-entered-loop-i g l = record {
  rest : (r : Result (Unit {0}) WalkHalt) (t : Trail)
      → Retraces (entering l.self.verifier l.inner (drop l.i l.items) (stand l.trail)) r l.trail t
      → Retraces (entering l.self.verifier l.ctx l.items (stand l.fn.trail)) r l.fn.trail t;
  longer : extend l.inner (drop l.i l.items) ≡ extend l.ctx l.items;
  ready : IsReady l.self.verifier.env.now l.inner;
  counted : AreCounted l.self.verifier.env.now (take l.i l.items);
  after : IsAfter l.fn.trail.meter l.trail.meter;
}

abbrev pub decreases-check_all : goal.decreases-check_all
decreases-check_all g l = l.self.now.verifier.room * 32 + 7

-- what answers for the rest of the terms, with those before them put in, answers for all
abbrev pub invariant-check_all-loop-i : goal.invariant-check_all-loop-i
invariant-check_all-loop-i g l = record {
  rest : (r : Result (Unit {0}) WalkHalt) (t : Trail)
      → Retraces (checking_all l.self.verifier l.ctx (put_all l.before (λ i. Rel (l.raise + i))) (drop l.i l.listed) (drop l.i l.types) (stand l.trail)) r l.trail t
      → Retraces (checking_all l.self.verifier l.ctx (λ i. Rel (l.raise + i)) l.listed l.types (stand l.fn.trail)) r l.fn.trail t;
  before : l.before ≡ take l.i l.listed;
  counted : AreCounted l.self.verifier.env.now l.before;
  after : IsAfter l.fn.trail.meter l.trail.meter;
}

abbrev pub decreases-predicate_rule : goal.decreases-predicate_rule
decreases-predicate_rule g l = l.self.now.verifier.room * 32 + 6

abbrev pub decreases-scrutinee_rule : goal.decreases-scrutinee_rule
decreases-scrutinee_rule g l = l.self.now.verifier.room * 32 + 7

abbrev pub decreases-branch_rule : goal.decreases-branch_rule
decreases-branch_rule g l = l.self.now.verifier.room * 32 + 7

abbrev pub decreases-branches_rule : goal.decreases-branches_rule
decreases-branches_rule g l = l.self.now.verifier.room * 32 + 8

-- what answers for the rest of the branches answers for all
abbrev pub invariant-branches_rule-loop-i : goal.invariant-branches_rule-loop-i
invariant-branches_rule-loop-i g l = record {
  rest : (r : Result (Unit {0}) WalkHalt) (t : Trail)
      → Retraces (branches_walk l.self.verifier l.ctx l.i (drop l.i l.listed) l.x (drop l.i l.bodies) (stand l.trail)) r l.trail t
      → Retraces (branches_walk l.self.verifier l.ctx 0 l.listed l.x l.bodies (stand l.fn.trail)) r l.fn.trail t;
  after : IsAfter l.fn.trail.meter l.trail.meter;
}

abbrev pub decreases-case_rule : goal.decreases-case_rule
decreases-case_rule g l = l.self.now.verifier.room * 32 + 20
