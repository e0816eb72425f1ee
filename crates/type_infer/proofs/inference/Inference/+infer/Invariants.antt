use Rattle.std.proofs.Common.{◌≡◌, ◌+◌, ◌*◌, Result, drop, length, take}
use Rattle.pc_terms.specs.Lists.{rargs_of, types_of, bodies_of, arms_of}
use Rattle.pc_rules.specs.declared.meter.Meter.{Meter}
use Rattle.pc_rules.specs.declared.stop.Halt.{Halt}
use Rattle.pc_rules.specs.Entailment.{test_of}
use Rattle.pc_rules.specs.Follows.{Follows}
use Rattle.calculus_rules.specs.Instances.{definitions}
use Rattle.pc_rules.specs.DirectedComparison.{compare}
use Rattle.pc_rules.specs.DirectedTyping.{infer, types_rule, definitions_rule, check_all, branches_rule}
use Rattle.type_infer.specs.Ready.{IsReady}
use Rattle.calculus_rules.specs.Context.{Context, extend}
use Rattle.type_infer.specs.Entering.{entries_entered}
use Rattle.pc_terms.specs.Syntax.{Rel, put_all, list_of}
use Rattle.pc_rules.specs.WellCounted.{AreCounted}
use Rattle.known_types.specs.Sites.{Longer}
use Rattle.type_infer.proofs.inference.Inference.+infer.Given as goal

-- a rule that stands takes the room of all that it calls

abbrev pub decreases-infer_at : goal.decreases-infer_at
decreases-infer_at g l = l.room * 32 + 1

abbrev pub decreases-infer_anew : goal.decreases-infer_anew
decreases-infer_anew g l = l.room * 32

abbrev pub decreases-sort_at : goal.decreases-sort_at
decreases-sort_at g l = l.room * 32 + 4

abbrev pub decreases-sorted_at : goal.decreases-sorted_at
decreases-sorted_at g l = l.room * 32 + 4

abbrev pub decreases-inferred_sorted : goal.decreases-inferred_sorted
decreases-inferred_sorted g l = l.room * 32 + 3

abbrev pub decreases-reduced_sort : goal.decreases-reduced_sort
decreases-reduced_sort g l = l.room * 32 + 2

abbrev pub decreases-check_at : goal.decreases-check_at
decreases-check_at g l = l.room * 32 + 5

abbrev pub decreases-retype : goal.decreases-retype
decreases-retype g l = l.room * 32 + 5

abbrev pub decreases-prod_rule : goal.decreases-prod_rule
decreases-prod_rule g l = l.room * 32 + 20

abbrev pub decreases-lambda_rule : goal.decreases-lambda_rule
decreases-lambda_rule g l = l.room * 32 + 20

abbrev pub decreases-let_rule : goal.decreases-let_rule
decreases-let_rule g l = l.room * 32 + 20

abbrev pub decreases-app_rule : goal.decreases-app_rule
decreases-app_rule g l = l.room * 32 + 21

abbrev pub decreases-application_type : goal.decreases-application_type
decreases-application_type g l = l.room * 32 + 20

abbrev pub decreases-reduced_type : goal.decreases-reduced_type
decreases-reduced_type g l = l.room * 32 + 19

abbrev pub decreases-function_type : goal.decreases-function_type
decreases-function_type g l = l.room * 32 + 2

abbrev pub decreases-prefix_type : goal.decreases-prefix_type
decreases-prefix_type g l = l.room * 32 + 1

abbrev pub decreases-inner_type : goal.decreases-inner_type
decreases-inner_type g l = l.room * 32

abbrev pub decreases-rule : goal.decreases-rule
decreases-rule g l = l.room * 32 + 22

-- fixpoints

abbrev pub decreases-types_rule : goal.decreases-types_rule
decreases-types_rule g l = l.room * 32 + 5

abbrev pub decreases-definition_rule : goal.decreases-definition_rule
decreases-definition_rule g l = l.room * 32 + 6

abbrev pub decreases-definitions_rule : goal.decreases-definitions_rule
decreases-definitions_rule g l = l.room * 32 + 7

abbrev pub decreases-fix_rule : goal.decreases-fix_rule
decreases-fix_rule g l = l.room * 32 + 20

-- what answers for the rest of the definitions answers for all

abbrev pub invariant-types_rule-loop-i : goal.invariant-types_rule-loop-i
invariant-types_rule-loop-i g l = record {
  rest : (r : Result (Unit {0}) Halt) (n : Meter)
      → Follows (types_rule l.env (infer l.env (test_of l.env) l.room) l.under l.i (list_of (types_of (drop l.i l.items))) l.m.account) r l.m n
      → Follows (types_rule l.env (infer l.env (test_of l.env) l.room) l.ctx 0 (list_of (types_of l.items)) l.fn.m.account) r l.fn.m n;
  nest : l.m.nest ≡ l.fn.m.nest;
  under : definitions l.ctx 0 (types_of l.items) ≡ definitions l.under l.i (types_of (drop l.i l.items));
  ready : IsReady l.env l.under;
  deeper : Longer l.ctx l.under;
}

abbrev pub invariant-definitions_rule-loop-i : goal.invariant-definitions_rule-loop-i
invariant-definitions_rule-loop-i g l = record {
  rest : (r : Result (Unit {0}) Halt) (n : Meter)
      → Follows (definitions_rule l.env (infer l.env (test_of l.env) l.room) (compare l.env (test_of l.env) l.room) l.under (length l.items) l.i (rargs_of (drop l.i l.items)) (list_of (types_of (drop l.i l.items))) (list_of (bodies_of (length l.items) (drop l.i l.items))) l.m.account) r l.m n
      → Follows (definitions_rule l.env (infer l.env (test_of l.env) l.room) (compare l.env (test_of l.env) l.room) l.under (length l.items) 0 (rargs_of l.items) (list_of (types_of l.items)) (list_of (bodies_of (length l.items) l.items)) l.fn.m.account) r l.fn.m n;
  nest : l.m.nest ≡ l.fn.m.nest;
}

-- matches

abbrev pub decreases-entered : goal.decreases-entered
decreases-entered g l = l.room * 32 + 5

-- what answers for the rest of the entries answers for the whole telescope
abbrev pub invariant-entered-loop-i : goal.invariant-entered-loop-i
invariant-entered-loop-i g l = record {
  rest : (r : Result Context Halt) (n : Meter)
      → Follows (entries_entered l.env (infer l.env (test_of l.env) l.room) l.inner (drop l.i l.items) l.m.account) r l.m n
      → Follows (entries_entered l.env (infer l.env (test_of l.env) l.room) l.ctx l.items l.fn.m.account) r l.fn.m n;
  longer : extend l.inner (drop l.i l.items) ≡ extend l.ctx l.items;
  ready : IsReady l.env l.inner;
  deeper : Longer l.ctx l.inner;
  nest : l.m.nest ≡ l.fn.m.nest;
}

abbrev pub decreases-check_all : goal.decreases-check_all
decreases-check_all g l = l.room * 32 + 6

-- what answers for the rest of the terms, with those before them put in, answers for all
abbrev pub invariant-check_all-loop-i : goal.invariant-check_all-loop-i
invariant-check_all-loop-i g l = record {
  rest : (r : Result (Unit {0}) Halt) (n : Meter)
      → Follows (check_all l.env (infer l.env (test_of l.env) l.room) (compare l.env (test_of l.env) l.room) l.ctx (put_all l.before Rel) (drop l.i l.listed) (drop l.i l.types) l.m.account) r l.m n
      → Follows (check_all l.env (infer l.env (test_of l.env) l.room) (compare l.env (test_of l.env) l.room) l.ctx Rel l.listed l.types l.fn.m.account) r l.fn.m n;
  before : l.before ≡ take l.i l.listed;
  counted : AreCounted l.env l.before;
  nest : l.m.nest ≡ l.fn.m.nest;
}

abbrev pub decreases-predicate_rule : goal.decreases-predicate_rule
decreases-predicate_rule g l = l.room * 32 + 6

abbrev pub decreases-scrutinee_fits : goal.decreases-scrutinee_fits
decreases-scrutinee_fits g l = l.room * 32 + 5

abbrev pub decreases-scrutinee_rule : goal.decreases-scrutinee_rule
decreases-scrutinee_rule g l = l.room * 32 + 6

abbrev pub decreases-branch_rule : goal.decreases-branch_rule
decreases-branch_rule g l = l.room * 32 + 6

abbrev pub decreases-branches_rule : goal.decreases-branches_rule
decreases-branches_rule g l = l.room * 32 + 7

-- what answers for the rest of the branches answers for all
abbrev pub invariant-branches_rule-loop-i : goal.invariant-branches_rule-loop-i
invariant-branches_rule-loop-i g l = record {
  rest : (r : Result (Unit {0}) Halt) (n : Meter)
      → Follows (branches_rule l.env (infer l.env (test_of l.env) l.room) (compare l.env (test_of l.env) l.room) l.ctx l.x.family l.i (drop l.i l.listed) l.x.params l.x.ret (list_of (arms_of (drop l.i l.bodies))) l.m.account) r l.m n
      → Follows (branches_rule l.env (infer l.env (test_of l.env) l.room) (compare l.env (test_of l.env) l.room) l.ctx l.x.family 0 l.listed l.x.params l.x.ret (list_of (arms_of l.bodies)) l.fn.m.account) r l.fn.m n;
  nest : l.m.nest ≡ l.fn.m.nest;
}

abbrev pub decreases-case_rule : goal.decreases-case_rule
decreases-case_rule g l = l.room * 32 + 20
