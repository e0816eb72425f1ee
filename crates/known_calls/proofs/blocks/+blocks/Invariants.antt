use Rattle.std.proofs.Common.{◌≡◌, ◌+◌, ◌*◌, ◌++◌, ◌≤◌, drop, take, length, reverse, List, true, false}
use Rattle.closure_lift.specs.Lifted.{tail_of, block_of}
use Rattle.closure_lift.specs.LiftedView.{seen, bounds_of, branches_of}
use Rattle.closure_lift.specs.LiftedWeight.{block_weight, branches_weight, bound_weight}
use Rattle.wasm_core.specs.declared.instrs.Instr.{Instr}
use Rattle.wasm_emit.specs.Pushed.{ends}
use Rattle.known_calls.specs.KnownTests.{Position, chain, none}
use Rattle.known_calls.specs.KnownMarks.{Begins, block_marks, kind_marks}
use Rattle.known_calls.specs.KnownPushed.{under_position, block_code, kind_of}
use Rattle.known_calls.proofs.blocks.+blocks.Given as goal

abbrev pub decreases-push_block : goal.decreases-push_block
decreases-push_block l = 64 * block_weight l.b.now

abbrev pub decreases-push_binding : goal.decreases-push_binding
decreases-push_binding l = 64 * bound_weight (seen l.op.now) + 5

abbrev pub decreases-push_made : goal.decreases-push_made
decreases-push_made l = 64 * bound_weight (seen l.op.now) + 4

abbrev pub decreases-push_into_local : goal.decreases-push_into_local
decreases-push_into_local l = 64 * bound_weight (seen l.op.now) + 3

abbrev pub decreases-push_then_set : goal.decreases-push_then_set
decreases-push_then_set l = 64 * bound_weight (seen l.op.now) + 2

abbrev pub decreases-push_op : goal.decreases-push_op
decreases-push_op l = 64 * bound_weight (seen l.op.now) + 1

abbrev pub decreases-push_branches : goal.decreases-push_branches
decreases-push_branches l = 64 * branches_weight l.bs.now + 44

abbrev pub decreases-push_few_bare : goal.decreases-push_few_bare
decreases-push_few_bare l = 64 * branches_weight (branches_of l.bs.now) + 42

abbrev pub decreases-push_both_kinds : goal.decreases-push_both_kinds
decreases-push_both_kinds l = 64 * branches_weight (branches_of l.bs.now) + 42

abbrev pub decreases-push_search : goal.decreases-push_search
decreases-push_search l = 64 * branches_weight (branches_of l.bs.now) + (2 * l.part.rounds + 8)

abbrev pub decreases-push_halves : goal.decreases-push_halves
decreases-push_halves l = 64 * branches_weight (branches_of l.bs.now) + (2 * l.part.rounds + 7)

abbrev pub decreases-push_alone : goal.decreases-push_alone
decreases-push_alone l = 64 * branches_weight (branches_of l.bs.now) + 6

abbrev pub decreases-push_told : goal.decreases-push_told
decreases-push_told l = 64 * branches_weight (branches_of l.bs.now) + 4

abbrev pub decreases-push_tested : goal.decreases-push_tested
decreases-push_tested l = 64 * branches_weight (branches_of l.bs.now) + 4

abbrev pub decreases-push_arm : goal.decreases-push_arm
decreases-push_arm l = 64 * block_weight l.b.now.body + 2

abbrev pub decreases-push_fielded : goal.decreases-push_fielded
decreases-push_fielded l = 64 * block_weight l.b.now.body + 1

abbrev pub invariant-push_block-loop-op : goal.invariant-push_block-loop-op
invariant-push_block-loop-op l = record {
  pushed : (rest : List Instr) → l.out.items ++ block_code l.p (reverse l.places.items) l.local l.site.at (block_of (bounds_of (drop l.op-index l.op-items)) (tail_of (seen l.b-inside.tail))) rest ≡ l.initial.out.items ++ block_code l.p (reverse l.initial.places.items) l.site.local l.site.at l.b rest;
  marked : Begins (block_marks (block_of (bounds_of (drop l.op-index l.op-items)) (tail_of (seen l.b-inside.tail)))) (reverse l.marks.items);
  left : drop (length (block_marks (block_of (bounds_of (drop l.op-index l.op-items)) (tail_of (seen l.b-inside.tail))))) (reverse l.marks.items) ≡ drop (length (block_marks l.b)) (reverse l.initial.marks.items);
  kept : take l.outer l.places.items ≡ l.initial.places.items;
  more : l.outer ≤ length l.places.items;
}

abbrev pub invariant-push_tested-loop-c : goal.invariant-push_tested-loop-c
invariant-push_tested-loop-c l = record {
  pushed : (others : Position → List Instr → List Instr) (rest : List Instr) → l.out.items ++ chain l.part.site.local true (kind_of l.p (reverse l.initial.places.items) l.part.site.local l.part.kind (l.part.first + l.c) (branches_of (drop l.c l.bs))) others (under_position l.begun l.part.site.at)
      (ends l.begun rest) ≡ l.initial.out.items ++ chain l.part.site.local true (kind_of l.p (reverse l.initial.places.items) l.part.site.local l.part.kind l.part.first (branches_of l.bs)) others l.part.site.at rest;
  marked : Begins (kind_marks l.part.kind (branches_of (drop l.c l.bs))) (reverse l.marks.items);
  left : drop (length (kind_marks l.part.kind (branches_of (drop l.c l.bs)))) (reverse l.marks.items) ≡ drop (length (kind_marks l.part.kind (branches_of l.bs))) (reverse l.initial.marks.items);
  same : l.places.items ≡ l.initial.places.items;
  few : l.begun ≤ l.c;
}

abbrev pub invariant-push_told-loop-c : goal.invariant-push_told-loop-c
invariant-push_told-loop-c l = record {
  pushed : (rest : List Instr) → l.out.items ++ chain l.part.site.local false (kind_of l.p (reverse l.initial.places.items) l.part.site.local l.part.kind (l.part.first + l.c) (branches_of (drop l.c l.bs))) none (under_position l.begun l.part.site.at) (ends l.begun rest)
      ≡ l.initial.out.items ++ chain l.part.site.local false (kind_of l.p (reverse l.initial.places.items) l.part.site.local l.part.kind l.part.first (branches_of l.bs)) none l.part.site.at rest;
  marked : Begins (kind_marks l.part.kind (branches_of (drop l.c l.bs))) (reverse l.marks.items);
  left : drop (length (kind_marks l.part.kind (branches_of (drop l.c l.bs)))) (reverse l.marks.items) ≡ drop (length (kind_marks l.part.kind (branches_of l.bs))) (reverse l.initial.marks.items);
  same : l.places.items ≡ l.initial.places.items;
  few : l.begun ≤ l.c;
}
