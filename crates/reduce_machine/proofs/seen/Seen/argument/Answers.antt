use Rattle.std.proofs.Common.{◌≡◌, ◌∙◌, ◌<◌, ap, arith, length, slice_get}
use Rattle.reduce_machine.proofs.Inner.{plain_args, plain_count, plain_item, fixpoint_args, fixpoint_count, fix_stuck_head}
use Rattle.reduce_machine.proofs.seen.Seen.argument.Goals as goal

pub fixpoint_argument-requires-clause-within : goal.fixpoint_argument-requires-clause-within
fixpoint_argument-requires-clause-within c =
    let n = fixpoint_count c.args.self.now _ _ c.requires.seen c.in-Fixpoint.is in
    grind arith

pub fixpoint_argument-requires-clause-stuck : goal.fixpoint_argument-requires-clause-stuck
fixpoint_argument-requires-clause-stuck c = fix_stuck_head c.args.self.now _ _ c.requires.seen c.in-Fixpoint.is

pub returns-in-Fixpoint-clause-is : goal.returns-in-Fixpoint-clause-is
returns-in-Fixpoint-clause-is c =
    let f = rw (c.as_slice.ensures.value, c.as_slice-args.ensures.value) at c.fixpoint_argument.ensures.is in
    ap (λ xs. slice_get xs c.args.i) (fixpoint_args c.args.self.now _ _ c.requires.seen c.in-Fixpoint.is) ∙ f

pub bounds-args-i : goal.bounds-args-i
bounds-args-i c =
    let n = plain_count c.args.self.now c.requires.seen c.in_default.not-Fixpoint in
    grind arith

pub offset_bounds-args-i : goal.offset_bounds-args-i
offset_bounds-args-i c =
    let n = plain_count c.args.self.now c.requires.seen c.in_default.not-Fixpoint in
    let h : c.args.i < length c.as_slice-args.result.now = grind arith in
    grind arith

pub returns-in_default-clause-is : goal.returns-in_default-clause-is
returns-in_default-clause-is c =
    let n = plain_count c.args.self.now c.requires.seen c.in_default.not-Fixpoint in
    let e = rw c.as_slice-args.ensures.value at c.index-args-i.is in
    ap (λ xs. slice_get xs c.args.i) (plain_args c.args.self.now c.requires.seen c.in_default.not-Fixpoint)
    ∙ plain_item c.args.self.now.spine.now.args.items c.args.i c.index-args-i.result e (grind arith)
