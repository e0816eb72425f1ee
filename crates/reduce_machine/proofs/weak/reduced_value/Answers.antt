use Rattle.std.proofs.lemmas.Result.{err_from_is_err_and}
use Rattle.calculus_rules.specs.Context.{values}
use Rattle.pc_rules.proofs.FairReduction.{steps_leaves}
use Rattle.pc_rules.proofs.Meters.{after-refl}
use Rattle.reduction.proofs.Ending.{memory_follows}
use Rattle.reduce_machine.specs.Passed.{reduced}
use Rattle.reduce_machine.specs.Reads.{read}
use Rattle.reduce_machine.proofs.Keeping.{reducts_none}
use Rattle.reduce_machine.proofs.weak.reduced_value.Goals as goal

pub value_with-requires : goal.value_with-requires
value_with-requires c = record {
  ready = c.in_ok-kept.ensures.ready;
  reducts = reducts_none c.args.env.now (values c.args.ctx.now) c.in_ok-kept.kept.entries.items c.in_ok-kept.ensures.empty;
}

pub returns-in_err-kept-clause-follows : goal.returns-in_err-kept-clause-follows
returns-in_err-kept-clause-follows c =
    let p = err_from_is_err_and c.from_residual.result c.from_residual.ensures.1 in
    rw (p.1, p.2) (memory_follows (reduced c.args.env.now (values c.args.ctx.now) (read c.args.term) c.args.m.now.account) c.in_err-kept.field-0.0 c.args.m.now c.args.m.now
    c.in_err-kept.ensures.only_memory (after-refl c.args.m.now)
    (steps_leaves c.args.env.now (values c.args.ctx.now) c.args.m.now.account.left (read c.args.term) c.args.m.now.account))
