use Rattle.std.proofs.Common.{arith}
use Rattle.env_check.proofs.Limits.{spelled_few}
use Rattle.env_check.proofs.beginning.bare_env.Goals as goal

pub overflow_cast-levels : goal.overflow_cast-levels
overflow_cast-levels c =
    let few = spelled_few c.args.raw.now c.requires.spelled in
    let e = c.len-levels.ensures.is in
    omega arith

pub check_levels-requires : goal.check_levels-requires
check_levels-requires c = record { few = rw c.as_slice.ensures.is (spelled_few c.args.raw.now c.requires.spelled).levels }

pub check_constraints-requires : goal.check_constraints-requires
check_constraints-requires c = record { few = rw c.as_slice-constraints.ensures.is (spelled_few c.args.raw.now c.requires.spelled).constraints }

pub graph_of-requires-clause-few_levels : goal.graph_of-requires-clause-few_levels
graph_of-requires-clause-few_levels c = rw c.len-levels.ensures.is (spelled_few c.args.raw.now c.requires.spelled).levels

pub graph_of-requires-clause-few_constraints : goal.graph_of-requires-clause-few_constraints
graph_of-requires-clause-few_constraints c = rw c.as_slice-constraints.ensures.is (spelled_few c.args.raw.now c.requires.spelled).constraints
