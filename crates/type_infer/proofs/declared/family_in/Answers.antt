use Rattle.std.proofs.Common.{◌≡◌, ap, arith}
use Rattle.calculus_rules.specs.Environment.{with_parameters}
use Rattle.type_infer.proofs.Declaring.{no_family}
use Rattle.type_infer.proofs.declared.family_in.Goals as goal

pub returns-in-None-clause-err : goal.returns-in-None-clause-err
returns-in-None-clause-err c u =
    no_family c.args.block.now c.args.id c.bad_number.result u c.in-None.ensures.at (rw c.len.ensures.is at c.bad_number.ensures.is)
