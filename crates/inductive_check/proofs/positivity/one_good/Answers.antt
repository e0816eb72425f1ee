use Rattle.std.proofs.Common.{◌≡◌, List, [], ◌∷◌, ◌++◌, map, Err}
use Rattle.std.proofs.lemmas.Result.{IfErr-weaker}
use Rattle.pc_rules.specs.declared.stop.Stop.TheVariants.{Memory}
use Rattle.pc_rules.specs.declared.stop.Halt.TheVariants.{Stop}
use Rattle.pc_rules.specs.Follows.{Follows}
use Rattle.pc_rules.proofs.Following.{follows_memory}
use Rattle.inductive_check.specs.Waiting.{Waiting, waiting, type_waits, each_test}
use Rattle.inductive_check.proofs.InTurn.{each_leaves}
use Rattle.inductive_check.proofs.positivity.one_good.Goals as goal

pub returns-in-Fits-clause-stops : goal.returns-in-Fits-clause-stops
returns-in-Fits-clause-stops c = rw c.in-Fits.is (c.argument_good.ensures.stops c.args.env.now)

pub returns-in-Good-clause-stops : goal.returns-in-Good-clause-stops
returns-in-Good-clause-stops c =
    let E = c.args.env.now in
    let m = c.args.m.now in
    let xs : List Waiting = map waiting c.args.tests.now.items ++ (type_waits c.in-Good.target c.in-Good.under c.in-Good.ty.now ∷ []) in
    rw c.in-Good.is
    (IfErr-weaker c.type_good.result (λ s. s ≡ Memory) (λ s. Follows (each_test E xs m.account) (Err (Stop s)) m m)
    (λ s z. rw z (follows_memory (each_test E xs m.account) m (each_leaves E xs m.account))) c.type_good.ensures.only_memory)
