use Rattle.std.proofs.Common.{◌∷◌, []}
use Rattle.cert_rules.specs.declared.item.CertItem.TheVariants.{Number}
use Rattle.script_making.proofs.Making.{makes_passed, makes_halt, makes_unwritten, makes_put}
use Rattle.script_making.proofs.maker.Maker.whnf.Goals as goal

pub returns-in_err-count-clause-makes : goal.returns-in_err-count-clause-makes
returns-in_err-count-clause-makes g c = makes_passed c.from_residual.ensures.1 (makes_halt (λ n. Number n ∷ []) _ _ _ _ c.in_err-count.ensures.follows)

pub returns-in_err-put-clause-makes : goal.returns-in_err-put-clause-makes
returns-in_err-put-clause-makes g c =
    makes_passed c.from_residual-in_err-put.ensures.1 (makes_unwritten _ _ c.args.draft.now c.counted.new.draft c.put.new.self c.in_err-put.ensures.only_memory c.in_ok-count.ensures.follows.after c.in_err-put.ensures.meter)

pub returns-clause-makes : goal.returns-clause-makes
returns-clause-makes g c =
    makes_put (λ n. Number n ∷ []) _ _ c.in_ok-count.count c.args.draft.now c.counted.new.draft c.put.new.self c.in_ok-count.ensures.follows c.in_ok-count.ensures.written c.in_ok-count.ensures.count
    c.in_ok-put.ensures.meter c.in_ok-put.ensures.written
