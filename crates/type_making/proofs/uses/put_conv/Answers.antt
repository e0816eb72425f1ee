use Rattle.std.proofs.Common.{◌∷◌, []}
use Rattle.pc_rules.specs.DirectedTyping.{conv}
use Rattle.cert_rules.specs.declared.item.CertItem.TheVariants.{Conv}
use Rattle.script_making.proofs.Making.{makes_passed, makes_halt, makes_written}
use Rattle.type_making.proofs.uses.put_conv.Goals as goal

pub returns-in_err-conv : goal.returns-in_err-conv
returns-in_err-conv c = record { makes = makes_passed c.from_residual.ensures.1 (makes_halt (λ n. Conv ∷ []) _ _ _ _ c.in_err-conv.ensures.follows) }

pub returns : goal.returns
returns c = record {
  makes = makes_written (λ n. Conv ∷ []) (conv c.args.draft.now.meter.account) c.put.result c.args.draft.now (record { meter = c.conv.new.m; written = c.args.draft.now.written }) c.put.new.self
      c.in_ok-conv.ensures.follows c.put.ensures.meter c.put.ensures.written c.put.ensures.only_memory;
}
