use Rattle.std.proofs.Common.{◌∙◌, reverse}
use Rattle.std.specs.Option.{option_to_list}
use Rattle.wasm_core.specs.declared.types.ValType.TheVariants.{I32}
use Rattle.wasm_core.specs.ModuleTyping.{results_of}
use Rattle.wasm_validate.proofs.Taking.{tail_more}
use Rattle.wasm_validate.proofs.tail_calls.check_tail_entry.Goals as goal

pub returns : goal.returns
returns c =
    let t = c.args.of.now in
    record { is = tail_more I32 (reverse t.params) (results_of t) (option_to_list c.args.own) c.args.checker.now c.take.new.self c.if-not-take.ensures.taken c.take.ensures.ctls ∙ c.check_tail_callee.ensures.is }
