use Rattle.std.proofs.Common.{◌≡◌, ◌∙◌, reverse, Some}
use Rattle.wasm_core.specs.declared.types.ValType.TheVariants.{I32}
use Rattle.wasm_core.specs.ModuleTyping.{calling, calling_entry, results_of}
use Rattle.wasm_validate.specs.Applied.{applied}
use Rattle.wasm_validate.specs.Progress.{shows}
use Rattle.wasm_validate.proofs.Taking.{applied_more}
use Rattle.wasm_validate.proofs.Faults.{if_ok}
use Rattle.wasm_validate.proofs.plain.check_entry.Goals as goal

pub returns : goal.returns
returns c =
    let t = c.args.of.now in
    record {
      is = if_ok (λ p. applied (Some (calling t)) c.take.new.self ≡ shows p c.check_callee.new.checker) (λ p. applied (Some (calling_entry t)) c.args.checker.now ≡ shows p c.check_callee.new.checker) c.check_callee.result
          (λ p e. applied_more I32 (reverse t.params) (results_of t) c.args.checker.now c.take.new.self c.if-not-take.ensures.taken c.take.ensures.ctls ∙ e) c.check_callee.ensures.is;
    }
