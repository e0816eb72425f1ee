use Rattle.std.proofs.Common.{◌≡◌, ℕ, ◌++◌, Option, Some, None, sym, subst}
use Rattle.wasm_core.specs.declared.types.FuncType.{FuncType}
use Rattle.wasm_core.specs.declared.instrs.Body.{Body}
use Rattle.wasm_core.specs.Parts.{Parts}
use Rattle.wasm_core.specs.ModuleTyping.{results_of}
use Rattle.wasm_core.specs.Pass.{outset}
use Rattle.wasm_validate.specs.BodyPass.{stops}
use Rattle.wasm_validate.specs.Verdicts.{SaysOfBody}
use Rattle.wasm_validate.proofs.Stopping.{SaysOfCode, stops_says}
use Rattle.wasm_validate.proofs.Faults.{if_ok}
use Rattle.wasm_validate.proofs.body.body_fault.Goals as goal

of_code : (m : Parts) (t : FuncType) (b : Body) (o : Option ℕ) → SaysOfCode m (t.params ++ b.locals) (results_of t) b.code o → SaysOfBody m t b o
of_code m t b None s = s
of_code m t b (Some p) s = s

pub returns : goal.returns
returns c =
    let m = c.args.m.now in let t = c.args.func.now in let b = c.args.body.now in
    record {
      is = if_ok (λ o. o ≡ stops m (t.params ++ b.locals) (results_of t) outset 0 b.code) (SaysOfBody m t b) c.pass_stop.result
          (λ o e. of_code m t b o (subst (SaysOfCode m (t.params ++ b.locals) (results_of t) b.code) (sym e) (stops_says m (t.params ++ b.locals) (results_of t) b.code c.requires.closed)))
          c.pass_stop.ensures.is;
    }
