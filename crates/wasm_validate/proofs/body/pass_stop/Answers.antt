use Rattle.std.proofs.Common.{◌≡◌, ◌∙◌, ◌++◌, sym, ap, arith, ◌+◌, ◌<◌, ◌≤◌, length, get_or, Some}
use Rattle.wasm_core.specs.ModuleTyping.{results_of}
use Rattle.wasm_validate.specs.Progress.{shows}
use Rattle.wasm_validate.proofs.Stopping.{stops_next, stops_stuck, stops_end, stops_past, stops_over}
use Rattle.wasm_validate.proofs.body.pass_stop.Goals as goal

pub loop-at-preserved : goal.loop-at-preserved
loop-at-preserved c =
    let m = c.args.m.now in let ls = c.args.func.now.params ++ c.args.body.now.locals in let rs = results_of c.args.func.now in let code = c.args.body.now.code in
    let i = c.index-code-at.result in let b = c.check_instr.new.checker in let e = c.as_slice-code.ensures.items in
    let lt : c.loop-at.at < length code = omega (arith, ap length e) in
    c.loop-at.invariant ∙ stops_next m ls rs code c.loop-at.at c.loop-at.checker b i lt (c.index-code-at.is ∙ ap (λ xs. get_or xs c.loop-at.at i) e) (c.in_ok-check_instr.ensures.is ∙ ap (λ p. shows p b) c.in-Goes.is)

pub returns-in-Stuck : goal.returns-in-Stuck
returns-in-Stuck c =
    let m = c.args.m.now in let ls = c.args.func.now.params ++ c.args.body.now.locals in let rs = results_of c.args.func.now in let code = c.args.body.now.code in
    let i = c.index-code-at.result in let b = c.check_instr.new.checker in let e = c.as_slice-code.ensures.items in
    let lt : c.loop-at.at < length code = omega (arith, ap length e) in
    record { is = sym (c.loop-at.invariant ∙ stops_stuck m ls rs code c.loop-at.at c.loop-at.checker i lt (c.index-code-at.is ∙ ap (λ xs. get_or xs c.loop-at.at i) e) (c.in_ok-check_instr.ensures.is ∙ ap (λ p. shows p b) c.in-Stuck.is)) }

pub returns-then-at-code : goal.returns-then-at-code
returns-then-at-code c =
    let m = c.args.m.now in let ls = c.args.func.now.params ++ c.args.body.now.locals in let rs = results_of c.args.func.now in let code = c.args.body.now.code in
    let i = c.index-code-at.result in let b = c.check_instr.new.checker in let e = c.as_slice-code.ensures.items in
    let lt : c.loop-at.at < length code = omega (arith, ap length e) in
    let le : length code ≤ c.loop-at.at + 1 = omega (arith, ap length e, c.if-at-code.true) in
    record { is = sym (c.loop-at.invariant ∙ stops_end m ls rs code c.loop-at.at c.loop-at.checker i lt (c.index-code-at.is ∙ ap (λ xs. get_or xs c.loop-at.at i) e) (c.in_ok-check_instr.ensures.is ∙ ap (λ p. shows p b) c.in-Ends.is) le) }

pub returns-in-Ends : goal.returns-in-Ends
returns-in-Ends c =
    let m = c.args.m.now in let ls = c.args.func.now.params ++ c.args.body.now.locals in let rs = results_of c.args.func.now in let code = c.args.body.now.code in
    let i = c.index-code-at.result in let b = c.check_instr.new.checker in let e = c.as_slice-code.ensures.items in
    let lt : c.loop-at.at < length code = omega (arith, ap length e) in
    let more : c.loop-at.at + 1 < length code = omega (arith, ap length e) in
    record { is = sym (c.loop-at.invariant ∙ stops_past m ls rs code c.loop-at.at c.loop-at.checker i lt (c.index-code-at.is ∙ ap (λ xs. get_or xs c.loop-at.at i) e) (c.in_ok-check_instr.ensures.is ∙ ap (λ p. shows p b) c.in-Ends.is) more) }

pub returns : goal.returns
returns c =
    let m = c.args.m.now in let ls = c.args.func.now.params ++ c.args.body.now.locals in let rs = results_of c.args.func.now in let code = c.args.body.now.code in
    let e = c.as_slice-code.ensures.items in
    let le : length code ≤ c.loop-at.at = omega (arith, ap length e) in
    let last : c.loop-at.at ≡ length c.as_slice-code.result.now = omega arith in
    record { is = ap Some (sym last) ∙ sym (c.loop-at.invariant ∙ stops_over m ls rs code c.loop-at.at c.loop-at.checker le) }
