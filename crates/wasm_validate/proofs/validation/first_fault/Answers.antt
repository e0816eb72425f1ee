use Rattle.std.proofs.Common.{◌∙◌, ap, arith, length, subst}
use Rattle.wasm_validate.specs.Verdicts.{SaysOfFunc, SaysOutside}
use Rattle.wasm_validate.proofs.Faults.{fault_outside, fault_inside, typed_next, all_typed}
use Rattle.wasm_validate.proofs.validation.first_fault.Goals as goal

pub returns-in-Some : goal.returns-in-Some
returns-in-Some c = record { is = fault_outside c.args.m.now c.in-Some.place (subst (SaysOutside c.args.m.now) c.in-Some.is c.in_ok-place.ensures.is) }

pub returns-in-Some-2 : goal.returns-in-Some-2
returns-in-Some-2 c =
    let s = subst (SaysOfFunc c.args.m.now c.loop-func.func) c.in-Some-2.is c.in_ok-place-2.ensures.is in
    record { is = rw (c.counted.ensures.is, c.counted-in-Some-2.ensures.is) (fault_inside c.args.m.now c.loop-func.func c.in-Some-2.place c.loop-func.invariant.sound c.loop-func.invariant.typed s) }

pub loop-func-preserved : goal.loop-func-preserved
loop-func-preserved c =
    let s = subst (SaysOfFunc c.args.m.now c.loop-func.func) c.in_default-2.is c.in_ok-place-2.ensures.is in
    record { sound = c.loop-func.invariant.sound; typed = typed_next c.args.m.now c.loop-func.func c.loop-func.invariant.typed s }

pub returns : goal.returns
returns c =
    record {
      is = all_typed c.args.m.now c.loop-func.func c.loop-func.invariant.sound c.loop-func.invariant.typed
          (omega (arith, ap length (c.as_slice-func-end.ensures.items ∙ c.funcs.ensures.is)));
    }
