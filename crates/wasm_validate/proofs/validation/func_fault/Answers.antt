use Rattle.std.proofs.Common.{◌∙◌, ◌<◌, length, arith}
use Rattle.wasm_validate.specs.Verdicts.{SaysOfBody, SaysOfFunc}
use Rattle.wasm_validate.proofs.Faults.{if_ok, type_there, body_there, body_closed, says}
use Rattle.wasm_validate.proofs.validation.func_fault.Goals as goal

pub bounds-as_slice-index : goal.bounds-as_slice-index
bounds-as_slice-index c =
    type_there c.args.m.now c.as_slice.result.now c.as_slice-2.result.now c.args.func c.requires.sound (c.as_slice.ensures.items ∙ c.funcs.ensures.is) (c.as_slice-2.ensures.items ∙ c.types.ensures.is) c.requires.within

pub bounds-as_slice-func-2 : goal.bounds-as_slice-func-2
bounds-as_slice-func-2 c =
    body_there c.args.m.now c.as_slice-3.result.now c.args.func c.requires.sound (c.as_slice-3.ensures.items ∙ c.bodies.ensures.is) c.requires.within

pub offset_bounds-as_slice-func-2 : goal.offset_bounds-as_slice-func-2
offset_bounds-as_slice-func-2 c =
    let lt : c.args.func < length c.as_slice-3.result.now = body_there c.args.m.now c.as_slice-3.result.now c.args.func c.requires.sound (c.as_slice-3.ensures.items ∙ c.bodies.ensures.is) c.requires.within in
    omega (arith, c.as_slice-3.type_inv)

pub body_fault-requires : goal.body_fault-requires
body_fault-requires c =
    let lt : c.args.func < length c.as_slice-3.result.now = body_there c.args.m.now c.as_slice-3.result.now c.args.func c.requires.sound (c.as_slice-3.ensures.items ∙ c.bodies.ensures.is) c.requires.within in
    record { closed = body_closed c.args.m.now c.as_slice-3.result.now c.args.func c.index-as_slice-func.result c.spelled.ensures.holds (c.as_slice-3.ensures.items ∙ c.bodies.ensures.is) lt c.index-as_slice-func.is }

pub returns : goal.returns
returns c =
    record {
      is = if_ok (SaysOfBody c.args.m.now c.index-as_slice-index.result c.index-as_slice-func.result) (SaysOfFunc c.args.m.now c.args.func) c.body_fault.result
          (λ o s. says c.args.m.now c.as_slice.result.now c.as_slice-2.result.now c.as_slice-3.result.now c.args.func c.index-as_slice-index.result c.index-as_slice-func.result o c.requires.sound (c.as_slice.ensures.items ∙ c.funcs.ensures.is)
          (c.as_slice-2.ensures.items ∙ c.types.ensures.is) (c.as_slice-3.ensures.items ∙ c.bodies.ensures.is) c.requires.within c.index-as_slice-index.is c.index-as_slice-func.is s)
          c.body_fault.ensures.is;
    }
