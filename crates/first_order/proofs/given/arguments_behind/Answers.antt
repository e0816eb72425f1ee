use Rattle.std.proofs.Common.{Err, length, drop, subst, arith}
use Rattle.std.proofs.lemmas.List.{length-drop, take_rest}
use Rattle.first_order.specs.Awaited.{argument_sets, call_arguments, AnswersReading}
use Rattle.first_order.proofs.ArgumentOffsets.{answer-within}
use Rattle.first_order.proofs.given.arguments_behind.Goals as goal

pub fault_behind-requires : goal.fault_behind-requires
fault_behind-requires c =
    let names = c.args.names.now in
    let Ss = argument_sets c.args.sets.now in
    let n = length c.args.sets.now in
    let bytes = c.args.bytes.now in
    let from = c.args.from in
    let exact = subst (λ bs. AnswersReading (call_arguments names Ss bs) n (Err c.in-Err.fault)) (take_rest bytes from) c.in-Err.ensures.exact in
    let w = answer-within names Ss (drop from bytes) n c.in-Err.fault exact in
    record { within = omega (arith, w, length-drop from bytes, c.requires.within) }
