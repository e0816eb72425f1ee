use Rattle.std.proofs.Common.{length, subst}
use Rattle.first_order.specs.Awaited.{argument_sets, arguments_from, AnswersReading}
use Rattle.first_order.proofs.ArgumentAnswers.{answer-offset, answer-spelled, answer-complete}
use Rattle.first_order.proofs.given.read_args.Goals as goal

pub returns : goal.returns
returns c =
    let names = c.args.names.now in
    let bytes = c.args.bytes.now in
    let from = c.args.from in
    let sets = c.args.sig.now.args in
    let exact = subst (λ ss. AnswersReading (arguments_from names (argument_sets ss) bytes from) (length ss) c.arguments_behind.result) c.as_slice.ensures.is c.arguments_behind.ensures.exact in
    record {
      exact = exact;
      spells = answer-spelled names sets bytes from c.arguments_behind.result exact;
      complete = answer-complete names sets bytes from c.arguments_behind.result exact;
      behind = answer-offset names sets bytes from c.arguments_behind.result c.requires.within exact;
    }
