use Rattle.std.proofs.Common.{◌∷◌, [], ap}
use Rattle.sexp_reader.specs.Stream.{text_of_kind}
use Rattle.first_order.specs.declared.given.Next.TheVariants.{Name}
use Rattle.first_order.specs.Awaited.{AwaitsItem, taking}
use Rattle.first_order.proofs.ArgumentNodes.{popped}
use Rattle.first_order.proofs.given.take_item.Goals as goal

pub returns-in_ok-put-in-Open-clause-is : goal.returns-in_ok-put-in-Open-clause-is
returns-in_ok-put-in-Open-clause-is c = (
  Name c.args.place ∷ [],
  ap (λ k. taking c.args.names.now (AwaitsItem c.args.turn c.args.shapes.now.types c.args.place) (text_of_kind k c.args.text.now)) c.in-Open.is,
  popped c.put.new.items.items c.args.waiting.now.items (Name c.args.place) c.in_ok-put-in-Open.ensures.ok,
)
