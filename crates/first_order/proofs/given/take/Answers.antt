use Rattle.std.proofs.Common.{◌∙◌, [], refl, sym, ap, subst}
use Rattle.sexp_reader.specs.Stream.{text_of_kind}
use Rattle.first_order.specs.Awaited.{taking}
use Rattle.first_order.specs.Nexts.{awaited, IsUnfit}
use Rattle.first_order.proofs.given.take.Goals as goal

pub returns-in-Ok-clause-is : goal.returns-in-Ok-clause-is
returns-in-Ok-clause-is c = (
  [],
  ap (λ x. taking c.args.names.now (awaited c.args.shapes.now.types x) (text_of_kind c.args.kind c.args.text.now)) c.in-Close.is ∙ c.in-Ok.ensures.is c.args.names.now c.args.text.now,
  refl,
)

pub returns-in-Err-clause-is : goal.returns-in-Err-clause-is
returns-in-Err-clause-is c =
    subst (λ x. IsUnfit (taking c.args.names.now (awaited c.args.shapes.now.types x) (text_of_kind c.args.kind c.args.text.now)) c.in-Err.unfit) (sym c.in-Close.is) (c.in-Err.ensures.is c.args.names.now c.args.text.now)
