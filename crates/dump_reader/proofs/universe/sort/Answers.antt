use Rattle.std.proofs.Common.{rules, ◌∷◌, sym, ap, ◌∙◌}
use Rattle.dump_parser.specs.Tree.{named_sort}
use Rattle.dump_reader.proofs.Universes.{some-made, sort-made}
use Rattle.dump_reader.proofs.universe.sort.Goals as goal

pub returns-in-Ok-clause-made : goal.returns-in-Ok-clause-made
returns-in-Ok-clause-made c =
    sort-made (named_sort c.args.tree.now) (c.in-Type.first ∷ c.in-Type.more.items) (c.in-Type.first ∷ c.as_slice.result.now) c.in_ok-parts-in-Type.parts.items c.as_slice-in-Type.result.now c.in-Ok.universe
    (ap named_sort c.in-Type.is) (ap (λ ps. c.in-Type.first ∷ ps) c.as_slice.ensures.value) c.as_slice-in-Type.ensures.value c.in-Ok.ensures.value c.in_ok-parts-in-Type.ensures.made

pub unreachable-requires : goal.unreachable-requires
unreachable-requires c = some-made c.in-Type.first c.as_slice.result.now c.in_ok-parts-in-Type.parts.items c.in_ok-parts-in-Type.ensures.made (sym c.as_slice-in-Type.ensures.value ∙ c.of.ensures.empty.0 (search rules))
