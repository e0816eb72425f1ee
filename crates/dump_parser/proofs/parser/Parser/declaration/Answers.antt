use Rattle.std.proofs.Common.{[], ◌∷◌}
use Rattle.dump_grammar.specs.Table.{IClose, Do, MakeEnv, VNames, VConstraints}
use Rattle.dump_parser.proofs.Chains.{goes-as}
use Rattle.dump_parser.proofs.Declarations.{next_same, some_declarations}
use Rattle.dump_parser.proofs.parser.Parser.declaration.Goals as goal

pub returns : goal.returns
returns c =
    let some = some_declarations c.args.before in
    record {
      reads = λ ls cs ds h.
          goes-as c.declaration.result _ _ _ (next_same (record { tokens = c.declaration.new.tokens; leaves = c.declaration.new.leaves }) ls cs ds)
          ((c.declaration.ensures.leads ds h).goes (Do MakeEnv IClose ∷ []) (VConstraints cs ∷ VNames ls ∷ []));
      shorter = (c.declaration.ensures.leads some.0 some.1).shorter;
    }
