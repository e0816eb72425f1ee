use Rattle.std.proofs.Common.{[], ◌∷◌, ◌++◌, map}
use Rattle.dump_grammar.specs.Table.{IClose, IDecls, Do, NoDecls, MakeEnv}
use Rattle.dump_parser.specs.declared.environment.HeadTree.{HeadTree}
use Rattle.dump_parser.specs.Environment.{head_values, named_constraint}
use Rattle.dump_parser.specs.Reading.{judged}
use Rattle.dump_parser.specs.Stages.{at_declaration}
use Rattle.dump_parser.proofs.Steps.{judged_do}
use Rattle.dump_parser.proofs.Chains.{goes-as}
use Rattle.dump_parser.proofs.parser.Parser.head.Goals as goal

pub returns : goal.returns
returns c = record {
  reads = goes-as c.head.result (λ h. judged c.head.new.tokens (Do NoDecls IDecls ∷ Do MakeEnv IClose ∷ []) (head_values h ++ []))
      (λ (h : HeadTree). at_declaration (record { tokens = c.head.new.tokens; leaves = c.args.self.now.leaves }) (map (λ a. a.now) h.levels.items) (map named_constraint h.constraints.items) []) _
      (λ h. judged_do c.head.new.tokens NoDecls IDecls (Do MakeEnv IClose ∷ []) (head_values h ++ []))
      (c.head.ensures.reads.goes (Do NoDecls IDecls ∷ Do MakeEnv IClose ∷ []) []);
}
