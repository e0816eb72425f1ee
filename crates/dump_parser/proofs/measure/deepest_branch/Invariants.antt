use Rattle.std.proofs.Common.{◌≡◌, ◌≤◌, take}
use denote.Param.Weighed.{most}
use Rattle.dump_grammar.specs.Named.{depth}
use Rattle.dump_grammar.specs.Limits.{depth_limit}
use Rattle.dump_parser.proofs.measure.deepest_branch.Given as goal

abbrev pub invariant-loop-b : goal.invariant-loop-b
invariant-loop-b l = record {
  within : l.most ≤ depth_limit;
  same : l.most ≡ most (λ x. depth x.body) (take l.b-index l.branches);
}
