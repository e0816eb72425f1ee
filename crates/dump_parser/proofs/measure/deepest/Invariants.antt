use Rattle.std.proofs.Common.{◌≡◌, ◌≤◌, take}
use denote.Param.Weighed.{most}
use Rattle.dump_grammar.specs.Named.{depth}
use Rattle.dump_grammar.specs.Limits.{depth_limit}
use Rattle.dump_parser.proofs.measure.deepest.Given as goal

abbrev pub invariant-loop-t : goal.invariant-loop-t
invariant-loop-t l = record {
  within : l.most ≤ depth_limit;
  same : l.most ≡ most (λ x. depth x) (take l.t-index l.terms);
}
