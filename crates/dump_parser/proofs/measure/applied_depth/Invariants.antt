use Rattle.std.proofs.Common.{◌≡◌, ◌≤◌, ◌+◌, drop}
use Rattle.dump_grammar.specs.Limits.{depth_limit}
use Rattle.dump_parser.proofs.Depths.{deepened}
use Rattle.dump_parser.proofs.measure.applied_depth.Given as goal

abbrev pub invariant-loop-t : goal.invariant-loop-t
invariant-loop-t l = record {
  within : l.deep ≤ depth_limit + 1 + l.t-index;
  same : deepened l.deep (drop l.t-index l.more) ≡ deepened l.first l.more;
}
