use Rattle.std.proofs.Common.{◌≡◌, ◌≤◌, max, take}
use denote.Param.Weighed.{most}
use Rattle.dump_grammar.specs.Named.{depth}
use Rattle.dump_grammar.specs.Limits.{depth_limit}
use Rattle.dump_parser.proofs.measure.deepest_def.Given as goal

abbrev pub invariant-loop-d : goal.invariant-loop-d
invariant-loop-d l = record {
  within : l.most ≤ depth_limit;
  same : l.most ≡ most (λ x. max (depth x.ty) (depth x.body)) (take l.d-index l.defs);
}
