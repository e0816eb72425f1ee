use Rattle.std.proofs.Common.{rules}
use Rattle.dump_reader.proofs.Verdicts.{spelled, first, syntax, unsupported, limit, complete}
use Rattle.dump_reader.proofs.reading.read_env.Goals as goal

pub returns : goal.returns
returns c = record {
  exact = c.read.ensures.exact;
  spells = spelled c.args.bytes.now c.read.result c.read.ensures.exact;
  first = first c.args.bytes.now c.read.result c.read.ensures.exact;
  syntax = syntax c.args.bytes.now c.read.result c.read.ensures.exact;
  unsupported = unsupported c.args.bytes.now c.read.result c.read.ensures.exact;
  limit = limit c.args.bytes.now c.read.result c.read.ensures.exact;
  complete = complete c.args.bytes.now c.read.result c.read.ensures.exact;
}
