use Rattle.std.proofs.Common.{rules}
use Rattle.known_types.proofs.Worlds.{longer_from}
use Rattle.known_types.proofs.site.longer.Goals as goal

pub keep_below-requires : goal.keep_below-requires
keep_below-requires c = record {
  longer = longer_from c.args.from.now.value c.in_ok-world.world.value c.args.env.now c.args.ctx.now c.args.under.now c.saturating_sub-count.result c.requires.longer (search rules)
      c.requires.from c.in_ok-world.ensures.of;
}
