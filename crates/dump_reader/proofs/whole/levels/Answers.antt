use Rattle.std.proofs.Common.{rules}
use Rattle.dump_reader.specs.Made.{level_names, level_levels, level_value}
use Rattle.dump_reader.proofs.Growth.{nothing-yet}
use Rattle.dump_reader.proofs.Members.{one-level}
use Rattle.dump_reader.proofs.whole.levels.Goals as goal

pub loop-text-init : goal.loop-text-init
loop-text-init c = nothing-yet level_names level_levels level_value c.args.tables.now c.new-items.result.items (search rules)

pub loop-text-preserved : goal.loop-text-preserved
loop-text-preserved c = one-level c.args.texts.now c.loop-text.text-index _ c.loop-text.items.items c.push.new.self.items c.in_ok-level.level c.loop-text-test.true (search rules) c.loop-text.invariant c.in_ok-level.ensures.made
