use Rattle.std.proofs.Common.{◌≡◌, ◌∙◌, sym, ap, map, subst as along}
use Rattle.pc_terms.specs.Syntax.{apply, head, args, substitute}
use Rattle.reduce_machine.specs.Layers.{IsOpenIn}
use Rattle.reduce_machine.specs.Reads.{stands, read}
use Rattle.reduce_machine.proofs.ValueParts.{spine_read, spine_open}
use Rattle.reduce_machine.proofs.quick.spine_value.Goals as goal

pub applied-requires : goal.applied-requires
applied-requires c = spine_open c.args.l.now _ c.in_ok-term.ensures.head c.in_ok-env.ensures.ok c.requires

pub returns-clause-term : goal.returns-clause-term
returns-clause-term c =
    c.applied.ensures.term ∙ spine_read c.args.l.now _ c.spine_into.new.out.items c.new-args.result.items c.in_ok-term.ensures.head c.in_ok-env.ensures.ok c.in_ok-term.ensures.args c.new-args.ensures.items
