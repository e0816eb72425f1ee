use Rattle.std.proofs.Common.{refl, sym, reverse, rules}
use Rattle.known_calls.specs.KnownPlaces.{Never}
use Rattle.known_calls.proofs.KnownMarking.{also_none, atoms_more}
use Rattle.known_calls.proofs.marks.note_atoms.Goals as goal

pub loop-a-init : goal.loop-a-init
loop-a-init c = sym (also_none (λ i. Never) (reverse c.args.notes.now.items) (λ i. refl))

pub loop-a-preserved : goal.loop-a-preserved
loop-a-preserved c =
    atoms_more c.as_slice-a-items.result.now c.loop-a.a-index (reverse c.args.notes.now.items) (reverse c.loop-a.notes.items) (reverse c.note_atom.new.notes.items) c.loop-a-test.true (search rules) c.loop-a.invariant c.note_atom.ensures.noted
