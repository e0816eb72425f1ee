use Rattle.std.proofs.Common.{arith, ◌≤◌, ◌+◌, ◌-◌, ◌++◌, length, drop, reverse, get_or, ap, ◌∙◌}
use Rattle.closure_lift.specs.FreeVariables.{notes_block}
use Rattle.closure_lift.specs.NamedLift.{bodies, constants_notes}
use Rattle.closure_lift.proofs.Backwards.{turned_step}
use Rattle.closure_lift.proofs.Converting.{no_constant}
use Rattle.closure_lift.proofs.Noting.{part_more, part_none}
use Rattle.closure_lift.proofs.convert.note_program.Goals as goal

pub loop-past-preserved : goal.loop-past-preserved
loop-past-preserved c =
    let cs = c.args.constants.now in
    let p = c.loop-past.past in
    let d = c.index-constants-constants.result in
    let k = get_or cs (length cs - 1 - p) d in
    part_more c.loop-past.notes.items (notes_block 0 k.body) (constants_notes (bodies (drop (p + 1) (reverse cs)))) c.in_ok-note_code.ensures.notes
    (ap (λ xs. constants_notes (bodies xs)) (turned_step cs p d c.loop-past-test.true)) c.loop-past.invariant

pub returns-clause-is : goal.returns-clause-is
returns-clause-is c =
    let cs = c.args.constants.now in
    let p = c.loop-past.past in
    let n : length cs ≤ p = grind arith in
    c.in_ok-note_code-2.ensures.notes ∙ ap (λ zs. zs ++ notes_block 0 c.args.main.now) (part_none (ap (λ xs. constants_notes (bodies xs)) (no_constant cs p n)) c.loop-past.invariant)
