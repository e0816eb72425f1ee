use Rattle.std.proofs.Common.{arith, ◌≡◌, ◌≤◌, length, take, map, reverse, ap, ◌∙◌}
use Rattle.closure_lift.specs.Lift.{atom}
use Rattle.std.proofs.lemmas.List.{take_all}
use Rattle.box_terms.proofs.Items.{reverse_map}
use Rattle.closure_lift.proofs.atoms.lift_atoms.Goals as goal

pub returns-clause-is : goal.returns-clause-is
returns-clause-is c =
    let f = atom c.args.variables.now.0 c.args.frame.now in
    let xs = c.as_slice-a-items.result.now in
    let n : length xs ≤ c.loop-a.a-index = grind arith in
    let t : take c.loop-a.a-index xs ≡ xs = take_all c.loop-a.a-index xs n in
    c.of.ensures.is ∙ ap reverse (c.loop-a.invariant ∙ ap (map f) t) ∙ reverse_map f xs ∙ ap (map f) c.as_slice-a-items.ensures.is
