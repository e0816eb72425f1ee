use Rattle.std.proofs.Common.{rules, arith, ◌≡◌, ◌+◌, ◌-◌, ◌<◌, ◌∷◌, length, drop, reverse, get_or, true, false, sym, ap, ◌∙◌}
use Rattle.std.proofs.lemmas.Grind.{common_steps}
use Rattle.closure_lift.specs.Lift.{Made, position, same_slot}
use Rattle.closure_lift.specs.Frames.{slot_of}
use Rattle.closure_lift.proofs.Backwards.{turned_step}
use Rattle.closure_lift.proofs.Placing.{closure_here, closure_past}
use Rattle.closure_lift.proofs.frame.Frame.closure_place.Goals as goal

pub returns-then-is_made_for : goal.returns-then-is_made_for
returns-then-is_made_for c =
    let items = c.self.inside.held.items in
    let p = c.loop-past.past in
    let h = c.index.result.now in
    let n : c.len-count.result ≡ length items = search rules in
    let lt : p < length items = grind (arith, common_steps) in
    let e : h ≡ get_or items (length items - 1 - p) h = grind (arith, common_steps) in
    let t : same_slot (Made c.args.i) (slot_of h) ≡ true = sym c.is_made_for.ensures.is ∙ c.if-is_made_for.true in
    let r = closure_here c.args.i (reverse items) p h (drop (p + 1) (reverse items)) (turned_step items p h lt ∙ ap (λ z. z ∷ drop (p + 1) (reverse items)) (sym e)) t c.loop-past.invariant in
    record { is = sym r ∙ ap (position (Made c.args.i)) c.self.view_is }

pub loop-past-preserved : goal.loop-past-preserved
loop-past-preserved c =
    let items = c.self.inside.held.items in
    let p = c.loop-past.past in
    let h = c.index.result.now in
    let n : c.len-count.result ≡ length items = search rules in
    let lt : p < length items = grind (arith, common_steps) in
    let e : h ≡ get_or items (length items - 1 - p) h = grind (arith, common_steps) in
    let f : same_slot (Made c.args.i) (slot_of h) ≡ false = sym c.is_made_for.ensures.is ∙ c.if-is_made_for.false in
    closure_past c.args.i (reverse items) p h (drop (p + 1) (reverse items)) (turned_step items p h lt ∙ ap (λ z. z ∷ drop (p + 1) (reverse items)) (sym e)) f c.loop-past.invariant
