use Rattle.std.proofs.Common.{◌≡◌, ◌∙◌, ◌<◌, ◌≤◌, true, false, length, sym, arith}
use Rattle.first_order.proofs.Working.{place_next, place_here, place_nowhere}
use Rattle.first_order.proofs.searching.place_in.Goals as goal

pub returns-then-is_same : goal.returns-then-is_same
returns-then-is_same c =
    let lt : c.loop-i.i < length c.args.types.now = grind arith in
    record { is = sym (place_here c.args.ty.now c.args.types.now c.loop-i.i c.loop-i.invariant c.index-types-i.result lt c.index-types-i.is (c.is_same.ensures.is.0 c.if-is_same.true)) }

pub loop-i-preserved : goal.loop-i-preserved
loop-i-preserved c =
    let lt : c.loop-i.i < length c.args.types.now = grind arith in
    place_next c.args.ty.now c.args.types.now c.loop-i.i c.loop-i.invariant c.index-types-i.result lt c.index-types-i.is
    (λ e. let t : false ≡ true = sym c.if-is_same.false ∙ c.is_same.ensures.is.1 e in absurd cc)

pub returns : goal.returns
returns c =
    let ge : length c.args.types.now ≤ c.loop-i.i = grind arith in
    record { is = sym (place_nowhere c.args.ty.now c.args.types.now c.loop-i.i c.loop-i.invariant ge) }
