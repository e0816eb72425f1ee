use Rattle.std.proofs.Common.{rules, arith, ◌≡◌, [], length}
use Rattle.std.proofs.lemmas.List.{nil_from_length}
use Rattle.reduce_machine.proofs.Nesting.{outer_open}
use Rattle.lazy_conversion.proofs.ValueKinds.{with_arguments, lone_head, other_spine}
use Rattle.lazy_conversion.proofs.shapes.shape_of.Goals as goal

pub returns-then-not-is_empty : goal.returns-then-not-is_empty
returns-then-not-is_empty c = record { is = with_arguments c.args.x (λ e. search (rules, e)) }

pub head_shape-requires : goal.head_shape-requires
head_shape-requires c = outer_open c.args.x.below.now c.args.x.spine.now _ c.in-Open.is c.requires

pub returns-in-Open : goal.returns-in-Open
returns-in-Open c =
    let n : length c.args.x.spine.now.args.items ≡ 0 = grind arith in
    let e : c.args.x.spine.now.args.items ≡ [] = nil_from_length c.args.x.spine.now.args.items n in
    record { is = rw (lone_head c.args.x _ e c.in-Open.is) c.head_shape.ensures.is }

pub returns-in_default : goal.returns-in_default
returns-in_default c = record { is = other_spine c.args.x c.requires c.in_default.not-Open }
