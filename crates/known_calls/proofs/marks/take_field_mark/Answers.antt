use Rattle.std.proofs.Common.{◌∙◌, ap, sym, subst, drop, length, reverse, List, Bool, arith}
use Rattle.known_calls.specs.KnownMarks.{Begins}
use Rattle.known_calls.proofs.KnownMarking.{field_taken, field_passed}
use Rattle.known_calls.proofs.marks.take_field_mark.Goals as goal

pub returns-then-b-eq1 : goal.returns-then-b-eq1
returns-then-b-eq1 c =
    let b = c.args.b.now in
    let all = reverse c.args.marks.now.items in
    let r = field_taken b.binders b.body all (reverse c.take_mark.new.marks.items) c.if-b-eq1.true c.requires.marked c.take_mark.ensures.left in
    record { is = c.take_mark.ensures.is ∙ r.0; marked = r.1; left = r.2 }

pub returns-else-b-eq1 : goal.returns-else-b-eq1
returns-else-b-eq1 c =
    let b = c.args.b.now in
    let all = reverse c.args.marks.now.items in
    let r = field_passed b.binders b.body (λ e. omega (arith, e, c.if-b-eq1.false)) in
    record { is = r.0; marked = subst (λ ms. Begins ms all) r.1 c.requires.marked; left = ap (λ (ms : List Bool). drop (length ms) all) (sym r.1) }
