use Rattle.std.proofs.Common.{refl, sym, ◌∙◌}
use Rattle.std.proofs.lemmas.Option.{slice_get_read}
use Rattle.first_order.proofs.Working.{member_found}
use Rattle.first_order.proofs.searching.member_of.Goals as goal

pub returns : goal.returns
returns c =
    let e = rw c.in-Ind.is at c.view.ensures.is in
    let at = rw c.as_slice.ensures.is at c.in-Some-get.ensures.lookup in
    let there = slice_get_read c.in-Some.block.now.families _ c.in-Ind.id.family c.in-Some-get.family.now refl at.3.0 at.1 in
    let whole = c.is_whole-whole.ensures.is in
    record { of = (c.in-Some.block.now.params, member_found c.args.env.now c.args.head.now c.args.count c.in-Ind.id c.in-Some.block.now c.in-Some-get.family.now e c.in-Some.ensures.whole there (sym whole ∙ c.if-not-whole.false)) }
