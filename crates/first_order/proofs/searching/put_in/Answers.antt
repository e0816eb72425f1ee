use Rattle.std.proofs.Common.{ap, ◌∙◌}
use Rattle.std.proofs.lemmas.Result.{err_from_is_err_and}
use Rattle.pc_rules.specs.DirectedFirstOrder.{place_in}
use Rattle.first_order.specs.Searching.{found_at}
use Rattle.first_order.proofs.Parts.{put_in_stops, put_in_there, put_in_new}
use Rattle.first_order.proofs.searching.put_in.Goals as goal

pub returns-in_err-whnf-clause-follows : goal.returns-in_err-whnf-clause-follows
returns-in_err-whnf-clause-follows g c =
    let f = rw c.new-ctx.ensures.empty at c.in_err-whnf.ensures.follows in
    let p = err_from_is_err_and c.from_residual.result c.from_residual.ensures.1 in
    rw (p.1, p.2) (put_in_stops c.args.env.now c.args.types.now.items c.args.ty.now (found_at c.args.types.now.items) c.in_err-whnf.field-0.0 c.args.m.now c.whnf.new.m f)

pub returns-in-Some-clause-follows : goal.returns-in-Some-clause-follows
returns-in-Some-clause-follows g c =
    let f = rw c.new-ctx.ensures.empty at c.in_ok-whnf.ensures.follows in
    let at = rw c.in-Some.is at c.place_in.ensures.is in
    put_in_there c.args.env.now c.args.types.now.items c.args.ty.now c.in_ok-whnf.whnf c.in-Some.place c.args.m.now c.whnf.new.m f (at ∙ ap (place_in c.in_ok-whnf.whnf) c.as_slice.ensures.value)

pub returns-clause-follows : goal.returns-clause-follows
returns-clause-follows g c =
    let f = rw c.new-ctx.ensures.empty at c.in_ok-whnf.ensures.follows in
    let at = rw c.in_default.is at c.place_in.ensures.is in
    put_in_new c.args.env.now c.args.types.now.items c.args.ty.now c.in_ok-whnf.whnf _ c.args.m.now c.whnf.new.m c.put_behind.new.m f (at ∙ ap (place_in c.in_ok-whnf.whnf) c.as_slice.ensures.value) c.put_behind.ensures.follows
