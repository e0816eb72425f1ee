use Rattle.std.proofs.Common.{rules, ◌≡◌, ◌<◌, ◌≤◌, ◌+◌, ◌∷◌, [], ◌++◌, length, drop, get_or, arith, refl}
use Rattle.pc_rules.specs.DirectedFirstOrder.{put_arguments}
use Rattle.pc_rules.proofs.FairSearch.{put_arguments_leave}
use Rattle.pc_rules.proofs.Meters.{after-refl, after-trans}
use Rattle.first_order.specs.Searching.{found_at}
use Rattle.first_order.proofs.Searches.{collect_start, collect_memory}
use Rattle.first_order.proofs.Working.{results, arguments_next, arguments_lost, arguments_end}
use Rattle.first_order.proofs.searching.put_arguments.Goals as goal

pub loop-ty-init : goal.loop-ty-init
loop-ty-init g c = record {
  leads = rw c.new-places.ensures.items (collect_start (put_arguments c.args.env.now 1024 c.args.types.now.items c.args.args.now c.args.m.now.account));
  after = after-refl c.args.m.now;
  few = c.requires.few;
}

pub returns-in_err-place-clause-follows : goal.returns-in_err-place-clause-follows
returns-in_err-place-clause-follows g c =
    let As = c.args.args.now in
    let i = c.loop-ty.ty-index in
    let A = c.ty-item.result in
    let lt : i < length As = grind arith in
    let is : A ≡ get_or As i A = cc in
    let before = c.loop-ty.invariant in
    let lost = arguments_lost c.args.env.now _ As i c.loop-ty.types.items c.loop-ty.places.items c.loop-ty.m.account before.leads A lt is (found_at c.put_in.new.types.items) (found_at c.put_in.new.types.items)
    c.in_err-place.field-0.0 c.args.m.now c.loop-ty.m c.put_in.new.m before.after c.in_err-place.ensures.follows in
    search rules

pub returns-in_err-put-clause-follows : goal.returns-in_err-put-clause-follows
returns-in_err-put-clause-follows g c =
    let As = c.args.args.now in
    let i = c.loop-ty.ty-index in
    let A = c.ty-item.result in
    let lt : i < length As = grind arith in
    let is : A ≡ get_or As i A = cc in
    let before = c.loop-ty.invariant in
    let f = c.in_ok-place.ensures.follows in
    let js = c.loop-ty.places.items ++ (c.in_ok-place.place ∷ []) in
    let leads = arguments_next c.args.env.now _ As i c.loop-ty.types.items c.loop-ty.places.items c.loop-ty.m.account before.leads A lt is c.put_in.new.types.items c.in_ok-place.place
    c.put_in.new.m.account f.answer js refl in
    collect_memory _ (put_arguments c.args.env.now 1024 c.put_in.new.types.items (drop (i + 1) As) c.put_in.new.m.account) (results js) (found_at c.put_in.new.types.items) _ _ c.args.m.now c.put_in.new.m
    c.in_err-put.ensures.only_memory c.from_residual-in_err-put.ensures.1 leads (after-trans c.args.m.now c.loop-ty.m c.put_in.new.m before.after f.after)
    (put_arguments_leave c.args.env.now 1024 c.put_in.new.types.items (drop (i + 1) As) c.put_in.new.m.account)

pub loop-ty-preserved : goal.loop-ty-preserved
loop-ty-preserved g c =
    let As = c.args.args.now in
    let i = c.loop-ty.ty-index in
    let A = c.ty-item.result in
    let lt : i < length As = grind arith in
    let is : A ≡ get_or As i A = cc in
    let before = c.loop-ty.invariant in
    let f = c.in_ok-place.ensures.follows in
    record {
      leads = arguments_next c.args.env.now _ As i c.loop-ty.types.items c.loop-ty.places.items c.loop-ty.m.account before.leads A lt is c.put_in.new.types.items c.in_ok-place.place
          c.put_in.new.m.account f.answer c.put.new.items.items c.in_ok-put.ensures.ok;
      after = after-trans c.args.m.now c.loop-ty.m c.put_in.new.m before.after f.after;
      few = c.in_ok-place.ensures.few;
    }

pub returns-clause-follows : goal.returns-clause-follows
returns-clause-follows g c =
    let As = c.args.args.now in
    let ge : length As ≤ c.loop-ty.ty-index = grind arith in
    rw c.of.ensures.is (arguments_end c.args.env.now _ As c.loop-ty.ty-index c.loop-ty.types.items c.loop-ty.places.items c.loop-ty.m.account c.loop-ty.invariant.leads ge c.args.m.now c.loop-ty.m refl
    c.loop-ty.invariant.after)
