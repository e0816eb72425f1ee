use Rattle.std.proofs.Common.{rules, ◌≡◌, ◌∙◌, ◌∷◌, [], ◌++◌, ◌<◌, ◌≤◌, ◌+◌, map, drop, length, get_or, arith, refl, ap}
use Rattle.std.proofs.lemmas.List.{map-append}
use Rattle.pc_rules.specs.DirectedFirstOrder.{put_constructors}
use Rattle.pc_rules.proofs.FairSearch.{put_constructors_leave}
use Rattle.pc_rules.proofs.ListSteps.{next_is, none_left}
use Rattle.pc_rules.proofs.Meters.{after-refl, after-trans}
use Rattle.first_order.specs.Searching.{types_in, name_in, ctor_name, places, found_at, found_places}
use Rattle.first_order.proofs.Searches.{collect_start, collect_memory}
use Rattle.first_order.proofs.Working.{results, lists_next, lists_lost, lists_end, mapped_next, mapped_end}
use Rattle.first_order.proofs.searching.put_constructors.Goals as goal

pub loop-ctor-init : goal.loop-ctor-init
loop-ctor-init g c = record {
  leads = rw c.new-out.ensures.items (collect_start (put_constructors c.args.env.now 1024 c.args.types.now.items (map types_in c.args.ctors.now) c.args.m.now.account));
  after = after-refl c.args.m.now;
  few = c.requires.few;
  named = ap (map ctor_name) c.new-out.ensures.items;
}

pub returns-in_err-args-clause-follows : goal.returns-in_err-args-clause-follows
returns-in_err-args-clause-follows g c =
    let As = c.args.ctors.now in
    let i = c.loop-ctor.ctor-index in
    let A = c.ctor-item.result in
    let lt : i < length As = grind arith in
    let is : A ≡ get_or As i A = cc in
    let before = c.loop-ctor.invariant in
    let lost = lists_lost c.args.env.now _ (map types_in (drop i As)) c.loop-ctor.types.items (map places c.loop-ctor.out.items) c.loop-ctor.m.account before.leads A.types (map types_in (drop (i + 1) As))
    (ap (map types_in) (next_is As i A lt is)) (found_at c.put_arguments.new.types.items) (found_places c.put_arguments.new.types.items)
    c.in_err-args.field-0.0 c.args.m.now c.loop-ctor.m c.put_arguments.new.m before.after c.in_err-args.ensures.follows in
    search rules

pub returns-in_err-put-clause-follows : goal.returns-in_err-put-clause-follows
returns-in_err-put-clause-follows g c =
    let As = c.args.ctors.now in
    let i = c.loop-ctor.ctor-index in
    let A = c.ctor-item.result in
    let lt : i < length As = grind arith in
    let is : A ≡ get_or As i A = cc in
    let before = c.loop-ctor.invariant in
    let f = c.in_ok-args.ensures.follows in
    let out = c.loop-ctor.out.items in
    let rest = map types_in (drop (i + 1) As) in
    let Us = c.put_arguments.new.types.items in
    let jss = map places out ++ (c.in_ok-args.args ∷ []) in
    let leads = lists_next c.args.env.now _ (map types_in (drop i As)) c.loop-ctor.types.items (map places out) c.loop-ctor.m.account before.leads A.types rest
    (ap (map types_in) (next_is As i A lt is)) Us c.in_ok-args.args c.put_arguments.new.m.account f.answer jss refl in
    collect_memory _ (put_constructors c.args.env.now 1024 Us rest c.put_arguments.new.m.account) (results jss) (found_places Us) _ _ c.args.m.now c.put_arguments.new.m
    c.in_err-put.ensures.only_memory c.from_residual-in_err-put.ensures.1 leads (after-trans c.args.m.now c.loop-ctor.m c.put_arguments.new.m before.after f.after)
    (put_constructors_leave c.args.env.now 1024 Us rest c.put_arguments.new.m.account)

pub loop-ctor-preserved : goal.loop-ctor-preserved
loop-ctor-preserved g c =
    let As = c.args.ctors.now in
    let i = c.loop-ctor.ctor-index in
    let A = c.ctor-item.result in
    let lt : i < length As = grind arith in
    let is : A ≡ get_or As i A = cc in
    let before = c.loop-ctor.invariant in
    let f = c.in_ok-args.ensures.follows in
    let out = c.loop-ctor.out.items in
    record {
      leads = lists_next c.args.env.now _ (map types_in (drop i As)) c.loop-ctor.types.items (map places out) c.loop-ctor.m.account before.leads A.types (map types_in (drop (i + 1) As))
          (ap (map types_in) (next_is As i A lt is)) c.put_arguments.new.types.items c.in_ok-args.args c.put_arguments.new.m.account f.answer (map places c.put.new.items.items)
          (ap (map places) c.in_ok-put.ensures.ok ∙ map-append places out (_ ∷ []));
      after = after-trans c.args.m.now c.loop-ctor.m c.put_arguments.new.m before.after f.after;
      few = c.in_ok-args.ensures.few;
      named = mapped_next ctor_name name_in out c.put.new.items.items As i _ A before.named c.in_ok-put.ensures.ok lt is refl;
    }

pub returns-clause-follows : goal.returns-clause-follows
returns-clause-follows g c =
    let As = c.args.ctors.now in
    let ge : length As ≤ c.loop-ctor.ctor-index = grind arith in
    lists_end c.args.env.now _ (map types_in (drop c.loop-ctor.ctor-index As)) c.loop-ctor.types.items (map places c.loop-ctor.out.items) c.loop-ctor.m.account c.loop-ctor.invariant.leads
    (ap (map types_in) (none_left As c.loop-ctor.ctor-index ge)) c.args.m.now c.loop-ctor.m refl c.loop-ctor.invariant.after

pub returns-clause-named : goal.returns-clause-named
returns-clause-named g c =
    let ge : length c.args.ctors.now ≤ c.loop-ctor.ctor-index = grind arith in
    mapped_end ctor_name name_in c.loop-ctor.out.items c.args.ctors.now c.loop-ctor.ctor-index c.loop-ctor.invariant.named ge
