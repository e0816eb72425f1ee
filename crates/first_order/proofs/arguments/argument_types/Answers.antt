use Rattle.std.proofs.Common.{◌≡◌, ◌∙◌, ◌∷◌, [], ◌<◌, ◌≤◌, map, length, get_or, refl, ap, arith}
use Rattle.std.proofs.lemmas.List.{map-append}
use Rattle.std.proofs.lemmas.Result.{err_from_is_err_and}
use Rattle.pc_rules.specs.DirectedFirstOrder.{argument_types}
use Rattle.pc_rules.proofs.Following.{follows_still}
use Rattle.pc_rules.proofs.Meters.{after-refl}
use Rattle.first_order.specs.Searching.{as_is, listed, types_in, name_in, constructor_name}
use Rattle.first_order.proofs.Searches.{collect_start}
use Rattle.first_order.proofs.Working.{meter_at, one_leaves, types_next, types_lost, types_end, mapped_next, mapped_end}
use Rattle.first_order.proofs.arguments.argument_types.Goals as goal

pub loop-ctor-init : goal.loop-ctor-init
loop-ctor-init c = record {
  leads = λ u. rw c.new-out.ensures.items (collect_start (argument_types c.args.ty.now c.args.params.now c.args.ctors.now u));
  named = ap (map name_in) c.new-out.ensures.items;
}

pub returns-in_err-types-clause-answers : goal.returns-in_err-types-clause-answers
returns-in_err-types-clause-answers c =
    let Cs = c.args.ctors.now in
    let i = c.loop-ctor.ctor-index in
    let C = c.ctor-item.result in
    let lt : i < length Cs = grind arith in
    let is : C ≡ get_or Cs i C = cc in
    let p = err_from_is_err_and c.from_residual.result c.from_residual.ensures.1 in
    λ u. rw (p.1, p.2) (types_lost c.args.ty.now c.args.params.now _ Cs i (map types_in c.loop-ctor.out.items) u (c.loop-ctor.invariant.leads u) C lt is as_is listed c.in_err-types.field-0.0
    (meter_at u) (meter_at u) (meter_at u) (after-refl (meter_at u)) (follows_still _ _ (meter_at u) (c.in_err-types.ensures.answers u) (one_leaves c.args.ty.now c.args.params.now C u))).answer

pub loop-ctor-preserved : goal.loop-ctor-preserved
loop-ctor-preserved c =
    let Cs = c.args.ctors.now in
    let i = c.loop-ctor.ctor-index in
    let C = c.ctor-item.result in
    let lt : i < length Cs = grind arith in
    let is : C ≡ get_or Cs i C = cc in
    let out = c.loop-ctor.out.items in
    let more = ap (map types_in) c.in_ok-put.ensures.ok ∙ map-append types_in out (_ ∷ []) in
    record {
      leads = λ u. types_next c.args.ty.now c.args.params.now _ Cs i (map types_in out) u (c.loop-ctor.invariant.leads u) C lt is c.in_ok-types.types u (c.in_ok-types.ensures.answers u)
          (map types_in c.put.new.items.items) more;
      named = mapped_next name_in constructor_name out c.put.new.items.items Cs i _ C c.loop-ctor.invariant.named c.in_ok-put.ensures.ok lt is refl;
    }

pub returns-clause-answers : goal.returns-clause-answers
returns-clause-answers c =
    let Cs = c.args.ctors.now in
    let ge : length Cs ≤ c.loop-ctor.ctor-index = grind arith in
    λ u. (types_end c.args.ty.now c.args.params.now _ Cs c.loop-ctor.ctor-index (map types_in c.loop-ctor.out.items) u (c.loop-ctor.invariant.leads u) ge (meter_at u) (meter_at u) refl (after-refl (meter_at u))).answer

pub returns-clause-named : goal.returns-clause-named
returns-clause-named c =
    let ge : length c.args.ctors.now ≤ c.loop-ctor.ctor-index = grind arith in
    mapped_end name_in constructor_name c.loop-ctor.out.items c.args.ctors.now c.loop-ctor.ctor-index c.loop-ctor.invariant.named ge
