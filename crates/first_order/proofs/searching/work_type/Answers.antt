use Rattle.std.proofs.Common.{rules, ◌≡◌, ◌∙◌, map, length, Ok, ap, subst}
use Rattle.pc_terms.specs.Syntax.{head, args}
use Rattle.calculus_rules.specs.Environment.{with_parameters}
use Rattle.pc_rules.specs.Follows.{Follows}
use Rattle.pc_rules.specs.DirectedFirstOrder.{Found, work_type}
use Rattle.pc_rules.proofs.FairSearch.{argument_types_leave, work_type_leaves}
use Rattle.pc_rules.proofs.Following.{follows_still}
use Rattle.pc_rules.proofs.Meters.{after-refl}
use Rattle.first_order.specs.declared.shapes.Shape.{Shape}
use Rattle.first_order.specs.Searching.{places, listed, name_in, ctor_name, found_places, found_shape}
use Rattle.first_order.proofs.Searches.{passes_memory}
use Rattle.first_order.proofs.Parts.{not_a_member, types_lost_in, lists_lost_in, worked, member_is_kept, shape_is, is_named}
use Rattle.first_order.proofs.searching.work_type.Goals as goal

pub returns-in_err-head-clause-follows : goal.returns-in_err-head-clause-follows
returns-in_err-head-clause-follows g c =
    passes_memory _ (found_shape c.args.types.now.items) _ _ c.args.m.now c.args.m.now c.in_err-head.ensures.only_memory c.from_residual.ensures.1 (after-refl c.args.m.now)
    (work_type_leaves c.args.env.now 1024 c.args.types.now.items c.args.ty c.args.m.now.account)

pub returns-in_default-clause-follows : goal.returns-in_default-clause-follows
returns-in_default-clause-follows g c =
    let n = rw (c.in_ok-head.ensures.head, c.len.ensures.is, c.in_ok-head.ensures.args) at c.in_default.ensures.of in
    not_a_member c.args.env.now c.args.types.now.items c.args.ty c.args.m.now n

pub returns-in_err-arguments-clause-follows : goal.returns-in_err-arguments-clause-follows
returns-in_err-arguments-clause-follows g c =
    let n = rw (c.in_ok-head.ensures.head, c.len.ensures.is, c.in_ok-head.ensures.args) at c.in-Some.ensures.of in
    let a = rw c.in_ok-head.ensures.args at c.in_err-arguments.ensures.answers c.args.m.now.account in
    let lost = types_lost_in c.args.env.now c.args.types.now.items c.args.ty _ n.0 c.in-Some.family.now c.args.m.now n.1 listed (found_shape c.args.types.now.items) c.in_err-arguments.field-0.0
    (follows_still _ _ c.args.m.now a (argument_types_leave _ _ _ _)) in
    search rules

pub returns-in_err-ctors-clause-follows : goal.returns-in_err-ctors-clause-follows
returns-in_err-ctors-clause-follows g c =
    let n = rw (c.in_ok-head.ensures.head, c.len.ensures.is, c.in_ok-head.ensures.args) at c.in-Some.ensures.of in
    let a = rw c.in_ok-head.ensures.args at c.in_ok-arguments.ensures.answers c.args.m.now.account in
    let lost = lists_lost_in c.args.env.now c.args.types.now.items c.args.ty _ n.0 c.in-Some.family.now c.args.m.now n.1 (listed c.in_ok-arguments.arguments) (follows_still _ _ c.args.m.now a (argument_types_leave _ _ _ _))
    (found_places c.put_constructors.new.types.items) (found_shape c.put_constructors.new.types.items) c.in_err-ctors.field-0.0 c.put_constructors.new.m (rw c.as_slice.ensures.value at c.in_err-ctors.ensures.follows) in
    search rules

pub returns-clause-follows : goal.returns-clause-follows
returns-clause-follows g c =
    let n = rw (c.in_ok-head.ensures.head, c.len.ensures.is, c.in_ok-head.ensures.args) at c.in-Some.ensures.of in
    let a = rw c.in_ok-head.ensures.args at c.in_ok-arguments.ensures.answers c.args.m.now.account in
    let T = c.args.ty in
    let f = c.in-Some.field-0-0 in
    let ks = c.in_ok-ctors.ctors.items in
    let kept = member_is_kept c.args.env.now (head T) (length (args T)) f (with_parameters n.0 c.in-Some.family.now) n.1 in
    let h : Shape = record { ty = T; ctors = c.of.result } in
    let e : h ≡ record { ty = T; ctors = ks } = λ i. record { ty = T; ctors = c.of.ensures.is i } in
    subst (λ x. Follows (work_type c.args.env.now 1024 c.args.types.now.items T c.args.m.now.account) (Ok (Found (c.put_constructors.new.types.items, x))) c.args.m.now c.put_constructors.new.m) (shape_is T f ks h e kept.0)
    (worked c.args.env.now c.args.types.now.items T f n.0 c.in-Some.family.now c.args.m.now n.1 (listed c.in_ok-arguments.arguments) (follows_still _ _ c.args.m.now a (argument_types_leave _ _ _ _))
    c.put_constructors.new.types.items (map places ks) c.put_constructors.new.m (rw c.as_slice.ensures.value at c.in_ok-ctors.ensures.follows))

pub returns-clause-named : goal.returns-clause-named
returns-clause-named g c =
    let n = rw (c.in_ok-head.ensures.head, c.len.ensures.is, c.in_ok-head.ensures.args) at c.in-Some.ensures.of in
    is_named c.args.env.now c.args.ty _ n.0 c.in-Some.family.now _ n.1 (ap (map ctor_name) c.of.ensures.is ∙ c.in_ok-ctors.ensures.named ∙ ap (map name_in) c.as_slice.ensures.value ∙ c.in_ok-arguments.ensures.named)
