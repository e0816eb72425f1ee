use Rattle.std.proofs.Common.{◌≡◌, ◌∙◌, ◌<◌, ◌∷◌, [], ◌++◌, suc, length, refl, sym, ap, subst, arith, length-append}
use Rattle.std.proofs.lemmas.List.{map-append}
use Rattle.std.proofs.lemmas.List.Elements.{All-nil, All-cons, All-append}
use Rattle.std.proofs.lemmas.Option.{slice_get_within}
use Rattle.std.proofs.lemmas.Result.{err_from_is_err_and}
use Rattle.pc_rules.specs.DirectedFirstOrder.{put_in, first_order_search}
use Rattle.pc_rules.proofs.Meters.{after-trans}
use Rattle.first_order.specs.declared.shapes.Shapes.{Shapes}
use Rattle.first_order.specs.Searching.{found_at, found_shape, member, members, IsNamed, AreNamed}
use Rattle.first_order.proofs.Searches.{follows_lost, collect_memory}
use Rattle.first_order.proofs.Working.{working, appended, working_leaves, search_starts, work_next, work_lost, work_end}
use Rattle.first_order.proofs.Parts.{set_found}
use Rattle.first_order.proofs.searching.first_order.Goals as goal

pub returns-in_err-put_in-clause-follows : goal.returns-in_err-put_in-clause-follows
returns-in_err-put_in-clause-follows g c =
    let f = rw c.new-types.ensures.items at c.in_err-put_in.ensures.follows in
    let p = err_from_is_err_and c.from_residual.result c.from_residual.ensures.1 in
    rw (p.1, p.2) (follows_lost (put_in c.args.env.now 1024 [] c.args.ty.now c.args.m.now.account) (λ p v. working c.args.env.now p.0 0 v) (found_at c.put_in.new.types.items) (λ (s : Shapes). members s.types)
    c.in_err-put_in.field-0.0 c.args.m.now c.put_in.new.m f (λ p v. working_leaves c.args.env.now p.0 0 v))

pub types-init : goal.types-init
types-init g c =
    let f = rw c.new-types.ensures.items at c.in_ok-put_in.ensures.follows in
    record {
      leads = rw c.new-shapes.ensures.items (search_starts c.args.env.now c.args.ty.now c.args.m.now.account c.put_in.new.m.account c.put_in.new.types.items c.in_ok-put_in.field-0 f.answer);
      after = f.after;
      few = c.in_ok-put_in.ensures.few;
      named = rw c.new-shapes.ensures.items (All-nil (IsNamed c.args.env.now));
    }

pub returns-in_err-shape-clause-follows : goal.returns-in_err-shape-clause-follows
returns-in_err-shape-clause-follows g c =
    let before = c.types.invariant in
    let l : c.len.result ≡ length c.types.shapes.items = omega arith in
    let at = rw (c.in-Some.is, c.as_slice.ensures.value, l) at c.in_ok-next.ensures.ok in
    let within = slice_get_within c.types.types.items (length c.types.shapes.items) c.in-Some.next (sym at) in
    let lt : length c.types.shapes.items < 1024 = omega (arith, within, before.few) in
    let p = err_from_is_err_and c.from_residual-in_err-shape.result c.from_residual-in_err-shape.ensures.1 in
    rw (p.1, p.2) (work_lost c.args.env.now _ c.types.types.items (members c.types.shapes.items) (length c.types.shapes.items) c.types.m.account before.leads c.in-Some.next (sym at) lt
    (found_shape c.work_type.new.types.items) (λ (s : Shapes). members s.types) c.in_err-shape.field-0.0 c.args.m.now c.types.m c.work_type.new.m before.after c.in_err-shape.ensures.follows)

pub returns-in_err-next-clause-follows : goal.returns-in_err-next-clause-follows
returns-in_err-next-clause-follows g c =
    let before = c.types.invariant in
    collect_memory _ (working c.args.env.now c.types.types.items (length c.types.shapes.items) c.types.m.account) (appended (members c.types.shapes.items)) (λ (s : Shapes). members s.types) _ _
    c.args.m.now c.types.m c.in_err-next.ensures.only_memory c.from_residual-in_err-next.ensures.1 before.leads before.after
    (working_leaves c.args.env.now c.types.types.items (length c.types.shapes.items) c.types.m.account)

pub returns-in_err-put-clause-follows : goal.returns-in_err-put-clause-follows
returns-in_err-put-clause-follows g c =
    let before = c.types.invariant in
    let l : c.len.result ≡ length c.types.shapes.items = omega arith in
    let at = rw (c.in-Some.is, c.as_slice.ensures.value, l) at c.in_ok-next.ensures.ok in
    let within = slice_get_within c.types.types.items (length c.types.shapes.items) c.in-Some.next (sym at) in
    let lt : length c.types.shapes.items < 1024 = omega (arith, within, before.few) in
    let hs = c.types.shapes.items in
    let h = c.in_ok-shape.shape in
    let E = c.args.env.now in
    let Us = c.work_type.new.types.items in
    let f = c.in_ok-shape.ensures.follows in
    let leads = work_next E _ c.types.types.items (members hs) (length hs) c.types.m.account before.leads c.in-Some.next (sym at) lt Us (member h) c.work_type.new.m.account f.answer
    (members hs ++ (member h ∷ [])) (suc (length hs)) refl refl in
    collect_memory _ (working E Us (suc (length hs)) c.work_type.new.m.account) (appended (members hs ++ (member h ∷ []))) (λ (s : Shapes). members s.types) _ _ c.args.m.now c.work_type.new.m
    c.in_err-put.ensures.only_memory c.from_residual-in_err-put.ensures.1 leads (after-trans c.args.m.now c.types.m c.work_type.new.m before.after f.after)
    (working_leaves E Us (suc (length hs)) c.work_type.new.m.account)

pub types-smaller : goal.types-smaller
types-smaller g c =
    let before = c.types.invariant in
    let l : c.len.result ≡ length c.types.shapes.items = omega arith in
    let at = rw (c.in-Some.is, c.as_slice.ensures.value, l) at c.in_ok-next.ensures.ok in
    let within = slice_get_within c.types.types.items (length c.types.shapes.items) c.in-Some.next (sym at) in
    let many = ap length c.in_ok-put.ensures.ok ∙ length-append c.types.shapes.items (_ ∷ []) in
    omega (arith, within, before.few, many)

pub types-preserved : goal.types-preserved
types-preserved g c =
    let before = c.types.invariant in
    let l : c.len.result ≡ length c.types.shapes.items = omega arith in
    let at = rw (c.in-Some.is, c.as_slice.ensures.value, l) at c.in_ok-next.ensures.ok in
    let within = slice_get_within c.types.types.items (length c.types.shapes.items) c.in-Some.next (sym at) in
    let lt : length c.types.shapes.items < 1024 = omega (arith, within, before.few) in
    let hs = c.types.shapes.items in
    let h = c.in_ok-shape.shape in
    let E = c.args.env.now in
    let many = ap length c.in_ok-put.ensures.ok ∙ length-append hs (h ∷ []) in
    let f = c.in_ok-shape.ensures.follows in
    record {
      leads = work_next E _ c.types.types.items (members hs) (length hs) c.types.m.account before.leads c.in-Some.next (sym at) lt c.work_type.new.types.items (member h) c.work_type.new.m.account f.answer
          (members c.put.new.items.items) (length c.put.new.items.items) (ap members c.in_ok-put.ensures.ok ∙ map-append member hs (h ∷ [])) (omega (arith, many));
      after = after-trans c.args.m.now c.types.m c.work_type.new.m before.after f.after;
      few = c.in_ok-shape.ensures.few;
      named = subst (AreNamed E) (sym c.in_ok-put.ensures.ok) (All-append (IsNamed E) hs (h ∷ []) before.named (All-cons (IsNamed E) h [] c.in_ok-shape.ensures.named (All-nil (IsNamed E))));
    }

pub returns-clause-follows : goal.returns-clause-follows
returns-clause-follows g c =
    let before = c.types.invariant in
    let l : c.len.result ≡ length c.types.shapes.items = omega arith in
    let at = rw (c.in_default.is, c.as_slice.ensures.value, l) at c.in_ok-next.ensures.ok in
    rw c.of.ensures.is (work_end c.args.env.now (first_order_search c.args.env.now c.args.ty.now c.args.m.now.account) c.types.types.items (members c.types.shapes.items) (length c.types.shapes.items) c.types.m.account before.leads (sym at) c.args.m.now c.types.m refl before.after)

pub returns-clause-set : goal.returns-clause-set
returns-clause-set g c =
    let before = c.types.invariant in
    let l : c.len.result ≡ length c.types.shapes.items = omega arith in
    let at = rw (c.in_default.is, c.as_slice.ensures.value, l) at c.in_ok-next.ensures.ok in
    let f = work_end c.args.env.now (first_order_search c.args.env.now c.args.ty.now c.args.m.now.account) c.types.types.items (members c.types.shapes.items) (length c.types.shapes.items) c.types.m.account before.leads (sym at) c.args.m.now c.types.m refl before.after in
    rw c.of.ensures.is (set_found c.args.env.now c.args.ty.now (members c.types.shapes.items) c.args.m.now.account c.types.m.account f.answer)
