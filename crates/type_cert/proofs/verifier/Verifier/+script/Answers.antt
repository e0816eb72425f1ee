use Rattle.std.proofs.Common.{rules, arith, ◌≡◌, ◌∙◌, ap, sym, refl, ◌<◌, Some, length, slice_get, suc, ◌-◌, ◌+◌, ◌≤◌, subst}
use Rattle.pc_terms.specs.View.{tree_of}
use Rattle.pc_terms.specs.declared.term.Node.TheVariants.{Case}
use Rattle.calculus_rules.specs.Context.{values}
use Rattle.pc_rules.specs.Entailment.{test_of}
use Rattle.pc_rules.specs.WellCounted.{IsCounted}
use Rattle.type_cert.specs.Pairs.{AreCountedParts}
use Rattle.pc_rules.proofs.Meters.{after-trans}
use Rattle.conversion.specs.Modes.{is_equal}
use Rattle.cert_rules.specs.declared.item.CertItem.TheVariants.{Same, Left, Right}
use Rattle.type_cert.specs.Going.{going}
use Rattle.type_cert.proofs.Retracing.{retraces_on, retraces_err, retraces_passed}
use Rattle.type_cert.proofs.Scripting.{item_there, retraces_is, from_past, left_item, right_item, script_nested, script_entered, product_err, product_go, lambda_err, lambda_go, app_err, app_go, let_first, let_second, let_go, leaves, formers_differ, values_defined, values_under, after_same, left_ready, right_ready}
use Rattle.type_cert.proofs.PartScripts.{part_ready, part_next, part_stops, parts_done, match_goes, match_differs, fix_goes, fix_differs, matches_counted, fixpoints_counted}
use Rattle.type_cert.proofs.verifier.Verifier.+script.Goals as goal

-- steps of one of the terms, and then a script
pub item-stepped-requires : goal.item-stepped-requires
item-stepped-requires t c =
    let there : c.args.trail.now.at < length c.args.self.now.cert.now = item_there _ _ _ (sym c.item_at.ensures.is ∙ c.in-Some-Left.is) in
    search rules

pub item-stepped-requires-in-Some-Right : goal.item-stepped-requires-in-Some-Right
item-stepped-requires-in-Some-Right t c =
    let there : c.args.trail.now.at < length c.args.self.now.cert.now = item_there _ _ _ (sym c.item_at.ensures.is ∙ c.in-Some-Right.is) in
    search rules

pub item-terms_script-requires : goal.item-terms_script-requires
item-terms_script-requires t c =
    let r = left_ready c.requires.scriptable c.in_ok-left-in-Some-Left.ensures.steps in
    let n = c.in_ok-left-in-Some-Left.ensures.retraces.after.nest in
    search rules

pub item-terms_script-requires-in-Some-Right : goal.item-terms_script-requires-in-Some-Right
item-terms_script-requires-in-Some-Right t c =
    let r = right_ready c.requires.scriptable c.in_ok-right-in-Some-Right.ensures.steps in
    let n = c.in_ok-right-in-Some-Right.ensures.retraces.after.nest in
    search rules

pub item-returns-in_err-left-in-Some-Left : goal.item-returns-in_err-left-in-Some-Left
item-returns-in_err-left-in-Some-Left t c =
    let v = c.args.self.now in
    let e : slice_get v.cert.now c.args.trail.now.at ≡ Some (Left c.in-Some-Left.n) = sym c.item_at.ensures.is ∙ c.in-Some-Left.is ∙ ap (λ x. Some x) c.in-Some-Left.field-0-is in
    record { retraces = rw e (retraces_passed c.from_residual.ensures.1 (retraces_is (left_item v.env.now (test_of v.env.now) (going v) (values c.args.ctx.now) (is_equal c.args.mode) c.args.a.now c.args.b.now c.args.trail.now c.in-Some-Left.n) (retraces_err _ c.in_err-left-in-Some-Left.ensures.retraces))) }

pub item-returns-in_ok-left-in-Some-Left : goal.item-returns-in_ok-left-in-Some-Left
item-returns-in_ok-left-in-Some-Left t c =
    let v = c.args.self.now in
    let e : slice_get v.cert.now c.args.trail.now.at ≡ Some (Left c.in-Some-Left.n) = sym c.item_at.ensures.is ∙ c.in-Some-Left.is ∙ ap (λ x. Some x) c.in-Some-Left.field-0-is in
    record { retraces = rw e (retraces_is (left_item v.env.now (test_of v.env.now) (going v) (values c.args.ctx.now) (is_equal c.args.mode) c.args.a.now c.args.b.now c.args.trail.now c.in-Some-Left.n) (retraces_on _ c.in_ok-left-in-Some-Left.ensures.retraces c.terms_script.ensures.retraces)) }

pub item-returns-in_err-right-in-Some-Right : goal.item-returns-in_err-right-in-Some-Right
item-returns-in_err-right-in-Some-Right t c =
    let v = c.args.self.now in
    let e : slice_get v.cert.now c.args.trail.now.at ≡ Some (Right c.in-Some-Right.n) = sym c.item_at.ensures.is ∙ c.in-Some-Right.is ∙ ap (λ x. Some x) c.in-Some-Right.field-0-is in
    record { retraces = rw e (retraces_passed c.from_residual-in_err-right-in-Some-Right.ensures.1 (retraces_is (right_item v.env.now (test_of v.env.now) (going v) (values c.args.ctx.now) (is_equal c.args.mode) c.args.a.now c.args.b.now c.args.trail.now c.in-Some-Right.n) (retraces_err _ c.in_err-right-in-Some-Right.ensures.retraces))) }

pub item-returns-in_ok-right-in-Some-Right : goal.item-returns-in_ok-right-in-Some-Right
item-returns-in_ok-right-in-Some-Right t c =
    let v = c.args.self.now in
    let e : slice_get v.cert.now c.args.trail.now.at ≡ Some (Right c.in-Some-Right.n) = sym c.item_at.ensures.is ∙ c.in-Some-Right.is ∙ ap (λ x. Some x) c.in-Some-Right.field-0-is in
    record { retraces = rw e (retraces_is (right_item v.env.now (test_of v.env.now) (going v) (values c.args.ctx.now) (is_equal c.args.mode) c.args.a.now c.args.b.now c.args.trail.now c.in-Some-Right.n) (retraces_on _ c.in_ok-right-in-Some-Right.ensures.retraces c.terms_script-in-Some-Right.ensures.retraces)) }

pub item-parts_item-requires : goal.item-parts_item-requires
item-parts_item-requires t c =
    let there : c.args.trail.now.at < length c.args.self.now.cert.now = item_there _ _ _ (sym c.item_at.ensures.is ∙ c.in-Some-Parts.is) in
    search rules

pub item-returns-in-Some-Same : goal.item-returns-in-Some-Same
item-returns-in-Some-Same t c =
    let e : slice_get c.args.self.now.cert.now c.args.trail.now.at ≡ Some Same = sym c.item_at.ensures.is ∙ c.in-Some-Same.is ∙ ap (λ x. Some x) c.in-Some-Same.field-0-is in
    record { retraces = rw e (c.same_item.ensures.retraces (values c.args.ctx.now)) }

pub terms_script-returns-then-not-enter : goal.terms_script-returns-then-not-enter
terms_script-returns-then-not-enter t c =
    let z : c.args.self.now.room ≡ 0 = search rules in
    let k : c.enter.new.self.nest ≡ c.args.trail.now.meter.nest = search rules in
    let f = after_same c.args.trail.now.meter c.enter.new.self c.enter.ensures.account k in
    record { retraces = script_nested c.args.self.now.cert.now c.args.self.now.env.now (test_of c.args.self.now.env.now) (values c.args.ctx.now) (is_equal c.args.mode) c.args.a.now c.args.b.now c.args.self.now.room c.args.trail.now (record { meter = c.enter.new.self; at = c.args.trail.now.at }) z f }

pub terms_script-returns : goal.terms_script-returns
terms_script-returns t c =
    let k : c.enter.new.self.nest ≡ c.args.trail.now.meter.nest + 1 = search rules in
    let z : c.args.self.now.room ≡ suc (c.args.self.now.room - 1) = search rules in
    record {
      retraces = script_entered c.args.self.now.cert.now c.args.self.now.env.now (test_of c.args.self.now.env.now) (values c.args.ctx.now) (is_equal c.args.mode) c.args.a.now c.args.b.now c.args.self.now.room (c.args.self.now.room - 1) _
          c.args.trail.now (record { meter = c.enter.new.self; at = c.args.trail.now.at }) c.item-answer.new.trail (record { meter = c.leave.new.self; at = c.item-answer.new.trail.at })
          z c.enter.ensures.account k refl c.item-answer.ensures.retraces c.leave.ensures.account c.leave.ensures.nest refl;
    }

pub parts_item-returns-then-former : goal.parts_item-returns-then-former
parts_item-returns-then-former t c =
    record { retraces = formers_differ (going c.args.self.now) (values c.args.ctx.now) (is_equal c.args.mode) c.args.a.now c.args.b.now c.args.trail.now (λ e. c.if-former.true (c.former.ensures.is ∙ e ∙ sym c.former-2.ensures.is)) }

pub parts_item-returns : goal.parts_item-returns
parts_item-returns t c = record { retraces = from_past c.parts.ensures.retraces }

pub product-returns-in_err-terms_script : goal.product-returns-in_err-terms_script
product-returns-in_err-terms_script t c =
    let eb = rw c.in-Prod.is at c.view.ensures.is in
    record { retraces = λ i. retraces_passed c.from_residual.ensures.1 (rw (← eb) (product_err i (going c.args.self.now) (values c.args.ctx.now) (is_equal c.args.mode) c.args.domain.now c.args.codomain.now c.in-Prod.other c.in-Prod.target c.args.trail.now _ _ c.in_err-terms_script.ensures.retraces)) }

pub product-returns : goal.product-returns
product-returns t c =
    let eb = rw c.in-Prod.is at c.view.ensures.is in
    let u = values_under c.args.ctx.now c.in_ok-under.under _ _ c.in_ok-under.ensures.longer c.in_ok-share.ensures.ok in
    record { retraces = λ i. rw (← eb) (product_go i (going c.args.self.now) (values c.args.ctx.now) (is_equal c.args.mode) c.args.domain.now c.args.codomain.now c.in-Prod.other c.in-Prod.target c.args.trail.now _ _ _ c.in_ok-terms_script.ensures.retraces _ u c.terms_script-2.ensures.retraces) }

pub lambda-returns-in_err-terms_script : goal.lambda-returns-in_err-terms_script
lambda-returns-in_err-terms_script t c =
    let eb = rw c.in-Lambda.is at c.view.ensures.is in
    record { retraces = λ i equal. retraces_passed c.from_residual.ensures.1 (rw (← eb) (lambda_err i (going c.args.self.now) (values c.args.ctx.now) equal c.args.domain.now c.args.body.now c.in-Lambda.other c.in-Lambda.target c.args.trail.now _ _ c.in_err-terms_script.ensures.retraces)) }

pub lambda-returns : goal.lambda-returns
lambda-returns t c =
    let eb = rw c.in-Lambda.is at c.view.ensures.is in
    let u = values_under c.args.ctx.now c.in_ok-under.under _ _ c.in_ok-under.ensures.longer c.in_ok-share.ensures.ok in
    record { retraces = λ i equal. rw (← eb) (lambda_go i (going c.args.self.now) (values c.args.ctx.now) equal c.args.domain.now c.args.body.now c.in-Lambda.other c.in-Lambda.target c.args.trail.now _ _ _ c.in_ok-terms_script.ensures.retraces _ u c.terms_script-2.ensures.retraces) }

pub application-returns-in_err-terms_script : goal.application-returns-in_err-terms_script
application-returns-in_err-terms_script t c =
    let eb = rw c.in-App.is at c.view.ensures.is in
    record { retraces = λ i equal. retraces_passed c.from_residual.ensures.1 (rw (← eb) (app_err i (going c.args.self.now) (values c.args.ctx.now) equal c.args.f.now c.args.x.now c.in-App.g c.in-App.y c.args.trail.now _ _ c.in_err-terms_script.ensures.retraces)) }

pub application-returns : goal.application-returns
application-returns t c =
    let eb = rw c.in-App.is at c.view.ensures.is in
    record { retraces = λ i equal. rw (← eb) (app_go i (going c.args.self.now) (values c.args.ctx.now) equal c.args.f.now c.args.x.now c.in-App.g c.in-App.y c.args.trail.now _ _ _ c.in_ok-terms_script.ensures.retraces c.terms_script-2.ensures.retraces) }

pub definition-returns-in_err-terms_script : goal.definition-returns-in_err-terms_script
definition-returns-in_err-terms_script t c =
    let eb = rw c.in-LetIn.is at c.view.ensures.is in
    record { retraces = λ i equal. retraces_passed c.from_residual.ensures.1 (rw (← eb) (let_first i (going c.args.self.now) (values c.args.ctx.now) equal c.args.value.now c.args.ty.now c.args.body.now c.in-LetIn.other c.in-LetIn.kind c.in-LetIn.target c.args.trail.now _ _ c.in_err-terms_script.ensures.retraces)) }

pub parts-returns-in_default : goal.parts-returns-in_default
parts-returns-in_default t c = record { retraces = rw c.leaf.ensures.is (leaves c.args.at (going c.args.self.now) (values c.args.ctx.now) (is_equal c.args.mode) c.args.trail.now c.args.a.now c.args.b.now (search rules) c.requires.number) }

-- each part of a list

pub each_part-terms_script-requires : goal.each_part-terms_script-requires
each_part-terms_script-requires t c =
    let l : c.loop-i.i < length c.args.parts.now = grind arith in
    let h = part_ready c.args.self.now.env.now (values c.args.ctx.now) (values c.in_ok-inner.inner) c.args.parts.now c.loop-i.i c.index-parts-i.result c.requires.env c.requires.values c.in_ok-inner.ensures.longer l c.index-parts-i.is c.requires.parts in
    let n = c.loop-i.invariant.after.nest in
    search (rules, h, n)

pub each_part-loop-i-preserved : goal.each_part-loop-i-preserved
each_part-loop-i-preserved t c =
    let l : c.loop-i.i < length c.args.parts.now = grind arith in
    let f = c.in_ok-terms_script.ensures.retraces in
    record {
      rest = λ r x y. c.loop-i.invariant.rest r x
          (part_next (going c.args.self.now) (values c.args.ctx.now) c.args.parts.now c.loop-i.i c.index-parts-i.result (values c.in_ok-inner.inner) r c.loop-i.trail c.terms_script.new.trail x l c.index-parts-i.is c.in_ok-inner.ensures.longer f y);
      after = after-trans c.args.trail.now.meter c.loop-i.trail.meter c.terms_script.new.trail.meter c.loop-i.invariant.after f.after;
    }

pub each_part-returns-in_err-terms_script : goal.each_part-returns-in_err-terms_script
each_part-returns-in_err-terms_script t c =
    let l : c.loop-i.i < length c.args.parts.now = grind arith in
    let f = c.in_err-terms_script.ensures.retraces in
    record {
      retraces = retraces_passed c.from_residual-in_err-terms_script.ensures.1 (c.loop-i.invariant.rest _ _
          (part_stops (going c.args.self.now) (values c.args.ctx.now) c.args.parts.now c.loop-i.i c.index-parts-i.result (values c.in_ok-inner.inner) _ c.loop-i.trail c.terms_script.new.trail l c.index-parts-i.is c.in_ok-inner.ensures.longer f));
    }

pub each_part-returns : goal.each_part-returns
each_part-returns t c =
    let h : length c.args.parts.now ≤ c.loop-i.i = search rules in
    record { retraces = c.loop-i.invariant.rest _ _ (parts_done (going c.args.self.now) (values c.args.ctx.now) c.args.parts.now c.loop-i.i c.loop-i.trail h) }

pub parts-returns-in-Prod : goal.parts-returns-in-Prod
parts-returns-in-Prod t c =
    let ea = rw c.in-Prod.is at c.view.ensures.is in
    record { retraces = rw (← ea) (c.product.ensures.retraces c.args.at) }

pub parts-returns-in-Lambda : goal.parts-returns-in-Lambda
parts-returns-in-Lambda t c =
    let ea = rw c.in-Lambda.is at c.view.ensures.is in
    record { retraces = rw (← ea) (c.lambda.ensures.retraces c.args.at (is_equal c.args.mode)) }

pub parts-returns-in-LetIn : goal.parts-returns-in-LetIn
parts-returns-in-LetIn t c =
    let ea = rw c.in-LetIn.is at c.view.ensures.is in
    record { retraces = rw (← ea) (c.definition.ensures.retraces c.args.at (is_equal c.args.mode)) }

pub parts-returns-in-App : goal.parts-returns-in-App
parts-returns-in-App t c =
    let ea = rw c.in-App.is at c.view.ensures.is in
    record { retraces = rw (← ea) (c.application.ensures.retraces c.args.at (is_equal c.args.mode)) }

pub parts-returns-in-Case : goal.parts-returns-in-Case
parts-returns-in-Case t c =
    let ea = rw c.in-Case.is at c.view.ensures.is in
    let eg : tree_of (Case c.get.result.now) ≡ c.args.a.now = ap (λ m. tree_of (Case m)) c.get.ensures.is ∙ ea in
    record { retraces = rw (← eg) (c.matches.ensures.retraces (is_equal c.args.mode)) }

pub parts-returns-in-Fix : goal.parts-returns-in-Fix
parts-returns-in-Fix t c =
    let ea = rw c.in-Fix.is at c.view.ensures.is in
    record { retraces = rw (← ea) (c.fixpoints.ensures.retraces (is_equal c.args.mode)) }

pub definition-returns-in_err-terms_script-2 : goal.definition-returns-in_err-terms_script-2
definition-returns-in_err-terms_script-2 t c =
    let eb = rw c.in-LetIn.is at c.view.ensures.is in
    record {
      retraces = λ i equal. retraces_passed c.from_residual-in_err-terms_script-2.ensures.1
          (rw (← eb) (let_second i (going c.args.self.now) (values c.args.ctx.now) equal c.args.value.now c.args.ty.now c.args.body.now c.in-LetIn.other c.in-LetIn.kind c.in-LetIn.target c.args.trail.now _ _ _ c.in_ok-terms_script.ensures.retraces c.in_err-terms_script-2.ensures.retraces));
    }

pub definition-returns : goal.definition-returns
definition-returns t c =
    let eb = rw c.in-LetIn.is at c.view.ensures.is in
    let u = values_defined c.args.ctx.now c.in_ok-under.under _ _ _ c.in_ok-under.ensures.longer c.in_ok-share.ensures.ok in
    record {
      retraces = λ i equal.
          rw (← eb) (let_go i (going c.args.self.now) (values c.args.ctx.now) equal c.args.value.now c.args.ty.now c.args.body.now c.in-LetIn.other c.in-LetIn.kind c.in-LetIn.target c.args.trail.now _ _ _ _ c.in_ok-terms_script.ensures.retraces c.in_ok-terms_script-2.ensures.retraces _ u c.terms_script-3.ensures.retraces);
    }

pub matches-returns-in_default-found : goal.matches-returns-in_default-found
matches-returns-in_default-found t c =
    let eb = rw c.in-Case.is at c.view.ensures.is in
    let e = rw (c.in_default-found.is, c.get-y.ensures.is) at c.in_ok-found.ensures.parts in
    record { retraces = λ equal. match_differs c.args.at (going c.args.self.now) (values c.args.ctx.now) equal c.args.trail.now c.args.x.now c.in-Case.y c.args.b.now eb e }

pub matches-each_part-requires : goal.matches-each_part-requires
matches-each_part-requires t c =
    let eb = rw c.in-Case.is at c.view.ensures.is in
    let e = rw (c.in-Some.is, c.get-y.ensures.is) at c.in_ok-found.ensures.parts in
    let r = subst (λ u. IsCounted c.args.self.now.env.now u) (sym eb) c.requires.scriptable.right in
    let k = matches_counted c.args.self.now.env.now c.args.x.now c.in-Case.y c.in-Some.parts.items c.requires.scriptable.left r e in
    let l : AreCountedParts c.args.self.now.env.now c.as_slice.result.now = rw c.as_slice.ensures.value k in
    search (rules, l)

pub matches-returns : goal.matches-returns
matches-returns t c =
    let eb = rw c.in-Case.is at c.view.ensures.is in
    let e = rw (c.in-Some.is, c.get-y.ensures.is) at c.in_ok-found.ensures.parts in
    let f = rw c.as_slice.ensures.value at c.each_part.ensures.retraces in
    record { retraces = λ equal. match_goes c.args.at (going c.args.self.now) (values c.args.ctx.now) equal c.args.trail.now c.args.x.now c.in-Case.y c.args.b.now c.in-Some.parts.items _ _ eb e f }

pub fixpoints-returns-in_default-found : goal.fixpoints-returns-in_default-found
fixpoints-returns-in_default-found t c =
    let eb = rw c.in-Fix.is at c.view.ensures.is in
    let e = rw c.in_default-found.is at c.in_ok-found.ensures.parts in
    record { retraces = λ equal. fix_differs c.args.at (going c.args.self.now) (values c.args.ctx.now) equal c.args.trail.now c.args.ds.now c.in-Fix.es c.args.i c.in-Fix.j c.args.b.now eb e }

pub fixpoints-each_part-requires : goal.fixpoints-each_part-requires
fixpoints-each_part-requires t c =
    let eb = rw c.in-Fix.is at c.view.ensures.is in
    let e = rw c.in-Some.is at c.in_ok-found.ensures.parts in
    let r = subst (λ u. IsCounted c.args.self.now.env.now u) (sym eb) c.requires.scriptable.right in
    let k = fixpoints_counted c.args.self.now.env.now c.args.ds.now c.in-Fix.es c.args.i c.in-Fix.j c.in-Some.parts.items c.requires.scriptable.left r e in
    let l : AreCountedParts c.args.self.now.env.now c.as_slice.result.now = rw c.as_slice.ensures.value k in
    search (rules, l)

pub fixpoints-returns : goal.fixpoints-returns
fixpoints-returns t c =
    let eb = rw c.in-Fix.is at c.view.ensures.is in
    let e = rw c.in-Some.is at c.in_ok-found.ensures.parts in
    let f = rw c.as_slice.ensures.value at c.each_part.ensures.retraces in
    record { retraces = λ equal. fix_goes c.args.at (going c.args.self.now) (values c.args.ctx.now) equal c.args.trail.now c.args.ds.now c.in-Fix.es c.args.i c.in-Fix.j c.args.b.now c.in-Some.parts.items _ _ eb e f }
