use Rattle.std.proofs.Common.{rules, arith, ◌≡◌, ◌∙◌, ap, ◌<◌, ◌-◌, ◌+◌, sym, length, ◌++◌, ◌∷◌, [], refl, Some, subst, slice_get, inl, Ok}
use Rattle.std.proofs.lemmas.List.{take_all}
use Rattle.pc_terms.specs.Syntax.{Rel, SortT, App}
use Rattle.calculus_rules.specs.Environment.{with_parameters}
use Rattle.calculus_rules.specs.Context.{values}
use Rattle.pc_rules.specs.Entailment.{test_of}
use Rattle.pc_rules.specs.WellCounted.{IsCounted}
use Rattle.pc_rules.proofs.ListSteps.{take_next}
use Rattle.pc_rules.proofs.Meters.{after-refl, after-trans}
use Rattle.pc_rules.proofs.SameTrees.{same_yes, same_no, same_is}
use Rattle.rule_laws.proofs.Counted.{appended_counted}
use Rattle.rule_laws.proofs.KeepCounts.{values_counted}
use Rattle.cert_rules.specs.declared.item.CertItem.TheVariants.{Same, Conv}
use Rattle.type_cert.specs.Comparable.{AreScriptable}
use Rattle.cert_rules.specs.Walk.{pass}
use Rattle.cert_rules.specs.WalkTyping.{walk_sort_of, walk_fits, walk_check}
use Rattle.type_infer.specs.Ready.{IsReady}
use Rattle.type_infer.proofs.Beginning.{assumed_ready, defined_ready}
use Rattle.type_infer.proofs.Finding.{if_ok}
use Rattle.type_infer.proofs.Fixing.{definitions_next, definitions_done, lift_beyond}
use Rattle.type_infer.proofs.Matching.{longer_next, whnf_is_counted}
use Rattle.type_cert.specs.Going.{inferring}
use Rattle.type_cert.proofs.Retracing.{retraces_on, retraces_err, retraces_pass, retraces_memory, retraces_passed, passed_nothing, retraces_with, retraces_value, retraces_made, retraces_fault, retraces_answers, retraces_follows, retraces_passing, retraces_beyond, retraces_after, retraces_before, told_of}
use Rattle.type_infer.proofs.Pendings.{pending_product, pending_beyond}
use Rattle.type_cert.proofs.Sorting.{unread_done, unread_passed, sort_given, given_halts, given_passed, given_on, sort_taken, sort_stays, sort_passes, sort_counted}
use Rattle.type_cert.proofs.WalkedPendings.{ends_made, pends_there, pends_whole, pends_fault, pends_from, pends_passed, pends_halts, pends_each, argument_halts, halts_passed, passes_ok, passes_err, product_stays}
use Rattle.type_cert.proofs.Inferring.{infer_spent, infer_nested, infer_entered, inferred_from, sort_there, sort_goes, product_found, no_retype, retype_stops, retype_goes, fits_same, fits_differ, fits_conv}
use Rattle.type_cert.proofs.TypedLists.{entered_next, entered_stop, entered_end, all_next, all_stop, all_fault, all_end, branches_next, branches_stop, branches_end, types_next, types_stop, types_fault, types_done, definitions_go, definitions_stop, definitions_end, all_definitions, few_lambdas, lambdas_found, is_family, no_family_found}
use Rattle.type_cert.proofs.TypedMatches.{case_goes, case_unknown, pred_fault, family_there, family_halts, raised_by_none}
use Rattle.type_cert.proofs.Guardable.{guardable}
use Rattle.type_cert.proofs.typing.TypeWalk.+infer.Goals as goal

-- the start of an inference
pub infer-returns-then-not-tick-clause-retraces : goal.infer-returns-then-not-tick-clause-retraces
infer-returns-then-not-tick-clause-retraces g t c =
    let v = c.args.self.now.verifier in
    infer_spent v.cert.now v.env.now (test_of v.env.now) c.args.ctx.now c.args.t.now c.args.self.now.verifier.room c.args.trail.now (record { meter = c.tick.new.self; at = c.args.trail.now.at })
    (search rules) c.tick.ensures.account c.tick.ensures.nest

pub infer-returns-then-not-enter-clause-retraces : goal.infer-returns-then-not-enter-clause-retraces
infer-returns-then-not-enter-clause-retraces g t c =
    let v = c.args.self.now.verifier in
    infer_nested v.cert.now v.env.now (test_of v.env.now) c.args.ctx.now c.args.t.now c.args.self.now.verifier.room c.args.trail.now (record { meter = c.tick.new.self; at = c.args.trail.now.at })
    (record { meter = c.enter.new.self; at = c.args.trail.now.at }) (search rules) (search rules) c.tick.ensures.account c.tick.ensures.nest c.enter.ensures.account (search rules)

pub infer-returns-clause-retraces : goal.infer-returns-clause-retraces
infer-returns-clause-retraces g t c =
    let v = c.args.self.now.verifier in
    infer_entered v.cert.now v.env.now (test_of v.env.now) c.args.ctx.now c.args.t.now c.args.self.now.verifier.room (c.args.self.now.verifier.room - 1) _ c.args.trail.now (record { meter = c.tick.new.self; at = c.args.trail.now.at })
    (record { meter = c.enter.new.self; at = c.args.trail.now.at }) c.rule-answer.new.trail (record { meter = c.leave.new.self; at = c.rule-answer.new.trail.at })
    (search rules) (search rules) c.tick.ensures.account c.tick.ensures.nest c.enter.ensures.account (search rules) refl c.rule-answer.ensures.retraces c.leave.ensures.account c.leave.ensures.nest refl

pub infer-returns-clause-inferred : goal.infer-returns-clause-inferred
infer-returns-clause-inferred g t c =
    let v = c.args.self.now.verifier in
    inferred_from v.cert.now v.env.now c.args.ctx.now c.args.t.now c.requires.ready c.view.ensures.formed c.args.self.now.verifier.room _ c.args.trail.now (record { meter = c.leave.new.self; at = c.rule-answer.new.trail.at })
    (infer_entered v.cert.now v.env.now (test_of v.env.now) c.args.ctx.now c.args.t.now c.args.self.now.verifier.room (c.args.self.now.verifier.room - 1) _ c.args.trail.now (record { meter = c.tick.new.self; at = c.args.trail.now.at })
    (record { meter = c.enter.new.self; at = c.args.trail.now.at }) c.rule-answer.new.trail (record { meter = c.leave.new.self; at = c.rule-answer.new.trail.at })
    (search rules) (search rules) c.tick.ensures.account c.tick.ensures.nest c.enter.ensures.account (search rules) refl c.rule-answer.ensures.retraces c.leave.ensures.account c.leave.ensures.nest refl)

-- the rule of a term
pub rule-returns-in-Rel : goal.rule-returns-in-Rel
rule-returns-in-Rel g t c = record { retraces = rw (← c.view.ensures.is, c.in-Rel.is) (retraces_answers _ _ c.at_item.ensures.is (c.rel_rule.ensures.answers _)) }

pub rule-returns-in-Sort : goal.rule-returns-in-Sort
rule-returns-in-Sort g t c = record { retraces = rw (← c.view.ensures.is, c.in-Sort.is) (retraces_answers _ _ c.at_item-in-Sort.ensures.is (c.sort_rule.ensures.answers _)) }

pub rule-returns-in-Prod : goal.rule-returns-in-Prod
rule-returns-in-Prod g t c = record { retraces = rw (← c.view.ensures.is, c.in-Prod.is) c.prod_rule.ensures.retraces }

pub rule-returns-in-Lambda : goal.rule-returns-in-Lambda
rule-returns-in-Lambda g t c = record { retraces = rw (← c.view.ensures.is, c.in-Lambda.is) c.lambda_rule.ensures.retraces }

pub rule-returns-in-LetIn : goal.rule-returns-in-LetIn
rule-returns-in-LetIn g t c = record { retraces = rw (← c.view.ensures.is, c.in-LetIn.is) c.let_rule.ensures.retraces }

pub rule-returns-in-App : goal.rule-returns-in-App
rule-returns-in-App g t c = record { retraces = rw (← c.view.ensures.is, c.in-App.is) c.app_rule.ensures.retraces }

pub rule-returns-in-Const : goal.rule-returns-in-Const
rule-returns-in-Const g t c = record { retraces = rw (← c.view.ensures.is, c.in-Const.is) (retraces_answers _ _ c.at_item-in-Const.ensures.is (c.const_rule.ensures.answers _)) }

pub rule-returns-in-Ind : goal.rule-returns-in-Ind
rule-returns-in-Ind g t c = record { retraces = rw (← c.view.ensures.is, c.in-Ind.is) (retraces_answers _ _ c.at_item-in-Ind.ensures.is (c.family_rule.ensures.answers _)) }

pub rule-returns-in-Construct : goal.rule-returns-in-Construct
rule-returns-in-Construct g t c = record { retraces = rw (← c.view.ensures.is, c.in-Construct.is) (retraces_answers _ _ c.at_item-in-Construct.ensures.is (c.constructor_rule.ensures.answers _)) }

pub rule-returns-in-Case : goal.rule-returns-in-Case
rule-returns-in-Case g t c = record { retraces = rw (← c.view.ensures.is, c.in-Case.is) (rw c.get.ensures.is at c.case_rule.ensures.retraces) }

pub rule-fix_rule-requires : goal.rule-fix_rule-requires
rule-fix_rule-requires g t c =
    let e = rw c.in-Fix.is at c.view.ensures.is in
    let k = c.view.ensures.formed in
    search rules

pub rule-returns-in-Fix : goal.rule-returns-in-Fix
rule-returns-in-Fix g t c = record { retraces = rw (← c.view.ensures.is, c.in-Fix.is) c.fix_rule.ensures.retraces }

-- products
pub prod_rule-returns-in_err-low : goal.prod_rule-returns-in_err-low
prod_rule-returns-in_err-low g t c = record { retraces = retraces_passed c.from_residual.ensures.1 (retraces_err _ c.in_err-low.ensures.retraces.sorts) }

pub prod_rule-sort_term-requires-2 : goal.prod_rule-sort_term-requires-2
prod_rule-sort_term-requires-2 g t c =
    let r : IsReady c.args.self.now.verifier.env.now c.in_ok-under.under = rw (c.in_ok-under.ensures.longer, c.in_ok-share.ensures.ok) (assumed_ready _ _ _ c.requires.ready c.in_ok-low.ensures.counted) in
    let n = c.in_ok-low.ensures.retraces.after.nest in
    search rules

pub prod_rule-returns-in_err-high : goal.prod_rule-returns-in_err-high
prod_rule-returns-in_err-high g t c =
    record { retraces = retraces_passed c.from_residual-in_err-high.ensures.1 (retraces_on _ c.in_ok-low.ensures.retraces.sorts.1.1 (retraces_err _ (rw (c.in_ok-under.ensures.longer, c.in_ok-share.ensures.ok) at c.in_err-high.ensures.retraces.sorts))) }

pub prod_rule-returns : goal.prod_rule-returns
prod_rule-returns g t c =
    let l = c.in_ok-low.ensures.retraces.sorts in
    let h = c.in_ok-high.ensures.retraces.sorts in
    let k = rw (c.in_ok-under.ensures.longer, c.in_ok-share.ensures.ok) at h.1.1 in
    record { retraces = retraces_on _ l.1.1 (retraces_on _ k (retraces_value _ _ _ (c.in_ok-make.ensures.ok ∙ ap SortT (c.in_ok-sort.ensures.value l.0 h.0 l.1.0 h.1.0)))) }

-- lambdas
pub lambda_rule-returns-in_err-sorted : goal.lambda_rule-returns-in_err-sorted
lambda_rule-returns-in_err-sorted g t c = record { retraces = retraces_passed c.from_residual.ensures.1 (retraces_err _ c.in_err-sorted.ensures.retraces.unread) }

pub lambda_rule-infer-requires : goal.lambda_rule-infer-requires
lambda_rule-infer-requires g t c =
    let r : IsReady c.args.self.now.verifier.env.now c.in_ok-under.under = rw (c.in_ok-under.ensures.longer, c.in_ok-share.ensures.ok) (assumed_ready _ _ _ c.requires.ready c.in_ok-sorted.ensures.counted) in
    let n = c.in_ok-sorted.ensures.retraces.after.nest in
    search rules

pub lambda_rule-returns-in_err-ty : goal.lambda_rule-returns-in_err-ty
lambda_rule-returns-in_err-ty g t c =
    record { retraces = retraces_passed c.from_residual-in_err-ty.ensures.1 (retraces_on _ c.in_ok-sorted.ensures.retraces.unread.1 (retraces_err _ (rw (c.in_ok-under.ensures.longer, c.in_ok-share.ensures.ok) at c.in_err-ty.ensures.retraces))) }

pub lambda_rule-returns-in_err-make : goal.lambda_rule-returns-in_err-make
lambda_rule-returns-in_err-make g t c =
    let h = rw (c.in_ok-under.ensures.longer, c.in_ok-share.ensures.ok) at c.in_ok-ty.ensures.retraces in
    record { retraces = retraces_passed c.from_residual-in_err-make.ensures.1 (retraces_on _ c.in_ok-sorted.ensures.retraces.unread.1 (retraces_on _ h (retraces_fault _ _ _ (rw c.in_ok-share-2.ensures.ok at c.in_err-make.ensures.too_deep)))) }

pub lambda_rule-returns : goal.lambda_rule-returns
lambda_rule-returns g t c =
    let h = rw (c.in_ok-under.ensures.longer, c.in_ok-share.ensures.ok) at c.in_ok-ty.ensures.retraces in
    record { retraces = retraces_on _ c.in_ok-sorted.ensures.retraces.unread.1 (retraces_on _ h (retraces_made _ _ _ (rw c.in_ok-share-2.ensures.ok at c.in_ok-make.ensures.ok))) }

-- lets
pub let_rule-returns-in_err-sorted : goal.let_rule-returns-in_err-sorted
let_rule-returns-in_err-sorted g t c = record { retraces = retraces_passed c.from_residual.ensures.1 (retraces_err _ c.in_err-sorted.ensures.retraces.unread) }

pub let_rule-returns-in_err-check : goal.let_rule-returns-in_err-check
let_rule-returns-in_err-check g t c =
    record { retraces = retraces_passed c.from_residual-in_err-check.ensures.1 (retraces_on _ c.in_ok-sorted.ensures.retraces.unread.1 (retraces_err _ c.in_err-check.ensures.retraces)) }

pub let_rule-infer-requires : goal.let_rule-infer-requires
let_rule-infer-requires g t c =
    let r : IsReady c.args.self.now.verifier.env.now c.in_ok-under.under = rw (c.in_ok-under.ensures.longer, c.in_ok-share.ensures.ok, c.in_ok-share-2.ensures.ok) (defined_ready _ _ _ _ c.requires.ready c.in_ok-check.ensures.counted c.in_ok-sorted.ensures.counted) in
    let n = c.in_ok-check.ensures.retraces.after.nest ∙ c.in_ok-sorted.ensures.retraces.after.nest in
    search rules

pub let_rule-returns-in_err-found : goal.let_rule-returns-in_err-found
let_rule-returns-in_err-found g t c =
    let h = rw (c.in_ok-under.ensures.longer, c.in_ok-share.ensures.ok, c.in_ok-share-2.ensures.ok) at c.in_err-found.ensures.retraces in
    record { retraces = retraces_passed c.from_residual-in_err-found.ensures.1 (retraces_on _ c.in_ok-sorted.ensures.retraces.unread.1 (retraces_on _ c.in_ok-check.ensures.retraces (retraces_err _ h))) }

pub let_rule-returns-in_err-made : goal.let_rule-returns-in_err-made
let_rule-returns-in_err-made g t c =
    let h = rw (c.in_ok-under.ensures.longer, c.in_ok-share.ensures.ok, c.in_ok-share-2.ensures.ok) at c.in_ok-found.ensures.retraces in
    let k = rw (c.in_ok-share-3.ensures.ok, c.in_ok-share-4.ensures.ok) at c.in_err-made.ensures.too_deep in
    record { retraces = retraces_passed c.from_residual-in_err-made.ensures.1 (retraces_on _ c.in_ok-sorted.ensures.retraces.unread.1 (retraces_on _ c.in_ok-check.ensures.retraces (retraces_on _ h (retraces_fault _ _ _ k)))) }

pub let_rule-returns : goal.let_rule-returns
let_rule-returns g t c =
    let h = rw (c.in_ok-under.ensures.longer, c.in_ok-share.ensures.ok, c.in_ok-share-2.ensures.ok) at c.in_ok-found.ensures.retraces in
    let k = rw (c.in_ok-share-3.ensures.ok, c.in_ok-share-4.ensures.ok) at c.in_ok-made.ensures.ok in
    record { retraces = retraces_on _ c.in_ok-sorted.ensures.retraces.unread.1 (retraces_on _ c.in_ok-check.ensures.retraces (retraces_on _ h (retraces_made _ _ _ k))) }

-- applications
pub app_rule-returns-in_err-ty : goal.app_rule-returns-in_err-ty
app_rule-returns-in_err-ty g t c = record { retraces = retraces_passed c.from_residual.ensures.1 c.in_err-ty.ensures.retraces.pends }

pub app_rule-returns-in_err-whole : goal.app_rule-returns-in_err-whole
app_rule-returns-in_err-whole g t c =
    record { retraces = retraces_passed c.from_residual-in_err-whole.ensures.1 (pends_fault _ c.in_err-whole.ensures.making c.in_ok-ty.ensures.retraces) }

pub app_rule-returns : goal.app_rule-returns
app_rule-returns g t c = record { retraces = c.in_ok-ty.ensures.retraces.pends (Ok _) c.in_ok-whole.ensures.making }

pub application_type-returns-in_err-ty : goal.application_type-returns-in_err-ty
application_type-returns-in_err-ty g t c = record { retraces = pends_passed c.from_residual.ensures.1 (retraces_err _ c.in_err-ty.ensures.retraces.pends) }

pub application_type-returns-then-not-passes_no_step : goal.application_type-returns-then-not-passes_no_step
application_type-returns-then-not-passes_no_step g t c =
    let stays : c.passes_no_step.new.trail ≡ c.function_type.new.trail = search rules in
    record { retraces = c.whole_type.ensures.retraces _ _ (rw stays c.in_ok-ty.ensures.retraces) }

pub application_type-check_instance-requires : goal.application_type-check_instance-requires
application_type-check_instance-requires g t c =
    let n = ap (λ m. m.nest) c.passes_no_step.ensures.meter ∙ c.in_ok-ty.ensures.retraces.after.nest in
    search rules

pub application_type-returns-in_err-check_instance-in-Prod : goal.application_type-returns-in_err-check_instance-in-Prod
application_type-returns-in_err-check_instance-in-Prod g t c =
    let e = rw c.in-Prod.is at c.view.ensures.is in
    record {
      retraces = pends_passed c.from_residual-in_err-check_instance-in-Prod.ensures.1 (argument_halts _ _ c.passes_no_step.ensures.meter c.in_err-check_instance-in-Prod.ensures.err
          (λ h. retraces_on _ (pends_whole c.in_ok-ty.ensures.retraces)
          (product_stays _ _ _ _ _ _ (pending_product _ e) (search rules) c.passes_no_step.ensures.meter (search rules) (retraces_err _ h)))
          (λ f m. pends_fault f (pending_beyond _ e _ m) c.in_ok-ty.ensures.retraces));
    }

pub application_type-returns-in_err-and-in-Prod : goal.application_type-returns-in_err-and-in-Prod
application_type-returns-in_err-and-in-Prod g t c =
    let e = rw c.in-Prod.is at c.view.ensures.is in
    record {
      retraces = pends_passed c.from_residual-in_err-and-in-Prod.ensures.1 (rw c.in_err-and-in-Prod.ensures.only_memory (retraces_on _ (pends_whole c.in_ok-ty.ensures.retraces)
          (product_stays _ _ _ _ _ _ (pending_product _ e) (search rules) c.passes_no_step.ensures.meter (search rules) (retraces_on _ c.in_ok-check_instance-in-Prod.ensures.ok (retraces_memory _ _)))));
    }

pub application_type-returns-in_ok-and-in-Prod : goal.application_type-returns-in_ok-and-in-Prod
application_type-returns-in_ok-and-in-Prod g t c =
    let e = rw c.in-Prod.is at c.view.ensures.is in
    let k = rw c.in_ok-base-in-Prod.ensures.ok at c.in_ok-and-in-Prod.ensures.ok in
    record {
      retraces = pends_each (λ r m. retraces_on _ (pends_whole c.in_ok-ty.ensures.retraces)
          (product_stays _ _ _ _ _ _ (pending_product _ e) (search rules) c.passes_no_step.ensures.meter (search rules) (retraces_on _ c.in_ok-check_instance-in-Prod.ensures.ok (ends_made r k m))));
    }

pub application_type-returns-in_default : goal.application_type-returns-in_default
application_type-returns-in_default g t c = record { retraces = c.whole_type-in_default.ensures.retraces _ _ c.in_ok-ty.ensures.retraces }

-- an argument against a domain in which arguments are still to be put
pub check_instance-infer-requires : goal.check_instance-infer-requires
check_instance-infer-requires g t c =
    let s : c.fits_leaf.new.trail ≡ c.args.trail.now = search rules in
    let n = ap (λ t. t.meter.nest) s in
    search rules

pub check_instance-returns-in_err-found-clause-err : goal.check_instance-returns-in_err-found-clause-err
unfolding walk_check
check_instance-returns-in_err-found-clause-err g t c =
    let s : c.fits_leaf.new.trail ≡ c.args.trail.now = search rules in
    let p = rw s at c.in_err-found.ensures.retraces in
    halts_passed _ c.from_residual.result c.from_residual.ensures.1 (inl (retraces_err _ p))

pub check_instance-returns-then-fits_instance-clause-ok : goal.check_instance-returns-then-fits_instance-clause-ok
unfolding walk_check
check_instance-returns-then-fits_instance-clause-ok g t c =
    let s : c.fits_leaf.new.trail ≡ c.args.trail.now = search rules in
    let p = rw s at c.in_ok-found.ensures.retraces in
    retraces_on _ p (c.fits_instance.ensures.fits c.if-fits_instance.true c.args.ctx.now)

pub check_instance-fits-requires : goal.check_instance-fits-requires
check_instance-fits-requires g t c =
    let s : c.fits_leaf.new.trail ≡ c.args.trail.now = search rules in
    let u : c.fits_instance.new.trail ≡ c.infer.new.trail = search rules in
    let n = ap (λ t. t.meter.nest) u ∙ c.in_ok-found.ensures.retraces.after.nest ∙ ap (λ t. t.meter.nest) s in
    let k = c.in_ok-found.ensures.inferred.classifier in
    search rules

pub check_instance-returns-clause-ok : goal.check_instance-returns-clause-ok
unfolding walk_check
check_instance-returns-clause-ok g t c =
    let s : c.fits_leaf.new.trail ≡ c.args.trail.now = search rules in
    let u : c.fits_instance.new.trail ≡ c.infer.new.trail = search rules in
    let p = rw s at c.in_ok-found.ensures.retraces in
    let f = rw (c.in_ok-wanted.ensures.making.0, u) at c.fits.ensures.retraces in
    passes_ok c.fits.result (retraces_on _ p f)

pub check_instance-returns-clause-err : goal.check_instance-returns-clause-err
unfolding walk_check
check_instance-returns-clause-err g t c =
    let s : c.fits_leaf.new.trail ≡ c.args.trail.now = search rules in
    let u : c.fits_instance.new.trail ≡ c.infer.new.trail = search rules in
    let p = rw s at c.in_ok-found.ensures.retraces in
    let f = rw (c.in_ok-wanted.ensures.making.0, u) at c.fits.ensures.retraces in
    passes_err _ c.fits.result (retraces_on _ p f)

pub whole_type-returns-in_err-whole : goal.whole_type-returns-in_err-whole
whole_type-returns-in_err-whole g t c =
    record { retraces = λ d t0 p. pends_passed c.from_residual.ensures.1 (retraces_err _ (pends_fault _ c.in_err-whole.ensures.making p)) }

pub whole_type-returns : goal.whole_type-returns
whole_type-returns g t c =
    record { retraces = λ d t0 p. pends_from (λ q f. retraces_on _ (p.pends (Ok _) c.in_ok-whole.ensures.making) f) c.reduced_type.ensures.retraces }

pub reduced_type-returns-in_err-count : goal.reduced_type-returns-in_err-count
reduced_type-returns-in_err-count g t c = record { retraces = pends_passed c.from_residual.ensures.1 (retraces_err _ c.in_err-count.ensures.retraces) }

pub reduced_type-returns-in_err-retype-in-Prod : goal.reduced_type-returns-in_err-retype-in-Prod
reduced_type-returns-in_err-retype-in-Prod g t c =
    let e = rw c.in-Prod.is at c.view.ensures.is in
    record {
      retraces = pends_passed c.from_residual-in_err-retype-in-Prod.ensures.1 (retraces_on _ c.in_ok-count.ensures.retraces
          (product_found _ _ _ _ _ _ _ _ e (retraces_err _ c.in_err-retype-in-Prod.ensures.retraces)));
    }

pub reduced_type-returns-in_err-check-in-Prod : goal.reduced_type-returns-in_err-check-in-Prod
reduced_type-returns-in_err-check-in-Prod g t c =
    let e = rw c.in-Prod.is at c.view.ensures.is in
    record {
      retraces = pends_passed c.from_residual-in_err-check-in-Prod.ensures.1 (retraces_on _ c.in_ok-count.ensures.retraces
          (product_found _ _ _ _ _ _ _ _ e (retraces_on _ c.in_ok-retype-in-Prod.ensures.retraces (retraces_err _ c.in_err-check-in-Prod.ensures.retraces))));
    }

pub reduced_type-returns-in-Prod : goal.reduced_type-returns-in-Prod
reduced_type-returns-in-Prod g t c =
    let e = rw c.in-Prod.is at c.view.ensures.is in
    record {
      retraces = pends_each (λ r m. retraces_on _ c.in_ok-count.ensures.retraces
          (product_found _ _ _ _ _ _ _ _ e (retraces_on _ c.in_ok-retype-in-Prod.ensures.retraces (retraces_on _ c.in_ok-check-in-Prod.ensures.retraces (ends_made r c.in_ok-of_one-in-Prod.ensures.ok m)))));
    }

pub reduced_type-returns : goal.reduced_type-returns
reduced_type-returns g t c = record { retraces = pends_halts (retraces_on _ c.in_ok-count.ensures.retraces (search rules)) }

pub function_type-returns-in-App : goal.function_type-returns-in-App
function_type-returns-in-App g t c = record { retraces = rw (← c.view.ensures.is, c.in-App.is) c.inner_type.ensures.retraces }

pub function_type-inferred_type-requires : goal.function_type-inferred_type-requires
function_type-inferred_type-requires g t c =
    let s : c.constant_head.new.trail ≡ c.args.trail.now = search rules in
    let n = ap (λ t. t.meter.nest) s in
    search rules

pub function_type-inferred_type-requires-in_default : goal.function_type-inferred_type-requires-in_default
function_type-inferred_type-requires-in_default g t c =
    let n = c.requires.nest in
    search rules

pub function_type-returns-in-Some : goal.function_type-returns-in-Some
function_type-returns-in-Some g t c =
    record { retraces = rw (← c.view.ensures.is, c.in-Const.is) (pends_there c.of.ensures.within c.of.ensures.is (c.in-Some.ensures.infers c.args.ctx.now)) }

pub inferred_type-infer-requires : goal.inferred_type-infer-requires
inferred_type-infer-requires g t c =
    let n = c.requires.nest in
    search rules

pub inferred_type-returns-in_err-ty : goal.inferred_type-returns-in_err-ty
inferred_type-returns-in_err-ty g t c = record { retraces = pends_passed c.from_residual.ensures.1 c.in_err-ty.ensures.retraces }

pub inferred_type-returns : goal.inferred_type-returns
inferred_type-returns g t c = record { retraces = pends_there c.of.ensures.within c.of.ensures.is c.in_ok-ty.ensures.retraces }

pub inner_type-returns-then-not-tick : goal.inner_type-returns-then-not-tick
inner_type-returns-then-not-tick g t c =
    let v = c.args.self.now.verifier in
    let f = App c.args.function.now c.args.argument.now in
    let m = infer_spent v.cert.now v.env.now (test_of v.env.now) c.args.ctx.now f v.room c.args.trail.now (record { meter = c.tick.new.self; at = c.args.trail.now.at })
    (search rules) c.tick.ensures.account c.tick.ensures.nest in
    record { retraces = pends_halts m }

pub inner_type-returns-then-not-enter : goal.inner_type-returns-then-not-enter
inner_type-returns-then-not-enter g t c =
    let v = c.args.self.now.verifier in
    let f = App c.args.function.now c.args.argument.now in
    let m = infer_nested v.cert.now v.env.now (test_of v.env.now) c.args.ctx.now f v.room c.args.trail.now (record { meter = c.tick.new.self; at = c.args.trail.now.at })
    (record { meter = c.enter.new.self; at = c.args.trail.now.at }) (search rules) (search rules) c.tick.ensures.account c.tick.ensures.nest c.enter.ensures.account (search rules) in
    record { retraces = pends_halts m }

pub inner_type-returns : goal.inner_type-returns
inner_type-returns g t c =
    let v = c.args.self.now.verifier in
    let f = App c.args.function.now c.args.argument.now in
    record {
      retraces = pends_from (λ q m. infer_entered v.cert.now v.env.now (test_of v.env.now) c.args.ctx.now f v.room (v.room - 1) q c.args.trail.now (record { meter = c.tick.new.self; at = c.args.trail.now.at })
          (record { meter = c.enter.new.self; at = c.args.trail.now.at }) c.application_type-answer.new.trail (record { meter = c.leave.new.self; at = c.application_type-answer.new.trail.at })
          (search rules) (search rules) c.tick.ensures.account c.tick.ensures.nest c.enter.ensures.account (search rules) refl m c.leave.ensures.account c.leave.ensures.nest refl)
          c.application_type-answer.ensures.retraces;
    }

-- the sort of a term
pub sort_of-returns-in_err-found : goal.sort_of-returns-in_err-found
sort_of-returns-in_err-found g t c = record { retraces = retraces_passed c.from_residual.ensures.1 c.in_err-found.ensures.retraces.sorts; counted = passed_nothing _ c.from_residual.result _ c.from_residual.ensures.1 }

pub sort_of-returns-in-Sort : goal.sort_of-returns-in-Sort
sort_of-returns-in-Sort g t c =
    let e = rw c.in-Sort.is at c.view.ensures.is in
    record { retraces = sort_taken c.in_ok-found.ensures.retraces e c.in_ok-share-in-Sort.ensures.value; counted = c.in_ok-found.ensures.counted }

pub sort_term-returns-in_err-ty-clause-retraces : goal.sort_term-returns-in_err-ty-clause-retraces
unfolding walk_sort_of
sort_term-returns-in_err-ty-clause-retraces g t c = given_passed c.from_residual.ensures.1 (retraces_err _ c.in_err-ty.ensures.retraces)

pub sort_term-returns-then-stays_sort-clause-retraces : goal.sort_term-returns-then-stays_sort-clause-retraces
unfolding walk_sort_of
sort_term-returns-then-stays_sort-clause-retraces g t c =
    let v = c.args.self.now.verifier in
    let y = c.if-stays_sort.true in
    let e = c.stays_sort.ensures.sort y in
    sort_given e.1 (retraces_on _ c.in_ok-ty.ensures.retraces (sort_stays v.cert.now v.env.now (inferring v) c.args.ctx.now e.1 (c.stays_sort.ensures.there y) c.stays_sort.ensures.meter (c.stays_sort.ensures.passed y)))

pub sort_term-returns-clause-retraces : goal.sort_term-returns-clause-retraces
unfolding walk_sort_of
sort_term-returns-clause-retraces g t c =
    let stays : c.stays_sort.new.trail ≡ c.infer.new.trail = c.stays_sort.ensures.stays c.if-stays_sort.false in
    given_on c.sort_from.result _ c.in_ok-ty.ensures.retraces (rw stays at c.sort_from.ensures.retraces)

pub sort_term-returns-clause-counted : goal.sort_term-returns-clause-counted
sort_term-returns-clause-counted g t c = if_ok _ c.sort_from.result c.in_ok-ty.ensures.inferred.subject

pub sort_from-returns-in_err-count : goal.sort_from-returns-in_err-count
sort_from-returns-in_err-count g t c = record { retraces = given_passed c.from_residual.ensures.1 (retraces_err _ c.in_err-count.ensures.retraces) }

pub sort_from-returns-then-count-eq0 : goal.sort_from-returns-then-count-eq0
sort_from-returns-then-count-eq0 g t c =
    let e = rw c.in-Sort.is at c.view.ensures.is in
    record { retraces = sort_given e (retraces_on _ c.in_ok-count.ensures.retraces (sort_there (inferring c.args.self.now.verifier) c.args.ctx.now _ _ e _ _ (search rules) refl)) }

pub sort_from-returns-in_err-_above-in-Sort : goal.sort_from-returns-in_err-_above-in-Sort
sort_from-returns-in_err-_above-in-Sort g t c =
    let e = rw c.in-Sort.is at c.view.ensures.is in
    record {
      retraces = given_passed c.from_residual-in_err-_above-in-Sort.ensures.1 (retraces_on _ c.in_ok-count.ensures.retraces
          (sort_goes (inferring c.args.self.now.verifier) c.args.ctx.now _ _ e (search rules) (retraces_err (λ _ w. pass _ w) c.in_err-_above-in-Sort.ensures.retraces)));
    }

pub sort_from-returns-in_ok-_above-in-Sort : goal.sort_from-returns-in_ok-_above-in-Sort
sort_from-returns-in_ok-_above-in-Sort g t c =
    let e = rw c.in-Sort.is at c.view.ensures.is in
    record {
      retraces = sort_given e (retraces_on _ c.in_ok-count.ensures.retraces
          (sort_goes (inferring c.args.self.now.verifier) c.args.ctx.now _ _ e (search rules) (retraces_on (λ _ w. pass _ w) c.in_ok-_above-in-Sort.ensures.retraces (retraces_pass _ _))));
    }

pub sort_from-returns-in_default : goal.sort_from-returns-in_default
sort_from-returns-in_default g t c = record { retraces = given_halts (retraces_on _ c.in_ok-count.ensures.retraces (search rules)) }

-- that a term has a sort
pub sorted-returns-then-passes_sort : goal.sorted-returns-then-passes_sort
sorted-returns-then-passes_sort g t c =
    let v = c.args.self.now.verifier in
    let e = rw c.in-Sort.is at c.view.ensures.is in
    let f = c.passes_sort.ensures.infers c.if-passes_sort.true c.args.ctx.now in
    record {
      retraces = sort_passes v.cert.now v.env.now c.args.ctx.now v.room e c.args.trail.now c.passes_sort.new.trail f (c.passes_sort.ensures.there c.if-passes_sort.true) (c.passes_sort.ensures.passed c.if-passes_sort.true);
      counted = sort_counted v.cert.now v.env.now c.args.ctx.now v.room e c.args.trail.now c.passes_sort.new.trail f c.requires.ready c.view.ensures.formed;
    }

pub sorted-returns-else-passes_sort : goal.sorted-returns-else-passes_sort
sorted-returns-else-passes_sort g t c =
    let stays : c.passes_sort.new.trail ≡ c.args.trail.now = c.passes_sort.ensures.stays c.if-passes_sort.false in
    record { retraces = rw stays at c.inferred_sorted.ensures.retraces; counted = c.inferred_sorted.ensures.counted }

pub sorted-returns-then-passes_family : goal.sorted-returns-then-passes_family
sorted-returns-then-passes_family g t c =
    let v = c.args.self.now.verifier in
    let e = rw c.in-Ind.is at c.view.ensures.is in
    let y = c.if-passes_family.true in
    let f = (c.passes_family.ensures.infers y).1 c.args.ctx.now in
    record {
      retraces = sort_passes v.cert.now v.env.now c.args.ctx.now v.room e c.args.trail.now c.passes_family.new.trail f (c.passes_family.ensures.there y) (c.passes_family.ensures.passed y);
      counted = sort_counted v.cert.now v.env.now c.args.ctx.now v.room e c.args.trail.now c.passes_family.new.trail f c.requires.ready c.view.ensures.formed;
    }

pub sorted-returns-else-passes_family : goal.sorted-returns-else-passes_family
sorted-returns-else-passes_family g t c =
    let stays : c.passes_family.new.trail ≡ c.args.trail.now = c.passes_family.ensures.stays c.if-passes_family.false in
    record { retraces = rw stays at c.inferred_sorted-in-Ind.ensures.retraces; counted = c.inferred_sorted-in-Ind.ensures.counted }

pub inferred_sorted-returns-in_err-_found : goal.inferred_sorted-returns-in_err-_found
inferred_sorted-returns-in_err-_found g t c = record { retraces = unread_passed c.from_residual.ensures.1 c.in_err-_found.ensures.retraces.sorts; counted = passed_nothing _ c.from_residual.result _ c.from_residual.ensures.1 }

pub inferred_sorted-returns : goal.inferred_sorted-returns
inferred_sorted-returns g t c = record { retraces = unread_done c.in_ok-_found.ensures.retraces.sorts.1.1; counted = c.in_ok-_found.ensures.counted }

-- a term against a type
pub check-returns-in_err-found-clause-retraces : goal.check-returns-in_err-found-clause-retraces
unfolding walk_check
check-returns-in_err-found-clause-retraces g t c = retraces_passed c.from_residual.ensures.1 (retraces_err _ c.in_err-found.ensures.retraces)

pub check-returns-clause-retraces : goal.check-returns-clause-retraces
unfolding walk_check
check-returns-clause-retraces g t c = retraces_on _ c.in_ok-found.ensures.retraces c.fits.ensures.retraces

pub check-returns-clause-counted : goal.check-returns-clause-counted
check-returns-clause-counted g t c = if_ok _ c.fits.result c.in_ok-found.ensures.inferred.subject

-- a type in place of another
pub retype-returns-then-count-eq0 : goal.retype-returns-then-count-eq0
retype-returns-then-count-eq0 g t c = record { retraces = no_retype _ _ _ _ _ c.args.count _ (search rules) }

pub retype-returns-in_err-sorted : goal.retype-returns-in_err-sorted
retype-returns-in_err-sorted g t c = record { retraces = retraces_passed c.from_residual.ensures.1 (retype_stops _ _ _ _ _ c.args.count _ _ _ (search rules) c.in_err-sorted.ensures.retraces.unread) }

pub retype-returns : goal.retype-returns
retype-returns g t c = record { retraces = retype_goes _ _ _ _ _ c.args.count _ _ _ (search rules) c.in_ok-sorted.ensures.retraces.unread.1 }

-- the types of the definitions of a fixpoint
pub types_rule-sorted-requires : goal.types_rule-sorted-requires
types_rule-sorted-requires g t c =
    let r = c.loop-i.invariant.ready in
    let n = c.loop-i.invariant.after.nest in
    search rules

pub types_rule-loop-i-init : goal.types_rule-loop-i-init
types_rule-loop-i-init g t c =
    rw c.in_ok-under.ensures.same (record { rest = λ r n x. x; after = after-refl c.args.trail.now.meter; under = refl; ready = c.requires.ready })

pub types_rule-returns-in_err-ty-clause-retraces : goal.types_rule-returns-in_err-ty-clause-retraces
types_rule-returns-in_err-ty-clause-retraces g t c =
    retraces_with c.from_residual-in_err-ty.result c.from_residual-in_err-ty.ensures.1 (rw c.as_slice-items.ensures.is at (c.loop-i.invariant.rest _ _
    (types_fault _ _ _ _ _ _ _ (grind arith) c.index-items-i.is _ _ (rw (← c.index-items-i.is) at c.in_err-ty.ensures.too_deep))))

pub types_rule-returns-in_err-sorted-clause-retraces : goal.types_rule-returns-in_err-sorted-clause-retraces
types_rule-returns-in_err-sorted-clause-retraces g t c =
    retraces_with c.from_residual-in_err-sorted.result c.from_residual-in_err-sorted.ensures.1 (rw c.as_slice-items.ensures.is at (c.loop-i.invariant.rest _ _
    (types_stop _ _ _ _ _ _ _ (grind arith) c.index-items-i.is _ _ _ _ (rw (← c.index-items-i.is) at c.in_ok-ty.ensures.parallel) c.in_err-sorted.ensures.retraces.unread)))

pub types_rule-returns-in_err-under-2-clause-retraces : goal.types_rule-returns-in_err-under-2-clause-retraces
types_rule-returns-in_err-under-2-clause-retraces g t c =
    retraces_with c.from_residual-in_err-under-2.result c.from_residual-in_err-under-2.ensures.1 (rw c.in_err-under-2.ensures.only_memory (rw c.as_slice-items.ensures.is at (c.loop-i.invariant.rest _ _
    (types_next _ _ _ _ _ _ _ (grind arith) c.index-items-i.is _ _ _ _ _ _ (rw (← c.index-items-i.is) at c.in_ok-ty.ensures.parallel) c.in_ok-sorted.ensures.retraces.unread.1 (retraces_memory _ _)))))

pub types_rule-loop-i-preserved : goal.types_rule-loop-i-preserved
types_rule-loop-i-preserved g t c =
    let l : c.loop-i.i < length c.as_slice-items.result.now = grind arith in
    let k = rw (← c.index-items-i.is) at c.in_ok-ty.ensures.parallel in
    let e = c.in_ok-under-2.ensures.longer in
    record {
      rest = λ r n x. c.loop-i.invariant.rest r n (types_next _ _ _ _ _ _ _ l c.index-items-i.is _ _ r _ _ n k c.in_ok-sorted.ensures.retraces.unread.1 (rw e at x));
      after = after-trans _ _ _ c.loop-i.invariant.after c.in_ok-sorted.ensures.retraces.after;
      under = c.loop-i.invariant.under ∙ rw e (definitions_next _ _ _ _ l c.index-items-i.is _ k);
      ready = rw e (assumed_ready _ _ _ c.loop-i.invariant.ready c.in_ok-sorted.ensures.counted);
    }

pub types_rule-returns-clause-retraces : goal.types_rule-returns-clause-retraces
types_rule-returns-clause-retraces g t c = rw c.as_slice-items.ensures.is at (c.loop-i.invariant.rest _ _ (types_done _ _ _ _ _ _ _ (grind arith)))

pub types_rule-returns-clause-under : goal.types_rule-returns-clause-under
types_rule-returns-clause-under g t c = sym (rw c.as_slice-items.ensures.is at (c.loop-i.invariant.under ∙ definitions_done c.loop-i.under c.as_slice-items.result.now c.loop-i.i (grind arith)))

-- a definition of a fixpoint
pub definition_rule-returns-in_default : goal.definition_rule-returns-in_default
definition_rule-returns-in_default g t c = record { retraces = λ d. few_lambdas _ _ _ _ _ _ d c.args.def.now (sym c.in_ok-inner.ensures.found ∙ c.in_default.is) }

pub definition_rule-returns-in_err-ty : goal.definition_rule-returns-in_err-ty
definition_rule-returns-in_err-ty g t c =
    record {
      retraces = λ d. retraces_passed c.from_residual-in_err-ty.ensures.1 (lambdas_found _ _ _ _ _ _ d c.args.def.now (sym c.in_ok-inner.ensures.found ∙ c.in-Some.is)
          (retraces_err _ (retraces_fault _ _ _ (lift_beyond c.args.count c.args.def.now.ty c.in_err-ty.field-0.0 c.in_err-ty.ensures.too_deep))));
    }

pub definition_rule-returns-in_err-check : goal.definition_rule-returns-in_err-check
definition_rule-returns-in_err-check g t c =
    record {
      retraces = λ d. retraces_passed c.from_residual-in_err-check.ensures.1 (lambdas_found _ _ _ _ _ _ d c.args.def.now (sym c.in_ok-inner.ensures.found ∙ c.in-Some.is)
          (retraces_on _ (retraces_made _ _ _ c.in_ok-ty.ensures.parallel) (retraces_err _ c.in_err-check.ensures.retraces)));
    }

pub definition_rule-returns-in_err-found : goal.definition_rule-returns-in_err-found
definition_rule-returns-in_err-found g t c =
    record {
      retraces = λ d. retraces_passed c.from_residual-in_err-found.ensures.1 (lambdas_found _ _ _ _ _ _ d c.args.def.now (sym c.in_ok-inner.ensures.found ∙ c.in-Some.is)
          (retraces_on _ (retraces_made _ _ _ c.in_ok-ty.ensures.parallel) (retraces_on _ c.in_ok-check.ensures.retraces (retraces_err _ c.in_err-found.ensures.retraces))));
    }

pub definition_rule-returns-then-is_of_family : goal.definition_rule-returns-then-is_of_family
definition_rule-returns-then-is_of_family g t c =
    let W = c.in_ok-found.found in
    record {
      retraces = λ d. lambdas_found _ _ _ _ _ _ d c.args.def.now (sym c.in_ok-inner.ensures.found ∙ c.in-Some.is)
          (retraces_on _ (retraces_made _ _ _ c.in_ok-ty.ensures.parallel) (retraces_on _ c.in_ok-check.ensures.retraces (retraces_on _ c.in_ok-found.ensures.retraces (is_family _ W _ _ c.is_of_family.ensures.is c.if-is_of_family.true))));
    }

pub definition_rule-returns : goal.definition_rule-returns
definition_rule-returns g t c =
    let W = c.in_ok-found.found in
    record {
      retraces = λ d. lambdas_found _ _ _ _ _ _ d c.args.def.now (sym c.in_ok-inner.ensures.found ∙ c.in-Some.is)
          (retraces_on _ (retraces_made _ _ _ c.in_ok-ty.ensures.parallel) (retraces_on _ c.in_ok-check.ensures.retraces (retraces_on _ c.in_ok-found.ensures.retraces (no_family_found _ W _ _ c.is_of_family.ensures.is c.if-is_of_family.false))));
    }

-- the definitions of a fixpoint
pub definitions_rule-loop-i-init : goal.definitions_rule-loop-i-init
definitions_rule-loop-i-init g t c = record { rest = λ r n x. x; after = after-refl c.args.trail.now.meter }

pub definitions_rule-definition_rule-requires : goal.definitions_rule-definition_rule-requires
definitions_rule-definition_rule-requires g t c = let n = c.loop-i.invariant.after.nest in search rules

pub definitions_rule-loop-i-preserved : goal.definitions_rule-loop-i-preserved
definitions_rule-loop-i-preserved g t c =
    let l : c.loop-i.i < length c.as_slice-items.result.now = grind arith in
    let n : c.in-Ok.count ≡ length c.as_slice-items.result.now = grind arith in
    let f = rw n at (c.in_ok-definition_rule.ensures.retraces c.loop-i.i) in
    record {
      rest = λ r m x. c.loop-i.invariant.rest r m (definitions_go _ _ _ _ _ _ _ _ _ l c.index-items-i.is r _ _ m f x);
      after = after-trans _ _ _ c.loop-i.invariant.after f.after;
    }

pub definitions_rule-returns-in_err-definition_rule : goal.definitions_rule-returns-in_err-definition_rule
definitions_rule-returns-in_err-definition_rule g t c =
    let l : c.loop-i.i < length c.as_slice-items.result.now = grind arith in
    let n : c.in-Ok.count ≡ length c.as_slice-items.result.now = grind arith in
    let f = rw n at (c.in_err-definition_rule.ensures.retraces c.loop-i.i) in
    record { retraces = retraces_passed c.from_residual.ensures.1 (rw c.as_slice-items.ensures.is at (c.loop-i.invariant.rest _ _ (definitions_stop _ _ _ _ _ _ _ _ _ l c.index-items-i.is _ _ _ f))) }

pub definitions_rule-returns : goal.definitions_rule-returns
definitions_rule-returns g t c = record { retraces = rw c.as_slice-items.ensures.is at (c.loop-i.invariant.rest _ _ (definitions_end _ _ _ _ _ _ _ _ _ (grind arith))) }

-- a fixpoint
pub fix_rule-definitions_rule-requires : goal.fix_rule-definitions_rule-requires
fix_rule-definitions_rule-requires g t c =
    let r = c.in_ok-under.ensures.inner in
    let n = c.in_ok-under.ensures.retraces.after.nest in
    search rules

pub fix_rule-fix-requires : goal.fix_rule-fix-requires
fix_rule-fix-requires g t c =
    let q = all_definitions _ _ _ _ _ c.args.defs.now (rw c.in_ok-under.ensures.under at c.in_ok-definitions_rule.ensures.retraces) in
    let k = guardable _ c.args.self.now.verifier.env.now c.args.ctx.now c.args.index _ _ _ c.args.self.now.verifier.room c.args.trail.now c.types_rule.new.trail c.definitions_rule.new.trail c.requires.ready (rw (← c.requires.whole) at c.requires.formed) c.in_ok-under.ensures.retraces q in
    rw (← c.requires.whole) (record { env = c.requires.ready.env; ctx = c.requires.ready.context; counted = k.counted; lambdas = k.lambdas; families = k.families })

pub fix_rule-returns-in_err-under : goal.fix_rule-returns-in_err-under
fix_rule-returns-in_err-under g t c = record { retraces = retraces_passed c.from_residual.ensures.1 (retraces_err _ c.in_err-under.ensures.retraces) }

pub fix_rule-returns-in_err-definitions_rule : goal.fix_rule-returns-in_err-definitions_rule
fix_rule-returns-in_err-definitions_rule g t c =
    let q = all_definitions _ _ _ _ _ c.args.defs.now (rw c.in_ok-under.ensures.under at c.in_err-definitions_rule.ensures.retraces) in
    record { retraces = retraces_passed c.from_residual-in_err-definitions_rule.ensures.1 ((retraces_on _ c.in_ok-under.ensures.retraces (retraces_err _ q))) }

pub fix_rule-returns-in_err-at_item : goal.fix_rule-returns-in_err-at_item
fix_rule-returns-in_err-at_item g t c =
    let q = all_definitions _ _ _ _ _ c.args.defs.now (rw c.in_ok-under.ensures.under at c.in_ok-definitions_rule.ensures.retraces) in
    let w = retraces_follows _ _ c.in_err-at_item.ensures.is (rw (← c.requires.whole) at c.fix.ensures.follows) refl in
    record { retraces = retraces_passed c.from_residual-in_err-at_item.ensures.1 ((retraces_on _ c.in_ok-under.ensures.retraces (retraces_on _ q (retraces_err _ w)))) }

pub fix_rule-returns : goal.fix_rule-returns
fix_rule-returns g t c =
    let q = all_definitions _ _ _ _ _ c.args.defs.now (rw c.in_ok-under.ensures.under at c.in_ok-definitions_rule.ensures.retraces) in
    let w = retraces_follows _ _ c.in_ok-at_item.ensures.is (rw (← c.requires.whole) at c.fix.ensures.follows) refl in
    record { retraces = (retraces_on _ c.in_ok-under.ensures.retraces (retraces_on _ q (retraces_on _ w (retraces_answers _ _ c.at_item-2.ensures.is (c.definition_type.ensures.answers _))))) }

-- the entries of a telescope
pub entered-loop-i-init : goal.entered-loop-i-init
entered-loop-i-init g t c =
    rw c.in_ok-inner.ensures.same (record { rest = λ r n x. x; longer = refl; ready = c.requires.ready; counted = tt; after = after-refl c.args.trail.now.meter })

pub entered-sorted-requires : goal.entered-sorted-requires
entered-sorted-requires g t c =
    let r = c.loop-i.invariant.ready in
    let n = c.loop-i.invariant.after.nest in
    search rules

pub entered-loop-i-preserved : goal.entered-loop-i-preserved
entered-loop-i-preserved g t c =
    rw (c.in_ok-inner-2.ensures.longer, c.in_ok-share.ensures.ok) (record {
      rest = λ r n x. c.loop-i.invariant.rest r n (entered_next _ _ _ _ _ _ _ c.loop-i-test.true c.index-items-i.is _ r _ _ n c.in_ok-sorted.ensures.retraces.unread.1 x);
      longer = longer_next _ _ _ _ c.loop-i-test.true c.index-items-i.is ∙ c.loop-i.invariant.longer;
      ready = assumed_ready _ _ _ c.loop-i.invariant.ready c.in_ok-sorted.ensures.counted;
      counted = rw (take_next _ _ _ c.loop-i-test.true c.index-items-i.is) (appended_counted c.args.self.now.verifier.env.now _ (c.index-items-i.result ∷ []) c.loop-i.invariant.counted (c.in_ok-sorted.ensures.counted, tt));
      after = after-trans _ _ _ c.loop-i.invariant.after c.in_ok-sorted.ensures.retraces.after;
    })

pub entered-returns-in_err-sorted-clause-retraces : goal.entered-returns-in_err-sorted-clause-retraces
entered-returns-in_err-sorted-clause-retraces g t c =
    retraces_with c.from_residual-in_err-sorted.result c.from_residual-in_err-sorted.ensures.1 (rw c.as_slice-items.ensures.is at (c.loop-i.invariant.rest _ _ (entered_stop _ _ _ _ _ _ _ c.loop-i-test.true c.index-items-i.is _ _ _ c.in_err-sorted.ensures.retraces.unread)))

pub entered-returns-in_err-share-clause-retraces : goal.entered-returns-in_err-share-clause-retraces
entered-returns-in_err-share-clause-retraces g t c =
    retraces_with c.from_residual-in_err-share.result c.from_residual-in_err-share.ensures.1 (rw c.in_err-share.ensures.only_memory (rw c.as_slice-items.ensures.is at (c.loop-i.invariant.rest _ _
    (entered_next _ _ _ _ _ _ _ c.loop-i-test.true c.index-items-i.is _ _ _ _ _ c.in_ok-sorted.ensures.retraces.unread.1 (retraces_memory _ _)))))

pub entered-returns-in_err-inner-2-clause-retraces : goal.entered-returns-in_err-inner-2-clause-retraces
entered-returns-in_err-inner-2-clause-retraces g t c =
    retraces_with c.from_residual-in_err-inner-2.result c.from_residual-in_err-inner-2.ensures.1 (rw c.in_err-inner-2.ensures.only_memory (rw c.as_slice-items.ensures.is at (c.loop-i.invariant.rest _ _
    (entered_next _ _ _ _ _ _ _ c.loop-i-test.true c.index-items-i.is _ _ _ _ _ c.in_ok-sorted.ensures.retraces.unread.1 (retraces_memory _ _)))))

pub entered-returns-clause-retraces : goal.entered-returns-clause-retraces
entered-returns-clause-retraces g t c = rw c.as_slice-items.ensures.is at (c.loop-i.invariant.rest _ _ (entered_end _ _ _ _ _ _ _ c.loop-i-test.false))

-- terms against a telescope
pub check_all-loop-i-init : goal.check_all-loop-i-init
check_all-loop-i-init g t c = rw c.new-before.ensures.empty (record { rest = λ r n x. x; before = refl; counted = tt; after = after-refl c.args.trail.now.meter })

pub check_all-check-requires : goal.check_all-check-requires
check_all-check-requires g t c = let n = c.loop-i.invariant.after.nest in search rules

pub check_all-loop-i-preserved : goal.check_all-loop-i-preserved
check_all-loop-i-preserved g t c =
    let k : c.loop-i.i < length c.as_slice-types.result.now = grind arith in
    let a = rw c.in_ok-share.ensures.ok at c.in_ok-push.ensures.ok in
    record {
      rest = λ r n x. c.loop-i.invariant.rest r n (all_next _ _ _ _ _ _ _ _ _ _ _ _ c.loop-i-test.true k c.index-listed-i.is c.index-types-i.is _ _ r _ _ n c.in_ok-ty.ensures.ok a c.in_ok-check.ensures.retraces x);
      before = a ∙ ap (λ xs. xs ++ (c.index-listed-i.result ∷ [])) c.loop-i.invariant.before ∙ sym (take_next _ _ _ c.loop-i-test.true c.index-listed-i.is);
      counted = rw a (appended_counted c.args.self.now.verifier.env.now c.loop-i.before (c.index-listed-i.result ∷ []) c.loop-i.invariant.counted (c.in_ok-check.ensures.counted, tt));
      after = after-trans _ _ _ c.loop-i.invariant.after c.in_ok-check.ensures.retraces.after;
    }

pub check_all-returns-in_err-ty-clause-retraces : goal.check_all-returns-in_err-ty-clause-retraces
check_all-returns-in_err-ty-clause-retraces g t c =
    retraces_passed c.from_residual.ensures.1 (rw (c.as_slice-listed.ensures.is, c.as_slice-types.ensures.is) at (c.loop-i.invariant.rest _ _
    (all_fault _ _ _ _ _ (λ i. Rel (c.args.raise + i)) _ _ c.loop-i.before _ _ _ c.loop-i-test.true (grind arith) c.index-listed-i.is c.index-types-i.is _ _ c.in_err-ty.ensures.too_deep)))

pub check_all-returns-in_err-check-clause-retraces : goal.check_all-returns-in_err-check-clause-retraces
check_all-returns-in_err-check-clause-retraces g t c =
    retraces_passed c.from_residual-in_err-check.ensures.1 (rw (c.as_slice-listed.ensures.is, c.as_slice-types.ensures.is) at (c.loop-i.invariant.rest _ _
    (all_stop _ _ _ _ _ _ _ _ c.loop-i.before _ _ _ c.loop-i-test.true (grind arith) c.index-listed-i.is c.index-types-i.is _ _ _ _ c.in_ok-ty.ensures.ok c.in_err-check.ensures.retraces)))

pub check_all-returns-in_err-share-clause-retraces : goal.check_all-returns-in_err-share-clause-retraces
check_all-returns-in_err-share-clause-retraces g t c =
    retraces_passed c.from_residual-in_err-share.ensures.1 (rw c.in_err-share.ensures.only_memory (rw (c.as_slice-listed.ensures.is, c.as_slice-types.ensures.is) at (c.loop-i.invariant.rest _ _
    (all_next _ _ _ _ _ _ _ _ _ _ _ _ c.loop-i-test.true (grind arith) c.index-listed-i.is c.index-types-i.is _ (c.loop-i.before ++ (c.index-listed-i.result ∷ [])) _ _ _ _ c.in_ok-ty.ensures.ok refl c.in_ok-check.ensures.retraces (retraces_memory _ _)))))

pub check_all-returns-in_err-push-clause-retraces : goal.check_all-returns-in_err-push-clause-retraces
check_all-returns-in_err-push-clause-retraces g t c =
    retraces_passed c.from_residual-in_err-push.ensures.1 (rw c.in_err-push.ensures.only_memory.0 (rw (c.as_slice-listed.ensures.is, c.as_slice-types.ensures.is) at (c.loop-i.invariant.rest _ _
    (all_next _ _ _ _ _ _ _ _ _ _ _ _ c.loop-i-test.true (grind arith) c.index-listed-i.is c.index-types-i.is _ (c.loop-i.before ++ (c.index-listed-i.result ∷ [])) _ _ _ _ c.in_ok-ty.ensures.ok refl c.in_ok-check.ensures.retraces (retraces_memory _ _)))))

pub check_all-returns : goal.check_all-returns
check_all-returns g t c =
    let all = c.loop-i.invariant.before ∙ take_all c.loop-i.i c.as_slice-listed.result.now c.loop-i-test.false ∙ c.as_slice-listed.ensures.is in
    record {
      retraces = rw (c.as_slice-listed.ensures.is, c.as_slice-types.ensures.is) at (c.loop-i.invariant.rest _ _ (all_end _ _ _ _ _ _ c.as_slice-listed.result.now c.as_slice-types.result.now c.loop-i.before c.loop-i.i _ c.loop-i-test.false));
      counted = rw all at c.loop-i.invariant.counted;
    }

-- a match's predicate
pub predicate_rule-returns-in_err-entries : goal.predicate_rule-returns-in_err-entries
predicate_rule-returns-in_err-entries g t c = record { retraces = retraces_passed c.from_residual.ensures.1 (retraces_beyond _ _ _ _ (λ e. c.in_err-entries.ensures.too_deep e c.args.block.now.params)) }

pub predicate_rule-returns-in_err-inner : goal.predicate_rule-returns-in_err-inner
predicate_rule-returns-in_err-inner g t c =
    record { retraces = retraces_passed c.from_residual-in_err-inner.ensures.1 (retraces_passing _ _ (retraces_before _ _ (rw (c.in_ok-entries.ensures.ok c.args.block.now.params) at c.in_err-inner.ensures.retraces))) }

pub predicate_rule-returns-in_err-target : goal.predicate_rule-returns-in_err-target
predicate_rule-returns-in_err-target g t c =
    let es = c.in_ok-entries.ensures.ok c.args.block.now.params in
    record {
      retraces = retraces_passed c.from_residual-in_err-target.ensures.1 (retraces_passing _ _ (retraces_after _ _ (rw es at c.in_ok-inner.ensures.retraces)
          (retraces_err _ (rw (c.in_ok-inner.ensures.longer, es) at c.in_err-target.ensures.retraces))));
    }

pub predicate_rule-returns : goal.predicate_rule-returns
predicate_rule-returns g t c =
    let es = c.in_ok-entries.ensures.ok c.args.block.now.params in
    record {
      retraces = retraces_passing _ _ (retraces_after _ _ (rw es at c.in_ok-inner.ensures.retraces)
          (retraces_on _ (rw (c.in_ok-inner.ensures.longer, es) at c.in_ok-target.ensures.retraces) (retraces_answers _ _ c.at_item.ensures.is (c.eliminated.ensures.answers _))));
    }

-- a scrutinee
pub scrutinee_rule-fits-requires : goal.scrutinee_rule-fits-requires
scrutinee_rule-fits-requires g t c =
    let w : IsCounted c.args.self.now.verifier.env.now c.in_ok-count.found = whnf_is_counted _ _ _ _ _ c.requires.ready c.in_ok-ty.ensures.inferred c.in_ok-count.ensures.steps in
    let n = c.in_ok-retype.ensures.retraces.after.nest ∙ c.in_ok-count.ensures.retraces.after.nest ∙ c.in_ok-ty.ensures.retraces.after.nest in
    search rules

pub scrutinee_rule-returns-in_err-ty : goal.scrutinee_rule-returns-in_err-ty
scrutinee_rule-returns-in_err-ty g t c = record { retraces = retraces_passed c.from_residual.ensures.1 (retraces_err _ c.in_err-ty.ensures.retraces) }

pub scrutinee_rule-returns-in_err-count : goal.scrutinee_rule-returns-in_err-count
scrutinee_rule-returns-in_err-count g t c =
    record { retraces = retraces_passed c.from_residual-in_err-count.ensures.1 (retraces_on _ c.in_ok-ty.ensures.retraces (retraces_err _ c.in_err-count.ensures.retraces)) }

pub scrutinee_rule-returns-in_err-indices : goal.scrutinee_rule-returns-in_err-indices
scrutinee_rule-returns-in_err-indices g t c =
    let w = family_halts c.args.x.now.family (with_parameters c.args.block.now.params c.args.family.now) c.infer.new.trail.at c.in_ok-count.found c.reduced.new.trail _ _ _ c.in_err-indices.ensures.is c.found_indices.ensures.halts in
    record { retraces = retraces_passed c.from_residual-in_err-indices.ensures.1 (retraces_on _ c.in_ok-ty.ensures.retraces (retraces_on _ c.in_ok-count.ensures.retraces (retraces_err _ w))) }

pub scrutinee_rule-returns-in_err-retype : goal.scrutinee_rule-returns-in_err-retype
scrutinee_rule-returns-in_err-retype g t c =
    let f = family_there c.args.x.now.family (with_parameters c.args.block.now.params c.args.family.now) c.infer.new.trail.at c.in_ok-count.found c.reduced.new.trail (told_of _ _ _ _ c.in_ok-indices.ensures.is c.found_indices.ensures.found) in
    record {
      retraces = retraces_passed c.from_residual-in_err-retype.ensures.1 (retraces_on _ c.in_ok-ty.ensures.retraces (retraces_on _ c.in_ok-count.ensures.retraces
          (retraces_on _ f (retraces_err _ c.in_err-retype.ensures.retraces))));
    }

pub scrutinee_rule-returns-in_err-asked : goal.scrutinee_rule-returns-in_err-asked
scrutinee_rule-returns-in_err-asked g t c =
    let f = family_there c.args.x.now.family (with_parameters c.args.block.now.params c.args.family.now) c.infer.new.trail.at c.in_ok-count.found c.reduced.new.trail (told_of _ _ _ _ c.in_ok-indices.ensures.is c.found_indices.ensures.found) in
    let i = told_of _ _ _ _ c.in_ok-indices.ensures.is c.found_indices.ensures.indices in
    let d = rw i at c.in_err-asked.ensures.too_deep in
    record {
      retraces = retraces_passed c.from_residual-in_err-asked.ensures.1 (retraces_on _ c.in_ok-ty.ensures.retraces (retraces_on _ c.in_ok-count.ensures.retraces
          (retraces_on _ f (retraces_on _ c.in_ok-retype.ensures.retraces (retraces_err _ (retraces_fault _ _ _ d))))));
    }

pub scrutinee_rule-returns-in_err-fits : goal.scrutinee_rule-returns-in_err-fits
scrutinee_rule-returns-in_err-fits g t c =
    let f = family_there c.args.x.now.family (with_parameters c.args.block.now.params c.args.family.now) c.infer.new.trail.at c.in_ok-count.found c.reduced.new.trail (told_of _ _ _ _ c.in_ok-indices.ensures.is c.found_indices.ensures.found) in
    let i = told_of _ _ _ _ c.in_ok-indices.ensures.is c.found_indices.ensures.indices in
    record {
      retraces = retraces_passed c.from_residual-in_err-fits.ensures.1 (retraces_on _ c.in_ok-ty.ensures.retraces (retraces_on _ c.in_ok-count.ensures.retraces
          (retraces_on _ f (retraces_on _ c.in_ok-retype.ensures.retraces (retraces_on _ (retraces_made _ _ _ (rw i at c.in_ok-asked.ensures.ok)) (retraces_err _ c.in_err-fits.ensures.retraces))))));
    }

pub scrutinee_rule-returns : goal.scrutinee_rule-returns
scrutinee_rule-returns g t c =
    let f = family_there c.args.x.now.family (with_parameters c.args.block.now.params c.args.family.now) c.infer.new.trail.at c.in_ok-count.found c.reduced.new.trail (told_of _ _ _ _ c.in_ok-indices.ensures.is c.found_indices.ensures.found) in
    let i = told_of _ _ _ _ c.in_ok-indices.ensures.is c.found_indices.ensures.indices in
    record {
      retraces = rw i (retraces_on _ c.in_ok-ty.ensures.retraces (retraces_on _ c.in_ok-count.ensures.retraces
          (retraces_on _ f (retraces_on _ c.in_ok-retype.ensures.retraces (retraces_on _ (retraces_made _ _ _ (rw i at c.in_ok-asked.ensures.ok)) (retraces_on _ c.in_ok-fits.ensures.retraces (retraces_pass _ _)))))));
    }

-- a branch
pub branch_rule-returns-in_err-entries : goal.branch_rule-returns-in_err-entries
branch_rule-returns-in_err-entries g t c = record { retraces = retraces_passed c.from_residual.ensures.1 (retraces_beyond _ _ _ _ c.in_err-entries.ensures.too_deep) }

pub branch_rule-returns-in_err-inner : goal.branch_rule-returns-in_err-inner
branch_rule-returns-in_err-inner g t c =
    record { retraces = retraces_passed c.from_residual-in_err-inner.ensures.1 (retraces_passing _ _ (retraces_before _ _ (rw c.in_ok-entries.ensures.ok at c.in_err-inner.ensures.retraces))) }

pub branch_rule-returns-in_err-ty : goal.branch_rule-returns-in_err-ty
branch_rule-returns-in_err-ty g t c =
    record { retraces = retraces_passed c.from_residual-in_err-ty.ensures.1 (retraces_passing _ _ (retraces_after _ _ (rw c.in_ok-entries.ensures.ok at c.in_ok-inner.ensures.retraces) (retraces_beyond _ _ _ _ c.in_err-ty.ensures.too_deep))) }

pub branch_rule-returns : goal.branch_rule-returns
branch_rule-returns g t c =
    record {
      retraces = retraces_passing _ _ (retraces_after _ _ (rw c.in_ok-entries.ensures.ok at c.in_ok-inner.ensures.retraces)
          (retraces_passing _ _ (rw (c.in_ok-inner.ensures.longer, c.in_ok-entries.ensures.ok, c.in_ok-ty.ensures.ok) at c.check.ensures.retraces)));
    }

-- branches
pub branches_rule-loop-i-init : goal.branches_rule-loop-i-init
branches_rule-loop-i-init g t c = record { rest = λ r n x. x; after = after-refl c.args.trail.now.meter }

pub branches_rule-branch_rule-requires : goal.branches_rule-branch_rule-requires
branches_rule-branch_rule-requires g t c = let n = c.loop-i.invariant.after.nest in search rules

pub branches_rule-loop-i-preserved : goal.branches_rule-loop-i-preserved
branches_rule-loop-i-preserved g t c =
    record {
      rest = λ r n x. c.loop-i.invariant.rest r n (branches_next _ _ _ _ _ _ _ _ _ _ _ _ _ (grind arith) (grind arith) c.index-listed-i.is c.index-bodies-i.is r _ _ n c.in_ok-branch_rule.ensures.retraces x);
      after = after-trans _ _ _ c.loop-i.invariant.after c.in_ok-branch_rule.ensures.retraces.after;
    }

pub branches_rule-returns-in_err-branch_rule : goal.branches_rule-returns-in_err-branch_rule
branches_rule-returns-in_err-branch_rule g t c =
    record {
      retraces = retraces_passed c.from_residual.ensures.1 (rw (c.as_slice-listed.ensures.is, c.as_slice-bodies.ensures.is) at (c.loop-i.invariant.rest _ _
          (branches_stop _ _ _ _ _ _ _ _ _ _ _ _ _ (grind arith) (grind arith) c.index-listed-i.is c.index-bodies-i.is _ _ _ c.in_err-branch_rule.ensures.retraces)));
    }

pub branches_rule-returns : goal.branches_rule-returns
branches_rule-returns g t c =
    record { retraces = rw (c.as_slice-listed.ensures.is, c.as_slice-bodies.ensures.is) at (c.loop-i.invariant.rest _ _ (branches_end _ _ _ _ _ _ _ _ _ _ _ _ (grind arith))) }

-- a match
pub case_rule-returns-in-Err : goal.case_rule-returns-in-Err
case_rule-returns-in-Err g t c = record { retraces = case_unknown c.args.x.now _ _ _ _ _ _ c.halt_at.ensures.is c.in-Err.ensures.halts }

pub case_rule-returns-in_err-at_item : goal.case_rule-returns-in_err-at_item
case_rule-returns-in_err-at_item g t c =
    let b = c.in-Ok.ensures in
    let k = retraces_answers _ _ c.in_err-at_item.ensures.is (c.match_counted.ensures.answers _) in
    record { retraces = retraces_passed c.from_residual.ensures.1 (case_goes c.args.x.now _ _ _ _ _ b.block b.found (retraces_err _ k)) }

pub case_rule-check_all-requires : goal.case_rule-check_all-requires
case_rule-check_all-requires g t c =
    let e = told_of _ _ _ _ c.in_ok-at_item.ensures.is c.match_counted.ensures.params in
    search rules

pub case_rule-returns-in_err-check_all : goal.case_rule-returns-in_err-check_all
case_rule-returns-in_err-check_all g t c =
    let b = c.in-Ok.ensures in
    let k = retraces_answers _ _ c.in_ok-at_item.ensures.is (c.match_counted.ensures.answers _) in
    record { retraces = retraces_passed c.from_residual-in_err-check_all.ensures.1 (case_goes c.args.x.now _ _ _ _ _ b.block b.found (retraces_on _ k (retraces_err _ (raised_by_none _ _ _ _ _ _ _ c.in_err-check_all.ensures.retraces)))) }

pub case_rule-returns-in_err-predicate_rule : goal.case_rule-returns-in_err-predicate_rule
case_rule-returns-in_err-predicate_rule g t c =
    let b = c.in-Ok.ensures in
    let k = retraces_answers _ _ c.in_ok-at_item.ensures.is (c.match_counted.ensures.answers _) in
    record {
      retraces = retraces_passed c.from_residual-in_err-predicate_rule.ensures.1 (case_goes c.args.x.now _ _ _ _ _ b.block b.found
          (retraces_on _ k (retraces_on _ (raised_by_none _ _ _ _ _ _ _ c.in_ok-check_all.ensures.retraces) (retraces_err _ c.in_err-predicate_rule.ensures.retraces))));
    }

pub case_rule-scrutinee_rule-requires : goal.case_rule-scrutinee_rule-requires
case_rule-scrutinee_rule-requires g t c =
    let p = c.in_ok-check_all.ensures.counted in
    let n = c.in_ok-predicate_rule.ensures.retraces.after.nest ∙ c.in_ok-check_all.ensures.retraces.after.nest in
    search rules

pub case_rule-returns-in_err-indices : goal.case_rule-returns-in_err-indices
case_rule-returns-in_err-indices g t c =
    let b = c.in-Ok.ensures in
    let k = retraces_answers _ _ c.in_ok-at_item.ensures.is (c.match_counted.ensures.answers _) in
    record {
      retraces = retraces_passed c.from_residual-in_err-indices.ensures.1 (case_goes c.args.x.now _ _ _ _ _ b.block b.found
          (retraces_on _ k (retraces_on _ (raised_by_none _ _ _ _ _ _ _ c.in_ok-check_all.ensures.retraces) (retraces_on _ c.in_ok-predicate_rule.ensures.retraces (retraces_err _ c.in_err-indices.ensures.retraces)))));
    }

pub case_rule-returns-in_err-branches_rule : goal.case_rule-returns-in_err-branches_rule
case_rule-returns-in_err-branches_rule g t c =
    let b = c.in-Ok.ensures in
    let k = retraces_answers _ _ c.in_ok-at_item.ensures.is (c.match_counted.ensures.answers _) in
    record {
      retraces = retraces_passed c.from_residual-in_err-branches_rule.ensures.1 (case_goes c.args.x.now _ _ _ _ _ b.block b.found
          (retraces_on _ k (retraces_on _ (raised_by_none _ _ _ _ _ _ _ c.in_ok-check_all.ensures.retraces) (retraces_on _ c.in_ok-predicate_rule.ensures.retraces
          (retraces_on _ c.in_ok-indices.ensures.retraces (retraces_err _ c.in_err-branches_rule.ensures.retraces))))));
    }

pub case_rule-returns-in_err-pred_at : goal.case_rule-returns-in_err-pred_at
case_rule-returns-in_err-pred_at g t c =
    let b = c.in-Ok.ensures in
    let k = retraces_answers _ _ c.in_ok-at_item.ensures.is (c.match_counted.ensures.answers _) in
    let f = pred_fault c.args.x.now.ret c.in_ok-indices.indices c.args.x.now.scrut _ _ c.in_err-pred_at.ensures.too_deep in
    record {
      retraces = retraces_passed c.from_residual-in_err-pred_at.ensures.1 (case_goes c.args.x.now _ _ _ _ _ b.block b.found
          (retraces_on _ k (retraces_on _ (raised_by_none _ _ _ _ _ _ _ c.in_ok-check_all.ensures.retraces) (retraces_on _ c.in_ok-predicate_rule.ensures.retraces
          (retraces_on _ c.in_ok-indices.ensures.retraces (retraces_on _ c.in_ok-branches_rule.ensures.retraces f))))));
    }

pub case_rule-returns : goal.case_rule-returns
case_rule-returns g t c =
    let b = c.in-Ok.ensures in
    let k = retraces_answers _ _ c.in_ok-at_item.ensures.is (c.match_counted.ensures.answers _) in
    record {
      retraces = case_goes c.args.x.now _ _ _ _ _ b.block b.found
          (retraces_on _ k (retraces_on _ (raised_by_none _ _ _ _ _ _ _ c.in_ok-check_all.ensures.retraces) (retraces_on _ c.in_ok-predicate_rule.ensures.retraces
          (retraces_on _ c.in_ok-indices.ensures.retraces (retraces_on _ c.in_ok-branches_rule.ensures.retraces (retraces_made _ _ _ c.in_ok-pred_at.ensures.ok))))));
    }

-- a type that is found in place of one that is asked for
pub fits-returns-then-not-same : goal.fits-returns-then-not-same
fits-returns-then-not-same g t c =
    let e : slice_get c.args.self.now.verifier.cert.now c.args.trail.now.at ≡ Some Same = sym c.item_at.ensures.is ∙ c.in-Some-Same.is ∙ ap (λ x. Some x) c.in-Some-Same.field-0-is in
    record { retraces = fits_differ _ _ _ _ _ _ _ c.args.trail.now e (same_no _ _ c.same.result c.same.ensures.is c.if-not-same.true); counted = tt }

pub fits-returns-else-not-same : goal.fits-returns-else-not-same
fits-returns-else-not-same g t c =
    let e : slice_get c.args.self.now.verifier.cert.now c.args.trail.now.at ≡ Some Same = sym c.item_at.ensures.is ∙ c.in-Some-Same.is ∙ ap (λ x. Some x) c.in-Some-Same.field-0-is in
    let s = same_yes _ _ c.same.result c.same.ensures.is c.if-not-same.false in
    record { retraces = fits_same _ _ _ _ _ _ _ c.args.trail.now e s; counted = subst (λ X. IsCounted c.args.self.now.verifier.env.now X) (same_is _ _ s) c.requires.found }

pub fits-returns-in_err-sorted-in-Some-Conv : goal.fits-returns-in_err-sorted-in-Some-Conv
fits-returns-in_err-sorted-in-Some-Conv g t c =
    let e : slice_get c.args.self.now.verifier.cert.now c.args.trail.now.at ≡ Some Conv = sym c.item_at.ensures.is ∙ c.in-Some-Conv.is ∙ ap (λ x. Some x) c.in-Some-Conv.field-0-is in
    record { retraces = retraces_passed c.from_residual.ensures.1 (fits_conv _ _ _ _ _ _ _ _ c.args.trail.now _ e (retraces_err _ c.in_err-sorted-in-Some-Conv.ensures.retraces.unread)); counted = passed_nothing _ c.from_residual.result _ c.from_residual.ensures.1 }

pub fits-script-requires : goal.fits-script-requires
fits-script-requires g t c =
    let v = values_counted c.args.self.now.verifier.env.now c.args.ctx.now c.requires.ready.context in
    let r : AreScriptable c.args.self.now.verifier.env.now (values c.args.ctx.now) c.args.found.now c.args.ty.now =
    record { env = c.requires.ready.env; values = v; left = c.requires.found; right = c.in_ok-sorted-in-Some-Conv.ensures.counted } in
    let n = c.in_ok-sorted-in-Some-Conv.ensures.retraces.after.nest in
    search rules

pub fits-returns-in_ok-sorted-in-Some-Conv : goal.fits-returns-in_ok-sorted-in-Some-Conv
fits-returns-in_ok-sorted-in-Some-Conv g t c =
    let e : slice_get c.args.self.now.verifier.cert.now c.args.trail.now.at ≡ Some Conv = sym c.item_at.ensures.is ∙ c.in-Some-Conv.is ∙ ap (λ x. Some x) c.in-Some-Conv.field-0-is in
    record {
      retraces = fits_conv _ _ _ _ _ _ _ _ c.args.trail.now _ e (retraces_on _ c.in_ok-sorted-in-Some-Conv.ensures.retraces.unread.1 c.script.ensures.retraces);
      counted = if_ok _ c.script.result c.in_ok-sorted-in-Some-Conv.ensures.counted;
    }

pub fits-returns-in_default-clause-retraces : goal.fits-returns-in_default-clause-retraces
unfolding walk_fits
fits-returns-in_default-clause-retraces g t c = search rules
