use Rattle.std.proofs.Common.{rules, arith, ◌≡◌, ◌∙◌, ap, ◌<◌, ◌-◌, ◌+◌, sym, length, ◌++◌, ◌∷◌, [], refl, subst, Ok}
use Rattle.std.proofs.lemmas.List.{take_all}
use Rattle.pc_terms.specs.Lists.{rargs_of, bodies_of}
use Rattle.pc_terms.specs.Syntax.{Rel, SortT, App}
use Rattle.calculus_rules.specs.Environment.{with_parameters}
use Rattle.calculus_rules.specs.Context.{values}
use Rattle.pc_rules.specs.DirectedRun.{done, noted}
use Rattle.pc_rules.specs.DirectedGuard.{fix_guard}
use Rattle.pc_rules.specs.DirectedTyping.{conv, rule_number, found_family}
use Rattle.pc_rules.specs.Entailment.{test_of}
use Rattle.pc_rules.specs.WellCounted.{IsCounted}
use Rattle.pc_rules.proofs.ListSteps.{take_next}
use Rattle.pc_rules.proofs.Meters.{after-refl, after-trans}
use Rattle.pc_rules.proofs.SameTrees.{same_yes, same_no, same_is}
use Rattle.rule_laws.proofs.Counted.{appended_counted}
use Rattle.cert_rules.specs.Writing.{silent}
use Rattle.cert_rules.specs.MakingTyping.{make_sort_of, make_check, make_retype}
use Rattle.conversion.proofs.Sound.{asked}
use Rattle.type_infer.specs.Ready.{IsReady}
use Rattle.type_infer.proofs.Beginning.{assumed_ready, defined_ready}
use Rattle.type_infer.proofs.Finding.{if_ok}
use Rattle.type_infer.proofs.Fixing.{definitions_next, definitions_done, lift_beyond}
use Rattle.type_infer.proofs.Matching.{longer_next, whnf_is_counted}
use Rattle.script_making.proofs.Making.{makes_on, makes_err, makes_done, makes_memory, makes_passed, passed_nothing, makes_then, makes_else, makes_value, makes_made, makes_fault, makes_answers, makes_metered, makes_passing, makes_beyond}
use Rattle.type_making.specs.Making.{infer_making}
use Rattle.type_infer.proofs.Pendings.{pending_product, pending_beyond}
use Rattle.type_making.proofs.MadePendings.{ends_made, pends_there, pends_whole, pends_fault, pends_from, pends_passed, pends_halts, pends_each, product_stays}
use Rattle.type_making.proofs.Grouping.{makes_after, makes_before}
use Rattle.type_making.proofs.Starting.{makes_with, makes_still, infer_spent, infer_nested, infer_entered, made_inferred, sort_there, sort_goes, no_sort, product_found, no_product}
use Rattle.type_making.proofs.MadeLists.{entered_next, entered_stop, entered_end, all_next, all_stop, all_fault, all_end, branches_next, branches_stop, branches_end}
use Rattle.type_making.proofs.MadeLists.{types_next, types_stop, types_fault, types_done, definitions_go, definitions_stop, definitions_end, all_definitions, few_lambdas, lambdas_found, is_family, no_family_found}
use Rattle.type_making.proofs.MadeMatches.{case_counts, case_miscounted, case_unknown, pred_fault, raised_by_none}
use Rattle.type_making.proofs.Forgetting.{made_guardable}
use Rattle.type_making.proofs.typing.TypeMaker.+infer.Goals as goal

-- the start of an inference
pub infer-returns-then-not-tick-clause-makes : goal.infer-returns-then-not-tick-clause-makes
infer-returns-then-not-tick-clause-makes g t c =
    let v = c.args.self.now.maker in
    infer_spent v.env.now (test_of v.env.now) c.args.ctx.now c.args.t.now v.room c.args.draft.now (record { meter = c.tick.new.self; written = c.args.draft.now.written })
    (search rules) c.tick.ensures.account c.tick.ensures.nest

pub infer-returns-then-not-enter-clause-makes : goal.infer-returns-then-not-enter-clause-makes
infer-returns-then-not-enter-clause-makes g t c =
    let v = c.args.self.now.maker in
    infer_nested v.env.now (test_of v.env.now) c.args.ctx.now c.args.t.now v.room c.args.draft.now (record { meter = c.tick.new.self; written = c.args.draft.now.written })
    (record { meter = c.enter.new.self; written = c.args.draft.now.written }) (search rules) (search rules) c.tick.ensures.account c.tick.ensures.nest c.enter.ensures.account (search rules)

pub infer-returns-clause-makes : goal.infer-returns-clause-makes
infer-returns-clause-makes g t c =
    let v = c.args.self.now.maker in
    let n : c.note.new.self.account ≡ noted (rule_number c.args.t.now) c.enter.new.self.account = cc in
    infer_entered v.env.now (test_of v.env.now) c.args.ctx.now c.args.t.now v.room (v.room - 1) _ c.args.draft.now (record { meter = c.tick.new.self; written = c.args.draft.now.written })
    (record { meter = c.enter.new.self; written = c.args.draft.now.written }) (record { meter = c.note.new.self; written = c.args.draft.now.written }) c.rule-answer.new.draft
    (record { meter = c.leave.new.self; written = c.rule-answer.new.draft.written }) (search rules) (search rules) c.tick.ensures.account c.tick.ensures.nest c.enter.ensures.account (search rules) refl
    n c.note.ensures.nest refl c.rule-answer.ensures.makes c.leave.ensures.account c.leave.ensures.nest refl

pub infer-returns-clause-inferred : goal.infer-returns-clause-inferred
infer-returns-clause-inferred g t c =
    let v = c.args.self.now.maker in
    let n : c.note.new.self.account ≡ noted (rule_number c.args.t.now) c.enter.new.self.account = cc in
    made_inferred v.env.now c.args.ctx.now c.args.t.now c.requires.ready c.rule_number.ensures.formed v.room _ c.args.draft.now (record { meter = c.leave.new.self; written = c.rule-answer.new.draft.written })
    (infer_entered v.env.now (test_of v.env.now) c.args.ctx.now c.args.t.now v.room (v.room - 1) _ c.args.draft.now (record { meter = c.tick.new.self; written = c.args.draft.now.written })
    (record { meter = c.enter.new.self; written = c.args.draft.now.written }) (record { meter = c.note.new.self; written = c.args.draft.now.written }) c.rule-answer.new.draft
    (record { meter = c.leave.new.self; written = c.rule-answer.new.draft.written }) (search rules) (search rules) c.tick.ensures.account c.tick.ensures.nest c.enter.ensures.account (search rules) refl
    n c.note.ensures.nest refl c.rule-answer.ensures.makes c.leave.ensures.account c.leave.ensures.nest refl)

-- the rule of a term
pub rule-returns-in-Rel : goal.rule-returns-in-Rel
rule-returns-in-Rel g t c = record { makes = rw (← c.view.ensures.is, c.in-Rel.is) (makes_still _ c.rel_rule.ensures.answers) }

pub rule-returns-in-Sort : goal.rule-returns-in-Sort
rule-returns-in-Sort g t c = record { makes = rw (← c.view.ensures.is, c.in-Sort.is) (makes_still _ c.sort_rule.ensures.answers) }

pub rule-returns-in-Prod : goal.rule-returns-in-Prod
rule-returns-in-Prod g t c = record { makes = rw (← c.view.ensures.is, c.in-Prod.is) c.prod_rule.ensures.makes }

pub rule-returns-in-Lambda : goal.rule-returns-in-Lambda
rule-returns-in-Lambda g t c = record { makes = rw (← c.view.ensures.is, c.in-Lambda.is) c.lambda_rule.ensures.makes }

pub rule-returns-in-LetIn : goal.rule-returns-in-LetIn
rule-returns-in-LetIn g t c = record { makes = rw (← c.view.ensures.is, c.in-LetIn.is) c.let_rule.ensures.makes }

pub rule-returns-in-App : goal.rule-returns-in-App
rule-returns-in-App g t c = record { makes = rw (← c.view.ensures.is, c.in-App.is) c.app_rule.ensures.makes }

pub rule-returns-in-Const : goal.rule-returns-in-Const
rule-returns-in-Const g t c = record { makes = rw (← c.view.ensures.is, c.in-Const.is) (makes_still _ c.const_rule.ensures.answers) }

pub rule-returns-in-Ind : goal.rule-returns-in-Ind
rule-returns-in-Ind g t c = record { makes = rw (← c.view.ensures.is, c.in-Ind.is) (makes_still _ c.ind_rule.ensures.answers) }

pub rule-returns-in-Construct : goal.rule-returns-in-Construct
rule-returns-in-Construct g t c = record { makes = rw (← c.view.ensures.is, c.in-Construct.is) (makes_still _ c.construct_rule.ensures.answers) }

pub rule-returns-in-Case : goal.rule-returns-in-Case
rule-returns-in-Case g t c = record { makes = rw (← c.view.ensures.is, c.in-Case.is) (rw c.get.ensures.is at c.case_rule.ensures.makes) }

pub rule-fix_rule-requires : goal.rule-fix_rule-requires
rule-fix_rule-requires g t c =
    let e = rw c.in-Fix.is at c.view.ensures.is in
    let k = c.view.ensures.formed in
    search rules

pub rule-returns-in-Fix : goal.rule-returns-in-Fix
rule-returns-in-Fix g t c = record { makes = rw (← c.view.ensures.is, c.in-Fix.is) c.fix_rule.ensures.makes }

-- products
pub prod_rule-returns-in_err-low : goal.prod_rule-returns-in_err-low
prod_rule-returns-in_err-low g t c = record { makes = makes_passed c.from_residual.ensures.1 (makes_err _ c.in_err-low.ensures.makes) }

pub prod_rule-sort_of-requires-2 : goal.prod_rule-sort_of-requires-2
prod_rule-sort_of-requires-2 g t c =
    let r : IsReady c.args.self.now.maker.env.now c.in_ok-under.under = rw (c.in_ok-under.ensures.longer, c.in_ok-share.ensures.ok) (assumed_ready _ _ _ c.requires.ready c.in_ok-low.ensures.counted) in
    let n = c.in_ok-low.ensures.makes.after.nest in
    search rules

pub prod_rule-returns-in_err-high : goal.prod_rule-returns-in_err-high
prod_rule-returns-in_err-high g t c =
    record { makes = makes_passed c.from_residual-in_err-high.ensures.1 (makes_on _ c.in_ok-low.ensures.makes (makes_err _ (rw (c.in_ok-under.ensures.longer, c.in_ok-share.ensures.ok) at c.in_err-high.ensures.makes))) }

pub prod_rule-returns : goal.prod_rule-returns
prod_rule-returns g t c =
    let h = rw (c.in_ok-under.ensures.longer, c.in_ok-share.ensures.ok) at c.in_ok-high.ensures.makes in
    record { makes = makes_on _ c.in_ok-low.ensures.makes (makes_on _ h (makes_value _ _ _ (c.in_ok-make.ensures.ok ∙ ap SortT c.in_ok-sort.ensures.value))) }

-- lambdas
pub lambda_rule-returns-in_err-_sort : goal.lambda_rule-returns-in_err-_sort
lambda_rule-returns-in_err-_sort g t c = record { makes = makes_passed c.from_residual.ensures.1 (makes_err _ c.in_err-_sort.ensures.makes) }

pub lambda_rule-infer-requires : goal.lambda_rule-infer-requires
lambda_rule-infer-requires g t c =
    let r : IsReady c.args.self.now.maker.env.now c.in_ok-under.under = rw (c.in_ok-under.ensures.longer, c.in_ok-share.ensures.ok) (assumed_ready _ _ _ c.requires.ready c.in_ok-_sort.ensures.counted) in
    let n = c.in_ok-_sort.ensures.makes.after.nest in
    search rules

pub lambda_rule-returns-in_err-ty : goal.lambda_rule-returns-in_err-ty
lambda_rule-returns-in_err-ty g t c =
    record { makes = makes_passed c.from_residual-in_err-ty.ensures.1 (makes_on _ c.in_ok-_sort.ensures.makes (makes_err _ (rw (c.in_ok-under.ensures.longer, c.in_ok-share.ensures.ok) at c.in_err-ty.ensures.makes))) }

pub lambda_rule-returns-in_err-make : goal.lambda_rule-returns-in_err-make
lambda_rule-returns-in_err-make g t c =
    let h = rw (c.in_ok-under.ensures.longer, c.in_ok-share.ensures.ok) at c.in_ok-ty.ensures.makes in
    record { makes = makes_passed c.from_residual-in_err-make.ensures.1 (makes_on _ c.in_ok-_sort.ensures.makes (makes_on _ h (makes_fault _ _ _ (rw c.in_ok-share-2.ensures.ok at c.in_err-make.ensures.too_deep)))) }

pub lambda_rule-returns : goal.lambda_rule-returns
lambda_rule-returns g t c =
    let h = rw (c.in_ok-under.ensures.longer, c.in_ok-share.ensures.ok) at c.in_ok-ty.ensures.makes in
    record { makes = makes_on _ c.in_ok-_sort.ensures.makes (makes_on _ h (makes_made _ _ _ (rw c.in_ok-share-2.ensures.ok at c.in_ok-make.ensures.ok))) }

-- lets
pub let_rule-returns-in_err-_sort : goal.let_rule-returns-in_err-_sort
let_rule-returns-in_err-_sort g t c = record { makes = makes_passed c.from_residual.ensures.1 (makes_err _ c.in_err-_sort.ensures.makes) }

pub let_rule-returns-in_err-check : goal.let_rule-returns-in_err-check
let_rule-returns-in_err-check g t c =
    record { makes = makes_passed c.from_residual-in_err-check.ensures.1 (makes_on _ c.in_ok-_sort.ensures.makes (makes_err _ c.in_err-check.ensures.makes)) }

pub let_rule-infer-requires : goal.let_rule-infer-requires
let_rule-infer-requires g t c =
    let r : IsReady c.args.self.now.maker.env.now c.in_ok-under.under = rw (c.in_ok-under.ensures.longer, c.in_ok-share.ensures.ok, c.in_ok-share-2.ensures.ok) (defined_ready _ _ _ _ c.requires.ready c.in_ok-check.ensures.counted c.in_ok-_sort.ensures.counted) in
    let n = c.in_ok-check.ensures.makes.after.nest ∙ c.in_ok-_sort.ensures.makes.after.nest in
    search rules

pub let_rule-returns-in_err-found : goal.let_rule-returns-in_err-found
let_rule-returns-in_err-found g t c =
    let h = rw (c.in_ok-under.ensures.longer, c.in_ok-share.ensures.ok, c.in_ok-share-2.ensures.ok) at c.in_err-found.ensures.makes in
    record { makes = makes_passed c.from_residual-in_err-found.ensures.1 (makes_on _ c.in_ok-_sort.ensures.makes (makes_on _ c.in_ok-check.ensures.makes (makes_err _ h))) }

pub let_rule-returns-in_err-made : goal.let_rule-returns-in_err-made
let_rule-returns-in_err-made g t c =
    let h = rw (c.in_ok-under.ensures.longer, c.in_ok-share.ensures.ok, c.in_ok-share-2.ensures.ok) at c.in_ok-found.ensures.makes in
    let k = rw (c.in_ok-share-3.ensures.ok, c.in_ok-share-4.ensures.ok) at c.in_err-made.ensures.too_deep in
    record { makes = makes_passed c.from_residual-in_err-made.ensures.1 (makes_on _ c.in_ok-_sort.ensures.makes (makes_on _ c.in_ok-check.ensures.makes (makes_on _ h (makes_fault _ _ _ k)))) }

pub let_rule-returns : goal.let_rule-returns
let_rule-returns g t c =
    let h = rw (c.in_ok-under.ensures.longer, c.in_ok-share.ensures.ok, c.in_ok-share-2.ensures.ok) at c.in_ok-found.ensures.makes in
    let k = rw (c.in_ok-share-3.ensures.ok, c.in_ok-share-4.ensures.ok) at c.in_ok-made.ensures.ok in
    record { makes = makes_on _ c.in_ok-_sort.ensures.makes (makes_on _ c.in_ok-check.ensures.makes (makes_on _ h (makes_made _ _ _ k))) }

-- applications
pub app_rule-returns-in_err-ty : goal.app_rule-returns-in_err-ty
app_rule-returns-in_err-ty g t c = record { makes = makes_passed c.from_residual.ensures.1 c.in_err-ty.ensures.makes.pends }

pub app_rule-returns-in_err-whole : goal.app_rule-returns-in_err-whole
app_rule-returns-in_err-whole g t c =
    record { makes = makes_passed c.from_residual-in_err-whole.ensures.1 (pends_fault _ c.in_err-whole.ensures.making c.in_ok-ty.ensures.makes) }

pub app_rule-returns : goal.app_rule-returns
app_rule-returns g t c = record { makes = c.in_ok-ty.ensures.makes.pends (Ok _) c.in_ok-whole.ensures.making }

pub application_type-returns-in_err-ty : goal.application_type-returns-in_err-ty
application_type-returns-in_err-ty g t c = record { makes = pends_passed c.from_residual.ensures.1 (makes_err _ c.in_err-ty.ensures.makes.pends) }

pub application_type-returns-in_err-wanted-in-Prod : goal.application_type-returns-in_err-wanted-in-Prod
application_type-returns-in_err-wanted-in-Prod g t c =
    let e = rw c.in-Prod.is at c.view.ensures.is in
    let k = pending_beyond _ e _ c.in_err-wanted-in-Prod.ensures.making in
    record { makes = pends_passed c.from_residual-in_err-wanted-in-Prod.ensures.1 (makes_err _ (pends_fault _ k c.in_ok-ty.ensures.makes)) }

pub application_type-returns-in_err-check-in-Prod : goal.application_type-returns-in_err-check-in-Prod
application_type-returns-in_err-check-in-Prod g t c =
    let e = rw c.in-Prod.is at c.view.ensures.is in
    let h = rw c.in_ok-wanted-in-Prod.ensures.making.0 at c.in_err-check-in-Prod.ensures.makes in
    record {
      makes = pends_passed c.from_residual-in_err-check-in-Prod.ensures.1 (makes_on _ (pends_whole c.in_ok-ty.ensures.makes)
          (product_stays _ _ _ _ _ (pending_product _ e) c.in_ok-put-in-Prod.ensures.meter c.in_ok-put-in-Prod.ensures.written (makes_err _ h)));
    }

pub application_type-returns-in_err-and-in-Prod : goal.application_type-returns-in_err-and-in-Prod
application_type-returns-in_err-and-in-Prod g t c =
    let e = rw c.in-Prod.is at c.view.ensures.is in
    let h = rw c.in_ok-wanted-in-Prod.ensures.making.0 at c.in_ok-check-in-Prod.ensures.makes in
    record {
      makes = pends_passed c.from_residual-in_err-and-in-Prod.ensures.1 (rw c.in_err-and-in-Prod.ensures.only_memory (makes_on _ (pends_whole c.in_ok-ty.ensures.makes)
          (product_stays _ _ _ _ _ (pending_product _ e) c.in_ok-put-in-Prod.ensures.meter c.in_ok-put-in-Prod.ensures.written (makes_on _ h (makes_memory _ _)))));
    }

pub application_type-returns-in_ok-and-in-Prod : goal.application_type-returns-in_ok-and-in-Prod
application_type-returns-in_ok-and-in-Prod g t c =
    let e = rw c.in-Prod.is at c.view.ensures.is in
    let h = rw c.in_ok-wanted-in-Prod.ensures.making.0 at c.in_ok-check-in-Prod.ensures.makes in
    let k = rw c.in_ok-base-in-Prod.ensures.ok at c.in_ok-and-in-Prod.ensures.ok in
    record {
      makes = pends_each (λ r m. makes_on _ (pends_whole c.in_ok-ty.ensures.makes)
          (product_stays _ _ _ _ _ (pending_product _ e) c.in_ok-put-in-Prod.ensures.meter c.in_ok-put-in-Prod.ensures.written (makes_on _ h (ends_made r k m))));
    }

pub application_type-returns-in_err-whole-in_default : goal.application_type-returns-in_err-whole-in_default
application_type-returns-in_err-whole-in_default g t c =
    record { makes = pends_passed c.from_residual-in_err-whole-in_default.ensures.1 (makes_err _ (pends_fault _ c.in_err-whole-in_default.ensures.making c.in_ok-ty.ensures.makes)) }

pub application_type-returns-in_ok-whole-in_default : goal.application_type-returns-in_ok-whole-in_default
application_type-returns-in_ok-whole-in_default g t c =
    record { makes = pends_from (λ q f. makes_on _ (c.in_ok-ty.ensures.makes.pends (Ok _) c.in_ok-whole-in_default.ensures.making) f) c.reduced_type.ensures.makes }

pub reduced_type-returns-in_err-whnf : goal.reduced_type-returns-in_err-whnf
reduced_type-returns-in_err-whnf g t c = record { makes = pends_passed c.from_residual.ensures.1 (makes_err _ c.in_err-whnf.ensures.makes) }

pub reduced_type-returns-in_err-retype-in-Prod : goal.reduced_type-returns-in_err-retype-in-Prod
reduced_type-returns-in_err-retype-in-Prod g t c =
    let e = rw c.in-Prod.is at c.view.ensures.is in
    record { makes = pends_passed c.from_residual-in_err-retype-in-Prod.ensures.1 (makes_on _ c.in_ok-whnf.ensures.makes (product_found _ _ _ _ _ _ e (makes_err _ c.in_err-retype-in-Prod.ensures.makes))) }

pub reduced_type-returns-in_err-check-in-Prod : goal.reduced_type-returns-in_err-check-in-Prod
reduced_type-returns-in_err-check-in-Prod g t c =
    let e = rw c.in-Prod.is at c.view.ensures.is in
    record {
      makes = pends_passed c.from_residual-in_err-check-in-Prod.ensures.1 (makes_on _ c.in_ok-whnf.ensures.makes
          (product_found _ _ _ _ _ _ e (makes_on _ c.in_ok-retype-in-Prod.ensures.makes (makes_err _ c.in_err-check-in-Prod.ensures.makes))));
    }

pub reduced_type-returns-in_ok-of_one-in-Prod : goal.reduced_type-returns-in_ok-of_one-in-Prod
reduced_type-returns-in_ok-of_one-in-Prod g t c =
    let e = rw c.in-Prod.is at c.view.ensures.is in
    record {
      makes = pends_each (λ r m. makes_on _ c.in_ok-whnf.ensures.makes
          (product_found _ _ _ _ _ _ e (makes_on _ c.in_ok-retype-in-Prod.ensures.makes (makes_on _ c.in_ok-check-in-Prod.ensures.makes (ends_made r c.in_ok-of_one-in-Prod.ensures.ok m)))));
    }

pub reduced_type-returns-in_default : goal.reduced_type-returns-in_default
reduced_type-returns-in_default g t c =
    record { makes = pends_halts (makes_on _ c.in_ok-whnf.ensures.makes (no_product _ _ _ _ _ _ _ c.view.ensures.is (λ A B e. c.in_default.not-Prod A B e))) }

pub function_type-returns-in-App : goal.function_type-returns-in-App
function_type-returns-in-App g t c = record { makes = rw (← c.view.ensures.is, c.in-App.is) c.inner_type.ensures.makes }

pub function_type-returns-in_err-ty-in_default : goal.function_type-returns-in_err-ty-in_default
function_type-returns-in_err-ty-in_default g t c = record { makes = pends_passed c.from_residual.ensures.1 c.in_err-ty-in_default.ensures.makes }

pub function_type-returns-in_ok-ty-in_default : goal.function_type-returns-in_ok-ty-in_default
function_type-returns-in_ok-ty-in_default g t c = record { makes = pends_there c.of.ensures.within c.of.ensures.is c.in_ok-ty-in_default.ensures.makes }

-- the start of an inference of a function
pub inner_type-returns-then-not-tick : goal.inner_type-returns-then-not-tick
inner_type-returns-then-not-tick g t c =
    let v = c.args.self.now.maker in
    let f = App c.args.function.now c.args.argument.now in
    let m = infer_spent v.env.now (test_of v.env.now) c.args.ctx.now f v.room c.args.draft.now (record { meter = c.tick.new.self; written = c.args.draft.now.written })
    (search rules) c.tick.ensures.account c.tick.ensures.nest in
    record { makes = pends_halts m }

pub inner_type-returns-then-not-enter : goal.inner_type-returns-then-not-enter
inner_type-returns-then-not-enter g t c =
    let v = c.args.self.now.maker in
    let f = App c.args.function.now c.args.argument.now in
    let m = infer_nested v.env.now (test_of v.env.now) c.args.ctx.now f v.room c.args.draft.now (record { meter = c.tick.new.self; written = c.args.draft.now.written })
    (record { meter = c.enter.new.self; written = c.args.draft.now.written }) (search rules) (search rules) c.tick.ensures.account c.tick.ensures.nest c.enter.ensures.account (search rules) in
    record { makes = pends_halts m }

pub inner_type-returns : goal.inner_type-returns
inner_type-returns g t c =
    let v = c.args.self.now.maker in
    let f = App c.args.function.now c.args.argument.now in
    let n : c.note.new.self.account ≡ noted (rule_number f) c.enter.new.self.account = cc in
    record {
      makes = pends_from (λ q m. infer_entered v.env.now (test_of v.env.now) c.args.ctx.now f v.room (v.room - 1) q c.args.draft.now (record { meter = c.tick.new.self; written = c.args.draft.now.written })
          (record { meter = c.enter.new.self; written = c.args.draft.now.written }) (record { meter = c.note.new.self; written = c.args.draft.now.written }) c.application_type-answer.new.draft
          (record { meter = c.leave.new.self; written = c.application_type-answer.new.draft.written }) (search rules) (search rules) c.tick.ensures.account c.tick.ensures.nest c.enter.ensures.account
          (search rules) refl n c.note.ensures.nest refl m c.leave.ensures.account c.leave.ensures.nest refl) c.application_type-answer.ensures.makes;
    }

-- the sort of a term
pub sort_of-returns-in_err-ty-clause-makes : goal.sort_of-returns-in_err-ty-clause-makes
unfolding make_sort_of
sort_of-returns-in_err-ty-clause-makes g t c = makes_passed c.from_residual.ensures.1 (makes_err _ c.in_err-ty.ensures.makes)

pub sort_of-returns-in_err-whnf-clause-makes : goal.sort_of-returns-in_err-whnf-clause-makes
unfolding make_sort_of
sort_of-returns-in_err-whnf-clause-makes g t c = makes_passed c.from_residual-in_err-whnf.ensures.1 (makes_on _ c.in_ok-ty.ensures.makes (makes_err _ c.in_err-whnf.ensures.makes))

pub sort_of-returns-then-same-clause-makes : goal.sort_of-returns-then-same-clause-makes
unfolding make_sort_of
sort_of-returns-then-same-clause-makes g t c =
    let e = rw c.in-Sort.is at c.view.ensures.is in
    makes_on _ c.in_ok-ty.ensures.makes (makes_on _ c.in_ok-whnf.ensures.makes
    (sort_there (infer_making c.args.self.now.maker.env.now c.args.self.now.maker.room) c.args.ctx.now _ _ _ e (same_yes _ _ c.same.result c.same.ensures.is c.if-same.true) c.in_ok-sort-in-Sort.ensures.value))

pub sort_of-returns-in_err-conv-in-Sort-clause-makes : goal.sort_of-returns-in_err-conv-in-Sort-clause-makes
unfolding make_sort_of
sort_of-returns-in_err-conv-in-Sort-clause-makes g t c =
    let e = rw c.in-Sort.is at c.view.ensures.is in
    makes_passed c.from_residual-in_err-conv-in-Sort.ensures.1 (makes_on _ c.in_ok-ty.ensures.makes (makes_on _ c.in_ok-whnf.ensures.makes
    (sort_goes (infer_making c.args.self.now.maker.env.now c.args.self.now.maker.room) c.args.ctx.now _ _ _ e (same_no _ _ c.same.result c.same.ensures.is c.if-same.false) (makes_err _ (makes_metered conv _ _ _ c.in_err-conv-in-Sort.ensures.follows)))))

pub sort_of-returns-in_err-_above-in-Sort-clause-makes : goal.sort_of-returns-in_err-_above-in-Sort-clause-makes
unfolding make_sort_of
sort_of-returns-in_err-_above-in-Sort-clause-makes g t c =
    let e = rw c.in-Sort.is at c.view.ensures.is in
    makes_passed c.from_residual-in_err-_above-in-Sort.ensures.1 (makes_on _ c.in_ok-ty.ensures.makes (makes_on _ c.in_ok-whnf.ensures.makes
    (sort_goes (infer_making c.args.self.now.maker.env.now c.args.self.now.maker.room) c.args.ctx.now _ _ _ e (same_no _ _ c.same.result c.same.ensures.is c.if-same.false)
    (makes_on _ (makes_metered conv _ _ _ c.in_ok-conv-in-Sort.ensures.follows) (makes_err (λ _ w. silent (done c.in-Sort.s) w) c.in_err-_above-in-Sort.ensures.makes)))))

pub sort_of-returns-in-Sort-clause-makes : goal.sort_of-returns-in-Sort-clause-makes
unfolding make_sort_of
sort_of-returns-in-Sort-clause-makes g t c =
    let e = rw c.in-Sort.is at c.view.ensures.is in
    makes_on _ c.in_ok-ty.ensures.makes (makes_on _ c.in_ok-whnf.ensures.makes
    (sort_goes (infer_making c.args.self.now.maker.env.now c.args.self.now.maker.room) c.args.ctx.now _ _ _ e (same_no _ _ c.same.result c.same.ensures.is c.if-same.false)
    (makes_on _ (makes_metered conv _ _ _ c.in_ok-conv-in-Sort.ensures.follows) (makes_on (λ _ w. silent (done c.in-Sort.s) w) c.in_ok-_above-in-Sort.ensures.makes (makes_value _ _ _ c.in_ok-sort-in-Sort.ensures.value)))))

pub sort_of-returns : goal.sort_of-returns
unfolding make_sort_of
sort_of-returns g t c = record { makes = makes_on _ c.in_ok-ty.ensures.makes (makes_on _ c.in_ok-whnf.ensures.makes (no_sort (infer_making c.args.self.now.maker.env.now c.args.self.now.maker.room) c.args.ctx.now _ _ c.view.ensures.is (λ s e. c.in_default.not-Sort s e))); counted = tt }

-- a type in place of one that is asked for
pub converted-returns-in_err-put_conv : goal.converted-returns-in_err-put_conv
converted-returns-in_err-put_conv g t c =
    record { makes = makes_passed c.from_residual.ensures.1 (makes_err _ c.in_err-put_conv.ensures.makes); counted = passed_nothing _ c.from_residual.result _ c.from_residual.ensures.1 }

pub converted-sort_of-requires : goal.converted-sort_of-requires
converted-sort_of-requires g t c =
    let n = c.in_ok-put_conv.ensures.makes.after.nest in
    search rules

pub converted-returns-in_err-_sort : goal.converted-returns-in_err-_sort
converted-returns-in_err-_sort g t c =
    record {
      makes = makes_passed c.from_residual-in_err-_sort.ensures.1 (makes_on _ c.in_ok-put_conv.ensures.makes (makes_err _ c.in_err-_sort.ensures.makes));
      counted = passed_nothing _ c.from_residual-in_err-_sort.result _ c.from_residual-in_err-_sort.ensures.1;
    }

pub converted-compare-requires : goal.converted-compare-requires
converted-compare-requires g t c =
    let r = asked c.args.self.now.maker.env.now c.args.ctx.now c.args.found.now c.args.ty.now c.requires.ready.env c.requires.ready.context c.requires.found c.in_ok-_sort.ensures.counted in
    let n = c.in_ok-_sort.ensures.makes.after.nest ∙ c.in_ok-put_conv.ensures.makes.after.nest in
    search (rules, r, n)

pub converted-returns : goal.converted-returns
converted-returns g t c =
    record {
      makes = makes_on _ c.in_ok-put_conv.ensures.makes (makes_on _ c.in_ok-_sort.ensures.makes c.compare.ensures.makes);
      counted = if_ok _ c.compare.result c.in_ok-_sort.ensures.counted;
    }

-- a term against a type
pub check-returns-in_err-found-clause-makes : goal.check-returns-in_err-found-clause-makes
unfolding make_check
check-returns-in_err-found-clause-makes g t c = makes_passed c.from_residual.ensures.1 (makes_err _ c.in_err-found.ensures.makes)

pub check-returns-then-same-clause-makes : goal.check-returns-then-same-clause-makes
unfolding make_check
check-returns-then-same-clause-makes g t c =
    let s = same_yes _ _ c.same.result c.same.ensures.is c.if-same.true in
    makes_on _ c.in_ok-found.ensures.makes (makes_then _ _ _ _ _ _ s c.put.ensures.makes)

pub check-returns-then-same-clause-counted : goal.check-returns-then-same-clause-counted
check-returns-then-same-clause-counted g t c = if_ok _ c.put.result c.in_ok-found.ensures.inferred.subject

pub check-returns-then-same-clause-type_counted : goal.check-returns-then-same-clause-type_counted
check-returns-then-same-clause-type_counted g t c =
    let s = same_yes _ _ c.same.result c.same.ensures.is c.if-same.true in
    if_ok _ c.put.result (subst (λ X. IsCounted c.args.self.now.maker.env.now X) (same_is _ _ s) c.in_ok-found.ensures.inferred.classifier)

pub check-converted-requires : goal.check-converted-requires
check-converted-requires g t c =
    let k = c.in_ok-found.ensures.inferred.classifier in
    let n = c.in_ok-found.ensures.makes.after.nest in
    search rules

pub check-returns-clause-makes : goal.check-returns-clause-makes
unfolding make_check
check-returns-clause-makes g t c =
    let s = same_no _ _ c.same.result c.same.ensures.is c.if-same.false in
    makes_on _ c.in_ok-found.ensures.makes (makes_else _ _ _ _ _ _ s c.converted.ensures.makes)

pub check-returns-clause-counted : goal.check-returns-clause-counted
check-returns-clause-counted g t c = if_ok _ c.converted.result c.in_ok-found.ensures.inferred.subject

-- a type in place of another
pub retype-returns-then-same : goal.retype-returns-then-same
unfolding make_retype
retype-returns-then-same g t c = record { makes = makes_then _ _ _ _ _ _ (same_yes _ _ c.same.result c.same.ensures.is c.if-same.true) (makes_done tt _) }

pub retype-returns-in_err-conv : goal.retype-returns-in_err-conv
unfolding make_retype
retype-returns-in_err-conv g t c =
    record { makes = makes_passed c.from_residual.ensures.1 (makes_else _ _ _ _ _ _ (same_no _ _ c.same.result c.same.ensures.is c.if-same.false) (makes_err _ (makes_metered conv _ _ _ c.in_err-conv.ensures.follows))) }

pub retype-sort_of-requires : goal.retype-sort_of-requires
retype-sort_of-requires g t c =
    let n = c.in_ok-conv.ensures.follows.after.nest in
    search rules

pub retype-returns-in_err-_sort : goal.retype-returns-in_err-_sort
unfolding make_retype
retype-returns-in_err-_sort g t c =
    record { makes = makes_passed c.from_residual-in_err-_sort.ensures.1 (makes_else _ _ _ _ _ _ (same_no _ _ c.same.result c.same.ensures.is c.if-same.false) (makes_on _ (makes_metered conv _ _ _ c.in_ok-conv.ensures.follows) (makes_err _ c.in_err-_sort.ensures.makes))) }

pub retype-returns : goal.retype-returns
unfolding make_retype
retype-returns g t c =
    record { makes = makes_else _ _ _ _ _ _ (same_no _ _ c.same.result c.same.ensures.is c.if-same.false) (makes_on _ (makes_metered conv _ _ _ c.in_ok-conv.ensures.follows) (makes_on _ c.in_ok-_sort.ensures.makes (makes_done tt _))) }

-- the types of the definitions of a fixpoint
pub types_rule-sort_of-requires : goal.types_rule-sort_of-requires
types_rule-sort_of-requires g t c =
    let r = c.loop-i.invariant.ready in
    let n = c.loop-i.invariant.after.nest in
    search rules

pub types_rule-loop-i-init : goal.types_rule-loop-i-init
types_rule-loop-i-init g t c =
    rw c.in_ok-under.ensures.same (record { rest = λ r n x. x; after = after-refl c.args.draft.now.meter; under = refl; ready = c.requires.ready })

pub types_rule-returns-in_err-ty-clause-makes : goal.types_rule-returns-in_err-ty-clause-makes
types_rule-returns-in_err-ty-clause-makes g t c =
    makes_with c.from_residual-in_err-ty.result c.from_residual-in_err-ty.ensures.1 (rw c.as_slice-items.ensures.is at (c.loop-i.invariant.rest _ _
    (types_fault _ _ _ _ _ _ (grind arith) c.index-items-i.is _ _ (rw (← c.index-items-i.is) at c.in_err-ty.ensures.too_deep))))

pub types_rule-returns-in_err-_sort-clause-makes : goal.types_rule-returns-in_err-_sort-clause-makes
types_rule-returns-in_err-_sort-clause-makes g t c =
    makes_with c.from_residual-in_err-_sort.result c.from_residual-in_err-_sort.ensures.1 (rw c.as_slice-items.ensures.is at (c.loop-i.invariant.rest _ _
    (types_stop _ _ _ _ _ _ (grind arith) c.index-items-i.is _ _ _ _ (rw (← c.index-items-i.is) at c.in_ok-ty.ensures.parallel) c.in_err-_sort.ensures.makes)))

pub types_rule-returns-in_err-under-2-clause-makes : goal.types_rule-returns-in_err-under-2-clause-makes
types_rule-returns-in_err-under-2-clause-makes g t c =
    makes_with c.from_residual-in_err-under-2.result c.from_residual-in_err-under-2.ensures.1 (rw c.in_err-under-2.ensures.only_memory (rw c.as_slice-items.ensures.is at (c.loop-i.invariant.rest _ _
    (types_next _ _ _ _ _ _ (grind arith) c.index-items-i.is _ _ _ _ _ _ (rw (← c.index-items-i.is) at c.in_ok-ty.ensures.parallel) c.in_ok-_sort.ensures.makes (makes_memory _ _)))))

pub types_rule-loop-i-preserved : goal.types_rule-loop-i-preserved
types_rule-loop-i-preserved g t c =
    let l : c.loop-i.i < length c.as_slice-items.result.now = grind arith in
    let k = rw (← c.index-items-i.is) at c.in_ok-ty.ensures.parallel in
    let e = c.in_ok-under-2.ensures.longer in
    record {
      rest = λ r n x. c.loop-i.invariant.rest r n (types_next _ _ _ _ _ _ l c.index-items-i.is _ _ r _ _ n k c.in_ok-_sort.ensures.makes (rw e at x));
      after = after-trans _ _ _ c.loop-i.invariant.after c.in_ok-_sort.ensures.makes.after;
      under = c.loop-i.invariant.under ∙ rw e (definitions_next _ _ _ _ l c.index-items-i.is _ k);
      ready = rw e (assumed_ready _ _ _ c.loop-i.invariant.ready c.in_ok-_sort.ensures.counted);
    }

pub types_rule-returns-clause-makes : goal.types_rule-returns-clause-makes
types_rule-returns-clause-makes g t c = rw c.as_slice-items.ensures.is at (c.loop-i.invariant.rest _ _ (types_done _ _ _ _ _ _ (grind arith)))

pub types_rule-returns-clause-under : goal.types_rule-returns-clause-under
types_rule-returns-clause-under g t c = sym (rw c.as_slice-items.ensures.is at (c.loop-i.invariant.under ∙ definitions_done c.loop-i.under c.as_slice-items.result.now c.loop-i.i (grind arith)))

-- a definition of a fixpoint
pub definition_rule-returns-in_default : goal.definition_rule-returns-in_default
definition_rule-returns-in_default g t c = record { makes = few_lambdas c.args.def.now _ _ _ _ _ c.args.number (sym c.in_ok-inner.ensures.found ∙ c.in_default.is) }

pub definition_rule-returns-in_err-ty : goal.definition_rule-returns-in_err-ty
definition_rule-returns-in_err-ty g t c =
    record {
      makes = makes_passed c.from_residual-in_err-ty.ensures.1 (lambdas_found c.args.def.now _ _ _ _ _ c.args.number (sym c.in_ok-inner.ensures.found ∙ c.in-Some.is)
          (makes_err _ (makes_fault _ _ _ (lift_beyond c.args.count c.args.def.now.ty c.in_err-ty.field-0.0 c.in_err-ty.ensures.too_deep))));
    }

pub definition_rule-returns-in_err-check : goal.definition_rule-returns-in_err-check
definition_rule-returns-in_err-check g t c =
    record {
      makes = makes_passed c.from_residual-in_err-check.ensures.1 (lambdas_found c.args.def.now _ _ _ _ _ c.args.number (sym c.in_ok-inner.ensures.found ∙ c.in-Some.is)
          (makes_on _ (makes_made _ _ _ c.in_ok-ty.ensures.parallel) (makes_err _ c.in_err-check.ensures.makes)));
    }

pub definition_rule-returns-in_err-whnf : goal.definition_rule-returns-in_err-whnf
definition_rule-returns-in_err-whnf g t c =
    record {
      makes = makes_passed c.from_residual-in_err-whnf.ensures.1 (lambdas_found c.args.def.now _ _ _ _ _ c.args.number (sym c.in_ok-inner.ensures.found ∙ c.in-Some.is)
          (makes_on _ (makes_made _ _ _ c.in_ok-ty.ensures.parallel) (makes_on _ c.in_ok-check.ensures.makes (makes_err _ c.in_err-whnf.ensures.makes))));
    }

pub definition_rule-returns-then-not-is_of_family : goal.definition_rule-returns-then-not-is_of_family
definition_rule-returns-then-not-is_of_family g t c =
    let W = c.in_ok-whnf.whnf in
    record {
      makes = lambdas_found c.args.def.now _ _ _ _ _ c.args.number (sym c.in_ok-inner.ensures.found ∙ c.in-Some.is)
          (makes_on _ (makes_made _ _ _ c.in_ok-ty.ensures.parallel) (makes_on _ c.in_ok-check.ensures.makes (makes_on _ c.in_ok-whnf.ensures.makes (no_family_found W _ _ c.is_of_family.ensures.is c.if-not-is_of_family.true))));
    }

pub definition_rule-returns : goal.definition_rule-returns
definition_rule-returns g t c =
    let W = c.in_ok-whnf.whnf in
    record {
      makes = lambdas_found c.args.def.now _ _ _ _ _ c.args.number (sym c.in_ok-inner.ensures.found ∙ c.in-Some.is)
          (makes_on _ (makes_made _ _ _ c.in_ok-ty.ensures.parallel) (makes_on _ c.in_ok-check.ensures.makes (makes_on _ c.in_ok-whnf.ensures.makes (is_family W _ _ c.is_of_family.ensures.is c.if-not-is_of_family.false))));
    }

-- the definitions of a fixpoint
pub definitions_rule-loop-i-init : goal.definitions_rule-loop-i-init
definitions_rule-loop-i-init g t c = record { rest = λ r n x. x; after = after-refl c.args.draft.now.meter }

pub definitions_rule-definition_rule-requires : goal.definitions_rule-definition_rule-requires
definitions_rule-definition_rule-requires g t c = let n = c.loop-i.invariant.after.nest in search rules

pub definitions_rule-loop-i-preserved : goal.definitions_rule-loop-i-preserved
definitions_rule-loop-i-preserved g t c =
    let l : c.loop-i.i < length c.as_slice-items.result.now = grind arith in
    let n : c.in-Ok.count ≡ length c.as_slice-items.result.now = grind arith in
    let f = rw n at c.in_ok-definition_rule.ensures.makes in
    record {
      rest = λ r m x. c.loop-i.invariant.rest r m (definitions_go _ _ _ _ _ _ _ _ l c.index-items-i.is r _ _ m f x);
      after = after-trans _ _ _ c.loop-i.invariant.after f.after;
    }

pub definitions_rule-returns-in_err-definition_rule : goal.definitions_rule-returns-in_err-definition_rule
definitions_rule-returns-in_err-definition_rule g t c =
    let l : c.loop-i.i < length c.as_slice-items.result.now = grind arith in
    let n : c.in-Ok.count ≡ length c.as_slice-items.result.now = grind arith in
    let f = rw n at c.in_err-definition_rule.ensures.makes in
    record { makes = makes_passed c.from_residual.ensures.1 (rw c.as_slice-items.ensures.is at (c.loop-i.invariant.rest _ _ (definitions_stop _ _ _ _ _ _ _ _ l c.index-items-i.is _ _ _ f))) }

pub definitions_rule-returns : goal.definitions_rule-returns
definitions_rule-returns g t c = record { makes = rw c.as_slice-items.ensures.is at (c.loop-i.invariant.rest _ _ (definitions_end _ _ _ _ _ _ _ _ (grind arith))) }

-- a fixpoint
pub fix_rule-definitions_rule-requires : goal.fix_rule-definitions_rule-requires
fix_rule-definitions_rule-requires g t c =
    let r = c.in_ok-under.ensures.inner in
    let n = c.in_ok-under.ensures.makes.after.nest in
    search rules

pub fix_rule-fix-requires : goal.fix_rule-fix-requires
fix_rule-fix-requires g t c =
    let q = all_definitions _ _ _ _ c.args.defs.now (rw c.in_ok-under.ensures.under at c.in_ok-definitions_rule.ensures.makes) in
    let k = made_guardable c.args.self.now.maker.env.now c.args.ctx.now c.args.index _ _ _ c.args.self.now.maker.room c.args.draft.now c.types_rule.new.draft c.definitions_rule.new.draft c.requires.ready (rw (← c.requires.whole) at c.requires.formed) c.in_ok-under.ensures.makes q in
    rw (← c.requires.whole) (record { env = c.requires.ready.env; ctx = c.requires.ready.context; counted = k.counted; lambdas = k.lambdas; families = k.families })

pub fix_rule-returns-in_err-under : goal.fix_rule-returns-in_err-under
fix_rule-returns-in_err-under g t c = record { makes = makes_passed c.from_residual.ensures.1 (makes_err _ c.in_err-under.ensures.makes) }

pub fix_rule-returns-in_err-definitions_rule : goal.fix_rule-returns-in_err-definitions_rule
fix_rule-returns-in_err-definitions_rule g t c =
    let q = all_definitions _ _ _ _ c.args.defs.now (rw c.in_ok-under.ensures.under at c.in_err-definitions_rule.ensures.makes) in
    record { makes = makes_passed c.from_residual-in_err-definitions_rule.ensures.1 (makes_on _ c.in_ok-under.ensures.makes (makes_err _ q)) }

pub fix_rule-returns-in_err-fix : goal.fix_rule-returns-in_err-fix
fix_rule-returns-in_err-fix g t c =
    let q = all_definitions _ _ _ _ c.args.defs.now (rw c.in_ok-under.ensures.under at c.in_ok-definitions_rule.ensures.makes) in
    let f = fix_guard c.args.self.now.maker.env.now (values c.args.ctx.now) (rargs_of c.args.defs.now) (bodies_of (length c.args.defs.now) c.args.defs.now) in
    record { makes = makes_passed c.from_residual-in_err-fix.ensures.1 (makes_on _ c.in_ok-under.ensures.makes (makes_on _ q (makes_err _ (makes_metered f _ _ _ (rw (← c.requires.whole) at c.in_err-fix.ensures.follows))))) }

pub fix_rule-returns : goal.fix_rule-returns
fix_rule-returns g t c =
    let q = all_definitions _ _ _ _ c.args.defs.now (rw c.in_ok-under.ensures.under at c.in_ok-definitions_rule.ensures.makes) in
    let f = fix_guard c.args.self.now.maker.env.now (values c.args.ctx.now) (rargs_of c.args.defs.now) (bodies_of (length c.args.defs.now) c.args.defs.now) in
    record { makes = makes_on _ c.in_ok-under.ensures.makes (makes_on _ q (makes_on _ (makes_metered f _ _ _ (rw (← c.requires.whole) at c.in_ok-fix.ensures.follows)) (makes_still _ c.definition_type.ensures.answers))) }

-- the entries of a telescope
pub entered-loop-i-init : goal.entered-loop-i-init
entered-loop-i-init g t c =
    rw c.in_ok-inner.ensures.same (record { rest = λ r n x. x; longer = refl; ready = c.requires.ready; counted = tt; after = after-refl c.args.draft.now.meter })

pub entered-sort_of-requires : goal.entered-sort_of-requires
entered-sort_of-requires g t c =
    let r = c.loop-i.invariant.ready in
    let n = c.loop-i.invariant.after.nest in
    search rules

pub entered-loop-i-preserved : goal.entered-loop-i-preserved
entered-loop-i-preserved g t c =
    rw (c.in_ok-inner-2.ensures.longer, c.in_ok-share.ensures.ok) (record {
      rest = λ r n x. c.loop-i.invariant.rest r n (entered_next _ _ _ _ _ _ c.loop-i-test.true c.index-items-i.is _ r _ _ n c.in_ok-_sort.ensures.makes x);
      longer = longer_next _ _ _ _ c.loop-i-test.true c.index-items-i.is ∙ c.loop-i.invariant.longer;
      ready = assumed_ready _ _ _ c.loop-i.invariant.ready c.in_ok-_sort.ensures.counted;
      counted = rw (take_next _ _ _ c.loop-i-test.true c.index-items-i.is) (appended_counted c.args.self.now.maker.env.now _ (c.index-items-i.result ∷ []) c.loop-i.invariant.counted (c.in_ok-_sort.ensures.counted, tt));
      after = after-trans _ _ _ c.loop-i.invariant.after c.in_ok-_sort.ensures.makes.after;
    })

pub entered-returns-in_err-_sort-clause-makes : goal.entered-returns-in_err-_sort-clause-makes
entered-returns-in_err-_sort-clause-makes g t c =
    makes_with c.from_residual-in_err-_sort.result c.from_residual-in_err-_sort.ensures.1 (rw c.as_slice-items.ensures.is at (c.loop-i.invariant.rest _ _ (entered_stop _ _ _ _ _ _ c.loop-i-test.true c.index-items-i.is _ _ _ c.in_err-_sort.ensures.makes)))

pub entered-returns-in_err-share-clause-makes : goal.entered-returns-in_err-share-clause-makes
entered-returns-in_err-share-clause-makes g t c =
    makes_with c.from_residual-in_err-share.result c.from_residual-in_err-share.ensures.1 (rw c.in_err-share.ensures.only_memory (rw c.as_slice-items.ensures.is at (c.loop-i.invariant.rest _ _
    (entered_next _ _ _ _ _ _ c.loop-i-test.true c.index-items-i.is _ _ _ _ _ c.in_ok-_sort.ensures.makes (makes_memory _ _)))))

pub entered-returns-in_err-inner-2-clause-makes : goal.entered-returns-in_err-inner-2-clause-makes
entered-returns-in_err-inner-2-clause-makes g t c =
    makes_with c.from_residual-in_err-inner-2.result c.from_residual-in_err-inner-2.ensures.1 (rw c.in_err-inner-2.ensures.only_memory (rw c.as_slice-items.ensures.is at (c.loop-i.invariant.rest _ _
    (entered_next _ _ _ _ _ _ c.loop-i-test.true c.index-items-i.is _ _ _ _ _ c.in_ok-_sort.ensures.makes (makes_memory _ _)))))

pub entered-returns-clause-makes : goal.entered-returns-clause-makes
entered-returns-clause-makes g t c = rw c.as_slice-items.ensures.is at (c.loop-i.invariant.rest _ _ (entered_end _ _ _ _ _ _ c.loop-i-test.false))

-- terms against a telescope
pub check_all-loop-i-init : goal.check_all-loop-i-init
check_all-loop-i-init g t c = rw c.new-before.ensures.empty (record { rest = λ r n x. x; before = refl; counted = tt; after = after-refl c.args.draft.now.meter })

pub check_all-check-requires : goal.check_all-check-requires
check_all-check-requires g t c = let n = c.loop-i.invariant.after.nest in search rules

pub check_all-loop-i-preserved : goal.check_all-loop-i-preserved
check_all-loop-i-preserved g t c =
    let k : c.loop-i.i < length c.as_slice-types.result.now = grind arith in
    let a = rw c.in_ok-share.ensures.ok at c.in_ok-push.ensures.ok in
    record {
      rest = λ r n x. c.loop-i.invariant.rest r n (all_next _ _ _ _ _ _ _ _ _ _ _ c.loop-i-test.true k c.index-listed-i.is c.index-types-i.is _ _ r _ _ n c.in_ok-ty.ensures.ok a c.in_ok-check.ensures.makes x);
      before = a ∙ ap (λ xs. xs ++ (c.index-listed-i.result ∷ [])) c.loop-i.invariant.before ∙ sym (take_next _ _ _ c.loop-i-test.true c.index-listed-i.is);
      counted = rw a (appended_counted c.args.self.now.maker.env.now c.loop-i.before (c.index-listed-i.result ∷ []) c.loop-i.invariant.counted (c.in_ok-check.ensures.counted, tt));
      after = after-trans _ _ _ c.loop-i.invariant.after c.in_ok-check.ensures.makes.after;
    }

pub check_all-returns-in_err-ty-clause-makes : goal.check_all-returns-in_err-ty-clause-makes
check_all-returns-in_err-ty-clause-makes g t c =
    makes_passed c.from_residual.ensures.1 (rw (c.as_slice-listed.ensures.is, c.as_slice-types.ensures.is) at (c.loop-i.invariant.rest _ _
    (all_fault _ _ _ _ (λ i. Rel (c.args.raise + i)) _ _ c.loop-i.before _ _ _ c.loop-i-test.true (grind arith) c.index-listed-i.is c.index-types-i.is _ _ c.in_err-ty.ensures.too_deep)))

pub check_all-returns-in_err-check-clause-makes : goal.check_all-returns-in_err-check-clause-makes
check_all-returns-in_err-check-clause-makes g t c =
    makes_passed c.from_residual-in_err-check.ensures.1 (rw (c.as_slice-listed.ensures.is, c.as_slice-types.ensures.is) at (c.loop-i.invariant.rest _ _
    (all_stop _ _ _ _ _ _ _ c.loop-i.before _ _ _ c.loop-i-test.true (grind arith) c.index-listed-i.is c.index-types-i.is _ _ _ _ c.in_ok-ty.ensures.ok c.in_err-check.ensures.makes)))

pub check_all-returns-in_err-share-clause-makes : goal.check_all-returns-in_err-share-clause-makes
check_all-returns-in_err-share-clause-makes g t c =
    makes_passed c.from_residual-in_err-share.ensures.1 (rw c.in_err-share.ensures.only_memory (rw (c.as_slice-listed.ensures.is, c.as_slice-types.ensures.is) at (c.loop-i.invariant.rest _ _
    (all_next _ _ _ _ _ _ _ _ _ _ _ c.loop-i-test.true (grind arith) c.index-listed-i.is c.index-types-i.is _ (c.loop-i.before ++ (c.index-listed-i.result ∷ [])) _ _ _ _ c.in_ok-ty.ensures.ok refl c.in_ok-check.ensures.makes (makes_memory _ _)))))

pub check_all-returns-in_err-push-clause-makes : goal.check_all-returns-in_err-push-clause-makes
check_all-returns-in_err-push-clause-makes g t c =
    makes_passed c.from_residual-in_err-push.ensures.1 (rw c.in_err-push.ensures.only_memory.0 (rw (c.as_slice-listed.ensures.is, c.as_slice-types.ensures.is) at (c.loop-i.invariant.rest _ _
    (all_next _ _ _ _ _ _ _ _ _ _ _ c.loop-i-test.true (grind arith) c.index-listed-i.is c.index-types-i.is _ (c.loop-i.before ++ (c.index-listed-i.result ∷ [])) _ _ _ _ c.in_ok-ty.ensures.ok refl c.in_ok-check.ensures.makes (makes_memory _ _)))))

pub check_all-returns : goal.check_all-returns
check_all-returns g t c =
    let all = c.loop-i.invariant.before ∙ take_all c.loop-i.i c.as_slice-listed.result.now c.loop-i-test.false ∙ c.as_slice-listed.ensures.is in
    record {
      makes = rw (c.as_slice-listed.ensures.is, c.as_slice-types.ensures.is) at (c.loop-i.invariant.rest _ _ (all_end _ _ _ _ _ c.as_slice-listed.result.now c.as_slice-types.result.now c.loop-i.before c.loop-i.i _ c.loop-i-test.false));
      counted = rw all at c.loop-i.invariant.counted;
    }

-- a match's predicate
pub predicate_rule-returns-in_err-entries : goal.predicate_rule-returns-in_err-entries
predicate_rule-returns-in_err-entries g t c = record { makes = makes_passed c.from_residual.ensures.1 (makes_beyond _ _ _ _ (λ e. c.in_err-entries.ensures.too_deep e c.args.block.now.params)) }

pub predicate_rule-returns-in_err-inner : goal.predicate_rule-returns-in_err-inner
predicate_rule-returns-in_err-inner g t c =
    record { makes = makes_passed c.from_residual-in_err-inner.ensures.1 (makes_passing _ _ (makes_before _ _ (rw (c.in_ok-entries.ensures.ok c.args.block.now.params) at c.in_err-inner.ensures.makes))) }

pub predicate_rule-returns-in_err-target : goal.predicate_rule-returns-in_err-target
predicate_rule-returns-in_err-target g t c =
    let es = c.in_ok-entries.ensures.ok c.args.block.now.params in
    record {
      makes = makes_passed c.from_residual-in_err-target.ensures.1 (makes_passing _ _ (makes_after _ _ (rw es at c.in_ok-inner.ensures.makes)
          (makes_err _ (rw (c.in_ok-inner.ensures.longer, es) at c.in_err-target.ensures.makes))));
    }

pub predicate_rule-returns : goal.predicate_rule-returns
predicate_rule-returns g t c =
    let es = c.in_ok-entries.ensures.ok c.args.block.now.params in
    record {
      makes = makes_passing _ _ (makes_after _ _ (rw es at c.in_ok-inner.ensures.makes)
          (makes_on _ (rw (c.in_ok-inner.ensures.longer, es) at c.in_ok-target.ensures.makes) (makes_still _ c.eliminated.ensures.answers)));
    }

-- the found type of a scrutinee
pub scrutinee_fits-returns-then-same : goal.scrutinee_fits-returns-then-same
scrutinee_fits-returns-then-same g t c =
    let s = same_yes _ _ c.same.result c.same.ensures.is c.if-same.true in
    record { makes = makes_then _ _ _ _ _ _ s c.put.ensures.makes }

pub scrutinee_fits-returns : goal.scrutinee_fits-returns
scrutinee_fits-returns g t c =
    let s = same_no _ _ c.same.result c.same.ensures.is c.if-same.false in
    record { makes = makes_else _ _ _ _ _ _ s c.converted.ensures.makes }

-- a scrutinee
pub scrutinee_rule-scrutinee_fits-requires : goal.scrutinee_rule-scrutinee_fits-requires
scrutinee_rule-scrutinee_fits-requires g t c =
    let w : IsCounted c.args.self.now.maker.env.now c.in_ok-whnf.whnf = whnf_is_counted _ _ _ _ _ c.requires.ready c.in_ok-ty.ensures.inferred c.in_ok-whnf.ensures.reached in
    let n = c.in_ok-retype.ensures.makes.after.nest ∙ c.in_ok-whnf.ensures.makes.after.nest ∙ c.in_ok-ty.ensures.makes.after.nest in
    search rules

pub scrutinee_rule-returns-in_err-ty : goal.scrutinee_rule-returns-in_err-ty
scrutinee_rule-returns-in_err-ty g t c = record { makes = makes_passed c.from_residual.ensures.1 (makes_err _ c.in_err-ty.ensures.makes) }

pub scrutinee_rule-returns-in_err-whnf : goal.scrutinee_rule-returns-in_err-whnf
scrutinee_rule-returns-in_err-whnf g t c =
    record { makes = makes_passed c.from_residual-in_err-whnf.ensures.1 (makes_on _ c.in_ok-ty.ensures.makes (makes_err _ c.in_err-whnf.ensures.makes)) }

pub scrutinee_rule-returns-in_err-indices : goal.scrutinee_rule-returns-in_err-indices
scrutinee_rule-returns-in_err-indices g t c =
    let f = found_family c.args.x.now.family (with_parameters c.args.block.now.params c.args.family.now) c.in_ok-whnf.whnf in
    record { makes = makes_passed c.from_residual-in_err-indices.ensures.1 (makes_on _ c.in_ok-ty.ensures.makes (makes_on _ c.in_ok-whnf.ensures.makes (makes_err _ (makes_answers f (c.in_err-indices.ensures.halts _))))) }

pub scrutinee_rule-returns-in_err-retype : goal.scrutinee_rule-returns-in_err-retype
scrutinee_rule-returns-in_err-retype g t c =
    let f = found_family c.args.x.now.family (with_parameters c.args.block.now.params c.args.family.now) c.in_ok-whnf.whnf in
    record {
      makes = makes_passed c.from_residual-in_err-retype.ensures.1 (makes_on _ c.in_ok-ty.ensures.makes (makes_on _ c.in_ok-whnf.ensures.makes
          (makes_on _ (makes_answers f (c.in_ok-indices.ensures.found _)) (makes_err _ c.in_err-retype.ensures.makes))));
    }

pub scrutinee_rule-returns-in_err-asked : goal.scrutinee_rule-returns-in_err-asked
scrutinee_rule-returns-in_err-asked g t c =
    let f = found_family c.args.x.now.family (with_parameters c.args.block.now.params c.args.family.now) c.in_ok-whnf.whnf in
    let i = c.in_ok-indices.ensures in
    let d = rw i.indices at c.in_err-asked.ensures.too_deep in
    record {
      makes = makes_passed c.from_residual-in_err-asked.ensures.1 (makes_on _ c.in_ok-ty.ensures.makes (makes_on _ c.in_ok-whnf.ensures.makes
          (makes_on _ (makes_answers f (i.found _)) (makes_on _ c.in_ok-retype.ensures.makes (makes_err _ (makes_fault _ _ _ d))))));
    }

pub scrutinee_rule-returns-in_err-scrutinee_fits : goal.scrutinee_rule-returns-in_err-scrutinee_fits
scrutinee_rule-returns-in_err-scrutinee_fits g t c =
    let f = found_family c.args.x.now.family (with_parameters c.args.block.now.params c.args.family.now) c.in_ok-whnf.whnf in
    let i = c.in_ok-indices.ensures in
    record {
      makes = makes_passed c.from_residual-in_err-scrutinee_fits.ensures.1 (makes_on _ c.in_ok-ty.ensures.makes (makes_on _ c.in_ok-whnf.ensures.makes
          (makes_on _ (makes_answers f (i.found _)) (makes_on _ c.in_ok-retype.ensures.makes (makes_on _ (makes_made _ _ _ (rw i.indices at c.in_ok-asked.ensures.ok)) (makes_err _ c.in_err-scrutinee_fits.ensures.makes))))));
    }

pub scrutinee_rule-returns : goal.scrutinee_rule-returns
scrutinee_rule-returns g t c =
    let f = found_family c.args.x.now.family (with_parameters c.args.block.now.params c.args.family.now) c.in_ok-whnf.whnf in
    let i = c.in_ok-indices.ensures in
    record {
      makes = rw i.indices (makes_on _ c.in_ok-ty.ensures.makes (makes_on _ c.in_ok-whnf.ensures.makes
          (makes_on _ (makes_answers f (i.found _)) (makes_on _ c.in_ok-retype.ensures.makes (makes_on _ (makes_made _ _ _ (rw i.indices at c.in_ok-asked.ensures.ok)) (makes_on _ c.in_ok-scrutinee_fits.ensures.makes (makes_done _ _)))))));
    }

-- a branch
pub branch_rule-returns-in_err-entries : goal.branch_rule-returns-in_err-entries
branch_rule-returns-in_err-entries g t c = record { makes = makes_passed c.from_residual.ensures.1 (makes_beyond _ _ _ _ c.in_err-entries.ensures.too_deep) }

pub branch_rule-returns-in_err-inner : goal.branch_rule-returns-in_err-inner
branch_rule-returns-in_err-inner g t c =
    record { makes = makes_passed c.from_residual-in_err-inner.ensures.1 (makes_passing _ _ (makes_before _ _ (rw c.in_ok-entries.ensures.ok at c.in_err-inner.ensures.makes))) }

pub branch_rule-returns-in_err-ty : goal.branch_rule-returns-in_err-ty
branch_rule-returns-in_err-ty g t c =
    record { makes = makes_passed c.from_residual-in_err-ty.ensures.1 (makes_passing _ _ (makes_after _ _ (rw c.in_ok-entries.ensures.ok at c.in_ok-inner.ensures.makes) (makes_beyond _ _ _ _ c.in_err-ty.ensures.too_deep))) }

pub branch_rule-returns : goal.branch_rule-returns
branch_rule-returns g t c =
    record {
      makes = makes_passing _ _ (makes_after _ _ (rw c.in_ok-entries.ensures.ok at c.in_ok-inner.ensures.makes)
          (makes_passing _ _ (rw (c.in_ok-inner.ensures.longer, c.in_ok-entries.ensures.ok, c.in_ok-ty.ensures.ok) at c.check.ensures.makes)));
    }

-- branches
pub branches_rule-loop-i-init : goal.branches_rule-loop-i-init
branches_rule-loop-i-init g t c = record { rest = λ r n x. x; after = after-refl c.args.draft.now.meter }

pub branches_rule-branch_rule-requires : goal.branches_rule-branch_rule-requires
branches_rule-branch_rule-requires g t c = let n = c.loop-i.invariant.after.nest in search rules

pub branches_rule-loop-i-preserved : goal.branches_rule-loop-i-preserved
branches_rule-loop-i-preserved g t c =
    record {
      rest = λ r n x. c.loop-i.invariant.rest r n (branches_next _ _ _ _ _ _ _ _ _ _ _ _ (grind arith) (grind arith) c.index-listed-i.is c.index-bodies-i.is r _ _ n c.in_ok-branch_rule.ensures.makes x);
      after = after-trans _ _ _ c.loop-i.invariant.after c.in_ok-branch_rule.ensures.makes.after;
    }

pub branches_rule-returns-in_err-branch_rule : goal.branches_rule-returns-in_err-branch_rule
branches_rule-returns-in_err-branch_rule g t c =
    record {
      makes = makes_passed c.from_residual.ensures.1 (rw (c.as_slice-listed.ensures.is, c.as_slice-bodies.ensures.is) at (c.loop-i.invariant.rest _ _
          (branches_stop _ _ _ _ _ _ _ _ _ _ _ _ (grind arith) (grind arith) c.index-listed-i.is c.index-bodies-i.is _ _ _ c.in_err-branch_rule.ensures.makes)));
    }

pub branches_rule-returns : goal.branches_rule-returns
branches_rule-returns g t c =
    record { makes = rw (c.as_slice-listed.ensures.is, c.as_slice-bodies.ensures.is) at (c.loop-i.invariant.rest _ _ (branches_end _ _ _ _ _ _ _ _ _ _ _ (grind arith))) }

-- a match
pub case_rule-returns-in_err-block : goal.case_rule-returns-in_err-block
case_rule-returns-in_err-block g t c = record { makes = makes_passed c.from_residual.ensures.1 (case_unknown c.args.x.now _ _ _ _ c.in_err-block.ensures.halts) }

pub case_rule-returns-in_err-match_counted : goal.case_rule-returns-in_err-match_counted
case_rule-returns-in_err-match_counted g t c =
    let b = c.in_ok-block.ensures in
    record { makes = makes_passed c.from_residual-in_err-match_counted.ensures.1 (case_miscounted c.args.x.now _ _ _ _ b.block b.found c.in_err-match_counted.ensures.answers) }

pub case_rule-returns-in_err-check_all : goal.case_rule-returns-in_err-check_all
case_rule-returns-in_err-check_all g t c =
    let b = c.in_ok-block.ensures in
    record { makes = makes_passed c.from_residual-in_err-check_all.ensures.1 (case_counts c.args.x.now _ _ _ _ b.block b.found c.in_ok-match_counted.ensures.answers (makes_err _ (raised_by_none _ _ _ _ _ _ c.in_err-check_all.ensures.makes))) }

pub case_rule-returns-in_err-predicate_rule : goal.case_rule-returns-in_err-predicate_rule
case_rule-returns-in_err-predicate_rule g t c =
    let b = c.in_ok-block.ensures in
    record {
      makes = makes_passed c.from_residual-in_err-predicate_rule.ensures.1 (case_counts c.args.x.now _ _ _ _ b.block b.found c.in_ok-match_counted.ensures.answers
          (makes_on _ (raised_by_none _ _ _ _ _ _ c.in_ok-check_all.ensures.makes) (makes_err _ c.in_err-predicate_rule.ensures.makes)));
    }

pub case_rule-scrutinee_rule-requires : goal.case_rule-scrutinee_rule-requires
case_rule-scrutinee_rule-requires g t c =
    let p = c.in_ok-check_all.ensures.counted in
    let n = c.in_ok-predicate_rule.ensures.makes.after.nest ∙ c.in_ok-check_all.ensures.makes.after.nest in
    search rules

pub case_rule-returns-in_err-indices : goal.case_rule-returns-in_err-indices
case_rule-returns-in_err-indices g t c =
    let b = c.in_ok-block.ensures in
    record {
      makes = makes_passed c.from_residual-in_err-indices.ensures.1 (case_counts c.args.x.now _ _ _ _ b.block b.found c.in_ok-match_counted.ensures.answers
          (makes_on _ (raised_by_none _ _ _ _ _ _ c.in_ok-check_all.ensures.makes) (makes_on _ c.in_ok-predicate_rule.ensures.makes (makes_err _ c.in_err-indices.ensures.makes))));
    }

pub case_rule-returns-in_err-branches_rule : goal.case_rule-returns-in_err-branches_rule
case_rule-returns-in_err-branches_rule g t c =
    let b = c.in_ok-block.ensures in
    record {
      makes = makes_passed c.from_residual-in_err-branches_rule.ensures.1 (case_counts c.args.x.now _ _ _ _ b.block b.found c.in_ok-match_counted.ensures.answers
          (makes_on _ (raised_by_none _ _ _ _ _ _ c.in_ok-check_all.ensures.makes) (makes_on _ c.in_ok-predicate_rule.ensures.makes
          (makes_on _ c.in_ok-indices.ensures.makes (makes_err _ c.in_err-branches_rule.ensures.makes)))));
    }

pub case_rule-returns-in_err-pred_at : goal.case_rule-returns-in_err-pred_at
case_rule-returns-in_err-pred_at g t c =
    let b = c.in_ok-block.ensures in
    let f = pred_fault c.args.x.now.ret c.in_ok-indices.indices c.args.x.now.scrut _ _ c.in_err-pred_at.ensures.too_deep in
    record {
      makes = makes_passed c.from_residual-in_err-pred_at.ensures.1 (case_counts c.args.x.now _ _ _ _ b.block b.found c.in_ok-match_counted.ensures.answers
          (makes_on _ (raised_by_none _ _ _ _ _ _ c.in_ok-check_all.ensures.makes) (makes_on _ c.in_ok-predicate_rule.ensures.makes
          (makes_on _ c.in_ok-indices.ensures.makes (makes_on _ c.in_ok-branches_rule.ensures.makes f)))));
    }

pub case_rule-returns : goal.case_rule-returns
case_rule-returns g t c =
    let b = c.in_ok-block.ensures in
    record {
      makes = case_counts c.args.x.now _ _ _ _ b.block b.found c.in_ok-match_counted.ensures.answers
          (makes_on _ (raised_by_none _ _ _ _ _ _ c.in_ok-check_all.ensures.makes) (makes_on _ c.in_ok-predicate_rule.ensures.makes
          (makes_on _ c.in_ok-indices.ensures.makes (makes_on _ c.in_ok-branches_rule.ensures.makes (makes_made _ _ _ c.in_ok-pred_at.ensures.ok)))));
    }
