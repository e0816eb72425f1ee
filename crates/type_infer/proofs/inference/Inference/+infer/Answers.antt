use Rattle.std.proofs.Common.{rules, arith, ◌≡◌, ◌∙◌, ap, ◌<◌, ◌-◌, sym, length, ◌++◌, ◌∷◌, [], refl, Ok}
use Rattle.pc_terms.specs.Syntax.{SortT, App}
use Rattle.pc_terms.specs.Lists.{types_of}
use Rattle.pc_rules.specs.DirectedRun.{noted}
use Rattle.pc_rules.specs.DirectedTyping.{rule_number, sort_of, check, retype}
use Rattle.pc_rules.proofs.FairReduction.{comparing_fair}
use Rattle.pc_rules.proofs.FairTyping.{inferring_fair}
use Rattle.pc_rules.proofs.Leaving.{leaving}
use Rattle.pc_rules.proofs.Following.{follows_made, follows_fault, follows_memory, follows_then, follows_else, follows_done}
use Rattle.type_infer.proofs.Fixing.{types_next, types_stop, types_fault, types_done, definitions_next, definitions_done, lift_beyond, few_lambdas, definition_memory, lambdas_found, is_family, no_family_found, definitions_go, definitions_stop, definitions_end}
use Rattle.type_infer.proofs.Steps.{and_then, halts, still, passed_on, passed_with, unread_done, unread_passed}
use Rattle.type_infer.proofs.GuardConditions.{guardable}
use Rattle.type_infer.proofs.Pendings.{pending_product, pending_beyond, ends_made, pends_there, pends_whole, pends_fault, pends_from, pends_passed, pends_halts, pends_each, product_stays}
use Rattle.type_infer.specs.Ready.{IsReady}
use Rattle.type_infer.proofs.Sorts.{sort_memory, sort_stays, sort_unread, sort_counted}
use Rattle.type_infer.proofs.Finding.{follows_is, if_ok, sort_found_same, sort_found_goes, product_found}
use Rattle.type_infer.proofs.Beginning.{infer_spent, infer_nested, infer_entered, inferred_from, assumed_ready, defined_ready}
use Rattle.calculus_rules.specs.Context.{extend}
use Rattle.calculus_rules.specs.Environment.{with_parameters}
use Rattle.pc_rules.specs.Entailment.{test_of}
use Rattle.type_infer.proofs.Matching.{entered_next, entered_stop, entered_end, longer_next, all_next, all_stop, all_fault, all_end, pass_fault, pass_go, entered_then, entered_err, whnf_is_counted, asked_counted, branches_next, branches_stop, branches_end, case_goes, case_unknown, pred_fault, case_counts, case_parameters, case_predicate, case_indices, asked_over, retype_over, found_over, whnf_over, type_over}
use Rattle.std.proofs.lemmas.List.{take_all}
use Rattle.pc_rules.specs.WellCounted.{IsCounted}
use Rattle.rule_laws.proofs.Counted.{appended_counted}
use Rattle.known_types.proofs.Longer.{one_longer, more_longer, extends_longer, defines_longer}
use Rattle.type_infer.proofs.inference.Inference.+infer.Goals as goal
use Rattle.pc_rules.proofs.ListSteps.{take_next}
use Rattle.pc_rules.proofs.SameTrees.{same_yes, same_no}
use Rattle.pc_terms.proofs.Parts.{rargs_length}

-- what is known
pub infer_at-returns-in-Some-clause-inferred : goal.infer_at-returns-in-Some-clause-inferred
infer_at-returns-in-Some-clause-inferred g t c =
    inferred_from _ _ _ c.requires.ready c.in-Some.ensures.formed c.args.room _ c.args.m.now _ (c.in-Some.ensures.gives c.args.env.now c.args.ctx.now c.requires.site)

pub prefix_type-keep-requires : goal.prefix_type-keep-requires
prefix_type-keep-requires g t c =
    let f = rw c.requires.whole at (c.in_ok-ty.ensures.follows.pends (Ok _) c.in-Ok.ensures.making) in
    record { run = (c.args.env.now, c.args.ctx.now, c.requires.site, f.answer) }

-- the start of an inference
pub infer_anew-returns-then-not-tick-clause-follows : goal.infer_anew-returns-then-not-tick-clause-follows
infer_anew-returns-then-not-tick-clause-follows g t c = infer_spent _ _ _ _ c.args.room c.args.m.now _ (search rules) c.tick.ensures.account c.tick.ensures.nest

pub infer_anew-returns-then-not-enter-clause-follows : goal.infer_anew-returns-then-not-enter-clause-follows
infer_anew-returns-then-not-enter-clause-follows g t c =
    infer_nested _ _ _ _ c.args.room c.args.m.now c.tick.new.self c.enter.new.self (search rules) (search rules) c.tick.ensures.account c.tick.ensures.nest c.enter.ensures.account (search rules)

pub infer_anew-returns-clause-follows : goal.infer_anew-returns-clause-follows
infer_anew-returns-clause-follows g t c =
    let n : c.note.new.self.account ≡ noted (rule_number c.args.t.now) c.enter.new.self.account = cc in
    infer_entered _ _ _ _ c.args.room (c.args.room - 1) _ c.args.m.now c.tick.new.self c.enter.new.self c.note.new.self c.rule-answer.new.m c.leave.new.self
    (search rules) (search rules) c.tick.ensures.account c.tick.ensures.nest c.enter.ensures.account (search rules) n c.note.ensures.nest c.rule-answer.ensures.follows c.leave.ensures.account c.leave.ensures.nest

pub infer_anew-returns-clause-inferred : goal.infer_anew-returns-clause-inferred
infer_anew-returns-clause-inferred g t c =
    let n : c.note.new.self.account ≡ noted (rule_number c.args.t.now) c.enter.new.self.account = cc in
    inferred_from _ _ _ c.requires.ready c.rule_number.ensures.formed c.args.room _ c.args.m.now c.leave.new.self
    (infer_entered _ _ _ _ c.args.room (c.args.room - 1) _ c.args.m.now c.tick.new.self c.enter.new.self c.note.new.self c.rule-answer.new.m c.leave.new.self
    (search rules) (search rules) c.tick.ensures.account c.tick.ensures.nest c.enter.ensures.account (search rules) n c.note.ensures.nest c.rule-answer.ensures.follows c.leave.ensures.account c.leave.ensures.nest)

-- the rule of a term
pub rule-returns-in-Rel : goal.rule-returns-in-Rel
rule-returns-in-Rel g t c = record { follows = rw (← c.view.ensures.is, c.in-Rel.is) (still (c.rel_rule.ensures.answers c.args.m.now.account) (search leaving)) }

pub rule-returns-in-Sort : goal.rule-returns-in-Sort
rule-returns-in-Sort g t c = record { follows = rw (← c.view.ensures.is, c.in-Sort.is) (still (c.sort_rule.ensures.answers c.args.m.now.account) (search leaving)) }

pub rule-returns-in-Prod : goal.rule-returns-in-Prod
rule-returns-in-Prod g t c = record { follows = rw (← c.view.ensures.is, c.in-Prod.is) c.prod_rule.ensures.follows }

pub rule-returns-in-Lambda : goal.rule-returns-in-Lambda
rule-returns-in-Lambda g t c = record { follows = rw (← c.view.ensures.is, c.in-Lambda.is) c.lambda_rule.ensures.follows }

pub rule-returns-in-LetIn : goal.rule-returns-in-LetIn
rule-returns-in-LetIn g t c = record { follows = rw (← c.view.ensures.is, c.in-LetIn.is) c.let_rule.ensures.follows }

pub rule-returns-in-App : goal.rule-returns-in-App
rule-returns-in-App g t c = record { follows = rw (← c.view.ensures.is, c.in-App.is) c.app_rule.ensures.follows }

pub rule-returns-in-Const : goal.rule-returns-in-Const
rule-returns-in-Const g t c = record { follows = rw (← c.view.ensures.is, c.in-Const.is) (still (c.const_rule.ensures.answers c.args.m.now.account) (search leaving)) }

pub rule-returns-in-Ind : goal.rule-returns-in-Ind
rule-returns-in-Ind g t c = record { follows = rw (← c.view.ensures.is, c.in-Ind.is) (still (c.family_rule.ensures.answers c.args.m.now.account) (search leaving)) }

pub rule-returns-in-Construct : goal.rule-returns-in-Construct
rule-returns-in-Construct g t c = record { follows = rw (← c.view.ensures.is, c.in-Construct.is) (still (c.constructor_rule.ensures.answers c.args.m.now.account) (search leaving)) }

pub rule-returns-in-Case : goal.rule-returns-in-Case
rule-returns-in-Case g t c = record { follows = rw (← c.view.ensures.is, c.in-Case.is) (rw c.get.ensures.is at c.case_rule.ensures.follows) }

pub rule-fix_rule-requires : goal.rule-fix_rule-requires
rule-fix_rule-requires g t c =
    let e = rw c.in-Fix.is at c.view.ensures.is in
    let k = c.view.ensures.formed in
    search rules

pub rule-returns-in-Fix : goal.rule-returns-in-Fix
rule-returns-in-Fix g t c = record { follows = rw (← c.view.ensures.is, c.in-Fix.is) c.fix_rule.ensures.follows }

-- products
pub prod_rule-returns-in_err-low : goal.prod_rule-returns-in_err-low
prod_rule-returns-in_err-low g t c = record { follows = passed_on c.from_residual.ensures.1 (halts _ c.in_err-low.ensures.follows (search leaving)) }

pub prod_rule-sort_at-requires-2 : goal.prod_rule-sort_at-requires-2
prod_rule-sort_at-requires-2 g t c =
    let r : IsReady c.args.env.now c.in_ok-under.under = rw (c.in_ok-under.ensures.longer, c.in_ok-share.ensures.ok) (assumed_ready _ _ _ c.requires.ready c.in_ok-low.ensures.counted) in
    search rules

pub prod_rule-returns-in_err-share : goal.prod_rule-returns-in_err-share
prod_rule-returns-in_err-share g t c = record { follows = passed_on c.from_residual-in_err-share.ensures.1 (rw c.in_err-share.ensures.only_memory (and_then _ c.in_ok-low.ensures.follows (follows_memory _ _ (search leaving)))) }

pub prod_rule-returns-in_err-under : goal.prod_rule-returns-in_err-under
prod_rule-returns-in_err-under g t c = record { follows = passed_on c.from_residual-in_err-under.ensures.1 (rw c.in_err-under.ensures.only_memory (and_then _ c.in_ok-low.ensures.follows (follows_memory _ _ (search leaving)))) }

pub prod_rule-returns-in_err-high : goal.prod_rule-returns-in_err-high
prod_rule-returns-in_err-high g t c = record { follows = passed_on c.from_residual-in_err-high.ensures.1 (and_then _ c.in_ok-low.ensures.follows (halts _ (rw (c.in_ok-under.ensures.longer, c.in_ok-share.ensures.ok) at c.in_err-high.ensures.follows) (search leaving))) }

pub prod_rule-returns-in_err-sort : goal.prod_rule-returns-in_err-sort
prod_rule-returns-in_err-sort g t c =
    record { follows = passed_on c.from_residual-in_err-sort.ensures.1 (rw c.in_err-sort.ensures.only_memory (and_then _ c.in_ok-low.ensures.follows (and_then _ (rw (c.in_ok-under.ensures.longer, c.in_ok-share.ensures.ok) at c.in_ok-high.ensures.follows) (follows_memory _ _ (search leaving))))) }

pub prod_rule-returns-in_err-make : goal.prod_rule-returns-in_err-make
prod_rule-returns-in_err-make g t c =
    record { follows = passed_on c.from_residual-in_err-make.ensures.1 (rw (sort_memory c.in_ok-sort.sort _ c.in_err-make.ensures.too_deep) (and_then _ c.in_ok-low.ensures.follows (and_then _ (rw (c.in_ok-under.ensures.longer, c.in_ok-share.ensures.ok) at c.in_ok-high.ensures.follows) (follows_memory _ _ (search leaving))))) }

pub prod_rule-returns : goal.prod_rule-returns
prod_rule-returns g t c = record { follows = and_then _ c.in_ok-low.ensures.follows (and_then _ (rw (c.in_ok-under.ensures.longer, c.in_ok-share.ensures.ok) at c.in_ok-high.ensures.follows) (follows_is _ _ _ (c.in_ok-make.ensures.ok ∙ ap SortT c.in_ok-sort.ensures.value))) }

-- lambdas
pub lambda_rule-returns-in_err-sorted_at : goal.lambda_rule-returns-in_err-sorted_at
lambda_rule-returns-in_err-sorted_at g t c = record { follows = passed_on c.from_residual.ensures.1 (halts _ c.in_err-sorted_at.ensures.follows.unread (search leaving)) }

pub lambda_rule-infer_at-requires : goal.lambda_rule-infer_at-requires
lambda_rule-infer_at-requires g t c =
    let r : IsReady c.args.env.now c.in_ok-under.under = rw (c.in_ok-under.ensures.longer, c.in_ok-share.ensures.ok) (assumed_ready _ _ _ c.requires.ready c.in_ok-sorted_at.ensures.counted) in
    search rules

pub lambda_rule-returns-in_err-share : goal.lambda_rule-returns-in_err-share
lambda_rule-returns-in_err-share g t c = record { follows = passed_on c.from_residual-in_err-share.ensures.1 (rw c.in_err-share.ensures.only_memory (and_then _ c.in_ok-sorted_at.ensures.follows.unread.1 (follows_memory _ _ (search leaving)))) }

pub lambda_rule-returns-in_err-under : goal.lambda_rule-returns-in_err-under
lambda_rule-returns-in_err-under g t c = record { follows = passed_on c.from_residual-in_err-under.ensures.1 (rw c.in_err-under.ensures.only_memory (and_then _ c.in_ok-sorted_at.ensures.follows.unread.1 (follows_memory _ _ (search leaving)))) }

pub lambda_rule-returns-in_err-ty : goal.lambda_rule-returns-in_err-ty
lambda_rule-returns-in_err-ty g t c = record { follows = passed_on c.from_residual-in_err-ty.ensures.1 (and_then _ c.in_ok-sorted_at.ensures.follows.unread.1 (halts _ (rw (c.in_ok-under.ensures.longer, c.in_ok-share.ensures.ok) at c.in_err-ty.ensures.follows) (search leaving))) }

pub lambda_rule-returns-in_err-share-2 : goal.lambda_rule-returns-in_err-share-2
lambda_rule-returns-in_err-share-2 g t c =
    let h = rw (c.in_ok-under.ensures.longer, c.in_ok-share.ensures.ok) at c.in_ok-ty.ensures.follows in
    record { follows = passed_on c.from_residual-in_err-share-2.ensures.1 (rw c.in_err-share-2.ensures.only_memory (and_then _ c.in_ok-sorted_at.ensures.follows.unread.1 (and_then _ h (follows_memory _ _ (search leaving))))) }

pub lambda_rule-returns-in_err-make : goal.lambda_rule-returns-in_err-make
lambda_rule-returns-in_err-make g t c =
    let h = rw (c.in_ok-under.ensures.longer, c.in_ok-share.ensures.ok) at c.in_ok-ty.ensures.follows in
    record { follows = passed_on c.from_residual-in_err-make.ensures.1 (and_then _ c.in_ok-sorted_at.ensures.follows.unread.1 (and_then _ h (follows_fault _ _ _ (rw c.in_ok-share-2.ensures.ok at c.in_err-make.ensures.too_deep)))) }

pub lambda_rule-returns : goal.lambda_rule-returns
lambda_rule-returns g t c = record { follows = and_then _ c.in_ok-sorted_at.ensures.follows.unread.1 (and_then _ (rw (c.in_ok-under.ensures.longer, c.in_ok-share.ensures.ok) at c.in_ok-ty.ensures.follows) (follows_made _ _ _ (rw c.in_ok-share-2.ensures.ok at c.in_ok-make.ensures.ok))) }

-- lets
pub let_rule-returns-in_err-sorted_at : goal.let_rule-returns-in_err-sorted_at
let_rule-returns-in_err-sorted_at g t c = record { follows = passed_on c.from_residual.ensures.1 (halts _ c.in_err-sorted_at.ensures.follows.unread (search leaving)) }

pub let_rule-returns-in_err-check_at : goal.let_rule-returns-in_err-check_at
let_rule-returns-in_err-check_at g t c = record { follows = passed_on c.from_residual-in_err-check_at.ensures.1 (and_then _ c.in_ok-sorted_at.ensures.follows.unread.1 (halts _ c.in_err-check_at.ensures.follows (search leaving))) }

pub let_rule-infer_at-requires : goal.let_rule-infer_at-requires
let_rule-infer_at-requires g t c =
    let r : IsReady c.args.env.now c.in_ok-under.under = rw (c.in_ok-under.ensures.longer, c.in_ok-share.ensures.ok, c.in_ok-share-2.ensures.ok) (defined_ready _ _ _ _ c.requires.ready c.in_ok-check_at.ensures.counted c.in_ok-sorted_at.ensures.counted) in
    search rules

pub let_rule-returns-in_err-share : goal.let_rule-returns-in_err-share
let_rule-returns-in_err-share g t c =
    record { follows = passed_on c.from_residual-in_err-share.ensures.1 (rw c.in_err-share.ensures.only_memory (and_then _ c.in_ok-sorted_at.ensures.follows.unread.1 (and_then _ c.in_ok-check_at.ensures.follows (follows_memory _ _ (search leaving))))) }

pub let_rule-returns-in_err-share-2 : goal.let_rule-returns-in_err-share-2
let_rule-returns-in_err-share-2 g t c =
    record { follows = passed_on c.from_residual-in_err-share-2.ensures.1 (rw c.in_err-share-2.ensures.only_memory (and_then _ c.in_ok-sorted_at.ensures.follows.unread.1 (and_then _ c.in_ok-check_at.ensures.follows (follows_memory _ _ (search leaving))))) }

pub let_rule-returns-in_err-under : goal.let_rule-returns-in_err-under
let_rule-returns-in_err-under g t c =
    record { follows = passed_on c.from_residual-in_err-under.ensures.1 (rw c.in_err-under.ensures.only_memory (and_then _ c.in_ok-sorted_at.ensures.follows.unread.1 (and_then _ c.in_ok-check_at.ensures.follows (follows_memory _ _ (search leaving))))) }

pub let_rule-returns-in_err-found : goal.let_rule-returns-in_err-found
let_rule-returns-in_err-found g t c =
    let h = rw (c.in_ok-under.ensures.longer, c.in_ok-share.ensures.ok, c.in_ok-share-2.ensures.ok) at c.in_err-found.ensures.follows in
    record { follows = passed_on c.from_residual-in_err-found.ensures.1 (and_then _ c.in_ok-sorted_at.ensures.follows.unread.1 (and_then _ c.in_ok-check_at.ensures.follows (halts _ h (search leaving)))) }

pub let_rule-returns-in_err-share-3 : goal.let_rule-returns-in_err-share-3
let_rule-returns-in_err-share-3 g t c =
    let h = rw (c.in_ok-under.ensures.longer, c.in_ok-share.ensures.ok, c.in_ok-share-2.ensures.ok) at c.in_ok-found.ensures.follows in
    record { follows = passed_on c.from_residual-in_err-share-3.ensures.1 (rw c.in_err-share-3.ensures.only_memory (and_then _ c.in_ok-sorted_at.ensures.follows.unread.1 (and_then _ c.in_ok-check_at.ensures.follows (and_then _ h (follows_memory _ _ (search leaving)))))) }

pub let_rule-returns-in_err-share-4 : goal.let_rule-returns-in_err-share-4
let_rule-returns-in_err-share-4 g t c =
    let h = rw (c.in_ok-under.ensures.longer, c.in_ok-share.ensures.ok, c.in_ok-share-2.ensures.ok) at c.in_ok-found.ensures.follows in
    record { follows = passed_on c.from_residual-in_err-share-4.ensures.1 (rw c.in_err-share-4.ensures.only_memory (and_then _ c.in_ok-sorted_at.ensures.follows.unread.1 (and_then _ c.in_ok-check_at.ensures.follows (and_then _ h (follows_memory _ _ (search leaving)))))) }

pub let_rule-returns-in_err-made : goal.let_rule-returns-in_err-made
let_rule-returns-in_err-made g t c =
    let h = rw (c.in_ok-under.ensures.longer, c.in_ok-share.ensures.ok, c.in_ok-share-2.ensures.ok) at c.in_ok-found.ensures.follows in
    let k = rw (c.in_ok-share-3.ensures.ok, c.in_ok-share-4.ensures.ok) at c.in_err-made.ensures.too_deep in
    record { follows = passed_on c.from_residual-in_err-made.ensures.1 (and_then _ c.in_ok-sorted_at.ensures.follows.unread.1 (and_then _ c.in_ok-check_at.ensures.follows (and_then _ h (follows_fault _ _ _ k)))) }

pub let_rule-returns : goal.let_rule-returns
let_rule-returns g t c =
    let h = rw (c.in_ok-under.ensures.longer, c.in_ok-share.ensures.ok, c.in_ok-share-2.ensures.ok) at c.in_ok-found.ensures.follows in
    record { follows = and_then _ c.in_ok-sorted_at.ensures.follows.unread.1 (and_then _ c.in_ok-check_at.ensures.follows (and_then _ h (follows_made _ _ _ (rw (c.in_ok-share-3.ensures.ok, c.in_ok-share-4.ensures.ok) at c.in_ok-made.ensures.ok)))) }

-- applications
pub app_rule-returns-in_err-ty : goal.app_rule-returns-in_err-ty
app_rule-returns-in_err-ty g t c = record { follows = passed_on c.from_residual.ensures.1 c.in_err-ty.ensures.follows.pends }

pub app_rule-returns-in_err-whole : goal.app_rule-returns-in_err-whole
app_rule-returns-in_err-whole g t c =
    record { follows = passed_on c.from_residual-in_err-whole.ensures.1 (pends_fault _ c.in_err-whole.ensures.making c.in_ok-ty.ensures.follows) }

pub app_rule-returns : goal.app_rule-returns
app_rule-returns g t c = record { follows = c.in_ok-ty.ensures.follows.pends (Ok _) c.in_ok-whole.ensures.making }

pub application_type-returns-in_err-ty : goal.application_type-returns-in_err-ty
application_type-returns-in_err-ty g t c = record { follows = pends_passed c.from_residual.ensures.1 (halts _ c.in_err-ty.ensures.follows.pends (search leaving)) }

pub application_type-returns-in_err-wanted-in-Prod : goal.application_type-returns-in_err-wanted-in-Prod
application_type-returns-in_err-wanted-in-Prod g t c =
    let e = rw c.in-Prod.is at c.view.ensures.is in
    let k = pending_beyond _ e _ c.in_err-wanted-in-Prod.ensures.making in
    record { follows = pends_passed c.from_residual-in_err-wanted-in-Prod.ensures.1 (halts _ (pends_fault _ k c.in_ok-ty.ensures.follows) (search leaving)) }

pub application_type-returns-in_err-check_at-in-Prod : goal.application_type-returns-in_err-check_at-in-Prod
application_type-returns-in_err-check_at-in-Prod g t c =
    let e = rw c.in-Prod.is at c.view.ensures.is in
    let h = rw c.in_ok-wanted-in-Prod.ensures.making.0 at c.in_err-check_at-in-Prod.ensures.follows in
    record {
      follows = pends_passed c.from_residual-in_err-check_at-in-Prod.ensures.1 (and_then _ (pends_whole c.in_ok-ty.ensures.follows)
          (product_stays _ _ _ _ _ (pending_product _ e) (halts _ h (search leaving))));
    }

pub application_type-returns-in_err-base-in-Prod : goal.application_type-returns-in_err-base-in-Prod
application_type-returns-in_err-base-in-Prod g t c =
    let e = rw c.in-Prod.is at c.view.ensures.is in
    let h = rw c.in_ok-wanted-in-Prod.ensures.making.0 at c.in_ok-check_at-in-Prod.ensures.follows in
    record {
      follows = pends_passed c.from_residual-in_err-base-in-Prod.ensures.1 (rw c.in_err-base-in-Prod.ensures.only_memory (and_then _ (pends_whole c.in_ok-ty.ensures.follows)
          (product_stays _ _ _ _ _ (pending_product _ e) (and_then _ h (follows_memory _ _ (search leaving))))));
    }

pub application_type-returns-in_err-and-in-Prod : goal.application_type-returns-in_err-and-in-Prod
application_type-returns-in_err-and-in-Prod g t c =
    let e = rw c.in-Prod.is at c.view.ensures.is in
    let h = rw c.in_ok-wanted-in-Prod.ensures.making.0 at c.in_ok-check_at-in-Prod.ensures.follows in
    record {
      follows = pends_passed c.from_residual-in_err-and-in-Prod.ensures.1 (rw c.in_err-and-in-Prod.ensures.only_memory (and_then _ (pends_whole c.in_ok-ty.ensures.follows)
          (product_stays _ _ _ _ _ (pending_product _ e) (and_then _ h (follows_memory _ _ (search leaving))))));
    }

pub application_type-returns-in_ok-and-in-Prod : goal.application_type-returns-in_ok-and-in-Prod
application_type-returns-in_ok-and-in-Prod g t c =
    let e = rw c.in-Prod.is at c.view.ensures.is in
    let h = rw c.in_ok-wanted-in-Prod.ensures.making.0 at c.in_ok-check_at-in-Prod.ensures.follows in
    let k = rw c.in_ok-base-in-Prod.ensures.ok at c.in_ok-and-in-Prod.ensures.ok in
    record {
      follows = pends_each (λ r m. and_then _ (pends_whole c.in_ok-ty.ensures.follows) (product_stays _ _ _ _ _ (pending_product _ e) (and_then _ h (ends_made r k m))));
    }

pub application_type-returns-in_err-whole-in_default : goal.application_type-returns-in_err-whole-in_default
application_type-returns-in_err-whole-in_default g t c =
    record { follows = pends_passed c.from_residual-in_err-whole-in_default.ensures.1 (halts _ (pends_fault _ c.in_err-whole-in_default.ensures.making c.in_ok-ty.ensures.follows) (search leaving)) }

pub application_type-returns-in_ok-whole-in_default : goal.application_type-returns-in_ok-whole-in_default
application_type-returns-in_ok-whole-in_default g t c =
    record { follows = pends_from (λ q f. and_then _ (c.in_ok-ty.ensures.follows.pends (Ok _) c.in_ok-whole-in_default.ensures.making) f) c.reduced_type.ensures.follows }

pub reduced_type-returns-in_err-whnf : goal.reduced_type-returns-in_err-whnf
reduced_type-returns-in_err-whnf g t c = record { follows = pends_passed c.from_residual.ensures.1 (halts _ c.in_err-whnf.ensures.follows (search leaving)) }

pub reduced_type-returns-in_err-retype-in-Prod : goal.reduced_type-returns-in_err-retype-in-Prod
reduced_type-returns-in_err-retype-in-Prod g t c =
    let e = rw c.in-Prod.is at c.view.ensures.is in
    record { follows = pends_passed c.from_residual-in_err-retype-in-Prod.ensures.1 (and_then _ c.in_ok-whnf.ensures.follows (product_found _ _ _ _ _ _ e (halts _ c.in_err-retype-in-Prod.ensures.follows (search leaving)))) }

pub reduced_type-returns-in_err-check_at-in-Prod : goal.reduced_type-returns-in_err-check_at-in-Prod
reduced_type-returns-in_err-check_at-in-Prod g t c =
    let e = rw c.in-Prod.is at c.view.ensures.is in
    record {
      follows = pends_passed c.from_residual-in_err-check_at-in-Prod.ensures.1 (and_then _ c.in_ok-whnf.ensures.follows (product_found _ _ _ _ _ _ e
          (and_then _ c.in_ok-retype-in-Prod.ensures.follows (halts _ c.in_err-check_at-in-Prod.ensures.follows (search leaving)))));
    }

pub reduced_type-returns-in_err-of_one-in-Prod : goal.reduced_type-returns-in_err-of_one-in-Prod
reduced_type-returns-in_err-of_one-in-Prod g t c =
    let e = rw c.in-Prod.is at c.view.ensures.is in
    record {
      follows = pends_passed c.from_residual-in_err-of_one-in-Prod.ensures.1 (rw c.in_err-of_one-in-Prod.ensures.only_memory (and_then _ c.in_ok-whnf.ensures.follows (product_found _ _ _ _ _ _ e
          (and_then _ c.in_ok-retype-in-Prod.ensures.follows (and_then _ c.in_ok-check_at-in-Prod.ensures.follows (follows_memory _ _ (search leaving)))))));
    }

pub reduced_type-returns-in_ok-of_one-in-Prod : goal.reduced_type-returns-in_ok-of_one-in-Prod
reduced_type-returns-in_ok-of_one-in-Prod g t c =
    let e = rw c.in-Prod.is at c.view.ensures.is in
    record {
      follows = pends_each (λ r m. and_then _ c.in_ok-whnf.ensures.follows (product_found _ _ _ _ _ _ e
          (and_then _ c.in_ok-retype-in-Prod.ensures.follows (and_then _ c.in_ok-check_at-in-Prod.ensures.follows (ends_made r c.in_ok-of_one-in-Prod.ensures.ok m)))));
    }

pub reduced_type-returns-in_default : goal.reduced_type-returns-in_default
reduced_type-returns-in_default g t c = record { follows = pends_halts (and_then _ c.in_ok-whnf.ensures.follows (search rules)) }

pub function_type-returns-in-App : goal.function_type-returns-in-App
function_type-returns-in-App g t c = record { follows = c.prefix_type.ensures.follows }

pub function_type-returns-in_err-ty-in_default : goal.function_type-returns-in_err-ty-in_default
function_type-returns-in_err-ty-in_default g t c = record { follows = pends_passed c.from_residual.ensures.1 c.in_err-ty-in_default.ensures.follows }

pub function_type-returns-in_ok-ty-in_default : goal.function_type-returns-in_ok-ty-in_default
function_type-returns-in_ok-ty-in_default g t c = record { follows = pends_there c.of.ensures.within c.of.ensures.is c.in_ok-ty-in_default.ensures.follows }

-- the start of an inference of a function
pub inner_type-returns-then-not-tick : goal.inner_type-returns-then-not-tick
inner_type-returns-then-not-tick g t c = record { follows = pends_halts (infer_spent _ _ _ _ c.args.room c.args.m.now _ (search rules) c.tick.ensures.account c.tick.ensures.nest) }

pub inner_type-returns-then-not-enter : goal.inner_type-returns-then-not-enter
inner_type-returns-then-not-enter g t c =
    record {
      follows = pends_halts (infer_nested _ _ _ _ c.args.room c.args.m.now c.tick.new.self c.enter.new.self (search rules) (search rules) c.tick.ensures.account c.tick.ensures.nest c.enter.ensures.account (search rules));
    }

pub inner_type-returns : goal.inner_type-returns
inner_type-returns g t c =
    let n : c.note.new.self.account ≡ noted (rule_number (App c.args.function.now c.args.argument.now)) c.enter.new.self.account = cc in
    record {
      follows = pends_from (λ q f. infer_entered _ _ _ _ c.args.room (c.args.room - 1) q c.args.m.now c.tick.new.self c.enter.new.self c.note.new.self c.application_type-answer.new.m c.leave.new.self
          (search rules) (search rules) c.tick.ensures.account c.tick.ensures.nest c.enter.ensures.account (search rules) n c.note.ensures.nest f c.leave.ensures.account c.leave.ensures.nest) c.application_type-answer.ensures.follows;
    }

-- the sort of a term
pub sort_at-returns-in_err-ty-clause-follows : goal.sort_at-returns-in_err-ty-clause-follows
unfolding sort_of
sort_at-returns-in_err-ty-clause-follows g t c = passed_on c.from_residual.ensures.1 (halts _ c.in_err-ty.ensures.follows (search leaving))

pub sort_at-returns-in_err-share-in-Sort-clause-follows : goal.sort_at-returns-in_err-share-in-Sort-clause-follows
unfolding sort_of
sort_at-returns-in_err-share-in-Sort-clause-follows g t c = passed_on c.from_residual-in_err-share-in-Sort.ensures.1 (rw c.in_err-share-in-Sort.ensures.only_memory (and_then _ c.in_ok-ty.ensures.follows (follows_memory _ _ (search leaving))))

pub sort_at-returns-in-Sort-clause-follows : goal.sort_at-returns-in-Sort-clause-follows
unfolding sort_of
sort_at-returns-in-Sort-clause-follows g t c =
    and_then _ c.in_ok-ty.ensures.follows (sort_stays c.args.env.now c.args.room c.args.ctx.now _ _ _ (rw c.in-Sort.is at c.view.ensures.is) c.in_ok-share-in-Sort.ensures.value)

pub sort_at-returns-clause-follows : goal.sort_at-returns-clause-follows
unfolding sort_of
sort_at-returns-clause-follows g t c = and_then _ c.in_ok-ty.ensures.follows c.reduced_sort.ensures.follows

pub sort_at-returns-clause-counted : goal.sort_at-returns-clause-counted
sort_at-returns-clause-counted g t c = if_ok _ c.reduced_sort.result c.in_ok-ty.ensures.inferred.subject

-- that a term has a sort
pub sorted_at-returns-in-Sort-clause-follows : goal.sorted_at-returns-in-Sort-clause-follows
sorted_at-returns-in-Sort-clause-follows g t c =
    let e = rw c.in-Sort.is at c.view.ensures.is in
    sort_unread c.args.env.now c.args.room c.args.ctx.now _ c.args.t.now c.sort_of_sort.result e (c.sort_of_sort.ensures.follows c.args.ctx.now c.args.room c.requires.nest)

pub sorted_at-returns-in-Sort-clause-counted : goal.sorted_at-returns-in-Sort-clause-counted
sorted_at-returns-in-Sort-clause-counted g t c =
    let e = rw c.in-Sort.is at c.view.ensures.is in
    let f = c.sort_of_sort.ensures.follows c.args.ctx.now c.args.room c.requires.nest in
    sort_counted c.args.env.now c.args.room c.args.ctx.now _ c.args.t.now c.sort_of_sort.result e c.requires.ready c.view.ensures.formed f

-- the same, by the term's type
pub inferred_sorted-returns-in_err-ty-clause-follows : goal.inferred_sorted-returns-in_err-ty-clause-follows
unfolding sort_of
inferred_sorted-returns-in_err-ty-clause-follows g t c = unread_passed c.from_residual.ensures.1 (halts _ c.in_err-ty.ensures.follows (search leaving))

pub inferred_sorted-returns-then-is_sort-clause-follows : goal.inferred_sorted-returns-then-is_sort-clause-follows
unfolding sort_of
inferred_sorted-returns-then-is_sort-clause-follows g t c =
    let s = c.is_sort.ensures.sort c.if-is_sort.true in
    unread_done (and_then _ c.in_ok-ty.ensures.follows (sort_stays c.args.env.now c.args.room c.args.ctx.now _ s.0 s.0 s.1 refl))

pub inferred_sorted-returns-in_err-_sort-clause-follows : goal.inferred_sorted-returns-in_err-_sort-clause-follows
unfolding sort_of
inferred_sorted-returns-in_err-_sort-clause-follows g t c = unread_passed c.from_residual-in_err-_sort.ensures.1 (and_then _ c.in_ok-ty.ensures.follows c.in_err-_sort.ensures.follows)

pub inferred_sorted-returns-clause-follows : goal.inferred_sorted-returns-clause-follows
unfolding sort_of
inferred_sorted-returns-clause-follows g t c = unread_done (and_then _ c.in_ok-ty.ensures.follows c.in_ok-_sort.ensures.follows)

-- the sort of a term by its type's weak-head normal form
pub reduced_sort-returns-in_err-whnf : goal.reduced_sort-returns-in_err-whnf
reduced_sort-returns-in_err-whnf g t c = record { follows = passed_on c.from_residual.ensures.1 (halts _ c.in_err-whnf.ensures.follows (search leaving)) }

pub reduced_sort-returns-in_err-sort-in-Sort : goal.reduced_sort-returns-in_err-sort-in-Sort
reduced_sort-returns-in_err-sort-in-Sort g t c = record { follows = passed_on c.from_residual-in_err-sort-in-Sort.ensures.1 (rw c.in_err-sort-in-Sort.ensures.only_memory (and_then _ c.in_ok-whnf.ensures.follows (follows_memory _ _ (search leaving)))) }

pub reduced_sort-returns-then-same : goal.reduced_sort-returns-then-same
reduced_sort-returns-then-same g t c = record {
  follows = and_then _ c.in_ok-whnf.ensures.follows
      (sort_found_same c.args.env.now c.args.room c.args.ctx.now _ _ _ (rw c.in-Sort.is at c.view.ensures.is) (same_yes _ _ c.same.result c.same.ensures.is c.if-same.true) c.in_ok-sort-in-Sort.ensures.value);
}

pub reduced_sort-returns-in_err-conv-in-Sort : goal.reduced_sort-returns-in_err-conv-in-Sort
reduced_sort-returns-in_err-conv-in-Sort g t c =
    record {
      follows = passed_on c.from_residual-in_err-conv-in-Sort.ensures.1 (and_then _ c.in_ok-whnf.ensures.follows
          (sort_found_goes c.args.env.now c.args.room c.args.ctx.now _ _ _ (rw c.in-Sort.is at c.view.ensures.is) (same_no _ _ c.same.result c.same.ensures.is c.if-same.false) (halts _ c.in_err-conv-in-Sort.ensures.follows (search leaving))));
    }

pub reduced_sort-returns-in_err-_above-in-Sort : goal.reduced_sort-returns-in_err-_above-in-Sort
reduced_sort-returns-in_err-_above-in-Sort g t c =
    record {
      follows = passed_on c.from_residual-in_err-_above-in-Sort.ensures.1 (and_then _ c.in_ok-whnf.ensures.follows
          (sort_found_goes c.args.env.now c.args.room c.args.ctx.now _ _ _ (rw c.in-Sort.is at c.view.ensures.is) (same_no _ _ c.same.result c.same.ensures.is c.if-same.false) (and_then _ c.in_ok-conv-in-Sort.ensures.follows (halts _ c.in_err-_above-in-Sort.ensures.follows (search leaving)))));
    }

pub reduced_sort-returns-in_ok-_above-in-Sort : goal.reduced_sort-returns-in_ok-_above-in-Sort
reduced_sort-returns-in_ok-_above-in-Sort g t c =
    record {
      follows = and_then _ c.in_ok-whnf.ensures.follows
          (sort_found_goes c.args.env.now c.args.room c.args.ctx.now _ _ _ (rw c.in-Sort.is at c.view.ensures.is) (same_no _ _ c.same.result c.same.ensures.is c.if-same.false)
          (and_then _ c.in_ok-conv-in-Sort.ensures.follows (and_then _ c.in_ok-_above-in-Sort.ensures.follows (follows_is _ _ _ c.in_ok-sort-in-Sort.ensures.value))));
    }

pub reduced_sort-returns-in_default : goal.reduced_sort-returns-in_default
reduced_sort-returns-in_default g t c = record { follows = and_then _ c.in_ok-whnf.ensures.follows (search rules) }

-- a term against a type
pub check_at-returns-in_err-found-clause-follows : goal.check_at-returns-in_err-found-clause-follows
unfolding check
check_at-returns-in_err-found-clause-follows g t c = passed_on c.from_residual.ensures.1 (halts _ c.in_err-found.ensures.follows (search leaving))

pub check_at-returns-then-same-clause-follows : goal.check_at-returns-then-same-clause-follows
unfolding check
check_at-returns-then-same-clause-follows g t c = and_then _ c.in_ok-found.ensures.follows (follows_then _ _ _ _ _ _ (same_yes _ _ c.same.result c.same.ensures.is c.if-same.true) (search rules))

pub check_at-returns-in_err-conv-clause-follows : goal.check_at-returns-in_err-conv-clause-follows
unfolding check
check_at-returns-in_err-conv-clause-follows g t c = passed_on c.from_residual-in_err-conv.ensures.1 (and_then _ c.in_ok-found.ensures.follows (follows_else _ _ _ _ _ _ (same_no _ _ c.same.result c.same.ensures.is c.if-same.false) (halts _ c.in_err-conv.ensures.follows (search leaving))))

pub check_at-returns-in_err-sorted_at-clause-follows : goal.check_at-returns-in_err-sorted_at-clause-follows
unfolding check
check_at-returns-in_err-sorted_at-clause-follows g t c =
    passed_on c.from_residual-in_err-sorted_at.ensures.1 (and_then _ c.in_ok-found.ensures.follows (follows_else _ _ _ _ _ _ (same_no _ _ c.same.result c.same.ensures.is c.if-same.false) (and_then _ c.in_ok-conv.ensures.follows (halts _ c.in_err-sorted_at.ensures.follows.unread (search leaving)))))

pub check_at-below-requires-clause-left : goal.check_at-below-requires-clause-left
check_at-below-requires-clause-left g t c = c.in_ok-found.ensures.inferred.classifier

pub check_at-below-requires-clause-right : goal.check_at-below-requires-clause-right
check_at-below-requires-clause-right g t c = c.in_ok-sorted_at.ensures.counted

pub check_at-returns-clause-follows : goal.check_at-returns-clause-follows
unfolding check
check_at-returns-clause-follows g t c = and_then _ c.in_ok-found.ensures.follows (follows_else _ _ _ _ _ _ (same_no _ _ c.same.result c.same.ensures.is c.if-same.false) (and_then _ c.in_ok-conv.ensures.follows (and_then _ c.in_ok-sorted_at.ensures.follows.unread.1 c.below.ensures.follows)))

pub check_at-returns-clause-counted : goal.check_at-returns-clause-counted
check_at-returns-clause-counted g t c = if_ok _ c.below.result c.in_ok-found.ensures.inferred.subject

pub check_at-returns-clause-type_counted : goal.check_at-returns-clause-type_counted
check_at-returns-clause-type_counted g t c = if_ok _ c.below.result c.in_ok-sorted_at.ensures.counted

-- a type in place of another
pub retype-returns-then-same : goal.retype-returns-then-same
unfolding retype
retype-returns-then-same g t c = record { follows = follows_then _ _ _ _ _ _ (same_yes _ _ c.same.result c.same.ensures.is c.if-same.true) (search rules) }

pub retype-returns-in_err-conv : goal.retype-returns-in_err-conv
unfolding retype
retype-returns-in_err-conv g t c = record { follows = passed_on c.from_residual.ensures.1 (follows_else _ _ _ _ _ _ (same_no _ _ c.same.result c.same.ensures.is c.if-same.false) (halts _ c.in_err-conv.ensures.follows (search leaving))) }

pub retype-returns-in_err-sorted_at : goal.retype-returns-in_err-sorted_at
unfolding retype
retype-returns-in_err-sorted_at g t c = record { follows = passed_on c.from_residual-in_err-sorted_at.ensures.1 (follows_else _ _ _ _ _ _ (same_no _ _ c.same.result c.same.ensures.is c.if-same.false) (and_then _ c.in_ok-conv.ensures.follows (halts _ c.in_err-sorted_at.ensures.follows.unread (search leaving)))) }

pub retype-returns : goal.retype-returns
unfolding retype
retype-returns g t c = record { follows = follows_else _ _ _ _ _ _ (same_no _ _ c.same.result c.same.ensures.is c.if-same.false) (and_then _ c.in_ok-conv.ensures.follows (and_then _ c.in_ok-sorted_at.ensures.follows.unread.1 (search rules))) }

-- the types of the definitions of a fixpoint
pub types_rule-loop-i-init : goal.types_rule-loop-i-init
types_rule-loop-i-init g t c = rw c.in_ok-under.ensures.same (record { rest = λ r n x. x; nest = refl; under = refl; ready = c.requires.ready; deeper = ([], refl) })

pub types_rule-sorted_at-requires : goal.types_rule-sorted_at-requires
types_rule-sorted_at-requires g t c =
    let r = c.loop-i.invariant.ready in
    let n = c.loop-i.invariant.nest in
    search rules

pub types_rule-returns-in_default-clause-follows : goal.types_rule-returns-in_default-clause-follows
types_rule-returns-in_default-clause-follows g t c = follows_memory _ _ (search leaving)

pub types_rule-returns-in_err-under-clause-follows : goal.types_rule-returns-in_err-under-clause-follows
types_rule-returns-in_err-under-clause-follows g t c = passed_with c.from_residual.result c.from_residual.ensures.1 (rw c.in_err-under.ensures.only_memory (follows_memory _ _ (search leaving)))

pub types_rule-returns-in_err-ty-clause-follows : goal.types_rule-returns-in_err-ty-clause-follows
types_rule-returns-in_err-ty-clause-follows g t c =
    passed_with c.from_residual-in_err-ty.result c.from_residual-in_err-ty.ensures.1 (rw c.as_slice-items.ensures.is at (c.loop-i.invariant.rest _ _
    (types_fault _ _ _ _ _ _ (grind arith) c.index-items-i.is (inferring_fair _ _ _) _ _ (rw (← c.index-items-i.is) at c.in_err-ty.ensures.too_deep))))

pub types_rule-returns-in_err-sorted_at-clause-follows : goal.types_rule-returns-in_err-sorted_at-clause-follows
types_rule-returns-in_err-sorted_at-clause-follows g t c =
    passed_with c.from_residual-in_err-sorted_at.result c.from_residual-in_err-sorted_at.ensures.1 (rw c.as_slice-items.ensures.is at (c.loop-i.invariant.rest _ _
    (types_stop _ _ _ _ _ _ (grind arith) c.index-items-i.is (inferring_fair _ _ _) _ _ _ _ (rw (← c.index-items-i.is) at c.in_ok-ty.ensures.parallel) c.in_err-sorted_at.ensures.follows.unread)))

pub types_rule-returns-in_err-under-2-clause-follows : goal.types_rule-returns-in_err-under-2-clause-follows
types_rule-returns-in_err-under-2-clause-follows g t c =
    passed_with c.from_residual-in_err-under-2.result c.from_residual-in_err-under-2.ensures.1 (rw c.in_err-under-2.ensures.only_memory (rw c.as_slice-items.ensures.is at (c.loop-i.invariant.rest _ _
    (types_next _ _ _ _ _ _ (grind arith) c.index-items-i.is _ _ _ _ _ _ (rw (← c.index-items-i.is) at c.in_ok-ty.ensures.parallel) c.in_ok-sorted_at.ensures.follows.unread.1 (follows_memory _ _ (search leaving))))))

pub types_rule-loop-i-preserved : goal.types_rule-loop-i-preserved
types_rule-loop-i-preserved g t c =
    let l : c.loop-i.i < length c.as_slice-items.result.now = grind arith in
    let k = rw (← c.index-items-i.is) at c.in_ok-ty.ensures.parallel in
    let e = c.in_ok-under-2.ensures.longer in
    record {
      rest = λ r n x. c.loop-i.invariant.rest r n (types_next _ _ _ _ _ _ l c.index-items-i.is _ _ r _ _ n k c.in_ok-sorted_at.ensures.follows.unread.1 (rw e at x));
      nest = c.in_ok-sorted_at.ensures.follows.after.nest ∙ c.loop-i.invariant.nest;
      under = c.loop-i.invariant.under ∙ rw e (definitions_next _ _ _ _ l c.index-items-i.is _ k);
      ready = rw e (assumed_ready _ _ _ c.loop-i.invariant.ready c.in_ok-sorted_at.ensures.counted);
      deeper = rw e (more_longer _ _ _ c.loop-i.invariant.deeper);
    }

pub types_rule-returns-clause-follows : goal.types_rule-returns-clause-follows
types_rule-returns-clause-follows g t c = rw c.as_slice-items.ensures.is at (c.loop-i.invariant.rest _ _ (types_done _ _ _ _ _ _ (grind arith)))

pub types_rule-returns-clause-under : goal.types_rule-returns-clause-under
types_rule-returns-clause-under g t c = sym (rw c.as_slice-items.ensures.is at (c.loop-i.invariant.under ∙ definitions_done c.loop-i.under c.as_slice-items.result.now c.loop-i.i (grind arith)))

-- the definitions of a fixpoint
pub definition_rule-returns-in_err-inner : goal.definition_rule-returns-in_err-inner
definition_rule-returns-in_err-inner g t c = record { follows = passed_on c.from_residual.ensures.1 (rw c.in_err-inner.ensures.only_memory (definition_memory c.args.def.now _ _ _ _ _ _ (inferring_fair _ _ _) (comparing_fair _ _ _) _)) }

pub definition_rule-returns-in_default : goal.definition_rule-returns-in_default
definition_rule-returns-in_default g t c = record { follows = few_lambdas c.args.def.now _ _ _ _ _ _ (inferring_fair _ _ _) (comparing_fair _ _ _) (sym c.in_ok-inner.ensures.found ∙ c.in_default.is) }

pub definition_rule-returns-in_err-ty : goal.definition_rule-returns-in_err-ty
definition_rule-returns-in_err-ty g t c =
    record { follows = passed_on c.from_residual-in_err-ty.ensures.1 (lambdas_found c.args.def.now _ _ _ _ _ _ (sym c.in_ok-inner.ensures.found ∙ c.in-Some.is) (halts _ (follows_fault _ _ _ (lift_beyond c.args.count c.args.def.now.ty c.in_err-ty.field-0.0 c.in_err-ty.ensures.too_deep)) (search leaving))) }

pub definition_rule-returns-in_err-check_at : goal.definition_rule-returns-in_err-check_at
definition_rule-returns-in_err-check_at g t c =
    record { follows = passed_on c.from_residual-in_err-check_at.ensures.1 (lambdas_found c.args.def.now _ _ _ _ _ _ (sym c.in_ok-inner.ensures.found ∙ c.in-Some.is) (and_then _ (follows_made _ _ _ c.in_ok-ty.ensures.parallel) (halts _ c.in_err-check_at.ensures.follows (search leaving)))) }

pub definition_rule-returns-in_err-whnf : goal.definition_rule-returns-in_err-whnf
definition_rule-returns-in_err-whnf g t c =
    let e = sym c.in_ok-inner.ensures.found ∙ c.in-Some.is in
    record { follows = passed_on c.from_residual-in_err-whnf.ensures.1 (lambdas_found c.args.def.now _ _ _ _ _ _ e (and_then _ (follows_made _ _ _ c.in_ok-ty.ensures.parallel) (and_then _ c.in_ok-check_at.ensures.follows (halts _ c.in_err-whnf.ensures.follows (search leaving))))) }

pub definition_rule-returns-then-not-is_of_family : goal.definition_rule-returns-then-not-is_of_family
definition_rule-returns-then-not-is_of_family g t c =
    let e = sym c.in_ok-inner.ensures.found ∙ c.in-Some.is in
    record { follows = lambdas_found c.args.def.now _ _ _ _ _ _ e (and_then _ (follows_made _ _ _ c.in_ok-ty.ensures.parallel) (and_then _ c.in_ok-check_at.ensures.follows (and_then _ c.in_ok-whnf.ensures.follows (no_family_found _ _ _ c.is_of_family.ensures.is c.if-not-is_of_family.true)))) }

pub definition_rule-returns : goal.definition_rule-returns
definition_rule-returns g t c =
    let e = sym c.in_ok-inner.ensures.found ∙ c.in-Some.is in
    let w = c.in_ok-whnf.whnf in
    record { follows = lambdas_found c.args.def.now _ _ _ _ _ _ e (and_then _ (follows_made _ _ _ c.in_ok-ty.ensures.parallel) (and_then _ c.in_ok-check_at.ensures.follows (and_then _ c.in_ok-whnf.ensures.follows (is_family w _ _ c.is_of_family.ensures.is c.if-not-is_of_family.false)))) }

pub definitions_rule-returns-in_default : goal.definitions_rule-returns-in_default
definitions_rule-returns-in_default g t c = record { follows = follows_memory _ _ (search leaving) }

pub definitions_rule-loop-i-preserved : goal.definitions_rule-loop-i-preserved
definitions_rule-loop-i-preserved g t c =
    let l : c.loop-i.i < length c.as_slice-items.result.now = grind arith in
    let n : c.in-Ok.count ≡ length c.as_slice-items.result.now = grind arith in
    record { rest = λ r m x. c.loop-i.invariant.rest r m (definitions_go _ _ _ _ _ _ _ _ _ l c.index-items-i.is r _ _ m (rw n at c.in_ok-definition_rule.ensures.follows) x); nest = c.in_ok-definition_rule.ensures.follows.after.nest ∙ c.loop-i.invariant.nest }

pub definitions_rule-returns-in_err-definition_rule : goal.definitions_rule-returns-in_err-definition_rule
definitions_rule-returns-in_err-definition_rule g t c =
    let n : c.in-Ok.count ≡ length c.as_slice-items.result.now = grind arith in
    record { follows = passed_on c.from_residual.ensures.1 (rw rargs_length (rw c.as_slice-items.ensures.is at (c.loop-i.invariant.rest _ _ (definitions_stop _ _ _ _ _ _ _ _ _ (grind arith) c.index-items-i.is (inferring_fair _ _ _) (comparing_fair _ _ _) _ _ _ (rw n at c.in_err-definition_rule.ensures.follows))))) }

pub definitions_rule-returns : goal.definitions_rule-returns
definitions_rule-returns g t c = record { follows = rw rargs_length (rw c.as_slice-items.ensures.is at (c.loop-i.invariant.rest _ _ (definitions_end _ _ _ _ _ _ _ _ _ (grind arith)))) }

-- a fixpoint
pub fix_rule-definitions_rule-requires : goal.fix_rule-definitions_rule-requires
fix_rule-definitions_rule-requires g t c =
    let r = c.in_ok-under.ensures.inner in
    search rules

pub fix_rule-fix-requires : goal.fix_rule-fix-requires
fix_rule-fix-requires g t c =
    let q = rw c.in_ok-under.ensures.under at c.in_ok-definitions_rule.ensures.follows in
    let k = guardable c.args.env.now c.args.ctx.now c.args.index _ _ _ c.args.room c.args.m.now c.types_rule.new.m c.definitions_rule.new.m c.requires.ready (rw (← c.requires.whole) at c.requires.formed) c.in_ok-under.ensures.follows q in
    rw (← c.requires.whole) (record { env = c.requires.ready.env; ctx = c.requires.ready.context; counted = k.counted; lambdas = k.lambdas; families = k.families })

pub fix_rule-returns-in_err-under : goal.fix_rule-returns-in_err-under
fix_rule-returns-in_err-under g t c = record { follows = passed_on c.from_residual.ensures.1 (halts _ c.in_err-under.ensures.follows (search leaving)) }

pub fix_rule-returns-in_err-definitions_rule : goal.fix_rule-returns-in_err-definitions_rule
fix_rule-returns-in_err-definitions_rule g t c = record { follows = passed_on c.from_residual-in_err-definitions_rule.ensures.1 (and_then _ c.in_ok-under.ensures.follows (halts _ (rw c.in_ok-under.ensures.under at c.in_err-definitions_rule.ensures.follows) (search leaving))) }

pub fix_rule-returns-in_err-fix : goal.fix_rule-returns-in_err-fix
fix_rule-returns-in_err-fix g t c =
    record { follows = passed_on c.from_residual-in_err-fix.ensures.1 (and_then _ c.in_ok-under.ensures.follows (and_then _ (rw c.in_ok-under.ensures.under at c.in_ok-definitions_rule.ensures.follows) (halts _ (rw (← c.requires.whole) at c.in_err-fix.ensures.follows) (search leaving)))) }

pub fix_rule-returns : goal.fix_rule-returns
fix_rule-returns g t c =
    record { follows = and_then _ c.in_ok-under.ensures.follows (and_then _ (rw c.in_ok-under.ensures.under at c.in_ok-definitions_rule.ensures.follows) (and_then _ (rw (← c.requires.whole) at c.in_ok-fix.ensures.follows) (still (c.definition_type.ensures.answers c.fix.new.m.account) (search leaving)))) }

-- the entries of a telescope
pub entered-loop-i-init : goal.entered-loop-i-init
entered-loop-i-init g t c = rw c.in_ok-inner.ensures.same (record { rest = λ r n x. x; longer = λ i. extend c.args.ctx.now c.as_slice-items.result.now; ready = c.requires.ready; deeper = ([], refl); nest = λ i. c.args.m.now.nest })

pub entered-loop-i-preserved : goal.entered-loop-i-preserved
entered-loop-i-preserved g t c =
    rw (c.in_ok-inner-2.ensures.longer, c.in_ok-share.ensures.ok) (record {
      deeper = more_longer _ _ _ c.loop-i.invariant.deeper;
      rest = λ r n x. c.loop-i.invariant.rest r n (entered_next _ _ _ _ _ _ _ r _ _ n c.loop-i-test.true c.index-items-i.is c.in_ok-sorted_at.ensures.follows.unread.1 x);
      longer = longer_next _ _ _ _ c.loop-i-test.true c.index-items-i.is ∙ c.loop-i.invariant.longer;
      ready = assumed_ready _ _ _ c.loop-i.invariant.ready c.in_ok-sorted_at.ensures.counted;
      nest = c.in_ok-sorted_at.ensures.follows.after.nest ∙ c.loop-i.invariant.nest;
    })

pub entered-returns-in_err-inner-clause-follows : goal.entered-returns-in_err-inner-clause-follows
entered-returns-in_err-inner-clause-follows g t c = passed_on c.from_residual.ensures.1 (rw c.in_err-inner.ensures.only_memory (follows_memory _ _ (search leaving)))

pub entered-returns-in_err-sorted_at-clause-follows : goal.entered-returns-in_err-sorted_at-clause-follows
entered-returns-in_err-sorted_at-clause-follows g t c = passed_on c.from_residual-in_err-sorted_at.ensures.1 (rw c.as_slice-items.ensures.is at (c.loop-i.invariant.rest _ _ (entered_stop _ _ (inferring_fair _ _ _) _ _ _ _ _ _ _ c.loop-i-test.true c.index-items-i.is c.in_err-sorted_at.ensures.follows.unread)))

pub entered-returns-in_err-share-clause-follows : goal.entered-returns-in_err-share-clause-follows
entered-returns-in_err-share-clause-follows g t c =
    passed_on c.from_residual-in_err-share.ensures.1 (rw c.in_err-share.ensures.only_memory (rw c.as_slice-items.ensures.is at (c.loop-i.invariant.rest _ _
    (entered_next _ _ _ _ _ _ _ _ _ _ _ c.loop-i-test.true c.index-items-i.is c.in_ok-sorted_at.ensures.follows.unread.1 (follows_memory _ _ (search leaving))))))

pub entered-returns-in_err-inner-2-clause-follows : goal.entered-returns-in_err-inner-2-clause-follows
entered-returns-in_err-inner-2-clause-follows g t c =
    passed_on c.from_residual-in_err-inner-2.ensures.1 (rw c.in_err-inner-2.ensures.only_memory (rw c.as_slice-items.ensures.is at (c.loop-i.invariant.rest _ _
    (entered_next _ _ _ _ _ _ _ _ _ _ _ c.loop-i-test.true c.index-items-i.is c.in_ok-sorted_at.ensures.follows.unread.1 (follows_memory _ _ (search leaving))))))

pub entered-returns-clause-follows : goal.entered-returns-clause-follows
entered-returns-clause-follows g t c = rw c.as_slice-items.ensures.is at (c.loop-i.invariant.rest _ _ (entered_end _ _ _ _ _ _ c.loop-i-test.false))

-- terms against a telescope
pub check_all-loop-i-init : goal.check_all-loop-i-init
check_all-loop-i-init g t c = rw c.new-before.ensures.empty (record { rest = λ r n x. x; before = refl; counted = tt; nest = refl })

pub check_all-loop-i-preserved : goal.check_all-loop-i-preserved
check_all-loop-i-preserved g t c =
    let k : c.loop-i.i < length c.as_slice-types.result.now = grind arith in
    let a = rw c.in_ok-share.ensures.ok at c.in_ok-push.ensures.ok in
    record {
      rest = λ r n x. c.loop-i.invariant.rest r n (all_next _ _ _ _ _ _ _ _ _ _ c.loop-i-test.true k c.index-listed-i.is c.index-types-i.is _ _ r _ _ n c.in_ok-ty.ensures.parallel a c.in_ok-check_at.ensures.follows x);
      before = a ∙ ap (λ xs. xs ++ (c.index-listed-i.result ∷ [])) c.loop-i.invariant.before ∙ sym (take_next _ _ _ c.loop-i-test.true c.index-listed-i.is);
      counted = rw a (appended_counted c.args.env.now c.loop-i.before (c.index-listed-i.result ∷ []) c.loop-i.invariant.counted (c.in_ok-check_at.ensures.counted, tt));
      nest = c.in_ok-check_at.ensures.follows.after.nest ∙ c.loop-i.invariant.nest;
    }

pub check_all-returns-in_err-ty-clause-follows : goal.check_all-returns-in_err-ty-clause-follows
check_all-returns-in_err-ty-clause-follows g t c =
    passed_on c.from_residual.ensures.1 (rw (c.as_slice-listed.ensures.is, c.as_slice-types.ensures.is) at (c.loop-i.invariant.rest _ _ (all_fault _ _ _ _ _ _ _ _ _ _ c.loop-i-test.true (grind arith) c.index-listed-i.is c.index-types-i.is (inferring_fair _ _ _) (comparing_fair _ _ _) _ _ c.in_err-ty.ensures.too_deep)))

pub check_all-returns-in_err-check_at-clause-follows : goal.check_all-returns-in_err-check_at-clause-follows
check_all-returns-in_err-check_at-clause-follows g t c =
    passed_on c.from_residual-in_err-check_at.ensures.1 (rw (c.as_slice-listed.ensures.is, c.as_slice-types.ensures.is) at (c.loop-i.invariant.rest _ _
    (all_stop _ _ _ _ _ _ c.loop-i.before _ _ _ c.loop-i-test.true (grind arith) c.index-listed-i.is c.index-types-i.is (inferring_fair _ _ _) (comparing_fair _ _ _) _ _ _ _ c.in_ok-ty.ensures.parallel c.in_err-check_at.ensures.follows)))

pub check_all-returns-in_err-share-clause-follows : goal.check_all-returns-in_err-share-clause-follows
check_all-returns-in_err-share-clause-follows g t c =
    passed_on c.from_residual-in_err-share.ensures.1 (rw c.in_err-share.ensures.only_memory (rw (c.as_slice-listed.ensures.is, c.as_slice-types.ensures.is) at (c.loop-i.invariant.rest _ _
    (all_next _ _ _ _ _ _ _ _ _ _ c.loop-i-test.true (grind arith) c.index-listed-i.is c.index-types-i.is _ (c.loop-i.before ++ (c.index-listed-i.result ∷ [])) _ _ _ _ c.in_ok-ty.ensures.parallel refl c.in_ok-check_at.ensures.follows (follows_memory _ _ (search leaving))))))

pub check_all-returns-in_err-push-clause-follows : goal.check_all-returns-in_err-push-clause-follows
check_all-returns-in_err-push-clause-follows g t c =
    passed_on c.from_residual-in_err-push.ensures.1 (rw c.in_err-push.ensures.only_memory.0 (rw (c.as_slice-listed.ensures.is, c.as_slice-types.ensures.is) at (c.loop-i.invariant.rest _ _
    (all_next _ _ _ _ _ _ _ _ _ _ c.loop-i-test.true (grind arith) c.index-listed-i.is c.index-types-i.is _ (c.loop-i.before ++ (c.index-listed-i.result ∷ [])) _ _ _ _ c.in_ok-ty.ensures.parallel refl c.in_ok-check_at.ensures.follows (follows_memory _ _ (search leaving))))))

pub check_all-returns : goal.check_all-returns
check_all-returns g t c =
    let all = c.loop-i.invariant.before ∙ take_all c.loop-i.i c.as_slice-listed.result.now c.loop-i-test.false ∙ c.as_slice-listed.ensures.is in
    record {
      follows = rw (c.as_slice-listed.ensures.is, c.as_slice-types.ensures.is) at (c.loop-i.invariant.rest _ _ (all_end _ _ _ _ c.as_slice-listed.result.now c.as_slice-types.result.now c.loop-i.before c.loop-i.i _ c.loop-i-test.false));
      counted = rw all at c.loop-i.invariant.counted;
    }

-- a match's predicate
pub predicate_rule-returns-in_err-entries : goal.predicate_rule-returns-in_err-entries
predicate_rule-returns-in_err-entries g t c = record { follows = passed_on c.from_residual.ensures.1 (pass_fault _ _ _ _ (λ e. c.in_err-entries.ensures.too_deep e c.args.block.now.params) (search leaving)) }

pub predicate_rule-returns-in_err-inner : goal.predicate_rule-returns-in_err-inner
predicate_rule-returns-in_err-inner g t c = record { follows = passed_on c.from_residual-in_err-inner.ensures.1 (pass_go _ _ _ _ _ (entered_err _ _ _ _ _ _ _ _ (rw (c.in_ok-entries.ensures.ok c.args.block.now.params) at c.in_err-inner.ensures.follows) (search leaving))) }

pub predicate_rule-returns-in_err-target : goal.predicate_rule-returns-in_err-target
predicate_rule-returns-in_err-target g t c =
    let es = c.in_ok-entries.ensures.ok c.args.block.now.params in
    record { follows = passed_on c.from_residual-in_err-target.ensures.1 (pass_go _ _ _ _ _ (entered_then _ _ _ _ _ _ _ _ _ _ (rw es at c.in_ok-inner.ensures.follows) (halts _ (rw (c.in_ok-inner.ensures.longer, es) at c.in_err-target.ensures.follows) (search leaving)))) }

pub predicate_rule-returns : goal.predicate_rule-returns
predicate_rule-returns g t c =
    let es = c.in_ok-entries.ensures.ok c.args.block.now.params in
    record { follows = pass_go _ _ _ _ _ (entered_then _ _ _ _ _ _ _ _ _ _ (rw es at c.in_ok-inner.ensures.follows) (and_then _ (rw (c.in_ok-inner.ensures.longer, es) at c.in_ok-target.ensures.follows) (still (c.eliminated.ensures.answers _) (search leaving)))) }

-- the found type of a scrutinee
pub scrutinee_fits-returns-then-same : goal.scrutinee_fits-returns-then-same
scrutinee_fits-returns-then-same g t c = record { follows = follows_then _ _ _ _ _ _ (same_yes _ _ c.same.result c.same.ensures.is c.if-same.true) (follows_done _ _) }

pub scrutinee_fits-returns-in_err-conv : goal.scrutinee_fits-returns-in_err-conv
scrutinee_fits-returns-in_err-conv g t c = record { follows = passed_on c.from_residual.ensures.1 (follows_else _ _ _ _ _ _ (same_no _ _ c.same.result c.same.ensures.is c.if-same.false) (halts _ c.in_err-conv.ensures.follows (search leaving))) }

pub scrutinee_fits-returns-in_err-sorted_at : goal.scrutinee_fits-returns-in_err-sorted_at
scrutinee_fits-returns-in_err-sorted_at g t c =
    record { follows = passed_on c.from_residual-in_err-sorted_at.ensures.1 (follows_else _ _ _ _ _ _ (same_no _ _ c.same.result c.same.ensures.is c.if-same.false) (and_then _ c.in_ok-conv.ensures.follows (halts _ c.in_err-sorted_at.ensures.follows.unread (search leaving)))) }

pub scrutinee_fits-returns : goal.scrutinee_fits-returns
scrutinee_fits-returns g t c =
    record { follows = follows_else _ _ _ _ _ _ (same_no _ _ c.same.result c.same.ensures.is c.if-same.false) (and_then _ c.in_ok-conv.ensures.follows (and_then _ c.in_ok-sorted_at.ensures.follows.unread.1 c.below.ensures.follows)) }

-- a scrutinee
pub scrutinee_rule-scrutinee_fits-requires : goal.scrutinee_rule-scrutinee_fits-requires
scrutinee_rule-scrutinee_fits-requires g t c =
    let w : IsCounted c.args.env.now c.in_ok-whnf.whnf = whnf_is_counted _ _ _ _ _ c.requires.ready c.in_ok-ty.ensures.inferred c.in_ok-whnf.ensures.reached in
    let a : IsCounted c.args.env.now c.in_ok-asked.asked = rw (c.in_ok-asked.ensures.ok, c.in_ok-indices.ensures.indices) (asked_counted c.args.env.now _ _ _ _ c.requires.params w) in
    search rules

pub scrutinee_rule-returns-in_err-ty : goal.scrutinee_rule-returns-in_err-ty
scrutinee_rule-returns-in_err-ty g t c =
    let o = type_over c.args.env.now _ _ c.args.ctx.now c.args.x.now.family (with_parameters c.args.block.now.params c.args.family.now) c.args.x.now.params
    (inferring_fair c.args.env.now (test_of c.args.env.now) c.args.room) (comparing_fair c.args.env.now (test_of c.args.env.now) c.args.room) in
    record { follows = passed_on c.from_residual.ensures.1 (halts _ c.in_err-ty.ensures.follows (search o)) }

pub scrutinee_rule-returns-in_err-whnf : goal.scrutinee_rule-returns-in_err-whnf
scrutinee_rule-returns-in_err-whnf g t c =
    let o = whnf_over c.args.env.now _ _ c.args.ctx.now c.args.x.now.family (with_parameters c.args.block.now.params c.args.family.now) c.args.x.now.params
    (inferring_fair c.args.env.now (test_of c.args.env.now) c.args.room) (comparing_fair c.args.env.now (test_of c.args.env.now) c.args.room) in
    record { follows = passed_on c.from_residual-in_err-whnf.ensures.1 (and_then _ c.in_ok-ty.ensures.follows (halts _ c.in_err-whnf.ensures.follows (search o))) }

pub scrutinee_rule-returns-in_err-indices : goal.scrutinee_rule-returns-in_err-indices
scrutinee_rule-returns-in_err-indices g t c =
    let o = found_over c.args.env.now _ _ c.args.ctx.now c.args.x.now.family (with_parameters c.args.block.now.params c.args.family.now) c.args.x.now.params
    (inferring_fair c.args.env.now (test_of c.args.env.now) c.args.room) (comparing_fair c.args.env.now (test_of c.args.env.now) c.args.room) in
    record { follows = passed_on c.from_residual-in_err-indices.ensures.1 (and_then _ c.in_ok-ty.ensures.follows (and_then _ c.in_ok-whnf.ensures.follows (halts _ (still (c.in_err-indices.ensures.halts _) (search leaving)) (search o)))) }

pub scrutinee_rule-returns-in_err-retype : goal.scrutinee_rule-returns-in_err-retype
scrutinee_rule-returns-in_err-retype g t c =
    let o = retype_over c.args.env.now _ _ c.args.ctx.now c.args.x.now.family (with_parameters c.args.block.now.params c.args.family.now) c.args.x.now.params
    (inferring_fair c.args.env.now (test_of c.args.env.now) c.args.room) (comparing_fair c.args.env.now (test_of c.args.env.now) c.args.room) in
    record { follows = passed_on c.from_residual-in_err-retype.ensures.1 (and_then _ c.in_ok-ty.ensures.follows (and_then _ c.in_ok-whnf.ensures.follows (and_then _ (still (c.in_ok-indices.ensures.found _) (search leaving)) (halts _ c.in_err-retype.ensures.follows (search o))))) }

pub scrutinee_rule-returns-in_err-asked : goal.scrutinee_rule-returns-in_err-asked
scrutinee_rule-returns-in_err-asked g t c =
    let o = asked_over c.args.env.now _ _ c.args.ctx.now c.args.x.now.family (with_parameters c.args.block.now.params c.args.family.now) c.args.x.now.params
    (inferring_fair c.args.env.now (test_of c.args.env.now) c.args.room) (comparing_fair c.args.env.now (test_of c.args.env.now) c.args.room) in
    let i = c.in_ok-indices.ensures in
    let d = rw i.indices at c.in_err-asked.ensures.too_deep in
    record { follows = passed_on c.from_residual-in_err-asked.ensures.1 (and_then _ c.in_ok-ty.ensures.follows (and_then _ c.in_ok-whnf.ensures.follows (and_then _ (still (i.found _) (search leaving)) (and_then _ c.in_ok-retype.ensures.follows (halts _ (follows_fault _ _ _ d) (search o)))))) }

pub scrutinee_rule-returns-in_err-scrutinee_fits : goal.scrutinee_rule-returns-in_err-scrutinee_fits
scrutinee_rule-returns-in_err-scrutinee_fits g t c =
    let i = c.in_ok-indices.ensures in
    record {
      follows = passed_on c.from_residual-in_err-scrutinee_fits.ensures.1 (and_then _ c.in_ok-ty.ensures.follows (and_then _ c.in_ok-whnf.ensures.follows (and_then _ (still (i.found _) (search leaving)) (and_then _ c.in_ok-retype.ensures.follows
          (and_then _ (follows_made _ _ _ (rw i.indices at c.in_ok-asked.ensures.ok)) (halts _ c.in_err-scrutinee_fits.ensures.follows (search leaving)))))));
    }

pub scrutinee_rule-returns : goal.scrutinee_rule-returns
scrutinee_rule-returns g t c =
    let i = c.in_ok-indices.ensures in
    record {
      follows = rw i.indices (and_then _ c.in_ok-ty.ensures.follows (and_then _ c.in_ok-whnf.ensures.follows (and_then _ (still (i.found _) (search leaving)) (and_then _ c.in_ok-retype.ensures.follows
          (and_then _ (follows_made _ _ _ (rw i.indices at c.in_ok-asked.ensures.ok)) (and_then _ c.in_ok-scrutinee_fits.ensures.follows (follows_done _ _)))))));
    }

-- a branch
pub branch_rule-returns-in_err-entries : goal.branch_rule-returns-in_err-entries
branch_rule-returns-in_err-entries g t c = record { follows = passed_on c.from_residual.ensures.1 (pass_fault _ _ _ _ c.in_err-entries.ensures.too_deep (search leaving)) }

pub branch_rule-returns-in_err-inner : goal.branch_rule-returns-in_err-inner
branch_rule-returns-in_err-inner g t c = record { follows = passed_on c.from_residual-in_err-inner.ensures.1 (pass_go _ _ _ _ _ (entered_err _ _ _ _ _ _ _ _ (rw c.in_ok-entries.ensures.ok at c.in_err-inner.ensures.follows) (search leaving))) }

pub branch_rule-returns-in_err-ty : goal.branch_rule-returns-in_err-ty
branch_rule-returns-in_err-ty g t c = record { follows = passed_on c.from_residual-in_err-ty.ensures.1 (pass_go _ _ _ _ _ (entered_then _ _ _ _ _ _ _ _ _ _ (rw c.in_ok-entries.ensures.ok at c.in_ok-inner.ensures.follows) (pass_fault _ _ _ _ c.in_err-ty.ensures.too_deep (search leaving)))) }

pub branch_rule-returns : goal.branch_rule-returns
branch_rule-returns g t c =
    record { follows = pass_go _ _ _ _ _ (entered_then _ _ _ _ _ _ _ _ _ _ (rw c.in_ok-entries.ensures.ok at c.in_ok-inner.ensures.follows) (pass_go _ _ _ _ _ (rw (c.in_ok-inner.ensures.longer, c.in_ok-entries.ensures.ok, c.in_ok-ty.ensures.ok) at c.check_at.ensures.follows))) }

-- branches
pub branches_rule-loop-i-init : goal.branches_rule-loop-i-init
branches_rule-loop-i-init g t c = record { rest = λ r n x. x; nest = refl }

pub branches_rule-returns-in_default : goal.branches_rule-returns-in_default
branches_rule-returns-in_default g t c = record { follows = follows_memory _ _ (search leaving) }

pub branches_rule-loop-i-preserved : goal.branches_rule-loop-i-preserved
branches_rule-loop-i-preserved g t c =
    record {
      rest = λ r n x. c.loop-i.invariant.rest r n (branches_next _ _ _ _ _ _ _ _ _ _ _ _ (grind arith) (grind arith) c.index-listed-i.is c.index-bodies-i.is r _ _ n c.in_ok-branch_rule.ensures.follows x);
      nest = c.in_ok-branch_rule.ensures.follows.after.nest ∙ c.loop-i.invariant.nest;
    }

pub branches_rule-returns-in_err-branch_rule : goal.branches_rule-returns-in_err-branch_rule
branches_rule-returns-in_err-branch_rule g t c =
    record {
      follows = passed_on c.from_residual.ensures.1 (rw (c.as_slice-listed.ensures.is, c.as_slice-bodies.ensures.is) at (c.loop-i.invariant.rest _ _
          (branches_stop _ _ _ _ _ _ _ _ _ _ _ _ (grind arith) (grind arith) c.index-listed-i.is c.index-bodies-i.is (inferring_fair _ _ _) (comparing_fair _ _ _) _ _ _ c.in_err-branch_rule.ensures.follows)));
    }

pub branches_rule-returns : goal.branches_rule-returns
branches_rule-returns g t c = record { follows = rw (c.as_slice-listed.ensures.is, c.as_slice-bodies.ensures.is) at (c.loop-i.invariant.rest _ _ (branches_end _ _ _ _ _ _ _ _ _ _ _ (grind arith))) }

-- a match
pub case_rule-returns-in_err-block : goal.case_rule-returns-in_err-block
case_rule-returns-in_err-block g t c = record { follows = passed_on c.from_residual.ensures.1 (case_unknown c.args.x.now _ _ _ _ (inferring_fair _ _ _) (comparing_fair _ _ _) (c.in_err-block.ensures.halts _)) }

pub case_rule-returns-in_err-match_counted : goal.case_rule-returns-in_err-match_counted
case_rule-returns-in_err-match_counted g t c =
    let b = c.in_ok-block.ensures in
    record {
      follows = passed_on c.from_residual-in_err-match_counted.ensures.1
          (case_counts c.args.x.now c.args.env.now _ _ c.args.ctx.now (inferring_fair c.args.env.now (test_of c.args.env.now) c.args.room) (comparing_fair c.args.env.now (test_of c.args.env.now) c.args.room) b.block (b.found _)
          (still (c.in_err-match_counted.ensures.answers _) (search leaving)));
    }

pub case_rule-returns-in_err-check_all : goal.case_rule-returns-in_err-check_all
case_rule-returns-in_err-check_all g t c =
    let b = c.in_ok-block.ensures in
    record {
      follows = passed_on c.from_residual-in_err-check_all.ensures.1
          (case_parameters c.args.x.now c.args.env.now _ _ c.args.ctx.now (inferring_fair c.args.env.now (test_of c.args.env.now) c.args.room) (comparing_fair c.args.env.now (test_of c.args.env.now) c.args.room) b.block (b.found _)
          (still (c.in_ok-match_counted.ensures.answers _) (search leaving)) c.in_err-check_all.ensures.follows);
    }

pub case_rule-returns-in_err-predicate_rule : goal.case_rule-returns-in_err-predicate_rule
case_rule-returns-in_err-predicate_rule g t c =
    let b = c.in_ok-block.ensures in
    record {
      follows = passed_on c.from_residual-in_err-predicate_rule.ensures.1
          (case_predicate c.args.x.now c.args.env.now _ _ c.args.ctx.now (inferring_fair c.args.env.now (test_of c.args.env.now) c.args.room) (comparing_fair c.args.env.now (test_of c.args.env.now) c.args.room) b.block (b.found _)
          (still (c.in_ok-match_counted.ensures.answers _) (search leaving)) c.in_ok-check_all.ensures.follows c.in_err-predicate_rule.ensures.follows);
    }

pub case_rule-returns-in_err-indices : goal.case_rule-returns-in_err-indices
case_rule-returns-in_err-indices g t c =
    let b = c.in_ok-block.ensures in
    record {
      follows = passed_on c.from_residual-in_err-indices.ensures.1
          (case_indices c.args.x.now c.args.env.now _ _ c.args.ctx.now (inferring_fair c.args.env.now (test_of c.args.env.now) c.args.room) (comparing_fair c.args.env.now (test_of c.args.env.now) c.args.room) b.block (b.found _)
          (still (c.in_ok-match_counted.ensures.answers _) (search leaving)) c.in_ok-check_all.ensures.follows c.in_ok-predicate_rule.ensures.follows c.in_err-indices.ensures.follows);
    }

pub case_rule-returns-in_err-branches_rule : goal.case_rule-returns-in_err-branches_rule
case_rule-returns-in_err-branches_rule g t c =
    let b = c.in_ok-block.ensures in
    record {
      follows = passed_on c.from_residual-in_err-branches_rule.ensures.1 (case_goes c.args.x.now _ _ _ _ b.block (b.found _) (and_then _ (still (c.in_ok-match_counted.ensures.answers _) (search leaving)) (and_then _ c.in_ok-check_all.ensures.follows
          (and_then _ c.in_ok-predicate_rule.ensures.follows (and_then _ c.in_ok-indices.ensures.follows (halts _ c.in_err-branches_rule.ensures.follows (search leaving)))))));
    }

pub case_rule-returns-in_err-pred_at : goal.case_rule-returns-in_err-pred_at
case_rule-returns-in_err-pred_at g t c =
    let b = c.in_ok-block.ensures in
    record {
      follows = passed_on c.from_residual-in_err-pred_at.ensures.1 (case_goes c.args.x.now _ _ _ _ b.block (b.found _) (and_then _ (still (c.in_ok-match_counted.ensures.answers _) (search leaving)) (and_then _ c.in_ok-check_all.ensures.follows
          (and_then _ c.in_ok-predicate_rule.ensures.follows (and_then _ c.in_ok-indices.ensures.follows (and_then _ c.in_ok-branches_rule.ensures.follows (pred_fault c.args.x.now.ret c.in_ok-indices.indices c.args.x.now.scrut _ _ c.in_err-pred_at.ensures.too_deep)))))));
    }

pub case_rule-returns : goal.case_rule-returns
case_rule-returns g t c =
    let b = c.in_ok-block.ensures in
    record {
      follows = case_goes c.args.x.now _ _ _ _ b.block (b.found _) (and_then _ (still (c.in_ok-match_counted.ensures.answers _) (search leaving)) (and_then _ c.in_ok-check_all.ensures.follows
          (and_then _ c.in_ok-predicate_rule.ensures.follows (and_then _ c.in_ok-indices.ensures.follows (and_then _ c.in_ok-branches_rule.ensures.follows (follows_made _ _ _ c.in_ok-pred_at.ensures.ok))))));
    }

-- sites of longer contexts
pub prod_rule-deeper-within-requires-clause-longer : goal.prod_rule-deeper-within-requires-clause-longer
prod_rule-deeper-within-requires-clause-longer g t c = one_longer _ _ _ c.in_ok-under.ensures.longer

pub lambda_rule-deeper-within-requires-clause-longer : goal.lambda_rule-deeper-within-requires-clause-longer
lambda_rule-deeper-within-requires-clause-longer g t c = one_longer _ _ _ c.in_ok-under.ensures.longer

pub let_rule-deeper-within-requires-clause-longer : goal.let_rule-deeper-within-requires-clause-longer
let_rule-deeper-within-requires-clause-longer g t c = one_longer _ _ _ c.in_ok-under.ensures.longer

pub predicate_rule-deeper-within-requires-clause-longer : goal.predicate_rule-deeper-within-requires-clause-longer
predicate_rule-deeper-within-requires-clause-longer g t c = extends_longer _ _ c.in_ok-entries.entries c.in_ok-inner.ensures.longer

pub branch_rule-deeper-within-requires-clause-longer : goal.branch_rule-deeper-within-requires-clause-longer
branch_rule-deeper-within-requires-clause-longer g t c = extends_longer _ _ c.in_ok-entries.entries c.in_ok-inner.ensures.longer

pub entered-deeper-within-requires-clause-longer : goal.entered-deeper-within-requires-clause-longer
entered-deeper-within-requires-clause-longer g t c = c.loop-i.invariant.deeper

pub types_rule-deeper-within-requires-clause-longer : goal.types_rule-deeper-within-requires-clause-longer
types_rule-deeper-within-requires-clause-longer g t c = c.loop-i.invariant.deeper

pub fix_rule-deeper-within-requires-clause-longer : goal.fix_rule-deeper-within-requires-clause-longer
fix_rule-deeper-within-requires-clause-longer g t c = defines_longer _ _ 0 (types_of c.args.defs.now) c.in_ok-under.ensures.under
