use Rattle.std.proofs.Common.{rules, ◌≡◌, ◌∙◌, true, false, Err, sym, subst as along}
use Rattle.trees.specs.Measures.{IsWithin}
use Rattle.pc_terms.specs.Syntax.{Rel, put_all, substitute}
use Rattle.first_order.proofs.Lowered.{lowered_within, memory_alone}
use Rattle.first_order.proofs.Working.{without_it, mentions_it, beyond_mentions}
use Rattle.first_order.proofs.arguments.without.Goals as goal

pub returns-in_err-lowered-clause-only_memory : goal.returns-in_err-lowered-clause-only_memory
returns-in_err-lowered-clause-only_memory c =
    let q : c.from_residual-in_err-lowered.result ≡ Err c.in_err-lowered.field-0.0 = search rules in
    memory_alone c.from_residual-in_err-lowered.result c.in_err-lowered.field-0.0 q
    (λ e. lowered_within c.args.count c.in_ok-before.before c.args.ty.now c.in_ok-whole.whole c.in_ok-before.ensures.ok c.in_ok-whole.ensures.ok c.in_ok-whole.ensures.within (c.in_err-lowered.ensures.too_deep e))

pub returns-in-Err-TooDeep-clause-ok : goal.returns-in-Err-TooDeep-clause-ok
returns-in-Err-TooDeep-clause-ok c =
    let l = c.in_ok-lowered.ensures.parallel ∙ (λ i. substitute (put_all (c.in_ok-before.ensures.ok i) Rel) (c.in_ok-whole.ensures.ok i)) in
    beyond_mentions c.args.count c.args.ty.now c.in_ok-lowered.lowered l (along IsWithin c.in_ok-whole.ensures.ok c.in_ok-whole.ensures.within) (c.in-Err-TooDeep.ensures.too_deep c.in-Err-TooDeep.field-0-is)

pub returns-then-same-clause-ok : goal.returns-then-same-clause-ok
returns-then-same-clause-ok c =
    let l = c.in_ok-lowered.ensures.parallel ∙ (λ i. substitute (put_all (c.in_ok-before.ensures.ok i) Rel) (c.in_ok-whole.ensures.ok i)) in
    without_it c.args.count c.args.ty.now c.in_ok-lowered.lowered c.in-Ok.lifted l c.in-Ok.ensures.parallel (c.same.ensures.is.0 c.if-same.true)

pub returns-clause-ok : goal.returns-clause-ok
returns-clause-ok c =
    let l = c.in_ok-lowered.ensures.parallel ∙ (λ i. substitute (put_all (c.in_ok-before.ensures.ok i) Rel) (c.in_ok-whole.ensures.ok i)) in
    mentions_it c.args.count c.args.ty.now c.in_ok-lowered.lowered c.in-Ok.lifted l c.in-Ok.ensures.parallel
    (λ e. let t : false ≡ true = sym c.if-same.false ∙ c.same.ensures.is.1 e in absurd cc)
