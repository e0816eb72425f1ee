use Rattle.std.proofs.Common.{rules, ◌≡◌, ◌∙◌, ◌∷◌, [], Err, length}
use Rattle.first_order.specs.declared.given.Turn.TheVariants.{First}
use Rattle.first_order.specs.Awaited.{AwaitsWord, arguments_in, argument_sets, call_arguments, joined}
use Rattle.first_order.proofs.ArgumentNodes.{with_nothing, at_start, answers_refusal, answers_all}
use Rattle.first_order.proofs.given.call_arguments.Goals as goal

pub returns-in_err-open : goal.returns-in_err-open
returns-in_err-open c =
    let names = c.args.names.now in
    let Ss = argument_sets c.args.sets.now in
    let q : c.from_residual.result ≡ Err c.in_err-open.field-0.0 = search rules in
    let start = at_start names c.args.bytes.now c.new-tokens.result Ss c.new-tokens.ensures.tokens c.new-tokens.ensures.outside c.new-tokens.ensures.text in
    record { exact = answers_refusal c.from_residual.result c.in_err-open.field-0.0 (length c.args.sets.now) q _ _ [] _ (start ∙ with_nothing _) ((c.in_err-open.ensures.passes names).goes (AwaitsWord ∷ arguments_in First Ss)) }

pub returns-in_err-word : goal.returns-in_err-word
returns-in_err-word c =
    let names = c.args.names.now in
    let Ss = argument_sets c.args.sets.now in
    let q : c.from_residual-in_err-word.result ≡ Err c.in_err-word.field-0.0 = search rules in
    let start = at_start names c.args.bytes.now c.new-tokens.result Ss c.new-tokens.ensures.tokens c.new-tokens.ensures.outside c.new-tokens.ensures.text in
    let opened = start ∙ (c.in_ok-open.ensures.passes names).goes (AwaitsWord ∷ arguments_in First Ss) in
    record { exact = answers_refusal c.from_residual-in_err-word.result c.in_err-word.field-0.0 (length c.args.sets.now) q _ _ [] _ (opened ∙ with_nothing _) ((c.in_err-word.ensures.passes names).goes (arguments_in First Ss)) }

pub returns-in_err-read : goal.returns-in_err-read
returns-in_err-read c =
    let names = c.args.names.now in
    let Ss = argument_sets c.args.sets.now in
    let q : c.from_residual-in_err-read.result ≡ Err c.in_err-read.field-0.0 = search rules in
    let start = at_start names c.args.bytes.now c.new-tokens.result Ss c.new-tokens.ensures.tokens c.new-tokens.ensures.outside c.new-tokens.ensures.text in
    let worded = start ∙ (c.in_ok-open.ensures.passes names).goes (AwaitsWord ∷ arguments_in First Ss) ∙ (c.in_ok-word.ensures.passes names).goes (arguments_in First Ss) in
    record { exact = answers_refusal c.from_residual-in_err-read.result c.in_err-read.field-0.0 (length c.args.sets.now) q _ _ [] _ (worded ∙ with_nothing _) c.in_err-read.ensures.gives }

pub returns-in_err-end : goal.returns-in_err-end
returns-in_err-end c =
    let names = c.args.names.now in
    let Ss = argument_sets c.args.sets.now in
    let q : c.from_residual-in_err-end.result ≡ Err c.in_err-end.field-0.0 = search rules in
    let start = at_start names c.args.bytes.now c.new-tokens.result Ss c.new-tokens.ensures.tokens c.new-tokens.ensures.outside c.new-tokens.ensures.text in
    let worded = start ∙ (c.in_ok-open.ensures.passes names).goes (AwaitsWord ∷ arguments_in First Ss) ∙ (c.in_ok-word.ensures.passes names).goes (arguments_in First Ss) in
    record { exact = answers_refusal c.from_residual-in_err-end.result c.in_err-end.field-0.0 (length c.args.sets.now) q _ _ (joined c.in_ok-read.read.items) _ (worded ∙ c.in_ok-read.ensures.gives) (c.in_err-end.ensures.ends names) }

pub returns : goal.returns
returns c =
    let names = c.args.names.now in
    let Ss = argument_sets c.args.sets.now in
    let start = at_start names c.args.bytes.now c.new-tokens.result Ss c.new-tokens.ensures.tokens c.new-tokens.ensures.outside c.new-tokens.ensures.text in
    let worded = start ∙ (c.in_ok-open.ensures.passes names).goes (AwaitsWord ∷ arguments_in First Ss) ∙ (c.in_ok-word.ensures.passes names).goes (arguments_in First Ss) in
    record { exact = (answers_all (call_arguments names Ss c.args.bytes.now) _ (joined c.in_ok-read.read.items) (worded ∙ c.in_ok-read.ensures.gives) (c.in_ok-end.ensures.ends names), c.in_ok-read.ensures.counted, c.in_ok-read.ensures.trees) }
