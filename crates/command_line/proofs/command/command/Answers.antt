use Rattle.std.proofs.Common.{ap, ap₂, codes, true, ◌≡◌, ◌∙◌}
use Rattle.std.proofs.lemmas.Result.{IfOk-weaker}
use Rattle.clap.specs.Words.{app_of, new_app, with_rule}
use Rattle.clap.specs.Simple.{app_of_fields, on_top}
use Rattle.command_line.specs.Line.{command}
use Rattle.command_line.proofs.command.command.Goals as goal

pub returns : goal.returns
unfolding command
returns c =
    let bare : app_of c.no_binary_name.result ≡ on_top (λ s. record s { no_binary_name = true }) (new_app (codes "erasec")) =
    ap app_of_fields c.no_binary_name.ensures ∙ ap (on_top (λ s. record s { no_binary_name = true })) c.new.ensures.app in
    let job = c.in_ok-arg.ensures.shape c.job_argument.ensures.local ∙ ap₂ with_rule bare c.job_argument.ensures.rule in
    let turns = c.in_ok-arg-2.ensures.shape c.number_option-turns.ensures.local ∙ ap₂ with_rule job c.number_option-turns.ensures.rule in
    let pages = c.in_ok-arg-3.ensures.shape c.number_option-pages.ensures.local ∙ ap₂ with_rule turns c.number_option-pages.ensures.rule in
    let steps = c.in_ok-arg-4.ensures.shape c.number_option-steps.ensures.local ∙ ap₂ with_rule pages c.number_option-steps.ensures.rule in record {
      is = IfOk-weaker c.arg-5.result _ _ (λ r h. h.shape c.number_option-size.ensures.local ∙ ap₂ with_rule steps c.number_option-size.ensures.rule) c.arg-5.ensures;
    }
