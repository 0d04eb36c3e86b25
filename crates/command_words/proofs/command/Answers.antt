use Rattle.std.proofs.Common.{◌≡◌, ◌∙◌, ap, ap₂, codes, true}
use Rattle.std.proofs.lemmas.Result.{IfOk-weaker}
use Rattle.clap.specs.Simple.{app_of_fields, on_top}
use Rattle.clap.specs.Words.{app_of, new_app, with_rule}
use Rattle.command_words.specs.Words.{bare_app, option_rule}
use Rattle.command_words.proofs.command.Goals as goal

pub returns : goal.returns
returns c =
    let unnamed : app_of c.no_binary_name.result ≡ on_top (λ s. record s { no_binary_name = true }) (new_app (codes "clpfd")) =
    ap app_of_fields c.no_binary_name.ensures ∙ ap (on_top (λ s. record s { no_binary_name = true })) c.new.ensures.app in
    let unhelped : app_of c.disable_help_flag.result ≡ on_top (λ s. record s { no_binary_name = true; disable_help_flag = true }) (new_app (codes "clpfd")) =
    ap app_of_fields c.disable_help_flag.ensures ∙ ap (on_top (λ s. record s { disable_help_flag = true })) unnamed in
    let bare : app_of c.disable_version_flag.result ≡ bare_app =
    ap app_of_fields c.disable_version_flag.ensures ∙ ap (on_top (λ s. record s { disable_version_flag = true })) unhelped in
    let one : app_of c.in_ok-arg.field-0 ≡ with_rule bare_app (option_rule (codes "steps")) =
    c.in_ok-arg.ensures.shape c.option.ensures.local ∙ ap₂ with_rule bare c.option.ensures.rule in
    let two : app_of c.in_ok-arg-2.field-0 ≡ with_rule (with_rule bare_app (option_rule (codes "steps"))) (option_rule (codes "answers")) =
    c.in_ok-arg-2.ensures.shape c.option-2.ensures.local ∙ ap₂ with_rule one c.option-2.ensures.rule in
    let three : app_of c.in_ok-arg-3.field-0 ≡ with_rule (with_rule (with_rule bare_app (option_rule (codes "steps"))) (option_rule (codes "answers"))) (option_rule (codes "agenda")) =
    c.in_ok-arg-3.ensures.shape c.option-3.ensures.local ∙ ap₂ with_rule two c.option-3.ensures.rule in
    let four : app_of c.in_ok-arg-4.field-0 ≡ with_rule
    (with_rule (with_rule (with_rule bare_app (option_rule (codes "steps"))) (option_rule (codes "answers"))) (option_rule (codes "agenda")))
    (option_rule (codes "infinity")) =
    c.in_ok-arg-4.ensures.shape c.option-4.ensures.local ∙ ap₂ with_rule three c.option-4.ensures.rule in
    IfOk-weaker c.arg-5.result _ _ (λ r h. h.shape c.option-5.ensures.local ∙ ap₂ with_rule four c.option-5.ensures.rule) c.arg-5.ensures
