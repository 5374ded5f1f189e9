use Rattle.std.proofs.Common.{rules, ◌≡◌, ◌≤◌, ap, ap₂, sym, take_all, take, fold, ◌∙◌, true}
use Rattle.std.proofs.lemmas.List.Sums.{fold_more}
use Rattle.clap.specs.Simple.{app_of_fields, on_top}
use Rattle.clap.specs.Words.{App, app_of, rule_of, with_rule}
use Rattle.snap_config.specs.FlatCommand.{bare_app, command_rule, with_option}
use Rattle.snap_config.specs.OptionTable.{all_options}
use Rattle.snap_config.proofs.flat_command.flat_command.Goals as goal

-- the settings of the command that leave clap's help and version out
abbrev without_help : App → App
without_help = on_top (λ shape. record shape { disable_help_flag = true })

abbrev without_version : App → App
without_version = on_top (λ shape. record shape { disable_version_flag = true })

-- the command before the options: bare, with the positional for its word
abbrev begun : App
begun = with_rule bare_app command_rule

pub loop-option-init : goal.loop-option-init
loop-option-init c =
    let positional : rule_of c.required.result ≡ command_rule = search rules in
    let bare : app_of c.disable_version_flag.result ≡ bare_app =
    ap app_of_fields c.disable_version_flag.ensures
    ∙ ap (λ fields. without_version (app_of_fields fields)) c.disable_help_flag.ensures
    ∙ ap (λ app. without_version (without_help app)) c.new.ensures.app in
    c.in_ok-command.ensures.shape (search rules) ∙ ap₂ with_rule bare positional

pub loop-option-preserved : goal.loop-option-preserved
loop-option-preserved c =
    c.in_ok-command-2.ensures.shape c.argument_of.ensures.local
    ∙ ap₂ with_rule c.loop-option.invariant c.argument_of.ensures.rule
    ∙ sym (fold_more with_option begun all_options c.loop-option.option-index _ c.loop-option-test.true)

pub returns : goal.returns
returns c =
    let past : 14 ≤ c.loop-option.option-index = c.loop-option-test.false in
    let whole : take c.loop-option.option-index all_options ≡ all_options = take_all c.loop-option.option-index all_options past in
    c.loop-option.invariant ∙ ap (fold with_option begun) whole
