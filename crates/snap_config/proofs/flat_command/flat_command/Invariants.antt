use Rattle.std.proofs.Common.{◌≡◌, take, fold}
use Rattle.clap.specs.Words.{app_of, with_rule}
use Rattle.snap_config.specs.FlatCommand.{bare_app, command_rule, with_option}
use Rattle.snap_config.specs.OptionTable.{all_options}
use Rattle.snap_config.proofs.flat_command.flat_command.Given as goal

-- the options so far
abbrev pub invariant-loop-option : goal.invariant-loop-option
invariant-loop-option l = app_of l.command ≡ fold with_option (with_rule bare_app command_rule) (take l.option-index all_options)
