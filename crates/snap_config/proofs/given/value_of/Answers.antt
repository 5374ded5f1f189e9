use Rattle.std.proofs.Common.{◌∙◌, ap}
use Rattle.clap.proofs.WalkLemmas.{first_value-rows}
use Rattle.clap.specs.Matches.{first_value, found_of}
use Rattle.snap_config.specs.OptionTable.{name_of}
use Rattle.snap_config.proofs.given.value_of.Goals as goal

pub returns : goal.returns
returns c =
    c.get_str.ensures
    ∙ ap (first_value (found_of c.args.matches.now)) c.as_str.ensures
    ∙ first_value-rows (found_of c.args.matches.now) (name_of c.args.option)
