use Rattle.std.proofs.Common.{◌∙◌, ap, option_map}
use Rattle.clap.proofs.WalkLemmas.{raw_values-rows}
use Rattle.clap.specs.Matches.{found_of, matched_of, raw_values}
use Rattle.snap_config.specs.OptionTable.{name_of}
use Rattle.snap_config.proofs.given.values_of.Goals as goal

pub returns : goal.returns
returns c =
    c.get_strs.ensures
    ∙ ap (λ id. option_map raw_values (matched_of (found_of c.args.matches.now) id)) c.as_str.ensures
    ∙ raw_values-rows (found_of c.args.matches.now) (name_of c.args.option)
