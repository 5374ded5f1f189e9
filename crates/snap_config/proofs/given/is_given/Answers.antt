use Rattle.std.proofs.Common.{◌∙◌, ap}
use Rattle.std.specs.Prelude.{option_and_then}
use Rattle.clap.specs.Matches.{found_of, matched_of}
use Rattle.clap.specs.declared.parser.matches.MatchedArg.{MatchedArg}
use Rattle.snap_config.proofs.GivenLemmas.{source-rows}
use Rattle.snap_config.specs.Given.{is_from_words}
use Rattle.snap_config.specs.OptionTable.{name_of}
use Rattle.snap_config.proofs.given.is_given.Goals as goal

pub returns : goal.returns
returns c =
    c.is_from_words.ensures
    ∙ ap is_from_words c.value_source.ensures
    ∙ ap (λ id. is_from_words (option_and_then (λ (a : MatchedArg). a.source) (matched_of (found_of c.args.matches.now) id))) c.as_str.ensures
    ∙ source-rows (found_of c.args.matches.now) (name_of c.args.option)
