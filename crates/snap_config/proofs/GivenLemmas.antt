-- What the getters of the matches read, by the rows of the matches.
use Rattle.std.proofs.Common.{◌≡◌, ◌∙◌, false, Option, Some, None, ap, sym, refl, option_map}
use Rattle.std.specs.Prelude.{bytes_eq, find, option_and_then}
use Rattle.std.specs.Option.{option_map_or}
use Rattle.clap.proofs.WalkLemmas.{find_row}
use Rattle.clap.specs.Facts.{Entry}
use Rattle.clap.specs.Matches.{matched_of}
use Rattle.clap.specs.Walk.{Row, Text, row_of, rows_of}
use Rattle.clap.specs.declared.parser.matches.Found.{Found}
use Rattle.clap.specs.declared.parser.matches.MatchedArg.{MatchedArg}
use Rattle.snap_config.specs.Given.{is_from_words}

-- the source of the entry of an id, by its row
pub source-rows : (f : Found) (id : Text)
    → is_from_words (option_and_then (λ (a : MatchedArg). a.source) (matched_of f id))
    ≡ option_map_or (λ (row : Row). is_from_words row.source) (find (λ row. bytes_eq row.id id) (rows_of f)) false
source-rows f id =
    here (find (λ (e : Entry). bytes_eq e.0.now id) f.entries.items)
    ∙ ap (λ o. option_map_or (λ (row : Row). is_from_words row.source) o false) (sym (find_row f.entries.items id))
  where
    here : (o : Option Entry)
        → is_from_words (option_and_then (λ (a : MatchedArg). a.source) (option_map (λ e. e.1) o))
        ≡ option_map_or (λ (row : Row). is_from_words row.source) (option_map row_of o) false
    here None = refl
    here (Some e) = refl
