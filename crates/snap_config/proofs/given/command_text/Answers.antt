use Rattle.std.proofs.Common.{◌≡◌, ◌∙◌, List, ℕ, [], Option, Some, None, ap, option_map, refl, Bor}
use Rattle.std.specs.Prelude.{unwrap_or}
use Rattle.clap.proofs.WalkLemmas.{first_value-rows}
use Rattle.clap.specs.Matches.{found_of}
use Rattle.snap_config.specs.FlatCommand.{command_id}
use Rattle.snap_config.proofs.given.command_text.Goals as goal

-- what stands behind a reference, or behind that to the default
behind : (o : Option (Bor (List ℕ))) (d : Bor (List ℕ)) → (unwrap_or o d).now ≡ unwrap_or (option_map (λ s. s.now) o) d.now
behind None d = refl
behind (Some s) d = refl

pub returns : goal.returns
returns c =
    let first = c.get_str.ensures ∙ first_value-rows (found_of c.args.matches.now) command_id in
    ap (λ s. s.now) c.unwrap_or.ensures ∙ behind c.get_str.result _ ∙ ap (λ o. unwrap_or o []) first
