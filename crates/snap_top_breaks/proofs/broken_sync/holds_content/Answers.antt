use Rattle.std.proofs.Common.{◌≡◌, length, true, false, is_some, refl, sym, ap, ◌∙◌}
use Rattle.std.specs.Option.{option_map}
use Rattle.snap_top_breaks.proofs.broken_sync.holds_content.Goals as goal

pub returns-in-Ok : goal.returns-in-Ok
returns-in-Ok c there none =
    let clash : true ≡ false = sym there ∙ c.is_some.ensures ∙ ap is_some (c.in-Ok.ensures.found refl ∙ ap (option_map length) none) in
    cc
