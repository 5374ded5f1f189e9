use Rattle.std.proofs.Common.{refl, ◌∙◌}
use Rattle.snap_top.proofs.OpeningLemmas.{config_asked}
use Rattle.snap_top.proofs.opening.configure.Goals as goal

pub returns-in-Ok-to_vec-clause-says : goal.returns-in-Ok-to_vec-clause-says
returns-in-Ok-to_vec-clause-says g c = record {
  bytes = c.as_slice.result.now;
  held = λ told. c.as_slice.ensures.value ∙ c.in-Ok.ensures.found told;
  says = c.in-Ok-read_config.ensures.ok;
}

pub returns-in-Err-read_config-clause-refused : goal.returns-in-Err-read_config-clause-refused
returns-in-Err-read_config-clause-refused g c = (
  refl,
  record { bytes = c.as_slice.result.now; held = λ told. c.as_slice.ensures.value ∙ c.in-Ok.ensures.found told; refused = c.in-Err-read_config.ensures.refused },
  config_asked _ _ _ _ _ c.as_str.ensures.value c.in-Ok.ensures.call,
)

pub returns-in-Err-to_vec-clause-refused : goal.returns-in-Err-to_vec-clause-refused
returns-in-Err-to_vec-clause-refused g c = (
  refl,
  record { bytes = c.as_slice.result.now; held = λ told. c.as_slice.ensures.value ∙ c.in-Ok.ensures.found told; refused = tt },
  config_asked _ _ _ _ _ c.as_str.ensures.value c.in-Ok.ensures.call,
)
