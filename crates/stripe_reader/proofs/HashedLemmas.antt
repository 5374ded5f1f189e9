-- A window that is hashed has as many lanes, fits and holds the same stripes.
use Rattle.std.proofs.Common.{◌≡◌, ℕ, List, length, sym, ◌∙◌, subst}
use Rattle.std.proofs.lemmas.List.{length-map}
use Rattle.file_table.specs.Table.{TableValue}
use Rattle.file_table.specs.declared.shape.Shape.{Shape}
use Rattle.stripe_reader.specs.Fetched.{hashed_front, hashed_window}
use Rattle.stripe_reader.specs.Held.{HoldsStripes}
use Rattle.stripe_reader.specs.WindowValue.{WindowValue, Fits}

pub lanes_hashed : (shape : Shape) (window : WindowValue) → length (hashed_window shape window).lanes ≡ length window.lanes
lanes_hashed shape window = length-map window.lanes (hashed_front shape window.count)

pub fits_hashed : (table : TableValue) (shape : Shape) (window : WindowValue) → Fits table window → Fits table (hashed_window shape window)
fits_hashed table shape window fits = record { lanes = lanes_hashed shape window ∙ fits.lanes; block_size = fits.block_size }

pub holds_hashed : (table : TableValue) (stripes : List ℕ) (window after : WindowValue) → after ≡ hashed_window table.shape window → HoldsStripes table stripes window → HoldsStripes table stripes after
holds_hashed table stripes window after is holds = subst (HoldsStripes table stripes) (sym is) (record { fits = fits_hashed table table.shape window holds.fits; count = holds.count; cells = holds.cells; within = holds.within })
