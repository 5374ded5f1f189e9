-- Which damaged cells a check or a fix tells to be lost, and which stripes and records it names, by the events that it told.
use Rattle.std.specs.Prelude.{◌≡◌, ◌↔◌, ℕ, ◌<◌, List, length, Bool, true, false, Contains}
use Rattle.cauchy.specs.Recovery.{AreBytes}
use Rattle.file_table.specs.Table.{records_in}
use Rattle.file_table.specs.declared.block.Cell.{Cell}
use Rattle.stripe_examiner.specs.Facts.{StripeFacts}
use Rattle.snap_fix.specs.Genuine.{TellsIntactLevels, held_row}
use Rattle.repair_scope.specs.Plan.{FixPlan, entry_at, has_selected_cell, is_searched, is_synced}
use Rattle.snap_fix.specs.Restored.{CanBeHad, IsDamagedCell}
use Rattle.snap_report.specs.declared.events.Event.{Event}
use Rattle.parity_writer.specs.Sound.{Closed}
use Rattle.snap_report.specs.declared.events.Event.TheVariants as events

-- A selected damaged cell of a stripe that was synced, and which of its levels that were read whole hold the sums of
-- the snapshot's row, a row of bytes.
pub record IsDamagedOfSynced (plan : FixPlan) (stripes : List StripeFacts) (snapshot : Closed) (facts : StripeFacts)
    (d : ℕ) (cell : Cell) (is_intact : ℕ → Bool) : Type 0 where
  pub is : IsDamagedCell plan stripes facts d cell
  pub synced : is_searched plan facts.stripe ≡ true
  pub bytes : AreBytes (held_row plan.table snapshot facts.stripe)
  pub tells : TellsIntactLevels plan facts (held_row plan.table snapshot facts.stripe) is_intact

-- it is told to be lost
abbrev pub IsToldLost : List Event → StripeFacts → ℕ → Cell → Type 0
IsToldLost told facts d cell = Contains told (events.Lost facts.stripe d cell.rec cell.index)

-- Where no hash is met by chance: such a cell is told to be lost exactly where its block can't be had. Where nothing was given, that
-- is where more cells of its stripe are missing than levels are intact.
abbrev pub NamesLost : FixPlan → List StripeFacts → Closed → List Event → Type 0
NamesLost plan stripes snapshot told = (facts : StripeFacts) (d : ℕ) (cell : Cell) (is_intact : ℕ → Bool)
    → IsDamagedOfSynced plan stripes snapshot facts d cell is_intact
    → IsToldLost told facts d cell ↔ ¬ (CanBeHad plan facts is_intact d)

-- each selected damaged cell of a pending stripe is told to be lost, whatever hashes are met
abbrev pub NamesPending : FixPlan → List StripeFacts → List Event → Type 0
NamesPending plan stripes told = (facts : StripeFacts) (d : ℕ) (cell : Cell)
    → IsDamagedCell plan stripes facts d cell → is_synced plan facts.stripe ≡ false → IsToldLost told facts d cell

-- a pending stripe that has a selected cell
pub record IsPendingSelected (plan : FixPlan) (stripe : ℕ) : Type 0 where
  pub within : stripe < length plan.table.infos
  pub pending : is_synced plan stripe ≡ false
  pub selected : has_selected_cell plan stripe ≡ true

-- just such stripes are told to be unsynced
abbrev pub NamesUnsynced : FixPlan → List Event → Type 0
NamesUnsynced plan told = (stripe : ℕ) → Contains told (events.Unsynced stripe) ↔ IsPendingSelected plan stripe

-- a record that is selected and blocked
pub record IsSelectedBlocked (plan : FixPlan) (d i : ℕ) : Type 0 where
  pub column : d < length plan.table.columns
  pub within : i < length (records_in plan.table d)
  pub selected : (entry_at plan d i).selected ≡ true
  pub blocked : (entry_at plan d i).blocked ≡ true

-- just such records are told to be blocked
abbrev pub NamesBlocked : FixPlan → List Event → Type 0
NamesBlocked plan told = (d i : ℕ) → Contains told (events.Blocked d i) ↔ IsSelectedBlocked plan d i
