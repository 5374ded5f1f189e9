-- What the room of a stripe of a window shows once the window was examined: what is found in its cells and its levels, and its row,
-- where it is known.
use Rattle.std.specs.Prelude.{◌≡◌, ℕ, ◌<◌, List, [], ◌++◌, length, take, slice_index_or, true, if◌then◌else◌, Option, None, IfSome}
use Rattle.std.specs.List.{range_with_len, flat_map}
use Rattle.std.specs.Option.{option_to_list}
use Rattle.snap_report.specs.EventFits.{Fits as EventFits}
use Rattle.snap_report.specs.declared.events.Event.{Event}
use Rattle.stripe_reader.specs.SlotValue.{SlotValue}
use Rattle.stripe_reader.specs.WindowValue.{WindowValue}
use Rattle.stripe_examiner.specs.declared.room.StripeRoom.{StripeRoom}
use Rattle.stripe_examiner.specs.Facts.{StripeFacts, slot_of}
use Rattle.stripe_examiner.specs.Findings.{all_level_io_events, cell_events}
use Rattle.stripe_examiner.specs.Judging.{TellsWrong, flagged_events}
use Rattle.stripe_examiner.specs.Known.{AreFacts}
use Rattle.stripe_examiner.specs.Marks.{levels_read}
use Rattle.repair_scope.specs.Plan.{FixPlan, EntriesFit, is_searched}
use Rattle.stripe_examiner.specs.Room.{IsStripeRoomFor}
use Rattle.stripe_examiner.specs.Showing.{ShowsFacts}

-- what is found in the reading of the cell of a column
abbrev pub found_at : List (Option Event) → ℕ → Option Event
found_at found d = slice_index_or found d None

-- this is what is found, by what was read of the cell
pub record IsFound (plan : FixPlan) (stripe : ℕ) (slot : SlotValue) (d : ℕ) (found : Option Event) : Type 0 where
  pub event : option_to_list found ≡ cell_events plan stripe slot d
  pub fits : IfSome found (EventFits plan.table.columns)

-- what is found can be told: it is of columns and records that there are, and of each level it is known what was read
pub record CanTell (plan : FixPlan) (stripe : ℕ) (own : StripeRoom) : Type 0 where
  pub entries : EntriesFit plan.table plan.entries
  pub within : stripe < length plan.table.infos
  pub room : IsStripeRoomFor plan.table own
  pub count : is_searched plan stripe ≡ true → own.levels.count ≡ plan.table.shape.levels
  pub fits : (d : ℕ) → d < length plan.table.columns → IfSome (found_at own.found.items d) (EventFits plan.table.columns)

-- The room and the window, at the number of the stripe in it, show its facts.
pub record ShowsStripe (plan : FixPlan) (facts : StripeFacts) (i : ℕ) (window : WindowValue) (own : StripeRoom) : Type 0 where
  pub are : AreFacts plan facts
  pub levels : facts.levels ≡ levels_read (is_searched plan facts.stripe) own.levels
  pub found : (d : ℕ) → d < length plan.table.columns → IsFound plan facts.stripe (slot_of facts d) d (found_at own.found.items d)
  pub shows : ShowsFacts plan facts i own.marks.items own.known window
  pub wrong : is_searched plan facts.stripe ≡ true → TellsWrong plan facts.stripe own.levels facts.row own.wrong
  pub can : CanTell plan facts.stripe own

-- ---- what is told of it

-- what was noted of the cells of so many columns
abbrev pub noted_events : List (Option Event) → ℕ → List Event
noted_events found count = flat_map (λ d. option_to_list (found_at found d)) (range_with_len 0 count)

-- what is found in the levels, where they were read
abbrev pub level_events_shown : FixPlan → ℕ → StripeRoom → List Event
level_events_shown plan stripe own =
    if is_searched plan stripe
    then all_level_io_events plan stripe (take own.levels.count own.levels.levels)
    ++ flagged_events stripe own.wrong plan.table.shape.levels
    else []
