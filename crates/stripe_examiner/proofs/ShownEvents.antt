-- The events of a stripe, by what its room shows.
use Rattle.std.proofs.Common.{◌≡◌, ℕ, ◌≤◌, min, List, [], ◌++◌, length, take, Bool, true, false, Option, refl, sym, ap, ap₂, ◌∙◌, append_assoc, arith}
use Rattle.std.specs.Prelude.{slice_index_or, if◌then◌else◌}
use Rattle.std.specs.Option.{option_to_list}
use Rattle.std.proofs.lemmas.List.{length-take}
use Rattle.parity_writer.specs.LevelsValue.{LevelValue}
use Rattle.snap_report.specs.declared.events.Event.{Event}
use Rattle.stripe_reader.specs.WindowValue.{WindowValue, no_slot}
use Rattle.stripe_examiner.specs.declared.marking.SlotMark.{SlotMark}
use Rattle.stripe_examiner.specs.declared.room.StripeRoom.{StripeRoom}
use Rattle.stripe_examiner.specs.Facts.{StripeFacts}
use Rattle.stripe_examiner.specs.Findings.{unsynced_events, cell_events, all_cell_events, all_level_io_events, all_level_events, all_lost_events, is_lost, is_lost_by, lost_events, stripe_events}
use Rattle.stripe_examiner.specs.Judging.{flagged_events}
use Rattle.stripe_examiner.specs.Known.{IsTried}
use Rattle.stripe_examiner.specs.Marks.{levels_read, mark_in}
use Rattle.repair_scope.specs.Plan.{FixPlan, is_searched}
use Rattle.stripe_examiner.specs.Shown.{ShowsStripe, found_at, level_events_shown, noted_events}
use Rattle.stripe_examiner.proofs.CellFactsLemmas.{flat_map_below}
use Rattle.stripe_examiner.proofs.JudgingLemmas.{flagged_are}
use Rattle.stripe_examiner.proofs.ShownLemmas.{lost_shown}

module _ (plan : FixPlan) (facts : StripeFacts) (i : ℕ) (window : WindowValue) (own : StripeRoom) (shown : ShowsStripe plan facts i window own) where
  abbrev stripe : ℕ
  stripe = facts.stripe

  abbrev columns : ℕ
  columns = length plan.table.columns

  abbrev read : List LevelValue
  read = take own.levels.count own.levels.levels

  cells_are : all_cell_events plan stripe facts.slots ≡ noted_events own.found.items columns
  cells_are =
      flat_map_below (λ d. cell_events plan stripe (slice_index_or facts.slots d no_slot) d) (λ d. option_to_list (found_at own.found.items d)) columns
      (λ d below. sym (shown.found d below).event)

  -- each level that was read has its place
  places : facts.levels ≡ read → is_searched plan stripe ≡ true → IsTried plan facts true → own.levels.count ≤ length own.levels.levels
  places are searched tried =
      let long : length read ≡ min own.levels.count (length own.levels.levels) = length-take own.levels.count own.levels.levels in
      omega (arith, long, ap (λ (levels : List LevelValue). length levels) are, tried.0, shown.can.count searched)

  levels_of : (b : Bool) → is_searched plan stripe ≡ b → IsTried plan facts b
      → all_level_io_events plan stripe facts.levels ++ all_level_events plan stripe facts.levels facts.row
      ≡ (if b then all_level_io_events plan stripe read ++ flagged_events stripe own.wrong plan.table.shape.levels else [])
  levels_of false not_searched tried =
      ap (λ (levels : List LevelValue). all_level_io_events plan stripe levels ++ all_level_events plan stripe levels facts.row) tried.1
  levels_of true searched tried =
      let are : facts.levels ≡ read = shown.levels ∙ ap (λ (b : Bool). levels_read b own.levels) searched in
      ap (λ (levels : List LevelValue). all_level_io_events plan stripe levels ++ all_level_events plan stripe levels facts.row) are
      ∙ ap (λ (events : List Event). all_level_io_events plan stripe read ++ events)
      (sym (flagged_are plan stripe own.levels facts.row own.wrong (places are searched tried) (shown.wrong searched) plan.table.shape.levels (sym (shown.can.count searched))))

  levels_are : all_level_io_events plan stripe facts.levels ++ all_level_events plan stripe facts.levels facts.row ≡ level_events_shown plan stripe own
  levels_are = levels_of (is_searched plan stripe) refl shown.are.tried

  lost_are : all_lost_events plan stripe (is_lost plan facts) ≡ all_lost_events plan stripe (λ d. is_lost_by plan stripe (mark_in own.marks.items d) own.known d)
  lost_are =
      flat_map_below (λ d. lost_events plan stripe (is_lost plan facts d) d)
      (λ d. lost_events plan stripe (is_lost_by plan stripe (mark_in own.marks.items d) own.known d) d) columns
      (λ d below. ap (λ (b : Bool). lost_events plan stripe b d) (lost_shown plan facts i own.marks.items own.known window shown.shows d below))

  pub events_shown : stripe_events plan facts
      ≡ unsynced_events plan stripe ++ (noted_events own.found.items columns
      ++ (level_events_shown plan stripe own ++ all_lost_events plan stripe (λ d. is_lost_by plan stripe (mark_in own.marks.items d) own.known d)))
  events_shown =
      let io : List Event = all_level_io_events plan stripe facts.levels in
      let wrong : List Event = all_level_events plan stripe facts.levels facts.row in
      let lost : List Event = all_lost_events plan stripe (is_lost plan facts) in
      ap (λ (rest : List Event). unsynced_events plan stripe ++ rest)
      (ap₂ (λ (cells rest : List Event). cells ++ rest) cells_are
      (sym (append_assoc io wrong lost) ∙ ap₂ (λ (levels rest : List Event). levels ++ rest) levels_are lost_are))

-- ---- what is told of the levels

pub levels_none_shown : (plan : FixPlan) (stripe : ℕ) (own : StripeRoom) → is_searched plan stripe ≡ false → level_events_shown plan stripe own ≡ []
levels_none_shown plan stripe own not_searched =
    ap (λ (b : Bool). if b then all_level_io_events plan stripe (take own.levels.count own.levels.levels) ++ flagged_events stripe own.wrong plan.table.shape.levels else []) not_searched

pub levels_shown_read : (plan : FixPlan) (stripe : ℕ) (own : StripeRoom) → is_searched plan stripe ≡ true
    → level_events_shown plan stripe own ≡ all_level_io_events plan stripe (take own.levels.count own.levels.levels) ++ flagged_events stripe own.wrong plan.table.shape.levels
levels_shown_read plan stripe own searched =
    ap (λ (b : Bool). if b then all_level_io_events plan stripe (take own.levels.count own.levels.levels) ++ flagged_events stripe own.wrong plan.table.shape.levels else []) searched

-- the same of the stripe of a number, by what is noted and marked of it
pub events_told : (plan : FixPlan) (facts : StripeFacts) (i : ℕ) (window : WindowValue) (own : StripeRoom) → ShowsStripe plan facts i window own
    → (stripe : ℕ) → facts.stripe ≡ stripe → (found : List (Option Event)) (marks : List SlotMark) → found ≡ own.found.items → marks ≡ own.marks.items
    → stripe_events plan facts
    ≡ unsynced_events plan stripe ++ (noted_events found (length plan.table.columns)
    ++ (level_events_shown plan stripe own ++ all_lost_events plan stripe (λ d. is_lost_by plan stripe (mark_in marks d) own.known d)))
events_told plan facts i window own shown stripe is found marks found_is marks_are =
    let columns = length plan.table.columns in
    events_shown plan facts i window own shown
    ∙ ap (λ (n : ℕ). unsynced_events plan n ++ (noted_events own.found.items columns
    ++ (level_events_shown plan n own ++ all_lost_events plan n (λ d. is_lost_by plan n (mark_in own.marks.items d) own.known d)))) is
    ∙ ap₂ (λ (ns : List (Option Event)) (ms : List SlotMark). unsynced_events plan stripe ++ (noted_events ns columns
    ++ (level_events_shown plan stripe own ++ all_lost_events plan stripe (λ d. is_lost_by plan stripe (mark_in ms d) own.known d)))) (sym found_is) (sym marks_are)
