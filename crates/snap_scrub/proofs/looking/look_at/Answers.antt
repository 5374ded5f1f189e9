use Rattle.std.specs.Prelude.{slice_index_or}
use Rattle.parity_writer.specs.declared.summing.Sums.{Sums}
use Rattle.std.proofs.Common.{ℕ, ◌≡◌, ◌*◌, ◌++◌, length, [], List, get_or, refl, sym, ap, ◌∙◌, subst, arith}
use Rattle.parity_writer.specs.WindowRow.{row_at}
use Rattle.snap_report.proofs.ToldLemmas.{told_then}
use Rattle.snap_report.specs.declared.events.Event.{Event}
use Rattle.stripe_findings.specs.Findings.{stripe_events}
use Rattle.stripe_findings.specs.Reading.{reading_at}
use Rattle.parity_writer.specs.Summing.{HoldSums}
use Rattle.snap_scrub.specs.Levels.{kept_events}
use Rattle.snap_scrub.specs.Reading.{ScrubReading}
use Rattle.snap_scrub.proofs.FoundLemmas.{found_as}
use Rattle.snap_scrub.proofs.LevelLemmas.{levels_say, row_of_window}
use Rattle.snap_scrub.proofs.LookingLemmas.{some_sums, unread_events, unread_due, read_due, read_events}
use Rattle.snap_scrub.proofs.ReadingLemmas.{levels_unread, levels_read}
use Rattle.stripe_findings.proofs.TellingLemmas.{told_as}
use Rattle.snap_scrub.proofs.looking.look_at.Goals as goal

pub returns-then-found-gt0-clause-looks : goal.returns-then-found-gt0-clause-looks
returns-then-found-gt0-clause-looks g c =
    let table = c.args.batch.now.table.now in
    let cells = reading_at c.args.batch.now.stripes.now c.args.batch.now.window.now c.args.i in
    let found = c.tell_cells-found in
    record {
      reading = record { cells = cells; levels = [] };
      cells_are = refl;
      due = unread_due table cells found.result.count found.ensures.found.count (omega (arith, c.if-found-gt0.true));
      found_are = found_as _ _ _ (unread_events table cells) found.ensures.found;
      told = told_as _ _ _ _ _ _ _ _ _ _ (unread_events table cells) found.ensures.told;
      levels = levels_unread table cells _;
    }

pub returns-then-found-gt0-clause-check : goal.returns-then-found-gt0-clause-check
returns-then-found-gt0-clause-check g c = record { room = c.requires.check; sums = refl }

pub returns-clause-check : goal.returns-clause-check
returns-clause-check g c = record { room = record { levels = c.read_all.ensures.size; sums = c.requires.check.sums }; sums = refl }

pub sums_of-sums-requires : goal.sums_of-sums-requires
sums_of-sums-requires g c = omega (arith, c.requires.sums.there, ap length c.as_slice.ensures.value)

pub tell_levels-requires-clause-sums : goal.tell_levels-requires-clause-sums
tell_levels-requires-clause-sums g c =
    let other : Sums = some_sums c.args.check.now.sums.items c.args.i c.requires.sums.there in
    let own = c.sums_of-sums.ensures other ∙ ap (λ (all : List Sums). (slice_index_or all c.args.i other).blocks.items) c.as_slice.ensures.value in
    ap length own ∙ c.requires.check.sums c.args.i other c.requires.sums.there ∙ ap (λ (n : ℕ). 6 * n) (sym c.read_all.ensures.size)

pub returns-clause-looks : goal.returns-clause-looks
returns-clause-looks g c =
    let table = c.args.batch.now.table.now in
    let window = c.args.batch.now.window.now in
    let stripe = get_or c.args.batch.now.stripes.now c.args.i 0 in
    let cells = reading_at c.args.batch.now.stripes.now window c.args.i in
    let found = c.tell_cells-found in
    let levels = c.read_all.new.levels in
    let reads = c.read_all.ensures.read in
    let reading : ScrubReading = record { cells = cells; levels = reads.readings } in
    let row = row_at window c.args.i in
    let zero : found.result.count ≡ 0 = omega (arith, c.if-found-gt0.false) in
    let size = c.read_all.ensures.size in
    let says = levels_say table.shape.block_size stripe table.shape.levels row levels _ _ reads table cells refl refl (sym (row_of_window c.args.batch.now.stripes.now window c.args.i))
    ∙ ap (λ n. kept_events n stripe row levels table.shape.levels) (sym size) in
    let other : Sums = some_sums c.args.check.now.sums.items c.args.i c.requires.sums.there in
    let own = c.sums_of-sums.ensures other ∙ ap (λ (all : List Sums). (slice_index_or all c.args.i other).blocks.items) c.as_slice.ensures.value in
    let sums : HoldSums levels.block_size row table.shape.levels c.sums_of-sums.result.now
    = subst (λ (n : ℕ). HoldSums n row table.shape.levels c.sums_of-sums.result.now) (sym size)
    (subst (λ (bytes : List ℕ). HoldSums table.shape.block_size row table.shape.levels bytes) (sym own) (c.requires.sums.hold other)) in
    record {
      reading = reading;
      cells_are = refl;
      due = read_due table reading found.result.count found.ensures.found.count zero reads.as_many;
      found_are = found_as _ _ _ (read_events table reading found.result.count _ found.ensures.found.count zero says) (c.tell_levels.ensures.found row sums);
      told = told_as _ _ _ _ _ _ _ _ _ _ (ap (λ (events : List Event). stripe_events table cells ++ events) says)
          (told_then _ _ _ _ _ _ _ _ _ _ _ _ found.ensures.told (c.tell_levels.ensures.told row sums));
      levels = levels_read table cells table.shape.block_size stripe table.shape.levels levels.levels _ _ reads refl refl;
    }
