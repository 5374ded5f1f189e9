-- A scrub that broke off told and printed a front of what one does that read the same: so of one over the same array in which nothing failed.
use Rattle.std.proofs.Common.{◌≡◌, ◌⊎◌, ⊎_elim, ℕ, zero, suc, ◌+◌, ◌≤◌, List, [], ◌++◌, length, append-nil, false, refl, sym, ap, ap₂, ◌∙◌, subst, arith}
use Rattle.std.specs.Prelude.{All, sum_by}
use Rattle.disk_model.specs.Cause.{Rose, RoseBy}
use Rattle.disk_model.specs.Sink.{SinkView}
use Rattle.disk_model.specs.Tree.{Tree}
use Rattle.file_table.specs.Table.{TableValue}
use Rattle.snap_config.specs.declared.options.Command.TheVariants as commands
use Rattle.array_setup.specs.declared.ways.ScrubWay.{ScrubWay}
use Rattle.snap_report.specs.EndLines.{scrub_text}
use Rattle.snap_report.specs.EventLines.{lines_of}
use Rattle.snap_report.specs.Telling.{Tells, between}
use Rattle.snap_report.specs.declared.answer.RunFault.{RunFault}
use Rattle.snap_report.specs.declared.events.Event.{Event}
use Rattle.snap_scrub.specs.Findings.{events_of as scrub_events_of}
use Rattle.snap_scrub.specs.Marks.{at_most}
use Rattle.snap_scrub.specs.Plan.{plan_of}
use Rattle.snap_scrub.specs.Reading.{AreLevelsOf, HasLevels, ScrubReading, cells_of, unread_levels}
use Rattle.snap_sync.specs.Part.{AllTell, readings_by, trees_of}
use Rattle.snap_top.specs.Alike.{HoldAlike}
use Rattle.snap_top.specs.Unbroken.{NothingRose}
use Rattle.snap_top.specs.BrokeOff.{BrokeOff, PrintsFront, RoseOnce, RoseOnceBy, ScrubBrokeOff, answered}
use Rattle.snap_top.specs.LeftAlike.{AskSame}
use Rattle.snap_top.specs.Run.{IsAnswered}
use Rattle.snap_top.specs.Entry.{Entry, Exit}
use Rattle.snap_top.specs.Scrubbed.{EndsScrubbed}
use Rattle.snap_top.specs.Scrubbing.{ScrubBreaks}
use Rattle.snap_top.specs.Views.{view_of, world_of}
use Rattle.snap_top.proofs.AskedLemmas.{command_asked, one_setup, same_loaded, unfailed}
use Rattle.snap_top.proofs.HeldLemmas.{none_risen}
use Rattle.snap_top.proofs.LeftAlikeLemmas.{none_rose, same_readings}
use Rattle.snap_top.proofs.ScrubGiven.{stripes_given}
use Rattle.snap_top.proofs.SyncedLemmas.{OneTable}
use Rattle.snap_top.proofs.BrokeOffLemmas.{LeftUntold, begun, configured, does_as, files_are, folders_are, given_faults, left, one, out_of, printed_nothing, scrub_broke, table_is, vault_tells}

-- ---- a scrub

pub none_unread : (n a b c : ℕ) → a ≤ b → RoseBy (n + 1) b c → ¬ (RoseBy 2 a c) → n ≡ 0
none_unread zero a b c later rose once = refl
none_unread (suc n) a b c later rose once = absurd (once (twice later rose))
  where
    twice : a ≤ b → RoseBy (suc n + 1) b c → RoseBy 2 a c
    twice begins two = omega (arith, begins, two)

abbrev scrub_lines : TableValue → List ScrubReading → List ℕ
scrub_lines table readings = lines_of table.columns (scrub_events_of table readings)

abbrev end_text : TableValue → List ScrubReading → List ℕ
end_text table readings = scrub_text (length readings) (at_most (length (scrub_events_of table readings)))

-- it read what another one read of the same table
pub scrub_read_front : (before before_then : Entry) (exit exit_then : Exit) (status_then : ℕ) (off : ScrubBrokeOff before exit) (other : EndsScrubbed before_then exit_then status_then)
    → (answered off.broke).table ≡ other.run.loaded → off.scrub.course.readings ≡ other.run.readings
    → PrintsFront off.broke.told (scrub_events_of other.run.loaded other.run.readings) before before_then exit exit_then status_then
scrub_read_front before before_then exit exit_then status_then off other loaded_is read_same =
    let table : TableValue = (answered off.broke).table in
    let readings : List ScrubReading = off.scrub.course.readings in
    let lines : scrub_lines other.run.loaded other.run.readings ≡ scrub_lines table readings = ap₂ scrub_lines (sym loaded_is) (sym read_same) in
    record {
      more = [];
      events = ap₂ scrub_events_of (sym loaded_is) (sym read_same) ∙ sym off.scrub.course.told_is ∙ sym (append-nil off.broke.told);
      text = scrub_lines table readings;
      rest = end_text other.run.loaded other.run.readings;
      failed = off.scrub.output_failed;
      printed = subst (λ (out : SinkView). Tells (scrub_lines table readings) (between false out) (between off.scrub.output_failed exit.after.out))
          (out_of before exit off.broke) off.scrub.printed;
      printed_then = record {
        failed = other.output_failed;
        status_is = other.status_is.failed;
        told = subst (λ (text : List ℕ). Tells (text ++ end_text other.run.loaded other.run.readings) (between false before_then.out) (between other.output_failed exit_then.after.out)) lines other.printed;
      };
    }

same_way : (one other : ScrubWay) → commands.Scrub one ≡ commands.Scrub other → one ≡ other
same_way one other is = cc

module _ (one_table : OneTable) (before before_then : Entry) (exit exit_then : Exit) (status_then : ℕ) (broke : BrokeOff before exit)
    (other : EndsScrubbed before_then exit_then status_then) (hold : HoldAlike before before_then) (ask : AskSame before before_then) (moments : before.moment ≡ before_then.moment)
    (well_then : NothingRose before_then exit_then) where
  abbrev its : IsAnswered broke.ran.task broke.ran.given (world_of exit.after) (left before exit hold.tells.tells hold.tells.tells_vault broke) broke.ran.did
  its = one before exit hold.tells.tells hold.tells.tells_vault broke

  abbrev way : ScrubWay
  way = other.run.way

  command_is : broke.ran.task.command ≡ commands.Scrub way
  command_is =
      command_asked before hold.tells.tells ask.asked ask.words _ _ _ (configured before exit hold.tells.tells hold.tells.tells_vault broke)
      ∙ ask.command
      ∙ sym (command_asked before_then hold.tells_then.tells ask.asked_then ask.words_then _ other.is_scrub.readers other.run.setup other.is_scrub.configured)

  setup_is : broke.ran.task.setup ≡ other.run.setup
  setup_is = one_setup before before_then hold ask.asked ask.asked_then ask.words ask.words_then ask.log _ _ broke.ran.task.readers other.is_scrub.readers broke.ran.task.setup other.run.setup
      (configured before exit hold.tells.tells hold.tells.tells_vault broke) other.is_scrub.configured

  abbrev all_told : List Event
  all_told = scrub_events_of other.run.loaded other.run.readings

  no_lines : LeftUntold its.start (world_of exit.after) (left before exit hold.tells.tells hold.tells.tells_vault broke) → PrintsFront broke.told all_told before before_then exit exit_then status_then
  no_lines none = record {
    more = all_told;
    events = ap (λ (told : List Event). told ++ all_told) (sym none.untold);
    text = [];
    rest = scrub_lines other.run.loaded other.run.readings ++ end_text other.run.loaded other.run.readings;
    failed = false;
    printed = printed_nothing before exit hold.tells.tells hold.tells.tells_vault broke none.out;
    printed_then = record { failed = other.output_failed; status_is = other.status_is.failed; told = other.printed };
  }

  -- what it read, by the way that it went
  module _ (its_way : ScrubWay) (way_is : its_way ≡ way) (breaks : ScrubBreaks its_way broke.ran.task its.table its.start (world_of exit.after) (left before exit hold.tells.tells hold.tells.tells_vault broke) broke.ran.did)
      (vault_once : RoseOnce before exit) where
    abbrev readings : List ScrubReading
    readings = breaks.course.readings

    begun_before : before.opener.vault.faults ≤ its.start.vault.faults
    begun_before = subst (λ (n : ℕ). n ≤ its.start.vault.faults) (given_faults before exit hold.tells.tells hold.tells.tells_vault broke) (begun before exit hold.tells.tells hold.tells.tells_vault broke)

    unread : sum_by unread_levels readings ≡ 0
    unread = none_unread (sum_by unread_levels readings) before.opener.vault.faults its.start.vault.faults exit.after.vault.faults begun_before breaks.rose vault_once.vault

    rose : Rose its.start.vault.faults exit.after.vault.faults
    rose = by (sum_by unread_levels readings) its.start.vault.faults exit.after.vault.faults breaks.rose
      where
        by : (n a b : ℕ) → RoseBy (n + 1) a b → Rose a b
        by n a b more = omega (arith, more)

    loaded_is : its.table ≡ other.run.loaded
    loaded_is = same_loaded one_table before before_then hold broke.ran.task.setup other.run.setup its.table other.run.loaded setup_is
        (table_is before exit hold.tells.tells hold.tells.tells_vault broke rose vault_once)
        (other.is_scrub.loading.from (unfailed before_then exit_then other.is_scrub.loading well_then))

    now_is : broke.ran.task.moment ≡ other.run.now
    now_is = broke.ran.moment_is ∙ moments ∙ sym other.is_scrub.moment_is

    trees_are : trees_of its.start.folders ≡ trees_of other.run.folders
    trees_are = ap trees_of (folders_are before exit hold.tells.tells hold.tells.tells_vault broke) ∙ hold.trees ∙ sym (ap trees_of other.is_scrub.folders_are)

    all_tell : AllTell its.start.folders
    all_tell = subst AllTell (sym (folders_are before exit hold.tells.tells hold.tells.tells_vault broke)) hold.tells.tells_folders

    cells_are : cells_of readings ≡ cells_of other.run.readings
    cells_are =
        stripes_given its.table (cells_of readings) its.start.folders exit.after.folders breaks.course.cells its.columns all_tell
        (none_rose its.start.folders before.opener.folders exit.after.folders (folders_are before exit hold.tells.tells hold.tells.tells_vault broke) vault_once.folders)
        ∙ ap (readings_by its.table (trees_of its.start.folders)) breaks.course.stripes
        ∙ ap (λ (t : TableValue). readings_by t (trees_of its.start.folders) (plan_of t its_way broke.ran.task.moment)) loaded_is
        ∙ ap (λ (ts : List Tree). readings_by other.run.loaded ts (plan_of other.run.loaded its_way broke.ran.task.moment)) trees_are
        ∙ ap (λ (n : ℕ). readings_by other.run.loaded (trees_of other.run.folders) (plan_of other.run.loaded its_way n)) now_is
        ∙ ap (λ (w : ScrubWay). readings_by other.run.loaded (trees_of other.run.folders) (plan_of other.run.loaded w other.run.now)) way_is
        ∙ sym (other.given (subst AllTell (sym other.is_scrub.folders_are) hold.tells_then.tells_folders) (none_rose other.run.folders before_then.opener.folders exit_then.after.folders other.is_scrub.folders_are well_then.folders))

    read_same : readings ≡ other.run.readings
    read_same = same_readings other.run.loaded (view_of its.start.vault) before_then.opener.vault (vault_tells before exit hold.tells.tells hold.tells.tells_vault broke) hold.tells_then.tells_vault
        (files_are before exit hold.tells.tells hold.tells.tells_vault broke ∙ hold.files) readings other.run.readings
        (subst (λ (t : TableValue). All (HasLevels t) readings) loaded_is breaks.course.due) other.is_scrub.over.due
        (subst (λ (t : TableValue). All (AreLevelsOf (view_of its.start.vault) t.shape.block_size) readings) loaded_is breaks.course.vault.are) other.is_scrub.over.levels
        unread
        (none_risen (sum_by unread_levels other.run.readings) before_then.opener.vault.faults exit_then.after.vault.faults well_then.vault other.unread_levels_of) cells_are

    -- the other one read the same, of the same table
    pub reads : (its.table ≡ other.run.loaded) × (readings ≡ other.run.readings)
    reads = (loaded_is, read_same)

  -- of one that went another way, by what it was asked for
  pub reads_by : (its_way : ScrubWay) → broke.ran.task.command ≡ commands.Scrub its_way
      → (breaks : ScrubBreaks its_way broke.ran.task its.table its.start (world_of exit.after) (left before exit hold.tells.tells hold.tells.tells_vault broke) broke.ran.did)
      → RoseOnce before exit → (its.table ≡ other.run.loaded) × (breaks.course.readings ≡ other.run.readings)
  reads_by its_way asked breaks vault_once = reads its_way (same_way its_way way (sym asked ∙ command_is)) breaks vault_once

  all_lines : ScrubBreaks way broke.ran.task its.table its.start (world_of exit.after) (left before exit hold.tells.tells hold.tells.tells_vault broke) broke.ran.did → RoseOnce before exit
      → PrintsFront broke.told all_told before before_then exit exit_then status_then
  all_lines breaks vault_once =
      let its_reads = reads way refl breaks vault_once in
      scrub_read_front before before_then exit exit_then status_then (record { broke = broke; way = way; command_is = command_is; scrub = breaks }) other its_reads.0 its_reads.1

  pub scrub_front : RoseOnceBy broke.fault before exit → PrintsFront broke.told all_told before before_then exit exit_then status_then
  scrub_front once = ⊎_elim no_lines (λ by_vault. all_lines by_vault.1 (subst (λ (fault : RunFault). RoseOnceBy fault before exit) by_vault.0 once))
      (scrub_broke broke.fault way broke.ran.task its.table its.start (world_of exit.after) (left before exit hold.tells.tells hold.tells.tells_vault broke) broke.ran.did
      (does_as before exit hold.tells.tells hold.tells.tells_vault broke (commands.Scrub way) command_is))

-- what a scrub read that broke off is what another one of the same array reads
pub scrub_reads : OneTable → (before before_then : Entry) (exit exit_then : Exit) (status_then : ℕ) (off : ScrubBrokeOff before exit) (other : EndsScrubbed before_then exit_then status_then)
    → HoldAlike before before_then → AskSame before before_then → before.moment ≡ before_then.moment → RoseOnce before exit → NothingRose before_then exit_then
    → ((answered off.broke).table ≡ other.run.loaded) × (off.scrub.course.readings ≡ other.run.readings)
scrub_reads one_table before before_then exit exit_then status_then off other hold ask moments once well_then =
    reads_by one_table before before_then exit exit_then status_then off.broke other hold ask moments well_then off.way off.command_is off.scrub once
