-- A sync that broke off told and printed a front of what one does that read the same and more: so of one over the same array in which nothing failed.
use Rattle.std.proofs.Common.{◌≡◌, ◌⊎◌, ⊎_elim, ℕ, ◌+◌, ◌-◌, List, [], ◌++◌, length, drop, take-append-drop, append_assoc, false, refl, sym, ap, ap₂, ◌∙◌, subst}
use Rattle.std.proofs.lemmas.Grind.{flat_map-append}
use Rattle.std.proofs.lemmas.List.{map-append}
use Rattle.array_scan.specs.Layout.{pending_stripes}
use Rattle.disk_model.specs.Sink.{SinkView}
use Rattle.disk_model.specs.Tree.{Tree}
use Rattle.file_table.specs.Table.{TableValue}
use Rattle.array_setup.specs.Setup.{SetupValue}
use Rattle.snap_config.specs.declared.options.Command.TheVariants as commands
use Rattle.array_setup.specs.declared.ways.SyncWay.{SyncWay}
use Rattle.snap_report.specs.EventLines.{event_line, lines_of}
use Rattle.snap_report.specs.Telling.{Tells, between}
use Rattle.snap_report.specs.Text.{sync_text}
use Rattle.snap_report.specs.declared.answer.RunFault.{RunFault}
use Rattle.snap_report.specs.declared.events.Event.{Event}
use Rattle.snap_sync.specs.Closing.{verified_in}
use Rattle.snap_sync.specs.Part.{AllTell, IsToldRun, NoneRose, SyncRun, layout_by, reading_by, readings_by, run_trees, trees_of}
use Rattle.stripe_findings.specs.Findings.{events_of, stripe_events}
use Rattle.stripe_findings.specs.Reading.{StripeReading, stripes_of}
use Rattle.snap_top.specs.Alike.{HoldAlike}
use Rattle.snap_top.specs.Unbroken.{NothingRose}
use Rattle.snap_top.specs.BrokeOff.{BrokeOff, PrintsFront, RoseOnce, RoseOnceBy, SyncBrokeOff}
use Rattle.snap_top.specs.LeftAlike.{AskSame}
use Rattle.snap_top.specs.InPart.{EndsInPart}
use Rattle.snap_top.specs.Run.{IsAnswered}
use Rattle.snap_top.specs.Entry.{Entry, Exit}
use Rattle.snap_top.specs.Syncing.{SyncBreaks, run_of}
use Rattle.snap_top.specs.Views.{world_of}
use Rattle.snap_top.proofs.AskedLemmas.{command_asked, one_setup, same_loaded, unfailed}
use Rattle.snap_top.proofs.LeftAlikeLemmas.{none_rose}
use Rattle.snap_top.proofs.MomentLemmas.{LayoutIsOfTrees}
use Rattle.snap_top.proofs.PartLemmas.{ReadIsGiven}
use Rattle.snap_top.proofs.SyncedLemmas.{OneTable}
use Rattle.snap_top.proofs.BrokeOffLemmas.{LeftUntold, configured, does_as, folders_are, left, one, out_of, printed_nothing, sync_broke, table_is}

-- ---- a sync

-- the first stripes of some, read of trees
front_read : (table : TableValue) (trees : List Tree) (firsts more pending : List ℕ) (readings : List StripeReading) → readings ≡ readings_by table trees firsts → pending ≡ firsts ++ more
    → readings_by table trees pending ≡ readings ++ readings_by table trees more
front_read table trees firsts more pending readings are parts =
    ap (readings_by table trees) parts
    ∙ map-append (reading_by table trees) firsts more
    ∙ ap (λ (rs : List StripeReading). rs ++ readings_by table trees more) (sym are)

-- the lines of the first stripes are the first ones
front_lines : (table : TableValue) (readings more : List StripeReading) (end : List ℕ) → lines_of table.columns (events_of table (readings ++ more)) ++ end
    ≡ lines_of table.columns (events_of table readings) ++ (lines_of table.columns (events_of table more) ++ end)
front_lines table readings more end =
    ap (λ (lines : List ℕ). lines ++ end) (ap (lines_of table.columns) (flat_map-append (stripe_events table) readings more)
    ∙ flat_map-append (event_line table.columns) (events_of table readings) (events_of table more))
    ∙ append_assoc (lines_of table.columns (events_of table readings)) (lines_of table.columns (events_of table more)) end

-- the text of a sync
abbrev text_of : TableValue → List StripeReading → List ℕ
text_of table readings = lines_of table.columns (events_of table readings) ++ sync_text (verified_in table readings) (length readings - verified_in table readings)

-- it read the first stripes that another one read of the same layout
pub sync_read_front : (before before_then : Entry) (exit exit_then : Exit) (status_then : ℕ) (off : SyncBrokeOff before exit) (other : EndsInPart before_then exit_then status_then) (more : List StripeReading)
    → off.sync.course.start ≡ other.run.plan.start → other.run.readings ≡ off.sync.course.readings ++ more
    → PrintsFront off.broke.told (events_of other.run.plan.start other.run.readings) before before_then exit exit_then status_then
sync_read_front before before_then exit exit_then status_then off other more start_is all_read =
    let start : TableValue = off.sync.course.start in
    let readings : List StripeReading = off.sync.course.readings in
    let events : events_of other.run.plan.start other.run.readings ≡ events_of start readings ++ events_of start more
    = ap₂ events_of (sym start_is) all_read ∙ flat_map-append (stripe_events start) readings more in
    let end_text : List ℕ = sync_text (verified_in start (readings ++ more)) (length (readings ++ more) - verified_in start (readings ++ more)) in
    let lines : text_of other.run.plan.start other.run.readings
    ≡ lines_of start.columns (events_of start readings) ++ (lines_of start.columns (events_of start more) ++ end_text)
    = ap₂ text_of (sym start_is) all_read ∙ front_lines start readings more end_text in
    record {
      more = events_of start more;
      events = events ∙ ap (λ (told : List Event). told ++ events_of start more) (sym off.sync.course.told_is);
      text = lines_of start.columns (events_of start readings);
      rest = lines_of start.columns (events_of start more) ++ end_text;
      failed = off.sync.output_failed;
      printed = subst (λ (out : SinkView). Tells (lines_of start.columns (events_of start readings)) (between false out) (between off.sync.output_failed exit.after.out))
          (out_of before exit off.broke) off.sync.printed;
      printed_then = record {
        failed = other.output_failed;
        status_is = other.status_is.failed;
        told = subst (λ (text : List ℕ). Tells text (between false before_then.out) (between other.output_failed exit_then.after.out)) lines other.printed;
      };
    }

module _ (laid_of : LayoutIsOfTrees) (given_of : ReadIsGiven) (one_table : OneTable) (before before_then : Entry) (exit exit_then : Exit) (status_then : ℕ) (broke : BrokeOff before exit)
    (other : EndsInPart before_then exit_then status_then) (hold : HoldAlike before before_then) (ask : AskSame before before_then) (well_then : NothingRose before_then exit_then) where
  abbrev again : SyncRun
  again = other.run

  abbrev way : SyncWay
  way = other.is_sync.way

  abbrev its : IsAnswered broke.ran.task broke.ran.given (world_of exit.after) (left before exit hold.tells.tells hold.tells.tells_vault broke) broke.ran.did
  its = one before exit hold.tells.tells hold.tells.tells_vault broke

  command_is : broke.ran.task.command ≡ commands.Sync way
  command_is =
      command_asked before hold.tells.tells ask.asked ask.words _ _ _ (configured before exit hold.tells.tells hold.tells.tells_vault broke)
      ∙ ask.command
      ∙ sym (command_asked before_then hold.tells_then.tells ask.asked_then ask.words_then _ other.is_sync.readers again.setup other.is_sync.configured)

  setup_is : broke.ran.task.setup ≡ again.setup
  setup_is = one_setup before before_then hold ask.asked ask.asked_then ask.words ask.words_then ask.log _ _ broke.ran.task.readers other.is_sync.readers broke.ran.task.setup again.setup
      (configured before exit hold.tells.tells hold.tells.tells_vault broke) other.is_sync.configured

  abbrev all_told : List Event
  all_told = events_of again.plan.start again.readings

  -- it told and printed nothing
  none_front : LeftUntold its.start (world_of exit.after) (left before exit hold.tells.tells hold.tells.tells_vault broke) → PrintsFront broke.told all_told before before_then exit exit_then status_then
  none_front none = record {
    more = all_told;
    events = ap (λ (told : List Event). told ++ all_told) (sym none.untold);
    text = [];
    rest = text_of again.plan.start again.readings;
    failed = false;
    printed = printed_nothing before exit hold.tells.tells hold.tells.tells_vault broke none.out;
    printed_then = record { failed = other.output_failed; status_is = other.status_is.failed; told = other.printed };
  }

  -- what it read, by the way that it went
  module _ (its_way : SyncWay) (breaks : SyncBreaks broke.ran.task its_way its.table its.start (world_of exit.after) (left before exit hold.tells.tells hold.tells.tells_vault broke) broke.ran.did) (vault_once : RoseOnce before exit) where
    abbrev course_start : TableValue
    course_start = breaks.course.start

    abbrev readings : List StripeReading
    readings = breaks.course.readings

    abbrev ahead : List StripeReading
    ahead = breaks.course.ahead

    abbrev run : SyncRun
    run = run_of broke.ran.task its_way its.table its.start (world_of exit.after) course_start breaks.course.listed readings ahead

    told_run : IsToldRun run
    told_run = record {
      told = subst AllTell (sym (folders_are before exit hold.tells.tells hold.tells.tells_vault broke)) hold.tells.tells_folders;
      of_lists = record {
        folders = its.columns;
        as_many = breaks.course.laid.as_many;
        lists = breaks.course.laid.lists;
        listed = breaks.course.laid.listed;
        start_is = breaks.course.laid.start_is;
        reads = breaks.course.reads;
      };
    }

    trees_are : run_trees run ≡ run_trees again
    trees_are = ap trees_of (folders_are before exit hold.tells.tells hold.tells.tells_vault broke) ∙ hold.trees ∙ sym (ap trees_of other.is_sync.folders_are)

    loaded_is : its.table ≡ again.loaded
    loaded_is = same_loaded one_table before before_then hold broke.ran.task.setup again.setup its.table again.loaded setup_is
        (table_is before exit hold.tells.tells hold.tells.tells_vault broke (breaks.course.vault.broke refl).rose vault_once)
        (other.is_sync.loading.from (unfailed before_then exit_then other.is_sync.loading well_then))

    start_is : course_start ≡ again.plan.start
    start_is = laid_of run told_run ∙ ap (λ (s : SetupValue). layout_by s its.table (run_trees run)) setup_is
        ∙ ap (λ (t : TableValue). layout_by again.setup t (run_trees run)) loaded_is ∙ ap (layout_by again.setup again.loaded) trees_are ∙ sym other.laid

    none_run : NoneRose run.folders run.ended
    none_run = none_rose run.folders before.opener.folders exit.after.folders (folders_are before exit hold.tells.tells hold.tells.tells_vault broke) vault_once.folders

    abbrev pending : List ℕ
    pending = pending_stripes course_start.infos

    abbrev behind : List ℕ
    behind = stripes_of ahead ++ drop (length (readings ++ ahead)) pending

    parts : pending ≡ stripes_of readings ++ behind
    parts =
        sym (take-append-drop (length (readings ++ ahead)) pending)
        ∙ ap (λ (ns : List ℕ). ns ++ drop (length (readings ++ ahead)) pending) (sym breaks.course.reads.stripes ∙ map-append (λ (reading : StripeReading). reading.stripe) readings ahead)
        ∙ append_assoc (stripes_of readings) (stripes_of ahead) (drop (length (readings ++ ahead)) pending)

    abbrev more : List StripeReading
    more = readings_by course_start (run_trees run) behind

    all_read : again.readings ≡ readings ++ more
    all_read =
        other.given (none_rose again.folders before_then.opener.folders exit_then.after.folders other.is_sync.folders_are well_then.folders)
        ∙ ap (λ (t : TableValue). readings_by t (run_trees again) (pending_stripes t.infos)) (sym start_is)
        ∙ ap (λ (ts : List Tree). readings_by course_start ts pending) (sym trees_are)
        ∙ front_read course_start (run_trees run) (stripes_of readings) behind pending readings (given_of run told_run none_run) parts

    -- the other one read the same first, in the same layout
    pub reads : (course_start ≡ again.plan.start) × ((rest : List StripeReading) × (again.readings ≡ readings ++ rest))
    reads = (start_is, (more, all_read))

  broken_front : SyncBreaks broke.ran.task way its.table its.start (world_of exit.after) (left before exit hold.tells.tells hold.tells.tells_vault broke) broke.ran.did → RoseOnce before exit
      → PrintsFront broke.told all_told before before_then exit exit_then status_then
  broken_front breaks vault_once =
      let its_reads = reads way breaks vault_once in
      sync_read_front before before_then exit exit_then status_then (record { broke = broke; way = way; command_is = command_is; sync = breaks }) other its_reads.1.0 its_reads.0 its_reads.1.1

  pub sync_front : RoseOnceBy broke.fault before exit → PrintsFront broke.told all_told before before_then exit exit_then status_then
  sync_front once = ⊎_elim none_front (λ by_vault. broken_front by_vault.1 (subst (λ (fault : RunFault). RoseOnceBy fault before exit) by_vault.0 once))
      (sync_broke broke.fault broke.ran.task way its.table its.start (world_of exit.after) (left before exit hold.tells.tells hold.tells.tells_vault broke) broke.ran.did
      (does_as before exit hold.tells.tells hold.tells.tells_vault broke (commands.Sync way) command_is))

-- what a sync read that broke off is what another one of the same array reads first
pub sync_reads : LayoutIsOfTrees → ReadIsGiven → OneTable → (before before_then : Entry) (exit exit_then : Exit) (status_then : ℕ) (off : SyncBrokeOff before exit) (other : EndsInPart before_then exit_then status_then)
    → HoldAlike before before_then → AskSame before before_then → RoseOnce before exit → NothingRose before_then exit_then
    → (off.sync.course.start ≡ other.run.plan.start) × ((more : List StripeReading) × (other.run.readings ≡ off.sync.course.readings ++ more))
sync_reads laid_of given_of one_table before before_then exit exit_then status_then off other hold ask once well_then =
    reads laid_of given_of one_table before before_then exit exit_then status_then off.broke other hold ask well_then off.way off.sync once
