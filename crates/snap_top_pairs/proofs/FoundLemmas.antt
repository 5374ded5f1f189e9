-- Two checks of a lost disk, and a check and then a fix of it, find the same.
use Rattle.std.proofs.Common.{◌≡◌, inl, ℕ, ◌<◌, List, length, count_by, IsTrue, sym, ◌∙◌, subst}
use Rattle.disk_model.specs.Folder.{FolderView}
use Rattle.disk_model.specs.Opener.{OpenerView}
use Rattle.disk_model.specs.Sink.{SinkView}
use Rattle.disk_model.specs.Vault.{VaultView, copies_of}
use Rattle.snap_config.specs.declared.options.Command.TheVariants as commands
use Rattle.snap_report.specs.Kind.{is_finding}
use Rattle.repair_scope.specs.declared.scope.Mode.{Mode}
use Rattle.repair_scope.specs.declared.scope.Mode.TheVariants as modes
use Rattle.snap_top.specs.Alike.{AskAlike, CheckAlike, FindAlike, FixAlike, HoldAlike, ReadAlike}
use Rattle.snap_top.specs.Unbroken.{NothingRose}
use Rattle.snap_top.specs.Check.{CheckRun}
use Rattle.snap_top.specs.Ended.{ByStatus}
use Rattle.snap_top.specs.Naming.{EndsChecked, HasChecked, events_found}
use Rattle.snap_top.specs.Restoring.{EndsFixed}
use Rattle.snap_top.specs.RunOf.{RunOf}
use Rattle.snap_top.specs.Entry.{Entry, Exit}
use Rattle.snap_top.specs.Standing.{after_of, before_of}
use Rattle.snap_top.proofs.AskedLemmas.{command_asked, unfailed}
use Rattle.snap_top.proofs.OneArrayLemmas.{one_selection}
use Rattle.snap_top.proofs.ResumeLemmas.{begins_same}
use Rattle.snap_top.proofs.SeenLemmas.{IsDetermined}
use Rattle.snap_top.proofs.SyncedLemmas.{OneTable}
use Rattle.snap_top_instances.specs.Asked.{AsksFor, everything}
use Rattle.snap_top_pairs.specs.Found.{AreFoundAndFixed, AreFoundTwice}
use Rattle.snap_top_pairs.specs.Lost.{AreRunTwice, HasRows, HoldsRows}
use Rattle.snap_top_pairs.proofs.ReadLemmas.{read_alike, stripe_found}
use Rattle.snap_top_instances.proofs.EndsLemmas.{asks_alike, counted_some, ended_as}

-- a check of everything in a table with rows looks at a stripe
some_stripe : OneTable → (before : Entry) (exit : Exit) (status : ℕ) (run : CheckRun) → IsTrue before.opener.tells → AsksFor (commands.Check everything) before.texts → NothingRose before exit → HasChecked modes.Check before exit status run
    → HoldsRows before.opener.vault → 0 < length run.stripes
some_stripe one_table before exit status run tells asks well has holds =
    let is = has.is_check in
    let all : run.selection ≡ everything = one_selection modes.Check run.selection everything
    (command_asked before tells asks.asked asks.words (commands.Check run.selection) is.readers run.setup is.configured ∙ asks.command_is) in
    let same : run.loaded ≡ holds.table = begins_same one_table run.setup before.seed (copies_of before.opener.vault) before.opener.vault.files run.loaded holds.table
    (is.loading.from (unfailed before exit is.loading well)) (inl holds.content) in
    stripe_found modes.Check run all is.over.plan_is is.over.numbers (subst HasRows (sym same) holds.rows)

module _ {O F V W : Type 0} (opener_view : O → OpenerView) (folder_view : F → FolderView) (vault_view : V → VaultView) (sink_view : W → SinkView) where
  abbrev begun : RunOf O F V W → Entry
  begun run = before_of opener_view folder_view vault_view sink_view run

  abbrev ended : RunOf O F V W → Exit
  ended run = after_of opener_view folder_view vault_view sink_view run

  -- what the laws say
  abbrev pub ChecksFoundAlike : Type 0
  ChecksFoundAlike = (mode : Mode) (run again : RunOf O F V W) (one other : CheckRun) → HoldAlike (begun run) (begun again) → AskAlike mode mode (begun run) (begun again) → NothingRose (begun run) (ended run)
      → NothingRose (begun again) (ended again) → HasChecked mode (begun run) (ended run) run.status one → HasChecked mode (begun again) (ended again) again.status other → CheckAlike one other run.status again.status

  abbrev pub ReadsFoundAlike : Type 0
  ReadsFoundAlike = (mode : Mode) (run again : RunOf O F V W) (one other : CheckRun) → HasChecked mode (begun run) (ended run) run.status one → HasChecked mode (begun again) (ended again) again.status other
      → ReadAlike one other → FindAlike one other

  abbrev pub FixFoundAlike : Type 0
  FixFoundAlike = (run again : RunOf O F V W) (one : CheckRun) (ends : EndsFixed (begun again) (ended again) again.status) → HoldAlike (begun run) (begun again) → AskAlike modes.Check modes.Fix (begun run) (begun again)
      → NothingRose (begun run) (ended run) → NothingRose (begun again) (ended again) → HasChecked modes.Check (begun run) (ended run) run.status one → FixAlike one ends.run ends.finishes

  module _ (one_table : OneTable) (texts others : List (List ℕ)) (status status_then : ℕ) (two : AreRunTwice opener_view folder_view vault_view sink_view texts others status status_then)
      (asks : AsksFor (commands.Check everything) texts) (found : status ≡ 1) where
    asks_here : AsksFor (commands.Check everything) two.run.texts
    asks_here = subst (AsksFor (commands.Check everything)) (sym two.texts_are) asks

    one : EndsChecked (begun two.run) (ended two.run) two.run.status
    one = ended_as (commands.Check everything) (begun two.run) (ended two.run) two.run.status two.hold.tells two.clauses.checked two.few asks_here

    some : 0 < count_by is_finding (events_found one.run)
    some = counted_some two.run.status one.has.output_failed (count_by is_finding (events_found one.run)) one.has.status_is (two.status_is ∙ found)

    stripe : 0 < length one.run.stripes
    stripe = some_stripe one_table (begun two.run) (ended two.run) two.run.status one.run two.hold.tells.tells asks_here two.well one.has two.holds

    pub found_and_fixed : FixFoundAlike → AsksFor (commands.Fix everything) others → AreFoundAndFixed opener_view folder_view vault_view sink_view status_then
    found_and_fixed law asks_fix =
        let asks_then : AsksFor (commands.Fix everything) two.again.texts = subst (AsksFor (commands.Fix everything)) (sym two.others_are) asks_fix in
        let ends : EndsFixed (begun two.again) (ended two.again) two.again.status
        = two.clauses_then.fixed two.hold.tells_then (ByStatus two.few_then) asks_then.asked everything asks_then.words asks_then.command_is in
        let ask : AskAlike modes.Check modes.Fix (begun two.run) (begun two.again) = asks_alike modes.Check modes.Fix (begun two.run) (begun two.again) asks_here asks_then in
        record {
          run = two.run;
          again = two.again;
          one = one.run;
          ends = ends;
          hold = two.hold;
          ask = ask;
          well = two.well;
          well_then = two.well_then;
          checked = one.has;
          found = two.status_is ∙ found;
          some = some;
          some_stripe = stripe;
          alike = law two.run two.again one.run ends two.hold ask two.well two.well_then one.has;
          status_is = two.status_then_is;
        }

    pub found_twice : IsDetermined → ChecksFoundAlike → ReadsFoundAlike → AsksFor (commands.Check everything) others → AreFoundTwice opener_view folder_view vault_view sink_view status_then
    found_twice determined law reads asks_check =
        let asks_then : AsksFor (commands.Check everything) two.again.texts = subst (AsksFor (commands.Check everything)) (sym two.others_are) asks_check in
        let other : EndsChecked (begun two.again) (ended two.again) two.again.status
        = ended_as (commands.Check everything) (begun two.again) (ended two.again) two.again.status two.hold.tells_then two.clauses_then.checked two.few_then asks_then in
        let ask : AskAlike modes.Check modes.Check (begun two.run) (begun two.again) = asks_alike modes.Check modes.Check (begun two.run) (begun two.again) asks_here asks_then in
        let read : ReadAlike one.run other.run
        = read_alike determined one_table modes.Check (begun two.run) (begun two.again) (ended two.run) (ended two.again) two.run.status two.again.status one.run other.run two.hold ask two.well two.well_then one.has other.has in
        record {
          run = two.run;
          again = two.again;
          one = one.run;
          other = other.run;
          hold = two.hold;
          ask = ask;
          well = two.well;
          well_then = two.well_then;
          checked = one.has;
          checked_then = other.has;
          some = some;
          some_stripe = stripe;
          alike = law modes.Check two.run two.again one.run other.run two.hold ask two.well two.well_then one.has other.has;
          read = read;
          found_alike = reads modes.Check two.run two.again one.run other.run one.has other.has read;
          status_is = two.status_then_is;
        }
