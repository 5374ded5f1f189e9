-- An audit that ended with status 1 found something.
use Rattle.std.proofs.Common.{◌≡◌, ℕ, ◌<◌, ◌≤◌, List, count_by, true, sym, ◌∙◌, subst, arith}
use Rattle.disk_model.specs.Folder.{FolderView}
use Rattle.disk_model.specs.Opener.{OpenerView}
use Rattle.disk_model.specs.Sink.{SinkView}
use Rattle.disk_model.specs.Vault.{VaultView}
use Rattle.snap_config.specs.declared.options.Command.TheVariants as commands
use Rattle.snap_fix.specs.Audited.{FindsNothing}
use Rattle.snap_report.specs.Kind.{is_finding}
use Rattle.snap_top.specs.Ended.{ByStatus}
use Rattle.snap_top.specs.Naming.{EndsAudited, events_found}
use Rattle.snap_top.specs.RunOf.{RunOf}
use Rattle.snap_top.specs.Entry.{Entry, Exit}
use Rattle.snap_top.specs.Standing.{after_of, before_of, nothing_synced}
use Rattle.snap_top_histories.specs.Repeated.{are_calm}
use Rattle.snap_top_histories.proofs.RepeatedLemmas.{nothing_rose}
use Rattle.snap_top_instances.specs.Asked.{AsksFor, everything}
use Rattle.snap_top_pairs.specs.Audited.{IsAudited}
use Rattle.snap_top_instances.specs.Told.{RunsTold}
use Rattle.snap_top_instances.proofs.EndsLemmas.{counted_some, ended_as}

not_none : (count : ℕ) → 0 < count → count ≡ 0 → ⊥
not_none count some none = omega (arith, some, none)

audit_found : (before : Entry) (exit : Exit) (status : ℕ) (ends : EndsAudited before exit status) → status ≡ 1 → ¬ (FindsNothing ends.run.plan ends.run.stripes)
audit_found before exit status ends one nothing =
    let count : ℕ = count_by is_finding (events_found ends.run) in
    not_none count (counted_some status ends.has.output_failed count ends.has.status_is one) (ends.clean.1 nothing)

few_one : (status : ℕ) → status ≡ 1 → status ≤ 1
few_one status one = omega (arith, one)

module _ {O F V W : Type 0} (opener_view : O → OpenerView) (folder_view : F → FolderView) (vault_view : V → VaultView) (sink_view : W → SinkView) where
  abbrev begun : RunOf O F V W → Entry
  begun run = before_of opener_view folder_view vault_view sink_view run

  abbrev ended : RunOf O F V W → Exit
  ended run = after_of opener_view folder_view vault_view sink_view run

  pub audited : (config : List ℕ) (texts : List (List ℕ)) (seed : List ℕ) (folders : List FolderView) (vault : VaultView) (status : ℕ) (left_folders : List F) (left : V) (printed : List ℕ) → AsksFor (commands.Audit everything) texts
      → RunsTold opener_view folder_view vault_view sink_view config texts seed folders vault status left_folders left printed
      → (vault_view left).faults ≡ 0 → are_calm folder_view left_folders ≡ true → status ≡ 1 → IsAudited opener_view folder_view vault_view sink_view status
  audited config texts seed folders vault status left_folders left printed asks runs faults calm found =
      let run : RunOf O F V W = runs.over.run in
      let tells = (runs.over.begins nothing_synced).tells in
      let one : run.status ≡ 1 = runs.over.status_is ∙ found in
      let few : run.status ≤ 1 = few_one run.status one in
      let asks_here : AsksFor (commands.Audit everything) run.texts = subst (AsksFor (commands.Audit everything)) (sym runs.over.texts_are) asks in
      let ends : EndsAudited (begun run) (ended run) run.status = ended_as (commands.Audit everything) (begun run) (ended run) run.status tells runs.clauses.checked few asks_here in
      record {
        run = run;
        selection = everything;
        asked = asks_here.asked;
        words = asks_here.words;
        command_is = asks_here.command_is;
        tells = tells;
        went = ByStatus few;
        well = nothing_rose opener_view folder_view vault_view sink_view config texts seed folders vault status left_folders left runs.over faults calm;
        ends = ends;
        found = audit_found (begun run) (ended run) run.status ends one;
        status_is = runs.over.status_is;
      }
