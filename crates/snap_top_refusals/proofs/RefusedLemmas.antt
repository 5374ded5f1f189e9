-- A run that is refused touches nothing, over what stands after a history and before anything is opened.
use Rattle.std.proofs.Common.{◌≡◌, ◌≢◌, ◌⊎◌, inl, inr, ℕ, ◌<◌, List, [], ◌∷◌, ◌++◌, length, map, get_or, is_some, true, false, IsTrue, Option, None, Some, refl, sym, ap, ◌∙◌, subst, arith}
use Rattle.std.specs.FinMap as finite_map
use Rattle.content_file.specs.Load.{IsDamaged, IsUseless, LoadIsDamaged}
use Rattle.content_file.specs.declared.fault.Damage.{Damage}
use Rattle.disk_model.specs.Files.{Files, content_of}
use Rattle.disk_model.specs.Folder.{FolderView}
use Rattle.disk_model.specs.Opener.{OpenerView}
use Rattle.disk_model.specs.Sink.{SinkView}
use Rattle.disk_model.specs.Tree.{File, Tree, file_of}
use Rattle.disk_model.specs.Vault.{VaultView, copies_of}
use Rattle.disk_model.proofs.TreeLemmas.{set_here}
use Rattle.disk_memory.specs.Opener.{IsFreshOpener}
use Rattle.disk_memory.specs.Vault.{VaultValue, fresh_vault, view_of as opened_view}
use Rattle.snap_report.specs.Answer.{status_of as answer_status}
use Rattle.snap_report.specs.declared.answer.Answer.{Answer}
use Rattle.snap_report.specs.declared.answer.Answer.TheVariants as answers
use Rattle.snap_report.specs.declared.events.Event.{Event}
use Rattle.snap_sync.specs.Part.{trees_of}
use Rattle.snap_top.specs.BrokeOff.{EndedEarly, WasRefused, WasUndone, is_undone}
use Rattle.snap_top.specs.Complete.{RefusalsTouchNothing, TouchesNothing}
use Rattle.snap_top.specs.End.{ending_status, status_of}
use Rattle.snap_top.specs.Exercising.{Exercises}
use Rattle.snap_top.specs.LastSynced.{LastSynced}
use Rattle.snap_top.specs.Levels.{said_by}
use Rattle.snap_top.specs.RunOf.{RunOf}
use Rattle.snap_top.specs.Run.{HasAccount, IsAccounted, Ran}
use Rattle.snap_top.specs.Entry.{Entry, Exit}
use Rattle.snap_top.specs.Step.{RunStep}
use Rattle.snap_top.specs.Standing.{BeginsOver, Damages, IsChanged, IsHistory, IsOrigin, Stage, Standing, after_of, before_of, nothing_synced}
use Rattle.snap_top.specs.Effect.{effect}
use Rattle.snap_top.specs.Sync.{HoldsNoContent, IsFirstContent}
use Rattle.snap_top.specs.Did.{Did}
use Rattle.snap_top.specs.Views.{world_of}
use Rattle.snap_top.specs.declared.end.End.{End}
use Rattle.snap_top.specs.declared.end.End.TheVariants.{Exercised, Refused, Worked}
use Rattle.snap_top.specs.declared.end.Ending.{Ending}
use Rattle.snap_top.specs.declared.end.Ending.TheVariants.{Answered, NoTable, NotLoaded, OtherArray}
use Rattle.array_setup.specs.Setup.{setup_value}
use Rattle.snap_top.proofs.RefusalLemmas.{done_is_no_refusal, ending_untouched}
use Rattle.snap_top_histories.specs.Lived.{HasHistory, IsLeftOf, IsNew, files_seen, standing_of}
use Rattle.snap_top_histories.proofs.LivedLemmas.{extended}
use Rattle.snap_top_histories.proofs.ResumedLemmas.{HoldsAlways, begins_nothing}
use Rattle.snap_top_histories.proofs.SeenLemmas.{contents_seen}
use Rattle.snap_top_refusals.specs.Refused.{HasDamage, IsRefusedOver, IsRefusedOverContent, IsRefusedOverDamage, IsRefusedUnopened}
use Rattle.snap_top_instances.specs.Smooth.{HasRecord}
use Rattle.snap_top_instances.specs.Told.{HoldsFile, RunsTold}
use Rattle.snap_top_instances.proofs.SmoothLemmas.{content_by, useless_holds_none}
use Rattle.snap_top_instances.proofs.ToldLemmas.{first_holds}

-- ---- the end of a run that is refused

no_refusal : (n : ℕ) → n ≢ 2 → n ≢ 5 → (n ≡ 2) ⊎ (n ≡ 5) → ⊥
no_refusal n two five (inl is) = two is
no_refusal n two five (inr is) = five is

-- a command that is refused did not come to its end
undone : (ending : Ending) → (ending_status ending ≡ 2) ⊎ (ending_status ending ≡ 5) → is_undone ending ≡ true
undone (NotLoaded fault) refused = refl
undone NoTable refused = refl
undone (OtherArray difference content) refused = refl
undone (Answered answers.Clean named) refused = absurd (no_refusal 0 (omega arith) (omega arith) refused)
undone (Answered answers.Found named) refused = absurd (no_refusal 1 (omega arith) (omega arith) refused)
undone (Answered answers.OutputFailed named) refused = absurd (no_refusal 3 (omega arith) (omega arith) refused)
undone (Answered (answers.Zeroed disk rec) named) refused = refl
undone (Answered (answers.Emptied disk) named) refused = refl
undone (Answered (answers.Full blocks files) named) refused = refl
undone (Answered (answers.Broken _) named) refused = refl

-- no exercise is refused
no_exercise : (n : ℕ) (out out_new : SinkView) (answer : Answer) → Exercises n out out_new answer → (answer_status answer ≡ 2) ⊎ (answer_status answer ≡ 5) → ⊥
no_exercise n out out_new answer (inl printed) refused =
    done_is_no_refusal _ printed.prints.failed (subst (λ (a : Answer). (answer_status a ≡ 2) ⊎ (answer_status a ≡ 5)) printed.prints.answer_is refused)
no_exercise n out out_new answer (inr ran_out) refused =
    no_refusal 4 (omega arith) (omega arith) (subst (λ (a : Answer). (answer_status a ≡ 2) ⊎ (answer_status a ≡ 5)) ran_out.answer_is refused)

early_end : (before : Entry) (exit : Exit) (end : End) (told : List Event) → Ran before exit end told → (status_of end ≡ 2) ⊎ (status_of end ≡ 5) → EndedEarly before exit
early_end before exit (Refused why) told ran refused = WasRefused why told ran
early_end before exit (Worked setup ending) told ran refused =
    WasUndone (setup_value setup) ending told ran (undone ending refused) (ending_untouched ending ran.task ran.given (world_of exit.after) told ran.did ran.goes refused).did_is
early_end before exit (Exercised answer) told ran refused = absurd (no_exercise ran.number before.out exit.after.out answer ran.exercises refused)

early_of : (before : Entry) (exit : Exit) (status : ℕ) → HasAccount before exit status → (status ≡ 2) ⊎ (status ≡ 5) → EndedEarly before exit
early_of before exit status account refused =
    early_end before exit account.end account.told account.ran (subst (λ (n : ℕ). (n ≡ 2) ⊎ (n ≡ 5)) account.status_is refused)

-- ---- what stood in the copies

-- what a stop leaves of a vault that was just opened is what it held
left_same : (vault made : VaultView) → IsNew vault → IsLeftOf vault made → made.files ≡ vault.files
left_same vault made is_new left =
    is_new.settled left.told made.files (subst (λ (m : ℕ). vault.images.since m made.files) (sym is_new.moment) left.left)

-- by the levels of a configuration each copy is the same
copy_seen : (config : List ℕ) (vault : VaultView) (copy : ℕ) → content_of (files_seen config vault) copy ≡ content_of vault.files copy
copy_seen config vault copy = ap (λ (contents : List (Option (List ℕ))). get_or contents copy None) (contents_seen (said_by config) vault)

none_seen : (config : List ℕ) (vault : VaultView) (copy : ℕ) → HoldsNoContent vault.files copy → HoldsNoContent (files_seen config vault) copy
none_seen config vault copy none bytes is = none bytes (sym (copy_seen config vault copy) ∙ is)

-- copies that were found damaged
pub found_damaged : (old new : VaultView) (damages : List (ℕ × Damage)) → IsTrue old.tells → LoadIsDamaged old new damages → HasDamage old
found_damaged old new damages tells is =
    let one = is.some tells in
    record {
      copy = one.0;
      within = one.1;
      damaged = one.2;
      none = λ k below. useless_holds_none old k (is.useless tells k below);
    }

-- where no copy is a content file any more, that is a change of the copies
no_copy_left : (config : List ℕ) (folders : List FolderView) (old new : VaultView) (last : LastSynced) → ((k : ℕ) → k < copies_of new → HoldsNoContent new.files k)
    → IsChanged (standing_of config folders old last) (standing_of config folders new last)
no_copy_left config folders old new last none = record {
  snapshot = refl;
  change = record {
    contents = λ copy below. inr (none_seen config new copy (none copy below));
    counted = λ stripe level is. is;
    parity = λ copy table stripe level below valid spells is. absurd (none_seen config new copy (none copy below) _ spells (record { table = table; valid = valid; spelled = refl }));
  };
}

-- ---- a disk with a file

is_there : (tree other : Tree) (path : List ℕ) (file : File) → tree ≡ finite_map.insert other path file → file_of tree path ≢ None
is_there tree other path file is none =
    let clash : Some file ≡ None = sym (set_here other path file) ∙ ap (λ (it : Tree). file_of it path) (sym is) ∙ none in
    cc

pub one_file : {F : Type 0} (folder_view : F → FolderView) (folders : List F) (folder : F) (other : Tree) (path : List ℕ) (file : File) → folders ≡ folder ∷ []
    → (folder_view folder).tree ≡ finite_map.insert other path file → HoldsFile (map folder_view folders)
one_file folder_view folders folder other path file same is =
    let one : 0 < length (folder ∷ []) = omega arith in
    first_holds folder_view folders folder folder path (subst (λ (n : ℕ). 0 < n) (sym (ap length same)) one) (sym (ap (λ it. get_or it 0 folder) same)) (is_there (folder_view folder).tree other path file is)

-- an opener that was given it holds it
pub opener_holds : (config : List ℕ) (folders : List FolderView) (vault : VaultView) (opener : OpenerView) → IsFreshOpener config folders vault opener → HoldsFile folders → HoldsFile opener.folders
opener_holds config folders vault opener fresh holds = subst HoldsFile (sym fresh.folders_are) holds

module _ {O F V W : Type 0} (opener_view : O → OpenerView) (folder_view : F → FolderView) (vault_view : V → VaultView) (sink_view : W → SinkView) where
  abbrev begun : RunOf O F V W → Entry
  begun run = before_of opener_view folder_view vault_view sink_view run

  abbrev ended : RunOf O F V W → Exit
  ended run = after_of opener_view folder_view vault_view sink_view run

  -- what the law says of a run that ended early
  abbrev pub PrintsNothing : Type 0
  PrintsNothing = (run : RunOf O F V W) → EndedEarly (begun run) (ended run) → (ended run).after.out ≡ (begun run).out

  module _ (config : List ℕ) (texts : List (List ℕ)) (seed : List ℕ) (folders : List FolderView) (vault : VaultView) (status : ℕ) (left_folders : List F) (left : V) (printed : List ℕ)
      (holds : HoldsAlways opener_view folder_view vault_view sink_view) (prints : PrintsNothing)
      (runs : RunsTold opener_view folder_view vault_view sink_view config texts seed folders vault status left_folders left printed) (refuses : (status ≡ 2) ⊎ (status ≡ 5)) where
    refused_over : (first : Standing) (stages : List (Stage O F V W)) (last : LastSynced) → IsOrigin first
        → IsHistory opener_view folder_view vault_view sink_view first stages (standing_of config folders vault last)
        → IsRefusedOver opener_view folder_view vault_view sink_view (standing_of config folders vault last) status
    refused_over first stages last origin history =
        let standing : Standing = standing_of config folders vault last in
        let run : RunOf O F V W = runs.over.run in
        let begins = runs.over.begins last in
        let step = runs.over.step in
        let refused : (run.status ≡ 2) ⊎ (run.status ≡ 5) = subst (λ (n : ℕ). (n ≡ 2) ⊎ (n ≡ 5)) (sym runs.over.status_is) refuses in
        let opened : (ended run).has_vault ≡ true = ap (λ (v : Option V). is_some v) runs.over.vault_is in
        let headline = holds first standing stages origin history in
        let genuine : (effect step.always.did).meets_no_chance last.snapshot = subst (λ (did : Did). (effect did).meets_no_chance last.snapshot) (sym (step.refused refused)) tt in
        let at_end = headline.arrives run begins step opened genuine in
        let untouched : TouchesNothing (begun run) (ended run) = runs.clauses.refused refused in
        let early : EndedEarly (begun run) (ended run) = early_of (begun run) (ended run) run.status (runs.account begins.tells.tells) refused in
        record {
          first = first;
          next = at_end.0;
          stages = stages;
          run = run;
          origin = origin;
          history = history;
          goes = at_end.3;
          refused = refused;
          opened = opened;
          untouched = untouched;
          changes = untouched.opened opened begins.tells.tells;
          read_only = at_end.3.step.refused refused;
          early = early;
          out = prints run early;
          stays = headline.quiet run at_end.0 at_end.3 (inl refused);
          status_is = runs.over.status_is;
        }

    pub refused_over_content : (statuses : List ℕ) (seen : VaultView) → HasHistory opener_view folder_view vault_view sink_view config folders vault statuses → IsNew vault → IsLeftOf vault seen
        → HasRecord seen → IsRefusedOverContent opener_view folder_view vault_view sink_view status
    refused_over_content statuses seen has is_new left_of record_there =
        let standing : Standing = standing_of config folders vault has.last in
        let same : seen.files ≡ vault.files = left_same vault seen is_new left_of in
        record {
          standing = standing;
          table = record_there.table;
          over = refused_over has.first has.stages has.last has.origin has.history;
          content = content_by (copies_of seen) standing.copies seen.files standing.files record_there.table left_of.copies
              (contents_seen (said_by config) vault ∙ ap (λ (files : Files). files.contents) (sym same)) record_there.content;
          has_record = record_there.some;
        }

  pub refused_over_damage : (config : List ℕ) (texts : List (List ℕ)) (seed : List ℕ) (folders : List FolderView) (vault : VaultView) (seen value : VaultValue) (statuses : List ℕ)
      (status : ℕ) (left_folders : List F) (left : V) (printed : List ℕ)
      → HoldsAlways opener_view folder_view vault_view sink_view → PrintsNothing → HasHistory opener_view folder_view vault_view sink_view config folders vault statuses
      → seen ≡ value → copies_of (opened_view value) ≡ copies_of vault → HasDamage (opened_view seen)
      → RunsTold opener_view folder_view vault_view sink_view config texts seed folders (opened_view value) status left_folders left printed → (status ≡ 2) ⊎ (status ≡ 5)
      → IsRefusedOverDamage opener_view folder_view vault_view sink_view status
  refused_over_damage config texts seed folders vault seen value statuses status left_folders left printed holds prints has same as_many damage_seen runs refuses =
      let made : VaultView = opened_view value in
      let damage : HasDamage made = subst (λ (v : VaultValue). HasDamage (opened_view v)) same damage_seen in
      let standing : Standing = standing_of config folders vault has.last in
      let next : Standing = standing_of config folders made has.last in
      let stage : Stage O F V W = record { change = Damages; next = next } in
      let array : next ≡ record standing { files = next.files; last = next.last }
      = ap (λ (n : ℕ). record { config = config; trees = trees_of folders; copies = n; files = files_seen config made; last = has.last }) as_many in
      let history = extended opener_view folder_view vault_view sink_view has.first standing next has.stages Damages has.history (array, no_copy_left config folders vault made has.last damage.none) in
      record {
        standing = next;
        over = refused_over config texts seed folders made status left_folders left printed holds prints runs refuses has.first (has.stages ++ stage ∷ []) has.last has.origin history;
        copy = damage.copy;
        bytes = damage.damaged.bytes;
        within = damage.within;
        held = copy_seen config made damage.copy ∙ damage.damaged.held;
        damaged = damage.damaged.damaged;
        none = λ k below. none_seen config made k (damage.none k below);
      }

  pub refused_unopened : (config : List ℕ) (folders : List FolderView) (levels copies : ℕ) (value : VaultValue) (run : RunOf O F V W) → value ≡ fresh_vault levels copies
      → BeginsOver (standing_of config folders (opened_view value) nothing_synced) (begun run) → RunStep (begun run) (ended run) run.status
      → HoldsAlways opener_view folder_view vault_view sink_view → PrintsNothing → IsAccounted (begun run) (ended run) run.status → RefusalsTouchNothing (begun run) (ended run) run.status
      → (run.status ≡ 2) ⊎ (run.status ≡ 5) → HoldsFile (begun run).opener.folders → (ended run).has_vault ≡ false → IsRefusedUnopened opener_view folder_view vault_view sink_view run.status
  refused_unopened config folders levels copies value run fresh begins step holds prints account touches refused some unopened =
      let standing : Standing = standing_of config folders (opened_view value) nothing_synced in
      let origin : IsOrigin standing = begins_nothing opener_view folder_view vault_view sink_view config folders levels copies value fresh in
      let untouched : TouchesNothing (begun run) (ended run) = touches refused in
      let early : EndedEarly (begun run) (ended run) = early_of (begun run) (ended run) run.status (account begins.tells.tells) refused in
      record {
        standing = standing;
        run = run;
        origin = origin;
        begins = begins;
        step = step;
        refused = refused;
        some = some;
        unopened = unopened;
        untouched = untouched;
        holds = untouched.unopened unopened;
        stands = (holds standing standing [] origin refl).unopened run begins step unopened;
        early = early;
        out = prints run early;
        status_is = refl;
      }
