-- A run, from what it was given and what it loaded.
use Rattle.std.proofs.Common.{◌≡◌, inl, inr, ℕ, ◌≤◌, List, [], ◌∷◌, ◌++◌, length, map, take, Option, None, Some, Bool, ◌||◌, IsTrue, true, false, Ok, Err, refl, ap, ◌∙◌, sym, subst, arith, append_assoc}
use Rattle.std.specs.List.{list_any}
use Rattle.std.proofs.Math.Seq.{take-append_seam}
use Rattle.disk_model.specs.Cause.{RoseBy}
use Rattle.disk_model.specs.Files.{Files, Stays}
use Rattle.disk_model.specs.Folder.{FolderView}
use Rattle.disk_model.specs.Moments.{SameImages}
use Rattle.disk_model.specs.Opener.{OpenerView, HoldsSame}
use Rattle.disk_model.specs.Sink.{SinkView}
use Rattle.disk_model.specs.Vault.{VaultView, VaultState, VaultCall, writes_vault, copies_of, state_of, ChangesBy, Holds, IsSettled}
use Rattle.disk_model.proofs.CallsLemmas.{only_reads}
use Rattle.disk_model.proofs.GivenLemmas.{changes_held}
use Rattle.disk_model.proofs.VaultLemmas.{calls_then, stays_then}
use Rattle.content_file.specs.Load.{IsReadBelow}
use Rattle.content_file.specs.declared.loading.LoadFault.{LoadFault}
use Rattle.file_table.specs.Table.{TableValue}
use Rattle.file_table.specs.Valid.{IsValid}
use Rattle.array_setup.specs.Setup.{SetupValue, setup_value}
use Rattle.array_setup.specs.declared.setup.Setup.{Setup}
use Rattle.snap_report.specs.Answer.{IsCaused}
use Rattle.snap_report.specs.Report.{ReportView}
use Rattle.snap_report.specs.declared.answer.Answer.{Answer}
use Rattle.snap_report.specs.declared.answer.Answer.TheVariants.{Clean, Found, OutputFailed, Zeroed, Emptied, Full, Broken}
use Rattle.snap_report.specs.declared.answer.RunFault.TheVariants.{Folder, Vault, Memory}
use Rattle.snap_report.specs.declared.events.Event.{Event}
use Rattle.snap_report.proofs.ReportLemmas.{all_given_nothing}
use Rattle.snap_top.specs.Does.{Does, IsDone}
use Rattle.snap_top.specs.Task.{Task, Left, outside_of}
use Rattle.snap_top.specs.Effect.{effect}
use Rattle.snap_top.specs.Did.{Did, fixes, reads_only, scrubs, syncs}
use Rattle.content_file.specs.Spelling.{spelling}
use Rattle.content_file.proofs.SaveLemmas.{saves_nothing}
use Rattle.snap_sync.specs.Images.{Opening}
use Rattle.snap_scrub.specs.Course.{MayStandScrubbed}
use Rattle.snap_scrub.specs.Reading.{ScrubReading}
use Rattle.snap_top.specs.Scrub.{marked_table}
use Rattle.snap_top.specs.Levels.{by_levels, is_split, opener_by}
use Rattle.snap_top.specs.Opening.{IsGivenBy, Refuses}
use Rattle.snap_top.specs.Exercising.{AsksForExercise, Exercises}
use Rattle.snap_top.specs.Run.{Works, OnlyLoads, LoadsNot, BeginsNot, RanWith}
use Rattle.snap_top.specs.Entry.{at_entry, at_exit, Entry, exit_of}
use Rattle.snap_top.specs.Loading.{BeginsWith, LoadsFrom, LoadsInOrder, ReadsCopies}
use Rattle.snap_top.specs.Views.{WorldView, world_view, world_of, view_of}
use Rattle.snap_top.specs.declared.end.End.{End}
use Rattle.snap_top.specs.declared.end.End.TheVariants.{Exercised, Refused, Worked}
use Rattle.snap_top.specs.declared.end.Ending.{Ending}
use Rattle.snap_top.specs.declared.end.Ending.TheVariants.{NotLoaded, NoTable, OtherArray, Answered}
use Rattle.snap_top.specs.declared.end.Refusal.{Refusal}
use Rattle.std.proofs.lemmas.List.{length-map}
use Rattle.snap_top.proofs.DoneLemmas.{nothing_more}
use Rattle.snap_top.proofs.LevelsLemmas.{exercised_by, images_by, refused_by, settled_by}
use Rattle.snap_top.proofs.MatchingLemmas.{length-columns, length-disks}
use Rattle.snap_top.proofs.OpeningLemmas.{holds_start, no_calls_yet}
use Rattle.snap_top.proofs.ViewsLemmas.{all_read_nothing, sink_stays}

-- what a run did, it need not have done
pub stands_still : (did : Did) (files : Files) → (effect did).may_stand files files
stands_still reads_only files = refl
stands_still (syncs failed run) files = Opening (saves_nothing (spelling run.plan.start) files)
stands_still (fixes failed run) files = record { contents = refl; bytes = λ level at x outside has. has; grown = λ level at x outside has. inl has }
stands_still (scrubs failed run) files = marks_nothing run.readings
  where
    marks_nothing : (readings : List ScrubReading) → MayStandScrubbed (marked_table run) readings files files
    marks_nothing [] = refl
    marks_nothing (reading ∷ readings) = saves_nothing (spelling (marked_table run)) files

only_loads : (folders : List FolderView) (given mid : VaultView) (out : SinkView) → ReadsCopies (state_of given) (state_of mid) → OnlyLoads (world_of (world_view folders given out)) (world_of (world_view folders mid out))
only_loads folders given mid out reads = record { vault = reads; others = refl }

-- ---- a cause since loading is one since the opening

rose_before : (n a b c : ℕ) → a ≤ b → RoseBy n b c → RoseBy n a c
rose_before n a b c later rose = omega (arith, later, rose)

pub any_later : {A : Type 0} (test : A → Bool) (xs ys : List A) → IsTrue (list_any test ys) → IsTrue (list_any test (xs ++ ys))
any_later test [] ys is = is
any_later test (x ∷ xs) ys is = or_true (test x) (any_later test xs ys is)
  where
    or_true : (b : Bool) {c : Bool} → IsTrue c → IsTrue (b || c)
    or_true true holds = refl
    or_true false holds = holds

caused_before : (answer : Answer) (counted : ℕ) (told : List Event) (folders : List FolderView) (given mid : VaultView) (out : SinkView) (after : WorldView)
    → ReadsCopies (state_of given) (state_of mid) → (IsTrue after.vault.tells_calls → IsTrue mid.tells_calls)
    → IsCaused answer counted told (outside_of (world_of (world_view folders mid out))) (outside_of (world_of after))
    → IsCaused answer counted told (outside_of (world_of (world_view folders given out))) (outside_of (world_of after))
caused_before Clean counted told folders given mid out after reads tells cause = cause
caused_before Found counted told folders given mid out after reads tells cause = cause
caused_before OutputFailed counted told folders given mid out after reads tells cause = cause
caused_before (Zeroed disk rec) counted told folders given mid out after reads tells cause = tt
caused_before (Emptied disk) counted told folders given mid out after reads tells cause = tt
caused_before (Full blocks files) counted told folders given mid out after reads tells cause = tt
caused_before (Broken (Folder disk)) counted told folders given mid out after reads tells cause = cause
caused_before (Broken Vault) counted told folders given mid out after reads tells cause = record {
  rose = rose_before _ given.faults mid.faults after.vault.faults reads.calls.goes_on.later cause.rose;
  call = λ now.
      let gained = cause.call now in
      record {
        gained = reads.calls.done ++ gained.gained;
        now_is = gained.now_is ∙ ap (λ calls. calls ++ gained.gained) (reads.calls.goes_on.calls.more (tells now)) ∙ append_assoc given.calls reads.calls.done gained.gained;
        one = any_later _ reads.calls.done gained.gained gained.one;
      };
}
caused_before (Broken Memory) counted told folders given mid out after reads tells cause = tt

-- ---- the table that a command begins with has as many columns and levels as the configuration

table_fits : (setup : SetupValue) (seed : List ℕ) (loaded : Option TableValue) (table : TableValue) → BeginsWith setup seed loaded table → (length table.columns ≡ length setup.disks) × (table.shape.levels ≡ length setup.parts)
table_fits setup seed None table begins = (ap (λ (t : TableValue). length t.columns) begins ∙ length-map _ _, ap (λ (t : TableValue). t.shape.levels) begins)
table_fits setup seed (Some loaded) table begins =
    let names = ap length begins.1.names in
    (ap (λ (t : TableValue). length t.columns) begins.0 ∙ omega (arith, names, length-columns loaded, length-disks setup), ap (λ (t : TableValue). t.shape.levels) begins.0 ∙ begins.1.levels)

-- ---- what was only read

copy_leaves : (copies : ℕ) (call : VaultCall) → IsReadBelow copies call → writes_vault call ≡ false
copy_leaves copies call (copy, below, inl size) = ap writes_vault size
copy_leaves copies call (copy, below, inr read) = ap writes_vault read.3

-- content copies alone
copies_unwritten : (old new : VaultState) → ReadsCopies old new → new.writes ≡ old.writes
copies_unwritten old new reads = only_reads (IsReadBelow (copies_of (view_of old))) (view_of old) (view_of new) (copy_leaves (copies_of (view_of old))) reads.made

-- before a command
unwritten_before : (did : Did) (old mid new : VaultState) → mid.writes ≡ old.writes → (effect did).vault_after mid new → (effect did).vault_after old new
unwritten_before reads_only old mid new before after = after ∙ before
unwritten_before (syncs failed run) old mid new before after = tt
unwritten_before (fixes failed run) old mid new before after = tt
unwritten_before (scrubs failed run) old mid new before after = λ none. after none ∙ before

-- ---- after the opening

module _ {R : Type 0} (standing : R → ReportView) (stands : R → List Event → Type 0) where
  -- nothing was loaded
  pub not_loaded : (task : Task) (folders : List FolderView) (given mid : VaultView) (out : SinkView) (reports : List R) (fault : LoadFault)
      → ReadsCopies (state_of given) (state_of mid) → ChangesBy Stays given mid → LoadsNot fault (state_of given) (state_of mid) → LoadsInOrder (Err fault) (state_of given) (state_of mid)
      → Works standing stands task (world_view folders given out) (world_view folders mid out) reports reports (NotLoaded fault)
  not_loaded task folders given mid out reports fault reads changes fails order = record {
    told = [];
    did = reads_only;
    goes = ((refl, refl), only_loads folders given mid out reads, fails, order);
    changes = changes;
    ends = λ tells. nothing_more given.files mid;
    keeps = record { folders = all_read_nothing folders; vault = reads.calls; writes = copies_unwritten (state_of given) (state_of mid) reads; out = sink_stays out };
    reports = all_given_nothing standing stands reports;
  }

  -- there is no table to begin with
  pub not_begun : (task : Task) (folders : List FolderView) (given mid : VaultView) (out : SinkView) (reports : List R) (loaded : Option TableValue) (ending : Ending)
      → ReadsCopies (state_of given) (state_of mid) → ChangesBy Stays given mid → LoadsFrom (state_of given) (state_of mid) loaded → LoadsInOrder (Ok loaded) (state_of given) (state_of mid) → BeginsNot task.setup loaded ending
      → Works standing stands task (world_view folders given out) (world_view folders mid out) reports reports ending
  not_begun task folders given mid out reports loaded (NotLoaded fault) reads changes loads order why = absurd why
  not_begun task folders given mid out reports loaded NoTable reads changes loads order why = record {
    told = [];
    did = reads_only;
    goes = ((refl, refl), record { reads = only_loads folders given mid out reads; loads = subst (λ l. LoadsFrom (state_of given) (state_of mid) l) why loads; order = subst (λ l. LoadsInOrder (Ok l) (state_of given) (state_of mid)) why order });
    changes = changes;
    ends = λ tells. nothing_more given.files mid;
    keeps = record { folders = all_read_nothing folders; vault = reads.calls; writes = copies_unwritten (state_of given) (state_of mid) reads; out = sink_stays out };
    reports = all_given_nothing standing stands reports;
  }
  not_begun task folders given mid out reports loaded (OtherArray difference content) reads changes loads order why = record {
    told = [];
    did = reads_only;
    goes = ((refl, refl), record { reads = only_loads folders given mid out reads; loads = subst (λ l. LoadsFrom (state_of given) (state_of mid) l) why.0 loads; order = subst (λ l. LoadsInOrder (Ok l) (state_of given) (state_of mid)) why.0 order; differs = why.1 });
    changes = changes;
    ends = λ tells. nothing_more given.files mid;
    keeps = record { folders = all_read_nothing folders; vault = reads.calls; writes = copies_unwritten (state_of given) (state_of mid) reads; out = sink_stays out };
    reports = all_given_nothing standing stands reports;
  }
  not_begun task folders given mid out reports loaded (Answered answer named) reads changes loads order why = absurd why

  -- a command that was carried out after loading
  pub answered : (task : Task) (table : TableValue) (loaded : Option TableValue) (folders : List FolderView) (given mid : VaultView) (out : SinkView) (after : WorldView) (olds news : List R) (answer : Answer) (named : Option TableValue)
      → ReadsCopies (state_of given) (state_of mid) → ChangesBy Stays given mid → LoadsFrom (state_of given) (state_of mid) loaded → LoadsInOrder (Ok loaded) (state_of given) (state_of mid) → BeginsWith task.setup task.seed loaded table → IsValid table → length folders ≡ length task.setup.disks
      → IsDone standing stands task table (world_view folders mid out) after olds news answer named
      → Works standing stands task (world_view folders given out) after olds news (Answered answer named)
  answered task table loaded folders given mid out after olds news answer named reads changes loads order begins valid many done =
      let left = done.left in
      let same : left ≡ record { answer = answer; named = named; counted = left.counted; told = left.told }
      = ap (λ a. record { answer = a; named = left.named; counted = left.counted; told = left.told }) done.answer_is
      ∙ ap (λ n. record { answer = answer; named = n; counted = left.counted; told = left.told }) done.named_is in
      let tells : IsTrue after.vault.tells_calls → IsTrue mid.tells_calls = done.keeps.vault.goes_on.calls.told in
      record {
        told = left.told;
        did = done.did;
        goes = (
          left.counted,
          record {
            loaded = loaded;
            start = world_of (world_view folders mid out);
            reads = only_loads folders given mid out reads;
            loads = loads;
            order = order;
            table = table;
            begins = begins;
            valid = valid;
            columns = many ∙ sym (table_fits task.setup task.seed loaded table begins).0;
            does = subst (λ (l : Left). Does task table (world_of (world_view folders mid out)) (world_of after) l done.did) same done.does;
            caused = subst (λ (l : Left). IsCaused l.answer l.counted l.told (outside_of (world_of (world_view folders given out))) (outside_of (world_of after))) same
                (caused_before left.answer left.counted left.told folders given mid out after reads tells done.caused);
          },
        );
        changes = stays_then (effect done.did).may_stand given mid after.vault reads.calls.goes_on.tells changes done.changes (stands_still done.did);
        ends = λ told. subst (λ files. Holds ((effect done.did).stands_after files) after.vault) (reads.files told) (done.ends (reads.calls.goes_on.tells ∙ told));
        keeps = record {
          folders = done.keeps.folders;
          vault = calls_then (view_of (state_of given)) (view_of (state_of mid)) (view_of (state_of after.vault)) reads.calls done.keeps.vault;
          writes = unwritten_before done.did (state_of given) (state_of mid) (state_of after.vault) (copies_unwritten (state_of given) (state_of mid) reads) done.keeps.writes;
          out = done.keeps.out;
        };
        reports = done.reports;
      }

-- ---- the whole

-- what was lent and written stands in the place of what was there
pub written_back : {A : Type 0} (n : ℕ) (news olds : List A) → n ≡ length news → take n (news ++ olds) ≡ news
written_back n news olds is = ap (λ k. take k (news ++ olds)) is ∙ take-append_seam news olds

-- nothing of what was held is unsynced, as nothing of what was given is
settled_held : (held given : VaultView) → state_of given ≡ state_of held → SameImages held.images given.images → IsSettled given → IsSettled held
settled_held held given same images settled told files left =
    let moment = images.moment in
    settled (images.told ∙ told) files ((images.since given.images.moment files).1 (subst (λ m. held.images.since m files) (sym moment) left)) ∙ ap (λ (s : VaultState). s.files) same

-- A run that opened its array, by its levels. What was opened was lent, and what came of it was written back.
pub opened_runs : {F R : Type 0} (standing : R → ReportView) (stands : R → List Event → Type 0) (view : F → FolderView) (task : Task) (setup : Setup) (texts : List (List ℕ)) (seed : List ℕ) (moment : ℕ)
    (old new : OpenerView) (opened lent news items : List F) (given vault : VaultView) (out out_new : SinkView) (reports reports_new : List R) (ending : Ending)
    → task.setup ≡ setup_value setup → task.moment ≡ moment → task.seed ≡ seed
    → lent ≡ opened → items ≡ news → IsGivenBy texts old new task.command task.readers (setup_value setup) (map view opened) given → (IsTrue old.tells → SameImages old.vault.images given.images) → IsSettled given
    → Works standing stands task (world_view (map view lent) (by_levels (setup_value setup) given) out) (world_view (map view news) (by_levels (setup_value setup) vault) out_new) reports reports_new ending
    → RanWith standing stands (at_entry texts old out moment seed) (at_exit new true (world_view (map view items) vault out_new)) reports reports_new (Worked setup ending)
opened_runs standing stands view task setup texts seed moment old new opened lent news items given vault out out_new reports reports_new ending setup_is moment_is seed_is lent_is items_are is_given images settled works =
    let value : SetupValue = setup_value setup in
    let split : Bool = is_split value.parts in
    let same : IsTrue old.tells → SameImages (by_levels value old.vault).images (by_levels value given).images
    = λ told. images_by split value.parts value.split old.vault given (images told) in
    let fresh : IsSettled (by_levels value given) = settled_by split value.parts value.split given settled in
    subst (λ fs. RanWith standing stands (at_entry texts old out moment seed) (at_exit new true (world_view (map view fs) vault out_new)) reports reports_new (Worked setup ending)) (sym items_are) (record {
      told = works.told;
      ran = record {
        task = task;
        setup_is = setup_is;
        moment_is = moment_is;
        seed_is = seed_is;
        given = world_of (world_view (map view lent) (by_levels value given) out);
        is_given = subst (λ fs. IsGivenBy texts old new task.command task.readers value (map view fs) given) (sym lent_is) is_given;
        given_out = refl;
        has_vault = refl;
        did = works.did;
        goes = works.goes;
        keeps = works.keeps;
        settled = λ told. settled_held (by_levels value old.vault) (by_levels value given) (is_given.state.whole told) (same told) fresh;
        changes = λ told. changes_held (effect works.did).may_stand (by_levels value old.vault) (by_levels value given) (by_levels value vault) (is_given.state.whole told) (same told) works.changes;
        ends = λ told tells. let state = is_given.state.whole told in
            subst (λ (s : VaultState). Holds ((effect works.did).stands_after s.files) (by_levels value vault)) state (works.ends (ap (λ (s : VaultState). s.tells) state ∙ tells));
      };
      reports = works.reports;
    })

-- A run that opened nothing.
pub refused_runs : {F R : Type 0} (standing : R → ReportView) (stands : R → List Event → Type 0) (view : F → FolderView) (texts : List (List ℕ)) (seed : List ℕ) (moment : ℕ)
    (old new : OpenerView) (items : List F) (out : SinkView) (reports : List R) (why : Refusal)
    → items ≡ [] → Refuses texts old new why → HoldsSame old new
    → RanWith standing stands (at_entry texts old out moment seed) (at_exit new false (world_view (map view items) new.vault out)) reports reports (Refused why)
refused_runs standing stands view texts seed moment old new items out reports why none refuses kept = record {
  told = [];
  ran = refused_by None (at_entry texts old out moment seed) (at_exit new false (world_view (map view items) new.vault out)) why [] (record {
    refuses = refuses;
    kept = kept;
    folders = ap (map view) none;
    no_vault = refl;
    vault = kept.array.vault;
    out = refl;
    untold = refl;
  });
  reports = all_given_nothing standing stands reports;
}

-- A run that exercised.
pub exercised_runs : {F R : Type 0} (standing : R → ReportView) (stands : R → List Event → Type 0) (view : F → FolderView) (texts : List (List ℕ)) (seed : List ℕ) (moment : ℕ)
    (opener : OpenerView) (items : List F) (out out_new : SinkView) (reports : List R) (n : ℕ) (answer : Answer)
    → items ≡ [] → AsksForExercise texts n → Exercises n out out_new answer
    → RanWith standing stands (at_entry texts opener out moment seed) (at_exit opener false (world_view (map view items) opener.vault out_new)) reports reports (Exercised answer)
exercised_runs standing stands view texts seed moment opener items out out_new reports n answer none asks exercises = record {
  told = [];
  ran = exercised_by None (at_entry texts opener out moment seed) (at_exit opener false (world_view (map view items) opener.vault out_new)) answer [] (record {
    number = n;
    asks = asks;
    exercises = exercises;
    uncalled = no_calls_yet opener;
    unfailed = refl;
    kept = holds_start opener;
    folders = ap (map view) none;
    no_vault = refl;
    vault = (holds_start opener).array.vault;
    untold = refl;
  });
  reports = all_given_nothing standing stands reports;
}

-- A run that opened nothing, by what it hands out.
pub unopened_runs : {F V R : Type 0} (standing : R → ReportView) (stands : R → List Event → Type 0) (folder_view : F → FolderView) (vault_view : V → VaultView) (before : Entry) (opener : OpenerView)
    (out : SinkView) (olds news : List R) (end made : End) (folders : List F) (vault : Option V) → made ≡ end → folders ≡ [] → vault ≡ None
    → RanWith standing stands before (at_exit opener false (world_view [] opener.vault out)) olds news end
    → RanWith standing stands before (exit_of folder_view vault_view opener folders vault out) olds news made
unopened_runs {F} {V} standing stands folder_view vault_view before opener out olds news end made folders vault made_is none unheld ran =
    subst (λ (e : End). RanWith standing stands before (exit_of folder_view vault_view opener folders vault out) olds news e) (sym made_is)
    (subst (λ (fs : List F). RanWith standing stands before (exit_of folder_view vault_view opener fs vault out) olds news end) (sym none)
    (subst (λ (v : Option V). RanWith standing stands before (exit_of folder_view vault_view opener [] v out) olds news end) (sym unheld) ran))
