-- What each command leaves, as one that was carried out: one lemma for each command.
use Rattle.std.proofs.Common.{◌≡◌, ⊎_elim, inl, inr, ℕ, ◌==◌, List, [], Bool, true, false, IsTrue, None, ap, arith, refl, sym, subst}
use Rattle.std.proofs.lemmas.Bool.Decides.{Decides-eqb}
use Rattle.disk_model.specs.Cause.{Rose}
use Rattle.disk_model.specs.Files.{Files, Stays}
use Rattle.disk_model.specs.Folder.{FolderView}
use Rattle.disk_model.specs.Sink.{SinkGoesOn, SinkView}
use Rattle.disk_model.specs.Vault.{VaultView, Holds, state_of}
use Rattle.disk_model.proofs.VaultLemmas.{no_calls, changes_start}
use Rattle.file_table.specs.Table.{TableValue}
use Rattle.snap_config.specs.declared.options.Command.{Command}
use Rattle.snap_config.specs.declared.options.Command.TheVariants as commands
use Rattle.snap_report.specs.Answer.{Outside, IsCaused, done_answer}
use Rattle.snap_report.specs.ListText.{list_text}
use Rattle.snap_report.specs.Report.{ReportView}
use Rattle.snap_report.specs.StatusText.{status_text, bad_in}
use Rattle.snap_report.specs.declared.answer.Answer.{Answer}
use Rattle.snap_report.specs.declared.answer.Answer.TheVariants.{Broken}
use Rattle.snap_report.specs.declared.answer.RunFault.TheVariants.{Memory}
use Rattle.snap_report.specs.declared.events.Event.{Event}
use Rattle.snap_report.proofs.ReportLemmas.{all_given_nothing}
use Rattle.snap_top.specs.Does.{PrintsAlone, StaysIdle, DoesCommand, IsDone}
use Rattle.snap_top.specs.Dup.{ListsPairs, dup_text}
use Rattle.snap_top.specs.Exercising.{RanOut}
use Rattle.snap_top.specs.Task.{Task, Left, Prints, outside_of}
use Rattle.snap_top.specs.Effect.{effect}
use Rattle.snap_top.specs.Did.{reads_only}
use Rattle.snap_top.specs.Views.{world_view, world_of, view_of}
use Rattle.snap_top.proofs.ViewsLemmas.{all_read_nothing, sink_stays}

-- the answer of an engine that is done has its cause
by_count : (counted : ℕ) (none : Bool) → (counted == 0) ≡ none → (told : List Event) (old new : Outside) → IsCaused (done_answer counted false) counted told old new
by_count counted true is told old new = rw is ((Decides-eqb counted 0).0 is)
by_count counted false is told old new = rw is (let some : counted ≡ 0 → false ≡ true = λ none. rw (← is) ((Decides-eqb counted 0).1 none) in grind (arith, some))

pub by_output : (counted : ℕ) (failed : Bool) (told : List Event) (old new : Outside) → (IsTrue failed → Rose old.output_faults new.output_faults) → IsCaused (done_answer counted failed) counted told old new
by_output counted true told old new cause = cause refl
by_output counted false told old new cause = by_count counted (counted == 0) refl told old new

-- a run that only read leaves nothing besides
pub nothing_more : (files : Files) (v : VaultView) → Holds ((effect reads_only).stands_after files) v
nothing_more files v = record { reads = λ told. tt; leaves = λ told left may. tt }

module _ {R : Type 0} (standing : R → ReportView) (stands : R → List Event → Type 0) where
  -- a command that prints a text, and touches nothing else
  printed : (task : Task) (table : TableValue) (text : List ℕ) (counted : ℕ) (folders : List FolderView) (vault : VaultView) (out out_new : SinkView) (reports : List R) (answer : Answer)
      → Prints text counted out out_new answer
      → (PrintsAlone text counted (world_of (world_view folders vault out)) (world_of (world_view folders vault out_new)) (record { answer = answer; named = None; counted = counted; told = [] }) reads_only
      → DoesCommand task.command task table (world_of (world_view folders vault out)) (world_of (world_view folders vault out_new)) (record { answer = answer; named = None; counted = counted; told = [] }) reads_only)
      → IsDone standing stands task table (world_view folders vault out) (world_view folders vault out_new) reports reports answer None
  printed task table text counted folders vault out out_new reports answer prints does = record {
    left = record { answer = answer; named = None; counted = counted; told = [] };
    answer_is = refl;
    named_is = refl;
    did = reads_only;
    does = does (record { did_is = refl; others = refl; left_is = refl; prints = prints });
    changes = changes_start Stays vault (λ files. refl);
    ends = λ tells. nothing_more vault.files vault;
    caused =
        let old = outside_of (world_of (world_view folders vault out)) in
        let new = outside_of (world_of (world_view folders vault out_new)) in
        subst (λ a. IsCaused a counted [] old new) (sym prints.answer_is) (by_output counted prints.failed [] old new (λ failed. prints.told.cause refl failed));
    keeps = record { folders = all_read_nothing folders; vault = no_calls (view_of (state_of vault)); writes = refl; out = prints.told.goes_on };
    reports = all_given_nothing standing stands reports;
  }

  pub list_done : (task : Task) (table : TableValue) (folders : List FolderView) (vault : VaultView) (out out_new : SinkView) (reports : List R) (answer : Answer)
      → task.command ≡ commands.List → Prints (list_text table.columns) 0 out out_new answer
      → IsDone standing stands task table (world_view folders vault out) (world_view folders vault out_new) reports reports answer None
  list_done task table folders vault out out_new reports answer command prints =
      printed task table (list_text table.columns) 0 folders vault out out_new reports answer prints
      (λ alone. subst (λ (c : Command). DoesCommand c task table (world_of (world_view folders vault out)) (world_of (world_view folders vault out_new)) (record { answer = answer; named = None; counted = 0; told = [] }) reads_only) (sym command) alone)

  pub status_done : (task : Task) (table : TableValue) (folders : List FolderView) (vault : VaultView) (out out_new : SinkView) (reports : List R) (answer : Answer)
      → task.command ≡ commands.Status → Prints (status_text table) (bad_in table.infos) out out_new answer
      → IsDone standing stands task table (world_view folders vault out) (world_view folders vault out_new) reports reports answer None
  status_done task table folders vault out out_new reports answer command prints =
      printed task table (status_text table) (bad_in table.infos) folders vault out out_new reports answer prints
      (λ alone. subst (λ (c : Command). DoesCommand c task table (world_of (world_view folders vault out)) (world_of (world_view folders vault out_new)) (record { answer = answer; named = None; counted = bad_in table.infos; told = [] }) reads_only) (sym command) alone)

  -- a command that has no memory for its text, and touches nothing
  idle : (task : Task) (table : TableValue) (folders : List FolderView) (vault : VaultView) (out out_new : SinkView) (reports : List R) (answer : Answer)
      → RanOut out out_new answer
      → (StaysIdle (world_of (world_view folders vault out)) (world_of (world_view folders vault out_new)) (record { answer = answer; named = None; counted = 0; told = [] }) reads_only
      → DoesCommand task.command task table (world_of (world_view folders vault out)) (world_of (world_view folders vault out_new)) (record { answer = answer; named = None; counted = 0; told = [] }) reads_only)
      → IsDone standing stands task table (world_view folders vault out) (world_view folders vault out_new) reports reports answer None
  idle task table folders vault out out_new reports answer ran_out does = record {
    left = record { answer = answer; named = None; counted = 0; told = [] };
    answer_is = refl;
    named_is = refl;
    did = reads_only;
    does = does (record {
      did_is = refl;
      others = ap (λ (o : SinkView). world_of (world_view folders vault o)) ran_out.out_is;
      left_is = ap (λ (a : Answer). let left : Left = record { answer = a; named = None; counted = 0; told = [] } in left) ran_out.answer_is;
    });
    changes = changes_start Stays vault (λ files. refl);
    ends = λ tells. nothing_more vault.files vault;
    caused =
        let old = outside_of (world_of (world_view folders vault out)) in
        let new = outside_of (world_of (world_view folders vault out_new)) in
        subst (λ a. IsCaused a 0 [] old new) (sym ran_out.answer_is) tt;
    keeps = record {
      folders = all_read_nothing folders;
      vault = no_calls (view_of (state_of vault));
      writes = refl;
      out = subst (SinkGoesOn out) (sym ran_out.out_is) (sink_stays out);
    };
    reports = all_given_nothing standing stands reports;
  }

  pub dup_done : (task : Task) (table : TableValue) (folders : List FolderView) (vault : VaultView) (out out_new : SinkView) (reports : List R) (answer : Answer)
      → task.command ≡ commands.Dup → ListsPairs table out out_new answer
      → IsDone standing stands task table (world_view folders vault out) (world_view folders vault out_new) reports reports answer None
  dup_done task table folders vault out out_new reports answer command lists =
      let Does : Command → Type 0 =
      λ c. DoesCommand c task table (world_of (world_view folders vault out)) (world_of (world_view folders vault out_new)) (record { answer = answer; named = None; counted = 0; told = [] }) reads_only in
      ⊎_elim
      (λ prints. printed task table (dup_text table) 0 folders vault out out_new reports answer prints (λ alone. subst Does (sym command) (inl alone)))
      (λ ran_out. idle task table folders vault out out_new reports answer ran_out (λ stays. subst Does (sym command) (inr stays)))
      lists

-- of all commands
pub ruleset done = (list_done, status_done, dup_done)
