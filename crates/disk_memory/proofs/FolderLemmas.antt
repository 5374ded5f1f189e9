-- How the writing calls of a folder in memory change its tree.
use Rattle.std.proofs.Common.{◌≡◌, ◌≢◌, ℕ, ◌≤◌, List, [], ◌∷◌, arith, Bool, true, false, not, if◌then◌else◌, Option, None, Some, Result, Ok, Err, refl, sym, ◌∙◌, ap, subst}
use Rattle.std.specs.Option.{option_map}
use Rattle.disk_model.specs.Bytes.{put, resized}
use Rattle.disk_model.specs.Cause.{Rose, Grows, Counts, exactly}
use Rattle.disk_model.specs.Tree.{Tree, File, file_of}
use Rattle.disk_model.specs.Answer.{is_failure, done_answer}
use Rattle.disk_model.specs.Folder.{FolderView, FolderCall, FolderDone, any_folder_write, Allows}
use Rattle.disk_model.specs.Writing.{Does, MayDo, IsFolderWrite, ChangesFile, Writes, Resizes, Stamps}
use Rattle.disk_model.specs.declared.meta.Stamp.{Stamp}
use Rattle.disk_model.specs.declared.fault.FileFault.{FileFault}
use Rattle.disk_model.specs.declared.fault.FileFault.TheVariants.{Missing}
use Rattle.disk_model.specs.declared.answer.Answer.{Answer}
use Rattle.disk_model.specs.declared.answer.Answer.TheVariants as answers
use Rattle.disk_memory.specs.Calls.{folder_calls}
use Rattle.disk_calm.specs.Files.{changed, set_found, with_bytes, with_stamp}
use Rattle.disk_calm.specs.Kept.{tree_in, is_tree_in}
use Rattle.disk_memory.specs.Folder.{folder_view}
use Rattle.disk_memory.specs.declared.calls.FolderEntry.{FolderEntry}
use Rattle.disk_memory.specs.declared.folder.MemFolder.{MemFolder}
use Rattle.disk_memory.specs.declared.past.Past.{Past}

-- the folder after a call
abbrev pub view_after : MemFolder → ℕ → ℕ → Past FolderEntry → Tree → FolderView
view_after f faults writes now tree = record {
  faults = faults;
  writes = exactly writes;
  keeps = λ stamp. f.keeps_stamps;
  closed = false;
  tells = true;
  tree = tree;
  tells_calls = not now.lost;
  calls = folder_calls now.made.items;
}

abbrev pub done : FolderCall → Answer → FolderDone
done call answer = record { call = call; answer = answer }

-- the count of writing calls went on by one call
abbrev pub CountsOne : FolderCall → Answer → ℕ → ℕ → Type 0
CountsOne call answer before after = Counts (any_folder_write (done call answer ∷ [])) (exactly before) (exactly after)

module _ (f : MemFolder) (faults writes : ℕ) (now : Past FolderEntry) (tree : Tree) (call : FolderCall) where
  pub wrote : (answer : Answer) → is_failure answer ≡ false → faults ≡ f.schedule.faults → CountsOne call answer f.writes writes → Grows (not f.past.lost) (folder_calls f.past.made.items) (not now.lost) (folder_calls now.made.items) (done call answer ∷ [])
      → Does (λ stamp. f.keeps_stamps) call (tree_in f.files) tree → IsFolderWrite call answer (folder_view f) (view_after f faults writes now tree)
  wrote answer unfailed same counts grows does = record {
    called = record { goes_on = record { later = subst (λ n. f.schedule.faults ≤ n) (sym same) (omega arith); writes = counts; keeps = refl; closed = refl; tells = refl; calls = grows }; cause = λ failed. absurd (clash failed) };
    does = λ unfailed told. does;
    may = λ failed. absurd (clash failed);
  }
    where
      clash : is_failure answer ≡ true → ⊥
      clash failed = cc

  pub failed : f.schedule.faults ≤ faults → Rose f.schedule.faults faults → CountsOne call answers.Failed f.writes writes → Grows (not f.past.lost) (folder_calls f.past.made.items) (not now.lost) (folder_calls now.made.items) (done call answers.Failed ∷ [])
      → MayDo (λ stamp. f.keeps_stamps) call (tree_in f.files) tree → IsFolderWrite call answers.Failed (folder_view f) (view_after f faults writes now tree)
  failed later rose counts grows may = record {
    called = record { goes_on = record { later = later; writes = counts; keeps = refl; closed = refl; tells = refl; calls = grows }; cause = λ failed. rose };
    does = λ (no : true ≡ false). absurd (cc);
    may = λ failed told. may;
  }

abbrev answer_of : Bool → Result (Unit {0}) FileFault
answer_of there = if there then Ok tt else Err Missing

abbrev kept_of : Bool → Answer
kept_of there = if there then answers.Done else answers.Missing

-- a folder takes a file under the path of one that it holds
pub held_allows : (f : MemFolder) (path : List ℕ) → file_of (folder_view f).tree path ≢ None → Allows (folder_view f) path
held_allows f path there = by_file (file_of (folder_view f).tree path) refl
  where
    by_file : (found : Option File) → file_of (folder_view f).tree path ≡ found → Allows (folder_view f) path
    by_file None none = absurd (there none)
    by_file (Some file) is = let held = is_tree_in f.files path file is in record { is_open = refl; valid = held.valid; apart = held.apart }

-- a call that did its work where the file was there
pub wrote_found : (there : Bool) (result : Result (Unit {0}) FileFault) (answer : Answer) → result ≡ answer_of there → answer ≡ kept_of there → (f : MemFolder) (faults writes : ℕ) (now : Past FolderEntry) (tree : Tree) (call : FolderCall)
    → faults ≡ f.schedule.faults → CountsOne call answer f.writes writes → Grows (not f.past.lost) (folder_calls f.past.made.items) (not now.lost) (folder_calls now.made.items) (done call answer ∷ [])
    → Does (λ stamp. f.keeps_stamps) call (tree_in f.files) tree → IsFolderWrite call (done_answer result) (folder_view f) (view_after f faults writes now tree)
wrote_found there result answer is kept f faults writes now tree call same counts grows does =
    subst (λ a. IsFolderWrite call a (folder_view f) (view_after f faults writes now tree)) (kept ∙ as_kept there ∙ ap (λ (r : Result (Unit {0}) FileFault). done_answer r) (sym is))
    (wrote f faults writes now tree call answer (ap is_failure kept ∙ unfailed there) same counts grows does)
  where
    unfailed : (there : Bool) → is_failure (kept_of there) ≡ false
    unfailed true = refl
    unfailed false = refl

    as_kept : (there : Bool) → kept_of there ≡ done_answer (answer_of there)
    as_kept true = refl
    as_kept false = refl

-- a change of one file
pub changes_file : (step : File → File) (R : File → File → Type 0) (path : List ℕ) (old new : Tree) → ((file : File) → R file (step file)) → new ≡ changed step path old → ChangesFile path R old new
changes_file step R path old new follows is = record {
  none = λ none. is ∙ ap (λ (o : Option File). set_found (option_map step o) path old) none;
  some = λ before found. (step before, follows before, is ∙ ap (λ (o : Option File). set_found (option_map step o) path old) found);
}

pub writes : (path : List ℕ) (at : ℕ) (bytes : List ℕ) (old new : Tree) → new ≡ changed (with_bytes (λ (before : List ℕ). put before at bytes)) path old → ChangesFile path (Writes at bytes) old new
writes path at bytes old new is = changes_file (with_bytes (λ (before : List ℕ). put before at bytes)) (Writes at bytes) path old new (λ file. refl) is

pub resizes : (path : List ℕ) (size : ℕ) (old new : Tree) → new ≡ changed (with_bytes (λ (before : List ℕ). resized before size)) path old → ChangesFile path (Resizes size) old new
resizes path size old new is = changes_file (with_bytes (λ (before : List ℕ). resized before size)) (Resizes size) path old new (λ file. refl) is

pub stamps : (keeps : Bool) (path : List ℕ) (stamp : Stamp) (old new : Tree) → new ≡ changed (with_stamp keeps stamp) path old → ChangesFile path (Stamps keeps stamp) old new
stamps keeps path stamp old new is = changes_file (with_stamp keeps stamp) (Stamps keeps stamp) path old new (λ file. refl) is
