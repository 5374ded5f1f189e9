-- A stop within a run that only reads its folders leaves their files.
use Rattle.std.proofs.Common.{◌≡◌, inl, inr, List, [], ◌∷◌, Bool, true, false, None, Some, IsTrue, ◌∙◌}
use Rattle.std.proofs.lemmas.List.Elements.{All-head, All-tail}
use Rattle.disk_model.specs.Folder.{FolderView, FolderCall, FolderDone, ListFiles, Look, ReadAt, Make, WriteAt, SetSize, SetStamp, Rename}
use Rattle.disk_model.specs.Opener.{folder_held}
use Rattle.disk_model.specs.Stopped.{EachCall, MayBeLeft, found_under}
use Rattle.disk_model.specs.Tree.{Tree}
use Rattle.disk_model.specs.Writing.{MayDo}
use Rattle.disk_model.specs.declared.meta.Stamp.{Stamp}
use Rattle.snap_top.specs.Entry.{Entry, Exit}
use Rattle.snap_top.specs.Step.{LeavesEachTree}
use Rattle.snap_top.specs.Stopping.{MayStandLeft}
use Rattle.snap_top.specs.Effect.{effect}
use Rattle.snap_top.specs.Did.{Did, fixes, reads_only, scrubs, syncs}
use Rattle.snap_top.specs.Views.{AllReadOnly, ReadsOnly, calls_since, folder_at}
use Rattle.snap_top.proofs.ViewsLemmas.{IsReadingCall, IsReadingDone}

-- a call that does not write leaves them
call_stays : (keeps : Stamp → Bool) (lost : Bool) (call : FolderCall) (old new : Tree) → IsReadingCall call → MayDo keeps (found_under lost call) old new → new ≡ old
call_stays keeps lost ListFiles old new quiet may = may
call_stays keeps lost (Look path other) old new quiet may = may
call_stays keeps lost (ReadAt path other at n) old new quiet may = may
call_stays keeps lost (Make path) old new quiet may = absurd (let clash : Some path ≡ None = quiet in cc)
call_stays keeps lost (WriteAt path at bytes) old new quiet may = absurd (let clash : Some path ≡ None = quiet in cc)
call_stays keeps lost (SetSize path size) old new quiet may = absurd (let clash : Some path ≡ None = quiet in cc)
call_stays keeps lost (SetStamp path stamp) old new quiet may = absurd (let clash : Some path ≡ None = quiet in cc)
call_stays keeps lost (Rename path other) old new quiet may = absurd (let clash : Some path ≡ None = quiet in cc)

calls_stay : (keeps : Stamp → Bool) (calls : List FolderDone) (old left : Tree) → EachCall IsReadingCall calls → MayBeLeft keeps calls old left → left ≡ old
calls_stay keeps [] old left each at = at
calls_stay keeps (done ∷ calls) old left each at =
    calls_stay keeps calls at.0 left (All-tail IsReadingDone done calls each) at.3
    ∙ call_stays keeps at.2.0 done.call old at.0 (All-head IsReadingDone done calls each) at.2.1

-- of a folder that tells its files
stop_stays : (old new : FolderView) (left : Tree) → IsTrue old.tells → ReadsOnly old new → MayStandLeft old new left → left ≡ old.tree
stop_stays old new left tells read (inl same) = same ∙ read.tree tells
stop_stays old new left tells read (inr at) = calls_stay old.keeps (calls_since old new) old.tree left (read.reads at.0) at.1

each_stays : (before : Entry) (exit : Exit) → AllReadOnly before.opener.folders exit.after.folders → LeavesEachTree before exit
each_stays before exit read d left at = stop_stays (folder_held before.opener d) (folder_at exit.after.folders d) left at.tells (read.each d at.within) at.stands

-- by what a run did
pub each_tree_stays : (did : Did) (before : Entry) (exit : Exit) → (effect did).folders_after before.opener.folders exit.after.folders → (effect did).writes_files ≡ false
    → LeavesEachTree before exit
each_tree_stays reads_only before exit after none = each_stays before exit after
each_tree_stays (syncs failed run) before exit after none = each_stays before exit after
each_tree_stays (scrubs failed run) before exit after none = each_stays before exit after
each_tree_stays (fixes failed run) before exit after none = absurd (let clash : true ≡ false = none in cc)
