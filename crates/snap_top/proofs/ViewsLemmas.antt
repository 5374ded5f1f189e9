-- Objects that were not touched, and one thing done after another.
use Rattle.std.proofs.Common.{◌≡◌, List, [], ◌++◌, length, drop, All, false, IsTrue, None, arith, refl, sym, ap, ◌∙◌, subst, append_assoc}
use Rattle.std.proofs.Math.Seq.{drop-append_seam}
use Rattle.std.proofs.lemmas.List.{append-nil}
use Rattle.std.proofs.lemmas.List.Elements.{All-append, All-nil}
use Rattle.disk_model.specs.Folder.{FolderView, FolderCall, FolderDone, FolderGoesOn, ListFiles, Look, ReadAt, Make, WriteAt, SetSize, SetStamp, Rename, writes_folder}
use Rattle.disk_model.specs.Sink.{SinkView, SinkGoesOn}
use Rattle.disk_model.specs.Stopped.{written_path}
use Rattle.disk_model.specs.Vault.{VaultView, VaultState, SomeCalls, state_of}
use Rattle.disk_model.proofs.VaultLemmas.{no_calls, calls_then}
use Rattle.disk_model.proofs.CountLemmas.{counts_none, counts_stay, folder_writes_then, none_writes_folder}
use Rattle.snap_top.specs.Views.{World, view_of, calls_since, folder_at, ReadsOnly, AllReadOnly, KeepsBy}

pub sink_stays : (out : SinkView) → SinkGoesOn out out
sink_stays out = record { later = omega arith; tells = refl }

pub sink_then : (old mid new : SinkView) → SinkGoesOn old mid → SinkGoesOn mid new → SinkGoesOn old new
sink_then old mid new one two = record { later = omega (arith, one.later, two.later); tells = two.tells ∙ one.tells }

-- no call of a folder that was only read writes
abbrev pub IsReadingCall : FolderCall → Type 0
IsReadingCall call = written_path call ≡ None

abbrev pub IsReadingDone : FolderDone → Type 0
IsReadingDone done = IsReadingCall done.call

-- what is known of the calls that were made is known of those since then
since_is : (old new : FolderView) (done : List FolderDone) → FolderGoesOn old new done → IsTrue new.tells_calls → calls_since old new ≡ done
since_is old new done goes told = ap (drop (length old.calls)) (goes.calls.more told) ∙ drop-append_seam old.calls done

pub reads_since : (old new : FolderView) (done : List FolderDone) → FolderGoesOn old new done → All IsReadingDone done → IsTrue new.tells_calls → All IsReadingDone (calls_since old new)
reads_since old new done goes reads told = subst (All IsReadingDone) (sym (since_is old new done goes told)) reads

-- nor does one that was not written raise the count
reading_leaves : (call : FolderCall) → IsReadingCall call → writes_folder call ≡ false
reading_leaves ListFiles is = refl
reading_leaves (Look path lost) is = refl
reading_leaves (ReadAt path lost at n) is = refl
reading_leaves (Make path) is = absurd (cc)
reading_leaves (WriteAt path at bytes) is = absurd (cc)
reading_leaves (SetSize path size) is = absurd (cc)
reading_leaves (SetStamp path stamp) is = absurd (cc)
reading_leaves (Rename path lost) is = absurd (cc)

pub reads_leave : (old new : FolderView) (done : List FolderDone) → FolderGoesOn old new done → All IsReadingDone done → new.writes ≡ old.writes
reads_leave old new done goes reads = counts_stay old.writes new.writes (none_writes_folder IsReadingCall done reading_leaves reads) goes.writes

pub read_nothing : (v : FolderView) → ReadsOnly v v
read_nothing v =
    let goes : FolderGoesOn v v []
    = record { later = omega arith; writes = counts_none v.writes; keeps = refl; closed = refl; tells = refl; calls = record { told = λ t. t; more = λ t. sym (append-nil v.calls) } } in
    record { calls = record { done = []; goes_on = goes }; unwritten = refl; reads = reads_since v v [] goes (All-nil IsReadingDone); tree = λ t. refl }

pub read_then : (old mid new : FolderView) → ReadsOnly old mid → ReadsOnly mid new → ReadsOnly old new
read_then old mid new one two =
    let a = one.calls.goes_on in
    let b = two.calls.goes_on in
    let goes : FolderGoesOn old new (one.calls.done ++ two.calls.done) = record {
      later = omega (arith, a.later, b.later);
      writes = folder_writes_then one.calls.done two.calls.done old.writes mid.writes new.writes a.writes b.writes;
      keeps = b.keeps ∙ a.keeps;
      closed = b.closed ∙ a.closed;
      tells = b.tells ∙ a.tells;
      calls = record {
        told = λ t. a.calls.told (b.calls.told t);
        more = λ t. b.calls.more t ∙ ap (λ xs. xs ++ two.calls.done) (a.calls.more (b.calls.told t)) ∙ append_assoc old.calls one.calls.done two.calls.done;
      };
    } in
    record {
      calls = record { done = one.calls.done ++ two.calls.done; goes_on = goes };
      unwritten = two.unwritten ∙ one.unwritten;
      reads = λ t.
          let mid_told : IsTrue mid.tells_calls = b.calls.told t in
          reads_since old new (one.calls.done ++ two.calls.done) goes
          (All-append IsReadingDone one.calls.done two.calls.done
          (subst (All IsReadingDone) (since_is old mid one.calls.done a mid_told) (one.reads mid_told))
          (subst (All IsReadingDone) (since_is mid new two.calls.done b t) (two.reads t)))
          t;
      tree = λ t. two.tree (a.tells ∙ t) ∙ one.tree t;
    }

pub all_read_nothing : (folders : List FolderView) → AllReadOnly folders folders
all_read_nothing folders = record { count = refl; each = λ d below. read_nothing (folder_at folders d) }

pub all_read_then : (olds mids news : List FolderView) → AllReadOnly olds mids → AllReadOnly mids news → AllReadOnly olds news
all_read_then olds mids news one two = record {
  count = two.count ∙ one.count;
  each = λ d below. read_then _ _ _ (one.each d below) (two.each d (omega (arith, one.count, below)));
}

-- calls of a vault, by its states
pub some_calls_of : (old new : VaultView) → SomeCalls old new → SomeCalls (view_of (state_of old)) (view_of (state_of new))
some_calls_of old new calls = let g = calls.goes_on in record {
  done = calls.done;
  goes_on = record { later = g.later; writes = g.writes; levels = g.levels; copies = g.copies; tells = g.tells; calls = g.calls };
}

-- its count of writing calls stays
abbrev pub Unwritten : VaultState → VaultState → Type 0
Unwritten old new = new.writes ≡ old.writes

pub keeps_nothing : (world : World) → KeepsBy AllReadOnly Unwritten world world
keeps_nothing world = record { folders = all_read_nothing world.folders; vault = no_calls (view_of world.vault); writes = refl; out = sink_stays world.out }

pub keeps_then : (before mid after : World) → KeepsBy AllReadOnly Unwritten before mid → KeepsBy AllReadOnly Unwritten mid after → KeepsBy AllReadOnly Unwritten before after
keeps_then before mid after one two = record {
  writes = two.writes ∙ one.writes;
  folders = all_read_then before.folders mid.folders after.folders one.folders two.folders;
  vault = calls_then (view_of before.vault) (view_of mid.vault) (view_of after.vault) one.vault two.vault;
  out = sink_then before.out mid.out after.out one.out two.out;
}
