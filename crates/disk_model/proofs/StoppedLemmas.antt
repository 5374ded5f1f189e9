-- What a stop within a run that writes a folder surely keeps.
use Rattle.std.proofs.Common.{◌≡◌, ◌≢◌, ◌⊎◌, inl, inr, ⊎_elim, ℕ, ◌<◌, List, [], ◌∷◌, length, Option, None, Some, Bool, true, false, not, IsTrue, refl, sym, ◌∙◌, ap, subst, arith, slice_index}
use Rattle.std.proofs.lemmas.List.Elements.{All-head, All-tail}
use Rattle.std.specs.FinMap as map
use Rattle.disk_model.specs.Bytes.{resized}
use Rattle.disk_model.specs.Folder.{FolderCall, FolderDone, ListFiles, Look, ReadAt, Make, WriteAt, SetSize, SetStamp, Rename}
use Rattle.disk_model.specs.Stopped.{found_under, StopMayDo, MayBeLeft, LeavesAlone, IsOwnOrApart, KeepsPlace, IsUntouchedBy, EachCall, StandsKept}
use Rattle.disk_model.specs.Tree.{Tree, File, file_of, path_of}
use Rattle.disk_model.specs.Writing.{ChangesFile, WritesPart, Resizes, Stamps, or_added, made, moved, renamed, Does, MayDo}
use Rattle.disk_model.specs.declared.meta.Stamp.{Stamp}
use Rattle.disk_model.proofs.BytesLemmas.{stretched_by_resized, length-resized}
use Rattle.disk_model.proofs.TreeLemmas.{set_here, set_other, gone_here, gone_other, own_name, two_names}

never : {A : Type 0} → false ≡ true → A
never clash = absurd cc

-- ---- a file under another name

changes_other : (path : List ℕ) (step : File → File → Type 0) (old new : Tree) (name : List ℕ) → name ≢ path → ChangesFile path step old new → file_of new name ≡ file_of old name
changes_other path step old new name apart change = by (file_of old path) refl
  where
    by : (o : Option File) → file_of old path ≡ o → file_of new name ≡ file_of old name
    by None is = ap (λ (t : Tree). file_of t name) (change.none is)
    by (Some before) is = let to = change.some before is in ap (λ (t : Tree). file_of t name) to.2 ∙ set_other old path to.0 name apart

added_other : (there : Option File) (path : List ℕ) (file : File) (tree : Tree) (name : List ℕ) → name ≢ path → file_of (or_added there path file tree) name ≡ file_of tree name
added_other None path file tree name apart = set_other tree path file name apart
added_other (Some f) path file tree name apart = refl

moved_other : (there : Option File) (from to : List ℕ) (tree : Tree) (name : List ℕ) → name ≢ from → name ≢ to → file_of (moved there from to tree) name ≡ file_of tree name
moved_other None from to tree name one two = refl
moved_other (Some file) from to tree name one two = set_other (map.remove tree from) to file name two ∙ gone_other tree from name one

turned : (path name : List ℕ) → path ≢ name → name ≢ path
turned path name apart same = apart (sym same)

stays_or : (step : Tree → Tree → Type 0) (old new : Tree) (name : List ℕ) → (step old new → file_of new name ≡ file_of old name) → (new ≡ old) ⊎ step old new → file_of new name ≡ file_of old name
stays_or step old new name done (inl same) = ap (λ (t : Tree). file_of t name) same
stays_or step old new name done (inr made) = done made

-- what a call does not write stays
stays_alone : (keeps : Stamp → Bool) (call : FolderCall) (old new : Tree) (name : List ℕ) → LeavesAlone name call → StopMayDo keeps call old new → file_of new name ≡ file_of old name
stays_alone keeps ListFiles old new name alone step = ap (λ (t : Tree). file_of t name) step.1
stays_alone keeps (Look path lost) old new name alone step = ap (λ (t : Tree). file_of t name) step.1
stays_alone keeps (ReadAt path lost at n) old new name alone step = ap (λ (t : Tree). file_of t name) step.1
stays_alone keeps (Make path) old new name alone step = stays_or (Does keeps (Make path)) old new name
    (λ done. ap (λ (t : Tree). file_of t name) done.1 ∙ added_other (file_of old path) path _ old name (λ same. alone false (own_name path ∙ sym same))) step.1
stays_alone keeps (WriteAt path at bytes) old new name alone step = changes_other (path_of path step.0) (WritesPart at (length bytes)) old new name (turned _ _ (alone step.0)) step.1
stays_alone keeps (SetSize path size) old new name alone step = stays_or (Does keeps (SetSize (path_of path step.0) size)) old new name
    (changes_other (path_of path step.0) (Resizes size) old new name (turned _ _ (alone step.0))) step.1
stays_alone keeps (SetStamp path stamp) old new name alone step = stays_or (Does keeps (SetStamp (path_of path step.0) stamp)) old new name
    (changes_other (path_of path step.0) (Stamps (keeps stamp) stamp) old new name (turned _ _ (alone step.0))) step.1
stays_alone keeps (Rename path lost) old new name alone step = stays_or (Does keeps (Rename path lost)) old new name
    (λ done. ap (λ (t : Tree). file_of t name) done ∙ moved_other (file_of old (path_of path (not lost))) (path_of path (not lost)) (path_of path lost) old name (turned _ _ (alone (not lost))) (turned _ _ (alone lost))) step.1

pub found_here : (call : FolderCall) → found_under false call ≡ call
found_here ListFiles = refl
found_here (Look path lost) = refl
found_here (ReadAt path lost at n) = refl
found_here (Make path) = refl
found_here (WriteAt path at bytes) = ap (λ (p : List ℕ). WriteAt p at bytes) (own_name path)
found_here (SetSize path size) = ap (λ (p : List ℕ). SetSize p size) (own_name path)
found_here (SetStamp path stamp) = ap (λ (p : List ℕ). SetStamp p stamp) (own_name path)
found_here (Rename path lost) = refl

-- so of a call that was answered
pub name_stays : (keeps : Stamp → Bool) (call : FolderCall) (old new : Tree) (name : List ℕ) → LeavesAlone name call → MayDo keeps call old new → file_of new name ≡ file_of old name
name_stays keeps call old new name alone may = stays_alone keeps call old new name alone (false, subst (λ (c : FolderCall). MayDo keeps c old new) (sym (found_here call)) may)

-- a file that no call names stays
pub unnamed_stays : (keeps : Stamp → Bool) (calls : List FolderDone) (old new : Tree) (name : List ℕ) → EachCall (LeavesAlone name) calls → MayBeLeft keeps calls old new → file_of new name ≡ file_of old name
unnamed_stays keeps [] old new name each left = ap (λ (t : Tree). file_of t name) left
unnamed_stays keeps (done ∷ calls) old new name each left =
    unnamed_stays keeps calls left.0 new name (All-tail (λ (d : FolderDone). LeavesAlone name d.call) done calls each) left.3
    ∙ stays_alone keeps done.call old left.0 name (All-head (λ (d : FolderDone). LeavesAlone name d.call) done calls each) left.2

-- ---- where PATH's file stands, and what it keeps

-- It stands under one of its names. PATH itself is free while it stands under the other name; where it may be renamed back, so is
-- the other name while it stands under PATH.
record IsPlace (path : List ℕ) (back lost : Bool) (file : File) (tree : Tree) : Type 0 where
  there : file_of tree (path_of path lost) ≡ Some file
  alone : lost ≡ true → file_of tree (path_of path false) ≡ None
  alone_back : IsTrue back → lost ≡ false → file_of tree (path_of path true) ≡ None

abbrev KeepsBy : List ℕ → FolderCall → File → File → Type 0
KeepsBy path call before after = (i : ℕ) → i < length before.bytes → IsUntouchedBy path i call → (i < length after.bytes) × (slice_index after.bytes i ≡ slice_index before.bytes i)

abbrev Outcome : List ℕ → Bool → FolderCall → File → Tree → Type 0
Outcome path back call file new = (lost : Bool) × (after : File) × IsPlace path back lost after new × KeepsBy path call file after

same_file : (path : List ℕ) (call : FolderCall) (file : File) → KeepsBy path call file file
same_file path call file i below untouched = (below, refl)

module _ (path : List ℕ) (back : Bool) (keeps : Stamp → Bool) (old new : Tree) (file : File) (lost : Bool) (place : IsPlace path back lost file old) where
  -- the names stay
  place_stays : ((name : Bool) → file_of new (path_of path name) ≡ file_of old (path_of path name)) → IsPlace path back lost file new
  place_stays same = record {
    there = same lost ∙ place.there;
    alone = λ is. same false ∙ place.alone is;
    alone_back = λ may is. same true ∙ place.alone_back may is;
  }

  place_same : new ≡ old → IsPlace path back lost file new
  place_same is = place_stays (λ name. ap (λ (t : Tree). file_of t (path_of path name)) is)

  still : (call : FolderCall) → new ≡ old → Outcome path back call file new
  still call is = (lost, file, place_same is, same_file path call file)

  beside : (call : FolderCall) → ((name : Bool) → LeavesAlone (path_of path name) call) → StopMayDo keeps call old new → Outcome path back call file new
  beside call alone step = (lost, file, place_stays (λ name. stays_alone keeps call old new (path_of path name) (alone name) step), same_file path call file)

-- the file under one of the names changed by a step
own_change : (path : List ℕ) (back : Bool) (old new : Tree) (file : File) (lost found : Bool) (step : File → File → Type 0) → IsPlace path back lost file old → ChangesFile (path_of path found) step old new
    → (after : File) × IsPlace path back lost after new × ((after ≡ file) ⊎ step file after)
own_change path back old new file true true step place change =
    let to = change.some file place.there in
    let set = λ (name : List ℕ) (apart : name ≢ path_of path true). ap (λ (t : Tree). file_of t name) to.2 ∙ set_other old (path_of path true) to.0 name apart in (
      to.0,
      record {
        there = ap (λ (t : Tree). file_of t (path_of path true)) to.2 ∙ set_here old (path_of path true) to.0;
        alone = λ is. set (path_of path false) (λ same. never (two_names path false true same)) ∙ place.alone is;
        alone_back = λ may is. never (sym is);
      },
      inr to.1,
    )
own_change path back old new file false false step place change =
    let to = change.some file place.there in
    let set = λ (name : List ℕ) (apart : name ≢ path_of path false). ap (λ (t : Tree). file_of t name) to.2 ∙ set_other old (path_of path false) to.0 name apart in (
      to.0,
      record {
        there = ap (λ (t : Tree). file_of t (path_of path false)) to.2 ∙ set_here old (path_of path false) to.0;
        alone = λ is. never is;
        alone_back = λ may is. set (path_of path true) (λ same. never (sym (two_names path true false same))) ∙ place.alone_back may is;
      },
      inr to.1,
    )
own_change path back old new file true false step place change = (file, place_same path back (λ stamp. false) old new file true place (change.none (place.alone refl)), inl refl)
own_change path back old new file false true step place change = (
  file,
  record {
    there = changes_other (path_of path true) step old new (path_of path false) (λ same. never (two_names path false true same)) change ∙ place.there;
    alone = λ is. never is;
    alone_back = λ may is. ap (λ (t : Tree). file_of t (path_of path true)) (change.none (place.alone_back may is)) ∙ place.alone_back may is;
  },
  inl refl,
)

-- what a step keeps of the file
kept_or : (path : List ℕ) (call : FolderCall) (file after : File) (step : File → File → Type 0) → (step file after → KeepsBy path call file after) → (after ≡ file) ⊎ step file after → KeepsBy path call file after
kept_or path call file after step by (inl same) = subst (λ (f : File). KeepsBy path call file f) (sym same) (same_file path call file)
kept_or path call file after step by (inr done) = by done

write_keeps : (path : List ℕ) (at : ℕ) (bytes : List ℕ) (file after : File) → WritesPart at (length bytes) file after → KeepsBy path (WriteAt path at bytes) file after
write_keeps path at bytes file after part i below untouched = let long = part.torn.no_shorter in (omega (arith, long, below), part.torn.same i below (untouched refl))

resize_keeps : (path : List ℕ) (size : ℕ) (file after : File) → Resizes size file after → KeepsBy path (SetSize path size) file after
resize_keeps path size file after is i below untouched =
    let under : i < length (resized file.bytes size) = (let u = untouched refl in omega (arith, u, length-resized file.bytes size)) in (
      subst (λ (bytes : List ℕ). i < length bytes) (sym is) under,
      ap (λ (bytes : List ℕ). slice_index bytes i) is ∙ (stretched_by_resized file.bytes size).same i below under (untouched refl),
    )

stamp_keeps : (path : List ℕ) (is_kept : Bool) (stamp : Stamp) (file after : File) → Stamps is_kept stamp file after → KeepsBy path (SetStamp path stamp) file after
stamp_keeps path is_kept stamp file after is i below untouched = (subst (λ (f : File). i < length f.bytes) (sym is) below, ap (λ (f : File). slice_index f.bytes i) is)

-- ---- one call on PATH itself

module _ (path : List ℕ) (back : Bool) (keeps : Stamp → Bool) (old new : Tree) (file : File) (lost : Bool) (place : IsPlace path back lost file old) where
  own_write : (at : ℕ) (bytes : List ℕ) → StopMayDo keeps (WriteAt path at bytes) old new → Outcome path back (WriteAt path at bytes) file new
  own_write at bytes step =
      let to = own_change path back old new file lost step.0 (WritesPart at (length bytes)) place step.1 in
      (lost, to.0, to.1, kept_or path (WriteAt path at bytes) file to.0 (WritesPart at (length bytes)) (write_keeps path at bytes file to.0) to.2)

  own_size : (size : ℕ) → StopMayDo keeps (SetSize path size) old new → Outcome path back (SetSize path size) file new
  own_size size step = by step.1
    where
      by : (new ≡ old) ⊎ ChangesFile (path_of path step.0) (Resizes size) old new → Outcome path back (SetSize path size) file new
      by (inl same) = still path back keeps old new file lost place (SetSize path size) same
      by (inr change) =
          let to = own_change path back old new file lost step.0 (Resizes size) place change in
          (lost, to.0, to.1, kept_or path (SetSize path size) file to.0 (Resizes size) (resize_keeps path size file to.0) to.2)

  own_stamp : (stamp : Stamp) → StopMayDo keeps (SetStamp path stamp) old new → Outcome path back (SetStamp path stamp) file new
  own_stamp stamp step = by step.1
    where
      by : (new ≡ old) ⊎ ChangesFile (path_of path step.0) (Stamps (keeps stamp) stamp) old new → Outcome path back (SetStamp path stamp) file new
      by (inl same) = still path back keeps old new file lost place (SetStamp path stamp) same
      by (inr change) =
          let to = own_change path back old new file lost step.0 (Stamps (keeps stamp) stamp) place change in
          (lost, to.0, to.1, kept_or path (SetStamp path stamp) file to.0 (Stamps (keeps stamp) stamp) (stamp_keeps path (keeps stamp) stamp file to.0) to.2)

-- PATH's file was put under its other name
moves : (path : List ℕ) (back : Bool) (old new : Tree) (file : File) (to : Bool) → (to ≡ false → IsTrue back) → IsPlace path back (not to) file old → new ≡ renamed (path_of path (not to)) (path_of path to) old
    → Outcome path back (Rename path to) file new
moves path back old new file true may place is =
    let done : new ≡ map.insert (map.remove old (path_of path false)) (path_of path true) file = is ∙ ap (λ (o : Option File). moved o (path_of path false) (path_of path true) old) place.there in (
      true,
      file,
      record {
        there = ap (λ (t : Tree). file_of t (path_of path true)) done ∙ set_here (map.remove old (path_of path false)) (path_of path true) file;
        alone = λ at. ap (λ (t : Tree). file_of t (path_of path false)) done
            ∙ set_other (map.remove old (path_of path false)) (path_of path true) file (path_of path false) (λ same. never (two_names path false true same))
            ∙ gone_here old (path_of path false);
        alone_back = λ back at. never (sym at);
      },
      same_file path (Rename path true) file,
    )
moves path back old new file false may place is =
    let done : new ≡ map.insert (map.remove old (path_of path true)) (path_of path false) file = is ∙ ap (λ (o : Option File). moved o (path_of path true) (path_of path false) old) place.there in (
      false,
      file,
      record {
        there = ap (λ (t : Tree). file_of t (path_of path false)) done ∙ set_here (map.remove old (path_of path true)) (path_of path false) file;
        alone = λ at. never at;
        alone_back = λ back at. ap (λ (t : Tree). file_of t (path_of path true)) done
            ∙ set_other (map.remove old (path_of path true)) (path_of path false) file (path_of path true) (λ same. never (sym (two_names path true false same)))
            ∙ gone_here old (path_of path true);
      },
      same_file path (Rename path false) file,
    )

own_rename : (path : List ℕ) (back : Bool) (keeps : Stamp → Bool) (old new : Tree) (file : File) (lost : Bool) → IsPlace path back lost file old → (to : Bool) → (to ≡ false → IsTrue back) → StopMayDo keeps (Rename path to) old new
    → Outcome path back (Rename path to) file new
own_rename path back keeps old new file lost place to may step = by step.1
  where
    -- no file stands where a rename begins, if PATH's own file stands where it ends
    none : (lost to : Bool) → lost ≡ to → IsPlace path back lost file old → (to ≡ false → IsTrue back) → file_of old (path_of path (not to)) ≡ None
    none true true same here may = here.alone refl
    none false false same here may = here.alone_back (may refl) refl
    none true false same here may = never (sym same)
    none false true same here may = never same

    at_end : lost ≡ to → new ≡ renamed (path_of path (not to)) (path_of path to) old → Outcome path back (Rename path to) file new
    at_end same done = still path back keeps old new file lost place (Rename path to)
        (done ∙ ap (λ (o : Option File). moved o (path_of path (not to)) (path_of path to) old) (none lost to same place may))

    at_start : lost ≡ not to → new ≡ renamed (path_of path (not to)) (path_of path to) old → Outcome path back (Rename path to) file new
    at_start same done = moves path back old new file to may (subst (λ b. IsPlace path back b file old) same place) done

    either : (lost to : Bool) → (lost ≡ to) ⊎ (lost ≡ not to)
    either true true = inl refl
    either false false = inl refl
    either true false = inr refl
    either false true = inr refl

    by : (new ≡ old) ⊎ (new ≡ renamed (path_of path (not to)) (path_of path to) old) → Outcome path back (Rename path to) file new
    by (inl same) = still path back keeps old new file lost place (Rename path to) same
    by (inr done) = ⊎_elim (λ same. at_end same done) (λ same. at_start same done) (either lost to)

-- ---- one call of any PATH

abbrev Goes : List ℕ → Bool → (Stamp → Bool) → Tree → Tree → File → FolderCall → Type 0
Goes path back keeps old new file call = KeepsPlace path back call → StopMayDo keeps call old new → Outcome path back call file new

one_step : (path : List ℕ) (back : Bool) (keeps : Stamp → Bool) (call : FolderCall) (old new : Tree) (file : File) (lost : Bool) → IsPlace path back lost file old → IsOwnOrApart path call → Goes path back keeps old new file call
one_step path back keeps ListFiles old new file lost place own may step = still path back keeps old new file lost place ListFiles step.1
one_step path back keeps (Look other name) old new file lost place own may step = still path back keeps old new file lost place (Look other name) step.1
one_step path back keeps (ReadAt other name at n) old new file lost place own may step = still path back keeps old new file lost place (ReadAt other name at n) step.1
one_step path back keeps (Make other) old new file lost place (inl same) may step = absurd (may same)
one_step path back keeps (Make other) old new file lost place (inr apart) may step = beside path back keeps old new file lost place (Make other) (λ name found. apart found name) step
one_step path back keeps (WriteAt other at bytes) old new file lost place (inl same) may step =
    subst (λ p. Goes path back keeps old new file (WriteAt p at bytes)) (sym same) (λ m s. own_write path back keeps old new file lost place at bytes s) may step
one_step path back keeps (WriteAt other at bytes) old new file lost place (inr apart) may step = beside path back keeps old new file lost place (WriteAt other at bytes) (λ name found. apart found name) step
one_step path back keeps (SetSize other size) old new file lost place (inl same) may step =
    subst (λ p. Goes path back keeps old new file (SetSize p size)) (sym same) (λ m s. own_size path back keeps old new file lost place size s) may step
one_step path back keeps (SetSize other size) old new file lost place (inr apart) may step = beside path back keeps old new file lost place (SetSize other size) (λ name found. apart found name) step
one_step path back keeps (SetStamp other stamp) old new file lost place (inl same) may step =
    subst (λ p. Goes path back keeps old new file (SetStamp p stamp)) (sym same) (λ m s. own_stamp path back keeps old new file lost place stamp s) may step
one_step path back keeps (SetStamp other stamp) old new file lost place (inr apart) may step = beside path back keeps old new file lost place (SetStamp other stamp) (λ name found. apart found name) step
one_step path back keeps (Rename other to) old new file lost place (inl same) may step =
    subst (λ p. Goes path back keeps old new file (Rename p to)) (sym same) (λ m s. own_rename path back keeps old new file lost place to (m refl) s) may step
one_step path back keeps (Rename other to) old new file lost place (inr apart) may step = beside path back keeps old new file lost place (Rename other to) (λ name found. apart found name) step

-- ---- all calls

steps : (path : List ℕ) (back : Bool) (keeps : Stamp → Bool) (calls : List FolderDone) (old new : Tree) (file : File) (lost : Bool) → IsPlace path back lost file old
    → EachCall (IsOwnOrApart path) calls → EachCall (KeepsPlace path back) calls → MayBeLeft keeps calls old new → StandsKept path calls file new
steps path back keeps [] old new file lost place own may left = record {
  lost = lost;
  after = file;
  there = ap (λ (t : Tree). file_of t (path_of path lost)) left ∙ place.there;
  keeps = λ i below each. (below, refl);
}
steps path back keeps (done ∷ calls) old new file lost place own may left =
    let one = one_step path back keeps done.call old left.0 file lost place
    (All-head (λ (d : FolderDone). IsOwnOrApart path d.call) done calls own)
    (All-head (λ (d : FolderDone). KeepsPlace path back d.call) done calls may)
    left.2 in
    let rest = steps path back keeps calls left.0 new one.1 one.0 one.2
    (All-tail (λ (d : FolderDone). IsOwnOrApart path d.call) done calls own)
    (All-tail (λ (d : FolderDone). KeepsPlace path back d.call) done calls may)
    left.3 in
    record {
      lost = rest.lost;
      after = rest.after;
      there = rest.there;
      keeps = λ i below each.
          let first = one.3 i below (All-head (λ (d : FolderDone). IsUntouchedBy path i d.call) done calls each) in
          let then = rest.keeps i first.0 (All-tail (λ (d : FolderDone). IsUntouchedBy path i d.call) done calls each) in
          (then.0, then.1 ∙ first.1);
    }

-- PATH's file, where no other is made, and none is renamed back over it
pub place_kept : (keeps : Stamp → Bool) (path : List ℕ) (calls : List FolderDone) (old new : Tree) (file : File)
    → file_of old (path_of path false) ≡ Some file → EachCall (IsOwnOrApart path) calls → EachCall (KeepsPlace path false) calls → MayBeLeft keeps calls old new → StandsKept path calls file new
place_kept keeps path calls old new file there own may left =
    steps path false keeps calls old new file false (record { there = there; alone = λ is. never is; alone_back = λ back is. never back }) own may left

-- the lost file of a PATH that isn't there
pub lost_kept : (keeps : Stamp → Bool) (path : List ℕ) (calls : List FolderDone) (old new : Tree) (file : File)
    → file_of old (path_of path true) ≡ Some file → file_of old (path_of path false) ≡ None → EachCall (IsOwnOrApart path) calls → EachCall (KeepsPlace path true) calls → MayBeLeft keeps calls old new
    → StandsKept path calls file new
lost_kept keeps path calls old new file there free own may left =
    steps path true keeps calls old new file true (record { there = there; alone = λ is. free; alone_back = λ back is. never (sym is) }) own may left
