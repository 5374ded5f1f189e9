-- What stands in the place of PATH, wherever a run that writes a folder is stopped: its own file, with each byte that no call touched.
use Rattle.std.proofs.Common.{◌≡◌, ◌⊎◌, inl, inr, ⊎_elim, ℕ, ◌<◌, List, [], ◌∷◌, length, Option, None, Some, Bool, true, false, IsTrue, refl, sym, ◌∙◌, ap, ap₂, subst, arith, slice_index}
use Rattle.std.proofs.lemmas.List.Elements.{All-cons, All-head, All-nil, All-tail}
use Rattle.std.specs.FinMap as map
use Rattle.disk_model.specs.Bytes.{resized}
use Rattle.disk_model.specs.Folder.{FolderCall, FolderDone, ListFiles, Look, ReadAt, Make, WriteAt, SetSize, SetStamp, Rename}
use Rattle.disk_model.specs.Stopped.{EachCall, IsOwnOrApart, IsUntouchedBy, KeepsPlace, KeepsUntouched, LeavesAlone, MayBeLeft, StopMayDo}
use Rattle.disk_model.specs.Tree.{Tree, File, file_of, path_of}
use Rattle.disk_model.specs.Writing.{ChangesFile, Resizes, Stamps, WritesPart, moved, renamed}
use Rattle.disk_model.specs.declared.meta.Stamp.{Stamp}
use Rattle.disk_model.proofs.BytesLemmas.{length-resized, stretched_by_resized}
use Rattle.disk_model.proofs.TreeLemmas.{gone_here, set_here, set_other, two_names}
use Rattle.snap_fix.specs.Stopped.{file_or, file_placed}

-- what disk_model says of a file that no call names
abbrev pub UnnamedStay : Type 0
UnnamedStay = (keeps : Stamp → Bool) (calls : List FolderDone) (old new : Tree) (name : List ℕ) → EachCall (LeavesAlone name) calls → MayBeLeft keeps calls old new → file_of new name ≡ file_of old name

never : {A : Type 0} → false ≡ true → A
never clash = absurd cc

some_same : {A : Type 0} (a b : A) → Some a ≡ Some b → a ≡ b
some_same a b same = cc

none_some : {A B : Type 0} (a : A) (o : Option A) → o ≡ None → o ≡ Some a → B
none_some a o none some = absurd (let clash : None ≡ Some a = sym none ∙ some in cc)

-- ---- what stands in the place, and what a call keeps of it

-- A file stands in the place of PATH. Where PATH may be renamed back, none stands under one of its names.
record IsPlaced (path : List ℕ) (back : Bool) (file : File) (tree : Tree) : Type 0 where
  placed : file_placed tree path ≡ Some file
  alone : IsTrue back → (file_of tree (path_of path false) ≡ None) ⊎ (file_of tree (path_of path true) ≡ None)

abbrev KeepsBy : List ℕ → FolderCall → File → File → Type 0
KeepsBy path call before after = (i : ℕ) → i < length before.bytes → IsUntouchedBy path i call → (i < length after.bytes) × (slice_index after.bytes i ≡ slice_index before.bytes i)

abbrev Outcome : List ℕ → Bool → FolderCall → File → Tree → Type 0
Outcome path back call file new = (after : File) × IsPlaced path back after new × KeepsBy path call file after

same_file : (path : List ℕ) (call : FolderCall) (file : File) → KeepsBy path call file file
same_file path call file i below untouched = (below, refl)

module _ (path : List ℕ) (back : Bool) (old new : Tree) (file : File) (place : IsPlaced path back file old) where
  names_stay : ((name : Bool) → file_of new (path_of path name) ≡ file_of old (path_of path name)) → IsPlaced path back file new
  names_stay same = record {
    placed = ap₂ file_or (same false) (same true) ∙ place.placed;
    alone = λ may. ⊎_elim (λ free. inl (same false ∙ free)) (λ free. inr (same true ∙ free)) (place.alone may);
  }

  all_stays : new ≡ old → IsPlaced path back file new
  all_stays is = names_stay (λ name. ap (λ (t : Tree). file_of t (path_of path name)) is)

  still : (call : FolderCall) → new ≡ old → Outcome path back call file new
  still call is = (file, all_stays is, same_file path call file)

  beside : (call : FolderCall) → ((name : Bool) → file_of new (path_of path name) ≡ file_of old (path_of path name)) → Outcome path back call file new
  beside call same = (file, names_stay same, same_file path call file)

  -- the file of a name is the one that is placed
  plain_is : (found : File) → file_of old (path_of path false) ≡ Some found → found ≡ file
  plain_is found is = some_same found file (sym (ap (λ (o : Option File). file_or o (file_of old (path_of path true))) is) ∙ place.placed)

  lost_is : (found : File) → file_of old (path_of path false) ≡ None → file_of old (path_of path true) ≡ Some found → found ≡ file
  lost_is found free is = some_same found file (sym (ap₂ file_or free is) ∙ place.placed)

  -- a file under one of the names changed by a step
  abbrev Changed : (File → File → Type 0) → Type 0
  Changed step = (after : File) × IsPlaced path back after new × ((after ≡ file) ⊎ step file after)

  changed : (found : Bool) (step : File → File → Type 0) → ChangesFile (path_of path found) step old new → Changed step
  changed false step change = by (file_of old (path_of path false)) refl
    where
      by : (o : Option File) → file_of old (path_of path false) ≡ o → Changed step
      by None is = (file, all_stays (change.none is), inl refl)
      by (Some a) is =
          let to = change.some a is in
          let here : file_of new (path_of path false) ≡ Some to.0 = ap (λ (t : Tree). file_of t (path_of path false)) to.2 ∙ set_here old (path_of path false) to.0 in
          let there : file_of new (path_of path true) ≡ file_of old (path_of path true)
          = ap (λ (t : Tree). file_of t (path_of path true)) to.2 ∙ set_other old (path_of path false) to.0 (path_of path true) (λ same. never (sym (two_names path true false same))) in (
            to.0,
            record {
              placed = ap (λ (o : Option File). file_or o (file_of new (path_of path true))) here;
              alone = λ may. ⊎_elim (λ free. none_some a (file_of old (path_of path false)) free is) (λ free. inr (there ∙ free)) (place.alone may);
            },
            inr (subst (λ (f : File). step f to.0) (plain_is a is) to.1),
          )
  changed true step change = by (file_of old (path_of path true)) refl
    where
      by_plain : (b : File) → file_of old (path_of path true) ≡ Some b → (to : File) → step b to → file_of new (path_of path true) ≡ Some to
          → file_of new (path_of path false) ≡ file_of old (path_of path false) → (o : Option File) → file_of old (path_of path false) ≡ o → Changed step
      by_plain b is to done there here None free = (
        to,
        record { placed = ap₂ file_or (here ∙ free) there; alone = λ may. inl (here ∙ free) },
        inr (subst (λ (f : File). step f to) (lost_is b free is) done),
      )
      by_plain b is to done there here (Some a) at = (
        file,
        record {
          placed = ap (λ (o : Option File). file_or o (file_of new (path_of path true))) (here ∙ at) ∙ ap (λ (f : File). Some f) (plain_is a at);
          alone = λ may. ⊎_elim (λ free. none_some a (file_of old (path_of path false)) free at) (λ free. none_some b (file_of old (path_of path true)) free is) (place.alone may);
        },
        inl refl,
      )

      by : (o : Option File) → file_of old (path_of path true) ≡ o → Changed step
      by None is = (file, all_stays (change.none is), inl refl)
      by (Some b) is =
          let to = change.some b is in
          by_plain b is to.0 to.1
          (ap (λ (t : Tree). file_of t (path_of path true)) to.2 ∙ set_here old (path_of path true) to.0)
          (ap (λ (t : Tree). file_of t (path_of path false)) to.2 ∙ set_other old (path_of path true) to.0 (path_of path false) (λ same. never (two_names path false true same)))
          (file_of old (path_of path false)) refl

  -- ---- calls on PATH itself

  kept_or : (call : FolderCall) (after : File) (step : File → File → Type 0) → (step file after → KeepsBy path call file after) → (after ≡ file) ⊎ step file after → KeepsBy path call file after
  kept_or call after step by (inl same) = subst (λ (f : File). KeepsBy path call file f) (sym same) (same_file path call file)
  kept_or call after step by (inr done) = by done

  by_step : (call : FolderCall) (found : Bool) (step : File → File → Type 0) → ((after : File) → step file after → KeepsBy path call file after) → ChangesFile (path_of path found) step old new
      → Outcome path back call file new
  by_step call found step keeps change = let to = changed found step change in (to.0, to.1, kept_or call to.0 step (keeps to.0) to.2)

  write_keeps : (at : ℕ) (bytes : List ℕ) (after : File) → WritesPart at (length bytes) file after → KeepsBy path (WriteAt path at bytes) file after
  write_keeps at bytes after part i below untouched = let long = part.torn.no_shorter in (omega (arith, long, below), part.torn.same i below (untouched refl))

  size_keeps : (size : ℕ) (after : File) → Resizes size file after → KeepsBy path (SetSize path size) file after
  size_keeps size after is i below untouched =
      let under : i < length (resized file.bytes size) = (let u = untouched refl in omega (arith, u, length-resized file.bytes size)) in (
        subst (λ (bytes : List ℕ). i < length bytes) (sym is) under,
        ap (λ (bytes : List ℕ). slice_index bytes i) is ∙ (stretched_by_resized file.bytes size).same i below under (untouched refl),
      )

  stamp_keeps : (is_kept : Bool) (stamp : Stamp) (after : File) → Stamps is_kept stamp file after → KeepsBy path (SetStamp path stamp) file after
  stamp_keeps is_kept stamp after is i below untouched = (subst (λ (f : File). i < length f.bytes) (sym is) below, ap (λ (f : File). slice_index f.bytes i) is)

  own_write : (keeps : Stamp → Bool) (at : ℕ) (bytes : List ℕ) → StopMayDo keeps (WriteAt path at bytes) old new → Outcome path back (WriteAt path at bytes) file new
  own_write keeps at bytes step = by_step (WriteAt path at bytes) step.0 (WritesPart at (length bytes)) (write_keeps at bytes) step.1

  own_size : (keeps : Stamp → Bool) (size : ℕ) → StopMayDo keeps (SetSize path size) old new → Outcome path back (SetSize path size) file new
  own_size keeps size step = ⊎_elim (λ same. still (SetSize path size) same) (λ change. by_step (SetSize path size) step.0 (Resizes size) (size_keeps size) change) step.1

  own_stamp : (keeps : Stamp → Bool) (stamp : Stamp) → StopMayDo keeps (SetStamp path stamp) old new → Outcome path back (SetStamp path stamp) file new
  own_stamp keeps stamp step = ⊎_elim (λ same. still (SetStamp path stamp) same) (λ change. by_step (SetStamp path stamp) step.0 (Stamps (keeps stamp) stamp) (stamp_keeps (keeps stamp) stamp) change) step.1

  -- its file was put under the other name
  moves_away : new ≡ renamed (path_of path false) (path_of path true) old → Outcome path back (Rename path true) file new
  moves_away done = by (file_of old (path_of path false)) refl
    where
      by : (o : Option File) → file_of old (path_of path false) ≡ o → Outcome path back (Rename path true) file new
      by None is = still (Rename path true) (done ∙ ap (λ (o : Option File). moved o (path_of path false) (path_of path true) old) is)
      by (Some a) is =
          let to : new ≡ map.insert (map.remove old (path_of path false)) (path_of path true) a = done ∙ ap (λ (o : Option File). moved o (path_of path false) (path_of path true) old) is in
          let free : file_of new (path_of path false) ≡ None = ap (λ (t : Tree). file_of t (path_of path false)) to
          ∙ set_other (map.remove old (path_of path false)) (path_of path true) a (path_of path false) (λ same. never (two_names path false true same))
          ∙ gone_here old (path_of path false) in
          let there : file_of new (path_of path true) ≡ Some a = ap (λ (t : Tree). file_of t (path_of path true)) to ∙ set_here (map.remove old (path_of path false)) (path_of path true) a in
          (file, record { placed = ap₂ file_or free there ∙ ap (λ (f : File). Some f) (plain_is a is); alone = λ may. inl free }, same_file path (Rename path true) file)

  moves_back : IsTrue back → new ≡ renamed (path_of path true) (path_of path false) old → Outcome path back (Rename path false) file new
  moves_back may done = by (file_of old (path_of path true)) refl
    where
      by : (o : Option File) → file_of old (path_of path true) ≡ o → Outcome path back (Rename path false) file new
      by None is = still (Rename path false) (done ∙ ap (λ (o : Option File). moved o (path_of path true) (path_of path false) old) is)
      by (Some b) is =
          let to : new ≡ map.insert (map.remove old (path_of path true)) (path_of path false) b = done ∙ ap (λ (o : Option File). moved o (path_of path true) (path_of path false) old) is in
          let free : file_of new (path_of path true) ≡ None = ap (λ (t : Tree). file_of t (path_of path true)) to
          ∙ set_other (map.remove old (path_of path true)) (path_of path false) b (path_of path true) (λ same. never (sym (two_names path true false same)))
          ∙ gone_here old (path_of path true) in
          let here : file_of new (path_of path false) ≡ Some b = ap (λ (t : Tree). file_of t (path_of path false)) to ∙ set_here (map.remove old (path_of path true)) (path_of path false) b in
          let is_it : b ≡ file = ⊎_elim (λ none. lost_is b none is) (λ none. none_some b (file_of old (path_of path true)) none is) (place.alone may) in (
            file,
            record { placed = ap (λ (o : Option File). file_or o (file_of new (path_of path true))) here ∙ ap (λ (f : File). Some f) is_it; alone = λ again. inr free },
            same_file path (Rename path false) file,
          )

  own_rename : (keeps : Stamp → Bool) (to : Bool) → (to ≡ false → IsTrue back) → StopMayDo keeps (Rename path to) old new → Outcome path back (Rename path to) file new
  own_rename keeps true may step = ⊎_elim (λ same. still (Rename path true) same) moves_away step.1
  own_rename keeps false may step = ⊎_elim (λ same. still (Rename path false) same) (moves_back (may refl)) step.1

-- ---- one call of any PATH

abbrev Goes : List ℕ → Bool → (Stamp → Bool) → Tree → Tree → File → FolderCall → Type 0
Goes path back keeps old new file call = KeepsPlace path back call → StopMayDo keeps call old new → Outcome path back call file new

abbrev Aside : List ℕ → FolderCall → Tree → Tree → Type 0
Aside path call old new = ((name : Bool) → LeavesAlone (path_of path name) call) → (name : Bool) → file_of new (path_of path name) ≡ file_of old (path_of path name)

one_step : (path : List ℕ) (back : Bool) (keeps : Stamp → Bool) (call : FolderCall) (old new : Tree) (file : File) → IsPlaced path back file old → Aside path call old new → IsOwnOrApart path call → Goes path back keeps old new file call
one_step path back keeps ListFiles old new file place aside own may step = still path back old new file place ListFiles step.1
one_step path back keeps (Look other name) old new file place aside own may step = still path back old new file place (Look other name) step.1
one_step path back keeps (ReadAt other name at n) old new file place aside own may step = still path back old new file place (ReadAt other name at n) step.1
one_step path back keeps (Make other) old new file place aside (inl same) may step = absurd (may same)
one_step path back keeps (Make other) old new file place aside (inr apart) may step = beside path back old new file place (Make other) (aside (λ name found. apart found name))
one_step path back keeps (WriteAt other at bytes) old new file place aside (inl same) may step =
    subst (λ p. Goes path back keeps old new file (WriteAt p at bytes)) (sym same) (λ m s. own_write path back old new file place keeps at bytes s) may step
one_step path back keeps (WriteAt other at bytes) old new file place aside (inr apart) may step = beside path back old new file place (WriteAt other at bytes) (aside (λ name found. apart found name))
one_step path back keeps (SetSize other size) old new file place aside (inl same) may step =
    subst (λ p. Goes path back keeps old new file (SetSize p size)) (sym same) (λ m s. own_size path back old new file place keeps size s) may step
one_step path back keeps (SetSize other size) old new file place aside (inr apart) may step = beside path back old new file place (SetSize other size) (aside (λ name found. apart found name))
one_step path back keeps (SetStamp other stamp) old new file place aside (inl same) may step =
    subst (λ p. Goes path back keeps old new file (SetStamp p stamp)) (sym same) (λ m s. own_stamp path back old new file place keeps stamp s) may step
one_step path back keeps (SetStamp other stamp) old new file place aside (inr apart) may step = beside path back old new file place (SetStamp other stamp) (aside (λ name found. apart found name))
one_step path back keeps (Rename other to) old new file place aside (inl same) may step =
    subst (λ p. Goes path back keeps old new file (Rename p to)) (sym same) (λ m s. own_rename path back old new file place keeps to (m refl) s) may step
one_step path back keeps (Rename other to) old new file place aside (inr apart) may step = beside path back old new file place (Rename other to) (aside (λ name found. apart found name))

-- ---- all calls

-- in the place of PATH stands a file with each byte of another that no call touched
pub record StandsPlaced (path : List ℕ) (calls : List FolderDone) (before : File) (new : Tree) : Type 0 where
  pub after : File
  pub there : file_placed new path ≡ Some after
  pub keeps : KeepsUntouched path calls before after

steps : UnnamedStay → (path : List ℕ) (back : Bool) (keeps : Stamp → Bool) (calls : List FolderDone) (old new : Tree) (file : File) → IsPlaced path back file old
    → EachCall (IsOwnOrApart path) calls → EachCall (KeepsPlace path back) calls → MayBeLeft keeps calls old new → StandsPlaced path calls file new
steps unnamed path back keeps [] old new file place own may left = record {
  after = file;
  there = ap (λ (t : Tree). file_placed t path) left ∙ place.placed;
  keeps = λ i below each. (below, refl);
}
steps unnamed path back keeps (done ∷ calls) old new file place own may left =
    let mid : Tree = left.0 in
    let aside : Aside path done.call old mid = λ alone name. unnamed keeps (done ∷ []) old mid (path_of path name)
    (All-cons (λ (d : FolderDone). LeavesAlone (path_of path name) d.call) done [] (alone name) (All-nil (λ (d : FolderDone). LeavesAlone (path_of path name) d.call)))
    (mid, left.1, left.2, refl) in
    let one = one_step path back keeps done.call old mid file place aside
    (All-head (λ (d : FolderDone). IsOwnOrApart path d.call) done calls own)
    (All-head (λ (d : FolderDone). KeepsPlace path back d.call) done calls may)
    left.2 in
    let rest = steps unnamed path back keeps calls mid new one.0 one.1
    (All-tail (λ (d : FolderDone). IsOwnOrApart path d.call) done calls own)
    (All-tail (λ (d : FolderDone). KeepsPlace path back d.call) done calls may)
    left.3 in
    record {
      after = rest.after;
      there = rest.there;
      keeps = λ i below each.
          let first = one.2 i below (All-head (λ (d : FolderDone). IsUntouchedBy path i d.call) done calls each) in
          let then = rest.keeps i first.0 (All-tail (λ (d : FolderDone). IsUntouchedBy path i d.call) done calls each) in
          (then.0, then.1 ∙ first.1);
    }

-- PATH's file, where no other is made, and none is renamed back over it
pub plain_stays : UnnamedStay → (keeps : Stamp → Bool) (path : List ℕ) (calls : List FolderDone) (old new : Tree) (file : File) → file_placed old path ≡ Some file
    → EachCall (IsOwnOrApart path) calls → EachCall (KeepsPlace path false) calls → MayBeLeft keeps calls old new → StandsPlaced path calls file new
plain_stays unnamed keeps path calls old new file placed own may left =
    steps unnamed path false keeps calls old new file (record { placed = placed; alone = λ back. never back }) own may left

-- the lost file of a PATH that isn't there
pub lost_stays : UnnamedStay → (keeps : Stamp → Bool) (path : List ℕ) (calls : List FolderDone) (old new : Tree) (file : File) → file_placed old path ≡ Some file → file_of old (path_of path false) ≡ None
    → EachCall (IsOwnOrApart path) calls → EachCall (KeepsPlace path true) calls → MayBeLeft keeps calls old new → StandsPlaced path calls file new
lost_stays unnamed keeps path calls old new file placed free own may left =
    steps unnamed path true keeps calls old new file (record { placed = placed; alone = λ back. inl free }) own may left
