-- What each step of a finish does to its folder: by its calls, and by what they make of the files.
use Rattle.std.proofs.Common.{◌≡◌, ◌≢◌, ◌⊎◌, inl, inr, ℕ, ◌==◌, List, [], ◌∷◌, ◌++◌, if◌then◌else◌, Bool, true, false, not, ◌||◌, cond, Option, None, Result, IfOk, IfErr, Err, IsTrue, refl, sym, ◌∙◌, ap, ap₂, subst}
use Rattle.std.proofs.lemmas.List.{append-nil}
use Rattle.disk_model.specs.Bytes.{resized}
use Rattle.disk_model.specs.Answer.{done_answer, file_answer}
use Rattle.disk_model.specs.Folder.{FolderView, FolderCall, IsFolder, Make, Rename, SetSize, SetStamp, MissingExactly}
use Rattle.disk_model.specs.declared.answer.Answer.TheVariants as answers
use Rattle.disk_model.specs.declared.answer.Answer.TheVariants.{Done}
use Rattle.disk_model.specs.Tree.{Tree, file_of, path_of}
use Rattle.disk_model.specs.Writing.{IsFolderWrite, Does}
use Rattle.disk_model.specs.declared.fault.FileFault.{FileFault}
use Rattle.disk_model.specs.declared.meta.Meta.{Meta}
use Rattle.disk_model.specs.declared.meta.Stamp.{Stamp}
use Rattle.disk_model.proofs.AnsweredLemmas.{no_stamp_set}
use Rattle.disk_model.proofs.TreeLemmas.{own_name}
use Rattle.stripe_reader.specs.declared.starts.Start.{Start}
use Rattle.stripe_reader.specs.declared.starts.Place.{Place}
use Rattle.stripe_reader.specs.declared.starts.Place.TheVariants.{Plain, Lost, Nowhere}
use Rattle.file_restorer.specs.declared.finishing.Finish.{Finish}
use Rattle.file_restorer.specs.declared.finishing.Finish.TheVariants.{Kept, Renamed}
use Rattle.file_restorer.specs.declared.state.FileState.{FileState}
use Rattle.file_restorer.specs.Breaking.{StepFails}
use Rattle.file_restorer.specs.Finishing.{HoldsFinished, IsFinishCall, IsWholeCall, bytes_now, finish_calls, finish_of, is_changed, is_stamped, lost_after, lost_calls, lost_finish, same_stamp, size_calls, stamped_finish, whole_calls, whole_finish}
use Rattle.file_restorer.specs.FinishSteps.{BreaksBy, FinishesBy, FitsSize, IsLostCall, IsPlaced, IsPutCall, IsReady, IsSizeCall, SetsUp, SizesBy, Stands}
use Rattle.file_restorer.specs.Order.{FolderWrites, put_calls, set_up_calls}
use Rattle.file_restorer.specs.State.{StepMakes, stands}
use Rattle.file_restorer.proofs.FinishCallsLemmas.{breaks_before, breaks_one, breaks_then, breaks_wider, when_ok}
use Rattle.file_restorer.proofs.FolderCallLemmas.{others_same, step_none, step_then, step_wider, step_write}
use Rattle.file_restorer.proofs.FolderFailsLemmas.{fails_one}
use Rattle.file_restorer.proofs.OrderLemmas.{writes_none, writes_one, writes_then}
use Rattle.file_restorer.proofs.FinishTreeLemmas.{holds_stamped, same_names, some_is_some, stands_lost, stands_made, stands_moved, stands_sized, stands_stamped, stands_there}

-- ---- a file is put under its path

-- it stands there
pub sets_up_nothing : (path : List ℕ) (place : Place) (touched : Bool) (old : FolderView) → IsPlaced path place touched old → stands place touched ≡ true → SetsUp path place touched old old
sets_up_nothing path place touched old placed standing = record {
  makes = subst (λ (b : Bool). StepMakes (IsPutCall place touched path) (if b then [] else set_up_calls place path) false old old) (sym standing)
      (step_none (IsPutCall place touched path) old);
  stays = λ there told. refl;
  stand = λ told. stands_there path place touched old.tree (placed.tree told) standing;
  wrote = subst (λ (b : Bool). FolderWrites (if b then [] else set_up_calls place path) old old) (sym standing) (writes_none old);
}

-- it is renamed back
pub sets_up_back : {T : Type 0} (path : List ℕ) (place : Place) (touched : Bool) (result : Result T FileFault) (old new : FolderView) → IsFolder new → IsPlaced path place touched old
    → place ≡ Lost → IsFolderWrite (Rename path false) (done_answer result) old new → IfOk result (λ _. SetsUp path place touched old new)
sets_up_back path place touched result old new formed placed lost wrote = when_ok (λ _. Done) result (Rename path false) old new (SetsUp path place touched old new) wrote (λ given made.
    let placed_lost : IsPlaced path Lost touched old = subst (λ (p : Place). IsPlaced path p touched old) lost placed in
    let sets : SetsUp path Lost touched old new = record {
      makes = step_write (IsPutCall Lost touched path) false formed made refl refl (refl, inl (refl, refl));
      stays = λ standing. absurd (let clash : false ≡ true = standing in cc);
      stand = λ told. stands_moved path touched old.tree new.tree (placed_lost.tree told) (made.does refl told);
      wrote = writes_one (Rename path false) refl made;
    } in subst (λ (p : Place). SetsUp path p touched old new) (sym lost) sets)

pub breaks_back : {T : Type 0} (path : List ℕ) (place : Place) (touched : Bool) (result : Result T FileFault) (old new : FolderView) → IsFolder new → IsPlaced path place touched old
    → place ≡ Lost → IsFolderWrite (Rename path false) (done_answer result) old new → MissingExactly result old (path_of path true)
    → IfErr result (λ fault. BreaksBy fault (IsPutCall place touched path) (put_calls place touched path) old new)
breaks_back path place touched result old new formed placed lost wrote missing =
    subst (λ (p : Place). IfErr result (λ fault. BreaksBy fault (IsPutCall place touched path) (put_calls p touched path) old new)) (sym lost)
    (breaks_one (λ _. Done) result (IsPutCall place touched path) (Rename path false) (path_of path true) old new formed wrote missing (λ told. (placed.tree told).lost lost) refl
    (ap (λ (p : Place). stands p touched) lost, inl (lost, refl)))

-- it is made
nowhere : (place : Place) (touched : Bool) → stands place touched ≡ false → (place ≡ Plain) ⊎ (place ≡ Nowhere) → (place ≡ Nowhere) × (touched ≡ false)
nowhere Plain touched absent either = absurd (cc)
nowhere Nowhere touched absent either = (refl, absent)
nowhere Lost touched absent (inl is) = absurd (cc)
nowhere Lost touched absent (inr is) = absurd (cc)

pub sets_up_new : (path : List ℕ) (place : Place) (touched : Bool) (old new : FolderView) → IsFolder new → IsPlaced path place touched old → stands place touched ≡ false
    → (place ≡ Plain) ⊎ (place ≡ Nowhere) → IsFolderWrite (Make path) Done old new → SetsUp path place touched old new
sets_up_new path place touched old new formed placed absent either wrote =
    let is = nowhere place touched absent either in
    let placed_nowhere : IsPlaced path Nowhere touched old = subst (λ (p : Place). IsPlaced path p touched old) is.0 placed in
    let sets : SetsUp path Nowhere touched old new = record {
      makes = subst (λ (b : Bool). StepMakes (IsPutCall Nowhere touched path) (if b then [] else Make path ∷ []) false old new) (sym is.1)
          (step_write (IsPutCall Nowhere touched path) false formed wrote refl refl (is.1, inr (refl, refl)));
      stays = λ standing. absurd (let clash : true ≡ false = sym standing ∙ is.1 in cc);
      stand = λ told. let made = wrote.does refl told in stands_made path touched made.0 old.tree new.tree (placed_nowhere.tree told) is.1 made.1;
      wrote = subst (λ (b : Bool). FolderWrites (if b then [] else Make path ∷ []) old new) (sym is.1) (writes_one (Make path) refl wrote);
    } in subst (λ (p : Place). SetsUp path p touched old new) (sym is.0) sets

pub breaks_new : (path : List ℕ) (place : Place) (touched : Bool) (old new : FolderView) → IsFolder new → stands place touched ≡ false → (place ≡ Plain) ⊎ (place ≡ Nowhere)
    → IsFolderWrite (Make path) answers.Failed old new → StepFails (IsPutCall place touched path) (put_calls place touched path) old new
breaks_new path place touched old new formed absent either wrote =
    let is = nowhere place touched absent either in
    subst (λ (p : Place). StepFails (IsPutCall place touched path) (put_calls p touched path) old new) (sym is.0)
    (subst (λ (b : Bool). StepFails (IsPutCall place touched path) (if b then [] else Make path ∷ []) old new) (sym is.1)
    (fails_one (IsPutCall place touched path) (Make path) old new (absent, inr (is.0, refl)) refl formed wrote))

-- ---- its size is set

-- it has it
pub size_kept : (path : List ℕ) (before size : ℕ) (old : FolderView) → (before == size) ≡ true → FitsSize path before size old old
size_kept path before size old same = record {
  makes = subst (λ (b : Bool). StepMakes (IsSizeCall path before size) (if b then [] else SetSize path size ∷ []) false old old) (sym same)
      (step_none (IsSizeCall path before size) old);
  tree = λ told. subst (λ (b : Bool). SizesBy b path size old.tree old.tree) (sym same) refl;
  wrote = subst (λ (b : Bool). FolderWrites (if b then [] else SetSize path size ∷ []) old old) (sym same) (writes_none old);
}

-- it differs
pub size_set : {T : Type 0} (path : List ℕ) (before size : ℕ) (result : Result T FileFault) (old new : FolderView) → IsFolder new → (before == size) ≡ false
    → IsFolderWrite (SetSize path size) (done_answer result) old new → IfOk result (λ _. FitsSize path before size old new)
size_set path before size result old new formed other wrote = when_ok (λ _. Done) result (SetSize path size) old new (FitsSize path before size old new) wrote (λ given made.
    record {
      makes = subst (λ (b : Bool). StepMakes (IsSizeCall path before size) (if b then [] else SetSize path size ∷ []) false old new) (sym other)
          (step_write (IsSizeCall path before size) false formed made refl refl (other, refl));
      tree = λ told. subst (λ (b : Bool). SizesBy b path size old.tree new.tree) (sym other) (made.does refl told);
      wrote = subst (λ (b : Bool). FolderWrites (if b then [] else SetSize path size ∷ []) old new) (sym other) (writes_one (SetSize path size) refl made);
    })

pub breaks_size : {T : Type 0} (path : List ℕ) (before size : ℕ) (result : Result T FileFault) (old new : FolderView) → IsFolder new → (before == size) ≡ false
    → IsFolderWrite (SetSize path size) (done_answer result) old new → MissingExactly result old path → (IsTrue old.tells → file_of old.tree path ≢ None)
    → IfErr result (λ fault. BreaksBy fault (IsSizeCall path before size) (size_calls before size path) old new)
breaks_size path before size result old new formed other wrote missing there =
    subst (λ (b : Bool). IfErr result (λ fault. BreaksBy fault (IsSizeCall path before size) (if b then [] else SetSize path size ∷ []) old new)) (sym other)
    (breaks_one (λ _. Done) result (IsSizeCall path before size) (SetSize path size) path old new formed wrote missing there refl (other, refl))

-- ---- the calls of a whole file

module _ (path : List ℕ) (listed : Option Meta) (meta : Meta) (start : Start) (state : FileState) where
  abbrev pub Whole : FolderCall → Type 0
  Whole = IsWholeCall listed start state path meta

  abbrev pub Put : FolderCall → Type 0
  Put = IsPutCall start.place state.touched path

  abbrev pub Size : FolderCall → Type 0
  Size = IsSizeCall path state.size meta.size

  of_put : (call : FolderCall) → Put call → Whole call
  of_put call (absent, inl back) = inl back
  of_put call (absent, inr (none, made)) = inr (inl (absent, none, made))

  of_size : (call : FolderCall) → Size call → Whole call
  of_size call is = inr (inr (inl is))

  abbrev puts : List FolderCall
  puts = put_calls start.place state.touched path

  abbrev sizes : List FolderCall
  sizes = size_calls state.size meta.size path

  abbrev stamps : List FolderCall
  stamps = if is_stamped meta listed start state then SetStamp path meta.stamp ∷ [] else []

  -- a file is not put under its path
  pub whole_not_set_up : (fault : FileFault) (old new : FolderView) → BreaksBy fault Put puts old new → BreaksBy fault Whole (whole_calls listed start state path meta) old new
  whole_not_set_up fault old new broke =
      breaks_before fault Whole (puts ++ sizes) stamps old new
      (breaks_before fault Whole puts sizes old new (breaks_wider fault Put Whole puts old new of_put broke))

  -- its size is not set
  pub whole_not_sized : (fault : FileFault) (old mid new : FolderView) → SetsUp path start.place state.touched old mid → BreaksBy fault Size sizes mid new
      → BreaksBy fault Whole (whole_calls listed start state path meta) old new
  whole_not_sized fault old mid new sets broke =
      breaks_before fault Whole (puts ++ sizes) stamps old new
      (breaks_then fault Whole puts sizes old mid new (step_wider Put Whole puts false of_put sets.makes) (breaks_wider fault Size Whole sizes mid new of_size broke))

-- ---- the file stands whole, but for its stamp

-- These calls were made, it stands under its path with its size, and nothing changed where nothing was to be done.
pub record IsFit (path : List ℕ) (listed : Option Meta) (meta : Meta) (start : Start) (state : FileState) (old new : FolderView) : Type 0 where
  pub makes : StepMakes (IsWholeCall listed start state path meta) (put_calls start.place state.touched path ++ size_calls state.size meta.size path) false old new
  pub stand : IsTrue old.tells
      → Stands path (resized (bytes_now old.tree path) meta.size) (lost_after start.place (file_of old.tree (path_of path true))) old.tree new.tree
  pub stays : is_changed meta start state ≡ false → IsTrue old.tells → new.tree ≡ old.tree
  pub wrote : FolderWrites (put_calls start.place state.touched path ++ size_calls state.size meta.size path) old new

pub unchanged : (touched standing same : Bool) → (touched || not standing || not same) ≡ false → (touched ≡ false) × (standing ≡ true) × (same ≡ true)
unchanged false true true none = (refl, refl, refl)
unchanged false true false none = absurd (cc)
unchanged false false same none = absurd (cc)
unchanged true standing same none = absurd (cc)

size_stays : (same : Bool) (path : List ℕ) (size : ℕ) (old new : Tree) → same ≡ true → SizesBy same path size old new → new ≡ old
size_stays true path size old new is stays = stays
size_stays false path size old new is changes = absurd (cc)

pub is_fit : (path : List ℕ) (listed : Option Meta) (meta : Meta) (start : Start) (state : FileState) (old mid new : FolderView) → IsReady path listed meta start state old
    → SetsUp path start.place state.touched old mid → FitsSize path state.size meta.size mid new → IsFit path listed meta start state old new
is_fit path listed meta start state old mid new ready sets fits = record {
  makes = step_then (IsWholeCall listed start state path meta) false
      (step_wider (IsPutCall start.place state.touched path) (IsWholeCall listed start state path meta) (put_calls start.place state.touched path) false (of_put path listed meta start state) sets.makes)
      (step_wider (IsSizeCall path state.size meta.size) (IsWholeCall listed start state path meta) (size_calls state.size meta.size path) false (of_size path listed meta start state) fits.makes);
  stand = λ told.
      stands_sized path (bytes_now old.tree path) (lost_after start.place (file_of old.tree (path_of path true))) meta.size state.size old.tree mid.tree new.tree
      (sets.stand told) (ready.fits told).size (fits.tree (sets.makes.goes_on.tells ∙ told));
  stays = λ none told.
      let is = unchanged state.touched (stands start.place state.touched) (state.size == meta.size) none in
      size_stays (state.size == meta.size) path meta.size mid.tree new.tree is.2 (fits.tree (sets.makes.goes_on.tells ∙ told)) ∙ sets.stays is.1 told;
  wrote = writes_then (put_calls start.place state.touched path) (size_calls state.size meta.size path) sets.wrote fits.wrote;
}

-- a file stands there whose stamp can be set
fit_there : (path : List ℕ) (listed : Option Meta) (meta : Meta) (start : Start) (state : FileState) (old new : FolderView) → IsFit path listed meta start state old new → IsTrue new.tells
    → file_of new.tree path ≢ None
fit_there path listed meta start state old new fit told = some_is_some (ap (file_of new.tree) (sym (own_name path)) ∙ (fit.stand (sym fit.makes.goes_on.tells ∙ told)).there)

-- its stamp is due
stamp_due : (listed : Option Meta) (meta : Meta) (start : Start) (state : FileState) (changed : Bool) → changed ≡ is_changed meta start state
    → (changed || not (same_stamp meta.stamp listed)) ≡ true → is_stamped meta listed start state ≡ true
stamp_due listed meta start state changed changed_is needed = ap (λ (b : Bool). b || not (same_stamp meta.stamp listed)) (sym changed_is) ∙ needed

of_stamp : (path : List ℕ) (listed : Option Meta) (meta : Meta) (start : Start) (state : FileState) → is_stamped meta listed start state ≡ true
    → IsWholeCall listed start state path meta (SetStamp path meta.stamp)
of_stamp path listed meta start state due = inr (inr (inr (due, refl)))

-- its stamp is not set
pub whole_not_stamped : (fault : FileFault) (path : List ℕ) (listed : Option Meta) (meta : Meta) (start : Start) (state : FileState) (changed : Bool) (old mid new : FolderView) → IsFolder new
    → IsFit path listed meta start state old mid → changed ≡ is_changed meta start state → (changed || not (same_stamp meta.stamp listed)) ≡ true
    → IsFolderWrite (SetStamp path meta.stamp) (file_answer {T = Bool} answers.Kept (Err fault)) mid new → MissingExactly {T = Bool} (Err fault) mid path
    → BreaksBy fault (IsWholeCall listed start state path meta) (whole_calls listed start state path meta) old new
whole_not_stamped fault path listed meta start state changed old mid new formed fit changed_is needed wrote missing =
    let Whole = IsWholeCall listed start state path meta in
    let calls = put_calls start.place state.touched path ++ size_calls state.size meta.size path in
    let due = stamp_due listed meta start state changed changed_is needed in
    subst (λ (b : Bool). BreaksBy fault Whole (calls ++ (if b then SetStamp path meta.stamp ∷ [] else [])) old new) (sym due)
    (breaks_then fault Whole calls (SetStamp path meta.stamp ∷ []) old mid new fit.makes
    (breaks_one {T = Bool} answers.Kept (Err fault) Whole (SetStamp path meta.stamp) path mid new formed wrote missing (fit_there path listed meta start state old mid fit) refl
    (of_stamp path listed meta start state due)))

-- ---- it is finished

-- its calls, by whether its stamp is set
stamped_calls : (path : List ℕ) (listed : Option Meta) (meta : Meta) (start : Start) (state : FileState) (set : Bool) (old new : FolderView) → is_stamped meta listed start state ≡ set
    → FolderWrites ((put_calls start.place state.touched path ++ size_calls state.size meta.size path) ++ (if set then SetStamp path meta.stamp ∷ [] else [])) old new
    → FolderWrites (whole_calls listed start state path meta) old new
stamped_calls path listed meta start state set old new is wrote =
    subst (λ (b : Bool). FolderWrites ((put_calls start.place state.touched path ++ size_calls state.size meta.size path) ++ (if b then SetStamp path meta.stamp ∷ [] else [])) old new) (sym is) wrote

or_left : (a b : Bool) → (a || b) ≡ false → a ≡ false
or_left true b none = none
or_left false b none = refl

-- nothing is left to be done
pub whole_kept : (path : List ℕ) (listed : Option Meta) (meta : Meta) (start : Start) (state : FileState) (changed : Bool) (old new : FolderView) → IsFit path listed meta start state old new
    → changed ≡ is_changed meta start state → (changed || not (same_stamp meta.stamp listed)) ≡ false
    → FinishesBy (whole_finish meta listed start state old.keeps) Kept (IsWholeCall listed start state path meta) (whole_calls listed start state path meta) meta start state path old new
whole_kept path listed meta start state changed old new fit changed_is none =
    let same = not (same_stamp meta.stamp listed) in
    let needless : (is_changed meta start state || same) ≡ false = ap (λ (b : Bool). b || same) (sym changed_is) ∙ none in
    let stays = fit.stays (or_left (is_changed meta start state) same needless) in
    let calls = put_calls start.place state.touched path ++ size_calls state.size meta.size path in
    record {
      is = sym (ap (λ (b : Bool). cond b (stamped_finish (is_changed meta start state) (old.keeps meta.stamp)) Kept) needless);
      makes = subst (λ (b : Bool). StepMakes (IsWholeCall listed start state path meta) (calls ++ (if b then SetStamp path meta.stamp ∷ [] else [])) false old new) (sym needless)
          (subst (λ (its : List FolderCall). StepMakes (IsWholeCall listed start state path meta) its false old new) (sym (append-nil calls)) fit.makes);
      holds = λ told. same_names path old.tree new.tree (stays told);
      others = λ told. others_same path old.tree new.tree (stays told);
      wrote = stamped_calls path listed meta start state false old new needless
          (subst (λ (calls : List FolderCall). FolderWrites calls old new) (sym (append-nil (put_calls start.place state.touched path ++ size_calls state.size meta.size path))) fit.wrote);
    }

-- its stamp is set, where it is kept
pub whole_stamped : (path : List ℕ) (listed : Option Meta) (meta : Meta) (start : Start) (state : FileState) (changed stamped : Bool) (finish : Finish) (old mid new : FolderView) → IsFolder new
    → IsFit path listed meta start state old mid → changed ≡ is_changed meta start state → (changed || not (same_stamp meta.stamp listed)) ≡ true
    → IsFolderWrite (SetStamp path meta.stamp) (answers.Kept stamped) mid new → stamped ≡ mid.keeps meta.stamp → finish ≡ stamped_finish changed stamped
    → FinishesBy (whole_finish meta listed start state old.keeps) finish (IsWholeCall listed start state path meta) (whole_calls listed start state path meta) meta start state path old new
whole_stamped path listed meta start state changed stamped finish old mid new formed fit changed_is needed wrote stamped_is finish_is =
    let change = is_changed meta start state in
    let keeps = old.keeps in
    let same = not (same_stamp meta.stamp listed) in
    let kept : mid.keeps ≡ keeps = fit.makes.goes_on.keeps in
    let due : is_stamped meta listed start state ≡ true = stamp_due listed meta start state changed changed_is needed in
    let Whole = IsWholeCall listed start state path meta in
    let is : finish ≡ stamped_finish change (keeps meta.stamp) = finish_is ∙ ap₂ stamped_finish changed_is (stamped_is ∙ ap (λ (k : Stamp → Bool). k meta.stamp) kept) in
    let does = λ (told : IsTrue old.tells).
    subst (λ (k : Stamp → Bool). Does k (SetStamp path meta.stamp) mid.tree new.tree) kept (wrote.does refl (fit.makes.goes_on.tells ∙ told)) in
    let both = λ (told : IsTrue old.tells). stands_stamped path (bytes_now old.tree path) start.place keeps meta old.tree mid.tree new.tree (fit.stand told) (does told) in
    let unkept = λ (told : IsTrue old.tells) (none : change ≡ false) (no : keeps meta.stamp ≡ false).
    same_names path old.tree new.tree
    (no_stamp_set keeps path meta.stamp mid.tree new.tree no (does told) ∙ fit.stays none told) in
    record {
      is = is ∙ sym (ap (λ (b : Bool). cond b (stamped_finish change (keeps meta.stamp)) Kept) due);
      makes = subst (λ (b : Bool). StepMakes Whole ((put_calls start.place state.touched path ++ size_calls state.size meta.size path) ++ (if b then SetStamp path meta.stamp ∷ [] else [])) false old new)
          (sym due) (step_then Whole false fit.makes (step_write Whole false formed wrote refl refl (of_stamp path listed meta start state due)));
      holds = λ told.
          subst (λ (f : Finish). HoldsFinished f keeps meta start state (bytes_now old.tree path) path old.tree new.tree) (sym is)
          (holds_stamped change keeps meta start state (bytes_now old.tree path) path old.tree new.tree (both told).0 (unkept told));
      others = λ told. (both told).1;
      wrote = stamped_calls path listed meta start state true old new due
          (writes_then (put_calls start.place state.touched path ++ size_calls state.size meta.size path) (SetStamp path meta.stamp ∷ []) fit.wrote (writes_one (SetStamp path meta.stamp) refl (subst (λ (b : Bool). IsFolderWrite (SetStamp path meta.stamp) (answers.Kept b) mid new) stamped_is wrote)));
    }

-- ---- a file with a lost block

pub lost_renamed : (path : List ℕ) (meta : Meta) (start : Start) (state : FileState) (old new : FolderView) → IsFolder new → IsPlaced path start.place state.touched old
    → stands start.place state.touched ≡ true → IsFolderWrite (Rename path true) Done old new
    → FinishesBy (lost_finish start state) Renamed (IsLostCall start state path) (lost_calls start state path) meta start state path old new
lost_renamed path meta start state old new formed placed standing wrote =
    let both = λ (told : IsTrue old.tells). stands_lost path old.tree new.tree ((placed.tree told).plain standing) (wrote.does refl told) in
    record {
      is = sym (ap (λ (b : Bool). cond b Renamed Kept) standing);
      makes = subst (λ (b : Bool). StepMakes (IsLostCall start state path) (if b then Rename path true ∷ [] else []) false old new) (sym standing)
          (step_write (IsLostCall start state path) false formed wrote refl refl (standing, refl));
      holds = λ told. (both told).0;
      others = λ told. (both told).1;
      wrote = subst (λ (b : Bool). FolderWrites (if b then Rename path true ∷ [] else []) old new) (sym standing) (writes_one (Rename path true) refl wrote);
    }

-- it does not stand under its path
pub lost_kept : (path : List ℕ) (meta : Meta) (start : Start) (state : FileState) (old : FolderView) → stands start.place state.touched ≡ false
    → FinishesBy (lost_finish start state) Kept (IsLostCall start state path) (lost_calls start state path) meta start state path old old
lost_kept path meta start state old absent = record {
  is = sym (ap (λ (b : Bool). cond b Renamed Kept) absent);
  makes = subst (λ (b : Bool). StepMakes (IsLostCall start state path) (if b then Rename path true ∷ [] else []) false old old) (sym absent)
      (step_none (IsLostCall start state path) old);
  holds = λ told. same_names path old.tree old.tree refl;
  others = λ told. others_same path old.tree old.tree refl;
  wrote = subst (λ (b : Bool). FolderWrites (if b then Rename path true ∷ [] else []) old old) (sym absent) (writes_none old);
}

pub lost_not_renamed : (fault : FileFault) (path : List ℕ) (start : Start) (state : FileState) (old new : FolderView) → IsFolder new → IsPlaced path start.place state.touched old
    → stands start.place state.touched ≡ true → IsFolderWrite (Rename path true) (done_answer {T = Unit {0}} (Err fault)) old new → MissingExactly {T = Unit {0}} (Err fault) old (path_of path false)
    → BreaksBy fault (IsLostCall start state path) (lost_calls start state path) old new
lost_not_renamed fault path start state old new formed placed standing wrote missing =
    subst (λ (b : Bool). BreaksBy fault (IsLostCall start state path) (if b then Rename path true ∷ [] else []) old new) (sym standing)
    (breaks_one {T = Unit {0}} (λ _. Done) (Err fault) (IsLostCall start state path) (Rename path true) (path_of path false) old new formed wrote missing
    (λ told. (placed.tree told).plain standing) refl (standing, refl))

-- ---- a file with or without one

pub file_finished : (result : Result Finish FileFault) (lost : Bool) (path : List ℕ) (listed : Option Meta) (meta : Meta) (start : Start) (state : FileState) (old new : FolderView) → state.lost ≡ lost
    → IfOk result (λ finish. FinishesBy (cond lost (lost_finish start state) (whole_finish meta listed start state old.keeps)) finish (IsFinishCall lost listed start state path meta)
    (finish_calls lost listed start state path meta) meta start state path old new)
    → IfOk result (λ finish. FinishesBy (finish_of meta listed start state old.keeps) finish (IsFinishCall state.lost listed start state path meta)
    (finish_calls state.lost listed start state path meta) meta start state path old new)
file_finished result lost path listed meta start state old new is done =
    subst (λ (l : Bool). IfOk result (λ (finish : Finish). FinishesBy (cond l (lost_finish start state) (whole_finish meta listed start state old.keeps)) finish
    (IsFinishCall l listed start state path meta) (finish_calls l listed start state path meta) meta start state path old new)) (sym is) done
