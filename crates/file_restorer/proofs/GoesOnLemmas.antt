-- What each call of a mended record makes of its folder, and what comes of several.
use Rattle.std.proofs.Common.{◌≡◌, inl, inr, ℕ, ◌+◌, max, List, [], ◌∷◌, ◌++◌, length, Bool, true, false, IsTrue, if◌then◌else◌, Result, Ok, Err, refl, sym, ◌∙◌, ap, subst}
use Rattle.std.proofs.lemmas.List.{append-nil}
use Rattle.std.specs.Prelude.{IfErr}
use Rattle.std.specs.Result.{IsErrAnd}
use Rattle.disk_model.specs.Answer.{done_answer}
use Rattle.disk_model.specs.Folder.{FolderView, FolderCall, Make, WriteAt, Rename, IsFolder, MissingExactly}
use Rattle.disk_model.specs.declared.answer.Answer.TheVariants as answers
use Rattle.disk_model.specs.declared.answer.Answer.TheVariants.{Done}
use Rattle.disk_model.specs.Tree.{Tree, file_of, path_of}
use Rattle.disk_model.specs.Writing.{IsFolderWrite}
use Rattle.disk_model.specs.declared.fault.FileFault.{FileFault}
use Rattle.disk_model.specs.declared.fault.FileFault.TheVariants.{Failed, Missing}
use Rattle.disk_model.proofs.TreeLemmas.{own_name}
use Rattle.stripe_reader.specs.declared.starts.Start.{Start}
use Rattle.stripe_reader.specs.declared.starts.Place.{Place}
use Rattle.stripe_reader.specs.declared.starts.Place.TheVariants.{Lost, Nowhere}
use Rattle.file_restorer.specs.declared.state.FileState.{FileState}
use Rattle.file_restorer.specs.Breaking.{StepFails}
use Rattle.file_restorer.specs.Mending.{IsSetUpCall, IsBlockCall, CanSetUp, GoesOnBy, SetsUp, WritesBytes, EndsBy}
use Rattle.file_restorer.specs.Order.{FolderWrites, block_calls, put_calls, set_up_calls}
use Rattle.file_restorer.specs.State.{Write, HoldsRecord, StaysPlace, StepMakes, stands}
use Rattle.file_restorer.proofs.FolderCallLemmas.{others_same, others_then, others_changed, others_made, others_renamed, step_before, step_none, step_then, step_wider, step_write}
use Rattle.file_restorer.proofs.FolderFailsLemmas.{fails_one, step_fails_before, step_fails_then, step_fails_wider}
use Rattle.file_restorer.proofs.MendedRecordLemmas.{plain_start, touched_state, written_state, lost_there, plain_there, renamed_back, made_anew, written_more}
use Rattle.file_restorer.proofs.OrderLemmas.{writes_none, writes_one, writes_then}

-- the fault of a call that is handed on
pub handed_on : {T E : Type 0} (result : Result T E) (Q : E → Type 0) (fault : E) → IsErrAnd result (λ e. e ≡ fault) → Q fault → IfErr result Q
handed_on (Ok x) Q fault is held = tt
handed_on (Err e) Q fault is held = subst Q (sym is) held

not_told : (told : Bool) → ¬ (IsTrue told) → told ≡ false
not_told true none = absurd (none cc)
not_told false none = refl

module _ (path : List ℕ) (start : Start) (state : FileState) (old : FolderView) where
  -- nothing was done
  pub goes_nowhere : (P : FolderCall → Type 0) → GoesOnBy P [] false [] path start state old start state old
  goes_nowhere P = record {
    makes = step_none P old;
    same_size = refl;
    stood = inl refl;
    size = refl;
    same_lost = refl;
    stays_touched = λ touched. touched;
    holds = λ told first writes held. subst (λ (ws : List Write). HoldsRecord start state ws path first old.tree) (sym (append-nil writes)) held;
    others = λ told. others_same path old.tree old.tree refl;
  }

  pub sets_up_nothing : stands start.place state.touched ≡ true → SetsUp path start state old start state old
  sets_up_nothing stand = record {
    goes_on = subst (λ (standing : Bool). GoesOnBy (IsSetUpCall start.place path) (if standing then [] else set_up_calls start.place path) false [] path start state old start state old) (sym stand)
        (goes_nowhere (IsSetUpCall start.place path));
    there = λ told. stand;
    wrote = subst (λ (standing : Bool). FolderWrites (if standing then [] else set_up_calls start.place path) old old) (sym stand) (writes_none old);
  }

  -- renamed back
  pub sets_up_renamed : (new : FolderView) → IsFolder new → start.place ≡ Lost → IsFolderWrite (Rename path false) Done old new
      → SetsUp path start state old (plain_start start) (touched_state state) new
  sets_up_renamed new formed lost call = record {
    goes_on = record {
      makes = subst (λ (place : Place). StepMakes (IsSetUpCall start.place path) (put_calls place state.touched path) false old new) (sym lost)
          (step_write (IsSetUpCall start.place path) false formed call refl refl (inl (lost, refl)));
      same_size = refl;
      stood = inr (lost, refl);
      size = refl;
      same_lost = refl;
      stays_touched = λ touched. refl;
      holds = λ told first writes held. subst (λ (ws : List Write). HoldsRecord (plain_start start) (touched_state state) ws path first new.tree) (sym (append-nil writes))
          (renamed_back start state writes path first old.tree held new.tree lost (call.does refl told));
      others = λ told. others_renamed path old.tree new.tree (call.does refl told);
    };
    there = λ told. refl;
    wrote = subst (λ (place : Place). FolderWrites (put_calls place state.touched path) old new) (sym lost) (writes_one (Rename path false) refl call);
  }

  -- made
  pub sets_up_made : (new : FolderView) → IsFolder new → start.place ≡ Nowhere → state.touched ≡ false → IsFolderWrite (Make path) Done old new
      → SetsUp path start state old start (touched_state state) new
  sets_up_made new formed nowhere untouched call = record {
    goes_on = record {
      makes = subst (λ (place : Place). StepMakes (IsSetUpCall start.place path) (put_calls place state.touched path) false old new) (sym nowhere)
          (subst (λ (touched : Bool). StepMakes (IsSetUpCall start.place path) (put_calls Nowhere touched path) false old new) (sym untouched)
          (step_write (IsSetUpCall start.place path) false formed call refl refl (inr (nowhere, refl))));
      same_size = refl;
      stood = inl refl;
      size = refl;
      same_lost = refl;
      stays_touched = λ touched. refl;
      holds = λ told first writes held. subst (λ (ws : List Write). HoldsRecord start (touched_state state) ws path first new.tree) (sym (append-nil writes))
          (let made = call.does refl told in made_anew start state writes path first old.tree held made.0 new.tree nowhere untouched made.1);
      others = λ told. let made = call.does refl told in others_made path made.0 old.tree new.tree made.1;
    };
    there = λ told. ap (λ (place : Place). stands place true) nowhere;
    wrote = subst (λ (place : Place). FolderWrites (put_calls place state.touched path) old new) (sym nowhere)
        (subst (λ (touched : Bool). FolderWrites (put_calls Nowhere touched path) old new) (sym untouched) (writes_one (Make path) refl call));
  }

  -- nothing is known of the files
  pub goes_untold : (P : FolderCall → Type 0) (calls : List FolderCall) (start_new : Start) (state_new : FileState) (new : FolderView) → old.tells ≡ false → StepMakes P calls true old new
      → start_new.size ≡ start.size → StaysPlace start.place start_new.place → state_new.size ≡ state.size → state_new.lost ≡ state.lost → (state.touched ≡ true → state_new.touched ≡ true)
      → GoesOnBy P calls true [] path start state old start_new state_new new
  goes_untold P calls start_new state_new new untold makes size stood state_size lost stays = record {
    makes = makes;
    same_size = size;
    stood = stood;
    size = state_size;
    same_lost = lost;
    stays_touched = stays;
    holds = λ told. absurd (clash told);
    others = λ told. absurd (clash told);
  }
    where
      clash : IsTrue old.tells → ⊥
      clash told = let same : IsTrue false = subst IsTrue untold told in absurd cc

-- ---- the answers of the two functions

-- the same calls are of a wider kind, and more were not made
pub ends_wider : (P Q : FolderCall → Type 0) (calls more : List FolderCall) → ((call : FolderCall) → P call → Q call) → (fault : FileFault) (path : List ℕ) (start : Start) (state : FileState)
    (old : FolderView) (start_new : Start) (state_new : FileState) (new : FolderView) → EndsBy fault P calls path start state old start_new state_new new
    → EndsBy fault Q (calls ++ more) path start state old start_new state_new new
ends_wider P Q calls more wider Failed path start state old start_new state_new new ends = step_fails_before Q calls more (step_fails_wider P Q calls wider ends)
ends_wider P Q calls more wider Missing path start state old start_new state_new new ends =
    let goes_on = ends.goes_on in
    record {
      untold = ends.untold;
      goes_on = record {
        makes = step_before Q calls more (step_wider P Q calls true wider goes_on.makes);
        same_size = goes_on.same_size;
        stood = goes_on.stood;
        size = goes_on.size;
        same_lost = goes_on.same_lost;
        stays_touched = goes_on.stays_touched;
        holds = goes_on.holds;
        others = goes_on.others;
      };
    }

module _ (path : List ℕ) (start : Start) (state : FileState) (old : FolderView) (can : CanSetUp path start state old) where
  -- the file under the other name was gone, or renaming it failed
  pub rename_ends : (fault : FileFault) (new : FolderView) → IsFolder new → start.place ≡ Lost → IsFolderWrite (Rename path false) (done_answer {T = Unit {0}} (Err fault)) old new
      → MissingExactly {T = Unit {0}} (Err fault) old (path_of path true)
      → EndsBy fault (IsSetUpCall start.place path) (put_calls start.place state.touched path) path start state old start state new
  rename_ends Failed new formed lost call missing =
      subst (λ (place : Place). StepFails (IsSetUpCall start.place path) (put_calls place state.touched path) old new) (sym lost)
      (fails_one (IsSetUpCall start.place path) (Rename path false) old new (inl (lost, refl)) refl formed call)
  rename_ends Missing new formed lost call missing =
      let untold = not_told old.tells (λ told. let far = can.so_far told in lost_there start state far.writes path far.first old.tree far.holds lost (missing told)) in
      record {
        untold = untold;
        goes_on = goes_untold path start state old (IsSetUpCall start.place path) (put_calls start.place state.touched path) start state new untold
            (subst (λ (place : Place). StepMakes (IsSetUpCall start.place path) (put_calls place state.touched path) true old new) (sym lost)
            (step_write (IsSetUpCall start.place path) true formed call refl refl (inl (lost, refl)))) refl (inl refl) refl refl (λ touched. touched);
      }

  -- making it failed
  pub make_fails : (new : FolderView) → IsFolder new → start.place ≡ Nowhere → state.touched ≡ false → IsFolderWrite (Make path) answers.Failed old new
      → EndsBy Failed (IsSetUpCall start.place path) (put_calls start.place state.touched path) path start state old start state new
  make_fails new formed nowhere untouched call =
      subst (λ (place : Place). StepFails (IsSetUpCall start.place path) (put_calls place state.touched path) old new) (sym nowhere)
      (subst (λ (touched : Bool). StepFails (IsSetUpCall start.place path) (put_calls Nowhere touched path) old new) (sym untouched)
      (fails_one (IsSetUpCall start.place path) (Make path) old new (inr (nowhere, refl)) refl formed call))

  module _ (start_mid : Start) (state_mid : FileState) (mid : FolderView) (set : SetsUp path start state old start_mid state_mid mid) (at : ℕ) (bytes : List ℕ) where
    abbrev Block : FolderCall → Type 0
    Block = IsBlockCall start.place path at bytes

    abbrev puts : List FolderCall
    puts = put_calls start.place state.touched path

    set_makes : StepMakes Block puts false old mid
    set_makes = step_wider (IsSetUpCall start.place path) Block puts false (λ call is. inr is) set.goes_on.makes

    set_holds : IsTrue old.tells → (first : Tree) (writes : List Write) → HoldsRecord start state writes path first old.tree → HoldsRecord start_mid state_mid writes path first mid.tree
    set_holds told first writes held = subst (λ (ws : List Write). HoldsRecord start_mid state_mid ws path first mid.tree) (append-nil writes) (set.goes_on.holds told first writes held)

    told_then : IsTrue old.tells → IsTrue mid.tells
    told_then told = subst IsTrue (sym set.goes_on.makes.goes_on.tells) told

    told_before : IsTrue mid.tells → IsTrue old.tells
    told_before told = subst IsTrue set.goes_on.makes.goes_on.tells told

    -- written
    pub writes_bytes : (new : FolderView) → IsFolder new → IsFolderWrite (WriteAt path at bytes) Done mid new
        → WritesBytes path at bytes start state old start_mid (written_state state_mid (at + length bytes)) new
    writes_bytes new formed call = record {
      goes_on = record {
        makes = step_then Block false set_makes (step_write Block false formed call refl refl (inl refl));
        same_size = set.goes_on.same_size;
        stood = set.goes_on.stood;
        size = ap (λ (n : ℕ). max n (at + length bytes)) set.goes_on.size;
        same_lost = set.goes_on.same_lost;
        stays_touched = λ touched. refl;
        holds = λ told first writes held.
            written_more start_mid state_mid writes path first mid.tree (set_holds told first writes held) at bytes new.tree (set.there told) (call.does refl (told_then told));
        others = λ told. others_then path old.tree mid.tree new.tree (set.goes_on.others told) (others_changed path _ mid.tree new.tree (call.does refl (told_then told)));
      };
      touched = refl;
      wrote = writes_then (put_calls start.place state.touched path) (WriteAt path at bytes ∷ []) set.wrote (writes_one (WriteAt path at bytes) refl call);
    }

    -- the file was gone, or the write failed
    pub write_ends : (fault : FileFault) (new : FolderView) → IsFolder new → IsFolderWrite (WriteAt path at bytes) (done_answer {T = Unit {0}} (Err fault)) mid new
        → MissingExactly {T = Unit {0}} (Err fault) mid path → EndsBy fault Block (block_calls start.place state.touched path at bytes) path start state old start_mid state_mid new
    write_ends Failed new formed call missing = step_fails_then Block puts (WriteAt path at bytes ∷ []) old mid new set_makes (fails_one Block (WriteAt path at bytes) mid new (inl refl) refl formed call)
    write_ends Missing new formed call missing = record {
      untold = untold;
      goes_on = goes_untold path start state old Block (block_calls start.place state.touched path at bytes) start_mid state_mid new untold
          (step_then Block true set_makes (step_write Block true formed call refl refl (inl refl)))
          set.goes_on.same_size set.goes_on.stood set.goes_on.size set.goes_on.same_lost set.goes_on.stays_touched;
    }
      where
        untold : old.tells ≡ false
        untold = not_told old.tells (λ told.
            let far = can.so_far told in
            plain_there start_mid state_mid far.writes path far.first mid.tree (set_holds told far.first far.writes far.holds) (set.there told)
            (ap (file_of mid.tree) (own_name path) ∙ missing (told_then told)))
