-- The file of a record of a table: it can be finished, and what was done to it.
use Rattle.std.proofs.Common.{◌≡◌, ◌≢◌, ◌⊎◌, inl, inr, ℕ, ◌==◌, List, [], Bool, true, false, not, ◌||◌, cond, Option, IsTrue, refl, sym, ◌∙◌, ap, subst}
use Rattle.disk_model.specs.Folder.{FolderView, FolderCall}
use Rattle.disk_model.specs.declared.fault.FileFault.{FileFault}
use Rattle.disk_model.specs.declared.fault.FileFault.TheVariants.{Missing, Failed}
use Rattle.disk_model.specs.declared.meta.Meta.{Meta}
use Rattle.disk_model.specs.declared.meta.Stamp.{Stamp}
use Rattle.file_table.specs.Table.{TableValue, record_at, no_column, no_record}
use Rattle.file_table.specs.Valid.{IsRecord, IsValid}
use Rattle.stripe_reader.specs.Starts.{StartsValue, starts_at, start_in}
use Rattle.stripe_reader.specs.declared.starts.Place.{Place}
use Rattle.stripe_reader.specs.declared.starts.Start.{Start}
use Rattle.file_restorer.specs.declared.finishing.Finish.{Finish}
use Rattle.file_restorer.specs.declared.finishing.Finish.TheVariants.{Kept, Renamed, Gone}
use Rattle.file_restorer.specs.declared.state.FileState.{FileState}
use Rattle.file_restorer.specs.Breaking.{StepFails}
use Rattle.file_restorer.specs.Finishing.{CanFinish, FinishesNot, FinishesRecord, IsFinishCall, IsWholeCall, finish_calls, finish_of, is_changed, is_stamped, lost_finish, same_stamp, stamped_finish, was_gone, whole_finish}
use Rattle.file_restorer.specs.FinishSteps.{BreaksBy, FinishesBy, IsReady}
use Rattle.file_restorer.specs.State.{StepMakes, stands, state_in}
use Rattle.file_restorer.proofs.FinishWholeLemmas.{stands_whole}

-- ---- where a call is due, the file is not kept as it is

stamped_some : (changed is_kept : Bool) → stamped_finish changed is_kept ≢ Kept
stamped_some true is_kept is = cc
stamped_some false true is = cc
stamped_some false false is = cc

changed_by : (touched standing same : Bool) → (standing ≡ false) ⊎ (same ≡ false) → (touched || not standing || not same) ≡ true
changed_by true standing same by = refl
changed_by false false same by = refl
changed_by false true false by = refl
changed_by false true true (inl is) = absurd cc
changed_by false true true (inr is) = absurd cc

or_true : (a b : Bool) → a ≡ true → (a || b) ≡ true
or_true true b is = refl
or_true false b is = absurd cc

module _ (path : List ℕ) (listed : Option Meta) (meta : Meta) (start : Start) (state : FileState) where
  due_by : (stands start.place state.touched ≡ false) ⊎ ((state.size == meta.size) ≡ false) → is_stamped meta listed start state ≡ true
  due_by by = or_true (is_changed meta start state) (not (same_stamp meta.stamp listed)) (changed_by state.touched (stands start.place state.touched) (state.size == meta.size) by)

  whole_due : (call : FolderCall) → IsWholeCall listed start state path meta call → is_stamped meta listed start state ≡ true
  whole_due call (inl back) = due_by (inl (ap (λ (place : Place). stands place state.touched) back.0))
  whole_due call (inr (inl made)) = due_by (inl made.0)
  whole_due call (inr (inr (inl sized))) = due_by (inr sized.0)
  whole_due call (inr (inr (inr stamped))) = stamped.0

  some_done : (keeps : Stamp → Bool) (lost : Bool) (call : FolderCall) → IsFinishCall lost listed start state path meta call
      → cond lost (lost_finish start state) (whole_finish meta listed start state keeps) ≢ Kept
  some_done keeps true call due kept = let clash : Renamed ≡ Kept = sym (ap (λ (b : Bool). cond b Renamed Kept) due.0) ∙ kept in cc
  some_done keeps false call due kept = stamped_some (is_changed meta start state) (keeps meta.stamp)
      (sym (ap (λ (b : Bool). cond b (stamped_finish (is_changed meta start state) (keeps meta.stamp)) Kept) (whole_due call due)) ∙ kept)

  not_kept : (keeps : Stamp → Bool) (call : FolderCall) → IsFinishCall state.lost listed start state path meta call → finish_of meta listed start state keeps ≢ Kept
  not_kept keeps call due = some_done keeps state.lost call due

-- what is to be done to a file is never that it is gone
pub none_gone : (meta : Meta) (listed : Option Meta) (start : Start) (state : FileState) (keeps : Stamp → Bool) → was_gone (finish_of meta listed start state keeps) ≡ false
none_gone meta listed start state keeps = by state.lost (stands start.place state.touched) (is_stamped meta listed start state) (is_changed meta start state) (keeps meta.stamp)
  where
    by : (lost standing stamped changed is_kept : Bool)
        → was_gone (cond lost (cond standing Renamed Kept) (cond stamped (stamped_finish changed is_kept) Kept)) ≡ false
    by true true stamped changed is_kept = refl
    by true false stamped changed is_kept = refl
    by false standing false changed is_kept = refl
    by false standing true true is_kept = refl
    by false standing true false true = refl
    by false standing true false false = refl

-- ---- of a table

-- this is the path of a record, its meta, its start and its state
pub record AreOf (table : TableValue) (d i : ℕ) (starts : StartsValue) (states : List (List FileState))
    (path : List ℕ) (meta : Meta) (start : Start) (state : FileState) : Type 0 where
  pub path_is : path ≡ (record_at table.columns d i).path
  pub meta_is : meta ≡ (record_at table.columns d i).meta
  pub start_is : start ≡ start_in (starts_at starts.columns d) i
  pub state_is : state ≡ state_in states d i

module _ (table : TableValue) (d i : ℕ) (listed : Option Meta) (starts : StartsValue) (states : List (List FileState)) (folder : FolderView)
    (can : CanFinish table d i listed starts states folder) where
  abbrev path_there : List ℕ
  path_there = (record_at table.columns d i).path

  abbrev meta_there : Meta
  meta_there = (record_at table.columns d i).meta

  abbrev start_there : Start
  start_there = start_in (starts_at starts.columns d) i

  abbrev state_there : FileState
  state_there = state_in states d i

  ready_there : IsValid table → IsReady path_there listed meta_there start_there state_there folder
  ready_there valid =
      let kept : IsRecord (record_at table.columns d i) = (valid.columns.each d no_column can.column).records i no_record can.rec in
      record {
        placed = record {
          is_path = kept.path;
          is_open = can.is_open;
          tree = λ told.
              let fits = can.fits told in
              record { is_tree = can.is_tree told; free = can.free told; plain = fits.plain; absent = fits.absent; lost = fits.lost; nowhere = fits.nowhere };
        };
        stamp = kept.meta.nanos;
        fits = can.fits;
      }

  module _ (path : List ℕ) (meta : Meta) (start : Start) (state : FileState) (are : AreOf table d i starts states path meta start state) where
    -- what holds of the one holds of the other
    there : (P : List ℕ → Meta → Start → FileState → Type 0) → P path meta start state → P path_there meta_there start_there state_there
    there P is =
        subst (λ (s : FileState). P path_there meta_there start_there s) are.state_is (subst (λ (s : Start). P path_there meta_there s state) are.start_is
        (subst (λ (m : Meta). P path_there m start state) are.meta_is (subst (λ (p : List ℕ). P p meta start state) are.path_is is)))

    here : (P : List ℕ → Meta → Start → FileState → Type 0) → P path_there meta_there start_there state_there → P path meta start state
    here P is =
        subst (λ (s : FileState). P path meta start s) (sym are.state_is) (subst (λ (s : Start). P path meta s state_there) (sym are.start_is)
        (subst (λ (m : Meta). P path m start_there state_there) (sym are.meta_is) (subst (λ (p : List ℕ). P p meta_there start_there state_there) (sym are.path_is) is)))

    -- its file can be finished
    pub is_ready : IsValid table → IsReady path listed meta start state folder
    is_ready valid = here (λ p m s t. IsReady p listed m s t folder) (ready_there valid)

    makes_there : (new : FolderView)
        → StepMakes (IsFinishCall state.lost listed start state path meta) (finish_calls state.lost listed start state path meta) true folder new
        → StepMakes (IsFinishCall state_there.lost listed start_there state_there path_there meta_there)
        (finish_calls state_there.lost listed start_there state_there path_there meta_there) true folder new
    makes_there new makes = there (λ p m s t. StepMakes (IsFinishCall t.lost listed s t p m) (finish_calls t.lost listed s t p m) true folder new) makes

    -- it was finished
    pub is_finished : (finish : Finish) (new : FolderView)
        → FinishesBy (finish_of meta listed start state folder.keeps) finish (IsFinishCall state.lost listed start state path meta)
        (finish_calls state.lost listed start state path meta) meta start state path folder new
        → FinishesRecord table d i listed finish starts states folder starts states new
    is_finished finish new by =
        let it = there (λ p m s t. FinishesBy (finish_of m listed s t folder.keeps) finish (IsFinishCall t.lost listed s t p m) (finish_calls t.lost listed s t p m) m s t p folder new) by in
        record {
          is = inl it.is;
          starts_fit = can.starts_fit;
          states_fit = can.states_fit;
          other_starts = λ k j other. refl;
          other_states = λ k j other. refl;
          makes = subst (λ (missing : Bool). StepMakes (IsFinishCall state_there.lost listed start_there state_there path_there meta_there)
              (finish_calls state_there.lost listed start_there state_there path_there meta_there) missing folder new)
              (sym (ap was_gone it.is ∙ none_gone meta_there listed start_there state_there folder.keeps)) it.makes;
          holds = it.holds;
          whole = λ told kept. stands_whole path_there listed meta_there start_there state_there folder.tree new.tree (can.fits told) folder.keeps finish kept it.is (it.holds told);
          others = it.others;
          wrote = λ there_is. it.wrote;
        }

    -- it was gone
    pub is_gone : (fault : FileFault) (new : FolderView) → fault ≡ Missing → BreaksBy fault (IsFinishCall state.lost listed start state path meta) (finish_calls state.lost listed start state path meta) folder new
        → FinishesRecord table d i listed Gone starts states folder starts states new
    is_gone fault new missing broke =
        let finds = subst (λ (f : FileFault). BreaksBy f (IsFinishCall state.lost listed start state path meta) (finish_calls state.lost listed start state path meta) folder new) missing broke in
        let not_told : IsTrue folder.tells → ⊥ = λ told. let clash : true ≡ false = sym told ∙ finds.untold in cc in
        record {
          is = inr (refl, finds.untold, there (λ p m s t. finish_of m listed s t folder.keeps ≢ Kept) (not_kept path listed meta start state folder.keeps finds.last.0 finds.last.1));
          starts_fit = can.starts_fit;
          states_fit = can.states_fit;
          other_starts = λ k j other. refl;
          other_states = λ k j other. refl;
          makes = makes_there new finds.makes;
          holds = λ told. absurd (not_told told);
          whole = λ told kept. absurd (not_told told);
          others = λ told. absurd (not_told told);
          wrote = λ there_is. absurd (let clash : true ≡ false = there_is in cc);
        }

    -- a call of it failed
    pub is_failed : (fault : FileFault) (new : FolderView) → fault ≡ Failed → BreaksBy fault (IsFinishCall state.lost listed start state path meta) (finish_calls state.lost listed start state path meta) folder new
        → FinishesNot table d i listed starts states folder new
    is_failed fault new failed broke =
        let fails = subst (λ (f : FileFault). BreaksBy f (IsFinishCall state.lost listed start state path meta) (finish_calls state.lost listed start state path meta) folder new) failed broke in
        there (λ p m s t. StepFails (IsFinishCall t.lost listed s t p m) (finish_calls t.lost listed s t p m) folder new) fails
