-- What a scrub did to the vault: it read levels, and then the table was saved, or not.
use Rattle.std.proofs.Common.{◌≡◌, ◌≢◌, ℕ, ◌+◌, List, [], ◌∷◌, ◌++◌, get_or, Bool, true, false, inl, refl, sym, ap, ◌∙◌, subst, arith}
use Rattle.std.specs.Prelude.{sum_by, is_err, Result, Ok, Err, IsOk, OnOk}
use Rattle.std.specs.List.{flat_map}
use Rattle.std.proofs.lemmas.List.{append-nil}
use Rattle.content_file.specs.Save.{MaySave, HasNoDraft, piecewise_calls, piece_size}
use Rattle.content_file.specs.Spelling.{spelling}
use Rattle.disk_model.specs.Cause.{RoseBy}
use Rattle.disk_model.specs.Files.{Files}
use Rattle.disk_model.specs.Ran.{RanLog, log_of}
use Rattle.disk_model.specs.Vault.{VaultView, state_of}
use Rattle.disk_model.specs.declared.draft.Draft.{Draft}
use Rattle.disk_model.specs.declared.draft.Draft.TheVariants.{Absent}
use Rattle.disk_model.specs.declared.fault.Failed.{Failed}
use Rattle.disk_model.proofs.CountLemmas.{counts_stay}
use Rattle.disk_model.proofs.VaultLemmas.{stays_then}
use Rattle.file_table.specs.Table.{TableValue}
use Rattle.snap_scrub.specs.Course.{TouchesVault}
use Rattle.stripe_findings.specs.Reading.{stripes_of}
use Rattle.snap_scrub.specs.Reading.{ScrubReading, LevelsAreRead, cells_of, level_calls, unread_levels}
use Rattle.snap_scrub.specs.Saving.{Saves}
use Rattle.snap_scrub.proofs.ReadingLemmas.{vault_goes_on}

-- nothing is saved
may_same : (bytes : List ℕ) (files : Files) → MaySave bytes files files
may_same bytes files = record { parities = refl; contents = λ copy. inl refl }

no_draft_still : (old mid : VaultView) → mid.drafts ≡ old.drafts → HasNoDraft old → HasNoDraft mid
no_draft_still old mid same none copy = ap (λ (drafts : List Draft). get_or drafts copy Absent) same ∙ none copy

-- the table was saved, up to the first call that failed
touches_saved : {T : Type 0} (table after : TableValue) (reading : ScrubReading) (readings : List ScrubReading) (old mid new : VaultView) (result : Result T Failed)
    → LevelsAreRead table (reading ∷ readings) old mid → Saves after result mid new → TouchesVault table after (reading ∷ readings) (is_err result) old new
touches_saved table after reading readings old mid new result levels saves = record {
  calls = record {
    done = flat_map (level_calls table.shape.block_size) (reading ∷ readings) ++ saves.calls.done;
    goes_on = vault_goes_on old mid new _ saves.calls.done levels.goes_on saves.calls.goes_on;
  };
  are = levels.are;
  read = log_of (state_of mid);
  unread = levels.unread;
  made = levels.goes_on.calls;
  ran = subst (λ (n : ℕ). RanLog (piecewise_calls piece_size n (spelling after)) (is_err result) (log_of (state_of mid)) (log_of (state_of new))) levels.goes_on.copies saves.ran;
  changes = stays_then (MaySave (spelling after)) old mid new levels.goes_on.tells levels.changes saves.changes (may_same (spelling after));
  drafts = λ none. saves.drafts (no_draft_still old mid levels.drafts.state none);
  rests = λ same. let clash : reading ∷ readings ≡ [] = same in cc;
  unwritten = λ same. let clash : reading ∷ readings ≡ [] = same in cc;
}

-- no stripe was read, and nothing was saved
touches_rested : (table after : TableValue) (old mid : VaultView) → LevelsAreRead table [] old mid → TouchesVault table after [] false old mid
touches_rested table after old mid levels = record {
  calls = record { done = []; goes_on = levels.goes_on };
  are = levels.are;
  read = log_of (state_of mid);
  unread = levels.unread;
  made = levels.goes_on.calls;
  ran = record { later = omega arith; done = []; are = refl; grown = record { told = λ t. t; more = λ t. sym (append-nil mid.calls) } };
  changes = levels.changes;
  drafts = λ none. no_draft_still old mid levels.drafts.state none;
  rests = λ same. levels.drafts;
  unwritten = λ same. counts_stay old.writes mid.writes refl levels.goes_on.writes;
}

not_err : {T E : Type 0} (result : Result T E) → IsOk result → is_err result ≡ false
not_err (Ok x) is = refl
not_err (Err e) is = absurd cc

pub ok_has : {T E P : Type 0} (result : Result T E) → is_err result ≡ false → OnOk result P → P
ok_has (Ok x) is p = p
ok_has (Err e) is p = absurd cc

-- whether a stripe was read or not
pub touch_by : {V T : Type 0} (view : V → VaultView) (table after : TableValue) (readings : List ScrubReading) (stripes : List ℕ) (saved : Result T Failed) (old : VaultView) (mid new : V)
    → stripes ≡ stripes_of (cells_of readings) → LevelsAreRead table readings old (view mid) → (stripes ≡ [] → IsOk saved × (new ≡ mid)) → (stripes ≢ [] → Saves after saved (view mid) (view new))
    → TouchesVault table after readings (is_err saved) old (view new)
touch_by {V} view table after [] stripes saved old mid new is levels rests saves =
    let rest = rests is in
    subst (λ (v : V). TouchesVault table after [] (is_err saved) old (view v)) (sym rest.1)
    (subst (λ (b : Bool). TouchesVault table after [] b old (view mid)) (sym (not_err saved rest.0)) (touches_rested table after old (view mid) levels))
touch_by view table after (reading ∷ readings) stripes saved old mid new is levels rests saves =
    touches_saved table after reading readings old (view mid) (view new) saved levels
    (saves (λ none. let clash : stripes_of (cells_of (reading ∷ readings)) ≡ [] = sym is ∙ none in cc))

-- stripes were read where readings are there
pub some_stripes : (readings : List ScrubReading) (stripes : List ℕ) → stripes ≡ stripes_of (cells_of readings) → readings ≢ [] → stripes ≢ []
some_stripes [] stripes is some none = some refl
some_stripes (reading ∷ readings) stripes is some none = let clash : stripes_of (cells_of (reading ∷ readings)) ≡ [] = sym is ∙ none in cc

-- where a call that saves failed, the vault failed once more than levels were not read
pub rose_once_more : (table after : TableValue) (readings : List ScrubReading) (old new : VaultView) → TouchesVault table after readings true old new → RoseBy (sum_by unread_levels readings + 1) old.faults new.faults
rose_once_more table after readings old new touches = omega (arith, touches.unread, touches.ran.rose)
