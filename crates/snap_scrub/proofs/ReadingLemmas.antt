-- The levels of stripes are read, and then those of others.
use Rattle.std.proofs.Common.{◌≡◌, ℕ, ◌+◌, ◌*◌, List, [], ◌∷◌, ◌++◌, get_or, IsTrue, None, Some, refl, sym, ap, ◌∙◌, subst, arith, append_assoc}
use Rattle.std.specs.Prelude.{sum_by}
use Rattle.std.specs.List.{flat_map}
use Rattle.std.proofs.lemmas.Grind.{flat_map-append}
use Rattle.std.proofs.lemmas.List.{append-nil}
use Rattle.std.proofs.lemmas.List.Elements.{All-nil, All-cons, All-append}
use Rattle.std.proofs.lemmas.List.Sums.{sum_by-append}
use Rattle.disk_model.specs.Bytes.{read_from}
use Rattle.disk_model.specs.Cause.{RoseBy}
use Rattle.disk_model.specs.Files.{Files, parity_of, Stays}
use Rattle.disk_model.specs.Vault.{VaultView, VaultDone, GoesOn, DraftsStay, IsUntouched}
use Rattle.disk_model.proofs.UntouchedLemmas.{changes_untouched, drafts_untouched, goes_on_untouched, rose_untouched, same_files, same_tells}
use Rattle.disk_model.proofs.VaultLemmas.{changes_start, stays_then}
use Rattle.disk_model.proofs.CountLemmas.{counts_none, writes_then}
use Rattle.file_table.specs.Table.{TableValue}
use Rattle.parity_writer.specs.LevelReading.{LevelReading, IsReadingOf, ReadsLevels, calls_of}
use Rattle.parity_writer.specs.LevelsValue.{LevelValue}
use Rattle.stripe_findings.specs.Reading.{StripeReading}
use Rattle.snap_scrub.specs.Reading.{ScrubReading, AreLevelsOf, LevelsAreRead, level_calls, unread_levels}

drafts_then : (old mid new : VaultView) → mid.tells ≡ old.tells → DraftsStay old mid → DraftsStay mid new → DraftsStay old new
drafts_then old mid new tells one two = record { state = two.state ∙ one.state; bytes = λ told. two.bytes (tells ∙ told) ∙ one.bytes told }

pub vault_goes_on : (old mid new : VaultView) (first back : List VaultDone) → GoesOn old mid first → GoesOn mid new back → GoesOn old new (first ++ back)
vault_goes_on old mid new first back one two = record {
  later = omega (arith, one.later, two.later);
  writes = writes_then first back old.writes mid.writes new.writes one.writes two.writes;
  levels = two.levels ∙ one.levels;
  copies = two.copies ∙ one.copies;
  tells = two.tells ∙ one.tells;
  calls = record {
    told = λ t. one.calls.told (two.calls.told t);
    more = λ t. two.calls.more t ∙ ap (λ (calls : List VaultDone). calls ++ back) (one.calls.more (two.calls.told t)) ∙ append_assoc old.calls first back;
  };
}

-- what a level gives later, it gives before, since the files stay
reading_before : (size stripe level : ℕ) (reading : LevelReading) (old mid : VaultView) → mid.tells ≡ old.tells → (IsTrue old.tells → mid.files ≡ old.files) → IsReadingOf mid size stripe level reading → IsReadingOf old size stripe level reading
reading_before size stripe level None old mid tells stays read = tt
reading_before size stripe level (Some bytes) old mid tells stays (few, is) =
    (few, λ told. is (tells ∙ told) ∙ ap (λ (files : Files). read_from (parity_of files level) (stripe * size) size) (stays told))

rose_then : (n m before mid after : ℕ) → RoseBy n before mid → RoseBy m mid after → RoseBy (n + m) before after
rose_then n m before mid after one two = omega (arith, one, two)

-- before any stripe
pub levels_none : (table : TableValue) (v : VaultView) → LevelsAreRead table [] v v
levels_none table v = record {
  are = All-nil (AreLevelsOf v table.shape.block_size);
  unread = omega arith;
  goes_on = record { later = omega arith; writes = counts_none v.writes; levels = refl; copies = refl; tells = refl; calls = record { told = λ t. t; more = λ t. sym (append-nil v.calls) } };
  changes = changes_start Stays v (λ files. refl);
  drafts = record { state = refl; bytes = λ told. refl };
}

-- some, and then others
pub levels_then : (table : TableValue) (xs ys : List ScrubReading) (old mid new : VaultView) → LevelsAreRead table xs old mid → LevelsAreRead table ys mid new → LevelsAreRead table (xs ++ ys) old new
levels_then table xs ys old mid new one two =
    let size = table.shape.block_size in
    let tells : mid.tells ≡ old.tells = one.goes_on.tells in
    let counted : sum_by unread_levels (xs ++ ys) ≡ sum_by unread_levels xs + sum_by unread_levels ys = sum_by-append unread_levels xs ys in
    record {
      are = All-append (AreLevelsOf old size) xs ys one.are (λ k d within r below. reading_before size _ r _ old mid tells one.changes.reads (two.are k d within r below));
      unread = subst (λ (n : ℕ). RoseBy n old.faults new.faults) (sym counted) (rose_then (sum_by unread_levels xs) (sum_by unread_levels ys) old.faults mid.faults new.faults one.unread two.unread);
      goes_on = subst (GoesOn old new) (sym (flat_map-append (level_calls size) xs ys))
          (vault_goes_on old mid new (flat_map (level_calls size) xs) (flat_map (level_calls size) ys) one.goes_on two.goes_on);
      changes = stays_then Stays old mid new tells one.changes two.changes (λ files. refl);
      drafts = drafts_then old mid new tells one.drafts two.drafts;
    }

-- and of a vault that was untouched before
pub levels_untouched : (table : TableValue) (readings : List ScrubReading) (old mid new : VaultView) → IsUntouched old mid → LevelsAreRead table readings mid new → LevelsAreRead table readings old new
levels_untouched table readings old mid new same read = record {
  are = λ k d within r below. reading_before table.shape.block_size _ r _ old mid (same_tells old mid same) (λ told. same_files old mid same) (read.are k d within r below);
  unread = rose_untouched (sum_by unread_levels readings) old mid new same read.unread;
  goes_on = goes_on_untouched old mid new (flat_map (level_calls table.shape.block_size) readings) same read.goes_on;
  changes = changes_untouched Stays old mid new same read.changes;
  drafts = drafts_untouched old mid new same read.drafts;
}

-- none of a vault that stays untouched
pub levels_left : (table : TableValue) (old new : VaultView) → IsUntouched old new → LevelsAreRead table [] old new
levels_left table old new same = levels_untouched table [] old new new same (levels_none table new)

-- some, of a vault that is untouched before them and behind them
pub levels_between : (table : TableValue) (readings : List ScrubReading) (old mid turned new : VaultView) → IsUntouched old mid → IsUntouched turned new → LevelsAreRead table readings mid turned → LevelsAreRead table readings old new
levels_between table readings old mid turned new before behind read =
    levels_untouched table readings old mid new before
    (subst (λ (all : List ScrubReading). LevelsAreRead table all mid new) (append-nil readings) (levels_then table readings [] mid turned new read (levels_left table turned new behind)))

-- a stripe whose levels are not read
pub levels_unread : (table : TableValue) (cells : StripeReading) (v : VaultView) → LevelsAreRead table ((let it : ScrubReading = record { cells = cells; levels = [] } in it) ∷ []) v v
levels_unread table cells v =
    let reading : ScrubReading = record { cells = cells; levels = [] } in
    let none = levels_none table v in
    record {
      are = All-cons (AreLevelsOf v table.shape.block_size) reading [] (λ r below. absurd (omega (arith, below))) (All-nil (AreLevelsOf v table.shape.block_size));
      unread = omega arith;
      goes_on = none.goes_on;
      changes = none.changes;
      drafts = none.drafts;
    }

-- a stripe whose levels were read
pub levels_read : (table : TableValue) (cells : StripeReading) (size stripe count : ℕ) (values : List LevelValue) (old new : VaultView) (reads : ReadsLevels size stripe count values old new) → size ≡ table.shape.block_size → stripe ≡ cells.stripe
    → LevelsAreRead table ((let it : ScrubReading = record { cells = cells; levels = reads.readings } in it) ∷ []) old new
levels_read table cells size stripe count values old new reads size_is stripe_is =
    let reading : ScrubReading = record { cells = cells; levels = reads.readings } in
    let are : AreLevelsOf old size reading = λ r below. subst (λ (n : ℕ). IsReadingOf old size n r (get_or reads.readings r None)) stripe_is (reads.are_of r (omega (arith, below, reads.as_many))) in
    record {
      are = All-cons (AreLevelsOf old table.shape.block_size) reading [] (subst (λ (n : ℕ). AreLevelsOf old n reading) size_is are) (All-nil (AreLevelsOf old table.shape.block_size));
      unread = omega (arith, reads.unread);
      goes_on = subst (λ (n : ℕ). GoesOn old new (flat_map (level_calls n) (reading ∷ []))) size_is
          (subst (GoesOn old new) (sym (append-nil (level_calls size reading)))
          (subst (λ (n : ℕ). GoesOn old new (calls_of size n reads.readings)) stripe_is reads.goes_on));
      changes = reads.changes;
      drafts = reads.drafts;
    }
