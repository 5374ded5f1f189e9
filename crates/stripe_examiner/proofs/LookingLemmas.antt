-- Stripes that are looked at, and then others.
use Rattle.std.proofs.Common.{◌≡◌, ℕ, ◌+◌, ◌*◌, List, [], ◌∷◌, ◌++◌, get_or, Bool, false, ◌||◌, IsTrue, None, Some, refl, sym, ap, ap₂, ◌∙◌, subst, arith, append_assoc}
use Rattle.std.specs.List.{count_by}
use Rattle.std.proofs.lemmas.Grind.{flat_map-append}
use Rattle.std.proofs.lemmas.List.{append-nil}
use Rattle.std.proofs.lemmas.List.Elements.{All-nil, All-append}
use Rattle.std.proofs.lemmas.List.Folds.{list_any-append}
use Rattle.std.proofs.lemmas.List.Sums.{sum_by-append}
use Rattle.disk_model.specs.Bytes.{read_from}
use Rattle.disk_model.specs.Cause.{RoseBy}
use Rattle.disk_model.specs.Files.{Files, parity_of, Stays}
use Rattle.disk_model.specs.Sink.{SinkView}
use Rattle.disk_model.specs.Vault.{VaultView, VaultDone, GoesOn, DraftsStay, IsUnwritten, writes_vault, any_write}
use Rattle.disk_model.proofs.VaultLemmas.{changes_start, stays_then}
use Rattle.disk_model.proofs.CountLemmas.{counts_none, counts_stay, writes_then}
use Rattle.parity_writer.specs.LevelReading.{LevelReading, IsReadingOf, has_failed, calls_of}
use Rattle.parity_writer.proofs.LevelReadingLemmas.{calls_only_read}
use Rattle.snap_report.specs.Report.{ReportView}
use Rattle.snap_report.specs.declared.events.Event.{Event}
use Rattle.snap_report.proofs.ToldLemmas.{told_then, told_nothing}
use Rattle.stripe_examiner.specs.declared.counts.Counts.{Counts}
use Rattle.stripe_examiner.specs.Counts.{AreCounts}
use Rattle.stripe_examiner.specs.Facts.{StripeFacts}
use Rattle.stripe_examiner.specs.Findings.{events_of, stripe_events}
use Rattle.stripe_examiner.specs.Known.{AreFacts}
use Rattle.stripe_examiner.specs.Looking.{AreAllLevelsOf, level_reads, unread_in, LevelsAreRead, Scene, LooksAt}
use Rattle.repair_scope.specs.Plan.{FixPlan}
use Rattle.stripe_examiner.proofs.AskingLemmas.{spare_none, spare_then}

-- ---- the vault

drafts_then : (old mid new : VaultView) → mid.tells ≡ old.tells → DraftsStay old mid → DraftsStay mid new → DraftsStay old new
drafts_then old mid new tells one two = record { state = two.state ∙ one.state; bytes = λ told. two.bytes (tells ∙ told) ∙ one.bytes told }

pub vault_goes_on : (old mid new : VaultView) (first back : List VaultDone) → GoesOn old mid first → GoesOn mid new back → GoesOn old new (first ++ back)
vault_goes_on old mid new first back one two = record {
  later = omega (arith, one.later, two.later);
  writes = writes_then first back old.writes mid.writes new.writes one.writes two.writes;
  levels = two.levels ∙ one.levels;
  copies = two.copies ∙ one.copies;
  tells = two.tells ∙ one.tells;
  calls = record {
    told = λ t. one.calls.told (two.calls.told t);
    more = λ t. two.calls.more t ∙ ap (λ (calls : List VaultDone). calls ++ back) (one.calls.more (two.calls.told t)) ∙ append_assoc old.calls first back;
  };
}

-- what a level gives later, it gives before, since the files stay
reading_before : (size stripe level : ℕ) (reading : LevelReading) (old mid : VaultView) → mid.tells ≡ old.tells → (IsTrue old.tells → mid.files ≡ old.files) → IsReadingOf mid size stripe level reading → IsReadingOf old size stripe level reading
reading_before size stripe level None old mid tells stays read = tt
reading_before size stripe level (Some bytes) old mid tells stays (few, is) =
    (few, λ told. is (tells ∙ told) ∙ ap (λ (files : Files). read_from (parity_of files level) (stripe * size) size) (stays told))

module _ (size : ℕ) (old mid : VaultView) (tells : mid.tells ≡ old.tells) (stays : IsTrue old.tells → mid.files ≡ old.files) where
  pub levels_before : (stripes : List StripeFacts) (readings : List (List LevelReading)) → AreAllLevelsOf size mid stripes readings → AreAllLevelsOf size old stripes readings
  levels_before [] [] are = tt
  levels_before [] (of ∷ readings) are = absurd are
  levels_before (facts ∷ stripes) [] are = absurd are
  levels_before (facts ∷ stripes) (of ∷ readings) (first, rest) = (
    record {
      as_many = first.as_many;
      are_kept = first.are_kept;
      are_of = λ r below. reading_before size facts.stripe r (get_or of r None) old mid tells stays (first.are_of r below);
    },
    levels_before stripes readings rest,
  )

levels_append : (size : ℕ) (v : VaultView) (xs ys : List StripeFacts) (rs ss : List (List LevelReading)) → AreAllLevelsOf size v xs rs → AreAllLevelsOf size v ys ss → AreAllLevelsOf size v (xs ++ ys) (rs ++ ss)
levels_append size v [] ys [] ss one two = two
levels_append size v [] ys (of ∷ rs) ss one two = absurd one
levels_append size v (facts ∷ xs) ys [] ss one two = absurd one
levels_append size v (facts ∷ xs) ys (of ∷ rs) ss (first, rest) two = (first, levels_append size v xs ys rs ss rest two)

reads_append : (size : ℕ) (v : VaultView) (xs ys : List StripeFacts) (rs ss : List (List LevelReading)) → AreAllLevelsOf size v xs rs → level_reads size (xs ++ ys) (rs ++ ss) ≡ level_reads size xs rs ++ level_reads size ys ss
reads_append size v [] ys [] ss one = refl
reads_append size v [] ys (of ∷ rs) ss one = absurd one
reads_append size v (facts ∷ xs) ys [] ss one = absurd one
reads_append size v (facts ∷ xs) ys (of ∷ rs) ss (first, rest) =
    ap (λ (calls : List VaultDone). calls_of size facts.stripe of ++ calls) (reads_append size v xs ys rs ss rest)
    ∙ sym (append_assoc (calls_of size facts.stripe of) (level_reads size xs rs) (level_reads size ys ss))

pub rose_then : (n m before mid after : ℕ) → RoseBy n before mid → RoseBy m mid after → RoseBy (n + m) before after
rose_then n m before mid after one two = omega (arith, one, two)

-- none of the calls for levels writes
only_reads : (size : ℕ) (stripes : List StripeFacts) (readings : List (List LevelReading)) → any_write (level_reads size stripes readings) ≡ false
only_reads size [] readings = refl
only_reads size (facts ∷ stripes) [] = refl
only_reads size (facts ∷ stripes) (of ∷ readings) =
    list_any-append (λ (done : VaultDone). writes_vault done.call) (calls_of size facts.stripe of) (level_reads size stripes readings)
    ∙ ap₂ (λ (a b : Bool). a || b) (calls_only_read size facts.stripe of) (only_reads size stripes readings)

pub levels_unwritten : (plan : FixPlan) (stripes : List StripeFacts) (old new : VaultView) → LevelsAreRead plan stripes old new → IsUnwritten old new
levels_unwritten plan stripes old new read = counts_stay old.writes new.writes (only_reads plan.table.shape.block_size stripes read.readings) read.goes_on.writes

pub levels_none : (plan : FixPlan) (v : VaultView) → LevelsAreRead plan [] v v
levels_none plan v = record {
  readings = [];
  are = tt;
  unread = omega arith;
  goes_on = record { later = omega arith; writes = counts_none v.writes; levels = refl; copies = refl; tells = refl; calls = record { told = λ t. t; more = λ t. sym (append-nil v.calls) } };
  changes = changes_start Stays v (λ files. refl);
  drafts = record { state = refl; bytes = λ told. refl };
}

pub levels_then : (plan : FixPlan) (xs ys : List StripeFacts) (old mid new : VaultView) → LevelsAreRead plan xs old mid → LevelsAreRead plan ys mid new → LevelsAreRead plan (xs ++ ys) old new
levels_then plan xs ys old mid new one two =
    let size = plan.table.shape.block_size in
    let tells : mid.tells ≡ old.tells = one.goes_on.tells in
    let counted : unread_in (one.readings ++ two.readings) ≡ unread_in one.readings + unread_in two.readings = sum_by-append (count_by has_failed) one.readings two.readings in
    record {
      readings = one.readings ++ two.readings;
      are = levels_append size old xs ys one.readings two.readings one.are (levels_before size old mid tells one.changes.reads ys two.readings two.are);
      unread = subst (λ (n : ℕ). RoseBy n old.faults new.faults) (sym counted) (rose_then (unread_in one.readings) (unread_in two.readings) old.faults mid.faults new.faults one.unread two.unread);
      goes_on = subst (GoesOn old new) (sym (reads_append size old xs ys one.readings two.readings one.are))
          (vault_goes_on old mid new (level_reads size xs one.readings) (level_reads size ys two.readings) one.goes_on two.goes_on);
      changes = stays_then Stays old mid new tells one.changes two.changes (λ files. refl);
      drafts = drafts_then old mid new tells one.drafts two.drafts;
    }

-- ---- all that is looked at

module _ {W R : Type 0} (view : W → SinkView) (standing : R → ReportView) (stands : R → List Event → Type 0) (plan : FixPlan) where
  pub looks_none : (counts : Counts) (s : Scene W R) → AreCounts [] counts → LooksAt view standing stands plan [] counts s s
  looks_none counts s none = record {
    are = All-nil (AreFacts plan);
    levels = levels_none plan s.vault;
    spare = spare_none plan s.spare;
    told = told_nothing view standing stands plan.table.columns s.lines s.reports;
    counts_are = none;
  }

  pub looks_then : (xs ys : List StripeFacts) (one two both : Counts) (old mid new : Scene W R)
      → ((events others : List Event) → AreCounts events one → AreCounts others two → AreCounts (events ++ others) both)
      → LooksAt view standing stands plan xs one old mid → LooksAt view standing stands plan ys two mid new → LooksAt view standing stands plan (xs ++ ys) both old new
  looks_then xs ys one two both old mid new and first back =
      let events : events_of plan (xs ++ ys) ≡ events_of plan xs ++ events_of plan ys = flat_map-append (stripe_events plan) xs ys in
      record {
        are = All-append (AreFacts plan) xs ys first.are back.are;
        levels = levels_then plan xs ys old.vault mid.vault new.vault first.levels back.levels;
        spare = spare_then plan xs ys old.spare mid.spare new.spare first.spare back.spare;
        told = rw (events) (told_then view standing stands plan.table.columns (events_of plan xs) (events_of plan ys) old.lines mid.lines new.lines old.reports mid.reports new.reports first.told back.told);
        counts_are = rw (events) (and (events_of plan xs) (events_of plan ys) first.counts_are back.counts_are);
      }
