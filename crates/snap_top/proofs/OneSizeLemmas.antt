-- All content files of a history are of arrays with blocks of one size.
use Rattle.std.proofs.Common.{◌≡◌, inl, inr, ⊎_elim, ℕ, ◌^◌, ◌<◌, ◌≤◌, List, [], ◌∷◌, ◌++◌, length, take, Bool, true, false, if◌then◌else◌, Option, None, Some, refl, sym, ap, ◌∙◌, subst, arith}
use Rattle.content_file.specs.Spelling.{IsContent, spelling, HoldsTable}
use Rattle.disk_model.specs.Files.{Files, content_of}
use Rattle.disk_model.specs.Folder.{FolderView}
use Rattle.disk_model.specs.Vault.{VaultView}
use Rattle.file_table.specs.Table.{TableValue}
use Rattle.file_table.specs.Valid.{IsValid}
use Rattle.file_table.specs.declared.shape.Shape.{Shape}
use Rattle.array_setup.specs.Setup.{SetupValue}
use Rattle.snap_scrub.specs.Course.{MayStandScrubbed}
use Rattle.snap_scrub.specs.Reading.{ScrubReading}
use Rattle.snap_sync.specs.Calls.{SyncPlan}
use Rattle.snap_sync.specs.Closing.{closed_by, with_closed}
use Rattle.snap_sync.specs.Images.{StandsBy, table_after}
use Rattle.snap_sync.specs.Part.{SyncRun}
use Rattle.stripe_findings.specs.Reading.{StripeReading, is_verified}
use Rattle.snap_sync.specs.Reading.{ReadsFirst}
use Rattle.snap_top.specs.Headline.{HaveOneSize}
use Rattle.snap_top.specs.LastSynced.{IsChange}
use Rattle.snap_top.specs.Scrub.{MayStandMarked, ScrubRun, ScrubsOver, marked_table}
use Rattle.snap_top.specs.Sync.{BeginsAmong, SyncsOver}
use Rattle.snap_top.proofs.OfScrubLemmas.{ScrubKeepsValid}
use Rattle.snap_top.proofs.SyncedLemmas.{OneTable}

-- what snap_sync says of the tables that it saves
abbrev pub SavesValidTables : Type 0
SavesValidTables = (plan : SyncPlan) (readings ahead : List StripeReading) (olds news : List FolderView) (count : ℕ) → length olds ≡ length plan.start.columns → ReadsFirst plan.start (readings ++ ahead) olds news
    → IsValid plan.start → plan.now < 2 ^ 64 → count ≤ length readings → IsValid (table_after plan readings count)

-- all have this size
abbrev pub HaveSize : ℕ → ℕ → Files → Type 0
HaveSize size copies files = (copy : ℕ) (table : TableValue) → copy < copies → IsValid table → HoldsTable table (content_of files copy) → table.shape.block_size ≡ size

pub one_of_size : (size copies : ℕ) (files : Files) → HaveSize size copies files → HaveOneSize copies files
one_of_size size copies files have one other table other_table within other_within valid other_valid is other_is =
    have one table within valid is ∙ sym (have other other_table other_within other_valid other_is)

-- that of the table that a run begins with
pub size_begun : (setup : SetupValue) (seed : List ℕ) (copies : ℕ) (files : Files) (loaded : TableValue) → IsValid loaded → BeginsAmong setup seed copies files loaded → HaveOneSize copies files
    → HaveSize loaded.shape.block_size copies files
size_begun setup seed copies files loaded valid (inl found) have copy table within is_valid is = have copy found.0 table loaded within found.1 is_valid valid is found.2
size_begun setup seed copies files loaded valid (inr none) have copy table within is_valid is =
    absurd (let clash : None ≡ Some (spelling table) = sym (none.0 copy within) ∙ is in cc)

-- ---- a sync keeps it

closed_shape : (start : TableValue) (now : ℕ) (readings : List StripeReading) (table : TableValue) → (closed_by start now readings table).shape ≡ table.shape
closed_shape start now [] table = refl
closed_shape start now (reading ∷ readings) table =
    closed_shape start now readings (if is_verified start reading then with_closed now reading table else table) ∙ by (is_verified start reading)
  where
    by : (b : Bool) → (if b then with_closed now reading table else table).shape ≡ table.shape
    by true = refl
    by false = refl

module _ (one_table : OneTable) where
  spelled_size : (size : ℕ) (table saved : TableValue) (content : Option (List ℕ)) → IsValid table → IsValid saved → saved.shape.block_size ≡ size → HoldsTable table content → HoldsTable saved content
      → table.shape.block_size ≡ size
  spelled_size size table saved content valid saved_valid is spells also =
      ap (λ (t : TableValue). t.shape.block_size) (one_table table saved content valid saved_valid spells also) ∙ is

  module _ (saves_valid : SavesValidTables) (run : SyncRun) (copies : ℕ) (old new : Files) (over : SyncsOver copies old run) where
    abbrev size : ℕ
    size = run.loaded.shape.block_size

    start_size : run.plan.start.shape.block_size ≡ size
    start_size = ap (λ (s : Shape). s.block_size) over.stands.keeps.shape

    saved_valid : (n : ℕ) → n ≤ length run.readings → IsValid (table_after run.plan run.readings n)
    saved_valid n within =
        saves_valid run.plan run.readings run.ahead run.listed run.ended n (over.listed.as_many ∙ over.listed.folders ∙ sym over.stands.keeps.columns) over.listed.reads over.stands.laid over.stands.in_time within

    saved_size : (n : ℕ) → (table_after run.plan run.readings n).shape.block_size ≡ size
    saved_size n = ap (λ (s : Shape). s.block_size) (closed_shape run.plan.start run.plan.now (take n run.readings) run.plan.start) ∙ start_size

    pub synced_size : HaveSize size copies old → (count : ℕ) → StandsBy run.plan run.readings count old new → HaveSize size copies new
    synced_size have count (inl (none, saves)) copy table within valid is = ⊎_elim
        (λ same. have copy table within valid (sym same ∙ is))
        (λ saved. spelled_size size table run.plan.start (content_of new copy) valid over.stands.laid start_size is saved)
        (saves.contents copy)
    synced_size have count (inr (c, work)) copy table within valid is = ⊎_elim
        (λ one. spelled_size size table (table_after run.plan run.readings c) (content_of new copy) valid (saved_valid c (omega (arith, work.order, work.within))) (saved_size c) is one)
        (λ other. spelled_size size table (table_after run.plan run.readings count) (content_of new copy) valid (saved_valid count work.within) (saved_size count) is other)
        (work.copies copy (omega (arith, within, over.copies_are)))

  -- ---- a scrub keeps it

  module _ (marks_valid : ScrubKeepsValid) (run : ScrubRun) (copies : ℕ) (old new : Files) (vault : VaultView) where
    pub scrubbed_size : ScrubsOver copies vault run → HaveSize run.loaded.shape.block_size copies old → MayStandMarked run old new → HaveSize run.loaded.shape.block_size copies new
    scrubbed_size over have stands = by run.readings refl
      where
        by : (readings : List ScrubReading) → run.readings ≡ readings → HaveSize run.loaded.shape.block_size copies new
        by [] none =
            let same : new ≡ old = subst (λ (rs : List ScrubReading). MayStandScrubbed (marked_table run) rs old new) none stands in
            subst (HaveSize run.loaded.shape.block_size copies) (sym same) have
        by (reading ∷ readings) some =
            let saves : MayStandScrubbed (marked_table run) (reading ∷ readings) old new = subst (λ (rs : List ScrubReading). MayStandScrubbed (marked_table run) rs old new) some stands in
            λ copy table within valid is. ⊎_elim
            (λ same. have copy table within valid (sym same ∙ is))
            (λ saved. spelled_size run.loaded.shape.block_size table (marked_table run) (content_of new copy) valid (marks_valid run.loaded run.way run.now run.readings over.stripes over.in_time over.valid) refl is saved)
            (saves.contents copy)

-- ---- a change from outside keeps it

pub changed_size : (copies copies_then : ℕ) (is_changed is_changed_then : ℕ → ℕ → Bool) (old new : Files) → IsChange copies copies_then is_changed is_changed_then old new → HaveOneSize copies old → HaveOneSize copies_then new
changed_size copies copies_then is_changed is_changed_then old new change have one other table other_table within other_within valid other_valid is other_is = ⊎_elim
    (λ same. ⊎_elim
    (λ other_same. have same.0 other_same.0 table other_table same.1 other_same.1 valid other_valid (sym same.2 ∙ is) (sym other_same.2 ∙ other_is))
    (λ none. absurd (none (spelling other_table) other_is (content other_table other_valid)))
    (change.contents other other_within))
    (λ none. absurd (none (spelling table) is (content table valid)))
    (change.contents one within)
  where
    content : (t : TableValue) → IsValid t → IsContent (spelling t)
    content t is_valid = record { table = t; valid = is_valid; spelled = refl }
