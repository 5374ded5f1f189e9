-- An undamaged level is whole and intact, so undamaged levels can be counted.
use Rattle.std.proofs.Common.{◌≡◌, ◌↔◌, ◌⊎◌, inl, inr, ⊎_elim, ℕ, zero, suc, ◌*◌, ◌<◌, ◌==◌, ◌&&◌, List, length, get_or, Bool, true, false, IsTrue, IfSome, None, Some, refl, sym, ap, ap₂, ◌∙◌, subst, arith}
use Rattle.std.specs.Prelude.{not, slice_index}
use Rattle.std.specs.List.{range_with_len}
use Rattle.std.proofs.lemmas.Bool.{cases_eq, cases_lt}
use Rattle.std.proofs.lemmas.Bool.Decides.{Decides-eqb}
use Rattle.std.proofs.lemmas.List.{get_or_past}
use Rattle.std.proofs.lemmas.List.Elements.{All-contains}
use Rattle.std.proofs.lemmas.List.Sums.{length-filter}
use Rattle.cauchy.specs.Matrix.{byte_of, parity_byte, parity_of as level_of}
use Rattle.disk_model.specs.Bytes.{read_from}
use Rattle.disk_model.specs.Files.{Files, parity_of}
use Rattle.file_table.specs.Table.{TableValue, info_at, is_synced_mark}
use Rattle.file_table.specs.declared.info.Mark.{Mark}
use Rattle.file_table.specs.declared.info.Mark.TheVariants.{Pending, Synced}
use Rattle.file_table.specs.declared.block.Cell.{Cell}
use Rattle.parity_writer.specs.LevelReading.{LevelReading, kept_level}
use Rattle.parity_writer.specs.LevelsValue.{LevelValue, no_level}
use Rattle.parity_writer.specs.Parity.{HasLevel, Row}
use Rattle.parity_writer.specs.Sound.{IsSynced, Sound, Closed, last_row}
use Rattle.parity_writer.specs.declared.levels.LevelRead.TheVariants as here
use Rattle.parity_writer.proofs.SumLemmas.{byte_of_level}
use Rattle.snap_fix.specs.Ending.{Finishes}
use Rattle.stripe_examiner.specs.Facts.{StripeFacts}
use Rattle.snap_fix.specs.Fixing.{facts_of}
use Rattle.snap_fix.specs.Genuine.{AreLevelsIn, IsIntactLevel, IsLevelOf, IsRestorableStripe, TellsIntactLevels}
use Rattle.stripe_examiner.specs.Known.{AreFacts, IsTried, is_whole, whole_level, whole_levels}
use Rattle.snap_fix.specs.Mended.{has_lost}
use Rattle.repair_scope.specs.Plan.{FixPlan, is_audit, is_searched, is_synced}
use Rattle.snap_fix.specs.Restored.{HoldsCell}
use Rattle.snap_top.specs.Fix.{FixRun}
use Rattle.snap_top.specs.Began.{IsFixOf}
use Rattle.snap_top.specs.Restoring.{Restores}
use Rattle.snap_top.specs.Entry.{Entry, Exit}
use Rattle.snap_top.specs.Undamaged.{IsRecoverable, IsUndamaged, is_read, was_read}
use Rattle.snap_top.proofs.OfFixLemmas.{levels_in}
use Rattle.snap_top.specs.Views.{folder_at}
use Rattle.snap_top.proofs.StoppingLemmas.{both_no_less}

-- what parity_writer says of a level that was read
abbrev pub WholeLevelsHold : Type 0
WholeLevelsHold = (block_size level stripe : ℕ) (row : Row) (file bytes : List ℕ) → bytes ≡ read_from file (stripe * block_size) block_size
    → HasLevel block_size level stripe row file ↔ (((kept_level block_size (Some bytes)).state ≡ here.Bytes) × ((kept_level block_size (Some bytes)).block ≡ level_of level block_size row))

synced_mark : (mark : Mark) → is_synced_mark mark ≡ true → mark ≡ Synced
synced_mark Pending is = absurd (let clash : false ≡ true = is in cc)
synced_mark Synced is = refl

synced_stripe : (plan : FixPlan) (facts : StripeFacts) → AreFacts plan facts → is_synced plan facts.stripe ≡ true → IsSynced plan.table facts.stripe
synced_stripe plan facts are synced = record {
  within = are.within;
  mark = synced_mark (info_at plan.table.infos facts.stripe).mark synced;
}

-- a fix searches each synced stripe
pub searched_by_fix : (before : Entry) (exit : Exit) (run : FixRun) → IsFixOf before exit run → (stripe : ℕ) → is_synced run.plan stripe ≡ true → is_searched run.plan stripe ≡ true
searched_by_fix before exit run is stripe synced =
    let parity : is_audit run.plan.scope.mode ≡ false = ap is_audit is.over.plan_is.scope.mode_is in
    ap₂ (λ (known audits : Bool). known && not audits) synced parity

-- where the file has the level, what is kept of it is whole, and its block is that level
kept_whole : WholeLevelsHold → (block_size stripe r : ℕ) (row : Row) (file : List ℕ) (reading : LevelReading) (level : LevelValue) → IfSome reading (λ (bytes : List ℕ). bytes ≡ read_from file (stripe * block_size) block_size)
    → level ≡ kept_level block_size reading → is_read level.state ≡ true → HasLevel block_size r stripe row file → (is_whole level.state ≡ true) × ((p : ℕ) → p < block_size → slice_index level.block p ≡ parity_byte r row p)
kept_whole holds block_size stripe r row file None level of kept read has = absurd (let clash : false ≡ true = ap (λ (it : LevelValue). is_read it.state) (sym kept) ∙ read in cc)
kept_whole holds block_size stripe r row file (Some bytes) level of kept read has =
    let whole = (holds block_size r stripe row file bytes of).0 has in (
      ap (λ (it : LevelValue). is_whole it.state) kept ∙ ap is_whole whole.0,
      λ p below. ap (λ (it : LevelValue). slice_index it.block p) kept ∙ ap (λ (block : List ℕ). slice_index block p) whole.1 ∙ byte_of_level r block_size row p below,
    )

pub undamaged_intact : WholeLevelsHold → (before : Entry) (exit : Exit) (run : FixRun) (snapshot : Closed) (is_changed : ℕ → ℕ → Bool) (facts : StripeFacts) (r : ℕ) → IsFixOf before exit run → IsTrue before.opener.vault.tells
    → Sound run.loaded before.opener.vault.files snapshot is_changed → IsUndamaged run is_changed facts r
    → (whole_level facts.levels r ≡ true) × IsIntactLevel run.plan facts (last_row snapshot facts.stripe) r
undamaged_intact holds before exit run snapshot is_changed facts r is tells sound unchanged =
    let over = is.over in
    let files : Files = before.opener.vault.files in
    let size : ℕ = run.plan.table.shape.block_size in
    let at = unchanged.one in
    let are : AreFacts run.plan facts = All-contains (AreFacts run.plan) (facts_of run.stripes) facts over.finds.are at in
    let in_files : AreLevelsIn size files (facts_of run.stripes) = levels_in size before.opener.vault (facts_of run.stripes) run.readings tells over.finds.levels in
    let level : IsLevelOf size facts.stripe r files (get_or facts.levels r no_level)
    = All-contains (λ (its : StripeFacts). (k : ℕ) → k < length its.levels → IsLevelOf size its.stripe k files (get_or its.levels k no_level)) (facts_of run.stripes) facts in_files at r unchanged.within in
    let tried : IsTried run.plan facts true = subst (IsTried run.plan facts) (searched_by_fix before exit run is facts.stripe unchanged.synced) are.tried in
    let below = unchanged.within in
    let levels : r < run.plan.table.shape.levels = omega (arith, below, tried.0) in
    let of_plan : Sound run.plan.table files snapshot is_changed = subst (λ (t : TableValue). Sound t files snapshot is_changed) (sym over.plan_is.table_is) sound in
    let has : HasLevel size r facts.stripe (last_row snapshot facts.stripe) (parity_of files r)
    = of_plan.sums facts.stripe r (synced_stripe run.plan facts are unchanged.synced) levels unchanged.unchanged in
    kept_whole holds size facts.stripe r (last_row snapshot facts.stripe) (parity_of files r) level.reading (get_or facts.levels r no_level) level.is_of level.is_kept unchanged.read has

-- ---- whether a level is intact, as a test

abbrev same_below : (ℕ → ℕ) → (ℕ → ℕ) → ℕ → Bool
same_below f g zero = true
same_below f g (suc n) = (f n == g n) && same_below f g n

and_both : (a b : Bool) → (a && b) ≡ true → (a ≡ true) × (b ≡ true)
and_both true b is = (refl, is)
and_both false b is = absurd (let clash : false ≡ true = is in cc)

both_and : (a b : Bool) → a ≡ true → b ≡ true → (a && b) ≡ true
both_and true b first second = second
both_and false b first second = absurd (let clash : false ≡ true = first in cc)

same_gives : (f g : ℕ → ℕ) (n : ℕ) → same_below f g n ≡ true → (p : ℕ) → p < n → f p ≡ g p
same_gives f g zero is p below = absurd (omega (arith, below))
same_gives f g (suc n) is p below =
    let both = and_both (f n == g n) (same_below f g n) is in
    ⊎_elim
    (λ same. ap f same ∙ (Decides-eqb (f n) (g n)).0 both.0 ∙ ap g (sym same))
    (λ less. same_gives f g n both.1 p less)
    (last_or_less p n below)
  where
    last_or_less : (a b : ℕ) → a < suc b → (a ≡ b) ⊎ (a < b)
    last_or_less a b under = elim (cases_eq a b) [
      | inl same ↦ inl same
      | inr apart ↦ inr (omega (arith, under, apart))
    ]

gives_same : (f g : ℕ → ℕ) (n : ℕ) → ((p : ℕ) → p < n → f p ≡ g p) → same_below f g n ≡ true
gives_same f g zero each = refl
gives_same f g (suc n) each = both_and (f n == g n) (same_below f g n) ((Decides-eqb (f n) (g n)).1 (each n (omega arith))) (gives_same f g n (λ p below. each p (omega (arith, below))))

module _ (plan : FixPlan) (facts : StripeFacts) (snapshot : Row) where
  abbrev block_at : ℕ → ℕ → ℕ
  block_at r p = slice_index (get_or facts.levels r no_level).block p

  abbrev is_intact : ℕ → Bool
  is_intact r = same_below (block_at r) (parity_byte r snapshot) plan.table.shape.block_size

  intact_is : (r : ℕ) → IsTrue (is_intact r) ↔ IsIntactLevel plan facts snapshot r
  intact_is r = (same_gives (block_at r) (parity_byte r snapshot) plan.table.shape.block_size, gives_same (block_at r) (parity_byte r snapshot) plan.table.shape.block_size)

  tells_intact : TellsIntactLevels plan facts snapshot is_intact
  tells_intact = λ k d below. intact_is (get_or (whole_levels facts.levels) k d)

-- ---- counting

not_true : (b : Bool) → not b ≡ true → b ≡ false
not_true true is = absurd (let clash : false ≡ true = is in cc)
not_true false is = refl

pub read_within : (levels : List LevelValue) (r : ℕ) → was_read levels r ≡ true → r < length levels
read_within levels r read = elim (cases_lt r (length levels)) [
  | inl within ↦ within
  | inr past ↦ absurd (let clash : false ≡ true = ap (λ (it : LevelValue). is_read it.state) (sym (get_or_past levels r no_level past)) ∙ read in cc)
]

pub restored_by_counting : WholeLevelsHold → (before : Entry) (exit : Exit) (run : FixRun) (finishes : Finishes) (snapshot : Closed) (is_changed : ℕ → ℕ → Bool) (facts : StripeFacts) (d : ℕ) (cell : Cell) → IsFixOf before exit run
    → IsTrue before.opener.vault.tells → Sound run.loaded before.opener.vault.files snapshot is_changed → Restores run finishes snapshot → IsRecoverable run snapshot is_changed facts d cell
    → HoldsCell run.plan.table d cell (has_lost run.plan run.stripes d cell.rec) (byte_of (last_row snapshot facts.stripe) d) (folder_at run.ended d).tree
restored_by_counting holds before exit run finishes snapshot is_changed facts d cell is tells sound restores can =
    let row : Row = last_row snapshot facts.stripe in
    let more : (r : ℕ) → was_read facts.levels r ≡ true → not (is_changed facts.stripe r) ≡ true → (whole_level facts.levels r ≡ true) × (is_intact run.plan facts row r ≡ true)
    = λ r read unchanged.
    let undamaged : IsUndamaged run is_changed facts r = record {
      one = can.is.one;
      synced = can.synced;
      within = read_within facts.levels r read;
      read = read;
      unchanged = not_true (is_changed facts.stripe r) unchanged;
    } in
    let both = undamaged_intact holds before exit run snapshot is_changed facts r is tells sound undamaged in
    (both.0, (intact_is run.plan facts row r).1 both.1) in
    let counted = both_no_less (was_read facts.levels) (λ (r : ℕ). not (is_changed facts.stripe r)) (whole_level facts.levels) (is_intact run.plan facts row) more (range_with_len 0 (length facts.levels)) in
    let as_many = length-filter (is_intact run.plan facts row) (whole_levels facts.levels) in
    let enough = can.enough in
    let restorable : IsRestorableStripe run.plan facts (is_intact run.plan facts row) = omega (arith, counted, as_many, enough) in
    restores.restored facts d cell (is_intact run.plan facts row)
    (record { is = can.is; synced = searched_by_fix before exit run is facts.stripe can.synced; bytes = can.bytes; tells = tells_intact run.plan facts row })
    can.free (record { sought = can.synced; had = inr restorable })
