-- Where no hash is met by chance, a level that a fix writes was changed from outside, and becomes the snapshot's again.
use Rattle.std.proofs.Common.{◌≡◌, ℕ, zero, suc, ◌+◌, ◌*◌, ◌<◌, List, [], ◌∷◌, length, get_or, Bool, true, false, Option, None, Some, IsTrue, refl, sym, ap, ◌∙◌, subst, inl, inr, arith}
use Rattle.std.specs.Prelude.{not, IfSome}
use Rattle.std.specs.List.{Contains}
use Rattle.std.proofs.lemmas.Bool.{and_parts, cases_lt, false≢true}
use Rattle.std.proofs.lemmas.List.{get_or_past}
use Rattle.std.proofs.lemmas.List.Elements.{All-contains}
use Rattle.std.proofs.lemmas.Slice.Eq.{bytes_eq-Decides}
use Rattle.cauchy.specs.Field.{product, sum_below}
use Rattle.cauchy.specs.Matrix.{byte_of, entry_of, parity_byte, parity_of as level_of}
use Rattle.disk_model.specs.Bytes.{read_from}
use Rattle.disk_model.specs.Files.{Files, parity_of}
use Rattle.disk_model.specs.Folder.{FolderView}
use Rattle.file_table.specs.Table.{TableValue}
use Rattle.parity_writer.specs.LevelReading.{LevelReading, kept_level}
use Rattle.parity_writer.specs.LevelsValue.{LevelValue, no_level}
use Rattle.parity_writer.specs.Parity.{HasLevel, Row}
use Rattle.parity_writer.specs.Sound.{Sound, Closed, last_row, across}
use Rattle.parity_writer.specs.declared.levels.LevelRead.{LevelRead}
use Rattle.parity_writer.specs.declared.levels.LevelRead.TheVariants as here
use Rattle.parity_writer.proofs.SumLemmas.{byte_of_level, length-level, level_of_bytes}
use Rattle.parity_writer.proofs.WholeLevelLemmas.{level_has}
use Rattle.parity_writer.proofs.WriteLemmas.{apart}
use Rattle.stripe_reader.specs.Columns.{folder_at}
use Rattle.stripe_reader.specs.Reading.{task_at}
use Rattle.stripe_reader.specs.Starts.{StartsValue}
use Rattle.stripe_examiner.specs.Facts.{StripeFacts, slot_of}
use Rattle.stripe_examiner.specs.Findings.{is_wrong_by, may_write_level}
use Rattle.stripe_examiner.specs.Present.{IsPresent}
use Rattle.snap_fix.specs.Genuine.{AreGenuineOf, HasGenuineFacts, IsLevelOf, IsGenuine, IsSameRow}
use Rattle.stripe_examiner.specs.Known.{AreFacts, IsTried}
use Rattle.snap_fix.specs.Mended.{is_wrong_level}
use Rattle.repair_scope.specs.Plan.{FixPlan, is_searched}
use Rattle.snap_fix.specs.Underway.{HoldsWrong, IsMendedLevel, KeepsLevels}
pub use Rattle.snap_fix.proofs.ExactLemmas.{searched_is_synced}
use Rattle.snap_fix.proofs.ExactLemmas.{RowOfCells, SameParity, exact, level_from_wide, level_of_wide}
use Rattle.snap_fix.proofs.GenuineLemmas.{row_same}
use Rattle.parity_writer.proofs.CellsLemmas.{cells_of}
use Rattle.stripe_examiner.proofs.RestorableSums.{sum_below-same}

-- ---- the same rows have the same levels

same_parity : (size level : ℕ) (one other : Row) (p : ℕ) → IsSameRow size one other → p < size → parity_byte level one p ≡ parity_byte level other p
unfolding parity_byte
same_parity size level one other p same less =
    ap (sum_below (λ c. product (entry_of level c) (byte_of one c p))) same.as_many
    ∙ sum_below-same (λ c. product (entry_of level c) (byte_of one c p)) (λ c. product (entry_of level c) (byte_of other c p)) (length other)
    (λ c within. ap (product (entry_of level c)) (same.bytes c p less))

same_level : (size level : ℕ) (one other : Row) → IsSameRow size one other → level_of level size one ≡ level_of level size other
same_level size level one other same =
    level_of_bytes level size other (level_of level size one) (length-level level size one)
    (λ i below. byte_of_level level size one i below ∙ same_parity size level one other i same below)

pub same_has_level : (size level stripe : ℕ) (one other : Row) (file : List ℕ) → IsSameRow size one other → HasLevel size level stripe one file → HasLevel size level stripe other file
same_has_level size level stripe one other file same has i below =
    let there = has i below in
    record { within = there.within; is = there.is ∙ same_parity size level one other i same below }

-- ---- when a level is wrong

wrong_row : (size r : ℕ) (state : LevelRead) (block : List ℕ) (row : Option Row) → is_wrong_by size r state block row ≡ true → (known : Row) × (row ≡ Some known)
wrong_row size r here.Unread block row wrong = absurd cc
wrong_row size r here.Short block None wrong = absurd cc
wrong_row size r here.Bytes block None wrong = absurd cc
wrong_row size r here.Short block (Some known) wrong = (known, refl)
wrong_row size r here.Bytes block (Some known) wrong = (known, refl)

-- one that holds the sum of the row is not
right_level : (files : Files) (size stripe r : ℕ) (reading : LevelReading) (level : LevelValue) (row snapshot : Row)
    → IfSome reading (λ (bytes : List ℕ). bytes ≡ read_from (parity_of files r) (stripe * size) size) → level ≡ kept_level size reading → IsSameRow size row snapshot
    → HasLevel size r stripe snapshot (parity_of files r) → is_wrong_by size r level.state level.block (Some row) ≡ false
right_level files size stripe r None level row snapshot of kept same has =
    ap (λ (it : LevelValue). is_wrong_by size r it.state it.block (Some row)) kept
right_level files size stripe r (Some bytes) level row snapshot of kept same has =
    let whole = (level_has size r stripe snapshot (parity_of files r) bytes of).0 has in
    let block : (kept_level size (Some bytes)).block ≡ level_of r size row = whole.1 ∙ sym (same_level size r row snapshot same) in
    ap (λ (it : LevelValue). is_wrong_by size r it.state it.block (Some row)) kept
    ∙ ap (λ (state : LevelRead). is_wrong_by size r state (kept_level size (Some bytes)).block (Some row)) whole.0
    ∙ ap not ((bytes_eq-Decides (kept_level size (Some bytes)).block (level_of r size row)).1 block)

-- one that was not read is not
wrong_within : (size r : ℕ) (levels : List LevelValue) (row : Option Row) → is_wrong_by size r (get_or levels r no_level).state (get_or levels r no_level).block row ≡ true
    → r < length levels
wrong_within size r levels row wrong = elim (cases_lt r (length levels)) [
  | inl within ↦ within
  | inr past ↦ absurd (false≢true (ap (λ (it : LevelValue). is_wrong_by size r it.state it.block row) (sym (get_or_past levels r no_level past)) ∙ wrong))
]

-- ---- a stripe of a plan

searched_or_none : (plan : FixPlan) (facts : StripeFacts) (row : Row) (b : Bool) → IsTried plan facts b → facts.row ≡ Some row → b ≡ true
searched_or_none plan facts row true tried known = refl
searched_or_none plan facts row false tried known = let clash : Some row ≡ None = sym known ∙ tried.2 in absurd cc

module _ (plan : FixPlan) (facts : StripeFacts) (are : AreFacts plan facts) where
  module _ (r : ℕ) (wrong : is_wrong_level plan facts r ≡ true) where
    abbrev size : ℕ
    size = plan.table.shape.block_size

    abbrev level : LevelValue
    level = get_or facts.levels r no_level

    pub wrong_by : is_wrong_by size r level.state level.block facts.row ≡ true
    wrong_by = (and_parts (may_write_level plan facts.stripe r) (is_wrong_by size r level.state level.block facts.row) wrong).1

    pub row_of_wrong : (known : Row) × (facts.row ≡ Some known)
    row_of_wrong = wrong_row size r level.state level.block facts.row wrong_by

    pub wrong_is_searched : is_searched plan facts.stripe ≡ true
    wrong_is_searched = searched_or_none plan facts row_of_wrong.0 (is_searched plan facts.stripe) are.tried row_of_wrong.1

    pub wrong_is_read : r < length facts.levels
    wrong_is_read = wrong_within size r facts.levels facts.row wrong_by

    pub wrong_is_level : r < plan.table.shape.levels
    wrong_is_level =
        let tried : IsTried plan facts true = subst (IsTried plan facts) wrong_is_searched are.tried in
        omega (arith, wrong_is_read, tried.0)

-- ---- a level that was written is the snapshot's

pub mended_level : RowOfCells → SameParity → (plan : FixPlan) (starts : StartsValue) (firsts : List FolderView) (snapshot : Row) (facts : StripeFacts) (left : Files) (r : ℕ)
    → ((a : ℕ) → product a 0 ≡ 0) → HasGenuineFacts plan starts firsts snapshot facts → HoldsWrong plan facts left → is_wrong_level plan facts r ≡ true
    → HasLevel plan.table.shape.block_size r facts.stripe snapshot (parity_of left r)
mended_level row_of same plan starts firsts snapshot facts left r nothing has holds wrong =
    let wide : Row = across (length plan.table.columns) snapshot in
    let known = row_of_wrong plan facts has.are r wrong in
    level_from_wide plan facts snapshot has.was same r facts.stripe (parity_of left r)
    (same_has_level plan.table.shape.block_size r facts.stripe known.0 wide (parity_of left r)
    (row_same plan starts firsts wide facts (exact row_of plan starts firsts snapshot facts has) nothing known.0 known.1) (holds r known.0 wrong known.1))

-- ---- stripes that were looked at where the vault was sound

module _ (plan : FixPlan) (starts : StartsValue) (firsts : List FolderView) (read : Files) (snapshot : Closed)
    (is_changed : ℕ → ℕ → Bool) (stripes : List StripeFacts) (are : AreGenuineOf plan starts firsts read snapshot is_changed stripes)
    (nothing : (a : ℕ) → product a 0 ≡ 0) (row_of : RowOfCells) (same_parity_of : SameParity) where
  abbrev PresentOf : StripeFacts → Type 0
  PresentOf it = (d : ℕ) → d < length plan.table.columns → IsPresent plan.table.shape (folder_at firsts d) (task_at plan.table starts d it.stripe) (slot_of it d)

  abbrev LevelsAre : StripeFacts → Type 0
  LevelsAre it = (r : ℕ) → r < length it.levels → IsLevelOf plan.table.shape.block_size it.stripe r read (get_or it.levels r no_level)

  facts_of_one : (facts : StripeFacts) → Contains stripes facts → AreFacts plan facts
  facts_of_one facts one = All-contains (AreFacts plan) stripes facts are.are one

  pub genuine_facts : (facts : StripeFacts) → Contains stripes facts → is_searched plan facts.stripe ≡ true → HasGenuineFacts plan starts firsts (last_row snapshot facts.stripe) facts
  genuine_facts facts one searched =
      let these = facts_of_one facts one in
      let synced = searched_is_synced plan facts these searched in
      record {
        valid = are.valid;
        are = these;
        searched = searched;
        present = λ k other within.
            let here : get_or stripes one.0 facts ≡ get_or (facts ∷ []) k other = one.2 ∙ only k other within in
            subst (λ (it : StripeFacts). PresentOf it) here (are.present one.0 facts one.1);
        was = cells_of plan.table read snapshot is_changed are.sound facts.stripe synced;
        genuine = All-contains (λ (it : StripeFacts). IsTrue (is_searched plan it.stripe) → IsGenuine plan (last_row snapshot it.stripe) it) stripes facts are.genuine one searched;
      }
    where
      only : (k : ℕ) (other : StripeFacts) → k < length (facts ∷ []) → facts ≡ get_or (facts ∷ []) k other
      only zero other within = refl
      only (suc k) other within = absurd (omega (arith, within))

  pub wrong_was_changed : (facts : StripeFacts) (r : ℕ) → Contains stripes facts → is_wrong_level plan facts r ≡ true → is_changed facts.stripe r ≡ true
  wrong_was_changed facts r one wrong = by_case (is_changed facts.stripe r) refl
    where
      these : AreFacts plan facts
      these = facts_of_one facts one

      searched : is_searched plan facts.stripe ≡ true
      searched = wrong_is_searched plan facts these r wrong

      by_case : (b : Bool) → is_changed facts.stripe r ≡ b → b ≡ true
      by_case true is = refl
      by_case false is =
          let known = row_of_wrong plan facts these r wrong in
          let within = wrong_is_read plan facts these r wrong in
          let has = genuine_facts facts one searched in
          let synced = searched_is_synced plan facts these searched in
          let wide : Row = across (length plan.table.columns) (last_row snapshot facts.stripe) in
          let level : IsLevelOf plan.table.shape.block_size facts.stripe r read (get_or facts.levels r no_level) =
          All-contains LevelsAre stripes facts are.levels one r within in
          let right = right_level read plan.table.shape.block_size facts.stripe r level.reading (get_or facts.levels r no_level) known.0 wide
          level.is_of level.is_kept
          (row_same plan starts firsts wide facts (exact row_of plan starts firsts (last_row snapshot facts.stripe) facts has) nothing known.0 known.1)
          (level_of_wide plan facts (last_row snapshot facts.stripe) has.was same_parity_of r facts.stripe (parity_of read r)
          (are.sound.sums facts.stripe r synced (wrong_is_level plan facts these r wrong) is)) in
          absurd (false≢true (sym right
          ∙ ap (is_wrong_by plan.table.shape.block_size r (get_or facts.levels r no_level).state (get_or facts.levels r no_level).block) (sym known.1)
          ∙ wrong_by plan facts these r wrong))

  -- so what is sound stays sound
  pub still_sound : (table : TableValue) (files left : Files) → table.shape.block_size ≡ plan.table.shape.block_size
      → KeepsLevels plan.table.shape.block_size (IsMendedLevel plan stripes) files left → Sound table files snapshot is_changed → Sound table left snapshot is_changed
  still_sound table files left same keeps sound = record {
    was_closed = sound.was_closed;
    rows = sound.rows;
    sums = λ stripe level synced below out.
        let size : ℕ = plan.table.shape.block_size in
        let was : HasLevel size level stripe (last_row snapshot stripe) (parity_of files level) =
        subst (λ (n : ℕ). HasLevel n level stripe (last_row snapshot stripe) (parity_of files level)) same (sound.sums stripe level synced below out) in
        subst (λ (n : ℕ). HasLevel n level stripe (last_row snapshot stripe) (parity_of left level)) (sym same)
        (λ i within. keeps.bytes level (stripe * size + i) _
        (λ one is_one. apart size size stripe one i refl (λ equal. not_mended stripe level one out is_one equal) within)
        (was i within));
  }
    where
      not_mended : (stripe level one : ℕ) → is_changed stripe level ≡ false → IsMendedLevel plan stripes level one → stripe ≡ one → ⊥
      not_mended stripe level one out is_one equal =
          let changed = wrong_was_changed is_one.0 level is_one.1 is_one.3 in
          false≢true (sym out ∙ ap (λ (n : ℕ). is_changed n level) (equal ∙ sym is_one.2) ∙ changed)
